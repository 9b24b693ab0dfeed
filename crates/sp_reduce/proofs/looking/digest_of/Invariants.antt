use Rattle.std.proofs.Common.{◌≡◌, drop}
use Rattle.sp_reduce.specs.RowDigests.{digest_from, digest_of}
use Rattle.sp_reduce.proofs.looking.digest_of.Given as goal

-- the words that are left come to the digest of all
abbrev pub invariant-words : goal.invariant-words
invariant-words l = digest_from l.digest (drop l.word-index l.words) ≡ digest_of l.words
