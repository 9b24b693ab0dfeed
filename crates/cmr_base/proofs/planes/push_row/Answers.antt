use Rattle.std.proofs.Common.{◌∙◌, ◌≡◌, ◌<◌, ◌++◌, ◌∷◌, [], ◌+◌, ◌-◌, ◌*◌, ap, sym, take, drop, List, ℕ, ℤ, Bool, arith, append_assoc}
use Rattle.cmr_base.specs.Matrix.{is_nonzero}
use Rattle.cmr_base.specs.Planes.{bits_of, is_minus, words_of}
use Rattle.cmr_base.proofs.PlaneWords.{take_capped, words_of_more}
use Rattle.cmr_base.proofs.planes.push_row.Goals as goal

-- one more word in one plane
one_more : (test : ℤ → Bool) (prefix later whole : List ℕ) (row : List ℤ) (words word value : ℕ) → word < words
    → later ≡ prefix ++ value ∷ [] → value ≡ bits_of test (take 64 (drop (64 * word) row))
    → prefix ++ words_of (words - word) test (drop (64 * word) row) ≡ whole
    → later ++ words_of (words - (word + 1)) test (drop (64 * (word + 1)) row) ≡ whole
one_more test prefix later whole row words word value h pushed is so_far =
    let rest = words_of (words - (word + 1)) test (drop (64 * (word + 1)) row) in
    ap (λ (bits : List ℕ). bits ++ rest) (pushed ∙ ap (λ (n : ℕ). prefix ++ n ∷ []) is)
    ∙ append_assoc prefix (bits_of test (take 64 (drop (64 * word) row)) ∷ []) rest
    ∙ ap (λ (ws : List ℕ). prefix ++ ws) (sym (words_of_more words word test row h))
    ∙ so_far

pub loop-word-preserved : goal.loop-word-preserved
loop-word-preserved c =
    let row = c.args.row.now in
    let word = c.loop-word.word in
    let capped = take_capped row (64 * word) c.min-to.result c.min-to.ensures (omega arith) in
    record {
      support_is = one_more is_nonzero c.loop-word.support.items c.push.new.self.items _ row c.args.words word c.words_in-nonzero.result.0 c.loop-word-test.true
          c.in_ok-push.ensures.items (c.words_in-nonzero.ensures.support ∙ ap (bits_of is_nonzero) capped) c.loop-word.invariant.support_is;
      minus_is = one_more is_minus c.loop-word.minus.items c.push-in-loop-word.new.self.items _ row c.args.words word c.words_in-nonzero.result.1 c.loop-word-test.true
          c.in_ok-push-2.ensures.items (c.words_in-nonzero.ensures.minus ∙ ap (bits_of is_minus) capped) c.loop-word.invariant.minus_is;
    }
