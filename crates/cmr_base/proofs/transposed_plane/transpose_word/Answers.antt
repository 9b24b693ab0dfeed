use Rattle.std.proofs.Common.{◌≡◌, ◌<◌, ◌≤◌, ◌+◌, ◌*◌, ◌/◌, ◌^◌, ℕ, true, eqb, List, length, ap, arith, w64}
use Rattle.std.specs.Int.{trailing_zeros}
use Rattle.std.proofs.lemmas.Nat.Bits.{bit_at-trailing_zeros}
use Rattle.cmr_base.specs.Planes.{has_bit}
use Rattle.cmr_base.proofs.TransposedRows.{AreBitsTransposed, all_bits_transposed, in_word, less_without, no_bit_transposed, one_bit_transposed}
use Rattle.cmr_base.proofs.transposed_plane.transpose_word.Goals as goal

-- the position of the lowest bit
lowest : (rest : ℕ) → 0 < rest → rest < 2 ^ 64 → (trailing_zeros w64 rest < 64) × (has_bit rest (trailing_zeros w64 rest) ≡ true)
lowest rest some fits = let zeros = bit_at-trailing_zeros w64 rest some fits in (zeros.0, ap (λ bit. eqb bit 1) zeros.1)

-- its word is in the plane
in_plane : (to row first word rest : ℕ) (before now : List ℕ) → row < 64 * to
    → ((k : ℕ) → k < 64 → has_bit word k ≡ true → (first + k) * to + to ≤ length before) → AreBitsTransposed to row first word rest before now
    → 0 < rest → (first + trailing_zeros w64 rest) * to + row / 64 < length now
in_plane to row first word rest before now low inside so some =
    let there = lowest rest some so.fits in
    let room = inside (trailing_zeros w64 rest) there.0 (in_word to row first word before rest (trailing_zeros w64 rest) now so there.0 there.1) in
    omega (arith, room, so.long)

pub loop-rest-init : goal.loop-rest-init
loop-rest-init c = no_bit_transposed c.args.to c.args.row c.args.first c.args.word c.args.made.now c.ranges.word.fits c.requires.empty

pub bounds-made-at : goal.bounds-made-at
bounds-made-at c =
    in_plane c.args.to c.args.row c.args.first c.args.word c.loop-rest.rest c.args.made.now c.loop-rest.made c.requires.row c.requires.inside c.loop-rest.invariant (let some = c.loop-rest-test.true in omega (arith, some))

pub bounds-made-at-in-loop-rest : goal.bounds-made-at-in-loop-rest
bounds-made-at-in-loop-rest c =
    in_plane c.args.to c.args.row c.args.first c.args.word c.loop-rest.rest c.args.made.now c.loop-rest.made c.requires.row c.requires.inside c.loop-rest.invariant (let some = c.loop-rest-test.true in omega (arith, some))

pub with_bit-rest-requires : goal.with_bit-rest-requires
with_bit-rest-requires c = (lowest c.loop-rest.rest (let some = c.loop-rest-test.true in omega (arith, some)) c.loop-rest.invariant.fits).0

pub loop-rest-smaller : goal.loop-rest-smaller
loop-rest-smaller c =
    let fits = c.loop-rest.invariant.fits in
    less_without c.loop-rest.rest c.with_bit-rest.result (trailing_zeros w64 c.loop-rest.rest) fits c.with_bit-rest.type_inv (lowest c.loop-rest.rest (let some = c.loop-rest-test.true in omega (arith, some)) fits).1
    c.with_bit-rest.ensures.here c.with_bit-rest.ensures.others

pub loop-rest-preserved : goal.loop-rest-preserved
loop-rest-preserved c =
    let rest = c.loop-rest.rest in
    let some : 0 < c.loop-rest.rest = (let test = c.loop-rest-test.true in omega (arith, test)) in
    let there = lowest rest some c.loop-rest.invariant.fits in
    one_bit_transposed c.args.to c.args.row c.args.first c.args.word c.args.made.now rest (trailing_zeros w64 rest) c.loop-rest.made c.loop-rest.invariant there.0 there.1 c.with_bit-rest.result c.with_bit.result c.requires.row
    (in_plane c.args.to c.args.row c.args.first c.args.word rest c.args.made.now c.loop-rest.made c.requires.row c.requires.inside c.loop-rest.invariant some)
    c.with_bit.ensures.here c.with_bit.ensures.others c.with_bit.type_inv c.with_bit-rest.type_inv c.with_bit-rest.ensures.others

pub returns : goal.returns
returns c = all_bits_transposed c.args.to c.args.row c.args.first c.args.word c.args.made.now c.loop-rest.rest c.loop-rest.made c.loop-rest.invariant (let none = c.loop-rest-test.false in omega (arith, none))
