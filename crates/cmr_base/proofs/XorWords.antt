-- Exclusive or of lists of words, eight at a time and then one by one.
use Rattle.std.proofs.Common.{◌≡◌, ◌<◌, ◌≤◌, ◌+◌, ◌-◌, ◌∙◌, ℕ, List, length, get_or, ap, ap₂, sym, inl, inr, arith}
use Rattle.std.specs.Prelude.{bit_xor}
use Rattle.std.specs.Simd.Lanes.{chunk, put_chunk, zip2}
use Rattle.std.proofs.lemmas.Bool.{cases_lt}
use Rattle.std.proofs.lemmas.Grind.{same_number_lists}
use Rattle.std.proofs.lemmas.Simd.{get_or-chunk, get_or-put_chunk_above, get_or-put_chunk_at, get_or-put_chunk_below, get_or-zip2, length-chunk, length-put_chunk, length-zip2}
use Rattle.cmr_base.specs.Planes.{IsXorBefore}

-- `count` more words
pub xor_lanes_more : (count : ℕ) (before other now after : List ℕ) (place : ℕ) → IsXorBefore place before other now → length before ≡ length other → place + count ≤ length before
    → after ≡ put_chunk place now (zip2 bit_xor (chunk place count now) (chunk place count other)) → IsXorBefore (place + count) before other after
xor_lanes_more count before other now after place so_far alike room is = record {
  inside = room;
  long = ap length is ∙ length-put_chunk place now lanes ∙ so_far.long;
  done = λ k h. ap (λ (ws : List ℕ). get_or ws k 0) is ∙ elim (cases_lt k place) [
    | inl earlier ↦ get_or-put_chunk_below place now lanes k 0 earlier ∙ so_far.done k earlier
    | inr later ↦ here k (k - place) (omega arith) (omega arith)
  ];
  same = λ k h. ap (λ (ws : List ℕ). get_or ws k 0) is ∙ get_or-put_chunk_above place now lanes k 0 (omega (arith, many)) ∙ so_far.same k (omega arith);
}
  where
    lanes : List ℕ
    lanes = zip2 bit_xor (chunk place count now) (chunk place count other)

    left : length (chunk place count now) ≡ count
    left = length-chunk place count now (omega (arith, so_far.long))

    right : length (chunk place count other) ≡ count
    right = length-chunk place count other (omega arith)

    many : length (zip2 bit_xor (chunk place count now) (chunk place count other)) ≡ count
    many = length-zip2 bit_xor (chunk place count now) (chunk place count other) (left ∙ sym right) ∙ left

    here : (k j : ℕ) → k ≡ place + j → j < count → get_or (put_chunk place now (zip2 bit_xor (chunk place count now) (chunk place count other))) k 0 ≡ bit_xor (get_or before k 0) (get_or other k 0)
    here k j e h =
        ap (λ (n : ℕ). get_or (put_chunk place now lanes) n 0) e
        ∙ get_or-put_chunk_at place now lanes j 0 (omega (arith, many)) (omega (arith, many, so_far.long))
        ∙ get_or-zip2 bit_xor (chunk place count now) (chunk place count other) j 0 0 0 (omega (arith, left)) (omega (arith, right))
        ∙ ap₂ bit_xor (get_or-chunk place count now j 0 h ∙ so_far.same (place + j) (omega arith) ∙ ap (λ (n : ℕ). get_or before n 0) (sym e))
        (get_or-chunk place count other j 0 h ∙ ap (λ (n : ℕ). get_or other n 0) (sym e))

-- all words
pub xor_whole : (before other after : List ℕ) (place : ℕ) → IsXorBefore place before other after → length before ≡ length other → length after ≤ place → after ≡ zip2 bit_xor before other
xor_whole before other after place all alike end =
    same_number_lists after (zip2 bit_xor before other) (all.long ∙ sym (length-zip2 bit_xor before other alike)) (λ k h.
    all.done k (omega arith) ∙ sym (get_or-zip2 bit_xor before other k 0 0 0 (omega (arith, all.long)) (omega (arith, all.long))))
