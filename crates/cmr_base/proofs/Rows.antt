-- Cells that are listed row by row, and the rows that they form.
use Rattle.std.proofs.Common.{◌≡◌, ◌<◌, ◌≤◌, ◌*◌, ◌+◌, ◌-◌, ◌∙◌, ℕ, zero, suc, ℤ, pos, List, [], ◌∷◌, length, take, drop, get_or, set, refl, ap, sym, subst, inl, inr, zero-add, arith}
use Rattle.std.specs.Prelude.{replicate}
use Rattle.std.proofs.lemmas.List.{get_or-take, get_or-drop, length-take-le, length-drop, take-replicate, drop-replicate, take-set-le, drop-set-lt, drop-set-add, drop-drop, get_or_past, length-take}
use Rattle.std.proofs.lemmas.Bool.{cases_lt}
use Rattle.std.proofs.Math.Seq.{take-set-lt}
use Rattle.std.proofs.Math.Nat.{suc-mul, zero-mul}
use Rattle.cmr_base.specs.Matrix.{rows_of}

pub length-rows_of : (n w : ℕ) (cells : List ℤ) → length (rows_of n w cells) ≡ n
length-rows_of zero w cells = refl
length-rows_of (suc n) w cells = ap suc (length-rows_of n w (drop w cells))

-- a row of the cells
pub row-rows_of : (n w : ℕ) (cells : List ℤ) (r : ℕ) → r < n → get_or (rows_of n w cells) r [] ≡ take w (drop (r * w) cells)
row-rows_of zero w cells r h = absurd (omega arith)
row-rows_of (suc n) w cells zero h = ap (λ k. take w (drop k cells)) (sym (zero-mul w))
row-rows_of (suc n) w cells (suc r) h = row-rows_of n w (drop w cells) r (omega arith) ∙ ap (take w) (drop-drop (r * w) w cells ∙ ap (λ k. drop k cells) (omega (arith, suc-mul r w)))

-- an entry is a cell
pub entry-rows_of : (n w : ℕ) (cells : List ℤ) (r c : ℕ) (d : ℤ) → r < n → c < w → get_or (get_or (rows_of n w cells) r []) c d ≡ get_or cells (r * w + c) d
entry-rows_of n w cells r c d hr hc = ap (λ row. get_or row c d) (row-rows_of n w cells r hr) ∙ get_or-take w (drop (r * w) cells) c d hc ∙ get_or-drop (r * w) cells c d

pub length-row : (n w : ℕ) (cells : List ℤ) (r : ℕ) → length cells ≡ n * w → r < n → length (get_or (rows_of n w cells) r []) ≡ w
length-row zero w cells r e h = absurd (omega arith)
length-row (suc n) w cells zero e h = length-take-le w cells (omega (arith, suc-mul n w))
length-row (suc n) w cells (suc r) e h = length-row n w (drop w cells) r (omega (arith, suc-mul n w, length-drop w cells)) (omega arith)

in_prefix : (P : ℤ → Type 0) (w : ℕ) (cells : List ℤ) (c : ℕ) → P (pos 0) → P (get_or cells c (pos 0)) → P (get_or (take w cells) c (pos 0))
in_prefix P w cells c z h = elim (cases_lt c w) [
  | inl lt ↦ subst P (sym (get_or-take w cells c (pos 0) lt)) h
  | inr past ↦ subst P (sym (get_or_past (take w cells) c (pos 0) (omega (arith, length-take w cells)))) z
]

-- a property of each cell and of 0 is a property of each entry
pub each-rows_of : (P : ℤ → Type 0) (n w : ℕ) (cells : List ℤ) → P (pos 0) → ((k : ℕ) → P (get_or cells k (pos 0))) → (r c : ℕ) → P (get_or (get_or (rows_of n w cells) r []) c (pos 0))
each-rows_of P zero w cells z h r c = z
each-rows_of P (suc n) w cells z h zero c = in_prefix P w cells c z (h c)
each-rows_of P (suc n) w cells z h (suc r) c = each-rows_of P n w (drop w cells) z (λ k. subst P (sym (get_or-drop w cells k (pos 0))) (h (w + k))) r c

-- one cell is written
pub set-rows_of : (n w : ℕ) (cells : List ℤ) (r c : ℕ) (v : ℤ) → r < n → c < w → rows_of n w (set cells (r * w + c) v) ≡ set (rows_of n w cells) r (set (get_or (rows_of n w cells) r []) c v)
set-rows_of zero w cells r c v hr hc = absurd (omega arith)
set-rows_of (suc n) w cells zero c v hr hc =
    rw (zero-mul, zero-add, take-set-lt, drop-set-lt) refl
set-rows_of (suc n) w cells (suc r) c v hr hc =
    let e : suc r * w + c ≡ w + (r * w + c) = omega (arith, suc-mul r w) in
    let later : w ≤ w + (r * w + c) = omega arith in
    rw (e, take-set-le, drop-set-add) (ap (λ rows. take w cells ∷ rows) (set-rows_of n w (drop w cells) r c v (omega arith) hc))

pub replicate-rows_of : (n w : ℕ) (z : ℤ) → rows_of n w (replicate (n * w) z) ≡ replicate n (replicate w z)
replicate-rows_of zero w z = refl
replicate-rows_of (suc n) w z =
    let e : suc n * w ≡ n * w + w = suc-mul n w in
    let less : w ≤ suc n * w = omega arith in
    let left : suc n * w - w ≡ n * w = omega arith in
    rw (take-replicate, drop-replicate, left) (ap (λ rows. replicate w z ∷ rows) (replicate-rows_of n w z))
