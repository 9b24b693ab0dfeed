-- Equations in consecutive words.
use Rattle.std.proofs.Common.{◌≡◌, ◌<◌, ◌≤◌, ◌+◌, ◌*◌, ◌∙◌, ◌++◌, ℕ, zero, suc, List, [], ◌∷◌, length, take, drop, get_or, refl, ap, sym, arith, Some}
use Rattle.std.specs.Prelude.{slice_get}
use Rattle.std.proofs.lemmas.List.{drop-append-le, drop-drop, length-drop, length-take-le, take-append-le, take_all}
use Rattle.std.proofs.Math.Nat.{mul-le-mul_right, suc-mul, zero-mul}
use Rattle.cmr_base.proofs.Lists.{no_items}
use Rattle.parity.specs.declared.narrow.Equation.{Equation}
use Rattle.parity.specs.Equations.{System, number_of}
use Rattle.parity.specs.declared.basis.Basis.TheInside.{Inside}
use Rattle.parity.specs.BasisView.{IsAligned, paired, system_of}

pub length-paired : (words : ℕ) (pivots flat : List ℕ) → length (paired words pivots flat) ≡ length pivots
length-paired words [] flat = refl
length-paired words (pivot ∷ pivots) flat = ap suc (length-paired words pivots (drop words flat))

pub slice_get-paired : (words : ℕ) (pivots flat : List ℕ) (k : ℕ) → k < length pivots → slice_get (paired words pivots flat) k ≡ Some (record { pivot = get_or pivots k 0; columns = number_of (take words (drop (k * words) flat)) })
slice_get-paired words [] flat k h = absurd (omega arith)
slice_get-paired words (pivot ∷ pivots) flat zero h = ap (λ (n : ℕ). Some (record { pivot = pivot; columns = number_of (take words (drop n flat)) })) (sym (zero-mul words))
slice_get-paired words (pivot ∷ pivots) flat (suc k) h =
    slice_get-paired words pivots (drop words flat) k (omega arith)
    ∙ ap (λ (rest : List ℕ). Some (record { pivot = get_or pivots k 0; columns = number_of (take words rest) })) (drop-drop (k * words) words flat ∙ ap (λ n. drop n flat) (omega (arith, suc-mul k words)))

pub paired-push : (words : ℕ) (pivots flat : List ℕ) (pivot : ℕ) (columns : List ℕ) → length flat ≡ length pivots * words → length columns ≡ words → paired words (pivots ++ pivot ∷ []) (flat ++ columns) ≡ paired words pivots flat ++ record { pivot = pivot; columns = number_of columns } ∷ []
paired-push words [] flat pivot columns whole len =
    let none : flat ≡ [] = no_items flat (whole ∙ zero-mul words) in
    rw none (ap (λ (prefix : List ℕ). record { pivot = pivot; columns = number_of prefix } ∷ []) (take_all words columns (omega arith)))
paired-push words (first ∷ pivots) flat pivot columns whole len =
    let room : words ≤ length flat = omega (arith, suc-mul (length pivots) words) in
    rw (take-append-le words flat columns room, drop-append-le words flat columns room)
    (ap (λ (rest : List Equation). record { pivot = first; columns = number_of (take words flat) } ∷ rest) (paired-push words pivots (drop words flat) pivot columns (omega (arith, length-drop words flat, suc-mul (length pivots) words)) len))

pub equation_inside : (words : ℕ) (pivots flat : List ℕ) (k : ℕ) → length flat ≡ length pivots * words → k < length pivots → k * words + words ≤ length flat
equation_inside words pivots flat k whole h =
    let up : k + 1 ≤ length pivots = omega arith in
    omega (arith, whole, mul-le-mul_right words up, suc-mul k words)

-- one equation more is dropped
pub drop-equation : (es : List Equation) (k : ℕ) (e : Equation) → slice_get es k ≡ Some e → drop k es ≡ e ∷ drop (k + 1) es
drop-equation [] k e at = cc
drop-equation (f ∷ es) zero e at = let same : f ≡ e = cc in ap (λ (g : Equation). g ∷ es) same
drop-equation (f ∷ es) (suc k) e at = let next : suc k + 1 ≡ suc (k + 1) = omega arith in drop-equation es k e at ∙ ap (λ n. e ∷ drop n (f ∷ es)) (sym next)

-- ---- the fields of a basis
pub count_is : (a : Inside) (s : System) → system_of a ≡ s → length s.equations ≡ length a.pivots.items
count_is a s e = ap (λ (t : System). length t.equations) (sym e) ∙ length-paired a.words a.pivots.items a.equations.items

pub ends_inside : (a : Inside) (s : System) (k : ℕ) → system_of a ≡ s → IsAligned a → k < length s.equations → k * a.words + a.words ≤ length a.equations.items
ends_inside a s k e aligned h = equation_inside a.words a.pivots.items a.equations.items k aligned.whole (omega (arith, count_is a s e))

pub equation_at : (a : Inside) (s : System) (k pivot : ℕ) → system_of a ≡ s → k < length s.equations → pivot ≡ get_or a.pivots.items k 0 → slice_get s.equations k ≡ Some (record { pivot = pivot; columns = number_of (take a.words (drop (k * a.words) a.equations.items)) })
equation_at a s k pivot e h same =
    ap (λ (t : System). slice_get t.equations k) (sym e)
    ∙ slice_get-paired a.words a.pivots.items a.equations.items k (omega (arith, count_is a s e))
    ∙ ap (λ (p : ℕ). Some (record { pivot = p; columns = number_of (take a.words (drop (k * a.words) a.equations.items)) })) (sym same)

pub length_at : (a : Inside) (s : System) (k : ℕ) → system_of a ≡ s → IsAligned a → k < length s.equations → length (take a.words (drop (k * a.words) a.equations.items)) ≡ s.words
length_at a s k e aligned h =
    length-take-le a.words (drop (k * a.words) a.equations.items) (omega (arith, ends_inside a s k e aligned h, length-drop (k * a.words) a.equations.items)) ∙ ap (λ (t : System). t.words) e
