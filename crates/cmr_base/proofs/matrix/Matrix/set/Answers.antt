use Rattle.std.proofs.Common.{◌≡◌, ◌≢◌, ◌<◌, ◌+◌, ◌*◌, ◌/◌, ◌%◌, ◌^◌, ◌∙◌, ℕ, ℤ, Bool, false, List, pos, refl, get_or, set, ap, sym, subst, arith, w8, to_z, of_z}
use Rattle.std.specs.Int.{bit_at}
use Rattle.std.specs.List.{flat_map}
use Rattle.std.proofs.lemmas.List.{get_or_read}
use Rattle.std.proofs.lemmas.Int.{to_z-of_z}
use Rattle.cmr_base.specs.declared.matrix.Matrix.TheInside.{Inside}
use Rattle.cmr_base.specs.Matrix.{Matrix, height, with_entry, IsEntry, IsMatrix, is_nonzero}
use Rattle.cmr_base.specs.MatrixLayout.{matrix_of, IsLaidOut}
use Rattle.cmr_base.specs.Planes.{has_bit, is_minus, words_for, words_of}
use Rattle.cmr_base.proofs.Entries.{height-with_entry, is_matrix-with_entry}
use Rattle.cmr_base.proofs.PlaneSteps.{plane-with_entry}
use Rattle.cmr_base.proofs.PlaneWords.{rows_fit}
use Rattle.cmr_base.proofs.Views.{are_planes, height_is, IsOf, is_matrix, of_planes, place_in, width_is}
use Rattle.cmr_base.proofs.matrix.Matrix.set.Goals as goal

pub place_of-place-requires-clause-row : goal.place_of-place-requires-clause-row
place_of-place-requires-clause-row c = let is = is_matrix c.self.inside c.args.self.now c.self.view_is c.self.invariant in omega (arith, c.requires.row, is.height_in)

pub index-requires : goal.index-requires
index-requires c =
    let a = c.self.inside in
    let planes = are_planes a c.args.self.now c.self.view_is c.self.invariant in
    omega (arith, a.support.ok, c.place_of-place.ensures, place_in a c.args.self.now is_nonzero a.support.items c.args.row c.args.column c.self.view_is planes.support_is c.requires.row c.requires.column)

pub index_mut-requires : goal.index_mut-requires
index_mut-requires c =
    let a = c.self.inside in
    let planes = are_planes a c.args.self.now c.self.view_is c.self.invariant in
    omega (arith, a.support.ok, c.place_of-place.ensures, place_in a c.args.self.now is_nonzero a.support.items c.args.row c.args.column c.self.view_is planes.support_is c.requires.row c.requires.column)

pub index-requires-2 : goal.index-requires-2
index-requires-2 c =
    let a = c.self.inside in
    let planes = are_planes a c.args.self.now c.self.view_is c.self.invariant in
    omega (arith, a.minus.ok, c.place_of-place.ensures, place_in a c.args.self.now is_minus a.minus.items c.args.row c.args.column c.self.view_is planes.minus_is c.requires.row c.requires.column)

pub index_mut-requires-2 : goal.index_mut-requires-2
index_mut-requires-2 c =
    let a = c.self.inside in
    let planes = are_planes a c.args.self.now c.self.view_is c.self.invariant in
    omega (arith, a.minus.ok, c.place_of-place.ensures, place_in a c.args.self.now is_minus a.minus.items c.args.row c.args.column c.self.view_is planes.minus_is c.requires.row c.requires.column)

-- one plane after the change
changed_plane : (a : Inside) (m : Matrix) (test : ℤ → Bool) (plane : List ℕ) (row column place word : ℕ) (value : ℤ) → matrix_of a ≡ m → IsMatrix m
    → row < height m → column < m.width → test (pos 0) ≡ false
    → plane ≡ flat_map (words_of (words_for m.width) test) m.rows → place ≡ row * words_for a.columns + column / 64
    → has_bit word (column % 64) ≡ test value → ((k : ℕ) → k < 64 → k ≢ column % 64 → bit_at word k ≡ bit_at (get_or plane place 0) k)
    → word < 2 ^ 64 → ((k : ℕ) → get_or plane k 0 < 2 ^ 64)
    → set plane place word ≡ flat_map (words_of (words_for m.width) test) (with_entry m row column value).rows
changed_plane a m test plane row column place word value e is row_in column_in none plane_is place_is here others fits are_words =
    let at : place ≡ row * words_for m.width + column / 64 = place_is ∙ ap (λ (n : ℕ). row * words_for n + column / 64) (sym (width_is a m e)) in
    ap (λ (n : ℕ). set plane n word) at
    ∙ plane-with_entry m test plane row column value word is row_in column_in none plane_is here
    (λ k small other. others k small other ∙ ap (λ (n : ℕ). bit_at (get_or plane n 0) k) at) fits are_words

after : (a : Inside) (m : Matrix) (row column place support_word minus_word : ℕ) (value : ℤ) → matrix_of a ≡ m → IsLaidOut a → row < height m → column < m.width → IsEntry value
    → place ≡ row * words_for a.columns + column / 64
    → has_bit support_word (column % 64) ≡ is_nonzero value → ((k : ℕ) → k < 64 → k ≢ column % 64 → bit_at support_word k ≡ bit_at (get_or a.support.items place 0) k)
    → has_bit minus_word (column % 64) ≡ is_minus value → ((k : ℕ) → k < 64 → k ≢ column % 64 → bit_at minus_word k ≡ bit_at (get_or a.minus.items place 0) k)
    → support_word < 2 ^ 64 → minus_word < 2 ^ 64 → ((k : ℕ) → get_or a.support.items k 0 < 2 ^ 64) → ((k : ℕ) → get_or a.minus.items k 0 < 2 ^ 64)
    → IsOf (with_entry m row column value) a.rows a.columns (set a.support.items place support_word) (set a.minus.items place minus_word)
after a m row column place support_word minus_word value e laid row_in column_in small place_is s_here s_others m_here m_others s_fits m_fits s_words m_words =
    let is = is_matrix a m e laid in
    let planes = are_planes a m e laid in
    let wide = width_is a m e in
    of_planes (with_entry m row column value) a.rows a.columns (set a.support.items place support_word) (set a.minus.items place minus_word)
    (is_matrix-with_entry m row column value row_in small is) (height-with_entry m row column value ∙ height_is a m e) wide
    (subst (λ (n : ℕ). set a.support.items place support_word ≡ flat_map (words_of (words_for n) is_nonzero) (with_entry m row column value).rows) wide
    (changed_plane a m is_nonzero a.support.items row column place support_word value e is row_in column_in refl planes.support_is place_is s_here s_others s_fits s_words))
    (subst (λ (n : ℕ). set a.minus.items place minus_word ≡ flat_map (words_of (words_for n) is_minus) (with_entry m row column value).rows) wide
    (changed_plane a m is_minus a.minus.items row column place minus_word value e is row_in column_in refl planes.minus_is place_is m_here m_others m_fits m_words))

pub invariant_of-self : goal.invariant_of-self
invariant_of-self c =
    let a = c.self.inside in
    let m = c.args.self.now in
    let place = c.place_of-place.result in
    let planes = are_planes a m c.self.view_is c.self.invariant in
    let s_in = place_in a m is_nonzero a.support.items c.args.row c.args.column c.self.view_is planes.support_is c.requires.row c.requires.column in
    let m_in = place_in a m is_minus a.minus.items c.args.row c.args.column c.self.view_is planes.minus_is c.requires.row c.requires.column in
    let v : to_z w8 (of_z w8 c.args.value) ≡ c.args.value = to_z-of_z w8 c.args.value c.ranges.value in
    let s_words : (k : ℕ) → get_or a.support.items k 0 < 2 ^ 64 = subst (λ (ws : List ℕ). (k : ℕ) → get_or ws k 0 < 2 ^ 64) (sym planes.support_is) (rows_fit (words_for m.width) is_nonzero m.rows) in
    let m_words : (k : ℕ) → get_or a.minus.items k 0 < 2 ^ 64 = subst (λ (ws : List ℕ). (k : ℕ) → get_or ws k 0 < 2 ^ 64) (sym planes.minus_is) (rows_fit (words_for m.width) is_minus m.rows) in
    let s_old = get_or_read a.support.items place c.index.result.now (omega (arith, c.place_of-place.ensures, s_in)) c.index.ensures 0 in
    let m_old = get_or_read a.minus.items place c.index-2.result.now (omega (arith, c.place_of-place.ensures, m_in)) c.index-2.ensures 0 in
    let all = after a m c.args.row c.args.column place c.with_bit.result c.with_bit-2.result c.args.value c.self.view_is c.self.invariant c.requires.row c.requires.column c.requires.small c.place_of-place.ensures
    (c.with_bit.ensures.here ∙ c.passes-is_nonzero.ensures ∙ ap is_nonzero v) (λ k small other. c.with_bit.ensures.others k small other ∙ ap (λ (n : ℕ). bit_at n k) s_old)
    (c.with_bit-2.ensures.here ∙ c.passes-is_minus.ensures ∙ ap is_minus v) (λ k small other. c.with_bit-2.ensures.others k small other ∙ ap (λ (n : ℕ). bit_at n k) m_old)
    c.with_bit.type_inv c.with_bit-2.type_inv s_words m_words in
    record { rows_few = c.self.invariant.rows_few; columns_few = c.self.invariant.columns_few; support_is = all.support_is; minus_is = all.minus_is }

pub returns : goal.returns
returns c =
    let a = c.self.inside in
    let m = c.args.self.now in
    let place = c.place_of-place.result in
    let planes = are_planes a m c.self.view_is c.self.invariant in
    let s_in = place_in a m is_nonzero a.support.items c.args.row c.args.column c.self.view_is planes.support_is c.requires.row c.requires.column in
    let m_in = place_in a m is_minus a.minus.items c.args.row c.args.column c.self.view_is planes.minus_is c.requires.row c.requires.column in
    let v : to_z w8 (of_z w8 c.args.value) ≡ c.args.value = to_z-of_z w8 c.args.value c.ranges.value in
    let s_words : (k : ℕ) → get_or a.support.items k 0 < 2 ^ 64 = subst (λ (ws : List ℕ). (k : ℕ) → get_or ws k 0 < 2 ^ 64) (sym planes.support_is) (rows_fit (words_for m.width) is_nonzero m.rows) in
    let m_words : (k : ℕ) → get_or a.minus.items k 0 < 2 ^ 64 = subst (λ (ws : List ℕ). (k : ℕ) → get_or ws k 0 < 2 ^ 64) (sym planes.minus_is) (rows_fit (words_for m.width) is_minus m.rows) in
    let s_old = get_or_read a.support.items place c.index.result.now (omega (arith, c.place_of-place.ensures, s_in)) c.index.ensures 0 in
    let m_old = get_or_read a.minus.items place c.index-2.result.now (omega (arith, c.place_of-place.ensures, m_in)) c.index-2.ensures 0 in
    (after a m c.args.row c.args.column place c.with_bit.result c.with_bit-2.result c.args.value c.self.view_is c.self.invariant c.requires.row c.requires.column c.requires.small c.place_of-place.ensures
    (c.with_bit.ensures.here ∙ c.passes-is_nonzero.ensures ∙ ap is_nonzero v) (λ k small other. c.with_bit.ensures.others k small other ∙ ap (λ (n : ℕ). bit_at n k) s_old)
    (c.with_bit-2.ensures.here ∙ c.passes-is_minus.ensures ∙ ap is_minus v) (λ k small other. c.with_bit-2.ensures.others k small other ∙ ap (λ (n : ℕ). bit_at n k) m_old)
    c.with_bit.type_inv c.with_bit-2.type_inv s_words m_words).same
