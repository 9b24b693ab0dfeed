-- A property of 0, and of each entry that a word represents, is a property of each entry that the words of a text represent.
use Rattle.std.proofs.Common.{◌≡◌, ℕ, zero, suc, ℤ, pos, Bool, true, false, cond, List, [], ◌∷◌, get_or, Ok}
use Rattle.text_fields.specs.Spelling.{Spell}
use Rattle.matrix_text.specs.Values.{entry_in}
use Rattle.matrix_text.specs.Sparse.{Triple, SpellTriples, names, value_at}

module _ (P : ℤ → Type 0) (binary : Bool) (of_zero : P (pos 0)) (of_word : (word : List ℕ) (z : ℤ) → entry_in binary word ≡ Ok z → P z) where
  pub spelled_cells : (words : List (List ℕ)) (cells : List ℤ) → Spell (entry_in binary) words cells → (k : ℕ) → P (get_or cells k (pos 0))
  spelled_cells [] [] spell k = of_zero
  spelled_cells [] (z ∷ cells) spell k = absurd spell
  spelled_cells (word ∷ words) [] spell k = absurd spell
  spelled_cells (word ∷ words) (z ∷ cells) spell zero = of_word word z spell.0
  spelled_cells (word ∷ words) (z ∷ cells) spell (suc k) = spelled_cells words cells spell.1 k

  chosen : (first : Bool) (y z : ℤ) → P y → P z → P (cond first y z)
  chosen true y z one other = one
  chosen false y z one other = other

  pub spelled_values : (words : List (List ℕ)) (triples : List Triple) → SpellTriples binary words triples → (row column : ℕ) → P (value_at triples row column)
  spelled_values [] [] spell row column = of_zero
  spelled_values [] (t ∷ triples) spell row column = absurd spell
  spelled_values (a ∷ []) [] spell row column = absurd spell
  spelled_values (a ∷ []) (t ∷ triples) spell row column = absurd spell
  spelled_values (a ∷ b ∷ []) [] spell row column = absurd spell
  spelled_values (a ∷ b ∷ []) (t ∷ triples) spell row column = absurd spell
  spelled_values (a ∷ b ∷ c ∷ words) [] spell row column = absurd spell
  spelled_values (a ∷ b ∷ c ∷ words) (t ∷ triples) spell row column =
      chosen (names row column t) t.value (value_at triples row column) (of_word c t.value spell.2) (spelled_values words triples spell.3 row column)
