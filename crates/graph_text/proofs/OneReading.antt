-- A text has one reading.
use Rattle.std.proofs.Common.{◌≡◌, ◌∙◌, inl, inr, Result, Ok, Err, sym, ap, subst}
use Rattle.cmr_base.specs.Trees.{IsTree}
use Rattle.text_fields.specs.TextWords.{Text}
use Rattle.text_fields.specs.Reading.{Fault}
use Rattle.text_fields.proofs.Results.{ok_same}
use Rattle.graph_text.specs.declared.error.GraphKind.{GraphKind}
use Rattle.graph_text.specs.declared.read.SizedNetwork.{SizedNetwork}
use Rattle.graph_text.specs.Laws.{ReadingsAreOne}
use Rattle.graph_text.specs.GraphReading.{HasNoTree, IsGraph, network_in}

-- the arcs of a network are not both a tree and not a tree
tree_and_none : (text : Text) (net : SizedNetwork) → IsGraph text (Ok net) → HasNoTree text → ⊥
tree_and_none text net is (other, read, none) = none (subst (λ (n : SizedNetwork). IsTree n.net.arcs n.rows) (ok_same net other (sym is.0 ∙ read)) is.1)

read_and_fault : (text : Text) (net : SizedNetwork) (fault : Fault GraphKind) → network_in text ≡ Ok net → network_in text ≡ Err fault → ⊥
read_and_fault text net fault read fails = let none : ◌≡◌ {A = Result SizedNetwork (Fault GraphKind)} (Ok net) (Err fault) = sym read ∙ fails in absurd (cc)

pub readings_are_one : ReadingsAreOne
readings_are_one text (Ok x) (Ok y) a b = sym a.0 ∙ b.0
readings_are_one text (Ok x) (Err e) a (inl fails) = absurd (read_and_fault text x e a.0 fails)
readings_are_one text (Ok x) (Err e) a (inr none) = absurd (tree_and_none text x a none.1)
readings_are_one text (Err e) (Ok y) (inl fails) b = absurd (read_and_fault text y e b.0 fails)
readings_are_one text (Err e) (Ok y) (inr none) b = absurd (tree_and_none text y b none.1)
readings_are_one text (Err e) (Err f) (inl one) (inl two) = sym one ∙ two
readings_are_one text (Err e) (Err f) (inl one) (inr none) = absurd (read_and_fault text (none.1).0 e (none.1).1 one)
readings_are_one text (Err e) (Err f) (inr none) (inl two) = absurd (read_and_fault text (none.1).0 f (none.1).1 two)
readings_are_one text (Err e) (Err f) (inr one) (inr two) = ap Err (one.0 ∙ sym two.0)
