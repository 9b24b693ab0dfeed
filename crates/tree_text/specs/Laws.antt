-- Laws of tree texts.
use Rattle.std.specs.Prelude.{◌≡◌, ℕ, List, ◌∷◌, Ok}
use Rattle.cmr_base.specs.Matrix.{Matrix}
use Rattle.text_fields.specs.TextWords.{Text, text_of}
use Rattle.tree_type.specs.Invariant.{IsDecTree}
use Rattle.tree_type.specs.Soundness.{IsSound, IsBroken}
use Rattle.tree_type.specs.DecompositionTrees.{SizedTree, tree_of}
use Rattle.tree_type.specs.Verdicts.{verdict_of}
use Rattle.tree_type.specs.declared.refusal.Refusal.{Refusal}
use Rattle.tree_text.specs.CanonicalTrees.{tree_text}
use Rattle.tree_text.specs.declared.header.Title.TheVariants as title
use Rattle.tree_text.specs.declared.header.Version.TheVariants.{One, Two}
use Rattle.tree_text.specs.TreeReading.{PlainTree, plain_of, tree}
use Rattle.tree_text.specs.Versions.{title_word, version_word}

-- if a text of any version represents a tree, the canonical text of the tree represents the same tree
abbrev pub RewritingKeepsTrees : Type 0
RewritingKeepsTrees = (text : Text) (t : PlainTree) → tree text ≡ Ok t → tree (text_of (tree_text t.rows t.columns t.root)) ≡ Ok t

-- words that represent a tree in version 1 represent the same tree with the word of version 2 instead of the word of version 1
abbrev pub VersionTwoReadsAll : Type 0
VersionTwoReadsAll = (size : ℕ) (name first second : ℕ × List ℕ) (words : List (ℕ × List ℕ)) (t : PlainTree)
    → name.1 ≡ title_word title.Tree → first.1 ≡ version_word One → second.1 ≡ version_word Two
    → tree (record { size = size; words = name ∷ first ∷ words }) ≡ Ok t → tree (record { size = size; words = name ∷ second ∷ words }) ≡ Ok t

-- A tree that was read is accepted as a written tree: it keeps all rules, breaks none, and has the same verdict.
pub record IsAcceptedAs (m : Matrix) (written read : SizedTree) : Type 0 where
  pub sound : IsSound m read
  pub unbroken : (refusal : Refusal) → ¬ (IsBroken m read refusal)
  pub verdict : verdict_of (tree_of read.root) ≡ verdict_of (tree_of written.root)

-- the canonical text of a sound tree represents it, and each tree that the text represents is accepted as this tree
abbrev pub SoundTreesReadBack : Type 0
SoundTreesReadBack = (m : Matrix) (written : SizedTree) → IsDecTree written → IsSound m written
    → (tree (text_of (tree_text written.rows written.columns (tree_of written.root))) ≡ Ok (plain_of written))
    × ((read : SizedTree) → tree (text_of (tree_text written.rows written.columns (tree_of written.root))) ≡ Ok (plain_of read) → IsAcceptedAs m written read)
