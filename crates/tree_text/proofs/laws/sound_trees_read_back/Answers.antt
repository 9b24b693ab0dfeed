use Rattle.std.proofs.Common.{◌≡◌, ◌∙◌, ap, subst, sym}
use Rattle.text_fields.proofs.Results.{ok_same}
use Rattle.tree_type.proofs.OneRefusal.{sound_unbroken}
use Rattle.tree_type.specs.Places.{places}
use Rattle.tree_type.specs.Soundness.{IsSoundTree}
use Rattle.tree_type.specs.DecompositionTrees.{tree_of}
use Rattle.tree_type.specs.Verdicts.{verdict_of}
use Rattle.tree_text.specs.TreeReading.{PlainTree, plain_of}
use Rattle.tree_text.proofs.TreesAgain.{tree_again}
use Rattle.tree_text.proofs.laws.sound_trees_read_back.Goals as goal

pub returns : goal.returns
returns c = λ m written is sound.
    let again = tree_again written.rows written.columns (tree_of written.root) is in (
      again,
      λ read e.
          let same : plain_of written ≡ plain_of read = ok_same (plain_of written) (plain_of read) (sym again ∙ e) in
          let kept = subst (λ (t : PlainTree). IsSoundTree m t.rows t.columns t.root) same sound in
          record {
            sound = kept;
            unbroken = λ refusal broken. sound_unbroken m (places read.rows read.columns (tree_of read.root)) refusal.path refusal.rule kept broken;
            verdict = ap (λ (t : PlainTree). verdict_of t.root) (sym same);
          },
    )
