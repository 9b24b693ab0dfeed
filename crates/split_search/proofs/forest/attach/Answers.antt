use Rattle.std.proofs.Common.{refl}
use Rattle.std.proofs.lemmas.List.{length-set}
use Rattle.split_search.proofs.Attached.{attach_cancels, attached, kept-set, only-set, reached-set, unreached-set}
use Rattle.split_search.proofs.forest.attach.Goals as goal

pub returns-clause-reaches : goal.returns-clause-reaches
returns-clause-reaches c = record {
  size = length-set c.args.nodes.now.items c.args.to.line _;
  kept = kept-set c.args.nodes.now.items c.args.to.line _;
  only = only-set c.args.nodes.now.items c.args.to.line _;
  reached = reached-set c.args.nodes.now.items c.args.to.line _ c.requires.inside;
  grows = attached _ _ c.args.parent _ c.args.column c.args.from c.args.to c.args._root c.args.number c.requires.ends c.requires.parent c.requires.free c.requires.inside
      refl refl refl (attach_cancels c.args.parent.minus c.args.from.value c.args.to.value c.requires.signs.0 c.requires.signs.1) c.requires.grows;
}

pub returns-clause-fewer : goal.returns-clause-fewer
returns-clause-fewer c = unreached-set c.args.nodes.now.items c.args.to.line _ c.requires.inside c.requires.free
