use Rattle.std.proofs.Common.{refl}
use Rattle.std.proofs.lemmas.List.{length-set}
use Rattle.split_search.proofs.Attached.{grows_rooted, kept-set, only-set, reached-set}
use Rattle.split_search.proofs.forest.seat.Goals as goal

pub returns : goal.returns
returns c = record {
  grows = grows_rooted _ _ c.args.root c.args.number _ c.requires.free c.requires.inside refl refl refl c.requires.forest c.requires.joins c.requires.numbered c.requires.closed;
  size = length-set c.args.nodes.now.items c.args.root _;
  kept = kept-set c.args.nodes.now.items c.args.root _;
  only = only-set c.args.nodes.now.items c.args.root _;
  reached = reached-set c.args.nodes.now.items c.args.root _ c.requires.inside;
}
