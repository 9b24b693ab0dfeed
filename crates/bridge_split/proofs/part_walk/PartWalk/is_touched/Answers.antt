use Rattle.std.proofs.Common.{◌∙◌, sym, refl}
use Rattle.bridge_split.proofs.part_walk.PartWalk.is_touched.Goals as goal

pub returns-then-is_left : goal.returns-then-is_left
returns-then-is_left c = (
  (λ e. let h = c.meets_words.ensures.0 e in (c.if-is_left.ensures.0 refl, (h.0, h.1, sym (c.columns_of.ensures.columns h.0) ∙ h.2))),
  (λ t. let q = t.1 in c.meets_words.ensures.1 (q.0, q.1, c.columns_of.ensures.columns q.0 ∙ q.2)),
)
