use Rattle.std.proofs.Common.{◌∙◌, sym, subst, ◌<◌, ℕ}
use Rattle.bridge_split.proofs.part_walk.PartWalk.new.Goals as goal

pub invariant_of-result : goal.invariant_of-result
invariant_of-result c =
    let one = c.in_ok-none.ensures.size in record {
      zeros_fit = c.in_ok-new-2.ensures.size ∙ sym c.in_ok-new.ensures.size;
      all_fit = c.in_ok-others.ensures.size ∙ one ∙ sym c.in_ok-new.ensures.size;
      are_all = λ x l. c.in_ok-others.ensures.all x (subst (λ (n : ℕ). x < n) c.in_ok-others.ensures.size l) (c.in_ok-none.ensures.none x);
    }
