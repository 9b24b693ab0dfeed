use Rattle.std.proofs.Common.{◌≡◌, ◌≤◌, ◌<◌, ◌∙◌, [], ℕ, ap, sym, subst}
use Rattle.cmr_base.specs.Matrix.{Matrix}
use Rattle.cmr_base.specs.Violator.{HasNoViolator, IsLeastViolator}
use Rattle.leaf_enumerate.specs.Searched.{HasSearched, shorter_side}
use Rattle.tree_type.specs.declared.finding.Finding.{Finding}
use Rattle.tree_type.specs.declared.finding.Finding.TheVariants as held
use Rattle.decomp_tree.specs.Seen.{IsSeen}
use Rattle.decomp_tree.proofs.Said.{placed_violator, seen_violator, seen_enumerated, seen_undecided}
use Rattle.decomp_tree.proofs.looking.look_last.Goals as goal
use Rattle.decomp_tree.proofs.looking.look_last.Goals.{in-Found+in_ok-named_set-in-Found, in-Clean, in-TooMany}

pub named_set-requires : goal.named_set-requires
named_set-requires g c =
    let limit = c.args.node.now.limits.lines in
    let found = c.in-Found.found in
    let searched = subst (λ (n : ℕ). HasSearched c.args.node.now.submatrix.now n c.in_ok-found.field-0) c.lines.ensures c.in_ok-found.ensures in
    let has = subst (λ (k : Matrix). (shorter_side k ≤ limit) × IsLeastViolator k found.rows found.columns) c.args.node.now.submatrix_is (subst (HasSearched c.args.node.now.submatrix.now limit) c.in-Found.is searched) in
    placed_violator limit c.args.node.now.matrix.now c.args.node.now.shape c.args.node.now.lines.now c.args.node.now.are_lines found has.1

pub returns : goal.returns
returns g c =
    let m = c.args.node.now.matrix.now in
    let lines = c.args.node.now.lines.now in
    let limit = c.args.node.now.limits.lines in
    let searched = subst (λ (n : ℕ). HasSearched c.args.node.now.submatrix.now n c.in_ok-found.field-0) c.lines.ensures c.in_ok-found.ensures in
    subst (IsSeen limit m lines) (sym c.leaf.ensures) (elim c.match-branch-2.branch [
      | in-Found+in_ok-named_set-in-Found w ↦
          let found = w.in-Found.found in
          let has = subst (λ (k : Matrix). (shorter_side k ≤ limit) × IsLeastViolator k found.rows found.columns) c.args.node.now.submatrix_is (subst (HasSearched c.args.node.now.submatrix.now limit) w.in-Found.is searched) in
          subst (λ (f : Finding). IsSeen limit m lines (record { finding = f; children = [] })) (sym (w.finding-is ∙ ap held.Violator w.in_ok-named_set-in-Found.ensures))
          (seen_violator limit m c.args.node.now.shape lines c.args.node.now.are_lines found c.requires.none c.requires.faultless has.0 has.1)
      | in-Clean w ↦
          let has = subst (λ (k : Matrix). (shorter_side k ≤ limit) × HasNoViolator k) c.args.node.now.submatrix_is (subst (HasSearched c.args.node.now.submatrix.now limit) w.in-Clean.is searched) in
          subst (λ (f : Finding). IsSeen limit m lines (record { finding = f; children = [] })) (sym w.finding-is)
          (seen_enumerated limit m c.args.node.now.shape lines c.args.node.now.are_lines c.requires.none c.requires.faultless has.0 has.1)
      | in-TooMany w ↦
          let shorter = w.in-TooMany.shorter in
          let has = subst (λ (k : Matrix). (limit < shorter) × (shorter ≡ shorter_side k)) c.args.node.now.submatrix_is (subst (HasSearched c.args.node.now.submatrix.now limit) w.in-TooMany.is searched) in
          subst (λ (f : Finding). IsSeen limit m lines (record { finding = f; children = [] })) (sym w.finding-is)
          (seen_undecided limit m c.args.node.now.shape lines c.args.node.now.are_lines c.requires.none c.requires.faultless (subst (λ (n : ℕ). limit < n) has.1 has.0))
    ])
