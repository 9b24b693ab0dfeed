use Rattle.std.proofs.Common.{◌*ℤ◌, w8, of_z, to_z, sym, subst}
use Rattle.cmr_base.specs.Cores.{IsBounded}
use Rattle.cmr_base.proofs.SmallNumbers.{bounded_by_entry, bounded_sum, by_entry_kept, sum_fits, sum_kept}
use Rattle.cmr_base.proofs.cores.Factors.entry.Goals as goal

pub overflow_add-result : goal.overflow_add-result
overflow_add-result c =
    let f = c.args.self in
    let r = c.requires in
    sum_fits (f.first *ℤ c.args.first) (f.other *ℤ c.args.other) (to_z w8 (of_z w8 (to_z w8 (of_z w8 f.first) *ℤ to_z w8 (of_z w8 c.args.first)))) (to_z w8 (of_z w8 (to_z w8 (of_z w8 f.other) *ℤ to_z w8 (of_z w8 c.args.other))))
    (bounded_by_entry 4 f.first c.args.first r.first_factor r.first) (bounded_by_entry 4 f.other c.args.other r.other_factor r.other) (by_entry_kept f.first c.args.first r.first_factor r.first) (by_entry_kept f.other c.args.other r.other_factor r.other)

pub returns-clause-value : goal.returns-clause-value
returns-clause-value c =
    let f = c.args.self in
    let r = c.requires in
    sum_kept (f.first *ℤ c.args.first) (f.other *ℤ c.args.other) (to_z w8 (of_z w8 (to_z w8 (of_z w8 f.first) *ℤ to_z w8 (of_z w8 c.args.first)))) (to_z w8 (of_z w8 (to_z w8 (of_z w8 f.other) *ℤ to_z w8 (of_z w8 c.args.other))))
    (bounded_by_entry 4 f.first c.args.first r.first_factor r.first) (bounded_by_entry 4 f.other c.args.other r.other_factor r.other) (by_entry_kept f.first c.args.first r.first_factor r.first) (by_entry_kept f.other c.args.other r.other_factor r.other)

pub returns-clause-small : goal.returns-clause-small
returns-clause-small c =
    let f = c.args.self in
    let r = c.requires in
    subst (IsBounded 8) (sym (returns-clause-value c)) (bounded_sum 4 (f.first *ℤ c.args.first) (f.other *ℤ c.args.other) (bounded_by_entry 4 f.first c.args.first r.first_factor r.first) (bounded_by_entry 4 f.other c.args.other r.other_factor r.other))
