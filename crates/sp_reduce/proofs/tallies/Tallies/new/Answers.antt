use Rattle.std.proofs.Common.{rules, arith, ◌≡◌, ◌∙◌, ℕ, ap, replicate}
use Rattle.sp_reduce.specs.declared.tallies.Tallies.{Tallies}
use Rattle.sp_reduce.specs.LineKinds.{count_of_kind}
use Rattle.sp_reduce.proofs.TallyLemmas.{cross_small, tallies_start}
use Rattle.sp_reduce.proofs.tallies.Tallies.new.Goals as goal

pub rows-init : goal.rows-init
rows-init c =
    let size : c.size-size.result ≡ count_of_kind c.args.matrix.now c.args.kind = c.size-size.ensures in
    let counts : c.in_ok-vec.field-0.items ≡ replicate c.size-size.result 0 = search rules in
    let sums : c.in_ok-vec-2.field-0.items ≡ replicate c.size-size.result 0 = search rules in
    let minus_sums : c.in_ok-vec-3.field-0.items ≡ replicate c.size-size.result 0 = search rules in
    let tallies : Tallies = record { counts = c.in_ok-vec.field-0; sums = c.in_ok-vec-2.field-0; minus_sums = c.in_ok-vec-3.field-0 } in
    tallies_start c.args.matrix.now c.args.kind c.args.visited.now c.args.marks.now tallies (counts ∙ ap (λ (n : ℕ). replicate n 0) size) (sums ∙ ap (λ (n : ℕ). replicate n 0) size)
    (minus_sums ∙ ap (λ (n : ℕ). replicate n 0) size)

pub weights_of-requires : goal.weights_of-requires
weights_of-requires c = omega (arith, cross_small c.args.matrix.now c.args.kind c.requires.shape, c.requires.marks)
