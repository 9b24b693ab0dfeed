-- Runs of numbers in rows; each row has one run for each worker.
use Rattle.std.proofs.Common.{ℕ, ◌≡◌, ◌<◌, ◌≤◌, ◌↔◌, ◌+◌, ◌-◌, ◌*◌, ◌/◌, ◌%◌, inl, inr, Option, Some, None, ap, arith}
use Rattle.std.proofs.lemmas.Bool.{cases_lt}
use Rattle.std.proofs.lemmas.Nat.{div-add-mod'}
use Rattle.std.proofs.Math.Nat.{mod-lt, lt-div-mul-add, div-lt_iff_lt-mul, div-mul-le_self}
use Rattle.first_hit.specs.declared.round.Round.{Round}
use Rattle.first_hit.specs.First.{NoneBetween, IsFirst}
use Rattle.first_hit.specs.WorkerRuns.{IsFirstInRuns, NoneInRows, run_start}

-- ---- the whole round

whole : (holds : ℕ → Type 0) (round : Round) (bound : ℕ) → bound ≤ round.to → NoneInRows holds round round.rows 0 round.workers bound → NoneBetween holds round.from bound
whole holds round bound under none k low high =
    let d = k - round.from in
    let c = d / round.run in
    let row = c / round.workers in
    let worker = c % round.workers in
    let some_run = round.some_run in
    let some_workers = round.some_workers in
    let inside : d < round.rows * round.workers * round.run = omega (arith, round.covered) in
    let places : (c < round.rows * round.workers) ↔ (d < round.rows * round.workers * round.run) = div-lt_iff_lt-mul (omega arith) in
    let place : c < round.rows * round.workers = places.1 inside in
    let rows : (row < round.rows) ↔ (c < round.rows * round.workers) = div-lt_iff_lt-mul (omega arith) in
    let in_rows : row < round.rows = rows.1 place in
    let in_workers : worker < round.workers = mod-lt c (omega arith) in
    let at : row * round.workers + worker ≡ c = div-add-mod' c round.workers in
    let begins : c * round.run ≤ d = div-mul-le_self d round.run in
    let ends : d < c * round.run + round.run = lt-div-mul-add (omega arith) in
    let start : run_start round row worker ≡ round.from + c * round.run = ap (λ (a : ℕ). round.from + a * round.run) at in
    none row worker k in_rows (omega arith) in_workers (omega (arith, start, begins)) (omega (arith, start, ends)) high

pub first_of_round : (holds : ℕ → Type 0) (round : Round) (answer : Option ℕ) → IsFirstInRuns holds round 0 round.workers answer → IsFirst holds round.from round.to answer
first_of_round holds round None none = whole holds round round.to (omega arith) none
first_of_round holds round (Some k) found = (found.0, found.1, found.2, whole holds round k (omega (arith, found.1)) found.3)

pub none_longer : (holds : ℕ → Type 0) (from middle to : ℕ) → NoneBetween holds from middle → NoneBetween holds middle to → NoneBetween holds from to
none_longer holds from middle to one two k low high = elim (cases_lt k middle) [
  | inl less ↦ one k low less
  | inr past ↦ two k past high
]
