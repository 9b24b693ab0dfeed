-- Drawn numbers, one after another.
use Rattle.std.proofs.Common.{◌≡◌, ◌<◌, ◌≤◌, ◌+◌, ◌-◌, ◌*◌, ◌/◌, ◌%◌, ◌^◌, ◌∙◌, ◌++◌, ℕ, zero, suc, List, [], ◌∷◌, length, get_or, refl, ap, sym, subst, arith}
use Rattle.std.proofs.lemmas.List.{append_assoc}
use Rattle.std.proofs.lemmas.Nat.{mod_below}
use Rattle.std.proofs.Math.Nat.{suc-mul, zero-mul}
use Rattle.cmr_base.specs.Draws.{next_state, draw, draws}

-- the numbers so far, followed by the numbers drawn from this state, are all numbers
pub record AreDrawn (n bound step state : ℕ) (k bound' state' : ℕ) (drawn : List ℕ) : Type 0 where
  pub numbers_are : drawn ++ (draws (n - k) bound' step state').0 ≡ (draws n bound step state).0
  pub state_is : (draws (n - k) bound' step state').1 ≡ (draws n bound step state).1
  pub low_state : state' < 2 ^ 31
  pub low : 1 ≤ bound'
  pub high : bound' ≤ 1001 + k

pub one_drawn : (n bound step state k bound' state' : ℕ) (numbers : List ℕ) → step ≤ 1 → k < n → AreDrawn n bound step state k bound' state' numbers → next_state state' < 2 ^ 31
    → AreDrawn n bound step state (k + 1) (bound' + step) (next_state state') (numbers ++ (next_state state' / 1024) % bound' ∷ [])
one_drawn n bound step state k bound' state' numbers few h before low =
    let e : n - k ≡ suc (n - (k + 1)) = omega (arith, h) in
    let left = n - (k + 1) in
    record {
      numbers_are = append_assoc numbers ((next_state state' / 1024) % bound' ∷ []) (draws left (bound' + step) step (next_state state')).0
          ∙ ap (λ (count : ℕ). numbers ++ (draws count bound' step state').0) (sym e) ∙ before.numbers_are;
      state_is = ap (λ (count : ℕ). (draws count bound' step state').1) (sym e) ∙ before.state_is;
      low_state = low;
      low = let l = before.low in omega (arith, l);
      high = let t = before.high in omega (arith, t, few);
    }

pub drawn_on : (n bound step state k bound' state' number new : ℕ) (numbers numbers' : List ℕ) → step ≤ 1 → k < n → AreDrawn n bound step state k bound' state' numbers → new < 2 ^ 31
    → number ≡ (draw bound' state').0 → new ≡ (draw bound' state').1 → numbers' ≡ numbers ++ number ∷ [] → AreDrawn n bound step state (k + 1) (bound' + step) new numbers'
drawn_on n bound step state k bound' state' number new numbers numbers' few h before low e f g =
    subst (λ (xs : List ℕ). AreDrawn n bound step state (k + 1) (bound' + step) new xs) (sym g)
    (subst (λ (now : ℕ). AreDrawn n bound step state (k + 1) (bound' + step) now (numbers ++ number ∷ [])) (sym f)
    (subst (λ (x : ℕ). AreDrawn n bound step state (k + 1) (bound' + step) (next_state state') (numbers ++ x ∷ [])) (sym e)
    (one_drawn n bound step state k bound' state' numbers few h before (subst (λ (now : ℕ). now < 2 ^ 31) f low))))

-- ---- the count and the bounds of the numbers

pub length-draws : (n bound step state : ℕ) → length (draws n bound step state).0 ≡ n
length-draws zero bound step state = refl
length-draws (suc n) bound step state = ap suc (length-draws n (bound + step) step (next_state state))

pub draws_below : (n bound step state k : ℕ) → 1 ≤ bound → k < n → get_or (draws n bound step state).0 k 0 < bound + k * step
draws_below zero bound step state k low h = absurd (omega (arith, h))
draws_below (suc n) bound step state zero low h = let e = mod_below (next_state state / 1024) bound low in omega (arith, e, zero-mul step)
draws_below (suc n) bound step state (suc k) low h =
    let e = draws_below n (bound + step) step (next_state state) k (omega (arith, low)) (omega (arith, h)) in
    omega (arith, e, suc-mul k step)
