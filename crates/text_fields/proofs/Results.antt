-- Results, one after another.
use Rattle.std.proofs.Common.{◌≡◌, Bool, true, false, cond, Result, Ok, Err, refl}
use Rattle.text_fields.specs.Result.{◌>>=◌, renamed}

pub bind-same : {A B E : Type 0} (r : Result A E) (f g : A → Result B E) → ((x : A) → r ≡ Ok x → f x ≡ g x) → (r >>= f) ≡ (r >>= g)
bind-same (Ok x) f g same = same x refl
bind-same (Err e) f g same = refl

pub ok_same : {A E : Type 0} (x y : A) → ◌≡◌ {A = Result A E} (Ok x) (Ok y) → x ≡ y
ok_same x y h = cc

-- the result before an Ok was Ok
pub bind_ok : {A B E : Type 0} (r : Result A E) (f : A → Result B E) (y : B) → (r >>= f) ≡ Ok y → (x : A) × (r ≡ Ok x) × (f x ≡ Ok y)
bind_ok (Ok x) f y h = (x, refl, h)
bind_ok (Err e) f y h = absurd (cc)

pub renamed_ok : {A J K : Type 0} (name : J → K) (r : Result A J) (x : A) → renamed name r ≡ Ok x → r ≡ Ok x
renamed_ok name (Ok y) x h = let e : y ≡ x = ok_same y x h in rw e refl
renamed_ok name (Err fault) x h = absurd (cc)

-- the test of a guard that passed is true, and the test of a bar that passed is false
pub guard_ok : {A E : Type 0} (t : Bool) (x y : A) (e : E) → cond t (Ok x) (Err e) ≡ Ok y → (t ≡ true) × (x ≡ y)
guard_ok true x y e h = (refl, ok_same x y h)
guard_ok false x y e h = absurd (cc)

pub bar_ok : {A E : Type 0} (t : Bool) (x y : A) (e : E) → cond t (Err e) (Ok x) ≡ Ok y → (t ≡ false) × (x ≡ y)
bar_ok true x y e h = absurd (cc)
bar_ok false x y e h = (refl, ok_same x y h)
