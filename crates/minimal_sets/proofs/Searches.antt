-- A search that gives nothing if and only if a property fails decides the property.
use Rattle.std.proofs.Common.{◌↔◌, Option, Some, None, is_some, MatchOption, IsTrue, refl, sym}
use Rattle.std.proofs.lemmas.Bool.{true≢false}

pub found_decides : {A : Type 0} (Q : Type 0) (Fits : A → Type 0) (found : Option A) → MatchOption found (¬ Q) Fits → ((x : A) → Fits x → Q) → IsTrue (is_some found) ↔ Q
found_decides Q Fits None none has = ((λ t. absurd (true≢false (sym t))), (λ q. absurd (none q)))
found_decides Q Fits (Some x) fits has = ((λ t. has x fits), (λ q. refl))
