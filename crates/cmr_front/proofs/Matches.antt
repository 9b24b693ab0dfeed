-- What `clap` promises of a parse, in terms of the command's arguments.
use Rattle.std.proofs.Common.{◌≡◌, ◌≢◌, inl, inr, refl, List, [], ◌∷◌, Option, Some, None, Result, Ok, Err, true, false, map, subst}
use Rattle.std.specs.Prelude.{IfOk}
use Rattle.std.specs.List.{list_any}
use Rattle.std.specs.Result.{IsErrAnd}
use Rattle.std.proofs.lemmas.Bool.{and_parts}
use Rattle.std.proofs.lemmas.List.{map-id}
use Rattle.clap.specs.Words.{App, HasKind, HasMatchesOf, IsAmong, Kinds, Row, Text, fault_of, found_of, is_simple, is_simple_and_free, kind_of, matches_of, rows_of}
use Rattle.clap.specs.declared.error.Error.{Error}
use Rattle.clap.specs.declared.error.kind.ErrorKind.{ErrorKind}
use Rattle.clap.specs.declared.error.kind.ErrorKind.TheVariants.{OutOfMemory}
use Rattle.clap.specs.declared.parser.matches.ArgMatches.{ArgMatches}
use Rattle.cmr_front.specs.declared.words.WordsError.{WordsError}
use Rattle.cmr_front.specs.declared.words.WordsError.TheVariants.{Refused, Memory}
use Rattle.cmr_front.specs.Words.Parsing.{faultless, is_dash, matches_in, matches_with_input}
use Rattle.cmr_front.specs.Words.ReadWords.{Gives, ◌>>=◌}

pub simple_of_free : (a : App) → is_simple_and_free a ≡ true → is_simple a ≡ true
simple_of_free a free = (and_parts _ _ free).0

-- a parse that succeeds
pub matches_found : (a : App) (words : List Text) (m : ArgMatches) → is_simple_and_free a ≡ true → list_any is_dash words ≡ false
    → fault_of a (map (λ word. word) words) ≡ [] → HasMatchesOf a (map (λ word. word) words) m → matches_in a words ≡ Some (rows_of (found_of m))
matches_found a words m free none faults found =
    let same : map (λ (word : Text). word) words ≡ words = map-id words in
    let taken : fault_of a words ≡ [] = subst (λ (ws : List Text). fault_of a ws ≡ []) same faults in
    let rows : rows_of (found_of m) ≡ matches_of a words = subst (λ (ws : List Text). rows_of (found_of m) ≡ matches_of a ws) same (found (simple_of_free a free)).0 in
    rw (none, taken, rows) refl

faultless-among : (k : ErrorKind) (faults : Kinds) (rows : List Row) → IsAmong k faults → faultless faults rows ≡ None
faultless-among k [] rows h = absurd h
faultless-among k (fault ∷ faults) rows h = refl

-- a parse that fails
pub matches_refused : (a : App) (words : List Text) (e : Error) (r : Result ArgMatches WordsError) → list_any is_dash words ≡ false
    → HasKind (fault_of a (map (λ word. word) words)) e → IsErrAnd r (λ w. w ≡ Refused → kind_of e ≢ OutOfMemory)
    → Gives (λ m. rows_of (found_of m)) r (matches_in a words)
matches_refused a words e (Ok m) none kind cause = absurd cause
matches_refused a words e (Err Memory) none kind cause = tt
matches_refused a words e (Err Refused) none (inl memory) cause = absurd (cause refl memory)
matches_refused a words e (Err Refused) none (inr among) cause =
    let fault : IsAmong (kind_of e) (fault_of a words) = subst (λ (ws : List Text). IsAmong (kind_of e) (fault_of a ws)) (map-id words) among in
    rw none (faultless-among (kind_of e) (fault_of a words) (matches_of a words) fault)

-- a reading that begins with the matches of a command without an argument `-`
pub Gives-matches_in : {X Y : Type 0} (view : X → Y) (a b : App) (words : List Text) (rows : List Row) (f : List Row → Option Y) (r : Result X WordsError)
    → a ≡ b → matches_in a words ≡ Some rows → Gives view r (f rows) → Gives view r (matches_in b words >>= f)
Gives-matches_in view a b words rows f r same found read =
    let taken : matches_in b words ≡ Some rows = subst (λ (x : App). matches_in x words ≡ Some rows) same found in
    rw taken read

-- and a reading that begins with the matches of a command whose last argument is [FILE]
pub Gives-matches_with_input : {X Y : Type 0} (view : X → Y) (a b : App) (words : List Text) (rows : List Row) (f : List Row → Option Y) (r : Result X WordsError)
    → a ≡ b → matches_with_input a words ≡ Some rows → Gives view r (f rows) → Gives view r (matches_with_input b words >>= f)
Gives-matches_with_input view a b words rows f r same found read =
    let taken : matches_with_input b words ≡ Some rows = subst (λ (x : App). matches_with_input x words ≡ Some rows) same found in
    rw taken read

-- a given value satisfies what every defined value satisfies
pub as_defined : {X Y : Type 0} (view : X → Y) (P : Y → Type 0) (r : Result X WordsError) (defined : Option Y) → Gives view r defined → ((y : Y) → defined ≡ Some y → P y) → IfOk r (λ x. P (view x))
as_defined view P (Ok x) defined gives each = each (view x) gives
as_defined view P (Err Refused) defined gives each = tt
as_defined view P (Err Memory) defined gives each = tt
