-- What a sequence of reads gives.
use Rattle.std.proofs.Common.{◌≡◌, ◌<◌, ◌≤◌, ◌+◌, ◌++◌, ◌∙◌, ℕ, zero, suc, Bool, IsTrue, List, [], ◌∷◌, length, map, take, slice_get, Some, get_or, ap, sym, subst, refl, arith, add-one}
use Rattle.std.proofs.lemmas.List.{append_assoc, length-append, map-append}
use Rattle.cmr_front.specs.declared.input.Input.{Input}
use Rattle.cmr_front.specs.declared.input.InputKind.TheVariants.{MatrixText}
use Rattle.cmr_front.specs.declared.input.Text.{Text}
use Rattle.cmr_front.specs.declared.outcome.Stop.{Stop}
use Rattle.cmr_front.specs.declared.outcome.Stop.TheVariants as stops
use Rattle.cmr_front.specs.Report.{Held}
use Rattle.cmr_front.specs.Inputs.{InputFile, Given, Reading, and_then, bytes_of, given, input_file, most_bytes, missing, above_limit, whole, not_there, too_much, texts, reading, reading_of, with_text}
use Rattle.cmr_io.specs.Calls.{next_number, up_to_last}
use Rattle.cmr_io.specs.Reads.{Reads}
use Rattle.cmr_front.specs.Outcome.{stop_report}
use Rattle.cmr_front.specs.Status.{failure_status}
use Rattle.cmr_front.specs.Stopped.{StopsInputs, StopsOnText, StopsReading}
use Rattle.cmr_front.specs.Unread.{AreNearlyWithin, AreRead, AreWithinLimits, Between, between, HaveBegun, HaveBegunWith, HaveGiven, IsNameAt}
use Rattle.cmr_front.specs.declared.status.Failure.TheVariants as failures

-- a place after the last file
abbrev pub no_input : Input
no_input = record { name = record { ref_ptr = (0, 0); now = [] }; kind = MatrixText }

abbrev pub file_at : List Input → ℕ → InputFile
file_at inputs k = input_file (get_or inputs k no_input)

module _ (held : Held) where
  abbrev pub given_of : List Input → Given
  given_of inputs = given held (map input_file inputs)

  -- after a file that exists
  one_text_more : (name : List ℕ) (read : Reading) (others all : Given) (before : List (List ℕ)) (bytes : List ℕ) → and_then name read others ≡ texts before
      → ((rest : List (List ℕ)) → others ≡ texts rest → all ≡ texts (rest ++ bytes ∷ [])) → and_then name read all ≡ texts (before ++ bytes ∷ [])
  one_text_more name missing others all before bytes e later = cc
  one_text_more name above_limit others all before bytes e later = cc
  one_text_more name (whole first) (not_there other) all before bytes e later = cc
  one_text_more name (whole first) (too_much other) all before bytes e later = cc
  one_text_more name (whole first) (texts rest) all before bytes e later =
      let same : before ≡ first ∷ rest = cc in
      ap (with_text first) (later rest refl) ∙ ap (λ (ts : List (List ℕ)). texts (ts ++ bytes ∷ [])) (sym same)

  still_unread : (name : List ℕ) (read : Reading) (others all : Given) (before : List (List ℕ)) (other : List ℕ) → and_then name read others ≡ texts before
      → ((rest : List (List ℕ)) → others ≡ texts rest → all ≡ not_there other) → and_then name read all ≡ not_there other
  still_unread name missing others all before other e later = cc
  still_unread name above_limit others all before other e later = cc
  still_unread name (whole first) (not_there _) all before other e later = cc
  still_unread name (whole first) (too_much _) all before other e later = cc
  still_unread name (whole first) (texts rest) all before other e later = ap (with_text first) (later rest refl)

  still_above : (name : List ℕ) (read : Reading) (others all : Given) (before : List (List ℕ)) (other : List ℕ) → and_then name read others ≡ texts before
      → ((rest : List (List ℕ)) → others ≡ texts rest → all ≡ too_much other) → and_then name read all ≡ too_much other
  still_above name missing others all before other e later = cc
  still_above name above_limit others all before other e later = cc
  still_above name (whole first) (not_there _) all before other e later = cc
  still_above name (whole first) (too_much _) all before other e later = cc
  still_above name (whole first) (texts rest) all before other e later = ap (with_text first) (later rest refl)

  -- one more text
  one_more : (inputs : List Input) (k : ℕ) (before : List (List ℕ)) (bytes : List ℕ) → k < length inputs
      → given_of (take k inputs) ≡ texts before → reading held (file_at inputs k) ≡ whole bytes → given_of (take (suc k) inputs) ≡ texts (before ++ bytes ∷ [])
  one_more [] k before bytes h e f = absurd (omega arith)
  one_more (input ∷ inputs) zero before bytes h e f =
      let none : before ≡ [] = cc in
      rw (f, none) refl
  one_more (input ∷ inputs) (suc k) before bytes h e f =
      one_text_more input.name.now (reading held (input_file input)) (given_of (take k inputs)) (given_of (take (suc k) inputs)) before bytes e (λ rest is. one_more inputs k rest bytes (omega arith) is f)

  -- a file that does not exist, after files that exist
  stops_unread : (inputs : List Input) (k : ℕ) (before : List (List ℕ)) → k < length inputs
      → given_of (take k inputs) ≡ texts before → reading held (file_at inputs k) ≡ missing → given_of inputs ≡ not_there (file_at inputs k).name
  stops_unread [] k before h e f = absurd (omega arith)
  stops_unread (input ∷ inputs) zero before h e f = rw f refl
  stops_unread (input ∷ inputs) (suc k) before h e f =
      still_unread input.name.now (reading held (input_file input)) (given_of (take k inputs)) (given_of inputs) before (file_at inputs k).name e (λ rest is. stops_unread inputs k rest (omega arith) is f)

  -- a file that holds too much
  stops_above : (inputs : List Input) (k : ℕ) (before : List (List ℕ)) → k < length inputs
      → given_of (take k inputs) ≡ texts before → reading held (file_at inputs k) ≡ above_limit → given_of inputs ≡ too_much (file_at inputs k).name
  stops_above [] k before h e f = absurd (omega arith)
  stops_above (input ∷ inputs) zero before h e f = rw f refl
  stops_above (input ∷ inputs) (suc k) before h e f =
      still_above input.name.now (reading held (input_file input)) (given_of (take k inputs)) (given_of inputs) before (file_at inputs k).name e (λ rest is. stops_above inputs k rest (omega arith) is f)

name_at : (inputs : List Input) (k : ℕ) → k < length inputs → IsNameAt (map input_file inputs) k (file_at inputs k).name
name_at [] k h = absurd (omega arith)
name_at (input ∷ inputs) zero h = refl
name_at (input ∷ inputs) (suc k) h = name_at inputs k (omega arith)

-- the reading of a file while the contents of the names stay the same
same_reading : (held mid : Held) → ((name : List ℕ) → mid name ≡ held name) → (file : InputFile) → reading held file ≡ reading mid file
same_reading held mid same file = ap (reading_of (most_bytes file.kind)) (sym (same file.name))

pub texts_more : (held mid : Held) (inputs : List Input) (k : ℕ) (old new : List Text) (text : Text) → k < length inputs → ((name : List ℕ) → mid name ≡ held name)
    → given held (map input_file (take k inputs)) ≡ texts (map bytes_of old) → reading mid (file_at inputs k) ≡ whole (bytes_of text) → new ≡ old ++ text ∷ []
    → given held (map input_file (take (k + 1) inputs)) ≡ texts (map bytes_of new)
texts_more held mid inputs k old new text h same before here more =
    rw (more, map-append bytes_of old (text ∷ []), add-one)
    (one_more held inputs k (map bytes_of old) (bytes_of text) h before (same_reading held mid same (file_at inputs k) ∙ here))

-- one more read has reached its end
pub one_more_ended : (before mid after k : ℕ) → up_to_last mid ≡ up_to_last (before + k) → after ≡ next_number mid → up_to_last after ≡ up_to_last (before + (k + 1))
one_more_ended before mid after k so_far more = omega (arith, so_far, more)

abbrev pub names_of : List Input → List (List ℕ)
names_of inputs = map (λ (file : InputFile). file.name) (map input_file inputs)

one_name_more : (inputs : List Input) (k : ℕ) → k < length inputs → take k (names_of inputs) ++ (file_at inputs k).name ∷ [] ≡ take (suc k) (names_of inputs)
one_name_more [] k h = absurd (omega arith)
one_name_more (input ∷ inputs) zero h = refl
one_name_more (input ∷ inputs) (suc k) h = ap (λ (names : List (List ℕ)). input.name.now ∷ names) (one_name_more inputs k (omega arith))

-- one more read was begun, the read of the next file
pub one_more_begun : (before mid after : Reads) (inputs : List Input) (k : ℕ) → k < length inputs → HaveBegun (map input_file inputs) k (between before mid)
    → after.names ≡ mid.names ++ (file_at inputs k).name ∷ [] → HaveBegun (map input_file inputs) (k + 1) (between before after)
one_more_begun before mid after inputs k h so_far more =
    more ∙ ap (λ (names : List (List ℕ)). names ++ (file_at inputs k).name ∷ []) so_far
    ∙ append_assoc before.names (take k (names_of inputs)) ((file_at inputs k).name ∷ [])
    ∙ ap (λ (names : List (List ℕ)). before.names ++ names) (one_name_more inputs k h ∙ ap (λ (n : ℕ). take n (names_of inputs)) (sym (add-one k)))

-- one more text, within the limit of its file
within_more : (inputs : List Input) (k : ℕ) (bytes : List (List ℕ)) (text : List ℕ) → k < length inputs → length bytes ≡ k
    → AreWithinLimits (map input_file inputs) bytes → length text ≤ most_bytes (file_at inputs k).kind
    → AreWithinLimits (map input_file inputs) (bytes ++ text ∷ [])
within_more [] k bytes text h count within here = absurd (omega arith)
within_more (input ∷ inputs) zero [] text h count within here = (here, tt)
within_more (input ∷ inputs) zero (first ∷ bytes) text h count within here = absurd (omega arith)
within_more (input ∷ inputs) (suc k) [] text h count within here = absurd (omega arith)
within_more (input ∷ inputs) (suc k) (first ∷ bytes) text h count within here = (within.0, within_more inputs k bytes text (omega arith) (omega arith) within.1 here)

-- one more text, at most one byte longer than the limit of its file
nearly_more : (inputs : List Input) (k : ℕ) (bytes : List (List ℕ)) (text : List ℕ) → k < length inputs → length bytes ≡ k
    → AreNearlyWithin (map input_file inputs) bytes → length text ≤ most_bytes (file_at inputs k).kind + 1
    → AreNearlyWithin (map input_file inputs) (bytes ++ text ∷ [])
nearly_more [] k bytes text h count within here = absurd (omega arith)
nearly_more (input ∷ inputs) zero [] text h count within here = (here, tt)
nearly_more (input ∷ inputs) zero (first ∷ bytes) text h count within here = absurd (omega arith)
nearly_more (input ∷ inputs) (suc k) [] text h count within here = absurd (omega arith)
nearly_more (input ∷ inputs) (suc k) (first ∷ bytes) text h count within here = (within.0, nearly_more inputs k bytes text (omega arith) (omega arith) within.1 here)

pub nearly_within : (files : List InputFile) (bytes : List (List ℕ)) → AreWithinLimits files bytes → AreNearlyWithin files bytes
nearly_within files [] within = tt
nearly_within [] (text ∷ bytes) within = absurd within
nearly_within (file ∷ files) (text ∷ bytes) within = let here = within.0 in (omega (arith, here), nearly_within files bytes within.1)

-- the reads that were begun have given these texts
pub begun_with : (files : List InputFile) (bytes : List (List ℕ)) (count : ℕ) (reads : Between) → length bytes ≡ count → HaveBegun files count reads
    → HaveGiven files bytes reads → HaveBegunWith files bytes reads
begun_with files bytes count reads is begun gave = record {
  have_begun = subst (λ (n : ℕ). HaveBegun files n reads) (sym is) begun;
  given = gave.given;
  nearly = nearly_within files bytes gave.within;
}

-- one more read has given its text
pub one_more_given : (before mid after : Reads) (inputs : List Input) (k : ℕ) (bytes : List (List ℕ)) (text : List ℕ) → k < length inputs → length bytes ≡ k
    → HaveGiven (map input_file inputs) bytes (between before mid) → after.texts ≡ mid.texts ++ text ∷ [] → length text ≤ most_bytes (file_at inputs k).kind
    → HaveGiven (map input_file inputs) (bytes ++ text ∷ []) (between before after)
one_more_given before mid after inputs k bytes text h count so_far more here = record {
  given = more ∙ ap (λ (texts : List (List ℕ)). texts ++ text ∷ []) so_far.given ∙ append_assoc before.texts bytes (text ∷ []);
  within = within_more inputs k bytes text h count so_far.within here;
}

there_at : (inputs : List Input) (k : ℕ) → k < length inputs → slice_get (map input_file inputs) k ≡ Some (file_at inputs k)
there_at [] k h = absurd (omega arith)
there_at (input ∷ inputs) zero h = refl
there_at (input ∷ inputs) (suc k) h = there_at inputs k (omega arith)

-- the files before the first one that stops
take_files : (inputs : List Input) (k : ℕ) → take k (map input_file inputs) ≡ map input_file (take k inputs)
take_files [] zero = refl
take_files [] (suc k) = refl
take_files (input ∷ inputs) zero = refl
take_files (input ∷ inputs) (suc k) = ap (λ (files : List InputFile). input_file input ∷ files) (take_files inputs k)

module _ (held mid : Held) (tells tells' calm calm' : Bool) (inputs : List Input) (k : ℕ) (before : List (List ℕ)) (reads : Between) (failed : Bool) where
  pub stopped_at : (stop : Stop) → k < length inputs → ((name : List ℕ) → mid name ≡ held name) → (IsTrue tells → IsTrue tells') → (IsTrue calm → IsTrue calm')
      → (IsTrue tells → given held (map input_file (take k inputs)) ≡ texts before) → AreRead (map input_file inputs) (k + 1) k reads
      → (mid_texts : List (List ℕ)) → length before ≡ k → mid_texts ≡ reads.before.texts ++ before → AreWithinLimits (map input_file inputs) before
      → StopsOnText (file_at inputs k) mid_texts reads.after.texts stop
      → ((stop_report stop).status ≡ failure_status failures.Device → IsTrue failed)
      → StopsReading (file_at inputs k) mid tells' calm' stop → StopsInputs (map input_file inputs) held tells calm reads failed stop
  stopped_at stops.BadWords h same told is_calm read up_to mid_texts count so_far within gave cause stopped = stopped
  stopped_at (stops.CannotRead name) h same told is_calm read up_to mid_texts count so_far within gave cause stopped = record {
    place = k;
    named = subst (IsNameAt (map input_file inputs) k) (sym stopped.0) (name_at inputs k h);
    read = up_to;
    part = record {
      bytes = before;
      last = gave.0;
      file = file_at inputs k;
      count = count;
      given = gave.1 ∙ ap (λ (texts : List (List ℕ)). texts ++ gave.0 ∷ []) so_far ∙ append_assoc reads.before.texts before (gave.0 ∷ []);
      within = within;
      there = there_at inputs k h;
      size = gave.2;
    };
    cause = cause refl;
    there = λ t. (before, ap (given held) (take_files inputs k) ∙ read t);
    missing = λ t c.
        stops_unread held inputs k before h (read t) (same_reading held mid same (file_at inputs k) ∙ stopped.1 (told t) (is_calm c)) ∙ ap not_there (sym stopped.0);
  }
  stopped_at (stops.TooLong name) h same told is_calm read up_to mid_texts count so_far within gave cause stopped = (
    k,
    subst (IsNameAt (map input_file inputs) k) (sym stopped.0) (name_at inputs k h),
    up_to,
    record {
      bytes = before;
      last = gave.0;
      file = file_at inputs k;
      count = count;
      given = gave.1 ∙ ap (λ (texts : List (List ℕ)). texts ++ gave.0 ∷ []) so_far ∙ append_assoc reads.before.texts before (gave.0 ∷ []);
      within = within;
      there = there_at inputs k h;
      size = gave.2;
    },
    (λ t.
        stops_above held inputs k before h (read t) (same_reading held mid same (file_at inputs k) ∙ stopped.1 (told t)) ∙ ap too_much (sym stopped.0)),
  )
  stopped_at (stops.BadText name kind place) h same told is_calm read up_to mid_texts count so_far within gave cause stopped = stopped
  stopped_at stops.Memory h same told is_calm read up_to mid_texts count so_far within gave cause stopped =
      let all : length (before ++ gave.0 ∷ []) ≡ k + 1 = omega (arith, count, length-append before (gave.0 ∷ [])) in (
        before ++ gave.0 ∷ [],
        record {
          have_begun = subst (λ (n : ℕ). HaveBegun (map input_file inputs) n reads) (sym all) up_to.have_begun;
          given = gave.1 ∙ ap (λ (texts : List (List ℕ)). texts ++ gave.0 ∷ []) so_far ∙ append_assoc reads.before.texts before (gave.0 ∷ []);
          nearly = nearly_more inputs k before gave.0 h count (nearly_within (map input_file inputs) before within) gave.2;
        },
      )
