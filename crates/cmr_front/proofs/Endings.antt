-- How a run ends, from what was decided and how that was carried out.
use Rattle.std.proofs.Common.{◌≡◌, ◌≤◌, ◌⊎◌, ◌∙◌, ℕ, Bool, IsTrue, List, [], length, Result, Ok, Err, ap, sym, subst, inl, inr, arith, refl}
use Rattle.std.proofs.lemmas.List.{append-nil, nil_from_length}
use Rattle.std.specs.Prelude.{IfErr, OnErr}
use Rattle.std.specs.Result.{IsErr, IsErrAnd}
use Rattle.cmr_io.specs.Causes.{Rose}
use Rattle.cmr_io.specs.Log.{Log}
use Rattle.cmr_io.specs.Reads.{Reads}
use Rattle.cmr_io.proofs.CauseLemmas.{rose_later, rose_until}
use Rattle.cmr_front.specs.declared.outcome.Outcome.{Outcome}
use Rattle.cmr_front.specs.declared.outcome.Stop.{Stop}
use Rattle.cmr_front.specs.declared.outcome.Stop.TheVariants as stops
use Rattle.cmr_front.specs.declared.status.Answer.{Answer}
use Rattle.cmr_front.specs.declared.status.Failure.TheVariants as failures
use Rattle.cmr_front.specs.Ending.{Devices, Standing, Telling, telling_of, IsDelivered, IsReadyFor, IsCarriedOut, delivered, unwritten, cut_short, CarriesOut}
use Rattle.cmr_front.specs.Inputs.{Given, given, not_there, too_much, texts}
use Rattle.cmr_front.specs.Outcome.{ended_report, outcome_report, bad_words, too_long, bad_text, stop_report}
use Rattle.cmr_front.specs.Report.{Held, Report, after_files}
use Rattle.cmr_front.specs.Run.{Ordered, nothing, work, IsNothing, IsReportOf, Reports, ReportsGiven, ReportsSome, Means, MeansRead, BeginsInOrder, gives_answer, names_fault, names_too_long, CannotRead, HasEnded, reported, unread, no_memory, Ends, Runs}
use Rattle.cmr_front.specs.Status.{IsStatus, answer_status, failure_status}
use Rattle.cmr_front.specs.Tool.{IsDecision, IsLawful, Tool}
use Rattle.cmr_front.specs.Stopped.{StopsInputs}
use Rattle.cmr_front.specs.Unread.{AreAllRead, Between, between, HaveGiven}
use Rattle.cmr_front.proofs.Inputs.{begun_with}
use Rattle.cmr_front.proofs.Statuses.{answered_or_failed, status_of}

pub pointwise : {A B : Type 0} (f g : A → B) → ((x : A) → f x ≡ g x) → f ≡ g
pointwise f g h = λ i. λ x. h x i

-- an error that is passed on is the given error
pub passed_on : (D : Result Outcome Stop → Type 0) (r : Result Outcome Stop) (stop : Stop) → IsErr r × IsErrAnd r (λ e. e ≡ stop) → D (Err stop) → D r
passed_on D (Ok outcome) stop h d = let e = h.0 in cc
passed_on D (Err e) stop h d = subst (λ s. D (Err s)) (sym h.1) d

-- what is ordered is a lawful tool, or nothing
abbrev pub IsLawfulOrder : Ordered → Type 0
IsLawfulOrder nothing = Unit {0}
IsLawfulOrder (work tool) = IsLawful tool

-- the devices after the files were read
abbrev pub after_reading : Devices → Held → Reads → Log → Bool → ℕ → Devices
after_reading before held reads writes failed faults = record before { held = held; reads = reads; writes = writes; failed = failed; shelf_faults = faults }

-- What was decided, from the devices before the run to the devices after the files were read.
pub record IsDecided (ordered : Ordered) (standing : Standing) (before mid : Devices) (ended : Result Outcome Stop) : Type 0 where
  pub lawful : IsLawfulOrder ordered
  pub told : IsTrue standing.shelf_is_calm → IsTrue standing.shelf_tells
  pub ends : Ends ordered before.held standing.shelf_tells standing.shelf_is_calm (between before.reads mid.reads) mid.failed ended
  pub content : (name : List ℕ) → mid.held name ≡ before.held name
  pub writes : mid.writes ≡ before.writes
  pub later : before.shelf_faults ≤ mid.shelf_faults
  pub refused : IsNothing ordered → (ended ≡ Err stops.BadWords) ⊎ (ended ≡ Err stops.Memory)
  pub cause : (ended_report ended).status ≡ failure_status failures.Device → Rose before.shelf_faults mid.shelf_faults

-- How that was carried out.
pub record WasCarriedOut (standing : Standing) (ended : Result Outcome Stop) (mid after : Devices) (status : ℕ) : Type 0 where
  pub carried_out : CarriesOut ended (telling_of standing) mid after status
  pub given : (status ≡ (ended_report ended).status) ⊎ ((status ≡ failure_status failures.Device) × (Rose mid.shelf_faults after.shelf_faults ⊎ Rose mid.output_faults after.output_faults))
  pub ready : IsReadyFor (ended_report ended) standing → status ≡ (ended_report ended).status
  pub stopped : IfErr ended (λ stop. status ≡ (stop_report stop).status)
  pub reads : after.reads ≡ mid.reads
  pub failed : OnErr ended (after.failed ≡ mid.failed)
  pub later : mid.shelf_faults ≤ after.shelf_faults

has_ended : (ordered : Ordered) (standing : Standing) (ended : Result Outcome Stop) (before after : Devices) (status : ℕ)
    → Ends ordered before.held standing.shelf_tells standing.shelf_is_calm (between before.reads after.reads) after.failed ended → CarriesOut ended (telling_of standing) before after status
    → ((ended_report ended).status ≡ failure_status failures.Device → Rose before.shelf_faults after.shelf_faults)
    → HasEnded ordered standing before after status
has_ended ordered standing (Ok outcome) before after status ends done cause = reported (outcome_report outcome) ends.0 ends.1 done
has_ended nothing standing (Err stops.BadWords) before after status ends done cause = reported bad_words (refl, ends.1) (λ told. refl) (delivered done.0 done.1)
has_ended (work tool) standing (Err stops.BadWords) before after status ends done cause = absurd ends.0
has_ended ordered standing (Err (stops.TooLong name)) before after status ends done cause = reported (too_long name.now) ends.0 ends.1 (delivered done.0 done.1)
has_ended ordered standing (Err (stops.BadText name kind place)) before after status ends done cause = reported (bad_text name.now kind place) ends.0 ends.1 (delivered done.0 done.1)
has_ended ordered standing (Err (stops.CannotRead name)) before after status ends done cause = unread name.now ends (cause refl) done.0 done.1
has_ended ordered standing (Err stops.Memory) before after status ends done cause = no_memory ends done.0 done.1

-- an end whose carrying out changes no reads; if it is a stop, the last call stays the same too
ends_after : (ordered : Ordered) (held : Held) (tells calm : Bool) (before mid after : Reads) (failed still : Bool) (ended : Result Outcome Stop) → after ≡ mid → OnErr ended (still ≡ failed)
    → Ends ordered held tells calm (between before mid) failed ended → Ends ordered held tells calm (between before after) still ended
ends_after ordered held tells calm before mid after failed still (Ok outcome) same stays ends =
    subst (λ reads. Ends ordered held tells calm (between before reads) still (Ok outcome)) (sym same) ends
ends_after ordered held tells calm before mid after failed still (Err stop) same stays ends =
    subst (λ reads. Ends ordered held tells calm (between before reads) still (Err stop)) (sym same)
    (subst (λ last. Ends ordered held tells calm (between before mid) last (Err stop)) (sym stays) ends)

-- seen from before a read: a read changes no file and begins no write
seen_from : (ended : Result Outcome Stop) (tells : Telling) (before : Devices) (held : Held) (reads : Reads) (writes : Log) (failed : Bool) (faults : ℕ) (after : Devices) (status : ℕ)
    → held ≡ before.held → writes ≡ before.writes → before.shelf_faults ≤ faults
    → CarriesOut ended tells (after_reading before held reads writes failed faults) after status → CarriesOut ended tells before after status
seen_from ended tells before held reads writes failed faults after status same as_before h done =
    later ended after status
    (subst (λ log. CarriesOut ended tells (after_reading before before.held reads log failed faults) after status) as_before
    (subst (λ f. CarriesOut ended tells (after_reading before f reads writes failed faults) after status) same done))
  where
    seen : (report : Report) (after : Devices) → IsDelivered report tells (after_reading before before.held reads before.writes failed faults) after → IsDelivered report tells before after
    seen report after d = record { files = d.files; writes = d.writes; output = d.output; output_taken = d.output_taken; error = d.error; error_taken = d.error_taken }

    carried : (report : Report) (after : Devices) (status : ℕ)
        → IsCarriedOut report tells (after_reading before before.held reads before.writes failed faults) after status
        → IsCarriedOut report tells before after status
    carried report after status (delivered e d) = delivered e (seen report after d)
    carried report after status (unwritten e u) = unwritten e (record {
      place = u.place;
      file = u.file;
      there = u.there;
      left = u.left;
      writes = u.writes;
      failed = u.failed;
      output = u.output;
      output_taken = u.output_taken;
      error = u.error;
      error_taken = u.error_taken;
      cause = rose_later before.shelf_faults faults after.shelf_faults h u.cause;
    })
    carried report after status (cut_short e c) = cut_short e (record {
      files = c.files;
      writes = c.writes;
      output = c.output;
      output_taken = c.output_taken;
      error = c.error;
      error_taken = c.error_taken;
      cause = c.cause;
    })

    later : (ended : Result Outcome Stop) (after : Devices) (status : ℕ)
        → CarriesOut ended tells (after_reading before before.held reads before.writes failed faults) after status → CarriesOut ended tells before after status
    later (Ok outcome) after status done = carried (outcome_report outcome) after status done
    later (Err stop) after status done = (done.0, seen (stop_report stop) after done.1)

-- the statuses with which no write is begun
abbrev WritesNothing : ℕ → Type 0
WritesNothing status = (status ≡ failure_status failures.Words) ⊎ (status ≡ failure_status failures.Text) ⊎ (status ≡ failure_status failures.Memory)

none_by_answer : (status : ℕ) (answer : Answer) → status ≡ answer_status answer → WritesNothing status → ⊥
none_by_answer status answer e (inl words) = answered_or_failed status answer failures.Words e words
none_by_answer status answer e (inr (inl text)) = answered_or_failed status answer failures.Text e text
none_by_answer status answer e (inr (inr memory)) = answered_or_failed status answer failures.Memory e memory

none_by_device : (status : ℕ) → status ≡ failure_status failures.Device → WritesNothing status → ⊥
none_by_device status e (inl words) = omega (arith, e, words)
none_by_device status e (inr (inl text)) = omega (arith, e, text)
none_by_device status e (inr (inr memory)) = omega (arith, e, memory)

-- a stop writes no file
no_files : (stop : Stop) → (stop_report stop).files ≡ []
no_files stops.BadWords = refl
no_files (stops.CannotRead name) = refl
no_files (stops.TooLong name) = refl
no_files (stops.BadText name kind place) = refl
no_files stops.Memory = refl

none_written : (ended : Result Outcome Stop) (tells : Telling) (before after : Devices) (status : ℕ) → CarriesOut ended tells before after status → WritesNothing status → after.writes ≡ before.writes
none_written (Ok outcome) tells before after status (delivered e d) is = absurd (none_by_answer status outcome.answer e is)
none_written (Ok outcome) tells before after status (unwritten e u) is = absurd (none_by_device status e is)
none_written (Ok outcome) tells before after status (cut_short e c) is = absurd (none_by_device status e is)
none_written (Err stop) tells before after status done is = done.1.writes ∙ ap (after_files before.writes) (no_files stop)

-- no read is begun if the reads have not changed
pub none_begun : (ordered : Ordered) (before after : Reads) → after ≡ before → BeginsInOrder ordered (between before after)
none_begun nothing before after same = same
none_begun (work tool) before after same = (
  [],
  record {
    have_begun = ap (λ (reads : Reads). reads.names) same ∙ sym (append-nil before.names);
    given = ap (λ (reads : Reads). reads.texts) same ∙ sym (append-nil before.texts);
    nearly = tt;
  },
)

-- an allocation fails before a read is begun, for every order
pub refused_memory : (ordered : Ordered) (standing : Standing) (before after : Devices) (status : ℕ) → after.reads ≡ before.reads
    → CarriesOut (Err stops.Memory) (telling_of standing) before after status → Runs ordered standing before after status
refused_memory ordered standing before after status same done = record {
  ended = no_memory (none_begun ordered before.reads after.reads same) done.0 done.1;
  means = λ answer is. absurd (answered_or_failed status answer failures.Memory is done.0);
  complete = λ told report is. inr (inr done.0);
  ready = λ report is room. inr done.0;
  none_written = λ is. done.1.writes;
  refused = λ none. inr done.0;
  refused_only = λ words. absurd (omega (arith, words, done.0));
  device = λ device. absurd (omega (arith, device, done.0));
  statuses = inr (failures.Memory, done.0);
}

-- all reports of an order have one status
one_of_given : (tool : Tool) → IsLawful tool → (read : Given) (r s : Report) → ReportsGiven tool read r → ReportsGiven tool read s → r.status ≡ s.status
one_of_given tool law (not_there name) r s a b = absurd a
one_of_given tool law (too_much name) r s a b = status_of r _ a ∙ sym (status_of s _ b)
one_of_given tool law (texts bytes) r s a b = law.one_status bytes r s a b

one_status : (ordered : Ordered) → IsLawfulOrder ordered → (held : Held) (r s : Report) → Reports ordered held r → Reports ordered held s → r.status ≡ s.status
one_status nothing law held r s a b = status_of r _ a ∙ sym (status_of s _ b)
one_status (work tool) law held r s a b = one_of_given tool law (given held tool.inputs) r s a b

-- what was decided is a report with the status of each
record IsReported (ordered : Ordered) (held : Held) (ended report : Report) : Type 0 where
  reports : Reports ordered held ended
  status : ended.status ≡ report.status

is_reported : (ordered : Ordered) → IsLawfulOrder ordered → (held : Held) (ended report : Report) → Reports ordered held ended → Reports ordered held report → IsReported ordered held ended report
is_reported ordered law held ended report a b = record { reports = a; status = one_status ordered law held ended report a b }

-- a missing file has no report
none_of_missing : (ordered : Ordered) (held : Held) (tells calm : Bool) (reads : Between) (failed : Bool) (name : List ℕ)
    → CannotRead ordered held tells calm reads failed name → IsTrue tells → IsTrue calm
    → (report : Report) → ¬ (Reports ordered held report)
none_of_missing nothing held tells calm reads failed name at told is_calm report is = at
none_of_missing (work tool) held tells calm reads failed name at told is_calm report is = subst (λ g. ReportsGiven tool g report) (at.missing told is_calm) is

-- or there is no status
the_status : (ordered : Ordered) → IsLawfulOrder ordered → (held : Held) (tells calm : Bool) (reads : Between) (failed : Bool) (ended : Result Outcome Stop)
    → Ends ordered held tells calm reads failed ended → IsTrue tells → (report : Report) → Reports ordered held report
    → IsReported ordered held (ended_report ended) report ⊎ (((ended_report ended).status ≡ failure_status failures.Device) × (IsTrue calm → ⊥)) ⊎ (ended ≡ Err stops.Memory)
the_status ordered law held tells calm reads failed (Ok outcome) ends told report is = inl (is_reported ordered law held _ report (ends.1 told) is)
the_status nothing law held tells calm reads failed (Err stops.BadWords) ends told report is = inl (is_reported nothing law held _ report refl is)
the_status (work tool) law held tells calm reads failed (Err stops.BadWords) ends told report is = absurd ends.0
the_status ordered law held tells calm reads failed (Err (stops.TooLong name)) ends told report is = inl (is_reported ordered law held _ report (ends.1 told) is)
the_status ordered law held tells calm reads failed (Err (stops.BadText name kind place)) ends told report is = inl (is_reported ordered law held _ report (ends.1 told) is)
the_status ordered law held tells calm reads failed (Err (stops.CannotRead name)) ends told report is = inr (inl (refl, λ is_calm. none_of_missing ordered held tells calm reads failed name.now ends told is_calm report is))
the_status ordered law held tells calm reads failed (Err stops.Memory) ends told report is = inr (inr refl)

-- a stop ends with its own status
stop_status : (ended : Result Outcome Stop) (status : ℕ) → IfErr ended (λ stop. status ≡ (stop_report stop).status) → (stop : Stop) → ended ≡ Err stop → status ≡ (stop_report stop).status
stop_status ended status h stop e = subst (λ r. IfErr r (λ s. status ≡ (stop_report s).status)) e h

-- only refused words end with their status
refused_words : (ordered : Ordered) (held : Held) (tells calm : Bool) (reads : Between) (failed : Bool) (ended : Result Outcome Stop)
    → Ends ordered held tells calm reads failed ended → (ended_report ended).status ≡ failure_status failures.Words → IsNothing ordered
refused_words ordered held tells calm reads failed (Ok outcome) ends e = absurd (answered_or_failed (answer_status outcome.answer) outcome.answer failures.Words refl e)
refused_words ordered held tells calm reads failed (Err stops.BadWords) ends e = ends.0
refused_words ordered held tells calm reads failed (Err (stops.TooLong name)) ends e = absurd (omega arith)
refused_words ordered held tells calm reads failed (Err (stops.BadText name kind place)) ends e = absurd (omega arith)
refused_words ordered held tells calm reads failed (Err (stops.CannotRead name)) ends e = absurd (omega arith)
refused_words ordered held tells calm reads failed (Err stops.Memory) ends e = absurd (omega arith)

-- each end has a status of an answer or of a failure
is_status : (ended : Result Outcome Stop) → IsStatus (ended_report ended).status
is_status (Ok outcome) = inl (outcome.answer, refl)
is_status (Err stops.BadWords) = inr (failures.Words, refl)
is_status (Err (stops.TooLong name)) = inr (failures.Text, refl)
is_status (Err (stops.BadText name kind place)) = inr (failures.Text, refl)
is_status (Err (stops.CannotRead name)) = inr (failures.Device, refl)
is_status (Err stops.Memory) = inr (failures.Memory, refl)

-- ---- what an answer means of the texts that were read

means_report : (tool : Tool) → IsLawful tool → (reads : Between) (report : Report) (answer : Answer) → IsReportOf tool reads report
    → report.status ≡ answer_status answer → MeansRead (work tool) reads answer
means_report tool law reads report answer (gives_answer given s e bytes count d all gave) is = (bytes, count, all, gave, law.means bytes report answer d is)
means_report tool law reads report answer (names_fault name kind place same bytes count d all gave) is = absurd (answered_or_failed report.status answer failures.Text is (status_of report _ same))
means_report tool law reads report answer (names_too_long place name at same all gave) is = absurd (answered_or_failed report.status answer failures.Text is (status_of report _ same))

means_some : (ordered : Ordered) → IsLawfulOrder ordered → (reads : Between) (report : Report) (answer : Answer) → ReportsSome ordered reads report
    → report.status ≡ answer_status answer → MeansRead ordered reads answer
means_some nothing law reads report answer some is = absurd (answered_or_failed report.status answer failures.Words is (status_of report _ some.0))
means_some (work tool) law reads report answer some is = means_report tool law reads report answer some is

means_ended_read : (ordered : Ordered) → IsLawfulOrder ordered
    → (held : Held) (tells calm : Bool) (reads : Between) (failed : Bool) (ended : Result Outcome Stop) → Ends ordered held tells calm reads failed ended
    → (answer : Answer)
    → (ended_report ended).status ≡ answer_status answer → MeansRead ordered reads answer
means_ended_read ordered law held tells calm reads failed (Ok outcome) ends answer is = means_some ordered law reads (outcome_report outcome) answer ends.0 is
means_ended_read ordered law held tells calm reads failed (Err stops.BadWords) ends answer is = absurd (answered_or_failed _ answer failures.Words is refl)
means_ended_read ordered law held tells calm reads failed (Err (stops.TooLong name)) ends answer is = absurd (answered_or_failed _ answer failures.Text is refl)
means_ended_read ordered law held tells calm reads failed (Err (stops.BadText name kind place)) ends answer is = absurd (answered_or_failed _ answer failures.Text is refl)
means_ended_read ordered law held tells calm reads failed (Err (stops.CannotRead name)) ends answer is = absurd (answered_or_failed _ answer failures.Device is refl)
means_ended_read ordered law held tells calm reads failed (Err stops.Memory) ends answer is = absurd (answered_or_failed _ answer failures.Memory is refl)

pub runs : (ordered : Ordered) (standing : Standing) (before : Devices) (held : Held) (reads : Reads) (writes : Log) (failed : Bool) (faults : ℕ) (ended : Result Outcome Stop) (after : Devices) (status : ℕ)
    → IsDecided ordered standing before (after_reading before held reads writes failed faults) ended → WasCarriedOut standing ended (after_reading before held reads writes failed faults) after status
    → Runs ordered standing before after status
runs ordered standing before held reads writes failed faults ended after status decided carried =
    let done = seen_from ended (telling_of standing) before held reads writes failed faults after status (pointwise held before.held decided.content) decided.writes decided.later carried.carried_out in
    record {
      ended =
          has_ended ordered standing ended before after status
          (ends_after ordered before.held standing.shelf_tells standing.shelf_is_calm before.reads reads after.reads failed after.failed ended carried.reads carried.failed decided.ends)
          done
          (λ device. rose_until before.shelf_faults faults after.shelf_faults carried.later (decided.cause device));
      means = λ answer is. elim carried.given [
        | inl s ↦ subst (λ (last : Reads). MeansRead ordered (between before.reads last) answer) (sym carried.reads)
            (means_ended_read ordered decided.lawful before.held standing.shelf_tells standing.shelf_is_calm (between before.reads reads) failed ended decided.ends answer (sym s ∙ is))
        | inr cut ↦ absurd (answered_or_failed status answer failures.Device is cut.0)
      ];
      complete = λ told report is. elim (the_status ordered decided.lawful before.held standing.shelf_tells standing.shelf_is_calm (between before.reads reads) failed ended decided.ends told report is) [
        | inl one ↦ elim carried.given [ inl s ↦ inl (s ∙ one.status) | inr cut ↦ inr (inl cut.0) ]
        | inr other ↦ elim other [
          | inl gone ↦ elim carried.given [ inl s ↦ inr (inl (s ∙ gone.0)) | inr cut ↦ inr (inl cut.0) ]
          | inr memory ↦ elim carried.given [ inl s ↦ inr (inr (stop_status ended status carried.stopped stops.Memory memory)) | inr cut ↦ inr (inl cut.0) ]
        ]
      ];
      ready = λ report is room. elim (the_status ordered decided.lawful before.held standing.shelf_tells standing.shelf_is_calm (between before.reads reads) failed ended decided.ends (decided.told (room report is).shelf) report is) [
        | inl one ↦ inl (carried.ready (room (ended_report ended) one.reports) ∙ one.status)
        | inr other ↦ elim other [
          | inl gone ↦ absurd (gone.1 (room report is).shelf)
          | inr memory ↦ inr (stop_status ended status carried.stopped stops.Memory memory)
        ]
      ];
      none_written = none_written ended (telling_of standing) before after status done;
      refused = λ none. elim (decided.refused none) [
        | inl words ↦ inl (stop_status ended status carried.stopped stops.BadWords words)
        | inr memory ↦ inr (stop_status ended status carried.stopped stops.Memory memory)
      ];
      refused_only = λ words. elim carried.given [
        | inl s ↦ refused_words ordered before.held standing.shelf_tells standing.shelf_is_calm (between before.reads reads) failed ended decided.ends (sym s ∙ words)
        | inr cut ↦ absurd (omega (arith, cut.0))
      ];
      device = λ device. elim carried.given [
        | inl s ↦ inl (rose_until before.shelf_faults faults after.shelf_faults carried.later (decided.cause (sym s ∙ device)))
        | inr cut ↦ elim cut.1 [ inl shelf ↦ inl (rose_later before.shelf_faults faults after.shelf_faults decided.later shelf) | inr output' ↦ inr output' ]
      ];
      statuses = elim carried.given [ inl s ↦ subst IsStatus (sym s) (is_status ended) | inr cut ↦ inr (failures.Device, cut.0) ];
    }

-- ---- what an answer means

means_given : (tool : Tool) → IsLawful tool → (held : Held) (read : Given) → given held tool.inputs ≡ read → (r : Report) (answer : Answer) → ReportsGiven tool read r → r.status ≡ answer_status answer
    → Means tool held answer
means_given tool law held (not_there name) e r answer a is = absurd a
means_given tool law held (too_much name) e r answer a is = absurd (answered_or_failed r.status answer failures.Text is (status_of r _ a))
means_given tool law held (texts bytes) e r answer a is = (bytes, e, law.means bytes r answer a is)

means_ended : (tool : Tool) → IsLawful tool → (held : Held) (tells calm : Bool) (reads : Between) (failed : Bool) (ended : Result Outcome Stop)
    → Ends (work tool) held tells calm reads failed ended → IsTrue tells → (answer : Answer)
    → (ended_report ended).status ≡ answer_status answer → Means tool held answer
means_ended tool law held tells calm reads failed (Ok outcome) ends told answer is = means_given tool law held (given held tool.inputs) refl (outcome_report outcome) answer (ends.1 told) is
means_ended tool law held tells calm reads failed (Err stops.BadWords) ends told answer is = absurd (answered_or_failed _ answer failures.Words is refl)
means_ended tool law held tells calm reads failed (Err (stops.TooLong name)) ends told answer is = absurd (answered_or_failed _ answer failures.Text is refl)
means_ended tool law held tells calm reads failed (Err (stops.BadText name kind place)) ends told answer is = absurd (answered_or_failed _ answer failures.Text is refl)
means_ended tool law held tells calm reads failed (Err (stops.CannotRead name)) ends told answer is = absurd (answered_or_failed _ answer failures.Device is refl)
means_ended tool law held tells calm reads failed (Err stops.Memory) ends told answer is = absurd (answered_or_failed _ answer failures.Memory is refl)

pub means : (tool : Tool) → IsLawful tool → (standing : Standing) (held : Held) (reads : Between) (failed : Bool) (ended : Result Outcome Stop) (mid after : Devices) (status : ℕ)
    → Ends (work tool) held standing.shelf_tells standing.shelf_is_calm reads failed ended
    → (status ≡ (ended_report ended).status) ⊎ ((status ≡ failure_status failures.Device) × (Rose mid.shelf_faults after.shelf_faults ⊎ Rose mid.output_faults after.output_faults))
    → IsTrue standing.shelf_tells → (answer : Answer) → status ≡ answer_status answer → Means tool held answer
means tool law standing held reads failed ended mid after status ends (inl same) told answer is = means_ended tool law held standing.shelf_tells standing.shelf_is_calm reads failed ended ends told answer (sym same ∙ is)
means tool law standing held reads failed ended mid after status ends (inr cut) told answer is = absurd (answered_or_failed status answer failures.Device is cut.0)

-- what an answer means of a tool that reads no file, whatever the shelf tells
pub means_without_files : (tool : Tool) (held : Held) (reads : Between) (answer : Answer) → tool.inputs ≡ [] → MeansRead (work tool) reads answer → Means tool held answer
means_without_files tool held reads answer none read =
    let empty : read.0 ≡ [] = nil_from_length read.0 (read.1 ∙ ap length none) in
    ([], ap (given held) none, subst (λ (bytes : List (List ℕ)). tool.Means bytes answer) empty read.4)

-- ---- what is decided on what was read

pub decided_ends : (tool : Tool) (held : Held) (tells calm : Bool) (reads : Between) (failed : Bool) (bytes : List (List ℕ)) (ended : Result Outcome Stop) → length bytes ≡ length tool.inputs
    → AreAllRead tool.inputs reads → (IsTrue tells → given held tool.inputs ≡ texts bytes) → HaveGiven tool.inputs bytes reads
    → IsDecision (tool.Reports bytes) ended → Ends (work tool) held tells calm reads failed ended
decided_ends tool held tells calm reads failed bytes (Ok outcome) count all read gave d =
    (gives_answer outcome.answer refl refl bytes count d all gave, λ told. subst (λ g. ReportsGiven tool g (outcome_report outcome)) (sym (read told)) d)
decided_ends tool held tells calm reads failed bytes (Err stops.BadWords) count all read gave d = absurd d
decided_ends tool held tells calm reads failed bytes (Err (stops.TooLong name)) count all read gave d = absurd d
decided_ends tool held tells calm reads failed bytes (Err (stops.BadText name kind place)) count all read gave d =
    (names_fault name.now kind place refl bytes count d all gave, λ told. subst (λ g. ReportsGiven tool g (bad_text name.now kind place)) (sym (read told)) d)
decided_ends tool held tells calm reads failed bytes (Err (stops.CannotRead name)) count all read gave d = absurd d
decided_ends tool held tells calm reads failed bytes (Err stops.Memory) count all read gave d = (bytes, begun_with tool.inputs bytes (length tool.inputs) reads count all.have_begun gave)

pub stopped_ends : (tool : Tool) (held : Held) (tells calm : Bool) (reads : Between) (failed : Bool) (stop : Stop) → StopsInputs tool.inputs held tells calm reads failed stop
    → Ends (work tool) held tells calm reads failed (Err stop)
stopped_ends tool held tells calm reads failed stops.BadWords h = absurd h
stopped_ends tool held tells calm reads failed (stops.TooLong name) h =
    (names_too_long h.0 name.now h.1 refl h.2 h.3, λ told. subst (λ g. ReportsGiven tool g (too_long name.now)) (sym (h.4 told)) refl)
stopped_ends tool held tells calm reads failed (stops.BadText name kind place) h = absurd h
stopped_ends tool held tells calm reads failed (stops.CannotRead name) h = h
stopped_ends tool held tells calm reads failed stops.Memory h = h
