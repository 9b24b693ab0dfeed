-- The reply with what a run has written.
use Rattle.std.proofs.Common.{◌≡◌, ◌+◌, ◌++◌, ◌∙◌, ◌⊎◌, inl, inr, ℕ, zero, suc, Bool, true, false, IsTrue, List, [], ◌∷◌, length, map, take, slice_get, Option, Some, None, Result, Ok, Err, Vec, nat_lt, refl, sym, ap, subst, arith, append_assoc, add-one, if◌then◌else◌}
use Rattle.std.specs.Prelude.{IfOk, is_none}
use Rattle.std.specs.Str.{bytes_eq}
use Rattle.std.proofs.lemmas.Slice.Eq.{bytes_eq-Decides}
use Rattle.std.proofs.lemmas.Bool.Decides.{nat_tests}
use Rattle.std.proofs.lemmas.List.{append-nil}
use Rattle.cmr_io.specs.Causes.{Rose}
use Rattle.cmr_io.specs.Log.{Log, log_with, no_log}
use Rattle.cmr_io.specs.Reads.{Reads, no_reads}
use Rattle.frames.specs.NamedFiles.{NamedBytes, Names, all_laid, log_of, nothing_held}
use Rattle.frames.specs.Replies.{ReplyValue, reply_text}
use Rattle.frames.specs.RequestBegun.{lacks_last}
use Rattle.cmr_front.specs.declared.status.Answer.{Answer}
use Rattle.cmr_front.specs.declared.status.Answer.TheVariants as answers
use Rattle.cmr_front.specs.declared.status.Failure.TheVariants as failures
use Rattle.cmr_front.specs.Ending.{Devices, IsDelivered, IsLeftAt, IsUnwritten, Standing, cut_short, delivered, telling_of, unwritten}
use Rattle.cmr_front.specs.Inputs.{Given, InputFile, Reading, above_limit, and_then, given, missing, most_bytes, not_there, reading, reading_of, texts, too_much, whole}
use Rattle.cmr_front.specs.Outcome.{cannot_read, out_of_memory}
use Rattle.cmr_front.specs.Report.{File, Held, Report, after_files, with_file, with_files}
use Rattle.cmr_front.specs.Run.{CannotRead, HasEnded, IsReportOf, Ordered, Reports, ReportsGiven, ReportsSome, Runs, gives_answer, names_fault, names_too_long, no_memory, nothing, work}
use Rattle.cmr_front.specs.Run as runs
use Rattle.cmr_front.specs.SinkLines.{IsWritten}
use Rattle.cmr_front.specs.Status.{answer_status, failure_status}
use Rattle.cmr_front.specs.Tool.{Tool}
use Rattle.cmr_front.specs.Unread.{between}
use Rattle.batch.specs.RequestReplies.{IsReply, IsReplyTo, Lacks, MeansOrdered, memory_reply, named, refused, reply_of, reported, unread}
use Rattle.batch.proofs.AnswerMeanings.{no_answer}
use Rattle.cmr_base.proofs.Options.{some_same}

-- ---- values

pub same_reply : (s s' : ℕ) (o o' e e' : List ℕ) (f f' : List NamedBytes) → s ≡ s' → o ≡ o' → e ≡ e' → f ≡ f'
    → ◌≡◌ {A = ReplyValue} (record { status = s; output = o; error = e; files = f }) (record { status = s'; output = o'; error = e'; files = f' })
same_reply s s' o o' e e' f f' a b c d =
    ap (λ (x : ℕ). reply x o e f) a
    ∙ ap (λ (x : List ℕ). reply s' x e f) b
    ∙ ap (λ (x : List ℕ). reply s' o' x f) c
    ∙ ap (λ (x : List NamedBytes). reply s' o' e' x) d
  where
    reply : ℕ → List ℕ → List ℕ → List NamedBytes → ReplyValue
    reply s o e f = record { status = s; output = o; error = e; files = f }

same_log : (n n' t t' : List (List ℕ)) → n ≡ n' → t ≡ t' → ◌≡◌ {A = Log} (record { names = n; texts = t }) (record { names = n'; texts = t' })
same_log n n' t t' a b = ap (λ (x : List (List ℕ)). log x t) a ∙ ap (λ (x : List (List ℕ)). log n' x) b
  where
    log : List (List ℕ) → List (List ℕ) → Log
    log n t = record { names = n; texts = t }

same_file : (n n' b b' : List ℕ) → n ≡ n' → b ≡ b' → ◌≡◌ {A = NamedBytes} (record { name = n; bytes = b }) (record { name = n'; bytes = b' })
same_file n n' b b' x y = ap (λ (it : List ℕ). file it b) x ∙ ap (λ (it : List ℕ). file n' it) y
  where
    file : List ℕ → List ℕ → NamedBytes
    file n b = record { name = n; bytes = b }

false_is_true : false ≡ true → ⊥
false_is_true e = absurd (cc)

never_rose : Rose 0 0 → ⊥
never_rose (inl more) = absurd (omega arith)
never_rose (inr full) = absurd (omega arith)

-- ---- the files of a reply

after_files_are : (writes : Log) (files : List File) → after_files writes files ≡ record { names = writes.names ++ map (λ (f : File). f.name) files; texts = writes.texts ++ map (λ (f : File). f.bytes) files }
after_files_are writes [] = same_log writes.names (writes.names ++ []) writes.texts (writes.texts ++ []) (sym (append-nil writes.names)) (sym (append-nil writes.texts))
after_files_are writes (file ∷ files) =
    after_files_are (log_with writes file.name file.bytes) files
    ∙ same_log ((writes.names ++ file.name ∷ []) ++ map (λ (f : File). f.name) files) (writes.names ++ (file.name ∷ map (λ (f : File). f.name) files))
    ((writes.texts ++ file.bytes ∷ []) ++ map (λ (f : File). f.bytes) files) (writes.texts ++ (file.bytes ∷ map (λ (f : File). f.bytes) files))
    (append_assoc writes.names (file.name ∷ []) (map (λ (f : File). f.name) files)) (append_assoc writes.texts (file.bytes ∷ []) (map (λ (f : File). f.bytes) files))

same_files : (files : List NamedBytes) (others : List File) → map (λ (f : NamedBytes). f.name) files ≡ map (λ (f : File). f.name) others
    → map (λ (f : NamedBytes). f.bytes) files ≡ map (λ (f : File). f.bytes) others → files ≡ map named others
same_files [] [] names bytes = refl
same_files [] (o ∷ os) names bytes = absurd (cc)
same_files (f ∷ fs) [] names bytes = absurd (cc)
same_files (f ∷ fs) (o ∷ os) names bytes =
    ap (λ (x : NamedBytes). x ∷ fs) (same_file f.name o.name f.bytes o.bytes (cc) (cc)) ∙ ap (λ (xs : List NamedBytes). named o ∷ xs) (same_files fs os (cc) (cc))

-- the written files are those of the writes
files_are : (files : List NamedBytes) (others : List File) (writes : Log) → writes ≡ log_of files → writes ≡ after_files no_log others → files ≡ map named others
files_are files others writes here there =
    let both : log_of files ≡ record { names = map (λ (f : File). f.name) others; texts = map (λ (f : File). f.bytes) others } = sym here ∙ there ∙ after_files_are no_log others in
    same_files files others (ap (λ (log : Log). log.names) both) (ap (λ (log : Log). log.texts) both)

-- ---- names that exist

rest_texts : (name : List ℕ) (r : Reading) (others : Given) (bytes : List (List ℕ)) → and_then name r others ≡ texts bytes → (more : List (List ℕ)) × (others ≡ texts more)
rest_texts name missing others bytes e = absurd (cc)
rest_texts name above_limit others bytes e = absurd (cc)
rest_texts name (whole b) (not_there n) bytes e = absurd (cc)
rest_texts name (whole b) (too_much n) bytes e = absurd (cc)
rest_texts name (whole b) (texts more) bytes e = (more, refl)

rest_missing : (name : List ℕ) (r : Reading) (others : Given) (bytes : List (List ℕ)) (other : List ℕ) → and_then name r others ≡ texts bytes → and_then name r (not_there other) ≡ not_there other
rest_missing name missing others bytes other e = absurd (cc)
rest_missing name above_limit others bytes other e = absurd (cc)
rest_missing name (whole b) others bytes other e = refl

there_is : (most : ℕ) (held : Option (List ℕ)) (name : List ℕ) (others : Given) (bytes : List (List ℕ)) → and_then name (reading_of most held) others ≡ texts bytes → is_none held ≡ false
there_is most None name others bytes e = absurd (cc)
there_is most (Some b) name others bytes e = refl

not_there_is : (most : ℕ) (held : Option (List ℕ)) (name : List ℕ) (others : Given) → is_none held ≡ true → and_then name (reading_of most held) others ≡ not_there name
not_there_is most None name others e = refl
not_there_is most (Some b) name others e = absurd (cc)

-- all files were given, so the last of their names exists, also later if no name has gone
never_lacks : (held after : Names) (files : List InputFile) (bytes : List (List ℕ)) → given held files ≡ texts bytes → ((name : List ℕ) → is_none (held name) ≡ false → is_none (after name) ≡ false)
    → lacks_last after (map (λ (f : InputFile). f.name) files) ≡ false
never_lacks held after [] bytes e keeps = refl
never_lacks held after (f ∷ []) bytes e keeps = keeps f.name (there_is (most_bytes f.kind) (held f.name) f.name (texts []) bytes e)
never_lacks held after (f ∷ g ∷ files) bytes e keeps =
    let more = rest_texts f.name (reading held f) (given held (g ∷ files)) bytes e in
    never_lacks held after (g ∷ files) more.0 more.1 keeps

-- the files before a place were given, and the name at the place does not exist
missing_at : (held : Names) (files : List InputFile) (place : ℕ) (name : List ℕ) (bytes : List (List ℕ))
    → slice_get (map (λ (f : InputFile). f.name) files) place ≡ Some name → given held (take place files) ≡ texts bytes
    → is_none (held name) ≡ true → given held files ≡ not_there name
missing_at held [] zero name bytes at e gone = absurd (cc)
missing_at held [] (suc place) name bytes at e gone = absurd (cc)
missing_at held (f ∷ files) zero name bytes at e gone =
    let same : f.name ≡ name = some_same f.name name at in
    not_there_is (most_bytes f.kind) (held f.name) f.name (given held files) (subst (λ (n : List ℕ). is_none (held n) ≡ true) (sym same) gone) ∙ ap not_there same
missing_at held (f ∷ files) (suc place) name bytes at e gone =
    let more = rest_texts f.name (reading held f) (given held (take place files)) bytes e in
    ap (and_then f.name (reading held f)) (missing_at held files place name more.0 at more.1 gone)
    ∙ rest_missing f.name (reading held f) (given held (take place files)) bytes name e

-- the last of the first names is the name at the place
last_lacks : (held : Names) (names : List (List ℕ)) (place : ℕ) (name : List ℕ) → slice_get names place ≡ Some name → lacks_last held (take (suc place) names) ≡ is_none (held name)
last_lacks held [] zero name at = absurd (cc)
last_lacks held [] (suc place) name at = absurd (cc)
last_lacks held (n ∷ names) zero name at = ap (λ (it : List ℕ). is_none (held it)) (some_same n name at)
last_lacks held (n ∷ []) (suc zero) name at = absurd (cc)
last_lacks held (n ∷ []) (suc (suc place)) name at = absurd (cc)
last_lacks held (n ∷ m ∷ names) (suc place) name at = last_lacks held (m ∷ names) place name at

-- ---- names that exist after some files were written

kept_by_file : (held : Held) (file : File) (name : List ℕ) → is_none (held name) ≡ false → is_none (with_file held file name) ≡ false
kept_by_file held file name e = go (bytes_eq name file.name)
  where
    go : (same : Bool) → is_none (if same then Some file.bytes else held name) ≡ false
    go true = refl
    go false = e

kept_by_files : (held : Held) (files : List File) (name : List ℕ) → is_none (held name) ≡ false → is_none (with_files held files name) ≡ false
kept_by_files held [] name e = e
kept_by_files held (file ∷ files) name e = kept_by_files (with_file held file) files name (kept_by_file held file name e)

kept_left : (files : List File) (place : ℕ) (file : File) (before after : Held) → IsLeftAt files place file before after → (name : List ℕ)
    → is_none (before name) ≡ false → is_none (after name) ≡ false
kept_left files place file before after left name e = go (bytes_eq name file.name) refl
  where
    kept : (other : List ℕ) → is_none (before other) ≡ false → is_none (with_files before (take place files) other) ≡ false
    kept other o = kept_by_files before (take place files) other o

    here : (name ≡ file.name) → (after file.name ≡ with_files before (take place files) file.name) ⊎ ((count : ℕ) × (after file.name ≡ Some (take count file.bytes))) → is_none (after name) ≡ false
    here same (inl stays) = ap (λ (n : List ℕ). is_none (after n)) same ∙ ap is_none stays ∙ kept file.name (subst (λ (n : List ℕ). is_none (before n) ≡ false) same e)
    here same (inr (count, is)) = ap (λ (n : List ℕ). is_none (after n)) same ∙ ap is_none is

    go : (same : Bool) → bytes_eq name file.name ≡ same → is_none (after name) ≡ false
    go true is = here ((bytes_eq-Decides name file.name).0 is) left.here
    go false is = ap is_none (left.others name (λ same. false_is_true (sym is ∙ (bytes_eq-Decides name file.name).1 same))) ∙ kept name e

-- ---- how a run ends over a shelf that tells its bytes

-- What is known of the devices of a request: they begin empty; no sink has a fault; the writes are those of the written files; and the last call of
-- the shelf failed only if the last name that was read does not exist.
pub record AreOfRequest (standing : Standing) (before after : Devices) (files : List NamedBytes) : Type 0 where
  pub shelf_tells : standing.shelf_tells ≡ true
  pub output_tells : standing.output_tells ≡ true
  pub error_tells : standing.error_tells ≡ true
  pub reads : before.reads ≡ no_reads
  pub writes : before.writes ≡ no_log
  pub output : before.output ≡ []
  pub error : before.error ≡ []
  pub output_faults_before : before.output_faults ≡ 0
  pub error_faults_before : before.error_faults ≡ 0
  pub output_faults : after.output_faults ≡ 0
  pub error_faults : after.error_faults ≡ 0
  pub logged : after.writes ≡ log_of files
  pub lacks : IsTrue after.failed → IsTrue (lacks_last after.held after.reads.names)

-- the reply of these devices
abbrev pub reply_with : ℕ → Devices → List NamedBytes → ReplyValue
reply_with status after files = record { status = status; output = after.output; error = after.error; files = files }

line_whole : (before after : List ℕ) (old new : ℕ) (line : List ℕ) → IsWritten before after old new line → before ≡ [] → old ≡ 0 → new ≡ 0 → after ≡ line
line_whole before after old new line (inl is) none a b = is ∙ ap (λ (xs : List ℕ). xs ++ line) none
line_whole before after old new line (inr (rose, prefix)) none a b = absurd (never_rose (subst (λ (n : ℕ). Rose n 0) a (subst (λ (n : ℕ). Rose old n) b rose)))

-- all of a report was written
delivered_is : (standing : Standing) (before after : Devices) (files : List NamedBytes) (report : Report) (status : ℕ)
    → AreOfRequest standing before after files → IsDelivered report (telling_of standing) before after → status ≡ report.status
    → reply_with status after files ≡ reply_of report
delivered_is standing before after files report status are d is = same_reply status report.status after.output report.output after.error report.error files (map named report.files) is
    (d.output are.output_tells ∙ ap (λ (xs : List ℕ). xs ++ report.output) are.output)
    (line_whole before.error after.error before.error_faults after.error_faults report.error (d.error are.error_tells) are.error are.error_faults_before are.error_faults)
    (files_are files report.files after.writes are.logged (d.writes ∙ ap (λ (log : Log). after_files log report.files) are.writes))

-- ---- no write fails

no_place : (files : List File) (place : ℕ) (file : File) → slice_get files place ≡ Some file → files ≡ [] → ⊥
no_place [] zero file at none = absurd (cc)
no_place [] (suc place) file at none = absurd (cc)
no_place (f ∷ files) place file at none = absurd (cc)

-- the files of a tool were given, and one of its report could not be written
given_unwritten : (tool : Tool) (standing : Standing) (before after : Devices) (files : List NamedBytes) (report : Report)
    → AreOfRequest standing before after files → IsUnwritten report (telling_of standing) before after
    → after.reads.names ≡ before.reads.names ++ take (length tool.inputs) (map (λ (f : InputFile). f.name) tool.inputs) → (g : Given)
    → given before.held tool.inputs ≡ g → ReportsGiven tool g report → ⊥
given_unwritten tool standing before after files report are u names (not_there name) is reports = reports
given_unwritten tool standing before after files report are u names (too_much name) is reports = no_place report.files u.place u.file u.there (ap (λ (r : Report). r.files) reports)
given_unwritten tool standing before after files report are u names (texts bytes) is reports = false_is_true (sym exists ∙ lost)
  where
    all : {A : Type 0} (xs : List A) → take (length xs) xs ≡ xs
    all [] = refl
    all (x ∷ xs) = ap (λ ys. x ∷ ys) (all xs)

    inputs : List (List ℕ)
    inputs = map (λ (f : InputFile). f.name) tool.inputs

    length_map : {A B : Type 0} (f : A → B) (xs : List A) → length (map f xs) ≡ length xs
    length_map f [] = refl
    length_map f (x ∷ xs) = ap suc (length_map f xs)

    read : after.reads.names ≡ inputs
    read = names ∙ ap (λ (r : Reads). r.names ++ take (length tool.inputs) inputs) are.reads ∙ ap (λ (n : ℕ). take n inputs) (sym (length_map (λ (f : InputFile). f.name) tool.inputs)) ∙ all inputs

    exists : lacks_last after.held inputs ≡ false
    exists = never_lacks before.held after.held tool.inputs bytes is (kept_left report.files u.place u.file before.held after.held (u.left are.shelf_tells))

    lost : lacks_last after.held inputs ≡ true
    lost = subst (λ (ns : List (List ℕ)). lacks_last after.held ns ≡ true) read (are.lacks u.failed)

-- a file of a report could not be written
some_unwritten : (ordered : Ordered) (standing : Standing) (before after : Devices) (files : List NamedBytes) (report : Report)
    → AreOfRequest standing before after files → IsUnwritten report (telling_of standing) before after
    → ReportsSome ordered (between before.reads after.reads) report → (IsTrue standing.shelf_tells → Reports ordered before.held report) → ⊥
some_unwritten nothing standing before after files report are u (is, read) reports = no_place report.files u.place u.file u.there (ap (λ (r : Report). r.files) is)
some_unwritten (work tool) standing before after files report are u (gives_answer answer status error bytes count says read give) reports = given_unwritten tool standing before after files report are u read.have_begun (given before.held tool.inputs) refl (reports are.shelf_tells)
some_unwritten (work tool) standing before after files report are u (names_fault name kind place is bytes count says read give) reports = no_place report.files u.place u.file u.there (ap (λ (r : Report). r.files) is)
some_unwritten (work tool) standing before after files report are u (names_too_long place name named is read give) reports = no_place report.files u.place u.file u.there (ap (λ (r : Report). r.files) is)

-- ---- a file that cannot be read

missing_file : (ordered : Ordered) (standing : Standing) (before after : Devices) (files : List NamedBytes) (name : List ℕ) → AreOfRequest standing before after files
    → CannotRead ordered before.held standing.shelf_tells standing.shelf_is_calm (between before.reads after.reads) after.failed name
    → ((n : List ℕ) → after.held n ≡ before.held n) → Lacks ordered before.held name
missing_file nothing standing before after files name are cannot same = cannot
missing_file (work tool) standing before after files name are u same =
    let there = u.there are.shelf_tells in
    missing_at before.held tool.inputs u.place name there.0 u.named there.1 gone
  where
    inputs : List (List ℕ)
    inputs = map (λ (f : InputFile). f.name) tool.inputs

    read : after.reads.names ≡ take (suc u.place) inputs
    read = u.read.have_begun ∙ ap (λ (r : Reads). r.names ++ take (u.place + 1) inputs) are.reads ∙ ap (λ (n : ℕ). take n inputs) (add-one u.place)

    gone : is_none (before.held name) ≡ true
    gone = ap is_none (sym (same name)) ∙ sym (last_lacks after.held inputs u.place name u.named) ∙ subst (λ (ns : List (List ℕ)). lacks_last after.held ns ≡ true) read (are.lacks u.cause)

-- ---- every ending

pub is_reply : (ordered : Ordered) (standing : Standing) (before after : Devices) (files : List NamedBytes) (status : ℕ)
    → AreOfRequest standing before after files → HasEnded ordered standing before after status
    → IsReply ordered before.held (reply_with status after files)
is_reply ordered standing before after files status are (runs.reported report some reports (delivered is d)) = reported report (reports are.shelf_tells) (delivered_is standing before after files report status are d is)
is_reply ordered standing before after files status are (runs.reported report some reports (unwritten is u)) = absurd (some_unwritten ordered standing before after files report are u some reports)
is_reply ordered standing before after files status are (runs.reported report some reports (cut_short is c)) =
    absurd (never_rose (subst (λ (n : ℕ). Rose n 0) are.output_faults_before (subst (λ (n : ℕ). Rose before.output_faults n) are.output_faults c.cause)))
is_reply ordered standing before after files status are (runs.unread name cannot rose is d) =
    unread name (missing_file ordered standing before after files name are cannot (d.files are.shelf_tells)) (delivered_is standing before after files (cannot_read name) status are d is)
is_reply ordered standing before after files status are (no_memory begins is d) = refused (delivered_is standing before after files out_of_memory status are d is)

-- ---- the reply to a request

-- an allocation failed
pub refusal_says : {A E : Type 0} (ordered : Ordered) (files : List NamedBytes) (result : Result (Vec ℕ A) E) → IfOk result (λ text. text.items ≡ reply_text memory_reply)
    → IfOk result (λ text. (reply : ReplyValue) × (text.items ≡ reply_text reply) × IsReplyTo ordered files reply)
refusal_says ordered files (Ok text) is = (memory_reply, is, record { says = refused refl; means = λ answer e. absurd (no_answer answer (failure_status failures.Memory) e (inr refl)) })
refusal_says ordered files (Err e) is = tt

pub no_fault : (faults : ℕ) (short : Bool) → short ≡ nat_lt 0 faults → short ≡ false → faults ≡ 0
no_fault zero short is none = refl
no_fault (suc n) short is none = absurd (let t : nat_lt 0 (suc n) ≡ true = grind (arith, nat_tests) in false_is_true (sym none ∙ is ∙ t))

-- what a run over the devices of a request gives
pub run_says : (ordered : Ordered) (standing : Standing) (before after : Devices) (given : List NamedBytes) (written : List NamedBytes) (status : ℕ)
    → Runs ordered standing before after status → before.held ≡ all_laid nothing_held given
    → ((answer : Answer) → status ≡ answer_status answer → MeansOrdered ordered before.held answer) → AreOfRequest standing before after written
    → IsReplyTo ordered given (reply_with status after written)
run_says ordered standing before after given written status runs held means are = record {
  says = subst (λ (h : Held). IsReply ordered h (reply_with status after written)) held (is_reply ordered standing before after written status are runs.ended);
  means = λ answer is. subst (λ (h : Held). MeansOrdered ordered h answer) held (means answer is);
}
