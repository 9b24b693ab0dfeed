-- The contents of the names after some files were written in order.
use Rattle.std.proofs.Common.{◌≡◌, ◌≢◌, ◌<◌, ◌≤◌, ◌+◌, ◌++◌, ◌∷◌, ◌∙◌, ℕ, Bool, true, false, zero, suc, List, [], Some, length, map, take, get_or, ap, sym, refl, subst, arith, cond}
use Rattle.std.specs.Prelude.{IsSomeAnd, Option, option_map}
use Rattle.std.specs.Str.{bytes_eq}
use Rattle.std.specs.List.{slice_get}
use Rattle.std.proofs.lemmas.List.{map-append, take_more}
use Rattle.std.proofs.lemmas.Option.{slice_get-get_or, slice_get-map}
use Rattle.std.proofs.lemmas.Slice.Eq.{bytes_eq-Decides}
use Rattle.std.proofs.lemmas.Bool.{false≢true}
use Rattle.cmr_io.specs.Log.{Log, log_with}
use Rattle.cmr_io.specs.Whole.{StaysOrHoldsPrefix}
use Rattle.cmr_front.specs.declared.outcome.OutputFile.{OutputFile}
use Rattle.cmr_front.specs.Report.{Held, File, after_files, with_file, with_files}
use Rattle.cmr_front.specs.Outcome.{file_of}
use Rattle.cmr_front.specs.Ending.{HasRooms, IsBegunLast, IsLeftAt}

-- after a write of a file
pub written : (old new : Held) (file : File) → new file.name ≡ Some file.bytes → ((other : List ℕ) → other ≢ file.name → new other ≡ old other) → (name : List ℕ) → new name ≡ with_file old file name
written old new file here others name = go (bytes_eq name file.name) refl
  where
    go : (same : Bool) → bytes_eq name file.name ≡ same → new name ≡ cond same (Some file.bytes) (old name)
    go true e = ap new ((bytes_eq-Decides name file.name).0 e) ∙ here
    go false e = others name (λ same. false≢true (sym e ∙ (bytes_eq-Decides name file.name).1 same))

with_files-append : (held : Held) (files : List File) (file : File) → with_files held (files ++ file ∷ []) ≡ with_file (with_files held files) file
with_files-append held [] file = refl
with_files-append held (f ∷ files) file = with_files-append (with_file held f) files file

after_files-append : (writes : Log) (files : List File) (file : File) → after_files writes (files ++ file ∷ []) ≡ log_with (after_files writes files) file.name file.bytes
after_files-append writes [] file = refl
after_files-append writes (f ∷ files) file = after_files-append (log_with writes f.name f.bytes) files file

-- the files before a place, and the file at this place
files_on : (files : List OutputFile) (k : ℕ) (file : OutputFile) → k < length files → file ≡ get_or files k file → map file_of (take k files) ++ file_of file ∷ [] ≡ map file_of (take (k + 1) files)
files_on files k file h is =
    ap (λ f. map file_of (take k files) ++ file_of f ∷ []) is ∙ sym (ap (map file_of) (take_more files k file h) ∙ map-append file_of (take k files) (get_or files k file ∷ []))

-- the write of one more file
pub one_more_write : (start mid : Log) (files : List OutputFile) (k : ℕ) (file : OutputFile) → k < length files → file ≡ get_or files k file → mid ≡ after_files start (map file_of (take k files))
    → log_with mid (file_of file).name (file_of file).bytes ≡ after_files start (map file_of (take (k + 1) files))
one_more_write start mid files k file h is e =
    ap (λ log. log_with log (file_of file).name (file_of file).bytes) e
    ∙ sym (after_files-append start (map file_of (take k files)) (file_of file))
    ∙ ap (after_files start) (files_on files k file h is)

-- one more file
pub one_more : (held mid : Held) (files : List OutputFile) (k : ℕ) (file : OutputFile) (name : List ℕ) → k < length files → file ≡ get_or files k file
    → mid name ≡ with_files held (map file_of (take k files)) name
    → with_file mid (file_of file) name ≡ with_files held (map file_of (take (k + 1) files)) name
one_more held mid files k file name h is e =
    ap (λ o. cond (bytes_eq name (file_of file).name) (Some (file_of file).bytes) o) e
    ∙ ap (λ f. f name) (sym (with_files-append held (map file_of (take k files)) (file_of file)))
    ∙ ap (λ fs. with_files held fs name) (files_on files k file h is)

take-map : (files : List OutputFile) (k : ℕ) → take k (map file_of files) ≡ map file_of (take k files)
take-map files zero = refl
take-map [] (suc k) = refl
take-map (f ∷ files) (suc k) = ap (λ fs. file_of f ∷ fs) (take-map files k)

-- the file at this place was not written whole
pub there : (files : List OutputFile) (k : ℕ) (file : OutputFile) → k < length files → file ≡ get_or files k file → slice_get (map file_of files) k ≡ Some (file_of file)
there files k file h is = slice_get-map file_of files k ∙ ap (option_map file_of) (slice_get-get_or files k file h ∙ ap Some (sym is))

pub left_at : (held mid new : Held) (files : List OutputFile) (k : ℕ) (file : OutputFile)
    → ((name : List ℕ) → mid name ≡ with_files held (map file_of (take k files)) name)
    → ((other : List ℕ) → other ≢ (file_of file).name → new other ≡ mid other)
    → StaysOrHoldsPrefix (mid (file_of file).name) (new (file_of file).name) (file_of file).bytes
    → IsLeftAt (map file_of files) k (file_of file) held new
left_at held mid new files k file before others prefix =
    let same = take-map files k in
    record {
      others = λ name other. others name other ∙ before name ∙ ap (λ fs. with_files held fs name) (sym same);
      here = subst (λ o. StaysOrHoldsPrefix o (new (file_of file).name) (file_of file).bytes) (before (file_of file).name ∙ ap (λ fs. with_files held fs (file_of file).name) (sym same)) prefix;
    }

-- the write of the file at this place was begun after those before it
pub begun_last : (start mid new : Log) (files : List OutputFile) (k : ℕ) (file : OutputFile) → mid ≡ after_files start (map file_of (take k files))
    → (count : ℕ) × (new ≡ log_with mid (file_of file).name (take count (file_of file).bytes)) → IsBegunLast (map file_of files) k (file_of file) start new
begun_last start mid new files k file before begun =
    (begun.0, begun.1 ∙ ap (λ log. log_with log (file_of file).name (take begun.0 (file_of file).bytes)) (before ∙ ap (after_files start) (sym (take-map files k))))

room_of : (room : List ℕ → Option ℕ) (files : List OutputFile) (k : ℕ) (d : OutputFile) → k < length files → HasRooms room (map file_of files) → HasRooms room (file_of (get_or files k d) ∷ [])
room_of room [] k d h rooms = absurd (omega arith)
room_of room (f ∷ files) zero d h rooms = (rooms.0, tt)
room_of room (f ∷ files) (suc k) d h rooms = room_of room files k d (omega arith) rooms.1

-- the room of the file at a place
pub room_at : (before room : List ℕ → Option ℕ) (files : List OutputFile) (k : ℕ) (file : OutputFile) → k < length files → file ≡ get_or files k file → ((name : List ℕ) → room name ≡ before name)
    → HasRooms before (map file_of files) → HasRooms room (file_of file ∷ [])
room_at before room files k file h is same rooms =
    let r : HasRooms before (file_of file ∷ []) = subst (λ f. HasRooms before (file_of f ∷ [])) (sym is) (room_of before files k file h rooms) in
    (subst (λ o. IsSomeAnd o (λ most. length (file_of file).bytes ≤ most)) (sym (same (file_of file).name)) r.0, tt)

-- the file at a place
pub file_at : (files : List OutputFile) (k : ℕ) (found : OutputFile) (file : File) → k < length files → found ≡ get_or files k found
    → slice_get (map file_of files) k ≡ Some file → file_of found ≡ file
file_at files k found file h is e =
    let same : Some (file_of found) ≡ Some file = sym (there files k found h is) ∙ e in
    cc
