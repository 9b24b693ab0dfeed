-- What names hold after files were stored.
use Rattle.std.proofs.Common.{◌≡◌, ◌≢◌, ◌<◌, ◌≤◌, ◌+◌, ◌-◌, ◌∙◌, ℕ, zero, suc, List, [], ◌∷◌, ◌++◌, Some, None, length, take, drop, get_or, refl, ap, sym, arith}
use Rattle.std.specs.Str.{bytes_eq}
use Rattle.std.proofs.Math.ListN.{set}
use Rattle.std.proofs.lemmas.Slice.Eq.{bytes_eq-Decides}
use Rattle.std.proofs.lemmas.Bool.{false_from_ne_true}
use Rattle.std.proofs.lemmas.List.{take-append-drop, drop_more, drop_all, drop-drop, take_all, take_more}
use Rattle.frames.specs.NamedFiles.{NamedBytes, Names, all_laid, laid, log_of, more_in_last, no_file, nothing_held, file_at}
use Rattle.frames.specs.Held.{given_names}
use Rattle.frames.specs.Requests.{given_file}
use Rattle.frames.specs.declared.request.GivenFile.{GivenFile}
use Rattle.cmr_io.specs.Log.{log_more}
use Rattle.cmr_io.specs.Reads.{with_more}
use Rattle.std.specs.Prelude.{is_none, IsTrue, Ok, map, min}
use Rattle.std.proofs.Common.{length-append}
use Rattle.cmr_io.specs.Pieces.{GivesPrefix, IsAppended, IsEmptied}
use Rattle.frames.specs.RequestBegun.{lacks_last, last_file}

-- ---- one file

laid_here : (held : Names) (file : NamedBytes) (name : List ℕ) → name ≡ file.name → laid held file name ≡ Some file.bytes
laid_here held file name same = rw ((bytes_eq-Decides name file.name).1 same) refl

laid_elsewhere : (held : Names) (file : NamedBytes) (name : List ℕ) → name ≢ file.name → laid held file name ≡ held name
laid_elsewhere held file name other = rw (false_from_ne_true (bytes_eq name file.name) (λ same. other ((bytes_eq-Decides name file.name).0 same))) refl

-- ---- some files

pub all_laid_append : (held : Names) (a b : List NamedBytes) → all_laid held (a ++ b) ≡ all_laid (all_laid held a) b
all_laid_append held [] b = refl
all_laid_append held (file ∷ a) b = all_laid_append (laid held file) a b

pub all_laid_push : (held : Names) (files : List NamedBytes) (file : NamedBytes) (name : List ℕ) → all_laid held (files ++ (file ∷ [])) name ≡ laid (all_laid held files) file name
all_laid_push held files file name = ap (λ (h : Names). h name) (all_laid_append held files (file ∷ []))

pub all_laid_push_here : (held : Names) (files : List NamedBytes) (file : NamedBytes) → all_laid held (files ++ (file ∷ [])) file.name ≡ Some file.bytes
all_laid_push_here held files file = all_laid_push held files file file.name ∙ laid_here (all_laid held files) file file.name refl

pub all_laid_push_other : (held : Names) (files : List NamedBytes) (file : NamedBytes) (name : List ℕ) → name ≢ file.name → all_laid held (files ++ (file ∷ [])) name ≡ all_laid held files name
all_laid_push_other held files file name other = all_laid_push held files file name ∙ laid_elsewhere (all_laid held files) file name other

-- ---- the last file

pub last_split : (files : List NamedBytes) → 0 < length files → files ≡ take (length files - 1) files ++ (last_file files ∷ [])
last_split files some =
    let at : ℕ = length files - 1 in
    let lt : at < length files = omega arith in
    let none : drop (at + 1) files ≡ [] = drop_all (at + 1) files (omega arith) in
    sym (take-append-drop at files) ∙ ap (λ rest. take at files ++ rest) (drop_more files at no_file lt ∙ ap (λ rest. last_file files ∷ rest) none)

-- what the name of the last file holds
pub last_here : (held : Names) (files : List NamedBytes) → 0 < length files → all_laid held files (last_file files).name ≡ Some (last_file files).bytes
last_here held files some =
    ap (λ fs. all_laid held fs (last_file files).name) (last_split files some) ∙ all_laid_push_here held (take (length files - 1) files) (last_file files)

-- ---- more bytes at the end of the last file

pub more_in_last_is : (files : List NamedBytes) (at : ℕ) (old new : NamedBytes) (bytes : List ℕ) → suc at ≡ length files → old ≡ get_or files at old → new ≡ record { name = old.name; bytes = old.bytes ++ bytes } → set files at new ≡ more_in_last files bytes
more_in_last_is [] at old new bytes e is same = absurd (omega arith)
more_in_last_is (f ∷ []) zero old new bytes e is same =
    ap (λ (x : NamedBytes). x ∷ []) (same ∙ ap (λ (y : NamedBytes). record { name = y.name; bytes = y.bytes ++ bytes }) is)
more_in_last_is (f ∷ []) (suc at) old new bytes e is same = absurd (omega arith)
more_in_last_is (f ∷ g ∷ files) zero old new bytes e is same = absurd (omega arith)
more_in_last_is (f ∷ g ∷ files) (suc at) old new bytes e is same =
    ap (λ (rest : List NamedBytes). f ∷ rest) (more_in_last_is (g ∷ files) at old new bytes (omega arith) is same)

-- the same file in its position
pub set_same : (files : List NamedBytes) (at : ℕ) (old new : NamedBytes) → at < length files → old ≡ get_or files at old → new ≡ old → set files at new ≡ files
set_same [] at old new within is same = absurd (omega arith)
set_same (f ∷ files) zero old new within is same = ap (λ (x : NamedBytes). x ∷ files) (same ∙ is)
set_same (f ∷ files) (suc at) old new within is same = ap (λ (rest : List NamedBytes). f ∷ rest) (set_same files at old new (omega arith) is same)

pub length_more_in_last : (files : List NamedBytes) (bytes : List ℕ) → length (more_in_last files bytes) ≡ length files
length_more_in_last [] bytes = refl
length_more_in_last (f ∷ []) bytes = refl
length_more_in_last (f ∷ g ∷ files) bytes = ap suc (length_more_in_last (g ∷ files) bytes)

last_at : (files : List NamedBytes) (at : ℕ) (bytes : List ℕ) → suc at ≡ length files → file_at (more_in_last files bytes) at ≡ record { name = (file_at files at).name; bytes = (file_at files at).bytes ++ bytes }
last_at [] at bytes e = absurd (omega arith)
last_at (f ∷ []) zero bytes e = refl
last_at (f ∷ []) (suc at) bytes e = absurd (omega arith)
last_at (f ∷ g ∷ files) zero bytes e = absurd (omega arith)
last_at (f ∷ g ∷ files) (suc at) bytes e = last_at (g ∷ files) at bytes (omega arith)

pub last_more : (files : List NamedBytes) (bytes : List ℕ) → 0 < length files → last_file (more_in_last files bytes) ≡ record { name = (last_file files).name; bytes = (last_file files).bytes ++ bytes }
last_more files bytes some =
    ap (λ (n : ℕ). file_at (more_in_last files bytes) (n - 1)) (length_more_in_last files bytes) ∙ last_at files (length files - 1) bytes (omega arith)

more_at_other : (held : Names) (files : List NamedBytes) (at : ℕ) (bytes name : List ℕ) → suc at ≡ length files → name ≢ (file_at files at).name
    → all_laid held (more_in_last files bytes) name ≡ all_laid held files name
more_at_other held [] at bytes name e other = absurd (omega arith)
more_at_other held (f ∷ []) zero bytes name e other =
    laid_elsewhere held (record { name = f.name; bytes = f.bytes ++ bytes }) name other ∙ sym (laid_elsewhere held f name other)
more_at_other held (f ∷ []) (suc at) bytes name e other = absurd (omega arith)
more_at_other held (f ∷ g ∷ files) zero bytes name e other = absurd (omega arith)
more_at_other held (f ∷ g ∷ files) (suc at) bytes name e other = more_at_other (laid held f) (g ∷ files) at bytes name (omega arith) other

-- other names hold what they held
pub more_other : (held : Names) (files : List NamedBytes) (bytes name : List ℕ) → 0 < length files → name ≢ (last_file files).name
    → all_laid held (more_in_last files bytes) name ≡ all_laid held files name
more_other held files bytes name some other = more_at_other held files (length files - 1) bytes name (omega arith) other

-- the name of the last file holds its bytes
pub more_here : (held : Names) (files : List NamedBytes) (bytes : List ℕ) → 0 < length files
    → all_laid held (more_in_last files bytes) (last_file files).name ≡ Some (last_file (more_in_last files bytes)).bytes
more_here held files bytes some =
    let many : length (more_in_last files bytes) ≡ length files = length_more_in_last files bytes in
    let same : (last_file files).name ≡ (last_file (more_in_last files bytes)).name = sym (ap (λ (f : NamedBytes). f.name) (last_more files bytes some)) in
    ap (all_laid held (more_in_last files bytes)) same ∙ last_here held (more_in_last files bytes) (omega arith)

-- the log of the files
pub log_more_in_last : (files : List NamedBytes) (bytes : List ℕ) → log_more (log_of files) bytes ≡ log_of (more_in_last files bytes)
log_more_in_last files bytes =
    ap (λ (names : List (List ℕ)). record { names = names; texts = with_more (map (λ file. file.bytes) files) bytes }) (sym (names_kept files bytes))
    ∙ ap (λ (texts : List (List ℕ)). record { names = map (λ file. file.name) (more_in_last files bytes); texts = texts }) (sym (texts_more files bytes))
  where
    names_kept : (files : List NamedBytes) (bytes : List ℕ) → map (λ file. file.name) (more_in_last files bytes) ≡ map (λ file. file.name) files
    names_kept [] bytes = refl
    names_kept (f ∷ []) bytes = refl
    names_kept (f ∷ g ∷ files) bytes = ap (λ (rest : List (List ℕ)). f.name ∷ rest) (names_kept (g ∷ files) bytes)

    texts_more : (files : List NamedBytes) (bytes : List ℕ) → map (λ file. file.bytes) (more_in_last files bytes) ≡ with_more (map (λ file. file.bytes) files) bytes
    texts_more [] bytes = refl
    texts_more (f ∷ []) bytes = refl
    texts_more (f ∷ g ∷ files) bytes = ap (λ (rest : List (List ℕ)). f.bytes ∷ rest) (texts_more (g ∷ files) bytes)

-- its name stays
pub target_kept : (files new : List NamedBytes) (piece : List ℕ) → 0 < length files → new ≡ more_in_last files piece → (last_file new).name ≡ (last_file files).name
target_kept files new piece some is = ap (λ (fs : List NamedBytes). (last_file fs).name) is ∙ ap (λ (f : NamedBytes). f.name) (last_more files piece some)

-- some bytes were appended to the last file
pub appended : {E : Type 0} (held : Names) (files new : List NamedBytes) (piece : List ℕ) → 0 < length files → new ≡ more_in_last files piece
    → IsAppended {E = E} (last_file files).bytes piece (Ok (length piece)) (last_file new).bytes (all_laid held new (last_file files).name)
appended held files new piece some is = record {
  taken = ap (λ (fs : List NamedBytes). (last_file fs).bytes) is ∙ ap (λ (f : NamedBytes). f.bytes) (last_more files piece some)
      ∙ ap (λ (xs : List ℕ). (last_file files).bytes ++ xs) (sym (take_all (length piece) piece (omega arith)));
  holds = ap (λ (fs : List NamedBytes). all_laid held fs (last_file files).name) is ∙ more_here held files piece some ∙ ap (λ (fs : List NamedBytes). Some (last_file fs).bytes) (sym is);
}

-- ---- from the first file on

-- the file at an index is the one that is read there
pub file_read : (files : List NamedBytes) (i : ℕ) (file : NamedBytes) → i < length files → file ≡ get_or files i file → file_at files i ≡ file
file_read [] i file within is = absurd (omega arith)
file_read (f ∷ files) zero file within is = sym is
file_read (f ∷ files) (suc i) file within is = file_read files i file (omega arith) is

pub all_taken : (held : Names) (files : List NamedBytes) (n : ℕ) (name : List ℕ) → n ≡ length files → all_laid held files name ≡ all_laid held (take n files) name
all_taken held files n name is = ap (λ (fs : List NamedBytes). all_laid held fs name) (sym (take_all n files (omega arith)))

step_down : (n : ℕ) → 0 < n → n ≡ (n - 1) + 1
step_down n some = omega arith

-- the file before an index has the name
pub found_on : (held : Names) (files : List NamedBytes) (n : ℕ) (name : List ℕ) → 0 < n → n ≤ length files → (file_at files (n - 1)).name ≡ name
    → all_laid held (take n files) name ≡ Some (file_at files (n - 1)).bytes
found_on held files n name some within is =
    ap (λ (k : ℕ). all_laid held (take k files) name) (step_down n some)
    ∙ ap (λ (fs : List NamedBytes). all_laid held fs name) (take_more files (n - 1) no_file (omega arith))
    ∙ all_laid_push held (take (n - 1) files) (file_at files (n - 1)) name
    ∙ laid_here (all_laid held (take (n - 1) files)) (file_at files (n - 1)) name (sym is)

-- it has another name
pub passed_on : (held : Names) (files : List NamedBytes) (n : ℕ) (name : List ℕ) → 0 < n → n ≤ length files → (file_at files (n - 1)).name ≢ name
    → all_laid held (take n files) name ≡ all_laid held (take (n - 1) files) name
passed_on held files n name some within other =
    ap (λ (k : ℕ). all_laid held (take k files) name) (step_down n some)
    ∙ ap (λ (fs : List NamedBytes). all_laid held fs name) (take_more files (n - 1) no_file (omega arith))
    ∙ all_laid_push_other held (take (n - 1) files) (file_at files (n - 1)) name (λ same. other (sym same))

-- the same for the file that is read there
pub found_by : (held : Names) (files : List NamedBytes) (n : ℕ) (file : NamedBytes) (name : List ℕ) → 0 < n → n ≤ length files
    → file ≡ get_or files (n - 1) file → file.name ≡ name → all_laid held (take n files) name ≡ Some (file_at files (n - 1)).bytes
found_by held files n file name some within is same =
    found_on held files n name some within (ap (λ (f : NamedBytes). f.name) (file_read files (n - 1) file (omega arith) is) ∙ same)

pub passed_by : (held : Names) (files : List NamedBytes) (n : ℕ) (file : NamedBytes) (name : List ℕ) → 0 < n → n ≤ length files
    → file ≡ get_or files (n - 1) file → file.name ≢ name → all_laid held (take n files) name ≡ all_laid held (take (n - 1) files) name
passed_by held files n file name some within is other =
    passed_on held files n name some within (λ same. other (sym (ap (λ (f : NamedBytes). f.name) (file_read files (n - 1) file (omega arith) is)) ∙ same))

-- the same for the files of a request
given_read : (files : List GivenFile) (i : ℕ) (file : GivenFile) → i < length files → file ≡ get_or files i file → given_file file ≡ get_or (map given_file files) i (given_file file)
given_read [] i file within is = absurd (omega arith)
given_read (f ∷ files) zero file within is = ap given_file is
given_read (f ∷ files) (suc i) file within is = given_read files i file (omega arith) is

length_given : (files : List GivenFile) → length (map given_file files) ≡ length files
length_given [] = refl
length_given (f ∷ files) = ap suc (length_given files)

pub given_taken : (files : List GivenFile) (n : ℕ) (name : List ℕ) → n ≡ length files → given_names files name ≡ all_laid nothing_held (take n (map given_file files)) name
given_taken files n name is = let many = length_given files in all_taken nothing_held (map given_file files) n name (omega arith)

given_found : (files : List GivenFile) (n : ℕ) (file : GivenFile) (name : List ℕ) → 0 < n → n ≤ length files → file ≡ get_or files (n - 1) file
    → file.name.now ≡ name → all_laid nothing_held (take n (map given_file files)) name ≡ Some file.bytes.now
given_found files n file name some within is same =
    let many = length_given files in
    let read = given_read files (n - 1) file (omega arith) is in
    found_by nothing_held (map given_file files) n (given_file file) name some (omega arith) read same
    ∙ ap (λ (f : NamedBytes). Some f.bytes) (file_read (map given_file files) (n - 1) (given_file file) (omega arith) read)

given_passed : (files : List GivenFile) (n : ℕ) (file : GivenFile) (name : List ℕ) → 0 < n → n ≤ length files → file ≡ get_or files (n - 1) file → file.name.now ≢ name
    → all_laid nothing_held (take n (map given_file files)) name ≡ all_laid nothing_held (take (n - 1) (map given_file files)) name
given_passed files n file name some within is other =
    let many = length_given files in
    passed_by nothing_held (map given_file files) n (given_file file) name some (omega arith) (given_read files (n - 1) file (omega arith) is) other

given_default : (files : List GivenFile) (i : ℕ) (one other : GivenFile) → i < length files → get_or files i one ≡ get_or files i other
given_default [] i one other within = absurd (omega arith)
given_default (f ∷ files) zero one other within = refl
given_default (f ∷ files) (suc i) one other within = given_default files i one other (omega arith)

-- the file before an index is the last one with the name
pub given_here : (files : List GivenFile) (n : ℕ) (none : GivenFile) (name : List ℕ) → 0 < n → n ≤ length files → (get_or files (n - 1) none).name.now ≡ name
    → given_names files name ≡ all_laid nothing_held (take n (map given_file files)) name
    → Some (get_or files (n - 1) none).bytes.now ≡ given_names files name
given_here files n none name some within named same =
    let file : GivenFile = get_or files (n - 1) none in
    sym (same ∙ given_found files n file name some within (given_default files (n - 1) none file (omega arith)) named)

-- it is not, and the search goes on
pub given_on : (files : List GivenFile) (n : ℕ) (none : GivenFile) (name : List ℕ) → 0 < n → n ≤ length files → (get_or files (n - 1) none).name.now ≢ name
    → given_names files name ≡ all_laid nothing_held (take n (map given_file files)) name
    → given_names files name ≡ all_laid nothing_held (take (n - 1) (map given_file files)) name
given_on files n none name some within other same =
    let file : GivenFile = get_or files (n - 1) none in
    same ∙ given_passed files n file name some within (given_default files (n - 1) none file (omega arith)) other

-- ---- what a call of the shelf leaves

last_push : (files : List NamedBytes) (file : NamedBytes) → last_file (files ++ (file ∷ [])) ≡ file
last_push files file =
    let many : length (files ++ (file ∷ [])) - 1 ≡ length files = let all : length (files ++ (file ∷ [])) ≡ length files + 1 = length-append files (file ∷ []) in omega arith in
    ap (λ (i : ℕ). file_at (files ++ (file ∷ [])) i) many ∙ at_end files
  where
    at_end : (files : List NamedBytes) → file_at (files ++ (file ∷ [])) (length files) ≡ file
    at_end [] = refl
    at_end (other ∷ files) = at_end files

-- an empty file was begun
pub emptied : (held : Names) (files new : List NamedBytes) (name : List ℕ) → new ≡ files ++ (record { name = name; bytes = [] } ∷ []) → IsEmptied name (all_laid held new name) (last_file new).name (last_file new).bytes
emptied held files new name is =
    let file : NamedBytes = record { name = name; bytes = [] } in
    let last : last_file new ≡ file = ap last_file is ∙ last_push files file in
    record {
      holds = ap (λ (fs : List NamedBytes). all_laid held fs name) is ∙ all_laid_push_here held files file;
      aim = ap (λ (f : NamedBytes). f.name) last;
      none = ap (λ (f : NamedBytes). f.bytes) last;
    }

lacks_push : (held : Names) (names : List (List ℕ)) (name : List ℕ) → lacks_last held (names ++ (name ∷ [])) ≡ is_none (held name)
lacks_push held [] name = refl
lacks_push held (one ∷ []) name = refl
lacks_push held (one ∷ other ∷ names) name = lacks_push held (other ∷ names) name

-- the read of a name that does not exist was begun
pub missing_now : (held : Names) (written : List NamedBytes) (names new : List (List ℕ)) (name : List ℕ) → new ≡ names ++ (name ∷ [])
    → all_laid held written name ≡ held name → held name ≡ None → IsTrue (lacks_last (all_laid held written) new)
missing_now held written names new name is same none = ap (lacks_last (all_laid held written)) is ∙ lacks_push (all_laid held written) names name ∙ ap is_none (same ∙ none)

-- ---- a piece of a written file

-- a piece of what is left from a position on
pub piece_given : (text left into : List ℕ) (at count : ℕ) → left ≡ drop at text → count ≡ min (length left) (length into) → take count into ≡ take count left
    → GivesPrefix (drop at text) (drop (at + count) text) into count
piece_given text left into at count is many copied = record {
  given = sym is ∙ sym (take-append-drop count left) ∙ ap (λ (xs : List ℕ). xs ++ drop count left) (sym copied)
      ∙ ap (λ (xs : List ℕ). take count into ++ xs) (ap (λ (xs : List ℕ). drop count xs) is ∙ drop-drop count at text);
  end = λ room. (λ none. sym is ∙ nil left (omega arith), λ none. let empty : length left ≡ 0 = ap length (is ∙ none) in omega arith);
}
  where
    nil : (xs : List ℕ) → length xs ≡ 0 → xs ≡ []
    nil [] e = refl
    nil (x ∷ xs) e = absurd (omega arith)
