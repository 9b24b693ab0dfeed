-- The files of a shelf in memory.
use Rattle.std.proofs.Common.{◌≡◌, ◌≢◌, ◌<◌, ◌+◌, ◌∙◌, ◌&&◌, ℕ, zero, suc, Bool, true, false, not, List, [], ◌∷◌, ◌++◌, Option, Some, None, length, take, drop, get_or, is_some, unwrap_or, nat_le, ◌-◌, if◌then◌else◌, refl, ap, sym, arith}
use Rattle.std.specs.Str.{bytes_eq}
use Rattle.std.proofs.Math.ListN.{set, length-set}
use Rattle.std.proofs.lemmas.Slice.Eq.{bytes_eq-Decides}
use Rattle.std.proofs.lemmas.Bool.{false_from_ne_true}
use Rattle.std.proofs.lemmas.List.{take-append-drop, drop-drop, get_or-set_same}
use Rattle.cmr_io.specs.declared.memory_file.File.{File}
use Rattle.cmr_io.specs.Files.{file_name, held_by, room_for, is_named, has_name, of_first, content_in, room_in, IsFirstFile, bytes_at, name_at, is_writable, is_writable_at}
use Rattle.cmr_io.specs.Writes.{Writes}
use Rattle.cmr_io.specs.Begun.{is_writing, file_written}
use Rattle.cmr_io.specs.MemoryShelf.{target_by, got_by}
use Rattle.cmr_io.specs.declared.memory_shelf.Begun.{Begun}
use Rattle.cmr_io.specs.declared.memory_shelf.Begun.TheVariants.{Nothing, Read, Write}
use borrow.Author.Tests.{leb-true}
use Rattle.cmr_base.proofs.Booleans.{not_is, and_is, not_either}

is_other : (bytes name other : List ℕ) → bytes_eq bytes name ≡ true → other ≢ name → bytes_eq bytes other ≡ false
is_other bytes name other h ne =
    false_from_ne_true (bytes_eq bytes other) (λ same. ne (sym ((bytes_eq-Decides bytes other).0 same) ∙ (bytes_eq-Decides bytes name).0 h))

-- files with one name agree on each test of a name
is_named-same : (name : List ℕ) (file old : File) (b : Bool) → file_name file ≡ file_name old → is_named name old ≡ b → is_named name file ≡ b
is_named-same name file old b same h = ap (λ (bytes : List ℕ). bytes_eq bytes name) same ∙ h

-- no file has the name
pub has_name-none : (name : List ℕ) (files : List File) → ((k : ℕ) (file : File) → k < length files → is_named name (get_or files k file) ≡ false) → has_name name files ≡ false
has_name-none name [] other = refl
has_name-none name (file ∷ files) other =
    rw (other 0 file (omega arith)) (has_name-none name files (λ k x lt. other (suc k) x (omega arith)))

-- no file before the index has the name
pub IsFirst-none_before : (name : List ℕ) (files : List File) (i : ℕ) (file : File) → ((k : ℕ) (x : File) → k < i → is_named name (get_or files k x) ≡ false)
    → i < length files → is_named name (get_or files i file) ≡ true → IsFirstFile name files i
IsFirst-none_before name [] i file other lt named = absurd (omega arith)
IsFirst-none_before name (x ∷ files) zero file other lt named = named
IsFirst-none_before name (x ∷ files) (suc i) file other lt named =
    (other 0 x (omega arith), IsFirst-none_before name files i file (λ k y below. other (suc k) y (omega arith)) (omega arith) named)

-- a file that replaces the first file with its name
pub IsFirst-set : (name : List ℕ) (files : List File) (i : ℕ) (file old : File) → IsFirstFile name files i → old ≡ get_or files i old
    → file_name file ≡ file_name old → IsFirstFile name (set files i file) i
IsFirst-set name [] i file old h is same = absurd h
IsFirst-set name (x ∷ files) zero file old h is same = is_named-same name file x true (same ∙ ap file_name is) h
IsFirst-set name (x ∷ files) (suc i) file old h is same = (h.0, IsFirst-set name files i file old h.1 is same)

pub of_first-none : {A : Type 0} → (view : File → Option A) (name : List ℕ) (files : List File) → has_name name files ≡ false → of_first view files name ≡ None
of_first-none view name [] h = refl
of_first-none view name (file ∷ files) h =
    let p = not_either (is_named name file) (has_name name files) h in
    rw p.0 (of_first-none view name files p.1)

-- the view of the first file with a name
pub of_first-first : {A : Type 0} → (view : File → Option A) (name : List ℕ) (files : List File) (i : ℕ) (file : File) → IsFirstFile name files i
    → file ≡ get_or files i file → of_first view files name ≡ view file
of_first-first view name [] i file h is = absurd h
of_first-first view name (x ∷ files) zero file h is = rw (h, is) refl
of_first-first view name (x ∷ files) (suc i) file h is = rw h.0 (of_first-first view name files i file h.1 is)

-- the view of a file that replaces the first file with a name
pub of_first-set : {A : Type 0} → (view : File → Option A) (name : List ℕ) (files : List File) (i : ℕ) (file old : File) → i < length files
    → IsFirstFile name files i → old ≡ get_or files i old → file_name file ≡ file_name old → of_first view (set files i file) name ≡ view file
of_first-set view name files i file old lt h is same =
    of_first-first view name (set files i file) i file (IsFirst-set name files i file old h is same) (sym (get_or-set_same files i file file lt))

-- the other names, after a file is replaced
pub of_first-set_other : {A : Type 0} → (view : File → Option A) (name other : List ℕ) (files : List File) (i : ℕ) (file old : File) → other ≢ name
    → IsFirstFile name files i → old ≡ get_or files i old → file_name file ≡ file_name old → of_first view (set files i file) other ≡ of_first view files other
of_first-set_other view name other [] i file old ne h is same = absurd h
of_first-set_other view name other (x ∷ files) zero file old ne h is same =
    let before : is_named other x ≡ false = is_other (file_name x) name other h ne in
    rw (before, is_named-same other file x false (same ∙ ap file_name is) before) refl
of_first-set_other view name other (x ∷ files) (suc i) file old ne h is same = rw (of_first-set_other view name other files i file old ne h.1 is same) refl

-- a file that is replaced by a file with the same view
pub of_first-set_same : {A : Type 0} → (view : File → Option A) (name : List ℕ) (files : List File) (i : ℕ) (file old : File) → i < length files
    → old ≡ get_or files i old → file_name file ≡ file_name old → view file ≡ view old → of_first view (set files i file) name ≡ of_first view files name
of_first-set_same view name [] i file old lt is same shown = absurd (omega arith)
of_first-set_same view name (x ∷ files) zero file old lt is same shown =
    let named : is_named name file ≡ is_named name x = ap (λ (bytes : List ℕ). bytes_eq bytes name) (same ∙ ap file_name is) in
    rw (named, shown ∙ ap view is) refl
of_first-set_same view name (x ∷ files) (suc i) file old lt is same shown = rw (of_first-set_same view name files i file old (omega arith) is same shown) refl

-- a file that is added
pub of_first-push : {A : Type 0} → (view : File → Option A) (name : List ℕ) (files : List File) (file : File) → has_name name files ≡ false
    → file_name file ≡ name → of_first view (files ++ file ∷ []) name ≡ view file
of_first-push view name [] file none same = rw ((bytes_eq-Decides (file_name file) name).1 same) refl
of_first-push view name (x ∷ files) file none same =
    let p = not_either (is_named name x) (has_name name files) none in
    rw p.0 (of_first-push view name files file p.1 same)

pub of_first-push_other : {A : Type 0} → (view : File → Option A) (name other : List ℕ) (files : List File) (file : File) → other ≢ name → file_name file ≡ name
    → of_first view (files ++ file ∷ []) other ≡ of_first view files other
of_first-push_other view name other [] file ne same = rw (is_other (file_name file) name other ((bytes_eq-Decides (file_name file) name).1 same) ne) refl
of_first-push_other view name other (x ∷ files) file ne same = rw (of_first-push_other view name other files file ne same) refl

if_none : {A : Type 0} → (b : Bool) (x : Option A) → x ≡ None → (if b then x else None) ≡ None
if_none true x none = none
if_none false x none = refl

-- a file that is added and has no view
pub of_first-push_none : {A : Type 0} → (view : File → Option A) (name : List ℕ) (files : List File) (file : File) → view file ≡ None
    → of_first view (files ++ file ∷ []) name ≡ of_first view files name
of_first-push_none view name [] file none = if_none (is_named name file) (view file) none
of_first-push_none view name (x ∷ files) file none = rw (of_first-push_none view name files file none) refl

pub bytes_at-read : (files : List File) (i : ℕ) (file : File) → i < length files → file ≡ get_or files i file → bytes_at files i ≡ file.bytes.items
bytes_at-read [] i file lt is = absurd (omega arith)
bytes_at-read (x ∷ files) zero file lt is = ap (λ (y : File). y.bytes.items) (sym is)
bytes_at-read (x ∷ files) (suc i) file lt is = bytes_at-read files i file (omega arith) is

pub name_at-first : (name : List ℕ) (files : List File) (i : ℕ) → IsFirstFile name files i → name_at files i ≡ name
name_at-first name [] i h = absurd h
name_at-first name (x ∷ files) zero h = (bytes_eq-Decides (file_name x) name).0 h
name_at-first name (x ∷ files) (suc i) h = name_at-first name files i h.1

-- a file that is written is the first file with its name
pub IsFirst-writable : (files : List File) (i : ℕ) → is_writable_at files i ≡ true → IsFirstFile (name_at files i) files i
IsFirst-writable [] i h = absurd (cc)
IsFirst-writable (x ∷ files) zero h = (bytes_eq-Decides (file_name x) (file_name x)).1 refl
IsFirst-writable (x ∷ files) (suc i) h =
    let p = and_is (not (is_named (name_at files i) x)) (is_writable_at files i) h in
    (not_is (is_named (name_at files i) x) p.0, IsFirst-writable files i p.1)

pub is_writable-read : (files : List File) (i : ℕ) (file : File) → is_writable_at files i ≡ true → file ≡ get_or files i file → is_writable file ≡ true
is_writable-read [] i file h is = absurd (cc)
is_writable-read (x ∷ files) zero file h is = rw is h
is_writable-read (x ∷ files) (suc i) file h is =
    is_writable-read files i file (and_is (not (is_named (name_at files i) x)) (is_writable_at files i) h).1 is

pub is_writable_at-first : (name : List ℕ) (files : List File) (i : ℕ) (file : File) → IsFirstFile name files i → file ≡ get_or files i file → is_writable file ≡ true → is_writable_at files i ≡ true
is_writable_at-first name [] i file h is writable = absurd h
is_writable_at-first name (x ∷ files) zero file h is writable = rw (← is) writable
is_writable_at-first name (x ∷ files) (suc i) file h is writable =
    let other : is_named (name_at files i) x ≡ false = rw (name_at-first name files i h.1) h.0 in
    rw other (is_writable_at-first name files i file h.1 is writable)

pub IsFirst-within : (name : List ℕ) (files : List File) (i : ℕ) → IsFirstFile name files i → i < length files
IsFirst-within name [] i h = absurd h
IsFirst-within name (x ∷ files) zero h = omega arith
IsFirst-within name (x ∷ files) (suc i) h = let lt = IsFirst-within name files i h.1 in omega arith

-- there is a file at an index
file_at : (files : List File) (i : ℕ) → i < length files → (file : File) × (file ≡ get_or files i file)
file_at [] i lt = absurd (omega arith)
file_at (x ∷ files) zero lt = (x, refl)
file_at (x ∷ files) (suc i) lt = file_at files i (omega arith)

room_is_full : (there : Bool) (room : Option ℕ) (count : ℕ) → (there && is_some room && nat_le count (unwrap_or room 0)) ≡ true → unwrap_or room 0 - count ≡ 0 → room ≡ Some count
room_is_full true None count h full = absurd (cc)
room_is_full true (Some room) count h full = let le = leb-true count room h in let e : room ≡ count = omega arith in ap Some e
room_is_full false room count h full = absurd (cc)

is_first_of : (a b c : Bool) → (a && b && c) ≡ true → a ≡ true
is_first_of true b c h = refl
is_first_of false b c h = absurd (cc)

is_there-writable : (file : File) → is_writable file ≡ true → file.is_there ≡ true
is_there-writable file h = is_first_of file.is_there (is_some file.room) (nat_le (length file.bytes.items) (unwrap_or file.room 0)) h

-- the content of a file that is written
pub content_in-writable : (files : List File) (i : ℕ) → is_writable_at files i ≡ true → content_in files (name_at files i) ≡ Some (bytes_at files i)
content_in-writable files i h =
    let first = IsFirst-writable files i h in
    let within = IsFirst-within (name_at files i) files i first in
    let at = file_at files i within in
    let there = is_there-writable at.0 (is_writable-read files i at.0 h at.1) in
    of_first-first held_by (name_at files i) files i at.0 first at.1 ∙ rw there (ap Some (sym (bytes_at-read files i at.0 within at.1)))

-- a file that is written and has no room left is as long as its room
pub room_in-full : (files : List File) (i : ℕ) → is_writable_at files i ≡ true → unwrap_or (room_in files (name_at files i)) 0 - length (bytes_at files i) ≡ 0
    → room_in files (name_at files i) ≡ Some (length (bytes_at files i))
room_in-full files i h full =
    let first = IsFirst-writable files i h in
    let within = IsFirst-within (name_at files i) files i first in
    let at = file_at files i within in
    let room = of_first-first room_for (name_at files i) files i at.0 first at.1 in
    let bytes = bytes_at-read files i at.0 within at.1 in
    let left = rw (room, bytes) at full in
    rw (room, bytes) (room_is_full (at.0).is_there (at.0).room (length (at.0).bytes.items) (is_writable-read files i at.0 h at.1) left)

-- the content of a name that is written
pub content_in-got : (files : List File) (begun : Begun) → is_writing begun ≡ true
    → ((file : ℕ) → file_written begun ≡ Some file → is_writable_at files file ≡ true) → content_in files (target_by files begun) ≡ Some (got_by files begun)
content_in-got files Nothing writing writable = absurd (cc)
content_in-got files (Read file at) writing writable = absurd (cc)
content_in-got files (Write file) writing writable = content_in-writable files file (writable file refl)

-- a prefix that was copied, and the rest
pub copied_and_left : (bytes copy : List ℕ) (at n : ℕ) → copy ≡ take n (drop at bytes) → drop at bytes ≡ copy ++ drop (at + n) bytes
copied_and_left bytes copy at n same = rw (same, ← drop-drop n at bytes) (sym (take-append-drop n (drop at bytes)))

-- a writable file replaces a file
pub Writes-set : (name : List ℕ) (files : List File) (i : ℕ) (file old : File) (bytes : List ℕ) → i < length files → IsFirstFile name files i
    → old ≡ get_or files i old → file_name file ≡ file_name old → room_for file ≡ room_for old → held_by file ≡ Some bytes → file.bytes.items ≡ bytes
    → is_writable file ≡ true → Writes files (set files i file) i bytes
Writes-set name files i file old bytes lt h is same room held items writable =
    let first : IsFirstFile name (set files i file) i = IsFirst-set name files i file old h is same in
    let here : file ≡ get_or (set files i file) i file = sym (get_or-set_same files i file file lt) in
    let within : i < length (set files i file) = simp length-set lt in
    let named : name_at (set files i file) i ≡ name = name_at-first name (set files i file) i first in
    record {
      bytes_are = bytes_at-read (set files i file) i file within here ∙ items;
      held = rw named (of_first-first held_by name (set files i file) i file first here ∙ held);
      others = λ other ne. of_first-set_other held_by name other files i file old (λ e. ne (e ∙ sym named)) h is same;
      rooms = λ other. of_first-set_same room_for other files i file old lt is same room;
      writable = is_writable_at-first name (set files i file) i file first here writable;
      in_range = within;
    }
