-- Netstrings of words and of files, read from the beginning.
use Rattle.std.proofs.Common.{◌≡◌, ◌<◌, ◌∙◌, ℕ, List, [], ◌∷◌, ◌++◌, length, refl, ap, sym, subst, arith, append_assoc, append-nil}
use Rattle.std.specs.List.{AllByRecursion, flat_map}
use Rattle.netstrings.specs.Netstrings.{netstring, netstrings, BeginsWithNone, StartsWith, IsShort}
use Rattle.netstrings.proofs.NetstringLemmas.{one_netstring, one_row}
use Rattle.frames.specs.NamedFiles.{NamedBytes, file_text, files_text}
use Rattle.std.specs.Prelude.{map}
use Rattle.std.specs.Str.{IsUtf8}
use Rattle.frames.specs.declared.request.GivenFile.{GivenFile}
use Rattle.frames.specs.Requests.{given_file, IsFile, IsFileRowOf, IsNoFileRow, IsNoRow, IsRowOf, IsTextOf, IsWord}

-- ---- lists that are made from the beginning

pub all_push : {X : Type 0} (P : X → Type 0) (xs : List X) (x : X) → AllByRecursion P xs → P x → AllByRecursion P (xs ++ (x ∷ []))
all_push P [] x all last = (last, tt)
all_push P (y ∷ xs) x all last = (all.0, all_push P xs x all.1 last)

pub flat_map_push : {X : Type 0} (f : X → List ℕ) (xs : List X) (x : X) → flat_map f (xs ++ (x ∷ [])) ≡ flat_map f xs ++ f x
flat_map_push f [] x = append-nil (f x)
flat_map_push f (y ∷ xs) x = ap (λ (rest : List ℕ). f y ++ rest) (flat_map_push f xs x) ∙ sym (append_assoc (f y) (flat_map f xs) (f x))

-- ---- words

abbrev pub HasRow : List ℕ → Type 0
HasRow bytes = (words : List (List ℕ)) × IsRowOf bytes words

-- the first word of a row that has one
pub record HasWord (bytes : List ℕ) : Type 0 where
  pub word : List ℕ
  pub is_word : IsWord word
  pub rest : List ℕ
  pub others : HasRow rest
  pub splits : StartsWith bytes word rest

first_word : (words : List (List ℕ)) (bytes : List ℕ) → 0 < length bytes → AllByRecursion IsWord words → bytes ≡ netstrings words → HasWord bytes
first_word [] bytes some all text = absurd (let none : length bytes ≡ 0 = ap length text in omega arith)
first_word (word ∷ words) bytes some all text = record {
  word = word;
  is_word = all.0;
  rest = netstrings words;
  others = (words, record { all = all.1; text = refl });
  splits = record { whole = text; short = all.0.short };
}

pub has_word : (bytes : List ℕ) → 0 < length bytes → HasRow bytes → HasWord bytes
has_word bytes some (words, row) = first_word words bytes some row.all row.text

-- the first netstring is the first word
pub row_after : (bytes text rest : List ℕ) → 0 < length bytes → StartsWith bytes text rest → HasRow bytes → IsWord text × HasRow rest
row_after bytes text rest some splits row =
    let first = has_word bytes some row in
    let same = one_netstring bytes first.word first.rest text rest first.splits splits in
    (subst IsWord same.0 first.is_word, subst HasRow same.1 first.others)

pub no_row : (bytes : List ℕ) → 0 < length bytes → BeginsWithNone bytes → HasRow bytes → ⊥
no_row bytes some none row = let first = has_word bytes some row in none first.word first.rest first.splits

-- one word more was read
pub words_on : (text word rest left : List ℕ) (words : List (List ℕ)) → text ≡ netstrings words ++ left → StartsWith left word rest → text ≡ netstrings (words ++ (word ∷ [])) ++ rest
words_on text word rest left words told splits =
    told
    ∙ ap (λ (x : List ℕ). netstrings words ++ x) splits.whole
    ∙ sym (append_assoc (netstrings words) (netstring word) rest)
    ∙ ap (λ (x : List ℕ). x ++ rest) (sym (flat_map_push netstring words word))

-- ---- files

abbrev pub HasFileRow : List ℕ → Type 0
HasFileRow bytes = (files : List NamedBytes) × IsFileRowOf bytes files

pub record HasFile (bytes : List ℕ) : Type 0 where
  pub file : NamedBytes
  pub is_file : IsFile file
  pub rest : List ℕ
  pub others : HasFileRow rest
  pub name : StartsWith bytes file.name (netstring file.bytes ++ rest)

first_file : (files : List NamedBytes) (bytes : List ℕ) → 0 < length bytes → AllByRecursion IsFile files → bytes ≡ files_text files → HasFile bytes
first_file [] bytes some all text = absurd (let none : length bytes ≡ 0 = ap length text in omega arith)
first_file (file ∷ files) bytes some all text = record {
  file = file;
  is_file = all.0;
  rest = files_text files;
  others = (files, record { all = all.1; text = refl });
  name = record { whole = text ∙ append_assoc (netstring file.name) (netstring file.bytes) (files_text files); short = all.0.name.short };
}

pub has_file : (bytes : List ℕ) → 0 < length bytes → HasFileRow bytes → HasFile bytes
has_file bytes some (files, row) = first_file files bytes some row.all row.text

pub no_file_row : (bytes : List ℕ) → 0 < length bytes → BeginsWithNone bytes → HasFileRow bytes → ⊥
no_file_row bytes some none row = let first = has_file bytes some row in none first.file.name (netstring first.file.bytes ++ first.rest) first.name

-- the name of the first file was read
pub record IsAfterName (name rest : List ℕ) : Type 0 where
  pub is_word : IsWord name
  pub bytes : List ℕ
  pub short : IsShort bytes
  pub others : List ℕ
  pub are_files : HasFileRow others
  pub splits : StartsWith rest bytes others

pub after_name : (bytes name rest : List ℕ) → 0 < length bytes → StartsWith bytes name rest → HasFileRow bytes → IsAfterName name rest
after_name bytes name rest some splits row =
    let first = has_file bytes some row in
    let same = one_netstring bytes first.file.name (netstring first.file.bytes ++ first.rest) name rest first.name splits in
    record {
      is_word = subst IsWord same.0 first.is_file.name;
      bytes = first.file.bytes;
      short = first.is_file.bytes;
      others = first.rest;
      are_files = first.others;
      splits = record { whole = sym same.1; short = first.is_file.bytes };
    }

pub files_after : (name rest bytes others : List ℕ) → IsAfterName name rest → StartsWith rest bytes others → HasFileRow others
files_after name rest bytes others after splits =
    let same = one_netstring rest after.bytes after.others bytes others after.splits splits in
    subst HasFileRow same.1 after.are_files

-- one file more was read
pub files_on : (text rest left others : List ℕ) (files : List NamedBytes) (file : NamedBytes) → text ≡ files_text files ++ left → StartsWith left file.name rest → StartsWith rest file.bytes others
    → text ≡ files_text (files ++ (file ∷ [])) ++ others
files_on text rest left others files file told name bytes =
    told
    ∙ ap (λ (x : List ℕ). files_text files ++ x) (name.whole ∙ ap (λ (x : List ℕ). netstring file.name ++ x) bytes.whole ∙ sym (append_assoc (netstring file.name) (netstring file.bytes) others))
    ∙ sym (append_assoc (files_text files) (file_text file) others)
    ∙ ap (λ (x : List ℕ). x ++ others) (sym (flat_map_push file_text files file))

-- ---- the loops

-- some words were read, and these bytes are left
pub record WordsRead (text : List ℕ) (words : List (List ℕ)) (left : List ℕ) : Type 0 where
  pub text_is : text ≡ netstrings words ++ left
  pub all : AllByRecursion IsWord words
  pub row : HasRow text → HasRow left

pub no_words_read : (text : List ℕ) → WordsRead text [] text
no_words_read text = record { text_is = refl; all = tt; row = λ row. row }

pub word_read : (text left word rest : List ℕ) (words new : List (List ℕ)) → WordsRead text words left → 0 < length left → StartsWith left word rest
    → IsUtf8 word → new ≡ words ++ (word ∷ []) → WordsRead text new rest
word_read text left word rest words new read some starts utf8 is =
    subst (λ (all : List (List ℕ)). WordsRead text all rest) (sym is)
    (record {
      text_is = words_on text word rest left words read.text_is starts;
      all = all_push IsWord words word read.all (record { utf8 = utf8; short = starts.short });
      row = λ row. (row_after left word rest some starts (read.row row)).1;
    })

pub words_end : (text left : List ℕ) (words : List (List ℕ)) → WordsRead text words left → length left ≡ 0 → IsRowOf text words
words_end text (b ∷ left) words read none = absurd (omega arith)
words_end text [] words read none = record { all = read.all; text = read.text_is ∙ append-nil (netstrings words) }

pub no_word : (text left : List ℕ) (words : List (List ℕ)) → WordsRead text words left → 0 < length left → BeginsWithNone left → IsNoRow text
no_word text left words read some none others row = no_row left some none (read.row (others, row))

pub no_utf8 : (text left word rest : List ℕ) (words : List (List ℕ)) → WordsRead text words left → 0 < length left → StartsWith left word rest → (IsUtf8 word → ⊥) → IsNoRow text
no_utf8 text left word rest words read some starts not_utf8 others row = not_utf8 (row_after left word rest some starts (read.row (others, row))).0.utf8

-- some files were read
pub record FilesRead (text : List ℕ) (files : List NamedBytes) (left : List ℕ) : Type 0 where
  pub text_is : text ≡ files_text files ++ left
  pub all : AllByRecursion IsFile files
  pub row : HasFileRow text → HasFileRow left

pub no_files_read : (text : List ℕ) → FilesRead text [] text
no_files_read text = record { text_is = refl; all = tt; row = λ row. row }

pub file_read : (text left name rest bytes others : List ℕ) (files new : List NamedBytes) → FilesRead text files left → 0 < length left
    → StartsWith left name rest → IsUtf8 name → StartsWith rest bytes others
    → new ≡ files ++ (record { name = name; bytes = bytes } ∷ []) → FilesRead text new others
file_read text left name rest bytes others files new read some starts utf8 next is =
    subst (λ (all : List NamedBytes). FilesRead text all others) (sym is)
    (record {
      text_is = files_on text rest left others files (record { name = name; bytes = bytes }) read.text_is starts next;
      all = all_push IsFile files (record { name = name; bytes = bytes }) read.all (record { name = record { utf8 = utf8; short = starts.short }; bytes = next.short });
      row = λ row. files_after name rest bytes others (after_name left name rest some starts (read.row row)) next;
    })

-- one file more is held
pub one_more_file : (files new : List GivenFile) (file : GivenFile) (name bytes : List ℕ) → new ≡ files ++ (file ∷ []) → file.name.now ≡ name → file.bytes.now ≡ bytes → map given_file new ≡ map given_file files ++ (record { name = name; bytes = bytes } ∷ [])
one_more_file files new file name bytes is named held =
    ap (λ (fs : List GivenFile). map given_file fs) is ∙ pushed files
    ∙ ap (λ (n : List ℕ). map given_file files ++ (record { name = n; bytes = file.bytes.now } ∷ [])) named
    ∙ ap (λ (b : List ℕ). map given_file files ++ (record { name = name; bytes = b } ∷ [])) held
  where
    pushed : (files : List GivenFile) → map given_file (files ++ (file ∷ [])) ≡ map given_file files ++ (given_file file ∷ [])
    pushed [] = refl
    pushed (other ∷ files) = ap (λ (rest : List NamedBytes). given_file other ∷ rest) (pushed files)

pub files_end : (text left : List ℕ) (files : List NamedBytes) → FilesRead text files left → length left ≡ 0 → IsFileRowOf text files
files_end text (b ∷ left) files read none = absurd (omega arith)
files_end text [] files read none = record { all = read.all; text = read.text_is ∙ append-nil (files_text files) }

pub no_name : (text left : List ℕ) (files : List NamedBytes) → FilesRead text files left → 0 < length left → BeginsWithNone left → IsNoFileRow text
no_name text left files read some none others row = no_file_row left some none (read.row (others, row))

pub no_utf8_name : (text left name rest : List ℕ) (files : List NamedBytes) → FilesRead text files left → 0 < length left → StartsWith left name rest → (IsUtf8 name → ⊥) → IsNoFileRow text
no_utf8_name text left name rest files read some starts not_utf8 others row = not_utf8 (after_name left name rest some starts (read.row (others, row))).is_word.utf8

pub no_bytes : (text left name rest : List ℕ) (files : List NamedBytes) → FilesRead text files left → 0 < length left → StartsWith left name rest → BeginsWithNone rest → IsNoFileRow text
no_bytes text left name rest files read some starts none others row =
    let after = after_name left name rest some starts (read.row (others, row)) in
    none after.bytes after.others after.splits

-- ---- a request

pub record IsHeadAndFiles (head rest : List ℕ) (words : List (List ℕ)) (files : List NamedBytes) : Type 0 where
  pub words_are : IsRowOf head words
  pub files_are : IsFileRowOf rest files

pub request_parts : (text head rest : List ℕ) (words : List (List ℕ)) (files : List NamedBytes) → StartsWith text head rest → IsTextOf text words files → IsHeadAndFiles head rest words files
request_parts text head rest words files splits request =
    let same = one_netstring text (netstrings words) (files_text files) head rest (record { whole = request.text; short = request.short }) splits in
    record {
      words_are = record { all = request.all_words; text = sym same.0 };
      files_are = record { all = request.all_files; text = sym same.1 };
    }

-- ---- unique

words_short : (words : List (List ℕ)) → AllByRecursion IsWord words → AllByRecursion IsShort words
words_short [] all = tt
words_short (word ∷ words) all = (all.0.short, words_short words all.1)

-- the name and the bytes of a file are short
pub record IsShortFile (file : NamedBytes) : Type 0 where
  pub name : IsShort file.name
  pub bytes : IsShort file.bytes

files_short : (files : List NamedBytes) → AllByRecursion IsFile files → AllByRecursion IsShortFile files
files_short [] all = tt
files_short (file ∷ files) all = (record { name = all.0.name.short; bytes = all.0.bytes }, files_short files all.1)

no_more_files : (file : NamedBytes) (files : List NamedBytes) → IsShortFile file → [] ≡ files_text (file ∷ files) → ⊥
no_more_files file files is e =
    let one : [] ≡ netstrings (file.name ∷ []) ++ (netstring file.bytes ++ files_text files) = e ∙ append_assoc (netstring file.name) (netstring file.bytes) (files_text files) ∙ ap (λ (x : List ℕ). x ++ (netstring file.bytes ++ files_text files)) (sym (append-nil (netstring file.name))) in
    nothing (netstrings (file.name ∷ [])) (netstring file.bytes ++ files_text files) one (λ none. no_word file.name is.name (sym none))
  where
    nothing : (a b : List ℕ) → [] ≡ a ++ b → (a ≡ [] → ⊥) → ⊥
    nothing [] b e none = none refl
    nothing (x ∷ a) b e none = absurd (let lengths : 0 ≡ length (x ∷ (a ++ b)) = ap length e in omega arith)

    no_word : (name : List ℕ) → IsShort name → [] ≡ netstrings (name ∷ []) → ⊥
    no_word name short e = let same : [] ≡ name ∷ [] = one_row [] (name ∷ []) tt (short, tt) e in absurd (let lengths : 0 ≡ length (name ∷ []) = ap length same in omega arith)

pub one_file_row : (files others : List NamedBytes) → AllByRecursion IsShortFile files → AllByRecursion IsShortFile others → files_text files ≡ files_text others → files ≡ others
one_file_row [] [] all also e = refl
one_file_row [] (other ∷ others) all also e = absurd (no_more_files other others also.0 e)
one_file_row (file ∷ files) [] all also e = absurd (no_more_files file files all.0 (sym e))
one_file_row (file ∷ files) (other ∷ others) all also e =
    let bytes : List ℕ = files_text (file ∷ files) in
    let names = one_netstring bytes file.name (netstring file.bytes ++ files_text files) other.name (netstring other.bytes ++ files_text others)
    (record { whole = append_assoc (netstring file.name) (netstring file.bytes) (files_text files); short = all.0.name })
    (record { whole = e ∙ append_assoc (netstring other.name) (netstring other.bytes) (files_text others); short = also.0.name }) in
    let held = one_netstring (netstring file.bytes ++ files_text files) file.bytes (files_text files) other.bytes (files_text others)
    (record { whole = refl; short = all.0.bytes }) (record { whole = names.1; short = also.0.bytes }) in
    let rest : files ≡ others = one_file_row files others all.1 also.1 held.1 in
    same_files names.0 held.0 rest
  where
    same_file : (a b : NamedBytes) → a.name ≡ b.name → a.bytes ≡ b.bytes → a ≡ b
    same_file a b name bytes = ap (λ (n : List ℕ). record { name = n; bytes = a.bytes }) name ∙ ap (λ (m : List ℕ). record { name = b.name; bytes = m }) bytes

    same_files : {a b : NamedBytes} {x y : List NamedBytes} → a.name ≡ b.name → a.bytes ≡ b.bytes → x ≡ y → (a ∷ x) ≡ (b ∷ y)
    same_files {a = a} {b = b} name bytes rest = let first : a ≡ b = same_file a b name bytes in cc

pub one_request : (bytes : List ℕ) (words others : List (List ℕ)) (files more : List NamedBytes) → IsTextOf bytes words files → IsTextOf bytes others more → (words ≡ others) × (files ≡ more)
one_request bytes words others files more one other =
    let same = one_netstring bytes (netstrings words) (files_text files) (netstrings others) (files_text more)
    (record { whole = one.text; short = one.short }) (record { whole = other.text; short = other.short }) in (
      one_row words others (words_short words one.all_words) (words_short others other.all_words) same.0,
      one_file_row files more (files_short files one.all_files) (files_short more other.all_files) same.1,
    )
