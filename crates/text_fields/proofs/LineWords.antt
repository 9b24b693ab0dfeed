-- The words of lines.
use Rattle.std.proofs.Common.{◌≡◌, ◌+◌, ◌∙◌, ℕ, suc, Bool, true, false, List, [], ◌∷◌, ◌++◌, length, refl, ap, sym, subst, append_assoc, arith}
use Rattle.std.specs.List.{AllByRecursion, join_with_byte, flat_map}
use Rattle.text_fields.specs.TextWords.{is_space, with_word, run_and_words, words_from}
use Rattle.text_fields.specs.Spelling.{texts_of, words_in}
use Rattle.text_fields.specs.Written.{text_line, text_of_lines}

-- without white space
abbrev pub IsSolid : List ℕ → Type 0
IsSolid bytes = AllByRecursion (λ b. is_space b ≡ false) bytes

-- a word: not empty, and without white space
pub record IsWord (word : List ℕ) : Type 0 where
  pub first : ℕ
  pub others : List ℕ
  pub word_is : word ≡ first ∷ others
  pub solid : IsSolid word

run_of_word : (at : ℕ) (word : List ℕ) (space : ℕ) (rest : List ℕ) → IsSolid word → is_space space ≡ true → run_and_words at (word ++ space ∷ rest) ≡ (word, words_from (at + length word + 1) rest)
run_of_word at [] space rest solid is = let here : at + 0 + 1 ≡ at + 1 = omega arith in rw (is, here) refl
run_of_word at (b ∷ word) space rest solid is =
    let ends_at : at + suc (length word) + 1 ≡ at + 1 + length word + 1 = omega arith in
    rw (solid.0, run_of_word (at + 1) word space rest solid.1 is, ends_at) refl

-- offsets do not matter
with_word_at : (a b : ℕ) (run : List ℕ) (words others : List (ℕ × List ℕ)) → texts_of words ≡ texts_of others → texts_of (with_word a run words) ≡ texts_of (with_word b run others)
with_word_at a b [] words others same = same
with_word_at a b (x ∷ run) words others same = ap (λ ws. (x ∷ run) ∷ ws) same

runs_at : (a b : ℕ) (bytes : List ℕ) → ((run_and_words a bytes).0 ≡ (run_and_words b bytes).0) × (texts_of (run_and_words a bytes).1 ≡ texts_of (run_and_words b bytes).1)
runs_at a b [] = (refl, refl)
runs_at a b (x ∷ bytes) = go (is_space x) refl (runs_at (a + 1) (b + 1) bytes)
  where
    go : (t : Bool) → is_space x ≡ t → ((run_and_words (a + 1) bytes).0 ≡ (run_and_words (b + 1) bytes).0) × (texts_of (run_and_words (a + 1) bytes).1 ≡ texts_of (run_and_words (b + 1) bytes).1)
        → ((run_and_words a (x ∷ bytes)).0 ≡ (run_and_words b (x ∷ bytes)).0) × (texts_of (run_and_words a (x ∷ bytes)).1 ≡ texts_of (run_and_words b (x ∷ bytes)).1)
    go true is same =
        rw is (refl, ap (λ run. texts_of (with_word (a + 1) run (run_and_words (a + 1) bytes).1)) same.0 ∙ with_word_at (a + 1) (b + 1) (run_and_words (b + 1) bytes).0 (run_and_words (a + 1) bytes).1 (run_and_words (b + 1) bytes).1 same.1)
    go false is same = rw is (ap (λ run. x ∷ run) same.0, same.1)

texts_at : (a b : ℕ) (bytes : List ℕ) → texts_of (words_from a bytes) ≡ texts_of (words_from b bytes)
texts_at a b bytes =
    let same = runs_at a b bytes in
    ap (λ run. texts_of (with_word a run (run_and_words a bytes).1)) same.0 ∙ with_word_at a b (run_and_words b bytes).0 (run_and_words a bytes).1 (run_and_words b bytes).1 same.1

-- a word before white space
pub words_in_word : (word : List ℕ) (space : ℕ) (rest : List ℕ) → IsWord word → is_space space ≡ true → words_in (word ++ space ∷ rest) ≡ word ∷ words_in rest
words_in_word word space rest is_word is = subst (λ w. words_in (w ++ space ∷ rest) ≡ w ∷ words_in rest) (sym is_word.word_is) (go is_word.first is_word.others (subst IsSolid is_word.word_is is_word.solid))
  where
    go : (b : ℕ) (others : List ℕ) → IsSolid (b ∷ others) → words_in ((b ∷ others) ++ space ∷ rest) ≡ (b ∷ others) ∷ words_in rest
    go b others solid =
        ap (λ (run : List ℕ × List (ℕ × List ℕ)). texts_of (with_word 0 run.0 run.1)) (run_of_word 0 (b ∷ others) space rest solid is)
        ∙ ap (λ ws. (b ∷ others) ∷ ws) (texts_at (0 + length (b ∷ others) + 1) 0 rest)

pub words_in_space : (space : ℕ) (rest : List ℕ) → is_space space ≡ true → words_in (space ∷ rest) ≡ words_in rest
words_in_space space rest is = rw is (texts_at 1 0 rest)

-- the words of a line
pub words_in_line : (words : List (List ℕ)) (rest : List ℕ) → AllByRecursion IsWord words → words_in (text_line words ++ rest) ≡ words ++ words_in rest
words_in_line [] rest all = words_in_space 10 rest refl
words_in_line (word ∷ []) rest all = ap words_in (append_assoc word (10 ∷ []) rest) ∙ words_in_word word 10 rest all.0 refl
words_in_line (word ∷ next ∷ words) rest all =
    ap words_in (ap (λ bytes. bytes ++ rest) (append_assoc word (32 ∷ join_with_byte 32 (next ∷ words)) (10 ∷ [])) ∙ append_assoc word (32 ∷ text_line (next ∷ words)) rest)
    ∙ words_in_word word 32 (text_line (next ∷ words) ++ rest) all.0 refl
    ∙ ap (λ ws. word ∷ ws) (words_in_line (next ∷ words) rest all.1)

-- the words of lines, one after another
abbrev pub words_of_lines : List (List (List ℕ)) → List (List ℕ)
words_of_lines lines = flat_map (λ line. line) lines

-- the words of the lines are the words of the text
pub words_in_lines : (lines : List (List (List ℕ))) → AllByRecursion (AllByRecursion IsWord) lines → words_in (text_of_lines lines) ≡ words_of_lines lines
words_in_lines [] all = refl
words_in_lines (line ∷ lines) all = words_in_line line (text_of_lines lines) all.0 ∙ ap (λ ws. line ++ ws) (words_in_lines lines all.1)

-- words whose texts are two lists, one after the other
pub record AreSplit (words : List (ℕ × List ℕ)) (prefix back : List (List ℕ)) : Type 0 where
  pub first : List (ℕ × List ℕ)
  pub second : List (ℕ × List ℕ)
  pub words_are : words ≡ first ++ second
  pub prefix_is : texts_of first ≡ prefix
  pub back_is : texts_of second ≡ back

pub split_texts : (words : List (ℕ × List ℕ)) (prefix back : List (List ℕ)) → texts_of words ≡ prefix ++ back → AreSplit words prefix back
split_texts words [] back e = record { first = []; second = words; words_are = refl; prefix_is = refl; back_is = e }
split_texts [] (text ∷ prefix) back e = absurd (cc)
split_texts (word ∷ words) (text ∷ prefix) back e =
    let head : word.1 ≡ text = cc in
    let tail : texts_of words ≡ prefix ++ back = cc in
    let later = split_texts words prefix back tail in
    record {
      first = word ∷ later.first;
      second = later.second;
      words_are = ap (λ ws. word ∷ ws) later.words_are;
      prefix_is = rw (head, later.prefix_is) refl;
      back_is = later.back_is;
    }
