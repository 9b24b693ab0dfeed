-- The first word of evidence shows `check` its kind: a text that represents a tree, a chain or lines is read as one.
use Rattle.std.proofs.Common.{◌≡◌, ◌∙◌, ℕ, Bool, true, false, List, [], ◌∷◌, Result, Ok, Err, refl, ap, sym, subst}
use Rattle.std.specs.Prelude.{codes, if◌then◌else◌}
use Rattle.std.specs.Str.{bytes_eq}
use Rattle.std.proofs.lemmas.Slice.Eq.{bytes_eq-Decides}
use Rattle.cmr_base.specs.declared.line_set.LineSet.{LineSet}
use Rattle.text_fields.specs.TextWords.{Text, text_of}
use Rattle.text_fields.specs.Reading.{Fault, field}
use Rattle.text_fields.specs.Result.{◌>>=◌}
use Rattle.text_fields.proofs.Fields.{Fielded, field_ok}
use Rattle.text_fields.proofs.Results.{bind_ok}
use Rattle.matrix_text.specs.declared.error.TextKind.TheVariants as kinds_of_text
use Rattle.matrix_text.specs.Submatrix.{named_lines}
use Rattle.matrix_text.specs.Values.{own_size}
use Rattle.chains.specs.declared.chain_error.ChainKind.TheVariants as kinds_of_chain
use Rattle.chains.specs.declared.step.SizedChain.{SizedChain}
use Rattle.chains.specs.ChainTexts.{chain, word_in}
use Rattle.tree_text.specs.declared.error.TreeKind.{TreeKind}
use Rattle.tree_text.specs.declared.error.TreeKind.TheVariants as kinds_of_tree
use Rattle.tree_text.specs.declared.header.Title.{Title}
use Rattle.tree_text.specs.declared.header.Title.TheVariants as title
use Rattle.tree_text.specs.TreeReading.{PlainTree, tree}
use Rattle.tree_text.specs.Versions.{title_in}
use Rattle.cmr_evidence.specs.declared.tools.check.EvidenceKind.{EvidenceKind}
use Rattle.cmr_evidence.specs.declared.tools.check.EvidenceKind.TheVariants as kinds
use Rattle.cmr_evidence.specs.Check.{evidence_kind, kind_named, kind_of_words}

-- the first word of a text that was read
first_word : {A B K : Type 0} (short : K) (parse : List ℕ → Result A K) (text : Text) (next : A × Text → Result B (Fault K)) (y : B) → (field short parse text >>= next) ≡ Ok y
    → (x : A) × (rest : Text) × Fielded parse text x rest
first_word short parse text next y e = let first = bind_ok (field short parse text) next y e in (first.0.0, first.0.1, field_ok short parse text first.0.0 first.0.1 first.1)

-- this word decides the kind of the evidence
by_first : {A K : Type 0} (parse : List ℕ → Result A K) (bytes : List ℕ) (x : A) (rest : Text) (kind : EvidenceKind) → Fielded parse (text_of bytes) x rest
    → ((word : List ℕ) → parse word ≡ Ok x → kind_named word ≡ kind)
    → evidence_kind bytes ≡ kind
by_first parse bytes x rest kind read named = ap kind_of_words read.words_are ∙ named read.word.1 read.parsed

-- ---- trees

titled : (word : List ℕ) (x : Title) → title_in word ≡ Ok x → kind_named word ≡ kinds.Tree
titled word x e = go (bytes_eq word (codes "cmr-tree")) (bytes_eq word (codes "cmr-pivots")) (bytes_eq word (codes "cmr-chain")) e
  where
    go : (a b c : Bool) → (if a then Ok title.Tree else (if b then Ok title.Pivots else Err kinds_of_tree.WrongVersion)) ≡ Ok x
        → (if a then kinds.Tree else if b then kinds.Tree else if c then kinds.Chain else kinds.Violator) ≡ kinds.Tree
    go true b c e = refl
    go false true c e = refl
    go false false c e = absurd (cc)

pub kind_of_tree : (bytes : List ℕ) (t : PlainTree) → tree (text_of bytes) ≡ Ok t → evidence_kind bytes ≡ kinds.Tree
kind_of_tree bytes t e =
    let first = first_word kinds_of_tree.Short title_in (text_of bytes) _ t e in
    by_first title_in bytes first.0 first.1 kinds.Tree first.2 (λ word parsed. titled word first.0 parsed)

-- ---- chains

is_chain : (word : List ℕ) (x : Unit {0}) → word_in (codes "cmr-chain") kinds_of_chain.WrongVersion word ≡ Ok x → kind_named word ≡ kinds.Chain
is_chain word x e = go (bytes_eq word (codes "cmr-chain")) refl e
  where
    go : (same : Bool) → bytes_eq word (codes "cmr-chain") ≡ same → (if same then Ok tt else Err kinds_of_chain.WrongVersion) ≡ Ok x → kind_named word ≡ kinds.Chain
    go true is e = ap kind_named ((bytes_eq-Decides word (codes "cmr-chain")).0 is)
    go false is e = absurd (cc)

pub kind_of_chain : (bytes : List ℕ) (c : SizedChain) → chain (text_of bytes) ≡ Ok c → evidence_kind bytes ≡ kinds.Chain
kind_of_chain bytes c e =
    let first = first_word kinds_of_chain.Short (word_in (codes "cmr-chain") kinds_of_chain.WrongVersion) (text_of bytes) _ c e in
    by_first (word_in (codes "cmr-chain") kinds_of_chain.WrongVersion) bytes first.0 first.1 kinds.Chain first.2 (λ word parsed. is_chain word first.0 parsed)

-- ---- lines

no_value : {A E : Type 0} (fault : E) (x : A) → ◌≡◌ {A = Result A E} (Err fault) (Ok x) → ⊥
no_value fault x e = cc

no_size : (size n : ℕ) → (own_size size (codes "cmr-tree") ≡ Ok n → ⊥) × (own_size size (codes "cmr-pivots") ≡ Ok n → ⊥) × (own_size size (codes "cmr-chain") ≡ Ok n → ⊥)
no_size size n = (no_value _ n, no_value _ n, no_value _ n)

is_size : (size : ℕ) (word : List ℕ) (n : ℕ) → own_size size word ≡ Ok n → kind_named word ≡ kinds.Violator
is_size size word n e =
    let none = no_size size n in
    go (bytes_eq word (codes "cmr-tree")) (bytes_eq word (codes "cmr-pivots")) (bytes_eq word (codes "cmr-chain"))
    (λ is. none.0 (subst (λ w. own_size size w ≡ Ok n) ((bytes_eq-Decides word (codes "cmr-tree")).0 is) e))
    (λ is. none.1 (subst (λ w. own_size size w ≡ Ok n) ((bytes_eq-Decides word (codes "cmr-pivots")).0 is) e))
    (λ is. none.2 (subst (λ w. own_size size w ≡ Ok n) ((bytes_eq-Decides word (codes "cmr-chain")).0 is) e))
  where
    go : (a b c : Bool) → ¬ (a ≡ true) → ¬ (b ≡ true) → ¬ (c ≡ true) → (if a then kinds.Tree else if b then kinds.Tree else if c then kinds.Chain else kinds.Violator) ≡ kinds.Violator
    go true b c not_a not_b not_c = absurd (not_a refl)
    go false true c not_a not_b not_c = absurd (not_b refl)
    go false false true not_a not_b not_c = absurd (not_c refl)
    go false false false not_a not_b not_c = refl

pub kind_of_lines : (rows columns : ℕ) (bytes : List ℕ) (lines : LineSet) → named_lines rows columns (text_of bytes) ≡ Ok lines → evidence_kind bytes ≡ kinds.Violator
kind_of_lines rows columns bytes lines e =
    let first = first_word kinds_of_text.Short (own_size rows) (text_of bytes) _ lines e in
    by_first (own_size rows) bytes first.0 first.1 kinds.Violator first.2 (λ word parsed. is_size rows word first.0 parsed)
