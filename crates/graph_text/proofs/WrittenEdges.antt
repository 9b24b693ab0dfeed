-- The words of written edges.
use Rattle.std.proofs.Common.{◌≡◌, ◌<◌, ◌≤◌, ◌+◌, ◌^◌, ◌∙◌, ℕ, suc, List, [], ◌∷◌, ◌++◌, length, take, get_or, refl, sym, ap, append_assoc, false, arith}
use Rattle.std.specs.List.{AllByRecursion}
use Rattle.std.specs.Fmt.{decimal}
use Rattle.std.proofs.lemmas.List.{append-nil, length-take, take_more}
use Rattle.std.proofs.lemmas.List.Concat.{flat_map-append}
use Rattle.cmr_base.specs.declared.network.Pair.{Pair}
use Rattle.cmr_base.specs.Trees.{head, tail, IsNetworkOf}
use Rattle.cmr_base.proofs.Lists.{all-append}
use Rattle.text_fields.specs.Spelling.{words_in}
use Rattle.text_fields.specs.TextWords.{is_space}
use Rattle.text_fields.specs.Written.{text_line, text_of_lines}
use Rattle.text_fields.proofs.LineWords.{IsWord, words_of_lines, words_in_lines}
use Rattle.text_fields.proofs.Decimals.{count_of_decimal, decimal_word}
use Rattle.graph_text.specs.declared.read.SizedNetwork.{SizedNetwork}
use Rattle.graph_text.specs.GraphTexts.{row_letter, column_letter, lettered_name, SpellEdges, IsGraphText, edge_words, edge_lines, graph_text}

-- ---- one edge more

lines_end : (letter line : ℕ) (edges : List Pair) (edge : Pair) → edge_lines letter line (edges ++ edge ∷ []) ≡ edge_lines letter line edges ++ edge_words letter (line + length edges) edge ∷ []
lines_end letter line [] edge = let here : line + 0 ≡ line = omega arith in ap (λ (k : ℕ). edge_words letter k edge ∷ []) (sym here)
lines_end letter line (first ∷ edges) edge =
    let next : line + 1 + length edges ≡ line + suc (length edges) = omega arith in
    ap (λ (ls : List (List (List ℕ))). edge_words letter line first ∷ ls) (lines_end letter (line + 1) edges edge ∙ ap (λ (k : ℕ). edge_lines letter (line + 1) edges ++ edge_words letter k edge ∷ []) next)

pub edge_pushed : (letter line : ℕ) (edges : List Pair) (edge : Pair) (old now new : List ℕ) → line < length edges → get_or edges line (record { tail = 0; head = 0 }) ≡ edge
    → now ≡ old ++ text_of_lines (edge_lines letter 0 (take line edges)) → new ≡ now ++ text_line (edge_words letter line edge)
    → new ≡ old ++ text_of_lines (edge_lines letter 0 (take (line + 1) edges))
edge_pushed letter line edges edge old now new inside is before pushed =
    let count : 0 + length (take line edges) ≡ line = omega (arith, length-take line edges) in
    let longer : take (line + 1) edges ≡ take line edges ++ edge ∷ [] = take_more edges line (record { tail = 0; head = 0 }) inside ∙ ap (λ (e : Pair). take line edges ++ e ∷ []) is in
    let lines : edge_lines letter 0 (take (line + 1) edges) ≡ edge_lines letter 0 (take line edges) ++ edge_words letter line edge ∷ [] =
    ap (edge_lines letter 0) longer ∙ lines_end letter 0 (take line edges) edge ∙ ap (λ (k : ℕ). edge_lines letter 0 (take line edges) ++ edge_words letter k edge ∷ []) count in
    let text : text_of_lines (edge_lines letter 0 (take (line + 1) edges)) ≡ text_of_lines (edge_lines letter 0 (take line edges)) ++ text_line (edge_words letter line edge) =
    ap text_of_lines lines ∙ flat_map-append text_line (edge_lines letter 0 (take line edges)) (edge_words letter line edge ∷ [])
    ∙ ap (λ (last : List ℕ). text_of_lines (edge_lines letter 0 (take line edges)) ++ last) (append-nil (text_line (edge_words letter line edge))) in
    pushed ∙ ap (λ (bytes : List ℕ). bytes ++ text_line (edge_words letter line edge)) before
    ∙ append_assoc old (text_of_lines (edge_lines letter 0 (take line edges))) (text_line (edge_words letter line edge)) ∙ ap (λ (bytes : List ℕ). old ++ bytes) (sym text)

-- ---- the words

-- the nodes are within the limits of the reader
abbrev pub AreSmall : List Pair → Type 0
AreSmall edges = AllByRecursion (λ (edge : Pair). (edge.tail ≤ 1000) × (edge.head ≤ 1000)) edges

pub small_pairs : (last : ℕ) (edges : List Pair) → last ≤ 1000 → ((k : ℕ) → k < length edges → (tail edges k ≤ last) × (head edges k ≤ last)) → AreSmall edges
small_pairs last [] few each = tt
small_pairs last (edge ∷ edges) few each =
    let here = each 0 (omega arith) in
    let t = here.0 in
    let h = here.1 in
    ((omega (arith, t, few), omega (arith, h, few)), small_pairs last edges few (λ k l. each (suc k) (omega (arith, l))))

lettered : (letter : ℕ) (digits : List ℕ) → is_space letter ≡ false → IsWord digits → IsWord (letter ∷ digits)
lettered letter digits solid is = record { first = letter; others = digits; word_is = refl; solid = (solid, is.solid) }

name_word : (letter line : ℕ) → is_space letter ≡ false → line < 2 ^ 63 → IsWord (lettered_name letter line)
name_word letter line solid few = lettered letter (decimal (line + 1)) solid (decimal_word (line + 1) (omega (arith, few)))

edges_words : (letter line : ℕ) (edges : List Pair) → is_space letter ≡ false → line + length edges ≤ 1000 → AreSmall edges → AllByRecursion (AllByRecursion IsWord) (edge_lines letter line edges)
edges_words letter line [] solid few small = tt
edges_words letter line (edge ∷ edges) solid few small =
    let t = (small.0).0 in
    let h = (small.0).1 in (
      (decimal_word edge.tail (omega (arith, t)), (decimal_word edge.head (omega (arith, h)), (name_word letter line solid (omega (arith, few)), tt))),
      edges_words letter (line + 1) edges solid (omega (arith, few)) small.1,
    )

edges_spelled : (letter line : ℕ) (edges : List Pair) → AreSmall edges → SpellEdges letter line (words_of_lines (edge_lines letter line edges)) edges
edges_spelled letter line [] small = tt
edges_spelled letter line (edge ∷ edges) small =
    let t = (small.0).0 in
    let h = (small.0).1 in
    (count_of_decimal edge.tail (omega (arith, t)), count_of_decimal edge.head (omega (arith, h)), refl, edges_spelled letter (line + 1) edges small.1)

-- the text of a network within the limits is a graph text of it
pub written_is_text : (net : SizedNetwork) → net.rows ≤ 1000 → net.columns ≤ 1000 → IsNetworkOf net.net net.rows net.columns → IsGraphText (words_in (graph_text net.net)) net
written_is_text net few near is =
    let arcs = net.net.arcs in
    let walks = net.net.walks in
    let row_lines = edge_lines row_letter 0 arcs in
    let column_lines = edge_lines column_letter 0 walks in
    let tree = is.tree in
    let row_count = tree.count in
    let column_count = is.count in
    let small_arcs = small_pairs net.rows arcs few (λ k l. tree.nodes k (omega (arith, l, row_count))) in
    let small_walks = small_pairs net.rows walks few (λ k l. is.nodes k (omega (arith, l, column_count))) in
    record {
      row_words = words_of_lines row_lines;
      column_words = words_of_lines column_lines;
      words_are = words_in_lines (row_lines ++ column_lines)
          (all-append (AllByRecursion IsWord) row_lines column_lines (edges_words row_letter 0 arcs refl (omega (arith, few, row_count)) small_arcs) (edges_words column_letter 0 walks refl (omega (arith, near, column_count)) small_walks))
          ∙ flat_map-append (λ line. line) row_lines column_lines;
      rows_are = edges_spelled row_letter 0 arcs small_arcs;
      columns_are = edges_spelled column_letter 0 walks small_walks;
      rows_in = few;
      columns_in = near;
      network = is;
    }
