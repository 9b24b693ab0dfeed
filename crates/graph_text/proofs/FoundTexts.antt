-- A text that is read as a network has the words of a graph text.
use Rattle.std.proofs.Common.{◌≡◌, ◌<◌, ◌≤◌, ◌∙◌, ℕ, zero, suc, Bool, true, false, cond, eqb, leb, ltb, List, [], ◌∷◌, ◌++◌, length, map, Result, Ok, Err, refl, sym, ap, subst, append_assoc, bytes_eq, arith}
use Rattle.std.specs.Prelude.{◌&&◌}
use Rattle.std.proofs.lemmas.Bool.Decides.{Decides-eqb, Decides-ltb, nat_tests}
use Rattle.std.proofs.lemmas.List.{append-nil, length-map, length_push}
use Rattle.std.proofs.lemmas.Slice.Eq.{bytes_eq-Decides}
use Rattle.cmr_base.specs.Trees.{head, tail, IsTree}
use Rattle.text_fields.specs.Result.{◌>>=◌}
use Rattle.text_fields.specs.Numbers.{count_in}
use Rattle.text_fields.specs.Reading.{Fault, placed}
use Rattle.text_fields.specs.Spelling.{texts_of}
use Rattle.text_fields.proofs.Results.{bind_ok, guard_ok, ok_same, renamed_ok}
use Rattle.graph_text.specs.declared.edges.Edge.{Edge}
use Rattle.graph_text.specs.declared.edges.Edges.{Edges}
use Rattle.graph_text.specs.declared.edges.Element.{Element}
use Rattle.graph_text.specs.declared.edges.Element.TheVariants.{Row, Column}
use Rattle.graph_text.specs.declared.edges.NodeWord.{NodeWord}
use Rattle.graph_text.specs.declared.error.GraphKind.{GraphKind}
use Rattle.graph_text.specs.declared.error.GraphKind.TheVariants.{BadElement, TooManyRows, TooManyColumns, Short, OutOfRange}
use Rattle.graph_text.specs.declared.read.SizedNetwork.{SizedNetwork}
use Rattle.graph_text.specs.GraphKinds.{graph_kind}
use Rattle.graph_text.specs.GraphTexts.{row_letter, column_letter, lettered_name, SpellEdges, IsGraphText}
use Rattle.graph_text.specs.GraphReading.{all_within, edges_from, element_in, ends, network_in, no_edges, node_at, node_within, graph_number_in, sized, with_edge}

placed_ok : {A : Type 0} (place : ℕ) (r : Result A GraphKind) (x : A) → placed place r ≡ Ok x → r ≡ Ok x
placed_ok place (Ok y) x h = ap Ok (ok_same y x h)
placed_ok place (Err kind) x h = absurd (cc)

node_ok : (word : ℕ × List ℕ) (node : NodeWord) → node_at word ≡ Ok node → count_in word.1 ≡ Ok node.number
node_ok word node h =
    let b = bind_ok (placed word.0 (graph_number_in word.1)) (λ (number : ℕ). Ok (record { number = number; place = word.0 })) node h in
    let made : NodeWord = record { number = b.0; place = word.0 } in
    renamed_ok graph_kind (count_in word.1) b.0 (placed_ok word.0 (graph_number_in word.1) b.0 b.1) ∙ ap (λ (n : NodeWord). Ok n.number) (ok_same made node b.2)

-- the name is the name of the next line
abbrev IsNext : Edges → List ℕ → Element → Type 0
IsNext edges name Row = (length edges.columns ≡ 0) × (name ≡ lettered_name row_letter (length edges.rows)) × (length edges.rows < 1000)
IsNext edges name Column = (name ≡ lettered_name column_letter (length edges.columns)) × (length edges.columns < 1000)

element_ok : (edges : Edges) (name : List ℕ) (element : Element) → element_in edges name ≡ Ok element → IsNext edges name element
element_ok edges name element h = go (eqb (length edges.columns) 0) (bytes_eq name row) (ltb (length edges.rows) 1000) (bytes_eq name column) (ltb (length edges.columns) 1000) refl refl refl refl refl h
  where
    row : List ℕ
    row = lettered_name row_letter (length edges.rows)

    column : List ℕ
    column = lettered_name column_letter (length edges.columns)

    is_column : bytes_eq name column ≡ true → ltb (length edges.columns) 1000 ≡ true → IsNext edges name Column
    is_column named few = ((bytes_eq-Decides name column).0 named, (Decides-ltb (length edges.columns) 1000).0 few)

    go : (a b c d e : Bool) → eqb (length edges.columns) 0 ≡ a → bytes_eq name row ≡ b → ltb (length edges.rows) 1000 ≡ c → bytes_eq name column ≡ d → ltb (length edges.columns) 1000 ≡ e
        → cond (a && b) (cond c (Ok Row) (Err TooManyRows)) (cond d (cond e (Ok Column) (Err TooManyColumns)) (Err BadElement)) ≡ Ok element → IsNext edges name element
    go true true true d e ea eb ec ed ee h = subst (IsNext edges name) (ok_same Row element h) ((Decides-eqb (length edges.columns) 0).0 ea, (bytes_eq-Decides name row).0 eb, (Decides-ltb (length edges.rows) 1000).0 ec)
    go true true false d e ea eb ec ed ee h = absurd (cc)
    go true false c true true ea eb ec ed ee h = subst (IsNext edges name) (ok_same Column element h) (is_column ed ee)
    go true false c true false ea eb ec ed ee h = absurd (cc)
    go true false c false e ea eb ec ed ee h = absurd (cc)
    go false b c true true ea eb ec ed ee h = subst (IsNext edges name) (ok_same Column element h) (is_column ed ee)
    go false b c true false ea eb ec ed ee h = absurd (cc)
    go false b c false e ea eb ec ed ee h = absurd (cc)

record AreFound (edges total : Edges) (words : List (ℕ × List ℕ)) : Type 0 where
  row_words : List (List ℕ)
  column_words : List (List ℕ)
  rows : List Edge
  columns : List Edge
  words_are : texts_of words ≡ row_words ++ column_words
  rows_spelled : SpellEdges row_letter (length edges.rows) row_words (map ends rows)
  columns_spelled : SpellEdges column_letter (length edges.columns) column_words (map ends columns)
  rows_are : total.rows ≡ edges.rows ++ rows
  columns_are : total.columns ≡ edges.columns ++ columns
  rows_in : length total.rows ≤ 1000
  columns_in : length total.columns ≤ 1000
  -- no row follows a column
  late : 0 < length edges.columns → (row_words ≡ []) × (rows ≡ [])

one_found : (edges total : Edges) (a b c : ℕ × List ℕ) (words : List (ℕ × List ℕ)) (edge : Edge) (element : Element) → count_in a.1 ≡ Ok (edge.tail).number → count_in b.1 ≡ Ok (edge.head).number
    → IsNext edges c.1 element → AreFound (with_edge edges element edge) total words → AreFound edges total (a ∷ b ∷ c ∷ words)
one_found edges total a b c words edge Row tail_is head_is next later = record {
  row_words = a.1 ∷ b.1 ∷ c.1 ∷ later.row_words;
  column_words = later.column_words;
  rows = edge ∷ later.rows;
  columns = later.columns;
  words_are = ap (λ (ws : List (List ℕ)). a.1 ∷ b.1 ∷ c.1 ∷ ws) later.words_are;
  rows_spelled = (tail_is, head_is, next.1, subst (λ (k : ℕ). SpellEdges row_letter k later.row_words (map ends later.rows)) (length_push edges.rows edge) later.rows_spelled);
  columns_spelled = later.columns_spelled;
  rows_are = later.rows_are ∙ append_assoc edges.rows (edge ∷ []) later.rows;
  columns_are = later.columns_are;
  rows_in = later.rows_in;
  columns_in = later.columns_in;
  late = λ l. absurd (let none = next.0 in omega arith);
}
one_found edges total a b c words edge Column tail_is head_is next later =
    let count = length_push edges.columns edge in
    let none = later.late (omega (arith, count)) in
    record {
      row_words = [];
      column_words = a.1 ∷ b.1 ∷ c.1 ∷ later.column_words;
      rows = [];
      columns = edge ∷ later.columns;
      words_are = ap (λ (ws : List (List ℕ)). a.1 ∷ b.1 ∷ c.1 ∷ ws) (later.words_are ∙ ap (λ (ws : List (List ℕ)). ws ++ later.column_words) none.0);
      rows_spelled = tt;
      columns_spelled = (tail_is, head_is, next.0, subst (λ (k : ℕ). SpellEdges column_letter k later.column_words (map ends later.columns)) count later.columns_spelled);
      rows_are = later.rows_are ∙ ap (λ (xs : List Edge). edges.rows ++ xs) none.1;
      columns_are = later.columns_are ∙ append_assoc edges.columns (edge ∷ []) later.columns;
      rows_in = later.rows_in;
      columns_in = later.columns_in;
      late = λ l. (refl, refl);
    }

still_few : (edges : Edges) (name : List ℕ) (element : Element) (edge : Edge) → length edges.rows ≤ 1000 → length edges.columns ≤ 1000
    → IsNext edges name element → (length (with_edge edges element edge).rows ≤ 1000) × (length (with_edge edges element edge).columns ≤ 1000)
still_few edges name Row edge rows columns next = (let l = next.2 in omega (arith, l, length_push edges.rows edge), columns)
still_few edges name Column edge rows columns next = (rows, let l = next.1 in omega (arith, l, length_push edges.columns edge))

found_edges : (size : ℕ) (edges : Edges) (words : List (ℕ × List ℕ)) (total : Edges) → length edges.rows ≤ 1000 → length edges.columns ≤ 1000
    → edges_from size edges words ≡ Ok total → AreFound edges total words
found_edges size edges [] total rows columns h =
    let e = ok_same edges total h in
    record {
      row_words = [];
      column_words = [];
      rows = [];
      columns = [];
      words_are = refl;
      rows_spelled = tt;
      columns_spelled = tt;
      rows_are = sym (ap (λ (x : Edges). x.rows) e) ∙ sym (append-nil edges.rows);
      columns_are = sym (ap (λ (x : Edges). x.columns) e) ∙ sym (append-nil edges.columns);
      rows_in = subst (λ (x : Edges). length x.rows ≤ 1000) e rows;
      columns_in = subst (λ (x : Edges). length x.columns ≤ 1000) e columns;
      late = λ l. (refl, refl);
    }
found_edges size edges (a ∷ []) total rows columns h =
    let f = bind_ok (node_at a) (λ (_ : NodeWord). Err (Short, size)) total h in
    let none : ◌≡◌ {A = Result Edges (Fault GraphKind)} (Err (Short, size)) (Ok total) = f.2 in
    absurd (cc)
found_edges size edges (a ∷ b ∷ []) total rows columns h =
    let f = bind_ok (node_at a) (λ (_ : NodeWord). node_at b >>= λ (_ : NodeWord). Err (Short, size)) total h in
    let g = bind_ok (node_at b) (λ (_ : NodeWord). Err (Short, size)) total f.2 in
    let none : ◌≡◌ {A = Result Edges (Fault GraphKind)} (Err (Short, size)) (Ok total) = g.2 in
    absurd (cc)
found_edges size edges (a ∷ b ∷ c ∷ words) total rows columns h =
    let f = bind_ok (node_at a) (λ (first : NodeWord). node_at b >>= λ (last : NodeWord). placed c.0 (element_in edges c.1) >>= λ (e : Element). edges_from size (with_edge edges e (record { tail = first; head = last })) words) total h in
    let g = bind_ok (node_at b) (λ (last : NodeWord). placed c.0 (element_in edges c.1) >>= λ (e : Element). edges_from size (with_edge edges e (record { tail = f.0; head = last })) words) total f.2 in
    let e = bind_ok (placed c.0 (element_in edges c.1)) (λ (e : Element). edges_from size (with_edge edges e (record { tail = f.0; head = g.0 })) words) total g.2 in
    let edge : Edge = record { tail = f.0; head = g.0 } in
    let next = element_ok edges c.1 e.0 (placed_ok c.0 (element_in edges c.1) e.0 e.1) in
    let few = still_few edges c.1 e.0 edge rows columns next in
    one_found edges total a b c words edge e.0 (node_ok a f.0 f.1) (node_ok b g.0 g.1) next (found_edges size (with_edge edges e.0 edge) words total few.0 few.1 e.2)

node_in : (last : ℕ) (node : NodeWord) (x : Unit {0}) → node_within last node ≡ Ok x → node.number ≤ last
node_in last node x h = let t = (guard_ok (leb node.number last) tt x (OutOfRange, node.place) h).0 in grind (arith, nat_tests)

nodes_in : (last : ℕ) (edges : List Edge) (x : Unit {0}) → all_within last edges ≡ Ok x → (k : ℕ) → k < length edges → (tail (map ends edges) k ≤ last) × (head (map ends edges) k ≤ last)
nodes_in last [] x h k l = absurd (omega arith)
nodes_in last (edge ∷ edges) x h k l =
    let a = bind_ok (node_within last edge.tail) (λ (_ : Unit {0}). node_within last edge.head >>= λ (_ : Unit {0}). all_within last edges) x h in
    let b = bind_ok (node_within last edge.head) (λ (_ : Unit {0}). all_within last edges) x a.2 in
    go k l (node_in last edge.tail a.0 a.1, node_in last edge.head b.0 b.1) (nodes_in last edges x b.2)
  where
    go : (k : ℕ) → k < length (edge ∷ edges) → ((edge.tail).number ≤ last) × ((edge.head).number ≤ last)
        → ((i : ℕ) → i < length edges → (tail (map ends edges) i ≤ last) × (head (map ends edges) i ≤ last))
        → (tail (map ends (edge ∷ edges)) k ≤ last) × (head (map ends (edge ∷ edges)) k ≤ last)
    go zero l here others = here
    go (suc k) l here others = others k (omega (arith, l))

-- a network that is read from a text, with arcs that are a tree
pub graph_found : (size : ℕ) (words : List (ℕ × List ℕ)) (net : SizedNetwork) → network_in (record { size = size; words = words }) ≡ Ok net → IsTree net.net.arcs net.rows → IsGraphText (texts_of words) net
graph_found size words net h tree =
    let b = bind_ok (edges_from size no_edges words) (λ (e : Edges). all_within (length e.rows) e.rows >>= λ (_ : Unit {0}). all_within (length e.rows) e.columns >>= λ (_ : Unit {0}). Ok (sized e)) net h in
    let edges = b.0 in
    let c = bind_ok (all_within (length edges.rows) edges.rows) (λ (_ : Unit {0}). all_within (length edges.rows) edges.columns >>= λ (_ : Unit {0}). Ok (sized edges)) net b.2 in
    let d = bind_ok (all_within (length edges.rows) edges.columns) (λ (_ : Unit {0}). Ok (sized edges)) net c.2 in
    let e = ok_same (sized edges) net d.2 in
    let f = found_edges size no_edges words edges (omega arith) (omega arith) b.1 in
    let here : IsTree (map ends edges.rows) (length edges.rows) = subst (λ (n : SizedNetwork). IsTree n.net.arcs n.rows) (sym e) tree in
    let all : IsGraphText (texts_of words) (sized edges) = record {
      row_words = f.row_words;
      column_words = f.column_words;
      words_are = f.words_are;
      rows_are = subst (λ (xs : List Edge). SpellEdges row_letter 0 f.row_words (map ends xs)) (sym f.rows_are) f.rows_spelled;
      columns_are = subst (λ (xs : List Edge). SpellEdges column_letter 0 f.column_words (map ends xs)) (sym f.columns_are) f.columns_spelled;
      rows_in = f.rows_in;
      columns_in = f.columns_in;
      network = record {
        tree = here;
        count = length-map edges.columns ends;
        nodes = λ column l. nodes_in (length edges.rows) edges.columns d.0 d.1 column l;
      };
    } in
    subst (IsGraphText (texts_of words)) e all
