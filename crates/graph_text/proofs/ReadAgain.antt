-- Words that represent edges are read as these edges.
use Rattle.std.proofs.Common.{◌≡◌, ◌<◌, ◌≤◌, ◌+◌, ◌∙◌, ℕ, suc, Bool, true, false, eqb, leb, ltb, List, [], ◌∷◌, ◌++◌, length, map, Result, Ok, refl, sym, ap, subst, append_assoc, bytes_eq, arith}
use Rattle.std.proofs.lemmas.Slice.Eq.{bytes_eq-Decides}
use Rattle.std.proofs.lemmas.Bool.{le-leb}
use Rattle.std.proofs.lemmas.Bool.Decides.{Decides-ltb}
use Rattle.std.proofs.lemmas.List.{append-nil, length-map, length_push}
use Rattle.cmr_base.specs.declared.network.Pair.{Pair}
use Rattle.cmr_base.specs.Trees.{head, tail}
use Rattle.text_fields.proofs.LineWords.{split_texts}
use Rattle.text_fields.specs.Result.{◌>>=◌}
use Rattle.text_fields.specs.Reading.{Fault, placed}
use Rattle.text_fields.specs.Spelling.{texts_of}
use Rattle.graph_text.specs.declared.edges.Edge.{Edge}
use Rattle.graph_text.specs.declared.edges.Edges.{Edges}
use Rattle.graph_text.specs.declared.edges.Element.{Element}
use Rattle.graph_text.specs.declared.edges.Element.TheVariants.{Row, Column}
use Rattle.graph_text.specs.declared.edges.NodeWord.{NodeWord}
use Rattle.graph_text.specs.declared.error.GraphKind.{GraphKind}
use Rattle.graph_text.specs.declared.read.SizedNetwork.{SizedNetwork}
use Rattle.graph_text.specs.GraphTexts.{row_letter, column_letter, lettered_name, SpellEdges, IsGraphText}
use Rattle.graph_text.specs.GraphReading.{all_within, edges_from, element_in, ends, IsGraph, network_in, no_edges, node_at, sized, with_edge}

-- the edges of one sort
abbrev pub letter_of : Element → ℕ
letter_of Row = row_letter
letter_of Column = column_letter

abbrev pub count_of : Element → Edges → ℕ
count_of Row edges = length edges.rows
count_of Column edges = length edges.columns

-- an edge of this sort may be next
abbrev pub MayCome : Element → Edges → Type 0
MayCome Row edges = edges.columns ≡ []
MayCome Column edges = Unit {0}

abbrev pub with_edges : Edges → Element → List Edge → Edges
with_edges edges Row more = record { rows = edges.rows ++ more; columns = edges.columns }
with_edges edges Column more = record { rows = edges.rows; columns = edges.columns ++ more }

name_same : (letter line : ℕ) → bytes_eq (lettered_name letter line) (lettered_name letter line) ≡ true
name_same letter line = (bytes_eq-Decides (lettered_name letter line) (lettered_name letter line)).1 refl

-- the reader knows the name of the next line
element_again : (element : Element) (edges : Edges) → MayCome element edges → count_of element edges < 1000 → element_in edges (lettered_name (letter_of element) (count_of element edges)) ≡ Ok element
element_again Row edges none few =
    let below : ltb (length edges.rows) 1000 ≡ true = (Decides-ltb (length edges.rows) 1000).1 few in
    rw (none, name_same row_letter (length edges.rows), below) refl
element_again Column edges may few = go (eqb (length edges.columns) 0) refl
  where
    below : ltb (length edges.columns) 1000 ≡ true
    below = (Decides-ltb (length edges.columns) 1000).1 few

    go : (t : Bool) → eqb (length edges.columns) 0 ≡ t → element_in edges (lettered_name column_letter (length edges.columns)) ≡ Ok Column
    go true is = rw (is, name_same column_letter (length edges.columns), below) refl
    go false is = rw (is, name_same column_letter (length edges.columns), below) refl

no_more : (edges : Edges) (element : Element) → with_edges edges element [] ≡ edges
no_more edges Row = ap (λ (xs : List Edge). record { rows = xs; columns = edges.columns }) (append-nil edges.rows)
no_more edges Column = ap (λ (xs : List Edge). record { rows = edges.rows; columns = xs }) (append-nil edges.columns)

one_first : (edges : Edges) (element : Element) (edge : Edge) (more : List Edge) → with_edges (with_edge edges element edge) element more ≡ with_edges edges element (edge ∷ more)
one_first edges Row edge more = ap (λ (xs : List Edge). record { rows = xs; columns = edges.columns }) (append_assoc edges.rows (edge ∷ []) more)
one_first edges Column edge more = ap (λ (xs : List Edge). record { rows = edges.rows; columns = xs }) (append_assoc edges.columns (edge ∷ []) more)

count_more : (edges : Edges) (element : Element) (edge : Edge) → count_of element (with_edge edges element edge) ≡ count_of element edges + 1
count_more edges Row edge = length_push edges.rows edge
count_more edges Column edge = length_push edges.columns edge

still : (edges : Edges) (element : Element) (edge : Edge) → MayCome element edges → MayCome element (with_edge edges element edge)
still edges Row edge may = may
still edges Column edge may = tt

record AreRead (element : Element) (size : ℕ) (edges : Edges) (pairs : List Pair) (words later : List (ℕ × List ℕ)) : Type 0 where
  more : List Edge
  ends_are : map ends more ≡ pairs
  read : edges_from size edges (words ++ later) ≡ edges_from size (with_edges edges element more) later

spelled_read : (element : Element) (size : ℕ) (edges : Edges) (pairs : List Pair) (words later : List (ℕ × List ℕ)) → MayCome element edges → count_of element edges + length pairs ≤ 1000
    → SpellEdges (letter_of element) (count_of element edges) (texts_of words) pairs → AreRead element size edges pairs words later
spelled_read element size edges [] [] later may few spell = record { more = []; ends_are = refl; read = ap (λ (e : Edges). edges_from size e later) (sym (no_more edges element)) }
spelled_read element size edges [] (a ∷ []) later may few spell = absurd spell
spelled_read element size edges [] (a ∷ b ∷ []) later may few spell = absurd spell
spelled_read element size edges [] (a ∷ b ∷ c ∷ words) later may few spell = absurd spell
spelled_read element size edges (pair ∷ pairs) [] later may few spell = absurd spell
spelled_read element size edges (pair ∷ pairs) (a ∷ []) later may few spell = absurd spell
spelled_read element size edges (pair ∷ pairs) (a ∷ b ∷ []) later may few spell = absurd spell
spelled_read element size edges (pair ∷ pairs) (a ∷ b ∷ c ∷ words) later may few spell =
    let edge : Edge = record { tail = record { number = pair.tail; place = a.0 }; head = record { number = pair.head; place = b.0 } } in
    let next = with_edge edges element edge in
    let more_count = count_more edges element edge in
    let named : element_in edges c.1 ≡ Ok element = ap (element_in edges) spell.2 ∙ element_again element edges may (omega arith) in
    let first : node_at a ≡ Ok edge.tail = rw spell.0 refl in
    let last : node_at b ≡ Ok edge.head = rw spell.1 refl in
    let one : edges_from size edges ((a ∷ b ∷ c ∷ words) ++ later) ≡ edges_from size next (words ++ later) =
    ap (λ (r : Result NodeWord (Fault GraphKind)). r >>= λ (f : NodeWord). node_at b >>= λ (l : NodeWord). placed c.0 (element_in edges c.1) >>= λ (e : Element). edges_from size (with_edge edges e (record { tail = f; head = l })) (words ++ later)) first
    ∙ ap (λ (r : Result NodeWord (Fault GraphKind)). r >>= λ (l : NodeWord). placed c.0 (element_in edges c.1) >>= λ (e : Element). edges_from size (with_edge edges e (record { tail = edge.tail; head = l })) (words ++ later)) last
    ∙ ap (λ (r : Result Element GraphKind). placed c.0 r >>= λ (e : Element). edges_from size (with_edge edges e edge) (words ++ later)) named in
    let others = spelled_read element size next pairs words later (still edges element edge may) (omega (arith, more_count, few))
    (subst (λ (k : ℕ). SpellEdges (letter_of element) k (texts_of words) pairs) (sym more_count) spell.3) in
    record {
      more = edge ∷ others.more;
      ends_are = ap (λ (ps : List Pair). pair ∷ ps) others.ends_are;
      read = one ∙ others.read ∙ ap (λ (e : Edges). edges_from size e later) (one_first edges element edge others.more);
    }

within : (last : ℕ) (edges : List Edge) → ((k : ℕ) → k < length edges → (tail (map ends edges) k ≤ last) × (head (map ends edges) k ≤ last)) → all_within last edges ≡ Ok tt
within last [] each = refl
within last (edge ∷ edges) each =
    let here = each 0 (omega arith) in
    let one : leb (edge.tail).number last ≡ true = le-leb (edge.tail).number last here.0 in
    let two : leb (edge.head).number last ≡ true = le-leb (edge.head).number last here.1 in
    rw (one, two) (within last edges (λ k l. each (suc k) (omega (arith, l))))

same_net : (net : SizedNetwork) (edges : Edges) → map ends edges.rows ≡ net.net.arcs → map ends edges.columns ≡ net.net.walks → length edges.rows ≡ net.rows
    → length edges.columns ≡ net.columns → sized edges ≡ net
same_net net edges arcs walks rows columns = rw (arcs, walks, rows, columns) refl

-- the words of a graph text are read as its network
pub graph_again : (size : ℕ) (words : List (ℕ × List ℕ)) (net : SizedNetwork) → IsGraphText (texts_of words) net → IsGraph (record { size = size; words = words }) (Ok net)
graph_again size words net g =
    let s = split_texts words g.row_words g.column_words g.words_are in
    let arcs = net.net.arcs in
    let walks = net.net.walks in
    let tree = g.network.tree in
    let rows = spelled_read Row size no_edges arcs s.first s.second refl (let c = tree.count in let l = g.rows_in in omega (arith, c, l)) (subst (λ (ws : List (List ℕ)). SpellEdges row_letter 0 ws arcs) (sym s.prefix_is) g.rows_are) in
    let columns = spelled_read Column size (with_edges no_edges Row rows.more) walks s.second [] tt (let c = g.network.count in let l = g.columns_in in omega (arith, c, l)) (subst (λ (ws : List (List ℕ)). SpellEdges column_letter 0 ws walks) (sym s.back_is) g.columns_are) in
    let all : Edges = record { rows = rows.more; columns = columns.more } in
    let read : edges_from size no_edges words ≡ Ok all =
    ap (edges_from size no_edges) s.words_are ∙ rows.read ∙ ap (edges_from size (with_edges no_edges Row rows.more)) (sym (append-nil s.second)) ∙ columns.read in
    let row_count : length rows.more ≡ net.rows = sym (length-map rows.more ends) ∙ ap length rows.ends_are ∙ tree.count in
    let column_count : length columns.more ≡ net.columns = sym (length-map columns.more ends) ∙ ap length columns.ends_are ∙ g.network.count in
    let rows_within : all_within (length rows.more) rows.more ≡ Ok tt =
    within (length rows.more) rows.more (λ k l. subst (λ (m : ℕ). (tail (map ends rows.more) k ≤ m) × (head (map ends rows.more) k ≤ m)) (sym row_count)
    (subst (λ (ps : List Pair). (tail ps k ≤ net.rows) × (head ps k ≤ net.rows)) (sym rows.ends_are) (tree.nodes k (omega (arith, l, row_count))))) in
    let columns_within : all_within (length rows.more) columns.more ≡ Ok tt =
    within (length rows.more) columns.more (λ k l. subst (λ (m : ℕ). (tail (map ends columns.more) k ≤ m) × (head (map ends columns.more) k ≤ m)) (sym row_count)
    (subst (λ (ps : List Pair). (tail ps k ≤ net.rows) × (head ps k ≤ net.rows)) (sym columns.ends_are) (g.network.nodes k (omega (arith, l, column_count))))) in
    let made : network_in (record { size = size; words = words }) ≡ Ok net =
    ap (λ (r : Result Edges (Fault GraphKind)). r >>= λ (e : Edges). all_within (length e.rows) e.rows >>= λ (_ : Unit {0}). all_within (length e.rows) e.columns >>= λ (_ : Unit {0}). Ok (sized e)) read
    ∙ ap (λ (r : Result (Unit {0}) (Fault GraphKind)). r >>= λ (_ : Unit {0}). all_within (length rows.more) columns.more >>= λ (_ : Unit {0}). Ok (sized all)) rows_within
    ∙ ap (λ (r : Result (Unit {0}) (Fault GraphKind)). r >>= λ (_ : Unit {0}). Ok (sized all)) columns_within
    ∙ ap Ok (same_net net all rows.ends_are columns.ends_are row_count column_count) in
    (made, tree)
