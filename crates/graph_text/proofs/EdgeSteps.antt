-- The edges of a text, one after another.
use Rattle.std.proofs.Common.{◌≡◌, ◌<◌, ◌≤◌, ◌∙◌, ℕ, List, [], ◌∷◌, length, Result, Ok, Err, refl, sym, ap, arith}
use Rattle.std.proofs.lemmas.List.{length_push}
use Rattle.text_fields.specs.TextWords.{Text}
use Rattle.text_fields.specs.Result.{◌>>=◌}
use Rattle.text_fields.specs.Reading.{Fault, Fails, field, placed}
use Rattle.text_fields.specs.declared.error.FieldError.{FieldError}
use Rattle.text_fields.specs.declared.error.FieldError.TheVariants as errors
use Rattle.text_fields.proofs.Fields.{field_ok}
use Rattle.text_fields.proofs.Results.{bind-same, bind_ok, ok_same}
use Rattle.graph_text.specs.declared.edges.Edge.{Edge}
use Rattle.graph_text.specs.declared.edges.Edges.{Edges}
use Rattle.graph_text.specs.declared.edges.Element.{Element}
use Rattle.graph_text.specs.declared.edges.Element.TheVariants.{Row, Column}
use Rattle.graph_text.specs.declared.edges.NodeWord.{NodeWord}
use Rattle.graph_text.specs.declared.error.GraphKind.{GraphKind}
use Rattle.graph_text.specs.declared.error.GraphKind.TheVariants.{Short}
use Rattle.graph_text.specs.GraphReading.{edge_after, edges_from, element_in, next_node, node_at, with_edge}

abbrev Rest : Type 0
Rest = (Element × Edge) × Text

-- all edges, from the next edge and the words after it
abbrev and_more : ℕ → Edges → Rest → Result Edges (Fault GraphKind)
and_more size edges next = edges_from size (with_edge edges (next.0).0 (next.0).1) (next.1).words

last_word : (size : ℕ) (edges : Edges) (tail : NodeWord) (head : Result NodeWord (Fault GraphKind))
    → (head >>= λ (_ : NodeWord). Err (Short, size))
    ≡ (((head >>= λ (node : NodeWord). Ok (node, record { size = size; words = [] })) >>= λ (h : NodeWord × Text). field Short (element_in edges) h.1 >>= λ (element : Element × Text). Ok ((element.0, record { tail = tail; head = h.0 }), element.1)) >>= and_more size edges)
last_word size edges tail (Ok x) = refl
last_word size edges tail (Err e) = refl

whole_edge : (size : ℕ) (edges : Edges) (tail : NodeWord) (name : ℕ × List ℕ) (words : List (ℕ × List ℕ)) (head : Result NodeWord (Fault GraphKind)) (element : Result Element (Fault GraphKind))
    → placed name.0 (element_in edges name.1) ≡ element
    → (head >>= λ (last : NodeWord). placed name.0 (element_in edges name.1) >>= λ (e : Element). edges_from size (with_edge edges e (record { tail = tail; head = last })) words)
    ≡ (((head >>= λ (node : NodeWord). Ok (node, record { size = size; words = name ∷ words })) >>= λ (h : NodeWord × Text). field Short (element_in edges) h.1 >>= λ (element : Element × Text). Ok ((element.0, record { tail = tail; head = h.0 }), element.1)) >>= and_more size edges)
whole_edge size edges tail name words (Ok x) (Ok e) is = rw is refl
whole_edge size edges tail name words (Ok x) (Err f) is = rw is refl
whole_edge size edges tail name words (Err f) element is = refl

-- the edge of the first words, and then the other edges
pub first_edge : (size : ℕ) (edges : Edges) (word : ℕ × List ℕ) (words : List (ℕ × List ℕ))
    → edges_from size edges (word ∷ words) ≡ (node_at word >>= λ (tail : NodeWord). edge_after edges tail (record { size = size; words = words }) >>= and_more size edges)
first_edge size edges word [] = refl
first_edge size edges word (head ∷ []) =
    bind-same (node_at word) (λ (_ : NodeWord). node_at head >>= λ (_ : NodeWord). Err (Short, size)) (λ (tail : NodeWord). edge_after edges tail (record { size = size; words = head ∷ [] }) >>= and_more size edges)
    (λ tail is. last_word size edges tail (node_at head))
first_edge size edges word (head ∷ name ∷ words) =
    bind-same (node_at word) (λ (tail : NodeWord). node_at head >>= λ (last : NodeWord). placed name.0 (element_in edges name.1) >>= λ (e : Element). edges_from size (with_edge edges e (record { tail = tail; head = last })) words)
    (λ (tail : NodeWord). edge_after edges tail (record { size = size; words = head ∷ name ∷ words }) >>= and_more size edges)
    (λ tail is. whole_edge size edges tail name words (node_at head) (placed name.0 (element_in edges name.1)) refl)

node_keeps_size : (size : ℕ) (words : List (ℕ × List ℕ)) (node : NodeWord) (rest : Text) → next_node (record { size = size; words = words }) ≡ Ok (node, rest) → rest.size ≡ size
node_keeps_size size [] node rest h = absurd (cc)
node_keeps_size size (word ∷ words) node rest h =
    let b = bind_ok (node_at word) (λ (n : NodeWord). Ok (n, record { size = size; words = words })) (node, rest) h in
    sym (ap (λ (p : NodeWord × Text). (p.1).size) (ok_same (b.0, record { size = size; words = words }) (node, rest) b.2))

pub edge_keeps_size : (edges : Edges) (tail : NodeWord) (text : Text) (found : Element × Edge) (rest : Text) → edge_after edges tail text ≡ Ok (found, rest) → rest.size ≡ text.size
edge_keeps_size edges tail text found rest h =
    let b = bind_ok (next_node text) (λ (head : NodeWord × Text). field Short (element_in edges) head.1 >>= λ (element : Element × Text). Ok ((element.0, record { tail = tail; head = head.0 }), element.1)) (found, rest) h in
    let d = bind_ok (field Short (element_in edges) (b.0).1) (λ (element : Element × Text). Ok ((element.0, record { tail = tail; head = (b.0).0 }), element.1)) (found, rest) b.2 in
    let e = ok_same (((d.0).0, record { tail = tail; head = (b.0).0 }), (d.0).1) (found, rest) d.2 in
    let named = field_ok Short (element_in edges) (b.0).1 (d.0).0 (d.0).1 d.1 in
    sym (ap (λ (p : Rest). (p.1).size) e) ∙ sym named.size_is ∙ node_keeps_size text.size text.words (b.0).0 (b.0).1 b.1

module _ (size : ℕ) (edges : Edges) (word : ℕ × List ℕ) (text : Text) (tail : NodeWord) (total : Result Edges (Fault GraphKind)) (same : text.size ≡ size) (node : node_at word ≡ Ok tail) (before : edges_from size edges (word ∷ text.words) ≡ total) where
  after : (edge_after edges tail text >>= and_more size edges) ≡ total
  after = sym (first_edge size edges word text.words ∙ rw node (ap (λ (n : ℕ). edge_after edges tail (record { size = n; words = text.words }) >>= and_more size edges) (sym same))) ∙ before

  -- one edge more
  pub edge_read : (found : Element × Edge) (rest : Text) → edge_after edges tail text ≡ Ok (found, rest) → edges_from size (with_edge edges found.0 found.1) rest.words ≡ total
  edge_read found rest is = sym (ap (λ (r : Result Rest (Fault GraphKind)). r >>= and_more size edges) is) ∙ after

  -- the fault of an edge is the fault of all edges
  pub edge_fails : (e : FieldError GraphKind) → Fails e (edge_after edges tail text) → Fails e total
  edge_fails errors.Memory fails = tt
  edge_fails (errors.Fault kind place) fails = sym after ∙ ap (λ (r : Result Rest (Fault GraphKind)). r >>= and_more size edges) fails

-- the number of edges is within the limits
pub edges_few : (edges : Edges) (element : Element) (edge : Edge) → length edges.rows ≤ 1000 → length edges.columns ≤ 1000
    → (element ≡ Row → length edges.rows < 1000) → (element ≡ Column → length edges.columns < 1000)
    → (length (with_edge edges element edge).rows ≤ 1000) × (length (with_edge edges element edge).columns ≤ 1000)
edges_few edges Row edge rows columns row column = (let h = row refl in omega (arith, h, length_push edges.rows edge), columns)
edges_few edges Column edge rows columns row column = (rows, let h = column refl in omega (arith, h, length_push edges.columns edge))
