-- Drafts: trees before the late search for cycle faults.
use Rattle.std.specs.Prelude.{◌≡◌, ◌++◌, Bool, true, ℕ, List, [], ◌∷◌, IsTrue}
use Rattle.cmr_base.specs.declared.line_set.LineSet.{LineSet}
use Rattle.cmr_base.specs.CyclePlaces.{HasNoCycleFault}
use Rattle.cmr_base.specs.Matrix.{Matrix, entry}
use Rattle.tree_type.specs.DecompositionTrees.{Finding}
use Rattle.tree_type.specs.Soundness.{part}
use Rattle.decomp_tree.specs.declared.drafts.Opening.{Opening}
use Rattle.decomp_tree.specs.declared.drafts.Draft.{Draft, out-Draft}
use Rattle.decomp_tree.specs.declared.drafts.Draft.TheOpen as open'
use Rattle.decomp_tree.specs.declared.drafts.Draft.TheFolds.{fold-Draft}
use Rattle.decomp_tree.specs.Seen.{HasNoneAmong, is_unsearched}
use Rattle.decomp_tree.specs.Openings.{IsOpeningOf}

mutual
  -- the finding of a node, whether its lines are known to contain no violator, and its children
  pub data Sketch : Type 0 where
    Sketched : Opening → Bool → Sketches → Sketch

  pub data Sketches : Type 0 where
    NoSketches : Sketches
    MoreSketches : Sketch → Sketches → Sketches

abbrev pub sketches_from : List Sketch → Sketches
sketches_from [] = NoSketches
sketches_from (sketch ∷ sketches) = MoreSketches sketch (sketches_from sketches)

abbrev pub draft_step : open'.Draft-F Sketch → Sketch
draft_step draft = Sketched draft.opening.value draft.is_free (sketches_from draft.children.items)

-- a draft as a plain value
abbrev pub sketch_of : Draft → Sketch
sketch_of = fold-Draft Sketch draft_step

-- the contents of a draft
abbrev pub opening_in : Draft → Opening
opening_in draft = (out-Draft draft).opening.value

abbrev pub is_free_in : Draft → Bool
is_free_in draft = (out-Draft draft).is_free

abbrev pub drafts_in : Draft → List Draft
drafts_in draft = (out-Draft draft).children.items

abbrev pub lines_of_sketch : Sketch → LineSet
lines_of_sketch (Sketched opening is_free below) = opening.lines

abbrev mutual
  -- each node has its finding, except for late cycle faults, and the lines of a free node contain no violator
  pub IsDrafted : ℕ → Matrix → Sketch → Type 0
  IsDrafted limit m (Sketched opening is_free below) =
      IsOpeningOf limit m opening.lines opening × (IsTrue is_free → HasNoneAmong m opening.lines) × AreDrafted limit m opening.children below

  pub AreDrafted : ℕ → Matrix → List LineSet → Sketches → Type 0
  AreDrafted limit m [] NoSketches = Unit {0}
  AreDrafted limit m (lines ∷ children) (MoreSketches sketch sketches) = (lines_of_sketch sketch ≡ lines) × IsDrafted limit m sketch × AreDrafted limit m children sketches
  AreDrafted limit m children others = ⊥

-- one more draft, of these lines, after some others
pub record HasOneMoreDraft (limit : ℕ) (m : Matrix) (lines : LineSet) (before after : List Sketch) : Type 0 where
  pub sketch : Sketch
  pub order : after ≡ before ++ sketch ∷ []
  pub lines_are : lines_of_sketch sketch ≡ lines
  pub drafted : IsDrafted limit m sketch

-- a node with this finding has no cycle fault among its lines, if none was searched for yet
abbrev pub HasNoLateFault : Matrix → LineSet → Finding → Type 0
HasNoLateFault m lines finding = is_unsearched finding ≡ true → HasNoCycleFault (entry (part m lines))
