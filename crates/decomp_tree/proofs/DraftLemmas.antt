-- Drafts as plain values, and a draft from what its root says and from its children.
use Rattle.std.proofs.Common.{◌≡◌, ◌<◌, ◌≤◌, ◌+◌, ◌∙◌, ◌++◌, ◌&&◌, ℕ, true, List, [], ◌∷◌, length, map, take, get_or, ap, sym, subst}
use Rattle.std.proofs.lemmas.List.{take_more}
use Rattle.std.proofs.Math.Seq.{take-length}
use Rattle.std.specs.List.{AllByRecursion, list_all}
use Rattle.cmr_base.specs.declared.line_set.LineSet.{LineSet}
use Rattle.cmr_base.specs.Matrix.{Matrix, IsMatrix}
use Rattle.cmr_base.proofs.ThinLines.{and_is}
use Rattle.tree_type.specs.Findings.{finding_shown}
use Rattle.tree_type.specs.Invariant.{AreLines}
use Rattle.decomp_tree.specs.declared.drafts.Draft.{Draft, fold_out-Draft}
use Rattle.decomp_tree.specs.declared.drafts.Opening.{Opening}
use Rattle.decomp_tree.specs.Seen.{HasNoneAmong, keeps_free}
use Rattle.decomp_tree.specs.Openings.{IsOpeningOf}
use Rattle.decomp_tree.specs.Sketches.{Sketch, Sketched, sketches_from, draft_step, sketch_of, opening_in, is_free_in, drafts_in, lines_of_sketch, IsDrafted, AreDrafted, HasOneMoreDraft}
use Rattle.decomp_tree.proofs.FreeNodes.{none_by_children}

pub sketch_is : (draft : Draft) → sketch_of draft ≡ Sketched (opening_in draft) (is_free_in draft) (sketches_from (map sketch_of (drafts_in draft)))
sketch_is draft = fold_out-Draft Sketch draft_step draft

pub lines_are : (draft : Draft) → lines_of_sketch (sketch_of draft) ≡ (opening_in draft).lines
lines_are draft = ap lines_of_sketch (sketch_is draft)

module _ (limit : ℕ) (m : Matrix) where
  -- one more draft
  drafted_more : (children : List LineSet) (sketches : List Sketch) (child : LineSet) (sketch : Sketch) → AreDrafted limit m children (sketches_from sketches)
      → lines_of_sketch sketch ≡ child → IsDrafted limit m sketch
      → AreDrafted limit m (children ++ child ∷ []) (sketches_from (sketches ++ sketch ∷ []))
  drafted_more [] [] child sketch d e one = (e, one, tt)
  drafted_more [] (s ∷ sketches) child sketch d e one = absurd d
  drafted_more (c ∷ children) [] child sketch d e one = absurd d
  drafted_more (c ∷ children) (s ∷ sketches) child sketch d e one = (d.0, d.1, drafted_more children sketches child sketch d.2 e one)

  -- the next child is drawn after the others
  pub drafted_next : (children : List LineSet) (i : ℕ) (d : LineSet) (before after : List Sketch) → i < length children
      → AreDrafted limit m (take i children) (sketches_from before) → HasOneMoreDraft limit m (get_or children i d) before after
      → AreDrafted limit m (take (i + 1) children) (sketches_from after)
  drafted_next children i d before after l so_far one =
      subst (λ some. AreDrafted limit m (take (i + 1) children) (sketches_from some)) (sym one.order)
      (subst (λ some. AreDrafted limit m some (sketches_from (before ++ one.sketch ∷ []))) (sym (take_more children i d l))
      (drafted_more (take i children) before (get_or children i d) one.sketch so_far one.lines_are one.drafted))

  -- all children are drawn
  pub drafted_all : (children : List LineSet) (i : ℕ) (sketches : List Sketch) → i ≡ length children
      → AreDrafted limit m (take i children) (sketches_from sketches) → AreDrafted limit m children (sketches_from sketches)
  drafted_all children i sketches e d = subst (λ some. AreDrafted limit m some (sketches_from sketches)) (ap (λ k. take k children) e ∙ take-length children) d

  -- what is known of a draft
  pub parts_of : (draft : Draft) → IsDrafted limit m (sketch_of draft) → IsDrafted limit m (Sketched (opening_in draft) (is_free_in draft) (sketches_from (map sketch_of (drafts_in draft))))
  parts_of draft d = subst (IsDrafted limit m) (sketch_is draft) d

  free_each : (children : List LineSet) (drafts : List Draft) → AreDrafted limit m children (sketches_from (map sketch_of drafts))
      → list_all is_free_in drafts ≡ true → AllByRecursion (HasNoneAmong m) children
  free_each [] drafts d e = tt
  free_each (child ∷ children) [] d e = absurd d
  free_each (child ∷ children) (draft ∷ drafts) d e =
      let both = and_is (is_free_in draft) (list_all is_free_in drafts) e in
      (subst (HasNoneAmong m) (sym (lines_are draft) ∙ d.0) ((parts_of draft d.1).1 both.0), free_each children drafts d.2 both.1)

  module _ (few : limit ≤ 24) (is : IsMatrix m) (lines : LineSet) (are : AreLines m lines) (opening : Opening) (is_opening : IsOpeningOf limit m lines opening) (drafts : List Draft) (drafted : AreDrafted limit m opening.children (sketches_from (map sketch_of drafts))) where
    none_among : (keeps_free (finding_shown opening.finding) && list_all is_free_in drafts) ≡ true → HasNoneAmong m lines
    none_among e =
        let both = and_is (keeps_free (finding_shown opening.finding)) (list_all is_free_in drafts) e in
        none_by_children limit few m is lines are (finding_shown opening.finding) opening.children is_opening.said both.0 (free_each opening.children drafts drafted both.1)

    -- the node is drawn after others
    pub one_more_draft : (before after : List Sketch)
        → after ≡ before ++ Sketched opening (keeps_free (finding_shown opening.finding) && list_all is_free_in drafts) (sketches_from (map sketch_of drafts)) ∷ []
        → HasOneMoreDraft limit m lines before after
    one_more_draft before after e = record {
      sketch = Sketched opening (keeps_free (finding_shown opening.finding) && list_all is_free_in drafts) (sketches_from (map sketch_of drafts));
      order = e;
      lines_are = is_opening.lines_are;
      drafted = (
        subst (λ some. IsOpeningOf limit m some opening) (sym is_opening.lines_are) is_opening,
        (λ yes. subst (HasNoneAmong m) (sym is_opening.lines_are) (none_among yes)),
        drafted,
      );
    }
