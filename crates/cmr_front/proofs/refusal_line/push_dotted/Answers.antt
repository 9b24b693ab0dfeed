use Rattle.std.proofs.Common.{◌≡◌, ◌<◌, ◌+◌, ◌∙◌, ◌++◌, ℕ, List, length, drop, get_or, ap, sym}
use Rattle.std.specs.Fmt.{decimal}
use Rattle.std.specs.Prelude.{codes}
use Rattle.std.proofs.lemmas.List.{append_assoc, append-nil, at_drop_more, drop_all}
use Rattle.cmr_front.specs.Refusals.{dotted}
use Rattle.cmr_front.proofs.refusal_line.push_dotted.Goals as goal

-- one more number is written
dotted_more : (path old pushed new all : List ℕ) (i : ℕ) → i < length path → old ++ dotted (drop i path) ≡ all → pushed ≡ old ++ codes "." → new ≡ pushed ++ decimal (get_or path i 0 + 1)
    → new ++ dotted (drop (i + 1) path) ≡ all
dotted_more path old pushed new all i l before dot number =
    let digits = decimal (get_or path i 0 + 1) in
    let rest = dotted (drop (i + 1) path) in
    ap (λ (text : List ℕ). text ++ rest) (number ∙ ap (λ (text : List ℕ). text ++ digits) dot)
    ∙ append_assoc (old ++ codes ".") digits rest
    ∙ append_assoc old (codes ".") (digits ++ rest)
    ∙ ap (λ (text : List ℕ). old ++ text) (sym (at_drop_more dotted path i 0 l))
    ∙ before

pub loop-child-preserved : goal.loop-child-preserved
loop-child-preserved c =
    dotted_more c.args.path.now c.loop-child.text.items c.push.new.self.items c.push_child_number.new.text.items (c.args.text.now.items ++ dotted c.args.path.now) c.loop-child.child-index
    c.loop-child-test.true c.loop-child.invariant c.in_ok-push.ensures.items c.in_ok-push_child_number.ensures

pub returns : goal.returns
returns c =
    sym (append-nil c.loop-child.text.items)
    ∙ sym (ap (λ (path : List ℕ). c.loop-child.text.items ++ dotted path) (drop_all c.loop-child.child-index c.args.path.now c.loop-child-test.false))
    ∙ c.loop-child.invariant
