use Rattle.std.proofs.Common.{◌≡◌, ◌∙◌, ◌++◌, List, ℕ, take, drop, map, ◌+◌, ap, sym, subst, inl, inr, append_assoc, arith, []}
use Rattle.std.specs.List.{concat}
use Rattle.cmr_front.proofs.Parts.{one_more, at, prefix}
use Rattle.cmr_io.specs.Causes.{Rose}
use Rattle.cmr_io.specs.Whole.{AppendsPrefix}
use Rattle.cmr_front.proofs.error_lines.write_parts.Goals as goal

-- one more part
put_on : (old mid new done part all : List ℕ) → new ≡ mid ++ part → mid ≡ old ++ done → done ++ part ≡ all → new ≡ old ++ all
put_on old mid new done part all wrote before is = wrote ∙ ap (λ (xs : List ℕ). xs ++ part) before ∙ append_assoc old done part ∙ ap (λ (xs : List ℕ). old ++ xs) is

-- a prefix of a part, and nothing after it
cut_on : (old mid new done part rest all : List ℕ) → AppendsPrefix mid new part → mid ≡ old ++ done → done ++ (part ++ rest) ≡ all → AppendsPrefix old new all
cut_on old mid new done part rest all wrote before is =
    subst (AppendsPrefix old new) is (prefix old done part rest new (subst (λ (xs : List ℕ). AppendsPrefix xs new part) before wrote))

pub loop-part-preserved : goal.loop-part-preserved
loop-part-preserved g c =
    let E = g.E.Sink in
    let before = c.loop-part.invariant in
    let parts = c.args.parts.now in
    let i = c.loop-part.part-index in
    let old = c.args.err.now in
    let mid = c.loop-part.err in
    let new = c.write_whole.new.sink in
    let wrote = c.in_default.ensures in
    let part = c.as_bytes.result.now in
    let done : List ℕ = concat (map (λ p. p.now) (take i parts)) in
    let all : List ℕ = concat (map (λ p. p.now) (take (i + 1) parts)) in
    let is : done ++ part ≡ all = ap (λ (r : List ℕ). done ++ r) c.as_bytes.ensures.value ∙ sym (one_more (λ p. p.now) parts i (record { ref_ptr = (0, 0); now = [] }) (omega arith)) in
    record {
      written = λ told. put_on (E.got old) (E.got mid) (E.got new) done part all (wrote.whole (before.tells ∙ told)) (before.written told) is;
      taken = put_on (E.taken old) (E.taken mid) (E.taken new) done part all wrote.taken before.taken is;
      tells = wrote.tells ∙ before.tells;
      later = omega (arith, wrote.cause.later, before.later);
    }

pub returns-in-Err : goal.returns-in-Err
returns-in-Err g c =
    let E = g.E.Sink in
    let before = c.loop-part.invariant in
    let parts = c.args.parts.now in
    let i = c.loop-part.part-index in
    let old = c.args.err.now in
    let mid = c.loop-part.err in
    let new = c.write_whole.new.sink in
    let wrote = c.in-Err.ensures in
    let part = c.as_bytes.result.now in
    let done : List ℕ = concat (map (λ p. p.now) (take i parts)) in
    let rest : List ℕ = concat (map (λ p. p.now) (drop (i + 1) parts)) in
    let all : List ℕ = concat (map (λ p. p.now) parts) in
    let is : done ++ (part ++ rest) ≡ all = ap (λ (p : List ℕ). done ++ (p ++ rest)) c.as_bytes.ensures.value ∙ sym (at (λ p. p.now) parts i (record { ref_ptr = (0, 0); now = [] }) (omega arith)) in
    let rose : Rose (E.faults old) (E.faults new) = elim wrote.cause.failed [ inl up ↦ inl (omega (arith, before.later)) | inr last ↦ inr last ] in
    record {
      got = λ told. inr (rose, cut_on (E.got old) (E.got mid) (E.got new) done part rest all (wrote.prefix (before.tells ∙ told)) (before.written told) is);
      taken = inr (rose, cut_on (E.taken old) (E.taken mid) (E.taken new) done part rest all wrote.cut before.taken is);
    }
