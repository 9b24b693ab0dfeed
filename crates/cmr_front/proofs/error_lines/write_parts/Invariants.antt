use Rattle.std.proofs.Common.{◌≡◌, ◌++◌, ◌≤◌, IsTrue, map, take}
use Rattle.std.specs.List.{concat}
use Rattle.cmr_front.proofs.error_lines.write_parts.Given as goal

-- the parts before this one were written
abbrev pub invariant-loop-part : goal.invariant-loop-part
invariant-loop-part g l =
    let E = g.E.Sink in
    record {
      written : IsTrue (E.tells l.fn.err) → E.got l.err ≡ E.got l.fn.err ++ concat (map (λ p. p.now) (take l.part-index l.parts));
      taken : E.taken l.err ≡ E.taken l.fn.err ++ concat (map (λ p. p.now) (take l.part-index l.parts));
      tells : E.tells l.err ≡ E.tells l.fn.err;
      later : E.faults l.fn.err ≤ E.faults l.err;
    }
