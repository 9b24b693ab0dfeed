use Rattle.std.proofs.Common.{◌∙◌, [], arith}
use Rattle.three_sep.proofs.SearchLemmas.{found_some, none_more, below_none, found_in_last_form}
use Rattle.three_sep.proofs.search.Search.first.Goals as goal

pub returns-in-Some : goal.returns-in-Some
returns-in-Some c = let m = c.args.self.now.matrix.now in found_some m [] 0 c.in_ok-three.field-0 c.in-Some.three (omega arith) (below_none m) c.in-Some.is c.in_ok-three.ensures.found

pub returns-in-Some-2 : goal.returns-in-Some-2
returns-in-Some-2 c =
    let m = c.args.self.now.matrix.now in
    let found = rw c.in_ok-three.ensures.matrix at c.in_ok-three-2.ensures.found in
    found_some m [] 1 c.in_ok-three-2.field-0 c.in-Some-2.three (omega arith) (none_more m [] 0 c.in_ok-three.field-0 (below_none m) c.in_default.is c.in_ok-three.ensures.found) c.in-Some-2.is found

pub returns-in-Some-3 : goal.returns-in-Some-3
returns-in-Some-3 c =
    let m = c.args.self.now.matrix.now in
    let second = rw c.in_ok-three.ensures.matrix at c.in_ok-three-2.ensures.found in
    let third = rw (c.in_ok-three-2.ensures.matrix ∙ c.in_ok-three.ensures.matrix) at c.in_ok-three-3.ensures.found in
    let before = none_more m [] 1 c.in_ok-three-2.field-0 (none_more m [] 0 c.in_ok-three.field-0 (below_none m) c.in_default.is c.in_ok-three.ensures.found) c.in_default-2.is second in
    found_some m [] 2 c.in_ok-three-3.field-0 c.in-Some-3.three (omega arith) before c.in-Some-3.is third

pub returns : goal.returns
returns c =
    let m = c.args.self.now.matrix.now in
    let second = rw c.in_ok-three.ensures.matrix at c.in_ok-three-2.ensures.found in
    let third = rw (c.in_ok-three-2.ensures.matrix ∙ c.in_ok-three.ensures.matrix) at c.in_ok-three-3.ensures.found in
    let last = rw (c.in_ok-three-3.ensures.matrix ∙ c.in_ok-three-2.ensures.matrix ∙ c.in_ok-three.ensures.matrix) at c.first_concentrated.ensures in
    let before = none_more m [] 1 c.in_ok-three-2.field-0 (none_more m [] 0 c.in_ok-three.field-0 (below_none m) c.in_default.is c.in_ok-three.ensures.found) c.in_default-2.is second in
    found_in_last_form m c.first_concentrated.result (none_more m [] 2 c.in_ok-three-3.field-0 before c.in_default-3.is third) last
