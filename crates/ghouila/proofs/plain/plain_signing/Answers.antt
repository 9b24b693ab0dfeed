use Rattle.std.proofs.Common.{refl, ◌≡◌, ◌^◌, ◌∙◌, ap, sym, subst, length, arith}
use Rattle.std.proofs.lemmas.Bool.{false≢true}
use Rattle.std.specs.List.{AllByRecursion}
use Rattle.cmr_base.specs.Signing.{IsSigning, IsSign, sign_number}
use Rattle.ghouila.specs.Numbered.{signs_numbered}
use Rattle.ghouila.proofs.SignNumbers.{no_lesser, length-signs_numbered, signs_numbered_all, sign_number-signs_numbered, sign_number_below}
use Rattle.ghouila.proofs.plain.plain_signing.Goals as goal

pub is_signing-requires : goal.is_signing-requires
is_signing-requires c =
    let e : c.in_ok-signs.signs ≡ signs_numbered c.len-count.result c.loop-number.number = c.in_ok-signs.ensures in
    record {
      in_range = c.requires.in_range;
      few = c.requires.few;
      one_each = ap length e ∙ length-signs_numbered c.len-count.result c.loop-number.number ∙ c.len-count.ensures.len;
      each = subst (AllByRecursion IsSign) (sym e) (signs_numbered_all c.len-count.result c.loop-number.number);
    }

pub returns-then-is_signing-clause-first : goal.returns-then-is_signing-clause-first
returns-then-is_signing-clause-first c =
    let e : c.in_ok-signs.signs ≡ signs_numbered c.len-count.result c.loop-number.number = c.in_ok-signs.ensures in
    let number : sign_number c.in_ok-signs.signs ≡ c.loop-number.number =
    ap sign_number e ∙ sign_number-signs_numbered c.len-count.result c.loop-number.number (omega arith) in
    record {
      signing = c.if-is_signing.ensures.yes refl;
      first = λ others signs. omega (arith, number, c.loop-number.invariant others signs);
    }

pub loop-number-preserved : goal.loop-number-preserved
loop-number-preserved c =
    let e : c.in_ok-signs.signs ≡ signs_numbered (length c.args.rows.now) c.loop-number.number =
    c.in_ok-signs.ensures ∙ ap (λ n. signs_numbered n c.loop-number.number) c.len-count.ensures.len in
    no_lesser c.args.matrix.now c.args.rows.now c.loop-number.number
    (λ signs. false≢true (c.if-is_signing.ensures.no (subst (IsSigning c.args.matrix.now c.args.rows.now) (sym e) signs)))
    c.loop-number.invariant

pub returns-clause-none : goal.returns-clause-none
returns-clause-none c = λ signs is.
    let below = sign_number_below signs is.each in
    let count : c.len-count.result ≡ length signs = c.len-count.ensures.len ∙ sym is.one_each in
    let total : 2 ^ c.len-count.result ≡ 2 ^ length signs = ap (λ n. 2 ^ n) count in
    omega (arith, below, total, c.loop-number.invariant signs is)
