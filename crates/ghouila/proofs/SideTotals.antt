-- The sum of a violator of four blocks is equal modulo 4 to the sum of the two grown sides.
use Rattle.std.proofs.Common.{ℤ, pos, Bool, true, false, ◌≡◌, ◌+ℤ◌, ◌*ℤ◌, ◌-ℤ◌, arith, inl, inr}
use Rattle.cmr_base.specs.Sums.{IsEven, IsTwoModFour}
use Rattle.cmr_base.specs.Signing.{IsSign}
use Rattle.cmr_base.proofs.Integers.{sums}
use Rattle.cmr_base.proofs.Parity.{IsFour}
use Rattle.ghouila.proofs.ParityBits.{Bit, bit, when, mixed_product}
use Rattle.ghouila.proofs.CountedSides.{grown}

pub totals : (al be ga de e t1 t2 : ℤ) (ba : Bit al) (bb : Bit be) (bc : Bit ga) (bd : Bit de) → IsSign e → IsEven (t1 +ℤ when bb.odd al) → IsEven (t1 +ℤ when bd.odd ga)
    → IsTwoModFour ((t1 +ℤ al *ℤ be) +ℤ (de *ℤ ga +ℤ t2))
    → IsTwoModFour (grown t1 al ga (when ba.odd e) bd.odd bb.odd +ℤ grown t2 de be (when bd.odd e) ba.odd bc.odd)
totals al be ga de e t1 t2 ba bb bc bd unit p q total =
    go ba.odd bb.odd bc.odd bd.odd ba.half bb.half bc.half bd.half ba.is bb.is bc.is bd.is (mixed_product al be ba bb) (mixed_product de ga bd bc) p q total unit
  where
    go : (a b c d : Bool) (hal hbe hga hde : ℤ) → al ≡ bit a +ℤ (hal +ℤ hal) → be ≡ bit b +ℤ (hbe +ℤ hbe) → ga ≡ bit c +ℤ (hga +ℤ hga) → de ≡ bit d +ℤ (hde +ℤ hde)
        → IsFour ((al *ℤ be +ℤ when a (when b (pos 1))) -ℤ (when b al +ℤ when a be))
        → IsFour ((de *ℤ ga +ℤ when d (when c (pos 1))) -ℤ (when c de +ℤ when d ga))
        → IsEven (t1 +ℤ when b al) → IsEven (t1 +ℤ when d ga)
        → IsTwoModFour ((t1 +ℤ al *ℤ be) +ℤ (de *ℤ ga +ℤ t2)) → IsSign e
        → IsTwoModFour (((t1 +ℤ when b al) +ℤ when d (ga +ℤ when b (when a e))) +ℤ ((t2 +ℤ when c de) +ℤ when a (be +ℤ when c (when d e))))
    go false false false false hal hbe hga hde eal ebe ega ede (k, f) (l, g) (m, h) (n, i) (o, j) unit = ((o -ℤ k) -ℤ l, omega (arith, sums))
    go false false false true hal hbe hga hde eal ebe ega ede (k, f) (l, g) (m, h) (n, i) (o, j) unit = ((o -ℤ k) -ℤ l, omega (arith, sums))
    go false false true false hal hbe hga hde eal ebe ega ede (k, f) (l, g) (m, h) (n, i) (o, j) unit = ((o -ℤ k) -ℤ l, omega (arith, sums))
    go false false true true hal hbe hga hde eal ebe ega ede (k, f) (l, g) (m, h) (n, i) (o, j) unit = absurd (omega (arith, sums))
    go false true false false hal hbe hga hde eal ebe ega ede (k, f) (l, g) (m, h) (n, i) (o, j) unit = ((o -ℤ k) -ℤ l, omega (arith, sums))
    go false true false true hal hbe hga hde eal ebe ega ede (k, f) (l, g) (m, h) (n, i) (o, j) unit = ((o -ℤ k) -ℤ l, omega (arith, sums))
    go false true true false hal hbe hga hde eal ebe ega ede (k, f) (l, g) (m, h) (n, i) (o, j) unit = ((o -ℤ k) -ℤ l, omega (arith, sums))
    go false true true true hal hbe hga hde eal ebe ega ede (k, f) (l, g) (m, h) (n, i) (o, j) unit = absurd (omega (arith, sums))
    go true false false false hal hbe hga hde eal ebe ega ede (k, f) (l, g) (m, h) (n, i) (o, j) unit = ((o -ℤ k) -ℤ l, omega (arith, sums))
    go true false false true hal hbe hga hde eal ebe ega ede (k, f) (l, g) (m, h) (n, i) (o, j) unit = ((o -ℤ k) -ℤ l, omega (arith, sums))
    go true false true false hal hbe hga hde eal ebe ega ede (k, f) (l, g) (m, h) (n, i) (o, j) unit = ((o -ℤ k) -ℤ l, omega (arith, sums))
    go true false true true hal hbe hga hde eal ebe ega ede (k, f) (l, g) (m, h) (n, i) (o, j) unit = absurd (omega (arith, sums))
    go true true false false hal hbe hga hde eal ebe ega ede (k, f) (l, g) (m, h) (n, i) (o, j) unit = absurd (omega (arith, sums))
    go true true false true hal hbe hga hde eal ebe ega ede (k, f) (l, g) (m, h) (n, i) (o, j) unit = absurd (omega (arith, sums))
    go true true true false hal hbe hga hde eal ebe ega ede (k, f) (l, g) (m, h) (n, i) (o, j) unit = absurd (omega (arith, sums))
    go true true true true hal hbe hga hde eal ebe ega ede (k, f) (l, g) (m, h) (n, i) (o, j) (inl unit) = (((o -ℤ k) -ℤ l) +ℤ pos 1, omega (arith, sums))
    go true true true true hal hbe hga hde eal ebe ega ede (k, f) (l, g) (m, h) (n, i) (o, j) (inr unit) = ((o -ℤ k) -ℤ l, omega (arith, sums))
