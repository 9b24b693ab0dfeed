-- Cuts of fewer rows, and cuts in other tables.
use Rattle.std.proofs.Common.{ℕ, Bool, true, false, ◌≡◌, ◌≢◌, ◌∙◌, sym, ap₂}
use Rattle.cmr_base.specs.Cuts.{differ, HasCuts, IsCuts}
use Rattle.graph_realise.proofs.Booleans.{either}

pub is_fewer : (M : ℕ → ℕ → Bool) (R Q : ℕ → Type 0) (side : ℕ → ℕ → Bool) (lies : Bool → ℕ → ℕ → Bool) → ((x : ℕ) → Q x → R x) → IsCuts M R side lies → IsCuts M Q side lies
is_fewer M R Q side lies sub K = record {
  meet = λ end r s c hr hs n. K.meet end r s c (sub r hr) (sub s hs) n;
  three = λ r s t hr hs ht rs rt st. K.three r s t (sub r hr) (sub s hs) (sub t ht) rs rt st;
  uses = λ r c h. K.uses r c (sub r h);
}

pub has_fewer : (M : ℕ → ℕ → Bool) (R Q : ℕ → Type 0) → ((x : ℕ) → Q x → R x) → HasCuts M R → HasCuts M Q
has_fewer M R Q sub K = record { side = K.side; lies = K.lies; cuts = is_fewer M R Q K.side K.lies sub K.cuts }

-- other tables with the same entries at the rows
pub is_same : (M : ℕ → ℕ → Bool) (R : ℕ → Type 0) (side side' : ℕ → ℕ → Bool) (lies lies' : Bool → ℕ → ℕ → Bool)
    → ((r s : ℕ) → R r → R s → r ≢ s → side' r s ≡ side r s) → ((end : Bool) (r c : ℕ) → R r → lies' end r c ≡ lies end r c) → IsCuts M R side lies → IsCuts M R side' lies'
is_same M R side side' lies lies' a b K = record {
  meet = λ end r s c hr hs n. either (lies' end r c) (lies end r c) (side' r s) (side r s) (lies' end s c) (lies end s c) (side' s r) (side s r)
      (b end r c hr) (a r s hr hs n) (b end s c hs) (a s r hs hr (λ e. n (sym e))) (K.meet end r s c hr hs n);
  three = λ r s t hr hs ht rs rt st. either (side' r t) (side r t) (side' r s) (side r s) (side' s t) (side s t) (side' s r) (side s r)
      (a r t hr ht rt) (a r s hr hs rs) (a s t hs ht st) (a s r hs hr (λ e. rs (sym e))) (K.three r s t hr hs ht rs rt st);
  uses = λ r c h. K.uses r c h ∙ sym (ap₂ differ (b true r c h) (b false r c h));
}
