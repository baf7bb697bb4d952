-- One version more among those of which one of the least epoch is sought.
use Rattle.std.proofs.Common.{◌≡◌, ℕ, ◌≤◌, Bool, true, false, ◌&&◌, List, [], ◌∷◌, ◌++◌, Option, Some, None, sym, ◌∙◌, ap, if◌then◌else◌, arith}
use Rattle.std.specs.Prelude.{All, nat_lt}
use Rattle.std.proofs.lemmas.Bool.Decides.{nat_tests}
use Rattle.std.proofs.lemmas.List.Elements.{All-append, All-cons, All-nil, All-weaker, Contains-append_left, Contains-push}
use Rattle.base_types.specs.declared.epoch.Epoch.{Epoch}
use Rattle.base_types.specs.declared.id.ContId.{ContId}
use Rattle.daos_model.specs.declared.durable.Version.{Version}
use Rattle.daos_model.specs.BoolLaws.{and_left, and_right}
use Rattle.vos_aggregate.specs.Opens.{IsLeastOpen, LeastOpen, is_earlier, is_open_below}

module _ (c : ContId) (upto : Epoch) (vs : List Version) (v : Version) where
  -- what holds of each and of one more holds of all
  all-push : (P : Version → Type 0) → All P vs → P v → All P (vs ++ v ∷ [])
  all-push P all this = All-append P vs (v ∷ []) all (All-cons P v [] this (All-nil P))

  not-open : (w : Version) → is_open_below c upto w ≡ false → is_open_below c upto w ≡ true → ⊥
  not-open w shut yes' = let clash : true ≡ false = sym yes' ∙ shut in let k : ⊥ = cc in k

  -- the one more is the least
  taken : (o : Option Version) → LeastOpen c upto vs o → is_open_below c upto v ≡ true → is_earlier v o ≡ true → IsLeastOpen c upto (vs ++ v ∷ []) v
  taken None k is earlier = record {
    among = Contains-push vs v;
    unsettled = is;
    least = all-push (λ w. is_open_below c upto w ≡ true → v.epoch.0 ≤ w.epoch.0)
        (All-weaker (λ w. is_open_below c upto w ≡ false) (λ w. is_open_below c upto w ≡ true → v.epoch.0 ≤ w.epoch.0) (λ w shut yes'. absurd (not-open w shut yes')) vs k) (λ e. omega arith);
  }
  taken (Some u) k is earlier = record {
    among = Contains-push vs v;
    unsettled = is;
    least = all-push (λ w. is_open_below c upto w ≡ true → v.epoch.0 ≤ w.epoch.0)
        (All-weaker (λ w. is_open_below c upto w ≡ true → u.epoch.0 ≤ w.epoch.0) (λ w. is_open_below c upto w ≡ true → v.epoch.0 ≤ w.epoch.0)
        (λ w h yes'. below u.epoch.0 v.epoch.0 w.epoch.0 earlier (h yes')) vs k.least) (λ e. omega arith);
  }
    where
      below : (m n k : ℕ) → nat_lt n m ≡ true → m ≤ k → n ≤ k
      below m n k lt le = grind (arith, nat_tests)

  -- the one more is settled, or no earlier
  left : (o : Option Version) → LeastOpen c upto vs o → (is_open_below c upto v && is_earlier v o) ≡ false → LeastOpen c upto (vs ++ v ∷ []) o
  left None k shut = all-push (λ w. is_open_below c upto w ≡ false) k (alone (is_open_below c upto v) shut)
    where
      alone : (b : Bool) → (b && true) ≡ false → b ≡ false
      alone true e = e
      alone false e = e
  left (Some u) k shut = record {
    among = Contains-append_left vs (v ∷ []) u k.among;
    unsettled = k.unsettled;
    least = all-push (λ w. is_open_below c upto w ≡ true → u.epoch.0 ≤ w.epoch.0) k.least (λ is. above u.epoch.0 v.epoch.0 (sym (ap (λ b. b && nat_lt v.epoch.0 u.epoch.0) is) ∙ shut));
  }
    where
      above : (m n : ℕ) → nat_lt n m ≡ false → m ≤ n
      above m n e = grind (arith, nat_tests)

  pub least-more : (o : Option Version) (b : Bool) → (is_open_below c upto v && is_earlier v o) ≡ b → LeastOpen c upto vs o → LeastOpen c upto (vs ++ v ∷ []) (if b then Some v else o)
  least-more o true e k = taken o k (and_left (is_open_below c upto v) (is_earlier v o) e) (and_right (is_open_below c upto v) (is_earlier v o) e)
  least-more o false e k = left o k e
