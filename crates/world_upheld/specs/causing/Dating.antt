-- The epochs of attempts that make snapshots or aggregate, and the leases that cover them, are within the limit.
use Rattle.std.specs.Prelude.{ℕ, ◌≡◌, ◌≤◌, ◌<◌, ◌+◌, ◌*◌, ◌/◌, ◌^◌, ◌++◌, min, max, nat_le, Bool, true, false, List, [], ◌∷◌, length, Some, None, refl, if◌then◌else◌}
use Rattle.std.specs.Option.{option_map}
use Rattle.std.proofs.Common.{sym, ap, subst, arith}
use Rattle.std.proofs.lemmas.Bool.Decides.{nat_tests}
use Rattle.base_types.specs.declared.epoch.Epoch.{Epoch}
use Rattle.base_types.specs.declared.id.AttemptId.{AttemptId}
use Rattle.base_types.specs.declared.report.Line.{Line}
use Rattle.base_types.specs.Epochs.{issued_ticks, last_ticks}
use Rattle.daos_model.specs.Opening.{Opening, top}
use Rattle.daos_model.specs.Stops.{restart_numbers}
use Rattle.world_base.specs.declared.target.TargetMemory.{TargetMemory}
use Rattle.world_base.specs.declared.target.TargetPlan.{TargetPlan}
use Rattle.world_base.specs.Requests.{epoch_of_ticks, request_epoch}
use Rattle.world_legal.specs.world_causes.causes.Causes.{Dated}
use Rattle.world_legal.specs.world_causes.causes.Dates.{limit-more}
use Rattle.world_legal.specs.world_causes.causes.Shown.{limit_over}

-- ticks that are issued are above the tracker's, and at most one above all within a bound
ticks-next : (ticks reading tracker last b : ℕ) → ticks ≤ b → tracker / 256 ≤ b → last ≤ b → (tracker / 256 < max (max (ticks + 1) (min reading last)) (tracker / 256 + 1)) × (max (max (ticks + 1) (min reading last)) (tracker / 256 + 1) ≤ b + 1)
ticks-next ticks reading tracker last b p q s = by (tracker / 256) q
  where
    by : (k : ℕ) → k ≤ b → (k < max (max (ticks + 1) (min reading last)) (k + 1)) × (max (max (ticks + 1) (min reading last)) (k + 1) ≤ b + 1)
    by k q = (omega (arith, p, q, s), omega (arith, p, q, s))

issued-within : (ticks reading tracker b : ℕ) → ticks ≤ b → tracker / 256 ≤ b → 2 ^ 55 ≤ b → (tracker / 256 < issued_ticks ticks reading tracker) × (issued_ticks ticks reading tracker ≤ b + 1)
issued-within ticks reading tracker b p q s = ticks-next ticks reading tracker (2 ^ 55) b p q s

-- the clock's last reading is within the limit
reading-within : (o : Opening) (lines : List Line) (issued : Dated) → 2 ^ 55 ≤ limit_over o lines issued
reading-within o lines issued = by (2 ^ 55) o.lease (length issued) (length (restart_numbers lines))
  where
    by : (a b c n : ℕ) → a ≤ max a b + c + 65536 * n
    by a b c n = omega arith

-- what is known of an epoch that is issued now
pub record IsIssuedNow (o : Opening) (issued : Dated) (lines : List Line) (x : AttemptId) (e : Epoch) : Type 0 where
  pub near : e.0 / 256 ≤ limit_over o lines issued + 1
  pub within : e.0 / 256 ≤ limit_over o lines (issued ++ (x, e) ∷ [])
  pub above : top o < e.0

module _ (o : Opening) (issued : Dated) (lines : List Line) (p : TargetPlan) (m : TargetMemory) (reading : ℕ) (tracker : Epoch) (few : p.me < 256) (ticks : m.ticks ≤ limit_over o lines issued) (tracked : tracker.0 / 256 ≤ limit_over o lines issued) (low : top o ≤ tracker.0) where
  abbrev n : ℕ
  n = issued_ticks m.ticks reading tracker.0

  bounds : (tracker.0 / 256 < n) × (n ≤ limit_over o lines issued + 1)
  bounds = issued-within m.ticks reading tracker.0 (limit_over o lines issued) ticks tracked (reading-within o lines issued)

  new-is : (x : AttemptId) (e : Epoch) → e.0 ≡ n * 256 + p.me → IsIssuedNow o issued lines x e
  new-is x e is = record {
    near = quotient (limit_over o lines issued) bounds.1;
    within = subst (λ b. e.0 / 256 ≤ b) (sym (limit-more o lines issued ((x, e) ∷ []))) (quotient (limit_over o lines issued) bounds.1);
    above = over (top o) low bounds.0;
  }
    where
      quotient : (b : ℕ) → n ≤ b + 1 → e.0 / 256 ≤ b + 1
      quotient b up = omega (arith, is, up, few)

      over : (a : ℕ) → a ≤ tracker.0 → tracker.0 / 256 < n → a < e.0
      over a k z = omega (arith, is, z, k)

  pub request-new : (x : AttemptId) (e : Epoch) → request_epoch p m reading tracker None ≡ Some e → IsIssuedNow o issued lines x e
  request-new x e h = by (nat_le n last_ticks) h
    where
      by : (b : Bool) → option_map (epoch_of_ticks p.me) (if b then Some n else None) ≡ Some e → IsIssuedNow o issued lines x e
      by true k = let same : epoch_of_ticks p.me n ≡ e = cc in new-is x e (sym (ap (λ z. z.0) same))
      by false k = let no : ⊥ = cc in absurd no

  -- where there is none, the ticks are spent
  pub request-none : request_epoch p m reading tracker None ≡ None → last_ticks < limit_over o lines issued + 1
  request-none h = by (nat_le n last_ticks) refl h
    where
      past : (k last b : ℕ) → nat_le k last ≡ false → k ≤ b → last < b
      past k last b p l =
          let q : last < k = grind (arith, nat_tests) in
          omega (arith, q, l)

      by : (b : Bool) → nat_le n last_ticks ≡ b → option_map (epoch_of_ticks p.me) (if b then Some n else None) ≡ None → last_ticks < limit_over o lines issued + 1
      by true e k = let no : ⊥ = cc in absurd no
      by false e k = past n last_ticks (limit_over o lines issued + 1) e bounds.1
