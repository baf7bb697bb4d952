-- What is said of a closed pool that is opened again is said of the pool that was closed.
use Rattle.std.proofs.Common.{◌≡◌, ◌+◌, ◌<◌, ◌^◌, true, inl, inr, sym, subst}
use Rattle.std.specs.Prelude.{◌⊎◌, Option, Some, OnOk, Result, Ok, Err, is_some}
use Rattle.std.specs.Option.{ForSome}
use Rattle.daos_model.specs.declared.durable.Durable.{Durable}
use Rattle.daos_model.specs.Changes.{reopened}
use Rattle.vos_store.specs.Calls.{Finds, Opens, State}
use Rattle.vos_store.specs.declared.refusal.ReopenNo.{ReopenNo}

opens_still : (result : Result (Unit {0}) ReopenNo) (h k : State) → Opens result (record h { stopped = true }) k → Opens result h k
opens_still result h k o = record {
  faults = o.faults;
  burns = o.burns;
  fuse = o.fuse;
  tells_fuse = o.tells_fuse;
  left = o.left;
  may_fail = o.may_fail;
  sure = o.sure;
  unfailing = o.unfailing;
  stops = o.stops;
  cause = o.cause;
  targets = o.targets;
}

-- an opening of a pool that was stopped for it
pub opens_closed : (result : Result (Unit {0}) ReopenNo) (h c k : State) → c ≡ record h { stopped = true } → Opens result c k → Opens result h k
opens_closed result h c k is o = opens_still result h k (subst (λ (s : State). Opens result s k) is o)

module _ (closed old new : Option Durable) (left may may' : Durable → Type 0) (same : closed ≡ old) (found : (x : Durable) → left x → may x) where
  abbrev OneOf : (Durable → Type 0) → Type 0
  OneOf P = (d : Durable) → new ≡ Some d → (x : Durable) × P x × (d ≡ reopened x)

  one_of : (result : Result (Unit {0}) ReopenNo) → OnOk result (OneOf left) → OnOk result (OneOf may)
  one_of (Ok x) each = λ d is. let f = each d is in (f.0, found f.0 f.1, f.2)
  one_of (Err e) each = each

  or_one : (x : Durable) → left x ⊎ ((y : Durable) × left y × (x ≡ reopened y)) → may x ⊎ ((y : Durable) × may y × (x ≡ reopened y))
  or_one x (inl it) = inl (found x it)
  or_one x (inr it) = inr (it.0, found it.0 it.1, it.2)

  -- it finds what was left of the pool
  pub finds_closed : (result : Result (Unit {0}) ReopenNo) → Finds result closed new left may' → Finds result old new may may'
  finds_closed result f = record {
    told = subst (λ (o : Option Durable). is_some new ≡ is_some o) same f.told;
    found = one_of result f.found;
    left = λ x it. or_one x (f.left x it);
  }

  -- its incarnations may rise
  pub may_rise : ForSome old (λ _. (x : Durable) → may x → x.incarnation + 1 < 2 ^ 64) → ForSome closed (λ _. (x : Durable) → left x → x.incarnation + 1 < 2 ^ 64)
  may_rise each = subst (λ (o : Option Durable). ForSome o (λ _. (x : Durable) → left x → x.incarnation + 1 < 2 ^ 64)) (sym same) (λ d is x it. each d is x (found x it))
