-- What the calls of the store give, over plain variables.
use Rattle.std.proofs.Common.{ℕ, ◌≡◌, ◌<◌, ◌⊎◌, inl, inr, refl, sym, ◌∙◌, ◌≤◌, ◌+◌, ap, subst, Bool, false, Option, Some, Result, Ok, Err}
use Rattle.std.specs.Option.{option_map}
use Rattle.base_types.specs.Epochs.{lease_for}
use Rattle.daos_model.specs.declared.durable.Durable.{Durable}
use Rattle.daos_model.specs.Changes.{leased}
use Rattle.vos_store.specs.Calls.{Makes, State, Turns}
use Rattle.vos_store.specs.Refusals.{always_stop}
use Rattle.vos_store.specs.declared.refusal.Stopped.{Stopped}
use Rattle.world_contents.specs.world_base.Changes.{After, Before, Change, Extends, cost, made}
use Rattle.target_parts.specs.Covers.{CoversOrCut, WasExtended}
use Rattle.target_parts.specs.Parts.{WasCut, kept, left_by}

some-same : (d x : Durable) → Some x ≡ Some d → x ≡ d
some-same d x e = cc

-- what a change that was cut leaves
pub was_cut : (c : Change) (f : Durable → Durable) (d : Durable) (h k : State) (old : Option Durable) (was_stopped : Bool) (may finds : Durable → Type 0)
    → f d ≡ made c d → old ≡ Some d → ((x : Durable) → may x → x ≡ d)
    → ((x : Durable) → finds x → may x ⊎ ((was_stopped ≡ false) × (Some x ≡ option_map f old))) → h.free ≤ k.free + cost c → WasCut c (kept d h) (left_by k finds)
was_cut c f d h k old was_stopped may finds is at steady left free x found = (
  elim (left x.durable found.0) [
    | inl before ↦ Before (steady x.durable before)
    | inr after ↦ After (some-same (f d) x.durable (subst (λ o. Some x.durable ≡ option_map f o) at after.1) ∙ is)
  ],
  subst (λ n. h.free ≤ n + cost c) (sym found.1) free,
)

pub covers_or_cut : (ticks lease : ℕ) (d : Durable) (h k : State) (old new : Option Durable) (may finds : Durable → Type 0) (result : Result (Unit {0}) Stopped)
    → old ≡ Some d → ((x : Durable) → may x → x ≡ d) → Turns 0 always_stop result h k → Makes h.stopped always_stop (leased lease) result old new may finds
    → d.lease < ticks → lease_for ticks ≡ Some lease → CoversOrCut ticks d h new k finds result
unfolding leased
covers_or_cut ticks lease d h k old new may finds (Ok u) at steady t m low is =
    WasExtended lease low is (record { kept_is = m.done ∙ ap (option_map (leased lease)) at; free = t.free })
covers_or_cut ticks lease d h k old new may finds (Err e) at steady t m low is = record {
  lease = lease;
  low = low;
  lease_is = is;
  cut = was_cut (Extends lease) (leased lease) d h k old h.stopped may finds refl at steady m.left t.free;
}
