-- What stands of a target once it has frozen, created or pruned.
use Rattle.std.proofs.Common.{ℕ, ◌≡◌, ◌≤◌, ◌/◌, refl, sym, ◌∙◌, ap, subst, Bool, true, false, find, All, List, Option, Some, is_some, Result, Ok, Err}
use Rattle.std.specs.Option.{ForSome}
use Rattle.base_types.specs.declared.entry.Entry.{Entry}
use Rattle.base_types.specs.declared.epoch.Epoch.{Epoch}
use Rattle.base_types.specs.declared.id.AttemptId.{AttemptId}
use Rattle.base_types.specs.declared.id.ContId.{ContId}
use Rattle.daos_model.specs.declared.durable.Durable.{Durable}
use Rattle.daos_model.specs.Changes.{created, frozen, leased, marked, pruned, with_versions}
use Rattle.daos_model.specs.Durables.{entry_of, is_enlisted, is_entry_of}
use Rattle.vos_store.specs.Calls.{State}
use Rattle.vos_store.specs.Conditions.{CanFreeze}
use Rattle.vos_store.specs.Refusals.{always_stop}
use Rattle.vos_store.specs.declared.refusal.Stopped.{Stopped}
use Rattle.world_base.specs.Changes.{Creates, Prunes}
use Rattle.target_parts.specs.Keeping.{MadeOrCut}
use Rattle.world_base.specs.declared.target.TargetMemory.{TargetMemory}
use Rattle.world_base.specs.declared.target.TargetPlan.{TargetPlan}
use Rattle.target_parts.specs.declared.halt.Halt.{Halt}
use Rattle.target_parts.specs.declared.halt.Halt.TheVariants as halt
use Rattle.target_parts.specs.declared.knows.Knows.{Knows}
use Rattle.target_parts.specs.Covers.{Covers}
use Rattle.target_parts.specs.Halts.{halt_stop}
use Rattle.target_parts.specs.KeepingLaws.{ask-stays, enlisted-leased}
use Rattle.target_parts.specs.Knowing.{IsHeard, IsOpenHere, LeadsWell, memory_of}
use Rattle.target_parts.specs.Parts.{Runs}
use Rattle.target_parts.specs.Readying.{leases}
use Rattle.target_parts.specs.Running.{for_some_on}
use Rattle.target_parts.specs.Standing.{IsTarget, target-on, target-stopped}
use Rattle.target_snaps.specs.declared.freezing.Froze.{Froze}
use Rattle.target_snaps.specs.declared.freezing.Froze.TheVariants as froze
use Rattle.target_snaps.specs.Freezing.{FreezesOrCut}
use Rattle.target_snaps.proofs.Containers.{enlisted-frozen, enlisted-pruned, frozen-leaves, heard-pruned}

-- ---- what is known fits

open-alike : (me : ℕ) (a : AttemptId) (d x : Durable) → x.entries ≡ d.entries → IsOpenHere me a d → IsOpenHere me a x
unfolding entry_of
open-alike me a d x same o = record { entry = o.entry; here = ap (find (is_entry_of a)) same ∙ o.here; unsettled = o.unsettled; led = o.led }

leads-alike : (t : TargetPlan) (m : TargetMemory) (es : List Entry) (d x : Durable) → x.entries ≡ d.entries → (IsHeard m.ticks d → IsHeard m.ticks x) → ((c : ContId) → is_enlisted x c ≡ is_enlisted d c) → LeadsWell t m es d → LeadsWell t m es x
leads-alike t m es d x same heard enlisted k = record {
  entries = k.entries ∙ sym same;
  rows = record {
    order = k.rows.order;
    decided = λ a i. open-alike t.me a d x same (k.rows.decided a i);
    undecided = λ u i. open-alike t.me u.attempt d x same (k.rows.undecided u i);
    apart = k.rows.apart;
  };
  heard = heard k.heard;
  asks = λ p i. ask-stays d x p.ask enlisted (k.asks p i);
}

pub leads-frozen : (t : TargetPlan) (m : TargetMemory) (es : List Entry) (c : ContId) (s : Epoch) (d : Durable) → LeadsWell t m es d → LeadsWell t m es (frozen c s d)
leads-frozen t m es c s d =
    leads-alike t m es d (frozen c s d) (frozen-leaves (λ x. x.entries) c s d refl)
    (λ h. record { versions = subst (λ vs. All (λ v. v.epoch.0 / 256 ≤ m.ticks) vs) (sym (frozen-leaves (λ x. x.versions) c s d refl)) h.versions; leased = subst (λ n. m.ticks ≤ n) (sym (frozen-leaves (λ x. x.lease) c s d refl)) h.leased })
    (enlisted-frozen c s d)

pub leads-created : (t : TargetPlan) (m : TargetMemory) (es : List Entry) (c : ContId) (s : Epoch) (d : Durable) → LeadsWell t m es d → LeadsWell t m es (created c s d)
unfolding created is_enlisted
leads-created t m es c s d = leads-alike t m es d (created c s d) refl (λ h. record { versions = h.versions; leased = h.leased }) (λ k. refl)

entries-pruned : (c : ContId) (upto : Epoch) (n : ℕ) (d : Durable) → (pruned c upto n d).entries ≡ d.entries
unfolding pruned with_versions marked
entries-pruned c upto n d = refl

pub leads-pruned : (t : TargetPlan) (m : TargetMemory) (es : List Entry) (c : ContId) (upto : Epoch) (n : ℕ) (d : Durable) → LeadsWell t m es d → LeadsWell t m es (pruned c upto n d)
leads-pruned t m es c upto n d = leads-alike t m es d (pruned c upto n d) (entries-pruned c upto n d) (heard-pruned m.ticks c upto n d) (enlisted-pruned c upto n d)

-- ---- a target goes on

-- a call of its store, which leaves what is known fitting
pub target-called : {T E : Type 0} (t : TargetPlan) (stop : E → Bool) (result : Result T E) (h k : State) (old new : Option Durable) (knows : Knows) → IsTarget t h old knows → h.stopped ≡ false → Runs stop result h k old new
    → ((d : Durable) → old ≡ Some d → (x : Durable) × (new ≡ Some x) × (LeadsWell t (memory_of knows) knows.entries.items d → LeadsWell t (memory_of knows) knows.entries.items x)) → IsTarget t k new knows
target-called t stop result h k old new knows x running runs fits =
    target-on t h k old new knows knows x runs.targets x.own
    (λ _. for_some_on old new (LeadsWell t (memory_of knows) knows.entries.items) runs.told (λ d at. let fit = fits d at in (fit.0, fit.1, fit.2 (x.leads running d at))))

-- it froze a container, or not
pub target-froze : (t : TargetPlan) (c : ContId) (s : Epoch) (result : Result Froze Halt) (h k : State) (old new : Option Durable) (finds : Durable → Type 0) (knows : Knows) → IsTarget t h old knows → h.stopped ≡ false → Runs halt_stop result h k old new
    → ((d : Durable) → old ≡ Some d → FreezesOrCut c s d h new k finds result) → IsTarget t k new knows
target-froze t c s (Err halt.Stopped) h k old new finds knows x running runs gone = target-stopped t halt_stop (Err halt.Stopped) h k old new knows knows x runs refl x.own
target-froze t c s (Err halt.Memory) h k old new finds knows x running runs gone = target-called t halt_stop (Err halt.Memory) h k old new knows x running runs (λ d at. (d, (gone d at).kept_is, λ leads. leads))
target-froze t c s (Ok froze.Anew) h k old new finds knows x running runs gone =
    target-called t halt_stop (Ok froze.Anew) h k old new knows x running runs (λ d at. (frozen c s d, (gone d at).1.kept_is, leads-frozen t (memory_of knows) knows.entries.items c s d))
target-froze t c s (Ok froze.Before) h k old new finds knows x running runs gone = target-called t halt_stop (Ok froze.Before) h k old new knows x running runs (λ d at. (d, (gone d at).2.kept_is, λ leads. leads))
target-froze t c s (Ok (froze.Refused e)) h k old new finds knows x running runs gone = target-called t halt_stop (Ok (froze.Refused e)) h k old new knows x running runs (λ d at. (d, (gone d at).1.kept_is, λ leads. leads))

pub covered-leased : (s n : ℕ) (d : Durable) → s ≤ n → s ≤ (leased n d).lease
unfolding leased
covered-leased s n d le = le

-- a container that is here can be frozen at an epoch that the lease covers now
pub can-freeze : (c : ContId) (s : Epoch) (h k : State) (old new : Option Durable) → ForSome old (λ d. is_enlisted d c ≡ true) → is_some new ≡ is_some old → ((d : Durable) → old ≡ Some d → Covers (s.0 / 256) d h new k) → ForSome new (CanFreeze c s)
can-freeze c s h k old new enlisted told covers =
    for_some_on old new (CanFreeze c s) told (λ d at.
    let lease = leases (s.0 / 256) d h new k (covers d at) in
    (leased lease.lease d, lease.kept_is, record { enlisted = enlisted-leased lease.lease c d ∙ enlisted d at; leased = covered-leased (s.0 / 256) lease.lease d lease.covers }))

-- it created a snapshot, or that was cut
pub target-created : (t : TargetPlan) (c : ContId) (s : Epoch) (result : Result (Unit {0}) Stopped) (h k : State) (old new : Option Durable) (finds : Durable → Type 0) (knows : Knows) → IsTarget t h old knows → h.stopped ≡ false → Runs always_stop result h k old new
    → ((d : Durable) → old ≡ Some d → MadeOrCut (Creates c s) d h new k finds result) → IsTarget t k new knows
target-created t c s (Err e) h k old new finds knows x running runs made = target-stopped t always_stop (Err e) h k old new knows knows x runs refl x.own
target-created t c s (Ok u) h k old new finds knows x running runs made = target-called t always_stop (Ok u) h k old new knows x running runs (λ d at. (created c s d, (made d at).kept_is, leads-created t (memory_of knows) knows.entries.items c s d))

-- it pruned a container, or that was cut
pub target-pruned : (t : TargetPlan) (c : ContId) (upto : Epoch) (n : ℕ) (result : Result (Unit {0}) Stopped) (h k : State) (old new : Option Durable) (finds : Durable → Type 0) (knows : Knows) → IsTarget t h old knows → h.stopped ≡ false → Runs always_stop result h k old new
    → ((d : Durable) → old ≡ Some d → MadeOrCut (Prunes c upto n) d h new k finds result) → IsTarget t k new knows
target-pruned t c upto n (Err e) h k old new finds knows x running runs made = target-stopped t always_stop (Err e) h k old new knows knows x runs refl x.own
target-pruned t c upto n (Ok u) h k old new finds knows x running runs made = target-called t always_stop (Ok u) h k old new knows x running runs (λ d at. (pruned c upto n d, (made d at).kept_is, leads-pruned t (memory_of knows) knows.entries.items c upto n d))
