-- What storing writes, or not, leaves of what a target knows.
use Rattle.std.proofs.Common.{ℕ, ◌≡◌, ◌/◌, ◌≤◌, ◌+◌, inl, inr, refl, ◌∙◌, subst, false, List, Option, Some, None, Result, Ok, Err}
use Rattle.std.specs.Prelude.{IfOk, OnErr}
use Rattle.base_types.specs.declared.entry.Entry.{Entry}
use Rattle.base_types.specs.declared.epoch.Epoch.{Epoch}
use Rattle.base_types.specs.declared.operation.MinorWrite.{MinorWrite}
use Rattle.base_types.specs.declared.outcome.FloorWhy.{FloorWhy}
use Rattle.base_types.specs.declared.outcome.Outcome.{Outcome}
use Rattle.base_types.specs.declared.shown.Shown.{Shown}
use Rattle.daos_model.specs.declared.durable.Durable.{Durable}
use Rattle.daos_model.specs.Changes.{prepared}
use Rattle.daos_model.specs.Durables.{entry_key, entry_of}
use Rattle.daos_model.specs.Ordered.{put}
use Rattle.vos_store.specs.Calls.{State}
use Rattle.vos_store.specs.Refusals.{says}
use Rattle.world_base.specs.declared.target.TargetMemory.{TargetMemory}
use Rattle.world_base.specs.declared.target.TargetPlan.{TargetPlan}
use Rattle.world_base.specs.Changes.{Kept, Prepares, cost}
use Rattle.target_parts.specs.declared.halt.Halt.{Halt}
use Rattle.target_parts.specs.declared.halt.Halt.TheVariants as halt
use Rattle.target_parts.specs.Halts.{halt_stop}
use Rattle.target_parts.specs.Parts.{WasAsked, WasCut, left_by}
use Rattle.target_parts.specs.KeepingLaws.{leads-prepared, leads-same}
use Rattle.target_parts.specs.Knowing.{LeadsWell}
use Rattle.target_writes.specs.Checks.{FindsSpace, IsRefusal, PreparesOrNot, entries_then}

module _ (t : TargetPlan) (opening : Epoch × FloorWhy) (first : Option Epoch) (stamps : List Shown) (e : Entry) (ws : List MinorWrite) (d : Durable) (k : State) (new : Option Durable) (finds : Durable → Type 0) where
  abbrev at_free : ℕ → Kept
  at_free f = record { durable = d; free = f }

  -- what checks left as it was may be told of what was before them
  pub prepares-moved : (p : Epoch × FloorWhy) (h j : State) (r : Result (Option Outcome) Halt) → p ≡ opening → j.free ≡ h.free → PreparesOrNot t p first stamps e ws d j new k finds r → PreparesOrNot t opening first stamps e ws d h new k finds r
  prepares-moved p h j (Ok None) same free x =
      (subst (λ f. FindsSpace t opening first e.epoch d stamps ws f) free (subst (λ o. FindsSpace t o first e.epoch d stamps ws j.free) same x.0), record { kept_is = x.1.kept_is; free = subst (λ f. f ≤ k.free + cost (Prepares e ws)) free x.1.free })
  prepares-moved p h j (Ok (Some how)) same free x =
      (subst (λ f. IsRefusal t opening first e.epoch d stamps ws f how) free (subst (λ o. IsRefusal t o first e.epoch d stamps ws j.free how) same x.0), record { kept_is = x.1.kept_is; free = x.1.free ∙ free })
  prepares-moved p h j (Err halt.Stopped) same free (inl asked) = inl (subst (λ f. WasAsked (at_free f) (left_by k finds)) free asked)
  prepares-moved p h j (Err halt.Stopped) same free (inr cut) = inr (subst (λ f. FindsSpace t opening first e.epoch d stamps ws f) free (subst (λ o. FindsSpace t o first e.epoch d stamps ws j.free) same cut.0), subst (λ f. WasCut (Prepares e ws) (at_free f) (left_by k finds)) free cut.1)
  prepares-moved p h j (Err halt.Memory) same free x = record { kept_is = x.kept_is; free = x.free ∙ free }

  -- what a target knows fits what it keeps then
  pub prepares-leads : (h : State) (m : TargetMemory) (es fs : List Entry) (r : Result (Option Outcome) Halt) → IfOk r (λ how. fs ≡ entries_then e how es) → OnErr r (fs ≡ es) → says halt_stop r ≡ false → PreparesOrNot t opening first stamps e ws d h new k finds r
      → entry_of d e.attempt ≡ None → e.epoch.0 / 256 ≤ m.ticks → LeadsWell t m es d → (x : Durable) × (new ≡ Some x) × LeadsWell t m fs x
  prepares-leads h m es fs (Ok None) entries same runs x absent heard leads =
      (prepared e ws d, x.1.kept_is, leads-same t m m (put entry_key e es) fs (prepared e ws d) refl entries (leads-prepared t e ws m es d absent heard leads))
  prepares-leads h m es fs (Ok (Some how)) entries same runs x absent heard leads = (d, x.1.kept_is, leads-same t m m es fs d refl entries leads)
  prepares-leads h m es fs (Err halt.Stopped) entries same runs x absent heard leads = let no : ⊥ = cc in absurd no
  prepares-leads h m es fs (Err halt.Memory) entries same runs x absent heard leads = (d, x.kept_is, leads-same t m m es fs d refl same leads)
