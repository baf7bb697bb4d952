-- A turn that changes nothing of what is kept.
use Rattle.std.proofs.Common.{◌≡◌, ◌∙◌, refl, sym, ap, subst, Option, Some, Result, Ok, Err}
use Rattle.std.specs.Prelude.{IfOk, IfErr}
use Rattle.daos_model.specs.declared.durable.Durable.{Durable}
use Rattle.vos_store.specs.Calls.{State}
use Rattle.world_base.specs.declared.did.Did.{Did}
use Rattle.world_base.specs.declared.target.TargetMemory.{TargetMemory}
use Rattle.world_base.specs.Changes.{Kept}
use Rattle.world_base.specs.PathLaws.{reached-here}
use Rattle.world_base.specs.Statuses.{Answered, EndsAs, IsDone, Looking, Looks, NoChange}
use Rattle.world_base.specs.Turns.{Whole}
use Rattle.target_parts.specs.declared.stop.TargetStop.{TargetStop}
use Rattle.target_parts.specs.Parts.{kept}
use Rattle.target_parts.specs.Stops.{Turn, never, stop_memory}
use Rattle.target_parts.specs.Turning.{now_partway, reached_silent, whole}

module _ (left_by : Kept → TargetMemory × Did) (d : Durable) (h : State) (new : Option Durable) (finds : Durable → Type 0) (n : TargetMemory) (at : new ≡ Some d) where
  abbrev Comes : Result Did TargetStop → Type 0
  Comes r = Turn NoChange never Looking (kept d h) (λ did l. Whole NoChange (EndsAs left_by) Looking (kept d h) l (n, did)) new h finds r

  -- it comes to this
  pub silent-done : (did : Did) → ◌≡◌ {A = TargetMemory × Did} (n, did) (left_by (kept d h)) → Comes (Ok did)
  silent-done did is = record {
    durable = d;
    kept_is = at;
    holds = whole NoChange (EndsAs left_by) Looking (kept d h) (kept d h) Answered (n, did) (reached_silent NoChange Looking (kept d h) Looking (kept d h) Answered (reached-here NoChange Looking (kept d h)) (Looks (kept d h)))
        (IsDone (kept d h) (n, did) is);
  }

  -- or memory is wanting
  pub silent-wanting : (r : Result Did TargetStop) → r ≡ Err stop_memory → Comes r
  silent-wanting r is = subst Comes (sym is) (now_partway NoChange Looking d h h new (record { kept_is = at; free = refl }))

  -- or this is told, where memory isn't wanting
  pub silent-said : (told : Did) (r : Result Did TargetStop) → IfOk r (λ did. did ≡ told) → IfErr r (λ e. e ≡ stop_memory) → ◌≡◌ {A = TargetMemory × Did} (n, told) (left_by (kept d h)) → Comes r
  silent-said told (Ok did) ok wanting is = silent-done did (ap {A = Did} {B = TargetMemory × Did} (λ x. (n, x)) ok ∙ is)
  silent-said told (Err e) ok wanting is = silent-wanting (Err e) (ap (λ x. Err x) wanting)
