-- What a prune that was cut leaves.
use Rattle.std.proofs.Common.{ℕ, ◌≡◌, ◌≤◌, ◌+◌, ◌⊎◌, inl, inr, sym, subst, Bool, false, Option, Some}
use Rattle.base_types.specs.declared.epoch.Epoch.{Epoch}
use Rattle.base_types.specs.declared.id.ContId.{ContId}
use Rattle.daos_model.specs.declared.durable.Durable.{Durable}
use Rattle.vos_store.specs.Calls.{CutPrune, State}
use Rattle.world_base.specs.Changes.{Before, InPart, Prunes}
use Rattle.target_parts.specs.Parts.{WasCut, kept, left_by}

pub prune-cut : (c : ContId) (upto : Epoch) (n : ℕ) (d : Durable) (h k : State) (old : Option Durable) (was_stopped : Bool) (may finds : Durable → Type 0) → old ≡ Some d → ((x : Durable) → may x → x ≡ d)
    → ((x e : Durable) → finds x → old ≡ Some e → may x ⊎ ((was_stopped ≡ false) × CutPrune c upto n e x)) → h.free ≤ k.free + 0 → WasCut (Prunes c upto n) (kept d h) (left_by k finds)
prune-cut c upto n d h k old was_stopped may finds at steady left free x found = (
  elim (left x.durable d found.0 at) [
    | inl before ↦ Before (steady x.durable before)
    | inr part ↦ InPart part.1
  ],
  subst (λ f. h.free ≤ f + 0) (sym found.1) free,
)
