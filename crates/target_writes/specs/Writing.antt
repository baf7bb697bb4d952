-- What the checks of writes find, write by write.
use Rattle.std.proofs.Common.{ℕ, ◌≡◌, ◌<◌, ◌+◌, ◌++◌, refl, sym, ◌∙◌, ap, true, false, nat_le, List, [], ◌∷◌, length, take, drop, get_or, All, Some, None, arith}
use Rattle.std.specs.Prelude.{if◌then◌else◌}
use Rattle.std.proofs.lemmas.Bool.Decides.{nat_tests}
use Rattle.std.proofs.lemmas.List.{take-append-drop}
use Rattle.std.proofs.lemmas.List.Elements.{All-cons}
use Rattle.base_types.specs.declared.epoch.Epoch.{Epoch}
use Rattle.base_types.specs.declared.operation.MinorWrite.{MinorWrite}
use Rattle.base_types.specs.declared.outcome.Cause.TheVariants.{Floor}
use Rattle.base_types.specs.declared.outcome.FloorWhy.{FloorWhy}
use Rattle.base_types.specs.declared.shown.Shown.{Shown}
use Rattle.base_types.specs.Operations.{write_path}
use Rattle.model_laws.specs.Lists.{drop-item}
use Rattle.daos_model.specs.declared.durable.Durable.{Durable}
use Rattle.vos_stamp.specs.Stamps.{IsShown}
use Rattle.vos_store.specs.Answers.{floor_of}
use Rattle.world_base.specs.declared.target.TargetPlan.{TargetPlan}
use Rattle.world_base.specs.Commits.{FirstRead, NoReads, first_floor, or_else}

-- no floor refuses, so each write is above its own
pub floors_above : (t : TargetPlan) (opening : Epoch × FloorWhy) (e : Epoch) (d : Durable) (ws : List MinorWrite) → first_floor t opening e d ws ≡ None
    → All (λ w. (floor_of opening d (write_path w.write).cont).0.0 < e.0) ws
unfolding first_floor
floors_above t opening e d [] none = λ k x lt. absurd (omega arith)
floors_above t opening e d (w ∷ ws) none =
    elim (nat_le e.0 (floor_of opening d (write_path w.write).cont).0.0) as (λ b. nat_le e.0 (floor_of opening d (write_path w.write).cont).0.0 ≡ b
    → or_else (if b then Some (Floor t.me (floor_of opening d (write_path w.write).cont).0 (floor_of opening d (write_path w.write).cont).1) else None) (first_floor t opening e d ws) ≡ None
    → All (λ w. (floor_of opening d (write_path w.write).cont).0.0 < e.0) (w ∷ ws)) [
      | true ↦ λ is found. absurd (let n : ⊥ = cc in n)
      | false ↦ λ is rest.
          All-cons (λ w. (floor_of opening d (write_path w.write).cont).0.0 < e.0) w ws (grind (arith, nat_tests)) (floors_above t opening e d ws rest)
    ] refl none

-- a later read that is found for a write is shown, where none stands against the writes before it
pub read_found : (e : Epoch) (stamps : List Shown) (ws : List MinorWrite) (i : ℕ) (w : MinorWrite) (r : Shown) → NoReads e stamps (take i ws) → i < length ws → w ≡ get_or ws i w
    → IsShown (write_path w.write) e.0 stamps r → FirstRead e stamps ws r
read_found e stamps ws i w r none lt is shown = record {
  before = take i ws;
  w = w;
  after = drop (i + 1) ws;
  among = sym (take-append-drop i ws) ∙ ap (λ xs. take i ws ++ xs) (drop-item ws i w lt is);
  none_before = none;
  shown = shown;
}
