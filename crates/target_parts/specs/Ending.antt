-- What a whole turn comes to, once its parts are done.
use Rattle.std.proofs.Common.{ℕ, ◌≡◌, refl, sym, ap, subst, true, false, Option, Some, None, Result, Ok, Err}
use Rattle.std.specs.Prelude.{IfOk, IfErr, IfSome}
use Rattle.base_types.specs.declared.epoch.Epoch.{Epoch}
use Rattle.base_types.specs.declared.id.AttemptId.{AttemptId}
use Rattle.daos_model.specs.declared.durable.Durable.{Durable}
use Rattle.vos_store.specs.Calls.{State}
use Rattle.world_contents.specs.world_base.declared.did.Did.{Did}
use Rattle.world_contents.specs.world_base.Changes.{Change, Kept}
use Rattle.world_contents.specs.world_base.Turns.{CutShort, Reached, Whole}
use Rattle.target_parts.specs.declared.halt.Halt.{Halt}
use Rattle.target_parts.specs.declared.halt.Halt.TheVariants as halt
use Rattle.target_parts.specs.declared.stop.TargetStop.{TargetStop}
use Rattle.target_parts.specs.declared.stop.TargetStop.TheVariants as stop
use Rattle.target_parts.specs.Parts.{Now, Part, Partway, left_by}
use Rattle.target_parts.specs.Stops.{Turn, stop_memory, stop_of, stop_store}
use Rattle.target_parts.specs.Turning.{reached_on}
use Rattle.world_contents.specs.world_base.PathLaws.{whole-on}

-- a clock that tells its next reading gives that; another one gives some
pub some_reading : (next : Option ℕ) → (r : ℕ) × IfSome next (λ x. x ≡ r)
some_reading None = (0, tt)
some_reading (Some r) = (r, refl)

module _ {S : Type 0} (Next : S → Kept → Option Change → S → Type 0) (issued_at : S → Option (AttemptId × Epoch)) (start : S) (old : Kept) (new : Option Durable) (k : State) (finds : Durable → Type 0) where
  -- a turn that is done, of which what follows is told, or memory is wanting for that
  pub turn_said : (Done : Did → Kept → Type 0) (r : Result Did TargetStop) (told : Did) → IfOk r (λ did. did ≡ told) → IfErr r (λ e. e ≡ stop_memory)
      → Now new k (Done told) → Now new k (Partway Next start old) → Turn Next issued_at start old Done new k finds r
  turn_said Done (Ok did) told ok wanting done partway = subst (λ x. Now new k (Done x)) (sym ok) done
  turn_said Done (Err e) told ok wanting done partway = subst (λ x. Turn Next issued_at start old Done new k finds (Err x)) (sym wanting) partway

  -- a turn of which a part isn't done
  pub turn_halted : {T : Type 0} (Done : Did → Kept → Type 0) (Part-done : T → Kept → Type 0) (h : Halt) (issued : Option (AttemptId × Epoch)) (e : TargetStop)
      → ((last : S) (mid : Kept) → Reached Next start old last mid → issued ≡ issued_at last) → e ≡ stop_of h issued
      → Part Next start old Part-done new k finds (Err h) → Turn Next issued_at start old Done new k finds (Err e)
  turn_halted Done Part-done h issued e same is part = subst (λ x. Turn Next issued_at start old Done new k finds (Err x)) (sym is) (by h part)
    where
      by : (h : Halt) → Part Next start old Part-done new k finds (Err h) → Turn Next issued_at start old Done new k finds (Err (stop_of h issued))
      by halt.Stopped cut = record { cut = cut; issued_is = same cut.last cut.mid cut.reached; no_lines = refl }
      by halt.Memory partway = partway

  -- a turn that was cut, in which no epoch is issued
  pub turn_cut : (Done : Did → Kept → Type 0) (r : Result Did TargetStop) → ((s : S) → issued_at s ≡ None) → r ≡ Err (stop_of halt.Stopped None) → CutShort Next start old (left_by k finds) → Turn Next issued_at start old Done new k finds r
  turn_cut Done r never is cut = subst (λ x. Turn Next issued_at start old Done new k finds x) (sym is) (record { cut = cut; issued_is = sym (never cut.last); no_lines = refl })

  -- a turn for which memory was wanting
  pub turn_wanting : (Done : Did → Kept → Type 0) (r : Result Did TargetStop) → r ≡ Err stop_memory → Now new k (Partway Next start old) → Turn Next issued_at start old Done new k finds r
  turn_wanting Done r is partway = subst (λ x. Turn Next issued_at start old Done new k finds x) (sym is) partway

-- a turn that began earlier
pub turn_on : {S R : Type 0} (Next : S → Kept → Option Change → S → Type 0) (issued_at : S → Option (AttemptId × Epoch)) (Ends : S → Kept → R → Type 0) (ending : Did → R) (s t : S) (old mid : Kept)
    (new : Option Durable) (k : State) (finds : Durable → Type 0) (r : Result Did TargetStop) → Reached Next s old t mid
    → Turn Next issued_at t mid (λ did l. Whole Next Ends t mid l (ending did)) new k finds r
    → Turn Next issued_at s old (λ did l. Whole Next Ends s old l (ending did)) new k finds r
turn_on Next issued_at Ends ending s t old mid new k finds (Ok did) reached now = record {
  durable = now.durable;
  kept_is = now.kept_is;
  holds = whole-on Next Ends s t old mid _ (ending did) reached now.holds;
}
turn_on Next issued_at Ends ending s t old mid new k finds (Err (stop.Store issued lines)) reached cut = record {
  cut = record { last = cut.cut.last; mid = cut.cut.mid; reached = reached_on Next s old t mid cut.cut.last cut.cut.mid reached cut.cut.reached; cut = cut.cut.cut };
  issued_is = cut.issued_is;
  no_lines = cut.no_lines;
}
turn_on Next issued_at Ends ending s t old mid new k finds (Err (stop.Foreign at byte)) reached none = absurd none
turn_on Next issued_at Ends ending s t old mid new k finds (Err stop.Memory) reached now = record {
  durable = now.durable;
  kept_is = now.kept_is;
  holds = record { last = now.holds.last; reached = reached_on Next s old t mid now.holds.last _ reached now.holds.reached };
}

-- what is left of a turn that is whole is a turn partway
pub partway_of : {S R : Type 0} (Next : S → Kept → Option Change → S → Type 0) (Ends : S → Kept → R → Type 0) (start : S) (old : Kept) (new : Option Durable) (k : State) (left : R)
    → Now new k (λ l. Whole Next Ends start old l left) → Now new k (Partway Next start old)
partway_of Next Ends start old new k left now = record {
  durable = now.durable;
  kept_is = now.kept_is;
  holds = record { last = now.holds.last; reached = now.holds.reached };
}

-- where a turn isn't cut, a part that isn't done wanted memory
pub only_memory : (h : Halt) (issued : Option (AttemptId × Epoch)) (e : TargetStop) → e ≡ stop_of h issued → stop_store e ≡ false → h ≡ halt.Memory
only_memory halt.Stopped issued e is runs = let here : stop_store e ≡ true = ap stop_store is in let no : ⊥ = cc in absurd no
only_memory halt.Memory issued e is runs = refl

pub part_wanting : {S T : Type 0} (Next : S → Kept → Option Change → S → Type 0) (start : S) (old : Kept) (Done : T → Kept → Type 0) (new : Option Durable) (k : State) (finds : Durable → Type 0) (h : Halt)
    → h ≡ halt.Memory → Part Next start old Done new k finds (Err h) → Now new k (Partway Next start old)
part_wanting Next start old Done new k finds h is part = subst (λ x. Part Next start old Done new k finds (Err x)) is part
