-- What checking writes and storing them comes to at each answer of the store.
use Rattle.std.proofs.Common.{◌≡◌, ◌<◌, ◌≤◌, ◌+◌, refl, sym, ◌∙◌, ap, subst, inl, inr, List, Option, Some, None, Result, Ok, Err}
use Rattle.std.specs.Prelude.{IfErr, IfOk}
use Rattle.base_types.specs.declared.entry.Entry.{Entry}
use Rattle.base_types.specs.declared.epoch.Epoch.{Epoch}
use Rattle.base_types.specs.declared.id.AttemptId.{AttemptId}
use Rattle.base_types.specs.declared.operation.MinorWrite.{MinorWrite}
use Rattle.base_types.specs.declared.outcome.Cause.{Cause}
use Rattle.base_types.specs.declared.outcome.FloorWhy.{FloorWhy}
use Rattle.base_types.specs.declared.outcome.Outcome.{Outcome}
use Rattle.base_types.specs.declared.outcome.Outcome.TheVariants as outcome
use Rattle.base_types.specs.declared.shown.Shown.{Shown}
use Rattle.daos_model.specs.declared.durable.Durable.{Durable}
use Rattle.daos_model.specs.Blocks.{blocks}
use Rattle.daos_model.specs.Changes.{prepared}
use Rattle.vos_store.specs.Calls.{State}
use Rattle.vos_store.specs.Conditions.{CanPrepare}
use Rattle.world_base.specs.declared.did.Did.{Did as DidOf}
use Rattle.world_base.specs.declared.target.TargetMemory.{TargetMemory}
use Rattle.world_base.specs.declared.target.TargetPlan.{TargetPlan}
use Rattle.world_base.specs.Changes.{Change, Kept, Prepares}
use Rattle.world_base.specs.Commits.{IsAllowed, IsRefusedBy, first_floor}
use Rattle.world_base.specs.Turns.{InChange, InQuestion, Reached, Whole}
use Rattle.target_parts.specs.declared.halt.Halt.{Halt}
use Rattle.target_parts.specs.declared.halt.Halt.TheVariants as halt
use Rattle.target_parts.specs.declared.stop.TargetStop.{TargetStop}
use Rattle.target_parts.specs.Ending.{partway_of, turn_said}
use Rattle.target_parts.specs.Parts.{Did, Now, Partway, Stays, kept}
use Rattle.target_parts.specs.Stops.{Turn, stop_memory, stop_of}
use Rattle.target_parts.specs.Turning.{now_partway, now_stays, reached_change, whole}
use Rattle.target_writes.specs.Checks.{ByCause, BySpace, CanStore, FindsSpace, IsRefusal, PreparesOrNot}
use Rattle.target_writes.specs.Writing.{floors_above}
use Rattle.world_base.specs.PathLaws.{reached-here}

-- ---- what `prepare` asks

pub can_prepare : (t : TargetPlan) (s : State) (e : Entry) (ws : List MinorWrite) (d : Durable) → CanStore e ws d → first_floor t s.opening e.epoch d ws ≡ None → CanPrepare s e ws d
can_prepare t s e ws d can floors = record {
  absent = can.absent;
  each = λ k w lt. record {
    enlisted = can.enlisted k w lt;
    above = floors_above t s.opening e.epoch d ws floors k w lt;
    new = can.new k w lt;
  };
  leased = can.leased;
}

-- ---- a turn in which writes are checked and stored

module _ {S : Type 0} (Next : S → Kept → Option Change → S → Type 0) (Ends : S → Kept → TargetMemory × DidOf → Type 0) (checking stored : S)
    (t : TargetPlan) (opening : Epoch × FloorWhy) (first : Option Epoch) (stamps : List Shown) (e : Entry) (ws : List MinorWrite) (ending : Outcome → TargetMemory × DidOf)
    (stores : (k : Kept) → IsAllowed t opening first e.epoch k.durable stamps ws → blocks ws ≤ k.free → Next checking k (Some (Prepares e ws)) stored)
    (refused : (k : Kept) (c : Cause) → IsRefusedBy t opening first e.epoch k.durable stamps ws c → Ends checking k (ending (outcome.Restart c)))
    (spaceless : (k : Kept) → IsAllowed t opening first e.epoch k.durable stamps ws → k.free < blocks ws → Ends checking k (ending (outcome.NoSpace t.me (blocks ws) k.free)))
    (d : Durable) (h : State)
  where
    stored-to : (k : State) → FindsSpace t opening first e.epoch d stamps ws h.free → h.free ≤ k.free + blocks ws → Reached Next checking (kept d h) stored (kept (prepared e ws d) k)
    stored-to k finds free =
        reached_change Next checking (kept d h) checking (kept d h) (Prepares e ws) stored (kept (prepared e ws d) k) (reached-here Next checking (kept d h)) (stores (kept d h) finds.allowed finds.space) refl free

    -- they were stored, and the turn ends so
    pub prepared-on : (k : State) (new : Option Durable) (left : TargetMemory × DidOf) → FindsSpace t opening first e.epoch d stamps ws h.free → Did (Prepares e ws) d h new k
        → Ends stored (kept (prepared e ws d) k) left → Now new k (λ l. Whole Next Ends checking (kept d h) l left)
    prepared-on k new left finds did ends = record {
      durable = prepared e ws d;
      kept_is = did.kept_is;
      holds = whole Next Ends checking (kept d h) (kept (prepared e ws d) k) stored left (stored-to k finds did.free) ends;
    }

    -- they were stored, and memory was wanting then
    pub prepared-partly : (k : State) (new : Option Durable) → FindsSpace t opening first e.epoch d stamps ws h.free → Did (Prepares e ws) d h new k → Now new k (Partway Next checking (kept d h))
    prepared-partly k new finds did = record {
      durable = prepared e ws d;
      kept_is = did.kept_is;
      holds = record { last = stored; reached = stored-to k finds did.free };
    }

    -- they were not
    pub prepared-not : (k : State) (new : Option Durable) (how : Outcome) → IsRefusal t opening first e.epoch d stamps ws h.free how → Stays d h new k → Now new k (λ l. Whole Next Ends checking (kept d h) l (ending how))
    prepared-not k new how (ByCause c by is) stays = record {
      durable = d;
      kept_is = stays.kept_is;
      holds = whole Next Ends checking (kept d h) (kept d k) checking (ending how)
          (now_stays (λ l. Reached Next checking (kept d h) checking l) d h k new stays (reached-here Next checking (kept d h)))
          (subst (λ o. Ends checking (kept d k) (ending o)) (sym is) (refused (kept d k) c by));
    }
    prepared-not k new how (BySpace allowed less is) stays = record {
      durable = d;
      kept_is = stays.kept_is;
      holds = whole Next Ends checking (kept d h) (kept d k) checking (ending how)
          (now_stays (λ l. Reached Next checking (kept d h) checking l) d h k new stays (reached-here Next checking (kept d h)))
          (subst (λ o. Ends checking (kept d k) (ending o)) (sym (is ∙ ap (λ n. outcome.NoSpace t.me (blocks ws) n) (sym stays.free)))
          (spaceless (kept d k) allowed (subst (λ n. n < blocks ws) (sym stays.free) less)));
    }

    -- ---- what is told

    -- of writes that were refused
    pub prepared-told : (issued_at : S → Option (AttemptId × Epoch)) (k : State) (new : Option Durable) (finds : Durable → Type 0) (how : Outcome) (left : TargetMemory) (told : DidOf) (result : Result DidOf TargetStop) → (left, told) ≡ ending how → IfOk result (λ did. did ≡ told)
        → IfErr result (λ stop. stop ≡ stop_memory) → IsRefusal t opening first e.epoch d stamps ws h.free how → Stays d h new k → Turn Next issued_at checking (kept d h) (λ did l. Whole Next Ends checking (kept d h) l (left, did)) new k finds result
    prepared-told issued_at k new finds how left told result same ok wanting by stays =
        let done = subst (λ x. Now new k (λ l. Whole Next Ends checking (kept d h) l x)) (sym same) (prepared-not k new how by stays) in
        turn_said Next issued_at checking (kept d h) new k finds (λ did l. Whole Next Ends checking (kept d h) l (left, did)) result told ok wanting done (partway_of Next Ends checking (kept d h) new k (left, told) done)

    -- of writes that were stored
    pub prepared-goes : (issued_at : S → Option (AttemptId × Epoch)) (k : State) (new : Option Durable) (finds : Durable → Type 0) (left : TargetMemory) (result : Result DidOf TargetStop) → IfOk result (λ did. Ends stored (kept (prepared e ws d) k) (left, did))
        → IfErr result (λ stop. stop ≡ stop_memory) → FindsSpace t opening first e.epoch d stamps ws h.free → Did (Prepares e ws) d h new k → Turn Next issued_at checking (kept d h) (λ did l. Whole Next Ends checking (kept d h) l (left, did)) new k finds result
    prepared-goes issued_at k new finds left (Ok did) ends wanting found made_so = prepared-on k new (left, did) found made_so ends
    prepared-goes issued_at k new finds left (Err stop) ends wanting found made_so =
        subst (λ x. Turn Next issued_at checking (kept d h) (λ did l. Whole Next Ends checking (kept d h) l (left, did)) new k finds (Err x)) (sym wanting) (prepared-partly k new found made_so)

    -- of checks or of storing that came to no end
    pub prepared-halted : (issued_at : S → Option (AttemptId × Epoch)) (k : State) (new : Option Durable) (finds : Durable → Type 0) (Done : DidOf → Kept → Type 0) (why : Halt) (issued : Option (AttemptId × Epoch)) (stop : TargetStop) → issued ≡ issued_at checking → stop ≡ stop_of why issued
        → PreparesOrNot t opening first stamps e ws d h new k finds (Err why) → Turn Next issued_at checking (kept d h) Done new k finds (Err stop)
    prepared-halted issued_at k new finds Done why issued stop known is came = subst (λ x. Turn Next issued_at checking (kept d h) Done new k finds (Err x)) (sym is) (by why came)
      where
        by : (why : Halt) → PreparesOrNot t opening first stamps e ws d h new k finds (Err why) → Turn Next issued_at checking (kept d h) Done new k finds (Err (stop_of why issued))
        by halt.Stopped (inl asked) = record { cut = record { last = checking; mid = kept d h; reached = reached-here Next checking (kept d h); cut = InQuestion asked }; issued_is = known; no_lines = refl }
        by halt.Stopped (inr cut) = record {
          cut = record { last = checking; mid = kept d h; reached = reached-here Next checking (kept d h); cut = InChange (Prepares e ws) stored (stores (kept d h) cut.0.allowed cut.0.space) cut.1 };
          issued_is = known;
          no_lines = refl;
        }
        by halt.Memory stays = now_partway Next checking d h k new stays
