-- Whole turns in which target 0 hears a Snap, from their parts.
use Rattle.std.proofs.Common.{ℕ, ◌≡◌, ◌/◌, refl, sym, ◌∙◌, ap, subst, true, false, List, [], ◌∷◌, ◌++◌, append-nil, map, Option, None, Some, Result, Ok, Err}
use Rattle.std.specs.Prelude.{IfOk, IfErr, if◌then◌else◌}
use Rattle.base_types.specs.declared.epoch.Epoch.{Epoch}
use Rattle.base_types.specs.declared.id.AttemptId.{AttemptId}
use Rattle.base_types.specs.declared.id.ContId.{ContId}
use Rattle.base_types.specs.declared.key.Key.{Key}
use Rattle.base_types.specs.declared.outcome.Outcome.{Outcome}
use Rattle.base_types.specs.declared.outcome.Outcome.TheVariants.{Committed, EpochsSpent}
use Rattle.base_types.specs.declared.report.Line.{Line}
use Rattle.base_types.specs.declared.report.Line.TheVariants as line
use Rattle.base_messages.specs.declared.message.Message.{Message}
use Rattle.base_messages.specs.declared.message.Message.TheVariants as message
use Rattle.base_messages.specs.declared.message.Post.{Post}
use Rattle.daos_model.specs.declared.durable.Durable.{Durable}
use Rattle.daos_model.specs.Changes.{created, frozen}
use Rattle.daos_model.specs.Durables.{is_frozen}
use Rattle.snap_core.specs.Snaps.{SnapOf, SnapStep, all_others, are_all_others, begun, begun_with, remembered, step_of, told}
use Rattle.vos_store.specs.Calls.{State}
use Rattle.world_base.specs.declared.did.Did.{Did as DidOf}
use Rattle.world_base.specs.declared.target.TargetMemory.{TargetMemory}
use Rattle.world_base.specs.declared.target.TargetPlan.{TargetPlan}
use Rattle.world_base.specs.Changes.{Change, Creates, Kept}
use Rattle.world_base.specs.CutTurns.{issued_by_freeze}
use Rattle.world_base.specs.Requests.{request_epoch, with_ticks}
use Rattle.world_base.specs.Snapshots as snap
use Rattle.world_base.specs.Snapshots.{collects, follows, freeze_to, is_held_by_all, new_collection, others, refusal_of, to_actor}
use Rattle.world_base.specs.Turns.{Whole}
use Rattle.target_parts.specs.declared.halt.Halt.{Halt}
use Rattle.target_parts.specs.declared.halt.Halt.TheVariants as halt
use Rattle.target_parts.specs.declared.stop.TargetStop.{TargetStop}
use Rattle.target_parts.specs.declared.stop.TargetStop.TheVariants as stop
use Rattle.target_parts.specs.Covers.{CoverCut, Covers, ReadiesOrCut}
use Rattle.target_parts.specs.Parts.{Did, Stays, WasCut, kept, left_by}
use Rattle.target_parts.specs.Stops.{stop_memory, stop_of}
use Rattle.target_snaps.specs.declared.freezing.Froze.{Froze}
use Rattle.target_snaps.specs.declared.freezing.Froze.TheVariants as froze
use Rattle.target_snaps.specs.declared.request.ContRequest.{ContRequest}
use Rattle.target_snaps.specs.Freezing.{FreezesOrCut}
use Rattle.target_snaps.specs.FreezeTurns.{freeze_lines, refusal_by}
use Rattle.target_snaps.specs.HeldTurns.{IsSnapsOf}
use Rattle.target_snaps.specs.SnapTurns.{SnapComes, SnapTurn}
use Rattle.target_snaps.proofs.FreezeParts.{freeze-covered, freeze-cut, freeze-uncovered, frozen-comes}
use Rattle.target_snaps.proofs.Lining.{comes-change, comes-here, comes-stays, cut-in_change, lined-cut, lined-told, lined-wanting}
use Rattle.target_snaps.proofs.There.{is-frozen_then}

-- ---- what is frozen

-- it is frozen then
pub froze-there : (p : TargetPlan) (c : ContId) (s : Epoch) (d : Durable) (h k : State) (new : Option Durable) (finds : Durable → Type 0) (f : Froze) → refusal_by p f ≡ None → FreezesOrCut c s d h new k finds (Ok f) → (x : Durable) × (new ≡ Some x) × (is_frozen x c s ≡ true)
froze-there p c s d h k new finds froze.Anew none did = (frozen c s d, did.1.kept_is, is-frozen_then c s d)
froze-there p c s d h k new finds froze.Before none did = (d, did.2.kept_is, did.1)
froze-there p c s d h k new finds (froze.Refused e) none did = let no : ⊥ = cc in absurd no

-- ---- what is begun

module _ (p : TargetPlan) (s : SnapOf) (own : IsSnapsOf p s) where
  pub alone-same : are_all_others s.me s.targets 0 ≡ is_held_by_all p 0
  unfolding are_all_others
  alone-same = ap (λ me. are_all_others me s.targets 0) own.me ∙ ap (λ n. are_all_others p.me n 0) own.targets

  pub others-same : all_others s.me s.targets ≡ others p
  unfolding all_others
  others-same = ap (λ me. all_others me s.targets) own.me ∙ ap (λ n. all_others p.me n) own.targets

  -- the others are asked
  pub begun-others : (q : ContRequest) (e : Epoch) (name : Key) (tracker : Epoch) (m : Message) → m ≡ message.Snap q.attempt q.cont name tracker → is_held_by_all p 0 ≡ false
      → begun q.from m e s ≡ begun_with (new_collection q.attempt q.from q.cont e (Some name)) (freeze_to q.attempt q.cont e) s
  unfolding begun
  begun-others q e name tracker m is more =
      ap (λ x. begun q.from x e s) is
      ∙ ap (λ b. if b then step_of s (told q.from q.attempt e Committed) else begun_with (new_collection q.attempt q.from q.cont e (Some name)) (freeze_to q.attempt q.cont e) s) (alone-same ∙ more)

pub begun-own : (p : TargetPlan) (s t : SnapOf) (own : IsSnapsOf p s) (q : ContRequest) (e : Epoch) (name : Key) (tracker : Epoch) (m : Message) (posts : List Post) → m ≡ message.Snap q.attempt q.cont name tracker → is_held_by_all p 0 ≡ false
    → step_of t posts ≡ begun q.from m e s → IsSnapsOf p t
begun-own p s t own q e name tracker m posts is more heard =
    subst (IsSnapsOf p) (sym (ap (λ (k : SnapStep). k.snaps) (heard ∙ begun-others p s own q e name tracker m is more))) (record { me = own.me; targets = own.targets })

-- ---- turns

module _ (p : TargetPlan) (m : TargetMemory) (reading : ℕ) (q : ContRequest) (tracker : Epoch) (name : Key) (old : Kept) (s : Epoch) (d : Durable) (h k : State) (new : Option Durable) (finds : Durable → Type 0) where
  abbrev Next : snap.FreezeStage → Kept → Option Change → snap.FreezeStage → Type 0
  Next = snap.FreezeNext p m reading tracker None q.cont (is_held_by_all p 0)

  abbrev Ends : snap.FreezeStage → Kept → TargetMemory × DidOf → Type 0
  Ends = snap.SnapEnds p m reading tracker q.attempt q.cont name q.from

  abbrev Done : TargetMemory → DidOf → Kept → Type 0
  Done left did l = Whole Next Ends snap.Asked old l (left, did)

  abbrev issues : snap.FreezeStage → List (AttemptId × Epoch)
  issues = issued_by_freeze q.attempt None

  -- memory was wanting
  pub snap-wanting : (left : TargetMemory) (last : snap.FreezeStage) (ls : List Line) (result : Result DidOf TargetStop) → new ≡ Some d → SnapComes p m reading q tracker old last (kept d k) ls → result ≡ Err stop_memory → SnapTurn p m reading q tracker name old new k finds left result
  snap-wanting left last ls result at came is = lined-wanting Next p.me snap.Asked old issues (Done left) last d k new finds ls result is at came

  -- ---- the only target

  module _ (lines : List Line) (alone : is_held_by_all p 0 ≡ true) (came : SnapComes p m reading q tracker old (snap.Frozen s lines) (kept d h) lines) where
    -- creating it was cut
    pub lone-cut : (left : TargetMemory) (result : Result DidOf TargetStop) → WasCut (Creates q.cont s) (kept d h) (left_by k finds) → result ≡ Err (stop.Store (Some (q.attempt, s)) lines) → SnapTurn p m reading q tracker name old new k finds left result
    lone-cut left result cut is =
        lined-cut Next issues p.me snap.Asked old (Done left) new k finds (Some (q.attempt, s)) lines result is
        (cut-in_change Next p.me snap.Asked old issues (left_by k finds) (Some (q.attempt, s)) (snap.Frozen s lines) (kept d h) lines lines (Creates q.cont s) (snap.Created s lines) came (snap.CreatesIt (kept d h) s lines alone) cut refl (sym (append-nil lines)))

    pub lone-comes : Did (Creates q.cont s) d h new k → SnapComes p m reading q tracker old (snap.Created s lines) (kept (created q.cont s d) k) lines
    lone-comes did = comes-change Next p.me snap.Asked old (snap.Frozen s lines) (kept d h) lines lines (Creates q.cont s) (snap.Created s lines) (kept (created q.cont s d) k) came (snap.CreatesIt (kept d h) s lines alone) refl did.free (append-nil lines)

    -- it is created, and the client is told
    pub lone-told : Did (Creates q.cont s) d h new k → (result : Result DidOf TargetStop) (shown : List Line) → shown ≡ lines ++ line.Snapshot name q.cont s ∷ [] → IfOk result (λ did. did ≡ follows (to_actor q.from (message.Ended q.attempt (Some s) Committed)) shown (Some (q.attempt, s)))
        → IfErr result (λ e. e ≡ stop_memory) → SnapTurn p m reading q tracker name old new k finds (with_ticks s m) result
    lone-told did result shown all ok wanting =
        lined-told Next p.me snap.Asked old issues Ends (λ y. (with_ticks s m, y)) (snap.Created s lines) (created q.cont s d) k new finds lines result (follows (to_actor q.from (message.Ended q.attempt (Some s) Committed)) shown (Some (q.attempt, s))) ok wanting did.kept_is (lone-comes did)
        (snap.IsAlone (kept (created q.cont s d) k) s lines _ (ap (λ ls. (with_ticks s m, follows (to_actor q.from (message.Ended q.attempt (Some s) Committed)) ls (Some (q.attempt, s)))) all))

    -- or memory is wanting for that
    pub lone-wanting : Did (Creates q.cont s) d h new k → (left : TargetMemory) (result : Result DidOf TargetStop) → result ≡ Err stop_memory → SnapTurn p m reading q tracker name old new k finds left result
    lone-wanting did left result is = lined-wanting Next p.me snap.Asked old issues (Done left) (snap.Created s lines) (created q.cont s d) k new finds lines result is did.kept_is (lone-comes did)

  -- ---- from the freeze on

  module _ (is : request_epoch p m reading tracker None ≡ Some s) (came : SnapComes p m reading q tracker old (snap.Freezing s) (kept d h) []) where
    -- the store stopped as it froze, or memory was wanting
    pub snap-halted : (left : TargetMemory) (why : Halt) (result : Result DidOf TargetStop) → FreezesOrCut q.cont s d h new k finds (Err why) → result ≡ Err (stop_of why (Some (q.attempt, s))) → SnapTurn p m reading q tracker name old new k finds left result
    snap-halted left halt.Stopped result gone halted =
        lined-cut Next issues p.me snap.Asked old (Done left) new k finds (Some (q.attempt, s)) [] result halted (freeze-cut p m reading tracker None q.cont (is_held_by_all p 0) q.attempt s is old d h k new finds came gone)
    snap-halted left halt.Memory result gone halted =
        lined-wanting Next p.me snap.Asked old issues (Done left) (snap.Freezing s) d k new finds [] result halted gone.kept_is (comes-stays Next p.me snap.Asked old (snap.Freezing s) [] d h k new gone came)

    -- it is refused, and the client is told
    pub snap-refused : (f : Froze) (how : Outcome) (lines : List Line) (result : Result DidOf TargetStop) → refusal_by p f ≡ Some how → lines ≡ [] → FreezesOrCut q.cont s d h new k finds (Ok f)
        → IfOk result (λ did. did ≡ follows (to_actor q.from (message.Ended q.attempt (Some s) how)) lines (Some (q.attempt, s))) → IfErr result (λ e. e ≡ stop_memory) → SnapTurn p m reading q tracker name old new k finds (with_ticks s m) result
    snap-refused froze.Anew how lines result why empty gone ok wanting = let bad : ⊥ = cc in absurd bad
    snap-refused froze.Before how lines result why empty gone ok wanting = let bad : ⊥ = cc in absurd bad
    snap-refused (froze.Refused e) how lines result why empty gone ok wanting =
        lined-told Next p.me snap.Asked old issues Ends (λ y. (with_ticks s m, y)) (snap.Freezing s) d k new finds [] result (follows (to_actor q.from (message.Ended q.attempt (Some s) how)) lines (Some (q.attempt, s))) ok wanting gone.1.kept_is
        (comes-stays Next p.me snap.Asked old (snap.Freezing s) [] d h k new gone.1 came)
        (snap.IsRefused (kept d k) s how _ (ap (refusal_of p) gone.0 ∙ why) (ap (λ ls. (with_ticks s m, follows (to_actor q.from (message.Ended q.attempt (Some s) how)) ls (Some (q.attempt, s)))) empty))

    pub snap-frozen : (f : Froze) → refusal_by p f ≡ None → FreezesOrCut q.cont s d h new k finds (Ok f) → (y : Durable) → new ≡ Some y → SnapComes p m reading q tracker old (snap.Frozen s (freeze_lines p q.cont s f)) (kept y k) (freeze_lines p q.cont s f)
    snap-frozen f none gone y at =
        let went = frozen-comes p m reading tracker None q.cont (is_held_by_all p 0) q.attempt s is old d h k new finds came f none gone in
        let same : went.0 ≡ y = (let both : Some went.0 ≡ Some y = sym went.1 ∙ at in cc) in
        subst (λ z. SnapComes p m reading q tracker old (snap.Frozen s (freeze_lines p q.cont s f)) (kept z k) (freeze_lines p q.cont s f)) same went.2

-- the others are asked to freeze it too
pub snap-asks : (p : TargetPlan) (m : TargetMemory) (reading : ℕ) (q : ContRequest) (tracker : Epoch) (name : Key) (old : Kept) (e : Epoch) (d : Durable) (h : State) (new : Option Durable) (finds : Durable → Type 0) (s t : SnapOf) (own : IsSnapsOf p s) (lines : List Line) (asks : Message) (told-tracker : Epoch) (posts : List Post)
    → new ≡ Some d → SnapComes p (remembered m s) reading q tracker old (snap.Frozen e lines) (kept d h) lines → asks ≡ message.Snap q.attempt q.cont name told-tracker → is_held_by_all p 0 ≡ false → step_of t posts ≡ begun q.from asks e s
    → SnapTurn p (remembered m s) reading q tracker name old new h finds (remembered (with_ticks e m) t) (Ok (follows posts lines (Some (q.attempt, e))))
snap-asks p m reading q tracker name old e d h new finds s t own lines asks told-tracker posts at came is more heard = record {
  durable = d;
  kept_is = at;
  holds = record {
    last = snap.Frozen e lines;
    reached = record { did = came.did; path = came.path };
    ends = snap.AsksOthers (kept d h) e lines _ more (
        ap (λ (k : SnapStep). (remembered (with_ticks e m) k.snaps, follows k.posts lines (Some (q.attempt, e)))) (heard ∙ begun-others p s own q e name told-tracker asks is more)
        ∙ ap (λ ts. (collects (new_collection q.attempt q.from q.cont e (Some name)) (with_ticks e (remembered m s)), follows (map (freeze_to q.attempt q.cont e) ts) lines (Some (q.attempt, e)))) (others-same p s own)
        );
  };
}

-- ---- the epoch

module _ (p : TargetPlan) (m : TargetMemory) (reading : ℕ) (q : ContRequest) (tracker : Epoch) (name : Key) (d : Durable) (h k : State) (new : Option Durable) (finds : Durable → Type 0) where
  -- extending the lease for it was cut
  pub snap-unready : (left : TargetMemory) (s : Epoch) (result : Result DidOf TargetStop) → request_epoch p m reading tracker None ≡ Some s → CoverCut (s.0 / 256) d h (left_by k finds) → result ≡ Err (stop_of halt.Stopped None)
      → SnapTurn p m reading q tracker name (kept d h) new k finds left result
  snap-unready left s result is cut stopped =
      lined-cut (snap.FreezeNext p m reading tracker None q.cont (is_held_by_all p 0)) (issued_by_freeze q.attempt None) p.me snap.Asked (kept d h)
      (λ did l. Whole (snap.FreezeNext p m reading tracker None q.cont (is_held_by_all p 0)) (snap.SnapEnds p m reading tracker q.attempt q.cont name q.from) snap.Asked (kept d h) l (left, did)) new k finds None [] result stopped
      (freeze-uncovered p m reading tracker None q.cont (is_held_by_all p 0) q.attempt s is d h (left_by k finds) cut)

  -- none is left
  pub snap-spent : (left : TargetMemory) (lines : List Line) (result : Result DidOf TargetStop) → request_epoch p m reading tracker None ≡ None → lines ≡ [] → Stays d h new k → left ≡ m → IfOk result (λ did. did ≡ follows (to_actor q.from (message.Ended q.attempt None EpochsSpent)) lines None)
      → IfErr result (λ e. e ≡ stop_memory) → SnapTurn p m reading q tracker name (kept d h) new k finds left result
  snap-spent left lines result none empty stays same ok wanting =
      lined-told (snap.FreezeNext p m reading tracker None q.cont (is_held_by_all p 0)) p.me snap.Asked (kept d h) (issued_by_freeze q.attempt None) (snap.SnapEnds p m reading tracker q.attempt q.cont name q.from) (λ y. (left, y)) snap.Asked d k new finds [] result
      (follows (to_actor q.from (message.Ended q.attempt None EpochsSpent)) lines None) ok wanting stays.kept_is
      (comes-stays (snap.FreezeNext p m reading tracker None q.cont (is_held_by_all p 0)) p.me snap.Asked (kept d h) snap.Asked [] d h k new stays (comes-here (snap.FreezeNext p m reading tracker None q.cont (is_held_by_all p 0)) p.me snap.Asked (kept d h)))
      (snap.IsSpent (kept d k) _ none (ap (λ ls. (left, follows (to_actor q.from (message.Ended q.attempt None EpochsSpent)) ls None)) empty ∙ ap (λ y. (y, follows (to_actor q.from (message.Ended q.attempt None EpochsSpent)) [] None)) same))

  -- it is known, and the lease covers it
  pub snap-ready : (s : Epoch) → request_epoch p m reading tracker None ≡ Some s → Covers (s.0 / 256) d h new k → (y : Durable) → new ≡ Some y → SnapComes p m reading q tracker (kept d h) (snap.Freezing s) (kept y k) []
  snap-ready s is covers = freeze-covered p m reading tracker None q.cont (is_held_by_all p 0) q.attempt s is d h new k covers

-- ---- what is known of a request's epoch

pub readied-as : (wanted : Option Epoch) (d : Durable) (h : State) (new : Option Durable) (k : State) (finds : Durable → Type 0) (p o : Option Epoch) → p ≡ o → ReadiesOrCut wanted d h new k finds (Ok p) → ReadiesOrCut wanted d h new k finds (Ok o)
readied-as wanted d h new k finds p o is said = subst (λ x. ReadiesOrCut wanted d h new k finds (Ok x)) is said
