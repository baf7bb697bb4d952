-- Whole turns in which target 0 hears a client's Prune, from their parts.
use Rattle.std.proofs.Common.{ℕ, ◌≡◌, ◌/◌, ◌≤◌, refl, sym, ◌∙◌, ap, subst, Bool, true, false, List, [], map, Option, None, Some, is_some, Result, Ok, Err}
use Rattle.std.specs.Prelude.{IfOk, IfErr, if◌then◌else◌}
use Rattle.std.specs.Option.{ForSome}
use Rattle.base_types.specs.declared.epoch.Epoch.{Epoch}
use Rattle.base_types.specs.declared.id.AttemptId.{AttemptId}
use Rattle.base_types.specs.declared.id.ContId.{ContId}
use Rattle.base_types.specs.declared.outcome.Outcome.TheVariants.{Committed, EpochsSpent}
use Rattle.base_types.specs.declared.report.Line.{Line}
use Rattle.base_messages.specs.declared.message.Message.{Message}
use Rattle.base_messages.specs.declared.message.Message.TheVariants as message
use Rattle.base_messages.specs.declared.message.Post.{Post}
use Rattle.daos_model.specs.declared.durable.Durable.{Durable}
use Rattle.daos_model.specs.Durables.{is_enlisted}
use Rattle.snap_core.specs.Snaps.{SnapOf, SnapStep, begun, begun_with, remembered, step_of, told}
use Rattle.vos_store.specs.Calls.{State}
use Rattle.vos_store.specs.declared.refusal.Stopped.{Stopped}
use Rattle.world_base.specs.declared.did.Did.{Did as DidOf}
use Rattle.world_base.specs.declared.target.TargetMemory.{TargetMemory}
use Rattle.world_base.specs.declared.target.TargetPlan.{TargetPlan}
use Rattle.world_base.specs.Changes.{Change, Kept}
use Rattle.world_base.specs.CutTurns.{issued_by_prune}
use Rattle.world_base.specs.Requests.{request_epoch, with_ticks}
use Rattle.world_base.specs.Roles.{with_unsettled}
use Rattle.world_base.specs.Snapshots as snap
use Rattle.world_base.specs.Snapshots.{collects, follows, is_held_by_all, new_collection, others, prune_to, to_actor}
use Rattle.world_base.specs.Turns.{Whole}
use Rattle.target_parts.specs.declared.halt.Halt.TheVariants as halt
use Rattle.target_parts.specs.declared.knows.Knows.{Knows}
use Rattle.target_parts.specs.declared.stop.TargetStop.{TargetStop}
use Rattle.target_parts.specs.declared.stop.TargetStop.TheVariants as stop
use Rattle.target_parts.specs.Covers.{CoverCut, Covers}
use Rattle.target_parts.specs.Knowing.{IsBeside, memory_of}
use Rattle.target_parts.specs.KnowsLaws.{memory-beside}
use Rattle.target_parts.specs.Parts.{Stays, kept, left_by}
use Rattle.target_parts.specs.Running.{for_some_on}
use Rattle.target_parts.specs.Stops.{stop_memory, stop_of}
use Rattle.target_snaps.specs.declared.request.ContRequest.{ContRequest}
use Rattle.target_snaps.specs.AggregateTurns.{AggregateComes, AggregateTurn}
use Rattle.target_snaps.specs.HeldTurns.{IsSnapsOf}
use Rattle.target_snaps.specs.PruneTurns.{PrunesOrCut, PrunesSo}
use Rattle.target_snaps.specs.Settling.{SettlesOrCut}
use Rattle.target_snaps.proofs.Lining.{comes-here, comes-stays, lined-cut, lined-told, lined-wanting}
use Rattle.target_snaps.proofs.PruneParts.{prune-covered, prune-uncovered, pruned-comes, pruned-cut, settled-cut}
use Rattle.target_snaps.proofs.PruneTurns.{idle-keeps}
use Rattle.target_snaps.proofs.SnapTurns.{alone-same, others-same}

-- what is known once what was decided is settled
pub settled-known : (m : TargetMemory) (old new : Knows) (e : Epoch) → with_ticks e m ≡ memory_of old → IsBeside old new → new.leader ≡ record old.leader { decided = [] } → memory_of new ≡ with_unsettled [] (with_ticks e m)
settled-known m old new e known beside leader = memory-beside old new (record old.leader { decided = [] }) beside leader ∙ ap (with_unsettled []) (sym known)

-- a container stays here, and the lease covers the epoch
pub settled-here : (c : ContId) (g : Epoch) (xs : List AttemptId) (h k : State) (old new : Option Durable) (finds : Durable → Type 0) → ForSome old (λ d. (is_enlisted d c ≡ true) × (g.0 / 256 ≤ d.lease)) → is_some new ≡ is_some old → ((d : Durable) → old ≡ Some d → SettlesOrCut xs d h new k finds (Ok tt))
    → ForSome new (λ x. (is_enlisted x c ≡ true) × (g.0 / 256 ≤ x.lease))
settled-here c g xs h k old new finds here told settles =
    for_some_on old new (λ x. (is_enlisted x c ≡ true) × (g.0 / 256 ≤ x.lease)) told (λ d at.
    let now = settles d at in
    (now.durable, now.kept_is, idle-keeps c (g.0 / 256) xs [] (kept d h) (kept now.durable k) now.holds (here d at)))

module _ (p : TargetPlan) (m : TargetMemory) (reading : ℕ) (q : ContRequest) (tracker : Epoch) (number : ℕ) (old : Kept) (g : Epoch) (d : Durable) (h k : State) (new : Option Durable) (finds : Durable → Type 0) (left : TargetMemory) where
  abbrev Next : snap.PruneStage → Kept → Option Change → snap.PruneStage → Type 0
  Next = snap.PruneNext p m reading tracker None q.cont number

  abbrev Ends : snap.PruneStage → Kept → TargetMemory × DidOf → Type 0
  Ends = snap.AggregateEnds p m reading tracker q.attempt q.cont q.from

  abbrev Done : DidOf → Kept → Type 0
  Done did l = Whole Next Ends snap.Asked old l (left, did)

  abbrev issues : snap.PruneStage → List (AttemptId × Epoch)
  issues = issued_by_prune q.attempt None

  -- settling was cut
  pub aggregate-unsettled : (xs : List AttemptId) (result : Result DidOf TargetStop) (e : Stopped) → AggregateComes p m reading q tracker number old (snap.Settling g xs) (kept d h) [] → SettlesOrCut xs d h new k finds (Err e) → result ≡ Err (stop_of halt.Stopped (Some (q.attempt, g)))
      → AggregateTurn p m reading q tracker number old new k finds left result
  aggregate-unsettled xs result e came settles is =
      lined-cut Next issues p.me snap.Asked old Done new k finds (Some (q.attempt, g)) [] result is (settled-cut p m reading tracker None q.cont number q.attempt g old xs (kept d h) came (left_by k finds) settles)

  module _ (came : AggregateComes p m reading q tracker number old (snap.Settling g []) (kept d h) []) where
    -- the prune isn't made, since the store stopped or memory was wanting
    pub aggregate-halted : (result : Result DidOf TargetStop) (why : TargetStop) → PrunesOrCut p q.cont g number (Some (q.attempt, g)) d h new k finds (Err why) → result ≡ Err why → AggregateTurn p m reading q tracker number old new k finds left result
    aggregate-halted result (stop.Store shown lines) cut is =
        lined-cut Next issues p.me snap.Asked old Done new k finds (Some (q.attempt, g)) lines result (is ∙ ap (λ o. Err (stop.Store o lines)) cut.0)
        (pruned-cut p m reading tracker None q.cont number q.attempt g old d h k new finds lines came cut.1)
    aggregate-halted result (stop.Foreign at byte) cut is = absurd cut
    aggregate-halted result stop.Memory stays is =
        lined-wanting Next p.me snap.Asked old issues Done (snap.Settling g []) d k new finds [] result is stays.kept_is (comes-stays Next p.me snap.Asked old (snap.Settling g []) [] d h k new stays came)

    -- it is pruned, and then memory is wanting
    pub aggregate-wanting : (lines : List Line) (result : Result DidOf TargetStop) → PrunesSo p q.cont g number d h new k lines → result ≡ Err stop_memory → AggregateTurn p m reading q tracker number old new k finds left result
    aggregate-wanting lines result prunes is =
        let went = pruned-comes p m reading tracker None q.cont number q.attempt g old d h k new finds lines came prunes in
        lined-wanting Next p.me snap.Asked old issues Done (snap.Pruned g lines) went.0 k new finds lines result is went.1 went.2

    -- the others are asked, or the client is told
    pub aggregate-whole : (lines : List Line) (did : DidOf) → PrunesSo p q.cont g number d h new k lines → ((l : Kept) → Ends (snap.Pruned g lines) l (left, did)) → AggregateTurn p m reading q tracker number old new k finds left (Ok did)
    aggregate-whole lines did prunes ends =
        let went = pruned-comes p m reading tracker None q.cont number q.attempt g old d h k new finds lines came prunes in
        record { durable = went.0; kept_is = went.1; holds = record { last = snap.Pruned g lines; reached = record { did = went.2.did; path = went.2.path }; ends = ends (kept went.0 k) } }

-- ---- what is begun

module _ (p : TargetPlan) (s t : SnapOf) (own : IsSnapsOf p s) (q : ContRequest) (g : Epoch) (asks : Message) (tracker : Epoch) (posts : List Post) (is : asks ≡ message.Prune q.attempt q.cont (Some tracker) None) (heard : step_of t posts ≡ begun q.from asks g s) where
  abbrev pub begun_so : Bool → SnapStep
  begun_so b = if b then step_of s (told q.from q.attempt g Committed) else begun_with (new_collection q.attempt q.from q.cont g None) (prune_to q.attempt q.cont g) s

  pub begun-prune : step_of t posts ≡ begun_so (is_held_by_all p 0)
  unfolding begun
  begun-prune = heard ∙ ap (λ x. begun q.from x g s) is ∙ ap begun_so (alone-same p s own)

  pub begun-stays : IsSnapsOf p t
  begun-stays = subst (IsSnapsOf p) (sym (ap (λ (k : SnapStep). k.snaps) begun-prune)) (elim (is_held_by_all p 0) as (λ b. IsSnapsOf p (begun_so b).snaps) [ true ↦ own | false ↦ record { me = own.me; targets = own.targets } ])

  -- it ends with that
  pub begun-ends : (m left : TargetMemory) (reading : ℕ) (read-tracker : Epoch) (lines : List Line) (l : Kept) → left ≡ remembered (with_unsettled [] (with_ticks g m)) t
      → snap.AggregateEnds p (remembered m s) reading read-tracker q.attempt q.cont q.from (snap.Pruned g lines) l (left, follows posts lines (Some (q.attempt, g)))
  begun-ends m left reading read-tracker lines l known = by (is_held_by_all p 0) refl begun-prune
    where
      by : (b : Bool) → is_held_by_all p 0 ≡ b → step_of t posts ≡ begun_so b → snap.AggregateEnds p (remembered m s) reading read-tracker q.attempt q.cont q.from (snap.Pruned g lines) l (left, follows posts lines (Some (q.attempt, g)))
      by true alone began = snap.IsAlone l g lines _ alone (ap (λ x. (x, follows posts lines (Some (q.attempt, g)))) known ∙ ap (λ (k : SnapStep). (remembered (with_unsettled [] (with_ticks g m)) k.snaps, follows k.posts lines (Some (q.attempt, g)))) began)
      by false more began =
          snap.AsksOthers l g lines _ more (
          ap (λ x. (x, follows posts lines (Some (q.attempt, g)))) known ∙ ap (λ (k : SnapStep). (remembered (with_unsettled [] (with_ticks g m)) k.snaps, follows k.posts lines (Some (q.attempt, g)))) began
          ∙ ap (λ ts. (collects (new_collection q.attempt q.from q.cont g None) (with_unsettled [] (with_ticks g (remembered m s))), follows (map (prune_to q.attempt q.cont g) ts) lines (Some (q.attempt, g)))) (others-same p s own)
          )

-- ---- the epoch

module _ (p : TargetPlan) (m : TargetMemory) (reading : ℕ) (q : ContRequest) (tracker : Epoch) (number : ℕ) (d : Durable) (h k : State) (new : Option Durable) (finds : Durable → Type 0) where
  -- extending the lease for it was cut
  pub aggregate-unready : (left : TargetMemory) (g : Epoch) (result : Result DidOf TargetStop) → request_epoch p m reading tracker None ≡ Some g → CoverCut (g.0 / 256) d h (left_by k finds) → result ≡ Err (stop_of halt.Stopped None)
      → AggregateTurn p m reading q tracker number (kept d h) new k finds left result
  aggregate-unready left g result is cut stopped =
      lined-cut (snap.PruneNext p m reading tracker None q.cont number) (issued_by_prune q.attempt None) p.me snap.Asked (kept d h)
      (λ did l. Whole (snap.PruneNext p m reading tracker None q.cont number) (snap.AggregateEnds p m reading tracker q.attempt q.cont q.from) snap.Asked (kept d h) l (left, did)) new k finds None [] result stopped
      (prune-uncovered p m reading tracker None q.cont number q.attempt g is d h (left_by k finds) cut)

  -- none is left
  pub aggregate-spent : (left : TargetMemory) (lines : List Line) (result : Result DidOf TargetStop) → request_epoch p m reading tracker None ≡ None → lines ≡ [] → Stays d h new k → left ≡ m → IfOk result (λ did. did ≡ follows (to_actor q.from (message.Ended q.attempt None EpochsSpent)) lines None)
      → IfErr result (λ e. e ≡ stop_memory) → AggregateTurn p m reading q tracker number (kept d h) new k finds left result
  aggregate-spent left lines result none empty stays same ok wanting =
      lined-told (snap.PruneNext p m reading tracker None q.cont number) p.me snap.Asked (kept d h) (issued_by_prune q.attempt None) (snap.AggregateEnds p m reading tracker q.attempt q.cont q.from) (λ y. (left, y)) snap.Asked d k new finds [] result
      (follows (to_actor q.from (message.Ended q.attempt None EpochsSpent)) lines None) ok wanting stays.kept_is
      (comes-stays (snap.PruneNext p m reading tracker None q.cont number) p.me snap.Asked (kept d h) snap.Asked [] d h k new stays (comes-here (snap.PruneNext p m reading tracker None q.cont number) p.me snap.Asked (kept d h)))
      (snap.IsSpent (kept d k) _ none (ap (λ ls. (left, follows (to_actor q.from (message.Ended q.attempt None EpochsSpent)) ls None)) empty ∙ ap (λ y. (y, follows (to_actor q.from (message.Ended q.attempt None EpochsSpent)) [] None)) same))

  -- it is known, and the lease covers it
  pub aggregate-ready : (g : Epoch) → request_epoch p m reading tracker None ≡ Some g → Covers (g.0 / 256) d h new k → (y : Durable) → new ≡ Some y → AggregateComes p m reading q tracker number (kept d h) (snap.Settling g m.leader.decided) (kept y k) []
  aggregate-ready g is covers = prune-covered p m reading tracker None q.cont number q.attempt g is d h new k covers
