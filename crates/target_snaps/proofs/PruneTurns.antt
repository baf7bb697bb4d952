-- Whole turns in which a target hears target 0's Prune, from their parts.
use Rattle.std.proofs.Common.{ℕ, ◌≡◌, ◌/◌, ◌≤◌, refl, sym, ◌∙◌, ap, subst, true, List, [], Option, None, Some, is_some, Result, Ok, Err}
use Rattle.std.specs.Prelude.{IfOk, IfErr}
use Rattle.std.specs.Option.{ForSome}
use Rattle.base_types.specs.declared.entry.Settle.TheVariants.{Commit}
use Rattle.base_types.specs.declared.id.ContId.{ContId}
use Rattle.daos_model.specs.Changes.{leased}
use Rattle.daos_model.specs.Durables.{is_enlisted}
use Rattle.world_base.specs.ChangeLaws.{lease-settled}
use Rattle.world_base.specs.PathLaws.{reached-keeps}
use Rattle.target_parts.specs.KeepingLaws.{enlisted-leased, enlisted-settled}
use Rattle.target_parts.specs.Running.{for_some_on}
use Rattle.target_snaps.proofs.Standing.{covered-leased}
use Rattle.base_types.specs.declared.epoch.Epoch.{Epoch}
use Rattle.base_types.specs.declared.id.AttemptId.{AttemptId}
use Rattle.base_types.specs.declared.report.Line.{Line}
use Rattle.base_messages.specs.declared.message.Message.TheVariants as message
use Rattle.daos_model.specs.declared.durable.Durable.{Durable}
use Rattle.snap_core.specs.Snaps.{SnapOf, remembered}
use Rattle.vos_store.specs.Calls.{State}
use Rattle.vos_store.specs.declared.refusal.Stopped.{Stopped}
use Rattle.world_base.specs.declared.did.Did.{Did as DidOf}
use Rattle.world_base.specs.declared.target.TargetMemory.{TargetMemory}
use Rattle.world_base.specs.declared.target.TargetPlan.{TargetPlan}
use Rattle.world_base.specs.Changes.{Change, Kept, Steps}
use Rattle.world_base.specs.CutTurns.{issued_by_prune}
use Rattle.world_base.specs.Idle.{IdleNext, SettlesFirst}
use Rattle.world_base.specs.Requests.{with_ticks}
use Rattle.world_base.specs.Roles.{with_unsettled}
use Rattle.world_base.specs.Snapshots as snap
use Rattle.world_base.specs.Snapshots.{follows, to_actor}
use Rattle.world_base.specs.Turns.{Reached, Whole}
use Rattle.target_parts.specs.declared.halt.Halt.TheVariants as halt
use Rattle.target_parts.specs.declared.knows.Knows.{Knows}
use Rattle.target_parts.specs.declared.stop.TargetStop.{TargetStop}
use Rattle.target_parts.specs.declared.stop.TargetStop.TheVariants as stop
use Rattle.target_parts.specs.Covers.{CoverCut, Covers, heard_of}
use Rattle.target_parts.specs.Knowing.{IsBeside, memory_of}
use Rattle.target_parts.specs.KnowsLaws.{memory-beside, with_clock}
use Rattle.target_parts.specs.Parts.{Now, kept, left_by}
use Rattle.target_parts.specs.Readying.{leases}
use Rattle.target_parts.specs.Stops.{stop_memory, stop_of}
use Rattle.target_snaps.specs.declared.request.ContRequest.{ContRequest}
use Rattle.target_snaps.specs.Lined.{HasCome}
use Rattle.target_snaps.specs.PruneTurns.{PruneTurn, PrunesOrCut, PrunesSo}
use Rattle.target_snaps.specs.Settling.{SettlesOrCut}
use Rattle.target_snaps.proofs.Lining.{comes-stays, lined-cut, lined-told, lined-wanting}
use Rattle.target_snaps.proofs.PruneParts.{prune-covered, prune-uncovered, pruned-comes, pruned-cut, settled-comes, settled-cut}

-- what is known once an epoch was heard of and what was decided is settled
pub known-settled : (old mid new : Knows) (e : Epoch) (s : SnapOf) → mid ≡ with_clock (heard_of (Some e) old.hlc) old → IsBeside mid new → new.leader ≡ record mid.leader { decided = [] } → remembered (memory_of new) s ≡ with_unsettled [] (with_ticks e (remembered (memory_of old) s))
known-settled old mid new e s heard beside leader =
    ap (λ x. remembered x s) (memory-beside mid new (record mid.leader { decided = [] }) beside leader)
    ∙ ap (λ (k : Knows). remembered (record (memory_of k) { leader = record k.leader { decided = [] } }) s) heard

module _ (p : TargetPlan) (m : TargetMemory) (reading : ℕ) (q : ContRequest) (g : Epoch) (number : ℕ) (d : Durable) (h k : State) (new : Option Durable) (finds : Durable → Type 0) (left : TargetMemory) where
  abbrev Next : snap.PruneStage → Kept → Option Change → snap.PruneStage → Type 0
  Next = snap.PruneNext p m reading g (Some g) q.cont number

  abbrev Ends : snap.PruneStage → Kept → TargetMemory × DidOf → Type 0
  Ends = snap.PruneEnds m q.attempt q.from

  abbrev Done : DidOf → Kept → Type 0
  Done did l = Whole Next Ends snap.Asked (kept d h) l (left, did)

  -- extending the lease was cut
  pub prune-unheard : (result : Result DidOf TargetStop) → CoverCut (g.0 / 256) d h (left_by k finds) → result ≡ Err (stop_of halt.Stopped None) → PruneTurn p m reading q g number d h new k finds left result
  prune-unheard result cut is =
      lined-cut Next (issued_by_prune q.attempt (Some g)) p.me snap.Asked (kept d h) Done new k finds None [] result is (prune-uncovered p m reading g (Some g) q.cont number q.attempt g refl d h (left_by k finds) cut)

  module _ (mid : Option Durable) (j : State) (covers : Covers (g.0 / 256) d h mid j) (xs : List AttemptId) (decided : xs ≡ m.leader.decided) where
    came : (y : Durable) → mid ≡ Some y → HasCome Next p.me snap.Asked (kept d h) (snap.Settling g xs) (kept y j) []
    came y at = subst (λ ds. HasCome Next p.me snap.Asked (kept d h) (snap.Settling g ds) (kept y j) []) (sym decided) (prune-covered p m reading g (Some g) q.cont number q.attempt g refl d h mid j covers y at)

    -- settling was cut
    pub prune-unsettled : (result : Result DidOf TargetStop) (e : Stopped) → ((y : Durable) → mid ≡ Some y → SettlesOrCut xs y j new k finds (Err e)) → result ≡ Err (stop_of halt.Stopped None) → PruneTurn p m reading q g number d h new k finds left result
    prune-unsettled result e settles is =
        let lease = leases (g.0 / 256) d h mid j covers in
        lined-cut Next (issued_by_prune q.attempt (Some g)) p.me snap.Asked (kept d h) Done new k finds None [] result is
        (settled-cut p m reading g (Some g) q.cont number q.attempt g (kept d h) xs _ (came _ lease.kept_is) (left_by k finds) (settles _ lease.kept_is))

    module _ (last : Option Durable) (i : State) (done : (y : Durable) → mid ≡ Some y → Now last i (λ l. HasCome Next p.me snap.Asked (kept d h) (snap.Settling g []) l [])) where
      here : Now last i (λ l. HasCome Next p.me snap.Asked (kept d h) (snap.Settling g []) l [])
      here = let lease = leases (g.0 / 256) d h mid j covers in done _ lease.kept_is

      -- the prune isn't made, since the store stopped or memory was wanting
      pub prune-halted : (result : Result DidOf TargetStop) (why : TargetStop) → ((y : Durable) → last ≡ Some y → PrunesOrCut p q.cont g number None y i new k finds (Err why)) → result ≡ Err why → PruneTurn p m reading q g number d h new k finds left result
      prune-halted result (stop.Store shown lines) prunes is =
          let cut = prunes here.durable here.kept_is in
          lined-cut Next (issued_by_prune q.attempt (Some g)) p.me snap.Asked (kept d h) Done new k finds None lines result (is ∙ ap (λ o. Err (stop.Store o lines)) cut.0)
          (pruned-cut p m reading g (Some g) q.cont number q.attempt g (kept d h) here.durable i k new finds lines here.holds cut.1)
      prune-halted result (stop.Foreign at byte) prunes is = absurd (prunes here.durable here.kept_is)
      prune-halted result stop.Memory prunes is =
          let stays = prunes here.durable here.kept_is in
          lined-wanting Next p.me snap.Asked (kept d h) (issued_by_prune q.attempt (Some g)) Done (snap.Settling g []) here.durable k new finds [] result is stays.kept_is
          (comes-stays Next p.me snap.Asked (kept d h) (snap.Settling g []) [] here.durable i k new stays here.holds)

      -- target 0 is told
      pub prune-told : (result : Result DidOf TargetStop) (lines : List Line) → ((y : Durable) → last ≡ Some y → PrunesSo p q.cont g number y i new k lines) → left ≡ with_unsettled [] (with_ticks g m)
          → IfOk result (λ did. did ≡ follows (to_actor q.from (message.Held q.attempt None)) lines None) → IfErr result (λ e. e ≡ stop_memory) → PruneTurn p m reading q g number d h new k finds left result
      prune-told result lines prunes known ok wanting =
          let went = pruned-comes p m reading g (Some g) q.cont number q.attempt g (kept d h) here.durable i k new finds lines here.holds (prunes here.durable here.kept_is) in
          lined-told Next p.me snap.Asked (kept d h) (issued_by_prune q.attempt (Some g)) Ends (λ did. (left, did)) (snap.Pruned g lines) went.0 k new finds lines result (follows (to_actor q.from (message.Held q.attempt None)) lines None) ok wanting went.1 went.2
          (snap.IsHeld (kept went.0 k) g lines _ (ap (λ y. (y, follows (to_actor q.from (message.Held q.attempt None)) lines None)) known))

    -- what is decided is settled
    pub prune-settled : (last : Option Durable) (i : State) (may : Durable → Type 0) → ((y : Durable) → mid ≡ Some y → SettlesOrCut xs y j last i may (Ok tt)) → (y : Durable) → mid ≡ Some y → Now last i (λ l. HasCome Next p.me snap.Asked (kept d h) (snap.Settling g []) l [])
    prune-settled last i may settles y at =
        let now = settles y at in
        record { durable = now.durable; kept_is = now.kept_is; holds = settled-comes p m reading g (Some g) q.cont number q.attempt g (kept d h) xs (kept y j) (came y at) [] (kept now.durable i) now.holds }

-- ---- what stays of what is kept

pub idle-keeps : (c : ContId) (n : ℕ) (xs ys : List AttemptId) (k l : Kept) → Reached IdleNext xs k ys l → (is_enlisted k.durable c ≡ true) × (n ≤ k.durable.lease) → (is_enlisted l.durable c ≡ true) × (n ≤ l.durable.lease)
idle-keeps c n xs ys k l r p = reached-keeps IdleNext (λ s k. (is_enlisted k.durable c ≡ true) × (n ≤ k.durable.lease)) step xs k ys l r p
  where
    step : (s : List AttemptId) (k : Kept) (o : Option Change) (t : List AttemptId) (l : Kept) → IdleNext s k o t → Steps o k l → (is_enlisted k.durable c ≡ true) × (n ≤ k.durable.lease) → (is_enlisted l.durable c ≡ true) × (n ≤ l.durable.lease)
    step s k o t l (SettlesFirst z a rest) st p =
        subst (λ x. (is_enlisted x c ≡ true) × (n ≤ x.lease)) (sym st.0) (enlisted-settled a Commit c k.durable ∙ p.0, subst (λ y. n ≤ y) (sym (lease-settled a Commit k.durable)) p.1)

-- a container stays here, and the lease covers the epoch
pub settled-stays : (c : ContId) (g : Epoch) (xs : List AttemptId) (h j k : State) (old mid new : Option Durable) (finds : Durable → Type 0) → ForSome old (λ d. is_enlisted d c ≡ true) → is_some mid ≡ is_some old → is_some new ≡ is_some mid → ((d : Durable) → old ≡ Some d → Covers (g.0 / 256) d h mid j)
    → ((y : Durable) → mid ≡ Some y → SettlesOrCut xs y j new k finds (Ok tt)) → ForSome new (λ x. (is_enlisted x c ≡ true) × (g.0 / 256 ≤ x.lease))
settled-stays c g xs h j k old mid new finds enlisted first next covers settles =
    for_some_on old new (λ x. (is_enlisted x c ≡ true) × (g.0 / 256 ≤ x.lease)) (next ∙ first) (λ d at.
    let lease = leases (g.0 / 256) d h mid j (covers d at) in
    let now = settles (leased lease.lease d) lease.kept_is in
    (now.durable, now.kept_is, idle-keeps c (g.0 / 256) xs [] (kept (leased lease.lease d) j) (kept now.durable k) now.holds (enlisted-leased lease.lease c d ∙ enlisted d at, covered-leased (g.0 / 256) lease.lease d lease.covers)))
