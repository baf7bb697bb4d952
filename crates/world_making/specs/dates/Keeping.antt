-- What a turn that makes a snapshot or aggregates keeps: its lease is no lower, and it has the entries that it had.
use Rattle.std.specs.Prelude.{ℕ, ◌≡◌, ◌≤◌, ◌<◌, ◌/◌, Bool, List, Option, Some, None}
use Rattle.std.proofs.Common.{sym, ◌∙◌, ap, subst, arith}
use Rattle.base_types.specs.declared.epoch.Epoch.{Epoch}
use Rattle.base_types.specs.declared.id.AttemptId.{AttemptId}
use Rattle.base_types.specs.declared.id.ContId.{ContId}
use Rattle.base_types.specs.declared.outcome.Outcome.{Outcome}
use Rattle.base_types.specs.declared.report.Line.{Line}
use Rattle.base_types.specs.Epochs.{lease_for}
use Rattle.daos_model.specs.Changes.{marked, with_versions}
use Rattle.world_base.specs.declared.target.TargetMemory.{TargetMemory}
use Rattle.world_base.specs.declared.target.TargetPlan.{TargetPlan}
use Rattle.world_base.specs.ChangeLaws.{lease-steps, entries-frozen, entries-created, entries-pruned}
use Rattle.world_base.specs.Changes.{After, Before, Change, Creates, Cut, Extends, Freezes, InPart, IsPartly, Kept, Prepares, Prunes, Settles, Steps}
use Rattle.world_base.specs.CutTurns.{CutHere, CutTurn, Cutting, InChange, InQuestion, issued_by_freeze, issued_by_prune, listed_issue, none_issued}
use Rattle.world_base.specs.PathLaws.{path-keeps, reached-keeps}
use Rattle.world_base.specs.Requests.{issued_for, request_epoch}
use Rattle.world_base.specs.Snapshots as snap
use Rattle.world_base.specs.Turns.{Reached}
use Rattle.world_letters.specs.epochs.FetchTurns.{Covers, lease-covers}
use Rattle.world_letters.specs.epochs.Sayings.{AreKnown, Known, Stays, step-stays}
use Rattle.world_causes.specs.hearing.EpochRequests.{AnEpoch, CutIssues, NoEpoch}

-- ---- changes

-- it raises the lease or leaves it, and stores no entry
abbrev MakingFits : Kept → Option Change → Type 0
MakingFits k None = Unit {0}
MakingFits k (Some (Extends ticks)) = k.durable.lease ≤ ticks
MakingFits k (Some (Prepares e ws)) = ⊥
MakingFits k (Some (Settles a step)) = Unit {0}
MakingFits k (Some (Freezes c s)) = Unit {0}
MakingFits k (Some (Creates c s)) = Unit {0}
MakingFits k (Some (Prunes c upto n)) = Unit {0}

module _ (P : Known) (low : ℕ) where
  -- the same entries, and a lease no lower
  same-stays : (k l : Kept) → l.durable.entries ≡ k.durable.entries → k.durable.lease ≤ l.durable.lease → Stays P low k → Stays P low l × (k.durable.lease ≤ l.durable.lease)
  same-stays k l entries lease s = let old : low ≤ k.durable.lease = s.lease in (record { lease = omega (arith, old, lease); entries = subst (AreKnown P) (sym entries) s.entries }, lease)

  making-step : (o : Option Change) (k l : Kept) → MakingFits k o → Steps o k l → Stays P low k → Stays P low l × (k.durable.lease ≤ l.durable.lease)
  making-step None k l fits steps s = step-stays P low None k l tt steps s
  making-step (Some (Extends ticks)) k l fits steps s = step-stays P low (Some (Extends ticks)) k l fits steps s
  making-step (Some (Prepares e ws)) k l fits steps s = absurd fits
  making-step (Some (Settles a step)) k l fits steps s = step-stays P low (Some (Settles a step)) k l tt steps s
  making-step (Some (Freezes c z)) k l fits steps s = same-stays k l (ap (λ d. d.entries) steps.0 ∙ entries-frozen c z k.durable) (lease-steps (Some (Freezes c z)) k l steps tt).rises s
  making-step (Some (Creates c z)) k l fits steps s = same-stays k l (ap (λ d. d.entries) steps.0 ∙ entries-created c z k.durable) (lease-steps (Some (Creates c z)) k l steps tt).rises s
  making-step (Some (Prunes c upto n)) k l fits steps s = same-stays k l (ap (λ d. d.entries) steps.0 ∙ entries-pruned c upto n k.durable) (lease-steps (Some (Prunes c upto n)) k l steps tt).rises s

  partly-stays : (c : Change) (k l : Kept) → IsPartly c k.durable l.durable → Stays P low k → Stays P low l × (k.durable.lease ≤ l.durable.lease)
  unfolding with_versions marked
  partly-stays (Prunes c upto n) k l p s = let same : l.durable.lease ≡ k.durable.lease = ap (λ d. d.lease) p.2 in same-stays k l (ap (λ d. d.entries) p.2) (omega (arith, same)) s
  partly-stays (Extends ticks) k l p s = absurd p
  partly-stays (Prepares e ws) k l p s = absurd p
  partly-stays (Settles a step) k l p s = absurd p
  partly-stays (Freezes c z) k l p s = absurd p
  partly-stays (Creates c z) k l p s = absurd p

  -- where it was cut
  cut-stays : (c : Change) (k l : Kept) → MakingFits k (Some c) → Cut c k.durable l.durable → Stays P low k → Stays P low l × (k.durable.lease ≤ l.durable.lease)
  cut-stays c k l fits (Before same) s = let is : l.durable.lease ≡ k.durable.lease = ap (λ d. d.lease) same in same-stays k l (ap (λ d. d.entries) same) (omega (arith, is)) s
  cut-stays c k l fits (After same) s =
      let z : Kept = record { durable = l.durable; free = k.free } in
      let n = making-step (Some c) k z fits (same, omega arith) s in
      (record { lease = n.0.lease; entries = n.0.entries }, n.1)
  cut-stays c k l fits (InPart partly) s = partly-stays c k l partly s

  here-stays : {S : Type 0} (Next : S → Kept → Option Change → S → Type 0) (t : ℕ) (last : S) (mid left : Kept) (lines : List Line) → ((c : Change) (n : S) → Next last mid (Some c) n → MakingFits mid (Some c)) → CutHere Next t last mid left lines → Stays P low mid
      → Stays P low left × (mid.durable.lease ≤ left.durable.lease)
  here-stays Next t last mid left lines fits (InChange c n is cut free) s = cut-stays c mid left (fits c n is) cut s
  here-stays Next t last mid left lines fits (InQuestion same free) s = let is : left.durable.lease ≡ mid.durable.lease = ap (λ d. d.lease) same in same-stays mid left (ap (λ d. d.entries) same) (omega (arith, is)) s

  extends-fits : (k : Kept) (n lease : ℕ) → k.durable.lease < n → lease_for n ≡ Some lease → k.durable.lease ≤ lease
  extends-fits k n lease less is = let up : n ≤ lease = lease-covers n lease is in omega (arith, less, up)

  -- ---- a freeze

  module _ (t : TargetPlan) (m : TargetMemory) (reading : ℕ) (tracker : Epoch) (ep : Option Epoch) where
    -- its epoch is found first, and covered before anything else
    abbrev pub FreezeStands : snap.FreezeStage → ℕ → Type 0
    FreezeStands snap.Asked lease = Unit {0}
    FreezeStands (snap.Known e) lease = request_epoch t m reading tracker ep ≡ Some e
    FreezeStands (snap.Freezing e) lease = Covers t m reading tracker ep e lease
    FreezeStands (snap.Frozen e lines) lease = Covers t m reading tracker ep e lease
    FreezeStands (snap.Created e lines) lease = Covers t m reading tracker ep e lease

    covers-up : (e : Epoch) (a b : ℕ) → a ≤ b → Covers t m reading tracker ep e a → Covers t m reading tracker ep e b
    covers-up e a b up c = let low' : e.0 / 256 ≤ a = c.covered in record { found = c.found; covered = omega (arith, low', up) }

    freeze-up : (s : snap.FreezeStage) (a b : ℕ) → a ≤ b → FreezeStands s a → FreezeStands s b
    freeze-up snap.Asked a b up h = tt
    freeze-up (snap.Known e) a b up h = h
    freeze-up (snap.Freezing e) a b up h = covers-up e a b up h
    freeze-up (snap.Frozen e lines) a b up h = covers-up e a b up h
    freeze-up (snap.Created e lines) a b up h = covers-up e a b up h

    freeze-fits : (c : ContId) (alone : Bool) (s : snap.FreezeStage) (k : Kept) (o : Option Change) (n : snap.FreezeStage) → snap.FreezeNext t m reading tracker ep c alone s k o n → MakingFits k o
    freeze-fits c alone s k o n (snap.HasEpoch j e is) = tt
    freeze-fits c alone s k o n (snap.ExtendsLease j e lease less is) = extends-fits k (e.0 / 256) lease less is
    freeze-fits c alone s k o n (snap.IsCovered j e low') = tt
    freeze-fits c alone s k o n (snap.FreezesIt j e free unfrozen) = tt
    freeze-fits c alone s k o n (snap.IsFrozen j e free is) = tt
    freeze-fits c alone s k o n (snap.CreatesIt j e lines only) = tt

    freeze-next : (c : ContId) (alone : Bool) (s : snap.FreezeStage) (k : Kept) (o : Option Change) (n : snap.FreezeStage) → snap.FreezeNext t m reading tracker ep c alone s k o n → FreezeStands s k.durable.lease → FreezeStands n k.durable.lease
    freeze-next c alone s k o n (snap.HasEpoch j e is) h = is
    freeze-next c alone s k o n (snap.ExtendsLease j e lease less is) h = h
    freeze-next c alone s k o n (snap.IsCovered j e low') h = record { found = h; covered = low' }
    freeze-next c alone s k o n (snap.FreezesIt j e free unfrozen) h = h
    freeze-next c alone s k o n (snap.IsFrozen j e free is) h = h
    freeze-next c alone s k o n (snap.CreatesIt j e lines only) h = h

    abbrev pub FreezeSoFar : snap.FreezeStage → Kept → Type 0
    FreezeSoFar s k = FreezeStands s k.durable.lease × Stays P low k

    freeze-step : (c : ContId) (alone : Bool) (s : snap.FreezeStage) (k : Kept) (o : Option Change) (n : snap.FreezeStage) (l : Kept) → snap.FreezeNext t m reading tracker ep c alone s k o n → Steps o k l → FreezeSoFar s k → FreezeSoFar n l
    freeze-step c alone s k o n l next steps h =
        let z = making-step o k l (freeze-fits c alone s k o n next) steps h.1 in
        (freeze-up n k.durable.lease l.durable.lease z.1 (freeze-next c alone s k o n next h.0), z.0)

    pub freeze-reached : (c : ContId) (alone : Bool) (old : Kept) (last : snap.FreezeStage) (new : Kept) → Reached (snap.FreezeNext t m reading tracker ep c alone) snap.Asked old last new → Stays P low old → FreezeSoFar last new
    freeze-reached c alone old last new w s = reached-keeps (snap.FreezeNext t m reading tracker ep c alone) FreezeSoFar (freeze-step c alone) snap.Asked old last new w (tt, s)

    pub freeze-cut : (c : ContId) (alone : Bool) (issues : snap.FreezeStage → List (AttemptId × Epoch)) (u : ℕ) (old : Kept) (cut : Cutting) (g : CutTurn (snap.FreezeNext t m reading tracker ep c alone) issues u snap.Asked old cut) → Stays P low old
        → FreezeSoFar g.last cut.left
    freeze-cut c alone issues u old cut g s =
        let z = path-keeps (snap.FreezeNext t m reading tracker ep c alone) FreezeSoFar (freeze-step c alone) snap.Asked old g.did g.last g.mid g.path (tt, s) in
        let y = here-stays (snap.FreezeNext t m reading tracker ep c alone) u g.last g.mid cut.left g.lines (λ o n next. freeze-fits c alone g.last g.mid (Some o) n next) g.here z.1 in
        (freeze-up g.last g.mid.durable.lease cut.left.durable.lease y.1 z.0, y.0)

    an-epoch : (x : AttemptId) (e : Epoch) (cut : Cutting) → ep ≡ None → cut.issued ≡ listed_issue (issued_for x ep e) → Covers t m reading tracker ep e cut.left.durable.lease → CutIssues t m reading x ep tracker cut
    an-epoch x e cut none is h = AnEpoch e none (is ∙ ap (λ o. listed_issue (issued_for x o e)) none) (subst (λ o. Covers t m reading tracker o e cut.left.durable.lease) none h)

    -- what is issued where it was cut
    pub freeze-cut_issues : (x : AttemptId) (s : snap.FreezeStage) (cut : Cutting) → ep ≡ None → cut.issued ≡ issued_by_freeze x ep s → FreezeStands s cut.left.durable.lease → CutIssues t m reading x ep tracker cut
    freeze-cut_issues x snap.Asked cut none is h = NoEpoch is
    freeze-cut_issues x (snap.Known e) cut none is h = NoEpoch is
    freeze-cut_issues x (snap.Freezing e) cut none is h = an-epoch x e cut none is h
    freeze-cut_issues x (snap.Frozen e lines) cut none is h = an-epoch x e cut none is h
    freeze-cut_issues x (snap.Created e lines) cut none is h = an-epoch x e cut none is h

    -- ---- a prune

    abbrev pub PruneStands : snap.PruneStage → ℕ → Type 0
    PruneStands snap.Asked lease = Unit {0}
    PruneStands (snap.Known g) lease = request_epoch t m reading tracker ep ≡ Some g
    PruneStands (snap.Settling g decided) lease = Covers t m reading tracker ep g lease
    PruneStands (snap.Pruned g lines) lease = Covers t m reading tracker ep g lease

    prune-up : (s : snap.PruneStage) (a b : ℕ) → a ≤ b → PruneStands s a → PruneStands s b
    prune-up snap.Asked a b up h = tt
    prune-up (snap.Known g) a b up h = h
    prune-up (snap.Settling g decided) a b up h = covers-up g a b up h
    prune-up (snap.Pruned g lines) a b up h = covers-up g a b up h

    prune-fits : (c : ContId) (number : ℕ) (s : snap.PruneStage) (k : Kept) (o : Option Change) (n : snap.PruneStage) → snap.PruneNext t m reading tracker ep c number s k o n → MakingFits k o
    prune-fits c number s k o n (snap.HasEpoch j g is) = tt
    prune-fits c number s k o n (snap.ExtendsLease j g lease less is) = extends-fits k (g.0 / 256) lease less is
    prune-fits c number s k o n (snap.IsCovered j g low') = tt
    prune-fits c number s k o n (snap.SettlesFirst j g a rest) = tt
    prune-fits c number s k o n (snap.PrunesIt j g due) = tt
    prune-fits c number s k o n (snap.PassesBy j g due) = tt

    prune-next : (c : ContId) (number : ℕ) (s : snap.PruneStage) (k : Kept) (o : Option Change) (n : snap.PruneStage) → snap.PruneNext t m reading tracker ep c number s k o n → PruneStands s k.durable.lease → PruneStands n k.durable.lease
    prune-next c number s k o n (snap.HasEpoch j g is) h = is
    prune-next c number s k o n (snap.ExtendsLease j g lease less is) h = h
    prune-next c number s k o n (snap.IsCovered j g low') h = record { found = h; covered = low' }
    prune-next c number s k o n (snap.SettlesFirst j g a rest) h = h
    prune-next c number s k o n (snap.PrunesIt j g due) h = h
    prune-next c number s k o n (snap.PassesBy j g due) h = h

    abbrev pub PruneSoFar : snap.PruneStage → Kept → Type 0
    PruneSoFar s k = PruneStands s k.durable.lease × Stays P low k

    prune-step : (c : ContId) (number : ℕ) (s : snap.PruneStage) (k : Kept) (o : Option Change) (n : snap.PruneStage) (l : Kept) → snap.PruneNext t m reading tracker ep c number s k o n → Steps o k l → PruneSoFar s k → PruneSoFar n l
    prune-step c number s k o n l next steps h =
        let z = making-step o k l (prune-fits c number s k o n next) steps h.1 in
        (prune-up n k.durable.lease l.durable.lease z.1 (prune-next c number s k o n next h.0), z.0)

    pub prune-reached : (c : ContId) (number : ℕ) (old : Kept) (last : snap.PruneStage) (new : Kept) → Reached (snap.PruneNext t m reading tracker ep c number) snap.Asked old last new → Stays P low old → PruneSoFar last new
    prune-reached c number old last new w s = reached-keeps (snap.PruneNext t m reading tracker ep c number) PruneSoFar (prune-step c number) snap.Asked old last new w (tt, s)

    pub prune-cut : (c : ContId) (number : ℕ) (issues : snap.PruneStage → List (AttemptId × Epoch)) (u : ℕ) (old : Kept) (cut : Cutting) (g : CutTurn (snap.PruneNext t m reading tracker ep c number) issues u snap.Asked old cut) → Stays P low old
        → PruneSoFar g.last cut.left
    prune-cut c number issues u old cut g s =
        let z = path-keeps (snap.PruneNext t m reading tracker ep c number) PruneSoFar (prune-step c number) snap.Asked old g.did g.last g.mid g.path (tt, s) in
        let y = here-stays (snap.PruneNext t m reading tracker ep c number) u g.last g.mid cut.left g.lines (λ o n next. prune-fits c number g.last g.mid (Some o) n next) g.here z.1 in
        (prune-up g.last g.mid.durable.lease cut.left.durable.lease y.1 z.0, y.0)

    pub prune-cut_issues : (x : AttemptId) (s : snap.PruneStage) (cut : Cutting) → ep ≡ None → cut.issued ≡ issued_by_prune x ep s → PruneStands s cut.left.durable.lease → CutIssues t m reading x ep tracker cut
    prune-cut_issues x snap.Asked cut none is h = NoEpoch is
    prune-cut_issues x (snap.Known g) cut none is h = NoEpoch is
    prune-cut_issues x (snap.Settling g decided) cut none is h = an-epoch x g cut none is h
    prune-cut_issues x (snap.Pruned g lines) cut none is h = an-epoch x g cut none is h

  -- ---- a Held

  held-fits : (t : TargetPlan) (m : TargetMemory) (from : ℕ) (x : AttemptId) (refusal : Option Outcome) (s : snap.HeldStage) (k : Kept) (o : Option Change) (n : snap.HeldStage) → snap.HeldNext t m from x refusal s k o n → MakingFits k o
  held-fits t m from x refusal s k o n (snap.CreatesIt j c name none is named last) = tt
  held-fits t m from x refusal s k o n (snap.Counts j none) = tt

  pub held-stays : (t : TargetPlan) (m : TargetMemory) (from : ℕ) (x : AttemptId) (refusal : Option Outcome) (old : Kept) (last : snap.HeldStage) (new : Kept) → Reached (snap.HeldNext t m from x refusal) snap.Heard old last new → Stays P low old → Stays P low new
  held-stays t m from x refusal old last new w s =
      reached-keeps (snap.HeldNext t m from x refusal) (λ z k. Stays P low k) (λ z k o n l next steps h. (making-step o k l (held-fits t m from x refusal z k o n next) steps h).0) snap.Heard old last new w s

  pub held-cut : (t : TargetPlan) (m : TargetMemory) (from : ℕ) (x : AttemptId) (refusal : Option Outcome) (u : ℕ) (old : Kept) (cut : Cutting) → CutTurn (snap.HeldNext t m from x refusal) none_issued u snap.Heard old cut → Stays P low old → Stays P low cut.left
  held-cut t m from x refusal u old cut g s =
      let z = path-keeps (snap.HeldNext t m from x refusal) (λ z k. Stays P low k) (λ z k o n l next steps h. (making-step o k l (held-fits t m from x refusal z k o n next) steps h).0) snap.Heard old g.did g.last g.mid g.path s in
      (here-stays (snap.HeldNext t m from x refusal) u g.last g.mid cut.left g.lines (λ o n next. held-fits t m from x refusal g.last g.mid (Some o) n next) g.here z).0
