-- After what is heard for a snapshot or an aggregation, and where such a turn is cut, floors and what was aggregated are as before, or lines
-- tell of them.
use Rattle.std.specs.Prelude.{ℕ, ◌≡◌, ◌≤◌, ◌/◌, ◌++◌, Bool, false, List, [], Option, Some, None, refl}
use Rattle.std.proofs.Common.{sym, subst, append-nil}
use Rattle.base_types.specs.declared.entry.Settle.TheVariants.{Commit}
use Rattle.base_types.specs.declared.epoch.Epoch.{Epoch}
use Rattle.base_types.specs.declared.id.AttemptId.{AttemptId}
use Rattle.base_types.specs.declared.id.ContId.{ContId}
use Rattle.base_types.specs.declared.key.Key.{Key}
use Rattle.base_types.specs.declared.outcome.FloorWhy.{FloorWhy}
use Rattle.base_types.specs.declared.outcome.Outcome.{Outcome}
use Rattle.base_types.specs.declared.report.Line.{Line}
use Rattle.base_messages.specs.declared.actor.ActorId.{ActorId}
use Rattle.base_messages.specs.declared.message.Message.{Message, more_of-Message}
use Rattle.base_messages.specs.declared.message.Message.TheVariants as message
use Rattle.model_laws.specs.Members.{Has, has-left}
use Rattle.daos_model.specs.declared.durable.Durable.{Durable}
use Rattle.world_base.specs.declared.did.Did.{Did}
use Rattle.world_base.specs.declared.target.TargetMemory.{TargetMemory}
use Rattle.world_base.specs.declared.target.TargetPlan.{TargetPlan}
use Rattle.world_base.specs.Changes.{Change, Creates, Extends, Freezes, Kept, Prunes, Settles, Steps}
use Rattle.world_base.specs.CutTurns.{Cutting, HearingIsCut, lines_of}
use Rattle.world_base.specs.Further.{HearsFurther}
use Rattle.world_base.specs.Snapshots as snap
use Rattle.world_base.specs.Statuses.{AtOnce, Looks, NoChange}
use Rattle.world_base.specs.Turns.{Whole, listed}
use Rattle.world_causes.specs.world_commit.statuses.Heard.{is_of_attempts}
use Rattle.world_causes.specs.world_commit.stops.CutEvents.{is_without_snapshots}
use Rattle.world_making.specs.prunings.FloorRows.{BelowLease, CoversFreeze, RowsGo, cut-goes, path-goes, path-lines}

-- no floor is low enough in itself
abbrev pub NoneLow : ℕ → Type 0
NoneLow n = ⊥

-- ---- the lines of stages

abbrev freeze_lines : snap.FreezeStage → List Line
freeze_lines snap.Asked = []
freeze_lines (snap.Known s) = []
freeze_lines (snap.Freezing s) = []
freeze_lines (snap.Frozen s lines) = lines
freeze_lines (snap.Created s lines) = lines

abbrev prune_lines : snap.PruneStage → List Line
prune_lines snap.Asked = []
prune_lines (snap.Known g) = []
prune_lines (snap.Settling g decided) = []
prune_lines (snap.Pruned g lines) = lines

module _ {S : Type 0} (Next : S → Kept → Option Change → S → Type 0) (Ends : S → Kept → TargetMemory × Did → Type 0) (t : ℕ) (told_at : S → List Line)
    (step : (s : S) (k : Kept) (o : Option Change) (u : S) → Next s k o u → told_at u ≡ told_at s ++ lines_of t (listed o))
    (ends : (s : S) (k : Kept) (left : TargetMemory × Did) → Ends s k left → (l : Line) → Has l (told_at s) → Has l left.1.lines) where
  whole-goes : (start : S) (old new : Kept) (left : TargetMemory × Did) → told_at start ≡ [] → Whole Next Ends start old new left → RowsGo t left.1.lines NoneLow old.durable new.durable
  whole-goes start old new left none w =
      path-goes Next t NoneLow left.1.lines start old w.reached.did w.last new w.reached.path
      (λ l i. ends w.last new left w.ends l (subst (Has l) (path-lines Next t told_at step start old w.reached.did w.last new w.reached.path none) i))

-- ---- a freeze

module _ (p : TargetPlan) (m : TargetMemory) (reading : ℕ) (tracker : Epoch) (ep : Option Epoch) (c : ContId) (alone : Bool) where
  freeze-step : (g : snap.FreezeStage) (k : Kept) (y : Option Change) (u : snap.FreezeStage) → snap.FreezeNext p m reading tracker ep c alone g k y u → freeze_lines u ≡ freeze_lines g ++ lines_of p.me (listed y)
  freeze-step g k y u (snap.HasEpoch k' s has) = refl
  freeze-step g k y u (snap.ExtendsLease k' s lease low is) = refl
  freeze-step g k y u (snap.IsCovered k' s low) = refl
  freeze-step g k y u (snap.FreezesIt k' s free new) = refl
  freeze-step g k y u (snap.IsFrozen k' s free old) = refl
  freeze-step g k y u (snap.CreatesIt k' s lines only) = sym (append-nil lines)

  snap-ends : (x : AttemptId) (name : Key) (from : ActorId) (g : snap.FreezeStage) (k : Kept) (left : TargetMemory × Did) → snap.SnapEnds p m reading tracker x c name from g k left → (l : Line) → Has l (freeze_lines g) → Has l left.1.lines
  snap-ends x name from g k left (snap.IsSpent k' z none is) l i = absurd i
  snap-ends x name from g k left (snap.IsRefused k' s how z refused is) l i = absurd i
  snap-ends x name from g k left (snap.AsksOthers k' s lines z more is) l i = subst (λ n. Has l n.1.lines) (sym is) i
  snap-ends x name from g k left (snap.IsAlone k' s lines z is) l i = subst (λ n. Has l n.1.lines) (sym is) (has-left lines _ l i)

  freeze-ends : (x : AttemptId) (from : ActorId) (g : snap.FreezeStage) (k : Kept) (left : TargetMemory × Did) → snap.FreezeEnds p m x c from g k left → (l : Line) → Has l (freeze_lines g) → Has l left.1.lines
  freeze-ends x from g k left (snap.IsRefused k' s how z refused is) l i = absurd i
  freeze-ends x from g k left (snap.IsHeld k' s lines z is) l i = subst (λ n. Has l n.1.lines) (sym is) i

  -- the lease covers what is about to be frozen
  FreezeCovered : snap.FreezeStage → Kept → Type 0
  FreezeCovered snap.Asked k = Unit {0}
  FreezeCovered (snap.Known s) k = Unit {0}
  FreezeCovered (snap.Freezing s) k = s.0 / 256 ≤ k.durable.lease
  FreezeCovered (snap.Frozen s lines) k = Unit {0}
  FreezeCovered (snap.Created s lines) k = Unit {0}

  covered-step : (g : snap.FreezeStage) (k : Kept) (y : Option Change) (u : snap.FreezeStage) (l : Kept) → snap.FreezeNext p m reading tracker ep c alone g k y u → Steps y k l → FreezeCovered g k → FreezeCovered u l
  unfolding FreezeCovered
  covered-step g k y u l (snap.HasEpoch k' s has) steps f = tt
  covered-step g k y u l (snap.ExtendsLease k' s lease low is) steps f = tt
  covered-step g k y u l (snap.IsCovered k' s low) steps f = subst (λ n. s.0 / 256 ≤ n.durable.lease) (sym steps) low
  covered-step g k y u l (snap.FreezesIt k' s free new) steps f = tt
  covered-step g k y u l (snap.IsFrozen k' s free old) steps f = tt
  covered-step g k y u l (snap.CreatesIt k' s lines only) steps f = tt

  freeze-covers : (g : snap.FreezeStage) (k : Kept) (y : Option Change) (u : snap.FreezeStage) → snap.FreezeNext p m reading tracker ep c alone g k y u → FreezeCovered g k → (x : Change) → y ≡ Some x → CoversFreeze k.durable x
  unfolding FreezeCovered
  freeze-covers g k y u (snap.HasEpoch k' s has) f x is = let no : ⊥ = cc in absurd no
  freeze-covers g k y u (snap.ExtendsLease k' s lease low for) f x is = let same : Extends lease ≡ x = cc in subst (CoversFreeze k.durable) same tt
  freeze-covers g k y u (snap.IsCovered k' s low) f x is = let no : ⊥ = cc in absurd no
  freeze-covers g k y u (snap.FreezesIt k' s free new) f x is = let same : Freezes c s ≡ x = cc in subst (CoversFreeze k.durable) same f
  freeze-covers g k y u (snap.IsFrozen k' s free old) f x is = let no : ⊥ = cc in absurd no
  freeze-covers g k y u (snap.CreatesIt k' s lines only) f x is = let same : Creates c s ≡ x = cc in subst (CoversFreeze k.durable) same tt

  begins-covered : (k : Kept) → FreezeCovered snap.Asked k
  unfolding FreezeCovered
  begins-covered k = tt

-- ---- a prune

module _ (p : TargetPlan) (m : TargetMemory) (reading : ℕ) (tracker : Epoch) (ep : Option Epoch) (c : ContId) (number : ℕ) where
  prune-step : (g : snap.PruneStage) (k : Kept) (y : Option Change) (u : snap.PruneStage) → snap.PruneNext p m reading tracker ep c number g k y u → prune_lines u ≡ prune_lines g ++ lines_of p.me (listed y)
  prune-step g k y u (snap.HasEpoch k' s has) = refl
  prune-step g k y u (snap.ExtendsLease k' s lease low is) = refl
  prune-step g k y u (snap.IsCovered k' s low) = refl
  prune-step g k y u (snap.SettlesFirst k' s a rest) = refl
  prune-step g k y u (snap.PrunesIt k' s due) = refl
  prune-step g k y u (snap.PassesBy k' s late) = refl

  aggregate-ends : (x : AttemptId) (from : ActorId) (g : snap.PruneStage) (k : Kept) (left : TargetMemory × Did) → snap.AggregateEnds p m reading tracker x c from g k left → (l : Line) → Has l (prune_lines g) → Has l left.1.lines
  aggregate-ends x from g k left (snap.IsSpent k' z none is) l i = absurd i
  aggregate-ends x from g k left (snap.AsksOthers k' e lines z more is) l i = subst (λ n. Has l n.1.lines) (sym is) i
  aggregate-ends x from g k left (snap.IsAlone k' e lines z alone is) l i = subst (λ n. Has l n.1.lines) (sym is) i

  prune-ends : (x : AttemptId) (from : ActorId) (g : snap.PruneStage) (k : Kept) (left : TargetMemory × Did) → snap.PruneEnds m x from g k left → (l : Line) → Has l (prune_lines g) → Has l left.1.lines
  prune-ends x from g k left (snap.IsHeld k' e lines z is) l i = subst (λ n. Has l n.1.lines) (sym is) i

  prune-covers : (g : snap.PruneStage) (k : Kept) (y : Option Change) (u : snap.PruneStage) → snap.PruneNext p m reading tracker ep c number g k y u → Unit {0} → (x : Change) → y ≡ Some x → CoversFreeze k.durable x
  prune-covers g k y u (snap.HasEpoch k' s has) f x is = let no : ⊥ = cc in absurd no
  prune-covers g k y u (snap.ExtendsLease k' s lease low for) f x is = let same : Extends lease ≡ x = cc in subst (CoversFreeze k.durable) same tt
  prune-covers g k y u (snap.IsCovered k' s low) f x is = let no : ⊥ = cc in absurd no
  prune-covers g k y u (snap.SettlesFirst k' s a rest) f x is = let same : Settles a Commit ≡ x = cc in subst (CoversFreeze k.durable) same tt
  prune-covers g k y u (snap.PrunesIt k' s due) f x is = let same : Prunes c (snap.prune_limit c s k.durable) number ≡ x = cc in subst (CoversFreeze k.durable) same tt
  prune-covers g k y u (snap.PassesBy k' s late) f x is = let no : ⊥ = cc in absurd no

-- ---- a Held

module _ (p : TargetPlan) (m : TargetMemory) (from : ℕ) (x : AttemptId) (refusal : Option Outcome) where
  held-step : (g : snap.HeldStage) (k : Kept) (y : Option Change) (u : snap.HeldStage) → snap.HeldNext p m from x refusal g k y u → [] ≡ [] ++ lines_of p.me (listed y)
  held-step g k y u (snap.CreatesIt k' c name none found named last) = refl
  held-step g k y u (snap.Counts k' other) = refl

  held-covers : (g : snap.HeldStage) (k : Kept) (y : Option Change) (u : snap.HeldStage) → snap.HeldNext p m from x refusal g k y u → Unit {0} → (z : Change) → y ≡ Some z → CoversFreeze k.durable z
  held-covers g k y u (snap.CreatesIt k' c name none found named last) f z is = let same : Creates c.cont c.epoch ≡ z = cc in subst (CoversFreeze k.durable) same tt
  held-covers g k y u (snap.Counts k' other) f z is = let no : ⊥ = cc in absurd no

look-step : (t : ℕ) (g : AtOnce) (k : Kept) (y : Option Change) (u : AtOnce) → NoChange g k y u → [] ≡ [] ++ lines_of t (listed y)
look-step t g k y u (Looks j) = refl

-- ---- whatever is heard

pub floors-go : (number : ℕ) (p : TargetPlan) (opening : Epoch × FloorWhy) (m : TargetMemory) (reading : ℕ) (from : ActorId) (q : Message) (old new : Kept) (left : TargetMemory × Did) → is_of_attempts q ≡ false
    → HearsFurther number p opening m reading from q old new left → RowsGo p.me left.1.lines NoneLow old.durable new.durable
floors-go number p opening m reading from (message.Snap x c name tracker) old new left ours h =
    whole-goes _ _ p.me freeze_lines (freeze-step p m reading tracker None c (snap.is_held_by_all p 0)) (snap-ends p m reading tracker None c (snap.is_held_by_all p 0) x name from) _ old new left refl h
floors-go number p opening m reading from (message.Freeze x c s) old new left ours h =
    whole-goes _ _ p.me freeze_lines (freeze-step p m reading s (Some s) c false) (freeze-ends p m reading s (Some s) c false x from) _ old new left refl h
floors-go number p opening m reading from (message.Held x refusal) old new left ours h = whole-goes _ _ p.me (λ g. []) (held-step p m from.number x refusal) (λ s k z e l i. absurd i) _ old new left refl h
floors-go number p opening m reading from (message.Prune x c (Some tracker) None) old new left ours h =
    whole-goes _ _ p.me prune_lines (prune-step p m reading tracker None c number) (aggregate-ends p m reading tracker None c number x from) _ old new left refl h
floors-go number p opening m reading from (message.Prune x c None (Some g)) old new left ours h =
    whole-goes _ _ p.me prune_lines (prune-step p m reading g (Some g) c number) (prune-ends p m reading g (Some g) c number x from) _ old new left refl h
floors-go number p opening m reading from (message.Reset' by down place (more_of-Message asked rest)) old new left ours h = whole-goes _ _ p.me (λ g. []) (look-step p.me) (λ s k z e l i. absurd i) _ old new left refl h
floors-go number p opening m reading from (message.Commit x ep first tracker ws) old new left ours h = let no : ⊥ = cc in absurd no
floors-go number p opening m reading from (message.Ask x) old new left ours h = let no : ⊥ = cc in absurd no
floors-go number p opening m reading from (message.Status x inc) old new left ours h = let no : ⊥ = cc in absurd no
floors-go number p opening m reading from (message.StatusIs x inc how) old new left ours h = let no : ⊥ = cc in absurd no
floors-go number p opening m reading from q old new left ours h = absurd h

pub cut-floors-go : (is_due : AttemptId → Durable → Bool) (number : ℕ) (p : TargetPlan) (opening : Epoch × FloorWhy) (m : TargetMemory) (reading : ℕ) (from : ActorId) (q : Message) (old : Kept) (cut : Cutting) → is_without_snapshots q ≡ false
    → HearingIsCut is_due number p opening m reading from q old cut → RowsGo p.me cut.lines (BelowLease cut.left.durable.lease) old.durable cut.left.durable
cut-floors-go is_due number p opening m reading from (message.Snap x c name tracker) old cut ours g =
    cut-goes _ p.me (FreezeCovered p m reading tracker None c (snap.is_held_by_all p 0)) (covered-step p m reading tracker None c (snap.is_held_by_all p 0)) (freeze-covers p m reading tracker None c (snap.is_held_by_all p 0)) _ _ old cut g (begins-covered p m reading tracker None c (snap.is_held_by_all p 0) old)
cut-floors-go is_due number p opening m reading from (message.Freeze x c s) old cut ours g =
    cut-goes _ p.me (FreezeCovered p m reading s (Some s) c false) (covered-step p m reading s (Some s) c false) (freeze-covers p m reading s (Some s) c false) _ _ old cut g (begins-covered p m reading s (Some s) c false old)
cut-floors-go is_due number p opening m reading from (message.Held x refusal) old cut ours g = cut-goes _ p.me (λ s k. Unit {0}) (λ s k y u l next steps f. tt) (held-covers p m from.number x refusal) _ _ old cut g tt
cut-floors-go is_due number p opening m reading from (message.Prune x c (Some tracker) None) old cut ours g = cut-goes _ p.me (λ s k. Unit {0}) (λ s k y u l next steps f. tt) (prune-covers p m reading tracker None c number) _ _ old cut g tt
cut-floors-go is_due number p opening m reading from (message.Prune x c None (Some e)) old cut ours g = cut-goes _ p.me (λ s k. Unit {0}) (λ s k y u l next steps f. tt) (prune-covers p m reading e (Some e) c number) _ _ old cut g tt
cut-floors-go is_due number p opening m reading from (message.Prune x c (Some tracker) (Some e)) old cut ours g = absurd g
cut-floors-go is_due number p opening m reading from (message.Prune x c None None) old cut ours g = absurd g
cut-floors-go is_due number p opening m reading from q old cut ours g = let no : ⊥ = cc in absurd no
