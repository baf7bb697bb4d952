-- What follows from a turn for a snapshot or an aggregation answers no read and tells of no attempt, and the timestamps stay.
use Rattle.std.specs.Prelude.{ℕ, ◌≡◌, Bool, true, false, not, List, [], ◌∷◌, ◌++◌, map, Option, Some, None, refl, if◌then◌else◌}
use Rattle.std.proofs.Common.{sym, ◌∙◌, ap, subst, inl, inr}
use Rattle.base_types.specs.declared.epoch.Epoch.{Epoch}
use Rattle.base_types.specs.declared.id.AttemptId.{AttemptId}
use Rattle.base_types.specs.declared.id.ContId.{ContId}
use Rattle.base_types.specs.declared.key.Key.{Key}
use Rattle.base_types.specs.declared.outcome.FloorWhy.{FloorWhy}
use Rattle.base_types.specs.declared.outcome.Outcome.{Outcome}
use Rattle.base_types.specs.declared.outcome.Outcome.TheVariants as outcome
use Rattle.base_types.specs.declared.report.Attempt.{Attempt}
use Rattle.base_types.specs.declared.report.Line.{Line}
use Rattle.base_types.specs.declared.report.Line.TheVariants as line
use Rattle.base_messages.specs.declared.actor.ActorId.{ActorId}
use Rattle.base_messages.specs.declared.message.Message.{Message, more_of-Message}
use Rattle.base_messages.specs.declared.message.Message.TheVariants as message
use Rattle.base_messages.specs.declared.message.Post.{Post}
use Rattle.model_laws.specs.Members.{Has, has-cases, has-from_map}
use Rattle.world_base.specs.declared.did.Did.{Did}
use Rattle.world_base.specs.declared.target.Collection.{Collection}
use Rattle.world_base.specs.declared.target.TargetMemory.{TargetMemory}
use Rattle.world_base.specs.declared.target.TargetPlan.{TargetPlan}
use Rattle.world_base.specs.Changes.{Change, Kept, Steps}
use Rattle.world_base.specs.Further.{HearsFurther, collection_left, knows_down, reset_by}
use Rattle.world_base.specs.PathLaws.{reached-keeps}
use Rattle.world_base.specs.Snapshots as snap
use Rattle.world_base.specs.Statuses.{EndsAs, Looking, NoChange}
use Rattle.world_base.specs.Turns.{Reached, Whole}
use Rattle.world_causes.specs.world_contents.reads.Adds.{NoneIs, is_answer}
use Rattle.world_causes.specs.world_commit.statuses.Heard.{is_of_attempts}
use Rattle.world_causes.specs.world_commit.statuses.ResetTurns.{is_collecting}
use Rattle.world_causes.specs.world_commit.statuses.Turns.{looked}

-- no line tells of an attempt
abbrev pub AreUntried : List Line → Type 0
AreUntried ls = (a : Attempt) → Has (line.Try a) ls → ⊥

pub record SaysQuietly (m : TargetMemory) (left : TargetMemory × Did) : Type 0 where
  pub stamps : left.0.stamps ≡ m.stamps
  pub silent : NoneIs is_answer left.1.posts
  pub untried : AreUntried left.1.lines

-- ---- messages and lines

one-silent : (p : Post) → is_answer p.message ≡ false → NoneIs is_answer (p ∷ [])
one-silent p off q (inl same) = ap (λ n. is_answer n.message) same ∙ off
one-silent p off q (inr j) = absurd j

all-silent : (to : ℕ → Post) → ((t : ℕ) → is_answer (to t).message ≡ false) → (ts : List ℕ) → NoneIs is_answer (map to ts)
all-silent to off ts p i = let z = has-from_map to ts p i in ap (λ q. is_answer q.message) (sym z.2) ∙ off z.0

no-line : AreUntried []
no-line a i = i

one-untried : (l : Line) → ((a : Attempt) → line.Try a ≡ l → ⊥) → AreUntried (l ∷ [])
one-untried l other a (inl same) = other a same
one-untried l other a (inr j) = j

both-untried : (ls ms : List Line) → AreUntried ls → AreUntried ms → AreUntried (ls ++ ms)
both-untried ls ms first second a i = elim (has-cases ls ms (line.Try a) i) [ inl j ↦ first a j | inr j ↦ second a j ]

snapshot-untried : (name : Key) (c : ContId) (s : Epoch) → AreUntried (line.Snapshot name c s ∷ [])
snapshot-untried name c s = one-untried (line.Snapshot name c s) (λ a same. let no : ⊥ = cc in no)

-- ---- a freeze

abbrev FreezeTells : snap.FreezeStage → Type 0
FreezeTells snap.Asked = Unit {0}
FreezeTells (snap.Known s) = Unit {0}
FreezeTells (snap.Freezing s) = Unit {0}
FreezeTells (snap.Frozen s lines) = AreUntried lines
FreezeTells (snap.Created s lines) = AreUntried lines

module _ (p : TargetPlan) (m : TargetMemory) (reading : ℕ) (tracker : Epoch) (ep : Option Epoch) (c : ContId) (alone : Bool) where
  freeze-step : (g : snap.FreezeStage) (k : Kept) (y : Option Change) (u : snap.FreezeStage) (l : Kept) → snap.FreezeNext p m reading tracker ep c alone g k y u → Steps y k l → FreezeTells g → FreezeTells u
  freeze-step g k y u l (snap.HasEpoch k' s has) steps f = tt
  freeze-step g k y u l (snap.ExtendsLease k' s lease low is) steps f = tt
  freeze-step g k y u l (snap.IsCovered k' s low) steps f = tt
  freeze-step g k y u l (snap.FreezesIt k' s free new) steps f = one-untried (line.Freeze p.me c s) (λ a same. let no : ⊥ = cc in no)
  freeze-step g k y u l (snap.IsFrozen k' s free old) steps f = no-line
  freeze-step g k y u l (snap.CreatesIt k' s lines only) steps f = f

  freeze-tells : (old : Kept) (last : snap.FreezeStage) (new : Kept) → Reached (snap.FreezeNext p m reading tracker ep c alone) snap.Asked old last new → FreezeTells last
  freeze-tells old last new way = reached-keeps (snap.FreezeNext p m reading tracker ep c alone) (λ g k. FreezeTells g) freeze-step snap.Asked old last new way tt

  snap-ends : (x : AttemptId) (name : Key) (from : ActorId) (g : snap.FreezeStage) (k : Kept) (left : TargetMemory × Did) → snap.SnapEnds p m reading tracker x c name from g k left → FreezeTells g → SaysQuietly m left
  snap-ends x name from g k left (snap.IsSpent k' z none is) f = subst (SaysQuietly m) (sym is) (record { stamps = refl; silent = one-silent _ refl; untried = no-line })
  snap-ends x name from g k left (snap.IsRefused k' s how z refused is) f = subst (SaysQuietly m) (sym is) (record { stamps = refl; silent = one-silent _ refl; untried = no-line })
  snap-ends x name from g k left (snap.AsksOthers k' s lines z more is) f = subst (SaysQuietly m) (sym is) (record { stamps = refl; silent = all-silent (snap.freeze_to x c s) (λ n. refl) (snap.others p); untried = f })
  snap-ends x name from g k left (snap.IsAlone k' s lines z is) f = subst (SaysQuietly m) (sym is) (record { stamps = refl; silent = one-silent _ refl; untried = both-untried lines _ f (snapshot-untried name c s) })

  freeze-ends : (x : AttemptId) (from : ActorId) (g : snap.FreezeStage) (k : Kept) (left : TargetMemory × Did) → snap.FreezeEnds p m x c from g k left → FreezeTells g → SaysQuietly m left
  freeze-ends x from g k left (snap.IsRefused k' s how z refused is) f = subst (SaysQuietly m) (sym is) (record { stamps = refl; silent = one-silent _ refl; untried = no-line })
  freeze-ends x from g k left (snap.IsHeld k' s lines z is) f = subst (SaysQuietly m) (sym is) (record { stamps = refl; silent = one-silent _ refl; untried = f })

-- ---- a prune

abbrev PruneTells : snap.PruneStage → Type 0
PruneTells snap.Asked = Unit {0}
PruneTells (snap.Known g) = Unit {0}
PruneTells (snap.Settling g decided) = Unit {0}
PruneTells (snap.Pruned g lines) = AreUntried lines

module _ (p : TargetPlan) (m : TargetMemory) (reading : ℕ) (tracker : Epoch) (ep : Option Epoch) (c : ContId) (number : ℕ) where
  prune-step : (g : snap.PruneStage) (k : Kept) (y : Option Change) (u : snap.PruneStage) (l : Kept) → snap.PruneNext p m reading tracker ep c number g k y u → Steps y k l → PruneTells g → PruneTells u
  prune-step g k y u l (snap.HasEpoch k' s has) steps f = tt
  prune-step g k y u l (snap.ExtendsLease k' s lease low is) steps f = tt
  prune-step g k y u l (snap.IsCovered k' s low) steps f = tt
  prune-step g k y u l (snap.SettlesFirst k' s a rest) steps f = tt
  prune-step g k y u l (snap.PrunesIt k' s due) steps f = one-untried (line.Aggregate number p.me c (snap.prune_limit c s k.durable)) (λ a same. let no : ⊥ = cc in no)
  prune-step g k y u l (snap.PassesBy k' s late) steps f = no-line

  prune-tells : (old : Kept) (last : snap.PruneStage) (new : Kept) → Reached (snap.PruneNext p m reading tracker ep c number) snap.Asked old last new → PruneTells last
  prune-tells old last new way = reached-keeps (snap.PruneNext p m reading tracker ep c number) (λ g k. PruneTells g) prune-step snap.Asked old last new way tt

  aggregate-ends : (x : AttemptId) (from : ActorId) (g : snap.PruneStage) (k : Kept) (left : TargetMemory × Did) → snap.AggregateEnds p m reading tracker x c from g k left → PruneTells g → SaysQuietly m left
  aggregate-ends x from g k left (snap.IsSpent k' z none is) f = subst (SaysQuietly m) (sym is) (record { stamps = refl; silent = one-silent _ refl; untried = no-line })
  aggregate-ends x from g k left (snap.AsksOthers k' e lines z more is) f = subst (SaysQuietly m) (sym is) (record { stamps = refl; silent = all-silent (snap.prune_to x c e) (λ n. refl) (snap.others p); untried = f })
  aggregate-ends x from g k left (snap.IsAlone k' e lines z alone is) f = subst (SaysQuietly m) (sym is) (record { stamps = refl; silent = one-silent _ refl; untried = f })

  prune-ends : (x : AttemptId) (from : ActorId) (g : snap.PruneStage) (k : Kept) (left : TargetMemory × Did) → snap.PruneEnds m x from g k left → PruneTells g → SaysQuietly m left
  prune-ends x from g k left (snap.IsHeld k' e lines z is) f = subst (SaysQuietly m) (sym is) (record { stamps = refl; silent = one-silent _ refl; untried = f })

-- ---- a Held

module _ (p : TargetPlan) (m : TargetMemory) (from : ℕ) (x : AttemptId) where
  counted : (how : Option Outcome) (c : Option Collection) → SaysQuietly m (snap.held_by p m from x how c)
  counted None None = record { stamps = refl; silent = λ q i. absurd i; untried = no-line }
  counted (Some how) None = record { stamps = refl; silent = λ q i. absurd i; untried = no-line }
  counted (Some how) (Some c) = record { stamps = refl; silent = one-silent _ refl; untried = no-line }
  counted None (Some c) = by (snap.is_last p from c)
    where
      by : (b : Bool) → SaysQuietly m (if b then (snap.collected x m, snap.follows (snap.to_actor c.client (message.Ended x (Some c.epoch) outcome.Committed)) [] None) else (snap.counts_held x from m, snap.follows [] [] None))
      by true = record { stamps = refl; silent = one-silent _ refl; untried = no-line }
      by false = record { stamps = refl; silent = λ q i. absurd i; untried = no-line }

  held-ends : (refusal : Option Outcome) (g : snap.HeldStage) (k : Kept) (left : TargetMemory × Did) → snap.HeldEnds p m from x refusal g k left → SaysQuietly m left
  held-ends refusal g k left (snap.IsCounted k' z is) = subst (SaysQuietly m) (sym is) (counted refusal (snap.collection_of x m))
  held-ends refusal g k left (snap.IsCreated k' c name z is) = subst (SaysQuietly m) (sym is) (record { stamps = refl; silent = one-silent _ refl; untried = snapshot-untried name c.cont c.epoch })

-- ---- a Reset

-- what target 0 makes of it answers no read where what was asked doesn't, and keeps the timestamps
reset-silent : (by : ℕ) (down : Bool) (asked : Message) (x : AttemptId) (c : Option Collection) (m : TargetMemory) → is_answer asked ≡ false → NoneIs is_answer (snap.collection_reset by down asked x c m).1
reset-silent by false asked x c m off = one-silent _ off
reset-silent by true asked x None m off = λ q i. absurd i
reset-silent by true asked x (Some c) m off = one-silent _ refl

reset-stamps : (by : ℕ) (down : Bool) (asked : Message) (x : AttemptId) (c : Option Collection) (m : TargetMemory) → (snap.collection_reset by down asked x c m).0.stamps ≡ m.stamps
reset-stamps by false asked x c m = refl
reset-stamps by true asked x None m = refl
reset-stamps by true asked x (Some c) m = refl

knows-stamps : (m n : TargetMemory) (by : ℕ) (down : Bool) → n.stamps ≡ m.stamps → (knows_down by down n).stamps ≡ m.stamps
knows-stamps m n by true same = same
knows-stamps m n by false same = same

freeze-reset : (m : TargetMemory) (by : ℕ) (down : Bool) (x : AttemptId) (c : ContId) (s : Epoch) → SaysQuietly m (collection_left m by down (message.Freeze x c s))
freeze-reset m by down x c s = record {
  stamps = knows-stamps m _ by down (reset-stamps by down (message.Freeze x c s) x (snap.collection_of x m) m);
  silent = reset-silent by down (message.Freeze x c s) x (snap.collection_of x m) m refl;
  untried = no-line;
}

prune-reset : (m : TargetMemory) (by : ℕ) (down : Bool) (x : AttemptId) (c : ContId) (tracker e : Option Epoch) → SaysQuietly m (collection_left m by down (message.Prune x c tracker e))
prune-reset m by down x c tracker e = record {
  stamps = knows-stamps m _ by down (reset-stamps by down (message.Prune x c tracker e) x (snap.collection_of x m) m);
  silent = reset-silent by down (message.Prune x c tracker e) x (snap.collection_of x m) m refl;
  untried = no-line;
}

-- ---- whatever is heard

pub says-quietly : (number : ℕ) (p : TargetPlan) (opening : Epoch × FloorWhy) (m : TargetMemory) (reading : ℕ) (from : ActorId) (q : Message) (old new : Kept) (left : TargetMemory × Did) → is_of_attempts q ≡ false
    → HearsFurther number p opening m reading from q old new left → SaysQuietly m left
says-quietly number p opening m reading from (message.Snap x c name tracker) old new left ours h =
    snap-ends p m reading tracker None c (snap.is_held_by_all p 0) x name from h.last new left h.ends (freeze-tells p m reading tracker None c (snap.is_held_by_all p 0) old h.last new h.reached)
says-quietly number p opening m reading from (message.Freeze x c s) old new left ours h = freeze-ends p m reading s (Some s) c false x from h.last new left h.ends (freeze-tells p m reading s (Some s) c false old h.last new h.reached)
says-quietly number p opening m reading from (message.Held x refusal) old new left ours h = held-ends p m from.number x refusal h.last new left h.ends
says-quietly number p opening m reading from (message.Prune x c (Some tracker) None) old new left ours h =
    aggregate-ends p m reading tracker None c number x from h.last new left h.ends (prune-tells p m reading tracker None c number old h.last new h.reached)
says-quietly number p opening m reading from (message.Prune x c None (Some g)) old new left ours h = prune-ends p m reading g (Some g) c number x from h.last new left h.ends (prune-tells p m reading g (Some g) c number old h.last new h.reached)
says-quietly number p opening m reading from (message.Reset' by down place (more_of-Message q rest)) old new left ours h = by_kind q ours h
  where
    by_kind : (q : Message) → not (is_collecting q) ≡ false → Whole NoChange (EndsAs (reset_by p m by down q)) Looking old new left → SaysQuietly m left
    by_kind (message.Freeze x c e) ours turn = let z = looked (reset_by p m by down (message.Freeze x c e)) old new left turn in subst (SaysQuietly m) (sym z.follows) (freeze-reset m by down x c e)
    by_kind (message.Prune x c tracker e) ours turn = let z = looked (reset_by p m by down (message.Prune x c tracker e)) old new left turn in subst (SaysQuietly m) (sym z.follows) (prune-reset m by down x c tracker e)
    by_kind q ours turn = let no : ⊥ = cc in absurd no
says-quietly number p opening m reading from (message.Commit x ep first tracker ws) old new left ours h = let no : ⊥ = cc in absurd no
says-quietly number p opening m reading from (message.Ask x) old new left ours h = let no : ⊥ = cc in absurd no
says-quietly number p opening m reading from (message.Status x inc) old new left ours h = let no : ⊥ = cc in absurd no
says-quietly number p opening m reading from (message.StatusIs x inc how) old new left ours h = let no : ⊥ = cc in absurd no
says-quietly number p opening m reading from q old new left ours h = absurd h
