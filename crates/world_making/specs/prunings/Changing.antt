-- What a turn for a snapshot or an aggregation leaves of what is kept, also where it is cut: what each change leaves by which nothing is stored.
use Rattle.std.specs.Prelude.{ℕ, ◌≡◌, Bool, false, List, Option, Some, None}
use Rattle.std.proofs.Common.{sym, ap, subst}
use Rattle.base_types.specs.declared.epoch.Epoch.{Epoch}
use Rattle.base_types.specs.declared.id.AttemptId.{AttemptId}
use Rattle.base_types.specs.declared.id.ContId.{ContId}
use Rattle.base_types.specs.declared.outcome.FloorWhy.{FloorWhy}
use Rattle.base_types.specs.declared.outcome.Outcome.{Outcome}
use Rattle.base_types.specs.declared.report.Line.{Line}
use Rattle.base_messages.specs.declared.actor.ActorId.{ActorId}
use Rattle.base_messages.specs.declared.message.Message.{Message, more_of-Message}
use Rattle.base_messages.specs.declared.message.Message.TheVariants as message
use Rattle.daos_model.specs.declared.durable.Durable.{Durable}
use Rattle.world_base.specs.declared.did.Did.{Did}
use Rattle.world_base.specs.declared.target.TargetMemory.{TargetMemory}
use Rattle.world_base.specs.declared.target.TargetPlan.{TargetPlan}
use Rattle.world_base.specs.Changes.{After, Before, Change, Creates, Cut, Extends, Freezes, InPart, IsPartly, Kept, Prepares, Prunes, Settles, Steps, made}
use Rattle.world_base.specs.CutTurns.{CutHere, CutTurn, Cutting, HearingIsCut, InChange, InQuestion}
use Rattle.world_base.specs.Further.{HearsFurther}
use Rattle.world_base.specs.PathLaws.{path-keeps}
use Rattle.world_base.specs.Snapshots as snap
use Rattle.world_base.specs.Statuses.{Looks, NoChange}
use Rattle.world_base.specs.Turns.{Path, Whole}
use Rattle.world_causes.specs.world_commit.statuses.Heard.{is_of_attempts}
use Rattle.world_causes.specs.world_commit.stops.CutEvents.{is_without_snapshots}

-- a change by which no entry is stored
abbrev pub StoresNothing : Option Change → Type 0
StoresNothing None = Unit {0}
StoresNothing (Some (Extends ticks)) = Unit {0}
StoresNothing (Some (Prepares e ws)) = ⊥
StoresNothing (Some (Settles a step)) = Unit {0}
StoresNothing (Some (Freezes c s)) = Unit {0}
StoresNothing (Some (Creates c s)) = Unit {0}
StoresNothing (Some (Prunes c upto n)) = Unit {0}

-- by no step of a kind of turn is one stored
abbrev pub NoneStored : {S : Type 0} → (S → Kept → Option Change → S → Type 0) → Type 0
NoneStored {S} Next = (s : S) (k : Kept) (o : Option Change) (u : S) → Next s k o u → StoresNothing o

freeze-stores : (p : TargetPlan) (m : TargetMemory) (reading : ℕ) (tracker : Epoch) (ep : Option Epoch) (c : ContId) (alone : Bool) → NoneStored (snap.FreezeNext p m reading tracker ep c alone)
freeze-stores p m reading tracker ep c alone g k o u (snap.HasEpoch k' s has) = tt
freeze-stores p m reading tracker ep c alone g k o u (snap.ExtendsLease k' s lease low is) = tt
freeze-stores p m reading tracker ep c alone g k o u (snap.IsCovered k' s low) = tt
freeze-stores p m reading tracker ep c alone g k o u (snap.FreezesIt k' s free new) = tt
freeze-stores p m reading tracker ep c alone g k o u (snap.IsFrozen k' s free old) = tt
freeze-stores p m reading tracker ep c alone g k o u (snap.CreatesIt k' s lines only) = tt

prune-stores : (p : TargetPlan) (m : TargetMemory) (reading : ℕ) (tracker : Epoch) (ep : Option Epoch) (c : ContId) (number : ℕ) → NoneStored (snap.PruneNext p m reading tracker ep c number)
prune-stores p m reading tracker ep c number g k o u (snap.HasEpoch k' s has) = tt
prune-stores p m reading tracker ep c number g k o u (snap.ExtendsLease k' s lease low is) = tt
prune-stores p m reading tracker ep c number g k o u (snap.IsCovered k' s low) = tt
prune-stores p m reading tracker ep c number g k o u (snap.SettlesFirst k' s a rest) = tt
prune-stores p m reading tracker ep c number g k o u (snap.PrunesIt k' s due) = tt
prune-stores p m reading tracker ep c number g k o u (snap.PassesBy k' s late) = tt

held-stores : (p : TargetPlan) (m : TargetMemory) (from : ℕ) (x : AttemptId) (refusal : Option Outcome) → NoneStored (snap.HeldNext p m from x refusal)
held-stores p m from x refusal g k o u (snap.CreatesIt k' c name none found named last) = tt
held-stores p m from x refusal g k o u (snap.Counts k' other) = tt

look-stores : NoneStored NoChange
look-stores g k o u (Looks j) = tt

module _ (R : Durable → Durable → Type 0) (same : (d : Durable) → R d d) (after : (d e f : Durable) → R d e → R e f → R d f) (changed : (c : Change) (d : Durable) → StoresNothing (Some c) → R d (made c d))
    (partly : (c : Change) (d x : Durable) → IsPartly c d x → R d x) where
  alike : (d e : Durable) → e ≡ d → R d e
  alike d e is = subst (R d) (sym is) (same d)

  step-left : (o : Option Change) (k l : Kept) → StoresNothing o → Steps o k l → R k.durable l.durable
  step-left None k l none is = alike k.durable l.durable (ap (λ x. x.durable) is)
  step-left (Some c) k l none st = subst (R k.durable) (sym st.0) (changed c k.durable none)

  path-left : {S : Type 0} (Next : S → Kept → Option Change → S → Type 0) → NoneStored Next → (start : S) (old : Kept) (did : List Change) (last : S) (mid : Kept) → Path Next start old did last mid → R old.durable mid.durable
  path-left Next stores start old did last mid path =
      path-keeps Next (λ s k. R old.durable k.durable) (λ s k o u l next steps so_far. after old.durable k.durable l.durable so_far (step-left o k l (stores s k o u next) steps)) start old did last mid path (same old.durable)

  whole-left : {S Q : Type 0} (Next : S → Kept → Option Change → S → Type 0) → NoneStored Next → (Ends : S → Kept → Q → Type 0) (start : S) (old new : Kept) (result : Q) → Whole Next Ends start old new result → R old.durable new.durable
  whole-left Next stores Ends start old new result w = path-left Next stores start old w.reached.did w.last new w.reached.path

  turn-left : {S : Type 0} (Next : S → Kept → Option Change → S → Type 0) → NoneStored Next → (issues : S → List (AttemptId × Epoch)) (t : ℕ) (start : S) (old : Kept) (cut : Cutting) → CutTurn Next issues t start old cut → R old.durable cut.left.durable
  turn-left Next stores issues t start old cut g = after old.durable g.mid.durable cut.left.durable (path-left Next stores start old g.did g.last g.mid g.path) (here g.lines g.here)
    where
      cut-left : (c : Change) → StoresNothing (Some c) → Cut c g.mid.durable cut.left.durable → R g.mid.durable cut.left.durable
      cut-left c none (Before is) = alike g.mid.durable cut.left.durable is
      cut-left c none (After is) = subst (R g.mid.durable) (sym is) (changed c g.mid.durable none)
      cut-left c none (InPart p) = partly c g.mid.durable cut.left.durable p

      here : (lines : List Line) → CutHere Next t g.last g.mid cut.left lines → R g.mid.durable cut.left.durable
      here lines (InChange c next is left free) = cut-left c (stores g.last g.mid (Some c) next is) left
      here lines (InQuestion is free) = alike g.mid.durable cut.left.durable is

  -- whatever is heard for a snapshot or an aggregation
  pub making-left : (number : ℕ) (p : TargetPlan) (opening : Epoch × FloorWhy) (m : TargetMemory) (reading : ℕ) (from : ActorId) (q : Message) (old new : Kept) (left : TargetMemory × Did) → is_of_attempts q ≡ false
      → HearsFurther number p opening m reading from q old new left → R old.durable new.durable
  making-left number p opening m reading from (message.Snap x c called tracker) old new left ours h = whole-left _ (freeze-stores p m reading tracker None c (snap.is_held_by_all p 0)) _ _ old new left h
  making-left number p opening m reading from (message.Freeze x c s) old new left ours h = whole-left _ (freeze-stores p m reading s (Some s) c false) _ _ old new left h
  making-left number p opening m reading from (message.Held x refusal) old new left ours h = whole-left _ (held-stores p m from.number x refusal) _ _ old new left h
  making-left number p opening m reading from (message.Prune x c (Some tracker) None) old new left ours h = whole-left _ (prune-stores p m reading tracker None c number) _ _ old new left h
  making-left number p opening m reading from (message.Prune x c None (Some g)) old new left ours h = whole-left _ (prune-stores p m reading g (Some g) c number) _ _ old new left h
  making-left number p opening m reading from (message.Reset' by down place (more_of-Message asked rest)) old new left ours h = whole-left _ look-stores _ _ old new left h
  making-left number p opening m reading from (message.Commit x ep first tracker ws) old new left ours h = let no : ⊥ = cc in absurd no
  making-left number p opening m reading from (message.Ask x) old new left ours h = let no : ⊥ = cc in absurd no
  making-left number p opening m reading from (message.Status x inc) old new left ours h = let no : ⊥ = cc in absurd no
  making-left number p opening m reading from (message.StatusIs x inc how) old new left ours h = let no : ⊥ = cc in absurd no
  making-left number p opening m reading from q old new left ours h = absurd h

  pub making-cut-left : (is_due : AttemptId → Durable → Bool) (number : ℕ) (p : TargetPlan) (opening : Epoch × FloorWhy) (m : TargetMemory) (reading : ℕ) (from : ActorId) (q : Message) (old : Kept) (cut : Cutting) → is_without_snapshots q ≡ false
      → HearingIsCut is_due number p opening m reading from q old cut → R old.durable cut.left.durable
  making-cut-left is_due number p opening m reading from (message.Snap x c name tracker) old cut ours g = turn-left _ (freeze-stores p m reading tracker None c (snap.is_held_by_all p 0)) _ p.me _ old cut g
  making-cut-left is_due number p opening m reading from (message.Freeze x c s) old cut ours g = turn-left _ (freeze-stores p m reading s (Some s) c false) _ p.me _ old cut g
  making-cut-left is_due number p opening m reading from (message.Held x refusal) old cut ours g = turn-left _ (held-stores p m from.number x refusal) _ p.me _ old cut g
  making-cut-left is_due number p opening m reading from (message.Prune x c (Some tracker) None) old cut ours g = turn-left _ (prune-stores p m reading tracker None c number) _ p.me _ old cut g
  making-cut-left is_due number p opening m reading from (message.Prune x c None (Some e)) old cut ours g = turn-left _ (prune-stores p m reading e (Some e) c number) _ p.me _ old cut g
  making-cut-left is_due number p opening m reading from (message.Prune x c (Some tracker) (Some e)) old cut ours g = absurd g
  making-cut-left is_due number p opening m reading from (message.Prune x c None None) old cut ours g = absurd g
  making-cut-left is_due number p opening m reading from q old cut ours g = let no : ⊥ = cc in absurd no
