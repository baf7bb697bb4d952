-- Turns in which snapshots are made or containers aggregated take no entry away, and store none; nor do they where they are cut.
use Rattle.std.specs.Prelude.{ℕ, ◌≡◌, ◌⊎◌, List, map, find, Option, Some, None, refl}
use Rattle.std.proofs.Common.{sym, ◌∙◌, ap, inl, inr}
use Rattle.std.specs.Option.{option_map}
use Rattle.base_types.specs.declared.entry.Settle.TheVariants.{Commit}
use Rattle.base_types.specs.declared.epoch.Epoch.{Epoch}
use Rattle.base_types.specs.declared.id.AttemptId.{AttemptId}
use Rattle.base_types.specs.declared.report.Line.{Line}
use Rattle.base_messages.specs.declared.actor.ActorId.{ActorId}
use Rattle.base_messages.specs.declared.message.Message.{Message}
use Rattle.daos_model.specs.Changes.{committed_at, leased, settled}
use Rattle.daos_model.specs.declared.durable.Durable.{Durable}
use Rattle.daos_model.specs.Durables.{entry_of, is_entry_of}
use Rattle.world_causes.specs.world_commit.asks.Entries.{IsKept, Spares, StoresNot, Unprepared, kept-step, unprepared-step}
use Rattle.world_base.specs.declared.did.Did.{Did}
use Rattle.world_base.specs.declared.target.TargetMemory.{TargetMemory}
use Rattle.world_base.specs.declared.target.TargetPlan.{TargetPlan}
use Rattle.world_base.specs.Changes.{After, Before, Change, Extends, InPart, Kept, Settles, Steps}
use Rattle.world_base.specs.CutTurns.{CutHere, CutTurn, Cutting, InChange, InQuestion}
use Rattle.world_base.specs.EntryLaws.{entry-committed, entry-leased}
use Rattle.world_base.specs.PathLaws.{path-keeps}
use Rattle.world_base.specs.Snapshots.{prune_limit}
use Rattle.world_base.specs.Turns.{Path}
use Rattle.world_making.specs.fates.Steps.{partly-entries}
use Rattle.world_making.specs.making.Making as making
use Rattle.world_making.specs.making.Making.{MakingLeaves, MakingNext, MakingStage, making_begins}
use Rattle.world_base.specs.ChangeLaws.{entries-frozen, entries-created, entries-pruned}

-- an entry of an attempt stays where there is one; where there is none, or none is prepared, none comes
pub record LeavesEntryOf (x : AttemptId) (d e : Durable) : Type 0 where
  pub kept : IsKept d x → IsKept e x
  pub unprepared : Unprepared d x → Unprepared e x
  pub none : entry_of d x ≡ None → entry_of e x ≡ None

same-entries : (x : AttemptId) (d e : Durable) → e.entries ≡ d.entries → LeavesEntryOf x d e
unfolding entry_of
same-entries x d e same = record { kept = λ k. (k.0, at ∙ k.1); unprepared = λ k f found. k f (sym at ∙ found); none = λ off. at ∙ off }
  where
    at : find (is_entry_of x) e.entries ≡ find (is_entry_of x) d.entries
    at = ap (find (is_entry_of x)) same

then-leaves : (x : AttemptId) (d e f : Durable) → LeavesEntryOf x d e → LeavesEntryOf x e f → LeavesEntryOf x d f
then-leaves x d e f one next = record {
  kept = λ k. next.kept (one.kept k);
  unprepared = λ k. next.unprepared (one.unprepared k);
  none = λ k. next.none (one.none k);
}

-- ---- changes

-- a step leaves all entries, or settles one as committed
pub step-entries : (number : ℕ) (p : TargetPlan) (m : TargetMemory) (reading : ℕ) (from : ActorId) (q : Message) (a : MakingStage) (k : Kept) (o : Option Change) (b : MakingStage)
    (l : Kept)
    → MakingNext number p m reading from q a k o b → Steps o k l
    → (l.durable.entries ≡ k.durable.entries) ⊎ ((x : AttemptId) × (l.durable.entries ≡ map (committed_at x) k.durable.entries))
unfolding settled leased
step-entries number p m reading from q a k o b l (making.Passes stage k2) steps = inl (ap (λ y. y.durable.entries) steps)
step-entries number p m reading from q a k o b l (making.ExtendsLease stage k2 c e lease asks epoch low covers) steps = inl (ap (λ d. d.entries) steps.0)
step-entries number p m reading from q a k o b l (making.IsCovered rest k2 c e asks dated) steps = inl (ap (λ y. y.durable.entries) steps)
step-entries number p m reading from q a k o b l (making.SettlesFirst y rest k2 c g asks dated) steps = inr (y, ap (λ d. d.entries) steps.0)
step-entries number p m reading from q a k o b l (making.PrunesIt k2 c g asks dated due) steps = inl
    (ap (λ d. d.entries) steps.0 ∙ entries-pruned c.cont (prune_limit c.cont g k2.durable) number k2.durable)
step-entries number p m reading from q a k o b l (making.FreezesIt rest k2 c e asks dated free unfrozen) steps = inl
    (ap (λ d. d.entries) steps.0 ∙ entries-frozen c.cont e k2.durable)
step-entries number p m reading from q a k o b l (making.CreatesIt stage k2 c e by) steps = inl (ap (λ d. d.entries) steps.0 ∙ entries-created c e k2.durable)

module _ (x : AttemptId) where
  by-spared : (o : Option Change) (k l : Kept) → Steps o k l → Spares x o → StoresNot x o → (entry_of k.durable x ≡ None → entry_of l.durable x ≡ None)
      → LeavesEntryOf x k.durable l.durable
  by-spared o k l steps spares stores none = record { kept = kept-step x o k l steps spares; unprepared = unprepared-step x o k l steps stores; none = none }

  no-step : (k l : Kept) → Steps None k l → LeavesEntryOf x k.durable l.durable
  no-step k l steps = by-spared None k l steps tt tt (λ off. ap (λ y. entry_of y.durable x) steps ∙ off)

  covering : (lease : ℕ) (k l : Kept) → Steps (Some (Extends lease)) k l → LeavesEntryOf x k.durable l.durable
  covering lease k l steps = by-spared (Some (Extends lease)) k l steps tt tt (λ off. ap (λ d. entry_of d x) steps.0 ∙ entry-leased lease k.durable x ∙ off)

  committing : (a : AttemptId) (k l : Kept) → Steps (Some (Settles a Commit)) k l → LeavesEntryOf x k.durable l.durable
  committing a k l steps =
      by-spared (Some (Settles a Commit)) k l steps tt tt (λ off. ap (λ d. entry_of d x) steps.0 ∙ entry-committed a k.durable x ∙ ap (option_map (committed_at a)) off)

  module _ (number : ℕ) (p : TargetPlan) (m : TargetMemory) (reading : ℕ) (from : ActorId) (q : Message) where
    making-leaves : (a : MakingStage) (k : Kept) (o : Option Change) (b : MakingStage) (l : Kept) → MakingNext number p m reading from q a k o b → Steps o k l
        → LeavesEntryOf x k.durable l.durable
    making-leaves a k o b l (making.Passes stage k2) steps = no-step k l steps
    making-leaves a k o b l (making.ExtendsLease stage k2 c e lease asks epoch low covers) steps = covering lease k l steps
    making-leaves a k o b l (making.IsCovered rest k2 c e asks dated) steps = no-step k l steps
    making-leaves a k o b l (making.SettlesFirst y rest k2 c g asks dated) steps = committing y k l steps
    making-leaves a k o b l (making.PrunesIt k2 c g asks dated due) steps =
        same-entries x k.durable l.durable (ap (λ d. d.entries) steps.0 ∙ entries-pruned c.cont (prune_limit c.cont g k2.durable) number k2.durable)
    making-leaves a k o b l (making.FreezesIt rest k2 c e asks dated free unfrozen) steps = same-entries x k.durable l.durable
        (ap (λ d. d.entries) steps.0 ∙ entries-frozen c.cont e k2.durable)
    making-leaves a k o b l (making.CreatesIt stage k2 c e by) steps = same-entries x k.durable l.durable (ap (λ d. d.entries) steps.0 ∙ entries-created c e k2.durable)

    path-leaves : (start : MakingStage) (old : Kept) (did : List Change) (last : MakingStage) (mid : Kept) → Path (MakingNext number p m reading from q) start old did last mid
        → LeavesEntryOf x old.durable mid.durable
    path-leaves start old did last mid path =
        path-keeps (MakingNext number p m reading from q) (λ s k. LeavesEntryOf x old.durable k.durable)
        (λ s k o t l next steps so_far. then-leaves x old.durable k.durable l.durable so_far (making-leaves s k o t l next steps)) start old did last mid path
        (same-entries x old.durable old.durable refl)

    -- a whole turn
    pub turn-leaves-entry : (old new : Kept) (left : TargetMemory × Did) → MakingLeaves number p m reading from q old new left → LeavesEntryOf x old.durable new.durable
    turn-leaves-entry old new left turn = path-leaves (making_begins m) old turn.reached.did turn.last new turn.reached.path

    -- one that is cut
    pub cut-leaves-entry : (issues : MakingStage → List (AttemptId × Epoch)) (t : ℕ) (old : Kept) (cut : Cutting)
        → CutTurn (MakingNext number p m reading from q) issues t (making_begins m) old cut
        → LeavesEntryOf x old.durable cut.left.durable
    cut-leaves-entry issues t old cut turn = then-leaves x old.durable turn.mid.durable cut.left.durable (path-leaves (making_begins m) old turn.did turn.last turn.mid turn.path)
        (here turn.lines turn.here)
      where
        here : (lines : List Line) → CutHere (MakingNext number p m reading from q) t turn.last turn.mid cut.left lines → LeavesEntryOf x turn.mid.durable cut.left.durable
        here lines (InQuestion same free) = same-entries x turn.mid.durable cut.left.durable (ap (λ d. d.entries) same)
        here lines (InChange c next is (Before same) free) = same-entries x turn.mid.durable cut.left.durable (ap (λ d. d.entries) same)
        here lines (InChange c next is (After same) free) = making-leaves turn.last turn.mid (Some c) next cut.left is (same, free)
        here lines (InChange c next is (InPart part) free) = same-entries x turn.mid.durable cut.left.durable (partly-entries c turn.mid.durable cut.left.durable part).entries
