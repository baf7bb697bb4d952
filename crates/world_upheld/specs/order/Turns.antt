-- Turns in which snapshots are made or containers aggregated leave each entry at its epoch.
use Rattle.std.specs.Prelude.{ℕ, ◌≡◌, Bool, true, false, List, map, Option, Some, if◌then◌else◌}
use Rattle.std.proofs.Common.{ap, subst, inl, inr}
use Rattle.base_types.specs.declared.entry.Entry.{Entry}
use Rattle.base_types.specs.declared.epoch.Epoch.{Epoch}
use Rattle.base_types.specs.declared.id.AttemptId.{AttemptId}
use Rattle.base_types.specs.declared.report.Line.{Line}
use Rattle.base_messages.specs.declared.actor.ActorId.{ActorId}
use Rattle.base_messages.specs.declared.message.Message.{Message}
use Rattle.daos_model.specs.Changes.{committed_at}
use Rattle.daos_model.specs.Durables.{same_attempt}
use Rattle.daos_model.specs.declared.durable.Durable.{Durable}
use Rattle.model_laws.specs.Members.{Has, has-from_map}
use Rattle.world_base.specs.declared.did.Did.{Did}
use Rattle.world_base.specs.declared.target.TargetMemory.{TargetMemory}
use Rattle.world_base.specs.declared.target.TargetPlan.{TargetPlan}
use Rattle.world_base.specs.Changes.{After, Before, Change, InPart, Kept, Steps}
use Rattle.world_base.specs.CutTurns.{CutHere, CutTurn, Cutting, InChange, InQuestion}
use Rattle.world_base.specs.PathLaws.{path-keeps}
use Rattle.world_base.specs.Turns.{Path}
use Rattle.world_owners.specs.world_making.fates.Steps.{partly-entries}
use Rattle.world_owners.specs.world_making.making.Making.{MakingLeaves, MakingNext, MakingStage, making_begins}
use Rattle.world_owners.specs.world_making.questions.Entries.{step-entries}

-- what holds of each entry's attempt and epoch
abbrev pub EachIs : (AttemptId → Epoch → Type 0) → Durable → Type 0
EachIs P d = (e : Entry) → Has e d.entries → P e.attempt e.epoch

module _ (P : AttemptId → Epoch → Type 0) where
  same-each : (d f : Durable) → f.entries ≡ d.entries → EachIs P d → EachIs P f
  same-each d f same each e i = each e (subst (Has e) same i)

  -- one that is settled keeps both
  settled-is : (x : AttemptId) (e : Entry) → P e.attempt e.epoch → P (committed_at x e).attempt (committed_at x e).epoch
  settled-is x e is = by (same_attempt e.attempt x)
    where
      at : Bool → Entry
      at b = if b then record e { committed = true } else e

      by : (b : Bool) → P (at b).attempt (at b).epoch
      by true = is
      by false = is

  settled-each : (x : AttemptId) (d f : Durable) → f.entries ≡ map (committed_at x) d.entries → EachIs P d → EachIs P f
  settled-each x d f same each e i =
      let z = has-from_map (committed_at x) d.entries e (subst (Has e) same i) in
      subst (λ n. P n.attempt n.epoch) z.2 (settled-is x z.0 (each z.0 z.1))

  module _ (number : ℕ) (p : TargetPlan) (m : TargetMemory) (reading : ℕ) (from : ActorId) (q : Message) where
    step-each : (a : MakingStage) (k : Kept) (o : Option Change) (b : MakingStage) (l : Kept) → MakingNext number p m reading from q a k o b → Steps o k l → EachIs P k.durable
        → EachIs P l.durable
    step-each a k o b l next steps each = elim (step-entries number p m reading from q a k o b l next steps) [
      | inl same ↦ same-each k.durable l.durable same each
      | inr settles ↦ settled-each settles.0 k.durable l.durable settles.1 each
    ]

    path-each : (start : MakingStage) (old : Kept) (did : List Change) (last : MakingStage) (mid : Kept) → Path (MakingNext number p m reading from q) start old did last mid
        → EachIs P old.durable → EachIs P mid.durable
    path-each start old did last mid path = path-keeps (MakingNext number p m reading from q) (λ s k. EachIs P k.durable) step-each start old did last mid path

    pub turn-each : (old new : Kept) (left : TargetMemory × Did) → MakingLeaves number p m reading from q old new left → EachIs P old.durable → EachIs P new.durable
    turn-each old new left turn = path-each (making_begins m) old turn.reached.did turn.last new turn.reached.path

    pub cut-each : (issues : MakingStage → List (AttemptId × Epoch)) (t : ℕ) (old : Kept) (cut : Cutting)
        → CutTurn (MakingNext number p m reading from q) issues t (making_begins m) old cut
        → EachIs P old.durable → EachIs P cut.left.durable
    cut-each issues t old cut turn each = here turn.lines turn.here (path-each (making_begins m) old turn.did turn.last turn.mid turn.path each)
      where
        here : (lines : List Line) → CutHere (MakingNext number p m reading from q) t turn.last turn.mid cut.left lines → EachIs P turn.mid.durable → EachIs P cut.left.durable
        here lines (InQuestion same free) so_far = same-each turn.mid.durable cut.left.durable (ap (λ d. d.entries) same) so_far
        here lines (InChange c next is (Before same) free) so_far = same-each turn.mid.durable cut.left.durable (ap (λ d. d.entries) same) so_far
        here lines (InChange c next is (After same) free) so_far = step-each turn.last turn.mid (Some c) next cut.left is (same, free) so_far
        here lines (InChange c next is (InPart part) free) so_far = same-each turn.mid.durable cut.left.durable (partly-entries c turn.mid.durable cut.left.durable part).entries
            so_far
