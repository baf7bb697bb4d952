-- What a cut turn did that may have issued an epoch.
use Rattle.std.specs.Prelude.{ℕ, ◌≡◌, ◌≤◌, ◌+◌, true, List, Contains, Option, Some}
use Rattle.base_types.specs.declared.epoch.Epoch.{Epoch}
use Rattle.base_types.specs.declared.id.AttemptId.{AttemptId}
use Rattle.base_types.specs.declared.report.Attempt.{Attempt}
use Rattle.base_types.specs.declared.report.Line.TheVariants as line
use Rattle.model_laws.specs.Members.{Has}
use Rattle.world_base.specs.declared.letter.Letter.{Letter}
use Rattle.world_base.specs.declared.target.TargetState.{TargetState}
use Rattle.world_base.specs.declared.world.World.{World}
use Rattle.world_base.specs.CutTurns.{Cutting}
use Rattle.world_base.specs.Events.{Rules, listed, target_after}
use Rattle.world_base.specs.Stops.{is_not_to}
use Rattle.world_contents.specs.world_letters.epochs.Epochs.{AsksEpoch, LacksEpoch}
use Rattle.world_contents.specs.world_letters.epochs.Sayings.{AreKnown}
use Rattle.world_contents.specs.world_letters.epochs.TargetLaws.{IsNew, issued_then}

-- what a target would have been once its turn went on, with ticks that cover an epoch of these
abbrev pub gone_on : TargetState → Cutting → ℕ → TargetState
gone_on s cut ticks = target_after s cut.left (record s.memory { ticks = s.memory.ticks + ticks })

-- the letters that are left, where one was heard or none: those that go elsewhere are among them
pub record IsLeft (w : World) (t : ℕ) (rest : List Letter) : Type 0 where
  pub among : (l : Letter) → Contains rest l → Contains w.messages l
  pub others : (l : Letter) → Contains w.messages l → is_not_to t l ≡ true → Contains rest l

-- What a cut turn did: it issued an epoch, or none; what it leaves has entries of attempts with their epochs alone, a lease no lower, and no
-- line of an attempt.
pub record CutDid (r : Rules) (top : ℕ) (w : World) (t : ℕ) (s : TargetState) (cut : Cutting) (rest : List Letter) (o : Option (AttemptId × Epoch)) (ticks : ℕ) : Type 0 where
  pub left : IsLeft w t rest
  pub issued : cut.issued ≡ listed o
  pub lease : s.durable.lease ≤ cut.left.durable.lease
  pub entries : AreKnown (issued_then w o) cut.left.durable.entries
  pub silent : (a : Attempt) → Has (line.Try a) cut.lines → ⊥
  pub new : (x : AttemptId) (e : Epoch) → o ≡ Some (x, e) → IsNew r top w t (gone_on s cut ticks) x e
  pub asks : (l : Letter) (x : AttemptId) (k e : Epoch) → Contains rest l → AsksEpoch l.message x k → o ≡ Some (x, e) → ⊥
  pub lacks : (l : Letter) (x : AttemptId) (e : Epoch) → Contains rest l → LacksEpoch l.message x → o ≡ Some (x, e) → ⊥
