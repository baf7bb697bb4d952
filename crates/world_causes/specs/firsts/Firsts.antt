-- The first epoch of a command that a client keeps, and that goes with its requests, over runs in which targets may stop, snapshots are
-- made and read, and versions are aggregated.
use Rattle.std.specs.Prelude.{ℕ, ◌≡◌, true, false, List, slice_get, Contains, Option, Some, None}
use Rattle.base_types.specs.declared.epoch.Epoch.{Epoch}
use Rattle.base_types.specs.declared.id.AttemptId.{AttemptId}
use Rattle.base_types.specs.declared.report.Line.{Line}
use Rattle.base_messages.specs.declared.message.Message.{Message}
use Rattle.base_messages.specs.declared.message.Message.TheVariants as message
use Rattle.daos_model.specs.Attempts.{is_lost, is_restart}
use Rattle.dtx_base.specs.declared.member.Parked.{Parked}
use Rattle.world_base.specs.declared.client.ClientState.{ClientState}
use Rattle.world_base.specs.declared.client.Present.{Present}
use Rattle.world_base.specs.declared.letter.Letter.{Letter}
use Rattle.world_base.specs.declared.target.TargetState.{TargetState}
use Rattle.world_base.specs.declared.world.World.{World}
use Rattle.world_base.specs.ClientTurns.{attempt_id}
use Rattle.world_base.specs.Events.{Rules, client_plan}
use Rattle.world_causes.specs.causes.Causes.{Dated}
use Rattle.world_causes.specs.causes.Premises.{IsNoRestart, MessageBears}
use Rattle.world_causes.specs.causes.Shown.{AreLostBefore, IsFirstEpoch, IsFirstOf}
use Rattle.world_contents.specs.world_letters.clients.Snapshots.{is_at_snapshot}

-- what goes with an attempt: the first epoch of its command. Of one that reads at a snapshot nothing is said.
abbrev pub GoesWith : Rules → Dated → List Line → AttemptId → Option Epoch → Type 0
GoesWith r issued lines x first = is_at_snapshot r x ≡ false → IsFirstOf issued lines x first

-- what a client keeps with its attempt: where it keeps no first epoch, it knows no epoch of the attempt
abbrev pub IsKept : Dated → List Line → AttemptId → Option Epoch → Option Epoch → Type 0
IsKept issued lines x own None = AreLostBefore lines x × (own ≡ None)
IsKept issued lines x own (Some first) = IsFirstEpoch issued lines x first

abbrev pub Keeps : Rules → Dated → List Line → ℕ → ClientState → Present → Type 0
Keeps r issued lines n c a = is_at_snapshot r (attempt_id (client_plan r n) c a) ≡ false → IsKept issued lines (attempt_id (client_plan r n) c a) a.epoch a.first

-- it goes with each request, also with one between targets; and an answer without an epoch tells of no restart, unless its attempt was lost
abbrev pub MessageTells : Rules → Dated → List Line → Message → Type 0
MessageTells r issued lines (message.Fetch x op group ep first tracker q snapshot) = GoesWith r issued lines x first
MessageTells r issued lines (message.Commit x ep first tracker ws) = GoesWith r issued lines x first
MessageTells r issued lines (message.Prepare e first ws inc) = GoesWith r issued lines e.attempt first
MessageTells r issued lines (message.Fetched x op group None b) = IsNoRestart b
MessageTells r issued lines (message.Ended x None how) = is_restart how ≡ true → is_lost x how ≡ true
MessageTells r issued lines m = Unit {0}

-- it goes with a Fetch that waits
abbrev pub WaitsSo : Rules → Dated → List Line → Message → Type 0
WaitsSo r issued lines m = MessageBears (GoesWith r issued lines) m

-- so it is of each client, each message, and each Fetch that waits
pub record Firsts (r : Rules) (w : World) : Type 0 where
  pub clients : (n : ℕ) (c : ClientState) (a : Present) → slice_get w.clients n ≡ Some c → c.present ≡ Some a → Keeps r w.issued w.lines n c a
  pub flight : (l : Letter) → Contains w.messages l → MessageTells r w.issued w.lines l.message
  pub parked : (t : ℕ) (s : TargetState) (p : Parked) → slice_get w.targets t ≡ Some s → Contains s.memory.member.parked p → WaitsSo r w.issued w.lines p.ask
