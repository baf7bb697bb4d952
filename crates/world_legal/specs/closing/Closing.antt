-- Where a run in which targets may stop has ended, and what its report and its stores are to be.
use Rattle.std.specs.Prelude.{ℕ, ◌≡◌, ◌⊎◌, ◌<◌, true, false, List, [], Contains, length, slice_get, Some, None, map}
use Rattle.base_types.specs.declared.epoch.Epoch.{Epoch}
use Rattle.base_types.specs.declared.id.AttemptId.{AttemptId}
use Rattle.base_types.specs.declared.outcome.Outcome.TheVariants.{Committed}
use Rattle.base_types.specs.declared.report.Attempt.{Attempt}
use Rattle.base_types.specs.declared.report.Line.TheVariants as line
use Rattle.base_types.specs.declared.report.Report.{Report}
use Rattle.base_messages.specs.declared.actor.ActorId.{ActorId}
use Rattle.model_laws.specs.Members.{Has}
use Rattle.daos_model.specs.declared.durable.Version.{Version}
use Rattle.daos_model.specs.Attempts.{is_unknown, tries}
use Rattle.daos_model.specs.Family.{resolved}
use Rattle.daos_model.specs.Opening.{Opening}
use Rattle.daos_model.specs.Stops.{down_targets, least}
use Rattle.dtx_base.specs.declared.leading.Undecided.{Undecided}
use Rattle.world_standing.specs.world_commit.attempts.Attempts.{IsOther}
use Rattle.world_standing.specs.world_commit.attempts.History.{Decided, History}
use Rattle.world_base.specs.declared.client.ClientState.{ClientState}
use Rattle.world_base.specs.declared.letter.Letter.{Letter}
use Rattle.world_base.specs.declared.target.Life.TheVariants.{Running, Stopped}
use Rattle.world_base.specs.declared.target.TargetState.{TargetState}
use Rattle.world_base.specs.declared.world.World.{World}
use Rattle.world_base.specs.ClientTurns.{is_done, waits}
use Rattle.world_base.specs.Events.{Rules, client_plan}
use Rattle.world_base.specs.Letters as letter
use Rattle.world_standing.specs.world_letters.lines.LastLines.{AreDone, HasClients}
use Rattle.world_standing.specs.world_letters.lives.Legal.{NoneIsStopped}
use Rattle.world_standing.specs.world_causes.outcomes.Outcomes.{is_failed, HasWrites}
use Rattle.world_standing.specs.world_contents.reads.Reads.{Reads}
use Rattle.world_standing.specs.world_contents.reads.Versions.{Versions}
use Rattle.daos_model.specs.declared.durable.Durable.{Durable}

-- what targets keep, in their order
abbrev pub durable_of : TargetState → Durable
durable_of s = s.durable

abbrev pub durables_of : World → List Durable
durables_of w = map durable_of w.targets

-- ---- a run is over

-- Nobody has a message to hear, or a command to go on with: none is in flight to a client or to a target that runs; each client waits for one, or
-- its commands are over; and no target is stopped.
pub record IsStill (r : Rules) (v : World) : Type 0 where
  pub to_clients : (n : ℕ) (l : Letter) → n < length r.script.clients → Contains v.messages l → l.to ≡ letter.client n → ⊥
  pub to_targets : (t : ℕ) (s : TargetState) (l : Letter) → slice_get v.targets t ≡ Some s → s.life ≡ Running → Contains v.messages l → l.to ≡ letter.target t → ⊥
  pub clients : (n : ℕ) (c : ClientState) → slice_get v.clients n ≡ Some c → (waits c ≡ true) ⊎ (is_done (client_plan r n) c ≡ true)
  pub none_stopped : (t : ℕ) (s : TargetState) → slice_get v.targets t ≡ Some s → s.life ≡ Stopped → ⊥

-- No Fetch waits at a target; no client waits for an attempt that it leads; and each attempt that is undecided there lacks a member that
-- was given up.
pub record WaitsForNone (r : Rules) (v : World) (s : TargetState) : Type 0 where
  pub parked : s.memory.member.parked ≡ []
  pub unwaited : (u : Undecided) → Has u s.memory.leader.undecided → u.client ≡ None
  pub lacks : (u : Undecided) → Has u s.memory.leader.undecided → (m : ℕ) × IsOther r u.attempt m × Has (line.Down m) v.lines

-- neither a client nor a target that is there
pub record IsNowhere (r : Rules) (a : ActorId) : Type 0 where
  pub client : (n : ℕ) → n < length r.script.clients → a ≡ letter.client n → ⊥
  pub target : (t : ℕ) → t < r.script.targets → a ≡ letter.target t → ⊥

-- Nothing in flight goes to anyone who is there. Each target runs or is given up, and what runs waits for nobody who could answer; there is a
-- client for each list of the script; and all clients are done.
pub record IsOver (r : Rules) (v : World) : Type 0 where
  pub silent : (l : Letter) → Has l v.messages → IsNowhere r l.to
  pub targets : NoneIsStopped v
  pub rest : (t : ℕ) (s : TargetState) → slice_get v.targets t ≡ Some s → s.life ≡ Running → WaitsForNone r v s
  pub clients : HasClients r v
  pub done : AreDone r v

-- ---- what became of attempts

-- an attempt has its line, with this epoch, and the line tells that it is committed, or that it is unknown what became of it
pub record IsToldOf (v : World) (x : AttemptId) (e : Epoch) : Type 0 where
  pub a : Attempt
  pub among : Contains (tries v.lines) a
  pub of_it : a.id ≡ x
  pub at : a.epoch ≡ Some e
  pub how : (a.outcome ≡ Committed) ⊎ (is_unknown a.outcome ≡ true)

-- an attempt is resolved by what the targets keep: one holds it committed, or its leader and all its members hold it
abbrev pub IsResolved : World → AttemptId → Type 0
IsResolved v x = resolved (durables_of v) x ≡ true

-- A history goes on from this one in which just the resolved attempts are decided: what targets keep, and what they answered, stands for it.
pub record Resolves (r : Rules) (o : Opening) (held : ℕ → List Version) (h : History) (v : World) : Type 0 where
  pub later : History
  pub grew : (x : AttemptId) (e : Epoch) → Decided h x e → Decided later x e
  pub served : later.served ≡ h.served
  pub versions : Versions r o held later v
  pub reads : Reads r o later v
  pub only : (x : AttemptId) (e : Epoch) → Decided later x e → IsResolved v x
  pub all : (x : AttemptId) → IsResolved v x → (e : Epoch) × Decided later x e

-- And each of them has its line, which tells that it is committed or unknown. One that is told to be committed was decided, at that epoch, and
-- none that failed is resolved.
pub record Concluded (r : Rules) (o : Opening) (held : ℕ → List Version) (h : History) (v : World) : Type 0 where
  pub so : Resolves r o held h v
  pub told : (x : AttemptId) (e : Epoch) → Decided so.later x e → IsToldOf v x e
  pub committed : (a : Attempt) → Contains (tries v.lines) a → a.outcome ≡ Committed → HasWrites r a.id → (e : Epoch) × (a.epoch ≡ Some e) × Decided h a.id e
  pub failed : (a : Attempt) → Contains (tries v.lines) a → HasWrites r a.id → is_failed a.outcome ≡ true → resolved (durables_of v) a.id ≡ false

-- ---- the report

-- the report of the lines, where the least of the targets that were given up is named
abbrev pub report_over : Rules → World → Report
report_over r v = record { targets = r.script.targets; lines = v.lines; down = least (down_targets v.lines) }
