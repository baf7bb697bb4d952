-- The line that a move of a client adds is of an attempt of the command that it is at.
use Rattle.std.specs.Prelude.{ℕ, ◌+◌, ◌≡◌, ◌++◌, Bool, true, false, ◌&&◌, nat_lt, List, [], ◌∷◌, slice_get, Option, Some, None, is_some, refl, if◌then◌else◌}
use Rattle.base_types.specs.declared.answer.Answer.{Answer}
use Rattle.base_types.specs.declared.epoch.Epoch.{Epoch}
use Rattle.base_types.specs.declared.operation.Cond.{Cond}
use Rattle.base_types.specs.declared.operation.MinorWrite.{MinorWrite}
use Rattle.base_types.specs.declared.operation.Op.{Op}
use Rattle.base_types.specs.declared.operation.Read.{Read}
use Rattle.base_types.specs.declared.outcome.Outcome.TheVariants as outcome
use Rattle.base_types.specs.declared.report.Attempt.{Attempt}
use Rattle.base_types.specs.declared.report.Line.{Line}
use Rattle.base_types.specs.declared.report.Line.TheVariants as line
use Rattle.base_types.specs.declared.script.Command.{Command}
use Rattle.base_types.specs.declared.script.Command.TheVariants.{Aggregate, Run, Skip, Snap, Tell}
use Rattle.base_messages.specs.declared.message.Message.{Message, more_of-Message}
use Rattle.base_messages.specs.declared.message.Message.TheVariants as message
use Rattle.base_messages.specs.declared.message.Reply.{Reply}
use Rattle.base_messages.specs.declared.message.Reply.TheVariants as reply
use Rattle.daos_model.specs.Accesses.{minor_writes, op_path}
use Rattle.daos_model.specs.Conditions.{holds_where}
use Rattle.world_base.specs.declared.client.ClientPlan.{ClientPlan}
use Rattle.world_base.specs.declared.client.ClientState.{ClientState}
use Rattle.world_base.specs.declared.client.Present.{Present}
use Rattle.world_base.specs.declared.client.Stage.{Stage}
use Rattle.world_base.specs.declared.client.Stage.TheVariants as stage
use Rattle.world_base.specs.ClientTurns.{about, answered, asks_or_goes, at_present, attempt_id, attempt_moves, begins_at, command_at, command_moves, commits, ends, first_epoch, goes, group_count, group_told, heard, heard_at, hears_epochs, is_about, is_yes, joined, knows, moved, moves_at, next_stage, op_moves, op_of, op_told, question, replied, reset, reset_by, rests, run_moves, told_at, waits}

-- a line tells of an attempt of the command of this number of a client
abbrev pub IsTryOf : ClientPlan → ℕ → Line → Type 0
IsTryOf p command l = (a : Attempt) × (l ≡ line.Try a) × (a.id.client ≡ p.number) × (a.id.command ≡ command)

abbrev pub LineIsOf : ClientPlan → ℕ → Option Line → Type 0
LineIsOf p command None = Unit {0}
LineIsOf p command (Some l) = IsTryOf p command l

-- ---- moves

commits-its : (p : ClientPlan) (c : ClientState) (a : Present) (ws : List MinorWrite) → LineIsOf p c.command (commits p c a ws).line
commits-its p c a [] = (_, refl, refl, refl)
commits-its p c a (w ∷ ws) = tt

asks-its : (p : ClientPlan) (c : ClientState) (a : Present) (snapshot : Bool) (r : Option Read) → LineIsOf p c.command (asks_or_goes p c a snapshot r).line
asks-its p c a snapshot None = tt
asks-its p c a snapshot (Some r) = tt

op-its : (p : ClientPlan) (c : ClientState) (a : Present) (ops : List Op) (snapshot : Bool) (o : Option Op) → LineIsOf p c.command (op_moves p c a ops snapshot o).line
op-its p c a ops snapshot None = commits-its p c a (minor_writes 0 ops)
op-its p c a ops snapshot (Some op) = asks-its p c a snapshot (question a.stage op)

run-its : (p : ClientPlan) (c : ClientState) (a : Present) (ops : List Op) (turns : List ℕ) (snapshot : Bool) (s : Stage) → LineIsOf p c.command (run_moves p c a ops turns snapshot s).line
run-its p c a ops turns snapshot stage.Skip = tt
run-its p c a ops turns snapshot stage.Cond = op-its p c a ops snapshot (slice_get ops a.op)
run-its p c a ops turns snapshot stage.Act = op-its p c a ops snapshot (slice_get ops a.op)

attempt-its : (p : ClientPlan) (c : ClientState) (a : Present) (d : Command) → LineIsOf p c.command (attempt_moves p c a d).line
attempt-its p c a (Run ops turns snapshot) = run-its p c a ops turns (is_some snapshot) a.stage
attempt-its p c a (Snap name cont) = tt
attempt-its p c a (Aggregate cont) = tt
attempt-its p c a (Tell client) = tt
attempt-its p c a (Skip turns) = tt

begins-its : (p : ClientPlan) (c : ClientState) (snapshot : Option (List ℕ)) (e : Option Epoch) → LineIsOf p c.command (begins_at p c snapshot e).line
begins-its p c None e = tt
begins-its p c (Some name) None = (_, refl, refl, refl)
begins-its p c (Some name) (Some e) = tt

command-its : (p : ClientPlan) (c : ClientState) (d : Command) → LineIsOf p c.command (command_moves p c d).line
command-its p c (Run ops turns snapshot) = begins-its p c snapshot (first_epoch c.known snapshot)
command-its p c (Snap name cont) = tt
command-its p c (Aggregate cont) = tt
command-its p c (Tell client) = tt
command-its p c (Skip turns) = tt

moves-its : (p : ClientPlan) (c : ClientState) (d : Option Command) (a : Option Present) → LineIsOf p c.command (moves_at p c d a).line
moves-its p c None a = tt
moves-its p c (Some d) None = command-its p c d
moves-its p c (Some d) (Some a) = attempt-its p c a d

pub moved-its : (p : ClientPlan) (c : ClientState) → LineIsOf p c.command (moved p c).line
unfolding moved
moved-its p c = by (waits c)
  where
    by : (b : Bool) → LineIsOf p c.command (if b then rests c else moves_at p c (command_at p c) c.present).line
    by true = tt
    by false = moves-its p c (command_at p c) c.present

-- ---- hearing

told-its : (p : ClientPlan) (c : ClientState) (a : Present) (cond : Cond) (s : Stage) (b : Answer) → LineIsOf p c.command (told_at p c a cond s b).line
told-its p c a cond stage.Skip b = tt
told-its p c a cond stage.Act b = tt
told-its p c a cond stage.Cond b = by (holds_where (is_yes b) cond)
  where
    by : (holds : Bool)
        → LineIsOf p c.command (if holds then goes (at_present (next_stage stage.Cond (record a { conds = a.conds ++ (a.op, is_yes b) ∷ [] })) c) else ends p c (record a { conds = a.conds ++ (a.op, is_yes b) ∷ [] }) (outcome.CondFailed a.op)).line
    by true = tt
    by false = (_, refl, refl, refl)

group-its : (p : ClientPlan) (c : ClientState) (a : Present) (op : Op) (b : Answer) → LineIsOf p c.command (group_told p c a op b).line
group-its p c a op b = by (nat_lt (a.group + 1) (group_count (op_path op).obj (op_path op).dkey p.targets))
  where
    by : (more : Bool) → LineIsOf p c.command (if more then goes (at_present (record a { group = a.group + 1; found = Some (joined a.found b) }) c) else told_at p c a op.cond a.stage (joined a.found b)).line
    by true = tt
    by false = told-its p c a op.cond a.stage (joined a.found b)

op-told_its : (p : ClientPlan) (c : ClientState) (a : Present) (b : Answer) (o : Option Op) → LineIsOf p c.command (op_told p c a b o).line
op-told_its p c a b None = tt
op-told_its p c a b (Some op) = group-its p c a op b

replied-its : (p : ClientPlan) (c : ClientState) (a : Present) (b : Reply) → LineIsOf p c.command (replied p c a b).line
replied-its p c a (reply.Answer b) = op-told_its p c a b (op_of (command_at p c) a.op)
replied-its p c a (reply.Outcome how) = (_, refl, refl, refl)

reset-its : (p : ClientPlan) (c : ClientState) (a : Present) (t : ℕ) (m : Message) → LineIsOf p c.command (reset p c a t m).line
reset-its p c a t (message.Commit x e first tracker ws) = tt
reset-its p c a t (message.Ask x) = tt
reset-its p c a t m = (_, refl, refl, refl)

reset-by_its : (p : ClientPlan) (c : ClientState) (a : Present) (t : ℕ) (down : Bool) (m : Message) → LineIsOf p c.command (reset_by p c a t down m).line
reset-by_its p c a t false m = reset-its p c a t m
reset-by_its p c a t true m = (_, refl, refl, refl)

answered-its : (p : ClientPlan) (c : ClientState) (a : Present) (m : Message) → LineIsOf p c.command (answered p c a m).line
answered-its p c a (message.Fetched x op group e b) = replied-its p c (knows e a) b
answered-its p c a (message.Ended x e how) = (_, refl, refl, refl)
answered-its p c a (message.Reset' t down place (more_of-Message m rest)) = reset-by_its p c (record a { waits = false }) t down m
answered-its p c a m = tt

pub heard-its : (p : ClientPlan) (c : ClientState) (m : Message) → LineIsOf p c.command (heard p c m).line
unfolding heard
heard-its p c m = at c.present
  where
    at : (o : Option Present) → LineIsOf p c.command (heard_at p (hears_epochs m c) m o).line
    at None = tt
    at (Some a) = by (a.waits && is_about (attempt_id p (hears_epochs m c) a) (about m))
      where
        by : (b : Bool) → LineIsOf p c.command (if b then answered p (hears_epochs m c) a m else goes (hears_epochs m c)).line
        by true = answered-its p (hears_epochs m c) a m
        by false = tt
