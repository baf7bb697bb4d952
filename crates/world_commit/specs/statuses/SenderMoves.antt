-- A client reads for its own attempts alone, asks after them alone, and sends no Reset.
use Rattle.std.specs.Prelude.{ℕ, ◌+◌, ◌++◌, ◌&&◌, nat_lt, slice_get, refl, Bool, true, false, List, [], ◌∷◌, Option, Some, None, if◌then◌else◌, is_some}
use Rattle.base_types.specs.declared.answer.Answer.{Answer}
use Rattle.base_types.specs.declared.epoch.Epoch.{Epoch}
use Rattle.base_types.specs.declared.operation.Cond.{Cond}
use Rattle.base_types.specs.declared.operation.MinorWrite.{MinorWrite}
use Rattle.base_types.specs.declared.operation.Op.{Op}
use Rattle.base_types.specs.declared.operation.Read.{Read}
use Rattle.base_types.specs.declared.outcome.Outcome.TheVariants as outcome
use Rattle.base_types.specs.declared.script.Command.{Command}
use Rattle.base_types.specs.declared.script.Command.TheVariants.{Aggregate, Run, Skip, Snap, Tell}
use Rattle.base_messages.specs.declared.message.Message.{Message, more_of-Message}
use Rattle.base_messages.specs.declared.message.Message.TheVariants as message
use Rattle.base_messages.specs.declared.message.Post.{Post}
use Rattle.base_messages.specs.declared.message.Reply.{Reply}
use Rattle.base_messages.specs.declared.message.Reply.TheVariants as reply
use Rattle.daos_model.specs.Accesses.{minor_writes, op_path}
use Rattle.daos_model.specs.Conditions.{holds_where}
use Rattle.world_commit.specs.statuses.Senders.{IsSentRightly}
use Rattle.world_base.specs.declared.client.ClientPlan.{ClientPlan}
use Rattle.world_base.specs.declared.client.ClientState.{ClientState}
use Rattle.world_base.specs.declared.client.Present.{Present}
use Rattle.world_base.specs.declared.client.Stage.{Stage}
use Rattle.world_base.specs.declared.client.Stage.TheVariants as stage
use Rattle.world_base.specs.ClientTurns.{about, answered, asks_or_goes, at_present, attempt_id, attempt_moves, begins_at, command_at, command_moves, commits, ends, first_epoch, goes, group_count, group_told, heard, heard_at, hears_epochs, is_about, is_yes, joined, knows, moved, moves_at, next_stage, op_moves, op_of, op_told, question, replied, reset_by, rests, run_moves, told_at, waits}
use Rattle.world_base.specs.Letters.{client}

-- what a client sends, if it does
abbrev pub SaysRightly : ℕ → Option Post → Type 0
SaysRightly n None = Unit {0}
SaysRightly n (Some q) = IsSentRightly (client n) q.message

-- ---- going on

begins-says : (p : ClientPlan) (c : ClientState) (snapshot : Option (List ℕ)) (epoch : Option Epoch) → SaysRightly p.number (begins_at p c snapshot epoch).post
begins-says p c None epoch = tt
begins-says p c (Some name) None = tt
begins-says p c (Some name) (Some e) = tt

command-says : (p : ClientPlan) (c : ClientState) (d : Command) → SaysRightly p.number (command_moves p c d).post
command-says p c (Run ops turns snapshot) = begins-says p c snapshot (first_epoch c.known snapshot)
command-says p c (Snap name cont) = tt
command-says p c (Aggregate cont) = tt
command-says p c (Tell n) = tt
command-says p c (Skip turns) = tt

commits-says : (p : ClientPlan) (c : ClientState) (a : Present) (ws : List MinorWrite) → SaysRightly p.number (commits p c a ws).post
commits-says p c a [] = tt
commits-says p c a (w ∷ ws) = tt

read-says : (p : ClientPlan) (c : ClientState) (a : Present) (snapshot : Bool) (o : Option Read) → SaysRightly p.number (asks_or_goes p c a snapshot o).post
read-says p c a snapshot None = tt
read-says p c a snapshot (Some r) = refl

op-says : (p : ClientPlan) (c : ClientState) (a : Present) (ops : List Op) (snapshot : Bool) (o : Option Op) → SaysRightly p.number (op_moves p c a ops snapshot o).post
op-says p c a ops snapshot None = commits-says p c a (minor_writes 0 ops)
op-says p c a ops snapshot (Some op) = read-says p c a snapshot (question a.stage op)

run-says : (p : ClientPlan) (c : ClientState) (a : Present) (ops : List Op) (turns : List ℕ) (snapshot : Bool) (s : Stage) → SaysRightly p.number (run_moves p c a ops turns snapshot s).post
run-says p c a ops turns snapshot stage.Skip = tt
run-says p c a ops turns snapshot stage.Cond = op-says p c a ops snapshot (slice_get ops a.op)
run-says p c a ops turns snapshot stage.Act = op-says p c a ops snapshot (slice_get ops a.op)

attempt-says : (p : ClientPlan) (c : ClientState) (a : Present) (d : Command) → SaysRightly p.number (attempt_moves p c a d).post
attempt-says p c a (Run ops turns snapshot) = run-says p c a ops turns (is_some snapshot) a.stage
attempt-says p c a (Snap name cont) = tt
attempt-says p c a (Aggregate cont) = tt
attempt-says p c a (Tell n) = tt
attempt-says p c a (Skip turns) = tt

pub moved-says : (p : ClientPlan) (c : ClientState) → SaysRightly p.number (moved p c).post
unfolding moved
moved-says p c = by (waits c)
  where
    at : (o : Option Command) (present : Option Present) → SaysRightly p.number (moves_at p c o present).post
    at None present = tt
    at (Some d) None = command-says p c d
    at (Some d) (Some a) = attempt-says p c a d

    by : (b : Bool) → SaysRightly p.number (if b then rests c else moves_at p c (command_at p c) c.present).post
    by true = tt
    by false = at (command_at p c) c.present

-- ---- hearing

told-says : (p : ClientPlan) (c : ClientState) (a : Present) (cond : Cond) (s : Stage) (b : Answer) → SaysRightly p.number (told_at p c a cond s b).post
told-says p c a cond stage.Skip b = tt
told-says p c a cond stage.Act b = tt
told-says p c a cond stage.Cond b = by (holds_where (is_yes b) cond)
  where
    by : (holds : Bool) → SaysRightly p.number (if holds then goes (at_present (next_stage stage.Cond (record a { conds = a.conds ++ (a.op, is_yes b) ∷ [] })) c) else ends p c (record a { conds = a.conds ++ (a.op, is_yes b) ∷ [] }) (outcome.CondFailed a.op)).post
    by true = tt
    by false = tt

group-says : (p : ClientPlan) (c : ClientState) (a : Present) (op : Op) (b : Answer) → SaysRightly p.number (group_told p c a op b).post
group-says p c a op b = by (nat_lt (a.group + 1) (group_count (op_path op).obj (op_path op).dkey p.targets))
  where
    by : (more : Bool) → SaysRightly p.number (if more then goes (at_present (record a { group = a.group + 1; found = Some (joined a.found b) }) c) else told_at p c a op.cond a.stage (joined a.found b)).post
    by true = tt
    by false = told-says p c a op.cond a.stage (joined a.found b)

replied-says : (p : ClientPlan) (c : ClientState) (a : Present) (b : Reply) → SaysRightly p.number (replied p c a b).post
replied-says p c a (reply.Outcome how) = tt
replied-says p c a (reply.Answer b) = by (op_of (command_at p c) a.op)
  where
    by : (o : Option Op) → SaysRightly p.number (op_told p c a b o).post
    by None = tt
    by (Some op) = group-says p c a op b

-- it asks after its own attempt
reset-says : (p : ClientPlan) (c : ClientState) (a : Present) (t : ℕ) (down : Bool) (m : Message) → SaysRightly p.number (reset_by p c a t down m).post
reset-says p c a t true m = tt
reset-says p c a t false (message.Commit x e first tracker ws) = refl
reset-says p c a t false (message.Ask x) = refl
reset-says p c a t false m = tt

answered-says : (p : ClientPlan) (c : ClientState) (a : Present) (m : Message) → SaysRightly p.number (answered p c a m).post
answered-says p c a (message.Fetched x op group e b) = replied-says p c (knows e a) b
answered-says p c a (message.Ended x e how) = tt
answered-says p c a (message.Reset' t down place (more_of-Message m rest)) = reset-says p c (record a { waits = false }) t down m
answered-says p c a m = tt

pub heard-says : (p : ClientPlan) (c : ClientState) (m : Message) → SaysRightly p.number (heard p c m).post
unfolding heard
heard-says p c m = by c.present
  where
    by : (o : Option Present) → SaysRightly p.number (heard_at p (hears_epochs m c) m o).post
    by None = tt
    by (Some a) = for-it (a.waits && is_about (attempt_id p (hears_epochs m c) a) (about m))
      where
        for-it : (b : Bool) → SaysRightly p.number (if b then answered p (hears_epochs m c) a m else goes (hears_epochs m c)).post
        for-it true = answered-says p (hears_epochs m c) a m
        for-it false = tt
