-- The lines that a client adds are of attempts of its own.
use Rattle.std.specs.Prelude.{ℕ, ◌+◌, ◌≡◌, ◌++◌, Bool, true, false, ◌&&◌, nat_lt, List, [], ◌∷◌, slice_get, Option, Some, None, is_some, refl, if◌then◌else◌}
use Rattle.std.proofs.Common.{sym, ap, subst, inl, inr}
use Rattle.base_types.specs.declared.answer.Answer.{Answer}
use Rattle.base_types.specs.declared.epoch.Epoch.{Epoch}
use Rattle.base_types.specs.declared.operation.Cond.{Cond}
use Rattle.base_types.specs.declared.operation.MinorWrite.{MinorWrite}
use Rattle.base_types.specs.declared.operation.Op.{Op}
use Rattle.base_types.specs.declared.operation.Read.{Read}
use Rattle.base_types.specs.declared.outcome.Outcome.TheVariants as outcome
use Rattle.base_types.specs.declared.report.Attempt.{Attempt}
use Rattle.base_types.specs.declared.report.Line.{Line}
use Rattle.base_types.specs.declared.report.Line.TheVariants as line
use Rattle.base_types.specs.declared.script.Command.{Command}
use Rattle.base_types.specs.declared.script.Command.TheVariants.{Aggregate, Run, Skip, Snap, Tell}
use Rattle.base_messages.specs.declared.message.Message.{Message, more_of-Message}
use Rattle.base_messages.specs.declared.message.Message.TheVariants as message
use Rattle.base_messages.specs.declared.message.Post.{Post}
use Rattle.base_messages.specs.declared.message.Reply.{Reply}
use Rattle.base_messages.specs.declared.message.Reply.TheVariants as reply
use Rattle.world_base.specs.model_laws.Members.{Has, has-cases}
use Rattle.daos_model.specs.Accesses.{minor_writes, op_path}
use Rattle.daos_model.specs.Conditions.{holds_where}
use Rattle.world_base.specs.declared.client.ClientPlan.{ClientPlan}
use Rattle.world_base.specs.declared.client.ClientState.{ClientState}
use Rattle.world_base.specs.declared.client.Present.{Present}
use Rattle.world_base.specs.declared.client.Stage.{Stage}
use Rattle.world_base.specs.declared.client.Stage.TheVariants as stage
use Rattle.world_base.specs.declared.did.Did.{Did}
use Rattle.world_base.specs.ClientTurns.{Ended_by, GoesOn, HearTurn, Heard_on, Moves, NextTurn, None_yet, One_more, Skipped, Went_on, answered, asks_or_goes, at_present, attempt_id, attempt_moves, begins_at, command_at, command_moves, commits, ends, first_epoch, goes, group_count, group_told, heard, heard_at, hears_epochs, is_about, about, is_yes, joined, knows, listed, moved, moves_at, next_stage, op_moves, op_of, op_told, question, replied, reset, reset_by, rests, run_moves, told_at, waits}

-- an attempt's line
abbrev pub IsTry : Line → Type 0
IsTry l = (a : Attempt) × (l ≡ line.Try a)

abbrev pub OwnLine : Option Line → Type 0
OwnLine None = Unit {0}
OwnLine (Some l) = IsTry l

-- ---- moves

commits-own : (p : ClientPlan) (c : ClientState) (a : Present) (ws : List MinorWrite) → OwnLine (commits p c a ws).line
commits-own p c a [] = (_, refl)
commits-own p c a (w ∷ ws) = tt

asks-own : (p : ClientPlan) (c : ClientState) (a : Present) (snapshot : Bool) (r : Option Read) → OwnLine (asks_or_goes p c a snapshot r).line
asks-own p c a snapshot None = tt
asks-own p c a snapshot (Some r) = tt

op-own : (p : ClientPlan) (c : ClientState) (a : Present) (ops : List Op) (snapshot : Bool) (o : Option Op) → OwnLine (op_moves p c a ops snapshot o).line
op-own p c a ops snapshot None = commits-own p c a (minor_writes 0 ops)
op-own p c a ops snapshot (Some op) = asks-own p c a snapshot (question a.stage op)

run-own : (p : ClientPlan) (c : ClientState) (a : Present) (ops : List Op) (turns : List ℕ) (snapshot : Bool) (s : Stage) → OwnLine (run_moves p c a ops turns snapshot s).line
run-own p c a ops turns snapshot stage.Skip = tt
run-own p c a ops turns snapshot stage.Cond = op-own p c a ops snapshot (slice_get ops a.op)
run-own p c a ops turns snapshot stage.Act = op-own p c a ops snapshot (slice_get ops a.op)

attempt-own : (p : ClientPlan) (c : ClientState) (a : Present) (d : Command) → OwnLine (attempt_moves p c a d).line
attempt-own p c a (Run ops turns snapshot) = run-own p c a ops turns (is_some snapshot) a.stage
attempt-own p c a (Snap name cont) = tt
attempt-own p c a (Aggregate cont) = tt
attempt-own p c a (Tell client) = tt
attempt-own p c a (Skip turns) = tt

begins-own : (p : ClientPlan) (c : ClientState) (snapshot : Option (List ℕ)) (e : Option Epoch) → OwnLine (begins_at p c snapshot e).line
begins-own p c None e = tt
begins-own p c (Some name) None = (_, refl)
begins-own p c (Some name) (Some e) = tt

command-own : (p : ClientPlan) (c : ClientState) (d : Command) → OwnLine (command_moves p c d).line
command-own p c (Run ops turns snapshot) = begins-own p c snapshot (first_epoch c.known snapshot)
command-own p c (Snap name cont) = tt
command-own p c (Aggregate cont) = tt
command-own p c (Tell client) = tt
command-own p c (Skip turns) = tt

moves-own : (p : ClientPlan) (c : ClientState) (d : Option Command) (a : Option Present) → OwnLine (moves_at p c d a).line
moves-own p c None a = tt
moves-own p c (Some d) None = command-own p c d
moves-own p c (Some d) (Some a) = attempt-own p c a d

pub moved-own : (p : ClientPlan) (c : ClientState) → OwnLine (moved p c).line
unfolding moved
moved-own p c = by (waits c)
  where
    by : (b : Bool) → OwnLine (if b then rests c else moves_at p c (command_at p c) c.present).line
    by true = tt
    by false = moves-own p c (command_at p c) c.present

-- ---- hearing

told-own : (p : ClientPlan) (c : ClientState) (a : Present) (cond : Cond) (s : Stage) (b : Answer) → OwnLine (told_at p c a cond s b).line
told-own p c a cond stage.Skip b = tt
told-own p c a cond stage.Act b = tt
told-own p c a cond stage.Cond b = by (holds_where (is_yes b) cond)
  where
    by : (holds : Bool)
        → OwnLine (if holds then goes (at_present (next_stage stage.Cond (record a { conds = a.conds ++ (a.op, is_yes b) ∷ [] })) c) else ends p c (record a { conds = a.conds ++ (a.op, is_yes b) ∷ [] }) (outcome.CondFailed a.op)).line
    by true = tt
    by false = (_, refl)

group-own : (p : ClientPlan) (c : ClientState) (a : Present) (op : Op) (b : Answer) → OwnLine (group_told p c a op b).line
group-own p c a op b = by (nat_lt (a.group + 1) (group_count (op_path op).obj (op_path op).dkey p.targets))
  where
    by : (more : Bool) → OwnLine (if more then goes (at_present (record a { group = a.group + 1; found = Some (joined a.found b) }) c) else told_at p c a op.cond a.stage (joined a.found b)).line
    by true = tt
    by false = told-own p c a op.cond a.stage (joined a.found b)

op-told_own : (p : ClientPlan) (c : ClientState) (a : Present) (b : Answer) (o : Option Op) → OwnLine (op_told p c a b o).line
op-told_own p c a b None = tt
op-told_own p c a b (Some op) = group-own p c a op b

replied-own : (p : ClientPlan) (c : ClientState) (a : Present) (b : Reply) → OwnLine (replied p c a b).line
replied-own p c a (reply.Answer b) = op-told_own p c a b (op_of (command_at p c) a.op)
replied-own p c a (reply.Outcome how) = (_, refl)

reset-own : (p : ClientPlan) (c : ClientState) (a : Present) (t : ℕ) (m : Message) → OwnLine (reset p c a t m).line
reset-own p c a t (message.Commit x e first tracker ws) = tt
reset-own p c a t (message.Ask x) = tt
reset-own p c a t m = (_, refl)

reset-by_own : (p : ClientPlan) (c : ClientState) (a : Present) (t : ℕ) (down : Bool) (m : Message) → OwnLine (reset_by p c a t down m).line
reset-by_own p c a t false m = reset-own p c a t m
reset-by_own p c a t true m = (_, refl)

answered-own : (p : ClientPlan) (c : ClientState) (a : Present) (m : Message) → OwnLine (answered p c a m).line
answered-own p c a (message.Fetched x op group e b) = replied-own p c (knows e a) b
answered-own p c a (message.Ended x e how) = (_, refl)
answered-own p c a (message.Reset' t down place (more_of-Message m rest)) = reset-by_own p c (record a { waits = false }) t down m
answered-own p c a m = tt

pub heard-own : (p : ClientPlan) (c : ClientState) (m : Message) → OwnLine (heard p c m).line
unfolding heard
heard-own p c m = at c.present
  where
    at : (o : Option Present) → OwnLine (heard_at p (hears_epochs m c) m o).line
    at None = tt
    at (Some a) = by (a.waits && is_about (attempt_id p (hears_epochs m c) a) (about m))
      where
        by : (b : Bool) → OwnLine (if b then answered p (hears_epochs m c) a m else goes (hears_epochs m c)).line
        by true = answered-own p (hears_epochs m c) a m
        by false = tt

-- ---- turns

abbrev pub AreTries : List Line → Type 0
AreTries ls = (l : Line) → Has l ls → IsTry l

pub listed-own : (o : Option Line) → OwnLine o → AreTries (listed o)
listed-own None own l i = absurd i
listed-own (Some x) own l (inl same) = subst IsTry (sym same) own
listed-own (Some x) own l (inr none) = absurd none

both-own : (xs ys : List Line) → AreTries xs → AreTries ys → AreTries (xs ++ ys)
both-own xs ys f g l i = elim (has-cases xs ys l i) [ inl j ↦ f l j | inr j ↦ g l j ]

all-moves_own : (p : ClientPlan) (c d : ClientState) (posts : List Post) (lines : List Line) → Moves p c posts lines d → AreTries lines
all-moves_own p c d posts lines None_yet = λ l i. absurd i
all-moves_own p c d posts lines (One_more sent told e before over) = both-own told (listed (moved p e).line) (all-moves_own p c e sent told before) (listed-own (moved p e).line (moved-own p e))

goes-own : (p : ClientPlan) (c d : ClientState) (posts : List Post) (lines : List Line) → GoesOn p c posts lines d → AreTries lines
goes-own p c d posts lines g = subst AreTries (sym g.all_told) (both-own g.told (listed (moved p g.last).line) (all-moves_own p c g.last g.sent g.told g.moves) (listed-own (moved p g.last).line (moved-own p g.last)))

pub next-own : (p : ClientPlan) (c d : ClientState) (did : Did) → NextTurn p c did d → AreTries did.lines
next-own p c d did (Skipped skips says after) = subst AreTries (sym (ap (λ x. x.lines) says)) (λ l i. absurd i)
next-own p c d did (Went_on runs goes') = goes-own p c d did.posts did.lines goes'.goes_on

pub hears-own : (p : ClientPlan) (c d : ClientState) (m : Message) (did : Did) → HearTurn p c m did d → AreTries did.lines
hears-own p c d m did (Ended_by over says after) = subst AreTries (sym (ap (λ x. x.lines) says)) (listed-own (heard p c m).line (heard-own p c m))
hears-own p c d m did (Heard_on rest over goes' says) =
    subst AreTries (sym (ap (λ x. x.lines) says)) (both-own (listed (heard p c m).line) rest.lines (listed-own (heard p c m).line (heard-own p c m)) (goes-own p (heard p c m).state d rest.posts rest.lines goes'.goes_on))
