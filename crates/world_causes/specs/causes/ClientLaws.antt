-- Each move of a client keeps that outcomes show their causes.
use Rattle.std.specs.Prelude.{ℕ, ◌≡◌, ◌≤◌, ◌+◌, ◌++◌, ◌/◌, nat_lt, Bool, true, false, ◌&&◌, List, [], ◌∷◌, Option, Some, None, refl, if◌then◌else◌}
use Rattle.base_types.specs.declared.answer.Answer.{Answer}
use Rattle.base_types.specs.declared.id.AttemptId.{AttemptId}
use Rattle.base_types.specs.declared.operation.Cond.{Cond}
use Rattle.base_types.specs.declared.operation.Op.{Op}
use Rattle.base_types.specs.declared.outcome.Outcome.{Outcome}
use Rattle.base_types.specs.declared.outcome.Outcome.TheVariants as outcome
use Rattle.base_types.specs.declared.report.Line.{Line}
use Rattle.base_types.specs.declared.report.Line.TheVariants as line
use Rattle.base_types.specs.declared.script.Command.{Command}
use Rattle.base_types.specs.declared.script.Command.TheVariants.{Aggregate, Tell, Skip}
use Rattle.model_laws.specs.Members.{Has}
use Rattle.base_messages.specs.declared.message.Message.{Message}
use Rattle.base_messages.specs.declared.message.Message.TheVariants as message
use Rattle.base_messages.specs.declared.message.Post.{Post}
use Rattle.daos_model.specs.Accesses.{op_path}
use Rattle.daos_model.specs.Attempts.{is_restart, snapshot_of_command}
use Rattle.daos_model.specs.Conditions.{holds_where}
use Rattle.daos_model.specs.Opening.{Opening}
use Rattle.world_base.specs.declared.client.ClientPlan.{ClientPlan}
use Rattle.world_base.specs.declared.client.ClientState.{ClientState}
use Rattle.world_base.specs.declared.client.Present.{Present}
use Rattle.world_base.specs.declared.client.Stage.{Stage}
use Rattle.world_base.specs.declared.client.Stage.TheVariants as stage
use Rattle.world_base.specs.ClientTurns.{Move, after_end, at_present, attempt_id, begun, command_at, condition_told, ends, first_epoch, goes, group_count, group_told, is_yes, joined, next_command, next_stage, op_told, told_at}
use Rattle.world_base.specs.Events.{Rules}
use Rattle.world_base.specs.Letters.{is_tell}
use Rattle.world_causes.specs.causes.Causes.{Dated, EndsOf, IsAskedFor, IsUndecidedFor, Stored, epochs_told}
use Rattle.world_causes.specs.causes.Shown.{MessageStands, OutcomeStands}

-- ---- moves that tell nothing new

-- an outcome that shows nothing
abbrev pub IsQuiet : Outcome → Type 0
IsQuiet outcome.Committed = Unit {0}
IsQuiet (outcome.CondFailed op) = Unit {0}
IsQuiet (outcome.Restart why) = ⊥
IsQuiet (outcome.NoSpace target need free) = ⊥
IsQuiet outcome.EpochsSpent = ⊥
IsQuiet outcome.NoSnapshot = ⊥
IsQuiet (outcome.Unknown target) = ⊥

-- a line is of this attempt, if there is one
abbrev pub IsLineOf : AttemptId → Option Line → Type 0
IsLineOf x None = Unit {0}
IsLineOf x (Some (line.Try a)) = a.id ≡ x
IsLineOf x (Some l) = ⊥

abbrev pub IsQuietLine : Option Line → Type 0
IsQuietLine None = Unit {0}
IsQuietLine (Some (line.Try a)) = IsQuiet a.outcome
IsQuietLine (Some l) = ⊥

-- a move that leaves the tracker, and tells at most of an outcome of this attempt that shows nothing
pub record IsMild (x : AttemptId) (c : ClientState) (m : Move) : Type 0 where
  pub tracker : m.state.tracker ≡ c.tracker
  pub quiet : IsQuietLine m.line
  pub own : IsLineOf x m.line

pub ends-tracker : (p : ClientPlan) (c : ClientState) (o : Option Command) (a : Present) (how : Outcome) → (after_end p c o a how).tracker ≡ c.tracker
ends-tracker p c None a how = refl
ends-tracker p c (Some d) a how = by (is_restart how && nat_lt (a.attempt + 1) p.attempts)
  where
    by : (b : Bool) → (if b then at_present (begun (a.attempt + 1) a.first (first_epoch c.known (snapshot_of_command d))) c else next_command c).tracker ≡ c.tracker
    by true = refl
    by false = refl

ends-mild : (p : ClientPlan) (c : ClientState) (a : Present) (how : Outcome) → IsQuiet how → IsMild (attempt_id p c a) c (ends p c a how)
ends-mild p c a how k = record { tracker = ends-tracker p c (command_at p c) a how; quiet = k; own = refl }

-- the attempt that a client is at, or that it begins
abbrev pub attempt_here : ClientPlan → ClientState → Option Present → AttemptId
attempt_here p c None = attempt_id p c (begun 0 None None)
attempt_here p c (Some a) = attempt_id p c a

-- ---- an answer that is heard

condition-mild : (p : ClientPlan) (c : ClientState) (a : Present) (cond : Cond) (there : Bool) → IsMild (attempt_id p c a) c (condition_told p c a cond there)
condition-mild p c a cond there = by (holds_where there cond)
  where
    told : Present
    told = record a { conds = a.conds ++ (a.op, there) ∷ [] }

    by : (b : Bool) → IsMild (attempt_id p c a) c (if b then goes (at_present (next_stage stage.Cond told) c) else ends p c told (outcome.CondFailed a.op))
    by true = record { tracker = refl; quiet = tt; own = tt }
    by false = ends-mild p c told (outcome.CondFailed a.op) tt

told-at-mild : (p : ClientPlan) (c : ClientState) (a : Present) (cond : Cond) (s : Stage) (b : Answer) → IsMild (attempt_id p c a) c (told_at p c a cond s b)
told-at-mild p c a cond stage.Skip b = record { tracker = refl; quiet = tt; own = tt }
told-at-mild p c a cond stage.Cond b = condition-mild p c a cond (is_yes b)
told-at-mild p c a cond stage.Act b = record { tracker = refl; quiet = tt; own = tt }

group-mild : (p : ClientPlan) (c : ClientState) (a : Present) (op : Op) (b : Answer) → IsMild (attempt_id p c a) c (group_told p c a op b)
group-mild p c a op b = by (nat_lt (a.group + 1) (group_count (op_path op).obj (op_path op).dkey p.targets))
  where
    more : Present
    more = record a { group = a.group + 1; found = Some (joined a.found b) }

    by : (l : Bool) → IsMild (attempt_id p c a) c (if l then goes (at_present more c) else told_at p c a op.cond a.stage (joined a.found b))
    by true = record { tracker = refl; quiet = tt; own = tt }
    by false = told-at-mild p c a op.cond a.stage (joined a.found b)

pub answer-mild : (p : ClientPlan) (c : ClientState) (a : Present) (b : Answer) (o : Option Op) → IsMild (attempt_id p c a) c (op_told p c a b o)
answer-mild p c a b None = record { tracker = refl; quiet = tt; own = tt }
answer-mild p c a b (Some op) = group-mild p c a op b

-- ---- what a client did

-- what a line shows, where these stand before it
abbrev pub LineShows : Rules → Opening → Stored → Dated → List Line → Option Line → Type 0
LineShows r o stored issued before None = Unit {0}
LineShows r o stored issued before (Some (line.Try a)) = OutcomeStands r o stored issued before a.id a.outcome
LineShows r o stored issued before (Some l) = ⊥

quiet-shows : (r : Rules) (o : Opening) (stored : Stored) (issued : Dated) (before : List Line) (x : AttemptId) (how : Outcome) → IsQuiet how → OutcomeStands r o stored issued before x how
quiet-shows r o stored issued before x outcome.Committed k = tt
quiet-shows r o stored issued before x (outcome.CondFailed op) k = tt
quiet-shows r o stored issued before x (outcome.Restart why) k = absurd k
quiet-shows r o stored issued before x (outcome.NoSpace target need free) k = absurd k
quiet-shows r o stored issued before x outcome.EpochsSpent k = absurd k
quiet-shows r o stored issued before x outcome.NoSnapshot k = absurd k
quiet-shows r o stored issued before x (outcome.Unknown target) k = absurd k

pub quiet-line : (r : Rules) (o : Opening) (stored : Stored) (issued : Dated) (before : List Line) (l : Option Line) → IsQuietLine l → LineShows r o stored issued before l
quiet-line r o stored issued before None k = tt
quiet-line r o stored issued before (Some (line.Try a)) k = quiet-shows r o stored issued before a.id a.outcome k
quiet-line r o stored issued before (Some (line.Stop n t)) k = k
quiet-line r o stored issued before (Some (line.Restart n t incarnation floor)) k = k
quiet-line r o stored issued before (Some (line.Freeze t cont e)) k = k
quiet-line r o stored issued before (Some (line.Snapshot name cont e)) k = k
quiet-line r o stored issued before (Some (line.Aggregate n t cont upto)) k = k
quiet-line r o stored issued before (Some (line.Down t)) k = k

-- what a client sends ends nothing and answers nothing, and tells epochs within the limit
pub record IsPlain (limit : ℕ) (m : Message) : Type 0 where
  pub shows : (r : Rules) (o : Opening) (stored : Stored) (issued : Dated) (lines : List Line) → MessageStands r o stored issued lines m
  pub told : (e : ℕ) → Has e (epochs_told m) → e / 256 ≤ limit
  pub undecided : (x by : AttemptId) → IsUndecidedFor m x by → ⊥
  pub asked : (x : AttemptId) → IsAskedFor m x → ⊥
  pub ends : (x : AttemptId) → EndsOf m x → ⊥

abbrev pub ArePlain : ℕ → List Post → Type 0
ArePlain limit posts = (q : Post) → Has q posts → IsPlain limit q.message

-- ---- a client moves

pub ends-no_tell : (m : Message) (x : AttemptId) → EndsOf m x → is_tell m ≡ false
ends-no_tell (message.Tell k) x u = absurd u
ends-no_tell m x u = refl
