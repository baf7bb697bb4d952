-- What a move of a client leads to from an attempt: the same one, none, or the next one of its command.
use Rattle.std.specs.Prelude.{ℕ, ◌≡◌, ◌+◌, ◌++◌, ◌&&◌, Bool, true, false, nat_lt, is_some, slice_get, List, [], ◌∷◌, Option, Some, None, refl, if◌then◌else◌}
use Rattle.std.proofs.Common.{sym, ◌∙◌, ap}
use Rattle.std.proofs.lemmas.Option.{same_Some}
use Rattle.base_types.specs.declared.answer.Answer.{Answer}
use Rattle.base_types.specs.declared.epoch.Epoch.{Epoch}
use Rattle.base_types.specs.declared.operation.Cond.{Cond}
use Rattle.base_types.specs.declared.operation.MinorWrite.{MinorWrite}
use Rattle.base_types.specs.declared.operation.Op.{Op}
use Rattle.base_types.specs.declared.operation.Read.{Read}
use Rattle.base_types.specs.declared.outcome.Cause.TheVariants as cause
use Rattle.base_types.specs.declared.outcome.Outcome.{Outcome}
use Rattle.base_types.specs.declared.outcome.Outcome.TheVariants as outcome
use Rattle.base_types.specs.declared.report.Attempt.{Attempt}
use Rattle.base_types.specs.declared.report.Line.TheVariants.{Try}
use Rattle.base_types.specs.declared.script.Command.{Command}
use Rattle.base_types.specs.declared.script.Command.TheVariants.{Run, Snap, Aggregate, Tell, Skip}
use Rattle.base_messages.specs.declared.message.Message.{Message}
use Rattle.base_messages.specs.declared.message.Message.TheVariants as message
use Rattle.base_messages.specs.declared.message.Reply.{Reply}
use Rattle.base_messages.specs.declared.message.Reply.TheVariants as reply
use Rattle.daos_model.specs.Accesses.{minor_writes, op_path}
use Rattle.daos_model.specs.Attempts.{is_restart, snapshot_of_command}
use Rattle.daos_model.specs.BoolLaws.{and_left, clash}
use Rattle.daos_model.specs.Conditions.{holds_where}
use Rattle.world_base.specs.declared.client.ClientPlan.{ClientPlan}
use Rattle.world_base.specs.declared.client.ClientState.{ClientState}
use Rattle.world_base.specs.declared.client.KnownSnap.{KnownSnap}
use Rattle.world_base.specs.declared.client.Present.{Present}
use Rattle.world_base.specs.declared.client.Stage.{Stage}
use Rattle.world_base.specs.declared.client.Stage.TheVariants as stage
use Rattle.world_base.specs.ClientTurns.{Move, after_end, asks_or_goes, at_present, attempt_id, attempt_moves, begins_at, begun, command_at, command_moves, commits, condition_told, ended, ends, first_epoch, goes, group_count, group_told, is_yes, joined, moved, moves_at, next_command, next_op, next_stage, op_moves, op_of, op_told, question, replied, reset, reset_by, rests, run_moves, snaps_known, told_at, waits}

-- an attempt of a command of which nothing is done: it has an epoch where it reads at a snapshot
pub record IsNew (p : ClientPlan) (d : ClientState) (b : Present) : Type 0 where
  pub command : Command
  pub at : command_at p d ≡ Some command
  pub known : List KnownSnap
  pub epoch : b.epoch ≡ first_epoch known (snapshot_of_command command)

-- From an attempt a move leads to the same one; to none; or, by an outcome of those by which an attempt may restart, to the next one of
-- the command, with the same first epoch, and its line tells so.
pub data LeadsOn (p : ClientPlan) (MayRestart : Outcome → Type 0) (c : ClientState) (a : Present) (m : Move) : Type 0 where
  IsSame : (b : Present) → m.state.present ≡ Some b → m.state.command ≡ c.command → b.attempt ≡ a.attempt → b.first ≡ a.first → b.epoch ≡ a.epoch → LeadsOn p MayRestart c a m
  IsOver : m.state.present ≡ None → LeadsOn p MayRestart c a m
  IsNext : (t : Attempt) (b : Present) → m.line ≡ Some (Try t) → t.id ≡ attempt_id p c a → is_restart t.outcome ≡ true → MayRestart t.outcome → m.state.present ≡ Some b → m.state.command ≡ c.command → b.attempt ≡ a.attempt + 1 → b.first ≡ a.first
      → IsNew p m.state b → LeadsOn p MayRestart c a m

-- an outcome by which an attempt may restart, if it does
abbrev pub IfRestart : (Outcome → Type 0) → Outcome → Type 0
IfRestart MayRestart how = is_restart how ≡ true → MayRestart how

module _ (p : ClientPlan) (MayRestart : Outcome → Type 0) where
  abbrev Leads : ClientState → Present → Move → Type 0
  Leads c a m = LeadsOn p MayRestart c a m

  -- from another attempt of which as much is known
  from-like : (c : ClientState) (a b : Present) (m : Move) → a.attempt ≡ b.attempt → a.first ≡ b.first → a.epoch ≡ b.epoch → Leads c a m → Leads c b m
  from-like c a b m number first epoch (IsSame z at command n f e) = IsSame z at command (n ∙ number) (f ∙ first) (e ∙ epoch)
  from-like c a b m number first epoch (IsOver none) = IsOver none
  from-like c a b m number first epoch (IsNext t z tells id restarts may at command n f new) =
      IsNext t z tells (id ∙ ap (λ k. record { client = p.number; command = c.command; attempt = k }) number) restarts may at command (n ∙ ap (λ k. k + 1) number) (f ∙ first) new

  ends-leads : (c : ClientState) (a : Present) (how : Outcome) → IfRestart MayRestart how → Leads c a (ends p c a how)
  ends-leads c a how may = at (command_at p c) refl
    where
      next : Option Command → Move
      next o = record { post = None; line = (ends p c a how).line; over = false; state = after_end p c o a how }

      at : (o : Option Command) → command_at p c ≡ o → Leads c a (next o)
      at None is = IsOver refl
      at (Some d) is = by (is_restart how && nat_lt (a.attempt + 1) p.attempts) refl
        where
          again : Present
          again = begun (a.attempt + 1) a.first (first_epoch c.known (snapshot_of_command d))

          either : Bool → Move
          either b = record { post = None; line = (ends p c a how).line; over = false; state = if b then at_present again c else next_command c }

          by : (b : Bool) → (is_restart how && nat_lt (a.attempt + 1) p.attempts) ≡ b → Leads c a (either b)
          by true e =
              let restarts = and_left (is_restart how) (nat_lt (a.attempt + 1) p.attempts) e in
              IsNext _ again refl refl restarts (may restarts) refl refl refl refl (record { command = d; at = is; known = c.known; epoch = refl })
          by false e = IsOver refl

  no-restart : (how : Outcome) → is_restart how ≡ false → IfRestart MayRestart how
  no-restart how is restarts = clash (is_restart how) restarts is

  -- ---- an attempt goes on

  stage-same : (s : Stage) (a : Present) → ((next_stage s a).first ≡ a.first) × ((next_stage s a).attempt ≡ a.attempt) × ((next_stage s a).epoch ≡ a.epoch)
  stage-same stage.Skip a = (refl, refl, refl)
  stage-same stage.Cond a = (refl, refl, refl)
  stage-same stage.Act a = (refl, refl, refl)

  commits-leads : (c : ClientState) (a : Present) (ws : List MinorWrite) → Leads c a (commits p c a ws)
  commits-leads c a [] = ends-leads c a outcome.Committed (no-restart outcome.Committed refl)
  commits-leads c a (w ∷ ws) = IsSame (record a { waits = true }) refl refl refl refl refl

  asks-leads : (c : ClientState) (a : Present) (snapshot : Bool) (q : Option Read) → Leads c a (asks_or_goes p c a snapshot q)
  asks-leads c a snapshot None = IsSame (next_stage a.stage a) refl refl (stage-same a.stage a).1 (stage-same a.stage a).0 (stage-same a.stage a).2
  asks-leads c a snapshot (Some q) = IsSame (record a { waits = true }) refl refl refl refl refl

  op-leads : (c : ClientState) (a : Present) (ops : List Op) (snapshot : Bool) (o : Option Op) → Leads c a (op_moves p c a ops snapshot o)
  op-leads c a ops snapshot None = commits-leads c a (minor_writes 0 ops)
  op-leads c a ops snapshot (Some op) = asks-leads c a snapshot (question a.stage op)

  run-leads : (c : ClientState) (a : Present) (ops : List Op) (turns : List ℕ) (snapshot : Bool) (s : Stage) → Leads c a (run_moves p c a ops turns snapshot s)
  run-leads c a ops turns snapshot stage.Skip = IsSame (next_stage stage.Skip a) refl refl refl refl refl
  run-leads c a ops turns snapshot stage.Cond = op-leads c a ops snapshot (slice_get ops a.op)
  run-leads c a ops turns snapshot stage.Act = op-leads c a ops snapshot (slice_get ops a.op)

  attempt-leads : (c : ClientState) (a : Present) (d : Command) → c.present ≡ Some a → Leads c a (attempt_moves p c a d)
  attempt-leads c a (Run ops turns snapshot) at = run-leads c a ops turns (is_some snapshot) a.stage
  attempt-leads c a (Snap name cont) at = IsSame (record a { waits = true }) refl refl refl refl refl
  attempt-leads c a (Aggregate cont) at = IsSame (record a { waits = true }) refl refl refl refl refl
  attempt-leads c a (Tell n) at = IsSame a at refl refl refl refl
  attempt-leads c a (Skip turns) at = IsSame a at refl refl refl refl

  -- ---- what is heard

  condition-leads : (c : ClientState) (a : Present) (cond : Cond) (there : Bool) → Leads c a (condition_told p c a cond there)
  condition-leads c a cond there = by (holds_where there cond)
    where
      told : Present
      told = record a { conds = a.conds ++ (a.op, there) ∷ [] }

      by : (b : Bool) → Leads c a (if b then goes (at_present (next_stage stage.Cond told) c) else ends p c told (outcome.CondFailed a.op))
      by true = IsSame (next_stage stage.Cond told) refl refl refl refl refl
      by false = from-like c told a (ends p c told (outcome.CondFailed a.op)) refl refl refl (ends-leads c told (outcome.CondFailed a.op) (no-restart (outcome.CondFailed a.op) refl))

  told-at_leads : (c : ClientState) (a : Present) (cond : Cond) (s : Stage) (b : Answer) → Leads c a (told_at p c a cond s b)
  told-at_leads c a cond stage.Skip b = IsSame a refl refl refl refl refl
  told-at_leads c a cond stage.Cond b = condition-leads c a cond (is_yes b)
  told-at_leads c a cond stage.Act b = IsSame (next_op (record a { gots = a.gots ++ (a.op, b) ∷ [] })) refl refl refl refl refl

  group-leads : (c : ClientState) (a : Present) (op : Op) (b : Answer) → Leads c a (group_told p c a op b)
  group-leads c a op b = by (nat_lt (a.group + 1) (group_count (op_path op).obj (op_path op).dkey p.targets))
    where
      more : Present
      more = record a { group = a.group + 1; found = Some (joined a.found b) }

      by : (l : Bool) → Leads c a (if l then goes (at_present more c) else told_at p c a op.cond a.stage (joined a.found b))
      by true = IsSame more refl refl refl refl refl
      by false = told-at_leads c a op.cond a.stage (joined a.found b)

  op-told_leads : (c : ClientState) (a : Present) (b : Answer) (o : Option Op) → Leads c a (op_told p c a b o)
  op-told_leads c a b None = IsSame a refl refl refl refl refl
  op-told_leads c a b (Some op) = group-leads c a op b

  abbrev pub ReplyMayRestart : Reply → Type 0
  ReplyMayRestart (reply.Answer b) = Unit {0}
  ReplyMayRestart (reply.Outcome how) = IfRestart MayRestart how

  -- a client that is answered
  pub replied-leads : (c : ClientState) (a : Present) (b : Reply) → ReplyMayRestart b → Leads c a (replied p c a b)
  replied-leads c a (reply.Answer b) may = op-told_leads c a b (op_of (command_at p c) a.op)
  replied-leads c a (reply.Outcome how) may = ends-leads c a how may

  -- one whose attempt is ended
  pub ended-leads : (c : ClientState) (a : Present) (e : Option Epoch) (how : Outcome) → IfRestart MayRestart how → Leads c a (ended p c a e how)
  ended-leads c a e how may = by (ends-leads known a how may)
    where
      known : ClientState
      known = record c { known = snaps_known (command_at p c) e how c.known }

      by : Leads known a (ends p known a how) → Leads c a (ends p known a how)
      by (IsSame z at command n f ep) = IsSame z at command n f ep
      by (IsOver none) = IsOver none
      by (IsNext t z tells id restarts may2 at command n f new) = IsNext t z tells id restarts may2 at command n f new

  -- and one whose request was lost
  reset-leads : (c : ClientState) (a : Present) (t : ℕ) (m : Message) → IfRestart MayRestart (outcome.Restart (cause.Unresolved (attempt_id p c a))) → Leads c a (reset p c a t m)
  reset-leads c a t (message.Commit x e first tracker ws) may = IsSame (record a { waits = true }) refl refl refl refl refl
  reset-leads c a t (message.Ask x) may = IsSame (record a { waits = true }) refl refl refl refl refl
  reset-leads c a t m may = ends-leads c a (outcome.Restart (cause.Unresolved (attempt_id p c a))) may

  pub reset-by_leads : (c : ClientState) (a : Present) (t : ℕ) (down : Bool) (m : Message) → IfRestart MayRestart (outcome.Restart (cause.Unresolved (attempt_id p c a))) → Leads c a (reset_by p c a t down m)
  reset-by_leads c a t false m may = reset-leads c a t m may
  reset-by_leads c a t true m may = ends-leads c a (outcome.Unknown t) (no-restart (outcome.Unknown t) refl)

  -- ---- a move

  -- what is kept stays; or a first attempt of a command begins; or a client moves on from its attempt
  pub data MovesOn (c : ClientState) (m : Move) : Type 0 where
    IsNone : m.state.present ≡ None → MovesOn c m
    Stays : m.state.present ≡ c.present → m.state.command ≡ c.command → MovesOn c m
    Begins : (b : Present) → m.state.present ≡ Some b → b.attempt ≡ 0 → b.first ≡ None → IsNew p m.state b → MovesOn c m
    GoesFrom : (a : Present) → c.present ≡ Some a → Leads c a m → MovesOn c m

  begins-moves : (c : ClientState) (d : Command) (e : Option Epoch) → c.present ≡ None → command_at p c ≡ Some d → first_epoch c.known (snapshot_of_command d) ≡ e → MovesOn c (begins_at p c (snapshot_of_command d) e)
  begins-moves c d e none at is = by (snapshot_of_command d) e refl is
    where
      by : (o : Option (List ℕ)) (e : Option Epoch) → snapshot_of_command d ≡ o → first_epoch c.known (snapshot_of_command d) ≡ e → MovesOn c (begins_at p c o e)
      by None e now is = Begins (begun 0 None None) refl refl refl (record { command = d; at = at; known = c.known; epoch = sym (ap (first_epoch c.known) now) })
      by (Some name) None now is = failed (ends-leads c (begun 0 None None) outcome.NoSnapshot (no-restart outcome.NoSnapshot refl))
        where
          failed : Leads c (begun 0 None None) (ends p c (begun 0 None None) outcome.NoSnapshot) → MovesOn c (ends p c (begun 0 None None) outcome.NoSnapshot)
          failed (IsOver none) = IsNone none
          failed (IsSame z at2 command n f ep) = absurd (over (command_at p c) z at2)
            where
              over : (o : Option Command) (z : Present) → (after_end p c o (begun 0 None None) outcome.NoSnapshot).present ≡ Some z → ⊥
              over None z e = cc
              over (Some d2) z e = cc
          failed (IsNext t z tells id restarts may at2 command n f new) =
              let same : Try (record { id = attempt_id p c (begun 0 None None); epoch = None; conds = []; gots = []; outcome = outcome.NoSnapshot }) ≡ Try t = same_Some _ (Try t) tells in
              clash (is_restart t.outcome) restarts (let how : outcome.NoSnapshot ≡ t.outcome = cc in ap is_restart (sym how))
      by (Some name) (Some e) now is = Begins (begun 0 None (Some e)) refl refl refl (record { command = d; at = at; known = c.known; epoch = sym is })

  command-moves : (c : ClientState) (d : Command) → c.present ≡ None → command_at p c ≡ Some d → MovesOn c (command_moves p c d)
  command-moves c (Run ops turns snapshot) none at = begins-moves c (Run ops turns snapshot) (first_epoch c.known snapshot) none at refl
  command-moves c (Snap name cont) none at = begins-moves c (Snap name cont) None none at refl
  command-moves c (Aggregate cont) none at = begins-moves c (Aggregate cont) None none at refl
  command-moves c (Tell n) none at = Stays refl refl
  command-moves c (Skip turns) none at = Stays refl refl

  moves-at_moves : (c : ClientState) (o : Option Command) (present : Option Present) → command_at p c ≡ o → c.present ≡ present → MovesOn c (moves_at p c o present)
  moves-at_moves c None present at here = Stays refl refl
  moves-at_moves c (Some d) None at here = command-moves c d here at
  moves-at_moves c (Some d) (Some a) at here = GoesFrom a here (attempt-leads c a d here)

  -- each move of a client
  pub moved-moves : (c : ClientState) → MovesOn c (moved p c)
  unfolding moved
  moved-moves c = by (waits c)
    where
      by : (b : Bool) → MovesOn c (if b then rests c else moves_at p c (command_at p c) c.present)
      by true = Stays refl refl
      by false = moves-at_moves c (command_at p c) c.present refl refl
