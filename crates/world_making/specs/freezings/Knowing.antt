-- By which moves a client comes to know a snapshot, and of what it tells as committed.
use Rattle.std.specs.Prelude.{ℕ, ◌≡◌, ◌⊎◌, ◌+◌, ◌++◌, ◌&&◌, Bool, true, false, nat_lt, List, [], ◌∷◌, slice_get, is_some, Option, Some, None, if◌then◌else◌, refl}
use Rattle.std.proofs.Common.{sym, subst, ◌∙◌, ap, inl, inr}
use Rattle.base_types.specs.declared.answer.Answer.{Answer}
use Rattle.base_types.specs.declared.epoch.Epoch.{Epoch}
use Rattle.base_types.specs.declared.id.AttemptId.{AttemptId}
use Rattle.base_types.specs.declared.id.ContId.{ContId}
use Rattle.base_types.specs.declared.operation.Cond.{Cond}
use Rattle.base_types.specs.declared.operation.MinorWrite.{MinorWrite}
use Rattle.base_types.specs.declared.operation.Op.{Op}
use Rattle.base_types.specs.declared.operation.Read.{Read}
use Rattle.base_types.specs.declared.outcome.Cause.TheVariants.{Unresolved}
use Rattle.base_types.specs.declared.outcome.Outcome.{Outcome}
use Rattle.base_types.specs.declared.outcome.Outcome.TheVariants as outcome
use Rattle.base_types.specs.declared.report.Attempt.{Attempt}
use Rattle.base_types.specs.declared.report.Line.{Line}
use Rattle.base_types.specs.declared.report.Line.TheVariants.{Try}
use Rattle.base_types.specs.declared.script.Command.{Command}
use Rattle.base_types.specs.declared.script.Command.TheVariants.{Aggregate, Run, Skip, Snap, Tell}
use Rattle.base_messages.specs.declared.message.Message.{Message, more_of-Message}
use Rattle.base_messages.specs.declared.message.Message.TheVariants as message
use Rattle.base_messages.specs.declared.message.Reply.{Reply}
use Rattle.base_messages.specs.declared.message.Reply.TheVariants as reply
use Rattle.daos_model.specs.Accesses.{minor_writes, op_path}
use Rattle.daos_model.specs.Attempts.{is_restart, is_unsure, snapshot_of_command}
use Rattle.daos_model.specs.BoolLaws.{and_left, and_right, both}
use Rattle.daos_model.specs.Conditions.{holds_where}
use Rattle.daos_model.specs.EntryLaws.{same_attempt-itself}
use Rattle.dtx_base.specs.LeaderLaws.{same-is}
use Rattle.model_laws.specs.Members.{Has, has-cases, has-left, has-right}
use Rattle.world_base.specs.declared.client.ClientPlan.{ClientPlan}
use Rattle.world_base.specs.declared.client.ClientState.{ClientState}
use Rattle.world_base.specs.declared.client.KnownSnap.{KnownSnap}
use Rattle.world_base.specs.declared.client.Present.{Present}
use Rattle.world_base.specs.declared.client.Stage.{Stage}
use Rattle.world_base.specs.declared.client.Stage.TheVariants as stage
use Rattle.world_base.specs.ClientTurns.{Move, about, after_end, answered, asks_or_goes, at_present, attempt_id, attempt_moves, begins_at, begun, command_at, command_moves, commits, end_line, ends, first_epoch, goes, group_count, group_told, heard, heard_at, hears_epochs, is_about, is_yes, joined, knows, knows_epoch, moved, moves_at, next_command, next_stage, op_moves, op_of, op_told, question, replied, reset, reset_by, rests, run_moves, snaps_known, told_at, waits}
use Rattle.world_base.specs.Letters.{reset_message}
use Rattle.world_letters.specs.clients.Answered.{is_refusal}
use Rattle.world_letters.specs.lines.Lines.{IsRefusalOrNone, TellsEnd}

-- ---- moves

-- it knows the same, and is where it was, or at no attempt
pub record MovesQuietly (c : ClientState) (m : Move) : Type 0 where
  pub known : m.state.known ≡ c.known
  pub placed : (m.state.place ≡ c.place) ⊎ (m.state.present ≡ None)

-- no line tells that an attempt is committed
abbrev pub TellsNoCommit : Option Line → Type 0
TellsNoCommit o = (b : Attempt) → o ≡ Some (Try b) → b.outcome ≡ outcome.Committed → ⊥

-- or of an attempt of a transaction alone
abbrev pub RunsCommitted : ClientPlan → ClientState → Option Line → Type 0
RunsCommitted p c o = (b : Attempt) → o ≡ Some (Try b) → b.outcome ≡ outcome.Committed → (a : Present) × (c.present ≡ Some a) × (b.id ≡ attempt_id p c a) ×
    ((ops : List Op) × (turns : List ℕ) × (snapshot : Option (List ℕ)) × (command_at p c ≡ Some (Run ops turns snapshot)))

-- of a present attempt that makes a snapshot no epoch is known
abbrev pub IsUndated : ClientPlan → ClientState → Type 0
IsUndated p c = (a : Present) (name : List ℕ) (cont : ContId) → c.present ≡ Some a → command_at p c ≡ Some (Snap name cont) → a.epoch ≡ None

after-so : (p : ClientPlan) (c : ClientState) (o : Option Command) (a : Present) (how : Outcome) → ((after_end p c o a how).known ≡ c.known) × (((after_end p c o a how).place ≡ c.place) ⊎ ((after_end p c o a how).present ≡ None))
after-so p c None a how = (refl, inr refl)
after-so p c (Some d) a how = by (is_restart how && nat_lt (a.attempt + 1) p.attempts)
  where
    then' : Bool → ClientState
    then' b = if b then at_present (begun (a.attempt + 1) a.first (first_epoch c.known (snapshot_of_command d))) c else next_command c

    by : (b : Bool) → ((then' b).known ≡ c.known) × (((then' b).place ≡ c.place) ⊎ ((then' b).present ≡ None))
    by true = (refl, inl refl)
    by false = (refl, inr refl)

ends-so : (p : ClientPlan) (c : ClientState) (a : Present) (how : Outcome) → MovesQuietly c (ends p c a how)
ends-so p c a how = let k = after-so p c (command_at p c) a how in record { known = k.0; placed = k.1 }

ends-none : (p : ClientPlan) (c : ClientState) (a : Present) (how : Outcome) → (how ≡ outcome.Committed → ⊥) → TellsNoCommit (ends p c a how).line
ends-none p c a how off b is committed = off (let same : how ≡ b.outcome = cc in same ∙ committed)

-- a new attempt that makes a snapshot has none
ends-undated : (p : ClientPlan) (c : ClientState) (a : Present) (how : Outcome) → IsUndated p (ends p c a how).state
ends-undated p c a how = by (command_at p c) refl
  where
    by : (o : Option Command) → command_at p c ≡ o → IsUndated p (after_end p c o a how)
    by None is = λ z name cont at here. (let no : ⊥ = cc in absurd no)
    by (Some d) is = again (is_restart how && nat_lt (a.attempt + 1) p.attempts)
      where
        first : (d : Command) (name : List ℕ) (cont : ContId) → d ≡ Snap name cont → first_epoch c.known (snapshot_of_command d) ≡ None
        first (Snap name2 cont2) name cont same = refl
        first d name cont same = let no : ⊥ = cc in absurd no

        again : (b : Bool) → IsUndated p (if b then at_present (begun (a.attempt + 1) a.first (first_epoch c.known (snapshot_of_command d))) c else next_command c)
        again true z name cont at here =
            let same : begun (a.attempt + 1) a.first (first_epoch c.known (snapshot_of_command d)) ≡ z = cc in
            let command : d ≡ Snap name cont = cc (is, here) in
            sym (ap (λ y. y.epoch) same) ∙ first d name cont command
        again false z name cont at here = let no : ⊥ = cc in absurd no

-- where its command makes no snapshot, it is at none
placed-undated : (p : ClientPlan) (c : ClientState) (m : Move) → ((name : List ℕ) (cont : ContId) → command_at p c ≡ Some (Snap name cont) → ⊥) → (m.state.place ≡ c.place) ⊎ (m.state.present ≡ None) → IsUndated p m.state
placed-undated p c m off (inl same) a name cont at here = absurd (off name cont (ap (slice_get p.commands) (sym same) ∙ here))
placed-undated p c m off (inr none) a name cont at here = let no : ⊥ = cc (none, at) in absurd no

begins-so : (p : ClientPlan) (c : ClientState) (snapshot : Option (List ℕ)) (epoch : Option Epoch) → MovesQuietly c (begins_at p c snapshot epoch) × TellsNoCommit (begins_at p c snapshot epoch).line
begins-so p c None epoch = (record { known = refl; placed = inl refl }, λ b is. (let no : ⊥ = cc in absurd no))
begins-so p c (Some name) None = (ends-so p c (begun 0 None None) outcome.NoSnapshot, ends-none p c (begun 0 None None) outcome.NoSnapshot (λ same. (let no : ⊥ = cc in no)))
begins-so p c (Some name) (Some e) = (record { known = refl; placed = inl refl }, λ b is. (let no : ⊥ = cc in absurd no))

none-line : (m : Move) → m.line ≡ None → TellsNoCommit m.line
none-line m none b is = let no : ⊥ = cc (none, is) in absurd no

command-so : (p : ClientPlan) (c : ClientState) (d : Command) → c.present ≡ None → MovesQuietly c (command_moves p c d) × TellsNoCommit (command_moves p c d).line
command-so p c (Run ops turns snapshot) none = begins-so p c snapshot (first_epoch c.known snapshot)
command-so p c (Snap name cont) none = begins-so p c None None
command-so p c (Aggregate cont) none = begins-so p c None None
command-so p c (Tell client) none = (record { known = refl; placed = inr none }, none-line (command_moves p c (Tell client)) refl)
command-so p c (Skip turns) none = (record { known = refl; placed = inr none }, none-line (command_moves p c (Skip turns)) refl)

commits-so : (p : ClientPlan) (c : ClientState) (a : Present) (ws : List MinorWrite) → MovesQuietly c (commits p c a ws)
commits-so p c a [] = ends-so p c a outcome.Committed
commits-so p c a (w ∷ ws) = record { known = refl; placed = inl refl }

asks-so : (p : ClientPlan) (c : ClientState) (a : Present) (snapshot : Bool) (o : Option Read) → MovesQuietly c (asks_or_goes p c a snapshot o)
asks-so p c a snapshot None = record { known = refl; placed = inl refl }
asks-so p c a snapshot (Some rd) = record { known = refl; placed = inl refl }

op-so : (p : ClientPlan) (c : ClientState) (a : Present) (ops : List Op) (snapshot : Bool) (o : Option Op) → MovesQuietly c (op_moves p c a ops snapshot o)
op-so p c a ops snapshot None = commits-so p c a (minor_writes 0 ops)
op-so p c a ops snapshot (Some op) = asks-so p c a snapshot (question a.stage op)

run-so : (p : ClientPlan) (c : ClientState) (a : Present) (ops : List Op) (turns : List ℕ) (snapshot : Bool) (s : Stage) → MovesQuietly c (run_moves p c a ops turns snapshot s)
run-so p c a ops turns snapshot stage.Skip = record { known = refl; placed = inl refl }
run-so p c a ops turns snapshot stage.Cond = op-so p c a ops snapshot (slice_get ops a.op)
run-so p c a ops turns snapshot stage.Act = op-so p c a ops snapshot (slice_get ops a.op)

attempt-so : (p : ClientPlan) (c : ClientState) (a : Present) (d : Command) → MovesQuietly c (attempt_moves p c a d)
attempt-so p c a (Run ops turns snapshot) = run-so p c a ops turns (is_some snapshot) a.stage
attempt-so p c a (Snap name cont) = record { known = refl; placed = inl refl }
attempt-so p c a (Aggregate cont) = record { known = refl; placed = inl refl }
attempt-so p c a (Tell client) = record { known = refl; placed = inl refl }
attempt-so p c a (Skip turns) = record { known = refl; placed = inl refl }

moves-so : (p : ClientPlan) (c : ClientState) (o : Option Command) (a : Option Present) → c.present ≡ a → MovesQuietly c (moves_at p c o a)
moves-so p c None a here = record { known = refl; placed = inl refl }
moves-so p c (Some d) None here = (command-so p c d here).0
moves-so p c (Some d) (Some a) here = attempt-so p c a d

module _ (p : ClientPlan) (c : ClientState) where
  -- which attempts it tells of as committed
  run-committed : (a : Present) (ops : List Op) (turns : List ℕ) (snapshot : Option (List ℕ)) → c.present ≡ Some a → command_at p c ≡ Some (Run ops turns snapshot) → (m : Move)
      → (m.line ≡ None) ⊎ (m.line ≡ Some (end_line p c a outcome.Committed)) → RunsCommitted p c m.line
  run-committed a ops turns snapshot at here m (inl none) b is committed = absurd (none-line m none b is committed)
  run-committed a ops turns snapshot at here m (inr one) b is committed = let same : attempt_id p c a ≡ b.id = cc (one, is) in (a, at, sym same, (ops, turns, snapshot, here))

  run-line : (a : Present) (ops : List Op) (turns : List ℕ) (snapshot : Bool) (s : Stage) → ((run_moves p c a ops turns snapshot s).line ≡ None) ⊎ ((run_moves p c a ops turns snapshot s).line ≡ Some (end_line p c a outcome.Committed))
  run-line a ops turns snapshot s = by s
    where
      writes : (ws : List MinorWrite) → ((commits p c a ws).line ≡ None) ⊎ ((commits p c a ws).line ≡ Some (end_line p c a outcome.Committed))
      writes [] = inr refl
      writes (w ∷ ws) = inl refl

      asks : (o : Option Read) → (asks_or_goes p c a snapshot o).line ≡ None
      asks None = refl
      asks (Some rd) = refl

      op : (o : Option Op) → ((op_moves p c a ops snapshot o).line ≡ None) ⊎ ((op_moves p c a ops snapshot o).line ≡ Some (end_line p c a outcome.Committed))
      op None = writes (minor_writes 0 ops)
      op (Some o) = inl (asks (question a.stage o))

      by : (s : Stage) → ((run_moves p c a ops turns snapshot s).line ≡ None) ⊎ ((run_moves p c a ops turns snapshot s).line ≡ Some (end_line p c a outcome.Committed))
      by stage.Skip = inl refl
      by stage.Cond = op (slice_get ops a.op)
      by stage.Act = op (slice_get ops a.op)

  moves-committed : (o : Option Command) → command_at p c ≡ o → (a : Option Present) → c.present ≡ a → RunsCommitted p c (moves_at p c o a).line
  moves-committed None is a at = λ b line'. (let no : ⊥ = cc in absurd no)
  moves-committed (Some d) is None at = λ b line' committed. absurd ((command-so p c d at).1 b line' committed)
  moves-committed (Some (Run ops turns snapshot)) is (Some a) at = run-committed a ops turns snapshot at is (attempt_moves p c a (Run ops turns snapshot)) (run-line a ops turns (is_some snapshot) a.stage)
  moves-committed (Some (Snap name cont)) is (Some a) at = λ b line'. (let no : ⊥ = cc in absurd no)
  moves-committed (Some (Aggregate cont)) is (Some a) at = λ b line'. (let no : ⊥ = cc in absurd no)
  moves-committed (Some (Tell client)) is (Some a) at = λ b line'. (let no : ⊥ = cc in absurd no)
  moves-committed (Some (Skip turns)) is (Some a) at = λ b line'. (let no : ⊥ = cc in absurd no)

  other-command : (d : Command) → command_at p c ≡ Some d → ((name : List ℕ) (cont : ContId) → d ≡ Snap name cont → ⊥) → (name : List ℕ) (cont : ContId) → command_at p c ≡ Some (Snap name cont) → ⊥
  other-command d is off name cont here = off name cont (let same : d ≡ Snap name cont = cc (is, here) in same)

  moves-undated : (o : Option Command) → command_at p c ≡ o → (q : Option Present) → c.present ≡ q → IsUndated p c → IsUndated p (moves_at p c o q).state
  moves-undated None is q at before = before
  moves-undated (Some (Snap name cont)) is None at before = λ z name2 cont2 here command. (let same : begun 0 None None ≡ z = cc in sym (ap (λ y. y.epoch) same))
  moves-undated (Some (Snap name cont)) is (Some a) at before = λ z name2 cont2 here command. (let same : record a { waits = true } ≡ z = cc in sym (ap (λ y. y.epoch) same) ∙ before a name cont at is)
  moves-undated (Some (Run ops turns snapshot)) is q at before = placed-undated p c (moves_at p c (Some (Run ops turns snapshot)) q)
      (other-command (Run ops turns snapshot) is (λ n k same. (let no : ⊥ = cc in no))) (moves-so p c (Some (Run ops turns snapshot)) q at).placed
  moves-undated (Some (Aggregate cont)) is q at before = placed-undated p c (moves_at p c (Some (Aggregate cont)) q)
      (other-command (Aggregate cont) is (λ n k same. (let no : ⊥ = cc in no))) (moves-so p c (Some (Aggregate cont)) q at).placed
  moves-undated (Some (Tell client)) is q at before = placed-undated p c (moves_at p c (Some (Tell client)) q) (other-command (Tell client) is (λ n k same. (let no : ⊥ = cc in no))) (moves-so p c (Some (Tell client)) q at).placed
  moves-undated (Some (Skip turns)) is q at before = placed-undated p c (moves_at p c (Some (Skip turns)) q) (other-command (Skip turns) is (λ n k same. (let no : ⊥ = cc in no))) (moves-so p c (Some (Skip turns)) q at).placed

pub moved-same : (p : ClientPlan) (c : ClientState) → (moved p c).state.known ≡ c.known
unfolding moved
moved-same p c = by (waits c)
  where
    by : (b : Bool) → (if b then rests c else moves_at p c (command_at p c) c.present).state.known ≡ c.known
    by true = refl
    by false = (moves-so p c (command_at p c) c.present refl).known

pub moved-committed : (p : ClientPlan) (c : ClientState) → RunsCommitted p c (moved p c).line
unfolding moved
moved-committed p c = by (waits c)
  where
    by : (b : Bool) → RunsCommitted p c (if b then rests c else moves_at p c (command_at p c) c.present).line
    by true = λ b is. (let no : ⊥ = cc in absurd no)
    by false = moves-committed p c (command_at p c) refl c.present refl

pub moved-undated : (p : ClientPlan) (c : ClientState) → IsUndated p c → IsUndated p (moved p c).state
unfolding moved
moved-undated p c before = by (waits c)
  where
    by : (b : Bool) → IsUndated p (if b then rests c else moves_at p c (command_at p c) c.present).state
    by true = before
    by false = moves-undated p c (command_at p c) refl c.present refl before

-- ---- hearing

-- it stays so, and no line tells that an attempt is committed
record Quietly (c : ClientState) (m : Move) : Type 0 where
  stays : MovesQuietly c m
  none : TellsNoCommit m.line

goes-quietly : (c : ClientState) (m : Move) → m.state.known ≡ c.known → m.state.place ≡ c.place → m.line ≡ None → Quietly c m
goes-quietly c m known place none = record { stays = record { known = known; placed = inl place }; none = none-line m none }

ends-quietly : (p : ClientPlan) (c : ClientState) (a : Present) (how : Outcome) → (how ≡ outcome.Committed → ⊥) → Quietly c (ends p c a how)
ends-quietly p c a how off = record { stays = ends-so p c a how; none = ends-none p c a how off }

told-quietly : (p : ClientPlan) (c : ClientState) (a : Present) (cond : Cond) (s : Stage) (b : Answer) → Quietly c (told_at p c a cond s b)
told-quietly p c a cond stage.Skip b = goes-quietly c _ refl refl refl
told-quietly p c a cond stage.Act b = goes-quietly c _ refl refl refl
told-quietly p c a cond stage.Cond b = by (holds_where (is_yes b) cond)
  where
    by : (holds : Bool)
        → Quietly c (if holds then goes (at_present (next_stage stage.Cond (record a { conds = a.conds ++ (a.op, is_yes b) ∷ [] })) c) else ends p c (record a { conds = a.conds ++ (a.op, is_yes b) ∷ [] }) (outcome.CondFailed a.op))
    by true = goes-quietly c _ refl refl refl
    by false = ends-quietly p c (record a { conds = a.conds ++ (a.op, is_yes b) ∷ [] }) (outcome.CondFailed a.op) (λ same. (let no : ⊥ = cc in no))

group-quietly : (p : ClientPlan) (c : ClientState) (a : Present) (op : Op) (b : Answer) → Quietly c (group_told p c a op b)
group-quietly p c a op b = by (nat_lt (a.group + 1) (group_count (op_path op).obj (op_path op).dkey p.targets))
  where
    by : (more : Bool) → Quietly c (if more then goes (at_present (record a { group = a.group + 1; found = Some (joined a.found b) }) c) else told_at p c a op.cond a.stage (joined a.found b))
    by true = goes-quietly c _ refl refl refl
    by false = told-quietly p c a op.cond a.stage (joined a.found b)

op-quietly : (p : ClientPlan) (c : ClientState) (a : Present) (b : Answer) (o : Option Op) → Quietly c (op_told p c a b o)
op-quietly p c a b None = goes-quietly c _ refl refl refl
op-quietly p c a b (Some op) = group-quietly p c a op b

refused-not : (how : Outcome) → is_refusal how ≡ true → how ≡ outcome.Committed → ⊥
refused-not how refused same = let no : ⊥ = cc (ap is_refusal same, refused) in no

replied-quietly : (p : ClientPlan) (c : ClientState) (a : Present) (b : Reply) → IsRefusalOrNone b → Quietly c (replied p c a b)
replied-quietly p c a (reply.Answer b) may = op-quietly p c a b (op_of (command_at p c) a.op)
replied-quietly p c a (reply.Outcome how) may = ends-quietly p c a how (refused-not how may)

reset-quietly : (p : ClientPlan) (c : ClientState) (a : Present) (t : ℕ) (m : Message) → Quietly c (reset p c a t m)
reset-quietly p c a t (message.Commit x e first tracker ws) = goes-quietly c _ refl refl refl
reset-quietly p c a t (message.Ask x) = goes-quietly c _ refl refl refl
reset-quietly p c a t m = ends-quietly p c a _ (λ same. (let no : ⊥ = cc in no))

reset-by_quietly : (p : ClientPlan) (c : ClientState) (a : Present) (t : ℕ) (down : Bool) (m : Message) → Quietly c (reset_by p c a t down m)
reset-by_quietly p c a t false m = reset-quietly p c a t m
reset-by_quietly p c a t true m = ends-quietly p c a (outcome.Unknown t) (λ same. (let no : ⊥ = cc in no))

-- its attempt ended: it was told so, knows then what it made, and tells of it
pub record LearnsBy (p : ClientPlan) (c : ClientState) (m : Message) (mv : Move) : Type 0 where
  pub a : Present
  pub at : c.present ≡ Some a
  pub e : Option Epoch
  pub how : Outcome
  pub says : m ≡ message.Ended (attempt_id p c a) e how
  pub learns : mv.state.known ≡ snaps_known (command_at p c) e how c.known
  pub b : Attempt
  pub line : mv.line ≡ Some (Try b)
  pub id : b.id ≡ attempt_id p c a
  pub epoch : b.epoch ≡ knows_epoch a.epoch e
  pub outcome : b.outcome ≡ how

answered-knows : (p : ClientPlan) (c : ClientState) (a : Present) (m : Message) → TellsEnd m → c.present ≡ Some a → is_about (attempt_id p c a) (about m) ≡ true → Quietly c (answered p c a m) ⊎ LearnsBy p c m (answered p c a m)
answered-knows p c a (message.Fetched x op group e b) may at of = inl (replied-quietly p c (knows e a) b may)
answered-knows p c a (message.Ended x e how) may at of = inr (record {
  a = a;
  at = at;
  e = e;
  how = how;
  says = ap (λ y. message.Ended y e how) (sym (same-is (attempt_id p c a) x of));
  learns = (ends-so p (record c { known = snaps_known (command_at p c) e how c.known }) (knows e a) how).known;
  b = record { id = attempt_id p c a; epoch = knows_epoch a.epoch e; conds = a.conds; gots = a.gots; outcome = how };
  line = refl;
  id = refl;
  epoch = refl;
  outcome = refl;
})
answered-knows p c a (message.Reset' t down place (more_of-Message m rest)) may at of = inl (reset-by_quietly p c (record a { waits = false }) t down m)
answered-knows p c a m may at of = inl (goes-quietly c _ refl refl refl)

-- it knows the same, and tells of no attempt that it is committed; or its attempt ended so
abbrev pub KnowsThen : ClientPlan → ClientState → Message → Move → Type 0
KnowsThen p c m mv = ((mv.state.known ≡ c.known) × TellsNoCommit mv.line) ⊎ LearnsBy p c m mv

-- what a client knows and tells that heard a message: the same, and of no attempt that it is committed; or what it was told
pub heard-knows : (p : ClientPlan) (c : ClientState) (m : Message) → TellsEnd m → KnowsThen p c m (heard p c m)
unfolding heard
heard-knows p c m may = at c.present refl
  where
    at : (o : Option Present) → c.present ≡ o → KnowsThen p c m (heard_at p (hears_epochs m c) m o)
    at None is = inl (refl, none-line (goes (hears_epochs m c)) refl)
    at (Some a) is = by (a.waits && is_about (attempt_id p (hears_epochs m c) a) (about m)) refl
      where
        again : LearnsBy p (hears_epochs m c) m (answered p (hears_epochs m c) a m) → LearnsBy p c m (answered p (hears_epochs m c) a m)
        again k = record { a = k.a; at = k.at; e = k.e; how = k.how; says = k.says; learns = k.learns; b = k.b; line = k.line; id = k.id; epoch = k.epoch; outcome = k.outcome }

        by : (b : Bool) → (a.waits && is_about (attempt_id p (hears_epochs m c) a) (about m)) ≡ b → KnowsThen p c m (if b then answered p (hears_epochs m c) a m else goes (hears_epochs m c))
        by true of = elim (answered-knows p (hears_epochs m c) a m may is (and_right a.waits (is_about (attempt_id p (hears_epochs m c) a) (about m)) of)) [ inl q ↦ inl (q.stays.known, q.none) | inr k ↦ inr (again k) ]
        by false of = inl (refl, none-line (goes (hears_epochs m c)) refl)

-- a message answers a read of this attempt
abbrev pub IsReplyOf : AttemptId → Message → Type 0
IsReplyOf x (message.Fetched y op group e b) = x ≡ y
IsReplyOf x m = ⊥

-- where no read is answered for an attempt that makes a snapshot, no epoch is known of one
answered-undated : (p : ClientPlan) (c : ClientState) (a : Present) (m : Message) → c.present ≡ Some a → is_about (attempt_id p c a) (about m) ≡ true
    → ((name : List ℕ) (cont : ContId) → command_at p c ≡ Some (Snap name cont) → IsReplyOf (attempt_id p c a) m → ⊥) → IsUndated p c
    → IsUndated p (answered p c a m).state
answered-undated p c a (message.Fetched x op group e b) at of off before = placed-undated p c (replied p c (knows e a) b) (λ name cont here. off name cont here (same-is (attempt_id p c a) x of)) (placed b)
  where
    placed : (b : Reply) → ((replied p c (knows e a) b).state.place ≡ c.place) ⊎ ((replied p c (knows e a) b).state.present ≡ None)
    placed (reply.Answer b) = (op-quietly p c (knows e a) b (op_of (command_at p c) a.op)).stays.placed
    placed (reply.Outcome how) = (ends-so p c (knows e a) how).placed
answered-undated p c a (message.Ended x e how) at of off before = ends-undated p (record c { known = snaps_known (command_at p c) e how c.known }) (knows e a) how
answered-undated p c a (message.Reset' t down place (more_of-Message m rest)) at of off before = by down m
  where
    asks : (z : Present) (name : List ℕ) (cont : ContId) → Some (record a { waits = true }) ≡ Some z → command_at p c ≡ Some (Snap name cont) → z.epoch ≡ None
    asks z name cont here command = let same : record a { waits = true } ≡ z = cc in sym (ap (λ y. y.epoch) same) ∙ before a name cont at command

    by : (down : Bool) (m : Message) → IsUndated p (reset_by p c (record a { waits = false }) t down m).state
    by false (message.Commit x e first tracker ws) = asks
    by false (message.Ask x) = asks
    by false m = ends-undated p c (record a { waits = false }) _
    by true m = ends-undated p c (record a { waits = false }) (outcome.Unknown t)
answered-undated p c a m at of off before = before

pub heard-undated : (p : ClientPlan) (c : ClientState) (m : Message) → ((a : Present) (name : List ℕ) (cont : ContId) → c.present ≡ Some a → a.waits ≡ true → command_at p c ≡ Some
    (Snap name cont) → IsReplyOf (attempt_id p c a) m → ⊥) → IsUndated p c
    → IsUndated p (heard p c m).state
unfolding heard
heard-undated p c m off before = at c.present refl
  where
    at : (o : Option Present) → c.present ≡ o → IsUndated p (heard_at p (hears_epochs m c) m o).state
    at None is = before
    at (Some a) is = by (a.waits && is_about (attempt_id p (hears_epochs m c) a) (about m)) refl
      where
        by : (b : Bool) → (a.waits && is_about (attempt_id p (hears_epochs m c) a) (about m)) ≡ b → IsUndated p (if b then answered p (hears_epochs m c) a m else goes (hears_epochs m c)).state
        by true of =
            answered-undated p (hears_epochs m c) a m is (and_right a.waits (is_about (attempt_id p (hears_epochs m c) a) (about m)) of)
            (λ name cont here. off a name cont is (and_left a.waits (is_about (attempt_id p (hears_epochs m c) a) (about m)) of) here) before
        by false of = before

-- a snapshot that it made: its attempt is committed
pub record IsLearned (o : Option Command) (e : Option Epoch) (how : Outcome) (k : KnownSnap) : Type 0 where
  pub cont : ContId
  pub command : o ≡ Some (Snap k.name cont)
  pub epoch : e ≡ Some k.epoch
  pub committed : how ≡ outcome.Committed

pub learned-is : (o : Option Command) (e : Option Epoch) (how : Outcome) (known : List KnownSnap) (k : KnownSnap) → Has k (snaps_known o e how known) → Has k known ⊎ IsLearned o e how k
learned-is (Some (Snap name cont)) (Some e) outcome.Committed known k i = elim (has-cases known (record { name = name; epoch = e } ∷ []) k i) [
  | inl j ↦ inl j
  | inr j ↦ inr (one j)
]
  where
    one : Has k (record { name = name; epoch = e } ∷ []) → IsLearned (Some (Snap name cont)) (Some e) outcome.Committed k
    one (inl same) = record { cont = cont; command = ap (λ n. Some (Snap n cont)) (sym (ap (λ y. y.name) same)); epoch = ap (λ y. Some y) (sym (ap (λ y. y.epoch) same)); committed = refl }
    one (inr none) = absurd none
learned-is o e how known k i = inl i

-- it knows what it knew, and what it made
pub learned-more : (o : Option Command) (e : Option Epoch) (how : Outcome) (known : List KnownSnap) (k : KnownSnap) → Has k known → Has k (snaps_known o e how known)
learned-more (Some (Snap name cont)) (Some e) outcome.Committed known k i = has-left known (record { name = name; epoch = e } ∷ []) k i
learned-more o e how known k i = i

pub learned-new : (o : Option Command) (e : Option Epoch) (how : Outcome) (known : List KnownSnap) (name : List ℕ) (cont : ContId) (s : Epoch) → o ≡ Some (Snap name cont)
    → e ≡ Some s → how ≡ outcome.Committed → Has (record { name = name; epoch = s }) (snaps_known o e how known)
learned-new o e how known name cont s command at committed =
    subst (λ z. Has (record { name = name; epoch = s }) (snaps_known z e how known)) (sym command)
    (subst (λ z. Has (record { name = name; epoch = s }) (snaps_known (Some (Snap name cont)) z how known)) (sym at)
    (subst (λ z. Has (record { name = name; epoch = s }) (snaps_known (Some (Snap name cont)) (Some s) z known)) (sym committed) (has-right known (record { name = name; epoch = s } ∷ []) (record { name = name; epoch = s }) (inl refl))))

-- ---- what it tells of an attempt that ends

module _ (p : ClientPlan) (c : ClientState) (a : Present) (at : c.present ≡ Some a) (waits-now : a.waits ≡ true) where
  -- that it waits for is heard of
  about-it : (m : Message) → about m ≡ Some (attempt_id p c a) → (a.waits && is_about (attempt_id p c a) (about m)) ≡ true
  about-it m is = both a.waits (is_about (attempt_id p c a) (about m)) waits-now (ap (is_about (attempt_id p c a)) is ∙ same_attempt-itself (attempt_id p c a))

  answers-line : (m : Message) → about m ≡ Some (attempt_id p c a) → (heard p c m).line ≡ (answered p (hears_epochs m c) a m).line
  unfolding heard
  answers-line m is = ap (λ o. (heard_at p (hears_epochs m c) m o).line) at ∙ ap (λ t. (if t then answered p (hears_epochs m c) a m else goes (hears_epochs m c)).line) (about-it m is)

  -- the line of its attempt, where that ends so
  pub record EndsSo (m : Message) (epoch' : Option Epoch) (Fate : Attempt → Type 0) : Type 0 where
    pub b : Attempt
    pub line : (heard p c m).line ≡ Some (Try b)
    pub id : b.id ≡ attempt_id p c a
    pub epoch : b.epoch ≡ epoch'
    pub fate : Fate b

  pub heard-ended : (m : Message) (e : Option Epoch) (how : Outcome) → m ≡ message.Ended (attempt_id p c a) e how → EndsSo m (knows_epoch a.epoch e) (λ b. b.outcome ≡ how)
  heard-ended m e how says = record {
    b = record { id = attempt_id p c a; epoch = knows_epoch a.epoch e; conds = a.conds; gots = a.gots; outcome = how };
    line = ap (λ z. (heard p c z).line) says ∙ answers-line (message.Ended (attempt_id p c a) e how) refl;
    id = refl;
    epoch = refl;
    fate = refl;
  }

  pub heard-lost : (m : Message) (t : ℕ) (down : Bool) (cont : ContId) (name : List ℕ) (k : Epoch) → m ≡ reset_message t down (message.Snap (attempt_id p c a) cont name k) → EndsSo m a.epoch (λ b. is_unsure b ≡ true)
  heard-lost m t down cont name k says = by down says
    where
      by : (down : Bool) → m ≡ reset_message t down (message.Snap (attempt_id p c a) cont name k) → EndsSo m a.epoch (λ b. is_unsure b ≡ true)
      by true is = record {
        b = record { id = attempt_id p c a; epoch = a.epoch; conds = a.conds; gots = a.gots; outcome = outcome.Unknown t };
        line = ap (λ z. (heard p c z).line) is ∙ answers-line (reset_message t true (message.Snap (attempt_id p c a) cont name k)) refl;
        id = refl;
        epoch = refl;
        fate = refl;
      }
      by false is = record {
        b = record { id = attempt_id p c a; epoch = a.epoch; conds = a.conds; gots = a.gots; outcome = outcome.Restart (Unresolved (attempt_id p c a)) };
        line = ap (λ z. (heard p c z).line) is ∙ answers-line (reset_message t false (message.Snap (attempt_id p c a) cont name k)) refl;
        id = refl;
        epoch = refl;
        fate = same_attempt-itself (attempt_id p c a);
      }
