-- A client tells in a line that its attempt is to restart only where it hears so, or hears that what it asked got no answer.
use Rattle.std.specs.Prelude.{ℕ, ◌≡◌, ◌+◌, ◌++◌, ◌&&◌, Bool, true, false, nat_lt, is_some, List, [], ◌∷◌, map, slice_get, Option, Some, None, refl, if◌then◌else◌}
use Rattle.std.proofs.Common.{sym, ◌∙◌, ap, subst, inl, inr}
use Rattle.std.proofs.lemmas.Bool.{and_parts}
use Rattle.base_types.specs.declared.answer.Answer.{Answer}
use Rattle.base_types.specs.declared.epoch.Epoch.{Epoch}
use Rattle.base_types.specs.declared.id.AttemptId.{AttemptId}
use Rattle.base_types.specs.declared.operation.Cond.{Cond}
use Rattle.base_types.specs.declared.operation.MinorWrite.{MinorWrite}
use Rattle.base_types.specs.declared.operation.Op.{Op}
use Rattle.base_types.specs.declared.operation.Read.{Read}
use Rattle.base_types.specs.declared.outcome.Outcome.{Outcome}
use Rattle.base_types.specs.declared.outcome.Outcome.TheVariants as outcome
use Rattle.base_types.specs.declared.report.Attempt.{Attempt}
use Rattle.base_types.specs.declared.report.Line.{Line}
use Rattle.base_types.specs.declared.report.Line.TheVariants as line
use Rattle.base_types.specs.declared.script.Command.{Command}
use Rattle.base_types.specs.declared.script.Command.TheVariants.{Aggregate, Run, Skip, Snap, Tell}
use Rattle.base_messages.specs.declared.message.Message.{Message, more_of-Message}
use Rattle.base_messages.specs.declared.message.Message.TheVariants as message
use Rattle.base_messages.specs.declared.message.Reply.{Reply}
use Rattle.base_messages.specs.declared.message.Reply.TheVariants as reply
use Rattle.daos_model.specs.Accesses.{minor_writes, op_path}
use Rattle.daos_model.specs.Attempts.{is_restart, tries}
use Rattle.daos_model.specs.Conditions.{holds_where}
use Rattle.daos_model.specs.Laws.{tries-append}
use Rattle.model_laws.specs.Members.{Has, has-cases}
use Rattle.world_base.specs.declared.client.ClientPlan.{ClientPlan}
use Rattle.world_base.specs.declared.client.ClientState.{ClientState}
use Rattle.world_base.specs.declared.client.Present.{Present}
use Rattle.world_base.specs.declared.client.Stage.{Stage}
use Rattle.world_base.specs.declared.client.Stage.TheVariants as stage
use Rattle.world_base.specs.declared.world.World.{World}
use Rattle.world_base.specs.ClientTurns.{Ended_by, HearTurn, Heard_on, Move, about, answered, asks_or_goes, at_present, attempt_id, attempt_moves, begins_at, begun, command_at, command_moves, commits, ends, first_epoch, goes, group_count, group_told, heard, heard_at, hears_epochs, is_about, is_yes, joined, knows, listed, moved, moves_at, next_stage, op_moves, op_of, op_told, question, replied, reset_by, rests, run_moves, snaps_known, told_at, waits}
use Rattle.world_base.specs.Events.{ClientGoes, ClientHears, Rules, after_turn, client_plan, with_client, with_epoch}
use Rattle.world_base.specs.Letters.{client}
use Rattle.world_base.specs.StepLaws.{after-both, by-going, by-next, set-here}
use Rattle.world_base.specs.Steps.{KeptByCounting, KeptByMoves, after_move, without}

-- ---- what is heard

-- a question of a client got no answer, and its attempt goes on: it was handed over, or the target is down
abbrev pub LosesNone : Bool → Message → Type 0
LosesNone true q = Unit {0}
LosesNone false (message.Commit x e first tracker ws) = Unit {0}
LosesNone false (message.Ask x) = Unit {0}
LosesNone false q = ⊥

abbrev pub RepliesNoRestart : Reply → Type 0
RepliesNoRestart (reply.Answer b) = Unit {0}
RepliesNoRestart (reply.Outcome how) = is_restart how ≡ false

-- a message tells its client's attempt of no restart
abbrev pub TellsNoRestart : Message → Type 0
TellsNoRestart (message.Fetched x op group e b) = RepliesNoRestart b
TellsNoRestart (message.Ended x e how) = is_restart how ≡ false
TellsNoRestart (message.Reset' t down place (more_of-Message q rest)) = LosesNone down q
TellsNoRestart m = Unit {0}

-- so it is of what a client hears that waits for it
abbrev pub HearsNoRestart : ClientPlan → ClientState → Message → Type 0
HearsNoRestart p c m = (a : Present) → c.present ≡ Some a → a.waits ≡ true → is_about (attempt_id p c a) (about m) ≡ true → TellsNoRestart m

-- ---- what is told

-- no line tells an attempt to restart
abbrev pub NoneRestarts : List Line → Type 0
NoneRestarts lines = (a : Attempt) → Has a (tries lines) → is_restart a.outcome ≡ false

-- nor does the line of a move
abbrev pub IsQuiet : Move → Type 0
IsQuiet m = NoneRestarts (listed m.line)

none-told : NoneRestarts []
unfolding tries
none-told a i = absurd i

silent : (m : Move) → m.line ≡ None → IsQuiet m
silent m none = subst (λ o. NoneRestarts (listed o)) (sym none) none-told

ends-quiet : (p : ClientPlan) (c : ClientState) (a : Present) (how : Outcome) → is_restart how ≡ false → IsQuiet (ends p c a how)
unfolding tries
ends-quiet p c a how sure b (inl same) = ap (λ z. is_restart z.outcome) same ∙ sure
ends-quiet p c a how sure b (inr none) = absurd none

-- ---- moves

begins-quiet : (p : ClientPlan) (c : ClientState) (snapshot : Option (List ℕ)) (e : Option Epoch) → IsQuiet (begins_at p c snapshot e)
begins-quiet p c None e = silent (begins_at p c None e) refl
begins-quiet p c (Some name) None = ends-quiet p c (begun 0 None None) outcome.NoSnapshot refl
begins-quiet p c (Some name) (Some e) = silent (begins_at p c (Some name) (Some e)) refl

command-quiet : (p : ClientPlan) (c : ClientState) (d : Command) → IsQuiet (command_moves p c d)
command-quiet p c (Run ops turns snapshot) = begins-quiet p c snapshot (first_epoch c.known snapshot)
command-quiet p c (Snap name cont) = begins-quiet p c None (first_epoch c.known None)
command-quiet p c (Aggregate cont) = begins-quiet p c None (first_epoch c.known None)
command-quiet p c (Tell client) = silent (command_moves p c (Tell client)) refl
command-quiet p c (Skip turns) = silent (command_moves p c (Skip turns)) refl

commits-quiet : (p : ClientPlan) (c : ClientState) (a : Present) (ws : List MinorWrite) → IsQuiet (commits p c a ws)
commits-quiet p c a [] = ends-quiet p c a outcome.Committed refl
commits-quiet p c a (w ∷ ws) = silent (commits p c a (w ∷ ws)) refl

asks-quiet : (p : ClientPlan) (c : ClientState) (a : Present) (snapshot : Bool) (q : Option Read) → IsQuiet (asks_or_goes p c a snapshot q)
asks-quiet p c a snapshot None = silent (asks_or_goes p c a snapshot None) refl
asks-quiet p c a snapshot (Some q) = silent (asks_or_goes p c a snapshot (Some q)) refl

op-quiet : (p : ClientPlan) (c : ClientState) (a : Present) (ops : List Op) (snapshot : Bool) (o : Option Op) → IsQuiet (op_moves p c a ops snapshot o)
op-quiet p c a ops snapshot None = commits-quiet p c a (minor_writes 0 ops)
op-quiet p c a ops snapshot (Some op) = asks-quiet p c a snapshot (question a.stage op)

run-quiet : (p : ClientPlan) (c : ClientState) (a : Present) (ops : List Op) (turns : List ℕ) (snapshot : Bool) (s : Stage) → IsQuiet (run_moves p c a ops turns snapshot s)
run-quiet p c a ops turns snapshot stage.Skip = silent (run_moves p c a ops turns snapshot stage.Skip) refl
run-quiet p c a ops turns snapshot stage.Cond = op-quiet p c a ops snapshot (slice_get ops a.op)
run-quiet p c a ops turns snapshot stage.Act = op-quiet p c a ops snapshot (slice_get ops a.op)

attempt-quiet : (p : ClientPlan) (c : ClientState) (a : Present) (d : Command) → IsQuiet (attempt_moves p c a d)
attempt-quiet p c a (Run ops turns snapshot) = run-quiet p c a ops turns (is_some snapshot) a.stage
attempt-quiet p c a (Snap name cont) = silent (attempt_moves p c a (Snap name cont)) refl
attempt-quiet p c a (Aggregate cont) = silent (attempt_moves p c a (Aggregate cont)) refl
attempt-quiet p c a (Tell client) = silent (attempt_moves p c a (Tell client)) refl
attempt-quiet p c a (Skip turns) = silent (attempt_moves p c a (Skip turns)) refl

moves-quiet : (p : ClientPlan) (c : ClientState) (d : Option Command) (present : Option Present) → IsQuiet (moves_at p c d present)
moves-quiet p c None present = silent (moves_at p c None present) refl
moves-quiet p c (Some d) None = command-quiet p c d
moves-quiet p c (Some d) (Some a) = attempt-quiet p c a d

moved-quiet : (p : ClientPlan) (c : ClientState) → IsQuiet (moved p c)
unfolding moved
moved-quiet p c = by (waits c)
  where
    by : (b : Bool) → IsQuiet (if b then rests c else moves_at p c (command_at p c) c.present)
    by true = silent (rests c) refl
    by false = moves-quiet p c (command_at p c) c.present

-- ---- hearing

told-quiet : (p : ClientPlan) (c : ClientState) (a : Present) (cond : Cond) (s : Stage) (b : Answer) → IsQuiet (told_at p c a cond s b)
told-quiet p c a cond stage.Skip b = silent (told_at p c a cond stage.Skip b) refl
told-quiet p c a cond stage.Act b = silent (told_at p c a cond stage.Act b) refl
told-quiet p c a cond stage.Cond b = by (holds_where (is_yes b) cond)
  where
    by : (holds : Bool)
        → IsQuiet (if holds then goes (at_present (next_stage stage.Cond (record a { conds = a.conds ++ (a.op, is_yes b) ∷ [] })) c) else ends p c (record a { conds = a.conds ++ (a.op, is_yes b) ∷ [] }) (outcome.CondFailed a.op))
    by true = silent (goes (at_present (next_stage stage.Cond (record a { conds = a.conds ++ (a.op, is_yes b) ∷ [] })) c)) refl
    by false = ends-quiet p c (record a { conds = a.conds ++ (a.op, is_yes b) ∷ [] }) (outcome.CondFailed a.op) refl

group-quiet : (p : ClientPlan) (c : ClientState) (a : Present) (op : Op) (b : Answer) → IsQuiet (group_told p c a op b)
group-quiet p c a op b = by (nat_lt (a.group + 1) (group_count (op_path op).obj (op_path op).dkey p.targets))
  where
    by : (more : Bool) → IsQuiet (if more then goes (at_present (record a { group = a.group + 1; found = Some (joined a.found b) }) c) else told_at p c a op.cond a.stage (joined a.found b))
    by true = silent (goes (at_present (record a { group = a.group + 1; found = Some (joined a.found b) }) c)) refl
    by false = told-quiet p c a op.cond a.stage (joined a.found b)

answer-quiet : (p : ClientPlan) (c : ClientState) (a : Present) (b : Answer) (o : Option Op) → IsQuiet (op_told p c a b o)
answer-quiet p c a b None = silent (op_told p c a b None) refl
answer-quiet p c a b (Some op) = group-quiet p c a op b

replied-quiet : (p : ClientPlan) (c : ClientState) (a : Present) (b : Reply) → RepliesNoRestart b → IsQuiet (replied p c a b)
replied-quiet p c a (reply.Answer b) sure = answer-quiet p c a b (op_of (command_at p c) a.op)
replied-quiet p c a (reply.Outcome how) sure = ends-quiet p c a how sure

reset-quiet : (p : ClientPlan) (c : ClientState) (a : Present) (t : ℕ) (down : Bool) (m : Message) → LosesNone down m → IsQuiet (reset_by p c a t down m)
reset-quiet p c a t true m sure = ends-quiet p c a (outcome.Unknown t) refl
reset-quiet p c a t false (message.Commit x e first tracker ws) sure = silent (reset_by p c a t false (message.Commit x e first tracker ws)) refl
reset-quiet p c a t false (message.Ask x) sure = silent (reset_by p c a t false (message.Ask x)) refl
reset-quiet p c a t false m sure = absurd sure

answered-quiet : (p : ClientPlan) (c : ClientState) (a : Present) (m : Message) → TellsNoRestart m → IsQuiet (answered p c a m)
answered-quiet p c a (message.Fetched x op group e b) sure = replied-quiet p c (knows e a) b sure
answered-quiet p c a (message.Ended x e how) sure = ends-quiet p (record c { known = snaps_known (command_at p c) e how c.known }) (knows e a) how sure
answered-quiet p c a (message.Reset' t down place (more_of-Message q rest)) sure = reset-quiet p c (record a { waits = false }) t down q sure
answered-quiet p c a m sure = silent (goes c) refl

pub heard-quiet : (p : ClientPlan) (c : ClientState) (m : Message) → HearsNoRestart p c m → IsQuiet (heard p c m)
unfolding heard
heard-quiet p c m sure = at c.present refl
  where
    at : (o : Option Present) → c.present ≡ o → IsQuiet (heard_at p (hears_epochs m c) m o)
    at None is = silent (goes (hears_epochs m c)) refl
    at (Some a) is = by (a.waits && is_about (attempt_id p c a) (about m)) refl
      where
        by : (b : Bool) → (a.waits && is_about (attempt_id p c a) (about m)) ≡ b → IsQuiet (if b then answered p (hears_epochs m c) a m else goes (hears_epochs m c))
        by true e = let k : (a.waits ≡ true) × (is_about (attempt_id p c a) (about m) ≡ true) = and_parts a.waits (is_about (attempt_id p c a) (about m)) e in answered-quiet p (hears_epochs m c) a m (sure a is k.0 k.1)
        by false e = silent (goes (hears_epochs m c)) refl

-- ---- lines

both-none : (ls ms : List Line) → NoneRestarts ls → NoneRestarts ms → NoneRestarts (ls ++ ms)
both-none ls ms f g a i = elim (has-cases (tries ls) (tries ms) a (subst (Has a) (tries-append ls ms) i)) [ inl j ↦ f a j | inr j ↦ g a j ]

-- with the epochs that were issued
with-epochs : (is : List (AttemptId × Epoch)) (ls : List Line) → NoneRestarts ls → NoneRestarts (map (with_epoch is) ls)
unfolding tries
with-epochs is [] none a i = none a i
with-epochs is (line.Try b ∷ ls) none a (inl same) = ap (λ z. is_restart z.outcome) same ∙ none b (inl refl)
with-epochs is (line.Try b ∷ ls) none a (inr i) = with-epochs is ls (λ z j. none z (inr j)) a i
with-epochs is (line.Stop number target ∷ ls) none a i = with-epochs is ls none a i
with-epochs is (line.Restart number target incarnation floor ∷ ls) none a i = with-epochs is ls none a i
with-epochs is (line.Freeze target cont epoch ∷ ls) none a i = with-epochs is ls none a i
with-epochs is (line.Snapshot name cont epoch ∷ ls) none a i = with-epochs is ls none a i
with-epochs is (line.Aggregate number target cont upto ∷ ls) none a i = with-epochs is ls none a i
with-epochs is (line.Down target ∷ ls) none a i = with-epochs is ls none a i

-- no line of a world does
abbrev pub TellsNone : World → Type 0
TellsNone w = NoneRestarts w.lines

told-more : (w : World) (is : List (AttemptId × Epoch)) (m : Move) → TellsNone w → IsQuiet m → NoneRestarts (w.lines ++ map (with_epoch is) (listed m.line))
told-more w is m k quiet = both-none w.lines (map (with_epoch is) (listed m.line)) k (with-epochs is (listed m.line) quiet)

module _ (r : Rules) where
  quiet-moves : KeptByMoves r TellsNone
  quiet-moves w n c here k = told-more w w.issued (moved (client_plan r n) c) k (moved-quiet (client_plan r n) c)

  quiet-counting : KeptByCounting TellsNone
  quiet-counting w n k c here b = b

  pub goes-quiet : (w v : World) → TellsNone w → ClientGoes r w v → TellsNone v
  goes-quiet w v k g = by-next r TellsNone quiet-moves quiet-counting w v k g

  -- a turn in which a client hears of no restart
  pub hears-quiet : (w v : World) → TellsNone w → (g : ClientHears r w v) → HearsNoRestart (client_plan r g.n) g.c g.l.message → TellsNone v
  hears-quiet w v k g sure = subst TellsNone (sym g.after) (by g.turn)
    where
      first : Move
      first = heard (client_plan r g.n) g.c g.l.message

      begun-so : TellsNone (after_move (without w g.rest) g.n first)
      begun-so = told-more w w.issued first k (heard-quiet (client_plan r g.n) g.c g.l.message sure)

      by : HearTurn (client_plan r g.n) g.c g.l.message g.did g.d → TellsNone (with_client g.n g.d (after_turn w (client g.n) g.did g.rest))
      by (Ended_by over says after) = subst (λ d. NoneRestarts (w.lines ++ map (with_epoch w.issued) d.lines)) (sym says) begun-so
      by (Heard_on rest over did says) =
          subst (λ d. NoneRestarts (w.lines ++ map (with_epoch w.issued) d.lines)) (sym says)
          (subst TellsNone (after-both (without w g.rest) g.n (listed first.post) rest.posts (listed first.line) rest.lines first.state g.d)
          (by-going r TellsNone quiet-moves (after_move (without w g.rest) g.n first) g.n first.state g.d rest.posts rest.lines (set-here w.clients g.n g.c first.state g.here) begun-so did.goes_on))
