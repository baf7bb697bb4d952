-- Each attempt of which a client's turn tells is committed, or tells of its operations in order, as far as it came.
use Rattle.std.specs.Prelude.{ℕ, ◌≡◌, ◌+◌, ◌⊎◌, ◌++◌, ◌&&◌, Bool, true, false, nat_lt, All, List, [], ◌∷◌, length, map, slice_get, take, is_some, Option, Some, None, refl, if◌then◌else◌}
use Rattle.std.proofs.Common.{inl, inr, sym, ◌∙◌, ap, subst, arith}
use Rattle.std.proofs.lemmas.List.{map_push, take_all}
use Rattle.std.proofs.lemmas.List.Elements.{All-append, All-cons, All-nil}
use Rattle.base_types.specs.declared.answer.Answer.{Answer}
use Rattle.base_types.specs.declared.epoch.Epoch.{Epoch}
use Rattle.base_types.specs.declared.operation.Cond.{Cond}
use Rattle.base_types.specs.declared.operation.Cond.TheVariants.{Free, Must, MustNot}
use Rattle.base_types.specs.declared.operation.MinorWrite.{MinorWrite}
use Rattle.base_types.specs.declared.operation.Op.{Op}
use Rattle.base_types.specs.declared.operation.Read.{Read}
use Rattle.base_types.specs.declared.outcome.Cause.TheVariants.{Unresolved}
use Rattle.base_types.specs.declared.outcome.Outcome.{Outcome}
use Rattle.base_types.specs.declared.outcome.Outcome.TheVariants as outcome
use Rattle.base_types.specs.declared.report.Attempt.{Attempt}
use Rattle.base_types.specs.declared.report.Line.{Line}
use Rattle.base_types.specs.declared.script.Command.{Command}
use Rattle.base_types.specs.declared.script.Command.TheVariants.{Aggregate, Run, Skip, Snap, Tell}
use Rattle.base_messages.specs.declared.message.Message.{Message, more_of-Message}
use Rattle.base_messages.specs.declared.message.Message.TheVariants as message
use Rattle.base_messages.specs.declared.message.Post.{Post}
use Rattle.base_messages.specs.declared.message.Reply.{Reply}
use Rattle.base_messages.specs.declared.message.Reply.TheVariants as reply
use Rattle.daos_model.specs.Accesses.{is_condition, minor_writes, op_path}
use Rattle.daos_model.specs.Attempts.{tries}
use Rattle.daos_model.specs.Conditions.{condition_numbers, holds_where}
use Rattle.daos_model.specs.Laws.{tries-append}
use Rattle.daos_model.specs.Transactions.{ops_or_none, read_numbers}
use Rattle.run_laws.specs.shows.Asked.{CameInOrder}
use Rattle.world_base.specs.declared.client.ClientPlan.{ClientPlan}
use Rattle.world_base.specs.declared.client.ClientState.{ClientState}
use Rattle.world_base.specs.declared.client.Present.{Present}
use Rattle.world_base.specs.declared.client.Stage.{Stage}
use Rattle.world_base.specs.declared.client.Stage.TheVariants as stage
use Rattle.world_base.specs.declared.did.Did.{Did}
use Rattle.world_base.specs.ClientTurns.{Ended_by, GoesOn, HearTurn, Heard_on, Move, Moves, NextTurn, None_yet, One_more, Skipped, Went_on, about, answered, asks_again, asks_or_goes, at_present, attempt_id, attempt_moves, begins_at, begun, command_at, command_moves, commits, condition_told, ends, first_epoch, goes, group_count, group_told, heard, heard_at, hears_epochs, is_about, is_yes, joined, knows, listed, moved, moves_at, next_stage, op_moves, op_of, op_told, question, read_told, replied, reset, reset_by, rests, run_moves, snaps_known, told_at, waits}
use Rattle.world_letters.specs.clients.AnswerLaws.{Tells, ops-here}
use Rattle.world_letters.specs.clients.Answered.{IsAnswered, IsAnsweredHere, IsAnsweredWhole, conditions_due, ops_here, ops_numbered}
use Rattle.world_letters.specs.clients.AnsweredLaws.{conditions-next}
use Rattle.world_letters.specs.clients.MoveLaws.{IsAt, is-at, tells-end, tells-nothing, told_end}
use Rattle.world_letters.specs.clients.Standing.{tells}

-- an attempt of a client is committed, or tells of its operations in order
abbrev pub IsWholeOrInOrder : ClientPlan → Attempt → Type 0
IsWholeOrInOrder p x = (x.outcome ≡ outcome.Committed) ⊎ CameInOrder (ops_numbered p x.id.command) x

-- so is each of which a move tells
abbrev TellsSo : ClientPlan → Move → Type 0
TellsSo p m = All (IsWholeOrInOrder p) (tells m)

-- a move without a line
silent : (p : ClientPlan) (m : Move) → m.line ≡ None → TellsSo p m
silent p m e = subst (All (IsWholeOrInOrder p)) (sym (tells-nothing m e)) (All-nil (IsWholeOrInOrder p))

-- a move by which an attempt ends
ends-so : (p : ClientPlan) (c : ClientState) (a : Present) (how : Outcome) → IsWholeOrInOrder p (told_end p c a how) → TellsSo p (ends p c a how)
ends-so p c a how k = subst (All (IsWholeOrInOrder p)) (sym (tells-end p c a how)) (All-cons (IsWholeOrInOrder p) (told_end p c a how) [] k (All-nil (IsWholeOrInOrder p)))

-- an attempt that came to nothing
came-nowhere : (ops : List Op) (a : Attempt) → a.conds ≡ [] → a.gots ≡ [] → CameInOrder ops a
unfolding condition_numbers read_numbers
came-nowhere ops a conds gots = (0, record { conditions = inl (ap (map (λ told. told.0)) conds); answers = ap (map (λ got. got.0)) gots })

-- ---- moves of a client that goes on

module _ (p : ClientPlan) (c : ClientState) where
  commits-so : (a : Present) (ws : List MinorWrite) → TellsSo p (commits p c a ws)
  commits-so a [] = ends-so p c a outcome.Committed (inl refl)
  commits-so a (w ∷ ws) = silent p (commits p c a (w ∷ ws)) refl

  asks-so : (a : Present) (snapshot : Bool) (o : Option Read) → TellsSo p (asks_or_goes p c a snapshot o)
  asks-so a snapshot None = silent p (asks_or_goes p c a snapshot None) refl
  asks-so a snapshot (Some r) = silent p (asks_or_goes p c a snapshot (Some r)) refl

  op-so : (a : Present) (ops : List Op) (snapshot : Bool) (o : Option Op) → TellsSo p (op_moves p c a ops snapshot o)
  op-so a ops snapshot None = commits-so a (minor_writes 0 ops)
  op-so a ops snapshot (Some op) = asks-so a snapshot (question a.stage op)

  run-so : (a : Present) (ops : List Op) (turns : List ℕ) (snapshot : Bool) (s : Stage) → TellsSo p (run_moves p c a ops turns snapshot s)
  run-so a ops turns snapshot stage.Skip = silent p (run_moves p c a ops turns snapshot stage.Skip) refl
  run-so a ops turns snapshot stage.Cond = op-so a ops snapshot (slice_get ops a.op)
  run-so a ops turns snapshot stage.Act = op-so a ops snapshot (slice_get ops a.op)

  attempt-so : (a : Present) (d : Command) → TellsSo p (attempt_moves p c a d)
  attempt-so a (Run ops turns snapshot) = run-so a ops turns (is_some snapshot) a.stage
  attempt-so a (Snap name cont) = silent p (attempt_moves p c a (Snap name cont)) refl
  attempt-so a (Aggregate cont) = silent p (attempt_moves p c a (Aggregate cont)) refl
  attempt-so a (Tell client) = silent p (rests c) refl
  attempt-so a (Skip turns) = silent p (rests c) refl

  begins-so : (snapshot : Option (List ℕ)) (e : Option Epoch) → TellsSo p (begins_at p c snapshot e)
  begins-so None e = silent p (begins_at p c None e) refl
  begins-so (Some name) None =
      ends-so p c (begun 0 None None) outcome.NoSnapshot (inr (came-nowhere (ops_numbered p c.command) (told_end p c (begun 0 None None) outcome.NoSnapshot) refl refl))
  begins-so (Some name) (Some e) = silent p (begins_at p c (Some name) (Some e)) refl

  command-so : (d : Command) → TellsSo p (command_moves p c d)
  command-so (Run ops turns snapshot) = begins-so snapshot (first_epoch c.known snapshot)
  command-so (Snap name cont) = begins-so None (first_epoch c.known None)
  command-so (Aggregate cont) = begins-so None (first_epoch c.known None)
  command-so (Tell client) = silent p (command_moves p c (Tell client)) refl
  command-so (Skip turns) = silent p (command_moves p c (Skip turns)) refl

  moves-at-so : (o : Option Command) (present : Option Present) → TellsSo p (moves_at p c o present)
  moves-at-so None present = silent p (rests c) refl
  moves-at-so (Some d) None = command-so d
  moves-at-so (Some d) (Some a) = attempt-so a d

  moved-so : TellsSo p (moved p c)
  unfolding moved
  moved-so = by (waits c)
    where
      by : (b : Bool) → TellsSo p (if b then rests c else moves_at p c (command_at p c) c.present)
      by true = silent p (rests c) refl
      by false = moves-at-so (command_at p c) c.present

-- ---- hearing

-- a condition that doesn't hold is one
fails-condition : (there : Bool) (cond : Cond) → holds_where there cond ≡ false → is_condition cond ≡ true
fails-condition there Free e = let no : ⊥ = cc in absurd no
fails-condition there Must e = refl
fails-condition there MustNot e = refl

-- a present attempt that was answered its operations so far, in order
module _ (p : ClientPlan) (c : ClientState) (a : Present) (k : IsAnswered (ops_numbered p c.command) a) (at : (n : ℕ) → op_of (command_at p c) n ≡ slice_get (ops_numbered p c.command) n) where
  abbrev ops : List Op
  ops = ops_numbered p c.command

  came : (how : Outcome) → IsWholeOrInOrder p (told_end p c a how)
  came how = inr (a.op, record { conditions = by a.stage refl; answers = k.answered })
    where
      by : (s : Stage) → a.stage ≡ s → (map (λ told. told.0) a.conds ≡ condition_numbers 0 (take a.op ops)) ⊎ (map (λ told. told.0) a.conds ≡ condition_numbers 0 (take (a.op + 1) ops))
      by stage.Skip st = inl (k.asked ∙ ap (conditions_due ops a.op) st)
      by stage.Cond st = inl (k.asked ∙ ap (conditions_due ops a.op) st)
      by stage.Act st = inr (k.asked ∙ ap (conditions_due ops a.op) st)

  over : (how : Outcome) → TellsSo p (ends p c a how)
  over how = ends-so p c a how (came how)

  condition-so : (op : Op) (there : Bool) → a.stage ≡ stage.Cond → slice_get ops a.op ≡ Some op → TellsSo p (condition_told p c a op.cond there)
  condition-so op there st here = by (holds_where there op.cond) refl
    where
      told : Present
      told = record a { conds = a.conds ++ (a.op, there) ∷ [] }

      due : is_condition op.cond ≡ true → map (λ t. t.0) (a.conds ++ (a.op, there) ∷ []) ≡ condition_numbers 0 (take (a.op + 1) ops)
      due asked =
          map_push (λ t. t.0) a.conds (a.op, there) ∙ ap (λ ns. ns ++ a.op ∷ []) (k.asked ∙ ap (conditions_due ops a.op) st)
          ∙ ap (λ ns. condition_numbers 0 (take a.op ops) ++ ns) (sym (ap (λ b. if b then a.op ∷ [] else []) asked)) ∙ sym (conditions-next a.op ops op here)

      by : (b : Bool) → holds_where there op.cond ≡ b → TellsSo p (if b then goes (at_present (next_stage stage.Cond told) c) else ends p c told (outcome.CondFailed a.op))
      by true h = silent p (goes (at_present (next_stage stage.Cond told) c)) refl
      by false h = ends-so p c told (outcome.CondFailed a.op) (inr (a.op, record { conditions = inr (due (fails-condition there op.cond h)); answers = k.answered }))

  told-at-so : (op : Op) (s : Stage) (b : Answer) → a.stage ≡ s → slice_get ops a.op ≡ Some op → TellsSo p (told_at p c a op.cond s b)
  told-at-so op stage.Skip b st here = silent p (goes (at_present a c)) refl
  told-at-so op stage.Cond b st here = condition-so op (is_yes b) st here
  told-at-so op stage.Act b st here = silent p (read_told c a b) refl

  group-so : (op : Op) (b : Answer) → slice_get ops a.op ≡ Some op → TellsSo p (group_told p c a op b)
  group-so op b here = by (nat_lt (a.group + 1) (group_count (op_path op).obj (op_path op).dkey p.targets))
    where
      more : Present
      more = record a { group = a.group + 1; found = Some (joined a.found b) }

      by : (l : Bool) → TellsSo p (if l then goes (at_present more c) else told_at p c a op.cond a.stage (joined a.found b))
      by true = silent p (goes (at_present more c)) refl
      by false = told-at-so op a.stage (joined a.found b) refl here

  op-told-so : (b : Answer) (o : Option Op) → slice_get ops a.op ≡ o → TellsSo p (op_told p c a b o)
  op-told-so b None here = silent p (goes (at_present a c)) refl
  op-told-so b (Some op) here = group-so op b here

  replied-so : (b : Reply) → TellsSo p (replied p c a b)
  replied-so (reply.Answer b) = op-told-so b (op_of (command_at p c) a.op) (sym (at a.op))
  replied-so (reply.Outcome how) = over how

  reset-so : (target : ℕ) (m : Message) → TellsSo p (reset p c a target m)
  reset-so target (message.Commit x e first tracker ws) = silent p (asks_again p c a target) refl
  reset-so target (message.Ask x) = silent p (asks_again p c a target) refl
  reset-so target m = over (outcome.Restart (Unresolved (attempt_id p c a)))

  reset-by-so : (target : ℕ) (down : Bool) (m : Message) → TellsSo p (reset_by p c a target down m)
  reset-by-so target false m = reset-so target m
  reset-by-so target true m = over (outcome.Unknown target)

-- what a client waited for has come
answered-so : (p : ClientPlan) (c : ClientState) (a : Present) (m : Message) → IsAnswered (ops_numbered p c.command) a → ((n : ℕ) → op_of (command_at p c) n ≡ slice_get (ops_numbered p c.command) n) → TellsSo p (answered p c a m)
answered-so p c a (message.Fetched x op group e b) k at = replied-so p c (knows e a) (record { asked = k.asked; answered = k.answered; hold = k.hold }) at b
answered-so p c a (message.Ended x e how) k at =
    over p (record c { known = snaps_known (command_at p c) e how c.known }) (knows e a) (record { asked = k.asked; answered = k.answered; hold = k.hold }) at how
answered-so p c a (message.Reset' t down place (more_of-Message m rest)) k at =
    reset-by-so p c (record a { waits = false }) (record { asked = k.asked; answered = k.answered; hold = k.hold }) at t down m
answered-so p c a m k at = silent p (goes c) refl

heard-at-so : (p : ClientPlan) (c : ClientState) (m : Message) (attempts : List Attempt) (present : Option Present) → Tells p c attempts → c.present ≡ present → TellsSo p (heard_at p c m present)
heard-at-so p c m attempts None told is = silent p (goes c) refl
heard-at-so p c m attempts (Some a) told is = by (a.waits && is_about (attempt_id p c a) (about m))
  where
    here : (d : Command) × IsAt p c d a attempts
    here = is-at p c a attempts is told.told

    -- the operations of the command of its number are those of the one that it is at
    same : ops_here p c ≡ ops_numbered p c.command
    same = ap ops_or_none here.1.at ∙ sym (ops-here p c here.0 a attempts here.1)

    well : IsAnswered (ops_numbered p c.command) a
    well = subst (λ ops. IsAnswered ops a) same (subst (IsAnsweredHere (ops_here p c)) is told.answers.here)

    at : (n : ℕ) → op_of (command_at p c) n ≡ slice_get (ops_numbered p c.command) n
    at n = ap (λ o. op_of o n) here.1.at ∙ ap (λ ops. slice_get ops n) (sym (ops-here p c here.0 a attempts here.1))

    by : (b : Bool) → TellsSo p (if b then answered p c a m else goes c)
    by true = answered-so p c a m well at
    by false = silent p (goes c) refl

heard-so : (p : ClientPlan) (c : ClientState) (m : Message) (attempts : List Attempt) → Tells p c attempts → TellsSo p (heard p c m)
unfolding heard
heard-so p c m attempts told =
    heard-at-so p (hears_epochs m c) m attempts c.present (record { told = told.told; answers = record { ended = told.answers.ended; here = told.answers.here } }) refl

-- ---- turns

both-so : (p : ClientPlan) (xs ys : List Line) → All (IsWholeOrInOrder p) (tries xs) → All (IsWholeOrInOrder p) (tries ys) → All (IsWholeOrInOrder p) (tries (xs ++ ys))
both-so p xs ys k l = subst (All (IsWholeOrInOrder p)) (sym (tries-append xs ys)) (All-append (IsWholeOrInOrder p) (tries xs) (tries ys) k l)

none-so : (p : ClientPlan) → All (IsWholeOrInOrder p) (tries [])
unfolding tries
none-so p = All-nil (IsWholeOrInOrder p)

moves-so : (p : ClientPlan) (c d : ClientState) (posts : List Post) (lines : List Line) → Moves p c posts lines d → All (IsWholeOrInOrder p) (tries lines)
moves-so p c d posts lines None_yet = none-so p
moves-so p c d posts lines (One_more sent before e m over) = both-so p before (listed (moved p e).line) (moves-so p c e sent before m) (moved-so p e)

goes-on-so : (p : ClientPlan) (c d : ClientState) (posts : List Post) (lines : List Line) → GoesOn p c posts lines d → All (IsWholeOrInOrder p) (tries lines)
goes-on-so p c d posts lines g =
    subst (λ ls. All (IsWholeOrInOrder p) (tries ls)) (sym g.all_told) (both-so p g.told (listed (moved p g.last).line) (moves-so p c g.last g.sent g.told g.moves) (moved-so p g.last))

-- a turn without a message
pub next-turn-so : (p : ClientPlan) (c d : ClientState) (did : Did) → NextTurn p c did d → All (IsWholeOrInOrder p) (tries did.lines)
next-turn-so p c d did (Skipped skips says after) = subst (λ (n : Did). All (IsWholeOrInOrder p) (tries n.lines)) (sym says) (none-so p)
next-turn-so p c d did (Went_on runs goes') = goes-on-so p c d did.posts did.lines goes'.goes_on

-- a turn in which a message is heard
pub hear-turn-so : (p : ClientPlan) (c d : ClientState) (m : Message) (attempts : List Attempt) (did : Did) → Tells p c attempts → HearTurn p c m did d → All (IsWholeOrInOrder p) (tries did.lines)
hear-turn-so p c d m attempts did told (Ended_by over says after) = subst (λ (n : Did). All (IsWholeOrInOrder p) (tries n.lines)) (sym says) (heard-so p c m attempts told)
hear-turn-so p c d m attempts did told (Heard_on rest over goes' says) =
    subst (λ (n : Did). All (IsWholeOrInOrder p) (tries n.lines)) (sym says)
    (both-so p (listed (heard p c m).line) rest.lines (heard-so p c m attempts told) (goes-on-so p (heard p c m).state d rest.posts rest.lines goes'.goes_on))

-- ---- what is committed

-- an attempt that was answered all came behind its last operation
pub whole-in-order : (ops : List Op) (a : Attempt) → IsAnsweredWhole ops a → CameInOrder ops a
whole-in-order ops a k = (length ops, record { conditions = inl (k.asked ∙ ap (condition_numbers 0) (sym all)); answers = k.answered ∙ ap (read_numbers 0) (sym all) })
  where
    all : take (length ops) ops ≡ ops
    all = take_all (length ops) ops (omega arith)
