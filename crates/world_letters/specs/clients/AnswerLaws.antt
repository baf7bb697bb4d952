-- Each move of a client keeps that its attempts end as they were answered.
use Rattle.std.specs.Prelude.{ℕ, ◌≡◌, ◌≤◌, ◌<◌, ◌+◌, ◌++◌, Bool, true, false, nat_lt, ◌&&◌, List, [], ◌∷◌, length, map, take, drop, filter, slice_get, is_some, All, Option, Some, None, refl, if◌then◌else◌}
use Rattle.std.proofs.Common.{suc, append-nil, ◌⊎◌, sym, ◌∙◌, ap, subst, inl, inr, arith}
use Rattle.std.proofs.lemmas.List.{map_push, take_all}
use Rattle.std.proofs.lemmas.List.Elements.{All-append, All-cons, All-nil, filter-append}
use Rattle.base_types.specs.declared.answer.Answer.{Answer}
use Rattle.base_types.specs.declared.epoch.Epoch.{Epoch}
use Rattle.base_types.specs.declared.operation.Act.{Act}
use Rattle.base_types.specs.declared.operation.Act.TheVariants as act
use Rattle.base_types.specs.declared.operation.Cond.{Cond}
use Rattle.base_types.specs.declared.operation.Cond.TheVariants.{Free, Must, MustNot}
use Rattle.base_types.specs.declared.operation.MinorWrite.{MinorWrite}
use Rattle.base_types.specs.declared.operation.Op.{Op}
use Rattle.base_types.specs.declared.operation.Read.{Read}
use Rattle.base_types.specs.declared.outcome.Outcome.{Outcome}
use Rattle.base_types.specs.declared.outcome.Outcome.TheVariants as outcome
use Rattle.base_types.specs.declared.report.Attempt.{Attempt}
use Rattle.base_types.specs.declared.script.Command.{Command}
use Rattle.base_types.specs.declared.script.Command.TheVariants.{Run, Snap, Aggregate, Tell, Skip}
use Rattle.base_types.specs.Scripts.{is_numbered}
use Rattle.base_types.specs.declared.outcome.Cause.TheVariants.{Unresolved}
use Rattle.world_base.specs.model_laws.Lists.{cut-at}
use Rattle.base_messages.specs.declared.message.Message.{Message, more_of-Message}
use Rattle.base_messages.specs.declared.message.Message.TheVariants as message
use Rattle.base_messages.specs.declared.message.Reply.{Reply}
use Rattle.base_messages.specs.declared.message.Reply.TheVariants as reply
use Rattle.daos_model.specs.Accesses.{is_condition, minor_writes, op_path}
use Rattle.daos_model.specs.Attempts.{is_restart, snapshot_of_command}
use Rattle.daos_model.specs.Conditions.{AllHold, Holds, condition_numbers, holds_where, op_holds_where}
use Rattle.daos_model.specs.Transactions.{number_of_read, numbered, ops_of, ops_or_none, read_numbers}
use Rattle.world_base.specs.declared.client.ClientPlan.{ClientPlan}
use Rattle.world_base.specs.declared.client.ClientState.{ClientState}
use Rattle.world_base.specs.declared.client.Present.{Present}
use Rattle.world_base.specs.declared.client.Stage.{Stage}
use Rattle.world_base.specs.declared.client.Stage.TheVariants as stage
use Rattle.world_base.specs.ClientTurns.{about, answered, asks_again, ended, group_count, group_told, heard, heard_at, hears_epochs, is_about, is_yes, joined, knows, op_of, op_told, replied, reset, reset_by, snaps_known, told_at, condition_told, read_told, next_place, Move, act_read, after_end, asks_or_goes, at_present, attempt_id, attempt_moves, begins_at, begun, command_at, command_moves, commits, condition_read, ends, first_epoch, goes, moved, moves_at, next_command, next_op, next_stage, op_moves, question, rests, run_moves, waits}
use Rattle.world_letters.specs.clients.Answered.{IsAsking, IsFit, IsFitHere, IsReplyFit, is_refusal, AreAnswered, EndsAsAnswered, EndsWell, IsAnswered, IsAnsweredHere, IsAnsweredWhole, conditions_due, ops_here, ops_numbered}
use Rattle.world_letters.specs.clients.AnsweredLaws.{condition_number, conditions-next, past-end, reads-next, take-past}
use Rattle.world_letters.specs.clients.MoveLaws.{IsAt, is-at, known-more, tells-end, tells-nothing, told_end}
use Rattle.world_letters.specs.clients.Standing.{HasTold, Stands, number_of, tells}
use Rattle.world_letters.specs.clients.StandingLaws.{stands-begins}

-- ---- the command of a number

get-middle : {T : Type 0} (xs ys : List T) (x : T) → slice_get (xs ++ x ∷ ys) (length xs) ≡ Some x
get-middle [] ys x = refl
get-middle (z ∷ zs) ys x = get-middle zs ys x

first-numbered : (d : Command) (ds : List Command) → is_numbered d ≡ true → numbered (d ∷ ds) ≡ d ∷ numbered ds
first-numbered d ds h = by (is_numbered d) h
  where
    by : (b : Bool) → b ≡ true → (if b then d ∷ filter is_numbered ds else filter is_numbered ds) ≡ d ∷ filter is_numbered ds
    by true e = refl
    by false e = let no : ⊥ = cc in absurd no

-- the command that a client is at is the one of its number
pub numbered-here : (p : ClientPlan) (place : ℕ) (d : Command) → slice_get p.commands place ≡ Some d → is_numbered d ≡ true → slice_get (numbered p.commands) (length (numbered (take place p.commands))) ≡ Some d
numbered-here p place d at n =
    let split : numbered p.commands ≡ numbered (take place p.commands) ++ d ∷ numbered (drop (suc place) p.commands) =
    ap numbered (cut-at p.commands place d at) ∙ filter-append is_numbered (take place p.commands) (d ∷ drop (suc place) p.commands)
    ∙ ap (λ z. numbered (take place p.commands) ++ z) (first-numbered d (drop (suc place) p.commands) n) in
    ap (λ cs. slice_get cs (length (numbered (take place p.commands)))) split ∙ get-middle (numbered (take place p.commands)) (numbered (drop (suc place) p.commands)) d

pub ops-here : (p : ClientPlan) (c : ClientState) (d : Command) (a : Present) (attempts : List Attempt) → IsAt p c d a attempts → ops_numbered p c.command ≡ ops_of d
ops-here p c d a attempts k = ap (λ n. ops_or_none (slice_get (numbered p.commands) n)) k.told.numbers ∙ ap ops_or_none (numbered-here p c.place d k.at k.numbered)

-- ---- an attempt ends

-- what was told before, and one that ends well more
all-more : (p : ClientPlan) (attempts : List Attempt) (a : Attempt) → All (EndsAsAnswered p) attempts → EndsAsAnswered p a → All (EndsAsAnswered p) (attempts ++ a ∷ [])
all-more p attempts a k h = All-append (EndsAsAnswered p) attempts (a ∷ []) k (All-cons (EndsAsAnswered p) a [] h (All-nil (EndsAsAnswered p)))

begun-answered : (ops : List Op) (n : ℕ) (first e : Option Epoch) → IsAnswered ops (begun n first e)
unfolding condition_numbers read_numbers
begun-answered ops n first e = record { asked = refl; answered = refl; hold = All-nil (Holds ops) }

abbrev pub KeepsAnswers : ClientPlan → List Attempt → Move → Type 0
KeepsAnswers p attempts m = AreAnswered p m.state (attempts ++ tells m)

pub ends-answered : (p : ClientPlan) (c : ClientState) (d : Command) (a : Present) (how : Outcome) (attempts : List Attempt) → IsAt p c d a attempts → All (EndsAsAnswered p) attempts
    → EndsWell (ops_of d) (told_end p c a how) how → KeepsAnswers p attempts (ends p c a how)
ends-answered p c d a how attempts k told well =
    subst (λ ts. AreAnswered p (after_end p c (command_at p c) a how) (attempts ++ ts)) (sym (tells-end p c a how)) (record { ended = all; here = here })
  where
    all : All (EndsAsAnswered p) (attempts ++ told_end p c a how ∷ [])
    all = all-more p attempts (told_end p c a how) told (subst (λ ops. EndsWell ops (told_end p c a how) how) (sym (ops-here p c d a attempts k)) well)

    by : (b : Bool) → IsAnsweredHere (ops_here p (if b then at_present (begun (a.attempt + 1) a.first (first_epoch c.known (snapshot_of_command d))) c else next_command c)) (if b then at_present (begun (a.attempt + 1) a.first (first_epoch c.known (snapshot_of_command d))) c else next_command c).present
    by true = begun-answered (ops_here p c) (a.attempt + 1) a.first (first_epoch c.known (snapshot_of_command d))
    by false = tt

    here : IsAnsweredHere (ops_here p (after_end p c (command_at p c) a how)) (after_end p c (command_at p c) a how).present
    here = subst (λ o. IsAnsweredHere (ops_here p (after_end p c o a how)) (after_end p c o a how).present) (sym k.at) (by (is_restart how && nat_lt (a.attempt + 1) p.attempts))

-- ---- moves that end no attempt

-- a move without a line
pub answered-silent : (p : ClientPlan) (attempts : List Attempt) (m : Move) → m.line ≡ None → AreAnswered p m.state attempts → KeepsAnswers p attempts m
answered-silent p attempts m e s = subst (λ ts. AreAnswered p m.state (attempts ++ ts)) (sym (tells-nothing m e)) (subst (λ as'. AreAnswered p m.state as') (sym (append-nil attempts)) s)

-- a present attempt that was answered well, and all before it
pub record Here (p : ClientPlan) (c : ClientState) (d : Command) (a : Present) (attempts : List Attempt) : Type 0 where
  pub at : IsAt p c d a attempts
  pub ended : All (EndsAsAnswered p) attempts
  pub answered : IsAnswered (ops_of d) a

-- a move that leaves the client at the same command, at an attempt that was answered well
stays : (p : ClientPlan) (c : ClientState) (d : Command) (a b : Present) (attempts : List Attempt) (m : Move) → Here p c d a attempts → m.line ≡ None → command_at p m.state ≡ command_at p c
    → m.state.present ≡ Some b → IsAnswered (ops_of d) b → KeepsAnswers p attempts m
stays p c d a b attempts m k line place present well =
    answered-silent p attempts m line (record { ended = k.ended; here = rw (present, place) (rw (k.at.at) well) })

answered-whole : (ops : List Op) (p : ClientPlan) (c : ClientState) (a : Present) (how : Outcome) → slice_get ops a.op ≡ None → IsAnswered ops a → IsAnsweredWhole ops (told_end p c a how)
answered-whole ops p c a how past k = record { asked = k.asked ∙ due a.stage; answered = k.answered ∙ ap (read_numbers 0) whole; hold = k.hold }
  where
    whole : take a.op ops ≡ ops
    whole = take-past ops a.op past

    whole_more : take (a.op + 1) ops ≡ ops
    whole_more = let n : length ops ≤ a.op = past-end ops a.op past in take_all (a.op + 1) ops (omega (arith, n))

    due : (s : Stage) → conditions_due ops a.op s ≡ condition_numbers 0 ops
    due stage.Skip = ap (condition_numbers 0) whole
    due stage.Cond = ap (condition_numbers 0) whole
    due stage.Act = ap (condition_numbers 0) whole_more

commits-answered : (p : ClientPlan) (c : ClientState) (d : Command) (a : Present) (attempts : List Attempt) (ws : List MinorWrite) → Here p c d a attempts → slice_get (ops_of d) a.op ≡ None
    → KeepsAnswers p attempts (commits p c a ws)
commits-answered p c d a attempts [] k past = ends-answered p c d a outcome.Committed attempts k.at k.ended (answered-whole (ops_of d) p c a outcome.Committed past k.answered)
commits-answered p c d a attempts (w ∷ ws) k past = stays p c d a (record a { waits = true }) attempts (commits p c a (w ∷ ws)) k refl refl refl (record { asked = k.answered.asked; answered = k.answered.answered; hold = k.answered.hold })

-- a stage at which an operation isn't asked
stage-answered : (ops : List Op) (a : Present) (op : Op) (s : Stage) → a.stage ≡ s → slice_get ops a.op ≡ Some op → question s op ≡ None → IsAnswered ops a → IsAnswered ops (next_stage s a)
stage-answered ops a op stage.Skip st at none k = record { asked = k.asked ∙ ap (conditions_due ops a.op) st; answered = k.answered; hold = k.hold }
stage-answered ops a op stage.Cond st at none k = record { asked = k.asked ∙ ap (conditions_due ops a.op) st ∙ sym next; answered = k.answered; hold = k.hold }
  where
    free : (cond : Cond) → condition_read op cond ≡ None → is_condition cond ≡ false
    free Free e = refl
    free Must e = let no : ⊥ = cc in absurd no
    free MustNot e = let no : ⊥ = cc in absurd no

    nothing : condition_number a.op op ≡ []
    nothing = ap (λ b. if b then a.op ∷ [] else []) (free op.cond none)

    next : condition_numbers 0 (take (a.op + 1) ops) ≡ condition_numbers 0 (take a.op ops)
    next = conditions-next a.op ops op at ∙ ap (λ ns. condition_numbers 0 (take a.op ops) ++ ns) nothing ∙ append-nil (condition_numbers 0 (take a.op ops))
stage-answered ops a op stage.Act st at none k = record { asked = k.asked ∙ ap (conditions_due ops a.op) st; answered = k.answered ∙ sym next; hold = k.hold }
  where
    nothing : (x : Act) → act_read x ≡ None → number_of_read a.op x ≡ []
    nothing (act.Change w) e = refl
    nothing (act.Fetch r) e = let no : ⊥ = cc in absurd no

    next : read_numbers 0 (take (a.op + 1) ops) ≡ read_numbers 0 (take a.op ops)
    next = reads-next a.op ops op at ∙ ap (λ ns. read_numbers 0 (take a.op ops) ++ ns) (nothing op.act none) ∙ append-nil (read_numbers 0 (take a.op ops))

asks-answered : (p : ClientPlan) (c : ClientState) (d : Command) (a : Present) (attempts : List Attempt) (snapshot : Bool) (op : Op) (o : Option Read) → Here p c d a attempts
    → slice_get (ops_of d) a.op ≡ Some op → question a.stage op ≡ o → KeepsAnswers p attempts (asks_or_goes p c a snapshot o)
asks-answered p c d a attempts snapshot op None k at none =
    stays p c d a (next_stage a.stage a) attempts (asks_or_goes p c a snapshot None) k refl refl refl (stage-answered (ops_of d) a op a.stage refl at none k.answered)
asks-answered p c d a attempts snapshot op (Some r) k at none =
    stays p c d a (record a { waits = true }) attempts (asks_or_goes p c a snapshot (Some r)) k refl refl refl (record { asked = k.answered.asked; answered = k.answered.answered; hold = k.answered.hold })

op-answered : (p : ClientPlan) (c : ClientState) (d : Command) (a : Present) (attempts : List Attempt) (snapshot : Bool) (o : Option Op) → Here p c d a attempts
    → slice_get (ops_of d) a.op ≡ o → KeepsAnswers p attempts (op_moves p c a (ops_of d) snapshot o)
op-answered p c d a attempts snapshot None k at = commits-answered p c d a attempts (minor_writes 0 (ops_of d)) k at
op-answered p c d a attempts snapshot (Some op) k at = asks-answered p c d a attempts snapshot op (question a.stage op) k at refl

run-answered : (p : ClientPlan) (c : ClientState) (d : Command) (a : Present) (attempts : List Attempt) (turns : List ℕ) (snapshot : Bool) (s : Stage) → a.stage ≡ s → Here p c d a attempts
    → KeepsAnswers p attempts (run_moves p c a (ops_of d) turns snapshot s)
run-answered p c d a attempts turns snapshot stage.Skip st k =
    stays p c d a (next_stage stage.Skip a) attempts (run_moves p c a (ops_of d) turns snapshot stage.Skip) k refl refl refl
    (record { asked = k.answered.asked ∙ ap (conditions_due (ops_of d) a.op) st; answered = k.answered.answered; hold = k.answered.hold })
run-answered p c d a attempts turns snapshot stage.Cond st k = op-answered p c d a attempts snapshot (slice_get (ops_of d) a.op) k refl
run-answered p c d a attempts turns snapshot stage.Act st k = op-answered p c d a attempts snapshot (slice_get (ops_of d) a.op) k refl

attempt-answered : (p : ClientPlan) (c : ClientState) (d : Command) (a : Present) (attempts : List Attempt) → Here p c d a attempts → KeepsAnswers p attempts (attempt_moves p c a d)
attempt-answered p c (Run ops turns snapshot) a attempts k = run-answered p c (Run ops turns snapshot) a attempts turns (is_some snapshot) a.stage refl k
attempt-answered p c (Snap name cont) a attempts k =
    stays p c (Snap name cont) a (record a { waits = true }) attempts (attempt_moves p c a (Snap name cont)) k refl refl refl (record { asked = k.answered.asked; answered = k.answered.answered; hold = k.answered.hold })
attempt-answered p c (Aggregate cont) a attempts k =
    stays p c (Aggregate cont) a (record a { waits = true }) attempts (attempt_moves p c a (Aggregate cont)) k refl refl refl (record { asked = k.answered.asked; answered = k.answered.answered; hold = k.answered.hold })
attempt-answered p c (Tell client) a attempts k = let no : ⊥ = cc (k.at.numbered) in absurd no
attempt-answered p c (Skip turns) a attempts k = let no : ⊥ = cc (k.at.numbered) in absurd no

-- ---- commands begin

begins-answered : (p : ClientPlan) (c : ClientState) (d : Command) (attempts : List Attempt) (snapshot : Option (List ℕ)) (e : Option Epoch) → 0 < p.attempts → c.present ≡ None → HasTold p c attempts
    → command_at p c ≡ Some d → is_numbered d ≡ true → All (EndsAsAnswered p) attempts → KeepsAnswers p attempts (begins_at p c snapshot e)
begins-answered p c d attempts None e some none s at n told =
    answered-silent p attempts (begins_at p c None e) refl (record { ended = told; here = begun-answered (ops_here p c) 0 None None })
begins-answered p c d attempts (Some name) None some none s at n told =
    ends-answered p c d (begun 0 None None) outcome.NoSnapshot attempts (record { at = at; numbered = n; told = first }) told (All-nil (Holds (ops_of d)))
  where
    first : Stands p c.place c.command (Some 0) attempts
    first = stands-begins p c.place c.command d attempts (subst (λ o. Stands p c.place c.command (number_of o) attempts) none s) at n some
begins-answered p c d attempts (Some name) (Some e) some none s at n told =
    answered-silent p attempts (begins_at p c (Some name) (Some e)) refl (record { ended = told; here = begun-answered (ops_here p c) 0 None (Some e) })

none-here : (ops : List Op) (present : Option Present) → present ≡ None → IsAnsweredHere ops present
none-here ops present e = subst (λ o. IsAnsweredHere ops o) (sym e) tt

command-answered : (p : ClientPlan) (c : ClientState) (d : Command) (attempts : List Attempt) → 0 < p.attempts → c.present ≡ None → HasTold p c attempts → command_at p c ≡ Some d → All (EndsAsAnswered p) attempts
    → KeepsAnswers p attempts (command_moves p c d)
command-answered p c (Run ops turns snapshot) attempts some none s at told = begins-answered p c (Run ops turns snapshot) attempts snapshot (first_epoch c.known snapshot) some none s at refl told
command-answered p c (Snap name cont) attempts some none s at told = begins-answered p c (Snap name cont) attempts None (first_epoch c.known None) some none s at refl told
command-answered p c (Aggregate cont) attempts some none s at told = begins-answered p c (Aggregate cont) attempts None (first_epoch c.known None) some none s at refl told
command-answered p c (Tell client) attempts some none s at told =
    answered-silent p attempts (command_moves p c (Tell client)) refl (record { ended = told; here = none-here (ops_here p (next_place c)) c.present none })
command-answered p c (Skip turns) attempts some none s at told =
    answered-silent p attempts (command_moves p c (Skip turns)) refl (record { ended = told; here = none-here (ops_here p (next_place c)) c.present none })

-- ---- going on

-- what a client has told, and how it was answered
pub record Tells (p : ClientPlan) (c : ClientState) (attempts : List Attempt) : Type 0 where
  pub told : HasTold p c attempts
  pub answers : AreAnswered p c attempts

here-of : (p : ClientPlan) (c : ClientState) (d : Command) (a : Present) (attempts : List Attempt) → IsAt p c d a attempts → c.present ≡ Some a → AreAnswered p c attempts → Here p c d a attempts
here-of p c d a attempts k e s = record {
  at = k;
  ended = s.ended;
  answered = subst (λ o. IsAnswered (ops_or_none o) a) k.at (subst (λ o. IsAnsweredHere (ops_here p c) o) e s.here);
}

moves-at-answered : (p : ClientPlan) (c : ClientState) (attempts : List Attempt) (o : Option Command) (present : Option Present) → 0 < p.attempts → Tells p c attempts → command_at p c ≡ o → c.present ≡ present
    → KeepsAnswers p attempts (moves_at p c o present)
moves-at-answered p c attempts None present some s at e = answered-silent p attempts (moves_at p c None present) refl s.answers
moves-at-answered p c attempts (Some d) None some s at e = command-answered p c d attempts some e s.told at s.answers.ended
moves-at-answered p c attempts (Some d) (Some a) some s at e =
    let k = is-at p c a attempts e s.told in
    let same : Some d ≡ Some k.0 = sym at ∙ k.1.at in
    let one : k.0 ≡ d = cc in
    attempt-answered p c d a attempts (here-of p c d a attempts (subst (λ f. IsAt p c f a attempts) one k.1) e s.answers)

-- each move of a client that goes on keeps that its attempts end as they were answered
pub moved-answered : (p : ClientPlan) (c : ClientState) (attempts : List Attempt) → 0 < p.attempts → Tells p c attempts → KeepsAnswers p attempts (moved p c)
unfolding moved
moved-answered p c attempts some s = by (waits c)
  where
    by : (b : Bool) → KeepsAnswers p attempts (if b then rests c else moves_at p c (command_at p c) c.present)
    by true = answered-silent p attempts (rests c) refl s.answers
    by false = moves-at-answered p c attempts (command_at p c) c.present some s refl refl

-- ---- hearing

refusal-well : (ops : List Op) (a : Attempt) (how : Outcome) → is_refusal how ≡ true → AllHold ops a → EndsWell ops a how
refusal-well ops a outcome.Committed r h = let no : ⊥ = cc in absurd no
refusal-well ops a (outcome.CondFailed op) r h = let no : ⊥ = cc in absurd no
refusal-well ops a (outcome.Restart cause) r h = h
refusal-well ops a (outcome.NoSpace target need free) r h = h
refusal-well ops a outcome.EpochsSpent r h = h
refusal-well ops a outcome.NoSnapshot r h = h
refusal-well ops a (outcome.Unknown target) r h = h

refused-answered : (p : ClientPlan) (c : ClientState) (d : Command) (a : Present) (how : Outcome) (attempts : List Attempt) → Here p c d a attempts → is_refusal how ≡ true → KeepsAnswers p attempts (ends p c a how)
refused-answered p c d a how attempts k r = ends-answered p c d a how attempts k.at k.ended (refusal-well (ops_of d) (told_end p c a how) how r k.answered.hold)

-- an operation has a condition where it is asked one
asked-condition : (op : Op) (cond : Cond) (r : Read) → condition_read op cond ≡ Some r → is_condition cond ≡ true
asked-condition op Free r e = let no : ⊥ = cc in absurd no
asked-condition op Must r e = refl
asked-condition op MustNot r e = refl

-- the conditions once one more was told
conditions-more : (ops : List Op) (a : Present) (op : Op) (there : Bool) → a.stage ≡ stage.Cond → slice_get ops a.op ≡ Some op → is_condition op.cond ≡ true → IsAnswered ops a
    → map (λ told. told.0) (a.conds ++ (a.op, there) ∷ []) ≡ condition_numbers 0 (take (a.op + 1) ops)
conditions-more ops a op there st at cond k =
    map_push (λ told. told.0) a.conds (a.op, there) ∙ ap (λ ns. ns ++ a.op ∷ []) (k.asked ∙ ap (conditions_due ops a.op) st)
    ∙ ap (λ ns. condition_numbers 0 (take a.op ops) ++ ns) (sym (ap (λ b. if b then a.op ∷ [] else []) cond)) ∙ sym (conditions-next a.op ops op at)

condition-answered : (p : ClientPlan) (c : ClientState) (d : Command) (a : Present) (attempts : List Attempt) (op : Op) (there : Bool) → Here p c d a attempts → a.stage ≡ stage.Cond
    → slice_get (ops_of d) a.op ≡ Some op → is_condition op.cond ≡ true → KeepsAnswers p attempts (condition_told p c a op.cond there)
condition-answered p c d a attempts op there k st at cond = by (holds_where there op.cond) refl
  where
    told : Present
    told = record a { conds = a.conds ++ (a.op, there) ∷ [] }

    due : map (λ t. t.0) told.conds ≡ condition_numbers 0 (take (a.op + 1) (ops_of d))
    due = conditions-more (ops_of d) a op there st at cond k.answered

    own : (b : Bool) → holds_where there op.cond ≡ b → op_holds_where there (slice_get (ops_of d) a.op) ≡ b
    own b h = ap (op_holds_where there) at ∙ h

    by : (b : Bool) → holds_where there op.cond ≡ b → KeepsAnswers p attempts (if b then goes (at_present (next_stage stage.Cond told) c) else ends p c told (outcome.CondFailed a.op))
    by true h = stays p c d a (next_stage stage.Cond told) attempts (goes (at_present (next_stage stage.Cond told) c)) k refl refl refl
        (record { asked = due; answered = k.answered.answered; hold = All-append (Holds (ops_of d)) a.conds ((a.op, there) ∷ []) k.answered.hold (All-cons (Holds (ops_of d)) (a.op, there) [] (own true h) (All-nil (Holds (ops_of d)))) })
    by false h = ends-answered p c d told (outcome.CondFailed a.op) attempts (same-at k.at) k.ended
        (record { held = a.conds; there = there; told = refl; asked = due; hold = k.answered.hold; fails = own false h })
      where
        same-at : IsAt p c d a attempts → IsAt p c d told attempts
        same-at i = record { at = i.at; numbered = i.numbered; told = i.told }

read-answered : (p : ClientPlan) (c : ClientState) (d : Command) (a : Present) (attempts : List Attempt) (op : Op) (r : Read) (b : Answer) → Here p c d a attempts → a.stage ≡ stage.Act
    → slice_get (ops_of d) a.op ≡ Some op → op.act ≡ act.Fetch r → KeepsAnswers p attempts (read_told c a b)
read-answered p c d a attempts op r b k st at fetch =
    stays p c d a (next_op (record a { gots = a.gots ++ (a.op, b) ∷ [] })) attempts (read_told c a b) k refl refl refl
    (record { asked = k.answered.asked ∙ ap (conditions_due (ops_of d) a.op) st; answered = due; hold = k.answered.hold })
  where
    due : map (λ got. got.0) (a.gots ++ (a.op, b) ∷ []) ≡ read_numbers 0 (take (a.op + 1) (ops_of d))
    due = map_push (λ got. got.0) a.gots (a.op, b) ∙ ap (λ ns. ns ++ a.op ∷ []) k.answered.answered
        ∙ ap (λ x. read_numbers 0 (take a.op (ops_of d)) ++ number_of_read a.op x) (sym fetch) ∙ sym (reads-next a.op (ops_of d) op at)

fetched-act : (x : Act) (r : Read) → act_read x ≡ Some r → x ≡ act.Fetch r
fetched-act (act.Fetch q) r e = let same : q ≡ r = cc in ap act.Fetch same
fetched-act (act.Change w) r e = let no : ⊥ = cc in absurd no

told-at-answered : (p : ClientPlan) (c : ClientState) (d : Command) (a : Present) (attempts : List Attempt) (op : Op) (r : Read) (s : Stage) (b : Answer) → Here p c d a attempts → a.stage ≡ s
    → slice_get (ops_of d) a.op ≡ Some op → question s op ≡ Some r → KeepsAnswers p attempts (told_at p c a op.cond s b)
told-at-answered p c d a attempts op r stage.Skip b k st at asks' = let no : ⊥ = cc in absurd no
told-at-answered p c d a attempts op r stage.Cond b k st at asks' = condition-answered p c d a attempts op (is_yes b) k st at (asked-condition op op.cond r asks')
told-at-answered p c d a attempts op r stage.Act b k st at asks' = read-answered p c d a attempts op r b k st at (fetched-act op.act r asks')

group-answered : (p : ClientPlan) (c : ClientState) (d : Command) (a : Present) (attempts : List Attempt) (op : Op) (r : Read) (b : Answer) → Here p c d a attempts → slice_get (ops_of d) a.op ≡ Some op
    → question a.stage op ≡ Some r → KeepsAnswers p attempts (group_told p c a op b)
group-answered p c d a attempts op r b k at asks' = by (nat_lt (a.group + 1) (group_count (op_path op).obj (op_path op).dkey p.targets))
  where
    more : Present
    more = record a { group = a.group + 1; found = Some (joined a.found b) }

    by : (l : Bool) → KeepsAnswers p attempts (if l then goes (at_present more c) else told_at p c a op.cond a.stage (joined a.found b))
    by true = stays p c d a more attempts (goes (at_present more c)) k refl refl refl (record { asked = k.answered.asked; answered = k.answered.answered; hold = k.answered.hold })
    by false = told-at-answered p c d a attempts op r a.stage (joined a.found b) k refl at asks'

op-told-answered : (p : ClientPlan) (c : ClientState) (d : Command) (a : Present) (attempts : List Attempt) (b : Answer) (o : Option Op) → Here p c d a attempts → IsAsking (ops_of d) a
    → slice_get (ops_of d) a.op ≡ o → KeepsAnswers p attempts (op_told p c a b o)
op-told-answered p c d a attempts b None k asking at = let no : ⊥ = cc (at, asking.at) in absurd no
op-told-answered p c d a attempts b (Some op) k asking at =
    let same : Some op ≡ Some asking.op = sym at ∙ asking.at in
    let one : asking.op ≡ op = cc in
    group-answered p c d a attempts op asking.read b k at (subst (λ q. question a.stage q ≡ Some asking.read) one asking.asks)

op-here : (p : ClientPlan) (c : ClientState) (d : Command) (n : ℕ) → command_at p c ≡ Some d → op_of (command_at p c) n ≡ slice_get (ops_of d) n
op-here p c d n at = ap (λ o. op_of o n) at

replied-answered : (p : ClientPlan) (c : ClientState) (d : Command) (a : Present) (attempts : List Attempt) (b : Reply) → Here p c d a attempts → IsReplyFit (ops_of d) a b → KeepsAnswers p attempts (replied p c a b)
replied-answered p c d a attempts (reply.Answer b) k fit =
    subst (λ o. KeepsAnswers p attempts (op_told p c a b o)) (sym (op-here p c d a.op k.at.at)) (op-told-answered p c d a attempts b (slice_get (ops_of d) a.op) k fit refl)
replied-answered p c d a attempts (reply.Outcome how) k fit = refused-answered p c d a how attempts k fit

-- the same attempt, with more known of it or of the client
known-here : (p : ClientPlan) (c e : ClientState) (d : Command) (a b : Present) (attempts : List Attempt) → e.place ≡ c.place → e.command ≡ c.command → b.attempt ≡ a.attempt → b.conds ≡ a.conds → b.gots ≡ a.gots
    → b.op ≡ a.op → b.stage ≡ a.stage → Here p c d a attempts → Here p e d b attempts
known-here p c e d a b attempts place command number conds gots op st k = record {
  at = known-more p c e d a b attempts place command number k.at;
  ended = k.ended;
  answered = record {
    asked = ap (map (λ t. t.0)) conds ∙ k.answered.asked ∙ ap (λ n. conditions_due (ops_of d) n a.stage) (sym op) ∙ ap (conditions_due (ops_of d) b.op) (sym st);
    answered = ap (map (λ t. t.0)) gots ∙ k.answered.answered ∙ ap (λ n. read_numbers 0 (take n (ops_of d))) (sym op);
    hold = subst (All (Holds (ops_of d))) (sym conds) k.answered.hold;
  };
}

ended-answered : (p : ClientPlan) (c : ClientState) (d : Command) (a : Present) (attempts : List Attempt) (e : Option Epoch) (how : Outcome) → Here p c d a attempts
    → (is_refusal how ≡ true) ⊎ ((how ≡ outcome.Committed) × (slice_get (ops_of d) a.op ≡ None)) → KeepsAnswers p attempts (ended p c a e how)
ended-answered p c d a attempts e how k fit = by fit
  where
    f : ClientState
    f = record c { known = snaps_known (command_at p c) e how c.known }

    more : Here p f d a attempts
    more = known-here p c f d a a attempts refl refl refl refl refl refl refl k

    by : (is_refusal how ≡ true) ⊎ ((how ≡ outcome.Committed) × (slice_get (ops_of d) a.op ≡ None)) → KeepsAnswers p attempts (ends p f a how)
    by (inl r) = refused-answered p f d a how attempts more r
    by (inr w) = ends-answered p f d a how attempts more.at more.ended (subst (λ h. EndsWell (ops_of d) (told_end p f a how) h) (sym w.0) (answered-whole (ops_of d) p f a how w.1 more.answered))

reset-answered : (p : ClientPlan) (c : ClientState) (d : Command) (a : Present) (attempts : List Attempt) (target : ℕ) (m : Message) → Here p c d a attempts → KeepsAnswers p attempts (reset p c a target m)
reset-answered p c d a attempts target (message.Fetch x op group e first tracker r snapshot) k = refused-answered p c d a (outcome.Restart (Unresolved (attempt_id p c a))) attempts k refl
reset-answered p c d a attempts target (message.Commit x e first tracker ws) k = stays p c d a (record a { waits = true }) attempts (asks_again p c a target) k refl refl refl (record { asked = k.answered.asked; answered = k.answered.answered; hold = k.answered.hold })
reset-answered p c d a attempts target (message.Ask x) k = stays p c d a (record a { waits = true }) attempts (asks_again p c a target) k refl refl refl (record { asked = k.answered.asked; answered = k.answered.answered; hold = k.answered.hold })
reset-answered p c d a attempts target (message.Snap x cont name tracker) k = refused-answered p c d a (outcome.Restart (Unresolved (attempt_id p c a))) attempts k refl
reset-answered p c d a attempts target (message.Prune x cont tracker e) k = refused-answered p c d a (outcome.Restart (Unresolved (attempt_id p c a))) attempts k refl
reset-answered p c d a attempts target (message.Tell tracker) k = refused-answered p c d a (outcome.Restart (Unresolved (attempt_id p c a))) attempts k refl
reset-answered p c d a attempts target (message.Prepare entry first ws inc) k = refused-answered p c d a (outcome.Restart (Unresolved (attempt_id p c a))) attempts k refl
reset-answered p c d a attempts target (message.Ack x inc refusal) k = refused-answered p c d a (outcome.Restart (Unresolved (attempt_id p c a))) attempts k refl
reset-answered p c d a attempts target (message.Mark inc marks) k = refused-answered p c d a (outcome.Restart (Unresolved (attempt_id p c a))) attempts k refl
reset-answered p c d a attempts target (message.Marked inc attempts') k = refused-answered p c d a (outcome.Restart (Unresolved (attempt_id p c a))) attempts k refl
reset-answered p c d a attempts target (message.Query x ask) k = refused-answered p c d a (outcome.Restart (Unresolved (attempt_id p c a))) attempts k refl
reset-answered p c d a attempts target (message.Verdict x ask inc verdict) k = refused-answered p c d a (outcome.Restart (Unresolved (attempt_id p c a))) attempts k refl
reset-answered p c d a attempts target (message.Status x inc) k = refused-answered p c d a (outcome.Restart (Unresolved (attempt_id p c a))) attempts k refl
reset-answered p c d a attempts target (message.StatusIs x inc state) k = refused-answered p c d a (outcome.Restart (Unresolved (attempt_id p c a))) attempts k refl
reset-answered p c d a attempts target (message.Freeze x cont e) k = refused-answered p c d a (outcome.Restart (Unresolved (attempt_id p c a))) attempts k refl
reset-answered p c d a attempts target (message.Held x refusal) k = refused-answered p c d a (outcome.Restart (Unresolved (attempt_id p c a))) attempts k refl
reset-answered p c d a attempts target (message.Fetched x op group e b) k = refused-answered p c d a (outcome.Restart (Unresolved (attempt_id p c a))) attempts k refl
reset-answered p c d a attempts target (message.Ended x e how) k = refused-answered p c d a (outcome.Restart (Unresolved (attempt_id p c a))) attempts k refl
reset-answered p c d a attempts target (message.Reset' t w place row) k = refused-answered p c d a (outcome.Restart (Unresolved (attempt_id p c a))) attempts k refl

reset-by-answered : (p : ClientPlan) (c : ClientState) (d : Command) (a : Present) (attempts : List Attempt) (target : ℕ) (down : Bool) (m : Message) → Here p c d a attempts → KeepsAnswers p attempts (reset_by p c a target down m)
reset-by-answered p c d a attempts target false m k = reset-answered p c d a attempts target m k
reset-by-answered p c d a attempts target true m k = refused-answered p c d a (outcome.Unknown target) attempts k refl

answered-answered : (p : ClientPlan) (c : ClientState) (d : Command) (a : Present) (attempts : List Attempt) (m : Message) → AreAnswered p c attempts → Here p c d a attempts → IsFit p c a m
    → KeepsAnswers p attempts (answered p c a m)
answered-answered p c d a attempts (message.Fetch x op group e first tracker r snapshot) s k fit = answered-silent p attempts (goes c) refl s
answered-answered p c d a attempts (message.Commit x e first tracker ws) s k fit = answered-silent p attempts (goes c) refl s
answered-answered p c d a attempts (message.Ask x) s k fit = answered-silent p attempts (goes c) refl s
answered-answered p c d a attempts (message.Snap x cont name tracker) s k fit = answered-silent p attempts (goes c) refl s
answered-answered p c d a attempts (message.Prune x cont tracker e) s k fit = answered-silent p attempts (goes c) refl s
answered-answered p c d a attempts (message.Tell tracker) s k fit = answered-silent p attempts (goes c) refl s
answered-answered p c d a attempts (message.Prepare entry first ws inc) s k fit = answered-silent p attempts (goes c) refl s
answered-answered p c d a attempts (message.Ack x inc refusal) s k fit = answered-silent p attempts (goes c) refl s
answered-answered p c d a attempts (message.Mark inc marks) s k fit = answered-silent p attempts (goes c) refl s
answered-answered p c d a attempts (message.Marked inc attempts') s k fit = answered-silent p attempts (goes c) refl s
answered-answered p c d a attempts (message.Query x ask) s k fit = answered-silent p attempts (goes c) refl s
answered-answered p c d a attempts (message.Verdict x ask inc verdict) s k fit = answered-silent p attempts (goes c) refl s
answered-answered p c d a attempts (message.Status x inc) s k fit = answered-silent p attempts (goes c) refl s
answered-answered p c d a attempts (message.StatusIs x inc state) s k fit = answered-silent p attempts (goes c) refl s
answered-answered p c d a attempts (message.Freeze x cont e) s k fit = answered-silent p attempts (goes c) refl s
answered-answered p c d a attempts (message.Held x refusal) s k fit = answered-silent p attempts (goes c) refl s
answered-answered p c d a attempts (message.Fetched x op group e b) s k fit =
    replied-answered p c d (knows e a) attempts b (known-here p c c d a (knows e a) attempts refl refl refl refl refl refl refl k) (fit-here b (subst (λ o. IsReplyFit (ops_or_none o) a b) k.at.at fit))
  where
    fit-here : (b : Reply) → IsReplyFit (ops_of d) a b → IsReplyFit (ops_of d) (knows e a) b
    fit-here (reply.Answer x) f = record { op = f.op; read = f.read; at = f.at; asks = f.asks }
    fit-here (reply.Outcome how) f = f
answered-answered p c d a attempts (message.Ended x e how) s k fit =
    ended-answered p c d (knows e a) attempts e how (known-here p c c d a (knows e a) attempts refl refl refl refl refl refl refl k)
    (subst (λ o. (is_refusal how ≡ true) ⊎ ((how ≡ outcome.Committed) × (slice_get (ops_or_none o) a.op ≡ None))) k.at.at fit)
answered-answered p c d a attempts (message.Reset' t w place (more_of-Message m row)) s k fit =
    reset-by-answered p c d (record a { waits = false }) attempts t w m (known-here p c c d a (record a { waits = false }) attempts refl refl refl refl refl refl refl k)

heard-at-answered : (p : ClientPlan) (c : ClientState) (attempts : List Attempt) (m : Message) (present : Option Present) → Tells p c attempts → c.present ≡ present → IsFitHere p c m present
    → KeepsAnswers p attempts (heard_at p c m present)
heard-at-answered p c attempts m None s e fit = answered-silent p attempts (goes c) refl s.answers
heard-at-answered p c attempts m (Some a) s e fit = by a.waits (is_about (attempt_id p c a) (about m)) refl refl
  where
    here : (d : Command) × IsAt p c d a attempts
    here = is-at p c a attempts e s.told

    by : (w i : Bool) → a.waits ≡ w → is_about (attempt_id p c a) (about m) ≡ i → KeepsAnswers p attempts (if w && i then answered p c a m else goes c)
    by true true w i = answered-answered p c here.0 a attempts m s.answers (here-of p c here.0 a attempts here.1 e s.answers) (fit w i)
    by true false w i = answered-silent p attempts (goes c) refl s.answers
    by false i w h = answered-silent p attempts (goes c) refl s.answers

same-answers : (p : ClientPlan) (c e : ClientState) (attempts : List Attempt) → e.place ≡ c.place → e.present ≡ c.present → AreAnswered p c attempts → AreAnswered p e attempts
same-answers p c e attempts place present s = record { ended = s.ended; here = rw (place, present) s.here }

-- a client that hears a message that is fit to it keeps that its attempts end as they were answered
pub heard-answered : (p : ClientPlan) (c : ClientState) (attempts : List Attempt) (m : Message) → Tells p c attempts → IsFitHere p c m c.present → KeepsAnswers p attempts (heard p c m)
unfolding heard
heard-answered p c attempts m s fit =
    heard-at-answered p (hears_epochs m c) attempts m c.present (record { told = s.told; answers = same-answers p c (hears_epochs m c) attempts refl refl s.answers }) refl (same c.present fit)
  where
    same : (present : Option Present) → IsFitHere p c m present → IsFitHere p (hears_epochs m c) m present
    same None f = tt
    same (Some a) f = f
