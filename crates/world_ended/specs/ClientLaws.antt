-- Each turn of a client keeps what it has asked to commit, and that its attempts end as they were answered.
use Rattle.std.specs.Prelude.{ℕ, zero, suc, ◌≡◌, ◌≤◌, ◌<◌, ◌+◌, ◌++◌, ◌||◌, ◌&&◌, Bool, true, false, nat_lt, List, [], ◌∷◌, slice_get, is_some, Option, Some, None, refl, if◌then◌else◌}
use Rattle.std.proofs.Common.{append-nil, inl, inr, sym, ◌∙◌, ap, subst, arith}
use Rattle.std.proofs.lemmas.List.{append_assoc}
use Rattle.base_types.specs.declared.answer.Answer.{Answer}
use Rattle.base_types.specs.declared.epoch.Epoch.{Epoch}
use Rattle.base_types.specs.declared.id.AttemptId.{AttemptId}
use Rattle.base_types.specs.declared.operation.Cond.{Cond}
use Rattle.base_types.specs.declared.operation.MinorWrite.{MinorWrite}
use Rattle.base_types.specs.declared.operation.Op.{Op}
use Rattle.base_types.specs.declared.operation.Read.{Read}
use Rattle.base_types.specs.declared.operation.Read.TheVariants as read
use Rattle.base_types.specs.declared.outcome.Cause.TheVariants.{Unresolved}
use Rattle.base_types.specs.declared.outcome.Outcome.{Outcome}
use Rattle.base_types.specs.declared.outcome.Outcome.TheVariants as outcome
use Rattle.base_types.specs.declared.report.Attempt.{Attempt}
use Rattle.base_types.specs.declared.report.Line.{Line}
use Rattle.base_types.specs.declared.script.Command.{Command}
use Rattle.base_types.specs.declared.script.Command.TheVariants.{Aggregate, Run, Skip, Snap, Tell}
use Rattle.base_messages.specs.declared.message.Message.{Message, more_of-Message}
use Rattle.base_messages.specs.declared.message.Message.TheVariants as message
use Rattle.base_messages.specs.declared.message.Post.{Post}
use Rattle.base_messages.specs.declared.message.Reply.{Reply}
use Rattle.base_messages.specs.declared.message.Reply.TheVariants as reply
use Rattle.daos_model.specs.Accesses.{minor_writes, op_path}
use Rattle.daos_model.specs.Attempts.{is_restart, snapshot_of_command, tries}
use Rattle.daos_model.specs.BoolLaws.{or_from_right, or_other}
use Rattle.daos_model.specs.Conditions.{holds_where}
use Rattle.daos_model.specs.Durables.{same_attempt}
use Rattle.daos_model.specs.EntryLaws.{same_attempt-itself}
use Rattle.daos_model.specs.Kinds.{is_of_kind}
use Rattle.daos_model.specs.Laws.{tries-append}
use Rattle.daos_model.specs.Transactions.{ops_of, ops_or_none}
use Rattle.world_letters.specs.model_laws.EntryLaws.{same-attempt}
use Rattle.world_letters.specs.world_base.declared.client.ClientPlan.{ClientPlan}
use Rattle.world_letters.specs.world_base.declared.client.ClientState.{ClientState}
use Rattle.world_letters.specs.world_base.declared.client.Present.{Present}
use Rattle.world_letters.specs.world_base.declared.client.Stage.{Stage}
use Rattle.world_letters.specs.world_base.declared.client.Stage.TheVariants as stage
use Rattle.world_letters.specs.world_base.declared.did.Did.{Did}
use Rattle.world_letters.specs.world_base.ClientTurns.{Ended_by, GoesOn, HearTurn, Heard_on, Move, Moves, NextTurn, None_yet, One_more, Skipped, Went_on, about, after_end, answered, asks, asks_again, asks_or_goes, at_present, attempt_id, attempt_moves, begins_at, begun, command_at, command_moves, commits, condition_told, ends, first_epoch, goes, group_count, group_told, heard, heard_at, hears_epochs, is_about, joined, knows, listed, moved, moves_at, next_command, next_op, next_place, next_stage, op_moves, op_of, op_told, question, read_told, replied, request_of, reset, reset_by, rests, run_moves, skip_counted, snaps_known, told_at, waits}
use Rattle.world_letters.specs.clients.AnswerLaws.{Tells, heard-answered, moved-answered}
use Rattle.world_letters.specs.clients.Answered.{IsAsking, IsFit, IsFitHere, is_refusal, ops_here}
use Rattle.world_letters.specs.clients.MoveLaws.{IsAt, heard-keeps, is-at, moved-keeps}
use Rattle.world_letters.specs.clients.Standing.{HasTold, number_of, tells}
use Rattle.world_ended.specs.Asking.{Asked, AsksSo, GoesWith, IsEnd, PostsGoWith}
use Rattle.world_ended.specs.Clients.{AreMore, IsAskingClient, IsAskingHere, LeavesAsking, LeavesWell, NoneAsked}
use Rattle.world_ended.specs.PostLaws.{both-posted, none-posted, one-posted}
use Rattle.world_letters.specs.kinds.Fitting.{IsFittingClient, IsFittingHere, IsToCome, Loads, OneGoesAbout, asked_at, id_of, ops_at}
use Rattle.world_letters.specs.kinds.Loads.{load, weight, weight_if}

-- ---- what was asked before still goes

pub goes-more : (asked now : Asked) (m : Message) → AreMore asked now → GoesWith asked m → GoesWith now m
goes-more asked now (message.Fetched x op group e b) more k = k
goes-more asked now (message.Ended x e how) more (inl refused) = inl refused
goes-more asked now (message.Ended x e how) more (inr k) = inr (k.0, more x k.1)
goes-more asked now (message.Ack x inc refusal) more k = k
goes-more asked now (message.Held x refusal) more k = k
goes-more asked now (message.Reset' by down place (more_of-Message m rest)) more k = asks-more m k
  where
    asks-more : (m : Message) → AsksSo asked m → AsksSo now m
    asks-more (message.Commit x e first tracker ws) k = more x k
    asks-more (message.Ask x) k = more x k
    asks-more (message.Snap x cont name tracker) k = more x k
    asks-more (message.Prune x cont tracker e) k = more x k
    asks-more m k = tt
goes-more asked now (message.Commit x e first tracker ws) more k = more x k
goes-more asked now (message.Ask x) more k = more x k
goes-more asked now (message.Snap x cont name tracker) more k = more x k
goes-more asked now (message.Prune x cont tracker e) more k = more x k
goes-more asked now m more k = tt

pub posts-more : (asked now : Asked) (posts : List Post) → AreMore asked now → PostsGoWith asked posts → PostsGoWith now posts
posts-more asked now posts more k q i = goes-more asked now q.message more (k q i)

-- what got no answer is told so
pub reset-goes : (asked : Asked) (m : Message) → GoesWith asked m → AsksSo asked m
reset-goes asked (message.Commit x e first tracker ws) k = k
reset-goes asked (message.Ask x) k = k
reset-goes asked (message.Snap x cont name tracker) k = k
reset-goes asked (message.Prune x cont tracker e) k = k
reset-goes asked m k = tt

-- ---- a move

none-there : {T : Type 0} (n : ℕ) → ◌≡◌ {A = Option T} (slice_get [] n) None
none-there zero = refl
none-there (suc n) = refl

past-suc : {T : Type 0} (xs : List T) (n : ℕ) → slice_get xs n ≡ None → slice_get xs (suc n) ≡ None
past-suc [] n h = none-there (suc n)
past-suc (x ∷ xs) zero h = let no : ⊥ = cc in absurd no
past-suc (x ∷ xs) (suc n) h = past-suc xs n h

-- behind the last operation there is none
past-next : {T : Type 0} (xs : List T) (n : ℕ) → slice_get xs n ≡ None → slice_get xs (n + 1) ≡ None
past-next xs n h = subst (λ k. slice_get xs k ≡ None) (next n) (past-suc xs n h)
  where
    next : (n : ℕ) → suc n ≡ n + 1
    next n = omega arith

abbrev MovesAsking : ClientPlan → Asked → Move → Type 0
MovesAsking p asked m = LeavesAsking p asked m.state (listed m.post)

-- a move that asks nothing
quiet : (p : ClientPlan) (asked : Asked) (m : Move) → m.post ≡ None → IsAskingClient p m.state asked → MovesAsking p asked m
quiet p asked m post k = record { now = asked; more = λ x was. was; own = λ x apart is. is; client = k; said = subst (λ o. PostsGoWith asked (listed o)) (sym post) (none-posted asked) }

-- or what goes with what was asked before
posting : (p : ClientPlan) (asked : Asked) (m : Move) (q : Post) → m.post ≡ Some q → GoesWith asked q.message → IsAskingClient p m.state asked → MovesAsking p asked m
posting p asked m q post goes' k = record { now = asked; more = λ x was. was; own = λ x apart is. is; client = k; said = subst (λ o. PostsGoWith asked (listed o)) (sym post) (one-posted asked q goes') }

-- a client at an attempt of a command
record IsAskingOf (p : ClientPlan) (c : ClientState) (d : Command) (a : Present) (asked : Asked) : Type 0 where
  pub at : command_at p c ≡ Some d
  pub here : asked (attempt_id p c a) ≡ true → slice_get (ops_of d) a.op ≡ None
  pub to_come : NoneAsked asked p.number c.command (Some a.attempt)

-- of an attempt that begins nothing was asked
begins-asking : (p : ClientPlan) (c : ClientState) (asked : Asked) (b : Present) → asked (attempt_id p c b) ≡ false → IsAskingHere p c.place c.command asked (Some b)
begins-asking p c asked b none was = let no : ⊥ = cc in absurd no

further : (command n : ℕ) (y : AttemptId) → IsToCome command (Some (n + 1)) y → IsToCome command (Some n) y
further command n y (inl more) = inl more
further command n y (inr same) = inr (same.0, let more = same.1 in omega (arith, more))

after-end : (p : ClientPlan) (c : ClientState) (d : Command) (a : Present) (how : Outcome) (asked : Asked) → NoneAsked asked p.number c.command (Some a.attempt) → IsAskingClient p (after_end p c (Some d) a how) asked
after-end p c d a how asked none = by (is_restart how && nat_lt (a.attempt + 1) p.attempts)
  where
    next : Present
    next = begun (a.attempt + 1) a.first (first_epoch c.known (snapshot_of_command d))

    by : (b : Bool) → IsAskingClient p (if b then at_present next c else next_command c) asked
    by true = record {
      here = begins-asking p c asked next (none (attempt_id p c next) refl (inr (refl, omega arith)));
      to_come = λ y own later. none y own (further c.command a.attempt y later);
    }
    by false = record { here = tt; to_come = λ y own later. none y own (inl (omega (arith, later))) }

ends-asking : (p : ClientPlan) (c : ClientState) (d : Command) (a : Present) (how : Outcome) (asked : Asked) → command_at p c ≡ Some d → NoneAsked asked p.number c.command (Some a.attempt) → MovesAsking p asked (ends p c a how)
ends-asking p c d a how asked at none = quiet p asked (ends p c a how) refl (subst (λ o. IsAskingClient p (after_end p c o a how) asked) (sym at) (after-end p c d a how asked none))

module _ (p : ClientPlan) (c : ClientState) (d : Command) (a : Present) (asked : Asked) (k : IsAskingOf p c d a asked) where
  abbrev its : AttemptId
  its = attempt_id p c a

  -- the same attempt goes on
  stays : (b : Present) → b.attempt ≡ a.attempt → (slice_get (ops_of d) a.op ≡ None → slice_get (ops_of d) b.op ≡ None) → IsAskingClient p (at_present b c) asked
  stays b number later = record {
    here = λ was. subst (λ o. slice_get (ops_or_none o) b.op ≡ None) (sym k.at) (later (k.here (subst (λ n. asked (record { client = p.number; command = c.command; attempt = n }) ≡ true) number was)));
    to_come = subst (λ n. NoneAsked asked p.number c.command (Some n)) (sym number) k.to_come;
  }

  ends-so : (how : Outcome) → MovesAsking p asked (ends p c a how)
  ends-so how = ends-asking p c d a how asked k.at k.to_come

  -- it asks for its end, behind the last operation
  abbrev and-its : Asked
  and-its x = asked x || same_attempt x its

  of-its : (x : AttemptId) → and-its x ≡ true → asked x ≡ false → x ≡ its
  of-its x is not' = same-attempt x its (or_other (asked x) (same_attempt x its) is not')

  asks-end : (m : Message) (target : ℕ) → slice_get (ops_of d) a.op ≡ None → ((now : Asked) → now its ≡ true → GoesWith now m) → MovesAsking p asked (asks target m a c)
  asks-end m target past goes' = record {
    now = and-its;
    more = λ x was. ap (λ b. b || same_attempt x its) was;
    own = λ x apart is. cases x apart is (asked x) refl;
    client = record { here = λ was. subst (λ o. slice_get (ops_or_none o) a.op ≡ None) (sym k.at) past; to_come = λ y own later. none y later (same_attempt y its) (k.to_come y own later) refl };
    said = one-posted and-its (record { to = record { client = false; number = target }; message = m }) (goes' and-its (or_from_right (asked its) (same_attempt its its) (same_attempt-itself its)));
  }
    where
      cases : (x : AttemptId) → (x.client ≡ p.number → ⊥) → and-its x ≡ true → (b : Bool) → asked x ≡ b → asked x ≡ true
      cases x apart is true e = e
      cases x apart is false e = absurd (apart (ap (λ (z : AttemptId). z.client) (of-its x is e)))

      later-not : (y : AttemptId) → IsToCome c.command (Some a.attempt) y → y ≡ its → ⊥
      later-not y (inl more) same = let e : y.command ≡ c.command = ap (λ (z : AttemptId). z.command) same in omega (arith, more, e)
      later-not y (inr more) same = let e : y.attempt ≡ a.attempt = ap (λ (z : AttemptId). z.attempt) same in let low = more.1 in omega (arith, low, e)

      none : (y : AttemptId) → IsToCome c.command (Some a.attempt) y → (s : Bool) → asked y ≡ false → same_attempt y its ≡ s → and-its y ≡ false
      none y later true was same = absurd (later-not y later (same-attempt y its same))
      none y later false was same = ap (λ z. z || same_attempt y its) was ∙ same

  commits-asking : (ws : List MinorWrite) → slice_get (ops_of d) a.op ≡ None → MovesAsking p asked (commits p c a ws)
  commits-asking [] past = ends-so outcome.Committed
  commits-asking (w ∷ ws) past = asks-end (message.Commit its a.epoch a.first c.tracker (w ∷ ws)) _ past (λ now is. is)

  stage-stays : (s : Stage) → (next_stage s a).attempt ≡ a.attempt
  stage-stays stage.Skip = refl
  stage-stays stage.Cond = refl
  stage-stays stage.Act = refl

  stage-later : (s : Stage) → slice_get (ops_of d) a.op ≡ None → slice_get (ops_of d) (next_stage s a).op ≡ None
  stage-later stage.Skip past = past
  stage-later stage.Cond past = past
  stage-later stage.Act past = past-next (ops_of d) a.op past

  asks-asking : (snapshot : Bool) (o : Option Read) → MovesAsking p asked (asks_or_goes p c a snapshot o)
  asks-asking snapshot None = quiet p asked (asks_or_goes p c a snapshot None) refl (stays (next_stage a.stage a) (stage-stays a.stage) (stage-later a.stage))
  asks-asking snapshot (Some r) = record { now = asked; more = λ x was. was; own = λ x apart is. is; client = stays (record a { waits = true }) refl (λ past. past); said = one-posted asked _ tt }

  op-asking : (snapshot : Bool) (o : Option Op) → slice_get (ops_of d) a.op ≡ o → MovesAsking p asked (op_moves p c a (ops_of d) snapshot o)
  op-asking snapshot None past = commits-asking (minor_writes 0 (ops_of d)) past
  op-asking snapshot (Some op) at = asks-asking snapshot (question a.stage op)

  run-asking : (turns : List ℕ) (snapshot : Bool) (s : Stage) → MovesAsking p asked (run_moves p c a (ops_of d) turns snapshot s)
  run-asking turns snapshot stage.Skip = quiet p asked (run_moves p c a (ops_of d) turns snapshot stage.Skip) refl
      (let b = next_stage stage.Skip a in let s = stays b refl (λ past. past) in record { here = s.here; to_come = s.to_come })
  run-asking turns snapshot stage.Cond = op-asking snapshot (slice_get (ops_of d) a.op) refl
  run-asking turns snapshot stage.Act = op-asking snapshot (slice_get (ops_of d) a.op) refl

-- an attempt goes on
attempt-asking : (p : ClientPlan) (c : ClientState) (d : Command) (a : Present) (asked : Asked) → IsAskingOf p c d a asked → IsAskingClient p c asked → MovesAsking p asked (attempt_moves p c a d)
attempt-asking p c (Run ops turns snapshot) a asked k s = run-asking p c (Run ops turns snapshot) a asked k turns (is_some snapshot) a.stage
attempt-asking p c (Snap name cont) a asked k s = asks-end p c (Snap name cont) a asked k (message.Snap (attempt_id p c a) cont name c.tracker) 0 (none-there a.op) (λ now is. is)
attempt-asking p c (Aggregate cont) a asked k s = asks-end p c (Aggregate cont) a asked k (message.Prune (attempt_id p c a) cont (Some c.tracker) None) 0 (none-there a.op) (λ now is. is)
attempt-asking p c (Tell client) a asked k s = quiet p asked (rests c) refl s
attempt-asking p c (Skip turns) a asked k s = quiet p asked (rests c) refl s

-- ---- commands begin

module _ (p : ClientPlan) (c : ClientState) (d : Command) (asked : Asked) (at : command_at p c ≡ Some d) (none : NoneAsked asked p.number c.command None) where
  none-of-first : NoneAsked asked p.number c.command (Some 0)
  none-of-first y own (inl more) = none y own (omega (arith, more))
  none-of-first y own (inr same) = none y own (let e = same.0 in omega (arith, e))

  begins : (e : Option Epoch) → IsAskingClient p (at_present (begun 0 None e) c) asked
  begins e = record { here = begins-asking p c asked (begun 0 None e) (none (attempt_id p c (begun 0 None e)) refl (omega arith)); to_come = none-of-first }

  begins-at-asking : (snapshot : Option (List ℕ)) (e : Option Epoch) → MovesAsking p asked (begins_at p c snapshot e)
  begins-at-asking None e = quiet p asked (begins_at p c None e) refl (begins None)
  begins-at-asking (Some name) None = ends-asking p c d (begun 0 None None) outcome.NoSnapshot asked at none-of-first
  begins-at-asking (Some name) (Some e) = quiet p asked (begins_at p c (Some name) (Some e)) refl (begins (Some e))

  passes : (present : Option Present) → present ≡ None → IsAskingHere p (c.place + 1) c.command asked present × NoneAsked asked p.number c.command (number_of present)
  passes None is = (tt, none)
  passes (Some a) is = let no : ⊥ = cc in absurd no

command-asking : (p : ClientPlan) (c : ClientState) (d : Command) (asked : Asked) → command_at p c ≡ Some d → NoneAsked asked p.number c.command None → c.present ≡ None → MovesAsking p asked (command_moves p c d)
command-asking p c (Run ops turns snapshot) asked at none is = begins-at-asking p c (Run ops turns snapshot) asked at none snapshot (first_epoch c.known snapshot)
command-asking p c (Snap name cont) asked at none is = begins-at-asking p c (Snap name cont) asked at none None (first_epoch c.known None)
command-asking p c (Aggregate cont) asked at none is = begins-at-asking p c (Aggregate cont) asked at none None (first_epoch c.known None)
command-asking p c (Tell client) asked at none is =
    let k = passes p c (Tell client) asked at none c.present is in
    posting p asked (command_moves p c (Tell client)) (record { to = record { client = true; number = client }; message = message.Tell c.tracker }) refl tt (record { here = k.0; to_come = k.1 })
command-asking p c (Skip turns) asked at none is =
    let k = passes p c (Skip turns) asked at none c.present is in
    quiet p asked (command_moves p c (Skip turns)) refl (record { here = k.0; to_come = k.1 })

-- ---- going on

asking-of : (p : ClientPlan) (c : ClientState) (d : Command) (a : Present) (asked : Asked) → command_at p c ≡ Some d → c.present ≡ Some a → IsAskingClient p c asked → IsAskingOf p c d a asked
asking-of p c d a asked at is k = record {
  at = at;
  here = subst (λ o. asked (attempt_id p c a) ≡ true → slice_get (ops_or_none o) a.op ≡ None) at (subst (IsAskingHere p c.place c.command asked) is k.here);
  to_come = subst (λ o. NoneAsked asked p.number c.command (number_of o)) is k.to_come;
}

moves-at-asking : (p : ClientPlan) (c : ClientState) (asked : Asked) (o : Option Command) (present : Option Present) → IsAskingClient p c asked → command_at p c ≡ o → c.present ≡ present → MovesAsking p asked (moves_at p c o present)
moves-at-asking p c asked None present k at is = quiet p asked (moves_at p c None present) refl k
moves-at-asking p c asked (Some d) None k at is = command-asking p c d asked at (subst (λ o. NoneAsked asked p.number c.command (number_of o)) is k.to_come) is
moves-at-asking p c asked (Some d) (Some a) k at is = attempt-asking p c d a asked (asking-of p c d a asked at is k) k

moved-asking : (p : ClientPlan) (c : ClientState) (asked : Asked) → IsAskingClient p c asked → MovesAsking p asked (moved p c)
unfolding moved
moved-asking p c asked k = by (waits c)
  where
    by : (b : Bool) → MovesAsking p asked (if b then rests c else moves_at p c (command_at p c) c.present)
    by true = quiet p asked (rests c) refl k
    by false = moves-at-asking p c asked (command_at p c) c.present k refl refl

-- ---- hearing

module _ (p : ClientPlan) (c : ClientState) (d : Command) (a : Present) (asked : Asked) (k : IsAskingOf p c d a asked) where
  on : (b : Present) → b.attempt ≡ a.attempt → (slice_get (ops_of d) a.op ≡ None → slice_get (ops_of d) b.op ≡ None) → MovesAsking p asked (goes (at_present b c))
  on b number later = quiet p asked (goes (at_present b c)) refl (stays p c d a asked k b number later)

  condition-heard : (cond : Cond) (there : Bool) → MovesAsking p asked (condition_told p c a cond there)
  condition-heard cond there = by (holds_where there cond)
    where
      told : Present
      told = record a { conds = a.conds ++ (a.op, there) ∷ [] }

      by : (b : Bool) → MovesAsking p asked (if b then goes (at_present (next_stage stage.Cond told) c) else ends p c told (outcome.CondFailed a.op))
      by true = on (next_stage stage.Cond told) refl (λ past. past)
      by false = ends-asking p c d told (outcome.CondFailed a.op) asked k.at k.to_come

  stage-heard : (cond : Cond) (s : Stage) (b : Answer) → MovesAsking p asked (told_at p c a cond s b)
  stage-heard cond stage.Skip b = on a refl (λ past. past)
  stage-heard cond stage.Cond b = condition-heard cond _
  stage-heard cond stage.Act b = on (next_op (record a { gots = a.gots ++ (a.op, b) ∷ [] })) refl (past-next (ops_of d) a.op)

  group-heard : (op : Op) (b : Answer) → MovesAsking p asked (group_told p c a op b)
  group-heard op b = by (nat_lt (a.group + 1) (group_count (op_path op).obj (op_path op).dkey p.targets))
    where
      more : Present
      more = record a { group = a.group + 1; found = Some (joined a.found b) }

      by : (l : Bool) → MovesAsking p asked (if l then goes (at_present more c) else told_at p c a op.cond a.stage (joined a.found b))
      by true = on more refl (λ past. past)
      by false = stage-heard op.cond a.stage (joined a.found b)

  op-heard : (b : Answer) (o : Option Op) → MovesAsking p asked (op_told p c a b o)
  op-heard b None = on a refl (λ past. past)
  op-heard b (Some op) = group-heard op b

  reply-heard : (b : Reply) → MovesAsking p asked (replied p c a b)
  reply-heard (reply.Answer b) = op-heard b (op_of (command_at p c) a.op)
  reply-heard (reply.Outcome how) = ends-so p c d a asked k how

  again : (target : ℕ) → asked (attempt_id p c a) ≡ true → MovesAsking p asked (asks_again p c a target)
  again target was = posting p asked (asks_again p c a target) (record { to = record { client = false; number = target }; message = message.Ask (attempt_id p c a) }) refl was (stays p c d a asked k (record a { waits = true }) refl (λ past. past))

  its-asked : (y : AttemptId) → same_attempt (attempt_id p c a) y ≡ true → asked y ≡ true → asked (attempt_id p c a) ≡ true
  its-asked y same was = subst (λ z. asked z ≡ true) (sym (same-attempt (attempt_id p c a) y same)) was

  reset-heard : (target : ℕ) (m : Message) → is_about (attempt_id p c a) (request_of m) ≡ true → AsksSo asked m → MovesAsking p asked (reset p c a target m)
  reset-heard target (message.Commit y e first tracker ws) same was = again target (its-asked y same was)
  reset-heard target (message.Ask y) same was = again target (its-asked y same was)
  reset-heard target m same was = ends-so p c d a asked k (outcome.Restart (Unresolved (attempt_id p c a)))

  reset-by-heard : (target : ℕ) (down : Bool) (m : Message) → is_about (attempt_id p c a) (request_of m) ≡ true → AsksSo asked m → MovesAsking p asked (reset_by p c a target down m)
  reset-by-heard target false m same was = reset-heard target m same was
  reset-by-heard target true m same was = ends-so p c d a asked k (outcome.Unknown target)

-- what a client waited for has come
answered-asking : (p : ClientPlan) (c : ClientState) (d : Command) (a : Present) (asked : Asked) (m : Message) → IsAskingClient p c asked → IsAskingOf p c d a asked → GoesWith asked m → is_about (attempt_id p c a) (about m) ≡ true → MovesAsking p asked (answered p c a m)
answered-asking p c d a asked (message.Fetched y op group e b) s k goes' same = reply-heard p c d (knows e a) asked (record { at = k.at; here = k.here; to_come = k.to_come }) b
answered-asking p c d a asked (message.Ended y e how) s k goes' same = ends-asking p (record c { known = snaps_known (command_at p c) e how c.known }) d (knows e a) how asked k.at k.to_come
answered-asking p c d a asked (message.Reset' t down place (more_of-Message q rest)) s k goes' same =
    reset-by-heard p c d (record a { waits = false }) asked (record { at = k.at; here = k.here; to_come = k.to_come }) t down q same goes'
answered-asking p c d a asked m s k goes' same = quiet p asked (goes c) refl s

heard-at-asking : (p : ClientPlan) (c : ClientState) (attempts : List Attempt) (asked : Asked) (m : Message) (present : Option Present) → HasTold p c attempts → IsAskingClient p c asked → GoesWith asked m → c.present ≡ present → MovesAsking p asked (heard_at p c m present)
heard-at-asking p c attempts asked m None told k goes' is = quiet p asked (goes c) refl k
heard-at-asking p c attempts asked m (Some a) told k goes' is = by a.waits (is_about (attempt_id p c a) (about m)) refl
  where
    here : (d : Command) × IsAt p c d a attempts
    here = is-at p c a attempts is told

    by : (w i : Bool) → is_about (attempt_id p c a) (about m) ≡ i → MovesAsking p asked (if w && i then answered p c a m else goes c)
    by true true i = answered-asking p c here.0 a asked m k (asking-of p c here.0 a asked here.1.at is k) goes' i
    by true false i = quiet p asked (goes c) refl k
    by false i h = quiet p asked (goes c) refl k

heard-asking : (p : ClientPlan) (c : ClientState) (attempts : List Attempt) (asked : Asked) (m : Message) → HasTold p c attempts → IsAskingClient p c asked → GoesWith asked m → MovesAsking p asked (heard p c m)
unfolding heard
heard-asking p c attempts asked m told k goes' = heard-at-asking p (hears_epochs m c) attempts asked m c.present told (record { here = k.here; to_come = k.to_come }) goes' refl

-- ---- what is heard fits

weight-some : (b : Bool) → 1 ≤ weight b
weight-some true = omega arith
weight-some false = omega arith

-- an answer comes where one is asked for
answers-asked : (ops : List Op) (x y : AttemptId) (w : Loads) (a : Present) (op group : ℕ) (e : Option Epoch) (b : Answer) → OneGoesAbout w x true (asked_at a.stage (slice_get ops a.op)) → same_attempt x y ≡ true
    → ((r : Read) → load x r (message.Fetched y op group e (reply.Answer b)) ≤ w x r) → IsAsking ops a
unfolding load
answers-asked ops x y w a op group e b one same low = by (slice_get ops a.op) refl one
  where
    some : (r : Read) → 1 ≤ w x r
    some r =
        let k : weight_if (same_attempt x y) (weight (is_of_kind r b)) ≡ weight (is_of_kind r b) = ap (λ z. weight_if z (weight (is_of_kind r b))) same in
        let l = low r in let s = weight-some (is_of_kind r b) in omega (arith, k, l, s)

    nothing : Read
    nothing = read.Exists (record { cont = record { 0 = 0 }; obj = None; dkey = None; akey = None })

    asking : (o : Op) (q : Option Read) → slice_get ops a.op ≡ Some o → question a.stage o ≡ q → OneGoesAbout w x true q → IsAsking ops a
    asking o None at is none = let k = some nothing in let z = none nothing in let no : ⊥ = omega (arith, k, z) in absurd no
    asking o (Some r) at is k = record { op = o; read = r; at = at; asks = is }

    by : (o : Option Op) → slice_get ops a.op ≡ o → OneGoesAbout w x true (asked_at a.stage o) → IsAsking ops a
    by None at none = let k = some nothing in let z = none nothing in let no : ⊥ = omega (arith, k, z) in absurd no
    by (Some o) at k = asking o (question a.stage o) at refl k

heard-fits : (p : ClientPlan) (c : ClientState) (w : Loads) (asked : Asked) (m : Message) (present : Option Present) → IsFittingHere p c.place c.command w present → IsAskingHere p c.place c.command asked present
    → ((x : AttemptId) (r : Read) → load x r m ≤ w x r) → GoesWith asked m → IsFitHere p c m present
heard-fits p c w asked m None fits k low goes' = tt
heard-fits p c w asked m (Some a) fits k low goes' = λ waits about'. by m low goes' about' (subst (λ z. OneGoesAbout w (id_of p c.command a) z (asked_at a.stage (slice_get (ops_at p c.place) a.op))) waits fits.about)
  where
    by : (m : Message) → ((x : AttemptId) (r : Read) → load x r m ≤ w x r) → GoesWith asked m → is_about (attempt_id p c a) (about m) ≡ true
        → OneGoesAbout w (id_of p c.command a) true (asked_at a.stage (slice_get (ops_at p c.place) a.op)) → IsFit p c a m
    by (message.Fetched y op group e (reply.Answer b)) low goes' same one = answers-asked (ops_here p c) (attempt_id p c a) y w a op group e b one same (low (attempt_id p c a))
    by (message.Fetched y op group e (reply.Outcome how)) low goes' same one = goes'
    by (message.Ended y e how) low (inl refused) same one = inl refused
    by (message.Ended y e how) low (inr was) same one = inr (was.0, k (subst (λ z. asked z ≡ true) (sym (same-attempt (attempt_id p c a) y same)) was.1))
    by m low goes' same one = tt

-- ---- turns

-- one part of a turn after another
then-asking : (p : ClientPlan) (asked : Asked) (c d : ClientState) (ps qs : List Post) → (k : LeavesAsking p asked c ps) → LeavesAsking p k.now d qs → LeavesAsking p asked d (ps ++ qs)
then-asking p asked c d ps qs k l = record {
  now = l.now;
  more = λ x was. l.more x (k.more x was);
  own = λ x apart is. k.own x apart (l.own x apart is);
  client = l.client;
  said = both-posted l.now ps qs (posts-more k.now l.now ps l.more k.said) l.said;
}

tells-more : (attempts : List Attempt) (before after : List Line) → attempts ++ tries (before ++ after) ≡ (attempts ++ tries before) ++ tries after
tells-more attempts before after = ap (λ ts. attempts ++ ts) (tries-append before after) ∙ sym (append_assoc attempts (tries before) (tries after))

moved-well : (p : ClientPlan) (c : ClientState) (attempts : List Attempt) (asked : Asked) → 0 < p.attempts → Tells p c attempts → IsAskingClient p c asked → LeavesWell p asked (moved p c).state (listed (moved p c).post) (attempts ++ tells (moved p c))
moved-well p c attempts asked some told k = record {
  asking = moved-asking p c asked k;
  tells = record { told = moved-keeps p c attempts some told.told; answers = moved-answered p c attempts some told };
}

moves-well : (p : ClientPlan) (c d : ClientState) (attempts : List Attempt) (asked : Asked) (posts : List Post) (lines : List Line) → 0 < p.attempts → Tells p c attempts → IsAskingClient p c asked → Moves p c posts lines d
    → LeavesWell p asked d posts (attempts ++ tries lines)
unfolding tries
moves-well p c d attempts asked posts lines some told k None_yet = record {
  asking = record { now = asked; more = λ x was. was; own = λ x apart is. is; client = k; said = none-posted asked };
  tells = subst (Tells p c) (sym (append-nil attempts)) told;
}
moves-well p c d attempts asked posts lines some told k (One_more sent before e m over) =
    let first = moves-well p c e attempts asked sent before some told k m in
    let last = moved-well p e (attempts ++ tries before) first.asking.now some first.tells first.asking.client in
    record {
      asking = then-asking p asked e (moved p e).state sent (listed (moved p e).post) first.asking last.asking;
      tells = subst (Tells p (moved p e).state) (sym (tells-more attempts before (listed (moved p e).line))) last.tells;
    }

goes-on-well : (p : ClientPlan) (c d : ClientState) (attempts : List Attempt) (asked : Asked) (posts : List Post) (lines : List Line) → 0 < p.attempts → Tells p c attempts → IsAskingClient p c asked → GoesOn p c posts lines d
    → LeavesWell p asked d posts (attempts ++ tries lines)
goes-on-well p c d attempts asked posts lines some told k g =
    let first = moves-well p c g.last attempts asked g.sent g.told some told k g.moves in
    let last = moved-well p g.last (attempts ++ tries g.told) first.asking.now some first.tells first.asking.client in
    subst (λ z. LeavesWell p asked z posts (attempts ++ tries lines)) (sym g.reached)
    (subst (λ z. LeavesWell p asked (moved p g.last).state z (attempts ++ tries lines)) (sym g.all_sent)
    (subst (λ z. LeavesWell p asked (moved p g.last).state (g.sent ++ listed (moved p g.last).post) (attempts ++ tries z)) (sym g.all_told) (record {
      asking = then-asking p asked g.last (moved p g.last).state g.sent (listed (moved p g.last).post) first.asking last.asking;
      tells = subst (Tells p (moved p g.last).state) (sym (tells-more attempts g.told (listed (moved p g.last).line))) last.tells;
    })))

-- a turn without a message
pub next-turn-well : (p : ClientPlan) (c d : ClientState) (attempts : List Attempt) (asked : Asked) (did : Did) → 0 < p.attempts → Tells p c attempts → IsAskingClient p c asked → NextTurn p c did d → LeavesWell p asked d did.posts (attempts ++ tries did.lines)
unfolding tries
next-turn-well p c d attempts asked did some told k (Skipped skips says after) =
    subst (λ e. LeavesWell p asked e did.posts (attempts ++ tries did.lines)) (sym after) (subst (λ n. LeavesWell p asked (skip_counted c) n.posts (attempts ++ tries n.lines)) (sym says) (record {
      asking = record { now = asked; more = λ x was. was; own = λ x apart is. is; client = record { here = k.here; to_come = k.to_come }; said = none-posted asked };
      tells = subst (Tells p (skip_counted c)) (sym (append-nil attempts)) (record { told = told.told; answers = record { ended = told.answers.ended; here = told.answers.here } });
    }))
next-turn-well p c d attempts asked did some told k (Went_on runs goes') = goes-on-well p c d attempts asked did.posts did.lines some told k goes'.goes_on

-- a turn in which a message is heard, which went about before
pub hear-turn-well : (p : ClientPlan) (c d : ClientState) (attempts : List Attempt) (w : Loads) (asked : Asked) (m : Message) (did : Did) → 0 < p.attempts → Tells p c attempts → IsFittingClient p c w → IsAskingClient p c asked
    → ((x : AttemptId) (r : Read) → load x r m ≤ w x r) → GoesWith asked m → HearTurn p c m did d → LeavesWell p asked d did.posts (attempts ++ tries did.lines)
hear-turn-well p c d attempts w asked m did some told fits k low goes' turn = by turn
  where
    fit : IsFitHere p c m c.present
    fit = heard-fits p c w asked m c.present fits.here k.here low goes'

    first : LeavesWell p asked (heard p c m).state (listed (heard p c m).post) (attempts ++ tells (heard p c m))
    first = record {
      asking = heard-asking p c attempts asked m told.told k goes';
      tells = record { told = heard-keeps p c attempts m told.told; answers = heard-answered p c attempts m told fit };
    }

    by : HearTurn p c m did d → LeavesWell p asked d did.posts (attempts ++ tries did.lines)
    by (Ended_by over says after) =
        subst (λ e. LeavesWell p asked e did.posts (attempts ++ tries did.lines)) (sym after) (subst (λ n. LeavesWell p asked (heard p c m).state n.posts (attempts ++ tries n.lines)) (sym says) first)
    by (Heard_on rest over goes'' says) =
        let more = goes-on-well p (heard p c m).state d (attempts ++ tells (heard p c m)) first.asking.now rest.posts rest.lines some first.tells first.asking.client goes''.goes_on in
        subst (λ n. LeavesWell p asked d n.posts (attempts ++ tries n.lines)) (sym says) (record {
          asking = then-asking p asked (heard p c m).state d (listed (heard p c m).post) rest.posts first.asking more.asking;
          tells = subst (Tells p d) (sym (tells-more attempts (listed (heard p c m).line) rest.lines)) more.tells;
        })

-- what others ask is nothing to a client
pub asking-others : (p : ClientPlan) (c : ClientState) (asked now : Asked) → ((x : AttemptId) → x.client ≡ p.number → now x ≡ true → asked x ≡ true) → IsAskingClient p c asked → IsAskingClient p c now
asking-others p c asked now same k = record { here = by c.present k.here; to_come = λ y own later. none (now y) refl (same y own) (k.to_come y own later) }
  where
    by : (o : Option Present) → IsAskingHere p c.place c.command asked o → IsAskingHere p c.place c.command now o
    by None h = tt
    by (Some a) h = λ was. h (same (id_of p c.command a) refl was)

    none : {y : AttemptId} (b : Bool) → now y ≡ b → (now y ≡ true → asked y ≡ true) → asked y ≡ false → now y ≡ false
    none true is then' not' = let was = then' is in let no : ⊥ = cc in absurd no
    none false is then' not' = is

-- ---- the beginning

-- a client begins where nothing was asked
pub clients-begin-asking : (p : ClientPlan) (c : ClientState) → c.present ≡ None → IsAskingClient p c (λ x. false)
clients-begin-asking p c none = record { here = subst (IsAskingHere p c.place c.command (λ x. false)) (sym none) tt; to_come = λ y own later. refl }
