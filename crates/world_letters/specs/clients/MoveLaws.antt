-- Each move of a client keeps how far its lines have told of its commands.
use Rattle.std.specs.Prelude.{ℕ, ◌≡◌, ◌≤◌, ◌<◌, ◌+◌, ◌++◌, Bool, true, false, nat_lt, ◌&&◌, List, [], ◌∷◌, length, slice_get, take, is_some, Option, Some, None, refl, if◌then◌else◌}
use Rattle.std.proofs.Common.{sym, ◌∙◌, ap, subst, inl, inr, arith, append-nil}
use Rattle.std.proofs.lemmas.Bool.Decides.{nat_tests}
use Rattle.base_types.specs.declared.answer.Answer.{Answer}
use Rattle.base_types.specs.declared.operation.Cond.{Cond}
use Rattle.base_types.specs.declared.operation.Op.{Op}
use Rattle.base_types.specs.declared.operation.MinorWrite.{MinorWrite}
use Rattle.base_types.specs.declared.epoch.Epoch.{Epoch}
use Rattle.base_types.specs.declared.operation.Read.{Read}
use Rattle.base_types.specs.declared.outcome.Outcome.{Outcome}
use Rattle.base_types.specs.declared.outcome.Outcome.TheVariants as outcome
use Rattle.base_types.specs.declared.report.Attempt.{Attempt}
use Rattle.base_types.specs.declared.report.Line.{Line}
use Rattle.base_types.specs.declared.script.Command.{Command}
use Rattle.base_types.specs.declared.script.Command.TheVariants.{Run, Snap, Aggregate, Tell, Skip}
use Rattle.base_types.specs.Scripts.{is_numbered}
use Rattle.base_types.specs.declared.outcome.Cause.TheVariants.{Unresolved}
use Rattle.base_messages.specs.declared.message.Message.{Message, more_of-Message}
use Rattle.base_messages.specs.declared.message.Message.TheVariants as message
use Rattle.base_messages.specs.declared.message.Post.{Post}
use Rattle.base_messages.specs.declared.message.Reply.{Reply}
use Rattle.base_messages.specs.declared.message.Reply.TheVariants as reply
use Rattle.daos_model.specs.Accesses.{minor_writes, op_path}
use Rattle.daos_model.specs.Conditions.{holds_where}
use Rattle.daos_model.specs.Laws.{tries-append}
use Rattle.daos_model.specs.Order.{AreInTurn}
use Rattle.daos_model.specs.Transactions.{numbered}
use Rattle.std.proofs.lemmas.List.{append_assoc, take_all}
use Rattle.daos_model.specs.Attempts.{is_restart, snapshot_of_command, tries}
use Rattle.world_base.specs.declared.did.Did.{Did}
use Rattle.world_base.specs.declared.client.ClientPlan.{ClientPlan}
use Rattle.world_base.specs.declared.client.ClientState.{ClientState}
use Rattle.world_base.specs.declared.client.Present.{Present}
use Rattle.world_base.specs.declared.client.Stage.{Stage}
use Rattle.world_base.specs.declared.client.Stage.TheVariants as stage
use Rattle.world_base.specs.ClientTurns.{GoesOn, HearTurn, Ended_by, Heard_on, NextTurn, Skipped, Went_on, Move, Moves, is_done, skip_counted, None_yet, One_more, about, answered, asks_again, is_about, condition_told, ended, group_count, group_told, heard, heard_at, hears_epochs, is_yes, joined, knows, op_of, op_told, read_told, replied, reset, reset_by, rests, snaps_known, told_at, after_end, asks_or_goes, at_present, attempt_id, attempt_moves, begins_at, begun, next_command, next_stage, skips, goes, command_at, command_moves, commits, ends, first_epoch, listed, moved, moves_at, op_moves, question, run_moves, waits}
use Rattle.world_letters.specs.clients.Standing.{ClientsBegin, HasTold, Stands, has_number, number_of, tells}
use Rattle.world_letters.specs.clients.StandingLaws.{stands-again, stands-begins, stands-ends, stands-passes}

-- a move goes on from what was told so far
abbrev pub Keeps : ClientPlan → List Attempt → Move → Type 0
Keeps p attempts m = HasTold p m.state (attempts ++ tells m)

-- a client that is at this attempt of a command, as it was told so far
pub record IsAt (p : ClientPlan) (c : ClientState) (d : Command) (a : Present) (attempts : List Attempt) : Type 0 where
  pub at : command_at p c ≡ Some d
  pub numbered : is_numbered d ≡ true
  pub told : Stands p c.place c.command (Some a.attempt) attempts

-- the attempt of which an ending tells
abbrev pub told_end : ClientPlan → ClientState → Present → Outcome → Attempt
told_end p c a how = record { id = attempt_id p c a; epoch = a.epoch; conds = a.conds; gots = a.gots; outcome = how }

pub tells-end : (p : ClientPlan) (c : ClientState) (a : Present) (how : Outcome) → tells (ends p c a how) ≡ told_end p c a how ∷ []
unfolding tries
tells-end p c a how = refl

state-after : (p : ClientPlan) (c : ClientState) (d : Command) (a : Present) (how : Outcome) (attempts : List Attempt) → IsAt p c d a attempts
    → HasTold p (after_end p c (Some d) a how) (attempts ++ told_end p c a how ∷ [])
state-after p c d a how attempts k = by (is_restart how) (nat_lt (a.attempt + 1) p.attempts) refl refl
  where
    last : nat_lt (a.attempt + 1) p.attempts ≡ false → a.attempt + 1 ≡ p.attempts
    last e = let low : a.attempt < p.attempts = k.told.at_present.1 in grind (arith, nat_tests)

    by : (r l : Bool) → is_restart how ≡ r → nat_lt (a.attempt + 1) p.attempts ≡ l
        → HasTold p (if r && l then at_present (begun (a.attempt + 1) a.first (first_epoch c.known (snapshot_of_command d))) c else next_command c) (attempts ++ told_end p c a how ∷ [])
    by true true r l = stands-again p c.place c.command a.attempt (told_end p c a how) attempts k.told refl r (grind (arith, nat_tests))
    by true false r l = stands-ends p c.place c.command a.attempt d (told_end p c a how) attempts k.told k.at k.numbered refl (inr (last l))
    by false l r e = stands-ends p c.place c.command a.attempt d (told_end p c a how) attempts k.told k.at k.numbered refl (inl r)

-- an attempt ends
pub ends-keeps : (p : ClientPlan) (c : ClientState) (d : Command) (a : Present) (how : Outcome) (attempts : List Attempt) → IsAt p c d a attempts → Keeps p attempts (ends p c a how)
ends-keeps p c d a how attempts k =
    subst (λ o. HasTold p (after_end p c o a how) (attempts ++ tells (ends p c a how))) (sym k.at)
    (subst (λ ts. HasTold p (after_end p c (Some d) a how) (attempts ++ ts)) (sym (tells-end p c a how)) (state-after p c d a how attempts k))

-- ---- moves that end no attempt

-- nothing is told where there is no line
pub tells-nothing : (m : Move) → m.line ≡ None → tells m ≡ []
unfolding tries
tells-nothing m e = ap (λ o. tries (listed o)) e

-- a move without a line, by where the client then is
pub silent : (p : ClientPlan) (attempts : List Attempt) (m : Move) → m.line ≡ None → HasTold p m.state attempts → Keeps p attempts m
silent p attempts m e s = subst (λ ts. HasTold p m.state (attempts ++ ts)) (sym (tells-nothing m e)) (subst (λ as'. HasTold p m.state as') (sym (append-nil attempts)) s)

-- ---- the moves of a transaction

commits-keeps : (p : ClientPlan) (c : ClientState) (d : Command) (a : Present) (attempts : List Attempt) (ws : List MinorWrite) → IsAt p c d a attempts → Keeps p attempts (commits p c a ws)
commits-keeps p c d a attempts [] k = ends-keeps p c d a outcome.Committed attempts k
commits-keeps p c d a attempts (w ∷ ws) k = silent p attempts (commits p c a (w ∷ ws)) refl k.told

stage-stays : (s : Stage) (a : Present) → (next_stage s a).attempt ≡ a.attempt
stage-stays stage.Skip a = refl
stage-stays stage.Cond a = refl
stage-stays stage.Act a = refl

asks-keeps : (p : ClientPlan) (c : ClientState) (d : Command) (a : Present) (attempts : List Attempt) (snapshot : Bool) (r : Option Read) → IsAt p c d a attempts → Keeps p attempts (asks_or_goes p c a snapshot r)
asks-keeps p c d a attempts snapshot None k =
    silent p attempts (asks_or_goes p c a snapshot None) refl (subst (λ n. Stands p c.place c.command (Some n) attempts) (sym (stage-stays a.stage a)) k.told)
asks-keeps p c d a attempts snapshot (Some r) k = silent p attempts (asks_or_goes p c a snapshot (Some r)) refl k.told

op-keeps : (p : ClientPlan) (c : ClientState) (d : Command) (a : Present) (attempts : List Attempt) (ops : List Op) (snapshot : Bool) (o : Option Op) → IsAt p c d a attempts
    → Keeps p attempts (op_moves p c a ops snapshot o)
op-keeps p c d a attempts ops snapshot None k = commits-keeps p c d a attempts (minor_writes 0 ops) k
op-keeps p c d a attempts ops snapshot (Some op) k = asks-keeps p c d a attempts snapshot (question a.stage op) k

run-keeps : (p : ClientPlan) (c : ClientState) (d : Command) (a : Present) (attempts : List Attempt) (ops : List Op) (turns : List ℕ) (snapshot : Bool) (s : Stage) → IsAt p c d a attempts
    → Keeps p attempts (run_moves p c a ops turns snapshot s)
run-keeps p c d a attempts ops turns snapshot stage.Skip k = silent p attempts (run_moves p c a ops turns snapshot stage.Skip) refl k.told
run-keeps p c d a attempts ops turns snapshot stage.Cond k = op-keeps p c d a attempts ops snapshot (slice_get ops a.op) k
run-keeps p c d a attempts ops turns snapshot stage.Act k = op-keeps p c d a attempts ops snapshot (slice_get ops a.op) k

attempt-keeps : (p : ClientPlan) (c : ClientState) (d : Command) (a : Present) (attempts : List Attempt) → IsAt p c d a attempts → Keeps p attempts (attempt_moves p c a d)
attempt-keeps p c (Run ops turns snapshot) a attempts k = run-keeps p c (Run ops turns snapshot) a attempts ops turns (is_some snapshot) a.stage k
attempt-keeps p c (Snap name cont) a attempts k = silent p attempts (attempt_moves p c a (Snap name cont)) refl k.told
attempt-keeps p c (Aggregate cont) a attempts k = silent p attempts (attempt_moves p c a (Aggregate cont)) refl k.told
attempt-keeps p c (Tell client) a attempts k = let no : ⊥ = cc (k.numbered) in absurd no
attempt-keeps p c (Skip turns) a attempts k = let no : ⊥ = cc (k.numbered) in absurd no

-- ---- commands begin

begins-keeps : (p : ClientPlan) (c : ClientState) (d : Command) (attempts : List Attempt) (snapshot : Option (List ℕ)) (e : Option Epoch) → 0 < p.attempts → Stands p c.place c.command None attempts
    → command_at p c ≡ Some d → is_numbered d ≡ true → Keeps p attempts (begins_at p c snapshot e)
begins-keeps p c d attempts None e some s at n = silent p attempts (begins_at p c None e) refl (stands-begins p c.place c.command d attempts s at n some)
begins-keeps p c d attempts (Some name) None some s at n =
    ends-keeps p c d (begun 0 None None) outcome.NoSnapshot attempts (record { at = at; numbered = n; told = stands-begins p c.place c.command d attempts s at n some })
begins-keeps p c d attempts (Some name) (Some e) some s at n = silent p attempts (begins_at p c (Some name) (Some e)) refl (stands-begins p c.place c.command d attempts s at n some)

command-keeps : (p : ClientPlan) (c : ClientState) (d : Command) (attempts : List Attempt) → 0 < p.attempts → c.present ≡ None → HasTold p c attempts → command_at p c ≡ Some d
    → Keeps p attempts (command_moves p c d)
command-keeps p c (Run ops turns snapshot) attempts some none s at =
    begins-keeps p c (Run ops turns snapshot) attempts snapshot (first_epoch c.known snapshot) some (subst (λ o. Stands p c.place c.command (number_of o) attempts) none s) at refl
command-keeps p c (Snap name cont) attempts some none s at =
    begins-keeps p c (Snap name cont) attempts None (first_epoch c.known None) some (subst (λ o. Stands p c.place c.command (number_of o) attempts) none s) at refl
command-keeps p c (Aggregate cont) attempts some none s at =
    begins-keeps p c (Aggregate cont) attempts None (first_epoch c.known None) some (subst (λ o. Stands p c.place c.command (number_of o) attempts) none s) at refl
command-keeps p c (Tell client) attempts some none s at =
    silent p attempts (command_moves p c (Tell client)) refl
    (subst (λ o. Stands p (c.place + 1) c.command (number_of o) attempts) (sym none) (stands-passes p c.place c.command (Tell client) attempts (subst (λ o. Stands p c.place c.command (number_of o) attempts) none s) at refl))
command-keeps p c (Skip turns) attempts some none s at =
    silent p attempts (command_moves p c (Skip turns)) refl
    (subst (λ o. Stands p (c.place + 1) c.command (number_of o) attempts) (sym none) (stands-passes p c.place c.command (Skip turns) attempts (subst (λ o. Stands p c.place c.command (number_of o) attempts) none s) at refl))

-- ---- going on

no-number : (o : Option Command) → has_number o ≡ true → (d : Command) × (o ≡ Some d) × (is_numbered d ≡ true)
no-number None h = let no : ⊥ = cc in absurd no
no-number (Some d) h = (d, refl, h)

-- where a client is at an attempt, it is at a numbered command
pub is-at : (p : ClientPlan) (c : ClientState) (a : Present) (attempts : List Attempt) → c.present ≡ Some a → HasTold p c attempts → (d : Command) × IsAt p c d a attempts
is-at p c a attempts e s =
    let t : Stands p c.place c.command (Some a.attempt) attempts = subst (λ o. Stands p c.place c.command (number_of o) attempts) e s in
    let k = no-number (command_at p c) t.at_present.2 in
    (k.0, record { at = k.1; numbered = k.2; told = t })

moves-at-keeps : (p : ClientPlan) (c : ClientState) (attempts : List Attempt) (o : Option Command) (present : Option Present) → 0 < p.attempts → HasTold p c attempts → command_at p c ≡ o → c.present ≡ present
    → Keeps p attempts (moves_at p c o present)
moves-at-keeps p c attempts None present some s at e = silent p attempts (moves_at p c None present) refl s
moves-at-keeps p c attempts (Some d) None some s at e = command-keeps p c d attempts some e s at
moves-at-keeps p c attempts (Some d) (Some a) some s at e =
    let t : Stands p c.place c.command (Some a.attempt) attempts = subst (λ o. Stands p c.place c.command (number_of o) attempts) e s in
    attempt-keeps p c d a attempts (record { at = at; numbered = ap has_number (sym at) ∙ t.at_present.2; told = t })

-- each move of a client that goes on keeps how far its lines have told
pub moved-keeps : (p : ClientPlan) (c : ClientState) (attempts : List Attempt) → 0 < p.attempts → HasTold p c attempts → Keeps p attempts (moved p c)
unfolding moved
moved-keeps p c attempts some s = by (waits c)
  where
    by : (b : Bool) → Keeps p attempts (if b then rests c else moves_at p c (command_at p c) c.present)
    by true = silent p attempts (rests c) refl s
    by false = moves-at-keeps p c attempts (command_at p c) c.present some s refl refl

-- ---- hearing

condition-keeps : (p : ClientPlan) (c : ClientState) (d : Command) (a : Present) (attempts : List Attempt) (cond : Cond) (there : Bool) → IsAt p c d a attempts
    → Keeps p attempts (condition_told p c a cond there)
condition-keeps p c d a attempts cond there k = by (holds_where there cond)
  where
    told : Present
    told = record a { conds = a.conds ++ (a.op, there) ∷ [] }

    by : (b : Bool) → Keeps p attempts (if b then goes (at_present (next_stage stage.Cond told) c) else ends p c told (outcome.CondFailed a.op))
    by true = silent p attempts (goes (at_present (next_stage stage.Cond told) c)) refl k.told
    by false = ends-keeps p c d told (outcome.CondFailed a.op) attempts (record { at = k.at; numbered = k.numbered; told = k.told })

told-at-keeps : (p : ClientPlan) (c : ClientState) (d : Command) (a : Present) (attempts : List Attempt) (cond : Cond) (s : Stage) (b : Answer) → IsAt p c d a attempts → Keeps p attempts (told_at p c a cond s b)
told-at-keeps p c d a attempts cond stage.Skip b k = silent p attempts (goes (at_present a c)) refl k.told
told-at-keeps p c d a attempts cond stage.Cond b k = condition-keeps p c d a attempts cond (is_yes b) k
told-at-keeps p c d a attempts cond stage.Act b k = silent p attempts (read_told c a b) refl k.told

group-keeps : (p : ClientPlan) (c : ClientState) (d : Command) (a : Present) (attempts : List Attempt) (op : Op) (b : Answer) → IsAt p c d a attempts → Keeps p attempts (group_told p c a op b)
group-keeps p c d a attempts op b k = by (nat_lt (a.group + 1) (group_count (op_path op).obj (op_path op).dkey p.targets))
  where
    more : Present
    more = record a { group = a.group + 1; found = Some (joined a.found b) }

    by : (l : Bool) → Keeps p attempts (if l then goes (at_present more c) else told_at p c a op.cond a.stage (joined a.found b))
    by true = silent p attempts (goes (at_present more c)) refl k.told
    by false = told-at-keeps p c d a attempts op.cond a.stage (joined a.found b) k

op-told-keeps : (p : ClientPlan) (c : ClientState) (d : Command) (a : Present) (attempts : List Attempt) (b : Answer) (o : Option Op) → IsAt p c d a attempts → Keeps p attempts (op_told p c a b o)
op-told-keeps p c d a attempts b None k = silent p attempts (goes (at_present a c)) refl k.told
op-told-keeps p c d a attempts b (Some op) k = group-keeps p c d a attempts op b k

replied-keeps : (p : ClientPlan) (c : ClientState) (d : Command) (a : Present) (attempts : List Attempt) (r : Reply) → IsAt p c d a attempts → Keeps p attempts (replied p c a r)
replied-keeps p c d a attempts (reply.Answer b) k = op-told-keeps p c d a attempts b (op_of (command_at p c) a.op) k
replied-keeps p c d a attempts (reply.Outcome how) k = ends-keeps p c d a how attempts k

-- the same attempt of the same command, with more known of it
pub known-more : (p : ClientPlan) (c e : ClientState) (d : Command) (a b : Present) (attempts : List Attempt) → e.place ≡ c.place → e.command ≡ c.command → b.attempt ≡ a.attempt → IsAt p c d a attempts → IsAt p e d b attempts
known-more p c e d a b attempts place command number k = record {
  at = ap (λ n. slice_get p.commands n) place ∙ k.at;
  numbered = k.numbered;
  told = rw (place, command, number) k.told;
}

ended-keeps : (p : ClientPlan) (c : ClientState) (d : Command) (a : Present) (attempts : List Attempt) (e : Option Epoch) (how : Outcome) → IsAt p c d a attempts → Keeps p attempts (ended p c a e how)
ended-keeps p c d a attempts e how k =
    ends-keeps p (record c { known = snaps_known (command_at p c) e how c.known }) d a how attempts (known-more p c (record c { known = snaps_known (command_at p c) e how c.known }) d a a attempts refl refl refl k)

-- a request that is lost leaves the client at its attempt, or ends it
reset-keeps : (p : ClientPlan) (c : ClientState) (d : Command) (a : Present) (attempts : List Attempt) (target : ℕ) (m : Message) → IsAt p c d a attempts → Keeps p attempts (reset p c a target m)
reset-keeps p c d a attempts target (message.Fetch x op group e first tracker r snapshot) k = ends-keeps p c d a (outcome.Restart (Unresolved (attempt_id p c a))) attempts k
reset-keeps p c d a attempts target (message.Commit x e first tracker ws) k = silent p attempts (asks_again p c a target) refl k.told
reset-keeps p c d a attempts target (message.Ask x) k = silent p attempts (asks_again p c a target) refl k.told
reset-keeps p c d a attempts target (message.Snap x cont name tracker) k = ends-keeps p c d a (outcome.Restart (Unresolved (attempt_id p c a))) attempts k
reset-keeps p c d a attempts target (message.Prune x cont tracker e) k = ends-keeps p c d a (outcome.Restart (Unresolved (attempt_id p c a))) attempts k
reset-keeps p c d a attempts target (message.Tell tracker) k = ends-keeps p c d a (outcome.Restart (Unresolved (attempt_id p c a))) attempts k
reset-keeps p c d a attempts target (message.Prepare entry first ws inc) k = ends-keeps p c d a (outcome.Restart (Unresolved (attempt_id p c a))) attempts k
reset-keeps p c d a attempts target (message.Ack x inc refusal) k = ends-keeps p c d a (outcome.Restart (Unresolved (attempt_id p c a))) attempts k
reset-keeps p c d a attempts target (message.Mark inc marks) k = ends-keeps p c d a (outcome.Restart (Unresolved (attempt_id p c a))) attempts k
reset-keeps p c d a attempts target (message.Marked inc attempts') k = ends-keeps p c d a (outcome.Restart (Unresolved (attempt_id p c a))) attempts k
reset-keeps p c d a attempts target (message.Query x ask) k = ends-keeps p c d a (outcome.Restart (Unresolved (attempt_id p c a))) attempts k
reset-keeps p c d a attempts target (message.Verdict x ask inc verdict) k = ends-keeps p c d a (outcome.Restart (Unresolved (attempt_id p c a))) attempts k
reset-keeps p c d a attempts target (message.Status x inc) k = ends-keeps p c d a (outcome.Restart (Unresolved (attempt_id p c a))) attempts k
reset-keeps p c d a attempts target (message.StatusIs x inc state) k = ends-keeps p c d a (outcome.Restart (Unresolved (attempt_id p c a))) attempts k
reset-keeps p c d a attempts target (message.Freeze x cont e) k = ends-keeps p c d a (outcome.Restart (Unresolved (attempt_id p c a))) attempts k
reset-keeps p c d a attempts target (message.Held x refusal) k = ends-keeps p c d a (outcome.Restart (Unresolved (attempt_id p c a))) attempts k
reset-keeps p c d a attempts target (message.Fetched x op group e b) k = ends-keeps p c d a (outcome.Restart (Unresolved (attempt_id p c a))) attempts k
reset-keeps p c d a attempts target (message.Ended x e how) k = ends-keeps p c d a (outcome.Restart (Unresolved (attempt_id p c a))) attempts k
reset-keeps p c d a attempts target (message.Reset' t w place row) k = ends-keeps p c d a (outcome.Restart (Unresolved (attempt_id p c a))) attempts k

reset-by-keeps : (p : ClientPlan) (c : ClientState) (d : Command) (a : Present) (attempts : List Attempt) (target : ℕ) (down : Bool) (m : Message) → IsAt p c d a attempts → Keeps p attempts (reset_by p c a target down m)
reset-by-keeps p c d a attempts target false m k = reset-keeps p c d a attempts target m k
reset-by-keeps p c d a attempts target true m k = ends-keeps p c d a (outcome.Unknown target) attempts k

same-attempt-at : (p : ClientPlan) (c : ClientState) (d : Command) (a b : Present) (attempts : List Attempt) → b.attempt ≡ a.attempt → IsAt p c d a attempts → IsAt p c d b attempts
same-attempt-at p c d a b attempts number k = known-more p c c d a b attempts refl refl number k

-- what a client waited for has come
answered-keeps : (p : ClientPlan) (c : ClientState) (d : Command) (a : Present) (attempts : List Attempt) (m : Message) → HasTold p c attempts → IsAt p c d a attempts → Keeps p attempts (answered p c a m)
answered-keeps p c d a attempts (message.Fetch x op group e first tracker r snapshot) s k = silent p attempts (goes c) refl s
answered-keeps p c d a attempts (message.Commit x e first tracker ws) s k = silent p attempts (goes c) refl s
answered-keeps p c d a attempts (message.Ask x) s k = silent p attempts (goes c) refl s
answered-keeps p c d a attempts (message.Snap x cont name tracker) s k = silent p attempts (goes c) refl s
answered-keeps p c d a attempts (message.Prune x cont tracker e) s k = silent p attempts (goes c) refl s
answered-keeps p c d a attempts (message.Tell tracker) s k = silent p attempts (goes c) refl s
answered-keeps p c d a attempts (message.Prepare entry first ws inc) s k = silent p attempts (goes c) refl s
answered-keeps p c d a attempts (message.Ack x inc refusal) s k = silent p attempts (goes c) refl s
answered-keeps p c d a attempts (message.Mark inc marks) s k = silent p attempts (goes c) refl s
answered-keeps p c d a attempts (message.Marked inc attempts') s k = silent p attempts (goes c) refl s
answered-keeps p c d a attempts (message.Query x ask) s k = silent p attempts (goes c) refl s
answered-keeps p c d a attempts (message.Verdict x ask inc verdict) s k = silent p attempts (goes c) refl s
answered-keeps p c d a attempts (message.Status x inc) s k = silent p attempts (goes c) refl s
answered-keeps p c d a attempts (message.StatusIs x inc state) s k = silent p attempts (goes c) refl s
answered-keeps p c d a attempts (message.Freeze x cont e) s k = silent p attempts (goes c) refl s
answered-keeps p c d a attempts (message.Held x refusal) s k = silent p attempts (goes c) refl s
answered-keeps p c d a attempts (message.Fetched x op group e b) s k = replied-keeps p c d (knows e a) attempts b (same-attempt-at p c d a (knows e a) attempts refl k)
answered-keeps p c d a attempts (message.Ended x e how) s k = ended-keeps p c d (knows e a) attempts e how (same-attempt-at p c d a (knows e a) attempts refl k)
answered-keeps p c d a attempts (message.Reset' t w place (more_of-Message m row)) s k = reset-by-keeps p c d (record a { waits = false }) attempts t w m (same-attempt-at p c d a (record a { waits = false }) attempts refl k)

heard-at-keeps : (p : ClientPlan) (c : ClientState) (attempts : List Attempt) (m : Message) (present : Option Present) → HasTold p c attempts → c.present ≡ present → Keeps p attempts (heard_at p c m present)
heard-at-keeps p c attempts m None s e = silent p attempts (goes c) refl s
heard-at-keeps p c attempts m (Some a) s e = by (a.waits && is_about (attempt_id p c a) (about m))
  where
    here : (d : Command) × IsAt p c d a attempts
    here = is-at p c a attempts e s

    by : (b : Bool) → Keeps p attempts (if b then answered p c a m else goes c)
    by true = answered-keeps p c here.0 a attempts m s here.1
    by false = silent p attempts (goes c) refl s

-- a client that hears a message keeps how far its lines have told
pub heard-keeps : (p : ClientPlan) (c : ClientState) (attempts : List Attempt) (m : Message) → HasTold p c attempts → Keeps p attempts (heard p c m)
unfolding heard
heard-keeps p c attempts m s = heard-at-keeps p (hears_epochs m c) attempts m c.present s refl

-- ---- turns

-- lines that come after others tell of attempts after theirs
tells-more : (attempts : List Attempt) (before after : List Line) → attempts ++ tries (before ++ after) ≡ (attempts ++ tries before) ++ tries after
tells-more attempts before after = ap (λ ts. attempts ++ ts) (tries-append before after) ∙ sym (append_assoc attempts (tries before) (tries after))

pub moves-keep : (p : ClientPlan) (c d : ClientState) (attempts : List Attempt) (posts : List Post) (lines : List Line) → 0 < p.attempts → HasTold p c attempts → Moves p c posts lines d
    → HasTold p d (attempts ++ tries lines)
unfolding tries
moves-keep p c d attempts posts lines some s None_yet = subst (λ as'. HasTold p c as') (sym (append-nil attempts)) s
moves-keep p c d attempts posts lines some s (One_more sent told e m over) =
    subst (λ as'. HasTold p (moved p e).state as') (sym (tells-more attempts told (listed (moved p e).line)))
    (moved-keeps p e (attempts ++ tries told) some (moves-keep p c e attempts sent told some s m))

-- a client that goes on keeps how far its lines have told
pub goes-on-keeps : (p : ClientPlan) (c d : ClientState) (attempts : List Attempt) (posts : List Post) (lines : List Line) → 0 < p.attempts → HasTold p c attempts → GoesOn p c posts lines d
    → HasTold p d (attempts ++ tries lines)
goes-on-keeps p c d attempts posts lines some s g =
    subst (λ e. HasTold p e (attempts ++ tries lines)) (sym g.reached)
    (subst (λ ls. HasTold p (moved p g.last).state (attempts ++ tries ls)) (sym g.all_told)
    (subst (λ as'. HasTold p (moved p g.last).state as') (sym (tells-more attempts g.told (listed (moved p g.last).line)))
    (moved-keeps p g.last (attempts ++ tries g.told) some (moves-keep p c g.last attempts g.sent g.told some s g.moves))))

-- a turn without a message
pub next-turn-keeps : (p : ClientPlan) (c d : ClientState) (attempts : List Attempt) (did : Did) → 0 < p.attempts → HasTold p c attempts → NextTurn p c did d → HasTold p d (attempts ++ tries did.lines)
unfolding tries
next-turn-keeps p c d attempts did some s (Skipped skips says after) =
    subst (λ e. HasTold p e (attempts ++ tries did.lines)) (sym after)
    (subst (λ n. HasTold p (skip_counted c) (attempts ++ tries n.lines)) (sym says) (subst (λ as'. HasTold p (skip_counted c) as') (sym (append-nil attempts)) s))
next-turn-keeps p c d attempts did some s (Went_on runs goes') = goes-on-keeps p c d attempts did.posts did.lines some s goes'.goes_on

-- a turn in which a message is heard
pub hear-turn-keeps : (p : ClientPlan) (c d : ClientState) (attempts : List Attempt) (m : Message) (did : Did) → 0 < p.attempts → HasTold p c attempts → HearTurn p c m did d
    → HasTold p d (attempts ++ tries did.lines)
hear-turn-keeps p c d attempts m did some s (Ended_by over says after) =
    subst (λ e. HasTold p e (attempts ++ tries did.lines)) (sym after)
    (subst (λ n. HasTold p (heard p c m).state (attempts ++ tries n.lines)) (sym says) (heard-keeps p c attempts m s))
hear-turn-keeps p c d attempts m did some s (Heard_on rest over goes' says) =
    subst (λ n. HasTold p d (attempts ++ tries n.lines)) (sym says)
    (subst (λ as'. HasTold p d as') (sym (tells-more attempts (listed (heard p c m).line) rest.lines))
    (goes-on-keeps p (heard p c m).state d (attempts ++ tells (heard p c m)) rest.posts rest.lines some (heard-keeps p c attempts m s) goes'.goes_on))

-- ---- the beginning and the end

pub clients-begin : ClientsBegin
clients-begin p c place command present = rw (place, command, present) (record {
  within = omega arith;
  numbers = refl;
  over = [];
  begun = [];
  all = refl;
  in_turn = refl;
  at_present = refl;
})

-- a client all of whose commands are over, and who is at none, has told of them all
pub clients-end : (p : ClientPlan) (c : ClientState) (attempts : List Attempt) → is_done p c ≡ true → c.present ≡ None → HasTold p c attempts → AreInTurn p.attempts p.number 0 (numbered p.commands) attempts
clients-end p c attempts done none s =
    let t : Stands p c.place c.command None attempts = subst (λ o. Stands p c.place c.command (number_of o) attempts) none s in
    let last : length p.commands ≤ c.place = grind (arith, nat_tests) in
    let whole : take c.place p.commands ≡ p.commands = take_all c.place p.commands last in
    let told : attempts ≡ t.over = t.all ∙ ap (λ z. t.over ++ z) t.at_present ∙ append-nil t.over in
    subst (λ as'. AreInTurn p.attempts p.number 0 (numbered p.commands) as') (sym told) (subst (λ cs. AreInTurn p.attempts p.number 0 (numbered cs) t.over) whole t.in_turn)
