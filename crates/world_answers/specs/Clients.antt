-- What a client was told, has found and tells in lines has form, move by move, where what it hears has.
use Rattle.std.specs.Prelude.{ℕ, ◌≡◌, ◌≤◌, ◌<◌, ◌+◌, ◌^◌, ◌++◌, ◌&&◌, Bool, true, false, nat_lt, is_some, List, [], ◌∷◌, length, slice_get, Option, Some, None, refl, if◌then◌else◌}
use Rattle.std.proofs.Common.{sym, subst, arith, inl, inr}
use Rattle.std.proofs.lemmas.List.Elements.{All-append, All-cons, All-nil}
use Rattle.std.proofs.lemmas.Option.{slice_get_within}
use Rattle.base_types.specs.declared.answer.Answer.{Answer}
use Rattle.base_types.specs.declared.epoch.Epoch.{Epoch}
use Rattle.base_types.specs.declared.operation.Cond.{Cond}
use Rattle.base_types.specs.declared.operation.MinorWrite.{MinorWrite}
use Rattle.base_types.specs.declared.operation.Op.{Op}
use Rattle.base_types.specs.declared.operation.Read.{Read}
use Rattle.base_types.specs.declared.outcome.Outcome.{Outcome}
use Rattle.base_types.specs.declared.outcome.Outcome.TheVariants as outcome
use Rattle.base_types.specs.declared.report.Attempt.{Attempt}
use Rattle.base_types.specs.declared.script.Command.{Command}
use Rattle.base_types.specs.declared.script.Command.TheVariants.{Aggregate, Run, Skip, Snap, Tell}
use Rattle.base_messages.specs.declared.message.Message.{Message, more_of-Message}
use Rattle.base_messages.specs.declared.message.Message.TheVariants as message
use Rattle.base_messages.specs.declared.message.Reply.{Reply}
use Rattle.base_messages.specs.declared.message.Reply.TheVariants as reply
use Rattle.daos_model.specs.Accesses.{minor_writes, op_path}
use Rattle.daos_model.specs.Attempts.{is_restart, snapshot_of_command}
use Rattle.daos_model.specs.Conditions.{holds_where}
use Rattle.daos_model.specs.Transactions.{ops_of}
use Rattle.model_laws.specs.Members.{Has}
use Rattle.report_writer.specs.Forms.{IsAnswer, IsCond, IsGot}
use Rattle.world_base.specs.declared.client.ClientPlan.{ClientPlan}
use Rattle.world_base.specs.declared.client.ClientState.{ClientState}
use Rattle.world_base.specs.declared.client.Present.{Present}
use Rattle.world_base.specs.declared.client.Stage.{Stage}
use Rattle.world_base.specs.declared.client.Stage.TheVariants as stage
use Rattle.world_base.specs.ClientTurns.{Move, about, after_end, answered, asks_or_goes, at_present, attempt_id, attempt_moves, begins_at, begun, command_at, command_moves, commits, ends, first_epoch, goes, group_count, group_told, heard, heard_at, hears_epochs, is_about, is_yes, joined, knows, moved, moves_at, next_command, next_stage, op_moves, op_of, op_told, question, replied, reset_by, rests, run_moves, snaps_known, told_at, waits}
use Rattle.world_making.specs.world_letters.clients.MoveLaws.{tells-end, tells-nothing, told_end}
use Rattle.world_making.specs.world_letters.clients.Standing.{tells}
use Rattle.world_answers.specs.Forms.{AreToldInForm, BringsAnswerInForm, IsFoundInForm, IsPresentInForm, IsReplyInForm}
use Rattle.world_answers.specs.Reads.{answers-join_in_form}

-- ---- the statements

abbrev pub IsPresentOrNone : Option Present → Type 0
IsPresentOrNone None = Unit {0}
IsPresentOrNone (Some a) = IsPresentInForm a

-- what a move leaves of a client has form, and so has what it tells
pub record MovesInForm (m : Move) : Type 0 where
  pub present : IsPresentOrNone m.state.present
  pub line : (a : Attempt) → Has a (tells m) → AreToldInForm a.gots a.conds

-- each command has at most 64 operations
abbrev pub HasFewOps : ClientPlan → Type 0
HasFewOps p = (place : ℕ) (d : Command) → slice_get p.commands place ≡ Some d → length (ops_of d) ≤ 64

-- ---- what was told

none-told : AreToldInForm [] []
none-told = (All-nil IsGot, All-nil IsCond)

begun-in_form : (attempt : ℕ) (first epoch : Option Epoch) → IsPresentInForm (begun attempt first epoch)
begun-in_form attempt first epoch = record { told = none-told; found = tt }

-- an attempt of which the same was told and found
same-in_form : (a b : Present) → b.gots ≡ a.gots → b.conds ≡ a.conds → b.found ≡ a.found → IsPresentInForm a → IsPresentInForm b
same-in_form a b gots conds found k = record {
  told = subst (λ gs. AreToldInForm gs b.conds) (sym gots) (subst (λ cs. AreToldInForm a.gots cs) (sym conds) k.told);
  found = subst (λ o. IsFoundInForm o) (sym found) k.found;
}

-- one of which nothing was found
lost-in_form : (a b : Present) → b.gots ≡ a.gots → b.conds ≡ a.conds → b.found ≡ None → IsPresentInForm a → IsPresentInForm b
lost-in_form a b gots conds none k = record {
  told = subst (λ gs. AreToldInForm gs b.conds) (sym gots) (subst (λ cs. AreToldInForm a.gots cs) (sym conds) k.told);
  found = subst (λ o. IsFoundInForm o) (sym none) tt;
}

next-in_form : (s : Stage) (a : Present) → IsPresentInForm a → IsPresentInForm (next_stage s a)
next-in_form stage.Skip a k = same-in_form a (next_stage stage.Skip a) refl refl refl k
next-in_form stage.Cond a k = lost-in_form a (next_stage stage.Cond a) refl refl refl k
next-in_form stage.Act a k = lost-in_form a (next_stage stage.Act a) refl refl refl k

-- ---- moves

-- a move without a line
silent : (m : Move) → m.line ≡ None → IsPresentOrNone m.state.present → MovesInForm m
silent m none k = record { present = k; line = λ a i. absurd (subst (Has a) (tells-nothing m none) i) }

-- an attempt ends, and its line tells what it was told
ends-in_form : (p : ClientPlan) (c : ClientState) (a : Present) (how : Outcome) → AreToldInForm a.gots a.conds → MovesInForm (ends p c a how)
ends-in_form p c a how k = record { present = after (command_at p c); line = λ b i. tells-it b (subst (Has b) (tells-end p c a how) i) }
  where
    again : (d : Command) (b : Bool) → IsPresentOrNone (if b then at_present (begun (a.attempt + 1) a.first (first_epoch c.known (snapshot_of_command d))) c else next_command c).present
    again d true = begun-in_form (a.attempt + 1) a.first (first_epoch c.known (snapshot_of_command d))
    again d false = tt

    after : (o : Option Command) → IsPresentOrNone (after_end p c o a how).present
    after None = tt
    after (Some d) = again d (is_restart how && nat_lt (a.attempt + 1) p.attempts)

    tells-it : (b : Attempt) → Has b (told_end p c a how ∷ []) → AreToldInForm b.gots b.conds
    tells-it b (inl same) = subst (λ (z : Attempt). AreToldInForm z.gots z.conds) (sym same) k
    tells-it b (inr none) = absurd none

begins-in_form : (p : ClientPlan) (c : ClientState) (snapshot : Option (List ℕ)) (e : Option Epoch) → MovesInForm (begins_at p c snapshot e)
begins-in_form p c None e = silent (begins_at p c None e) refl (begun-in_form 0 None None)
begins-in_form p c (Some name) None = ends-in_form p c (begun 0 None None) outcome.NoSnapshot none-told
begins-in_form p c (Some name) (Some e) = silent (begins_at p c (Some name) (Some e)) refl (begun-in_form 0 None (Some e))

command-in_form : (p : ClientPlan) (c : ClientState) (d : Command) → IsPresentOrNone c.present → MovesInForm (command_moves p c d)
command-in_form p c (Run ops turns snapshot) k = begins-in_form p c snapshot (first_epoch c.known snapshot)
command-in_form p c (Snap name cont) k = begins-in_form p c None (first_epoch c.known None)
command-in_form p c (Aggregate cont) k = begins-in_form p c None (first_epoch c.known None)
command-in_form p c (Tell client) k = silent (command_moves p c (Tell client)) refl k
command-in_form p c (Skip turns) k = silent (command_moves p c (Skip turns)) refl k

commits-in_form : (p : ClientPlan) (c : ClientState) (a : Present) (ws : List MinorWrite) → IsPresentInForm a → MovesInForm (commits p c a ws)
commits-in_form p c a [] k = ends-in_form p c a outcome.Committed k.told
commits-in_form p c a (w ∷ ws) k = silent (commits p c a (w ∷ ws)) refl (same-in_form a (record a { waits = true }) refl refl refl k)

asks-in_form : (p : ClientPlan) (c : ClientState) (a : Present) (snapshot : Bool) (q : Option Read) → IsPresentInForm a → MovesInForm (asks_or_goes p c a snapshot q)
asks-in_form p c a snapshot None k = silent (asks_or_goes p c a snapshot None) refl (next-in_form a.stage a k)
asks-in_form p c a snapshot (Some q) k = silent (asks_or_goes p c a snapshot (Some q)) refl (same-in_form a (record a { waits = true }) refl refl refl k)

op-in_form : (p : ClientPlan) (c : ClientState) (a : Present) (ops : List Op) (snapshot : Bool) (o : Option Op) → IsPresentInForm a → MovesInForm (op_moves p c a ops snapshot o)
op-in_form p c a ops snapshot None k = commits-in_form p c a (minor_writes 0 ops) k
op-in_form p c a ops snapshot (Some op) k = asks-in_form p c a snapshot (question a.stage op) k

run-in_form : (p : ClientPlan) (c : ClientState) (a : Present) (ops : List Op) (turns : List ℕ) (snapshot : Bool) (s : Stage) → IsPresentInForm a → MovesInForm (run_moves p c a ops turns snapshot s)
run-in_form p c a ops turns snapshot stage.Skip k = silent (run_moves p c a ops turns snapshot stage.Skip) refl (next-in_form stage.Skip a k)
run-in_form p c a ops turns snapshot stage.Cond k = op-in_form p c a ops snapshot (slice_get ops a.op) k
run-in_form p c a ops turns snapshot stage.Act k = op-in_form p c a ops snapshot (slice_get ops a.op) k

attempt-in_form : (p : ClientPlan) (c : ClientState) (a : Present) (d : Command) → IsPresentInForm a → IsPresentOrNone c.present → MovesInForm (attempt_moves p c a d)
attempt-in_form p c a (Run ops turns snapshot) k h = run-in_form p c a ops turns (is_some snapshot) a.stage k
attempt-in_form p c a (Snap name cont) k h = silent (attempt_moves p c a (Snap name cont)) refl (same-in_form a (record a { waits = true }) refl refl refl k)
attempt-in_form p c a (Aggregate cont) k h = silent (attempt_moves p c a (Aggregate cont)) refl (same-in_form a (record a { waits = true }) refl refl refl k)
attempt-in_form p c a (Tell client) k h = silent (attempt_moves p c a (Tell client)) refl h
attempt-in_form p c a (Skip turns) k h = silent (attempt_moves p c a (Skip turns)) refl h

moves-in_form : (p : ClientPlan) (c : ClientState) (d : Option Command) (present : Option Present) → IsPresentOrNone present → IsPresentOrNone c.present → MovesInForm (moves_at p c d present)
moves-in_form p c None present k h = silent (moves_at p c None present) refl h
moves-in_form p c (Some d) None k h = command-in_form p c d h
moves-in_form p c (Some d) (Some a) k h = attempt-in_form p c a d k h

pub moved-in_form : (p : ClientPlan) (c : ClientState) → IsPresentOrNone c.present → MovesInForm (moved p c)
unfolding moved
moved-in_form p c k = by (waits c)
  where
    by : (b : Bool) → MovesInForm (if b then rests c else moves_at p c (command_at p c) c.present)
    by true = silent (rests c) refl k
    by false = moves-in_form p c (command_at p c) c.present k k

-- ---- hearing

-- the operation of a number that is there has a short one
few-ops : (p : ClientPlan) (c : ClientState) (n : ℕ) (op : Op) → HasFewOps p → op_of (command_at p c) n ≡ Some op → n < 2 ^ 8
few-ops p c n op few at = by (command_at p c) refl at
  where
    by : (o : Option Command) → command_at p c ≡ o → op_of o n ≡ Some op → n < 2 ^ 8
    by None is found = let no : ⊥ = cc in absurd no
    by (Some d) is found =
        let within : n < length (ops_of d) = slice_get_within (ops_of d) n op found in
        let all : length (ops_of d) ≤ 64 = few c.place d is in
        omega (arith, within, all)

-- one more answer, and one more condition
more-gots : (gots : List (ℕ × Answer)) (conds : List (ℕ × Bool)) (n : ℕ) (b : Answer) → n < 2 ^ 8 → IsAnswer b → AreToldInForm gots conds → AreToldInForm (gots ++ (n, b) ∷ []) conds
more-gots gots conds n b short form k = (All-append IsGot gots ((n, b) ∷ []) k.0 (All-cons IsGot (n, b) [] (record { op = short; answer = form }) (All-nil IsGot)), k.1)

more-conds : (gots : List (ℕ × Answer)) (conds : List (ℕ × Bool)) (n : ℕ) (there : Bool) → n < 2 ^ 8 → AreToldInForm gots conds → AreToldInForm gots (conds ++ (n, there) ∷ [])
more-conds gots conds n there short k = (k.0, All-append IsCond conds ((n, there) ∷ []) k.1 (All-cons IsCond (n, there) [] short (All-nil IsCond)))

told-in_form : (p : ClientPlan) (c : ClientState) (a : Present) (cond : Cond) (s : Stage) (b : Answer) → a.op < 2 ^ 8 → IsAnswer b → IsPresentInForm a → MovesInForm (told_at p c a cond s b)
told-in_form p c a cond stage.Skip b short form k = silent (told_at p c a cond stage.Skip b) refl k
told-in_form p c a cond stage.Act b short form k = silent (told_at p c a cond stage.Act b) refl (record { told = more-gots a.gots a.conds a.op b short form k.told; found = tt })
told-in_form p c a cond stage.Cond b short form k = by (holds_where (is_yes b) cond)
  where
    told : Present
    told = record a { conds = a.conds ++ (a.op, is_yes b) ∷ [] }

    its : AreToldInForm a.gots (a.conds ++ (a.op, is_yes b) ∷ [])
    its = more-conds a.gots a.conds a.op (is_yes b) short k.told

    by : (holds : Bool) → MovesInForm (if holds then goes (at_present (next_stage stage.Cond told) c) else ends p c told (outcome.CondFailed a.op))
    by true = silent (goes (at_present (next_stage stage.Cond told) c)) refl (next-in_form stage.Cond told (record { told = its; found = k.found }))
    by false = ends-in_form p c told (outcome.CondFailed a.op) its

group-in_form : (p : ClientPlan) (c : ClientState) (a : Present) (op : Op) (b : Answer) → a.op < 2 ^ 8 → IsAnswer b → IsPresentInForm a → MovesInForm (group_told p c a op b)
group-in_form p c a op b short form k = by (nat_lt (a.group + 1) (group_count (op_path op).obj (op_path op).dkey p.targets))
  where
    more : Present
    more = record a { group = a.group + 1; found = Some (joined a.found b) }

    whole : IsAnswer (joined a.found b)
    whole = answers-join_in_form a.found b k.found form

    by : (some : Bool) → MovesInForm (if some then goes (at_present more c) else told_at p c a op.cond a.stage (joined a.found b))
    by true = silent (goes (at_present more c)) refl (record { told = k.told; found = whole })
    by false = told-in_form p c a op.cond a.stage (joined a.found b) short whole k

answer-in_form : (p : ClientPlan) (c : ClientState) (a : Present) (b : Answer) (o : Option Op) → ((op : Op) → o ≡ Some op → a.op < 2 ^ 8) → IsAnswer b → IsPresentInForm a → MovesInForm (op_told p c a b o)
answer-in_form p c a b None short form k = silent (op_told p c a b None) refl k
answer-in_form p c a b (Some op) short form k = group-in_form p c a op b (short op refl) form k

replied-in_form : (p : ClientPlan) (c : ClientState) (a : Present) (b : Reply) → HasFewOps p → IsReplyInForm b → IsPresentInForm a → MovesInForm (replied p c a b)
replied-in_form p c a (reply.Answer b) few form k = answer-in_form p c a b (op_of (command_at p c) a.op) (λ op is. few-ops p c a.op op few is) form k
replied-in_form p c a (reply.Outcome how) few form k = ends-in_form p c a how k.told

reset-in_form : (p : ClientPlan) (c : ClientState) (a : Present) (t : ℕ) (down : Bool) (m : Message) → IsPresentInForm a → MovesInForm (reset_by p c a t down m)
reset-in_form p c a t true m k = ends-in_form p c a (outcome.Unknown t) k.told
reset-in_form p c a t false (message.Commit x e first tracker ws) k = silent (reset_by p c a t false (message.Commit x e first tracker ws)) refl (same-in_form a (record a { waits = true }) refl refl refl k)
reset-in_form p c a t false (message.Ask x) k = silent (reset_by p c a t false (message.Ask x)) refl (same-in_form a (record a { waits = true }) refl refl refl k)
reset-in_form p c a t false m k = ends-in_form p c a _ k.told

known-in_form : (e : Option Epoch) (a : Present) → IsPresentInForm a → IsPresentInForm (knows e a)
known-in_form e a k = same-in_form a (knows e a) refl refl refl k

answered-in_form : (p : ClientPlan) (c : ClientState) (a : Present) (m : Message) → HasFewOps p → BringsAnswerInForm m → IsPresentInForm a → IsPresentOrNone c.present → MovesInForm (answered p c a m)
answered-in_form p c a (message.Fetched x op group e b) few form k h = replied-in_form p c (knows e a) b few form (known-in_form e a k)
answered-in_form p c a (message.Ended x e how) few form k h = ends-in_form p (record c { known = snaps_known (command_at p c) e how c.known }) (knows e a) how k.told
answered-in_form p c a (message.Reset' t down place (more_of-Message q rest)) few form k h = reset-in_form p c (record a { waits = false }) t down q (same-in_form a (record a { waits = false }) refl refl refl k)
answered-in_form p c a m few form k h = silent (goes c) refl h

pub heard-in_form : (p : ClientPlan) (c : ClientState) (m : Message) → HasFewOps p → BringsAnswerInForm m → IsPresentOrNone c.present → MovesInForm (heard p c m)
unfolding heard
heard-in_form p c m few form h = at c.present h
  where
    at : (o : Option Present) → IsPresentOrNone o → MovesInForm (heard_at p (hears_epochs m c) m o)
    at None k = silent (goes (hears_epochs m c)) refl h
    at (Some a) k = by (a.waits && is_about (attempt_id p c a) (about m))
      where
        by : (b : Bool) → MovesInForm (if b then answered p (hears_epochs m c) a m else goes (hears_epochs m c))
        by true = answered-in_form p (hears_epochs m c) a m few form k h
        by false = silent (goes (hears_epochs m c)) refl h
