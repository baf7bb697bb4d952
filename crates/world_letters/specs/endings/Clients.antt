-- What a client sends when it hears a message: nothing, or it asks what became of its attempt.
use Rattle.std.specs.Prelude.{ℕ, ◌+◌, ◌++◌, ◌&&◌, Bool, true, false, nat_lt, [], ◌∷◌, Option, Some, None, if◌then◌else◌, ◌≡◌, refl}
use Rattle.std.proofs.Common.{sym, ◌∙◌, ap, subst, inl, inr}
use Rattle.base_types.specs.declared.answer.Answer.{Answer}
use Rattle.base_types.specs.declared.id.AttemptId.{AttemptId}
use Rattle.base_types.specs.declared.operation.Cond.{Cond}
use Rattle.base_types.specs.declared.operation.Op.{Op}
use Rattle.base_types.specs.declared.outcome.Outcome.TheVariants as outcome
use Rattle.base_messages.specs.declared.message.Message.{Message, more_of-Message}
use Rattle.base_messages.specs.declared.message.Message.TheVariants as message
use Rattle.base_messages.specs.declared.message.Post.{Post}
use Rattle.base_messages.specs.declared.message.Reply.{Reply}
use Rattle.base_messages.specs.declared.message.Reply.TheVariants as reply
use Rattle.daos_model.specs.Accesses.{op_path}
use Rattle.daos_model.specs.Conditions.{holds_where}
use Rattle.world_base.specs.declared.client.ClientPlan.{ClientPlan}
use Rattle.world_base.specs.declared.client.ClientState.{ClientState}
use Rattle.world_base.specs.declared.client.Present.{Present}
use Rattle.world_base.specs.declared.client.Stage.{Stage}
use Rattle.world_base.specs.declared.client.Stage.TheVariants as stage
use Rattle.world_base.specs.ClientTurns.{about, answered, at_present, attempt_id, command_at, ends, goes, group_count, group_told, heard, heard_at, hears_epochs, is_about, is_yes, joined, knows, listed, next_stage, op_of, op_told, replied, reset, reset_by, told_at}
use Rattle.world_letters.specs.lines.EndingLaws.{PostsEnd}
use Rattle.world_letters.specs.lines.Lines.{TellsEnd}

-- nothing, or the question what became of an attempt
abbrev pub IsQuestion : Option Post → Type 0
IsQuestion None = Unit {0}
IsQuestion (Some q) = (x : AttemptId) × (q.message ≡ message.Ask x)

told-asks : (p : ClientPlan) (c : ClientState) (a : Present) (cond : Cond) (s : Stage) (b : Answer) → IsQuestion (told_at p c a cond s b).post
told-asks p c a cond stage.Skip b = tt
told-asks p c a cond stage.Act b = tt
told-asks p c a cond stage.Cond b = by (holds_where (is_yes b) cond)
  where
    by : (holds : Bool)
        → IsQuestion (if holds then goes (at_present (next_stage stage.Cond (record a { conds = a.conds ++ (a.op, is_yes b) ∷ [] })) c) else ends p c (record a { conds = a.conds ++ (a.op, is_yes b) ∷ [] }) (outcome.CondFailed a.op)).post
    by true = tt
    by false = tt

group-asks : (p : ClientPlan) (c : ClientState) (a : Present) (op : Op) (b : Answer) → IsQuestion (group_told p c a op b).post
group-asks p c a op b = by (nat_lt (a.group + 1) (group_count (op_path op).obj (op_path op).dkey p.targets))
  where
    by : (more : Bool) → IsQuestion (if more then goes (at_present (record a { group = a.group + 1; found = Some (joined a.found b) }) c) else told_at p c a op.cond a.stage (joined a.found b)).post
    by true = tt
    by false = told-asks p c a op.cond a.stage (joined a.found b)

op-asks : (p : ClientPlan) (c : ClientState) (a : Present) (b : Answer) (o : Option Op) → IsQuestion (op_told p c a b o).post
op-asks p c a b None = tt
op-asks p c a b (Some op) = group-asks p c a op b

replied-asks : (p : ClientPlan) (c : ClientState) (a : Present) (b : Reply) → IsQuestion (replied p c a b).post
replied-asks p c a (reply.Answer b) = op-asks p c a b (op_of (command_at p c) a.op)
replied-asks p c a (reply.Outcome how) = tt

reset-asks : (p : ClientPlan) (c : ClientState) (a : Present) (t : ℕ) (m : Message) → IsQuestion (reset p c a t m).post
reset-asks p c a t (message.Commit x e first tracker ws) = (_, refl)
reset-asks p c a t (message.Ask x) = (_, refl)
reset-asks p c a t m = tt

reset-by_asks : (p : ClientPlan) (c : ClientState) (a : Present) (t : ℕ) (down : Bool) (m : Message) → IsQuestion (reset_by p c a t down m).post
reset-by_asks p c a t false m = reset-asks p c a t m
reset-by_asks p c a t true m = tt

answered-asks : (p : ClientPlan) (c : ClientState) (a : Present) (m : Message) → IsQuestion (answered p c a m).post
answered-asks p c a (message.Fetched x op group e b) = replied-asks p c (knows e a) b
answered-asks p c a (message.Ended x e how) = tt
answered-asks p c a (message.Reset' t down place (more_of-Message m rest)) = reset-by_asks p c (record a { waits = false }) t down m
answered-asks p c a m = tt

pub heard-asks : (p : ClientPlan) (c : ClientState) (m : Message) → IsQuestion (heard p c m).post
unfolding heard
heard-asks p c m = at c.present
  where
    at : (o : Option Present) → IsQuestion (heard_at p (hears_epochs m c) m o).post
    at None = tt
    at (Some a) = by (a.waits && is_about (attempt_id p (hears_epochs m c) a) (about m))
      where
        by : (b : Bool) → IsQuestion (if b then answered p (hears_epochs m c) a m else goes (hears_epochs m c)).post
        by true = answered-asks p (hears_epochs m c) a m
        by false = tt

listed-asks : (o : Option Post) → IsQuestion o → PostsEnd (listed o)
listed-asks None asks q i = absurd i
listed-asks (Some s) asks q (inl same) = subst TellsEnd (sym (ap (λ x. x.message) same ∙ asks.1)) tt
listed-asks (Some s) asks q (inr none) = absurd none

pub heard-ends : (p : ClientPlan) (c : ClientState) (m : Message) → PostsEnd (listed (heard p c m).post)
heard-ends p c m = listed-asks (heard p c m).post (heard-asks p c m)
