-- Where conversations are in order, clients hand attempts over one at a time, and hear what goes with what they asked.
use Rattle.std.specs.Prelude.{◌≡◌, true, false, [], ◌∷◌, slice_get}
use Rattle.std.proofs.Common.{sym, ◌∙◌, ap, subst}
use Rattle.base_types.specs.declared.epoch.Epoch.{Epoch}
use Rattle.base_types.specs.declared.id.AttemptId.{AttemptId}
use Rattle.base_types.specs.declared.outcome.Outcome.{Outcome}
use Rattle.base_messages.specs.declared.message.Message.TheVariants as message
use Rattle.base_messages.specs.declared.message.Post.{Post}
use Rattle.base_messages.specs.declared.message.Reply.{Reply}
use Rattle.base_messages.specs.declared.message.Reply.TheVariants as reply
use Rattle.daos_model.specs.Accesses.{minor_writes}
use Rattle.daos_model.specs.Transactions.{ops_or_none}
use Rattle.dtx_base.specs.LeaderLaws.{same-is}
use Rattle.world_base.specs.declared.client.ClientPlan.{ClientPlan}
use Rattle.world_base.specs.declared.client.ClientState.{ClientState}
use Rattle.world_base.specs.declared.client.Present.{Present}
use Rattle.world_base.specs.ClientTurns.{attempt_id}
use Rattle.world_contents.specs.world_letters.clients.Answered.{is_refusal, ops_here}
use Rattle.world_contents.specs.world_letters.lines.Lines.{IsRefusalOrNone}
use Rattle.world_contents.specs.world_letters.talks.Asked.{ARead, ASnapshot, AnAggregation, Asked, ItsWrites}
use Rattle.world_causes.specs.outcomes.Outcomes.{IsBehind}
use Rattle.world_causes.specs.outcomes.Premises.{IsReplyFit, hands}

-- ---- what is handed over

-- what a client asked that hands an attempt over is the Commit of its present attempt, behind its last operation
pub asks-commit : (p : ClientPlan) (k : Epoch) (c : ClientState) (a : Present) (q : Post) (x : AttemptId) → Asked p k c a q → hands x q.message ≡ true → (attempt_id p c a ≡ x) × IsBehind (ops_here p c) a
asks-commit p k c a q x (ItsWrites ops turns snapshot w ws at last all says) own = (
  same-is (attempt_id p c a) x (subst (λ s. hands x s.message ≡ true) says own),
  record { last = ap (λ o. slice_get (ops_or_none o) a.op) at ∙ last; writes = λ none. let bad : w ∷ ws ≡ [] = sym all ∙ sym (ap (λ o. minor_writes 0 (ops_or_none o)) at) ∙ none in let no : ⊥ = cc in no },
)
asks-commit p k c a q x (ARead ops turns snapshot op r at here asks says) own = let bad : false ≡ true = subst (λ s. hands x s.message ≡ true) says own in let no : ⊥ = cc in absurd no
asks-commit p k c a q x (ASnapshot name cont at says) own = let bad : false ≡ true = subst (λ s. hands x s.message ≡ true) says own in let no : ⊥ = cc in absurd no
asks-commit p k c a q x (AnAggregation cont at says) own = let bad : false ≡ true = subst (λ s. hands x s.message ≡ true) says own in let no : ⊥ = cc in absurd no

-- ---- what a client hears

pub refusal-other : (b : Reply) → IsRefusalOrNone b → IsReplyFit b
refusal-other (reply.Answer b) k = tt
refusal-other (reply.Outcome how) k = λ same. let bad : false ≡ true = sym (ap is_refusal same) ∙ k in let no : ⊥ = cc in no
