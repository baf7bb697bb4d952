-- The target that an attempt asks first.
use Rattle.std.specs.Prelude.{ℕ, ◌≡◌, ◌+◌, List, [], ◌∷◌, drop, slice_get, Option, Some, None, refl}
use Rattle.std.proofs.Common.{zero, suc, sym, ◌∙◌, ap, arith}
use Rattle.base_types.specs.declared.epoch.Epoch.{Epoch}
use Rattle.base_types.specs.declared.id.AttemptId.{AttemptId}
use Rattle.base_types.specs.declared.operation.Op.{Op}
use Rattle.base_types.specs.declared.operation.Read.{Read}
use Rattle.base_types.specs.declared.report.Attempt.{Attempt}
use Rattle.base_types.specs.declared.script.Command.{Command}
use Rattle.base_types.specs.declared.script.Script.{Script}
use Rattle.base_types.specs.Operations.{read_path}
use Rattle.base_types.specs.Placement.{writes_leader}
use Rattle.daos_model.specs.Accesses.{minor_writes}
use Rattle.daos_model.specs.Transactions.{attempt_ops, command_of, numbered, numbered_at, ops_or_none}
use Rattle.world_base.specs.declared.client.ClientState.{ClientState}
use Rattle.world_base.specs.declared.client.Present.{Present}
use Rattle.world_base.specs.declared.client.Stage.{Stage}
use Rattle.world_base.specs.declared.client.Stage.TheVariants as stage
use Rattle.world_base.specs.ClientTurns.{act_read, attempt_id, begun, command_at, group_asked, member_asked, next_stage, question}
use Rattle.world_letters.specs.clients.AnswerLaws.{ops-here}
use Rattle.world_letters.specs.clients.MoveLaws.{is-at}
use Rattle.world_letters.specs.clients.Standing.{HasTold}
use Rattle.world_base.specs.Events.{Rules, client_plan, commands_or_none}
use Rattle.world_base.specs.Commits.{or_else}
use Rattle.world_letters.specs.epochs.Epochs.{AsksFirst, behind_condition, first_question, first_target, issuer_of, left_to_ask}

-- ---- the operations of an attempt

ops-of-option : (k : ℕ) (clients : Option (List Command)) → ops_or_none (numbered_at k clients) ≡ ops_or_none (slice_get (numbered (commands_or_none clients)) k)
ops-of-option k None = refl
ops-of-option k (Some list) = refl

-- a client that is at an attempt is at its command
pub ops-at : (r : Rules) (n : ℕ) (c : ClientState) (a : Present) (attempts : List Attempt) → c.present ≡ Some a → HasTold (client_plan r n) c attempts
    → attempt_ops r.script (attempt_id (client_plan r n) c a) ≡ ops_or_none (command_at (client_plan r n) c)
unfolding command_of
ops-at r n c a attempts at told =
    let k = is-at (client_plan r n) c a attempts at told in
    ops-of-option c.command (slice_get r.script.clients n) ∙ ops-here (client_plan r n) c k.0 a attempts k.1 ∙ ap ops_or_none (sym k.1.at)

-- ---- what is left of a list

drop-next : {T : Type 0} (xs : List T) (n : ℕ) (x : T) → slice_get xs n ≡ Some x → drop n xs ≡ x ∷ drop (suc n) xs
drop-next [] n x h = let no : ⊥ = cc in absurd no
drop-next (y ∷ ys) zero x h = let same : y ≡ x = cc in ap (λ z. z ∷ ys) same
drop-next (y ∷ ys) (suc n) x h = drop-next ys n x h

drop-some : {T : Type 0} (xs : List T) (n : ℕ) (x : T) → slice_get xs n ≡ Some x → drop n xs ≡ x ∷ drop (n + 1) xs
drop-some xs n x h = let one : suc n ≡ n + 1 = omega arith in drop-next xs n x h ∙ ap (λ k. x ∷ drop k xs) one

drop-none : {T : Type 0} (xs : List T) (n : ℕ) → slice_get xs n ≡ None → drop n xs ≡ []
drop-none [] zero h = refl
drop-none [] (suc n) h = refl
drop-none (y ∷ ys) zero h = let no : ⊥ = cc in absurd no
drop-none (y ∷ ys) (suc n) h = drop-none ys n h

-- ---- what is asked first

-- an attempt that has just begun asks first what its command does
pub begins-first : (ops : List Op) (n : ℕ) (first own : Option Epoch) → AsksFirst ops (begun n first own)
begins-first ops n first own = record { group = refl; next = refl }

-- the question that it asks is the first one of its command
pub asks-first : (ops : List Op) (a : Present) (op : Op) (q : Read) → slice_get ops a.op ≡ Some op → question a.stage op ≡ Some q → AsksFirst ops a → first_question ops ≡ Some q
asks-first ops a op q at asks f = sym f.next ∙ by a.stage asks
  where
    by : (s : Stage) → question s op ≡ Some q → left_to_ask s (drop a.op ops) ≡ Some q
    by stage.Skip h = let no : ⊥ = cc in absurd no
    by stage.Cond h = ap first_question (drop-some ops a.op op at) ∙ ap (λ o. or_else o (or_else (act_read op.act) (first_question (drop (a.op + 1) ops)))) h
    by stage.Act h = ap behind_condition (drop-some ops a.op op at) ∙ ap (λ o. or_else o (first_question (drop (a.op + 1) ops))) h

-- behind the last operation, where it asked nothing, its command asks nothing
pub asks-nothing : (ops : List Op) (a : Present) → slice_get ops a.op ≡ None → AsksFirst ops a → first_question ops ≡ None
asks-nothing ops a at f = sym f.next ∙ by a.stage
  where
    by : (s : Stage) → left_to_ask s (drop a.op ops) ≡ None
    by stage.Skip = ap first_question (drop-none ops a.op at)
    by stage.Cond = ap first_question (drop-none ops a.op at)
    by stage.Act = ap behind_condition (drop-none ops a.op at)

-- where a stage asks nothing, the next one asks what is left
pub goes-first : (ops : List Op) (a : Present) (op : Op) → slice_get ops a.op ≡ Some op → question a.stage op ≡ None → AsksFirst ops a → AsksFirst ops (next_stage a.stage a)
goes-first ops a op at nothing f = by a.stage nothing f.next
  where
    by : (s : Stage) → question s op ≡ None → left_to_ask s (drop a.op ops) ≡ first_question ops → AsksFirst ops (next_stage s a)
    by stage.Skip h k = record { group = f.group; next = k }
    by stage.Cond h k = record { group = refl; next = ap behind_condition (drop-some ops a.op op at) ∙ (ap (λ o. or_else o (or_else (act_read op.act) (first_question (drop (a.op + 1) ops)))) (sym h) ∙ (ap first_question (sym (drop-some ops a.op op at)) ∙ k)) }
    by stage.Act h k = record { group = refl; next = ap (λ o. or_else o (first_question (drop (a.op + 1) ops))) (sym h) ∙ (ap behind_condition (sym (drop-some ops a.op op at)) ∙ k) }

-- ---- the issuer

-- it is the one that is asked about the first question
pub issuer-asked : (s : Script) (x : AttemptId) (ops : List Op) (q : Read) (group : ℕ) → attempt_ops s x ≡ ops → first_question ops ≡ Some q → group ≡ 0
    → member_asked (read_path q).obj x.command s.targets (group_asked (read_path q).obj (read_path q).dkey s.targets group) ≡ issuer_of s x
unfolding issuer_of
issuer-asked s x ops q group its first zero' =
    ap (λ g. member_asked (read_path q).obj x.command s.targets (group_asked (read_path q).obj (read_path q).dkey s.targets g)) zero'
    ∙ sym (ap (λ os. first_target x.command s.targets (minor_writes 0 os) (first_question os)) its ∙ ap (first_target x.command s.targets (minor_writes 0 ops)) first)

-- or the leader of the writes, where nothing is asked
pub issuer-leads : (s : Script) (x : AttemptId) (ops : List Op) → attempt_ops s x ≡ ops → first_question ops ≡ None → writes_leader (minor_writes 0 ops) s.targets ≡ issuer_of s x
unfolding issuer_of
issuer-leads s x ops its none = sym (ap (λ os. first_target x.command s.targets (minor_writes 0 os) (first_question os)) its ∙ ap (first_target x.command s.targets (minor_writes 0 ops)) none)
