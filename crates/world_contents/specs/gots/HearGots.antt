-- A client that hears the answer of a served read was told what was served.
use Rattle.std.specs.Prelude.{ℕ, ◌≡◌, ◌<◌, ◌≤◌, ◌+◌, ◌++◌, max, Bool, true, false, nat_lt, List, [], ◌∷◌, slice_get, All, Option, Some, refl, if◌then◌else◌}
use Rattle.std.proofs.Common.{sym, ◌∙◌, ap, subst, arith}
use Rattle.std.proofs.lemmas.Bool.Decides.{nat_tests}
use Rattle.std.proofs.lemmas.List.Elements.{All-append, All-cons, All-nil}
use Rattle.base_types.specs.declared.answer.Answer.{Answer}
use Rattle.base_types.specs.declared.epoch.Epoch.{Epoch}
use Rattle.base_types.specs.declared.id.AttemptId.{AttemptId}
use Rattle.base_types.specs.declared.operation.Act.{Act}
use Rattle.base_types.specs.declared.operation.Act.TheVariants as act
use Rattle.base_types.specs.declared.operation.Cond.{Cond}
use Rattle.base_types.specs.declared.operation.Cond.TheVariants.{Free, Must, MustNot}
use Rattle.base_types.specs.declared.operation.Op.{Op}
use Rattle.base_types.specs.declared.operation.Read.{Read}
use Rattle.base_types.specs.declared.operation.Read.TheVariants.{Exists}
use Rattle.base_types.specs.declared.outcome.Outcome.{Outcome}
use Rattle.base_types.specs.declared.outcome.Outcome.TheVariants as outcome
use Rattle.base_types.specs.declared.script.Command.{Command}
use Rattle.base_types.specs.Operations.{act_path, read_path}
use Rattle.base_messages.specs.declared.message.Reply.TheVariants as reply
use Rattle.daos_model.specs.Accesses.{is_condition, op_path}
use Rattle.daos_model.specs.Conditions.{holds_where}
use Rattle.daos_model.specs.Transactions.{ops_of, read_of, read_of_op}
use Rattle.world_commit.specs.world_base.declared.client.ClientPlan.{ClientPlan}
use Rattle.world_commit.specs.world_base.declared.client.ClientState.{ClientState}
use Rattle.world_commit.specs.world_base.declared.client.Present.{Present}
use Rattle.world_commit.specs.world_base.declared.client.Stage.{Stage}
use Rattle.world_commit.specs.world_base.declared.client.Stage.TheVariants as stage
use Rattle.world_commit.specs.world_base.ClientTurns.{act_read, at_present, attempt_id, command_at, condition_read, condition_told, ended, ends, goes, group_count, group_told, is_yes, joined, next_op, next_stage, op_of, op_told, question, read_told, replied, snaps_known, told_at}
use Rattle.world_contents.specs.gots.Gots.{AreJoined, AreServed, Found, IsFound, IsGot, IsJoined, IsServedTo, IsTold, Nothing, NoneYet, OneMore, group_at, groups_asked}
use Rattle.world_contents.specs.gots.GotLaws.{Here, KeepsGots, ends-gots, stays}
use Rattle.world_commit.specs.attempts.History.{History}

-- ---- questions

act-reads : (x : Act) (r : Read) → act_read x ≡ Some r → (read_of x ≡ Some r) × (read_path r ≡ act_path x)
act-reads (act.Fetch q) r e = let same : q ≡ r = cc in (e, ap read_path (sym same))
act-reads (act.Change w) r e = let no : ⊥ = cc in absurd no

condition-reads : (op : Op) (cond : Cond) (r : Read) → condition_read op cond ≡ Some r → (r ≡ Exists (op_path op)) × (is_condition cond ≡ true)
condition-reads op Free r e = let no : ⊥ = cc in absurd no
condition-reads op Must r e = (cc, refl)
condition-reads op MustNot r e = (cc, refl)

-- what is asked of an operation is asked at its path
pub question-path : (s : Stage) (op : Op) (r : Read) → question s op ≡ Some r → read_path r ≡ op_path op
question-path stage.Skip op r e = let no : ⊥ = cc in absurd no
question-path stage.Cond op r e = ap read_path (condition-reads op op.cond r e).0
question-path stage.Act op r e = (act-reads op.act r e).1

-- ---- what was found before

-- what the groups gave that were asked before
pub record IsFoundBefore (h : History) (x : AttemptId) (targets : ℕ) (a : Present) (read : Read) : Type 0 where
  pub more : a.group < groups_asked (read_path read) targets
  pub joins : AreJoined h x targets a.op read a.epoch a.group a.found

found-before : (h : History) (x : AttemptId) (targets : ℕ) (ops : List Op) (a : Present) (op : Op) (read : Read) → slice_get ops a.op ≡ Some op → question a.stage op ≡ Some read
    → IsFound h x targets ops a → IsFoundBefore h x targets a read
found-before h x targets ops a op read at asks (Nothing g f) = record {
  more = subst (λ n. n < groups_asked (read_path read) targets) (sym g) (omega arith);
  joins = subst (λ n. AreJoined h x targets a.op read a.epoch n a.found) (sym g) (subst (λ o. AreJoined h x targets a.op read a.epoch 0 o) (sym f) NoneYet);
}
found-before h x targets ops a op read at asks (Found op2 read2 at2 asks2 low j) =
    let ops_same : op2 ≡ op = cc in
    let e : question a.stage op ≡ Some read2 = subst (λ o. question a.stage o ≡ Some read2) ops_same asks2 in
    let same : read2 ≡ read = cc in
    subst (λ r. IsFoundBefore h x targets a r) same (record { more = low; joins = j })

-- ---- an answer is whole

all-push : {T : Type 0} (P : T → Type 0) (xs : List T) (x : T) → All P xs → P x → All P (xs ++ x ∷ [])
all-push P xs x all p = All-append P xs (x ∷ []) all (All-cons P x [] p (All-nil P))

condition-gots : (h : History) (p : ClientPlan) (c : ClientState) (d : Command) (a : Present) (op : Op) (read : Read) (b : Answer) → Here h p c d a → slice_get (ops_of d) a.op ≡ Some op
    → condition_read op op.cond ≡ Some read → IsJoined h (attempt_id p c a) p.targets a.op read a.epoch b → KeepsGots h p (condition_told p c a op.cond (is_yes b))
condition-gots h p c d a op read b k at asks j = by (holds_where (is_yes b) op.cond)
  where
    told : Present
    told = record a { conds = a.conds ++ (a.op, is_yes b) ∷ [] }

    one : IsTold h (attempt_id p c a) p.targets (ops_of d) a.epoch (a.op, is_yes b)
    one = record {
      op = op;
      at = at;
      conditional = (condition-reads op op.cond read asks).1;
      found = b;
      joins = subst (λ r. IsJoined h (attempt_id p c a) p.targets a.op r a.epoch b) (condition-reads op op.cond read asks).0 j;
      says = refl;
    }

    served : AreServed h (attempt_id p c a) p.targets (ops_of d) a.epoch a.gots (a.conds ++ (a.op, is_yes b) ∷ [])
    served = record { gots = k.served.told.gots; conds = all-push (IsTold h (attempt_id p c a) p.targets (ops_of d) a.epoch) a.conds (a.op, is_yes b) k.served.told.conds one }

    by : (holds : Bool) → KeepsGots h p (if holds then goes (at_present (next_stage stage.Cond told) c) else ends p c told (outcome.CondFailed a.op))
    by true = stays h p c d (next_stage stage.Cond told) (goes (at_present (next_stage stage.Cond told) c)) k.at refl refl refl refl (record { told = served; found = Nothing refl refl })
    by false = ends-gots h p c d told (outcome.CondFailed a.op) k.at served

read-gots : (h : History) (p : ClientPlan) (c : ClientState) (d : Command) (a : Present) (op : Op) (read : Read) (b : Answer) → Here h p c d a → slice_get (ops_of d) a.op ≡ Some op
    → act_read op.act ≡ Some read → IsJoined h (attempt_id p c a) p.targets a.op read a.epoch b → KeepsGots h p (read_told c a b)
read-gots h p c d a op read b k at asks j =
    stays h p c d (next_op (record a { gots = a.gots ++ (a.op, b) ∷ [] })) (read_told c a b) k.at refl refl refl refl (record { told = served; found = Nothing refl refl })
  where
    one : IsGot h (attempt_id p c a) p.targets (ops_of d) a.epoch (a.op, b)
    one = record { read = read; is_read = ap read_of_op at ∙ (act-reads op.act read asks).0; joins = j }

    served : AreServed h (attempt_id p c a) p.targets (ops_of d) a.epoch (a.gots ++ (a.op, b) ∷ []) a.conds
    served = record { gots = all-push (IsGot h (attempt_id p c a) p.targets (ops_of d) a.epoch) a.gots (a.op, b) k.served.told.gots one; conds = k.served.told.conds }

told-at-gots : (h : History) (p : ClientPlan) (c : ClientState) (d : Command) (a : Present) (op : Op) (read : Read) (s : Stage) (b : Answer) → Here h p c d a → slice_get (ops_of d) a.op ≡ Some op
    → question s op ≡ Some read → IsJoined h (attempt_id p c a) p.targets a.op read a.epoch b → KeepsGots h p (told_at p c a op.cond s b)
told-at-gots h p c d a op read stage.Skip b k at asks j = let no : ⊥ = cc in absurd no
told-at-gots h p c d a op read stage.Cond b k at asks j = condition-gots h p c d a op read b k at asks j
told-at-gots h p c d a op read stage.Act b k at asks j = read-gots h p c d a op read b k at asks j

-- ---- a group answers

group-gots : (h : History) (p : ClientPlan) (c : ClientState) (d : Command) (a : Present) (op : Op) (read : Read) (b : Answer) → Here h p c d a → slice_get (ops_of d) a.op ≡ Some op
    → question a.stage op ≡ Some read → IsServedTo h (attempt_id p c a) a.op (group_at read p.targets a.group) read b a.epoch → KeepsGots h p (group_told p c a op b)
group-gots h p c d a op read b k at asks s = by (nat_lt (a.group + 1) (group_count (op_path op).obj (op_path op).dkey p.targets)) refl
  where
    x : AttemptId
    x = attempt_id p c a

    before : IsFoundBefore h x p.targets a read
    before = found-before h x p.targets (ops_of d) a op read at asks k.served.found

    more : Present
    more = record a { group = a.group + 1; found = Some (joined a.found b) }

    joins : AreJoined h x p.targets a.op read a.epoch (a.group + 1) (Some (joined a.found b))
    joins = OneMore a.group a.found b before.joins s

    count : ℕ
    count = group_count (read_path read).obj (read_path read).dkey p.targets

    counted : (l : Bool) → nat_lt (a.group + 1) (group_count (op_path op).obj (op_path op).dkey p.targets) ≡ l → nat_lt (a.group + 1) count ≡ l
    counted l e = ap (λ q. nat_lt (a.group + 1) (group_count q.obj q.dkey p.targets)) (question-path a.stage op read asks) ∙ e

    whole : (n g : ℕ) → g < max 1 n → nat_lt (g + 1) n ≡ false → g + 1 ≡ max 1 n
    whole n g low e = let le : n ≤ g + 1 = grind (arith, nat_tests) in omega arith

    not_whole : (n g : ℕ) → nat_lt (g + 1) n ≡ true → g + 1 < max 1 n
    not_whole n g e = let lt : g + 1 < n = grind (arith, nat_tests) in omega arith

    by : (l : Bool) → nat_lt (a.group + 1) (group_count (op_path op).obj (op_path op).dkey p.targets) ≡ l → KeepsGots h p (if l then goes (at_present more c) else told_at p c a op.cond a.stage (joined a.found b))
    by true e = stays h p c d more (goes (at_present more c)) k.at refl refl refl refl (record { told = k.served.told; found = Found op read at asks (not_whole count a.group (counted true e)) joins })
    by false e =
        told-at-gots h p c d a op read a.stage (joined a.found b) k at asks
        (subst (λ n. AreJoined h x p.targets a.op read a.epoch n (Some (joined a.found b))) (whole count a.group before.more (counted false e)) joins)

op-told-gots : (h : History) (p : ClientPlan) (c : ClientState) (d : Command) (a : Present) (op : Op) (read : Read) (b : Answer) (o : Option Op) → Here h p c d a → slice_get (ops_of d) a.op ≡ Some op
    → question a.stage op ≡ Some read → IsServedTo h (attempt_id p c a) a.op (group_at read p.targets a.group) read b a.epoch → o ≡ Some op → KeepsGots h p (op_told p c a b o)
op-told-gots h p c d a op read b o k at asks s e = subst (λ z. KeepsGots h p (op_told p c a b z)) (sym e) (group-gots h p c d a op read b k at asks s)

-- a client that is told the answer of a served read
pub answer-gots : (h : History) (p : ClientPlan) (c : ClientState) (d : Command) (a : Present) (op : Op) (read : Read) (b : Answer) → Here h p c d a → slice_get (ops_of d) a.op ≡ Some op
    → question a.stage op ≡ Some read → IsServedTo h (attempt_id p c a) a.op (group_at read p.targets a.group) read b a.epoch → KeepsGots h p (replied p c a (reply.Answer b))
answer-gots h p c d a op read b k at asks s = op-told-gots h p c d a op read b (op_of (command_at p c) a.op) k at asks s (ap (λ o. op_of o a.op) k.at.at ∙ at)

-- a client whose read or attempt ended
pub outcome-gots : (h : History) (p : ClientPlan) (c : ClientState) (d : Command) (a : Present) (how : Outcome) → Here h p c d a → KeepsGots h p (replied p c a (reply.Outcome how))
outcome-gots h p c d a how k = ends-gots h p c d a how k.at k.served.told

pub ended-gots : (h : History) (p : ClientPlan) (c : ClientState) (d : Command) (a : Present) (e : Option Epoch) (how : Outcome) → Here h p c d a → KeepsGots h p (ended p c a e how)
ended-gots h p c d a e how k = ends-gots h p (record c { known = snaps_known (command_at p c) e how c.known }) d a how (record { at = k.at.at; numbers = k.at.numbers }) k.served.told
