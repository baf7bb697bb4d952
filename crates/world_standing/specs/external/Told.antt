-- Of committed attempts that lines tell of, reads were served.
use Rattle.std.specs.Prelude.{ℕ, zero, suc, ◌≡◌, ◌≢◌, ◌⊎◌, ◌≤◌, ◌<◌, ◌+◌, ◌++◌, List, [], ◌∷◌, Contains, slice_get, Option, Some, None, refl}
use Rattle.std.proofs.Common.{sym, ◌∙◌, ap, subst, inl, inr, arith}
use Rattle.std.proofs.lemmas.Bool.{cases_lt}
use Rattle.base_types.specs.declared.answer.Answer.{Answer}
use Rattle.base_types.specs.declared.epoch.Epoch.{Epoch}
use Rattle.base_types.specs.declared.id.AttemptId.{AttemptId}
use Rattle.base_types.specs.declared.operation.Act.{Act}
use Rattle.base_types.specs.declared.operation.Act.TheVariants as act
use Rattle.base_types.specs.declared.operation.Op.{Op}
use Rattle.base_types.specs.declared.operation.Read.{Read}
use Rattle.base_types.specs.declared.outcome.Outcome.TheVariants.{Committed}
use Rattle.base_types.specs.declared.report.Attempt.{Attempt}
use Rattle.base_types.specs.Operations.{read_path}
use Rattle.daos_model.specs.Accesses.{asked_member}
use Rattle.daos_model.specs.Attempts.{is_of_client, tries, tries_of}
use Rattle.daos_model.specs.Transactions.{attempt_ops, number_of_read, read_at, read_numbers, read_of}
use Rattle.model_laws.specs.DecidedLaws.{has-all}
use Rattle.model_laws.specs.Members.{Has, has-filter, has-from_contains, has-from_map, has-right}
use Rattle.model_laws.specs.TargetLaws.{same_number}
use Rattle.world_causes.specs.world_commit.attempts.History.{History, Served}
use Rattle.world_base.specs.declared.client.ClientState.{ClientState}
use Rattle.world_base.specs.declared.world.World.{World}
use Rattle.world_base.specs.Events.{Rules, client_plan}
use Rattle.world_causes.specs.world_letters.clients.Answered.{EndsAsAnswered, EndsWell, IsAnsweredWhole, ops_numbered}
use Rattle.world_causes.specs.world_contents.gots.Gots.{AreJoined, Gots, IsGot, IsLineServed, IsServedTo, NoneYet, OneMore, group_at, groups_asked}
use Rattle.world_causes.specs.world_contents.gots.StepGots.{ops-of-attempt}
use Rattle.world_causes.specs.world_letters.lines.LastLines.{lines-answered}
use Rattle.world_causes.specs.world_letters.lines.Lines.{Lines}
use Rattle.world_causes.specs.world_contents.reads.Reads.{IsOfAttempt}
use Rattle.world_standing.specs.external.Kept.{ReadsAt}

-- ---- reads

-- what so many groups gave has what each of them gave
joined-has : (h : History) (x : AttemptId) (targets op : ℕ) (read : Read) (known : Option Epoch) (many : ℕ) (found : Option Answer) (n : ℕ) → AreJoined h x targets op read known many found → n < many
    → (b : Answer) × IsServedTo h x op (group_at read targets n) read b known
joined-has h x targets op read known many found n NoneYet low = absurd (omega (arith, low))
joined-has h x targets op read known many found n (OneMore m before b j s) low = by (λ less. joined-has h x targets op read known m before n j less) (cases_lt n m)
  where
    by : (n < m → (c : Answer) × IsServedTo h x op (group_at read targets n) read c known) → (n < m) ⊎ (m ≤ n) → (c : Answer) × IsServedTo h x op (group_at read targets n) read c known
    by rest (inl less) = rest less
    by rest (inr le) = let same : m ≡ n = omega (arith, le, low) in (b, subst (λ k. IsServedTo h x op (group_at read targets k) read b known) same s)

-- a read's number is among those of the reads
numbers-have : (k n : ℕ) (ops : List Op) (read : Read) → read_at ops n ≡ Some read → Has (k + n) (read_numbers k ops)
unfolding read_numbers
numbers-have k n [] read is = let no : ⊥ = cc in absurd no
numbers-have k zero (op ∷ ops) read is = by op.act is
  where
    by : (a : Act) → read_of a ≡ Some read → Has (k + 0) (number_of_read k a ++ read_numbers (k + 1) ops)
    by (act.Fetch q) e = inl (omega arith)
    by (act.Change w) e = let no : ⊥ = cc in absurd no
numbers-have k (suc n) (op ∷ ops) read is = has-right (number_of_read k op.act) (read_numbers (k + 1) ops) (k + suc n) (subst (λ m. Has m (read_numbers (k + 1) ops)) (omega arith) (numbers-have (k + 1) n ops read is))

-- a committed attempt was answered all its reads
line-answered : (r : Rules) (w : World) → Lines r w → (x : Attempt) → Contains (tries w.lines) x → x.outcome ≡ Committed → IsAnsweredWhole (attempt_ops r.script x.id) x
line-answered r w lines x i committed = by (slice_get w.clients x.id.client) refl
  where
    among : Has x (tries_of x.id.client w.lines)
    among = has-filter (is_of_client x.id.client) (tries w.lines) x (has-from_contains (tries w.lines) x i) (same_number x.id.client)

    by : (o : Option ClientState) → slice_get w.clients x.id.client ≡ o → IsAnsweredWhole (attempt_ops r.script x.id) x
    by None none = absurd (subst (Has x) (lines.nobody x.id.client none) among)
    by (Some c) here =
        let ends : EndsAsAnswered (client_plan r x.id.client) x = has-all (EndsAsAnswered (client_plan r x.id.client)) (tries_of x.id.client w.lines) x (lines-answered r w x.id.client c lines here) among in
        subst (λ ops. IsAnsweredWhole ops x) (ops-of-attempt r x.id) (subst (EndsWell (ops_numbered (client_plan r x.id.client) x.id.command) x) committed ends)

-- a read of a committed attempt, of a group that it asks, was served to it at its epoch, by the member of the group that is asked
pub record IsServedAt (passed : List Served) (x : Attempt) (t : ℕ) (read : Read) : Type 0 where
  pub q : Served
  pub among : Has q passed
  pub by : q.by ≡ x.id
  pub epoch : x.epoch ≡ Some q.epoch
  pub target : q.target ≡ t
  pub reads : q.read ≡ read

pub line-served : (r : Rules) (h : History) (w : World) → Lines r w → Gots r h w → ((q : Served) → Has q h.served → IsOfAttempt r q) → (x : Attempt) (t : ℕ) (read : Read) → Contains (tries w.lines) x → x.outcome ≡ Committed
    → ReadsAt r x.id t read → IsServedAt h.served x t read
line-served r h w lines gots asked x t read i committed at = record {
  q = s.q;
  among = s.among;
  by = s.of_attempt;
  epoch = s.at;
  target = a.member ∙ members ∙ sym at.member;
  reads = s.asked;
}
  where
    whole : IsAnsweredWhole (attempt_ops r.script x.id) x
    whole = line-answered r w lines x i committed

    got : (g : ℕ × Answer) × Has g x.gots × (g.0 ≡ at.op)
    got = has-from_map (λ (g : ℕ × Answer). g.0) x.gots at.op (subst (Has at.op) (sym whole.answered) (subst (λ m. Has m (read_numbers 0 (attempt_ops r.script x.id))) (omega arith) (numbers-have 0 at.op (attempt_ops r.script x.id) read at.is_read)))

    its : IsGot h x.id r.script.targets (attempt_ops r.script x.id) x.epoch got.0
    its = has-all (IsGot h x.id r.script.targets (attempt_ops r.script x.id) x.epoch) x.gots got.0 (has-all (IsLineServed r h) (tries w.lines) x gots.lines (has-from_contains (tries w.lines) x i)).gots got.1

    same : its.read ≡ read
    same = let both : Some its.read ≡ Some read = sym its.is_read ∙ ap (read_at (attempt_ops r.script x.id)) got.2 ∙ at.is_read in cc

    one : (b : Answer) × IsServedTo h x.id got.0.0 (group_at its.read r.script.targets at.n) its.read b x.epoch
    one = joined-has h x.id r.script.targets got.0.0 its.read x.epoch (groups_asked (read_path its.read) r.script.targets) (Some got.0.1) at.n its.joins (subst (λ z. at.n < groups_asked (read_path z) r.script.targets) (sym same) at.low)

    s : IsServedTo h x.id got.0.0 (group_at read r.script.targets at.n) read one.0 x.epoch
    s = subst (λ z. IsServedTo h x.id got.0.0 (group_at z r.script.targets at.n) z one.0 x.epoch) same one.1

    a : IsOfAttempt r s.q
    a = asked s.q s.among

    members : asked_member a.obj s.q.by.command r.script.targets s.q.group ≡ asked_member at.obj x.id.command r.script.targets (group_at read r.script.targets at.n)
    members =
        let both : Some a.obj ≡ Some at.obj = sym a.of_object ∙ ap (λ z. (read_path z).obj) s.asked ∙ at.of_object in
        let obj : a.obj ≡ at.obj = cc in
        ap (λ z. asked_member z s.q.by.command r.script.targets s.q.group) obj
        ∙ ap (λ z. asked_member at.obj z.command r.script.targets s.q.group) s.of_attempt
        ∙ ap (asked_member at.obj x.id.command r.script.targets) s.of_group

-- a list that has something isn't empty
pub none-has : {T : Type 0} (xs : List T) (x : T) → Has x xs → xs ≢ []
none-has [] x i none = i
none-has (y ∷ xs) x i none = let no : ⊥ = cc in no
