-- A Fetch, and a Verdict that sets Fetches free: each is answered once at most, by an answer of its kind.
use Rattle.std.specs.Prelude.{ℕ, ◌≡◌, ◌≤◌, ◌+◌, ◌++◌, Bool, true, List, [], ◌∷◌, Option, Some, None, Ok, refl}
use Rattle.std.proofs.Common.{sym, ◌∙◌, ap, subst, inl, inr, arith}
use Rattle.base_types.specs.declared.answer.Answer.{Answer}
use Rattle.base_types.specs.declared.entry.Settle.{Settle}
use Rattle.base_types.specs.declared.entry.Settle.TheVariants.{Commit}
use Rattle.base_types.specs.declared.entry.Verdict.{Verdict}
use Rattle.base_types.specs.declared.epoch.Epoch.{Epoch}
use Rattle.base_types.specs.declared.id.AttemptId.{AttemptId}
use Rattle.base_types.specs.declared.operation.Read.{Read}
use Rattle.base_types.specs.declared.outcome.Outcome.{Outcome}
use Rattle.base_types.specs.declared.outcome.Outcome.TheVariants as outcome
use Rattle.base_types.specs.declared.outcome.Cause.TheVariants as cause
use Rattle.base_messages.specs.declared.actor.ActorId.{ActorId}
use Rattle.base_messages.specs.declared.message.Message.{Message}
use Rattle.base_messages.specs.declared.message.Post.{Post}
use Rattle.base_messages.specs.declared.message.Reply.TheVariants as reply
use Rattle.daos_model.proofs.AnswerKinds.{kind-answer}
use Rattle.daos_model.specs.declared.durable.Durable.{Durable}
use Rattle.daos_model.specs.Forms.{is_read_in_form}
use Rattle.daos_model.specs.Kinds.{is_of_kind}
use Rattle.daos_model.specs.Opening.{Opening}
use Rattle.dtx_base.specs.declared.member.MemberMemory.{MemberMemory}
use Rattle.dtx_base.specs.declared.member.Parked.{Parked}
use Rattle.dtx_base.specs.Joining.{verdict_heard}
use Rattle.model_laws.specs.Members.{Has}
use Rattle.vos_store.specs.Answers.{fetched}
use Rattle.world_base.specs.declared.did.Did.{Did}
use Rattle.world_base.specs.declared.request.FetchRequest.{FetchRequest}
use Rattle.world_base.specs.declared.target.TargetMemory.{TargetMemory}
use Rattle.world_base.specs.declared.target.TargetPlan.{TargetPlan}
use Rattle.world_base.specs.declared.world.World.{World}
use Rattle.world_base.specs.Changes.{Change, Kept, Steps}
use Rattle.world_base.specs.Events.{Rules}
use Rattle.world_base.specs.MemoryLaws.{member-then}
use Rattle.world_base.specs.PathLaws.{reached-keeps}
use Rattle.world_base.specs.Reads as read
use Rattle.world_base.specs.Requests.{fetch_message}
use Rattle.world_base.specs.Roles.{joins_on, member_at}
use Rattle.world_base.specs.Turns.{Whole}
use Rattle.world_base.specs.VerdictLaws.{Tries, verdict-keeps}
use Rattle.world_base.specs.Verdicts as verdict
use Rattle.world_making.specs.world_contents.reads.Given.{IsParkedRight, IsWaitingRight}
use Rattle.world_making.specs.world_contents.reads.ServedLaws.{free-read}
use Rattle.world_ended.specs.world_letters.kinds.Loads.{AnswersOnce, load, parked_load, post_load, total}
use Rattle.world_ended.specs.world_letters.kinds.LoadLaws.{answer-carries, end-carries, total-append}
use Rattle.world_ended.specs.world_letters.kinds.PostLaws.{queries-carry, verdicts-free}
use Rattle.world_readers.specs.Freed.{freed-waited}
use Rattle.world_readers.specs.forms.Changes.{leased-in_form, settles-in_form}
use Rattle.world_readers.specs.forms.Forms.{VersionsInForm}

-- ---- one Fetch

-- what a read is answered on versions in form is of its kind
answer-kind : (q : Read) (e : Epoch) (d : Durable) (b : Answer) → is_read_in_form q ≡ true → VersionsInForm d → fetched q e d ≡ Ok b → is_of_kind q b ≡ true
answer-kind q e d b form keeps is = ap (is_of_kind q) (free-read q e d b is).right ∙ kind-answer q d.versions e.0 form keeps

-- one that waits carries as much at its epoch
same-load : (q : FetchRequest) (e : Epoch) (x : AttemptId) (r : Read) → load x r (read.fetch_at q e) ≡ load x r (fetch_message q)
unfolding load
same-load q e x r = refl

module _ (p : TargetPlan) (m : TargetMemory) (reading : ℕ) (q : FetchRequest) (form : is_read_in_form q.read ≡ true) where
  step-in_form : (s : read.FetchStage) (k : Kept) (o : Option Change) (u : read.FetchStage) (l : Kept) → read.FetchNext p m reading q s k o u → Steps o k l → VersionsInForm k.durable → VersionsInForm l.durable
  step-in_form s k o u l (read.AtSnapshot j e is ep) steps h = subst (λ n. VersionsInForm n.durable) (sym steps) h
  step-in_form s k o u l (read.HasEpoch j e plain is) steps h = subst (λ n. VersionsInForm n.durable) (sym steps) h
  step-in_form s k o u l (read.ExtendsLease j e lease low is) steps h = subst VersionsInForm (sym steps.0) (leased-in_form lease k.durable h)
  step-in_form s k o u l (read.IsCovered j e low) steps h = subst (λ n. VersionsInForm n.durable) (sym steps) h
  step-in_form s k o u l (read.SettlesOwn j e decided a none unsettled among) steps h = subst VersionsInForm (sym steps.0) (settles-in_form a Commit k.durable h)

  -- one message is told, which carries no more than the Fetch
  told-once : (to : ActorId) (n : Message) (after : MemberMemory) (posts : List Post) → posts ≡ record { to = to; message = n } ∷ [] → after ≡ m.member → ((x : AttemptId) (r : Read) → load x r n ≤ load x r (fetch_message q))
      → AnswersOnce (fetch_message q ∷ []) m.member after posts
  told-once to n after posts is same less x r =
      let one = less x r in
      let sent : total (post_load x r) posts ≡ load x r n + 0 = ap (total (post_load x r)) is in
      let kept : total (parked_load x r) after.parked ≡ total (parked_load x r) m.member.parked = ap (λ (y : MemberMemory). total (parked_load x r) y.parked) same in
      omega (arith, one, sent, kept)

  ended-once : (to : ActorId) (e : Option Epoch) (how : Outcome) (after : MemberMemory) (posts : List Post) → posts ≡ record { to = to; message = read.fetched_message q e (reply.Outcome how) } ∷ [] → after ≡ m.member
      → AnswersOnce (fetch_message q ∷ []) m.member after posts
  ended-once to e how after posts is same =
      told-once to (read.fetched_message q e (reply.Outcome how)) after posts is same (λ x r. end-carries x q.attempt r q.read q.op q.group q.op q.group e q.ep q.first q.tracker q.snapshot how)

  ends-once : (from : ActorId) (s : read.FetchStage) (k : Kept) (left : TargetMemory × Did) → VersionsInForm k.durable → read.FetchEnds p m reading q from s k left → AnswersOnce (fetch_message q ∷ []) m.member left.0.member left.1.posts
  ends-once from s k left keeps (read.IsSpent j z plain none is) = ended-once from None outcome.EpochsSpent left.0.member left.1.posts (ap (λ x. x.1.posts) is) (ap (λ x. x.0.member) is)
  ends-once from s k left keeps (read.IsRefused j e decided c z why is) =
      ended-once from (Some e) (outcome.Restart c) left.0.member left.1.posts (ap (λ x. x.1.posts) is) (ap (λ x. x.0.member) is ∙ member-then q e decided m)
  ends-once from s k left keeps (read.MeetsUnresolved j e decided a z free unsettled unknown alone is) =
      ended-once from (Some e) (outcome.Restart (cause.Unresolved a)) left.0.member left.1.posts (ap (λ x. x.1.posts) is) (ap (λ x. x.0.member) is ∙ member-then q e decided m)
  ends-once from s k left keeps (read.IsParked j e decided a leader z free unsettled other is) = λ x r.
      let waits : left.0.member.parked ≡ m.member.parked ++ record { on = a; leader = leader; ask = read.fetch_at q e } ∷ [] = ap (λ y. y.0.member.parked) is in
      let sent : total (post_load x r) left.1.posts ≡ 0 = ap (λ y. total (post_load x r) y.1.posts) is ∙ queries-carry (read.fetch_at q e) a leader x r in
      let all = ap (total (parked_load x r)) waits ∙ total-append (parked_load x r) m.member.parked (record { on = a; leader = leader; ask = read.fetch_at q e } ∷ []) in
      let same = same-load q e x r in
      omega (arith, sent, all, same)
  ends-once from s k left keeps (read.IsServed j e decided b z free served is) =
      told-once from (read.fetched_message q (Some e) (reply.Answer b)) left.0.member left.1.posts (ap (λ x. x.1.posts) is) (ap (λ x. x.0.member) is ∙ member-then q e decided m)
      (λ x r. answer-carries x q.attempt r q.read q.op q.group q.op q.group (Some e) q.ep q.first q.tracker q.snapshot b (answer-kind q.read e k.durable b form keeps served))

  pub fetch-once : (from : ActorId) (old new : Kept) (left : TargetMemory × Did) → VersionsInForm old.durable → Whole (read.FetchNext p m reading q) (read.FetchEnds p m reading q from) read.Asked old new left
      → AnswersOnce (fetch_message q ∷ []) m.member left.0.member left.1.posts × VersionsInForm new.durable
  fetch-once from old new left keeps w =
      let k = reached-keeps (read.FetchNext p m reading q) (λ s k. VersionsInForm k.durable) step-in_form read.Asked old w.last new w.reached keeps in
      (ends-once from w.last new left k w.ends, k)

-- ---- a Verdict

module _ (r : Rules) (o : Opening) (w : World) (t : ℕ) (d : Durable) (is_due : AttemptId → Durable → Bool) (p : TargetPlan) (m : TargetMemory) (reading : ℕ) (a : AttemptId) (ask : Option AttemptId) (v : Verdict) (old : Kept)
    (waits : (z : Parked) → Has z m.member.parked → IsParkedRight r o w t d z.ask) (keeps : VersionsInForm old.durable) where
  -- What is left to be tried is right, what is kept is in form, and no more goes about than before.
  record GoesOnce (asks : List Message) (n : TargetMemory) (posts : List Post) (k : Kept) : Type 0 where
    asked : (z : Message) → Has z asks → IsParkedRight r o w t d z
    form : VersionsInForm k.durable
    once : (x : AttemptId) (q : Read) → total (post_load x q) posts + total (parked_load x q) n.member.parked + total (load x q) asks ≤ total (parked_load x q) m.member.parked

  settled-so : (s : Option Settle) (k : Kept) → Steps (verdict.settling_change a s) old k → VersionsInForm k.durable
  settled-so None k steps = subst (λ n. VersionsInForm n.durable) (sym steps) keeps
  settled-so (Some s) k steps = subst VersionsInForm (sym steps.0) (settles-in_form a s old.durable keeps)

  begins-once : (k : Kept) → Steps (verdict.settling_change a (verdict.settles_by is_due v a old.durable)) old k
      → GoesOnce (verdict_heard a ask v (member_at p m)).freed.again (joins_on (verdict_heard a ask v (member_at p m)).member m) (verdict_heard a ask v (member_at p m)).freed.posts k
  begins-once k steps = record {
    asked = freed-waited p m a (IsParkedRight r o w t d) waits v ask;
    form = settled-so (verdict.settles_by is_due v a old.durable) k steps;
    once = λ x q. (verdicts-free a ask v (member_at p m) x q).once;
  }

  goes-once : (q : FetchRequest) (rest : List Message) (n : TargetMemory) (posts : List Post) (k l : Kept) (left : TargetMemory × Did) → GoesOnce (fetch_message q ∷ rest) n posts k → Tries p reading n q k l left → GoesOnce rest left.0 (posts ++ left.1.posts) l
  goes-once q rest n posts k l left h tries = record {
    asked = λ z i. h.asked z (inr i);
    form = tried.1;
    once = λ x y.
        let so-far = h.once x y in
        let one = tried.0 x y in
        let both = total-append (post_load x y) posts left.1.posts in
        omega (arith, so-far, one, both);
  }
    where
      waited : IsWaitingRight r o w t d q.attempt q.op q.group q.ep q.read q.snapshot
      waited = h.asked (fetch_message q) (inl refl)

      tried : AnswersOnce (fetch_message q ∷ []) n.member left.0.member left.1.posts × VersionsInForm l.durable
      tried = fetch-once p n reading q waited.right.form (verdict.fetcher q) k l left h.form tries

  pub verdict-once : (given : List Message) (new : Kept) (left : TargetMemory × Did) → Whole (verdict.VerdictNext is_due p m reading a ask v) verdict.VerdictEnds verdict.Heard old new left → AnswersOnce given m.member left.0.member left.1.posts
  verdict-once given new left whole x q =
      let all = (verdict-keeps is_due p m reading a ask v old GoesOnce begins-once goes-once new left whole).0.once x q in
      omega (arith, all)
