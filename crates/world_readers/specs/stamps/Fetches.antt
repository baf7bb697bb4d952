-- A Fetch, and a Verdict that sets Fetches free: each timestamp that they add is of the attempt that asks.
use Rattle.std.specs.Prelude.{ℕ, ◌≡◌, ◌⊎◌, ◌++◌, Any, Bool, true, false, List, [], ◌∷◌, Contains, Option, Some, None, refl, if◌then◌else◌}
use Rattle.std.proofs.Common.{sym, ◌∙◌, ap, subst, inl, inr}
use Rattle.base_types.specs.declared.answer.Answer.{Answer}
use Rattle.base_types.specs.declared.entry.Verdict.{Verdict}
use Rattle.base_types.specs.declared.epoch.Epoch.{Epoch}
use Rattle.base_types.specs.declared.id.AttemptId.{AttemptId}
use Rattle.base_types.specs.declared.shown.Shown.{Shown}
use Rattle.base_types.specs.Operations.{read_path}
use Rattle.base_messages.specs.declared.actor.ActorId.{ActorId}
use Rattle.base_messages.specs.declared.message.Message.{Message}
use Rattle.daos_model.specs.CausesShown.{AsksAt}
use Rattle.daos_model.specs.declared.durable.Durable.{Durable}
use Rattle.daos_model.specs.Opening.{Opening}
use Rattle.daos_model.specs.Transactions.{attempt_ops}
use Rattle.dtx_base.specs.declared.member.Parked.{Parked}
use Rattle.dtx_base.specs.Joining.{verdict_heard}
use Rattle.model_laws.specs.Lists.{any-of, has-at}
use Rattle.model_laws.specs.Members.{Has, contains-from_has, has-cases, has-from_contains}
use Rattle.world_base.specs.declared.did.Did.{Did}
use Rattle.world_base.specs.declared.request.FetchRequest.{FetchRequest}
use Rattle.world_base.specs.declared.target.TargetMemory.{TargetMemory}
use Rattle.world_base.specs.declared.target.TargetPlan.{TargetPlan}
use Rattle.world_base.specs.declared.world.World.{World}
use Rattle.world_base.specs.Changes.{Change, Kept, Steps}
use Rattle.world_base.specs.Events.{Rules}
use Rattle.world_base.specs.PathLaws.{reached-keeps}
use Rattle.world_base.specs.Reads as read
use Rattle.world_base.specs.Requests.{fetch_message, issued_for, request_epoch, with_ticks}
use Rattle.world_base.specs.Roles.{joins_on, member_at}
use Rattle.world_base.specs.Turns.{Whole}
use Rattle.world_base.specs.VerdictLaws.{Tries, verdict-keeps}
use Rattle.world_base.specs.Verdicts as verdict
use Rattle.world_making.specs.world_causes.causes.Growth.{question-asks}
use Rattle.world_making.specs.world_contents.reads.Given.{IsFetchRight, IsParkedRight, IsReadEpoch, IsWaitingRight}
use Rattle.world_making.specs.world_contents.reads.Reads.{IsOfAttempt}
use Rattle.world_readers.specs.Freed.{freed-waited}
use Rattle.world_readers.specs.stamps.Stamps.{AddsOwn, IsOwnStamp, own-same, own-then}

-- ---- one Fetch

-- a Fetch that has an epoch is tried at that
abbrev IsAtOwn : FetchRequest → read.FetchStage → Type 0
IsAtOwn q read.Asked = Unit {0}
IsAtOwn q (read.Known e) = (f : Epoch) → q.ep ≡ Some f → f ≡ e
IsAtOwn q (read.Reading e decided) = (f : Epoch) → q.ep ≡ Some f → f ≡ e

at-own : (p : TargetPlan) (m : TargetMemory) (reading : ℕ) (q : FetchRequest) (s : read.FetchStage) (k : Kept) (o : Option Change) (u : read.FetchStage) (l : Kept)
    → read.FetchNext p m reading q s k o u → Steps o k l → IsAtOwn q s → IsAtOwn q u
at-own p m reading q s k o u l (read.AtSnapshot j e is ep) steps h = λ f own. cc (own, ep)
at-own p m reading q s k o u l (read.HasEpoch j e plain is) steps h = λ f own. (let same : Some f ≡ Some e = sym (ap (λ ep. request_epoch p m reading q.tracker ep) own) ∙ is in cc (same))
at-own p m reading q s k o u l (read.ExtendsLease j e lease low is) steps h = h
at-own p m reading q s k o u l (read.IsCovered j e low) steps h = h
at-own p m reading q s k o u l (read.SettlesOwn j e decided a none unsettled among) steps h = h

stamps-then : (q : FetchRequest) (e : Epoch) (decided : List AttemptId) (m : TargetMemory) → (read.memory_then q e decided m).stamps ≡ m.stamps
stamps-then q e decided m = by q.snapshot
  where
    by : (b : Bool) → (if b then m else with_ticks e m).stamps ≡ m.stamps
    by true = refl
    by false = refl

-- A Fetch that is right, whose attempt was issued these epochs: the one that it has, unless it reads at a snapshot, or the one that its
-- turn issues where it has none.
module _ (r : Rules) (issued : List (AttemptId × Epoch)) (t : ℕ) (p : TargetPlan) (m : TargetMemory) (reading : ℕ) (q : FetchRequest) (right : IsFetchRight r t q.attempt q.op q.group q.read q.snapshot)
    (own : q.snapshot ≡ false → (e : Epoch) → q.ep ≡ Some e → Contains issued (q.attempt, e)) where
  asks-there : (e : Epoch) (b : Answer) → Any (AsksAt (read_path q.read)) (attempt_ops r.script q.attempt)
  asks-there e b =
      let a : IsOfAttempt r (record { by = q.attempt; op = q.op; group = q.group; target = t; read = q.read; epoch = e; answer = b }) = right.asked e b in
      any-of (AsksAt (read_path q.read)) (attempt_ops r.script q.attempt) a.op (has-at (attempt_ops r.script q.attempt) a.at.0 a.op a.at.2) (question-asks a.stage a.op q.read a.asks)

  module _ (from : ActorId) (left : TargetMemory × Did) (new-issue : q.ep ≡ None → (i : AttemptId × Epoch) → left.1.issued ≡ Some i → Contains issued i) where
    dated : (e : Epoch) (b : Answer) → IsAtOwn q (read.Reading e []) → left.1.issued ≡ issued_for q.attempt q.ep e → q.snapshot ≡ false → Contains issued (q.attempt, e)
    dated e b at says plain = by q.ep refl
      where
        by : (ep : Option Epoch) → q.ep ≡ ep → Contains issued (q.attempt, e)
        by None none = new-issue none (q.attempt, e) (says ∙ ap (λ z. issued_for q.attempt z e) none)
        by (Some f) has = subst (λ z. Contains issued (q.attempt, z)) (at f has) (own plain f has)

    served-own : (e : Epoch) (b : Answer) → IsAtOwn q (read.Reading e []) → left.1.issued ≡ issued_for q.attempt q.ep e → AddsOwn r issued m.stamps (read.stamps_with q e m.stamps)
    served-own e b at says = by q.snapshot refl
      where
        one : Shown
        one = record { by = q.attempt; epoch = e; path = read_path q.read }

        by : (s : Bool) → q.snapshot ≡ s → AddsOwn r issued m.stamps (if s then m.stamps else m.stamps ++ one ∷ [])
        by true on z i = inl i
        by false off z i = among (has-cases m.stamps (one ∷ []) z (has-from_contains (m.stamps ++ one ∷ []) z i))
          where
            its : IsOwnStamp r issued one
            its = record { dated = dated e b at says off; asks = asks-there e b; unnamed = sym right.at ∙ off }

            among : Has z m.stamps ⊎ Has z (one ∷ []) → Contains m.stamps z ⊎ IsOwnStamp r issued z
            among (inl j) = inl (contains-from_has m.stamps z j)
            among (inr (inl same)) = inr (subst (IsOwnStamp r issued) (sym same) its)
            among (inr (inr none)) = absurd none

    ends-own : (s : read.FetchStage) (k : Kept) → read.FetchEnds p m reading q from s k left → IsAtOwn q s → AddsOwn r issued m.stamps left.0.stamps
    ends-own s k (read.IsSpent j z plain none is) at = own-same r issued m.stamps left.0.stamps (ap (λ x. x.0.stamps) is)
    ends-own s k (read.IsRefused j e decided c z why is) at = own-same r issued m.stamps left.0.stamps (ap (λ x. x.0.stamps) is ∙ stamps-then q e decided m)
    ends-own s k (read.MeetsUnresolved j e decided a z free unsettled unknown alone is) at = own-same r issued m.stamps left.0.stamps (ap (λ x. x.0.stamps) is ∙ stamps-then q e decided m)
    ends-own s k (read.IsParked j e decided a leader z free unsettled other is) at = own-same r issued m.stamps left.0.stamps (ap (λ x. x.0.stamps) is ∙ stamps-then q e decided m)
    ends-own s k (read.IsServed j e decided b z free served is) at = subst (AddsOwn r issued m.stamps) (sym (ap (λ x. x.0.stamps) is)) (served-own e b at (ap (λ x. x.1.issued) is))

    pub fetch-own : (old new : Kept) → Whole (read.FetchNext p m reading q) (read.FetchEnds p m reading q from) read.Asked old new left → AddsOwn r issued m.stamps left.0.stamps
    fetch-own old new w = ends-own w.last new w.ends (reached-keeps (read.FetchNext p m reading q) (λ s k. IsAtOwn q s) (at-own p m reading q) read.Asked old w.last new w.reached tt)

-- ---- a Verdict

module _ (r : Rules) (o : Opening) (w : World) (t : ℕ) (d : Durable) (is_due : AttemptId → Durable → Bool) (p : TargetPlan) (m : TargetMemory) (reading : ℕ) (a : AttemptId) (ask : Option AttemptId) (v : Verdict) (old : Kept)
    (waits : (z : Parked) → Has z m.member.parked → IsParkedRight r o w t d z.ask) where
  -- what is left to be tried is right, and so far only timestamps of such attempts were added
  record GoesOwn (asks : List Message) (n : TargetMemory) : Type 0 where
    asked : (z : Message) → Has z asks → IsParkedRight r o w t d z
    adds : AddsOwn r w.issued m.stamps n.stamps

  begins-own : GoesOwn (verdict_heard a ask v (member_at p m)).freed.again (joins_on (verdict_heard a ask v (member_at p m)).member m)
  begins-own = record { asked = freed-waited p m a (IsParkedRight r o w t d) waits v ask; adds = own-same r w.issued m.stamps m.stamps refl }

  -- each that is tried has an epoch, so none is issued
  goes-own : (q : FetchRequest) (rest : List Message) (n : TargetMemory) (k l : Kept) (left : TargetMemory × Did) → GoesOwn (fetch_message q ∷ rest) n → Tries p reading n q k l left → GoesOwn rest left.0
  goes-own q rest n k l left h tries = record { asked = λ z i. h.asked z (inr i); adds = own-then r w.issued m.stamps n.stamps left.0.stamps h.adds tried }
    where
      waited : IsWaitingRight r o w t d q.attempt q.op q.group q.ep q.read q.snapshot
      waited = h.asked (fetch_message q) (inl refl)

      tried : AddsOwn r w.issued n.stamps left.0.stamps
      tried =
          fetch-own r w.issued t p n reading q waited.right
          (λ plain e is. (subst (λ b. IsReadEpoch r o w d q.attempt (read_path q.read).cont q.ep b waited.epoch) plain waited.its).own e is)
          (verdict.fetcher q) left (λ none. let no : ⊥ = cc (none, waited.has) in absurd no) k l tries

  pub verdict-own : (new : Kept) (left : TargetMemory × Did) → Whole (verdict.VerdictNext is_due p m reading a ask v) verdict.VerdictEnds verdict.Heard old new left → AddsOwn r w.issued m.stamps left.0.stamps
  verdict-own new left whole =
      (verdict-keeps is_due p m reading a ask v old (λ asks n posts k. GoesOwn asks n) (λ k steps. begins-own) (λ q rest n posts k l z h tries. goes-own q rest n k l z h tries) new left whole).0.adds
