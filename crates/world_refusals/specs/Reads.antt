-- A Fetch, and a Verdict that sets Fetches free: a read at a snapshot is refused by nothing that is kept, since the snapshot is frozen there.
use Rattle.std.specs.Prelude.{ℕ, ◌≡◌, ◌++◌, Bool, true, false, List, [], ◌∷◌, filter, map, Option, Some, None, refl}
use Rattle.std.proofs.Common.{sym, ◌∙◌, ap, subst, inl, inr}
use Rattle.base_types.specs.declared.entry.Verdict.{Verdict}
use Rattle.base_types.specs.declared.entry.Verdict.TheVariants as verdicts
use Rattle.base_types.specs.declared.epoch.Epoch.{Epoch}
use Rattle.base_types.specs.declared.id.AttemptId.{AttemptId}
use Rattle.base_types.specs.declared.outcome.Outcome.TheVariants as outcome
use Rattle.base_types.specs.declared.script.Script.{Script}
use Rattle.base_types.specs.Operations.{read_path}
use Rattle.base_messages.specs.declared.actor.ActorId.{ActorId}
use Rattle.base_messages.specs.declared.message.Message.{Message}
use Rattle.base_messages.specs.declared.message.Message.TheVariants as message
use Rattle.base_messages.specs.declared.message.Post.{Post}
use Rattle.daos_model.specs.declared.durable.Durable.{Durable}
use Rattle.daos_model.specs.Durables.{is_frozen}
use Rattle.dtx_base.specs.declared.member.Parked.{Parked}
use Rattle.dtx_base.specs.Joining.{all_unresolved_told, is_parked_on, is_waiting, parked_ask, unresolved, unresolved_told, verdict_heard}
use Rattle.model_laws.specs.Members.{Has, has-from_filter, has-from_map}
use Rattle.model_lone.specs.Refusals.{GoesWithCommand}
use Rattle.world_base.specs.declared.did.Did.{Did}
use Rattle.world_base.specs.declared.request.FetchRequest.{FetchRequest}
use Rattle.world_base.specs.declared.target.TargetMemory.{TargetMemory}
use Rattle.world_base.specs.declared.target.TargetPlan.{TargetPlan}
use Rattle.world_base.specs.ChangeLaws.{snaps-made}
use Rattle.world_base.specs.Changes.{Change, Kept, Steps}
use Rattle.world_base.specs.Events.{Rules}
use Rattle.world_base.specs.PathLaws.{reached-keeps, step-leaves, whole-leaves}
use Rattle.world_base.specs.Reads as read
use Rattle.world_base.specs.Requests.{fetch_message}
use Rattle.world_base.specs.Roles.{member_at}
use Rattle.world_base.specs.TargetTurns.{fetch_request}
use Rattle.world_base.specs.TurnLaws.{fetch-plain, verdict-plain}
use Rattle.world_base.specs.Turns.{Whole}
use Rattle.world_base.specs.VerdictLaws.{Tries, verdict-keeps}
use Rattle.world_base.specs.Verdicts as verdict
use Rattle.world_letters.specs.clients.Snapshots.{is_at_snapshot}
use Rattle.world_letters.specs.epochs.Epochs.{is_making}
use Rattle.world_refusals.specs.Commands.{plain-goes, unresolved-goes}
use Rattle.world_refusals.specs.Posts.{PostsFit, both-fit, none-fits, one-fits, single-fits}
use Rattle.world_upheld.specs.causing.SnapshotReads.{frozen-there, none-refuses}

-- ---- what is known of a Fetch

-- It is of a transaction, and at a snapshot just where its attempt reads at one; that is frozen in what is kept here.
pub record IsAskedFitly (r : Rules) (d : Durable) (q : FetchRequest) : Type 0 where
  pub at : q.snapshot ≡ is_at_snapshot r q.attempt
  pub unmade : is_making r q.attempt ≡ false
  pub frozen : q.snapshot ≡ true → (e : Epoch) → q.ep ≡ Some e → is_frozen d (read_path q.read).cont e ≡ true

-- what waits, or is tried again, is such a one
abbrev pub IsAskFit : Rules → Durable → Message → Type 0
IsAskFit r d (message.Fetch x op group ep first tracker q snapshot) = IsAskedFitly r d (fetch_request x op group ep first tracker q snapshot)
IsAskFit r d m = Unit {0}

abbrev pub AreAsksFit : Rules → Durable → List Message → Type 0
AreAsksFit r d asks = (m : Message) → Has m asks → IsAskFit r d m

-- ---- a read at a snapshot isn't refused

-- at a snapshot a Fetch is tried at the epoch that it bears
abbrev IsAtItsOwn : FetchRequest → read.FetchStage → Type 0
IsAtItsOwn q read.Asked = Unit {0}
IsAtItsOwn q (read.Known e) = q.snapshot ≡ true → ⊥
IsAtItsOwn q (read.Reading e decided) = q.snapshot ≡ true → q.ep ≡ Some e

at-its-own : (t : TargetPlan) (m : TargetMemory) (reading : ℕ) (q : FetchRequest) (s : read.FetchStage) (k : Kept) (o : Option Change) (u : read.FetchStage) (l : Kept)
    → read.FetchNext t m reading q s k o u → Steps o k l → IsAtItsOwn q s → IsAtItsOwn q u
at-its-own t m reading q s k o u l (read.AtSnapshot j e is ep) steps h = λ on. ep
at-its-own t m reading q s k o u l (read.HasEpoch j e plain is) steps h = λ on. let no : ⊥ = cc in no
at-its-own t m reading q s k o u l (read.ExtendsLease j e lease low is) steps h = h
at-its-own t m reading q s k o u l (read.IsCovered j e low) steps h = λ on. absurd (h on)
at-its-own t m reading q s k o u l (read.SettlesOwn j e decided a none unsettled among) steps h = h

-- ---- a Fetch

module _ (r : Rules) (t : TargetPlan) (m : TargetMemory) (reading : ℕ) (q : FetchRequest) (from : ActorId) (d : Durable) (A : IsAskedFitly r d q) where
  ends-fit : (s : read.FetchStage) (k : Kept) (left : TargetMemory × Did) → IsAtItsOwn q s → k.durable.snaps ≡ d.snaps → read.FetchEnds t m reading q from s k left → PostsFit r.script left.1.posts
  ends-fit s k left h same (read.IsSpent j z plain none is) = one-fits r.script z.1 _ (ap (λ o. o.1.posts) is) refl
  ends-fit s k left h same (read.IsRefused j e decided c z why is) = one-fits r.script z.1 _ (ap (λ o. o.1.posts) is) (by q.snapshot refl)
    where
      by : (b : Bool) → q.snapshot ≡ b → GoesWithCommand r.script q.attempt (outcome.Restart c)
      by true on = let none = none-refuses t q e j.durable on (frozen-there d j.durable q e same (A.frozen on e (h on))) in let no : ⊥ = cc (none, why) in absurd no
      by false off = plain-goes r q.attempt (outcome.Restart c) (sym A.at ∙ off) A.unmade
  ends-fit s k left h same (read.MeetsUnresolved j e decided a z free unsettled unknown alone is) = one-fits r.script z.1 _ (ap (λ o. o.1.posts) is) (unresolved-goes r.script q.attempt a)
  ends-fit s k left h same (read.IsParked j e decided a leader z free unsettled other is) = one-fits r.script z.1 _ (ap (λ o. o.1.posts) is) tt
  ends-fit s k left h same (read.IsServed j e decided b z free served is) = one-fits r.script z.1 _ (ap (λ o. o.1.posts) is) tt

  -- its turn, from what is kept where that is so
  pub fetch-fits : (old new : Kept) (left : TargetMemory × Did) → old.durable.snaps ≡ d.snaps → Whole (read.FetchNext t m reading q) (read.FetchEnds t m reading q from) read.Asked old new left → PostsFit r.script left.1.posts
  fetch-fits old new left same w =
      ends-fit w.last new left (reached-keeps (read.FetchNext t m reading q) (λ s k. IsAtItsOwn q s) (at-its-own t m reading q) read.Asked old w.last new w.reached tt)
      (whole-leaves (λ x. x.snaps) snaps-made (read.FetchNext t m reading q) (read.FetchEnds t m reading q from) read.Asked old new left (fetch-plain t m reading q) w ∙ same) w.ends

-- ---- what waits is told

-- that its attempt met one which isn't resolved
unresolved-fits : (s : Script) (a : AttemptId) (m : Message) → PostsFit s (unresolved_told a m)
unresolved-fits s a (message.Fetch x op group ep first tracker q snapshot) = single-fits s _ (unresolved-goes s x a)
unresolved-fits s a m = none-fits s

pub all-unresolved-fit : (s : Script) (a : AttemptId) (ps : List Parked) → PostsFit s (all_unresolved_told a ps)
all-unresolved-fit s a [] = none-fits s
all-unresolved-fit s a (p ∷ ps) = both-fit s (unresolved_told a p.ask) (all_unresolved_told a ps) (unresolved-fits s a p.ask) (all-unresolved-fit s a ps)

-- ---- a Verdict

module _ (r : Rules) (is_due : AttemptId → Durable → Bool) (t : TargetPlan) (m : TargetMemory) (reading : ℕ) (a : AttemptId) (ask : Option AttemptId) (v : Verdict) (old : Kept)
    (waits : (p : Parked) → Has p m.member.parked → IsAskFit r old.durable p.ask) where
  -- what is to be tried is asked fitly, what is to be sent tells fitly, and snapshots are as they were
  record GoesFitly (asks : List Message) (posts : List Post) (k : Kept) : Type 0 where
    asked : AreAsksFit r old.durable asks
    sent : PostsFit r.script posts
    snaps : k.durable.snaps ≡ old.durable.snaps

  freed-fits : (k : Kept) → k.durable.snaps ≡ old.durable.snaps → (v : Verdict) (ask : Option AttemptId) → GoesFitly (verdict_heard a ask v (member_at t m)).freed.again (verdict_heard a ask v (member_at t m)).freed.posts k
  unfolding unresolved
  freed-fits k same verdicts.Committed ask = record { asked = tried; sent = none-fits r.script; snaps = same }
    where
      tried : AreAsksFit r old.durable (map parked_ask (filter (is_parked_on a) m.member.parked))
      tried n i = let z = has-from_map parked_ask (filter (is_parked_on a) m.member.parked) n i in subst (IsAskFit r old.durable) z.2 (waits z.0 (has-from_filter (is_parked_on a) m.member.parked z.0 z.1).0)
  freed-fits k same verdicts.Aborted ask = record { asked = tried; sent = none-fits r.script; snaps = same }
    where
      tried : AreAsksFit r old.durable (map parked_ask (filter (is_parked_on a) m.member.parked))
      tried n i = let z = has-from_map parked_ask (filter (is_parked_on a) m.member.parked) n i in subst (IsAskFit r old.durable) z.2 (waits z.0 (has-from_filter (is_parked_on a) m.member.parked z.0 z.1).0)
  freed-fits k same verdicts.Undecided (Some x) = record { asked = λ n i. absurd i; sent = all-unresolved-fit r.script a (filter (is_waiting a x) m.member.parked); snaps = same }
  freed-fits k same verdicts.Undecided None = record { asked = λ n i. absurd i; sent = none-fits r.script; snaps = same }

  begins-fitly : (k : Kept) → Steps (verdict.settling_change a (verdict.settles_by is_due v a old.durable)) old k → GoesFitly (verdict_heard a ask v (member_at t m)).freed.again (verdict_heard a ask v (member_at t m)).freed.posts k
  begins-fitly k steps =
      freed-fits k (step-leaves (λ x. x.snaps) snaps-made (verdict.settling_change a (verdict.settles_by is_due v a old.durable)) old k
      (verdict-plain is_due t m reading a ask v verdict.Heard old (verdict.settling_change a (verdict.settles_by is_due v a old.durable)) _ (verdict.SettlesBy old (verdict.settling_change a (verdict.settles_by is_due v a old.durable)) refl)) steps) v ask

  goes-fitly : (q : FetchRequest) (rest : List Message) (n : TargetMemory) (posts : List Post) (k l : Kept) (left : TargetMemory × Did) → GoesFitly (fetch_message q ∷ rest) posts k → Tries t reading n q k l left → GoesFitly rest (posts ++ left.1.posts) l
  goes-fitly q rest n posts k l left h w = record {
    asked = λ z i. h.asked z (inr i);
    sent = both-fit r.script posts left.1.posts h.sent (fetch-fits r t n reading q (verdict.fetcher q) old.durable (h.asked (fetch_message q) (inl refl)) k l left h.snaps w);
    snaps = whole-leaves (λ x. x.snaps) snaps-made (read.FetchNext t n reading q) (read.FetchEnds t n reading q (verdict.fetcher q)) read.Asked k l left (fetch-plain t n reading q) w ∙ h.snaps;
  }

  pub verdict-fits : (new : Kept) (left : TargetMemory × Did) → Whole (verdict.VerdictNext is_due t m reading a ask v) verdict.VerdictEnds verdict.Heard old new left → PostsFit r.script left.1.posts
  verdict-fits new left w = (verdict-keeps is_due t m reading a ask v old (λ asks n posts k. GoesFitly asks posts k) begins-fitly goes-fitly new left w).0.sent
