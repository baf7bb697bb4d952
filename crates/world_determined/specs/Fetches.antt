-- A Fetch's turn is determined, where no other target leads what its target decided.
use Rattle.std.specs.Prelude.{ℕ, ◌≡◌, List, filter, Some, None, Contains, refl}
use Rattle.std.proofs.Common.{sym, ◌∙◌, ap, subst, arith}
use Rattle.base_types.specs.declared.epoch.Epoch.{Epoch}
use Rattle.base_types.specs.declared.id.AttemptId.{AttemptId}
use Rattle.base_types.specs.declared.entry.Settle.TheVariants.{Commit}
use Rattle.base_types.specs.declared.outcome.Cause.TheVariants as cause
use Rattle.base_types.specs.declared.outcome.Outcome.TheVariants as outcome
use Rattle.base_messages.specs.declared.actor.ActorId.{ActorId}
use Rattle.base_messages.specs.declared.message.Reply.TheVariants as reply
use Rattle.daos_model.specs.declared.durable.Durable.{Durable}
use Rattle.daos_model.specs.BoolLaws.{clash}
use Rattle.model_laws.specs.Members.{contains-from_has, has-from_contains, has-from_filter}
use Rattle.world_base.specs.declared.did.Did.{Did}
use Rattle.world_base.specs.declared.request.FetchRequest.{FetchRequest}
use Rattle.world_base.specs.declared.target.TargetMemory.{TargetMemory}
use Rattle.world_base.specs.declared.target.TargetPlan.{TargetPlan}
use Rattle.world_base.specs.Changes.{Extends, Kept, Settles, Steps}
use Rattle.world_base.specs.EntryLaws.{leader-committed, leader-leased}
use Rattle.world_base.specs.Reads.{Asked, AtSnapshot, ExtendsLease, FetchEnds, FetchNext, FetchStage, HasEpoch, IsCovered, IsParked, IsRefused, IsServed, IsSpent, Known, MeetsUnresolved, Reading, SettlesOwn, asks_leader, memory_parked, memory_then, stamps_with, tells}
use Rattle.world_base.specs.Requests.{is_other_attempt}
use Rattle.world_base.specs.Roles.{other_leader}
use Rattle.world_base.specs.Turns.{Whole}
use Rattle.world_determined.specs.Paths.{FitsOn, HasOneStep}
use Rattle.world_determined.specs.Wholes.{HasOneEnd, IsLast, OneTurn, whole-one}

-- no other target leads one of these attempts
abbrev pub NoneLedElsewhere : TargetPlan → List AttemptId → Durable → Type 0
NoneLedElsewhere t decided d = (a : AttemptId) → Contains decided a → other_leader t a d ≡ None

module _ (t : TargetPlan) (m : TargetMemory) where
  -- nor one that this target decided and hasn't settled
  abbrev pub ReadFits : FetchStage → Durable → Type 0
  ReadFits Asked d = NoneLedElsewhere t m.leader.decided d
  ReadFits (Known e) d = NoneLedElsewhere t m.leader.decided d
  ReadFits (Reading e decided) d = NoneLedElsewhere t decided d

  led-leased : (decided : List AttemptId) (lease : ℕ) (k l : Kept) → Steps (Some (Extends lease)) k l → NoneLedElsewhere t decided k.durable → NoneLedElsewhere t decided l.durable
  led-leased decided lease k l steps led a among = ap (other_leader t a) steps.0 ∙ leader-leased t lease a k.durable ∙ led a among

  pub led-same : (decided : List AttemptId) (k l : Kept) → l ≡ k → NoneLedElsewhere t decided k.durable → NoneLedElsewhere t decided l.durable
  led-same decided k l same led a among = ap (λ x. other_leader t a x.durable) same ∙ led a among

  led-settled : (decided : List AttemptId) (a : AttemptId) (k l : Kept) → Steps (Some (Settles a Commit)) k l → NoneLedElsewhere t decided k.durable → NoneLedElsewhere t (filter (is_other_attempt a) decided) l.durable
  led-settled decided a k l steps led b among =
      ap (other_leader t b) steps.0 ∙ leader-committed t a b k.durable
      ∙ led b (contains-from_has decided b (has-from_filter (is_other_attempt a) decided b (has-from_contains (filter (is_other_attempt a) decided) b among)).0)

  module _ (reading : ℕ) (q : FetchRequest) where
    pub fetches-on : FitsOn (FetchNext t m reading q) ReadFits
    fetches-on _ k _ _ l (AtSnapshot _ e at is) steps fits = led-same m.leader.decided k l steps fits
    fetches-on _ k _ _ l (HasEpoch _ e at is) steps fits = led-same m.leader.decided k l steps fits
    fetches-on _ k _ _ l (ExtendsLease _ e lease low is) steps fits = led-leased m.leader.decided lease k l steps fits
    fetches-on _ k _ _ l (IsCovered _ e low) steps fits = led-same m.leader.decided k l steps fits
    fetches-on _ k _ _ l (SettlesOwn _ e decided a none unsettled among) steps fits = led-settled decided a k l steps fits

    pub fetches-one : HasOneStep (FetchNext t m reading q) ReadFits
    fetches-one _ k l _ _ _ _ fits same (AtSnapshot _ e at is) (AtSnapshot _ e' at' is') = let one : e ≡ e' = cc in record { change = refl; stage = ap (λ x. Reading x m.leader.decided) one }
    fetches-one _ k l _ _ _ _ fits same (AtSnapshot _ e at is) (HasEpoch _ e' at' is') = clash q.snapshot at at'
    fetches-one _ k l _ _ _ _ fits same (HasEpoch _ e at is) (AtSnapshot _ e' at' is') = clash q.snapshot at' at
    fetches-one _ k l _ _ _ _ fits same (HasEpoch _ e at is) (HasEpoch _ e' at' is') = let one : e ≡ e' = cc in record { change = refl; stage = ap Known one }
    fetches-one _ k l _ _ _ _ fits same (ExtendsLease _ e lease low is) (ExtendsLease _ _ lease' low' is') =
        let one : lease ≡ lease' = cc in record { change = ap (λ x. Some (Extends x)) one; stage = refl }
    fetches-one _ k l _ _ _ _ fits same (ExtendsLease _ e lease low is) (IsCovered _ _ low') = let no : ⊥ = omega (arith, ap (λ d. d.lease) same) in absurd no
    fetches-one _ k l _ _ _ _ fits same (IsCovered _ e low) (ExtendsLease _ _ lease low' is) = let no : ⊥ = omega (arith, ap (λ d. d.lease) same) in absurd no
    fetches-one _ k l _ _ _ _ fits same (IsCovered _ e low) (IsCovered _ _ low') = record { change = refl; stage = refl }
    fetches-one _ k l _ _ _ _ fits same (SettlesOwn _ e decided a none unsettled among) (SettlesOwn _ _ _ a' none' unsettled' among') =
        let one : a ≡ a' = cc in record { change = ap (λ x. Some (Settles x Commit)) one; stage = ap (λ x. Reading e (filter (is_other_attempt x) decided)) one }

    parked-same :
        (e : Epoch) (decided : List AttemptId) (a a' : AttemptId) (leader leader' : ℕ) → a ≡ a' → leader ≡ leader'
        → ◌≡◌ {A = TargetMemory × Did} (memory_parked t q e decided a leader m, asks_leader q e a leader) (memory_parked t q e decided a' leader' m, asks_leader q e a' leader')
    parked-same e decided a a' leader leader' one leads = rw (one, leads) refl

    module _ (from : ActorId) where
      pub fetches-end : HasOneEnd (FetchNext t m reading q) (FetchEnds t m reading q from) ReadFits
      fetches-end _ k l _ _ fits same (IsSpent _ _ at is left) (IsSpent _ _ at' is' left') = left ∙ sym left'
      fetches-end _ k l _ _ fits same (IsRefused _ e decided c _ is left) (IsRefused _ _ _ c' _ is' left') =
          let one : c ≡ c' = cc in left ∙ ap (λ x. (memory_then q e decided m, tells q from e (reply.Outcome (outcome.Restart x)))) one ∙ sym left'
      fetches-end _ k l _ _ fits same (IsRefused _ e decided c _ is left) (MeetsUnresolved _ _ _ a' _ none' met' apart' other' left') = let no : ⊥ = cc in absurd no
      fetches-end _ k l _ _ fits same (IsRefused _ e decided c _ is left) (IsParked _ _ _ a' leader' _ none' met' other' left') = let no : ⊥ = cc in absurd no
      fetches-end _ k l _ _ fits same (IsRefused _ e decided c _ is left) (IsServed _ _ _ b' _ none' got' left') = let no : ⊥ = cc in absurd no
      fetches-end _ k l _ _ fits same (MeetsUnresolved _ e decided a _ none met apart other left) (IsRefused _ _ _ c' _ is' left') = let no : ⊥ = cc in absurd no
      fetches-end _ k l _ _ fits same (MeetsUnresolved _ e decided a _ none met apart other left) (MeetsUnresolved _ _ _ a' _ none' met' apart' other' left') =
          let one : a ≡ a' = cc in left ∙ ap (λ x. (memory_then q e decided m, tells q from e (reply.Outcome (outcome.Restart (cause.Unresolved x))))) one ∙ sym left'
      fetches-end _ k l _ _ fits same (MeetsUnresolved _ e decided a _ none met apart other left) (IsParked _ _ _ a' leader' _ none' met' other' left') = let no : ⊥ = cc in absurd no
      fetches-end _ k l _ _ fits same (MeetsUnresolved _ e decided a _ none met apart other left) (IsServed _ _ _ b' _ none' got' left') = let no : ⊥ = cc in absurd no
      fetches-end _ k l _ _ fits same (IsParked _ e decided a leader _ none met other left) (IsRefused _ _ _ c' _ is' left') = let no : ⊥ = cc in absurd no
      fetches-end _ k l _ _ fits same (IsParked _ e decided a leader _ none met other left) (MeetsUnresolved _ _ _ a' _ none' met' apart' other' left') = let no : ⊥ = cc in absurd no
      fetches-end _ k l _ _ fits same (IsParked _ e decided a leader _ none met other left) (IsParked _ _ _ a' leader' _ none' met' other' left') =
          left ∙ parked-same e decided a a' leader leader' (cc) (cc) ∙ sym left'
      fetches-end _ k l _ _ fits same (IsParked _ e decided a leader _ none met other left) (IsServed _ _ _ b' _ none' got' left') = let no : ⊥ = cc in absurd no
      fetches-end _ k l _ _ fits same (IsServed _ e decided b _ none got left) (IsRefused _ _ _ c' _ is' left') = let no : ⊥ = cc in absurd no
      fetches-end _ k l _ _ fits same (IsServed _ e decided b _ none got left) (MeetsUnresolved _ _ _ a' _ none' met' apart' other' left') = let no : ⊥ = cc in absurd no
      fetches-end _ k l _ _ fits same (IsServed _ e decided b _ none got left) (IsParked _ _ _ a' leader' _ none' met' other' left') = let no : ⊥ = cc in absurd no
      fetches-end _ k l _ _ fits same (IsServed _ e decided b _ none got left) (IsServed _ _ _ b' _ none' got' left') =
          let one : b ≡ b' = cc in left ∙ ap (λ x. (record (memory_then q e decided m) { stamps = stamps_with q e m.stamps }, tells q from e (reply.Answer x))) one ∙ sym left'

      pub fetches-last : IsLast (FetchNext t m reading q) (FetchEnds t m reading q from) ReadFits
      fetches-last _ k l _ _ _ fits same (IsSpent _ _ at is left) (AtSnapshot _ e' at' is') = clash q.snapshot at' at
      fetches-last _ k l _ _ _ fits same (IsSpent _ _ at is left) (HasEpoch _ e' at' is') = let no : ⊥ = cc in absurd no
      fetches-last _ k l _ _ _ fits same (IsRefused _ e decided c _ is left) (SettlesOwn _ _ _ a' none' unsettled' among') = let no : ⊥ = cc in absurd no
      fetches-last _ k l _ _ _ fits same (MeetsUnresolved _ e decided a _ none met apart other left) (SettlesOwn _ _ _ a' none' unsettled' among') =
          let one : a' ≡ a = cc in absurd (apart (subst (Contains decided) one among'))
      fetches-last _ k l _ _ _ fits same (IsParked _ e decided a leader _ none met other left) (SettlesOwn _ _ _ a' none' unsettled' among') =
          let here : other_leader t a' k.durable ≡ None = fits a' among' in let no : ⊥ = cc in absurd no
      fetches-last _ k l _ _ _ fits same (IsServed _ e decided b _ none got left) (SettlesOwn _ _ _ a' none' unsettled' among') = let no : ⊥ = cc in absurd no

      pub fetches_are_one :
          (old old' new new' : Kept) (left left' : TargetMemory × Did) → NoneLedElsewhere t m.leader.decided old.durable → old.durable ≡ old'.durable
          → Whole (FetchNext t m reading q) (FetchEnds t m reading q from) Asked old new left → Whole (FetchNext t m reading q) (FetchEnds t m reading q from) Asked old' new' left' → OneTurn new new' left left'
      fetches_are_one old old' new new' left left' led same w v = whole-one _ _ ReadFits fetches-one fetches-on fetches-end fetches-last Asked old old' new new' left left' led same w v
