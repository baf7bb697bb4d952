-- Turns in which snapshots and aggregates are made are determined.
use Rattle.std.specs.Prelude.{ℕ, ◌≡◌, Bool, false, [], ◌∷◌, Option, Some, None, refl}
use Rattle.std.proofs.Common.{sym, ◌∙◌, ap, arith}
use Rattle.base_types.specs.declared.epoch.Epoch.{Epoch}
use Rattle.base_types.specs.declared.id.AttemptId.{AttemptId}
use Rattle.base_types.specs.declared.id.ContId.{ContId}
use Rattle.base_types.specs.declared.key.Key.{Key}
use Rattle.base_types.specs.declared.outcome.Outcome.{Outcome}
use Rattle.base_types.specs.declared.report.Line.TheVariants as line
use Rattle.base_messages.specs.declared.actor.ActorId.{ActorId}
use Rattle.base_messages.specs.declared.message.Message.TheVariants as message
use Rattle.daos_model.specs.declared.durable.Durable.{Durable}
use Rattle.daos_model.specs.BoolLaws.{clash}
use Rattle.daos_model.specs.Durables.{is_frozen}
use Rattle.world_base.specs.declared.did.Did.{Did}
use Rattle.world_base.specs.declared.target.Collection.{Collection}
use Rattle.world_base.specs.declared.target.TargetMemory.{TargetMemory}
use Rattle.world_base.specs.declared.target.TargetPlan.{TargetPlan}
use Rattle.world_base.specs.Changes.{Change, Creates, Extends, Kept, Prunes}
use Rattle.world_base.specs.Requests.{with_ticks}
use Rattle.world_base.specs.Snapshots as snap
use Rattle.world_base.specs.Snapshots.{follows, freeze_cause, is_held_by_all, is_last, is_prune_due, prune_limit, to_actor}
use Rattle.world_base.specs.Turns.{Whole}
use Rattle.world_determined.specs.Paths.{HasOneStep}
use Rattle.world_determined.specs.Settlings.{Always, always-on}
use Rattle.world_determined.specs.Wholes.{HasOneEnd, IsLast, OneTurn, whole-one}

-- ---- a freeze

module _ (p : TargetPlan) (m : TargetMemory) (reading : ℕ) (tracker : Epoch) (c : ContId) where
  pub freezes-one : (ep : Option Epoch) (alone : Bool) → HasOneStep (snap.FreezeNext p m reading tracker ep c alone) Always
  freezes-one ep alone _ k l _ _ _ _ fits same (snap.HasEpoch _ s is) (snap.HasEpoch _ s' is') = let one : s ≡ s' = cc in record { change = refl; stage = ap snap.FreezeStage.Known one }
  freezes-one ep alone _ k l _ _ _ _ fits same (snap.ExtendsLease _ s lease low is) (snap.ExtendsLease _ _ lease' low' is') =
      let one : lease ≡ lease' = cc in record { change = ap (λ x. Some (Extends x)) one; stage = refl }
  freezes-one ep alone _ k l _ _ _ _ fits same (snap.ExtendsLease _ s lease low is) (snap.IsCovered _ _ low') = let no : ⊥ = omega (arith, ap (λ d. d.lease) same) in absurd no
  freezes-one ep alone _ k l _ _ _ _ fits same (snap.IsCovered _ s low) (snap.ExtendsLease _ _ lease low' is) = let no : ⊥ = omega (arith, ap (λ d. d.lease) same) in absurd no
  freezes-one ep alone _ k l _ _ _ _ fits same (snap.IsCovered _ s low) (snap.IsCovered _ _ low') = record { change = refl; stage = refl }
  freezes-one ep alone _ k l _ _ _ _ fits same (snap.FreezesIt _ s none is) (snap.FreezesIt _ _ none' is') = record { change = refl; stage = refl }
  freezes-one ep alone _ k l _ _ _ _ fits same (snap.FreezesIt _ s none is) (snap.IsFrozen _ _ none' is') = clash (is_frozen l.durable c s) is' (sym (ap (λ d. is_frozen d c s) same) ∙ is)
  freezes-one ep alone _ k l _ _ _ _ fits same (snap.IsFrozen _ s none is) (snap.FreezesIt _ _ none' is') = clash (is_frozen l.durable c s) (sym (ap (λ d. is_frozen d c s) same) ∙ is) is'
  freezes-one ep alone _ k l _ _ _ _ fits same (snap.IsFrozen _ s none is) (snap.IsFrozen _ _ none' is') = record { change = refl; stage = refl }
  freezes-one ep alone _ k l _ _ _ _ fits same (snap.CreatesIt _ s lines is) (snap.CreatesIt _ _ _ is') = record { change = refl; stage = refl }

  module _ (x : AttemptId) (name : Key) (from : ActorId) where
    pub snaps-end : HasOneEnd (snap.FreezeNext p m reading tracker None c (is_held_by_all p 0)) (snap.SnapEnds p m reading tracker x c name from) Always
    snaps-end _ k l _ _ fits same (snap.IsSpent _ _ is left) (snap.IsSpent _ _ is' left') = left ∙ sym left'
    snaps-end _ k l _ _ fits same (snap.IsRefused _ s how _ is left) (snap.IsRefused _ _ how' _ is' left') =
        let one : how ≡ how' = cc in left ∙ ap (λ y. (with_ticks s m, follows (to_actor from (message.Ended x (Some s) y)) [] (Some (x, s)))) one ∙ sym left'
    snaps-end _ k l _ _ fits same (snap.AsksOthers _ s lines _ is left) (snap.AsksOthers _ _ _ _ is' left') = left ∙ sym left'
    snaps-end _ k l _ _ fits same (snap.IsAlone _ s lines _ left) (snap.IsAlone _ _ _ _ left') = left ∙ sym left'

    pub snaps-last : IsLast (snap.FreezeNext p m reading tracker None c (is_held_by_all p 0)) (snap.SnapEnds p m reading tracker x c name from) Always
    snaps-last _ k l _ _ _ fits same (snap.IsSpent _ _ is left) (snap.HasEpoch _ s' is') = let no : ⊥ = cc in absurd no
    snaps-last _ k l _ _ _ fits same (snap.IsRefused _ s how _ is left) (snap.FreezesIt _ _ none' is') = let no : ⊥ = cc (ap (freeze_cause p c s) same) in absurd no
    snaps-last _ k l _ _ _ fits same (snap.IsRefused _ s how _ is left) (snap.IsFrozen _ _ none' is') = let no : ⊥ = cc (ap (freeze_cause p c s) same) in absurd no
    snaps-last _ k l _ _ _ fits same (snap.AsksOthers _ s lines _ is left) (snap.CreatesIt _ _ _ is') = clash (is_held_by_all p 0) is' is
    snaps-last _ k l _ _ _ fits same (snap.IsAlone _ s lines _ left) next = elim next [ ]

    pub snaps_are_one :
        (old old' new new' : Kept) (left left' : TargetMemory × Did) → old.durable ≡ old'.durable
        → Whole (snap.FreezeNext p m reading tracker None c (is_held_by_all p 0)) (snap.SnapEnds p m reading tracker x c name from) snap.Asked old new left → Whole (snap.FreezeNext p m reading tracker None c (is_held_by_all p 0)) (snap.SnapEnds p m reading tracker x c name from) snap.Asked old' new' left' → OneTurn new new' left left'
    snaps_are_one old old' new new' left left' same w v = whole-one _ _ Always (freezes-one None (is_held_by_all p 0)) (always-on _) snaps-end snaps-last snap.Asked old old' new new' left left' tt same w v

  module _ (ep : Option Epoch) (x : AttemptId) (from : ActorId) where
    pub freezes-end : HasOneEnd (snap.FreezeNext p m reading tracker ep c false) (snap.FreezeEnds p m x c from) Always
    freezes-end _ k l _ _ fits same (snap.IsRefused _ s how _ is left) (snap.IsRefused _ _ how' _ is' left') =
        let one : how ≡ how' = cc in left ∙ ap (λ y. (with_ticks s m, follows (to_actor from (message.Held x (Some y))) [] None)) one ∙ sym left'
    freezes-end _ k l _ _ fits same (snap.IsHeld _ s lines _ left) (snap.IsHeld _ _ _ _ left') = left ∙ sym left'

    pub freezes-last : IsLast (snap.FreezeNext p m reading tracker ep c false) (snap.FreezeEnds p m x c from) Always
    freezes-last _ k l _ _ _ fits same (snap.IsRefused _ s how _ is left) (snap.FreezesIt _ _ none' is') = let no : ⊥ = cc (ap (freeze_cause p c s) same) in absurd no
    freezes-last _ k l _ _ _ fits same (snap.IsRefused _ s how _ is left) (snap.IsFrozen _ _ none' is') = let no : ⊥ = cc (ap (freeze_cause p c s) same) in absurd no
    freezes-last _ k l _ _ _ fits same (snap.IsHeld _ s lines _ left) (snap.CreatesIt _ _ _ is') = let no : ⊥ = cc in absurd no

    pub freezes_are_one :
        (old old' new new' : Kept) (left left' : TargetMemory × Did) → old.durable ≡ old'.durable
        → Whole (snap.FreezeNext p m reading tracker ep c false) (snap.FreezeEnds p m x c from) snap.Asked old new left → Whole (snap.FreezeNext p m reading tracker ep c false) (snap.FreezeEnds p m x c from) snap.Asked old' new' left' → OneTurn new new' left left'
    freezes_are_one old old' new new' left left' same w v = whole-one _ _ Always (freezes-one ep false) (always-on _) freezes-end freezes-last snap.Asked old old' new new' left left' tt same w v

-- ---- a prune

module _ (p : TargetPlan) (m : TargetMemory) (reading : ℕ) (tracker : Epoch) (c : ContId) (number : ℕ) where
  abbrev is_due : Epoch → Durable → Bool
  is_due g d = is_prune_due c g d

  abbrev prunes_to : Epoch → Durable → Option Change
  prunes_to g d = Some (Prunes c (prune_limit c g d) number)

  abbrev pruned_to : Epoch → Durable → snap.PruneStage
  pruned_to g d = snap.Pruned g (line.Aggregate number p.me c (prune_limit c g d) ∷ [])

  pub prunes-one : (ep : Option Epoch) → HasOneStep (snap.PruneNext p m reading tracker ep c number) Always
  prunes-one ep _ k l _ _ _ _ fits same (snap.HasEpoch _ g is) (snap.HasEpoch _ g' is') = let one : g ≡ g' = cc in record { change = refl; stage = ap snap.PruneStage.Known one }
  prunes-one ep _ k l _ _ _ _ fits same (snap.ExtendsLease _ g lease low is) (snap.ExtendsLease _ _ lease' low' is') =
      let one : lease ≡ lease' = cc in record { change = ap (λ x. Some (Extends x)) one; stage = refl }
  prunes-one ep _ k l _ _ _ _ fits same (snap.ExtendsLease _ g lease low is) (snap.IsCovered _ _ low') = let no : ⊥ = omega (arith, ap (λ d. d.lease) same) in absurd no
  prunes-one ep _ k l _ _ _ _ fits same (snap.IsCovered _ g low) (snap.ExtendsLease _ _ lease low' is) = let no : ⊥ = omega (arith, ap (λ d. d.lease) same) in absurd no
  prunes-one ep _ k l _ _ _ _ fits same (snap.IsCovered _ g low) (snap.IsCovered _ _ low') = record { change = refl; stage = refl }
  prunes-one ep _ k l _ _ _ _ fits same (snap.SettlesFirst _ g a rest) (snap.SettlesFirst _ _ _ _) = record { change = refl; stage = refl }
  prunes-one ep _ k l _ _ _ _ fits same (snap.PrunesIt _ g is) (snap.PrunesIt _ _ is') = record { change = ap (prunes_to g) same; stage = ap (pruned_to g) same }
  prunes-one ep _ k l _ _ _ _ fits same (snap.PrunesIt _ g is) (snap.PassesBy _ _ is') = clash (is_due g l.durable) (sym (ap (is_due g) same) ∙ is) is'
  prunes-one ep _ k l _ _ _ _ fits same (snap.PassesBy _ g is) (snap.PrunesIt _ _ is') = clash (is_due g l.durable) is' (sym (ap (is_due g) same) ∙ is)
  prunes-one ep _ k l _ _ _ _ fits same (snap.PassesBy _ g is) (snap.PassesBy _ _ is') = record { change = refl; stage = refl }

  module _ (x : AttemptId) (from : ActorId) where
    pub aggregates-end : HasOneEnd (snap.PruneNext p m reading tracker None c number) (snap.AggregateEnds p m reading tracker x c from) Always
    aggregates-end _ k l _ _ fits same (snap.IsSpent _ _ is left) (snap.IsSpent _ _ is' left') = left ∙ sym left'
    aggregates-end _ k l _ _ fits same (snap.AsksOthers _ g lines _ is left) (snap.AsksOthers _ _ _ _ is' left') = left ∙ sym left'
    aggregates-end _ k l _ _ fits same (snap.AsksOthers _ g lines _ is left) (snap.IsAlone _ _ _ _ is' left') = clash (is_held_by_all p 0) is' is
    aggregates-end _ k l _ _ fits same (snap.IsAlone _ g lines _ is left) (snap.AsksOthers _ _ _ _ is' left') = clash (is_held_by_all p 0) is is'
    aggregates-end _ k l _ _ fits same (snap.IsAlone _ g lines _ is left) (snap.IsAlone _ _ _ _ is' left') = left ∙ sym left'

    pub aggregates-last : IsLast (snap.PruneNext p m reading tracker None c number) (snap.AggregateEnds p m reading tracker x c from) Always
    aggregates-last _ k l _ _ _ fits same (snap.IsSpent _ _ is left) (snap.HasEpoch _ g' is') = let no : ⊥ = cc in absurd no
    aggregates-last _ k l _ _ _ fits same (snap.AsksOthers _ g lines _ is left) next = elim next [ ]
    aggregates-last _ k l _ _ _ fits same (snap.IsAlone _ g lines _ is left) next = elim next [ ]

    pub aggregates_are_one :
        (old old' new new' : Kept) (left left' : TargetMemory × Did) → old.durable ≡ old'.durable
        → Whole (snap.PruneNext p m reading tracker None c number) (snap.AggregateEnds p m reading tracker x c from) snap.Asked old new left → Whole (snap.PruneNext p m reading tracker None c number) (snap.AggregateEnds p m reading tracker x c from) snap.Asked old' new' left' → OneTurn new new' left left'
    aggregates_are_one old old' new new' left left' same w v = whole-one _ _ Always (prunes-one None) (always-on _) aggregates-end aggregates-last snap.Asked old old' new new' left left' tt same w v

    pub prunes-end : (ep : Option Epoch) → HasOneEnd (snap.PruneNext p m reading tracker ep c number) (snap.PruneEnds m x from) Always
    prunes-end ep _ k l _ _ fits same (snap.IsHeld _ g lines _ left) (snap.IsHeld _ _ _ _ left') = left ∙ sym left'

    pub prunes-last : (ep : Option Epoch) → IsLast (snap.PruneNext p m reading tracker ep c number) (snap.PruneEnds m x from) Always
    prunes-last ep _ k l _ _ _ fits same (snap.IsHeld _ g lines _ left) next = elim next [ ]

    pub prunes_are_one :
        (ep : Option Epoch) (old old' new new' : Kept) (left left' : TargetMemory × Did) → old.durable ≡ old'.durable
        → Whole (snap.PruneNext p m reading tracker ep c number) (snap.PruneEnds m x from) snap.Asked old new left → Whole (snap.PruneNext p m reading tracker ep c number) (snap.PruneEnds m x from) snap.Asked old' new' left' → OneTurn new new' left left'
    prunes_are_one ep old old' new new' left left' same w v = whole-one _ _ Always (prunes-one ep) (always-on _) (prunes-end ep) (prunes-last ep) snap.Asked old old' new new' left left' tt same w v

-- ---- a Held

module _ (p : TargetPlan) (m : TargetMemory) (from : ℕ) (x : AttemptId) (refusal : Option Outcome) where
  pub helds-one : HasOneStep (snap.HeldNext p m from x refusal) Always
  helds-one _ k l _ _ _ _ fits same (snap.CreatesIt _ c name none of named last) (snap.CreatesIt _ c' name' none' of' named' last') =
      let one : c ≡ c' = cc in
      let called : name ≡ name' = cc in
      record { change = ap (λ (y : Collection). Some (Creates y.cont y.epoch)) one; stage = ap (λ y. snap.IsMade y name) one ∙ ap (snap.IsMade c') called }
  helds-one _ k l _ _ _ _ fits same (snap.CreatesIt _ c name none of named last) (snap.Counts _ apart) = absurd (apart c name none of named last)
  helds-one _ k l _ _ _ _ fits same (snap.Counts _ apart) (snap.CreatesIt _ c name none of named last) = absurd (apart c name none of named last)
  helds-one _ k l _ _ _ _ fits same (snap.Counts _ apart) (snap.Counts _ apart') = record { change = refl; stage = refl }

  pub helds-end : HasOneEnd (snap.HeldNext p m from x refusal) (snap.HeldEnds p m from x refusal) Always
  helds-end _ k l _ _ fits same (snap.IsCounted _ _ left) (snap.IsCounted _ _ left') = left ∙ sym left'
  helds-end _ k l _ _ fits same (snap.IsCreated _ c name _ left) (snap.IsCreated _ _ _ _ left') = left ∙ sym left'

  pub helds-last : IsLast (snap.HeldNext p m from x refusal) (snap.HeldEnds p m from x refusal) Always
  helds-last _ k l _ _ _ fits same (snap.IsCounted _ _ left) next = elim next [ ]
  helds-last _ k l _ _ _ fits same (snap.IsCreated _ c name _ left) next = elim next [ ]

  pub helds_are_one :
      (old old' new new' : Kept) (left left' : TargetMemory × Did) → old.durable ≡ old'.durable
      → Whole (snap.HeldNext p m from x refusal) (snap.HeldEnds p m from x refusal) snap.Heard old new left → Whole (snap.HeldNext p m from x refusal) (snap.HeldEnds p m from x refusal) snap.Heard old' new' left' → OneTurn new new' left left'
  helds_are_one old old' new new' left left' same w v = whole-one _ _ Always helds-one (always-on _) helds-end helds-last snap.Heard old old' new new' left left' tt same w v
