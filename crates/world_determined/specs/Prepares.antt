-- A Prepare's turn is determined, but for the later read that is shown and for free blocks.
use Rattle.std.specs.Prelude.{ℕ, ◌≡◌, Bool, true, false, List, [], ◌∷◌, Option, Some, refl}
use Rattle.std.proofs.Common.{sym, ◌∙◌, ap, arith}
use Rattle.base_types.specs.declared.epoch.Epoch.{Epoch}
use Rattle.base_types.specs.declared.outcome.Cause.{Cause}
use Rattle.base_types.specs.declared.outcome.FloorWhy.{FloorWhy}
use Rattle.base_types.specs.declared.outcome.Outcome.{Outcome}
use Rattle.base_types.specs.declared.outcome.Outcome.TheVariants as outcome
use Rattle.daos_model.specs.Blocks.{blocks}
use Rattle.daos_model.specs.declared.durable.Durable.{Durable}
use Rattle.world_base.specs.declared.did.Did.{Did}
use Rattle.world_base.specs.declared.request.PrepareRequest.{PrepareRequest}
use Rattle.world_base.specs.declared.target.TargetMemory.{TargetMemory}
use Rattle.world_base.specs.declared.target.TargetPlan.{TargetPlan}
use Rattle.world_base.specs.Changes.{Change, Extends, Kept, Steps}
use Rattle.world_base.specs.Commits.{IsAllowed, IsRefusedBy}
use Rattle.world_base.specs.PathLaws.{reached-keeps}
use Rattle.world_base.specs.Prepares as prepare
use Rattle.world_base.specs.Requests.{with_ticks}
use Rattle.world_base.specs.Turns.{Whole}
use Rattle.world_determined.specs.Checks.{allowed-told, read_told, refusals-apart, refused-one, some-told, spaces-one}
use Rattle.world_determined.specs.Open.{Look, open_told, seen_cause, seen_did, seen_left}
use Rattle.world_determined.specs.Paths.{HasOneStep}
use Rattle.world_determined.specs.Settlings.{Always, always-on}
use Rattle.world_determined.specs.Wholes.{OneTurn, whole-one_as}

-- the writes are stored
abbrev is_stored : prepare.PrepareStage → Bool
is_stored prepare.Heard = false
is_stored prepare.Checking = false
is_stored prepare.Stored = true

module _ (t : TargetPlan) (opening : Epoch × FloorWhy) (m : TargetMemory) (q : PrepareRequest) where
  pub prepares-one : HasOneStep (prepare.PrepareNext t opening m q) Always
  prepares-one _ k l _ _ _ _ fits same (prepare.ExtendsLease _ lease low is) (prepare.ExtendsLease _ lease' low' is') =
      let one : lease ≡ lease' = cc in record { change = ap (λ x. Some (Extends x)) one; stage = refl }
  prepares-one _ k l _ _ _ _ fits same (prepare.ExtendsLease _ lease low is) (prepare.IsCovered _ low') = let no : ⊥ = omega (arith, ap (λ d. d.lease) same) in absurd no
  prepares-one _ k l _ _ _ _ fits same (prepare.IsCovered _ low) (prepare.ExtendsLease _ lease low' is) = let no : ⊥ = omega (arith, ap (λ d. d.lease) same) in absurd no
  prepares-one _ k l _ _ _ _ fits same (prepare.IsCovered _ low) (prepare.IsCovered _ low') = record { change = refl; stage = refl }
  prepares-one _ k l _ _ _ _ fits same (prepare.Stores _ allowed space) (prepare.Stores _ allowed' space') = record { change = refl; stage = refl }

  acked-on : (s : prepare.PrepareStage) (k : Kept) (o : Option Change) (u : prepare.PrepareStage) (l : Kept) → prepare.PrepareNext t opening m q s k o u → Steps o k l → is_stored s ≡ true → is_stored u ≡ true
  acked-on _ k _ _ l (prepare.ExtendsLease _ lease low is) steps stored = stored
  acked-on _ k _ _ l (prepare.IsCovered _ low) steps stored = let no : ⊥ = cc in absurd no
  acked-on _ k _ _ l (prepare.Stores _ allowed space) steps stored = refl

  module _ (look : Look) where
    -- what is told of what is open, by this look
    abbrev tells : TargetMemory × Did → List Outcome
    tells left = open_told (seen_did look left.1)

    acked-ends : (s : prepare.PrepareStage) (k : Kept) (left : TargetMemory × Did) → prepare.PrepareEnds t opening m q s k left → is_stored s ≡ true → tells left ≡ []
    acked-ends _ k _ (prepare.IsRefused _ c left is same) stored = let no : ⊥ = cc in absurd no
    acked-ends _ k _ (prepare.HasNoSpace _ left allowed space same) stored = let no : ⊥ = cc in absurd no
    acked-ends _ k _ (prepare.IsPrepared _ left same) stored = ap tells same

    acked-closed : (k new : Kept) (left : TargetMemory × Did) → Whole (prepare.PrepareNext t opening m q) (prepare.PrepareEnds t opening m q) prepare.Stored k new left → tells left ≡ []
    acked-closed k new left w = acked-ends w.last new left w.ends (reached-keeps (prepare.PrepareNext t opening m q) (λ s k. is_stored s ≡ true) acked-on prepare.Stored k w.last new w.reached refl)

    cause-acked : (c : Cause) (left : TargetMemory × Did) → left ≡ (with_ticks q.entry.epoch m, prepare.acks q (Some (outcome.Restart c))) → tells left ≡ read_told (seen_cause look c)
    cause-acked c left same = ap tells same

    space-acked : (free : ℕ) (left : TargetMemory × Did) → left ≡ (with_ticks q.entry.epoch m, prepare.acks q (Some (outcome.NoSpace t.me (blocks q.writes) free)))
        → tells left ≡ outcome.NoSpace t.me (blocks q.writes) (look.free free) ∷ []
    space-acked free left same = ap tells same

    cause-shown : (d d' : Durable) (c : Cause) → d ≡ d' → IsRefusedBy t opening q.first q.entry.epoch d m.stamps q.writes c → IsAllowed t opening q.first q.entry.epoch d' m.stamps q.writes
        → read_told (seen_cause look c) ≡ outcome.Restart (seen_cause look c) ∷ []
    cause-shown d d' c same is allowed = allowed-told look t opening q.first q.entry.epoch m.stamps q.writes d d' c same is allowed

    -- what a Prepare's turn ends with at a stage is one, where the same is told of what is open
    prepares-end : (s : prepare.PrepareStage) (k l : Kept) (left left' : TargetMemory × Did) → k.durable ≡ l.durable → tells left ≡ tells left' → prepare.PrepareEnds t opening m q s k left → prepare.PrepareEnds t opening m q s l left'
        → seen_left look left ≡ seen_left look left'
    prepares-end _ k l x y same told (prepare.IsRefused _ c _ is left) (prepare.IsRefused _ c' _ is' left') =
        let one : seen_cause look c ≡ seen_cause look c' =
        refused-one look t opening q.first q.entry.epoch m.stamps q.writes k.durable l.durable c c' same (sym (cause-acked c x left) ∙ told ∙ cause-acked c' y left') is is' in
        ap (seen_left look) left ∙ ap (λ z. (with_ticks q.entry.epoch m, prepare.acks q (Some (outcome.Restart z)))) one ∙ sym (ap (seen_left look) left')
    prepares-end _ k l x y same told (prepare.IsRefused _ c _ is left) (prepare.HasNoSpace _ _ allowed space left') =
        absurd (refusals-apart (seen_cause look c) t.me (blocks q.writes) (look.free l.free) (sym (cause-shown k.durable l.durable c same is allowed) ∙ sym (cause-acked c x left) ∙ told ∙ space-acked l.free y left'))
    prepares-end _ k l x y same told (prepare.HasNoSpace _ _ allowed space left) (prepare.IsRefused _ c' _ is' left') =
        absurd (refusals-apart (seen_cause look c') t.me (blocks q.writes) (look.free k.free) (sym (cause-shown l.durable k.durable c' (sym same) is' allowed) ∙ sym (cause-acked c' y left') ∙ sym told ∙ space-acked k.free x left))
    prepares-end _ k l x y same told (prepare.HasNoSpace _ _ allowed space left) (prepare.HasNoSpace _ _ allowed' space' left') =
        let one : look.free k.free ≡ look.free l.free = spaces-one t.me (blocks q.writes) (look.free k.free) (look.free l.free) (sym (space-acked k.free x left) ∙ told ∙ space-acked l.free y left') in
        ap (seen_left look) left ∙ ap (λ z. (with_ticks q.entry.epoch m, prepare.acks q (Some (outcome.NoSpace t.me (blocks q.writes) z)))) one ∙ sym (ap (seen_left look) left')
    prepares-end _ k l _ _ same told (prepare.IsPrepared _ _ left) (prepare.IsPrepared _ _ left') = ap (seen_left look) (left ∙ sym left')

    -- where a Prepare's turn ends while another one goes on, the two don't tell the same of what is open
    prepares-last : (s : prepare.PrepareStage) (k l new : Kept) (left left' : TargetMemory × Did) (o : Option Change) (u : prepare.PrepareStage) (j : Kept) → k.durable ≡ l.durable → tells left ≡ tells left'
        → prepare.PrepareEnds t opening m q s k left → prepare.PrepareNext t opening m q s l o u → Whole (prepare.PrepareNext t opening m q) (prepare.PrepareEnds t opening m q) u j new left' → ⊥
    prepares-last _ k l new x y _ _ j same told (prepare.IsRefused _ c _ is left) (prepare.Stores _ allowed space) rest =
        some-told (outcome.Restart (seen_cause look c)) (sym (cause-shown k.durable l.durable c same is allowed) ∙ sym (cause-acked c x left) ∙ told ∙ acked-closed j new y rest)
    prepares-last _ k l new x y _ _ j same told (prepare.HasNoSpace _ _ allowed space left) (prepare.Stores _ allowed' space') rest =
        some-told (outcome.NoSpace t.me (blocks q.writes) (look.free k.free)) (sym (space-acked k.free x left) ∙ told ∙ acked-closed j new y rest)
    prepares-last _ k l new x y _ _ j same told (prepare.IsPrepared _ _ left) next rest = elim next [ ]

    -- a Prepare's turn is determined by what it tells of what is open, as far as that is looked at
    pub prepares_are_one :
        (old old' new new' : Kept) (left left' : TargetMemory × Did) → old.durable ≡ old'.durable → tells left ≡ tells left'
        → Whole (prepare.PrepareNext t opening m q) (prepare.PrepareEnds t opening m q) prepare.Heard old new left → Whole (prepare.PrepareNext t opening m q) (prepare.PrepareEnds t opening m q) prepare.Heard old' new' left'
        → OneTurn new new' (seen_left look left) (seen_left look left')
    prepares_are_one old old' new new' left left' same told w v =
        whole-one_as (prepare.PrepareNext t opening m q) (prepare.PrepareEnds t opening m q) Always tells (seen_left look) prepares-one (always-on _)
        (λ s k l x y fits so tells ends ends'. prepares-end s k l x y so tells ends ends')
        (λ s k l n x y o u j fits so tells ends next rest. prepares-last s k l n x y o u j so tells ends next rest) prepare.Heard old old' new new' left left' tt same told w v
