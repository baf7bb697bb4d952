-- A Commit's turn is determined, but for the later read that is shown and for free blocks.
use Rattle.std.specs.Prelude.{ℕ, ◌≡◌, Bool, true, false, List, [], ◌∷◌, map, Option, Some, if◌then◌else◌, refl}
use Rattle.std.proofs.Common.{sym, ◌∙◌, ap, arith}
use Rattle.base_types.specs.declared.entry.Entry.{Entry}
use Rattle.base_types.specs.declared.epoch.Epoch.{Epoch}
use Rattle.base_types.specs.declared.operation.MinorWrite.{MinorWrite}
use Rattle.base_types.specs.declared.outcome.Cause.{Cause}
use Rattle.base_types.specs.declared.outcome.FloorWhy.{FloorWhy}
use Rattle.base_types.specs.declared.outcome.Outcome.{Outcome}
use Rattle.base_types.specs.declared.outcome.Outcome.TheVariants as outcome
use Rattle.base_messages.specs.declared.actor.ActorId.{ActorId}
use Rattle.daos_model.specs.Blocks.{blocks}
use Rattle.dtx_base.specs.Leading.{LeaderOf, begun, begun_alone, begun_with_others, prepare_to}
use Rattle.dtx_base.specs.Members.{other_members}
use Rattle.dtx_base.specs.Rows.{is_empty}
use Rattle.world_base.specs.declared.did.Did.{Did}
use Rattle.world_base.specs.declared.request.CommitRequest.{CommitRequest}
use Rattle.world_base.specs.declared.target.TargetMemory.{TargetMemory}
use Rattle.world_base.specs.declared.target.TargetPlan.{TargetPlan}
use Rattle.world_base.specs.Changes.{Change, Extends, Kept, Steps}
use Rattle.world_base.specs.Commits.{begins_at, ends_at, led_entry, own_writes}
use Rattle.world_base.specs.Commits as commit
use Rattle.world_base.specs.CutTurns.{is_stored}
use Rattle.world_base.specs.Further.{CommitDown}
use Rattle.world_base.specs.Further as down
use Rattle.world_base.specs.PathLaws.{reached-keeps}
use Rattle.world_base.specs.Requests.{issued_for, sends, with_ticks}
use Rattle.world_base.specs.Roles.{leader_at, leads_on}
use Rattle.world_base.specs.Turns.{Whole}
use Rattle.world_determined.specs.Checks.{allowed-told, read_told, refusals-apart, refused-one, some-told, spaces-one}
use Rattle.world_determined.specs.Open.{Look, open_in, open_told, seen_cause, seen_did, seen_left, seen_post}
use Rattle.world_determined.specs.Paths.{HasOneStep}
use Rattle.world_determined.specs.Settlings.{Always, always-on}
use Rattle.world_determined.specs.Wholes.{OneTurn, whole-one_as}

-- ---- what is told where an attempt begins

-- what is told where an attempt begins isn't open
module _ (look : Look) where
  prepares-closed : (targets inc : ℕ) (e : Entry) (first : Option Epoch) (ws : List MinorWrite) (ts : List ℕ) → open_in (map (seen_post look) (map (prepare_to targets inc e first ws) ts)) ≡ []
  prepares-closed targets inc e first ws [] = refl
  prepares-closed targets inc e first ws (t ∷ ts) = prepares-closed targets inc e first ws ts

  begun-closed : (e : Entry) (first : Option Epoch) (client : ActorId) (ws : List MinorWrite) (l : LeaderOf) → open_in (map (seen_post look) (begun e first client ws l).posts) ≡ []
  unfolding begun
  begun-closed e first client ws l = by (is_empty (other_members e))
    where
      by : (b : Bool) → open_in (map (seen_post look) (if b then begun_alone e client l else begun_with_others e first client ws l).posts) ≡ []
      by true = refl
      by false = prepares-closed l.targets l.incarnation e first ws (other_members e)

-- ---- the turn

module _ (t : TargetPlan) (opening : Epoch × FloorWhy) (m : TargetMemory) (reading : ℕ) (q : CommitRequest) where
  pub commits-one : HasOneStep (commit.CommitNext t opening m reading q) Always
  commits-one _ k l _ _ _ _ fits same (commit.HasEpoch _ e is) (commit.HasEpoch _ e' is') = let one : e ≡ e' = cc in record { change = refl; stage = ap commit.CommitStage.Known one }
  commits-one _ k l _ _ _ _ fits same (commit.ExtendsLease _ e lease low is) (commit.ExtendsLease _ _ lease' low' is') =
      let one : lease ≡ lease' = cc in record { change = ap (λ x. Some (Extends x)) one; stage = refl }
  commits-one _ k l _ _ _ _ fits same (commit.ExtendsLease _ e lease low is) (commit.IsCovered _ _ low') = let no : ⊥ = omega (arith, ap (λ d. d.lease) same) in absurd no
  commits-one _ k l _ _ _ _ fits same (commit.IsCovered _ e low) (commit.ExtendsLease _ _ lease low' is) = let no : ⊥ = omega (arith, ap (λ d. d.lease) same) in absurd no
  commits-one _ k l _ _ _ _ fits same (commit.IsCovered _ e low) (commit.IsCovered _ _ low') = record { change = refl; stage = refl }
  commits-one _ k l _ _ _ _ fits same (commit.Stores _ e allowed space) (commit.Stores _ _ allowed' space') = record { change = refl; stage = refl }

  -- once its writes are stored, the turn is over but for what it tells
  stored-on : (s : commit.CommitStage) (k : Kept) (o : Option Change) (u : commit.CommitStage) (l : Kept) → commit.CommitNext t opening m reading q s k o u → Steps o k l → is_stored s ≡ true → is_stored u ≡ true
  stored-on _ k _ _ l (commit.HasEpoch _ e is) steps stored = let no : ⊥ = cc in absurd no
  stored-on _ k _ _ l (commit.ExtendsLease _ e lease low is) steps stored = stored
  stored-on _ k _ _ l (commit.IsCovered _ e low) steps stored = let no : ⊥ = cc in absurd no
  stored-on _ k _ _ l (commit.Stores _ e allowed space) steps stored = refl

  module _ (from : ActorId) (look : Look) where
    -- what is told of what is open, by this look
    abbrev tells : TargetMemory × Did → List Outcome
    tells left = open_told (seen_did look left.1)

    stored-ends : (s : commit.CommitStage) (k : Kept) (left : TargetMemory × Did) → commit.CommitEnds t opening m reading q from s k left → is_stored s ≡ true → tells left ≡ []
    stored-ends _ k _ (commit.IsSpent _ left is same) stored = let no : ⊥ = cc in absurd no
    stored-ends _ k _ (commit.IsRefused _ e c left is same) stored = let no : ⊥ = cc in absurd no
    stored-ends _ k _ (commit.HasNoSpace _ e left allowed space same) stored = let no : ⊥ = cc in absurd no
    stored-ends _ k _ (commit.HasBegun _ e left same) stored = ap tells same ∙ begun-closed look (led_entry t q e) q.first from q.writes (leader_at t m k.durable)

    stored-closed : (e : Epoch) (k new : Kept) (left : TargetMemory × Did) → Whole (commit.CommitNext t opening m reading q) (commit.CommitEnds t opening m reading q from) (commit.Stored e) k new left → tells left ≡ []
    stored-closed e k new left w = stored-ends w.last new left w.ends (reached-keeps (commit.CommitNext t opening m reading q) (λ s k. is_stored s ≡ true) stored-on (commit.Stored e) k w.last new w.reached refl)

    refused-told : (e : Epoch) (c : Cause) (left : TargetMemory × Did) → left ≡ (with_ticks e m, ends_at q from e (outcome.Restart c)) → tells left ≡ read_told (seen_cause look c)
    refused-told e c left same = ap tells same

    spaceless-told : (e : Epoch) (free : ℕ) (left : TargetMemory × Did) → left ≡ (with_ticks e m, ends_at q from e (outcome.NoSpace t.me (blocks (own_writes t q.writes)) free))
        → tells left ≡ outcome.NoSpace t.me (blocks (own_writes t q.writes)) (look.free free) ∷ []
    spaceless-told e free left same = ap tells same

    -- what a Commit's turn ends with at a stage is one, where the same is told of what is open
    commits-end : (s : commit.CommitStage) (k l : Kept) (left left' : TargetMemory × Did) → k.durable ≡ l.durable → tells left ≡ tells left'
        → commit.CommitEnds t opening m reading q from s k left → commit.CommitEnds t opening m reading q from s l left' → seen_left look left ≡ seen_left look left'
    commits-end _ k l _ _ same told (commit.IsSpent _ _ is left) (commit.IsSpent _ _ is' left') = ap (seen_left look) (left ∙ sym left')
    commits-end _ k l x y same told (commit.IsRefused _ e c _ is left) (commit.IsRefused _ _ c' _ is' left') =
        let one : seen_cause look c ≡ seen_cause look c' =
        refused-one look t opening q.first e m.stamps (own_writes t q.writes) k.durable l.durable c c' same (sym (refused-told e c x left) ∙ told ∙ refused-told e c' y left') is is' in
        ap (seen_left look) left ∙ ap (λ z. (with_ticks e m, ends_at q from e (outcome.Restart z))) one ∙ sym (ap (seen_left look) left')
    commits-end _ k l x y same told (commit.IsRefused _ e c _ is left) (commit.HasNoSpace _ _ _ allowed space left') =
        let shown : read_told (seen_cause look c) ≡ outcome.Restart (seen_cause look c) ∷ [] = allowed-told look t opening q.first e m.stamps (own_writes t q.writes) k.durable l.durable c same is allowed in
        absurd (refusals-apart (seen_cause look c) t.me (blocks (own_writes t q.writes)) (look.free l.free) (sym shown ∙ sym (refused-told e c x left) ∙ told ∙ spaceless-told e l.free y left'))
    commits-end _ k l x y same told (commit.HasNoSpace _ e _ allowed space left) (commit.IsRefused _ _ c' _ is' left') =
        let shown : read_told (seen_cause look c') ≡ outcome.Restart (seen_cause look c') ∷ [] = allowed-told look t opening q.first e m.stamps (own_writes t q.writes) l.durable k.durable c' (sym same) is' allowed in
        absurd (refusals-apart (seen_cause look c') t.me (blocks (own_writes t q.writes)) (look.free k.free) (sym shown ∙ sym (refused-told e c' y left') ∙ sym told ∙ spaceless-told e k.free x left))
    commits-end _ k l x y same told (commit.HasNoSpace _ e _ allowed space left) (commit.HasNoSpace _ _ _ allowed' space' left') =
        let one : look.free k.free ≡ look.free l.free = spaces-one t.me (blocks (own_writes t q.writes)) (look.free k.free) (look.free l.free) (sym (spaceless-told e k.free x left) ∙ told ∙ spaceless-told e l.free y left') in
        ap (seen_left look) left ∙ ap (λ z. (with_ticks e m, ends_at q from e (outcome.NoSpace t.me (blocks (own_writes t q.writes)) z))) one ∙ sym (ap (seen_left look) left')
    commits-end _ k l _ _ same told (commit.HasBegun _ e _ left) (commit.HasBegun _ _ _ left') =
        ap (seen_left look) (left ∙ ap (λ d. (leads_on (begins_at t m q from e d) (with_ticks e m), sends (begins_at t m q from e d).posts (issued_for q.attempt q.ep e))) same ∙ sym left')

    -- where a Commit's turn ends while another one goes on, the two don't tell the same of what is open
    commits-last : (s : commit.CommitStage) (k l new : Kept) (left left' : TargetMemory × Did) (o : Option Change) (u : commit.CommitStage) (j : Kept) → k.durable ≡ l.durable → tells left ≡ tells left'
        → commit.CommitEnds t opening m reading q from s k left → commit.CommitNext t opening m reading q s l o u
        → Whole (commit.CommitNext t opening m reading q) (commit.CommitEnds t opening m reading q from) u j new left' → ⊥
    commits-last _ k l new x y _ _ j same told (commit.IsSpent _ _ is left) (commit.HasEpoch _ e' is') rest = cc
    commits-last _ k l new x y _ _ j same told (commit.IsRefused _ e c _ is left) (commit.Stores _ _ allowed space) rest =
        let shown : read_told (seen_cause look c) ≡ outcome.Restart (seen_cause look c) ∷ [] = allowed-told look t opening q.first e m.stamps (own_writes t q.writes) k.durable l.durable c same is allowed in
        some-told (outcome.Restart (seen_cause look c)) (sym shown ∙ sym (refused-told e c x left) ∙ told ∙ stored-closed e j new y rest)
    commits-last _ k l new x y _ _ j same told (commit.HasNoSpace _ e _ allowed space left) (commit.Stores _ _ allowed' space') rest =
        some-told (outcome.NoSpace t.me (blocks (own_writes t q.writes)) (look.free k.free)) (sym (spaceless-told e k.free x left) ∙ told ∙ stored-closed e j new y rest)
    commits-last _ k l new x y _ _ j same told (commit.HasBegun _ e _ left) next rest = elim next [ ]

    -- a Commit's turn is determined by what it tells of what is open, as far as that is looked at
    pub commits_are_one :
        (old old' new new' : Kept) (left left' : TargetMemory × Did) → old.durable ≡ old'.durable → tells left ≡ tells left'
        → Whole (commit.CommitNext t opening m reading q) (commit.CommitEnds t opening m reading q from) commit.Asked old new left
        → Whole (commit.CommitNext t opening m reading q) (commit.CommitEnds t opening m reading q from) commit.Asked old' new' left' → OneTurn new new' (seen_left look left) (seen_left look left')
    commits_are_one old old' new new' left left' same told w v =
        whole-one_as (commit.CommitNext t opening m reading q) (commit.CommitEnds t opening m reading q from) Always tells (seen_left look) commits-one (always-on _)
        (λ s k l x y fits so tells ends ends'. commits-end s k l x y so tells ends ends')
        (λ s k l n x y o u j fits so tells ends next rest. commits-last s k l n x y o u j so tells ends next rest) commit.Asked old old' new new' left left' tt same told w v

  module _ (from : ActorId) where
    -- where a member is known to be down, nothing is stored
    unstored-ends : (s : commit.CommitStage) (k : Kept) (left : TargetMemory × Did) → CommitDown t m reading q from s k left → is_stored s ≡ true → ⊥
    unstored-ends _ k left (down.IsSpent _ e by _ is known same) stored = cc
    unstored-ends _ k left (down.IsUnknown _ e by _ known same) stored = cc

    unstored-closed : (e : Epoch) (k new : Kept) (left : TargetMemory × Did) → Whole (commit.CommitNext t opening m reading q) (CommitDown t m reading q from) (commit.Stored e) k new left → ⊥
    unstored-closed e k new left w = unstored-ends w.last new left w.ends (reached-keeps (commit.CommitNext t opening m reading q) (λ s k. is_stored s ≡ true) stored-on (commit.Stored e) k w.last new w.reached refl)

    downs-end : (s : commit.CommitStage) (k l : Kept) (left left' : TargetMemory × Did) → CommitDown t m reading q from s k left → CommitDown t m reading q from s l left' → left ≡ left'
    downs-end _ k l _ _ (down.IsSpent _ e by _ is known left) (down.IsSpent _ e' by' _ is' known' left') = left ∙ sym left'
    downs-end _ k l _ _ (down.IsUnknown _ e by _ known left) (down.IsUnknown _ _ by' _ known' left') =
        let one : by ≡ by' = cc in left ∙ ap (λ x. (with_ticks e m, ends_at q from e (outcome.Unknown x))) one ∙ sym left'

    downs-last : (s : commit.CommitStage) (k l new : Kept) (left left' : TargetMemory × Did) (o : Option Change) (u : commit.CommitStage) (j : Kept)
        → CommitDown t m reading q from s k left → commit.CommitNext t opening m reading q s l o u → Whole (commit.CommitNext t opening m reading q) (CommitDown t m reading q from) u j new left' → ⊥
    downs-last _ k l new x y _ _ j (down.IsSpent _ e by _ is known left) (commit.HasEpoch _ e' is') rest = cc
    downs-last _ k l new x y _ _ j (down.IsUnknown _ e by _ known left) (commit.Stores _ _ allowed space) rest = unstored-closed e j new y rest

    -- then a Commit's turn is determined
    pub downs_are_one :
        (old old' new new' : Kept) (left left' : TargetMemory × Did) → old.durable ≡ old'.durable
        → Whole (commit.CommitNext t opening m reading q) (CommitDown t m reading q from) commit.Asked old new left
        → Whole (commit.CommitNext t opening m reading q) (CommitDown t m reading q from) commit.Asked old' new' left' → OneTurn new new' left left'
    downs_are_one old old' new new' left left' same w v =
        whole-one_as (commit.CommitNext t opening m reading q) (CommitDown t m reading q from) Always (λ x. tt {0}) (λ x. x) commits-one (always-on _)
        (λ s k l x y fits so tells ends ends'. downs-end s k l x y ends ends')
        (λ s k l n x y o u j fits so tells ends next rest. downs-last s k l n x y o u j ends next rest) commit.Asked old old' new new' left left' tt same (refl {0}) w v
