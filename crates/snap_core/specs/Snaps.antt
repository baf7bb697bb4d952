-- What target 0 makes with the other targets, and each step of it: the local part of its turns, over what is being made alone.
use Rattle.std.specs.Prelude.{ℕ, ◌≡◌, Bool, true, false, List, [], ◌∷◌, ◌++◌, map, filter, find, Option, Some, None, refl, if◌then◌else◌}
use Rattle.std.proofs.Common.{sym, ◌∙◌, ap, subst}
use Rattle.base_types.specs.declared.epoch.Epoch.{Epoch}
use Rattle.base_types.specs.declared.id.AttemptId.{AttemptId}
use Rattle.base_types.specs.declared.outcome.Outcome.{Outcome}
use Rattle.base_types.specs.declared.outcome.Outcome.TheVariants.{Committed, Unknown}
use Rattle.base_messages.specs.declared.actor.ActorId.{ActorId}
use Rattle.base_messages.specs.declared.message.Message.{Message}
use Rattle.base_messages.specs.declared.message.Message.TheVariants as message
use Rattle.base_messages.specs.declared.message.Post.{Post}
use Rattle.dtx_base.specs.Leading.{to_target}
use Rattle.dtx_base.specs.Members.{with_target}
use Rattle.world_base.specs.declared.did.Did.{Did}
use Rattle.world_base.specs.declared.target.Collection.{Collection}
use Rattle.world_base.specs.declared.target.TargetMemory.{TargetMemory}
use Rattle.world_base.specs.declared.target.TargetPlan.{TargetPlan}
use Rattle.world_base.specs.Snapshots.{collected, collection_of, collection_reset, collects_reset, counts_held, follows, freeze_to, held_at, held_by, is_collection_of, is_held_by_all, is_last, is_other_collection, new_collection, others, prune_to, to_actor}

-- its number, the number of targets, and what it is making, in the order in which it began
pub record SnapOf : Type 0 where
  pub me : ℕ
  pub targets : ℕ
  pub collecting : List Collection

-- what a step comes to: what is being made from then on, and the messages that are sent, in their order
pub record SnapStep : Type 0 where
  pub snaps : SnapOf
  pub posts : List Post

abbrev pub step_of : SnapOf → List Post → SnapStep
step_of s posts = record { snaps = s; posts = posts }

abbrev pub quietly : SnapOf → SnapStep
quietly s = step_of s []

abbrev pub plan_with : ℕ → ℕ → TargetPlan
plan_with me targets = record { me = me; targets = targets; epsilon = 0 }

abbrev pub plan_of : SnapOf → TargetPlan
plan_of s = plan_with s.me s.targets

-- the other targets, in the order of their numbers
unfoldable pub all_others : ℕ → ℕ → List ℕ
all_others me targets = others (plan_with me targets)

-- these are all of the other targets
unfoldable pub are_all_others : ℕ → ℕ → ℕ → Bool
are_all_others me targets held = is_held_by_all (plan_with me targets) held

-- nothing is being made
abbrev pub first_snaps : ℕ → ℕ → SnapOf
first_snaps me targets = record { me = me; targets = targets; collecting = [] }

abbrev pub with_collecting : List Collection → SnapOf → SnapOf
with_collecting cs s = record s { collecting = cs }

-- a client is told how its attempt ended
abbrev pub told : ActorId → AttemptId → Epoch → Outcome → List Post
told client x e how = to_actor client (message.Ended x (Some e) how)

-- ---- it begins

-- a collection begins, and each of the others is asked so; where there is no other one, it is made at once
abbrev pub begun_with : Collection → (ℕ → Post) → SnapOf → SnapStep
begun_with c asked s = step_of (with_collecting (s.collecting ++ c ∷ []) s) (map asked (all_others s.me s.targets))

abbrev pub begun_or_made : Collection → (ℕ → Post) → SnapOf → SnapStep
begun_or_made c asked s = if are_all_others s.me s.targets 0 then step_of s (told c.client c.attempt c.epoch Committed) else begun_with c asked s

-- a client asks for a snapshot, or for an aggregation, at an epoch: the others are asked to freeze, or to prune
unfoldable pub begun : ActorId → Message → Epoch → SnapOf → SnapStep
begun client (message.Snap x c name tracker) e s = begun_or_made (new_collection x client c e (Some name)) (freeze_to x c e) s
begun client (message.Prune x c tracker ep) e s = begun_or_made (new_collection x client c e None) (prune_to x c e) s
begun client m e s = quietly s

-- ---- another target answers

abbrev pub collection_in : AttemptId → List Collection → Option Collection
collection_in x cs = find (is_collection_of x) cs

abbrev pub without : AttemptId → SnapOf → SnapOf
without x s = with_collecting (filter (is_other_collection x) s.collecting) s

-- it holds what it was asked to: the last one that does ends the attempt, any other is counted; or it refuses, which ends it
abbrev pub held : ℕ → AttemptId → Option Outcome → Option Collection → SnapOf → SnapStep
held from x refusal None s = quietly s
held from x (Some how) (Some c) s = step_of (without x s) (told c.client x c.epoch how)
held from x None (Some c) s =
    if are_all_others s.me s.targets (with_target c.held from) then step_of (without x s) (told c.client x c.epoch Committed) else quietly (with_collecting (map (held_at x from) s.collecting) s)

unfoldable pub held_heard : ℕ → Message → SnapOf → SnapStep
held_heard from (message.Held x refusal) s = held from x refusal (collection_in x s.collecting) s
held_heard from m s = quietly s

-- the collection that an answer makes whole, if it does: all others hold it then
abbrev pub made_by : ℕ → Option Outcome → Option Collection → SnapOf → Option Collection
made_by from refusal None s = None
made_by from (Some how) (Some c) s = None
made_by from None (Some c) s = if are_all_others s.me s.targets (with_target c.held from) then Some c else None

unfoldable pub made : ℕ → Message → SnapOf → Option Collection
made from (message.Held x refusal) s = made_by from refusal (collection_in x s.collecting) s
made from m s = None

-- ---- a message to another target got no answer

-- the target opened again, and is asked again; or it is down, and the client is told that what became of its attempt is unknown
abbrev pub lost : ℕ → Bool → Message → AttemptId → Option Collection → SnapOf → SnapStep
lost by false asked x o s = step_of s (to_target by asked ∷ [])
lost by true asked x None s = quietly s
lost by true asked x (Some c) s = step_of (without x s) (told c.client x c.epoch (Unknown by))

unfoldable pub reset_heard : ℕ → Bool → Message → SnapOf → SnapStep
reset_heard by down (message.Freeze x c e) s = lost by down (message.Freeze x c e) x (collection_in x s.collecting) s
reset_heard by down (message.Prune x c tracker e) s = lost by down (message.Prune x c tracker e) x (collection_in x s.collecting) s
reset_heard by down m s = quietly s

-- ---- so a target's turns have it

abbrev pub snaps_of : TargetPlan → TargetMemory → SnapOf
snaps_of p m = record { me = p.me; targets = p.targets; collecting = m.collecting }

abbrev pub remembered : TargetMemory → SnapOf → TargetMemory
remembered m s = record m { collecting = s.collecting }

-- what a turn leaves and sends
abbrev pub as_turn : TargetMemory → SnapStep → TargetMemory × Did
as_turn m k = (remembered m k.snaps, follows k.posts [] None)

-- and what of it comes of a Reset
abbrev pub as_reset : TargetMemory → SnapStep → TargetMemory × List Post
as_reset m k = (remembered m k.snaps, k.posts)

-- a Held comes to what a turn makes of it
pub held-turns : (p : TargetPlan) (m : TargetMemory) (from : ℕ) (x : AttemptId) (refusal : Option Outcome) → held_by p m from x refusal (collection_of x m) ≡ as_turn m (held_heard from (message.Held x refusal) (snaps_of p m))
unfolding held_heard are_all_others
held-turns p m from x refusal = by refusal (collection_of x m)
  where
    by : (how : Option Outcome) (o : Option Collection) → held_by p m from x how o ≡ as_turn m (held from x how o (snaps_of p m))
    by how None = refl
    by (Some how) (Some c) = refl
    by None (Some c) = counted (is_last p from c)
      where
        counted : (b : Bool) → (if b then (collected x m, follows (told c.client x c.epoch Committed) [] None) else (counts_held x from m, follows [] [] None))
            ≡ as_turn m (if b then step_of (without x (snaps_of p m)) (told c.client x c.epoch Committed) else quietly (with_collecting (map (held_at x from) m.collecting) (snaps_of p m)))
        counted true = refl
        counted false = refl

-- and so does a Reset
pub reset-turns : (p : TargetPlan) (m : TargetMemory) (by : ℕ) (down : Bool) (asked : Message) → collects_reset by down asked m ≡ as_reset m (reset_heard by down asked (snaps_of p m))
unfolding reset_heard
reset-turns p m by down (message.Freeze x c e) = again down (collection_of x m)
  where
    again : (b : Bool) (o : Option Collection) → collection_reset by b (message.Freeze x c e) x o m ≡ as_reset m (lost by b (message.Freeze x c e) x o (snaps_of p m))
    again false o = refl
    again true None = refl
    again true (Some d) = refl
reset-turns p m by down (message.Prune x c tracker e) = again down (collection_of x m)
  where
    again : (b : Bool) (o : Option Collection) → collection_reset by b (message.Prune x c tracker e) x o m ≡ as_reset m (lost by b (message.Prune x c tracker e) x o (snaps_of p m))
    again false o = refl
    again true None = refl
    again true (Some d) = refl
reset-turns p m by down asked = refl
