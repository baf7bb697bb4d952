-- Whole turns in which target 0 hears that what it asked got no answer.
use Rattle.std.proofs.Common.{ℕ, ◌≡◌, refl, sym, ◌∙◌, ap, subst, Bool, true, false, List, [], Option, None, Some, Result, Ok, Err}
use Rattle.base_messages.specs.declared.message.Message.{Message}
use Rattle.base_messages.specs.declared.message.Message.TheVariants as message
use Rattle.base_messages.specs.declared.message.Post.{Post}
use Rattle.base_types.specs.declared.id.AttemptId.{AttemptId}
use Rattle.daos_model.specs.declared.durable.Durable.{Durable}
use Rattle.dtx_base.specs.declared.leading.LeaderMemory.{LeaderMemory}
use Rattle.dtx_base.specs.Leading as leading
use Rattle.dtx_base.specs.Leading.{LeaderOf}
use Rattle.dtx_base.specs.Members.{with_target}
use Rattle.dtx_table.specs.Seats.{came}
use Rattle.snap_core.specs.Snaps.{SnapOf, SnapStep, as_reset, collection_in, lost, remembered, reset-turns, reset_heard, step_of}
use Rattle.vos_store.specs.Calls.{State}
use Rattle.world_base.specs.declared.did.Did.{Did as DidOf}
use Rattle.world_base.specs.declared.target.Collection.{Collection}
use Rattle.world_base.specs.declared.target.TargetMemory.{TargetMemory}
use Rattle.world_base.specs.declared.target.TargetPlan.{TargetPlan}
use Rattle.world_base.specs.Changes.{Kept}
use Rattle.world_base.specs.CutTurns.{none_issued}
use Rattle.world_base.specs.Further.{collection_left, knows_down, reset_by}
use Rattle.world_base.specs.Snapshots.{collects_reset, follows}
use Rattle.world_base.specs.Statuses.{Answered, EndsAs, IsDone, Looking, Looks, NoChange}
use Rattle.world_base.specs.Turns.{Whole}
use Rattle.target_parts.specs.world_contents.posts.Forms.{is_collecting}
use Rattle.target_parts.specs.declared.knows.Knows.{Knows}
use Rattle.target_parts.specs.declared.stop.TargetStop.{TargetStop}
use Rattle.target_parts.specs.Knowing.{AreRowsOpen}
use Rattle.target_parts.specs.Parts.{kept}
use Rattle.target_parts.specs.Standing.{IsTarget, target-known}
use Rattle.target_parts.specs.Stops.{stop_memory}
use Rattle.target_snaps.specs.HeldTurns.{IsSnapsOf}
use Rattle.target_snaps.specs.LossTurns.{LossTurn}
use Rattle.target_snaps.proofs.HeldTurns.{as-own}
use Rattle.target_snaps.specs.Lined.{HasCome}
use Rattle.target_snaps.proofs.Lining.{comes-here, comes-silent, lined-wanting}

-- ---- the leader

-- that a target is down is remembered
abbrev with_down : ℕ → Bool → LeaderMemory → LeaderMemory
with_down by true m = record m { down = with_target m.down by }
with_down by false m = m

down-known : (by : ℕ) (down : Bool) (m : Message) (l : LeaderOf) (new : LeaderMemory) (posts : List Post) → is_collecting m ≡ true → (new, posts) ≡ came (leading.reset_heard by down m l) → new ≡ with_down by down l.memory
down-known by down (message.Freeze x c s) l new posts is heard = at down heard
  where
    at : (b : Bool) → (new, posts) ≡ came (leading.reset_heard by b (message.Freeze x c s) l) → new ≡ with_down by b l.memory
    at true heard = ap (λ (y : LeaderMemory × List Post). y.0) heard
    at false heard = ap (λ (y : LeaderMemory × List Post). y.0) heard
down-known by down (message.Prune x c tracker e) l new posts is heard = at down heard
  where
    at : (b : Bool) → (new, posts) ≡ came (leading.reset_heard by b (message.Prune x c tracker e) l) → new ≡ with_down by b l.memory
    at true heard = ap (λ (y : LeaderMemory × List Post). y.0) heard
    at false heard = ap (λ (y : LeaderMemory × List Post). y.0) heard
down-known by down m l new posts is heard = let no : ⊥ = cc in absurd no

rows-down : (me by : ℕ) (down : Bool) (m : LeaderMemory) (d : Durable) → AreRowsOpen me m d → AreRowsOpen me (with_down by down m) d
rows-down me by true m d r = record { order = r.order; decided = r.decided; undecided = r.undecided; apart = r.apart }
rows-down me by false m d r = r

abbrev led_by : Knows → LeaderMemory → Knows
led_by k l = record { hlc = k.hlc; stamps = k.stamps; entries = k.entries; leader = l; member = k.member }

-- what a target knows still fits
pub target-lost : (t : TargetPlan) (h : State) (old : Option Durable) (k : Knows) (by : ℕ) (down : Bool) (m : Message) (l : LeaderOf) (new : LeaderMemory) (posts : List Post) → l.memory ≡ k.leader → is_collecting m ≡ true → (new, posts) ≡ came (leading.reset_heard by down m l) → IsTarget t h old k → IsTarget t h old (led_by k new)
target-lost t h old k by down m l new posts its is heard x =
    target-known t h old k (led_by k new) x (record { clock = x.own.clock; member = x.own.member; parked = x.own.parked })
    (λ d leads. record {
      entries = leads.entries;
      rows = subst (λ n. AreRowsOpen t.me n d) (sym (down-known by down m l new posts is heard)) (rows-down t.me by down l.memory d (subst (λ n. AreRowsOpen t.me n d) (sym its) leads.rows));
      heard = leads.heard;
      asks = leads.asks;
    })

-- ---- what is being made

-- stays that target's
pub lost-own : (p : TargetPlan) (s : SnapOf) (own : IsSnapsOf p s) (by : ℕ) (down : Bool) (m : Message) → IsSnapsOf p (reset_heard by down m s).snaps
unfolding reset_heard
lost-own p s own by down m = at m
  where
    gone : (b : Bool) (asked : Message) (x : AttemptId) (o : Option Collection) → IsSnapsOf p (lost by b asked x o s).snaps
    gone false asked x o = own
    gone true asked x None = own
    gone true asked x (Some n) = record { me = own.me; targets = own.targets }

    at : (m : Message) → IsSnapsOf p (reset_heard by down m s).snaps
    at (message.Freeze x c e) = gone down (message.Freeze x c e) x (collection_in x s.collecting)
    at (message.Prune x c tracker e) = gone down (message.Prune x c tracker e) x (collection_in x s.collecting)
    at m = own

pub lost-stays : (p : TargetPlan) (s t : SnapOf) (own : IsSnapsOf p s) (by : ℕ) (down : Bool) (m : Message) (posts : List Post) → step_of t posts ≡ reset_heard by down m s → IsSnapsOf p t
lost-stays p s t own by down m posts heard = subst (IsSnapsOf p) (sym (ap (λ (k : SnapStep). k.snaps) heard)) (lost-own p s own by down m)

-- ---- what follows

known-down : (by : ℕ) (down : Bool) (m : TargetMemory) (s : SnapOf) (l : LeaderMemory) → l ≡ with_down by down m.leader → knows_down by down (remembered m s) ≡ remembered (record m { leader = l }) s
known-down by true m s l is = ap (λ x. remembered (record m { leader = x }) s) (sym is)
known-down by false m s l is = ap (λ x. remembered (record m { leader = x }) s) (sym is)

reset-collects : (p : TargetPlan) (m : TargetMemory) (by : ℕ) (down : Bool) (asked : Message) (k : Kept) → is_collecting asked ≡ true → reset_by p m by down asked k ≡ collection_left m by down asked
reset-collects p m by down (message.Freeze x c s) k is = refl
reset-collects p m by down (message.Prune x c tracker e) k is = refl
reset-collects p m by down asked k is = let no : ⊥ = cc in absurd no

module _ (p : TargetPlan) (m : TargetMemory) (s t : SnapOf) (own : IsSnapsOf p s) (by : ℕ) (down : Bool) (asked : Message) (is : is_collecting asked ≡ true) (posts : List Post) (l : LeaderOf) (new : LeaderMemory) (none : List Post) where
  abbrev after : TargetMemory
  after = remembered (record m { leader = new }) t

  lost-left : l.memory ≡ m.leader → step_of t posts ≡ reset_heard by down asked s → (new, none) ≡ came (leading.reset_heard by down asked l) → (k : Kept) → ◌≡◌ {A = TargetMemory × DidOf} (after, follows posts [] None) (reset_by p (remembered m s) by down asked k)
  lost-left its heard led k =
      let collects : collects_reset by down asked (remembered m s) ≡ (remembered m t, posts) =
      reset-turns p (remembered m s) by down asked ∙ ap (λ x. as_reset (remembered m s) (reset_heard by down asked x)) (sym (as-own p m s own)) ∙ ap (as_reset (remembered m s)) (sym heard) in
      let known : after ≡ knows_down by down (remembered m t) = sym (known-down by down m t new (down-known by down asked l new none is led ∙ ap (with_down by down) its)) in
      ap (λ x. (x, follows posts [] None)) known
      ∙ ap (λ (x : TargetMemory × List Post). (knows_down by down x.0, follows x.1 [] None)) (sym collects)
      ∙ sym (reset-collects p (remembered m s) by down asked k is)

  pub loss-told : (d : Durable) (h : State) (old : Option Durable) (finds : Durable → Type 0) (did : DidOf) → old ≡ Some d → did ≡ follows posts [] None → l.memory ≡ m.leader → step_of t posts ≡ reset_heard by down asked s → (new, none) ≡ came (leading.reset_heard by down asked l)
      → LossTurn p (remembered m s) by down asked d h old h finds after (Ok did)
  loss-told d h old finds did at said its heard led = record {
    durable = d;
    kept_is = at;
    holds = record {
      last = Answered;
      reached = record { did = looked.did; path = looked.path };
      ends = IsDone (kept d h) (after, did) (ap (λ x. (after, x)) said ∙ lost-left its heard led (kept d h));
    };
  }
    where
      looked : HasCome NoChange p.me Looking (kept d h) Answered (kept d h) []
      looked = comes-silent NoChange p.me Looking (kept d h) Looking (kept d h) [] Answered (comes-here NoChange p.me Looking (kept d h)) (Looks (kept d h))

-- memory was wanting
pub loss-wanting : (p : TargetPlan) (m left : TargetMemory) (by : ℕ) (down : Bool) (asked : Message) (d : Durable) (h : State) (old : Option Durable) (finds : Durable → Type 0) (result : Result DidOf TargetStop) → old ≡ Some d → result ≡ Err stop_memory
    → LossTurn p m by down asked d h old h finds left result
loss-wanting p m left by down asked d h old finds result at is =
    lined-wanting NoChange p.me Looking (kept d h) none_issued (λ did l. Whole NoChange (EndsAs (reset_by p m by down asked)) Looking (kept d h) l (left, did)) Looking d h old finds [] result is at (comes-here NoChange p.me Looking (kept d h))
