-- What an Ask comes to.
use Rattle.std.proofs.Common.{ℕ, ◌≡◌, ◌∙◌, refl, sym, ap, subst, Bool, true, false, List, [], map, Option, Some, None}
use Rattle.std.specs.Prelude.{◌||◌, if◌then◌else◌}
use Rattle.base_types.specs.declared.entry.Entry.{Entry}
use Rattle.base_types.specs.declared.id.AttemptId.{AttemptId}
use Rattle.base_types.specs.declared.outcome.Cause.TheVariants.{Unresolved}
use Rattle.base_types.specs.declared.outcome.Outcome.TheVariants.{Committed, Restart, Unknown}
use Rattle.model_laws.specs.Members.{Has, has-from_map}
use Rattle.base_messages.specs.declared.actor.ActorId.{ActorId}
use Rattle.base_messages.specs.declared.message.Message.TheVariants.{Ended}
use Rattle.base_messages.specs.declared.message.Post.{Post}
use Rattle.daos_model.specs.declared.durable.Durable.{Durable}
use Rattle.daos_model.specs.Durables.{same_attempt}
use Rattle.dtx_base.specs.declared.leading.LeaderMemory.{LeaderMemory}
use Rattle.dtx_base.specs.declared.leading.Undecided.{Undecided}
use Rattle.dtx_base.specs.Asking.{ask_heard, asked_of, asked_open, tells_end, waits_at}
use Rattle.dtx_base.specs.Leading.{LeaderOf, LeaderStep, entry_led, first_down}
use Rattle.dtx_base.specs.Rows.{is_among}
use Rattle.dtx_resync.specs.dtx_table.Seats.{came}
use Rattle.world_base.specs.declared.did.Did.{Did}
use Rattle.world_base.specs.declared.target.TargetMemory.{TargetMemory}
use Rattle.world_base.specs.declared.target.TargetPlan.{TargetPlan}
use Rattle.world_base.specs.Changes.{Kept}
use Rattle.world_base.specs.Requests.{sends}
use Rattle.world_base.specs.Roles.{leader_at}
use Rattle.world_base.specs.Statuses.{ask_left}
use Rattle.target_parts.specs.world_contents.posts.Forms.{PostsInForm}
use Rattle.target_parts.specs.world_contents.posts.Posting.{none-posted, one-posted, to-client, waits-on}
use Rattle.target_parts.specs.Knowing.{AreRowsOpen}
use Rattle.target_parts.specs.RowKeeping.{rows-mapped}

-- what was called of the leader is the whole turn
pub ask-left : (t : TargetPlan) (m : TargetMemory) (from : ActorId) (x : AttemptId) (k : Kept) (l : LeaderOf) (n : LeaderMemory) (posts : List Post) → l ≡ leader_at t m k.durable → ◌≡◌ {A = LeaderMemory × List Post} (n, posts) (came (ask_heard x from l))
    → ◌≡◌ {A = TargetMemory × Did} (record m { leader = n }, sends posts None) (ask_left t m from x k)
ask-left t m from x k l n posts same is = ap {A = LeaderMemory × List Post} {B = TargetMemory × Did} (λ p. (record m { leader = p.0 }, sends p.1 None)) (is ∙ ap (λ z. came (ask_heard x from z)) same)

-- ---- what is remembered still fits

waits-same : (x : AttemptId) (c : ActorId) (u : Undecided) → (waits_at x c u).attempt ≡ u.attempt
waits-same x c u = elim (same_attempt u.attempt x) as (λ b. (if b then record u { client = Some c } else u).attempt ≡ u.attempt) [ true ↦ refl | false ↦ refl ]

module _ (me : ℕ) (d : Durable) (x : AttemptId) (from : ActorId) (l : LeaderOf) (r : AreRowsOpen me l.memory d) where
  abbrev AreOpenAfter : LeaderStep → Type 0
  AreOpenAfter s = AreRowsOpen me s.leader.memory d

  open-asked : (e : Entry) (down : Option ℕ) → AreOpenAfter (asked_open x from e down l)
  open-asked e None = rows-mapped me l.memory d r (waits_at x from) (waits-same x from)
  open-asked e (Some t) = r

  of-asked : (e : Option Entry) (decided : Bool) → AreOpenAfter (asked_of x from e decided l)
  of-asked None decided = r
  of-asked (Some e) decided = by (e.committed || decided)
    where
      by : (b : Bool) → AreOpenAfter (if b then record { leader = l; posts = tells_end from x (Some e.epoch) Committed } else asked_open x from e (first_down e.members l.memory.down) l)
      by true = r
      by false = open-asked e (first_down e.members l.memory.down)

  ask-rows : AreOpenAfter (ask_heard x from l)
  unfolding ask_heard
  ask-rows = of-asked (entry_led x l) (is_among x l.memory.decided)

-- what was called of the leader fits
pub asked-rows : (me : ℕ) (d : Durable) (x : AttemptId) (from : ActorId) (l : LeaderOf) (n : LeaderMemory) (posts : List Post) → ◌≡◌ {A = LeaderMemory × List Post} (n, posts) (came (ask_heard x from l)) → AreRowsOpen me l.memory d → AreRowsOpen me n d
asked-rows me d x from l n posts is r = subst (λ z. AreRowsOpen me z d) (sym (ap (λ (p : LeaderMemory × List Post). p.0) is)) (ask-rows me d x from l r)

-- ---- what is posted has its form

waits-client : (b : Bool) (o u : Undecided) (c from : ActorId) → (if b then record o { client = Some from } else o) ≡ u → u.client ≡ Some c → from.client ≡ true → ((y : ActorId) → o.client ≡ Some y → y.client ≡ true) → c.client ≡ true
waits-client true o u c from is at client before =
    let its : Some from ≡ Some c = ap (λ (z : Undecided). z.client) is ∙ at in
    let same : from ≡ c = cc in
    subst (λ (z : ActorId). z.client ≡ true) same client
waits-client false o u c from is at client before = before c (ap (λ (z : Undecided). z.client) is ∙ at)

module _ (targets : ℕ) (x : AttemptId) (from : ActorId) (l : LeaderOf) (client : from.client ≡ true) where
  abbrev Posts : LeaderStep → Type 0
  Posts s = PostsInForm targets l.memory s.leader.memory s.posts

  open-posts : (e : Entry) (down : Option ℕ) → Posts (asked_open x from e down l)
  open-posts e None = λ waits. record {
    form = none-posted targets;
    waiting = λ u c i at.
        let o = has-from_map (waits_at x from) l.memory.undecided u i in
        waits-client (same_attempt o.0.attempt x) o.0 u c from o.2 at client (λ y its. waits o.0 y o.1 its);
  }
  open-posts e (Some t) = waits-on targets l.memory l.memory (tells_end from x (Some e.epoch) (Unknown t)) refl (one-posted targets _ (to-client targets from (Ended x (Some e.epoch) (Unknown t)) client refl))

  of-posts : (e : Option Entry) (decided : Bool) → Posts (asked_of x from e decided l)
  of-posts None decided = waits-on targets l.memory l.memory (tells_end from x None (Restart (Unresolved x))) refl (one-posted targets _ (to-client targets from (Ended x None (Restart (Unresolved x))) client refl))
  of-posts (Some e) decided = by (e.committed || decided)
    where
      by : (b : Bool) → Posts (if b then record { leader = l; posts = tells_end from x (Some e.epoch) Committed } else asked_open x from e (first_down e.members l.memory.down) l)
      by true = waits-on targets l.memory l.memory (tells_end from x (Some e.epoch) Committed) refl (one-posted targets _ (to-client targets from (Ended x (Some e.epoch) Committed) client refl))
      by false = open-posts e (first_down e.members l.memory.down)

  pub ask-posts : Posts (ask_heard x from l)
  unfolding ask_heard
  ask-posts = of-posts (entry_led x l) (is_among x l.memory.decided)
