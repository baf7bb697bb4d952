-- Each event of a run keeps it so that Fetches and Asks come from their attempts' clients, and Resets from the targets that they name.
use Rattle.std.specs.Prelude.{ℕ, ◌≡◌, not, ◌==◌, Bool, true, false, List, ◌++◌, filter, map, Option, Some, None}
use Rattle.std.proofs.Common.{sym, ap, subst, inl, inr}
use Rattle.daos_model.specs.BoolLaws.{and_left, not_true}
use Rattle.daos_model.specs.Changes.{reopened}
use Rattle.model_laws.specs.Members.{Has, has-cases, has-from_filter, has-from_map}
use Rattle.base_messages.specs.declared.actor.ActorId.{ActorId}
use Rattle.base_messages.specs.declared.message.Post.{Post}
use Rattle.dtx_base.specs.Leading.{is_led, is_open}
use Rattle.world_commit.specs.attempts.Counting.{has-left_over}
use Rattle.world_commit.specs.statuses.SenderFurther.{further-of, opening-of}
use Rattle.world_commit.specs.statuses.SenderMoves.{SaysRightly, heard-says, moved-says}
use Rattle.world_commit.specs.statuses.SenderPosts.{AreOfTarget, hears-of, idles-of, of-rightly}
use Rattle.world_commit.specs.statuses.Senders.{IsSentRightly, SendersAreRight}
use Rattle.world_base.specs.declared.letter.Letter.{Letter}
use Rattle.world_base.specs.declared.target.TargetPlan.{TargetPlan}
use Rattle.world_base.specs.declared.world.World.{World}
use Rattle.daos_model.specs.declared.durable.Durable.{Durable}
use Rattle.world_base.specs.ClientTurns.{Move, heard, listed, moved}
use Rattle.world_base.specs.Events.{ByClient, ByTarget, Event, Rules, ToClient, ToTarget, client_plan, kept, target_plan}
use Rattle.world_base.specs.Letters.{client, letter_of, letters_of, target}
use Rattle.world_base.specs.Statuses.{opening_posts}
use Rattle.world_base.specs.StepLaws.{by-hearing, by-next}
use Rattle.world_base.specs.Steps.{after_move, without}
use Rattle.world_base.specs.Stops.{Draws, Fails, Further, GivenUp, Happening, IsCut, Opens, Plainly, WorldEvent, is_down_at, is_not_to, is_not_to_down, is_to, is_to_down, reset_letter, resets, swept}

-- ---- the statement

abbrev pub EventsKeepSenders : Type 0
EventsKeepSenders = (r : Rules) (w v : World) → SendersAreRight w → WorldEvent r w v → SendersAreRight v

-- ---- letters

abbrev AreSentRightly : List Letter → Type 0
AreSentRightly ls = (l : Letter) → Has l ls → IsSentRightly l.from l.message

both-sent : (ls ms : List Letter) → AreSentRightly ls → AreSentRightly ms → AreSentRightly (ls ++ ms)
both-sent ls ms k n l i = elim (has-cases ls ms l i) [ inl j ↦ k l j | inr j ↦ n l j ]

-- what a target sends
target-sent : (t : ℕ) (posts : List Post) → AreOfTarget posts → AreSentRightly (letters_of (target t) posts)
target-sent t posts of l i = let y = has-from_map (letter_of (target t)) posts l i in subst (λ n. IsSentRightly n.from n.message) y.2 (of-rightly (target t) y.0.message (of y.0 y.1))

-- what a client sends
client-sent : (n : ℕ) (o : Option Post) → SaysRightly n o → AreSentRightly (letters_of (client n) (listed o))
client-sent n None says l i = absurd i
client-sent n (Some q) says l (inl same) = subst (λ i. IsSentRightly i.from i.message) (sym same) says
client-sent n (Some q) says l (inr none) = absurd none

-- a Reset comes from the target to which it was asked
abbrev actor_of : Bool → ℕ → ActorId
actor_of c n = record { client = c; number = n }

reset-sent : (down : Bool) (q : Letter) → q.to.client ≡ false → IsSentRightly (reset_letter down q).from (reset_letter down q).message
reset-sent down q to = ap (λ c. actor_of c q.to.number) to

resets-sent : (down : Bool) (p : Letter → Bool) (asked : List Letter) → ((q : Letter) → p q ≡ true → q.to.client ≡ false) → AreSentRightly (map (reset_letter down) (filter p asked))
resets-sent down p asked to l i =
    let y = has-from_map (reset_letter down) (filter p asked) l i in
    let z = has-from_filter p asked y.0 y.1 in
    subst (λ n. IsSentRightly n.from n.message) y.2 (reset-sent down y.0 (to y.0 z.1))

filter-sent : (p : Letter → Bool) (ls : List Letter) → AreSentRightly ls → AreSentRightly (filter p ls)
filter-sent p ls k l i = k l (has-from_filter p ls l i).0

-- ---- events

lost-sent : (t : ℕ) (down : Bool) (w : World) → SendersAreRight w → AreSentRightly (filter (is_not_to t) w.messages ++ resets t down w.asked)
lost-sent t down w k = both-sent (filter (is_not_to t) w.messages) (resets t down w.asked) (filter-sent (is_not_to t) w.messages k) (resets-sent down (is_to t) w.asked (λ q is. not_true q.to.client (and_left (not q.to.client) (q.to.number == t) is)))

opens-sent : (t : TargetPlan) (d : Durable) → AreOfTarget (opening_posts t d)
unfolding opening_posts
opens-sent t d = opening-of d.incarnation (filter is_open (filter (is_led t.me) d.entries))

-- a client moves
goes-sent : (w : World) (n : ℕ) (m : Move) → SendersAreRight w → SaysRightly n m.post → SendersAreRight (after_move w n m)
goes-sent w n m k says = both-sent w.messages (letters_of (client n) (listed m.post)) k (client-sent n m.post says)

module _ (r : Rules) (w v : World) (k : SendersAreRight w) where
  plainly : Event r w v → SendersAreRight v
  plainly (ByClient g) =
      by-next r SendersAreRight (λ u n c here p. goes-sent u n (moved (client_plan r n) c) p (moved-says (client_plan r n) c)) (λ u n i c here p. p) w v k g
  plainly (ToClient g) =
      by-hearing r SendersAreRight (λ u n c here p. goes-sent u n (moved (client_plan r n) c) p (moved-says (client_plan r n) c))
      (λ u n c l rest here awake takes to p. goes-sent (without u rest) n (heard (client_plan r n) c l.message) (λ q i. p q (has-left_over u.messages l rest q takes i)) (heard-says (client_plan r n) c l.message)) w v k g
  plainly (ToTarget g) =
      subst AreSentRightly (sym (ap (λ u. u.messages) g.after))
      (both-sent g.rest (letters_of (target g.t) g.did.posts) (λ q i. k q (has-left_over w.messages g.l g.rest q g.takes i))
      (target-sent g.t g.did.posts (hears-of (target_plan r g.t) g.s.opening g.s.memory g.reading g.l.from g.l.message (kept g.s) g.new (g.memory, g.did) g.turn)))
  plainly (ByTarget g) =
      subst AreSentRightly (sym (ap (λ u. u.messages) g.after))
      (both-sent w.messages (letters_of (target g.t) g.did.posts) k (target-sent g.t g.did.posts (idles-of g.settling (target_plan r g.t) g.s.memory (kept g.s) g.new (g.memory, g.did) g.turn)))

  happens : Happening r w v → SendersAreRight v
  happens (Plainly e up) = plainly e
  happens (Further g) =
      subst AreSentRightly (sym (ap (λ u. u.messages) g.hears.after))
      (both-sent g.hears.rest (letters_of (target g.hears.t) g.hears.did.posts) (λ q i. k q (has-left_over w.messages g.hears.l g.hears.rest q g.hears.takes i))
      (target-sent g.hears.t g.hears.did.posts
      (further-of g.number (target_plan r g.hears.t) g.hears.s.opening g.hears.s.memory g.hears.reading g.hears.l.from g.hears.l.message (kept g.hears.s) g.hears.new (g.hears.memory, g.hears.did) g.hears.turn)))
  happens (IsCut g) = subst AreSentRightly (sym (ap (λ u. u.messages) g.after)) (lost-sent g.t false w k)
  happens (Opens g) =
      subst AreSentRightly (sym (ap (λ u. u.messages) g.after))
      (both-sent w.messages (letters_of (target g.t) (opening_posts (target_plan r g.t) (reopened g.s.durable))) k (target-sent g.t (opening_posts (target_plan r g.t) (reopened g.s.durable)) (opens-sent (target_plan r g.t) (reopened g.s.durable))))
  happens (Fails g) = subst AreSentRightly (sym (ap (λ u. u.messages) g.after)) k
  happens (GivenUp g) = subst AreSentRightly (sym (ap (λ u. u.messages) g.after)) (lost-sent g.t true w k)
  happens (Draws g) = subst AreSentRightly (sym (ap (λ u. u.messages) g.after)) k

-- what goes to targets that are given up is lost
swept-sent : (w : World) → SendersAreRight w → SendersAreRight (swept w)
swept-sent w k =
    filter-sent (is_not_to_down w.targets) (w.messages ++ map (reset_letter true) (filter (is_to_down w.targets) w.asked))
    (both-sent w.messages (map (reset_letter true) (filter (is_to_down w.targets) w.asked)) k
    (resets-sent true (is_to_down w.targets) w.asked (λ q is. not_true q.to.client (and_left (not q.to.client) (is_down_at w.targets q.to.number) is))))

pub senders-stay : EventsKeepSenders
senders-stay r w v k e = subst SendersAreRight (sym e.after) (swept-sent e.u (happens r w e.u k e.happens))
