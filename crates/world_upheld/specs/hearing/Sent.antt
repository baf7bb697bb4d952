-- A Reset tells of one of the targets, and a tracker is told to a client, whatever happens.
use Rattle.std.specs.Prelude.{ℕ, Some, ◌≡◌, ◌<◌, Bool, true, false, List, [], ◌∷◌, length, map, slice_get, refl}
use Rattle.std.proofs.Common.{inl, inr, sym, ◌∙◌, ap, subst}
use Rattle.std.proofs.lemmas.Option.{slice_get_within}
use Rattle.base_messages.specs.declared.actor.ActorId.{ActorId}
use Rattle.base_messages.specs.declared.message.Message.{Message, more_of-Message}
use Rattle.base_messages.specs.declared.message.Message.TheVariants as message
use Rattle.base_messages.specs.declared.message.Post.{Post}
use Rattle.daos_model.specs.Changes.{reopened}
use Rattle.daos_model.specs.declared.durable.Durable.{Durable}
use Rattle.dtx_base.specs.Leading.{to_target}
use Rattle.model_laws.specs.Members.{contains-from_has, has-from_map}
use Rattle.world_legal.specs.world_commit.attempts.Counting.{has-left_over, has-taken}
use Rattle.world_base.specs.declared.target.TargetMemory.{TargetMemory}
use Rattle.world_base.specs.declared.target.TargetPlan.{TargetPlan}
use Rattle.world_base.specs.declared.target.TargetState.{TargetState}
use Rattle.world_base.specs.declared.world.World.{World}
use Rattle.world_base.specs.ClientTurns.{heard, listed, moved}
use Rattle.world_base.specs.Events.{ByClient, ByTarget, Event, Rules, ToClient, ToTarget, client_plan, kept, target_plan}
use Rattle.world_base.specs.Letters.{client, letters_of, target}
use Rattle.world_base.specs.Snapshots.{freeze_to, others, prune_to}
use Rattle.world_base.specs.Statuses.{opening_posts}
use Rattle.world_base.specs.StepLaws.{by-hearing, by-next}
use Rattle.world_base.specs.Stops.{Draws, Fails, Further, GivenUp, Happening, HearsMore, IsCut, Opens, Plainly, WorldEvent}
use Rattle.world_legal.specs.world_standing.hearable.Sent.{AreSentSo, AreSo, IsSentSo, Posts, both-so, client-so, heard-so, lost-so, more-so, move-so, opening-so, plainly-so, posts-so, swept-so}
use Rattle.world_letters.specs.lines.EndingLaws.{all-hear-tell, idle-tells}
use Rattle.world_letters.specs.lines.Lines.{Endings}
use Rattle.world_owners.specs.world_making.making.Making.{AsksAgain, AsksFreezes, AsksPrunes, EndsCollected, EndsIt, MakingSends, SaysFrozen, SaysNothing, SaysPruned, SaysRefused, is_lost_at, is_of_snapshots, tells_of_snapshots}
use Rattle.world_owners.specs.world_making.making.Turns.{hearings-leave}
use Rattle.world_upheld.specs.upheld.Events.{event-many}
use Rattle.world_legal.specs.world_standing.standing.Unsnapped.{is_of_snapshots as is_of_snapshots_there, tells_of_snapshots as tells_of_snapshots_there}

-- ---- the statement

-- each event keeps it so of all that is in flight
abbrev pub AllEventsKeepSent : Type 0
AllEventsKeepSent = (r : Rules) (n : ℕ) (w v : World) → Endings w → WorldEvent r w v → AreSentSo n w → AreSentSo n v

-- ---- turns in which snapshots are made

one-so : (n : ℕ) (q : Post) → IsSentSo n q.to q.message → Posts n (q ∷ [])
one-so n q is s (inl same) = subst (λ z. IsSentSo n z.to z.message) (sym same) is
one-so n q is s (inr none) = absurd none

all-so : (n : ℕ) (to : ℕ → Post) (ts : List ℕ) → ((t : ℕ) → IsSentSo n (to t).to (to t).message) → Posts n (map to ts)
all-so n to ts each q i = let z = has-from_map to ts q i in subst (λ y. IsSentSo n y.to y.message) z.2 (each z.0)

again-so : (n by : ℕ) (to : ActorId) (q asked : Message) → is_lost_at by q asked → IsSentSo n to asked
again-so n by to (message.Reset' t false place (more_of-Message (message.Freeze y c s) rest)) asked h = subst (IsSentSo n to) (sym h.1) tt
again-so n by to (message.Reset' t false place (more_of-Message (message.Prune y c tracker e) rest)) asked h = subst (IsSentSo n to) (sym h.1) tt
again-so n by to q asked h = absurd h

making-so : (n : ℕ) (p : TargetPlan) (m : TargetMemory) (from : ActorId) (q : Message) (d : Durable) (posts : List Post) → MakingSends p m from q d posts → Posts n posts
making-so n p m from q d posts (AsksFreezes x c name tracker s same frozen all) = subst (Posts n) (sym all) (all-so n (freeze_to x c s) (others p) (λ t. tt))
making-so n p m from q d posts (AsksPrunes x c tracker g same all) = subst (Posts n) (sym all) (all-so n (prune_to x c g) (others p) (λ t. tt))
making-so n p m from q d posts (SaysFrozen x c s same frozen one) = subst (Posts n) (sym one) (one-so n _ tt)
making-so n p m from q d posts (SaysRefused x c s how same why one) = subst (Posts n) (sym one) (one-so n _ tt)
making-so n p m from q d posts (SaysPruned x c g same one) = subst (Posts n) (sym one) (one-so n _ tt)
making-so n p m from q d posts (EndsIt x own how asked one) = subst (Posts n) (sym one) (one-so n _ tt)
making-so n p m from q d posts (EndsCollected x c how of found one) = subst (Posts n) (sym one) (one-so n _ tt)
making-so n p m from q d posts (AsksAgain by asked lost one) = subst (Posts n) (sym one) (one-so n (to_target by asked) (again-so n by (to_target by asked).to q asked lost))
making-so n p m from q d posts (SaysNothing unasked none) = subst (Posts n) (sym none) (λ z i. absurd i)

-- what tells of no snapshot
none-of : (m : Message) → is_of_snapshots m ≡ false → is_of_snapshots_there m ≡ false
none-of (message.Snap x c name tracker) off = off
none-of (message.Freeze x c s) off = off
none-of (message.Held x refusal) off = off
none-of (message.Prune x c tracker e) off = off
none-of m off = refl

none-told : (m : Message) → tells_of_snapshots m ≡ false → tells_of_snapshots_there m ≡ false
none-told (message.Reset' by down place (more_of-Message q rest)) off = none-of q off
none-told (message.Snap x c name tracker) off = off
none-told (message.Freeze x c s) off = off
none-told (message.Held x refusal) off = off
none-told (message.Prune x c tracker e) off = off
none-told m off = refl

more-sent : (r : Rules) (n : ℕ) (w v : World) (f : HearsMore r w v) → (b : Bool) → tells_of_snapshots f.hears.l.message ≡ b → Posts n f.hears.did.posts
more-sent r n w v f false off = more-so r n w v f f.hears.l.message refl (none-told f.hears.l.message off) f.hears.turn
more-sent r n w v f true is =
    let g = f.hears in
    making-so n (target_plan r g.t) g.s.memory g.l.from g.l.message g.new.durable g.did.posts
    (hearings-leave f.number (target_plan r g.t) g.s.opening g.s.memory g.reading g.l.from g.l.message (kept g.s) g.new (g.memory, g.did) g.turn is).ends.sends

-- ---- events

module _ (r : Rules) (n : ℕ) (w v : World) (ends : Endings w) (many : length w.targets ≡ n) (k : AreSo n w.messages) where
  plainly : Event r w v → AreSo n v.messages
  plainly (ByClient g) =
      by-next r (λ u. AreSo n u.messages) (λ u m c here p. both-so n u.messages (letters_of (client m) (listed (moved (client_plan r m) c).post)) p (client-so n m (moved (client_plan r m) c).post (move-so n (client_plan r m) c)))
      (λ u m i c here p. p) w v k g
  plainly (ToClient g) =
      by-hearing r (λ u. AreSo n u.messages) (λ u m c here p. both-so n u.messages (letters_of (client m) (listed (moved (client_plan r m) c).post)) p (client-so n m (moved (client_plan r m) c).post (move-so n (client_plan r m) c)))
      (λ u m c l rest here awake takes to p.
      both-so n rest (letters_of (client m) (listed (heard (client_plan r m) c l.message).post)) (λ q i. p q (has-left_over u.messages l rest q takes i))
      (client-so n m (heard (client_plan r m) c l.message).post (heard-so n (client_plan r m) c l.message))) w v k g
  plainly (ToTarget g) =
      subst (AreSo n) (sym (ap (λ u. u.messages) g.after))
      (both-so n g.rest (letters_of (target g.t) g.did.posts) (λ q i. k q (has-left_over w.messages g.l g.rest q g.takes i))
      (posts-so n (target g.t) g.did.posts
      (λ q i. plainly-so n q.to q.message ((all-hear-tell (target_plan r g.t) g.s.opening g.s.memory g.reading g.l.from g.l.message (kept g.s) g.new (g.memory, g.did) (ends g.l (contains-from_has w.messages g.l (has-taken w.messages g.l g.rest g.takes))) g.turn).0 q i))))
  plainly (ByTarget g) =
      subst (AreSo n) (sym (ap (λ u. u.messages) g.after))
      (both-so n w.messages (letters_of (target g.t) g.did.posts) k
      (posts-so n (target g.t) g.did.posts (λ q i. plainly-so n q.to q.message ((idle-tells g.settling (target_plan r g.t) g.s.memory g.turn.last g.new (g.memory, g.did) g.turn.ends).0 q i))))

  within : (t : ℕ) (s : TargetState) → slice_get w.targets t ≡ Some s → t < n
  within t s here = subst (λ m. t < m) many (slice_get_within w.targets t s here)

  letters-then : Happening r w v → AreSo n v.messages
  letters-then (Plainly e up) = plainly e
  letters-then (Further f) =
      let g = f.hears in
      subst (AreSo n) (sym (ap (λ u. u.messages) g.after))
      (both-so n g.rest (letters_of (target g.t) g.did.posts) (λ q i. k q (has-left_over w.messages g.l g.rest q g.takes i))
      (posts-so n (target g.t) g.did.posts (more-sent r n w v f (tells_of_snapshots g.l.message) refl)))
  letters-then (IsCut g) = subst (AreSo n) (sym (ap (λ u. u.messages) g.after)) (lost-so n g.t false w (within g.t g.s g.here) k)
  letters-then (Opens g) =
      subst (AreSo n) (sym (ap (λ u. u.messages) g.after))
      (both-so n w.messages (letters_of (target g.t) (opening_posts (target_plan r g.t) (reopened g.s.durable))) k
      (posts-so n (target g.t) (opening_posts (target_plan r g.t) (reopened g.s.durable)) (opening-so n (target_plan r g.t) (reopened g.s.durable))))
  letters-then (Fails g) = subst (AreSo n) (sym (ap (λ u. u.messages) g.after)) k
  letters-then (GivenUp g) = subst (AreSo n) (sym (ap (λ u. u.messages) g.after)) (lost-so n g.t true w (within g.t g.s g.here) k)
  letters-then (Draws g) = subst (AreSo n) (sym (ap (λ u. u.messages) g.after)) k

pub all-events-keep_sent : AllEventsKeepSent
all-events-keep_sent r n w v ends e k =
    let sent = letters-then r n w e.u ends k.targets k.letters e.happens in
    let as-many : length e.u.targets ≡ n = sym (ap (λ x. length x.targets) e.after) ∙ event-many r w v e ∙ k.targets in
    record { targets = event-many r w v e ∙ k.targets; letters = subst (AreSo n) (sym (ap (λ x. x.messages) e.after)) (swept-so n e.u as-many sent) }
