-- What one target asks of another for a snapshot or an aggregation, and what that answers, goes from one target to another.
use Rattle.std.specs.Prelude.{ℕ, ◌≡◌, ◌<◌, ◌++◌, ◌==◌, Bool, true, false, not, nat_lt, List, [], ◌∷◌, filter, length, map, Option, Some, None, refl}
use Rattle.std.proofs.Common.{sym, ◌∙◌, ap, subst, inl, inr, arith}
use Rattle.std.proofs.lemmas.Bool.Decides.{nat_tests}
use Rattle.std.proofs.lemmas.Option.{slice_get_within}
use Rattle.base_types.specs.declared.entry.Entry.{Entry}
use Rattle.base_types.specs.declared.epoch.Epoch.{Epoch}
use Rattle.base_messages.specs.declared.actor.ActorId.{ActorId}
use Rattle.base_messages.specs.declared.message.Message.{Message, more_of-Message}
use Rattle.base_messages.specs.declared.message.Message.TheVariants as message
use Rattle.base_messages.specs.declared.message.Post.{Post}
use Rattle.daos_model.specs.BoolLaws.{and_left, and_right}
use Rattle.daos_model.specs.Changes.{reopened}
use Rattle.daos_model.specs.declared.durable.Durable.{Durable}
use Rattle.dtx_base.specs.Leading.{is_led, is_open, to_target}
use Rattle.dtx_base.specs.Members.{all_targets, other_members}
use Rattle.model_laws.specs.Members.{Has, contains-from_has, has-cases, has-from_filter, has-from_map}
use Rattle.world_legal.specs.world_commit.attempts.Counting.{has-left_over, has-taken}
use Rattle.world_base.specs.declared.client.ClientState.{ClientState}
use Rattle.world_base.specs.declared.client.Present.{Present}
use Rattle.world_base.specs.declared.letter.Letter.{Letter}
use Rattle.world_base.specs.declared.target.TargetMemory.{TargetMemory}
use Rattle.world_base.specs.declared.target.TargetPlan.{TargetPlan}
use Rattle.world_base.specs.declared.world.World.{World}
use Rattle.world_base.specs.ClientTurns.{heard, listed, moved, waits}
use Rattle.world_base.specs.Events.{ByClient, ByTarget, Event, Rules, TargetHearsBy, ToClient, ToTarget, client_plan, kept, target_plan}
use Rattle.world_base.specs.Further.{HearsFurther}
use Rattle.world_base.specs.Letters.{asked_after, client, letter_of, letters_of, target}
use Rattle.world_base.specs.Snapshots.{freeze_to, is_another, others, prune_to}
use Rattle.world_base.specs.Statuses.{opening_posts, status_to, statuses_for, statuses_of}
use Rattle.world_base.specs.StepLaws.{by-hearing, by-next}
use Rattle.world_base.specs.Steps.{KeptByCounting, KeptByHearing, KeptByMoves}
use Rattle.world_base.specs.Stops.{Draws, Fails, Further, GivenUp, Happening, IsCut, Opens, Plainly, WorldEvent, is_down_at, is_not_to, is_not_to_down, is_to, is_to_down, reset_letter, resets, swept, with_lost}
use Rattle.world_letters.specs.endings.Clients.{IsQuestion, heard-asks}
use Rattle.world_legal.specs.world_commit.fates.Asking.{asked-was}
use Rattle.world_letters.specs.lines.EndingLaws.{all-hear-tell, idle-tells}
use Rattle.world_letters.specs.lines.Lines.{Endings}
use Rattle.world_owners.specs.world_making.makers.Posts.{NoneIsOfMaking, all-plainly, further-none}
use Rattle.world_owners.specs.world_making.making.Making.{AsksAgain, AsksFreezes, AsksPrunes, EndsCollected, EndsIt, MakingSends, SaysFrozen, SaysNothing, SaysPruned, SaysRefused, is_lost_at, is_of_snapshots, tells_of_snapshots}
use Rattle.world_owners.specs.world_making.making.Turns.{hearings-leave}
use Rattle.world_letters.specs.talks.AskLaws.{move-is, waiting-rests}
use Rattle.world_letters.specs.talks.Asked.{ARead, ASnapshot, AnAggregation, Asked, Asking, IsMove, ItsWrites, Silent, Telling}

-- ---- the statements

-- it comes from one of so many targets, and goes to another actor
pub record ComesFromAnother (n : ℕ) (from to : ActorId) : Type 0 where
  pub target : from.client ≡ false
  pub within : from.number < n
  pub another : (from ≡ to) → ⊥

-- so do a Freeze, a Prune up to an epoch, and the answer to them
abbrev pub IsAskedAcross : ℕ → ActorId → ActorId → Message → Type 0
IsAskedAcross n from to (message.Freeze x c s) = ComesFromAnother n from to
IsAskedAcross n from to (message.Prune x c None (Some g)) = ComesFromAnother n from to
IsAskedAcross n from to (message.Held x refusal) = ComesFromAnother n from to
IsAskedAcross n from to m = Unit {0}

-- and that such a one got no answer is told of another target than who hears it
abbrev pub IsToldAcross : ℕ → ActorId → ActorId → Message → Type 0
IsToldAcross n from to (message.Reset' by down place (more_of-Message q rest)) = (t : ℕ) → to ≡ target t → IsAskedAcross n to (target by) q
IsToldAcross n from to m = IsAskedAcross n from to m

-- so it is of all that is in flight, and of what is without an answer
pub record GoAcross (n : ℕ) (w : World) : Type 0 where
  pub letters : (l : Letter) → Has l w.messages → IsToldAcross n l.from l.to l.message
  pub asked : (l : Letter) → Has l w.asked → IsAskedAcross n l.from l.to l.message

-- each event keeps it, of as many targets as there are
abbrev pub AllEventsGoAcross : Type 0
AllEventsGoAcross = (r : Rules) (n : ℕ) (w v : World) → length w.targets ≡ n → Endings w → WorldEvent r w v → GoAcross n w → GoAcross n v

-- ---- messages

-- what isn't of a snapshot or an aggregation
others-across : (n : ℕ) (from to : ActorId) (m : Message) → tells_of_snapshots m ≡ false → IsToldAcross n from to m
others-across n from to (message.Snap x c name tracker) off = tt
others-across n from to (message.Freeze x c s) off = let no : ⊥ = cc in absurd no
others-across n from to (message.Held x refusal) off = let no : ⊥ = cc in absurd no
others-across n from to (message.Prune x c tracker e) off = let no : ⊥ = cc in absurd no
others-across n from to (message.Reset' by down place (more_of-Message q rest)) off = λ t is. inner q off
  where
    inner : (q : Message) → is_of_snapshots q ≡ false → IsAskedAcross n to (target by) q
    inner (message.Freeze x c s) is = let no : ⊥ = cc in absurd no
    inner (message.Held x refusal) is = let no : ⊥ = cc in absurd no
    inner (message.Prune x c tracker e) is = let no : ⊥ = cc in absurd no
    inner q is = tt
others-across n from to m off = tt

asked-too : (n : ℕ) (from to : ActorId) (m : Message) → IsToldAcross n from to m → IsAskedAcross n from to m
asked-too n from to (message.Reset' t down place (more_of-Message q rest)) h = tt
asked-too n from to (message.Freeze x c s) h = h
asked-too n from to (message.Prune x c None (Some g)) h = h
asked-too n from to (message.Held x refusal) h = h
asked-too n from to m h = tt

-- ---- what is sent

abbrev PostAcross : ℕ → ActorId → List Post → Type 0
PostAcross n from posts = (q : Post) → Has q posts → IsToldAcross n from q.to q.message

none-across : (n : ℕ) (from : ActorId) (posts : List Post) → NoneIsOfMaking posts → PostAcross n from posts
none-across n from posts off q i = others-across n from q.to q.message (off q i)

one-across : (n : ℕ) (from : ActorId) (q : Post) → IsToldAcross n from q.to q.message → PostAcross n from (q ∷ [])
one-across n from q is s (inl same) = subst (λ z. IsToldAcross n from z.to z.message) (sym same) is
one-across n from q is s (inr none) = absurd none

-- the others are others
is-other : (t u : ℕ) → not (u == t) ≡ true → (target t ≡ target u) → ⊥
is-other t u other same = let one : t ≡ u = ap (λ a. a.number) same in let no : ⊥ = grind (arith, nat_tests) in no

all-across : (n : ℕ) (p : TargetPlan) (to : ℕ → Post) → p.me < n → ((u : ℕ) → (to u).to ≡ target u) → ((u : ℕ) → ComesFromAnother n (target p.me) (to u).to → IsToldAcross n (target p.me) (to u).to (to u).message)
    → PostAcross n (target p.me) (map to (others p))
all-across n p to low goes each q i =
    let z = has-from_map to (others p) q i in
    let f = has-from_filter (is_another p) all_targets z.0 z.1 in
    subst (λ y. IsToldAcross n (target p.me) y.to y.message) z.2
    (each z.0 (record { target = refl; within = low; another = λ same. is-other p.me z.0 (and_right (nat_lt z.0 p.targets) (not (z.0 == p.me)) f.1) (same ∙ goes z.0) }))

back : (n t : ℕ) (from : ActorId) → t < n → ComesFromAnother n from (target t) → ComesFromAnother n (target t) from
back n t from low k = record { target = refl; within = low; another = λ same. k.another (sym same) }

-- what is asked again was asked so
again-across : (n t by : ℕ) (from : ActorId) (q asked : Message) → is_lost_at by q asked → IsToldAcross n from (target t) q → IsToldAcross n (target t) (target by) asked
again-across n t by from (message.Reset' u false place (more_of-Message (message.Freeze y c s) rest)) asked h k =
    subst (λ m. IsToldAcross n (target t) (target by) m) (sym h.1) (subst (λ z. ComesFromAnother n (target t) (target z)) h.0 (k t refl))
again-across n t by from (message.Reset' u false place (more_of-Message (message.Prune y c None (Some g)) rest)) asked h k =
    subst (λ m. IsToldAcross n (target t) (target by) m) (sym h.1) (subst (λ z. ComesFromAnother n (target t) (target z)) h.0 (k t refl))
again-across n t by from (message.Reset' u false place (more_of-Message (message.Prune y c None None) rest)) asked h k = subst (λ m. IsToldAcross n (target t) (target by) m) (sym h.1) tt
again-across n t by from (message.Reset' u false place (more_of-Message (message.Prune y c (Some tracker) e) rest)) asked h k = subst (λ m. IsToldAcross n (target t) (target by) m) (sym h.1) tt
again-across n t by from q asked h k = absurd h

making-across : (n : ℕ) (p : TargetPlan) (m : TargetMemory) (from : ActorId) (q : Message) (d : Durable) (posts : List Post) → p.me < n → IsToldAcross n from (target p.me) q → MakingSends p m from q d posts
    → PostAcross n (target p.me) posts
making-across n p m from q d posts low told (AsksFreezes x c name tracker s same frozen all) = subst (PostAcross n (target p.me)) (sym all) (all-across n p (freeze_to x c s) low (λ u. refl) (λ u k. k))
making-across n p m from q d posts low told (AsksPrunes x c tracker g same all) = subst (PostAcross n (target p.me)) (sym all) (all-across n p (prune_to x c g) low (λ u. refl) (λ u k. k))
making-across n p m from q d posts low told (SaysFrozen x c s same frozen one) =
    subst (PostAcross n (target p.me)) (sym one) (one-across n (target p.me) _ (back n p.me from low (subst (IsToldAcross n from (target p.me)) same told)))
making-across n p m from q d posts low told (SaysRefused x c s how same why one) =
    subst (PostAcross n (target p.me)) (sym one) (one-across n (target p.me) _ (back n p.me from low (subst (IsToldAcross n from (target p.me)) same told)))
making-across n p m from q d posts low told (SaysPruned x c g same one) =
    subst (PostAcross n (target p.me)) (sym one) (one-across n (target p.me) _ (back n p.me from low (subst (IsToldAcross n from (target p.me)) same told)))
making-across n p m from q d posts low told (EndsIt x own how asked one) = subst (PostAcross n (target p.me)) (sym one) (one-across n (target p.me) _ tt)
making-across n p m from q d posts low told (EndsCollected x c how of found one) = subst (PostAcross n (target p.me)) (sym one) (one-across n (target p.me) _ tt)
making-across n p m from q d posts low told (AsksAgain by asked lost one) =
    subst (PostAcross n (target p.me)) (sym one) (one-across n (target p.me) (to_target by asked) (again-across n p.me by from q asked lost told))
making-across n p m from q d posts low told (SaysNothing unasked none) = subst (PostAcross n (target p.me)) (sym none) (λ z i. absurd i)

-- ---- turns

turn-across : (n : ℕ) (w v : World) (from : ActorId) (rest : List Letter) (posts : List Post) → v.messages ≡ rest ++ letters_of from posts
    → v.asked ≡ asked_after w.asked (letters_of from posts) → ((l : Letter) → Has l rest → Has l w.messages)
    → PostAcross n from posts → GoAcross n w → GoAcross n v
turn-across n w v from rest posts messages asked left right k = record {
  letters = λ l i. elim (has-cases rest (letters_of from posts) l (subst (Has l) messages i)) [ inl j ↦ k.letters l (left l j) | inr j ↦ sent l j ];
  asked = λ l i. elim (asked-was w.asked (letters_of from posts) l (subst (Has l) asked i)) [ inl j ↦ k.asked l j | inr j ↦ asked-too n l.from l.to l.message (sent l j.0) ];
}
  where
    sent : (l : Letter) → Has l (letters_of from posts) → IsToldAcross n l.from l.to l.message
    sent l i = let z = has-from_map (letter_of from) posts l i in subst (λ y. IsToldAcross n y.from y.to y.message) z.2 (right z.0 z.1)

-- ---- clients

module _ (n : ℕ) (r : Rules) where
  asks-across : (m : ℕ) (k : Epoch) (c : ClientState) (a : Present) (q : Post) → Asked (client_plan r m) k c a q → IsToldAcross n (client m) q.to q.message
  asks-across m k c a q (ARead ops turns snapshot op rd at here asks says) = subst (λ x. IsToldAcross n (client m) x.to x.message) (sym says) tt
  asks-across m k c a q (ItsWrites ops turns snapshot w ws at last all says) = subst (λ x. IsToldAcross n (client m) x.to x.message) (sym says) tt
  asks-across m k c a q (ASnapshot name cont at says) = subst (λ x. IsToldAcross n (client m) x.to x.message) (sym says) tt
  asks-across m k c a q (AnAggregation cont at says) = subst (λ x. IsToldAcross n (client m) x.to x.message) (sym says) tt

  option-across : (m : ℕ) (o : Option Post) → ((q : Post) → o ≡ Some q → IsToldAcross n (client m) q.to q.message) → PostAcross n (client m) (listed o)
  option-across m None each q i = absurd i
  option-across m (Some s) each q (inl same) = subst (λ z. IsToldAcross n (client m) z.to z.message) (sym same) (each s refl)
  option-across m (Some s) each q (inr none) = absurd none

  move-across : (m : ℕ) (c : ClientState) → PostAcross n (client m) (listed (moved (client_plan r m) c).post)
  move-across m c = by (waits c) refl
    where
      same-post : (o : Option Post) (s q : Post) → o ≡ Some s → o ≡ Some q → IsToldAcross n (client m) s.to s.message → IsToldAcross n (client m) q.to q.message
      same-post o s q one two = let same : s ≡ q = cc in subst (λ z. IsToldAcross n (client m) z.to z.message) same

      is-a : IsMove (client_plan r m) c (moved (client_plan r m) c) → PostAcross n (client m) (listed (moved (client_plan r m) c).post)
      is-a (Silent free none) = option-across m _ (λ q is. let no : ⊥ = cc (none, is) in absurd no)
      is-a (Telling to none free says) = option-across m _ (λ q is. same-post _ _ q says is tt)
      is-a (Asking a s at asked says state) = option-across m _ (λ q is. same-post _ s q says is (asks-across m c.tracker c a s asked))

      by : (b : Bool) → waits c ≡ b → PostAcross n (client m) (listed (moved (client_plan r m) c).post)
      by true h = option-across m _ (λ q is. let none = ap (λ m. m.post) (waiting-rests (client_plan r m) c h) in let no : ⊥ = cc (none, is) in absurd no)
      by false h = is-a (move-is (client_plan r m) c h)

  question-across : (m : ℕ) (o : Option Post) → IsQuestion o → PostAcross n (client m) (listed o)
  question-across m None asks q i = absurd i
  question-across m (Some s) asks q (inl same) = subst (IsToldAcross n (client m) q.to) (sym (ap (λ x. x.message) same ∙ asks.1)) tt
  question-across m (Some s) asks q (inr none) = absurd none

  across-moves : KeptByMoves r (GoAcross n)
  across-moves w m c here k = turn-across n w _ (client m) w.messages (listed (moved (client_plan r m) c).post) refl refl (λ l i. i) (move-across m c) k

  across-hearing : KeptByHearing r (GoAcross n)
  across-hearing w m c l rest here awake takes to k =
      turn-across n w _ (client m) rest (listed (heard (client_plan r m) c l.message).post) refl refl (λ q i. has-left_over w.messages l rest q takes i) (question-across m _ (heard-asks (client_plan r m) c l.message)) k

  across-counting : KeptByCounting (GoAcross n)
  across-counting w m k c here b = record { letters = b.letters; asked = b.asked }

-- ---- targets

module _ (r : Rules) (w v : World) (ends : Endings w) (k : GoAcross (length w.targets) w) where
  abbrev n : ℕ
  n = length w.targets

  plain-across : Event r w v → GoAcross n v
  plain-across (ByClient g) = by-next r (GoAcross n) (across-moves n r) (across-counting n r) w v k g
  plain-across (ToClient g) = by-hearing r (GoAcross n) (across-moves n r) (across-hearing n r) w v k g
  plain-across (ToTarget g) =
      turn-across n w v (target g.t) g.rest g.did.posts (ap (λ u. u.messages) g.after) (ap (λ u. u.asked) g.after) (λ l i. has-left_over w.messages g.l g.rest l g.takes i)
      (none-across n (target g.t) g.did.posts (all-plainly g.did.posts (all-hear-tell (target_plan r g.t) g.s.opening g.s.memory g.reading g.l.from g.l.message (kept g.s) g.new (g.memory, g.did)
      (ends g.l (contains-from_has w.messages g.l (has-taken w.messages g.l g.rest g.takes))) g.turn).0)) k
  plain-across (ByTarget g) =
      turn-across n w v (target g.t) w.messages g.did.posts (ap (λ u. u.messages) g.after) (ap (λ u. u.asked) g.after) (λ l i. i)
      (none-across n (target g.t) g.did.posts (all-plainly g.did.posts (idle-tells g.settling (target_plan r g.t) g.s.memory g.turn.last g.new (g.memory, g.did) g.turn.ends).0)) k

  module _ (number : ℕ) (g : TargetHearsBy (HearsFurther number) r w v) where
    low : g.t < n
    low = slice_get_within w.targets g.t g.s g.here

    told : IsToldAcross n g.l.from (target g.t) g.l.message
    told = subst (λ a. IsToldAcross n g.l.from a g.l.message) g.to_it (k.letters g.l (has-taken w.messages g.l g.rest g.takes))

    sent-across : (b : Bool) → tells_of_snapshots g.l.message ≡ b → PostAcross n (target g.t) g.did.posts
    sent-across false off =
        none-across n (target g.t) g.did.posts (further-none number (target_plan r g.t) g.s.opening g.s.memory g.reading g.l.from g.l.message (kept g.s) g.new (g.memory, g.did) off g.turn)
    sent-across true is =
        making-across n (target_plan r g.t) g.s.memory g.l.from g.l.message g.new.durable g.did.posts low told
        (hearings-leave number (target_plan r g.t) g.s.opening g.s.memory g.reading g.l.from g.l.message (kept g.s) g.new (g.memory, g.did) g.turn is).ends.sends

    more-across : GoAcross n v
    more-across =
        turn-across n w v (target g.t) g.rest g.did.posts (ap (λ u. u.messages) g.after) (ap (λ u. u.asked) g.after) (λ l i. has-left_over w.messages g.l g.rest l g.takes i) (sent-across (tells_of_snapshots g.l.message) refl) k

-- ---- openings, and what is lost

statuses-across : (n : ℕ) (from : ActorId) (inc : ℕ) (es : List Entry) → PostAcross n from (statuses_for inc es)
statuses-across n from inc [] q i = absurd i
statuses-across n from inc (e ∷ es) q i = elim (has-cases (statuses_of inc e) (statuses_for inc es) q i) [
  | inl j ↦ (let z = has-from_map (status_to inc e.attempt) (other_members e) q j in subst (λ y. IsToldAcross n from y.to y.message) z.2 tt)
  | inr j ↦ statuses-across n from inc es q j
]

opening-across : (n : ℕ) (r : Rules) (t : ℕ) (d : Durable) → PostAcross n (target t) (opening_posts (target_plan r t) d)
unfolding opening_posts
opening-across n r t d = statuses-across n (target t) d.incarnation (filter is_open (filter (is_led t) d.entries))

resets-across : (n : ℕ) (down : Bool) (p : Letter → Bool) (w : World) → ((q : Letter) → p q ≡ true → not q.to.client ≡ true) → GoAcross n w
    → (l : Letter) → Has l (map (reset_letter down) (filter p w.asked)) → IsToldAcross n l.from l.to l.message
resets-across n down p w targets k l i =
    let z = has-from_map (reset_letter down) (filter p w.asked) l i in
    let f = has-from_filter p w.asked z.0 z.1 in
    let there : z.0.to ≡ target z.0.to.number = as-target z.0.to (targets z.0 f.1) in
    subst (λ x. IsToldAcross n x.from x.to x.message) z.2 (λ t is. subst (λ a. IsAskedAcross n z.0.from a z.0.message) there (k.asked z.0 f.0))
  where
    as-target : (a : ActorId) → not a.client ≡ true → a ≡ target a.number
    as-target a is = by a.client refl is
      where
        by : (b : Bool) → a.client ≡ b → not b ≡ true → a ≡ target a.number
        by false off h = ap (λ b. record { client = b; number = a.number }) off
        by true on h = let no : ⊥ = cc in absurd no

lost-across : (n t : ℕ) (down : Bool) (w : World) → GoAcross n w → GoAcross n (with_lost t down w)
lost-across n t down w k = record {
  letters = λ l i. elim (has-cases (filter (is_not_to t) w.messages) (resets t down w.asked) l i) [
    | inl j ↦ k.letters l (has-from_filter (is_not_to t) w.messages l j).0
    | inr j ↦ resets-across n down (is_to t) w (λ q is. and_left (not q.to.client) (q.to.number == t) is) k l j
  ];
  asked = λ l i. k.asked l (has-from_filter (is_not_to t) w.asked l i).0;
}

sweep-across : (n : ℕ) (w : World) → GoAcross n w → GoAcross n (swept w)
sweep-across n w k = record {
  letters = λ l i. elim (has-cases w.messages told l (has-from_filter (is_not_to_down w.targets) (w.messages ++ told) l i).0) [
    | inl j ↦ k.letters l j
    | inr j ↦ resets-across n true (is_to_down w.targets) w (λ q is. and_left (not q.to.client) (is_down_at w.targets q.to.number) is) k l j
  ];
  asked = λ l i. k.asked l (has-from_filter (is_not_to_down w.targets) w.asked l i).0;
}
  where
    told : List Letter
    told = map (reset_letter true) (filter (is_to_down w.targets) w.asked)

-- ---- every event

happening-across : (r : Rules) (w v : World) → Happening r w v → Endings w → GoAcross (length w.targets) w → GoAcross (length w.targets) v
happening-across r w v (Plainly e up) ends k = plain-across r w v ends k e
happening-across r w v (Further f) ends k = more-across r w v ends k f.number f.hears
happening-across r w v (IsCut g) ends k = subst (GoAcross (length w.targets)) (sym g.after) (lost-across (length w.targets) g.t false _ (record { letters = k.letters; asked = k.asked }))
happening-across r w v (Opens g) ends k =
    turn-across (length w.targets) w v (target g.t) w.messages (opening_posts (target_plan r g.t) (reopened g.s.durable)) (ap (λ u. u.messages) g.after) (ap (λ u. u.asked) g.after) (λ l i. i)
    (opening-across (length w.targets) r g.t (reopened g.s.durable)) k
happening-across r w v (Fails g) ends k = subst (GoAcross (length w.targets)) (sym g.after) (record { letters = k.letters; asked = k.asked })
happening-across r w v (GivenUp g) ends k = subst (GoAcross (length w.targets)) (sym g.after) (lost-across (length w.targets) g.t true _ (record { letters = k.letters; asked = k.asked }))
happening-across r w v (Draws g) ends k = subst (GoAcross (length w.targets)) (sym g.after) (record { letters = k.letters; asked = k.asked })

pub all-events-go_across : AllEventsGoAcross
all-events-go_across r n w v many ends e k =
    let first : GoAcross (length w.targets) w = subst (λ m. GoAcross m w) (sym many) k in
    subst (λ m. GoAcross m v) many (subst (GoAcross (length w.targets)) (sym e.after) (sweep-across (length w.targets) e.u (happening-across r w e.u e.happens ends first)))
