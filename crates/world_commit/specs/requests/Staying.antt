-- Over everything that happens requests come from clients, and who waits is a client.
use Rattle.std.specs.Prelude.{ℕ, ◌≡◌, ◌⊎◌, ◌++◌, ◌&&◌, Bool, true, false, if◌then◌else◌, List, [], ◌∷◌, filter, map, slice_get, Option, Some, None, refl}
use Rattle.std.proofs.Common.{sym, ◌∙◌, ap, subst, inl, inr}
use Rattle.std.proofs.Math.ListN.{set}
use Rattle.std.proofs.lemmas.Bool.{cases_eq}
use Rattle.base_types.specs.declared.entry.Entry.{Entry}
use Rattle.base_messages.specs.declared.message.Message.{Message, more_of-Message}
use Rattle.base_messages.specs.declared.message.Message.TheVariants as message
use Rattle.base_messages.specs.declared.message.Post.{Post}
use Rattle.daos_model.specs.BoolLaws.{clash}
use Rattle.daos_model.specs.Changes.{reopened}
use Rattle.daos_model.specs.declared.durable.Durable.{Durable}
use Rattle.dtx_base.specs.Leading.{first_leader, is_led, is_open, reopened_undecided}
use Rattle.dtx_base.specs.Members.{other_members}
use Rattle.model_laws.specs.Members.{Has, has-cases, has-from_filter, has-from_map}
use Rattle.world_commit.specs.attempts.Counting.{has-left_over, has-taken}
use Rattle.world_base.specs.declared.client.ClientPlan.{ClientPlan}
use Rattle.world_base.specs.declared.client.ClientState.{ClientState}
use Rattle.world_base.specs.declared.client.Present.{Present}
use Rattle.world_base.specs.declared.letter.Letter.{Letter}
use Rattle.world_base.specs.declared.target.Life.TheVariants.{Down}
use Rattle.world_base.specs.declared.target.TargetState.{TargetState}
use Rattle.world_base.specs.declared.world.World.{World}
use Rattle.world_base.specs.ClientTurns.{Move, about, answered, attempt_id, goes, heard, heard_at, hears_epochs, is_about, knows, listed, moved, reset_by, waits}
use Rattle.world_base.specs.Events.{ByClient, ByTarget, Event, Rules, TargetHearsBy, ToClient, ToTarget, client_plan, kept, target_after, target_plan}
use Rattle.world_base.specs.Letters.{asked_after, client, letter_of, letters_of, target}
use Rattle.world_base.specs.Statuses.{opening_memory, opening_posts, status_to, statuses_for, statuses_of}
use Rattle.world_base.specs.StepLaws.{by-hearing, by-next, set-is, set-there}
use Rattle.world_base.specs.Steps.{after_move, without}
use Rattle.world_base.specs.Stops.{Draws, Fails, Further, GivenUp, Happening, IsCut, Opens, Plainly, WorldEvent, is_not_to, is_not_to_down, is_to, is_to_down, opened_at, reset_letter, resets, stopped_at, swept}
use Rattle.world_base.specs.TargetTurns.{Hearing}
use Rattle.world_commit.specs.fates.Asking.{asked-was}
use Rattle.world_commit.specs.requests.MoreSending.{more-follows}
use Rattle.world_commit.specs.requests.Sending.{AreOfTarget, FollowsFrom, both-sent, hears-follows, idles-follows, map-sent, none-sent, plain-post}
use Rattle.world_letters.specs.talks.AskLaws.{move-is, waiting-rests}
use Rattle.world_letters.specs.talks.Asked.{ARead, ASnapshot, AnAggregation, Asked, Asking, IsMove, ItsWrites, Silent, Telling}
use Rattle.world_letters.specs.talks.HearLaws.{replied-silent}
use Rattle.world_letters.specs.waits.Premises.{IsSentSo, RequestsAreOfClients, WaitersAreClients, is_end}
use Rattle.world_letters.specs.waits.Requests.{is_lost_request, is_request}

-- ---- what a client sends

-- a client sends no Reset of a request, and no end of an attempt
record IsOfClient (q : Post) : Type 0 where
  tells_not : is_lost_request q.message ≡ false
  ends_not : is_end q.message ≡ false

abbrev SaysSo : Option Post → Type 0
SaysSo None = Unit {0}
SaysSo (Some q) = IsOfClient q

asked-says : (p : ClientPlan) (c : ClientState) (a : Present) (q : Post) → Asked p c.tracker c a q → IsOfClient q
asked-says p c a q (ARead ops turns snapshot op rd at is asked says) = record { tells_not = ap (λ x. is_lost_request x.message) says; ends_not = ap (λ x. is_end x.message) says }
asked-says p c a q (ItsWrites ops turns snapshot w ws at last all says) = record { tells_not = ap (λ x. is_lost_request x.message) says; ends_not = ap (λ x. is_end x.message) says }
asked-says p c a q (ASnapshot name cont at says) = record { tells_not = ap (λ x. is_lost_request x.message) says; ends_not = ap (λ x. is_end x.message) says }
asked-says p c a q (AnAggregation cont at says) = record { tells_not = ap (λ x. is_lost_request x.message) says; ends_not = ap (λ x. is_end x.message) says }

moved-says : (p : ClientPlan) (c : ClientState) → SaysSo (moved p c).post
moved-says p c = by (waits c) refl
  where
    moves : IsMove p c (moved p c) → SaysSo (moved p c).post
    moves (Silent goes none) = subst SaysSo (sym none) tt
    moves (Telling n no_attempt goes says) = subst SaysSo (sym says) (record { tells_not = refl; ends_not = refl })
    moves (Asking a q at asked says after) = subst SaysSo (sym says) (asked-says p c a q asked)

    by : (b : Bool) → waits c ≡ b → SaysSo (moved p c).post
    by true h = subst (λ m. SaysSo m.post) (sym (waiting-rests p c h)) tt
    by false h = moves (move-is p c h)

reset-says : (p : ClientPlan) (c : ClientState) (a : Present) (t : ℕ) (down : Bool) (m : Message) → SaysSo (reset_by p c a t down m).post
reset-says p c a t true m = tt
reset-says p c a t false (message.Commit x e first tracker ws) = record { tells_not = refl; ends_not = refl }
reset-says p c a t false (message.Ask x) = record { tells_not = refl; ends_not = refl }
reset-says p c a t false m = tt

answered-says : (p : ClientPlan) (c : ClientState) (a : Present) (m : Message) → SaysSo (answered p c a m).post
answered-says p c a (message.Fetched x op group e b) = subst SaysSo (sym (replied-silent p c (knows e a) b refl).no_post) tt
answered-says p c a (message.Ended x e how) = tt
answered-says p c a (message.Reset' t down place (more_of-Message m rest)) = reset-says p c (record a { waits = false }) t down m
answered-says p c a m = tt

heard-says : (p : ClientPlan) (c : ClientState) (m : Message) → SaysSo (heard p c m).post
unfolding heard
heard-says p c m = by c.present
  where
    by : (o : Option Present) → SaysSo (heard_at p (hears_epochs m c) m o).post
    by None = tt
    by (Some a) = for-it (a.waits && is_about (attempt_id p (hears_epochs m c) a) (about m))
      where
        for-it : (b : Bool) → SaysSo (if b then answered p (hears_epochs m c) a m else goes (hears_epochs m c)).post
        for-it true = answered-says p (hears_epochs m c) a m
        for-it false = tt

-- ---- letters

abbrev AllSentSo : List Letter → Type 0
AllSentSo ls = (l : Letter) → Has l ls → IsSentSo l

both-so : (ls ms : List Letter) → AllSentSo ls → AllSentSo ms → AllSentSo (ls ++ ms)
both-so ls ms k n l i = elim (has-cases ls ms l i) [ inl j ↦ k l j | inr j ↦ n l j ]

filter-so : (p : Letter → Bool) (ls : List Letter) → AllSentSo ls → AllSentSo (filter p ls)
filter-so p ls k l i = k l (has-from_filter p ls l i).0

target-so : (t : ℕ) (posts : List Post) → AreOfTarget posts → AllSentSo (letters_of (target t) posts)
target-so t posts of l i =
    let z = has-from_map (letter_of (target t)) posts l i in
    let o = of z.0 z.1 in
    subst IsSentSo z.2 (record { request = λ is. clash (is_request z.0.message) is o.asks_not; lost = λ is. clash (is_lost_request z.0.message) is o.tells_not; end = o.end })

client-so : (n : ℕ) (o : Option Post) → SaysSo o → AllSentSo (letters_of (client n) (listed o))
client-so n None says l i = absurd i
client-so n (Some q) says l (inr none) = absurd none
client-so n (Some q) says l (inl same) =
    subst IsSentSo (sym same) (record { request = λ is. refl; lost = λ is. clash (is_lost_request q.message) is says.tells_not; end = λ is. clash (is_end q.message) is says.ends_not })

resets-so : (down : Bool) (qs : List Letter) → AllSentSo qs → AllSentSo (map (reset_letter down) qs)
resets-so down qs k l i =
    let z = has-from_map (reset_letter down) qs l i in
    subst IsSentSo z.2 (record { request = λ is. (let no : ⊥ = cc in absurd no); lost = λ is. (k z.0 z.1).request is; end = λ is. (let no : ⊥ = cc in absurd no) })

asked-so : (asked ls : List Letter) → AllSentSo asked → AllSentSo ls → AllSentSo (asked_after asked ls)
asked-so asked ls k n l i = elim (asked-was asked ls l i) [ inl old ↦ k l old | inr new ↦ n l new.0 ]

-- ---- targets

waiters-set : (w : World) (t : ℕ) (z : TargetState) → RequestsAreOfClients w → WaitersAreClients z.memory → (u : ℕ) (s : TargetState) → slice_get (set w.targets t z) u ≡ Some s → WaitersAreClients s.memory
waiters-set w t z k of u s at = by (cases_eq u t)
  where
    by : (u ≡ t) ⊎ ((u ≡ t) → ⊥) → WaitersAreClients s.memory
    by (inl same) = subst (λ x. WaitersAreClients x.memory) (set-is w.targets t z s (subst (λ n. slice_get (set w.targets t z) n ≡ Some s) same at)) of
    by (inr apart) = k.waiters u s (sym (set-there w.targets t u z apart) ∙ at)

-- a target's turn
turns-so : (w v : World) (t : ℕ) (z : TargetState) (rest : List Letter) (posts : List Post) → ((l : Letter) → Has l rest → Has l w.messages) → v.targets ≡ set w.targets t z → v.messages ≡ rest ++ letters_of (target t) posts → v.asked ≡ asked_after w.asked (letters_of (target t) posts)
    → AreOfTarget posts → WaitersAreClients z.memory → RequestsAreOfClients w → RequestsAreOfClients v
turns-so w v t z rest posts left targets messages asked of waiters k = record {
  letters = subst AllSentSo (sym messages) (both-so rest (letters_of (target t) posts) (λ l i. k.letters l (left l i)) (target-so t posts of));
  asked = subst AllSentSo (sym asked) (asked-so w.asked (letters_of (target t) posts) k.asked (target-so t posts of));
  waiters = λ u s at. waiters-set w t z k waiters u s (ap (λ ts. slice_get ts u) (sym targets) ∙ at);
}

hears-so : (Turn : Hearing) (r : Rules) (w v : World) (g : TargetHearsBy Turn r w v) → FollowsFrom (g.memory, g.did) → RequestsAreOfClients w → RequestsAreOfClients v
hears-so Turn r w v g f k =
    turns-so w v g.t (target_after g.s g.new g.memory) g.rest g.did.posts (λ l i. has-left_over w.messages g.l g.rest l g.takes i) (ap (λ x. x.targets) g.after) (ap (λ x. x.messages) g.after) (ap (λ x. x.asked) g.after) f.posts f.waiters k

-- a target comes to know this, and what goes to it is lost
lost-so : (w v : World) (t : ℕ) (down : Bool) (z : TargetState) → v.targets ≡ set w.targets t z → v.messages ≡ filter (is_not_to t) w.messages ++ resets t down w.asked → v.asked ≡ filter (is_not_to t) w.asked → WaitersAreClients z.memory → RequestsAreOfClients w → RequestsAreOfClients v
lost-so w v t down z targets messages asked waiters k = record {
  letters = subst AllSentSo (sym messages) (both-so (filter (is_not_to t) w.messages) (resets t down w.asked) (filter-so (is_not_to t) w.messages k.letters) (resets-so down (filter (is_to t) w.asked) (filter-so (is_to t) w.asked k.asked)));
  asked = subst AllSentSo (sym asked) (filter-so (is_not_to t) w.asked k.asked);
  waiters = λ u s at. waiters-set w t z k waiters u s (ap (λ ts. slice_get ts u) (sym targets) ∙ at);
}

-- ---- clients

client-turn : (w : World) (n : ℕ) (m : Move) → RequestsAreOfClients w → SaysSo m.post → RequestsAreOfClients (after_move w n m)
client-turn w n m k says = record {
  letters = both-so w.messages (letters_of (client n) (listed m.post)) k.letters (client-so n m.post says);
  asked = asked-so w.asked (letters_of (client n) (listed m.post)) k.asked (client-so n m.post says);
  waiters = k.waiters;
}

-- ---- openings

statuses-sent : (inc : ℕ) (es : List Entry) → AreOfTarget (statuses_for inc es)
statuses-sent inc [] = none-sent
statuses-sent inc (e ∷ es) = both-sent (statuses_of inc e) (statuses_for inc es) (map-sent (status_to inc e.attempt) (other_members e) (λ t. plain-post (status_to inc e.attempt t) refl refl refl)) (statuses-sent inc es)

opening-sent : (r : Rules) (t : ℕ) (d : Durable) → AreOfTarget (opening_posts (target_plan r t) d)
unfolding opening_posts
opening-sent r t d = statuses-sent d.incarnation (filter is_open (filter (is_led t) d.entries))

opening-waiters : (r : Rules) (t : ℕ) (d : Durable) → WaitersAreClients (opening_memory (target_plan r t) d)
unfolding first_leader
opening-waiters r t d = record {
  rows = λ u c i is. (let z = has-from_map reopened_undecided (filter is_open (filter (is_led t) d.entries)) u i in let bad : None ≡ Some c = ap (λ y. y.client) z.2 ∙ is in let no : ⊥ = cc in absurd no);
  collecting = λ c i. absurd i;
}

-- ---- everything

module _ (r : Rules) (w v : World) (k : RequestsAreOfClients w) where
  asks-so : (l : Letter) → Has l w.messages → is_request l.message ≡ true → l.from.client ≡ true
  asks-so l i = (k.letters l i).request

  plainly : Event r w v → RequestsAreOfClients v
  plainly (ByClient g) = by-next r RequestsAreOfClients (λ u n c here p. client-turn u n (moved (client_plan r n) c) p (moved-says (client_plan r n) c)) (λ u n i c here p. record { letters = p.letters; asked = p.asked; waiters = p.waiters }) w v k g
  plainly (ToClient g) =
      by-hearing r RequestsAreOfClients (λ u n c here p. client-turn u n (moved (client_plan r n) c) p (moved-says (client_plan r n) c))
      (λ u n c l rest here awake takes to p. client-turn (without u rest) n (heard (client_plan r n) c l.message) (record { letters = λ q i. p.letters q (has-left_over u.messages l rest q takes i); asked = p.asked; waiters = p.waiters }) (heard-says (client_plan r n) c l.message)) w v k g
  plainly (ToTarget g) =
      hears-so _ r w v g
      (hears-follows (target_plan r g.t) g.s.opening g.s.memory g.reading g.l.from g.l.message (kept g.s) g.new (g.memory, g.did) (k.waiters g.t g.s g.here) (asks-so g.l (has-taken w.messages g.l g.rest g.takes)) g.turn) k
  plainly (ByTarget g) =
      let f = idles-follows g.settling (target_plan r g.t) g.s.memory (kept g.s) g.new (g.memory, g.did) (k.waiters g.t g.s g.here) g.turn in
      turns-so w v g.t (target_after g.s g.new g.memory) w.messages g.did.posts (λ l i. i) (ap (λ x. x.targets) g.after) (ap (λ x. x.messages) g.after) (ap (λ x. x.asked) g.after) f.posts f.waiters k

  pub requests-happen : Happening r w v → RequestsAreOfClients v
  requests-happen (Plainly e up) = plainly e
  requests-happen (Further g) =
      let i = has-taken w.messages g.hears.l g.hears.rest g.hears.takes in
      hears-so _ r w v g.hears
      (more-follows g.number (target_plan r g.hears.t) g.hears.s.opening g.hears.s.memory g.hears.reading g.hears.l.from g.hears.l.message (kept g.hears.s) g.hears.new (g.hears.memory, g.hears.did) (k.waiters g.hears.t g.hears.s g.hears.here) (asks-so g.hears.l i)
      (none-lost g.hears.l.message (λ is. (let there : true ≡ false = sym ((k.letters g.hears.l i).lost is) ∙ ap (λ a. a.client) g.hears.to_it in let no : ⊥ = cc in no))) g.hears.turn) k
    where
      none-lost : (m : Message) → (is_lost_request m ≡ true → ⊥) → is_lost_request m ≡ false
      none-lost m none = by (is_lost_request m) refl
        where
          by : (b : Bool) → is_lost_request m ≡ b → is_lost_request m ≡ false
          by true is = absurd (none is)
          by false is = is
  requests-happen (IsCut g) =
      lost-so w v g.t false (stopped_at g.s g.cut.left) (ap (λ x. x.targets) g.after) (ap (λ x. x.messages) g.after) (ap (λ x. x.asked) g.after) (record { rows = λ u c i is. absurd i; collecting = λ c i. absurd i }) k
  requests-happen (GivenUp g) = lost-so w v g.t true (record g.s { life = Down }) (ap (λ x. x.targets) g.after) (ap (λ x. x.messages) g.after) (ap (λ x. x.asked) g.after) (k.waiters g.t g.s g.here) k
  requests-happen (Opens g) =
      turns-so w v g.t (opened_at r g.t g.number g.s g.free) w.messages (opening_posts (target_plan r g.t) (reopened g.s.durable)) (λ l i. i) (ap (λ x. x.targets) g.after) (ap (λ x. x.messages) g.after) (ap (λ x. x.asked) g.after)
      (opening-sent r g.t (reopened g.s.durable)) (opening-waiters r g.t (reopened g.s.durable)) k
  requests-happen (Fails g) = record {
    letters = subst AllSentSo (sym (ap (λ x. x.messages) g.after)) k.letters;
    asked = subst AllSentSo (sym (ap (λ x. x.asked) g.after)) k.asked;
    waiters = λ u s at. waiters-set w g.t (record g.s { durable = g.k.durable; free = g.k.free }) k (k.waiters g.t g.s g.here) u s (ap (λ x. slice_get x.targets u) (sym g.after) ∙ at);
  }
  requests-happen (Draws g) = subst RequestsAreOfClients (sym g.after) (record { letters = k.letters; asked = k.asked; waiters = k.waiters })

-- what goes to targets that are given up is lost
pub requests-swept : (w : World) → RequestsAreOfClients w → RequestsAreOfClients (swept w)
requests-swept w k = record {
  letters = filter-so (is_not_to_down w.targets) (w.messages ++ map (reset_letter true) (filter (is_to_down w.targets) w.asked)) (both-so w.messages (map (reset_letter true) (filter (is_to_down w.targets) w.asked)) k.letters
      (resets-so true (filter (is_to_down w.targets) w.asked) (filter-so (is_to_down w.targets) w.asked k.asked)));
  asked = filter-so (is_not_to_down w.targets) w.asked k.asked;
  waiters = k.waiters;
}

pub requests-stay : (r : Rules) (w v : World) → WorldEvent r w v → RequestsAreOfClients w → RequestsAreOfClients v
requests-stay r w v e k = subst RequestsAreOfClients (sym e.after) (requests-swept e.u (requests-happen r w e.u k e.happens))

-- the beginning
pub requests-begin : (w : World) → w.messages ≡ [] → w.asked ≡ [] → ((t : ℕ) (s : TargetState) → slice_get w.targets t ≡ Some s → WaitersAreClients s.memory) → RequestsAreOfClients w
requests-begin w messages asked waiters = record { letters = λ l i. absurd (subst (Has l) messages i); asked = λ l i. absurd (subst (Has l) asked i); waiters = waiters }
