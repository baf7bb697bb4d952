-- Every event of a run keeps it so that what is told of freezes and prunes is of attempts that make snapshots or aggregate.
use Rattle.std.specs.Prelude.{ℕ, ◌≡◌, ◌++◌, Bool, true, false, List, [], ◌∷◌, filter, map, Option, Some, None, refl}
use Rattle.std.proofs.Common.{sym, ◌∙◌, ap, subst, inl, inr}
use Rattle.base_types.specs.declared.entry.Entry.{Entry}
use Rattle.base_types.specs.declared.epoch.Epoch.{Epoch}
use Rattle.base_types.specs.declared.id.AttemptId.{AttemptId}
use Rattle.base_messages.specs.declared.actor.ActorId.{ActorId}
use Rattle.base_messages.specs.declared.message.Message.{Message, more_of-Message}
use Rattle.base_messages.specs.declared.message.Message.TheVariants as message
use Rattle.base_messages.specs.declared.message.Post.{Post}
use Rattle.daos_model.specs.Accesses.{minor_writes}
use Rattle.daos_model.specs.Changes.{reopened}
use Rattle.daos_model.specs.declared.durable.Durable.{Durable}
use Rattle.daos_model.specs.Transactions.{ops_or_none}
use Rattle.dtx_base.specs.LeaderLaws.{same-is}
use Rattle.dtx_base.specs.Leading.{is_led, is_open, to_target}
use Rattle.dtx_base.specs.Members.{other_members}
use Rattle.model_laws.specs.Members.{Has, contains-from_has, has-cases, has-from_filter, has-from_map}
use Rattle.world_causes.specs.world_commit.attempts.Counting.{has-left_over, has-taken}
use Rattle.world_base.specs.declared.client.ClientState.{ClientState}
use Rattle.world_base.specs.declared.client.Present.{Present}
use Rattle.world_base.specs.declared.letter.Letter.{Letter}
use Rattle.world_base.specs.declared.target.TargetMemory.{TargetMemory}
use Rattle.world_base.specs.declared.target.TargetPlan.{TargetPlan}
use Rattle.world_base.specs.declared.world.World.{World}
use Rattle.world_base.specs.ClientTurns.{heard, listed, moved, waits}
use Rattle.world_base.specs.Events.{ByClient, ByTarget, Event, Rules, TargetHearsBy, ToClient, ToTarget, client_plan, kept, target_plan}
use Rattle.world_base.specs.Further.{HearsFurther}
use Rattle.world_base.specs.Letters.{asked_after, client, letter_of, letters_of, target}
use Rattle.world_base.specs.Snapshots.{freeze_to, others, prune_to}
use Rattle.world_base.specs.Statuses.{opening_posts, status_to, statuses_for, statuses_of}
use Rattle.world_base.specs.StepLaws.{by-hearing, by-next}
use Rattle.world_base.specs.Steps.{KeptByCounting, KeptByHearing, KeptByMoves}
use Rattle.world_base.specs.Stops.{Draws, Fails, Further, GivenUp, Happening, IsCut, Opens, Plainly, is_not_to, is_not_to_down, is_to, is_to_down, reset_letter, resets, swept, with_lost}
use Rattle.world_letters.specs.endings.Clients.{IsQuestion, heard-asks}
use Rattle.world_causes.specs.world_commit.fates.Asking.{asked-was}
use Rattle.world_letters.specs.lines.EndingLaws.{all-hear-tell, idle-tells}
use Rattle.world_letters.specs.lines.Lines.{Endings}
use Rattle.world_making.specs.makers.Laws.{EventsKeepMakers, MakersBegin, MakersWrite}
use Rattle.world_making.specs.makers.Makers.{IsMaker, IsPruneRight, IsToldByMaker, MakersTell}
use Rattle.world_making.specs.makers.Posts.{NoneIsOfMaking, all-plainly, further-none}
use Rattle.world_making.specs.making.Making.{AsksAgain, AsksFreezes, AsksPrunes, EndsCollected, EndsIt, MakingSends, SaysFrozen, SaysNothing, SaysPruned, SaysRefused, is_lost_at, is_of_snapshots, tells_of_snapshots}
use Rattle.world_making.specs.making.Turns.{hearings-leave}
use Rattle.world_causes.specs.outcomes.Premises.{makes}
use Rattle.world_letters.specs.snapshots.Makings.{IsSo, Makings}
use Rattle.world_letters.specs.talks.AskLaws.{move-is, waiting-rests}
use Rattle.world_letters.specs.talks.Asked.{ARead, ASnapshot, AnAggregation, Asked, Asking, IsMove, ItsWrites, Silent, Telling}
use Rattle.world_causes.specs.outcomes.Outcomes.{HasWrites}

-- ---- messages

-- what isn't of a snapshot or an aggregation tells of none
pub others-right : (r : Rules) (m : Message) → tells_of_snapshots m ≡ false → IsToldByMaker r m
others-right r (message.Snap x c name tracker) off = tt
others-right r (message.Freeze x c s) off = tt
others-right r (message.Held x refusal) off = let no : ⊥ = cc in absurd no
others-right r (message.Prune x c tracker e) off = let no : ⊥ = cc in absurd no
others-right r (message.Reset' t down place (more_of-Message q rest)) off = inner q off
  where
    inner : (q : Message) → is_of_snapshots q ≡ false → IsPruneRight q
    inner (message.Prune x c tracker e) is = let no : ⊥ = cc in absurd no
    inner q is = tt
others-right r m off = tt

right-told : (r : Rules) (m : Message) → IsToldByMaker r m → IsPruneRight m
right-told r (message.Held x refusal) h = tt
right-told r (message.Reset' t down place (more_of-Message q rest)) h = tt
right-told r (message.Prune x c tracker e) h = h
right-told r m h = tt

-- ---- what is sent

abbrev AreRight : Rules → List Post → Type 0
AreRight r posts = (q : Post) → Has q posts → IsToldByMaker r q.message

none-right : (r : Rules) (posts : List Post) → NoneIsOfMaking posts → AreRight r posts
none-right r posts off q i = others-right r q.message (off q i)

one-right : (r : Rules) (q : Post) → IsToldByMaker r q.message → AreRight r (q ∷ [])
one-right r q is s (inl same) = subst (λ z. IsToldByMaker r z.message) (sym same) is
one-right r q is s (inr none) = absurd none

all-right : (r : Rules) (to : ℕ → Post) (ts : List ℕ) → ((t : ℕ) → IsToldByMaker r (to t).message) → AreRight r (map to ts)
all-right r to ts each q i = let z = has-from_map to ts q i in subst (λ y. IsToldByMaker r y.message) z.2 (each z.0)

-- what is asked again was asked so
again-right : (r : Rules) (by : ℕ) (q asked : Message) → is_lost_at by q asked → IsToldByMaker r q → IsToldByMaker r asked
again-right r by (message.Reset' t false place (more_of-Message (message.Freeze y c s) rest)) asked h is = subst (IsToldByMaker r) (sym h.1) tt
again-right r by (message.Reset' t false place (more_of-Message (message.Prune y c tracker e) rest)) asked h is = subst (IsToldByMaker r) (sym h.1) is
again-right r by q asked h is = absurd h

making-right : (r : Rules) (is : List (AttemptId × Epoch)) (p : TargetPlan) (m : TargetMemory) (from : ActorId) (q : Message) (d : Durable) (posts : List Post) → IsSo r is q
    → IsToldByMaker r q → MakingSends p m from q d posts → AreRight r posts
making-right r is p m from q d posts so told (AsksFreezes x c name tracker s same frozen all) = subst (AreRight r) (sym all) (all-right r (freeze_to x c s) (others p) (λ t. tt))
making-right r is p m from q d posts so told (AsksPrunes x c tracker g same all) = subst (AreRight r) (sym all) (all-right r (prune_to x c g) (others p) (λ t. tt))
making-right r is p m from q d posts so told (SaysFrozen x c s same frozen one) = let its = subst (IsSo r is) same so in subst (AreRight r) (sym one) (one-right r _ (c, inl its.1))
making-right r is p m from q d posts so told (SaysRefused x c s how same why one) = let its = subst (IsSo r is) same so in subst (AreRight r) (sym one) (one-right r _ (c, inl its.1))
making-right r is p m from q d posts so told (SaysPruned x c g same one) = let its = subst (IsSo r is) same so in subst (AreRight r) (sym one) (one-right r _ (c, inr its.1))
making-right r is p m from q d posts so told (EndsIt x own how asked one) = subst (AreRight r) (sym one) (one-right r _ tt)
making-right r is p m from q d posts so told (EndsCollected x c how of found one) = subst (AreRight r) (sym one) (one-right r _ tt)
making-right r is p m from q d posts so told (AsksAgain by asked lost one) = subst (AreRight r) (sym one) (one-right r (to_target by asked) (again-right r by q asked lost told))
making-right r is p m from q d posts so told (SaysNothing unasked none) = subst (AreRight r) (sym none) (λ z i. absurd i)

-- ---- turns

turn-keeps : (r : Rules) (w v : World) (from : ActorId) (rest : List Letter) (posts : List Post) → v.messages ≡ rest ++ letters_of from posts
    → v.asked ≡ asked_after w.asked (letters_of from posts) → ((l : Letter) → Has l rest → Has l w.messages)
    → AreRight r posts → MakersTell r w → MakersTell r v
turn-keeps r w v from rest posts messages asked left right k = record {
  letters = λ l i. elim (has-cases rest (letters_of from posts) l (subst (Has l) messages i)) [ inl j ↦ k.letters l (left l j) | inr j ↦ sent l j ];
  asked = λ l i. elim (asked-was w.asked (letters_of from posts) l (subst (Has l) asked i)) [ inl j ↦ k.asked l j | inr j ↦ right-told r l.message (sent l j.0) ];
}
  where
    sent : (l : Letter) → Has l (letters_of from posts) → IsToldByMaker r l.message
    sent l i = let z = has-from_map (letter_of from) posts l i in subst (λ y. IsToldByMaker r y.message) z.2 (right z.0 z.1)

-- ---- clients

asks-right : (r : Rules) (n : ℕ) (k : Epoch) (c : ClientState) (a : Present) (q : Post) → Asked (client_plan r n) k c a q → IsToldByMaker r q.message
asks-right r n k c a q (ARead ops turns snapshot op rd at here asks says) = subst (λ x. IsToldByMaker r x.message) (sym says) tt
asks-right r n k c a q (ItsWrites ops turns snapshot w ws at last all says) = subst (λ x. IsToldByMaker r x.message) (sym says) tt
asks-right r n k c a q (ASnapshot name cont at says) = subst (λ x. IsToldByMaker r x.message) (sym says) tt
asks-right r n k c a q (AnAggregation cont at says) = subst (λ x. IsToldByMaker r x.message) (sym says) tt

option-right : (r : Rules) (o : Option Post) → ((q : Post) → o ≡ Some q → IsToldByMaker r q.message) → AreRight r (listed o)
option-right r None each q i = absurd i
option-right r (Some s) each q (inl same) = subst (λ z. IsToldByMaker r z.message) (sym same) (each s refl)
option-right r (Some s) each q (inr none) = absurd none

move-right : (r : Rules) (n : ℕ) (c : ClientState) → AreRight r (listed (moved (client_plan r n) c).post)
move-right r n c = by (waits c) refl
  where
    same-post : (o : Option Post) (s q : Post) → o ≡ Some s → o ≡ Some q → IsToldByMaker r s.message → IsToldByMaker r q.message
    same-post o s q one two = let same : s ≡ q = cc in subst (λ z. IsToldByMaker r z.message) same

    is-a : IsMove (client_plan r n) c (moved (client_plan r n) c) → AreRight r (listed (moved (client_plan r n) c).post)
    is-a (Silent free none) = option-right r _ (λ q is. let no : ⊥ = cc (none, is) in absurd no)
    is-a (Telling m none free says) = option-right r _ (λ q is. same-post _ _ q says is tt)
    is-a (Asking a s at asked says state) = option-right r _ (λ q is. same-post _ s q says is (asks-right r n c.tracker c a s asked))

    by : (b : Bool) → waits c ≡ b → AreRight r (listed (moved (client_plan r n) c).post)
    by true h = option-right r _ (λ q is. let none = ap (λ m. m.post) (waiting-rests (client_plan r n) c h) in let no : ⊥ = cc (none, is) in absurd no)
    by false h = is-a (move-is (client_plan r n) c h)

question-right : (r : Rules) (o : Option Post) → IsQuestion o → AreRight r (listed o)
question-right r None asks q i = absurd i
question-right r (Some s) asks q (inl same) = subst (IsToldByMaker r) (sym (ap (λ x. x.message) same ∙ asks.1)) tt
question-right r (Some s) asks q (inr none) = absurd none

module _ (r : Rules) where
  right-moves : KeptByMoves r (MakersTell r)
  right-moves w n c here k = turn-keeps r w _ (client n) w.messages (listed (moved (client_plan r n) c).post) refl refl (λ l i. i) (move-right r n c) k

  right-hearing : KeptByHearing r (MakersTell r)
  right-hearing w n c l rest here awake takes to k =
      turn-keeps r w _ (client n) rest (listed (heard (client_plan r n) c l.message).post) refl refl (λ m i. has-left_over w.messages l rest m takes i) (question-right r _ (heard-asks (client_plan r n) c l.message)) k

  right-counting : KeptByCounting (MakersTell r)
  right-counting w n k c here b = record { letters = b.letters; asked = b.asked }

-- ---- targets

plain-keeps : (r : Rules) (w v : World) → Endings w → Event r w v → MakersTell r w → MakersTell r v
plain-keeps r w v ends (ByClient g) k = by-next r (MakersTell r) (right-moves r) (right-counting r) w v k g
plain-keeps r w v ends (ToClient g) k = by-hearing r (MakersTell r) (right-moves r) (right-hearing r) w v k g
plain-keeps r w v ends (ToTarget g) k =
    turn-keeps r w v (target g.t) g.rest g.did.posts (ap (λ u. u.messages) g.after) (ap (λ u. u.asked) g.after) (λ l i. has-left_over w.messages g.l g.rest l g.takes i)
    (none-right r g.did.posts (all-plainly g.did.posts (all-hear-tell (target_plan r g.t) g.s.opening g.s.memory g.reading g.l.from g.l.message (kept g.s) g.new (g.memory, g.did)
    (ends g.l (contains-from_has w.messages g.l (has-taken w.messages g.l g.rest g.takes))) g.turn).0)) k
plain-keeps r w v ends (ByTarget g) k =
    turn-keeps r w v (target g.t) w.messages g.did.posts (ap (λ u. u.messages) g.after) (ap (λ u. u.asked) g.after) (λ l i. i)
    (none-right r g.did.posts (all-plainly g.did.posts (idle-tells g.settling (target_plan r g.t) g.s.memory g.turn.last g.new (g.memory, g.did) g.turn.ends).0)) k

module _ (number : ℕ) (r : Rules) (w v : World) (makings : Makings r w) (k : MakersTell r w) (g : TargetHearsBy (HearsFurther number) r w v) where
  flies : Has g.l w.messages
  flies = has-taken w.messages g.l g.rest g.takes

  sent-right : (b : Bool) → tells_of_snapshots g.l.message ≡ b → AreRight r g.did.posts
  sent-right false off = none-right r g.did.posts (further-none number (target_plan r g.t) g.s.opening g.s.memory g.reading g.l.from g.l.message (kept g.s) g.new (g.memory, g.did) off g.turn)
  sent-right true is =
      making-right r w.issued (target_plan r g.t) g.s.memory g.l.from g.l.message g.new.durable g.did.posts (makings.letters g.l flies) (k.letters g.l flies)
      (hearings-leave number (target_plan r g.t) g.s.opening g.s.memory g.reading g.l.from g.l.message (kept g.s) g.new (g.memory, g.did) g.turn is).ends.sends

  more-keeps : MakersTell r v
  more-keeps =
      turn-keeps r w v (target g.t) g.rest g.did.posts (ap (λ u. u.messages) g.after) (ap (λ u. u.asked) g.after) (λ l i. has-left_over w.messages g.l g.rest l g.takes i) (sent-right (tells_of_snapshots g.l.message) refl) k

-- ---- openings, and what is lost

statuses-right : (r : Rules) (inc : ℕ) (es : List Entry) → AreRight r (statuses_for inc es)
statuses-right r inc [] q i = absurd i
statuses-right r inc (e ∷ es) q i = elim (has-cases (statuses_of inc e) (statuses_for inc es) q i) [
  | inl j ↦ all-right r (status_to inc e.attempt) (other_members e) (λ t. tt) q j
  | inr j ↦ statuses-right r inc es q j
]

opening-right : (r : Rules) (t : ℕ) (d : Durable) → AreRight r (opening_posts (target_plan r t) d)
unfolding opening_posts
opening-right r t d = statuses-right r d.incarnation (filter is_open (filter (is_led t) d.entries))

resets-right : (r : Rules) (down : Bool) (p : Letter → Bool) (w : World) → MakersTell r w → (l : Letter) → Has l (map (reset_letter down) (filter p w.asked)) → IsToldByMaker r l.message
resets-right r down p w k l i =
    let z = has-from_map (reset_letter down) (filter p w.asked) l i in
    subst (λ x. IsToldByMaker r x.message) z.2 (k.asked z.0 (has-from_filter p w.asked z.0 z.1).0)

lost-keeps : (r : Rules) (t : ℕ) (down : Bool) (w : World) → MakersTell r w → MakersTell r (with_lost t down w)
lost-keeps r t down w k = record {
  letters = λ l i. elim (has-cases (filter (is_not_to t) w.messages) (resets t down w.asked) l i) [ inl j ↦ k.letters l (has-from_filter (is_not_to t) w.messages l j).0 | inr j ↦ resets-right r down (is_to t) w k l j ];
  asked = λ l i. k.asked l (has-from_filter (is_not_to t) w.asked l i).0;
}

sweep-keeps : (r : Rules) (w : World) → MakersTell r w → MakersTell r (swept w)
sweep-keeps r w k = record {
  letters = λ l i. elim (has-cases w.messages told l (has-from_filter (is_not_to_down w.targets) (w.messages ++ told) l i).0) [ inl j ↦ k.letters l j | inr j ↦ resets-right r true (is_to_down w.targets) w k l j ];
  asked = λ l i. k.asked l (has-from_filter (is_not_to_down w.targets) w.asked l i).0;
}
  where
    told : List Letter
    told = map (reset_letter true) (filter (is_to_down w.targets) w.asked)

-- ---- every event

happening-keeps : (r : Rules) (w v : World) → Happening r w v → Endings w → Makings r w → MakersTell r w → MakersTell r v
happening-keeps r w v (Plainly e up) ends makings k = plain-keeps r w v ends e k
happening-keeps r w v (Further f) ends makings k = more-keeps f.number r w v makings k f.hears
happening-keeps r w v (IsCut g) ends makings k = subst (MakersTell r) (sym g.after) (lost-keeps r g.t false _ (record { letters = k.letters; asked = k.asked }))
happening-keeps r w v (Opens g) ends makings k =
    turn-keeps r w v (target g.t) w.messages (opening_posts (target_plan r g.t) (reopened g.s.durable)) (ap (λ u. u.messages) g.after) (ap (λ u. u.asked) g.after) (λ l i. i) (opening-right r g.t (reopened g.s.durable)) k
happening-keeps r w v (Fails g) ends makings k = subst (MakersTell r) (sym g.after) (record { letters = k.letters; asked = k.asked })
happening-keeps r w v (GivenUp g) ends makings k = subst (MakersTell r) (sym g.after) (lost-keeps r g.t true _ (record { letters = k.letters; asked = k.asked }))
happening-keeps r w v (Draws g) ends makings k = subst (MakersTell r) (sym g.after) (record { letters = k.letters; asked = k.asked })

pub event-keeps : EventsKeepMakers
event-keeps r w v e ends makings k = subst (MakersTell r) (sym e.after) (sweep-keeps r e.u (happening-keeps r w e.u e.happens ends makings k))

pub makers-begin : MakersBegin
makers-begin r w messages asked = record { letters = λ l i. absurd (subst (Has l) messages i); asked = λ l i. absurd (subst (Has l) asked i) }

-- ---- makers write nothing

-- an attempt that makes a snapshot or aggregates has no operations
maker-writes : (r : Rules) (x : AttemptId) → IsMaker r x → HasWrites r x → ⊥
unfolding minor_writes
maker-writes r x (c, inl made) some = some (ap (λ o. minor_writes 0 (ops_or_none o)) made.1)
maker-writes r x (c, inr made) some = some (ap (λ o. minor_writes 0 (ops_or_none o)) made)

module _ (r : Rules) (is : List (AttemptId × Epoch)) where
  about-maker : (x : AttemptId) (m : Message) → makes x m ≡ true → IsSo r is m → IsToldByMaker r m → IsMaker r x
  about-maker x (message.Snap y c name tracker) on so told = subst (IsMaker r) (same-is y x on) (c, inl (name, so))
  about-maker x (message.Freeze y c s) on so told = subst (IsMaker r) (same-is y x on) (c, inl so.1)
  about-maker x (message.Held y refusal) on so told = subst (IsMaker r) (same-is y x on) told
  about-maker x (message.Prune y c (Some tracker) None) on so told = subst (IsMaker r) (same-is y x on) (c, inr so)
  about-maker x (message.Prune y c None (Some g)) on so told = subst (IsMaker r) (same-is y x on) (c, inr so.1)
  about-maker x (message.Prune y c None None) on so told = absurd told
  about-maker x (message.Prune y c (Some tracker) (Some g)) on so told = absurd told
  about-maker x m on so told = let no : ⊥ = cc in absurd no

pub makers-write : MakersWrite
makers-write r w makings k l x i makes' some = maker-writes r x (about-maker r w.issued x l.message makes' (makings.letters l i) (k.letters l i)) some
