-- Every event of a run keeps it so that freezes are told to be refused by floors, or for want of space, alone.
use Rattle.std.specs.Prelude.{ℕ, ◌≡◌, ◌++◌, Bool, true, false, List, [], ◌∷◌, filter, map, Option, Some, None, Result, Ok, Err, refl}
use Rattle.std.proofs.Common.{sym, ◌∙◌, ap, subst, inl, inr}
use Rattle.base_types.specs.declared.epoch.Epoch.{Epoch}
use Rattle.base_types.specs.declared.id.ContId.{ContId}
use Rattle.base_types.specs.declared.outcome.Outcome.{Outcome}
use Rattle.base_messages.specs.declared.actor.ActorId.{ActorId}
use Rattle.base_messages.specs.declared.message.Message.{Message, more_of-Message}
use Rattle.base_messages.specs.declared.message.Message.TheVariants as message
use Rattle.base_messages.specs.declared.message.Post.{Post}
use Rattle.daos_model.specs.Changes.{reopened}
use Rattle.daos_model.specs.declared.durable.Durable.{Durable}
use Rattle.dtx_base.specs.Leading.{is_led, is_open, to_target}
use Rattle.model_laws.specs.Members.{Has, contains-from_has, has-cases, has-from_filter, has-from_map}
use Rattle.vos_store.specs.declared.refusal.FreezeNo.{FreezeNo}
use Rattle.vos_store.specs.declared.refusal.FreezeNo.TheVariants as freeze
use Rattle.vos_store.specs.Answers.{freezes}
use Rattle.world_causes.specs.world_commit.attempts.Counting.{has-left_over, has-taken}
use Rattle.world_base.specs.declared.client.ClientState.{ClientState}
use Rattle.world_base.specs.declared.client.Present.{Present}
use Rattle.world_base.specs.declared.letter.Letter.{Letter}
use Rattle.world_base.specs.declared.target.TargetMemory.{TargetMemory}
use Rattle.world_base.specs.declared.target.TargetPlan.{TargetPlan}
use Rattle.world_base.specs.declared.world.World.{World}
use Rattle.world_base.specs.ClientTurns.{heard, listed, moved, waits}
use Rattle.world_base.specs.Events.{ByClient, ByTarget, Event, Rules, TargetHearsBy, ToClient, ToTarget, client_plan, kept, target_plan}
use Rattle.world_base.specs.Further.{HearsFurther}
use Rattle.world_base.specs.Letters.{client, letter_of, letters_of, target}
use Rattle.world_base.specs.Snapshots.{freeze_cause, freeze_refusal, freeze_to, others, prune_to, refusal_of}
use Rattle.world_base.specs.Statuses.{opening_posts}
use Rattle.world_base.specs.StepLaws.{by-hearing, by-next}
use Rattle.world_base.specs.Steps.{KeptByCounting, KeptByHearing, KeptByMoves, after_move, without}
use Rattle.world_base.specs.Stops.{Draws, Fails, Further, GivenUp, Happening, IsCut, Opens, Plainly, is_not_to, is_not_to_down, is_to, is_to_down, reset_letter, resets, swept}
use Rattle.world_letters.specs.endings.Clients.{IsQuestion, heard-asks}
use Rattle.world_letters.specs.lines.EndingLaws.{all-hear-tell, idle-tells}
use Rattle.world_letters.specs.lines.Lines.{Endings}
use Rattle.world_making.specs.losses.Refusals.{EventsKeepFreezeRefusals, FreezeRefusalsBegin, FreezesAreRefusedSo, IsFreezeRefusal, IsHeldSo}
use Rattle.world_making.specs.makers.Posts.{NoneIsOfMaking, all-plainly, further-none}
use Rattle.world_making.specs.making.Making.{AsksAgain, AsksFreezes, AsksPrunes, EndsCollected, EndsIt, MakingSends, SaysFrozen, SaysNothing, SaysPruned, SaysRefused, is_lost_at, tells_of_snapshots}
use Rattle.world_making.specs.making.Turns.{hearings-leave}
use Rattle.world_causes.specs.world_commit.stops.Questions.{question-is}
use Rattle.world_letters.specs.talks.AskLaws.{move-is, waiting-rests}
use Rattle.world_letters.specs.talks.Asked.{ARead, ASnapshot, AnAggregation, Asked, Asking, IsMove, ItsWrites, Silent, Telling}

-- ---- by what a freeze is refused

refused-so : (p : TargetPlan) (a : Result (Unit {0}) FreezeNo) (how : Outcome) → refusal_of p a ≡ Some how → IsFreezeRefusal how
refused-so p (Ok done) how e = let no : ⊥ = cc in absurd no
refused-so p (Err e) how is = by e (let same : freeze_refusal p e ≡ how = cc in same)
  where
    by : (e : FreezeNo) → freeze_refusal p e ≡ how → IsFreezeRefusal how
    by (freeze.Below g n) same = subst IsFreezeRefusal same tt
    by freeze.NoPlace same = subst IsFreezeRefusal same tt
    by other same = subst IsFreezeRefusal same tt

pub cause-refuses : (p : TargetPlan) (c : ContId) (s : Epoch) (d : Durable) (how : Outcome) → freeze_cause p c s d ≡ Some how → IsFreezeRefusal how
cause-refuses p c s d how is = refused-so p (freezes c s d) how is

-- ---- what is sent

abbrev AreSo : List Post → Type 0
AreSo posts = (q : Post) → Has q posts → IsHeldSo q.message

others-so : (m : Message) → tells_of_snapshots m ≡ false → IsHeldSo m
others-so (message.Held x refusal) off = let no : ⊥ = cc in absurd no
others-so m off = tt

none-so : (posts : List Post) → NoneIsOfMaking posts → AreSo posts
none-so posts off q i = others-so q.message (off q i)

one-so : (q : Post) → IsHeldSo q.message → AreSo (q ∷ [])
one-so q is s (inl same) = subst (λ z. IsHeldSo z.message) (sym same) is
one-so q is s (inr none) = absurd none

all-so : (to : ℕ → Post) (ts : List ℕ) → ((t : ℕ) → IsHeldSo (to t).message) → AreSo (map to ts)
all-so to ts each q i = let z = has-from_map to ts q i in subst (λ y. IsHeldSo y.message) z.2 (each z.0)

-- what is asked again is a Freeze or a Prune
again-so : (by : ℕ) (q asked : Message) → is_lost_at by q asked → IsHeldSo asked
again-so by (message.Reset' t false place (more_of-Message (message.Freeze y c s) rest)) asked h = subst IsHeldSo (sym h.1) tt
again-so by (message.Reset' t false place (more_of-Message (message.Prune y c tracker e) rest)) asked h = subst IsHeldSo (sym h.1) tt
again-so by q asked h = absurd h

making-so : (p : TargetPlan) (m : TargetMemory) (from : ActorId) (q : Message) (d : Durable) (posts : List Post) → MakingSends p m from q d posts → AreSo posts
making-so p m from q d posts (AsksFreezes x c name tracker s same frozen all) = subst AreSo (sym all) (all-so (freeze_to x c s) (others p) (λ t. tt))
making-so p m from q d posts (AsksPrunes x c tracker g same all) = subst AreSo (sym all) (all-so (prune_to x c g) (others p) (λ t. tt))
making-so p m from q d posts (SaysFrozen x c s same frozen one) = subst AreSo (sym one) (one-so _ tt)
making-so p m from q d posts (SaysRefused x c s how same why one) = subst AreSo (sym one) (one-so _ (cause-refuses p c s d how why))
making-so p m from q d posts (SaysPruned x c g same one) = subst AreSo (sym one) (one-so _ tt)
making-so p m from q d posts (EndsIt x own how asked one) = subst AreSo (sym one) (one-so _ tt)
making-so p m from q d posts (EndsCollected x c how of found one) = subst AreSo (sym one) (one-so _ tt)
making-so p m from q d posts (AsksAgain by asked lost one) = subst AreSo (sym one) (one-so (to_target by asked) (again-so by q asked lost))
making-so p m from q d posts (SaysNothing unasked none) = subst AreSo (sym none) (λ z i. absurd i)

-- ---- turns

turn-keeps : (w v : World) (from : ActorId) (rest : List Letter) (posts : List Post) → v.messages ≡ rest ++ letters_of from posts → ((l : Letter) → Has l rest → Has l w.messages)
    → AreSo posts → FreezesAreRefusedSo w → FreezesAreRefusedSo v
turn-keeps w v from rest posts messages left so k l i = elim (has-cases rest (letters_of from posts) l (subst (Has l) messages i)) [
  | inl j ↦ k l (left l j)
  | inr j ↦ (let z = has-from_map (letter_of from) posts l j in subst (λ y. IsHeldSo y.message) z.2 (so z.0 z.1))
]

-- ---- clients

asks-so : (r : Rules) (n : ℕ) (k : Epoch) (c : ClientState) (a : Present) (q : Post) → Asked (client_plan r n) k c a q → IsHeldSo q.message
asks-so r n k c a q (ARead ops turns snapshot op rd at here asks says) = subst (λ x. IsHeldSo x.message) (sym says) tt
asks-so r n k c a q (ItsWrites ops turns snapshot w ws at last all says) = subst (λ x. IsHeldSo x.message) (sym says) tt
asks-so r n k c a q (ASnapshot name cont at says) = subst (λ x. IsHeldSo x.message) (sym says) tt
asks-so r n k c a q (AnAggregation cont at says) = subst (λ x. IsHeldSo x.message) (sym says) tt

option-so : (o : Option Post) → ((q : Post) → o ≡ Some q → IsHeldSo q.message) → AreSo (listed o)
option-so None each q i = absurd i
option-so (Some s) each q (inl same) = subst (λ z. IsHeldSo z.message) (sym same) (each s refl)
option-so (Some s) each q (inr none) = absurd none

move-so : (r : Rules) (n : ℕ) (c : ClientState) → AreSo (listed (moved (client_plan r n) c).post)
move-so r n c = by (waits c) refl
  where
    same-post : (o : Option Post) (s q : Post) → o ≡ Some s → o ≡ Some q → IsHeldSo s.message → IsHeldSo q.message
    same-post o s q one two = let same : s ≡ q = cc in subst (λ z. IsHeldSo z.message) same

    is-a : IsMove (client_plan r n) c (moved (client_plan r n) c) → AreSo (listed (moved (client_plan r n) c).post)
    is-a (Silent free none) = option-so _ (λ q is. let no : ⊥ = cc (none, is) in absurd no)
    is-a (Telling m none free says) = option-so _ (λ q is. same-post _ _ q says is tt)
    is-a (Asking a s at asked says state) = option-so _ (λ q is. same-post _ s q says is (asks-so r n c.tracker c a s asked))

    by : (b : Bool) → waits c ≡ b → AreSo (listed (moved (client_plan r n) c).post)
    by true h = option-so _ (λ q is. let none = ap (λ m. m.post) (waiting-rests (client_plan r n) c h) in let no : ⊥ = cc (none, is) in absurd no)
    by false h = is-a (move-is (client_plan r n) c h)

question-so : (o : Option Post) → IsQuestion o → AreSo (listed o)
question-so None asks q i = absurd i
question-so (Some s) asks q (inl same) = subst IsHeldSo (sym (ap (λ x. x.message) same ∙ asks.1)) tt
question-so (Some s) asks q (inr none) = absurd none

module _ (r : Rules) where
  so-moves : KeptByMoves r FreezesAreRefusedSo
  so-moves w n c here k = turn-keeps w (after_move w n (moved (client_plan r n) c)) (client n) w.messages (listed (moved (client_plan r n) c).post) refl (λ l i. i) (move-so r n c) k

  so-hearing : KeptByHearing r FreezesAreRefusedSo
  so-hearing w n c l rest here awake takes to k =
      turn-keeps w (after_move (without w rest) n (heard (client_plan r n) c l.message)) (client n) rest (listed (heard (client_plan r n) c l.message).post) refl
      (λ m i. has-left_over w.messages l rest m takes i) (question-so _ (heard-asks (client_plan r n) c l.message)) k

  so-counting : KeptByCounting FreezesAreRefusedSo
  so-counting w n k c here b = b

-- ---- targets

plain-keeps : (r : Rules) (w v : World) → Endings w → Event r w v → FreezesAreRefusedSo w → FreezesAreRefusedSo v
plain-keeps r w v ends (ByClient g) k = by-next r FreezesAreRefusedSo (so-moves r) (so-counting r) w v k g
plain-keeps r w v ends (ToClient g) k = by-hearing r FreezesAreRefusedSo (so-moves r) (so-hearing r) w v k g
plain-keeps r w v ends (ToTarget g) k =
    turn-keeps w v (target g.t) g.rest g.did.posts (ap (λ u. u.messages) g.after) (λ l i. has-left_over w.messages g.l g.rest l g.takes i)
    (none-so g.did.posts (all-plainly g.did.posts (all-hear-tell (target_plan r g.t) g.s.opening g.s.memory g.reading g.l.from g.l.message (kept g.s) g.new (g.memory, g.did)
    (ends g.l (contains-from_has w.messages g.l (has-taken w.messages g.l g.rest g.takes))) g.turn).0)) k
plain-keeps r w v ends (ByTarget g) k =
    turn-keeps w v (target g.t) w.messages g.did.posts (ap (λ u. u.messages) g.after) (λ l i. i)
    (none-so g.did.posts (all-plainly g.did.posts (idle-tells g.settling (target_plan r g.t) g.s.memory g.turn.last g.new (g.memory, g.did) g.turn.ends).0)) k

module _ (number : ℕ) (r : Rules) (w v : World) (g : TargetHearsBy (HearsFurther number) r w v) where
  sent-so : (b : Bool) → tells_of_snapshots g.l.message ≡ b → AreSo g.did.posts
  sent-so false off = none-so g.did.posts (further-none number (target_plan r g.t) g.s.opening g.s.memory g.reading g.l.from g.l.message (kept g.s) g.new (g.memory, g.did) off
      g.turn)
  sent-so true is =
      making-so (target_plan r g.t) g.s.memory g.l.from g.l.message g.new.durable g.did.posts
      (hearings-leave number (target_plan r g.t) g.s.opening g.s.memory g.reading g.l.from g.l.message (kept g.s) g.new (g.memory, g.did) g.turn is).ends.sends

  more-keeps : FreezesAreRefusedSo w → FreezesAreRefusedSo v
  more-keeps = turn-keeps w v (target g.t) g.rest g.did.posts (ap (λ u. u.messages) g.after) (λ l i. has-left_over w.messages g.l g.rest l g.takes i)
      (sent-so (tells_of_snapshots g.l.message) refl)

-- ---- openings, and what is lost

opening-so : (r : Rules) (t : ℕ) (d : Durable) → AreSo (opening_posts (target_plan r t) d)
unfolding opening_posts
opening-so r t d q i = let z = question-is d.incarnation (filter is_open (filter (is_led t) d.entries)) q i in subst (λ y. IsHeldSo y.message) (sym z.is) tt

resets-so : (down : Bool) (qs : List Letter) (l : Letter) → Has l (map (reset_letter down) qs) → IsHeldSo l.message
resets-so down qs l i = let z = has-from_map (reset_letter down) qs l i in subst (λ x. IsHeldSo x.message) z.2 tt

lost-keeps : (t : ℕ) (down : Bool) (w v : World) → v.messages ≡ filter (is_not_to t) w.messages ++ resets t down w.asked → FreezesAreRefusedSo w → FreezesAreRefusedSo v
lost-keeps t down w v messages k l i = elim (has-cases (filter (is_not_to t) w.messages) (resets t down w.asked) l (subst (Has l) messages i)) [
  | inl j ↦ k l (has-from_filter (is_not_to t) w.messages l j).0
  | inr j ↦ resets-so down (filter (is_to t) w.asked) l j
]

sweep-keeps : (w : World) → FreezesAreRefusedSo w → FreezesAreRefusedSo (swept w)
sweep-keeps w k l i = elim (has-cases w.messages told l (has-from_filter (is_not_to_down w.targets) (w.messages ++ told) l i).0) [
  | inl j ↦ k l j
  | inr j ↦ resets-so true (filter (is_to_down w.targets) w.asked) l j
]
  where
    told : List Letter
    told = map (reset_letter true) (filter (is_to_down w.targets) w.asked)

-- ---- every event

happening-keeps : (r : Rules) (w v : World) → Happening r w v → Endings w → FreezesAreRefusedSo w → FreezesAreRefusedSo v
happening-keeps r w v (Plainly e up) ends k = plain-keeps r w v ends e k
happening-keeps r w v (Further f) ends k = more-keeps f.number r w v f.hears k
happening-keeps r w v (IsCut g) ends k = lost-keeps g.t false w v (ap (λ u. u.messages) g.after) k
happening-keeps r w v (Opens g) ends k =
    turn-keeps w v (target g.t) w.messages (opening_posts (target_plan r g.t) (reopened g.s.durable)) (ap (λ u. u.messages) g.after) (λ l i. i)
    (opening-so r g.t (reopened g.s.durable)) k
happening-keeps r w v (Fails g) ends k = λ l i. k l (subst (Has l) (ap (λ u. u.messages) g.after) i)
happening-keeps r w v (GivenUp g) ends k = lost-keeps g.t true w v (ap (λ u. u.messages) g.after) k
happening-keeps r w v (Draws g) ends k = λ l i. k l (subst (Has l) (ap (λ u. u.messages) g.after) i)

pub freeze-refusals-keep : EventsKeepFreezeRefusals
freeze-refusals-keep r w v e ends k = subst FreezesAreRefusedSo (sym e.after) (sweep-keeps e.u (happening-keeps r w e.u e.happens ends k))

pub freeze-refusals-begin : FreezeRefusalsBegin
freeze-refusals-begin w none l i = absurd (subst (Has l) none i)
