-- Where a run in an order begins to settle: nobody has a message to hear or a command to go on with, and idle work has asked nothing yet.
use Rattle.world_commit.specs.statuses.Events.{told_by}
use Rattle.world_closing.specs.Below.{AreRulesInForm, IsStill, RunBeginsWith, attempts-happened, begins-well, grows-with, later-with, runs-are_accounted}
use Rattle.std.specs.Prelude.{ℕ, ◌≡◌, ◌<◌, ◌||◌, ◌&&◌, ◌==◌, true, false, not, nat_lt, List, [], length, slice_get, Some, None}
use Rattle.std.proofs.Common.{sym, ◌∙◌, ap, subst}
use Rattle.std.proofs.lemmas.Option.{slice_get_within}
use Rattle.base_types.specs.declared.id.AttemptId.{AttemptId}
use Rattle.base_messages.specs.declared.actor.ActorId.{ActorId}
use Rattle.model_laws.specs.Lists.{at-within}
use Rattle.model_laws.specs.Members.{Has, has-left, has-right}
use Rattle.daos_model.specs.BoolLaws.{clash}
use Rattle.daos_model.specs.Opening.{Opening}
use Rattle.dtx_base.specs.declared.member.Inquiry.{Inquiry}
use Rattle.dtx_base.specs.Joining.{is_inquiry_due}
use Rattle.dtx_base.specs.Leading.{is_batch_due}
use Rattle.run_base.specs.Picked.{none-to}
use Rattle.run_base.specs.Picks.{actors, count_to, due, if_client_due, if_target_due, is_client_due, is_due, is_due_where, is_target_due, numbered}
use Rattle.run_laws.specs.turns.OrderLaws.{turn-goes}
use Rattle.run_laws.specs.turns.Keeping.{draws-keep, rounds-keep}
use Rattle.run_laws.specs.turns.Orders.{AndThen, ByDraws, ByRounds, Draws, HasIt, HasNone, InOrder, InTurn, NoDraw, NoRound, Nobody, OneDraw, OneRound, OneTurn, Rounds}
use Rattle.run_laws.specs.turns.Turns.{Doing, GivesUp, GivingUp, IsDoneBy, IsDraw, Opening as OpeningTurn, TurnOf}
use Rattle.world_commit.specs.asks.Asks.{IsQueryOf}
use Rattle.world_base.specs.declared.client.ClientState.{ClientState}
use Rattle.world_base.specs.declared.letter.Letter.{Letter}
use Rattle.world_base.specs.declared.target.Life.TheVariants.{Running}
use Rattle.world_base.specs.declared.target.TargetState.{TargetState}
use Rattle.world_base.specs.declared.world.World.{World}
use Rattle.world_base.specs.ClientTurns.{is_done, waits}
use Rattle.world_base.specs.Events.{ByClient, ByTarget, Rules, ToClient, ToTarget, client_plan, target_plan}
use Rattle.world_base.specs.Idle.{has_idle}
use Rattle.world_base.specs.Letters.{client, target}
use Rattle.world_base.specs.Roles.{leader_at, member_at}
use Rattle.world_base.specs.Stops.{Begins, Draws as NumbersAreDrawn, Fails, Further, GivenUp, Goes, Happening, IsCut, Opens, Plainly, WorldEvent, WorldRun}
use Rattle.run_laws.specs.reports.Inquiries.{AnswersOne, AsksNow, InquiriesCome, InquiryComes, IsAnswered, IsAsked, IsSettling, LetterComes, Stays, WasFlying, inquiries-come, swept-come}
use Rattle.run_base.specs.Quiet.{none-passes, has-number, none-left, left-false, one-true}

-- ---- idle work has asked nothing

pub record NoneInquires (w : World) : Type 0 where
  pub rows : (m : ℕ) (s : TargetState) (q : Inquiry) → slice_get w.targets m ≡ Some s → Has q s.memory.member.inquiries → ⊥
  pub letters : (m : ℕ) (x : AttemptId) (l : Letter) → Has l w.messages → IsQueryOf m x None l → ⊥

-- it stays so in what isn't idle work of the settling phase
come-none : (settles : Type 0) (r : Rules) (w u : World) → (settles → ⊥) → InquiriesCome settles r w u → NoneInquires w → NoneInquires u
come-none settles r w u off come none = record { rows = λ m s q here i. row m q (come.rows m s q here i); letters = λ m x l i q. letter m x l q (come.letters m x l i q) }
  where
    row : (m : ℕ) (q : Inquiry) → InquiryComes settles w m q → ⊥
    row m q (Stays z here i) = none.rows m z q here i
    row m q (IsAsked now is) = off now
    row m q (IsAnswered z old here i told) = none.rows m z old here i

    letter : (m : ℕ) (x : AttemptId) (l : Letter) → IsQueryOf m x None l → LetterComes settles r w m x l → ⊥
    letter m x l q (WasFlying i) = none.letters m x l i q
    letter m x l q (AnswersOne f held) = none.letters m x f.0 f.1 f.2
    letter m x l q (AsksNow now untold) = off now

-- a turn before the settling phase has no such work
done-unsettled : (r : Rules) (a : ActorId) (k : ℕ) (w u : World) (e : Happening r w u) → IsDoneBy false r a k e → IsSettling e → ⊥
done-unsettled r a k w u (Plainly (ByTarget g) up) by is = let bad : true ≡ false = sym is ∙ by.2 in let no : ⊥ = cc in no
done-unsettled r a k w u (Plainly (ByClient g) up) by is = is
done-unsettled r a k w u (Plainly (ToClient g) up) by is = is
done-unsettled r a k w u (Plainly (ToTarget g) up) by is = is
done-unsettled r a k w u (Further g) by is = is
done-unsettled r a k w u (IsCut g) by is = is
done-unsettled r a k w u (Opens g) by is = is
done-unsettled r a k w u (Fails g) by is = is
done-unsettled r a k w u (GivenUp g) by is = is
done-unsettled r a k w u (NumbersAreDrawn g) by is = is

draw-unsettled : (r : Rules) (w u : World) (e : Happening r w u) → IsDraw r e → IsSettling e → ⊥
draw-unsettled r w u (Plainly (ByTarget g) up) draws is = draws
draw-unsettled r w u (Plainly (ByClient g) up) draws is = is
draw-unsettled r w u (Plainly (ToClient g) up) draws is = is
draw-unsettled r w u (Plainly (ToTarget g) up) draws is = is
draw-unsettled r w u (Further g) draws is = is
draw-unsettled r w u (IsCut g) draws is = is
draw-unsettled r w u (Opens g) draws is = is
draw-unsettled r w u (Fails g) draws is = is
draw-unsettled r w u (GivenUp g) draws is = is
draw-unsettled r w u (NumbersAreDrawn g) draws is = is

given-up-unsettled : (r : Rules) (a : ActorId) (w u : World) (e : Happening r w u) → GivesUp r a e → IsSettling e → ⊥
given-up-unsettled r a w u (Plainly (ByTarget g) up) gives is = gives
given-up-unsettled r a w u (Plainly (ByClient g) up) gives is = is
given-up-unsettled r a w u (Plainly (ToClient g) up) gives is = is
given-up-unsettled r a w u (Plainly (ToTarget g) up) gives is = is
given-up-unsettled r a w u (Further g) gives is = is
given-up-unsettled r a w u (IsCut g) gives is = is
given-up-unsettled r a w u (Opens g) gives is = is
given-up-unsettled r a w u (Fails g) gives is = is
given-up-unsettled r a w u (GivenUp g) gives is = is
given-up-unsettled r a w u (NumbersAreDrawn g) gives is = is

-- ---- the run up to there

module _ (r : Rules) (o : Opening) (w : World) (A : AreRulesInForm r) (B : RunBeginsWith r o w) where
  -- a run from the beginning, in which idle work asked nothing
  record AsksNone (v : World) : Type 0 where
    run : WorldRun r w v
    none : NoneInquires v

  event-asks : (u v : World) (e : WorldEvent r u v) → (IsSettling e.happens → ⊥) → AsksNone u → AsksNone v
  event-asks u v e off k =
      let a = runs-are_accounted r o w u A (begins-well r o w B) k.run in
      let after = attempts-happened r o a.0 (later-with a.0 (told_by e.happens)) u v A.some_attempt a.1.grounds e (grows-with a.0 (told_by e.happens)) in
      let happened = come-none (IsSettling e.happens) r u e.u off (inquiries-come r u e.u a.0 _ a.1.grounds.heard.attempts after e.happens) k.none in
      record { run = Goes u v k.run e; none = subst NoneInquires (sym e.after) (come-none ⊥ r e.u _ (λ no. no) (swept-come r _ e.u after) happened) }

  turn-asks : (a : ActorId) (n : ℕ) (u v : World) → TurnOf false r a n u v → AsksNone u → AsksNone v
  turn-asks a n u v (Doing d plain) k = event-asks u v d.event (done-unsettled r a n u d.event.u d.event.happens d.by) k
  turn-asks a n u v (OpeningTurn x e draws d by) k = event-asks x v d.event (done-unsettled r a n x d.event.u d.event.happens d.by) (event-asks u x e (draw-unsettled r u e.u e.happens draws) k)
  turn-asks a n u v (GivingUp x d fault g up) k = event-asks x v g (given-up-unsettled r a x g.u g.happens up) (event-asks u x d.event (done-unsettled r a n u d.event.u d.event.happens d.by) k)

  one-asks : (a : ActorId) (u v : World) → OneTurn false r a u v → AsksNone u → AsksNone v
  one-asks a u v (HasIt is t) k = turn-asks a 0 u v t k
  one-asks a u v (HasNone is same) k = subst AsksNone (sym same) k

  in_turn-asks : (u : World) (as' : List ActorId) (v : World) → InTurn false r u as' v → AsksNone u → AsksNone v
  in_turn-asks u as' v Nobody k = k
  in_turn-asks u as' v (AndThen before a x y t one) k = one-asks a x y one (in_turn-asks u before x t k)

  rounds-ask : (u v : World) → Rounds false r u v → AsksNone u → AsksNone v
  rounds-ask u v NoRound k = k
  rounds-ask u v (OneRound x y t some round) k = in_turn-asks x (actors x) y round (rounds-ask u x t k)

  draws-ask : (n : ℕ) (u : World) (m : ℕ) (v : World) → Draws false r n u m v → AsksNone u → AsksNone v
  draws-ask n u m v NoDraw k = k
  draws-ask n u m v (OneDraw z a x y t turn) k = turn-asks turn.actor _ x y turn.turn (draws-ask n u z x t k)

  begins : AsksNone w
  begins = record {
    run = Begins;
    none = record {
      rows = λ m s q here i. subst (Has q) (ap (λ y. y.inquiries) (B.starts m s here).member) i;
      letters = λ m x l i q. subst (Has l) B.messages i;
    };
  }

  -- ---- and the rest of it

  -- the run goes by a world where no actor has anything to do before the settling phase
  pub record HasMiddle (v : World) : Type 0 where
    pub middle : World
    pub run : WorldRun r w middle
    pub none : NoneInquires middle
    pub quiet : due false r middle ≡ []
    pub rest : WorldRun r middle v

  pub orders-have-middle : (order : ℕ) (v : World) → InOrder r order w v → HasMiddle v
  orders-have-middle order v (ByRounds is u k l) =
      let z = rounds-ask w u k.rounds begins in
      record { middle = u; run = z.run; none = z.none; quiet = k.over; rest = rounds-keep r (WorldRun r u) (λ settling a n x y t run. turn-goes settling r a n u x y t run) true u v l.rounds Begins }
  orders-have-middle order v (ByDraws is x y u k l) =
      let z = draws-ask order w x u k.draws begins in
      record { middle = u; run = z.run; none = z.none; quiet = k.over; rest = draws-keep r (WorldRun r u) (λ settling a n x2 y2 t run. turn-goes settling r a n u x2 y2 t run) true x u y v l.draws Begins }

-- ---- what holds there

module _ (r : Rules) (w : World) (lists : length w.clients ≡ length r.script.clients) (quiet : due false r w ≡ []) where
  client-quiet : (n : ℕ) (c : ClientState) → slice_get w.clients n ≡ Some c → is_client_due (client_plan r n) c (count_to (client n) w.messages) ≡ false
  client-quiet n c here =
      ap (if_client_due (client_plan r n) (count_to (client n) w.messages)) (sym here)
      ∙ none-passes (is_due false r w) (actors w) (client n) quiet (has-left (numbered client (length w.clients)) (numbered target (length w.targets)) (client n) (has-number client (length w.clients) n (slice_get_within w.clients n c here)))

  target-quiet : (t : ℕ) (s : TargetState) → slice_get w.targets t ≡ Some s → is_target_due false (target_plan r t) s (count_to (target t) w.messages) ≡ false
  target-quiet t s here =
      ap (if_target_due false (target_plan r t) (count_to (target t) w.messages)) (sym here)
      ∙ none-passes (is_due false r w) (actors w) (target t) quiet (has-right (numbered client (length w.clients)) (numbered target (length w.targets)) (target t) (has-number target (length w.targets) t (slice_get_within w.targets t s here)))

  busy : (t : ℕ) (s : TargetState) → slice_get w.targets t ≡ Some s → s.life ≡ Running → (nat_lt 0 (count_to (target t) w.messages) ≡ false) × (has_idle false (target_plan r t) s.memory s.durable ≡ false)
  busy t s here runs =
      left-false (nat_lt 0 (count_to (target t) w.messages)) (has_idle false (target_plan r t) s.memory s.durable)
      (ap (λ l. is_due_where l (nat_lt 0 (count_to (target t) w.messages) || has_idle false (target_plan r t) s.memory s.durable)) (sym runs) ∙ target-quiet t s here)

  client-parts : (n : ℕ) (c : ClientState) → slice_get w.clients n ≡ Some c → (nat_lt 0 (count_to (client n) w.messages) ≡ false) × (not (waits c || is_done (client_plan r n) c) ≡ false)
  client-parts n c here =
      let a = left-false (nat_lt 0 c.skip || nat_lt 0 (count_to (client n) w.messages)) (not (waits c || is_done (client_plan r n) c)) (client-quiet n c here) in
      ((left-false (nat_lt 0 c.skip) (nat_lt 0 (count_to (client n) w.messages)) a.0).1, a.1)

  -- nobody has a message to hear, or a command to go on with
  pub middle-still : IsStill r w
  middle-still = record {
    to_clients = λ n l within i to. let c = at-within w.clients n (subst (λ m. n < m) (sym lists) within) in none-to (client n) w.messages (client-parts n c.0 c.1).0 l i to;
    to_targets = λ t s l here runs i to. none-to (target t) w.messages (busy t s here runs).0 l i to;
    clients = λ n c here. one-true (waits c) (is_done (client_plan r n) c) (client-parts n c here).1;
    none_stopped = λ t s here stopped. clash (is_target_due false (target_plan r t) s (count_to (target t) w.messages)) (ap (λ l. is_due_where l (nat_lt 0 (count_to (target t) w.messages) || has_idle false (target_plan r t) s.memory s.durable)) stopped) (target-quiet t s here);
  }

  -- and no target that runs knows of a decided attempt that is left to settle
  pub middle-settled : (t : ℕ) (s : TargetState) → slice_get w.targets t ≡ Some s → s.life ≡ Running → s.memory.leader.decided ≡ []
  unfolding has_idle
  middle-settled t s here runs =
      let a = left-false (not (length s.memory.leader.decided == 0) || is_batch_due (leader_at (target_plan r t) s.memory s.durable)) (false && is_inquiry_due s.durable.entries (member_at (target_plan r t) s.memory)) (busy t s here runs).1 in
      none-left s.memory.leader.decided (left-false (not (length s.memory.leader.decided == 0)) (is_batch_due (leader_at (target_plan r t) s.memory s.durable)) a.0).0
