-- What one actor does is determined, in worlds that are the same but for free blocks.
use Rattle.std.specs.Prelude.{ℕ, ◌≡◌, Bool, true, false, List, slice_get, Option, Some, None, refl}
use Rattle.std.proofs.Common.{sym, ◌∙◌, ap, ap₂, subst}
use Rattle.base_types.specs.declared.epoch.Epoch.{Epoch}
use Rattle.base_types.specs.declared.outcome.FloorWhy.{FloorWhy}
use Rattle.base_messages.specs.declared.actor.ActorId.{ActorId}
use Rattle.base_messages.specs.declared.message.Message.{Message}
use Rattle.base_messages.specs.declared.message.Message.TheVariants as message
use Rattle.run_base.specs.Letters.{IsPicked}
use Rattle.run_base.specs.Numbers.{next_aggregate}
use Rattle.run_determined.specs.Clocks.{ReadAlike, cut-read, issues-alike, read_of_choice, reads-one}
use Rattle.run_determined.specs.Kinds.{kind_of, kinds-one}
use Rattle.run_determined.specs.Knowing.{IsSettledBy}
use Rattle.run_determined.specs.Leaving.{Fault, left_at}
use Rattle.run_laws.specs.turns.Readings.{read_for, read_in}
use Rattle.run_laws.specs.turns.Turns.{IsDoneBy, IsNoOpening}
use Rattle.world_base.specs.declared.did.Did.{Did}
use Rattle.world_base.specs.declared.letter.Letter.{Letter}
use Rattle.world_base.specs.declared.target.TargetMemory.{TargetMemory}
use Rattle.world_base.specs.declared.target.TargetPlan.{TargetPlan}
use Rattle.world_base.specs.declared.target.TargetState.{TargetState}
use Rattle.world_base.specs.declared.world.World.{World}
use Rattle.world_base.specs.Changes.{Kept}
use Rattle.world_base.specs.Commits.{CommitStage}
use Rattle.world_base.specs.Events.{ByClient, ByTarget, Rules, TargetHears, TargetHearsBy, ToClient, ToTarget, kept, target_plan}
use Rattle.world_base.specs.Further as down
use Rattle.world_base.specs.Further.{HearsFurther, KnowsNoneDown}
use Rattle.world_base.specs.Letters.{target}
use Rattle.world_base.specs.Stops.{Draws, Fails, Further, GivenUp, Happening, HearsMore, IsCut, IsFreeAggregate, Opens, Plainly, TargetCut, is_prune_message}
use Rattle.world_base.specs.TargetTurns.{Hears, commit_request}
use Rattle.world_determined.specs.Choices.{Choice, choice_of, cut_work}
use Rattle.world_determined.specs.ClientEvents.{client-hears-one, goes-one}
use Rattle.world_determined.specs.Events.{events-are_one}
use Rattle.world_determined.specs.Picks.{OnePick, picks-are_one}
use Rattle.world_determined.specs.Readings.{further-readings_are_one, readings-are_one}
use Rattle.world_determined.specs.TargetEvents.{Setting, further-one, hears-one, idles-one, one-setting, setting}
use Rattle.world_determined.specs.Worlds.{SameButFree, target-same}

-- ---- which messages are heard how

-- a message that is heard as without stops isn't heard further
not-both : (number : ℕ) (p : TargetPlan) (opening : Epoch × FloorWhy) (m : TargetMemory) (reading other : ℕ) (from : ActorId) (q : Message) (old new before after : Kept) (left right : TargetMemory × Did)
    → KnowsNoneDown p m q → Hears p opening m reading from q old new left → HearsFurther number p opening m other from q before after right → ⊥
not-both number p opening m reading other from (message.Commit x ep first tracker ws) old new before after left right none h k = told k.last after right k.ends
  where
    told : (s : CommitStage) (z : Kept) (l : TargetMemory × Did) → down.CommitDown p m other (commit_request x ep first tracker ws) from s z l → ⊥
    told s z l (down.IsSpent z' e d l' is known so) = let no = none e in cc (no, known)
    told s z l (down.IsUnknown z' e d l' known so) = let no = none e in cc (no, known)
not-both number p opening m reading other from (message.Ask x) old new before after left right none h k = h
not-both number p opening m reading other from (message.Status x inc) old new before after left right none h k = h
not-both number p opening m reading other from (message.StatusIs x inc how) old new before after left right none h k = h
not-both number p opening m reading other from (message.Snap x c called tracker) old new before after left right none h k = h
not-both number p opening m reading other from (message.Freeze x c s) old new before after left right none h k = h
not-both number p opening m reading other from (message.Held x refusal) old new before after left right none h k = h
not-both number p opening m reading other from (message.Prune x c tracker e) old new before after left right none h k = h
not-both number p opening m reading other from (message.Reset' by gone place more) old new before after left right none h k = h
not-both number p opening m reading other from q old new before after left right none h k = k

-- the number matters to what asks for an aggregation alone
numbered : (n o : ℕ) (p : TargetPlan) (opening : Epoch × FloorWhy) (m : TargetMemory) (reading : ℕ) (from : ActorId) (q : Message) (old new : Kept) (left : TargetMemory × Did)
    → (is_prune_message q ≡ true → n ≡ o) → HearsFurther n p opening m reading from q old new left → HearsFurther o p opening m reading from q old new left
numbered n o p opening m reading from (message.Prune x c tracker e) old new left same h = subst (λ i. HearsFurther i p opening m reading from (message.Prune x c tracker e) old new left) (same refl) h
numbered n o p opening m reading from q old new left same h = h

-- ---- one event

-- two events lead to worlds that are the same but for free blocks, and the same clock is read in them, if one is
pub record OneEvent {r : Rules} {w v w' v' : World} (e : Happening r w w') (f : Happening r v v') : Type 0 where
  pub then_same : SameButFree w' v'
  pub reads : read_in e ≡ read_in f

module _ (r : Rules) (settling : Bool) (a : ActorId) (k : ℕ) (w v : World) (same : SameButFree w v) where
  picked : (l m : Letter) (rest left : List Letter) → IsPicked w.messages a k l rest → IsPicked v.messages a k m left → OnePick l m rest left
  picked l m rest left p q = picks-are_one w.messages a k l m rest left p (subst (λ ms. IsPicked ms a k m left) (sym (ap (λ (x : World). x.messages) same)) q)

  one-target : (t u : ℕ) → a ≡ target t → a ≡ target u → t ≡ u
  one-target t u is other = ap (λ (x : ActorId). x.number) (sym is ∙ other)

  here-one : (t u : ℕ) (s z : TargetState) (l m : Letter) → t ≡ u → slice_get w.targets t ≡ Some s → slice_get v.targets u ≡ Some z → l ≡ m → setting t s 0 l ≡ setting u z 0 m
  here-one t u s z l m number here there heard = one-setting t u s z 0 0 l m number (target-same w v t s z same here (ap (slice_get v.targets) number ∙ there)) refl heard

  next-one : (q : Message) (n o : ℕ) → (is_prune_message q ≡ true → n ≡ next_aggregate w.lines) → (is_prune_message q ≡ true → o ≡ next_aggregate v.lines) → is_prune_message q ≡ true → n ≡ o
  next-one q n o mine his asks = mine asks ∙ ap (λ (x : World). next_aggregate x.lines) same ∙ sym (his asks)

  module _ (facts : IsSettledBy r w) (w' v' : World) where
    -- it hears at the other reading
    abbrev heard-again : (g : TargetHears r w w') (y : ℕ) → read_for g.t g.l.message g.reading ≡ read_for g.t g.l.message y → TargetHears r w w'
    heard-again g y reads = record {
      t = g.t;
      s = g.s;
      new = g.new;
      memory = g.memory;
      did = g.did;
      reading = y;
      l = g.l;
      rest = g.rest;
      here = g.here;
      runs = g.runs;
      takes = g.takes;
      to_it = g.to_it;
      turn = readings-are_one (target_plan r g.t) g.s.opening g.s.memory g.reading y g.l.from g.l.message (kept g.s) g.new (g.memory, g.did)
          (issues-alike (target_plan r g.t) g.s.memory g.t g.reading y g.l.message (facts.timed g.t g.s g.here g.runs) reads) g.turn;
      after = g.after;
    }

    -- and by the other number
    abbrev more-again : (g : HearsMore r w w') (y n : ℕ) → read_for g.hears.t g.hears.l.message g.hears.reading ≡ read_for g.hears.t g.hears.l.message y → (is_prune_message g.hears.l.message ≡ true → g.number ≡ n) → HearsMore r w w'
    more-again g y n reads next = record {
      number = n;
      hears = record {
        t = g.hears.t;
        s = g.hears.s;
        new = g.hears.new;
        memory = g.hears.memory;
        did = g.hears.did;
        reading = y;
        l = g.hears.l;
        rest = g.hears.rest;
        here = g.hears.here;
        runs = g.hears.runs;
        takes = g.hears.takes;
        to_it = g.hears.to_it;
        turn = numbered g.number n (target_plan r g.hears.t) g.hears.s.opening g.hears.s.memory y g.hears.l.from g.hears.l.message (kept g.hears.s) g.hears.new (g.hears.memory, g.hears.did) next
            (further-readings_are_one g.number (target_plan r g.hears.t) g.hears.s.opening g.hears.s.memory g.hears.reading y g.hears.l.from g.hears.l.message (kept g.hears.s) g.hears.new (g.hears.memory, g.hears.did)
            (issues-alike (target_plan r g.hears.t) g.hears.s.memory g.hears.t g.hears.reading y g.hears.l.message (facts.timed g.hears.t g.hears.s g.hears.here g.hears.runs) reads) g.hears.turn);
        after = g.hears.after;
      };
      fresh = λ asks. subst (IsFreeAggregate w) (next asks) (g.fresh asks);
    }

    -- the clock is read at the reading of the other
    read-there : (t u : ℕ) (q m : Message) (x y : ℕ) → t ≡ u → q ≡ m → ReadAlike (read_for t q x) (read_for u m y) → read_for t q x ≡ read_for t q y
    read-there t u q m x y number heard alike = reads-one t u q m x y number heard alike ∙ sym (ap₂ (λ (i : ℕ) (z : Message). read_for i z y) number heard)

    not-further : (g : TargetHears r w w') (h : HearsMore r v v') → KnowsNoneDown (target_plan r g.t) g.s.memory g.l.message → g.t ≡ h.hears.t → g.l ≡ h.hears.l → ⊥
    not-further g h none number heard =
        let at = here-one g.t h.hears.t g.s h.hears.s g.l h.hears.l number g.here h.hears.here heard in
        let turn : HearsFurther h.number (target_plan r g.t) g.s.opening g.s.memory h.hears.reading g.l.from g.l.message (kept h.hears.s) h.hears.new (h.hears.memory, h.hears.did) =
        subst (λ (x : Setting). HearsFurther h.number (target_plan r x.t) x.s.opening x.s.memory h.hears.reading x.l.from x.l.message (kept h.hears.s) h.hears.new (h.hears.memory, h.hears.did)) (sym at) h.hears.turn in
        not-both h.number (target_plan r g.t) g.s.opening g.s.memory g.reading h.hears.reading g.l.from g.l.message (kept g.s) g.new (kept h.hears.s) h.hears.new (g.memory, g.did) (h.hears.memory, h.hears.did) none g.turn turn

    not-plainly : (g : HearsMore r w w') (h : TargetHears r v v') → KnowsNoneDown (target_plan r h.t) h.s.memory h.l.message → g.hears.t ≡ h.t → g.hears.l ≡ h.l → ⊥
    not-plainly g h none number heard =
        let at = here-one g.hears.t h.t g.hears.s h.s g.hears.l h.l number g.hears.here h.here heard in
        let turn : HearsFurther g.number (target_plan r h.t) h.s.opening h.s.memory g.hears.reading h.l.from h.l.message (kept g.hears.s) g.hears.new (g.hears.memory, g.hears.did) =
        subst (λ (x : Setting). HearsFurther g.number (target_plan r x.t) x.s.opening x.s.memory g.hears.reading x.l.from x.l.message (kept g.hears.s) g.hears.new (g.hears.memory, g.hears.did)) at g.hears.turn in
        not-both g.number (target_plan r h.t) h.s.opening h.s.memory h.reading g.hears.reading h.l.from h.l.message (kept h.s) h.new (kept g.hears.s) g.hears.new (h.memory, h.did) (g.hears.memory, g.hears.did) none h.turn turn

    cut-reads : (g : TargetCut r w w') (h : TargetCut r v v') → choice_of r (IsCut g) ≡ choice_of r (IsCut h) → read_in {r = r} (IsCut g) ≡ read_in {r = r} (IsCut h)
    cut-reads g h chosen =
        cut-read w g.t (target_plan r g.t) g.s g.work g.cut g.in_hand g.turn ∙ ap read_of_choice chosen ∙ sym (cut-read v h.t (target_plan r h.t) h.s h.work h.cut h.in_hand h.turn)

    chosen-one : (c d : Choice) → Fault c ≡ Fault d → c ≡ d
    chosen-one c d same-left = cc

    pub done-one : (e : Happening r w w') (f : Happening r v v') → IsDoneBy settling r a k e → IsDoneBy settling r a k f → IsNoOpening r e → IsNoOpening r f → ReadAlike (read_in e) (read_in f) → left_at r e ≡ left_at r f → OneEvent e f
    done-one (Plainly (ByClient g) up) (Plainly (ByClient h) up') by by' plain plain' alike left =
        record { then_same = goes-one r w v w' v' same g h (ap (λ (x : ActorId). x.number) (sym by.0 ∙ by'.0)); reads = refl }
    done-one (Plainly (ToClient g) up) (Plainly (ToClient h) up') by by' plain plain' alike left =
        let one = picked g.l h.l g.rest h.rest by.1 by'.1 in
        record { then_same = client-hears-one r w v w' v' same g h (ap (λ (x : ActorId). x.number) (sym by.0 ∙ by'.0)) one.letter_same one.rest_same; reads = refl }
    done-one (Plainly (ToTarget g) up) (Plainly (ToTarget h) up') by by' plain plain' alike left =
        let one = picked g.l h.l g.rest h.rest by.1 by'.1 in
        let number = one-target g.t h.t by.0 by'.0 in
        let heard = ap (λ (x : Letter). x.message) one.letter_same in
        let reads = read-there g.t h.t g.l.message h.l.message g.reading h.reading number heard alike in
        record {
          then_same = hears-one r w v w' v' same facts.led (heard-again g h.reading reads) h number one.letter_same one.rest_same refl (cc (left));
          reads = reads-one g.t h.t g.l.message h.l.message g.reading h.reading number heard alike;
        }
    done-one (Plainly (ByTarget g) up) (Plainly (ByTarget h) up') by by' plain plain' alike left =
        record { then_same = idles-one r w v w' v' same g h (one-target g.t h.t by.0 by'.0) (by.2 ∙ sym by'.2); reads = refl }
    done-one (Further g) (Further h) by by' plain plain' alike left =
        let one = picked g.hears.l h.hears.l g.hears.rest h.hears.rest by.1 by'.1 in
        let number = one-target g.hears.t h.hears.t by.0 by'.0 in
        let heard = ap (λ (x : Letter). x.message) one.letter_same in
        let reads = read-there g.hears.t h.hears.t g.hears.l.message h.hears.l.message g.hears.reading h.hears.reading number heard alike in
        let next = next-one g.hears.l.message g.number h.number by.2 (λ asks. by'.2 (sym (ap is_prune_message heard) ∙ asks)) in
        record {
          then_same = further-one r w v w' v' same (more-again g h.hears.reading h.number reads next) h number one.letter_same one.rest_same refl refl;
          reads = reads-one g.hears.t h.hears.t g.hears.l.message h.hears.l.message g.hears.reading h.hears.reading number heard alike;
        }
    done-one (Plainly (ToTarget g) up) (Further h) by by' plain plain' alike left =
        absurd (not-further g h up (one-target g.t h.hears.t by.0 by'.0) (picked g.l h.hears.l g.rest h.hears.rest by.1 by'.1).letter_same)
    done-one (Further g) (Plainly (ToTarget h) up') by by' plain plain' alike left =
        absurd (not-plainly g h up' (one-target g.hears.t h.t by.0 by'.0) (picked g.hears.l h.l g.hears.rest h.rest by.1 by'.1).letter_same)
    done-one (IsCut g) (IsCut h) by by' plain plain' alike left =
        let chosen = chosen-one (choice_of r (IsCut g)) (choice_of r (IsCut h)) left in
        record { then_same = events-are_one r w v w' v' (IsCut g) (IsCut h) facts.led same chosen refl; reads = cut-reads g h chosen }
    done-one (Fails g) (Fails h) by by' plain plain' alike left =
        let chosen = chosen-one (choice_of r (Fails g)) (choice_of r (Fails h)) left in
        record { then_same = events-are_one r w v w' v' (Fails g) (Fails h) facts.led same chosen refl; reads = refl }
    done-one (Opens g) f by by' plain plain' alike left = absurd plain
    done-one (GivenUp g) f by by' plain plain' alike left = absurd by
    done-one (Draws g) f by by' plain plain' alike left = absurd by
    done-one e (Opens h) by by' plain plain' alike left = absurd plain'
    done-one e (GivenUp h) by by' plain plain' alike left = absurd by'
    done-one e (Draws h) by by' plain plain' alike left = absurd by'
    done-one e f by by' plain plain' alike left = let kinds = kinds-one r settling a k w v w' v' e f same by by' plain plain' left in let no : ⊥ = cc (kinds, left) in absurd no
