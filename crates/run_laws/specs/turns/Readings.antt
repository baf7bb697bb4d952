-- At which readings of its clock a target issued epochs: in a run of events, and in the turns that it consists of.
use Rattle.std.specs.Prelude.{ℕ, ◌≡◌, ◌++◌, ◌==◌, Bool, true, false, List, [], ◌∷◌, Option, Some, None, IfSome, refl, if◌then◌else◌}
use Rattle.std.proofs.Common.{ap, sym, ◌∙◌, subst, append-nil, arith}
use Rattle.std.proofs.lemmas.Bool.Decides.{nat_tests}
use Rattle.model_laws.specs.TargetLaws.{same_number}
use Rattle.base_messages.specs.declared.actor.ActorId.{ActorId}
use Rattle.base_messages.specs.declared.message.Message.{Message}
use Rattle.run_laws.specs.turns.OrderLaws.{turn-goes}
use Rattle.run_laws.specs.turns.Turns.{Doing, GivesUp, GivingUp, IsDraw, Opening, OpensBy, TurnOf}
use Rattle.target_core.specs.Targets.{has_epoch}
use Rattle.run_opening.specs.target_parts.Readings.{AreReadings, ReadOn, Unread, most_readings}
use Rattle.world_base.specs.declared.world.World.{World}
use Rattle.world_base.specs.Events.{ByClient, ByTarget, Rules, ToClient, ToTarget}
use Rattle.world_base.specs.Stops.{AtWork, Begins, Draws as DrawsNumbers, Fails, Further, GivenUp, Goes, Happening, Hearing, IdleWork, IsCut, Opens, Plainly, WorldRun}

-- ---- events

-- a target reads its clock where an epoch is to be issued for what it hears: its number, and the reading
abbrev pub read_for : ℕ → Message → ℕ → Option (ℕ × ℕ)
read_for t q reading = if has_epoch q then None else Some (t, reading)

abbrev pub read_at_work : ℕ → AtWork → Option (ℕ × ℕ)
read_at_work t (Hearing l reading number) = read_for t l.message reading
read_at_work t IdleWork = None

-- the target that reads its clock in an event, and the reading, if one does
abbrev pub read_in : {r : Rules} {w v : World} → Happening r w v → Option (ℕ × ℕ)
read_in (Plainly (ToTarget g) up) = read_for g.t g.l.message g.reading
read_in (Plainly (ByClient g) up) = None
read_in (Plainly (ToClient g) up) = None
read_in (Plainly (ByTarget g) up) = None
read_in (Further g) = read_for g.hears.t g.hears.l.message g.hears.reading
read_in (IsCut g) = read_at_work g.t g.work
read_in (Opens g) = None
read_in (Fails g) = None
read_in (GivenUp g) = None
read_in (DrawsNumbers g) = None

-- that reading, of this target, and none of any other one
abbrev pub reading_of : Option (ℕ × ℕ) → ℕ → List ℕ
reading_of None t = []
reading_of (Some z) t = if z.0 == t then z.1 ∷ [] else []

-- the readings of a target's clock in a run of events, one after another
abbrev pub readings_of : {r : Rules} {w v : World} → ℕ → WorldRun r w v → List ℕ
readings_of t Begins = []
readings_of t (Goes u v run e) = readings_of t run ++ reading_of (read_in e.happens) t

-- ---- clocks

-- A clock has given these readings since it was this one, one after another, and no other ones: each was the one that it gave next, where it tells that.
pub data HasGiven {C : Type 0} (is_read : C → C → Type 0) (next_reading : C → Option ℕ) (first : C) : List ℕ → C → Type 0 where
  NoneGiven : HasGiven is_read next_reading first [] first
  OneGiven : {readings : List ℕ} {c d : C} → HasGiven is_read next_reading first readings c → (reading : ℕ) → IfSome (next_reading c) (λ r. r ≡ reading) → is_read c d → HasGiven is_read next_reading first (readings ++ reading ∷ []) d

-- what a clock has given, it and then another one has given with the reading of this target, if there is one
abbrev pub GivesOn : {C : Type 0} → (C → C → Type 0) → (C → Option ℕ) → Option (ℕ × ℕ) → ℕ → C → C → Type 0
GivesOn {C} is_read next_reading read t c d = (first : C) (before : List ℕ) → HasGiven is_read next_reading first before c → HasGiven is_read next_reading first (before ++ reading_of read t) d

module _ {C : Type 0} (is_read : C → C → Type 0) (next_reading : C → Option ℕ) where
  -- a clock that isn't read gives none
  pub gives-none : (read : Option (ℕ × ℕ)) (t : ℕ) (c d : C) → reading_of read t ≡ [] → d ≡ c → GivesOn is_read next_reading read t c d
  gives-none read t c d none same first before given =
      subst (λ e. HasGiven is_read next_reading first (before ++ reading_of read t) e) (sym same)
      (subst (λ xs. HasGiven is_read next_reading first xs c) (sym (ap (λ ys. before ++ ys) none ∙ append-nil before)) given)

  same-unread : (c d : C) → AreReadings is_read 0 c d → d ≡ c
  same-unread c d k = by 0 c d refl k
    where
      by : (n : ℕ) (a b : C) → n ≡ 0 → AreReadings is_read n a b → b ≡ a
      by n a b none Unread = refl
      by n a b none (ReadOn more one) = absurd (omega (arith, none))

  once-read : (c d : C) → AreReadings is_read 1 c d → is_read c d
  once-read c d k = by 1 c d refl k
    where
      by : (n : ℕ) (a b : C) → n ≡ 1 → AreReadings is_read n a b → is_read a b
      by n a b one Unread = absurd (omega (arith, one))
      by n a b one (ReadOn {n = m} {d = e} more last) = let none : m ≡ 0 = omega (arith, one) in subst (λ z. is_read z b) (same-unread a e (subst (λ j. AreReadings is_read j a e) none more)) last

  -- a target's clock that was read as often as what it hears asks gives the reading at which it hears
  pub heard-gives : (t : ℕ) (q : Message) (reading : ℕ) (c d : C) → IfSome (next_reading c) (λ r. r ≡ reading) → AreReadings is_read (most_readings (has_epoch q)) c d → GivesOn is_read next_reading (read_for t q reading) t c d
  heard-gives t q reading c d is k = by (has_epoch q) k
    where
      own : (t == t) ≡ true
      own = same_number t

      by : (known : Bool) → AreReadings is_read (most_readings known) c d → GivesOn is_read next_reading (if known then None else Some (t, reading)) t c d
      by true k = gives-none None t c d refl (same-unread c d k)
      by false k = λ first before given. subst (λ b. HasGiven is_read next_reading first (before ++ (if b then reading ∷ [] else [])) d) (sym own) (OneGiven given reading is (once-read c d k))

-- ---- turns

-- the target that reads its clock in a turn, and the reading, if one does
abbrev pub read_by : {settling : Bool} {r : Rules} {a : ActorId} {k : ℕ} {w v : World} → TurnOf settling r a k w v → Option (ℕ × ℕ)
read_by (Doing d plain) = read_in d.event.happens
read_by (Opening u n draws d by) = None
read_by (GivingUp u d fault g up) = read_in d.event.happens

draw-reads_none : (r : Rules) (w u : World) (e : Happening r w u) → IsDraw r e → read_in e ≡ None
draw-reads_none r w u (DrawsNumbers g) is = refl
draw-reads_none r w u (Plainly e up) is = absurd is
draw-reads_none r w u (Further g) is = absurd is
draw-reads_none r w u (IsCut g) is = absurd is
draw-reads_none r w u (Opens g) is = absurd is
draw-reads_none r w u (Fails g) is = absurd is
draw-reads_none r w u (GivenUp g) is = absurd is

opening-reads_none : (r : Rules) (n : ℕ) (w u : World) (e : Happening r w u) → OpensBy r n e → read_in e ≡ None
opening-reads_none r n w u (Opens g) is = refl
opening-reads_none r n w u (Plainly e up) is = absurd is
opening-reads_none r n w u (Further g) is = absurd is
opening-reads_none r n w u (IsCut g) is = absurd is
opening-reads_none r n w u (DrawsNumbers g) is = absurd is
opening-reads_none r n w u (Fails g) is = absurd is
opening-reads_none r n w u (GivenUp g) is = absurd is

giving-reads_none : (r : Rules) (a : ActorId) (w u : World) (e : Happening r w u) → GivesUp r a e → read_in e ≡ None
giving-reads_none r a w u (GivenUp g) is = refl
giving-reads_none r a w u (Plainly e up) is = absurd is
giving-reads_none r a w u (Further g) is = absurd is
giving-reads_none r a w u (IsCut g) is = absurd is
giving-reads_none r a w u (Opens g) is = absurd is
giving-reads_none r a w u (DrawsNumbers g) is = absurd is
giving-reads_none r a w u (Fails g) is = absurd is

-- where none was read, the readings are those of before
none-more : (read : Option (ℕ × ℕ)) (t : ℕ) (xs : List ℕ) → read ≡ None → xs ++ reading_of read t ≡ xs
none-more read t xs none = ap (λ o. xs ++ reading_of o t) none ∙ append-nil xs

-- a turn adds its reading of a target to those of a run
pub turn-reads : (t : ℕ) (settling : Bool) (r : Rules) (a : ActorId) (k : ℕ) (w u v : World) (turn : TurnOf settling r a k u v) (run : WorldRun r w u) → readings_of t (turn-goes settling r a k w u v turn run) ≡ readings_of t run ++ reading_of (read_by turn) t
unfolding turn-goes
turn-reads t settling r a k w u v (Doing d plain) run = refl
turn-reads t settling r a k w u v (Opening x n draws d by) run =
    none-more (read_in d.event.happens) t (readings_of t run ++ reading_of (read_in n.happens) t) (opening-reads_none r u.numbers.restarts x d.event.u d.event.happens by)
    ∙ none-more (read_in n.happens) t (readings_of t run) (draw-reads_none r u n.u n.happens draws) ∙ sym (append-nil (readings_of t run))
turn-reads t settling r a k w u v (GivingUp x d fault g up) run = none-more (read_in g.happens) t (readings_of t run ++ reading_of (read_in d.event.happens) t) (giving-reads_none r a x g.u g.happens up)

-- ---- other targets

-- no other target reads its clock in what one hears
pub others-read : (t u : ℕ) (q : Message) (reading : ℕ) → (u ≡ t → ⊥) → reading_of (read_for t q reading) u ≡ []
others-read t u q reading apart = by (has_epoch q)
  where
    off : (t == u) ≡ false
    off = grind (arith, nat_tests)

    by : (known : Bool) → reading_of (if known then None else Some (t, reading)) u ≡ []
    by true = refl
    by false = ap (λ b. if b then reading ∷ [] else []) off
