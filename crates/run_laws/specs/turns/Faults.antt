-- How often a target's turn was cut, or its opening failed: in a run of events, and in the turns that it consists of.
use Rattle.std.specs.Prelude.{ℕ, ◌≡◌, ◌+◌, ◌==◌, Bool, List, Option, Some, None, refl, if◌then◌else◌}
use Rattle.std.proofs.Common.{ap, subst, sym}
use Rattle.std.proofs.Math.Path.{path_j, subst_refl}
use Rattle.base_messages.specs.declared.actor.ActorId.{ActorId}
use Rattle.run_laws.specs.turns.Orders.{AndThen, ByDraws, ByRounds, Draws, HasIt, HasNone, InOrder, InTurn, NoDraw, NoRound, Nobody, OneDraw, OneRound, OneTurn, Rounds}
use Rattle.run_laws.specs.turns.Turns.{Doing, GivesUp, GivingUp, IsDoneBy, IsDraw, IsFault, Opening, OpensBy, TurnOf}
use Rattle.world_base.specs.declared.world.World.{World}
use Rattle.world_base.specs.Events.{Rules}
use Rattle.world_base.specs.Letters.{target}
use Rattle.world_base.specs.Stops.{Begins, Draws as DrawsNumbers, Fails, Further, GivenUp, Goes, Happening, IsCut, Opens, Plainly, WorldRun}

-- ---- events

-- the target whose turn is cut in an event, or whose opening fails, if there is one
abbrev pub fault_in : {r : Rules} {w v : World} → Happening r w v → Option ℕ
fault_in (IsCut g) = Some g.t
fault_in (Fails g) = Some g.t
fault_in (Plainly e up) = None
fault_in (Further g) = None
fault_in (Opens g) = None
fault_in (GivenUp g) = None
fault_in (DrawsNumbers g) = None

-- 1 for that target, and 0 for every other
abbrev pub once_for : Option ℕ → ℕ → ℕ
once_for None t = 0
once_for (Some u) t = if u == t then 1 else 0

-- in how many events of a run this target's turn was cut, or its opening failed
abbrev pub cuts_and_failures : {r : Rules} {w v : World} → ℕ → WorldRun r w v → ℕ
cuts_and_failures t Begins = 0
cuts_and_failures t (Goes u v run e) = cuts_and_failures t run + once_for (fault_in e.happens) t

-- ---- turns

-- the target whose turn it is that is cut, or in which its opening fails, if it is so
abbrev pub fault_by : {settling : Bool} {r : Rules} {a : ActorId} {k : ℕ} {w v : World} → TurnOf settling r a k w v → Option ℕ
fault_by (Doing d plain) = fault_in d.event.happens
fault_by (Opening u n draws d by) = None
fault_by (GivingUp u d fault g up) = fault_in d.event.happens

-- in how many turns of a round it was so of a target
abbrev pub faults_in_one : {settling : Bool} {r : Rules} {a : ActorId} {w v : World} → ℕ → OneTurn settling r a w v → ℕ
faults_in_one t (HasIt is turn) = once_for (fault_by turn) t
faults_in_one t (HasNone is same) = 0

abbrev pub faults_in_turn : {settling : Bool} {r : Rules} {w : World} {some : List ActorId} {v : World} → ℕ → InTurn settling r w some v → ℕ
faults_in_turn t Nobody = 0
faults_in_turn t (AndThen before a u v k one) = faults_in_turn t k + faults_in_one t one

-- of rounds
abbrev pub faults_in_rounds : {settling : Bool} {r : Rules} {w v : World} → ℕ → Rounds settling r w v → ℕ
faults_in_rounds t NoRound = 0
faults_in_rounds t (OneRound u v k some round) = faults_in_rounds t k + faults_in_turn t round

-- of turns that were drawn
abbrev pub faults_in_draws : {settling : Bool} {r : Rules} {x : ℕ} {w : World} {y : ℕ} {v : World} → ℕ → Draws settling r x w y v → ℕ
faults_in_draws t NoDraw = 0
faults_in_draws t (OneDraw y z u v k one) = faults_in_draws t k + once_for (fault_by one.turn) t

-- of a run in an order
abbrev pub faults_in_order : {r : Rules} {order : ℕ} {w v : World} → ℕ → InOrder r order w v → ℕ
faults_in_order t (ByRounds is u k l) = faults_in_rounds t k.rounds + faults_in_rounds t l.rounds
faults_in_order t (ByDraws is x y u k l) = faults_in_draws t k.draws + faults_in_draws t l.draws

-- ---- in which events there is none

pub draw-faults_none : (r : Rules) (w u : World) (e : Happening r w u) → IsDraw r e → fault_in e ≡ None
draw-faults_none r w u (DrawsNumbers g) is = refl
draw-faults_none r w u (Plainly e up) is = absurd is
draw-faults_none r w u (Further g) is = absurd is
draw-faults_none r w u (IsCut g) is = absurd is
draw-faults_none r w u (Opens g) is = absurd is
draw-faults_none r w u (Fails g) is = absurd is
draw-faults_none r w u (GivenUp g) is = absurd is

pub opening-faults_none : (r : Rules) (n : ℕ) (w u : World) (e : Happening r w u) → OpensBy r n e → fault_in e ≡ None
opening-faults_none r n w u (Opens g) is = refl
opening-faults_none r n w u (Plainly e up) is = absurd is
opening-faults_none r n w u (Further g) is = absurd is
opening-faults_none r n w u (IsCut g) is = absurd is
opening-faults_none r n w u (DrawsNumbers g) is = absurd is
opening-faults_none r n w u (Fails g) is = absurd is
opening-faults_none r n w u (GivenUp g) is = absurd is

pub giving-faults_none : (r : Rules) (a : ActorId) (w u : World) (e : Happening r w u) → GivesUp r a e → fault_in e ≡ None
giving-faults_none r a w u (GivenUp g) is = refl
giving-faults_none r a w u (Plainly e up) is = absurd is
giving-faults_none r a w u (Further g) is = absurd is
giving-faults_none r a w u (IsCut g) is = absurd is
giving-faults_none r a w u (DrawsNumbers g) is = absurd is
giving-faults_none r a w u (Fails g) is = absurd is
giving-faults_none r a w u (Opens g) is = absurd is

-- and in a fault of a target there is one of it
pub fault-own : (settling : Bool) (r : Rules) (t k : ℕ) (w u : World) (e : Happening r w u) → IsFault r e → IsDoneBy settling r (target t) k e → fault_in e ≡ Some t
fault-own settling r t k w u (IsCut g) is by = ap (λ a. Some a.number) (sym by.0)
fault-own settling r t k w u (Fails g) is by = ap (λ a. Some a.number) (sym by)
fault-own settling r t k w u (Plainly e up) is by = absurd is
fault-own settling r t k w u (Further g) is by = absurd is
fault-own settling r t k w u (Opens g) is by = absurd is
fault-own settling r t k w u (GivenUp g) is by = absurd is
fault-own settling r t k w u (DrawsNumbers g) is by = absurd is

-- ---- what is said of other words

-- a count of what stands for one thing is that of what stands for another, which is the same
pub count-same : {A : Type 0} (P : A → Type 0) (count : (x : A) → P x → ℕ) {x y : A} (same : x ≡ y) (p : P x) → count y (subst P same p) ≡ count x p
count-same P count {x = x} same p = path_j (λ z q. count z (subst P q p) ≡ count x p) (ap (count x) (subst_refl P p)) same
