-- What is chosen in an event of a run, and what its turn tells of what it left open.
use Rattle.std.specs.Prelude.{ℕ, ◌≡◌, ◌⊎◌, Bool, true, false, List, [], slice_get, Some}
use Rattle.std.proofs.Common.{inl, inr}
use Rattle.base_types.specs.declared.outcome.Outcome.{Outcome}
use Rattle.world_base.specs.declared.letter.Letter.{Letter}
use Rattle.world_base.specs.declared.target.TargetPlan.{TargetPlan}
use Rattle.world_base.specs.declared.target.TargetState.{TargetState}
use Rattle.world_base.specs.declared.world.Numbers.{Numbers}
use Rattle.world_base.specs.declared.world.World.{World}
use Rattle.world_base.specs.CutTurns.{Cutting}
use Rattle.world_base.specs.Events as event
use Rattle.world_base.specs.Events.{Rules, kept, target_plan}
use Rattle.world_base.specs.Roles.{is_prepared}
use Rattle.world_base.specs.Stops as stop
use Rattle.world_base.specs.Stops.{AtWork, CutOf, Happening, Hearing, IdleWork, IsInHand, WorldEvent, WorldRun}
use Rattle.world_determined.specs.Cuts.{CutPlace, place_of}
use Rattle.world_determined.specs.CutTurns.{hearing_place}
use Rattle.world_determined.specs.Fetches.{NoneLedElsewhere}
use Rattle.world_determined.specs.Open.{left_open}

-- ---- what is chosen

-- what was in hand where a turn was cut, and where in it that was
pub data CutWork : Type 0 where
  InHearing : (l : Letter) (reading number : ℕ) (at : CutPlace) → CutWork
  InIdling : (at : CutPlace) → CutWork

-- Whose turn it is, and what it does in it. A letter is heard, and others are left in flight; a target reads its clock. An aggregation and an
-- opening take a number. A turn is cut at a place. An opening fails before the incarnation was raised, or after. Or numbers are drawn.
pub data Choice : Type 0 where
  ClientGoes : (n : ℕ) → Choice
  ClientHears : (n : ℕ) (l : Letter) (rest : List Letter) → Choice
  TargetHears : (t : ℕ) (l : Letter) (rest : List Letter) (reading : ℕ) → Choice
  TargetIdles : (t : ℕ) (settling : Bool) → Choice
  HearsFurther : (t : ℕ) (l : Letter) (rest : List Letter) (reading number : ℕ) → Choice
  IsCut : (t : ℕ) (work : CutWork) → Choice
  Opens : (t number : ℕ) → Choice
  OpeningFails : (t : ℕ) (raised : Bool) → Choice
  GivesUp : (t : ℕ) → Choice
  Draws : Numbers → Choice

abbrev pub cut_work : (w : World) (t : ℕ) (p : TargetPlan) (s : TargetState) (work : AtWork) (cut : Cutting) → IsInHand w t work → CutOf p s work cut → CutWork
cut_work w t p s (Hearing l reading number) cut hand turn =
    InHearing l reading number (hearing_place is_prepared number p s.opening s.memory reading l.from l.message (kept s) cut turn)
cut_work w t p s IdleWork cut hand turn = InIdling (place_of turn)

abbrev pub was_raised : {A B : Type 0} → A ⊎ B → Bool
was_raised (inl before) = false
was_raised (inr after) = true

-- what is chosen in an event
abbrev pub choice_of : (r : Rules) → {w u : World} → Happening r w u → Choice
choice_of r (stop.Plainly (event.ByClient g) up) = ClientGoes g.n
choice_of r (stop.Plainly (event.ToClient g) up) = ClientHears g.n g.l g.rest
choice_of r (stop.Plainly (event.ToTarget g) up) = TargetHears g.t g.l g.rest g.reading
choice_of r (stop.Plainly (event.ByTarget g) up) = TargetIdles g.t g.settling
choice_of r (stop.Further g) = HearsFurther g.hears.t g.hears.l g.hears.rest g.hears.reading g.number
choice_of r {w = w} (stop.IsCut g) = IsCut g.t (cut_work w g.t (target_plan r g.t) g.s g.work g.cut g.in_hand g.turn)
choice_of r (stop.Opens g) = Opens g.t g.number
choice_of r (stop.Fails g) = OpeningFails g.t (was_raised g.left)
choice_of r (stop.GivenUp g) = GivesUp g.t
choice_of r (stop.Draws g) = Draws g.numbers

-- ---- what was open

-- what its turn tells of what it left open
abbrev pub told_open : (r : Rules) → {w u : World} → Happening r w u → List Outcome
told_open r (stop.Plainly (event.ToTarget g) up) = left_open g.l.message g.did
told_open r e = []

-- ---- what is asked

-- no target decided an attempt, and hasn't settled it, that another one leads
abbrev pub LeadDecided : Rules → World → Type 0
LeadDecided r w = (t : ℕ) (s : TargetState) → slice_get w.targets t ≡ Some s → NoneLedElsewhere (target_plan r t) s.memory.leader.decided s.durable
