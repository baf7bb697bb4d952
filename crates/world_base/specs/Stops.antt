-- The events of stops: a turn is cut and its target stops, it opens again or fails to, and it is given up.
use Rattle.std.specs.Prelude.{ℕ, ◌≡◌, ◌≤◌, ◌<◌, ◌+◌, zero, suc, ◌==◌, ◌⊎◌, not, ◌&&◌, Bool, true, false, List, [], ◌∷◌, ◌++◌, map, filter, length, slice_get, All, Option, Some, None, if◌then◌else◌}
use Rattle.base_types.specs.Epochs.{restart_floor}
use Rattle.base_types.specs.declared.epoch.Epoch.{Epoch}
use Rattle.base_types.specs.declared.id.AttemptId.{AttemptId}
use Rattle.base_types.specs.declared.outcome.FloorWhy.TheVariants.{Restart}
use Rattle.base_types.specs.declared.report.Line.{Line}
use Rattle.base_types.specs.declared.report.Line.TheVariants as line
use Rattle.base_messages.specs.declared.actor.ActorId.{ActorId}
use Rattle.base_messages.specs.declared.message.Message.{Message}
use Rattle.base_messages.specs.declared.message.Message.TheVariants as message
use Rattle.daos_model.specs.Changes.{reopened}
use Rattle.daos_model.specs.declared.durable.Durable.{Durable}
use Rattle.dtx_base.specs.Leading.{is_led}
use Rattle.world_base.specs.declared.letter.Letter.{Letter}
use Rattle.world_base.specs.declared.target.Life.{Life}
use Rattle.world_base.specs.declared.target.Life.TheVariants.{Down, Running, Stopped}
use Rattle.world_base.specs.declared.target.TargetMemory.{TargetMemory}
use Rattle.world_base.specs.declared.target.TargetPlan.{TargetPlan}
use Rattle.world_base.specs.declared.target.TargetState.{TargetState}
use Rattle.world_base.specs.declared.world.Numbers.{Numbers}
use Rattle.world_base.specs.declared.world.World.{World}
use Rattle.world_base.specs.Changes.{Kept}
use Rattle.world_base.specs.CutTurns.{Cutting, HearingIsCut, IdleWorkIsCut}
use Rattle.world_base.specs.Events.{ByClient, ByTarget, Event, Rules, TargetHearsBy, ToClient, ToTarget, kept, target_plan, with_target}
use Rattle.world_base.specs.Further.{HearsFurther, KnowsNoneDown}
use Rattle.world_base.specs.Letters.{Takes, asked_after, client, letters_of, reset_message, target}
use Rattle.world_base.specs.Roles.{is_prepared}
use Rattle.world_base.specs.Statuses.{opening_memory, opening_posts}

-- ---- what a target's stop does to what is in flight

abbrev pub is_to : ℕ → Letter → Bool
is_to t l = not l.to.client && (l.to.number == t)

abbrev pub is_not_to : ℕ → Letter → Bool
is_not_to t l = not (is_to t l)

-- who sent a letter is told that it got no answer
abbrev pub reset_letter : Bool → Letter → Letter
reset_letter down l = record { from = l.to; to = l.from; message = reset_message l.to.number down l.message }

-- of all that is without an answer by this target, in the order of sending
abbrev pub resets : ℕ → Bool → List Letter → List Letter
resets t down asked = map (reset_letter down) (filter (is_to t) asked)

-- what goes to a target is lost, and who waits for its answer is told
abbrev pub with_lost : ℕ → Bool → World → World
with_lost t down w = record w { messages = filter (is_not_to t) w.messages ++ resets t down w.asked; asked = filter (is_not_to t) w.asked }

-- ---- numbers of restarts and aggregations

abbrev pub is_restart_of : ℕ → Line → Bool
is_restart_of n (line.Restart m t inc floor) = m == n
is_restart_of n l = false

abbrev pub is_aggregate_of : ℕ → Line → Bool
is_aggregate_of n (line.Aggregate m t c upto) = m == n
is_aggregate_of n l = false

-- a number of a restart that was drawn, and that no line has
pub record IsFreeRestart (w : World) (n : ℕ) : Type 0 where
  pub drawn : n < w.numbers.restarts
  pub unused : filter (is_restart_of n) w.lines ≡ []

-- a number of an aggregation likewise
pub record IsFreeAggregate (w : World) (n : ℕ) : Type 0 where
  pub drawn : n < w.numbers.aggregates
  pub unused : filter (is_aggregate_of n) w.lines ≡ []

-- a message by which a container is aggregated
abbrev pub is_prune_message : Message → Bool
is_prune_message (message.Prune x c tracker e) = true
is_prune_message m = false

-- where a message asks for an aggregation, the number was drawn for it
abbrev pub IsNumberFresh : World → Message → ℕ → Type 0
IsNumberFresh w q n = is_prune_message q ≡ true → IsFreeAggregate w n

-- a line has no number from these on
abbrev pub IsBelowNumbers : Numbers → Line → Type 0
IsBelowNumbers ns (line.Restart m t inc floor) = m < ns.restarts
IsBelowNumbers ns (line.Aggregate m t c upto) = m < ns.aggregates
IsBelowNumbers ns l = Unit {0}

-- ---- a stop

-- what a target remembers that is stopped
abbrev pub no_memory : TargetMemory
no_memory = record {
  ticks = 0;
  stamps = [];
  leader = record { undecided = []; decided = []; named = []; down = 0 };
  member = record { parked = []; inquiries = [] };
  collecting = [];
}

abbrev pub stopped_at : TargetState → Kept → TargetState
stopped_at s k = record s { durable = k.durable; free = k.free; life = Stopped; memory = no_memory }

abbrev pub is_stop : Line → Bool
is_stop (line.Stop n t) = true
is_stop l = false

abbrev pub stops_so_far : List Line → ℕ
stops_so_far lines = length (filter is_stop lines)

-- the world once a target's turn was cut so, by which this was in hand
abbrev pub after_cut : World → ℕ → TargetState → Cutting → World
after_cut w t s cut =
    with_lost t false (with_target t (stopped_at s cut.left) (record w { issued = w.issued ++ cut.issued; lines = w.lines ++ cut.lines ++ line.Stop (stops_so_far w.lines) t ∷ [] }))

-- what a target was at when its turn was cut: it heard a letter at a reading of its clock, with the number drawn for an aggregation that
-- may come of it; or it did its idle work
pub data AtWork : Type 0 where
  Hearing : (l : Letter) (reading number : ℕ) → AtWork
  IdleWork : AtWork

-- the turn was cut so
abbrev pub CutOf : TargetPlan → TargetState → AtWork → Cutting → Type 0
CutOf p s (Hearing l reading number) cut = HearingIsCut is_prepared number p s.opening s.memory reading l.from l.message (kept s) cut
CutOf p s IdleWork cut = IdleWorkIsCut p.me s.memory (kept s) cut

-- the letter that it heard was in flight to it, and the number stands in no line
abbrev pub IsInHand : World → ℕ → AtWork → Type 0
IsInHand w t (Hearing l reading number) = ((rest : List Letter) × Takes w.messages l rest) × (l.to ≡ target t) × IsNumberFresh w l.message number
IsInHand w t IdleWork = Unit {0}

-- a turn of a running target is cut: it stops, and all that it remembers and that is in flight to it is lost
pub record TargetCut (r : Rules) (w v : World) : Type 0 where
  pub t : ℕ
  pub s : TargetState
  pub work : AtWork
  pub cut : Cutting
  pub here : slice_get w.targets t ≡ Some s
  pub runs : s.life ≡ Running
  pub in_hand : IsInHand w t work
  pub turn : CutOf (target_plan r t) s work cut
  pub after : v ≡ after_cut w t s cut

-- ---- a target opens again

-- what stands once it has opened, by the restart of a number
abbrev pub opened_at : Rules → ℕ → ℕ → TargetState → ℕ → TargetState
opened_at r t n s free = record {
  durable = reopened s.durable;
  free = free;
  opening = (record { 0 = restart_floor s.durable.lease }, Restart n);
  life = Running;
  memory = opening_memory (target_plan r t) (reopened s.durable);
}

abbrev pub restart_line : ℕ → ℕ → Durable → Line
restart_line n t d = line.Restart n t (reopened d).incarnation (record { 0 = restart_floor d.lease })

abbrev pub after_opening : Rules → World → ℕ → ℕ → TargetState → ℕ → World
after_opening r w t n s free = record w {
  targets = (with_target t (opened_at r t n s free) w).targets;
  messages = w.messages ++ letters_of (target t) (opening_posts (target_plan r t) (reopened s.durable));
  asked = asked_after w.asked (letters_of (target t) (opening_posts (target_plan r t) (reopened s.durable)));
  lines = w.lines ++ restart_line n t s.durable ∷ [];
}

pub record TargetOpens (r : Rules) (w v : World) : Type 0 where
  pub t : ℕ
  pub s : TargetState
  pub number : ℕ
  pub free : ℕ
  pub here : slice_get w.targets t ≡ Some s
  pub stopped : s.life ≡ Stopped
  pub is_free : IsFreeRestart w number
  pub no_less : s.free ≤ free
  pub after : v ≡ after_opening r w t number s free

-- its opening fails: the incarnation was raised, or it wasn't
pub record OpeningFails (r : Rules) (w v : World) : Type 0 where
  pub t : ℕ
  pub s : TargetState
  pub k : Kept
  pub here : slice_get w.targets t ≡ Some s
  pub stopped : s.life ≡ Stopped
  pub left : (k.durable ≡ s.durable) ⊎ (k.durable ≡ reopened s.durable)
  pub no_less : s.free ≤ k.free
  pub after : v ≡ with_target t (record s { durable = k.durable; free = k.free }) w

-- ---- a target is given up

pub record TargetGivenUp (r : Rules) (w v : World) : Type 0 where
  pub t : ℕ
  pub s : TargetState
  pub here : slice_get w.targets t ≡ Some s
  pub stopped : s.life ≡ Stopped
  pub after : v ≡ with_lost t true (with_target t (record s { life = Down }) (record w { lines = w.lines ++ line.Down t ∷ [] }))

abbrev pub is_given_up : Life → Bool
is_given_up Running = false
is_given_up Stopped = false
is_given_up Down = true

-- the target of a number is given up
abbrev pub is_down_at : List TargetState → ℕ → Bool
is_down_at [] t = false
is_down_at (s ∷ ss) zero = is_given_up s.life
is_down_at (s ∷ ss) (suc t) = is_down_at ss t

-- a letter goes to such a target
abbrev pub is_to_down : List TargetState → Letter → Bool
is_to_down ss l = not l.to.client && is_down_at ss l.to.number

abbrev pub is_not_to_down : List TargetState → Letter → Bool
is_not_to_down ss l = not (is_to_down ss l)

-- What goes to targets that are given up is lost, and who waits for their answers is told, in the order in which they asked.
abbrev pub swept : World → World
swept w = record w {
  messages = filter (is_not_to_down w.targets) (w.messages ++ map (reset_letter true) (filter (is_to_down w.targets) w.asked));
  asked = filter (is_not_to_down w.targets) w.asked;
}

-- ---- numbers are drawn

-- numbers are drawn, or given back that no line has
pub record NumbersDrawn (w v : World) : Type 0 where
  pub numbers : Numbers
  pub above : All (IsBelowNumbers numbers) w.lines
  pub after : v ≡ record w { numbers = numbers }

-- ---- all events

-- a Commit that is heard as without stops has no member that is known to be down
abbrev pub NoneDown : (r : Rules) → {w v : World} → Event r w v → Type 0
NoneDown r (ByClient g) = Unit {0}
NoneDown r (ToClient g) = Unit {0}
NoneDown r (ToTarget g) = KnowsNoneDown (target_plan r g.t) g.s.memory g.l.message
NoneDown r (ByTarget g) = Unit {0}

-- a further message is heard, with the number drawn for an aggregation that may come of it
pub record HearsMore (r : Rules) (w v : World) : Type 0 where
  pub number : ℕ
  pub hears : TargetHearsBy (HearsFurther number) r w v
  pub fresh : IsNumberFresh w hears.l.message number

-- What an actor does, or what becomes of a target: a turn as without stops; a further message is heard; a turn is cut; a target opens
-- again, fails to, or is given up; or numbers are drawn.
pub data Happening (r : Rules) (w v : World) : Type 0 where
  Plainly : (e : Event r w v) → NoneDown r e → Happening r w v
  Further : HearsMore r w v → Happening r w v
  IsCut : TargetCut r w v → Happening r w v
  Opens : TargetOpens r w v → Happening r w v
  Fails : OpeningFails r w v → Happening r w v
  GivenUp : TargetGivenUp r w v → Happening r w v
  Draws : NumbersDrawn w v → Happening r w v

-- who acts in an event, if anybody does
abbrev pub acts_plainly : (r : Rules) → {w v : World} → Event r w v → ActorId
acts_plainly r (ByClient g) = client g.n
acts_plainly r (ToClient g) = client g.n
acts_plainly r (ToTarget g) = target g.t
acts_plainly r (ByTarget g) = target g.t

abbrev pub acts : (r : Rules) → {w v : World} → Happening r w v → Option ActorId
acts r (Plainly e up) = Some (acts_plainly r e)
acts r (Further g) = Some (target g.hears.t)
acts r (IsCut g) = Some (target g.t)
acts r (Opens g) = Some (target g.t)
acts r (Fails g) = Some (target g.t)
acts r (GivenUp g) = Some (target g.t)
acts r (Draws g) = None

-- an event of a run: that, and then what went to targets that are given up is lost
pub record WorldEvent (r : Rules) (w v : World) : Type 0 where
  pub u : World
  pub happens : Happening r w u
  pub after : v ≡ swept u

pub data WorldRun (r : Rules) (w : World) : World → Type 0 where
  Begins : WorldRun r w w
  Goes : (u v : World) → WorldRun r w u → WorldEvent r u v → WorldRun r w v
