-- What a turn of an actor is, where targets may stop and open again.
use Rattle.std.specs.Prelude.{ℕ, ◌≡◌, ◌+◌, Bool, true, List, slice_get, Option, Some, None, if◌then◌else◌}
use Rattle.base_messages.specs.declared.actor.ActorId.{ActorId}
use Rattle.base_messages.specs.declared.message.Message.{Message}
use Rattle.run_base.specs.Letters.{IsPicked}
use Rattle.run_base.specs.Numbers.{next_aggregate}
use Rattle.run_base.specs.Picks.{count_to, heard, heard_by_client}
use Rattle.world_base.specs.declared.letter.Letter.{Letter}
use Rattle.world_base.specs.declared.target.Life.{Life}
use Rattle.world_base.specs.declared.target.Life.TheVariants.{Down, Running, Stopped}
use Rattle.world_base.specs.declared.target.TargetState.{TargetState}
use Rattle.world_base.specs.declared.world.World.{World}
use Rattle.world_base.specs.Events.{ByClient, ByTarget, Rules, ToClient, ToTarget}
use Rattle.world_base.specs.Letters.{client, target}
use Rattle.world_base.specs.Stops.{AtWork, Draws, Fails, Further, GivenUp, Happening, Hearing, IdleWork, IsCut, Opens, Plainly, WorldEvent, is_prune_message}

-- ---- what an actor hears

-- of how many letters in flight to it a target hears one in its next turn: of none where it doesn't run
abbrev pub heard_where : Life → ℕ → ℕ
heard_where Running count = count
heard_where Stopped count = 0
heard_where Down count = 0

abbrev pub heard_by_target : ℕ → Option TargetState → ℕ
heard_by_target count None = 0
heard_by_target count (Some s) = heard_where s.life count

-- of how many letters in flight to it an actor hears one in its next turn
abbrev pub heard_in : World → ActorId → ℕ
heard_in w a = if a.client then heard_by_client (count_to a w.messages) (slice_get w.clients a.number) else heard_by_target (count_to a w.messages) (slice_get w.targets a.number)

-- ---- what an actor does

-- where a message asks for an aggregation, that has the next number
abbrev pub IsNumberNext : World → Message → ℕ → Type 0
IsNumberNext w q n = is_prune_message q ≡ true → n ≡ next_aggregate w.lines

-- a target was at this when its turn was cut: it heard the letter of number k, or did its idle work, since none was in flight to it
abbrev pub IsAtWork : World → ActorId → ℕ → AtWork → Type 0
IsAtWork w a k (Hearing l reading number) = (rest : List Letter) × IsPicked w.messages a k l rest × IsNumberNext w l.message number
IsAtWork w a k IdleWork = heard w a ≡ 0

-- An actor does this. Where it hears a letter, that is the one of number k, from 0 and in order of sending, among those in flight to it;
-- where it hears none, a client goes on or counts a skip, and a target does its idle work. An aggregation has the next number. A target that is
-- stopped opens again, or fails to.
abbrev pub IsDoneBy : Bool → (r : Rules) → ActorId → ℕ → {w u : World} → Happening r w u → Type 0
IsDoneBy settling r a k {w = w} (Plainly (ByClient g) up) = (a ≡ client g.n) × (heard w a ≡ 0)
IsDoneBy settling r a k {w = w} (Plainly (ToClient g) up) = (a ≡ client g.n) × IsPicked w.messages a k g.l g.rest
IsDoneBy settling r a k {w = w} (Plainly (ToTarget g) up) = (a ≡ target g.t) × IsPicked w.messages a k g.l g.rest
IsDoneBy settling r a k {w = w} (Plainly (ByTarget g) up) = (a ≡ target g.t) × (heard w a ≡ 0) × (g.settling ≡ settling)
IsDoneBy settling r a k {w = w} (Further g) = (a ≡ target g.hears.t) × IsPicked w.messages a k g.hears.l g.hears.rest × IsNumberNext w g.hears.l.message g.number
IsDoneBy settling r a k {w = w} (IsCut g) = (a ≡ target g.t) × IsAtWork w a k g.work
IsDoneBy settling r a k (Opens g) = a ≡ target g.t
IsDoneBy settling r a k (Fails g) = a ≡ target g.t
IsDoneBy settling r a k (GivenUp g) = ⊥
IsDoneBy settling r a k (Draws g) = ⊥

-- what it does is one event
pub record Acts (settling : Bool) (r : Rules) (a : ActorId) (k : ℕ) (w v : World) : Type 0 where
  pub event : WorldEvent r w v
  pub by : IsDoneBy settling r a k event.happens

-- ---- what goes with it

-- a number is drawn for a restart
abbrev pub IsDraw : (r : Rules) → {w u : World} → Happening r w u → Type 0
IsDraw r {w = w} {u = u} (Draws g) = (u.numbers.restarts ≡ w.numbers.restarts + 1) × (u.numbers.aggregates ≡ w.numbers.aggregates)
IsDraw r e = ⊥

-- a target opens again by this number
abbrev pub OpensBy : (r : Rules) → ℕ → {w u : World} → Happening r w u → Type 0
OpensBy r n (Opens g) = g.number ≡ n
OpensBy r n e = ⊥

-- a target's turn is cut, or its opening fails
abbrev pub IsFault : (r : Rules) → {w u : World} → Happening r w u → Type 0
IsFault r (IsCut g) = Unit {0}
IsFault r (Fails g) = Unit {0}
IsFault r e = ⊥

-- an actor that is a target is given up
abbrev pub GivesUp : (r : Rules) → ActorId → {w u : World} → Happening r w u → Type 0
GivesUp r a (GivenUp g) = a ≡ target g.t
GivesUp r a e = ⊥

-- an opening is by a number that is drawn for it; what else is done draws none
abbrev pub IsNoOpening : (r : Rules) → {w u : World} → Happening r w u → Type 0
IsNoOpening r (Opens g) = ⊥
IsNoOpening r e = Unit {0}

-- A turn of an actor: what it does; or a target opens again, by the next number of a restart; or its store failed it for the last time, and
-- it is given up besides.
pub data TurnOf (settling : Bool) (r : Rules) (a : ActorId) (k : ℕ) (w v : World) : Type 0 where
  Doing : (d : Acts settling r a k w v) → IsNoOpening r d.event.happens → TurnOf settling r a k w v
  Opening : (u : World) (n : WorldEvent r w u) → IsDraw r n.happens → (d : Acts settling r a k u v) → OpensBy r w.numbers.restarts d.event.happens → TurnOf settling r a k w v
  GivingUp : (u : World) (d : Acts settling r a k w u) → IsFault r d.event.happens → (g : WorldEvent r u v) → GivesUp r a g.happens → TurnOf settling r a k w v
