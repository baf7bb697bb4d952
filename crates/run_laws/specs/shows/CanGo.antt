-- Actors that can have their turns, whatever their stores tell.
use Rattle.run_opening.specs.world_contents.posts.KnownSnapshots.{ReadsKnown}
use Rattle.std.specs.Prelude.{ℕ, ◌≡◌, ◌+◌, ◌<◌, ◌^◌, List, false, true, length, slice_get, Contains, Option, Some}
use Rattle.std.specs.Option.{ForSome}
use Rattle.client_core.specs.Clients.{ClientNow}
use Rattle.daos_model.specs.declared.durable.Durable.{Durable}
use Rattle.run_base.specs.Letters.{IsPicked}
use Rattle.run_laws.specs.shows.Shows.{IsGoing}
use Rattle.run_laws.specs.shows.Stages.{IsPlace, StageNow}
use Rattle.target_core.specs.Targets.{CanHear, TargetOf}
use Rattle.run_opening.specs.target_parts.Knowing.{IsHeard}
use Rattle.vos_store.specs.Calls.{State}
use Rattle.world_base.specs.declared.letter.Letter.{Letter}
use Rattle.world_base.specs.declared.target.Life.TheVariants.{Running, Stopped}
use Rattle.world_base.specs.Events.{Rules, client_plan, target_plan}
use Rattle.world_base.specs.Letters.{target}
use Rattle.run_opening.specs.world_contents.posts.Forms.{ClientsAwait, IsInForm, IsLetter, is_of_client}
use Rattle.world_closing.specs.Below.{AreRulesInForm}

-- a target that runs has opened, its store isn't stopped, and it is clients that wait there for the end of attempts
pub record CanWork {S C : Type 0} (state : S → State) (x : TargetOf S C) : Type 0 where
  pub opened : x.opened ≡ true
  pub running : (state x.store).stopped ≡ false
  pub waiting : ClientsAwait x.memory

-- The actors are those of a run of a script in form, for some targets; each client that reads at a snapshot knows it; each target that runs can have its turn; each letter in flight, and each that is without an answer, has form. Where a store tells what it keeps, the actors are those of such
-- a run that was begun.
pub record CanGo {S C : Type 0} (durable : S → Option Durable) (state : S → State) (may : S → Durable → Type 0) (a : StageNow S C) : Type 0 where
  pub rules : Rules
  pub form : AreRulesInForm rules
  pub plans : (n : ℕ) (c : ClientNow) → slice_get a.clients n ≡ Some c → c.plan ≡ client_plan rules n
  pub known : (n : ℕ) (c : ClientNow) → slice_get a.clients n ≡ Some c → ReadsKnown c.plan c.state
  pub made : (t : ℕ) (x : TargetOf S C) → slice_get a.targets t ≡ Some x → x.plan ≡ target_plan rules t
  pub many : length a.targets ≡ rules.script.targets
  pub standing : length a.watch.lives ≡ length a.targets
  pub openings : a.watch.openings < 2 ^ 32
  pub work : (t : ℕ) (x : TargetOf S C) → IsPlace a t x Running → CanWork state x
  pub messages : (l : Letter) → Contains a.between.messages l → IsLetter (target_plan rules) l
  pub asked : (l : Letter) → Contains a.between.asked l → IsLetter (target_plan rules) l
  pub told : (t : ℕ) (x : TargetOf S C) (d : Durable) → slice_get a.targets t ≡ Some x → durable x.store ≡ Some d → IsGoing durable state may a

-- a target can hear a letter: it has form, comes of whom such come, and can be heard with what is kept there
pub record IsHearable {S C : Type 0} (durable : S → Option Durable) (x : TargetOf S C) (l : Letter) : Type 0 where
  pub form : IsInForm x.plan l.message
  pub kind : is_of_client l.message ≡ l.from.client
  pub few : l.from.client ≡ false → l.from.number < 64
  pub here : ForSome (durable x.store) (CanHear x.plan l.message)

-- A target can have its turn. One that runs has opened, its store isn't stopped, and it can hear whichever letter has this number among those
-- in flight to it; one that is stopped can open again with whatever may be found.
pub record CanTurn {S C : Type 0} (durable : S → Option Durable) (state : S → State) (may : S → Durable → Type 0) (a : StageNow S C) (t number : ℕ) (x : TargetOf S C) : Type 0 where
  pub opened : slice_get a.watch.lives t ≡ Some Running → x.opened ≡ true
  pub running : slice_get a.watch.lives t ≡ Some Running → (state x.store).stopped ≡ false
  pub hears : slice_get a.watch.lives t ≡ Some Running → (l : Letter) (rest : List Letter) → IsPicked a.between.messages (target t) number l rest → IsHearable durable x l
  pub counted : slice_get a.watch.lives t ≡ Some Stopped → ForSome (durable x.store) (λ d. (e : Durable) → may x.store e → e.incarnation + 1 < 2 ^ 64)
  pub covered : slice_get a.watch.lives t ≡ Some Stopped → ForSome (durable x.store) (λ d. (e : Durable) → may x.store e → IsHeard e.lease e)
