-- That each attempt of which a run's lines tell ended well, whatever its stores tell of what they keep.
use Rattle.std.specs.Prelude.{ℕ, ◌≡◌, List, slice_get, Some}
use Rattle.base_types.specs.declared.report.Attempt.{Attempt}
use Rattle.client_core.specs.Clients.{ClientNow}
use Rattle.model_laws.specs.Members.{Has}
use Rattle.run_laws.specs.shows.Asked.{AllTellInOrder}
use Rattle.run_laws.specs.shows.Kinds.{AnswersGoOn}
use Rattle.run_base.specs.Letters.{BetweenNow}
use Rattle.run_laws.specs.shows.InTurn.{TellInTurn}
use Rattle.run_laws.specs.shows.Stages.{StageNow}
use Rattle.target_core.specs.Targets.{TargetOf}
use Rattle.world_base.specs.declared.client.ClientPlan.{ClientPlan}
use Rattle.world_base.specs.declared.client.ClientState.{ClientState}
use Rattle.world_base.specs.declared.letter.Letter.{Letter}
use Rattle.world_base.specs.declared.target.Life.{Life}
use Rattle.world_base.specs.declared.target.Life.TheVariants.{Running}
use Rattle.world_base.specs.Events.{Rules, client_plan}
use Rattle.world_letters.specs.clients.AnswerLaws.{Tells}
use Rattle.target_core.specs.world_ended.Asking.{Asked, GoesWith, RemembersWith}
use Rattle.target_core.specs.world_ended.Clients.{AllEndWell, IsAskingClient}

-- letters go with what clients asked to commit
abbrev pub LettersGoWith : Asked → List Letter → Type 0
LettersGoWith asked ls = (l : Letter) → Has l ls → GoesWith asked l.message

-- a client has asked for these of its own, and its attempts ended as they were answered
pub record IsEndingClient (p : ClientPlan) (c : ClientState) (asked : Asked) : Type 0 where
  pub asking : IsAskingClient p c asked
  pub attempts : List Attempt
  pub tells : Tells p c attempts

-- and so does what lies between actors: letters in flight, and those without an answer
pub record BetweenGoes (asked : Asked) (b : BetweenNow) : Type 0 where
  pub letters : LettersGoWith asked b.messages
  pub unanswered : LettersGoWith asked b.asked

-- targets that run keep clients waiting for those attempts alone, and make for them alone snapshots and aggregations
abbrev pub AllWaitWith : {S C : Type 0} → Asked → List (TargetOf S C) → List Life → Type 0
AllWaitWith {S} {C} asked ts lives = (t : ℕ) (x : TargetOf S C) → slice_get ts t ≡ Some x → slice_get lives t ≡ Some Running → RemembersWith asked x.memory

pub record AllGoWith {S C : Type 0} (asked : Asked) (a : StageNow S C) : Type 0 where
  pub between : BetweenGoes asked a.between
  pub targets : AllWaitWith asked a.targets a.watch.lives

-- What the lines tell fits; what goes about, and what targets wait for, goes with what clients have asked to commit; and all attempts that the
-- lines tell of ended well, and tell of their operations in order.
pub record EndsGoOn {S C : Type 0} (r : Rules) (a : StageNow S C) : Type 0 where
  pub answers : AnswersGoOn r a
  pub asked : Asked
  pub clients : (n : ℕ) (c : ClientNow) → slice_get a.clients n ≡ Some c → IsEndingClient (client_plan r n) c.state asked
  pub going : AllGoWith asked a
  pub lines : AllEndWell r.script a.between.lines
  pub in_order : AllTellInOrder r.script a.between.lines

-- What turns keep of what lines tell: from one moment to another they tell in turn, what they tell fits, and attempts end well.
pub record TellsOn {S C : Type 0} (r : Rules) (a b : StageNow S C) : Type 0 where
  pub in_turn : TellInTurn r a → TellInTurn r b
  pub answers : AnswersGoOn r a → AnswersGoOn r b
  pub ends : EndsGoOn r a → EndsGoOn r b
