-- Letters to an actor, in the order in which they were sent, and what lies between actors.
use Rattle.std.specs.Prelude.{ℕ, ◌≡◌, ◌==◌, Bool, true, false, ◌&&◌, List, ◌∷◌, ◌++◌, filter, length, take, slice_get, Option, None, Some, not, if◌then◌else◌}
use Rattle.base_types.specs.declared.epoch.Epoch.{Epoch}
use Rattle.base_types.specs.declared.id.AttemptId.{AttemptId}
use Rattle.base_types.specs.declared.report.Line.{Line}
use Rattle.base_messages.specs.declared.actor.ActorId.{ActorId}
use Rattle.world_base.specs.declared.letter.Letter.{Letter}
use Rattle.world_base.specs.Letters.{is_answerable}

-- what lies between the actors: letters in flight, those without an answer, epochs issued, and the lines so far
pub record BetweenNow : Type 0 where
  pub messages : List Letter
  pub asked : List Letter
  pub issued : List (AttemptId × Epoch)
  pub lines : List Line

abbrev pub same_kind : Bool → Bool → Bool
same_kind true b = b
same_kind false b = not b

abbrev pub same_actor : ActorId → ActorId → Bool
same_actor a b = same_kind a.client b.client && (a.number == b.number)

-- a letter to an actor
abbrev pub is_to : ActorId → Letter → Bool
is_to a l = same_actor l.to a

abbrev pub letters_to : ActorId → List Letter → List Letter
letters_to a letters = filter (is_to a) letters

-- a letter to an actor is the one of this number among those to it, and those that are left are the others
pub record IsPicked (letters : List Letter) (to : ActorId) (number : ℕ) (l : Letter) (rest : List Letter) : Type 0 where
  pub before : List Letter
  pub after : List Letter
  pub among : letters ≡ before ++ l ∷ after
  pub left : rest ≡ before ++ after
  pub to_it : l.to ≡ to
  pub first : length (letters_to to before) ≡ number

-- an actor's letter of this number stands at this place
pub record IsPlaceOf (letters : List Letter) (to : ActorId) (number place : ℕ) : Type 0 where
  pub letter : Letter
  pub here : slice_get letters place ≡ Some letter
  pub to_it : letter.to ≡ to
  pub first : length (letters_to to (take place letters)) ≡ number

-- the copy of a letter that is kept while it is without an answer, if it is one that is answered
abbrev pub kept_copy : Letter → Option Letter
kept_copy l = if is_answerable l.message then Some l else None
