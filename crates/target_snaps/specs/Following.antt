-- What follows from a turn in which something is made with other targets, whatever the store tells of what it keeps.
use Rattle.std.specs.Prelude.{ℕ, ◌≡◌, true, List, [], Result}
use Rattle.base_messages.specs.declared.message.Post.{Post}
use Rattle.daos_model.specs.Attempts.{tries}
use Rattle.model_laws.specs.Members.{Has}
use Rattle.world_base.specs.declared.did.Did.{Did}
use Rattle.world_base.specs.declared.target.Collection.{Collection}
use Rattle.target_parts.specs.world_contents.posts.Forms.{ClientsCollect, TargetPosts}
use Rattle.world_ended.specs.Asking.{Asked, MakesWith, PostsGoWith}
use Rattle.world_ended.specs.world_letters.kinds.PostLaws.{CarryNone}
use Rattle.target_parts.specs.declared.stop.TargetStop.{TargetStop}
use Rattle.target_parts.specs.Stops.{lines_told}
use Rattle.target_snaps.specs.declared.request.ContRequest.{ContRequest}

-- where it was clients that waited for what was being made, they do so still, and what is posted has form
abbrev pub MakesInForm : ℕ → List Collection → List Collection → List Post → Type 0
MakesInForm targets old new posts = ClientsCollect old → TargetPosts targets posts × ClientsCollect new

-- where what was being made had been asked for, it is so still, and what is posted goes with what was asked
abbrev pub MakesAsked : Asked → List Collection → List Collection → List Post → Type 0
MakesAsked asked old new posts = MakesWith asked old → PostsGoWith asked posts × MakesWith asked new

-- no line of a turn tells of an attempt: a target tells of freezes, snapshots and aggregations
abbrev pub TellsNoAttempt : Result Did TargetStop → Type 0
TellsNoAttempt result = tries (lines_told result) ≡ []

-- all that is being made was being made before
abbrev pub IsWithin : List Collection → List Collection → Type 0
IsWithin new old = (n : Collection) → Has n new → Has n old

-- What follows where a client asked for what is made: that has form where it is a client, goes with what was asked where it asked that its
-- attempt is committed, and carries nothing of reads.
pub record RequestFollows (targets : ℕ) (q : ContRequest) (old new : List Collection) (posts : List Post) : Type 0 where
  pub form : q.from.client ≡ true → MakesInForm targets old new posts
  pub goes : (asked : Asked) → asked q.attempt ≡ true → MakesAsked asked old new posts
  pub reads : CarryNone posts
