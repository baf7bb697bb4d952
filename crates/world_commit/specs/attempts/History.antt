-- What no actor stores, and what the facts speak of: which attempts were decided, which were aborted, and which reads were served.
use Rattle.std.specs.Prelude.{ℕ, ◌≢◌, ◌⊎◌, Bool, List, [], ◌∷◌, Option, Some}
use Rattle.std.specs.List.{list_any}
use Rattle.base_types.specs.declared.answer.Answer.{Answer}
use Rattle.base_types.specs.declared.epoch.Epoch.{Epoch}
use Rattle.base_types.specs.declared.id.AttemptId.{AttemptId}
use Rattle.base_types.specs.declared.operation.Read.{Read}
use Rattle.base_types.specs.declared.outcome.Outcome.{Outcome}
use Rattle.base_types.specs.declared.outcome.Outcome.TheVariants.{Committed}
use Rattle.model_laws.specs.Members.{Has}
use Rattle.base_messages.specs.declared.actor.ActorId.{ActorId}
use Rattle.base_messages.specs.declared.message.Message.TheVariants.{Ended}
use Rattle.base_messages.specs.declared.message.Post.{Post}
use Rattle.world_base.specs.declared.world.World.{World}
use Rattle.world_base.specs.Events.{ByClient, ByTarget, RightEvent, Rules, ToClient, ToTarget, is_issue_of}

-- a read that a target served: for which attempt, operation and group, at which epoch, and what it answered
pub record Served : Type 0 where
  pub by : AttemptId
  pub op : ℕ
  pub group : ℕ
  pub target : ℕ
  pub read : Read
  pub epoch : Epoch
  pub answer : Answer

-- the attempts with writes that were decided, with their epochs, those that were aborted, and the reads that were served
pub record History : Type 0 where
  pub decided : List (AttemptId × Epoch)
  pub aborted : List AttemptId
  pub served : List Served

abbrev pub is_decided : History → AttemptId → Bool
is_decided h x = list_any (is_issue_of x) h.decided

-- one more attempt is decided, or aborted, or one more read served
abbrev pub decides : History → AttemptId → Epoch → History
decides h x e = record h { decided = (x, e) ∷ h.decided }

-- an attempt was decided at an epoch, or was aborted
abbrev pub Decided : History → AttemptId → Epoch → Type 0
Decided h x e = Has (x, e) h.decided

abbrev pub Aborted : History → AttemptId → Type 0
Aborted h x = Has x h.aborted

-- what was decided, aborted and served stays so
pub record Grew (h later : History) : Type 0 where
  pub decided : (i : AttemptId × Epoch) → Has i h.decided → Has i later.decided
  pub aborted : (x : AttemptId) → Has x h.aborted → Has x later.aborted
  pub served : (q : Served) → Has q h.served → Has q later.served

-- ---- what a turn tells

-- someone is told that an attempt ended so
pub record Tells (posts : List Post) (x : AttemptId) (own : Option Epoch) (how : Outcome) : Type 0 where
  pub to : ActorId
  pub sent : Has (record { to = to; message = Ended x own how }) posts

-- someone is told that an attempt ended, and not that it is committed
pub record TellsRefusal (posts : List Post) (x : AttemptId) : Type 0 where
  pub own : Option Epoch
  pub how : Outcome
  pub told : Tells posts x own how
  pub refused : how ≢ Committed

-- What is decided or aborted later is what was before and what these messages of a target tell: an attempt is decided that
-- they tell of as committed, and aborted that they tell of otherwise. Which reads are served is said elsewhere.
pub record GrowsBy (h : History) (posts : List Post) (later : History) : Type 0 where
  pub decided : (x : AttemptId) (e : Epoch) → Decided h x e → Decided later x e
  pub committed : (x : AttemptId) (e : Epoch) → Tells posts x (Some e) Committed → Decided later x e
  pub only_decided : (x : AttemptId) (e : Epoch) → Decided later x e → Decided h x e ⊎ Tells posts x (Some e) Committed
  pub aborted : (x : AttemptId) → Aborted h x → Aborted later x
  pub refused : (x : AttemptId) → TellsRefusal posts x → Aborted later x
  pub only_aborted : (x : AttemptId) → Aborted later x → Aborted h x ⊎ TellsRefusal posts x

-- what a target sends in an event; a client decides nothing
abbrev pub target_posts : {r : Rules} {w v : World} → RightEvent r w v → List Post
target_posts (ByClient g) = []
target_posts (ToClient g) = []
target_posts (ToTarget g) = g.did.posts
target_posts (ByTarget g) = g.did.posts
