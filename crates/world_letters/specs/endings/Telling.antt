-- What a target tells that hears a message.
use Rattle.std.specs.Prelude.{ℕ, ◌≡◌, ◌⊎◌, Bool, true, false, List, [], ◌∷◌, map, Some, None}
use Rattle.base_types.specs.declared.epoch.Epoch.{Epoch}
use Rattle.base_types.specs.declared.id.AttemptId.{AttemptId}
use Rattle.base_types.specs.declared.id.ContId.{ContId}
use Rattle.base_types.specs.declared.key.Key.{Key}
use Rattle.base_messages.specs.declared.message.Message.{Message, more_of-Message}
use Rattle.base_messages.specs.declared.message.Message.TheVariants as message
use Rattle.base_messages.specs.declared.message.Post.{Post}
use Rattle.world_base.specs.model_laws.Members.{Has}
use Rattle.world_base.specs.dtx_base.Leading.{to_target}
use Rattle.world_base.specs.declared.did.Did.{Did}
use Rattle.world_base.specs.Snapshots.{freeze_to, prune_to}
use Rattle.world_letters.specs.clients.Answered.{is_refusal}
use Rattle.world_letters.specs.lines.EndingLaws.{PostsTell}
use Rattle.world_letters.specs.lines.Lines.{IsCommitted, IsRefusalOrNone, MayEnd, TellsEnd, TellsPlainly}

-- what a target tells but for what target 0 asks of the others
abbrev pub TellsAfter : Message → Type 0
TellsAfter (message.Fetched x op group e b) = IsRefusalOrNone b
TellsAfter (message.Ended x e how) = (is_refusal how ≡ true) ⊎ IsCommitted e how
TellsAfter (message.Ack x inc refusal) = MayEnd refusal
TellsAfter (message.Held x refusal) = MayEnd refusal
TellsAfter (message.Prepare e first ws inc) = Unit {0}
TellsAfter (message.Mark inc marks) = Unit {0}
TellsAfter (message.Marked inc ids) = Unit {0}
TellsAfter (message.Query x ask) = Unit {0}
TellsAfter (message.Verdict x ask inc v) = Unit {0}
TellsAfter (message.Status x inc) = Unit {0}
TellsAfter (message.StatusIs x inc how) = Unit {0}
TellsAfter m = ⊥

abbrev pub PostsAfter : List Post → Type 0
PostsAfter posts = (q : Post) → Has q posts → TellsAfter q.message

plain-after : (m : Message) → TellsPlainly m → TellsAfter m
plain-after (message.Fetched x op group e b) h = h
plain-after (message.Ended x e how) h = h
plain-after (message.Ack x inc refusal) h = h
plain-after (message.Prepare e first ws inc) h = tt
plain-after (message.Mark inc marks) h = tt
plain-after (message.Marked inc ids) h = tt
plain-after (message.Query x ask) h = tt
plain-after (message.Verdict x ask inc v) h = tt
plain-after m h = absurd h

pub all-after : (posts : List Post) → PostsTell posts → PostsAfter posts
all-after posts tell q i = plain-after q.message (tell q i)

pub after-ends : (m : Message) → TellsAfter m → TellsEnd m
after-ends (message.Fetched x op group e b) h = h
after-ends (message.Ended x e how) h = h
after-ends (message.Ack x inc refusal) h = h
after-ends (message.Held x refusal) h = h
after-ends m h = tt

-- what target 0 asks of the other targets for a snapshot, or for an aggregation
abbrev pub is_collected : Message → Bool
is_collected (message.Freeze x c s) = true
is_collected (message.Prune x c tracker e) = true
is_collected m = false

-- what is told that a message got no answer, and which one
abbrev pub IsLost : Message → Message → Type 0
IsLost (message.Reset' t down place (more_of-Message q rest)) asked = q ≡ asked
IsLost m asked = ⊥

-- What follows from a message that isn't heard without stops. Target 0 asks the others for a snapshot, or for an aggregation, at an epoch
-- that it issued to the attempt; or again, where what it asked for one was lost; else it tells as above.
pub data IsSent (q : Message) (did : Did) : Type 0 where
  Quietly : PostsAfter did.posts → IsSent q did
  AsksFreezes : (x : AttemptId) (c : ContId) (name : Key) (tracker s : Epoch) (ts : List ℕ) → q ≡ message.Snap x c name tracker → did.posts ≡ map (freeze_to x c s) ts → did.issued ≡ Some (x, s) → IsSent q did
  AsksPrunes : (x : AttemptId) (c : ContId) (tracker g : Epoch) (ts : List ℕ) → q ≡ message.Prune x c (Some tracker) None → did.posts ≡ map (prune_to x c g) ts → did.issued ≡ Some (x, g) → IsSent q did
  AsksAgain : (t : ℕ) (asked : Message) → IsLost q asked → is_collected asked ≡ true → did.posts ≡ to_target t asked ∷ [] → IsSent q did
