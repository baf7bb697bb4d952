-- What a turn adds to the history, by what it tells: attempts that are committed, and those that end otherwise.
use Rattle.std.specs.Prelude.{◌≡◌, ◌≢◌, List, [], ◌∷◌, ◌++◌, Contains, Option, Some}
use Rattle.base_types.specs.declared.epoch.Epoch.{Epoch}
use Rattle.base_types.specs.declared.id.AttemptId.{AttemptId}
use Rattle.base_types.specs.declared.outcome.Outcome.{Outcome}
use Rattle.base_types.specs.declared.outcome.Outcome.TheVariants.{Committed}
use Rattle.base_messages.specs.declared.message.Message.{Message}
use Rattle.base_messages.specs.declared.message.Message.TheVariants.{Ended}
use Rattle.base_messages.specs.declared.message.Post.{Post}
use Rattle.daos_model.specs.Opening.{Opening}
use Rattle.world_commit.specs.attempts.Attempts.{writes_of}
use Rattle.world_commit.specs.attempts.History.{History, Served}
use Rattle.world_commit.specs.world_base.Events.{Rules}
use Rattle.world_contents.specs.reads.DecideLaws.{MayBeDecided}

-- ---- what is told

abbrev pub committed_if : AttemptId → Option Epoch → Outcome → List (AttemptId × Epoch)
committed_if x (Some e) Committed = (x, e) ∷ []
committed_if x own how = []

abbrev pub refused_if : AttemptId → Outcome → List AttemptId
refused_if x Committed = []
refused_if x how = x ∷ []

abbrev pub committed_by : Message → List (AttemptId × Epoch)
committed_by (Ended x own how) = committed_if x own how
committed_by m = []

abbrev pub refused_by : Message → List AttemptId
refused_by (Ended x own how) = refused_if x how
refused_by m = []

-- the attempts that messages tell of as committed, each with its epoch
abbrev pub committed_in : List Post → List (AttemptId × Epoch)
committed_in [] = []
committed_in (p ∷ ps) = committed_by p.message ++ committed_in ps

-- and those that they tell of as ended otherwise
abbrev pub refused_in : List Post → List AttemptId
refused_in [] = []
refused_in (p ∷ ps) = refused_by p.message ++ refused_in ps

-- the history with these attempts decided, with those aborted that messages tell of so, and with these reads served
abbrev pub grown : History → List (AttemptId × Epoch) → List Post → List Served → History
grown h told posts more = record { decided = told ++ h.decided; aborted = refused_in posts ++ h.aborted; served = more ++ h.served }

-- ---- what a turn decides

-- it tells of no attempt as committed; or of one, which may be decided, has an epoch that was issued, and writes something
pub data Decides (r : Rules) (o : Opening) (h : History) (issued : List (AttemptId × Epoch)) (posts : List Post) : List (AttemptId × Epoch) → Type 0 where
  NoneMore : committed_in posts ≡ [] → Decides r o h issued posts []
  OneMore : (x : AttemptId) (e : Epoch) → committed_in posts ≡ (x, e) ∷ [] → MayBeDecided r o h x e → Contains issued (x, e) → writes_of r x ≢ [] → Decides r o h issued posts ((x, e) ∷ [])
