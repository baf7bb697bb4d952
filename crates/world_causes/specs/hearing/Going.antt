-- How the facts of versions and reads go on in an event: the statement.
use Rattle.std.specs.Prelude.{ℕ, ◌≡◌, ◌≢◌, List, [], slice_get, Some}
use Rattle.base_types.specs.declared.entry.Entry.{Entry}
use Rattle.base_messages.specs.declared.message.Post.{Post}
use Rattle.model_laws.specs.Members.{Has}
use Rattle.daos_model.specs.declared.durable.Version.{Version}
use Rattle.daos_model.specs.Opening.{Opening}
use Rattle.world_contents.specs.world_commit.attempts.Attempts.{writes_of}
use Rattle.world_contents.specs.world_commit.attempts.History.{GrowsBy, History, Served}
use Rattle.world_base.specs.declared.target.TargetState.{TargetState}
use Rattle.world_base.specs.declared.world.World.{World}
use Rattle.world_base.specs.Events.{Rules, ToTarget}
use Rattle.world_base.specs.Stops.{Further, Happening, Plainly}
use Rattle.world_contents.specs.world_commit.fates.Asked.{AskedRight}
use Rattle.world_contents.specs.world_commit.fates.Facts.{Attempts}
use Rattle.world_contents.specs.reads.Adds.{AreAnswered}
use Rattle.world_contents.specs.reads.Given.{Given}
use Rattle.world_contents.specs.reads.Reads.{Reads}
use Rattle.world_contents.specs.reads.Versions.{Versions}
use Rattle.world_contents.specs.world_commit.statuses.Senders.{SendersAreRight}

-- every attempt of which a target has an entry writes something
abbrev pub EntriesWrite : Rules → World → Type 0
EntriesWrite r w = (t : ℕ) (s : TargetState) (e : Entry) → slice_get w.targets t ≡ Some s → Has e s.durable.entries → writes_of r e.attempt ≢ []

-- all that holds before an event
pub record Before (r : Rules) (o : Opening) (held : ℕ → List Version) (h : History) (w : World) : Type 0 where
  pub given : Given r o held w
  pub right : AskedRight r h w
  pub senders : SendersAreRight w
  pub attempts : Attempts r h w
  pub writes : EntriesWrite r w
  pub versions : Versions r o held h w
  pub reads : Reads r o h w

-- The facts hold of what is decided, aborted and served by then: of what was, of what is told, and perhaps of more reads; and something holds of
-- that.
pub record GoesOn (r : Rules) (o : Opening) (held : ℕ → List Version) (h : History) (v : World) (told : List Post) (Also : History → Type 0) : Type 0 where
  pub later : History
  pub grows : GrowsBy h told later
  pub served : (q : Served) → Has q h.served → Has q later.served
  pub also : Also later
  pub versions : Versions r o held later v
  pub reads : Reads r o later v

-- each answer that a target sends in an event is that of a read which was served by then
abbrev pub AnswersAreServed : {r : Rules} {w v : World} → Happening r w v → History → Type 0
AnswersAreServed (Plainly (ToTarget g) up) later = AreAnswered later.served g.t g.l.message g.s.memory.member.parked g.did.posts
AnswersAreServed (Further g) later = AreAnswered later.served g.hears.t g.hears.l.message g.hears.s.memory.member.parked g.hears.did.posts
AnswersAreServed e later = Unit {0}
