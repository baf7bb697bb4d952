-- What any run stands on between any two events, and what targets keep and answer: targets may stop and open again, snapshots are made and read,
-- and containers aggregated.
use Rattle.std.specs.Prelude.{ℕ, ◌<◌, List}
use Rattle.base_messages.specs.declared.message.Post.{Post}
use Rattle.daos_model.specs.declared.durable.Version.{Version}
use Rattle.daos_model.specs.Opening.{Opening}
use Rattle.world_legal.specs.world_commit.attempts.History.{Grew, GrowsBy, History}
use Rattle.world_base.specs.declared.world.World.{World}
use Rattle.world_base.specs.Events.{Rules}
use Rattle.world_base.specs.Stops.{WorldEvent}
use Rattle.world_legal.specs.world_causes.causes.Shown.{FloorsShown}
use Rattle.world_legal.specs.world_causes.firsts.Firsts.{Firsts}
use Rattle.world_legal.specs.world_causes.hearing.Going.{EntriesWrite}
use Rattle.world_legal.specs.world_contents.gots.Gots.{Gots}
use Rattle.world_letters.specs.lines.Lines.{Endings, Lines}
use Rattle.world_letters.specs.lives.Lives.{Lives}
use Rattle.world_owners.specs.world_making.makers.Makers.{MakersTell}
use Rattle.world_legal.specs.world_causes.outcomes.Outcomes.{Outcomes}
use Rattle.world_owners.specs.world_making.prunings.Premises.{MakersAreKnown}
use Rattle.world_legal.specs.world_contents.reads.Reads.{Reads}
use Rattle.world_legal.specs.world_contents.reads.Versions.{Versions}
use Rattle.world_legal.specs.world_commit.requests.Rows.{RowsStandOnce}
use Rattle.world_legal.specs.world_commit.statuses.Events.{told_by}
use Rattle.world_legal.specs.world_commit.statuses.Senders.{SendersAreRight}
use Rattle.world_upheld.specs.upheld.Heard.{HeardGrounds}
use Rattle.world_upheld.specs.upheld.Begins.{AreBefore}

-- ---- whatever targets kept when the run began

-- What makes what is heard right: conversations, from whom requests come, where clients stand, epochs, what became of attempts, what targets
-- ask one another, of what snapshots and aggregations come, and what is frozen where. Of which attempts that is told, and that targets know
-- their containers; who sends and answers, and in which order leaders remember attempts; how attempts end, and what lines tell of it; which
-- attempts have entries; floors, first epochs, and lines of targets. Nothing is said of what targets' versions and answers stand for.
pub record Grounds (r : Rules) (o : Opening) (h : History) (w : World) : Type 0 where
  pub heard : HeardGrounds r o h w
  pub makers : MakersTell r w
  pub known : MakersAreKnown r w
  pub senders : SendersAreRight w
  pub rows : RowsStandOnce w
  pub endings : Endings w
  pub lines : Lines r w
  pub outcomes : Outcomes r h w
  pub writes : EntriesWrite r w
  pub floors : FloorsShown o w
  pub firsts : Firsts r w
  pub lives : Lives w

-- each event of a run keeps it, of what is decided and aborted by then
abbrev pub AllEventsKeepGrounds : Type 0
AllEventsKeepGrounds =
    (r : Rules) (o : Opening) (h later : History) (w v : World) → 0 < r.attempts → Grounds r o h w → (e : WorldEvent r w v) → GrowsBy h (told_by e.happens) later → Grounds r o later v

-- it holds of what was decided and aborted by now
pub record HasGroundsStill (r : Rules) (o : Opening) (h : History) (told : List Post) (v : World) : Type 0 where
  pub later : History
  pub grows : GrowsBy h told later
  pub grounds : Grounds r o later v

-- there is always such a later history
abbrev pub GroundsGoOn : Type 0
GroundsGoOn = (r : Rules) (o : Opening) (h : History) (w v : World) → 0 < r.attempts → Grounds r o h w → (e : WorldEvent r w v) → HasGroundsStill r o h (told_by e.happens) v

-- ---- where targets stand for the opening when the run begins

-- what targets keep, what they answered, and what clients were told of that
pub record Contents (r : Rules) (o : Opening) (held : ℕ → List Version) (h : History) (w : World) : Type 0 where
  pub gots : Gots r h w
  pub versions : Versions r o held h w
  pub reads : Reads r o h w

-- both
pub record Upheld (r : Rules) (o : Opening) (held : ℕ → List Version) (h : History) (w : World) : Type 0 where
  pub grounds : Grounds r o h w
  pub contents : Contents r o held h w

-- it holds of what was decided and aborted before, and what was told since, and of all that was served before, and perhaps more
pub record IsUpheldStill (r : Rules) (o : Opening) (held : ℕ → List Version) (h : History) (told : List Post) (v : World) : Type 0 where
  pub later : History
  pub grows : GrowsBy h told later
  pub grew : Grew h later
  pub upheld : Upheld r o held later v

-- each event of a run keeps it
abbrev pub AllEventsUphold : Type 0
AllEventsUphold =
    (r : Rules) (o : Opening) (held : ℕ → List Version) (h : History) (w v : World) → 0 < r.attempts → AreBefore o held → Upheld r o held h w → (e : WorldEvent r w v)
    → IsUpheldStill r o held h (told_by e.happens) v
