-- What a client does keeps, all together, its conversation, what lines tell of it, epochs, and what is told of how attempts ended: also where it
-- makes snapshots, reads at them and aggregates.
use Rattle.std.specs.Prelude.{ℕ, ◌≡◌, ◌<◌, is_some, refl}
use Rattle.std.proofs.Common.{ap, arith}
use Rattle.daos_model.specs.BoolLaws.{clash}
use Rattle.world_legal.specs.world_commit.attempts.History.{History}
use Rattle.world_base.specs.declared.world.World.{World}
use Rattle.world_base.specs.ClientTurns.{attempt_id}
use Rattle.world_base.specs.Events.{ClientGoes, ClientHears, Rules, client_plan}
use Rattle.world_base.specs.StepLaws.{by-hearing, by-next}
use Rattle.world_base.specs.Steps.{KeptByCounting, KeptByHearing, KeptByMoves}
use Rattle.world_letters.specs.clients.Snapshots.{is_at_snapshot}
use Rattle.world_owners.specs.world_making.dates.Answering.{quiet-client}
use Rattle.world_owners.specs.world_making.dates.Going.{moved-dates}
use Rattle.world_owners.specs.world_making.dates.Heard.{heard-dates}
use Rattle.world_owners.specs.world_making.dates.Moves.{quiet-same}
use Rattle.world_letters.specs.endings.Events as ending
use Rattle.world_letters.specs.epochs.Epochs.{IsEpochOf, IsIssued, IsOwn, IsSeen, ClientsStand}
use Rattle.world_letters.specs.epochs.Talking.{silent-unless}
use Rattle.world_legal.specs.world_causes.handing.Fitting.{hears-fitly}
use Rattle.world_legal.specs.world_causes.hearing.HappeningEpochs.{talks-once}
use Rattle.world_letters.specs.lines.EndingLaws.{endings-by-counting, endings-by-moves}
use Rattle.world_letters.specs.lines.LineLaws.{lines-by-counting, lines-by-moves}
use Rattle.world_legal.specs.world_causes.outcomes.ClientLaws as outcome
use Rattle.world_legal.specs.world_causes.outcomes.HearLaws as outcome_heard
use Rattle.world_legal.specs.world_standing.standing.Clients.{ClientsSpeak, lines-heard}
use Rattle.world_legal.specs.world_causes.outcomes.Outcomes.{Agrees}
use Rattle.world_letters.specs.waits.ClientLaws as wait
use Rattle.world_letters.specs.lines.Lines.{Lines}
use Rattle.world_legal.specs.world_causes.outcomes.TurnLaws.{told-of}

-- each client is at the command of its number
pub lines-stand : (r : Rules) (w : World) → Lines r w → ClientsStand r w
lines-stand r w k n c here = told-of r w n c k here

module _ (r : Rules) (top : ℕ) (h : History) (some : 0 < r.attempts) where
  -- the epoch that a client knows of its attempt is that of its decision: what reads at a snapshot isn't decided
  agrees : (w : World) → ClientsSpeak r top h w → Agrees r h w
  agrees w k n c a f e here at known decided = by (k.epochs.known n c a f here at known)
    where
      issued : IsIssued w (attempt_id (client_plan r n) c a) e
      issued = k.issued (attempt_id (client_plan r n) c a) e decided

      by : IsEpochOf r w (attempt_id (client_plan r n) c a) f → f ≡ e
      by (IsOwn own) = k.epochs.one (attempt_id (client_plan r n) c a) f e own issued
      by (IsSeen named) = clash (is_at_snapshot r (attempt_id (client_plan r n) c a)) (ap is_some named.reads) (k.epochs.own (attempt_id (client_plan r n) c a) e issued)

  pub by-moves : KeptByMoves r (ClientsSpeak r top h)
  by-moves w n c here k = record {
    talk = wait.moves-keep r w n c here k.talk;
    endings = endings-by-moves r w n c here k.endings;
    lines = lines-by-moves r some w n c here k.lines;
    epochs = moved-dates r top w n c (lines-stand r w k.lines) k.epochs here (λ idle. silent-unless w n c (talks-once r w k.talk) here idle);
    issued = k.issued;
    outcomes = outcome.moving-keeps r h w n c k.lines here k.outcomes;
  }

  pub by-counting : KeptByCounting (ClientsSpeak r top h)
  by-counting w n j c here k = record {
    talk = wait.counting-keeps r w n j c here k.talk;
    endings = endings-by-counting w n j c here k.endings;
    lines = lines-by-counting r w n j c here k.lines;
    epochs = quiet-client r top w n c (record c { skip = j }) k.epochs (quiet-same r top w n c (record c { skip = j }) k.epochs here (omega arith) refl refl (λ name e i. i));
    issued = k.issued;
    outcomes = outcome.counting-keeps r h w n j c here k.outcomes;
  }

  pub hearing-keeps : KeptByHearing r (ClientsSpeak r top h)
  hearing-keeps w n c l rest here awake takes to k = record {
    talk = wait.hearing-keeps r w n c l rest here awake takes to k.talk;
    endings = ending.hearing-keeps r w n c l rest here awake takes to k.endings;
    lines = lines-heard r w n c l rest k.talk k.endings here takes to k.lines;
    epochs = heard-dates r top w n c l rest (talks-once r w k.talk) (lines-stand r w k.lines) k.epochs here takes to;
    issued = k.issued;
    outcomes = outcome_heard.hearing-keeps r h w n c l rest (agrees w k) k.outcomes here takes (hears-fitly r w n c l rest k.talk k.endings here takes to);
  }

  pub client-goes : (w v : World) → ClientsSpeak r top h w → ClientGoes r w v → ClientsSpeak r top h v
  client-goes w v k g = by-next r (ClientsSpeak r top h) by-moves by-counting w v k g

  pub client-hears : (w v : World) → ClientsSpeak r top h w → ClientHears r w v → ClientsSpeak r top h v
  client-hears w v k g = by-hearing r (ClientsSpeak r top h) by-moves hearing-keeps w v k g
