-- Each event of a run keeps what is said of epochs.
use Rattle.std.specs.Prelude.{ℕ, ◌≡◌, ◌<◌, ◌-◌, Some, slice_get, refl}
use Rattle.std.proofs.Common.{append-nil, sym, subst, arith}
use Rattle.world_causes.specs.world_commit.attempts.History.{History}
use Rattle.world_base.specs.declared.client.ClientState.{ClientState}
use Rattle.world_base.specs.declared.world.World.{World}
use Rattle.world_base.specs.ClientTurns.{NextTurn, Skipped, Went_on}
use Rattle.world_base.specs.Events.{ByClient, ByTarget, ClientGoes, Rules, ToClient, ToTarget, after_turn, client_plan, with_client}
use Rattle.world_base.specs.Letters.{client}
use Rattle.world_base.specs.StepLaws.{by-going, by-hearing}
use Rattle.world_base.specs.Steps.{KeptByHearing, KeptByMoves}
use Rattle.world_base.specs.Stops.{Draws, Fails, Further, GivenUp, Happening, IsCut, Opens, Plainly, swept}
use Rattle.world_letters.specs.epochs.Epochs.{ClientsStand, Epochs}
use Rattle.world_letters.specs.epochs.EventLaws.{stands-by-hearing, stands-by-moves}
use Rattle.world_letters.specs.epochs.Talking.{silent-unless}
use Rattle.world_causes.specs.world_commit.fates.Facts.{Attempts}
use Rattle.world_causes.specs.hearing.HappeningEpochs.{talks-once}
use Rattle.world_causes.specs.restarts.EpochLaws.{rests-epochs}
use Rattle.world_causes.specs.restarts.Resting.{failure-rests, given_up-rests, numbers-rests, opening-rests, sweep-rests}
use Rattle.world_letters.specs.snapshots.Makings.{Makings}
use Rattle.world_letters.specs.waits.ClientLaws.{hearing-keeps, moves-keep}
use Rattle.world_letters.specs.waits.Premises.{RequestsAreOfClients}
use Rattle.world_letters.specs.waits.Waits.{Conversation}
use Rattle.world_making.specs.dates.Answering.{quiet-client}
use Rattle.world_making.specs.dates.Going.{moved-dates}
use Rattle.world_making.specs.dates.Happening.{cut-dated, hears-dated, more-dated}
use Rattle.world_making.specs.dates.Heard.{heard-dates}
use Rattle.world_making.specs.dates.Laws.{AllEventsKeepEpochs}
use Rattle.world_making.specs.dates.Moves.{quiet-same}
use Rattle.world_making.specs.dates.Turning.{idles-dated}
use Rattle.world_causes.specs.handing.Dates.{SnapshotsAreRead}

-- ---- clients

module _ (r : Rules) (top : ℕ) (some : 0 < r.attempts) where
  -- beside conversations and places
  abbrev All : World → Type 0
  All w = Conversation r w × ClientsStand r w × Epochs r top w

  all-move : KeptByMoves r All
  all-move w n c here p = (moves-keep r w n c here p.0, stands-by-moves r some w n c here p.1, moved-dates r top w n c p.1 p.2 here (λ idle. silent-unless w n c (talks-once r w p.0) here idle))

  all-hear : KeptByHearing r All
  all-hear w n c l rest here awake takes to p =
      (hearing-keeps r w n c l rest here awake takes to p.0, stands-by-hearing r some w n c l rest here awake takes to p.1, heard-dates r top w n c l rest (talks-once r w p.0) p.1 p.2 here takes to)

  -- a turn that is skipped is counted
  counting-dates : (w : World) (n k : ℕ) (c : ClientState) → slice_get w.clients n ≡ Some c → Epochs r top w → Epochs r top (with_client n (record c { skip = k }) w)
  counting-dates w n k c here E = quiet-client r top w n c (record c { skip = k }) E (quiet-same r top w n c (record c { skip = k }) E here (omega arith) refl refl (λ name e i. i))

  goes-dates : (w v : World) → All w → ClientGoes r w v → Epochs r top v
  goes-dates w v p g = subst (Epochs r top) (sym g.after) (by g.turn)
    where
      by : NextTurn (client_plan r g.n) g.c g.did g.d → Epochs r top (with_client g.n g.d (after_turn w (client g.n) g.did w.messages))
      by (Skipped skips says after) = rw (after, says, append-nil w.messages, append-nil w.issued, append-nil w.lines) (counting-dates w g.n (g.c.skip - 1) g.c g.here p.2)
      by (Went_on runs did) = rw (did.issued, append-nil w.issued) (by-going r All all-move w g.n g.c g.d g.did.posts g.did.lines g.here p did.goes_on).2

-- ---- every event

happening-dates : (r : Rules) (top : ℕ) (h : History) (w v : World) → 0 < r.attempts → SnapshotsAreRead r → RequestsAreOfClients w → Conversation r w → Attempts r h w → Makings r w → ClientsStand r w → Epochs r top w → Happening r w v → Epochs r top v
happening-dates r top h w v some alone clients talk fates makings S E (Plainly (ByClient g) up) = goes-dates r top some w v (talk, S, E) g
happening-dates r top h w v some alone clients talk fates makings S E (Plainly (ToClient g) up) = (by-hearing r (All r top some) (all-move r top some) (all-hear r top some) w v (talk, S, E) g).2
happening-dates r top h w v some alone clients talk fates makings S E (Plainly (ToTarget g) up) = hears-dated r top h w alone clients talk fates makings S E v g
happening-dates r top h w v some alone clients talk fates makings S E (Plainly (ByTarget g) up) = idles-dated r top w v E g
happening-dates r top h w v some alone clients talk fates makings S E (Further g) = more-dated r top h w alone clients talk fates makings S E v g
happening-dates r top h w v some alone clients talk fates makings S E (IsCut g) = cut-dated r top h w alone clients talk fates makings S E v g
happening-dates r top h w v some alone clients talk fates makings S E (Opens g) = rests-epochs r top w v (opening-rests r w v g) E
happening-dates r top h w v some alone clients talk fates makings S E (Fails g) = rests-epochs r top w v (failure-rests r w v g) E
happening-dates r top h w v some alone clients talk fates makings S E (GivenUp g) = rests-epochs r top w v (given_up-rests r w v g) E
happening-dates r top h w v some alone clients talk fates makings S E (Draws g) = rests-epochs r top w v (numbers-rests w v g) E

pub events-dates : AllEventsKeepEpochs
events-dates r top h w v some alone clients talk fates makings S E e =
    subst (Epochs r top) (sym e.after) (rests-epochs r top e.u (swept e.u) (sweep-rests e.u) (happening-dates r top h w e.u some alone clients talk fates makings S E e.happens))
