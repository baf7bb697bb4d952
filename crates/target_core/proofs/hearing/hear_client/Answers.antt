use Rattle.target_reads.specs.world_ended.Asking.{GoesWith}
use Rattle.std.proofs.Common.{is_some, subst, sym, ◌∷◌, []}
use Rattle.target_parts.specs.Readings.{IsReadBy, read-by}
use Rattle.target_parts.specs.Knowing.{memory_of}
use Rattle.target_core.specs.Targets.{CanHear, HearsOrStops, has_epoch}
use Rattle.snap_core.specs.Snaps.{remembered}
use Rattle.world_base.specs.TargetTurns.{fetch_request}
use Rattle.target_core.proofs.Beside.{fetch-beside}
use Rattle.target_core.proofs.Heard.{hears-fetch}
use Rattle.target_reads.specs.world_letters.kinds.TurnLaws.{turn-heard}
use Rattle.std.specs.Prelude.{IfOk}
use Rattle.target_reads.specs.world_letters.kinds.Loads.{AnswersOnce}
use Rattle.target_core.proofs.hearing.hear_client.Goals as goal

pub hear_fetch-requires-clause-enlisted : goal.hear_fetch-requires-clause-enlisted
hear_fetch-requires-clause-enlisted g c d at = subst (λ m. CanHear c.args.plan m d) c.in-Fetch.is (c.requires.here d at)

pub hear_any_commit-requires-clause-here : goal.hear_any_commit-requires-clause-here
hear_any_commit-requires-clause-here g c d at = subst (λ m. CanHear c.args.plan m d) c.in-Commit.is (c.requires.here d at)

pub returns-in-Fetch-clause-turn : goal.returns-in-Fetch-clause-turn
returns-in-Fetch-clause-turn g c = (
  c.hear_fetch.ensures.turn.0,
  c.hear_fetch.ensures.turn.1,
  λ n snaps d at.
      subst (λ m. HearsOrStops n c.args.plan (remembered (memory_of c.args.knows.now) snaps) c.hear_fetch.ensures.turn.0 c.args.from m d (g.S.Store.state c.args.store.now) (g.S.Store.durable c.hear_fetch.new.store) (g.S.Store.state c.hear_fetch.new.store) (g.S.Store.may c.hear_fetch.new.store) (remembered (memory_of c.hear_fetch.new.knows) snaps) c.hear_fetch.result) (sym c.in-Fetch.is)
      (hears-fetch n c.args.plan (remembered (memory_of c.args.knows.now) snaps) c.hear_fetch.ensures.turn.0 c.args.from d (g.S.Store.state c.args.store.now) (g.S.Store.durable c.hear_fetch.new.store) (g.S.Store.state c.hear_fetch.new.store) (g.S.Store.may c.hear_fetch.new.store) (remembered (memory_of c.hear_fetch.new.knows) snaps) c.in-Fetch.attempt c.in-Fetch.op c.in-Fetch.group c.in-Fetch.ep c.in-Fetch.first c.in-Fetch.tracker c.in-Fetch.read c.in-Fetch.snapshot c.hear_fetch.result
      (fetch-beside snaps c.args.plan (memory_of c.args.knows.now) c.hear_fetch.ensures.turn.0 (fetch_request c.in-Fetch.attempt c.in-Fetch.op c.in-Fetch.group c.in-Fetch.ep c.in-Fetch.first c.in-Fetch.tracker c.in-Fetch.read c.in-Fetch.snapshot) c.args.from d (g.S.Store.state c.args.store.now) (g.S.Store.durable c.hear_fetch.new.store) (g.S.Store.state c.hear_fetch.new.store) (g.S.Store.may c.hear_fetch.new.store) (memory_of c.hear_fetch.new.knows) c.hear_fetch.result (c.hear_fetch.ensures.turn.2 d at))),
)

pub returns-in-Fetch-clause-clock : goal.returns-in-Fetch-clause-clock
returns-in-Fetch-clause-clock g c =
    subst (λ m. IsReadBy g.C.Clock.is_read (has_epoch m) c.hear_fetch.result c.args.clock.now c.hear_fetch.new.clock) (sym c.in-Fetch.is)
    (read-by g.C.Clock.is_read (is_some c.in-Fetch.ep) c.hear_fetch.result c.args.clock.now c.hear_fetch.new.clock c.hear_fetch.ensures.clock)

pub returns-in-Commit-clause-turn : goal.returns-in-Commit-clause-turn
returns-in-Commit-clause-turn g c = (
  c.hear_any_commit.ensures.turn.0,
  c.hear_any_commit.ensures.turn.1,
  λ n snaps d at.
      subst (λ m. HearsOrStops n c.args.plan (remembered (memory_of c.args.knows.now) snaps) c.hear_any_commit.ensures.turn.0 c.args.from m d (g.S.Store.state c.args.store.now) (g.S.Store.durable c.hear_any_commit.new.store) (g.S.Store.state c.hear_any_commit.new.store) (g.S.Store.may c.hear_any_commit.new.store) (remembered (memory_of c.hear_any_commit.new.knows) snaps) c.hear_any_commit.result) (sym c.in-Commit.is) (c.hear_any_commit.ensures.turn.2 n snaps d at),
)

pub returns-in-Fetch-clause-reads : goal.returns-in-Fetch-clause-reads
returns-in-Fetch-clause-reads g c =
    subst (λ m. IfOk c.hear_fetch.result (λ did. AnswersOnce (m ∷ []) c.args.knows.now.member.memory c.hear_fetch.new.knows.member.memory did.posts)) (sym c.in-Fetch.is) c.hear_fetch.ensures.reads

pub returns-in-Commit-clause-reads : goal.returns-in-Commit-clause-reads
returns-in-Commit-clause-reads g c = turn-heard c.hear_any_commit.result c.args.message c.args.knows.now.member.memory c.hear_any_commit.new.knows.member.memory c.hear_any_commit.ensures.reads

pub returns-in-Fetch-clause-ends : goal.returns-in-Fetch-clause-ends
returns-in-Fetch-clause-ends g c asked goes = c.hear_fetch.ensures.ends asked

pub returns-in-Commit-clause-ends : goal.returns-in-Commit-clause-ends
returns-in-Commit-clause-ends g c asked goes = c.hear_any_commit.ensures.ends asked (subst (GoesWith asked) c.in-Commit.is goes)
