use Rattle.std.proofs.Common.{◌≡◌, ◌∙◌, Err, None, Some, ap, is_some, refl, rules, subst, sym}
use Rattle.base_messages.specs.declared.message.Message.TheVariants.{Commit}
use Rattle.base_types.specs.declared.epoch.Epoch.{Epoch}
use Rattle.base_types.specs.Placement.{writes_members}
use Rattle.dtx_base.specs.Leading.{first_down}
use Rattle.target_parts.specs.Ending.{some_reading}
use Rattle.target_parts.specs.Knowing.{memory_of}
use Rattle.target_parts.specs.Readings.{read-by, wanting-by}
use Rattle.target_parts.specs.Stops.{stop_memory, stop_wanting}
use Rattle.target_core.specs.Targets.{HearsOrStops}
use Rattle.vos_store.specs.Refusals.{says}
use Rattle.snap_core.specs.Snaps.{remembered}
use Rattle.target_core.proofs.Beside.{commit-beside, down-beside}
use Rattle.target_core.proofs.Heard.{commit-not_begun, hears-commit, hears-commit_down}
use Rattle.world_base.specs.Commits.{bits_of}
use Rattle.world_base.specs.Statuses.{down_of}
use Rattle.target_core.proofs.commits.hear_any_commit.Goals as goal

pub returns-in_err-members-clause-turn : goal.returns-in_err-members-clause-turn
returns-in_err-members-clause-turn g c =
    let r = some_reading (g.C.Clock.next c.args.clock.now) in
    let q = c.args.request.now in
    let is : c.from_residual.result ≡ Err stop_memory = search rules in (
      r.0,
      r.1,
      λ n snaps d at.
          subst (λ x. HearsOrStops n c.args.plan (remembered (memory_of c.args.knows.now) snaps) r.0 c.args.from (Commit q.attempt q.ep q.first q.tracker q.writes) d (g.S.Store.state c.args.store.now) (g.S.Store.durable c.args.store.now) (g.S.Store.state c.args.store.now) (g.S.Store.may c.args.store.now) (remembered (memory_of c.args.knows.now) snaps) x) (sym is)
          (commit-not_begun n c.args.plan (remembered (memory_of c.args.knows.now) snaps) r.0 c.args.from d (g.S.Store.state c.args.store.now) (g.S.Store.durable c.args.store.now) (g.S.Store.state c.args.store.now) (g.S.Store.may c.args.store.now) (remembered (memory_of c.args.knows.now) snaps) q.attempt q.ep q.first q.tracker q.writes (record { kept_is = at; free = refl })),
    )

pub returns-in_err-members-clause-clock : goal.returns-in_err-members-clause-clock
returns-in_err-members-clause-clock g c =
    let is : c.from_residual.result ≡ Err stop_memory = search rules in
    wanting-by g.C.Clock.is_read (is_some c.args.request.now.ep) c.from_residual.result c.args.clock.now (ap (says stop_wanting) is)

pub returns-in-Some-clause-clock : goal.returns-in-Some-clause-clock
returns-in-Some-clause-clock g c = read-by g.C.Clock.is_read (is_some c.args.request.now.ep) c.hear_commit_down.result c.args.clock.now c.hear_commit_down.new.clock c.hear_commit_down.ensures.clock

pub returns-in-None-clause-clock : goal.returns-in-None-clause-clock
returns-in-None-clause-clock g c = read-by g.C.Clock.is_read (is_some c.args.request.now.ep) c.hear_commit.result c.args.clock.now c.hear_commit.new.clock c.hear_commit.ensures.clock

pub hear_commit_down-requires-clause-down : goal.hear_commit_down-requires-clause-down
hear_commit_down-requires-clause-down g c e =
    ap (λ ms. first_down ms c.args.knows.now.leader.down) (sym (c.in_ok-members.ensures ∙ ap (λ ws. bits_of (writes_members ws c.args.plan.targets)) c.as_slice.ensures)) ∙ sym c.down_among.ensures ∙ c.in-Some.is

pub returns-in-Some-clause-turn : goal.returns-in-Some-clause-turn
returns-in-Some-clause-turn g c =
    let q = c.args.request.now in
    let down : down_of c.args.plan (memory_of c.args.knows.now) q (record { 0 = 0 }) ≡ Some c.in-Some.down =
    ap (λ ms. first_down ms c.args.knows.now.leader.down) (sym (c.in_ok-members.ensures ∙ ap (λ ws. bits_of (writes_members ws c.args.plan.targets)) c.as_slice.ensures)) ∙ sym c.down_among.ensures ∙ c.in-Some.is in (
      c.hear_commit_down.ensures.turn.0,
      c.hear_commit_down.ensures.turn.1,
      λ n snaps d at.
          hears-commit_down n c.args.plan (remembered (memory_of c.args.knows.now) snaps) c.hear_commit_down.ensures.turn.0 c.args.from d (g.S.Store.state c.args.store.now) (g.S.Store.durable c.hear_commit_down.new.store) (g.S.Store.state c.hear_commit_down.new.store) (g.S.Store.may c.hear_commit_down.new.store) (remembered (memory_of c.hear_commit_down.new.knows) snaps) q.attempt q.ep q.first q.tracker q.writes (record { 0 = 0 }) c.in-Some.down down c.hear_commit_down.result
          (down-beside snaps c.args.plan (g.S.Store.state c.args.store.now).opening (memory_of c.args.knows.now) c.hear_commit_down.ensures.turn.0 q c.args.from d (g.S.Store.state c.args.store.now) (g.S.Store.durable c.hear_commit_down.new.store) (g.S.Store.state c.hear_commit_down.new.store) (g.S.Store.may c.hear_commit_down.new.store) (memory_of c.hear_commit_down.new.knows) c.hear_commit_down.result (c.hear_commit_down.ensures.turn.2 d at)),
    )

pub returns-in-None-clause-turn : goal.returns-in-None-clause-turn
returns-in-None-clause-turn g c =
    let q = c.args.request.now in
    let up : (e : Epoch) → down_of c.args.plan (memory_of c.args.knows.now) q e ≡ None =
    λ e. ap (λ ms. first_down ms c.args.knows.now.leader.down) (sym (c.in_ok-members.ensures ∙ ap (λ ws. bits_of (writes_members ws c.args.plan.targets)) c.as_slice.ensures)) ∙ sym c.down_among.ensures ∙ c.in-None.is in (
      c.hear_commit.ensures.turn.0,
      c.hear_commit.ensures.turn.1,
      λ n snaps d at.
          hears-commit n c.args.plan (remembered (memory_of c.args.knows.now) snaps) c.hear_commit.ensures.turn.0 c.args.from d (g.S.Store.state c.args.store.now) (g.S.Store.durable c.hear_commit.new.store) (g.S.Store.state c.hear_commit.new.store) (g.S.Store.may c.hear_commit.new.store) (remembered (memory_of c.hear_commit.new.knows) snaps) q.attempt q.ep q.first q.tracker q.writes up c.hear_commit.result
          (commit-beside snaps c.args.plan (g.S.Store.state c.args.store.now).opening (memory_of c.args.knows.now) c.hear_commit.ensures.turn.0 q c.args.from d (g.S.Store.state c.args.store.now) (g.S.Store.durable c.hear_commit.new.store) (g.S.Store.state c.hear_commit.new.store) (g.S.Store.may c.hear_commit.new.store) (memory_of c.hear_commit.new.knows) c.hear_commit.result (c.hear_commit.ensures.turn.2 d at)),
    )
