use Rattle.std.proofs.Common.{◌+◌, ◌∙◌, List, drop, subst, sym}
use Rattle.std.proofs.lemmas.List.{drop_all}
use Rattle.daos_model.specs.declared.durable.Version.{Version}
use Rattle.vos_counting.proofs.Names.{next_item}
use Rattle.vos_pool_settle.proofs.Leaving.{was_ok}
use Rattle.vos_pool_stage.proofs.vos_pool_base.Commits.{is_well, when_ok}
use Rattle.vos_pool_steps.proofs.Steps.{quiet-begins}
use Rattle.vos_pool_tidy.proofs.Clearing.{PartOf, begins, can_turn, ends, passes, turned_part, turned_quietly}
use Rattle.vos_pool_tidy.proofs.removing.remove_uncounted.Goals as goal

pub loop-version-init : goal.loop-version-init
loop-version-init g c = record {
  quiet = quiet-begins g.R.Region.tells g.R.Region.extent g.R.Region.count g.R.Region.burns g.R.Region.image g.R.Region.may_leave c.args.opened;
  running = c.requires.running;
  part = begins g.R.Region.extent g.R.Region.tells g.R.Region.image g.R.Region.may_leave g.R.Region.count g.R.Region.burns c.args.prepared.now c.args.versions.now c.args.opened;
}

pub loop-version-preserved-then-counts : goal.loop-version-preserved-then-counts
loop-version-preserved-then-counts g c =
    let l = c.loop-version in
    let vs = c.args.versions.now in
    let v = c.version-item.result in
    let part = subst (λ (z : List Version). PartOf g.R.Region.extent g.R.Region.tells g.R.Region.image g.R.Region.may_leave g.R.Region.count g.R.Region.burns c.args.prepared.now vs c.args.opened z l.opened) (next_item vs l.version-index v c.loop-version-test.true c.version-item.is) l.invariant.part in
    record {
      quiet = l.invariant.quiet;
      running = l.invariant.running;
      part = passes g.R.Region.extent g.R.Region.tells g.R.Region.image g.R.Region.may_leave g.R.Region.count g.R.Region.burns c.args.prepared.now vs c.args.opened v (drop (l.version-index + 1) vs) l.opened (sym c.counts.ensures ∙ c.if-counts.true) part;
    }

pub turn_pool-next-requires-clause-here : goal.turn_pool-next-requires-clause-here
turn_pool-next-requires-clause-here g c told going =
    can_turn g.R.Region.extent g.R.Region.tells g.R.Region.image g.R.Region.may_leave g.R.Region.count g.R.Region.burns c.args.prepared.now c.args.versions.now c.args.opened (drop c.loop-version.version-index c.args.versions.now) c.loop-version.opened c.loop-version.invariant.part told (c.requires.here told)

pub returns-then-is_err-clause-quiet : goal.returns-then-is_err-clause-quiet
returns-then-is_err-clause-quiet g c =
    let l = c.loop-version in
    let vs = c.args.versions.now in
    let v = c.version-item.result in
    let next = c.turn_pool-next in
    let part = subst (λ (z : List Version). PartOf g.R.Region.extent g.R.Region.tells g.R.Region.image g.R.Region.may_leave g.R.Region.count g.R.Region.burns c.args.prepared.now vs c.args.opened z l.opened) (next_item vs l.version-index v c.loop-version-test.true c.version-item.is) l.invariant.part in
    turned_quietly g.R.Region.extent g.R.Region.tells g.R.Region.image g.R.Region.may_leave g.R.Region.count g.R.Region.burns c.args.prepared.now vs c.args.opened v (drop (l.version-index + 1) vs) l.opened (sym c.counts.ensures ∙ c.if-counts.false) part c.requires.here c.from_ref.result.now next.result.0 next.result.1 c.from_ref.ensures.value next.ensures l.invariant.quiet

pub loop-version-preserved : goal.loop-version-preserved
loop-version-preserved g c =
    let l = c.loop-version in
    let vs = c.args.versions.now in
    let v = c.version-item.result in
    let next = c.turn_pool-next in
    let out = sym c.counts.ensures ∙ c.if-counts.false in
    let part = subst (λ (z : List Version). PartOf g.R.Region.extent g.R.Region.tells g.R.Region.image g.R.Region.may_leave g.R.Region.count g.R.Region.burns c.args.prepared.now vs c.args.opened z l.opened) (next_item vs l.version-index v c.loop-version-test.true c.version-item.is) l.invariant.part in
    record {
      quiet = turned_quietly g.R.Region.extent g.R.Region.tells g.R.Region.image g.R.Region.may_leave g.R.Region.count g.R.Region.burns c.args.prepared.now vs c.args.opened v (drop (l.version-index + 1) vs) l.opened out part c.requires.here c.from_ref.result.now next.result.0 next.result.1 c.from_ref.ensures.value next.ensures l.invariant.quiet;
      running = sym (when_ok _ next.result.1 next.ensures.stops.went_on (is_well next.result.1 c.is_err.result c.is_err.ensures.value c.if-is_err.false)) ∙ l.invariant.running;
      part = turned_part g.R.Region.extent g.R.Region.tells g.R.Region.image g.R.Region.may_leave g.R.Region.count g.R.Region.burns c.args.prepared.now vs c.args.opened v (drop (l.version-index + 1) vs) l.opened out part c.requires.here c.from_ref.result.now next.result.0 next.result.1 c.from_ref.ensures.value next.ensures (was_ok next.result.1 c.is_err.result c.is_err.ensures.value c.if-is_err.false);
    }

pub returns-clause-cleared : goal.returns-clause-cleared
returns-clause-cleared g c =
    let l = c.loop-version in
    let vs = c.args.versions.now in
    ends g.R.Region.extent g.R.Region.tells g.R.Region.image g.R.Region.may_leave g.R.Region.count g.R.Region.burns c.args.prepared.now vs c.args.opened l.opened
    (subst (λ (z : List Version). PartOf g.R.Region.extent g.R.Region.tells g.R.Region.image g.R.Region.may_leave g.R.Region.count g.R.Region.burns c.args.prepared.now vs c.args.opened z l.opened) (drop_all l.version-index vs c.loop-version-test.false) l.invariant.part)
