use Rattle.std.proofs.Common.{◌+◌, ◌∙◌, List, drop, false, get_or, subst}
use Rattle.std.proofs.lemmas.List.{drop_all}
use Rattle.vos_check_entries.specs.declared.entry.EntryRow.{EntryRow}
use Rattle.vos_pool_stage.proofs.vos_pool_base.Commits.{is_well, when_ok}
use Rattle.vos_pool_steps.proofs.Steps.{quiet-begins, quiet-follows}
use Rattle.vos_pool_unlist.proofs.Lists.{next_row}
use Rattle.vos_pool_unlist.proofs.Making.{IsPartUnlisted, begins, ends, gives, not_stopped, passes}
use Rattle.vos_pool_unlist.proofs.unlisting.unlist_each.Goals as goal

pub loop-row-init : goal.loop-row-init
loop-row-init g c = record {
  quiet = quiet-begins g.R.Region.tells g.R.Region.extent g.R.Region.count g.R.Region.burns g.R.Region.image g.R.Region.may_leave c.args.opened;
  running = c.requires.running;
  part = λ told x stands. begins g.R.Region.extent g.R.Region.image c.args.opened x c.args.rows.now (c.requires.rows told) stands;
}

pub loop-row-preserved-then-row-eq0 : goal.loop-row-preserved-then-row-eq0
loop-row-preserved-then-row-eq0 g c =
    let l = c.loop-row in
    let rows = c.args.rows.now in
    let none : EntryRow = record { entry = record { attempt = record { client = 0; command = 0; attempt = 0 }; epoch = record { 0 = 0 }; leader = 0; members = 0; confirmed = 0; committed = false }; listed = 0 } in
    let r = get_or rows l.row-index none in
    record {
      quiet = l.invariant.quiet;
      running = l.invariant.running;
      part = λ told x stands.
          passes g.R.Region.extent g.R.Region.image c.args.opened x r (drop (l.row-index + 1) rows) l.opened c.if-row-eq0.true
          (subst (λ (z : List EntryRow). IsPartUnlisted g.R.Region.extent g.R.Region.image z x l.opened) (next_row rows l.row-index none c.loop-row-test.true) (l.invariant.part told x stands));
    }

pub returns-then-is_err-clause-quiet : goal.returns-then-is_err-clause-quiet
returns-then-is_err-clause-quiet g c =
    quiet-follows g.R.Region.tells g.R.Region.extent g.R.Region.count g.R.Region.burns g.R.Region.image g.R.Region.may_leave c.args.opened c.loop-row.opened c.unlist_pool-next.result.0 c.loop-row.invariant.quiet c.unlist_pool-next.ensures.quiet

pub loop-row-preserved : goal.loop-row-preserved
loop-row-preserved g c =
    let l = c.loop-row in
    let rows = c.args.rows.now in
    let none : EntryRow = record { entry = record { attempt = record { client = 0; command = 0; attempt = 0 }; epoch = record { 0 = 0 }; leader = 0; members = 0; confirmed = 0; committed = false }; listed = 0 } in
    let r = get_or rows l.row-index none in
    let next = c.unlist_pool-next in
    let well = is_well next.result.1 c.is_err.result c.is_err.ensures.value c.if-is_err.false in
    record {
      quiet = quiet-follows g.R.Region.tells g.R.Region.extent g.R.Region.count g.R.Region.burns g.R.Region.image g.R.Region.may_leave c.args.opened l.opened next.result.0 l.invariant.quiet next.ensures.quiet;
      running = next.ensures.stopped ∙ not_stopped next.result.1 well;
      part = λ told x stands.
          let k = subst (λ (z : List EntryRow). IsPartUnlisted g.R.Region.extent g.R.Region.image z x l.opened) (next_row rows l.row-index none c.loop-row-test.true) (l.invariant.part told x stands) in
          gives g.R.Region.extent g.R.Region.image c.args.opened x r (drop (l.row-index + 1) rows) l.opened next.result.0 k (when_ok _ next.result.1 next.ensures.unlisted well told k.now k.stands);
    }

pub returns-clause-unlisted : goal.returns-clause-unlisted
returns-clause-unlisted g c told x stands =
    ends g.R.Region.extent g.R.Region.image c.args.opened x c.loop-row.opened
    (subst (λ (z : List EntryRow). IsPartUnlisted g.R.Region.extent g.R.Region.image z x c.loop-row.opened) (drop_all c.loop-row.row-index c.args.rows.now c.loop-row-test.false) (c.loop-row.invariant.part told x stands))
