use Rattle.std.proofs.Common.{◌≡◌, false, refl}
use Rattle.daos_model.specs.Changes.{prepared}
use Rattle.vos_store.specs.declared.refusal.PrepareNo.TheVariants as prepare
use Rattle.vos_store.specs.Refusals.{prepare_stop}
use Rattle.vos_plain.specs.Counted.{kept_by}
use Rattle.vos_contents.proofs.Prepared.{prepared_is}
use Rattle.vos_plain.proofs.Turning.{makes, makes_stopped}
use Rattle.vos_plain.proofs.plain.PlainStoreStore.prepare.Goals as goal

pub blocks-need-requires : goal.blocks-need-requires
blocks-need-requires c = c.requires.form.form

pub ready-requires : goal.ready-requires
ready-requires c = c.requires.form.form

pub returns-in-Made-clause-kept : goal.returns-in-Made-clause-kept
returns-in-Made-clause-kept c =
    let run : c.args.self.now.stops.stopped ≡ false = cc in
    makes prepare_stop (prepared c.args.entry.now c.args.writes.now) c.args.self.now.stops.stopped (kept_by c.args.self.now.contents) (kept_by c.prepare.new.self) run
    (prepared_is c.args.entry.now c.args.writes.now c.ready.new.self.kept.rows.coming (kept_by c.args.self.now.contents) (kept_by c.ready.new.self) (kept_by c.prepare.new.self) c.in-Ok.ensures.versions c.in-Ok.ensures.same c.prepare.ensures.kept)

pub returns-in-StopAfter-clause-kept : goal.returns-in-StopAfter-clause-kept
returns-in-StopAfter-clause-kept c =
    let run : c.args.self.now.stops.stopped ≡ false = cc in
    makes_stopped prepare_stop (prepared c.args.entry.now c.args.writes.now) c.args.self.now.stops.stopped prepare.Stopped (kept_by c.args.self.now.contents) (kept_by c.prepare-in-StopAfter.new.self) refl run
    (prepared_is c.args.entry.now c.args.writes.now c.ready.new.self.kept.rows.coming (kept_by c.args.self.now.contents) (kept_by c.ready.new.self) (kept_by c.prepare-in-StopAfter.new.self) c.in-Ok.ensures.versions c.in-Ok.ensures.same c.prepare-in-StopAfter.ensures.kept)
