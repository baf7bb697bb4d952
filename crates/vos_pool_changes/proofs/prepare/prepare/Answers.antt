use Rattle.std.proofs.Common.{◌-◌, ◌∙◌, Err, Ok, Some, ap, arith, sym}
use Rattle.base_types.specs.declared.entry.Settle.TheVariants.{Forget}
use Rattle.daos_model.specs.Blocks.{blocks}
use Rattle.daos_model.specs.Changes.{prepared, settled}
use Rattle.daos_model.specs.declared.durable.Durable.{Durable}
use Rattle.daos_model.specs.Durables.{entry_of}
use Rattle.vos_contents.proofs.Prepared.{prepared_is}
use Rattle.vos_pool_held.specs.State.{held_state}
use Rattle.vos_pool_held.specs.vos_contents.Contents.{contents_of}
use Rattle.vos_store.specs.declared.refusal.PrepareNo.TheVariants as prepare
use Rattle.vos_store.specs.Refusals.{prepare_stop}
use Rattle.vos_pool_changes.proofs.After.{after_done, after_stopped, of_done, still_held, turned}
use Rattle.vos_pool_changes.proofs.Named.{all_staged, named_as, prepared_named, settled_named}
use Rattle.vos_pool_changes.proofs.Preparing.{are_unwritten, forgotten_absent, may_be_prepared, none_forgotten}
use Rattle.vos_pool_changes.proofs.prepare.prepare.Goals as goal

pub invariant_of-result : goal.invariant_of-result
invariant_of-result g c =
    let h = c.args.held in
    let run = c.in_default.ensures.running in
    let forgot = settled c.args.entry.now.attempt Forget (contents_of h.contents) in
    let is = c.ready.ensures.same ∙ c.settle.ensures.kept in
    record {
      held = still_held g.R.Region.tells g.R.Region.extent g.R.Region.image g.R.Region.may_leave h.opened (contents_of h.contents) (contents_of c.ready.new.self) h.free h.floor.0 h.target h.targets h.held
          (λ tell. let was = c.known.ensures.kept tell run in was ∙ ap (λ (d : Durable). Some d) (sym (is ∙ none_forgotten c.args.entry.now.attempt (contents_of h.contents) (c.requires.here run (contents_of h.contents) was).absent)))
          (c.ready.ensures.lease ∙ c.settle.ensures.lease) (named_as (contents_of c.ready.new.self) forgot is (settled_named c.args.entry.now.attempt Forget (contents_of h.contents) c.known.ensures.named));
    }

pub prepare-opened-requires-clause-form : goal.prepare-opened-requires-clause-form
prepare-opened-requires-clause-form g c = may_be_prepared (held_state g.R.Region.count g.R.Region.burns g.R.Region.can_burn c.args.held) c.args.held.opened.table.header.targets c.args.entry.now c.args.writes.now c.known.ensures.targets c.requires.form c.in_default.ensures.taken

pub prepare-opened-requires-clause-here : goal.prepare-opened-requires-clause-here
prepare-opened-requires-clause-here g c run d is = are_unwritten (held_state g.R.Region.count g.R.Region.burns g.R.Region.can_burn c.args.held) c.args.entry.now c.args.writes.now d (c.requires.here run d is)

pub invariant_of-result-then-is_err-2 : goal.invariant_of-result-then-is_err-2
invariant_of-result-then-is_err-2 g c =
    let h = c.args.held in
    let k = c.prepare-opened.ensures in
    let need = c.blocks-need.ensures in
    let room = c.in_default.ensures.room in
    let forgot = settled c.args.entry.now.attempt Forget (contents_of h.contents) in
    record {
      held = after_stopped g.R.Region.tells g.R.Region.extent g.R.Region.image g.R.Region.may_leave g.R.Region.count g.R.Region.burns (blocks c.args.writes.now) h.opened c.prepare-opened.result.0 (contents_of h.contents) (contents_of c.ready.new.self) h.free (h.free - c.blocks-need.result) h.floor.0 h.target h.targets h.held c.prepare-opened.result.1 k.stops k.size k.left (c.ready.ensures.lease ∙ c.settle.ensures.lease)
          (named_as (contents_of c.ready.new.self) forgot (c.ready.ensures.same ∙ c.settle.ensures.kept) (settled_named c.args.entry.now.attempt Forget (contents_of h.contents) c.known.ensures.named)) (sym c.is_err-2.ensures.value ∙ c.if-is_err-2.true) (omega (arith, need, room));
    }

pub returns-then-is_err-2-clause-call : goal.returns-then-is_err-2-clause-call
returns-then-is_err-2-clause-call g c =
    let h = c.args.held in
    let need = c.blocks-need.ensures in
    let room = c.in_default.ensures.room in
    let stopped = sym c.is_err-2.ensures.value ∙ c.if-is_err-2.true in
    turned g.R.Region.count g.R.Region.burns g.R.Region.can_burn (blocks c.args.writes.now) prepare_stop (Err prepare.Stopped) h.opened c.prepare-opened.result.0 h.free (h.free - c.blocks-need.result) h.targets (h.floor, h.why) g.met.R.Region.unburnt c.in_default.ensures.running c.prepare-opened.result.1 (sym stopped) (sym stopped) c.prepare-opened.ensures.stops (omega (arith, need, room))

pub prepare-requires-clause-absent : goal.prepare-requires-clause-absent
prepare-requires-clause-absent g c =
    ap (λ (d : Durable). entry_of d c.args.entry.now.attempt) (c.ready.ensures.same ∙ c.settle.ensures.kept) ∙ forgotten_absent c.args.entry.now.attempt (contents_of c.args.held.contents)

pub invariant_of-result-2 : goal.invariant_of-result-2
invariant_of-result-2 g c =
    let h = c.args.held in
    let k = c.prepare-opened.ensures in
    let f = c.free_blocks-free.ensures in
    let run = c.in_default.ensures.running in
    let done = sym c.is_err-2.ensures.value ∙ c.if-is_err-2.false in
    let e = c.args.entry.now in
    let ws = c.args.writes.now in
    let forgot = settled e.attempt Forget (contents_of h.contents) in
    let same = c.ready.ensures.same ∙ c.settle.ensures.kept in
    let come = of_done c.ready.result (sym c.is_err.ensures.value ∙ c.if-is_err.false) c.ready.ensures.versions in
    let is = prepared_is e ws c.ready.new.self.rows.coming forgot (contents_of c.ready.new.self) (contents_of c.prepare.new.self) come same c.prepare.ensures.kept in
    record {
      held = after_done g.R.Region.tells g.R.Region.extent g.R.Region.image g.R.Region.may_leave g.R.Region.count g.R.Region.burns (blocks ws) h.opened c.prepare-opened.result.0 (contents_of h.contents) (contents_of c.prepare.new.self) h.free c.free_blocks-free.result h.floor.0 h.target h.targets h.held c.prepare-opened.result.1 k.stops k.size k.left
          (c.prepare.ensures.lease ∙ (c.ready.ensures.lease ∙ c.settle.ensures.lease))
          (named_as (contents_of c.prepare.new.self) (prepared e ws forgot) is (prepared_named e ws forgot (all_staged e ws c.requires.form.form.each c.requires.form.form.minors c.in_default.ensures.taken) (settled_named e.attempt Forget (contents_of h.contents) c.known.ensures.named)))
          (prepared e ws) done run k.kept.done (λ tell. c.known.ensures.kept tell run)
          (λ tell. is ∙ ap (prepared e ws) (none_forgotten e.attempt (contents_of h.contents) (c.requires.here run (contents_of h.contents) (c.known.ensures.kept tell run)).absent))
          (of_done c.prepare-opened.result.1 done k.tidy) f.rests f.unstaged f.holds f.free;
    }

pub returns-clause-call : goal.returns-clause-call
returns-clause-call g c =
    let h = c.args.held in
    let run = c.in_default.ensures.running in
    let done = sym c.is_err-2.ensures.value ∙ c.if-is_err-2.false in
    let was = c.known.ensures.free run in
    let now = c.free_blocks-free.ensures.free in
    let more = c.prepare-opened.ensures.free in
    turned g.R.Region.count g.R.Region.burns g.R.Region.can_burn (blocks c.args.writes.now) prepare_stop (Ok tt) h.opened c.prepare-opened.result.0 h.free c.free_blocks-free.result h.targets (h.floor, h.why) g.met.R.Region.unburnt run c.prepare-opened.result.1 (sym done) (sym done) c.prepare-opened.ensures.stops (omega (arith, was, now, more))
