use Rattle.std.proofs.Common.{◌≡◌, ◌≤◌, ◌∙◌, ap, arith, false, refl}
use Rattle.std.proofs.lemmas.Bool.Decides.{nat_tests}
use Rattle.daos_model.specs.Changes.{leased}
use Rattle.daos_model.specs.declared.durable.Durable.{Durable}
use Rattle.vos_contents.specs.Contents.{contents_of}
use Rattle.vos_pool_rows.proofs.Keeping.{leased_same, leased_versions, made_holds, stopped_holds, was_running}
use Rattle.vos_pool_rows.proofs.leasing.extend_lease.Goals as goal

pub invariant_of-held : goal.invariant_of-held
invariant_of-held g c =
    let k = c.in_err-extend_lease.ensures in
    record {
      held = stopped_holds g.R.Region.tells g.R.Region.extent g.R.Region.image g.R.Region.may_leave c.args.held.now.opened c.extend_lease.new.self (contents_of c.args.held.now.contents) (contents_of c.args.held.now.contents) c.args.held.now.free c.args.held.now.floor.0 c.args.held.now.target c.args.held.now.targets c.args.held.now.held k.stops.stopped k.size k.left k.free refl refl;
    }

pub invariant_of-held-then-held-ticks : goal.invariant_of-held-then-held-ticks
invariant_of-held-then-held-ticks g c =
    let k = c.in_ok-extend_lease.ensures in
    let run : c.args.held.now.opened.blocks.undo.stopped ≡ false = was_running _ _ _ _ _ _ _ k.stops in
    let longer : c.args.held.now.contents.lease ≤ c.extend.new.self.lease = grind (arith, nat_tests, c.if-held-ticks.true, c.extend.ensures.lease) in
    record {
      held = made_holds g.R.Region.tells g.R.Region.extent g.R.Region.image g.R.Region.may_leave c.args.held.now.opened c.extend_lease.new.self (contents_of c.args.held.now.contents) (contents_of c.extend.new.self) c.args.held.now.free c.args.held.now.floor.0 c.args.held.now.target c.args.held.now.targets (leased c.args.ticks) c.args.held.now.held run k.size k.left k.free k.kept.done k.tidy c.free_blocks-free.ensures.rests
          (λ _ _. c.extend.ensures.kept) longer (ap (λ (d : Durable). d.versions) c.extend.ensures.kept ∙ leased_versions c.args.ticks (contents_of c.args.held.now.contents));
    }

pub invariant_of-held-else-held-ticks : goal.invariant_of-held-else-held-ticks
invariant_of-held-else-held-ticks g c =
    let k = c.in_ok-extend_lease.ensures in
    let run : c.args.held.now.opened.blocks.undo.stopped ≡ false = was_running _ _ _ _ _ _ _ k.stops in
    record {
      held = made_holds g.R.Region.tells g.R.Region.extent g.R.Region.image g.R.Region.may_leave c.args.held.now.opened c.extend_lease.new.self (contents_of c.args.held.now.contents) (contents_of c.args.held.now.contents) c.args.held.now.free c.args.held.now.floor.0 c.args.held.now.target c.args.held.now.targets (leased c.args.ticks) c.args.held.now.held run k.size k.left k.free k.kept.done k.tidy c.free_blocks-free.ensures.rests
          (λ _ kept. let on = c.requires.on run (contents_of c.args.held.now.contents) kept in leased_same c.args.ticks (contents_of c.args.held.now.contents) (grind (arith, nat_tests, on, c.if-held-ticks.false))) (omega arith) refl;
    }
