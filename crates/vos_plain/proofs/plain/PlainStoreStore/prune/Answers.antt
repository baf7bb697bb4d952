use Rattle.std.proofs.Common.{◌≡◌, false, refl}
use Rattle.daos_model.specs.Changes.{pruned}
use Rattle.vos_store.specs.Calls.{CutPrune}
use Rattle.vos_store.specs.Refusals.{always_stop}
use Rattle.vos_plain.specs.Counted.{kept_by}
use Rattle.vos_plain.proofs.Turning.{makes_partly, makes_partly_stopped, whole_prune}
use Rattle.vos_plain.proofs.plain.PlainStoreStore.prune.Goals as goal

pub returns-in-Made-clause-kept : goal.returns-in-Made-clause-kept
returns-in-Made-clause-kept c =
    let run : c.args.self.now.stops.stopped ≡ false = cc in
    makes_partly always_stop (pruned c.args.cont c.args.upto c.args.number) (CutPrune c.args.cont c.args.upto c.args.number) c.args.self.now.stops.stopped (kept_by c.args.self.now.contents) (kept_by c.prune.new.self) run c.prune.ensures.kept (whole_prune c.args.cont c.args.upto c.args.number)

pub returns-in-StopAfter-clause-kept : goal.returns-in-StopAfter-clause-kept
returns-in-StopAfter-clause-kept c =
    let run : c.args.self.now.stops.stopped ≡ false = cc in
    makes_partly_stopped always_stop (pruned c.args.cont c.args.upto c.args.number) (CutPrune c.args.cont c.args.upto c.args.number) c.args.self.now.stops.stopped (record {}) (kept_by c.args.self.now.contents) (kept_by c.prune-in-StopAfter.new.self) refl run c.prune-in-StopAfter.ensures.kept (whole_prune c.args.cont c.args.upto c.args.number)
