use Rattle.std.proofs.Common.{◌≡◌, false, refl}
use Rattle.daos_model.specs.Changes.{discarded}
use Rattle.vos_store.specs.declared.refusal.DiscardNo.TheVariants as discard
use Rattle.vos_store.specs.Calls.{CutDiscard}
use Rattle.vos_store.specs.Refusals.{discard_stop}
use Rattle.vos_plain.specs.Counted.{kept_by}
use Rattle.vos_plain.proofs.Turning.{makes_partly, makes_partly_stopped, whole_discard}
use Rattle.vos_plain.proofs.plain.PlainStoreStore.discard.Goals as goal

pub returns-in-Made-clause-kept : goal.returns-in-Made-clause-kept
returns-in-Made-clause-kept c =
    let run : c.args.self.now.stops.stopped ≡ false = cc in
    makes_partly discard_stop (discarded c.args.cont c.args.lo c.args.hi) (CutDiscard c.args.cont c.args.lo c.args.hi) c.args.self.now.stops.stopped (kept_by c.args.self.now.contents) (kept_by c.discard.new.self) run c.discard.ensures.kept (whole_discard c.args.cont c.args.lo c.args.hi)

pub returns-in-StopAfter-clause-kept : goal.returns-in-StopAfter-clause-kept
returns-in-StopAfter-clause-kept c =
    let run : c.args.self.now.stops.stopped ≡ false = cc in
    makes_partly_stopped discard_stop (discarded c.args.cont c.args.lo c.args.hi) (CutDiscard c.args.cont c.args.lo c.args.hi) c.args.self.now.stops.stopped discard.Stopped (kept_by c.args.self.now.contents) (kept_by c.discard-in-StopAfter.new.self) refl run c.discard-in-StopAfter.ensures.kept (whole_discard c.args.cont c.args.lo c.args.hi)
