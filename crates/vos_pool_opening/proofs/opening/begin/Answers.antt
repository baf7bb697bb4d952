use Rattle.std.proofs.Common.{refl, sym, subst}
use Rattle.vos_pool_opening.proofs.Begun.{back-up, if-err}
use Rattle.vos_pool_opening.proofs.Ways.{way-begins, way-counted}
use Rattle.vos_pool_opening.specs.Opening.{IsLack}
use Rattle.vos_pool_opening.proofs.opening.begin.Goals as goal

pub returns-then-blank-clause-given_back : goal.returns-then-blank-clause-given_back
returns-then-blank-clause-given_back g c =
    if-err c.keep.result _ _
    (λ no back. back-up c.args.asked.now.beginning g.R.Region.tells g.R.Region.extent g.R.Region.count g.R.Region.burns g.R.Region.image g.R.Region.may_leave c.args.opened c.args.opened no.region no.cause
    (way-begins c.args.asked.now.beginning g.R.Region.tells g.R.Region.extent g.R.Region.count g.R.Region.burns g.R.Region.image g.R.Region.may_leave c.args.opened c.requires.found.running (c.rests.ensures.left c.requires.found.running)) back)
    c.keep.ensures.given_back

pub returns-in-Ok-clause-given_back : goal.returns-in-Ok-clause-given_back
returns-in-Ok-clause-given_back g c =
    if-err c.keep-in-Ok.result _ _
    (λ no back. back-up c.args.asked.now.beginning g.R.Region.tells g.R.Region.extent g.R.Region.count g.R.Region.burns g.R.Region.image g.R.Region.may_leave c.args.opened c.count_opening.new.opened no.region no.cause
    (way-counted c.args.asked.now.beginning g.R.Region.tells g.R.Region.extent g.R.Region.count g.R.Region.burns g.R.Region.image g.R.Region.may_leave c.args.opened c.args.opened c.count_opening.new.opened c.count_opening.result
    (way-begins c.args.asked.now.beginning g.R.Region.tells g.R.Region.extent g.R.Region.count g.R.Region.burns g.R.Region.image g.R.Region.may_leave c.args.opened c.requires.found.running (c.rests.ensures.left c.requires.found.running))
    c.requires.found.running (c.rests.ensures.left c.requires.found.running) refl c.count_opening.ensures.begun c.count_opening.ensures.left c.count_opening.ensures.free c.count_opening.ensures.size c.count_opening.ensures.stops) back)
    c.keep-in-Ok.ensures.given_back

pub returns-in-Err-clause-given_back : goal.returns-in-Err-clause-given_back
returns-in-Err-clause-given_back g c = record {
  last = c.count_opening.new.opened;
  way =
      way-counted c.args.asked.now.beginning g.R.Region.tells g.R.Region.extent g.R.Region.count g.R.Region.burns g.R.Region.image g.R.Region.may_leave c.args.opened c.args.opened c.count_opening.new.opened c.count_opening.result
      (way-begins c.args.asked.now.beginning g.R.Region.tells g.R.Region.extent g.R.Region.count g.R.Region.burns g.R.Region.image g.R.Region.may_leave c.args.opened c.requires.found.running (c.rests.ensures.left c.requires.found.running))
      c.requires.found.running (c.rests.ensures.left c.requires.found.running) refl c.count_opening.ensures.begun c.count_opening.ensures.left c.count_opening.ensures.free c.count_opening.ensures.size c.count_opening.ensures.stops;
  region = c.give_back.ensures.region;
  lack = subst (IsLack c.count_opening.new.opened.blocks.undo.stopped) (sym c.give_back.ensures.cause) c.in-Err.ensures.stops.stopped;
  attachable = c.give_back.ensures.attachable;
}
