use Rattle.std.proofs.Common.{sym, subst}
use Rattle.vos_pool_opening.proofs.Begun.{begun-of, err-is, given-back, given-up-then, if-err, if-ok, ok-is, refused-leaves, stands-there}
use Rattle.vos_pool_opening.specs.Opening.{IsLack}
use Rattle.vos_pool_opening.proofs.opening.open_held.Goals as goal

pub returns-in-Err-clause-refused : goal.returns-in-Err-clause-refused
returns-in-Err-clause-refused g c = record {
  refused = c.in-Err.ensures.refused;
  handed_over = c.in-Err.ensures.handed_over;
  left = λ tell. refused-leaves g.R.Region.extent g.R.Region.image g.R.Region.may_leave c.args.asked.now c.args.region c.in-Err.no.region (c.in-Err.ensures.left tell);
}

pub tidied-opened-requires-clause-here : goal.tidied-opened-requires-clause-here
tidied-opened-requires-clause-here g c = λ tell.
    stands-there c.args.asked.now.target g.R.Region.extent g.R.Region.image c.in-Ok.attached.opened c.in-Ok.attached.entries.items c.deref.result.now c.in-Ok.ensures.made.target_is c.deref.ensures.value (c.in-Ok.ensures.made.stands tell)

pub returns-in-Ok-found-clause-begun : goal.returns-in-Ok-found-clause-begun
returns-in-Ok-found-clause-begun g c =
    if-ok c.begin.result _ _
    (λ h b. begun-of g.R.Region.tells g.R.Region.extent g.R.Region.count g.R.Region.burns g.R.Region.image g.R.Region.may_leave c.args.asked.now c.in-Ok.attached.blank c.args.region c.in-Ok.attached.opened c.tidied-opened.result.0
    c.in-Ok.attached.entries.items h c.in-Ok.ensures.made (λ tell. c.rests.ensures.rest tell c.in-Ok.ensures.made.going) (λ tell. c.rests.ensures.free tell c.in-Ok.ensures.made.going) c.in-Ok.ensures.blank c.in-Ok.ensures.written
    c.tidied-opened.ensures.way (c.tidied-opened.ensures.kept (ok-is _ _ _ c.in-Ok-found.is c.tidied-opened.ensures.found).running) b)
    c.begin.ensures.begun

pub returns-in-Ok-found-clause-refused : goal.returns-in-Ok-found-clause-refused
returns-in-Ok-found-clause-refused g c =
    if-err c.begin.result _ _
    (λ no back. given-back g.R.Region.tells g.R.Region.extent g.R.Region.count g.R.Region.burns g.R.Region.image g.R.Region.may_leave c.args.asked.now c.args.region c.in-Ok.attached.opened c.in-Ok.attached.entries.items
    c.in-Ok.ensures.made (λ tell. c.rests.ensures.rest tell c.in-Ok.ensures.made.going) (λ tell. c.rests.ensures.free tell c.in-Ok.ensures.made.going) no.region no.cause
    (given-up-then c.args.asked.now.beginning g.R.Region.tells g.R.Region.extent g.R.Region.count g.R.Region.burns g.R.Region.image g.R.Region.may_leave c.in-Ok.attached.opened c.tidied-opened.result.0 no.region no.cause
    c.tidied-opened.ensures.way (c.tidied-opened.ensures.kept (ok-is _ _ _ c.in-Ok-found.is c.tidied-opened.ensures.found).running) back))
    c.begin.ensures.given_back

pub returns-clause-refused : goal.returns-clause-refused
returns-clause-refused g c =
    given-back g.R.Region.tells g.R.Region.extent g.R.Region.count g.R.Region.burns g.R.Region.image g.R.Region.may_leave c.args.asked.now c.args.region c.in-Ok.attached.opened c.in-Ok.attached.entries.items
    c.in-Ok.ensures.made (λ tell. c.rests.ensures.rest tell c.in-Ok.ensures.made.going) (λ tell. c.rests.ensures.free tell c.in-Ok.ensures.made.going) c.give_back.result.region c.give_back.result.cause
    (record {
      last = c.tidied-opened.result.0;
      way = c.tidied-opened.ensures.way;
      region = c.give_back.ensures.region;
      lack = subst (IsLack c.tidied-opened.result.0.blocks.undo.stopped) (sym c.give_back.ensures.cause) (err-is _ _ _ c.in-Err-found.is c.tidied-opened.ensures.lack);
      attachable = c.give_back.ensures.attachable;
    })
