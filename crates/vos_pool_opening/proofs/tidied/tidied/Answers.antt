use Rattle.std.proofs.Common.{sym, ◌∙◌}
use Rattle.vos_pool_opening.proofs.Ways.{ran-ok, way-quiet, way-raised}
use Rattle.vos_pool_opening.proofs.tidied.tidied.Goals as goal

pub returns-then-is_err-clause-way : goal.returns-then-is_err-clause-way
returns-then-is_err-clause-way g c =
    way-raised c.args.beginning g.R.Region.tells g.R.Region.extent g.R.Region.count g.R.Region.burns g.R.Region.image g.R.Region.may_leave c.args.opened c.raise_layout.new.opened c.raise_layout.result c.requires.running
    (c.rests.ensures.left c.requires.running) c.raise_layout.ensures.table c.raise_layout.ensures.unraised c.raise_layout.ensures.may c.raise_layout.ensures.left c.raise_layout.ensures.map c.raise_layout.ensures.size
    c.raise_layout.ensures.stops

pub read_tidied-requires-clause-here : goal.read_tidied-requires-clause-here
read_tidied-requires-clause-here g c = λ tell.
    let s = c.requires.here tell in record {
      stored = s.stored;
      stands = ran-ok c.raise_layout.result (sym c.is_err.ensures.value ∙ c.if-is_err.false) c.raise_layout.ensures.stands tell s.stored s.stands;
      rows_are = s.rows_are;
    }

pub returns-clause-way : goal.returns-clause-way
returns-clause-way g c =
    let going = sym (ran-ok c.raise_layout.result (sym c.is_err.ensures.value ∙ c.if-is_err.false) c.raise_layout.ensures.stops.went_on) ∙ c.requires.running in
    way-quiet c.args.beginning g.R.Region.tells g.R.Region.extent g.R.Region.count g.R.Region.burns g.R.Region.image g.R.Region.may_leave c.args.opened c.raise_layout.new.opened c.read_tidied.result.0
    (way-raised c.args.beginning g.R.Region.tells g.R.Region.extent g.R.Region.count g.R.Region.burns g.R.Region.image g.R.Region.may_leave c.args.opened c.raise_layout.new.opened c.raise_layout.result c.requires.running
    (c.rests.ensures.left c.requires.running) c.raise_layout.ensures.table c.raise_layout.ensures.unraised c.raise_layout.ensures.may c.raise_layout.ensures.left c.raise_layout.ensures.map c.raise_layout.ensures.size
    c.raise_layout.ensures.stops) going (c.rests-2.ensures.left going) c.read_tidied.ensures.quiet
