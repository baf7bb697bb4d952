use Rattle.std.specs.Prelude.{Err}
use Rattle.std.proofs.Common.{rules, ap, ◌∙◌}
use Rattle.vos_pool_opening.proofs.Begun.{ok-is, ok-was}
use Rattle.vos_pool_opening.proofs.Finding.{found-in}
use Rattle.vos_pool_steps.proofs.Steps.{quiet-follows}
use Rattle.vos_pool_opening.proofs.tidied.read_tidied.Goals as goal

pub returns-in-Err-clause-lack : goal.returns-in-Err-clause-lack
returns-in-Err-clause-lack g c = c.cause_of_pieces.ensures c.read_pool-opened.result.0.blocks.undo.stopped (λ is. c.read_pool-opened.ensures.stopped.0 (c.in-Err.is ∙ ap Err is))

pub tidy-opened-requires-clause-here : goal.tidy-opened-requires-clause-here
tidy-opened-requires-clause-here g c = λ tell going.
    let s = c.requires.here tell in (
      s.stored,
      (
        c.read_pool-opened.ensures.stands tell s.stored s.stands,
        (s.rows_are, c.deref-2.ensures.value ∙ ok-is _ _ _ c.in-Ok.is c.read_pool-opened.ensures.read tell s.stored s.stands),
      ),
    )

pub returns-in-Ok-tidied-clause-quiet : goal.returns-in-Ok-tidied-clause-quiet
returns-in-Ok-tidied-clause-quiet g c =
    quiet-follows g.R.Region.tells g.R.Region.extent g.R.Region.count g.R.Region.burns g.R.Region.image g.R.Region.may_leave c.args.opened c.read_pool-opened.result.0 c.tidy-opened.result.0 c.read_pool-opened.ensures.quiet
    c.tidy-opened.ensures.quiet

pub returns-in-Ok-tidied-clause-found : goal.returns-in-Ok-tidied-clause-found
returns-in-Ok-tidied-clause-found g c =
    found-in g.R.Region.tells g.R.Region.extent g.R.Region.count g.R.Region.burns g.R.Region.image g.R.Region.may_leave c.args.opened c.tidy-opened.result.0 c.args.rows.now c.in-Ok.versions.items c.in-Ok-counted.counted.items
    (λ tell. c.rests.ensures.rest tell c.requires.running) c.requires.here (ok-is _ _ _ c.in-Ok.is c.read_pool-opened.ensures.read) (search rules)
    (ok-is _ _ _ c.in-Ok.is c.read_pool-opened.ensures.form) (ok-is _ _ _ c.in-Ok.is c.read_pool-opened.ensures.named)
    (quiet-follows g.R.Region.tells g.R.Region.extent g.R.Region.count g.R.Region.burns g.R.Region.image g.R.Region.may_leave c.args.opened c.read_pool-opened.result.0 c.tidy-opened.result.0 c.read_pool-opened.ensures.quiet
    c.tidy-opened.ensures.quiet) (ok-was _ _ c.in-Ok-tidied.is c.tidy-opened.ensures.running) (ok-was _ _ c.in-Ok-tidied.is c.tidy-opened.ensures.tidy)

pub returns-clause-quiet : goal.returns-clause-quiet
returns-clause-quiet g c =
    quiet-follows g.R.Region.tells g.R.Region.extent g.R.Region.count g.R.Region.burns g.R.Region.image g.R.Region.may_leave c.args.opened c.read_pool-opened.result.0 c.tidy-opened.result.0 c.read_pool-opened.ensures.quiet
    c.tidy-opened.ensures.quiet

pub returns-clause-lack : goal.returns-clause-lack
returns-clause-lack g c = c.cause_of_tidy.ensures c.tidy-opened.result.0.blocks.undo.stopped (λ is. c.tidy-opened.ensures.stopped (c.in-Err-tidied.is ∙ ap Err is))
