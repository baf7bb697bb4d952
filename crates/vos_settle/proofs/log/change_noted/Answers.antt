use Rattle.std.proofs.Common.{◌∙◌, sym}
use Rattle.vos_levels.proofs.Calls.{if_ok_then}
use Rattle.vos_settle.proofs.LogTurns.{noted_turned}
use Rattle.vos_settle.proofs.log.change_noted.Goals as goal

pub returns-then-is_update-clause-changed : goal.returns-then-is_update-clause-changed
returns-then-is_update-clause-changed g c = if_ok_then c.change_entry.result (λ now h told x held at.
    noted_turned (g.P.Pages.blocks c.args.pages.now) (g.P.Pages.blocks c.change_entry.new.pages) x c.args.task now (sym c.is_update.ensures ∙ c.if-is_update.true) (h told x held at)) c.change_entry.ensures.changed
