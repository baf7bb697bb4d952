use Rattle.std.proofs.Common.{◌∙◌, Bool, false, subst, sym}
use Rattle.vos_extent.specs.vos_levels.Calls.{Becomes}
use Rattle.vos_extent.specs.vos_levels.Levels.{hung_root, things}
use Rattle.vos_extent.proofs.vos_levels.Calls.{if_ok_then}
use Rattle.vos_ilog.specs.Logs.{log_owner}
use Rattle.vos_path.specs.Writes.{IsNotedIf, fresh_entry}
use Rattle.vos_path.proofs.log.note_update.Goals as goal

pub returns-then-is_update-clause-noted : goal.returns-then-is_update-clause-noted
returns-then-is_update-clause-noted g c = if_ok_then c.note.result (λ now h told x held at new.
    subst (λ (t : Bool). Becomes log_owner hung_root things (g.P.Pages.blocks c.args.pages.now) x (g.P.Pages.blocks c.note.new.pages) now (IsNotedIf t (fresh_entry c.args.stamp false))) (sym (sym c.is_update.ensures ∙ c.if-is_update.true)) (h told x held at new)) c.note.ensures.noted
