use Rattle.std.proofs.Common.{◌∙◌, sym}
use Rattle.vos_scan.specs.Indexed.{stands_for}
use Rattle.vos_scan.proofs.Known.{any_at}
use Rattle.vos_scan.proofs.index.is_known.Goals as goal

pub returns-then-hint-covered-clause-known : goal.returns-then-hint-covered-clause-known
returns-then-hint-covered-clause-known c = λ h.
    any_at (stands_for c.args.row.now) c.args.rows.now c.args.hint c.args.covered c.index-rows-hint.result c.if-hint-covered.true c.requires c.index-rows-hint.is
    (sym c.stands_for.ensures ∙ h)
