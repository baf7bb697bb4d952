use Rattle.std.proofs.Common.{◌∙◌, sym}
use Rattle.vos_scan.proofs.Apart.{apart-leads}
use Rattle.vos_scan.proofs.paths.leads_to.Goals as goal

pub returns-then-are_apart : goal.returns-then-are_apart
returns-then-are_apart c = sym (apart-leads c.args.one.now c.args.other.now (sym c.are_apart.ensures ∙ c.if-are_apart.true))
