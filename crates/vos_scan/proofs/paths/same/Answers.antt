use Rattle.std.proofs.Common.{◌∙◌, sym}
use Rattle.vos_scan.proofs.Apart.{apart-same}
use Rattle.vos_scan.proofs.paths.same.Goals as goal

pub returns-then-are_apart : goal.returns-then-are_apart
returns-then-are_apart c = sym (apart-same c.args.one.now c.args.other.now (sym c.are_apart.ensures ∙ c.if-are_apart.true))
