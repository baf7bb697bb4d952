use Rattle.std.proofs.Common.{◌∙◌, sym}
use Rattle.vos_versions.proofs.Marks.{mark_short}
use Rattle.vos_single.proofs.single.placed_of.Goals as goal

pub returns-clause-short : goal.returns-clause-short
returns-clause-short c = mark_short c.args.pair.now.value c.in_ok-mark.mark (let h = c.read_version.ensures in let w = c.in_ok-mark.was in sym h ∙ w)
