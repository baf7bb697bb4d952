use Rattle.daos_script.proofs.TextLaws.{texts_are_short}
use Rattle.daos_script.proofs.laws.texts_are_short.Goals as goal

pub returns : goal.returns
returns c = texts_are_short
