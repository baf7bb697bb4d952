use Rattle.daos_script.proofs.TextLaws.{comments_say_nothing}
use Rattle.daos_script.proofs.laws.comments_say_nothing.Goals as goal

pub returns : goal.returns
returns c = comments_say_nothing
