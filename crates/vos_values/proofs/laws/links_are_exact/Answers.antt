use Rattle.vos_values.proofs.LinkLaws.{link_again, link_back, part_again}
use Rattle.vos_values.proofs.laws.links_are_exact.Goals as goal

pub returns-clause-again : goal.returns-clause-again
returns-clause-again c = link_again

pub returns-clause-part : goal.returns-clause-part
returns-clause-part c = part_again

pub returns-clause-back : goal.returns-clause-back
returns-clause-back c = link_back
