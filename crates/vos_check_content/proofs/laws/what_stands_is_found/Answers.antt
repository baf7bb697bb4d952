use Rattle.vos_check_content.proofs.Stands.{stands_found}
use Rattle.vos_check_content.proofs.laws.what_stands_is_found.Goals as goal

pub returns : goal.returns
returns c = stands_found
