use Rattle.vos_check_content.proofs.Stands.{found_stands}
use Rattle.vos_check_content.proofs.laws.what_is_found_stands.Goals as goal

pub returns : goal.returns
returns c = found_stands
