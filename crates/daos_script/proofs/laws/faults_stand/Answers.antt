use Rattle.daos_script.proofs.TextLaws.{faults_stand}
use Rattle.daos_script.proofs.laws.faults_stand.Goals as goal

pub returns : goal.returns
returns c = faults_stand
