use Rattle.daos_gen.proofs.Keys.{script-keys}
use Rattle.daos_gen.proofs.Runs.{no-stop-asked, script-is-plain}
use Rattle.daos_gen.proofs.loads.laws_of_loads.Goals as goal

pub returns : goal.returns
returns c = record { keys = script-keys; plain = script-is-plain; unstopped = no-stop-asked }
