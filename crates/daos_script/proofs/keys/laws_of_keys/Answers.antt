use Rattle.daos_script.specs.States.{scripts-read-have-keys}
use Rattle.daos_script.proofs.keys.laws_of_keys.Goals as goal

pub returns : goal.returns
returns c = record { read = scripts-read-have-keys }
