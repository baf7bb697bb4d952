use Rattle.daos_model.specs.Durables.{version_key}
use Rattle.vos_newest.proofs.Greatest.{newest_append, newest_none}
use Rattle.vos_newest.proofs.laws.newest_of_parts.Goals as goal

pub returns-clause-behind : goal.returns-clause-behind
returns-clause-behind c test vs ws = newest_append version_key test vs ws

pub returns-clause-none : goal.returns-clause-none
returns-clause-none c test vs h = newest_none version_key test vs h
