use Rattle.vos_places.specs.vos_entries.Entries.{entries_owner}
use Rattle.vos_places.specs.vos_image.Kept.{stored_owner}
use Rattle.vos_places.specs.vos_path.Objects.{objects_owner}
use Rattle.vos_standing.proofs.Changing.{blocks_are_shown, blocks_change}
use Rattle.vos_standing.proofs.laws.blocks_are_shown.Goals as goal

pub returns-clause-shown : goal.returns-clause-shown
returns-clause-shown c = blocks_are_shown stored_owner

pub returns-clause-objects : goal.returns-clause-objects
returns-clause-objects c = blocks_change objects_owner

pub returns-clause-entries : goal.returns-clause-entries
returns-clause-entries c = blocks_change entries_owner

pub returns-clause-all : goal.returns-clause-all
returns-clause-all c = blocks_change stored_owner
