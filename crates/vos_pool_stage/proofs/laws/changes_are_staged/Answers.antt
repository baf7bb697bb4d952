use Rattle.vos_pool_stage.proofs.Staging.{entries_are_staged, objects_are_staged, staged_are_shown, staged_stands, staging_begins}
use Rattle.vos_pool_stage.proofs.laws.changes_are_staged.Goals as goal

pub returns-clause-begins : goal.returns-clause-begins
returns-clause-begins c = staging_begins

pub returns-clause-shown : goal.returns-clause-shown
returns-clause-shown c = staged_are_shown

pub returns-clause-objects : goal.returns-clause-objects
returns-clause-objects c = objects_are_staged

pub returns-clause-entries : goal.returns-clause-entries
returns-clause-entries c = entries_are_staged

pub returns-clause-stands : goal.returns-clause-stands
returns-clause-stands c = staged_stands
