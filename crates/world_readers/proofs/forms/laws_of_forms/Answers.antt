use Rattle.world_readers.specs.forms.Events.{all-events-keep_form, attempts-prepare_own}
use Rattle.world_readers.proofs.forms.laws_of_forms.Goals as goal

pub returns : goal.returns
returns c = record { kept = all-events-keep_form; prepares = attempts-prepare_own }
