use Rattle.world_closing.specs.forming.Epochs.{all-lines-are-short}
use Rattle.world_closing.specs.forming.Runs.{all-runs-report_in_form}
use Rattle.world_closing.proofs.forming.laws_of_texts.Goals as goal

pub returns : goal.returns
returns c = record { runs = all-runs-report_in_form; epochs = all-lines-are-short }
