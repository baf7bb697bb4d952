use Rattle.base_text.specs.RowLaws.{rows_are_texts}
use Rattle.base_text.proofs.rows.rows_are_texts.Goals as goal

pub returns : goal.returns
returns c = rows_are_texts
