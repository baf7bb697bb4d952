use Rattle.script_words.proofs.Spellings.{values_have_one_spelling}
use Rattle.script_words.proofs.laws.values_have_one_spelling.Goals as goal

pub returns : goal.returns
returns c = values_have_one_spelling
