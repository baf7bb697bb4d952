use Rattle.daos_words.proofs.Law.{words_law}
use Rattle.daos_words.proofs.words.words_are_jobs.Goals as goal

pub returns : goal.returns
returns c = words_law
