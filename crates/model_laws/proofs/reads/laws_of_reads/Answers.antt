use Rattle.model_laws.specs.ReadLaws.{answer-same, answer-same_map}
use Rattle.model_laws.proofs.reads.laws_of_reads.Goals as goal

pub returns : goal.returns
returns c = record { path = answer-same; same = answer-same_map }
