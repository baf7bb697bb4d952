use Rattle.model_lone.specs.OnlyLaws.{only-clients-tell_so}
use Rattle.model_lone.proofs.only.laws_of_only_clients.Goals as goal

pub returns : goal.returns
returns c = only-clients-tell_so
