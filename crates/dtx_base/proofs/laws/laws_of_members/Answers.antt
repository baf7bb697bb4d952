use Rattle.dtx_base.specs.MemberLaws.{resolved-frees_once, unresolved-answers_once}
use Rattle.dtx_base.proofs.laws.laws_of_members.Goals as goal

pub returns : goal.returns
returns c = record { freed = resolved-frees_once; answered = unresolved-answers_once }
