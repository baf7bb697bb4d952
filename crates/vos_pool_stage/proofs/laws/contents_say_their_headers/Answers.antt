use Rattle.vos_pool_stage.proofs.Saying.{contents_say}
use Rattle.vos_pool_stage.proofs.laws.contents_say_their_headers.Goals as goal

pub returns : goal.returns
returns c = contents_say
