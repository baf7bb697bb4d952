use Rattle.world_letters.specs.clients.AnswerLaws.{heard-answered, moved-answered}
use Rattle.world_letters.specs.clients.MoveLaws.{clients-begin, clients-end, hear-turn-keeps, next-turn-keeps}
use Rattle.world_letters.proofs.clients.laws_of_clients.Goals as goal

pub returns : goal.returns
returns c = record { begin = clients-begin; turns = next-turn-keeps; hearing = hear-turn-keeps; moves = moved-answered; answers = heard-answered; done = clients-end }
