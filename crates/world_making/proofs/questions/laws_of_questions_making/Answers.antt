use Rattle.world_making.specs.questions.Events.{all-events-keep-questions, all-happenings-keep-questions, making-cuts-keep-questions, making-keeps-questions}
use Rattle.world_making.proofs.questions.laws_of_questions_making.Goals as goal

pub returns : goal.returns
returns c = record { heard = making-keeps-questions; cut = making-cuts-keep-questions; happens = all-happenings-keep-questions; events = all-events-keep-questions }
