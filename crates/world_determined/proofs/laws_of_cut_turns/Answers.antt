use Rattle.world_determined.specs.CutTurns.{cut-hearing_is_one, cut-idling_is_one}
use Rattle.world_determined.proofs.laws_of_cut_turns.Goals as goal

pub returns : goal.returns
returns c = record { hearing = cut-hearing_is_one; idling = cut-idling_is_one }
