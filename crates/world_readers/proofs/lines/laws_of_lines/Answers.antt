use Rattle.world_readers.specs.lines.Endings.{lines-end_well}
use Rattle.world_readers.specs.lines.InTurnLaws.{lines-begin_in_turn}
use Rattle.world_readers.proofs.lines.laws_of_lines.Goals as goal

pub returns : goal.returns
returns c = record { in_turn = lines-begin_in_turn; ends = lines-end_well }
