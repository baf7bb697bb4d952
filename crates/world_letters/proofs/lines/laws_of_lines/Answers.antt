use Rattle.world_letters.specs.lines.LastLines.{lines-answered, lines-in-turn}
use Rattle.world_letters.proofs.lines.laws_of_lines.Goals as goal

pub returns : goal.returns
returns c = record { answered = lines-answered; in_turn = lines-in-turn }
