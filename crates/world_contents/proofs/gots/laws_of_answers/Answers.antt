use Rattle.world_contents.specs.gots.RightLaws.{joins-right}
use Rattle.world_contents.specs.gots.ToldLaws.{lines-right, nothing-told, nothing-told_of_none, reports-right, told-right}
use Rattle.world_contents.proofs.gots.laws_of_answers.Goals as goal

pub returns : goal.returns
returns c = record { joins = joins-right; told = told-right; nothing = nothing-told; unkept = nothing-told_of_none; lines = lines-right; reports = reports-right }
