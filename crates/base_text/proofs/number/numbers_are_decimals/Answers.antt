use Rattle.base_text.specs.NumberLaws.{numbers_are_decimals}
use Rattle.base_text.proofs.number.numbers_are_decimals.Goals as goal

pub returns : goal.returns
returns c = numbers_are_decimals
