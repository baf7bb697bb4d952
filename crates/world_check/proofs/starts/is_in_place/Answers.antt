use Rattle.std.proofs.Common.{rules}
use Rattle.world_check.proofs.Starting.{place_decides}
use Rattle.world_check.proofs.starts.is_in_place.Goals as goal

pub returns : goal.returns
returns c =
    place_decides c.args.commands.now c.from_place.result.now c.args.state.now c.count_numbered-left.result _ c.has_number-numbered.result c.are_few.result c.is_of_number.result c.both.result c.from_place.ensures c.count_numbered-left.ensures c.has_number-numbered.ensures (search rules)
    c.are_few.ensures c.is_of_number.ensures c.both.ensures
