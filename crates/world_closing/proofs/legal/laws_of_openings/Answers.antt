use Rattle.world_closing.proofs.legal.laws_of_openings.Goals as goal
use Rattle.world_closing.specs.legal.Openings.{openings-are_held, openings-have_dkeys}

pub returns : goal.returns
returns c = record { dkeys = openings-have_dkeys; held = openings-are_held }
