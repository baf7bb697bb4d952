use Rattle.vos_small.proofs.Smallness.{contents_are_of_regions, entries_in_regions_are_small, maps_are_of_regions, objects_in_regions_are_small, stored_in_regions_are_small, unlisted_take_none}
use Rattle.vos_small.proofs.laws.trees_are_small.Goals as goal

pub returns-clause-contents : goal.returns-clause-contents
returns-clause-contents c = contents_are_of_regions

pub returns-clause-maps : goal.returns-clause-maps
returns-clause-maps c = maps_are_of_regions

pub returns-clause-objects : goal.returns-clause-objects
returns-clause-objects c = objects_in_regions_are_small

pub returns-clause-entries : goal.returns-clause-entries
returns-clause-entries c = entries_in_regions_are_small

pub returns-clause-all : goal.returns-clause-all
returns-clause-all c = stored_in_regions_are_small

pub returns-clause-unlisted : goal.returns-clause-unlisted
returns-clause-unlisted c = unlisted_take_none
