use Rattle.world_contents.specs.posts.AfterStops.{openings-post-in-form, reset-members-post-in-form, resets-post-in-form}
use Rattle.world_contents.proofs.posts.laws_of_stops.Goals as goal

pub returns : goal.returns
returns c = record { resets = resets-post-in-form; members = reset-members-post-in-form; openings = openings-post-in-form }
