-- How what lies between actors changes: by a turn, a cut, a target given up, and a loss.
use Rattle.std.specs.Prelude.{ℕ, ◌++◌, ◌∷◌, true, false, List, [], filter, map, Option}
use Rattle.base_messages.specs.declared.actor.ActorId.{ActorId}
use Rattle.base_types.specs.declared.epoch.Epoch.{Epoch}
use Rattle.base_types.specs.declared.id.AttemptId.{AttemptId}
use Rattle.base_types.specs.declared.report.Line.{Line}
use Rattle.base_types.specs.declared.report.Line.TheVariants as line
use Rattle.run_base.specs.Letters.{BetweenNow}
use Rattle.run_base.specs.Sweeps.{is_left_by, is_lost_by}
use Rattle.world_base.specs.declared.did.Did.{Did}
use Rattle.world_base.specs.declared.target.Life.{Life}
use Rattle.world_base.specs.CutTurns.{listed_issue}
use Rattle.world_base.specs.Events.{listed, with_epoch}
use Rattle.world_base.specs.Letters.{asked_after, letters_of}
use Rattle.world_base.specs.Stops.{is_not_to, reset_letter, resets, stops_so_far}

-- what follows from an actor's turn came about
abbrev pub followed : ActorId → Did → BetweenNow → BetweenNow
followed from did b = record {
  messages = b.messages ++ letters_of from did.posts;
  asked = asked_after b.asked (letters_of from did.posts);
  issued = b.issued ++ listed did.issued;
  lines = b.lines ++ map (with_epoch b.issued) did.lines;
}

-- what goes to targets that are given up was lost
abbrev pub swept_between : List Life → BetweenNow → BetweenNow
swept_between lives b = record b {
  messages = filter (is_left_by lives) (b.messages ++ map (reset_letter true) (filter (is_lost_by lives) b.asked));
  asked = filter (is_left_by lives) b.asked;
}

-- a target's turn was cut, in which it issued this epoch and told these lines
abbrev pub cut_between : ℕ → Option (AttemptId × Epoch) → List Line → BetweenNow → BetweenNow
cut_between t issued lines b = record {
  messages = filter (is_not_to t) b.messages ++ resets t false b.asked;
  asked = filter (is_not_to t) b.asked;
  issued = b.issued ++ listed_issue issued;
  lines = b.lines ++ lines ++ line.Stop (stops_so_far b.lines) t ∷ [];
}

-- a target was given up
abbrev pub given_up_between : ℕ → BetweenNow → BetweenNow
given_up_between t b = record b {
  messages = filter (is_not_to t) b.messages ++ resets t true b.asked;
  asked = filter (is_not_to t) b.asked;
  lines = b.lines ++ line.Down t ∷ [];
}
