use Rattle.std.proofs.Common.{refl, sym, ◌∙◌}
use Rattle.replay_fetch.specs.Met.{AsOthers}
use Rattle.replay_fetch.proofs.meets.meet_attempt.Goals as goal

pub returns-in-Some : goal.returns-in-Some
returns-in-Some c = AsOthers c.in-Some.leader (sym c.other_leader.ensures ∙ c.in-Some.is) refl
