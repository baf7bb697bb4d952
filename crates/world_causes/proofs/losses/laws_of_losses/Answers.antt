use Rattle.world_causes.specs.losses.Beginning.{losses-begin}
use Rattle.world_causes.specs.losses.ClientTurns as clients
use Rattle.world_causes.specs.losses.Laws.{answers-keep, cuts-keep, drawing-keeps, failures-keep, further-keeps, giving-up-keeps, hearing-keeps, idle-work-keeps, openings-keep, resets-keep, sweeping-keeps}
use Rattle.world_causes.proofs.losses.laws_of_losses.Goals as goal

pub returns : goal.returns
returns c = record {
  begin = losses-begin;
  cuts = cuts-keep;
  opens = openings-keep;
  fails = failures-keep;
  given_up = giving-up-keeps;
  swept = sweeping-keeps;
  answers = answers-keep;
  resets = resets-keep;
  drawn = drawing-keeps;
  hear = hearing-keeps;
  idle = idle-work-keeps;
  further = further-keeps;
  clients = clients.going-keeps;
  told = clients.hearing-keeps;
}
