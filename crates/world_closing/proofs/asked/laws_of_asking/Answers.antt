use Rattle.world_closing.proofs.asked.laws_of_asking.Goals as goal
use Rattle.world_closing.specs.asked.CollectionEvents.{all-events-ask_others}
use Rattle.world_closing.specs.asked.Runs.{runs-ask_for_collections, runs-ask_for_waiters, runs-have_all, runs-send_none}
use Rattle.world_closing.specs.asked.Waiters.{all-events-ask}

pub returns : goal.returns
returns c = record { events = all-events-ask; others = all-events-ask_others; all = runs-have_all; gone = runs-send_none; waiters = runs-ask_for_waiters; collections = runs-ask_for_collections }
