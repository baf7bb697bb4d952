-- An event of a run is determined by what is chosen in it, and by what its turn tells of what it left open.
use Rattle.std.specs.Prelude.{◌≡◌}
use Rattle.world_base.specs.declared.world.World.{World}
use Rattle.world_base.specs.Events as event
use Rattle.world_base.specs.Events.{ClientGoes, ClientHears, Rules, TargetHears, TargetHearsBy, TargetIdles, after_turn, client_plan, kept, target_after, target_plan, with_client, with_target}
use Rattle.world_base.specs.Stops as stop
use Rattle.world_base.specs.Stops.{AtWork, CutOf, Happening, HearsMore, Hearing, IdleWork, IsInHand, NumbersDrawn, OpeningFails, TargetCut, TargetGivenUp, TargetOpens, WorldEvent, after_cut, after_opening, no_memory, opened_at, restart_line, stopped_at, stops_so_far, with_lost}
use Rattle.world_determined.specs.Choices.{LeadDecided, choice_of, told_open}
use Rattle.world_determined.specs.Worlds.{SameButFree}
use Rattle.world_determined.specs.ClientEvents.{client-hears-one, goes-one}
use Rattle.world_determined.specs.StopEvents.{cuts-one, draws-one, fails-one, given_up-one, opens-one}
use Rattle.world_determined.specs.TargetEvents.{further-one, hears-one, idles-one}

-- ---- the statement

-- From worlds that are the same but for free blocks, two events lead to such worlds, where the same is chosen and the same is told of what was open.
abbrev pub EventsAreOne : Type 0
EventsAreOne =
    (r : Rules) (w v w' v' : World) (e : Happening r w w') (f : Happening r v v') → LeadDecided r w → SameButFree w v → choice_of r e ≡ choice_of r f → told_open r e ≡ told_open r f → SameButFree w' v'

-- ---- the law

pub events-are_one : EventsAreOne
events-are_one r w v w' v' (stop.Plainly (event.ByClient g) up) (stop.Plainly (event.ByClient h) up') led same chosen told = goes-one r w v w' v' same g h (cc)
events-are_one r w v w' v' (stop.Plainly (event.ToClient g) up) (stop.Plainly (event.ToClient h) up') led same chosen told = client-hears-one r w v w' v' same g h (cc) (cc) (cc)
events-are_one r w v w' v' (stop.Plainly (event.ToTarget g) up) (stop.Plainly (event.ToTarget h) up') led same chosen told = hears-one r w v w' v' same led g h (cc) (cc) (cc) (cc) told
events-are_one r w v w' v' (stop.Plainly (event.ByTarget g) up) (stop.Plainly (event.ByTarget h) up') led same chosen told = idles-one r w v w' v' same g h (cc) (cc)
events-are_one r w v w' v' (stop.Further g) (stop.Further h) led same chosen told = further-one r w v w' v' same g h (cc) (cc) (cc) (cc) (cc)
events-are_one r w v w' v' (stop.IsCut g) (stop.IsCut h) led same chosen told = cuts-one r w v w' v' same led g h (cc) (cc)
events-are_one r w v w' v' (stop.Opens g) (stop.Opens h) led same chosen told = opens-one r w v w' v' same g h (cc) (cc)
events-are_one r w v w' v' (stop.Fails g) (stop.Fails h) led same chosen told = fails-one r w v w' v' same g h (cc) (cc)
events-are_one r w v w' v' (stop.GivenUp g) (stop.GivenUp h) led same chosen told = given_up-one r w v w' v' same g h (cc)
events-are_one r w v w' v' (stop.Draws g) (stop.Draws h) led same chosen told = draws-one r w v w' v' same g h (cc)
events-are_one r w v w' v' e (stop.Plainly (event.ByClient h) up) led same chosen told = let no : ⊥ = cc (chosen) in absurd no
events-are_one r w v w' v' e (stop.Plainly (event.ToClient h) up) led same chosen told = let no : ⊥ = cc (chosen) in absurd no
events-are_one r w v w' v' e (stop.Plainly (event.ToTarget h) up) led same chosen told = let no : ⊥ = cc (chosen) in absurd no
events-are_one r w v w' v' e (stop.Plainly (event.ByTarget h) up) led same chosen told = let no : ⊥ = cc (chosen) in absurd no
events-are_one r w v w' v' e f led same chosen told = let no : ⊥ = cc (chosen) in absurd no
