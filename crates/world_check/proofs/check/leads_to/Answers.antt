use Rattle.replay_base.proofs.Starts.{if_ok}
use Rattle.world_list.specs.RunLists.{rules_of}
use Rattle.world_check.proofs.Sorting.{idle_places, led_goes, led_hear, led_idles}
use Rattle.world_check.proofs.check.leads_to.Goals as goal

pub returns-in-Hear-Some-clause-turn : goal.returns-in-Hear-Some-clause-turn
returns-in-Hear-Some-clause-turn c =
    if_ok _ _ c.hears.result (λ test same. led_hear (rules_of c.args.events.now) c.args.before.now c.args.event.now c.in-Hear-Some.letter test c.in-Hear-Some.is-0 c.in-Hear-Some.is-1 same) c.hears.ensures.turn

pub returns-in-GoOn-None-clause-turn : goal.returns-in-GoOn-None-clause-turn
returns-in-GoOn-None-clause-turn c =
    if_ok _ _ c.client_goes.result (λ test same. led_goes (rules_of c.args.events.now) c.args.before.now c.args.event.now test c.in-GoOn-None.is-0 c.in-GoOn-None.is-1 same) c.client_goes.ensures.turn

pub returns-in-Idle-None-clause-turn : goal.returns-in-Idle-None-clause-turn
returns-in-Idle-None-clause-turn c =
    if_ok _ _ c.target_idles.result (λ test same. led_idles (rules_of c.args.events.now) c.args.before.now c.args.event.now test c.in-Idle-None.is-0 c.in-Idle-None.is-1 same) c.target_idles.ensures

pub returns-in-Idle-None-clause-places : goal.returns-in-Idle-None-clause-places
returns-in-Idle-None-clause-places c =
    if_ok _ _ c.target_idles.result (λ test same h. idle_places (rules_of c.args.events.now) c.args.before.now c.args.event.now.after c.args.event.now.actor c.requires.places (same.0 h)) c.target_idles.ensures
