use Rattle.replay_base.proofs.Starts.{if_ok}
use Rattle.world_list.specs.RunLists.{rules_of}
use Rattle.world_check.proofs.Sorting.{target_places, to_client, to_target}
use Rattle.world_check.proofs.check.hears.Goals as goal

pub returns-then-actor-clause-turn : goal.returns-then-actor-clause-turn
returns-then-actor-clause-turn c =
    if_ok _ _ c.client_hears.result (λ test same. to_client (rules_of c.args.events.now) c.args.before.now c.args.after.now c.args.actor c.args.letter.now test c.if-actor.true same) c.client_hears.ensures.turn

pub returns-else-actor-clause-turn : goal.returns-else-actor-clause-turn
returns-else-actor-clause-turn c =
    if_ok _ _ c.target_hears.result (λ test same. to_target (rules_of c.args.events.now) c.args.before.now c.args.after.now c.args.actor c.args.letter.now test c.if-actor.false same) c.target_hears.ensures

pub returns-else-actor-clause-places : goal.returns-else-actor-clause-places
returns-else-actor-clause-places c =
    if_ok _ _ c.target_hears.result (λ test same h. target_places (rules_of c.args.events.now) c.args.before.now c.args.after.now c.args.actor c.args.letter.now c.requires.places (same.0 h)) c.target_hears.ensures
