use Rattle.replay_base.proofs.Starts.{all_so, none_so}
use Rattle.std.proofs.lemmas.Bool.Decides.{not_from_Decides}
use Rattle.world_list.specs.RunLists.{rules_of}
use Rattle.world_check.proofs.Starting.{places_all, places_more, places_not}
use Rattle.world_check.proofs.starts.are_in_place.Goals as goal

pub returns-then-not-is_in_place : goal.returns-then-not-is_in_place
returns-then-not-is_in_place c =
    none_so (places_not (rules_of c.args.events.now) c.args.events.now.start c.as_slice-clients.result.now c.loop-number.number c.commands_of.result.now c.index-clients-number.result c.as_slice-clients.ensures c.commands_of.ensures c.loop-number-test.true c.index-clients-number.is
    (not_from_Decides c.is_in_place.result c.is_in_place.ensures c.if-not-is_in_place.true))

pub loop-number-preserved : goal.loop-number-preserved
loop-number-preserved c =
    places_more (rules_of c.args.events.now) c.args.events.now.start c.as_slice-clients.result.now c.loop-number.number c.commands_of.result.now c.index-clients-number.result c.as_slice-clients.ensures c.commands_of.ensures c.loop-number-test.true c.index-clients-number.is
    (c.is_in_place.ensures.0 c.if-not-is_in_place.false) c.loop-number.invariant

pub returns : goal.returns
returns c = all_so (places_all (rules_of c.args.events.now) c.args.events.now.start c.as_slice-clients.result.now c.loop-number.number c.as_slice-clients.ensures c.loop-number-test.false c.loop-number.invariant)
