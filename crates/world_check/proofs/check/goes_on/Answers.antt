use Rattle.std.proofs.Common.{subst, sym}
use Rattle.replay_base.proofs.Starts.{none_so}
use Rattle.world_list.specs.Fitting.{AreInPlace}
use Rattle.world_list.specs.RunLists.{rules_of}
use Rattle.world_check.proofs.Lists.{event_not, event_on, places_on}
use Rattle.world_check.proofs.check.goes_on.Goals as goal

pub loop-i-init : goal.loop-i-init
loop-i-init c = record { places = c.requires.places; rest = (λ x. x, λ x. x) }

pub leads_to-requires-clause-places : goal.leads_to-requires-clause-places
leads_to-requires-clause-places c = subst (AreInPlace (rules_of c.args.events.now)) (sym c.world_before.ensures) c.loop-i.invariant.places

pub returns-then-not-leads : goal.returns-then-not-leads
returns-then-not-leads c =
    none_so (event_not (rules_of c.args.events.now) c.args.events.now.start c.args.events.now.list c.as_slice-list.result.now c.loop-i.i c.index-list-i.result c.world_before.result.now c.as_slice-list.ensures c.loop-i-test.true c.index-list-i.is c.world_before.ensures
    c.in_ok-leads.leads c.in_ok-leads.ensures.turn c.if-not-leads.true c.loop-i.invariant.rest)

pub loop-i-preserved : goal.loop-i-preserved
loop-i-preserved c = record {
  places = places_on (rules_of c.args.events.now) c.args.events.now.start c.args.events.now.list c.as_slice-list.result.now c.loop-i.i c.index-list-i.result c.world_before.result.now c.as_slice-list.ensures c.loop-i-test.true c.index-list-i.is c.world_before.ensures
      (AreInPlace (rules_of c.args.events.now)) (c.in_ok-leads.ensures.places c.if-not-leads.false);
  rest = event_on (rules_of c.args.events.now) c.args.events.now.start c.args.events.now.list c.as_slice-list.result.now c.loop-i.i c.index-list-i.result c.world_before.result.now c.as_slice-list.ensures c.loop-i-test.true c.index-list-i.is c.world_before.ensures
      (c.in_ok-leads.ensures.turn.0 c.if-not-leads.false) c.loop-i.invariant.rest;
}
