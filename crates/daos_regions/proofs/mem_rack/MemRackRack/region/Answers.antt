use Rattle.std.proofs.Common.{sym, subst}
use Rattle.daos_regions.specs.MemRackState.{MemRackState, HoldsBack, KeepsOthers}
use Rattle.daos_regions.proofs.Keeping.{others_set, others_twice, held_back, when_not_ok}
use Rattle.daos_regions.proofs.mem_rack.MemRackRack.region.Goals as goal

pub returns-then-is_ok-clause-others : goal.returns-then-is_ok-clause-others
returns-then-is_ok-clause-others c =
    subst (λ (r : MemRackState). KeepsOthers r.regions c.take_out.new.regions.items c.args.t) c.self.view_is
    (others_set c.self.inside.regions.items c.take_out.new.regions.items c.args.t _ c.in-Some.ensures.taken)

pub returns-else-is_ok-clause-held_back : goal.returns-else-is_ok-clause-held_back
returns-else-is_ok-clause-held_back c =
    subst (λ (r : MemRackState). HoldsBack r.regions c.put_in.new.regions.items c.args.t) c.self.view_is
    (held_back c.self.inside.regions.items c.take_out.new.regions.items c.put_in.new.regions.items c.args.t c.in-Some.region c.reopen.new.self (sym c.in-Some.ensures.found) c.in-Some.ensures.taken c.put_in.ensures
    (when_not_ok c.reopen.result c.is_ok.result c.is_ok.ensures.value c.if-is_ok.false c.reopen.ensures.kept) c.reopen.ensures.keep c.reopen.ensures.counts.later)

pub returns-else-is_ok-clause-others : goal.returns-else-is_ok-clause-others
returns-else-is_ok-clause-others c =
    subst (λ (r : MemRackState). KeepsOthers r.regions c.put_in.new.regions.items c.args.t) c.self.view_is
    (others_twice c.self.inside.regions.items c.take_out.new.regions.items c.put_in.new.regions.items c.args.t _ _ c.in-Some.ensures.taken c.put_in.ensures)
