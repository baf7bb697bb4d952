use Rattle.std.proofs.Common.{◌∙◌, ap}
use Rattle.daos_regions.specs.MemRackState.{MemRackState, is_out_of_home}
use Rattle.daos_regions.proofs.Keeping.{taken_back}
use Rattle.daos_regions.proofs.mem_rack.MemRackRack.take_back.Goals as goal

pub returns-clause-back : goal.returns-clause-back
returns-clause-back c out =
    taken_back c.self.inside.regions.items c.put_in.new.regions.items c.args.t c.args.region c.put_in.ensures
    (ap (λ (r : MemRackState). is_out_of_home r.regions c.args.t) c.self.view_is ∙ out)
