use Rattle.std.proofs.Common.{◌∙◌, arith, refl}
use Rattle.daos_run.proofs.Slots.{all-are-set, all-are-so, none-set, one-set}
use Rattle.daos_run.specs.Starts.{IsNewStore}
use Rattle.daos_run.proofs.run.set_all.Goals as goal

pub loop-t-init : goal.loop-t-init
loop-t-init g c = (none-set (λ t store clock. IsNewStore c.args.job.now.size_mib store × g.B.Rack.gives c.args.rack.now t clock) c.args.job.now.targets c.args.parts.now c.requires.unset, (λ t clock high given. given), refl)

pub loop-t-preserved : goal.loop-t-preserved
loop-t-preserved g c = (
  one-set (λ t store clock. IsNewStore c.args.job.now.size_mib store × g.B.Rack.gives c.args.rack.now t clock) c.args.job.now.targets c.loop-t.t c.loop-t.parts c.set.new.self c.in_ok-store.store c.clock.result c.loop-t.invariant.0 c.loop-t-test.true c.set.ensures
      (record { kept = c.in_ok-store.ensures.durable; state = c.in_ok-store.ensures.state }, c.loop-t.invariant.1 c.loop-t.t c.clock.result (omega arith) c.clock.ensures.clock),
  (λ t clock high given. c.loop-t.invariant.1 t clock (omega (arith, high)) (c.clock.ensures.other_clocks t clock (λ same. omega (arith, high, same)) given)),
  c.clock.ensures.count ∙ c.loop-t.invariant.2,
)

pub returns-clause-set : goal.returns-clause-set
returns-clause-set g c =
    let low = c.loop-t.auto.t-end in
    let over = c.loop-t-test.false in
    let all = c.loop-t.invariant.0 in
    record {
      set = all-are-set (λ t store clock. IsNewStore c.args.job.now.size_mib store × g.B.Rack.gives c.args.rack.now t clock) c.args.job.now.targets c.loop-t.t c.loop-t.parts all (omega (arith, low, over));
      each = λ t x at. (all-are-so (λ t store clock. IsNewStore c.args.job.now.size_mib store × g.B.Rack.gives c.args.rack.now t clock) c.args.job.now.targets c.loop-t.t c.loop-t.parts all (omega (arith, low, over)) t x at).0;
    }

pub returns-clause-clocks : goal.returns-clause-clocks
returns-clause-clocks g c =
    let low = c.loop-t.auto.t-end in
    let over = c.loop-t-test.false in
    λ t x at. (all-are-so (λ t store clock. IsNewStore c.args.job.now.size_mib store × g.B.Rack.gives c.args.rack.now t clock) c.args.job.now.targets c.loop-t.t c.loop-t.parts c.loop-t.invariant.0 (omega (arith, low, over)) t x at).1
