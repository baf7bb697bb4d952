use Rattle.target_dtx.specs.world_ended.Asking.{LeavesWith}
use Rattle.target_dtx.specs.world_ended.PostLaws.{openings-end}
use Rattle.std.proofs.Common.{◌≡◌, ◌<◌, ◌^◌, ◌-◌, ◌∙◌, ap, filter, min, subst, sym, Some, []}
use Rattle.base_types.specs.Epochs.{restart_floor}
use Rattle.daos_model.specs.declared.durable.Durable.{Durable}
use Rattle.dtx_base.specs.Leading.{first_memory, is_led, is_open}
use Rattle.world_base.specs.Statuses.{opening_memory}
use Rattle.target_parts.specs.world_contents.posts.AfterStops.{openings-post-in-form}
use Rattle.target_parts.specs.world_contents.posts.Forms.{Follows}
use Rattle.target_parts.specs.Running.{told-before}
use Rattle.target_resync.proofs.Opened.{did-first, heard-raised, leads-first, memory-first, opening-is, own-first, target-first}
use Rattle.target_dtx.specs.world_letters.kinds.PostLaws.{CarryNone, statuses-carry}
use Rattle.target_resync.proofs.restarts.restart.Goals as goal

pub returns-clause-opened : goal.returns-clause-opened
returns-clause-opened g c x at =
    let opened = c.in_ok-entries.ensures in
    let here = told-before (g.S.Store.durable c.reopen.new.store) (g.S.Store.durable c.args.store.now) (sym opened.opens.told) x at in
    let found = opened.found here.0 here.1 in
    let raised = found.0.raised in
    let known = c.in_ok-knows.ensures in
    let inc = c.incarnation-incarnation.ensures opened.opens.runs here.0 here.1 in
    let lease = c.lease-lease.ensures.lease opened.opens.runs here.0 here.1 in
    record {
      found = found.0.found;
      may_be = found.0.may_be;
      kept_is = here.1 ∙ ap (λ z. Some z) raised;
      opening = opening-is _ c.args.number here.0 found.0.found raised (opened.floor here.0 here.1) opened.why;
      memory = memory-first c.args.plan c.in_ok-knows.knows c.lease-lease.result c.in_ok-entries.entries known.entries known.clock known.leader known.member here.0 found.1 lease known.stamps ∙ ap (opening_memory c.args.plan) raised;
      did = did-first c.args.plan c.args.number found.0.found c.incarnation-incarnation.result c.lease-lease.result c.as_slice.result.now c.in_ok-did.did
          (inc ∙ ap (λ (z : Durable). z.incarnation) raised) (lease ∙ ap (λ (z : Durable). z.lease) raised) (c.as_slice.ensures ∙ found.1 ∙ ap (λ (z : Durable). z.entries) raised)
          (subst (λ (z : Durable). z.lease < 2 ^ 56) raised (g.met.S.Store.formed _ opened.opens.runs here.0 here.1).lease)
          c.in_ok-did.ensures.posts c.in_ok-did.ensures.lines c.in_ok-did.ensures.issued;
    }

pub returns-clause-target : goal.returns-clause-target
returns-clause-target g c =
    let opened = c.in_ok-entries.ensures in
    let known = c.in_ok-knows.ensures in
    target-first c.args.plan (g.S.Store.state c.args.store.now) (g.S.Store.state c.reopen.new.store) (g.S.Store.durable c.reopen.new.store) c.in_ok-knows.knows c.requires.placed c.requires.few opened.opens.targets
    (own-first c.args.plan c.in_ok-knows.knows c.lease-lease.result c.in_ok-entries.entries known.entries known.clock known.leader known.member)
    (λ d at.
    let before = told-before (g.S.Store.durable c.args.store.now) (g.S.Store.durable c.reopen.new.store) opened.opens.told d at in
    let found = opened.found d at in
    leads-first c.args.plan c.in_ok-knows.knows c.lease-lease.result c.in_ok-entries.entries known.entries known.clock known.leader known.member d found.1 (c.lease-lease.ensures.lease opened.opens.runs d at)
    (g.met.S.Store.formed _ opened.opens.runs d at).entries (heard-raised d found.0.found found.0.raised (c.requires.covered before.0 before.1 found.0.found found.0.may_be)))

pub returns-clause-posts : goal.returns-clause-posts
returns-clause-posts g c =
    let led = filter (is_led c.args.plan.me) c.in_ok-entries.entries in
    let asked = filter is_open (filter (is_led c.args.plan.me) c.as_slice.result.now) in
    subst (λ m. Follows c.args.plan.targets m c.in_ok-did.did.posts) (sym c.in_ok-knows.ensures.leader)
    (subst (Follows c.args.plan.targets (first_memory led)) (sym c.in_ok-did.ensures.posts) (openings-post-in-form c.args.plan.targets c.incarnation-incarnation.result led asked))

pub returns-clause-line : goal.returns-clause-line
returns-clause-line g c = (c.incarnation-incarnation.result, record { 0 = min (2 ^ 64 - 1) (restart_floor c.lease-lease.result) }, c.in_ok-did.ensures.lines, c.in_ok-did.ensures.issued)

pub returns-clause-reads : goal.returns-clause-reads
returns-clause-reads g c =
    subst CarryNone (sym c.in_ok-did.ensures.posts) (statuses-carry c.incarnation-incarnation.result (filter is_open (filter (is_led c.args.plan.me) c.as_slice.result.now)))

pub returns-clause-fresh : goal.returns-clause-fresh
returns-clause-fresh g c = ap (λ m. m.memory.parked) c.in_ok-knows.ensures.member

pub returns-clause-ends : goal.returns-clause-ends
returns-clause-ends g c wanted =
    let led = filter (is_led c.args.plan.me) c.in_ok-entries.entries in
    let asked = filter is_open (filter (is_led c.args.plan.me) c.as_slice.result.now) in
    subst (λ m. LeavesWith wanted m c.in_ok-did.did.posts) (sym c.in_ok-knows.ensures.leader)
    (subst (LeavesWith wanted (first_memory led)) (sym c.in_ok-did.ensures.posts) (openings-end wanted c.incarnation-incarnation.result led asked))
