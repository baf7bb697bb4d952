use Rattle.std.proofs.Common.{◌≡◌, ◌∙◌, Some, Ok, Err, Contains, ap, rules, refl, sym, subst, ◌<◌, length, true}
use Rattle.base_types.specs.declared.entry.Settle.TheVariants.{Commit}
use Rattle.base_types.specs.Operations.{read_path}
use Rattle.model_laws.specs.Members.{has-from_contains}
use Rattle.daos_model.specs.declared.durable.Durable.{Durable}
use Rattle.daos_model.specs.Changes.{settled}
use Rattle.daos_model.specs.Durables.{is_enlisted}
use Rattle.vos_store.specs.Refusals.{always_stop}
use Rattle.vos_store.specs.declared.refusal.Stopped.{Stopped}
use Rattle.world_base.specs.Reads.{FetchNext, Reading}
use Rattle.world_base.specs.Turns.{Reached}
use Rattle.target_parts.specs.declared.halt.Halt.TheVariants as halt
use Rattle.target_parts.specs.EpochLaws.{has-epochs}
use Rattle.target_parts.specs.Halts.{halt_stop}
use Rattle.target_parts.specs.KeepingLaws.{enlisted-settled}
use Rattle.target_parts.specs.Knowing.{LeadsWell, memory_of}
use Rattle.target_parts.specs.Parts.{Now, StillRuns, kept, left_by}
use Rattle.target_parts.specs.Running.{for_some_on, runs_as, runs_first, runs_on, still_runs}
use Rattle.target_parts.specs.Turning.{part_asked, part_cut}
use Rattle.target_parts.specs.dtx_table.Tables.{entry_in}
use Rattle.target_parts.specs.KnowsLaws.{decided-on}
use Rattle.world_base.specs.Roles.{other_leader_of}
use Rattle.target_reads.specs.Meets.{Meets, beside_of}
use Rattle.target_reads.proofs.Serving.{other-known, serves_answer, serves_beside, serves_cut, serves_on, serves_refusal}
use Rattle.target_reads.proofs.Carrying.{beside-kind}
use Rattle.target_reads.proofs.reads.serve.Goals as goal
use Rattle.world_base.specs.LoopLaws.{one-fewer}
use Rattle.world_base.specs.PathLaws.{reached-here}

pub loop-answer-init : goal.loop-answer-init
loop-answer-init g c = record {
  runs = runs_first _ _ c.requires.running;
  enlisted = c.requires.enlisted;
  leads = c.requires.leads;
  beside = record { hlc = refl; stamps = refl; member = refl };
  leader = refl;
  reached = λ d at m reading. record { durable = d; kept_is = at; holds = reached-here _ _ _ };
}

pub returns-in_err-answer-clause-served : goal.returns-in_err-answer-clause-served
returns-in_err-answer-clause-served g c d at m reading =
    let now = c.loop-answer.invariant.reached d at m reading in
    let is : c.from_residual.result ≡ Err c.in_err-answer.field-0.0 = search rules in
    part_asked (FetchNext c.args.plan m reading c.args.request.now) _ (Reading c.args.epoch c.loop-answer.knows.leader.decided) _ _ (Meets c.args.plan c.args.request.now c.args.epoch now.durable) now.durable _ _ _ _ _ _ is now.holds (c.in_err-answer.ensures.met now.durable now.kept_is)

pub returns-in-Answer-clause-served : goal.returns-in-Answer-clause-served
returns-in-Answer-clause-served g c d at m reading =
    let now = c.loop-answer.invariant.reached d at m reading in
    serves_answer c.args.plan m reading c.args.request.now c.args.epoch _ _ c.loop-answer.knows.leader.decided c.in-Answer.answer _ now.durable _ _ _ now.holds (c.in_ok-answer.ensures.met now.durable now.kept_is) c.in-Answer.is

pub returns-in-Refused-clause-served : goal.returns-in-Refused-clause-served
returns-in-Refused-clause-served g c d at m reading =
    let now = c.loop-answer.invariant.reached d at m reading in
    serves_refusal c.args.plan m reading c.args.request.now c.args.epoch _ _ c.loop-answer.knows.leader.decided c.in-Refused.cause _ now.durable _ _ _ now.holds (c.in_ok-answer.ensures.met now.durable now.kept_is) c.in-Refused.is

pub returns-then-not-is_one-clause-served : goal.returns-then-not-is_one-clause-served
returns-then-not-is_one-clause-served g c d at m reading =
    let now = c.loop-answer.invariant.reached d at m reading in
    let apart : Contains c.loop-answer.knows.leader.decided c.in-Unsettled.other → ⊥ = (λ among.
    let found : c.is_one.result ≡ true = c.is_one.ensures.1 (subst (λ xs. Contains xs c.in-Unsettled.other) (sym c.decided.ensures) among) in
    let n : ⊥ = cc in n) in
    serves_beside c.args.plan m reading c.args.request.now c.args.epoch _ _ c.loop-answer.knows.leader.decided c.in-Unsettled.other _ _ _ now.durable _ _ _ now.holds (c.in_ok-answer.ensures.met now.durable now.kept_is) c.in-Unsettled.is apart
    (other-known c.args.plan c.in-Unsettled.other _ now.durable (c.loop-answer.invariant.leads now.durable now.kept_is).entries) c.served_beside.ensures

pub returns-then-not-is_one-clause-keeps : goal.returns-then-not-is_one-clause-keeps
returns-then-not-is_one-clause-keeps g c = record {
  runs = runs_as {T = Unit {0}} {E = Stopped} always_stop (Ok (tt {0})) halt_stop _ _ _ _ _ refl (still_runs halt_stop _ _ _ _ _ refl (runs_on halt_stop _ _ _ _ _ _ _ c.loop-answer.invariant.runs c.in_ok-answer.ensures.runs));
  beside = c.loop-answer.invariant.beside;
  leads = λ _.
      for_some_on (g.S.Store.durable c.loop-answer.store) _ (LeadsWell c.args.plan (memory_of c.loop-answer.knows) c.loop-answer.knows.entries.items) c.in_ok-answer.ensures.runs.told
      (λ d at. (d, (c.in_ok-answer.ensures.met d at).stays.kept_is, c.loop-answer.invariant.leads d at));
}

pub meet-requires-clause-epochs : goal.meet-requires-clause-epochs
meet-requires-clause-epochs g c x at = has-epochs c.args.plan (memory_of c.loop-answer.knows) c.loop-answer.knows.entries.items x (c.loop-answer.invariant.leads x at) (g.met.S.Store.formed _ c.loop-answer.invariant.runs.stops x at)

pub settle_decided-requires-clause-decided : goal.settle_decided-requires-clause-decided
settle_decided-requires-clause-decided g c = has-from_contains c.loop-answer.knows.leader.decided c.in-Unsettled.other (subst (λ xs. Contains xs c.in-Unsettled.other) c.decided.ensures (c.is_one.ensures.0 c.if-not-is_one.false))

pub returns-in_err-settle_decided-in-Unsettled-clause-served : goal.returns-in_err-settle_decided-in-Unsettled-clause-served
returns-in_err-settle_decided-in-Unsettled-clause-served g c d at m reading =
    let now = c.loop-answer.invariant.reached d at m reading in
    let answered = c.in_ok-answer.ensures.met now.durable now.kept_is in
    let among : Contains c.loop-answer.knows.leader.decided c.in-Unsettled.other = subst (λ xs. Contains xs c.in-Unsettled.other) c.decided.ensures (c.is_one.ensures.0 c.if-not-is_one.false) in
    let cut = serves_cut c.args.plan m reading c.args.request.now c.args.epoch _ _ c.loop-answer.knows.leader.decided c.in-Unsettled.other _ now.durable _ _ _ (left_by (g.S.Store.state c.settle_decided.new.store) (g.S.Store.may c.settle_decided.new.store)) now.holds answered c.in-Unsettled.is among
    (c.in_err-settle_decided-in-Unsettled.ensures.made now.durable answered.stays.kept_is) in
    let is : c.from_residual-in_err-settle_decided-in-Unsettled.result ≡ Err halt.Stopped = search rules in
    part_cut (FetchNext c.args.plan m reading c.args.request.now) _ _ _ _ _ _ _ is cut

pub loop-answer-smaller : goal.loop-answer-smaller
loop-answer-smaller g c =
    let among : Contains c.loop-answer.knows.leader.decided c.in-Unsettled.other = subst (λ xs. Contains xs c.in-Unsettled.other) c.decided.ensures (c.is_one.ensures.0 c.if-not-is_one.false) in
    subst (λ l. length l.decided < length c.loop-answer.knows.leader.decided) (sym c.in_ok-settle_decided-in-Unsettled.ensures.leader) (one-fewer c.in-Unsettled.other c.loop-answer.knows.leader.decided among)

pub loop-answer-preserved : goal.loop-answer-preserved
loop-answer-preserved g c =
    let among : Contains c.loop-answer.knows.leader.decided c.in-Unsettled.other = subst (λ xs. Contains xs c.in-Unsettled.other) c.decided.ensures (c.is_one.ensures.0 c.if-not-is_one.false) in
    let inv = c.loop-answer.invariant in
    let settles = c.in_ok-settle_decided-in-Unsettled.ensures in
    let before : StillRuns (g.S.Store.state c.args.store.now) (g.S.Store.state c.meet.new.store) (g.S.Store.durable c.args.store.now) (g.S.Store.durable c.meet.new.store) =
    still_runs halt_stop _ _ _ _ _ refl (runs_on halt_stop _ _ _ _ _ _ _ inv.runs c.in_ok-answer.ensures.runs) in
    let met = λ (d : Durable) (at : g.S.Store.durable c.loop-answer.store ≡ Some d). c.in_ok-answer.ensures.met d at in
    record {
      runs = still_runs always_stop _ _ _ _ _ refl (runs_on always_stop _ _ _ _ _ _ _ before settles.keeps.runs);
      enlisted = for_some_on (g.S.Store.durable c.loop-answer.store) _ (λ x. is_enlisted x (read_path c.args.request.now.read).cont ≡ true) (settles.keeps.runs.told ∙ c.in_ok-answer.ensures.runs.told)
          (λ d at. (settled c.in-Unsettled.other Commit d, (settles.made d (met d at).stays.kept_is).kept_is, enlisted-settled c.in-Unsettled.other Commit _ d ∙ inv.enlisted d at));
      leads = settles.keeps.leads refl;
      beside = record { hlc = settles.keeps.beside.hlc ∙ inv.beside.hlc; stamps = settles.keeps.beside.stamps ∙ inv.beside.stamps; member = settles.keeps.beside.member ∙ inv.beside.member };
      leader = decided-on c.args.knows.now.leader c.loop-answer.knows.leader c.settle_decided.new.knows.leader _ inv.leader settles.leader;
      reached = λ d at m reading.
          let now = inv.reached d at m reading in
          let answered = met now.durable now.kept_is in
          let did = settles.made now.durable answered.stays.kept_is in
          subst (λ l. Now (g.S.Store.durable c.settle_decided.new.store) (g.S.Store.state c.settle_decided.new.store) (λ k. Reached (FetchNext c.args.plan m reading c.args.request.now) (Reading c.args.epoch c.args.knows.now.leader.decided) (kept d (g.S.Store.state c.args.store.now)) (Reading c.args.epoch l.decided) k)) (sym settles.leader)
          (serves_on c.args.plan m reading c.args.request.now c.args.epoch _ _ c.loop-answer.knows.leader.decided c.in-Unsettled.other _ now.durable _ _ _ _ _ now.holds answered c.in-Unsettled.is among did.kept_is did.free);
    }

pub returns-then-not-is_one-clause-kind : goal.returns-then-not-is_one-clause-kind
returns-then-not-is_one-clause-kind g c = beside-kind c.args.request.now.read c.in-Unsettled.other _ c.served_beside.result c.served_beside.ensures
