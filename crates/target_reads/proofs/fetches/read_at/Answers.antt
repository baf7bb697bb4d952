use Rattle.target_reads.proofs.Posting.{served-ends}
use Rattle.std.proofs.Common.{◌≡◌, ◌∙◌, ap, refl, sym, true}
use Rattle.base_types.specs.Operations.{read_path}
use Rattle.daos_model.specs.Durables.{is_enlisted}
use Rattle.world_base.specs.Reads.{FetchEnds, FetchNext, Reading}
use Rattle.world_base.specs.Turns.{Whole}
use Rattle.target_parts.specs.Ending.{turn_halted}
use Rattle.target_parts.specs.Halts.{halt_stop}
use Rattle.target_parts.specs.Knowing.{LeadsWell, memory_of}
use Rattle.target_parts.specs.KnowsLaws.{own-beside}
use Rattle.target_parts.specs.Parts.{kept}
use Rattle.target_parts.specs.Running.{for_some_on}
use Rattle.target_parts.specs.Standing.{target-kept, target-on}
use Rattle.target_parts.specs.Stops.{fetch_issued}
use Rattle.target_reads.specs.Meets.{Serves}
use Rattle.target_reads.proofs.FetchTurns.{fetch-told, reading-issued, then-known}
use Rattle.target_reads.proofs.Retrying.{path-enlisted}
use Rattle.target_reads.proofs.Posting.{served-posts}
use Rattle.target_reads.proofs.Carrying.{served-reads}
use Rattle.target_reads.proofs.fetches.read_at.Goals as goal

pub tell-requires-clause-own : goal.tell-requires-clause-own
tell-requires-clause-own g c = own-beside c.args.plan c.args.knows.now c.serve.new.knows c.in-Ok.ensures.keeps.beside c.requires.target.own

pub returns-in-Ok-clause-turn : goal.returns-in-Ok-clause-turn
returns-in-Ok-clause-turn g c d at m reading ticks =
    fetch-told c.args.plan m (memory_of c.serve.new.knows) reading c.args.request.now c.args.from c.args.epoch c.args.knows.now.leader.decided c.serve.new.knows.leader.decided d (g.S.Store.state c.args.store.now) (g.S.Store.state c.serve.new.store) _ _
    c.in-Ok.served (memory_of c.tell.new.knows) c.tell.result (then-known c.args.knows.now c.serve.new.knows c.args.request.now c.args.epoch m c.in-Ok.ensures.keeps.beside (c.in-Ok.ensures.leader refl) ticks)
    c.tell.ensures.told c.tell.ensures.wanting (c.in-Ok.ensures.served d at m reading)

pub returns-in-Ok-clause-target : goal.returns-in-Ok-clause-target
returns-in-Ok-clause-target g c =
    target-on c.args.plan (g.S.Store.state c.args.store.now) (g.S.Store.state c.serve.new.store) (g.S.Store.durable c.args.store.now) (g.S.Store.durable c.serve.new.store) c.args.knows.now c.tell.new.knows c.requires.target c.in-Ok.ensures.keeps.runs.targets c.tell.ensures.own (λ _.
    for_some_on (g.S.Store.durable c.args.store.now) _ (LeadsWell c.args.plan (memory_of c.tell.new.knows) c.tell.new.knows.entries.items) c.in-Ok.ensures.keeps.runs.told (λ d at.
    let m = memory_of c.args.knows.now in
    let old = kept d (g.S.Store.state c.args.store.now) in
    let start = Reading c.args.epoch c.args.knows.now.leader.decided in
    let now = c.in-Ok.ensures.served d at m 0 in
    let here : is_enlisted now.durable (read_path c.args.request.now.read).cont ≡ true =
    path-enlisted (FetchNext c.args.plan m 0 c.args.request.now) start old now.holds.reached.did (Reading c.args.epoch c.serve.new.knows.leader.decided) (kept now.durable (g.S.Store.state c.serve.new.store)) (read_path c.args.request.now.read).cont now.holds.reached.path ∙ c.requires.enlisted d at in
    (now.durable, now.kept_is, c.tell.ensures.leads now.durable here (c.in-Ok.ensures.keeps.leads refl now.durable now.kept_is))))

pub returns-in-Err-clause-turn : goal.returns-in-Err-clause-turn
returns-in-Err-clause-turn g c d at m reading ticks =
    let start = Reading c.args.epoch c.args.knows.now.leader.decided in
    let old = kept d (g.S.Store.state c.args.store.now) in
    let left = memory_of c.serve.new.knows in
    turn_halted (FetchNext c.args.plan m reading c.args.request.now) (fetch_issued c.args.request.now) start old (g.S.Store.durable c.serve.new.store) (g.S.Store.state c.serve.new.store) (g.S.Store.may c.serve.new.store)
    (λ did l. Whole (FetchNext c.args.plan m reading c.args.request.now) (FetchEnds c.args.plan m reading c.args.request.now c.args.from) start old l (left, did))
    (Serves c.args.plan m reading c.args.request.now c.args.epoch c.args.knows.now.leader.decided c.serve.new.knows.leader.decided old) c.in-Err.halt c.issued_for-issued.result c.stop_of.result
    (λ last mid r. c.issued_for-issued.ensures ∙ sym (reading-issued c.args.plan m reading c.args.request.now c.args.epoch c.args.knows.now.leader.decided old last mid r))
    c.stop_of.ensures (c.in-Err.ensures.served d at m reading)

pub returns-in-Err-clause-target : goal.returns-in-Err-clause-target
returns-in-Err-clause-target g c =
    target-kept c.args.plan halt_stop _ (g.S.Store.state c.args.store.now) (g.S.Store.state c.serve.new.store) (g.S.Store.durable c.args.store.now) (g.S.Store.durable c.serve.new.store) c.args.knows.now c.serve.new.knows c.requires.target c.in-Err.ensures.keeps

pub returns-in-Ok-clause-posts : goal.returns-in-Ok-clause-posts
returns-in-Ok-clause-posts g c client =
    served-posts c.args.plan c.args.request.now c.args.from c.args.epoch c.in-Ok.served c.args.knows.now.leader (memory_of c.serve.new.knows) (memory_of c.tell.new.knows) c.tell.result client
    (ap (λ m. m.undecided) (c.in-Ok.ensures.leader refl)) c.tell.ensures.told

pub returns-in-Ok-clause-reads : goal.returns-in-Ok-clause-reads
returns-in-Ok-clause-reads g c =
    served-reads c.args.plan c.args.request.now c.args.from c.args.epoch c.in-Ok.served c.args.knows.now.member.memory (memory_of c.serve.new.knows) (memory_of c.tell.new.knows) c.tell.result c.in-Ok.ensures.kind
    (ap (λ m. m.memory) c.in-Ok.ensures.keeps.beside.member) c.tell.ensures.told

pub returns-in-Ok-clause-ends : goal.returns-in-Ok-clause-ends
returns-in-Ok-clause-ends g c asked =
    served-ends asked c.args.plan c.args.request.now c.args.from c.args.epoch c.in-Ok.served c.args.knows.now.leader (memory_of c.serve.new.knows) (memory_of c.tell.new.knows) c.tell.result
    (ap (λ m. m.undecided) (c.in-Ok.ensures.leader refl)) c.tell.ensures.told
