use Rattle.world_ended.specs.TurnLaws.{on-fewer}
use Rattle.model_laws.specs.Members.{Has}
use Rattle.std.proofs.Common.{ap, subst, []}
use Rattle.target_parts.specs.Knowing.{memory_of}
use Rattle.target_parts.specs.KnowsLaws.{memory-beside}
use Rattle.target_parts.specs.Parts.{kept}
use Rattle.target_parts.specs.Standing.{target-kept}
use Rattle.target_dtx.proofs.Idling.{idles-told}
use Rattle.target_dtx.proofs.Posting.{settled-posts}
use Rattle.vos_store.specs.Refusals.{always_stop}
use Rattle.world_ended.specs.world_letters.kinds.TurnLaws.{turn-on}
use Rattle.target_dtx.proofs.idle.idle_work.Goals as goal

pub returns-in-Err-clause-target : goal.returns-in-Err-clause-target
returns-in-Err-clause-target g c = target-kept c.args.plan always_stop _ (g.S.Store.state c.args.store.now) (g.S.Store.state c.settle_all.new.store) (g.S.Store.durable c.args.store.now) (g.S.Store.durable c.settle_all.new.store) c.args.knows.now c.settle_all.new.knows c.requires.target c.in-Err.ensures.keeps

pub tell-requires-clause-target : goal.tell-requires-clause-target
tell-requires-clause-target g c = target-kept c.args.plan always_stop _ (g.S.Store.state c.args.store.now) (g.S.Store.state c.settle_all.new.store) (g.S.Store.durable c.args.store.now) (g.S.Store.durable c.settle_all.new.store) c.args.knows.now c.settle_all.new.knows c.requires.target c.in_default.ensures.keeps

pub returns-clause-turn : goal.returns-clause-turn
returns-clause-turn g c d at =
    idles-told c.args.settling c.args.plan (memory_of c.args.knows.now) (memory_of c.settle_all.new.knows) (memory_of c.tell.new.knows) (kept d (g.S.Store.state c.args.store.now)) (g.S.Store.state c.settle_all.new.store)
    (g.S.Store.durable c.settle_all.new.store) (g.S.Store.may c.settle_all.new.store) c.tell.result (memory-beside c.args.knows.now c.settle_all.new.knows _ c.in_default.ensures.keeps.beside c.in_default.ensures.leader)
    (c.in_default.ensures.settled d at) c.tell.ensures.memory c.tell.ensures.told c.tell.ensures.wanting

pub returns-clause-posts : goal.returns-clause-posts
returns-clause-posts g c =
    settled-posts c.args.plan.targets c.args.knows.now.leader c.settle_all.new.knows.leader c.tell.new.knows.leader c.tell.result (ap (λ m. m.undecided) c.in_default.ensures.leader) c.tell.ensures.posts

pub returns-clause-reads : goal.returns-clause-reads
returns-clause-reads g c = turn-on c.tell.result [] c.args.knows.now.member.memory c.settle_all.new.knows.member.memory c.tell.new.knows.member.memory (ap (λ m. m.memory.parked) c.in_default.ensures.keeps.beside.member) c.tell.ensures.reads

pub returns-clause-ends : goal.returns-clause-ends
returns-clause-ends g c asked =
    on-fewer asked c.args.knows.now.leader c.settle_all.new.knows.leader c.tell.new.knows.leader c.tell.result (λ u i. subst (Has u) (ap (λ m. m.undecided) c.in_default.ensures.leader) i) (c.tell.ensures.ends asked)
