use Rattle.std.proofs.Common.{◌≡◌, Err, refl, rules, Ok, ap, subst, sym, ◌∙◌}
use Rattle.dtx_table.specs.Seats.{leader_of}
use Rattle.snap_core.specs.Snaps.{remembered}
use Rattle.target_parts.specs.Knowing.{memory_of}
use Rattle.target_parts.specs.Stops.{stop_memory}
use Rattle.target_snaps.proofs.LossTurns.{loss-told, loss-wanting, lost-stays, target-lost}
use Rattle.target_snaps.proofs.Following.{none-answered, none-tried, told-memory}
use Rattle.target_snaps.proofs.Begun.{on-any}
use Rattle.target_snaps.proofs.HeldFollowing.{lost-within, reset-goes, reset-in_form, reset-reads}
use Rattle.daos_model.specs.Attempts.{tries}
use Rattle.world_base.specs.declared.did.Did.{Did}
use Rattle.world_ended.specs.world_letters.kinds.PostLaws.{CarryNone}
use Rattle.target_snaps.specs.Following.{MakesAsked, MakesInForm}
use Rattle.target_snaps.proofs.losses.hear_collection_reset.Goals as goal

pub returns-in_err-posts-clause-turn : goal.returns-in_err-posts-clause-turn
returns-in_err-posts-clause-turn g c d at =
    let no : c.from_residual.result ≡ Err stop_memory = search rules in
    loss-wanting c.args.plan (remembered (memory_of c.args.knows.now) c.args.snaps.now) _ c.args.target c.args.down c.args.message.now d (g.S.Store.state c.args.store.now) (g.S.Store.durable c.args.store.now) (g.S.Store.may c.args.store.now) _ at no

pub returns-in_err-_none-clause-turn : goal.returns-in_err-_none-clause-turn
returns-in_err-_none-clause-turn g c d at =
    let no : c.from_residual-in_err-_none.result ≡ Err stop_memory = search rules in
    loss-wanting c.args.plan (remembered (memory_of c.args.knows.now) c.args.snaps.now) _ c.args.target c.args.down c.args.message.now d (g.S.Store.state c.args.store.now) (g.S.Store.durable c.args.store.now) (g.S.Store.may c.args.store.now) _ at no

pub returns-in_err-_none-clause-own : goal.returns-in_err-_none-clause-own
returns-in_err-_none-clause-own g c = lost-stays c.args.plan c.args.snaps.now c.hear_reset.new.self c.requires.own c.args.target c.args.down c.args.message.now c.in_ok-posts.posts c.in_ok-posts.ensures.ok

pub returns-clause-turn : goal.returns-clause-turn
returns-clause-turn g c d at =
    loss-told c.args.plan (memory_of c.args.knows.now) c.args.snaps.now c.hear_reset.new.self c.requires.own c.args.target c.args.down c.args.message.now c.requires.collecting c.in_ok-posts.posts
    (leader_of c.seat_of-seat.result c.rows.result.now c.args.knows.now.leader) c.hear_reset-2.new.self c.in_ok-_none._none d (g.S.Store.state c.args.store.now) (g.S.Store.durable c.args.store.now) (g.S.Store.may c.args.store.now) c.sends.result at c.sends.ensures refl
    c.in_ok-posts.ensures.ok c.in_ok-_none.ensures.ok

pub returns-clause-own : goal.returns-clause-own
returns-clause-own g c = lost-stays c.args.plan c.args.snaps.now c.hear_reset.new.self c.requires.own c.args.target c.args.down c.args.message.now c.in_ok-posts.posts c.in_ok-posts.ensures.ok

pub returns-clause-target : goal.returns-clause-target
returns-clause-target g c =
    target-lost c.args.plan (g.S.Store.state c.args.store.now) (g.S.Store.durable c.args.store.now) c.args.knows.now c.args.target c.args.down c.args.message.now (leader_of c.seat_of-seat.result c.rows.result.now c.args.knows.now.leader) c.hear_reset-2.new.self c.in_ok-_none._none refl
    c.requires.collecting c.in_ok-_none.ensures.ok c.requires.target

-- ---- what follows

pub returns-in_err-posts-clause-told : goal.returns-in_err-posts-clause-told
returns-in_err-posts-clause-told g c =
    let no : c.from_residual.result ≡ Err stop_memory = search rules in
    told-memory c.from_residual.result no

pub returns-in_err-_none-clause-told : goal.returns-in_err-_none-clause-told
returns-in_err-_none-clause-told g c =
    let no : c.from_residual-in_err-_none.result ≡ Err stop_memory = search rules in
    told-memory c.from_residual-in_err-_none.result no

pub returns-in_err-_none-clause-within : goal.returns-in_err-_none-clause-within
returns-in_err-_none-clause-within g c = on-any c.from_residual-in_err-_none.result _ (lost-within c.args.snaps.now c.hear_reset.new.self c.in_ok-posts.posts c.args.target c.args.down c.args.message.now c.in_ok-posts.ensures.ok)

pub returns-clause-reads : goal.returns-clause-reads
returns-clause-reads g c =
    none-answered (Ok c.sends.result) c.args.knows.now.member.memory c.args.knows.now.member.memory refl
    (subst CarryNone (sym (ap (λ (d : Did). d.posts) c.sends.ensures)) (reset-reads c.args.snaps.now c.hear_reset.new.self c.in_ok-posts.posts c.args.target c.args.down c.args.message.now c.in_ok-posts.ensures.ok))

pub returns-clause-posts : goal.returns-clause-posts
returns-clause-posts g c collects =
    subst (λ ps. MakesInForm c.args.plan.targets c.args.snaps.now.collecting c.hear_reset.new.self.collecting ps) (sym (ap (λ (d : Did). d.posts) c.sends.ensures))
    (reset-in_form c.args.snaps.now c.hear_reset.new.self c.in_ok-posts.posts c.args.plan.targets c.args.target c.args.down c.args.message.now collects c.in_ok-posts.ensures.ok)

pub returns-clause-ends : goal.returns-clause-ends
returns-clause-ends g c given asks =
    subst (λ ps. MakesAsked given c.args.snaps.now.collecting c.hear_reset.new.self.collecting ps) (sym (ap (λ (d : Did). d.posts) c.sends.ensures))
    (reset-goes c.args.snaps.now c.hear_reset.new.self c.in_ok-posts.posts given c.args.target c.args.down c.args.message.now asks c.in_ok-posts.ensures.ok)

pub returns-clause-told : goal.returns-clause-told
returns-clause-told g c = ap (λ (d : Did). tries d.lines) c.sends.ensures ∙ none-tried
