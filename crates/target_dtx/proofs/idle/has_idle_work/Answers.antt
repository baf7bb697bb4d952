use Rattle.std.proofs.Common.{◌≡◌, ◌∙◌, ◌&&◌, Bool, ap, false, length, refl, rules, sym, true}
use Rattle.std.specs.Prelude.{◌==◌}
use Rattle.dtx_base.specs.Joining.{is_inquiry_due}
use Rattle.dtx_base.specs.Leading.{is_batch_due}
use Rattle.world_base.specs.Roles.{leader_at, member_at}
use Rattle.target_parts.specs.Knowing.{memory_of}
use Rattle.target_parts.specs.KnowsLaws.{leader-known}
use Rattle.target_dtx.proofs.Telling.{has-idle, member-known}
use Rattle.target_dtx.proofs.idle.has_idle_work.Goals as goal

pub returns-then-not-is_empty : goal.returns-then-not-is_empty
returns-then-not-is_empty g c runs d at =
    let none : false ≡ (length c.args.knows.now.leader.decided == 0) = search rules in
    has-idle c.args.settling c.args.plan (memory_of c.args.knows.now) d false (is_batch_due (leader_at c.args.plan (memory_of c.args.knows.now) d)) (is_inquiry_due d.entries (member_at c.args.plan (memory_of c.args.knows.now))) none refl refl

pub returns-then-has_batch : goal.returns-then-has_batch
returns-then-has_batch g c runs d at =
    let none : true ≡ (length c.args.knows.now.leader.decided == 0) = search rules in
    let known = leader-known c.args.plan (memory_of c.args.knows.now) c.seat_of.result c.args.knows.now.entries.items d c.seat_of.ensures.me c.seat_of.ensures.targets (c.seat_of.ensures.incarnation runs d at) ((c.requires.target.leads runs d at).entries) in
    has-idle c.args.settling c.args.plan (memory_of c.args.knows.now) d true true (is_inquiry_due d.entries (member_at c.args.plan (memory_of c.args.knows.now))) none (sym c.if-has_batch.true ∙ c.has_batch.ensures ∙ ap is_batch_due known) refl

pub returns-then-settling : goal.returns-then-settling
returns-then-settling g c runs d at =
    let none : true ≡ (length c.args.knows.now.leader.decided == 0) = search rules in
    let known = leader-known c.args.plan (memory_of c.args.knows.now) c.seat_of.result c.args.knows.now.entries.items d c.seat_of.ensures.me c.seat_of.ensures.targets (c.seat_of.ensures.incarnation runs d at) ((c.requires.target.leads runs d at).entries) in
    sym (ap (λ (x : Bool). x && c.has_inquiry.result) c.if-settling.true)
    ∙ has-idle c.args.settling c.args.plan (memory_of c.args.knows.now) d true false c.has_inquiry.result none (sym c.if-has_batch.false ∙ c.has_batch.ensures ∙ ap is_batch_due known)
    (c.has_inquiry.ensures ∙ ap (λ es. is_inquiry_due es c.args.knows.now.member) (c.rows.ensures ∙ (c.requires.target.leads runs d at).entries) ∙ ap (is_inquiry_due d.entries) (member-known c.args.plan c.args.knows.now c.requires.target.own))

pub returns-else-settling : goal.returns-else-settling
returns-else-settling g c runs d at =
    let none : true ≡ (length c.args.knows.now.leader.decided == 0) = search rules in
    let known = leader-known c.args.plan (memory_of c.args.knows.now) c.seat_of.result c.args.knows.now.entries.items d c.seat_of.ensures.me c.seat_of.ensures.targets (c.seat_of.ensures.incarnation runs d at) ((c.requires.target.leads runs d at).entries) in
    c.if-settling.false ∙ sym (ap (λ (x : Bool). x && is_inquiry_due d.entries (member_at c.args.plan (memory_of c.args.knows.now))) c.if-settling.false)
    ∙ has-idle c.args.settling c.args.plan (memory_of c.args.knows.now) d true false (is_inquiry_due d.entries (member_at c.args.plan (memory_of c.args.knows.now))) none (sym c.if-has_batch.false ∙ c.has_batch.ensures ∙ ap is_batch_due known) refl
