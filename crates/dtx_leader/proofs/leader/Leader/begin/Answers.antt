use Rattle.std.proofs.Common.{◌≡◌, ◌∙◌, ap, arith, sym, subst, true}
use Rattle.std.specs.Prelude.{filter, None}
use Rattle.std.proofs.lemmas.Bool.Decides.{nat_tests}
use Rattle.daos_model.specs.Changes.{is_other}
use Rattle.daos_model.specs.Durables.{entry_key}
use Rattle.dtx_base.specs.Leading.{is_led}
use Rattle.dtx_entries.specs.Settling.{entries_settled, entry_in}
use Rattle.dtx_leader.proofs.Led.{put-undone, whole-put}
use Rattle.dtx_leader.proofs.leader.Leader.begin.Goals as goal

pub invariant_of-self-in-Ok : goal.invariant_of-self-in-Ok
invariant_of-self-in-Ok c =
    let me-is : c.args.self.now.me ≡ c.self.inside.seat.me = ap (λ l. l.me) (sym c.self.view_is) in
    let same : c.args.entry.now.leader ≡ c.self.inside.seat.me = c.requires.led ∙ me-is in
    let own : is_led c.self.inside.seat.me c.args.entry.now ≡ true = grind (arith, nat_tests) in
    subst (λ es. filter (is_led c.self.inside.seat.me) es ≡ es) (sym c.in_ok-add.ensures.ok) (whole-put (is_led c.self.inside.seat.me) entry_key c.args.entry.now c.self.inside.table own c.self.invariant)

undone : (c : goal.After-settle) → c.settle.new.self ≡ c.self.inside.table
unfolding entries_settled
undone c =
    let none : entry_in c.self.inside.table c.args.entry.now.attempt ≡ None = subst (λ l. entry_in l.entries c.args.entry.now.attempt ≡ None) (sym c.self.view_is) c.requires.new in
    c.settle.ensures ∙ ap (filter (is_other c.args.entry.now.attempt)) c.in_ok-add.ensures.ok ∙ put-undone c.args.entry.now c.self.inside.table none

pub invariant_of-self-in-Err : goal.invariant_of-self-in-Err
invariant_of-self-in-Err c = subst (λ es. filter (is_led c.self.inside.seat.me) es ≡ es) (sym (undone c)) c.self.invariant

pub returns-in-Err-clause-err : goal.returns-in-Err-clause-err
returns-in-Err-clause-err c = rw (undone c) (rw c.in-Err.ensures.err c.self.view_is)
