use Rattle.std.proofs.Common.{◌≡◌, ◌∙◌, ap, subst, IfOk}
use Rattle.dtx_base.specs.Leading.{marks_for, names_for}
use Rattle.dtx_base.specs.Members.{all_targets}
use Rattle.dtx_table.proofs.Dues.{marks_same, names_same}
use Rattle.dtx_table.proofs.batch.batch_of.Goals as goal

pub returns-clause-posts : goal.returns-clause-posts
returns-clause-posts c =
    let inc = c.args.seat.incarnation in
    let down = c.args.down in
    let named = c.args.named.now in
    subst (λ marks. IfOk c.marks_of.result (λ batch. batch.posts ≡ marks))
    (ap (λ es. marks_for inc down named es all_targets) (c.deref.ensures.value ∙ c.in_ok-owing.ensures) ∙ marks_same c.args.seat.me inc down named c.args.entries.now all_targets)
    c.marks_of.ensures.posts

pub returns-clause-named : goal.returns-clause-named
returns-clause-named c =
    let inc = c.args.seat.incarnation in
    let down = c.args.down in
    let named = c.args.named.now in
    subst (λ names. IfOk c.marks_of.result (λ batch. batch.named.items ≡ names))
    (ap (λ es. names_for inc down named es all_targets) (c.deref.ensures.value ∙ c.in_ok-owing.ensures) ∙ names_same c.args.seat.me inc down named c.args.entries.now all_targets)
    c.marks_of.ensures.named
