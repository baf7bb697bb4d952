use Rattle.std.proofs.Common.{◌≡◌, ◌≤◌, ◌<◌, length, vec_len, rules, sym, ap, ◌∙◌, Err, arith}
use Rattle.vos_store.specs.declared.refusal.EnlistNo.TheVariants as no
use Rattle.vos_tables.proofs.Seating.{enlist_few, enlist_makes, enlist_many, enlist_small}
use Rattle.vos_tables.proofs.table.Tables.plan_enlist.Goals as goal

pub returns-then-len-le256-clause-answer : goal.returns-then-len-le256-clause-answer
returns-then-len-le256-clause-answer c =
    let len : vec_len c.in-Ok.field-0.seats ≡ length c.in-Ok.field-0.seats.items = search rules in
    let few : length c.in-Ok.field-0.seats.items ≤ 256 = omega (arith, len, c.len.ensures) in
    λ vs es _. sym (enlist_few c.args.self.now c.args.conts.now c.in-Ok.field-0.seats.items c.in-Ok.ensures.rows few vs es)

pub returns-then-len-le256-clause-enlisted : goal.returns-then-len-le256-clause-enlisted
returns-then-len-le256-clause-enlisted c =
    let len : vec_len c.in-Ok.field-0.seats ≡ length c.in-Ok.field-0.seats.items = search rules in
    let few : length c.in-Ok.field-0.seats.items ≤ 256 = omega (arith, len, c.len.ensures) in
    enlist_makes c.args.self.now c.args.conts.now c.in-Ok.field-0.seats.items c.in-Ok.field-0.changes.items c.in-Ok.ensures.seated c.in-Ok.ensures.rows few

pub returns-in-Ok-try_from-clause-answer : goal.returns-in-Ok-try_from-clause-answer
returns-in-Ok-try_from-clause-answer c =
    let len : vec_len c.in-Ok.field-0.seats ≡ length c.in-Ok.field-0.seats.items = search rules in
    let more : 256 < length c.in-Ok.field-0.seats.items = omega (arith, len, c.len.ensures, c.if-len-le256.false) in
    let is : length c.in-Ok.field-0.seats.items ≡ c.in-Ok-try_from.together = sym len ∙ (sym c.len-2.ensures ∙ sym c.in-Ok-try_from.ensures.1) in
    λ vs es _. sym (enlist_many c.args.self.now c.args.conts.now c.in-Ok.field-0.seats.items c.in-Ok.field-0.changes.items c.in-Ok.ensures.seated c.in-Ok.ensures.rows more vs es ∙ ap (λ n. Err (no.TooMany n)) is)

pub returns-then-len-le256-clause-few : goal.returns-then-len-le256-clause-few
returns-then-len-le256-clause-few c =
    let len : vec_len c.in-Ok.field-0.seats ≡ length c.in-Ok.field-0.seats.items = search rules in
    let few : length c.in-Ok.field-0.seats.items ≤ 256 = omega (arith, len, c.len.ensures) in
    enlist_small c.args.self.now c.in-Ok.field-0.seats.items c.in-Ok.field-0.changes.items c.in-Ok.ensures.seated few
