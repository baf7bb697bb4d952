use Rattle.std.proofs.Common.{rules, ◌≡◌, ◌==◌, true, false, Some, Err, sym, subst, ◌∙◌, arith}
use Rattle.std.proofs.lemmas.Bool.{ne_eqb}
use Rattle.std.proofs.lemmas.Bool.Decides.{nat_tests}
use Rattle.daos_model.specs.declared.durable.ContRow.{ContRow}
use Rattle.vos_places.specs.Tables.{HoldsCont, those}
use Rattle.vos_check_places.proofs.ContPlaces.{cont_found, cont_holds, cont_rules, cont_stops}
use Rattle.vos_check_places.proofs.Steps.{judged_well}
use Rattle.vos_check_places.proofs.conts.read_cont.Goals as goal

pub returns-in_err-judge-clause-foreign : goal.returns-in_err-judge-clause-foreign
returns-in_err-judge-clause-foreign c =
    let is : c.from_residual.result ≡ Err c.in_err-judge.field-0.0 = search rules in
    rw is (λ d s e led.
    let bs = c.args.fixed.now in
    let p = c.args.p in
    let x = c.fields_at-x.result in
    let gap = c.zeros_at.ensures in
    let rest = c.zeros_at-2.ensures in
    let k = cont_found d bs p c.args.covered x c.zeros_at.result c.zeros_at-2.result c.is_why.result c.is_reason.result s e (c.fields_at-x.ensures d.bytes s) gap.zeros gap.low gap.high rest.zeros rest.low rest.high c.is_why.ensures c.is_reason.ensures in
    cont_stops d bs p c.args.covered x c.zeros_at.result c.zeros_at-2.result c.is_why.result c.is_reason.result c.is_new.result (those c.args.rows.now) led c.in_err-judge.field-0.0 k c.is_new.ensures (sym c.judge.ensures ∙ c.in_err-judge.was))

pub returns-then-x-eq0-clause-held : goal.returns-then-x-eq0-clause-held
returns-then-x-eq0-clause-held c d s e =
    let bs = c.args.fixed.now in
    let p = c.args.p in
    let x = c.fields_at-x.result in
    let gap = c.zeros_at.ensures in
    let rest = c.zeros_at-2.ensures in
    let k = cont_found d bs p c.args.covered x c.zeros_at.result c.zeros_at-2.result c.is_why.result c.is_reason.result s e (c.fields_at-x.ensures d.bytes s) gap.zeros gap.low gap.high rest.zeros rest.low rest.high c.is_why.ensures c.is_reason.ensures in
    let none : (x.used == 0) ≡ true = grind (arith, nat_tests, c.if-x-eq0.true) in
    cont_holds d bs p c.args.covered x c.zeros_at.result c.zeros_at-2.result c.is_why.result c.is_reason.result c.is_new.result true none k
    (judged_well bs (cont_rules p c.args.covered x c.zeros_at.result c.zeros_at-2.result c.is_why.result c.is_reason.result c.is_new.result) _ (sym c.judge.ensures ∙ c.in_ok-judge.was))

pub returns-clause-held : goal.returns-clause-held
returns-clause-held c d s e =
    let bs = c.args.fixed.now in
    let p = c.args.p in
    let x = c.fields_at-x.result in
    let gap = c.zeros_at.ensures in
    let rest = c.zeros_at-2.ensures in
    let fields = c.fields_at-x.ensures d.bytes s in
    let k = cont_found d bs p c.args.covered x c.zeros_at.result c.zeros_at-2.result c.is_why.result c.is_reason.result s e fields gap.zeros gap.low gap.high rest.zeros rest.low rest.high c.is_why.ensures c.is_reason.ensures in
    let some : (x.used == 0) ≡ false = ne_eqb x.used 0 c.if-x-eq0.false in
    subst (λ (r : ContRow). HoldsCont d p (Some r)) (sym (c.row_of.ensures.row d.bytes p fields))
    (cont_holds d bs p c.args.covered x c.zeros_at.result c.zeros_at-2.result c.is_why.result c.is_reason.result c.is_new.result false some k
    (judged_well bs (cont_rules p c.args.covered x c.zeros_at.result c.zeros_at-2.result c.is_why.result c.is_reason.result c.is_new.result) _ (sym c.judge.ensures ∙ c.in_ok-judge.was)))
