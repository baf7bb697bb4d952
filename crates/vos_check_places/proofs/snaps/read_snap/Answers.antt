use Rattle.std.proofs.Common.{rules, ◌≡◌, ◌==◌, true, false, Err, sym, ◌∙◌, arith}
use Rattle.std.proofs.lemmas.Bool.{ne_eqb}
use Rattle.std.proofs.lemmas.Bool.Decides.{nat_tests}
use Rattle.vos_places.specs.Tables.{those}
use Rattle.vos_check_places.proofs.SnapPlaces.{snap_found, snap_holds, snap_rules, snap_stops}
use Rattle.vos_check_places.proofs.Steps.{judged_well}
use Rattle.vos_check_places.proofs.snaps.read_snap.Goals as goal

pub returns-in_err-judge-clause-foreign : goal.returns-in_err-judge-clause-foreign
returns-in_err-judge-clause-foreign c =
    let is : c.from_residual.result ≡ Err c.in_err-judge.field-0.0 = search rules in
    rw is (λ d s led.
    let bs = c.args.fixed.now in
    let p = c.args.p in
    let used = c.fields_at-x.result.used in
    let gap = c.zeros_at.ensures in
    let fields = c.fields_at-x.ensures d.bytes s in
    let k = snap_found d bs p used c.zeros_at.result c.snap_of-snap.result s fields.used (c.snap_of-snap.ensures d.bytes p fields) gap.zeros gap.low gap.high in
    snap_stops d bs (those c.args.conts.now) p used c.zeros_at.result c.snap_of-snap.result c.is_new.result (those c.args.snaps.now) led c.in_err-judge.field-0.0 k c.is_new.ensures (sym c.judge.ensures ∙ c.in_err-judge.was))

pub returns-then-x-eq0-clause-held : goal.returns-then-x-eq0-clause-held
returns-then-x-eq0-clause-held c d s =
    let bs = c.args.fixed.now in
    let p = c.args.p in
    let used = c.fields_at-x.result.used in
    let gap = c.zeros_at.ensures in
    let fields = c.fields_at-x.ensures d.bytes s in
    let k = snap_found d bs p used c.zeros_at.result c.snap_of-snap.result s fields.used (c.snap_of-snap.ensures d.bytes p fields) gap.zeros gap.low gap.high in
    let none : (used == 0) ≡ true = grind (arith, nat_tests, c.if-x-eq0.true) in
    snap_holds d bs p used c.zeros_at.result c.snap_of-snap.result c.is_new.result true none k (judged_well bs (snap_rules p used c.zeros_at.result c.is_new.result) _ (sym c.judge.ensures ∙ c.in_ok-judge.was))

pub returns-clause-held : goal.returns-clause-held
returns-clause-held c d s =
    let bs = c.args.fixed.now in
    let p = c.args.p in
    let used = c.fields_at-x.result.used in
    let gap = c.zeros_at.ensures in
    let fields = c.fields_at-x.ensures d.bytes s in
    let k = snap_found d bs p used c.zeros_at.result c.snap_of-snap.result s fields.used (c.snap_of-snap.ensures d.bytes p fields) gap.zeros gap.low gap.high in
    let some : (used == 0) ≡ false = ne_eqb used 0 c.if-x-eq0.false in
    snap_holds d bs p used c.zeros_at.result c.snap_of-snap.result c.is_new.result false some k (judged_well bs (snap_rules p used c.zeros_at.result c.is_new.result) _ (sym c.judge.ensures ∙ c.in_ok-judge.was))
