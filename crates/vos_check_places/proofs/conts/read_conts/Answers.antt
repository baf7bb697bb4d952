use Rattle.std.proofs.Common.{rules, ◌≡◌, ◌+◌, ◌*◌, List, [], ◌∷◌, ◌++◌, Option, Err, length, sym, ap, subst, arith, length-append}
use Rattle.daos_model.specs.declared.durable.ContRow.{ContRow}
use Rattle.vos_image.specs.Places.{read_cont}
use Rattle.vos_places.specs.Tables.{AreNewConts, HoldConts, those}
use Rattle.vos_check_places.specs.Shown.{StopsAt}
use Rattle.vos_check_places.proofs.ContPlaces.{conts_more, conts_stop, new_conts_more}
use Rattle.vos_check_places.proofs.conts.read_conts.Goals as goal

pub returns-in_err-row-clause-foreign : goal.returns-in_err-row-clause-foreign
returns-in_err-row-clause-foreign c =
    let is : c.from_residual.result ≡ Err c.in_err-row.field-0.0 = search rules in
    rw is (λ d s e led.
    let i = c.loop-i.i in
    let so_far = c.loop-i.invariant in
    conts_stop d c.loop-i.rows.items i led d.bytes c.in_err-row.field-0.0 so_far.many (omega arith) (so_far.held d s e) so_far.new
    (subst (λ (z : List (Option ContRow)). StopsAt (read_cont d (4096 + 64 * i) (those z) led) d.bytes c.in_err-row.field-0.0) c.deref.ensures.value
    (c.in_err-row.ensures.foreign d (λ j low high. s j (omega arith) (omega arith)) e led)))

pub loop-i-preserved : goal.loop-i-preserved
loop-i-preserved c =
    let rows = c.loop-i.rows.items in
    let row = c.in_ok-row.row in
    let i = c.loop-i.i in
    let so_far = c.loop-i.invariant in
    let items : c.push.new.self.items ≡ rows ++ row ∷ [] = search rules in
    record {
      held = λ d s e.
          subst (λ (z : List (Option ContRow)). HoldConts d 4096 z) (sym items)
          (conts_more d 4096 rows (4096 + 64 * i) row (omega (arith, so_far.many)) (so_far.held d s e) (c.in_ok-row.ensures.held d (λ j low high. s j (omega arith) (omega arith)) e));
      many = omega (arith, ap length items, length-append rows (row ∷ []), so_far.many);
      new = subst (λ (z : List (Option ContRow)). AreNewConts [] (those z)) (sym items)
          (new_conts_more rows row so_far.new (subst (λ (z : List (Option ContRow)). AreNewConts (those z) (those (row ∷ []))) c.deref.ensures.value c.in_ok-row.ensures.new));
    }
