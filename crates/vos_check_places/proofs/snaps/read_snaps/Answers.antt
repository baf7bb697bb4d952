use Rattle.std.proofs.Common.{rules, ◌≡◌, ◌+◌, ◌*◌, List, [], ◌∷◌, ◌++◌, Option, Err, length, sym, ap, subst, arith, length-append}
use Rattle.base_types.specs.declared.snapshot.Snap.{Snap}
use Rattle.vos_image.specs.Places.{read_snap}
use Rattle.vos_places.specs.Tables.{AreNewSnaps, HoldSnaps, those}
use Rattle.vos_check_places.specs.Shown.{StopsAt}
use Rattle.vos_check_places.proofs.SnapPlaces.{new_snaps_more, snaps_more, snaps_stop}
use Rattle.vos_check_places.proofs.snaps.read_snaps.Goals as goal

pub returns-in_err-snap-clause-foreign : goal.returns-in_err-snap-clause-foreign
returns-in_err-snap-clause-foreign c =
    let is : c.from_residual.result ≡ Err c.in_err-snap.field-0.0 = search rules in
    rw is (λ d s led.
    let i = c.loop-i.i in
    let rows = those c.args.conts.now in
    let so_far = c.loop-i.invariant in
    snaps_stop d rows c.loop-i.snaps.items i led d.bytes c.in_err-snap.field-0.0 so_far.many (omega arith) (so_far.held d s) so_far.new
    (subst (λ (z : List (Option Snap)). StopsAt (read_snap d rows (20480 + 32 * i) (those z) led) d.bytes c.in_err-snap.field-0.0) c.deref.ensures.value
    (c.in_err-snap.ensures.foreign d (λ j low high. s j (omega arith) (omega arith)) led)))

pub loop-i-preserved : goal.loop-i-preserved
loop-i-preserved c =
    let rows = those c.args.conts.now in
    let snaps = c.loop-i.snaps.items in
    let snap = c.in_ok-snap.snap in
    let i = c.loop-i.i in
    let so_far = c.loop-i.invariant in
    let items : c.push.new.self.items ≡ snaps ++ snap ∷ [] = search rules in
    record {
      held = λ d s.
          subst (λ (z : List (Option Snap)). HoldSnaps d 20480 z) (sym items)
          (snaps_more d 20480 snaps (20480 + 32 * i) snap (omega (arith, so_far.many)) (so_far.held d s) (c.in_ok-snap.ensures.held d (λ j low high. s j (omega arith) (omega arith))));
      many = omega (arith, ap length items, length-append snaps (snap ∷ []), so_far.many);
      new = subst (λ (z : List (Option Snap)). AreNewSnaps rows [] (those z)) (sym items)
          (new_snaps_more rows snaps snap so_far.new (subst (λ (z : List (Option Snap)). AreNewSnaps rows (those z) (those (snap ∷ []))) c.deref.ensures.value c.in_ok-snap.ensures.new));
    }
