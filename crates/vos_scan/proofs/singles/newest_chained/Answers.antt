use Rattle.std.proofs.Common.{◌≡◌, ◌∙◌, ℕ, ◌-◌, List, ◌∷◌, Bool, false, ap, arith, sym, map, length, take, filter, reverse}
use Rattle.std.specs.Prelude.{if◌then◌else◌}
use Rattle.std.proofs.lemmas.List.{length-map}
use Rattle.daos_model.specs.declared.durable.Version.{Version}
use Rattle.daos_model.specs.Cells.{single_cell}
use Rattle.vos_scan.specs.Chains.{IsWalk, akey_place, left, version_place}
use Rattle.vos_scan.specs.Newest.{says_at}
use Rattle.vos_scan.proofs.Chained.{Stands, akey-small, find-alike, passed-first, passed-next, says-of, stands-first, stands-less, stands-next}
use Rattle.vos_scan.proofs.singles.newest_chained.Goals as goal

pub loop-left-init : goal.loop-left-init
loop-left-init c =
    let vs = c.args.rows.now in
    let b : ℕ = akey_place c.args.path.now in
    let walk : IsWalk (map version_place vs) b (length (map version_place vs)) c.walk-walk.result = c.walk-walk.ensures (map version_place vs) c.requires in
    let stands = stands-first b vs c.left-left.result c.walk-walk.result walk c.left-left.ensures in
    record {
      within = stands.within;
      is = stands.is;
      walk = stands.walk;
      so_far = find-alike (says_at (single_cell c.args.path.now) c.args.below.0) (reverse (take c.left-left.result vs)) (reverse vs)
          (passed-first b vs (says_at (single_cell c.args.path.now) c.args.below.0) (says-of c.args.path.now c.args.below.0) c.left-left.result c.walk-walk.result walk c.left-left.ensures);
    }

pub loop-left-smaller : goal.loop-left-smaller
loop-left-smaller c =
    let vs = c.args.rows.now in
    let ps : List ℕ = map version_place vs in
    let b : ℕ = akey_place c.args.path.now in
    let back : IsWalk ps b (left c.loop-left.walk - 1) c.back-walk.result =
    c.back-walk.ensures ps b c.loop-left.left (akey-small c.args.path.now) c.requires c.loop-left.invariant.walk (omega (arith, c.loop-left.invariant.within, length-map vs version_place)) in
    stands-less b vs c.loop-left.left c.left-left-in-loop-left.result c.loop-left.walk c.back-walk.result
    (record { within = c.loop-left.invariant.within; is = c.loop-left.invariant.is; walk = c.loop-left.invariant.walk }) c.loop-left-test.true back c.left-left-in-loop-left.ensures

pub loop-left-preserved : goal.loop-left-preserved
loop-left-preserved c =
    let vs = c.args.rows.now in
    let ps : List ℕ = map version_place vs in
    let b : ℕ = akey_place c.args.path.now in
    let m : ℕ = c.left-left-in-loop-left.result in
    let v : Version = c.index-rows-left.result in
    let stands : Stands b vs c.loop-left.left c.loop-left.walk = record { within = c.loop-left.invariant.within; is = c.loop-left.invariant.is; walk = c.loop-left.invariant.walk } in
    let back : IsWalk ps b (left c.loop-left.walk - 1) c.back-walk.result =
    c.back-walk.ensures ps b c.loop-left.left (akey-small c.args.path.now) c.requires c.loop-left.invariant.walk (omega (arith, c.loop-left.invariant.within, length-map vs version_place)) in
    let next = stands-next b vs c.loop-left.left m c.loop-left.walk c.back-walk.result stands c.loop-left-test.true back c.left-left-in-loop-left.ensures in
    let fails : says_at (single_cell c.args.path.now) c.args.below.0 v ≡ false = sym c.says.ensures ∙ c.if-says.false in
    let rest : List Version = filter (says_at (single_cell c.args.path.now) c.args.below.0) (reverse (take m vs)) in
    let on : filter (says_at (single_cell c.args.path.now) c.args.below.0) (reverse (take c.loop-left.left vs)) ≡ rest =
    passed-next b vs c.loop-left.left m c.loop-left.walk c.back-walk.result stands c.loop-left-test.true back c.left-left-in-loop-left.ensures
    (says_at (single_cell c.args.path.now) c.args.below.0) (says-of c.args.path.now c.args.below.0) v c.index-rows-left.is
    ∙ ap (λ (t : Bool). if t then v ∷ rest else rest) fails in
    record {
      within = next.within;
      is = next.is;
      walk = next.walk;
      so_far =
          find-alike (says_at (single_cell c.args.path.now) c.args.below.0) (reverse (take m vs)) (reverse (take c.loop-left.left vs)) (sym on)
          ∙ c.loop-left.invariant.so_far;
    }
