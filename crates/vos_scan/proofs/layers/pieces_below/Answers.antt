use Rattle.std.proofs.Common.{◌≡◌, ℕ, ◌+◌, ◌≤◌, ◌<◌, List, true, ap, subst, sym, ◌∙◌, arith}
use Rattle.std.specs.Prelude.{IfSome, filter, find, reverse}
use Rattle.std.specs.Option.{option_copied}
use Rattle.base_types.specs.Paths.{record_size}
use Rattle.daos_model.specs.declared.cell.CellValue.{CellValue}
use Rattle.daos_model.specs.Answers.{record_of}
use Rattle.daos_model.specs.Cells.{index_cell, value_at}
use Rattle.daos_model.specs.Pieces.{index_after, last_hole, pieces_of, window}
use Rattle.daos_model.specs.Versions.{map_below}
use Rattle.daos_model.proofs.PieceSteps.{last_hole-index_after, pieces-window, pieces_of-push}
use Rattle.vos_scan.specs.Layers.{covers_at, is_layer, lent, record_by}
use Rattle.vos_scan.proofs.Newest.{found-passes}
use Rattle.vos_scan.proofs.Stretches.{record-here, window_last}
use Rattle.vos_scan.proofs.layers.pieces_below.Goals as goal

pub record_by-requires : goal.record_by-requires
record_by-requires c =
    let index : ℕ = c.from.result + c.from-in-loop-k.result in
    subst (λ o. IfSome o (λ v. covers_at index v ≡ true)) (sym c.newest_at.ensures) (found-passes (covers_at index) (lent c.deref.result.now))

pub loop-k-init : goal.loop-k-init
unfolding window
loop-k-init c =
    let none : last_hole c.new-pieces.result.items ≡ 0 = ap last_hole c.new-pieces.ensures.items in
    record { made = c.new-pieces.ensures.items; short = omega (arith, none) }

pub add_index-requires : goal.add_index-requires
add_index-requires c = omega (arith, c.loop-k.invariant.short)

pub loop-k-preserved : goal.loop-k-preserved
loop-k-preserved c =
    let index : ℕ = c.from.result + c.from-in-loop-k.result in
    let at : index ≡ c.args.low + c.loop-k.k = omega (arith, c.from.ensures, c.from-in-loop-k.ensures) in
    let from : c.args.low ≤ index = omega (arith, at) in
    let to : index < c.args.low + c.args.len = omega (arith, at) in
    let m : List CellValue = map_below c.args.rows.now c.args.below.0 in
    let layers : lent c.deref.result.now ≡ filter (is_layer c.args.path.now c.args.low c.args.len c.args.below.0) (reverse c.args.rows.now) =
    ap lent c.deref.ensures.value ∙ c.in_ok-layers.ensures in
    let newest : option_copied c.newest_at.result ≡ find (covers_at index) (filter (is_layer c.args.path.now c.args.low c.args.len c.args.below.0) (reverse c.args.rows.now)) =
    c.newest_at.ensures ∙ ap (find (covers_at index)) layers in
    let held : option_copied c.record_by.result ≡ record_of (record_size c.args.path.now) (value_at m (index_cell c.args.path.now (c.args.low + c.loop-k.k))) =
    c.record_by.ensures ∙ ap (record_by index) newest
    ∙ sym (record-here c.args.path.now c.args.low c.args.len index c.args.below.0 c.args.rows.now from to)
    ∙ ap (λ i. record_of (record_size c.args.path.now) (value_at m (index_cell c.args.path.now i))) at in
    let made : c.add_index.new.pieces.items ≡ index_after c.loop-k.pieces.items (option_copied c.record_by.result) = c.in_ok-add_index.ensures in
    record {
      made =
          made
          ∙ ap (index_after c.loop-k.pieces.items) held
          ∙ ap (λ ps. index_after ps (record_of (record_size c.args.path.now) (value_at m (index_cell c.args.path.now (c.args.low + c.loop-k.k))))) c.loop-k.invariant.made
          ∙ sym (pieces_of-push (record_size c.args.path.now) (window c.args.path.now c.args.low c.loop-k.k m) (value_at m (index_cell c.args.path.now (c.args.low + c.loop-k.k))))
          ∙ ap (pieces_of (record_size c.args.path.now)) (sym (window_last c.args.path.now c.args.low c.loop-k.k m));
      short =
          let grown : last_hole c.add_index.new.pieces.items ≡ last_hole (index_after c.loop-k.pieces.items (option_copied c.record_by.result)) = ap last_hole made in
          omega (arith, grown, c.loop-k.invariant.short, last_hole-index_after c.loop-k.pieces.items (option_copied c.record_by.result));
    }

pub returns : goal.returns
returns c =
    let all : c.loop-k.k ≡ c.args.len = omega (arith, c.loop-k.auto.k-end, c.loop-k-test.false) in
    c.loop-k.invariant.made
    ∙ ap (λ n. pieces_of (record_size c.args.path.now) (window c.args.path.now c.args.low n (map_below c.args.rows.now c.args.below.0))) all
    ∙ sym (pieces-window c.args.path.now c.args.low c.args.len (map_below c.args.rows.now c.args.below.0))
