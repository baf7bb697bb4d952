use Rattle.std.proofs.Common.{◌≡◌, ◌∙◌, ◌-◌, length, ap, arith}
use Rattle.std.proofs.lemmas.List.{take_at}
use Rattle.daos_model.specs.Pieces.{pieces_of}
use Rattle.vos_extent.specs.declared.pieces.Look.{Look}
use Rattle.vos_extent.specs.Extents.{extents}
use Rattle.vos_extent.specs.Looks.{records_of}
use Rattle.vos_extent.specs.Shown.{pieces_at}
use Rattle.vos_extent.proofs.Walking.{pieces_painted}
use Rattle.vos_extent.proofs.extent.Extents.pieces.Goals as goal

pub returns-clause-found : goal.returns-clause-found
returns-clause-found g c told x held at =
    let look : Look = record { unit = c.args.unit; low = c.args.low; high = c.args.high; start = c.start_of.result; punched = c.args.punched } in
    let long : length c.paint_all.new.cells ≡ c.args.high - c.args.low = let a = c.paint_all.ensures.long in let b = c.deref_mut.ensures.len in let d = c.in_ok-cells.ensures.len in omega (arith, a, b, d) in
    let same : c.deref.result.now ≡ c.paint_all.new.cells = c.deref.ensures.value ∙ take_at c.paint_all.new.cells _ c.in_ok-cells.cells.len (let a = c.paint_all.ensures.long in let b = c.deref_mut.ensures.len in omega (arith, a, b)) in
    c.from_vec.ensures
    ∙ (c.in_ok-pieces_of.ensures
    ∙ (ap (λ z. pieces_of c.args.unit (records_of c.args.unit z)) same
    ∙ (pieces_painted look (c.args.high - c.args.low) c.paint_all.new.cells (extents x) long (c.in_ok-paint_all.ensures.painted told x held at)
    ∙ ap (λ s. pieces_at c.args.unit s c.args.punched c.args.low (c.args.high - c.args.low) (extents x)) c.start_of.ensures)))
