use Rattle.std.proofs.Common.{◌≡◌, ◌∙◌, ◌++◌, ◌≤◌, ◌+◌, ap, sym, arith, rules, List, ℕ, take, drop, length}
use Rattle.std.proofs.lemmas.Grind.{common_steps}
use Rattle.base_outside.specs.Images.{over, image_of}
use Rattle.daos_regions.specs.declared.piece.Piece.{Piece}
use Rattle.daos_regions.specs.Periods.{DiskState}
use Rattle.daos_regions.proofs.Holding.{holds_write}
use Rattle.daos_regions.proofs.disk.Disk.write.Goals as goal

pub invariant_of-self-2 : goal.invariant_of-self-2
invariant_of-self-2 c =
    let p : Piece = record { place = c.args.at; bytes = c.in_ok-to_vec.field-0 } in
    let same : c.in_ok-to_vec.field-0.items ≡ c.args.bytes.now = search rules in
    let whole : take c.self.inside.bytes.len (c.lay.new.all ++ drop (length c.lay.new.all) c.self.inside.bytes.items) ≡ c.lay.new.all = grind (arith, common_steps) in
    let image : image_of c.lay.new.all ≡ over (record { place = c.args.at; bytes = c.in_ok-to_vec.field-0.items }) (image_of c.self.inside.bytes.items) =
    c.lay.ensures ∙ (ap (λ (z : List ℕ). over (record { place = c.args.at; bytes = c.args.bytes.now }) (image_of z)) c.deref_mut.ensures.value ∙ ap (λ (z : List ℕ). over (record { place = c.args.at; bytes = z }) (image_of c.self.inside.bytes.items)) (sym same)) in
    let size : length c.self.inside.bytes.items ≡ c.args.self.now.size = ap (λ (d : DiskState). d.size) c.self.view_is in
    let fits : c.args.at + length c.in_ok-to_vec.field-0.items ≤ length c.self.inside.bytes.items = omega (arith, ap (λ (z : List ℕ). length z) same) in
    let pushed = c.in_ok-push.ensures.items in
    holds_write c.self.inside.bytes.items _ c.self.inside.base.items _ c.self.inside.unflushed.items _ p c.self.invariant pushed (ap image_of whole ∙ image) (grind (arith, common_steps)) fits
