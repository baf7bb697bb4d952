use Rattle.std.proofs.Common.{◌≡◌, ◌∙◌, ◌-◌, ap, length, List, ℕ, rules}
use Rattle.base_outside.specs.Images.{Range}
use Rattle.pmem_undo.specs.Layout.{most_bytes, total_bytes}
use Rattle.pmem_undo.specs.Undo.{UndoState}
use Rattle.pmem_undo.proofs.Undoing.{left_told}
use Rattle.pmem_undo.proofs.undo_region.UndoRegion.left.Goals as goal

pub returns-clause-bytes : goal.returns-clause-bytes
returns-clause-bytes g c =
    let long : c.len-2.result ≡ length c.self.inside.staged.items = search rules in
    let told = left_told _ c.self.inside.staged.items c.self.inside.spans.items _ _ _ c.self.invariant.0 in
    let staged = ap (λ (u : UndoState _). u.staged) c.self.view_is in
    c.left_beside.ensures.bytes ∙ (ap (λ (n : ℕ). most_bytes - n) long ∙ (told.1 ∙ ap (λ (rs : List Range). most_bytes - total_bytes rs) staged))
