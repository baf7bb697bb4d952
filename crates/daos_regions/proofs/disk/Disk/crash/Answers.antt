use Rattle.std.proofs.Common.{◌≡◌, ◌∙◌, ◌++◌, ◌∷◌, [], ap, sym, arith, subst, List, ℕ, take, drop, length}
use Rattle.std.proofs.lemmas.Grind.{common_steps}
use Rattle.base_outside.specs.Images.{all_over, image_of}
use Rattle.daos_regions.specs.declared.piece.Piece.{Piece}
use Rattle.daos_regions.specs.declared.piece.Stretch.{Stretch}
use Rattle.daos_regions.specs.Periods.{HoldsDisk, kept_from, periods_of, ranges_of}
use Rattle.daos_regions.proofs.Holding.{holds_crash}
use Rattle.daos_regions.proofs.disk.Disk.crash.Goals as goal

pub invariant_of-self-2 : goal.invariant_of-self-2
invariant_of-self-2 c =
    let s : Stretch = record { writes = c.replace-writes.result; keep = c.args.keep } in
    let writes : c.replace-writes.result.items ≡ c.self.inside.unflushed.items = ap (λ v. v.items) c.replace-writes.ensures.value in
    let none : c.replace-writes.new.dest.items ≡ [] = ap (λ v. v.items) c.replace-writes.ensures.after ∙ c.new.ensures.items in
    let pushed : c.push.new.self.items ≡ c.self.inside.past.items ++ s ∷ [] = grind (arith, common_steps) in
    let whole : take c.self.inside.base.len (c.settle.new.base ++ drop (length c.settle.new.base) c.self.inside.base.items) ≡ c.settle.new.base = grind (arith, common_steps) in
    let before : HoldsDisk c.self.inside.bytes.items c.self.inside.base.items (periods_of c.self.inside.past.items) (ranges_of c.replace-writes.result.items) = subst (λ (z : List Piece). HoldsDisk c.self.inside.bytes.items c.self.inside.base.items (periods_of c.self.inside.past.items) (ranges_of z)) (sym writes) c.self.invariant in
    let image : image_of c.settle.new.base ≡ all_over (kept_from c.args.keep 0 (ranges_of c.replace-writes.result.items)) (image_of c.self.inside.base.items) = c.settle.ensures ∙ (ap (λ (z : List Piece). all_over (kept_from c.args.keep 0 (ranges_of z)) (image_of c.deref_mut.result.now)) (c.deref.ensures.value ∙ sym writes) ∙ ap (λ (z : List ℕ). all_over (kept_from c.args.keep 0 (ranges_of c.replace-writes.result.items)) (image_of z)) c.deref_mut.ensures.value) in
    let same = c.copy_from_slice.ensures.items ∙ c.deref-2.ensures.value in
    holds_crash c.self.inside.bytes.items c.self.inside.base.items _ _ c.self.inside.past.items _ s _ before (ap image_of whole ∙ image) same pushed none
