use Rattle.std.proofs.Common.{◌≡◌, ◌∙◌, ◌+◌, ◌++◌, List, ℕ, length, take, drop, ap, arith}
use Rattle.std.proofs.lemmas.Grind.{common_steps}
use Rattle.base_outside.specs.Images.{image_of}
use Rattle.base_outside.specs.ImageLaws.{image_written, tears_at_once}
use Rattle.base_outside.proofs.sure_region.SureRegionRegion.write.Goals as goal

pub returns-clause-told : goal.returns-clause-told
returns-clause-told c =
    let all : take c.self.inside.bytes.len (c.put.new.all ++ drop (length c.put.new.all) c.self.inside.bytes.items) ≡ take c.args.at c.args.self.now ++ c.args.bytes.now ++ drop (c.args.at + length c.args.bytes.now) c.args.self.now = grind (arith, common_steps) in
    ap (λ (xs : List ℕ). image_of xs) all ∙ image_written c.args.self.now c.args.bytes.now c.args.at c.requires

pub returns-clause-crash : goal.returns-clause-crash
returns-clause-crash c = tears_at_once (record { place = c.args.at; bytes = c.args.bytes.now }) (image_of c.args.self.now) _ (returns-clause-told c)
