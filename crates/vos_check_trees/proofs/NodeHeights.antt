-- Heights that are read.
use Rattle.std.proofs.Common.{◌≡◌, ◌≢◌, ℕ, ◌+◌, ◌*◌, ◌==◌, ◌&&◌, not, Bool, false, refl, sym, ap, ◌∙◌, arith}
use Rattle.std.proofs.lemmas.Bool.{ne_eqb}
use Rattle.base_outside.specs.Images.{Image}
use Rattle.pmem_pages.specs.declared.node.Links.{Links}
use Rattle.pmem_pages.specs.declared.node.Node.{Node}
use Rattle.pmem_pages.specs.Node.{links_of}
use Rattle.vos_check_base.specs.vos_image.Content.{Content, block}
use Rattle.vos_check_base.specs.vos_image.Trees.{is_height, stored_height}
use Rattle.vos_check_base.specs.declared.ground.Ground.{Ground}
use Rattle.vos_check_base.specs.Answers.{content}
use Rattle.vos_check_base.proofs.Steps.{byte_of}

pub height_there : (c : Content) (b h : ℕ) → b ≢ 0 → h ≡ c.bytes (256 * b + 1) → h ≡ stored_height c b
unfolding block
height_there c b h some e =
    let t : (b == 0) ≡ false = ne_eqb b 0 some in
    rw t (e ∙ sym (byte_of c.bytes 256 (256 * b) 1 (omega arith)))

pub height_none : (c : Content) (b : ℕ) → b ≡ 0 → 0 ≡ stored_height c b
height_none c b none = rw none refl

pub heights_are : (most h l r l' r' : ℕ) (t : Bool) → most ≢ 0 → l ≡ l' → r ≡ r' → t ≡ is_height h l r → t ≡ (not (most == 0) && is_height h l' r')
heights_are most h l r l' r' t some p q e =
    let z : (most == 0) ≡ false = ne_eqb most 0 some in
    rw (z, ← p, ← q) e

-- the test by what was found is that by the node
abbrev pub fits_height : Content → ℕ → Links → Bool
fits_height c most k = not (most == 0) && is_height k.height (stored_height c k.left) (stored_height c k.right)

pub height_of_node : (g : Ground) (f f' : Image) (most : ℕ) (k : Links) (n : Node) (t : Bool) → f' ≡ f → k ≡ links_of n → t ≡ fits_height (content g f') most k → fits_height (content g f) most (links_of n) ≡ t
height_of_node g f f' most k n t p e h = sym (h ∙ (ap (λ (i : Image). fits_height (content g i) most k) p ∙ ap (fits_height (content g f) most) e))
