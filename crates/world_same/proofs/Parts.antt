-- What is made of parts is the same exactly where the parts are.
use Rattle.std.proofs.Common.{◌≡◌, Bool, sym, ◌∙◌}
use Rattle.std.specs.Bool.{Decides}
use Rattle.std.proofs.lemmas.Bool.Decides.{Decides-like}

pub by_parts : {B P : Type 0} (x y a b : B) → x ≡ a → y ≡ b → (P → a ≡ b) → (a ≡ b → P) → (r : Bool) → Decides r P → Decides r (x ≡ y)
by_parts x y a b at_x at_y made apart r same =
    Decides-like r (λ e. at_x ∙ made e ∙ sym at_y) (λ e. apart (sym at_x ∙ e ∙ at_y)) same
