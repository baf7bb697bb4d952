-- Versions by the moments at which they were written.
use Rattle.std.specs.Prelude.{◌≡◌, ◌==◌, ◌&&◌, ◌||◌, Bool, true, nat_lt, List, [], ◌∷◌}
use Rattle.vos_values.specs.declared.keys.Moment.{Moment}

abbrev pub same_moment : Moment → Moment → Bool
same_moment a b = (a.epoch.0 == b.epoch.0) && (a.minor == b.minor)

-- by epoch, and then by number
abbrev pub is_earlier : Moment → Moment → Bool
is_earlier a b = nat_lt a.epoch.0 b.epoch.0 || ((a.epoch.0 == b.epoch.0) && nat_lt a.minor b.minor)

-- things stand in the order of their moments, of which no two are the same
abbrev pub AllLater : {A : Type 0} → (A → Moment) → Moment → List A → Type 0
AllLater moment m [] = Unit {0}
AllLater moment m (x ∷ xs) = (is_earlier m (moment x) ≡ true) × AllLater moment m xs

abbrev pub Rise : {A : Type 0} → (A → Moment) → List A → Type 0
Rise moment [] = Unit {0}
Rise moment (x ∷ xs) = AllLater moment (moment x) xs × Rise moment xs
