-- Where all trees of objects are small, those on a path are.
use Rattle.std.proofs.Common.{◌≡◌, ℕ, List, [], ◌∷◌, Option, Some, None, true, Bool}
use Rattle.std.specs.Prelude.{All}
use Rattle.std.proofs.lemmas.List.Elements.{All-cons, All-head, All-nil, All-tail}
use Rattle.base_types.specs.declared.path.Path.{Path}
use Rattle.vos_values.specs.Keys.{name_key, object_key}
use Rattle.vos_extent.specs.vos_levels.Levels.{Hung, is_level, things}
use Rattle.vos_path.specs.Objects.{Akey, Below, Dkey, Objects, akey_level, dkey_level, object_level}
use Rattle.vos_path.specs.Small.{AkeysOnPathAreSmall, BelowDkeyOnPathIsSmall, BelowObjectOnPathIsSmall, DkeysOnPathAreSmall, PathIsSmall}
use Rattle.vos_path.specs.Writes.{AkeyIsSmall, AkeysAreSmall, BelowDkeyIsSmall, BelowObjectIsSmall, DkeyIsSmall, DkeysAreSmall, ObjectIsSmall, ObjectsAreSmall}

all_passing : {A : Type 0} (P Q : A → Type 0) (test : A → Bool) → ((a : A) → P a → Q a) → (xs : List A) → All P xs → All (λ a. test a ≡ true → Q a) xs
all_passing P Q test f [] h = All-nil _
all_passing P Q test f (x ∷ xs) h = All-cons (λ a. test a ≡ true → Q a) x xs (λ t. f x (All-head P x xs h)) (all_passing P Q test f xs (All-tail P x xs h))

akeys_small : (d : ℕ) (akey : Option (List ℕ)) (g : Hung Akey) → AkeysAreSmall d g → AkeysOnPathAreSmall d akey g
akeys_small d None g h = tt
akeys_small d (Some name) g h = (h.0, all_passing (AkeyIsSmall d) (AkeyIsSmall d) (is_level akey_level (name_key name)) (λ a s. s) (things g) h.1)

below_dkey_small : (d : ℕ) (akey : Option (List ℕ)) (b : Below Akey) → BelowDkeyIsSmall d b → BelowDkeyOnPathIsSmall d akey b
below_dkey_small d akey b h = (h.0, akeys_small d akey b.1 h.1)

dkeys_small : (d : ℕ) (dkey akey : Option (List ℕ)) (g : Hung Dkey) → DkeysAreSmall d g → DkeysOnPathAreSmall d dkey akey g
dkeys_small d None akey g h = tt
dkeys_small d (Some name) akey g h = (h.0, all_passing (DkeyIsSmall d) (λ k. BelowDkeyOnPathIsSmall d akey k.holds) (is_level dkey_level (name_key name)) (λ k s. below_dkey_small d akey k.holds s) (things g) h.1)

below_object_small : (d : ℕ) (dkey akey : Option (List ℕ)) (b : Below Dkey) → BelowObjectIsSmall d b → BelowObjectOnPathIsSmall d dkey akey b
below_object_small d dkey akey b h = (h.0, dkeys_small d dkey akey b.1 h.1)

-- all paths are small
pub path_small : (d : ℕ) (p : Path) (g : Objects) → ObjectsAreSmall d g → PathIsSmall d p g
path_small d p g h name at = (h.0, all_passing (ObjectIsSmall d) (λ o. BelowObjectOnPathIsSmall d p.dkey p.akey o.holds) (is_level object_level (object_key name)) (λ o s. below_object_small d p.dkey p.akey o.holds s) (things g) h.1)
