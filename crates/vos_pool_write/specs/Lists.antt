-- Lists to which several come, one after another, and lists in the order of a key.
use Rattle.std.specs.Prelude.{◌≡◌, ◌≢◌, ℕ, List, [], ◌∷◌, All}
use Rattle.base_types.specs.declared.entry.Entry.{Entry}
use Rattle.daos_model.specs.declared.durable.Version.{Version}
use Rattle.daos_model.specs.Durables.{entry_key, version_key}
use Rattle.daos_model.specs.Ordered.{in_order, put, puts}
use Rattle.vos_levels.specs.Levels.{HasMore}

-- these came into a list, the first of them first, each somewhere
abbrev pub HaveMore : {A : Type 0} → List A → List A → List A → Type 0
HaveMore [] xs ys = ys ≡ xs
HaveMore {A} (v ∷ vs) xs ys = (zs : List A) × (HasMore v xs zs × HaveMore vs zs ys)

-- no two of these have the same key, and none the key of one in the list
abbrev pub AreNew : {A : Type 0} → (A → List ℕ) → List A → List A → Type 0
AreNew key [] xs = Unit {0}
AreNew key (v ∷ vs) xs = All (λ x. key x ≢ key v) xs × (All (λ u. key u ≢ key v) vs × AreNew key vs xs)

-- an entry that comes is put in order among those in order, and so are several versions
abbrev pub EntriesComeInOrder : Type 0
EntriesComeInOrder = (e : Entry) (xs ys : List Entry) → HasMore e xs ys → All (λ x. entry_key x ≢ entry_key e) xs → in_order entry_key ys ≡ put entry_key e (in_order entry_key xs)

abbrev pub VersionsComeInOrder : Type 0
VersionsComeInOrder = (vs xs ys : List Version) → HaveMore vs xs ys → AreNew version_key vs xs → in_order version_key ys ≡ puts version_key vs (in_order version_key xs)
