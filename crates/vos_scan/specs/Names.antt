-- The dkeys that updates make under a path.
use Rattle.std.specs.Prelude.{ℕ, Bool, ◌&&◌, List, [], ◌∷◌, Option, None, if◌then◌else◌}
use Rattle.base_types.specs.declared.operation.Write.{Write}
use Rattle.base_types.specs.declared.operation.Write.TheVariants.{Single, Extent, PunchObject, PunchDkey, PunchAkey}
use Rattle.base_types.specs.declared.path.Path.{Path}
use Rattle.daos_model.specs.declared.durable.Version.{Version}
use Rattle.daos_model.specs.Answers.{dkey_under, option_among}
use Rattle.daos_model.specs.Ordered.{is_rising}
use Rattle.daos_model.specs.Prunes.{is_punch}
use Rattle.daos_model.specs.Versions.{sees}
use Rattle.vos_scan.specs.Marks.{mark_at}

-- the dkey that a write makes under a path, if it is an update
abbrev pub dkey_in : Path → Write → Option (List ℕ)
dkey_in p (Single q bytes) = dkey_under p (mark_at q)
dkey_in p (Extent q low bytes) = dkey_under p (mark_at q)
dkey_in p (PunchObject q) = None
dkey_in p (PunchDkey q) = None
dkey_in p (PunchAkey q) = None

-- that of a version that is seen below an epoch
abbrev pub dkey_by : Path → ℕ → Version → Option (List ℕ)
dkey_by p e v = if sees e v then dkey_in p v.write else None

-- a punch that is seen below an epoch
abbrev pub is_seen_punch : ℕ → Version → Bool
is_seen_punch e v = sees e v && is_punch v.write

-- the dkeys of versions put among names, one after another
abbrev pub names_from : Path → ℕ → List Version → List (List ℕ) → List (List ℕ)
names_from p e [] ns = ns
names_from p e (v ∷ vs) ns = names_from p e vs (option_among (dkey_by p e v) ns)

-- a name's place among others goes by its bytes
abbrev pub name_key : List ℕ → List ℕ
name_key n = n

-- names stand in byte order, none of them twice
abbrev pub are_in_order : List (List ℕ) → Bool
are_in_order ns = is_rising name_key ns
