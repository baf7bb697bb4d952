-- The paths of dkeys and akeys, by the names on the way.
use Rattle.std.specs.Prelude.{ℕ, List, Some, None}
use Rattle.base_types.specs.declared.path.Path.{Path}

abbrev pub at_dkey : Path → List ℕ → Path
at_dkey p d = record { cont = p.cont; obj = p.obj; dkey = Some d; akey = None }

abbrev pub at_akey : Path → List ℕ → Path
at_akey p a = record { cont = p.cont; obj = p.obj; dkey = p.dkey; akey = Some a }
