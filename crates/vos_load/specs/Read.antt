-- Versions that are read into memory.
use Rattle.std.specs.Prelude.{◌≡◌, ◌++◌, List}
use Rattle.daos_model.specs.declared.durable.Version.{Version}

-- these came behind others
abbrev pub AreRead : List Version → List Version → List Version → Type 0
AreRead vs before now = now ≡ before ++ vs
