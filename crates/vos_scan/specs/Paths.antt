-- Paths whose objects have other numbers.
use Rattle.std.specs.Prelude.{Bool, false, ◌==◌, not, Option, Some, None}
use Rattle.base_types.specs.declared.id.ObjId.{ObjId}
use Rattle.base_types.specs.declared.path.Path.{Path}

abbrev pub numbers_differ : Option ObjId → Option ObjId → Bool
numbers_differ None o = false
numbers_differ (Some a) None = false
numbers_differ (Some a) (Some b) = not (a.number == b.number)

-- two paths name objects, and those have other numbers
abbrev pub are_apart : Path → Path → Bool
are_apart p q = numbers_differ p.obj q.obj
