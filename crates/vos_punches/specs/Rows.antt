-- How the punches are kept: rows of paths in buckets, which are found by the paths' numbers.
use Rattle.std.specs.Prelude.{nat_eq, Bool, List, [], ◌∷◌, Option, Some, None, if◌then◌else◌}
use Rattle.std.specs.HashMap.{get}
use Rattle.base_types.specs.declared.path.Path.{Path}
use Rattle.base_types.specs.Paths.{same_path}
use Rattle.vos_levels.specs.vos_values.declared.keys.Moment.{Moment}
use Rattle.vos_punches.specs.declared.bucket.Bucket.{Bucket}
use Rattle.vos_punches.specs.declared.bucket.Row.{Row}
use Rattle.vos_punches.specs.declared.punches.Punches.{Punches}
use Rattle.base_types.specs.Tags.{tag}

abbrev pub is_row_of : Path → Row → Bool
is_row_of p r = same_path r.path p

-- the moments of a path in some rows: those of its first row
abbrev pub in_rows : List Row → Path → List Moment
in_rows [] p = []
in_rows (r ∷ rs) p = if is_row_of p r then r.moments else in_rows rs p

abbrev pub in_bucket : Bucket → Path → List Moment
in_bucket b p = in_rows b.rows.items p

abbrev pub in_found : Option Bucket → Path → List Moment
in_found None p = []
in_found (Some b) p = in_bucket b p

-- for each path the moments of its punches, in order
unfoldable pub moments_at : Punches → Path → List Moment
moments_at ps p = in_found (get nat_eq ps.buckets (tag p)) p
