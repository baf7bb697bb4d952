-- What stands after changes of fixed places.
use Rattle.std.specs.Prelude.{◌≡◌, ℕ, List, [], ◌∷◌, refl}
use Rattle.std.proofs.Common.{◌∙◌}
use Rattle.base_outside.specs.Images.{Image, all_over, over}
use Rattle.vos_standing.specs.vos_image.Kept.{Stored}
use Rattle.vos_standing.specs.vos_places.Tables.{Table}
use Rattle.vos_pool_base.specs.Pool.{ranges_of}
use Rattle.vos_standing.specs.Standing.{Stand}
use Rattle.vos_standing.proofs.Standing.{stands_after_conts, stands_after_snaps, stands_without_snaps}
use Rattle.vos_tables.specs.declared.change.Change.{Change}
use Rattle.vos_tables.specs.declared.change.Change.TheVariants.{Cont, Snapshot, Unused}
use Rattle.vos_tables.specs.Changes.{AllFit, Fits, all_changed, changed, range_of}

change_stands : (target size : ℕ) (f : Image) (t : Table) (x : Stored) (c : Change) → Fits t c → Stand target size f t x → Stand target size (over (range_of c) f) (changed c t) x
change_stands target size f t x (Cont i r) fit s = stands_after_conts target size f t x i r s fit.0 fit.1 fit.2
change_stands target size f t x (Snapshot i n) fit s = stands_after_snaps target size f t x i n s fit.0 fit.1 fit.2
change_stands target size f t x (Unused i) fit s = stands_without_snaps target size f t x i s fit.0 fit.1

-- after all of them
pub changes_stand : (target size : ℕ) (f : Image) (t : Table) (x : Stored) (cs : List Change) → AllFit t cs → Stand target size f t x → Stand target size (all_over (ranges_of cs) f) (all_changed cs t) x
changes_stand target size f t x [] fit s = s
changes_stand target size f t x (c ∷ cs) fit s = changes_stand target size (over (range_of c) f) (changed c t) x cs fit.1 (change_stands target size f t x c fit.0 s)

-- what an image says of itself stays
header_stays : (c : Change) (t : Table) → (changed c t).header ≡ t.header
header_stays (Cont i r) t = refl
header_stays (Snapshot i s) t = refl
header_stays (Unused i) t = refl

pub headers_stay : (cs : List Change) (t : Table) → (all_changed cs t).header ≡ t.header
headers_stay [] t = refl
headers_stay (c ∷ cs) t = headers_stay cs (changed c t) ∙ header_stays c t
