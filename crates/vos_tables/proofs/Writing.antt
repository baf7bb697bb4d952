-- Ranges of changes, written one after another over an image.
use Rattle.std.proofs.Common.{◌≡◌, ℕ, ◌+◌, ◌≤◌, [], ◌∷◌, length, refl, arith}
use Rattle.std.proofs.lemmas.Bool.Decides.{nat_tests}
use Rattle.base_outside.specs.ImageLaws.{over_outside}
use Rattle.base_outside.specs.Images.{Image, Range, over}
use Rattle.base_types.specs.declared.snapshot.Snap.{Snap}
use Rattle.daos_model.specs.declared.durable.ContRow.{ContRow}
use Rattle.vos_places.specs.Codec.{cont_bytes, snap_bytes}
use Rattle.vos_places.specs.Laws.{BeyondStays, ContsAreWritten, IsRightBeyond, Keeps, PlacesStay, SnapsAreGivenUp, SnapsAreWritten, cont_range, snap_range, unused_range}
use Rattle.vos_places.specs.Tables.{Table}
use Rattle.vos_tables.specs.declared.change.Change.{Change}
use Rattle.vos_tables.specs.declared.change.Change.TheVariants.{Cont, Snapshot, Unused}
use Rattle.vos_tables.specs.Changes.{Fits, changed, range_of}
use Rattle.vos_tables.specs.Laws.{ChangesAreWritten}

length_cont : (r : ContRow) → length (cont_bytes r) ≡ 64
unfolding cont_bytes
length_cont r = refl

length_snap : (s : Snap) → length (snap_bytes s) ≡ 32
unfolding snap_bytes
length_snap s = refl

beyond_range : (r : Range) (f : Image) → r.place + length r.bytes ≤ 307200 → (i : ℕ) → 307200 ≤ i → over r f i ≡ f i
beyond_range r f low i high = over_outside r f i (grind (arith, nat_tests))

low_range : (t : Table) (x : Change) → Fits t x → (range_of x).place + length (range_of x).bytes ≤ 307200
low_range t (Cont i r) fits = omega (arith, length_cont r, fits.0)
low_range t (Snapshot i s) fits = omega (arith, length_snap s, fits.0)
low_range t (Unused i) fits = omega (arith, fits.0)

one_written : ContsAreWritten → SnapsAreWritten → SnapsAreGivenUp → BeyondStays → (target size : ℕ) (f : Image) (t : Table) (x : Change) → Keeps target size f t → Fits t x → Keeps target size (over (range_of x) f) (changed x t)
one_written conts snaps unused beyond target size f t (Cont i r) k fits =
    conts target size f (over (cont_range i r) f) t i r k fits.0 fits.1 fits.2 (λ j l. refl) (beyond target size f (over (cont_range i r) f) t k (beyond_range (cont_range i r) f (low_range t (Cont i r) fits)))
one_written conts snaps unused beyond target size f t (Snapshot i s) k fits =
    snaps target size f (over (snap_range i s) f) t i s k fits.0 fits.1 fits.2 (λ j l. refl) (beyond target size f (over (snap_range i s) f) t k (beyond_range (snap_range i s) f (low_range t (Snapshot i s) fits)))
one_written conts snaps unused beyond target size f t (Unused i) k fits =
    unused target size f (over (unused_range i) f) t i k fits.0 fits.1 (λ j l. refl) (beyond target size f (over (unused_range i) f) t k (beyond_range (unused_range i) f (low_range t (Unused i) fits)))

same_header : (size : ℕ) (g : Image) (t : Table) (x : Change) → IsRightBeyond size g t.header → IsRightBeyond size g (changed x t).header
same_header size g t (Cont i r) h = h
same_header size g t (Snapshot i s) h = h
same_header size g t (Unused i) h = h

pub changes_written : ContsAreWritten → SnapsAreWritten → SnapsAreGivenUp → PlacesStay → BeyondStays → ChangesAreWritten
changes_written conts snaps unused others beyond target size f g t [] k fits is right = others target size f g t k is right
changes_written conts snaps unused others beyond target size f g t (x ∷ xs) k fits is right =
    changes_written conts snaps unused others beyond target size (over (range_of x) f) g (changed x t) xs
    (one_written conts snaps unused beyond target size f t x k fits.0) fits.1 is (same_header size g t x right)
