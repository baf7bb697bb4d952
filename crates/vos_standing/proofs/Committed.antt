-- What a commit makes of what stands.
use Rattle.std.proofs.Common.{◌≡◌, ℕ, Bool, true, false, cond, refl, sym, ap, ◌∙◌, subst}
use mathlib.Core.Path.{fun_ext}
use Rattle.base_outside.specs.Images.{Image, all_over}
use Rattle.pmem_undo.specs.Layout.{SameContent, gate, is_content}
use Rattle.pmem_undo.specs.Settled.{settled}
use Rattle.vos_commits.specs.Kept.{content_of as bytes_of, kept_in}
use Rattle.vos_commits.specs.Made.{commit-makes}
use Rattle.vos_places.specs.vos_image.Content.{content_of, shown}
use Rattle.vos_places.specs.vos_image.Fits.{AllFit}
use Rattle.vos_places.specs.vos_image.Kept.{Stored, kept, stored_owner}
use Rattle.pmem_pages.specs.Owners.{Holds}
use Rattle.vos_levels.specs.Levels.{hung_root}
use Rattle.vos_places.specs.Laws.{Keeps}
use Rattle.vos_places.specs.Tables.{Table}
use Rattle.vos_standing.specs.Laws.{ClosedItIsKept, CommitsChange, ContentsStand, SameIsQuiet}
use Rattle.vos_standing.proofs.Standing.{what_stands_is_kept}

same_bytes : (f g : Image) → SameContent g f → bytes_of g ≡ bytes_of f
unfolding bytes_of
same_bytes f g same = fun_ext (λ i. by i (is_content i) (same i))
  where
    by : (i : ℕ) (t : Bool) → (t ≡ true → g i ≡ f i) → cond t (g i) 0 ≡ cond t (f i) 0
    by i true h = h refl
    by i false h = refl

-- what stands in the bytes of a content
record StandIn (target size : ℕ) (bytes : Image) (t : Table) (x : Stored) : Type 0 where
  table : Keeps target size bytes t
  holds : Holds stored_owner (shown (content_of size bytes)) x
  objects : t.header.objects ≡ hung_root x.0
  entries : t.header.entries ≡ hung_root x.1
  fits : AllFit (content_of size bytes) x.0 x.1

pub contents_stand : ContentsStand
contents_stand target size f g t x same s =
    let k = subst (λ (bytes : Image). StandIn target size bytes t x) (sym (same_bytes f g same)) (record { table = s.table; holds = s.holds; objects = s.objects; entries = s.entries; fits = s.fits }) in
    record { table = k.table; holds = k.holds; objects = k.objects; entries = k.entries; fits = k.fits }

kept_closed : (target size : ℕ) (f : Image) → f gate ≡ 0 → kept_in (kept target size) size f ≡ kept target size (bytes_of f)
unfolding kept_in settled
kept_closed target size f closed = rw closed refl

pub closed_it_is_kept : ClosedItIsKept
closed_it_is_kept target size f t x closed s = kept_closed target size f closed ∙ what_stands_is_kept target size f t x s

pub commits_change : CommitsChange
commits_change T E stop change result target size ranges f g old new t u x y k asked before after is =
    commit-makes T E stop change result (kept target size) size ranges f g old new k asked
    (what_stands_is_kept target size (all_over ranges f) u y after ∙ (is ∙ ap change (sym (closed_it_is_kept target size f t x k.rest.closed before))))

pub same_is_quiet : SameIsQuiet
same_is_quiet target size ranges f t u x y closed before after is =
    what_stands_is_kept target size (all_over ranges f) u y after ∙ (is ∙ sym (closed_it_is_kept target size f t x closed before))
