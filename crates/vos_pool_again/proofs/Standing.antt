-- An image in which a pool stands is opened as no other.
use Rattle.std.proofs.Common.{◌≡◌, ℕ, ◌≤◌, refl, sym, ◌∙◌, ap, arith, inl, inr}
use Rattle.std.specs.Prelude.{false, [], Option, Some, None, Result, Ok, Err}
use Rattle.std.proofs.lemmas.Option.{none-some}
use Rattle.base_outside.specs.Images.{Image}
use Rattle.pmem_undo.specs.Settled.{IsAttachable, settled}
use Rattle.vos_check_content.specs.Laws.{WhatStandsIsFound}
use Rattle.vos_check_content.specs.Region.{region_content}
use Rattle.vos_check_region.specs.Blank.{IsBlank}
use Rattle.vos_check_region.specs.Fault.{judged_first, magic_fault, open_fault, raw_fault}
use Rattle.vos_check_region.specs.Laws.{LogsAreJudged}
use Rattle.vos_commits.specs.Kept.{content_of as bytes_of}
use Rattle.vos_pool_again.specs.Again.{reopen_cause}
use Rattle.vos_pool_held.specs.vos_pool_base.vos_image.Content.{Content, content_of}
use Rattle.vos_pool_held.specs.vos_pool_base.vos_image.Kept.{Whole, read_content}
use Rattle.vos_pool_held.specs.vos_pool_base.vos_image.Places.{read_header}
use Rattle.vos_pool_held.specs.vos_pool_base.vos_image.Steps.{◌>>=◌, rule}
use Rattle.vos_pool_held.specs.vos_pool_base.vos_places.Tables.{places_of}
use Rattle.vos_pool_make.proofs.Formatting.{blank_stays}
use Rattle.vos_pool_make.specs.Made.{IsMadeFor, IsRefused}
use Rattle.vos_pool_make.specs.declared.cause.OpenCause.{OpenCause}
use Rattle.vos_pool_make.specs.declared.cause.OpenCause.TheVariants as cause
use Rattle.vos_pool_site.specs.Left.{StandsInSome}
use Rattle.vos_store.specs.Refusals.{reopen_foreign}

-- ---- a blank one isn't a pool's

-- without the first byte of a pool nothing is read
no_magic : (target : ℕ) (c : Content) → c.bytes 0 ≡ 0 → read_header target c [] ≡ Err 0
unfolding read_header ◌>>=◌ rule
no_magic target c zero = rw zero refl

first_byte : (f : Image) → bytes_of f 0 ≡ f 0
unfolding bytes_of
first_byte f = refl

ok-err : {A B : Type 0} (r : Result A B) (a : A) (b : B) → r ≡ Ok a → r ≡ Err b → ⊥
ok-err r a b ok err = absurd (cc (ok, err))

pub unblank : (size target targets few : ℕ) (f : Image) → 323584 ≤ size → StandsInSome size target targets few f → IsBlank size f → ⊥
unblank size target targets few f big s blank =
    let stays : settled size f ≡ f = blank_stays size f big blank in
    let zero : bytes_of (settled size f) 0 ≡ 0 = first_byte (settled size f) ∙ (ap (λ (g : Image). g 0) stays ∙ blank 0 (omega (arith, big))) in
    ok-err (read_header target (content_of size (bytes_of (settled size f))) []) _ 0 s.stands.stands.table.header (no_magic target (content_of size (bytes_of (settled size f))) zero)

-- ---- it isn't refused

-- its log has no fault
judged : (o m : Option ℕ) (at : ℕ) → o ≡ None → judged_first o m ≡ Some at → ⊥
judged None m at none some = none-some at some
judged (Some x) m at none some = absurd (cc none)

no_raw_fault : LogsAreJudged → (size : ℕ) (f : Image) (at : ℕ) → IsAttachable size f → raw_fault size f ≡ Some at → ⊥
unfolding raw_fault
no_raw_fault law size f at attachable fault = judged (open_fault size f) (magic_fault f) at ((law size f).1 attachable) fault

-- what is read of its content is what stands in it
found_there : WhatStandsIsFound → (size target targets few : ℕ) (f : Image) → 323584 ≤ size → (s : StandsInSome size target targets few f)
    → read_content target size (region_content size (settled size f)) ≡ Ok (record { places = places_of s.stands.table; stored = s.stands.stored })
found_there law size target targets few f big s = law target size (settled size f) s.stands.table s.stands.stored big s.stands.stands

made_for : WhatStandsIsFound → (size target targets few found : ℕ) (f : Image) → 323584 ≤ size → StandsInSome size target targets few f → IsMadeFor target size f found → found ≡ targets
made_for law size target targets few found f big s m =
    let same : Ok (record { places = places_of s.stands.table; stored = s.stands.stored }) ≡ Ok m.whole = sym (found_there law size target targets few f big s) ∙ m.read in
    let whole : (record { places = places_of s.stands.table; stored = s.stands.stored }) ≡ m.whole = cc same in
    sym m.targets ∙ (sym (ap (λ (w : Whole). w.places.header.targets) whole) ∙ s.stands.targets_as)

-- no byte is shown of it
pub native : LogsAreJudged → WhatStandsIsFound → (size target targets few : ℕ) (f : Image) (why : OpenCause) → 323584 ≤ size → IsAttachable size f → StandsInSome size target targets few f
    → IsRefused target targets size f why → reopen_foreign (reopen_cause why) ≡ false
native logs finds size target targets few f cause.Stopped big attachable s refused = refl
native logs finds size target targets few f cause.Memory big attachable s refused = refl
native logs finds size target targets few f (cause.Foreign at byte) big attachable s refused = absurd (elim refused.1 [
  | inl raw ↦ no_raw_fault logs size f at attachable raw.0
  | inr fault ↦ ok-err (read_content target size (region_content size (settled size f))) _ at (found_there finds size target targets few f big s) fault.read
])
native logs finds size target targets few f (cause.Shape found asked) big attachable s refused = absurd (refused.1.1.1 (made_for finds size target targets few found f big s refused.1.0))
