-- The content of a region, and what reads make of it.
use Rattle.std.specs.Prelude.{◌≡◌, ◌⊎◌, ℕ, Bool, ◌+◌, ◌<◌, ◌&&◌, nat_le, nat_lt, cond, IsTrue, List, length, slice_index}
use Rattle.std.proofs.Common.{refl, ◌∙◌, arith, inl, inr}
use Rattle.base_outside.specs.Images.{Image, LeavesOnly}
use Rattle.pmem_undo.specs.Settled.{OnlyLooks}
use Rattle.pmem_undo.specs.Undo.{UndoState}
use Rattle.vos_check_base.specs.Health.{Health}
use Rattle.vos_commits.specs.Kept.{content_of}

-- the content of an image of a region of so many bytes: places past its end count as zero
unfoldable pub region_content : ℕ → Image → Image
region_content size f i = cond (nat_lt i size) (content_of f i) 0

-- bytes from a place on, of which those in a piece were read
abbrev pub IsPieceRead : Image → ℕ → ℕ → ℕ → List ℕ → List ℕ → Type 0
IsPieceRead f at low high before after = (i : ℕ) → i < length before → slice_index after i ≡ cond (nat_le low (at + i) && nat_lt (at + i) high) (f (at + i)) (slice_index before i)

abbrev pub health_of : {R : Type 0} → (R → ℕ) → (R → ℕ) → UndoState R → Health
health_of count burns u = record { stopped = u.stopped; faults = count u.region; burns = burns u.region }

-- reads alone were made: the size and what is staged stay, and where the region tells its bytes so do these, and no more may be left
pub record IsLooked {R : Type 0} (tells : Bool) (extent : R → ℕ) (image : R → Image) (may_leave : R → Image → Type 0) (moment : R → ℕ) (left_since : R → ℕ → Image → Type 0) (u v : UndoState R) : Type 0 where
  pub size : extent v.region ≡ extent u.region
  pub staged : v.staged ≡ u.staged
  pub only : IsTrue tells → OnlyLooks (image u.region) (image v.region) (may_leave u.region) (may_leave v.region) (moment u.region) (moment v.region) (left_since u.region) (left_since v.region)

abbrev pub looked_of : {R : Type 0} → Bool → (R → ℕ) → (R → Image) → (R → Image → Type 0) → (R → ℕ) → (R → ℕ → Image → Type 0) → UndoState R → UndoState R → Type 0
looked_of tells extent image may_leave moment left_since u v = IsLooked tells extent image may_leave moment left_since u v

leaves_none : (t : ℕ) (s : ℕ → Image → Type 0) (P : Image → Type 0) → LeavesOnly t t s s P
leaves_none t s P = record { later = omega arith; each = λ k c low past. inl past }

only_none : (f : Image) (m : Image → Type 0) (t : ℕ) (s : ℕ → Image → Type 0) → OnlyLooks f f m m t t s s
only_none f m t s = record { image = refl; crash = λ c h. h; time = leaves_none t s m }

after_both : {P Q S U : Type 0} → (P ⊎ Q) → (P → S ⊎ U) → (Q → U) → S ⊎ U
after_both (inl p) f g = f p
after_both (inr q) f g = inr (g q)

only_on : (f g h : Image) (m n o : Image → Type 0) (t0 t1 t2 : ℕ) (s0 s1 s2 : ℕ → Image → Type 0) → OnlyLooks f g m n t0 t1 s0 s1 → OnlyLooks g h n o t1 t2 s1 s2 → OnlyLooks f h m o t0 t2 s0 s2
only_on f g h m n o t0 t1 t2 s0 s1 s2 a b = record {
  image = b.image ∙ a.image;
  crash = λ c now. a.crash c (b.crash c now);
  time = record {
    later = omega (arith, a.time.later, b.time.later);
    each = λ t c low past. after_both (b.time.each t c (omega (arith, a.time.later, low)) past) (λ since. a.time.each t c low since) (λ left. a.crash c left);
  };
}

pub looks_none : {R : Type 0} (tells : Bool) (extent : R → ℕ) (image : R → Image) (may_leave : R → Image → Type 0) (moment : R → ℕ) (left_since : R → ℕ → Image → Type 0) (u : UndoState R) → IsLooked tells extent image may_leave moment left_since u u
looks_none tells extent image may_leave moment left_since u = record { size = refl; staged = refl; only = λ told. only_none (image u.region) (may_leave u.region) (moment u.region) (left_since u.region) }

pub looks_on : {R : Type 0} (tells : Bool) (extent : R → ℕ) (image : R → Image) (may_leave : R → Image → Type 0) (moment : R → ℕ) (left_since : R → ℕ → Image → Type 0) (u v w : UndoState R)
    → IsLooked tells extent image may_leave moment left_since u v → IsLooked tells extent image may_leave moment left_since v w → IsLooked tells extent image may_leave moment left_since u w
looks_on tells extent image may_leave moment left_since u v w a b = record { size = b.size ∙ a.size; staged = b.staged ∙ a.staged; only = λ told. only_on _ _ _ _ _ _ _ _ _ _ _ _ (a.only told) (b.only told) }
