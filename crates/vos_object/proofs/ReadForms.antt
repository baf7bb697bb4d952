-- What the form of a read says of it.
use Rattle.std.proofs.Common.{◌≡◌, ℕ, ◌+◌, ◌*◌, ◌<◌, ◌^◌, nat_lt, not, Bool, true, false, Option, Some, None, refl, sym, ap, ◌∙◌, arith}
use Rattle.std.specs.Prelude.{if◌then◌else◌, is_none, is_some}
use Rattle.std.proofs.lemmas.Bool.Decides.{nat_tests}
use Rattle.base_types.specs.Paths.{record_size}
use Rattle.base_types.specs.declared.operation.Read.{Read}
use Rattle.base_types.specs.declared.operation.Read.TheVariants as read
use Rattle.base_types.specs.declared.path.Path.{Path}
use Rattle.daos_model.specs.BoolLaws.{and_left, and_right}
use Rattle.daos_model.specs.Forms.{ends_at_akey, ends_at_dkey, ends_at_object, is_length, is_path_in_form, is_read_in_form, is_unit}
use Rattle.vos_object.specs.Updates.{listing}

below_true : (a b : ℕ) → nat_lt a b ≡ true → a < b
below_true a b h = grind (arith, nat_tests)

pub single_ends : (r : Read) (p : Path) → r ≡ read.Single p → is_read_in_form r ≡ true → ends_at_akey p ≡ true
unfolding is_read_in_form
single_ends r p e h = sym (ap is_read_in_form e) ∙ h

pub extent_ends : (r : Read) (p : Path) (low len : ℕ) → r ≡ read.Extent p low len → is_read_in_form r ≡ true → ends_at_akey p ≡ true
unfolding is_read_in_form
extent_ends r p low len e h = and_left (ends_at_akey p) (is_length (len * record_size p)) (and_left _ _ (sym (ap is_read_in_form e) ∙ h))

pub extent_fits : (r : Read) (p : Path) (low len : ℕ) → r ≡ read.Extent p low len → is_read_in_form r ≡ true → low + len < 2 ^ 32
unfolding is_read_in_form
extent_fits r p low len e h = below_true (low + len) (2 ^ 32) (and_right (is_unit (record_size p)) (nat_lt (low + len) (2 ^ 32)) (and_right _ _ (sym (ap is_read_in_form e) ∙ h)))

pub exists_form : (r : Read) (p : Path) → r ≡ read.Exists p → is_read_in_form r ≡ true → is_path_in_form p ≡ true
unfolding is_read_in_form
exists_form r p e h = sym (ap is_read_in_form e) ∙ h

pub dkeys_end : (p : Path) → is_none p.dkey ≡ true → is_read_in_form (listing p) ≡ true → ends_at_object p ≡ true
unfolding is_read_in_form
dkeys_end p e h = sym (ap (λ (b : Bool). is_read_in_form (if b then read.Dkeys p else read.Akeys p)) e) ∙ h

pub akeys_end : (p : Path) → is_none p.dkey ≡ false → is_read_in_form (listing p) ≡ true → ends_at_dkey p ≡ true
unfolding is_read_in_form
akeys_end p e h = sym (ap (λ (b : Bool). is_read_in_form (if b then read.Dkeys p else read.Akeys p)) e) ∙ h

pub none_is : {A : Type 0} (x : Option A) (r : Bool) → is_some x ≡ not r → is_none x ≡ r
none_is None true h = refl
none_is None false h = absurd (let n : ⊥ = cc in n)
none_is (Some a) true h = absurd (let n : ⊥ = cc in n)
none_is (Some a) false h = refl
