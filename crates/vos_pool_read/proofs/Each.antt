-- Versions that objects can have, each of some.
use Rattle.std.proofs.Common.{◌≡◌, ◌⊎◌, ℕ, ◌<◌, ◌&&◌, ◌||◌, Bool, true, false, List, [], ◌∷◌, Option, Some, None, get_or, length, Decides, refl, inl, inr}
use Rattle.std.specs.Prelude.{All, is_none, is_some}
use Rattle.std.specs.List.{list_all}
use Rattle.std.proofs.lemmas.List.Elements.{All-cons, All-head, All-nil, All-tail}
use Rattle.base_types.specs.declared.id.ObjId.{ObjId}
use Rattle.base_types.specs.declared.operation.Write.{Write}
use Rattle.base_types.specs.declared.operation.Write.TheVariants as write
use Rattle.base_types.specs.declared.path.Path.{Path}
use Rattle.base_types.specs.Operations.{write_path}
use Rattle.base_types.specs.Paths.{record_size}
use Rattle.daos_model.specs.BoolLaws.{and_left, clash}
use Rattle.daos_model.specs.declared.durable.Version.{Version}
use Rattle.daos_model.specs.Durables.{is_version_in_form}
use Rattle.daos_model.specs.Forms.{ends_at_akey, ends_at_dkey, ends_at_object, fits_records, is_length, is_write_in_form}
use Rattle.model_laws.specs.Lists.{item-holds}
use Rattle.vos_pool_read.specs.Sound.{HasKeys, IsSound}
use Rattle.vos_turns.specs.vos_settle.declared.task.WriteKind.TheVariants as kind
use Rattle.vos_turns.specs.vos_settle.Names.{kind_of}
use Rattle.vos_turns.specs.vos_settle.Versions.{fits_kind}
use Rattle.vos_turns.specs.Turns.{CanBeNamed}

-- ---- one version

-- a write in form has a path that fits its kind
path_fits : (p : Path) → (ends_at_object p ≡ true) ⊎ ((ends_at_dkey p ≡ true) ⊎ (ends_at_akey p ≡ true)) → fits_kind kind.Punch p ≡ true
path_fits p h = by p.obj p.dkey p.akey h
  where
    by : (o : Option ObjId) (d a : Option (List ℕ)) → ((is_some o && is_none d && is_none a) ≡ true) ⊎ (((is_some o && is_some d && is_none a) ≡ true) ⊎ ((is_some o && is_some d && is_some a) ≡ true))
        → (((is_none d || is_some o) && (is_none a || is_some d)) && is_some o) ≡ true
    by None d a h = elim h [ inl e ↦ absurd (cc) | inr e ↦ elim e [ inl f ↦ absurd (cc) | inr f ↦ absurd (cc) ] ]
    by (Some o) (Some d) (Some a) h = refl
    by (Some o) (Some d) None h = refl
    by (Some o) None None h = refl
    by (Some o) None (Some a) h = elim h [ inl e ↦ absurd (cc) | inr e ↦ elim e [ inl f ↦ absurd (cc) | inr f ↦ absurd (cc) ] ]

write_fits : (w : Write) → is_write_in_form w ≡ true → fits_kind (kind_of w) (write_path w) ≡ true
unfolding is_write_in_form
write_fits (write.Single p bytes) h = and_left (ends_at_akey p) (is_length (length bytes)) h
write_fits (write.Extent p low bytes) h = and_left (ends_at_akey p) (is_length (length bytes)) (and_left (ends_at_akey p && is_length (length bytes)) (fits_records (record_size p) low (length bytes)) h)
write_fits (write.PunchObject p) h = path_fits p (inl h)
write_fits (write.PunchDkey p) h = path_fits p (inr (inl h))
write_fits (write.PunchAkey p) h = path_fits p (inr (inr h))

pub sound : (v : Version) → HasKeys v → is_write_in_form v.write ≡ true → IsSound v
sound v k form = record { named = record { minor = k.minor; fits = write_fits v.write form; size = k.size; names = k.names }; form = form }

pub sound_keys : (v : Version) → IsSound v → HasKeys v
sound_keys v s = record { minor = s.named.minor; size = s.named.size; names = s.named.names }

-- ---- each of some

pub holds : {P : Type 0} → P → Decides true P
holds p = (λ e. p, λ q. refl)

pub fails : {P : Type 0} → (P → ⊥) → Decides false P
fails bad = (λ e. let n : ⊥ = cc in absurd n, λ p. absurd (bad p))

pub not_each : (vs : List Version) (i : ℕ) (v : Version) (found : Bool) → Decides found (IsSound v) → found ≡ false → i < length vs → v ≡ get_or vs i v → All IsSound vs → ⊥
not_each vs i v found same bad lt is all = clash found (same.1 (item-holds IsSound vs i v all lt is)) bad

-- each can be named, and all are in form
pub each_named : (vs : List Version) → All IsSound vs → All CanBeNamed vs
each_named [] all = All-nil CanBeNamed
each_named (v ∷ vs) all = All-cons CanBeNamed v vs (All-head IsSound v vs all).named (each_named vs (All-tail IsSound v vs all))

pub all_in_form : (vs : List Version) → All IsSound vs → list_all is_version_in_form vs ≡ true
all_in_form [] all = refl
all_in_form (v ∷ vs) all = let first = (All-head IsSound v vs all).form in let rest = all_in_form vs (All-tail IsSound v vs all) in rw (first, rest) refl
