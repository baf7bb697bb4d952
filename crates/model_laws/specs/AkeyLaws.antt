-- Cells whose paths don't end at an akey hold nothing, so what a family holds is the whole map as of an epoch.
use Rattle.std.specs.Prelude.{ℕ, ◌≡◌, ◌+◌, Bool, true, false, ◌&&◌, is_some, List, [], ◌∷◌, All, Contains, filter, length, Option, Some, None, if◌then◌else◌, refl}
use Rattle.std.specs.List.{list_all}
use Rattle.std.proofs.Common.{sym, ◌∙◌, ap, subst, inl, inr}
use Rattle.base_types.specs.declared.id.ObjId.{ObjId}
use Rattle.base_types.specs.declared.operation.Write.{Write}
use Rattle.base_types.specs.declared.operation.Write.TheVariants as write
use Rattle.base_types.specs.Operations.{write_path}
use Rattle.base_types.specs.Placement.{group_of, leader_of, members, object_leader, path_leader, path_members}
use Rattle.base_types.specs.PlacementLaws.{leader_of-member}
use Rattle.daos_model.specs.declared.cell.Cell.{Cell}
use Rattle.daos_model.specs.declared.cell.CellValue.{CellValue}
use Rattle.daos_model.specs.declared.durable.Durable.{Durable}
use Rattle.daos_model.specs.declared.durable.Version.{Version}
use Rattle.daos_model.specs.declared.stand.Stand.{Stand}
use Rattle.daos_model.specs.AsOf.{as_of}
use Rattle.daos_model.specs.BoolLaws.{and_left, and_right, clash}
use Rattle.daos_model.specs.Cells.{value_at}
use Rattle.daos_model.specs.Durables.{is_version_in_form}
use Rattle.daos_model.specs.Effect.{effect, effects}
use Rattle.daos_model.specs.Family.{family_map, is_led_by, joined, map_where}
use Rattle.daos_model.specs.ExtentForms.{written-at_akey}
use Rattle.daos_model.specs.Forms.{ends_at_akey, is_length, is_write_in_form}
use Rattle.daos_model.specs.Prunes.{is_punch, touches, values_of}
use Rattle.daos_model.specs.Versions.{writes_in, written_by}
use Rattle.model_laws.specs.Dated.{Dated, after_all}
use Rattle.model_laws.specs.Decided.{Decided, dated_at, taken_in}
use Rattle.model_laws.specs.DecidedLaws.{as_of-dated, has-all, has-from_dated, has-from_ordered, ordered}
use Rattle.model_laws.specs.Matches.{counts_under}
use Rattle.model_laws.specs.Members.{Has, contains-from_has, has-from_contains, has-from_filter, has-from_map}
use Rattle.model_laws.specs.ServeLaws.{all-has}
use Rattle.model_laws.specs.Targets.{FamiliesAreAsOf, HasAkeys, is_own}
use Rattle.model_laws.specs.TargetLaws.{append-none, families-give, has-member, is_led, led-part, own-from_member}
use Rattle.model_laws.specs.TouchLaws.{punch-values, update-path}
use Rattle.model_laws.specs.WriteLaws.{after_write, value-effect}

-- an update in form is at an akey
update-akey : (w : Write) → is_punch w ≡ false → is_write_in_form w ≡ true → ends_at_akey (write_path w) ≡ true
unfolding is_write_in_form
update-akey (write.Single p bytes) e h = and_left (ends_at_akey p) (is_length (length bytes)) h
update-akey (write.Extent p low bytes) e h = written-at_akey p low bytes h
update-akey (write.PunchObject p) e h = absurd (let n : ⊥ = cc in n)
update-akey (write.PunchDkey p) e h = absurd (let n : ⊥ = cc in n)
update-akey (write.PunchAkey p) e h = absurd (let n : ⊥ = cc in n)

-- a write in form leaves nothing where nothing was, at a cell that isn't at an akey
after-elsewhere : (c : Cell) (w : Write) (held : Option (List ℕ)) → is_write_in_form w ≡ true → ends_at_akey c.path ≡ false → held ≡ None → after_write c w held ≡ None
after-elsewhere c w held form apart none = by (touches c w) refl
  where
    of_kind : touches c w ≡ true → (b : Bool) → is_punch w ≡ b → value_at (values_of w) c ≡ None
    of_kind at true k = ap (λ m. value_at m c) (punch-values w k)
    of_kind at false k = clash (ends_at_akey c.path) (subst (λ p. ends_at_akey p ≡ true) (update-path w c k at) (update-akey w k form)) apart

    by : (b : Bool) → touches c w ≡ b → (if b then value_at (values_of w) c else held) ≡ None
    by true at = of_kind at (is_punch w) refl
    by false at = none

effects-elsewhere : (ws : List Write) (m : List CellValue) (c : Cell) → ((w : Write) → Has w ws → is_write_in_form w ≡ true) → ends_at_akey c.path ≡ false → value_at m c ≡ None → value_at (effects ws m) c ≡ None
effects-elsewhere [] m c forms apart none = none
effects-elsewhere (w ∷ ws) m c forms apart none =
    effects-elsewhere ws (effect w m) c (λ v i. forms v (inr i)) apart (value-effect c w m ∙ after-elsewhere c w (value_at m c) (forms w (inl refl)) apart none)

target-elsewhere : (p : Version → Bool) (vs : List Version) (c : Cell) → list_all is_version_in_form vs ≡ true → ends_at_akey c.path ≡ false → value_at (effects (writes_in (filter p vs)) []) c ≡ None
target-elsewhere p vs c forms apart = effects-elsewhere (writes_in (filter p vs)) [] c in_form apart refl
  where
    in_form : (w : Write) → Has w (writes_in (filter p vs)) → is_write_in_form w ≡ true
    in_form w i =
        let v = has-from_map written_by (filter p vs) w i in
        ap is_write_in_form (sym v.2) ∙ all-has is_version_in_form vs v.0 forms (has-from_filter p vs v.0 v.1).0

joined-elsewhere : (targets t : ℕ) (p : Version → Bool) (ds : List Durable) (c : Cell) → ((d : Durable) → Has d ds → list_all is_version_in_form d.versions ≡ true) → ends_at_akey c.path ≡ false → value_at (joined targets t p ds) c ≡ None
joined-elsewhere targets t p [] c forms apart = refl
joined-elsewhere targets t p (d ∷ ds) c forms apart =
    append-none (filter (is_led_by targets t) (map_where p d)) (joined targets (t + 1) p ds) c
    (led-part targets t (map_where p d) c (is_led targets t c) refl ∙ none (is_led targets t c) (value_at (map_where p d) c) (target-elsewhere p d.versions c (forms d (inl refl)) apart))
    ∙ joined-elsewhere targets (t + 1) p ds c (λ f i. forms f (inr i)) apart
  where
    none : (b : Bool) (o : Option (List ℕ)) → o ≡ None → (if b then o else None) ≡ None
    none true o h = h
    none false o h = refl

dated-elsewhere : (c : Cell) (xs : List Dated) (held : Option (List ℕ)) → ends_at_akey c.path ≡ false → ((x : Dated) → Has x xs → is_write_in_form x.write ≡ true) → held ≡ None → after_all c xs held ≡ None
dated-elsewhere c [] held apart forms none = none
dated-elsewhere c (x ∷ xs) held apart forms none =
    dated-elsewhere c xs (after_write c x.write held) apart (λ y i. forms y (inr i)) (after-elsewhere c x.write held (forms x (inl refl)) apart none)

as_of-elsewhere : (opening : Stand) (all : List Decided) (e : ℕ) (c : Cell) → HasAkeys opening.now → ((d : Decided) → Contains all d → All (λ w. is_write_in_form w.write ≡ true) d.writes) → ends_at_akey c.path ≡ false → value_at (as_of opening (taken_in all) e) c ≡ None
as_of-elsewhere opening all e c has forms apart = as_of-dated c opening all e ∙ dated-elsewhere c (ordered e all) (value_at opening.now c) apart in_form (has c apart)
  where
    in_form : (x : Dated) → Has x (ordered e all) → is_write_in_form x.write ≡ true
    in_form x i =
        let w = has-from_dated all x (has-from_ordered e all x i).0 in
        let m = has-from_map (dated_at w.by.epoch) w.by.writes x w.has in
        ap (λ y. is_write_in_form y.write) (sym m.2) ∙ has-all (λ u. is_write_in_form u.write ≡ true) w.by.writes m.0 (forms w.by (contains-from_has all w.by w.among)) m.1

-- a cell at an akey is its leader's own
led-own : (c : Cell) (targets : ℕ) → ends_at_akey c.path ≡ true → is_own targets (path_leader c.path targets) c ≡ true
unfolding path_leader
led-own c targets h = by c.path.obj c.path.dkey refl refl
  where
    obj_dkey : (is_some c.path.obj && is_some c.path.dkey) ≡ true
    obj_dkey = and_left (is_some c.path.obj && is_some c.path.dkey) (is_some c.path.akey) h

    by : (x : Option ObjId) (y : Option (List ℕ)) → c.path.obj ≡ x → c.path.dkey ≡ y → is_own targets (path_leader c.path targets) c ≡ true
    by None y e f = clash (is_some c.path.obj) (and_left (is_some c.path.obj) (is_some c.path.dkey) obj_dkey) (ap is_some e)
    by (Some o) None e f = clash (is_some c.path.dkey) (and_right (is_some c.path.obj) (is_some c.path.dkey) obj_dkey) (ap is_some f)
    by (Some o) (Some k) e f =
        let lead : path_leader c.path targets ≡ leader_of o (group_of o.class k targets) targets = ap (λ x. object_leader x c.path.dkey targets) e ∙ ap (λ y. object_leader (Some o) y targets) f in
        let one = has-from_contains (members o (group_of o.class k targets) targets) (leader_of o (group_of o.class k targets) targets) (leader_of-member o (group_of o.class k targets) targets) in
        own-from_member c targets (path_leader c.path targets) (ap is_some f)
        (contains-from_has (path_members c.path targets) (path_leader c.path targets)
        (has-member c.path o k targets (path_leader c.path targets) e f (subst (λ u. Has u (members o (group_of o.class k targets) targets)) (sym lead) one)))

pub families-same : FamiliesAreAsOf
families-same F p opening all e some gives forms has writes c = by (ends_at_akey c.path) refl
  where
    by : (b : Bool) → ends_at_akey c.path ≡ b → value_at (family_map (counts_under p e) F) c ≡ value_at (as_of opening (taken_in all) e) c
    by true at = families-give F p opening all e c gives (led-own c (length F) at) some
    by false apart = joined-elsewhere (length F) 0 (counts_under p e) F c (λ d i. forms d (contains-from_has F d i)) apart ∙ sym (as_of-elsewhere opening all e c has writes apart)
