-- Cells without an object hold nothing, and a family of targets stands for what each of them gives at its own cells.
use Rattle.std.specs.Prelude.{ℕ, zero, suc, ◌≡◌, ◌<◌, ◌&&◌, ◌⊎◌, All, Bool, true, false, is_some, List, [], ◌∷◌, length, filter, slice_get, Contains, Option, Some, None, refl, if◌then◌else◌}
use Rattle.std.specs.List.{list_all, list_any}
use Rattle.std.proofs.Common.{sym, ◌∙◌, ap, subst, inl, inr}
use Rattle.base_types.specs.declared.id.ObjId.{ObjId}
use Rattle.base_types.specs.declared.operation.Write.{Write}
use Rattle.base_types.specs.declared.operation.Write.TheVariants as write
use Rattle.base_types.specs.declared.path.Path.{Path}
use Rattle.base_types.specs.Operations.{write_path}
use Rattle.base_types.specs.Placement.{group_of, leader_of, leading_group, members, object_leader, path_leader, path_members}
use Rattle.base_types.specs.PlacementLaws.{leader_of-member, members-within}
use Rattle.model_laws.specs.Dated.{Dated, after_all}
use Rattle.model_laws.specs.Decided.{Decided, dated_at, taken_in}
use Rattle.model_laws.specs.DecidedLaws.{as_of-dated, has-all, has-from_dated, has-from_ordered, ordered}
use Rattle.model_laws.specs.Groups.{is_dkey_of_group}
use Rattle.model_laws.specs.Lists.{at-within}
use Rattle.model_laws.specs.Members.{Has, any-has, contains-from_has, has-from_contains, has-from_filter, has-from_map}
use Rattle.model_laws.specs.ServeLaws.{all-has}
use Rattle.model_laws.specs.TargetLaws.{families-dkeys, family-leaders, same_number}
use Rattle.model_laws.specs.Targets.{is_own, is_target}
use Rattle.model_laws.specs.TouchLaws.{punch-path, update-path}
use Rattle.model_laws.specs.WriteLaws.{after_write, value-effect}
use Rattle.daos_model.specs.declared.cell.Cell.{Cell}
use Rattle.daos_model.specs.declared.cell.CellValue.{CellValue}
use Rattle.daos_model.specs.declared.durable.Version.{Version}
use Rattle.daos_model.specs.declared.stand.Stand.{Stand}
use Rattle.daos_model.specs.AsOf.{as_of}
use Rattle.daos_model.specs.BoolLaws.{and_left, both, false_of}
use Rattle.daos_model.specs.Cells.{value_at}
use Rattle.daos_model.specs.Durables.{is_version_in_form}
use Rattle.daos_model.specs.Effect.{effect, effects}
use Rattle.daos_model.specs.Finals.{SameMap}
use Rattle.daos_model.specs.ExtentForms.{written-at_akey}
use Rattle.daos_model.specs.Forms.{ends_at_akey, is_length, is_write_in_form}
use Rattle.daos_model.specs.Prunes.{is_punch, touches, values_of}
use Rattle.daos_model.specs.Versions.{writes_in, written_by}
use Rattle.model_laws.specs.PlaceLaws.{group-own, leads-object}
use Rattle.daos_model.specs.Family.{AgreeOn, family_map, map_where}
use Rattle.daos_model.specs.declared.durable.Durable.{Durable}

-- ---- cells without an object

akey-object : (p : Path) → ends_at_akey p ≡ true → is_some p.obj ≡ true
akey-object p h = and_left (is_some p.obj) (is_some p.dkey) (and_left (is_some p.obj && is_some p.dkey) (is_some p.akey) h)

has-object : (w : Write) → is_write_in_form w ≡ true → is_some (write_path w).obj ≡ true
unfolding is_write_in_form
has-object (write.Single p bytes) form = akey-object p (and_left (ends_at_akey p) (is_length (length bytes)) form)
has-object (write.Extent p low bytes) form = akey-object p (written-at_akey p low bytes form)
has-object (write.PunchObject p) form = and_left (is_some p.obj) _ (and_left _ _ form)
has-object (write.PunchDkey p) form = and_left (is_some p.obj) _ (and_left _ _ form)
has-object (write.PunchAkey p) form = akey-object p form

-- no write in form says what a cell without an object holds
untouched : (w : Write) (c : Cell) → is_write_in_form w ≡ true → c.path.obj ≡ None → touches c w ≡ false
untouched w c form e = false_of (touches c w) (λ at. by (is_punch w) (write_path w).obj refl refl at)
  where
    by : (b : Bool) (o : Option ObjId) → is_punch w ≡ b → (write_path w).obj ≡ o → touches c w ≡ true → ⊥
    by b None punch obj at = let some = has-object w form in let none : is_some (write_path w).obj ≡ false = ap is_some obj in let no : ⊥ = cc in no
    by true (Some o) punch obj at = let has = leads-object (write_path w) c.path o obj (punch-path w c punch at) in let no : ⊥ = cc in no
    by false (Some o) punch obj at = let same : (write_path w).obj ≡ c.path.obj = ap (λ p. p.obj) (update-path w c punch at) in let no : ⊥ = cc in no

kept-by : (w : Write) (c : Cell) (held : Option (List ℕ)) → is_write_in_form w ≡ true → c.path.obj ≡ None → after_write c w held ≡ held
kept-by w c held form e = ap (λ b. if b then value_at (values_of w) c else held) (untouched w c form e)

effects-keep : (ws : List Write) (m : List CellValue) (c : Cell) → ((w : Write) → Has w ws → is_write_in_form w ≡ true) → c.path.obj ≡ None → value_at (effects ws m) c ≡ value_at m c
effects-keep [] m c forms e = refl
effects-keep (w ∷ ws) m c forms e =
    effects-keep ws (effect w m) c (λ v i. forms v (inr i)) e ∙ value-effect c w m ∙ kept-by w c (value_at m c) (forms w (inl refl)) e

-- versions in form leave nothing there
pub versions-objects : (p : Version → Bool) (vs : List Version) (c : Cell) → list_all is_version_in_form vs ≡ true → c.path.obj ≡ None → value_at (effects (writes_in (filter p vs)) []) c ≡ None
versions-objects p vs c forms e = effects-keep (writes_in (filter p vs)) [] c in_form e
  where
    in_form : (w : Write) → Has w (writes_in (filter p vs)) → is_write_in_form w ≡ true
    in_form w i =
        let v = has-from_map written_by (filter p vs) w i in
        ap is_write_in_form (sym v.2) ∙ all-has is_version_in_form vs v.0 forms (has-from_filter p vs v.0 v.1).0

after-keep : (c : Cell) (xs : List Dated) (held : Option (List ℕ)) → ((x : Dated) → Has x xs → is_write_in_form x.write ≡ true) → c.path.obj ≡ None → after_all c xs held ≡ held
after-keep c [] held forms e = refl
after-keep c (x ∷ xs) held forms e = after-keep c xs (after_write c x.write held) (λ y i. forms y (inr i)) e ∙ kept-by x.write c held (forms x (inl refl)) e

-- and so do transactions in form
pub as_of-objects : (opening : Stand) (all : List Decided) (e : ℕ) (c : Cell) → ((d : Decided) → Contains all d → All (λ w. is_write_in_form w.write ≡ true) d.writes) → c.path.obj ≡ None
    → value_at (as_of opening (taken_in all) e) c ≡ value_at opening.now c
as_of-objects opening all e c forms none = as_of-dated c opening all e ∙ after-keep c (ordered e all) (value_at opening.now c) in_form none
  where
    in_form : (x : Dated) → Has x (ordered e all) → is_write_in_form x.write ≡ true
    in_form x i =
        let w = has-from_dated all x (has-from_ordered e all x i).0 in
        let m = has-from_map (dated_at w.by.epoch) w.by.writes x w.has in
        ap (λ y. is_write_in_form y.write) (sym m.2) ∙ has-all (λ u. is_write_in_form u.write ≡ true) w.by.writes m.0 (forms w.by (contains-from_has all w.by w.among)) m.1

-- ---- what a family stands for

-- a target gives, by the versions that pass, what a map gives at its own cells
abbrev pub GivesOwn : ℕ → ℕ → (Version → Bool) → Durable → List CellValue → Type 0
GivesOwn targets t p d m = (c : Cell) → is_own targets t c ≡ true → value_at (map_where p d) c ≡ value_at m c

-- each target of a family does
abbrev pub EachGivesOwn : List Durable → (Version → Bool) → List CellValue → Type 0
EachGivesOwn F p m = (t : ℕ) (d : Durable) → slice_get F t ≡ Some d → GivesOwn (length F) t p d m

-- a map has nothing at a cell that has no dkey or no object
abbrev pub HasNoneUnowned : List CellValue → Type 0
HasNoneUnowned m = (c : Cell) → (c.path.dkey ≡ None) ⊎ (c.path.obj ≡ None) → value_at m c ≡ None

-- what is written in a family's versions is in form
abbrev pub IsFamilyInForm : List Durable → Type 0
IsFamilyInForm F = (d : Durable) → Contains F d → list_all is_version_in_form d.versions ≡ true

-- a cell is its leader's own, or has no dkey, or no object
own-or_not : (n : ℕ) (c : Cell) → (is_own n (path_leader c.path n) c ≡ true) ⊎ ((c.path.dkey ≡ None) ⊎ (c.path.obj ≡ None))
unfolding path_leader
own-or_not n c = by c.path.obj c.path.dkey refl refl
  where
    by : (x : Option ObjId) (y : Option (List ℕ)) → c.path.obj ≡ x → c.path.dkey ≡ y → (is_own n (object_leader c.path.obj c.path.dkey n) c ≡ true) ⊎ ((c.path.dkey ≡ None) ⊎ (c.path.obj ≡ None))
    by None y e f = inr (inr e)
    by (Some o) None e f = inr (inl f)
    by (Some o) (Some k) e f =
        let leads : object_leader c.path.obj c.path.dkey n ≡ leader_of o (group_of o.class k n) n = ap (λ x. object_leader x c.path.dkey n) e ∙ ap (λ y. object_leader (Some o) y n) f in
        inl (subst (λ t. is_own n t c ≡ true) (sym leads)
        (group-own o n (group_of o.class k n) (leader_of o (group_of o.class k n) n) c e (ap (is_dkey_of_group o.class n (group_of o.class k n)) f ∙ same_number (group_of o.class k n))
        (has-from_contains (members o (group_of o.class k n) n) (leader_of o (group_of o.class k n) n) (leader_of-member o (group_of o.class k n) n))))

-- the leader of a path is a target
pub leader-within : (p : Path) (n : ℕ) → 0 < n → path_leader p n < n
unfolding path_leader
leader-within p n some = by p.obj
  where
    by : (o : Option ObjId) → object_leader o p.dkey n < n
    by None = some
    by (Some o) =
        has-all (λ t. t < n) (members o (leading_group o p.dkey n) n) (leader_of o (leading_group o p.dkey n) n) (members-within o (leading_group o p.dkey n) n some)
        (has-from_contains (members o (leading_group o p.dkey n) n) (leader_of o (leading_group o p.dkey n) n) (leader_of-member o (leading_group o p.dkey n) n))

at-has : {T : Type 0} (xs : List T) (n : ℕ) (x : T) → slice_get xs n ≡ Some x → Contains xs x
at-has [] n x at = let no : ⊥ = cc in absurd no
at-has (y ∷ ys) zero x at = contains-from_has (y ∷ ys) x (inl (let same : y ≡ x = cc in sym same))
at-has (y ∷ ys) (suc n) x at = contains-from_has (y ∷ ys) x (inr (has-from_contains ys x (at-has ys n x at)))

-- a family stands for the map that each of its targets gives at its own cells
abbrev pub FamiliesStandFor : Type 0
FamiliesStandFor = (F : List Durable) (p : Version → Bool) (m : List CellValue) → 0 < length F → IsFamilyInForm F → EachGivesOwn F p m → HasNoneUnowned m → SameMap (family_map p F) m

pub families-stand_for : FamiliesStandFor
families-stand_for F p m some forms gives none c = by (own-or_not (length F) c)
  where
    leads : (d : Durable) × (slice_get F (path_leader c.path (length F)) ≡ Some d)
    leads = at-within F (path_leader c.path (length F)) (leader-within c.path (length F) some)

    of_leader : value_at (family_map p F) c ≡ value_at (map_where p leads.0) c
    of_leader = family-leaders F p c leads.0 leads.1

    by : (is_own (length F) (path_leader c.path (length F)) c ≡ true) ⊎ ((c.path.dkey ≡ None) ⊎ (c.path.obj ≡ None)) → value_at (family_map p F) c ≡ value_at m c
    by (inl own) = of_leader ∙ gives (path_leader c.path (length F)) leads.0 leads.1 c own
    by (inr (inl no_dkey)) = families-dkeys F p forms c no_dkey ∙ sym (none c (inl no_dkey))
    by (inr (inr no_object)) = of_leader ∙ versions-objects p leads.0.versions c (forms leads.0 (at-has F (path_leader c.path (length F)) leads.0 leads.1)) no_object ∙ sym (none c (inr no_object))

-- and then its replicas agree
abbrev pub FamiliesAgree : Type 0
FamiliesAgree = (F : List Durable) (p : Version → Bool) (m : List CellValue) → EachGivesOwn F p m → AgreeOn F p

pub families-agree : FamiliesAgree
families-agree F p m gives c t u d e dkey i j at bt = gives t d at c (its t i) ∙ sym (gives u e bt c (its u j))
  where
    its : (v : ℕ) → Contains (path_members c.path (length F)) v → is_own (length F) v c ≡ true
    its v k = both (is_some c.path.dkey) (list_any (is_target v) (path_members c.path (length F))) dkey (any-has (is_target v) (path_members c.path (length F)) v (has-from_contains (path_members c.path (length F)) v k) (same_number v))
