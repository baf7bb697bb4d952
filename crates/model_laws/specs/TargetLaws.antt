-- What each target holds of the map, and what all targets stand for together.
use Rattle.std.specs.Prelude.{ℕ, zero, suc, ◌≡◌, ◌≢◌, ◌<◌, ◌+◌, ◌⊎◌, ◌==◌, Bool, true, false, ◌&&◌, ◌||◌, nat_lt, is_none, is_some, List, [], ◌∷◌, ◌++◌, filter, length, Contains, slice_get, Option, Some, None, if◌then◌else◌, refl}
use Rattle.std.specs.List.{list_all, list_any, range_with_len}
use Rattle.std.specs.Option.{option_eq}
use Rattle.std.proofs.Common.{sym, ◌∙◌, ap, subst, arith, inl, inr}
use Rattle.std.proofs.lemmas.Bool.Decides.{nat_tests}
use Rattle.std.proofs.lemmas.Option.{slice_get_within}
use Rattle.base_types.specs.declared.id.ObjId.{ObjId}
use Rattle.base_types.specs.declared.operation.Write.{Write}
use Rattle.base_types.specs.declared.operation.Write.TheVariants as write
use Rattle.base_types.specs.declared.path.Path.{Path}
use Rattle.base_types.specs.Operations.{write_path}
use Rattle.base_types.specs.Paths.{leads_to, same_object}
use Rattle.base_types.specs.PathLaws.{same_object-Decides}
use Rattle.base_types.specs.Placement.{group_of, groups, groups_members, leader_of, members, object_leader, object_members, path_leader, path_members}
use Rattle.base_types.specs.PlacementLaws.{group_of-within, leader_of-member, members-disjoint, members-within}
use Rattle.daos_model.specs.declared.cell.Cell.{Cell}
use Rattle.daos_model.specs.declared.cell.CellValue.{CellValue}
use Rattle.daos_model.specs.declared.durable.Durable.{Durable}
use Rattle.daos_model.specs.declared.durable.Version.{Version}
use Rattle.daos_model.specs.AsOf.{as_of}
use Rattle.daos_model.specs.BoolLaws.{and_left, and_right, both, clash}
use Rattle.daos_model.specs.Cells.{same_cell, value_at}
use Rattle.daos_model.specs.Durables.{is_version_in_form, version_key}
use Rattle.daos_model.specs.Effect.{effects}
use Rattle.daos_model.specs.Family.{counts, family_map, is_led_by, joined, map_where, stand}
use Rattle.daos_model.specs.ExtentForms.{written-at_akey}
use Rattle.daos_model.specs.Forms.{ends_at_akey, is_length, is_write_in_form}
use Rattle.daos_model.specs.OrderLaws.{rising-filter}
use Rattle.daos_model.specs.Prunes.{is_punch, touches, values_of}
use Rattle.daos_model.specs.Sameness.{same_cell-Decides}
use Rattle.daos_model.specs.Versions.{writes_in, written_by}
use Rattle.model_laws.specs.Dated.{AreSingleInOrder, Dated, after_all, dated_of, dated_key, is_from, map_of}
use Rattle.model_laws.specs.Decided.{Decided, all_dated, dated_at, taken_in}
use Rattle.model_laws.specs.DecidedLaws.{all-from_has, as_of-dated, has-all, has-dated, has-from_dated, has-from_ordered, has-ordered, ordered, rising-ordered}
use Rattle.model_laws.specs.Groups.{HasDkeys, is_dkey_of_group, is_in_group}
use Rattle.model_laws.specs.Matches.{counts_under}
use Rattle.model_laws.specs.MatchLaws.{counted-has, filter_on, mark-from}
use Rattle.model_laws.specs.Members.{Has, any-has, contains-from_has, has-any, has-cases, has-from_contains, has-from_filter, has-from_map, has-left, has-right}
use Rattle.model_laws.specs.RisingLaws.{rising-same}
use Rattle.model_laws.specs.ServeLaws.{all-has, cont_test, obj_test, dkey_test, akey_test}
use Rattle.model_laws.specs.Targets.{AgreeingTargetsHoldTheMap, AsOfHasDkeys, AsOfIsOfTheSet, FamiliesAgree, FamiliesGiveAsOf, FamiliesHaveDkeys, FamilyMapIsOfLeaders, MembersHoldParts, OpeningsMatch, OwnCellsAreWrittenHere, is_own, is_target}
use Rattle.model_laws.specs.TouchLaws.{Newest, NewestAt, Untouched, newest-of, punch-path, punch-values, update-path}
use Rattle.model_laws.specs.VersionLaws.{rising-from_single}
use Rattle.model_laws.specs.JoinLaws.{effect-dkeys, has-range, leads_to-dkey, writes-dkeys}
use Rattle.model_laws.specs.Lists.{at-within}
use Rattle.model_laws.specs.WriteLaws.{after_write, value-effect}

-- ---- the order of decisions doesn't matter

dated-kept : (ds fs : List Decided) → ((d : Decided) → Contains ds d → Contains fs d) → (x : Dated) → Has x (all_dated ds) → Has x (all_dated fs)
dated-kept ds fs f x i =
    let w = has-from_dated ds x i in has-dated fs x (record { by = w.by; among = has-from_contains fs w.by (f w.by (contains-from_has ds w.by w.among)); has = w.has })

pub as_of-set : AsOfIsOfTheSet
as_of-set opening ds fs e f g to back c =
    as_of-dated c opening ds e
    ∙ ap (λ xs. after_all c xs (value_at opening.now c))
    (rising-same dated_key (ordered e ds) (ordered e fs) (rising-ordered e ds f) (rising-ordered e fs g)
    (λ x i. let h = has-from_ordered e ds x i in has-ordered e fs x (dated-kept ds fs to x h.0) h.1)
    (λ x i. let h = has-from_ordered e fs x i in has-ordered e ds x (dated-kept fs ds back x h.0) h.1))
    ∙ sym (as_of-dated c opening fs e)

-- ---- parts

pub same_number : (n : ℕ) → (n == n) ≡ true
same_number n = grind (arith, nat_tests)

pub number_same : (m n : ℕ) → (m == n) ≡ true → m ≡ n
number_same m n h = grind (arith, nat_tests)

-- a cell that no update sets holds nothing
unset : (t : Version → Bool) (vs : List Version) (c : Cell) → AreSingleInOrder vs → ((v : Version) → Has v vs → is_punch v.write ≡ false → touches c v.write ≡ true → ⊥) → value_at (map_of t vs) c ≡ None
unset t vs c form none = by (newest-of c (filter t vs) (rising-filter version_key t vs (rising-from_single version_key vs form.in_order form.single)))
  where
    of_newest : (v : Version) → Has v (filter t vs) → touches c v.write ≡ true → (b : Bool) → is_punch v.write ≡ b → value_at (values_of v.write) c ≡ None
    of_newest v i at true e = ap (λ m. value_at m c) (punch-values v.write e)
    of_newest v i at false e = absurd (none v (has-from_filter t vs v i).0 e at)

    by : NewestAt c (filter t vs) → value_at (map_of t vs) c ≡ None
    by (Untouched nothing keep) = keep []
    by (Newest v i at newest value) = value [] ∙ of_newest v i at (is_punch v.write) refl

leads_to-obj : (p q : Path) (o : ObjId) → p.obj ≡ Some o → leads_to p q ≡ true → q.obj ≡ Some o
unfolding leads_to
leads_to-obj p q o e h =
    let here = and_right (cont_test p q) (obj_test p q) (and_left (cont_test p q && obj_test p q) (dkey_test p q) (and_left (cont_test p q && obj_test p q && dkey_test p q) (akey_test p q) h)) in
    by q.obj (sym (ap (λ x. is_none x || option_eq same_object x q.obj) e) ∙ here)
  where
    by : (x : Option ObjId) → option_eq same_object (Some o) x ≡ true → x ≡ Some o
    by None h = absurd (let n : ⊥ = cc in n)
    by (Some a) h = ap (λ x. Some x) (sym ((same_object-Decides o a).0 h))

-- the members of a path with a dkey are those of the dkey's group
dkey-members : (p : Path) (o : ObjId) (k : List ℕ) (targets : ℕ) → p.obj ≡ Some o → p.dkey ≡ Some k → path_members p targets ≡ members o (group_of o.class k targets) targets ++ []
unfolding path_members
dkey-members p o k targets obj dkey = ap (λ x. object_members x p.dkey targets) obj ∙ ap (λ x. object_members (Some o) x targets) dkey

member-has : (p : Path) (o : ObjId) (k : List ℕ) (targets t : ℕ) → p.obj ≡ Some o → p.dkey ≡ Some k → Has t (path_members p targets) → Has t (members o (group_of o.class k targets) targets)
member-has p o k targets t obj dkey i =
    elim (has-cases (members o (group_of o.class k targets) targets) [] t (subst (Has t) (dkey-members p o k targets obj dkey) i)) [ inl j ↦ j | inr j ↦ absurd j ]

pub has-member : (p : Path) (o : ObjId) (k : List ℕ) (targets t : ℕ) → p.obj ≡ Some o → p.dkey ≡ Some k → Has t (members o (group_of o.class k targets) targets) → Has t (path_members p targets)
has-member p o k targets t obj dkey i = subst (Has t) (sym (dkey-members p o k targets obj dkey)) (has-left (members o (group_of o.class k targets) targets) [] t i)

update-dkey : (w : Write) → is_punch w ≡ false → is_write_in_form w ≡ true → is_some (write_path w).dkey ≡ true
unfolding is_write_in_form
update-dkey (write.Single p bytes) e h = akey_ends p (and_left (ends_at_akey p) (is_length (length bytes)) h)
  where
    akey_ends : (p : Path) → ends_at_akey p ≡ true → is_some p.dkey ≡ true
    akey_ends p h = and_right (is_some p.obj) (is_some p.dkey) (and_left (is_some p.obj && is_some p.dkey) (is_some p.akey) h)
update-dkey (write.Extent p low bytes) e h =
    akey_ends p (written-at_akey p low bytes h)
  where
    akey_ends : (p : Path) → ends_at_akey p ≡ true → is_some p.dkey ≡ true
    akey_ends p h = and_right (is_some p.obj) (is_some p.dkey) (and_left (is_some p.obj && is_some p.dkey) (is_some p.akey) h)
update-dkey (write.PunchObject p) e h = absurd (let n : ⊥ = cc in n)
update-dkey (write.PunchDkey p) e h = absurd (let n : ⊥ = cc in n)
update-dkey (write.PunchAkey p) e h = absurd (let n : ⊥ = cc in n)

pub members-parts : MembersHoldParts
members-parts o g targets t p q vs opening all e fits within member obj form forms placed gives c under = by c.path.dkey refl
  where
    cell_obj : c.path.obj ≡ Some o
    cell_obj = leads_to-obj p c.path o obj under

    goal : Bool → Type 0
    goal b = value_at (map_of (counts_under q e) vs) c ≡ (if b then value_at (as_of opening (taken_in all) e) c else None)

    no_dkey : c.path.dkey ≡ None → (v : Version) → Has v vs → is_punch v.write ≡ false → touches c v.write ≡ true → ⊥
    no_dkey none v i update at =
        clash (is_some c.path.dkey) (ap (λ r. is_some r.dkey) (sym (update-path v.write c update at)) ∙ update-dkey v.write update (all-has is_version_in_form vs v forms i)) (ap is_some none)

    own : (k : List ℕ) → c.path.dkey ≡ Some k → group_of o.class k targets ≡ g → is_own targets t c ≡ true
    own k dkey same =
        both (is_some c.path.dkey) (list_any (is_target t) (path_members c.path targets)) (ap is_some dkey)
        (any-has (is_target t) (path_members c.path targets) t
        (has-member c.path o k targets t cell_obj dkey (subst (λ h. Has t (members o h targets)) (sym same) (has-from_contains (members o g targets) t member))) (same_number t))

    elsewhere : (k : List ℕ) → c.path.dkey ≡ Some k → group_of o.class k targets ≢ g → (v : Version) → Has v vs → is_punch v.write ≡ false → touches c v.write ≡ true → ⊥
    elsewhere k dkey apart v i update at =
        let there = subst (λ r. Contains (path_members r targets) t) (update-path v.write c update at) (placed v (contains-from_has vs v i)) in
        members-disjoint o g (group_of o.class k targets) targets t fits within (group_of-within o.class k targets fits) (λ same. apart (sym same)) member
        (contains-from_has (members o (group_of o.class k targets) targets) t (member-has c.path o k targets t cell_obj dkey (has-from_contains (path_members c.path targets) t there)))

    in_group : (k : List ℕ) → c.path.dkey ≡ Some k → (b : Bool) → (group_of o.class k targets == g) ≡ b → goal b
    in_group k dkey true same = gives c (own k dkey (number_same (group_of o.class k targets) g same))
    in_group k dkey false apart =
        unset (counts_under q e) vs c form
        (elsewhere k dkey (λ same. clash (group_of o.class k targets == g) (ap (λ h. group_of o.class k targets == h) (sym same) ∙ same_number (group_of o.class k targets)) apart))

    by : (x : Option (List ℕ)) → c.path.dkey ≡ x → goal (is_in_group o.class targets g c)
    by None dkey = subst goal (sym (ap (is_dkey_of_group o.class targets g) dkey)) (unset (counts_under q e) vs c form (no_dkey dkey))
    by (Some k) dkey = subst goal (sym (ap (is_dkey_of_group o.class targets g) dkey)) (in_group k dkey (group_of o.class k targets == g) refl)

-- ---- families

pub append-none : (xs m : List CellValue) (c : Cell) → value_at xs c ≡ None → value_at (xs ++ m) c ≡ value_at m c
append-none [] m c e = refl
append-none (v ∷ xs) m c e = by (λ h. append-none xs m c h) (same_cell v.cell c) refl e
  where
    by : (value_at xs c ≡ None → value_at (xs ++ m) c ≡ value_at m c) → (b : Bool) → same_cell v.cell c ≡ b → (if b then Some v.bytes else value_at xs c) ≡ None
        → (if same_cell v.cell c then Some v.bytes else value_at (xs ++ m) c) ≡ value_at m c
    by rest true f h = absurd (let n : ⊥ = cc in n)
    by rest false f h = ap (λ b. if b then Some v.bytes else value_at (xs ++ m) c) f ∙ rest h

pub append-end : (xs m : List CellValue) (c : Cell) → value_at m c ≡ None → value_at (xs ++ m) c ≡ value_at xs c
append-end [] m c e = e
append-end (v ∷ xs) m c e = ap (λ o. if same_cell v.cell c then Some v.bytes else o) (append-end xs m c e)

-- what a map holds of the cells that pass a test
pub value-filter : (q : Cell → Bool) (m : List CellValue) (c : Cell) → value_at (filter (λ v. q v.cell) m) c ≡ (if q c then value_at m c else None)
value-filter q [] c = nothing (q c)
  where
    nothing : (b : Bool) → value_at [] c ≡ (if b then value_at [] c else None)
    nothing true = refl
    nothing false = refl
value-filter q (v ∷ m) c = by (q v.cell) (same_cell v.cell c) (q c) refl refl refl (value-filter q m c)
  where
    at_cell : same_cell v.cell c ≡ true → q v.cell ≡ q c
    at_cell e = ap q ((same_cell-Decides v.cell c).0 e)

    part : List CellValue
    part = filter (λ v. q v.cell) m

    by : (a s t : Bool) → q v.cell ≡ a → same_cell v.cell c ≡ s → q c ≡ t → value_at part c ≡ (if t then value_at m c else None)
        → value_at (if a then v ∷ part else part) c ≡ (if t then (if s then Some v.bytes else value_at m c) else None)
    by true true true e f g h = ap (λ b. if b then Some v.bytes else value_at part c) f
    by true true false e f g h = clash (q v.cell) e (at_cell f ∙ g)
    by true false true e f g h = ap (λ b. if b then Some v.bytes else value_at part c) f ∙ h
    by true false false e f g h = ap (λ b. if b then Some v.bytes else value_at part c) f ∙ h
    by false true true e f g h = clash (q c) g (sym (at_cell f) ∙ e)
    by false true false e f g h = h
    by false false true e f g h = h
    by false false false e f g h = h

abbrev pub is_led : ℕ → ℕ → Cell → Bool
is_led targets t c = path_leader c.path targets == t

pub led-part : (targets t : ℕ) (m : List CellValue) (c : Cell) (b : Bool) → is_led targets t c ≡ b → value_at (filter (is_led_by targets t) m) c ≡ (if b then value_at m c else None)
led-part targets t m c b e = value-filter (is_led targets t) m c ∙ ap (λ x. if x then value_at m c else None) e

not_led : (targets t : ℕ) (c : Cell) → path_leader c.path targets < t ⊎ t < path_leader c.path targets → is_led targets t c ≡ false
not_led targets t c (inl lt) = grind (arith, nat_tests)
not_led targets t c (inr lt) = grind (arith, nat_tests)

-- the targets after the leader of a cell give nothing there
joined-past : (targets t : ℕ) (p : Version → Bool) (ds : List Durable) (c : Cell) → path_leader c.path targets < t → value_at (joined targets t p ds) c ≡ None
joined-past targets t p [] c lt = refl
joined-past targets t p (d ∷ ds) c lt =
    append-none (filter (is_led_by targets t) (map_where p d)) (joined targets (t + 1) p ds) c (led-part targets t (map_where p d) c false (not_led targets t c (inl lt)))
    ∙ joined-past targets (t + 1) p ds c (omega (arith, lt))

joined-at : (targets t k : ℕ) (p : Version → Bool) (ds : List Durable) (c : Cell) (d : Durable) → path_leader c.path targets ≡ t + k → slice_get ds k ≡ Some d
    → value_at (joined targets t p ds) c ≡ value_at (map_where p d) c
joined-at targets t k p [] c d at is = absurd (let n : ⊥ = cc in n)
joined-at targets t zero p (f ∷ ds) c d at is =
    let here : is_led targets t c ≡ true = ap (λ n. n == t) (let e : path_leader c.path targets ≡ t = omega (arith, at) in e) ∙ same_number t in
    append-end (filter (is_led_by targets t) (map_where p f)) (joined targets (t + 1) p ds) c (joined-past targets (t + 1) p ds c (omega (arith, at)))
    ∙ led-part targets t (map_where p f) c true here
    ∙ ap (λ g. value_at (map_where p g) c) (some_same f d is)
  where
    some_same : (a b : Durable) → Some a ≡ Some b → a ≡ b
    some_same a b e = cc
joined-at targets t (suc k) p (f ∷ ds) c d at is =
    append-none (filter (is_led_by targets t) (map_where p f)) (joined targets (t + 1) p ds) c (led-part targets t (map_where p f) c false (not_led targets t c (inr (omega (arith, at)))))
    ∙ joined-at targets (t + 1) k p ds c d (omega (arith, at)) is

pub family-leaders : FamilyMapIsOfLeaders
family-leaders F p c d is = joined-at (length F) 0 (path_leader c.path (length F)) p F c d (omega arith) is

-- the leader of a cell with members is one of them, and a target
record HasLeader (c : Cell) (targets : ℕ) : Type 0 where
  member : Contains (path_members c.path targets) (path_leader c.path targets)
  within : path_leader c.path targets < targets

leader-there : (c : Cell) (targets t : ℕ) → 0 < targets → is_own targets t c ≡ true → HasLeader c targets
unfolding path_leader path_members
leader-there c targets t some own = by c.path.obj c.path.dkey refl refl
  where
    any : list_any (is_target t) (path_members c.path targets) ≡ true
    any = and_right (is_some c.path.dkey) (list_any (is_target t) (path_members c.path targets)) own

    dkey_there : is_some c.path.dkey ≡ true
    dkey_there = and_left (is_some c.path.dkey) (list_any (is_target t) (path_members c.path targets)) own

    by : (x : Option ObjId) (y : Option (List ℕ)) → c.path.obj ≡ x → c.path.dkey ≡ y → HasLeader c targets
    by None y e f = absurd (has-any (is_target t) [] (sym (ap (λ o. list_any (is_target t) (object_members o c.path.dkey targets)) e) ∙ any)).1
    by (Some o) None e f = clash (is_some c.path.dkey) dkey_there (ap is_some f)
    by (Some o) (Some k) e f =
        let lead : path_leader c.path targets ≡ leader_of o (group_of o.class k targets) targets = ap (λ x. object_leader x c.path.dkey targets) e ∙ ap (λ y. object_leader (Some o) y targets) f in
        let one = has-from_contains (members o (group_of o.class k targets) targets) (leader_of o (group_of o.class k targets) targets) (leader_of-member o (group_of o.class k targets) targets) in
        record {
          member = contains-from_has (path_members c.path targets) (path_leader c.path targets)
              (has-member c.path o k targets (path_leader c.path targets) e f (subst (λ u. Has u (members o (group_of o.class k targets) targets)) (sym lead) one));
          within = subst (λ u. u < targets) (sym lead) (has-all (λ u. u < targets) (members o (group_of o.class k targets) targets) (leader_of o (group_of o.class k targets) targets) (members-within o (group_of o.class k targets) targets some) one);
        }

pub agreeing-hold : AgreeingTargetsHoldTheMap
agreeing-hold F p t d c agree at own =
    let leader = leader-there c (length F) t (let lt = slice_get_within F t d at in omega (arith, lt)) own in
    let f = at-within F (path_leader c.path (length F)) leader.within in
    let m = has-any (is_target t) (path_members c.path (length F)) (and_right (is_some c.path.dkey) (list_any (is_target t) (path_members c.path (length F))) own) in
    agree c t (path_leader c.path (length F)) d f.0 (and_left (is_some c.path.dkey) (list_any (is_target t) (path_members c.path (length F))) own)
    (contains-from_has (path_members c.path (length F)) t (subst (λ u. Has u (path_members c.path (length F))) (number_same m.0 t m.2) m.1)) leader.member at f.1
    ∙ sym (family-leaders F p c f.0 f.1)

pub families-give : FamiliesGiveAsOf
families-give F p opening all e c gives own some =
    let leader = leader-there c (length F) (path_leader c.path (length F)) some own in
    let f = at-within F (path_leader c.path (length F)) leader.within in
    family-leaders F (counts_under p e) c f.0 f.1 ∙ gives (path_leader c.path (length F)) f.0 f.1 c own

-- a member of a cell with a dkey has it as its own
pub own-from_member : (c : Cell) (targets t : ℕ) → is_some c.path.dkey ≡ true → Contains (path_members c.path targets) t → is_own targets t c ≡ true
own-from_member c targets t dkey i =
    both (is_some c.path.dkey) (list_any (is_target t) (path_members c.path targets)) dkey
    (any-has (is_target t) (path_members c.path targets) t (has-from_contains (path_members c.path targets) t i) (same_number t))

pub families-agree : FamiliesAgree
families-agree F p opening all e gives c t u d f dkey i j at bt =
    gives t d at c (own-from_member c (length F) t dkey i) ∙ sym (gives u f bt c (own-from_member c (length F) u dkey j))

pub openings-match : OpeningsMatch
unfolding as_of stand
openings-match F t d mark agree at below = record {
  above = λ c own x about. (λ i. absurd (none x i), λ i. absurd (has-from_contains [] x i));
  at_mark = λ c own. ap (λ us. value_at (effects (writes_in us) []) c) all ∙ leads c own;
}
  where
    none : (x : Dated) → Contains (filter (is_from mark) (dated_of (counts F) d.versions)) x → ⊥
    none x i =
        let h = has-from_filter (is_from mark) (dated_of (counts F) d.versions) x (has-from_contains (filter (is_from mark) (dated_of (counts F) d.versions)) x i) in
        let v = counted-has (counts F) d.versions x h.0 in
        let low = below v.0 (contains-from_has d.versions v.0 v.1) in
        let high = mark-from mark x h.1 in
        let same : v.0.epoch.0 ≡ x.epoch = ap (λ y. y.epoch) v.3 in
        omega (arith, low, high, same)

    all : filter (counts_under (counts F) mark) d.versions ≡ filter (counts F) d.versions
    all = filter_on (counts_under (counts F) mark) (counts F) d.versions (λ v i. with_true (counts F v) (nat_lt v.epoch.0 mark) (let low = below v (contains-from_has d.versions v i) in grind (arith, nat_tests)))
      where
        with_true : (a b : Bool) → b ≡ true → (a && b) ≡ a
        with_true true b e = e
        with_true false b e = refl

    leads : (c : Cell) → is_own (length F) t c ≡ true → value_at (map_where (counts F) d) c ≡ value_at (family_map (counts F) F) c
    leads c own = agreeing-hold F (counts F) t d c agree.now at own

-- ---- where a cell's writes are

-- the members of a group among those of some groups
group-among : (o : ObjId) (gs : List ℕ) (g targets t : ℕ) → Has g gs → Has t (members o g targets) → Has t (groups_members o gs targets)
group-among o [] g targets t i j = absurd i
group-among o (f ∷ gs) g targets t (inl same) j = has-left (members o f targets) (groups_members o gs targets) t (subst (λ h. Has t (members o h targets)) same j)
group-among o (f ∷ gs) g targets t (inr i) j = has-right (members o f targets) (groups_members o gs targets) t (group-among o gs g targets t i j)

pub own-here : OwnCellsAreWrittenHere
unfolding path_members
own-here targets t c w o obj fits own at = by (is_punch w) refl
  where
    any : (u : ℕ) × Has u (path_members c.path targets) × (is_target t u ≡ true)
    any = has-any (is_target t) (path_members c.path targets) (and_right (is_some c.path.dkey) (list_any (is_target t) (path_members c.path targets)) own)

    here : Has t (path_members c.path targets)
    here = subst (λ u. Has u (path_members c.path targets)) (number_same any.0 t any.2) any.1

    some : is_some c.path.dkey ≡ true
    some = and_left (is_some c.path.dkey) (list_any (is_target t) (path_members c.path targets)) own

    of_group : (k : List ℕ) → leads_to (write_path w) c.path ≡ true → c.path.dkey ≡ Some k → Has t (members o (group_of o.class k targets) targets)
    of_group k under e = member-has c.path o k targets t (leads_to-obj (write_path w) c.path o obj under) e here

    under_dkey : (x y : Option (List ℕ)) → leads_to (write_path w) c.path ≡ true → (write_path w).dkey ≡ x → c.path.dkey ≡ y → Has t (path_members (write_path w) targets)
    under_dkey x None under e f = clash (is_some c.path.dkey) some (ap is_some f)
    under_dkey None (Some k) under e f =
        subst (Has t) (sym (ap (λ z. object_members z (write_path w).dkey targets) obj ∙ ap (λ z. object_members (Some o) z targets) e))
        (group-among o (range_with_len 0 (groups o.class targets)) (group_of o.class k targets) targets t
        (has-range 0 (groups o.class targets) (group_of o.class k targets) (omega arith) (let lt = group_of-within o.class k targets fits in omega (arith, lt))) (of_group k under f))
    under_dkey (Some j) (Some k) under e f =
        let same : c.path.dkey ≡ Some j = leads_to-dkey (write_path w) c.path j e under in
        has-member (write_path w) o j targets t obj e (of_group j under same)

    by : (b : Bool) → is_punch w ≡ b → Contains (path_members (write_path w) targets) t
    by true e = contains-from_has (path_members (write_path w) targets) t (under_dkey (write_path w).dkey c.path.dkey (punch-path w c e at) refl refl)
    by false e = contains-from_has (path_members (write_path w) targets) t (subst (λ p. Has t (path_members p targets)) (sym (update-path w c e at)) here)

-- ---- dkeys

-- the versions of a target in form leave nothing at a cell without a dkey
target-dkeys : (p : Version → Bool) (vs : List Version) → list_all is_version_in_form vs ≡ true → HasDkeys (effects (writes_in (filter p vs)) [])
target-dkeys p vs forms = writes-dkeys (writes_in (filter p vs)) [] (all-from_has (λ w. is_write_in_form w ≡ true) (writes_in (filter p vs)) in_form) (λ c e. refl)
  where
    in_form : (w : Write) → Has w (writes_in (filter p vs)) → is_write_in_form w ≡ true
    in_form w i =
        let v = has-from_map written_by (filter p vs) w i in
        ap is_write_in_form (sym v.2) ∙ all-has is_version_in_form vs v.0 forms (has-from_filter p vs v.0 v.1).0

joined-dkeys : (targets t : ℕ) (p : Version → Bool) (ds : List Durable) → ((d : Durable) → Has d ds → list_all is_version_in_form d.versions ≡ true) → HasDkeys (joined targets t p ds)
joined-dkeys targets t p [] forms c e = refl
joined-dkeys targets t p (d ∷ ds) forms c e =
    append-none (filter (is_led_by targets t) (map_where p d)) (joined targets (t + 1) p ds) c
    (value-filter (is_led targets t) (map_where p d) c ∙ none (is_led targets t c) (value_at (map_where p d) c) (target-dkeys p d.versions (forms d (inl refl)) c e))
    ∙ joined-dkeys targets (t + 1) p ds (λ f i. forms f (inr i)) c e
  where
    none : (b : Bool) (o : Option (List ℕ)) → o ≡ None → (if b then o else None) ≡ None
    none true o h = h
    none false o h = refl

pub families-dkeys : FamiliesHaveDkeys
families-dkeys F p forms = joined-dkeys (length F) 0 p F (λ d i. forms d (contains-from_has F d i))

after-dkeys : (c : Cell) (xs : List Dated) (held : Option (List ℕ)) → c.path.dkey ≡ None → ((x : Dated) → Has x xs → is_write_in_form x.write ≡ true) → held ≡ None → after_all c xs held ≡ None
after-dkeys c [] held e forms none = none
after-dkeys c (x ∷ xs) held e forms none =
    after-dkeys c xs (after_write c x.write held) e (λ y i. forms y (inr i))
    (ap (after_write c x.write) none ∙ sym (value-effect c x.write []) ∙ effect-dkeys x.write [] (forms x (inl refl)) (λ d f. refl) c e)

pub as_of-dkeys : AsOfHasDkeys
as_of-dkeys opening all e has forms c none =
    as_of-dated c opening all e ∙ after-dkeys c (ordered e all) (value_at opening.now c) none in_form (has c none)
  where
    in_form : (x : Dated) → Has x (ordered e all) → is_write_in_form x.write ≡ true
    in_form x i =
        let w = has-from_dated all x (has-from_ordered e all x i).0 in
        let m = has-from_map (dated_at w.by.epoch) w.by.writes x w.has in
        ap (λ y. is_write_in_form y.write) (sym m.2) ∙ has-all (λ u. is_write_in_form u.write ≡ true) w.by.writes m.0 (forms w.by (contains-from_has all w.by w.among)) m.1
