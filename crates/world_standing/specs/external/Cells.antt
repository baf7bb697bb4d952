-- Where accesses of paths meet of which one leads to the other: at a cell under both, which some target holds.
use Rattle.std.specs.Prelude.{ℕ, suc, zero, ◌≡◌, ◌≤◌, ◌<◌, ◌+◌, ◌*◌, ◌/◌, ◌%◌, ◌==◌, ◌&&◌, ◌||◌, Bool, true, false, max, nat_le, is_some, is_none, length, List, [], Contains, Option, Some, None, refl, if◌then◌else◌}
use Rattle.std.specs.List.{list_any}
use Rattle.std.specs.Option.{option_eq}
use Rattle.std.proofs.Common.{sym, ◌∙◌, ap, subst, inl, arith}
use Rattle.std.proofs.lemmas.Bool.Decides.{nat_tests}
use Rattle.std.proofs.Math.Nat.{div-add-mod}
use Rattle.base_types.specs.declared.id.ObjId.{ObjId}
use Rattle.base_types.specs.declared.operation.Write.{Write}
use Rattle.base_types.specs.declared.operation.Write.TheVariants as write
use Rattle.base_types.specs.declared.path.Path.{Path}
use Rattle.base_types.specs.Keys.{same_key}
use Rattle.base_types.specs.Operations.{write_path}
use Rattle.base_types.specs.PathLaws.{leads_to-refl, leads_to-trans, same_key-Decides, same_path-Decides}
use Rattle.base_types.specs.Paths.{leads_to, overlaps, record_size, same_object, same_path}
use Rattle.base_types.specs.Placement.{ClassFits, group_of, groups, path_members}
use Rattle.base_types.specs.PlacementLaws.{group_of-within}
use Rattle.daos_model.specs.declared.cell.Cell.{Cell}
use Rattle.daos_model.specs.declared.cell.CellValue.{CellValue}
use Rattle.daos_model.specs.Accesses.{asked_member}
use Rattle.daos_model.specs.BoolLaws.{and_left, and_right, both, or_other}
use Rattle.daos_model.specs.Sameness.{same_cell-Decides}
use Rattle.daos_model.specs.Cells.{is_of}
use Rattle.daos_model.specs.Effect.{cut_records, record_cells}
use Rattle.daos_model.specs.ExtentForms.{written-at_akey, written-length, written-whole}
use Rattle.daos_model.specs.Forms.{ends_at_akey, is_length, is_write_in_form}
use Rattle.daos_model.specs.Prunes.{is_punch, touches, values_of}
use Rattle.model_laws.specs.JoinLaws.{leads_to-dkey}
use Rattle.model_laws.specs.Members.{Has, any-has, contains-from_has}
use Rattle.model_laws.specs.PlaceLaws.{asked-member}
use Rattle.model_laws.specs.TargetLaws.{has-member, number_same, own-from_member, own-here}
use Rattle.model_laws.specs.Targets.{is_own}
use Rattle.model_laws.specs.TouchLaws.{values-path}
use Rattle.world_base.specs.ClientTurns.{group_asked, group_count}

-- ---- paths

abbrev or_empty : Option (List ℕ) → List ℕ
or_empty None = []
or_empty (Some k) = k

-- a path continued to an akey
abbrev further : Path → Path
further p = record p { dkey = Some (or_empty p.dkey); akey = Some (or_empty p.akey) }

reaches-or_empty : (x : Option (List ℕ)) → (is_none x || option_eq same_key x (Some (or_empty x))) ≡ true
reaches-or_empty None = refl
reaches-or_empty (Some k) = (same_key-Decides k k).1 refl

leads-further : (p : Path) → leads_to p (further p) ≡ true
unfolding leads_to
leads-further p = both (begin && (is_none p.dkey || option_eq same_key p.dkey (Some (or_empty p.dkey)))) _ (both begin _ begins (reaches-or_empty p.dkey)) (reaches-or_empty p.akey)
  where
    begin : Bool
    begin = (p.cont.0 == p.cont.0) && (is_none p.obj || option_eq same_object p.obj p.obj)

    begins : begin ≡ true
    begins = and_left begin (is_none p.dkey || option_eq same_key p.dkey p.dkey) (and_left (begin && (is_none p.dkey || option_eq same_key p.dkey p.dkey)) (is_none p.akey || option_eq same_key p.akey p.akey) (leads_to-refl p))

reached : {T : Type 0} (same : T → T → Bool) (x y : Option T) → is_some x ≡ true → (is_none x || option_eq same x y) ≡ true → option_eq same x y ≡ true
reached same None y some h = let no : ⊥ = cc in absurd no
reached same (Some a) y some h = h

-- what a path at an akey leads to is that path
leads-same : (p q : Path) → ends_at_akey p ≡ true → leads_to p q ≡ true → p ≡ q
unfolding leads_to same_path
leads-same p q ends h = (same_path-Decides p q).0 (both (a && b && c) d (both (a && b) c (both a b (and_left a b' two) (reached same_object p.obj q.obj obj (and_right a b' two))) (reached same_key p.dkey q.dkey dkey (and_right (a && b') c' three))) (reached same_key p.akey q.akey akey (and_right (a && b' && c') d' h)))
  where
    a : Bool
    a = p.cont.0 == q.cont.0

    b : Bool
    b = option_eq same_object p.obj q.obj

    c : Bool
    c = option_eq same_key p.dkey q.dkey

    d : Bool
    d = option_eq same_key p.akey q.akey

    b' : Bool
    b' = is_none p.obj || b

    c' : Bool
    c' = is_none p.dkey || c

    d' : Bool
    d' = is_none p.akey || d

    three : (a && b' && c') ≡ true
    three = and_left (a && b' && c') d' h

    two : (a && b') ≡ true
    two = and_left (a && b') c' three

    obj : is_some p.obj ≡ true
    obj = and_left (is_some p.obj) (is_some p.dkey) (and_left (is_some p.obj && is_some p.dkey) (is_some p.akey) ends)

    dkey : is_some p.dkey ≡ true
    dkey = and_right (is_some p.obj) (is_some p.dkey) (and_left (is_some p.obj && is_some p.dkey) (is_some p.akey) ends)

    akey : is_some p.akey ≡ true
    akey = and_right (is_some p.obj && is_some p.dkey) (is_some p.akey) ends

-- ---- cells that writes say something about

some-whole : (n m q : ℕ) → n / m ≡ q → (n % m == 0) ≡ true → is_length n ≡ true → 0 < q
some-whole n m zero none whole long =
    let all : m * (n / m) + n % m ≡ n = div-add-mod n m in
    let rest : n % m ≡ 0 = number_same (n % m) 0 whole in
    let nothing : m * (n / m) ≡ m * 0 = ap (λ z. m * z) none in
    let one : nat_le 1 n ≡ true = and_left (nat_le 1 n) (nat_le n 1024) long in
    let some : 1 ≤ n = grind (arith, nat_tests) in
    absurd (omega (arith, all, rest, nothing, some))
some-whole n m (suc q) is whole long = omega arith

first-cell : (p : Path) (low size count : ℕ) (bytes : List ℕ) → 0 < count → (x : CellValue) × Has x (record_cells p low (cut_records count size bytes))
first-cell p low size zero bytes some = absurd (omega (arith, some))
first-cell p low size (suc k) bytes some = (_, inl refl)

-- an update sets some cell
some-cell : (w : Write) → is_punch w ≡ false → is_write_in_form w ≡ true → (x : CellValue) × Has x (values_of w)
some-cell (write.Single p bytes) update form = (_, inl refl)
some-cell (write.Extent p low bytes) update form =
    first-cell p low (record_size p) (length bytes / record_size p) bytes (some-whole (length bytes) (record_size p) (length bytes / record_size p) refl (written-whole p low bytes form) (written-length p low bytes form))
some-cell (write.PunchObject p) update form = let no : ⊥ = cc in absurd no
some-cell (write.PunchDkey p) update form = let no : ⊥ = cc in absurd no
some-cell (write.PunchAkey p) update form = let no : ⊥ = cc in absurd no

sets-touched : (w : Write) (x : CellValue) → is_punch w ≡ false → Has x (values_of w) → touches x.cell w ≡ true
unfolding touches
sets-touched w x update i = ap (λ b. if b then leads_to (write_path w) x.cell.path else list_any (is_of x.cell) (values_of w)) update ∙ any-has (is_of x.cell) (values_of w) x i ((same_cell-Decides x.cell x.cell).1 refl)

punch-touched : (w : Write) (c : Cell) → is_punch w ≡ true → leads_to (write_path w) c.path ≡ true → touches c w ≡ true
unfolding touches
punch-touched w c punch under = ap (λ b. if b then leads_to (write_path w) c.path else list_any (is_of c) (values_of w)) punch ∙ under

update-at_akey : (w : Write) → is_punch w ≡ false → is_write_in_form w ≡ true → ends_at_akey (write_path w) ≡ true
unfolding is_write_in_form
update-at_akey (write.Single p bytes) update form = and_left (ends_at_akey p) (is_length (length bytes)) form
update-at_akey (write.Extent p low bytes) update form = written-at_akey p low bytes form
update-at_akey (write.PunchObject p) update form = let no : ⊥ = cc in absurd no
update-at_akey (write.PunchDkey p) update form = let no : ⊥ = cc in absurd no
update-at_akey (write.PunchAkey p) update form = let no : ⊥ = cc in absurd no

-- ---- where a write and an access meet

-- a cell of which a write says what it holds, under a path
pub record MeetsAt (w : Write) (q : Path) : Type 0 where
  pub cell : Cell
  pub touched : touches cell w ≡ true
  pub under : leads_to q cell.path ≡ true
  pub keyed : is_some cell.path.dkey ≡ true

pub meets : (w : Write) (q : Path) → is_write_in_form w ≡ true → overlaps (write_path w) q ≡ true → MeetsAt w q
unfolding overlaps
meets w q form over = by (is_punch w) (leads_to (write_path w) q) refl refl
  where
    back : leads_to (write_path w) q ≡ false → leads_to q (write_path w) ≡ true
    back off = or_other (leads_to (write_path w) q) (leads_to q (write_path w)) over off

    updates : is_punch w ≡ false → leads_to q (write_path w) ≡ true → MeetsAt w q
    updates update under =
        let x = some-cell w update form in
        let path : write_path w ≡ x.0.cell.path = values-path w x.0 x.1 in
        let ends = update-at_akey w update form in
        record {
          cell = x.0.cell;
          touched = sets-touched w x.0 update x.1;
          under = subst (λ p. leads_to q p ≡ true) path under;
          keyed = subst (λ (p : Path). is_some p.dkey ≡ true) path (and_right (is_some (write_path w).obj) (is_some (write_path w).dkey) (and_left (is_some (write_path w).obj && is_some (write_path w).dkey) (is_some (write_path w).akey) ends));
        }

    by : (punch leads : Bool) → is_punch w ≡ punch → leads_to (write_path w) q ≡ leads → MeetsAt w q
    by true true p l = record {
      cell = record { path = further q; index = None };
      touched = punch-touched w (record { path = further q; index = None }) p (leads_to-trans (write_path w) q (further q) l (leads-further q));
      under = leads-further q;
      keyed = refl;
    }
    by true false p l = record {
      cell = record { path = further (write_path w); index = None };
      touched = punch-touched w (record { path = further (write_path w); index = None }) p (leads-further (write_path w));
      under = leads_to-trans q (write_path w) (further (write_path w)) (back l) (leads-further (write_path w));
      keyed = refl;
    }
    by false true p l = updates p (subst (λ z. leads_to z (write_path w) ≡ true) (leads-same (write_path w) q (update-at_akey w p form) l) (leads_to-refl (write_path w)))
    by false false p l = updates p (back l)

-- ---- who holds it

-- the members of a path's groups are those that hold what is under it
pub members-under : (targets t : ℕ) (c : Cell) (q : Path) (o : ObjId) → q.obj ≡ Some o → ClassFits o.class targets → is_own targets t c ≡ true → leads_to q c.path ≡ true → Contains (path_members q targets) t
members-under targets t c q o obj fits own under = own-here targets t c (write.PunchAkey q) o obj fits own (punch-touched (write.PunchAkey q) c refl under)

-- the member of a cell's group that a command asks holds it
pub asked-own : (c : Cell) (o : ObjId) (k : List ℕ) (command targets : ℕ) → c.path.obj ≡ Some o → c.path.dkey ≡ Some k → is_own targets (asked_member o command targets (group_of o.class k targets)) c ≡ true
asked-own c o k command targets obj dkey =
    own-from_member c targets (asked_member o command targets (group_of o.class k targets)) (ap is_some dkey)
    (contains-from_has (path_members c.path targets) (asked_member o command targets (group_of o.class k targets)) (has-member c.path o k targets (asked_member o command targets (group_of o.class k targets)) obj dkey (asked-member o command targets (group_of o.class k targets))))

-- some member of its group does, the first one
pub some-own : (c : Cell) (o : ObjId) (k : List ℕ) (targets : ℕ) → c.path.obj ≡ Some o → c.path.dkey ≡ Some k → (t : ℕ) × (is_own targets t c ≡ true)
some-own c o k targets obj dkey = (asked_member o 0 targets (group_of o.class k targets), asked-own c o k 0 targets obj dkey)

-- the group of a dkey that an access asks, among those that it asks
pub record IsAskedAs (q : Path) (targets : ℕ) (g : ℕ) : Type 0 where
  pub n : ℕ
  pub low : n < max 1 (group_count q.obj q.dkey targets)
  pub same : group_asked q.obj q.dkey targets n ≡ g

pub group-is_asked : (q : Path) (c : Cell) (o : ObjId) (k : List ℕ) (targets : ℕ) → q.obj ≡ Some o → ClassFits o.class targets → leads_to q c.path ≡ true → c.path.dkey ≡ Some k → IsAskedAs q targets (group_of o.class k targets)
group-is_asked q c o k targets obj fits under dkey = by q.dkey refl
  where
    by : (x : Option (List ℕ)) → q.dkey ≡ x → IsAskedAs q targets (group_of o.class k targets)
    by None none =
        let within : group_of o.class k targets < groups o.class targets = group_of-within o.class k targets fits in
        let many : group_count q.obj q.dkey targets ≡ groups o.class targets = ap (λ z. group_count z q.dkey targets) obj ∙ ap (λ z. group_count (Some o) z targets) none in
        record {
          n = group_of o.class k targets;
          low = omega (arith, within, many);
          same = ap (λ z. group_asked z q.dkey targets (group_of o.class k targets)) obj ∙ ap (λ z. group_asked (Some o) z targets (group_of o.class k targets)) none;
        }
    by (Some j) some =
        let one : Some j ≡ Some k = sym (leads_to-dkey q c.path j some under) ∙ dkey in
        let same : j ≡ k = cc in
        record {
          n = 0;
          low = omega arith;
          same = ap (λ z. group_asked z q.dkey targets 0) obj ∙ ap (λ z. group_asked (Some o) z targets 0) some ∙ ap (λ z. group_of o.class z targets) same;
        }
