-- What is kept of a table is in form.
use Rattle.std.proofs.Common.{◌≡◌, ℕ, ◌==◌, ◌||◌, Bool, true, false, List, [], ◌∷◌, ◌++◌, refl, ◌∙◌, arith}
use Rattle.std.specs.Prelude.{◌≢◌, All}
use Rattle.std.specs.List.{list_all, list_any}
use Rattle.std.proofs.lemmas.Bool.Decides.{nat_tests}
use Rattle.std.proofs.lemmas.List.Elements.{All-head, All-tail}
use Rattle.base_types.specs.declared.epoch.Epoch.{Epoch}
use Rattle.base_types.specs.declared.outcome.FloorWhy.{FloorWhy}
use Rattle.base_types.specs.declared.outcome.FloorWhy.TheVariants.{Aggregate, Opening, Restart, Snapshot}
use Rattle.daos_model.specs.declared.durable.ContRow.{ContRow}
use Rattle.daos_model.specs.BoolLaws.{or_from_right}
use Rattle.daos_model.specs.Durables.{cont_key, is_floor_in_form, is_stored_why, snap_key}
use Rattle.daos_model.specs.FormLaws.{absent_rows, all-put}
use Rattle.daos_model.specs.OrderLaws.{rising-put}
use Rattle.daos_model.specs.Ordered.{in_order, is_rising}
use Rattle.vos_places.specs.Codec.{IsContUnder, IsStoredFloor}
use Rattle.vos_places.specs.Laws.{covered_by}
use Rattle.vos_places.specs.Tables.{Table, those}
use Rattle.vos_tables.specs.Laws.{IsKeptInForm}
use Rattle.vos_tables.specs.Tables.{IsTable}
use Rattle.vos_tables.proofs.Lone.{absent_snaps, eqb_turned, new_conts, new_snaps, same_cont, same_snap, snaps_turned}
use Rattle.vos_tables.proofs.Places.{AreNew, any_in_order, fewer_used, last_of, later, length_in_order}

-- rows of which each is new stand in order once each
rising : {T : Type 0} (key : T → List ℕ) (same : T → T → Bool) → ((x y : T) → same x y ≡ same y x) → ((x : T) (ys : List T) → list_any (same x) ys ≡ false → All (λ y. key y ≢ key x) ys) → (before xs : List T) → AreNew same before xs
    → is_rising key (in_order key xs) ≡ true
unfolding in_order
rising key same turned apart before [] n = refl
rising key same turned apart before (x ∷ xs) n =
    let none : list_any (same x) xs ≡ false = later same turned x (before ++ x ∷ []) xs (λ r h. last_of same r x before h) n.1 in
    rising-put key x (in_order key xs) (apart x (in_order key xs) (any_in_order key (same x) xs ∙ none)) (rising key same turned apart (before ++ x ∷ []) xs n.1)

floor_form : (floor : Epoch) (why : FloorWhy) → IsStoredFloor floor why → ((floor.0 == 0) || is_stored_why why) ≡ true
floor_form floor Opening h = let z : (floor.0 == 0) ≡ true = grind (arith, nat_tests) in rw z refl
floor_form floor (Restart n) h = absurd h
floor_form floor (Snapshot s) h = or_from_right (floor.0 == 0) true refl
floor_form floor (Aggregate n) h = or_from_right (floor.0 == 0) true refl

floors : (covered : ℕ) (rows : List ContRow) → All (IsContUnder covered) rows → list_all is_floor_in_form (in_order cont_key rows) ≡ true
unfolding in_order
floors covered [] h = refl
floors covered (r ∷ rows) h =
    let one = All-head (IsContUnder covered) r rows h in
    all-put is_floor_in_form cont_key r (in_order cont_key rows) (floor_form r.floor r.why one.why) (floors covered rows (All-tail (IsContUnder covered) r rows h))

pub kept_in_form : (t : Table) → IsTable t → IsKeptInForm t
kept_in_form t h vs es versions writes entries = record {
  versions = versions;
  writes = writes;
  entries = entries;
  conts = rising cont_key same_cont (λ x y. eqb_turned y.cont.0 x.cont.0) (λ x ys none. absent_rows x.cont ys none) [] (those t.conts) (new_conts [] (those t.conts) h.apart.0);
  floors = floors (covered_by t.header) (those t.conts) h.rows;
  snaps = rising snap_key same_snap snaps_turned (λ x ys none. absent_snaps x.cont x.epoch ys none) [] (those t.snaps) (new_snaps (those t.conts) [] (those t.snaps) h.apart.1);
  few_conts = omega (arith, length_in_order cont_key (those t.conts), fewer_used t.conts, h.many_conts);
  few_snaps = omega (arith, length_in_order snap_key (those t.snaps), fewer_used t.snaps, h.many_snaps);
  lease = h.counters.lease;
}
