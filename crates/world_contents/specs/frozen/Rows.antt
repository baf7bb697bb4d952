-- What becomes of a container's row where rows are changed one by one.
use Rattle.std.specs.Prelude.{ℕ, ◌≡◌, ◌≢◌, ◌≤◌, ◌<◌, Bool, true, false, ◌||◌, nat_lt, List, [], ◌∷◌, map, find, Option, Some, None, refl, if◌then◌else◌}
use Rattle.std.specs.List.{list_any}
use Rattle.std.specs.Option.{option_map}
use Rattle.std.proofs.Common.{sym, ◌∙◌, subst, arith}
use Rattle.std.proofs.lemmas.Bool.Decides.{nat_tests}
use Rattle.base_types.specs.declared.epoch.Epoch.{Epoch}
use Rattle.base_types.specs.declared.id.ContId.{ContId}
use Rattle.base_types.specs.declared.outcome.FloorWhy.{FloorWhy}
use Rattle.base_types.specs.declared.outcome.FloorWhy.TheVariants.{Aggregate}
use Rattle.daos_model.specs.declared.durable.ContRow.{ContRow}
use Rattle.daos_model.specs.Changes.{aggregated_to, marked_at, raised, raised_at}
use Rattle.daos_model.specs.Durables.{is_row_of, new_row, row_or_new}
use Rattle.model_laws.specs.EntryLaws.{find-map, found-passes}
use Rattle.model_laws.specs.TargetLaws.{number_same}

-- the row of a container among rows
abbrev row_in : ContId → List ContRow → ContRow
row_in k rows = row_or_new k (find (is_row_of k) rows)

-- where one passes a test, one is found
any-found : {T : Type 0} (p : T → Bool) (xs : List T) → list_any p xs ≡ true → (x : T) × (find p xs ≡ Some x)
any-found p [] is = let no : ⊥ = cc in absurd no
any-found {T = T} p (x ∷ xs) is = by (any-found p xs) (p x) refl is
  where
    by : (list_any p xs ≡ true → (y : T) × (find p xs ≡ Some y)) → (b : Bool) → p x ≡ b → (b || list_any p xs) ≡ true → (y : T) × ((if b then Some x else find p xs) ≡ Some y)
    by rest true e h = (x, refl)
    by rest false e h = rest h

module _ (f : ContRow → ContRow) (k : ContId) (same : (r : ContRow) → is_row_of k (f r) ≡ is_row_of k r) where
  -- a row becomes what its change makes of it, and one that isn't there stays so
  pub row-each : (P : ContRow → ContRow → Type 0) (rows : List ContRow) → P (new_row k) (new_row k) → ((r : ContRow) → is_row_of k r ≡ true → P r (f r)) → P (row_in k rows) (row_in k (map f rows))
  row-each P rows new each = subst (λ o. P (row_in k rows) (row_or_new k o)) (sym (find-map (is_row_of k) f rows same)) (by (find (is_row_of k) rows) refl)
    where
      by : (o : Option ContRow) → find (is_row_of k) rows ≡ o → P (row_or_new k o) (row_or_new k (option_map f o))
      by None e = new
      by (Some r) e = each r (found-passes (is_row_of k) rows r e)

  -- of a container that is there it is the change of a row
  pub row-there : (P : ContRow → ContRow → Type 0) (rows : List ContRow) → list_any (is_row_of k) rows ≡ true → ((r : ContRow) → is_row_of k r ≡ true → P r (f r)) → P (row_in k rows) (row_in k (map f rows))
  row-there P rows there each =
      let z = any-found (is_row_of k) rows there in
      subst (λ o. P (row_in k rows) (row_or_new k o)) (sym (find-map (is_row_of k) f rows same))
      (subst (λ o. P (row_or_new k o) (row_or_new k (option_map f o))) (sym z.1) (each z.0 (found-passes (is_row_of k) rows z.0 z.1)))

-- ---- a floor that is raised

-- a floor goes up or stays, and what was aggregated stays
pub record FloorRises (r q : ContRow) : Type 0 where
  pub floor : r.floor.0 ≤ q.floor.0
  pub aggregated : q.aggregated ≡ r.aggregated

pub floor-itself : (r : ContRow) → FloorRises r r
floor-itself r = record { floor = omega arith; aggregated = refl }

raised-rises : (e : Epoch) (why : FloorWhy) (r : ContRow) → FloorRises r (raised e why r)
raised-rises e why r = by (nat_lt r.floor.0 e.0) refl
  where
    by : (b : Bool) → nat_lt r.floor.0 e.0 ≡ b → FloorRises r (if b then record r { floor = e; why = why } else r)
    by true is = record { floor = let lt : r.floor.0 < e.0 = grind (arith, nat_tests) in omega (arith, lt); aggregated = refl }
    by false is = floor-itself r

-- it is at or above what it is raised to
raised-reaches : (e : Epoch) (why : FloorWhy) (r : ContRow) → e.0 ≤ (raised e why r).floor.0
raised-reaches e why r = by (nat_lt r.floor.0 e.0) refl
  where
    by : (b : Bool) → nat_lt r.floor.0 e.0 ≡ b → e.0 ≤ (if b then record r { floor = e; why = why } else r).floor.0
    by true is = omega arith
    by false is = grind (arith, nat_tests)

of-raised : (k : ContId) (e : Epoch) (why : FloorWhy) (r : ContRow) → is_row_of k (raised e why r) ≡ is_row_of k r
of-raised k e why r = by (nat_lt r.floor.0 e.0)
  where
    by : (b : Bool) → is_row_of k (if b then record r { floor = e; why = why } else r) ≡ is_row_of k r
    by true = refl
    by false = refl

pub of-raised_at : (k c : ContId) (e : Epoch) (why : FloorWhy) (r : ContRow) → is_row_of k (raised_at c e why r) ≡ is_row_of k r
of-raised_at k c e why r = by (is_row_of c r)
  where
    by : (b : Bool) → is_row_of k (if b then raised e why r else r) ≡ is_row_of k r
    by true = of-raised k e why r
    by false = refl

pub raised_at-rises : (c : ContId) (e : Epoch) (why : FloorWhy) (r : ContRow) → FloorRises r (raised_at c e why r)
raised_at-rises c e why r = by (is_row_of c r)
  where
    by : (b : Bool) → FloorRises r (if b then raised e why r else r)
    by true = raised-rises e why r
    by false = floor-itself r

pub raised_at-reaches : (c : ContId) (e : Epoch) (why : FloorWhy) (r : ContRow) → is_row_of c r ≡ true → e.0 ≤ (raised_at c e why r).floor.0
raised_at-reaches c e why r is = subst (λ (b : Bool). e.0 ≤ (if b then raised e why r else r).floor.0) (sym is) (raised-reaches e why r)

-- ---- what was aggregated is marked

-- a container's row once it was aggregated up to an epoch
pub record IsMarked (upto : Epoch) (r q : ContRow) : Type 0 where
  pub floor : r.floor.0 ≤ q.floor.0
  pub reaches : upto.0 ≤ q.floor.0
  pub aggregated : r.aggregated.0 < upto.0 → q.aggregated ≡ upto

pub row-marked : (c : ContId) (upto : Epoch) (n : ℕ) (r : ContRow) → is_row_of c r ≡ true → IsMarked upto r (marked_at c upto n r)
row-marked c upto n r is = subst (λ (b : Bool). IsMarked upto r (if b then raised upto (Aggregate n) (aggregated_to upto n r) else r)) (sym is) (record {
  floor = by (nat_lt r.aggregated.0 upto.0);
  reaches = raised-reaches upto (Aggregate n) (aggregated_to upto n r);
  aggregated = λ lt. (raised-rises upto (Aggregate n) (aggregated_to upto n r)).aggregated ∙ to (nat_lt r.aggregated.0 upto.0) (grind (arith, nat_tests));
})
  where
    by : (b : Bool) → r.floor.0 ≤ (raised upto (Aggregate n) (if b then record r { aggregated = upto; number = n } else r)).floor.0
    by true = (raised-rises upto (Aggregate n) (record r { aggregated = upto; number = n })).floor
    by false = (raised-rises upto (Aggregate n) r).floor

    to : (b : Bool) → b ≡ true → (if b then record r { aggregated = upto; number = n } else r).aggregated ≡ upto
    to true e = refl
    to false e = let no : ⊥ = cc in absurd no

of-aggregated : (k : ContId) (upto : Epoch) (n : ℕ) (r : ContRow) → is_row_of k (aggregated_to upto n r) ≡ is_row_of k r
of-aggregated k upto n r = by (nat_lt r.aggregated.0 upto.0)
  where
    by : (b : Bool) → is_row_of k (if b then record r { aggregated = upto; number = n } else r) ≡ is_row_of k r
    by true = refl
    by false = refl

pub of-marked_at : (k c : ContId) (upto : Epoch) (n : ℕ) (r : ContRow) → is_row_of k (marked_at c upto n r) ≡ is_row_of k r
of-marked_at k c upto n r = by (is_row_of c r)
  where
    by : (b : Bool) → is_row_of k (if b then raised upto (Aggregate n) (aggregated_to upto n r) else r) ≡ is_row_of k r
    by true = of-raised k upto (Aggregate n) (aggregated_to upto n r) ∙ of-aggregated k upto n r
    by false = refl

-- the row of another container stays
pub marks-other : (k c : ContId) (upto : Epoch) (n : ℕ) (r : ContRow) → k.0 ≢ c.0 → is_row_of k r ≡ true → marked_at c upto n r ≡ r
marks-other k c upto n r apart is = by (is_row_of c r) refl
  where
    by : (b : Bool) → is_row_of c r ≡ b → (if b then raised upto (Aggregate n) (aggregated_to upto n r) else r) ≡ r
    by true own = absurd (apart (sym (number_same r.cont.0 k.0 is) ∙ number_same r.cont.0 c.0 own))
    by false other = refl
