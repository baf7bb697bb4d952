-- The limit up to which a target prunes a container lies below all that isn't settled there.
use Rattle.std.specs.Prelude.{◌≡◌, ◌≤◌, ◌<◌, ◌-◌, ◌+◌, ◌==◌, ◌⊎◌, Bool, true, false, ◌&&◌, not, min, nat_lt, List, [], ◌∷◌, find, Contains, Option, Some, None, refl, if◌then◌else◌}
use Rattle.std.proofs.Common.{◌∙◌, ap, inl, inr, arith}
use Rattle.std.proofs.lemmas.Bool.{cases_lt}
use Rattle.std.proofs.lemmas.Bool.Decides.{nat_tests}
use Rattle.base_types.specs.declared.epoch.Epoch.{Epoch}
use Rattle.base_types.specs.declared.id.ContId.{ContId}
use Rattle.daos_model.specs.declared.durable.Version.{Version}
use Rattle.daos_model.specs.Answers.{is_before}
use Rattle.daos_model.specs.BoolLaws.{and_left, and_right, both, clash, not_true, or_left}
use Rattle.daos_model.specs.Durables.{row_of, version_key}
use Rattle.daos_model.specs.Opening.{top}
use Rattle.daos_model.specs.Ordered.{all_from, is_in_order}
use Rattle.daos_model.specs.Versions.{version_path}
use Rattle.model_laws.specs.EntryLaws.{found-has, found-passes}
use Rattle.model_laws.specs.Members.{Has, contains-from_has, has-from_contains}
use Rattle.model_laws.specs.RisingLaws.{from-has}
use Rattle.world_commit.specs.world_base.Snapshots.{below_open, is_open_in, prune_limit}
use Rattle.world_contents.specs.frozen.Laws.{LimitsAreClear, MayBePruned}
use Rattle.world_contents.specs.reads.ListLaws.{none-found}

-- in order none is of a lower epoch than one that stands earlier
after-epoch : (v w : Version) → is_before (version_key w) (version_key v) ≡ false → v.epoch.0 ≤ w.epoch.0
after-epoch v w h = let off = or_left (nat_lt w.epoch.0 v.epoch.0) _ h in grind (arith, nat_tests)

-- the first version that passes a test is of the least epoch
first-least : (p : Version → Bool) (vs : List Version) (v w : Version) → is_in_order version_key vs ≡ true → find p vs ≡ Some v → Has w vs → p w ≡ true → v.epoch.0 ≤ w.epoch.0
first-least p [] v w order found i is = absurd i
first-least p (u ∷ us) v w order found i is = by (p u) refl (first-least p us v w (and_right (all_from version_key (version_key u) us) (is_in_order version_key us) order)) found i
  where
    from : Has w us → u.epoch.0 ≤ w.epoch.0
    from j = after-epoch u w (not_true (is_before (version_key w) (version_key u)) (from-has version_key (version_key u) us w (and_left (all_from version_key (version_key u) us) (is_in_order version_key us) order) j))

    by : (b : Bool) → p u ≡ b → (find p us ≡ Some v → Has w us → p w ≡ true → v.epoch.0 ≤ w.epoch.0) → (if b then Some u else find p us) ≡ Some v → Has w (u ∷ us) → v.epoch.0 ≤ w.epoch.0
    by true e rest f (inl same) = let one : u ≡ v = cc in let at : w.epoch.0 ≡ v.epoch.0 = ap (λ x. x.epoch.0) (same ∙ one) in omega (arith, at)
    by true e rest f (inr j) = let one : u ≡ v = cc in let at : u.epoch.0 ≡ v.epoch.0 = ap (λ x. x.epoch.0) one in let le = from j in omega (arith, at, le)
    by false e rest f (inl same) = clash (p w) is (ap p same ∙ e)
    by false e rest f (inr j) = rest f j is

-- a version is open in a container at or below an epoch
is-open : (c : ContId) (g : Epoch) (v : Version) → v.done ≡ false → (version_path v).cont.0 ≡ c.0 → v.epoch.0 ≤ g.0 → is_open_in c g v ≡ true
is-open c g v off at le =
    both (not v.done && ((version_path v).cont.0 == c.0)) (nat_lt v.epoch.0 (g.0 + 1)) (both (not v.done) ((version_path v).cont.0 == c.0) (ap not off) (grind (arith, nat_tests))) (grind (arith, nat_tests))

-- what is found is no higher than the limit's epoch, and isn't settled
open-done : (c : ContId) (g : Epoch) (v : Version) → is_open_in c g v ≡ true → v.done ≡ false
open-done c g v is = not_true v.done (and_left (not v.done) ((version_path v).cont.0 == c.0) (and_left (not v.done && ((version_path v).cont.0 == c.0)) (nat_lt v.epoch.0 (g.0 + 1)) is))

pub limits-clear : LimitsAreClear
unfolding prune_limit
limits-clear r o held h t c g d k above known high due = by (find (is_open_in c g) d.versions) refl due
  where
    by : (first : Option Version) → find (is_open_in c g) d.versions ≡ first → nat_lt (row_of d c).aggregated.0 (below_open g first).0 ≡ true → MayBePruned o c (below_open g first) d
    by None none due = record {
      known = known;
      opening = high;
      higher = grind (arith, nat_tests);
      clear = λ v i off at. by_epoch v i off at (cases_lt g.0 v.epoch.0);
    }
      where
        by_epoch : (v : Version) → Contains d.versions v → v.done ≡ false → (version_path v).cont.0 ≡ c.0 → (g.0 < v.epoch.0) ⊎ (v.epoch.0 ≤ g.0) → g.0 < v.epoch.0
        by_epoch v i off at (inl lt) = lt
        by_epoch v i off at (inr le) = clash (is_open_in c g v) (is-open c g v off at le) (none-found (is_open_in c g) d.versions v none (has-from_contains d.versions v i))
    by (Some u) found due = record {
      known = known;
      opening = let lt = low in omega (arith, lt, high);
      higher = grind (arith, nat_tests);
      clear = λ v i off at. by_epoch v i off at (cases_lt g.0 v.epoch.0);
    }
      where
        there : Contains d.versions u
        there = contains-from_has d.versions u (found-has (is_open_in c g) d.versions u found)

        low : top o < u.epoch.0
        low = above u there (open-done c g u (found-passes (is_open_in c g) d.versions u found))

        by_epoch : (v : Version) → Contains d.versions v → v.done ≡ false → (version_path v).cont.0 ≡ c.0 → (g.0 < v.epoch.0) ⊎ (v.epoch.0 ≤ g.0) → min g.0 (u.epoch.0 - 1) < v.epoch.0
        by_epoch v i off at (inl lt) = omega (arith, lt)
        by_epoch v i off at (inr le) =
            let least = first-least (is_open_in c g) d.versions u v k.single.in_order found (has-from_contains d.versions v i) (is-open c g v off at le) in
            let lt = low in
            omega (arith, least, lt)
