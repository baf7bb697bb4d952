-- What versions that go make of what is kept.
use Rattle.std.proofs.Common.{◌≡◌, ◌≤◌, Bool, true, false, not, List, refl, sym, ap, ◌∙◌, subst}
use Rattle.std.specs.Prelude.{All, filter, length}
use Rattle.base_types.specs.declared.entry.Entry.{Entry}
use Rattle.daos_model.specs.declared.durable.Version.{Version}
use Rattle.daos_model.specs.Changes.{with_versions}
use Rattle.daos_model.specs.Durables.{entry_key, version_key}
use Rattle.daos_model.specs.Ordered.{in_order}
use Rattle.daos_model.specs.Versions.{is_pending}
use Rattle.vos_entries.specs.Entries.{entries_in}
use Rattle.vos_tables.specs.vos_image.Kept.{Stored, counts, durable_of}
use Rattle.vos_tables.specs.vos_image.Places.{Places}
use Rattle.vos_keeping.specs.Keeping.{AllAreKept, CountedGo, EachCounts, RestCounts, UncountedGo, kept_so, versions_in}
use Rattle.vos_keeping.proofs.Lists.{fewer_left, filter_twice, filtered_in_order, of_filter, of_order, on_all}
use Rattle.vos_keeping.proofs.Settling.{all_count, kept_parts, kept_versions}

is_kept : (b : Bool) → not b ≡ false → b ≡ true
is_kept true e = refl
is_kept false e = absurd (cc)

same_entries : (x y : Stored) → y.1 ≡ x.1 → entries_in y.1 ≡ entries_in x.1
same_entries x y same = ap entries_in same

pub uncounted_go : UncountedGo
unfolding durable_of
uncounted_go goes p q x y same entries none gone =
    kept_parts p q x (kept_so p x).versions (kept_so p x).entries same y
    (ap (λ (es : List Entry). in_order version_key (filter (counts es) (versions_in y))) (same_entries x y entries)
    ∙ ap (in_order version_key) (ap (filter (counts (entries_in x.1))) gone ∙ filter_twice (counts (entries_in x.1)) (λ v. not (goes v)) (versions_in x) (on_all (λ v. goes v ≡ true → counts (entries_in x.1) v ≡ false) (λ v. not (goes v) ≡ false → counts (entries_in x.1) v ≡ false) (λ v on out. on (is_kept (goes v) out)) (versions_in x) none)))
    (ap (in_order entry_key) (same_entries x y entries))

rest_counts : (goes : Version → Bool) (es : List Entry) (x y : Stored) → entries_in y.1 ≡ es → All (λ v. not (goes v) ≡ true → counts es v ≡ true) (versions_in x) → versions_in y ≡ filter (λ v. not (goes v)) (versions_in x) → EachCounts y
rest_counts goes es x y entries all gone =
    subst (λ (z : List Entry). All (λ v. counts z v ≡ true) (versions_in y)) (sym entries)
    (subst (λ (z : List Version). All (λ v. counts es v ≡ true) z) (sym gone) (of_filter (λ v. counts es v ≡ true) (λ v. not (goes v)) (versions_in x) all))

pub rest_count : RestCounts
rest_count goes x y entries all gone = rest_counts goes (entries_in x.1) x y (same_entries x y entries) (on_all (λ v. counts (entries_in x.1) v ≡ not (goes v)) (λ v. not (goes v) ≡ true → counts (entries_in x.1) v ≡ true) (λ v is stays. is ∙ stays) (versions_in x) all) gone

same_order : (p : Places) (x y : Stored) → y.1 ≡ x.1 → in_order entry_key (entries_in y.1) ≡ (kept_so p x).entries
unfolding durable_of
same_order p x y same = ap (in_order entry_key) (same_entries x y same)

pub counted_go : CountedGo
unfolding with_versions
counted_go goes p q x y same each entries gone =
    let all : EachCounts y = rest_counts goes (entries_in x.1) x y (same_entries x y entries) (on_all (λ v. counts (entries_in x.1) v ≡ true) (λ v. not (goes v) ≡ true → counts (entries_in x.1) v ≡ true) (λ v is stays. is) (versions_in x) each) gone in
    record {
      kept = kept_parts p q x (filter (λ v. not (goes v)) (kept_so p x).versions) (kept_so p x).entries same y
          (ap (in_order version_key) (all_count y all ∙ gone) ∙ (filtered_in_order version_key (λ v. not (goes v)) (versions_in x) ∙ ap (filter (λ v. not (goes v))) (sym (kept_versions p x each))))
          (same_order p x y entries);
      count = all;
      wait = λ b. subst (λ (z : List Version). length (filter (is_pending b) z) ≤ length (filter (is_pending b) (versions_in x))) (sym gone) (fewer_left (is_pending b) (λ v. not (goes v)) (versions_in x));
    }

-- what holds of each version that is kept holds of each that stands there
pub those_stand : (P : Version → Type 0) (p : Places) (x : Stored) → EachCounts x → All P (kept_so p x).versions → All P (versions_in x)
those_stand P p x each all = of_order version_key P (versions_in x) (subst (λ (z : List Version). All P z) (kept_versions p x each) all)

pub all_are_kept : AllAreKept
all_are_kept t p x each all = those_stand (λ v. t v ≡ true) p x each all
