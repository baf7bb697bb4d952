-- What settling an attempt makes of what is kept.
use Rattle.std.proofs.Common.{◌≡◌, ℕ, ◌≤◌, true, false, List, [], ◌∷◌, map, ◌^◌, refl, sym, ap, ◌∙◌, subst, arith}
use Rattle.std.specs.Prelude.{All, bit_or, filter, length, if◌then◌else◌}
use Rattle.base_types.specs.declared.entry.Entry.{Entry}
use Rattle.base_types.specs.declared.id.AttemptId.{AttemptId}
use Rattle.daos_model.specs.declared.durable.Version.{Version}
use Rattle.daos_model.specs.Changes.{committed_at, confirmed_at, is_other, settled}
use Rattle.daos_model.specs.Durables.{entry_key, entry_of, same_attempt, version_key}
use Rattle.daos_model.specs.Ordered.{in_order}
use Rattle.daos_model.specs.Versions.{done_by, is_not_pending, is_pending}
use Rattle.vos_entries.specs.Entries.{Entries, IsCommittedAt, IsConfirmedAt, IsGoneAt, Listing, Stored as StoredEntry, committed, confirmed_by, entries_in, entry_of as entry_of_stored, is_listing_at, listing_of, listings}
use Rattle.vos_tables.specs.vos_image.Kept.{Stored, counts, durable_of}
use Rattle.vos_tables.specs.vos_image.Places.{Places}
use Rattle.vos_levels.specs.Levels.{things}
use Rattle.vos_keeping.specs.Keeping.{AbortSettles, CommitSettles, ConfirmSettles, EachCounts, ForgetSettles, SameRows, kept_so, versions_in}
use Rattle.vos_keeping.proofs.Attempts.{counts_committed, counts_confirmed, counts_forgotten, counts_other, waited}
use Rattle.vos_keeping.proofs.Lists.{all_stay, fewer_mapped, filtered_in_order, mapped_all, mapped_in_order, of_map, on_all, same_filter, without_all}
use Rattle.vos_keeping.proofs.Rising.{lone}

-- ---- entries

listed_entry : Listing → Entry
listed_entry l = l.entry

entries_listed : (xs : List StoredEntry) → map listed_entry (map listing_of xs) ≡ map entry_of_stored xs
unfolding listed_entry
entries_listed [] = refl
entries_listed (x ∷ xs) = ap (λ (z : List Entry). x.entry ∷ z) (entries_listed xs)

same_entries : (e : Entries) → entries_in e ≡ map listed_entry (listings e)
same_entries e = sym (entries_listed (things e))

entries_committed : (a : AttemptId) (e f : Entries) → IsCommittedAt a (listings e) (listings f) → entries_in f ≡ map (committed_at a) (entries_in e)
unfolding listed_entry same_attempt
entries_committed a e f is =
    same_entries f
    ∙ (ap (map listed_entry) is
    ∙ (mapped_all listed_entry (is_listing_at a) committed (committed_at a) (λ l. elim (same_attempt l.entry.attempt a) as (λ b. listed_entry (if b then committed l else l) ≡ (if b then record l.entry { committed = true } else l.entry)) [ true ↦ refl | false ↦ refl ]) (listings e)
    ∙ ap (map (committed_at a)) (sym (same_entries e))))

entries_confirmed : (a : AttemptId) (t : ℕ) (e f : Entries) → IsConfirmedAt a t (listings e) (listings f) → entries_in f ≡ map (confirmed_at a t) (entries_in e)
unfolding listed_entry same_attempt
entries_confirmed a t e f is =
    same_entries f
    ∙ (ap (map listed_entry) is
    ∙ (mapped_all listed_entry (is_listing_at a) (confirmed_by t) (confirmed_at a t) (λ l. elim (same_attempt l.entry.attempt a) as (λ b. listed_entry (if b then confirmed_by t l else l) ≡ (if b then record l.entry { confirmed = bit_or l.entry.confirmed (2 ^ t) } else l.entry)) [ true ↦ refl | false ↦ refl ]) (listings e)
    ∙ ap (map (confirmed_at a t)) (sym (same_entries e))))

entries_gone : (a : AttemptId) (e f : Entries) → IsGoneAt a (listings e) (listings f) → entries_in f ≡ filter (is_other a) (entries_in e)
unfolding listed_entry same_attempt
entries_gone a e f is =
    same_entries f
    ∙ (ap (map listed_entry) is
    ∙ (without_all listed_entry (is_listing_at a) (is_other a) (λ l. refl) (listings e)
    ∙ ap (filter (is_other a)) (sym (same_entries e))))

-- ---- what is kept

-- by its parts
pub kept_parts : (p q : Places) (x : Stored) (vs : List Version) (es : List Entry) → SameRows p q → (y : Stored) → in_order version_key (filter (counts (entries_in y.1)) (versions_in y)) ≡ vs → in_order entry_key (entries_in y.1) ≡ es
    → kept_so q y ≡ record (kept_so p x) { versions = vs; entries = es }
unfolding durable_of
kept_parts p q x vs es same y versions entries = cc (same.conts, same.snaps, same.lease, same.incarnation, versions, entries)

pub all_count : (x : Stored) → EachCounts x → filter (counts (entries_in x.1)) (versions_in x) ≡ versions_in x
all_count x each = all_stay (counts (entries_in x.1)) (versions_in x) each

-- the versions of what is kept are those in blocks, in order
pub kept_versions : (p : Places) (x : Stored) → EachCounts x → (kept_so p x).versions ≡ in_order version_key (versions_in x)
unfolding durable_of
kept_versions p x each = ap (in_order version_key) (all_count x each)

kept_entries : (p : Places) (x : Stored) → (kept_so p x).entries ≡ in_order entry_key (entries_in x.1)
unfolding durable_of
kept_entries p x = refl

same_key_committed : (a : AttemptId) (e : Entry) → entry_key (committed_at a e) ≡ entry_key e
same_key_committed a e = elim (same_attempt e.attempt a) as (λ b. entry_key (if b then record e { committed = true } else e) ≡ entry_key e) [ true ↦ refl | false ↦ refl ]

same_key_confirmed : (a : AttemptId) (t : ℕ) (e : Entry) → entry_key (confirmed_at a t e) ≡ entry_key e
same_key_confirmed a t e = elim (same_attempt e.attempt a) as (λ b. entry_key (if b then record e { confirmed = bit_or e.confirmed (2 ^ t) } else e) ≡ entry_key e) [ true ↦ refl | false ↦ refl ]

same_key_done : (a : AttemptId) (v : Version) → version_key (done_by a v) ≡ version_key v
unfolding done_by
same_key_done a v = refl

-- every version counts that is one of these
count_as : (es : List Entry) (y : Stored) (vs : List Version) → entries_in y.1 ≡ es → versions_in y ≡ vs → All (λ v. counts es v ≡ true) vs → EachCounts y
count_as es y vs entries versions all =
    subst (λ (z : List Entry). All (λ v. counts z v ≡ true) (versions_in y)) (sym entries) (subst (λ (z : List Version). All (λ v. counts es v ≡ true) z) (sym versions) all)

pub commit_settles : CommitSettles
unfolding settled
commit_settles a p q x y same each versions is =
    let entries = entries_committed a x.1 y.1 is in
    let all : EachCounts y = count_as (map (committed_at a) (entries_in x.1)) y (map (done_by a) (versions_in x)) entries versions
    (of_map (λ v. counts (map (committed_at a) (entries_in x.1)) v ≡ true) (done_by a) (versions_in x) (on_all (λ v. counts (entries_in x.1) v ≡ true) (λ v. counts (map (committed_at a) (entries_in x.1)) (done_by a v) ≡ true) (counts_committed a (entries_in x.1)) (versions_in x) each)) in
    record {
      kept = kept_parts p q x (map (done_by a) (kept_so p x).versions) (map (committed_at a) (kept_so p x).entries) same y
          (ap (in_order version_key) (all_count y all ∙ versions) ∙ (mapped_in_order version_key (done_by a) (same_key_done a) (versions_in x) ∙ ap (map (done_by a)) (sym (kept_versions p x each))))
          (ap (in_order entry_key) entries ∙ (mapped_in_order entry_key (committed_at a) (same_key_committed a) (entries_in x.1) ∙ ap (map (committed_at a)) (sym (kept_entries p x))));
      count = all;
      wait = λ b. subst (λ (z : List Version). length (filter (is_pending b) z) ≤ length (filter (is_pending b) (versions_in x))) (sym versions) (fewer_mapped (is_pending b) (done_by a) (waited a b) (versions_in x));
    }

stay_waiting : (x y : Stored) → versions_in y ≡ versions_in x → (b : AttemptId) → length (filter (is_pending b) (versions_in y)) ≤ length (filter (is_pending b) (versions_in x))
stay_waiting x y versions b = subst (λ (z : List Version). length (filter (is_pending b) z) ≤ length (filter (is_pending b) (versions_in x))) (sym versions) (omega arith)

pub confirm_settles : ConfirmSettles
unfolding settled
confirm_settles a t p q x y same each versions is =
    let entries = entries_confirmed a t x.1 y.1 is in
    let all : EachCounts y = count_as (map (confirmed_at a t) (entries_in x.1)) y (versions_in x) entries versions
    (on_all (λ v. counts (entries_in x.1) v ≡ true) (λ v. counts (map (confirmed_at a t) (entries_in x.1)) v ≡ true) (λ v h. counts_confirmed a t (entries_in x.1) v ∙ h) (versions_in x) each) in
    record {
      kept = kept_parts p q x (kept_so p x).versions (map (confirmed_at a t) (kept_so p x).entries) same y
          (ap (in_order version_key) (all_count y all ∙ versions) ∙ sym (kept_versions p x each))
          (ap (in_order entry_key) entries ∙ (mapped_in_order entry_key (confirmed_at a t) (same_key_confirmed a t) (entries_in x.1) ∙ ap (map (confirmed_at a t)) (sym (kept_entries p x))));
      count = all;
      wait = stay_waiting x y versions;
    }

pub forget_settles : ForgetSettles
unfolding settled entry_of durable_of
forget_settles m a e p q x y same each held found done versions is =
    let entries = entries_gone a x.1 y.1 is in
    let lone_one = lone m x.1 a e held found done in
    let all : EachCounts y = count_as (filter (is_other a) (entries_in x.1)) y (versions_in x) entries versions
    (on_all (λ v. counts (entries_in x.1) v ≡ true) (λ v. counts (filter (is_other a) (entries_in x.1)) v ≡ true) (λ v h. counts_forgotten a (entries_in x.1) v lone_one h) (versions_in x) each) in
    record {
      kept = kept_parts p q x (kept_so p x).versions (filter (is_other a) (kept_so p x).entries) same y
          (ap (in_order version_key) (all_count y all ∙ versions) ∙ sym (kept_versions p x each))
          (ap (in_order entry_key) entries ∙ (filtered_in_order entry_key (is_other a) (entries_in x.1) ∙ ap (filter (is_other a)) (sym (kept_entries p x))));
      count = all;
      wait = stay_waiting x y versions;
    }

pub abort_settles : AbortSettles
unfolding settled
abort_settles a p q x y same each versions is =
    let entries = entries_gone a x.1 y.1 is in
    let those = on_all (λ v. counts (entries_in x.1) v ≡ true) (λ v. counts (filter (is_other a) (entries_in x.1)) v ≡ is_not_pending a v) (counts_other a (entries_in x.1)) (versions_in x) each in
    let counting : All (λ v. counts (entries_in y.1) v ≡ is_not_pending a v) (versions_in y) =
    subst (λ (z : List Entry). All (λ v. counts z v ≡ is_not_pending a v) (versions_in y)) (sym entries) (subst (λ (z : List Version). All (λ v. counts (filter (is_other a) (entries_in x.1)) v ≡ is_not_pending a v) z) (sym versions) those) in
    record {
      kept = kept_parts p q x (filter (is_not_pending a) (kept_so p x).versions) (filter (is_other a) (kept_so p x).entries) same y
          (ap (in_order version_key) (same_filter (counts (entries_in y.1)) (is_not_pending a) (versions_in y) counting ∙ ap (filter (is_not_pending a)) versions)
          ∙ (filtered_in_order version_key (is_not_pending a) (versions_in x) ∙ ap (filter (is_not_pending a)) (sym (kept_versions p x each))))
          (ap (in_order entry_key) entries ∙ (filtered_in_order entry_key (is_other a) (entries_in x.1) ∙ ap (filter (is_other a)) (sym (kept_entries p x))));
      count = counting;
      wait = stay_waiting x y versions;
    }
