-- What is kept once an entry came behind the versions of its writes.
use Rattle.std.specs.Prelude.{◌≢◌, All, filter, ◌||◌, ◌==◌}
use Rattle.std.specs.List.{list_any}
use Rattle.std.proofs.Common.{◌≡◌, ℕ, Bool, true, false, List, [], ◌∷◌, map, refl, sym, ap, ◌∙◌, subst, arith}
use Rattle.std.proofs.lemmas.Bool.Decides.{nat_tests}
use Rattle.std.proofs.lemmas.List.Elements.{All-cons, All-head, All-nil, All-tail}
use Rattle.std.proofs.lemmas.List.Folds.{list_any-append, list_any_none}
use Rattle.base_types.specs.declared.entry.Entry.{Entry}
use Rattle.base_types.specs.declared.id.AttemptId.{AttemptId}
use Rattle.base_types.specs.declared.operation.MinorWrite.{MinorWrite}
use Rattle.daos_model.specs.declared.durable.Version.{Version}
use Rattle.daos_model.specs.Changes.{prepared}
use Rattle.daos_model.specs.Durables.{attempt_key, entry_key, same_attempt, version_key}
use Rattle.daos_model.specs.EntryLaws.{same_attempt-itself}
use Rattle.daos_model.specs.Ordered.{in_order, put, puts}
use Rattle.daos_model.specs.Versions.{version_of, versions_of}
use Rattle.vos_entries.specs.Entries.{Entries, Listing, Stored as StoredEntry, entries_in, entry_of, has_entry_at, is_at, listing_of, listings}
use Rattle.vos_image.specs.Kept.{Stored, counts, durable_of, is_prepared_for}
use Rattle.vos_levels.specs.Levels.{HasMore, things}
use Rattle.vos_path.specs.Objects.{objects_versions}
use Rattle.vos_path.proofs.Lists.{more_map}
use Rattle.vos_places.specs.Tables.{Table, places_of}
use Rattle.vos_pool_base.specs.Tidy.{AllCount}
use Rattle.vos_pool_write.specs.Lists.{AreNew, HaveMore}
use Rattle.vos_pool_write.specs.Prepared.{EntriesPrepare}
use Rattle.vos_pool_write.specs.Several.{AllUnseen}
use Rattle.vos_pool_write.proofs.Lists.{all_have, filter_all, filter_have_none, one_in_order, several_in_order}
use Rattle.vos_tables.specs.Kept.{kept_with}

-- ---- entries

listed_entries : (xs : List StoredEntry) → map (λ (l : Listing). l.entry) (map listing_of xs) ≡ map entry_of xs
listed_entries [] = refl
listed_entries (s ∷ xs) = ap (λ (es : List Entry). s.entry ∷ es) (listed_entries xs)

pub entries_more : (e : Entry) (g h : Entries) → HasMore (record { entry = e; nodes = [] }) (listings g) (listings h) → HasMore e (entries_in g) (entries_in h)
entries_more e g h m =
    let k = more_map (λ (l : Listing). l.entry) (record { entry = e; nodes = [] }) (listings g) (listings h) m in
    subst (λ (es : List Entry). HasMore e (entries_in g) es) (listed_entries (things h)) (subst (λ (es : List Entry). HasMore e es (map (λ (l : Listing). l.entry) (listings h))) (listed_entries (things g)) k)

off_left : (a b : Bool) → (a || b) ≡ false → a ≡ false
off_left false b h = refl
off_left true b h = let no : ⊥ = cc in absurd no

off_right : (a b : Bool) → (a || b) ≡ false → b ≡ false
off_right false b h = h
off_right true b h = let no : ⊥ = cc in absurd no

-- none of the entries is of this attempt
pub absent_all : (a : AttemptId) (xs : List StoredEntry) → has_entry_at a xs ≡ false → All (λ (e : Entry). same_attempt e.attempt a ≡ false) (map entry_of xs)
unfolding same_attempt
absent_all a [] h = All-nil (λ (e : Entry). same_attempt e.attempt a ≡ false)
absent_all a (s ∷ xs) h = All-cons (λ (e : Entry). same_attempt e.attempt a ≡ false) s.entry (map entry_of xs) (off_left (is_at a s) (list_any (is_at a) xs) h) (absent_all a xs (off_right (is_at a s) (list_any (is_at a) xs) h))

pub on_each_of : {A : Type 0} (P Q : A → Type 0) → ((a : A) → P a → Q a) → (xs : List A) → All P xs → All Q xs
on_each_of P Q on [] h = All-nil Q
on_each_of P Q on (x ∷ xs) h = All-cons Q x xs (on x (All-head P x xs h)) (on_each_of P Q on xs (All-tail P x xs h))

same_key : (a b : AttemptId) → attempt_key a ≡ attempt_key b → same_attempt a b ≡ true
same_key a b is =
    let client : a.client ≡ b.client = cc in
    let command : a.command ≡ b.command = cc in
    let attempt : a.attempt ≡ b.attempt = cc in
    subst (λ (z : AttemptId). same_attempt a z ≡ true) (ap (λ (n : ℕ). let z : AttemptId = record { client = n; command = a.command; attempt = a.attempt } in z) client ∙ (ap (λ (n : ℕ). let z : AttemptId = record { client = b.client; command = n; attempt = a.attempt } in z) command ∙ ap (λ (n : ℕ). let z : AttemptId = record { client = b.client; command = b.command; attempt = n } in z) attempt)) (same_attempt-itself a)

both_of : (b : Bool) → b ≡ true → b ≡ false → ⊥
both_of true t f = let no : ⊥ = cc in no
both_of false t f = let no : ⊥ = cc in no

other_keys : (e : Entry) (es : List Entry) → All (λ (x : Entry). same_attempt x.attempt e.attempt ≡ false) es → All (λ x. entry_key x ≢ entry_key e) es
other_keys e es h = on_each_of (λ (x : Entry). same_attempt x.attempt e.attempt ≡ false) (λ x. entry_key x ≢ entry_key e) (λ x off is. both_of (same_attempt x.attempt e.attempt) (same_key x.attempt e.attempt is) off) es h

-- ---- what counts

not_prepared : (v : Version) (e : Entry) (s : Bool) → same_attempt e.attempt v.by ≡ s → s ≡ false → is_prepared_for v e ≡ false
not_prepared v e false is off = rw is refl
not_prepared v e true is off = let no : ⊥ = cc in absurd no

pub not_counted : (v : Version) (es : List Entry) → v.done ≡ false → All (λ (x : Entry). same_attempt x.attempt v.by ≡ false) es → counts es v ≡ false
unfolding counts
not_counted v es undone h =
    let none = list_any_none (is_prepared_for v) es (on_each_of (λ (x : Entry). same_attempt x.attempt v.by ≡ false) (λ x. is_prepared_for v x ≡ false) (λ x off. not_prepared v x (same_attempt x.attempt v.by) refl off) es h) in
    rw (undone, none) refl

pub all_unseen : (x : Stored) (e : Entry) (ws : List MinorWrite) → All (λ (n : Entry). same_attempt n.attempt e.attempt ≡ false) (entries_in x.1) → AllUnseen x e ws
all_unseen x e [] h = tt
all_unseen x e (w ∷ ws) h = (not_counted (version_of e w) (entries_in x.1) refl h, all_unseen x e ws h)

none_counted : (es : List Entry) (e : Entry) (ws : List MinorWrite) → All (λ (n : Entry). same_attempt n.attempt e.attempt ≡ false) es → All (λ v. counts es v ≡ false) (versions_of e ws)
none_counted es e [] h = All-nil (λ v. counts es v ≡ false)
none_counted es e (w ∷ ws) h = All-cons (λ v. counts es v ≡ false) (version_of e w) (versions_of e ws) (not_counted (version_of e w) es refl h) (none_counted es e ws h)

or_more : (s a b c : Bool) → (s || (a || b)) ≡ true → (s || (a || (c || b))) ≡ true
or_more true a b c h = refl
or_more false true b c h = refl
or_more false false b true h = refl
or_more false false b false h = h

or_here : (s a b : Bool) → (s || (a || (true || b))) ≡ true
or_here true a b = refl
or_here false true b = refl
or_here false false b = refl

-- with one more entry what counted counts
still_counted : (e : Entry) (es fs : List Entry) (v : Version) → HasMore e es fs → counts es v ≡ true → counts fs v ≡ true
unfolding counts
still_counted e es fs v m h =
    let before : list_any (is_prepared_for v) es ≡ (list_any (is_prepared_for v) m.left || list_any (is_prepared_for v) m.right) = ap (list_any (is_prepared_for v)) m.before_is ∙ list_any-append (is_prepared_for v) m.left m.right in
    let after : list_any (is_prepared_for v) fs ≡ (list_any (is_prepared_for v) m.left || (is_prepared_for v e || list_any (is_prepared_for v) m.right)) = ap (list_any (is_prepared_for v)) m.after_is ∙ list_any-append (is_prepared_for v) m.left (e ∷ m.right) in
    ap (λ (b : Bool). v.done || b) after ∙ or_more v.done (list_any (is_prepared_for v) m.left) (list_any (is_prepared_for v) m.right) (is_prepared_for v e) (sym (ap (λ (b : Bool). v.done || b) before) ∙ h)

prepared_own : (e : Entry) (w : MinorWrite) → e.committed ≡ false → is_prepared_for (version_of e w) e ≡ true
prepared_own e w undecided =
    let own = same_attempt-itself e.attempt in
    let at : (e.epoch.0 == e.epoch.0) ≡ true = grind (arith, nat_tests) in
    rw (own, at, undecided) refl

now_counted : (e : Entry) (es fs : List Entry) (w : MinorWrite) → HasMore e es fs → e.committed ≡ false → counts fs (version_of e w) ≡ true
unfolding counts
now_counted e es fs w m undecided =
    let v = version_of e w in
    let after : list_any (is_prepared_for v) fs ≡ (list_any (is_prepared_for v) m.left || (is_prepared_for v e || list_any (is_prepared_for v) m.right)) = ap (list_any (is_prepared_for v)) m.after_is ∙ list_any-append (is_prepared_for v) m.left (e ∷ m.right) in
    let own : (list_any (is_prepared_for v) m.left || (is_prepared_for v e || list_any (is_prepared_for v) m.right)) ≡ (list_any (is_prepared_for v) m.left || (true || list_any (is_prepared_for v) m.right)) = ap (λ (b : Bool). list_any (is_prepared_for v) m.left || (b || list_any (is_prepared_for v) m.right)) (prepared_own e w undecided) in
    ap (λ (b : Bool). false || b) (after ∙ own) ∙ or_here false (list_any (is_prepared_for v) m.left) (list_any (is_prepared_for v) m.right)

all_now_counted : (e : Entry) (es fs : List Entry) (ws : List MinorWrite) → HasMore e es fs → e.committed ≡ false → All (λ v. counts fs v ≡ true) (versions_of e ws)
all_now_counted e es fs [] m undecided = All-nil (λ v. counts fs v ≡ true)
all_now_counted e es fs (w ∷ ws) m undecided = All-cons (λ v. counts fs v ≡ true) (version_of e w) (versions_of e ws) (now_counted e es fs w m undecided) (all_now_counted e es fs ws m undecided)

-- ---- all together

module _ (e : Entry) (ws : List MinorWrite) (x z y : Stored) (counted_all : AllCount x) (come : HaveMore (versions_of e ws) (objects_versions x.0) (objects_versions z.0)) (entries_as : z.1 ≡ x.1) (objects_as : y.0 ≡ z.0)
    (entered : HasMore (record { entry = e; nodes = [] }) (listings z.1) (listings y.1)) (new : AreNew version_key (versions_of e ws) (objects_versions x.0)) (absent : has_entry_at e.attempt (things x.1) ≡ false) (undecided : e.committed ≡ false) where
  none_here : All (λ (n : Entry). same_attempt n.attempt e.attempt ≡ false) (entries_in x.1)
  none_here = absent_all e.attempt (things x.1) absent

  one_more : HasMore e (entries_in x.1) (entries_in y.1)
  one_more = subst (λ (g : Entries). HasMore e (entries_in g) (entries_in y.1)) entries_as (entries_more e z.1 y.1 entered)

  -- every version counts then
  pub all_count_then : AllCount y
  all_count_then =
      subst (λ o. All (λ v. counts (entries_in y.1) v ≡ true) (objects_versions o)) (sym objects_as)
      (all_have (λ v. counts (entries_in y.1) v ≡ true) (versions_of e ws) (objects_versions x.0) (objects_versions z.0) come (all_now_counted e (entries_in x.1) (entries_in y.1) ws one_more undecided)
      (on_each_of (λ v. counts (entries_in x.1) v ≡ true) (λ v. counts (entries_in y.1) v ≡ true) (λ v was. still_counted e (entries_in x.1) (entries_in y.1) v one_more was) (objects_versions x.0) counted_all))

  versions_were : filter (counts (entries_in z.1)) (objects_versions z.0) ≡ objects_versions x.0
  versions_were =
      ap (λ (g : Entries). filter (counts (entries_in g)) (objects_versions z.0)) entries_as
      ∙ (filter_have_none (counts (entries_in x.1)) (versions_of e ws) (objects_versions x.0) (objects_versions z.0) come (none_counted (entries_in x.1) e ws none_here)
      ∙ filter_all (counts (entries_in x.1)) (objects_versions x.0) counted_all)

  versions_are : in_order version_key (filter (counts (entries_in y.1)) (objects_versions y.0)) ≡ puts version_key (versions_of e ws) (in_order version_key (filter (counts (entries_in z.1)) (objects_versions z.0)))
  versions_are =
      ap (in_order version_key) (filter_all (counts (entries_in y.1)) (objects_versions y.0) all_count_then)
      ∙ (ap (λ o. in_order version_key (objects_versions o)) objects_as
      ∙ (several_in_order Version version_key (versions_of e ws) (objects_versions x.0) (objects_versions z.0) come new
      ∙ ap (λ vs. puts version_key (versions_of e ws) (in_order version_key vs)) (sym versions_were)))

  entries_are : in_order entry_key (entries_in y.1) ≡ put entry_key e (in_order entry_key (entries_in z.1))
  entries_are =
      one_in_order Entry entry_key e (entries_in x.1) (entries_in y.1) one_more (other_keys e (entries_in x.1) none_here)
      ∙ ap (λ (g : Entries). put entry_key e (in_order entry_key (entries_in g))) (sym entries_as)

  pub prepared_then : (t : Table) → durable_of (record { places = places_of t; stored = y }) ≡ prepared e ws (durable_of (record { places = places_of t; stored = z }))
  unfolding durable_of prepared
  prepared_then t =
      ap (λ (vs : List Version). kept_with t vs (in_order entry_key (entries_in y.1))) versions_are
      ∙ ap (λ (es : List Entry). kept_with t (puts version_key (versions_of e ws) (in_order version_key (filter (counts (entries_in z.1)) (objects_versions z.0)))) es) entries_are

pub entries_prepare : EntriesPrepare
entries_prepare e ws x z y t k = (
  prepared_then e ws x z y k.counted k.come k.entries k.objects k.entered k.new k.absent k.undecided t,
  all_count_then e ws x z y k.counted k.come k.entries k.objects k.entered k.new k.absent k.undecided,
)
