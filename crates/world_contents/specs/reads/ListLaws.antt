-- Lists that rise, and those that are put among others.
use Rattle.std.specs.Prelude.{ℕ, ◌≡◌, ◌≢◌, ◌⊎◌, ◌+◌, ◌<◌, Bool, true, false, List, [], ◌∷◌, map, filter, find, AllPairs, Some, None, refl, if◌then◌else◌}
use Rattle.std.specs.List.Sorted.{IsStrictlyIncreasing}
use Rattle.std.proofs.Common.{sym, ◌∙◌, ap, subst, inl, inr, arith}
use Rattle.std.proofs.lemmas.List.Kept.{AllPairs-cons, AllPairs-from_increasing}
use Rattle.base_types.specs.declared.entry.Entry.{Entry}
use Rattle.base_types.specs.declared.operation.MinorWrite.{MinorWrite}
use Rattle.daos_model.specs.declared.durable.Version.{Version}
use Rattle.daos_model.specs.Answers.{is_before}
use Rattle.daos_model.specs.BoolLaws.{and_left, and_right, clash}
use Rattle.daos_model.specs.Durables.{version_key}
use Rattle.daos_model.specs.FormLaws.{length-filter}
use Rattle.daos_model.specs.Forms.{AreWritesInForm, is_write_in_form, minor_of}
use Rattle.daos_model.specs.OrderLaws.{before-itself, rising-put}
use Rattle.daos_model.specs.Ordered.{all_after, is_rising, puts}
use Rattle.daos_model.specs.Versions.{version_of, versions_of}
use Rattle.model_laws.specs.DecidedLaws.{all-from_has, has-all}
use Rattle.model_laws.specs.Members.{Has, has-from_filter, has-from_map, has-map}
use Rattle.model_laws.specs.RisingLaws.{after-has}
use Rattle.model_laws.specs.VersionLaws.{pairs-head, pairs-tail}
use Rattle.model_laws.specs.EntryLaws.{has-puts}

-- in a list that rises no two have one key
pub pairs-from_rising : {T : Type 0} (key : T → List ℕ) (xs : List T) → is_rising key xs ≡ true → AllPairs (λ x y. key x ≢ key y) xs
pairs-from_rising key [] r = λ i j d lt short. absurd (omega (arith, short))
pairs-from_rising key (x ∷ xs) r =
    AllPairs-cons (λ x y. key x ≢ key y) x xs
    (all-from_has (λ y. key x ≢ key y) xs (λ y i same.
    clash (is_before (key x) (key y)) (after-has key (key x) xs y (and_left (all_after key (key x) xs) (is_rising key xs) r) i) (ap (is_before (key x)) (sym same) ∙ before-itself (key x))))
    (pairs-from_rising key xs (and_right (all_after key (key x) xs) (is_rising key xs) r))

-- versions of an entry, at an epoch that no other version has
pub rising-news : (k : Entry) (ws : List MinorWrite) (us : List Version) → AllPairs (λ m n. m < n) (map minor_of ws) → ((u : Version) → Has u us → u.epoch.0 ≢ k.epoch.0) → is_rising version_key us ≡ true
    → is_rising version_key (puts version_key (versions_of k ws) us) ≡ true
rising-news k [] us minors apart r = r
rising-news k (w ∷ ws) us minors apart r =
    rising-put version_key (version_of k w) (puts version_key (versions_of k ws) us)
    (all-from_has (λ u. version_key u ≢ version_key (version_of k w)) (puts version_key (versions_of k ws) us) (λ u i. other u (has-puts version_key (versions_of k ws) us u i)))
    (rising-news k ws us (pairs-tail alone (λ m n. m < n) w.minor (map minor_of ws) minors) apart r)
  where
    alone : ℕ → List ℕ
    alone n = n ∷ []

    first : List ℕ → ℕ
    first [] = 0
    first (n ∷ ns) = n

    second : List ℕ → ℕ
    second [] = 0
    second (n ∷ ns) = first ns

    other : (u : Version) → Has u (versions_of k ws) ⊎ Has u us → version_key u ≢ version_key (version_of k w)
    other u (inl i) same =
        let z = has-from_map (version_of k) ws u i in
        let lt : w.minor < z.0.minor = pairs-head alone (λ m n. m < n) w.minor (map minor_of ws) z.0.minor minors (has-map minor_of ws z.0 z.1) in
        let e : z.0.minor ≡ w.minor = ap (λ v. v.minor) z.2 ∙ ap second same in
        absurd (omega (arith, lt, e))
    other u (inr i) same = apart u i (ap first same)

-- ---- some of the writes of a transaction

pairs-kept : (p : MinorWrite → Bool) (ws : List MinorWrite) → AllPairs (λ m n. m < n) (map minor_of ws) → AllPairs (λ m n. m < n) (map minor_of (filter p ws))
pairs-kept p [] all = all
pairs-kept p (w ∷ ws) all = by (pairs-kept p ws (pairs-tail alone (λ m n. m < n) w.minor (map minor_of ws) all)) (p w)
  where
    alone : ℕ → List ℕ
    alone n = n ∷ []

    above : (n : ℕ) → Has n (map minor_of (filter p ws)) → w.minor < n
    above n i =
        let z = has-from_map minor_of (filter p ws) n i in
        subst (λ m. w.minor < m) z.2 (pairs-head alone (λ m n. m < n) w.minor (map minor_of ws) z.0.minor all (has-map minor_of ws z.0 (has-from_filter p ws z.0 z.1).0))

    by : AllPairs (λ m n. m < n) (map minor_of (filter p ws)) → (b : Bool) → AllPairs (λ m n. m < n) (map minor_of (if b then w ∷ filter p ws else filter p ws))
    by rest true = AllPairs-cons (λ m n. m < n) w.minor (map minor_of (filter p ws)) (all-from_has (λ n. w.minor < n) (map minor_of (filter p ws)) above) rest
    by rest false = rest

pub increasing-pairs : (xs : List ℕ) → AllPairs (λ m n. m < n) xs → IsStrictlyIncreasing xs
increasing-pairs xs all k lt = all k (k + 1) 0 (omega arith) lt

pub some-in_form : (p : MinorWrite → Bool) (ws : List MinorWrite) → AreWritesInForm ws → AreWritesInForm (filter p ws)
some-in_form p ws f = record {
  count = let few = length-filter p ws in let most = f.count in omega (arith, few, most);
  each = all-from_has (λ w. is_write_in_form w.write ≡ true) (filter p ws) (λ w i. has-all (λ w. is_write_in_form w.write ≡ true) ws w f.each (has-from_filter p ws w i).0);
  rising = increasing-pairs (map minor_of (filter p ws)) (pairs-kept p ws (AllPairs-from_increasing (map minor_of ws) f.rising));
  minors = all-from_has (λ w. w.minor < 64) (filter p ws) (λ w i. has-all (λ w. w.minor < 64) ws w f.minors (has-from_filter p ws w i).0);
}

-- ---- what is found

-- none passes where none is found
pub none-found : {T : Type 0} (p : T → Bool) (xs : List T) (x : T) → find p xs ≡ None → Has x xs → p x ≡ false
none-found p [] x h i = absurd i
none-found p (y ∷ ys) x h i = by (none-found p ys x) (p y) refl h i
  where
    by : (find p ys ≡ None → Has x ys → p x ≡ false) → (b : Bool) → p y ≡ b → (if b then Some y else find p ys) ≡ None → Has x (y ∷ ys) → p x ≡ false
    by rest true e f j = let no : ⊥ = cc in absurd no
    by rest false e f (inl same) = ap p same ∙ e
    by rest false e f (inr j) = rest f j
