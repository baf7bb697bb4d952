-- What touches a cell is in one of few buckets.
use Rattle.std.proofs.Common.{◌≡◌, ℕ, zero, suc, ◌-◌, ◌/◌, ◌%◌, ◌^◌, ◌<◌, ◌≤◌, ◌⊎◌, inl, inr, Bool, true, false, ◌&&◌, ◌||◌, List, [], ◌∷◌, Option, Some, None, length, drop, refl, sym, ◌∙◌, ap, arith}
use Rattle.std.specs.Prelude.{◌==◌, is_none, is_some, nat_le, nat_lt}
use Rattle.std.specs.List.{list_all, list_any}
use Rattle.std.specs.Option.{option_eq}
use Rattle.std.proofs.lemmas.Bool.Decides.{nat_tests}
use Rattle.base_types.specs.declared.operation.Write.{Write}
use Rattle.base_types.specs.declared.operation.Write.TheVariants.{Single, Extent, PunchObject, PunchDkey, PunchAkey}
use Rattle.base_types.specs.declared.path.Path.{Path}
use Rattle.base_types.specs.Hash.{hash_start, hash_step}
use Rattle.base_types.specs.Keys.{same_key}
use Rattle.base_types.specs.PathLaws.{option_eq-Decides, same_key-Decides, same_object-Decides, same_path-Decides}
use Rattle.base_types.specs.Paths.{leads_to, record_size, same_object, same_path}
use Rattle.daos_model.specs.declared.cell.Cell.{Cell}
use Rattle.daos_model.specs.declared.durable.Version.{Version}
use Rattle.daos_model.specs.BoolLaws.{and_left, and_right, both, clash, or_from_right}
use Rattle.daos_model.specs.Cells.{cell_at}
use Rattle.daos_model.specs.Forms.{ends_at_akey, ends_at_dkey, ends_at_object}
use Rattle.daos_model.specs.Prunes.{is_index_in, touches}
use Rattle.daos_model.specs.Versions.{sees}
use Rattle.daos_model.proofs.Sights.{any-extent_cells, any-single}
use Rattle.vos_aggregate.specs.declared.buckets.Buckets.{Buckets}
use Rattle.vos_aggregate.specs.Buckets.{AreOf, akey_hash, akey_on, block_bucket, bucket_by, bucket_of, dkey_hash, dkey_on, object_hash, object_on}
use Rattle.vos_aggregate.specs.Saying.{any_above, any_around, is_plain, is_plain_version, says, says_in}

-- ---- paths

-- a part of a path that is there is that of each path to which it leads
same-part : {T : Type 0} (same : T → T → Bool) (x y : Option T) → ((z : Option T) → option_eq same x z ≡ true → x ≡ z) → (is_none x || option_eq same x y) ≡ true → is_some x ≡ true → x ≡ y
same-part same None y decides h some = absurd (let n : ⊥ = cc in n)
same-part same (Some a) y decides h some = decides y h

module _ (p q : Path) where
  -- the parts of what leads to another path
  pub parts-cont : leads_to p q ≡ true → p.cont.0 ≡ q.cont.0
  unfolding leads_to
  parts-cont h =
      let e : (p.cont.0 == q.cont.0) ≡ true =
      and_left (p.cont.0 == q.cont.0) (is_none p.obj || option_eq same_object p.obj q.obj)
      (and_left ((p.cont.0 == q.cont.0) && (is_none p.obj || option_eq same_object p.obj q.obj)) (is_none p.dkey || option_eq same_key p.dkey q.dkey)
      (and_left ((p.cont.0 == q.cont.0) && (is_none p.obj || option_eq same_object p.obj q.obj) && (is_none p.dkey || option_eq same_key p.dkey q.dkey)) (is_none p.akey || option_eq same_key p.akey q.akey) h)) in
      grind (arith, nat_tests)

  pub parts-obj : leads_to p q ≡ true → is_some p.obj ≡ true → p.obj ≡ q.obj
  unfolding leads_to
  parts-obj h =
      same-part same_object p.obj q.obj (λ z. (option_eq-Decides same_object same_object-Decides p.obj z).0)
      (and_right (p.cont.0 == q.cont.0) (is_none p.obj || option_eq same_object p.obj q.obj)
      (and_left ((p.cont.0 == q.cont.0) && (is_none p.obj || option_eq same_object p.obj q.obj)) (is_none p.dkey || option_eq same_key p.dkey q.dkey)
      (and_left ((p.cont.0 == q.cont.0) && (is_none p.obj || option_eq same_object p.obj q.obj) && (is_none p.dkey || option_eq same_key p.dkey q.dkey)) (is_none p.akey || option_eq same_key p.akey q.akey) h)))

  pub parts-dkey : leads_to p q ≡ true → is_some p.dkey ≡ true → p.dkey ≡ q.dkey
  unfolding leads_to
  parts-dkey h =
      same-part same_key p.dkey q.dkey (λ z. (option_eq-Decides same_key same_key-Decides p.dkey z).0)
      (and_right ((p.cont.0 == q.cont.0) && (is_none p.obj || option_eq same_object p.obj q.obj)) (is_none p.dkey || option_eq same_key p.dkey q.dkey)
      (and_left ((p.cont.0 == q.cont.0) && (is_none p.obj || option_eq same_object p.obj q.obj) && (is_none p.dkey || option_eq same_key p.dkey q.dkey)) (is_none p.akey || option_eq same_key p.akey q.akey) h))

  pub parts-akey : leads_to p q ≡ true → is_some p.akey ≡ true → p.akey ≡ q.akey
  unfolding leads_to
  parts-akey h =
      same-part same_key p.akey q.akey (λ z. (option_eq-Decides same_key same_key-Decides p.akey z).0)
      (and_right ((p.cont.0 == q.cont.0) && (is_none p.obj || option_eq same_object p.obj q.obj) && (is_none p.dkey || option_eq same_key p.dkey q.dkey)) (is_none p.akey || option_eq same_key p.akey q.akey) h)

  pub object_hash-same : p.cont.0 ≡ q.cont.0 → p.obj ≡ q.obj → object_hash p ≡ object_hash q
  unfolding object_hash
  object_hash-same c o = ap (λ n. object_on (hash_step hash_start (n % 2 ^ 64)) p.obj) c ∙ ap (object_on (hash_step hash_start (q.cont.0 % 2 ^ 64))) o

  pub dkey_hash-same : object_hash p ≡ object_hash q → p.dkey ≡ q.dkey → dkey_hash p ≡ dkey_hash q
  unfolding dkey_hash
  dkey_hash-same h d = ap (λ n. dkey_on n p.dkey) h ∙ ap (dkey_on (object_hash q)) d

  pub akey_hash-same : dkey_hash p ≡ dkey_hash q → p.akey ≡ q.akey → akey_hash p ≡ akey_hash q
  unfolding akey_hash
  akey_hash-same h a = ap (λ n. akey_on n p.akey) h ∙ ap (akey_on (dkey_hash q)) a

  -- a punch's hash is that of the paths under it, as far as its level
  pub object-under : ends_at_object p ≡ true → leads_to p q ≡ true → object_hash p ≡ object_hash q
  object-under form h =
      object_hash-same (parts-cont h) (parts-obj h (and_left (is_some p.obj) (is_none p.dkey) (and_left (is_some p.obj && is_none p.dkey) (is_none p.akey) form)))

  pub dkey-under : ends_at_dkey p ≡ true → leads_to p q ≡ true → dkey_hash p ≡ dkey_hash q
  dkey-under form h =
      let some : (is_some p.obj && is_some p.dkey) ≡ true = and_left (is_some p.obj && is_some p.dkey) (is_none p.akey) form in
      dkey_hash-same (object_hash-same (parts-cont h) (parts-obj h (and_left (is_some p.obj) (is_some p.dkey) some))) (parts-dkey h (and_right (is_some p.obj) (is_some p.dkey) some))

  pub akey-under : ends_at_akey p ≡ true → leads_to p q ≡ true → akey_hash p ≡ akey_hash q
  akey-under form h =
      let some : (is_some p.obj && is_some p.dkey) ≡ true = and_left (is_some p.obj && is_some p.dkey) (is_some p.akey) form in
      akey_hash-same
      (dkey_hash-same (object_hash-same (parts-cont h) (parts-obj h (and_left (is_some p.obj) (is_some p.dkey) some))) (parts-dkey h (and_right (is_some p.obj) (is_some p.dkey) some)))
      (parts-akey h (and_right (is_some p.obj && is_some p.dkey) (is_some p.akey) form))

-- ---- buckets

-- records that have an index begin in its block, or in the one before
module _ (low i n : ℕ) (from : low ≤ i) (within : i - low < n) (few : n ≤ 1024) where
  begins : (t : Bool) → (low / 1024 == i / 1024) ≡ t → (low / 1024 ≡ i / 1024) ⊎ ((0 < i / 1024) × (low / 1024 ≡ i / 1024 - 1))
  begins true e = inl (grind (arith, nat_tests))
  begins false e =
      let ne : (low / 1024 ≡ i / 1024) → ⊥ = λ same. clash (low / 1024 == i / 1024) (grind (arith, nat_tests)) e in
      inr (omega (arith, ne), omega (arith, ne))

first-or : (x z : Bool) → x ≡ true → (x || z) ≡ true
first-or true z e = refl
first-or false z e = absurd (let n : ⊥ = cc in n)

eq-test : (x y : ℕ) → x ≡ y → (x == y) ≡ true
eq-test x y e = grind (arith, nat_tests)

module _ (m : ℕ) (p : Path) (b : Buckets) (of : AreOf m p b) where
  -- the bucket of what touches a cell of a path, where it is no extent
  above-test : Write → Bool
  above-test w = (bucket_of m w == b.object) || (bucket_of m w == b.dkey) || (bucket_of m w == b.akey)

  around-test : ℕ → Write → Bool
  around-test i w = (bucket_of m w == block_bucket m (akey_hash p) (i / 1024)) || (nat_lt 0 (i / 1024) && (bucket_of m w == block_bucket m (akey_hash p) (i / 1024 - 1)))

  object-test : (q : Path) → ends_at_object q ≡ true → leads_to q p ≡ true → above-test (PunchObject q) ≡ true
  unfolding above-test bucket_of
  object-test q form h =
      let e : object_hash q % m ≡ b.object = ap (λ n. n % m) (object-under q p form h) ∙ sym of.object in
      first-or ((object_hash q % m == b.object) || (object_hash q % m == b.dkey)) (object_hash q % m == b.akey) (first-or (object_hash q % m == b.object) (object_hash q % m == b.dkey) (eq-test (object_hash q % m) b.object e))

  dkey-test : (q : Path) → ends_at_dkey q ≡ true → leads_to q p ≡ true → above-test (PunchDkey q) ≡ true
  unfolding above-test bucket_of
  dkey-test q form h =
      let e : dkey_hash q % m ≡ b.dkey = ap (λ n. n % m) (dkey-under q p form h) ∙ sym of.dkey in
      first-or ((dkey_hash q % m == b.object) || (dkey_hash q % m == b.dkey)) (dkey_hash q % m == b.akey) (or_from_right (dkey_hash q % m == b.object) (dkey_hash q % m == b.dkey) (eq-test (dkey_hash q % m) b.dkey e))

  akey-test : (h : ℕ) → h ≡ akey_hash p → ((h % m == b.object) || (h % m == b.dkey) || (h % m == b.akey)) ≡ true
  akey-test h e = or_from_right ((h % m == b.object) || (h % m == b.dkey)) (h % m == b.akey) (eq-test (h % m) b.akey (ap (λ n. n % m) e ∙ sym of.akey))

  extent-test : (q : Path) (low n i : ℕ) → q ≡ p → low ≤ i → i - low < n → n ≤ 1024 →
      ((block_bucket m (akey_hash q) (low / 1024) == block_bucket m (akey_hash p) (i / 1024)) || (nat_lt 0 (i / 1024) && (block_bucket m (akey_hash q) (low / 1024) == block_bucket m (akey_hash p) (i / 1024 - 1)))) ≡ true
  extent-test q low n i same from within few = by (begins low i n from within few (low / 1024 == i / 1024) refl)
    where
      by : (low / 1024 ≡ i / 1024) ⊎ ((0 < i / 1024) × (low / 1024 ≡ i / 1024 - 1)) →
          ((block_bucket m (akey_hash q) (low / 1024) == block_bucket m (akey_hash p) (i / 1024)) || (nat_lt 0 (i / 1024) && (block_bucket m (akey_hash q) (low / 1024) == block_bucket m (akey_hash p) (i / 1024 - 1)))) ≡ true
      by (inl e) =
          first-or (block_bucket m (akey_hash q) (low / 1024) == block_bucket m (akey_hash p) (i / 1024)) (nat_lt 0 (i / 1024) && (block_bucket m (akey_hash q) (low / 1024) == block_bucket m (akey_hash p) (i / 1024 - 1)))
          (eq-test (block_bucket m (akey_hash q) (low / 1024)) (block_bucket m (akey_hash p) (i / 1024)) (ap (λ r. block_bucket m (akey_hash r) (low / 1024)) same ∙ ap (block_bucket m (akey_hash p)) e))
      by (inr e) =
          or_from_right (block_bucket m (akey_hash q) (low / 1024) == block_bucket m (akey_hash p) (i / 1024)) (nat_lt 0 (i / 1024) && (block_bucket m (akey_hash q) (low / 1024) == block_bucket m (akey_hash p) (i / 1024 - 1)))
          (both (nat_lt 0 (i / 1024)) (block_bucket m (akey_hash q) (low / 1024) == block_bucket m (akey_hash p) (i / 1024 - 1)) (let lt : 0 < i / 1024 = e.0 in grind (arith, nat_tests))
          (eq-test (block_bucket m (akey_hash q) (low / 1024)) (block_bucket m (akey_hash p) (i / 1024 - 1)) (ap (λ r. block_bucket m (akey_hash r) (low / 1024)) same ∙ ap (block_bucket m (akey_hash p)) e.1)))

  which-index : (i : ℕ) (w : Write) → is_plain w ≡ true → touches (cell_at p (Some i)) w ≡ true → (around-test i w || above-test w) ≡ true
  unfolding touches is_plain bucket_of above-test around-test
  which-index i (Single q bytes) plain h =
      clash false (and_right (same_path q p) (is_none (Some i)) (sym (any-single (cell_at p (Some i)) q) ∙ h)) refl
  which-index i (Extent q low bytes) plain h =
      let is : (same_path q p && is_index_in low (length bytes / record_size q) (Some i)) ≡ true = sym (any-extent_cells (cell_at p (Some i)) q low bytes) ∙ h in
      let in' : (nat_le low i && nat_lt (i - low) (length bytes / record_size q)) ≡ true = and_right (same_path q p) (is_index_in low (length bytes / record_size q) (Some i)) is in
      let a : nat_le low i ≡ true = and_left (nat_le low i) (nat_lt (i - low) (length bytes / record_size q)) in' in
      let z : nat_lt (i - low) (length bytes / record_size q) ≡ true = and_right (nat_le low i) (nat_lt (i - low) (length bytes / record_size q)) in' in
      first-or (around-test i (Extent q low bytes)) (above-test (Extent q low bytes))
      (extent-test q low (length bytes / record_size q) i
      ((same_path-Decides q p).0 (and_left (same_path q p) (is_index_in low (length bytes / record_size q) (Some i)) is))
      (grind (arith, nat_tests)) (grind (arith, nat_tests)) (grind (arith, nat_tests)))
  which-index i (PunchObject q) plain h = or_from_right (around-test i (PunchObject q)) (above-test (PunchObject q)) (object-test q plain h)
  which-index i (PunchDkey q) plain h = or_from_right (around-test i (PunchDkey q)) (above-test (PunchDkey q)) (dkey-test q plain h)
  which-index i (PunchAkey q) plain h = or_from_right (around-test i (PunchAkey q)) (above-test (PunchAkey q)) (akey-test (akey_hash q) (akey-under q p plain h))

  which-single : (w : Write) → is_plain w ≡ true → touches (cell_at p None) w ≡ true → above-test w ≡ true
  unfolding touches is_plain bucket_of above-test
  which-single (Single q bytes) plain h =
      let is : (same_path q p && true) ≡ true = sym (any-single (cell_at p None) q) ∙ h in
      akey-test (akey_hash q) (ap akey_hash ((same_path-Decides q p).0 (and_left (same_path q p) true is)))
  which-single (Extent q low bytes) plain h =
      clash false (and_right (same_path q p) (is_index_in low (length bytes / record_size q) None) (sym (any-extent_cells (cell_at p None) q low bytes) ∙ h)) refl
  which-single (PunchObject q) plain h = object-test q plain h
  which-single (PunchDkey q) plain h = dkey-test q plain h
  which-single (PunchAkey q) plain h = akey-test (akey_hash q) (akey-under q p plain h)

-- ---- lists

any-or : (f g : Version → Bool) (us : List Version) → list_any (λ w. f w || g w) us ≡ (list_any f us || list_any g us)
any-or f g [] = refl
any-or f g (u ∷ us) = ap (λ x. (f u || g u) || x) (any-or f g us) ∙ by (f u) (g u) (list_any f us) (list_any g us)
  where
    by : (a c x y : Bool) → ((a || c) || (x || y)) ≡ ((a || x) || (c || y))
    by true c x y = refl
    by false c true y = or_from_right c true refl
    by false c false y = refl

any-and : (z : Bool) (f : Version → Bool) (us : List Version) → list_any (λ w. z && f w) us ≡ (z && list_any f us)
any-and true f us = refl
any-and false f us = none us
  where
    none : (vs : List Version) → list_any (λ (w : Version). false) vs ≡ false
    none [] = refl
    none (v ∷ vs) = none vs

any-same : (f g : Version → Bool) (us : List Version) → list_all is_plain_version us ≡ true → ((w : Version) → is_plain w.write ≡ true → f w ≡ g w) → list_any f us ≡ list_any g us
any-same f g [] plain each = refl
any-same f g (u ∷ us) plain each =
    ap (λ x. x || list_any f us) (each u (and_left (is_plain u.write) (list_all is_plain_version us) plain))
    ∙ ap (λ x. g u || x) (any-same f g us (and_right (is_plain u.write) (list_all is_plain_version us) plain) each)

and-false : (t : Bool) → (t && false) ≡ false
and-false true = refl
and-false false = refl

and-true : (t : Bool) → (t && true) ≡ t
and-true true = refl
and-true false = refl

-- tests of which each asks for one thing more hold where that does, and one of them holds
gather5 : (x a b z c d e : Bool) → (x ≡ true → ((a || (z && b)) || ((c || d) || e)) ≡ true) → (((a && x) || (z && (b && x))) || (((c && x) || (d && x)) || (e && x))) ≡ x
gather5 true a b z c d e h = simp and-true (h refl)
gather5 false a b z c d e h = simp and-false

gather3 : (x c d e : Bool) → (x ≡ true → ((c || d) || e) ≡ true) → (((c && x) || (d && x)) || (e && x)) ≡ x
gather3 true c d e h = simp and-true (h refl)
gather3 false c d e h = simp and-false

touching : (s : ℕ) (c : Cell) (w : Version) → says s c w ≡ true → touches c w.write ≡ true
unfolding says
touching s c w h = and_right (sees s w) (touches c w.write) h

module _ (m : ℕ) (p : Path) (b : Buckets) (of : AreOf m p b) (s : ℕ) (us : List Version) (plain : list_all is_plain_version us ≡ true) where
  above-split : (c : Cell) → list_any (λ w. (says_in m b.object s c w || says_in m b.dkey s c w) || says_in m b.akey s c w) us ≡ any_above m b s c us
  above-split c =
      any-or (λ w. says_in m b.object s c w || says_in m b.dkey s c w) (says_in m b.akey s c) us
      ∙ ap (λ x. x || list_any (says_in m b.akey s c) us) (any-or (says_in m b.object s c) (says_in m b.dkey s c) us)

  around-split : (c : Cell) (i : ℕ) → list_any (λ w. says_in m (block_bucket m (akey_hash p) (i / 1024)) s c w || (nat_lt 0 (i / 1024) && says_in m (block_bucket m (akey_hash p) (i / 1024 - 1)) s c w)) us ≡ any_around m (akey_hash p) i s c us
  around-split c i =
      any-or (says_in m (block_bucket m (akey_hash p) (i / 1024)) s c) (λ w. nat_lt 0 (i / 1024) && says_in m (block_bucket m (akey_hash p) (i / 1024 - 1)) s c w) us
      ∙ ap (λ x. list_any (says_in m (block_bucket m (akey_hash p) (i / 1024)) s c) us || x) (any-and (nat_lt 0 (i / 1024)) (says_in m (block_bucket m (akey_hash p) (i / 1024 - 1)) s c) us)

  pub covered-single : any_above m b s (cell_at p None) us ≡ list_any (says s (cell_at p None)) us
  unfolding above-test
  covered-single =
      sym (above-split (cell_at p None))
      ∙ any-same (λ w. (says_in m b.object s (cell_at p None) w || says_in m b.dkey s (cell_at p None) w) || says_in m b.akey s (cell_at p None) w) (says s (cell_at p None)) us plain
      (λ w form. gather3 (says s (cell_at p None) w) (bucket_by m w == b.object) (bucket_by m w == b.dkey) (bucket_by m w == b.akey) (λ h. which-single m p b of w.write form (touching s (cell_at p None) w h)))

  pub covered-index : (i : ℕ) → (any_around m (akey_hash p) i s (cell_at p (Some i)) us || any_above m b s (cell_at p (Some i)) us) ≡ list_any (says s (cell_at p (Some i))) us
  unfolding above-test around-test
  covered-index i =
      sym
      (any-or (λ w. says_in m (block_bucket m (akey_hash p) (i / 1024)) s (cell_at p (Some i)) w || (nat_lt 0 (i / 1024) && says_in m (block_bucket m (akey_hash p) (i / 1024 - 1)) s (cell_at p (Some i)) w))
      (λ w. (says_in m b.object s (cell_at p (Some i)) w || says_in m b.dkey s (cell_at p (Some i)) w) || says_in m b.akey s (cell_at p (Some i)) w) us
      ∙ ap (λ x. x || list_any (λ w. (says_in m b.object s (cell_at p (Some i)) w || says_in m b.dkey s (cell_at p (Some i)) w) || says_in m b.akey s (cell_at p (Some i)) w) us) (around-split (cell_at p (Some i)) i)
      ∙ ap (λ x. any_around m (akey_hash p) i s (cell_at p (Some i)) us || x) (above-split (cell_at p (Some i))))
      ∙ any-same
      (λ w. (says_in m (block_bucket m (akey_hash p) (i / 1024)) s (cell_at p (Some i)) w || (nat_lt 0 (i / 1024) && says_in m (block_bucket m (akey_hash p) (i / 1024 - 1)) s (cell_at p (Some i)) w))
      || ((says_in m b.object s (cell_at p (Some i)) w || says_in m b.dkey s (cell_at p (Some i)) w) || says_in m b.akey s (cell_at p (Some i)) w)) (says s (cell_at p (Some i))) us plain
      (λ w form.
      gather5 (says s (cell_at p (Some i)) w) (bucket_by m w == block_bucket m (akey_hash p) (i / 1024)) (bucket_by m w == block_bucket m (akey_hash p) (i / 1024 - 1)) (nat_lt 0 (i / 1024))
      (bucket_by m w == b.object) (bucket_by m w == b.dkey) (bucket_by m w == b.akey) (λ h. which-index m p b of i w.write form (touching s (cell_at p (Some i)) w h)))

all-drop : (us : List Version) (i : ℕ) → list_all is_plain_version us ≡ true → list_all is_plain_version (drop i us) ≡ true
all-drop us zero h = h
all-drop [] (suc i) h = refl
all-drop (u ∷ us) (suc i) h = all-drop us i (and_right (is_plain u.write) (list_all is_plain_version us) h)

module _ (m : ℕ) (p : Path) (b : Buckets) (of : AreOf m p b) (s start : ℕ) (vs : List Version) (plain : list_all is_plain_version vs ≡ true) where
  pub single-said : any_above m b s (cell_at p None) (drop start vs) ≡ list_any (says s (cell_at p None)) (drop start vs)
  single-said = covered-single m p b of s (drop start vs) (all-drop vs start plain)

  pub index-said : (i : ℕ) → (any_around m (akey_hash p) i s (cell_at p (Some i)) (drop start vs) || any_above m b s (cell_at p (Some i)) (drop start vs)) ≡ list_any (says s (cell_at p (Some i))) (drop start vs)
  index-said = covered-index m p b of s (drop start vs) (all-drop vs start plain)
