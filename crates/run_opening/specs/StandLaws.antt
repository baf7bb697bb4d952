-- An opening leaves what all targets stand for.
use Rattle.std.specs.Prelude.{ℕ, ◌≡◌, ◌+◌, ◌&&◌, ◌==◌, max, nat_lt, Bool, true, false, List, [], ◌∷◌, ◌++◌, filter, map, length, if◌then◌else◌, refl}
use Rattle.std.proofs.Common.{sym, ◌∙◌, ap}
use Rattle.base_types.specs.declared.script.Script.{Script}
use Rattle.base_types.specs.declared.snapshot.Snap.{Snap}
use Rattle.daos_model.specs.declared.durable.Durable.{Durable}
use Rattle.daos_model.specs.declared.durable.Version.{Version}
use Rattle.daos_model.specs.BoolLaws.{and_left, and_right, both, false_of}
use Rattle.daos_model.specs.Durables.{is_snap_at}
use Rattle.daos_model.specs.Effect.{effects}
use Rattle.daos_model.specs.Family.{counts, counts_at, counts_below, created_snaps, family_map, greatest_lease, is_created, is_led_by, joined, map_where, part_of, snap_map, stand}
use Rattle.daos_model.specs.FormLaws.{length-map}
use Rattle.daos_model.specs.Opening.{is_kept}
use Rattle.daos_model.specs.Versions.{version_path, writes_in}
use Rattle.model_laws.specs.MatchLaws.{filter_on}
use Rattle.model_laws.specs.Members.{Has, any-has, has-any, has-filter, has-from_filter}
use Rattle.model_laws.specs.TargetLaws.{number_same, same_number}
use Rattle.run_opening.specs.Laws.{OpeningsKeepLeases, OpeningsKeepWhatStands}
use Rattle.run_opening.specs.Opened.{as_done, is_at_one_of, keeps, lasting_snaps, opened, opened_family, settled_versions}

-- ---- lists

and-true : (b : Bool) → b ≡ (b && true)
and-true true = refl
and-true false = refl

pub filter-twice : {T : Type 0} (p q : T → Bool) (xs : List T) → filter p (filter q xs) ≡ filter (λ x. q x && p x) xs
filter-twice p q [] = refl
filter-twice {T = T} p q (x ∷ xs) = by (q x) (p x) refl (filter-twice p q xs)
  where
    by : (b c : Bool) → p x ≡ c → filter p (filter q xs) ≡ filter (λ x. q x && p x) xs
        → filter p (if b then x ∷ filter q xs else filter q xs) ≡ (if b && c then x ∷ filter (λ x. q x && p x) xs else filter (λ x. q x && p x) xs)
    by true true is rest = ap (λ (z : Bool). if z then x ∷ filter p (filter q xs) else filter p (filter q xs)) is ∙ ap (λ ys. x ∷ ys) rest
    by true false is rest = ap (λ (z : Bool). if z then x ∷ filter p (filter q xs) else filter p (filter q xs)) is ∙ rest
    by false c is rest = rest

filter-map : {T U : Type 0} (f : T → U) (p : U → Bool) (xs : List T) → filter p (map f xs) ≡ map f (filter (λ x. p (f x)) xs)
filter-map f p [] = refl
filter-map f p (x ∷ xs) = by (p (f x)) (filter-map f p xs)
  where
    by : (b : Bool) → filter p (map f xs) ≡ map f (filter (λ x. p (f x)) xs)
        → (if b then f x ∷ filter p (map f xs) else filter p (map f xs)) ≡ map f (if b then x ∷ filter (λ x. p (f x)) xs else filter (λ x. p (f x)) xs)
    by true rest = ap (λ ys. f x ∷ ys) rest
    by false rest = rest

pub map-same : {T U : Type 0} (f g : T → U) → ((x : T) → f x ≡ g x) → (xs : List T) → map f xs ≡ map g xs
map-same f g same [] = refl
map-same f g same (x ∷ xs) = ap (λ y. y ∷ map f xs) (same x) ∙ ap (λ ys. g x ∷ ys) (map-same f g same xs)

-- ---- versions

-- A test of versions passes those that counted and that another test passes, once they are done. Of the versions that are left the
-- other test passes those, with the same writes.
module _ (F : List Durable) (q p : Version → Bool) (same : (v : Version) → q v ≡ (counts F v && p (as_done v))) where
  pub same-writes : (vs : List Version) → writes_in (filter p (settled_versions F vs)) ≡ writes_in (filter q vs)
  same-writes [] = refl
  same-writes (v ∷ vs) = by (counts F v) (p (as_done v)) refl (same-writes vs) ∙ ap (λ (z : Bool). writes_in (if z then v ∷ filter q vs else filter q vs)) (sym (same v))
    where
      by : (c b : Bool) → p (as_done v) ≡ b → writes_in (filter p (settled_versions F vs)) ≡ writes_in (filter q vs)
          → writes_in (filter p (map as_done (if c then v ∷ filter (counts F) vs else filter (counts F) vs))) ≡ writes_in (if c && b then v ∷ filter q vs else filter q vs)
      by true true is rest = ap (λ (z : Bool). writes_in (if z then as_done v ∷ filter p (settled_versions F vs) else filter p (settled_versions F vs))) is ∙ ap (λ ws. v.write ∷ ws) rest
      by true false is rest = ap (λ (z : Bool). writes_in (if z then as_done v ∷ filter p (settled_versions F vs) else filter p (settled_versions F vs))) is ∙ rest
      by false b is rest = rest

  module _ (s : Script) where
    pub map-opened : (d : Durable) → map_where p (opened s F d) ≡ map_where q d
    unfolding opened
    map-opened d = ap (λ ws. effects ws []) (same-writes d.versions)

    joined-opened : (n t : ℕ) (ds : List Durable) → joined n t p (map (opened s F) ds) ≡ joined n t q ds
    joined-opened n t [] = refl
    joined-opened n t (d ∷ ds) = ap (λ m. filter (is_led_by n t) m ++ joined n (t + 1) p (map (opened s F) ds)) (map-opened d) ∙ ap (λ m. filter (is_led_by n t) (map_where q d) ++ m) (joined-opened n (t + 1) ds)

    pub family-opened : family_map p (opened_family s F) ≡ family_map q F
    family-opened = ap (λ n. joined n 0 p (opened_family s F)) (length-map (opened s F) F) ∙ joined-opened (length F) 0 F

-- all versions that are left count
pub counts-opened : (F O : List Durable) (v : Version) → counts F v ≡ (counts F v && counts O (as_done v))
counts-opened F O v = and-true (counts F v)

-- and below an epoch those that did
pub below-opened : (F O : List Durable) (e : ℕ) (v : Version) → counts_below F e v ≡ (counts F v && counts_below O e (as_done v))
below-opened F O e v = refl

pub at-opened : (F O : List Durable) (s : Snap) (v : Version) → counts_at F s v ≡ (counts F v && counts_at O s (as_done v))
at-opened F O s v = by (counts F v) (nat_lt v.epoch.0 s.epoch.0) ((version_path v).cont.0 == s.cont.0)
  where
    by : (a b c : Bool) → ((a && b) && c) ≡ (a && (b && c))
    by true b c = refl
    by false b c = refl

-- ---- snapshots

pub keeps-same : (s : Script) (x y : Snap) → x.cont.0 ≡ y.cont.0 → x.epoch.0 ≡ y.epoch.0 → keeps s x ≡ keeps s y
keeps-same s x y cont epoch = ap (λ n. is_kept s (record { cont = record { 0 = n }; epoch = x.epoch; map = [] })) cont ∙ ap (λ n. is_kept s (record { cont = y.cont; epoch = record { 0 = n }; map = [] })) epoch

pub is-itself : (x : Snap) → is_snap_at x.cont x.epoch x ≡ true
is-itself x = both (x.cont.0 == x.cont.0) (x.epoch.0 == x.epoch.0) (same_number x.cont.0) (same_number x.epoch.0)

-- a created snapshot of target 0 lasts exactly where the script keeps it
abbrev lasting_of : Script → List Snap → List Snap
lasting_of s snaps = filter (keeps s) (filter is_created snaps)

module _ (s : Script) (snaps : List Snap) where
  lasts : (x : Snap) → Has x snaps → (is_at_one_of (lasting_of s snaps) x && is_created x) ≡ (is_created x && keeps s x)
  lasts x i = by x.created (keeps s x) refl refl
    where
      there : x.created ≡ true → keeps s x ≡ true → is_at_one_of (lasting_of s snaps) x ≡ true
      there c k = any-has (is_snap_at x.cont x.epoch) (lasting_of s snaps) x (has-filter (keeps s) (filter is_created snaps) x (has-filter is_created snaps x i c) k) (is-itself x)

      gone : keeps s x ≡ false → is_at_one_of (lasting_of s snaps) x ≡ false
      gone k = false_of (is_at_one_of (lasting_of s snaps) x) none
        where
          none : is_at_one_of (lasting_of s snaps) x ≡ true → ⊥
          none at =
              let y = has-any (is_snap_at x.cont x.epoch) (lasting_of s snaps) at in
              let kept = (has-from_filter (keeps s) (filter is_created snaps) y.0 y.1).1 in
              let cont = number_same y.0.cont.0 x.cont.0 (and_left (y.0.cont.0 == x.cont.0) (y.0.epoch.0 == x.epoch.0) y.2) in
              let epoch = number_same y.0.epoch.0 x.epoch.0 (and_right (y.0.cont.0 == x.cont.0) (y.0.epoch.0 == x.epoch.0) y.2) in
              let no : true ≡ false = sym kept ∙ keeps-same s y.0 x cont epoch ∙ k in
              let n : ⊥ = cc in n

      by : (c k : Bool) → x.created ≡ c → keeps s x ≡ k → (is_at_one_of (lasting_of s snaps) x && x.created) ≡ (c && k)
      by true true c k = both (is_at_one_of (lasting_of s snaps) x) x.created (there c k) c
      by true false c k = ap (λ b. b && x.created) (gone k)
      by false k' c k = ap (λ b. is_at_one_of (lasting_of s snaps) x && b) c ∙ off (is_at_one_of (lasting_of s snaps) x)
        where
          off : (b : Bool) → (b && false) ≡ false
          off true = refl
          off false = refl

  created-last : filter is_created (filter (is_at_one_of (lasting_of s snaps)) snaps) ≡ (lasting_of s snaps)
  created-last = filter-twice is_created (is_at_one_of (lasting_of s snaps)) snaps ∙ filter_on (λ x. is_at_one_of (lasting_of s snaps) x && is_created x) (λ x. is_created x && keeps s x) snaps lasts ∙ sym (filter-twice (keeps s) is_created snaps)

-- after the opening those are created that last
pub created-opened : (s : Script) (F : List Durable) → created_snaps (opened_family s F) ≡ lasting_snaps s F
unfolding opened
created-opened s [] = refl
created-opened s (d ∷ F) = created-last s d.snaps

-- ---- what all targets stand for

module _ (s : Script) (F : List Durable) where
  snap-opened : (x : Snap) → snap_map (opened_family s F) x ≡ snap_map F x
  snap-opened x = ap (λ m. record { cont = x.cont; epoch = x.epoch; map = part_of x.cont m }) (family-opened F (counts_below F x.epoch.0) (counts_below (opened_family s F) x.epoch.0) (below-opened F (opened_family s F) x.epoch.0) s)

  snaps-opened : map (snap_map (opened_family s F)) (created_snaps (opened_family s F)) ≡ filter (is_kept s) (map (snap_map F) (created_snaps F))
  snaps-opened =
      ap (map (snap_map (opened_family s F))) (created-opened s F)
      ∙ map-same (snap_map (opened_family s F)) (snap_map F) snap-opened (lasting_snaps s F)
      ∙ sym (filter-map (snap_map F) (is_kept s) (created_snaps F))

  now-opened : family_map (counts (opened_family s F)) (opened_family s F) ≡ family_map (counts F) F
  now-opened = family-opened F (counts F) (counts (opened_family s F)) (counts-opened F (opened_family s F)) s

pub opened-stands : OpeningsKeepWhatStands
unfolding stand
opened-stands s F = λ i. record { now = now-opened s F i; snaps = snaps-opened s F i }

-- ---- leases

leases-opened : (s : Script) (F ds : List Durable) → greatest_lease (map (opened s F) ds) ≡ greatest_lease ds
unfolding opened
leases-opened s F [] = refl
leases-opened s F (d ∷ ds) = ap (max d.lease) (leases-opened s F ds)

pub opened-leases : OpeningsKeepLeases
opened-leases s F = leases-opened s F F
