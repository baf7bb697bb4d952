-- What holds of targets that are changed one by one, so that what counts stays.
use Rattle.std.specs.Prelude.{ℕ, zero, suc, ◌≡◌, ◌≢◌, ◌≤◌, ◌<◌, ◌+◌, ◌==◌, ◌&&◌, nat_lt, Bool, true, false, All, AllPairs, Contains, List, [], ◌∷◌, ◌++◌, filter, length, slice_get, Some, refl}
use Rattle.std.proofs.Common.{sym, ◌∙◌, ap, arith, subst}
use Rattle.std.proofs.lemmas.Option.{slice_get_within}
use Rattle.base_types.specs.declared.entry.Entry.{Entry}
use Rattle.base_types.specs.declared.epoch.Epoch.{Epoch}
use Rattle.base_types.specs.declared.script.Script.{Script}
use Rattle.base_types.specs.declared.snapshot.Snap.{Snap}
use Rattle.base_types.specs.Epochs.{restart_floor}
use Rattle.base_types.specs.Placement.{path_members}
use Rattle.model_laws.specs.DecidedLaws.{all-from_has, has-all}
use Rattle.model_laws.specs.Lists.{at-within}
use Rattle.model_laws.specs.Members.{Has, has-filter, has-from_filter}
use Rattle.daos_model.specs.declared.durable.Durable.{Durable}
use Rattle.daos_model.specs.declared.durable.Version.{Version}
use Rattle.daos_model.specs.Cells.{value_at}
use Rattle.daos_model.specs.Durables.{is_frozen, version_key}
use Rattle.daos_model.specs.Effect.{effects}
use Rattle.daos_model.specs.Family.{Agree, AgreeOn, counts, counts_at, counts_below, created_snaps, family_map, is_in_field, is_led_by, joined, map_where, part_of, snap_map, stand}
use Rattle.daos_model.specs.Sound.{IsCovered, IsOfEntry, IsPlaced, IsSoundAt, SayTheSame, Sound}
use Rattle.daos_model.specs.Versions.{version_path, writes_in}
use Rattle.run_opening.specs.Left.{IsLeftOf, StaysCounted}
use Rattle.run_opening.specs.Opened.{AreFloored, IsFloored, keeps, lasting_snaps}

-- ---- one by one

-- two families of as many targets, of which something holds between each and its like
abbrev pub Beside : (Durable → Durable → Type 0) → List Durable → List Durable → Type 0
Beside R [] [] = Unit {0}
Beside R [] (g ∷ G) = ⊥
Beside R (d ∷ F) [] = ⊥
Beside R (d ∷ F) (g ∷ G) = R d g × Beside R F G

module _ (R : Durable → Durable → Type 0) where
  pub beside-many : (F G : List Durable) → Beside R F G → length G ≡ length F
  beside-many [] [] b = refl
  beside-many [] (g ∷ G) b = absurd b
  beside-many (d ∷ F) [] b = absurd b
  beside-many (d ∷ F) (g ∷ G) b = ap suc (beside-many F G b.1)

  pub beside-at : (F G : List Durable) (t : ℕ) (g : Durable) → Beside R F G → slice_get G t ≡ Some g → (d : Durable) × (slice_get F t ≡ Some d) × R d g
  beside-at [] [] t g b at = let no : ⊥ = cc in absurd no
  beside-at [] (x ∷ G) t g b at = absurd b
  beside-at (d ∷ F) [] t g b at = absurd b
  beside-at (d ∷ F) (x ∷ G) zero g b at = let same : x ≡ g = cc in (d, refl, subst (R d) same b.0)
  beside-at (d ∷ F) (x ∷ G) (suc t) g b at = beside-at F G t g b.1 at

pub beside-as : (R Q : Durable → Durable → Type 0) (F G : List Durable) → Beside R F G → ((t : ℕ) (d g : Durable) → slice_get F t ≡ Some d → slice_get G t ≡ Some g → R d g → Q d g) → Beside Q F G
beside-as R Q [] [] b is = tt
beside-as R Q [] (g ∷ G) b is = absurd b
beside-as R Q (d ∷ F) [] b is = absurd b
beside-as R Q (d ∷ F) (g ∷ G) b is = (is 0 d g refl refl b.0, beside-as R Q F G b.1 (λ t e h at bt. is (suc t) e h at bt))

pub beside-from : (R : Durable → Durable → Type 0) (F G : List Durable) → length G ≡ length F → ((t : ℕ) (d g : Durable) → slice_get F t ≡ Some d → slice_get G t ≡ Some g → R d g) → Beside R F G
beside-from R [] [] many each = tt
beside-from R [] (g ∷ G) many each = absurd (omega (arith, many))
beside-from R (d ∷ F) [] many each = absurd (omega (arith, many))
beside-from R (d ∷ F) (g ∷ G) many each = (each 0 d g refl refl, beside-from R F G (omega (arith, many)) (λ t e h at bt. each (suc t) e h at bt))

-- ---- what stays at each target

-- a test of versions that doesn't ask whether they are done
abbrev pub IsBlind : (Version → Bool) → Type 0
IsBlind p = (v : Version) (b : Bool) → p (record v { done = b }) ≡ p v

-- Of the versions of one target that count the same writes are there, however they are chosen; each version was there, done or not; unsettled ones have
-- their entries; entries and snapshots were there, committed and created or not; what the lease covered it covers; and floors don't fall below snapshots.
pub record KeepsCounted (F G : List Durable) (d g : Durable) : Type 0 where
  pub writes : (p : Version → Bool) → IsBlind p → writes_in (filter (λ v. counts G v && p v) g.versions) ≡ writes_in (filter (λ v. counts F v && p v) d.versions)
  pub versions : (v : Version) → Has v g.versions → (u : Version) × Has u d.versions × (v ≡ record u { done = v.done })
  pub unsettled : (v : Version) → Has v g.versions → IsOfEntry g v
  pub single : AllPairs (λ v w. version_key v ≢ version_key w) g.versions
  pub entries : (e : Entry) → Has e g.entries → (f : Entry) × Has f d.entries × (e.attempt ≡ f.attempt) × SayTheSame e f
  pub snaps : (x : Snap) → Has x g.snaps → Has x d.snaps
  pub floors : All (λ r. r.floor.0 ≤ restart_floor d.lease) d.conts → All (λ r. r.floor.0 ≤ restart_floor d.lease) g.conts
  pub aggregated : All (λ r. r.aggregated.0 ≤ restart_floor d.lease) d.conts → All (λ r. r.aggregated.0 ≤ restart_floor d.lease) g.conts
  pub floored : IsFloored d → IsFloored g
  pub counted : StaysCounted d g

-- Each target does; those that target 0 holds as created it held before, and each target holds them frozen.
pub record FamilyKeeps (F G : List Durable) : Type 0 where
  pub beside : Beside (KeepsCounted F G) F G
  pub created : (x : Snap) → Has x (created_snaps G) → Has x (created_snaps F)
  pub frozen : (t : ℕ) (g : Durable) → slice_get G t ≡ Some g → (x : Snap) → Has x (created_snaps G) → is_frozen g x.cont x.epoch ≡ true

-- ---- what they stand for

and-true : (b : Bool) → b ≡ (b && true)
and-true true = refl
and-true false = refl

and-twice : (a b c : Bool) → ((a && b) && c) ≡ (a && (b && c))
and-twice true b c = refl
and-twice false b c = refl

-- the tests of a family are of what counts, and blind
counts-all : (F : List Durable) → counts F ≡ (λ v. counts F v && true)
counts-all F = λ i v. and-true (counts F v) i

at-below : (F : List Durable) (x : Snap) → counts_at F x ≡ (λ v. counts F v && (nat_lt v.epoch.0 x.epoch.0 && ((version_path v).cont.0 == x.cont.0)))
at-below F x = λ i v. and-twice (counts F v) (nat_lt v.epoch.0 x.epoch.0) ((version_path v).cont.0 == x.cont.0) i

module _ (F G : List Durable) where
  -- the maps of one target
  map-counted : (p : Version → Bool) → IsBlind p → (d g : Durable) → KeepsCounted F G d g → map_where (λ v. counts G v && p v) g ≡ map_where (λ v. counts F v && p v) d
  map-counted p blind d g k = ap (λ ws. effects ws []) (k.writes p blind)

  map-now : (d g : Durable) → KeepsCounted F G d g → map_where (counts G) g ≡ map_where (counts F) d
  map-now d g k = ap (λ q. map_where q g) (counts-all G) ∙ map-counted (λ v. true) (λ v b. refl) d g k ∙ sym (ap (λ q. map_where q d) (counts-all F))

  map-at : (x : Snap) (d g : Durable) → KeepsCounted F G d g → map_where (counts_at G x) g ≡ map_where (counts_at F x) d
  map-at x d g k =
      ap (λ q. map_where q g) (at-below G x)
      ∙ map-counted (λ v. nat_lt v.epoch.0 x.epoch.0 && ((version_path v).cont.0 == x.cont.0)) (λ v b. refl) d g k
      ∙ sym (ap (λ q. map_where q d) (at-below F x))

  -- the maps of all targets
  joined-counted : (q p : Version → Bool) → ((d g : Durable) → KeepsCounted F G d g → map_where q g ≡ map_where p d) → (n t : ℕ) (ds gs : List Durable) → Beside (KeepsCounted F G) ds gs → joined n t q gs ≡ joined n t p ds
  joined-counted q p same n t [] [] b = refl
  joined-counted q p same n t [] (g ∷ gs) b = absurd b
  joined-counted q p same n t (d ∷ ds) [] b = absurd b
  joined-counted q p same n t (d ∷ ds) (g ∷ gs) b =
      ap (λ m. filter (is_led_by n t) m ++ joined n (t + 1) q gs) (same d g b.0)
      ∙ ap (λ m. filter (is_led_by n t) (map_where p d) ++ m) (joined-counted q p same n (t + 1) ds gs b.1)

  module _ (k : FamilyKeeps F G) where
    many : length G ≡ length F
    many = beside-many (KeepsCounted F G) F G k.beside

    family-counted : (q p : Version → Bool) → ((d g : Durable) → KeepsCounted F G d g → map_where q g ≡ map_where p d) → family_map q G ≡ family_map p F
    family-counted q p same = ap (λ n. joined n 0 q G) many ∙ joined-counted q p same (length F) 0 F G k.beside

    now-kept : (stand G).now ≡ (stand F).now
    unfolding stand
    now-kept = family-counted (counts G) (counts F) map-now

    snap-kept : (x : Snap) → snap_map G x ≡ snap_map F x
    snap-kept x =
        ap (λ m. record { cont = x.cont; epoch = x.epoch; map = part_of x.cont m })
        (family-counted (counts_below G x.epoch.0) (counts_below F x.epoch.0) (map-counted (λ v. nat_lt v.epoch.0 x.epoch.0) (λ v b. refl)))

    -- ---- soundness

    agree-on : (q p : Version → Bool) → ((d g : Durable) → KeepsCounted F G d g → map_where q g ≡ map_where p d) → AgreeOn F p → AgreeOn G q
    agree-on q p same agree c t u g h dkey i j at bt =
        let x = beside-at (KeepsCounted F G) F G t g k.beside at in
        let y = beside-at (KeepsCounted F G) F G u h k.beside bt in
        ap (λ m. value_at m c) (same x.0 g x.2)
        ∙ agree c t u x.0 y.0 dkey (subst (λ n. Contains (path_members c.path n) t) many i) (subst (λ n. Contains (path_members c.path n) u) many j) x.1 y.1
        ∙ sym (ap (λ m. value_at m c) (same y.0 h y.2))

    module _ (s : Sound F) where
      agrees : Agree G
      agrees = record {
        now = agree-on (counts G) (counts F) map-now s.agree.now;
        snaps = all-from_has (λ x. AgreeOn G (counts_at G x)) (created_snaps G)
            (λ x i. agree-on (counts_at G x) (counts_at F x) (map-at x) (has-all (λ y. AgreeOn F (counts_at F y)) (created_snaps F) x s.agree.snaps (k.created x i)));
      }

      covers : (d g : Durable) → KeepsCounted F G d g → IsCovered d → IsCovered g
      covers d g c o = record {
        versions = all-from_has (λ v. v.epoch.0 ≤ restart_floor g.lease) g.versions (λ v i. let u = c.versions v i in
            subst (λ n. v.epoch.0 ≤ restart_floor n) (sym c.counted.lease) (subst (λ (e : Epoch). e.0 ≤ restart_floor d.lease) (sym (ap (λ z. z.epoch) u.2)) (has-all (λ z. z.epoch.0 ≤ restart_floor d.lease) d.versions u.0 o.versions u.1)));
        entries = all-from_has (λ e. e.epoch.0 ≤ restart_floor g.lease) g.entries (λ e i. let f = c.entries e i in
            subst (λ n. e.epoch.0 ≤ restart_floor n) (sym c.counted.lease) (subst (λ (z : Epoch). z.0 ≤ restart_floor d.lease) (sym f.3.epoch) (has-all (λ z. z.epoch.0 ≤ restart_floor d.lease) d.entries f.0 o.entries f.1)));
        floors = subst (λ n. All (λ r. r.floor.0 ≤ restart_floor n) g.conts) (sym c.counted.lease) (c.floors o.floors);
        aggregated = subst (λ n. All (λ r. r.aggregated.0 ≤ restart_floor n) g.conts) (sym c.counted.lease) (c.aggregated o.aggregated);
        snaps = all-from_has (λ x. x.epoch.0 ≤ restart_floor g.lease) g.snaps (λ x i. subst (λ n. x.epoch.0 ≤ restart_floor n) (sym c.counted.lease) (has-all (λ z. z.epoch.0 ≤ restart_floor d.lease) d.snaps x o.snaps (c.snaps x i)));
      }

      sound-at : (t : ℕ) (d g : Durable) → slice_get G t ≡ Some g → KeepsCounted F G d g → IsSoundAt F t d → IsSoundAt G t g
      sound-at t d g at c o = record {
        covered = covers d g c o.covered;
        holds = all-from_has (λ e. is_in_field e.members t ≡ true) g.entries (λ e i. let f = c.entries e i in
            subst (λ n. is_in_field n t ≡ true) (sym f.3.members) (has-all (λ z. is_in_field z.members t ≡ true) d.entries f.0 o.holds f.1));
        unsettled = all-from_has (IsOfEntry g) g.versions c.unsettled;
        placed = all-from_has (IsPlaced (length G) t) g.versions (λ v i. let u = c.versions v i in
            subst (λ n. IsPlaced n t v) (sym many) (subst (IsPlaced (length F) t) (sym u.2) (has-all (IsPlaced (length F) t) d.versions u.0 o.placed u.1)));
        single = c.single;
        frozen = all-from_has (λ x. is_frozen g x.cont x.epoch ≡ true) (created_snaps G) (k.frozen t g at);
      }

      pub keeps-sound : Sound G
      keeps-sound = record {
        agree = agrees;
        targets = λ t g at. let x = beside-at (KeepsCounted F G) F G t g k.beside at in sound-at t x.0 g at x.2 (s.targets t x.0 x.1);
        entries = λ t u g h at bt.
            let x = beside-at (KeepsCounted F G) F G t g k.beside at in
            let y = beside-at (KeepsCounted F G) F G u h k.beside bt in
            all-from_has (λ e. All (λ f. e.attempt ≡ f.attempt → SayTheSame e f) h.entries) g.entries (λ e i.
            all-from_has (λ f. e.attempt ≡ f.attempt → SayTheSame e f) h.entries (λ f j same.
            let a = x.2.entries e i in
            let b = y.2.entries f j in
            let said = has-all (λ z. a.0.attempt ≡ z.attempt → SayTheSame a.0 z) y.0.entries b.0 (has-all (λ w. All (λ z. w.attempt ≡ z.attempt → SayTheSame w z) y.0.entries) x.0.entries a.0 (s.entries t u x.0 y.0 x.1 y.1) a.1) b.1 (sym a.2 ∙ same ∙ b.2) in
            record { epoch = a.3.epoch ∙ said.epoch ∙ sym b.3.epoch; leader = a.3.leader ∙ said.leader ∙ sym b.3.leader; members = a.3.members ∙ said.members ∙ sym b.3.members }));
      }

      -- ---- what is left

      keeps-floored : AreFloored F → AreFloored G
      keeps-floored low t g at = let x = beside-at (KeepsCounted F G) F G t g k.beside at in x.2.floored (low t x.0 x.1)

      pub keeps-left : (script : Script) → ((x : Snap) → Has x (lasting_snaps script F) → Has x (created_snaps G)) → IsLeftOf script F G
      keeps-left script lasting = record {
        sound = keeps-sound;
        floored = keeps-floored;
        now = now-kept;
        snaps = λ x i. (k.created x i, snap-kept x);
        lasting = lasting;
        many = many;
        each = λ t d g at bt. let x = beside-at (KeepsCounted F G) F G t g k.beside bt in
            let same : x.0 ≡ d = let e : Some x.0 ≡ Some d = sym x.1 ∙ at in cc in
            subst (λ z. StaysCounted z g) same x.2.counted;
      }

-- ---- one after another

pub left-itself : (s : Script) (F : List Durable) → Sound F → IsLeftOf s F F
left-itself s F k = record {
  sound = k;
  floored = λ low. low;
  now = refl;
  snaps = λ x i. (i, refl);
  lasting = λ x i. (has-from_filter (keeps s) (created_snaps F) x i).0;
  many = refl;
  each = λ t d g at bt. let same : d ≡ g = let e : Some d ≡ Some g = sym at ∙ bt in cc in subst (StaysCounted d) same (record { lease = refl; incarnation = refl });
}

pub left-then : (s : Script) (F E G : List Durable) → IsLeftOf s F E → IsLeftOf s E G → IsLeftOf s F G
left-then s F E G a b = record {
  sound = b.sound;
  floored = λ low. b.floored (a.floored low);
  now = b.now ∙ a.now;
  snaps = λ x i. let y = b.snaps x i in let z = a.snaps x y.0 in (z.0, y.1 ∙ z.1);
  lasting = λ x i. b.lasting x (has-filter (keeps s) (created_snaps E) x (a.lasting x i) (has-from_filter (keeps s) (created_snaps F) x i).1);
  many = b.many ∙ a.many;
  each = λ t d g at bt.
      let e = at-within E t (subst (λ n. t < n) (sym a.many) (slice_get_within F t d at)) in
      let x = a.each t d e.0 at e.1 in
      let y = b.each t e.0 g e.1 bt in
      record { lease = y.lease ∙ x.lease; incarnation = y.incarnation ∙ x.incarnation };
}
