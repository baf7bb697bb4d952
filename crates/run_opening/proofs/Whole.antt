-- What all steps of an opening make of targets that are sound together.
use Rattle.std.specs.Prelude.{ℕ, zero, suc, ◌≡◌, ◌<◌, true, false, All, List, [], ◌∷◌, filter, length, map, slice_get, slice_index_or, Option, Some, Result, Ok, Err, OnOk}
use Rattle.std.specs.Option.{option_map}
use Rattle.std.proofs.Common.{refl, sym, ◌∙◌, ap, subst, arith}
use Rattle.std.proofs.lemmas.Option.{slice_get_within}
use Rattle.base_types.specs.declared.entry.Entry.{Entry}
use Rattle.base_types.specs.declared.script.Script.{Script}
use Rattle.base_types.specs.declared.snapshot.Snap.{Snap}
use Rattle.model_laws.specs.Lists.{at-within}
use Rattle.daos_model.specs.declared.durable.Durable.{Durable}
use Rattle.daos_model.specs.Durables.{IsInForm, snap_key}
use Rattle.daos_model.specs.Family.{is_created, resolved}
use Rattle.daos_model.specs.FormLaws.{length-map}
use Rattle.daos_model.specs.Ordered.{is_rising}
use Rattle.daos_model.specs.Sound.{IsOfEntry, Sound}
use Rattle.vos_store.specs.Calls.{State}
use Rattle.run_opening.specs.declared.stop.OpeningStop.{OpeningStop}
use Rattle.run_opening.specs.Alike.{resolved-alike}
use Rattle.run_opening.specs.All.{AllRun, AreCreated, AreEntries, AreKept, DropsAll, EndsAll, GoesAll, GoesAt, RunAll, alike, only, wanting}
use Rattle.run_opening.specs.Opened.{lasting_snaps, opened, opened_family, settled_versions}
use Rattle.run_opening.specs.SoundLaws.{at-mapped}
use Rattle.run_opening.specs.Steps.{bare, dropped, ended, forgotten, left_with, resolved_by, same}
use Rattle.run_opening.proofs.Direct.{forgotten-all, parts-ended}
use Rattle.run_opening.proofs.Ending.{at-read}
use Rattle.run_opening.proofs.Going.{on-any}
use Rattle.run_opening.proofs.Made.{created-dropped, ended-versions, left-dropped, left-some}
use Rattle.run_opening.proofs.Walks.{all-err, all-on, all-one, all-wanting, only-here, only-there, run-all, still-run, there}

-- ---- one target

-- once attempts are ended, the versions that count are left, and no entries
all-ends : (F : List Durable) (d : Durable) → All (IsOfEntry d) d.versions → forgotten (ended (resolved F) d) ≡ record d { versions = settled_versions F d.versions; entries = [] }
all-ends F d sound =
    forgotten-all (ended (resolved F) d)
    ∙ ap without (parts-ended (resolved F) d.entries d)
    ∙ sym (ap (λ y. record d { versions = y.versions; entries = [] }) (parts-ended (resolved F) d.entries d))
    ∙ ap (λ vs. record d { versions = vs; entries = [] }) (ended-versions F d sound)
  where
    without : Durable → Durable
    without y = record y { entries = [] }

-- and once snapshots are dropped
then-opened : (s : Script) (F : List Durable) (t : ℕ) (d : Durable) → is_rising snap_key d.snaps ≡ true
    → left_with (lasting_snaps s F) (only 0 (dropped s) t (record d { versions = settled_versions F d.versions; entries = [] })) ≡ opened s F d
unfolding opened
then-opened s F zero d rises =
    ap (left_with (lasting_snaps s F)) (sym (only-here 0 (dropped s) (record d { versions = settled_versions F d.versions; entries = [] })))
    ∙ left-dropped s F (record d { versions = settled_versions F d.versions; entries = [] }) rises
then-opened s F (suc t) d rises =
    ap (left_with (lasting_snaps s F)) (sym (only-there 0 (suc t) (dropped s) (record d { versions = settled_versions F d.versions; entries = [] }) (λ is. omega (arith, is))))
    ∙ left-some (lasting_snaps s F) (record d { versions = settled_versions F d.versions; entries = [] }) rises

-- ---- all targets

-- the entries of all targets resolve what all targets do
all-bare : (all : List (List Entry)) (F : List Durable) → length all ≡ length F → ((t : ℕ) (es : List Entry) (d : Durable) → slice_get all t ≡ Some es → slice_get F t ≡ Some d → es ≡ d.entries) → map bare all ≡ map (λ d. bare d.entries) F
all-bare [] [] many own = refl
all-bare [] (d ∷ F) many own = absurd (omega (arith, many))
all-bare (es ∷ all) [] many own = absurd (omega (arith, many))
all-bare (es ∷ all) (d ∷ F) many own =
    ap (λ zs. bare zs ∷ map bare all) (own 0 es d refl refl)
    ∙ ap (λ ys. bare d.entries ∷ ys) (all-bare all F (omega (arith, many)) (λ t fs e at bt. own (suc t) fs e at bt))

pub all-resolved : (all : List (List Entry)) (F : List Durable) → length all ≡ length F → ((t : ℕ) (es : List Entry) (d : Durable) → slice_get all t ≡ Some es → slice_get F t ≡ Some d → es ≡ d.entries) → resolved_by all ≡ resolved F
all-resolved all F many own = λ i x. (ap (λ G. resolved G x) (all-bare all F many own) ∙ resolved-alike (λ d. bare d.entries) (λ d. refl) F x) i

-- the snapshots that last are those that the first target holds as created
lasting-first : (s : Script) (F : List Durable) (d : Durable) → slice_get F 0 ≡ Some d → (xs : List Snap) → xs ≡ filter is_created (dropped s (record d { versions = settled_versions F d.versions; entries = [] })).snaps
    → is_rising snap_key d.snaps ≡ true → xs ≡ lasting_snaps s F
lasting-first s [] d at xs is rises = let no : ⊥ = cc in absurd no
lasting-first s (e ∷ F) d at xs is rises =
    let first : d ≡ e = cc in
    is ∙ created-dropped s (record d { versions = settled_versions (e ∷ F) d.versions; entries = [] }) rises ∙ ap (λ y. lasting_snaps s (y ∷ F)) first

-- ---- stores

module _ {S : Type 0} (durable : S → Option Durable) (state : S → State) (s : Script) (F : List Durable) (sound : Sound F) (old : List S)
    (formed : (t : ℕ) (x : S) (d : Durable) → slice_get old t ≡ Some x → durable x ≡ Some d → IsInForm d) (kept : AreKept durable old F) where
  -- each durable is told by its store
  teller : (t : ℕ) (d : Durable) → slice_get F t ≡ Some d → (x : S) × (slice_get old t ≡ Some x) × (durable x ≡ Some d)
  teller t d at =
      let x = at-within old t (subst (λ n. t < n) kept.many (slice_get_within F t d at)) in
      (x.0, x.1, kept.each t x.0 d x.1 at)

  rises : (t : ℕ) (d : Durable) → slice_get F t ≡ Some d → is_rising snap_key d.snaps ≡ true
  rises t d at = let x = teller t d at in (formed t x.0 d x.1 x.2).snaps

  module _ (mid : List S) (e : EndsAll {T = Unit {0}} durable state (Ok (tt {0})) old mid) where
    resolved-is : resolved_by e.all ≡ resolved F
    resolved-is = all-resolved e.all F (e.entries.many ∙ sym kept.many) (λ t es d at bt. let x = teller t d bt in e.entries.each t es at x.0 d x.1 x.2)

    after : (t : ℕ) (d : Durable) → slice_get F t ≡ Some d → forgotten (ended (resolved_by e.all) d) ≡ record d { versions = settled_versions F d.versions; entries = [] }
    after t d at = ap (λ r. forgotten (ended r d)) resolved-is ∙ all-ends F d (sound.targets t d at).unsettled

    lasting : (xs : List Snap) → 0 < length old → AreCreated durable (dropped s) mid 0 xs → xs ≡ lasting_snaps s F
    lasting xs low holds =
        let d = at-within F 0 (subst (λ n. 0 < n) (sym kept.many) low) in
        let x = teller 0 d.0 d.1 in
        let m = there old mid 0 x.0 x.0 e.goes.many x.1 in
        let told = (e.goes.each 0 x.0 (slice_index_or mid 0 x.0) x.1 m).made ∙ ap (option_map (λ d. forgotten (ended (resolved_by e.all) d))) x.2 ∙ ap (λ y. Some y) (after 0 d.0 d.1) in
        lasting-first s F d.0 d.1 xs (holds (slice_index_or mid 0 x.0) (record d.0 { versions = settled_versions F d.0.versions; entries = [] }) m told) (rises 0 d.0 d.1)

    -- so the stores keep what is said of openings
    pub whole : {T : Type 0} (result : Result T OpeningStop) (new : List S) → 0 < length old → DropsAll durable state s result mid new → OnOk result (AreKept durable new (opened_family s F))
    whole (Err why) new low d = tt
    whole (Ok x) new low d = record {
      many = length-map (opened s F) F ∙ kept.many ∙ sym g.many;
      each = λ t y z bt ct.
          let o = at-mapped (opened s F) F t z ct in
          let a = teller t o.0 o.1 in
          (g.each t a.0 y a.1 bt).made ∙ ap (option_map (change t)) a.2
          ∙ ap (λ w. Some w) (ap (λ w. left_with d.created (only 0 (dropped s) t w)) (after t o.0 o.1)
          ∙ ap (λ xs. left_with xs (only 0 (dropped s) t (record o.0 { versions = settled_versions F o.0.versions; entries = [] }))) (lasting d.created low d.holds)
          ∙ then-opened s F t o.0 (rises t o.0 o.1) ∙ o.2);
    }
      where
        change : ℕ → Durable → Durable
        change t w = left_with d.created (only 0 (dropped s) t (forgotten (ended (resolved_by e.all) w)))

        g : GoesAll durable state (λ t w. left_with d.created (only 0 (dropped s) t (forgotten (ended (resolved_by e.all) w)))) (Ok x) old new
        g = all-on durable state (alike (λ w. forgotten (ended (resolved_by e.all) w))) (λ t w. left_with d.created (only 0 (dropped s) t w)) (tt {0}) (Ok x) old mid new e.goes d.goes

-- ---- the parts of an opening

module _ {S : Type 0} (durable : S → Option Durable) (state : S → State) where
  -- attempts weren't ended everywhere
  pub ends-err : {T U : Type 0} (c : ℕ → Durable → Durable) (why : OpeningStop) (old new : List S) → GoesAll {T = T} durable state c (Err why) old new → EndsAll {T = U} durable state (Err why) old new
  ends-err {T} {U} c why old new k = record { all = []; entries = tt; goes = all-err durable state {T = T} {U = U} c (alike (λ d. forgotten (ended (resolved_by []) d))) why old new k }

  pub settles-err : {T U V : Type 0} (all : List (List Entry)) (x : T) (why : OpeningStop) (old mid new : List S) → GoesAll durable state (alike same) (Ok x) old mid → GoesAll {T = U} durable state (alike (ended (resolved_by all))) (Err why) mid new
      → EndsAll {T = V} durable state (Err why) old new
  settles-err {T} {U} {V} all x why old mid new a b =
      ends-err {T = U} {U = V} (alike (ended (resolved_by all))) why old new (all-on durable state (alike same) (alike (ended (resolved_by all))) x (Err why) old mid new a b)

  -- they were, unless this says otherwise
  pub ends-all : {T U V : Type 0} (all : List (List Entry)) (x : T) (y : U) (result : Result V OpeningStop) (old mid late new : List S) → GoesAll durable state (alike same) (Ok x) old mid → AreEntries durable old all
      → GoesAll durable state (alike (ended (resolved_by all))) (Ok y) mid late → GoesAll durable state (alike forgotten) result late new → EndsAll durable state result old new
  ends-all all x y result old mid late new a entries b c = record {
    all = all;
    entries = on-any result entries;
    goes = all-on durable state (alike (ended (resolved_by all))) (alike forgotten) y result old late new
        (all-on durable state (alike same) (alike (ended (resolved_by all))) x (Ok y) old mid late a b) c;
  }

  module _ (s : Script) (old mid : List S) (low : 0 < length old) (run : AllRun state old) where
    -- target 0 didn't drop all that the script drops
    pub first-err : {T U : Type 0} (why : OpeningStop) → GoesAt {T = T} durable state 0 (dropped s) (Err why) old mid → DropsAll {T = U} durable state s (Err why) old mid
    first-err {T} {U} why k = record {
      created = [];
      holds = tt;
      goes = all-err durable state {T = T} {U = U} (only 0 (dropped s)) (λ t d. left_with [] (only 0 (dropped s) t d)) why old mid (all-one durable state 0 (dropped s) (Err why) old mid low run k);
    }

    module _ {T : Type 0} (x : T) (k : GoesAt durable state 0 (dropped s) (Ok x) old mid) where
      pub first-all : GoesAll durable state (only 0 (dropped s)) (Ok x) old mid
      first-all = all-one durable state 0 (dropped s) (Ok x) old mid low run k

      first-there : (z : S) → slice_get mid 0 ≡ Some (slice_index_or mid 0 z)
      first-there z = at-read mid 0 z (subst (λ n. 0 < n) (sym first-all.many) low)

      -- it runs on
      pub first-runs : (z : S) → (state (slice_index_or mid 0 z)).stopped ≡ false
      first-runs z = still-run durable state (only 0 (dropped s)) x old mid first-all 0 (slice_index_or mid 0 z) (first-there z)

      -- no memory for what it holds as created
      pub first-wanting : {U : Type 0} (why : OpeningStop) → why ≡ wanting → DropsAll {T = U} durable state s (Err why) old mid
      first-wanting {U} why is = record {
        created = [];
        holds = tt;
        goes = all-wanting durable state {U = U} (only 0 (dropped s)) (λ t d. left_with [] (only 0 (dropped s) t d)) x why old mid is first-all;
      }

      -- these are the snapshots that it holds as created
      pub first-held : (xs : List Snap) (z : S) → ((d : Durable) → durable (slice_index_or mid 0 z) ≡ Some d → xs ≡ filter is_created d.snaps) → AreCreated durable (dropped s) old 0 xs
      first-held xs z held y d at told =
          held (dropped s d) ((first-all.each 0 y (slice_index_or mid 0 z) at (first-there z)).made ∙ ap (option_map (only 0 (dropped s) 0)) told ∙ ap (λ w. Some w) (sym (only-here 0 (dropped s) d)))

      -- all targets drop what it doesn't hold, unless this says otherwise
      pub drops-all : {U : Type 0} (result : Result U OpeningStop) (xs : List Snap) (new : List S) (z : S) → ((d : Durable) → durable (slice_index_or mid 0 z) ≡ Some d → xs ≡ filter is_created d.snaps) → GoesAll durable state (alike (left_with xs)) result mid new
          → DropsAll durable state s result old new
      drops-all result xs new z held g = record {
        created = xs;
        holds = on-any result (first-held xs z held);
        goes = all-on durable state (only 0 (dropped s)) (alike (left_with xs)) x result old mid new first-all g;
      }

  -- ---- the opening

  pub opening-err : {T U : Type 0} (why : OpeningStop) (old new : List S) → EndsAll {T = T} durable state (Err why) old new → RunAll {T = U} durable state (Err why) old new
  opening-err {T} {U} why old new e =
      run-all durable state (alike same) (Err why) old new (all-err durable state {T = T} {U = U} (alike (λ d. forgotten (ended (resolved_by e.all) d))) (alike same) why old new e.goes)

  pub opening-runs : {T U : Type 0} (s : Script) (x : T) (result : Result U OpeningStop) (old mid new : List S) → EndsAll durable state (Ok x) old mid → DropsAll durable state s result mid new → RunAll durable state result old new
  opening-runs s x result old mid new e d =
      run-all durable state (λ t w. left_with d.created (only 0 (dropped s) t (forgotten (ended (resolved_by e.all) w)))) result old new
      (all-on durable state (alike (λ w. forgotten (ended (resolved_by e.all) w))) (λ t w. left_with d.created (only 0 (dropped s) t w)) x result old mid new e.goes d.goes)

  pub ended-run : {T : Type 0} (x : T) (old new : List S) → EndsAll durable state (Ok x) old new → AllRun state new
  ended-run x old new e = still-run durable state (alike (λ d. forgotten (ended (resolved_by e.all) d))) x old new e.goes
