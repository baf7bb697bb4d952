-- Stores that are opened together for a run of a script.
use Rattle.std.specs.Prelude.{ℕ, ◌≡◌, ◌≤◌, ◌<◌, ◌-◌, ◌^◌, false, List, [], ◌∷◌, filter, length, map, slice_get, Option, Some, Result, Ok, Err, IfOk, refl}
use Rattle.std.specs.Option.{ForSome, option_map}
use Rattle.std.proofs.Common.{inl, sym, ◌∙◌, ap, subst, arith}
use Rattle.base_types.specs.declared.epoch.Epoch.{Epoch}
use Rattle.base_types.specs.declared.id.ContId.{ContId}
use Rattle.base_types.specs.declared.script.Script.{Script}
use Rattle.base_types.specs.declared.snapshot.Snap.{Snap}
use Rattle.base_types.specs.Epochs.{restart_floor}
use Rattle.daos_model.specs.declared.durable.Durable.{Durable}
use Rattle.daos_model.specs.Changes.{enlisted}
use Rattle.daos_model.specs.Durables.{IsInForm}
use Rattle.daos_model.specs.Opening.{kept}
use Rattle.daos_model.specs.Family.{stand, snap_map, created_snaps, greatest_lease}
use Rattle.daos_model.specs.Finals.{opening_of}
use Rattle.daos_model.specs.FormLaws.{length-map}
use Rattle.daos_model.specs.Sound.{Sound}
use Rattle.model_laws.specs.Members.{Has, has-filter, has-from_filter}
use Rattle.model_laws.specs.TargetLaws.{same_number}
use Rattle.run_opening.specs.declared.stop.OpeningStop.{OpeningStop}
use Rattle.run_opening.specs.declared.stop.OpeningStop.TheVariants as opening
use Rattle.run_opening.specs.All.{AllRun, AreKept, FromTo, MayBeFound, RunAll as OpeningRuns, is_fault_of as is_opening_fault}
use Rattle.run_opening.specs.Alike.{KeepsData, created-alike}
use Rattle.run_opening.specs.EnlistLaws.{enlisting-form, enlisting-openings, enlisting-sound, opened-knows}
use Rattle.run_opening.specs.EnlistLeft.{enlisting-left, found-parts}
use Rattle.run_opening.specs.FloorLaws.{enlisting-floored}
use Rattle.run_opening.specs.Laws.{AreFew}
use Rattle.run_opening.specs.Left.{IsLeftOf, LeavesAll, or_not}
use Rattle.run_opening.specs.LeftLaws.{left-then}
use Rattle.run_opening.specs.Opened.{AreInForm, enlisted_family, keeps, lasting_snaps, opened}
use Rattle.run_opening.specs.SoundLaws.{at-mapped, opened-sound}
use Rattle.run_opening.specs.StandLaws.{created-opened, opened-leases, opened-stands}
use Rattle.run_opening.specs.target_parts.Parts.{Runs}
use Rattle.run_opening.specs.target_parts.Running.{runs_as, runs_on}
use Rattle.vos_store.specs.Calls.{State}
use Rattle.vos_store.specs.Refusals.{always_stop, says}
use Rattle.world_closing.specs.stands.Lasting.{leases-below}
use Rattle.world_closing.specs.Below.{declared_conts}
use Rattle.run_starts.specs.declared.stop.StartStop.{StartStop}
use Rattle.run_starts.specs.Calls.{AreCovered, RunAll, WhyNotOpened, WithContainers}
use Rattle.run_starts.specs.LastLaws.{opened-last}
use Rattle.run_starts.specs.Starts.{AllBegin, AreHeldFirst, AreOpened, BeginsAs, CanOpen, IsWhole, MayOpenAgain, begun_family}
use Rattle.run_starts.specs.Stops.{is_fault_of, not_opened, wanting}
use Rattle.run_starts.proofs.Adding.{same-at, there}

-- ---- calls

-- containers that are added leave versions, entries and snapshots
keeps-data : (cs : List ContId) → KeepsData (enlisted cs)
unfolding enlisted
keeps-data cs = record { versions = λ d. refl; entries = λ d. refl; snaps = λ d. refl }

fault-same : (t : ℕ) (why : OpeningStop) → is_fault_of t (not_opened why) ≡ is_opening_fault t why
fault-same t (opening.Stopped target) = refl
fault-same t opening.Memory = refl

module _ {S : Type 0} (durable : S → Option Durable) (state : S → State) where
  -- after calls that came to their end all run still
  pub all-run : {T : Type 0} (x : T) (old new : List S) → RunAll durable state (Ok x) old new → AllRun state new
  all-run x old new k t y to = let a = there new old t y (sym k.many) to in (k.each t a.0 y a.1 to).stops

  -- another value, and an error that is handed on
  pub run-so : {T U : Type 0} (x : T) (y : U) (old new : List S) → RunAll durable state (Ok x) old new → RunAll durable state (Ok y) old new
  run-so x y old new k = record {
    many = k.many;
    each = λ t a b at to. runs_as (is_fault_of t) (Ok x) (is_fault_of t) (Ok y) (state a) (state b) (durable a) (durable b) refl (k.each t a b at to);
    free = k.free;
    still = k.still;
    own = λ t. tt;
  }

  pub run-err : {T U : Type 0} (why : StartStop) (old new : List S) → RunAll {T = T} durable state (Err why) old new → RunAll {T = U} durable state (Err why) old new
  run-err {T} {U} why old new k = record {
    many = k.many;
    each = λ t a b at to. runs_as {T = T} {U = U} (is_fault_of t) (Err why) (is_fault_of t) (Err why) (state a) (state b) (durable a) (durable b) refl (k.each t a b at to);
    free = k.free;
    still = λ t a b at to. tt;
    own = k.own;
  }

  -- no memory for more, after calls that came to their end
  pub run-wanting : {T U : Type 0} (x : T) (why : StartStop) (old new : List S) → why ≡ wanting → RunAll durable state (Ok x) old new → RunAll {T = U} durable state (Err why) old new
  run-wanting {T} {U} x why old new is k = subst (λ w. RunAll {T = U} durable state (Err w) old new) (sym is) (record {
    many = k.many;
    each = λ t a b at to. runs_as {T = T} {U = U} (is_fault_of t) (Ok x) (is_fault_of t) (Err wanting) (state a) (state b) (durable a) (durable b) refl (k.each t a b at to);
    free = k.free;
    still = λ t a b at to. tt;
    own = λ t is. let no : ⊥ = cc in absurd no;
  })

  module _ (old mid new : List S) (a : RunAll {T = Unit {0}} durable state (Ok (tt {0})) old mid) where
    -- the opening, after containers were added
    runs-through : (result : Result (Unit {0}) OpeningStop) (said : Result (Unit {0}) StartStop) → ((t : ℕ) → says (is_fault_of t) said ≡ says (is_opening_fault t) result) → OpeningRuns durable state result mid new
        → FromTo old new (λ t x y. Runs (is_fault_of t) said (state x) (state y) (durable x) (durable y))
    runs-through result said same b t x y at to =
        let m = there old mid t x a.many at in
        runs_as (is_opening_fault t) result (is_fault_of t) said (state x) (state y) (durable x) (durable y) (same t)
        (runs_on (is_opening_fault t) result (state x) (state m.0) (state y) (durable x) (durable m.0) (durable y)
        (runs_as {T = Unit {0}} {U = Unit {0}} (is_fault_of t) (Ok (tt {0})) always_stop (Ok (tt {0})) (state x) (state m.0) (durable x) (durable m.0) refl (a.each t x m.0 at m.1)) (b.each t m.0 y m.1 to))

    free-through : (result : Result (Unit {0}) OpeningStop) → OpeningRuns durable state result mid new → FromTo old new (λ t x y. (state x).free ≤ (state y).free)
    free-through result b t x y at to =
        let m = there old mid t x a.many at in
        let one = a.free t x m.0 at m.1 in
        let two = b.free t m.0 y m.1 to in
        omega (arith, one, two)

    pub opened-ok : (cs : List ContId) → FromTo old mid (λ t x y. WithContainers durable cs x y) → OpeningRuns {T = Unit {0}} durable state (Ok (tt {0})) mid new → RunAll {T = Unit {0}} durable state (Ok (tt {0})) old new
    opened-ok cs with b = record {
      many = b.many ∙ a.many;
      each = runs-through (Ok (tt {0})) (Ok (tt {0})) (λ t. refl) b;
      free = free-through (Ok (tt {0})) b;
      still = λ t x y at to d told none.
          let m = there old mid t x a.many at in
          b.still t m.0 y m.1 to (enlisted cs d) ((with t x m.0 at m.1).made ∙ ap (option_map (enlisted cs)) told) ((keeps-data cs).entries d ∙ none) ∙ a.still t x m.0 at m.1 d told none;
      own = λ t. tt;
    }

    pub opened-err : (refusal : OpeningStop) (why : StartStop) → why ≡ not_opened refusal → OpeningRuns {T = Unit {0}} durable state (Err refusal) mid new → RunAll {T = Unit {0}} durable state (Err why) old new
    opened-err refusal why is b = subst (λ w. RunAll {T = Unit {0}} durable state (Err w) old new) (sym is) (record {
      many = b.many ∙ a.many;
      each = runs-through (Err refusal) (Err (not_opened refusal)) (λ t. fault-same t refusal) b;
      free = free-through (Err refusal) b;
      still = λ t x y at to. tt;
      own = λ t says. subst (λ n. t < n) a.many (b.own t (sym (fault-same t refusal) ∙ says));
    })

    pub why-opening : (cs : List ContId) (refusal : OpeningStop) (why : StartStop) → why ≡ not_opened refusal → OpeningRuns {T = Unit {0}} durable state (Err refusal) mid new → WhyNotOpened durable cs old why
    why-opening cs refusal why is b = subst (WhyNotOpened durable cs old) (sym is) (by refusal b)
      where
        by : (refusal : OpeningStop) → OpeningRuns {T = Unit {0}} durable state (Err refusal) mid new → WhyNotOpened durable cs old (not_opened refusal)
        by (opening.Stopped target) b = subst (λ n. target < n) a.many (b.own target (same_number target))
        by opening.Memory b = tt

  -- ---- what they keep

  module _ (cs : List ContId) (B : List Durable) (old mid : List S) (kept : AreKept durable old B) (many : length mid ≡ length old) (k : FromTo old mid (λ t x y. WithContainers durable cs x y)) where
    -- a store that kept one of them keeps it with the containers
    pub kept-added : AreKept durable mid (enlisted_family cs B)
    kept-added = record {
      many = length-map (enlisted cs) B ∙ kept.many ∙ sym many;
      each = λ t y d to bt.
          let b = at-mapped (enlisted cs) B t d bt in
          let x = there mid old t y (sym many) to in
          (k t x.0 y x.1 to).made ∙ ap (option_map (enlisted cs)) (kept.each t x.0 b.0 x.1 b.1) ∙ ap (λ e. Some e) b.2;
    }

    pub few-added : AreFew (enlisted_family cs B)
    few-added t d bt =
        let b = at-mapped (enlisted cs) B t d bt in
        let x = there B old t b.0 (sym kept.many) b.1 in
        let y = there old mid t x.0 many x.1 in
        subst (λ e. length e.conts ≤ 256) b.2 ((k t x.0 y.0 x.1 y.1).few b.0 (kept.each t x.0 b.0 x.1 b.1))

-- ---- what the next openings find

module _ {S : Type 0} (durable : S → Option Durable) (state : S → State) (may : S → Durable → Type 0) (s : Script) (cs : List ContId) (B : List Durable) (sound : Sound B) (old : List S) (kept : AreKept durable old B) where
  -- containers were added at some targets
  pub adding-left : (new : List S) → length new ≡ length old → LeavesAll durable may (λ t. or_not (enlisted cs)) old new → (lasts : List Durable) → MayBeFound may new lasts → IsLeftOf s B lasts
  adding-left new many leaves lasts found = enlisting-left s cs B lasts sound (found-parts durable may (λ t. or_not (enlisted cs)) B old new kept many leaves lasts found)

  -- no call was made
  pub none-left : ((x : S) (d g : Durable) → (state x).stopped ≡ false → durable x ≡ Some d → may x g → g ≡ d) → AllRun state old → (lasts : List Durable) → MayBeFound may old lasts → IsLeftOf s B lasts
  none-left steady run = adding-left old refl (λ t x y at to d g told found. (0, steady x d g (run t x at) told (subst (λ z. may z g) (same-at old t y x to at) found)))

  -- they were added at all
  pub added-left : IsLeftOf s B (enlisted_family cs B)
  added-left = enlisting-left s cs B (enlisted_family cs B) sound (record {
    many = length-map (enlisted cs) B;
    each = λ t d g at bt. let e = at-mapped (enlisted cs) B t g bt in (1, sym e.2 ∙ ap (enlisted cs) (same-at B t e.0 d e.1 at));
  })

  pub then-left : (lasts : List Durable) → IsLeftOf s (enlisted_family cs B) lasts → IsLeftOf s B lasts
  then-left lasts left = left-then s B (enlisted_family cs B) lasts added-left left

none-of : {T : Type 0} (xs : List T) → ((x : T) → Has x xs → ⊥) → xs ≡ []
none-of [] none = refl
none-of (x ∷ xs) none = absurd (none x (inl refl))

-- what is left can be opened too, and no snapshot lasts of it where none lasted before
pub left-again : (s : Script) (B G : List Durable) → CanOpen B → IsLeftOf s B G → MayOpenAgain B G
left-again s B G can left = record {
  opens = record { sound = left.sound; floored = left.floored can.floored };
  unsnapped = λ other none. none-of (lasting_snaps other G) (λ x i.
      let j = has-from_filter (keeps other) (created_snaps G) x i in
      let k : Has x (lasting_snaps other B) = has-filter (keeps other) (created_snaps B) x (left.snaps x j.0).0 j.1 in
      let no : Has x [] = subst (Has x) none k in no);
}

-- ---- what a run begins with

-- how often a target was opened stays
counted : (s : Script) (cs : List ContId) (F : List Durable) (b : Durable) → (opened s F (enlisted cs b)).incarnation ≡ b.incarnation
unfolding opened enlisted
counted s cs F b = refl

module _ (s : Script) (B : List Durable) (some : 0 < length B) (forms : AreInForm B) (can : CanOpen B) (few : AreFew (enlisted_family (declared_conts s) B)) where
  abbrev conts : List ContId
  conts = declared_conts s

  abbrev E : List Durable
  E = enlisted_family conts B

  many : length E ≡ length B
  many = length-map (enlisted conts) B

  same-opening : (free : ℕ → ℕ) → opening_of s E free ≡ opening_of s B free
  same-opening free = enlisting-openings s conts B free

  E-forms : AreInForm E
  E-forms = enlisting-form conts B few forms

  E-sound : Sound E
  E-sound = enlisting-sound conts B can.sound

  begins-as : (t : ℕ) (d : Durable) → slice_get (begun_family s B) t ≡ Some d → BeginsAs s B t d
  begins-as t d at = record {
    lasts = opened-last s E E-forms (enlisting-floored conts B can.floored) t d at;
    enlisted = λ c i. opened-knows s conts B t d c at i;
    incarnation = λ b bt.
        let e = at-mapped (opened s E) E t d at in
        let f = at-mapped (enlisted conts) B t e.0 e.1 in
        ap (λ y. y.incarnation) (sym e.2) ∙ ap (λ y. (opened s E y).incarnation) (sym f.2) ∙ counted s conts E f.0 ∙ ap (λ y. y.incarnation) (same-at B t f.0 b f.1 bt);
  }

  same-stand : stand (begun_family s B) ≡ kept s (stand B)
  same-stand = opened-stands s E ∙ ap (λ o. o.stand) (same-opening (λ t. 0))

  -- where no snapshot lasts
  unsnapped-then : lasting_snaps s B ≡ [] → (kept s (stand B)).snaps ≡ []
  unfolding stand
  unsnapped-then none =
      ap (λ b. b.snaps) (sym same-stand)
      ∙ ap (map (snap_map (begun_family s B))) (created-opened s E ∙ ap (filter (keeps s)) (created-alike (enlisted conts) (keeps-data conts) B) ∙ none)

  -- leases stay
  same-leases : greatest_lease (begun_family s B) ≡ greatest_lease B
  same-leases = opened-leases s E ∙ ap (λ o. o.lease) (same-opening (λ t. 0))

  pub all-begin : AllBegin s B
  all-begin = record {
    sound = opened-sound s E E-sound;
    stands = same-stand;
    leases = same-leases;
    each = begins-as;
    unsnapped = unsnapped-then;
  }

  pub low-leases : greatest_lease (begun_family s B) < 2 ^ 56
  low-leases =
      let low : greatest_lease (begun_family s B) ≤ 2 ^ 56 - 1 = leases-below (begun_family s B) (2 ^ 56 - 1) (λ t d at. let lt : d.lease < 2 ^ 56 = (begins-as t d at).lasts.form.lease in omega (arith, lt)) in
      omega (arith, low)

module _ {S : Type 0} (durable : S → Option Durable) (state : S → State) (s : Script) (B : List Durable) (old new : List S) (some : 0 < length old) (kept : AreKept durable old B)
    (formed : (t : ℕ) (x : S) (d : Durable) → slice_get old t ≡ Some x → durable x ≡ Some d → IsInForm d) (can : CanOpen B) (w : IsWhole durable s B new) where
  some-kept : 0 < length B
  some-kept = subst (λ n. 0 < n) (sym kept.many) some

  in-form : AreInForm B
  in-form t d at = let x = there B old t d (sym kept.many) at in formed t x.0 d x.1 (kept.each t x.0 d x.1 at)

  begin : AllBegin s B
  begin = all-begin s B some-kept in-form can w.few

  pub low : greatest_lease (begun_family s B) < 2 ^ 56
  low = low-leases s B some-kept in-form can w.few

  pub are-opened : (tracker : Epoch) (held : List Snap) → tracker ≡ record { 0 = restart_floor (greatest_lease (begun_family s B)) } → AreHeldFirst (begun_family s B) held → AreCovered state new (greatest_lease (begun_family s B))
      → AreOpened durable state s B new tracker held
  are-opened tracker held is holds covered = record {
    tracker_is = is ∙ ap (λ n. record { 0 = restart_floor n }) begin.leases;
    held_is = holds;
    kept = w.kept;
    begins = begin;
    covered = subst (AreCovered state new) begin.leases covered;
  }

-- ---- what target 0 holds

-- where it tells what it keeps
pub held-first : {S E : Type 0} (durable : S → Option Durable) (stores : List S) (x : S) (r : Result (List Snap) E) → slice_get stores 0 ≡ Some x → ForSome (durable x) (λ d. IfOk r (λ snaps. snaps ≡ d.snaps))
    → IfOk r (λ held. (F : List Durable) → AreKept durable stores F → AreHeldFirst F held)
held-first durable stores x (Ok held) here told = λ F kept d at. told d (kept.each 0 x d here at)
held-first durable stores x (Err why) here told = tt
