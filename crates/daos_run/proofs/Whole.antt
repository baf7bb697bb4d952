-- A run of targets that started over stores which were opened for it, from the clients' first turns to the report.
use Rattle.std.specs.Prelude.{ℕ, ◌≡◌, ◌≤◌, ◌<◌, ◌+◌, ◌^◌, Bool, true, false, List, length, map, slice_get, Option, Some, None, is_some, Ok, refl}
use Rattle.std.proofs.Math.Path.{path_j, subst_refl}
use Rattle.std.proofs.Common.{inr, sym, ◌∙◌, ap, subst, arith}
use Rattle.std.proofs.lemmas.Bool.{true≢false}
use Rattle.std.proofs.lemmas.Option.{slice_get_within}
use Rattle.client_core.specs.Clients.{ClientNow}
use Rattle.base_types.specs.declared.epoch.Epoch.{Epoch}
use Rattle.base_types.specs.declared.job.Job.{Job}
use Rattle.base_types.specs.declared.report.Report.{Report}
use Rattle.base_types.specs.declared.script.Script.{Script}
use Rattle.base_types.specs.declared.snapshot.Snap.{Snap}
use Rattle.base_types.specs.Epochs.{restart_floor}
use Rattle.daos_model.specs.declared.durable.Durable.{Durable}
use Rattle.base_types.specs.Scripts.{IsInForm}
use Rattle.daos_model.specs.AsOf.{empty_stand}
use Rattle.daos_model.specs.Family.{greatest_lease}
use Rattle.daos_model.specs.Finals.{opening_of}
use Rattle.daos_model.specs.FormLaws.{length-map}
use Rattle.daos_model.specs.Opening.{Opening, Outside}
use Rattle.daos_run.specs.Comes.{BreaksOff, ComesFrom, IsOpenedFrom}
use Rattle.daos_run.specs.Opens.{AreFirst, CanStart, MayRun, given}
use Rattle.daos_run.specs.Slots.{AreBack, AreFree, AreSet, EachStore, FromTo, HasNoFuse, HaveStores, IsAt, stores_in}
use Rattle.daos_run.specs.Starts.{AreStarted, StartsOver}
use Rattle.daos_run.specs.Stops.{ArePartsCalled, is_fault_of}
use Rattle.daos_run.proofs.Begun.{IsReady, are-in_form, first-states, have-started, is-heard}
use Rattle.daos_run.proofs.Disarmed.{kept-from, unfused-free, unfused-may_run, unfused-served}
use Rattle.daos_run.proofs.Places.{at-low, in-place, store-at, stores-back, stores-many}
use Rattle.daos_run.proofs.Slots.{same-pair}
use Rattle.model_laws.specs.Lists.{at-within}
use Rattle.run_targets.specs.Ends.{AllTell, BeginsSo, BreaksOffSo, ClocksGave, ComesTo, HaveStarted, IsOutside, IsSoundAgain, first_world, from-map, given_by, one-there, or_empty, same-lists, state_now, stores_of, rules_of, durable_of, durables_of}
use Rattle.run_starts.specs.run_opening.All.{AreKept, FromTo as ListsFromTo, MayBeFound}
use Rattle.run_starts.specs.run_opening.Opened.{lasting_snaps}
use Rattle.run_targets.specs.Below.{AreAlike, TargetOf, served-by-runs, served-on}
use Rattle.run_starts.specs.Runs.{IsNew as IsNewTarget, IsNewWorld, opened-runs-begin}
use Rattle.run_starts.specs.Starts.{AreOpened, BeginsAs, CanOpen, begun_family}
use Rattle.vos_store.specs.Calls.{State}
use Rattle.world_base.specs.declared.world.World.{World}
use Rattle.world_base.specs.Events.{Rules}
use Rattle.run_starts.specs.Below.{AreRulesInForm}

-- ---- what stores keep that tell it

module _ {S : Type 0} (durable : S → Option Durable) (all : (y : S) → is_some (durable y) ≡ true) where
  told-by : (o : Option Durable) → is_some o ≡ true → (d : Durable) × (o ≡ Some d)
  told-by None is = let no : ⊥ = cc in absurd no
  told-by (Some d) is = (d, refl)

  one-kept : S → Durable
  one-kept y = (told-by (durable y) (all y)).0

  pub all-kept : (ys : List S) → (B : List Durable) × AreKept durable ys B
  unfolding told-by one-kept
  all-kept ys = (
    map one-kept ys,
    record {
      many = length-map one-kept ys;
      each = λ t y d at bt.
          let k = from-map one-kept ys t d bt in
          let same : k.of_it ≡ y = one-there ys t k.of_it y k.at at in
          ap durable (sym same) ∙ (told-by (durable k.of_it) (all k.of_it)).1 ∙ ap (λ z. Some z) (sym k.is);
    },
  )

-- where stores keep this, the first tells it
pub told-first : {S C : Type 0} (durable : S → Option Durable) (targets : ℕ) (slots : List (Option (S × C))) → AreSet targets slots → 1 ≤ targets → (B : List Durable) → AreKept durable (stores_in slots) B → (x : S) × (is_some (durable x) ≡ true)
told-first durable targets slots set some B k =
    let x = set.each 0 (omega (arith, some)) in
    let b = at-within B 0 (subst (λ n. 0 < n) (sym (k.many ∙ stores-many targets slots set)) (omega (arith, some))) in
    (x.0.0, ap is_some (k.each 0 x.0.0 b.0 (store-at targets slots set 0 x.0 x.1) b.1))

-- an opening of stores of which nothing is told
abbrev untold : ℕ → Opening
untold lease = record { stand = empty_stand; lease = lease; free = λ t. 0 }

-- what holds of what stands for one thing holds of what stands for another, which is the same
kept-over : {A : Type 0} (P : A → Type 0) (Q : (x : A) → P x → Type 0) {x y : A} (same : x ≡ y) (p : P x) → Q x p → Q y (subst P same p)
kept-over P Q {x = x} same p q = path_j (λ z e. Q z (subst P e p)) (subst (Q x) (sym (subst_refl P p)) q) same

module _ {S C : Type 0} (durable : S → Option Durable) (state : S → State) (may : S → Durable → Type 0) (s : Script) (j : Job) (old mid opened : List (Option (S × C))) (F : IsInForm j.targets s)
    (some : 1 ≤ j.targets) (few : j.targets ≤ 64) (least : 1 ≤ j.attempts) (before : AreSet j.targets old) (between : AreSet j.targets mid) (D : FromTo old mid (λ t a b. HasNoFuse durable state may a b))
    (R : EachStore (λ t store. MayRun durable state j.targets store) old) (tracker : Epoch) (held : List Snap) (P : ArePartsCalled {T = Epoch × List Snap} durable state j.targets (Ok (tracker, held)) mid opened)
    (O : (B : List Durable) → AreKept durable (stores_in mid) B → AreOpened durable state s B (stores_in opened) tracker held) where
  -- the store that was in a place before it was opened
  record WasThere (t : ℕ) (z : S × C) : Type 0 where
    pub pair : S × C
    pub at : IsAt old t pair
    pub opened_from : IsOpenedFrom durable state pair.0 z.0
    pub running : (state z.0).stopped ≡ false
    pub made : j.targets ≤ (state z.0).targets

  was-there : (t : ℕ) (z : S × C) → IsAt opened t z → WasThere t z
  was-there t z at =
      let low = at-low j.targets opened P.set t z at in
      let x = before.each t low in
      let y = between.each t low in
      let f = D t x.0 y.0 x.1 y.1 in
      let r = P.runs t y.0 z y.1 at in
      let same = unfused-free durable state may x.0.0 y.0.0 f in
      let more = P.free t y.0 z y.1 at in
      record {
        pair = x.0;
        at = x.1;
        opened_from = record {
          served = served-on (state x.0.0) (state y.0.0) (state z.0) (durable x.0.0) (durable y.0.0) (durable z.0) (unfused-served durable state may x.0.0 y.0.0 f)
              (served-by-runs {T = Epoch × List Snap} (is_fault_of t) (Ok (tracker, held)) (state y.0.0) (state z.0) (durable y.0.0) (durable z.0) r);
          free = omega (arith, same, more);
          still = λ d told none. P.still t y.0 z y.1 at d (f.kept ∙ told) none ∙ same;
          opening = r.opening ∙ ap (λ h. h.opening) f.state_is.rest;
        };
        running = r.stops;
        made = subst (λ n. j.targets ≤ n) (sym r.targets) (unfused-may_run durable state may x.0.0 y.0.0 f j.targets (R t x.0 x.1)).made;
      }

  -- ---- what they keep

  module _ (B : List Durable) (k : AreKept durable (stores_in mid) B) where
    many-kept : length B ≡ j.targets
    many-kept = k.many ∙ stores-many j.targets mid between

    -- what a store keeps that was opened
    begun-at : (t : ℕ) (z : S × C) → IsAt opened t z → (d : Durable) × (slice_get (begun_family s B) t ≡ Some d) × (durable z.0 ≡ Some d)
    begun-at t z at =
        let a = O B k in
        let f = at-within (begun_family s B) t (subst (λ n. t < n) (sym (a.kept.many ∙ stores-many j.targets opened P.set)) (at-low j.targets opened P.set t z at)) in
        (f.0, f.1, a.kept.each t z.0 f.0 (store-at j.targets opened P.set t z at) f.1)

    there-at : (t : ℕ) (z : S × C) (d : Durable) → IsAt opened t z → durable z.0 ≡ Some d → slice_get (begun_family s B) t ≡ Some d
    there-at t z d at told = let f = begun-at t z at in f.1 ∙ (sym f.2 ∙ told)

    begins-at : (t : ℕ) (z : S × C) (d : Durable) → IsAt opened t z → durable z.0 ≡ Some d → BeginsAs s B t d
    begins-at t z d at told = (O B k).begins.each t d (there-at t z d at told)

  pub can-start : AreAlike durable → HaveStores (λ t store. CanStart durable state j.targets store) j.targets opened
  can-start alike = record {
    set = P.set;
    each = λ t z at.
        let w = was-there t z at in
        record {
          running = w.running;
          made = w.made;
          heard = λ d told.
              let B = all-kept durable (λ y. alike z.0 y (ap is_some told)) (stores_in mid) in
              is-heard (begun_family s B.0) t d (O B.0 B.1).begins.sound (there-at B.0 B.1 t z d at told);
          bare = λ d told.
              let B = all-kept durable (λ y. alike z.0 y (ap is_some told)) (stores_in mid) in
              (begins-at B.0 B.1 t z d at told).lasts.entries;
        };
  }

  -- ---- clients and targets

  module _ (cs : List ClientNow) (xs : List (TargetOf S C)) (K : AreFirst s held j.attempts tracker cs) (A : AreStarted durable j j.targets opened xs) where
    -- the store over which a target started
    over : (t : ℕ) (x : TargetOf S C) → slice_get xs t ≡ Some x → (z : S × C) × IsAt opened t z × StartsOver durable j t z x
    over t x at =
        let z = P.set.each t (subst (λ n. t < n) A.many (slice_get_within xs t x at)) in
        (z.0, z.1, A.each t x z.0 at z.1)

    their-stores : stores_of xs ≡ stores_in opened
    their-stores = same-lists (stores_of xs) (stores_in opened) (length-map (λ x. x.store) xs ∙ A.many ∙ sym (stores-many j.targets opened P.set))
        (λ t a b at to.
        let x = from-map (λ y. y.store) xs t a at in
        let z = over t x.of_it x.at in
        x.is ∙ z.2.store ∙ one-there (stores_in opened) t z.0.0 b (store-at j.targets opened P.set t z.0 z.1) to)

    module _ (B : List Durable) (k : AreKept durable (stores_in old) B) where
      now-kept : AreKept durable (stores_in mid) B
      now-kept = kept-from durable state may j.targets old mid before between D B k

      so : AreOpened durable state s B (stores_in opened) tracker held
      so = O B now-kept

      seldom-kept : (t : ℕ) (b : Durable) → slice_get B t ≡ Some b → b.incarnation ≤ 2 ^ 63 + 1
      seldom-kept t b bt =
          let x = before.each t (subst (λ n. t < n) (many-kept B now-kept) (slice_get_within B t b bt)) in
          (R t x.0 x.1).seldom b (k.each t x.0.0 b (store-at j.targets old before t x.0 x.1) bt)

      ready : (free : ℕ → ℕ) (t : ℕ) (x : TargetOf S C) → slice_get xs t ≡ Some x → IsReady durable state s j (opening_of s B free) tracker held cs xs F K so.tracker_is A.many t x
      ready free t x at =
          let z = over t x at in
          record {
            new = z.2.new;
            running = subst (λ y. (state y).stopped ≡ false) (sym z.2.store) (was-there t z.0 z.1).running;
            seldom = λ d told.
                let b = at-within B t (subst (λ n. t < n) (sym (many-kept B now-kept)) (at-low j.targets opened P.set t z.0 z.1)) in
                subst (λ n. n ≤ 2 ^ 63 + 1) (sym ((begins-at B now-kept t z.0 d z.1 (ap durable (sym z.2.store) ∙ told)).incarnation b.0 b.1)) (seldom-kept t b.0 b.1);
          }

      -- what a target keeps when it starts
      begun-there : (t : ℕ) (x : TargetOf S C) → slice_get xs t ≡ Some x → (d : Durable) × (slice_get (begun_family s B) t ≡ Some d) × (durable x.store ≡ Some d)
      begun-there t x at = let z = over t x at in let d = begun-at B now-kept t z.0 z.1 in (d.0, d.1, ap durable z.2.store ∙ d.2)

      pub all-tell : AllTell durable (stores_of xs)
      all-tell t y at =
          let x = from-map (λ z. z.store) xs t y at in
          ap (λ w. is_some (durable w)) x.is ∙ ap is_some (begun-there t x.of_it x.at).2

      -- ---- the first world

      abbrev w : World
      w = first_world durable state cs xs

      keeps-begun : durables_of w ≡ begun_family s B
      keeps-begun = same-lists (durables_of w) (begun_family s B)
          (length-map durable_of w.targets ∙ length-map (state_now durable state) xs ∙ A.many ∙ sym (stores-many j.targets opened P.set) ∙ sym so.kept.many)
          (λ t a b at to.
          let y = from-map durable_of w.targets t a at in
          let x = from-map (state_now durable state) xs t y.of_it y.at in
          let d = begun-there t x.of_it x.at in
          let same : d.0 ≡ b = let e : Some d.0 ≡ Some b = sym d.1 ∙ to in cc in
          y.is ∙ ap durable_of x.is ∙ ap or_empty d.2 ∙ same)

      module _ (free : ℕ → ℕ) (room : AreFree state old free) where
        abbrev r : Rules
        r = rules_of (given s j B free)

        new-target : (t : ℕ) (x : TargetOf S C) → slice_get xs t ≡ Some x → IsNewTarget (opening_of s B free) t (state_now durable state x)
        new-target t x at =
            let z = over t x at in
            let p = was-there t z.0 z.1 in
            let d = begun-there t x at in
            let new = z.2.new in
            let low = room t p.pair p.at in
            let more = p.opened_from.free in
            record {
              free = subst (λ y. free t ≤ (state y).free) (sym z.2.store) (let le : free t ≤ (state z.0.0).free = omega (arith, low, more) in le);
              floor = subst (λ y. (state y).opening.0.0 ≤ restart_floor (greatest_lease B)) (sym z.2.store) (so.covered t z.0.0 (store-at j.targets opened P.set t z.0 z.1));
              runs = refl;
              ticks = let same : x.memory.ticks ≡ (or_empty (durable x.store)).lease = new.ticks d.0 d.2 ∙ ap (λ y. (or_empty y).lease) (sym d.2) in omega (arith, same);
              stamps = new.unread;
              leader = new.leads;
              member = new.joins;
              collecting = new.making;
            }

        new-world : IsNewWorld r (opening_of s B free) held w
        new-world = record {
          targets = λ t z here. let x = from-map (state_now durable state) xs t z here in subst (IsNewTarget (opening_of s B free) t) (sym x.is) (new-target t x.of_it x.at);
          clients = first-states durable state s j (opening_of s B free) tracker held cs xs F K so.tracker_is A.many;
          messages = refl;
          asked = refl;
          issued = refl;
          lines = refl;
        }

        form : AreRulesInForm r
        form = are-in_form s j (opening_of s B free) F some few least

        begins-so : BeginsSo (given s j B free) w
        begins-so =
            let k = opened-runs-begin r B free held w form.some_target (many-kept B now-kept ∙ sym F.read_for) so.begins so.held_is keeps-begun new-world in
            record { begins = record { form = form; begins = k.begins; few = k.few }; holds = k.holds }

        -- they have started as those of a run of the script over what was kept, with so many blocks free on each
        pub started : HaveStarted durable state (given s j B free) cs xs
        started = have-started durable state s j (opening_of s B free) tracker held cs xs F K so.tracker_is A.many some few least (ready free) (λ told. begins-so)

    -- whether or not they tell what they keep
    module _ (alike : AreAlike durable) (lease : ℕ) (is : tracker ≡ record { 0 = restart_floor lease }) where
      started-untold : ((y : S) → is_some (durable y) ≡ true → ⊥) → HaveStarted durable state (given_by s j (untold lease)) cs xs
      started-untold none =
          have-started durable state s j (untold lease) tracker held cs xs F K is A.many some few least
          (λ t x at.
          let z = over t x at in
          record {
            new = z.2.new;
            running = subst (λ y. (state y).stopped ≡ false) (sym z.2.store) (was-there t z.0 z.1).running;
            seldom = λ d told. absurd (none x.store (ap is_some told));
          })
          (λ told. let x = at-within (stores_of xs) 0 (subst (λ n. 0 < n) (sym (length-map (λ y. y.store) xs ∙ A.many)) (omega (arith, some))) in absurd (none x.0 (told 0 x.0 x.1)))

      pub may-start : (o : Opening) × HaveStarted durable state (given_by s j o) cs xs
      may-start =
          let first = before.each 0 (omega (arith, some)) in
          by first.0.0 (is_some (durable first.0.0)) refl
        where
          by : (y : S) (b : Bool) → is_some (durable y) ≡ b → (o : Opening) × HaveStarted durable state (given_by s j o) cs xs
          by y true told =
              let B = all-kept durable (λ z. alike y z told) (stores_in old) in
              (opening_of s B.0 (λ t. 0), started B.0 B.1 (λ t. 0) (λ t x at. omega arith))
          by y false not = (untold lease, started-untold (λ z told. true≢false (sym (alike z y told) ∙ not)))

    -- ---- what it comes to

    module _ (slots new : List (Option (S × C))) (ys : List (TargetOf S C)) (after : AreSet j.targets new) (many : length ys ≡ length xs) (B : AreBack ys slots new) where
      opened-from : ListsFromTo (stores_in old) (stores_in opened) (λ t x z. IsOpenedFrom durable state x z)
      opened-from t x z at to =
          let p = in-place j.targets old before t x at in
          let r = in-place j.targets opened P.set t z to in
          let w = was-there t r.pair r.at in
          let same : w.pair ≡ p.pair = same-pair old t w.pair p.pair w.at p.at in
          subst (λ y. IsOpenedFrom durable state y z) (sym p.is) (subst (λ y. IsOpenedFrom durable state p.pair.0 y) (sym r.is) (subst (λ q. IsOpenedFrom durable state q.0 r.pair.0) same w.opened_from))

      since : (o : Outside) → IsOutside state o (stores_in old) (stores_in new) → IsOutside state o (stores_in opened) (stores_in new)
      since o fits = record {
        counts = λ t z v k at to says.
            let r = in-place j.targets opened P.set t z at in
            let x = before.each t (at-low j.targets opened P.set t r.pair r.at) in
            let there = store-at j.targets old before t x.0 x.1 in
            let from = opened-from t x.0.0 z there at in
            let c = fits.counts t x.0.0 v k there to says in
            let more = from.served.faults in
            let most = c.2 in
            (from.served.tells_fuse ∙ c.0, c.1, omega (arith, more, most));
      }

      ends-so : (L : List Durable) (free : ℕ → ℕ) (q : Report) → ComesTo durable state may (given s j L free) (stores_of xs) (stores_of ys) q → ComesTo durable state may (given s j L free) (stores_in opened) (stores_in new) q
      ends-so L free q c =
          subst (λ l. ComesTo durable state may (given s j L free) (stores_in opened) l q) (stores-back j.targets ys slots new after (many ∙ A.many) B)
          (subst (λ l. ComesTo durable state may (given s j L free) l (stores_of ys) q) their-stores c)

      -- what is left after it is what another run may begin with
      again-so : (L : List Durable) → IsSoundAgain L → CanOpen L
      again-so L k = record { sound = k.sound; floored = k.floored }

      pub come-from : (L : List Durable) (free : ℕ → ℕ) (q : Report) → AreKept durable (stores_in old) L → AreFree state old free → ComesTo durable state may (given s j L free) (stores_of xs) (stores_of ys) q → ComesFrom durable state may (given s j L free) (stores_in old) (stores_in new) q
      come-from L free q kept room c = record {
        opened = stores_in opened;
        many = stores-many j.targets opened P.set ∙ sym (stores-many j.targets old before);
        each = opened-from;
        kept = λ B k. (O B (now-kept B k)).kept;
        since = since;
        comes = ends-so L free q c;
        unsnapped = λ B k none.
            (let same : B ≡ L = same-lists B L (k.many ∙ sym kept.many) (λ t d e at to.
            let x = at-within (stores_in old) t (subst (λ n. t < n) k.many (slice_get_within B t d at)) in
            let two : Some d ≡ Some e = sym (k.each t x.0 d x.1 at) ∙ kept.each t x.0 e x.1 to in
            let one : d ≡ e = cc in one) in
            (O L (now-kept L kept)).begins.unsnapped (ap (lasting_snaps s) (sym same) ∙ none));
        sound = λ E k can lasts found.
            again-so lasts ((ends-so L free q c).sound (begun_family s E) (record { many = (O E (now-kept E k)).kept.many; each = (O E (now-kept E k)).kept.each }) (O E (now-kept E k)).begins.sound lasts found);
      }

      -- and the clocks gave what they gave
      pub come-by_clocks : (is_read : C → C → Type 0) (next_reading : C → Option ℕ) (L : List Durable) (free : ℕ → ℕ) (q : Report) (kept : AreKept durable (stores_in old) L) (room : AreFree state old free) (c : ComesTo durable state may (given s j L free) (stores_of xs) (stores_of ys) q) (AreOf : ℕ → C → C → Type 0)
          → ClocksGave is_read next_reading (given s j L free) q c.ordered.follows AreOf → ClocksGave is_read next_reading (given s j L free) q (come-from L free q kept room c).comes.ordered.follows AreOf
      unfolding come-from ends-so
      come-by_clocks is_read next_reading L free q kept room c AreOf gave =
          kept-over (λ l. ComesTo durable state may (given s j L free) (stores_in opened) l q) (λ l k. ClocksGave is_read next_reading (given s j L free) q k.ordered.follows AreOf) (stores-back j.targets ys slots new after (many ∙ A.many) B)
          (subst (λ l. ComesTo durable state may (given s j L free) l (stores_of ys) q) their-stores c)
          (kept-over (λ l. ComesTo durable state may (given s j L free) l (stores_of ys) q) (λ l k. ClocksGave is_read next_reading (given s j L free) q k.ordered.follows AreOf) their-stores c gave)

      -- it broke off
      pub break-off : (L : List Durable) (free : ℕ → ℕ) → AreKept durable (stores_in old) L → CanOpen L → BreaksOffSo durable may (given s j L free) (stores_of xs) (stores_of ys)
          → (lasts : List Durable) → MayBeFound may (stores_in new) lasts → BreaksOff (given s j L free) L lasts
      break-off L free k can b lasts found =
          let there = subst (λ l. MayBeFound may l lasts) (sym (stores-back j.targets ys slots new after (many ∙ A.many) B)) found in
          let begun = subst (λ l. AreKept durable l (begun_family s L)) (sym their-stores) (O L (now-kept L k)).kept in
          record { stand = inr (b.stand lasts there); opens = again-so lasts (b.sound (begun_family s L) begun (O L (now-kept L k)).begins.sound lasts there) }
