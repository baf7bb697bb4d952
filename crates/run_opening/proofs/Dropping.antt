-- What an opening leaves wherever it is cut: its parts, one after another.
use Rattle.std.specs.Prelude.{ℕ, zero, suc, ◌≡◌, ◌==◌, not, Bool, true, false, List, [], ◌∷◌, filter, length, map, slice_get, take, Some, if◌then◌else◌, refl}
use Rattle.std.specs.List.{list_any}
use Rattle.std.proofs.Common.{sym, ◌∙◌, ap, subst, arith, inl, inr}
use Rattle.std.proofs.lemmas.List.{take_all}
use Rattle.base_types.specs.declared.entry.Entry.{Entry}
use Rattle.base_types.specs.declared.entry.Settle.TheVariants.{Forget}
use Rattle.base_types.specs.declared.script.Script.{Script}
use Rattle.base_types.specs.declared.snapshot.Snap.{Snap}
use Rattle.model_laws.specs.DecidedLaws.{has-all}
use Rattle.model_laws.specs.Members.{Has, any-has, has-any, has-filter, has-from_filter}
use Rattle.model_laws.specs.TargetLaws.{number_same, same_number}
use Rattle.daos_model.specs.declared.durable.Durable.{Durable}
use Rattle.daos_model.specs.BoolLaws.{and_right, both, clash, false_of, not_true}
use Rattle.daos_model.specs.Changes.{is_other, settled}
use Rattle.daos_model.specs.Durables.{is_frozen, is_snap_at, snap_key}
use Rattle.daos_model.specs.Family.{created_snaps, is_created, resolved}
use Rattle.daos_model.specs.FormLaws.{length-map}
use Rattle.daos_model.specs.Sound.{Sound}
use Rattle.run_opening.specs.Left.{AreParts, IsLeftOf, first_dropped, first_ended, first_forgotten, first_left_with, nothing, only_parts}
use Rattle.run_opening.specs.LeftLaws.{Beside, beside-at, beside-from, keeps-left, left-then}
use Rattle.run_opening.specs.Opened.{is_at_one_of, keeps, lasting_snaps}
use Rattle.run_opening.specs.SoundLaws.{at-mapped, left-done}
use Rattle.run_opening.specs.StandLaws.{is-itself, keeps-same}
use Rattle.run_opening.specs.Steps.{all_forgotten, all_thawed, dropped, ended, forgotten, is_dropped, is_other_than, same}
use Rattle.run_opening.specs.All.{only}
use Rattle.run_opening.proofs.Cutting.{AreDone, IsLess, less-created, less-itself, less-keeps, less-then, settled-created, settled-keeps}
use Rattle.run_opening.proofs.Made.{ended-versions, parts-thawed, spared, thawed-spared}
use Rattle.run_opening.proofs.Settling.{IsSettled, all-settled}
use Rattle.run_opening.proofs.Thawing.{same-key}

-- ---- first targets

at-first : (G : List Durable) (g : Durable) (x : Snap) → slice_get G 0 ≡ Some g → Has x (created_snaps G) → Has x g.snaps × (is_created x ≡ true)
at-first [] g x at i = let no : ⊥ = cc in absurd no
at-first (h ∷ G) g x at i = let same : h ≡ g = cc in has-from_filter is_created g.snaps x (subst (λ z. Has x (filter is_created z.snaps)) same i)

first-at : (G : List Durable) (g : Durable) (x : Snap) → slice_get G 0 ≡ Some g → Has x g.snaps → is_created x ≡ true → Has x (created_snaps G)
first-at [] g x at i is = let no : ⊥ = cc in absurd no
first-at (h ∷ G) g x at i is = let same : g ≡ h = cc in subst (λ z. Has x (filter is_created z.snaps)) same (has-filter is_created g.snaps x i is)

-- a family with a snapshot has a first target
has-first : (F : List Durable) (x : Snap) → Has x (created_snaps F) → (d : Durable) × (slice_get F 0 ≡ Some d)
has-first [] x i = absurd i
has-first (d ∷ F) x i = (d, refl)

like-first : (F G : List Durable) (d : Durable) → length G ≡ length F → slice_get F 0 ≡ Some d → (g : Durable) × (slice_get G 0 ≡ Some g)
like-first [] G d many at = let no : ⊥ = cc in absurd no
like-first (e ∷ F) [] d many at = absurd (omega (arith, many))
like-first (e ∷ F) (g ∷ G) d many at = (g, refl)

has-take : {T : Type 0} (n : ℕ) (xs : List T) (x : T) → Has x (take n xs) → Has x xs
has-take zero [] x i = i
has-take zero (y ∷ xs) x i = absurd i
has-take (suc n) [] x i = i
has-take (suc n) (y ∷ xs) x (inl same) = inl same
has-take (suc n) (y ∷ xs) x (inr i) = inr (has-take n xs x i)

-- ---- attempts

module _ (s : Script) (F : List Durable) (k : Sound F) where
  -- the attempts of some first entries are settled
  pub ended-left : (G : List Durable) → AreParts (λ t. first_ended (resolved F)) F G → IsLeftOf s F G
  ended-left G p =
      keeps-left F G (settled-keeps F G settles k) k s
      (λ x i. subst (Has x) (sym (settled-created (resolved F) F G settles)) (has-from_filter (keeps s) (created_snaps F) x i).0)
    where
      settles : Beside (IsSettled (resolved F)) F G
      settles = beside-from (IsSettled (resolved F)) F G p.many (λ t d g at bt. let e = p.each t d g at bt in
          subst (IsSettled (resolved F) d) (sym e.1) (all-settled (resolved F) (take e.0 d.entries) d))

  -- all are
  settles-all : Beside (IsSettled (resolved F)) F (map (ended (resolved F)) F)
  settles-all = beside-from (IsSettled (resolved F)) F (map (ended (resolved F)) F) (length-map (ended (resolved F)) F) (λ t d g at bt.
      let e = at-mapped (ended (resolved F)) F t g bt in
      let same : e.0 ≡ d = let z : Some e.0 ≡ Some d = sym e.1 ∙ at in cc in
      subst (IsSettled (resolved F) d) (ap (ended (resolved F)) (sym same) ∙ e.2) (all-settled (resolved F) d.entries d))

  ended-whole : IsLeftOf s F (map (ended (resolved F)) F)
  ended-whole =
      keeps-left F (map (ended (resolved F)) F) (settled-keeps F (map (ended (resolved F)) F) settles-all k) k s
      (λ x i. subst (Has x) (sym (settled-created (resolved F) F (map (ended (resolved F)) F) settles-all)) (has-from_filter (keeps s) (created_snaps F) x i).0)

  ended-done : AreDone (map (ended (resolved F)) F)
  ended-done t g at v i =
      let e = at-mapped (ended (resolved F)) F t g at in
      left-done F e.0.versions v (subst (Has v) (ended-versions F e.0 (k.targets t e.0 e.1).unsettled) (subst (λ z. Has v z.versions) (sym e.2) i))

-- ---- entries

-- forgetting changes entries alone
forgotten-less : (es : List Entry) (d : Durable) → IsLess d (all_forgotten es d) × ((all_forgotten es d).snaps ≡ d.snaps)
unfolding settled
forgotten-less [] d = (less-itself d, refl)
forgotten-less (e ∷ es) d =
    let k = forgotten-less es (settled e.attempt Forget d) in
    (less-then d (settled e.attempt Forget d) (all_forgotten es (settled e.attempt Forget d)) one k.0, k.1)
  where
    one : IsLess d (settled e.attempt Forget d)
    one = record { versions = refl; entries = λ z i. (has-from_filter (is_other e.attempt) d.entries z i).0; snaps = λ x i. i; conts = refl; counted = record { lease = refl; incarnation = refl } }

frozen-like : (d g : Durable) (x : Snap) → g.snaps ≡ d.snaps → is_frozen d x.cont x.epoch ≡ true → is_frozen g x.cont x.epoch ≡ true
unfolding is_frozen
frozen-like d g x same h = ap (list_any (is_snap_at x.cont x.epoch)) same ∙ h

module _ (s : Script) (F : List Durable) (k : Sound F) (done : AreDone F) where
  -- some first entries are forgotten
  pub forgotten-left : (G : List Durable) → AreParts (λ t. first_forgotten) F G → IsLeftOf s F G
  forgotten-left G p =
      keeps-left F G (less-keeps F G k done less (λ t g bt x i.
      let d = beside-at IsLess F G t g less bt in
      let n = p.each t d.0 g d.1 bt in
      frozen-like d.0 g x (ap (λ z. z.snaps) n.1 ∙ (forgotten-less (take n.0 d.0.entries) d.0).1) (has-all (λ y. is_frozen d.0 y.cont y.epoch ≡ true) (created_snaps F) x (k.targets t d.0 d.1).frozen (less-created F G less x i)))) k s
      (λ x i.
      let j = has-from_filter (keeps s) (created_snaps F) x i in
      let d = has-first F x j.0 in
      let g = like-first F G d.0 p.many d.1 in
      let n = p.each 0 d.0 g.0 d.1 g.1 in
      let h = at-first F d.0 x d.1 j.0 in
      first-at G g.0 x g.1 (subst (Has x) (sym (ap (λ z. z.snaps) n.1 ∙ (forgotten-less (take n.0 d.0.entries) d.0).1)) h.0) h.1)
    where
      less : Beside IsLess F G
      less = beside-from IsLess F G p.many (λ t d g at bt. let n = p.each t d g at bt in subst (IsLess d) (sym n.1) (forgotten-less (take n.0 d.entries) d).0)

-- ---- both

module _ (s : Script) (F : List Durable) (k : Sound F) where
  -- all attempts are settled, and some first entries forgotten
  pub forgets-left : (G : List Durable) → AreParts (λ t n d. first_forgotten n (ended (resolved F) d)) F G → IsLeftOf s F G
  forgets-left G p =
      let w = ended-whole s F k in
      left-then s F (map (ended (resolved F)) F) G w (forgotten-left s (map (ended (resolved F)) F) w.sound (ended-done s F k) G
      (record { many = p.many ∙ sym (length-map (ended (resolved F)) F); each = λ t m g at bt. let d = at-mapped (ended (resolved F)) F t m at in let n = p.each t d.0 g d.1 bt in (n.0, n.1 ∙ ap (first_forgotten n.0) d.2) }))

  pub ends-left : IsLeftOf s F (map (λ d. forgotten (ended (resolved F) d)) F)
  ends-left = forgets-left (map (λ d. forgotten (ended (resolved F) d)) F) (record {
    many = length-map (λ d. forgotten (ended (resolved F) d)) F;
    each = λ t d g at bt.
        let e = at-mapped (λ d. forgotten (ended (resolved F) d)) F t g bt in
        let same : e.0 ≡ d = let z : Some e.0 ≡ Some d = sym e.1 ∙ at in cc in
        (length (ended (resolved F) d).entries, sym e.2 ∙ ap (λ z. forgotten (ended (resolved F) z)) same ∙ sym (ap (λ es. all_forgotten es (ended (resolved F) d)) (take_all (length (ended (resolved F) d).entries) (ended (resolved F) d).entries (omega arith))));
  })

  pub ends-done : AreDone (map (λ d. forgotten (ended (resolved F) d)) F)
  ends-done t g at v i =
      let e = at-mapped (λ d. forgotten (ended (resolved F) d)) F t g at in
      let m = ended (resolved F) e.0 in
      left-done F e.0.versions v (subst (Has v) (ended-versions F e.0 (k.targets t e.0 e.1).unsettled) (subst (Has v) (ap (λ z. z.versions) (sym e.2) ∙ (forgotten-less m.entries m).0.versions) i))

-- ---- snapshots

thawed-is : (xs : List Snap) (d : Durable) → all_thawed xs d ≡ record d { snaps = filter (spared xs) d.snaps }
thawed-is xs d = parts-thawed xs d ∙ ap (λ zs. record d { snaps = zs }) (thawed-spared xs d.snaps)

thawed-less : (xs : List Snap) (d : Durable) → IsLess d (all_thawed xs d)
thawed-less xs d = subst (IsLess d) (sym (thawed-is xs d)) (record {
  versions = refl;
  entries = λ e i. i;
  snaps = λ x i. (has-from_filter (spared xs) d.snaps x i).0;
  conts = refl;
  counted = record { lease = refl; incarnation = refl };
})

-- a snapshot stays that none of them names
thawed-has : (xs : List Snap) (d : Durable) (x : Snap) → Has x d.snaps → ((z : Snap) → Has z xs → is_snap_at z.cont z.epoch x ≡ true → ⊥) → Has x (all_thawed xs d).snaps
thawed-has xs d x i none =
    subst (λ y. Has x y.snaps) (sym (thawed-is xs d)) (has-filter (spared xs) d.snaps x i (ap not (false_of (list_any (λ z. is_snap_at z.cont z.epoch x) xs) (λ any. let z = has-any (λ z. is_snap_at z.cont z.epoch x) xs any in none z.0 z.1 z.2))))

-- two that name one name each other
key-at : (x z : Snap) → snap_key x ≡ snap_key z → is_snap_at z.cont z.epoch x ≡ true
key-at x z same =
    let cont : x.cont.0 ≡ z.cont.0 = cc in
    let epoch : x.epoch.0 ≡ z.epoch.0 = cc in
    both (x.cont.0 == z.cont.0) (x.epoch.0 == z.epoch.0) (subst (λ n. (x.cont.0 == n) ≡ true) cont (same_number x.cont.0)) (subst (λ n. (x.epoch.0 == n) ≡ true) epoch (same_number x.epoch.0))

-- what is there is frozen
has-frozen : (d : Durable) (x : Snap) → Has x d.snaps → is_frozen d x.cont x.epoch ≡ true
unfolding is_frozen
has-frozen d x i = any-has (is_snap_at x.cont x.epoch) d.snaps x i (is-itself x)

frozen-has : (d : Durable) (x : Snap) → is_frozen d x.cont x.epoch ≡ true → (y : Snap) × Has y d.snaps × (is_snap_at x.cont x.epoch y ≡ true)
unfolding is_frozen
frozen-has d x h = has-any (is_snap_at x.cont x.epoch) d.snaps h

has-named : (d : Durable) (x y : Snap) → Has y d.snaps → is_snap_at x.cont x.epoch y ≡ true → is_frozen d x.cont x.epoch ≡ true
unfolding is_frozen
has-named d x y i at = any-has (is_snap_at x.cont x.epoch) d.snaps y i at

-- what a script keeps isn't named by what it drops
unnamed : (s : Script) (xs : List Snap) (x : Snap) → keeps s x ≡ true → (z : Snap) → Has z (filter (is_dropped s) xs) → is_snap_at z.cont z.epoch x ≡ true → ⊥
unnamed s xs x kept z i at =
    let key = same-key x z at in
    let cont : x.cont.0 ≡ z.cont.0 = cc in
    let epoch : x.epoch.0 ≡ z.epoch.0 = cc in
    clash (keeps s x) kept (keeps-same s x z cont epoch ∙ not_true (keeps s z) (and_right z.created (not (keeps s z)) (has-from_filter (is_dropped s) xs z i).1))

-- one of some isn't named by what is none of them
other-named : (some xs : List Snap) (x : Snap) → Has x some → (y : Snap) → is_snap_at x.cont x.epoch y ≡ true → (z : Snap) → Has z (filter (is_other_than some) xs) → is_snap_at z.cont z.epoch y ≡ true → ⊥
other-named some xs x i y named z j at =
    let key : snap_key x ≡ snap_key z = sym (same-key y x named) ∙ same-key y z at in
    clash (is_at_one_of some z) (any-has (is_snap_at z.cont z.epoch) some x i (key-at x z key)) (not_true (is_at_one_of some z) (has-from_filter (is_other_than some) xs z j).1)

only-first : (t : ℕ) (change : Durable → Durable) (d : Durable) → ((e : Durable) → IsLess e (change e)) → IsLess d (only 0 change t d)
only-first t change d less = by (t == 0)
  where
    by : (b : Bool) → IsLess d ((if b then change else same) d)
    by true = less d
    by false = less-itself d

module _ (s : Script) (E : List Durable) (k : Sound E) (done : AreDone E) where
  -- ---- target 0 drops some first snapshots
  module _ (G : List Durable) (p : AreParts (only_parts 0 (first_dropped s)) E G) where
    part-less : (t n : ℕ) (d : Durable) → IsLess d (only_parts 0 (first_dropped s) t n d)
    part-less t n d = by (t == 0)
      where
        by : (b : Bool) → IsLess d ((if b then first_dropped s else nothing) n d)
        by true = thawed-less (take n (filter (is_dropped s) d.snaps)) d
        by false = less-itself d

    less : Beside IsLess E G
    less = beside-from IsLess E G p.many (λ t d g at bt. let n = p.each t d g at bt in subst (IsLess d) (sym n.1) (part-less t n.0 d))

    drop-frozen : (t : ℕ) (g : Durable) → slice_get G t ≡ Some g → (x : Snap) → Has x (created_snaps G) → is_frozen g x.cont x.epoch ≡ true
    drop-frozen t g bt x i = by (t == 0) refl
      where
        by : (b : Bool) → (t == 0) ≡ b → is_frozen g x.cont x.epoch ≡ true
        by true is = has-frozen g x (at-first G g x (ap (slice_get G) (sym (number_same t 0 is)) ∙ bt) i).0
        by false is =
            let d = beside-at IsLess E G t g less bt in
            let n = p.each t d.0 g d.1 bt in
            let stays : g ≡ d.0 = n.1 ∙ ap (λ (b : Bool). (if b then first_dropped s else nothing) n.0 d.0) is in
            subst (λ z. is_frozen z x.cont x.epoch ≡ true) (sym stays) (has-all (λ y. is_frozen d.0 y.cont y.epoch ≡ true) (created_snaps E) x (k.targets t d.0 d.1).frozen (less-created E G less x i))

    drop-lasting : (x : Snap) → Has x (lasting_snaps s E) → Has x (created_snaps G)
    drop-lasting x i =
        let j = has-from_filter (keeps s) (created_snaps E) x i in
        let d = has-first E x j.0 in
        let g = like-first E G d.0 p.many d.1 in
        let n = p.each 0 d.0 g.0 d.1 g.1 in
        let h = at-first E d.0 x d.1 j.0 in
        let xs = take n.0 (filter (is_dropped s) d.0.snaps) in
        first-at G g.0 x g.1 (subst (λ z. Has x z.snaps) (sym n.1) (thawed-has xs d.0 x h.0 (λ z l. unnamed s d.0.snaps x j.1 z (has-take n.0 (filter (is_dropped s) d.0.snaps) z l)))) h.1

    pub drops-left : IsLeftOf s E G
    drops-left = keeps-left E G (less-keeps E G k done less drop-frozen) k s drop-lasting

  -- ---- all targets drop some first snapshots that target 0 doesn't hold as created
  module _ (created : List Snap) (G : List Durable) (holds : (d : Durable) → slice_get E 0 ≡ Some d → created ≡ filter is_created (dropped s d).snaps)
      (p : AreParts (λ t n d. first_left_with created n (only 0 (dropped s) t d)) E G) where
    then-less : (t n : ℕ) (d : Durable) → IsLess d (first_left_with created n (only 0 (dropped s) t d))
    then-less t n d =
        let m = only 0 (dropped s) t d in
        less-then d m (first_left_with created n m) (only-first t (dropped s) d (λ e. thawed-less (filter (is_dropped s) e.snaps) e)) (thawed-less (take n (filter (is_other_than created) m.snaps)) m)

    more : Beside IsLess E G
    more = beside-from IsLess E G p.many (λ t d g at bt. let n = p.each t d g at bt in subst (IsLess d) (sym n.1) (then-less t n.0 d))

    -- what target 0 holds as created is what it is said to hold
    among : (x : Snap) → Has x (created_snaps G) → Has x created
    among x i =
        let j = less-created E G more x i in
        let d = has-first E x j in
        let g = like-first E G d.0 p.many d.1 in
        let n = p.each 0 d.0 g.0 d.1 g.1 in
        let h = at-first G g.0 x g.1 i in
        let m = dropped s d.0 in
        subst (Has x) (sym (holds d.0 d.1)) (has-filter is_created m.snaps x ((thawed-less (take n.0 (filter (is_other_than created) m.snaps)) m).snaps x (subst (λ z. Has x z.snaps) n.1 h.0)) h.1)

    then-frozen : (t : ℕ) (g : Durable) → slice_get G t ≡ Some g → (x : Snap) → Has x (created_snaps G) → is_frozen g x.cont x.epoch ≡ true
    then-frozen t g bt x i = by (t == 0) refl
      where
        by : (b : Bool) → (t == 0) ≡ b → is_frozen g x.cont x.epoch ≡ true
        by true is = has-frozen g x (at-first G g x (ap (slice_get G) (sym (number_same t 0 is)) ∙ bt) i).0
        by false is =
            let d = beside-at IsLess E G t g more bt in
            let n = p.each t d.0 g d.1 bt in
            let first : g ≡ first_left_with created n.0 d.0 = n.1 ∙ ap (λ (b : Bool). first_left_with created n.0 ((if b then dropped s else same) d.0)) is in
            let y = frozen-has d.0 x (has-all (λ y. is_frozen d.0 y.cont y.epoch ≡ true) (created_snaps E) x (k.targets t d.0 d.1).frozen (less-created E G more x i)) in
            let xs = take n.0 (filter (is_other_than created) d.0.snaps) in
            subst (λ z. is_frozen z x.cont x.epoch ≡ true) (sym first) (has-named (all_thawed xs d.0) x y.0
            (thawed-has xs d.0 y.0 y.1 (λ z l. other-named created d.0.snaps x (among x i) y.0 y.2 z (has-take n.0 (filter (is_other_than created) d.0.snaps) z l))) y.2)

    then-lasting : (x : Snap) → Has x (lasting_snaps s E) → Has x (created_snaps G)
    then-lasting x i =
        let j = has-from_filter (keeps s) (created_snaps E) x i in
        let d = has-first E x j.0 in
        let g = like-first E G d.0 p.many d.1 in
        let n = p.each 0 d.0 g.0 d.1 g.1 in
        let h = at-first E d.0 x d.1 j.0 in
        let m = dropped s d.0 in
        let stays = thawed-has (filter (is_dropped s) d.0.snaps) d.0 x h.0 (unnamed s d.0.snaps x j.1) in
        let held = subst (Has x) (sym (holds d.0 d.1)) (has-filter is_created m.snaps x stays h.1) in
        first-at G g.0 x g.1 (subst (λ z. Has x z.snaps) (sym n.1)
        (thawed-has (take n.0 (filter (is_other_than created) m.snaps)) m x stays (λ z l. other-named created m.snaps x held x (is-itself x) z (has-take n.0 (filter (is_other_than created) m.snaps) z l)))) h.1

    pub thaws-left : IsLeftOf s E G
    thaws-left = keeps-left E G (less-keeps E G k done more then-frozen) k s then-lasting
