-- The steps of an opening make of sound targets what it says.
use Rattle.std.specs.Prelude.{ℕ, ◌≡◌, ◌⊎◌, ◌&&◌, ◌||◌, not, Bool, true, false, All, List, [], ◌∷◌, filter}
use Rattle.std.specs.List.{list_any}
use Rattle.std.proofs.Common.{refl, sym, ◌∙◌, ap, inl, inr}
use Rattle.base_types.specs.declared.entry.Entry.{Entry}
use Rattle.base_types.specs.declared.script.Script.{Script}
use Rattle.base_types.specs.declared.snapshot.Snap.{Snap}
use Rattle.model_laws.specs.DecidedLaws.{has-all}
use Rattle.model_laws.specs.EntryLaws.{found-has, found-passes}
use Rattle.model_laws.specs.MatchLaws.{filter_on}
use Rattle.model_laws.specs.Members.{Has, any-has, has-any, has-filter, has-from_filter}
use Rattle.model_laws.specs.RisingLaws.{after-has}
use Rattle.daos_model.specs.declared.durable.Durable.{Durable}
use Rattle.daos_model.specs.Answers.{is_before}
use Rattle.daos_model.specs.BoolLaws.{and_left, and_right, false_of}
use Rattle.daos_model.specs.Changes.{is_other_snap, thawed}
use Rattle.daos_model.specs.Durables.{entry_of, is_entry_of, is_snap_at, snap_key}
use Rattle.daos_model.specs.Family.{created_snaps, is_created, resolved}
use Rattle.daos_model.specs.OrderLaws.{before-itself, rising-filter}
use Rattle.daos_model.specs.Ordered.{all_after, is_rising}
use Rattle.daos_model.specs.Sound.{IsOfEntry}
use Rattle.dtx_base.specs.LeaderLaws.{same-is}
use Rattle.run_opening.specs.Opened.{is_at_one_of, keeps, lasting_snaps, settled_versions}
use Rattle.run_opening.specs.StandLaws.{filter-twice, is-itself, keeps-same}
use Rattle.run_opening.specs.Steps.{all_thawed, dropped, ended, is_dropped, is_other_than, left_with}
use Rattle.run_opening.proofs.Direct.{HaveEntries, parts-ended, versions-left}
use Rattle.run_opening.proofs.Thawing.{same-key}

-- ---- snapshots

abbrev snaps_thawed : List Snap → List Snap → List Snap
snaps_thawed [] zs = zs
snaps_thawed (x ∷ xs) zs = snaps_thawed xs (filter (is_other_snap x.cont x.epoch) zs)

part-thawed : (x : Snap) (d : Durable) → thawed x.cont x.epoch d ≡ record d { snaps = filter (is_other_snap x.cont x.epoch) d.snaps }
unfolding thawed
part-thawed x d = refl

pub parts-thawed : (xs : List Snap) (d : Durable) → all_thawed xs d ≡ record d { snaps = snaps_thawed xs d.snaps }
parts-thawed [] d = refl
parts-thawed (x ∷ xs) d = ap (all_thawed xs) (part-thawed x d) ∙ parts-thawed xs (record d { snaps = filter (is_other_snap x.cont x.epoch) d.snaps })

-- a snapshot has the name of none of some
abbrev pub spared : List Snap → Snap → Bool
spared xs y = not (list_any (λ x. is_snap_at x.cont x.epoch y) xs)

pub thawed-spared : (xs zs : List Snap) → snaps_thawed xs zs ≡ filter (spared xs) zs
thawed-spared [] zs = sym (all zs)
  where
    all : (zs : List Snap) → filter (spared []) zs ≡ zs
    all [] = refl
    all (z ∷ zs) = ap (λ ys. z ∷ ys) (all zs)
thawed-spared (x ∷ xs) zs =
    thawed-spared xs (filter (is_other_snap x.cont x.epoch) zs)
    ∙ filter-twice (spared xs) (is_other_snap x.cont x.epoch) zs
    ∙ filter_on (λ y. is_other_snap x.cont x.epoch y && spared xs y) (spared (x ∷ xs)) zs (λ y i. by (is_snap_at x.cont x.epoch y) (list_any (λ z. is_snap_at z.cont z.epoch y) xs))
  where
    by : (a b : Bool) → (not a && not b) ≡ not (a || b)
    by true b = refl
    by false b = refl

-- in a list that rises two of one key are one
rising-one : {T : Type 0} (key : T → List ℕ) (zs : List T) (x y : T) → is_rising key zs ≡ true → Has x zs → Has y zs → key x ≡ key y → x ≡ y
rising-one key [] x y rises i j same = absurd i
rising-one key (z ∷ zs) x y rises (inl a) (inl b) same = a ∙ sym b
rising-one key (z ∷ zs) x y rises (inl a) (inr j) same =
    absurd (let before = after-has key (key z) zs y (and_left (all_after key (key z) zs) (is_rising key zs) rises) j in
    let no : true ≡ false = sym before ∙ ap (is_before (key z)) (sym same ∙ ap key a) ∙ before-itself (key z) in
    let n : ⊥ = cc in n)
rising-one key (z ∷ zs) x y rises (inr i) (inl b) same =
    absurd (let before = after-has key (key z) zs x (and_left (all_after key (key z) zs) (is_rising key zs) rises) i in
    let no : true ≡ false = sym before ∙ ap (is_before (key z)) (same ∙ ap key b) ∙ before-itself (key z) in
    let n : ⊥ = cc in n)
rising-one key (z ∷ zs) x y rises (inr i) (inr j) same = rising-one key zs x y (and_right (all_after key (key z) zs) (is_rising key zs) rises) i j same

-- of a target's snapshots those go that are thawed
pub thawed-some : (t : Snap → Bool) (d : Durable) → is_rising snap_key d.snaps ≡ true → all_thawed (filter t d.snaps) d ≡ record d { snaps = filter (λ y. not (t y)) d.snaps }
thawed-some t d rises =
    parts-thawed (filter t d.snaps) d
    ∙ ap (λ zs. record d { snaps = zs }) (thawed-spared (filter t d.snaps) d.snaps ∙ filter_on (spared (filter t d.snaps)) (λ y. not (t y)) d.snaps (λ y i. ap not (by y i (t y) refl)))
  where
    named : Snap → Bool
    named y = list_any (λ x. is_snap_at x.cont x.epoch y) (filter t d.snaps)

    by : (y : Snap) → Has y d.snaps → (b : Bool) → t y ≡ b → list_any (λ x. is_snap_at x.cont x.epoch y) (filter t d.snaps) ≡ b
    by y i true is = any-has (λ x. is_snap_at x.cont x.epoch y) (filter t d.snaps) y (has-filter t d.snaps y i is) (is-itself y)
    by y i false is = false_of (list_any (λ x. is_snap_at x.cont x.epoch y) (filter t d.snaps)) none
      where
        none : list_any (λ x. is_snap_at x.cont x.epoch y) (filter t d.snaps) ≡ true → ⊥
        none at =
            let x = has-any (λ x. is_snap_at x.cont x.epoch y) (filter t d.snaps) at in
            let j = has-from_filter t d.snaps x.0 x.1 in
            let one : y ≡ x.0 = rising-one snap_key d.snaps y x.0 rises i j.0 (same-key y x.0 x.2) in
            let no : true ≡ false = sym j.1 ∙ ap t (sym one) ∙ is in
            let n : ⊥ = cc in n

twice-not : (b : Bool) → not (not b) ≡ b
twice-not true = refl
twice-not false = refl

pub left-some : (xs : List Snap) (d : Durable) → is_rising snap_key d.snaps ≡ true → left_with xs d ≡ record d { snaps = filter (is_at_one_of xs) d.snaps }
left-some xs d rises =
    thawed-some (is_other_than xs) d rises
    ∙ ap (λ zs. record d { snaps = zs }) (filter_on (λ y. not (is_other_than xs y)) (is_at_one_of xs) d.snaps (λ y i. twice-not (is_at_one_of xs y)))

-- what a script drops isn't among what lasts
module _ (s : Script) (F : List Durable) where
  kept-of : (y : Snap) → is_at_one_of (lasting_snaps s F) y ≡ true → keeps s y ≡ true
  kept-of y at =
      let x = has-any (is_snap_at y.cont y.epoch) (lasting_snaps s F) at in
      let key : snap_key x.0 ≡ snap_key y = same-key x.0 y x.2 in
      let cont : y.cont.0 ≡ x.0.cont.0 = cc in
      let epoch : y.epoch.0 ≡ x.0.epoch.0 = cc in
      keeps-same s y x.0 cont epoch ∙ (has-from_filter (keeps s) (created_snaps F) x.0 x.1).1

  undropped : (y : Snap) → (not (is_dropped s y) && is_at_one_of (lasting_snaps s F) y) ≡ is_at_one_of (lasting_snaps s F) y
  undropped y = by (is_at_one_of (lasting_snaps s F) y) refl
    where
      by : (b : Bool) → is_at_one_of (lasting_snaps s F) y ≡ b → (not (is_dropped s y) && is_at_one_of (lasting_snaps s F) y) ≡ b
      by true at = ap (λ k. not (y.created && not k) && is_at_one_of (lasting_snaps s F) y) (kept-of y at) ∙ both' y.created ∙ at
        where
          both' : (c : Bool) → (not (c && false) && is_at_one_of (lasting_snaps s F) y) ≡ is_at_one_of (lasting_snaps s F) y
          both' true = refl
          both' false = refl
      by false at = ap (λ b. not (is_dropped s y) && b) at ∙ off (not (is_dropped s y))
        where
          off : (b : Bool) → (b && false) ≡ false
          off true = refl
          off false = refl

  -- the snapshots of a target that last, whether or not those that the script drops went before
  pub left-dropped : (d : Durable) → is_rising snap_key d.snaps ≡ true → left_with (lasting_snaps s F) (dropped s d) ≡ record d { snaps = filter (is_at_one_of (lasting_snaps s F)) d.snaps }
  left-dropped d rises =
      ap (left_with (lasting_snaps s F)) (thawed-some (is_dropped s) d rises)
      ∙ left-some (lasting_snaps s F) (record d { snaps = filter (λ y. not (is_dropped s y)) d.snaps }) (rising-filter snap_key (λ y. not (is_dropped s y)) d.snaps rises)
      ∙ ap (λ zs. record d { snaps = zs }) (filter-twice (is_at_one_of (lasting_snaps s F)) (λ y. not (is_dropped s y)) d.snaps
      ∙ filter_on (λ y. not (is_dropped s y) && is_at_one_of (lasting_snaps s F) y) (is_at_one_of (lasting_snaps s F)) d.snaps (λ y i. undropped y))

-- what target 0 holds as created once the script's are dropped
pub created-dropped : (s : Script) (d : Durable) → is_rising snap_key d.snaps ≡ true → filter is_created (dropped s d).snaps ≡ filter (keeps s) (filter is_created d.snaps)
created-dropped s d rises =
    ap (λ y. filter is_created y.snaps) (thawed-some (is_dropped s) d rises)
    ∙ filter-twice is_created (λ y. not (is_dropped s y)) d.snaps
    ∙ filter_on (λ y. not (is_dropped s y) && is_created y) (λ y. is_created y && keeps s y) d.snaps (λ y i. by y.created (keeps s y))
    ∙ sym (filter-twice (keeps s) is_created d.snaps)
  where
    by : (c k : Bool) → (not (c && not k) && c) ≡ (c && k)
    by true true = refl
    by true false = refl
    by false k = refl

-- ---- attempts

-- where each unsettled version has its entry, the versions are left that count
pub ended-versions : (F : List Durable) (d : Durable) → All (IsOfEntry d) d.versions → (ended (resolved F) d).versions ≡ settled_versions F d.versions
unfolding entry_of
ended-versions F d sound = ap (λ y. y.versions) (parts-ended (resolved F) d.entries d) ∙ versions-left (resolved F) d.entries d.versions have
  where
    have : HaveEntries d.entries d.versions
    have v i = by v.done refl
      where
        by : (b : Bool) → v.done ≡ b → (v.done ≡ true) ⊎ ((e : Entry) × Has e d.entries × (e.committed ≡ false) × (e.attempt ≡ v.by))
        by true done = inl done
        by false open' =
            let e = has-all (IsOfEntry d) d.versions v sound i open' in
            inr (e.0, found-has (is_entry_of v.by) d.entries e.0 e.1, e.2, same-is e.0.attempt v.by (found-passes (is_entry_of v.by) d.entries e.0 e.1))
