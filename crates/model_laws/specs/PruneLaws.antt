-- A prune, also one that was cut, leaves what is seen above it and at snapshots.
use Rattle.std.specs.Prelude.{ℕ, ◌≡◌, ◌≢◌, ◌+◌, ◌<◌, ◌≤◌, ◌⊎◌, ◌==◌, Bool, true, false, ◌&&◌, ◌||◌, not, nat_le, nat_lt, List, [], ◌∷◌, filter, refl}
use Rattle.std.specs.List.{list_any}
use Rattle.std.proofs.Common.{sym, ◌∙◌, ap, subst, arith, inl, inr}
use Rattle.std.proofs.lemmas.Bool.{cases_lt}
use Rattle.std.proofs.lemmas.Bool.Decides.{nat_tests}
use Rattle.std.proofs.lemmas.List.Kept.{AllPairs-filter}
use Rattle.base_types.specs.declared.epoch.Epoch.{Epoch}
use Rattle.base_types.specs.declared.id.ContId.{ContId}
use Rattle.base_types.specs.declared.snapshot.Snap.{Snap}
use Rattle.base_types.specs.Paths.{leads_to}
use Rattle.daos_model.specs.declared.cell.Cell.{Cell}
use Rattle.daos_model.specs.declared.cell.CellValue.{CellValue}
use Rattle.daos_model.specs.declared.durable.Version.{Version}
use Rattle.daos_model.specs.Answers.{is_before}
use Rattle.daos_model.specs.BoolLaws.{and_left, and_right, both, clash, not_true, or_left, or_right}
use Rattle.daos_model.specs.Cells.{value_at}
use Rattle.daos_model.specs.Durables.{version_key}
use Rattle.daos_model.specs.OrderLaws.{before-itself, before-total, in_order-filter, rising-filter}
use Rattle.daos_model.specs.Ordered.{all_after, is_rising}
use Rattle.daos_model.specs.Prunes.{Partly, hides, is_going, is_hidden, is_idle, is_in_sight, is_needing, is_old, is_punch, is_shown, is_unseen, shows_at, shows_in, touches, values_of}
use Rattle.daos_model.specs.Versions.{sees, version_path}
use Rattle.model_laws.specs.Dated.{AreSingleInOrder, map_of}
use Rattle.model_laws.specs.Matches.{counts_under}
use Rattle.model_laws.specs.Members.{Has, any-has, has-any, has-filter, has-from_contains, has-from_filter}
use Rattle.model_laws.specs.Pruning.{DoneCount, PrunesKeepNow, PrunesKeepOrder, PrunesKeepSights}
use Rattle.model_laws.specs.RisingLaws.{after-has}
use Rattle.model_laws.specs.TouchLaws.{Newest, NewestAt, Untouched, newest-of, punch-path, punch-values, update-path, update-value}
use Rattle.model_laws.specs.VersionLaws.{rising-from_single}

-- in a list that rises two of one key are one
same-key : (vs : List Version) (u v : Version) → is_rising version_key vs ≡ true → Has u vs → Has v vs → version_key u ≡ version_key v → u ≡ v
same-key [] u v r i j e = absurd i
same-key (w ∷ vs) u v r (inl a) (inl b) e = a ∙ sym b
same-key (w ∷ vs) u v r (inl a) (inr j) e =
    let lt = after-has version_key (version_key w) vs v (and_left (all_after version_key (version_key w) vs) (is_rising version_key vs) r) j in
    clash (is_before (version_key w) (version_key v)) lt (ap (is_before (version_key w)) (sym e) ∙ ap (λ z. is_before (version_key w) (version_key z)) a ∙ before-itself (version_key w))
same-key (w ∷ vs) u v r (inr i) (inl b) e =
    let lt = after-has version_key (version_key w) vs u (and_left (all_after version_key (version_key w) vs) (is_rising version_key vs) r) i in
    clash (is_before (version_key w) (version_key u)) lt (ap (is_before (version_key w)) e ∙ ap (λ z. is_before (version_key w) (version_key z)) b ∙ before-itself (version_key w))
same-key (w ∷ vs) u v r (inr i) (inr j) e = same-key vs u v (and_right (all_after version_key (version_key w) vs) (is_rising version_key vs) r) i j e

-- a version that goes is done, of the container, and at or below the epoch
pub going-old : (c : ContId) (upto : Epoch) (vs : List Version) (snaps : List Snap) (v : Version) → is_going c upto vs snaps v ≡ true → is_old c upto v ≡ true
unfolding is_going is_unseen is_idle
going-old c upto vs snaps v h = by (is_unseen c upto vs snaps v) refl h
  where
    old_punch : is_idle c upto vs snaps v ≡ true → is_old c upto v ≡ true
    old_punch h = and_left (is_old c upto v) (is_punch v.write) (and_left (is_old c upto v && is_punch v.write) (not (list_any (is_needing c upto vs snaps v) vs)) h)

    by : (b : Bool) → is_unseen c upto vs snaps v ≡ b → (b || is_idle c upto vs snaps v) ≡ true → is_old c upto v ≡ true
    by true e h =
        and_left (is_old c upto v) (not (is_punch v.write)) (and_left (is_old c upto v && not (is_punch v.write)) (not (is_in_sight c upto vs snaps v)) e)
    by false e h = old_punch h

going-update : (c : ContId) (upto : Epoch) (vs : List Version) (snaps : List Snap) (v : Version) → is_punch v.write ≡ false → is_going c upto vs snaps v ≡ true → is_in_sight c upto vs snaps v ≡ false
unfolding is_going is_unseen is_idle
going-update c upto vs snaps v update h = by (is_unseen c upto vs snaps v) refl h
  where
    no_punch : is_idle c upto vs snaps v ≡ true → is_in_sight c upto vs snaps v ≡ false
    no_punch h =
        clash (is_punch v.write) (and_right (is_old c upto v) (is_punch v.write) (and_left (is_old c upto v && is_punch v.write) (not (list_any (is_needing c upto vs snaps v) vs)) h)) update

    by : (b : Bool) → is_unseen c upto vs snaps v ≡ b → (b || is_idle c upto vs snaps v) ≡ true → is_in_sight c upto vs snaps v ≡ false
    by true e h = not_true (is_in_sight c upto vs snaps v) (and_right (is_old c upto v && not (is_punch v.write)) (not (is_in_sight c upto vs snaps v)) e)
    by false e h = no_punch h

going-punch : (c : ContId) (upto : Epoch) (vs : List Version) (snaps : List Snap) (v : Version) → is_punch v.write ≡ true → is_going c upto vs snaps v ≡ true
    → list_any (is_needing c upto vs snaps v) vs ≡ false
unfolding is_going is_unseen is_idle
going-punch c upto vs snaps v punch h = by (is_unseen c upto vs snaps v) refl h
  where
    idle : is_idle c upto vs snaps v ≡ true → list_any (is_needing c upto vs snaps v) vs ≡ false
    idle h = not_true (list_any (is_needing c upto vs snaps v) vs) (and_right (is_old c upto v && is_punch v.write) (not (list_any (is_needing c upto vs snaps v) vs)) h)

    by : (b : Bool) → is_unseen c upto vs snaps v ≡ b → (b || is_idle c upto vs snaps v) ≡ true → list_any (is_needing c upto vs snaps v) vs ≡ false
    by true e h =
        clash (is_punch v.write) punch
        (not_true (is_punch v.write) (and_right (is_old c upto v) (not (is_punch v.write)) (and_left (is_old c upto v && not (is_punch v.write)) (not (is_in_sight c upto vs snaps v)) e)))
    by false e h = idle h

unseen-going : (c : ContId) (upto : Epoch) (vs : List Version) (snaps : List Snap) (v : Version) → is_unseen c upto vs snaps v ≡ true → is_going c upto vs snaps v ≡ true
unfolding is_going
unseen-going c upto vs snaps v e = ap (λ b. b || is_idle c upto vs snaps v) e

-- ---- an update that no sight shows is hidden by a later version

-- a later version of those that count says what the cell holds
abbrev HasLater : (Version → Bool) → List Version → Version → Cell → Type 0
HasLater t vs v k = (w : Version) × Has w vs × (t w ≡ true) × (is_before (version_key v) (version_key w) ≡ true) × (touches k w.write ≡ true)

hidden : (vs : List Version) (v : Version) (s : ℕ) (k : Cell) → is_punch v.write ≡ false → touches k v.write ≡ true → sees s v ≡ true → shows_at vs v s ≡ false → HasLater (sees s) vs v k
unfolding shows_at is_hidden hides
hidden vs v s k update at seen no_show =
    let x = update-value v.write k update at in
    let none : list_any (is_shown vs s v) (values_of v.write) ≡ false = sym (ap (λ b. b && list_any (is_shown vs s v) (values_of v.write)) seen) ∙ no_show in
    let covered : is_hidden vs s v x.0.cell ≡ true = by x.0 x.1 none (is_hidden vs s v x.0.cell) refl in
    let w = has-any (hides s v k) vs (subst (λ d. is_hidden vs s v d ≡ true) x.2 covered) in
    let two = and_left (sees s w.0 && is_before (version_key v) (version_key w.0)) (touches k w.0.write) w.2 in (
      w.0,
      w.1,
      and_left (sees s w.0) (is_before (version_key v) (version_key w.0)) two,
      and_right (sees s w.0) (is_before (version_key v) (version_key w.0)) two,
      and_right (sees s w.0 && is_before (version_key v) (version_key w.0)) (touches k w.0.write) w.2,
    )
  where
    by : (x : CellValue) → Has x (values_of v.write) → list_any (is_shown vs s v) (values_of v.write) ≡ false → (b : Bool) → is_hidden vs s v x.cell ≡ b → is_hidden vs s v x.cell ≡ true
    by x i none true e = e
    by x i none false e = clash (list_any (is_shown vs s v) (values_of v.write)) (any-has (is_shown vs s v) (values_of v.write) x i (ap not e)) none

-- ---- the newest version stays, or hid nothing

-- an update that counts and goes is hidden by a later version that counts
record IsCovered (t : Version → Bool) (vs : List Version) (going : Version → Bool) (k : Cell) : Type 0 where
  later : (v : Version) → Has v vs → t v ≡ true → going v ≡ true → is_punch v.write ≡ false → touches k v.write ≡ true → HasLater t vs v k

-- no punch is gone under which an older update stays
punch-needed : (c : ContId) (upto : Epoch) (snaps : List Snap) (vs ws : List Version) (cut : Partly vs (is_going c upto vs snaps) ws) (v u : Version) → Has u vs
    → is_punch v.write ≡ true → cut.stays v ≡ false → is_punch u.write ≡ false → cut.stays u ≡ true → is_before (version_key v) (version_key u) ≡ false
    → leads_to (version_path v) (version_path u) ≡ true → ⊥
unfolding is_needing
punch-needed c upto snaps vs ws cut v u i punch gone update stays older under = by (is_unseen c upto vs snaps u) refl
  where
    by : (b : Bool) → is_unseen c upto vs snaps u ≡ b → ⊥
    by true e = clash (cut.stays u) stays (cut.punches v u gone punch update older under (unseen-going c upto vs snaps u e))
    by false e =
        let needing : is_needing c upto vs snaps v u ≡ true =
        both (not (is_punch u.write) && not (is_before (version_key v) (version_key u)) && leads_to (version_path v) (version_path u)) (not (is_unseen c upto vs snaps u))
        (both (not (is_punch u.write) && not (is_before (version_key v) (version_key u))) (leads_to (version_path v) (version_path u))
        (both (not (is_punch u.write)) (not (is_before (version_key v) (version_key u))) (ap not update) (ap not older)) under)
        (ap not e) in
        clash (list_any (is_needing c upto vs snaps v) vs) (any-has (is_needing c upto vs snaps v) vs u i needing) (going-punch c upto vs snaps v punch (cut.planned v gone))

prune-at : (c : ContId) (upto : Epoch) (snaps : List Snap) (t : Version → Bool) (vs ws : List Version) (k : Cell) → is_rising version_key vs ≡ true
    → (cut : Partly vs (is_going c upto vs snaps) ws) → IsCovered t vs (is_going c upto vs snaps) k
    → NewestAt k (filter t vs) → NewestAt k (filter t (filter cut.stays vs)) → value_at (map_of t (filter cut.stays vs)) k ≡ value_at (map_of t vs) k
prune-at c upto snaps t vs ws k r cut covered (Untouched none keep) (Untouched none' keep') = keep' [] ∙ sym (keep [])
prune-at c upto snaps t vs ws k r cut covered (Untouched none keep) (Newest u j s newest' value') =
    let a = has-from_filter t (filter cut.stays vs) u j in
    let b = has-from_filter cut.stays vs u a.0 in
    clash (touches k u.write) s (none u (has-filter t vs u b.0 a.1))
prune-at c upto snaps t vs ws k r cut covered (Newest v i s newest value) other = by (cut.stays v) (is_punch v.write) refl refl other
  where
    here : Has v vs × (t v ≡ true)
    here = has-from_filter t vs v i

    left : (u : Version) → Has u (filter t (filter cut.stays vs)) → Has u (filter t vs) × Has u vs × (cut.stays u ≡ true)
    left u j =
        let a = has-from_filter t (filter cut.stays vs) u j in
        let b = has-from_filter cut.stays vs u a.0 in
        (has-filter t vs u b.0 a.1, b.0, b.1)

    nothing : (w : Version) → is_punch w.write ≡ true → value_at (values_of w.write) k ≡ value_at [] k
    nothing w punch = ap (λ m. value_at m k) (punch-values w.write punch)

    still : cut.stays v ≡ true → Has v (filter t (filter cut.stays vs))
    still e = has-filter t (filter cut.stays vs) v (has-filter cut.stays vs v here.0 e) here.1

    -- the newest of those left, where a punch went
    of_left : is_punch v.write ≡ true → cut.stays v ≡ false → (u : Version) → Has u (filter t (filter cut.stays vs)) → touches k u.write ≡ true
        → (b : Bool) → is_punch u.write ≡ b → value_at (values_of u.write) k ≡ value_at (values_of v.write) k
    of_left punch gone u j about true e = nothing u e ∙ sym (nothing v punch)
    of_left punch gone u j about false e =
        let l = left u j in
        absurd (punch-needed c upto snaps vs ws cut v u l.1 punch gone e l.2 (newest u l.0 about)
        (ap (leads_to (version_path v)) (update-path u.write k e about) ∙ punch-path v.write k punch s))

    by : (b a : Bool) → cut.stays v ≡ b → is_punch v.write ≡ a → NewestAt k (filter t (filter cut.stays vs)) → value_at (map_of t (filter cut.stays vs)) k ≡ value_at (map_of t vs) k
    by true a e f (Untouched none' keep') = clash (touches k v.write) s (none' v (still e))
    by true a e f (Newest u j s' newest' value') =
        let l = left u j in
        let same : v ≡ u = same-key vs v u r here.0 l.1 (before-total (version_key v) (version_key u) (newest u l.0 s') (newest' v (still e) s)) in
        value' [] ∙ sym (ap (λ z. value_at (values_of z.write) k) same) ∙ sym (value [])
    by false false e f other' =
        let w = covered.later v here.0 here.1 (cut.planned v e) f s in
        clash (is_before (version_key v) (version_key w.0)) w.3 (newest w.0 (has-filter t vs w.0 w.1 w.2) w.4)
    by false true e f (Untouched none' keep') = keep' [] ∙ sym (value [] ∙ nothing v f)
    by false true e f (Newest u j s' newest' value') = value' [] ∙ of_left f e u j s' (is_punch u.write) refl ∙ sym (value [])

prune-test : (c : ContId) (upto : Epoch) (snaps : List Snap) (t : Version → Bool) (vs ws : List Version) (k : Cell) → AreSingleInOrder vs
    → Partly vs (is_going c upto vs snaps) ws → IsCovered t vs (is_going c upto vs snaps) k → value_at (map_of t ws) k ≡ value_at (map_of t vs) k
prune-test c upto snaps t vs ws k form cut covered =
    let r = rising-from_single version_key vs form.in_order form.single in
    ap (λ us. value_at (map_of t us) k) cut.left
    ∙ prune-at c upto snaps t vs ws k r cut covered (newest-of k (filter t vs) (rising-filter version_key t vs r))
    (newest-of k (filter t (filter cut.stays vs)) (rising-filter version_key t (filter cut.stays vs) (rising-filter version_key cut.stays vs r)))

-- ---- sights

old-done : (c : ContId) (upto : Epoch) (v : Version) → is_old c upto v ≡ true → v.done ≡ true
unfolding is_old
old-done c upto v h =
    and_left v.done ((version_path v).cont.0 == c.0) (and_left (v.done && ((version_path v).cont.0 == c.0)) (nat_le v.epoch.0 upto.0) h)

pub old-epoch : (c : ContId) (upto : Epoch) (v : Version) → is_old c upto v ≡ true → v.epoch.0 ≤ upto.0
unfolding is_old
old-epoch c upto v h =
    let le : nat_le v.epoch.0 upto.0 ≡ true = and_right (v.done && ((version_path v).cont.0 == c.0)) (nat_le v.epoch.0 upto.0) h in grind (arith, nat_tests)

pub old-cont : (c : ContId) (upto : Epoch) (v : Version) → is_old c upto v ≡ true → (version_path v).cont.0 ≡ c.0
unfolding is_old
old-cont c upto v h =
    let e : ((version_path v).cont.0 == c.0) ≡ true =
    and_right v.done ((version_path v).cont.0 == c.0) (and_left (v.done && ((version_path v).cont.0 == c.0)) (nat_le v.epoch.0 upto.0) h) in
    grind (arith, nat_tests)

sees-done : (s : ℕ) (w : Version) → sees s w ≡ true → (w.done ≡ true) × (w.epoch.0 < s)
unfolding sees
sees-done s w h =
    let lt : nat_lt w.epoch.0 s ≡ true = and_right w.done (nat_lt w.epoch.0 s) h in
    (and_left w.done (nat_lt w.epoch.0 s) h, grind (arith, nat_tests))

sees-from : (s : ℕ) (w : Version) → w.done ≡ true → w.epoch.0 < s → sees s w ≡ true
unfolding sees
sees-from s w done lt = both w.done (nat_lt w.epoch.0 s) done (grind (arith, nat_tests))

-- for tests that all versions pass which are seen just above the prune
covered-above : (c : ContId) (upto : Epoch) (snaps : List Snap) (t : Version → Bool) (vs : List Version) (k : Cell) → ((w : Version) → sees (upto.0 + 1) w ≡ true → t w ≡ true)
    → IsCovered t vs (is_going c upto vs snaps) k
unfolding is_in_sight
covered-above c upto snaps t vs k passes = record {
  later = λ v i counts going update at.
      let old = going-old c upto vs snaps v going in
      let seen = sees-from (upto.0 + 1) v (old-done c upto v old) (let le = old-epoch c upto v old in omega (arith, le)) in
      let no_show = or_left (shows_at vs v (upto.0 + 1)) (list_any (shows_in vs v c upto) snaps) (going-update c upto vs snaps v update going) in
      let w = hidden vs v (upto.0 + 1) k update at seen no_show in
      (w.0, w.1, passes w.0 w.2, w.3, w.4);
}

-- at a snapshot of the container
not_shown_in : (c : ContId) (upto : Epoch) (snaps : List Snap) (vs : List Version) (v : Version) (x : Snap) → Has x snaps → list_any (shows_in vs v c upto) snaps ≡ false
    → x.cont.0 ≡ c.0 → x.epoch.0 ≤ upto.0 → shows_at vs v x.epoch.0 ≡ false
unfolding shows_in
not_shown_in c upto snaps vs v x i none cont le = by (shows_at vs v x.epoch.0) refl
  where
    by : (b : Bool) → shows_at vs v x.epoch.0 ≡ b → shows_at vs v x.epoch.0 ≡ false
    by false e = e
    by true e =
        let s : (x.cont.0 == c.0) ≡ true = grind (arith, nat_tests) in
        let l : nat_le x.epoch.0 upto.0 ≡ true = grind (arith, nat_tests) in
        clash (list_any (shows_in vs v c upto) snaps)
        (any-has (shows_in vs v c upto) snaps x i (both ((x.cont.0 == c.0) && nat_le x.epoch.0 upto.0) (shows_at vs v x.epoch.0) (both (x.cont.0 == c.0) (nat_le x.epoch.0 upto.0) s l) e)) none

covered-snap : (c : ContId) (upto : Epoch) (snaps : List Snap) (p : Version → Bool) (vs : List Version) (k : Cell) (x : Snap) → DoneCount p → Has x snaps → x.cont.0 ≡ c.0
    → x.epoch.0 ≤ upto.0 → IsCovered (counts_under p x.epoch.0) vs (is_going c upto vs snaps) k
unfolding is_in_sight
covered-snap c upto snaps p vs k x done i cont le = record {
  later = λ v j counts going update at.
      let old = going-old c upto vs snaps v going in
      let below : nat_lt v.epoch.0 x.epoch.0 ≡ true = and_right (p v) (nat_lt v.epoch.0 x.epoch.0) counts in
      let lt : v.epoch.0 < x.epoch.0 = grind (arith, nat_tests) in
      let seen = sees-from x.epoch.0 v (old-done c upto v old) lt in
      let none = or_right (shows_at vs v (upto.0 + 1)) (list_any (shows_in vs v c upto) snaps) (going-update c upto vs snaps v update going) in
      let w = hidden vs v x.epoch.0 k update at seen (not_shown_in c upto snaps vs v x i none cont le) in
      let s = sees-done x.epoch.0 w.0 w.2 in
      (w.0, w.1, both (p w.0) (nat_lt w.0.epoch.0 x.epoch.0) (done w.0 s.0) (let l = s.1 in grind (arith, nat_tests)), w.3, w.4);
}

counts-above : (upto e : ℕ) (p : Version → Bool) → DoneCount p → upto < e → (w : Version) → sees (upto + 1) w ≡ true → counts_under p e w ≡ true
counts-above upto e p done lt w h =
    let s = sees-done (upto + 1) w h in
    both (p w) (nat_lt w.epoch.0 e) (done w s.0) (let l = s.1 in let m : w.epoch.0 < e = omega (arith, l, lt) in grind (arith, nat_tests))

-- ---- the laws

pub prunes-sights : PrunesKeepSights
prunes-sights c upto snaps p vs ws e form done cut (inl above) k =
    prune-test c upto snaps (counts_under p e) vs ws k form cut (covered-above c upto snaps (counts_under p e) vs k (counts-above upto.0 e p done above))
prunes-sights c upto snaps p vs ws e form done cut (inr snap) k = by (cases_lt upto.0 e)
  where
    by : (upto.0 < e) ⊎ (e ≤ upto.0) → value_at (map_of (counts_under p e) ws) k ≡ value_at (map_of (counts_under p e) vs) k
    by (inl above) = prune-test c upto snaps (counts_under p e) vs ws k form cut (covered-above c upto snaps (counts_under p e) vs k (counts-above upto.0 e p done above))
    by (inr le) =
        prune-test c upto snaps (counts_under p e) vs ws k form cut
        (subst (λ n. IsCovered (counts_under p n) vs (is_going c upto vs snaps) k) snap.3
        (covered-snap c upto snaps p vs k snap.0 done (has-from_contains snaps snap.0 snap.1) snap.2 (let at = snap.3 in omega (arith, at, le))))

pub prunes-now : PrunesKeepNow
prunes-now c upto snaps p vs ws form done cut k =
    prune-test c upto snaps p vs ws k form cut (covered-above c upto snaps p vs k (λ w h. done w (sees-done (upto.0 + 1) w h).0))

pub prunes-order : PrunesKeepOrder
prunes-order vs ws going form cut =
    subst AreSingleInOrder (sym cut.left) (record {
      in_order = in_order-filter version_key cut.stays vs form.in_order;
      single = AllPairs-filter (λ v w. version_key v ≢ version_key w) cut.stays vs form.single;
    })
