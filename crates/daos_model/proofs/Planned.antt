-- What a plan of a prune removes, whole or in part, is hidden below each sight.
use Rattle.std.proofs.Common.{◌≡◌, ℕ, ◌+◌, ◌≤◌, ◌<◌, inl, inr, Bool, true, false, ◌&&◌, ◌||◌, not, List, [], ◌∷◌, ◌++◌, Some, None, refl, sym, subst, ◌∙◌, ap, append_assoc, arith}
use Rattle.std.specs.Prelude.{◌==◌, is_some, nat_le, nat_lt, if◌then◌else◌}
use Rattle.std.specs.List.{list_any}
use Rattle.std.proofs.lemmas.Bool.Decides.{nat_tests}
use Rattle.base_types.specs.declared.epoch.Epoch.{Epoch}
use Rattle.base_types.specs.declared.id.ContId.{ContId}
use Rattle.base_types.specs.declared.operation.Write.{Write}
use Rattle.base_types.specs.declared.snapshot.Snap.{Snap}
use Rattle.base_types.specs.Paths.{leads_to}
use Rattle.daos_model.specs.declared.cell.Cell.{Cell}
use Rattle.daos_model.specs.declared.cell.CellValue.{CellValue}
use Rattle.daos_model.specs.declared.durable.Durable.{Durable}
use Rattle.daos_model.specs.declared.durable.Version.{Version}
use Rattle.daos_model.specs.Answers.{is_before}
use Rattle.daos_model.specs.BoolLaws.{and_left, and_right, both, clash, false_of, not_false, not_true, or_left, or_right}
use Rattle.daos_model.specs.Cells.{is_of, same_cell, value_at}
use Rattle.daos_model.specs.Durables.{is_frozen, is_snap_at, version_key}
use Rattle.daos_model.specs.Ordered.{all_from, is_in_order}
use Rattle.daos_model.specs.PruneLaws.{PruneKeepsCells}
use Rattle.daos_model.specs.Prunes.{Partly, hides, is_going, is_hidden, is_idle, is_in_sight, is_needing, is_old, is_punch, is_shown, is_unseen, shows_at, shows_in, touches, values_of}
use Rattle.daos_model.specs.Sameness.{same_cell-Decides}
use Rattle.daos_model.specs.Versions.{map_below, sees, version_path}
use Rattle.daos_model.proofs.Pruning.{Fine, behind, later_any, lost, none_at, over_update, value_at-left}
use Rattle.daos_model.proofs.Said.{Word, by_update, or_else, said, word, word-punch, word-some}

-- ---- what the tests of a plan say

pick_unseen : (a o k i : Bool) → k ≡ false → (a || (o && k && i)) ≡ true → a ≡ true
pick_unseen true o k i e h = refl
pick_unseen false true true i e h = absurd (let n : ⊥ = cc in n)
pick_unseen false true false i e h = absurd (let n : ⊥ = cc in n)
pick_unseen false false k i e h = absurd (let n : ⊥ = cc in n)

pick_idle : (o k n a : Bool) → k ≡ true → ((o && not k && n) || (o && k && not a)) ≡ true → a ≡ false
pick_idle true true n a e h = not_true a h
pick_idle true false n a e h = absurd (let z : ⊥ = cc in z)
pick_idle false k n a e h = absurd (let z : ⊥ = cc in z)

pick_needing : (k b l u : Bool) → k ≡ false → b ≡ false → l ≡ true → (not k && not b && l && not u) ≡ false → u ≡ true
pick_needing false false true u p q r e = not_false u e
pick_needing true b l u p q r e = absurd (let z : ⊥ = cc in z)
pick_needing false true l u p q r e = absurd (let z : ⊥ = cc in z)
pick_needing false false false u p q r e = absurd (let z : ⊥ = cc in z)

module _ (c : ContId) (upto : Epoch) (d : Durable) where
  unseen_of : (v : Version) → is_going c upto d.versions d.snaps v ≡ true → is_punch v.write ≡ false → is_unseen c upto d.versions d.snaps v ≡ true
  unfolding is_going is_idle
  unseen_of v e k = pick_unseen (is_unseen c upto d.versions d.snaps v) (is_old c upto v) (is_punch v.write) (not (list_any (is_needing c upto d.versions d.snaps v) d.versions)) k e

  idle_of : (v : Version) → is_going c upto d.versions d.snaps v ≡ true → is_punch v.write ≡ true → list_any (is_needing c upto d.versions d.snaps v) d.versions ≡ false
  unfolding is_going is_idle is_unseen
  idle_of v e k = pick_idle (is_old c upto v) (is_punch v.write) (not (is_in_sight c upto d.versions d.snaps v)) (list_any (is_needing c upto d.versions d.snaps v) d.versions) k e

  needing_at : (p u : Version) → is_needing c upto d.versions d.snaps p u ≡ false → is_punch u.write ≡ false → is_before (version_key p) (version_key u) ≡ false → leads_to (version_path p) (version_path u) ≡ true → is_unseen c upto d.versions d.snaps u ≡ true
  unfolding is_needing
  needing_at p u e k b l = pick_needing (is_punch u.write) (is_before (version_key p) (version_key u)) (leads_to (version_path p) (version_path u)) (is_unseen c upto d.versions d.snaps u) k b l e

  going_of : (u : Version) → is_unseen c upto d.versions d.snaps u ≡ true → is_going c upto d.versions d.snaps u ≡ true
  unfolding is_going
  going_of u e = ap (λ b. b || is_idle c upto d.versions d.snaps u) e

-- ---- what hides a cell is said of it

punch_some : (w : Word) (t : Bool) → t ≡ true → w ≡ (if t then Some None else None) → is_some w ≡ true
punch_some w true e h = ap is_some h
punch_some w false e h = absurd (let n : ⊥ = cc in n)

word_is_some : (x : Cell) (w : Write) → touches x w ≡ true → is_some (word x w) ≡ true
word_is_some x w t =
    elim (is_punch w) as (λ k. is_punch w ≡ k → is_some (word x w) ≡ true) [
      | true ↦ λ k. punch_some (word x w) (touches x w) t (word-punch x w k)
      | false ↦ λ k. word-some x w k t
    ] refl

else_some : (r w : Word) → is_some w ≡ true → is_some (or_else r w) ≡ true
else_some None w h = h
else_some (Some z) w h = refl

still_some : (r w : Word) (b : Bool) → is_some r ≡ true → is_some (if b then or_else r w else r) ≡ true
still_some None w b h = absurd (let n : ⊥ = cc in n)
still_some (Some z) w true h = refl
still_some (Some z) w false h = refl

hidden_some : (s : ℕ) (v : Version) (x : Cell) (us : List Version) → list_any (hides s v x) us ≡ true → is_some (said (sees s) x us) ≡ true
unfolding hides
hidden_some s v x [] h = absurd (let n : ⊥ = cc in n)
hidden_some s v x (u ∷ us) h =
    elim (sees s u && is_before (version_key v) (version_key u) && touches x u.write) as (λ b. (sees s u && is_before (version_key v) (version_key u) && touches x u.write) ≡ b → (b || list_any (hides s v x) us) ≡ true → is_some (if sees s u then or_else (said (sees s) x us) (word x u.write) else said (sees s) x us) ≡ true) [
      | true ↦ λ is k.
          let t : touches x u.write ≡ true = and_right (sees s u && is_before (version_key v) (version_key u)) (touches x u.write) is in
          let seen : sees s u ≡ true = and_left (sees s u) (is_before (version_key v) (version_key u)) (and_left (sees s u && is_before (version_key v) (version_key u)) (touches x u.write) is) in
          ap (λ (b : Bool). is_some (if b then or_else (said (sees s) x us) (word x u.write) else said (sees s) x us)) seen ∙ else_some (said (sees s) x us) (word x u.write) (word_is_some x u.write t)
      | false ↦ λ is k. still_some (said (sees s) x us) (word x u.write) (sees s u) (hidden_some s v x us k)
    ] refl h

hides_after : (s : ℕ) (v : Version) (x : Cell) (w : Version) → hides s v x w ≡ true → is_before (version_key v) (version_key w) ≡ true
unfolding hides
hides_after s v x w h = and_right (sees s w) (is_before (version_key v) (version_key w)) (and_left (sees s w && is_before (version_key v) (version_key w)) (touches x w.write) h)

hidden_any : (vs : List Version) (s : ℕ) (v : Version) (x : Cell) → is_hidden vs s v x ≡ true → list_any (hides s v x) vs ≡ true
unfolding is_hidden
hidden_any vs s v x h = h

-- ---- a cut, where what goes is hidden

module _ (c : ContId) (upto : Epoch) (d : Durable) (ws : List Version) (s : ℕ) (x : Cell)
    (o : is_in_order version_key d.versions ≡ true) (cut : Partly d.versions (is_going c upto d.versions d.snaps) ws)
    (hid : (v : Version) → is_unseen c upto d.versions d.snaps v ≡ true → sees s v ≡ true → touches x v.write ≡ true → is_hidden d.versions s v x ≡ true) where
  gone_hidden : (front : List Version) (v : Version) (us : List Version) → d.versions ≡ front ++ v ∷ us → cut.stays v ≡ false → is_punch v.write ≡ false → sees s v ≡ true → touches x v.write ≡ true → is_some (said (sees s) x us) ≡ true
  gone_hidden front v us e gone k seen t =
      let h : list_any (hides s v x) d.versions ≡ true = hidden_any d.versions s v x (hid v (unseen_of c upto d v (cut.planned v gone) k) seen t) in
      hidden_some s v x us (later_any (hides s v x) front v us (subst (λ z. is_in_order version_key z ≡ true) e o) (hides_after s v x) (subst (λ z. list_any (hides s v x) z ≡ true) e h))

  not_lost : (front : List Version) (v : Version) (us : List Version) → d.versions ≡ front ++ v ∷ us → cut.stays v ≡ true → is_punch v.write ≡ false → touches x v.write ≡ true → (y : Version) → is_before (version_key y) (version_key v) ≡ false → lost cut.stays s x y ≡ false
  not_lost front v us e kept k t y le = false_of (lost cut.stays s x y) (λ is.
      let gone : cut.stays y ≡ false = not_true (cut.stays y) (and_left (not (cut.stays y)) (is_punch y.write && touches x y.write) is) in
      let rest : (is_punch y.write && touches x y.write) ≡ true = and_right (not (cut.stays y)) (is_punch y.write && touches x y.write) is in
      let punch : is_punch y.write ≡ true = and_left (is_punch y.write) (touches x y.write) rest in
      let over : leads_to (version_path y) (version_path v) ≡ true = over_update x y.write v.write punch k (and_right (is_punch y.write) (touches x y.write) rest) t in
      let idle : is_needing c upto d.versions d.snaps y v ≡ false = none_at (is_needing c upto d.versions d.snaps y) front v us (subst (λ z. list_any (is_needing c upto d.versions d.snaps y) z ≡ false) e (idle_of c upto d y (cut.planned y gone) punch)) in
      clash (cut.stays v) kept (cut.punches y v gone punch k le over (going_of c upto d v (needing_at c upto d y v idle k le over))))

  none_lost : (key : List ℕ) (us : List Version) → all_from version_key key us ≡ true → ((y : Version) → is_before (version_key y) key ≡ false → lost cut.stays s x y ≡ false) → list_any (lost cut.stays s x) us ≡ false
  none_lost key [] h k = refl
  none_lost key (u ∷ us) h k =
      ap (λ b. b || list_any (lost cut.stays s x) us) (k u (not_true (is_before (version_key u) key) (and_left (not (is_before (version_key u) key)) (all_from version_key key us) h)))
      ∙ none_lost key us (and_right (not (is_before (version_key u) key)) (all_from version_key key us) h) k

  fine : (front us : List Version) → d.versions ≡ front ++ us → Fine cut.stays s x us
  fine front [] e = tt
  fine front (v ∷ us) e = (
    gone_hidden front v us e,
    (λ kept k t. none_lost (version_key v) us (behind front v us (subst (λ z. is_in_order version_key z ≡ true) e o)) (not_lost front v us e kept k t)),
    fine (front ++ v ∷ []) us (e ∙ sym (append_assoc front (v ∷ []) us)),
  )

  pub value_at-cut : value_at (map_below ws s) x ≡ value_at (map_below d.versions s) x
  value_at-cut = ap (λ z. value_at (map_below z s) x) cut.left ∙ value_at-left cut.stays s x d.versions (fine [] d.versions refl)

-- ---- below which epochs what goes is hidden

cell_hidden : (vs : List Version) (r : ℕ) (v : Version) (x : Cell) (ys : List CellValue) → list_any (is_of x) ys ≡ true → list_any (is_shown vs r v) ys ≡ false → is_hidden vs r v x ≡ true
cell_hidden vs r v x [] h k = absurd (let n : ⊥ = cc in n)
cell_hidden vs r v x (y ∷ ys) h k =
    elim (same_cell y.cell x) as (λ b. same_cell y.cell x ≡ b → (b || list_any (is_of x) ys) ≡ true → is_hidden vs r v x ≡ true) [
      | true ↦ λ is e.
          subst (λ z. is_hidden vs r v z ≡ true) ((same_cell-Decides y.cell x).0 is)
          (not_false (is_hidden vs r v y.cell) (or_left (is_shown vs r v y) (list_any (is_shown vs r v) ys) k))
      | false ↦ λ is e. cell_hidden vs r v x ys e (or_right (is_shown vs r v y) (list_any (is_shown vs r v) ys) k)
    ] refl h

right_false : (a b : Bool) → a ≡ true → (a && b) ≡ false → b ≡ false
right_false true b k f = f
right_false false b k f = absurd (let z : ⊥ = cc in z)

shown_hidden : (vs : List Version) (r : ℕ) (v : Version) (x : Cell) → shows_at vs v r ≡ false → sees r v ≡ true → is_punch v.write ≡ false → touches x v.write ≡ true → is_hidden vs r v x ≡ true
unfolding shows_at
shown_hidden vs r v x e seen k t = cell_hidden vs r v x (values_of v.write) (by_update x v.write true k t) (right_false (sees r v) (list_any (is_shown vs r v) (values_of v.write)) seen e)

sees-more : (r s : ℕ) (w : Version) → r ≤ s → sees r w ≡ true → sees s w ≡ true
unfolding sees
sees-more r s w le h =
    let b : nat_lt w.epoch.0 r ≡ true = and_right w.done (nat_lt w.epoch.0 r) h in
    both w.done (nat_lt w.epoch.0 s) (and_left w.done (nat_lt w.epoch.0 r) h) (grind (arith, nat_tests))

hides-more : (r s : ℕ) (v : Version) (x : Cell) (w : Version) → r ≤ s → hides r v x w ≡ true → hides s v x w ≡ true
unfolding hides
hides-more r s v x w le h =
    let first : (sees r w && is_before (version_key v) (version_key w)) ≡ true = and_left (sees r w && is_before (version_key v) (version_key w)) (touches x w.write) h in
    both (sees s w && is_before (version_key v) (version_key w)) (touches x w.write)
    (both (sees s w) (is_before (version_key v) (version_key w)) (sees-more r s w le (and_left (sees r w) (is_before (version_key v) (version_key w)) first)) (and_right (sees r w) (is_before (version_key v) (version_key w)) first))
    (and_right (sees r w && is_before (version_key v) (version_key w)) (touches x w.write) h)

or_true : (b : Bool) → (b || true) ≡ true
or_true true = refl
or_true false = refl

any_hides-more : (r s : ℕ) (v : Version) (x : Cell) → r ≤ s → (us : List Version) → list_any (hides r v x) us ≡ true → list_any (hides s v x) us ≡ true
any_hides-more r s v x le [] h = h
any_hides-more r s v x le (u ∷ us) h =
    elim (hides r v x u) as (λ b. hides r v x u ≡ b → (b || list_any (hides r v x) us) ≡ true → (hides s v x u || list_any (hides s v x) us) ≡ true) [
      | true ↦ λ is k. ap (λ b. b || list_any (hides s v x) us) (hides-more r s v x u le is)
      | false ↦ λ is k. ap (λ b. hides s v x u || b) (any_hides-more r s v x le us k) ∙ or_true (hides s v x u)
    ] refl h

hidden-more : (vs : List Version) (r s : ℕ) (v : Version) (x : Cell) → r ≤ s → is_hidden vs r v x ≡ true → is_hidden vs s v x ≡ true
unfolding is_hidden
hidden-more vs r s v x le h = any_hides-more r s v x le vs h

module _ (c : ContId) (upto : Epoch) (d : Durable) (v : Version) (x : Cell) (u : is_unseen c upto d.versions d.snaps v ≡ true) where
  not_punch : is_punch v.write ≡ false
  unfolding is_unseen
  not_punch = not_true (is_punch v.write) (and_right (is_old c upto v) (not (is_punch v.write)) (and_left (is_old c upto v && not (is_punch v.write)) (not (is_in_sight c upto d.versions d.snaps v)) u))

  out_of_sight : is_in_sight c upto d.versions d.snaps v ≡ false
  unfolding is_unseen
  out_of_sight = not_true (is_in_sight c upto d.versions d.snaps v) (and_right (is_old c upto v && not (is_punch v.write)) (not (is_in_sight c upto d.versions d.snaps v)) u)

  seen_above : sees (upto.0 + 1) v ≡ true
  unfolding is_unseen is_old sees
  seen_above =
      let old : (v.done && ((version_path v).cont.0 == c.0) && nat_le v.epoch.0 upto.0) ≡ true = and_left (is_old c upto v) (not (is_punch v.write)) (and_left (is_old c upto v && not (is_punch v.write)) (not (is_in_sight c upto d.versions d.snaps v)) u) in
      let le : nat_le v.epoch.0 upto.0 ≡ true = and_right (v.done && ((version_path v).cont.0 == c.0)) (nat_le v.epoch.0 upto.0) old in
      both v.done (nat_lt v.epoch.0 (upto.0 + 1)) (and_left v.done ((version_path v).cont.0 == c.0) (and_left (v.done && ((version_path v).cont.0 == c.0)) (nat_le v.epoch.0 upto.0) old)) (grind (arith, nat_tests))

  hidden_above : (s : ℕ) → upto.0 < s → touches x v.write ≡ true → is_hidden d.versions s v x ≡ true
  unfolding is_in_sight
  hidden_above s lt t =
      hidden-more d.versions (upto.0 + 1) s v x (omega arith)
      (shown_hidden d.versions (upto.0 + 1) v x (or_left (shows_at d.versions v (upto.0 + 1)) (list_any (shows_in d.versions v c upto) d.snaps) out_of_sight) seen_above not_punch t)

  unshown : (s : Epoch) (ys : List Snap) → nat_le s.0 upto.0 ≡ true → list_any (shows_in d.versions v c upto) ys ≡ false → list_any (is_snap_at c s) ys ≡ true → shows_at d.versions v s.0 ≡ false
  unfolding shows_in
  unshown s [] le h k = absurd (let n : ⊥ = cc in n)
  unshown s (y ∷ ys) le h k =
      elim ((y.cont.0 == c.0) && (y.epoch.0 == s.0)) as (λ b. ((y.cont.0 == c.0) && (y.epoch.0 == s.0)) ≡ b → (b || list_any (is_snap_at c s) ys) ≡ true → shows_at d.versions v s.0 ≡ false) [
        | true ↦ λ is e.
            let cont : (y.cont.0 == c.0) ≡ true = and_left (y.cont.0 == c.0) (y.epoch.0 == s.0) is in
            let at : (y.epoch.0 == s.0) ≡ true = and_right (y.cont.0 == c.0) (y.epoch.0 == s.0) is in
            let same : y.epoch.0 ≡ s.0 = grind (arith, nat_tests) in
            let here : ((y.cont.0 == c.0) && nat_le y.epoch.0 upto.0) ≡ true = both (y.cont.0 == c.0) (nat_le y.epoch.0 upto.0) cont (ap (λ n. nat_le n upto.0) same ∙ le) in
            ap (shows_at d.versions v) (sym same)
            ∙ right_false ((y.cont.0 == c.0) && nat_le y.epoch.0 upto.0) (shows_at d.versions v y.epoch.0) here (or_left ((y.cont.0 == c.0) && nat_le y.epoch.0 upto.0 && shows_at d.versions v y.epoch.0) (list_any (shows_in d.versions v c upto) ys) h)
        | false ↦ λ is e. unshown s ys le (or_right ((y.cont.0 == c.0) && nat_le y.epoch.0 upto.0 && shows_at d.versions v y.epoch.0) (list_any (shows_in d.versions v c upto) ys) h) e
      ] refl k

  hidden_at_snap : (s : Epoch) → is_frozen d c s ≡ true → sees s.0 v ≡ true → touches x v.write ≡ true → is_hidden d.versions s.0 v x ≡ true
  unfolding is_in_sight is_frozen
  hidden_at_snap s frozen' seen t =
      elim (nat_le s.0 upto.0) as (λ b. nat_le s.0 upto.0 ≡ b → is_hidden d.versions s.0 v x ≡ true) [
        | true ↦ λ le. shown_hidden d.versions s.0 v x (unshown s d.snaps le (or_right (shows_at d.versions v (upto.0 + 1)) (list_any (shows_in d.versions v c upto) d.snaps) out_of_sight) frozen') seen not_punch t
        | false ↦ λ gt. let lt : upto.0 < s.0 = grind (arith, nat_tests) in hidden_above s.0 lt t
      ] refl

pub prune_keeps_cells : PruneKeepsCells
prune_keeps_cells c upto s d vs o cut (inl lt) x = value_at-cut c upto d vs s.0 x o cut (λ v u seen t. hidden_above c upto d v x u s.0 lt t)
prune_keeps_cells c upto s d vs o cut (inr fr) x = value_at-cut c upto d vs s.0 x o cut (λ v u seen t. hidden_at_snap c upto d v x u s fr seen t)
