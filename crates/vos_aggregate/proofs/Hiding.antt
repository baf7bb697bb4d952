-- Only versions after a version hide it.
use Rattle.std.proofs.Common.{◌≡◌, ℕ, zero, suc, ◌-◌, ◌<◌, ◌≤◌, ◌/◌, Bool, true, false, ◌&&◌, ◌||◌, not, List, [], ◌∷◌, None, length, get_or, drop, refl, sym, ◌∙◌, ap, arith}
use Rattle.std.specs.List.{list_all, list_any}
use Rattle.std.specs.Prelude.{nat_le}
use Rattle.std.proofs.lemmas.Bool.Decides.{nat_tests}
use Rattle.base_types.specs.declared.operation.Write.{Write}
use Rattle.base_types.specs.declared.operation.Write.TheVariants.{Single, Extent}
use Rattle.base_types.specs.declared.path.Path.{Path}
use Rattle.base_types.specs.Paths.{record_size}
use Rattle.daos_model.specs.Cells.{cell_at}
use Rattle.daos_model.specs.declared.cell.Cell.{Cell}
use Rattle.daos_model.specs.declared.durable.Version.{Version}
use Rattle.daos_model.specs.Answers.{is_before}
use Rattle.daos_model.specs.BoolLaws.{and_left, and_right}
use Rattle.daos_model.specs.Durables.{object_key, version_key}
use Rattle.daos_model.specs.OrderLaws.{before-asym, before-itself}
use Rattle.daos_model.specs.Ordered.{all_after, is_rising}
use Rattle.daos_model.specs.Prunes.{hides, is_hidden, is_shown, touches, values_of}
use Rattle.daos_model.specs.Versions.{sees, version_path}
use Rattle.vos_aggregate.proofs.Walking.{first-least}
use Rattle.vos_aggregate.specs.Places.{IsLastBefore}
use Rattle.vos_aggregate.specs.Saying.{is_plain, is_plain_version, says}

-- what is after a key stands there wherever it is
pub after-at : (k : List ℕ) (us : List Version) (i : ℕ) (d : Version) → i < length us → all_after version_key k us ≡ true → is_before k (version_key (get_or us i d)) ≡ true
after-at k [] i d lt h = absurd (omega arith)
after-at k (u ∷ us) zero d lt h = and_left (is_before k (version_key u)) (all_after version_key k us) h
after-at k (u ∷ us) (suc i) d lt h = after-at k us i d (omega arith) (and_right (is_before k (version_key u)) (all_after version_key k us) h)

-- an earlier place has what is before
pub rising-at : (us : List Version) (i k : ℕ) (d e : Version) → i < k → k < length us → is_rising version_key us ≡ true → is_before (version_key (get_or us i d)) (version_key (get_or us k e)) ≡ true
rising-at [] i k d e lt in' h = absurd (omega arith)
rising-at (u ∷ us) i zero d e lt in' h = absurd (omega arith)
rising-at (u ∷ us) zero (suc k) d e lt in' h = after-at (version_key u) us k e (omega arith) (and_left (all_after version_key (version_key u) us) (is_rising version_key us) h)
rising-at (u ∷ us) (suc i) (suc k) d e lt in' h = rising-at us i k d e (omega arith) (omega arith) (and_right (all_after version_key (version_key u) us) (is_rising version_key us) h)

-- and no greater epoch
pub epochs-at : (us : List Version) (i k : ℕ) (d e : Version) → i < k → k < length us → is_rising version_key us ≡ true → (get_or us i d).epoch.0 ≤ (get_or us k e).epoch.0
epochs-at us i k d e lt in' h =
    let v : Version = get_or us i d in
    let w : Version = get_or us k e in
    first-least v.epoch.0 w.epoch.0 (is_before (v.minor ∷ object_key (version_path v).cont (version_path v).obj) (w.minor ∷ object_key (version_path w).cont (version_path w).obj)) (rising-at us i k d e lt in' h)

drop-middle : (a b c : Bool) → b ≡ true → (a && b && c) ≡ (a && c)
drop-middle true true c e = refl
drop-middle false true c e = refl
drop-middle a false c e = absurd (let n : ⊥ = cc in n)

no-middle : (a b c : Bool) → b ≡ false → (a && b && c) ≡ false
no-middle a true c e = absurd (let n : ⊥ = cc in n)
no-middle true false c e = refl
no-middle false false c e = refl

module _ (s : ℕ) (v : Version) (c : Cell) where
  -- of versions after it those hide it that say what the cell holds
  after-all : (us : List Version) → all_after version_key (version_key v) us ≡ true → list_any (hides s v c) us ≡ list_any (says s c) us
  unfolding hides says
  after-all [] h = refl
  after-all (u ∷ us) h =
      ap (λ x. x || list_any (hides s v c) us) (drop-middle (sees s u) (is_before (version_key v) (version_key u)) (touches c u.write) (and_left (is_before (version_key v) (version_key u)) (all_after version_key (version_key v) us) h))
      ∙ ap (λ x. (sees s u && touches c u.write) || x) (after-all us (and_right (is_before (version_key v) (version_key u)) (all_after version_key (version_key v) us) h))

  hidden-from : (us : List Version) (i : ℕ) → i < length us → get_or us i v ≡ v → is_rising version_key us ≡ true → list_any (hides s v c) us ≡ list_any (says s c) (drop (suc i) us)
  unfolding hides
  hidden-from [] i lt is h = absurd (omega arith)
  hidden-from (u ∷ us) zero lt is h =
      let after : all_after version_key (version_key v) us ≡ true = ap (λ x. all_after version_key (version_key x) us) (sym is) ∙ and_left (all_after version_key (version_key u) us) (is_rising version_key us) h in
      let same : is_before (version_key v) (version_key u) ≡ false = ap (λ x. is_before (version_key v) (version_key x)) is ∙ before-itself (version_key v) in
      ap (λ x. x || list_any (hides s v c) us) (no-middle (sees s u) (is_before (version_key v) (version_key u)) (touches c u.write) same) ∙ after-all us after
  hidden-from (u ∷ us) (suc i) lt is h =
      let before : is_before (version_key u) (version_key v) ≡ true =
      ap (λ x. is_before (version_key u) (version_key x)) (sym is) ∙ after-at (version_key u) us i v (omega arith) (and_left (all_after version_key (version_key u) us) (is_rising version_key us) h) in
      ap (λ x. x || list_any (hides s v c) us) (no-middle (sees s u) (is_before (version_key v) (version_key u)) (touches c u.write) (before-asym (version_key u) (version_key v) before))
      ∙ hidden-from us i (omega arith) is (and_right (all_after version_key (version_key u) us) (is_rising version_key us) h)

  pub hidden-later : (vs : List Version) (start : ℕ) → IsLastBefore vs start v → is_rising version_key vs ≡ true → list_any (says s c) (drop start vs) ≡ is_hidden vs s v c
  unfolding is_hidden
  hidden-later vs start last rising =
      let next : suc (start - 1) ≡ start = omega (arith, last.some) in
      ap (λ n. list_any (says s c) (drop n vs)) (sym next) ∙ sym (hidden-from vs (start - 1) (omega (arith, last.some, last.within)) last.is rising)

-- an extent among plain versions has few records
pub plain-at : (us : List Version) (i : ℕ) (d : Version) → i < length us → list_all is_plain_version us ≡ true → is_plain (get_or us i d).write ≡ true
plain-at [] i d lt h = absurd (omega arith)
plain-at (u ∷ us) zero d lt h = and_left (is_plain u.write) (list_all is_plain_version us) h
plain-at (u ∷ us) (suc i) d lt h = plain-at us i d (omega arith) (and_right (is_plain u.write) (list_all is_plain_version us) h)

pub plain-last : (vs : List Version) (start : ℕ) (v : Version) → IsLastBefore vs start v → list_all is_plain_version vs ≡ true → is_plain v.write ≡ true
plain-last vs start v last plain = ap (λ (x : Version). is_plain x.write) (sym last.is) ∙ plain-at vs (start - 1) v (omega (arith, last.some, last.within)) plain

pub few-records : (w : Write) (p : Path) (low : ℕ) (bytes : List ℕ) → w ≡ Extent p low bytes → is_plain w ≡ true → length bytes / record_size p ≤ 1024
unfolding is_plain
few-records w p low bytes is plain = let e : nat_le (length bytes / record_size p) 1024 ≡ true = sym (ap is_plain is) ∙ plain in grind (arith, nat_tests)

or-false : (b : Bool) → (b || false) ≡ b
or-false true = refl
or-false false = refl

-- of a single value's one cell
pub shown-single : (vs : List Version) (s start : ℕ) (v : Version) (p : Path) (bytes : List ℕ) → v.write ≡ Single p bytes → IsLastBefore vs start v → is_rising version_key vs ≡ true →
    not (list_any (says s (cell_at p None)) (drop start vs)) ≡ list_any (is_shown vs s v) (values_of v.write)
shown-single vs s start v p bytes is last rising =
    ap not (hidden-later s v (cell_at p None) vs start last rising)
    ∙ sym (or-false (not (is_hidden vs s v (cell_at p None))))
    ∙ sym (ap (λ w. list_any (is_shown vs s v) (values_of w)) is)
