-- Snapshots of one target are thawed, one after another.
use Rattle.std.specs.Prelude.{ℕ, ◌≡◌, ◌≤◌, ◌<◌, ◌+◌, ◌==◌, not, Bool, true, false, List, [], ◌∷◌, ◌++◌, filter, length, take, slice_index_or}
use Rattle.std.proofs.Common.{refl, sym, ◌∙◌, ap, subst, inl, inr}
use Rattle.std.proofs.lemmas.List.{take_all, take_more}
use Rattle.base_types.specs.declared.epoch.Epoch.{Epoch}
use Rattle.base_types.specs.declared.id.ContId.{ContId}
use Rattle.base_types.specs.declared.snapshot.Snap.{Snap}
use Rattle.model_laws.specs.Lists.{has-at}
use Rattle.model_laws.specs.Members.{Has, any-has, has-any, has-filter, has-from_filter}
use Rattle.model_laws.specs.TargetLaws.{number_same}
use Rattle.daos_model.specs.declared.durable.Durable.{Durable}
use Rattle.daos_model.specs.BoolLaws.{and_left, and_right, false_of}
use Rattle.daos_model.specs.Changes.{is_other_snap, thawed}
use Rattle.daos_model.specs.Durables.{is_frozen, is_snap_at, snap_key}
use Rattle.daos_model.specs.OrderLaws.{rising-filter}
use Rattle.daos_model.specs.Ordered.{is_rising}
use Rattle.run_opening.specs.StandLaws.{is-itself}
use Rattle.run_opening.specs.Steps.{AreFrozen, all_thawed}
use Rattle.run_opening.proofs.Ending.{at-read, keys-apart_at}

-- ---- which snapshots stay frozen

pub thawed-next : (xs : List Snap) (x : Snap) (d : Durable) → all_thawed (xs ++ x ∷ []) d ≡ thawed x.cont x.epoch (all_thawed xs d)
thawed-next [] x d = refl
thawed-next (z ∷ xs) x d = thawed-next xs x (thawed z.cont z.epoch d)

pub same-key : (x z : Snap) → is_snap_at z.cont z.epoch x ≡ true → snap_key x ≡ snap_key z
same-key x z at =
    let cont : x.cont.0 ≡ z.cont.0 = number_same x.cont.0 z.cont.0 (and_left (x.cont.0 == z.cont.0) (x.epoch.0 == z.epoch.0) at) in
    let epoch : x.epoch.0 ≡ z.epoch.0 = number_same x.epoch.0 z.epoch.0 (and_right (x.cont.0 == z.cont.0) (x.epoch.0 == z.epoch.0) at) in
    ap (λ n. n ∷ x.epoch.0 ∷ []) cont ∙ ap (λ n. z.cont.0 ∷ n ∷ []) epoch

-- entries stay
pub thawed-entries : (cont : ContId) (epoch : Epoch) (d : Durable) → (thawed cont epoch d).entries ≡ d.entries
unfolding thawed
thawed-entries cont epoch d = refl

-- another snapshot stays frozen where one is thawed
other-frozen : (z x : Snap) (d : Durable) → (snap_key x ≡ snap_key z → ⊥) → is_frozen d x.cont x.epoch ≡ true → is_frozen (thawed z.cont z.epoch d) x.cont x.epoch ≡ true
unfolding is_frozen thawed
other-frozen z x d apart frozen =
    let y = has-any (is_snap_at x.cont x.epoch) d.snaps frozen in
    let off : is_snap_at z.cont z.epoch y.0 ≡ false = false_of (is_snap_at z.cont z.epoch y.0) (λ at. apart (sym (same-key y.0 x y.2) ∙ same-key y.0 z at)) in
    any-has (is_snap_at x.cont x.epoch) (filter (is_other_snap z.cont z.epoch) d.snaps) y.0 (has-filter (is_other_snap z.cont z.epoch) d.snaps y.0 y.1 (ap not off)) y.2

still-frozen : (xs : List Snap) (x : Snap) (d : Durable) → ((z : Snap) → Has z xs → snap_key x ≡ snap_key z → ⊥) → is_frozen d x.cont x.epoch ≡ true → is_frozen (all_thawed xs d) x.cont x.epoch ≡ true
still-frozen [] x d apart frozen = frozen
still-frozen (z ∷ xs) x d apart frozen = still-frozen xs x (thawed z.cont z.epoch d) (λ y i. apart y (inr i)) (other-frozen z x d (apart z (inl refl)) frozen)

-- ---- walks along snapshots

module _ (xs : List Snap) (i : ℕ) (z : Snap) (lt : i < length xs) where
  -- the next one is still frozen
  pub read-frozen : (d y : Durable) → AreFrozen xs d → y ≡ all_thawed (take i xs) d → is_frozen y (slice_index_or xs i z).cont (slice_index_or xs i z).epoch ≡ true
  read-frozen d y k is =
      let x = slice_index_or xs i z in
      let at = at-read xs i z lt in
      subst (λ w. is_frozen w x.cont x.epoch ≡ true) (sym is) (still-frozen (take i xs) x d (keys-apart_at snap_key xs i x k.rising at) (k.each x (has-at xs i x at)))

  pub more-thawed : (d : Durable) → thawed (slice_index_or xs i z).cont (slice_index_or xs i z).epoch (all_thawed (take i xs) d) ≡ all_thawed (take (i + 1) xs) d
  more-thawed d = sym (thawed-next (take i xs) (slice_index_or xs i z) d) ∙ ap (λ ys. all_thawed ys d) (sym (take_more xs i z lt))

pub last-thawed : (xs : List Snap) (i : ℕ) (d : Durable) → length xs ≤ i → all_thawed (take i xs) d ≡ all_thawed xs d
last-thawed xs i d le = ap (λ ys. all_thawed ys d) (take_all i xs le)

-- ---- some of a target's snapshots

-- its snapshots that pass a test are frozen, in their order
pub some-frozen : (t : Snap → Bool) (d : Durable) → is_rising snap_key d.snaps ≡ true → AreFrozen (filter t d.snaps) d
unfolding is_frozen
some-frozen t d rises = record {
  each = λ x i. any-has (is_snap_at x.cont x.epoch) d.snaps x (has-from_filter t d.snaps x i).0 (is-itself x);
  rising = rising-filter snap_key t d.snaps rises;
}
