-- Versions are removed one after another.
use Rattle.std.proofs.Common.{◌≡◌, ℕ, ◌+◌, ◌≤◌, ◌<◌, ◌&&◌, ◌||◌, Bool, true, false, not, List, [], ◌∷◌, ◌++◌, Ok, Err, Result, append-nil, append_assoc, drop, get_or, length, take, refl, sym, ap, ◌∙◌, subst, arith}
use Rattle.std.specs.Prelude.{OnOk, filter}
use Rattle.std.specs.List.{list_any}
use Rattle.std.proofs.lemmas.List.{take_all}
use Rattle.base_outside.specs.Images.{Image}
use Rattle.daos_model.specs.Changes.{with_versions}
use Rattle.daos_model.specs.declared.durable.Durable.{Durable}
use Rattle.daos_model.specs.declared.durable.Version.{Version}
use Rattle.pmem_alloc.specs.Blocks.{free_count}
use Rattle.vos_pool_settle.specs.vos_pool_base.Pool.{OpenedState}
use Rattle.vos_pool_prune.specs.Changing.{IsPartChange}
use Rattle.vos_pool_prune.specs.Order.{chosen, is_of, those_of}
use Rattle.vos_pool_prune.specs.Removals.{CutRemovals, without_versions}
use Rattle.vos_pool_prune.proofs.Chosen.{those_all, those_before, those_more}
use Rattle.vos_pool_prune.proofs.Joining.{part_as, part_of, part_stopped, part_then}
use Rattle.vos_pool_settle.proofs.Leaving.{all_left, filter_both}
use Rattle.vos_pool_settle.specs.Removing.{IsRemoval, goes_with, without_version}
use Rattle.vos_pool_settle.specs.Settling.{OfItsKept}
use Rattle.vos_store.specs.declared.refusal.Stopped.{Stopped}

-- ---- one after another

pub without_append : (us vs : List Version) (d : Durable) → without_versions (us ++ vs) d ≡ without_versions vs (without_versions us d)
without_append [] vs d = refl
without_append (u ∷ us) vs d = without_append us vs (without_version u d)

pub cut_more : (us vs : List Version) (d x : Durable) → CutRemovals us d x → CutRemovals (us ++ vs) d x
cut_more us vs d x k = record { gone = k.gone; rest = k.rest ++ vs; all = ap (λ z. z ++ vs) k.all ∙ append_assoc k.gone k.rest vs; is = k.is }

pub cut_then : (us vs : List Version) (d x : Durable) → CutRemovals vs (without_versions us d) x → CutRemovals (us ++ vs) d x
cut_then us vs d x k = record { gone = us ++ k.gone; rest = k.rest; all = ap (λ z. us ++ z) k.all ∙ sym (append_assoc us k.gone k.rest); is = k.is ∙ sym (without_append us k.gone d) }

whole_cut : (us : List Version) (d x : Durable) → x ≡ without_versions us d → CutRemovals us d x
whole_cut us d x is = record { gone = us; rest = []; all = sym (append-nil us); is = is }

module _ {R : Type 0} (extent : R → ℕ) (tells : Bool) (image : R → Image) (may_leave : R → Image → Type 0) (count burns : R → ℕ) where
  abbrev AreGone : List Version → OpenedState R → OpenedState R → Result (Unit {0}) Stopped → Type 0
  AreGone us p w r = IsPartChange tells extent image may_leave count burns (without_versions us) (CutRemovals us) p w r

  pub gone_then : (us vs : List Version) (p q w : OpenedState R) (r : Result (Unit {0}) Stopped) → AreGone us p q (Ok (tt {0})) → AreGone vs q w r → AreGone (us ++ vs) p w r
  gone_then us vs p q w r k m =
      part_as extent tells image may_leave count burns (λ d. without_versions vs (without_versions us d)) (without_versions (us ++ vs)) (CutRemovals (us ++ vs)) (CutRemovals (us ++ vs)) p w r (λ told going d is. sym (without_append us vs d)) (λ told going d is x cut. cut)
      (part_then extent tells image may_leave count burns (without_versions us) (without_versions vs) (CutRemovals us) (CutRemovals vs) (CutRemovals (us ++ vs)) p q w r k m (cut_more us vs) (cut_then us vs))

  pub one_gone : (u : Version) (q w : OpenedState R) (r : Result (Unit {0}) Stopped) → IsRemoval tells extent image may_leave count burns u q w r → OnOk r (OfItsKept tells extent image q (λ d. free_count q.blocks + length d.versions ≤ free_count w.blocks + length (without_version u d).versions)) → AreGone (u ∷ []) q w r
  one_gone u q w r m gives =
      part_as extent tells image may_leave count burns (without_version u) (without_versions (u ∷ [])) (λ d x. x ≡ without_version u d) (CutRemovals (u ∷ [])) q w r (λ told going d is. refl) (λ told going d is x made. whole_cut (u ∷ []) d x made)
      (part_of extent tells image may_leave count burns (without_version u) q w r m gives)

  pub gone_stopped : (us vs rest : List Version) (p w : OpenedState R) (r : Result (Unit {0}) Stopped) (z : Stopped) → r ≡ Err z → vs ≡ us ++ rest → AreGone us p w r → AreGone vs p w r
  gone_stopped us vs rest p w r z is all m =
      part_stopped extent tells image may_leave count burns (without_versions us) (without_versions vs) (CutRemovals us) (CutRemovals vs) p w r z is (λ d x k. subst (λ (l : List Version). CutRemovals l d x) (sym all) (cut_more us rest d x k)) m

  -- ---- those of one kind

  module _ (b : Bool) (ms : List Bool) (us : List Version) (i : ℕ) (each : length ms ≡ length us) where
    pub removed_next : (u : Version) (p q w : OpenedState R) (r : Result (Unit {0}) Stopped) → i < length us → u ≡ get_or us i u → (get_or ms i false && is_of b u) ≡ true → AreGone (those_before b ms us i) p q (Ok (tt {0}))
        → IsRemoval tells extent image may_leave count burns u q w r → OnOk r (OfItsKept tells extent image q (λ d. free_count q.blocks + length d.versions ≤ free_count w.blocks + length (without_version u d).versions)) → AreGone (those_before b ms us (i + 1)) p w r
    removed_next u p q w r low at is k m gives = subst (λ (l : List Version). AreGone l p w r) (sym (those_more b ms us i each u true low at is)) (gone_then (those_before b ms us i) (u ∷ []) p q w r k (one_gone u q w r m gives))

    pub passed_next : (u : Version) (p q : OpenedState R) (r : Result (Unit {0}) Stopped) → i < length us → u ≡ get_or us i u → (get_or ms i false && is_of b u) ≡ false → AreGone (those_before b ms us i) p q r → AreGone (those_before b ms us (i + 1)) p q r
    passed_next u p q r low at is k = subst (λ (l : List Version). AreGone l p q r) (sym (those_more b ms us i each u false low at is ∙ append-nil (those_before b ms us i))) k

    pub stopped_any : (p w : OpenedState R) (r : Result (Unit {0}) Stopped) (z : Stopped) → r ≡ Err z → AreGone (those_before b ms us i) p w r → AreGone (those_of b (chosen ms us)) p w r
    stopped_any p w r z is k = gone_stopped (those_before b ms us i) (those_of b (chosen ms us)) (those_of b (chosen (drop i ms) (drop i us))) p w r z is (those_all b ms us i each) k

    -- at the end they are all of that kind
    pub gone_all : (p w : OpenedState R) (r : Result (Unit {0}) Stopped) → length us ≤ i → AreGone (those_before b ms us i) p w r → AreGone (those_of b (chosen ms us)) p w r
    gone_all p w r end k =
        subst (λ (l : List Version). AreGone (those_of b (chosen ms l)) p w r) (take_all i us end)
        (subst (λ (l : List Bool). AreGone (those_of b (chosen l (take i us))) p w r) (take_all i ms (omega (arith, each, end))) k)

-- ---- all at once

-- one goes with one of some
abbrev pub goes_any : List Version → Version → Bool
goes_any us v = list_any (λ u. goes_with u v) us

pub without_all : (us : List Version) (d : Durable) → without_versions us d ≡ with_versions (filter (λ v. not (goes_any us v)) d.versions) d
unfolding with_versions
without_all [] d = ap (λ (z : List Version). record d { versions = z }) (all_left d.versions)
without_all (u ∷ us) d = without_all us (without_version u d) ∙ ap (λ (z : List Version). record d { versions = z }) (filter_both (goes_with u) (goes_any us) (goes_any (u ∷ us)) d.versions (λ v. refl))

pub without_both : (us vs : List Version) (d : Durable) → without_versions (us ++ vs) d ≡ with_versions (filter (λ v. not (goes_any us v || goes_any vs v)) d.versions) d
unfolding with_versions
without_both us vs d =
    without_append us vs d
    ∙ (without_all vs (without_versions us d)
    ∙ (ap (λ (e : Durable). record e { versions = filter (λ v. not (goes_any vs v)) e.versions }) (without_all us d)
    ∙ ap (λ (z : List Version). record d { versions = z }) (filter_both (goes_any us) (goes_any vs) (λ v. goes_any us v || goes_any vs v) d.versions (λ v. refl))))
