-- What a run leaves in the one store, and what it is once it is opened again.
use Rattle.std.specs.Prelude.{ℕ, Bool, ◌≡◌, ◌≤◌, ◌+◌, ◌^◌, false, List, [], ◌∷◌, filter, replicate, slice_get, slice_set, Option, Some, None, ◌*◌, ◌-◌, refl}
use Rattle.std.proofs.Common.{suc, zero, sym, ◌∙◌, ap, subst, arith}
use Rattle.base_types.specs.declared.report.Report.{Report}
use Rattle.base_types.specs.declared.script.Script.{Script}
use Rattle.daos_model.specs.Changes.{reopened}
use Rattle.daos_model.specs.Durables.{empty_durable}
use Rattle.daos_model.specs.Opening.{Given}
use Rattle.daos_model.specs.declared.durable.Durable.{Durable}
use Rattle.daos_run.specs.Comes.{ComesFrom}
use Rattle.daos_run.specs.Opens.{MayRun}
use Rattle.daos_run.specs.Slots.{AreFree, AreSet, HaveStores, stores_in}
use Rattle.run_opening.specs.All.{AreKept, MayBeFound}
use Rattle.run_opening.specs.AlikeSound.{reopening-sound}
use Rattle.run_opening.specs.FloorLaws.{reopening-floored, unused-floored}
use Rattle.run_opening.specs.Laws.{AreUnused}
use Rattle.run_opening.specs.UnusedLaws.{unused-sound}
use Rattle.run_starts.specs.Starts.{CanOpen}
use Rattle.run_tests.specs.Lone.{CanOpenAny, IsLeft, IsOver, IsReady}
use Rattle.run_tests.specs.Pair.{told_by}
use Rattle.run_tests.proofs.Places.{found_in, kept-is, kept-one, one-has, only, same-some}
use Rattle.vos_plain.specs.Plain.{new_state, plain_durable, plain_state}
use Rattle.vos_plain.specs.declared.store.PlainStore.{PlainStore}

-- ---- a new store

pub none-used : AreUnused (empty_durable 1 ∷ [])
none-used zero d at = (1, sym (same-some (empty_durable 1) d at))
none-used (suc t) d at = absurd (let e : None ≡ Some d = at in cc)

pub new-opens : CanOpenAny (empty_durable 1)
new-opens = record { sound = unused-sound (empty_durable 1 ∷ []) none-used; floored = unused-floored (empty_durable 1 ∷ []) none-used }

-- ---- before a run

module _ {C : Type 0} (slots : List (Option (PlainStore × C))) (k : IsOver IsReady slots) where
  may-run : MayRun told_by plain_state 1 k.store
  may-run = record {
    running = k.so.running;
    made = omega arith;
    seldom = λ d told. subst (λ e. e.incarnation ≤ 2 ^ 63 + 1) (same-some (plain_durable k.store) d told) k.so.seldom;
  }

  pub may-run-all : HaveStores (λ t store. MayRun told_by plain_state 1 store) 1 slots
  may-run-all = subst (HaveStores (λ t store. MayRun told_by plain_state 1 store) 1) (sym k.is) (one-has (k.store, k.clock) (λ t store. MayRun told_by plain_state 1 store) may-run)

  stores : stores_in slots ≡ k.store ∷ []
  stores = ap stores_in k.is

  pub can-open-all : (B : List Durable) → AreKept told_by (stores_in slots) B → CanOpen B
  can-open-all B kept = subst CanOpen (sym (kept-is k.store B (subst (λ ys. AreKept told_by ys B) stores kept))) k.so.opens

  pub all-kept : AreKept told_by (stores_in slots) (plain_durable k.store ∷ [])
  all-kept = subst (λ ys. AreKept told_by ys (plain_durable k.store ∷ [])) (sym stores) (kept-one k.store)

  pub free-of-nothing : AreFree plain_state slots (λ t. 0)
  free-of-nothing t x at = omega arith

  -- ---- behind it

  module _ (new : List (Option (PlainStore × C))) (set : AreSet 1 new) (g : Given) (q : Report) (c : ComesFrom told_by plain_state found_in g (stores_in slots) (stores_in new) q) where
    abbrev x : PlainStore × C
    x = (only new set).0

    is : new ≡ Some x ∷ []
    is = (only new set).1

    found : MayBeFound found_in (x.0 ∷ []) (plain_durable x.0 ∷ [])
    found = record { many = refl; each = at }
      where
        at : (t : ℕ) (y : PlainStore) (d : Durable) → slice_get (x.0 ∷ []) t ≡ Some y → slice_get (plain_durable x.0 ∷ []) t ≡ Some d → found_in y d
        at zero y d here kept = sym (same-some (plain_durable x.0) d kept) ∙ ap plain_durable (same-some x.0 y here)
        at (suc t) y d here kept = absurd (let e : None ≡ Some y = here in cc)

    pub is-left : IsOver IsLeft new
    is-left = record {
      store = x.0;
      clock = x.1;
      is = is;
      so = record {
        reopens = c.comes.reopens 0 x.0 (ap (λ ys. slice_get (stores_in ys) 0) is) (plain_durable x.0) refl (plain_durable x.0) refl;
        opens = c.sound (plain_durable k.store ∷ []) all-kept k.so.opens (plain_durable x.0 ∷ []) (subst (λ ys. MayBeFound found_in ys (plain_durable x.0 ∷ [])) (ap stores_in (sym is)) found);
      };
    }

-- ---- a store that is opened again

pub reopened-opens : (d : Durable) → CanOpenAny d → CanOpenAny (reopened d)
reopened-opens d k = record { sound = (reopening-sound (d ∷ []) k.sound).sound; floored = reopening-floored (d ∷ []) k.floored }

module _ {C : Type 0} where
  pub new-left : (parts slots : List (Option (PlainStore × C))) (store : PlainStore) (clock : C) (fails : Bool) → parts ≡ replicate 1 None → slots ≡ slice_set parts 0 (Some (store, clock)) → plain_durable store ≡ empty_durable 1 → plain_state store ≡ record (new_state (2 * 4096 - 1264)) { may_fail = fails }
      → IsOver IsReady slots
  new-left parts slots store clock fails empty set durable state = record {
    store = store;
    clock = clock;
    is = set ∙ ap (λ ys. slice_set ys 0 (Some (store, clock))) empty;
    so = record {
      running = ap (λ h. h.stopped) state;
      seldom = subst (λ d. d.incarnation ≤ 2 ^ 63 + 1) (sym durable) (omega arith);
      opens = subst CanOpenAny (sym durable) new-opens;
    };
  }

  pub opened-again : (old mid new : List (Option (PlainStore × C))) (k : IsOver IsLeft old) (x : PlainStore × C) (store : PlainStore) (incarnation : ℕ) → slice_get old 0 ≡ Some (Some x) → mid ≡ slice_set old 0 None → new ≡ slice_set mid 0 (Some (store, x.1)) → (plain_state store).stopped ≡ false
      → ((d : Durable) → told_by store ≡ Some d → (y : Durable) × found_in x.0 y × (d ≡ reopened y)) → ((plain_state store).stopped ≡ false → (d : Durable) → told_by store ≡ Some d → incarnation ≡ d.incarnation) → incarnation ≤ 1000
      → IsOver IsReady new
  opened-again old mid new k x store incarnation at taken again runs found told few =
      let same : (k.store, k.clock) ≡ x = same-some (k.store, k.clock) x (same-some (Some (k.store, k.clock)) (Some x) (ap (λ ys. slice_get ys 0) (sym k.is) ∙ at)) in
      let y = found (plain_durable store) refl in
      let is : plain_durable store ≡ reopened (plain_durable k.store) = y.2 ∙ ap reopened (y.1 ∙ ap (λ z. plain_durable z.0) (sym same)) in
      let count = told runs (plain_durable store) refl in
      record {
        store = store;
        clock = x.1;
        is = again ∙ ap (λ ys. slice_set ys 0 (Some (store, x.1))) (taken ∙ ap (λ ys. slice_set ys 0 None) k.is);
        so = record {
          running = runs;
          seldom = omega (arith, count, few);
          opens = subst CanOpenAny (sym is) (reopened-opens (plain_durable k.store) k.so.opens);
        };
      }
