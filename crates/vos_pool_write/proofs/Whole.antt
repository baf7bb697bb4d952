-- The versions of an entry came, and then the entry: both are what is asked, and what they make is what preparing it makes.
use Rattle.std.specs.Prelude.{OnOk, Option, Result, Ok, Err}
use Rattle.std.proofs.Common.{◌≡◌, ◌^◌, ◌<◌, ℕ, Bool, false, List, [], refl, sym, ◌∙◌, subst, arith, inl}
use Rattle.base_outside.specs.Images.{Image}
use Rattle.base_types.specs.declared.entry.Entry.{Entry}
use Rattle.base_types.specs.declared.operation.MinorWrite.{MinorWrite}
use Rattle.daos_model.specs.declared.durable.Durable.{Durable}
use Rattle.daos_model.specs.BoolLaws.{clash}
use Rattle.daos_model.specs.Changes.{prepared}
use Rattle.vos_entries.specs.Entries.{Entries, has_entry_at, listings}
use Rattle.vos_fitting.specs.Fitting.{ListNothing}
use Rattle.vos_image.specs.Kept.{Stored}
use Rattle.vos_levels.specs.Levels.{HasMore, things}
use Rattle.vos_pool_base.specs.Pool.{OpenedState}
use Rattle.vos_pool_base.specs.Tidy.{IfTidy, IsSamePool}
use Rattle.vos_pool_stage.specs.Staged.{IsQuietCall}
use Rattle.vos_pool_write.specs.Coming.{EntryMakes, HasEntered, MayEnter}
use Rattle.vos_pool_write.specs.Prepared.{IsPrepared}
use Rattle.vos_pool_write.specs.Preparing.{HasNoneOf, MayBePrepared}
use Rattle.vos_pool_write.specs.Several.{AllHaveCome, AllMayCome}
use Rattle.vos_pool_write.proofs.Prepared.{absent_all, all_unseen, entries_prepare}
use Rattle.vos_pool_write.proofs.Tidying.{few_then, none_listed_then}
use Rattle.vos_store.specs.declared.refusal.Stopped.{Stopped}
use Rattle.vos_store.specs.Calls.{Makes}
use Rattle.vos_store.specs.Refusals.{always_stop}

module _ {R : Type 0} (extent : R → ℕ) (image : R → Image) (p q : OpenedState R) (e : Entry) (ws : List MinorWrite) (x : Stored) (none : HasNoneOf extent image p e ws x) where
  pub versions_may : AllMayCome extent image p e ws x
  versions_may = record { stands = none.stands; layout = none.layout; new = none.new; unlisted = none.unlisted; leased = none.leased; unseen = all_unseen x e ws (absent_all e.attempt (things x.1) none.absent) }

  module _ (have : AllHaveCome extent image q e ws x) (same : IsSamePool p.table q.table) (lease : q.table.header.lease ≡ p.table.header.lease) (form : MayBePrepared p.table.header.targets e ws) where
    pub entry_may : MayEnter extent image q e have.now
    entry_may = record {
      stands = have.stands;
      absent = subst (λ (g : Entries). has_entry_at e.attempt (things g) ≡ false) (sym have.entries) none.absent;
      unlisted = subst (λ (g : Entries). ListNothing g) (sym have.entries) none.unlisted;
      leader = subst (λ (n : ℕ). e.leader < n) (sym same.targets) form.leader;
      members = subst (λ (n : ℕ). e.members < 2 ^ n) (sym same.targets) form.members;
      unconfirmed = form.unconfirmed;
      leased = let low = none.leased in omega (arith, low, lease);
    }

    is_prepared : (y : Stored) → y.0 ≡ have.now.0 → HasMore (record { entry = e; nodes = [] }) (listings have.now.1) (listings y.1) → IsPrepared e ws x have.now y
    is_prepared y objects entered = record { counted = none.counted; come = have.versions; entries = have.entries; objects = objects; entered = entered; new = none.new; absent = none.absent; undecided = form.undecided }

    pub entry_prepares : EntryMakes q.table e have.now (prepared e ws)
    entry_prepares y objects entered = (entries_prepare e ws x have.now y q.table (is_prepared y objects entered)).0

    pub tidy_then : (tells : Bool) (n : OpenedState R) → IsSamePool q.table n.table → HasEntered extent image n e have.now → IfTidy tells extent image n
    tidy_then tells n again entered tell going =
        let k = is_prepared entered.now entered.objects entered.entries in
        record {
          stored = entered.now;
          stands = entered.stands;
          layout = again.layout ∙ (same.layout ∙ none.layout);
          counted = (entries_prepare e ws x have.now entered.now q.table k).1;
          unlisted = none_listed_then x have.now entered.now e have.entries entered.entries none.unlisted;
          few = few_then e ws x have.now entered.now k form.few none.few;
        }

-- a quiet call that stopped has made none of a change
pub stopped_makes : (stopped : Bool) (change : Durable → Durable) (r : Result (Unit {0}) Stopped) (bad : Stopped) (old new : Option Durable) (may may' : Durable → Type 0) → r ≡ Err bad → IsQuietCall r old new may may' → Makes {T = Unit {0}} stopped always_stop change (Err bad) old new may may'
stopped_makes stopped change r bad old new may may' is m = record { told = m.told; done = tt; refused = λ no. absurd (clash false no refl); left = λ x found. inl (m.left x found) }

pub on_ok : {T E : Type 0} (A B : Type 0) (r : Result T E) → OnOk r A → (A → B) → OnOk r B
on_ok A B (Ok x) a h = h a
on_ok A B (Err e) a h = tt
