-- Versions that come one after another.
use Rattle.std.specs.Prelude.{IsTrue, OnErr, OnOk, Result, Ok, Err}
use Rattle.std.proofs.Common.{◌≡◌, ◌⊎◌, ℕ, ◌≤◌, Bool, true, false, List, [], ◌∷◌, refl, sym, ap, ◌∙◌, subst, arith, inl, inr}
use Rattle.base_outside.specs.Causes.{Rose}
use Rattle.base_outside.specs.Images.{Image}
use Rattle.base_types.specs.declared.entry.Entry.{Entry}
use Rattle.base_types.specs.declared.operation.MinorWrite.{MinorWrite}
use Rattle.daos_model.specs.declared.durable.Version.{Version}
use Rattle.daos_model.specs.Durables.{version_key}
use Rattle.daos_model.specs.Versions.{version_of, versions_of}
use Rattle.pmem_pages.specs.Blocks.{Stops}
use Rattle.vos_entries.specs.Entries.{Entries, entries_in}
use Rattle.vos_fitting.specs.Fitting.{ListNothing}
use Rattle.vos_image.specs.Kept.{Stored, counts}
use Rattle.vos_path.specs.Objects.{objects_versions}
use Rattle.vos_pool_base.specs.Pool.{OpenedState}
use Rattle.vos_pool_base.specs.Tidy.{IsSamePool}
use Rattle.vos_pool_write.specs.Coming.{HasCome, MayCome}
use Rattle.vos_pool_write.specs.Several.{AllHaveCome, AllMayCome, AllUnseen, stamp_of}
use Rattle.vos_pool_write.proofs.Lists.{still_new, turned}
use Rattle.vos_store.specs.declared.refusal.Stopped.{Stopped}

unseen_as : (x y : Stored) (e : Entry) (ws : List MinorWrite) → y.1 ≡ x.1 → AllUnseen x e ws → AllUnseen y e ws
unseen_as x y e [] same h = tt
unseen_as x y e (w ∷ ws) same h = (ap (λ (g : Entries). counts (entries_in g) (version_of e w)) same ∙ h.0, unseen_as x y e ws same h.1)

module _ {R : Type 0} (extent : R → ℕ) (image : R → Image) (p q : OpenedState R) (e : Entry) (w : MinorWrite) (ws : List MinorWrite) (x : Stored) where
  pub first_may : AllMayCome extent image p e (w ∷ ws) x → MayCome extent image p (stamp_of e w) w.write x
  first_may h = record { stands = h.stands; layout = h.layout; new = h.new.0; unlisted = h.unlisted; leased = h.leased; unseen = h.unseen.0 }

  pub others_may : AllMayCome extent image p e (w ∷ ws) x → (c : HasCome extent image q (stamp_of e w) w.write x) → IsSamePool p.table q.table → q.table.header.lease ≡ p.table.header.lease → AllMayCome extent image q e ws c.now
  others_may h c same lease = record {
    stands = c.stands;
    layout = same.layout ∙ h.layout;
    new = still_new Version version_key (versions_of e ws) (objects_versions x.0) (objects_versions c.now.0) (version_of e w) c.versions (turned Version version_key (versions_of e ws) (version_of e w) h.new.1.0) h.new.1.1;
    unlisted = subst (λ (g : Entries). ListNothing g) (sym c.entries) h.unlisted;
    leased = let low = h.leased in omega (arith, low, lease);
    unseen = unseen_as x c.now e ws c.entries h.unseen.1;
  }

  pub all_have : (r : OpenedState R) → (c : HasCome extent image q (stamp_of e w) w.write x) → AllHaveCome extent image r e ws c.now → AllHaveCome extent image r e (w ∷ ws) x
  all_have r c d = record { now = d.now; stands = d.stands; entries = d.entries ∙ c.entries; versions = (objects_versions c.now.0, (c.versions, d.versions)) }

pub none_have : {R : Type 0} (extent : R → ℕ) (image : R → Image) (p : OpenedState R) (e : Entry) (x : Stored) → AllMayCome extent image p e [] x → AllHaveCome extent image p e [] x
none_have extent image p e x h = record { now = x; stands = h.stands; entries = refl; versions = refl }

-- ---- whether it stopped

rose_after : (a b c : ℕ) → a ≤ b → Rose b c → Rose a c
rose_after a b c low rose = grind (arith, low, rose)

-- a call that went well, and then another
pub stops_then : (s t u : Bool) (a b c i j k : ℕ) (r : Result (Unit {0}) Stopped) → s ≡ false → Stops {T = Unit {0}} {E = Stopped} s t a b i j (Ok (tt {0})) → Stops t u b c j k r → Stops s u a c i k r
stops_then s t u a b c i j k r going first next = record {
  later_faults = let one = first.later_faults in let two = next.later_faults in omega (arith, one, two);
  later_burns = let one = first.later_burns in let two = next.later_burns in omega (arith, one, two);
  cause = by r next.cause;
  stopped = next.stopped;
  again = λ on. let no : ⊥ = cc in absurd no;
  once = λ on. let no : ⊥ = cc in absurd no;
  went_on = after r next.went_on;
}
  where
    by : (q : Result (Unit {0}) Stopped) → OnErr q ((t ≡ true) ⊎ (Rose b c ⊎ Rose j k)) → OnErr q ((s ≡ true) ⊎ (Rose a c ⊎ Rose i k))
    by (Ok x) h = tt
    by (Err x) h = elim h [
      | inl on ↦ inl (first.went_on ∙ on)
      | inr rose ↦ elim rose [
        | inl faults ↦ inr (inl (rose_after a b c first.later_faults faults))
        | inr burns ↦ inr (inr (rose_after i j k first.later_burns burns))
      ]
    ]

    after : (q : Result (Unit {0}) Stopped) → OnOk q (t ≡ u) → OnOk q (s ≡ u)
    after (Ok x) h = first.went_on ∙ h
    after (Err x) h = tt

pub went_well : {T E : Type 0} {P : Type 0} (r : Result T E) (x : T) → r ≡ Ok x → OnOk r P → P
went_well (Ok y) x is h = h
went_well (Err e) x is h = let no : ⊥ = cc in absurd no

pub all_come : {R : Type 0} (extent : R → ℕ) (image : R → Image) (p q n : OpenedState R) (e : Entry) (w : MinorWrite) (ws : List MinorWrite) (tells : Bool) (r : Result (Unit {0}) Stopped) → IsSamePool p.table q.table → q.table.header.lease ≡ p.table.header.lease
    → (IsTrue tells → (x : Stored) → MayCome extent image p (stamp_of e w) w.write x → HasCome extent image q (stamp_of e w) w.write x)
    → OnOk r (IsTrue tells → (x : Stored) → AllMayCome extent image q e ws x → AllHaveCome extent image n e ws x) → OnOk r (IsTrue tells → (x : Stored) → AllMayCome extent image p e (w ∷ ws) x → AllHaveCome extent image n e (w ∷ ws) x)
all_come extent image p q n e w ws tells (Err bad) same lease first next = tt
all_come extent image p q n e w ws tells (Ok o) same lease first next = λ tell x h.
    let c = first tell x (first_may extent image p q e w ws x h) in
    all_have extent image p q e w ws x n c (next tell c.now (others_may extent image p q e w ws x h c same lease))
