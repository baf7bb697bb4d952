-- Calls of a store, one after another.
use Rattle.std.proofs.Common.{ℕ, ◌≡◌, ◌≤◌, inl, inr, refl, sym, ◌∙◌, subst, Bool, true, false, ◌&&◌, Option, Some, None, is_some, Result, arith}
use Rattle.std.specs.Option.{ForSome}
use Rattle.base_outside.specs.Causes.{Rose}
use Rattle.daos_model.specs.declared.durable.Durable.{Durable}
use Rattle.vos_store.specs.Calls.{Ailed, Fires, IsUnfailing, State, Turns}
use Rattle.vos_store.specs.Refusals.{says}
use Rattle.vos_store.specs.Unfailing.{RunsOn, runs-on}
use Rattle.target_parts.specs.Parts.{Runs, StillRuns}

fires_on : (h m k : State) → m.tells_fuse ≡ h.tells_fuse → Fires h m → Fires m k → Fires h k
fires_on h m k tells (inl a) (inl b) = inl (b.0 ∙ a.0, b.1 ∙ a.1)
fires_on h m k tells (inl a) (inr b) = inr (sym a.1 ∙ b.0, subst (λ t. (t && k.fused) ≡ false) tells b.1)
fires_on h m k tells (inr a) (inl b) = inr (a.0, subst (λ f. (h.tells_fuse && f) ≡ false) (sym b.1) a.1)
fires_on h m k tells (inr a) (inr b) = inr (a.0, subst (λ t. (t && k.fused) ≡ false) tells b.1)

rose_on : (h m k : ℕ) → h ≤ m → Rose m k → Rose h k
rose_on h m k le rose = omega arith

ailed_on : (h m k : State) → m.tells_fuse ≡ h.tells_fuse → h.faults ≤ m.faults → h.burns ≤ m.burns → Fires h m → Ailed m k → Ailed h k
ailed_on h m k tells faults burns fires (inl rose) = inl (rose_on h.faults m.faults k.faults faults rose)
ailed_on h m k tells faults burns fires (inr burnt) =
    inr (rose_on h.burns m.burns k.burns burns burnt.0, set fires, subst (λ t. (t && k.fused) ≡ false) tells burnt.2)
  where
    set : Fires h m → h.fused ≡ true
    set (inl a) = sym a.1 ∙ burnt.1
    set (inr a) = a.0

-- a store that ran on runs on
pub unfailing-on : (h m k : State) → (IsUnfailing h → RunsOn h m) → (IsUnfailing m → RunsOn m k) → IsUnfailing h → RunsOn h k
unfailing-on h m k first more u =
    let a = first u in
    let b = more a.still in
    record { runs = b.runs; faults = b.faults ∙ a.faults; burns = b.burns ∙ a.burns; still = b.still }

-- further calls of a store that still runs
pub runs_on : {T E : Type 0} (stop : E → Bool) (result : Result T E) (h m k : State) (old mid new : Option Durable)
    → StillRuns h m old mid → Runs stop result m k mid new → Runs stop result h k old new
runs_on stop result h m k old mid new a b =
    let faults : h.faults ≤ k.faults = (let x = a.faults in let y = b.faults in omega arith) in
    let burns : h.burns ≤ k.burns = (let x = a.burns in let y = b.burns in omega arith) in
    record {
      faults = faults;
      burns = burns;
      fuse = fires_on h m k a.tells_fuse a.fuse b.fuse;
      tells_fuse = b.tells_fuse ∙ a.tells_fuse;
      may_fail = b.may_fail ∙ a.may_fail;
      sure = λ off. b.sure (a.may_fail ∙ off) ∙ a.sure off;
      unfailing = unfailing-on h m k a.unfailing b.unfailing;
      stops = b.stops;
      cause = λ s. ailed_on h m k a.tells_fuse a.faults a.burns a.fuse (b.cause s);
      targets = b.targets ∙ a.targets;
      opening = b.opening ∙ a.opening;
      told = b.told ∙ a.told;
    }

-- where Stopped wasn't answered it still runs
pub still_runs : {T E : Type 0} (stop : E → Bool) (result : Result T E) (h k : State) (old new : Option Durable) → says stop result ≡ false → Runs stop result h k old new → StillRuns h k old new
still_runs stop result h k old new going r = record {
  faults = r.faults;
  burns = r.burns;
  fuse = r.fuse;
  tells_fuse = r.tells_fuse;
  may_fail = r.may_fail;
  sure = r.sure;
  unfailing = r.unfailing;
  stops = r.stops ∙ going;
  cause = λ s. absurd (let n : ⊥ = cc in n);
  targets = r.targets;
  opening = r.opening;
  told = r.told;
}

-- a result that answers Stopped in the same case
pub runs_as : {T E U F : Type 0} (stop : E → Bool) (result : Result T E) (other : F → Bool) (said : Result U F) (h k : State) (old new : Option Durable) → says other said ≡ says stop result → Runs stop result h k old new → Runs other said h k old new
runs_as stop result other said h k old new same r = record {
  faults = r.faults;
  burns = r.burns;
  fuse = r.fuse;
  tells_fuse = r.tells_fuse;
  may_fail = r.may_fail;
  sure = r.sure;
  unfailing = r.unfailing;
  stops = r.stops ∙ sym same;
  cause = λ s. r.cause (sym same ∙ s);
  targets = r.targets;
  opening = r.opening;
  told = r.told;
}

-- before any call
pub runs_first : (h : State) (old : Option Durable) → h.stopped ≡ false → StillRuns h h old old
runs_first h old running = record {
  faults = omega arith;
  burns = omega arith;
  fuse = inl (refl, refl);
  tells_fuse = refl;
  may_fail = refl;
  sure = λ off. refl;
  unfailing = λ u. record { runs = running; faults = refl; burns = refl; still = u };
  stops = running;
  cause = λ s. absurd (let n : ⊥ = cc in n);
  targets = refl;
  opening = refl;
  told = refl;
}

-- one call
pub runs_call : {T E : Type 0} (cost : ℕ) (stop : E → Bool) (result : Result T E) (h k : State) (old new : Option Durable) → h.stopped ≡ false → Turns cost stop result h k → is_some new ≡ is_some old → Runs stop result h k old new
runs_call cost stop result h k old new running t told = record {
  faults = t.faults;
  burns = t.burns;
  fuse = t.fuse;
  tells_fuse = t.tells_fuse;
  may_fail = t.may_fail;
  sure = t.sure;
  unfailing = λ u. (runs-on cost stop result h k t u running).1;
  stops = t.stops;
  cause = t.cause running;
  targets = t.targets;
  opening = t.opening;
  told = told;
}

-- what is told now was told before
pub for_some_on : (old new : Option Durable) (P : Durable → Type 0) → is_some new ≡ is_some old → ((d : Durable) → old ≡ Some d → (x : Durable) × (new ≡ Some x) × P x) → ForSome new P
for_some_on None (Some x) P told by y is = absurd (let n : ⊥ = cc in n)
for_some_on old None P told by x is = absurd (let n : ⊥ = cc in n)
for_some_on (Some d) (Some y) P told by x is =
    let a = by d refl in
    let same : a.0 ≡ x = cc in
    subst P same a.2

-- what is told now was told before
pub told-before : (old new : Option Durable) → is_some new ≡ is_some old → (x : Durable) → new ≡ Some x → (d : Durable) × (old ≡ Some d)
told-before None (Some y) told x is = absurd (let n : ⊥ = cc in n)
told-before old None told x is = absurd (let n : ⊥ = cc in n)
told-before (Some d) (Some y) told x is = (d, refl)
