-- Calls of one store, one after another.
use Rattle.std.specs.Prelude.{◌≡◌, Bool, false, [], Option, Some, None, Result, Ok, Err, OnOk}
use Rattle.std.specs.Option.{option_map}
use Rattle.std.proofs.Common.{refl, ◌∙◌, ap, subst, arith}
use Rattle.daos_model.specs.declared.durable.Durable.{Durable}
use Rattle.vos_store.specs.Calls.{Makes, State, Turns}
use Rattle.vos_store.specs.Refusals.{says}
use Rattle.target_parts.specs.Running.{runs_as, runs_call, runs_first, runs_on, still_runs}
use Rattle.run_opening.specs.Steps.{Goes, same}

pub on-ok : {T E : Type 0} {P Q : Type 0} (result : Result T E) → (P → Q) → OnOk result P → OnOk result Q
on-ok (Ok x) f p = f p
on-ok (Err e) f p = tt

pub on-any : {T E : Type 0} {P : Type 0} (result : Result T E) → P → OnOk result P
on-any (Ok x) p = p
on-any (Err e) p = tt

map-twice : (f g : Durable → Durable) (o : Option Durable) → option_map f (option_map g o) ≡ option_map (λ d. f (g d)) o
map-twice f g None = refl
map-twice f g (Some d) = refl

map-itself : (o : Option Durable) → o ≡ option_map same o
map-itself None = refl
map-itself (Some d) = refl

-- before any call, and where none is made
pub goes-first : {T E : Type 0} (stop : E → Bool) (x : T) (h : State) (old : Option Durable) → h.stopped ≡ false → Goes stop same (Ok x) h h old old
goes-first stop x h old running = record {
  runs = runs_as _ _ stop (Ok x) h h old old refl (runs_first h old running);
  free = omega arith;
  made = map-itself old;
  still = λ d is none. (refl, none);
}

-- a further call
pub goes-on : {T E U F : Type 0} (stop : E → Bool) (x : T) (c : Durable → Durable) (other : F → Bool) (result : Result U F) (f : Durable → Durable) (h m k : State) (old mid new : Option Durable)
    → Goes stop c (Ok x) h m old mid → Goes other f result m k mid new → Goes other (λ d. f (c d)) result h k old new
goes-on stop x c other result f h m k old mid new a b = record {
  runs = runs_on other result h m k old mid new (still_runs stop (Ok x) h m old mid refl a.runs) b.runs;
  free = (let p = a.free in let q = b.free in omega arith);
  made = on-ok result (λ is. is ∙ ap (option_map f) a.made ∙ map-twice f c old) b.made;
  still = on-ok result (λ more d is none. (let p = a.still d is none in let q = more (c d) (a.made ∙ ap (option_map c) is) p.1 in (q.0 ∙ p.0, q.1))) b.still;
}

-- the same change, said in another way of what is kept
pub goes-as : {T E : Type 0} (stop : E → Bool) (result : Result T E) (c f : Durable → Durable) (h k : State) (old new : Option Durable) → ((d : Durable) → old ≡ Some d → c d ≡ f d)
    → Goes stop c result h k old new → Goes stop f result h k old new
goes-as stop result c f h k old new is a = record {
  runs = a.runs;
  free = a.free;
  made = on-ok result (λ e. e ∙ by old is) a.made;
  still = on-ok result (λ s d at none. (let p = s d at none in (p.0, subst (λ z. z.entries ≡ []) (is d at) p.1))) a.still;
}
  where
    by : (o : Option Durable) → ((d : Durable) → o ≡ Some d → c d ≡ f d) → option_map c o ≡ option_map f o
    by None is = refl
    by (Some d) is = ap (λ z. Some z) (is d refl)

-- a result that says the same
pub goes-so : {T E U F : Type 0} (stop : E → Bool) (result : Result T E) (other : F → Bool) (said : Result U F) (c : Durable → Durable) (h k : State) (old new : Option Durable)
    → says other said ≡ says stop result → ((P : Type 0) → OnOk result P → OnOk said P) → Goes stop c result h k old new → Goes other c said h k old new
goes-so stop result other said c h k old new same ok a = record { runs = runs_as stop result other said h k old new same a.runs; free = a.free; made = ok _ a.made; still = ok _ a.still }

-- one call that makes a change at no cost
pub goes-call : {T E : Type 0} (stop : E → Bool) (result : Result T E) (c : Durable → Durable) (h k : State) (old new : Option Durable) (may may' : Durable → Type 0) → h.stopped ≡ false
    → Turns 0 stop result h k → Makes h.stopped stop c result old new may may' → ((d : Durable) → old ≡ Some d → d.entries ≡ [] → (k.free ≡ h.free) × ((c d).entries ≡ [])) → Goes stop c result h k old new
goes-call stop result c h k old new may may' running t m still = record {
  runs = runs_call 0 stop result h k old new running t m.told;
  free = (let p = t.free in omega arith);
  made = m.done;
  still = on-any result still;
}

-- what is told now comes of what was told before
pub was : (c : Durable → Durable) (old new : Option Durable) (x : Durable) → new ≡ option_map c old → new ≡ Some x → (d : Durable) × (old ≡ Some d) × (x ≡ c d)
was c None new x made at = absurd (let no : ⊥ = cc in no)
was c (Some d) new x made at = (d, refl, let e : x ≡ c d = cc in e)
