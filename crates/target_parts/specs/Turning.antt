-- A turn in parts: steps follow one another to an ending, or to where the turn was cut.
use Rattle.std.proofs.Common.{ℕ, ◌≡◌, ◌≤◌, ◌+◌, refl, sym, subst, Option, Some, None, true, Result, Err, arith}
use Rattle.daos_model.specs.declared.durable.Durable.{Durable}
use Rattle.vos_store.specs.Calls.{Looks, State}
use Rattle.world_contents.specs.world_base.Changes.{Change, Kept, cost, made}
use Rattle.world_contents.specs.world_base.Turns.{CutShort, InChange, InQuestion, More, Reached, Whole}
use Rattle.target_parts.specs.declared.halt.Halt.{Halt}
use Rattle.target_parts.specs.declared.halt.Halt.TheVariants as halt
use Rattle.target_parts.specs.Parts.{Asks, Now, Part, Partway, Stays, WasAsked, WasCut, kept, left_by}
use Rattle.world_contents.specs.world_base.PathLaws.{path-on, reached-here}

-- ---- steps

-- a silent step more
pub reached_silent : {S : Type 0} (Next : S → Kept → Option Change → S → Type 0) (start : S) (old : Kept) (t : S) (l : Kept) (u : S)
    → Reached Next start old t l → Next t l None u → Reached Next start old u l
reached_silent Next start old t l u r n = record { did = _; path = More r.did t l None u l r.path n refl }

-- a change more
pub reached_change : {S : Type 0} (Next : S → Kept → Option Change → S → Type 0) (start : S) (old : Kept) (t : S) (l : Kept) (c : Change) (u : S) (m : Kept)
    → Reached Next start old t l → Next t l (Some c) u → m.durable ≡ made c l.durable → l.free ≤ m.free + cost c → Reached Next start old u m
reached_change Next start old t l c u m r n is free = record { did = _; path = More r.did t l (Some c) u m r.path n (is, free) }

pub reached_on : {S : Type 0} (Next : S → Kept → Option Change → S → Type 0) (s : S) (k : Kept) (t : S) (l : Kept) (u : S) (m : Kept)
    → Reached Next s k t l → Reached Next t l u m → Reached Next s k u m
reached_on Next s k t l u m a b = record { did = _; path = path-on Next s k a.did t l b.did u m a.path b.path }

-- ---- endings

pub whole : {S R : Type 0} (Next : S → Kept → Option Change → S → Type 0) (Ends : S → Kept → R → Type 0) (start : S) (old new : Kept) (last : S) (r : R)
    → Reached Next start old last new → Ends last new r → Whole Next Ends start old new r
whole Next Ends start old new last r reached ends = record { last = last; reached = reached; ends = ends }

pub cut_in_question : {S : Type 0} (Next : S → Kept → Option Change → S → Type 0) (start : S) (old : Kept) (last : S) (mid : Kept) (finds : Kept → Type 0)
    → Reached Next start old last mid → WasAsked mid finds → CutShort Next start old finds
cut_in_question Next start old last mid finds r asked = record { last = last; mid = mid; reached = r; cut = InQuestion asked }

pub cut_in_change : {S : Type 0} (Next : S → Kept → Option Change → S → Type 0) (start : S) (old : Kept) (last : S) (mid : Kept) (c : Change) (t : S) (finds : Kept → Type 0)
    → Reached Next start old last mid → Next last mid (Some c) t → WasCut c mid finds → CutShort Next start old finds
cut_in_change Next start old last mid c t finds r n cut = record { last = last; mid = mid; reached = r; cut = InChange c t n cut }

pub cut_on : {S : Type 0} (Next : S → Kept → Option Change → S → Type 0) (s t : S) (k l : Kept) (finds : Kept → Type 0)
    → Reached Next s k t l → CutShort Next t l finds → CutShort Next s k finds
cut_on Next s t k l finds a c = record { last = c.last; mid = c.mid; reached = reached_on Next s k t l c.last c.mid a c.reached; cut = c.cut }

-- ---- what is kept now

-- where nothing was changed, what held of what is kept holds
pub now_stays : (P : Kept → Type 0) (d : Durable) (h k : State) (new : Option Durable) → Stays d h new k → P (kept d h) → P (kept d k)
now_stays P d h k new s p = subst (λ f. P (record { durable = d; free = f })) (sym s.free) p

-- a part of a turn that was cut
pub part_cut : {S U : Type 0} (Next : S → Kept → Option Change → S → Type 0) (start : S) (old : Kept) (Done : U → Kept → Type 0) (new : Option Durable) (k : State) (finds : Durable → Type 0) (y : Result U Halt)
    → y ≡ Err halt.Stopped → CutShort Next start old (left_by k finds) → Part Next start old Done new k finds y
part_cut Next start old Done new k finds y is cut = subst (λ r. Part Next start old Done new k finds r) (sym is) cut

pub part_same : {S U : Type 0} (Next : S → Kept → Option Change → S → Type 0) (start : S) (old : Kept) (Done : U → Kept → Type 0) (new : Option Durable) (k : State) (finds : Durable → Type 0) (y z : Result U Halt)
    → y ≡ z → Part Next start old Done new k finds z → Part Next start old Done new k finds y
part_same Next start old Done new k finds y z is part = subst (λ r. Part Next start old Done new k finds r) (sym is) part

-- memory was wanting at the start
pub now_partway : {S : Type 0} (Next : S → Kept → Option Change → S → Type 0) (start : S) (d : Durable) (h k : State) (new : Option Durable) → Stays d h new k → Now new k (Partway Next start (kept d h))
now_partway Next start d h k new s = record {
  durable = d;
  kept_is = s.kept_is;
  holds = record { last = start; reached = now_stays (λ l. Reached Next start (kept d h) start l) d h k new s (reached-here Next start (kept d h)) };
}

-- memory was wanting before anything more was done
pub part_memory : {S U : Type 0} (Next : S → Kept → Option Change → S → Type 0) (start last : S) (old : Kept) (Done : U → Kept → Type 0) (d : Durable) (k : State) (new : Option Durable) (finds : Durable → Type 0) (y : Result U Halt)
    → y ≡ Err halt.Memory → new ≡ Some d → Reached Next start old last (kept d k) → Part Next start old Done new k finds y
part_memory Next start last old Done d k new finds y is at r =
    subst (λ z. Part Next start old Done new k finds z) (sym is) (record { durable = d; kept_is = at; holds = record { last = last; reached = r } })

-- a question that isn't answered, in a part of a turn
pub part_asked : {S T U : Type 0} (Next : S → Kept → Option Change → S → Type 0) (start last : S) (old : Kept) (Done : U → Kept → Type 0) (P : T → Type 0) (d : Durable) (h k : State) (new : Option Durable) (finds : Durable → Type 0) (e : Halt) (y : Result U Halt)
    → y ≡ Err e → Reached Next start old last (kept d h) → Asks P d h new k finds (Err e) → Part Next start old Done new k finds y
part_asked Next start last old Done P d h k new finds e y is r asks = subst (λ z. Part Next start old Done new k finds z) (sym is) (by e asks)
  where
    by : (e : Halt) → Asks P d h new k finds (Err e) → Part Next start old Done new k finds (Err e)
    by halt.Stopped asks = cut_in_question Next start old last (kept d h) (left_by k finds) r asks
    by halt.Memory asks = record {
      durable = d;
      kept_is = asks.kept_is;
      holds = record { last = last; reached = now_stays (λ l. Reached Next start old last l) d h k new asks r };
    }

no-fewer : (h k x : ℕ) → h ≤ k + 0 → x ≡ k → h ≤ x
no-fewer h k x le is = omega arith

pub was_asked : (d : Durable) (h k : State) (old new : Option Durable) (may finds : Durable → Type 0) → ((x : Durable) → may x → x ≡ d) → Looks true old new may finds → h.free ≤ k.free + 0 → WasAsked (kept d h) (left_by k finds)
was_asked d h k old new may finds steady looks free x found = (steady x.durable (looks.left x.durable found.0), no-fewer h.free k.free x.free free found.1)
