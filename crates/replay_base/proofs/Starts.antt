-- A turn from its first step on.
use Rattle.std.proofs.Common.{Ok, Err, Result, ℕ, ◌≡◌, ◌≤◌, ◌+◌, refl, ap, subst, List, [], Bool, true, false, Option, Some, None, arith}
use Rattle.std.specs.Prelude.{IfOk}
use Rattle.std.specs.Bool.{Decides}
use Rattle.daos_model.specs.declared.durable.Durable.{Durable}
use Rattle.world_base.specs.Changes.{Change, Kept, Steps, cost, made}
use Rattle.world_base.specs.PathLaws.{reached-here, reached-more, whole-on}
use Rattle.world_base.specs.Turns.{Here, More, Path, Reached, Whole}
use Rattle.replay_base.specs.Leases.{IsCovered}
use Rattle.replay_base.specs.declared.leases.Covered.{Covered}
use Rattle.replay_base.specs.Onward.{FreeAfter, Iff, Onward, keeps}

-- ---- steps after steps

-- ---- the first step

-- steps are none, or there is a first one
pub data Starts {S : Type 0} (Next : S → Kept → Option Change → S → Type 0) (s : S) (k : Kept) (t : S) (l : Kept) : Type 0 where
  Nowhere : t ≡ s → l ≡ k → Starts Next s k t l
  Somewhere : (o : Option Change) (u : S) (m : Kept) → Next s k o u → Steps o k m → Reached Next u m t l → Starts Next s k t l

goes_on : {S : Type 0} (Next : S → Kept → Option Change → S → Type 0) (s : S) (k : Kept) (t : S) (l : Kept) (o : Option Change) (u : S) (m : Kept)
    → Next t l o u → Steps o l m → Starts Next s k t l → Starts Next s k u m
goes_on Next s k t l o u m next steps (Nowhere same_stage same_kept) =
    Somewhere o u m (subst (λ x. Next x k o u) same_stage (subst (λ x. Next t x o u) same_kept next)) (subst (λ x. Steps o x m) same_kept steps) (record { did = []; path = Here })
goes_on Next s k t l o u m next steps (Somewhere p v n first taken rest) =
    Somewhere p v n first taken (record { did = _; path = More rest.did t l o u m rest.path next steps })

starts : {S : Type 0} (Next : S → Kept → Option Change → S → Type 0) (s : S) (k : Kept) (did : List Change) (t : S) (l : Kept) → Path Next s k did t l → Starts Next s k t l
starts Next s k did t l Here = Nowhere refl refl
starts Next s k did u m (More before t l o _ _ path next steps) = goes_on Next s k t l o u m next steps (starts Next s k before t l path)

-- a turn ends at once, or makes a first step
pub data First {S R : Type 0} (Next : S → Kept → Option Change → S → Type 0) (Ends : S → Kept → R → Type 0) (s : S) (k new : Kept) (r : R) : Type 0 where
  AtOnce : new ≡ k → Ends s k r → First Next Ends s k new r
  Later : (o : Option Change) (u : S) (m : Kept) → Next s k o u → Steps o k m → Whole Next Ends u m new r → First Next Ends s k new r

pub first : {S R : Type 0} (Next : S → Kept → Option Change → S → Type 0) (Ends : S → Kept → R → Type 0) (s : S) (k new : Kept) (r : R) → Whole Next Ends s k new r → First Next Ends s k new r
first Next Ends s k new r w = by (starts Next s k w.reached.did w.last new w.reached.path)
  where
    by : Starts Next s k w.last new → First Next Ends s k new r
    by (Nowhere same_stage same_kept) = AtOnce same_kept (subst (λ x. Ends x k r) same_stage (subst (λ x. Ends w.last x r) same_kept w.ends))
    by (Somewhere o u m next steps rest) = Later o u m next steps (record { last = w.last; reached = rest; ends = w.ends })

-- ---- steps put before a turn

pub at_once : {S R : Type 0} (Next : S → Kept → Option Change → S → Type 0) (Ends : S → Kept → R → Type 0) (s : S) (k : Kept) (r : R) → Ends s k r → Whole Next Ends s k k r
at_once Next Ends s k r ends = record { last = s; reached = reached-here Next s k; ends = ends }

pub silent_first : {S R : Type 0} (Next : S → Kept → Option Change → S → Type 0) (Ends : S → Kept → R → Type 0) (s u : S) (k new : Kept) (r : R) → Next s k None u → Whole Next Ends u k new r → Whole Next Ends s k new r
silent_first Next Ends s u k new r next w = whole-on Next Ends s u k k new r (reached-more Next s k s k None u k (reached-here Next s k) next refl) w

pub change_first : {S R : Type 0} (Next : S → Kept → Option Change → S → Type 0) (Ends : S → Kept → R → Type 0) (s u : S) (k m new : Kept) (r : R) (c : Change)
    → Next s k (Some c) u → m.durable ≡ made c k.durable → k.free ≤ m.free + cost c → Whole Next Ends u m new r → Whole Next Ends s k new r
change_first Next Ends s u k m new r c next durable free w = whole-on Next Ends s u k m new r (reached-more Next s k s k (Some c) u m (reached-here Next s k) next (durable, free)) w

-- ---- free blocks

pub free_none : (changed : Bool) (free : ℕ) → FreeAfter changed free free
free_none true free = omega arith
free_none false free = refl

pub free_more : (changed : Bool) (free blocks more : ℕ) → FreeAfter changed free blocks → blocks ≤ more → FreeAfter true free more
free_more true free blocks more before le = omega arith
free_more false free blocks more before le = omega arith

pub free_least : (changed : Bool) (free more : ℕ) → FreeAfter true free more → (blocks : ℕ) × (FreeAfter changed free blocks × (blocks ≤ more))
free_least true free more le = (more, (le, omega arith))
free_least false free more le = (free, (refl, le))

pub durable_is : (k : Kept) (d : Durable) → k.durable ≡ d → k ≡ keeps d k.free
durable_is k d e = ap (λ x. keeps x k.free) e

-- ---- turns as a whole

pub whole_onward : {S R : Type 0} (Next : S → Kept → Option Change → S → Type 0) (Ends : S → Kept → R → Type 0) (s : S) (k new : Kept) (r : R)
    → Iff (Whole Next Ends s k new r) (Onward Next Ends s k.durable false k.free new r)
whole_onward Next Ends s k new r = (
  λ w. record { blocks = k.free; may = refl; turn = w },
  λ o. subst (λ n. Whole Next Ends s (keeps k.durable n) new r) o.may o.turn,
)

pub iff_both : {P Q R : Type 0} → Iff P Q → Iff Q R → Iff P R
iff_both a b = (λ p. b.0 (a.0 p), λ r. a.1 (b.1 r))

-- ---- as the code says it

pub if_ok : {T E : Type 0} (P Q : T → Type 0) (r : Result T E) → ((x : T) → P x → Q x) → IfOk r P → IfOk r Q
if_ok P Q (Ok x) goes p = goes x p
if_ok P Q (Err e) goes p = p

pub none_so : {P : Type 0} → (P → ⊥) → Decides false P
none_so bad = (λ e. let n : ⊥ = cc in absurd n, λ p. absurd (bad p))

pub all_so : {P : Type 0} → P → Decides true P
all_so p = (λ e. p, λ q. refl)

-- the same test of equal facts
pub covered_of : (ticks ticks' : ℕ) (d d' : Durable) (changed : Bool) (o p : Option Covered) → ticks ≡ ticks' → d ≡ d' → IsCovered ticks d changed o → o ≡ p → IsCovered ticks' d' changed p
covered_of ticks ticks' d d' changed o p at_ticks at_d is here = subst (λ n. IsCovered n d' changed p) at_ticks (subst (λ x. IsCovered ticks x changed p) at_d (subst (IsCovered ticks d changed) here is))
