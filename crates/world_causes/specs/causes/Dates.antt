-- The epoch of a request, and what is within the limit.
use Rattle.std.specs.Prelude.{ℕ, ◌≡◌, ◌≤◌, ◌<◌, ◌+◌, ◌*◌, ◌/◌, ◌^◌, ◌++◌, min, max, nat_le, Bool, true, false, List, [], ◌∷◌, length, Contains, Option, Some, None, refl, if◌then◌else◌}
use Rattle.std.specs.Option.{option_map}
use Rattle.std.proofs.Common.{append-nil, sym, ap, subst, arith}
use Rattle.std.proofs.lemmas.Bool.Decides.{nat_tests}
use Rattle.std.proofs.lemmas.List.{length-append}
use Rattle.std.proofs.lemmas.List.Elements.{Contains-append_left, Contains-push}
use Rattle.base_types.specs.declared.epoch.Epoch.{Epoch}
use Rattle.base_types.specs.declared.id.AttemptId.{AttemptId}
use Rattle.base_types.specs.Epochs.{heard_ticks, issued_ticks, last_ticks}
use Rattle.base_types.specs.declared.report.Line.{Line}
use Rattle.daos_model.specs.Opening.{Opening, top}
use Rattle.daos_model.specs.Stops.{restart_numbers}
use Rattle.world_base.specs.declared.target.TargetMemory.{TargetMemory}
use Rattle.world_base.specs.declared.target.TargetPlan.{TargetPlan}
use Rattle.world_base.specs.Events.{listed}
use Rattle.world_base.specs.Reads.{uncertain_from}
use Rattle.world_base.specs.Requests.{epoch_of_ticks, issued_for, request_epoch}
use Rattle.world_causes.specs.causes.Causes.{Dated, limit}
use Rattle.world_causes.specs.causes.Premises.{IsRequest}
use Rattle.world_causes.specs.causes.Shown.{IsFirstEpoch, IsFirstOf, limit_over}

-- ---- the limit

plain-more : (o : Opening) (issued more : Dated) → limit o (issued ++ more) ≡ limit o issued + length more
plain-more o issued more = plus (max (2 ^ 55) o.lease) (length issued) (length more) (length-append issued more)
  where
    plus : (a b c : ℕ) → length (issued ++ more) ≡ b + c → a + length (issued ++ more) ≡ a + b + c
    plus a b c e = omega (arith, e)

pub limit-more : (o : Opening) (lines : List Line) (issued more : Dated) → limit_over o lines (issued ++ more) ≡ limit_over o lines issued + length more
limit-more o lines issued more = by (limit o (issued ++ more)) (limit o issued) (length more) (length (restart_numbers lines)) (plain-more o issued more)
  where
    by : (a b c n : ℕ) → a ≡ b + c → a + 65536 * n ≡ b + 65536 * n + c
    by a b c n e = omega (arith, e)

pub limit-rises : (o : Opening) (lines : List Line) (issued more : Dated) → limit_over o lines issued ≤ limit_over o lines (issued ++ more)
limit-rises o lines issued more = by (limit_over o lines issued) (limit_over o lines (issued ++ more)) (length more) (limit-more o lines issued more)
  where
    by : (a c b : ℕ) → c ≡ a + b → a ≤ c
    by a c b e = omega (arith, e)

-- the clock's last reading is within it
reading-within : (o : Opening) (lines : List Line) (issued : Dated) → 2 ^ 55 ≤ limit_over o lines issued
reading-within o lines issued = by (2 ^ 55) o.lease (length issued) (length (restart_numbers lines))
  where
    by : (a b c n : ℕ) → a ≤ max a b + c + 65536 * n
    by a b c n = omega arith

pub heard-within : (n e b : ℕ) → n ≤ b → e / 256 ≤ b → heard_ticks n e ≤ b
heard-within n e b low k = by (e / 256) k
  where
    by : (f : ℕ) → f ≤ b → max n f ≤ b
    by f k = omega (arith, low, k)

-- ---- ticks that are issued

-- they are above the tracker's, and at most one above all within a bound
ticks-next : (ticks reading tracker last b : ℕ) → ticks ≤ b → tracker / 256 ≤ b → last ≤ b → (tracker / 256 < max (max (ticks + 1) (min reading last)) (tracker / 256 + 1)) × (max (max (ticks + 1) (min reading last)) (tracker / 256 + 1) ≤ b + 1)
ticks-next ticks reading tracker last b p q s = by (tracker / 256) q
  where
    by : (k : ℕ) → k ≤ b → (k < max (max (ticks + 1) (min reading last)) (k + 1)) × (max (max (ticks + 1) (min reading last)) (k + 1) ≤ b + 1)
    by k q = (omega (arith, p, q, s), omega (arith, p, q, s))

issued-within : (ticks reading tracker b : ℕ) → ticks ≤ b → tracker / 256 ≤ b → 2 ^ 55 ≤ b → (tracker / 256 < issued_ticks ticks reading tracker) × (issued_ticks ticks reading tracker ≤ b + 1)
issued-within ticks reading tracker b p q s = ticks-next ticks reading tracker (2 ^ 55) b p q s

-- what is known of the epoch with which a request is heeded
pub record IsDated (o : Opening) (issued : Dated) (lines : List Line) (x : AttemptId) (ep first : Option Epoch) (e : Epoch) : Type 0 where
  pub its : Contains (issued ++ listed (issued_for x ep e)) (x, e)
  pub within : e.0 / 256 ≤ limit_over o lines (issued ++ listed (issued_for x ep e))
  pub above : top o < e.0
  pub begun : (f : Epoch) × IsFirstEpoch (issued ++ listed (issued_for x ep e)) lines x f × (uncertain_from first e ≡ f.0)

last-is-there : (issued : Dated) (i : AttemptId × Epoch) → Contains (issued ++ i ∷ []) i
last-is-there issued i = Contains-push issued i

-- the first epoch of a command is known, or it is this one
pub begun-first : (issued more : Dated) (lines : List Line) (x : AttemptId) (first : Option Epoch) (e : Epoch) → IsFirstOf issued lines x first → Contains (issued ++ more) (x, e)
    → (f : Epoch) × IsFirstEpoch (issued ++ more) lines x f × (uncertain_from first e ≡ f.0)
begun-first issued more lines x None e known its = (e, record { number = x.attempt; early = omega arith; its = its; lost = known }, refl)
begun-first issued more lines x (Some f) e known its =
    (f, record { number = known.number; early = known.early; its = Contains-append_left issued more (record x { attempt = known.number }, f) known.its; lost = known.lost }, refl)

epoch-is-new : (o : Opening) (issued : Dated) (lines : List Line) (x : AttemptId) (first : Option Epoch) (tracker e : Epoch) (me n : ℕ) → me < 256 → e.0 ≡ n * 256 + me → tracker.0 / 256 < n → n ≤ limit_over o lines issued + 1 → top o ≤ tracker.0
    → IsFirstOf issued lines x first → IsDated o issued lines x None first e
epoch-is-new o issued lines x first tracker e me n few is above low top-low known = record {
  its = last-is-there issued (x, e);
  within = subst (λ m. e.0 / 256 ≤ m) (sym (limit-more o lines issued ((x, e) ∷ []))) (quotient (limit_over o lines issued) low);
  above = over (top o) top-low;
  begun = begun-first issued ((x, e) ∷ []) lines x first e known (last-is-there issued (x, e));
}
  where
    quotient : (b : ℕ) → n ≤ b + 1 → e.0 / 256 ≤ b + 1
    quotient b low = omega (arith, is, low, few)

    over : (a : ℕ) → a ≤ tracker.0 → a < e.0
    over a k = omega (arith, is, above, k)

pub request-dated : (o : Opening) (issued : Dated) (lines : List Line) (x : AttemptId) (ep first : Option Epoch) (tracker : Epoch) (t : TargetPlan) (m : TargetMemory) (reading : ℕ) (e : Epoch) → t.me < 256 → m.ticks ≤ limit_over o lines issued
    → IsRequest o issued lines x ep first tracker → request_epoch t m reading tracker ep ≡ Some e → IsDated o issued lines x ep first e
request-dated o issued lines x (Some own) first tracker t m reading e few low q h = subst (λ f. IsDated o issued lines x (Some own) first f) same (record {
  its = Contains-append_left issued [] (x, own) k.0;
  within = subst (λ is. own.0 / 256 ≤ limit_over o lines is) (sym (append-nil issued)) k.2;
  above = k.1;
  begun = begun-first issued [] lines x first own q.known (Contains-append_left issued [] (x, own) k.0);
})
  where
    same : own ≡ e
    same = cc

    k : Contains issued (x, own) × (top o < own.0) × (own.0 / 256 ≤ limit_over o lines issued)
    k = q.own own refl
request-dated o issued lines x None first tracker t m reading e few low q h = by (nat_le n last_ticks) refl h
  where
    n : ℕ
    n = issued_ticks m.ticks reading tracker.0

    found : epoch_of_ticks t.me n ≡ e → IsDated o issued lines x None first e
    found same =
        let k : (tracker.0 / 256 < n) × (n ≤ limit_over o lines issued + 1) = issued-within m.ticks reading tracker.0 (limit_over o lines issued) low q.tracked (reading-within o lines issued) in
        epoch-is-new o issued lines x first tracker e t.me n few (sym (ap (λ z. z.0) same)) k.0 k.1 (q.fresh refl).1 q.known

    by : (b : Bool) → nat_le n last_ticks ≡ b → option_map (epoch_of_ticks t.me) (if b then Some n else None) ≡ Some e → IsDated o issued lines x None first e
    by true p k = found (cc)
    by false p k = let no : ⊥ = cc in absurd no

-- where there is none, the ticks are spent
pub request-spent : (o : Opening) (issued : Dated) (lines : List Line) (x : AttemptId) (ep first : Option Epoch) (tracker : Epoch) (t : TargetPlan) (m : TargetMemory) (reading : ℕ) → m.ticks ≤ limit_over o lines issued
    → IsRequest o issued lines x ep first tracker → request_epoch t m reading tracker ep ≡ None → (ep ≡ None) × (last_ticks < limit_over o lines issued + 1)
request-spent o issued lines x (Some own) first tracker t m reading low q h = let no : ⊥ = cc in absurd no
request-spent o issued lines x None first tracker t m reading low q h = (refl, by (nat_le n last_ticks) refl h)
  where
    n : ℕ
    n = issued_ticks m.ticks reading tracker.0

    past : (k last b : ℕ) → nat_le k last ≡ false → k ≤ b → last < b
    past k last b p l =
        let q : last < k = grind (arith, nat_tests) in
        omega (arith, q, l)

    by : (b : Bool) → nat_le n last_ticks ≡ b → option_map (epoch_of_ticks t.me) (if b then Some n else None) ≡ None → last_ticks < limit_over o lines issued + 1
    by true p k = let no : ⊥ = cc in absurd no
    by false p k = past n last_ticks (limit_over o lines issued + 1) p (issued-within m.ticks reading tracker.0 (limit_over o lines issued) low q.tracked (reading-within o lines issued)).1
