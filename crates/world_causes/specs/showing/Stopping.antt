-- Openings, failed ones, targets that are given up, what is lost then, and numbers that are drawn keep that outcomes show their causes.
use Rattle.std.specs.Prelude.{ℕ, ◌≡◌, ◌≤◌, ◌+◌, ◌*◌, ◌/◌, ◌++◌, ◌⊎◌, Any, List, [], ◌∷◌, length, slice_get, Some, refl}
use Rattle.std.proofs.Common.{append-nil, inl, inr, sym, ◌∙◌, ap, subst, arith}
use Rattle.std.proofs.Math.ListN.{set}
use Rattle.std.proofs.lemmas.List.{length-append}
use Rattle.base_types.specs.declared.epoch.Epoch.{Epoch}
use Rattle.base_types.specs.declared.id.ContId.{ContId}
use Rattle.base_types.specs.declared.outcome.FloorWhy.{FloorWhy}
use Rattle.base_types.specs.declared.outcome.FloorWhy.TheVariants as why
use Rattle.base_types.specs.declared.report.Line.{Line}
use Rattle.base_types.specs.declared.report.Line.TheVariants as line
use Rattle.base_types.specs.Epochs.{restart_floor}
use Rattle.model_laws.specs.Members.{has-from_contains}
use Rattle.daos_model.specs.Attempts.{tries}
use Rattle.daos_model.specs.CausesShown.{ShowsFloor}
use Rattle.daos_model.specs.Changes.{reopened}
use Rattle.daos_model.specs.Opening.{Opening}
use Rattle.daos_model.specs.Stops.{restart_numbers}
use Rattle.world_base.specs.declared.target.Life.TheVariants.{Down, Running}
use Rattle.world_base.specs.declared.target.TargetState.{TargetState}
use Rattle.world_base.specs.declared.world.World.{World}
use Rattle.world_base.specs.Events.{Rules}
use Rattle.world_base.specs.Stops.{NumbersDrawn, OpeningFails, TargetGivenUp, TargetOpens, opened_at, restart_line, swept}
use Rattle.world_causes.specs.restarts.Resting.{Rests, failure-rests, given_up-rests, numbers-rests, opening-rests, sweep-rests}
use Rattle.world_causes.specs.causes.Causes.{Stored, blocks_of_stored, limit}
use Rattle.world_causes.specs.causes.FloorLaws.{KeepsFloors, lines-keep-floors, openings-keep-floors, sweeps-keep-floors}
use Rattle.world_causes.specs.causes.Growth.{at-set}
use Rattle.world_causes.specs.causes.Lasting.{numbers-both}
use Rattle.world_causes.specs.causes.Shown.{Causes, limit_over}
use Rattle.world_causes.specs.showing.Follows.{Follows, follows-keep}
use Rattle.world_causes.specs.showing.Following.{FollowsOn}

-- ---- targets that stay as they are

pub same-at : (r : Rules) (stored : Stored) (limit t : ℕ) (s : TargetState) → FollowsOn r stored [] limit t s s
same-at r stored limit t s = record { ticks = λ runs. inl (runs, low s.memory.ticks); lease = inl (low s.durable.lease); free = low (s.free + blocks_of_stored r.script t stored); parked = λ p i. inl i }
  where
    low : (n : ℕ) → n ≤ n
    low n = omega arith

-- where one target changed
pub one-follows : (r : Rules) (stored : Stored) (limit : ℕ) (w v : World) (t : ℕ) (s z : TargetState) → slice_get w.targets t ≡ Some s → v.targets ≡ set w.targets t z → FollowsOn r stored [] limit t s z
    → (u : ℕ) (y : TargetState) → slice_get v.targets u ≡ Some y → (x : TargetState) × (slice_get w.targets u ≡ Some x) × FollowsOn r stored [] limit u x y
one-follows r stored limit w v t s z here targets k u y at =
    at-set w.targets t s z (λ n y. (x : TargetState) × (slice_get w.targets n ≡ Some x) × FollowsOn r stored [] limit n x y) here (s, here, k) (λ n y there. (y, there, same-at r stored limit n y)) u y (ap (λ ts. slice_get ts u) (sym targets) ∙ at)

-- what follows where nothing was issued, and these lines were added
rests-follow : (r : Rules) (o : Opening) (stored : Stored) (w v : World) (more : List Line) → Rests w v → v.lines ≡ w.lines ++ more → tries more ≡ []
    → ((t : ℕ) (floor : Epoch) (cont : ContId) (reason : FloorWhy) → Any (ShowsFloor t floor cont reason) more → floor.0 / 256 ≤ limit_over o v.lines v.issued)
    → ((t : ℕ) (z : TargetState) → slice_get v.targets t ≡ Some z → (s : TargetState) × (slice_get w.targets t ≡ Some s) × FollowsOn r stored [] (limit_over o v.lines v.issued) t s z) → KeepsFloors w v
    → Follows r o stored [] w v
rests-follow r o stored w v more k lines silent told targets floors = record {
  added = [];
  issued = k.issued ∙ sym (append-nil w.issued);
  more = more;
  lines = lines;
  silent = silent;
  clients = k.clients;
  messages = k.messages;
  dates = λ x e i. absurd (has-from_contains [] (x, e) i);
  told = told;
  targets = targets;
  floors = floors;
}

no-floors : (t : ℕ) (floor : Epoch) (cont : ContId) (reason : FloorWhy) → Any (ShowsFloor t floor cont reason) [] → ⊥
no-floors t floor cont reason i = has-from_contains [] i.1 (i.0, i.2, i.3)

-- the only line of some
pub one-line : (P : Line → Type 0) (l : Line) → Any P (l ∷ []) → P l
one-line P l i = by (has-from_contains (l ∷ []) i.1 (i.0, i.2, i.3))
  where
    by : (i.1 ≡ l) ⊎ ⊥ → P l
    by (inl same) = subst P same i.4
    by (inr none) = absurd none

-- ---- an opening

module _ (r : Rules) (o : Opening) (stored : Stored) (w v : World) (C : Causes r o stored w) (g : TargetOpens r w v) where
  abbrev told : List Line
  told = restart_line g.number g.t g.s.durable ∷ []

  lines-are : v.lines ≡ w.lines ++ told
  lines-are = ap (λ u. u.lines) g.after

  -- a restart raises the limit by a lease
  raised : g.s.durable.lease ≤ limit_over o v.lines v.issued
  raised = subst (λ ls. g.s.durable.lease ≤ limit_over o ls v.issued) (sym lines-are) (subst (λ is. g.s.durable.lease ≤ limit_over o (w.lines ++ told) is) (sym (ap (λ u. u.issued) g.after))
      (by (limit o w.issued) (length (restart_numbers w.lines)) (length (restart_numbers (w.lines ++ told))) (C.bounded.leases g.t g.s g.here) more))
    where
      more : length (restart_numbers (w.lines ++ told)) ≡ length (restart_numbers w.lines) + 1
      more = ap length (numbers-both w.lines told) ∙ length-append (restart_numbers w.lines) (g.number ∷ [])

      by : (a b c : ℕ) → g.s.durable.lease ≤ a + 65536 * b + 65536 → c ≡ b + 1 → g.s.durable.lease ≤ a + 65536 * c
      by a b c low is = omega (arith, low, is)

  floor-told : (t : ℕ) (floor : Epoch) (cont : ContId) (reason : FloorWhy) → ShowsFloor t floor cont reason (restart_line g.number g.t g.s.durable) → floor.0 / 256 ≤ limit_over o v.lines v.issued
  floor-told t floor cont why.Opening k = absurd k
  floor-told t floor cont (why.Restart n) k = by (limit_over o v.lines v.issued) (floor-is (k.1)) raised
    where
      floor-is : restart_line g.number g.t g.s.durable ≡ line.Restart n t k.0 floor → floor.0 ≡ restart_floor g.s.durable.lease
      floor-is e = let same : record { 0 = restart_floor g.s.durable.lease } ≡ floor = cc (e) in sym (ap (λ f. f.0) same)

      by : (b : ℕ) → floor.0 ≡ restart_floor g.s.durable.lease → g.s.durable.lease ≤ b → floor.0 / 256 ≤ b
      by b is low = omega (arith, is, low)
  floor-told t floor cont (why.Snapshot e) k = let no : ⊥ = cc (k.0) in absurd no
  floor-told t floor cont (why.Aggregate n) k = let no : ⊥ = cc (k) in absurd no

  opening-follows : Follows r o stored [] w v
  unfolding tries reopened
  opening-follows = rests-follow r o stored w v told (opening-rests r w v g) lines-are refl (λ t floor cont reason i. floor-told t floor cont reason (one-line (ShowsFloor t floor cont reason) (restart_line g.number g.t g.s.durable) i))
      (one-follows r stored (limit_over o v.lines v.issued) w v g.t g.s (opened_at r g.t g.number g.s g.free) g.here (ap (λ u. u.targets) g.after) (record {
        ticks = λ runs. inr raised-ticks;
        lease = inl same-lease;
        free = sum g.s.free g.free (blocks_of_stored r.script g.t stored) g.no_less;
        parked = λ p i. absurd (has-from_contains [] p i);
      })) (openings-keep-floors r w v (inl g))
    where
      same-lease : (reopened g.s.durable).lease ≤ g.s.durable.lease
      same-lease = omega arith

      raised-ticks : (reopened g.s.durable).lease ≤ limit_over o v.lines v.issued
      raised-ticks = raised

      sum : (a b c : ℕ) → a ≤ b → a + c ≤ b + c
      sum a b c low = omega (arith, low)

pub opening-keeps : (r : Rules) (o : Opening) (stored : Stored) (w v : World) → Causes r o stored w → TargetOpens r w v → Causes r o stored v
opening-keeps r o stored w v C g = follows-keep r o stored [] w v C (opening-follows r o stored w v C g)

-- ---- a failed one

pub failure-keeps : (r : Rules) (o : Opening) (stored : Stored) (w v : World) → Causes r o stored w → OpeningFails r w v → Causes r o stored v
unfolding tries reopened
failure-keeps r o stored w v C g = follows-keep r o stored [] w v C (rests-follow r o stored w v [] (failure-rests r w v g) (ap (λ u. u.lines) g.after ∙ sym (append-nil w.lines)) refl (λ t floor cont reason i. absurd (no-floors t floor cont reason i))
    (one-follows r stored (limit_over o v.lines v.issued) w v g.t g.s (record g.s { durable = g.k.durable; free = g.k.free }) g.here (ap (λ u. u.targets) g.after) (record {
      ticks = λ runs. inl (runs, low g.s.memory.ticks);
      lease = inl same-lease;
      free = sum g.s.free g.k.free (blocks_of_stored r.script g.t stored) g.no_less;
      parked = λ p i. inl i;
    })) (openings-keep-floors r w v (inr (inl g))))
  where
    low : (n : ℕ) → n ≤ n
    low n = omega arith

    lease-of : (g.k.durable ≡ g.s.durable) ⊎ (g.k.durable ≡ reopened g.s.durable) → g.k.durable.lease ≡ g.s.durable.lease
    lease-of (inl is) = ap (λ d. d.lease) is
    lease-of (inr is) = ap (λ d. d.lease) is

    same-lease : g.k.durable.lease ≤ g.s.durable.lease
    same-lease = let is : g.k.durable.lease ≡ g.s.durable.lease = lease-of g.left in omega (arith, is)

    sum : (a b c : ℕ) → a ≤ b → a + c ≤ b + c
    sum a b c p = omega (arith, p)

-- ---- a target is given up

down-tells-none : (t u : ℕ) (floor : Epoch) (cont : ContId) (reason : FloorWhy) → ShowsFloor t floor cont reason (line.Down u) → ⊥
down-tells-none t u floor cont why.Opening k = k
down-tells-none t u floor cont (why.Restart n) k = let no : ⊥ = cc (k.1) in no
down-tells-none t u floor cont (why.Snapshot e) k = let no : ⊥ = cc (k.0) in no
down-tells-none t u floor cont (why.Aggregate n) k = let no : ⊥ = cc (k) in no

pub given_up-keeps : (r : Rules) (o : Opening) (stored : Stored) (w v : World) → Causes r o stored w → TargetGivenUp r w v → Causes r o stored v
unfolding tries reopened
given_up-keeps r o stored w v C g = follows-keep r o stored [] w v C (rests-follow r o stored w v (line.Down g.t ∷ []) (given_up-rests r w v g) (ap (λ u. u.lines) g.after) refl
    (λ t floor cont reason i. absurd (down-tells-none t g.t floor cont reason (one-line (ShowsFloor t floor cont reason) (line.Down g.t) i)))
    (one-follows r stored (limit_over o v.lines v.issued) w v g.t g.s (record g.s { life = Down }) g.here (ap (λ u. u.targets) g.after) (record {
      ticks = λ runs. absurd (gone runs);
      lease = inl (low g.s.durable.lease);
      free = low (g.s.free + blocks_of_stored r.script g.t stored);
      parked = λ p i. inl i;
    })) (openings-keep-floors r w v (inr (inr g))))
  where
    low : (n : ℕ) → n ≤ n
    low n = omega arith

    gone : (record g.s { life = Down }).life ≡ Running → ⊥
    gone runs = let no : ⊥ = cc (runs) in no

-- ---- what is lost, and numbers

same-follow : (r : Rules) (o : Opening) (stored : Stored) (w v : World) → Rests w v → v.lines ≡ w.lines → v.targets ≡ w.targets → KeepsFloors w v → Follows r o stored [] w v
unfolding tries reopened
same-follow r o stored w v k lines targets floors = rests-follow r o stored w v [] k (lines ∙ sym (append-nil w.lines)) refl (λ t floor cont reason i. absurd (no-floors t floor cont reason i))
    (λ t z at. (z, ap (λ ts. slice_get ts t) (sym targets) ∙ at, same-at r stored (limit_over o v.lines v.issued) t z)) floors

pub sweep-keeps : (r : Rules) (o : Opening) (stored : Stored) (w : World) → Causes r o stored w → Causes r o stored (swept w)
sweep-keeps r o stored w C = follows-keep r o stored [] w (swept w) C (same-follow r o stored w (swept w) (sweep-rests w) refl refl (sweeps-keep-floors w))

pub numbers-keep : (r : Rules) (o : Opening) (stored : Stored) (w v : World) → Causes r o stored w → NumbersDrawn w v → Causes r o stored v
numbers-keep r o stored w v C g = follows-keep r o stored [] w v C (same-follow r o stored w v (numbers-rests w v g) (ap (λ u. u.lines) g.after) (ap (λ u. u.targets) g.after) (lines-keep-floors w v [] (ap (λ u. u.targets) g.after) (ap (λ u. u.lines) g.after ∙ sym (append-nil w.lines))))
