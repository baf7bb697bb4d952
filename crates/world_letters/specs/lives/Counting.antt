-- How many stops the lines tell of a target; and where numbers are drawn one by one, restarts and aggregations are counted by them.
use Rattle.std.specs.Prelude.{ℕ, ◌+◌, ◌≡◌, ◌⊎◌, ◌≤◌, ◌<◌, ◌++◌, nat_eq, false, List, [], ◌∷◌, length, None}
use Rattle.std.proofs.Common.{append-nil, sym, ◌∙◌, ap, subst, arith, inl, inr}
use Rattle.std.proofs.lemmas.Bool.Decides.{nat_tests}
use Rattle.std.proofs.lemmas.List.{length-append}
use Rattle.world_base.specs.model_laws.Members.{Has}
use Rattle.daos_model.specs.Stops.{AreCounted, aggregate_numbers, lines_at, restart_numbers, stop_numbers}
use Rattle.world_base.specs.declared.world.World.{World}
use Rattle.world_base.specs.Events.{Rules}
use Rattle.world_base.specs.Stops.{Begins, Goes, IsFreeAggregate, IsFreeRestart, NumbersDrawn, WorldEvent, WorldRun, swept}
use Rattle.world_letters.specs.lives.Adding.{Adds, HasNew, NoNumber, OneNumber, aggregate-apart, aggregates-append, at-append, restart-apart, restarts-append, stops-append, stops_of}
use Rattle.world_letters.specs.lives.Events.{happening-adds, stops_in}
use Rattle.world_letters.specs.lives.Numbers.{counted-next, counted-on}

-- ---- stops

-- how many stops of a target the lines tell of
abbrev pub stops_told : World → ℕ → ℕ
stops_told w t = length (stop_numbers (lines_at t w.lines))

-- how many events of a run stop a target
abbrev pub stops_among : {r : Rules} {w v : World} → WorldRun r w v → ℕ → ℕ
stops_among Begins t = 0
stops_among (Goes u x run e) t = stops_among run t + stops_of (stops_in e.happens) t

event-counts : (r : Rules) (w v : World) (e : WorldEvent r w v) (t : ℕ) → stops_told v t ≡ stops_told w t + stops_of (stops_in e.happens) t
event-counts r w v e t = ap (λ x. stops_told x t) e.after ∙ by (happening-adds r w e.u e.happens)
  where
    by : Adds (stops_in e.happens) w e.u ⊎ ((stops_in e.happens ≡ None) × NumbersDrawn w e.u) → stops_told e.u t ≡ stops_told w t + stops_of (stops_in e.happens) t
    by (inl a) =
        ap (λ ls. length (stop_numbers (lines_at t ls))) a.lines ∙ ap (λ x. length (stop_numbers x)) (at-append t w.lines a.more) ∙ ap length (stops-append (lines_at t w.lines) (lines_at t a.more))
        ∙ length-append (stop_numbers (lines_at t w.lines)) (stop_numbers (lines_at t a.more)) ∙ ap (λ n. stops_told w t + n) (a.stopped t)
    by (inr g) =
        let same : stops_told e.u t ≡ stops_told w t = ap (λ x. stops_told x t) g.1.after in
        let none : stops_of (stops_in e.happens) t ≡ 0 = ap (λ o. stops_of o t) g.0 in
        omega (arith, same, none)

-- so a run tells of as many stops of a target as its events stop it
pub run-counts : (r : Rules) (w v : World) (run : WorldRun r w v) (t : ℕ) → stops_told v t ≡ stops_told w t + stops_among run t
run-counts r w v Begins t = omega arith
run-counts r w v (Goes u x run e) t =
    let one = event-counts r u v e t in
    let before = run-counts r w u run t in
    omega (arith, one, before)

-- ---- numbers

-- restarts and aggregations are counted by the lines
pub record AreCountedSo (w : World) : Type 0 where
  pub restarts : AreCounted 0 (restart_numbers w.lines)
  pub aggregations : AreCounted 0 (aggregate_numbers w.lines)

-- at most one number of each was drawn that no line has
pub record DrawsOneByOne (w : World) : Type 0 where
  pub restarts : w.numbers.restarts ≤ length (restart_numbers w.lines) + 1
  pub aggregations : w.numbers.aggregates ≤ length (aggregate_numbers w.lines) + 1

-- a number that is none of these
not-among : (ns : List ℕ) (n : ℕ) → ((m : ℕ) → Has m ns → nat_eq m n ≡ false) → Has n ns → ⊥
not-among ns n apart i = let off : nat_eq n n ≡ false = apart n i in let no : ⊥ = grind (arith, nat_tests) in no

next-counted : (IsFree : ℕ → Type 0) (old new : List ℕ) → ((n : ℕ) → IsFree n → (Has n old → ⊥) × (n < length old + 1)) → HasNew IsFree new → AreCounted 0 old → AreCounted 0 (old ++ new)
next-counted IsFree old new free (NoNumber none) k = subst (λ ns. AreCounted 0 (old ++ ns)) (sym none) (subst (AreCounted 0) (sym (append-nil old)) k)
next-counted IsFree old new free (OneNumber n is one) k =
    subst (λ ns. AreCounted 0 (old ++ ns)) (sym one) (counted-on old (n ∷ []) k (counted-next old n k (free n is).0 (free n is).1, tt))

-- so they are counted on where numbers are drawn one by one
pub counts-on : (r : Rules) (w v : World) → WorldEvent r w v → DrawsOneByOne w → AreCountedSo w → AreCountedSo v
counts-on r w v e d k = subst AreCountedSo (sym e.after) (by (happening-adds r w e.u e.happens))
  where
    by : Adds (stops_in e.happens) w e.u ⊎ ((stops_in e.happens ≡ None) × NumbersDrawn w e.u) → AreCountedSo (swept e.u)
    by (inl a) = record {
      restarts = subst (AreCounted 0) (sym (ap restart_numbers a.lines ∙ restarts-append w.lines a.more))
          (next-counted (IsFreeRestart w) (restart_numbers w.lines) (restart_numbers a.more) (λ n f. (not-among (restart_numbers w.lines) n (restart-apart n w.lines f.unused), let up : w.numbers.restarts ≤ length (restart_numbers w.lines) + 1 = d.restarts in let low : n < w.numbers.restarts = f.drawn in omega (arith, up, low))) a.restarts k.restarts);
      aggregations = subst (AreCounted 0) (sym (ap aggregate_numbers a.lines ∙ aggregates-append w.lines a.more))
          (next-counted (IsFreeAggregate w) (aggregate_numbers w.lines) (aggregate_numbers a.more) (λ n f. (not-among (aggregate_numbers w.lines) n (aggregate-apart n w.lines f.unused), let up : w.numbers.aggregates ≤ length (aggregate_numbers w.lines) + 1 = d.aggregations in let low : n < w.numbers.aggregates = f.drawn in omega (arith, up, low))) a.aggregations k.aggregations);
    }
    by (inr g) = record {
      restarts = subst (λ ls. AreCounted 0 (restart_numbers ls)) (sym (ap (λ x. x.lines) g.1.after)) k.restarts;
      aggregations = subst (λ ls. AreCounted 0 (aggregate_numbers ls)) (sym (ap (λ x. x.lines) g.1.after)) k.aggregations;
    }
