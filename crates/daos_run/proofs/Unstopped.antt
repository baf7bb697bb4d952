-- Reports by which no target was stopped, and none given up.
use Rattle.std.specs.Prelude.{ℕ, ◌≡◌, ◌≤◌, ◌+◌, ◌++◌, Bool, true, false, List, [], ◌∷◌, length, Contains, None, filter, ◌⊎◌, if◌then◌else◌, refl}
use Rattle.std.proofs.Common.{inl, inr, sym, ◌∙◌, subst, arith}
use Rattle.std.proofs.lemmas.Bool.{true≢false}
use Rattle.std.proofs.lemmas.List.{length-append}
use Rattle.base_types.specs.declared.id.AttemptId.{AttemptId}
use Rattle.base_types.specs.declared.report.Line.{Line}
use Rattle.base_types.specs.declared.report.Line.TheVariants as line
use Rattle.base_types.specs.declared.report.Report.{Report}
use Rattle.daos_model.specs.Headline.{Headline}
use Rattle.daos_model.specs.Opening.{Given, undisturbed}
use Rattle.daos_model.specs.Stops.{down_targets, is_at, is_stop_at, least, lines_at, stop_numbers, stopped_number}
use Rattle.model_laws.specs.TargetLaws.{same_number}

-- ---- lines

-- as many stops of a target are told by all lines as by those behind the first, or more
stops-behind : (t : ℕ) (l : Line) (ls : List Line) → length (stop_numbers (lines_at t ls)) ≤ length (stop_numbers (lines_at t (l ∷ ls)))
stops-behind t l ls = by (is_at t l) refl
  where
    shorter : length (stop_numbers (lines_at t ls)) ≤ length (stopped_number l ++ stop_numbers (lines_at t ls))
    shorter = let e = length-append (stopped_number l) (stop_numbers (lines_at t ls)) in omega (arith, e)

    by : (b : Bool) → is_at t l ≡ b → length (stop_numbers (lines_at t ls)) ≤ length (stop_numbers (lines_at t (l ∷ ls)))
    by true is = subst (λ b. length (stop_numbers (lines_at t ls)) ≤ length (stop_numbers (if b then l ∷ lines_at t ls else lines_at t ls))) (sym is) shorter
    by false is = subst (λ b. length (stop_numbers (lines_at t ls)) ≤ length (stop_numbers (if b then l ∷ lines_at t ls else lines_at t ls))) (sym is) (omega arith)

-- no stop of any target is told by these lines
abbrev NoneStops : List Line → Type 0
NoneStops lines = (t : ℕ) → length (stop_numbers (lines_at t lines)) ≤ 0

behind : (l : Line) (ls : List Line) → NoneStops (l ∷ ls) → NoneStops ls
behind l ls none t = let less = stops-behind t l ls in let zero = none t in omega (arith, less, zero)

-- a line of a stop is one of its target
told-there : (number target : ℕ) (ls : List Line) → NoneStops (line.Stop number target ∷ ls) → ⊥
told-there number target ls none =
    let some : length (number ∷ stop_numbers (lines_at target ls)) ≤ 0 = subst (λ b. length (stop_numbers (if b then line.Stop number target ∷ lines_at target ls else lines_at target ls)) ≤ 0) (same_number target) (none target) in
    omega (arith, some)

pub none-stopped : (lines : List Line) → NoneStops lines → stop_numbers lines ≡ []
none-stopped [] none = refl
none-stopped (line.Try a ∷ ls) none = none-stopped ls (behind (line.Try a) ls none)
none-stopped (line.Stop number target ∷ ls) none = absurd (told-there number target ls none)
none-stopped (line.Restart number target incarnation floor ∷ ls) none = none-stopped ls (behind (line.Restart number target incarnation floor) ls none)
none-stopped (line.Freeze target cont epoch ∷ ls) none = none-stopped ls (behind (line.Freeze target cont epoch) ls none)
none-stopped (line.Snapshot name cont epoch ∷ ls) none = none-stopped ls (behind (line.Snapshot name cont epoch) ls none)
none-stopped (line.Aggregate number target cont upto ∷ ls) none = none-stopped ls (behind (line.Aggregate number target cont upto) ls none)
none-stopped (line.Down target ∷ ls) none = none-stopped ls (behind (line.Down target) ls none)

-- nothing is in a list: it is empty, and has no least
no-least : (ns : List ℕ) → ((n : ℕ) → Contains ns n → ⊥) → least ns ≡ None
no-least [] none = refl
no-least (n ∷ ns) none = absurd (none n (0, omega arith, refl))

-- ---- legal reports of a run in which the outside failed no region

module _ (g : Given) (resolved : AttemptId → Bool) (q : Report) (H : Headline g undisturbed resolved q) where
  -- without stop lines no target stopped
  pub no-stops-told : g.script.stops ≡ [] → stop_numbers q.lines ≡ []
  no-stops-told none = none-stopped q.lines (λ t.
      let c = (H.outcomes.stops.targets t).caused in
      subst (λ stops. length (stop_numbers (lines_at t q.lines)) ≤ length (filter (is_stop_at t) stops) + 0) none c)

  -- none is given up
  pub no-down-told : q.down ≡ None
  no-down-told = H.outcomes.stops.down ∙ no-least (down_targets q.lines) (λ t is. never ((H.outcomes.stops.targets t).down is))
    where
      never : (9 ≤ 0) ⊎ ((false ≡ true) × (true ≡ false)) → ⊥
      never (inl many) = omega (arith, many)
      never (inr both) = true≢false (sym both.0)
