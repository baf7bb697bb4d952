-- Where no line tells that a target stopped, none tells that one opened again or was given up; and so it is where nothing stops a target.
use Rattle.std.specs.Prelude.{ℕ, ◌+◌, ◌≡◌, ◌≤◌, ◌<◌, ◌==◌, Any, Bool, true, false, List, [], ◌∷◌, ◌++◌, filter, length, Some, refl, if◌then◌else◌}
use Rattle.std.proofs.Common.{sym, ◌∙◌, ap, subst, arith, inl, inr}
use Rattle.std.proofs.lemmas.List.{length-append}
use Rattle.base_types.specs.declared.epoch.Epoch.{Epoch}
use Rattle.base_types.specs.declared.report.Line.{Line}
use Rattle.base_types.specs.declared.report.Line.TheVariants as line
use Rattle.base_types.specs.declared.script.Script.{Script}
use Rattle.model_laws.specs.Members.{Has, has-filter, has-from_filter, has-right}
use Rattle.model_laws.specs.TargetLaws.{same_number}
use Rattle.daos_model.specs.CausesShown.{IsStopAt, StopsAfter}
use Rattle.daos_model.specs.Opening.{Outside}
use Rattle.daos_model.specs.Stops.{AtMostWith, Down, Running, Standing, StopsLegalAt, after_all, is_at, is_stop_at, lines_at, restart_numbers, restarted_number, stop_numbers, stopped_number}
use Rattle.model_reports.specs.Lines.{one-of-any}

-- a target stops
abbrev pub is_stop : Line → Bool
is_stop (line.Try a) = false
is_stop (line.Stop number target) = true
is_stop (line.Restart number target incarnation floor) = false
is_stop (line.Freeze target cont epoch) = false
is_stop (line.Snapshot name cont epoch) = false
is_stop (line.Aggregate number target cont upto) = false
is_stop (line.Down target) = false

-- a target that stopped opens again, or is given up
abbrev pub follows_stop : Line → Bool
follows_stop (line.Try a) = false
follows_stop (line.Stop number target) = false
follows_stop (line.Restart number target incarnation floor) = true
follows_stop (line.Freeze target cont epoch) = false
follows_stop (line.Snapshot name cont epoch) = false
follows_stop (line.Aggregate number target cont upto) = false
follows_stop (line.Down target) = true

-- a line of a stop is counted among those of its target
stop-counted : (t n : ℕ) (ls : List Line) → Has (line.Stop n t) ls → 0 < length (stop_numbers (lines_at t ls))
stop-counted t n [] i = absurd i
stop-counted t n (l ∷ ls) (inl same) = subst (λ m. 0 < length (stop_numbers (lines_at t (m ∷ ls)))) same (by (t == t) (same_number t))
  where
    by : (b : Bool) → b ≡ true → 0 < length (stop_numbers (if b then line.Stop n t ∷ lines_at t ls else lines_at t ls))
    by true e = omega arith
    by false e = let no : ⊥ = cc in absurd no
stop-counted t n (l ∷ ls) (inr i) = by (is_at t l) (stop-counted t n ls i)
  where
    by : (b : Bool) → 0 < length (stop_numbers (lines_at t ls)) → 0 < length (stop_numbers (if b then l ∷ lines_at t ls else lines_at t ls))
    by true k = let all : length (stopped_number l ++ stop_numbers (lines_at t ls)) ≡ length (stopped_number l) + length (stop_numbers (lines_at t ls)) = length-append (stopped_number l) (stop_numbers (lines_at t ls)) in omega (arith, k, all)
    by false k = k

-- no line tells that a target stopped
abbrev pub NoStops : List Line → Type 0
NoStops lines = (n t : ℕ) → Has (line.Stop n t) lines → ⊥

pub no-stop : (lines : List Line) → NoStops lines → (l : Line) → Has l lines → is_stop l ≡ false
no-stop lines never (line.Try a) i = refl
no-stop lines never (line.Stop number target) i = absurd (never number target i)
no-stop lines never (line.Restart number target incarnation floor) i = refl
no-stop lines never (line.Freeze target cont epoch) i = refl
no-stop lines never (line.Snapshot name cont epoch) i = refl
no-stop lines never (line.Aggregate number target cont upto) i = refl
no-stop lines never (line.Down target) i = refl

-- none of these targets stops among them
pub none-stops : (ts : List ℕ) (first lines : List Line) → NoStops lines → StopsAfter ts first lines → ⊥
none-stops ts first lines never k =
    let t = one-of-any (λ t. Any (IsStopAt t) k.since) ts k.stop in
    let l = one-of-any (IsStopAt t.0) k.since t.2 in
    let there : Has l.0 lines = subst (Has l.0) (sym k.rest) (has-right first k.since l.0 l.1) in
    never l.2.0 t.0 (subst (λ m. Has m lines) l.2.1 there)

-- what comes of a target that runs and doesn't stop is neither an opening nor its end
goes-on : (ls : List Line) (z : Standing) → ((l : Line) → Has l ls → is_stop l ≡ false) → after_all (Some Running) ls ≡ Some z → (l : Line) → Has l ls → follows_stop l ≡ false
goes-on [] z none ends l i = absurd i
goes-on (line.Try a ∷ ls) z none ends l i = let no : ⊥ = cc in absurd no
goes-on (line.Stop number target ∷ ls) z none ends l i = let bad : true ≡ false = none (line.Stop number target) (inl refl) in let no : ⊥ = cc in absurd no
goes-on (line.Restart number target incarnation floor ∷ ls) z none ends l i = let no : ⊥ = cc in absurd no
goes-on (line.Freeze target cont epoch ∷ ls) z none ends l (inl same) = ap follows_stop same
goes-on (line.Freeze target cont epoch ∷ ls) z none ends l (inr i) = goes-on ls z (λ m j. none m (inr j)) ends l i
goes-on (line.Snapshot name cont epoch ∷ ls) z none ends l i = let no : ⊥ = cc in absurd no
goes-on (line.Aggregate number target cont upto ∷ ls) z none ends l (inl same) = ap follows_stop same
goes-on (line.Aggregate number target cont upto ∷ ls) z none ends l (inr i) = goes-on ls z (λ m j. none m (inr j)) ends l i
goes-on (line.Down target ∷ ls) z none ends l i = let no : ⊥ = cc in absurd no

-- where the lines of a target come in their order, none of them tells so
pub none-follows : (lines : List Line) (t : ℕ) (z : Standing) → NoStops lines → after_all (Some Running) (lines_at t lines) ≡ Some z → (l : Line) → Has l lines → is_at t l ≡ true → follows_stop l ≡ false
none-follows lines t z never ends l i at =
    goes-on (lines_at t lines) z (λ m j. no-stop lines never m (has-from_filter (is_at t) lines m j).0) ends l (has-filter (is_at t) lines l i at)

-- where the script asks for no stop, and the outside failed no region, no line tells that a target stopped
pub never-stops : (s : Script) (o : Outside) (lines : List Line) → s.stops ≡ [] → ((t : ℕ) → o.rises t ≡ Some 0) → ((t : ℕ) → StopsLegalAt s o lines t) → NoStops lines
never-stops s o lines quiet undisturbed legal n t i =
    let some : 0 < length (stop_numbers (lines_at t lines)) = stop-counted t n lines i in
    let most : length (stop_numbers (lines_at t lines)) ≤ length (filter (is_stop_at t) s.stops) + 0 = subst (AtMostWith (length (stop_numbers (lines_at t lines))) (length (filter (is_stop_at t) s.stops))) (undisturbed t) (legal t).caused in
    let none : length (filter (is_stop_at t) s.stops) ≡ 0 = ap (λ ds. length (filter (is_stop_at t) ds)) quiet in
    omega (arith, some, most, none)

module _ (s : Script) (o : Outside) (lines : List Line) (never : NoStops lines) (legal : (t : ℕ) → StopsLegalAt s o lines t) where
  still-running : (t : ℕ) (l : Line) → Has l lines → is_at t l ≡ true → follows_stop l ≡ false
  still-running t l i at = elim (legal t).alternate [
    | inl ends ↦ none-follows lines t Running never ends l i at
    | inr ends ↦ none-follows lines t Down never ends l i at
  ]

  -- none tells that one opened again
  pub never-opens : (n t incarnation : ℕ) (floor : Epoch) → Has (line.Restart n t incarnation floor) lines → ⊥
  never-opens n t incarnation floor i = let bad : true ≡ false = still-running t (line.Restart n t incarnation floor) i (same_number t) in let no : ⊥ = cc in no

  -- none that one was given up
  pub never-goes : (t : ℕ) → Has (line.Down t) lines → ⊥
  never-goes t i = let bad : true ≡ false = still-running t (line.Down t) i (same_number t) in let no : ⊥ = cc in no

  pub no-restarts : restart_numbers lines ≡ []
  no-restarts = by lines never-opens
    where
      one : (l : Line) → ((n t incarnation : ℕ) (floor : Epoch) → l ≡ line.Restart n t incarnation floor → ⊥) → restarted_number l ≡ []
      one (line.Try a) none = refl
      one (line.Stop number target) none = refl
      one (line.Restart number target incarnation floor) none = absurd (none number target incarnation floor refl)
      one (line.Freeze target cont epoch) none = refl
      one (line.Snapshot name cont epoch) none = refl
      one (line.Aggregate number target cont upto) none = refl
      one (line.Down target) none = refl

      by : (ls : List Line) → ((n t incarnation : ℕ) (floor : Epoch) → Has (line.Restart n t incarnation floor) ls → ⊥) → restart_numbers ls ≡ []
      by [] none = refl
      by (l ∷ ls) none =
          ap (λ ns. ns ++ restart_numbers ls) (one l (λ n t incarnation floor same. none n t incarnation floor (inl (sym same))))
          ∙ by ls (λ n t incarnation floor i. none n t incarnation floor (inr i))
