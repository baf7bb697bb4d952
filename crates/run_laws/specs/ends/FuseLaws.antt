-- Stop lines are taken one target after another.
use Rattle.std.specs.Prelude.{ℕ, zero, suc, ◌≡◌, ◌≤◌, ◌<◌, ◌+◌, ◌⊎◌, true, false, nat_lt, filter, List, [], ◌∷◌, Bool, slice_get, refl}
use Rattle.std.proofs.Common.{inl, inr, sym, ◌∙◌, ap, subst, arith}
use Rattle.std.proofs.lemmas.Bool.{cases_eq}
use Rattle.std.proofs.lemmas.Bool.Decides.{nat_tests}
use Rattle.base_types.specs.declared.script.StopDecl.{StopDecl}
use Rattle.daos_model.specs.Stops.{is_stop_at}
use Rattle.run_laws.specs.shows.Accounting.{fuse-taken}
use Rattle.run_laws.specs.shows.Accounts.{one_if, stop_lines_of}
use Rattle.run_laws.specs.steps.Openings.{fewer-lines}
use Rattle.run_watch.specs.Watches.{next_fuse, write_of}
use Rattle.world_base.specs.Letters.{without_first}
use Rattle.world_letters.specs.waits.Lists.{filter-no, filter-yes}
use Rattle.world_letters.specs.waits.TargetLaws.{filter-without}
use Rattle.run_laws.specs.ends.Arming.{lines_left}

-- ---- a target's next fuse

-- it is that of the first of its own stop lines
next-first : (t : ℕ) (stops : List StopDecl) → next_fuse t stops ≡ write_of (slice_get (filter (is_stop_at t) stops) 0)
next-first t [] = refl
next-first t (d ∷ ds) = by (next-first t ds) (is_stop_at t d) refl
  where
    further : (n : ℕ) → slice_get (d ∷ ds) (1 + n) ≡ slice_get ds n
    further n = let one : 1 + n ≡ suc n = omega arith in ap (slice_get (d ∷ ds)) one

    here : is_stop_at t d ≡ true → next_fuse t (d ∷ ds) ≡ d.write
    here is = rw is refl

    later : is_stop_at t d ≡ false → next_fuse t (d ∷ ds) ≡ next_fuse t ds
    later off = rw off (ap write_of (further _))

    by : next_fuse t ds ≡ write_of (slice_get (filter (is_stop_at t) ds) 0) → (b : Bool) → is_stop_at t d ≡ b → next_fuse t (d ∷ ds) ≡ write_of (slice_get (filter (is_stop_at t) (d ∷ ds)) 0)
    by rest true is = here is ∙ sym (ap (λ ys. write_of (slice_get ys 0)) (filter-yes (is_stop_at t) d ds is))
    by rest false off = later off ∙ rest ∙ sym (ap (λ ys. write_of (slice_get ys 0)) (filter-no (is_stop_at t) d ds off))

-- no stop line is of two targets
of-one : (t u : ℕ) (d : StopDecl) → ((t ≡ u) → ⊥) → is_stop_at u d ≡ true → is_stop_at t d ≡ false
of-one t u d apart is = grind (arith, nat_tests)

-- where another target's line is taken, it stays
next-beside : (t u : ℕ) (stops : List StopDecl) → ((t ≡ u) → ⊥) → next_fuse t (without_first (is_stop_at u) stops) ≡ next_fuse t stops
next-beside t u stops apart =
    next-first t (without_first (is_stop_at u) stops)
    ∙ ap (λ ys. write_of (slice_get ys 0)) (filter-without (is_stop_at u) (is_stop_at t) stops (λ d is. of-one t u d apart is))
    ∙ sym (next-first t stops)

-- and so it does until its turn comes
pub next-left : (n t : ℕ) (stops : List StopDecl) → n ≤ t → next_fuse t (lines_left n stops) ≡ next_fuse t stops
next-left zero t stops low = refl
next-left (suc n) t stops low = next-beside t n (lines_left n stops) (λ same. absurd (omega (arith, low, same))) ∙ next-left n t stops (omega (arith, low))

-- ---- how many stop lines are left

fewer-left : (n t : ℕ) (stops : List StopDecl) → stop_lines_of t (lines_left n stops) ≤ stop_lines_of t stops
fewer-left zero t stops = omega arith
fewer-left (suc n) t stops = let one = fewer-lines n t (lines_left n stops) in let two = fewer-left n t stops in omega (arith, one, two)

-- one fewer of a target for which a fuse was set
pub taken-left : (n t : ℕ) (stops : List StopDecl) → t < n → stop_lines_of t (lines_left n stops) + one_if (nat_lt 0 (next_fuse t stops)) ≤ stop_lines_of t stops
taken-left zero t stops low = absurd (omega (arith, low))
taken-left (suc n) t stops low = by (cases_eq t n) (λ less. taken-left n t stops less)
  where
    by : (t ≡ n) ⊎ ((t ≡ n) → ⊥) → (t < n → stop_lines_of t (lines_left n stops) + one_if (nat_lt 0 (next_fuse t stops)) ≤ stop_lines_of t stops) → stop_lines_of t (lines_left (suc n) stops) + one_if (nat_lt 0 (next_fuse t stops)) ≤ stop_lines_of t stops
    by (inl same) rest =
        let its : next_fuse t (lines_left n stops) ≡ next_fuse t stops = next-left n t stops (omega (arith, same)) in
        let one : stop_lines_of t (without_first (is_stop_at n) (lines_left n stops)) + one_if (nat_lt 0 (next_fuse t (lines_left n stops))) ≤ stop_lines_of t (lines_left n stops) =
        subst (λ m. stop_lines_of t (without_first (is_stop_at m) (lines_left n stops)) + one_if (nat_lt 0 (next_fuse t (lines_left n stops))) ≤ stop_lines_of t (lines_left n stops)) same (fuse-taken t (lines_left n stops)) in
        let two = fewer-left n t stops in
        let few : one_if (nat_lt 0 (next_fuse t (lines_left n stops))) ≡ one_if (nat_lt 0 (next_fuse t stops)) = ap (λ k. one_if (nat_lt 0 k)) its in
        omega (arith, one, two, few)
    by (inr apart) rest = let one = fewer-lines n t (lines_left n stops) in let two = rest (omega (arith, low, apart)) in omega (arith, one, two)
