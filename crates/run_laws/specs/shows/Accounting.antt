-- How often targets stopped, and why, is accounted for after a turn.
use Rattle.std.specs.Prelude.{ℕ, ◌≡◌, ◌≤◌, ◌<◌, ◌+◌, ◌-◌, ◌^◌, ◌⊎◌, ◌&&◌, ◌++◌, List, ◌∷◌, filter, length, min, nat_lt, slice_get, Bool, true, false, Option, Some, None, is_some, refl, if◌then◌else◌}
use Rattle.std.proofs.Common.{append-nil, get_or, inl, inr, sym, ◌∙◌, ap, arith}
use Rattle.std.proofs.lemmas.Bool.Decides.{nat_tests}
use Rattle.std.specs.List.{after_first, before_first, position_or_len}
use Rattle.std.proofs.lemmas.List.{length-append, drop_all, take_all}
use Rattle.std.proofs.lemmas.List.Sums.{passes_at_first, split_at_first}
use Rattle.std.proofs.lemmas.Option.{slice_get_cases}
use Rattle.base_messages.specs.declared.actor.ActorId.{ActorId}
use Rattle.base_outside.specs.Causes.{Rose}
use Rattle.base_types.specs.declared.script.StopDecl.{StopDecl}
use Rattle.daos_model.specs.Stops.{down_targets, is_stop_at}
use Rattle.daos_model.specs.declared.durable.Durable.{Durable}
use Rattle.run_laws.specs.shows.Going.{AreFindable, found-some, some-found, was}
use Rattle.run_laws.specs.shows.Parts.{IsTurnSo, filter-both}
use Rattle.run_laws.specs.shows.Accounts.{AtMostBothRise, AtMostRises, one_if, stop_lines_of, stops_told_in}
use Rattle.run_laws.specs.shows.Shows.{IsGoing, Leads}
use Rattle.run_laws.specs.shows.Stages.{StageNow}
use Rattle.run_laws.specs.turns.StopLines.{one_or_none, turns-tell_stops}
use Rattle.run_watch.specs.Watches.{next_fuse, write_of}
use Rattle.target_core.specs.Targets.{TargetOf}
use Rattle.vos_store.specs.Calls.{Ailed, Fires, State}
use Rattle.world_base.specs.Letters.{without_first}
use Rattle.world_letters.specs.lives.Adding.{stops_of}

-- ---- what the lines tell

module _ {S C : Type 0} (durable : S → Option Durable) (state : S → State) (may : S → Durable → Type 0) (a b : StageNow S C) (settling : Bool) (actor : ActorId) (k raised : ℕ) (stops downs faults : Option ℕ) (read : Option (ℕ × ℕ)) (g : IsGoing durable state may a)
    (leads : Leads durable state may (IsTurnSo settling g.rules actor k raised stops downs faults read) g.rules a b) (findable : AreFindable durable may) (all : (x : TargetOf S C) → is_some (durable x.store) ≡ true) where
  -- one stop more of the target that stopped, and none of another; one more that was given up, if one was
  pub stops-told : (t : ℕ) → stops_told_in b.between.lines t ≡ stops_told_in a.between.lines t + stops_of stops t
  stops-told t =
      let found = some-found durable state may findable b all in
      let z = leads found (found-some durable state may findable b all) in
      let y = g.reached z.before z.were in
      let l = z.led y.now (was durable state may a b settling actor k raised stops downs faults read g leads z.before z.were y) y.shows in
      let told = turns-tell_stops settling g.rules actor k y.now l.next l.turn.turn in
      ap (λ ls. stops_told_in ls t) l.shows.lines ∙ told.stops t ∙ ap (λ o. stops_told_in y.now.lines t + stops_of o t) l.turn.stops_is ∙ ap (λ ls. stops_told_in ls t + stops_of stops t) (sym y.shows.lines)

  pub downs-told : down_targets b.between.lines ≡ down_targets a.between.lines ++ one_or_none downs
  downs-told =
      let found = some-found durable state may findable b all in
      let z = leads found (found-some durable state may findable b all) in
      let y = g.reached z.before z.were in
      let l = z.led y.now (was durable state may a b settling actor k raised stops downs faults read g leads z.before z.were y) y.shows in
      let told = turns-tell_stops settling g.rules actor k y.now l.next l.turn.turn in
      ap down_targets l.shows.lines ∙ told.downs ∙ ap (λ o. down_targets y.now.lines ++ one_or_none o) l.turn.downs_is ∙ ap (λ ls. down_targets ls ++ one_or_none downs) (sym y.shows.lines)

-- ---- counts

-- no more happened, and the count didn't fall
pub no-more : (m n more before now later : ℕ) → n ≤ m → now ≤ later → AtMostRises m more before now → AtMostRises n more before later
no-more m n more before now later fewer up (inl last) = inl (omega (arith, last, up))
no-more m n more before now later fewer up (inr k) = inr (omega (arith, k, fewer, up))

-- one more happened, and the count rose
pub one-rise : (m n more before now later : ℕ) → n ≤ m + 1 → Rose now later → AtMostRises m more before now → AtMostRises n more before later
one-rise m n more before now later fewer rose k = by (nat_lt now later) refl
  where
    by : (c : Bool) → nat_lt now later ≡ c → AtMostRises n more before later
    by true less = let up : now < later = grind (arith, nat_tests) in on up k
      where
        on : now < later → AtMostRises m more before now → AtMostRises n more before later
        on up (inl last) = inl (omega (arith, last, up))
        on up (inr j) = inr (omega (arith, j, fewer, up))
    by false less = last rose (let flat : later ≤ now = grind (arith, nat_tests) in flat)
      where
        last : min (now + 1) (2 ^ 64 - 1) ≤ later → later ≤ now → AtMostRises n more before later
        last low flat = inl (omega (arith, low, flat))

-- it is so of as many or fewer, of as many or more, and of a store with the same counts
pub weaker-rises : (m n few many before before' now now' : ℕ) → n ≤ m → few ≤ many → before' ≡ before → now' ≡ now → AtMostRises m few before now → AtMostRises n many before' now'
weaker-rises m n few many before before' now now' fewer more b c (inl last) = inl (omega (arith, last, c))
weaker-rises m n few many before before' now now' fewer more b c (inr k) = inr (omega (arith, k, fewer, more, b, c))

-- ---- both counts

-- none happened
pub none-rise : (n : ℕ) (before now : State) → n ≡ 0 → before.faults ≤ now.faults → before.burns ≤ now.burns → AtMostBothRise n before now
none-rise n before now none faults burns = inr (inr (omega (arith, none, faults, burns)))

-- one happened, and a count rose
pub one-fault : (n : ℕ) (before now : State) → n ≡ 1 → before.faults ≤ now.faults → before.burns ≤ now.burns → Ailed before now → AtMostBothRise n before now
one-fault n before now one faults burns (inl rose) = elim (one-rise 0 1 0 before.faults before.faults now.faults (omega arith) rose (inr (omega arith))) [
  | inl last ↦ inl last
  | inr more ↦ inr (inr (omega (arith, one, more, burns)))
]
one-fault n before now one faults burns (inr z) = elim (one-rise 0 1 0 before.burns before.burns now.burns (omega arith) z.0 (inr (omega arith))) [
  | inl last ↦ inr (inl last)
  | inr more ↦ inr (inr (omega (arith, one, more, faults)))
]

-- it is so of stores with the same counts
pub same-rises : (n : ℕ) (before before' now now' : State) → before'.faults ≡ before.faults → before'.burns ≡ before.burns → now'.faults ≡ now.faults → now'.burns ≡ now.burns → AtMostBothRise n before now → AtMostBothRise n before' now'
same-rises n before before' now now' f b g c (inl last) = inl (omega (arith, last, g))
same-rises n before before' now now' f b g c (inr (inl last)) = inr (inl (omega (arith, last, c)))
same-rises n before before' now now' f b g c (inr (inr k)) = inr (inr (omega (arith, k, f, b, g, c)))

-- some happened, and then others
pub rise-then : (m n both : ℕ) (before middle now : State) → both ≡ m + n → middle.faults ≤ now.faults → middle.burns ≤ now.burns → AtMostBothRise m before middle → AtMostBothRise n middle now → AtMostBothRise both before now
rise-then m n both before middle now sum faults burns (inl last) l = inl (omega (arith, last, faults))
rise-then m n both before middle now sum faults burns (inr (inl last)) l = inr (inl (omega (arith, last, burns)))
rise-then m n both before middle now sum faults burns (inr (inr k)) (inl last) = inl last
rise-then m n both before middle now sum faults burns (inr (inr k)) (inr (inl last)) = inr (inl last)
rise-then m n both before middle now sum faults burns (inr (inr k)) (inr (inr l)) = inr (inr (omega (arith, sum, k, l)))

-- none came of stop lines or of the outside
pub lines-none : (n l f now : ℕ) → n ≡ 0 → AtMostRises (n + l + f) (l + f) now now
lines-none n l f now none = inr (omega (arith, none))

-- Some came of stop lines and of the outside, and then others: so did both. Of the lines l are to come at first and q in the end, and of fuses f is set at
-- first and p in the end.
pub lines-then : (m n both l f k e q p before middle now : ℕ) → both ≡ m + n → middle ≤ now → AtMostRises (m + k + e) (l + f) before middle → AtMostRises (n + q + p) (k + e) middle now → AtMostRises (both + q + p) (l + f) before now
lines-then m n both l f k e q p before middle now sum up (inl last) z = inl (omega (arith, last, up))
lines-then m n both l f k e q p before middle now sum up (inr j) (inl last) = inl last
lines-then m n both l f k e q p before middle now sum up (inr j) (inr z) = inr (omega (arith, sum, j, z))

-- ---- fuses

-- a fuse that is told isn't set by a call
pub fuse-less : (h k : State) → Fires h k → h.tells_fuse ≡ true → one_if k.fused ≤ one_if h.fused
fuse-less h k (inl same) tells = let e = ap one_if same.1 in omega (arith, e)
fuse-less h k (inr gone) tells =
    let off : k.fused ≡ false = ap (λ b. b && k.fused) (sym tells) ∙ gone.1 in
    let e = ap one_if off in omega (arith, e)

-- the stop line whose fuse was set is no more to come
pub fuse-taken : (t : ℕ) (stops : List StopDecl) → stop_lines_of t (without_first (is_stop_at t) stops) + one_if (nat_lt 0 (next_fuse t stops)) ≤ stop_lines_of t stops
fuse-taken t stops = by (slice_get_cases stops (position_or_len (is_stop_at t) stops)).1
  where
    gone : (p : StopDecl → Bool) (xs : List StopDecl) → length xs ≤ position_or_len p xs → without_first p xs ≡ xs
    gone p xs far = ap (λ ys. before_first p xs ++ ys) (drop_all (position_or_len p xs + 1) xs (omega (arith, far))) ∙ append-nil (before_first p xs) ∙ take_all (position_or_len p xs) xs far

    at-most : (b : Bool) → one_if b ≤ 1
    at-most true = omega arith
    at-most false = omega arith

    by : ((d : StopDecl) × (position_or_len (is_stop_at t) stops < length stops) × (slice_get stops (position_or_len (is_stop_at t) stops) ≡ Some d) × (get_or stops (position_or_len (is_stop_at t) stops) d ≡ d)) ⊎ ((length stops ≤ position_or_len (is_stop_at t) stops) × (slice_get stops (position_or_len (is_stop_at t) stops) ≡ None))
        → stop_lines_of t (without_first (is_stop_at t) stops) + one_if (nat_lt 0 (next_fuse t stops)) ≤ stop_lines_of t stops
    by (inl z) =
        let d = z.0 in
        let split : stops ≡ before_first (is_stop_at t) stops ++ d ∷ after_first (is_stop_at t) stops = split_at_first (is_stop_at t) stops d z.1 ∙ ap (λ e. before_first (is_stop_at t) stops ++ e ∷ after_first (is_stop_at t) stops) z.3 in
        let passes : is_stop_at t d ≡ true = ap (is_stop_at t) (sym z.3) ∙ passes_at_first (is_stop_at t) stops d z.1 in
        let whole : length (filter (is_stop_at t) stops) ≡ length (filter (is_stop_at t) (before_first (is_stop_at t) stops)) + length (filter (is_stop_at t) (d ∷ after_first (is_stop_at t) stops)) =
        ap (λ xs. length (filter (is_stop_at t) xs)) split ∙ ap length (filter-both (is_stop_at t) (before_first (is_stop_at t) stops) (d ∷ after_first (is_stop_at t) stops)) ∙ length-append (filter (is_stop_at t) (before_first (is_stop_at t) stops)) (filter (is_stop_at t) (d ∷ after_first (is_stop_at t) stops)) in
        let one : length (filter (is_stop_at t) (d ∷ after_first (is_stop_at t) stops)) ≡ length (filter (is_stop_at t) (after_first (is_stop_at t) stops)) + 1 = ap (λ b. length (if b then d ∷ filter (is_stop_at t) (after_first (is_stop_at t) stops) else filter (is_stop_at t) (after_first (is_stop_at t) stops))) passes ∙ omega arith in
        let left : length (filter (is_stop_at t) (without_first (is_stop_at t) stops)) ≡ length (filter (is_stop_at t) (before_first (is_stop_at t) stops)) + length (filter (is_stop_at t) (after_first (is_stop_at t) stops)) =
        ap length (filter-both (is_stop_at t) (before_first (is_stop_at t) stops) (after_first (is_stop_at t) stops)) ∙ length-append (filter (is_stop_at t) (before_first (is_stop_at t) stops)) (filter (is_stop_at t) (after_first (is_stop_at t) stops)) in
        let few = at-most (nat_lt 0 (next_fuse t stops)) in
        omega (arith, whole, one, left, few)
    by (inr z) =
        let none : one_if (nat_lt 0 (next_fuse t stops)) ≡ 0 = ap (λ o. one_if (nat_lt 0 (write_of o))) z.1 in
        let all : without_first (is_stop_at t) stops ≡ stops = gone (is_stop_at t) stops z.0 in
        let same = ap (λ xs. length (filter (is_stop_at t) xs)) all in
        omega (arith, none, same)
