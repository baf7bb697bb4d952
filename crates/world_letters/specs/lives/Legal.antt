-- What a legal report asks of the lines of targets, of the lines so far; and that it holds at every moment, and at the end.
use Rattle.std.specs.Prelude.{ℕ, zero, suc, ◌≡◌, ◌⊎◌, ◌≤◌, ◌++◌, nat_eq, Bool, true, false, List, [], ◌∷◌, All, Contains, length, filter, slice_get, Option, Some, None, refl, if◌then◌else◌}
use Rattle.std.specs.List.{IsDistinct}
use Rattle.std.specs.List.Sorted.{IsNonDecreasing, IsStrictlyIncreasing}
use Rattle.std.proofs.Common.{sym, ◌∙◌, ap, subst, arith, inl, inr}
use Rattle.std.proofs.lemmas.List.Elements.{All-cons, All-head, All-nil, All-tail}
use Rattle.base_types.specs.declared.report.Line.{Line}
use Rattle.base_types.specs.declared.report.Line.TheVariants as line
use Rattle.base_types.specs.declared.report.Report.{Report}
use Rattle.base_types.specs.declared.script.Script.{Script}
use Rattle.world_base.specs.model_laws.Members.{Has, has-filter, has-from_contains}
use Rattle.world_base.specs.model_laws.TargetLaws.{number_same, same_number}
use Rattle.daos_model.specs.Opening.{Outside}
use Rattle.daos_model.specs.Stops as told
use Rattle.daos_model.specs.Stops.{AreCounted, AreNumbered, AtMostWith, HasTarget, IsGivenUpBy, Standing, StopsLegal, StopsLegalAt, after, after_all, aggregate_numbers, down_targets, floors, given_up, incarnations, is_at, is_stop_at, least, lines_at, restart_numbers, stop_numbers, target_of}
use Rattle.world_base.specs.declared.target.Life.{Life}
use Rattle.world_base.specs.declared.target.Life.TheVariants.{Down, Running, Stopped}
use Rattle.world_base.specs.declared.target.TargetState.{TargetState}
use Rattle.world_base.specs.declared.world.World.{World}
use Rattle.world_letters.specs.lives.Adding.{after-append, aggregates-append, at-append, floors-append, incarnations-append, restarts-append, stops-append}
use Rattle.world_letters.specs.lives.Counting.{AreCountedSo}
use Rattle.world_letters.specs.lives.Lives.{Lives, standing_of}
use Rattle.world_letters.specs.lives.Numbers.{counted-left, distinct-left, kept-left, rising-left}

-- What a legal report asks of the lines that tell of stops, openings and ends, of the lines so far: each comes at its time, by how its
-- target stands then; a target's incarnations rise, and its floors don't fall; stops are counted; and no two restarts have one number, nor
-- two aggregations.
pub record AreInOrder (targets : ℕ) (lines : List Line) : Type 0 where
  pub bounded : All (HasTarget targets) lines
  pub stops : AreCounted 0 (stop_numbers lines)
  pub restarts : IsDistinct nat_eq (restart_numbers lines)
  pub aggregations : IsDistinct nat_eq (aggregate_numbers lines)
  pub alternate : (t : ℕ) → (z : Standing) × (after_all (Some told.Running) (lines_at t lines) ≡ Some z)
  pub rising : (t : ℕ) → IsStrictlyIncreasing (incarnations (lines_at t lines))
  pub kept : (t : ℕ) → IsNonDecreasing (floors (lines_at t lines))

-- ---- at every moment

-- of a target that isn't there no line tells
nobody-at : (t targets : ℕ) (ls : List Line) → targets ≤ t → All (HasTarget targets) ls → lines_at t ls ≡ []
nobody-at t targets [] past all = refl
nobody-at t targets (l ∷ ls) past all = by (is_at t l) refl (nobody-at t targets ls past (All-tail (HasTarget targets) l ls all))
  where
    off : (o : Option ℕ) → told.IsBelowSome targets o → told.is_number t o ≡ true → ⊥
    off None low e = let no : ⊥ = cc in no
    off (Some m) low e = let same : m ≡ t = number_same m t e in omega (arith, low, same, past)

    by : (b : Bool) → is_at t l ≡ b → lines_at t ls ≡ [] → (if b then l ∷ lines_at t ls else lines_at t ls) ≡ []
    by true e rest = absurd (off (target_of l) (All-head (HasTarget targets) l ls all) e)
    by false e rest = rest

-- a number is that of no element where there are no more
past-none : {T : Type 0} (xs : List T) (n : ℕ) → slice_get xs n ≡ None → length xs ≤ n
past-none [] n none = omega arith
past-none (x ∷ xs) zero none = let no : ⊥ = cc in absurd no
past-none (x ∷ xs) (suc n) none = let k = past-none xs n none in omega (arith, k)

-- what one target's lines are in
record InOrderAt (t : ℕ) (lines : List Line) : Type 0 where
  alternate : (z : Standing) × (after_all (Some told.Running) (lines_at t lines) ≡ Some z)
  rising : IsStrictlyIncreasing (incarnations (lines_at t lines))
  kept : IsNonDecreasing (floors (lines_at t lines))

in-order_at : (w : World) → Lives w → (t : ℕ) → InOrderAt t w.lines
in-order_at w k t = by (slice_get w.targets t) refl
  where
    by : (o : Option TargetState) → slice_get w.targets t ≡ o → InOrderAt t w.lines
    by (Some s) at = let z = k.told t s at in record { alternate = (standing_of s.life, z.stands); rising = z.rising; kept = z.kept }
    by None none =
        let empty : lines_at t w.lines ≡ [] = nobody-at t (length w.targets) w.lines (past-none w.targets t none) k.bounded in
        record {
          alternate = (told.Running, ap (after_all (Some told.Running)) empty);
          rising = subst (λ ls. IsStrictlyIncreasing (incarnations ls)) (sym empty) (λ n lt. absurd (omega (arith, lt)));
          kept = subst (λ ls. IsNonDecreasing (floors ls)) (sym empty) (λ i j d le lt. absurd (omega (arith, lt)));
        }

pub lives-in_order : (w : World) → Lives w → AreInOrder (length w.targets) w.lines
lives-in_order w k = record {
  bounded = k.bounded;
  stops = k.stops;
  restarts = k.restarts;
  aggregations = k.aggregations;
  alternate = λ t. (in-order_at w k t).alternate;
  rising = λ t. (in-order_at w k t).rising;
  kept = λ t. (in-order_at w k t).kept;
}

-- ---- of a part of the lines

all-left : (P : Line → Type 0) (xs ys : List Line) → All P (xs ++ ys) → All P xs
all-left P [] ys all = All-nil P
all-left P (x ∷ xs) ys all = All-cons P x xs (All-head P x (xs ++ ys) all) (all-left P xs ys (All-tail P x (xs ++ ys) all))

-- lines go somewhere only where those before them do
some-before : (o : Option Standing) (ys : List Line) (z : Standing) → after_all o ys ≡ Some z → (y : Standing) × (o ≡ Some y)
some-before None ys z e = let no : ⊥ = cc in absurd no
some-before (Some y) ys z e = (y, refl)

pub part-in_order : (targets : ℕ) (lines more : List Line) → AreInOrder targets (lines ++ more) → AreInOrder targets lines
part-in_order targets lines more k = record {
  bounded = all-left (HasTarget targets) lines more k.bounded;
  stops = counted-left 0 (stop_numbers lines) (stop_numbers more) (subst (AreCounted 0) (stops-append lines more) k.stops);
  restarts = distinct-left (restart_numbers lines) (restart_numbers more) (subst (IsDistinct nat_eq) (restarts-append lines more) k.restarts);
  aggregations = distinct-left (aggregate_numbers lines) (aggregate_numbers more) (subst (IsDistinct nat_eq) (aggregates-append lines more) k.aggregations);
  alternate = λ t. some-before (after_all (Some told.Running) (lines_at t lines)) (lines_at t more) (k.alternate t).0
      (sym (after-append (Some told.Running) (lines_at t lines) (lines_at t more)) ∙ ap (after_all (Some told.Running)) (sym (at-append t lines more)) ∙ (k.alternate t).1);
  rising = λ t. rising-left (incarnations (lines_at t lines)) (incarnations (lines_at t more)) (subst IsStrictlyIncreasing (ap incarnations (at-append t lines more) ∙ incarnations-append (lines_at t lines) (lines_at t more)) (k.rising t));
  kept = λ t. kept-left (floors (lines_at t lines)) (floors (lines_at t more)) (subst IsNonDecreasing (ap floors (at-append t lines more) ∙ floors-append (lines_at t lines) (lines_at t more)) (k.kept t));
}

-- ---- at the end

-- a target of which a line tells that it was given up is given up
down-told : (t : ℕ) (ls : List Line) → Contains (down_targets ls) t → Has (line.Down t) ls
down-told t ls i = by ls (has-from_contains (down_targets ls) t i)
  where
    by : (ls : List Line) → Has t (down_targets ls) → Has (line.Down t) ls
    by [] j = absurd j
    by (line.Try a ∷ ls) j = inr (by ls j)
    by (line.Stop n u ∷ ls) j = inr (by ls j)
    by (line.Restart n u inc floor ∷ ls) j = inr (by ls j)
    by (line.Freeze u c e ∷ ls) j = inr (by ls j)
    by (line.Snapshot name c e ∷ ls) j = inr (by ls j)
    by (line.Aggregate n u c e ∷ ls) j = inr (by ls j)
    by (line.Down u ∷ ls) (inl same) = inl (ap line.Down same)
    by (line.Down u ∷ ls) (inr j) = inr (by ls j)

-- nothing comes after that
pub down-last : (x : Standing) (ls : List Line) (t : ℕ) (z : Standing) → Has (line.Down t) ls → after_all (Some x) ls ≡ Some z → z ≡ told.Down
down-last x [] t z i e = absurd i
down-last x (l ∷ ls) t z (inl same) e = ends x ls (subst (λ m. after_all (after x m) ls ≡ Some z) (sym same) e)
  where
    ends : (x : Standing) (ls : List Line) → after_all (after x (line.Down t)) ls ≡ Some z → z ≡ told.Down
    ends told.Running ls e = let no : ⊥ = cc in absurd no
    ends told.Stopped [] e = let is : told.Down ≡ z = cc in sym is
    ends told.Stopped (m ∷ ls) e = let no : ⊥ = cc in absurd no
    ends told.Down ls e = let no : ⊥ = cc in absurd no
down-last x (l ∷ ls) t z (inr i) e = on (λ y ends. down-last y ls t z i ends) (after x l) e
  where
    on : ((y : Standing) → after_all (Some y) ls ≡ Some z → z ≡ told.Down) → (o : Option Standing) → after_all o ls ≡ Some z → z ≡ told.Down
    on rest None ends = let no : ⊥ = cc in absurd no
    on rest (Some y) ends = rest y ends

-- a world in which each target runs or is given up
abbrev pub NoneIsStopped : World → Type 0
NoneIsStopped w = (t : ℕ) (s : TargetState) → slice_get w.targets t ≡ Some s → (s.life ≡ Running) ⊎ (s.life ≡ Down)

-- what is known of the outside: it caused the stops that the script doesn't ask for, and what was given up
pub record AreCaused (s : Script) (o : Outside) (w : World) : Type 0 where
  pub stops : (t : ℕ) → AtMostWith (length (stop_numbers (lines_at t w.lines))) (length (filter (is_stop_at t) s.stops)) (o.rises t)
  pub given_up : (t : ℕ) (z : TargetState) → slice_get w.targets t ≡ Some z → z.life ≡ Down → IsGivenUpBy (o.rises t) (o.foreign t) (o.keeps t)

module _ (s : Script) (threads : Bool) (o : Outside) (w : World) (k : Lives w) (none : NoneIsStopped w) (caused : AreCaused s o w) where
  at : (t : ℕ) → StopsLegalAt s o w.lines t
  at t = by (slice_get w.targets t) refl
    where
      by : (x : Option TargetState) → slice_get w.targets t ≡ x → StopsLegalAt s o w.lines t
      by None gone =
          let empty : lines_at t w.lines ≡ [] = nobody-at t (length w.targets) w.lines (past-none w.targets t gone) k.bounded in
          record {
            alternate = inl (ap (after_all (Some told.Running)) empty);
            rising = (in-order_at w k t).rising;
            kept = (in-order_at w k t).kept;
            caused = caused.stops t;
            down = λ i. absurd (subst (Has (line.Down t)) empty (has-filter (is_at t) w.lines (line.Down t) (down-told t w.lines i) (same_number t)));
          }
      by (Some z) at =
          let tells = k.told t z at in
          record {
            alternate = elim (none t z at) [ inl runs ↦ inl (tells.stands ∙ ap (λ l. Some (standing_of l)) runs) | inr down ↦ inr (tells.stands ∙ ap (λ l. Some (standing_of l)) down) ];
            rising = tells.rising;
            kept = tells.kept;
            caused = caused.stops t;
            down = λ i. caused.given_up t z at (is-down z.life (down-last told.Running (lines_at t w.lines) t (standing_of z.life) (has-filter (is_at t) w.lines (line.Down t) (down-told t w.lines i) (same_number t)) tells.stands));
          }
        where
          is-down : (l : Life) → standing_of l ≡ told.Down → l ≡ Down
          is-down Running e = let no : ⊥ = cc in absurd no
          is-down Stopped e = let no : ⊥ = cc in absurd no
          is-down Down e = refl

  pub stops-legal : (q : Report) → q.lines ≡ w.lines → length w.targets ≡ s.targets → (threads ≡ false → AreCountedSo w) → q.down ≡ least (down_targets q.lines) → StopsLegal s threads o q
  stops-legal q lines targets counted down = record {
    bounded = subst (λ ls. All (HasTarget s.targets) ls) (sym lines) (subst (λ n. All (HasTarget n) w.lines) targets k.bounded);
    stops = subst (λ ls. AreCounted 0 (stop_numbers ls)) (sym lines) k.stops;
    restarts = subst (λ ls. AreNumbered threads (restart_numbers ls)) (sym lines) (record { distinct = k.restarts; counted = λ one. (counted one).restarts });
    aggregations = subst (λ ls. AreNumbered threads (aggregate_numbers ls)) (sym lines) (record { distinct = k.aggregations; counted = λ one. (counted one).aggregations });
    targets = λ t. subst (λ ls. StopsLegalAt s o ls t) (sym lines) (at t);
    down = down;
  }
