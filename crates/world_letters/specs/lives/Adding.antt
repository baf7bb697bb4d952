-- What is told of targets where lines are added, as targets go on, stop, open again or are given up.
use Rattle.std.specs.Prelude.{ℕ, zero, suc, ◌≡◌, ◌⊎◌, ◌≤◌, ◌<◌, ◌==◌, Bool, true, false, nat_eq, List, [], ◌∷◌, ◌++◌, All, filter, length, slice_get, slice_index_or, Option, Some, None, refl, if◌then◌else◌}
use Rattle.std.specs.List.{IsDistinct}
use Rattle.std.specs.List.Sorted.{IsNonDecreasing, IsStrictlyIncreasing}
use Rattle.std.proofs.Common.{append-nil, sym, ◌∙◌, ap, subst, arith, inl, inr}
use Rattle.std.proofs.Math.ListN.{set}
use Rattle.std.proofs.lemmas.List.{length-set}
use Rattle.std.proofs.lemmas.List.Elements.{All-append, All-push, All-weaker, filter-append}
use Rattle.std.proofs.lemmas.Option.{slice_get_within}
use Rattle.base_types.specs.declared.report.Line.{Line}
use Rattle.base_types.specs.declared.report.Line.TheVariants as line
use Rattle.base_types.specs.Epochs.{restart_floor}
use Rattle.world_base.specs.model_laws.Members.{Has}
use Rattle.world_base.specs.model_laws.TargetLaws.{number_same, same_number}
use Rattle.daos_model.specs.Stops as told
use Rattle.daos_model.specs.Stops.{AreCounted, HasTarget, Standing, after, after_all, aggregate_numbers, aggregated_number, floors, incarnations, is_at, is_number, lines_at, opened_floor, opened_incarnation, restart_numbers, restarted_number, stop_numbers, stopped_number, target_of}
use Rattle.world_base.specs.declared.target.TargetState.{TargetState}
use Rattle.world_base.specs.declared.world.World.{World}
use Rattle.world_base.specs.StepLaws.{set-is, set-there}
use Rattle.world_base.specs.Stops.{IsBelowNumbers, IsFreeAggregate, IsFreeRestart, is_aggregate_of, is_restart_of, stops_so_far}
use Rattle.world_letters.specs.lives.Lives.{Lives, TellsOf, standing_of}
use Rattle.world_letters.specs.lives.Numbers.{counted-on, distinct-push, gather-append, gather-has, kept-push, rising-push}
use Rattle.base_types.specs.declared.report.Attempt.{Attempt}
use Rattle.daos_model.specs.Attempts.{tries}

-- ---- what is added

-- a target stays open, or opens again: with a higher incarnation, and with the floor that covers its lease
pub data Opens (s z : TargetState) (raised set_to : List ℕ) : Type 0 where
  StaysAsItIs : raised ≡ [] → set_to ≡ [] → Opens s z raised set_to
  OpensAgain : s.durable.incarnation < z.durable.incarnation → raised ≡ z.durable.incarnation ∷ [] → set_to ≡ restart_floor s.durable.lease ∷ [] → Opens s z raised set_to

-- a target becomes what it is by these lines
pub record GoesBy (more : List Line) (t : ℕ) (s z : TargetState) : Type 0 where
  pub stands : after_all (Some (standing_of s.life)) (lines_at t more) ≡ Some (standing_of z.life)
  pub incarnation : s.durable.incarnation ≤ z.durable.incarnation
  pub lease : s.durable.lease ≤ z.durable.lease
  pub opens : Opens s z (incarnations (lines_at t more)) (floors (lines_at t more))

-- no number, or one that is free
pub data HasNew (IsFree : ℕ → Type 0) (numbers : List ℕ) : Type 0 where
  NoNumber : numbers ≡ [] → HasNew IsFree numbers
  OneNumber : (n : ℕ) → IsFree n → numbers ≡ n ∷ [] → HasNew IsFree numbers

-- of a target that stops one stop is told more, and of no other
abbrev pub stops_of : Option ℕ → ℕ → ℕ
stops_of None t = 0
stops_of (Some u) t = if u == t then 1 else 0

-- a world in which lines were added, as this target stopped, or none
pub record Adds (who : Option ℕ) (w v : World) : Type 0 where
  pub more : List Line
  pub lines : v.lines ≡ w.lines ++ more
  pub numbers : v.numbers ≡ w.numbers
  pub few : length v.targets ≡ length w.targets
  pub targets : (t : ℕ) (z : TargetState) → slice_get v.targets t ≡ Some z → (s : TargetState) × (slice_get w.targets t ≡ Some s) × GoesBy more t s z
  pub bounded : All (HasTarget (length w.targets)) more
  pub stops : AreCounted (stops_so_far w.lines) (stop_numbers more)
  pub stopped : (t : ℕ) → length (stop_numbers (lines_at t more)) ≡ stops_of who t
  pub restarts : HasNew (IsFreeRestart w) (restart_numbers more)
  pub aggregations : HasNew (IsFreeAggregate w) (aggregate_numbers more)

-- ---- lists of lines

pub at-append : (t : ℕ) (xs ys : List Line) → lines_at t (xs ++ ys) ≡ lines_at t xs ++ lines_at t ys
at-append t xs ys = filter-append (is_at t) xs ys

pub after-append : (o : Option Standing) (xs ys : List Line) → after_all o (xs ++ ys) ≡ after_all (after_all o xs) ys
after-append None xs ys = refl
after-append (Some z) [] ys = refl
after-append (Some z) (l ∷ xs) ys = after-append (after z l) xs ys

pub stops-append : (xs ys : List Line) → stop_numbers (xs ++ ys) ≡ stop_numbers xs ++ stop_numbers ys
stops-append = gather-append stopped_number stop_numbers refl (λ l ls. refl)

pub restarts-append : (xs ys : List Line) → restart_numbers (xs ++ ys) ≡ restart_numbers xs ++ restart_numbers ys
restarts-append = gather-append restarted_number restart_numbers refl (λ l ls. refl)

pub aggregates-append : (xs ys : List Line) → aggregate_numbers (xs ++ ys) ≡ aggregate_numbers xs ++ aggregate_numbers ys
aggregates-append = gather-append aggregated_number aggregate_numbers refl (λ l ls. refl)

pub incarnations-append : (xs ys : List Line) → incarnations (xs ++ ys) ≡ incarnations xs ++ incarnations ys
incarnations-append = gather-append opened_incarnation incarnations refl (λ l ls. refl)

pub floors-append : (xs ys : List Line) → floors (xs ++ ys) ≡ floors xs ++ floors ys
floors-append = gather-append opened_floor floors refl (λ l ls. refl)

-- the stops so far are counted by their numbers
pub stops-counted : (ls : List Line) → stops_so_far ls ≡ length (stop_numbers ls)
stops-counted [] = refl
stops-counted (line.Try a ∷ ls) = stops-counted ls
stops-counted (line.Stop n t ∷ ls) = let k = stops-counted ls in omega (arith, k)
stops-counted (line.Restart n t inc floor ∷ ls) = stops-counted ls
stops-counted (line.Freeze t c e ∷ ls) = stops-counted ls
stops-counted (line.Snapshot name c e ∷ ls) = stops-counted ls
stops-counted (line.Aggregate n t c e ∷ ls) = stops-counted ls
stops-counted (line.Down t ∷ ls) = stops-counted ls

-- a free number is that of no line
module _ (n : ℕ) where
  one-apart : (m : ℕ) (rest : List Line) (l : Line) → (if m == n then l ∷ rest else rest) ≡ [] → (nat_eq m n ≡ false) × (rest ≡ [])
  one-apart m rest l e = by (m == n) refl e
    where
      by : (b : Bool) → (m == n) ≡ b → (if b then l ∷ rest else rest) ≡ [] → (nat_eq m n ≡ false) × (rest ≡ [])
      by true is e = let no : ⊥ = cc in absurd no
      by false is e = (is, e)

  pub restart-apart : (ls : List Line) → filter (is_restart_of n) ls ≡ [] → (m : ℕ) → Has m (restart_numbers ls) → nat_eq m n ≡ false
  restart-apart [] e m i = absurd i
  restart-apart (line.Try a ∷ ls) e m i = restart-apart ls e m i
  restart-apart (line.Stop k t ∷ ls) e m i = restart-apart ls e m i
  restart-apart (line.Restart k t inc floor ∷ ls) e m (inl same) = subst (λ x. nat_eq x n ≡ false) (sym same) (one-apart k (filter (is_restart_of n) ls) (line.Restart k t inc floor) e).0
  restart-apart (line.Restart k t inc floor ∷ ls) e m (inr i) = restart-apart ls (one-apart k (filter (is_restart_of n) ls) (line.Restart k t inc floor) e).1 m i
  restart-apart (line.Freeze t c f ∷ ls) e m i = restart-apart ls e m i
  restart-apart (line.Snapshot name c f ∷ ls) e m i = restart-apart ls e m i
  restart-apart (line.Aggregate k t c f ∷ ls) e m i = restart-apart ls e m i
  restart-apart (line.Down t ∷ ls) e m i = restart-apart ls e m i

  pub aggregate-apart : (ls : List Line) → filter (is_aggregate_of n) ls ≡ [] → (m : ℕ) → Has m (aggregate_numbers ls) → nat_eq m n ≡ false
  aggregate-apart [] e m i = absurd i
  aggregate-apart (line.Try a ∷ ls) e m i = aggregate-apart ls e m i
  aggregate-apart (line.Stop k t ∷ ls) e m i = aggregate-apart ls e m i
  aggregate-apart (line.Restart k t inc floor ∷ ls) e m i = aggregate-apart ls e m i
  aggregate-apart (line.Freeze t c f ∷ ls) e m i = aggregate-apart ls e m i
  aggregate-apart (line.Snapshot name c f ∷ ls) e m i = aggregate-apart ls e m i
  aggregate-apart (line.Aggregate k t c f ∷ ls) e m (inl same) = subst (λ x. nat_eq x n ≡ false) (sym same) (one-apart k (filter (is_aggregate_of n) ls) (line.Aggregate k t c f) e).0
  aggregate-apart (line.Aggregate k t c f ∷ ls) e m (inr i) = aggregate-apart ls (one-apart k (filter (is_aggregate_of n) ls) (line.Aggregate k t c f) e).1 m i
  aggregate-apart (line.Down t ∷ ls) e m i = aggregate-apart ls e m i

-- ---- one target

module _ (lines more : List Line) (t : ℕ) (s z : TargetState) (k : TellsOf lines t s) (g : GoesBy more t s z) where
  raised : incarnations (lines_at t (lines ++ more)) ≡ incarnations (lines_at t lines) ++ incarnations (lines_at t more)
  raised = ap incarnations (at-append t lines more) ∙ incarnations-append (lines_at t lines) (lines_at t more)

  set_to : floors (lines_at t (lines ++ more)) ≡ floors (lines_at t lines) ++ floors (lines_at t more)
  set_to = ap floors (at-append t lines more) ∙ floors-append (lines_at t lines) (lines_at t more)

  low : All (λ n. n ≤ z.durable.incarnation) (incarnations (lines_at t lines))
  low = All-weaker (λ n. n ≤ s.durable.incarnation) (λ n. n ≤ z.durable.incarnation) (λ n le. let up : s.durable.incarnation ≤ z.durable.incarnation = g.incarnation in omega (arith, le, up)) (incarnations (lines_at t lines)) k.opened

  under : All (λ f. f ≤ restart_floor z.durable.lease) (floors (lines_at t lines))
  under = All-weaker (λ f. f ≤ restart_floor s.durable.lease) (λ f. f ≤ restart_floor z.durable.lease) (λ f le. let up : s.durable.lease ≤ z.durable.lease = g.lease in omega (arith, le, up)) (floors (lines_at t lines)) k.covered

  record Opened (incs fs : List ℕ) : Type 0 where
    rising : IsStrictlyIncreasing incs
    opened : All (λ n. n ≤ z.durable.incarnation) incs
    kept : IsNonDecreasing fs
    covered : All (λ f. f ≤ restart_floor z.durable.lease) fs

  opened-by : (incs fs : List ℕ) → Opens s z incs fs → Opened (incarnations (lines_at t lines) ++ incs) (floors (lines_at t lines) ++ fs)
  opened-by incs fs (StaysAsItIs none stays) = record {
    rising = subst IsStrictlyIncreasing (sym (with-none incs none (incarnations (lines_at t lines)))) k.rising;
    opened = subst (All (λ n. n ≤ z.durable.incarnation)) (sym (with-none incs none (incarnations (lines_at t lines)))) low;
    kept = subst IsNonDecreasing (sym (with-none fs stays (floors (lines_at t lines)))) k.kept;
    covered = subst (All (λ f. f ≤ restart_floor z.durable.lease)) (sym (with-none fs stays (floors (lines_at t lines)))) under;
  }
    where
      with-none : (ns : List ℕ) → ns ≡ [] → (ms : List ℕ) → ms ++ ns ≡ ms
      with-none ns e ms = ap (λ x. ms ++ x) e ∙ append-nil ms
  opened-by incs fs (OpensAgain higher one floor) = record {
    rising = subst (λ x. IsStrictlyIncreasing (incarnations (lines_at t lines) ++ x)) (sym one)
        (rising-push (incarnations (lines_at t lines)) z.durable.incarnation k.rising (All-weaker (λ n. n ≤ s.durable.incarnation) (λ n. n < z.durable.incarnation) (λ n le. omega (arith, le, higher)) (incarnations (lines_at t lines)) k.opened));
    opened = subst (λ x. All (λ n. n ≤ z.durable.incarnation) (incarnations (lines_at t lines) ++ x)) (sym one) (All-push (λ n. n ≤ z.durable.incarnation) (incarnations (lines_at t lines)) z.durable.incarnation low (omega arith));
    kept = subst (λ x. IsNonDecreasing (floors (lines_at t lines) ++ x)) (sym floor) (kept-push (floors (lines_at t lines)) (restart_floor s.durable.lease) k.kept k.covered);
    covered = subst (λ x. All (λ f. f ≤ restart_floor z.durable.lease) (floors (lines_at t lines) ++ x)) (sym floor)
        (All-push (λ f. f ≤ restart_floor z.durable.lease) (floors (lines_at t lines)) (restart_floor s.durable.lease) under (let up : s.durable.lease ≤ z.durable.lease = g.lease in omega (arith, up)));
  }

  told-on : TellsOf (lines ++ more) t z
  told-on = record {
    stands = ap (after_all (Some told.Running)) (at-append t lines more) ∙ after-append (Some told.Running) (lines_at t lines) (lines_at t more) ∙ ap (λ o. after_all o (lines_at t more)) k.stands ∙ g.stands;
    rising = subst IsStrictlyIncreasing (sym raised) all.rising;
    opened = subst (All (λ n. n ≤ z.durable.incarnation)) (sym raised) all.opened;
    kept = subst IsNonDecreasing (sym set_to) all.kept;
    covered = subst (All (λ f. f ≤ restart_floor z.durable.lease)) (sym set_to) all.covered;
  }
    where
      all : Opened (incarnations (lines_at t lines) ++ incarnations (lines_at t more)) (floors (lines_at t lines) ++ floors (lines_at t more))
      all = opened-by (incarnations (lines_at t more)) (floors (lines_at t more)) g.opens

-- ---- numbers that are new

with-new : (IsFree : ℕ → Type 0) (old new : List ℕ) → ((n : ℕ) → IsFree n → (m : ℕ) → Has m old → nat_eq m n ≡ false) → HasNew IsFree new → IsDistinct nat_eq old → IsDistinct nat_eq (old ++ new)
with-new IsFree old new apart (NoNumber none) k = subst (λ ns. IsDistinct nat_eq (old ++ ns)) (sym none) (subst (IsDistinct nat_eq) (sym (append-nil old)) k)
with-new IsFree old new apart (OneNumber n free one) k = subst (λ ns. IsDistinct nat_eq (old ++ ns)) (sym one) (distinct-push old n k (apart n free))

-- a number that is new is free
new-free : (IsFree : ℕ → Type 0) (ns : List ℕ) (m : ℕ) → HasNew IsFree ns → Has m ns → IsFree m
new-free IsFree ns m (NoNumber none) i = absurd (subst (Has m) none i)
new-free IsFree ns m (OneNumber n free one) i = by (subst (Has m) one i)
  where
    by : Has m (n ∷ []) → IsFree m
    by (inl same) = subst IsFree (sym same) free
    by (inr none) = absurd none

below-drawn : (w : World) (more : List Line) → HasNew (IsFreeRestart w) (restart_numbers more) → HasNew (IsFreeAggregate w) (aggregate_numbers more) → (l : Line) → Has l more → IsBelowNumbers w.numbers l
below-drawn w more restarts aggregations (line.Restart m t inc floor) i = (new-free (IsFreeRestart w) (restart_numbers more) m restarts (gather-has restarted_number restart_numbers refl (λ l ls. refl) more (line.Restart m t inc floor) m i (inl refl))).drawn
below-drawn w more restarts aggregations (line.Aggregate m t c upto) i = (new-free (IsFreeAggregate w) (aggregate_numbers more) m aggregations (gather-has aggregated_number aggregate_numbers refl (λ l ls. refl) more (line.Aggregate m t c upto) m i (inl refl))).drawn
below-drawn w more restarts aggregations l i = tt

pub all-of : (P : Line → Type 0) (ls : List Line) → ((l : Line) → Has l ls → P l) → All P ls
all-of P ls each k d lt = each (slice_index_or ls k d) (at-has ls k d lt)
  where
    at-has : (ls : List Line) (k : ℕ) (d : Line) → k < length ls → Has (slice_index_or ls k d) ls
    at-has [] k d lt = absurd (omega (arith, lt))
    at-has (l ∷ ls) zero d lt = inl refl
    at-has (l ∷ ls) (suc k) d lt = inr (at-has ls k d (omega (arith, lt)))

-- ---- the law

-- so what lines tell of targets stays so
pub adds-keeps : (who : Option ℕ) (w v : World) → Adds who w v → Lives w → Lives v
adds-keeps who w v a k = record {
  told = λ t z at. let s = a.targets t z at in subst (λ ls. TellsOf ls t z) (sym a.lines) (told-on w.lines a.more t s.0 z (k.told t s.0 s.1) s.2);
  bounded = subst (λ ls. All (HasTarget (length v.targets)) ls) (sym a.lines) (subst (λ n. All (HasTarget n) (w.lines ++ a.more)) (sym a.few) (All-append (HasTarget (length w.targets)) w.lines a.more k.bounded a.bounded));
  stops = subst (AreCounted 0) (sym (ap stop_numbers a.lines ∙ stops-append w.lines a.more)) (counted-on (stop_numbers w.lines) (stop_numbers a.more) k.stops (subst (λ n. AreCounted n (stop_numbers a.more)) (stops-counted w.lines) a.stops));
  restarts = subst (IsDistinct nat_eq) (sym (ap restart_numbers a.lines ∙ restarts-append w.lines a.more))
      (with-new (IsFreeRestart w) (restart_numbers w.lines) (restart_numbers a.more) (λ n free m i. restart-apart n w.lines free.unused m i) a.restarts k.restarts);
  aggregations = subst (IsDistinct nat_eq) (sym (ap aggregate_numbers a.lines ∙ aggregates-append w.lines a.more))
      (with-new (IsFreeAggregate w) (aggregate_numbers w.lines) (aggregate_numbers a.more) (λ n free m i. aggregate-apart n w.lines free.unused m i) a.aggregations k.aggregations);
  drawn = subst (λ ls. All (IsBelowNumbers v.numbers) ls) (sym a.lines) (subst (λ ns. All (IsBelowNumbers ns) (w.lines ++ a.more)) (sym a.numbers)
      (All-append (IsBelowNumbers w.numbers) w.lines a.more k.drawn (all-of (IsBelowNumbers w.numbers) a.more (below-drawn w a.more a.restarts a.aggregations))));
}

-- where no line tells of a stop, none stops
pub none-stopped : (more : List Line) → stop_numbers more ≡ [] → (t : ℕ) → length (stop_numbers (lines_at t more)) ≡ 0
none-stopped [] none t = refl
none-stopped (line.Stop n u ∷ more) none t = let no : ⊥ = cc in absurd no
none-stopped (line.Try a ∷ more) none t = none-stopped more none t
none-stopped (line.Snapshot name c e ∷ more) none t = none-stopped more none t
none-stopped (line.Restart n u inc floor ∷ more) none t = by (u == t) (none-stopped more none t)
  where
    by : (b : Bool) → length (stop_numbers (lines_at t more)) ≡ 0 → length (stop_numbers (if b then line.Restart n u inc floor ∷ lines_at t more else lines_at t more)) ≡ 0
    by true k = k
    by false k = k
none-stopped (line.Freeze u c e ∷ more) none t = by (u == t) (none-stopped more none t)
  where
    by : (b : Bool) → length (stop_numbers (lines_at t more)) ≡ 0 → length (stop_numbers (if b then line.Freeze u c e ∷ lines_at t more else lines_at t more)) ≡ 0
    by true k = k
    by false k = k
none-stopped (line.Aggregate n u c e ∷ more) none t = by (u == t) (none-stopped more none t)
  where
    by : (b : Bool) → length (stop_numbers (lines_at t more)) ≡ 0 → length (stop_numbers (if b then line.Aggregate n u c e ∷ lines_at t more else lines_at t more)) ≡ 0
    by true k = k
    by false k = k
none-stopped (line.Down u ∷ more) none t = by (u == t) (none-stopped more none t)
  where
    by : (b : Bool) → length (stop_numbers (lines_at t more)) ≡ 0 → length (stop_numbers (if b then line.Down u ∷ lines_at t more else lines_at t more)) ≡ 0
    by true k = k
    by false k = k

-- ---- one target by lines of its own

-- lines of a target, or of none
abbrev pub AreOf : ℕ → List Line → Type 0
AreOf t more = (l : Line) → Has l more → (target_of l ≡ None) ⊎ (target_of l ≡ Some t)

-- of another target they tell nothing
pub none-at : (t u : ℕ) (more : List Line) → (u ≡ t → ⊥) → AreOf t more → lines_at u more ≡ []
none-at t u [] apart own = refl
none-at t u (l ∷ more) apart own = by (is_at u l) refl (none-at t u more apart (λ m i. own m (inr i)))
  where
    off : (target_of l ≡ None) ⊎ (target_of l ≡ Some t) → is_at u l ≡ true → ⊥
    off (inl none) e = let f : is_at u l ≡ false = ap (is_number u) none in let no : ⊥ = cc in no
    off (inr one) e = apart (sym (number_same t u (sym (ap (is_number u) one) ∙ e)))

    by : (b : Bool) → is_at u l ≡ b → lines_at u more ≡ [] → (if b then l ∷ lines_at u more else lines_at u more) ≡ []
    by true e rest = absurd (off (own l (inl refl)) e)
    by false e rest = rest

has-target : (t targets : ℕ) (l : Line) → t < targets → (target_of l ≡ None) ⊎ (target_of l ≡ Some t) → HasTarget targets l
has-target t targets l less (inl none) = subst (told.IsBelowSome targets) (sym none) tt
has-target t targets l less (inr one) = subst (told.IsBelowSome targets) (sym one) less

-- a target of which no line tells goes on as it was
pub goes-on : (more : List Line) (t : ℕ) (s z : TargetState) → lines_at t more ≡ [] → z.life ≡ s.life → s.durable.incarnation ≤ z.durable.incarnation → s.durable.lease ≤ z.durable.lease → GoesBy more t s z
goes-on more t s z none life incarnation lease = record {
  stands = ap (after_all (Some (standing_of s.life))) none ∙ ap (λ l. Some (standing_of l)) (sym life);
  incarnation = incarnation;
  lease = lease;
  opens = StaysAsItIs (ap incarnations none) (ap floors none);
}

-- one target changed, by lines of its own
pub one-adds : (who : Option ℕ) (w v : World) (t : ℕ) (s z : TargetState) (more : List Line) → slice_get w.targets t ≡ Some s → v.targets ≡ set w.targets t z → v.lines ≡ w.lines ++ more → v.numbers ≡ w.numbers → AreOf t more → GoesBy more t s z
    → AreCounted (stops_so_far w.lines) (stop_numbers more) → ((u : ℕ) → length (stop_numbers (lines_at u more)) ≡ stops_of who u) → HasNew (IsFreeRestart w) (restart_numbers more)
    → HasNew (IsFreeAggregate w) (aggregate_numbers more) → Adds who w v
one-adds who w v t s z more here targets lines numbers own goes stops stopped restarts aggregations = record {
  more = more;
  lines = lines;
  numbers = numbers;
  few = ap length targets ∙ length-set w.targets t z;
  targets = λ u y at. placed u y (ap (λ ts. slice_get ts u) (sym targets) ∙ at);
  bounded = all-of (HasTarget (length w.targets)) more (λ l i. has-target t (length w.targets) l (slice_get_within w.targets t s here) (own l i));
  stops = stops;
  stopped = stopped;
  restarts = restarts;
  aggregations = aggregations;
}
  where
    placed : (u : ℕ) (y : TargetState) → slice_get (set w.targets t z) u ≡ Some y → (x : TargetState) × (slice_get w.targets u ≡ Some x) × GoesBy more u x y
    placed u y at = by (u == t) refl
      where
        by : (b : Bool) → (u == t) ≡ b → (x : TargetState) × (slice_get w.targets u ≡ Some x) × GoesBy more u x y
        by true same =
            let e : u ≡ t = number_same u t same in
            let is : z ≡ y = set-is w.targets t z y (subst (λ n. slice_get (set w.targets t z) n ≡ Some y) e at) in
            (s, subst (λ n. slice_get w.targets n ≡ Some s) (sym e) here, subst (λ n. GoesBy more n s y) (sym e) (subst (GoesBy more t s) is goes))
        by false other =
            let apart : u ≡ t → ⊥ = λ e. let is : (u == t) ≡ true = ap (λ n. n == t) e ∙ same_number t in let no : ⊥ = cc (other, is) in no in
            (y, sym (set-there w.targets t u z apart) ∙ at, goes-on more u y y (none-at t u more apart own) refl (omega arith) (omega arith))

-- where the line of an attempt stands
pub try-at : (ls : List Line) (a : Attempt) → Has a (tries ls) → (before : List Line) × (after : List Line) × (ls ≡ before ++ line.Try a ∷ after)
unfolding tries
try-at [] a i = absurd i
try-at (l ∷ ls) a i = by l i (try-at ls a)
  where
    later : (l : Line) → (before : List Line) × (after : List Line) × (ls ≡ before ++ line.Try a ∷ after) → (before : List Line) × (after : List Line) × (l ∷ ls ≡ before ++ line.Try a ∷ after)
    later l z = (l ∷ z.0, z.1, ap (λ y. l ∷ y) z.2)

    by : (l : Line) → Has a (tries (l ∷ ls)) → (Has a (tries ls) → (before : List Line) × (after : List Line) × (ls ≡ before ++ line.Try a ∷ after)) → (before : List Line) × (after : List Line) × (l ∷ ls ≡ before ++ line.Try a ∷ after)
    by (line.Try b) (inl same) rest = ([], ls, ap (λ y. line.Try y ∷ ls) (sym same))
    by (line.Try b) (inr i) rest = later (line.Try b) (rest i)
    by l i rest = later l (rest i)
