-- A target that stops, or is given up, and the loss of what goes to targets that are given up, keep the facts of attempts.
use Rattle.std.specs.Prelude.{ℕ, zero, suc, ◌≡◌, ◌⊎◌, ◌+◌, ◌==◌, Bool, true, false, ◌&&◌, not, List, [], ◌∷◌, ◌++◌, filter, map, slice_get, Option, Some, None, refl}
use Rattle.std.proofs.Common.{sym, ◌∙◌, ap, subst, arith, inl, inr}
use Rattle.std.proofs.Math.ListN.{set}
use Rattle.std.proofs.lemmas.Bool.Decides.{nat_tests}
use Rattle.base_types.specs.declared.epoch.Epoch.{Epoch}
use Rattle.base_types.specs.declared.id.AttemptId.{AttemptId}
use Rattle.model_laws.specs.Members.{Has, has-cases, has-from_filter, has-from_map, has-left}
use Rattle.daos_model.specs.BoolLaws.{false_of}
use Rattle.daos_model.specs.Durables.{entry_key, entry_of}
use Rattle.daos_model.specs.Ordered.{is_rising}
use Rattle.dtx_base.specs.declared.leading.Undecided.{Undecided}
use Rattle.dtx_base.specs.Leading.{undecided_attempt}
use Rattle.dtx_base.specs.Rows.{is_among, itself, row_key, row_of}
use Rattle.world_commit.specs.attempts.Attempts.{IsOrdered, count, entry_at, entry_in, inc_at, inc_in, is_known_at, is_known_in, row_at, row_in}
use Rattle.world_commit.specs.attempts.Counting.{count-append, count-map}
use Rattle.world_commit.specs.attempts.History.{History}
use Rattle.world_commit.specs.attempts.Turning.{one-or_another}
use Rattle.world_commit.specs.fates.Facts.{Attempts, IsQuiet, RunsAt, down_in}
use Rattle.world_commit.specs.stops.Counts.{count-filtered}
use Rattle.world_commit.specs.stops.Losing.{Leaves, losing-keeps}
use Rattle.world_commit.specs.stops.Losses.{Loses, is_lost}
use Rattle.world_commit.specs.stops.Parts.{all-now, now-here, now-same, now-there}
use Rattle.world_base.specs.declared.letter.Letter.{Letter}
use Rattle.world_base.specs.declared.target.Life.{Life}
use Rattle.world_base.specs.declared.target.Life.TheVariants.{Down, Running, Stopped}
use Rattle.world_base.specs.declared.target.TargetState.{TargetState}
use Rattle.world_base.specs.declared.world.World.{World}
use Rattle.world_base.specs.CutTurns.{Cutting}
use Rattle.world_base.specs.Events.{Rules}
use Rattle.world_base.specs.Stops.{TargetGivenUp, after_cut, is_down_at, is_given_up, is_not_to, is_not_to_down, is_to, is_to_down, no_memory, reset_letter, resets, stopped_at, swept}

-- this target alone
abbrev pub only : ℕ → ℕ → Bool
only t u = u == t

-- ---- what goes to one target is lost

module _ (t : ℕ) (down : Bool) (w v : World) (messages : v.messages ≡ filter (is_not_to t) w.messages ++ resets t down w.asked) (asked : v.asked ≡ filter (is_not_to t) w.asked) where
  lost-counts : (p : Letter → Bool) → count p v.messages ≡ count (λ l. not (is_lost (only t) l) && p l) w.messages + count (λ q. is_lost (only t) q && (true && p (reset_letter down q))) w.asked
  lost-counts p =
      let all = count-append p (filter (is_not_to t) w.messages) (resets t down w.asked) in
      let one = count-filtered p (is_not_to t) w.messages in
      let two = count-map p (λ q. p (reset_letter down q)) (reset_letter down) (filter (is_to t) w.asked) (λ q. refl) in
      let three = count-filtered (λ q. p (reset_letter down q)) (is_to t) w.asked in
      ap (count p) messages ∙ omega (arith, all, one, two, three)

  lost-came : (l : Letter) → Has l v.messages → Has l w.messages ⊎ ((q : Letter) × Has q w.asked × (reset_letter down q ≡ l))
  lost-came l i = elim (has-cases (filter (is_not_to t) w.messages) (resets t down w.asked) l (subst (Has l) messages i)) [
    | inl before ↦ inl (has-from_filter (is_not_to t) w.messages l before).0
    | inr new ↦ let q = has-from_map (reset_letter down) (filter (is_to t) w.asked) l new in inr (q.0, (has-from_filter (is_to t) w.asked q.0 q.1).0, q.2)
  ]

  pub one-loses : Loses (only t) down w v
  one-loses = record { comes = λ q. true; back = λ q off. refl; counts = lost-counts; came = lost-came; asked = asked }

-- ---- a target stops

unordered : (s z : TargetState) → IsOrdered s → z.durable ≡ s.durable → z.memory ≡ no_memory → IsOrdered z
unordered s z k durable memory = record {
  entries = subst (λ d. is_rising entry_key d.entries ≡ true) (sym durable) k.entries;
  decided = subst (λ m. is_rising (row_key itself) m.leader.decided ≡ true) (sym memory) refl;
}

-- a target that keeps what it kept and knows nothing
module _ (w v : World) (t : ℕ) (s z : TargetState) (here : slice_get w.targets t ≡ Some s) (targets : v.targets ≡ set w.targets t z) (durable : z.durable ≡ s.durable) (memory : z.memory ≡ no_memory)
    (off : z.life ≡ Running → ⊥) (issued : (x : AttemptId) (e : Epoch) → Has (x, e) w.issued → Has (x, e) v.issued) where
  entry : (u : ℕ) (x : AttemptId) → entry_at v u x ≡ entry_at w u x
  entry u x = now-same w v t s z here targets (λ o. entry_in o x) (ap (λ d. entry_of d x) durable) u

  inc : (u : ℕ) → inc_at v u ≡ inc_at w u
  inc u = now-same w v t s z here targets inc_in (ap (λ d. d.incarnation) durable) u

  row-gone : (x : AttemptId) → row_at v t x ≡ None
  row-gone x = now-here w v t s z here targets (λ o. row_in o x) ∙ ap (λ m. row_of undecided_attempt x m.leader.undecided) memory

  known-gone : (x : AttemptId) → is_known_at v t x ≡ false
  known-gone x = now-here w v t s z here targets (λ o. is_known_in o x) ∙ ap (λ m. is_among x m.leader.decided) memory

  apart : (u : ℕ) → (u ≡ t → ⊥) → only t u ≡ false
  apart u other = false_of (u == t) (λ is. other (number-is u t is))
    where
      number-is : (a b : ℕ) → (a == b) ≡ true → a ≡ b
      number-is a b is = grind (arith, nat_tests)

  other-of : (u : ℕ) → only t u ≡ false → u ≡ t → ⊥
  other-of u off2 is = let on : only t u ≡ true = number-itself u t is in (let no : ⊥ = cc (on, off2) in no)
    where
      number-itself : (a b : ℕ) → a ≡ b → (a == b) ≡ true
      number-itself a b is = grind (arith, nat_tests)

  row-there : (u : ℕ) (x : AttemptId) (q : Undecided) → row_at v u x ≡ Some q → (only t u ≡ false) × (row_at w u x ≡ Some q)
  row-there u x q at = elim (one-or_another u t) [
    | inl is ↦ let none : row_at v u x ≡ None = ap (λ n. row_at v n x) is ∙ row-gone x in (let no : ⊥ = cc (none, at) in absurd no)
    | inr other ↦ (apart u other, sym (now-there w v t s z here targets (λ o. row_in o x) u other) ∙ at)
  ]

  known-there : (u : ℕ) (x : AttemptId) → is_known_at v u x ≡ true → is_known_at w u x ≡ true
  known-there u x at = elim (one-or_another u t) [
    | inl is ↦ let none : is_known_at v u x ≡ false = ap (λ n. is_known_at v n x) is ∙ known-gone x in (let no : ⊥ = cc (none, at) in absurd no)
    | inr other ↦ sym (now-there w v t s z here targets (λ o. is_known_in o x) u other) ∙ at
  ]

  elsewhere : (u : ℕ) → RunsAt v u → u ≡ t → ⊥
  elsewhere u runs is = off (runs z (ap (slice_get v.targets) is ∙ now-here w v t s z here targets (λ o. o)))

  pub one-leaves : ((u : ℕ) (y : TargetState) → slice_get w.targets u ≡ Some y → IsOrdered y) → ((u : ℕ) (y : TargetState) → slice_get w.targets u ≡ Some y → IsQuiet y) → Leaves (only t) w v
  one-leaves ordered quiet = record {
    entries = record { entry = entry; issued = issued; incarnation = λ u. let same = inc u in omega (arith, same) };
    incarnation = inc;
    row = row-there;
    known = known-there;
    down = λ u m off2. now-there w v t s z here targets (λ o. down_in o m) u (other-of u off2);
    runs = λ u runs y at. runs y (now-there w v t s z here targets (λ o. o) u (elsewhere u runs) ∙ at);
    row_on = λ u x runs. now-there w v t s z here targets (λ o. row_in o x) u (elsewhere u runs);
    known_on = λ u x runs. now-there w v t s z here targets (λ o. is_known_in o x) u (elsewhere u runs);
    ordered = all-now w v t s z here targets IsOrdered (unordered s z (ordered t s here) durable memory) ordered;
    quiet = all-now w v t s z here targets IsQuiet (λ off2. memory) quiet;
  }

-- a turn of a target is cut, and what it keeps is as before
pub stop-keeps : (r : Rules) (h : History) (w v : World) (t : ℕ) (s : TargetState) (cut : Cutting) → slice_get w.targets t ≡ Some s → cut.left.durable ≡ s.durable → v ≡ after_cut w t s cut → Attempts r h w → Attempts r h v
stop-keeps r h w v t s cut here durable follows k =
    losing-keeps r h w v (only t) false
    (one-leaves w v t s (stopped_at s cut.left) here (ap (λ u. u.targets) follows) durable refl (λ is. let no : ⊥ = cc in no)
    (λ x e i. subst (Has (x, e)) (sym (ap (λ u. u.issued) follows)) (has-left w.issued cut.issued (x, e) i)) k.on.ordered k.on.quiet)
    (one-loses t false w v (ap (λ u. u.messages) follows) (ap (λ u. u.asked) follows)) k

-- a target is given up
pub giving-up-keeps : (r : Rules) (h : History) (w v : World) → TargetGivenUp r w v → Attempts r h w → Attempts r h v
giving-up-keeps r h w v g k =
    losing-keeps r h w v (only g.t) true
    (one-leaves w v g.t g.s (record g.s { life = Down }) g.here (ap (λ u. u.targets) g.after) refl (k.on.quiet g.t g.s g.here (λ is. stopped-not g.s.life g.stopped is)) (λ is. let no : ⊥ = cc in no)
    (λ x e i. subst (Has (x, e)) (sym (ap (λ u. u.issued) g.after)) i) k.on.ordered k.on.quiet)
    (one-loses g.t true w v (ap (λ u. u.messages) g.after) (ap (λ u. u.asked) g.after)) k
  where
    stopped-not : (l : Life) → l ≡ Stopped → l ≡ Running → ⊥
    stopped-not l p q = let bad : Stopped ≡ Running = sym p ∙ q in (let no : ⊥ = cc in no)

-- ---- what goes to targets that are given up is lost

module _ (w : World) where
  abbrev gone : ℕ → Bool
  gone = is_down_at w.targets

  down-there : (ss : List TargetState) (t : ℕ) (s : TargetState) → slice_get ss t ≡ Some s → is_down_at ss t ≡ is_given_up s.life
  down-there [] t s at = let no : ⊥ = cc in absurd no
  down-there (x ∷ ss) zero s at = let one : x ≡ s = cc in ap (λ y. is_given_up y.life) one
  down-there (x ∷ ss) (suc t) s at = down-there ss t s at

  none-there : (ss : List TargetState) (t : ℕ) → slice_get ss t ≡ None → is_down_at ss t ≡ false
  none-there [] t at = refl
  none-there (x ∷ ss) zero at = let no : ⊥ = cc in absurd no
  none-there (x ∷ ss) (suc t) at = none-there ss t at

  swept-counts : (p : Letter → Bool) → count p (swept w).messages ≡ count (λ l. not (is_lost gone l) && p l) w.messages + count (λ q. is_lost gone q && (is_not_to_down w.targets (reset_letter true q) && p (reset_letter true q))) w.asked
  swept-counts p =
      let all = count-filtered p (is_not_to_down w.targets) (w.messages ++ map (reset_letter true) (filter (is_to_down w.targets) w.asked)) in
      let parts = count-append (λ l. is_not_to_down w.targets l && p l) w.messages (map (reset_letter true) (filter (is_to_down w.targets) w.asked)) in
      let two = count-map (λ l. is_not_to_down w.targets l && p l) (λ q. is_not_to_down w.targets (reset_letter true q) && p (reset_letter true q)) (reset_letter true) (filter (is_to_down w.targets) w.asked) (λ q. refl) in
      let three = count-filtered (λ q. is_not_to_down w.targets (reset_letter true q) && p (reset_letter true q)) (is_to_down w.targets) w.asked in
      omega (arith, all, parts, two, three)

  swept-came : (l : Letter) → Has l (swept w).messages → Has l w.messages ⊎ ((q : Letter) × Has q w.asked × (reset_letter true q ≡ l))
  swept-came l i = elim (has-cases w.messages (map (reset_letter true) (filter (is_to_down w.targets) w.asked)) l (has-from_filter (is_not_to_down w.targets) (w.messages ++ map (reset_letter true) (filter (is_to_down w.targets) w.asked)) l i).0) [
    | inl before ↦ inl before
    | inr new ↦ let q = has-from_map (reset_letter true) (filter (is_to_down w.targets) w.asked) l new in inr (q.0, (has-from_filter (is_to_down w.targets) w.asked q.0 q.1).0, q.2)
  ]

  swept-loses : Loses gone true w (swept w)
  swept-loses = record { comes = λ q. is_not_to_down w.targets (reset_letter true q); back = λ q off. ap not off; counts = swept-counts; came = swept-came; asked = refl }

  module _ (r : Rules) (h : History) (k : Attempts r h w) where
    -- who is given up knows nothing
    knows-none : (t : ℕ) (x : AttemptId) (u : Undecided) → row_at w t x ≡ Some u → gone t ≡ false
    knows-none t x u at = by (slice_get w.targets t) refl
      where
        by : (o : Option TargetState) → slice_get w.targets t ≡ o → is_down_at w.targets t ≡ false
        by None none = none-there w.targets t none
        by (Some s) here = false_of (is_down_at w.targets t) (λ down.
            let quiet = k.on.quiet t s here (λ runs. let bad : false ≡ true = sym (ap is_given_up runs) ∙ sym (down-there w.targets t s here) ∙ down in (let no : ⊥ = cc in no)) in
            let none : row_at w t x ≡ None = ap (λ o. row_in o x) here ∙ ap (λ m. row_of undecided_attempt x m.leader.undecided) quiet in
            (let no : ⊥ = cc (none, at) in no))

    swept-leaves : Leaves gone w (swept w)
    swept-leaves = record {
      entries = record { entry = λ t x. refl; issued = λ x e i. i; incarnation = λ t. omega arith };
      incarnation = λ t. refl;
      row = λ t x u at. (knows-none t x u at, at);
      known = λ t x is. is;
      down = λ t m off. refl;
      runs = λ t runs. runs;
      row_on = λ t x runs. refl;
      known_on = λ t x runs. refl;
      ordered = k.on.ordered;
      quiet = k.on.quiet;
    }

    pub sweeping-keeps : Attempts r h (swept w)
    sweeping-keeps = losing-keeps r h w (swept w) gone true swept-leaves swept-loses k
