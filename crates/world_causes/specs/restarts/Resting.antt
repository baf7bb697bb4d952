-- What stays of a world in which no client does anything and no target issues an epoch: a target stops, opens again, fails to, or is given
-- up, or what goes to targets that are given up is lost.
use Rattle.std.specs.Prelude.{ℕ, ◌≡◌, ◌⊎◌, ◌≤◌, ◌++◌, Bool, true, false, List, [], ◌∷◌, filter, map, length, Contains, slice_get, Option, Some, None, refl}
use Rattle.std.proofs.Common.{sym, ◌∙◌, ap, subst, arith, append-nil, inl, inr}
use Rattle.std.proofs.Math.ListN.{set}
use Rattle.std.proofs.lemmas.List.{length-set, append_assoc}
use Rattle.base_types.specs.declared.entry.Entry.{Entry}
use Rattle.base_types.specs.declared.report.Attempt.{Attempt}
use Rattle.base_types.specs.declared.report.Line.{Line}
use Rattle.base_types.specs.declared.report.Line.TheVariants as line
use Rattle.base_messages.specs.declared.message.Message.{Message}
use Rattle.base_messages.specs.declared.message.Message.TheVariants as message
use Rattle.base_messages.specs.declared.message.Post.{Post}
use Rattle.model_laws.specs.Members.{Has, contains-from_has, has-cases, has-from_contains, has-from_filter, has-from_map}
use Rattle.daos_model.specs.Attempts.{tries}
use Rattle.daos_model.specs.Changes.{reopened}
use Rattle.daos_model.specs.Laws.{tries-append}
use Rattle.dtx_base.specs.declared.member.Parked.{Parked}
use Rattle.dtx_base.specs.Leading.{is_led, is_open}
use Rattle.dtx_base.specs.Members.{other_members}
use Rattle.world_contents.specs.world_commit.attempts.Turning.{one-or_another}
use Rattle.world_base.specs.declared.letter.Letter.{Letter}
use Rattle.world_base.specs.declared.target.Life.TheVariants.{Down, Running}
use Rattle.world_base.specs.declared.target.TargetState.{TargetState}
use Rattle.world_base.specs.declared.world.World.{World}
use Rattle.world_base.specs.Events.{Rules, target_plan}
use Rattle.world_base.specs.Letters.{letter_of, letters_of, target}
use Rattle.world_base.specs.Statuses.{opening_posts, status_to, statuses_for, statuses_of}
use Rattle.world_base.specs.StepLaws.{set-here, set-there}
use Rattle.world_base.specs.CutTurns.{Cutting}
use Rattle.world_base.specs.Stops.{NumbersDrawn, OpeningFails, TargetGivenUp, TargetOpens, after_cut, is_not_to, is_not_to_down, is_to, is_to_down, opened_at, reset_letter, resets, restart_line, stopped_at, stops_so_far, swept, with_lost}
use Rattle.world_contents.specs.reads.EventLaws.{at-or-there}
use Rattle.daos_model.specs.declared.durable.Durable.{Durable}

-- a message that tells of no epoch, no answer and no end: that something is lost, or what a member holds is asked
abbrev pub is_silent : Message → Bool
is_silent (message.Reset' t down place q) = true
is_silent (message.Status x inc) = true
is_silent m = false

-- a target keeps its lease or raises it, has no other entries and waiting Fetches but ones of attempts with these epochs, and where it
-- runs its ticks cover what they covered
pub record RestsAt (w : World) (s z : TargetState) : Type 0 where
  pub lease : s.durable.lease ≤ z.durable.lease
  pub ticks : z.life ≡ Running → ((s.life ≡ Running) × (s.memory.ticks ≤ z.memory.ticks)) ⊎ (z.durable.lease ≤ z.memory.ticks)
  pub entries : (k : Entry) → Contains z.durable.entries k → Contains s.durable.entries k ⊎ Contains w.issued (k.attempt, k.epoch)
  pub parked : (p : Parked) → Contains z.memory.member.parked p → Contains s.memory.member.parked p

pub record Rests (w v : World) : Type 0 where
  pub clients : v.clients ≡ w.clients
  pub issued : v.issued ≡ w.issued
  pub more : List Line
  pub lines : v.lines ≡ w.lines ++ more
  pub no_tries : (a : Attempt) → Has (line.Try a) more → ⊥
  pub messages : (l : Letter) → Contains v.messages l → Contains w.messages l ⊎ (is_silent l.message ≡ true)
  pub few : length v.targets ≡ length w.targets
  pub there : (t : ℕ) (s : TargetState) → slice_get w.targets t ≡ Some s → (z : TargetState) × (slice_get v.targets t ≡ Some z)
  pub targets : (t : ℕ) (z : TargetState) → slice_get v.targets t ≡ Some z → (s : TargetState) × (slice_get w.targets t ≡ Some s) × RestsAt w s z

pub rests-same : (w : World) (s : TargetState) → RestsAt w s s
rests-same w s = record { lease = omega arith; ticks = λ runs. inl (runs, low s.memory.ticks); entries = λ k i. inl i; parked = λ p i. i }
  where
    low : (n : ℕ) → n ≤ n
    low n = omega arith

-- ---- lines

pub tries-none : (ls : List Line) → ((a : Attempt) → Has (line.Try a) ls → ⊥) → tries ls ≡ []
unfolding tries
tries-none [] none = refl
tries-none (line.Try a ∷ ls) none = absurd (none a (inl refl))
tries-none (line.Stop n t ∷ ls) none = tries-none ls (λ a i. none a (inr i))
tries-none (line.Restart n t inc floor ∷ ls) none = tries-none ls (λ a i. none a (inr i))
tries-none (line.Freeze t c e ∷ ls) none = tries-none ls (λ a i. none a (inr i))
tries-none (line.Snapshot n c e ∷ ls) none = tries-none ls (λ a i. none a (inr i))
tries-none (line.Aggregate n t c e ∷ ls) none = tries-none ls (λ a i. none a (inr i))
tries-none (line.Down t ∷ ls) none = tries-none ls (λ a i. none a (inr i))

pub same-tries : (w v : World) → Rests w v → tries v.lines ≡ tries w.lines
same-tries w v k = ap tries k.lines ∙ tries-append w.lines k.more ∙ ap (λ as'. tries w.lines ++ as') (tries-none k.more k.no_tries) ∙ append-nil (tries w.lines)

-- ---- one target

module _ (w v : World) (t : ℕ) (s z : TargetState) (here : slice_get w.targets t ≡ Some s) (targets : v.targets ≡ set w.targets t z) where
  pub one-few : length v.targets ≡ length w.targets
  one-few = ap length targets ∙ length-set w.targets t z

  pub one-there : (u : ℕ) (y : TargetState) → slice_get w.targets u ≡ Some y → (x : TargetState) × (slice_get v.targets u ≡ Some x)
  one-there u y at = by (slice_get v.targets u) refl
    where
      by : (o : Option TargetState) → slice_get v.targets u ≡ o → (x : TargetState) × (slice_get v.targets u ≡ Some x)
      by (Some x) is = (x, is)
      by None is = other (one-or_another u t)
        where
          other : (u ≡ t) ⊎ (u ≡ t → ⊥) → (x : TargetState) × (slice_get v.targets u ≡ Some x)
          other (inl same) = let found : slice_get v.targets u ≡ Some z = ap (λ ts. slice_get ts u) targets ∙ subst (λ n. slice_get (set w.targets t z) n ≡ Some z) (sym same) (set-here w.targets t s z here) in (z, found)
          other (inr apart) = let found : slice_get v.targets u ≡ Some y = ap (λ ts. slice_get ts u) targets ∙ set-there w.targets t u z apart ∙ at in (y, found)

  pub one-rests : RestsAt w s z → (u : ℕ) (y : TargetState) → slice_get v.targets u ≡ Some y → (x : TargetState) × (slice_get w.targets u ≡ Some x) × RestsAt w x y
  one-rests k u y at = elim (at-or-there w.targets t s z here u y (ap (λ ts. slice_get ts u) (sym targets) ∙ at)) [
    | inl same ↦ (s, subst (λ n. slice_get w.targets n ≡ Some s) (sym same.0) here, subst (RestsAt w s) (sym same.1) k)
    | inr old ↦ (y, old.1, rests-same w y)
  ]

-- ---- what is lost

lost-messages : (t : ℕ) (down : Bool) (w : World) (l : Letter) → Contains (with_lost t down w).messages l → Contains w.messages l ⊎ (is_silent l.message ≡ true)
lost-messages t down w l i = elim (has-cases (filter (is_not_to t) w.messages) (resets t down w.asked) l (has-from_contains (filter (is_not_to t) w.messages ++ resets t down w.asked) l i)) [
  | inl j ↦ inl (contains-from_has w.messages l (has-from_filter (is_not_to t) w.messages l j).0)
  | inr j ↦ (let z = has-from_map (reset_letter down) (filter (is_to t) w.asked) l j in inr (ap (λ y. is_silent y.message) (sym z.2)))
]

-- ---- the events

-- a target stops whose turn issued nothing
pub stop-rests : (w v : World) (t : ℕ) (s : TargetState) (cut : Cutting) → slice_get w.targets t ≡ Some s → v ≡ after_cut w t s cut → cut.issued ≡ [] → ((a : Attempt) → Has (line.Try a) cut.lines → ⊥) → s.durable.lease ≤ cut.left.durable.lease
    → ((k : Entry) → Contains cut.left.durable.entries k → Contains s.durable.entries k ⊎ Contains w.issued (k.attempt, k.epoch)) → Rests w v
stop-rests w v t s cut here after none silent lease entries = record {
  clients = ap (λ u. u.clients) after;
  issued = ap (λ u. u.issued) after ∙ ap (λ is. w.issued ++ is) none ∙ append-nil w.issued;
  more = cut.lines ++ line.Stop (stops_so_far w.lines) t ∷ [];
  lines = ap (λ u. u.lines) after ∙ append_assoc w.lines cut.lines (line.Stop (stops_so_far w.lines) t ∷ []);
  no_tries = λ a i. elim (has-cases cut.lines (line.Stop (stops_so_far w.lines) t ∷ []) (line.Try a) i) [ inl j ↦ silent a j | inr j ↦ stop a j ];
  messages = λ l i. lost-messages t false w l (subst (λ u. Contains u.messages l) after i);
  few = one-few w v t s z here (ap (λ u. u.targets) after);
  there = one-there w v t s z here (ap (λ u. u.targets) after);
  targets = one-rests w v t s z here (ap (λ u. u.targets) after) (record { lease = lease; ticks = λ runs. let no : ⊥ = cc in absurd no; entries = entries; parked = λ p i. absurd (has-from_contains [] p i) });
}
  where
    z : TargetState
    z = stopped_at s cut.left

    stop : (a : Attempt) → Has (line.Try a) (line.Stop (stops_so_far w.lines) t ∷ []) → ⊥
    stop a (inl same) = let no : ⊥ = cc in no
    stop a (inr i) = i

status-silent : (inc : ℕ) (es : List Entry) (p : Post) → Has p (statuses_for inc es) → is_silent p.message ≡ true
status-silent inc [] p i = absurd i
status-silent inc (e ∷ es) p i = elim (has-cases (statuses_of inc e) (statuses_for inc es) p i) [
  | inl j ↦ (let z = has-from_map (status_to inc e.attempt) (other_members e) p j in ap (λ y. is_silent y.message) (sym z.2))
  | inr j ↦ status-silent inc es p j
]

opening-silent : (r : Rules) (w : World) (t : ℕ) (d : Durable) (l : Letter) → Contains (w.messages ++ letters_of (target t) (opening_posts (target_plan r t) d)) l → Contains w.messages l ⊎ (is_silent l.message ≡ true)
unfolding opening_posts
opening-silent r w t d l i = elim (has-cases w.messages (letters_of (target t) (opening_posts (target_plan r t) d)) l (has-from_contains (w.messages ++ letters_of (target t) (opening_posts (target_plan r t) d)) l i)) [
  | inl j ↦ inl (contains-from_has w.messages l j)
  | inr j ↦ (let z = has-from_map (letter_of (target t)) (opening_posts (target_plan r t) d) l j in inr (subst (λ y. is_silent y.message ≡ true) z.2 (status-silent d.incarnation (filter is_open (filter (is_led t) d.entries)) z.0 z.1)))
]

pub opening-rests : (r : Rules) (w v : World) → TargetOpens r w v → Rests w v
unfolding reopened
opening-rests r w v g = record {
  clients = ap (λ u. u.clients) g.after;
  issued = ap (λ u. u.issued) g.after;
  more = restart_line g.number g.t g.s.durable ∷ [];
  lines = ap (λ u. u.lines) g.after;
  no_tries = λ a i. restart a i;
  messages = λ l i. opening-silent r w g.t (reopened g.s.durable) l (subst (λ u. Contains u.messages l) g.after i);
  few = one-few w v g.t g.s z g.here (ap (λ u. u.targets) g.after);
  there = one-there w v g.t g.s z g.here (ap (λ u. u.targets) g.after);
  targets = one-rests w v g.t g.s z g.here (ap (λ u. u.targets) g.after) (record { lease = low g.s.durable.lease; ticks = λ runs. inr (low g.s.durable.lease); entries = λ k i. inl i; parked = λ p i. absurd (has-from_contains [] p i) });
}
  where
    z : TargetState
    z = opened_at r g.t g.number g.s g.free

    low : (n : ℕ) → n ≤ n
    low n = omega arith

    restart : (a : Attempt) → Has (line.Try a) (restart_line g.number g.t g.s.durable ∷ []) → ⊥
    restart a (inl same) = let no : ⊥ = cc in no
    restart a (inr i) = i

pub failure-rests : (r : Rules) (w v : World) → OpeningFails r w v → Rests w v
unfolding reopened
failure-rests r w v g = record {
  clients = ap (λ u. u.clients) g.after;
  issued = ap (λ u. u.issued) g.after;
  more = [];
  lines = ap (λ u. u.lines) g.after ∙ sym (append-nil w.lines);
  no_tries = λ a i. i;
  messages = λ l i. inl (subst (λ u. Contains u.messages l) g.after i);
  few = one-few w v g.t g.s z g.here (ap (λ u. u.targets) g.after);
  there = one-there w v g.t g.s z g.here (ap (λ u. u.targets) g.after);
  targets = one-rests w v g.t g.s z g.here (ap (λ u. u.targets) g.after) (left g.left);
}
  where
    z : TargetState
    z = record g.s { durable = g.k.durable; free = g.k.free }

    stopped : z.life ≡ Running → ⊥
    stopped runs = let no : ⊥ = cc (g.stopped, runs) in no

    low : (n : ℕ) → n ≤ n
    low n = omega arith

    same : (d : Durable) → d.lease ≡ g.s.durable.lease → d.entries ≡ g.s.durable.entries → g.k.durable ≡ d → RestsAt w g.s z
    same d lease entries is = record {
      lease = subst (λ n. g.s.durable.lease ≤ n) (sym (ap (λ y. y.lease) is ∙ lease)) (low g.s.durable.lease);
      ticks = λ runs. absurd (stopped runs);
      entries = λ k i. inl (subst (λ es. Contains es k) (ap (λ y. y.entries) is ∙ entries) i);
      parked = λ p i. i;
    }

    left : (g.k.durable ≡ g.s.durable) ⊎ (g.k.durable ≡ reopened g.s.durable) → RestsAt w g.s z
    left (inl is) = same g.s.durable refl refl is
    left (inr is) = same (reopened g.s.durable) refl refl is

pub given_up-rests : (r : Rules) (w v : World) → TargetGivenUp r w v → Rests w v
given_up-rests r w v g = record {
  clients = ap (λ u. u.clients) g.after;
  issued = ap (λ u. u.issued) g.after;
  more = line.Down g.t ∷ [];
  lines = ap (λ u. u.lines) g.after;
  no_tries = λ a i. down a i;
  messages = λ l i. lost-messages g.t true w l (subst (λ u. Contains u.messages l) g.after i);
  few = one-few w v g.t g.s z g.here (ap (λ u. u.targets) g.after);
  there = one-there w v g.t g.s z g.here (ap (λ u. u.targets) g.after);
  targets = one-rests w v g.t g.s z g.here (ap (λ u. u.targets) g.after) (record { lease = low g.s.durable.lease; ticks = λ runs. let no : ⊥ = cc in absurd no; entries = λ k i. inl i; parked = λ p i. i });
}
  where
    z : TargetState
    z = record g.s { life = Down }

    low : (n : ℕ) → n ≤ n
    low n = omega arith

    down : (a : Attempt) → Has (line.Try a) (line.Down g.t ∷ []) → ⊥
    down a (inl same) = let no : ⊥ = cc in no
    down a (inr i) = i

-- what goes to targets that are given up is lost
pub sweep-rests : (w : World) → Rests w (swept w)
sweep-rests w = record {
  clients = refl;
  issued = refl;
  more = [];
  lines = sym (append-nil w.lines);
  no_tries = λ a i. i;
  messages = λ l i. elim (has-cases w.messages told l (has-from_filter (is_not_to_down w.targets) (w.messages ++ told) l (has-from_contains (swept w).messages l i)).0) [
    | inl j ↦ inl (contains-from_has w.messages l j)
    | inr j ↦ (let z = has-from_map (reset_letter true) (filter (is_to_down w.targets) w.asked) l j in inr (ap (λ y. is_silent y.message) (sym z.2)))
  ];
  few = refl;
  there = λ u y at. (y, at);
  targets = λ u y at. (y, at, rests-same w y);
}
  where
    told : List Letter
    told = map (reset_letter true) (filter (is_to_down w.targets) w.asked)

pub numbers-rests : (w v : World) → NumbersDrawn w v → Rests w v
numbers-rests w v g = record {
  clients = ap (λ u. u.clients) g.after;
  issued = ap (λ u. u.issued) g.after;
  more = [];
  lines = ap (λ u. u.lines) g.after ∙ sym (append-nil w.lines);
  no_tries = λ a i. i;
  messages = λ l i. inl (subst (λ u. Contains u.messages l) g.after i);
  few = ap (λ u. length u.targets) g.after;
  there = λ u y at. (y, ap (λ x. slice_get x.targets u) g.after ∙ at);
  targets = λ u y at. (y, ap (λ x. slice_get x.targets u) (sym g.after) ∙ at, rests-same w y);
}
