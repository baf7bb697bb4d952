-- Stops and openings keep the facts of losses.
use Rattle.std.specs.Prelude.{ℕ, ◌≡◌, ◌==◌, ◌++◌, Bool, true, false, not, ◌&&◌, [], ◌∷◌, filter, map, slice_get, Contains, Option, Some, refl}
use Rattle.std.proofs.Common.{append-nil, append_assoc, sym, ◌∙◌, ap, subst, inl, inr, arith}
use Rattle.std.proofs.Math.ListN.{set}
use Rattle.std.proofs.lemmas.Bool.Decides.{nat_tests}
use Rattle.base_types.specs.declared.id.AttemptId.{AttemptId}
use Rattle.base_types.specs.declared.report.Line.TheVariants as line
use Rattle.model_laws.specs.Members.{Has, has-cases, has-from_filter, has-from_map, has-right}
use Rattle.daos_model.specs.Accesses.{attempt_targets}
use Rattle.daos_model.specs.Attempts.{tries}
use Rattle.daos_model.specs.Durables.{entry_of}
use Rattle.world_contents.specs.world_commit.attempts.Attempts.{entry_at, entry_in, leader_of}
use Rattle.world_contents.specs.world_commit.attempts.Turning.{one-or_another}
use Rattle.world_base.specs.declared.letter.Letter.{Letter}
use Rattle.world_base.specs.declared.target.Life.{Life}
use Rattle.world_base.specs.declared.target.Life.TheVariants.{Down, Running, Stopped}
use Rattle.world_base.specs.declared.target.TargetState.{TargetState}
use Rattle.world_base.specs.declared.world.World.{World}
use Rattle.world_base.specs.Events.{Rules, kept, target_plan}
use Rattle.world_base.specs.Letters.{target}
use Rattle.world_base.specs.StepLaws.{set-here, set-there}
use Rattle.world_base.specs.Stops.{AtWork, CutOf, Hearing, IdleWork, NumbersDrawn, OpeningFails, TargetCut, TargetGivenUp, is_not_to, is_not_to_down, is_to, is_to_down, reset_letter, resets, stopped_at, stops_so_far, swept}
use Rattle.world_contents.specs.world_commit.stops.Questions.{reopened-entry}
use Rattle.world_contents.specs.world_letters.epochs.Epochs.{IsAt}
use Rattle.world_causes.specs.losses.Losses.{AsksItsTargets, LeadersAreTargets, Rests, StoppedSince, is_asked_of, tells_stop}
use Rattle.world_causes.specs.losses.Recalling.{Recalls}
use Rattle.world_causes.specs.losses.Since.{since-stop}
use Rattle.world_causes.specs.outcomes.Untried.{hearing-untried, idling-untried, untried-both, untried-none, untried-one}

-- ---- targets

-- a leader rests then that rested before, unless it is this target
pub rests-before : (r : Rules) (w v : World) (t : ℕ) (z : TargetState) → v.targets ≡ set w.targets t z → (x : AttemptId) → (leader_of r x ≡ t → ⊥) → Rests r v x → Rests r w x
rests-before r w v t z targets x off rests = record {
  s = rests.s;
  here = there (λ o. o) ∙ rests.here;
  off = rests.off;
  held = record { entry = rests.held.entry; found = there (λ o. entry_in o x) ∙ rests.held.found };
}
  where
    there : {T : Type 0} (part : Option TargetState → T) → part (slice_get w.targets (leader_of r x)) ≡ part (slice_get v.targets (leader_of r x))
    there part = sym (ap (λ ts. part (slice_get ts (leader_of r x))) targets ∙ ap part (set-there w.targets t (leader_of r x) z off))

-- one that rested and goes on to rest
rests-still : (r : Rules) (w v : World) (t : ℕ) (s z : TargetState) → slice_get w.targets t ≡ Some s → v.targets ≡ set w.targets t z → (s.life ≡ Running → ⊥) → ((x : AttemptId) → entry_of z.durable x ≡ entry_of s.durable x) → (x : AttemptId) → Rests r v x → Rests r w x
rests-still r w v t s z here targets off same x rests = elim (one-or_another (leader_of r x) t) [
  | inl is ↦ record {
    s = s;
    here = ap (slice_get w.targets) is ∙ here;
    off = off;
    held = record {
      entry = rests.held.entry;
      found = ap (λ n. entry_at w n x) is ∙ ap (λ o. entry_in o x) here ∙ sym (same x) ∙ sym (ap (λ ts. entry_in (slice_get ts t) x) targets ∙ ap (λ o. entry_in o x) (set-here w.targets t s z here)) ∙ sym (ap (λ n. entry_at v n x) is) ∙ rests.held.found;
    };
  }
  | inr apart ↦ rests-before r w v t z targets x apart rests
]

-- ---- a turn is cut

number-is : (t u : ℕ) → (t == u) ≡ true → t ≡ u
number-is t u is = grind (arith, nat_tests)

to-number : (t : ℕ) (l : Letter) → is_to t l ≡ true → l.to.number ≡ t
to-number t l is = number-is l.to.number t (and-right (not l.to.client) (l.to.number == t) is)
  where
    and-right : (a b : Bool) → (a && b) ≡ true → b ≡ true
    and-right true b is = is
    and-right false b is = let no : ⊥ = cc in absurd no

pub cut-recalls : (r : Rules) (w v : World) → AsksItsTargets r w → LeadersAreTargets r v → TargetCut r w v → Recalls r w v
cut-recalls r w v asks leads g = record {
  clients = ap (λ u. u.clients) g.after;
  more = g.cut.lines ++ line.Stop (stops_so_far w.lines) g.t ∷ [];
  lines = ap (λ u. u.lines) g.after ∙ append_assoc w.lines g.cut.lines (line.Stop (stops_so_far w.lines) g.t ∷ []);
  untried = none;
  letters = λ l x i is at. elim (has-cases (filter (is_not_to g.t) w.messages) (resets g.t false w.asked) l (subst (Has l) (ap (λ u. u.messages) g.after) i)) [
    | inl before ↦ inl (has-from_filter (is_not_to g.t) w.messages l before).0
    | inr new ↦
        let q = has-from_map (reset_letter false) (filter (is_to g.t) w.asked) l new in
        let old = has-from_filter (is_to g.t) w.asked q.0 q.1 in
        let own : is_asked_of x q.0.message ≡ true = subst (λ n. tells_stop x n.message ≡ true) (sym q.2) is in
        inr (stopped x (subst (Contains (attempt_targets r.script x)) (to-number g.t q.0 old.1) (asks q.0 x old.0 own at)))
  ];
  asked = λ l x i is asks at. inl (has-from_filter (is_not_to g.t) w.asked l (subst (Has l) (ap (λ u. u.asked) g.after) i)).0;
  resting = λ x rests at. elim (one-or_another (leader_of r x) g.t) [
    | inl is ↦ inr (stopped x (subst (Contains (attempt_targets r.script x)) is (leads x (subst (λ cs. IsAt r cs x) (sym (ap (λ u. u.clients) g.after)) at) rests.held)))
    | inr off ↦ inl (rests-before r w v g.t (stopped_at g.s g.cut.left) (ap (λ u. u.targets) g.after) x off rests)
  ];
}
  where
    untried : (a : AtWork) → CutOf (target_plan r g.t) g.s a g.cut → tries g.cut.lines ≡ []
    untried IdleWork turn = idling-untried (target_plan r g.t) g.s.opening g.s.memory 0 0 (target g.t) (kept g.s) g.cut turn
    untried (Hearing l reading number) turn = hearing-untried (target_plan r g.t) g.s.opening g.s.memory reading number l.from (kept g.s) g.cut l.message turn

    none : tries (g.cut.lines ++ line.Stop (stops_so_far w.lines) g.t ∷ []) ≡ []
    none = untried-both g.cut.lines (line.Stop (stops_so_far w.lines) g.t ∷ []) (untried g.work g.turn) (untried-one (line.Stop (stops_so_far w.lines) g.t) refl)

    stopped : (x : AttemptId) → Contains (attempt_targets r.script x) g.t → StoppedSince r (w.lines ++ (g.cut.lines ++ line.Stop (stops_so_far w.lines) g.t ∷ [])) x
    stopped x target' = since-stop r w.lines (g.cut.lines ++ line.Stop (stops_so_far w.lines) g.t ∷ []) x g.t (stops_so_far w.lines) none target' (has-right g.cut.lines (line.Stop (stops_so_far w.lines) g.t ∷ []) (line.Stop (stops_so_far w.lines) g.t) (inl refl))

-- ---- it fails to open, or is given up

pub stopped-rests : (l : Life) → l ≡ Stopped → l ≡ Running → ⊥
stopped-rests l p q = let bad : Stopped ≡ Running = sym p ∙ q in let no : ⊥ = cc in no

pub failing-recalls : (r : Rules) (w v : World) → OpeningFails r w v → Recalls r w v
failing-recalls r w v g = record {
  clients = ap (λ u. u.clients) g.after;
  more = [];
  lines = ap (λ u. u.lines) g.after ∙ sym (append-nil w.lines);
  untried = untried-none;
  letters = λ l x i is at. inl (subst (Has l) (ap (λ u. u.messages) g.after) i);
  asked = λ l x i is asks at. inl (subst (Has l) (ap (λ u. u.asked) g.after) i);
  resting = λ x rests at. inl (rests-still r w v g.t g.s (record g.s { durable = g.k.durable; free = g.k.free }) g.here (ap (λ u. u.targets) g.after) (stopped-rests g.s.life g.stopped) entry x rests);
}
  where
    entry : (x : AttemptId) → entry_of g.k.durable x ≡ entry_of g.s.durable x
    entry x = elim g.left [ inl same ↦ ap (λ d. entry_of d x) same | inr up ↦ ap (λ d. entry_of d x) up ∙ reopened-entry g.s.durable x ]

-- what is lost at a target that is given up, it is told so of
down-lost : (x : AttemptId) (q l : Letter) → reset_letter true q ≡ l → tells_stop x l.message ≡ true → ⊥
down-lost x q l same is = let bad : false ≡ true = ap (λ n. tells_stop x n.message) same ∙ is in let no : ⊥ = cc in no

pub giving-up-recalls : (r : Rules) (w v : World) → TargetGivenUp r w v → Recalls r w v
giving-up-recalls r w v g = record {
  clients = ap (λ u. u.clients) g.after;
  more = line.Down g.t ∷ [];
  lines = ap (λ u. u.lines) g.after;
  untried = untried-one (line.Down g.t) refl;
  letters = λ l x i is at. elim (has-cases (filter (is_not_to g.t) w.messages) (resets g.t true w.asked) l (subst (Has l) (ap (λ u. u.messages) g.after) i)) [
    | inl before ↦ inl (has-from_filter (is_not_to g.t) w.messages l before).0
    | inr new ↦ let q = has-from_map (reset_letter true) (filter (is_to g.t) w.asked) l new in absurd (down-lost x q.0 l q.2 is)
  ];
  asked = λ l x i is asks at. inl (has-from_filter (is_not_to g.t) w.asked l (subst (Has l) (ap (λ u. u.asked) g.after) i)).0;
  resting = λ x rests at. inl (rests-still r w v g.t g.s (record g.s { life = Down }) g.here (ap (λ u. u.targets) g.after) (stopped-rests g.s.life g.stopped) (λ y. refl) x rests);
}

-- what goes to targets that are given up is lost
pub sweeping-recalls : (r : Rules) (w : World) → Recalls r w (swept w)
sweeping-recalls r w = record {
  clients = refl;
  more = [];
  lines = sym (append-nil w.lines);
  untried = untried-none;
  letters = λ l x i is at. elim (has-cases w.messages (map (reset_letter true) (filter (is_to_down w.targets) w.asked)) l (has-from_filter (is_not_to_down w.targets) (w.messages ++ map (reset_letter true) (filter (is_to_down w.targets) w.asked)) l i).0) [
    | inl before ↦ inl before
    | inr new ↦ let q = has-from_map (reset_letter true) (filter (is_to_down w.targets) w.asked) l new in absurd (down-lost x q.0 l q.2 is)
  ];
  asked = λ l x i is asks at. inl (has-from_filter (is_not_to_down w.targets) w.asked l i).0;
  resting = λ x rests at. inl (record { s = rests.s; here = rests.here; off = rests.off; held = record { entry = rests.held.entry; found = rests.held.found } });
}

-- numbers are drawn
pub drawing-recalls : (r : Rules) (w v : World) → NumbersDrawn w v → Recalls r w v
drawing-recalls r w v g = subst (Recalls r w) (sym g.after) (record {
  clients = refl;
  more = [];
  lines = sym (append-nil w.lines);
  untried = untried-none;
  letters = λ l x i is at. inl i;
  asked = λ l x i is asks at. inl i;
  resting = λ x rests at. inl (record { s = rests.s; here = rests.here; off = rests.off; held = record { entry = rests.held.entry; found = rests.held.found } });
})
