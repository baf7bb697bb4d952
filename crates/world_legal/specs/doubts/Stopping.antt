-- A target that stops, opens again, fails to, or is given up, keeps what shows where leaders stopped; and so does the loss of what goes to targets
-- that are given up.
use Rattle.std.specs.Prelude.{ℕ, ◌≡◌, ◌⊎◌, ◌+◌, ◌++◌, ◌==◌, not, Bool, true, false, List, [], ◌∷◌, filter, map, slice_get, Option, Some, refl}
use Rattle.std.proofs.Common.{append-nil, append_assoc, zero, suc, inl, inr, sym, ◌∙◌, ap, subst}
use Rattle.std.proofs.Math.ListN.{set}
use Rattle.std.proofs.lemmas.Bool.{eqb-true}
use Rattle.base_types.specs.declared.epoch.Epoch.{Epoch}
use Rattle.base_types.specs.declared.id.AttemptId.{AttemptId}
use Rattle.base_types.specs.declared.outcome.Outcome.{Outcome}
use Rattle.base_types.specs.declared.outcome.Outcome.TheVariants as outcome
use Rattle.base_types.specs.declared.report.Line.{Line}
use Rattle.base_types.specs.declared.report.Line.TheVariants as line
use Rattle.base_messages.specs.declared.message.Message.{Message}
use Rattle.base_messages.specs.declared.message.Message.TheVariants as message
use Rattle.daos_model.specs.Attempts.{tries}
use Rattle.daos_model.specs.BoolLaws.{and_right}
use Rattle.daos_model.specs.Changes.{reopened}
use Rattle.daos_model.specs.Durables.{entry_of}
use Rattle.dtx_base.specs.Rows.{is_among}
use Rattle.model_laws.specs.Members.{Has, has-cases, has-from_filter, has-from_map, has-right}
use Rattle.world_standing.specs.world_commit.attempts.Attempts.{IsBorn, entry_at, entry_in, is_known_at, is_known_in, leader_of}
use Rattle.world_standing.specs.world_commit.attempts.History.{GrowsBy, History, Tells}
use Rattle.world_standing.specs.world_commit.attempts.Turning.{one-or_another}
use Rattle.world_base.specs.declared.letter.Letter.{Letter}
use Rattle.world_base.specs.declared.target.Life.TheVariants.{Down, Running, Stopped}
use Rattle.world_base.specs.declared.target.TargetState.{TargetState}
use Rattle.world_base.specs.declared.world.World.{World}
use Rattle.world_base.specs.Events.{Rules, kept, target_plan}
use Rattle.world_base.specs.Letters.{letter_of, letters_of, target}
use Rattle.world_base.specs.Statuses.{opening_posts}
use Rattle.world_base.specs.StepLaws.{set-here}
use Rattle.world_base.specs.Stops.{AtWork, CutOf, Hearing, IdleWork, NumbersDrawn, OpeningFails, TargetCut, TargetGivenUp, TargetOpens, is_down_at, is_given_up, is_not_to, is_not_to_down, is_to, is_to_down, opened_at, reset_letter, resets, restart_line, stopped_at, stops_so_far, swept}
use Rattle.world_standing.specs.world_commit.fates.Facts.{Attempts}
use Rattle.world_standing.specs.world_causes.losses.ClientHears.{TellsLoss}
use Rattle.world_standing.specs.world_causes.losses.Stopping.{stopped-rests}
use Rattle.world_standing.specs.world_causes.outcomes.Stopping.{cut-told}
use Rattle.world_standing.specs.world_causes.outcomes.Untried.{hearing-untried, idling-untried, untried-both, untried-none, untried-one}
use Rattle.world_standing.specs.world_commit.stops.CutEvents.{cut_told}
use Rattle.world_standing.specs.world_commit.stops.Openings.{alone, committed_end, opening_told}
use Rattle.world_standing.specs.world_commit.stops.Parts.{now-here, now-same, now-there}
use Rattle.world_standing.specs.world_commit.stops.Questions.{opening-asks, question-is, reopened-entry, reopened_rows}
use Rattle.world_legal.specs.doubts.Doubts.{IsInDoubt, RestsAt}
use Rattle.world_legal.specs.doubts.Recounting.{Recounts, StopsNow, WasInDoubt, loss-back, tells_back}

-- ---- letters

not-end : (t : Bool) (q l : Letter) (x : AttemptId) (own : Option Epoch) → reset_letter t q ≡ l → l.message ≡ message.Ended x own outcome.Committed → ⊥
not-end t q l x own same says = let bad : (reset_letter t q).message ≡ message.Ended x own outcome.Committed = ap (λ m. m.message) same ∙ says in let no : ⊥ = cc in no

to-number : (t : ℕ) (q : Letter) → is_to t q ≡ true → q.to.number ≡ t
to-number t q is = eqb-true q.to.number t (and_right (not q.to.client) (q.to.number == t) is)

-- ---- what goes to a target is lost

module _ (w v : World) (t : ℕ) (down : Bool) (messages : v.messages ≡ filter (is_not_to t) w.messages ++ resets t down w.asked) where
  from-where : (l : Letter) → Has l v.messages → Has l w.messages ⊎ ((q : Letter) × (is_to t q ≡ true) × (reset_letter down q ≡ l))
  from-where l i = elim (has-cases (filter (is_not_to t) w.messages) (resets t down w.asked) l (subst (Has l) messages i)) [
    | inl before ↦ inl (has-from_filter (is_not_to t) w.messages l before).0
    | inr new ↦ (let q = has-from_map (reset_letter down) (filter (is_to t) w.asked) l new in inr (q.0, (has-from_filter (is_to t) w.asked q.0 q.1).1, q.2))
  ]

  ends-were : (l : Letter) (x : AttemptId) (own : Option Epoch) → Has l v.messages → l.message ≡ message.Ended x own outcome.Committed → Has l w.messages
  ends-were l x own i says = elim (from-where l i) [ inl was ↦ was | inr q ↦ absurd (not-end down q.0 l x own q.2 says) ]

  lost-there : (l : Letter) (m : Message) → RestsAt v t → Has l v.messages → TellsLoss l.message m → Has l w.messages ⊎ RestsAt v l.from.number
  lost-there l m rests i tells = elim (from-where l i) [ inl was ↦ inl was | inr q ↦ inr (subst (RestsAt v) (sym (to-number t q.0 q.1) ∙ ap (λ n. n.from.number) q.2) rests) ]

-- ---- a turn is cut

module _ (r : Rules) (h later : History) (w v : World) (k : Attempts r h w) (g : TargetCut r w v) (grows : GrowsBy h (cut_told g.work g.s g.cut) later) where
  abbrev z : TargetState
  z = stopped_at g.s g.cut.left

  targets : v.targets ≡ set w.targets g.t z
  targets = ap (λ u. u.targets) g.after

  there : {A : Type 0} (part : Option TargetState → A) (u : ℕ) → (u ≡ g.t → ⊥) → part (slice_get v.targets u) ≡ part (slice_get w.targets u)
  there part u off = now-there w v g.t g.s z g.here targets part u off

  off-then : RestsAt v g.t
  off-then = record { s = z; here = ap (λ ts. slice_get ts g.t) targets ∙ set-here w.targets g.t g.s z g.here; off = stopped-rests Stopped refl }

  abbrev told : List Line
  told = g.cut.lines ++ line.Stop (stops_so_far w.lines) g.t ∷ []

  untried : (a : AtWork) → CutOf (target_plan r g.t) g.s a g.cut → tries g.cut.lines ≡ []
  untried IdleWork turn = idling-untried (target_plan r g.t) g.s.opening g.s.memory 0 0 (target g.t) (kept g.s) g.cut turn
  untried (Hearing l reading number) turn = hearing-untried (target_plan r g.t) g.s.opening g.s.memory reading number l.from (kept g.s) g.cut l.message turn

  stops : (t : ℕ) → t ≡ g.t → (n : ℕ) × Has (line.Stop n t) told
  stops t is = (stops_so_far w.lines, has-right g.cut.lines (line.Stop (stops_so_far w.lines) g.t ∷ []) (line.Stop (stops_so_far w.lines) t) (inl (ap (line.Stop (stops_so_far w.lines)) is)))

  born-was : (x : AttemptId) → (leader_of r x ≡ g.t → ⊥) → IsBorn r later v x → IsBorn r h w x
  born-was x off (inl held) = inl (record { entry = held.entry; found = sym (there (λ o. entry_in o x) (leader_of r x) off) ∙ held.found })
  born-was x off (inr gone) = elim (grows.only_aborted x gone) [ inl before ↦ inr before | inr tells ↦ inl (cut-told r h w v k g x tells.own tells.how tells.told) ]

  pub cut-recounts : Recounts r h later w v
  cut-recounts = record {
    clients = ap (λ u. u.clients) g.after;
    more = told;
    lines = ap (λ u. u.lines) g.after ∙ append_assoc w.lines g.cut.lines (line.Stop (stops_so_far w.lines) g.t ∷ []);
    untried = untried-both g.cut.lines (line.Stop (stops_so_far w.lines) g.t ∷ []) (untried g.work g.turn) (untried-one (line.Stop (stops_so_far w.lines) g.t) refl);
    resting = λ x born rests. elim (one-or_another (leader_of r x) g.t) [
      | inl is ↦ inr (stops (leader_of r x) is)
      | inr off ↦ inl (born-was x off born, record { s = rests.s; here = sym (there (λ o. o) (leader_of r x) off) ∙ rests.here; off = rests.off })
    ];
    doubtful = λ x d. elim (one-or_another (leader_of r x) g.t) [
      | inl is ↦ StopsNow (stops (leader_of r x) is)
      | inr off ↦ WasInDoubt (record { entry = d.entry; found = sym (there (λ o. entry_in o x) (leader_of r x) off) ∙ d.found; prepared = d.prepared; unknown = sym (there (λ o. is_known_in o x) (leader_of r x) off) ∙ d.unknown })
    ];
    told = λ l x own i says d. ends-were w v g.t false (ap (λ u. u.messages) g.after) l x own i says;
    lost = λ l x ask i tells. lost-there w v g.t false (ap (λ u. u.messages) g.after) l (message.Query x ask) off-then i tells;
  }

-- ---- a target opens

module _ (r : Rules) (h later : History) (w v : World) (k : Attempts r h w) (g : TargetOpens r w v) (grows : GrowsBy h (opening_told g.t g.s.durable) later) where
  abbrev opened : TargetState
  opened = opened_at r g.t g.number g.s g.free

  open-targets : v.targets ≡ set w.targets g.t opened
  open-targets = ap (λ u. u.targets) g.after

  elsewhere : {A : Type 0} (part : Option TargetState → A) (u : ℕ) → (u ≡ g.t → ⊥) → part (slice_get v.targets u) ≡ part (slice_get w.targets u)
  elsewhere part u off = now-there w v g.t g.s opened g.here open-targets part u off

  runs-then : RestsAt v g.t → ⊥
  runs-then rests =
      let both : Some rests.s ≡ Some opened = sym rests.here ∙ (ap (λ ts. slice_get ts g.t) open-targets ∙ set-here w.targets g.t g.s opened g.here) in
      let one : rests.s ≡ opened = cc in
      rests.off (ap (λ y. y.life) one)

  -- it decides, and aborts nothing
  committed-alone : (x : AttemptId) (own : Option Epoch) (how : Outcome) → Tells (opening_told g.t g.s.durable) x own how → how ≡ outcome.Committed
  committed-alone x own how tells =
      let e = has-from_map committed_end (alone g.t g.s.durable) (record { to = tells.to; message = message.Ended x own how }) tells.sent in
      let said : message.Ended e.0.attempt (Some e.0.epoch) outcome.Committed ≡ message.Ended x own how = ap (λ q. q.message) e.2 in
      let is : outcome.Committed ≡ how = cc in
      sym is

  opened-born : (x : AttemptId) → (leader_of r x ≡ g.t → ⊥) → IsBorn r later v x → IsBorn r h w x
  opened-born x off (inl held) = inl (record { entry = held.entry; found = sym (elsewhere (λ o. entry_in o x) (leader_of r x) off) ∙ held.found })
  opened-born x off (inr gone) = elim (grows.only_aborted x gone) [ inl before ↦ inr before | inr tells ↦ absurd (tells.refused (committed-alone x tells.own tells.how tells.told)) ]

  -- what it asks tells nothing
  asked-before : (l : Letter) → tells_back l.message ≡ true → Has l v.messages → Has l w.messages
  asked-before l back i = elim (has-cases w.messages (letters_of (target g.t) (opening_posts (target_plan r g.t) (reopened g.s.durable))) l (subst (Has l) (ap (λ u. u.messages) g.after) i)) [
    | inl before ↦ before
    | inr new ↦
        let q = has-from_map (letter_of (target g.t)) (opening_posts (target_plan r g.t) (reopened g.s.durable)) l new in
        let question = question-is (g.s.durable.incarnation + 1) (reopened_rows g.t g.s.durable) q.0 (subst (Has q.0) (opening-asks r g.t g.s.durable) q.1) in
        let bad : false ≡ true = sym (ap (λ p. tells_back p.message) question.is) ∙ (ap (λ m. tells_back m.message) q.2 ∙ back) in
        (let no : ⊥ = cc in absurd no)
  ]

  -- it knew nothing before
  knew-nothing : (x : AttemptId) → is_known_at w g.t x ≡ false
  knew-nothing x = ap (λ o. is_known_in o x) g.here ∙ ap (λ m. is_among x m.leader.decided) (k.on.quiet g.t g.s g.here (stopped-rests g.s.life g.stopped))

  doubted-here : (x : AttemptId) → leader_of r x ≡ g.t → IsInDoubt r v x → IsInDoubt r w x
  doubted-here x is d = record {
    entry = d.entry;
    found = ap (λ n. entry_at w n x) is ∙ ap (λ o. entry_in o x) g.here ∙ sym (reopened-entry g.s.durable x) ∙ sym (now-here w v g.t g.s opened g.here open-targets (λ o. entry_in o x)) ∙ sym (ap (λ n. entry_at v n x) is) ∙ d.found;
    prepared = d.prepared;
    unknown = ap (λ n. is_known_at w n x) is ∙ knew-nothing x;
  }

  pub opening-recounts : Recounts r h later w v
  opening-recounts = record {
    clients = ap (λ u. u.clients) g.after;
    more = restart_line g.number g.t g.s.durable ∷ [];
    lines = ap (λ u. u.lines) g.after;
    untried = untried-one (restart_line g.number g.t g.s.durable) refl;
    resting = λ x born rests. elim (one-or_another (leader_of r x) g.t) [
      | inl is ↦ absurd (runs-then (subst (RestsAt v) is rests))
      | inr off ↦ inl (opened-born x off born, record { s = rests.s; here = sym (elsewhere (λ o. o) (leader_of r x) off) ∙ rests.here; off = rests.off })
    ];
    doubtful = λ x d. elim (one-or_another (leader_of r x) g.t) [
      | inl is ↦ WasInDoubt (doubted-here x is d)
      | inr off ↦ WasInDoubt (record { entry = d.entry; found = sym (elsewhere (λ o. entry_in o x) (leader_of r x) off) ∙ d.found; prepared = d.prepared; unknown = sym (elsewhere (λ o. is_known_in o x) (leader_of r x) off) ∙ d.unknown })
    ];
    told = λ l x own i says d. asked-before l (ap tells_back says) i;
    lost = λ l x ask i tells. inl (asked-before l (loss-back l.message (message.Query x ask) tells) i);
  }

-- ---- a target goes on to rest

module _ (r : Rules) (h later : History) (w v : World) (t : ℕ) (s z : TargetState) (here : slice_get w.targets t ≡ Some s) (targets : v.targets ≡ set w.targets t z) (off : s.life ≡ Running → ⊥) (entry : (x : AttemptId) → entry_of z.durable x ≡ entry_of s.durable x) (memory : z.memory ≡ s.memory)
    (grows : GrowsBy h [] later) where
  entry-still : (u : ℕ) (x : AttemptId) → entry_at v u x ≡ entry_at w u x
  entry-still u x = now-same w v t s z here targets (λ o. entry_in o x) (entry x) u

  known-still : (u : ℕ) (x : AttemptId) → is_known_at v u x ≡ is_known_at w u x
  known-still u x = now-same w v t s z here targets (λ o. is_known_in o x) (ap (λ m. is_among x m.leader.decided) memory) u

  born-still : (x : AttemptId) → IsBorn r later v x → IsBorn r h w x
  born-still x (inl held) = inl (record { entry = held.entry; found = sym (entry-still (leader_of r x) x) ∙ held.found })
  born-still x (inr gone) = elim (grows.only_aborted x gone) [ inl before ↦ inr before | inr tells ↦ absurd tells.told.sent ]

  rests-still : (u : ℕ) → RestsAt v u → RestsAt w u
  rests-still u rests = elim (one-or_another u t) [
    | inl is ↦ record { s = s; here = ap (slice_get w.targets) is ∙ here; off = off }
    | inr apart ↦ record { s = rests.s; here = sym (now-there w v t s z here targets (λ o. o) u apart) ∙ rests.here; off = rests.off }
  ]

  doubt-still : (x : AttemptId) → IsInDoubt r v x → IsInDoubt r w x
  doubt-still x d = record { entry = d.entry; found = sym (entry-still (leader_of r x) x) ∙ d.found; prepared = d.prepared; unknown = sym (known-still (leader_of r x) x) ∙ d.unknown }

-- its opening fails
pub failing-recounts : (r : Rules) (h later : History) (w v : World) (g : OpeningFails r w v) → GrowsBy h [] later → Recounts r h later w v
failing-recounts r h later w v g grows = record {
  clients = ap (λ u. u.clients) g.after;
  more = [];
  lines = ap (λ u. u.lines) g.after ∙ sym (append-nil w.lines);
  untried = untried-none;
  resting = λ x born rests. inl (born-still r h later w v g.t g.s z g.here targets off entry refl grows x born, rests-still r h later w v g.t g.s z g.here targets off entry refl grows (leader_of r x) rests);
  doubtful = λ x d. WasInDoubt (doubt-still r h later w v g.t g.s z g.here targets off entry refl grows x d);
  told = λ l x own i says d. subst (Has l) (ap (λ u. u.messages) g.after) i;
  lost = λ l x ask i tells. inl (subst (Has l) (ap (λ u. u.messages) g.after) i);
}
  where
    z : TargetState
    z = record g.s { durable = g.k.durable; free = g.k.free }

    targets : v.targets ≡ set w.targets g.t z
    targets = ap (λ u. u.targets) g.after

    off : g.s.life ≡ Running → ⊥
    off = stopped-rests g.s.life g.stopped

    entry : (x : AttemptId) → entry_of g.k.durable x ≡ entry_of g.s.durable x
    entry x = elim g.left [ inl same ↦ ap (λ d. entry_of d x) same | inr up ↦ ap (λ d. entry_of d x) up ∙ reopened-entry g.s.durable x ]

-- it is given up
pub giving-up-recounts : (r : Rules) (h later : History) (w v : World) (g : TargetGivenUp r w v) → GrowsBy h [] later → Recounts r h later w v
giving-up-recounts r h later w v g grows = record {
  clients = ap (λ u. u.clients) g.after;
  more = line.Down g.t ∷ [];
  lines = ap (λ u. u.lines) g.after;
  untried = untried-one (line.Down g.t) refl;
  resting = λ x born rests. inl (born-still r h later w v g.t g.s z g.here targets off (λ y. refl) refl grows x born, rests-still r h later w v g.t g.s z g.here targets off (λ y. refl) refl grows (leader_of r x) rests);
  doubtful = λ x d. WasInDoubt (doubt-still r h later w v g.t g.s z g.here targets off (λ y. refl) refl grows x d);
  told = λ l x own i says d. ends-were w v g.t true (ap (λ u. u.messages) g.after) l x own i says;
  lost = λ l x ask i tells. lost-there w v g.t true (ap (λ u. u.messages) g.after) l (message.Query x ask) down-then i tells;
}
  where
    z : TargetState
    z = record g.s { life = Down }

    targets : v.targets ≡ set w.targets g.t z
    targets = ap (λ u. u.targets) g.after

    off : g.s.life ≡ Running → ⊥
    off = stopped-rests g.s.life g.stopped

    down-then : RestsAt v g.t
    down-then = record { s = z; here = ap (λ ts. slice_get ts g.t) targets ∙ set-here w.targets g.t g.s z g.here; off = λ is. let no : ⊥ = cc (is) in no }

-- ---- no target changes

module _ (r : Rules) (h later : History) (w v : World) (targets : v.targets ≡ w.targets) (grows : GrowsBy h [] later) where
  part-same : {A : Type 0} (part : Option TargetState → A) (u : ℕ) → part (slice_get v.targets u) ≡ part (slice_get w.targets u)
  part-same part u = ap (λ ts. part (slice_get ts u)) targets

  born-same : (x : AttemptId) → IsBorn r later v x → IsBorn r h w x
  born-same x (inl held) = inl (record { entry = held.entry; found = sym (part-same (λ o. entry_in o x) (leader_of r x)) ∙ held.found })
  born-same x (inr gone) = elim (grows.only_aborted x gone) [ inl before ↦ inr before | inr tells ↦ absurd tells.told.sent ]

  rests-same : (u : ℕ) → RestsAt v u → RestsAt w u
  rests-same u rests = record { s = rests.s; here = sym (part-same (λ o. o) u) ∙ rests.here; off = rests.off }

  doubt-same : (x : AttemptId) → IsInDoubt r v x → IsInDoubt r w x
  doubt-same x d = record { entry = d.entry; found = sym (part-same (λ o. entry_in o x) (leader_of r x)) ∙ d.found; prepared = d.prepared; unknown = sym (part-same (λ o. is_known_in o x) (leader_of r x)) ∙ d.unknown }

-- numbers are drawn
pub drawing-recounts : (r : Rules) (h later : History) (w v : World) → NumbersDrawn w v → GrowsBy h [] later → Recounts r h later w v
drawing-recounts r h later w v g grows = record {
  clients = ap (λ u. u.clients) g.after;
  more = [];
  lines = ap (λ u. u.lines) g.after ∙ sym (append-nil w.lines);
  untried = untried-none;
  resting = λ x born rests. inl (born-same r h later w v targets grows x born, rests-same r h later w v targets grows (leader_of r x) rests);
  doubtful = λ x d. WasInDoubt (doubt-same r h later w v targets grows x d);
  told = λ l x own i says d. subst (Has l) (ap (λ u. u.messages) g.after) i;
  lost = λ l x ask i tells. inl (subst (Has l) (ap (λ u. u.messages) g.after) i);
}
  where
    targets : v.targets ≡ w.targets
    targets = ap (λ u. u.targets) g.after

-- a target that is given up doesn't run
given-up_rests : (ss : List TargetState) (t : ℕ) → is_down_at ss t ≡ true → (s : TargetState) × (slice_get ss t ≡ Some s) × (s.life ≡ Running → ⊥)
given-up_rests [] t is = let no : ⊥ = cc in absurd no
given-up_rests (s ∷ ss) zero is = (s, refl, λ runs. let bad : false ≡ true = sym (ap is_given_up runs) ∙ is in let no : ⊥ = cc in no)
given-up_rests (s ∷ ss) (suc t) is = given-up_rests ss t is

-- nothing becomes of any attempt
nothing-grows : (h : History) → GrowsBy h [] h
nothing-grows h = record {
  decided = λ x e d. d;
  committed = λ x e tells. absurd tells.sent;
  only_decided = λ x e d. inl d;
  aborted = λ x a. a;
  refused = λ x tells. absurd tells.told.sent;
  only_aborted = λ x a. inl a;
}

-- what goes to targets that are given up is lost
pub sweeping-recounts : (r : Rules) (h : History) (w : World) → Recounts r h h w (swept w)
sweeping-recounts r h w = record {
  clients = refl;
  more = [];
  lines = sym (append-nil w.lines);
  untried = untried-none;
  resting = λ x born rests. inl (born-same r h h w (swept w) refl (nothing-grows h) x born, rests-same r h h w (swept w) refl (nothing-grows h) (leader_of r x) rests);
  doubtful = λ x d. WasInDoubt (doubt-same r h h w (swept w) refl (nothing-grows h) x d);
  told = λ l x own i says d. elim (came l i) [ inl was ↦ was | inr q ↦ absurd (not-end true q.0 l x own q.2 says) ];
  lost = λ l x ask i tells. elim (came l i) [
    | inl was ↦ inl was
    | inr q ↦ (let z = given-up_rests w.targets q.0.to.number (and_right (not q.0.to.client) (is_down_at w.targets q.0.to.number) q.1) in
        inr (subst (RestsAt (swept w)) (ap (λ n. n.from.number) q.2) (record { s = z.0; here = z.1; off = z.2 })))
  ];
}
  where
    new : List Letter
    new = map (reset_letter true) (filter (is_to_down w.targets) w.asked)

    came : (l : Letter) → Has l (swept w).messages → Has l w.messages ⊎ ((q : Letter) × (is_to_down w.targets q ≡ true) × (reset_letter true q ≡ l))
    came l i = elim (has-cases w.messages new l (has-from_filter (is_not_to_down w.targets) (w.messages ++ new) l i).0) [
      | inl before ↦ inl before
      | inr fresh ↦ (let q = has-from_map (reset_letter true) (filter (is_to_down w.targets) w.asked) l fresh in inr (q.0, (has-from_filter (is_to_down w.targets) w.asked q.0 q.1).1, q.2))
    ]
