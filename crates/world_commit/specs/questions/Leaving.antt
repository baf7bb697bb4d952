-- What stops and openings of targets leave of entries, lines and letters.
use Rattle.std.specs.Prelude.{ℕ, ◌≡◌, ◌⊎◌, ◌&&◌, Bool, true, false, not, [], ◌∷◌, ◌++◌, filter, map, slice_get, Some, refl}
use Rattle.std.proofs.Common.{sym, ◌∙◌, ap, subst, inl, inr, arith}
use Rattle.std.proofs.Math.ListN.{set}
use Rattle.std.proofs.lemmas.Bool.Decides.{nat_tests}
use Rattle.base_types.specs.declared.id.AttemptId.{AttemptId}
use Rattle.base_types.specs.declared.report.Line.TheVariants as line
use Rattle.model_laws.specs.Members.{Has, has-cases, has-from_filter, has-from_map, has-left, has-right}
use Rattle.daos_model.specs.BoolLaws.{not_true}
use Rattle.daos_model.specs.Changes.{reopened}
use Rattle.daos_model.specs.Durables.{entry_of}
use Rattle.dtx_base.specs.Leading.{first_leader, is_led, is_open}
use Rattle.dtx_base.specs.Members.{has_target}
use Rattle.world_commit.specs.attempts.Attempts.{IsBorn, entry_at, entry_in, leader_of}
use Rattle.world_commit.specs.attempts.History.{Aborted, History}
use Rattle.world_commit.specs.attempts.Turning.{one-or_another}
use Rattle.world_commit.specs.fates.Facts.{IsQuiet, down_in}
use Rattle.world_commit.specs.questions.Facts.{HasStopped}
use Rattle.world_commit.specs.questions.Inquiring.{LossLeaves, is_news}
use Rattle.world_commit.specs.questions.Stopping.{cut_loss, drawing_loss, failing_loss, given_up_loss, not-running, opening_loss, sweeping_loss}
use Rattle.world_commit.specs.stops.Losses.{is_lost}
use Rattle.world_commit.specs.stops.Parts.{now-same, now-there}
use Rattle.world_commit.specs.stops.Questions.{question-is, reopened-entry}
use Rattle.world_commit.specs.stops.Stops.{only}
use Rattle.world_base.specs.declared.letter.Letter.{Letter}
use Rattle.world_base.specs.declared.target.Life.TheVariants.{Down}
use Rattle.world_base.specs.declared.target.TargetState.{TargetState}
use Rattle.world_base.specs.declared.world.World.{World}
use Rattle.world_base.specs.CutTurns.{Cutting}
use Rattle.world_base.specs.Events.{Rules, target_plan}
use Rattle.world_base.specs.Letters.{letter_of, letters_of, target}
use Rattle.world_base.specs.Statuses.{opening_memory, opening_posts}
use Rattle.world_base.specs.Stops.{NumbersDrawn, OpeningFails, TargetGivenUp, TargetOpens, after_cut, is_not_to, is_not_to_down, is_to, is_to_down, no_memory, opened_at, reset_letter, resets, stopped_at, stops_so_far, swept}

-- ---- letters

-- what comes to one target's loss is a Reset
one-came : (t : ℕ) (down : Bool) (w v : World) → v.messages ≡ filter (is_not_to t) w.messages ++ resets t down w.asked → (l : Letter) → Has l v.messages → (Has l w.messages × (is_lost (only t) l ≡ false)) ⊎ (is_news l.message ≡ true)
one-came t down w v messages l i = elim (has-cases (filter (is_not_to t) w.messages) (resets t down w.asked) l (subst (Has l) messages i)) [
  | inl before ↦ let k = has-from_filter (is_not_to t) w.messages l before in inl (k.0, not_true (is_to t l) k.1)
  | inr new ↦ let q = has-from_map (reset_letter down) (filter (is_to t) w.asked) l new in inr (subst (λ y. is_news y.message ≡ true) q.2 refl)
]

none-lost : (l : Letter) → is_lost (λ t. false) l ≡ false
none-lost l = by l.to.client
  where
    by : (b : Bool) → not b && false ≡ false
    by true = refl
    by false = refl

-- ---- entries

born-same : (r : Rules) (h later : History) (w v : World) → ((x : AttemptId) → Aborted h x → Aborted later x) → ((x : AttemptId) → entry_at v (leader_of r x) x ≡ entry_at w (leader_of r x) x) → (x : AttemptId) → IsBorn r h w x → IsBorn r later v x
born-same r h later w v grown same x (inl held) = inl (record { entry = held.entry; found = same x ∙ held.found })
born-same r h later w v grown same x (inr a) = inr (grown x a)

only-itself : (t u : ℕ) → u ≡ t → only t u ≡ true
only-itself t u is = grind (arith, nat_tests)

module _ (r : Rules) (h later : History) (w v : World) (grown : (x : AttemptId) → Aborted h x → Aborted later x) where
  -- ---- a cut turn, where what was stored stays so

  pub cut-leaves : (t : ℕ) (s : TargetState) (cut : Cutting) (here : slice_get w.targets t ≡ Some s) (follows : v ≡ after_cut w t s cut) → ((x : AttemptId) → IsBorn r h w x → IsBorn r later v x) → LossLeaves r h later w v (cut_loss w v t s cut here follows)
  cut-leaves t s cut here follows born = record {
    grown = grown;
    born = born;
    lines = λ l i. subst (Has l) (sym lines) (has-left (w.lines ++ cut.lines) (line.Stop (stops_so_far w.lines) t ∷ []) l (has-left w.lines cut.lines l i));
    entry = λ m x off. now-there w v t s (stopped_at s cut.left) here targets (λ o. entry_in o x) m (other m off);
    leader = λ u x. elim (one-or_another u t) [
      | inl is ↦ inr (subst (HasStopped v) (sym is) (stops_so_far w.lines, stops))
      | inr off ↦ inl (now-there w v t s (stopped_at s cut.left) here targets (λ o. entry_in o x) u off)
    ];
    down = λ m u off. now-there w v t s (stopped_at s cut.left) here targets (λ o. down_in o u) m (other m off);
    came = one-came t false w v (ap (λ u. u.messages) follows);
  }
    where
      targets : v.targets ≡ set w.targets t (stopped_at s cut.left)
      targets = ap (λ u. u.targets) follows

      lines : v.lines ≡ w.lines ++ cut.lines ++ line.Stop (stops_so_far w.lines) t ∷ []
      lines = ap (λ u. u.lines) follows

      stops : Has (line.Stop (stops_so_far w.lines) t) v.lines
      stops = subst (Has (line.Stop (stops_so_far w.lines) t)) (sym lines) (has-right (w.lines ++ cut.lines) (line.Stop (stops_so_far w.lines) t ∷ []) (line.Stop (stops_so_far w.lines) t) (inl refl))

      other : (m : ℕ) → only t m ≡ false → m ≡ t → ⊥
      other m off is = let on = only-itself t m is in let no : ⊥ = cc (on, off) in no

  module _ (quiet : (t : ℕ) (s : TargetState) → slice_get w.targets t ≡ Some s → IsQuiet s) where
    -- ---- a target is given up

    pub given_up-leaves : (g : TargetGivenUp r w v) → LossLeaves r h later w v (given_up_loss r w v quiet g)
    given_up-leaves g = record {
      grown = grown;
      born = born-same r h later w v grown (λ x. same (leader_of r x) x);
      lines = λ l i. subst (Has l) (sym (ap (λ u. u.lines) g.after)) (has-left w.lines (line.Down g.t ∷ []) l i);
      entry = λ m x off. same m x;
      leader = λ u x. inl (same u x);
      down = λ m u off. now-same w v g.t g.s z g.here targets (λ o. down_in o u) refl m;
      came = one-came g.t true w v (ap (λ u. u.messages) g.after);
    }
      where
        z : TargetState
        z = record g.s { life = Down }

        targets : v.targets ≡ set w.targets g.t z
        targets = ap (λ u. u.targets) g.after

        same : (u : ℕ) (x : AttemptId) → entry_at v u x ≡ entry_at w u x
        same u x = now-same w v g.t g.s z g.here targets (λ o. entry_in o x) refl u

    -- ---- an opening fails

    pub failing-leaves : (g : OpeningFails r w v) → LossLeaves r h later w v (failing_loss r w v quiet g)
    failing-leaves g = record {
      grown = grown;
      born = born-same r h later w v grown (λ x. same (leader_of r x) x);
      lines = λ l i. subst (Has l) (sym (ap (λ u. u.lines) g.after)) i;
      entry = λ m x off. same m x;
      leader = λ u x. inl (same u x);
      down = λ m u off. now-same w v g.t g.s z g.here targets (λ o. down_in o u) refl m;
      came = λ l i. inl (subst (Has l) (ap (λ u. u.messages) g.after) i, none-lost l);
    }
      where
        z : TargetState
        z = record g.s { durable = g.k.durable; free = g.k.free }

        targets : v.targets ≡ set w.targets g.t z
        targets = ap (λ u. u.targets) g.after

        kept : (x : AttemptId) → (g.k.durable ≡ g.s.durable) ⊎ (g.k.durable ≡ reopened g.s.durable) → entry_of g.k.durable x ≡ entry_of g.s.durable x
        kept x (inl is) = ap (λ d. entry_of d x) is
        kept x (inr is) = ap (λ d. entry_of d x) is ∙ reopened-entry g.s.durable x

        same : (u : ℕ) (x : AttemptId) → entry_at v u x ≡ entry_at w u x
        same u x = now-same w v g.t g.s z g.here targets (λ o. entry_in o x) (kept x g.left) u

    -- ---- one opens

    pub opening-leaves : (g : TargetOpens r w v) → LossLeaves r h later w v (opening_loss r w v g)
    unfolding first_leader opening_posts
    opening-leaves g = record {
      grown = grown;
      born = born-same r h later w v grown (λ x. same (leader_of r x) x);
      lines = λ l i. subst (Has l) (sym (ap (λ u. u.lines) g.after)) (has-left w.lines _ l i);
      entry = λ m x off. same m x;
      leader = λ u x. inl (same u x);
      down = λ m u off. now-same w v g.t g.s z g.here targets (λ o. down_in o u) (opens u ∙ sym (ap (λ y. has_target y.leader.down u) memory)) m;
      came = λ l i. elim (has-cases w.messages (letters_of (target g.t) (opening_posts (target_plan r g.t) (reopened g.s.durable))) l (subst (Has l) (ap (λ u. u.messages) g.after) i)) [
        | inl old ↦ inl (old, none-lost l)
        | inr new ↦ inr (asks l new)
      ];
    }
      where
        z : TargetState
        z = opened_at r g.t g.number g.s g.free

        targets : v.targets ≡ set w.targets g.t z
        targets = ap (λ u. u.targets) g.after

        memory : g.s.memory ≡ no_memory
        memory = quiet g.t g.s g.here (not-running g.s.life g.stopped)

        opens : (u : ℕ) → has_target (opening_memory (target_plan r g.t) (reopened g.s.durable)).leader.down u ≡ has_target 0 u
        opens u = refl

        same : (u : ℕ) (x : AttemptId) → entry_at v u x ≡ entry_at w u x
        same u x = now-same w v g.t g.s z g.here targets (λ o. entry_in o x) (reopened-entry g.s.durable x) u

        asks : (l : Letter) → Has l (letters_of (target g.t) (opening_posts (target_plan r g.t) (reopened g.s.durable))) → is_news l.message ≡ true
        asks l i =
            let p = has-from_map (letter_of (target g.t)) (opening_posts (target_plan r g.t) (reopened g.s.durable)) l i in
            let q = question-is (reopened g.s.durable).incarnation (filter is_open (filter (is_led g.t) (reopened g.s.durable).entries)) p.0 p.1 in
            subst (λ y. is_news y.message ≡ true) p.2 (subst (λ y. is_news y.message ≡ true) (sym q.is) refl)

  -- ---- numbers are drawn

  pub drawing-leaves : (g : NumbersDrawn w v) → LossLeaves r h later w v (drawing_loss w v g)
  drawing-leaves g = record {
    grown = grown;
    born = born-same r h later w v grown (λ x. same (leader_of r x) x);
    lines = λ l i. subst (Has l) (sym (ap (λ u. u.lines) g.after)) i;
    entry = λ m x off. same m x;
    leader = λ u x. inl (same u x);
    down = λ m u off. ap (λ ts. down_in (slice_get ts m) u) (ap (λ y. y.targets) g.after);
    came = λ l i. inl (subst (Has l) (ap (λ u. u.messages) g.after) i, none-lost l);
  }
    where
      same : (u : ℕ) (x : AttemptId) → entry_at v u x ≡ entry_at w u x
      same u x = ap (λ ts. entry_in (slice_get ts u) x) (ap (λ y. y.targets) g.after)

-- ---- what goes to targets that are given up

pub sweeping-leaves : (r : Rules) (h : History) (w : World) (quiet : (t : ℕ) (s : TargetState) → slice_get w.targets t ≡ Some s → IsQuiet s) → LossLeaves r h h w (swept w) (sweeping_loss w quiet)
sweeping-leaves r h w quiet = record {
  grown = λ x a. a;
  born = born-same r h h w (swept w) (λ x a. a) (λ x. refl);
  lines = λ l i. i;
  entry = λ m x off. refl;
  leader = λ u x. inl refl;
  down = λ m u off. refl;
  came = λ l i.
      let k = has-from_filter (is_not_to_down w.targets) (w.messages ++ map (reset_letter true) (filter (is_to_down w.targets) w.asked)) l i in
      elim (has-cases w.messages (map (reset_letter true) (filter (is_to_down w.targets) w.asked)) l k.0) [
        | inl old ↦ inl (old, not_true (is_to_down w.targets l) k.1)
        | inr new ↦ let q = has-from_map (reset_letter true) (filter (is_to_down w.targets) w.asked) l new in inr (subst (λ y. is_news y.message ≡ true) q.2 refl)
      ];
}
