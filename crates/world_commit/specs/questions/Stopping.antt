-- Stops and openings of targets, and what else happens without a message: what is lost then, and who knows nothing.
use Rattle.std.specs.Prelude.{ℕ, ◌≡◌, ◌⊎◌, ◌==◌, Bool, true, false, ◌&&◌, not, zero, suc, List, [], ◌∷◌, ◌++◌, filter, map, slice_get, Some, refl}
use Rattle.std.proofs.Common.{sym, ◌∙◌, ap, subst, inl, inr, arith}
use Rattle.std.proofs.Math.ListN.{set}
use Rattle.std.proofs.lemmas.Bool.Decides.{nat_tests}
use Rattle.model_laws.specs.Members.{Has, has-filter, has-left, has-map, has-right}
use Rattle.daos_model.specs.BoolLaws.{false_of}
use Rattle.daos_model.specs.Changes.{reopened}
use Rattle.dtx_base.specs.Leading.{first_leader}
use Rattle.world_commit.specs.attempts.Turning.{one-or_another}
use Rattle.world_commit.specs.fates.Facts.{IsQuiet, PromptsFly}
use Rattle.world_commit.specs.questions.Facts.{NamingsFly, WaitingAreAsked}
use Rattle.world_commit.specs.questions.Losing.{Forgets, LosesMail, WaitsForNone, namings-stay, none-waits, waiting-stay}
use Rattle.world_commit.specs.stops.Losses.{is_lost}
use Rattle.world_commit.specs.stops.Parts.{now-here, now-there}
use Rattle.world_commit.specs.stops.Stops.{only}
use Rattle.world_base.specs.declared.letter.Letter.{Letter}
use Rattle.world_base.specs.declared.target.Life.{Life}
use Rattle.world_base.specs.declared.target.Life.TheVariants.{Down, Running, Stopped}
use Rattle.world_base.specs.declared.target.TargetPlan.{TargetPlan}
use Rattle.world_base.specs.declared.target.TargetState.{TargetState}
use Rattle.world_base.specs.declared.world.World.{World}
use Rattle.world_base.specs.CutTurns.{Cutting}
use Rattle.world_base.specs.Events.{Rules, target_plan}
use Rattle.world_base.specs.Letters.{letters_of, target}
use Rattle.world_base.specs.Statuses.{opening_memory, opening_posts}
use Rattle.world_base.specs.Stops.{NumbersDrawn, OpeningFails, TargetGivenUp, TargetOpens, after_cut, is_down_at, is_given_up, is_not_to, is_not_to_down, is_to, is_to_down, opened_at, reset_letter, resets, stopped_at, swept}
use Rattle.daos_model.specs.declared.durable.Durable.{Durable}

-- what goes to some targets is lost, and they know nothing
pub record IsLoss (w v : World) : Type 0 where
  pub out : ℕ → Bool
  pub down : Bool
  pub mail : LosesMail out down w v
  pub knows : Forgets out w v

-- then what leaders named and Fetches wait for is on its way still
pub loss-namings : (w v : World) → PromptsFly w → IsLoss w v → NamingsFly w → NamingsFly v
loss-namings w v fly i k = namings-stay i.out i.down w v i.mail fly i.knows k

pub loss-waiting : (w v : World) → PromptsFly w → IsLoss w v → WaitingAreAsked w → WaitingAreAsked v
loss-waiting w v fly i k = waiting-stay i.out i.down w v i.mail fly i.knows k

-- ---- what goes to one target

module _ (t : ℕ) (down : Bool) (w v : World) (messages : v.messages ≡ filter (is_not_to t) w.messages ++ resets t down w.asked) where
  pub one-mail : LosesMail (only t) down w v
  one-mail = record {
    stays = λ l i off. subst (Has l) (sym messages) (has-left (filter (is_not_to t) w.messages) (resets t down w.asked) l (has-filter (is_not_to t) w.messages l i (ap not off)));
    told = λ q i lost off. subst (Has (reset_letter down q)) (sym messages)
        (has-right (filter (is_not_to t) w.messages) (resets t down w.asked) (reset_letter down q) (has-map (reset_letter down) (filter (is_to t) w.asked) q (has-filter (is_to t) w.asked q i lost)));
  }

-- all letters stay

pub all-mail : (w v : World) → ((l : Letter) → Has l w.messages → Has l v.messages) → LosesMail (λ t. false) false w v
all-mail w v all = record { stays = λ l i off. all l i; told = λ q i lost off. let no : ⊥ = not-lost q lost in absurd no }
  where
    not-lost : (q : Letter) → is_lost (λ t. false) q ≡ true → ⊥
    not-lost q is = by q.to.client is
      where
        by : (b : Bool) → not b && false ≡ true → ⊥
        by true h = let no : ⊥ = cc in no
        by false h = let no : ⊥ = cc in no

-- ---- who knows nothing

module _ (out : ℕ → Bool) (w v : World) (t : ℕ) (s z : TargetState) (here : slice_get w.targets t ≡ Some s) (targets : v.targets ≡ set w.targets t z) (off : (u : ℕ) → (u ≡ t → ⊥) → out u ≡ false) where
  pub one-forgets : WaitsForNone z.memory → Forgets out w v
  one-forgets none = record {
    memory = λ u y at. elim (one-or_another u t) [
      | inl is ↦
          let found : Some z ≡ Some y = sym (now-here w v t s z here targets (λ o. o)) ∙ subst (λ n. slice_get v.targets n ≡ Some y) is at in
          inl (subst (λ a. WaitsForNone a.memory) (let one : z ≡ y = cc in one) none)
      | inr other ↦ inr (y, sym (now-there w v t s z here targets (λ o. o) u other) ∙ at, refl, off u other)
    ];
  }

pub other-off : (t u : ℕ) → (u ≡ t → ⊥) → only t u ≡ false
other-off t u other = false_of (u == t) (λ is. other (number-is u t is))
  where
    number-is : (a b : ℕ) → (a == b) ≡ true → a ≡ b
    number-is a b is = grind (arith, nat_tests)

-- ---- each kind

-- a turn is cut, whatever it is and wherever
abbrev pub cut_loss : (w v : World) (t : ℕ) (s : TargetState) (cut : Cutting) → slice_get w.targets t ≡ Some s → v ≡ after_cut w t s cut → IsLoss w v
cut_loss w v t s cut here follows = record {
  out = only t;
  down = false;
  mail = one-mail t false w v (ap (λ u. u.messages) follows);
  knows = one-forgets (only t) w v t s (stopped_at s cut.left) here (ap (λ u. u.targets) follows) (other-off t) (none-waits (stopped_at s cut.left).memory refl);
}

pub not-running : (l : Life) → l ≡ Stopped → l ≡ Running → ⊥
not-running l p q = let bad : Stopped ≡ Running = sym p ∙ q in (let no : ⊥ = cc in no)

module _ (r : Rules) (w v : World) (quiet : (t : ℕ) (s : TargetState) → slice_get w.targets t ≡ Some s → IsQuiet s) where
  abbrev pub given_up_loss : TargetGivenUp r w v → IsLoss w v
  given_up_loss g = record {
    out = only g.t;
    down = true;
    mail = one-mail g.t true w v (ap (λ u. u.messages) g.after);
    knows = one-forgets (only g.t) w v g.t g.s (record g.s { life = Down }) g.here (ap (λ u. u.targets) g.after) (other-off g.t) (none-waits g.s.memory (quiet g.t g.s g.here (not-running g.s.life g.stopped)));
  }

  abbrev pub failing_loss : OpeningFails r w v → IsLoss w v
  failing_loss g = record {
    out = λ t. false;
    down = false;
    mail = all-mail w v (λ l i. subst (Has l) (sym (ap (λ u. u.messages) g.after)) i);
    knows = one-forgets (λ t. false) w v g.t g.s (record g.s { durable = g.k.durable; free = g.k.free }) g.here (ap (λ u. u.targets) g.after) (λ u other. refl)
        (none-waits g.s.memory (quiet g.t g.s g.here (not-running g.s.life g.stopped)));
  }

-- a target that has just opened
pub opening-waits : (t : TargetPlan) (d : Durable) → WaitsForNone (opening_memory t d)
unfolding first_leader
opening-waits t d = record { named = refl; parked = refl; inquiries = refl }

abbrev pub opening_loss : (r : Rules) (w v : World) → TargetOpens r w v → IsLoss w v
opening_loss r w v g = record {
  out = λ t. false;
  down = false;
  mail = all-mail w v (λ l i. subst (Has l) (sym (ap (λ u. u.messages) g.after)) (has-left w.messages (letters_of (target g.t) (opening_posts (target_plan r g.t) (reopened g.s.durable))) l i));
  knows = one-forgets (λ t. false) w v g.t g.s (opened_at r g.t g.number g.s g.free) g.here (ap (λ u. u.targets) g.after) (λ u other. refl) (opening-waits (target_plan r g.t) (reopened g.s.durable));
}

abbrev pub drawing_loss : (w v : World) → NumbersDrawn w v → IsLoss w v
drawing_loss w v g = record {
  out = λ t. false;
  down = false;
  mail = all-mail w v (λ l i. subst (Has l) (sym (ap (λ u. u.messages) g.after)) i);
  knows = record { memory = λ t z at. inr (z, ap (λ ts. slice_get ts t) (sym (ap (λ u. u.targets) g.after)) ∙ at, refl, refl) };
}

-- what goes to targets that are given up

down-there : (ss : List TargetState) (t : ℕ) (s : TargetState) → slice_get ss t ≡ Some s → is_down_at ss t ≡ is_given_up s.life
down-there [] t s at = let no : ⊥ = cc in absurd no
down-there (x ∷ ss) zero s at = let one : x ≡ s = cc in ap (λ y. is_given_up y.life) one
down-there (x ∷ ss) (suc t) s at = down-there ss t s at

module _ (w : World) (quiet : (t : ℕ) (s : TargetState) → slice_get w.targets t ≡ Some s → IsQuiet s) where
  pub swept-mail : LosesMail (is_down_at w.targets) true w (swept w)
  swept-mail = record {
    stays = λ l i off. has-filter (is_not_to_down w.targets) (w.messages ++ map (reset_letter true) (filter (is_to_down w.targets) w.asked)) l (has-left w.messages (map (reset_letter true) (filter (is_to_down w.targets) w.asked)) l i) (ap not off);
    told = λ q i lost off. has-filter (is_not_to_down w.targets) (w.messages ++ map (reset_letter true) (filter (is_to_down w.targets) w.asked)) (reset_letter true q)
        (has-right w.messages (map (reset_letter true) (filter (is_to_down w.targets) w.asked)) (reset_letter true q)
        (has-map (reset_letter true) (filter (is_to_down w.targets) w.asked) q (has-filter (is_to_down w.targets) w.asked q i lost))) (ap not off);
  }

  pub swept-forgets : Forgets (is_down_at w.targets) w (swept w)
  swept-forgets = record { memory = λ t z at. by t z at (is_down_at w.targets t) refl }
    where
      by : (t : ℕ) (z : TargetState) → slice_get w.targets t ≡ Some z → (b : Bool) → is_down_at w.targets t ≡ b
          → WaitsForNone z.memory ⊎ ((s : TargetState) × (slice_get w.targets t ≡ Some s) × (z.memory ≡ s.memory) × (is_down_at w.targets t ≡ false))
      by t z at false is = inr (z, at, refl, is)
      by t z at true is =
          inl (none-waits z.memory (quiet t z at (λ runs.
          let bad : false ≡ true = sym (ap is_given_up runs) ∙ sym (down-there w.targets t z at) ∙ is in (let no : ⊥ = cc in no))))

  abbrev pub sweeping_loss : IsLoss w (swept w)
  sweeping_loss = record { out = is_down_at w.targets; down = true; mail = swept-mail; knows = swept-forgets }
