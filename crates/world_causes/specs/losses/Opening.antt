-- An opening keeps the facts of losses: what it asks is of attempts whose leader rested.
use Rattle.std.specs.Prelude.{ℕ, ◌≡◌, ◌+◌, ◌==◌, ◌++◌, true, List, [], ◌∷◌, filter, slice_get, Some, refl}
use Rattle.std.proofs.Common.{sym, ◌∙◌, ap, subst, inl, inr, arith}
use Rattle.std.proofs.lemmas.Bool.Decides.{nat_tests}
use Rattle.base_types.specs.declared.id.AttemptId.{AttemptId}
use Rattle.model_laws.specs.Members.{Has, has-cases, has-from_filter, has-from_map}
use Rattle.base_messages.specs.declared.message.Post.{Post}
use Rattle.daos_model.specs.Changes.{reopened}
use Rattle.daos_model.specs.Durables.{entry_of}
use Rattle.dtx_base.specs.Leading.{is_led, is_open}
use Rattle.dtx_base.specs.LeaderLaws.{same-is}
use Rattle.world_contents.specs.world_commit.attempts.Attempts.{entry_at, entry_in, leader_of}
use Rattle.world_contents.specs.world_commit.attempts.History.{History}
use Rattle.world_contents.specs.world_commit.attempts.Stored.{found-here}
use Rattle.world_contents.specs.world_commit.fates.Asking.{asked-was}
use Rattle.world_contents.specs.world_commit.attempts.Turning.{one-or_another}
use Rattle.world_base.specs.declared.letter.Letter.{Letter}
use Rattle.world_base.specs.declared.target.Life.TheVariants.{Running}
use Rattle.world_base.specs.declared.world.World.{World}
use Rattle.world_base.specs.Events.{Rules, target_plan}
use Rattle.world_base.specs.Letters.{letter_of, letters_of, target}
use Rattle.world_base.specs.Statuses.{opening_posts}
use Rattle.world_base.specs.StepLaws.{set-here}
use Rattle.world_base.specs.Stops.{TargetOpens, opened_at, restart_line}
use Rattle.world_contents.specs.world_letters.epochs.Epochs.{IsPresent}
use Rattle.world_contents.specs.world_commit.fates.Facts.{Attempts}
use Rattle.world_contents.specs.world_commit.stops.Questions.{IsQuestion, opening-asks, question-is, reopened_rows}
use Rattle.world_causes.specs.losses.Losses.{Losses, Rests, StoppedSince, tells_stop}
use Rattle.world_causes.specs.losses.Recalling.{Recalls}
use Rattle.world_causes.specs.losses.Since.{since-more}
use Rattle.world_causes.specs.losses.Stopping.{rests-before, stopped-rests}
use Rattle.world_causes.specs.outcomes.Untried.{untried-one}

module _ (r : Rules) (h : History) (w v : World) (attempts : Attempts r h w) (k : Losses r w) (g : TargetOpens r w v) where
  abbrev asked : List Post
  asked = opening_posts (target_plan r g.t) (reopened g.s.durable)

  -- what it asks is of an attempt whose leader rested
  rested : (l : Letter) (x : AttemptId) → Has l (letters_of (target g.t) (opening_posts (target_plan r g.t) (reopened g.s.durable))) → tells_stop x l.message ≡ true → Rests r w x
  rested l x i is = record {
    s = g.s;
    here = ap (slice_get w.targets) leads ∙ g.here;
    off = stopped-rests g.s.life g.stopped;
    held = record { entry = question.e; found = ap (λ n. entry_at w n x) leads ∙ found };
  }
    where
      q : (p : Post) × Has p (opening_posts (target_plan r g.t) (reopened g.s.durable)) × (letter_of (target g.t) p ≡ l)
      q = has-from_map (letter_of (target g.t)) (opening_posts (target_plan r g.t) (reopened g.s.durable)) l i

      question : IsQuestion (g.s.durable.incarnation + 1) (reopened_rows g.t g.s.durable) q.0
      question = question-is (g.s.durable.incarnation + 1) (reopened_rows g.t g.s.durable) q.0 (subst (Has q.0) (opening-asks r g.t g.s.durable) q.1)

      own : question.e.attempt ≡ x
      own = same-is question.e.attempt x (ap (λ p. tells_stop x p.message) (sym question.is) ∙ subst (λ n. tells_stop x n.message ≡ true) (sym q.2) is)

      led : Has question.e g.s.durable.entries × (is_led g.t question.e ≡ true)
      led = has-from_filter (is_led g.t) g.s.durable.entries question.e (has-from_filter is_open (filter (is_led g.t) g.s.durable.entries) question.e question.among).0

      found : entry_at w g.t x ≡ Some question.e
      found = ap (λ o. entry_in o x) g.here ∙ subst (λ y. entry_of g.s.durable y ≡ Some question.e) own (found-here g.s.durable question.e (attempts.on.ordered g.t g.s g.here).entries led.0)

      leads : leader_of r x ≡ g.t
      leads = sym ((attempts.on.each x).entries.one g.t question.e found).leader ∙ number question.e.leader led.1
        where
          number : (n : ℕ) → (n == g.t) ≡ true → n ≡ g.t
          number n is2 = grind (arith, nat_tests)

  since : (l : Letter) (x : AttemptId) → Has l (letters_of (target g.t) (opening_posts (target_plan r g.t) (reopened g.s.durable))) → tells_stop x l.message ≡ true → IsPresent r w x → StoppedSince r (w.lines ++ restart_line g.number g.t g.s.durable ∷ []) x
  since l x i is at = since-more r w.lines (restart_line g.number g.t g.s.durable ∷ []) x (untried-one (restart_line g.number g.t g.s.durable) refl) (k.resting x (rested l x i is) at)

  pub opening-recalls : Recalls r w v
  opening-recalls = record {
    clients = ap (λ u. u.clients) g.after;
    more = restart_line g.number g.t g.s.durable ∷ [];
    lines = ap (λ u. u.lines) g.after;
    untried = untried-one (restart_line g.number g.t g.s.durable) refl;
    letters = λ l x i is at. elim (has-cases w.messages (letters_of (target g.t) asked) l (subst (Has l) (ap (λ u. u.messages) g.after) i)) [ inl before ↦ inl before | inr new ↦ inr (since l x new is at) ];
    asked = λ l x i is asks at. elim (asked-was w.asked (letters_of (target g.t) asked) l (subst (Has l) (ap (λ u. u.asked) g.after) i)) [ inl before ↦ inl before | inr new ↦ inr (since l x new.0 is at) ];
    resting = λ x rests at. elim (one-or_another (leader_of r x) g.t) [
      | inl is ↦ absurd (rests.off (runs x rests is))
      | inr off ↦ inl (rests-before r w v g.t (opened_at r g.t g.number g.s g.free) (ap (λ u. u.targets) g.after) x off rests)
    ];
  }
    where
      -- once it has opened, it runs
      runs : (x : AttemptId) → (rests : Rests r v x) → leader_of r x ≡ g.t → rests.s.life ≡ Running
      runs x rests is =
          let now : slice_get v.targets g.t ≡ Some (opened_at r g.t g.number g.s g.free) = ap (λ ts. slice_get ts g.t) (ap (λ u. u.targets) g.after) ∙ set-here w.targets g.t g.s (opened_at r g.t g.number g.s g.free) g.here in
          let both : Some rests.s ≡ Some (opened_at r g.t g.number g.s g.free) = sym rests.here ∙ ap (slice_get v.targets) is ∙ now in
          let one : rests.s ≡ opened_at r g.t g.number g.s g.free = cc in
          ap (λ s. s.life) one
