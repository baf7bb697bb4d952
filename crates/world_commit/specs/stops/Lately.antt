-- What a target finds of one attempt that was changed when it stopped: this concerns no other attempt.
use Rattle.std.specs.Prelude.{ℕ, ◌≡◌, ◌⊎◌, slice_get, Some, refl}
use Rattle.std.proofs.Common.{sym, ◌∙◌, ap, subst, arith, inl, inr}
use Rattle.std.proofs.Math.ListN.{set}
use Rattle.base_types.specs.declared.id.AttemptId.{AttemptId}
use Rattle.model_laws.specs.Members.{Has}
use Rattle.daos_model.specs.Durables.{entry_of}
use Rattle.world_commit.specs.attempts.Attempts.{IsBorn, IsOrdered, count, entry_at, entry_in, inc_at, inc_in, is_known_at, is_known_in, leader_of, row_at, row_in}
use Rattle.world_commit.specs.attempts.Frames.{SameFate}
use Rattle.world_commit.specs.attempts.History.{History}
use Rattle.world_commit.specs.attempts.Turning.{one-or_another, one-or_other}
use Rattle.world_commit.specs.fates.Facts.{Attempt, Attempts, IsQuiet, RunsAt, down_in}
use Rattle.world_commit.specs.fates.Frames.{Grows, SameLives, SameMail, asked-on, said-on, untouched}
use Rattle.world_commit.specs.fates.Stepping.{Goes}
use Rattle.world_commit.specs.stops.Parts.{all-now, now-here, now-same, now-there}
use Rattle.world_base.specs.declared.target.TargetState.{TargetState}
use Rattle.world_base.specs.declared.world.World.{World}
use Rattle.world_base.specs.Events.{Rules, with_target}

-- a target keeps something else, and knows and does what it did
pub record Finds (w v : World) (t : ℕ) (s z : TargetState) : Type 0 where
  pub here : slice_get w.targets t ≡ Some s
  pub after : v ≡ with_target t z w
  pub memory : z.memory ≡ s.memory
  pub life : z.life ≡ s.life
  pub incarnation : z.durable.incarnation ≡ s.durable.incarnation

module _ (w v : World) (t : ℕ) (s z : TargetState) (f : Finds w v t s z) where
  targets : v.targets ≡ set w.targets t z
  targets = ap (λ u. u.targets) f.after

  pub found-row : (u : ℕ) (x : AttemptId) → row_at v u x ≡ row_at w u x
  found-row u x = now-same w v t s z f.here targets (λ o. row_in o x) (ap (λ m. row_in (Some (record s { memory = m })) x) f.memory) u

  pub found-known : (u : ℕ) (x : AttemptId) → is_known_at v u x ≡ is_known_at w u x
  found-known u x = now-same w v t s z f.here targets (λ o. is_known_in o x) (ap (λ m. is_known_in (Some (record s { memory = m })) x) f.memory) u

  pub found-entry : (u : ℕ) (x : AttemptId) → entry_of z.durable x ≡ entry_of s.durable x → entry_at v u x ≡ entry_at w u x
  found-entry u x same = now-same w v t s z f.here targets (λ o. entry_in o x) same u

  pub found-here : (x : AttemptId) → entry_at v t x ≡ entry_of z.durable x
  found-here x = now-here w v t s z f.here targets (λ o. entry_in o x)

  pub found-before : (x : AttemptId) → entry_at w t x ≡ entry_of s.durable x
  found-before x = ap (λ o. entry_in o x) f.here

  pub found-there : (u : ℕ) (x : AttemptId) → (u ≡ t → ⊥) → entry_at v u x ≡ entry_at w u x
  found-there u x off = now-there w v t s z f.here targets (λ o. entry_in o x) u off

  found-inc : (u : ℕ) → inc_at v u ≡ inc_at w u
  found-inc u = now-same w v t s z f.here targets inc_in f.incarnation u

  found-runs : (u : ℕ) → RunsAt v u → RunsAt w u
  found-runs u runs y at = elim (one u) [
    | inl is ↦
        let now : slice_get v.targets u ≡ Some z = ap (slice_get v.targets) is ∙ now-here w v t s z f.here targets (λ o. o) in
        let own : Some s ≡ Some y = sym f.here ∙ ap (slice_get w.targets) (sym is) ∙ at in
        let same : s ≡ y = cc in
        ap (λ q. q.life) (sym same) ∙ sym f.life ∙ runs z now
    | inr off ↦ runs y (now-there w v t s z f.here targets (λ o. o) u off ∙ at)
  ]
    where
      one : (u : ℕ) → (u ≡ t) ⊎ (u ≡ t → ⊥)
      one u = one-or_another u t

  pub found-lives : SameLives w v
  found-lives = record { runs = found-runs; incarnation = found-inc; down = λ u m. now-same w v t s z f.here targets (λ o. down_in o m) (ap (λ q. down_in (Some (record s { memory = q })) m) f.memory) u }

  pub same-mail : (r : Rules) (h : History) (x : AttemptId) → SameMail r h w v x
  same-mail r h x = subst (λ u. SameMail r h w u x) (sym f.after) (record { issued = λ e i. i; talks = λ inc m. refl; tries = λ m. omega arith; prepares = λ m l i is. i; refusals = λ inc l i is. inl i })

  module _ (r : Rules) (h later : History) (a : AttemptId) (others : (x : AttemptId) → (x ≡ a → ⊥) → entry_of z.durable x ≡ entry_of s.durable x) (fate : (x : AttemptId) → (x ≡ a → ⊥) → SameFate h later x) (own : Goes r h later w v a) where
    goes : (x : AttemptId) → Goes r h later w v x
    goes x = elim (one-or_other x a) [
      | inl same ↦ subst (Goes r h later w v) (sym same) own
      | inr off ↦ record {
        decided = (fate x off).decided;
        aborted = (fate x off).aborted;
        held = λ u i. inl (record { entry = i.entry; found = found-entry u x (others x off) ∙ i.found });
        settled = λ u i. inl (record { entry = i.entry; found = found-entry u x (others x off) ∙ i.found; committed = i.committed });
      }
    ]

    pub found-grows : Grows r h later w v
    found-grows = record {
      decided = λ x. (goes x).decided;
      aborted = λ x. (goes x).aborted;
      issued = λ x e i. subst (Has (x, e)) (sym (ap (λ u. u.issued) f.after)) i;
      incarnation = λ u. let same = found-inc u in omega (arith, same);
      born = born;
      held = λ m x o i. (goes x).held m i;
      settled = λ m x o i. (goes x).settled m i;
    }
      where
        born : (x : AttemptId) → IsBorn r h w x → IsBorn r later v x
        born x (inl i) = (goes x).held (leader_of r x) i
        born x (inr b) = inr ((goes x).aborted b)

    pub finding-keeps : Attempt r later v a → IsOrdered z → Attempts r h w → Attempts r later v
    finding-keeps attempt ordered k = record {
      on = record {
        each = λ x. elim (one-or_other x a) [
          | inl same ↦ subst (Attempt r later v) (sym same) attempt
          | inr off ↦ untouched r h later w v x (record {
            fate = fate x off;
            entry = λ u. found-entry u x (others x off);
            row = λ u. found-row u x;
            known = λ u. found-known u x;
            mail = same-mail r h x;
            lives = found-lives;
          }) (k.on.each x)
        ];
        letters = λ l i. said-on r h later w v found-grows l.from l.to l.message (k.on.letters l (subst (Has l) (ap (λ u. u.messages) f.after) i));
        asked = λ l i. asked-on r h later w v found-grows l.from l.to l.message (k.on.asked l (subst (Has l) (ap (λ u. u.asked) f.after) i));
        ordered = all-now w v t s z f.here targets IsOrdered ordered k.on.ordered;
        quiet = all-now w v t s z f.here targets IsQuiet (λ off. f.memory ∙ k.on.quiet t s f.here (λ is. off (f.life ∙ is))) k.on.quiet;
      };
      prompt = λ p wide. ap (λ u. count p u.asked) f.after ∙ k.prompt p wide ∙ sym (ap (λ u. count p u.messages) f.after);
    }
