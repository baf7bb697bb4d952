-- A turn in which a target hears what comes after stops: what it takes and sends, and what it looks at.
use Rattle.std.specs.Prelude.{ℕ, ◌≡◌, ◌++◌, false, Option, refl}
use Rattle.std.proofs.Common.{◌∙◌, ap, subst, sym}
use Rattle.base_types.specs.declared.epoch.Epoch.{Epoch}
use Rattle.base_types.specs.declared.id.AttemptId.{AttemptId}
use Rattle.model_laws.specs.Members.{Has, has-left}
use Rattle.world_commit.specs.attempts.Turning.{issue}
use Rattle.world_commit.specs.attempts.Counting.{has-taken}
use Rattle.world_commit.specs.fates.Facts.{PromptsFly, is_prompt_kind}
use Rattle.world_commit.specs.fates.Overs.{Over}
use Rattle.world_commit.specs.fates.Prompts.{AreSpoken, kind-no_prompt, prompts-spoken, spoken-speaking, taken-quietly}
use Rattle.world_base.specs.declared.did.Did.{Did}
use Rattle.world_base.specs.declared.target.TargetMemory.{TargetMemory}
use Rattle.world_base.specs.declared.world.World.{World}
use Rattle.world_base.specs.Changes.{Change, Kept, Steps}
use Rattle.world_base.specs.Events.{Rules, TargetHearsBy, listed, target_after}
use Rattle.world_base.specs.Further.{HearsFurther}
use Rattle.world_base.specs.Letters.{asked_after, letters_of, target}
use Rattle.world_base.specs.PathLaws.{reached-keeps}
use Rattle.world_base.specs.Statuses.{AtOnce, EndsAs, IsDone, Looking, Looks, NoChange}
use Rattle.world_base.specs.Turns.{Whole}

-- ---- turns without a change

-- what was kept stays, and determines what follows
pub record Looked (left_by : Kept → TargetMemory × Did) (old new : Kept) (left : TargetMemory × Did) : Type 0 where
  pub same : new ≡ old
  pub follows : left ≡ left_by old

pub looked : (left_by : Kept → TargetMemory × Did) (old new : Kept) (left : TargetMemory × Did) → Whole NoChange (EndsAs left_by) Looking old new left → Looked left_by old new left
looked left_by old new left turn = record { same = same; follows = ends turn.last new left turn.ends ∙ ap left_by same }
  where
    step : (a : AtOnce) (k : Kept) (o : Option Change) (b : AtOnce) (l : Kept) → NoChange a k o b → Steps o k l → k ≡ old → l ≡ old
    step a k o b l (Looks k2) steps is = steps ∙ is

    same : new ≡ old
    same = reached-keeps NoChange (λ a k. k ≡ old) step Looking old turn.last new turn.reached refl

    ends : (a : AtOnce) (k : Kept) (left : TargetMemory × Did) → EndsAs left_by a k left → left ≡ left_by k
    ends a k left (IsDone k2 left2 is) = is

-- ---- what is in flight then

module _ (number : ℕ) (r : Rules) (w v : World) (g : TargetHearsBy (HearsFurther number) r w v) where
  pub hears-flies : Has g.l w.messages
  hears-flies = has-taken w.messages g.l g.rest g.takes

  pub hears-messages : v.messages ≡ g.rest ++ letters_of (target g.t) g.did.posts
  hears-messages = ap (λ u. u.messages) g.after

  pub hears-asked : v.asked ≡ asked_after w.asked (letters_of (target g.t) g.did.posts)
  hears-asked = ap (λ u. u.asked) g.after

  issued : (x : AttemptId) (e : Epoch) → Has (x, e) w.issued → Has (x, e) v.issued
  issued x e i = subst (Has (issue x e)) (sym (ap (λ u. u.issued) g.after)) (has-left w.issued (listed g.did.issued) (issue x e) i)

  pub hears-over : Over w v g.t (target_after g.s g.new g.memory) g.l g.rest (letters_of (target g.t) g.did.posts)
  hears-over = record { takes = g.takes; targets = ap (λ u. u.targets) g.after; messages = hears-messages; asked = hears-asked; issued = issued }

  -- where nothing that a target asked is heard or answered
  pub hears-spoken : is_prompt_kind g.l.message ≡ false → AreSpoken g.did.posts → PromptsFly w → PromptsFly v
  hears-spoken kind posts fly = prompts-spoken w v (target g.t) g.did.posts g.rest (spoken-speaking (target g.t) g.did.posts posts) hears-messages hears-asked (taken-quietly w g.l g.rest g.takes (kind-no_prompt g.l kind)) fly
