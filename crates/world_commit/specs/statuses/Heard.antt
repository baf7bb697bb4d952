-- What a target hears after stops keeps the facts of attempts.
use Rattle.std.specs.Prelude.{ℕ, ◌≡◌, not, Bool, true, false, refl}
use Rattle.std.proofs.Common.{ap, subst}
use Rattle.daos_model.specs.BoolLaws.{not_true}
use Rattle.base_messages.specs.declared.message.Message.{Message, more_of-Message}
use Rattle.base_messages.specs.declared.message.Message.TheVariants as message
use Rattle.world_commit.specs.attempts.History.{GrowsBy, History}
use Rattle.world_commit.specs.fates.Asked.{AskedRight}
use Rattle.world_commit.specs.fates.Concerns.{concerns}
use Rattle.world_commit.specs.fates.Facts.{Attempts, IsSaidSo, answers_for, asks_for, is_prompt_kind}
use Rattle.world_commit.specs.statuses.AskTurns.{ask-keeps, ask-prompts}
use Rattle.world_commit.specs.statuses.DownTurns.{down-keeps, down-prompts}
use Rattle.world_commit.specs.statuses.Fates.{told_by_it, told_further}
use Rattle.world_commit.specs.statuses.Resets.{IsResetOf}
use Rattle.world_commit.specs.statuses.ResetTurns.{is_collecting, reset-keeps}
use Rattle.world_commit.specs.statuses.Senders.{IsSentRightly, SendersAreRight}
use Rattle.world_commit.specs.statuses.StateTurns.{state-keeps, state-prompts}
use Rattle.world_commit.specs.statuses.StatusTurns.{status-keeps, status-prompts}
use Rattle.world_commit.specs.statuses.Turns.{hears-flies}
use Rattle.world_commit.specs.stops.Cuts.{later-keeps}
use Rattle.world_base.specs.declared.world.World.{World}
use Rattle.world_base.specs.Events.{Rules, TargetHearsBy, kept, target_after, target_plan}
use Rattle.world_base.specs.Further.{HearsFurther}
use Rattle.world_base.specs.Stops.{HearsMore}

-- a message that is heard for no snapshot and no aggregation, and doesn't tell target 0 that what it asked for one got no answer
abbrev pub is_of_attempts : Message → Bool
is_of_attempts (message.Snap x c called tracker) = false
is_of_attempts (message.Freeze x c s) = false
is_of_attempts (message.Held x refusal) = false
is_of_attempts (message.Prune x c tracker e) = false
is_of_attempts (message.Reset' by down place (more_of-Message q rest)) = not (is_collecting q)
is_of_attempts m = true

abbrev pub HeardFurtherKeepsAttempts : Type 0
HeardFurtherKeepsAttempts =
    (r : Rules) (h later : History) (w v : World) → AskedRight r h w → SendersAreRight w → Attempts r h w → (g : HearsMore r w v) → is_of_attempts g.hears.l.message ≡ true → GrowsBy h (told_further g) later → Attempts r later v

module _ (number : ℕ) (r : Rules) (h later : History) (w v : World) (right : AskedRight r h w) (senders : SendersAreRight w) (k : Attempts r h w) (g : TargetHearsBy (HearsFurther number) r w v) where
  sender : (m : Message) → g.l.message ≡ m → IsSentRightly g.l.from m
  sender m is = subst (IsSentRightly g.l.from) is (senders g.l (hears-flies number r w v g))

  kinds : (m : Message) → g.l.message ≡ m → is_of_attempts m ≡ true → HearsFurther number (target_plan r g.t) g.s.opening g.s.memory g.reading g.l.from m (kept g.s) g.new (g.memory, g.did)
      → GrowsBy h (told_by_it m g.s (target_after g.s g.new g.memory) g.did.posts) later → Attempts r later v
  kinds (message.StatusIs x inc how) is ours turn grows = record { on = state-keeps number r h later w v right k.on g x inc how is turn grows; prompt = state-prompts number r h later w v right k.on g x inc how is turn k.prompt }
  kinds (message.Status x inc) is ours turn grows =
      later-keeps r h later v grows (record { on = status-keeps number r h w v k.on g x inc is turn; prompt = status-prompts number r h w v k.on g x inc is turn k.prompt })
  kinds (message.Ask x) is ours turn grows =
      later-keeps r h later v grows (record { on = ask-keeps number r h w v k.on g x is (sender (message.Ask x) is) turn; prompt = ask-prompts number r h w v k.on g x is (sender (message.Ask x) is) turn k.prompt })
  kinds (message.Reset' by down place (more_of-Message q rest)) is ours turn grows =
      let z = reset-keeps number r h w v k.on g by down (sender (message.Reset' by down place (more_of-Message q rest)) is) q (not_true (is_collecting q) ours) reset turn in
      later-keeps r h later v grows (record { on = z.on; prompt = z.prompts k.prompt })
    where
      reset : IsResetOf g.l q
      reset = record {
        said = λ r2 h2 w2 so. subst (IsSaidSo r2 h2 w2 g.l.from g.l.to) is so;
        asks = λ i x. ap (asks_for i x) is;
        answers = λ i x. ap (answers_for i x) is;
        concerned = λ x. ap (concerns x) is;
        no_prompt = ap is_prompt_kind is;
      }
  kinds (message.Commit x ep first tracker ws) is ours turn grows = record {
    on = down-keeps number r h later w v right k.on g x ep first tracker ws is turn grows;
    prompt = down-prompts number r h later w v right k.on g x ep first tracker ws is turn k.prompt;
  }
  kinds (message.Snap x c called tracker) is ours turn grows = let no : ⊥ = cc in absurd no
  kinds (message.Freeze x c s) is ours turn grows = let no : ⊥ = cc in absurd no
  kinds (message.Held x refusal) is ours turn grows = let no : ⊥ = cc in absurd no
  kinds (message.Prune x c tracker e) is ours turn grows = let no : ⊥ = cc in absurd no
  kinds m is ours turn grows = absurd turn

  pub hears-keeps : is_of_attempts g.l.message ≡ true → GrowsBy h (told_by_it g.l.message g.s (target_after g.s g.new g.memory) g.did.posts) later → Attempts r later v
  hears-keeps ours grows = kinds g.l.message refl ours g.turn grows

pub further-keeps : HeardFurtherKeepsAttempts
further-keeps r h later w v right senders k g ours grows = hears-keeps g.number r h later w v right senders k g.hears ours grows
