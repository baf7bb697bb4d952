-- What follows from a turn, where no target is given up.
use Rattle.std.specs.Prelude.{◌≡◌, Bool, false, Result, Ok, Err, OnOk}
use Rattle.std.proofs.Common.{◌∙◌, ap, sym}
use Rattle.std.specs.List.{list_any}
use Rattle.base_messages.specs.declared.actor.ActorId.{ActorId}
use Rattle.run_base.specs.Letters.{BetweenNow}
use Rattle.run_laws.specs.shows.Stages.{StageNow}
use Rattle.run_laws.specs.shows.Sweeping.{nothing-lost}
use Rattle.run_laws.specs.shows.Turned.{followed, swept_stage, with_between}
use Rattle.world_base.specs.declared.did.Did.{Did}
use Rattle.world_base.specs.Stops.{is_given_up}

module _ {S C T E : Type 0} (result : Result T E) (from : ActorId) (did : Did) (a : StageNow S C) (b : BetweenNow) (none : list_any (λ life. is_given_up life) a.watch.lives ≡ false) where
  -- it came about, and nothing is lost
  pub followed-so : OnOk result (b.messages ≡ (followed from did a.between).messages) → OnOk result (b.asked ≡ (followed from did a.between).asked) → OnOk result (b.issued ≡ (followed from did a.between).issued) → OnOk result (b.lines ≡ (followed from did a.between).lines)
      → OnOk result (with_between b a ≡ swept_stage (with_between (followed from did a.between) a))
  followed-so = by result
    where
      by : (r : Result T E) → OnOk r (b.messages ≡ (followed from did a.between).messages) → OnOk r (b.asked ≡ (followed from did a.between).asked) → OnOk r (b.issued ≡ (followed from did a.between).issued) → OnOk r (b.lines ≡ (followed from did a.between).lines)
          → OnOk r (with_between b a ≡ swept_stage (with_between (followed from did a.between) a))
      by (Ok x) messages asked issued lines =
          ap (λ ms. with_between (record b { messages = ms }) a) messages
          ∙ ap (λ qs. with_between (record b { messages = (followed from did a.between).messages; asked = qs }) a) asked
          ∙ ap (λ is. with_between (record b { messages = (followed from did a.between).messages; asked = (followed from did a.between).asked; issued = is }) a) issued
          ∙ ap (λ ls. with_between (record { messages = (followed from did a.between).messages; asked = (followed from did a.between).asked; issued = (followed from did a.between).issued; lines = ls }) a) lines
          ∙ sym (ap (λ z. with_between z a) (nothing-lost a.watch.lives (followed from did a.between) none))
      by (Err e) messages asked issued lines = tt
