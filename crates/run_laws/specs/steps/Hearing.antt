-- What goes to a target that runs it can hear.
use Rattle.world_closing.specs.Below.{CanHearLetter, CanHearOfMaking, begins-well, runs-can_hear_all, CanHear}
use Rattle.std.specs.Prelude.{ℕ, ◌≡◌, ◌∷◌, All, true, List, Option, Some, None, refl}
use Rattle.std.proofs.Common.{inl, inr, sym, ◌∙◌, ap, subst}
use Rattle.base_messages.specs.declared.message.Message.{Message}
use Rattle.base_messages.specs.declared.message.Message.TheVariants as message
use Rattle.base_types.specs.declared.epoch.Epoch.{Epoch}
use Rattle.base_types.specs.declared.operation.MinorWrite.{MinorWrite}
use Rattle.daos_model.specs.declared.durable.Durable.{Durable}
use Rattle.model_laws.specs.Members.{Has, contains-from_has, has-right}
use Rattle.run_base.specs.Letters.{IsPicked}
use Rattle.run_laws.specs.shows.CanGo.{CanGo, IsHearable}
use Rattle.run_laws.specs.shows.Going.{AreFindable, found-some, some-found}
use Rattle.run_laws.specs.shows.Parts.{target-there}
use Rattle.run_laws.specs.shows.Stages.{IsPlace, StageNow}
use Rattle.run_laws.specs.steps.Going.{AllTell}
use Rattle.target_core.specs.Targets as target_core
use Rattle.target_core.specs.Targets.{TargetOf}
use Rattle.target_core.specs.target_writes.CheckLaws.{new-at}
use Rattle.target_core.specs.target_writes.Checks.{AreNewAt}
use Rattle.vos_store.specs.Calls.{State}
use Rattle.world_base.specs.declared.letter.Letter.{Letter}
use Rattle.world_base.specs.declared.target.Life.TheVariants.{Running}
use Rattle.world_base.specs.Commits.{own_writes}
use Rattle.world_base.specs.Events.{Rules, target_plan}
use Rattle.world_base.specs.Letters.{target}
use Rattle.run_opening.specs.world_contents.posts.Forms.{HasFormAfterStops, IsInForm, IsLetter}

-- ---- messages

module _ (r : Rules) (t : ℕ) (d : Durable) where
  all-new : (ep : Option Epoch) (ws : List MinorWrite) → ((e : Epoch) → ep ≡ Some e → All (λ v. v.epoch.0 ≡ e.0 → ⊥) d.versions) → AreNewAt ep ws d
  all-new None ws unused = tt
  all-new (Some e) ws unused = new-at e ws d (unused e refl)

  heard-plainly : (m : Message) → CanHear r t d m → target_core.CanHear (target_plan r t) m d
  heard-plainly (message.Fetch x op group ep first tracker read snapshot) k = k.enlisted
  heard-plainly (message.Commit x ep first tracker ws) k = record { enlisted = k.store.enlisted; absent = k.store.absent; new = all-new ep (own_writes (target_plan r t) ws) k.store.new }
  heard-plainly (message.Prepare e first ws inc) k = record { enlisted = k.store.enlisted; absent = k.store.absent; new = new-at e.epoch ws d (k.store.new e.epoch refl) }
  heard-plainly (message.Ack x inc refusal) k = tt
  heard-plainly (message.Mark inc marks) k = tt
  heard-plainly (message.Marked inc ids) k = tt
  heard-plainly (message.Query x ask) k = tt
  heard-plainly (message.Verdict x ask inc v) k = tt
  heard-plainly m k = absurd k

  heard-after_stops : (m : Message) → HasFormAfterStops m → target_core.CanHear (target_plan r t) m d
  heard-after_stops (message.Fetch x op group ep first tracker read snapshot) k = absurd k
  heard-after_stops (message.Commit x ep first tracker ws) k = absurd k
  heard-after_stops (message.Prepare e first ws inc) k = absurd k
  heard-after_stops (message.Snap x c name tracker) k = absurd k
  heard-after_stops (message.Prune x c tracker e) k = absurd k
  heard-after_stops (message.Freeze x c s) k = absurd k
  heard-after_stops m k = tt

  heard-making : (m : Message) → CanHearOfMaking d m → target_core.CanHear (target_plan r t) m d
  heard-making (message.Snap x c name tracker) k = k
  heard-making (message.Prune x c tracker e) k = k
  heard-making (message.Freeze x c s) k = k
  heard-making (message.Held x refusal) k = tt
  heard-making (message.Reset' by down place asked) k = tt
  heard-making (message.Fetch x op group (Some e) first tracker read true) k = k.enlisted
  heard-making m k = absurd k

  -- what a target of the world can hear, one of its plan can
  pub can-hear : (l : Letter) → CanHearLetter r t d l → target_core.CanHear (target_plan r t) l.message d
  can-hear l (inl (inl k)) = heard-plainly l.message k
  can-hear l (inl (inr k)) = heard-after_stops l.message k
  can-hear l (inr k) = heard-making l.message k.can

-- ---- letters

module _ {S C : Type 0} (durable : S → Option Durable) (state : S → State) (may : S → Durable → Type 0) (a : StageNow S C) (can : CanGo durable state may a) (t number : ℕ) (l : Letter) (rest : List Letter) (picked : IsPicked a.between.messages (target t) number l rest) where
  pub picked-among : Has l a.between.messages
  picked-among = subst (Has l) (sym picked.among) (has-right picked.before (l ∷ picked.after) l (inl refl))

  picked-letter : IsLetter (target_plan can.rules) l
  picked-letter = can.messages l (contains-from_has a.between.messages l picked-among)

  -- the letter that a target hears has form
  pub picked-in-form : IsInForm (target_plan can.rules t) l.message
  picked-in-form = subst (λ p. IsInForm p l.message) (ap (λ q. target_plan can.rules q.number) picked.to_it) (picked-letter.asked (ap (λ q. q.client) picked.to_it))

  module _ (findable : AreFindable durable may) (tells : (d : Durable) (x : TargetOf S C) → durable x.store ≡ Some d → AllTell durable) (x : TargetOf S C) (place : IsPlace a t x Running) where
    -- with what is kept there it can be heard
    can-here : (d : Durable) → durable x.store ≡ Some d → target_core.CanHear x.plan l.message d
    can-here d told =
        let g = can.told t x d place.there told in
        let tell = tells d x told in
        let found = some-found durable state may findable a (λ z. tell z.store) in
        let y = g.reached found (found-some durable state may findable a (λ z. tell z.store)) in
        let s = target-there durable state g.rules found a y.now t x Running y.shows place in
        let among = subst (λ ls. Has l ls) y.shows.messages picked-among in
        let heard = runs-can_hear_all g.rules g.opening g.first y.now l t s.s g.begins.form (begins-well g.rules g.opening g.first g.begins.begins) y.run (contains-from_has y.now.messages l among) picked.to_it s.here s.is.lives in
        let same : s.s.durable ≡ d = let e : Some s.s.durable ≡ Some d = sym s.is.so.told ∙ told in cc in
        subst (λ p. target_core.CanHear p l.message d) (sym s.is.made) (can-hear g.rules t d l (subst (λ e. CanHearLetter g.rules t e l) same heard))

    -- the letter that is picked for a target that runs can be heard there
    pub hearable : IsHearable durable x l
    hearable = record {
      form = subst (λ p. IsInForm p l.message) (sym (can.made t x place.there)) picked-in-form;
      kind = picked-letter.kind (ap (λ q. q.client) picked.to_it);
      few = picked-letter.few;
      here = λ d told. can-here d told;
    }
