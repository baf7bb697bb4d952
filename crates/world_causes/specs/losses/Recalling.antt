-- What an event of a target leaves of all that tells of stops, and that it keeps the facts of losses.
use Rattle.std.specs.Prelude.{◌≡◌, ◌⊎◌, ◌++◌, true, List, []}
use Rattle.std.proofs.Common.{sym, subst, inl, inr}
use Rattle.base_types.specs.declared.id.AttemptId.{AttemptId}
use Rattle.base_types.specs.declared.report.Line.{Line}
use Rattle.model_laws.specs.Members.{Has}
use Rattle.daos_model.specs.Attempts.{EachTry, is_lost, tries}
use Rattle.daos_model.specs.CausesShown.{IsLostAtStop}
use Rattle.world_base.specs.declared.letter.Letter.{Letter}
use Rattle.world_base.specs.declared.world.World.{World}
use Rattle.world_base.specs.Events.{Rules}
use Rattle.world_contents.specs.world_letters.epochs.Epochs.{IsAt, IsPresent}
use Rattle.world_causes.specs.losses.Losses.{Losses, Rests, StoppedSince, is_asked_of, tells_stop}
use Rattle.world_causes.specs.losses.Since.{each-more, since-more}
use Rattle.std.specs.Prelude.{ℕ, slice_get, Some}
use Rattle.std.proofs.Common.{◌∙◌, ap}
use Rattle.std.proofs.Math.ListN.{set}
use Rattle.world_base.specs.StepLaws.{set-here}
use Rattle.world_base.specs.declared.target.Life.TheVariants.{Running}
use Rattle.world_base.specs.declared.target.TargetState.{TargetState}
use Rattle.world_contents.specs.world_commit.attempts.Attempts.{leader_of}

-- no line tells of an attempt more; and what tells of a stop is behind one, or told so before
pub record Recalls (r : Rules) (w v : World) : Type 0 where
  pub clients : v.clients ≡ w.clients
  pub more : List Line
  pub lines : v.lines ≡ w.lines ++ more
  pub untried : tries more ≡ []
  pub letters : (l : Letter) (x : AttemptId) → Has l v.messages → tells_stop x l.message ≡ true → IsPresent r w x → Has l w.messages ⊎ StoppedSince r (w.lines ++ more) x
  pub asked : (l : Letter) (x : AttemptId) → Has l v.asked → tells_stop x l.message ≡ true → is_asked_of x l.message ≡ true → IsPresent r w x → Has l w.asked ⊎ StoppedSince r (w.lines ++ more) x
  pub resting : (x : AttemptId) → Rests r v x → IsPresent r w x → Rests r w x ⊎ StoppedSince r (w.lines ++ more) x

pub recalling-keeps : (r : Rules) (w v : World) → Recalls r w v → Losses r w → Losses r v
recalling-keeps r w v g k = record {
  letters = λ l x i is at. since x (elim (g.letters l x i is (before x at)) [ inl old ↦ on x (k.letters l x old is (before x at)) | inr new ↦ new ]);
  asked = λ l x i is asks at. since x (elim (g.asked l x i is asks (before x at)) [ inl old ↦ on x (k.asked l x old is asks (before x at)) | inr new ↦ new ]);
  resting = λ x rests at. since x (elim (g.resting x rests (before x at)) [ inl old ↦ on x (k.resting x old (before x at)) | inr new ↦ new ]);
  lines = subst (EachTry (λ before' a. is_lost a.id a.outcome ≡ true → IsLostAtStop r.script before' a)) (sym g.lines) (each-more (λ before' a. is_lost a.id a.outcome ≡ true → IsLostAtStop r.script before' a) w.lines g.more g.untried k.lines);
}
  where
    before : (x : AttemptId) → IsPresent r v x → IsPresent r w x
    before x at = subst (λ cs. IsAt r cs x) g.clients at

    on : (x : AttemptId) → StoppedSince r w.lines x → StoppedSince r (w.lines ++ g.more) x
    on x z = since-more r w.lines g.more x g.untried z

    since : (x : AttemptId) → StoppedSince r (w.lines ++ g.more) x → StoppedSince r v.lines x
    since x z = subst (λ ls. StoppedSince r ls x) (sym g.lines) z

-- an attempt's leader runs, where the target that took a turn leads it
pub turn-runs : (r : Rules) (w v : World) (t : ℕ) (s z : TargetState) → slice_get w.targets t ≡ Some s → v.targets ≡ set w.targets t z → z.life ≡ Running → (x : AttemptId) → (rests : Rests r v x) → leader_of r x ≡ t → rests.s.life ≡ Running
turn-runs r w v t s z here targets runs x rests is =
    let now : slice_get v.targets t ≡ Some z = ap (λ ts. slice_get ts t) targets ∙ set-here w.targets t s z here in
    let both : Some rests.s ≡ Some z = sym rests.here ∙ ap (slice_get v.targets) is ∙ now in
    let one : rests.s ≡ z = cc in
    ap (λ y. y.life) one ∙ runs
