-- What targets hear, and turns that are cut, keep what is said of epochs.
use Rattle.std.specs.Prelude.{ℕ, ◌≡◌, List, slice_get, Some}
use Rattle.std.proofs.Common.{ap}
use Rattle.daos_model.specs.BoolLaws.{clash, false_of}
use Rattle.model_laws.specs.Members.{contains-from_has, has-from_contains}
use Rattle.world_causes.specs.world_commit.attempts.History.{History}
use Rattle.world_base.specs.declared.letter.Letter.{Letter}
use Rattle.world_base.specs.declared.target.TargetState.{TargetState}
use Rattle.world_base.specs.declared.world.World.{World}
use Rattle.world_base.specs.Events.{Rules, TargetHears, kept, target_plan}
use Rattle.world_base.specs.Letters.{Takes, target}
use Rattle.world_base.specs.RightTurns.{hears-rightly}
use Rattle.world_base.specs.Stops.{AtWork, Hearing, HearsMore, IdleWork, IsInHand, TargetCut}
use Rattle.world_base.specs.Further.{HearsFurther}
use Rattle.world_base.specs.TargetTurns.{Hears}
use Rattle.world_letters.specs.epochs.Epochs.{ClientsStand, Epochs}
use Rattle.world_letters.specs.epochs.Talking.{TalksOnce}
use Rattle.world_letters.specs.epochs.TargetEvents.{MaySpend}
use Rattle.world_causes.specs.world_commit.fates.Facts.{Attempts}
use Rattle.world_causes.specs.world_commit.fates.Rightly.{letters-tell}
use Rattle.world_causes.specs.hearing.HappeningEpochs.{talks-once}
use Rattle.world_letters.specs.snapshots.Makings.{Makings}
use Rattle.world_letters.specs.talks.TalkLaws.{taken-is-among}
use Rattle.world_letters.specs.waits.Premises.{RequestsAreOfClients}
use Rattle.world_letters.specs.waits.Requests.{is_lost_request}
use Rattle.world_letters.specs.waits.Waits.{Conversation}
use Rattle.world_making.specs.dates.Cutting.{BringsIssued, cut-kept}
use Rattle.world_making.specs.dates.Hearing.{further-turns, hears-turns}
use Rattle.world_making.specs.dates.Owning.{brings-issued}
use Rattle.world_causes.specs.handing.Dates.{SnapshotsAreRead}
use Rattle.world_making.specs.dates.Targets.{dated_then}
use Rattle.world_making.specs.dates.Turning.{IsHeardSo, hearing-dates, knows-then}

module _ (r : Rules) (top : ℕ) (h : History) (w : World) (alone : SnapshotsAreRead r) (clients : RequestsAreOfClients w) (talk : Conversation r w) (fates : Attempts r h w) (makings : Makings r w) (S : ClientsStand r w) (E : Epochs r top w) where
  once : TalksOnce w
  once = talks-once r w talk

  heard-so : (t : ℕ) (s : TargetState) (l : Letter) (rest : List Letter) → slice_get w.targets t ≡ Some s → Takes w.messages l rest → l.to ≡ target t → IsHeardSo w s l
  heard-so t s l rest here takes to = record {
    brings = brings-issued r top h w alone clients talk fates S E l (taken-is-among w.messages l rest takes);
    collecting = λ c i. contains-from_has w.issued (c.attempt, c.epoch) (makings.collecting t s c here i).0;
    lost = false_of (is_lost_request l.message) (λ on. clash l.to.client ((clients.letters l (has-from_contains w.messages l (taken-is-among w.messages l rest takes))).lost on) (ap (λ a. a.client) to));
  }

  pub hears-dated : (v : World) → TargetHears r w v → Epochs r top v
  hears-dated v g =
      let so = heard-so g.t g.s g.l g.rest g.here g.takes g.to_it in
      hearing-dates Hears r top w v once E g so
      (hears-turns r (dated_then w g.did.issued) (MaySpend w g.did.issued) (target_plan r g.t) g.s.opening g.s.memory g.reading g.l.from (kept g.s) g.new (g.memory, g.did) g.l.message (knows-then Hears r top w v once E g so) g.turn
      (hears-rightly (target_plan r g.t) g.s.opening g.s.memory g.reading g.l.from g.l.message (kept g.s) g.new (g.memory, g.did)
      (letters-tell r h w fates g.l g.t g.s (has-from_contains w.messages g.l (taken-is-among w.messages g.l g.rest g.takes)) g.to_it g.here) g.turn))

  pub more-dated : (v : World) → HearsMore r w v → Epochs r top v
  more-dated v f =
      let g = f.hears in
      let so = heard-so g.t g.s g.l g.rest g.here g.takes g.to_it in
      hearing-dates (HearsFurther f.number) r top w v once E g so
      (further-turns r (dated_then w g.did.issued) (MaySpend w g.did.issued) (target_plan r g.t) g.s.opening g.s.memory g.reading g.l.from (kept g.s) g.new (g.memory, g.did) f.number g.l.message (knows-then (HearsFurther f.number) r top w v once E g so) g.turn)

  pub cut-dated : (v : World) → TargetCut r w v → Epochs r top v
  cut-dated v g = cut-kept r top w v once E g (by g.work g.in_hand)
    where
      by : (a : AtWork) → IsInHand w g.t a → BringsIssued r top w v once E g a
      by (Hearing l reading number) hand = brings-issued r top h w alone clients talk fates S E l (taken-is-among w.messages l hand.0.0 hand.0.1)
      by IdleWork hand = tt
