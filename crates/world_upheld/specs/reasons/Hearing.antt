-- What is lost at a target that was given up was asked of one of its attempt's targets, and a line tells of it; so a client that hears of a loss
-- has a stop for it, or such a line.
use Rattle.std.specs.Prelude.{ℕ, ◌≡◌, Bool, true, false, Contains, Some, None, refl}
use Rattle.std.proofs.Common.{sym, ◌∙◌, ap, subst}
use Rattle.base_types.specs.declared.id.AttemptId.{AttemptId}
use Rattle.base_types.specs.declared.report.Line.TheVariants as line
use Rattle.base_messages.specs.declared.message.Message.{Message, more_of-Message}
use Rattle.base_messages.specs.declared.message.Message.TheVariants as message
use Rattle.daos_model.specs.Accesses.{attempt_targets}
use Rattle.daos_model.specs.Opening.{Opening}
use Rattle.dtx_base.specs.LeaderLaws.{same-is}
use Rattle.model_laws.specs.Members.{Has, contains-from_has}
use Rattle.world_legal.specs.world_commit.attempts.Attempts.{IsOther}
use Rattle.world_legal.specs.world_commit.attempts.History.{History}
use Rattle.world_base.specs.declared.letter.Letter.{Letter}
use Rattle.world_base.specs.declared.world.World.{World}
use Rattle.world_base.specs.ClientTurns.{attempt_id, request_of}
use Rattle.world_base.specs.Events.{ClientHears, Rules, client_plan}
use Rattle.world_base.specs.Letters.{Takes, client, reset_message, target}
use Rattle.world_legal.specs.world_causes.causes.Causes.{Stored}
use Rattle.world_legal.specs.world_causes.causes.HearingLaws.{LossesStand}
use Rattle.world_legal.specs.world_commit.fates.Facts.{IsAskedSo, IsSaidSo}
use Rattle.world_legal.specs.world_causes.handing.Begun.{loss-reset, losses-asked}
use Rattle.world_legal.specs.world_causes.handing.Fitting.{answers-no_reset}
use Rattle.world_legal.specs.world_causes.handing.Handing.{IsToldTo, told-to}
use Rattle.world_legal.specs.world_causes.handing.Losing.{GivenUpAreTold, IsLossAt, losses-stand}
use Rattle.world_legal.specs.world_causes.handing.Targets.{other-is_target, question-target}
use Rattle.world_legal.specs.world_causes.losses.ClientHears.{TellsLoss}
use Rattle.world_legal.specs.world_causes.losses.Losses.{is_asked_of}
use Rattle.world_legal.specs.world_commit.statuses.Senders.{IsSentRightly}
use Rattle.world_letters.specs.talks.TalkLaws.{taken-from}
use Rattle.world_letters.specs.waits.ClientLaws.{present-of, question-about}
use Rattle.world_letters.specs.waits.Requests.{is_lost_request, is_request}
use Rattle.world_letters.specs.waits.Waits.{IsAnswer, IsLost, IsReplyTo}
use Rattle.world_upheld.specs.upheld.Begins.{AreRulesInForm}
use Rattle.world_upheld.specs.reasons.Accounted.{AccountedFor}
use Rattle.world_legal.specs.reasons.Downs.{TellsDown}
use Rattle.world_upheld.specs.reasons.Events.{places-of_rules}

-- ---- the statements

-- what is lost at a target that was given up was asked of one of its attempt's targets, and a line tells of it
abbrev pub AllLossesTellOfGivenUp : Type 0
AllLossesTellOfGivenUp = (r : Rules) (o : Opening) (h : History) (stored : Stored) (w : World) → AreRulesInForm r → AccountedFor r o h stored w
    → GivenUpAreTold r w

-- A client that hears that a request of its attempt was lost is told so of a target of the attempt: one that was given up, where it is down,
-- or else one that stopped since the attempt began.
abbrev pub AllClientsHearOfStops : Type 0
AllClientsHearOfStops =
    (r : Rules) (o : Opening) (h : History) (stored : Stored) (w v : World) → AreRulesInForm r → AccountedFor r o h stored w
    → (g : ClientHears r w v) → LossesStand r w.lines g.n g.c g.l.message

-- ---- what is lost

module _ (r : Rules) (o : Opening) (h : History) (stored : Stored) (w : World) (A : AreRulesInForm r) (k : AccountedFor r o h stored w) (l : Letter)
    (t : ℕ) (q : Message) (x : AttemptId) (i : Has l w.messages) (at : IsLossAt t true l.message) (tells : TellsLoss l.message q) where
  abbrev Targets : ℕ → Type 0
  Targets n = Contains (attempt_targets r.script x) n

  down : (m : Message) → IsLossAt t true m → TellsDown t m
  down (message.Reset' u true place (more_of-Message y more)) is = is.0
  down (message.Reset' u false place (more_of-Message y more)) is = let no : ⊥ = cc (is.1) in absurd no
  down m is = absurd is

  -- a leader's question is asked of another member
  member : (y : AttemptId) (m : ℕ) → y ≡ x → IsOther r y m → l.from ≡ target m → l.from ≡ target t → Targets t
  member y m same other receiver from = subst Targets (ap (λ a. a.number) (sym receiver ∙ from)) (other-is_target r x m (subst (λ z. IsOther r z m) same other))

  of-leader : (y : Message) → is_asked_of x y ≡ true → is_request y ≡ false → IsAskedSo r h w l.to l.from y → l.from ≡ target t → Targets t
  of-leader (message.Prepare e first ws inc) its off so from = member e.attempt so.way.member (same-is e.attempt x its) so.way.other so.way.receiver from
  of-leader (message.Status y inc) its off so from = member y so.way.member (same-is y x its) so.way.other so.way.receiver from
  of-leader (message.Prune y cont (Some tracker) None) its off so from = let no : ⊥ = cc (off) in absurd no
  of-leader y its off so from = let no : ⊥ = cc (its, off) in absurd no

  -- a client's is asked of one of the targets of its attempt
  requested : (y : Message) → is_request y ≡ true → is_asked_of x y ≡ true → request_of y ≡ Some x
  requested (message.Fetch y op group e first tracker rd snapshot) asks own = ap (λ z. Some z) (same-is y x own)
  requested (message.Commit y e first tracker ws) asks own = ap (λ z. Some z) (same-is y x own)
  requested (message.Ask y) asks own = ap (λ z. Some z) (same-is y x own)
  requested (message.Snap y cont name tracker) asks own = ap (λ z. Some z) (same-is y x own)
  requested (message.Prune y cont (Some tracker) None) asks own = ap (λ z. Some z) (same-is y x own)
  requested y asks own = let no : ⊥ = cc in absurd no

  lost-kind : (m : Message) → TellsLoss m q → is_request q ≡ true → is_lost_request m ≡ true
  lost-kind (message.Reset' u d place (more_of-Message y more)) is asks = ap is_request is ∙ asks
  lost-kind m is asks = absurd is

  of-client : is_request q ≡ true → is_asked_of x q ≡ true → Targets t
  of-client asks its = by z.reply.says
    where
      n : ℕ
      n = l.to.number

      to : l.to ≡ client n
      to = ap (λ b. record { client = b; number = n }) ((k.grounds.heard.requests.letters l i).lost (lost-kind l.message tells asks))

      rest : (left : _) × Takes w.messages l left
      rest = taken-from w.messages l (contains-from_has w.messages l i)

      z : IsToldTo r w n l
      z = told-to r w k.grounds.heard.talk n l rest.0 rest.1 to (loss-reset l.message q tells).1

      by : IsReplyTo z.q l.message → Targets t
      by (IsAnswer answers) = let bad : true ≡ false = sym (loss-reset l.message q tells).0 ∙ answers-no_reset z.q.message l.message answers in let no : ⊥ = cc in absurd no
      by (IsLost d lost) =
          let p = present-of z.c z.now in
          let about = question-about (client_plan r n) z.c p.a z.q p.at z.question in
          let says : z.q.message ≡ q = subst (λ m. TellsLoss m q) lost tells in
          let there : IsLossAt t true (reset_message z.q.to.number d z.q.message) = subst (IsLossAt t true) lost at in
          let same : Some (attempt_id (client_plan r n) z.c p.a) ≡ Some x = sym about.of_attempt ∙ (ap request_of says ∙ requested q asks its) in
          let own : attempt_id (client_plan r n) z.c p.a ≡ x = cc in
          subst Targets there.0
          (subst (λ y. Contains (attempt_targets r.script y) z.q.to.number) own
          (question-target r w k.grounds.heard.stand (places-of_rules r A) k.grounds.heard.within n z.c z.here p.a p.at z.q z.question))

  asked-so : (m : Message) → TellsLoss m q → IsSaidSo r h w l.from l.to m → IsAskedSo r h w l.to l.from q
  asked-so (message.Reset' u d place (more_of-Message y more)) is so = subst (IsAskedSo r h w l.to l.from) is so
  asked-so m is so = absurd is

  sent-by : (m : Message) → IsLossAt t true m → IsSentRightly l.from m → l.from ≡ target t
  sent-by (message.Reset' u d place more) is from = from ∙ ap target is.0
  sent-by m is from = absurd is

  told : is_asked_of x q ≡ true → Targets t × Contains w.lines (line.Down t)
  told its = (by (is_request q) refl, contains-from_has w.lines (line.Down t) (k.downs l t i (down l.message at)))
    where
      by : (b : Bool) → is_request q ≡ b → Targets t
      by true asks = of-client asks its
      by false off = of-leader q its off (asked-so l.message tells (k.grounds.heard.attempts.on.letters l i)) (sent-by l.message at (k.grounds.senders l i))

pub all-given-up_told : AllLossesTellOfGivenUp
all-given-up_told r o h stored w A k l t q x i at tells its present = told r o h stored w A k l t q x i at tells its

pub all-hear-of_stops : AllClientsHearOfStops
all-hear-of_stops r o h stored w v A k g =
    losses-stand r w g.n g.c g.l g.rest k.losses (losses-asked r w k.grounds.heard.talk) (all-given-up_told r o h stored w A k) g.here g.takes g.to_it
