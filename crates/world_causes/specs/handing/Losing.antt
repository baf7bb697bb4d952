-- What follows from losses for causes, and what losses ask of versions.
use Rattle.std.specs.Prelude.{ℕ, ◌≡◌, Bool, true, false, List, slice_get, Contains, Option, Some, None, refl}
use Rattle.std.proofs.Common.{sym, ◌∙◌, ap, subst}
use Rattle.base_types.specs.declared.id.AttemptId.{AttemptId}
use Rattle.base_types.specs.declared.report.Line.TheVariants as line
use Rattle.base_messages.specs.declared.message.Message.{Message, more_of-Message}
use Rattle.base_messages.specs.declared.message.Message.TheVariants as message
use Rattle.daos_model.specs.declared.durable.Version.{Version}
use Rattle.daos_model.specs.Accesses.{attempt_targets}
use Rattle.daos_model.specs.Opening.{Opening}
use Rattle.dtx_base.specs.LeaderLaws.{same-is}
use Rattle.model_laws.specs.Members.{Has, contains-from_has}
use Rattle.world_contents.specs.world_commit.attempts.Attempts.{entry_in}
use Rattle.world_contents.specs.world_commit.attempts.Counting.{has-taken}
use Rattle.world_contents.specs.world_commit.attempts.History.{History}
use Rattle.world_base.specs.declared.client.ClientState.{ClientState}
use Rattle.world_base.specs.declared.letter.Letter.{Letter}
use Rattle.world_base.specs.declared.world.World.{World}
use Rattle.world_base.specs.ClientTurns.{about, attempt_id, is_about, request_of}
use Rattle.world_base.specs.Events.{Rules, client_plan}
use Rattle.world_base.specs.Letters.{Takes, client}
use Rattle.world_causes.specs.causes.HearingLaws.{LossStands, LossesStand}
use Rattle.world_contents.specs.world_letters.epochs.Epochs.{IsPresent}
use Rattle.world_causes.specs.losses.ClientHears.{LossesAreAsked, TellsLoss}
use Rattle.world_causes.specs.losses.Losses.{Losses, is_asked_of, tells_stop}
use Rattle.world_causes.specs.losses.Readers.{OpenAreHeld}
use Rattle.world_contents.specs.reads.Versions.{Versions, IsPreparedAt}
use Rattle.world_base.specs.declared.target.TargetState.{TargetState}

-- what isn't settled is of an entry that isn't committed
pub versions-prepared : (r : Rules) (o : Opening) (held : ℕ → List Version) (h : History) (w : World) → Versions r o held h w → (t : ℕ) (s : TargetState) (v : Version) → slice_get w.targets t ≡ Some s → Contains s.durable.versions v → v.done ≡ false
    → IsPreparedAt s.durable v.by v.epoch
versions-prepared r o held h w k t s v here = (k.stand t s here).unsettled v

-- a message tells of a loss at this target, which is given up, or isn't
abbrev pub IsLossAt : ℕ → Bool → Message → Type 0
IsLossAt u gone (message.Reset' t down place more) = (t ≡ u) × (down ≡ gone)
IsLossAt u gone m = ⊥

-- what is lost of a present attempt at a target that is given up: that is one of its targets, and a line tells of it
abbrev pub GivenUpAreTold : Rules → World → Type 0
GivenUpAreTold r w = (l : Letter) (t : ℕ) (q : Message) (x : AttemptId) → Has l w.messages → IsLossAt t true l.message → TellsLoss l.message q → is_asked_of x q ≡ true → IsPresent r w x → Contains (attempt_targets r.script x) t × Contains w.lines (line.Down t)

-- so a client that waits hears of a loss only behind a stop of its attempt's targets, or what is given up
pub losses-stand : (r : Rules) (w : World) (n : ℕ) (c : ClientState) (l : Letter) (rest : List Letter) → Losses r w → LossesAreAsked w → GivenUpAreTold r w → slice_get w.clients n ≡ Some c → Takes w.messages l rest → l.to ≡ client n → LossesStand r w.lines n c l.message
losses-stand r w n c l rest k asked given here takes to a at waiting its = by l.message refl its
  where
    flies : Has l w.messages
    flies = has-taken w.messages l rest takes

    present : IsPresent r w (attempt_id (client_plan r n) c a)
    present = record { c = c; a = a; here = here; at = at; own = refl }

    lost : (q : Message) → TellsLoss l.message q → (o : Option AttemptId) → request_of q ≡ o → is_about (attempt_id (client_plan r n) c a) o ≡ true → is_asked_of (attempt_id (client_plan r n) c a) q ≡ true
    lost q tells None is bad = let no : ⊥ = cc in absurd no
    lost q tells (Some x) is same = asked l q (attempt_id (client_plan r n) c a) flies (ap (λ b. b.client) to) tells (is ∙ ap (λ z. Some z) (sym (same-is (attempt_id (client_plan r n) c a) x same)))

    by : (m : Message) → l.message ≡ m → is_about (attempt_id (client_plan r n) c a) (about m) ≡ true → LossStands r w.lines (attempt_id (client_plan r n) c a) m
    by (message.Reset' t true place (more_of-Message q more)) says own =
        let tells : TellsLoss l.message q = subst (λ m. TellsLoss m q) (sym says) refl in
        given l t q (attempt_id (client_plan r n) c a) flies (subst (IsLossAt t true) (sym says) (refl, refl)) tells (lost q tells (request_of q) refl own) present
    by (message.Reset' t false place (more_of-Message q more)) says own =
        let tells : TellsLoss l.message q = subst (λ m. TellsLoss m q) (sym says) refl in
        k.letters l (attempt_id (client_plan r n) c a) flies (ap (tells_stop (attempt_id (client_plan r n) c a)) says ∙ lost q tells (request_of q) refl own) present
    by m says own = tt

-- what isn't settled is of an attempt of which its target keeps an entry, where versions stand
pub open-held : (r : Rules) (o : Opening) (held : ℕ → List Version) (h : History) (w : World) → Versions r o held h w → OpenAreHeld w
open-held r o held h w k t s v here i off =
    let p = versions-prepared r o held h w k t s v here (contains-from_has s.durable.versions v i) off in
    record { entry = p.entry; found = ap (λ z. entry_in z v.by) here ∙ p.found }
