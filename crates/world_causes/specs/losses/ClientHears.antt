-- A client that hears a message: its attempt is unresolved by itself, or it asks what became of it, only where what it heard told of a stop.
use Rattle.std.specs.Prelude.{ℕ, ◌≡◌, ◌&&◌, Bool, true, false, List, slice_get, Option, Some, None, refl, if◌then◌else◌}
use Rattle.std.proofs.Common.{sym, ◌∙◌, ap, subst, inl, inr}
use Rattle.base_types.specs.declared.epoch.Epoch.{Epoch}
use Rattle.base_types.specs.declared.id.AttemptId.{AttemptId}
use Rattle.base_types.specs.declared.outcome.Cause.TheVariants as cause
use Rattle.base_types.specs.declared.outcome.Outcome.{Outcome}
use Rattle.base_types.specs.declared.outcome.Outcome.TheVariants as outcome
use Rattle.base_types.specs.declared.report.Attempt.{Attempt}
use Rattle.base_messages.specs.declared.message.Message.{Message, more_of-Message}
use Rattle.base_messages.specs.declared.message.Message.TheVariants as message
use Rattle.base_messages.specs.declared.message.Post.{Post}
use Rattle.base_messages.specs.declared.message.Reply.{Reply}
use Rattle.base_messages.specs.declared.message.Reply.TheVariants as reply
use Rattle.daos_model.specs.Accesses.{attempt_targets}
use Rattle.daos_model.specs.Attempts.{is_lost, up_to_last_of}
use Rattle.daos_model.specs.BoolLaws.{and_right}
use Rattle.daos_model.specs.CausesShown.{IsLostAtStop, StopsAfter}
use Rattle.daos_model.specs.Durables.{same_attempt}
use Rattle.daos_model.specs.EntryLaws.{same_attempt-itself}
use Rattle.dtx_base.specs.LeaderLaws.{same-is}
use Rattle.model_laws.specs.Members.{Has}
use Rattle.world_base.specs.declared.client.ClientPlan.{ClientPlan}
use Rattle.world_base.specs.declared.client.ClientState.{ClientState}
use Rattle.world_base.specs.declared.client.Present.{Present}
use Rattle.world_base.specs.declared.letter.Letter.{Letter}
use Rattle.world_base.specs.declared.world.World.{World}
use Rattle.world_base.specs.ClientTurns.{Move, about, answered, asks_again, at_present, attempt_id, command_at, end_line, ends, goes, heard, heard_at, hears_epochs, is_about, knows, listed, op_of, op_told, replied, request_of, reset, snaps_known}
use Rattle.world_base.specs.Events.{Rules, client_plan}
use Rattle.world_base.specs.Steps.{without}
use Rattle.world_contents.specs.world_letters.epochs.Epochs.{IsPast, IsPresent}
use Rattle.world_causes.specs.losses.Clients.{Stepped}
use Rattle.world_causes.specs.losses.Losses.{Losses, StoppedSince, is_asked_of, tells_stop}
use Rattle.world_causes.specs.losses.Moving.{end-is}
use Rattle.world_causes.specs.outcomes.Moving.{AnswerDoes, FailsWith, OnWith, end-own, end-past, op-does, same-past}

-- a message tells that another one got no answer
abbrev pub TellsLoss : Message → Message → Type 0
TellsLoss (message.Reset' t down place (more_of-Message q rest)) m = q ≡ m
TellsLoss n m = ⊥

-- what is lost of a client is a question about its attempt
abbrev pub LossesAreAsked : World → Type 0
LossesAreAsked w = (l : Letter) (q : Message) (x : AttemptId) → Has l w.messages → l.to.client ≡ true → TellsLoss l.message q → request_of q ≡ Some x → is_asked_of x q ≡ true

module _ (r : Rules) (w : World) (k : Losses r w) (n : ℕ) (c : ClientState) (l : Letter) (rest : List Letter) (here : slice_get w.clients n ≡ Some c) (flies : Has l w.messages) (lost-asked : (q : Message) (x : AttemptId) → TellsLoss l.message q → request_of q ≡ Some x → is_asked_of x q ≡ true) where
  abbrev p : ClientPlan
  p = client_plan r n

  -- once it has heard the epochs
  abbrev e : ClientState
  e = hears_epochs l.message c

  abbrev StepsTo : Move → Type 0
  StepsTo m = Stepped r w (without w rest) n c m

  none-some : {T : Type 0} (x : T) → None ≡ Some x → ⊥
  none-some x bad = cc

  -- ---- its attempt goes on

  goes-to : (b : Option Present) → ((a : Present) → c.present ≡ Some a → (z : Present) × (b ≡ Some z) × (z.attempt ≡ a.attempt)) → StepsTo (goes (record e { present = b }))
  goes-to b stays = record {
    past = λ x past. same-past c (record e { present = b }) x refl (λ a at. stays a at) past;
    stays = λ a at. let z = stays a at in inl (record { b = z.0; at = z.1; own = ap (λ j. record { client = n; command = c.command; attempt = j }) z.2; untold = refl });
    own = λ y bad. absurd (none-some _ bad);
    lost = λ y bad. absurd (none-some _ bad);
    tries = λ y bad. absurd (none-some _ bad);
    posts = λ q x i. absurd i;
  }

  module _ (a : Present) (at : c.present ≡ Some a) where
    abbrev own : AttemptId
    own = attempt_id p c a

    only : (b : Present) → c.present ≡ Some b → b ≡ a
    only b is = let both : Some b ≡ Some a = sym is ∙ at in cc

    present : IsPresent r w own
    present = record { c = c; a = a; here = here; at = at; own = refl }

    stopped : tells_stop own l.message ≡ true → StoppedSince r w.lines own
    stopped tells = k.letters l own flies tells present

    on-with : (b : Present) → b.attempt ≡ a.attempt → StepsTo (goes (at_present b e))
    on-with b same = goes-to (Some b) (λ f is. (b, refl, same ∙ ap (λ z. z.attempt) (sym (only f is))))

    -- ---- it ends

    ends-with : (d : ClientState) (b : Present) (how : Outcome) → d.command ≡ c.command → d.present ≡ c.present → b.attempt ≡ a.attempt → (is_lost own how ≡ true → tells_stop own l.message ≡ true) → StepsTo (ends p d b how)
    ends-with d b how command stays same tells = record {
      past = λ x past.
          end-past p d (command_at p d) b how x (λ f is. ap (λ z. z.attempt) (only f (sym stays ∙ is)) ∙ sym same) (same-past c d x command (λ f is. (f, stays ∙ is, refl)) past);
      stays = λ f is. inr (subst (IsPast (ends p d b how).state) (id ∙ ap (attempt_id p c) (sym (only f is))) (end-own p d (command_at p d) b how));
      own = λ y is. ap (λ z. z.id.client) (end-is p d b how y is);
      lost = λ y is gone. lost-so y (end-is p d b how y is) gone;
      tries = λ z is. (_, (let one : end_line p d b how ≡ z = cc in sym one));
      posts = λ q x i. absurd i;
    }
      where
        id : attempt_id p d b ≡ own
        id = ap (λ j. record { client = n; command = j; attempt = b.attempt }) command ∙ ap (λ j. record { client = n; command = c.command; attempt = j }) same

        lost-so : (y : Attempt) → y ≡ record { id = attempt_id p d b; epoch = b.epoch; conds = b.conds; gots = b.gots; outcome = how } → is_lost y.id y.outcome ≡ true → IsLostAtStop r.script w.lines y
        lost-so y is gone =
            let its : y.id ≡ own = ap (λ z. z.id) is ∙ id in
            subst (λ z. StopsAfter (attempt_targets r.script z) (up_to_last_of z.client w.lines) w.lines) (sym its)
            (stopped (tells (ap (λ z. is_lost z how) (sym its) ∙ ap (is_lost y.id) (sym (ap (λ z. z.outcome) is)) ∙ gone)))

    -- ---- it asks what became of it

    asks-on : (t : ℕ) → tells_stop own l.message ≡ true → StepsTo (asks_again p e (record a { waits = false }) t)
    asks-on t tells = record {
      past = λ x past. same-past c (asks_again p e (record a { waits = false }) t).state x refl (λ f is. (record a { waits = true }, refl, ap (λ z. z.attempt) (sym (only f is)))) past;
      stays = λ f is. inl (record { b = record a { waits = true }; at = refl; own = ap (λ z. attempt_id p c z) (sym (only f is)); untold = refl });
      own = λ y bad. absurd (none-some _ bad);
      lost = λ y bad. absurd (none-some _ bad);
      tries = λ y bad. absurd (none-some _ bad);
      posts = λ q x i is. sent q x i is;
    }
      where
        sent : (q : Post) (x : AttemptId) → Has q (listed (asks_again p e (record a { waits = false }) t).post) → tells_stop x q.message ≡ true → IsPresent r w x × StoppedSince r w.lines x
        sent q x (inl same) is =
            let its : own ≡ x = same-is own x (ap (λ z. tells_stop x z.message) (sym same) ∙ is) in
            (subst (IsPresent r w) its present, subst (StoppedSince r w.lines) its (stopped tells))
        sent q x (inr none) is = absurd none

    -- ---- what it waits for has come

    reply-steps : (x : AttemptId) (op group : ℕ) (ep : Option Epoch) (b : Reply) → l.message ≡ message.Fetched x op group ep b → same_attempt own x ≡ true → StepsTo (replied p e (knows ep a) b)
    reply-steps x op group ep (reply.Outcome how) says its = ends-with e (knows ep a) how refl refl refl (λ gone. ap (tells_stop own) says ∙ both gone)
      where
        both : is_lost own how ≡ true → (same_attempt x own && is_lost own how) ≡ true
        both gone = ap (λ z. same_attempt z own && is_lost own how) (sym (same-is own x its)) ∙ ap (λ z. z && is_lost own how) (same_attempt-itself own) ∙ gone
    reply-steps x op group ep (reply.Answer b) says its = by (op-does p e (knows ep a) b (op_of (command_at p e) (knows ep a).op))
      where
        by : AnswerDoes p e (knows ep a) (op_told p e (knows ep a) b (op_of (command_at p e) (knows ep a).op)) → StepsTo (op_told p e (knows ep a) b (op_of (command_at p e) (knows ep a).op))
        by (OnWith f same is) = subst StepsTo (sym is) (on-with f same)
        by (FailsWith f op2 same is) = subst StepsTo (sym is) (ends-with e f (outcome.CondFailed op2) refl refl same (λ bad. let no : ⊥ = cc in absurd no))

    loss-steps : (t : ℕ) (q : Message) → tells_stop own l.message ≡ true → StepsTo (reset p e (record a { waits = false }) t q)
    loss-steps t (message.Commit x ep first tracker ws) tells = asks-on t tells
    loss-steps t (message.Ask x) tells = asks-on t tells
    loss-steps t q tells = ends-with e (record a { waits = false }) (outcome.Restart (cause.Unresolved own)) refl refl refl (λ gone. tells)

    answer-steps : (m : Message) → l.message ≡ m → is_about own (about m) ≡ true → StepsTo (answered p e a m)
    answer-steps (message.Fetched x op group ep b) says its = reply-steps x op group ep b says its
    answer-steps (message.Ended x ep how) says its = ends-with (record e { known = snaps_known (command_at p e) ep how e.known }) (knows ep a) how refl refl refl (λ gone. ap (tells_stop own) says ∙ both gone)
      where
        both : is_lost own how ≡ true → (same_attempt x own && is_lost own how) ≡ true
        both gone = ap (λ z. same_attempt z own && is_lost own how) (sym (same-is own x its)) ∙ ap (λ z. z && is_lost own how) (same_attempt-itself own) ∙ gone
    answer-steps (message.Reset' t true place (more_of-Message q more)) says its = ends-with e (record a { waits = false }) (outcome.Unknown t) refl refl refl (λ bad. let no : ⊥ = cc in absurd no)
    answer-steps (message.Reset' t false place (more_of-Message q more)) says its = loss-steps t q (ap (tells_stop own) says ∙ by (request_of q) refl its)
      where
        by : (o : Option AttemptId) → request_of q ≡ o → is_about own o ≡ true → is_asked_of own q ≡ true
        by None is bad = let no : ⊥ = cc in absurd no
        by (Some x) is same = lost-asked q own (subst (λ z. TellsLoss z q) (sym says) refl) (is ∙ ap (λ z. Some z) (sym (same-is own x same)))
    answer-steps m says its = goes-to c.present (λ f is. (f, is, refl))

  pub heard-steps : StepsTo (heard p c l.message)
  unfolding heard
  heard-steps = by c.present refl
    where
      by : (o : Option Present) → c.present ≡ o → StepsTo (heard_at p e l.message o)
      by None at = goes-to c.present (λ f is. (f, is, refl))
      by (Some a) at = choose (a.waits && is_about (attempt_id p e a) (about l.message)) refl
        where
          choose : (b : Bool) → (a.waits && is_about (attempt_id p e a) (about l.message)) ≡ b → StepsTo (if b then answered p e a l.message else goes e)
          choose false off = goes-to c.present (λ f is. (f, is, refl))
          choose true on = answer-steps a at l.message refl (and_right a.waits (is_about (attempt_id p e a) (about l.message)) on)
