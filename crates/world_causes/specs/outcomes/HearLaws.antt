-- A client that hears a message keeps the facts of outcomes.
use Rattle.std.specs.Prelude.{ℕ, ◌≡◌, ◌≢◌, ◌⊎◌, Bool, true, false, ◌&&◌, List, slice_get, Option, Some, None, refl, if◌then◌else◌}
use Rattle.std.proofs.Common.{sym, ◌∙◌, ap, subst, inl, inr}
use Rattle.base_types.specs.declared.outcome.Cause.TheVariants.{Unresolved}
use Rattle.base_types.specs.declared.epoch.Epoch.{Epoch}
use Rattle.base_types.specs.declared.id.AttemptId.{AttemptId}
use Rattle.base_types.specs.declared.outcome.Outcome.{Outcome}
use Rattle.base_types.specs.declared.outcome.Outcome.TheVariants as outcome
use Rattle.base_types.specs.declared.report.Attempt.{Attempt}
use Rattle.model_laws.specs.Members.{Has}
use Rattle.base_messages.specs.declared.message.Message.{Message, more_of-Message}
use Rattle.base_messages.specs.declared.message.Message.TheVariants as message
use Rattle.base_messages.specs.declared.message.Reply.{Reply}
use Rattle.base_messages.specs.declared.message.Reply.TheVariants as reply
use Rattle.daos_model.specs.BoolLaws.{and_left, and_right}
use Rattle.dtx_base.specs.LeaderLaws.{same-is}
use Rattle.world_contents.specs.world_commit.attempts.Attempts.{IsBorn, entry_at, leader_of}
use Rattle.world_contents.specs.world_commit.attempts.Counting.{has-left_over, has-taken}
use Rattle.world_contents.specs.world_commit.attempts.History.{Decided, History}
use Rattle.world_base.specs.declared.client.ClientPlan.{ClientPlan}
use Rattle.world_base.specs.declared.client.ClientState.{ClientState}
use Rattle.world_base.specs.declared.client.Present.{Present}
use Rattle.world_base.specs.declared.letter.Letter.{Letter}
use Rattle.world_base.specs.declared.world.World.{World}
use Rattle.world_base.specs.ClientTurns.{Move, about, answered, asks_again, at_present, attempt_id, command_at, ended, ends, goes, heard, heard_at, hears_epochs, is_about, knows, knows_epoch, listed, op_of, op_told, replied, reset, reset_by, snaps_known}
use Rattle.world_base.specs.Events.{Rules, client_plan, or_issued}
use Rattle.world_base.specs.Letters.{Takes}
use Rattle.world_base.specs.Steps.{after_move, without}
use Rattle.world_contents.specs.world_letters.clients.Answered.{ops_here}
use Rattle.world_contents.specs.world_letters.epochs.Epochs.{IsPast}
use Rattle.world_contents.specs.world_letters.lines.Lines.{filled}
use Rattle.world_causes.specs.outcomes.TurnLaws.{ends-one, none-told}
use Rattle.world_causes.specs.outcomes.ClientLaws.{Does, client-keeps, no-entry, present-not-past, unborn}
use Rattle.world_causes.specs.outcomes.Moving.{AnswerDoes, FailsWith, OnWith, end-own, end-past, op-does, same-past}
use Rattle.world_causes.specs.outcomes.Outcomes.{IsBehind, IsEndTrue, Outcomes, WaitsForEnd, commits, is_failed, Agrees, HasWrites}
use Rattle.world_causes.specs.outcomes.Premises.{HearsFitly, IsBefore, IsFit, IsLossFit, IsReplyFit, IsResetFit}

module _ (r : Rules) (h : History) (w : World) (n : ℕ) (c : ClientState) (l : Letter) (here : slice_get w.clients n ≡ Some c) (flies : Has l w.messages) (agrees : Agrees r h w) (k : Outcomes r h w) where
  abbrev p : ClientPlan
  p = client_plan r n

  -- once it has heard the epochs
  abbrev e : ClientState
  e = hears_epochs l.message c

  abbrev DoesSo : Move → Type 0
  DoesSo m = Does r h w n c (listed m.post) (listed m.line) m.state

  -- a client that waits for an end waits with its present attempt
  is-present : (a : Present) (x : AttemptId) → c.present ≡ Some a → (z : WaitsForEnd p c x) → (z.a ≡ a) × (attempt_id p c a ≡ x)
  is-present a x at z =
      let one : z.a ≡ a = let e2 : Some z.a ≡ Some a = sym z.present ∙ at in cc in
      (one, ap (attempt_id p c) (sym one) ∙ z.own)

  -- ---- it learns epochs alone

  passes : DoesSo (goes e)
  passes = record {
    none = λ q x own how i. absurd i;
    new = λ q x i is born. absurd i;
    lines = λ b i some. absurd (none-told (goes e) b refl i);
    how = λ x same born z. elim z [
      | inl past ↦ inl (same-past c e x refl (λ a at. (a, at, refl)) past)
      | inr z2 ↦ inr (record { a = z2.a; present = z2.present; own = z2.own; waits = z2.waits; behind = z2.behind })
    ];
  }

  -- ---- its attempt goes on, which it didn't hand over yet

  goes-on : (a b : Present) → c.present ≡ Some a → IsBefore p c a → b.attempt ≡ a.attempt → DoesSo (goes (at_present b e))
  goes-on a b at before same = record {
    none = λ q x own how i. absurd i;
    new = λ q x i is born. absurd i;
    lines = λ z i some. absurd (none-told (goes (at_present b e)) z refl i);
    how = λ x own born z. elim z [
      | inl past ↦ inl (same-past c (at_present b e) x refl (λ f is. (b, refl, same ∙ (let e2 : Some a ≡ Some f = sym at ∙ is in let one : a ≡ f = cc in ap (λ y. y.attempt) one))) past)
      | inr z2 ↦ absurd (before (subst (IsBehind (ops_here p c)) (is-present a x at z2).0 z2.behind))
    ];
  }

  -- ---- it asks what became of it

  asks-on : (a : Present) (target : ℕ) → c.present ≡ Some a → IsBehind (ops_here p c) a → DoesSo (asks_again p e (record a { waits = false }) target)
  asks-on a target at behind = record {
    none = λ q x own how i says. elim i [ inl same ↦ (let bad : message.Ask (attempt_id p e a) ≡ message.Ended x own how = sym (ap (λ y. y.message) same) ∙ says in let no : ⊥ = cc in no) | inr none ↦ absurd none ];
    new = λ q x i is born. elim i [ inl same ↦ (let bad : false ≡ true = sym (ap (λ y. commits x y.message) same) ∙ is in let no : ⊥ = cc in no) | inr none ↦ absurd none ];
    lines = λ z i some. absurd (none-told (asks_again p e (record a { waits = false }) target) z refl i);
    how = λ x own born z. elim z [
      | inl past ↦ inl (same-past c (asks_again p e (record a { waits = false }) target).state x refl (λ f is. (record a { waits = true }, refl, (let e2 : Some a ≡ Some f = sym at ∙ is in let one : a ≡ f = cc in ap (λ y. y.attempt) one))) past)
      | inr z2 ↦ inr (record { a = record a { waits = true }; present = refl; own = (is-present a x at z2).1; waits = refl; behind = record { last = behind.last; writes = behind.writes } })
    ];
  }

  -- ---- its attempt ends

  -- at a state that differs in the epochs and snapshots that are known
  ends-so : (a b : Present) (d : ClientState) (how : Outcome) → c.present ≡ Some a → b.attempt ≡ a.attempt → d.command ≡ c.command → d.present ≡ c.present
      → ((z : Attempt) → z ≡ record { id = attempt_id p c a; epoch = b.epoch; conds = b.conds; gots = b.gots; outcome = how } → HasWrites r z.id → IsEndTrue r h w z.id (filled w.issued z).epoch z.outcome) → DoesSo (ends p d b how)
  ends-so a b d how at same command stays true' = record {
    none = λ q x own how2 i. absurd i;
    new = λ q x i is born. absurd i;
    lines = λ z i some. true' z (ends-one p d b how (ends p d b how) z refl i ∙ ap (λ y. record { id = y; epoch = b.epoch; conds = b.conds; gots = b.gots; outcome = how }) id) some;
    how = λ x own born z. inl (past-then x z);
  }
    where
      id : attempt_id p d b ≡ attempt_id p c a
      id = rw (command, same) refl

      past-then : (x : AttemptId) → IsPast c x ⊎ WaitsForEnd p c x → IsPast (ends p d b how).state x
      past-then x (inl past) =
          end-past p d (command_at p d) b how x (λ f is. (let e2 : Some f ≡ Some a = sym is ∙ stays ∙ at in let one : f ≡ a = cc in ap (λ y. y.attempt) one) ∙ sym same)
          (same-past c d x command (λ f is. (f, stays ∙ is, refl)) past)
      past-then x (inr z) = subst (IsPast (ends p d b how).state) (id ∙ (is-present a x at z).1) (end-own p d (command_at p d) b how)

  -- before it was handed over
  ends-before : (a b : Present) (how : Outcome) → c.present ≡ Some a → IsBefore p c a → b.attempt ≡ a.attempt → how ≢ outcome.Committed → DoesSo (ends p e b how)
  ends-before a b how at before same off = ends-so a b e how at same refl refl (λ z is some. record {
    committed = λ committed. absurd (off (sym (ap (λ y. y.outcome) is) ∙ committed));
    failed = λ failed. ap (λ y. entry_at w (leader_of r y) y) (ap (λ y. y.id) is) ∙ no-entry r h w (attempt_id p c a) nothing;
  })
    where
      nothing : IsBorn r h w (attempt_id p c a) → ⊥
      nothing = unborn r h w n c (attempt_id p c a) k here refl (present-not-past p c a at) (λ z. before (subst (IsBehind (ops_here p c)) (is-present a (attempt_id p c a) at z).0 z.behind))

  -- where it is unknown what became of it
  ends-unknown : (a : Present) (b : Present) (how : Outcome) → c.present ≡ Some a → b.attempt ≡ a.attempt → how ≢ outcome.Committed → is_failed how ≡ false → DoesSo (ends p e b how)
  ends-unknown a b how at same off unknown = ends-so a b e how at same refl refl (λ z is some. record {
    committed = λ committed. absurd (off (sym (ap (λ y. y.outcome) is) ∙ committed));
    failed = λ failed. let bad : false ≡ true = sym unknown ∙ ap is_failed (sym (ap (λ y. y.outcome) is)) ∙ failed in let no : ⊥ = cc in absurd no;
  })

  -- as it is told
  ends-told : (a : Present) (own : Option Epoch) (how : Outcome) → c.present ≡ Some a → l.message ≡ message.Ended (attempt_id p c a) own how → DoesSo (ended p e (knows own a) own how)
  ends-told a own how at says = ends-so a (knows own a) (record e { known = snaps_known (command_at p e) own how e.known }) how at refl refl refl (λ z is some. line z is some)
    where
      line : (z : Attempt) → z ≡ record { id = attempt_id p c a; epoch = knows_epoch a.epoch own; conds = a.conds; gots = a.gots; outcome = how } → HasWrites r z.id → IsEndTrue r h w z.id (filled w.issued z).epoch z.outcome
      line z is some = subst (λ y. IsEndTrue r h w y.id (filled w.issued y).epoch y.outcome) (sym is) (record {
        committed = λ committed. let d = told.committed committed in (d.0, epoch d.0 d.1 d.2, d.2);
        failed = told.failed;
      })
        where
          told : IsEndTrue r h w (attempt_id p c a) own how
          told = k.told l (attempt_id p c a) own how flies says (subst (HasWrites r) (ap (λ y. y.id) is) some)

          epoch : (f : Epoch) → own ≡ Some f → Decided h (attempt_id p c a) f → or_issued w.issued (attempt_id p c a) (knows_epoch a.epoch own) ≡ Some f
          epoch f it decided = by a.epoch refl
            where
              by : (o : Option Epoch) → a.epoch ≡ o → or_issued w.issued (attempt_id p c a) (knows_epoch a.epoch own) ≡ Some f
              by None q = ap (λ o. or_issued w.issued (attempt_id p c a) (knows_epoch o own)) q ∙ ap (λ o. or_issued w.issued (attempt_id p c a) (knows_epoch None o)) it
              by (Some g) q = ap (λ o. or_issued w.issued (attempt_id p c a) (knows_epoch o own)) q ∙ ap (λ y. Some y) (agrees n c a g f here at q decided)

  -- ---- all of it

  reply-does : (a : Present) (own : Option Epoch) (b : Reply) → c.present ≡ Some a → IsBefore p c a → IsReplyFit b → DoesSo (replied p e (knows own a) b)
  reply-does a own (reply.Outcome how) at before fit = ends-before a (knows own a) how at before refl fit
  reply-does a own (reply.Answer b) at before fit = by (op-does p e (knows own a) b (op_of (command_at p e) (knows own a).op))
    where
      by : AnswerDoes p e (knows own a) (op_told p e (knows own a) b (op_of (command_at p e) (knows own a).op)) → DoesSo (op_told p e (knows own a) b (op_of (command_at p e) (knows own a).op))
      by (OnWith f same is) = subst DoesSo (sym is) (goes-on a f at before same)
      by (FailsWith f op same is) = subst DoesSo (sym is) (ends-before a f (outcome.CondFailed op) at before same (λ q. let no : ⊥ = cc in no))

  loss-does : (a : Present) (target : ℕ) (m : Message) → c.present ≡ Some a → IsLossFit p c a m → DoesSo (reset p e (record a { waits = false }) target m)
  loss-does a target (message.Commit x ep first tracker ws) at fit = asks-on a target at fit
  loss-does a target (message.Ask x) at fit = asks-on a target at fit
  loss-does a target m at fit = ends-before a (record a { waits = false }) (outcome.Restart (Unresolved (attempt_id p c a))) at fit refl (λ q. let no : ⊥ = cc in no)

  reset-does : (a : Present) (target : ℕ) (down : Bool) (m : Message) → c.present ≡ Some a → IsResetFit down p c a m → DoesSo (reset_by p e (record a { waits = false }) target down m)
  reset-does a target false m at fit = loss-does a target m at fit
  reset-does a target true m at fit = ends-unknown a (record a { waits = false }) (outcome.Unknown target) at refl (λ q. let no : ⊥ = cc in no) refl

  about-does : (a : Present) (m : Message) → l.message ≡ m → c.present ≡ Some a → is_about (attempt_id p c a) (about m) ≡ true → IsFit p c a m → DoesSo (answered p e a m)
  about-does a (message.Fetched x op group own b) is at own' fit = reply-does a own b at fit.0 fit.1
  about-does a (message.Ended x own how) is at own' fit = ends-told a own how at (is ∙ ap (λ y. message.Ended y own how) (sym (same-is (attempt_id p c a) x own')))
  about-does a (message.Reset' target down place (more_of-Message m rest)) is at own' fit = reset-does a target down m at fit
  about-does a m is at own' fit = let no : ⊥ = cc in absurd no

  pub heard-does : HearsFitly p c l.message → DoesSo (heard p c l.message)
  unfolding heard
  heard-does fit = by c.present refl
    where
      by : (o : Option Present) → c.present ≡ o → DoesSo (heard_at p e l.message o)
      by None at = passes
      by (Some a) at = waits-so (a.waits && is_about (attempt_id p c a) (about l.message)) refl
        where
          waits-so : (b : Bool) → (a.waits && is_about (attempt_id p c a) (about l.message)) ≡ b → DoesSo (if b then answered p e a l.message else goes e)
          waits-so true is =
              let waits = and_left a.waits (is_about (attempt_id p c a) (about l.message)) is in
              let own = and_right a.waits (is_about (attempt_id p c a) (about l.message)) is in
              about-does a l.message refl at own (fit a at waits own)
          waits-so false is = passes

-- a client hears what goes with what it asked
pub hearing-keeps : (r : Rules) (h : History) (w : World) (n : ℕ) (c : ClientState) (l : Letter) (rest : List Letter) → Agrees r h w → Outcomes r h w → slice_get w.clients n ≡ Some c → Takes w.messages l rest → HearsFitly (client_plan r n) c l.message
    → Outcomes r h (after_move (without w rest) n (heard (client_plan r n) c l.message))
hearing-keeps r h w n c l rest agrees k here takes fit =
    client-keeps r h w n c (heard (client_plan r n) c l.message).state rest (listed (heard (client_plan r n) c l.message).post) (listed (heard (client_plan r n) c l.message).line) here
    (λ m i. has-left_over w.messages l rest m takes i) (heard-does r h w n c l here (has-taken w.messages l rest takes) agrees k fit) k
