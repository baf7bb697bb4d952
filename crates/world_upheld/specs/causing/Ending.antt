-- An attempt that is present stays so, or its client tells of it, whatever it does next; so what a client is past of what it was at has its line.
use Rattle.std.specs.Prelude.{ℕ, ◌≡◌, ◌⊎◌, ◌++◌, ◌&&◌, Bool, true, false, [], ◌∷◌, List, map, slice_get, Option, Some, refl, if◌then◌else◌}
use Rattle.std.proofs.Common.{append-nil, sym, ◌∙◌, ap, subst, inl, inr}
use Rattle.base_types.specs.declared.epoch.Epoch.{Epoch}
use Rattle.base_types.specs.declared.id.AttemptId.{AttemptId}
use Rattle.base_types.specs.declared.report.Attempt.{Attempt}
use Rattle.base_types.specs.declared.report.Line.{Line}
use Rattle.base_types.specs.declared.report.Line.TheVariants as line
use Rattle.base_types.specs.declared.script.Command.TheVariants as command
use Rattle.base_messages.specs.declared.message.Message.{Message, more_of-Message}
use Rattle.base_messages.specs.declared.message.Message.TheVariants as message
use Rattle.base_messages.specs.declared.message.Reply.{Reply}
use Rattle.base_messages.specs.declared.message.Reply.TheVariants as reply
use Rattle.daos_model.specs.Attempts.{tries}
use Rattle.daos_model.specs.Laws.{tries-append}
use Rattle.model_laws.specs.Members.{Has, contains-from_has, has-right}
use Rattle.world_legal.specs.world_commit.attempts.Turning.{one-or_another}
use Rattle.world_base.specs.declared.client.ClientPlan.{ClientPlan}
use Rattle.world_base.specs.declared.client.ClientState.{ClientState}
use Rattle.world_base.specs.declared.client.Present.{Present}
use Rattle.world_base.specs.declared.letter.Letter.{Letter}
use Rattle.world_base.specs.declared.world.World.{World}
use Rattle.world_base.specs.ClientTurns.{Move, about, answered, attempt_id, command_at, goes, heard, heard_at, hears_epochs, is_about, knows, listed, moved, op_of, op_told, replied, reset, rests, waits}
use Rattle.world_base.specs.Events.{Rules, client_plan, with_client, with_epoch}
use Rattle.world_base.specs.StepLaws.{set-here, set-there}
use Rattle.world_base.specs.Steps.{KeptByCounting, KeptByMoves, after_client, after_move, without}
use Rattle.world_letters.specs.epochs.Epochs.{IsPresent}
use Rattle.world_letters.specs.lines.Lines.{filled}
use Rattle.world_legal.specs.world_causes.losses.Moving.{StaysAt, stays-or}
use Rattle.world_legal.specs.world_causes.outcomes.Moving.{AnswerDoes, FailsWith, OnWith, op-does}
use Rattle.world_upheld.specs.causing.Dates.{HasItsLine, line-on}

-- ---- one move

-- a line tells of an attempt
abbrev pub TellsOf : AttemptId → Option Line → Type 0
TellsOf x o = (b : Attempt) × (o ≡ Some (line.Try b)) × (b.id ≡ x)

-- a client stays at its attempt, or tells of it
abbrev pub StaysOrTells : ClientPlan → ClientState → Present → Move → Type 0
StaysOrTells p c a m = StaysAt p c a m ⊎ TellsOf (attempt_id p c a) m.line

pub moved-tells_of : (p : ClientPlan) (c : ClientState) (a : Present) → c.present ≡ Some a → StaysOrTells p c a (moved p c)
moved-tells_of p c a = stays-or p c a (λ m. TellsOf (attempt_id p c a) m.line) (_, refl, refl)

-- ---- hearing

module _ (p : ClientPlan) (c : ClientState) (m : Message) where
  -- once it has heard the epochs
  abbrev e : ClientState
  e = hears_epochs m c

  goes-on : (a : Present) → c.present ≡ Some a → StaysOrTells p c a (goes e)
  goes-on a at = inl (record { b = a; at = at; own = refl; untold = refl })

  reply-tells : (a : Present) (ep : Option Epoch) (b : Reply) → StaysOrTells p c a (replied p e (knows ep a) b)
  reply-tells a ep (reply.Outcome how) = inr (_, refl, refl)
  reply-tells a ep (reply.Answer b) = by (op-does p e (knows ep a) b (op_of (command_at p e) (knows ep a).op))
    where
      by : AnswerDoes p e (knows ep a) (op_told p e (knows ep a) b (op_of (command_at p e) (knows ep a).op)) → StaysOrTells p c a (op_told p e (knows ep a) b (op_of (command_at p e) (knows ep a).op))
      by (OnWith f same is) =
          subst (StaysOrTells p c a) (sym is) (inl (record { b = f; at = refl; own = ap (λ n. record { client = p.number; command = c.command; attempt = n }) same; untold = refl }))
      by (FailsWith f op same is) = subst (StaysOrTells p c a) (sym is) (inr (_, refl, ap (λ n. record { client = p.number; command = c.command; attempt = n }) same))

  reset-tells : (a : Present) (t : ℕ) (q : Message) → StaysOrTells p c a (reset p e (record a { waits = false }) t q)
  reset-tells a t (message.Commit x ep first tracker ws) = inl (record { b = record a { waits = true }; at = refl; own = refl; untold = refl })
  reset-tells a t (message.Ask x) = inl (record { b = record a { waits = true }; at = refl; own = refl; untold = refl })
  reset-tells a t q = inr (_, refl, refl)

  answer-tells : (a : Present) → c.present ≡ Some a → (n : Message) → StaysOrTells p c a (answered p e a n)
  answer-tells a at (message.Fetched x op group ep b) = reply-tells a ep b
  answer-tells a at (message.Ended x ep how) = inr (_, refl, refl)
  answer-tells a at (message.Reset' t true place (more_of-Message q more)) = inr (_, refl, refl)
  answer-tells a at (message.Reset' t false place (more_of-Message q more)) = reset-tells a t q
  answer-tells a at n = goes-on a at

  pub heard-tells_of : (a : Present) → c.present ≡ Some a → StaysOrTells p c a (heard p c m)
  unfolding heard
  heard-tells_of a at = subst (λ o. StaysOrTells p c a (heard_at p e m o)) (sym at) (by (a.waits && is_about (attempt_id p e a) (about m)))
    where
      by : (b : Bool) → StaysOrTells p c a (if b then answered p e a m else goes e)
      by true = answer-tells a at m
      by false = goes-on a at

-- ---- in the world

-- what was present in one world is so in another, or has its line there
abbrev pub AreToldOf : Rules → World → World → Type 0
AreToldOf r w u = (x : AttemptId) → IsPresent r w x → IsPresent r u x ⊎ HasItsLine u x

module _ (r : Rules) (u : World) (n : ℕ) (c : ClientState) (m : Move) (here : slice_get u.clients n ≡ Some c) (stays : (a : Present) → c.present ≡ Some a → StaysOrTells (client_plan r n) c a m) where
  abbrev v : World
  v = after_move u n m

  told : (b : Attempt) → m.line ≡ Some (line.Try b) → (x : AttemptId) → b.id ≡ x → HasItsLine v x
  unfolding tries
  told b is x own = (z, contains-from_has (tries v.lines) z among, own)
    where
      z : Attempt
      z = filled u.issued b

      among : Has z (tries v.lines)
      among =
          subst (λ o. Has z (tries (u.lines ++ map (with_epoch u.issued) (listed o)))) (sym is)
          (subst (Has z) (sym (tries-append u.lines (line.Try z ∷ []))) (has-right (tries u.lines) (z ∷ []) z (inl refl)))

  pub told-then : AreToldOf r u v
  told-then x at = elim (one-or_another x.client n) [
    | inl is ↦
        let one : at.c ≡ c = let e : Some at.c ≡ Some c = sym at.here ∙ subst (λ j. slice_get u.clients j ≡ Some c) (sym is) here in cc in
        let own : attempt_id (client_plan r n) c at.a ≡ x = subst (λ z. attempt_id (client_plan r n) z at.a ≡ x) one (subst (λ j. attempt_id (client_plan r j) at.c at.a ≡ x) is at.own) in
        by is own (stays at.a (subst (λ z. z.present ≡ Some at.a) one at.at))
    | inr off ↦ inl (record { c = at.c; a = at.a; here = set-there u.clients n x.client m.state off ∙ at.here; at = at.at; own = at.own })
  ]
    where
      by : x.client ≡ n → attempt_id (client_plan r n) c at.a ≡ x → StaysOrTells (client_plan r n) c at.a m → IsPresent r v x ⊎ HasItsLine v x
      by is own (inl z) = inl (record {
        c = m.state;
        a = z.b;
        here = subst (λ j. slice_get v.clients j ≡ Some m.state) (sym is) (set-here u.clients n c m.state here);
        at = z.at;
        own = subst (λ j. attempt_id (client_plan r j) m.state z.b ≡ x) (sym is) (z.own ∙ own);
      })
      by is own (inr z) = inr (told z.0 z.1 x (z.2 ∙ own))

  pub told-on : (w : World) → AreToldOf r w u → AreToldOf r w v
  told-on w k x at = elim (k x at) [ inl now ↦ told-then x now | inr has ↦ inr (line-on u v x (map (with_epoch u.issued) (listed m.line)) refl has) ]

-- each move of a client keeps it, and a turn that is skipped
pub told-by-moves : (r : Rules) (w : World) → KeptByMoves r (AreToldOf r w)
told-by-moves r w u n c here k = told-on r u n c (moved (client_plan r n) c) here (λ a at. moved-tells_of (client_plan r n) c a at) w k

pub told-by-counting : (r : Rules) (w : World) → KeptByCounting (AreToldOf r w)
told-by-counting r w u n j c here k = subst (AreToldOf r w) same (told-on r u n c (rests d) here (λ a at. inl (record { b = a; at = at; own = refl; untold = refl })) w k)
  where
    d : ClientState
    d = record c { skip = j }

    same : after_client u n [] [] d ≡ with_client n d u
    same = rw (append-nil u.messages, append-nil u.lines) refl

-- and so does its hearing
pub told-by-hearing : (r : Rules) (w : World) (n : ℕ) (c : ClientState) (l : Letter) (rest : List Letter) → slice_get w.clients n ≡ Some c → AreToldOf r w (after_move (without w rest) n (heard (client_plan r n) c l.message))
told-by-hearing r w n c l rest here = told-on r (without w rest) n c (heard (client_plan r n) c l.message) here (λ a at. heard-tells_of (client_plan r n) c l.message a at) w (λ x at. inl (record { c = at.c; a = at.a; here = at.here; at = at.at; own = at.own }))
