-- What a target hears of a client is what that asked, and what it holds.
use Rattle.std.specs.Prelude.{ℕ, ◌≡◌, ◌++◌, Bool, true, false, List, [], ◌∷◌, slice_get, Option, Some, None, refl}
use Rattle.std.proofs.Common.{sym, ◌∙◌, ap, arith, inl, inr}
use Rattle.base_messages.specs.declared.message.Post.{Post}
use Rattle.world_base.specs.model_laws.Members.{Has}
use Rattle.world_base.specs.model_laws.TargetLaws.{same_number}
use Rattle.world_base.specs.declared.client.ClientState.{ClientState}
use Rattle.world_base.specs.declared.letter.Letter.{Letter}
use Rattle.world_base.specs.declared.target.TargetState.{TargetState}
use Rattle.world_base.specs.declared.world.World.{World}
use Rattle.world_base.specs.ClientTurns.{waits}
use Rattle.world_base.specs.Events.{Rules, client_plan}
use Rattle.world_base.specs.Letters.{Takes, client, is_client, talk_of, target}
use Rattle.world_letters.specs.talks.TalkLaws.{sent-is-talk}
use Rattle.world_letters.specs.waits.CollectionTurns.{CollectsForOwn}
use Rattle.world_letters.specs.waits.Parts.{Holding, HoldsNone, HoldsOne, collection-own}
use Rattle.world_letters.specs.waits.Passing.{IsOfClient, held-beside, none-part, one-part, question-of}
use Rattle.world_letters.specs.waits.Premises.{RequestsAreOfClients}
use Rattle.world_letters.specs.waits.Requests.{IsWhatIsAsked, is_request, request-tells, talk-is_asked}
use Rattle.world_letters.specs.waits.Waits.{Conversation, Held, HoldsIt, IsAsked, IsHeld, IsReplied, TalksSo, asked_of, held_by, held_of}

module _ (r : Rules) (w : World) (k : Conversation r w) (l : Letter) (rest : List Letter) (takes : Takes w.messages l rest) (t : ℕ) (to : l.to ≡ target t) where
  -- a request is what its client asked
  pub request-is : RequestsAreOfClients w → is_request l.message ≡ true → Has l w.messages → IsWhatIsAsked r w l.from.number l × (l.from ≡ client l.from.number)
  request-is c is among =
      let from : l.from ≡ client l.from.number = ap (λ b. record { client = b; number = l.from.number }) ((c.letters l among).request is) in
      (talk-is_asked r w k l rest takes t to l.from.number (sent-is-talk l.from.number l (request-tells l.message is) from), from)

-- what a target holds for a client
pub holding : (r : Rules) (w : World) (n t : ℕ) (s : TargetState) → Conversation r w → slice_get w.targets t ≡ Some s → Holding n t s.memory
holding r w n t s k here = by (slice_get w.clients n) refl
  where
    none : held_of n w ≡ [] → Holding n t s.memory
    none free =
        let b = held-beside n t 0 t w.targets s here (omega arith) in
        HoldsNone (none-part (held_by n t s.memory) b.after (none-part b.before (held_by n t s.memory ++ b.after) (sym b.was ∙ free)).1).0

    one : (q : Post) (x : Held) → IsOfClient n q → HoldsIt q x → held_of n w ≡ x ∷ [] → Holding n t s.memory
    one q x of holds it =
        let b = held-beside n t 0 t w.targets s here (omega arith) in
        elim (one-part b.before (held_by n t s.memory ++ b.after) x (sym b.was ∙ it)) [
          | inr p ↦ HoldsNone (none-part (held_by n t s.memory) b.after p.1).0
          | inl p ↦ elim (one-part (held_by n t s.memory) b.after x p.1) [ inl o ↦ HoldsNone o.0 | inr o ↦ HoldsOne q x of o.0 holds ]
        ]

    waiting : (c : ClientState) (b : Bool) → waits c ≡ b → TalksSo (client_plan r n) n c (talk_of n w.messages) (held_of n w) (asked_of n w) b → Holding n t s.memory
    waiting c false now q = none q.none_held
    waiting c true now (IsAsked q is letters free asked) = none free
    waiting c true now (IsHeld q x is holds letters it asked) = one q x (question-of r n c q now is) holds it
    waiting c true now (IsReplied q l is got letters free asked) = none free

    by : (o : Option ClientState) → slice_get w.clients n ≡ o → Holding n t s.memory
    by None e = none (k.nobody n e).none_held
    by (Some c) e = waiting c (waits c) refl (k.talks n c e)

-- what is collected is collected for the attempts' clients
pub collects-own : (r : Rules) (w : World) (t : ℕ) (s : TargetState) → Conversation r w → RequestsAreOfClients w → slice_get w.targets t ≡ Some s → CollectsForOwn s.memory
collects-own r w t s k from here c i =
    let client-is : c.client ≡ client c.client.number = ap (λ b. record { client = b; number = c.client.number }) ((from.waiters t s here).collecting c i) in
    client-is ∙ ap client (sym (collection-own c.client.number t s.memory (holding r w c.client.number t s k here) c i (ap (λ a. is_client c.client.number a) client-is ∙ same_number c.client.number)))
