-- What waits at a target a client has asked of it; and what asks for a read, or brings writes, is a client's request.
use Rattle.std.specs.Prelude.{ℕ, ◌≡◌, ◌++◌, Bool, true, false, [], ◌∷◌, filter, map, slice_get, Option, Some, None, refl}
use Rattle.std.proofs.Common.{inl, inr, sym, ◌∙◌, ap, subst, arith}
use Rattle.base_types.specs.declared.epoch.Epoch.{Epoch}
use Rattle.base_messages.specs.declared.message.Message.{Message}
use Rattle.base_messages.specs.declared.message.Message.TheVariants as message
use Rattle.base_messages.specs.declared.message.Post.{Post}
use Rattle.world_base.specs.dtx_base.declared.member.Parked.{Parked}
use Rattle.model_laws.specs.Members.{Has, has-filter, has-left, has-map, has-right}
use Rattle.world_base.specs.declared.client.ClientPlan.{ClientPlan}
use Rattle.world_base.specs.declared.client.ClientState.{ClientState}
use Rattle.world_base.specs.declared.client.Present.{Present}
use Rattle.world_base.specs.declared.request.CommitRequest.{CommitRequest}
use Rattle.world_base.specs.declared.request.FetchRequest.{FetchRequest}
use Rattle.world_base.specs.declared.target.TargetState.{TargetState}
use Rattle.world_base.specs.declared.world.World.{World}
use Rattle.world_base.specs.ClientTurns.{waits}
use Rattle.world_base.specs.Events.{Rules, client_plan}
use Rattle.world_base.specs.Letters.{talk_of}
use Rattle.world_base.specs.Requests.{fetch_message}
use Rattle.world_causes.specs.world_letters.talks.AskLaws.{sent-is-asked}
use Rattle.world_causes.specs.world_letters.talks.Asked.{Asked, commit_of}
use Rattle.world_causes.specs.world_letters.talks.Conversation.{is_fetch_of}
use Rattle.world_causes.specs.world_letters.waits.ClientLaws.{present-of}
use Rattle.world_causes.specs.world_letters.waits.Passing.{held-beside}
use Rattle.world_causes.specs.world_letters.waits.Waits.{Conversation, Held, HoldsIt, IsAsked, IsHeld, IsQuestion, IsReplied, ItsAsk, ItsRequest, ParkedAt, TalksSo, asked_of, collected_at, held_by, held_of, is_collected_of, is_open_of, is_parked_of, open_at, parked_at}

-- ---- what waits

-- a Fetch that waits at a target is what a client has asked of it, at an epoch
pub record IsParkedBy (r : Rules) (w : World) (t : ℕ) (ask : Message) : Type 0 where
  pub n : ℕ
  pub c : ClientState
  pub here : slice_get w.clients n ≡ Some c
  pub a : Present
  pub at : c.present ≡ Some a
  pub q : Post
  pub question : IsQuestion (client_plan r n) c q
  pub holds : HoldsIt q (ParkedAt t ask)

module _ (r : Rules) (w : World) (t : ℕ) (s : TargetState) (p : Parked) (n : ℕ) (k : Conversation r w) (here : slice_get w.targets t ≡ Some s) (i : Has p s.memory.member.parked) (own : is_fetch_of n p.ask ≡ true) where
  parked-among : Has (ParkedAt t p.ask) (held_of n w)
  parked-among =
      let b = held-beside n t 0 t w.targets s here (omega arith) in
      subst (Has (ParkedAt t p.ask)) (sym b.was)
      (has-right b.before (held_by n t s.memory ++ b.after) (ParkedAt t p.ask)
      (has-left (held_by n t s.memory) b.after (ParkedAt t p.ask)
      (has-left (map (parked_at t) (filter (is_parked_of n) s.memory.member.parked)) (map (open_at t) (filter (is_open_of n) s.memory.leader.undecided) ++ map (collected_at t) (filter (is_collected_of n) s.memory.collecting)) (ParkedAt t p.ask)
      (has-map (parked_at t) (filter (is_parked_of n) s.memory.member.parked) p (has-filter (is_parked_of n) s.memory.member.parked p i own)))))

  pub parked-by : IsParkedBy r w t p.ask
  parked-by = by (slice_get w.clients n) refl
    where
      only : (c : ClientState) → slice_get w.clients n ≡ Some c → waits c ≡ true → (q : Post) (x : Held) → IsQuestion (client_plan r n) c q → HoldsIt q x → held_of n w ≡ x ∷ [] → IsParkedBy r w t p.ask
      only c at now q x question holds one =
          let z = present-of c now in
          record { n = n; c = c; here = at; a = z.a; at = z.at; q = q; question = question; holds = first (subst (Has (ParkedAt t p.ask)) one parked-among) }
        where
          first : Has (ParkedAt t p.ask) (x ∷ []) → HoldsIt q (ParkedAt t p.ask)
          first (inl same) = subst (HoldsIt q) (sym same) holds
          first (inr none) = absurd none

      waiting : (c : ClientState) → slice_get w.clients n ≡ Some c → (b : Bool) → waits c ≡ b → TalksSo (client_plan r n) n c (talk_of n w.messages) (held_of n w) (asked_of n w) b → IsParkedBy r w t p.ask
      waiting c at false now q = absurd (subst (Has (ParkedAt t p.ask)) q.none_held parked-among)
      waiting c at true now (IsAsked q question one none free) = absurd (subst (Has (ParkedAt t p.ask)) none parked-among)
      waiting c at true now (IsHeld q x question holds none one free) = only c at now q x question holds one
      waiting c at true now (IsReplied q m question got one none free) = absurd (subst (Has (ParkedAt t p.ask)) none parked-among)

      by : (z : Option ClientState) → slice_get w.clients n ≡ z → IsParkedBy r w t p.ask
      by None e = absurd (subst (Has (ParkedAt t p.ask)) (k.nobody n e).none_held parked-among)
      by (Some c) e = waiting c e (waits c) refl (k.talks n c e)

-- ---- what is asked

-- what asks for a read, or brings writes, is a client's request
pub read-asked : (p : ClientPlan) (c : ClientState) (a : Present) (q : Post) (f : FetchRequest) → c.present ≡ Some a → IsQuestion p c q → q.message ≡ fetch_message f → (k : Epoch) × Asked p k c a q
read-asked p c a q f at (ItsRequest k low sent) says = (k, sent-is-asked p k c a q at sent)
read-asked p c a q f at (ItsAsk k s g low sent commit is) says = let bad : message.Ask g.attempt ≡ fetch_message f = sym (ap (λ z. z.message) is) ∙ says in let no : ⊥ = cc in absurd no

pub writes-asked : (p : ClientPlan) (c : ClientState) (a : Present) (q : Post) (f : CommitRequest) → c.present ≡ Some a → IsQuestion p c q → q.message ≡ commit_of f → (k : Epoch) × Asked p k c a q
writes-asked p c a q f at (ItsRequest k low sent) says = (k, sent-is-asked p k c a q at sent)
writes-asked p c a q f at (ItsAsk k s g low sent commit is) says = let bad : message.Ask g.attempt ≡ commit_of f = sym (ap (λ z. z.message) is) ∙ says in let no : ⊥ = cc in absurd no
