-- Who waits at a leader for an attempt's end is at that attempt.
use Rattle.std.specs.Prelude.{ℕ, ◌≡◌, Bool, true, false, [], ◌∷◌, filter, map, slice_get, Option, Some, None, refl}
use Rattle.std.proofs.Common.{inl, inr, sym, ◌∙◌, ap, subst, arith}
use Rattle.base_messages.specs.declared.message.Post.{Post}
use Rattle.dtx_base.specs.declared.leading.Undecided.{Undecided}
use Rattle.model_laws.specs.Members.{Has, has-filter, has-left, has-map, has-right}
use Rattle.model_laws.specs.TargetLaws.{same_number}
use Rattle.world_base.specs.declared.client.ClientState.{ClientState}
use Rattle.world_base.specs.declared.target.TargetState.{TargetState}
use Rattle.world_base.specs.declared.world.World.{World}
use Rattle.world_base.specs.ClientTurns.{attempt_id, request_of, waits}
use Rattle.world_base.specs.Events.{Rules, client_plan}
use Rattle.world_base.specs.Letters.{client, talk_of}
use Rattle.world_standing.specs.world_letters.epochs.Epochs.{IsPresent}
use Rattle.world_standing.specs.world_letters.waits.ClientLaws.{present-of, question-about}
use Rattle.world_standing.specs.world_letters.waits.Passing.{held-beside}
use Rattle.world_standing.specs.world_letters.waits.Waits as holds
use Rattle.world_standing.specs.world_letters.waits.Waits.{Conversation, Held, HoldsIt, IsAsked, IsHeld, IsQuestion, IsReplied, OpenAt, TalksSo, asked_of, held_by, held_of, is_open_of, open_at, parked_at, is_parked_of}

module _ (r : Rules) (w : World) (k : Conversation r w) (t : ℕ) (s : TargetState) (here : slice_get w.targets t ≡ Some s) (u : Undecided) (i : Has u s.memory.leader.undecided) (n : ℕ) (waited : u.client ≡ Some (client n)) where
  opens : is_open_of n u ≡ true
  opens = ap (holds.is_waited_by n) waited ∙ same_number n

  among : Has (OpenAt t u.attempt) (held_of n w)
  among =
      let b = held-beside n t 0 t w.targets s here (omega arith) in
      subst (Has (OpenAt t u.attempt)) (sym b.was)
      (has-right b.before _ (OpenAt t u.attempt)
      (has-left (held_by n t s.memory) b.after (OpenAt t u.attempt)
      (has-right (map (parked_at t) (filter (is_parked_of n) s.memory.member.parked)) _ (OpenAt t u.attempt)
      (has-left (map (open_at t) (filter (is_open_of n) s.memory.leader.undecided)) _ (OpenAt t u.attempt)
      (has-map (open_at t) (filter (is_open_of n) s.memory.leader.undecided) u (has-filter (is_open_of n) s.memory.leader.undecided u i opens))))))

  asks-it : (q : Post) (y : Held) → HoldsIt q y → OpenAt t u.attempt ≡ y → request_of q.message ≡ Some u.attempt
  asks-it q y (holds.ItsWrites t2 f to asked) same = let one : u.attempt ≡ f.attempt = cc in ap request_of asked ∙ ap (λ x. Some x) (sym one)
  asks-it q y (holds.AnAsk t2 z to asked) same = let one : u.attempt ≡ z = cc in ap request_of asked ∙ ap (λ x. Some x) (sym one)
  asks-it q y (holds.ARead t2 ask f e to asked own it) same = let no : ⊥ = cc in absurd no
  asks-it q y (holds.ASnapshot t2 c name k2 to asked named) same = let no : ⊥ = cc in absurd no
  asks-it q y (holds.AnAggregation t2 c k2 to asked named) same = let no : ⊥ = cc in absurd no

  only : (y : Held) → Has (OpenAt t u.attempt) (y ∷ []) → OpenAt t u.attempt ≡ y
  only y (inl same) = same
  only y (inr none) = absurd none

  present : (c : ClientState) → slice_get w.clients n ≡ Some c → waits c ≡ true → (q : Post) → IsQuestion (client_plan r n) c q → request_of q.message ≡ Some u.attempt → IsPresent r w u.attempt
  present c at now q question of =
      let p = present-of c now in
      let about = question-about (client_plan r n) c p.a q p.at question in
      let same : Some (attempt_id (client_plan r n) c p.a) ≡ Some u.attempt = sym about.of_attempt ∙ of in
      let one : attempt_id (client_plan r n) c p.a ≡ u.attempt = cc in
      subst (IsPresent r w) one (record { c = c; a = p.a; here = at; at = p.at; own = refl })

  pub waiter-present : IsPresent r w u.attempt
  waiter-present = by (slice_get w.clients n) refl
    where
      waiting : (c : ClientState) → slice_get w.clients n ≡ Some c → (b : Bool) → waits c ≡ b → TalksSo (client_plan r n) n c (talk_of n w.messages) (held_of n w) (asked_of n w) b → IsPresent r w u.attempt
      waiting c at false now q = absurd (subst (Has (OpenAt t u.attempt)) q.none_held among)
      waiting c at true now (IsAsked q question letters none asked) = absurd (subst (Has (OpenAt t u.attempt)) none among)
      waiting c at true now (IsHeld q y question it letters one asked) = present c at now q question (asks-it q y it (only y (subst (Has (OpenAt t u.attempt)) one among)))
      waiting c at true now (IsReplied q l question got letters none asked) = absurd (subst (Has (OpenAt t u.attempt)) none among)

      by : (o : Option ClientState) → slice_get w.clients n ≡ o → IsPresent r w u.attempt
      by None at = absurd (subst (Has (OpenAt t u.attempt)) (k.nobody n at).none_held among)
      by (Some c) at = waiting c at (waits c) refl (k.talks n c at)
