-- What a leader does of an Ack of its incarnation, by cases.
use Rattle.std.specs.Prelude.{ℕ, ◌≡◌, Bool, true, false, ◌&&◌, ◌==◌, map, Option, Some, None, is_some, refl, if◌then◌else◌}
use Rattle.std.proofs.Common.{sym, ◌∙◌, ap, subst}
use Rattle.std.specs.List.{list_all}
use Rattle.base_types.specs.declared.entry.Entry.{Entry}
use Rattle.base_types.specs.declared.id.AttemptId.{AttemptId}
use Rattle.base_types.specs.declared.outcome.Outcome.{Outcome}
use Rattle.base_types.specs.declared.outcome.Outcome.TheVariants.{Committed}
use Rattle.dtx_base.specs.declared.leading.Undecided.{Undecided}
use Rattle.dtx_base.specs.Leading.{LeaderOf, LeaderStep, ack_heard, answer_heard, answer_if_awaited, counted_at, decided, ended, entry_led, ok_heard, quietly, refusal_heard, undecided_of, with_undecided}
use Rattle.dtx_base.specs.Members.{are_all_counted, has_target, is_other_member, other_members, with_target}
use Rattle.world_base.specs.Acks.{is_awaited, is_awaited_of, is_refusing}
use Rattle.base_messages.specs.declared.actor.ActorId.{ActorId}
use Rattle.base_types.specs.declared.epoch.Epoch.{Epoch}
use Rattle.base_messages.specs.declared.message.Post.{Post}
use Rattle.base_messages.specs.declared.message.Message.TheVariants as message

-- an attempt has an entry and a row at a leader
pub record IsAwaited (a : AttemptId) (l : LeaderOf) (e : Entry) (u : Undecided) : Type 0 where
  pub led : entry_led a l ≡ Some e
  pub row : undecided_of a l ≡ Some u

pub data AckIs (t : ℕ) (a : AttemptId) (inc : ℕ) (refusal : Option Outcome) (l : LeaderOf) : LeaderStep → Type 0 where
  Ignored : ((e : Entry) (u : Undecided) → IsAwaited a l e u → ⊥) → is_refusing t a inc refusal l ≡ false → AckIs t a inc refusal l (quietly l)
  Counted : (e : Entry) (u : Undecided) → IsAwaited a l e u → refusal ≡ None → is_refusing t a inc refusal l ≡ false
      → AckIs t a inc refusal l (quietly (with_undecided (map (counted_at a t) l.memory.undecided) l))
  Decides : (e : Entry) (u : Undecided) → IsAwaited a l e u → refusal ≡ None → is_refusing t a inc refusal l ≡ false → list_all (has_target (with_target u.counted t)) (other_members e) ≡ true
      → AckIs t a inc refusal l (record { leader = decided a l; posts = ended u.client a e.epoch Committed })
  Refuses : (e : Entry) (u : Undecided) (how : Outcome) → IsAwaited a l e u → refusal ≡ Some how → is_refusing t a inc refusal l ≡ true → AckIs t a inc refusal l (refusal_heard a how e u l)

module _ (t : ℕ) (a : AttemptId) (inc : ℕ) (l : LeaderOf) (own : (inc == l.incarnation) ≡ true) where
  ok-is : (e : Entry) (u : Undecided) → IsAwaited a l e u → is_refusing t a inc None l ≡ false → AckIs t a inc None l (ok_heard t a e u l)
  unfolding are_all_counted
  ok-is e u k off = by (list_all (has_target (with_target u.counted t)) (other_members e)) refl
    where
      by : (b : Bool) → list_all (has_target (with_target u.counted t)) (other_members e) ≡ b
          → AckIs t a inc None l (if b then record { leader = decided a l; posts = ended u.client a e.epoch Committed } else quietly (with_undecided (map (counted_at a t) l.memory.undecided) l))
      by true all = Decides e u k refl off all
      by false all = Counted e u k refl off

  answer-is : (refusal : Option Outcome) (e : Entry) (u : Undecided) → IsAwaited a l e u → is_refusing t a inc refusal l ≡ is_some refusal → AckIs t a inc refusal l (answer_heard t a refusal e u l)
  answer-is None e u k off = ok-is e u k off
  answer-is (Some how) e u k on = Refuses e u how k refl on

  pub ack-is : (refusal : Option Outcome) → ((e : Entry) → entry_led a l ≡ Some e → is_other_member e t ≡ true) → AckIs t a inc refusal l (ack_heard t a inc refusal l)
  unfolding ack_heard is_awaited
  ack-is refusal other = subst (λ (b : Bool). AckIs t a inc refusal l (if b then answer_if_awaited t a refusal (entry_led a l) (undecided_of a l) l else quietly l)) (sym own) (by (entry_led a l) refl (undecided_of a l) refl)
    where
      test : (o : Option Entry) (q : Option Undecided) → entry_led a l ≡ o → undecided_of a l ≡ q → is_refusing t a inc refusal l ≡ ((true && is_awaited_of t o q) && is_some refusal)
      test o q led row =
          ap (λ (b : Bool). (b && is_awaited_of t (entry_led a l) (undecided_of a l)) && is_some refusal) own
          ∙ ap (λ x. (true && is_awaited_of t x (undecided_of a l)) && is_some refusal) led ∙ ap (λ x. (true && is_awaited_of t o x) && is_some refusal) row

      by : (o : Option Entry) → entry_led a l ≡ o → (q : Option Undecided) → undecided_of a l ≡ q → AckIs t a inc refusal l (answer_if_awaited t a refusal o q l)
      by None led q row = Ignored (λ e u k. let one = k.led in (let no : ⊥ = cc (led, one) in no)) (test None q led row)
      by (Some e) led None row = Ignored (λ e2 u k. let one = k.row in (let no : ⊥ = cc (row, one) in no)) (test (Some e) None led row)
      by (Some e) led (Some u) row =
          subst (λ (b : Bool). AckIs t a inc refusal l (if b then answer_heard t a refusal e u l else quietly l)) (sym (other e led))
          (answer-is refusal e u (record { led = led; row = row }) (test (Some e) (Some u) led row ∙ ap (λ (b : Bool). (true && b) && is_some refusal) (other e led)))

-- a message that tells of an attempt's end
abbrev pub ended_post : ActorId → AttemptId → Option Epoch → Outcome → Post
ended_post to x own how = record { to = to; message = message.Ended x own how }

abbrev pub marking : AttemptId → Bool → AttemptId × Bool
marking x c = (x, c)
