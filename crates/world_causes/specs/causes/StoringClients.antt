-- What clients do leaves what was stored, and what was refused.
use Rattle.std.specs.Prelude.{ℕ, ◌≡◌, ◌++◌, ◌⊎◌, Bool, true, false, List, map, Contains, Option, Some, None, refl}
use Rattle.std.proofs.Common.{inl, inr, sym, ap, subst}
use Rattle.base_types.specs.declared.epoch.Epoch.{Epoch}
use Rattle.base_types.specs.declared.id.AttemptId.{AttemptId}
use Rattle.base_types.specs.declared.outcome.Outcome.TheVariants as outcome
use Rattle.base_types.specs.declared.report.Attempt.{Attempt}
use Rattle.base_types.specs.declared.report.Line.{Line}
use Rattle.base_types.specs.declared.report.Line.TheVariants as line
use Rattle.model_laws.specs.Members.{Has, contains-from_has, has-cases, has-from_contains, has-from_map}
use Rattle.base_messages.specs.declared.message.Message.{Message}
use Rattle.base_messages.specs.declared.message.Message.TheVariants as message
use Rattle.base_messages.specs.declared.message.Post.{Post}
use Rattle.daos_model.specs.Attempts.{tries}
use Rattle.daos_model.specs.Laws.{tries-append}
use Rattle.world_base.specs.declared.client.ClientPlan.{ClientPlan}
use Rattle.world_base.specs.declared.client.ClientState.{ClientState}
use Rattle.world_base.specs.declared.client.Present.{Present}
use Rattle.world_base.specs.declared.letter.Letter.{Letter}
use Rattle.world_base.specs.declared.world.World.{World}
use Rattle.world_base.specs.ClientTurns.{Move, listed, moved, waits}
use Rattle.world_base.specs.Events.{with_client, with_epoch}
use Rattle.world_base.specs.Letters.{client, letter_of, letters_of}
use Rattle.world_base.specs.Steps.{KeptByCounting, after_client, without}
use Rattle.world_contents.specs.world_letters.talks.AskLaws.{move-is, waiting-rests}
use Rattle.world_contents.specs.world_letters.talks.Asked.{ARead, ASnapshot, AnAggregation, Asked, Asking, IsMove, ItsWrites, Silent, Telling}
use Rattle.world_causes.specs.causes.Causes.{Dated, Stored}
use Rattle.world_causes.specs.causes.ClientLaws.{IsQuiet, IsQuietLine}
use Rattle.world_causes.specs.causes.Storing.{HasItsLine, IsAskedAt, IsPrepareOf, IsRefusedAt, IsTold, RefusesAt, StoredOnce}

-- ---- lines

-- a line tells of a refusal for want of space only what a message tells
abbrev pub TellsOnly : (ℕ → AttemptId → Type 0) → Option Line → Type 0
TellsOnly P (Some (line.Try a)) = (t need free : ℕ) → a.outcome ≡ outcome.NoSpace t need free → P t a.id
TellsOnly P l = Unit {0}

pub quiet-only : (P : ℕ → AttemptId → Type 0) (l : Option Line) → IsQuietLine l → TellsOnly P l
quiet-only P (Some (line.Try a)) k = λ t need free is. absurd (subst IsQuiet is k)
quiet-only P l k = tt

-- a line that is told, once its epoch was filled in
new-line : (P : ℕ → AttemptId → Type 0) (issued : Dated) (l : Option Line) (a : Attempt) (t need free : ℕ) → TellsOnly P l → Has a (tries (map (with_epoch issued) (listed l))) → a.outcome ≡ outcome.NoSpace t need free → P t a.id
unfolding tries
new-line P issued None a t need free k i is = absurd i
new-line P issued (Some (line.Try b)) a t need free k (inl same) is =
    subst (P t) (sym (ap (λ z. z.id) same)) (k t need free (subst (λ z. z ≡ outcome.NoSpace t need free) (ap (λ z. z.outcome) same) is))
new-line P issued (Some (line.Try b)) a t need free k (inr none) is = absurd none
new-line P issued (Some l) a t need free k i is = absurd i

-- ---- what a client sends

-- neither a refusal nor a Prepare
pub record IsClients (m : Message) : Type 0 where
  pub refuses : (t : ℕ) (x : AttemptId) → RefusesAt m t x → ⊥
  pub asks : (x : AttemptId) → IsPrepareOf m x → ⊥

abbrev AreClients : List Post → Type 0
AreClients posts = (q : Post) → Has q posts → IsClients q.message

asked-clients : (p : ClientPlan) (k : Epoch) (c : ClientState) (a : Present) (q : Post) → Asked p k c a q → IsClients q.message
asked-clients p k c a q (ARead ops turns snapshot op z at here asked says) = subst (λ x. IsClients x.message) (sym says) (record { refuses = λ t x h. h; asks = λ x h. h })
asked-clients p k c a q (ItsWrites ops turns snapshot w ws at last all says) = subst (λ x. IsClients x.message) (sym says) (record { refuses = λ t x h. h; asks = λ x h. h })
asked-clients p k c a q (ASnapshot name cont at says) = subst (λ x. IsClients x.message) (sym says) (record { refuses = λ t x h. h; asks = λ x h. h })
asked-clients p k c a q (AnAggregation cont at says) = subst (λ x. IsClients x.message) (sym says) (record { refuses = λ t x h. h; asks = λ x h. h })

pub move-clients : (p : ClientPlan) (c : ClientState) → AreClients (listed (moved p c).post)
move-clients p c = by (waits c) refl
  where
    nothing : (m : Move) → m.post ≡ None → AreClients (listed m.post)
    nothing m e q i = absurd (subst (λ o. Has q (listed o)) e i)

    one : (m : Move) (s : Post) → m.post ≡ Some s → IsClients s.message → AreClients (listed m.post)
    one m s e t q i = elim (subst (λ o. Has q (listed o)) e i) [ inl same ↦ subst (λ x. IsClients x.message) (sym same) t | inr j ↦ absurd j ]

    is-a : IsMove p c (moved p c) → AreClients (listed (moved p c).post)
    is-a (Silent free none) = nothing (moved p c) none
    is-a (Telling n none free says) = one (moved p c) _ says (record { refuses = λ t x h. h; asks = λ x h. h })
    is-a (Asking a q at asked says state) = one (moved p c) q says (asked-clients p c.tracker c a q asked)

    by : (b : Bool) → waits c ≡ b → AreClients (listed (moved p c).post)
    by true h = nothing (moved p c) (ap (λ m. m.post) (waiting-rests p c h))
    by false h = is-a (move-is p c h)

-- ---- the world then

-- a client did something: these letters are left, and it sent these posts and told this line
pub client-did : (stored : Stored) (w : World) (n : ℕ) (d : ClientState) (letters : List Letter) (posts : List Post) (l : Option Line) → StoredOnce stored w → ((z : Letter) → Contains letters z → Contains w.messages z) → AreClients posts
    → TellsOnly (IsRefusedAt w) l → StoredOnce stored (after_client (without w letters) n posts (listed l) d)
client-did stored w n d letters posts l S among P L = record {
  once = S.once;
  issued = S.issued;
  asked = λ t x a. S.asked t x (was-asked t x a);
  refused = λ t x f. let k = S.refused t x (was-refused t x f) in (k.0, λ a. k.1 (was-asked t x a));
}
  where
    v : World
    v = after_client (without w letters) n posts (listed l) d

    sent : (z : Letter) → Contains v.messages z → Contains letters z ⊎ IsClients z.message
    sent z i = elim (has-cases letters (letters_of (client n) posts) z (has-from_contains (letters ++ letters_of (client n) posts) z i)) [
      | inl j ↦ inl (contains-from_has letters z j)
      | inr j ↦ let q = has-from_map (letter_of (client n)) posts z j in inr (subst (λ y. IsClients y.message) q.2 (P q.0 q.1))
    ]

    was-asked : (t : ℕ) (x : AttemptId) → IsAskedAt v t x → IsAskedAt w t x
    was-asked t x a = elim (sent a.l a.among) [ inl j ↦ record { l = a.l; among = among a.l j; to = a.to; its = a.its } | inr k ↦ absurd (k.asks x a.its) ]

    was-refused : (t : ℕ) (x : AttemptId) → IsRefusedAt v t x → IsRefusedAt w t x
    was-refused t x (IsTold z i p) = elim (sent z i) [ inl j ↦ IsTold z (among z j) p | inr k ↦ absurd (k.refuses t x p) ]
    was-refused t x (HasItsLine a need free i same is) =
        elim (has-cases (tries w.lines) (tries (map (with_epoch w.issued) (listed l))) a (subst (Has a) (tries-append w.lines (map (with_epoch w.issued) (listed l))) (has-from_contains (tries (w.lines ++ map (with_epoch w.issued) (listed l))) a i))) [
          | inl j ↦ HasItsLine a need free (contains-from_has (tries w.lines) a j) same is
          | inr j ↦ subst (IsRefusedAt w t) same (new-line (IsRefusedAt w) w.issued l a t need free L j is)
        ]

-- ---- clients

pub stored-by-counting : (stored : Stored) → KeptByCounting (StoredOnce stored)
stored-by-counting stored w n k c here S = record {
  once = S.once;
  issued = S.issued;
  asked = λ t x a. S.asked t x (record { l = a.l; among = a.among; to = a.to; its = a.its });
  refused = λ t x f. let y = S.refused t x (was t x f) in (y.0, λ a. y.1 (record { l = a.l; among = a.among; to = a.to; its = a.its }));
}
  where
    was : (t : ℕ) (x : AttemptId) → IsRefusedAt (with_client n (record c { skip = k }) w) t x → IsRefusedAt w t x
    was t x (IsTold z i p) = IsTold z i p
    was t x (HasItsLine a need free i same is) = HasItsLine a need free i same is
