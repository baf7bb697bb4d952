-- What an event of a target leaves of all that the facts of outcomes speak of, and that it keeps them.
use Rattle.std.specs.Prelude.{◌≡◌, ◌<◌, ◌⊎◌, Bool, true, false, List, Contains, Option, Some, None, refl}
use Rattle.std.proofs.Common.{sym, ◌∙◌, ap, subst, arith, inl, inr}
use Rattle.base_types.specs.declared.entry.Entry.{Entry}
use Rattle.base_types.specs.declared.epoch.Epoch.{Epoch}
use Rattle.base_types.specs.declared.id.AttemptId.{AttemptId}
use Rattle.base_types.specs.declared.outcome.Outcome.{Outcome}
use Rattle.base_types.specs.declared.report.Attempt.{Attempt}
use Rattle.model_laws.specs.Members.{Has, contains-from_has}
use Rattle.base_messages.specs.declared.message.Message.{Message}
use Rattle.base_messages.specs.declared.message.Message.TheVariants as message
use Rattle.daos_model.specs.Attempts.{tries}
use Rattle.world_contents.specs.world_commit.attempts.Attempts.{IsBorn, IsHeld, entry_at, leader_of}
use Rattle.world_contents.specs.world_commit.attempts.Counting.{has-taken}
use Rattle.world_contents.specs.world_commit.attempts.History.{Aborted, Decided, History}
use Rattle.world_base.specs.declared.client.ClientPlan.{ClientPlan}
use Rattle.world_base.specs.declared.client.ClientState.{ClientState}
use Rattle.world_base.specs.declared.letter.Letter.{Letter}
use Rattle.world_base.specs.declared.world.World.{World}
use Rattle.world_base.specs.Events.{Rules, client_plan}
use Rattle.world_base.specs.Letters.{Takes, is_tell}
use Rattle.world_contents.specs.world_letters.epochs.Epochs.{IsPast}
use Rattle.world_contents.specs.world_letters.talks.TalkLaws.{got-is-talk, left-or-it, none-among, sent-is-talk}
use Rattle.world_causes.specs.outcomes.Outcomes.{IsEndTrue, IsHandedOver, Outcomes, WaitsForEnd, commits, HasWrites}
use Rattle.world_causes.specs.outcomes.Premises.{HandsOver, LinesArePast, hands}

-- ---- an attempt that is handed over in an event

-- a letter that hands an attempt over, or asks after it, is taken, and each Commit that is in flight afterwards is left of the others
pub record IsTaken (w v : World) (x : AttemptId) : Type 0 where
  pub l : Letter
  pub rest : List Letter
  pub takes : Takes w.messages l rest
  pub hands_it : hands x l.message ≡ true
  pub left : (m : Letter) (y : AttemptId) → Has m v.messages → commits y m.message ≡ true → Has m rest

-- ---- letters that say nothing of it

-- a message tells no attempt's end, and hands none over
abbrev pub is_aside : Message → Bool
is_aside (message.Ended x own how) = false
is_aside (message.Commit x ep first tracker ws) = false
is_aside m = true

pub aside-no_end : (m : Message) (x : AttemptId) (own : Option Epoch) (how : Outcome) → is_aside m ≡ true → m ≡ message.Ended x own how → ⊥
aside-no_end m x own how is same = let bad : false ≡ true = sym (ap is_aside same) ∙ is in (let no : ⊥ = cc in no)

pub aside-no_commit : (m : Message) (x : AttemptId) → is_aside m ≡ true → commits x m ≡ true → ⊥
aside-no_commit (message.Commit y ep first tracker ws) x is own = let no : ⊥ = cc in no
aside-no_commit m x is own = let no : ⊥ = cc in no

-- ---- an event of a target

pub record Concludes (r : Rules) (h later : History) (w v : World) : Type 0 where
  pub clients : v.clients ≡ w.clients
  -- no line tells of an attempt more
  pub lines : (a : Attempt) → Contains (tries v.lines) a → Contains (tries w.lines) a
  pub decided : (x : AttemptId) (e : Epoch) → Decided h x e → Decided later x e
  pub aborted : (x : AttemptId) → Aborted h x → Aborted later x
  -- what is told is so
  pub told : (l : Letter) (x : AttemptId) (own : Option Epoch) (how : Outcome) → Has l v.messages → l.message ≡ message.Ended x own how → HasWrites r x → Has l w.messages ⊎ IsEndTrue r later v x own how
  -- no client hands an attempt over
  pub commit : (l : Letter) (x : AttemptId) → Has l v.messages → commits x l.message ≡ true → Has l w.messages
  -- of an attempt that is handed over, or that its leader has an entry of, more may be stored, and it may be aborted
  pub stored : (x : AttemptId) → IsHeld v (leader_of r x) x → IsHeld w (leader_of r x) x ⊎ IsTaken w v x
  pub ended : (x : AttemptId) → Aborted later x → IsBorn r h w x ⊎ IsTaken w v x

-- ---- it keeps the facts

pub commits-hands : (x : AttemptId) (m : Message) → commits x m ≡ true → hands x m ≡ true
commits-hands x (message.Commit y ep first tracker ws) is = is
commits-hands x m is = let no : ⊥ = cc in absurd no

commit-no_tell : (x : AttemptId) (m : Message) → commits x m ≡ true → is_tell m ≡ false
commit-no_tell x (message.Commit y ep first tracker ws) is = refl
commit-no_tell x m is = let no : ⊥ = cc in absurd no

-- a client isn't past the attempt whose end it waits for
pub waiting-not_past : (p : ClientPlan) (c : ClientState) (x : AttemptId) → WaitsForEnd p c x → IsPast c x → ⊥
waiting-not_past p c x k (inl less) =
    let same : c.command ≡ x.command = ap (λ y. y.command) k.own in
    omega (arith, less, same)
waiting-not_past p c x k (inr past) =
    let one : k.a ≡ past.0 = let e : Some k.a ≡ Some past.0 = sym k.present ∙ past.1 in cc in
    let less : x.attempt < past.0.attempt = past.3 in
    let same : k.a.attempt ≡ past.0.attempt = ap (λ z. z.attempt) one in
    let own : k.a.attempt ≡ x.attempt = ap (λ y. y.attempt) k.own in
    omega (arith, less, same, own)

module _ (r : Rules) (h later : History) (w v : World) (over : HandsOver r w) (past : LinesArePast w) (g : Concludes r h later w v) (k : Outcomes r h w) where
  -- whatever became of an attempt before, or it is handed over now
  born-back : (x : AttemptId) → IsBorn r later v x → IsBorn r h w x ⊎ IsTaken w v x
  born-back x (inl held) = elim (g.stored x held) [ inl before ↦ inl (inl before) | inr taken ↦ inr taken ]
  born-back x (inr a) = g.ended x a

  -- of what is handed over no line tells
  taken-untold : (a : Attempt) → Contains (tries w.lines) a → IsTaken w v a.id → ⊥
  taken-untold a i t = let q = over.waits t.l a.id (has-taken w.messages t.l t.rest t.takes) t.hands_it in waiting-not_past (client_plan r a.id.client) q.c a.id q.waits (past a q.c i q.here)

  -- and nobody is told its end
  taken-unanswered : (l : Letter) (x : AttemptId) (own : Option Epoch) (how : Outcome) → Has l w.messages → l.message ≡ message.Ended x own how → IsTaken w v x → ⊥
  taken-unanswered l x own how i says t = elim (left-or-it w.messages t.l t.rest l t.takes (contains-from_has w.messages l i)) [
    | inl same ↦ let bad : false ≡ true = ap (hands x) (sym says ∙ ap (λ m. m.message) same) ∙ t.hands_it in (let no : ⊥ = cc in no)
    | inr j ↦ none-among x.client t.rest l (over.alone t.l t.rest x t.takes t.hands_it) j (got-is-talk x.client l (ap is_tell says) (over.answered l x own how i says))
  ]

  -- where its leader had no entry of an attempt that isn't handed over, it has none
  none-stays : (x : AttemptId) → (IsTaken w v x → ⊥) → entry_at w (leader_of r x) x ≡ None → entry_at v (leader_of r x) x ≡ None
  none-stays x untaken none = by (entry_at v (leader_of r x) x) refl
    where
      by : (o : Option Entry) → entry_at v (leader_of r x) x ≡ o → o ≡ None
      by None at = refl
      by (Some e) at = elim (g.stored x (record { entry = e; found = at })) [
        | inl held ↦ (let found = held.found in let no : ⊥ = cc (none, found) in absurd no)
        | inr taken ↦ absurd (untaken taken)
      ]

  -- what is told of such an attempt stays so
  end-stays : (x : AttemptId) (own : Option Epoch) (how : Outcome) → (IsTaken w v x → ⊥) → IsEndTrue r h w x own how → IsEndTrue r later v x own how
  end-stays x own how untaken t = record { committed = λ is. let d = t.committed is in (d.0, d.1, g.decided x d.0 d.2); failed = λ is. none-stays x untaken (t.failed is) }

  new-on : (l : Letter) (x : AttemptId) → Has l v.messages → commits x l.message ≡ true → IsBorn r later v x → ⊥
  new-on l x i is born = elim (born-back x born) [
    | inl before ↦ k.new l x (g.commit l x i is) is before
    | inr t ↦
        none-among x.client t.rest l (over.alone t.l t.rest x t.takes t.hands_it) (contains-from_has t.rest l (t.left l x i is))
        (sent-is-talk x.client l (commit-no_tell x l.message is) (over.sender l x (g.commit l x i is) (commits-hands x l.message is)))
  ]

  handed-on : (x : AttemptId) → IsBorn r later v x → IsHandedOver r v.clients x
  handed-on x born = subst (λ cs. IsHandedOver r cs x) (sym g.clients) (elim (born-back x born) [
    | inl before ↦ k.handed x before
    | inr t ↦ let q = over.waits t.l x (has-taken w.messages t.l t.rest t.takes) t.hands_it in record { c = q.c; here = q.here; how = inr q.waits }
  ])

  pub concluding-keeps : Outcomes r later v
  concluding-keeps = record {
    told = λ l x own how i says some. elim (g.told l x own how i says some) [ inl before ↦ end-stays x own how (taken-unanswered l x own how before says) (k.told l x own how before says some) | inr new ↦ new ];
    lines = λ a i some. end-stays a.id a.epoch a.outcome (taken-untold a (g.lines a i)) (k.lines a (g.lines a i) some);
    new = new-on;
    handed = handed-on;
  }
