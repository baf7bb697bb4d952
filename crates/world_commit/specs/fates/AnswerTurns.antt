-- What a leader hears of a Mark that it sent, and of what it is asked, keeps the facts of attempts.
use Rattle.std.specs.Prelude.{ℕ, ◌≡◌, ◌⊎◌, Bool, true, false, ◌||◌, ◌==◌, List, [], slice_get, Option, Some, None, refl, if◌then◌else◌}
use Rattle.std.proofs.Common.{sym, ◌∙◌, ap, subst, inl, inr}
use Rattle.std.proofs.Math.ListN.{set}
use Rattle.base_types.specs.declared.entry.Entry.{Entry}
use Rattle.base_types.specs.declared.entry.Settle.TheVariants.{Confirm}
use Rattle.base_types.specs.declared.entry.Verdict.TheVariants as verdict
use Rattle.base_types.specs.declared.id.AttemptId.{AttemptId}
use Rattle.model_laws.specs.Members.{Has, has-left}
use Rattle.base_messages.specs.declared.message.Message.TheVariants as message
use Rattle.daos_model.specs.declared.durable.Durable.{Durable}
use Rattle.daos_model.specs.BoolLaws.{and_left}
use Rattle.daos_model.specs.Durables.{entry_key, entry_of}
use Rattle.daos_model.specs.Ordered.{is_rising}
use Rattle.dtx_base.specs.Leading.{LeaderOf, entry_led, marked_heard, may_confirm, query_answer, verdict_on}
use Rattle.dtx_base.specs.Members.{has_target}
use Rattle.dtx_base.specs.Rows.{is_among}
use Rattle.world_commit.specs.attempts.Attempts.{IsHeld, IsSettled, IsVerdictTrue, entry_in, is_known_in, leader_of}
use Rattle.world_commit.specs.attempts.History.{Aborted, History}
use Rattle.world_commit.specs.attempts.Stored.{found-led, led-found, target-is}
use Rattle.world_commit.specs.attempts.Turning.{at_work}
use Rattle.world_commit.specs.fates.Facts.{IsMarkedRight, IsQueryRight, IsSaidSo, IsVerdictRight, Ongoing}
use Rattle.world_commit.specs.fates.FetchTurns.{TurnAnswers, TurnLeft, answered, left-is, work-keeps}
use Rattle.world_commit.specs.fates.Small.{Midway, own-confirms}
use Rattle.world_commit.specs.fates.Working.{work-mid}
use Rattle.world_base.specs.declared.did.Did.{Did}
use Rattle.world_base.specs.declared.letter.Letter.{Letter}
use Rattle.world_base.specs.declared.target.Life.TheVariants.{Running}
use Rattle.world_base.specs.declared.target.TargetMemory.{TargetMemory}
use Rattle.world_base.specs.declared.target.TargetState.{TargetState}
use Rattle.world_base.specs.declared.world.World.{World}
use Rattle.world_base.specs.Events.{Rules, target_after, target_plan}
use Rattle.world_base.specs.Letters.{target}
use Rattle.world_base.specs.StepLaws.{set-here}
use Rattle.world_letters.specs.talks.LeaveLaws.{marked-is}
use Rattle.world_base.specs.Acks.{AllConfirmed, Confirms, MarkedEnds, MarkedNext, PassesBy, to_confirm}
use Rattle.world_base.specs.ChangeLaws.{incarnation-settled}
use Rattle.world_base.specs.Changes.{Change, Kept, Steps}
use Rattle.world_base.specs.Requests.{nothing_follows}
use Rattle.world_base.specs.Roles.{leader_at, leads_on}
use Rattle.world_base.specs.Verdicts.{Answers, IsTold, QueryEnds, QueryNext, QueryStage, verdict_message}

-- where an entry may be confirmed, there is one, and it is committed
confirmable : (member : ℕ) (o : Option Entry) → may_confirm member o ≡ true → (e : Entry) × (o ≡ Some e) × (e.committed ≡ true)
confirmable member None is = let no : ⊥ = cc in absurd no
confirmable member (Some e) is = (e, refl, and_left e.committed (has_target e.members member) is)

some-to_confirm : (inc : ℕ) (ids : List AttemptId) (d : Durable) (x : AttemptId) → Has x (to_confirm inc ids d) → Has x ids
some-to_confirm inc ids d x i = by (inc == d.incarnation) i
  where
    by : (b : Bool) → Has x (if b then ids else []) → Has x ids
    by true j = j
    by false j = absurd j

marked-decided : (t inc : ℕ) (ids : List AttemptId) (l : LeaderOf) → (marked_heard t inc ids l).leader.memory.decided ≡ l.memory.decided
unfolding marked_heard
marked-decided t inc ids l = refl

marked-down : (t inc : ℕ) (ids : List AttemptId) (l : LeaderOf) → (marked_heard t inc ids l).leader.memory.down ≡ l.memory.down
unfolding marked_heard
marked-down t inc ids l = refl

module _ (r : Rules) (h : History) (w : World) (t : ℕ) (s : TargetState) (here : slice_get w.targets t ≡ Some s) (runs : s.life ≡ Running) (m : TargetMemory) (l : Letter) (flies : Has l w.messages) (to_it : l.to ≡ target t) where
  abbrev pub V : Kept → World
  V k = at_work w t (target_after s k m) []

  V-here : (k : Kept) → slice_get (set w.targets t (target_after s k m)) t ≡ Some (target_after s k m)
  V-here k = set-here w.targets t s (target_after s k m) here

  V-entry : (k : Kept) (x : AttemptId) → entry_in (slice_get (set w.targets t (target_after s k m)) t) x ≡ entry_of k.durable x
  V-entry k x = ap (λ i. entry_in i x) (V-here k)

  V-rising : (k : Kept) → Ongoing r h (V k) → is_rising entry_key k.durable.entries ≡ true
  V-rising k p = (p.ordered t (target_after s k m) (V-here k)).entries

  flies-on : (k : Kept) → Has l (V k).messages
  flies-on k = has-left w.messages [] l flies

  -- ---- a Marked

  pub record AtMarked (ids left : List AttemptId) (k : Kept) : Type 0 where
    pub on : Ongoing r h (V k)
    pub left_of : (x : AttemptId) → Has x left → Has x ids

  pub marked-step : (inc : ℕ) (ids : List AttemptId) → l.message ≡ message.Marked inc ids → (left : List AttemptId) (k : Kept) (o : Option Change) (next : List AttemptId) (n : Kept)
      → MarkedNext (target_plan r t) m l.from.number left k o next → Steps o k n → AtMarked ids left k → AtMarked ids next n
  marked-step inc ids is left k o next n (Confirms k2 a rest may) steps p = record { on = on; left_of = λ x i. p.left_of x (inr i) }
    where
      c : (e : Entry) × (entry_led a (leader_at (target_plan r t) m k2.durable) ≡ Some e) × (e.committed ≡ true)
      c = confirmable l.from.number (entry_led a (leader_at (target_plan r t) m k2.durable)) may

      found : entry_of k2.durable a ≡ Some c.0
      found = (led-found (target_plan r t) m k2.durable a c.0 (V-rising k2 p.on) c.1).0

      z : IsMarkedRight r h (V k2) l.from l.to a inc
      z = (subst (λ q. IsSaidSo r h (V k2) l.from l.to q) is (p.on.letters l (flies-on k2))) a (p.left_of a (inl refl))

      leads : t ≡ leader_of r a
      leads = target-is t (leader_of r a) (sym to_it ∙ z.way.receiver)

      sender : l.from.number ≡ z.way.member
      sender = ap (λ i. i.number) z.way.sender

      settled-there : IsSettled (V k2) l.from.number a
      settled-there = elim z.settled [
        | inl is ↦ subst (λ q. IsSettled (V k2) q a) (sym sender) is
        | inr gone ↦
            let none = (p.on.each a).entries.aborted gone in
            let some = subst (λ q. entry_in (slice_get (V k2).targets q) a ≡ Some c.0) leads (V-entry k2 a ∙ found) in
            let no : ⊥ = cc (none, some) in
            absurd no
      ]

      mid : Midway (V k2) (V n) t (target_after s k2 m) (target_after s n m)
      mid = work-mid w t s (target_after s k2 m) (target_after s n m) [] here (record { incarnation = ap (λ d. d.incarnation) steps.0 ∙ incarnation-settled a (Confirm l.from.number) k2.durable; runs = runs; life = refl; down = refl })

      on : Ongoing r h (V n)
      on = own-confirms r h (V k2) (V n) t (target_after s k2 m) (target_after s n m) mid a p.on refl l.from.number steps.0 leads c.0 found c.2 settled-there
  marked-step inc ids is left k o next n (PassesBy k2 a rest may) steps p = record { on = subst (λ i. Ongoing r h (V i)) (sym steps) p.on; left_of = λ x i. p.left_of x (inr i) }

  pub marked-ends : (inc : ℕ) (ids left : List AttemptId) (k : Kept) (after : TargetMemory × Did) → MarkedEnds (target_plan r t) m l.from.number inc ids left k after → AtMarked ids left k → TurnLeft r h w t s here runs [] k after
  marked-ends inc ids left k after (AllConfirmed k2 after2 ends) p =
      left-is r h w t s here runs [] k2 (leads_on (marked_heard l.from.number inc ids (leader_at (target_plan r t) m k2.durable)) m) nothing_follows after2 ends
      (work-keeps r h w t s here runs (target_after s k2 m) (target_after s k2 (leads_on (marked_heard l.from.number inc ids (leader_at (target_plan r t) m k2.durable)) m)) []
      (record { incarnation = refl; runs = runs; life = refl; down = marked-down l.from.number inc ids (leader_at (target_plan r t) m k2.durable) }) refl
      (marked-is l.from.number inc ids (leader_at (target_plan r t) m k2.durable)) (marked-decided l.from.number inc ids (leader_at (target_plan r t) m k2.durable)) p.on)
      (λ q i. absurd i)

  pub marked-begins : (inc : ℕ) (ids : List AttemptId) (k : Kept) → Ongoing r h (V k) → AtMarked ids (to_confirm inc ids k.durable) k
  marked-begins inc ids k p = record { on = p; left_of = some-to_confirm inc ids k.durable }

  -- ---- a Query

  verdict-true : (a : AttemptId) (k : Kept) → t ≡ leader_of r a → IsHeld (V k) (leader_of r a) a ⊎ Aborted h a → Ongoing r h (V k) → IsVerdictTrue h a (query_answer a (leader_at (target_plan r t) m k.durable))
  unfolding query_answer
  verdict-true a k leads born p = by (entry_led a (leader_at (target_plan r t) m k.durable)) refl
    where
      L : LeaderOf
      L = leader_at (target_plan r t) m k.durable

      by : (o : Option Entry) → entry_led a (leader_at (target_plan r t) m k.durable) ≡ o → IsVerdictTrue h a (verdict_on o (is_among a m.leader.decided))
      by None at = elim born [
        | inl held ↦
            let found : entry_of k.durable a ≡ Some held.entry = sym (V-entry k a) ∙ subst (λ q. entry_in (slice_get (V k).targets q) a ≡ Some held.entry) (sym leads) held.found in
            let its = (p.each a).entries.one t held.entry (V-entry k a ∙ found) in
            let one = found-led (target_plan r t) m k.durable a held.entry (V-rising k p) found (its.leader ∙ sym leads) in
            let no : ⊥ = cc (one, at) in
            absurd no
        | inr gone ↦ gone
      ]
      by (Some e) at = known e.committed refl (is_among a m.leader.decided) refl
        where
          found : entry_of k.durable a ≡ Some e
          found = (led-found (target_plan r t) m k.durable a e (V-rising k p) at).0

          known : (c : Bool) → e.committed ≡ c → (b : Bool) → is_among a m.leader.decided ≡ b → IsVerdictTrue h a (if c || b then verdict.Committed else verdict.Undecided)
          known true c b among = (e.epoch, (p.each a).entries.committed t e (V-entry k a ∙ found) c)
          known false c true among =
              let u = (p.each a).rows.unsettled t (ap (λ i. is_known_in i a) (V-here k) ∙ among) in
              (u.here.entry.epoch, u.decided)
          known false c false among = tt

  pub query-step : (stage : QueryStage) (k : Kept) (o : Option Change) (next : QueryStage) (n : Kept) → QueryNext stage k o next → Steps o k n → Ongoing r h (V k) → Ongoing r h (V n)
  query-step stage k o next n (Answers k2) steps p = subst (λ i. Ongoing r h (V i)) (sym steps) p

  pub query-ends : (a : AttemptId) (ask : Option AttemptId) → l.message ≡ message.Query a ask → (stage : QueryStage) (k : Kept) (after : TargetMemory × Did) → QueryEnds (target_plan r t) m l.from a ask stage k after → Ongoing r h (V k)
      → TurnAnswers r h w t s here runs l.from (verdict_message (target_plan r t) m a ask k.durable) k after
  query-ends a ask is stage k after (IsTold k2 after2 ends) p = record {
    on = subst (λ i. Ongoing r h (at_work w t (target_after s k2 i.0) i.1.posts)) (sym ends)
        (answered r h w t s here runs (target_after s k2 m) (target_after s k2 m) [] l.from (verdict_message (target_plan r t) m a ask k2.durable) runs refl refl right refl refl p);
    sent = ap (λ i. i.1.posts) ends;
  }
    where
      z : IsQueryRight r h (V k2) l.from l.to a
      z = subst (λ q. IsSaidSo r h (V k2) l.from l.to q) is (p.letters l (flies-on k2))

      leads : t ≡ leader_of r a
      leads = target-is t (leader_of r a) (sym to_it ∙ z.way.receiver)

      right : IsVerdictRight r h (V k2) (target t) l.from a (query_answer a (leader_at (target_plan r t) m k2.durable))
      right = record { way = record { member = z.way.member; other = z.way.other; sender = ap target leads; receiver = z.way.sender }; born = z.born; fate = verdict-true a k2 leads z.born p }
