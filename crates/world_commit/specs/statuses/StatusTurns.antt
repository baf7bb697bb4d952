-- A member is asked what it holds, and answers.
use Rattle.std.specs.Prelude.{ℕ, ◌≡◌, ◌==◌, ◌&&◌, Bool, true, false, [], ◌∷◌, ◌++◌, Option, Some, None, refl, if◌then◌else◌}
use Rattle.std.proofs.Common.{sym, ◌∙◌, ap, subst, arith, inl, inr}
use Rattle.std.proofs.lemmas.Bool.Decides.{nat_tests}
use Rattle.base_types.specs.declared.entry.Entry.{Entry}
use Rattle.base_types.specs.declared.entry.EntryState.{EntryState}
use Rattle.base_types.specs.declared.entry.EntryState.TheVariants as state
use Rattle.base_types.specs.declared.epoch.Epoch.{Epoch}
use Rattle.base_types.specs.declared.id.AttemptId.{AttemptId}
use Rattle.model_laws.specs.Members.{Has, has-left}
use Rattle.base_messages.specs.declared.message.Message.{Message}
use Rattle.base_messages.specs.declared.message.Message.TheVariants as message
use Rattle.daos_model.specs.BoolLaws.{and_left, and_right, both}
use Rattle.daos_model.specs.Durables.{entry_of, same_attempt}
use Rattle.daos_model.specs.EntryLaws.{same_attempt-itself}
use Rattle.dtx_base.specs.LeaderLaws.{same-is}
use Rattle.dtx_base.specs.Leading.{undecided_attempt}
use Rattle.dtx_base.specs.Members.{has_target}
use Rattle.dtx_base.specs.Rows.{row_of}
use Rattle.world_commit.specs.attempts.Attempts.{IsOther, entry_at, inc_at, is_target, leader_of}
use Rattle.world_commit.specs.attempts.History.{Decided, History}
use Rattle.world_commit.specs.attempts.Stored.{target-is}
use Rattle.world_commit.specs.attempts.Turning.{Turned, entry-before, entry-now, inc-stays}
use Rattle.world_commit.specs.fates.Alike.{answered-same, back-answers}
use Rattle.world_commit.specs.fates.Answers.{state-answers}
use Rattle.world_commit.specs.fates.Facts.{IsSaidSo, IsStateRight, IsStateTrue, IsStatusRight, Ongoing, PromptsFly, is_prompt_kind, is_talk, is_try, prepares_in_vain, prepares_it, refuses_for}
use Rattle.world_commit.specs.fates.Overs.{Over}
use Rattle.world_commit.specs.fates.Prompts.{answer-is, prompts-answered}
use Rattle.world_commit.specs.fates.Talks.{number-itself}
use Rattle.world_commit.specs.fates.Working.{work-begins}
use Rattle.world_commit.specs.statuses.Listening as listening
use Rattle.world_commit.specs.statuses.Turns.{Looked, hears-asked, hears-flies, hears-messages, hears-over, looked}
use Rattle.world_commit.specs.statuses.Ways.{neither-counted, status-talks, way-counted}
use Rattle.world_commit.specs.stops.Parts.{KeepsEntries, grows-still}
use Rattle.world_base.specs.declared.letter.Letter.{Letter}
use Rattle.world_base.specs.declared.world.World.{World}
use Rattle.world_base.specs.Events.{Rules, TargetHearsBy, kept, target_after, target_plan}
use Rattle.world_base.specs.Further.{HearsFurther}
use Rattle.world_base.specs.Letters.{asked_after, is_answer_to, is_reply, letters_of, target}
use Rattle.world_base.specs.Statuses.{state_of, status_left}

-- what is answered determines what was asked
abbrev status_of : AttemptId → ℕ → Message
status_of x inc = message.Status x inc

asked-status : (x : AttemptId) (inc : ℕ) (how : EntryState) (q : Message) → is_reply (message.StatusIs x inc how) q ≡ true → q ≡ status_of x inc
asked-status x inc how (message.Status y inc2) is =
    ap (λ z. status_of z inc2) (sym (same-is x y (and_left (same_attempt x y) (inc == inc2) is))) ∙ ap (status_of x) (sym (number-is (and_right (same_attempt x y) (inc == inc2) is)))
  where
    number-is : (inc == inc2) ≡ true → inc ≡ inc2
    number-is own = grind (arith, nat_tests)
asked-status x inc how q is = let no : ⊥ = cc in absurd no

-- who holds nothing alone says so
absent-none : (i : ℕ) (x a : AttemptId) (inc : ℕ) (o : Option Entry) → refuses_for i x (message.StatusIs a inc (state_of o)) ≡ true → o ≡ None
absent-none i x a inc None on = refl
absent-none i x a inc (Some e) on = absurd (by e.committed on)
  where
    by : (b : Bool) → refuses_for i x (message.StatusIs a inc (if b then state.Committed else state.Prepared)) ≡ true → ⊥
    by true on = let no : ⊥ = cc in no
    by false on = let no : ⊥ = cc in no

refuses-its : (i : ℕ) (x a : AttemptId) (inc : ℕ) (how : EntryState) → refuses_for i x (message.StatusIs a inc how) ≡ true → a ≡ x
refuses-its i x a inc state.Absent on = same-is a x (and_left (same_attempt a x) (inc == i) on)
refuses-its i x a inc state.Prepared on = let no : ⊥ = cc in absurd no
refuses-its i x a inc state.Committed on = let no : ⊥ = cc in absurd no

module _ (number : ℕ) (r : Rules) (h : History) (w v : World) (k : Ongoing r h w) (g : TargetHearsBy (HearsFurther number) r w v) (x : AttemptId) (inc : ℕ) (is : g.l.message ≡ message.Status x inc)
    (turn : HearsFurther number (target_plan r g.t) g.s.opening g.s.memory g.reading g.l.from (message.Status x inc) (kept g.s) g.new (g.memory, g.did)) where
  abbrev answer : Message
  answer = message.StatusIs x inc (state_of (entry_of g.s.durable x))

  left : Looked (status_left g.s.memory g.l.from x inc) (kept g.s) g.new (g.memory, g.did)
  left = looked (status_left g.s.memory g.l.from x inc) (kept g.s) g.new (g.memory, g.did) turn

  durable : g.new.durable ≡ g.s.durable
  durable = ap (λ i. i.durable) left.same

  memory : g.memory ≡ g.s.memory
  memory = ap (λ i. i.0) left.follows

  sent : g.did.posts ≡ record { to = g.l.from; message = message.StatusIs x inc (state_of (entry_of g.s.durable x)) } ∷ []
  sent = ap (λ i. i.1.posts) left.follows

  over : Over w v g.t (target_after g.s g.new g.memory) g.l g.rest (letters_of (target g.t) g.did.posts)
  over = hears-over number r w v g

  abbrev V : World
  V = listening.V r h w v g.t g.s (target_after g.s g.new g.memory) g.here g.l g.rest (letters_of (target g.t) g.did.posts) over

  begins : Ongoing r h V
  begins = work-begins r h w g.t g.s g.here k

  says : IsStatusRight r h V g.l.from g.l.to x inc
  says = subst (IsSaidSo r h V g.l.from g.l.to) is (begins.letters g.l (has-left w.messages [] g.l (hears-flies number r w v g)))

  other : IsOther r x g.t
  other = subst (IsOther r x) (target-is says.way.member g.t (sym says.way.receiver ∙ g.to_it)) says.way.other

  abbrev reply : Letter
  reply = record { from = target g.t; to = g.l.from; message = message.StatusIs x inc (state_of (entry_of g.s.durable x)) }

  talks : (y : AttemptId) (i m : ℕ) → is_talk r i y m reply ≡ is_talk r i y m g.l
  talks y i m =
      (state-answers r reply x inc (state_of (entry_of g.s.durable x)) refl).talks i y m
      ∙ ap (λ a. is_target (leader_of r y) a && (is_target m (target g.t) && (same_attempt x y && (inc == i)))) says.way.sender
      ∙ way-counted r x y g.t m (inc == i)
      ∙ sym (status-talks r g.l g.t x inc is g.to_it i y m)

  tries : (y : AttemptId) (m : ℕ) → is_try r y m reply ≡ false
  tries y m = neither-counted (prepares_it y) (prepares_in_vain y) (leader_of r y) m reply refl refl

  -- where a member holds nothing of it, it isn't decided
  firm : (y : AttemptId) (i : ℕ) → refuses_for i y (message.StatusIs x inc (state_of (entry_of g.s.durable x))) ≡ true → (e : Epoch) → Decided h y e → ⊥
  firm y i on e d =
      let none = absent-none i y x inc (entry_of g.s.durable x) on in
      let own : Decided h x e = subst (λ a. Decided h a e) (sym (refuses-its i y x inc (state_of (entry_of g.s.durable x)) on)) d in
      let found = ((begins.each x).entries.held_by_others e g.t own other).found in
      let here : entry_at V g.t x ≡ entry_of g.s.durable x = entry-before V v g.t g.s (target_after g.s g.new g.memory) (listening.turned r h w v g.t g.s (target_after g.s g.new g.memory) g.here g.l g.rest (letters_of (target g.t) g.did.posts) over durable) x in
      (let no : ⊥ = cc (found, here, none) in no)

  -- what it says is so
  right : IsStateRight r h v (target g.t) g.l.from x inc (state_of (entry_of g.s.durable x))
  right = record {
    way = record { member = g.t; other = other; sender = refl; receiver = says.way.sender };
    incarnation = let less = says.incarnation in let same : inc_at v (leader_of r x) ≡ inc_at V (leader_of r x) = inc-stays V v g.t g.s (target_after g.s g.new g.memory) turned (leader_of r x) in omega (arith, less, same);
    born = (grows-still r h V v keeps).born x says.born;
    held = by (entry_of g.s.durable x) refl;
  }
    where
      turned : Turned V v g.t g.s (target_after g.s g.new g.memory)
      turned = listening.turned r h w v g.t g.s (target_after g.s g.new g.memory) g.here g.l g.rest (letters_of (target g.t) g.did.posts) over durable

      keeps : KeepsEntries V v
      keeps = listening.over-keeps r h w v g.t g.s (target_after g.s g.new g.memory) g.here g.l g.rest (letters_of (target g.t) g.did.posts) over durable

      by : (o : Option Entry) → entry_of g.s.durable x ≡ o → IsStateTrue h v x g.t (state_of o)
      by None at = tt
      by (Some e) at = holds e.committed
        where
          holds : (b : Bool) → IsStateTrue h v x g.t (if b then state.Committed else state.Prepared)
          holds true = inl (record { entry = e; found = entry-now V v g.t g.s (target_after g.s g.new g.memory) turned x ∙ ap (λ d. entry_of d x) durable ∙ at })
          holds false = inl (record { entry = e; found = entry-now V v g.t g.s (target_after g.s g.new g.memory) turned x ∙ ap (λ d. entry_of d x) durable ∙ at })

  pub status-keeps : Ongoing r h v
  status-keeps =
      listening.ends r h w v g.t g.s (target_after g.s g.new g.memory) g.here g.l g.rest (letters_of (target g.t) g.did.posts) over g.runs refl durable (ap (λ n. n.leader.decided) memory)
      (λ m has. ap (λ n. has_target n.leader.down m) memory ∙ has)
      (λ y. listening.row-same y (row_of undecided_attempt y g.s.memory.leader.undecided) (row_of undecided_attempt y g.memory.leader.undecided) (ap (λ n. row_of undecided_attempt y n.leader.undecided) memory))
      (λ y. listening.swap-falls r h w v g.t g.s (target_after g.s g.new g.memory) g.here g.l g.rest (letters_of (target g.t) g.did.posts) over reply (ap (letters_of (target g.t)) sent) y (talks y) (tries y) (firm y))
      (listening.come-so r h w v g.t g.s (target_after g.s g.new g.memory) g.here g.l g.rest (letters_of (target g.t) g.did.posts) over (λ n i. so n (subst (λ ps. Has n (letters_of (target g.t) ps)) sent i)))
      begins
    where
      so : (n : Letter) → Has n (reply ∷ []) → IsSaidSo r h v n.from n.to n.message
      so n (inl same) = subst (λ q. IsSaidSo r h v q.from q.to q.message) (sym same) right
      so n (inr none) = absurd none

  pub status-prompts : PromptsFly w → PromptsFly v
  status-prompts fly =
      prompts-answered w v (target g.t) (record { to = g.l.from; message = answer }) g.l g.rest g.takes (hears-messages number r w v g ∙ ap (λ ps. g.rest ++ letters_of (target g.t) ps) sent)
      (hears-asked number r w v g ∙ ap (λ ps. asked_after w.asked (letters_of (target g.t) ps)) sent) refl (back-answers g.l g.t answer g.to_it replies) (ap is_prompt_kind is) (ap (λ a. a.client) g.to_it)
      (λ p wide prompt q i on. ap p (answered-same g.l q g.t answer g.to_it on (alike q on))) fly
    where
      replies : is_reply answer g.l.message ≡ true
      replies = ap (is_reply answer) is ∙ both (same_attempt x x) (inc == inc) (same_attempt-itself x) (number-itself inc)

      alike : (q : Letter) → is_answer_to (record { from = target g.t; to = g.l.from; message = answer }) q ≡ true → q.message ≡ g.l.message
      alike q on = let a = answer-is (record { from = target g.t; to = g.l.from; message = answer }) q on in asked-status x inc (state_of (entry_of g.s.durable x)) q.message a.reply ∙ sym is
