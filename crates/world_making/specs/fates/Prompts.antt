-- What targets ask one another for snapshots and aggregations is without an answer as often as it is in flight.
use Rattle.std.specs.Prelude.{ℕ, ◌≡◌, ◌++◌, Bool, true, false, List, [], ◌∷◌, map, find, Option, Some, None, refl, if◌then◌else◌}
use Rattle.std.proofs.Common.{sym, ◌∙◌, ap, subst, inl, inr}
use Rattle.base_types.specs.declared.epoch.Epoch.{Epoch}
use Rattle.base_types.specs.declared.id.AttemptId.{AttemptId}
use Rattle.base_types.specs.declared.id.ContId.{ContId}
use Rattle.base_types.specs.declared.outcome.Outcome.{Outcome}
use Rattle.base_messages.specs.declared.message.Message.{Message, more_of-Message}
use Rattle.base_messages.specs.declared.message.Message.TheVariants as message
use Rattle.base_messages.specs.declared.message.Post.{Post}
use Rattle.daos_model.specs.BoolLaws.{clash}
use Rattle.daos_model.specs.EntryLaws.{same_attempt-itself}
use Rattle.dtx_base.specs.Leading.{to_target}
use Rattle.dtx_base.specs.LeaderLaws.{same-is}
use Rattle.model_laws.specs.Members.{Has, has-from_map}
use Rattle.world_causes.specs.world_commit.attempts.Counting.{has-taken}
use Rattle.world_base.specs.declared.letter.Letter.{Letter}
use Rattle.world_base.specs.declared.target.Collection.{Collection}
use Rattle.world_base.specs.declared.world.World.{World}
use Rattle.world_base.specs.Events.{Rules, TargetHearsBy, kept, target_plan}
use Rattle.world_base.specs.Further.{HearsFurther}
use Rattle.world_base.specs.Letters.{asked_after, is_answer_to, is_answerable, is_reply, letter_of, letters_of, target}
use Rattle.world_base.specs.Snapshots.{freeze_to, is_collection_of, others, prune_to}
use Rattle.world_causes.specs.world_commit.fates.Alike.{answered-same, back-answers}
use Rattle.world_causes.specs.world_commit.fates.Facts.{PromptsFly, is_prompt, is_prompt_kind}
use Rattle.world_causes.specs.world_commit.fates.Prompts.{AreSpoken, IsSpoken, answer-is, client-no_prompt, kind-no_prompt, prompts-answered, prompts-spoken, spoken-speaking, taken-quietly}
use Rattle.world_causes.specs.world_commit.fates.Speaking.{ended-alone, one-spoken}
use Rattle.world_making.specs.makers.Makers.{IsPruneRight, MakersTell}
use Rattle.world_making.specs.making.Making.{AsksAgain, AsksFreezes, AsksPrunes, EndsCollected, EndsIt, IsOfMaking, MakingLeaves, MakingSends, SaysFrozen, SaysNothing, SaysPruned, SaysRefused, asks_making, is_asked_for, is_lost_at, is_told_of}
use Rattle.world_making.specs.making.Turns.{hearings-leave}
use Rattle.world_letters.specs.snapshots.Makings.{AsksSo, IsAggregationOf, IsSnapIn, IsSo, Makings}
use Rattle.world_causes.specs.world_commit.statuses.Turns.{hears-asked, hears-messages}
use Rattle.world_letters.specs.waits.Premises.{RequestsAreOfClients}
use Rattle.world_letters.specs.waits.Requests.{is_request}

-- ---- what is found

found-has : (p : Collection → Bool) (cs : List Collection) (c : Collection) → find p cs ≡ Some c → Has c cs
found-has p [] c e = let no : ⊥ = cc in absurd no
found-has p (n ∷ cs) c e = by (p n) e (found-has p cs c)
  where
    by : (b : Bool) → (if b then Some n else find p cs) ≡ Some c → (find p cs ≡ Some c → Has c cs) → Has c (n ∷ cs)
    by true h rest = inl (let same : n ≡ c = cc in sym same)
    by false h rest = inr (rest h)

-- ---- what asks alike

-- the attempt makes what is asked, and at the epoch that was issued to it
module _ (r : Rules) (is : List (AttemptId × Epoch)) (one : (x : AttemptId) (e f : Epoch) → Has (x, e) is → Has (x, f) is → e ≡ f) where
  abbrev freeze_of : AttemptId → ContId → Epoch → Message
  freeze_of x c s = message.Freeze x c s

  abbrev prune_of : AttemptId → ContId → Epoch → Message
  prune_of x c g = message.Prune x c None (Some g)

  snap-apart : (x : AttemptId) (c d : ContId) → IsSnapIn r x c → IsAggregationOf r x d → ⊥
  snap-apart x c d snap aggregate = let made = snap.1 in let no : ⊥ = cc (made, aggregate) in no

  -- who holds a freeze answers no other question of its attempt
  freeze-alike : (x : AttemptId) (c : ContId) (s : Epoch) (refusal : Option Outcome) (q : Message) → AsksSo r is (message.Freeze x c s) → AsksSo r is q → IsPruneRight q
      → (is_request q ≡ true → ⊥) → is_reply (message.Held x refusal) q ≡ true → q ≡ message.Freeze x c s
  freeze-alike x c s refusal (message.Freeze y d e) own asked right none reply =
      let same : x ≡ y = same-is x y reply in
      let at : s ≡ e = one y s e (subst (λ z. Has (z, s) is) same own.0) asked.0 in
      let made = own.1.1 in
      let made2 = asked.1.1 in
      let conts : c ≡ d = cc (made, made2, same) in
      ap (λ z. freeze_of z d e) (sym same) ∙ ap (λ z. freeze_of x z e) (sym conts) ∙ ap (freeze_of x c) (sym at)
  freeze-alike x c s refusal (message.Prune y d None (Some g)) own asked right none reply =
      let same : x ≡ y = same-is x y reply in absurd (snap-apart y c d (subst (λ z. IsSnapIn r z c) same own.1) asked.1)
  freeze-alike x c s refusal (message.Prune y d (Some tracker) None) own asked right none reply = absurd (none refl)
  freeze-alike x c s refusal (message.Prune y d None None) own asked right none reply = absurd right
  freeze-alike x c s refusal (message.Prune y d (Some tracker) (Some g)) own asked right none reply = absurd right
  freeze-alike x c s refusal q own asked right none reply = let no : ⊥ = cc in absurd no

  prune-alike : (x : AttemptId) (c : ContId) (g : Epoch) (refusal : Option Outcome) (q : Message) → AsksSo r is (message.Prune x c None (Some g)) → AsksSo r is q → IsPruneRight q
      → (is_request q ≡ true → ⊥) → is_reply (message.Held x refusal) q ≡ true → q ≡ message.Prune x c None (Some g)
  prune-alike x c g refusal (message.Freeze y d e) own asked right none reply =
      let same : x ≡ y = same-is x y reply in absurd (snap-apart y d c asked.1 (subst (λ z. IsAggregationOf r z c) same own.1))
  prune-alike x c g refusal (message.Prune y d None (Some f)) own asked right none reply =
      let same : x ≡ y = same-is x y reply in
      let at : g ≡ f = one y g f (subst (λ z. Has (z, g) is) same own.0) asked.0 in
      let made = own.1 in
      let made2 = asked.1 in
      let conts : c ≡ d = cc (made, made2, same) in
      ap (λ z. prune_of z d f) (sym same) ∙ ap (λ z. prune_of x z f) (sym conts) ∙ ap (prune_of x c) (sym at)
  prune-alike x c g refusal (message.Prune y d (Some tracker) None) own asked right none reply = absurd (none refl)
  prune-alike x c g refusal (message.Prune y d None None) own asked right none reply = absurd right
  prune-alike x c g refusal (message.Prune y d (Some tracker) (Some f)) own asked right none reply = absurd right
  prune-alike x c g refusal q own asked right none reply = let no : ⊥ = cc in absurd no

-- ---- a turn

module _ (number : ℕ) (r : Rules) (w v : World) (makings : Makings r w) (makers : MakersTell r w) (requests : RequestsAreOfClients w) (one : (x : AttemptId) (e f : Epoch) → Has (x, e) w.issued → Has (x, f) w.issued → e ≡ f)
    (g : TargetHearsBy (HearsFurther number) r w v) (is : IsOfMaking g.l.message) where
  flies : Has g.l w.messages
  flies = has-taken w.messages g.l g.rest g.takes

  left : MakingLeaves number (target_plan r g.t) g.s.memory g.reading g.l.from g.l.message (kept g.s) g.new (g.memory, g.did)
  left = hearings-leave number (target_plan r g.t) g.s.opening g.s.memory g.reading g.l.from g.l.message (kept g.s) g.new (g.memory, g.did) g.turn is

  -- one that asks, of a client, and one that tells, are no questions of a target's
  abbrev Quiet : Type 0
  Quiet = is_prompt g.l ≡ false

  from-client : (m : Message) → g.l.message ≡ m → is_request m ≡ true → Quiet
  from-client m same request = client-no_prompt g.l ((requests.letters g.l flies).request (ap is_request same ∙ request))

  kind-off : (m : Message) → g.l.message ≡ m → is_prompt_kind m ≡ false → Quiet
  kind-off m same off = kind-no_prompt g.l (ap is_prompt_kind same ∙ off)

  spoken : AreSpoken g.did.posts → Quiet → PromptsFly w → PromptsFly v
  spoken posts quiet fly =
      prompts-spoken w v (target g.t) g.did.posts g.rest (spoken-speaking (target g.t) g.did.posts posts) (hears-messages number r w v g) (hears-asked number r w v g) (taken-quietly w g.l g.rest g.takes quiet) fly

  all-spoken : (to : ℕ → Post) (ts : List ℕ) → ((t : ℕ) → IsSpoken (to t)) → g.did.posts ≡ map to ts → AreSpoken g.did.posts
  all-spoken to ts each all z i = let y = has-from_map to ts z (subst (Has z) all i) in subst IsSpoken y.2 (each y.0)

  asked-quiet : (x : AttemptId) (m : Message) → g.l.message ≡ m → is_asked_for x m → Quiet × (g.l.from.client ≡ true)
  asked-quiet x (message.Snap y c name tracker) same h = (kind-off (message.Snap y c name tracker) same refl, (requests.letters g.l flies).request (ap is_request same))
  asked-quiet x (message.Prune y c (Some tracker) None) same h = (from-client (message.Prune y c (Some tracker) None) same refl, (requests.letters g.l flies).request (ap is_request same))
  asked-quiet x m same h = absurd h

  told-quiet : (x : AttemptId) (m : Message) → g.l.message ≡ m → is_told_of x m → Quiet
  told-quiet x (message.Held y refusal) same h = kind-off (message.Held y refusal) same refl
  told-quiet x (message.Reset' by true place (more_of-Message (message.Freeze y c s) rest)) same h = kind-off (message.Reset' by true place (more_of-Message (message.Freeze y c s) rest)) same refl
  told-quiet x (message.Reset' by true place (more_of-Message (message.Prune y c tracker e) rest)) same h =
      kind-off (message.Reset' by true place (more_of-Message (message.Prune y c tracker e) rest)) same refl
  told-quiet x m same h = absurd h

  lost-quiet : (by : ℕ) (asked m : Message) → g.l.message ≡ m → is_lost_at by m asked → Quiet × (is_answerable asked ≡ true)
  lost-quiet by asked (message.Reset' t false place (more_of-Message (message.Freeze y c s) rest)) same h =
      (kind-off (message.Reset' t false place (more_of-Message (message.Freeze y c s) rest)) same refl, ap is_answerable h.1)
  lost-quiet by asked (message.Reset' t false place (more_of-Message (message.Prune y c tracker e) rest)) same h =
      (kind-off (message.Reset' t false place (more_of-Message (message.Prune y c tracker e) rest)) same refl, ap is_answerable h.1)
  lost-quiet by asked m same h = absurd h

  -- where nothing follows, nothing was asked
  nothing-quiet : (m : Message) → g.l.message ≡ m → IsOfMaking m → asks_making m ≡ None
      → HearsFurther number (target_plan r g.t) g.s.opening g.s.memory g.reading g.l.from m (kept g.s) g.new (g.memory, g.did) → Quiet
  nothing-quiet (message.Snap y c name tracker) same making none turn = kind-off (message.Snap y c name tracker) same refl
  nothing-quiet (message.Held y refusal) same making none turn = kind-off (message.Held y refusal) same refl
  nothing-quiet (message.Reset' by down place more) same making none turn = kind-off (message.Reset' by down place more) same refl
  nothing-quiet (message.Freeze y c s) same making none turn = let no : ⊥ = cc in absurd no
  nothing-quiet (message.Prune y c (Some tracker) None) same making none turn = let no : ⊥ = cc in absurd no
  nothing-quiet (message.Prune y c None (Some e)) same making none turn = let no : ⊥ = cc in absurd no
  nothing-quiet (message.Prune y c None None) same making none turn = absurd turn
  nothing-quiet (message.Prune y c (Some tracker) (Some e)) same making none turn = absurd turn
  nothing-quiet m same making none turn = let no : ⊥ = cc in absurd no

  -- ---- a question of a target is answered

  abbrev held_post : AttemptId → Option Outcome → Post
  held_post x refusal = record { to = g.l.from; message = message.Held x refusal }

  held-prompts : (x : AttemptId) (refusal : Option Outcome) (m : Message) → g.l.message ≡ m → is_reply (message.Held x refusal) m ≡ true → is_prompt_kind m ≡ true
      → ((q : Message) → AsksSo r w.issued q → IsPruneRight q → (is_request q ≡ true → ⊥) → is_reply (message.Held x refusal) q ≡ true → q ≡ m)
      → g.did.posts ≡ held_post x refusal ∷ [] → PromptsFly w → PromptsFly v
  held-prompts x refusal m same reply kind alike sent fly =
      prompts-answered w v (target g.t) (held_post x refusal) g.l g.rest g.takes (hears-messages number r w v g ∙ ap (λ ps. g.rest ++ letters_of (target g.t) ps) sent)
      (hears-asked number r w v g ∙ ap (λ ps. asked_after w.asked (letters_of (target g.t) ps)) sent) refl (back-answers g.l g.t (message.Held x refusal) g.to_it (ap (is_reply (message.Held x refusal)) same ∙ reply)) (ap is_prompt_kind same ∙ kind)
      (ap (λ a. a.client) g.to_it) (λ p wide prompt q i on. ap p (answered-same g.l q g.t (message.Held x refusal) g.to_it on (like q i prompt on ∙ sym same))) fly
    where
      like : (q : Letter) → Has q w.asked → is_prompt g.l ≡ true → is_answer_to (letter_of (target g.t) (held_post x refusal)) q ≡ true → q.message ≡ m
      like q i prompt on =
          let a = answer-is (letter_of (target g.t) (held_post x refusal)) q on in
          alike q.message (makings.asked q i) (makers.asked q i) (λ request. clash (is_prompt g.l) prompt (client-no_prompt g.l (ap (λ b. b.client) a.receiver ∙ (requests.asked q i).request request))) a.reply

  freeze-prompts : (x : AttemptId) (c : ContId) (s : Epoch) (refusal : Option Outcome) → g.l.message ≡ message.Freeze x c s → g.did.posts ≡ held_post x refusal ∷ [] → PromptsFly w → PromptsFly v
  freeze-prompts x c s refusal same =
      held-prompts x refusal (message.Freeze x c s) same (same_attempt-itself x) refl (λ q. freeze-alike r w.issued one x c s refusal q (subst (IsSo r w.issued) same (makings.letters g.l flies)))

  prune-prompts : (x : AttemptId) (c : ContId) (e : Epoch) (refusal : Option Outcome) → g.l.message ≡ message.Prune x c None (Some e) → g.did.posts ≡ held_post x refusal ∷ [] → PromptsFly w → PromptsFly v
  prune-prompts x c e refusal same =
      held-prompts x refusal (message.Prune x c None (Some e)) same (same_attempt-itself x) refl (λ q. prune-alike r w.issued one x c e refusal q (subst (IsSo r w.issued) same (makings.letters g.l flies)))

  -- ---- all that is sent

  by-sends : MakingSends (target_plan r g.t) g.s.memory g.l.from g.l.message g.new.durable g.did.posts → PromptsFly w → PromptsFly v
  by-sends (AsksFreezes x c name tracker s same frozen all) =
      spoken (all-spoken (freeze_to x c s) (others (target_plan r g.t)) (λ t. inl refl) all) (kind-off (message.Snap x c name tracker) same refl)
  by-sends (AsksPrunes x c tracker e same all) = spoken (all-spoken (prune_to x c e) (others (target_plan r g.t)) (λ t. inl refl) all) (from-client (message.Prune x c (Some tracker) None) same refl)
  by-sends (SaysFrozen x c s same frozen sent) = freeze-prompts x c s None same sent
  by-sends (SaysRefused x c s how same why sent) = freeze-prompts x c s (Some how) same sent
  by-sends (SaysPruned x c e same sent) = prune-prompts x c e None same sent
  by-sends (EndsIt x own how asked sent) = let z = asked-quiet x g.l.message refl asked in spoken (subst AreSpoken (sym sent) (ended-alone g.l.from x own how z.1)) z.0
  by-sends (EndsCollected x c how told found sent) =
      spoken (subst AreSpoken (sym sent) (ended-alone c.client x (Some c.epoch) how ((requests.waiters g.t g.s g.here).collecting c (found-has (is_collection_of x) g.s.memory.collecting c found)))) (told-quiet x g.l.message refl told)
  by-sends (AsksAgain by asked lost sent) = let z = lost-quiet by asked g.l.message refl lost in spoken (subst AreSpoken (sym sent) (one-spoken (to_target by asked) (inl z.1))) z.0
  by-sends (SaysNothing unasked sent) = spoken (subst AreSpoken (sym sent) (λ z i. absurd i)) (nothing-quiet g.l.message refl is unasked g.turn)

  pub making-prompts : PromptsFly w → PromptsFly v
  making-prompts = by-sends left.ends.sends
