-- What lines tell of answers and conditions fits, whatever turns follow one another.
use Rattle.target_core.specs.target_snaps.Following.{TellsNoAttempt}
use Rattle.std.specs.Prelude.{ℕ, zero, suc, ◌≡◌, ◌≤◌, ◌+◌, ◌++◌, Bool, true, false, All, List, [], ◌∷◌, filter, map, slice_get, slice_set, Option, Some, None, Result, Ok, Err, IfOk, is_ok, ◌==◌, refl, if◌then◌else◌}
use Rattle.std.proofs.Common.{inl, inr, sym, ◌∙◌, ap, subst, arith}
use Rattle.std.proofs.lemmas.Bool.{cases_eq}
use Rattle.std.proofs.lemmas.List.Elements.{All-append, All-map, All-nil, All-weaker}
use Rattle.base_types.specs.declared.epoch.Epoch.{Epoch}
use Rattle.base_types.specs.declared.id.AttemptId.{AttemptId}
use Rattle.base_types.specs.declared.operation.Read.{Read}
use Rattle.base_types.specs.declared.report.Attempt.{Attempt}
use Rattle.base_types.specs.declared.report.Line.{Line}
use Rattle.base_types.specs.declared.report.Line.TheVariants as line
use Rattle.base_types.specs.declared.script.Command.{Command}
use Rattle.base_types.specs.declared.script.Script.{Script}
use Rattle.base_messages.specs.declared.actor.ActorId.{ActorId}
use Rattle.base_messages.specs.declared.message.Post.{Post}
use Rattle.client_core.specs.Clients.{ClientNow}
use Rattle.daos_model.specs.declared.durable.Durable.{Durable}
use Rattle.daos_model.specs.Attempts.{tries}
use Rattle.daos_model.specs.Laws.{tries-append}
use Rattle.daos_model.specs.Transactions.{attempt_ops, command_of, numbered, numbered_at, ops_or_none}
use Rattle.dtx_base.specs.declared.member.MemberMemory.{MemberMemory}
use Rattle.run_base.specs.Letters.{BetweenNow, IsPicked}
use Rattle.run_base.specs.Sweeps.{is_left_by, is_lost_by}
use Rattle.run_laws.specs.shows.InTurn.{TellInTurn}
use Rattle.run_laws.specs.shows.InTurnLaws.{client-tells, line-alone, none-tried, one-line, quietly, turned-lines}
use Rattle.run_laws.specs.shows.Kinds.{AnswersGoOn, TurnsOnce, loads_of, waiting_load, waiting_loads}
use Rattle.run_laws.specs.shows.Stages.{IsPlace, StageNow}
use Rattle.run_laws.specs.shows.Steps.{ClientTurned, ClientWorks, Cut, HeardOne, NotOpened, Opened, OpeningEnds, Reopened, TargetTurned, WentOn, Whole, WorkEnds, Worked}
use Rattle.run_laws.specs.shows.Turned.{AfterFailure, AfterStop, ByForeign, ByHearing, ByIdling, ByStop, Failed, IsTurned, LastTime, NotFailed, failed_stage, followed, given_up_stage, stopped_stage, swept_between, swept_stage, with_between, with_client_at, with_target_at}
use Rattle.run_watch.specs.Watches.{WatchNow, after_fault, fuse_set, opened_again, opening_tried}
use Rattle.target_core.specs.Targets.{TargetOf}
use Rattle.run_opening.specs.target_parts.declared.stop.TargetStop.{TargetStop}
use Rattle.target_core.specs.target_resync.Openings.{TellsRestart}
use Rattle.vos_store.specs.Calls.{State}
use Rattle.world_letters.specs.kinds.PostLaws.{CarryNone}
use Rattle.world_base.specs.declared.did.Did.{Did}
use Rattle.world_base.specs.declared.letter.Letter.{Letter}
use Rattle.world_base.specs.declared.target.Life.{Life}
use Rattle.world_base.specs.declared.target.Life.TheVariants.{Down, Running, Stopped}
use Rattle.world_base.specs.ClientTurns.{HearTurn, NextTurn}
use Rattle.world_base.specs.Events.{Rules, client_plan, commands_or_none, with_epoch}
use Rattle.world_base.specs.Letters.{client, letter_of, letters_of, target}
use Rattle.world_base.specs.StepLaws.{set-is, set-there}
use Rattle.world_base.specs.Stops.{is_not_to, is_to, reset_letter, resets, stops_so_far}
use Rattle.world_letters.specs.clients.Answered.{ops_numbered}
use Rattle.world_letters.specs.clients.Standing.{HasTold}
use Rattle.world_letters.specs.kinds.Fitting.{AllAnswersFit, AnswersFit, AreOfOps, IsFittingClient, IsFittingOf, LeavesFitting, Loads, with_posts}
use Rattle.world_letters.specs.kinds.FittingLaws.{AreAlike, AreLess, AreLessOf, clients-begin-fitting, fitting-less, fitting-less-of, hear-turn-fits, next-turn-fits}
use Rattle.world_letters.specs.kinds.Loads.{AnswersOnce, letter_load, load, parked_load, post_load, total}
use Rattle.world_letters.specs.kinds.LoadLaws.{none-alike, total-alike, total-append, total-filter, total-map, total-none, total-split}
use Rattle.world_letters.specs.lines.FilledLaws.{tries-filled}
use Rattle.world_letters.specs.lines.Lines.{filled}

-- ---- lines

-- what is filled in of an attempt is its epoch
fits-filled : (s : Rules) (issued : List (AttemptId × Epoch)) (as' : List Attempt) → All (AnswersFit s.script) as' → All (AnswersFit s.script) (map (filled issued) as')
fits-filled s issued as' k = All-map (AnswersFit s.script) (filled issued) as' (All-weaker (AnswersFit s.script) (λ a. AnswersFit s.script (filled issued a)) (λ a fits. record { conditions = fits.conditions; answers = fits.answers }) as' k)

lines-more : (s : Rules) (issued : List (AttemptId × Epoch)) (ls more : List Line) → AllAnswersFit s.script ls → All (AnswersFit s.script) (tries more) → AllAnswersFit s.script (ls ++ map (with_epoch issued) more)
lines-more s issued ls more k l =
    subst (All (AnswersFit s.script)) (sym (tries-append ls (map (with_epoch issued) more)))
    (All-append (AnswersFit s.script) (tries ls) (tries (map (with_epoch issued) more)) k (subst (All (AnswersFit s.script)) (sym (tries-filled issued more)) (fits-filled s issued (tries more) l)))

-- a client's attempts are those of the script
ops-of : (o : Option (List Command)) (n : ℕ) → ops_or_none (slice_get (numbered (commands_or_none o)) n) ≡ ops_or_none (numbered_at n o)
ops-of None n = refl
ops-of (Some list) n = refl

pub script-ops : (r : Rules) (n : ℕ) (a : Attempt) → a.id.client ≡ n → ops_numbered (client_plan r n) a.id.command ≡ attempt_ops r.script a.id
unfolding command_of
script-ops r n a own = ops-of (slice_get r.script.clients n) a.id.command ∙ ap (λ m. ops_or_none (numbered_at a.id.command (slice_get r.script.clients m))) (sym own)

fits-script : (r : Rules) (n : ℕ) (a : Attempt) → IsFittingOf (client_plan r n) a → AnswersFit r.script a
fits-script r n a k = subst (λ ops. AreOfOps ops a.conds a.gots) (script-ops r n a k.own) k.fits

all-fit-script : (r : Rules) (n : ℕ) (as' : List Attempt) → All (IsFittingOf (client_plan r n)) as' → All (AnswersFit r.script) as'
all-fit-script r n as' k = All-weaker (IsFittingOf (client_plan r n)) (AnswersFit r.script) (fits-script r n) as' k

-- ---- letters

reset-carries : (down : Bool) (x : AttemptId) (r : Read) (l : Letter) → letter_load x r (reset_letter down l) ≡ 0
unfolding load
reset-carries down x r l = refl

-- letters that are left, and what tells of those that are lost
swept-less : (lives : List Life) (b : BetweenNow) (x : AttemptId) (r : Read) → total (letter_load x r) (swept_between lives b).messages ≤ total (letter_load x r) b.messages
swept-less lives b x r =
    let left = total-filter (letter_load x r) (is_left_by lives) (b.messages ++ map (reset_letter true) (filter (is_lost_by lives) b.asked)) in
    let all = total-append (letter_load x r) b.messages (map (reset_letter true) (filter (is_lost_by lives) b.asked)) in
    let none = total-map (letter_load x r) (reset_letter true) (filter (is_lost_by lives) b.asked) ∙ total-none (λ l. letter_load x r (reset_letter true l)) (filter (is_lost_by lives) b.asked) (reset-carries true x r) in
    omega (arith, left, all, none)

-- what is posted goes about
posted : (from : ActorId) (posts : List Post) (x : AttemptId) (r : Read) → total (letter_load x r) (letters_of from posts) ≡ total (post_load x r) posts
posted from posts x r = total-map (letter_load x r) (letter_of from) posts

-- what carries nothing of one read of an attempt carries nothing of another
letters-alike : (ls : List Letter) (x : AttemptId) (r s : Read) → total (letter_load x r) ls ≡ 0 → total (letter_load x s) ls ≡ 0
letters-alike ls x r s none = total-alike (letter_load x r) (letter_load x s) ls (λ l. none-alike x r s l.message) none

waiting-alike : {S C : Type 0} (lives : List Life) (ts : List (TargetOf S C)) (x : AttemptId) (r s : Read) → waiting_loads x r lives ts ≡ 0 → waiting_loads x s lives ts ≡ 0
waiting-alike [] ts x r s none = refl
waiting-alike (l ∷ ls) [] x r s none = refl
waiting-alike (l ∷ ls) (t ∷ ts) x r s none =
    let here = one l (omega (arith, none)) in let rest = waiting-alike ls ts x r s (omega (arith, none)) in omega (arith, here, rest)
  where
    one : (l : Life) → waiting_load x r l t ≡ 0 → waiting_load x s l t ≡ 0
    one Running k = total-alike (parked_load x r) (parked_load x s) t.memory.member.parked (λ p. none-alike x r s p.ask) k
    one Stopped k = refl
    one Down k = refl

-- ---- a client's turn

module _ {S C : Type 0} (r : Rules) (n : ℕ) (c d : ClientNow) (did : Did) (left : BetweenNow) (a : StageNow S C) (here : slice_get a.clients n ≡ Some c) (lines : left.lines ≡ a.between.lines)
    (less : AreLess (loads_of (with_between left a)) (loads_of a)) (turn : LeavesFitting (client_plan r n) (loads_of (with_between left a)) d.state did.posts (tries did.lines)) (k : AnswersGoOn r a) where
  abbrev now : StageNow S C
  now = swept_stage (with_between (followed (client n) did left) (with_client_at n d a))

  -- no more goes about than was left, and what was posted
  now-less : AreLess (loads_of now) (with_posts did.posts (loads_of (with_between left a)))
  now-less x s =
      let swept = swept-less a.watch.lives (followed (client n) did left) x s in
      let all = total-append (letter_load x s) left.messages (letters_of (client n) did.posts) in
      let its = posted (client n) did.posts x s in
      omega (arith, swept, all, its)

  others : (m : ℕ) → (m ≡ n → ⊥) → AreLessOf m (loads_of now) (loads_of a)
  others m apart x own s =
      let low = now-less x s in
      let none = turn.own x (λ same. apart (sym own ∙ same)) s in
      let before = less x s in
      omega (arith, low, none, before)

  client-fits : TellInTurn r now → AnswersGoOn r now
  client-fits told = record {
    in_turn = told;
    clients = λ m x at. elim (cases_eq m n) [
      | inl same ↦ subst (λ q. IsFittingClient (client_plan r q) x.state (loads_of now)) (sym same)
          (subst (λ z. IsFittingClient (client_plan r n) z.state (loads_of now)) (it-is m x same at) (fitting-less (client_plan r n) d.state (loads_of now) (with_posts did.posts (loads_of (with_between left a))) now-less turn.client))
      | inr apart ↦ fitting-less-of (client_plan r m) x.state (loads_of now) (loads_of a) (others m apart) (k.clients m x (sym (set-there a.clients n m d apart) ∙ at))
    ];
    lines = lines-more r left.issued left.lines did.lines (subst (AllAnswersFit r.script) (sym lines) k.lines) (all-fit-script r n (tries did.lines) turn.told);
  }
    where
      it-is : (m : ℕ) (x : ClientNow) → m ≡ n → slice_get (slice_set a.clients n d) m ≡ Some x → d ≡ x
      it-is m x same at = set-is a.clients n d x (subst (λ q. slice_get (slice_set a.clients n d) q ≡ Some x) same at)

-- a letter that was picked went about before
pub picked-load : {S C : Type 0} (a : StageNow S C) (to : ActorId) (number : ℕ) (l : Letter) (rest : List Letter) (left : BetweenNow) → IsPicked a.between.messages to number l rest → left ≡ record a.between { messages = rest } → (x : AttemptId) (s : Read)
    → loads_of a x s ≡ load x s l.message + loads_of (with_between left a) x s
picked-load a to number l rest left k is x s =
    let split = ap (total (letter_load x s)) k.among ∙ total-split (letter_load x s) k.before k.after l in
    let others : total (letter_load x s) left.messages ≡ total (letter_load x s) (k.before ++ k.after) = ap (λ b. total (letter_load x s) b.messages) is ∙ ap (total (letter_load x s)) k.left in
    omega (arith, split, others)

loads-alike : {S C : Type 0} (a : StageNow S C) → AreAlike (loads_of a)
loads-alike a x r s none =
    let letters = letters-alike a.between.messages x r s (omega (arith, none)) in
    let waiting = waiting-alike a.watch.lives a.targets x r s (omega (arith, none)) in
    omega (arith, letters, waiting)

-- a client's turn goes on so
pub client-goes-on : {S C : Type 0} (r : Rules) (n number : ℕ) (a b : StageNow S C) → ClientTurned n number a b → AnswersGoOn r a → AnswersGoOn r b
client-goes-on r n number a b k t = by k.works
  where
    its : k.before.plan ≡ client_plan r n
    its = t.in_turn.plans n k.before k.here

    told : HasTold (client_plan r n) k.before.state (t.in_turn.told n k.before k.here).attempts
    told = (t.in_turn.told n k.before k.here).told

    tells : TellInTurn r (swept_stage (with_between (followed (client n) k.did k.left) (with_client_at n k.now a)))
    tells = subst (TellInTurn r) k.after (client-tells r n number a b k t.in_turn)

    by : ClientWorks n number k.before k.now a.between k.left k.did → AnswersGoOn r b
    by (HeardOne l rest awake picked is turn) =
        let before = picked-load a (client n) number l rest k.left picked is in
        subst (AnswersGoOn r) (sym k.after)
        (client-fits r n k.before k.now k.did k.left a k.here (ap (λ q. q.lines) is) (λ x s. let all = before x s in omega (arith, all))
        (hear-turn-fits (client_plan r n) k.before.state k.now.state (t.in_turn.told n k.before k.here).attempts (loads_of a) (loads_of (with_between k.left a)) l.message k.did t.in_turn.some_attempt told (t.clients n k.before k.here) before (loads-alike (with_between k.left a))
        (subst (λ p. HearTurn p k.before.state l.message k.did k.now.state) its turn)) t tells)
    by (WentOn none is turn) =
        subst (AnswersGoOn r) (sym k.after)
        (client-fits r n k.before k.now k.did k.left a k.here (ap (λ q. q.lines) is) (λ x s. subst (λ q. loads_of (with_between q a) x s ≤ loads_of a x s) (sym is) (omega arith))
        (subst (λ q. LeavesFitting (client_plan r n) (loads_of (with_between q a)) k.now.state k.did.posts (tries k.did.lines)) (sym is)
        (next-turn-fits (client_plan r n) k.before.state k.now.state (t.in_turn.told n k.before k.here).attempts (loads_of a) k.did t.in_turn.some_attempt told (t.clients n k.before k.here) (subst (λ p. NextTurn p k.before.state k.did k.now.state) its turn))) t tells)

-- ---- what waits at targets

set-both : {S C : Type 0} (x : AttemptId) (r : Read) (ls : List Life) (ts : List (TargetOf S C)) (t : ℕ) (l : Life) (y : TargetOf S C) → waiting_load x r l y ≡ 0 → waiting_loads x r (slice_set ls t l) (slice_set ts t y) ≤ waiting_loads x r ls ts
set-both x r [] ts t l y none = omega arith
set-both x r (m ∷ ls) [] zero l y none = omega arith
set-both x r (m ∷ ls) [] (suc t) l y none = omega arith
set-both x r (m ∷ ls) (u ∷ ts) zero l y none = omega (arith, none)
set-both x r (m ∷ ls) (u ∷ ts) (suc t) l y none = let rest = set-both x r ls ts t l y none in omega (arith, rest)

set-life : {S C : Type 0} (x : AttemptId) (r : Read) (ls : List Life) (ts : List (TargetOf S C)) (t : ℕ) (l : Life) → ((y : TargetOf S C) → waiting_load x r l y ≡ 0) → waiting_loads x r (slice_set ls t l) ts ≤ waiting_loads x r ls ts
set-life x r [] ts t l none = omega arith
set-life x r (m ∷ ls) [] zero l none = omega arith
set-life x r (m ∷ ls) [] (suc t) l none = omega arith
set-life x r (m ∷ ls) (u ∷ ts) zero l none = let here = none u in omega (arith, here)
set-life x r (m ∷ ls) (u ∷ ts) (suc t) l none = let rest = set-life x r ls ts t l none in omega (arith, rest)

set-idle : {S C : Type 0} (x : AttemptId) (r : Read) (ls : List Life) (ts : List (TargetOf S C)) (t : ℕ) (l : Life) (y : TargetOf S C) → slice_get ls t ≡ Some l → waiting_load x r l y ≡ 0 → waiting_loads x r ls (slice_set ts t y) ≤ waiting_loads x r ls ts
set-idle x r [] ts t l y at none = let no : ⊥ = cc in absurd no
set-idle x r (m ∷ ls) [] zero l y at none = omega arith
set-idle x r (m ∷ ls) [] (suc t) l y at none = omega arith
set-idle x r (m ∷ ls) (u ∷ ts) zero l y at none =
    let same : m ≡ l = cc in
    let here : waiting_load x r m y ≡ 0 = ap (λ k. waiting_load x r k y) same ∙ none in
    omega (arith, here)
set-idle x r (m ∷ ls) (u ∷ ts) (suc t) l y at none = let rest = set-idle x r ls ts t l y at none in omega (arith, rest)

set-running : {S C : Type 0} (x : AttemptId) (r : Read) (ls : List Life) (ts : List (TargetOf S C)) (t : ℕ) (old y : TargetOf S C) → slice_get ls t ≡ Some Running → slice_get ts t ≡ Some old
    → waiting_loads x r ls (slice_set ts t y) + total (parked_load x r) old.memory.member.parked ≡ waiting_loads x r ls ts + total (parked_load x r) y.memory.member.parked
set-running x r [] ts t old y at here = let no : ⊥ = cc in absurd no
set-running x r (m ∷ ls) [] t old y at here = let no : ⊥ = cc in absurd no
set-running x r (m ∷ ls) (u ∷ ts) zero old y at here =
    let life : m ≡ Running = cc in
    let same : u ≡ old = cc in
    let new : waiting_load x r m y ≡ total (parked_load x r) y.memory.member.parked = ap (λ k. waiting_load x r k y) life in
    let before : waiting_load x r m u ≡ total (parked_load x r) old.memory.member.parked = ap (λ k. waiting_load x r k u) life ∙ ap (λ z. total (parked_load x r) z.memory.member.parked) same in
    omega (arith, new, before)
set-running x r (m ∷ ls) (u ∷ ts) (suc t) old y at here = let rest = set-running x r ls ts t old y at here in omega (arith, rest)

-- ---- a turn in which no attempt is told of

quietly-goes : {S C : Type 0} (r : Rules) (a b : StageNow S C) → b.clients ≡ a.clients → tries b.between.lines ≡ tries a.between.lines → AreLess (loads_of b) (loads_of a) → AnswersGoOn r a → AnswersGoOn r b
quietly-goes r a b clients lines less k = record {
  in_turn = quietly r a b clients lines k.in_turn;
  clients = λ n c at. fitting-less (client_plan r n) c.state (loads_of b) (loads_of a) less (k.clients n c (ap (λ cs. slice_get cs n) (sym clients) ∙ at));
  lines = subst (All (AnswersFit r.script)) (sym lines) k.lines;
}

-- letters that are lost, and what tells of them
lost-less : (t : ℕ) (down : Bool) (b : BetweenNow) (x : AttemptId) (r : Read) → total (letter_load x r) (filter (is_not_to t) b.messages ++ resets t down b.asked) ≤ total (letter_load x r) b.messages
lost-less t down b x r =
    let left = total-filter (letter_load x r) (is_not_to t) b.messages in
    let all = total-append (letter_load x r) (filter (is_not_to t) b.messages) (resets t down b.asked) in
    let none = total-map (letter_load x r) (reset_letter down) (filter (is_to t) b.asked) ∙ total-none (λ l. letter_load x r (reset_letter down l)) (filter (is_to t) b.asked) (reset-carries down x r) in
    omega (arith, left, all, none)

swept-loads : {S C : Type 0} (a : StageNow S C) → AreLess (loads_of (swept_stage a)) (loads_of a)
swept-loads a x s = let less = swept-less a.watch.lives a.between x s in omega (arith, less)

given-up-loads : {S C : Type 0} (t : ℕ) (a : StageNow S C) → AreLess (loads_of (given_up_stage t a)) (loads_of a)
given-up-loads t a x s =
    let letters = lost-less t true a.between x s in
    let waiting = set-life x s a.watch.lives a.targets t Down (λ y. refl) in
    omega (arith, letters, waiting)

less-then : (u v w : Loads) → AreLess u v → AreLess v w → AreLess u w
less-then u v w first then' x r = let a = first x r in let b = then' x r in omega (arith, a, b)

pub fault-lives : (t n : ℕ) (w : WatchNow) → (after_fault t n w).lives ≡ w.lives
fault-lives t n w = by (n == 8)
  where
    by : (b : Bool) → (if b then w else record w { faults = slice_set w.faults t (n + 1) }).lives ≡ w.lives
    by true = refl
    by false = refl

failed-loads : {S C : Type 0} (t n : ℕ) (a : StageNow S C) → AreLess (loads_of (failed_stage t n a)) (loads_of a)
failed-loads t n a x s = let same : waiting_loads x s (after_fault t n a.watch).lives a.targets ≡ waiting_loads x s a.watch.lives a.targets = ap (λ ls. waiting_loads x s ls a.targets) (fault-lives t n a.watch) in omega (arith, same)

-- what comes of a store's stop
after-stop-goes : {S C : Type 0} (r : Rules) (t before now : ℕ) (a b : StageNow S C) → AfterStop t before now a b → AnswersGoOn r a → AnswersGoOn r b
after-stop-goes r t before now a b (NotFailed less same) k = subst (AnswersGoOn r) (sym same) k
after-stop-goes r t before now a b (Failed more n at few same) k = subst (AnswersGoOn r) (sym same) (quietly-goes r a (failed_stage t n a) refl refl (failed-loads t n a) k)
after-stop-goes r t before now a b (LastTime more at same) k =
    subst (AnswersGoOn r) (sym same)
    (quietly-goes r a (swept_stage (given_up_stage t a)) refl (one-line a.between.lines (line.Down t) refl)
    (less-then (loads_of (swept_stage (given_up_stage t a))) (loads_of (given_up_stage t a)) (loads_of a) (swept-loads (given_up_stage t a)) (given-up-loads t a)) k)

module _ {S C : Type 0} (durable : S → Option Durable) (state : S → State) (may : S → Durable → Type 0) (r : Rules) (a b : StageNow S C) (t : ℕ) where
  -- what a target heard is no more in flight
  turned-letters : (settling : Bool) (number : ℕ) (x y : TargetOf S C) (left : BetweenNow) (result : Result Did TargetStop) → IsTurned durable state may settling t number x y a.between left result → AreLess (loads_of (with_between left a)) (loads_of a)
  turned-letters settling number x y left result (ByHearing l rest reading picked is few turn) u s = let all = picked-load a (target t) number l rest left picked is u s in omega (arith, all)
  turned-letters settling number x y left result (ByIdling none is turn) u s = subst (λ q. loads_of (with_between q a) u s ≤ loads_of a u s) (sym is) (omega arith)

  work-goes : (x y : TargetOf S C) (left : BetweenNow) (result : Result Did TargetStop) → IsPlace a t x Running → left.lines ≡ a.between.lines → AreLess (loads_of (with_between left a)) (loads_of a) → TellsNoAttempt result
      → IfOk result (TurnsOnce a.between left x.memory.member y.memory.member) → WorkEnds durable state may t x y left a b result → AnswersGoOn r a → AnswersGoOn r b
  work-goes x y left result place lines less told once (Whole did is after) k =
      let none : tries did.lines ≡ [] = subst TellsNoAttempt is told in
      let now = with_between (followed (target t) did left) (with_target_at t y a) in
      let once-here : TurnsOnce a.between left x.memory.member y.memory.member did = subst (λ q. IfOk q (TurnsOnce a.between left x.memory.member y.memory.member)) is once in
      subst (AnswersGoOn r) (sym after)
      (quietly-goes r a (swept_stage now) refl (none-tried left.issued left.lines did.lines none ∙ ap tries lines)
      (λ u s.
      let swept = swept-loads now u s in
      let all = total-append (letter_load u s) left.messages (letters_of (target t) did.posts) in
      let its = posted (target t) did.posts u s in
      let turn = once-here u s in
      let waiting = set-running u s a.watch.lives a.targets t x y place.stands place.there in
      omega (arith, swept, all, its, turn, waiting)) k)
  work-goes x y left result place lines less told once (Cut stop is after) k =
      let none : tries after.lines ≡ [] = subst TellsNoAttempt (is ∙ ap Err after.cut) told in
      let now = with_between left (with_target_at t y a) in
      after-stop-goes r t _ _ _ b after.after
      (quietly-goes r a (swept_stage (stopped_stage t after.issued after.lines now)) refl (line-alone left.lines after.lines (line.Stop (stops_so_far left.lines) t) none refl ∙ ap tries lines)
      (λ u s.
      let swept = swept-loads (stopped_stage t after.issued after.lines now) u s in
      let letters = lost-less t false left u s in
      let waiting = set-both u s a.watch.lives a.targets t Stopped y refl in
      let before = less u s in
      omega (arith, swept, letters, waiting, before)) k)

  opening-goes : (x y : TargetOf S C) (result : Result Did TargetStop) → IsPlace a t x Stopped → IfOk result (TellsRestart a.watch.restarts x.plan.me) → IfOk result (λ did. CarryNone did.posts) → (is_ok result ≡ true → y.memory.member.parked ≡ [])
      → OpeningEnds durable state may t x y (record a { targets = slice_set a.targets t y; watch = opening_tried a.watch }) b result → AnswersGoOn r a → AnswersGoOn r b
  opening-goes x y result place line_is quiet fresh (Opened did is after) k =
      let tells = subst (λ q. IfOk q (TellsRestart a.watch.restarts x.plan.me)) is line_is in
      let none : CarryNone did.posts = subst (λ q. IfOk q (λ did. CarryNone did.posts)) is quiet in
      let empty : after.armed.memory.member.parked ≡ [] = ap (λ m. m.member.parked) after.fuse.memory ∙ fresh (ap is_ok is) in
      let here : StageNow S C = record a { targets = slice_set a.targets t y; watch = opening_tried a.watch } in
      let now : StageNow S C = record here { targets = slice_set here.targets t after.armed; watch = opened_again t (fuse_set t here.watch); between = followed (target t) did here.between } in
      subst (AnswersGoOn r) (sym after.after)
      (quietly-goes r a (swept_stage now) refl
      (ap (λ ls. tries (a.between.lines ++ map (with_epoch a.between.issued) ls)) tells.2 ∙ one-line a.between.lines (line.Restart a.watch.restarts x.plan.me tells.0 tells.1) refl)
      (λ u s.
      let swept = swept-loads now u s in
      let all = total-append (letter_load u s) a.between.messages (letters_of (target t) did.posts) in
      let its = posted (target t) did.posts u s in
      let nothing = none u s in
      let idle = set-idle u s a.watch.lives a.targets t Stopped y place.stands refl in
      let runs = set-both u s a.watch.lives (slice_set a.targets t y) t Running after.armed (ap (total (parked_load u s)) empty) in
      omega (arith, swept, all, its, nothing, idle, runs)) k)
  opening-goes x y result place line_is quiet fresh (NotOpened stop is after) k = by after
    where
      here : StageNow S C
      here = record a { targets = slice_set a.targets t y; watch = opening_tried a.watch }

      same : AnswersGoOn r here
      same = quietly-goes r a here refl refl (λ u s. let idle = set-idle u s a.watch.lives a.targets t Stopped y place.stands refl in omega (arith, idle)) k

      by : AfterFailure t (state x.store).faults (state y.store).faults stop here b → AnswersGoOn r b
      by (ByStop issued lines why stopped) = after-stop-goes r t _ _ here b stopped same
      by (ByForeign at byte why given_up) =
          subst (AnswersGoOn r) (sym given_up)
          (quietly-goes r here (swept_stage (given_up_stage t here)) refl (one-line a.between.lines (line.Down t) refl)
          (less-then (loads_of (swept_stage (given_up_stage t here))) (loads_of (given_up_stage t here)) (loads_of here) (swept-loads (given_up_stage t here)) (given-up-loads t here)) same)

  -- a target's turn goes on so
  pub target-goes-on : (is_read : C → C → Type 0) (next_reading : C → Option ℕ) (settling : Bool) (number : ℕ) → TargetTurned durable state may is_read next_reading settling t number a b → AnswersGoOn r a → AnswersGoOn r b
  target-goes-on is_read next_reading settling number (Worked k) =
      work-goes k.work.before k.work.now k.work.left k.work.result k.work.place (turned-lines durable state may r a b t settling number k.work.before k.work.now k.work.left k.work.result k.work.came.turned)
      (turned-letters settling number k.work.before k.work.now k.work.left k.work.result k.work.came.turned) k.work.told k.work.once k.ends
  target-goes-on is_read next_reading settling number (Reopened k) = opening-goes k.was.before k.was.now k.was.result k.was.place k.was.line k.was.reads k.was.fresh k.ends

-- ---- before any turn, and at the end

waits-first : {S C : Type 0} (x : AttemptId) (r : Read) (ls : List Life) (ts : List (TargetOf S C)) → ((t : ℕ) (y : TargetOf S C) → slice_get ts t ≡ Some y → y.memory.member.parked ≡ []) → waiting_loads x r ls ts ≡ 0
waits-first x r [] ts none = refl
waits-first x r (l ∷ ls) [] none = refl
waits-first x r (l ∷ ls) (t ∷ ts) none =
    let here = one l in let rest = waits-first x r ls ts (λ n y at. none (suc n) y at) in omega (arith, here, rest)
  where
    one : (l : Life) → waiting_load x r l t ≡ 0
    one Running = ap (total (parked_load x r)) (none 0 t refl)
    one Stopped = refl
    one Down = refl

none-told : (s : Script) → AllAnswersFit s []
unfolding tries
none-told s = All-nil (AnswersFit s)

-- nothing goes about yet
pub answers-first : {S C : Type 0} (r : Rules) (a : StageNow S C) → TellInTurn r a → ((n : ℕ) (c : ClientNow) → slice_get a.clients n ≡ Some c → c.state.present ≡ None) → ((t : ℕ) (y : TargetOf S C) → slice_get a.targets t ≡ Some y → y.memory.member.parked ≡ [])
    → a.between.messages ≡ [] → a.between.lines ≡ [] → AnswersGoOn r a
answers-first r a told clients targets messages lines = record {
  in_turn = told;
  clients = λ n c at. clients-begin-fitting (client_plan r n) c.state (loads_of a) (clients n c at) (λ x s.
      let letters : total (letter_load x s) a.between.messages ≡ 0 = ap (total (letter_load x s)) messages in
      let waiting = waits-first x s a.watch.lives a.targets targets in
      omega (arith, letters, waiting));
  lines = subst (AllAnswersFit r.script) (sym lines) (none-told r.script);
}

-- what a target's turn does with what it heard
pub heard-once : (b left : BetweenNow) (to : ActorId) (number : ℕ) (l : Letter) (rest : List Letter) (before after : MemberMemory) (result : Result Did TargetStop) → IsPicked b.messages to number l rest → left ≡ record b { messages = rest }
    → IfOk result (λ did. AnswersOnce (l.message ∷ []) before after did.posts) → IfOk result (TurnsOnce b left before after)
heard-once b left to number l rest before after (Ok did) k is once = λ x r.
    let split = ap (total (letter_load x r)) k.among ∙ total-split (letter_load x r) k.before k.after l in
    let others : total (letter_load x r) left.messages ≡ total (letter_load x r) (k.before ++ k.after) = ap (λ q. total (letter_load x r) q.messages) is ∙ ap (total (letter_load x r)) k.left in
    let turn = once x r in
    omega (arith, split, others, turn)
heard-once b left to number l rest before after (Err e) k is once = once

pub idle-once : (b left : BetweenNow) (before after : MemberMemory) (result : Result Did TargetStop) → left ≡ b → IfOk result (λ did. AnswersOnce [] before after did.posts) → IfOk result (TurnsOnce b left before after)
idle-once b left before after (Ok did) is once = λ x r.
    let same : total (letter_load x r) left.messages ≡ total (letter_load x r) b.messages = ap (λ q. total (letter_load x r) q.messages) is in
    let turn = once x r in
    omega (arith, same, turn)
idle-once b left before after (Err e) is once = once
