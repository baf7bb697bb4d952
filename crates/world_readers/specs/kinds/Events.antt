-- Every event of a run keeps it so that answers told fit, and that of each client's reads at most one letter goes about.
use Rattle.std.specs.Prelude.{ℕ, suc, ◌≡◌, ◌≤◌, ◌<◌, ◌+◌, ◌++◌, true, false, All, List, [], ◌∷◌, filter, map, slice_get, Some, None, refl}
use Rattle.std.proofs.Common.{append-nil, inl, inr, sym, ◌∙◌, ap, subst, arith}
use Rattle.std.proofs.Math.ListN.{set}
use Rattle.std.proofs.lemmas.Bool.{cases_eq}
use Rattle.std.proofs.lemmas.List.Elements.{All-append, All-map, All-nil, All-weaker}
use Rattle.base_types.specs.declared.epoch.Epoch.{Epoch}
use Rattle.base_types.specs.declared.id.AttemptId.{AttemptId}
use Rattle.base_types.specs.declared.operation.Read.{Read}
use Rattle.base_types.specs.declared.report.Attempt.{Attempt}
use Rattle.base_types.specs.declared.report.Line.{Line}
use Rattle.base_types.specs.declared.report.Line.TheVariants as line
use Rattle.base_types.specs.declared.script.Script.{Script}
use Rattle.daos_model.specs.Attempts.{tries}
use Rattle.daos_model.specs.Changes.{reopened}
use Rattle.daos_model.specs.declared.durable.Durable.{Durable}
use Rattle.daos_model.specs.declared.durable.Version.{Version}
use Rattle.daos_model.specs.Laws.{tries-append}
use Rattle.daos_model.specs.Opening.{Opening}
use Rattle.dtx_base.specs.Leading.{is_led, is_open}
use Rattle.world_base.specs.declared.client.ClientState.{ClientState}
use Rattle.world_base.specs.declared.did.Did.{Did}
use Rattle.world_base.specs.declared.letter.Letter.{Letter}
use Rattle.world_base.specs.declared.target.Life.{Life}
use Rattle.world_base.specs.declared.target.Life.TheVariants.{Down, Running, Stopped}
use Rattle.world_base.specs.declared.target.TargetMemory.{TargetMemory}
use Rattle.world_base.specs.declared.target.TargetPlan.{TargetPlan}
use Rattle.world_base.specs.declared.target.TargetState.{TargetState}
use Rattle.world_base.specs.declared.world.World.{World}
use Rattle.world_base.specs.Changes.{Kept}
use Rattle.world_base.specs.CutTurns.{Cutting}
use Rattle.world_base.specs.Events.{ByClient, ByTarget, Event, Rules, TargetHearsBy, ToClient, ToTarget, after_turn, client_plan, kept, target_after, target_plan, with_client, with_epoch, with_target}
use Rattle.world_base.specs.Further.{HearsFurther}
use Rattle.world_base.specs.Letters.{client, letters_of, target}
use Rattle.world_base.specs.StepLaws.{set-is, set-there}
use Rattle.world_base.specs.Statuses.{opening_posts}
use Rattle.world_base.specs.Steps.{without}
use Rattle.world_base.specs.Stops.{AtWork, CutOf, Draws, Fails, Further, GivenUp, Happening, Hearing, IdleWork, IsCut, Opens, Plainly, WorldEvent, opened_at, restart_line, stopped_at, stops_so_far, swept}
use Rattle.world_making.specs.world_causes.outcomes.Untried.{hearing-untried, idling-untried, untried-none, untried-one}
use Rattle.world_making.specs.world_contents.gots.StepGots.{ops-of-attempt}
use Rattle.world_making.specs.world_contents.reads.Given.{Given}
use Rattle.world_ended.specs.world_letters.clients.Answered.{ops_numbered}
use Rattle.world_ended.specs.world_letters.clients.Standing.{HasTold}
use Rattle.world_ended.specs.world_letters.kinds.Fitting.{AllAnswersFit, AnswersFit, AreOfOps, IsFittingClient, IsFittingOf, LeavesFitting, with_posts}
use Rattle.world_ended.specs.world_letters.kinds.FittingLaws.{AreLess, AreLessOf, clients-begin-fitting, fitting-less, fitting-less-of, hear-turn-fits, next-turn-fits}
use Rattle.world_ended.specs.world_letters.kinds.Loads.{AnswersOnce, letter_load, load, parked_load, post_load, total}
use Rattle.world_ended.specs.world_letters.kinds.LoadLaws.{total-append}
use Rattle.world_ended.specs.world_letters.kinds.PostLaws.{CarryNone, statuses-carry}
use Rattle.world_ended.specs.world_letters.lines.FilledLaws.{tries-filled}
use Rattle.world_ended.specs.world_letters.lines.Lines.{Lines, filled}
use Rattle.world_ended.specs.world_letters.lives.TurnLines.{further-lines, idle-lines, plain-lines}
use Rattle.world_ended.specs.world_letters.talks.TalkLaws.{taken-is-among}
use Rattle.world_making.specs.losses.Tells.{turn-lines-untried}
use Rattle.world_readers.specs.forms.Forms.{AllKeepInForm}
use Rattle.world_readers.specs.kinds.Kinds.{AnswersFitInWorld, loads_in, parked_while, waiting_load}
use Rattle.world_readers.specs.kinds.Totals.{loads-alike, lost-load, posted-load, swept-load, taken-load, total-set}
use Rattle.world_readers.specs.kinds.Turns.{further-once, hears-once, idles-once}

-- ---- the statements

-- So it is where clients are before their first turns, nothing is in flight, no Fetch waits at a running target, and no attempt is told of.
pub record NothingAsked (w : World) : Type 0 where
  pub clients : (n : ℕ) (c : ClientState) → slice_get w.clients n ≡ Some c → c.present ≡ None
  pub messages : w.messages ≡ []
  pub waiting : (s : TargetState) → s.life ≡ Running → (t : ℕ) → slice_get w.targets t ≡ Some s → s.memory.member.parked ≡ []
  pub untold : tries w.lines ≡ []

abbrev pub FittingAnswersBegin : Type 0
FittingAnswersBegin = (r : Rules) (w : World) → NothingAsked w → AnswersFitInWorld r w

-- Every event keeps it, where the lines tell of each client what it has told, what is asked of running targets is right, and what targets
-- keep is in form.
abbrev pub AllEventsKeepFittingAnswers : Type 0
AllEventsKeepFittingAnswers =
    (r : Rules) (o : Opening) (held : ℕ → List Version) (w v : World) → 0 < r.attempts → Given r o held w → Lines r w → AllKeepInForm w → WorldEvent r w v → AnswersFitInWorld r w → AnswersFitInWorld r v

-- ---- lines

-- what is filled in of an attempt is its epoch
fits-filled : (s : Script) (issued : List (AttemptId × Epoch)) (as' : List Attempt) → All (AnswersFit s) as' → All (AnswersFit s) (map (filled issued) as')
fits-filled s issued as' k = All-map (AnswersFit s) (filled issued) as' (All-weaker (AnswersFit s) (λ a. AnswersFit s (filled issued a)) (λ a fits. record { conditions = fits.conditions; answers = fits.answers }) as' k)

lines-more : (s : Script) (issued : List (AttemptId × Epoch)) (ls more : List Line) → AllAnswersFit s ls → All (AnswersFit s) (tries more) → AllAnswersFit s (ls ++ map (with_epoch issued) more)
lines-more s issued ls more k l =
    subst (All (AnswersFit s)) (sym (tries-append ls (map (with_epoch issued) more)))
    (All-append (AnswersFit s) (tries ls) (tries (map (with_epoch issued) more)) k (subst (All (AnswersFit s)) (sym (tries-filled issued more)) (fits-filled s issued (tries more) l)))

-- lines that tell of no attempt were added
none-tried : (issued : List (AttemptId × Epoch)) (ls more : List Line) → tries more ≡ [] → tries (ls ++ map (with_epoch issued) more) ≡ tries ls
none-tried issued ls more none =
    tries-append ls (map (with_epoch issued) more) ∙ ap (λ ts. tries ls ++ ts) (tries-filled issued more ∙ ap (map (filled issued)) none) ∙ append-nil (tries ls)

none-added : (ls more : List Line) → tries more ≡ [] → tries (ls ++ more) ≡ tries ls
none-added ls more none = tries-append ls more ∙ ap (λ ts. tries ls ++ ts) none ∙ append-nil (tries ls)

no-tries : (ls : List Line) → ls ≡ [] → tries ls ≡ []
no-tries ls none = ap tries none ∙ untried-none

-- a client's attempts are those of the script
fits-script : (r : Rules) (n : ℕ) (a : Attempt) → IsFittingOf (client_plan r n) a → AnswersFit r.script a
fits-script r n a k = subst (λ ops. AreOfOps ops a.conds a.gots) (ap (λ m. ops_numbered (client_plan r m) a.id.command) (sym k.own) ∙ ops-of-attempt r a.id) k.fits

-- ---- a client's turn

module _ (r : Rules) (w : World) (n : ℕ) (c d : ClientState) (did : Did) (rest : List Letter) (here : slice_get w.clients n ≡ Some c) (less : AreLess (loads_in (without w rest)) (loads_in w))
    (turn : LeavesFitting (client_plan r n) (loads_in (without w rest)) d did.posts (tries did.lines)) (k : AnswersFitInWorld r w) where
  abbrev now : World
  now = with_client n d (after_turn w (client n) did rest)

  -- no more goes about than was left, and what was posted
  now-less : AreLess (loads_in now) (with_posts did.posts (loads_in (without w rest)))
  now-less x s =
      let all = total-append (letter_load x s) rest (letters_of (client n) did.posts) in
      let its = posted-load (client n) did.posts x s in
      omega (arith, all, its)

  others-less : (m : ℕ) → (m ≡ n → ⊥) → AreLessOf m (loads_in now) (loads_in w)
  others-less m apart x own s =
      let low = now-less x s in
      let none = turn.own x (λ same. apart (sym own ∙ same)) s in
      let before = less x s in
      omega (arith, low, none, before)

  client-fits : AnswersFitInWorld r now
  client-fits = record {
    clients = λ m x at. elim (cases_eq m n) [
      | inl same ↦ subst (λ q. IsFittingClient (client_plan r q) x (loads_in now)) (sym same)
          (subst (λ z. IsFittingClient (client_plan r n) z (loads_in now)) (it-is m x same at) (fitting-less (client_plan r n) d (loads_in now) (with_posts did.posts (loads_in (without w rest))) now-less turn.client))
      | inr apart ↦ fitting-less-of (client_plan r m) x (loads_in now) (loads_in w) (others-less m apart) (k.clients m x (sym (set-there w.clients n m d apart) ∙ at))
    ];
    lines = lines-more r.script w.issued w.lines did.lines k.lines (All-weaker (IsFittingOf (client_plan r n)) (AnswersFit r.script) (fits-script r n) (tries did.lines) turn.told);
  }
    where
      it-is : (m : ℕ) (x : ClientState) → m ≡ n → slice_get (set w.clients n d) m ≡ Some x → d ≡ x
      it-is m x same at = set-is w.clients n d x (subst (λ q. slice_get (set w.clients n d) q ≡ Some x) same at)

-- ---- an event in which no attempt is told of

quietly : (r : Rules) (w v : World) → v.clients ≡ w.clients → tries v.lines ≡ tries w.lines → AreLess (loads_in v) (loads_in w) → AnswersFitInWorld r w → AnswersFitInWorld r v
quietly r w v clients lines less k = record {
  clients = λ n c at. fitting-less (client_plan r n) c (loads_in v) (loads_in w) less (k.clients n c (ap (λ cs. slice_get cs n) (sym clients) ∙ at));
  lines = subst (All (AnswersFit r.script)) (sym lines) k.lines;
}

-- a running target's turn
turn-fits : (r : Rules) (w : World) (t : ℕ) (s : TargetState) (new : Kept) (memory : TargetMemory) (did : Did) (rest : List Letter) → slice_get w.targets t ≡ Some s → s.life ≡ Running → tries did.lines ≡ []
    → ((x : AttemptId) (q : Read) → total (post_load x q) did.posts + total (parked_load x q) memory.member.parked + total (letter_load x q) rest ≤ total (parked_load x q) s.memory.member.parked + total (letter_load x q) w.messages)
    → AnswersFitInWorld r w → AnswersFitInWorld r (with_target t (target_after s new memory) (after_turn w (target t) did rest))
turn-fits r w t s new memory did rest here runs none once k =
    quietly r w (with_target t (target_after s new memory) (after_turn w (target t) did rest)) refl (none-tried w.issued w.lines did.lines none)
    (λ x q.
    let one = once x q in
    let all = total-append (letter_load x q) rest (letters_of (target t) did.posts) in
    let its = posted-load (target t) did.posts x q in
    let changed = total-set (waiting_load x q) w.targets t s (target_after s new memory) here in
    let before : waiting_load x q s ≡ total (parked_load x q) s.memory.member.parked = ap (λ l. parked_while x q l s.memory.member.parked) runs in
    let after : waiting_load x q (target_after s new memory) ≡ total (parked_load x q) memory.member.parked = ap (λ l. parked_while x q l memory.member.parked) runs in
    omega (arith, one, all, its, changed, before, after)) k

-- ---- a cut, and an opening

work-untold : (p : TargetPlan) (s : TargetState) (work : AtWork) (cut : Cutting) → CutOf p s work cut → tries cut.lines ≡ []
work-untold p s (Hearing l reading number) cut g = hearing-untried p s.opening s.memory reading number l.from (kept s) cut l.message g
work-untold p s IdleWork cut g = idling-untried p s.opening s.memory 0 0 (target p.me) (kept s) cut g

opening-carries : (p : TargetPlan) (d : Durable) → CarryNone (opening_posts p d)
unfolding opening_posts
opening-carries p d = statuses-carry d.incarnation (filter is_open (filter (is_led p.me) d.entries))

-- ---- every event

module _ (r : Rules) (o : Opening) (held : ℕ → List Version) (w : World) (some : 0 < r.attempts) (given : Given r o held w) (told : Lines r w) (form : AllKeepInForm w) (k : AnswersFitInWorld r w) where
  has-told : (n : ℕ) (c : ClientState) (here : slice_get w.clients n ≡ Some c) → HasTold (client_plan r n) c (told.told n c here).attempts
  has-told n c here = (told.told n c here).tells.told

  plain-fits : (v : World) → Event r w v → AnswersFitInWorld r v
  plain-fits v (ByClient g) =
      subst (AnswersFitInWorld r) (sym g.after)
      (client-fits r w g.n g.c g.d g.did w.messages g.here (λ x s. omega arith)
      (next-turn-fits (client_plan r g.n) g.c g.d (told.told g.n g.c g.here).attempts (loads_in w) g.did some (has-told g.n g.c g.here) (k.clients g.n g.c g.here) g.turn) k)
  plain-fits v (ToClient g) =
      subst (AnswersFitInWorld r) (sym g.after)
      (client-fits r w g.n g.c g.d g.did g.rest g.here (λ x s. let all = taken x s in omega (arith, all))
      (hear-turn-fits (client_plan r g.n) g.c g.d (told.told g.n g.c g.here).attempts (loads_in w) (loads_in (without w g.rest)) g.l.message g.did some (has-told g.n g.c g.here) (k.clients g.n g.c g.here) taken (loads-alike (without w g.rest)) g.turn) k)
    where
      taken : (x : AttemptId) (s : Read) → loads_in w x s ≡ load x s g.l.message + loads_in (without w g.rest) x s
      taken x s = let all = taken-load w.messages g.l g.rest g.takes x s in omega (arith, all)
  plain-fits v (ToTarget g) =
      subst (AnswersFitInWorld r) (sym g.after)
      (turn-fits r w g.t g.s g.new g.memory g.did g.rest g.here g.runs
      (no-tries g.did.lines (plain-lines (target_plan r g.t) g.s.opening g.s.memory g.reading g.l.from g.l.message (kept g.s) g.new (g.memory, g.did) g.turn))
      (λ x q. let all = taken-load w.messages g.l g.rest g.takes x q in let one = once x q in omega (arith, all, one)) k)
    where
      once : AnswersOnce (g.l.message ∷ []) g.s.memory.member g.memory.member g.did.posts
      once =
          hears-once r o w g.t g.s (λ p i. given.waiting g.t g.s p g.here g.runs i) (form g.t g.s g.here) g.reading g.l.from g.new (g.memory, g.did) g.l.message
          (given.asked g.l g.t g.s (taken-is-among w.messages g.l g.rest g.takes) g.to_it g.here g.runs) g.turn
  plain-fits v (ByTarget g) =
      subst (AnswersFitInWorld r) (sym g.after)
      (turn-fits r w g.t g.s g.new g.memory g.did w.messages g.here g.runs
      (no-tries g.did.lines (idle-lines g.settling (target_plan r g.t) g.s.memory g.turn.last g.new (g.memory, g.did) g.turn.ends))
      (λ x q. let one = idles-once g.settling (target_plan r g.t) g.s.memory (kept g.s) g.new (g.memory, g.did) g.turn x q in omega (arith, one)) k)

  more-fits : (number : ℕ) (v : World) → TargetHearsBy (HearsFurther number) r w v → AnswersFitInWorld r v
  more-fits number v g =
      subst (AnswersFitInWorld r) (sym g.after)
      (turn-fits r w g.t g.s g.new g.memory g.did g.rest g.here g.runs
      (turn-lines-untried g.t g.did.lines (further-lines number (target_plan r g.t) g.s.opening g.s.memory g.reading g.l.from g.l.message (kept g.s) g.new (g.memory, g.did) g.turn).own)
      (λ x q.
      let all = taken-load w.messages g.l g.rest g.takes x q in
      let one = further-once number (target_plan r g.t) g.s.opening g.s.memory g.reading g.l.from g.l.message (kept g.s) g.new (g.memory, g.did) g.turn x q in
      omega (arith, all, one)) k)

  happening-fits : (v : World) → Happening r w v → AnswersFitInWorld r v
  happening-fits v (Plainly e up) = plain-fits v e
  happening-fits v (Further f) = more-fits f.number v f.hears
  happening-fits v (IsCut g) =
      quietly r w v (ap (λ u. u.clients) g.after)
      (ap (λ u. tries u.lines) g.after ∙ none-added (w.lines ++ g.cut.lines) (line.Stop (stops_so_far w.lines) g.t ∷ []) (untried-one _ refl) ∙ none-added w.lines g.cut.lines (work-untold (target_plan r g.t) g.s g.work g.cut g.turn))
      (λ x q. subst (λ u. loads_in u x q ≤ loads_in w x q) (sym g.after)
      (let letters = lost-load g.t false w.messages w.asked x q in let changed = total-set (waiting_load x q) w.targets g.t g.s (stopped_at g.s g.cut.left) g.here in omega (arith, letters, changed))) k
  happening-fits v (Opens g) =
      quietly r w v (ap (λ u. u.clients) g.after) (ap (λ u. tries u.lines) g.after ∙ none-added w.lines (restart_line g.number g.t g.s.durable ∷ []) (untried-one _ refl))
      (λ x q. subst (λ u. loads_in u x q ≤ loads_in w x q) (sym g.after)
      (let all = total-append (letter_load x q) w.messages (letters_of (target g.t) (opening_posts (target_plan r g.t) (reopened g.s.durable))) in
      let its = posted-load (target g.t) (opening_posts (target_plan r g.t) (reopened g.s.durable)) x q in
      let none = opening-carries (target_plan r g.t) (reopened g.s.durable) x q in
      let changed = total-set (waiting_load x q) w.targets g.t g.s (opened_at r g.t g.number g.s g.free) g.here in
      omega (arith, all, its, none, changed))) k
  happening-fits v (Fails g) =
      quietly r w v (ap (λ u. u.clients) g.after) (ap (λ u. tries u.lines) g.after)
      (λ x q. subst (λ u. loads_in u x q ≤ loads_in w x q) (sym g.after)
      (let changed = total-set (waiting_load x q) w.targets g.t g.s (record g.s { durable = g.k.durable; free = g.k.free }) g.here in omega (arith, changed))) k
  happening-fits v (GivenUp g) =
      quietly r w v (ap (λ u. u.clients) g.after) (ap (λ u. tries u.lines) g.after ∙ none-added w.lines (line.Down g.t ∷ []) (untried-one _ refl))
      (λ x q. subst (λ u. loads_in u x q ≤ loads_in w x q) (sym g.after)
      (let letters = lost-load g.t true w.messages w.asked x q in let changed = total-set (waiting_load x q) w.targets g.t g.s (record g.s { life = Down }) g.here in omega (arith, letters, changed))) k
  happening-fits v (Draws g) =
      quietly r w v (ap (λ u. u.clients) g.after) (ap (λ u. tries u.lines) g.after) (λ x q. subst (λ u. loads_in u x q ≤ loads_in w x q) (sym g.after) (omega arith)) k

pub all-events-keep_fitting : AllEventsKeepFittingAnswers
all-events-keep_fitting r o held w v some given told form e k =
    subst (AnswersFitInWorld r) (sym e.after) (quietly r e.u (swept e.u) refl refl (swept-load e.u) (happening-fits r o held w some given told form k e.u e.happens))

-- ---- the beginning

waits-first : (x : AttemptId) (q : Read) (ss : List TargetState) → ((s : TargetState) → s.life ≡ Running → (t : ℕ) → slice_get ss t ≡ Some s → s.memory.member.parked ≡ []) → total (waiting_load x q) ss ≡ 0
waits-first x q [] none = refl
waits-first x q (s ∷ ss) none =
    let rest = waits-first x q ss (λ z runs t at. none z runs (suc t) at) in
    let here = by s.life refl in
    omega (arith, here, rest)
  where
    by : (l : Life) → s.life ≡ l → parked_while x q l s.memory.member.parked ≡ 0
    by Running is = ap (total (parked_load x q)) (none s is 0 refl)
    by Stopped is = refl
    by Down is = refl

pub fitting-begins : FittingAnswersBegin
fitting-begins r w b = record {
  clients = λ n c at. clients-begin-fitting (client_plan r n) c (loads_in w) (b.clients n c at) nothing;
  lines = subst (All (AnswersFit r.script)) (sym b.untold) (All-nil (AnswersFit r.script));
}
  where
    nothing : (x : AttemptId) (q : Read) → loads_in w x q ≡ 0
    nothing x q =
        let none = ap (total (letter_load x q)) b.messages in
        let waits = waits-first x q w.targets b.waiting in
        omega (arith, none, waits)
