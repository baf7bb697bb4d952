-- What targets tell one another of attempts, and what follows from that, shows what a refusal or a leader's answer showed.
use Rattle.std.specs.Prelude.{ℕ, ◌≡◌, ◌≤◌, ◌/◌, ◌⊎◌, ◌++◌, ◌==◌, Bool, true, false, map, List, [], ◌∷◌, Contains, Option, Some, None, refl, if◌then◌else◌}
use Rattle.std.proofs.Common.{append-nil, inl, inr, sym, ◌∙◌, ap, subst, arith}
use Rattle.base_types.specs.declared.entry.Entry.{Entry}
use Rattle.base_types.specs.declared.entry.Verdict.{Verdict}
use Rattle.base_types.specs.declared.entry.Verdict.TheVariants as verdicts
use Rattle.base_types.specs.declared.epoch.Epoch.{Epoch}
use Rattle.base_types.specs.declared.id.AttemptId.{AttemptId}
use Rattle.base_types.specs.declared.outcome.Outcome.{Outcome}
use Rattle.base_types.specs.declared.outcome.Outcome.TheVariants as outcome
use Rattle.base_types.specs.declared.report.Line.{Line}
use Rattle.model_laws.specs.Members.{Has, contains-from_has, has-from_contains}
use Rattle.base_messages.specs.declared.actor.ActorId.{ActorId}
use Rattle.base_messages.specs.declared.message.Message.TheVariants as message
use Rattle.daos_model.specs.declared.durable.Durable.{Durable}
use Rattle.daos_model.specs.Opening.{Opening}
use Rattle.daos_model.specs.Order.{told_by}
use Rattle.dtx_base.specs.declared.leading.Naming.{Naming}
use Rattle.dtx_base.specs.declared.leading.Undecided.{Undecided}
use Rattle.dtx_base.specs.Joining as member
use Rattle.dtx_base.specs.Leading.{LeaderOf, abort_to, ack_heard, answer_heard, answer_if_awaited, attempts_of, batched, commit_mark, counted_at, decided, ended, entry_led, mark_with, marks_for, ok_heard, owed, query_answer, quietly, refusal_heard, to_target, undecided_of, with_undecided}
use Rattle.dtx_base.specs.Members.{all_targets, are_all_counted, is_other_member, other_members, with_target}
use Rattle.dtx_base.specs.Rows.{is_empty}
use Rattle.world_base.specs.declared.did.Did.{Did}
use Rattle.world_base.specs.declared.target.TargetMemory.{TargetMemory}
use Rattle.world_base.specs.declared.target.TargetPlan.{TargetPlan}
use Rattle.world_base.specs.Events.{Rules, listed}
use Rattle.world_base.specs.Letters.{client}
use Rattle.world_base.specs.Acks as ack
use Rattle.world_base.specs.Changes.{Change, Kept, Steps}
use Rattle.world_base.specs.Idle.{AllSettled, IdleEnds, IdleNext, SettlesFirst, batch_of, inquiry_of}
use Rattle.world_base.specs.Marks.{AllMarked, MarkEnds, MarkNext, PassesBy, SettlesMarked}
use Rattle.world_base.specs.PathLaws.{path-keeps}
use Rattle.world_base.specs.Roles.{is_in_doubt, leader_at, member_at, with_unsettled}
use Rattle.world_base.specs.TargetTurns.{IdlesWhole}
use Rattle.world_base.specs.Turns.{Whole}
use Rattle.world_base.specs.Verdicts as turn
use Rattle.world_causes.specs.causes.Causes.{Dated, Stored, stored_by}
use Rattle.world_causes.specs.causes.CommitTurns.{space-same}
use Rattle.world_causes.specs.causes.Paths.{costs, free-path}
use Rattle.world_causes.specs.causes.ReadTurns.{meet-more, none-told}
use Rattle.world_causes.specs.causes.Shown.{IsOpenTo, OutcomeStands, limit_over}
use Rattle.world_causes.specs.causes.Turns.{AllMeet, AllShow, Leaves, PostShows, all-both, all-map, all-more}

module _ (r : Rules) (o : Opening) (stored : Stored) (issued : Dated) (lines : List Line) where
  -- ---- messages that show nothing

  pub mark-shows : (to : ActorId) (inc : ℕ) (marks : List (AttemptId × Bool)) → PostShows r o stored issued lines (record { to = to; message = message.Mark inc marks })
  mark-shows to inc marks = record { shows = tt; told = λ n i. absurd (none-told n i); undecided = λ x by u. absurd u; asked = λ x u. absurd u; own = λ x u. absurd u }

  pub marked-shows : (to : ActorId) (inc : ℕ) (ids : List AttemptId) → PostShows r o stored issued lines (record { to = to; message = message.Marked inc ids })
  marked-shows to inc ids = record { shows = tt; told = λ n i. absurd (none-told n i); undecided = λ x by u. absurd u; asked = λ x u. absurd u; own = λ x u. absurd u }

  pub inquiry-shows : (to : ActorId) (x : AttemptId) → PostShows r o stored issued lines (record { to = to; message = message.Query x None })
  inquiry-shows to x = record { shows = tt; told = λ n i. absurd (none-told n i); undecided = λ y by u. absurd u; asked = λ y u. absurd u; own = λ y u. absurd u }

  -- ---- an Ack

  -- what is known of an attempt's end: its epoch is within the limit, and it shows its cause
  pub record IsEnd (a : AttemptId) (e : Epoch) (how : Outcome) : Type 0 where
    pub shows : OutcomeStands r o stored issued lines a how
    pub told : (n : ℕ) → Contains (told_by how) n → n / 256 ≤ limit_over o lines issued
    pub within : e.0 / 256 ≤ limit_over o lines issued

  -- where a client waits, it is the attempt's
  pub ended-shows : (waiting : Option ActorId) (a : AttemptId) (e : Epoch) (how : Outcome) → ((c : ActorId) → waiting ≡ Some c → c ≡ client a.client) → ((c : ActorId) → waiting ≡ Some c → IsEnd a e how) → AllShow r o stored issued lines (ended waiting a e how)
  ended-shows None a e how own k = tt
  ended-shows (Some c) a e how own k = (
    record {
      shows = (k c refl).shows;
      told = λ n i. told n (has-from_contains (e.0 ∷ told_by how) n i);
      undecided = λ x by u. absurd u;
      asked = λ x u. absurd u;
      own = λ x same. own c refl ∙ ap (λ y. client y.client) same;
    },
    tt,
  )
    where
      told : (n : ℕ) → (n ≡ e.0) ⊎ Has n (told_by how) → n / 256 ≤ limit_over o lines issued
      told n (inl same) = subst (λ f. f / 256 ≤ limit_over o lines issued) (sym same) (k c refl).within
      told n (inr i) = (k c refl).told n (contains-from_has (told_by how) n i)

  -- what is known of an Ack, at a leader
  pub record IsAck (a : AttemptId) (refusal : Option Outcome) (l : LeaderOf) : Type 0 where
    pub waiting : (u : Undecided) (c : ActorId) → undecided_of a l ≡ Some u → u.client ≡ Some c → c ≡ client a.client
    pub within : (e : Entry) → entry_led a l ≡ Some e → e.epoch.0 / 256 ≤ limit_over o lines issued
    pub shows : (how : Outcome) (u : Undecided) (c : ActorId) → refusal ≡ Some how → undecided_of a l ≡ Some u → u.client ≡ Some c → OutcomeStands r o stored issued lines a how
    pub told : (how : Outcome) (n : ℕ) → refusal ≡ Some how → Contains (told_by how) n → n / 256 ≤ limit_over o lines issued

  ok-shows : (t : ℕ) (a : AttemptId) (e : Entry) (u : Undecided) (l : LeaderOf) → ((c : ActorId) → u.client ≡ Some c → c ≡ client a.client) → e.epoch.0 / 256 ≤ limit_over o lines issued → AllShow r o stored issued lines (ok_heard t a e u l).posts
  ok-shows t a e u l own within = by (are_all_counted e (with_target u.counted t))
    where
      by : (b : Bool) → AllShow r o stored issued lines (if b then record { leader = decided a l; posts = ended u.client a e.epoch outcome.Committed } else quietly (with_undecided (map (counted_at a t) l.memory.undecided) l)).posts
      by true = ended-shows u.client a e.epoch outcome.Committed own (λ c w. record { shows = tt; told = λ n i. absurd (none-told n i); within = within })
      by false = tt

  refused-shows : (a : AttemptId) (how : Outcome) (e : Entry) (u : Undecided) (l : LeaderOf) → ((c : ActorId) → u.client ≡ Some c → c ≡ client a.client) → ((c : ActorId) → u.client ≡ Some c → IsEnd a e.epoch how) → AllShow r o stored issued lines (refusal_heard a how e u l).posts
  refused-shows a how e u l own k =
      all-both r o stored issued lines (ended u.client a e.epoch how) (map (abort_to l.incarnation a) (other_members e)) (ended-shows u.client a e.epoch how own k)
      (all-map r o stored issued lines (abort_to l.incarnation a) (λ t. mark-shows (record { client = false; number = t }) l.incarnation ((a, false) ∷ [])) (other_members e))

  ack-shows : (t : ℕ) (a : AttemptId) (inc : ℕ) (refusal : Option Outcome) (l : LeaderOf) → IsAck a refusal l → AllShow r o stored issued lines (ack_heard t a inc refusal l).posts
  unfolding ack_heard
  ack-shows t a inc refusal l k = own (inc == l.incarnation)
    where
      heard : (h : Option Outcome) → refusal ≡ h → (e : Entry) (u : Undecided) → entry_led a l ≡ Some e → undecided_of a l ≡ Some u → (b : Bool) → AllShow r o stored issued lines (if b then answer_heard t a h e u l else quietly l).posts
      heard h is e u led row false = tt
      heard None is e u led row true = ok-shows t a e u l (λ c w. k.waiting u c row w) (k.within e led)
      heard (Some how) is e u led row true = refused-shows a how e u l (λ c w. k.waiting u c row w) (λ c w. record { shows = k.shows how u c is row w; told = λ n i. k.told how n is i; within = k.within e led })

      awaited : (p : Option Entry) → entry_led a l ≡ p → (v : Option Undecided) → undecided_of a l ≡ v → AllShow r o stored issued lines (answer_if_awaited t a refusal p v l).posts
      awaited None is v row = tt
      awaited (Some e) is None row = tt
      awaited (Some e) is (Some u) row = heard refusal refl e u is row (is_other_member e t)

      own : (b : Bool) → AllShow r o stored issued lines (if b then answer_if_awaited t a refusal (entry_led a l) (undecided_of a l) l else quietly l).posts
      own true = awaited (entry_led a l) refl (undecided_of a l) refl
      own false = tt

  -- ---- a batch, and inquiries

  mark-with-shows : (inc t : ℕ) (ids : List AttemptId) → AllShow r o stored issued lines (mark_with inc t ids)
  mark-with-shows inc t ids = by (is_empty ids)
    where
      by : (b : Bool) → AllShow r o stored issued lines (if b then [] else to_target t (message.Mark inc (map commit_mark ids)) ∷ [])
      by true = tt
      by false = (mark-shows (record { client = false; number = t }) inc (map commit_mark ids), tt)

  marks-show : (inc down : ℕ) (named : List Naming) (es : List Entry) (ts : List ℕ) → AllShow r o stored issued lines (marks_for inc down named es ts)
  marks-show inc down named es [] = tt
  marks-show inc down named es (t ∷ ts) = all-both r o stored issued lines (mark_with inc t (owed down named es t)) (marks_for inc down named es ts) (mark-with-shows inc t (owed down named es t)) (marks-show inc down named es ts)

  batch-shows : (l : LeaderOf) → AllShow r o stored issued lines (batched l).posts
  unfolding batched
  batch-shows l = marks-show l.incarnation l.memory.down l.memory.named l.entries all_targets

  inquiries-show : (settling : Bool) (t : TargetPlan) (m : TargetMemory) (d : Durable) → AllShow r o stored issued lines (inquiry_of settling t m d).freed.posts
  unfolding member.inquired
  inquiries-show false t m d = tt
  inquiries-show true t m d = all-map r o stored issued lines member.inquiry_for (λ e. inquiry-shows (record { client = false; number = e.leader }) e.attempt) (member.to_inquire d.entries (member_at t m))

  pub idle-shows : (settling : Bool) (t : TargetPlan) (m : TargetMemory) (d : Durable) → AllShow r o stored issued lines ((batch_of t m d).posts ++ (inquiry_of settling t m d).freed.posts)
  idle-shows settling t m d = all-both r o stored issued lines (batch_of t m d).posts (inquiry_of settling t m d).freed.posts (batch-shows (leader_at t (with_unsettled [] m) d)) (inquiries-show settling t m d)

  -- ---- a Query

  -- what a leader answers that an attempt isn't decided is of one without a line
  query-shows : (to : ActorId) (a : AttemptId) (ask : Option AttemptId) (inc : ℕ) (v : Verdict) → ((x : AttemptId) → ask ≡ Some x → v ≡ verdicts.Undecided → IsOpenTo r.script lines x a)
      → ((x : AttemptId) → ask ≡ Some x → (e : Epoch) × Contains issued (x, e)) → PostShows r o stored issued lines (record { to = to; message = message.Verdict a ask inc v })
  query-shows to a None inc v open' asked = record { shows = tt; told = λ n i. absurd (none-told n i); undecided = λ x by u. absurd u; asked = λ x u. absurd u; own = λ x u. absurd u }
  query-shows to a (Some y) inc verdicts.Committed open' asked = record { shows = tt; told = λ n i. absurd (none-told n i); undecided = λ x by u. absurd u; asked = λ x same. asked x (ap (λ z. Some z) same); own = λ x u. absurd u }
  query-shows to a (Some y) inc verdicts.Aborted open' asked = record { shows = tt; told = λ n i. absurd (none-told n i); undecided = λ x by u. absurd u; asked = λ x same. asked x (ap (λ z. Some z) same); own = λ x u. absurd u }
  query-shows to a (Some y) inc verdicts.Undecided open' asked = record {
    shows = tt;
    told = λ n i. absurd (none-told n i);
    undecided = λ x by u. subst (λ z. IsOpenTo r.script lines x z) u.1 (open' x (ap (λ z. Some z) u.0) refl);
    asked = λ x same. asked x (ap (λ z. Some z) same);
    own = λ x u. absurd u;
  }

-- ---- turns

-- a turn that issues nothing, takes no blocks and waits for nothing more leaves what it sends
pub quiet-leaves : (r : Rules) (o : Opening) (stored : Stored) (issued : Dated) (lines : List Line) (t : ℕ) (m : TargetMemory) (old new : Kept) (left : TargetMemory × Did) → left.1.issued ≡ None → old.free ≤ new.free → left.0.ticks ≡ m.ticks
    → m.ticks ≤ limit_over o lines issued → left.0.member.parked ≡ m.member.parked → AllMeet r issued m.member.parked → AllShow r o stored issued lines left.1.posts → Leaves r o stored issued lines t old new left
quiet-leaves r o stored issued lines t m old new left none low ticks within parked meet shows = record {
  posts = subst (λ i. AllShow r o (stored_by t old.durable new.durable ++ stored) (issued ++ listed i) lines left.1.posts) (sym none) (all-more r o (stored_by t old.durable new.durable) stored issued [] lines left.1.posts shows);
  ticks = subst (λ i. left.0.ticks ≤ limit_over o lines (issued ++ listed i)) (sym none) (subst (λ is. left.0.ticks ≤ limit_over o lines is) (sym (append-nil issued)) (subst (λ n. n ≤ limit_over o lines issued) (sym ticks) within));
  dated = λ x e some. let no : ⊥ = cc in absurd no;
  space = space-same r.script t stored old new low;
  parked = subst (λ i. AllMeet r (issued ++ listed i) left.0.member.parked) (sym none) (subst (AllMeet r (issued ++ [])) (sym parked) (meet-more r issued [] m.member.parked meet));
}

module _ (r : Rules) (o : Opening) (stored : Stored) (issued : Dated) (lines : List Line) (t : ℕ) (plan : TargetPlan) (m : TargetMemory) (old : Kept) (within : m.ticks ≤ limit_over o lines issued) (meet : AllMeet r issued m.member.parked) where
  -- an Ack
  abbrev AckSoFar : ack.AckStage → Kept → Type 0
  AckSoFar ack.Heard k = k.durable ≡ old.durable
  AckSoFar (ack.Followed s) k = AllShow r o stored issued lines s.posts

  pub ack-leaves : (from : ℕ) (a : AttemptId) (inc : ℕ) (refusal : Option Outcome) (new : Kept) (left : TargetMemory × Did) → IsAck r o stored issued lines a refusal (leader_at plan m old.durable)
      → Whole (ack.AckNext plan m from a inc refusal) (ack.AckEnds m) ack.Heard old new left → Leaves r o stored issued lines t old new left
  ack-leaves from a inc refusal new left k w =
      ends w.last new left (path-keeps (ack.AckNext plan m from a inc refusal) AckSoFar step ack.Heard old w.reached.did w.last new w.reached.path refl)
      (free-path (ack.AckNext plan m from a inc refusal) cheap ack.Heard old w.reached.did w.last new w.reached.path) w.ends
    where
      step : (s : ack.AckStage) (j : Kept) (c : Option Change) (u : ack.AckStage) (l : Kept) → ack.AckNext plan m from a inc refusal s j c u → Steps c j l → AckSoFar s j → AckSoFar u l
      step s j c u l (ack.Aborts i is) st h = ack-shows r o stored issued lines from a inc refusal (leader_at plan m j.durable) (subst (λ d. IsAck r o stored issued lines a refusal (leader_at plan m d)) (sym h) k)
      step s j c u l (ack.Counts i is) st h = ack-shows r o stored issued lines from a inc refusal (leader_at plan m j.durable) (subst (λ d. IsAck r o stored issued lines a refusal (leader_at plan m d)) (sym h) k)

      cheap : (s : ack.AckStage) (j : Kept) (c : Option Change) (u : ack.AckStage) → ack.AckNext plan m from a inc refusal s j c u → costs c ≡ 0
      cheap s j c u (ack.Aborts i is) = refl
      cheap s j c u (ack.Counts i is) = refl

      ends : (s : ack.AckStage) (j : Kept) (left : TargetMemory × Did) → AckSoFar s j → old.free ≤ j.free → ack.AckEnds m s j left → Leaves r o stored issued lines t old j left
      ends s j left h low (ack.IsFollowed i follows z is) =
          quiet-leaves r o stored issued lines t m old j left (ap (λ x. x.1.issued) is) low (ap (λ x. x.0.ticks) is) within (ap (λ x. x.0.member.parked) is) meet (subst (λ x. AllShow r o stored issued lines x.1.posts) (sym is) h)

  -- a Marked
  pub marked-leaves : (from inc : ℕ) (ids start : List AttemptId) (new : Kept) (left : TargetMemory × Did) → Whole (ack.MarkedNext plan m from) (ack.MarkedEnds plan m from inc ids) start old new left → Leaves r o stored issued lines t old new left
  marked-leaves from inc ids start new left w = ends w.last new left (free-path (ack.MarkedNext plan m from) cheap start old w.reached.did w.last new w.reached.path) w.ends
    where
      cheap : (s : List AttemptId) (j : Kept) (c : Option Change) (u : List AttemptId) → ack.MarkedNext plan m from s j c u → costs c ≡ 0
      cheap s j c u (ack.Confirms i a rest may) = refl
      cheap s j c u (ack.PassesBy i a rest may) = refl

      ends : (s : List AttemptId) (j : Kept) (left : TargetMemory × Did) → old.free ≤ j.free → ack.MarkedEnds plan m from inc ids s j left → Leaves r o stored issued lines t old j left
      ends s j left low (ack.AllConfirmed i z is) =
          quiet-leaves r o stored issued lines t m old j left (ap (λ x. x.1.issued) is) low (ap (λ x. x.0.ticks) is) within (ap (λ x. x.0.member.parked) is) meet (subst (λ x. AllShow r o stored issued lines x.1.posts) (sym is) tt)

  -- a Mark
  pub mark-leaves : (from : ActorId) (inc : ℕ) (marks : List (AttemptId × Bool)) (new : Kept) (left : TargetMemory × Did) → Whole (MarkNext (is_in_doubt plan.me)) (MarkEnds m from inc marks) marks old new left → Leaves r o stored issued lines t old new left
  mark-leaves from inc marks new left w = ends w.last new left (free-path (MarkNext (is_in_doubt plan.me)) cheap marks old w.reached.did w.last new w.reached.path) w.ends
    where
      cheap : (s : List (AttemptId × Bool)) (j : Kept) (c : Option Change) (u : List (AttemptId × Bool)) → MarkNext (is_in_doubt plan.me) s j c u → costs c ≡ 0
      cheap s j c u (SettlesMarked i a committed rest prepared) = refl
      cheap s j c u (PassesBy i a committed rest prepared) = refl

      ends : (s : List (AttemptId × Bool)) (j : Kept) (left : TargetMemory × Did) → old.free ≤ j.free → MarkEnds m from inc marks s j left → Leaves r o stored issued lines t old j left
      ends s j left low (AllMarked i z is) =
          quiet-leaves r o stored issued lines t m old j left (ap (λ x. x.1.issued) is) low (ap (λ x. x.0.ticks) is) within (ap (λ x. x.0.member.parked) is) meet
          (subst (λ x. AllShow r o stored issued lines x.1.posts) (sym is) (marked-shows r o stored issued lines from inc (attempts_of marks), tt))

  -- a Query
  pub query-leaves : (from : ActorId) (a : AttemptId) (ask : Option AttemptId) (new : Kept) (left : TargetMemory × Did)
      → ((x : AttemptId) → ask ≡ Some x → query_answer a (leader_at plan m old.durable) ≡ verdicts.Undecided → IsOpenTo r.script lines x a) → ((x : AttemptId) → ask ≡ Some x → (e : Epoch) × Contains issued (x, e))
      → Whole turn.QueryNext (turn.QueryEnds plan m from a ask) turn.IsAsked old new left → Leaves r o stored issued lines t old new left
  query-leaves from a ask new left open' asked w =
      ends w.last new left (path-keeps turn.QueryNext (λ s k. k ≡ old) step turn.IsAsked old w.reached.did w.last new w.reached.path refl) w.ends
    where
      step : (s : turn.QueryStage) (j : Kept) (c : Option Change) (u : turn.QueryStage) (l : Kept) → turn.QueryNext s j c u → Steps c j l → j ≡ old → l ≡ old
      step s j c u l (turn.Answers i) st h = st ∙ h

      ends : (s : turn.QueryStage) (j : Kept) (left : TargetMemory × Did) → j ≡ old → turn.QueryEnds plan m from a ask s j left → Leaves r o stored issued lines t old j left
      ends s j left same (turn.IsTold i z is) =
          quiet-leaves r o stored issued lines t m old j left (ap (λ x. x.1.issued) is) (let k : j.free ≡ old.free = ap (λ x. x.free) same in omega (arith, k)) (ap (λ x. x.0.ticks) is) within (ap (λ x. x.0.member.parked) is) meet
          (subst (λ x. AllShow r o stored issued lines x.1.posts) (sym is)
          (query-shows r o stored issued lines from a ask j.durable.incarnation (query_answer a (leader_at plan m j.durable)) (λ x some v. open' x some (ap (λ k. query_answer a (leader_at plan m k.durable)) (sym same) ∙ v)) asked, tt))

  -- idle work
  inquiry-parked : (settling : Bool) (d : Durable) → (inquiry_of settling plan m d).member.memory.parked ≡ m.member.parked
  unfolding member.inquired
  inquiry-parked false d = refl
  inquiry-parked true d = refl

  pub idle-leaves : (settling : Bool) (new : Kept) (left : TargetMemory × Did) → IdlesWhole settling plan m old new left → Leaves r o stored issued lines t old new left
  idle-leaves settling new left w = ends w.last new left (free-path IdleNext cheap m.leader.decided old w.reached.did w.last new w.reached.path) w.ends
    where
      cheap : (s : List AttemptId) (j : Kept) (c : Option Change) (u : List AttemptId) → IdleNext s j c u → costs c ≡ 0
      cheap s j c u (SettlesFirst i a rest) = refl

      ends : (s : List AttemptId) (j : Kept) (left : TargetMemory × Did) → old.free ≤ j.free → IdleEnds settling plan m s j left → Leaves r o stored issued lines t old j left
      ends s j left low (AllSettled i z is) =
          quiet-leaves r o stored issued lines t m old j left (ap (λ x. x.1.issued) is) low (ap (λ x. x.0.ticks) is) within (ap (λ x. x.0.member.parked) is ∙ inquiry-parked settling j.durable) meet
          (subst (λ x. AllShow r o stored issued lines x.1.posts) (sym is) (idle-shows r o stored issued lines settling plan m j.durable))
