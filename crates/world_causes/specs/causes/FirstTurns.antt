-- What a target's turn sends, and what waits there then, bears first epochs that are those of attempts 0.
use Rattle.std.specs.Prelude.{ℕ, ◌≡◌, ◌++◌, ◌==◌, Bool, true, false, List, [], ◌∷◌, filter, map, Option, Some, None, refl, if◌then◌else◌}
use Rattle.std.proofs.Common.{inl, inr, sym, ◌∙◌, ap, subst}
use Rattle.base_types.specs.declared.entry.Entry.{Entry}
use Rattle.base_types.specs.declared.entry.Verdict.{Verdict}
use Rattle.base_types.specs.declared.entry.Verdict.TheVariants as how
use Rattle.base_types.specs.declared.epoch.Epoch.{Epoch}
use Rattle.base_types.specs.declared.id.AttemptId.{AttemptId}
use Rattle.base_types.specs.declared.operation.MinorWrite.{MinorWrite}
use Rattle.base_types.specs.declared.outcome.FloorWhy.{FloorWhy}
use Rattle.base_types.specs.declared.outcome.Outcome.{Outcome}
use Rattle.base_types.specs.declared.outcome.Outcome.TheVariants as outcome
use Rattle.model_laws.specs.Members.{Has, has-cases, has-from_filter, has-from_map}
use Rattle.base_messages.specs.declared.actor.ActorId.{ActorId}
use Rattle.base_messages.specs.declared.message.Message.{Message}
use Rattle.base_messages.specs.declared.message.Message.TheVariants as message
use Rattle.base_messages.specs.declared.message.Post.{Post}
use Rattle.daos_model.specs.declared.durable.Durable.{Durable}
use Rattle.dtx_base.specs.declared.leading.Naming.{Naming}
use Rattle.dtx_base.specs.declared.leading.Undecided.{Undecided}
use Rattle.dtx_base.specs.declared.member.Parked.{Parked}
use Rattle.dtx_base.specs.Joining.{all_unresolved_told, inquired, inquiry_for, is_not_waiting, is_parked_elsewhere, is_parked_on, is_waiting, parked_ask, to_inquire, unresolved, unresolved_told, verdict_heard}
use Rattle.dtx_base.specs.Leading.{LeaderOf, abort_to, ack_heard, answer_heard, answer_if_awaited, attempts_of, batched, begun, begun_alone, begun_with_others, commit_mark, counted_at, decided, ended, entry_led, mark_with, marks_for, ok_heard, owed, prepare_to, quietly, to_target, undecided_of, with_undecided}
use Rattle.dtx_base.specs.Members.{all_targets, are_all_counted, is_other_member, other_members, with_target}
use Rattle.dtx_base.specs.Rows.{is_empty}
use Rattle.world_base.specs.declared.did.Did.{Did}
use Rattle.world_base.specs.declared.request.CommitRequest.{CommitRequest}
use Rattle.world_base.specs.declared.request.FetchRequest.{FetchRequest}
use Rattle.world_base.specs.declared.request.PrepareRequest.{PrepareRequest}
use Rattle.world_base.specs.declared.target.TargetMemory.{TargetMemory}
use Rattle.world_base.specs.declared.target.TargetPlan.{TargetPlan}
use Rattle.world_base.specs.Acks as ack
use Rattle.world_base.specs.Changes.{Change, Kept, Steps}
use Rattle.world_base.specs.Commits as commit
use Rattle.world_base.specs.Idle.{AllSettled, IdleEnds, batch_of, inquiry_of}
use Rattle.world_base.specs.Marks as mark
use Rattle.world_base.specs.MemoryLaws as memory
use Rattle.world_base.specs.PathLaws.{path-keeps}
use Rattle.world_base.specs.Prepares as prepare
use Rattle.world_base.specs.Reads as read
use Rattle.world_base.specs.Requests.{fetch_message, with_ticks}
use Rattle.world_base.specs.RightTurns.{HearsRightly}
use Rattle.world_base.specs.Roles.{is_in_doubt, is_prepared, joins_on, leader_at, member_at, told_by, told_of, told_of_all, with_unsettled}
use Rattle.world_base.specs.TargetTurns.{Hears, IdlesWhole, commit_request, fetch_request, prepare_request}
use Rattle.world_base.specs.Turns.{Whole}
use Rattle.world_base.specs.VerdictLaws.{Tries, verdict-keeps}
use Rattle.world_base.specs.Verdicts as verdict
use Rattle.world_causes.specs.causes.Premises.{MessageBears, RequestKnows}

-- a Fetch without an epoch
abbrev pub is_undated : Message → Bool
is_undated (message.Fetch x op group None first tracker r snapshot) = true
is_undated m = false

-- where this is so of an attempt and the first epoch that goes with it
module _ (Known : AttemptId → Option Epoch → Type 0) where
  abbrev pub ArePosts : List Post → Type 0
  ArePosts posts = (q : Post) → Has q posts → MessageBears Known q.message

  abbrev pub AreParked : List Parked → Type 0
  AreParked ps = (p : Parked) → Has p ps → MessageBears Known p.ask

  -- what a turn leaves
  pub record Knows (left : TargetMemory × Did) : Type 0 where
    pub posts : ArePosts left.1.posts
    pub parked : AreParked left.0.member.parked

  none-knows : ArePosts []
  none-knows q i = absurd i

  one-knows : (q : Post) → MessageBears Known q.message → ArePosts (q ∷ [])
  one-knows q k s (inl same) = subst (λ x. MessageBears Known x.message) (sym same) k
  one-knows q k s (inr none) = absurd none

  both-know : (ps qs : List Post) → ArePosts ps → ArePosts qs → ArePosts (ps ++ qs)
  both-know ps qs f g q i = elim (has-cases ps qs q i) [ inl j ↦ f q j | inr j ↦ g q j ]

  -- ---- a Fetch

  member-then : (q : FetchRequest) (e : Epoch) (decided : List AttemptId) (m : TargetMemory) → (read.memory_then q e decided m).member ≡ m.member
  member-then q e decided m = by q.snapshot
    where
      by : (b : Bool) → (with_unsettled decided (if b then m else with_ticks e m)).member ≡ m.member
      by true = refl
      by false = refl

  told-knows : (m : TargetMemory) (left : TargetMemory × Did) (q : Post) → AreParked m.member.parked → left.0.member ≡ m.member → left.1.posts ≡ q ∷ [] → MessageBears Known q.message → Knows left
  told-knows m left q parked member posts k = record {
    posts = subst ArePosts (sym posts) (one-knows q k);
    parked = subst (λ x. AreParked x.parked) (sym member) parked;
  }

  fetch-knows : (t : TargetPlan) (m : TargetMemory) (reading : ℕ) (q : FetchRequest) (from : ActorId) (s : read.FetchStage) (k : Kept) (left : TargetMemory × Did) → Known q.attempt q.first → AreParked m.member.parked
      → read.FetchEnds t m reading q from s k left → Knows left
  fetch-knows t m reading q from s k left own parked (read.IsSpent j z live none is) = told-knows m left _ parked (ap (λ x. x.0.member) is) (ap (λ x. x.1.posts) is) refl
  fetch-knows t m reading q from s k left own parked (read.IsRefused j e decided c z why is) = told-knows m left _ parked (ap (λ x. x.0.member) is ∙ member-then q e decided m) (ap (λ x. x.1.posts) is) tt
  fetch-knows t m reading q from s k left own parked (read.MeetsUnresolved j e decided a z none unsettled among other is) = told-knows m left _ parked (ap (λ x. x.0.member) is ∙ member-then q e decided m) (ap (λ x. x.1.posts) is) tt
  fetch-knows t m reading q from s k left own parked (read.IsServed j e decided b z none ok is) = told-knows m left _ parked (ap (λ x. x.0.member) is ∙ member-then q e decided m) (ap (λ x. x.1.posts) is) tt
  fetch-knows t m reading q from s k left own parked (read.IsParked j e decided a leader z none unsettled other is) = record {
    posts = subst (λ x. ArePosts x.1.posts) (sym is) (one-knows _ tt);
    parked = subst (λ x. AreParked x.0.member.parked) (sym is) more;
  }
    where
      new : Parked
      new = record { on = a; leader = leader; ask = read.fetch_at q e }

      more : AreParked (m.member.parked ++ new ∷ [])
      more p i = elim (has-cases m.member.parked (new ∷ []) p i) [
        | inl j ↦ parked p j
        | inr j ↦ elim j [ inl same ↦ subst (λ x. MessageBears Known x.ask) (sym same) own | inr none ↦ absurd none ]
      ]

  -- ---- a Commit

  ended-knows : (client : Option ActorId) (a : AttemptId) (e : Epoch) (how : Outcome) → ArePosts (ended client a e how)
  ended-knows None a e how = none-knows
  ended-knows (Some c) a e how = one-knows _ tt

  prepares-know : (targets inc : ℕ) (e : Entry) (first : Option Epoch) (ws : List MinorWrite) → Known e.attempt first → (ts : List ℕ) → ArePosts (map (prepare_to targets inc e first ws) ts)
  prepares-know targets inc e first ws own ts q i = let o = has-from_map (prepare_to targets inc e first ws) ts q i in subst (λ x. MessageBears Known x.message) o.2 own

  begun-knows : (e : Entry) (first : Option Epoch) (client : ActorId) (ws : List MinorWrite) (l : LeaderOf) → Known e.attempt first → ArePosts (begun e first client ws l).posts
  unfolding begun
  begun-knows e first client ws l own = by (is_empty (other_members e))
    where
      by : (b : Bool) → ArePosts (if b then begun_alone e client l else begun_with_others e first client ws l).posts
      by true = ended-knows (Some client) e.attempt e.epoch outcome.Committed
      by false = prepares-know l.targets l.incarnation e first ws own (other_members e)

  commit-posts : (t : TargetPlan) (opening : Epoch × FloorWhy) (m : TargetMemory) (reading : ℕ) (q : CommitRequest) (from : ActorId) (s : commit.CommitStage) (k : Kept) (left : TargetMemory × Did) → Known q.attempt q.first
      → commit.CommitEnds t opening m reading q from s k left → ArePosts left.1.posts
  commit-posts t opening m reading q from s k left own (commit.IsSpent j z none is) = subst (λ x. ArePosts x.1.posts) (sym is) (one-knows _ refl)
  commit-posts t opening m reading q from s k left own (commit.IsRefused j e c z why is) = subst (λ x. ArePosts x.1.posts) (sym is) (one-knows _ tt)
  commit-posts t opening m reading q from s k left own (commit.HasNoSpace j e z allowed full is) = subst (λ x. ArePosts x.1.posts) (sym is) (one-knows _ tt)
  commit-posts t opening m reading q from s k left own (commit.HasBegun j e z is) = subst (λ x. ArePosts x.1.posts) (sym is) (begun-knows (commit.led_entry t q e) q.first from q.writes (leader_at t m k.durable) own)

  commit-knows : (t : TargetPlan) (opening : Epoch × FloorWhy) (m : TargetMemory) (reading : ℕ) (q : CommitRequest) (from : ActorId) (s : commit.CommitStage) (k : Kept) (left : TargetMemory × Did) → Known q.attempt q.first
      → AreParked m.member.parked → commit.CommitEnds t opening m reading q from s k left → Knows left
  commit-knows t opening m reading q from s k left own parked h = record {
    posts = commit-posts t opening m reading q from s k left own h;
    parked = subst (λ x. AreParked x.parked) (sym (memory.commit-leaves t opening m reading q from s k left h).member) parked;
  }

  -- ---- between targets

  prepare-knows : (t : TargetPlan) (opening : Epoch × FloorWhy) (m : TargetMemory) (q : PrepareRequest) (s : prepare.PrepareStage) (k : Kept) (left : TargetMemory × Did) → AreParked m.member.parked → prepare.PrepareEnds t opening m q s k left → Knows left
  prepare-knows t opening m q s k left parked (prepare.IsRefused j c z why is) = told-knows m left _ parked (ap (λ x. x.0.member) is) (ap (λ x. x.1.posts) is) tt
  prepare-knows t opening m q s k left parked (prepare.HasNoSpace j z allowed full is) = told-knows m left _ parked (ap (λ x. x.0.member) is) (ap (λ x. x.1.posts) is) tt
  prepare-knows t opening m q s k left parked (prepare.IsPrepared j z is) = told-knows m left _ parked (ap (λ x. x.0.member) is) (ap (λ x. x.1.posts) is) tt

  aborts-know : (inc : ℕ) (a : AttemptId) (ts : List ℕ) → ArePosts (map (abort_to inc a) ts)
  aborts-know inc a ts q i = let o = has-from_map (abort_to inc a) ts q i in subst (λ x. MessageBears Known x.message) o.2 tt

  ok-knows : (member : ℕ) (a : AttemptId) (e : Entry) (u : Undecided) (l : LeaderOf) → ArePosts (ok_heard member a e u l).posts
  ok-knows member a e u l = by (are_all_counted e (with_target u.counted member))
    where
      by : (b : Bool) → ArePosts (if b then record { leader = decided a l; posts = ended u.client a e.epoch outcome.Committed } else quietly (with_undecided (map (counted_at a member) l.memory.undecided) l)).posts
      by true = ended-knows u.client a e.epoch outcome.Committed
      by false = none-knows

  answer-knows : (member : ℕ) (a : AttemptId) (refusal : Option Outcome) (e : Entry) (u : Undecided) (l : LeaderOf) → ArePosts (answer_heard member a refusal e u l).posts
  answer-knows member a None e u l = ok-knows member a e u l
  answer-knows member a (Some how) e u l = both-know (ended u.client a e.epoch how) (map (abort_to l.incarnation a) (other_members e)) (ended-knows u.client a e.epoch how) (aborts-know l.incarnation a (other_members e))

  awaited-knows : (member : ℕ) (a : AttemptId) (refusal : Option Outcome) (e : Option Entry) (u : Option Undecided) (l : LeaderOf) → ArePosts (answer_if_awaited member a refusal e u l).posts
  awaited-knows member a refusal None u l = none-knows
  awaited-knows member a refusal (Some e) None l = none-knows
  awaited-knows member a refusal (Some e) (Some u) l = by (is_other_member e member)
    where
      by : (b : Bool) → ArePosts (if b then answer_heard member a refusal e u l else quietly l).posts
      by true = answer-knows member a refusal e u l
      by false = none-knows

  ack-said : (member : ℕ) (a : AttemptId) (inc : ℕ) (refusal : Option Outcome) (l : LeaderOf) → ArePosts (ack_heard member a inc refusal l).posts
  unfolding ack_heard
  ack-said member a inc refusal l = by (inc == l.incarnation)
    where
      by : (b : Bool) → ArePosts (if b then answer_if_awaited member a refusal (entry_led a l) (undecided_of a l) l else quietly l).posts
      by true = awaited-knows member a refusal (entry_led a l) (undecided_of a l) l
      by false = none-knows

  abbrev FollowsKnown : ack.AckStage → Type 0
  FollowsKnown ack.Heard = Unit {0}
  FollowsKnown (ack.Followed s) = ArePosts s.posts

  ack-next : (t : TargetPlan) (m : TargetMemory) (member : ℕ) (a : AttemptId) (inc : ℕ) (refusal : Option Outcome) (s : ack.AckStage) (k : Kept) (o : Option Change) (u : ack.AckStage) (l : Kept) → ack.AckNext t m member a inc refusal s k o u
      → Steps o k l → FollowsKnown s → FollowsKnown u
  ack-next t m member a inc refusal s k o u l (ack.Aborts j is) steps h = ack-said member a inc refusal (leader_at t m j.durable)
  ack-next t m member a inc refusal s k o u l (ack.Counts j is) steps h = ack-said member a inc refusal (leader_at t m j.durable)

  ack-knows : (m : TargetMemory) (s : ack.AckStage) (k : Kept) (left : TargetMemory × Did) → AreParked m.member.parked → ack.AckEnds m s k left → FollowsKnown s → Knows left
  ack-knows m s k left parked (ack.IsFollowed j step z is) h = record { posts = subst (λ x. ArePosts x.1.posts) (sym is) h; parked = subst (λ x. AreParked x.0.member.parked) (sym is) parked }

  mark-knows : (m : TargetMemory) (from : ActorId) (inc : ℕ) (marks rest : List (AttemptId × Bool)) (k : Kept) (left : TargetMemory × Did) → AreParked m.member.parked → mark.MarkEnds m from inc marks rest k left → Knows left
  mark-knows m from inc marks rest k left parked (mark.AllMarked j z is) = told-knows m left _ parked (ap (λ x. x.0.member) is) (ap (λ x. x.1.posts) is) tt

  marked-knows : (t : TargetPlan) (m : TargetMemory) (member inc : ℕ) (ids rest : List AttemptId) (k : Kept) (left : TargetMemory × Did) → AreParked m.member.parked → ack.MarkedEnds t m member inc ids rest k left → Knows left
  marked-knows t m member inc ids rest k left parked (ack.AllConfirmed j z is) =
      record { posts = subst (λ x. ArePosts x.1.posts) (sym is) none-knows; parked = subst (λ x. AreParked x.0.member.parked) (sym is) parked }

  query-knows : (t : TargetPlan) (m : TargetMemory) (from : ActorId) (a : AttemptId) (ask : Option AttemptId) (s : verdict.QueryStage) (k : Kept) (left : TargetMemory × Did) → AreParked m.member.parked → verdict.QueryEnds t m from a ask s k left → Knows left
  query-knows t m from a ask s k left parked (verdict.IsTold j z is) = told-knows m left _ parked (ap (λ x. x.0.member) is) (ap (λ x. x.1.posts) is) tt

  -- ---- a Verdict

  unresolved-knows : (a : AttemptId) (m : Message) → is_undated m ≡ false → ArePosts (unresolved_told a m)
  unresolved-knows a (message.Fetch x op group None first tracker r snapshot) k = let no : ⊥ = cc in absurd no
  unresolved-knows a (message.Fetch x op group (Some own) first tracker r snapshot) k = one-knows _ tt
  unresolved-knows a m k = none-knows

  all-unresolved-know : (a : AttemptId) (ps : List Parked) → ((p : Parked) → Has p ps → is_undated p.ask ≡ false) → ArePosts (all_unresolved_told a ps)
  all-unresolved-know a [] each = none-knows
  all-unresolved-know a (p ∷ ps) each = both-know (unresolved_told a p.ask) (all_unresolved_told a ps) (unresolved-knows a p.ask (each p (inl refl))) (all-unresolved-know a ps (λ q i. each q (inr i)))

  -- what is left to be tried, what waits, and what is said so far
  record Frees (asks : List Message) (n : TargetMemory) (posts : List Post) : Type 0 where
    waiting : (m : Message) → Has m asks → MessageBears Known m
    parked : AreParked n.member.parked
    says : ArePosts posts

  again-known : (t : Parked → Bool) (ps : List Parked) → AreParked ps → (m : Message) → Has m (map parked_ask (filter t ps)) → MessageBears Known m
  again-known t ps parked m i = let o = has-from_map parked_ask (filter t ps) m i in subst (MessageBears Known) o.2 (parked o.0 (has-from_filter t ps o.0 o.1).0)

  verdict-frees : (t : TargetPlan) (m : TargetMemory) (a : AttemptId) (ask : Option AttemptId) (v : Verdict) → AreParked m.member.parked → ((p : Parked) → Has p m.member.parked → is_undated p.ask ≡ false)
      → Frees (verdict_heard a ask v (member_at t m)).freed.again (joins_on (verdict_heard a ask v (member_at t m)).member m) (verdict_heard a ask v (member_at t m)).freed.posts
  unfolding unresolved
  verdict-frees t m a ask how.Committed parked dated = record {
    waiting = again-known (is_parked_on a) m.member.parked parked;
    parked = λ p i. parked p (has-from_filter (is_parked_elsewhere a) m.member.parked p i).0;
    says = none-knows;
  }
  verdict-frees t m a ask how.Aborted parked dated = record {
    waiting = again-known (is_parked_on a) m.member.parked parked;
    parked = λ p i. parked p (has-from_filter (is_parked_elsewhere a) m.member.parked p i).0;
    says = none-knows;
  }
  verdict-frees t m a (Some x) how.Undecided parked dated = record {
    waiting = λ z i. absurd i;
    parked = λ p i. parked p (has-from_filter (is_not_waiting a x) m.member.parked p i).0;
    says = all-unresolved-know a (filter (is_waiting a x) m.member.parked) (λ p i. dated p (has-from_filter (is_waiting a x) m.member.parked p i).0);
  }
  verdict-frees t m a None how.Undecided parked dated = record { waiting = λ z i. absurd i; parked = parked; says = none-knows }

  verdict-knows : (is_due : AttemptId → Durable → Bool) (t : TargetPlan) (m : TargetMemory) (reading : ℕ) (a : AttemptId) (ask : Option AttemptId) (v : Verdict) (old new : Kept) (left : TargetMemory × Did) → AreParked m.member.parked
      → ((p : Parked) → Has p m.member.parked → is_undated p.ask ≡ false) → Whole (verdict.VerdictNext is_due t m reading a ask v) verdict.VerdictEnds verdict.Heard old new left → Knows left
  verdict-knows is_due t m reading a ask v old new left parked dated w = record { posts = done.says; parked = done.parked }
    where
      goes : (q : FetchRequest) (rest : List Message) (n : TargetMemory) (posts : List Post) (k l : Kept) (z : TargetMemory × Did) → Frees (fetch_message q ∷ rest) n posts → Tries t reading n q k l z → Frees rest z.0 (posts ++ z.1.posts)
      goes q rest n posts k l z h y =
          let e = fetch-knows t n reading q (verdict.fetcher q) y.last l z (h.waiting (fetch_message q) (inl refl)) h.parked y.ends in
          record { waiting = λ m i. h.waiting m (inr i); parked = e.parked; says = both-know posts z.1.posts h.says e.posts }

      done : Frees [] left.0 left.1.posts
      done = (verdict-keeps is_due t m reading a ask v old (λ asks n posts k. Frees asks n posts) (λ k steps. verdict-frees t m a ask v parked dated) goes new left w).0

  -- ---- all that a target hears

  pub hears-knows : (t : TargetPlan) (opening : Epoch × FloorWhy) (m : TargetMemory) (reading : ℕ) (from : ActorId) (q : Message) (old new : Kept) (left : TargetMemory × Did) → RequestKnows Known q → AreParked m.member.parked
      → ((p : Parked) → Has p m.member.parked → is_undated p.ask ≡ false) → HearsRightly t opening m reading from q old new left → Knows left
  hears-knows t opening m reading from (message.Fetch x op group ep first tracker r snapshot) old new left own parked dated h =
      fetch-knows t m reading (fetch_request x op group ep first tracker r snapshot) from h.last new left own parked h.ends
  hears-knows t opening m reading from (message.Commit x ep first tracker ws) old new left own parked dated h = commit-knows t opening m reading (commit_request x ep first tracker ws) from h.last new left own parked h.ends
  hears-knows t opening m reading from (message.Prepare e first ws inc) old new left own parked dated h = prepare-knows t opening m (prepare_request e first ws inc) h.last new left parked h.ends
  hears-knows t opening m reading from (message.Ack x inc refusal) old new left own parked dated h =
      ack-knows m h.last new left parked h.ends
      (path-keeps (ack.AckNext t m from.number x inc refusal) (λ s k. FollowsKnown s) (ack-next t m from.number x inc refusal) ack.Heard old h.reached.did h.last new h.reached.path tt)
  hears-knows t opening m reading from (message.Mark inc marks) old new left own parked dated h = mark-knows m from inc marks h.last new left parked h.ends
  hears-knows t opening m reading from (message.Marked inc ids) old new left own parked dated h = marked-knows t m from.number inc ids h.last new left parked h.ends
  hears-knows t opening m reading from (message.Query x ask) old new left own parked dated h = query-knows t m from x ask h.last new left parked h.ends
  hears-knows t opening m reading from (message.Verdict x ask inc v) old new left own parked dated h = verdict-knows (is_in_doubt t.me) t m reading x ask v old new left parked dated h
  hears-knows t opening m reading from q old new left own parked dated h = absurd h

  told-member : (v : Verdict) (a : AttemptId) (m : TargetMemory) → (told_by v a m).member ≡ m.member
  told-member how.Committed a m = refl
  told-member how.Aborted a m = refl
  told-member how.Undecided a m = refl

  all-told-member : (ids : List AttemptId) (m : TargetMemory) → (told_of_all ids m).member ≡ m.member
  all-told-member [] m = refl
  all-told-member (a ∷ ids) m = all-told-member ids (told_of a m)

  -- and where it settles whatever is prepared
  pub all-hear-knows : (t : TargetPlan) (opening : Epoch × FloorWhy) (m : TargetMemory) (reading : ℕ) (from : ActorId) (q : Message) (old new : Kept) (left : TargetMemory × Did) → RequestKnows Known q → AreParked m.member.parked
      → ((p : Parked) → Has p m.member.parked → is_undated p.ask ≡ false) → Hears t opening m reading from q old new left → Knows left
  all-hear-knows t opening m reading from (message.Mark inc marks) old new left own parked dated h =
      mark-knows (told_of_all (attempts_of marks) m) from inc marks h.last new left (subst (λ x. AreParked x.parked) (sym (all-told-member (attempts_of marks) m)) parked) h.ends
  all-hear-knows t opening m reading from (message.Verdict x ask inc v) old new left own parked dated h =
      verdict-knows is_prepared t (told_by v x m) reading x ask v old new left (subst (λ z. AreParked z.parked) (sym (told-member v x m)) parked)
      (subst (λ z. (p : Parked) → Has p z.parked → is_undated p.ask ≡ false) (sym (told-member v x m)) dated) h
  all-hear-knows t opening m reading from q old new left own parked dated h = hears-knows t opening m reading from q old new left own parked dated h

  -- ---- idle work

  mark-with-knows : (inc t : ℕ) (ids : List AttemptId) → ArePosts (mark_with inc t ids)
  mark-with-knows inc t ids = by (is_empty ids)
    where
      by : (b : Bool) → ArePosts (if b then [] else to_target t (message.Mark inc (map commit_mark ids)) ∷ [])
      by true = none-knows
      by false = one-knows (to_target t (message.Mark inc (map commit_mark ids))) tt

  marks-know : (inc down : ℕ) (named : List Naming) (es : List Entry) (ts : List ℕ) → ArePosts (marks_for inc down named es ts)
  marks-know inc down named es [] = none-knows
  marks-know inc down named es (t ∷ ts) = both-know (mark_with inc t (owed down named es t)) (marks_for inc down named es ts) (mark-with-knows inc t (owed down named es t)) (marks-know inc down named es ts)

  batched-knows : (l : LeaderOf) → ArePosts (batched l).posts
  unfolding batched
  batched-knows l = marks-know l.incarnation l.memory.down l.memory.named l.entries all_targets

  inquiries-know : (es : List Entry) → ArePosts (map inquiry_for es)
  inquiries-know es q i = let o = has-from_map inquiry_for es q i in subst (λ x. MessageBears Known x.message) o.2 tt

  inquired-knows : (settling : Bool) (t : TargetPlan) (m : TargetMemory) (d : Durable) → ArePosts (inquiry_of settling t m d).freed.posts
  unfolding inquired
  inquired-knows false t m d = none-knows
  inquired-knows true t m d = inquiries-know (to_inquire d.entries (member_at t m))

  inquiry-parked : (settling : Bool) (t : TargetPlan) (m : TargetMemory) (d : Durable) → (inquiry_of settling t m d).member.memory.parked ≡ m.member.parked
  unfolding inquired
  inquiry-parked false t m d = refl
  inquiry-parked true t m d = refl

  idle-ends : (settling : Bool) (t : TargetPlan) (m : TargetMemory) (rest : List AttemptId) (k : Kept) (left : TargetMemory × Did) → AreParked m.member.parked → IdleEnds settling t m rest k left → Knows left
  idle-ends settling t m rest k left parked (AllSettled j z is) = record {
    posts = subst (λ x. ArePosts x.1.posts) (sym is)
        (both-know (batch_of t m k.durable).posts (inquiry_of settling t m k.durable).freed.posts (batched-knows (leader_at t (with_unsettled [] m) k.durable)) (inquired-knows settling t m k.durable));
    parked = subst AreParked (sym (ap (λ x. x.0.member.parked) is ∙ inquiry-parked settling t m k.durable)) parked;
  }

  pub idle-knows : (settling : Bool) (t : TargetPlan) (m : TargetMemory) (old new : Kept) (left : TargetMemory × Did) → AreParked m.member.parked → IdlesWhole settling t m old new left → Knows left
  idle-knows settling t m old new left parked h = idle-ends settling t m h.last new left parked h.ends
