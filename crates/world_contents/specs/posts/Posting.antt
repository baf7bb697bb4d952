-- What leaders and members post has its form.
use Rattle.std.specs.Prelude.{ℕ, ◌≡◌, ◌<◌, ◌^◌, ◌++◌, ◌==◌, Bool, true, false, not, List, [], ◌∷◌, filter, map, length, Option, Some, None, refl, if◌then◌else◌}
use Rattle.std.proofs.Common.{inl, inr, zero, suc, sym, ◌∙◌, ap, subst, arith}
use Rattle.std.proofs.lemmas.Nat.{or_lt}
use Rattle.std.proofs.Math.Pow.{pow-lt}
use Rattle.base_types.specs.declared.entry.Entry.{Entry}
use Rattle.base_types.specs.declared.entry.Verdict.{Verdict}
use Rattle.base_types.specs.declared.entry.Verdict.TheVariants as verdict
use Rattle.base_types.specs.declared.epoch.Epoch.{Epoch}
use Rattle.base_types.specs.declared.id.AttemptId.{AttemptId}
use Rattle.base_types.specs.declared.id.ObjId.{ObjId}
use Rattle.base_types.specs.declared.operation.MinorWrite.{MinorWrite}
use Rattle.base_types.specs.declared.outcome.Outcome.{Outcome}
use Rattle.base_types.specs.declared.outcome.Outcome.TheVariants.{Committed}
use Rattle.base_types.specs.Operations.{write_path}
use Rattle.base_types.specs.Placement.{ClassFits, path_leader, path_members, writes_leader, writes_members}
use Rattle.base_types.specs.PlacementLaws.{path_leader-member}
use Rattle.model_laws.specs.EntryLaws.{found-has, has-put}
use Rattle.model_laws.specs.Lists.{has-some}
use Rattle.model_laws.specs.Members.{Has, any-has, has-cases, has-filter, has-from_contains, has-from_filter, has-from_map}
use Rattle.model_laws.specs.TargetLaws.{same_number}
use Rattle.base_messages.specs.declared.actor.ActorId.{ActorId}
use Rattle.base_messages.specs.declared.message.Message.{Message}
use Rattle.base_messages.specs.declared.message.Message.TheVariants as message
use Rattle.base_messages.specs.declared.message.Post.{Post}
use Rattle.daos_model.specs.BoolLaws.{and_left}
use Rattle.daos_model.specs.Durables.{same_attempt}
use Rattle.daos_model.specs.Forms.{AreWritesInForm}
use Rattle.world_commit.specs.dtx_base.declared.leading.LeaderMemory.{LeaderMemory}
use Rattle.world_commit.specs.dtx_base.declared.leading.Naming.{Naming}
use Rattle.world_commit.specs.dtx_base.declared.leading.Undecided.{Undecided}
use Rattle.world_commit.specs.dtx_base.declared.member.Parked.{Parked}
use Rattle.world_commit.specs.dtx_base.Joining.{MemberOf, all_unresolved_told, asker, inquired, inquiry_for, is_waiting, query_for, to_inquire, unresolved, unresolved_told, verdict_heard}
use Rattle.world_commit.specs.dtx_base.Leading.{LeaderOf, LeaderStep, abort_to, ack_heard, answer_heard, answer_if_awaited, batched, begun, begun_alone, begun_with_others, commit_mark, counted_at, decided, ended, entry_led, mark_with, marks_for, new_undecided, ok_heard, owed, prepare_to, quietly, refusal_heard, to_target, undecided_attempt, undecided_of, with_undecided}
use Rattle.world_commit.specs.dtx_base.Members.{all_targets, are_all_counted, has_target, is_other_member, is_written_at, other_members, with_target, writes_at}
use Rattle.world_commit.specs.dtx_base.Rows.{is_empty, is_other_row, is_row_of, row_key, with_row, without_row}
use Rattle.world_commit.specs.world_base.declared.target.TargetPlan.{TargetPlan}
use Rattle.world_contents.specs.posts.Members.{bit-of, writes-within}
use Rattle.world_contents.specs.reads.ListLaws.{some-in_form}
use Rattle.world_commit.specs.world_base.Commits as commit
use Rattle.world_contents.specs.posts.Forms.{ClientsWait, Follows, IsBetween, IsOfTarget, PostsInForm, TargetPosts, is_told}

-- ---- the statements

-- the entry that a leader of so many targets begins an attempt with
pub record IsBeginning (targets : ℕ) (e : Entry) (ws : List MinorWrite) : Type 0 where
  pub undecided : e.committed ≡ false
  pub unconfirmed : e.confirmed ≡ 0
  pub leader : e.leader < targets
  pub members : e.members ≡ commit.bits_of (writes_members ws targets)
  pub form : AreWritesInForm ws

-- where an attempt begins that a client asked for, each other member is asked to prepare some writes in form
abbrev pub BeginningsPostInForm : Type 0
BeginningsPostInForm = (e : Entry) (first : Option Epoch) (client : ActorId) (ws : List MinorWrite) (l : LeaderOf) → IsBeginning l.targets e ws → client.client ≡ true
    → PostsInForm l.targets l.memory (begun e first client ws l).leader.memory (begun e first client ws l).posts

-- an Ack that counts or refuses
abbrev pub AcksPostInForm : Type 0
AcksPostInForm = (targets t : ℕ) (a : AttemptId) (inc : ℕ) (refusal : Option Outcome) (l : LeaderOf)
    → PostsInForm targets l.memory (ack_heard t a inc refusal l).leader.memory (ack_heard t a inc refusal l).posts

-- a batch of Marks
abbrev pub BatchesPostInForm : Type 0
BatchesPostInForm = (targets : ℕ) (l : LeaderOf) → PostsInForm targets l.memory (batched l).leader.memory (batched l).posts

-- a Verdict, whatever it frees
abbrev pub VerdictsPostInForm : Type 0
VerdictsPostInForm = (targets : ℕ) (a : AttemptId) (ask : Option AttemptId) (v : Verdict) (s : MemberOf) → TargetPosts targets (verdict_heard a ask v s).freed.posts

-- the Query for a Fetch that is parked
abbrev pub QueriesAreInForm : Type 0
QueriesAreInForm = (targets : ℕ) (ask : Message) (on : AttemptId) (leader : ℕ) → TargetPosts targets (query_for ask on leader)

-- the Queries of idle work
abbrev pub InquiriesAreInForm : Type 0
InquiriesAreInForm = (targets : ℕ) (es : List Entry) (s : MemberOf) → TargetPosts targets (inquired es s).freed.posts

-- ---- lists of posts

pub none-posted : (targets : ℕ) → TargetPosts targets []
none-posted targets q i = absurd i

pub one-posted : (targets : ℕ) (p : Post) → IsOfTarget targets p → TargetPosts targets (p ∷ [])
one-posted targets p k q (inl same) = subst (IsOfTarget targets) (sym same) k
one-posted targets p k q (inr i) = absurd i

pub both-posted : (targets : ℕ) (ps qs : List Post) → TargetPosts targets ps → TargetPosts targets qs → TargetPosts targets (ps ++ qs)
both-posted targets ps qs k l q i = elim (has-cases ps qs q i) [ inl j ↦ k q j | inr j ↦ l q j ]

pub map-posted : {T : Type 0} (targets : ℕ) (f : T → Post) (xs : List T) → ((x : T) → Has x xs → IsOfTarget targets (f x)) → TargetPosts targets (map f xs)
map-posted targets f xs k q i = let x = has-from_map f xs q i in subst (IsOfTarget targets) x.2 (k x.0 x.1)

-- ---- one post

-- a client is told
pub to-client : (targets : ℕ) (to : ActorId) (m : Message) → to.client ≡ true → is_told m ≡ true → IsOfTarget targets (record { to = to; message = m })
to-client targets to m client told = record { between = λ away. let no : ⊥ = cc in absurd no; told = λ is. told }

-- another target is told or asked
pub to-other : (targets : ℕ) (to : ActorId) (m : Message) → to.client ≡ false → IsBetween targets m → IsOfTarget targets (record { to = to; message = m })
to-other targets to m target k = record { between = λ away. k; told = λ is. let no : ⊥ = cc in absurd no }

pub mark-told : (targets t inc : ℕ) (marks : List (AttemptId × Bool)) → IsOfTarget targets (to_target t (message.Mark inc marks))
mark-told targets t inc marks = to-other targets (record { client = false; number = t }) (message.Mark inc marks) refl tt

query-told : (targets t : ℕ) (a : AttemptId) (ask : Option AttemptId) → IsOfTarget targets (to_target t (message.Query a ask))
query-told targets t a ask = to-other targets (record { client = false; number = t }) (message.Query a ask) refl tt

-- the client that waits is told how its attempt ended
pub ended-told : (targets : ℕ) (c : Option ActorId) (a : AttemptId) (e : Epoch) (how : Outcome) → ((x : ActorId) → c ≡ Some x → x.client ≡ true) → TargetPosts targets (ended c a e how)
ended-told targets None a e how k = none-posted targets
ended-told targets (Some x) a e how k = one-posted targets (record { to = x; message = message.Ended a (Some e) how }) (to-client targets x (message.Ended a (Some e) how) (k x refl) refl)

-- ---- an attempt begins

-- a member of writes is a member of the group of one of them
pub one-of_them : (ws : List MinorWrite) (n t : ℕ) → Has t (writes_members ws n) → (w : MinorWrite) × Has w ws × Has t (path_members (write_path w.write) n)
unfolding writes_members
one-of_them [] n t i = absurd i
one-of_them (w ∷ ws) n t i = elim (has-cases (path_members (write_path w.write) n) (writes_members ws n) t i) [
  | inl j ↦ (w, inl refl, j)
  | inr j ↦ (let rest = one-of_them ws n t j in (rest.0, inr rest.1, rest.2))
]

-- a member has some of the writes
pub member-writes : (ws : List MinorWrite) (n t : ℕ) → has_target (commit.bits_of (writes_members ws n)) t ≡ true → 0 < length (writes_at n t ws)
unfolding is_written_at
member-writes ws n t bit =
    let w = one-of_them ws n t (bit-of (writes_members ws n) t bit) in
    has-some (writes_at n t ws) w.0 (has-filter (is_written_at n t) ws w.0 w.1 (any-has (commit.is_number t) (path_members (write_path w.0.write) n) t w.2 (same_number t)))

-- and so has the leader of writes whose first is of an object
pub leader-writes : (t : TargetPlan) (w : MinorWrite) (ws : List MinorWrite) (o : ObjId) → t.me ≡ writes_leader (w ∷ ws) t.targets → (write_path w.write).obj ≡ Some o → ClassFits o.class t.targets
    → 0 < length (commit.own_writes t (w ∷ ws))
unfolding writes_leader
leader-writes t w ws o leads at fits =
    has-some (commit.own_writes t (w ∷ ws)) w
    (has-filter (commit.is_own t) (w ∷ ws) w (inl refl) (any-has (commit.is_number t.me) (path_members (write_path w.write) t.targets) t.me mine (same_number t.me)))
  where
    mine : Has t.me (path_members (write_path w.write) t.targets)
    mine =
        subst (λ u. Has u (path_members (write_path w.write) t.targets)) (sym leads)
        (has-from_contains (path_members (write_path w.write) t.targets) (path_leader (write_path w.write) t.targets) (path_leader-member (write_path w.write) o t.targets at fits))

-- members that are targets have bits below those of all targets
pub bits-below : (n : ℕ) (ts : List ℕ) → ((t : ℕ) → Has t ts → t < n) → commit.bits_of ts < 2 ^ n
unfolding commit.bits_of
bits-below n [] within = pow-positive n
  where
    pow-positive : (n : ℕ) → 0 < 2 ^ n
    pow-positive zero = omega arith
    pow-positive (suc n) = let less : 2 ^ n < 2 ^ suc n = pow-lt {i = n} {j = suc n} (omega arith) in let some = pow-positive n in omega arith
bits-below n (t ∷ ts) within = or_lt n (2 ^ t) (commit.bits_of ts) (pow-lt {i = t} {j = n} (within t (inl refl))) (bits-below n ts (λ u i. within u (inr i)))

prepare-told : (n inc : ℕ) (e : Entry) (first : Option Epoch) (ws : List MinorWrite) (t : ℕ) → IsBeginning n e ws → Has t (other_members e) → IsOfTarget n (prepare_to n inc e first ws t)
unfolding other_members is_other_member
prepare-told n inc e first ws t k i = record {
  between = λ away. record {
    undecided = k.undecided;
    unconfirmed = k.unconfirmed;
    leader = k.leader;
    members = subst (λ b. b < 2 ^ n) (sym k.members) (bits-below n (writes_members ws n) (λ u j. writes-within ws n u positive j));
    some = member-writes ws n t (subst (λ b. has_target b t ≡ true) k.members (and_left (has_target e.members t) (not (t == e.leader)) (has-from_filter (is_other_member e) all_targets t i).1));
    form = some-in_form (is_written_at n t) ws k.form;
  };
  told = λ is. let no : ⊥ = cc in absurd no;
}
  where
    positive : 0 < n
    positive = let less = k.leader in omega (arith, less)

pub beginnings-post-in-form : BeginningsPostInForm
unfolding begun
beginnings-post-in-form e first client ws l k asked waits = by (is_empty (other_members e))
  where
    alone : Follows l.targets (begun_alone e client l).leader.memory (begun_alone e client l).posts
    alone = record { form = one-posted l.targets _ (to-client l.targets client (message.Ended e.attempt (Some e.epoch) _) asked refl); waiting = waits }

    still : (u : Undecided) (c : ActorId) → Has u (with_row undecided_attempt (new_undecided e.attempt (Some client)) l.memory.undecided) → u.client ≡ Some c → c.client ≡ true
    still u c i is = elim (has-put (row_key undecided_attempt) (new_undecided e.attempt (Some client)) l.memory.undecided u i) [
      | inl new ↦ (let its : Some client ≡ Some c = sym (ap (λ x. x.client) new) ∙ is in let one : client ≡ c = cc in subst (λ x. x.client ≡ true) one asked)
      | inr old ↦ waits u c old is
    ]

    others : Follows l.targets (begun_with_others e first client ws l).leader.memory (begun_with_others e first client ws l).posts
    others = record { form = map-posted l.targets (prepare_to l.targets l.incarnation e first ws) (other_members e) (λ t i. prepare-told l.targets l.incarnation e first ws t k i); waiting = still }

    by : (b : Bool) → Follows l.targets (if b then begun_alone e client l else begun_with_others e first client ws l).leader.memory (if b then begun_alone e client l else begun_with_others e first client ws l).posts
    by true = alone
    by false = others

-- ---- an Ack

module _ (targets t : ℕ) (a : AttemptId) (l : LeaderOf) (waits : ClientsWait l.memory) where
  quiet : Follows targets (quietly l).leader.memory (quietly l).posts
  quiet = record { form = none-posted targets; waiting = waits }

  gone : (u : Undecided) (c : ActorId) → Has u (without_row undecided_attempt a l.memory.undecided) → u.client ≡ Some c → c.client ≡ true
  gone u c i is = waits u c (has-from_filter (is_other_row undecided_attempt a) l.memory.undecided u i).0 is

  same-client : (b : Bool) (u : Undecided) (c : ActorId) → (if b then record u { counted = with_target u.counted t } else u).client ≡ Some c → u.client ≡ Some c
  same-client true u c is = is
  same-client false u c is = is

  counts : (u : Undecided) (c : ActorId) → Has u (map (counted_at a t) l.memory.undecided) → u.client ≡ Some c → c.client ≡ true
  counts u c i is =
      let x = has-from_map (counted_at a t) l.memory.undecided u i in
      waits x.0 c x.1 (same-client (same_attempt x.0.attempt a) x.0 c (ap (λ z. z.client) x.2 ∙ is))

  module _ (e : Entry) (u : Undecided) (among : Has u l.memory.undecided) where
    ends : (how : Outcome) → TargetPosts targets (ended u.client a e.epoch how)
    ends how = ended-told targets u.client a e.epoch how (λ c is. waits u c among is)

    abbrev decides : LeaderStep
    decides = record { leader = decided a l; posts = ended u.client a e.epoch Committed }

    ok-form : Follows targets (ok_heard t a e u l).leader.memory (ok_heard t a e u l).posts
    ok-form = by (are_all_counted e (with_target u.counted t))
      where
        by : (b : Bool) → Follows targets (if b then decides else quietly (with_undecided (map (counted_at a t) l.memory.undecided) l)).leader.memory (if b then decides else quietly (with_undecided (map (counted_at a t) l.memory.undecided) l)).posts
        by true = record { form = ends Committed; waiting = gone }
        by false = record { form = none-posted targets; waiting = counts }

    refusal-form : (how : Outcome) → Follows targets (refusal_heard a how e u l).leader.memory (refusal_heard a how e u l).posts
    refusal-form how = record {
      form = both-posted targets (ended u.client a e.epoch how) (map (abort_to l.incarnation a) (other_members e)) (ends how)
          (map-posted targets (abort_to l.incarnation a) (other_members e) (λ m i. mark-told targets m l.incarnation ((a, false) ∷ [])));
      waiting = gone;
    }

    answer-form : (refusal : Option Outcome) (b : Bool) → Follows targets (if b then answer_heard t a refusal e u l else quietly l).leader.memory (if b then answer_heard t a refusal e u l else quietly l).posts
    answer-form None true = ok-form
    answer-form (Some how) true = refusal-form how
    answer-form refusal false = quiet

  awaited-form : (refusal : Option Outcome) (e : Option Entry) (u : Option Undecided) → undecided_of a l ≡ u → Follows targets (answer_if_awaited t a refusal e u l).leader.memory (answer_if_awaited t a refusal e u l).posts
  awaited-form refusal None u is = quiet
  awaited-form refusal (Some e) None is = quiet
  awaited-form refusal (Some e) (Some u) is = answer-form e u (found-has (is_row_of undecided_attempt a) l.memory.undecided u is) refusal (is_other_member e t)

pub acks-post-in-form : AcksPostInForm
unfolding ack_heard
acks-post-in-form targets t a inc refusal l waits = by (inc == l.incarnation)
  where
    by : (b : Bool) → Follows targets (if b then answer_if_awaited t a refusal (entry_led a l) (undecided_of a l) l else quietly l).leader.memory (if b then answer_if_awaited t a refusal (entry_led a l) (undecided_of a l) l else quietly l).posts
    by true = awaited-form targets t a l waits refusal (entry_led a l) (undecided_of a l) refl
    by false = quiet targets t a l waits

-- ---- Marks

mark-posted : (targets inc t : ℕ) (ids : List AttemptId) → TargetPosts targets (mark_with inc t ids)
mark-posted targets inc t ids = by (is_empty ids)
  where
    by : (b : Bool) → TargetPosts targets (if b then [] else to_target t (message.Mark inc (map commit_mark ids)) ∷ [])
    by true = none-posted targets
    by false = one-posted targets (to_target t (message.Mark inc (map commit_mark ids))) (mark-told targets t inc (map commit_mark ids))

marks-posted : (targets inc down : ℕ) (named : List Naming) (es : List Entry) (ts : List ℕ) → TargetPosts targets (marks_for inc down named es ts)
marks-posted targets inc down named es [] = none-posted targets
marks-posted targets inc down named es (t ∷ ts) =
    both-posted targets (mark_with inc t (owed down named es t)) (marks_for inc down named es ts) (mark-posted targets inc t (owed down named es t)) (marks-posted targets inc down named es ts)

pub batches-post-in-form : BatchesPostInForm
unfolding batched
batches-post-in-form targets l waits = record { form = marks-posted targets l.incarnation l.memory.down l.memory.named l.entries all_targets; waiting = waits }

-- ---- Verdicts and Queries

unresolved-posted : (targets : ℕ) (a : AttemptId) (m : Message) → TargetPosts targets (unresolved_told a m)
unresolved-posted targets a (message.Fetch x op group ep first tracker r snapshot) = one-posted targets _ (to-client targets (record { client = true; number = x.client }) _ refl refl)
unresolved-posted targets a m = none-posted targets

all-unresolved : (targets : ℕ) (a : AttemptId) (ps : List Parked) → TargetPosts targets (all_unresolved_told a ps)
all-unresolved targets a [] = none-posted targets
all-unresolved targets a (p ∷ ps) = both-posted targets (unresolved_told a p.ask) (all_unresolved_told a ps) (unresolved-posted targets a p.ask) (all-unresolved targets a ps)

pub verdicts-post-in-form : VerdictsPostInForm
unfolding unresolved
verdicts-post-in-form targets a ask verdict.Committed s = none-posted targets
verdicts-post-in-form targets a ask verdict.Aborted s = none-posted targets
verdicts-post-in-form targets a None verdict.Undecided s = none-posted targets
verdicts-post-in-form targets a (Some x) verdict.Undecided s = all-unresolved targets a (filter (is_waiting a x) s.memory.parked)

pub queries-are-in-form : QueriesAreInForm
queries-are-in-form targets ask on leader = one-posted targets (to_target leader (message.Query on (asker ask))) (query-told targets leader on (asker ask))

pub inquiries-are-in-form : InquiriesAreInForm
unfolding inquired
inquiries-are-in-form targets es s = map-posted targets inquiry_for (to_inquire es s) (λ e i. query-told targets e.leader e.attempt None)

-- ---- what follows from a turn

-- what a leader's step sends, and what it then remembers
pub posted-by : (targets : ℕ) (s : LeaderStep) (old new later : LeaderMemory) (posts sent : List Post) → PostsInForm targets old s.leader.memory s.posts → ◌≡◌ {A = LeaderMemory × List Post} (new, posts) (s.leader.memory, s.posts)
    → later ≡ new → sent ≡ posts → PostsInForm targets old later sent
posted-by targets s old new later posts sent k is after says =
    subst (λ m. PostsInForm targets old m sent) (sym (after ∙ ap (λ (p : LeaderMemory × List Post). p.0) is))
    (subst (PostsInForm targets old s.leader.memory) (sym (says ∙ ap (λ (p : LeaderMemory × List Post). p.1) is)) k)

-- where the same clients wait
pub waits-on : (targets : ℕ) (old new : LeaderMemory) (posts : List Post) → new.undecided ≡ old.undecided → TargetPosts targets posts → PostsInForm targets old new posts
waits-on targets old new posts same k waits = record { form = k; waiting = λ u c i is. waits u c (subst (Has u) same i) is }

-- where a turn goes on after one that sent nothing
pub goes-on : (targets : ℕ) (old mid new : LeaderMemory) (posts : List Post) → mid.undecided ≡ old.undecided → PostsInForm targets mid new posts → PostsInForm targets old new posts
goes-on targets old mid new posts same k waits = k (λ u c i is. waits u c (subst (Has u) same i) is)

-- and where more is sent besides
pub and-more : (targets : ℕ) (old new : LeaderMemory) (posts more : List Post) → PostsInForm targets old new posts → TargetPosts targets more → PostsInForm targets old new (posts ++ more)
and-more targets old new posts more k l waits = let before = k waits in record { form = both-posted targets posts more before.form l; waiting = before.waiting }

-- and where a turn goes on, and sends more
pub then-posts : (targets : ℕ) (old mid new : LeaderMemory) (posts more : List Post) → PostsInForm targets old mid posts → PostsInForm targets mid new more → PostsInForm targets old new (posts ++ more)
then-posts targets old mid new posts more k l waits =
    let before = k waits in
    let after = l before.waiting in
    record { form = both-posted targets posts more before.form after.form; waiting = after.waiting }
