-- What a leader names stays in flight until it is answered.
use Rattle.std.specs.Prelude.{ℕ, ◌≡◌, ◌⊎◌, ◌==◌, ◌&&◌, Bool, true, false, not, List, [], ◌∷◌, ◌++◌, map, slice_get, Option, Some, None, refl, if◌then◌else◌}
use Rattle.std.proofs.Common.{sym, ◌∙◌, ap, subst, inl, inr, arith}
use Rattle.std.proofs.lemmas.Bool.Decides.{nat_tests}
use Rattle.base_types.specs.declared.entry.Entry.{Entry}
use Rattle.base_types.specs.declared.epoch.Epoch.{Epoch}
use Rattle.base_types.specs.declared.id.AttemptId.{AttemptId}
use Rattle.base_types.specs.declared.outcome.FloorWhy.{FloorWhy}
use Rattle.base_types.specs.declared.outcome.Outcome.{Outcome}
use Rattle.base_types.specs.declared.outcome.Outcome.TheVariants as outcome
use Rattle.model_laws.specs.Members.{Has, any-has, has-cases, has-from_filter, has-from_map, has-left, has-map, has-right}
use Rattle.base_messages.specs.declared.actor.ActorId.{ActorId}
use Rattle.base_messages.specs.declared.message.Message.{Message}
use Rattle.base_messages.specs.declared.message.Message.TheVariants as message
use Rattle.base_messages.specs.declared.message.Post.{Post}
use Rattle.daos_model.specs.EntryLaws.{same_attempt-itself}
use Rattle.dtx_base.specs.declared.leading.Naming.{Naming}
use Rattle.dtx_base.specs.declared.leading.Undecided.{Undecided}
use Rattle.dtx_base.specs.Leading.{LeaderOf, LeaderStep, abort_to, ack_heard, answer_heard, answer_if_awaited, answered, attempts_of, batched, commit_mark, counted_at, decided, ended, entry_led, is_named_in, is_not_named_in, mark_with, marked_heard, marks_for, names_for, naming, naming_to, ok_heard, owed, quietly, to_target, undecided_of, with_undecided}
use Rattle.dtx_base.specs.Members.{all_targets, are_all_counted, is_other_member, other_members, with_target}
use Rattle.dtx_base.specs.Rows.{is_among, is_attempt, is_empty}
use Rattle.world_base.specs.declared.did.Did.{Did}
use Rattle.world_base.specs.declared.letter.Letter.{Letter}
use Rattle.world_base.specs.declared.target.TargetMemory.{TargetMemory}
use Rattle.world_base.specs.declared.target.TargetPlan.{TargetPlan}
use Rattle.world_commit.specs.asks.Asks.{Flies, IsMark, IsMarked, IsNamingOf}
use Rattle.world_commit.specs.asks.Moving.{ClientMoves, TargetMoves, now-here, same-there}
use Rattle.world_commit.specs.attempts.Stored.{target-is}
use Rattle.world_commit.specs.attempts.Turning.{one-or_another}
use Rattle.world_base.specs.declared.target.TargetState.{TargetState}
use Rattle.world_base.specs.declared.world.World.{World}
use Rattle.world_base.specs.Letters.{letter_of, target}
use Rattle.world_base.specs.Acks as ack
use Rattle.world_base.specs.Changes.{Change, Kept, Steps}
use Rattle.world_base.specs.Idle.{AllSettled, IdleEnds, batch_of, inquiry_of}
use Rattle.world_base.specs.Marks as mark
use Rattle.world_base.specs.MemoryLaws.{commit-leaves, fetch-leaves, mark-leaves, prepare-leaves, query-leaves, verdict-leaves}
use Rattle.world_base.specs.PathLaws.{reached-keeps}
use Rattle.world_base.specs.RightTurns.{HearsRightly}
use Rattle.world_base.specs.Roles.{is_in_doubt, leader_at, with_unsettled}
use Rattle.world_base.specs.TargetTurns.{IdlesWhole, commit_request, fetch_request, prepare_request}
use Rattle.world_base.specs.Turns.{Whole}

-- ---- what a leader's steps name

-- a post is a Mark that names an attempt to a member
pub record IsMarkPost (n : Naming) (p : Post) : Type 0 where
  pub marks : List (AttemptId × Bool)
  pub message : p.message ≡ message.Mark n.inc marks
  pub to : p.to ≡ record { client = false; number = n.member }
  pub names : Has n.attempt (attempts_of marks)

-- such a Mark is sent
abbrev pub IsNewlyNamed : List Post → Naming → Type 0
IsNewlyNamed posts n = (p : Post) × Has p posts × IsMarkPost n p

later-posts : (xs ys : List Post) (n : Naming) → IsNewlyNamed ys n → IsNewlyNamed (xs ++ ys) n
later-posts xs ys n k = (k.0, has-right xs ys k.0 k.1, k.2)

early-posts : (xs ys : List Post) (n : Naming) → IsNewlyNamed xs n → IsNewlyNamed (xs ++ ys) n
early-posts xs ys n k = (k.0, has-left xs ys k.0 k.1, k.2)

-- what is named after a step was named before, or is sent in it
abbrev pub NamesBySending : LeaderStep → List Naming → Type 0
NamesBySending s before = (n : Naming) → Has n s.leader.memory.named → Has n before ⊎ IsNewlyNamed s.posts n

-- an abort is named to each other member
aborts-named : (inc : ℕ) (a : AttemptId) (ts : List ℕ) (n : Naming) → Has n (map (naming_to inc a) ts) → IsNewlyNamed (map (abort_to inc a) ts) n
aborts-named inc a ts n i =
    let t = has-from_map (naming_to inc a) ts n i in (
      abort_to inc a t.0,
      has-map (abort_to inc a) ts t.0 t.1,
      subst (λ z. IsMarkPost z (abort_to inc a t.0)) t.2 (record { marks = (a, false) ∷ []; message = refl; to = refl; names = inl refl }),
    )

ok-names : (t : ℕ) (a : AttemptId) (e : Entry) (u : Undecided) (l : LeaderOf) → NamesBySending (ok_heard t a e u l) l.memory.named
ok-names t a e u l = by (are_all_counted e (with_target u.counted t))
  where
    by : (s : Bool) → NamesBySending (if s then record { leader = decided a l; posts = ended u.client a e.epoch outcome.Committed } else quietly (with_undecided (map (counted_at a t) l.memory.undecided) l)) l.memory.named
    by true n i = inl i
    by false n i = inl i

answer-names : (t : ℕ) (a : AttemptId) (refusal : Option Outcome) (e : Entry) (u : Undecided) (l : LeaderOf) → NamesBySending (answer_heard t a refusal e u l) l.memory.named
answer-names t a None e u l n i = ok-names t a e u l n i
answer-names t a (Some how) e u l n i =
    elim (has-cases l.memory.named (map (naming_to l.incarnation a) (other_members e)) n i) [
      | inl j ↦ inl j
      | inr j ↦ inr (later-posts (ended u.client a e.epoch how) (map (abort_to l.incarnation a) (other_members e)) n (aborts-named l.incarnation a (other_members e) n j))
    ]

awaited-names : (t : ℕ) (a : AttemptId) (refusal : Option Outcome) (e : Option Entry) (u : Option Undecided) (l : LeaderOf) → NamesBySending (answer_if_awaited t a refusal e u l) l.memory.named
awaited-names t a refusal None u l n i = inl i
awaited-names t a refusal (Some e) None l n i = inl i
awaited-names t a refusal (Some e) (Some u) l n i = by (is_other_member e t) n i
  where
    by : (s : Bool) → NamesBySending (if s then answer_heard t a refusal e u l else quietly l) l.memory.named
    by true n i = answer-names t a refusal e u l n i
    by false n i = inl i

pub ack-names : (t : ℕ) (a : AttemptId) (inc : ℕ) (refusal : Option Outcome) (l : LeaderOf) → NamesBySending (ack_heard t a inc refusal l) l.memory.named
unfolding ack_heard
ack-names t a inc refusal l = by (inc == l.incarnation)
  where
    by : (s : Bool) → NamesBySending (if s then answer_if_awaited t a refusal (entry_led a l) (undecided_of a l) l else quietly l) l.memory.named
    by true n i = awaited-names t a refusal (entry_led a l) (undecided_of a l) l n i
    by false n i = inl i

-- ---- a batch

marked-of : (ids : List AttemptId) (a : AttemptId) → Has a ids → Has a (attempts_of (map commit_mark ids))
marked-of [] a i = i
marked-of (b ∷ ids) a (inl same) = inl same
marked-of (b ∷ ids) a (inr i) = inr (marked-of ids a i)

-- each of those that are told to a target is named in the Mark to it
told-named : (inc t : ℕ) (ids : List AttemptId) (n : Naming) → Has n (map (naming t inc) ids) → IsNewlyNamed (mark_with inc t ids) n
told-named inc t [] n i = absurd i
told-named inc t (a ∷ ids) n i =
    let b = has-from_map (naming t inc) (a ∷ ids) n i in
    let some : is_empty (a ∷ ids) ≡ false = grind (arith, nat_tests) in
    subst (IsNewlyNamed (mark_with inc t (a ∷ ids))) b.2
    (subst (λ (s : Bool). IsNewlyNamed (if s then [] else to_target t (message.Mark inc (map commit_mark (a ∷ ids))) ∷ []) (naming t inc b.0)) (sym some)
    (to_target t (message.Mark inc (map commit_mark (a ∷ ids))), inl refl, record { marks = map commit_mark (a ∷ ids); message = refl; to = refl; names = marked-of (a ∷ ids) b.0 b.1 }))

all-named : (inc down : ℕ) (named : List Naming) (es : List Entry) (ts : List ℕ) (n : Naming) → Has n (names_for inc down named es ts) → IsNewlyNamed (marks_for inc down named es ts) n
all-named inc down named es [] n i = absurd i
all-named inc down named es (t ∷ ts) n i =
    elim (has-cases (map (naming t inc) (owed down named es t)) (names_for inc down named es ts) n i) [
      | inl j ↦ early-posts (mark_with inc t (owed down named es t)) (marks_for inc down named es ts) n (told-named inc t (owed down named es t) n j)
      | inr j ↦ later-posts (mark_with inc t (owed down named es t)) (marks_for inc down named es ts) n (all-named inc down named es ts n j)
    ]

pub batch-names : (l : LeaderOf) → NamesBySending (batched l) l.memory.named
unfolding batched
batch-names l n i =
    elim (has-cases l.memory.named (names_for l.incarnation l.memory.down l.memory.named l.entries all_targets) n i) [
      | inl j ↦ inl j
      | inr j ↦ inr (all-named l.incarnation l.memory.down l.memory.named l.entries all_targets n j)
    ]

-- ---- a Marked

-- what a Marked answers is named no more
pub answered-goes : (t inc : ℕ) (ids : List AttemptId) (named : List Naming) (n : Naming) → Has n (answered t inc ids named) → n.member ≡ t → n.inc ≡ inc → Has n.attempt ids → ⊥
unfolding is_named_in
answered-goes t inc ids named n i member own among =
    let k = has-from_filter (is_not_named_in t inc ids) named n i in
    let one : (n.member == t) ≡ true = grind (arith, nat_tests) in
    let two : (n.inc == inc) ≡ true = grind (arith, nat_tests) in
    let three : is_among n.attempt ids ≡ true = any-has (is_attempt n.attempt) ids n.attempt among (same_attempt-itself n.attempt) in
    let last : not ((n.member == t) && (n.inc == inc) && is_among n.attempt ids) ≡ true = k.1 in
    (let no : ⊥ = cc (one, two, three, last) in no)

-- ---- turns

-- what a message that is heard doesn't answer
abbrev pub IsUnanswered : ActorId → Naming → Message → Type 0
IsUnanswered from n (message.Marked inc ids) = n.member ≡ from.number → n.inc ≡ inc → Has n.attempt ids → ⊥
IsUnanswered from n q = Unit {0}

-- what is named after a turn was named before, and isn't answered in it, or is sent in it
abbrev pub NamesAfter : (List Naming) → (Naming → Type 0) → TargetMemory × Did → Type 0
NamesAfter before Open left = (n : Naming) → Has n left.0.leader.named → (Has n before × Open n) ⊎ IsNewlyNamed left.1.posts n

names-same : (m : TargetMemory) (left : TargetMemory × Did) (Open : Naming → Type 0) → left.0.leader.named ≡ m.leader.named → ((n : Naming) → Open n) → NamesAfter m.leader.named Open left
names-same m left Open same all n i = inl (subst (Has n) same i, all n)

abbrev AckStands : TargetMemory → ack.AckStage → Kept → Type 0
AckStands m ack.Heard k = Unit {0}
AckStands m (ack.Followed s) k = NamesBySending s m.leader.named

ack-step : (t : TargetPlan) (m : TargetMemory) (member : ℕ) (a : AttemptId) (inc : ℕ) (refusal : Option Outcome) (s : ack.AckStage) (k : Kept) (o : Option Change) (u : ack.AckStage) (l : Kept)
    → ack.AckNext t m member a inc refusal s k o u → Steps o k l → AckStands m s k → AckStands m u l
ack-step t m member a inc refusal s k o u l (ack.Aborts j is) steps h = ack-names member a inc refusal (leader_at t m k.durable)
ack-step t m member a inc refusal s k o u l (ack.Counts j is) steps h = ack-names member a inc refusal (leader_at t m k.durable)

ack-ends : (m : TargetMemory) (s : ack.AckStage) (k : Kept) (left : TargetMemory × Did) → AckStands m s k → ack.AckEnds m s k left → NamesAfter m.leader.named (λ n. Unit {0}) left
ack-ends m s k left stands (ack.IsFollowed j step z is) n i =
    elim (stands n (subst (λ x. Has n x.0.leader.named) is i)) [
      | inl j ↦ inl (j, tt)
      | inr j ↦ inr (subst (λ x. IsNewlyNamed x.1.posts n) (sym is) j)
    ]

-- whatever a leader hears as an Ack
pub acks-names : (t : TargetPlan) (m : TargetMemory) (member : ℕ) (a : AttemptId) (inc : ℕ) (refusal : Option Outcome) (old new : Kept) (left : TargetMemory × Did) → Whole (ack.AckNext t m member a inc refusal) (ack.AckEnds m) ack.Heard old new left
    → NamesAfter m.leader.named (λ n. Unit {0}) left
acks-names t m member a inc refusal old new left h = ack-ends m h.last new left (reached-keeps (ack.AckNext t m member a inc refusal) (AckStands m) (ack-step t m member a inc refusal) ack.Heard old h.last new h.reached tt) h.ends

marked-ends : (t : TargetPlan) (m : TargetMemory) (member inc : ℕ) (ids s : List AttemptId) (k : Kept) (left : TargetMemory × Did) → ack.MarkedEnds t m member inc ids s k left
    → NamesAfter m.leader.named (λ n. n.member ≡ member → n.inc ≡ inc → Has n.attempt ids → ⊥) left
unfolding marked_heard
marked-ends t m member inc ids s k left (ack.AllConfirmed j z is) n i =
    let now : Has n (answered member inc ids m.leader.named) = subst (λ x. Has n x.0.leader.named) is i in
    inl ((has-from_filter (is_not_named_in member inc ids) m.leader.named n now).0, answered-goes member inc ids m.leader.named n now)

pub hears-names : (t : TargetPlan) (opening : Epoch × FloorWhy) (m : TargetMemory) (reading : ℕ) (from : ActorId) (q : Message) (old new : Kept) (left : TargetMemory × Did)
    → HearsRightly t opening m reading from q old new left → NamesAfter m.leader.named (λ n. IsUnanswered from n q) left
hears-names t opening m reading from (message.Fetch x op group ep first tracker r snapshot) old new left h =
    names-same m left (λ n. Unit {0}) (fetch-leaves t m reading (fetch_request x op group ep first tracker r snapshot) from h.last new left h.ends).leads.named (λ n. tt)
hears-names t opening m reading from (message.Commit x ep first tracker ws) old new left h =
    names-same m left (λ n. Unit {0}) (commit-leaves t opening m reading (commit_request x ep first tracker ws) from h.last new left h.ends).named (λ n. tt)
hears-names t opening m reading from (message.Prepare e first ws inc) old new left h =
    names-same m left (λ n. Unit {0}) (ap (λ z. z.leader.named) (prepare-leaves t opening m (prepare_request e first ws inc) h.last new left h.ends)) (λ n. tt)
hears-names t opening m reading from (message.Ack x inc refusal) old new left h = acks-names t m from.number x inc refusal old new left h
hears-names t opening m reading from (message.Mark inc marks) old new left h = names-same m left (λ n. Unit {0}) (ap (λ z. z.leader.named) (mark-leaves m from inc marks h.last new left h.ends)) (λ n. tt)
hears-names t opening m reading from (message.Marked inc ids) old new left h = marked-ends t m from.number inc ids h.last new left h.ends
hears-names t opening m reading from (message.Query x ask) old new left h = names-same m left (λ n. Unit {0}) (ap (λ z. z.leader.named) (query-leaves t m from x ask h.last new left h.ends)) (λ n. tt)
hears-names t opening m reading from (message.Verdict x ask inc v) old new left h = names-same m left (λ n. Unit {0}) (verdict-leaves (is_in_doubt t.me) t m reading x ask v old new left h).0.leads.named (λ n. tt)
hears-names t opening m reading from q old new left h = absurd h

idle-ends : (settling : Bool) (t : TargetPlan) (m : TargetMemory) (s : List AttemptId) (k : Kept) (left : TargetMemory × Did) → IdleEnds settling t m s k left → NamesAfter m.leader.named (λ n. Unit {0}) left
idle-ends settling t m s k left (AllSettled j z is) n i =
    elim (batch-names (leader_at t (with_unsettled [] m) k.durable) n (subst (λ x. Has n x.0.leader.named) is i)) [
      | inl j ↦ inl (j, tt)
      | inr j ↦ inr (subst (λ x. IsNewlyNamed x.1.posts n) (sym is) (early-posts (batch_of t m k.durable).posts (inquiry_of settling t m k.durable).freed.posts n j))
    ]

pub idles-names : (settling : Bool) (t : TargetPlan) (m : TargetMemory) (old new : Kept) (left : TargetMemory × Did) → IdlesWhole settling t m old new left → NamesAfter m.leader.named (λ n. Unit {0}) left
idles-names settling t m old new left h = idle-ends settling t m h.last new left h.ends

-- ---- the world

-- something holds of all that targets named and have no answer on
abbrev pub NamedSo : (World → ℕ → Naming → Type 0) → World → Type 0
NamedSo C w = (t : ℕ) (s : TargetState) (n : Naming) → slice_get w.targets t ≡ Some s → Has n s.memory.leader.named → C w t n

-- where no target changes, and what holds stays
pub untouched-named : (C : World → ℕ → Naming → Type 0) (w v : World) → v.targets ≡ w.targets → ((t : ℕ) (n : Naming) → C w t n → C v t n) → NamedSo C w → NamedSo C v
untouched-named C w v same on k t s n here i = on t n (k t s n (subst (λ ts. slice_get ts t ≡ Some s) same here) i)

-- a client's turn leaves each Mark and each answer in flight
pub client-named : (w v : World) → ClientMoves w v → (t : ℕ) (n : Naming) → Flies w (IsNamingOf t n) → Flies v (IsNamingOf t n)
client-named w v g t n (l, j, IsMark marks is from to names) = (l, g.stays l n.member j to, IsMark marks is from to names)
client-named w v g t n (l, j, IsMarked ids is from to names) = (l, g.stays l t j to, IsMarked ids is from to names)

-- a Mark that is heard is answered with all that it names
abbrev pub MarksAreAnswered : ActorId → Message → List Post → Type 0
MarksAreAnswered from (message.Mark inc marks) posts = Has (record { to = from; message = message.Marked inc (attempts_of marks) }) posts
MarksAreAnswered from q posts = Unit {0}

mark-answers : (m : TargetMemory) (from : ActorId) (inc : ℕ) (marks s : List (AttemptId × Bool)) (k : Kept) (left : TargetMemory × Did) → mark.MarkEnds m from inc marks s k left
    → Has (record { to = from; message = message.Marked inc (attempts_of marks) }) left.1.posts
mark-answers m from inc marks s k left (mark.AllMarked j z is) = subst (λ x. Has (record { to = from; message = message.Marked inc (attempts_of marks) }) x.1.posts) (sym is) (inl refl)

pub marks-answered : (t : TargetPlan) (opening : Epoch × FloorWhy) (m : TargetMemory) (reading : ℕ) (from : ActorId) (q : Message) (old new : Kept) (left : TargetMemory × Did)
    → HearsRightly t opening m reading from q old new left → MarksAreAnswered from q left.1.posts
marks-answered t opening m reading from (message.Mark inc marks) old new left h = mark-answers m from inc marks h.last new left h.ends
marks-answered t opening m reading from (message.Fetch x op group ep first tracker r snapshot) old new left h = tt
marks-answered t opening m reading from (message.Commit x ep first tracker ws) old new left h = tt
marks-answered t opening m reading from (message.Prepare e first ws inc) old new left h = tt
marks-answered t opening m reading from (message.Ack x inc refusal) old new left h = tt
marks-answered t opening m reading from (message.Marked inc ids) old new left h = tt
marks-answered t opening m reading from (message.Query x ask) old new left h = tt
marks-answered t opening m reading from (message.Verdict x ask inc v) old new left h = tt
marks-answered t opening m reading from q old new left h = absurd h

-- a target that hears a letter
module _ (w v : World) (t : ℕ) (s z : TargetState) (l : Letter) (posts : List Post) (g : TargetMoves w v t s z (Some l) posts) (to : l.to ≡ target t) (answered : MarksAreAnswered l.from l.message posts) where
  -- what it hears isn't an answer, or is one of its own naming
  heard-on : (u : ℕ) (n : Naming) → (u ≡ t → IsUnanswered l.from n l.message) → IsNamingOf u n l → Flies v (IsNamingOf u n)
  heard-on u n open' (IsMark marks is from goes names) =
      let own : n.member ≡ t = target-is n.member t (sym goes ∙ to) in
      let p : Post = record { to = l.from; message = message.Marked n.inc (attempts_of marks) } in
      (letter_of (target t) p, g.posted p (subst (λ q. MarksAreAnswered l.from q posts) is answered), IsMarked (attempts_of marks) refl (ap target (sym own)) from names)
  heard-on u n open' (IsMarked ids is from goes names) =
      let own : u ≡ t = target-is u t (sym goes ∙ to) in
      let none : IsUnanswered l.from n (message.Marked n.inc ids) = subst (λ q. IsUnanswered l.from n q) is (open' own) in
      absurd (none (ap (λ a. a.number) (sym from)) refl names)

  pub flies-on : (u : ℕ) (n : Naming) → (u ≡ t → IsUnanswered l.from n l.message) → Flies w (IsNamingOf u n) → Flies v (IsNamingOf u n)
  flies-on u n open' (j, i, k) = elim (g.stays j i) [
    | inl heard ↦ heard-on u n open' (subst (IsNamingOf u n) (let same : j ≡ l = cc in same) k)
    | inr stays ↦ (j, stays, k)
  ]

-- a naming that is new is in flight
pub newly-flies : (w v : World) (t : ℕ) (s z : TargetState) (heard : Option Letter) (posts : List Post) → TargetMoves w v t s z heard posts → (n : Naming) → IsNewlyNamed posts n → Flies v (IsNamingOf t n)
newly-flies w v t s z heard posts g n (p, i, k) = (letter_of (target t) p, g.posted p i, IsMark k.marks k.message refl k.to k.names)

-- a target's turn keeps what holds of all that is named, where it stays of what isn't answered, and holds of each new naming
pub target-named : (C : World → ℕ → Naming → Type 0) (w v : World) (t : ℕ) (s z : TargetState) (heard : Option Letter) (posts : List Post) (Open : Naming → Type 0) → TargetMoves w v t s z heard posts
    → ((n : Naming) → Has n z.memory.leader.named → (Has n s.memory.leader.named × Open n) ⊎ IsNewlyNamed posts n) → ((n : Naming) → IsNewlyNamed posts n → C v t n)
    → ((u : ℕ) (n : Naming) → (u ≡ t → Open n) → C w u n → C v u n) → NamedSo C w → NamedSo C v
target-named C w v t s z heard posts Open g after new on k u y n here i = elim (one-or_another u t) [
  | inl same ↦
      let is : Some z ≡ Some y = sym (now-here w v t s z heard posts g) ∙ ap (slice_get v.targets) (sym same) ∙ here in
      subst (λ a. C v a n) (sym same)
      (elim (after n (subst (λ x. Has n x.memory.leader.named) (let one : y ≡ z = cc in one) i)) [
        | inl old ↦ on t n (λ e. old.1) (k t s n g.here old.0)
        | inr sent ↦ new n sent
      ])
  | inr other ↦ on u n (λ e. absurd (other e)) (k u y n (sym (same-there w v t s z heard posts g u other) ∙ here) i)
]
