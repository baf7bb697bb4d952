-- A target's turn that has to do with no client keeps the conversations.
use Rattle.std.specs.Prelude.{ℕ, ◌≡◌, ◌+◌, ◌++◌, ◌==◌, ◌&&◌, Bool, true, false, if◌then◌else◌, List, [], ◌∷◌, filter, map, slice_get, Option, Some, refl}
use Rattle.std.proofs.Common.{append-nil, sym, ◌∙◌, ap, subst, inl, inr}
use Rattle.std.proofs.Math.ListN.{set}
use Rattle.std.proofs.lemmas.List.Elements.{filter-append}
use Rattle.base_types.specs.declared.entry.Entry.{Entry}
use Rattle.base_types.specs.declared.epoch.Epoch.{Epoch}
use Rattle.base_types.specs.declared.id.AttemptId.{AttemptId}
use Rattle.base_messages.specs.declared.actor.ActorId.{ActorId}
use Rattle.base_messages.specs.declared.message.Message.{Message}
use Rattle.base_messages.specs.declared.message.Message.TheVariants as message
use Rattle.base_messages.specs.declared.message.Post.{Post}
use Rattle.world_base.specs.model_laws.Members.{Has, has-cases, has-from_map}
use Rattle.daos_model.specs.declared.durable.Durable.{Durable}
use Rattle.world_base.specs.dtx_base.declared.leading.Naming.{Naming}
use Rattle.world_base.specs.dtx_base.Joining.{inquired, inquiry_for, to_inquire}
use Rattle.world_base.specs.dtx_base.Leading.{batched, commit_mark, mark_with, marks_for, marked_heard, owed, to_target}
use Rattle.world_base.specs.dtx_base.Members.{all_targets}
use Rattle.world_base.specs.dtx_base.Rows.{is_empty}
use Rattle.base_types.specs.declared.outcome.FloorWhy.{FloorWhy}
use Rattle.world_base.specs.declared.did.Did.{Did}
use Rattle.world_base.specs.declared.letter.Letter.{Letter}
use Rattle.world_base.specs.declared.request.PrepareRequest.{PrepareRequest}
use Rattle.world_base.specs.declared.target.TargetMemory.{TargetMemory}
use Rattle.world_base.specs.declared.target.TargetPlan.{TargetPlan}
use Rattle.world_base.specs.declared.target.TargetState.{TargetState}
use Rattle.world_base.specs.declared.world.World.{World}
use Rattle.world_base.specs.Changes.{Kept}
use Rattle.world_base.specs.Acks as ack
use Rattle.world_base.specs.Events.{Rules, TargetHearsRightly, TargetIdles, kept, target_after, target_plan}
use Rattle.world_base.specs.Marks.{AllMarked, MarkEnds}
use Rattle.world_base.specs.Prepares as prepare
use Rattle.world_base.specs.RightTurns.{HearsRightly}
use Rattle.world_base.specs.TargetTurns.{prepare_request}
use Rattle.world_base.specs.Verdicts as verdict
use Rattle.world_base.specs.Idle.{AllSettled, IdleEnds, batch_of, idle_memory, idle_told, inquiry_of}
use Rattle.world_base.specs.Letters.{asked_after, asked_with, client, is_answer_to, is_answerable, is_reply, is_talk_of, is_tell, letter_of, letters_of, same_actor, same_truth, talk_of, target, without_first}
use Rattle.world_base.specs.Roles.{leader_at, member_at, with_unsettled}
use Rattle.world_letters.specs.talks.TalkLaws.{talk-taken}
use Rattle.world_letters.specs.waits.ClientLaws.{no-more, without-no, without-yes}
use Rattle.world_letters.specs.waits.Events.{off-talk, quiet-set, same-on}
use Rattle.world_letters.specs.waits.Lists.{filter-no, filter-none, filter-yes, held-same}
use Rattle.world_letters.specs.waits.Requests.{from-target, is_request, of-none}
use Rattle.world_letters.specs.waits.Waits.{Conversation, collected_at, held_by, held_from, is_asked_by, is_collected_of, is_open_of, is_parked_of, open_at, parked_at}

-- all of these posts go to targets
abbrev pub AreBetween : List Post → Type 0
AreBetween posts = (q : Post) → Has q posts → q.to.client ≡ false

-- ---- what is without an answer

-- the first that passes goes, and it is none of those that are looked at
pub filter-without : {T : Type 0} (p b : T → Bool) (xs : List T) → ((x : T) → p x ≡ true → b x ≡ false) → filter b (without_first p xs) ≡ filter b xs
filter-without p b [] apart = refl
filter-without {T} p b (x ∷ xs) apart = by (filter-without p b xs apart) (p x) refl
  where
    by : filter b (without_first p xs) ≡ filter b xs → (c : Bool) → p x ≡ c → filter b (without_first p (x ∷ xs)) ≡ filter b (x ∷ xs)
    by rest true is = ap (filter b) (without-yes p x xs is) ∙ sym (filter-no b x xs (apart x is))
    by rest false off = ap (filter b) (without-no p x xs off) ∙ more (b x) refl
      where
        more : (d : Bool) → b x ≡ d → filter b (x ∷ without_first p xs) ≡ filter b (x ∷ xs)
        more true e = filter-yes b x (without_first p xs) e ∙ ap (λ ys. x ∷ ys) rest ∙ sym (filter-yes b x xs e)
        more false e = filter-no b x (without_first p xs) e ∙ rest ∙ sym (filter-no b x xs e)

-- what answers a letter goes to who sent it
answers-other : (n : ℕ) (l q : Letter) → l.to.client ≡ false → is_answer_to l q ≡ true → is_asked_by n q ≡ false
unfolding is_answer_to
answers-other n l q to is = by l.to.client q.from.client (l.to.number == q.from.number) (same_actor l.from q.to) (is_reply l.message q.message) to is
  where
    by : (a b c d e : Bool) → a ≡ false → (d && (same_truth a b && c) && e) ≡ true → (b && (q.from.number == n)) ≡ false
    by true b c d e off is = let no : ⊥ = cc in absurd no
    by false true c true e off is = let no : ⊥ = cc in absurd no
    by false true c false e off is = let no : ⊥ = cc in absurd no
    by false false c d e off is = refl

-- what targets ask and answer one another leaves what clients asked
between-asked : (n t : ℕ) (asked : List Letter) (ps : List Post) → AreBetween ps → filter (is_asked_by n) (asked_after asked (letters_of (target t) ps)) ≡ filter (is_asked_by n) asked
unfolding asked_with
between-asked n t asked [] all = refl
between-asked n t asked (p ∷ ps) all = between-asked n t (asked_with asked l) ps (λ q i. all q (inr i)) ∙ one (is_answerable p.message)
  where
    l : Letter
    l = letter_of (target t) p

    one : (b : Bool) → filter (is_asked_by n) (if b then asked ++ l ∷ [] else without_first (is_answer_to l) asked) ≡ filter (is_asked_by n) asked
    one true = no-more (is_asked_by n) asked l refl
    one false = filter-without (is_answer_to l) (is_asked_by n) asked (λ q is. answers-other n l q (all p (inl refl)) is)

between-talk : (n t : ℕ) (ms : List Letter) (ps : List Post) → AreBetween ps → talk_of n (ms ++ letters_of (target t) ps) ≡ talk_of n ms
between-talk n t ms ps all =
    filter-append (is_talk_of n) ms (letters_of (target t) ps)
    ∙ ap (λ x. talk_of n ms ++ x) (filter-none (is_talk_of n) (letters_of (target t) ps) (λ l i. let z = has-from_map (letter_of (target t)) ps l i in subst (λ x. is_talk_of n x ≡ false) z.2 (off-talk n t z.0 (all z.0 z.1))))
    ∙ append-nil (talk_of n ms)

-- ---- a turn between targets

-- a target goes on and sends what goes to targets, and holds the same for clients
between-keeps : (r : Rules) (w v : World) (t : ℕ) (s z : TargetState) (rest : List Letter) (posts : List Post) → slice_get w.targets t ≡ Some s → z.life ≡ s.life → v.clients ≡ w.clients → v.targets ≡ set w.targets t z
    → v.messages ≡ rest ++ letters_of (target t) posts → v.asked ≡ asked_after w.asked (letters_of (target t) posts) → ((n : ℕ) → talk_of n rest ≡ talk_of n w.messages) → AreBetween posts
    → z.memory.member.parked ≡ s.memory.member.parked → z.memory.leader.undecided ≡ s.memory.leader.undecided → z.memory.collecting ≡ s.memory.collecting → Conversation r w → Conversation r v
between-keeps r w v t s z rest posts here life clients targets messages asked same between parked undecided collecting k =
    same-on r w v clients (λ n. ap (talk_of n) messages ∙ between-talk n t rest posts between ∙ same n) (λ n. ap (held_from n 0) targets ∙ held-same n 0 t w.targets s z here (holds n)) (λ n. ap (filter (is_asked_by n)) asked ∙ between-asked n t w.asked posts between)
    (quiet-set r w v t z targets (λ off. (let q = k.quiet t s here (λ runs. off (life ∙ runs)) in record { parked = parked ∙ q.parked; undecided = undecided ∙ q.undecided; collecting = collecting ∙ q.collecting })) k) k
  where
    holds : (n : ℕ) → held_by n (0 + t) z.memory ≡ held_by n (0 + t) s.memory
    holds n =
        ap (λ ps. map (parked_at (0 + t)) (filter (is_parked_of n) ps) ++ (map (open_at (0 + t)) (filter (is_open_of n) z.memory.leader.undecided) ++ map (collected_at (0 + t)) (filter (is_collected_of n) z.memory.collecting))) parked
        ∙ ap (λ us. map (parked_at (0 + t)) (filter (is_parked_of n) s.memory.member.parked) ++ (map (open_at (0 + t)) (filter (is_open_of n) us) ++ map (collected_at (0 + t)) (filter (is_collected_of n) z.memory.collecting))) undecided
        ∙ ap (λ cs. map (parked_at (0 + t)) (filter (is_parked_of n) s.memory.member.parked) ++ (map (open_at (0 + t)) (filter (is_open_of n) s.memory.leader.undecided) ++ map (collected_at (0 + t)) (filter (is_collected_of n) cs))) collecting

-- ---- idle work

both-between : (ps qs : List Post) → AreBetween ps → AreBetween qs → AreBetween (ps ++ qs)
both-between ps qs f g q i = elim (has-cases ps qs q i) [ inl j ↦ f q j | inr j ↦ g q j ]

mark-between : (inc t : ℕ) (ids : List AttemptId) → AreBetween (mark_with inc t ids)
mark-between inc t ids = by (is_empty ids)
  where
    by : (b : Bool) → AreBetween (if b then [] else to_target t (message.Mark inc (map commit_mark ids)) ∷ [])
    by true = λ q i. absurd i
    by false = one
      where
        one : AreBetween (to_target t (message.Mark inc (map commit_mark ids)) ∷ [])
        one q (inl same) = ap (λ x. x.to.client) same
        one q (inr none) = absurd none

marks-between : (inc down : ℕ) (named : List Naming) (es : List Entry) (ts : List ℕ) → AreBetween (marks_for inc down named es ts)
marks-between inc down named es [] = λ q i. absurd i
marks-between inc down named es (t ∷ ts) = both-between (mark_with inc t (owed down named es t)) (marks_for inc down named es ts) (mark-between inc t (owed down named es t)) (marks-between inc down named es ts)

idle-between : (settling : Bool) (p : TargetPlan) (m : TargetMemory) (d : Durable) → AreBetween (idle_told settling p m d).posts
unfolding batched inquired
idle-between settling p m d = both-between (batch_of p m d).posts (inquiry_of settling p m d).freed.posts (marks-between d.incarnation m.leader.down m.leader.named (leader_at p (with_unsettled [] m) d).entries all_targets) (asks settling)
  where
    asks : (b : Bool) → AreBetween (inquiry_of b p m d).freed.posts
    asks false = λ q i. absurd i
    asks true = λ q i. (let z = has-from_map inquiry_for (to_inquire d.entries (member_at p m)) q i in ap (λ x. x.to.client) (sym z.2))

idle-parked : (settling : Bool) (p : TargetPlan) (m : TargetMemory) (d : Durable) → (idle_memory settling p m d).member.parked ≡ m.member.parked
unfolding inquired
idle-parked true p m d = refl
idle-parked false p m d = refl

idle-undecided : (settling : Bool) (p : TargetPlan) (m : TargetMemory) (d : Durable) → (idle_memory settling p m d).leader.undecided ≡ m.leader.undecided
unfolding batched
idle-undecided settling p m d = refl

pub idle-keeps : (r : Rules) (w v : World) → TargetIdles r w v → Conversation r w → Conversation r v
idle-keeps r w v g k = by g.turn.last g.new g.turn.ends
  where
    by : (s : List AttemptId) (n : Kept) → IdleEnds g.settling (target_plan r g.t) g.s.memory s n (g.memory, g.did) → Conversation r v
    by s n (AllSettled n2 left says) =
        between-keeps r w v g.t g.s (target_after g.s g.new g.memory) w.messages g.did.posts g.here refl (ap (λ x. x.clients) g.after) (ap (λ x. x.targets) g.after) (ap (λ x. x.messages) g.after) (ap (λ x. x.asked) g.after) (λ m. refl)
        (subst AreBetween (sym (ap (λ o. o.1.posts) says)) (idle-between g.settling (target_plan r g.t) g.s.memory n.durable)) (ap (λ o. o.0.member.parked) says ∙ idle-parked g.settling (target_plan r g.t) g.s.memory n.durable)
        (ap (λ o. o.0.leader.undecided) says ∙ idle-undecided g.settling (target_plan r g.t) g.s.memory n.durable) (ap (λ o. o.0.collecting) says) k

-- ---- what targets ask and answer one another that has to do with no client

-- to prepare an attempt, to mark some, the answer to that, and a question about one
abbrev pub is_between : Message → Bool
is_between (message.Prepare e first ws inc) = true
is_between (message.Mark inc marks) = true
is_between (message.Marked inc ids) = true
is_between (message.Query x ask) = true
is_between m = false

between-asks_not : (m : Message) → is_between m ≡ true → is_request m ≡ false
between-asks_not (message.Prepare e first ws inc) h = refl
between-asks_not (message.Mark inc marks) h = refl
between-asks_not (message.Marked inc ids) h = refl
between-asks_not (message.Query x ask) h = refl
between-asks_not m h = let no : ⊥ = cc in absurd no

between-tells : (m : Message) → is_between m ≡ true → is_tell m ≡ false
between-tells (message.Tell k) h = let no : ⊥ = cc in absurd no
between-tells m h = refl

-- what follows from such a message
record StaysBetween (m : TargetMemory) (left : TargetMemory × Did) : Type 0 where
  posts : AreBetween left.1.posts
  parked : left.0.member.parked ≡ m.member.parked
  undecided : left.0.leader.undecided ≡ m.leader.undecided
  collecting : left.0.collecting ≡ m.collecting

one-between : (posts : List Post) (q : Post) → posts ≡ q ∷ [] → q.to.client ≡ false → AreBetween posts
one-between posts q e off s i = by (subst (Has s) e i)
  where
    by : Has s (q ∷ []) → s.to.client ≡ false
    by (inl same) = ap (λ x. x.to.client) same ∙ off
    by (inr none) = absurd none

prepare-between : (t : TargetPlan) (opening : Epoch × FloorWhy) (m : TargetMemory) (q : PrepareRequest) (s : prepare.PrepareStage) (k : Kept) (left : TargetMemory × Did) → prepare.PrepareEnds t opening m q s k left → StaysBetween m left
prepare-between t opening m q s k left (prepare.IsRefused k2 c left2 why says) = record { posts = one-between left2.1.posts _ (ap (λ o. o.1.posts) says) refl; parked = ap (λ o. o.0.member.parked) says; undecided = ap (λ o. o.0.leader.undecided) says; collecting = ap (λ o. o.0.collecting) says }
prepare-between t opening m q s k left (prepare.HasNoSpace k2 left2 allowed full says) = record { posts = one-between left2.1.posts _ (ap (λ o. o.1.posts) says) refl; parked = ap (λ o. o.0.member.parked) says; undecided = ap (λ o. o.0.leader.undecided) says; collecting = ap (λ o. o.0.collecting) says }
prepare-between t opening m q s k left (prepare.IsPrepared k2 left2 says) = record { posts = one-between left2.1.posts _ (ap (λ o. o.1.posts) says) refl; parked = ap (λ o. o.0.member.parked) says; undecided = ap (λ o. o.0.leader.undecided) says; collecting = ap (λ o. o.0.collecting) says }

marked-between : (m : TargetMemory) (from : ActorId) (inc : ℕ) (marks rest : List (AttemptId × Bool)) (k : Kept) (left : TargetMemory × Did) → from.client ≡ false → MarkEnds m from inc marks rest k left → StaysBetween m left
marked-between m from inc marks rest k left off (AllMarked k2 left2 says) = record { posts = one-between left2.1.posts _ (ap (λ o. o.1.posts) says) off; parked = ap (λ o. o.0.member.parked) says; undecided = ap (λ o. o.0.leader.undecided) says; collecting = ap (λ o. o.0.collecting) says }

confirmed-between : (t : TargetPlan) (m : TargetMemory) (member inc : ℕ) (ids rest : List AttemptId) (k : Kept) (left : TargetMemory × Did) → ack.MarkedEnds t m member inc ids rest k left → StaysBetween m left
unfolding marked_heard
confirmed-between t m member inc ids rest k left (ack.AllConfirmed k2 left2 says) = record { posts = λ q i. absurd (subst (Has q) (ap (λ o. o.1.posts) says) i); parked = ap (λ o. o.0.member.parked) says; undecided = ap (λ o. o.0.leader.undecided) says; collecting = ap (λ o. o.0.collecting) says }

query-between : (t : TargetPlan) (m : TargetMemory) (from : ActorId) (a : AttemptId) (ask : Option AttemptId) (s : verdict.QueryStage) (k : Kept) (left : TargetMemory × Did) → from.client ≡ false → verdict.QueryEnds t m from a ask s k left → StaysBetween m left
query-between t m from a ask s k left off (verdict.IsTold k2 left2 says) = record { posts = one-between left2.1.posts _ (ap (λ o. o.1.posts) says) off; parked = ap (λ o. o.0.member.parked) says; undecided = ap (λ o. o.0.leader.undecided) says; collecting = ap (λ o. o.0.collecting) says }

hears-between : (t : TargetPlan) (opening : Epoch × FloorWhy) (m : TargetMemory) (reading : ℕ) (from : ActorId) (q : Message) (old new : Kept) (left : TargetMemory × Did) → is_between q ≡ true → from.client ≡ false → HearsRightly t opening m reading from q old new left → StaysBetween m left
hears-between t opening m reading from (message.Prepare e first ws inc) old new left kind off h = prepare-between t opening m (prepare_request e first ws inc) h.last new left h.ends
hears-between t opening m reading from (message.Mark inc marks) old new left kind off h = marked-between m from inc marks h.last new left off h.ends
hears-between t opening m reading from (message.Marked inc ids) old new left kind off h = confirmed-between t m from.number inc ids h.last new left h.ends
hears-between t opening m reading from (message.Query x ask) old new left kind off h = query-between t m from x ask h.last new left off h.ends
hears-between t opening m reading from q old new left kind off h = let no : ⊥ = cc in absurd no

pub between-hears : (r : Rules) (w v : World) → (g : TargetHearsRightly r w v) → is_between g.l.message ≡ true → Conversation r w → Conversation r v
between-hears r w v g kind k =
    let asks_not = between-asks_not g.l.message kind in
    let no_tell = between-tells g.l.message kind in
    let from = from-target r w k g.l g.rest g.takes g.t g.to_it asks_not no_tell in
    let s = hears-between (target_plan r g.t) g.s.opening g.s.memory g.reading g.l.from g.l.message (kept g.s) g.new (g.memory, g.did) kind from g.turn in
    between-keeps r w v g.t g.s (target_after g.s g.new g.memory) g.rest g.did.posts g.here refl (ap (λ x. x.clients) g.after) (ap (λ x. x.targets) g.after) (ap (λ x. x.messages) g.after) (ap (λ x. x.asked) g.after)
    (λ n. talk-taken n w.messages g.l g.rest g.takes (of-none r w k g.l g.rest g.takes g.t g.to_it asks_not no_tell n)) s.posts s.parked s.undecided s.collecting k
