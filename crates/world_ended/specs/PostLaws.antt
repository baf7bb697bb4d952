-- The steps of leaders and members end as committed only what was asked.
use Rattle.std.specs.Prelude.{ℕ, ◌≡◌, ◌++◌, ◌||◌, ◌==◌, Bool, true, false, List, [], ◌∷◌, filter, map, Option, Some, None, refl, if◌then◌else◌}
use Rattle.std.proofs.Common.{inl, inr, sym, ◌∙◌, ap, subst}
use Rattle.base_types.specs.declared.entry.Entry.{Entry}
use Rattle.base_types.specs.declared.entry.EntryState.{EntryState}
use Rattle.base_types.specs.declared.entry.EntryState.TheVariants as state
use Rattle.base_types.specs.declared.entry.Verdict.{Verdict}
use Rattle.base_types.specs.declared.entry.Verdict.TheVariants as verdict
use Rattle.base_types.specs.declared.epoch.Epoch.{Epoch}
use Rattle.base_types.specs.declared.id.AttemptId.{AttemptId}
use Rattle.base_types.specs.declared.operation.MinorWrite.{MinorWrite}
use Rattle.base_types.specs.declared.outcome.Outcome.{Outcome}
use Rattle.base_types.specs.declared.outcome.Outcome.TheVariants as outcome
use Rattle.base_messages.specs.declared.actor.ActorId.{ActorId}
use Rattle.base_messages.specs.declared.message.Message.{Message}
use Rattle.base_messages.specs.declared.message.Message.TheVariants as message
use Rattle.base_messages.specs.declared.message.Post.{Post}
use Rattle.daos_model.specs.Durables.{same_attempt}
use Rattle.world_letters.specs.dtx_base.declared.leading.LeaderMemory.{LeaderMemory}
use Rattle.world_letters.specs.dtx_base.declared.leading.Naming.{Naming}
use Rattle.world_letters.specs.dtx_base.declared.leading.Undecided.{Undecided}
use Rattle.world_letters.specs.dtx_base.declared.member.Parked.{Parked}
use Rattle.world_letters.specs.dtx_base.Asking.{ask_heard, asked_of, asked_open, tells_end, waits_at}
use Rattle.world_letters.specs.dtx_base.Joining as member
use Rattle.world_letters.specs.dtx_base.Joining.{MemberOf, all_unresolved_told, inquired, inquiry_for, is_waiting, query_for, to_inquire, unresolved, unresolved_told, verdict_heard}
use Rattle.world_letters.specs.dtx_base.Leading.{LeaderOf, LeaderStep, abort_to, ack_heard, answer_heard, answer_if_awaited, batched, begun, begun_alone, begun_with_others, commit_mark, counted_at, decided, down_told, ended, entry_led, first_down, first_memory, is_open, knowing, mark_reset, mark_with, marks_for, new_undecided, ok_heard, owed, prepare_reset, prepare_to, quietly, refusal_heard, reopened_undecided, reset_heard, reset_of, status_asked, to_target, undecided_attempt, undecided_of, unwaited_at, with_undecided}
use Rattle.world_letters.specs.dtx_base.Members.{all_targets, are_all_counted, is_other_member, other_members, with_target}
use Rattle.world_letters.specs.dtx_base.Rows.{is_among, is_empty, is_other_row, is_row_of, row_key, with_row, without_row}
use Rattle.world_letters.specs.model_laws.EntryLaws.{found-has, found-passes, has-put, same-attempt}
use Rattle.world_letters.specs.model_laws.Members.{Has, has-cases, has-from_filter, has-from_map}
use Rattle.world_letters.specs.world_base.Statuses.{status_refusal, status_to, statuses_for}
use Rattle.world_letters.specs.clients.Answered.{is_refusal}
use Rattle.world_ended.specs.Asking.{AreRefusals, Asked, EndsAsked, GoesWith, IsEnd, LeavesWith, PostsGoWith, WaitWith}

-- ---- lists of posts

pub none-posted : (asked : Asked) → PostsGoWith asked []
none-posted asked q i = absurd i

pub one-posted : (asked : Asked) (p : Post) → GoesWith asked p.message → PostsGoWith asked (p ∷ [])
one-posted asked p k q (inl same) = subst (λ (z : Post). GoesWith asked z.message) (sym same) k
one-posted asked p k q (inr i) = absurd i

pub both-posted : (asked : Asked) (ps qs : List Post) → PostsGoWith asked ps → PostsGoWith asked qs → PostsGoWith asked (ps ++ qs)
both-posted asked ps qs k l q i = elim (has-cases ps qs q i) [ inl j ↦ k q j | inr j ↦ l q j ]

pub map-posted : {T : Type 0} (asked : Asked) (f : T → Post) (xs : List T) → ((x : T) → GoesWith asked (f x).message) → PostsGoWith asked (map f xs)
map-posted asked f xs k q i = let x = has-from_map f xs q i in subst (λ (z : Post). GoesWith asked z.message) x.2 (k x.0)

-- the client that waits is told how its attempt ended
ended-posted : (asked : Asked) (c : Option ActorId) (a : AttemptId) (e : Epoch) (how : Outcome) → ((x : ActorId) → c ≡ Some x → IsEnd (asked a) how) → PostsGoWith asked (ended c a e how)
ended-posted asked None a e how k = none-posted asked
ended-posted asked (Some x) a e how k = one-posted asked (record { to = x; message = message.Ended a (Some e) how }) (k x refl)

-- ---- what a leader remembers

-- where the same clients wait
pub waits-on : (asked : Asked) (old new : LeaderMemory) (posts : List Post) → new.undecided ≡ old.undecided → PostsGoWith asked posts → EndsAsked asked old new posts
waits-on asked old new posts same k waits = record { said = k; waiting = λ u c i is. waits u c (subst (Has u) same i) is }

-- the attempt of a row that was found
row-attempt : (a : AttemptId) (us : List Undecided) (u : Undecided) (l : LeaderOf) → undecided_of a l ≡ Some u → u.attempt ≡ a
row-attempt a us u l is = same-attempt u.attempt a (found-passes (is_row_of undecided_attempt a) l.memory.undecided u is)

-- ---- an attempt begins

-- that a client asked to commit
pub beginnings-end : (asked : Asked) (e : Entry) (first : Option Epoch) (client : ActorId) (ws : List MinorWrite) (l : LeaderOf) → asked e.attempt ≡ true
    → EndsAsked asked l.memory (begun e first client ws l).leader.memory (begun e first client ws l).posts
unfolding begun
beginnings-end asked e first client ws l was waits = by (is_empty (other_members e))
  where
    alone : LeavesWith asked (begun_alone e client l).leader.memory (begun_alone e client l).posts
    alone = record { said = one-posted asked (record { to = client; message = message.Ended e.attempt (Some e.epoch) outcome.Committed }) (inr (refl, was)); waiting = waits }

    still : (u : Undecided) (c : ActorId) → Has u (with_row undecided_attempt (new_undecided e.attempt (Some client)) l.memory.undecided) → u.client ≡ Some c → asked u.attempt ≡ true
    still u c i is = elim (has-put (row_key undecided_attempt) (new_undecided e.attempt (Some client)) l.memory.undecided u i) [
      | inl new ↦ subst (λ (z : Undecided). asked z.attempt ≡ true) (sym new) was
      | inr old ↦ waits u c old is
    ]

    others : LeavesWith asked (begun_with_others e first client ws l).leader.memory (begun_with_others e first client ws l).posts
    others = record { said = map-posted asked (prepare_to l.targets l.incarnation e first ws) (other_members e) (λ t. tt); waiting = still }

    by : (b : Bool) → LeavesWith asked (if b then begun_alone e client l else begun_with_others e first client ws l).leader.memory (if b then begun_alone e client l else begun_with_others e first client ws l).posts
    by true = alone
    by false = others

-- ---- an Ack

module _ (asked : Asked) (t : ℕ) (a : AttemptId) (l : LeaderOf) (waits : WaitWith asked l.memory) where
  quiet-leaves : LeavesWith asked (quietly l).leader.memory (quietly l).posts
  quiet-leaves = record { said = none-posted asked; waiting = waits }

  gone : (u : Undecided) (c : ActorId) → Has u (without_row undecided_attempt a l.memory.undecided) → u.client ≡ Some c → asked u.attempt ≡ true
  gone u c i is = waits u c (has-from_filter (is_other_row undecided_attempt a) l.memory.undecided u i).0 is

  counted-client : (b : Bool) (u : Undecided) (c : ActorId) → (if b then record u { counted = with_target u.counted t } else u).client ≡ Some c → u.client ≡ Some c
  counted-client true u c is = is
  counted-client false u c is = is

  counted-attempt : (b : Bool) (u : Undecided) → (if b then record u { counted = with_target u.counted t } else u).attempt ≡ u.attempt
  counted-attempt true u = refl
  counted-attempt false u = refl

  counts : (u : Undecided) (c : ActorId) → Has u (map (counted_at a t) l.memory.undecided) → u.client ≡ Some c → asked u.attempt ≡ true
  counts u c i is =
      let x = has-from_map (counted_at a t) l.memory.undecided u i in
      subst (λ (y : AttemptId). asked y ≡ true) (sym (counted-attempt (same_attempt x.0.attempt a) x.0) ∙ ap (λ (z : Undecided). z.attempt) x.2)
      (waits x.0 c x.1 (counted-client (same_attempt x.0.attempt a) x.0 c (ap (λ (z : Undecided). z.client) x.2 ∙ is)))

  module _ (e : Entry) (u : Undecided) (among : Has u l.memory.undecided) (its : u.attempt ≡ a) where
    commits : PostsGoWith asked (ended u.client a e.epoch outcome.Committed)
    commits = ended-posted asked u.client a e.epoch outcome.Committed (λ c is. inr (refl, subst (λ (y : AttemptId). asked y ≡ true) its (waits u c among is)))

    abbrev decides : LeaderStep
    decides = record { leader = decided a l; posts = ended u.client a e.epoch outcome.Committed }

    ok-leaves : LeavesWith asked (ok_heard t a e u l).leader.memory (ok_heard t a e u l).posts
    ok-leaves = by (are_all_counted e (with_target u.counted t))
      where
        by : (b : Bool) → LeavesWith asked (if b then decides else quietly (with_undecided (map (counted_at a t) l.memory.undecided) l)).leader.memory (if b then decides else quietly (with_undecided (map (counted_at a t) l.memory.undecided) l)).posts
        by true = record { said = commits; waiting = gone }
        by false = record { said = none-posted asked; waiting = counts }

    refusal-leaves : (how : Outcome) → is_refusal how ≡ true → LeavesWith asked (refusal_heard a how e u l).leader.memory (refusal_heard a how e u l).posts
    refusal-leaves how refused = record {
      said = both-posted asked (ended u.client a e.epoch how) (map (abort_to l.incarnation a) (other_members e)) (ended-posted asked u.client a e.epoch how (λ c is. inl refused))
          (map-posted asked (abort_to l.incarnation a) (other_members e) (λ m. tt));
      waiting = gone;
    }

    answer-leaves : (refusal : Option Outcome) (b : Bool) → AreRefusals refusal → LeavesWith asked (if b then answer_heard t a refusal e u l else quietly l).leader.memory (if b then answer_heard t a refusal e u l else quietly l).posts
    answer-leaves None true refused = ok-leaves
    answer-leaves (Some how) true refused = refusal-leaves how refused
    answer-leaves refusal false refused = quiet-leaves

  awaited-leaves : (refusal : Option Outcome) (e : Option Entry) (u : Option Undecided) → AreRefusals refusal → undecided_of a l ≡ u → LeavesWith asked (answer_if_awaited t a refusal e u l).leader.memory (answer_if_awaited t a refusal e u l).posts
  awaited-leaves refusal None u refused is = quiet-leaves
  awaited-leaves refusal (Some e) None refused is = quiet-leaves
  awaited-leaves refusal (Some e) (Some u) refused is =
      answer-leaves e u (found-has (is_row_of undecided_attempt a) l.memory.undecided u is) (row-attempt a l.memory.undecided u l is) refusal (is_other_member e t) refused

pub acks-end : (asked : Asked) (t : ℕ) (a : AttemptId) (inc : ℕ) (refusal : Option Outcome) (l : LeaderOf) → AreRefusals refusal → EndsAsked asked l.memory (ack_heard t a inc refusal l).leader.memory (ack_heard t a inc refusal l).posts
unfolding ack_heard
acks-end asked t a inc refusal l refused waits = by (inc == l.incarnation)
  where
    by : (b : Bool) → LeavesWith asked (if b then answer_if_awaited t a refusal (entry_led a l) (undecided_of a l) l else quietly l).leader.memory (if b then answer_if_awaited t a refusal (entry_led a l) (undecided_of a l) l else quietly l).posts
    by true = awaited-leaves asked t a l waits refusal (entry_led a l) (undecided_of a l) refused refl
    by false = quiet-leaves asked t a l waits

-- what a member holds refuses nothing but what isn't resolved
pub statuses-refuse : (x : AttemptId) (how : EntryState) → AreRefusals (status_refusal x how)
statuses-refuse x state.Prepared = tt
statuses-refuse x state.Committed = tt
statuses-refuse x state.Absent = refl

-- ---- Marks

mark-posted : (asked : Asked) (inc t : ℕ) (ids : List AttemptId) → PostsGoWith asked (mark_with inc t ids)
mark-posted asked inc t ids = by (is_empty ids)
  where
    by : (b : Bool) → PostsGoWith asked (if b then [] else to_target t (message.Mark inc (map commit_mark ids)) ∷ [])
    by true = none-posted asked
    by false = one-posted asked (to_target t (message.Mark inc (map commit_mark ids))) tt

marks-posted : (asked : Asked) (inc down : ℕ) (named : List Naming) (es : List Entry) (ts : List ℕ) → PostsGoWith asked (marks_for inc down named es ts)
marks-posted asked inc down named es [] = none-posted asked
marks-posted asked inc down named es (t ∷ ts) =
    both-posted asked (mark_with inc t (owed down named es t)) (marks_for inc down named es ts) (mark-posted asked inc t (owed down named es t)) (marks-posted asked inc down named es ts)

pub batches-end : (asked : Asked) (l : LeaderOf) → EndsAsked asked l.memory (batched l).leader.memory (batched l).posts
unfolding batched
batches-end asked l waits = record { said = marks-posted asked l.incarnation l.memory.down l.memory.named l.entries all_targets; waiting = waits }

-- ---- Verdicts and Queries

unresolved-posted : (asked : Asked) (a : AttemptId) (m : Message) → PostsGoWith asked (unresolved_told a m)
unresolved-posted asked a (message.Fetch x op group ep first tracker r snapshot) = one-posted asked _ refl
unresolved-posted asked a m = none-posted asked

all-unresolved : (asked : Asked) (a : AttemptId) (ps : List Parked) → PostsGoWith asked (all_unresolved_told a ps)
all-unresolved asked a [] = none-posted asked
all-unresolved asked a (p ∷ ps) = both-posted asked (unresolved_told a p.ask) (all_unresolved_told a ps) (unresolved-posted asked a p.ask) (all-unresolved asked a ps)

pub verdicts-end : (asked : Asked) (a : AttemptId) (ask : Option AttemptId) (v : Verdict) (s : MemberOf) → PostsGoWith asked (verdict_heard a ask v s).freed.posts
unfolding unresolved
verdicts-end asked a ask verdict.Committed s = none-posted asked
verdicts-end asked a ask verdict.Aborted s = none-posted asked
verdicts-end asked a None verdict.Undecided s = none-posted asked
verdicts-end asked a (Some x) verdict.Undecided s = all-unresolved asked a (filter (is_waiting a x) s.memory.parked)

pub queries-end : (asked : Asked) (ask : Message) (on : AttemptId) (leader : ℕ) → PostsGoWith asked (query_for ask on leader)
queries-end asked ask on leader = one-posted asked _ tt

pub inquiries-end : (asked : Asked) (es : List Entry) (s : MemberOf) → PostsGoWith asked (inquired es s).freed.posts
unfolding inquired
inquiries-end asked es s = map-posted asked inquiry_for (to_inquire es s) (λ e. tt)

-- ---- an Ask

module _ (asked : Asked) (x : AttemptId) (from : ActorId) (l : LeaderOf) (was : asked x ≡ true) where
  abbrev Ends : LeaderStep → Type 0
  Ends s = EndsAsked asked l.memory s.leader.memory s.posts

  told : (e : Option Epoch) (how : Outcome) → IsEnd (asked x) how → Ends (record { leader = l; posts = tells_end from x e how })
  told e how k = waits-on asked l.memory l.memory (tells_end from x e how) refl (one-posted asked (record { to = from; message = message.Ended x e how }) k)

  waited : (b : Bool) (o u : Undecided) (c : ActorId) → same_attempt o.attempt x ≡ b → (if b then record o { client = Some from } else o) ≡ u → u.client ≡ Some c → (o.client ≡ Some c → asked o.attempt ≡ true) → asked u.attempt ≡ true
  waited true o u c same is at before = subst (λ (y : AttemptId). asked y ≡ true) (sym (same-attempt o.attempt x same) ∙ ap (λ (z : Undecided). z.attempt) is) was
  waited false o u c same is at before = subst (λ (y : AttemptId). asked y ≡ true) (ap (λ (z : Undecided). z.attempt) is) (before (ap (λ (z : Undecided). z.client) is ∙ at))

  open-ends : (e : Entry) (down : Option ℕ) → Ends (asked_open x from e down l)
  open-ends e None = λ waits. record {
    said = none-posted asked;
    waiting = λ u c i at.
        let o = has-from_map (waits_at x from) l.memory.undecided u i in
        waited (same_attempt o.0.attempt x) o.0 u c refl o.2 at (λ its. waits o.0 c o.1 its);
  }
  open-ends e (Some t) = told (Some e.epoch) (outcome.Unknown t) (inl refl)

  of-ends : (e : Option Entry) (decided : Bool) → Ends (asked_of x from e decided l)
  of-ends None decided = told None (outcome.Restart _) (inl refl)
  of-ends (Some e) decided = by (e.committed || decided)
    where
      by : (b : Bool) → Ends (if b then record { leader = l; posts = tells_end from x (Some e.epoch) outcome.Committed } else asked_open x from e (first_down e.members l.memory.down) l)
      by true = told (Some e.epoch) outcome.Committed (inr (refl, was))
      by false = open-ends e (first_down e.members l.memory.down)

  pub asks-end : Ends (ask_heard x from l)
  unfolding ask_heard
  asks-end = of-ends (entry_led x l) (is_among x l.memory.decided)

-- ---- a Reset

module _ (asked : Asked) (t : ℕ) (l : LeaderOf) where
  abbrev EndsSo : LeaderStep → Type 0
  EndsSo s = EndsAsked asked l.memory s.leader.memory s.posts

  quiet-ends : EndsSo (quietly l)
  quiet-ends = waits-on asked l.memory l.memory [] refl (none-posted asked)

  unwaited : (b : Bool) (o u : Undecided) (c : ActorId) → (if b then record o { client = None } else o) ≡ u → u.client ≡ Some c → (o.client ≡ Some c → asked o.attempt ≡ true) → asked u.attempt ≡ true
  unwaited true o u c is at before = let none : None ≡ Some c = ap (λ (z : Undecided). z.client) is ∙ at in let no : ⊥ = cc in absurd no
  unwaited false o u c is at before = subst (λ (y : AttemptId). asked y ≡ true) (ap (λ (z : Undecided). z.attempt) is) (before (ap (λ (z : Undecided). z.client) is ∙ at))

  down-ends : (a : AttemptId) (e : Option Entry) (u : Option Undecided) → EndsSo (down_told t a e u l)
  down-ends a None u = quiet-ends
  down-ends a (Some e) None = quiet-ends
  down-ends a (Some e) (Some u) = λ waits. record {
    said = ended-posted asked u.client a e.epoch (outcome.Unknown t) (λ c at. inl refl);
    waiting = λ v c i at.
        let o = has-from_map (unwaited_at a) l.memory.undecided v i in
        unwaited (same_attempt o.0.attempt a) o.0 v c o.2 at (λ its. waits o.0 c o.1 its);
  }

  status-ends : (a : AttemptId) (inc : ℕ) → EndsSo (status_asked t a inc l)
  status-ends a inc = by (inc == l.incarnation)
    where
      by : (b : Bool) → EndsSo (if b then record { leader = l; posts = to_target t (message.Status a inc) ∷ [] } else quietly l)
      by true = waits-on asked l.memory l.memory (to_target t (message.Status a inc) ∷ []) refl (one-posted asked (to_target t (message.Status a inc)) tt)
      by false = quiet-ends

  prepare-ends : (down : Bool) (a : AttemptId) (inc : ℕ) → EndsSo (prepare_reset t down a inc l)
  unfolding prepare_reset
  prepare-ends true a inc = down-ends a (entry_led a l) (undecided_of a l)
  prepare-ends false a inc = status-ends a inc

  mark-ends : (down : Bool) (inc : ℕ) (marks : List (AttemptId × Bool)) → EndsSo (mark_reset t down inc marks l)
  unfolding mark_reset
  mark-ends true inc marks = waits-on asked l.memory (mark_reset t true inc marks l).leader.memory [] refl (none-posted asked)
  mark-ends false inc marks = waits-on asked l.memory (mark_reset t false inc marks l).leader.memory (to_target t (message.Mark inc marks) ∷ []) refl (one-posted asked (to_target t (message.Mark inc marks)) tt)

  of-resets : (down : Bool) (m : Message) → EndsSo (reset_of t down m l)
  of-resets down (message.Prepare e first ws inc) = prepare-ends down e.attempt inc
  of-resets down (message.Status a inc) = prepare-ends down a inc
  of-resets down (message.Mark inc marks) = mark-ends down inc marks
  of-resets down _ = quiet-ends

  wait-knowing : (down : Bool) (k : LeaderOf) → WaitWith asked k.memory → WaitWith asked (knowing t down k).memory
  wait-knowing true k waits = waits
  wait-knowing false k waits = waits

pub resets-end : (asked : Asked) (t : ℕ) (down : Bool) (m : Message) (l : LeaderOf) → EndsAsked asked l.memory (reset_heard t down m l).leader.memory (reset_heard t down m l).posts
resets-end asked t down m l waits =
    let k = of-resets asked t l down m waits in
    record { said = k.said; waiting = wait-knowing asked t l down (reset_of t down m l).leader k.waiting }

-- and what a member does then
pub reset-members-end : (asked : Asked) (down : Bool) (m : Message) (s : MemberOf) → PostsGoWith asked (member.reset_heard down m s).freed.posts
reset-members-end asked down (message.Query a (Some x)) s = verdicts-end asked a (Some x) verdict.Undecided s
reset-members-end asked down (message.Query a None) s = none-posted asked
reset-members-end asked down _ s = none-posted asked

-- ---- an opening

statuses-posted : (asked : Asked) (inc : ℕ) (es : List Entry) → PostsGoWith asked (statuses_for inc es)
statuses-posted asked inc [] = none-posted asked
statuses-posted asked inc (e ∷ es) = both-posted asked (map (status_to inc e.attempt) (other_members e)) (statuses_for inc es) (map-posted asked (status_to inc e.attempt) (other_members e) (λ t. tt)) (statuses-posted asked inc es)

-- nobody waits for what a leader remembers that opened again
pub openings-end : (asked : Asked) (inc : ℕ) (led es : List Entry) → LeavesWith asked (first_memory led) (statuses_for inc es)
openings-end asked inc led es = record {
  said = statuses-posted asked inc es;
  waiting = λ u c i at.
      let o = has-from_map reopened_undecided (filter is_open led) u i in
      let none : None ≡ Some c = ap (λ (z : Undecided). z.client) o.2 ∙ at in
      let no : ⊥ = cc in absurd no;
}
