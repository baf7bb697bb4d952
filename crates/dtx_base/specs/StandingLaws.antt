-- What a leader decided stays decided or committed.
use Rattle.std.specs.Prelude.{ℕ, ◌≡◌, Bool, true, false, ◌||◌, ◌==◌, find, map, List, [], ◌∷◌, Option, Some, None, if◌then◌else◌, refl}
use Rattle.std.specs.Option.{option_map}
use Rattle.std.proofs.Common.{◌∙◌, ap, subst}
use Rattle.base_types.specs.declared.entry.Entry.{Entry}
use Rattle.base_types.specs.declared.entry.Verdict.TheVariants as verdict
use Rattle.base_types.specs.declared.epoch.Epoch.{Epoch}
use Rattle.base_types.specs.declared.id.AttemptId.{AttemptId}
use Rattle.base_types.specs.declared.operation.MinorWrite.{MinorWrite}
use Rattle.base_types.specs.declared.outcome.Outcome.{Outcome}
use Rattle.base_types.specs.declared.outcome.Outcome.TheVariants.{Committed}
use Rattle.base_messages.specs.declared.actor.ActorId.{ActorId}
use Rattle.base_messages.specs.declared.message.Message.{Message}
use Rattle.base_messages.specs.declared.message.Message.TheVariants as message
use Rattle.daos_model.specs.Changes.{committed_at, confirmed_at}
use Rattle.daos_model.specs.Durables.{is_entry_of, same_attempt}
use Rattle.dtx_base.specs.declared.leading.Undecided.{Undecided}
use Rattle.dtx_base.specs.Leading.{LeaderOf, aborted, ack_heard, all_confirmed_by, answer_heard, answer_if_awaited, answer_of_member, answered, batched, begun, begun_alone, begun_with_others, confirmed_by, counted_at, decided, down_told, ended, entries_marked, entry_attempt, entry_led, knowing, mark_reset, marked_heard, may_confirm, new_undecided, ok_heard, prepare_reset, query_answer, quietly, reset_heard, reset_of, settled_led, status_asked, to_target, undecided_attempt, undecided_of, unwaited_at, verdict_on, with_entries, with_named, with_undecided}
use Rattle.dtx_base.specs.Members.{are_all_counted, is_other_member, other_members, with_target}
use Rattle.dtx_base.specs.RowLaws.{among-with, among-without, row-is, row-map, row-with, row-without}
use Rattle.dtx_base.specs.Rows.{is_among, is_empty}

-- An attempt is decided or committed: it has an entry, which is committed or whose attempt is among the decided ones, and it
-- isn't undecided.
pub record Stands (a : AttemptId) (l : LeaderOf) : Type 0 where
  pub entry : Entry
  pub led : entry_led a l ≡ Some entry
  pub decided : (entry.committed || is_among a l.memory.decided) ≡ true
  pub settled : undecided_of a l ≡ None

-- who asks for such an attempt is told that it is committed
abbrev pub StandsCommitted : Type 0
StandsCommitted = (a : AttemptId) (l : LeaderOf) → Stands a l → query_answer a l ≡ verdict.Committed

pub stands-committed : StandsCommitted
unfolding query_answer
stands-committed a l s = ap (λ e. verdict_on e (is_among a l.memory.decided)) s.led ∙ ap (λ (b : Bool). if b then verdict.Committed else verdict.Undecided) s.decided

or-right : (b c d : Bool) → (c ≡ true → d ≡ true) → (b || c) ≡ true → (b || d) ≡ true
or-right true c d h e = refl
or-right false c d h e = h e

-- one that is undecided is another one
apart : (a b : AttemptId) (l : LeaderOf) (u : Undecided) → Stands a l → undecided_of b l ≡ Some u → a ≡ b → ⊥
apart a b l u s row same = let one : undecided_of a l ≡ Some u = ap (λ x. undecided_of x l) same ∙ row in (let no : ⊥ = cc (s.settled, one) in no)

none_mapped : (f : Undecided → Undecided) (o : Option Undecided) → o ≡ None → option_map f o ≡ None
none_mapped f o none = ap (option_map f) none

-- ---- an Ack

counted-same : (b : AttemptId) (t : ℕ) (u : Undecided) → undecided_attempt (counted_at b t u) ≡ undecided_attempt u
counted-same b t u = by (same_attempt u.attempt b)
  where
    by : (s : Bool) → undecided_attempt (if s then record u { counted = with_target u.counted t } else u) ≡ undecided_attempt u
    by true = refl
    by false = refl

module _ (a : AttemptId) (t : ℕ) (b : AttemptId) (l : LeaderOf) (s : Stands a l) where
  stands-ok : (e : Entry) (u : Undecided) → undecided_of b l ≡ Some u → Stands a (ok_heard t b e u l).leader
  stands-ok e u row = by (are_all_counted e (with_target u.counted t))
    where
      by : (all : Bool) → Stands a (if all then record { leader = decided b l; posts = ended u.client b e.epoch Committed } else quietly (with_undecided (map (counted_at b t) l.memory.undecided) l)).leader
      by true = record {
        entry = s.entry;
        led = s.led;
        decided = or-right s.entry.committed (is_among a l.memory.decided) (is_among a (decided b l).memory.decided) (among-with a b l.memory.decided) s.decided;
        settled = row-without undecided_attempt a b l.memory.undecided (apart a b l u s row) ∙ s.settled;
      }
      by false = record {
        entry = s.entry;
        led = s.led;
        decided = s.decided;
        settled = row-map undecided_attempt (counted_at b t) (counted-same b t) a l.memory.undecided ∙ none_mapped (counted_at b t) (undecided_of a l) s.settled;
      }

  stands-refused : (e : Entry) (u : Undecided) → undecided_of b l ≡ Some u → Stands a (aborted b e l)
  stands-refused e u row = record {
    entry = s.entry;
    led = row-without entry_attempt a b l.entries (apart a b l u s row) ∙ s.led;
    decided = s.decided;
    settled = row-without undecided_attempt a b l.memory.undecided (apart a b l u s row) ∙ s.settled;
  }

  stands-answer : (refusal : Option Outcome) (e : Entry) (u : Undecided) → undecided_of b l ≡ Some u → Stands a (answer_heard t b refusal e u l).leader
  stands-answer None e u row = stands-ok e u row
  stands-answer (Some how) e u row = stands-refused e u row

  stands-awaited : (refusal : Option Outcome) (e : Option Entry) (u : Option Undecided) → undecided_of b l ≡ u → Stands a (answer_if_awaited t b refusal e u l).leader
  stands-awaited refusal None u row = s
  stands-awaited refusal (Some e) None row = s
  stands-awaited refusal (Some e) (Some u) row = by (is_other_member e t)
    where
      by : (m : Bool) → Stands a (if m then answer_heard t b refusal e u l else quietly l).leader
      by true = stands-answer refusal e u row
      by false = s

  stands-ack : (inc : ℕ) (refusal : Option Outcome) → Stands a (ack_heard t b inc refusal l).leader
  unfolding ack_heard
  stands-ack inc refusal = by (inc == l.incarnation)
    where
      by : (m : Bool) → Stands a (if m then answer_if_awaited t b refusal (entry_led b l) (undecided_of b l) l else quietly l).leader
      by true = stands-awaited refusal (entry_led b l) (undecided_of b l) refl
      by false = s

-- ---- a Marked

confirmed-same : (b : AttemptId) (t : ℕ) (e : Entry) → entry_attempt (confirmed_at b t e) ≡ entry_attempt e
confirmed-same b t e = by (same_attempt e.attempt b)
  where
    by : (s : Bool) → entry_attempt (if s then record e { confirmed = with_target e.confirmed t } else e) ≡ entry_attempt e
    by true = refl
    by false = refl

confirmed-committed : (b : AttemptId) (t : ℕ) (e : Entry) → (confirmed_at b t e).committed ≡ e.committed
confirmed-committed b t e = by (same_attempt e.attempt b)
  where
    by : (s : Bool) → (if s then record e { confirmed = with_target e.confirmed t } else e).committed ≡ e.committed
    by true = refl
    by false = refl

-- an entry is found that is committed as one was before
pub record IsFound (a : AttemptId) (es : List Entry) (committed : Bool) : Type 0 where
  pub entry : Entry
  pub found : find (is_entry_of a) es ≡ Some entry
  pub same : entry.committed ≡ committed

found-confirmed : (a : AttemptId) (t : ℕ) (b : AttemptId) (es : List Entry) (c : Bool) → IsFound a es c → IsFound a (confirmed_by t b es) c
found-confirmed a t b es c f = by (may_confirm t (find (is_entry_of b) es))
  where
    by : (s : Bool) → IsFound a (if s then map (confirmed_at b t) es else es) c
    by true = record {
      entry = confirmed_at b t f.entry;
      found = row-map entry_attempt (confirmed_at b t) (confirmed-same b t) a es ∙ ap (option_map (confirmed_at b t)) f.found;
      same = confirmed-committed b t f.entry ∙ f.same;
    }
    by false = f

found-all_confirmed : (a : AttemptId) (t : ℕ) (ids : List AttemptId) (es : List Entry) (c : Bool) → IsFound a es c → IsFound a (all_confirmed_by t ids es) c
found-all_confirmed a t [] es c f = f
found-all_confirmed a t (b ∷ ids) es c f = found-all_confirmed a t ids (confirmed_by t b es) c (found-confirmed a t b es c f)

stands-marked : (a : AttemptId) (t inc : ℕ) (ids : List AttemptId) (l : LeaderOf) → Stands a l → Stands a (marked_heard t inc ids l).leader
unfolding marked_heard
stands-marked a t inc ids l s = with_found (by (inc == l.incarnation))
  where
    start : IsFound a l.entries s.entry.committed
    start = record { entry = s.entry; found = s.led; same = refl }

    by : (m : Bool) → IsFound a (if m then all_confirmed_by t ids l.entries else l.entries) s.entry.committed
    by true = found-all_confirmed a t ids l.entries s.entry.committed start
    by false = start

    with_found : IsFound a (entries_marked t inc ids l) s.entry.committed → Stands a (quietly (with_named (answered t inc ids l.memory.named) (with_entries (entries_marked t inc ids l) l))).leader
    with_found f = record {
      entry = f.entry;
      led = f.found;
      decided = ap (λ (c : Bool). c || is_among a l.memory.decided) f.same ∙ s.decided;
      settled = s.settled;
    }

-- what members answer leaves each such attempt so
abbrev pub AnswersLetStand : Type 0
AnswersLetStand = (a : AttemptId) (t : ℕ) (m : Message) (l : LeaderOf) → Stands a l → Stands a (answer_of_member t m l).leader

pub answers-let_stand : AnswersLetStand
answers-let_stand a t (message.Ack b inc refusal) l s = stands-ack a t b l s inc refusal
answers-let_stand a t (message.Marked inc ids) l s = stands-marked a t inc ids l s
answers-let_stand a t _ l s = s

-- ---- a Reset

unwaited-same : (b : AttemptId) (u : Undecided) → undecided_attempt (unwaited_at b u) ≡ undecided_attempt u
unwaited-same b u = by (same_attempt u.attempt b)
  where
    by : (s : Bool) → undecided_attempt (if s then record u { client = None } else u) ≡ undecided_attempt u
    by true = refl
    by false = refl

stands-told : (a : AttemptId) (t : ℕ) (b : AttemptId) (e : Option Entry) (u : Option Undecided) (l : LeaderOf) → Stands a l → Stands a (down_told t b e u l).leader
stands-told a t b None u l s = s
stands-told a t b (Some e) None l s = s
stands-told a t b (Some e) (Some u) l s = record {
  entry = s.entry;
  led = s.led;
  decided = s.decided;
  settled = row-map undecided_attempt (unwaited_at b) (unwaited-same b) a l.memory.undecided ∙ none_mapped (unwaited_at b) (undecided_of a l) s.settled;
}

stands-status : (a : AttemptId) (t : ℕ) (b : AttemptId) (inc : ℕ) (l : LeaderOf) → Stands a l → Stands a (status_asked t b inc l).leader
stands-status a t b inc l s = by (inc == l.incarnation)
  where
    by : (m : Bool) → Stands a (if m then record { leader = l; posts = to_target t (message.Status b inc) ∷ [] } else quietly l).leader
    by true = s
    by false = s

stands-prepare_reset : (a : AttemptId) (t : ℕ) (down : Bool) (b : AttemptId) (inc : ℕ) (l : LeaderOf) → Stands a l → Stands a (prepare_reset t down b inc l).leader
unfolding prepare_reset
stands-prepare_reset a t true b inc l s = stands-told a t b (entry_led b l) (undecided_of b l) l s
stands-prepare_reset a t false b inc l s = stands-status a t b inc l s

stands-mark_reset : (a : AttemptId) (t : ℕ) (down : Bool) (inc : ℕ) (marks : List (AttemptId × Bool)) (l : LeaderOf) → Stands a l → Stands a (mark_reset t down inc marks l).leader
unfolding mark_reset
stands-mark_reset a t true inc marks l s = record { entry = s.entry; led = s.led; decided = s.decided; settled = s.settled }
stands-mark_reset a t false inc marks l s = record { entry = s.entry; led = s.led; decided = s.decided; settled = s.settled }

stands-reset_of : (a : AttemptId) (t : ℕ) (down : Bool) (m : Message) (l : LeaderOf) → Stands a l → Stands a (reset_of t down m l).leader
stands-reset_of a t down (message.Prepare e first ws inc) l s = stands-prepare_reset a t down e.attempt inc l s
stands-reset_of a t down (message.Status b inc) l s = stands-prepare_reset a t down b inc l s
stands-reset_of a t down (message.Mark inc marks) l s = stands-mark_reset a t down inc marks l s
stands-reset_of a t down _ l s = s

stands-knowing : (a : AttemptId) (t : ℕ) (down : Bool) (l : LeaderOf) → Stands a l → Stands a (knowing t down l)
stands-knowing a t true l s = record { entry = s.entry; led = s.led; decided = s.decided; settled = s.settled }
stands-knowing a t false l s = s

abbrev pub ResetsLetStand : Type 0
ResetsLetStand = (a : AttemptId) (t : ℕ) (down : Bool) (m : Message) (l : LeaderOf) → Stands a l → Stands a (reset_heard t down m l).leader

pub resets-let_stand : ResetsLetStand
resets-let_stand a t down m l s = stands-knowing a t down (reset_of t down m l).leader (stands-reset_of a t down m l s)

-- ---- a batch, settling, and an attempt that begins

abbrev pub BatchesLetStand : Type 0
BatchesLetStand = (a : AttemptId) (l : LeaderOf) → Stands a l → Stands a (batched l).leader

pub batches-let_stand : BatchesLetStand
unfolding batched
batches-let_stand a l s = record { entry = s.entry; led = s.led; decided = s.decided; settled = s.settled }

committed-same : (b : AttemptId) (e : Entry) → entry_attempt (committed_at b e) ≡ entry_attempt e
committed-same b e = by (same_attempt e.attempt b)
  where
    by : (s : Bool) → entry_attempt (if s then record e { committed = true } else e) ≡ entry_attempt e
    by true = refl
    by false = refl

abbrev pub SettlingLetsStand : Type 0
SettlingLetsStand = (a b : AttemptId) (l : LeaderOf) → Stands a l → Stands a (settled_led b l)

pub settling-lets_stand : SettlingLetsStand
unfolding settled_led
settling-lets_stand a b l s = record {
  entry = committed_at b s.entry;
  led = row-map entry_attempt (committed_at b) (committed-same b) a l.entries ∙ ap (option_map (committed_at b)) s.led;
  decided = by (same_attempt s.entry.attempt b) refl;
  settled = s.settled;
}
  where
    own : same_attempt s.entry.attempt a ≡ true
    own = row-is entry_attempt a l.entries s.entry s.led

    by : (m : Bool) → same_attempt s.entry.attempt b ≡ m → ((if m then record s.entry { committed = true } else s.entry).committed || is_among a (settled_led b l).memory.decided) ≡ true
    by true is = refl
    by false is =
        or-right s.entry.committed (is_among a l.memory.decided) (is_among a (settled_led b l).memory.decided)
        (among-without a b l.memory.decided (λ same. let no : ⊥ = cc (subst (λ x. same_attempt s.entry.attempt x ≡ true) same own, is) in no)) s.decided

-- one that begins has no entry yet
abbrev pub BeginningLetsStand : Type 0
BeginningLetsStand = (a : AttemptId) (e : Entry) (first : Option Epoch) (client : ActorId) (ws : List MinorWrite) (l : LeaderOf)
    → entry_led e.attempt l ≡ None → Stands a l → Stands a (begun e first client ws l).leader

pub beginning-lets_stand : BeginningLetsStand
unfolding begun
beginning-lets_stand a e first client ws l new s = by (is_empty (other_members e))
  where
    other : a ≡ e.attempt → ⊥
    other same = let one : entry_led a l ≡ None = ap (λ x. entry_led x l) same ∙ new in (let no : ⊥ = cc (s.led, one) in no)

    by : (m : Bool) → Stands a (if m then begun_alone e client l else begun_with_others e first client ws l).leader
    by true = record {
      entry = s.entry;
      led = row-with entry_attempt a e l.entries other ∙ s.led;
      decided = or-right s.entry.committed (is_among a l.memory.decided) (is_among a (begun_alone e client l).leader.memory.decided) (among-with a e.attempt l.memory.decided) s.decided;
      settled = s.settled;
    }
    by false = record {
      entry = s.entry;
      led = row-with entry_attempt a e l.entries other ∙ s.led;
      decided = s.decided;
      settled = row-with undecided_attempt a (new_undecided e.attempt (Some client)) l.memory.undecided other ∙ s.settled;
    }
