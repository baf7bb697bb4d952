-- What doesn't concern an attempt leaves its facts as they are, and what letters say stays so.
use Rattle.std.specs.Prelude.{ℕ, ◌≡◌, ◌⊎◌, ◌+◌, ◌≤◌, Bool, true, false, Option, Some, None}
use Rattle.std.proofs.Common.{sym, ◌∙◌, ap, subst, arith, inl, inr}
use Rattle.base_types.specs.declared.entry.EntryState.{EntryState}
use Rattle.base_types.specs.declared.entry.EntryState.TheVariants as state
use Rattle.base_types.specs.declared.entry.Verdict.{Verdict}
use Rattle.base_types.specs.declared.entry.Verdict.TheVariants as verdict
use Rattle.base_types.specs.declared.epoch.Epoch.{Epoch}
use Rattle.base_types.specs.declared.id.AttemptId.{AttemptId}
use Rattle.base_types.specs.declared.outcome.Outcome.{Outcome}
use Rattle.model_laws.specs.Members.{Has}
use Rattle.base_messages.specs.declared.actor.ActorId.{ActorId}
use Rattle.base_messages.specs.declared.message.Message.{Message, more_of-Message}
use Rattle.base_messages.specs.declared.message.Message.TheVariants as message
use Rattle.dtx_base.specs.Members.{has_target}
use Rattle.world_commit.specs.attempts.Attempts.{Entries, HoldsAt, IsBorn, IsHeld, IsMarkTrue, IsOkRight, IsOpenAt, IsOther, IsSettled, IsVerdictTrue, entry_at, inc_at, is_known_at, is_prepare_to, leader_of, one_if, row_at}
use Rattle.world_commit.specs.attempts.Frames.{SameFate}
use Rattle.world_commit.specs.attempts.History.{Aborted, Decided, History}
use Rattle.world_commit.specs.fates.Facts.{Attempt, Awaited, IsAskedSo, IsOneUnless, IsSaidSo, IsStateTrue, Ongoing, Rows, RunsAt, knows_down, preparing, refuses_for, talking}
use Rattle.world_base.specs.declared.letter.Letter.{Letter}
use Rattle.world_base.specs.declared.world.World.{World}
use Rattle.world_base.specs.Events.{Rules}
use Rattle.world_base.specs.Letters.{is_answerable}

-- ---- what stays

-- letters that ask for an attempt, or answer, are as many as before; one that refuses was there, or the attempt isn't decided
pub record SameMail (r : Rules) (h : History) (w v : World) (x : AttemptId) : Type 0 where
  pub issued : (e : Epoch) → Has (x, e) w.issued → Has (x, e) v.issued
  pub talks : (inc m : ℕ) → talking r inc v x m ≡ talking r inc w x m
  pub tries : (m : ℕ) → preparing r v x m ≤ preparing r w x m
  pub prepares : (m : ℕ) (l : Letter) → Has l v.messages → is_prepare_to x m l ≡ true → Has l w.messages
  pub refusals : (inc : ℕ) (l : Letter) → Has l v.messages → refuses_for inc x l.message ≡ true → Has l w.messages ⊎ ((e : Epoch) → Decided h x e → ⊥)

-- targets run as before, at the same incarnations, and know the same ones to be down
pub record SameLives (w v : World) : Type 0 where
  pub runs : (t : ℕ) → RunsAt v t → RunsAt w t
  pub incarnation : (t : ℕ) → inc_at v t ≡ inc_at w t
  pub down : (t m : ℕ) → knows_down v t m ≡ knows_down w t m

pub one-unless : {a b : Bool} {n m : ℕ} → a ≡ b → n ≡ m → IsOneUnless b m → IsOneUnless a n
one-unless down same (inl one) = inl (same ∙ one)
one-unless down same (inr z) = inr (same ∙ z.0, down ∙ z.1)

module _ (r : Rules) (h later : History) (w v : World) (x : AttemptId) (mail : SameMail r h w v x) (lives : SameLives w v) where
  -- a leader's present incarnation talks as before
  pub talks-now : (m : ℕ) → talking r (inc_at v (leader_of r x)) v x m ≡ talking r (inc_at w (leader_of r x)) w x m
  talks-now m = ap (λ i. talking r i v x m) (lives.incarnation (leader_of r x)) ∙ mail.talks (inc_at w (leader_of r x)) m

  -- who is asked stays, where rows do, and entries stand where they stood
  pub awaited-stays : SameFate h later x → ((t : ℕ) → row_at v t x ≡ row_at w t x) → ((t : ℕ) → IsHeld w t x → IsHeld v t x)
      → ((m : ℕ) (l : Letter) → Has l v.messages → is_prepare_to x m l ≡ true → entry_at w m x ≡ None → entry_at v m x ≡ None) → Awaited r h w x → Awaited r later v x
  awaited-stays fate row held nothing k = record {
    once = λ m q o at. one-unless (lives.down (leader_of r x) m) (ap (λ n. n + one_if (has_target q.counted m)) (talks-now m)) (k.once m q o (sym (row (leader_of r x)) ∙ at));
    few = λ inc m o. let few = k.few inc m o in let same = mail.talks inc m in omega (arith, few, same);
    tries = λ m o. let few = k.tries m o in let less = mail.tries m in omega (arith, few, less);
    before = λ m l i is. nothing m l i is (k.before m l (mail.prepares m l i is) is);
    counted = λ m q o at has. held m (k.counted m q o (sym (row (leader_of r x)) ∙ at) has);
    firm = λ l e i is d. elim (mail.refusals (inc_at v (leader_of r x)) l i is) [
      | inl before ↦ k.firm l e before (subst (λ n. refuses_for n x l.message ≡ true) (lives.incarnation (leader_of r x)) is) (fate.only_decided e d)
      | inr none ↦ none e (fate.only_decided e d)
    ];
  }

-- ---- an attempt that a change doesn't concern

pub record Unchanged (r : Rules) (h later : History) (w v : World) (x : AttemptId) : Type 0 where
  pub fate : SameFate h later x
  pub entry : (t : ℕ) → entry_at v t x ≡ entry_at w t x
  pub row : (t : ℕ) → row_at v t x ≡ row_at w t x
  pub known : (t : ℕ) → is_known_at v t x ≡ is_known_at w t x
  pub mail : SameMail r h w v x
  pub lives : SameLives w v

module _ (r : Rules) (h later : History) (w v : World) (x : AttemptId) (u : Unchanged r h later w v x) where
  held-on : (t : ℕ) → IsHeld w t x → IsHeld v t x
  held-on t k = record { entry = k.entry; found = u.entry t ∙ k.found }

  settled-on : (t : ℕ) → IsSettled w t x → IsSettled v t x
  settled-on t k = record { entry = k.entry; found = u.entry t ∙ k.found; committed = k.committed }

  born-on : IsBorn r h w x → IsBorn r later v x
  born-on (inl k) = inl (held-on (leader_of r x) k)
  born-on (inr a) = inr (u.fate.aborted a)

  holds-on : (t : ℕ) (e : Epoch) → HoldsAt w t x e → HoldsAt v t x e
  holds-on t e k = record { entry = k.entry; found = u.entry t ∙ k.found; epoch = k.epoch }

  entries-on : Entries r h w x → Entries r later v x
  entries-on k = record {
    one = λ t e at.
        let z = k.one t e (sym (u.entry t) ∙ at) in record { attempt = z.attempt; leader = z.leader; members = z.members; issued = u.mail.issued e.epoch z.issued; place = z.place };
    born = λ t e at. born-on (k.born t e (sym (u.entry t) ∙ at));
    committed = λ t e at c. u.fate.decided e.epoch (k.committed t e (sym (u.entry t) ∙ at) c);
    confirmed = λ m e at o has. settled-on m (k.confirmed m e (sym (u.entry (leader_of r x)) ∙ at) o has);
    held_by_leader = λ e d. holds-on (leader_of r x) e (k.held_by_leader e (u.fate.only_decided e d));
    held_by_others = λ e m d o. holds-on m e (k.held_by_others e m (u.fate.only_decided e d) o);
    aborted = λ a. u.entry (leader_of r x) ∙ k.aborted (u.fate.only_aborted a);
  }

  open-on : (t : ℕ) → IsOpenAt r w x t → IsOpenAt r v x t
  open-on t k = record { leads = k.leads; entry = k.entry; found = u.entry t ∙ k.found; prepared = k.prepared }

  rows-on : Rows r h w x → Rows r later v x
  unfolding open-on
  rows-on k = record {
    undecided = λ t q at. let z = k.undecided t q (sym (u.row t) ∙ at) in record { here = open-on t z.here; unknown = u.known t ∙ z.unknown; client = z.client };
    unsettled = λ t known. let z = k.unsettled t (sym (u.known t) ∙ known) in record { here = open-on t z.here; decided = u.fate.decided z.here.entry.epoch z.decided };
    either = λ e runs at open'. elim (k.either e (u.lives.runs (leader_of r x) runs) (sym (u.entry (leader_of r x)) ∙ at) open') [
      | inl known ↦ inl (u.known (leader_of r x) ∙ known)
      | inr z ↦ inr (z.0, u.row (leader_of r x) ∙ z.1)
    ];
  }

  pub untouched : Attempt r h w x → Attempt r later v x
  untouched k = record {
    entries = entries-on k.entries;
    rows = rows-on k.rows;
    awaited = awaited-stays r h later w v x u.mail u.lives u.fate u.row held-on (λ m l i is none. u.entry m ∙ none) k.awaited;
  }

-- ---- what letters say

-- what a change leaves of all that letters speak of
pub record Grows (r : Rules) (h later : History) (w v : World) : Type 0 where
  pub decided : (x : AttemptId) (e : Epoch) → Decided h x e → Decided later x e
  pub aborted : (x : AttemptId) → Aborted h x → Aborted later x
  pub issued : (x : AttemptId) (e : Epoch) → Has (x, e) w.issued → Has (x, e) v.issued
  pub incarnation : (t : ℕ) → inc_at w t ≤ inc_at v t
  pub born : (x : AttemptId) → IsBorn r h w x → IsBorn r later v x
  pub held : (m : ℕ) (x : AttemptId) → IsOther r x m → IsHeld w m x → IsHeld v m x ⊎ Aborted later x
  pub settled : (m : ℕ) (x : AttemptId) → IsOther r x m → IsSettled w m x → IsSettled v m x ⊎ Aborted later x

module _ (r : Rules) (h later : History) (w v : World) (g : Grows r h later w v) where
  raised : (inc : ℕ) (x : AttemptId) → inc ≤ inc_at w (leader_of r x) → inc ≤ inc_at v (leader_of r x)
  raised inc x le = let more = g.incarnation (leader_of r x) in omega (arith, le, more)

  held-or : (m : ℕ) (x : AttemptId) → IsOther r x m → IsHeld w m x ⊎ Aborted h x → IsHeld v m x ⊎ Aborted later x
  held-or m x o (inl k) = g.held m x o k
  held-or m x o (inr a) = inr (g.aborted x a)

  ok-on : (x : AttemptId) (m : ℕ) (refusal : Option Outcome) → IsOther r x m → IsOkRight h w x m refusal → IsOkRight later v x m refusal
  ok-on x m None o k = held-or m x o k
  ok-on x m (Some how) o k = k

  mark-on : (x : AttemptId) (c : Bool) → IsMarkTrue h x c → IsMarkTrue later x c
  mark-on x true d = (d.0, g.decided x d.0 d.1)
  mark-on x false a = g.aborted x a

  verdict-on : (x : AttemptId) (c : Verdict) → IsVerdictTrue h x c → IsVerdictTrue later x c
  verdict-on x verdict.Committed d = (d.0, g.decided x d.0 d.1)
  verdict-on x verdict.Aborted a = g.aborted x a
  verdict-on x verdict.Undecided k = tt

  state-on : (x : AttemptId) (m : ℕ) (how : EntryState) → IsOther r x m → IsStateTrue h w x m how → IsStateTrue later v x m how
  state-on x m state.Absent o k = tt
  state-on x m state.Prepared o k = held-or m x o k
  state-on x m state.Committed o k = held-or m x o k

  -- what was asked is so
  pub asked-on : (from to : ActorId) (m : Message) → IsAskedSo r h w from to m → IsAskedSo r later v from to m
  asked-on from to (message.Prepare e first ws inc) k = record {
    way = k.way;
    entry = k.entry;
    issued = g.issued e.attempt e.epoch k.issued;
    writes = k.writes;
    incarnation = raised inc e.attempt k.incarnation;
    born = g.born e.attempt k.born;
  }
  asked-on from to (message.Mark inc marks) k = λ x c i. let z = k x c i in record { way = z.way; incarnation = raised inc x z.incarnation; fate = mark-on x c z.fate }
  asked-on from to (message.Query x ask) k = record { way = k.way; born = g.born x k.born }
  asked-on from to (message.Status x inc) k = record { way = k.way; incarnation = raised inc x k.incarnation; born = g.born x k.born }
  asked-on from to m k = tt

  -- what a letter says stays so
  pub said-on : (from to : ActorId) (m : Message) → IsSaidSo r h w from to m → IsSaidSo r later v from to m
  said-on from to (message.Ack x inc refusal) k = record { way = k.way; incarnation = raised inc x k.incarnation; born = g.born x k.born; held = ok-on x k.way.member refusal k.way.other k.held }
  said-on from to (message.Marked inc ids) k = λ x i.
      let z = k x i in
      record {
        way = z.way;
        incarnation = raised inc x z.incarnation;
        settled = elim z.settled [ inl s ↦ g.settled z.way.member x z.way.other s | inr a ↦ inr (g.aborted x a) ];
      }
  said-on from to (message.Verdict x ask inc c) k = record { way = k.way; born = g.born x k.born; fate = verdict-on x c k.fate }
  said-on from to (message.StatusIs x inc how) k = record { way = k.way; incarnation = raised inc x k.incarnation; born = g.born x k.born; held = state-on x k.way.member how k.way.other k.held }
  said-on from to (message.Reset' t down place (more_of-Message q rest)) k = asked-on to from q k
  said-on from to (message.Prepare e first ws inc) k = asked-on from to (message.Prepare e first ws inc) k
  said-on from to (message.Mark inc marks) k = asked-on from to (message.Mark inc marks) k
  said-on from to (message.Query x ask) k = asked-on from to (message.Query x ask) k
  said-on from to (message.Status x inc) k = asked-on from to (message.Status x inc) k
  said-on from to m k = tt

-- a message that has an answer says what was asked
pub asks-so : (r : Rules) (h : History) (w : World) (from to : ActorId) (m : Message) → is_answerable m ≡ true → IsSaidSo r h w from to m → IsAskedSo r h w from to m
asks-so r h w from to (message.Prepare e first ws inc) is k = k
asks-so r h w from to (message.Mark inc marks) is k = k
asks-so r h w from to (message.Query x ask) is k = k
asks-so r h w from to (message.Status x inc) is k = k
asks-so r h w from to m is k = tt

-- a letter was in flight before, or says what is so
abbrev pub LettersCome : Rules → History → World → World → Type 0
LettersCome r later w v = (l : Letter) → Has l v.messages → Has l w.messages ⊎ IsSaidSo r later v l.from l.to l.message

-- what is without an answer was so before, or is in flight and has one
abbrev pub AskedComes : World → World → Type 0
AskedComes w v = (l : Letter) → Has l v.asked → Has l w.asked ⊎ (Has l v.messages × (is_answerable l.message ≡ true))

module _ (r : Rules) (h later : History) (w v : World) (g : Grows r h later w v) (come : LettersCome r later w v) (k : Ongoing r h w) where
  -- those that were in flight, and those that come
  pub letters-on : (l : Letter) → Has l v.messages → IsSaidSo r later v l.from l.to l.message
  letters-on l i = elim (come l i) [ inl before ↦ said-on r h later w v g l.from l.to l.message (k.letters l before) | inr new ↦ new ]

  pub asked-still : AskedComes w v → (l : Letter) → Has l v.asked → IsAskedSo r later v l.from l.to l.message
  asked-still asked l i = elim (asked l i) [
    | inl before ↦ asked-on r h later w v g l.from l.to l.message (k.asked l before)
    | inr new ↦ asks-so r later v l.from l.to l.message new.1 (letters-on l new.0)
  ]
