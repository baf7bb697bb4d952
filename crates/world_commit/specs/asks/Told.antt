-- What an event leaves of what questions rest on: an attempt that its leader has still to tell its members of is told them by a Mark, or
-- nothing of it is prepared.
use Rattle.std.specs.Prelude.{ℕ, ◌≡◌, ◌⊎◌, ◌==◌, Bool, true, false, not, List, slice_get, Option, Some, refl}
use Rattle.std.proofs.Common.{sym, ◌∙◌, ap, subst, inl, inr, arith}
use Rattle.std.proofs.lemmas.Bool.Decides.{nat_tests}
use Rattle.base_types.specs.declared.entry.Entry.{Entry}
use Rattle.base_types.specs.declared.epoch.Epoch.{Epoch}
use Rattle.base_types.specs.declared.id.AttemptId.{AttemptId}
use Rattle.base_types.specs.declared.operation.MinorWrite.{MinorWrite}
use Rattle.model_laws.specs.Members.{Has}
use Rattle.base_messages.specs.declared.actor.ActorId.{ActorId}
use Rattle.base_messages.specs.declared.message.Message.{Message}
use Rattle.base_messages.specs.declared.message.Message.TheVariants as message
use Rattle.base_messages.specs.declared.message.Post.{Post}
use Rattle.daos_model.specs.BoolLaws.{and_left, and_right}
use Rattle.daos_model.specs.Durables.{entry_of, same_attempt}
use Rattle.dtx_base.specs.LeaderLaws.{same-is}
use Rattle.dtx_base.specs.Members.{has_target}
use Rattle.world_commit.specs.asks.Asks.{ByLeader, ByMark, Flies, IsMarkOf, IsToBeTold, NoneHere, NonePrepared, NonePrepares}
use Rattle.world_commit.specs.asks.Entries.{IsKept, Unprepared}
use Rattle.world_commit.specs.asks.Knowing.{KnowsAttempts, TellsOf}
use Rattle.world_commit.specs.asks.Moving.{ClientMoves, TargetMoves, now-here, same-there}
use Rattle.world_commit.specs.attempts.Attempts.{IsBorn, IsHeld, IsOther, entry_at, entry_in, is_asked_by, is_prepare_to, is_target, leader_of}
use Rattle.world_commit.specs.attempts.History.{Aborted, History}
use Rattle.world_commit.specs.attempts.Turning.{one-or_another, prepare-to}
use Rattle.world_base.specs.declared.letter.Letter.{Letter}
use Rattle.world_base.specs.declared.target.TargetState.{TargetState}
use Rattle.world_base.specs.declared.world.World.{World}
use Rattle.world_base.specs.Events.{Rules}
use Rattle.world_base.specs.Letters.{client, target}

-- ---- the statement

-- an attempt is aborted by now, and each other member is sent the Mark that says so
pub record IsRefused (r : Rules) (later : History) (v : World) (x : AttemptId) : Type 0 where
  pub aborted : Aborted later x
  pub marks : (m : ℕ) → IsOther r x m → Flies v (IsMarkOf m x)

pub record LeavesTold (r : Rules) (h later : History) (w v : World) : Type 0 where
  pub aborted : (x : AttemptId) → Aborted h x → Aborted later x
  pub kept : (x : AttemptId) → IsHeld w (leader_of r x) x → IsHeld v (leader_of r x) x ⊎ IsRefused r later v x
  pub none : (m : ℕ) (x : AttemptId) → IsOther r x m → NonePrepares w m x → NonePrepared w m x → NonePrepared v m x
  pub prepares : (m : ℕ) (x : AttemptId) → IsBorn r h w x → NonePrepares w m x → NonePrepares v m x
  pub marks : (m : ℕ) (x : AttemptId) → Flies w (IsMarkOf m x) → Flies v (IsMarkOf m x) ⊎ NonePrepared v m x

-- ---- what follows from it

-- what its leader holds is to be told, or is settled
pub held-told : (r : Rules) (later : History) (v : World) → KnowsAttempts r later v → (m : ℕ) (x : AttemptId) → IsOther r x m → IsHeld v (leader_of r x) x → IsToBeTold r v m x
held-told r later v B m x other held = by (has_target held.entry.confirmed m) refl
  where
    by : (b : Bool) → has_target held.entry.confirmed m ≡ b → IsToBeTold r v m x
    by false is = ByLeader (record { entry = held.entry; found = held.found; unconfirmed = is })
    by true is =
        let s = (B.entries x).confirmed m held.entry held.found other is in
        NoneHere (λ e at. let one : Some e ≡ Some s.entry = sym at ∙ s.found in let same : e ≡ s.entry = cc in ap (λ z. z.committed) same ∙ s.committed)

module _ (r : Rules) (h later : History) (w v : World) (B : KnowsAttempts r later v) (k : LeavesTold r h later w v) where
  pub born-on : (x : AttemptId) → IsBorn r h w x → IsBorn r later v x
  born-on x (inl held) = elim (k.kept x held) [ inl still ↦ inl still | inr gone ↦ inr gone.aborted ]
  born-on x (inr a) = inr (k.aborted x a)

  pub refused-told : (m : ℕ) (x : AttemptId) → IsOther r x m → IsHeld v (leader_of r x) x ⊎ IsRefused r later v x → IsToBeTold r v m x
  refused-told m x other (inl held) = held-told r later v B m x other held
  refused-told m x other (inr gone) = ByMark (gone.marks m other)

  pub told-on : (m : ℕ) (x : AttemptId) → IsOther r x m → NonePrepares w m x → IsToBeTold r w m x → IsToBeTold r v m x
  told-on m x other heard (ByLeader u) = refused-told m x other (k.kept x (record { entry = u.entry; found = u.found }))
  told-on m x other heard (ByMark f) = elim (k.marks m x f) [ inl still ↦ ByMark still | inr none ↦ NoneHere none ]
  told-on m x other heard (NoneHere none) = NoneHere (k.none m x other heard none)

-- ---- a Prepare

target-of : (m : ℕ) (a : ActorId) → is_target m a ≡ true → a ≡ target m
target-of m a is = by a.client refl (and_left (not a.client) (a.number == m) is) (and_right (not a.client) (a.number == m) is)
  where
    by : (c : Bool) → a.client ≡ c → not c ≡ true → (a.number == m) ≡ true → a ≡ target m
    by true own off same = let no : ⊥ = cc in absurd no
    by false own off same = let one : a.number ≡ m = grind (arith, nat_tests) in ap (λ n. record { client = a.client; number = n }) one ∙ ap (λ b. record { client = b; number = m }) own

-- a letter is a Prepare of an attempt to a member
pub record IsPrepareOf (m : ℕ) (x : AttemptId) (to : ActorId) (n : Message) : Type 0 where
  pub e : Entry
  pub first : Option Epoch
  pub ws : List MinorWrite
  pub inc : ℕ
  pub is : n ≡ message.Prepare e first ws inc
  pub attempt : e.attempt ≡ x
  pub receiver : to ≡ target m

asked-prepare : (m : ℕ) (x : AttemptId) (to : ActorId) (n : Message) → is_asked_by x m to n ≡ true → IsPrepareOf m x to n
asked-prepare m x to (message.Prepare e first ws inc) is =
    record {
      e = e;
      first = first;
      ws = ws;
      inc = inc;
      is = refl;
      attempt = same-is e.attempt x (and_left (same_attempt e.attempt x) (is_target m to) is);
      receiver = target-of m to (and_right (same_attempt e.attempt x) (is_target m to) is);
    }
asked-prepare m x to n is = let no : ⊥ = cc in absurd no

pub prepare-is : (m : ℕ) (x : AttemptId) (l : Letter) → is_prepare_to x m l ≡ true → IsPrepareOf m x l.to l.message
unfolding is_prepare_to
prepare-is m x l is = asked-prepare m x l.to l.message is

pub prepare-of : (m : ℕ) (x : AttemptId) (l : Letter) (e : Entry) (first : Option Epoch) (ws : List MinorWrite) (inc : ℕ) → l.message ≡ message.Prepare e first ws inc → e.attempt ≡ x → l.to ≡ target m → is_prepare_to x m l ≡ true
prepare-of m x l e first ws inc is attempt to = subst (λ y. is_prepare_to y m l ≡ true) attempt (prepare-to l m e first ws inc is to)

-- ---- a client's turn

entry-still : (w v : World) (m : ℕ) (x : AttemptId) → slice_get v.targets m ≡ slice_get w.targets m → entry_at v m x ≡ entry_at w m x
entry-still w v m x same = ap (λ o. entry_in o x) same

none-still : (w v : World) (m : ℕ) (x : AttemptId) → slice_get v.targets m ≡ slice_get w.targets m → NonePrepared w m x → NonePrepared v m x
none-still w v m x same k e at = k e (sym (entry-still w v m x same) ∙ at)

held-still : (w v : World) (m : ℕ) (x : AttemptId) → slice_get v.targets m ≡ slice_get w.targets m → IsHeld w m x → IsHeld v m x
held-still w v m x same k = record { entry = k.entry; found = entry-still w v m x same ∙ k.found }

pub no-client : (n t : ℕ) (a : ActorId) → a ≡ client n → a ≡ target t → ⊥
no-client n t a one other = let no : ⊥ = cc (ap (λ z. z.client) (sym one ∙ other)) in no

pub client-leaves : (r : Rules) (h later : History) (w v : World) → ((x : AttemptId) → Aborted h x → Aborted later x) → KnowsAttempts r later v → ClientMoves w v → LeavesTold r h later w v
client-leaves r h later w v grown B g = record {
  aborted = grown;
  kept = λ x held. inl (held-still w v (leader_of r x) x (ap (λ ts. slice_get ts (leader_of r x)) g.targets) held);
  none = λ m x other heard none. none-still w v m x (ap (λ ts. slice_get ts m) g.targets) none;
  prepares = λ m x born heard l i is. elim (g.comes l i) [
    | inl old ↦ heard l old is
    | inr new ↦ from-client m x l i new.0 new.1 (prepare-is m x l is)
  ];
  marks = λ m x f. inl (f.0, g.stays f.0 m f.1 f.2.to, f.2);
}
  where
    -- no client sends a Prepare
    from-client : (m : ℕ) (x : AttemptId) (l : Letter) → Has l v.messages → (n : ℕ) → l.from ≡ client n → IsPrepareOf m x l.to l.message → ⊥
    from-client m x l i n from p =
        no-client n (leader_of r p.e.attempt) l.from from (B.told l p.e.attempt i (subst (TellsOf p.e.attempt) (sym p.is) refl)).sender

-- ---- a target's turn

module _ (w v : World) (t : ℕ) (s z : TargetState) (heard : Option Letter) (posts : List Post) (g : TargetMoves w v t s z heard posts) where
  pub entry-here : (x : AttemptId) → entry_at w t x ≡ entry_of s.durable x
  entry-here x = ap (λ o. entry_in o x) g.here

  pub entry-there : (x : AttemptId) → entry_at v t x ≡ entry_of z.durable x
  entry-there x = ap (λ o. entry_in o x) (now-here w v t s z heard posts g)

  kept-here : (x : AttemptId) → IsHeld w t x → IsKept s.durable x
  kept-here x k = (k.entry, sym (entry-here x) ∙ k.found)

  held-there : (x : AttemptId) → IsKept z.durable x → IsHeld v t x
  held-there x k = record { entry = k.0; found = entry-there x ∙ k.1 }

  pub none-here : (x : AttemptId) → NonePrepared w t x → Unprepared s.durable x
  none-here x k e at = k e (entry-here x ∙ at)

  pub none-there : (x : AttemptId) → Unprepared z.durable x → NonePrepared v t x
  none-there x k e at = k e (sym (entry-there x) ∙ at)

  -- what holds of this target, and of each other one since that stays, holds of all
  pub held-or : (m : ℕ) (x : AttemptId) (P : Type 0) → (m ≡ t → IsKept s.durable x → IsKept z.durable x ⊎ P) → IsHeld w m x → IsHeld v m x ⊎ P
  held-or m x P own k = elim (one-or_another m t) [
    | inl same ↦ elim (own same (kept-here x (subst (λ n. IsHeld w n x) same k))) [ inl still ↦ inl (subst (λ n. IsHeld v n x) (sym same) (held-there x still)) | inr p ↦ inr p ]
    | inr other ↦ inl (held-still w v m x (same-there w v t s z heard posts g m other) k)
  ]

  pub none-or : (m : ℕ) (x : AttemptId) → (m ≡ t → Unprepared s.durable x → Unprepared z.durable x) → NonePrepared w m x → NonePrepared v m x
  none-or m x own k = elim (one-or_another m t) [
    | inl same ↦ subst (λ n. NonePrepared v n x) (sym same) (none-there x (own same (none-here x (subst (λ n. NonePrepared w n x) same k))))
    | inr other ↦ none-still w v m x (same-there w v t s z heard posts g m other) k
  ]
