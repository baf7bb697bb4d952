-- An attempt begins, or is refused by its leader.
use Rattle.std.specs.Prelude.{ℕ, ◌≡◌, ◌≤◌, true, false, Some, None, refl}
use Rattle.std.proofs.Common.{sym, ◌∙◌, ap, subst, arith, inl, inr}
use Rattle.base_types.specs.declared.entry.Entry.{Entry}
use Rattle.base_types.specs.declared.epoch.Epoch.{Epoch}
use Rattle.base_types.specs.declared.id.AttemptId.{AttemptId}
use Rattle.model_laws.specs.Members.{Has}
use Rattle.daos_model.specs.BoolLaws.{false_of}
use Rattle.world_base.specs.Letters as letters
use Rattle.base_messages.specs.declared.actor.ActorId.{ActorId}
use Rattle.dtx_base.specs.declared.leading.Undecided.{Undecided}
use Rattle.dtx_base.specs.Leading.{new_undecided}
use Rattle.dtx_base.specs.Members.{has_target}
use Rattle.world_commit.specs.attempts.Attempts.{Entries, IsBorn, IsItsEntry, IsOpenAt, IsOther, entry_at, inc_at, one_if, first_entry, is_known_at, is_prepare_to, leader_of, row_at}
use Rattle.world_commit.specs.attempts.History.{Aborted, Decided, History}
use Rattle.world_commit.specs.attempts.MemberBits.{has-none}
use Rattle.world_commit.specs.fates.Facts.{Attempt, preparing, refuses_for, talking}
use Rattle.world_commit.specs.fates.Settling.{attempt-gone}
use Rattle.world_commit.specs.attempts.Turning.{one-or_another}
use Rattle.world_base.specs.declared.letter.Letter.{Letter}
use Rattle.world_base.specs.declared.world.World.{World}
use Rattle.world_base.specs.Events.{Rules}

-- ---- an attempt of which nothing became yet

module _ (r : Rules) (h : History) (w : World) (x : AttemptId) (k : Attempt r h w x) (unstored : entry_at w (leader_of r x) x ≡ None) (unended : Aborted h x → ⊥) where
  pub unborn : IsBorn r h w x → ⊥
  unborn (inl z) = let found = z.found in (let no : ⊥ = cc (found, unstored) in no)
  unborn (inr a) = unended a

  -- it has no entry and no row, and isn't decided
  pub unborn-entry : (t : ℕ) (e : Entry) → entry_at w t x ≡ Some e → ⊥
  unborn-entry t e at = unborn (k.entries.born t e at)

  unborn-closed : (t : ℕ) → IsOpenAt r w x t → ⊥
  unborn-closed t z = unborn-entry t z.entry z.found

  pub unborn-row : (t : ℕ) (q : Undecided) → row_at w t x ≡ Some q → ⊥
  unborn-row t q at = unborn-closed t (k.rows.undecided t q at).here

  pub unborn-unknown : (t : ℕ) → is_known_at w t x ≡ true → ⊥
  unborn-unknown t known = unborn-closed t (k.rows.unsettled t known).here

  pub unborn-undecided : (e : Epoch) → Decided h x e → ⊥
  unborn-undecided e d = let found = (k.entries.held_by_leader e d).found in (let no : ⊥ = cc (found, unstored) in no)

-- ---- its leader stores its entry

-- the leader's entry is the only one, and it was stored just now
pub record IsFirst (r : Rules) (later : History) (v : World) (x : AttemptId) (e : Epoch) : Type 0 where
  pub now : entry_at v (leader_of r x) x ≡ Some (first_entry r x e)
  pub elsewhere : (t : ℕ) → (t ≡ leader_of r x → ⊥) → entry_at v t x ≡ None
  pub issued : Has (x, e) v.issued
  pub unended : Aborted later x → ⊥

module _ (r : Rules) (later : History) (v : World) (x : AttemptId) (e : Epoch) (g : IsFirst r later v x e) where
  only-first : (P : ℕ → Entry → Type 0) → P (leader_of r x) (first_entry r x e) → (t : ℕ) (i : Entry) → entry_at v t x ≡ Some i → P t i
  only-first P own t i at = elim (one-or_another t (leader_of r x)) [
    | inl here ↦
        let one : Some (first_entry r x e) ≡ Some i = sym g.now ∙ ap (λ n. entry_at v n x) (sym here) ∙ at in
        subst (λ n. P n i) (sym here) (subst (P (leader_of r x)) (let same : first_entry r x e ≡ i = cc in same) own)
    | inr other ↦ let none = g.elsewhere t other in let no : ⊥ = cc (at, none) in absurd no
  ]

  first-entries : ((f : Epoch) → Decided later x f → (f ≡ e) × ((m : ℕ) → IsOther r x m → ⊥)) → Entries r later v x
  first-entries decided = record {
    one = only-first (λ t i. IsItsEntry r v x t i) (record { attempt = refl; leader = refl; members = refl; issued = g.issued; place = inl refl });
    born = λ t i at. inl (record { entry = first_entry r x e; found = g.now });
    committed = only-first (λ t i. i.committed ≡ true → Decided later x i.epoch) (λ c. let no : ⊥ = cc in absurd no);
    confirmed = λ m i at o has.
        absurd
        (only-first (λ t z. has_target z.confirmed m ≡ true → ⊥) (λ has. let none = has-none m in (let no : ⊥ = cc (has, none) in no)) (leader_of r x) i at has);
    held_by_leader = λ f d. record { entry = first_entry r x e; found = g.now; epoch = sym (decided f d).0 };
    held_by_others = λ f m d o. absurd ((decided f d).1 m o);
    aborted = λ a. absurd (g.unended a);
  }

  first-open : (t : ℕ) → t ≡ leader_of r x → IsOpenAt r v x t
  first-open t here = record { leads = here; entry = first_entry r x e; found = ap (λ n. entry_at v n x) here ∙ g.now; prepared = refl }

  -- each other member is asked by the present incarnation alone, and none refuses
  pub record AreAskedFirst : Type 0 where
    pub talks : (m : ℕ) → IsOther r x m → talking r (inc_at v (leader_of r x)) v x m ≡ 1
    pub few : (inc m : ℕ) → IsOther r x m → talking r inc v x m ≤ 1
    pub tries : (m : ℕ) → IsOther r x m → preparing r v x m ≤ 1

  -- it has other members: each is asked, and none is counted
  pub begins-with_others : ((f : Epoch) → Decided later x f → ⊥) → (client : ActorId) → row_at v (leader_of r x) x ≡ Some (new_undecided x (Some client)) → ((t : ℕ) → (t ≡ leader_of r x → ⊥) → row_at v t x ≡ None)
      → ((t : ℕ) → is_known_at v t x ≡ true → ⊥) → client ≡ letters.client x.client → AreAskedFirst → ((m : ℕ) (l : Letter) → Has l v.messages → is_prepare_to x m l ≡ true → m ≡ leader_of r x → ⊥) → Attempt r later v x
  begins-with_others undecided client row no_row unknown own asked member = record {
    entries = first-entries (λ f d. absurd (undecided f d));
    rows = record {
      undecided = λ t q at. elim (one-or_another t (leader_of r x)) [
        | inl here ↦ record {
          here = first-open t here;
          unknown = false_of (is_known_at v t x) (unknown t);
          client = λ c is. let one : Some c ≡ Some client = sym is ∙ sym (ap (λ u. u.client) (its t q here at)) in let same : c ≡ client = cc in same ∙ own;
        }
        | inr other ↦ let none = no_row t other in let no : ⊥ = cc (at, none) in absurd no
      ];
      unsettled = λ t known. absurd (unknown t known);
      either = λ i runs at prepared. inr (new_undecided x (Some client), row);
    };
    awaited = record {
      once = λ m q o at.
          let one = asked.talks m o in
          let bit : has_target q.counted m ≡ false = ap (λ u. has_target u.counted m) (sym (its (leader_of r x) q refl at)) ∙ has-none m in
          let zero : one_if (has_target q.counted m) ≡ 0 = ap one_if bit in
          inl (omega (arith, one, zero));
      few = asked.few;
      tries = asked.tries;
      before = λ m l i is. g.elsewhere m (member m l i is);
      counted = λ m q o at has.
          let bit : has_target q.counted m ≡ false = ap (λ u. has_target u.counted m) (sym (its (leader_of r x) q refl at)) ∙ has-none m in let no : ⊥ = cc (has, bit) in absurd no;
      firm = λ l f i is d. undecided f d;
    };
  }
    where
      its : (t : ℕ) (q : Undecided) → t ≡ leader_of r x → row_at v t x ≡ Some q → new_undecided x (Some client) ≡ q
      its t q here at = let one : Some (new_undecided x (Some client)) ≡ Some q = sym row ∙ ap (λ n. row_at v n x) (sym here) ∙ at in (let same : new_undecided x (Some client) ≡ q = cc in same)

  -- it has none: it is decided at once
  pub begins-alone : ((m : ℕ) → IsOther r x m → ⊥) → Decided later x e → ((f : Epoch) → Decided later x f → f ≡ e) → ((t : ℕ) (q : Undecided) → row_at v t x ≡ Some q → ⊥) → is_known_at v (leader_of r x) x ≡ true
      → ((t : ℕ) → (t ≡ leader_of r x → ⊥) → is_known_at v t x ≡ true → ⊥) → ((l : Letter) → Has l v.messages → ((m : ℕ) → is_prepare_to x m l ≡ true → ⊥) × ((inc : ℕ) → refuses_for inc x l.message ≡ true → ⊥)) → Attempt r later v x
  begins-alone alone decided only no_row known unknown silent = record {
    entries = first-entries (λ f d. (only f d, alone));
    rows = record {
      undecided = λ t q at. absurd (no_row t q at);
      unsettled = λ t is. elim (one-or_another t (leader_of r x)) [
        | inl here ↦ record { here = record { leads = here; entry = first_entry r x e; found = ap (λ n. entry_at v n x) here ∙ g.now; prepared = refl }; decided = decided }
        | inr other ↦ absurd (unknown t other is)
      ];
      either = λ i runs at prepared. inl known;
    };
    awaited = record {
      once = λ m q o at. absurd (alone m o);
      few = λ inc m o. absurd (alone m o);
      tries = λ m o. absurd (alone m o);
      before = λ m l i is. absurd ((silent l i).0 m is);
      counted = λ m q o at has. absurd (alone m o);
      firm = λ l f i is d. (silent l i).1 (inc_at v (leader_of r x)) is;
    };
  }

-- ---- its leader refuses it

pub begins-refused : (r : Rules) (h later : History) (w v : World) (x : AttemptId) → Attempt r h w x → entry_at w (leader_of r x) x ≡ None → (Aborted h x → ⊥) → Aborted later x
    → ((e : Epoch) → Decided later x e → Decided h x e) → ((t : ℕ) → entry_at v t x ≡ entry_at w t x) → ((t : ℕ) → row_at v t x ≡ row_at w t x) → ((t : ℕ) → is_known_at v t x ≡ is_known_at w t x)
    → ((inc m : ℕ) → talking r inc v x m ≡ 0) → ((m : ℕ) → preparing r v x m ≡ 0) → ((m : ℕ) (l : Letter) → Has l v.messages → is_prepare_to x m l ≡ true → ⊥) → Attempt r later v x
begins-refused r h later w v x k unstored unended aborted decided entry row known talks tries unasked = attempt-gone r later v x (record {
  aborted = aborted;
  undecided = λ e d. unborn-undecided r h w x k unstored unended e (decided e d);
  entry = entry (leader_of r x) ∙ unstored;
  rows = λ t q at. unborn-row r h w x k unstored unended t q (sym (row t) ∙ at);
  unknown = λ t is. unborn-unknown r h w x k unstored unended t (sym (known t) ∙ is);
  one = λ t e at. absurd (unborn-entry r h w x k unstored unended t e (sym (entry t) ∙ at));
  prepared = λ t e at c. unborn-entry r h w x k unstored unended t e (sym (entry t) ∙ at);
  few = λ inc m o. let zero = talks inc m in omega (arith, zero);
  tries = λ m o. let zero = tries m in omega (arith, zero);
  before = λ m l i is. absurd (unasked m l i is);
})
