-- An attempt is settled somewhere: its entry there is committed, or confirmed, or goes.
use Rattle.std.specs.Prelude.{ℕ, ◌≡◌, ◌≤◌, true, false, Some, None, refl}
use Rattle.std.proofs.Common.{sym, ◌∙◌, ap, subst, arith, inl, inr}
use Rattle.base_types.specs.declared.entry.Entry.{Entry}
use Rattle.base_types.specs.declared.epoch.Epoch.{Epoch}
use Rattle.base_types.specs.declared.id.AttemptId.{AttemptId}
use Rattle.model_laws.specs.Members.{Has}
use Rattle.dtx_base.specs.declared.leading.Undecided.{Undecided}
use Rattle.dtx_base.specs.Members.{has_target}
use Rattle.world_commit.specs.attempts.Attempts.{Entries, HoldsAt, IsBorn, IsHeld, IsItsEntry, IsOpenAt, IsOther, IsSettled, entry_at, is_known_at, is_prepare_to, leader_of, row_at}
use Rattle.world_commit.specs.attempts.Frames.{SameFate}
use Rattle.world_commit.specs.attempts.History.{Aborted, Decided, History}
use Rattle.world_commit.specs.attempts.Turning.{one-or_another}
use Rattle.world_commit.specs.fates.Facts.{Attempt, Rows, preparing, talking}
use Rattle.world_commit.specs.fates.Frames.{SameLives, SameMail, awaited-stays}
use Rattle.world_base.specs.declared.letter.Letter.{Letter}
use Rattle.world_base.specs.declared.world.World.{World}
use Rattle.world_base.specs.Events.{Rules}

-- ---- an entry goes on

-- an entry at one target changes, but for what it is an entry of, and all other entries of the attempt stay
pub record GoesOn (r : Rules) (h later : History) (w v : World) (x : AttemptId) (t : ℕ) (e f : Entry) : Type 0 where
  pub found : entry_at w t x ≡ Some e
  pub now : entry_at v t x ≡ Some f
  pub elsewhere : (u : ℕ) → (u ≡ t → ⊥) → entry_at v u x ≡ entry_at w u x
  pub attempt : f.attempt ≡ e.attempt
  pub epoch : f.epoch ≡ e.epoch
  pub leader : f.leader ≡ e.leader
  pub members : f.members ≡ e.members
  pub stays : e.committed ≡ true → f.committed ≡ true
  pub committed : f.committed ≡ true → Decided later x f.epoch
  pub confirmed : t ≡ leader_of r x → (m : ℕ) → IsOther r x m → has_target f.confirmed m ≡ true → IsSettled w m x
  pub fate : SameFate h later x
  pub mail : SameMail r h w v x
  pub lives : SameLives w v

module _ (r : Rules) (h later : History) (w v : World) (x : AttemptId) (t : ℕ) (e f : Entry) (g : GoesOn r h later w v x t e f) where
  pub held-on : (u : ℕ) → IsHeld w u x → IsHeld v u x
  held-on u k = elim (one-or_another u t) [
    | inl here ↦ record { entry = f; found = ap (λ n. entry_at v n x) here ∙ g.now }
    | inr other ↦ record { entry = k.entry; found = g.elsewhere u other ∙ k.found }
  ]

  pub none-on : (u : ℕ) → entry_at w u x ≡ None → entry_at v u x ≡ None
  none-on u none = elim (one-or_another u t) [
    | inl here ↦ let one : entry_at w u x ≡ Some e = ap (λ n. entry_at w n x) here ∙ g.found in let no : ⊥ = cc (one, none) in absurd no
    | inr other ↦ g.elsewhere u other ∙ none
  ]

  pub settled-on : (u : ℕ) → IsSettled w u x → IsSettled v u x
  settled-on u k = elim (one-or_another u t) [
    | inl here ↦
        let one : Some k.entry ≡ Some e = sym k.found ∙ ap (λ n. entry_at w n x) here ∙ g.found in
        let same : k.entry ≡ e = cc in
        record { entry = f; found = ap (λ n. entry_at v n x) here ∙ g.now; committed = g.stays (sym (ap (λ i. i.committed) same) ∙ k.committed) }
    | inr other ↦ record { entry = k.entry; found = g.elsewhere u other ∙ k.found; committed = k.committed }
  ]

  born-on : IsBorn r h w x → IsBorn r later v x
  born-on (inl k) = inl (held-on (leader_of r x) k)
  born-on (inr a) = inr (g.fate.aborted a)

  holds-on : (u : ℕ) (own : Epoch) → HoldsAt w u x own → HoldsAt v u x own
  holds-on u own k = elim (one-or_another u t) [
    | inl here ↦
        let one : Some k.entry ≡ Some e = sym k.found ∙ ap (λ n. entry_at w n x) here ∙ g.found in
        let same : k.entry ≡ e = cc in
        record { entry = f; found = ap (λ n. entry_at v n x) here ∙ g.now; epoch = g.epoch ∙ sym (ap (λ i. i.epoch) same) ∙ k.epoch }
    | inr other ↦ record { entry = k.entry; found = g.elsewhere u other ∙ k.found; epoch = k.epoch }
  ]

  its : (u : ℕ) (i : Entry) → IsItsEntry r w x u i → IsItsEntry r v x u i
  its u i z = record { attempt = z.attempt; leader = z.leader; members = z.members; issued = g.mail.issued i.epoch z.issued; place = z.place }

  changed : IsItsEntry r w x t e → IsItsEntry r v x t f
  changed z = record {
    attempt = g.attempt ∙ z.attempt;
    leader = g.leader ∙ z.leader;
    members = g.members ∙ z.members;
    issued = subst (λ n. Has (x, n) v.issued) (sym g.epoch) (g.mail.issued e.epoch z.issued);
    place = z.place;
  }

  -- what holds of the entry that changed and of each other one holds of all
  each-entry : (P : ℕ → Entry → Type 0) → P t f → ((u : ℕ) (i : Entry) → entry_at w u x ≡ Some i → P u i) → (u : ℕ) (i : Entry) → entry_at v u x ≡ Some i → P u i
  each-entry P own others u i at = elim (one-or_another u t) [
    | inl here ↦
        let one : Some f ≡ Some i = sym g.now ∙ ap (λ n. entry_at v n x) (sym here) ∙ at in
        subst (λ n. P n i) (sym here) (subst (P t) (let same : f ≡ i = cc in same) own)
    | inr other ↦ others u i (sym (g.elsewhere u other) ∙ at)
  ]

  pub entries-on : Entries r h w x → Entries r later v x
  entries-on k = record {
    one = each-entry (λ u i. IsItsEntry r v x u i) (changed (k.one t e g.found)) (λ u i at. its u i (k.one u i at));
    born = each-entry (λ u i. IsBorn r later v x) (born-on (k.born t e g.found)) (λ u i at. born-on (k.born u i at));
    committed = each-entry (λ u i. i.committed ≡ true → Decided later x i.epoch) g.committed (λ u i at c. g.fate.decided i.epoch (k.committed u i at c));
    confirmed = λ m i at o has.
        settled-on m
        (each-entry (λ u i. u ≡ leader_of r x → has_target i.confirmed m ≡ true → IsSettled w m x) (λ leads has. g.confirmed leads m o has)
        (λ u i at leads has. k.confirmed m i (subst (λ n. entry_at w n x ≡ Some i) leads at) o has) (leader_of r x) i at refl has);
    held_by_leader = λ own d. holds-on (leader_of r x) own (k.held_by_leader own (g.fate.only_decided own d));
    held_by_others = λ own m d o. holds-on m own (k.held_by_others own m (g.fate.only_decided own d) o);
    aborted = λ a. none-on (leader_of r x) (k.aborted (g.fate.only_aborted a));
  }

-- ---- a member settles, or the leader confirms

-- rows stay where the leader's entry does, or is committed before and after
pub record RowsStay (w v : World) (x : AttemptId) : Type 0 where
  pub row : (t : ℕ) → row_at v t x ≡ row_at w t x
  pub known : (t : ℕ) → is_known_at v t x ≡ is_known_at w t x

open-there : (r : Rules) (w v : World) (x : AttemptId) (u : ℕ) → entry_at v u x ≡ entry_at w u x → IsOpenAt r w x u → IsOpenAt r v x u
open-there r w v x u same k = record { leads = k.leads; entry = k.entry; found = same ∙ k.found; prepared = k.prepared }

pub rows-there : (r : Rules) (h later : History) (w v : World) (x : AttemptId) → RowsStay w v x → SameLives w v → SameFate h later x → entry_at v (leader_of r x) x ≡ entry_at w (leader_of r x) x → Rows r h w x → Rows r later v x
unfolding open-there
rows-there r h later w v x s lives fate same k = record {
  undecided = λ t q at.
      let z = k.undecided t q (sym (s.row t) ∙ at) in
      record {
        here = open-there r w v x t (subst (λ n. entry_at v n x ≡ entry_at w n x) (sym z.here.leads) same) z.here;
        unknown = s.known t ∙ z.unknown;
        client = z.client;
      };
  unsettled = λ t known.
      let z = k.unsettled t (sym (s.known t) ∙ known) in
      record { here = open-there r w v x t (subst (λ n. entry_at v n x ≡ entry_at w n x) (sym z.here.leads) same) z.here; decided = fate.decided z.here.entry.epoch z.decided };
  either = λ e runs at prepared. elim (k.either e (lives.runs (leader_of r x) runs) (sym same ∙ at) prepared) [
    | inl known ↦ inl (s.known (leader_of r x) ∙ known)
    | inr z ↦ inr (z.0, s.row (leader_of r x) ∙ z.1)
  ];
}

-- one whose leader has committed it has no row
pub rows-settled : (r : Rules) (h later : History) (v : World) (x : AttemptId) (f : Entry) → entry_at v (leader_of r x) x ≡ Some f → f.committed ≡ true
    → ((t : ℕ) (q : Undecided) → row_at v t x ≡ Some q → ⊥) → ((t : ℕ) → is_known_at v t x ≡ true → ⊥) → Rows r later v x
rows-settled r h later v x f found committed no_row unknown = record {
  undecided = λ t q at. absurd (no_row t q at);
  unsettled = λ t known. absurd (unknown t known);
  either = λ e runs at prepared. let one : Some e ≡ Some f = sym at ∙ found in let same : e ≡ f = cc in let no : ⊥ = cc (ap (λ i. i.committed) same, prepared, committed) in absurd no;
}

-- at a target that isn't its leader
pub member-goes_on : (r : Rules) (h later : History) (w v : World) (x : AttemptId) (t : ℕ) (e f : Entry) → GoesOn r h later w v x t e f → (leader_of r x ≡ t → ⊥) → RowsStay w v x
    → Attempt r h w x → Attempt r later v x
member-goes_on r h later w v x t e f g other rows k = record {
  entries = entries-on r h later w v x t e f g k.entries;
  rows = rows-there r h later w v x rows g.lives g.fate (g.elsewhere (leader_of r x) other) k.rows;
  awaited = awaited-stays r h later w v x g.mail g.lives g.fate rows.row (held-on r h later w v x t e f g) (λ m l i is. none-on r h later w v x t e f g m) k.awaited;
}

-- a row is of an entry that its leader hasn't committed
no-row : (r : Rules) (h : History) (w : World) (x : AttemptId) (e : Entry) → entry_at w (leader_of r x) x ≡ Some e → e.committed ≡ true → (t : ℕ) → IsOpenAt r w x t → ⊥
no-row r h w x e found committed t z =
    let one : Some z.entry ≡ Some e = sym z.found ∙ ap (λ n. entry_at w n x) z.leads ∙ found in
    let same : z.entry ≡ e = cc in
    (let no : ⊥ = cc (ap (λ i. i.committed) same, z.prepared, committed) in no)

-- a leader confirms that a member has committed
pub leader-confirms : (r : Rules) (h later : History) (w v : World) (x : AttemptId) (e f : Entry) → GoesOn r h later w v x (leader_of r x) e f → e.committed ≡ true → RowsStay w v x → Attempt r h w x → Attempt r later v x
leader-confirms r h later w v x e f g committed rows k = record {
  entries = entries-on r h later w v x (leader_of r x) e f g k.entries;
  rows = rows-settled r h later v x f g.now (g.stays committed)
      (λ t q at. no-row r h w x e g.found committed t (k.rows.undecided t q (sym (rows.row t) ∙ at)).here)
      (λ t known. no-row r h w x e g.found committed t (k.rows.unsettled t (sym (rows.known t) ∙ known)).here);
  awaited = awaited-stays r h later w v x g.mail g.lives g.fate rows.row (held-on r h later w v x (leader_of r x) e f g) (λ m l i is. none-on r h later w v x (leader_of r x) e f g m) k.awaited;
}

-- a leader settles an attempt that it knows as decided
pub leader-settles : (r : Rules) (h later : History) (w v : World) (x : AttemptId) (e f : Entry) → GoesOn r h later w v x (leader_of r x) e f → f.committed ≡ true
    → is_known_at w (leader_of r x) x ≡ true → ((t : ℕ) → row_at v t x ≡ row_at w t x) → ((t : ℕ) → is_known_at v t x ≡ true → ⊥) → Attempt r h w x → Attempt r later v x
leader-settles r h later w v x e f g committed known row unknown k = record {
  entries = entries-on r h later w v x (leader_of r x) e f g k.entries;
  rows = rows-settled r h later v x f g.now committed
      (λ t q at.
      let z = k.rows.undecided t q (sym (row t) ∙ at) in
      let off : is_known_at w (leader_of r x) x ≡ false = subst (λ n. is_known_at w n x ≡ false) z.here.leads z.unknown in
      (let no : ⊥ = cc (known, off) in no)) unknown;
  awaited = awaited-stays r h later w v x g.mail g.lives g.fate row (held-on r h later w v x (leader_of r x) e f g) (λ m l i is. none-on r h later w v x (leader_of r x) e f g m) k.awaited;
}

-- ---- an attempt that is aborted

pub record IsGone (r : Rules) (later : History) (v : World) (x : AttemptId) : Type 0 where
  pub aborted : Aborted later x
  pub undecided : (e : Epoch) → Decided later x e → ⊥
  pub entry : entry_at v (leader_of r x) x ≡ None
  pub rows : (t : ℕ) (q : Undecided) → row_at v t x ≡ Some q → ⊥
  pub unknown : (t : ℕ) → is_known_at v t x ≡ true → ⊥
  pub one : (t : ℕ) (e : Entry) → entry_at v t x ≡ Some e → IsItsEntry r v x t e
  pub prepared : (t : ℕ) (e : Entry) → entry_at v t x ≡ Some e → e.committed ≡ true → ⊥
  pub few : (inc m : ℕ) → IsOther r x m → talking r inc v x m ≤ 1
  pub tries : (m : ℕ) → IsOther r x m → preparing r v x m ≤ 1
  pub before : (m : ℕ) (l : Letter) → Has l v.messages → is_prepare_to x m l ≡ true → entry_at v m x ≡ None

pub attempt-gone : (r : Rules) (later : History) (v : World) (x : AttemptId) → IsGone r later v x → Attempt r later v x
attempt-gone r later v x g = record {
  entries = record {
    one = g.one;
    born = λ t e at. inr g.aborted;
    committed = λ t e at c. absurd (g.prepared t e at c);
    confirmed = λ m e at o has. let no : ⊥ = cc (at, g.entry) in absurd no;
    held_by_leader = λ e d. absurd (g.undecided e d);
    held_by_others = λ e m d o. absurd (g.undecided e d);
    aborted = λ a. g.entry;
  };
  rows = record {
    undecided = λ t q at. absurd (g.rows t q at);
    unsettled = λ t known. absurd (g.unknown t known);
    either = λ e runs at prepared. let no : ⊥ = cc (at, g.entry) in absurd no;
  };
  awaited = record {
    once = λ m q o at. absurd (g.rows (leader_of r x) q at);
    few = g.few;
    tries = g.tries;
    before = g.before;
    counted = λ m q o at has. absurd (g.rows (leader_of r x) q at);
    firm = λ l e i is d. g.undecided e d;
  };
}

-- an aborted attempt isn't decided, has no row, and no entry of it is committed
module _ (r : Rules) (h : History) (w : World) (x : AttemptId) (k : Attempt r h w x) (a : Aborted h x) where
  pub aborted-undecided : (e : Epoch) → Decided h x e → ⊥
  aborted-undecided e d = let z = k.entries.held_by_leader e d in let none = k.entries.aborted a in (let no : ⊥ = cc (z.found, none) in no)

  aborted-closed : (t : ℕ) → IsOpenAt r w x t → ⊥
  aborted-closed t z = let none = k.entries.aborted a in let found : entry_at w (leader_of r x) x ≡ Some z.entry = subst (λ n. entry_at w n x ≡ Some z.entry) z.leads z.found in (let no : ⊥ = cc (found, none) in no)

  pub aborted-unrowed : (t : ℕ) (q : Undecided) → row_at w t x ≡ Some q → ⊥
  aborted-unrowed t q at = aborted-closed t (k.rows.undecided t q at).here

  pub aborted-unknown : (t : ℕ) → is_known_at w t x ≡ true → ⊥
  aborted-unknown t known = aborted-closed t (k.rows.unsettled t known).here

  pub aborted-prepared : (t : ℕ) (e : Entry) → entry_at w t x ≡ Some e → e.committed ≡ true → ⊥
  aborted-prepared t e at c = aborted-undecided e.epoch (k.entries.committed t e at c)

-- a member's entry of an aborted attempt goes
pub member-aborts : (r : Rules) (h later : History) (w v : World) (x : AttemptId) (t : ℕ) → Aborted h x → SameFate h later x → SameMail r h w v x → RowsStay w v x → entry_at v t x ≡ None
    → ((u : ℕ) → (u ≡ t → ⊥) → entry_at v u x ≡ entry_at w u x) → Attempt r h w x → Attempt r later v x
member-aborts r h later w v x t a fate mail rows gone elsewhere k = attempt-gone r later v x (record {
  aborted = fate.aborted a;
  undecided = λ e d. aborted-undecided r h w x k a e (fate.only_decided e d);
  entry = none (leader_of r x) (k.entries.aborted a);
  rows = λ u q at. aborted-unrowed r h w x k a u q (sym (rows.row u) ∙ at);
  unknown = λ u known. aborted-unknown r h w x k a u (sym (rows.known u) ∙ known);
  one = λ u e at.
      let z = k.entries.one u e (was u e at) in record { attempt = z.attempt; leader = z.leader; members = z.members; issued = mail.issued e.epoch z.issued; place = z.place };
  prepared = λ u e at. aborted-prepared r h w x k a u e (was u e at);
  few = λ inc m o. let few = k.awaited.few inc m o in let same = mail.talks inc m in omega (arith, few, same);
  tries = λ m o. let few = k.awaited.tries m o in let less = mail.tries m in omega (arith, few, less);
  before = λ m l i is. none m (k.awaited.before m l (mail.prepares m l i is) is);
})
  where
    none : (u : ℕ) → entry_at w u x ≡ None → entry_at v u x ≡ None
    none u was = elim (one-or_another u t) [
      | inl here ↦ ap (λ n. entry_at v n x) here ∙ gone
      | inr other ↦ elsewhere u other ∙ was
    ]

    was : (u : ℕ) (e : Entry) → entry_at v u x ≡ Some e → entry_at w u x ≡ Some e
    was u e at = elim (one-or_another u t) [
      | inl here ↦ let nothing : entry_at v u x ≡ None = ap (λ n. entry_at v n x) here ∙ gone in let no : ⊥ = cc (at, nothing) in absurd no
      | inr other ↦ sym (elsewhere u other) ∙ at
    ]
