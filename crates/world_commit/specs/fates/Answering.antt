-- A member answers what it is asked, and the leader counts it.
use Rattle.std.specs.Prelude.{ℕ, ◌≡◌, ◌⊎◌, ◌+◌, ◌≤◌, true, false, Some, None}
use Rattle.std.proofs.Common.{sym, ◌∙◌, ap, subst, arith, inl, inr}
use Rattle.base_types.specs.declared.entry.Entry.{Entry}
use Rattle.base_types.specs.declared.epoch.Epoch.{Epoch}
use Rattle.base_types.specs.declared.id.AttemptId.{AttemptId}
use Rattle.model_laws.specs.Members.{Has}
use Rattle.dtx_base.specs.declared.leading.Undecided.{Undecided}
use Rattle.dtx_base.specs.Members.{has_target, with_target}
use Rattle.world_commit.specs.attempts.Attempts.{Entries, HoldsAt, IsBorn, IsHeld, IsItsEntry, IsOpenAt, IsOther, IsSettled, entry_at, inc_at, is_known_at, is_prepare_to, leader_of, one_if, row_at}
use Rattle.world_commit.specs.attempts.Frames.{SameFate}
use Rattle.world_commit.specs.attempts.History.{Aborted, Decided, History}
use Rattle.world_commit.specs.attempts.MemberBits.{has-with, has-with_other}
use Rattle.world_commit.specs.fates.Facts.{Attempt, Awaited, IsOneUnless, IsRow, knows_down, preparing, refuses_for, talking}
use Rattle.world_commit.specs.fates.Frames.{SameLives, SameMail, awaited-stays, one-unless}
use Rattle.world_commit.specs.fates.Settling.{RowsStay, attempt-gone, rows-there}
use Rattle.world_commit.specs.attempts.Turning.{one-or_another}
use Rattle.world_base.specs.declared.letter.Letter.{Letter}
use Rattle.world_base.specs.declared.world.World.{World}
use Rattle.world_base.specs.Events.{Rules}

-- ---- a member stores what it is asked to prepare

-- a Prepare was taken, and its answer is in flight
pub record PrepareTaken (r : Rules) (h : History) (w v : World) (x : AttemptId) (t : ℕ) : Type 0 where
  pub mail : SameMail r h w v x
  pub last : (l : Letter) → Has l v.messages → is_prepare_to x t l ≡ true → ⊥

-- an entry is stored at a target that had none
pub record IsStored (r : Rules) (v w : World) (x : AttemptId) (t : ℕ) (e : Entry) : Type 0 where
  pub before : entry_at w t x ≡ None
  pub now : entry_at v t x ≡ Some e
  pub elsewhere : (u : ℕ) → (u ≡ t → ⊥) → entry_at v u x ≡ entry_at w u x
  pub its : IsItsEntry r v x t e
  pub prepared : e.committed ≡ false

module _ (r : Rules) (h later : History) (w v : World) (x : AttemptId) (t : ℕ) (e : Entry) (g : IsStored r v w x t e) where
  there : (u : ℕ) (i : Entry) → entry_at w u x ≡ Some i → entry_at v u x ≡ Some i
  there u i at = elim (one-or_another u t) [
    | inl here ↦ let none : entry_at w u x ≡ None = ap (λ n. entry_at w n x) here ∙ g.before in let no : ⊥ = cc (at, none) in absurd no
    | inr other ↦ g.elsewhere u other ∙ at
  ]

  each-entry : (P : ℕ → Entry → Type 0) → P t e → ((u : ℕ) (i : Entry) → entry_at w u x ≡ Some i → P u i) → (u : ℕ) (i : Entry) → entry_at v u x ≡ Some i → P u i
  each-entry P own others u i at = elim (one-or_another u t) [
    | inl here ↦
        let one : Some e ≡ Some i = sym g.now ∙ ap (λ n. entry_at v n x) (sym here) ∙ at in
        subst (λ n. P n i) (sym here) (subst (P t) (let same : e ≡ i = cc in same) own)
    | inr other ↦ others u i (sym (g.elsewhere u other) ∙ at)
  ]

  pub stored-held : (u : ℕ) → IsHeld w u x → IsHeld v u x
  stored-held u k = record { entry = k.entry; found = there u k.entry k.found }

  pub stored-settled : (u : ℕ) → IsSettled w u x → IsSettled v u x
  stored-settled u k = record { entry = k.entry; found = there u k.entry k.found; committed = k.committed }

  born-on : SameFate h later x → IsBorn r h w x → IsBorn r later v x
  born-on fate (inl k) = inl (stored-held (leader_of r x) k)
  born-on fate (inr a) = inr (fate.aborted a)

  stored-entries : (t ≡ leader_of r x → ⊥) → ((f : Epoch) → Has (x, f) w.issued → Has (x, f) v.issued) → SameFate h later x → IsBorn r h w x → Entries r h w x → Entries r later v x
  stored-entries other issued fate born k = record {
    one = each-entry (λ u i. IsItsEntry r v x u i) g.its
        (λ u i at. let z = k.one u i at in record { attempt = z.attempt; leader = z.leader; members = z.members; issued = issued i.epoch z.issued; place = z.place });
    born = each-entry (λ u i. IsBorn r later v x) (born-on fate born) (λ u i at. born-on fate (k.born u i at));
    committed = each-entry (λ u i. i.committed ≡ true → Decided later x i.epoch) (λ c. let no : ⊥ = cc (c, g.prepared) in absurd no) (λ u i at c. fate.decided i.epoch (k.committed u i at c));
    confirmed = λ m i at o has. stored-settled m (k.confirmed m i (sym (g.elsewhere (leader_of r x) (λ same. other (sym same))) ∙ at) o has);
    held_by_leader = λ f d. let z = k.held_by_leader f (fate.only_decided f d) in record { entry = z.entry; found = there (leader_of r x) z.entry z.found; epoch = z.epoch };
    held_by_others = λ f m d o. let z = k.held_by_others f m (fate.only_decided f d) o in record { entry = z.entry; found = there m z.entry z.found; epoch = z.epoch };
    aborted = λ a. g.elsewhere (leader_of r x) (λ same. other (sym same)) ∙ k.aborted (fate.only_aborted a);
  }

  stored-awaited : PrepareTaken r h w v x t → SameLives w v → SameFate h later x → RowsStay w v x → Awaited r h w x → Awaited r later v x
  stored-awaited taken lives fate rows k = awaited-stays r h later w v x taken.mail lives fate rows.row stored-held nothing k
    where
      nothing : (m : ℕ) (l : Letter) → Has l v.messages → is_prepare_to x m l ≡ true → entry_at w m x ≡ None → entry_at v m x ≡ None
      nothing m l i is none = elim (one-or_another m t) [
        | inl here ↦ absurd (taken.last l i (subst (λ n. is_prepare_to x n l ≡ true) here is))
        | inr other ↦ g.elsewhere m other ∙ none
      ]

  -- a member that isn't the leader stores its entry
  pub member-stores : (t ≡ leader_of r x → ⊥) → PrepareTaken r h w v x t → SameLives w v → SameFate h later x → RowsStay w v x → IsBorn r h w x → Attempt r h w x → Attempt r later v x
  member-stores other taken lives fate rows born k = record {
    entries = stored-entries other taken.mail.issued fate born k.entries;
    rows = rows-there r h later w v x rows lives fate (g.elsewhere (leader_of r x) (λ same. other (sym same))) k.rows;
    awaited = stored-awaited taken lives fate rows k.awaited;
  }

-- ---- a leader hears an answer

-- an answer of a member to this incarnation was taken
pub record AnswerTaken (r : Rules) (w v : World) (x : AttemptId) (inc sender : ℕ) : Type 0 where
  pub issued : (e : Epoch) → Has (x, e) w.issued → Has (x, e) v.issued
  pub own : talking r inc w x sender ≡ 1 + talking r inc v x sender
  pub others : (m : ℕ) → (m ≡ sender → ⊥) → talking r inc v x m ≡ talking r inc w x m
  pub apart : (i m : ℕ) → (i ≡ inc → ⊥) → talking r i v x m ≡ talking r i w x m
  pub fewer : (i m : ℕ) → talking r i v x m ≤ talking r i w x m
  pub tries : (m : ℕ) → preparing r v x m ≤ preparing r w x m
  pub left : (l : Letter) → Has l v.messages → (refuses_for inc x l.message ≡ true) ⊎ ((m : ℕ) × (is_prepare_to x m l ≡ true)) → Has l w.messages

-- all targets keep what they kept of an attempt
abbrev pub EntriesStay : World → World → AttemptId → Type 0
EntriesStay w v x = (t : ℕ) → entry_at v t x ≡ entry_at w t x

module _ (r : Rules) (h : History) (w v : World) (x : AttemptId) (inc sender : ℕ) (mail : AnswerTaken r w v x inc sender) (lives : SameLives w v) (k : Attempt r h w x) where
  few-on : (i m : ℕ) → IsOther r x m → talking r i v x m ≤ 1
  few-on i m o = let less = mail.fewer i m in let few = k.awaited.few i m o in omega (arith, less, few)

  tries-on : (m : ℕ) → IsOther r x m → preparing r v x m ≤ 1
  tries-on m o = let less = mail.tries m in let few = k.awaited.tries m o in omega (arith, less, few)

  its-on : (t : ℕ) (e : Entry) → IsItsEntry r w x t e → IsItsEntry r v x t e
  its-on t e z = record { attempt = z.attempt; leader = z.leader; members = z.members; issued = mail.issued e.epoch z.issued; place = z.place }

  module _ (later : History) (same : EntriesStay w v x) where
    held-on : (t : ℕ) → IsHeld w t x → IsHeld v t x
    held-on t z = record { entry = z.entry; found = same t ∙ z.found }

    settled-on : (t : ℕ) → IsSettled w t x → IsSettled v t x
    settled-on t z = record { entry = z.entry; found = same t ∙ z.found; committed = z.committed }

    born-still : (Aborted h x → Aborted later x) → IsBorn r h w x → IsBorn r later v x
    born-still a (inl z) = inl (held-on (leader_of r x) z)
    born-still a (inr z) = inr (a z)

    -- entries that stay, of an attempt that is decided only where all hold it
    entries-answered : ((e : Epoch) → Decided h x e → Decided later x e) → (Aborted h x → Aborted later x) → (Aborted later x → Aborted h x) → ((e : Epoch) → Decided later x e → HoldsAt w (leader_of r x) x e)
        → ((e : Epoch) (m : ℕ) → Decided later x e → IsOther r x m → HoldsAt w m x e) → Entries r later v x
    entries-answered decided aborted only_aborted leader others = record {
      one = λ t e at. its-on t e (k.entries.one t e (sym (same t) ∙ at));
      born = λ t e at. born-still aborted (k.entries.born t e (sym (same t) ∙ at));
      committed = λ t e at c. decided e.epoch (k.entries.committed t e (sym (same t) ∙ at) c);
      confirmed = λ m e at o has. settled-on m (k.entries.confirmed m e (sym (same (leader_of r x)) ∙ at) o has);
      held_by_leader = λ e d. let z = leader e d in record { entry = z.entry; found = same (leader_of r x) ∙ z.found; epoch = z.epoch };
      held_by_others = λ e m d o. let z = others e m d o in record { entry = z.entry; found = same m ∙ z.found; epoch = z.epoch };
      aborted = λ a. same (leader_of r x) ∙ k.entries.aborted (only_aborted a);
    }

    entries-same : SameFate h later x → Entries r later v x
    entries-same fate = entries-answered fate.decided fate.aborted fate.only_aborted (λ e d. k.entries.held_by_leader e (fate.only_decided e d)) (λ e m d o. k.entries.held_by_others e m (fate.only_decided e d) o)

    open-on : (t : ℕ) → IsOpenAt r w x t → IsOpenAt r v x t
    open-on t z = record { leads = z.leads; entry = z.entry; found = same t ∙ z.found; prepared = z.prepared }

    before-on : (m : ℕ) (l : Letter) → Has l v.messages → is_prepare_to x m l ≡ true → entry_at v m x ≡ None
    before-on m l i is = same m ∙ k.awaited.before m l (mail.left l i (inr (m, is))) is

    -- an answer that isn't awaited: the attempt has no row, or it is to another incarnation
    pub answer-ignored : SameFate h later x → RowsStay w v x → ((q : Undecided) → row_at w (leader_of r x) x ≡ Some q → ⊥) ⊎ (inc_at w (leader_of r x) ≡ inc → ⊥) → ((l : Letter) → Has l v.messages → Has l w.messages) → Attempt r later v x
    answer-ignored fate rows ignored were = record {
      entries = entries-same fate;
      rows = rows-there r h later w v x rows lives fate (same (leader_of r x)) k.rows;
      awaited = record {
        once = λ m q o at. once m q o (sym (rows.row (leader_of r x)) ∙ at) ignored;
        few = few-on;
        tries = tries-on;
        before = before-on;
        counted = λ m q o at has. held-on m (k.awaited.counted m q o (sym (rows.row (leader_of r x)) ∙ at) has);
        firm = λ l e i is d. k.awaited.firm l e (were l i) (subst (λ n. refuses_for n x l.message ≡ true) (lives.incarnation (leader_of r x)) is) (fate.only_decided e d);
      };
    }
      where
        once : (m : ℕ) (q : Undecided) → IsOther r x m → row_at w (leader_of r x) x ≡ Some q → ((q : Undecided) → row_at w (leader_of r x) x ≡ Some q → ⊥) ⊎ (inc_at w (leader_of r x) ≡ inc → ⊥)
            → IsOneUnless (knows_down v (leader_of r x) m) (talking r (inc_at v (leader_of r x)) v x m + one_if (has_target q.counted m))
        once m q o at (inl no_row) = absurd (no_row q at)
        once m q o at (inr late) =
            let talks : talking r (inc_at v (leader_of r x)) v x m ≡ talking r (inc_at w (leader_of r x)) w x m = ap (λ i. talking r i v x m) (lives.incarnation (leader_of r x)) ∙ mail.apart (inc_at w (leader_of r x)) m late in
            one-unless (lives.down (leader_of r x) m) (ap (λ n. n + one_if (has_target q.counted m)) talks) (k.awaited.once m q o at)

    -- one of a member that is awaited, and says Ok
    module _ (u : Undecided) (row : row_at w (leader_of r x) x ≡ Some u) (present : inc_at w (leader_of r x) ≡ inc) (other : IsOther r x sender) (held : IsHeld w sender x) where
      once-of : (m : ℕ) → IsOther r x m → IsOneUnless (knows_down w (leader_of r x) m) (talking r inc w x m + one_if (has_target u.counted m))
      once-of m o = subst (λ i. IsOneUnless (knows_down w (leader_of r x) m) (talking r i w x m + one_if (has_target u.counted m))) present (k.awaited.once m u o row)

      now-on : (m : ℕ) → talking r (inc_at v (leader_of r x)) v x m ≡ talking r inc v x m
      now-on m = ap (λ i. talking r i v x m) (lives.incarnation (leader_of r x) ∙ present)

      -- it isn't counted yet, and no other letter asks it
      awaited-once : (talking r inc v x sender ≡ 0) × (one_if (has_target u.counted sender) ≡ 0)
      awaited-once = by (once-of sender other)
        where
          by : IsOneUnless (knows_down w (leader_of r x) sender) (talking r inc w x sender + one_if (has_target u.counted sender)) → (talking r inc v x sender ≡ 0) × (one_if (has_target u.counted sender) ≡ 0)
          by (inl once) = let own = mail.own in (omega (arith, once, own), omega (arith, once, own))
          by (inr z) = let own = mail.own in let none = z.0 in let no : ⊥ = omega (arith, none, own) in absurd no

      -- it is counted
      pub answer-counted : SameFate h later x → row_at v (leader_of r x) x ≡ Some (record u { counted = with_target u.counted sender }) → ((t : ℕ) → (t ≡ leader_of r x → ⊥) → row_at v t x ≡ row_at w t x)
          → ((t : ℕ) → is_known_at v t x ≡ is_known_at w t x) → ((l : Letter) → Has l v.messages → Has l w.messages) → Attempt r later v x
      unfolding open-on
      answer-counted fate now rows known were = record {
        entries = entries-same fate;
        rows = record {
          undecided = λ t q at. elim (one-or_another t (leader_of r x)) [
            | inl here ↦
                let z = k.rows.undecided (leader_of r x) u row in
                let one : Some (record u { counted = with_target u.counted sender }) ≡ Some q = sym now ∙ ap (λ n. row_at v n x) (sym here) ∙ at in
                let is : record u { counted = with_target u.counted sender } ≡ q = cc in
                subst (λ n. IsRow r v x n q) (sym here)
                (record { here = open-on (leader_of r x) z.here; unknown = known (leader_of r x) ∙ z.unknown; client = λ c some. z.client c (ap (λ y. y.client) is ∙ some) })
            | inr apart ↦
                let z = k.rows.undecided t q (sym (rows t apart) ∙ at) in
                record { here = open-on t z.here; unknown = known t ∙ z.unknown; client = z.client }
          ];
          unsettled = λ t is. let z = k.rows.unsettled t (sym (known t) ∙ is) in record { here = open-on t z.here; decided = fate.decided z.here.entry.epoch z.decided };
          either = λ e runs at prepared. inr (record u { counted = with_target u.counted sender }, now);
        };
        awaited = record {
          once = λ m q o at. counts m q o (its q at);
          few = few-on;
          tries = tries-on;
          before = before-on;
          counted = λ m q o at has. held-on m (holds m q o (its q at) has);
          firm = λ l e i is d. k.awaited.firm l e (were l i) (subst (λ n. refuses_for n x l.message ≡ true) (lives.incarnation (leader_of r x)) is) (fate.only_decided e d);
        };
      }
        where
          its : (q : Undecided) → row_at v (leader_of r x) x ≡ Some q → with_target u.counted sender ≡ q.counted
          its q at = let one : Some (record u { counted = with_target u.counted sender }) ≡ Some q = sym now ∙ at in let is : record u { counted = with_target u.counted sender } ≡ q = cc in ap (λ y. y.counted) is

          counts : (m : ℕ) (q : Undecided) → IsOther r x m → with_target u.counted sender ≡ q.counted → IsOneUnless (knows_down v (leader_of r x) m) (talking r (inc_at v (leader_of r x)) v x m + one_if (has_target q.counted m))
          counts m q o is = elim (one-or_another m sender) [
            | inl here ↦
                let bit : has_target q.counted m ≡ true = subst (λ n. has_target q.counted n ≡ true) (sym here) (subst (λ c. has_target c sender ≡ true) is (has-with u.counted sender)) in
                let zero : talking r (inc_at v (leader_of r x)) v x m ≡ 0 = now-on m ∙ ap (talking r inc v x) here ∙ awaited-once.0 in
                let one : one_if (has_target q.counted m) ≡ 1 = ap one_if bit in
                inl (omega (arith, zero, one))
            | inr apart ↦
                let bit : has_target q.counted m ≡ has_target u.counted m = sym (ap (λ c. has_target c m) is) ∙ has-with_other u.counted sender m apart in
                let talks : talking r (inc_at v (leader_of r x)) v x m ≡ talking r inc w x m = now-on m ∙ mail.others m apart in
                let bits : one_if (has_target q.counted m) ≡ one_if (has_target u.counted m) = ap one_if bit in
                one-unless (lives.down (leader_of r x) m) (omega (arith, talks, bits)) (once-of m o)
          ]

          holds : (m : ℕ) (q : Undecided) → IsOther r x m → with_target u.counted sender ≡ q.counted → has_target q.counted m ≡ true → IsHeld w m x
          holds m q o is has = elim (one-or_another m sender) [
            | inl here ↦ subst (λ n. IsHeld w n x) (sym here) held
            | inr apart ↦ k.awaited.counted m u o row (sym (has-with_other u.counted sender m apart) ∙ ap (λ c. has_target c m) is ∙ has)
          ]

      -- it is the last one: all others are counted, and the attempt is decided
      pub answer-decides : (i : Entry) → entry_at w (leader_of r x) x ≡ Some i → i.committed ≡ false → ((m : ℕ) → IsOther r x m → (m ≡ sender) ⊎ (has_target u.counted m ≡ true))
          → ((e f : Epoch) → Has (x, e) w.issued → Has (x, f) w.issued → e ≡ f) → Decided later x i.epoch → ((e : Epoch) → Decided h x e → Decided later x e) → ((e : Epoch) → Decided later x e → e ≡ i.epoch) → (Aborted later x → ⊥)
          → ((t : ℕ) (q : Undecided) → row_at v t x ≡ Some q → ⊥) → is_known_at v (leader_of r x) x ≡ true → ((t : ℕ) → (t ≡ leader_of r x → ⊥) → is_known_at v t x ≡ is_known_at w t x)
          → ((l : Letter) → Has l v.messages → refuses_for inc x l.message ≡ true → (m : ℕ) × IsOther r x m × (1 ≤ talking r inc v x m)) → Attempt r later v x
      answer-decides i found prepared all one decided stays only unaborted no_row known elsewhere refusing = record {
        entries = entries-answered stays (λ a. let none = k.entries.aborted a in let no : ⊥ = cc (none, found) in absurd no) (λ a. absurd (unaborted a))
            (λ e d. record { entry = i; found = found; epoch = sym (only e d) })
            (λ e m d o. let z = holds m o in record { entry = z.entry; found = z.found; epoch = one z.entry.epoch e (k.entries.one m z.entry z.found).issued (subst (λ n. Has (x, n) w.issued) (sym (only e d)) (k.entries.one (leader_of r x) i found).issued) });
        rows = record {
          undecided = λ t q at. absurd (no_row t q at);
          unsettled = λ t is. elim (one-or_another t (leader_of r x)) [
            | inl here ↦ record { here = record { leads = here; entry = i; found = same t ∙ ap (λ n. entry_at w n x) here ∙ found; prepared = prepared }; decided = decided }
            | inr apart ↦ absurd (apart (k.rows.unsettled t (sym (elsewhere t apart) ∙ is)).here.leads)
          ];
          either = λ e runs at is. inl known;
        };
        awaited = record {
          once = λ m q o at. absurd (no_row (leader_of r x) q at);
          few = few-on;
          tries = tries-on;
          before = before-on;
          counted = λ m q o at has. absurd (no_row (leader_of r x) q at);
          firm = λ l e j is d. let a = refusing l j (subst (λ n. refuses_for n x l.message ≡ true) (lives.incarnation (leader_of r x) ∙ present) is) in let zero = silent a.0 a.1 in let some = a.2 in omega (arith, zero, some);
        };
      }
        where
          holds : (m : ℕ) → IsOther r x m → IsHeld w m x
          holds m o = elim (all m o) [
            | inl here ↦ subst (λ n. IsHeld w n x) (sym here) held
            | inr has ↦ k.awaited.counted m u o row has
          ]

          -- nobody is asked or answers any more
          silent : (m : ℕ) → IsOther r x m → talking r inc v x m ≡ 0
          silent m o = elim (one-or_another m sender) [
            | inl here ↦ ap (talking r inc v x) here ∙ awaited-once.0
            | inr apart ↦
                let bit : has_target u.counted m ≡ true = elim (all m o) [ inl here ↦ absurd (apart here) | inr has ↦ has ] in
                by (mail.others m apart) (subst (λ b. IsOneUnless (knows_down w (leader_of r x) m) (talking r inc w x m + one_if b)) bit (once-of m o))
          ]
            where
              by : talking r inc v x m ≡ talking r inc w x m → IsOneUnless (knows_down w (leader_of r x) m) (talking r inc w x m + one_if true) → talking r inc v x m ≡ 0
              by same (inl once) = omega (arith, same, once)
              by same (inr z) = let none = z.0 in let no : ⊥ = omega (arith, none) in absurd no

  -- an answer that refuses: the attempt is aborted
  pub answer-aborts : (later : History) (u : Undecided) → row_at w (leader_of r x) x ≡ Some u → ((e : Epoch) → Decided h x e → ⊥) → Aborted later x → ((e : Epoch) → Decided later x e → Decided h x e) → entry_at v (leader_of r x) x ≡ None
      → ((t : ℕ) → (t ≡ leader_of r x → ⊥) → entry_at v t x ≡ entry_at w t x) → ((t : ℕ) (q : Undecided) → row_at v t x ≡ Some q → ⊥) → ((t : ℕ) → is_known_at v t x ≡ is_known_at w t x) → Attempt r later v x
  answer-aborts later u row undecided aborted decided gone elsewhere no_row known = attempt-gone r later v x (record {
    aborted = aborted;
    undecided = λ e d. undecided e (decided e d);
    entry = gone;
    rows = no_row;
    unknown = λ t is. let z = k.rows.unsettled t (sym (known t) ∙ is) in undecided z.here.entry.epoch z.decided;
    one = λ t e at. its-on t e (k.entries.one t e (was t e at));
    prepared = λ t e at c. undecided e.epoch (k.entries.committed t e (was t e at) c);
    few = few-on;
    tries = tries-on;
    before = λ m l i is. none m (k.awaited.before m l (mail.left l i (inr (m, is))) is);
  })
    where
      was : (t : ℕ) (e : Entry) → entry_at v t x ≡ Some e → entry_at w t x ≡ Some e
      was t e at = elim (one-or_another t (leader_of r x)) [
        | inl here ↦ let nothing : entry_at v t x ≡ None = ap (λ n. entry_at v n x) here ∙ gone in let no : ⊥ = cc (at, nothing) in absurd no
        | inr apart ↦ sym (elsewhere t apart) ∙ at
      ]

      none : (t : ℕ) → entry_at w t x ≡ None → entry_at v t x ≡ None
      none t before = elim (one-or_another t (leader_of r x)) [
        | inl here ↦ ap (λ n. entry_at v n x) here ∙ gone
        | inr apart ↦ elsewhere t apart ∙ before
      ]
