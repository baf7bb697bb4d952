-- Idle work keeps the facts of attempts.
use Rattle.std.specs.Prelude.{ℕ, ◌≡◌, Bool, true, false, ◌&&◌, ◌==◌, not, List, [], ◌∷◌, filter, map, slice_get, Option, Some, None, refl, if◌then◌else◌}
use Rattle.std.proofs.Common.{sym, ◌∙◌, ap, subst, arith, inl, inr}
use Rattle.std.proofs.Math.ListN.{set}
use Rattle.std.proofs.lemmas.Bool.Decides.{nat_tests}
use Rattle.base_types.specs.declared.entry.Entry.{Entry}
use Rattle.base_types.specs.declared.id.AttemptId.{AttemptId}
use Rattle.model_laws.specs.Members.{Has, has-cases, has-from_filter, has-from_map}
use Rattle.base_messages.specs.declared.message.Message.TheVariants as message
use Rattle.base_messages.specs.declared.message.Post.{Post}
use Rattle.daos_model.specs.Answers.{is_before}
use Rattle.daos_model.specs.BoolLaws.{and_left, and_right, clash, false_of, not_true}
use Rattle.daos_model.specs.Durables.{attempt_key, entry_key, entry_of, same_attempt}
use Rattle.daos_model.specs.EntryLaws.{same_attempt-itself}
use Rattle.daos_model.specs.Ordered.{all_after, is_rising}
use Rattle.daos_model.specs.OrderLaws.{before-itself}
use Rattle.dtx_base.specs.declared.leading.Naming.{Naming}
use Rattle.dtx_base.specs.Joining as member
use Rattle.dtx_base.specs.LeaderLaws.{same-is}
use Rattle.dtx_base.specs.Leading.{LeaderOf, batched, commit_mark, entry_attempt, is_led, is_owed, mark_with, marks_for, owed, to_target}
use Rattle.dtx_base.specs.Members.{all_targets, has_target, is_other_member}
use Rattle.dtx_base.specs.Rows.{is_empty, itself, row_key, without_row}
use Rattle.world_commit.specs.attempts.Attempts.{IsItsEntry, entry_in, inc_in, leader_of}
use Rattle.world_commit.specs.attempts.History.{History}
use Rattle.world_commit.specs.attempts.Stored.{found-here}
use Rattle.world_commit.specs.attempts.MemberBits.{other-from_test}
use Rattle.world_commit.specs.attempts.Turning.{at_work}
use Rattle.world_commit.specs.fates.Facts.{IsMarkRight, IsSaidSo, Ongoing}
use Rattle.world_commit.specs.fates.FetchTurns.{TurnLeft, query-right, work-keeps, work-settles}
use Rattle.world_commit.specs.fates.Working.{ArePlain, PostsSo, is_plain, plain-mild, work-sends}
use Rattle.world_base.specs.declared.did.Did.{Did}
use Rattle.world_base.specs.declared.target.Life.TheVariants.{Running}
use Rattle.world_base.specs.declared.target.TargetMemory.{TargetMemory}
use Rattle.world_base.specs.declared.target.TargetState.{TargetState}
use Rattle.world_base.specs.declared.world.World.{World}
use Rattle.world_base.specs.Events.{Rules, target_after, target_plan}
use Rattle.world_base.specs.Letters.{target}
use Rattle.world_base.specs.StepLaws.{set-here}
use Rattle.world_base.specs.Changes.{Change, Kept, Steps}
use Rattle.world_base.specs.Idle.{AllSettled, IdleEnds, IdleNext, SettlesFirst, batch_of, idle_memory, idle_told, inquiry_of}
use Rattle.world_base.specs.Roles.{leader_at, member_at, with_unsettled}
use Rattle.model_laws.specs.TargetLaws.{number_same}

number-off : (a b : ℕ) → (a == b) ≡ false → a ≡ b → ⊥
number-off a b off same = let no : ⊥ = grind (arith, nat_tests) in no

-- those that are left once the first of some in order was taken away
rest-of : (a : AttemptId) (rest : List AttemptId) → is_rising (row_key itself) (a ∷ rest) ≡ true → rest ≡ without_row itself a (a ∷ rest)
rest-of a rest rises = sym (ap (λ (b : Bool). if not b then a ∷ without_row itself a rest else without_row itself a rest) (same_attempt-itself a) ∙ all rest (and_left (all_after (row_key itself) (attempt_key a) rest) (is_rising (row_key itself) rest) rises))
  where
    all : (xs : List AttemptId) → all_after (row_key itself) (attempt_key a) xs ≡ true → without_row itself a xs ≡ xs
    all [] after = refl
    all (x ∷ xs) after =
        let later : is_before (attempt_key a) (attempt_key x) ≡ true = and_left (is_before (attempt_key a) (attempt_key x)) (all_after (row_key itself) (attempt_key a) xs) after in
        let off : same_attempt x a ≡ false = false_of (same_attempt x a) (λ own. clash (is_before (attempt_key a) (attempt_key x)) later (ap (λ z. is_before (attempt_key a) (attempt_key z)) (same-is x a own) ∙ before-itself (attempt_key a))) in
        ap (λ (b : Bool). if not b then x ∷ without_row itself a xs else without_row itself a xs) off
        ∙ ap (λ ys. x ∷ ys) (all xs (and_right (is_before (attempt_key a) (attempt_key x)) (all_after (row_key itself) (attempt_key a) xs) after))

-- ---- a batch

-- a message of a batch names to a target commits that it is owed
pub record IsBatchMark (inc down : ℕ) (named : List Naming) (es : List Entry) (ts : List ℕ) (p : Post) : Type 0 where
  pub to : ℕ
  pub among : Has to ts
  pub is : p ≡ to_target to (message.Mark inc (map commit_mark (owed down named es to)))

mark-is : (inc t : ℕ) (ids : List AttemptId) (p : Post) → Has p (mark_with inc t ids) → p ≡ to_target t (message.Mark inc (map commit_mark ids))
mark-is inc t ids p i = by (is_empty ids) i
  where
    by : (b : Bool) → Has p (if b then [] else to_target t (message.Mark inc (map commit_mark ids)) ∷ []) → p ≡ to_target t (message.Mark inc (map commit_mark ids))
    by true i = absurd i
    by false (inl same) = same
    by false (inr none) = absurd none

batch-marks : (inc down : ℕ) (named : List Naming) (es : List Entry) (ts : List ℕ) (p : Post) → Has p (marks_for inc down named es ts) → IsBatchMark inc down named es ts p
batch-marks inc down named es [] p i = absurd i
batch-marks inc down named es (t ∷ ts) p i = elim (has-cases (mark_with inc t (owed down named es t)) (marks_for inc down named es ts) p i) [
  | inl j ↦ record { to = t; among = inl refl; is = mark-is inc t (owed down named es t) p j }
  | inr j ↦ let z = batch-marks inc down named es ts p j in record { to = z.to; among = inr z.among; is = z.is }
]

-- what is owed is committed, and of another member
pub record IsOwedEntry (es : List Entry) (t : ℕ) (x : AttemptId) : Type 0 where
  pub entry : Entry
  pub among : Has entry es
  pub own : entry.attempt ≡ x
  pub committed : entry.committed ≡ true
  pub other : is_other_member entry t ≡ true

owed-entry : (down : ℕ) (named : List Naming) (es : List Entry) (t : ℕ) (x : AttemptId) → Has x (owed down named es t) → IsOwedEntry es t x
unfolding owed is_owed
owed-entry down named es t x i = by (has_target down t) i
  where
    by : (b : Bool) → Has x (if b then [] else map entry_attempt (filter (is_owed t named) es)) → IsOwedEntry es t x
    by true i = absurd i
    by false i =
        let z = has-from_map entry_attempt (filter (is_owed t named) es) x i in
        let y = has-from_filter (is_owed t named) es z.0 z.1 in
        let one : (z.0.committed && is_other_member z.0 t && not (has_target z.0.confirmed t)) ≡ true = and_left (z.0.committed && is_other_member z.0 t && not (has_target z.0.confirmed t)) _ y.1 in
        let two : (z.0.committed && is_other_member z.0 t) ≡ true = and_left (z.0.committed && is_other_member z.0 t) _ one in
        record { entry = z.0; among = y.0; own = z.2; committed = and_left z.0.committed (is_other_member z.0 t) two; other = and_right z.0.committed (is_other_member z.0 t) two }

marks-of : (x : AttemptId) (c : Bool) (ids : List AttemptId) → Has (x, c) (map commit_mark ids) → Has x ids × (c ≡ true)
marks-of x c ids i = let z = has-from_map commit_mark ids (x, c) i in (subst (λ y. Has y ids) (ap (λ q. q.0) z.2) z.1, sym (ap (λ q. q.1) z.2))

batch-posts : (l : LeaderOf) → (batched l).posts ≡ marks_for l.incarnation l.memory.down l.memory.named l.entries all_targets
unfolding batched
batch-posts l = refl

batch-undecided : (l : LeaderOf) → (batched l).leader.memory.undecided ≡ l.memory.undecided
unfolding batched
batch-undecided l = refl

batch-decided : (l : LeaderOf) → (batched l).leader.memory.decided ≡ l.memory.decided
unfolding batched
batch-decided l = refl

batch-down : (l : LeaderOf) → (batched l).leader.memory.down ≡ l.memory.down
unfolding batched
batch-down l = refl

-- ---- idle work

module _ (r : Rules) (h : History) (w : World) (t : ℕ) (s : TargetState) (here : slice_get w.targets t ≡ Some s) (runs : s.life ≡ Running) (m : TargetMemory) where
  -- in the middle of it: these decided attempts aren't settled
  abbrev pub AtIdle : List AttemptId → Kept → Type 0
  AtIdle rest k = Ongoing r h (at_work w t (target_after s k (with_unsettled rest m)) [])

  pub idle-step : (left : List AttemptId) (k : Kept) (o : Option Change) (next : List AttemptId) (n : Kept) → IdleNext left k o next → Steps o k n → AtIdle left k → AtIdle next n
  idle-step left k o next n (SettlesFirst k2 a rest) steps p =
      work-settles r h w t s here runs a k2 n m (a ∷ rest) rest [] steps.0
      (rest-of a rest (p.ordered t (target_after s k2 (with_unsettled (a ∷ rest) m)) (set-here w.targets t s (target_after s k2 (with_unsettled (a ∷ rest) m)) here)).decided) (inl refl) p

  abbrev Z : Kept → TargetState
  Z k = target_after s k (with_unsettled [] m)

  Z-entry : (k : Kept) (x : AttemptId) → entry_in (slice_get (set w.targets t (Z k)) t) x ≡ entry_of k.durable x
  Z-entry k x = ap (λ i. entry_in i x) (set-here w.targets t s (Z k) here)

  module _ (k : Kept) (p : Ongoing r h (at_work w t (Z k) [])) where
    rising : is_rising entry_key k.durable.entries ≡ true
    rising = (p.ordered t (Z k) (set-here w.targets t s (Z k) here)).entries

    abbrev L : LeaderOf
    L = leader_at (target_plan r t) (with_unsettled [] m) k.durable

    batch-true : PostsSo r h (at_work w t (Z k) []) t (batch_of (target_plan r t) m k.durable).posts
    batch-true q i = subst (λ n. IsSaidSo r h (at_work w t (Z k) []) (target t) n.to n.message) (sym b.is) says
      where
        b : IsBatchMark L.incarnation L.memory.down L.memory.named L.entries all_targets q
        b = batch-marks L.incarnation L.memory.down L.memory.named L.entries all_targets q (subst (Has q) (batch-posts L) i)

        says : (x : AttemptId) (c : Bool) → Has (x, c) (map commit_mark (owed L.memory.down L.memory.named L.entries b.to)) → IsMarkRight r h (at_work w t (Z k) []) (target t) (target b.to) x L.incarnation c
        says x c j = subst (λ f. IsMarkRight r h (at_work w t (Z k) []) (target t) (target b.to) x L.incarnation f) (sym y.1) (record {
          way = record {
            member = b.to;
            other = other-from_test r x o.entry b.to its.leader its.members b.among o.other;
            sender = ap target (sym leads);
            receiver = refl;
          };
          incarnation = let same : inc_in (slice_get (set w.targets t (Z k)) (leader_of r x)) ≡ L.incarnation = ap inc_in (subst (λ u. slice_get (set w.targets t (Z k)) u ≡ Some (Z k)) (sym leads) (set-here w.targets t s (Z k) here)) in omega (arith, same);
          fate = (o.entry.epoch, (p.each x).entries.committed t o.entry at o.committed);
        })
          where
            y : Has x (owed L.memory.down L.memory.named L.entries b.to) × (c ≡ true)
            y = marks-of x c (owed L.memory.down L.memory.named L.entries b.to) j

            o : IsOwedEntry L.entries b.to x
            o = owed-entry L.memory.down L.memory.named L.entries b.to x y.0

            mine : Has o.entry k.durable.entries × (is_led t o.entry ≡ true)
            mine = has-from_filter (is_led t) k.durable.entries o.entry o.among

            at : entry_in (slice_get (set w.targets t (Z k)) t) x ≡ Some o.entry
            at = Z-entry k x ∙ subst (λ y. entry_of k.durable y ≡ Some o.entry) o.own (found-here k.durable o.entry rising mine.0)

            its : IsItsEntry r (at_work w t (Z k) []) x t o.entry
            its = (p.each x).entries.one t o.entry at

            leads : leader_of r x ≡ t
            leads = sym its.leader ∙ number_same o.entry.leader t mine.1

    inquiry-true : (settling : Bool) → PostsSo r h (at_work w t (Z k) []) t (inquiry_of settling (target_plan r t) m k.durable).freed.posts
    unfolding member.inquired member.to_inquire member.is_to_inquire
    inquiry-true false q i = absurd i
    inquiry-true true q i = subst (λ n. IsSaidSo r h (at_work w t (Z k) []) (target t) n.to n.message) z.2 (query-right r h w t s here runs (Z k) [] z.0.attempt None z.0 (found-here k.durable z.0 rising y.0) apart p)
      where
        z : (e : Entry) × Has e (filter (member.is_to_inquire t m.member.inquiries) k.durable.entries) × (member.inquiry_for e ≡ q)
        z = has-from_map member.inquiry_for (filter (member.is_to_inquire t m.member.inquiries) k.durable.entries) q i

        y : Has z.0 k.durable.entries × (member.is_to_inquire t m.member.inquiries z.0 ≡ true)
        y = has-from_filter (member.is_to_inquire t m.member.inquiries) k.durable.entries z.0 z.1

        two : (not z.0.committed && not (z.0.leader == t)) ≡ true
        two = and_left (not z.0.committed && not (z.0.leader == t)) _ y.1

        apart : z.0.leader ≡ t → ⊥
        apart same = number-off z.0.leader t (not_true (z.0.leader == t) (and_right (not z.0.committed) (not (z.0.leader == t)) two)) same

    batch-plain : ArePlain (batch_of (target_plan r t) m k.durable).posts
    batch-plain q i = let b = batch-marks L.incarnation L.memory.down L.memory.named L.entries all_targets q (subst (Has q) (batch-posts L) i) in ap (λ n. is_plain n.message) b.is

    inquiry-plain : (settling : Bool) → ArePlain (inquiry_of settling (target_plan r t) m k.durable).freed.posts
    unfolding member.inquired
    inquiry-plain false q i = absurd i
    inquiry-plain true q i = let z = has-from_map member.inquiry_for (member.to_inquire k.durable.entries (member_at (target_plan r t) m)) q i in sym (ap (λ n. is_plain n.message) z.2)

    idle-true : (settling : Bool) → PostsSo r h (at_work w t (Z k) []) t (idle_told settling (target_plan r t) m k.durable).posts
    idle-true settling q i = elim (has-cases (batch_of (target_plan r t) m k.durable).posts (inquiry_of settling (target_plan r t) m k.durable).freed.posts q i) [ inl j ↦ batch-true q j | inr j ↦ inquiry-true settling q j ]

    idle-plain : (settling : Bool) → ArePlain (idle_told settling (target_plan r t) m k.durable).posts
    idle-plain settling q i = elim (has-cases (batch_of (target_plan r t) m k.durable).posts (inquiry_of settling (target_plan r t) m k.durable).freed.posts q i) [ inl j ↦ batch-plain q j | inr j ↦ inquiry-plain settling q j ]

  pub idle-ends : (settling : Bool) (left : List AttemptId) (k : Kept) (after : TargetMemory × Did) → IdleEnds settling (target_plan r t) m left k after → AtIdle left k → TurnLeft r h w t s here runs [] k after
  idle-ends settling left k after (AllSettled k2 after2 ends) p = record {
    on = subst (λ i. Ongoing r h (at_work w t (target_after s k2 i.0) i.1.posts)) (sym ends)
        (work-keeps r h w t s here runs (Z k2) (target_after s k2 (idle_memory settling (target_plan r t) m k2.durable)) (idle_told settling (target_plan r t) m k2.durable).posts
        (record { incarnation = refl; runs = runs; life = refl; down = batch-down (leader_at (target_plan r t) (with_unsettled [] m) k2.durable) }) refl
        (batch-undecided (leader_at (target_plan r t) (with_unsettled [] m) k2.durable)) (batch-decided (leader_at (target_plan r t) (with_unsettled [] m) k2.durable))
        (work-sends r h w t (Z k2) [] (idle_told settling (target_plan r t) m k2.durable).posts (idle-true k2 p settling) (λ q i. plain-mild q.message (idle-plain k2 p settling q i)) p));
    plain = subst (λ i. ArePlain i.1.posts) (sym ends) (idle-plain k2 p settling);
  }
