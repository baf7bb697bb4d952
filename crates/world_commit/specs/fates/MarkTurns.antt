-- A Mark, and its answer, keep the facts of attempts.
use Rattle.std.specs.Prelude.{ℕ, ◌≡◌, ◌⊎◌, Bool, true, false, not, List, [], slice_get, Option, Some, refl}
use Rattle.std.proofs.Common.{sym, ◌∙◌, ap, subst, inl, inr}
use Rattle.base_types.specs.declared.entry.Entry.{Entry}
use Rattle.base_types.specs.declared.id.AttemptId.{AttemptId}
use Rattle.model_laws.specs.Members.{Has, has-from_map, has-left}
use Rattle.base_messages.specs.declared.message.Message.TheVariants as message
use Rattle.daos_model.specs.declared.durable.Durable.{Durable}
use Rattle.daos_model.specs.Changes.{settled}
use Rattle.daos_model.specs.Durables.{entry_of}
use Rattle.dtx_base.specs.Leading.{attempts_of, marked_attempt}
use Rattle.world_commit.specs.attempts.Attempts.{HoldsAt, IsOther, IsSettled, entry_in}
use Rattle.world_commit.specs.attempts.History.{Aborted, History}
use Rattle.world_commit.specs.attempts.MemberBits.{other-no_leader}
use Rattle.world_commit.specs.attempts.Stored.{entry-committed, entry-committed_own, prepared-entry, target-is}
use Rattle.world_commit.specs.attempts.Turning.{one-or_other, at_work}
use Rattle.world_commit.specs.fates.Facts.{IsMarkRight, IsMarkedRight, IsSaidSo, Ongoing}
use Rattle.world_commit.specs.fates.FetchTurns.{TurnAnswers, answered}
use Rattle.world_commit.specs.fates.Small.{Midway, other-aborts, other-commits}
use Rattle.world_commit.specs.fates.Working.{work-mid}
use Rattle.world_base.specs.declared.did.Did.{Did}
use Rattle.world_base.specs.declared.letter.Letter.{Letter}
use Rattle.world_base.specs.declared.target.Life.TheVariants.{Running}
use Rattle.world_base.specs.declared.target.TargetMemory.{TargetMemory}
use Rattle.world_base.specs.declared.target.TargetState.{TargetState}
use Rattle.world_base.specs.declared.world.World.{World}
use Rattle.world_base.specs.Events.{Rules, target_after}
use Rattle.world_base.specs.Letters.{target}
use Rattle.world_base.specs.StepLaws.{set-here}
use Rattle.world_base.specs.Changes.{Change, Kept, Steps}
use Rattle.world_base.specs.Marks.{AllMarked, MarkEnds, MarkNext, PassesBy, SettlesMarked, marked_step}
use Rattle.world_base.specs.DoubtLaws.{IsLedElsewhere, in_doubt-prepared, undoubted-closed}
use Rattle.world_base.specs.Roles.{is_in_doubt, is_open_entry, is_prepared}
use Rattle.world_base.specs.ChangeLaws.{incarnation-settled}
use Rattle.world_base.specs.EntryLaws.{entry-aborted_other}

-- an entry of what another target leads and isn't in doubt is committed
closed-committed : (me : ℕ) (a : AttemptId) (d : Durable) (e : Entry) → entry_of d a ≡ Some e → IsLedElsewhere me a d → is_in_doubt me a d ≡ false → e.committed ≡ true
unfolding is_prepared
closed-committed me a d e found elsewhere sure = by e.committed refl
  where
    by : (b : Bool) → e.committed ≡ b → e.committed ≡ true
    by true is = is
    by false is =
        let opened : is_open_entry (entry_of d a) ≡ true = ap is_open_entry found ∙ ap not is in
        let no : ⊥ = cc (opened, undoubted-closed me a d elsewhere sure) in
        absurd no

-- ---- a Mark

module _ (r : Rules) (h : History) (w : World) (t : ℕ) (s : TargetState) (here : slice_get w.targets t ≡ Some s) (runs : s.life ≡ Running) (m : TargetMemory) (l : Letter) (flies : Has l w.messages) (to_it : l.to ≡ target t) where
  -- the entry of an attempt is committed
  pub record IsDone (d : Durable) (x : AttemptId) : Type 0 where
    pub entry : Entry
    pub found : entry_of d x ≡ Some entry
    pub committed : entry.committed ≡ true

  abbrev pub V : Kept → World
  V k = at_work w t (target_after s k m) []

  flies-on : (k : Kept) → Has l (V k).messages
  flies-on k = has-left w.messages [] l flies

  -- what a Mark says of an attempt
  mark-says : (k : Kept) (inc : ℕ) (marks : List (AttemptId × Bool)) (x : AttemptId) (c : Bool) → l.message ≡ message.Mark inc marks → Has (x, c) marks → Ongoing r h (V k) → IsMarkRight r h (V k) l.from l.to x inc c
  mark-says k inc marks x c is i p = (subst (λ n. IsSaidSo r h (V k) l.from l.to n) is (p.letters l (flies-on k))) x c i

  mark-other : (k : Kept) (inc : ℕ) (x : AttemptId) (c : Bool) → IsMarkRight r h (V k) l.from l.to x inc c → IsOther r x t
  mark-other k inc x c z = subst (λ n. IsOther r x n) (target-is z.way.member t (sym z.way.receiver ∙ to_it)) z.way.other

  -- in the middle of a Mark: what isn't left of it is settled
  pub record AtMark (marks left : List (AttemptId × Bool)) (k : Kept) : Type 0 where
    pub on : Ongoing r h (V k)
    pub left_of : (x : AttemptId) (c : Bool) → Has (x, c) left → Has (x, c) marks
    pub done : (x : AttemptId) → Has (x, true) marks → Has (x, true) left ⊎ IsDone k.durable x

  same-done : (x a : AttemptId) (c : Bool) (d e : Durable) → is_prepared a d ≡ true → e ≡ settled a (marked_step c) d → IsDone d x → IsDone e x
  same-done x a c d e prepared is done = elim (one-or_other x a) [
    | inl same ↦
        let open' = prepared-entry a d prepared in
        let one : Some done.entry ≡ Some open'.0 = sym done.found ∙ ap (entry_of d) same ∙ open'.1 in
        let is-same : done.entry ≡ open'.0 = cc in
        let no : ⊥ = cc (ap (λ i. i.committed) is-same, done.committed, open'.2) in
        absurd no
    | inr apart ↦ record { entry = done.entry; found = ap (λ i. entry_of i x) is ∙ stays c apart ∙ done.found; committed = done.committed }
  ]
    where
      stays : (c : Bool) → (x ≡ a → ⊥) → entry_of (settled a (marked_step c) d) x ≡ entry_of d x
      stays true apart = entry-committed a d x apart
      stays false apart = entry-aborted_other a d x apart

  pub mark-step : (inc : ℕ) (marks : List (AttemptId × Bool)) → l.message ≡ message.Mark inc marks → (left : List (AttemptId × Bool)) (k : Kept) (o : Option Change) (next : List (AttemptId × Bool)) (n : Kept)
      → MarkNext (is_in_doubt t) left k o next → Steps o k n → AtMark marks left k → AtMark marks next n
  mark-step inc marks is left k o next n (SettlesMarked k2 a c rest doubt) steps p = record {
    on = by c (p.left_of a c (inl refl)) steps.0;
    left_of = λ x b i. p.left_of x b (inr i);
    done = λ x i. elim (p.done x i) [
      | inl (inl same) ↦ inr (now c (ap (λ q. q.0) same) (ap (λ q. q.1) same) steps.0)
      | inl (inr j) ↦ inl j
      | inr d ↦ inr (same-done x a c k2.durable n.durable prepared steps.0 d)
    ];
  }
    where
      prepared : is_prepared a k2.durable ≡ true
      prepared = in_doubt-prepared t a k2.durable doubt

      mid : Midway (V k2) (V n) t (target_after s k2 m) (target_after s n m)
      mid = work-mid w t s (target_after s k2 m) (target_after s n m) [] here (record { incarnation = ap (λ d. d.incarnation) steps.0 ∙ incarnation-settled a (marked_step c) k2.durable; runs = runs; life = refl; down = refl })

      by : (c : Bool) → Has (a, c) marks → n.durable ≡ settled a (marked_step c) k2.durable → Ongoing r h (V n)
      by true i same =
          let z = mark-says k2 inc marks a true is i p.on in
          let other = mark-other k2 inc a true z in
          other-commits r h (V k2) (V n) t (target_after s k2 m) (target_after s n m) mid a p.on refl same other (λ same. other-no_leader r a t other (sym same)) z.fate.0 z.fate.1 prepared
      by false i same = other-aborts r h (V k2) (V n) t (target_after s k2 m) (target_after s n m) mid a p.on refl same (mark-says k2 inc marks a false is i p.on).fate

      now : (c : Bool) → {x : AttemptId} → x ≡ a → true ≡ c → n.durable ≡ settled a (marked_step c) k2.durable → IsDone n.durable x
      now false same yes' is = let no : ⊥ = cc in absurd no
      now true {x = x} same yes' is =
          let open' = prepared-entry a k2.durable prepared in
          record { entry = record open'.0 { committed = true }; found = ap (entry_of n.durable) same ∙ ap (λ d. entry_of d a) is ∙ entry-committed_own a k2.durable open'.0 open'.1; committed = refl }
  mark-step inc marks is left k o next n (PassesBy k2 a c rest sure) steps p = record {
    on = subst (λ i. Ongoing r h (V i)) (sym steps) p.on;
    left_of = λ x b i. p.left_of x b (inr i);
    done = λ x i. subst (λ q. Has (x, true) rest ⊎ IsDone q.durable x) (sym steps) (elim (p.done x i) [
      | inl (inl same) ↦ inr (now c (ap (λ q. q.0) same) (ap (λ q. q.1) same) (p.left_of a c (inl refl)))
      | inl (inr j) ↦ inl j
      | inr d ↦ inr d
    ]);
  }
    where
      now : (c : Bool) → {x : AttemptId} → x ≡ a → true ≡ c → Has (a, c) marks → IsDone k2.durable x
      now false same yes' i = let no : ⊥ = cc in absurd no
      now true {x = x} same yes' i = record {
        entry = held.entry;
        found = ap (entry_of k2.durable) same ∙ found;
        committed = closed-committed t a k2.durable held.entry found elsewhere sure;
      }
        where
          z : IsMarkRight r h (V k2) l.from l.to a inc true
          z = mark-says k2 inc marks a true is i p.on

          held : HoldsAt (V k2) t a z.fate.0
          held = (p.on.each a).entries.held_by_others z.fate.0 t z.fate.1 (mark-other k2 inc a true z)

          elsewhere : IsLedElsewhere t a k2.durable
          elsewhere e at mine =
              let its = (p.on.each a).entries.one t e (ap (λ i. entry_in i a) (set-here w.targets t s (target_after s k2 m) here) ∙ at) in
              other-no_leader r a t (mark-other k2 inc a true z) (sym mine ∙ its.leader)

          found : entry_of k2.durable a ≡ Some held.entry
          found = sym (ap (λ i. entry_in i a) (set-here w.targets t s (target_after s k2 m) here)) ∙ held.found

  -- the answer to a Mark names what is settled
  marked-says : (inc : ℕ) (marks : List (AttemptId × Bool)) → l.message ≡ message.Mark inc marks → (k : Kept) → AtMark marks [] k → (x : AttemptId) → Has x (attempts_of marks) → IsMarkedRight r h (V k) (target t) l.from x inc
  marked-says inc marks is k p x i = by y.0.1 (subst (λ q. Has q marks) (ap (λ z. (z, y.0.1)) y.2) y.1)
    where
      y : (q : AttemptId × Bool) × Has q marks × (marked_attempt q ≡ x)
      y = has-from_map marked_attempt marks x i

      right : (c : Bool) → Has (x, c) marks → IsSettled (V k) t x ⊎ Aborted h x → IsMarkedRight r h (V k) (target t) l.from x inc
      right c j settled =
          let z = mark-says k inc marks x c is j p.on in
          record { way = record { member = t; other = mark-other k inc x c z; sender = refl; receiver = z.way.sender }; incarnation = z.incarnation; settled = settled }

      by : (c : Bool) → Has (x, c) marks → IsMarkedRight r h (V k) (target t) l.from x inc
      by true j = right true j (elim (p.done x j) [
        | inl none ↦ absurd none
        | inr d ↦ inl (record { entry = d.entry; found = ap (λ i. entry_in i x) (set-here w.targets t s (target_after s k m) here) ∙ d.found; committed = d.committed })
      ])
      by false j = right false j (inr (mark-says k inc marks x false is j p.on).fate)

  -- a Mark ends
  pub mark-ends : (inc : ℕ) (marks : List (AttemptId × Bool)) → l.message ≡ message.Mark inc marks → (left : List (AttemptId × Bool)) (k : Kept) (after : TargetMemory × Did) → MarkEnds m l.from inc marks left k after → AtMark marks left k
      → TurnAnswers r h w t s here runs l.from (message.Marked inc (attempts_of marks)) k after
  mark-ends inc marks is left k after (AllMarked k2 after2 ends) p = record {
    on = subst (λ i. Ongoing r h (at_work w t (target_after s k2 i.0) i.1.posts)) (sym ends)
        (answered r h w t s here runs (target_after s k2 m) (target_after s k2 m) [] l.from (message.Marked inc (attempts_of marks)) runs refl refl (marked-says inc marks is k2 p) refl refl p.on);
    sent = ap (λ i. i.1.posts) ends;
  }
