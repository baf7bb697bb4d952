-- A Prepare keeps the facts of attempts.
use Rattle.std.specs.Prelude.{ℕ, ◌≡◌, ◌≢◌, ◌⊎◌, ◌+◌, ◌==◌, Bool, true, List, [], ◌∷◌, slice_get, Option, Some, None, refl}
use Rattle.std.proofs.Common.{sym, ◌∙◌, ap, subst, arith, inl, inr}
use Rattle.base_types.specs.declared.entry.Entry.{Entry}
use Rattle.base_types.specs.declared.epoch.Epoch.{Epoch}
use Rattle.base_types.specs.declared.id.AttemptId.{AttemptId}
use Rattle.base_types.specs.declared.operation.MinorWrite.{MinorWrite}
use Rattle.base_types.specs.declared.outcome.FloorWhy.{FloorWhy}
use Rattle.base_types.specs.declared.outcome.Outcome.{Outcome}
use Rattle.base_types.specs.declared.outcome.Outcome.TheVariants.{Committed, Restart, NoSpace}
use Rattle.model_laws.specs.Members.{Has, has-left}
use Rattle.base_messages.specs.declared.message.Message.TheVariants as message
use Rattle.daos_model.specs.BoolLaws.{and_left}
use Rattle.daos_model.specs.Changes.{prepared}
use Rattle.daos_model.specs.Durables.{entry_key, entry_of, same_attempt}
use Rattle.daos_model.specs.EntryLaws.{entry_of-prepared}
use Rattle.daos_model.specs.Ordered.{is_rising}
use Rattle.dtx_base.specs.LeaderLaws.{same-is}
use Rattle.dtx_base.specs.Leading.{undecided_attempt}
use Rattle.dtx_base.specs.Rows.{is_among, itself, row_key, row_of}
use Rattle.world_commit.specs.attempts.Attempts.{IsBorn, IsOkRight, IsOrdered, IsOther, count, entry_at, entry_in, inc_at, is_prepare_to, leader_of, one_if}
use Rattle.world_commit.specs.attempts.Counting.{count-some, has-taken}
use Rattle.world_commit.specs.attempts.Frames.{SameFate, same-untold}
use Rattle.world_commit.specs.attempts.History.{Decided, GrowsBy, History, Tells}
use Rattle.world_commit.specs.attempts.MemberBits.{other-no_leader}
use Rattle.world_commit.specs.attempts.Stored.{rising-prepared, target-is}
use Rattle.world_commit.specs.attempts.Turning.{Stays, entry-elsewhere, entry-now, entry-stays, inc-stays, known-stays, row-stays, at_work, ack-no_prepare, prepare-to}
use Rattle.world_commit.specs.fates.Answering.{IsStored, PrepareTaken, member-stores, stored-held, stored-settled}
use Rattle.world_commit.specs.fates.Facts.{IsAckRight, IsPrepareRight, IsSaidSo, Ongoing, is_talk, is_try, refuses_for}
use Rattle.world_commit.specs.fates.FetchTurns.{work-leases}
use Rattle.world_commit.specs.fates.Frames.{LettersCome, SameMail}
use Rattle.world_commit.specs.fates.Overs.{Over, over-asked, over-counts, over-letters, over-works}
use Rattle.world_commit.specs.fates.Settling.{RowsStay}
use Rattle.world_commit.specs.fates.Stepping.{attempts-quiet, attempts-step}
use Rattle.world_commit.specs.fates.Talks.{ack-no_try, answer-talks, prepare-between}
use Rattle.world_commit.specs.fates.Turning.{Works, lives-stay}
use Rattle.world_commit.specs.fates.Working.{Step}
use Rattle.world_base.specs.declared.did.Did.{Did}
use Rattle.world_base.specs.declared.letter.Letter.{Letter}
use Rattle.world_base.specs.declared.target.Life.TheVariants.{Running}
use Rattle.world_base.specs.declared.target.TargetMemory.{TargetMemory}
use Rattle.world_base.specs.declared.target.TargetState.{TargetState}
use Rattle.world_base.specs.declared.world.World.{World}
use Rattle.world_base.specs.Events.{Rules, target_after, target_plan}
use Rattle.world_base.specs.Letters.{Takes, letters_of, target}
use Rattle.world_base.specs.StepLaws.{set-here}
use Rattle.world_base.specs.ChangeLaws.{incarnation-prepared}
use Rattle.world_base.specs.Changes.{Change, Kept, Steps}
use Rattle.world_base.specs.EntryLaws.{entry-prepared_other}
use Rattle.world_base.specs.Prepares.{Checking, ExtendsLease, HasNoSpace, Heard, IsCovered, IsPrepared, IsRefused, PrepareEnds, PrepareNext, PrepareStage, Stored, Stores, acks}
use Rattle.world_base.specs.Requests.{with_ticks}
use Rattle.world_base.specs.TargetTurns.{prepare_request}

module _ (r : Rules) (h later : History) (w v : World) (t : ℕ) (s : TargetState) (here : slice_get w.targets t ≡ Some s) (runs : s.life ≡ Running) (m : TargetMemory) (l : Letter) (rest : List Letter) (takes : Takes w.messages l rest) (to_it : l.to ≡ target t)
    (e : Entry) (first : Option Epoch) (ws : List MinorWrite) (inc : ℕ) (is : l.message ≡ message.Prepare e first ws inc) where
  abbrev V : Kept → World
  V k = at_work w t (target_after s k m) []

  -- what was kept before the entry was stored, and is now
  pub record IsStoredHere (k : Kept) : Type 0 where
    pub before : Kept
    pub on : Ongoing r h (at_work w t (target_after s before m) [])
    pub now : k.durable ≡ prepared e ws before.durable

  abbrev pub AtPrepare : PrepareStage → Kept → Type 0
  AtPrepare Heard k = Ongoing r h (at_work w t (target_after s k m) [])
  AtPrepare Checking k = Ongoing r h (at_work w t (target_after s k m) [])
  AtPrepare Stored k = IsStoredHere k

  pub prepare-step : (opening : Epoch × FloorWhy) (stage : PrepareStage) (k : Kept) (o : Option Change) (next : PrepareStage) (n : Kept) → PrepareNext (target_plan r t) opening m (prepare_request e first ws inc) stage k o next → Steps o k n
      → AtPrepare stage k → AtPrepare next n
  prepare-step opening stage k o next n (ExtendsLease k2 lease lt covers) steps p = work-leases r h w t s here runs lease k2 n m [] steps.0 p
  prepare-step opening stage k o next n (IsCovered k2 le) steps p = subst (λ i. Ongoing r h (V i)) (sym steps) p
  prepare-step opening stage k o next n (Stores k2 allowed room) steps p = record { before = k2; on = p; now = steps.0 }

  -- ---- the end

  module _ (k : Kept) (p : Ongoing r h (V k)) where
    says : IsPrepareRight r h (V k) l.from l.to e ws inc
    says = subst (λ q. IsSaidSo r h (V k) l.from l.to q) is (p.letters l (has-left w.messages [] l (has-taken w.messages l rest takes)))

    other : IsOther r e.attempt t
    other = subst (λ q. IsOther r e.attempt q) (target-is says.way.member t (sym says.way.receiver ∙ to_it)) says.way.other

    apart : t ≡ leader_of r e.attempt → ⊥
    apart = other-no_leader r e.attempt t other

    module _ (z : TargetState) (refusal : Option Outcome) (over : Over w v t z l rest (letters_of (target t) (acks (prepare_request e first ws inc) refusal).posts)) (g : GrowsBy h (acks (prepare_request e first ws inc) refusal).posts later)
        (step : Step (target_after s k m) z) where
      ack : Letter
      ack = record { from = target t; to = target e.leader; message = message.Ack e.attempt inc refusal }

      leader-is : e.leader ≡ leader_of r e.attempt
      leader-is = ap (λ i. i.leader) says.entry

      works : Works (V k) v t (target_after s k m) z
      works = over-works w v t s (target_after s k m) z l rest (letters_of (target t) (acks (prepare_request e first ws inc) refusal).posts) over here step

      untold : (x : AttemptId) (own : Option Epoch) (how : Outcome) → Tells (acks (prepare_request e first ws inc) refusal).posts x own how → ⊥
      untold x own how told = by told.sent
        where
          by : Has (record { to = told.to; message = message.Ended x own how }) ((acks (prepare_request e first ws inc) refusal).posts) → ⊥
          by (inl same) = let no : ⊥ = cc (ap (λ i. i.message) same) in no
          by (inr none) = none

      fate : (x : AttemptId) → SameFate h later x
      fate x = same-untold h later (acks (prepare_request e first ws inc) refusal).posts x g (untold x)

      counts : (p : Letter → Bool) → count p v.messages + one_if (p l) ≡ count p (V k).messages + one_if (p ack)
      unfolding ack
      counts p = let all = over-counts w v t s (target_after s k m) z l rest (ack ∷ []) over p in omega (arith, all)

      -- the answer is counted in place of the Prepare
      talks : (inc' n : ℕ) (x : AttemptId) → count (is_talk r inc' x n) v.messages ≡ count (is_talk r inc' x n) (V k).messages
      unfolding ack
      talks inc' n x =
          let all = counts (is_talk r inc' x n) in
          let same : one_if (is_talk r inc' x n ack) ≡ one_if (is_talk r inc' x n l) = ap one_if (answer-talks r l ack t e first ws inc refusal is to_it leader-is refl inc' x n) in
          omega (arith, all, same)

      tries : (x : AttemptId) (n : ℕ) → count (is_try r x n) v.messages + one_if (is_try r x n l) ≡ count (is_try r x n) (V k).messages
      unfolding ack
      tries x n =
          let all = counts (is_try r x n) in
          let none : one_if (is_try r x n ack) ≡ 0 = ap one_if (ack-no_try r ack e.attempt inc refusal refl x n) in
          omega (arith, all, none)

      prepares : (x : AttemptId) (n : ℕ) (i : Letter) → Has i v.messages → is_prepare_to x n i ≡ true → Has i (V k).messages
      prepares x n i among asks = elim (over-letters w v t s (target_after s k m) z l rest (letters_of (target t) (acks (prepare_request e first ws inc) refusal).posts) over i among) [
        | inl before ↦ before
        | inr (inl same) ↦ absurd (ack-no_prepare x n (target t) (target e.leader) e.attempt inc refusal (subst (λ q. is_prepare_to x n q ≡ true) same asks))
        | inr (inr none) ↦ absurd none
      ]

      asks : is_prepare_to e.attempt t l ≡ true
      asks = prepare-to l t e first ws inc is to_it

      before : entry_at (V k) t e.attempt ≡ None
      before = (p.each e.attempt).awaited.before t l (has-left w.messages [] l (has-taken w.messages l rest takes)) asks

      -- what the member doesn't hold isn't decided
      undecided : (f : Epoch) → Decided h e.attempt f → ⊥
      undecided f d = let found = ((p.each e.attempt).entries.held_by_others f t d other).found in (let no : ⊥ = cc (found, before) in no)

      refusals : (x : AttemptId) (i : ℕ) (n : Letter) → Has n v.messages → refuses_for i x n.message ≡ true → Has n (V k).messages ⊎ ((f : Epoch) → Decided h x f → ⊥)
      refusals x i n among refuses = elim (over-letters w v t s (target_after s k m) z l rest (letters_of (target t) (acks (prepare_request e first ws inc) refusal).posts) over n among) [
        | inl before ↦ inl before
        | inr (inl same) ↦ inr (subst (λ y. (f : Epoch) → Decided h y f → ⊥) (its refusal (subst (λ q. refuses_for i x q.message ≡ true) same refuses)) undecided)
        | inr (inr none) ↦ absurd none
      ]
        where
          its : (o : Option Outcome) → refuses_for i x (message.Ack e.attempt inc o) ≡ true → e.attempt ≡ x
          its None off = let no : ⊥ = cc in absurd no
          its (Some how) on = same-is e.attempt x (and_left (same_attempt e.attempt x) (inc == i) on)

      mail : (x : AttemptId) → SameMail r h (V k) v x
      mail x = record {
        issued = over.issued x;
        talks = λ inc' n. talks inc' n x;
        tries = λ n. let all = tries x n in omega (arith, all);
        prepares = prepares x;
        refusals = refusals x;
      }

      come : IsBorn r later v e.attempt → IsOkRight later v e.attempt t refusal → LettersCome r later (V k) v
      come born held i among = elim (over-letters w v t s (target_after s k m) z l rest (letters_of (target t) (acks (prepare_request e first ws inc) refusal).posts) over i among) [
        | inl before ↦ inl before
        | inr (inl same) ↦ inr (subst (λ q. IsSaidSo r later v q.from q.to q.message) (sym same) right)
        | inr (inr none) ↦ absurd none
      ]
        where
          right : IsAckRight r later v (target t) (target e.leader) e.attempt inc refusal
          right = record {
            way = record { member = t; other = other; sender = refl; receiver = ap target leader-is };
            incarnation =
                let less = says.incarnation in
                let same : inc_at v (leader_of r e.attempt) ≡ inc_at (V k) (leader_of r e.attempt) = inc-stays (V k) v t (target_after s k m) z works.turn (leader_of r e.attempt) in
                omega (arith, less, same);
            born = born;
            held = held;
          }

      -- it is refused
      pub prepare-refused : (how : Outcome) → how ≢ Committed → refusal ≡ Some how → z.durable ≡ k.durable → z.memory.leader ≡ m.leader → Ongoing r later v
      prepare-refused how uncommitted refuses durable leader =
          attempts-quiet r h later (V k) v t (target_after s k m) z works (λ x. record { stays = stays x; fate = fate x; mail = mail x })
          (come (born-on says.born) (subst (λ q. IsOkRight later v e.attempt t q) (sym refuses) uncommitted)) (over-asked w v t s (target_after s k m) z l rest (letters_of (target t) (acks (prepare_request e first ws inc) refusal).posts) over) ordered p
        where
          stays : (x : AttemptId) → Stays (target_after s k m) z x
          stays x = record { entry = ap (λ d. entry_of d x) durable; row = ap (λ q. row_of undecided_attempt x q.undecided) leader; known = ap (λ q. is_among x q.decided) leader }

          born-on : IsBorn r h (V k) e.attempt → IsBorn r later v e.attempt
          born-on (inl i) = inl (record { entry = i.entry; found = entry-stays (V k) v t (target_after s k m) z works.turn e.attempt (stays e.attempt).entry (leader_of r e.attempt) ∙ i.found })
          born-on (inr i) = inr ((fate e.attempt).aborted i)

          own : IsOrdered (target_after s k m)
          own = p.ordered t (target_after s k m) (set-here w.targets t s (target_after s k m) here)

          ordered : IsOrdered z
          ordered = record { entries = subst (λ d. is_rising entry_key d.entries ≡ true) (sym durable) own.entries; decided = subst (λ q. is_rising (row_key itself) q.decided ≡ true) (sym leader) own.decided }

      -- it is stored
      pub prepare-stored : refusal ≡ None → z.durable ≡ prepared e ws k.durable → z.memory.leader ≡ m.leader → Ongoing r later v
      unfolding ack
      prepare-stored well durable leader =
          attempts-step r h later (V k) v t (target_after s k m) z works e.attempt (λ x off. record { stays = stays x off; fate = fate x; mail = mail x })
          (record {
            decided = (fate e.attempt).decided;
            aborted = (fate e.attempt).aborted;
            held = λ u i. inl (stored-held r h later (V k) v e.attempt t e stored u i);
            settled = λ u i. inl (stored-settled r h later (V k) v e.attempt t e stored u i);
          })
          (member-stores r h later (V k) v e.attempt t e stored apart taken (lives-stay (V k) v t (target_after s k m) z works) (fate e.attempt) rows says.born (p.each e.attempt))
          (come (born-on says.born) (subst (λ q. IsOkRight later v e.attempt t q) (sym well) (inl (record { entry = e; found = stored.now })))) (over-asked w v t s (target_after s k m) z l rest (letters_of (target t) (acks (prepare_request e first ws inc) refusal).posts) over) ordered p
        where
          stays : (x : AttemptId) → (x ≡ e.attempt → ⊥) → Stays (target_after s k m) z x
          stays x off = record {
            entry = ap (λ d. entry_of d x) durable ∙ entry-prepared_other e ws k.durable x off;
            row = ap (λ q. row_of undecided_attempt x q.undecided) leader;
            known = ap (λ q. is_among x q.decided) leader;
          }

          absent : entry_of k.durable e.attempt ≡ None
          absent = sym (ap (λ i. entry_in i e.attempt) (set-here w.targets t s (target_after s k m) here)) ∙ before

          stored : IsStored r v (V k) e.attempt t e
          stored = record {
            before = before;
            now = entry-now (V k) v t (target_after s k m) z works.turn e.attempt ∙ ap (λ d. entry_of d e.attempt) durable ∙ entry_of-prepared e ws k.durable absent;
            elsewhere = entry-elsewhere (V k) v t (target_after s k m) z works.turn e.attempt;
            its = record { attempt = refl; leader = leader-is; members = ap (λ i. i.members) says.entry; issued = over.issued e.attempt e.epoch says.issued; place = inr other };
            prepared = ap (λ i. i.committed) says.entry;
          }

          -- no other Prepare asks this member
          last : (i : Letter) → Has i v.messages → is_prepare_to e.attempt t i ≡ true → ⊥
          last i among is2 =
              let few = (p.each e.attempt).awaited.tries t other in
              let all = tries e.attempt t in
              let own : one_if (is_try r e.attempt t l) ≡ 1 = ap one_if (prepare-between r e.attempt t l asks) in
              let more = count-some (is_try r e.attempt t) v.messages i among (prepare-between r e.attempt t i is2) in
              omega (arith, few, all, own, more)

          taken : PrepareTaken r h (V k) v e.attempt t
          taken = record { mail = mail e.attempt; last = last }

          rows : RowsStay (V k) v e.attempt
          rows = record {
            row = row-stays (V k) v t (target_after s k m) z works.turn e.attempt (ap (λ q. row_of undecided_attempt e.attempt q.undecided) leader);
            known = known-stays (V k) v t (target_after s k m) z works.turn e.attempt (ap (λ q. is_among e.attempt q.decided) leader);
          }

          born-on : IsBorn r h (V k) e.attempt → IsBorn r later v e.attempt
          born-on (inl i) = inl (stored-held r h later (V k) v e.attempt t e stored (leader_of r e.attempt) i)
          born-on (inr i) = inr ((fate e.attempt).aborted i)

          own : IsOrdered (target_after s k m)
          own = p.ordered t (target_after s k m) (set-here w.targets t s (target_after s k m) here)

          ordered : IsOrdered z
          ordered = record {
            entries = subst (λ d. is_rising entry_key d.entries ≡ true) (sym durable) (rising-prepared e ws k.durable absent own.entries);
            decided = subst (λ q. is_rising (row_key itself) q.decided ≡ true) (sym leader) own.decided;
          }

  plainly : (k : Kept) → Step (target_after s k m) (target_after s k (with_ticks e.epoch m))
  plainly k = record { incarnation = refl; runs = runs; life = refl; down = refl }

  -- a Prepare ends
  pub prepare-ends : (opening : Epoch × FloorWhy) (stage : PrepareStage) (k : Kept) (after : TargetMemory × Did) → PrepareEnds (target_plan r t) opening m (prepare_request e first ws inc) stage k after → AtPrepare stage k
      → Over w v t (target_after s k after.0) l rest (letters_of (target t) after.1.posts) → GrowsBy h after.1.posts later → Ongoing r later v
  prepare-ends opening stage k after (IsRefused k2 c after2 why ends) p over g =
      prepare-refused k2 p (target_after s k2 (with_ticks e.epoch m)) (Some (Restart c))
      (subst (λ i. Over w v t (target_after s k2 i.0) l rest (letters_of (target t) i.1.posts)) ends over) (subst (λ i. GrowsBy h i.1.posts later) ends g) (plainly k2) (Restart c) (λ same. let no : ⊥ = cc in no) refl refl refl
  prepare-ends opening stage k after (HasNoSpace k2 after2 allowed full ends) p over g =
      prepare-refused k2 p (target_after s k2 (with_ticks e.epoch m)) (Some (NoSpace t _ k2.free))
      (subst (λ i. Over w v t (target_after s k2 i.0) l rest (letters_of (target t) i.1.posts)) ends over) (subst (λ i. GrowsBy h i.1.posts later) ends g) (plainly k2) _ (λ same. let no : ⊥ = cc in no) refl refl refl
  prepare-ends opening stage k after (IsPrepared k2 after2 ends) p over g =
      prepare-stored p.before p.on (target_after s k2 (with_ticks e.epoch m)) None
      (subst (λ i. Over w v t (target_after s k2 i.0) l rest (letters_of (target t) i.1.posts)) ends over) (subst (λ i. GrowsBy h i.1.posts later) ends g)
      (record { incarnation = ap (λ d. d.incarnation) p.now ∙ incarnation-prepared e ws p.before.durable; runs = runs; life = refl; down = refl }) refl p.now refl
