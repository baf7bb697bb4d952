-- A Commit keeps the facts of attempts.
use Rattle.std.specs.Prelude.{ℕ, ◌≡◌, ◌≢◌, ◌≤◌, Bool, true, false, ◌&&◌, ◌==◌, List, [], ◌∷◌, ◌++◌, map, slice_get, Option, Some, None, refl, if◌then◌else◌}
use Rattle.std.proofs.Common.{sym, ◌∙◌, ap, subst, arith, inl, inr}
use Rattle.std.proofs.Math.ListN.{set}
use Rattle.std.proofs.lemmas.Bool.Decides.{nat_tests}
use Rattle.base_types.specs.declared.entry.Entry.{Entry}
use Rattle.base_types.specs.declared.epoch.Epoch.{Epoch}
use Rattle.base_types.specs.declared.id.AttemptId.{AttemptId}
use Rattle.base_types.specs.declared.operation.MinorWrite.{MinorWrite}
use Rattle.base_types.specs.declared.outcome.FloorWhy.{FloorWhy}
use Rattle.base_types.specs.declared.outcome.Outcome.{Outcome}
use Rattle.base_types.specs.declared.outcome.Outcome.TheVariants.{Committed, EpochsSpent, Restart}
use Rattle.base_types.specs.Placement.{writes_members}
use Rattle.model_laws.specs.Members.{Has, has-from_map, has-left, has-right}
use Rattle.base_messages.specs.declared.actor.ActorId.{ActorId}
use Rattle.base_messages.specs.declared.message.Message.TheVariants as message
use Rattle.base_messages.specs.declared.message.Post.{Post}
use Rattle.daos_model.specs.BoolLaws.{and_right, both, false_of}
use Rattle.daos_model.specs.Changes.{prepared}
use Rattle.daos_model.specs.Durables.{entry_key, entry_of, same_attempt}
use Rattle.daos_model.specs.EntryLaws.{entry_of-prepared, same_attempt-itself}
use Rattle.daos_model.specs.Ordered.{is_rising}
use Rattle.dtx_base.specs.LeaderLaws.{same-is}
use Rattle.dtx_base.specs.Leading.{LeaderStep, begun, begun_alone, begun_with_others, new_undecided, prepare_to, undecided_attempt}
use Rattle.dtx_base.specs.Members.{other_members, writes_at}
use Rattle.dtx_base.specs.RowLaws.{row-with}
use Rattle.dtx_base.specs.Rows.{is_among, is_empty, itself, row_key, row_of, with_row}
use Rattle.world_commit.specs.attempts.AckViews.{ended_post}
use Rattle.world_commit.specs.attempts.Asked.{IsCommitNew}
use Rattle.world_commit.specs.attempts.Attempts.{IsBorn, IsOrdered, IsOther, count, entry_at, entry_in, first_entry, inc_at, inc_in, is_known_at, is_known_in, is_prepare_to, is_target, leader_of, one_if, row_at, row_in}
use Rattle.world_commit.specs.attempts.Frames.{SameFate, same-untold}
use Rattle.world_commit.specs.attempts.History.{Aborted, Decided, GrowsBy, History, Tells}
use Rattle.world_commit.specs.attempts.MemberBits.{other-no_leader, others-same}
use Rattle.world_commit.specs.attempts.Counting.{is_same, other-once}
use Rattle.world_commit.specs.attempts.Stored.{among-more, among-new, rising-prepared, row-new, rows-rising, target-is, not-among}
use Rattle.world_commit.specs.attempts.Turning.{Stays, entry-elsewhere, entry-now, entry-stays, inc-stays, known-elsewhere, known-now, known-stays, row-elsewhere, row-now, row-stays, at_work}
use Rattle.world_commit.specs.fates.Beginning.{AreAskedFirst, IsFirst, begins-alone, begins-refused, begins-with_others, unborn, unborn-entry, unborn-row, unborn-undecided, unborn-unknown}
use Rattle.world_commit.specs.fates.Concerns.{Spare, concerns, no-prepare, no-refusal, no-talk, no-try}
use Rattle.world_commit.specs.fates.Facts.{IsPrepareRight, IsSaidSo, Ongoing, is_talk, is_try, preparing, talking}
use Rattle.world_commit.specs.fates.FetchTurns.{work-leases}
use Rattle.world_commit.specs.fates.Frames.{AskedComes, LettersCome, SameMail}
use Rattle.world_commit.specs.fates.Overs.{Over, over-asked, over-counts, over-letters, over-mail, over-works}
use Rattle.world_commit.specs.fates.Stepping.{Goes, attempts-step}
use Rattle.world_commit.specs.fates.Talks.{is-target, number-itself, prepare-talks, prepare-tries, spared-talks, spared-tries, unborn-spared}
use Rattle.world_commit.specs.fates.Turning.{Works}
use Rattle.world_commit.specs.fates.Working.{Step}
use Rattle.world_base.specs.declared.did.Did.{Did}
use Rattle.world_base.specs.declared.letter.Letter.{Letter}
use Rattle.world_base.specs.declared.target.Life.TheVariants.{Running}
use Rattle.world_base.specs.declared.target.TargetMemory.{TargetMemory}
use Rattle.world_base.specs.declared.target.TargetState.{TargetState}
use Rattle.world_base.specs.declared.world.World.{World}
use Rattle.world_base.specs.Events.{Rules, listed, target_after, target_plan}
use Rattle.world_base.specs.Letters.{Takes, client, letter_of, letters_of, target}
use Rattle.world_base.specs.StepLaws.{set-here}
use Rattle.world_base.specs.ChangeLaws.{incarnation-prepared}
use Rattle.world_base.specs.Changes.{Change, Kept, Steps}
use Rattle.world_base.specs.Commits.{Asked, Checking, CommitEnds, CommitNext, CommitStage, ExtendsLease, HasBegun, HasEpoch, HasNoSpace, IsCovered, IsRefused, IsSpent, Known, Stored, Stores, begins_at, bits_of, led_entry, own_writes}
use Rattle.world_base.specs.EntryLaws.{entry-leased, entry-prepared_other}
use Rattle.world_base.specs.Requests.{issued_for, request_epoch, with_ticks}
use Rattle.world_base.specs.Roles.{leader_at, leads_on}
use Rattle.world_base.specs.TargetTurns.{commit_request}

abbrev pub issue : AttemptId → Epoch → AttemptId × Epoch
issue x e = (x, e)

-- ---- the Prepares of an attempt

module _ (r : Rules) (ws : List MinorWrite) (first : Option Epoch) (t : ℕ) (e : Entry) (inc : ℕ) where
  abbrev pub asking_letter : ℕ → Letter
  asking_letter u = letter_of (target t) (prepare_to r.script.targets inc e first ws u)

  abbrev asking_letters : List ℕ → List Letter
  asking_letters ns = letters_of (target t) (map (prepare_to r.script.targets inc e first ws) ns)

  letter-talks : (i : ℕ) (x : AttemptId) (n u : ℕ) → is_talk r i x n (asking_letter u) ≡ (is_target n (target u) && (same_attempt e.attempt x && (inc == i)))
  letter-talks i x n u = prepare-talks r (asking_letter u) u e first (writes_at r.script.targets u ws) inc refl refl i x n

  letter-tries : (x : AttemptId) (n u : ℕ) → is_try r x n (asking_letter u) ≡ (is_target n (target u) && same_attempt e.attempt x)
  letter-tries x n u = prepare-tries r (asking_letter u) u e first (writes_at r.script.targets u ws) inc refl refl x n

  -- as many ask a target as it stands among those that are asked
  asked-as : (p : Letter → Bool) (n : ℕ) → ((u : ℕ) → p (asking_letter u) ≡ is_target n (target u)) → (ns : List ℕ) → count p (asking_letters ns) ≡ count (is_same n) ns
  asked-as p n each [] = refl
  asked-as p n each (u ∷ ns) =
      let rest = asked-as p n each ns in
      let one : one_if (p (asking_letter u)) ≡ one_if (is_same n u) = ap one_if (each u) in
      omega (arith, rest, one)

  asked-none : (p : Letter → Bool) → ((u : ℕ) → p (asking_letter u) ≡ false) → (ns : List ℕ) → count p (asking_letters ns) ≡ 0
  asked-none p each [] = refl
  asked-none p each (u ∷ ns) =
      let rest = asked-none p each ns in
      let zero : one_if (p (asking_letter u)) ≡ 0 = ap one_if (each u) in
      omega (arith, rest, zero)

  -- each is asked by this incarnation alone, as often as it stands there
  pub asked-now : (n : ℕ) (ns : List ℕ) → count (is_talk r inc e.attempt n) (asking_letters ns) ≡ count (is_same n) ns
  asked-now n ns = asked-as (is_talk r inc e.attempt n) n (λ u. letter-talks inc e.attempt n u ∙ ap (λ b. is_target n (target u) && b) (both (same_attempt e.attempt e.attempt) (inc == inc) (same_attempt-itself e.attempt) (number-itself inc)) ∙ and-true (is_target n (target u))) ns
    where
      and-true : (b : Bool) → (b && true) ≡ b
      and-true true = refl
      and-true false = refl

  pub asked-then : (i n : ℕ) (ns : List ℕ) → count (is_talk r i e.attempt n) (asking_letters ns) ≤ count (is_same n) ns
  asked-then i n ns = by (inc == i) refl
    where
      by : (b : Bool) → (inc == i) ≡ b → count (is_talk r i e.attempt n) (asking_letters ns) ≤ count (is_same n) ns
      by true is = let same : inc ≡ i = grind (arith, nat_tests) in let all = subst (λ j. count (is_talk r j e.attempt n) (asking_letters ns) ≡ count (is_same n) ns) same (asked-now n ns) in omega (arith, all)
      by false off =
          let none = asked-none (is_talk r i e.attempt n) (λ u. letter-talks i e.attempt n u ∙ ap (λ b. is_target n (target u) && (same_attempt e.attempt e.attempt && b)) off ∙ three (is_target n (target u)) (same_attempt e.attempt e.attempt)) ns in
          omega (arith, none)
        where
          three : (a b : Bool) → (a && (b && false)) ≡ false
          three true true = refl
          three true false = refl
          three false b = refl

  pub asked-tries : (n : ℕ) (ns : List ℕ) → count (is_try r e.attempt n) (asking_letters ns) ≡ count (is_same n) ns
  asked-tries n ns = asked-as (is_try r e.attempt n) n (λ u. letter-tries e.attempt n u ∙ ap (λ b. is_target n (target u) && b) (same_attempt-itself e.attempt) ∙ and-true (is_target n (target u))) ns
    where
      and-true : (b : Bool) → (b && true) ≡ b
      and-true true = refl
      and-true false = refl

  -- a Prepare of it to a member goes to that
  pub asked-of : (n u : ℕ) → is_prepare_to e.attempt n (asking_letter u) ≡ true → n ≡ u
  unfolding is_prepare_to
  asked-of n u it = is-target n u (and_right (same_attempt e.attempt e.attempt) (is_target n (target u)) it)

module _ (r : Rules) (h later : History) (w v : World) (t : ℕ) (s : TargetState) (here : slice_get w.targets t ≡ Some s) (runs : s.life ≡ Running) (m : TargetMemory) (l : Letter) (rest : List Letter) (takes : Takes w.messages l rest) (to_it : l.to ≡ target t)
    (x : AttemptId) (ep first : Option Epoch) (tracker : Epoch) (ws : List MinorWrite) (is : l.message ≡ message.Commit x ep first tracker ws) (new : IsCommitNew r h w l.to x ep ws) (sender : l.from ≡ client x.client) where
  abbrev V : Kept → World
  V k = at_work w t (target_after s k m) []

  leads : t ≡ leader_of r x
  leads = target-is t (leader_of r x) (sym to_it ∙ new.receiver)

  -- the entry as it is stored first
  abbrev entry : Epoch → Entry
  entry e = led_entry (target_plan r t) (commit_request x ep first tracker ws) e

  pub entry-is : (e : Epoch) → led_entry (target_plan r t) (commit_request x ep first tracker ws) e ≡ first_entry r x e
  entry-is e = ap (λ n. with_leader n (bits_of (writes_members ws r.script.targets))) leads ∙ ap (λ n. with_leader (leader_of r x) (bits_of (writes_members n r.script.targets))) new.writes
    where
      with_leader : ℕ → ℕ → Entry
      with_leader n bits = record { attempt = x; epoch = e; leader = n; members = bits; confirmed = 0; committed = false }

  -- before the attempt is stored
  pub record IsNew (k : Kept) : Type 0 where
    pub on : Ongoing r h (at_work w t (target_after s k m) [])
    pub absent : entry_of k.durable x ≡ None

  -- and once its epoch is known
  pub record IsKnown (reading : ℕ) (e : Epoch) (k : Kept) : Type 0 where
    pub on : IsNew k
    pub epoch : request_epoch (target_plan r t) m reading tracker ep ≡ Some e

  pub record IsStoredNow (reading : ℕ) (e : Epoch) (k : Kept) : Type 0 where
    pub before : Kept
    pub on : IsKnown reading e before
    pub now : k.durable ≡ prepared (led_entry (target_plan r t) (commit_request x ep first tracker ws) e) (own_writes (target_plan r t) ws) before.durable

  abbrev pub AtCommit : ℕ → CommitStage → Kept → Type 0
  AtCommit reading Asked k = IsNew k
  AtCommit reading (Known e) k = IsKnown reading e k
  AtCommit reading (Checking e) k = IsKnown reading e k
  AtCommit reading (Stored e) k = IsStoredNow reading e k

  pub commit-begins : (k : Kept) → k.durable ≡ s.durable → Ongoing r h (V k) → IsNew k
  commit-begins k same p = record { on = p; absent = ap (λ d. entry_of d x) same ∙ sym (ap (λ i. entry_in i x) here) ∙ subst (λ n. entry_at w n x ≡ None) (sym leads) new.unstored }

  pub commit-step : (opening : Epoch × FloorWhy) (reading : ℕ) (stage : CommitStage) (k : Kept) (o : Option Change) (next : CommitStage) (n : Kept) → CommitNext (target_plan r t) opening m reading (commit_request x ep first tracker ws) stage k o next → Steps o k n
      → AtCommit reading stage k → AtCommit reading next n
  commit-step opening reading stage k o next n (HasEpoch k2 e epoch) steps p = record { on = subst IsNew (sym steps) p; epoch = epoch }
  commit-step opening reading stage k o next n (ExtendsLease k2 e lease lt covers) steps p = record {
    on = record { on = work-leases r h w t s here runs lease k2 n m [] steps.0 p.on.on; absent = ap (λ d. entry_of d x) steps.0 ∙ entry-leased lease k2.durable x ∙ p.on.absent };
    epoch = p.epoch;
  }
  commit-step opening reading stage k o next n (IsCovered k2 e le) steps p = subst (λ i. IsKnown reading e i) (sym steps) p
  commit-step opening reading stage k o next n (Stores k2 e allowed room) steps p = record { before = k2; on = p; now = steps.0 }

  -- ---- the end

  module _ (k : Kept) (p : IsNew k) where
    entry-here : (y : AttemptId) → entry_at (V k) t y ≡ entry_of k.durable y
    entry-here y = ap (λ i. entry_in i y) (set-here w.targets t s (target_after s k m) here)

    unstored : entry_at (V k) (leader_of r x) x ≡ None
    unstored = subst (λ n. entry_at (V k) n x ≡ None) leads (entry-here x ∙ p.absent)

    not-born : IsBorn r h (V k) x → ⊥
    not-born = unborn r h (V k) x (p.on.each x) unstored new.unended

    -- no letter concerns it
    unsaid : Spare x (V k).messages
    unsaid = unborn-spared r h (V k) x p.on not-born

    own-ordered : IsOrdered (target_after s k m)
    own-ordered = p.on.ordered t (target_after s k m) (set-here w.targets t s (target_after s k m) here)

    module _ (z : TargetState) (posts : List Post) (over : Over w v t z l rest (letters_of (target t) posts)) (step : Step (target_after s k m) z) (g : GrowsBy h posts later) where
      works : Works (V k) v t (target_after s k m) z
      works = over-works w v t s (target_after s k m) z l rest (letters_of (target t) posts) over here step

      -- letters that don't concern an attempt leave it as it was
      quiet-mail : (y : AttemptId) → Spare y (letters_of (target t) posts) → SameMail r h (V k) v y
      quiet-mail y quiet = over-mail w v t s (target_after s k m) z l rest (letters_of (target t) posts) over r h y (ap (concerns y) is) quiet

      asked : AskedComes (V k) v
      asked = over-asked w v t s (target_after s k m) z l rest (letters_of (target t) posts) over

      -- where no letter that comes concerns it, none does
      still-unsaid : Spare x (letters_of (target t) posts) → Spare x v.messages
      still-unsaid quiet q i = elim (over-letters w v t s (target_after s k m) z l rest (letters_of (target t) posts) over q i) [ inl before ↦ unsaid q before | inr now ↦ quiet q now ]

      come : ((q : Letter) → Has q (letters_of (target t) posts) → IsSaidSo r later v q.from q.to q.message) → LettersCome r later (V k) v
      come right i among = elim (over-letters w v t s (target_after s k m) z l rest (letters_of (target t) posts) over i among) [ inl before ↦ inl before | inr now ↦ inr (right i now) ]

      -- one who waits is told
      module _ (from : ActorId) (own : Option Epoch) (how : Outcome) (sent : posts ≡ ended_post from x own how ∷ []) where
        told-is : (y : AttemptId) (own2 : Option Epoch) (how2 : Outcome) → Tells posts y own2 how2 → (y ≡ x) × (own2 ≡ own) × (how2 ≡ how)
        told-is y own2 how2 k2 = by (subst (Has (ended_post k2.to y own2 how2)) sent k2.sent)
          where
            by : Has (ended_post k2.to y own2 how2) (ended_post from x own how ∷ []) → (y ≡ x) × (own2 ≡ own) × (how2 ≡ how)
            by (inl same) = let i : message.Ended y own2 how2 ≡ message.Ended x own how = ap (λ i. i.message) same in (cc, cc, cc)
            by (inr none) = absurd none

        told-fate : (y : AttemptId) → (y ≡ x → ⊥) → SameFate h later y
        told-fate y off = same-untold h later posts y g (λ own2 how2 k2. off (told-is y own2 how2 k2).0)

        it-is-told : Tells posts x own how
        it-is-told = record { to = from; sent = subst (Has (ended_post from x own how)) (sym sent) (inl refl) }

        only-letter : (P : Letter → Type 0) → P (letter_of (target t) (ended_post from x own how)) → (q : Letter) → Has q (letters_of (target t) posts) → P q
        only-letter P it q i = by (subst (λ ps. Has q (letters_of (target t) ps)) sent i)
          where
            by : Has q (letters_of (target t) (ended_post from x own how ∷ [])) → P q
            by (inl same) = subst P (sym same) it
            by (inr none) = absurd none

        told-quiet : (y : AttemptId) → Spare y (letters_of (target t) posts)
        told-quiet y = only-letter (λ q. concerns y q.message ≡ false) refl

        told-true : (q : Letter) → Has q (letters_of (target t) posts) → IsSaidSo r later v q.from q.to q.message
        told-true = only-letter (λ q. IsSaidSo r later v q.from q.to q.message) tt

        -- it is refused
        pub commit-refused : how ≢ Committed → z.durable ≡ k.durable → z.memory.leader ≡ m.leader → Ongoing r later v
        commit-refused uncommitted durable leader =
            attempts-step r h later (V k) v t (target_after s k m) z works x (λ y off. record { stays = stays y; fate = told-fate y off; mail = quiet-mail y (told-quiet y) })
            (record {
              decided = g.decided x;
              aborted = g.aborted x;
              held = λ u i. inl (record { entry = i.entry; found = entries u ∙ i.found });
              settled = λ u i. inl (record { entry = i.entry; found = entries u ∙ i.found; committed = i.committed });
            })
            (begins-refused r h later (V k) v x (p.on.each x) unstored new.unended gone is-decided entries (row-stays (V k) v t (target_after s k m) z works.turn x (stays x).row) (known-stays (V k) v t (target_after s k m) z works.turn x (stays x).known)
            (spared-talks r v x silent) (spared-tries r v x silent) (λ n q i it. no-prepare r x q (silent q i) n it))
            (come told-true) asked ordered p.on
          where
            stays : (y : AttemptId) → Stays (target_after s k m) z y
            stays y = record { entry = ap (λ d. entry_of d y) durable; row = ap (λ q. row_of undecided_attempt y q.undecided) leader; known = ap (λ q. is_among y q.decided) leader }

            entries : (u : ℕ) → entry_at v u x ≡ entry_at (V k) u x
            entries = entry-stays (V k) v t (target_after s k m) z works.turn x (stays x).entry

            gone : Aborted later x
            gone = g.refused x (record { own = own; how = how; told = it-is-told; refused = uncommitted })

            is-decided : (e : Epoch) → Decided later x e → Decided h x e
            is-decided e d = elim (g.only_decided x e d) [ inl before ↦ before | inr k2 ↦ absurd (uncommitted (sym (told-is x (Some e) Committed k2).2)) ]

            silent : Spare x v.messages
            silent = still-unsaid (told-quiet x)

            ordered : IsOrdered z
            ordered = record { entries = subst (λ d. is_rising entry_key d.entries ≡ true) (sym durable) own-ordered.entries; decided = subst (λ q. is_rising (row_key itself) q.decided ≡ true) (sym leader) own-ordered.decided }

      -- ---- it is stored

      module _ (e : Epoch) (from : ActorId) (own : from ≡ client x.client) (issued : Has (x, e) v.issued) (durable : z.durable ≡ prepared (entry e) (own_writes (target_plan r t) ws) k.durable) where
        others-stay : (y : AttemptId) → (y ≡ x → ⊥) → entry_of z.durable y ≡ entry_of k.durable y
        others-stay y off = ap (λ d. entry_of d y) durable ∙ entry-prepared_other (entry e) (own_writes (target_plan r t) ws) k.durable y off

        now-leader : entry_at v (leader_of r x) x ≡ Some (first_entry r x e)
        now-leader =
            subst (λ n. entry_at v n x ≡ Some (first_entry r x e)) leads
            (entry-now (V k) v t (target_after s k m) z works.turn x ∙ ap (λ d. entry_of d x) durable ∙ entry_of-prepared (entry e) (own_writes (target_plan r t) ws) k.durable p.absent ∙ ap (λ i. Some i) (entry-is e))

        none-elsewhere : (n : ℕ) → (n ≡ leader_of r x → ⊥) → entry_at v n x ≡ None
        none-elsewhere n off = by (entry_at (V k) n x) refl
          where
            by : (o : Option Entry) → entry_at (V k) n x ≡ o → entry_at v n x ≡ None
            by None at = entry-elsewhere (V k) v t (target_after s k m) z works.turn x n (λ same. off (same ∙ leads)) ∙ at
            by (Some i) at = absurd (unborn-entry r h (V k) x (p.on.each x) unstored new.unended n i at)

        is-first : (Aborted later x → ⊥) → IsFirst r later v x e
        is-first unended = record { now = now-leader; elsewhere = none-elsewhere; issued = issued; unended = unended }

        stored-goes : Goes r h later (V k) v x
        stored-goes = record {
          decided = g.decided x;
          aborted = g.aborted x;
          held = λ u i. absurd (unborn-entry r h (V k) x (p.on.each x) unstored new.unended u i.entry i.found);
          settled = λ u i. absurd (unborn-entry r h (V k) x (p.on.each x) unstored new.unended u i.entry i.found);
        }

        rising : is_rising entry_key z.durable.entries ≡ true
        rising = subst (λ d. is_rising entry_key d.entries ≡ true) (sym durable) (rising-prepared (entry e) (own_writes (target_plan r t) ws) k.durable p.absent own-ordered.entries)

        unknown-before : is_among x m.leader.decided ≡ false
        unknown-before = false_of (is_among x m.leader.decided) (λ known.
            unborn-unknown r h (V k) x (p.on.each x) unstored new.unended t (ap (λ i. is_known_in i x) (set-here w.targets t s (target_after s k m) here) ∙ known))

        row-before : row_of undecided_attempt x m.leader.undecided ≡ None
        row-before = by (row_of undecided_attempt x m.leader.undecided) refl
          where
            by : (o : Option _) → row_of undecided_attempt x m.leader.undecided ≡ o → row_of undecided_attempt x m.leader.undecided ≡ None
            by None at = at
            by (Some q) at = absurd (unborn-row r h (V k) x (p.on.each x) unstored new.unended t q (ap (λ i. row_in i x) (set-here w.targets t s (target_after s k m) here) ∙ at))

        -- without others it is decided at once
        pub commit-alone : is_empty (other_members (entry e)) ≡ true → posts ≡ ended_post from x (Some e) Committed ∷ [] → z.memory.leader.undecided ≡ m.leader.undecided → z.memory.leader.decided ≡ with_row itself x m.leader.decided
            → Ongoing r later v
        commit-alone empty sent undecided decided =
            attempts-step r h later (V k) v t (target_after s k m) z works x
            (λ y off. record {
              stays = record { entry = others-stay y off; row = ap (row_of undecided_attempt y) undecided; known = ap (is_among y) decided ∙ among-more y x m.leader.decided off };
              fate = told-fate from (Some e) Committed sent y off;
              mail = quiet-mail y (told-quiet from (Some e) Committed sent y);
            })
            stored-goes
            (begins-alone r later v x e (is-first unended) alone is-decided only no_row known-there unknown
            (λ q i. (λ n it. no-prepare r x q (silent q i) n it, λ inc it. no-refusal r x q (silent q i) inc it)))
            (come (told-true from (Some e) Committed sent)) asked ordered p.on
          where
            silent : Spare x v.messages
            silent = still-unsaid (told-quiet from (Some e) Committed sent x)

            alone : (n : ℕ) → IsOther r x n → ⊥
            alone n o = by (other_members (entry e)) empty (subst (Has n) (sym (others-same r x (entry e) (ap (λ i. i.leader) (entry-is e)) (ap (λ i. i.members) (entry-is e)))) o)
              where
                by : (ns : List ℕ) → is_empty ns ≡ true → Has n ns → ⊥
                by [] none i = i
                by (y ∷ ns) none i = let no : ⊥ = grind (arith, nat_tests) in no

            is-decided : Decided later x e
            is-decided = g.committed x e (it-is-told from (Some e) Committed sent)

            only : (f : Epoch) → Decided later x f → f ≡ e
            only f d = elim (g.only_decided x f d) [
              | inl before ↦ absurd (unborn-undecided r h (V k) x (p.on.each x) unstored new.unended f before)
              | inr k2 ↦ let same = (told-is from (Some e) Committed sent x (Some f) Committed k2).1 in cc
            ]

            unended : Aborted later x → ⊥
            unended gone = elim (g.only_aborted x gone) [ inl before ↦ new.unended before | inr k2 ↦ k2.refused (told-is from (Some e) Committed sent x k2.own k2.how k2.told).2 ]

            no_row : (n : ℕ) (q : _) → row_at v n x ≡ Some q → ⊥
            no_row n q at = unborn-row r h (V k) x (p.on.each x) unstored new.unended n q (sym (row-stays (V k) v t (target_after s k m) z works.turn x (ap (row_of undecided_attempt x) undecided) n) ∙ at)

            known-there : is_known_at v (leader_of r x) x ≡ true
            known-there = subst (λ n. is_known_at v n x ≡ true) leads (known-now (V k) v t (target_after s k m) z works.turn x ∙ ap (is_among x) decided ∙ among-new x m.leader.decided)

            unknown : (n : ℕ) → (n ≡ leader_of r x → ⊥) → is_known_at v n x ≡ true → ⊥
            unknown n off known =
                unborn-unknown r h (V k) x (p.on.each x) unstored new.unended n (sym (known-elsewhere (V k) v t (target_after s k m) z works.turn x n (λ same. off (same ∙ leads))) ∙ known)

            ordered : IsOrdered z
            ordered = record { entries = rising; decided = subst (λ q. is_rising (row_key itself) q ≡ true) (sym decided) (rows-rising itself x m.leader.decided (not-among x m.leader.decided unknown-before) own-ordered.decided) }

        -- the others are asked to prepare it
        pub commit-asks : posts ≡ map (prepare_to r.script.targets k.durable.incarnation (entry e) first ws) (other_members (entry e)) → z.memory.leader.undecided ≡ with_row undecided_attempt (new_undecided x (Some from)) m.leader.undecided
            → z.memory.leader.decided ≡ m.leader.decided → Ongoing r later v
        commit-asks sent undecided decided =
            attempts-step r h later (V k) v t (target_after s k m) z works x
            (λ y off. record {
              stays = record { entry = others-stay y off; row = ap (row_of undecided_attempt y) undecided ∙ row-with undecided_attempt y (new_undecided x (Some from)) m.leader.undecided off; known = ap (is_among y) decided };
              fate = fate y;
              mail = quiet-mail y (quiet y off);
            })
            stored-goes
            (begins-with_others r later v x e (is-first (λ gone. new.unended ((fate x).only_aborted gone))) (λ f d. unborn-undecided r h (V k) x (p.on.each x) unstored new.unended f ((fate x).only_decided f d)) from row-there row-none unknown own first-asked member)
            (come right) asked (record { entries = rising; decided = subst (λ q. is_rising (row_key itself) q ≡ true) (sym decided) own-ordered.decided }) p.on
          where
            letter : ℕ → Letter
            letter n = letter_of (target t) (prepare_to r.script.targets k.durable.incarnation (entry e) first ws n)

            -- each letter that comes is a Prepare to another member
            each : (q : Letter) → Has q (letters_of (target t) posts) → (n : ℕ) × IsOther r x n × (letter_of (target t) (prepare_to r.script.targets k.durable.incarnation (entry e) first ws n) ≡ q)
            each q i =
                let y = has-from_map (letter_of (target t)) posts q i in
                let a = has-from_map (prepare_to r.script.targets k.durable.incarnation (entry e) first ws) (other_members (entry e)) y.0 (subst (Has y.0) sent y.1) in
                (a.0, subst (Has a.0) (others-same r x (entry e) (ap (λ i. i.leader) (entry-is e)) (ap (λ i. i.members) (entry-is e))) a.1, ap (letter_of (target t)) a.2 ∙ y.2)

            fate : (y : AttemptId) → SameFate h later y
            fate y = same-untold h later posts y g (λ own how k2. by own how k2.to (subst (Has (ended_post k2.to y own how)) sent k2.sent))
              where
                by : (own : Option Epoch) (how : Outcome) (to : ActorId) → Has (ended_post to y own how) (map (prepare_to r.script.targets k.durable.incarnation (entry e) first ws) (other_members (entry e))) → ⊥
                by own how to i =
                    let a = has-from_map (prepare_to r.script.targets k.durable.incarnation (entry e) first ws) (other_members (entry e)) (ended_post to y own how) i in
                    (let no : ⊥ = cc (ap (λ i. i.message) a.2) in no)

            quiet : (y : AttemptId) → (y ≡ x → ⊥) → Spare y (letters_of (target t) posts)
            quiet y off q i = let a = each q i in subst (λ i. concerns y i.message ≡ false) a.2 (false_of (same_attempt x y) (λ same. off (sym (same-is x y same))))

            row-there : row_at v (leader_of r x) x ≡ Some (new_undecided x (Some from))
            row-there =
                subst (λ n. row_at v n x ≡ Some (new_undecided x (Some from))) leads
                (row-now (V k) v t (target_after s k m) z works.turn x ∙ ap (row_of undecided_attempt x) undecided ∙ row-new undecided_attempt (new_undecided x (Some from)) m.leader.undecided row-before)

            row-none : (n : ℕ) → (n ≡ leader_of r x → ⊥) → row_at v n x ≡ None
            row-none n off = by (row_at (V k) n x) refl
              where
                by : (o : Option _) → row_at (V k) n x ≡ o → row_at v n x ≡ None
                by None at = row-elsewhere (V k) v t (target_after s k m) z works.turn x n (λ same. off (same ∙ leads)) ∙ at
                by (Some q) at = absurd (unborn-row r h (V k) x (p.on.each x) unstored new.unended n q at)

            unknown : (n : ℕ) → is_known_at v n x ≡ true → ⊥
            unknown n known = unborn-unknown r h (V k) x (p.on.each x) unstored new.unended n (sym (known-stays (V k) v t (target_after s k m) z works.turn x (ap (is_among x) decided) n) ∙ known)

            now-inc : inc_at v (leader_of r x) ≡ k.durable.incarnation
            now-inc = inc-stays (V k) v t (target_after s k m) z works.turn (leader_of r x) ∙ ap inc_in (subst (λ n. slice_get (set w.targets t (target_after s k m)) n ≡ Some (target_after s k m)) leads (set-here w.targets t s (target_after s k m) here))

            -- what comes is all that passes a test of it
            counts : (q : Letter → Bool) → q l ≡ false → count q (V k).messages ≡ 0 → count q v.messages ≡ count q (letters_of (target t) posts)
            counts q off none =
                let all = over-counts w v t s (target_after s k m) z l rest (letters_of (target t) posts) over q in
                let zero : one_if (q l) ≡ 0 = ap one_if off in
                omega (arith, all, zero, none)

            talks-are : (i n : ℕ) → talking r i v x n ≡ count (is_talk r i x n) (letters_of (target t) posts)
            talks-are i n = counts (is_talk r i x n) (no-talk r x l (ap (concerns x) is) i n) (spared-talks r (V k) x unsaid i n)

            among : (n : ℕ) → IsOther r x n → count (is_same n) (other_members (entry e)) ≡ 1
            among n o = ap (count (is_same n)) (others-same r x (entry e) (ap (λ i. i.leader) (entry-is e)) (ap (λ i. i.members) (entry-is e))) ∙ other-once r x n o

            first-asked : AreAskedFirst r later v x e (is-first (λ gone. new.unended ((fate x).only_aborted gone)))
            first-asked = record {
              talks = λ n o.
                  ap (λ i. talking r i v x n) now-inc ∙ talks-are k.durable.incarnation n
                  ∙ ap (λ ps. count (is_talk r k.durable.incarnation x n) (letters_of (target t) ps)) sent
                  ∙ asked-now r ws first t (entry e) k.durable.incarnation n (other_members (entry e)) ∙ among n o;
              few = λ i n o.
                  let all : talking r i v x n ≡ count (is_talk r i x n) (letters_of (target t) (map (prepare_to r.script.targets k.durable.incarnation (entry e) first ws) (other_members (entry e)))) =
                  talks-are i n ∙ ap (λ ps. count (is_talk r i x n) (letters_of (target t) ps)) sent in
                  let less = asked-then r ws first t (entry e) k.durable.incarnation i n (other_members (entry e)) in
                  let one = among n o in
                  omega (arith, all, less, one);
              tries = λ n o.
                  let all : preparing r v x n ≡ count (is_try r x n) (letters_of (target t) (map (prepare_to r.script.targets k.durable.incarnation (entry e) first ws) (other_members (entry e)))) =
                  counts (is_try r x n) (no-try r x l (ap (concerns x) is) n) (spared-tries r (V k) x unsaid n) ∙ ap (λ ps. count (is_try r x n) (letters_of (target t) ps)) sent in
                  let same = asked-tries r ws first t (entry e) k.durable.incarnation n (other_members (entry e)) in
                  let one = among n o in
                  omega (arith, all, same, one);
            }

            member : (n : ℕ) (q : Letter) → Has q v.messages → is_prepare_to x n q ≡ true → n ≡ leader_of r x → ⊥
            member n q i it = elim (over-letters w v t s (target_after s k m) z l rest (letters_of (target t) posts) over q i) [
              | inl before ↦ absurd (no-prepare r x q (unsaid q before) n it)
              | inr now ↦
                  let a = each q now in
                  let same = asked-of r ws first t (entry e) k.durable.incarnation n a.0 (subst (λ i. is_prepare_to x n i ≡ true) (sym a.2) it) in
                  other-no_leader r x n (subst (IsOther r x) (sym same) a.1)
            ]

            right : (q : Letter) → Has q (letters_of (target t) posts) → IsSaidSo r later v q.from q.to q.message
            right q i = let a = each q i in subst (λ i. IsSaidSo r later v i.from i.to i.message) a.2 (says a.0 a.1)
              where
                says : (n : ℕ) → IsOther r x n → IsPrepareRight r later v (target t) (target n) (entry e) (writes_at r.script.targets n ws) k.durable.incarnation
                says n o = record {
                  way = record { member = n; other = o; sender = ap target leads; receiver = refl };
                  entry = entry-is e;
                  issued = issued;
                  writes = ap (writes_at r.script.targets n) new.writes;
                  incarnation = let same = now-inc in omega (arith, same);
                  born = inl (record { entry = first_entry r x e; found = now-leader });
                }

  -- ---- a Commit ends

  begun-done : (from : ActorId) → from ≡ client x.client → (e : Epoch) (b k : Kept) (p : IsNew b) (now : k.durable ≡ prepared (entry e) (own_writes (target_plan r t) ws) b.durable) (issued : Has (x, e) v.issued) (st : LeaderStep) (c : Bool) → is_empty (other_members (entry e)) ≡ c
      → st ≡ (if c then begun_alone (entry e) from (leader_at (target_plan r t) m k.durable) else begun_with_others (entry e) first from ws (leader_at (target_plan r t) m k.durable))
      → Over w v t (target_after s k (leads_on st (with_ticks e m))) l rest (letters_of (target t) st.posts) → GrowsBy h st.posts later → Ongoing r later v
  begun-done from own e b k p now issued st true empty same over g =
      commit-alone b p (target_after s k (leads_on st (with_ticks e m))) st.posts over (record { incarnation = ap (λ d. d.incarnation) now ∙ incarnation-prepared (entry e) (own_writes (target_plan r t) ws) b.durable; runs = runs; life = refl; down = ap (λ i. i.leader.memory.down) same }) g e from own issued now empty (ap (λ i. i.posts) same)
      (ap (λ i. i.leader.memory.undecided) same) (ap (λ i. i.leader.memory.decided) same)
  begun-done from own e b k p now issued st false some same over g =
      commit-asks b p (target_after s k (leads_on st (with_ticks e m))) st.posts over (record { incarnation = ap (λ d. d.incarnation) now ∙ incarnation-prepared (entry e) (own_writes (target_plan r t) ws) b.durable; runs = runs; life = refl; down = ap (λ i. i.leader.memory.down) same }) g e from own issued now
      (ap (λ i. i.posts) same ∙ ap (λ n. map (prepare_to r.script.targets n (entry e) first ws) (other_members (entry e))) (ap (λ d. d.incarnation) now ∙ incarnation-prepared (entry e) (own_writes (target_plan r t) ws) b.durable))
      (ap (λ i. i.leader.memory.undecided) same) (ap (λ i. i.leader.memory.decided) same)

  begun-is : (from : ActorId) (e : Epoch) (k : Kept) → begins_at (target_plan r t) m (commit_request x ep first tracker ws) from e k.durable
      ≡ (if is_empty (other_members (entry e)) then begun_alone (entry e) from (leader_at (target_plan r t) m k.durable) else begun_with_others (entry e) first from ws (leader_at (target_plan r t) m k.durable))
  unfolding begun
  begun-is from e k = refl

  -- its epoch was issued
  is-issued : (reading : ℕ) (e : Epoch) → request_epoch (target_plan r t) m reading tracker ep ≡ Some e → v.issued ≡ w.issued ++ listed (issued_for x ep e) → Has (x, e) v.issued
  is-issued reading e epoch all = by ep epoch all new.own
    where
      by : (o : Option Epoch) → request_epoch (target_plan r t) m reading tracker o ≡ Some e → v.issued ≡ w.issued ++ listed (issued_for x o e) → ((f : Epoch) → o ≡ Some f → Has (x, f) w.issued) → Has (x, e) v.issued
      by None epoch all own = subst (Has (issue x e)) (sym all) (has-right w.issued (issue x e ∷ []) (issue x e) (inl refl))
      by (Some f) epoch all own = let same : f ≡ e = cc in subst (Has (issue x e)) (sym all) (has-left w.issued [] (issue x e) (own e (ap (λ i. Some i) same)))

  pub commit-ends : (opening : Epoch × FloorWhy) (reading : ℕ) (from : ActorId) → from ≡ client x.client → (stage : CommitStage) (k : Kept) (after : TargetMemory × Did) → CommitEnds (target_plan r t) opening m reading (commit_request x ep first tracker ws) from stage k after → AtCommit reading stage k
      → Over w v t (target_after s k after.0) l rest (letters_of (target t) after.1.posts) → GrowsBy h after.1.posts later → v.issued ≡ w.issued ++ listed after.1.issued → Ongoing r later v
  commit-ends opening reading from own stage k after (IsSpent k2 after2 none ends) p over g all =
      commit-refused k2 p (target_after s k2 m) _ (subst (λ i. Over w v t (target_after s k2 i.0) l rest (letters_of (target t) i.1.posts)) ends over) (record { incarnation = refl; runs = runs; life = refl; down = refl }) (subst (λ i. GrowsBy h i.1.posts later) ends g) from None EpochsSpent refl (λ same. let no : ⊥ = cc in no) refl refl
  commit-ends opening reading from own stage k after (IsRefused k2 e c after2 why ends) p over g all =
      commit-refused k2 p.on (target_after s k2 (with_ticks e m)) _ (subst (λ i. Over w v t (target_after s k2 i.0) l rest (letters_of (target t) i.1.posts)) ends over) (record { incarnation = refl; runs = runs; life = refl; down = refl }) (subst (λ i. GrowsBy h i.1.posts later) ends g) from (Some e) (Restart c) refl
      (λ same. let no : ⊥ = cc in no) refl refl
  commit-ends opening reading from own stage k after (HasNoSpace k2 e after2 allowed full ends) p over g all =
      commit-refused k2 p.on (target_after s k2 (with_ticks e m)) _ (subst (λ i. Over w v t (target_after s k2 i.0) l rest (letters_of (target t) i.1.posts)) ends over) (record { incarnation = refl; runs = runs; life = refl; down = refl }) (subst (λ i. GrowsBy h i.1.posts later) ends g) from (Some e) _ refl
      (λ same. let no : ⊥ = cc in no) refl refl
  commit-ends opening reading from own stage k after (HasBegun k2 e after2 ends) p over g all =
      begun-done from own e p.before k2 p.on.on p.now (is-issued reading e p.on.epoch (all ∙ ap (λ i. w.issued ++ listed i.1.issued) ends)) (begins_at (target_plan r t) m (commit_request x ep first tracker ws) from e k2.durable) (is_empty (other_members (entry e))) refl
      (begun-is from e k2) (subst (λ i. Over w v t (target_after s k2 i.0) l rest (letters_of (target t) i.1.posts)) ends over) (subst (λ i. GrowsBy h i.1.posts later) ends g)
