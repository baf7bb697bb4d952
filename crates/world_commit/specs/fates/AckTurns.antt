-- What a member answers keeps the facts of attempts.
use Rattle.std.specs.Prelude.{ℕ, ◌≡◌, ◌≢◌, ◌⊎◌, ◌+◌, ◌≤◌, Bool, true, false, ◌&&◌, ◌==◌, List, [], ◌∷◌, ◌++◌, map, slice_get, Option, Some, None, is_some, refl, if◌then◌else◌}
use Rattle.std.specs.List.{list_all}
use Rattle.std.specs.Option.{option_map}
use Rattle.std.proofs.Common.{sym, ◌∙◌, ap, subst, arith, inl, inr}
use Rattle.std.proofs.Math.ListN.{set}
use Rattle.std.proofs.lemmas.Bool.Decides.{nat_tests}
use Rattle.base_types.specs.declared.entry.Entry.{Entry}
use Rattle.base_types.specs.declared.entry.Settle.TheVariants.{Abort}
use Rattle.base_types.specs.declared.epoch.Epoch.{Epoch}
use Rattle.base_types.specs.declared.id.AttemptId.{AttemptId}
use Rattle.base_types.specs.declared.outcome.Outcome.{Outcome}
use Rattle.base_types.specs.declared.outcome.Outcome.TheVariants.{Committed}
use Rattle.model_laws.specs.Members.{Has, has-cases, has-from_map, has-left, has-right}
use Rattle.base_messages.specs.declared.actor.ActorId.{ActorId}
use Rattle.base_messages.specs.declared.message.Message.TheVariants as message
use Rattle.base_messages.specs.declared.message.Post.{Post}
use Rattle.daos_model.specs.BoolLaws.{both, false_of}
use Rattle.daos_model.specs.Changes.{settled}
use Rattle.daos_model.specs.Durables.{entry_key, entry_of, same_attempt}
use Rattle.daos_model.specs.EntryLaws.{same_attempt-itself}
use Rattle.daos_model.specs.Ordered.{is_rising}
use Rattle.dtx_base.specs.declared.leading.Undecided.{Undecided}
use Rattle.dtx_base.specs.LeaderLaws.{had_or_is, same-is}
use Rattle.dtx_base.specs.Leading.{LeaderOf, LeaderStep, abort_to, ack_heard, answer_if_awaited, counted_at, ended, entry_led, quietly, undecided_attempt, undecided_of}
use Rattle.dtx_base.specs.Members.{has_target, other_members, with_target}
use Rattle.dtx_base.specs.RowLaws.{row-is, row-map, row-without}
use Rattle.dtx_base.specs.Rows.{is_among, itself, row_key, row_of, with_row, without_row}
use Rattle.world_commit.specs.attempts.AckViews.{AckIs, Counted, Decides, Ignored, IsAwaited, Refuses, ack-is, ended_post, marking}
use Rattle.world_commit.specs.attempts.Attempts.{IsHeld, IsItsEntry, IsOkRight, IsOrdered, IsOther, count, entry_at, entry_in, inc_at, inc_in, is_known_at, is_known_in, is_prepare_to, is_target, leader_of, one_if, row_at, row_in}
use Rattle.world_commit.specs.attempts.Counting.{count-none, count-some, has-taken}
use Rattle.world_commit.specs.attempts.Frames.{SameFate, same-untold}
use Rattle.world_commit.specs.attempts.History.{Aborted, Decided, GrowsBy, History, Tells}
use Rattle.world_commit.specs.attempts.MemberBits.{is-other_same, others-same, counted-same}
use Rattle.world_commit.specs.attempts.Stored.{among-more, among-new, rising-aborted, row-gone, row-other, rows-rising, found-led, led-found, target-is, not-among}
use Rattle.world_commit.specs.attempts.Turning.{Stays, entry-elsewhere, entry-now, entry-stays, inc-stays, known-elsewhere, known-now, known-stays, one-or_another, row-elsewhere, row-now, row-stays, at_work}
use Rattle.world_commit.specs.fates.Answers.{IsAnswer}
use Rattle.world_commit.specs.fates.Answering.{AnswerTaken, answer-aborts, answer-counted, answer-decides, answer-ignored}
use Rattle.world_commit.specs.fates.Concerns.{AreDull, IsDull, is_dull, kind-dull, no-prepare, no-refusal, no-talk, no-try}
use Rattle.world_commit.specs.fates.Facts.{IsAckRight, IsMarkRight, IsRow, IsSaidSo, Ongoing, is_talk, is_try, refuses_for, talking}
use Rattle.world_commit.specs.fates.Frames.{AskedComes, LettersCome, SameLives, SameMail}
use Rattle.world_commit.specs.fates.Overs.{Over, over-asked, over-counts, over-letters, over-mail, over-works}
use Rattle.world_commit.specs.fates.Prompts.{AreSpoken}
use Rattle.world_commit.specs.fates.Settling.{RowsStay}
use Rattle.world_commit.specs.fates.Speaking.{aborts-spoken, both-spoken, ended-some}
use Rattle.world_commit.specs.fates.Stepping.{Goes, attempts-step}
use Rattle.world_commit.specs.fates.Talks.{is-target, number-off, number-itself, own-target, refusal-talks}
use Rattle.world_commit.specs.fates.Told.{silent-decides, silent-refuses, silent-same, silent_end, told_end}
use Rattle.world_commit.specs.fates.Turning.{Works, lives-stay}
use Rattle.world_commit.specs.fates.Working.{Step}
use Rattle.world_base.specs.declared.did.Did.{Did}
use Rattle.world_base.specs.declared.letter.Letter.{Letter}
use Rattle.world_base.specs.declared.target.Life.TheVariants.{Running}
use Rattle.world_base.specs.declared.target.TargetMemory.{TargetMemory}
use Rattle.world_base.specs.declared.target.TargetState.{TargetState}
use Rattle.world_base.specs.declared.world.World.{World}
use Rattle.world_base.specs.Events.{Rules, target_after, target_plan}
use Rattle.world_base.specs.Letters.{Takes, client, letter_of, letters_of, target}
use Rattle.world_base.specs.StepLaws.{set-here}
use Rattle.world_base.specs.Acks.{AckEnds, AckNext, AckStage, Aborts, Counts, Followed, Heard, IsFollowed, is_awaited, is_awaited_of, is_refusing}
use Rattle.world_base.specs.Changes.{Change, Kept, Steps}
use Rattle.world_base.specs.Roles.{leader_at, leads_on}
use Rattle.model_laws.specs.ServeLaws.{all-has}
use Rattle.world_base.specs.ChangeLaws.{incarnation-settled}
use Rattle.world_base.specs.EntryLaws.{entry-aborted, entry-aborted_other}

module _ (r : Rules) (h later : History) (w v : World) (t : ℕ) (s : TargetState) (here : slice_get w.targets t ≡ Some s) (runs : s.life ≡ Running) (m : TargetMemory) (l : Letter) (rest : List Letter) (takes : Takes w.messages l rest) (to_it : l.to ≡ target t)
    (a : AttemptId) (inc : ℕ) (refusal : Option Outcome) (is : IsAnswer r l a inc refusal) where
  abbrev V : Kept → World
  V k = at_work w t (target_after s k m) []

  abbrev L : Kept → LeaderOf
  L k = leader_at (target_plan r t) m k.durable

  -- what was kept when the Ack was heard, what follows from it, and what is kept now
  pub record IsFollowedBy (k : Kept) (st : LeaderStep) : Type 0 where
    pub before : Kept
    pub begun : before.durable ≡ s.durable
    pub on : Ongoing r h (at_work w t (target_after s before m) [])
    pub step : st ≡ ack_heard l.from.number a inc refusal (leader_at (target_plan r t) m before.durable)
    pub refused : is_refusing l.from.number a inc refusal (leader_at (target_plan r t) m before.durable) ≡ true → k.durable ≡ settled a Abort before.durable
    pub other : is_refusing l.from.number a inc refusal (leader_at (target_plan r t) m before.durable) ≡ false → k.durable ≡ before.durable

  abbrev pub AtAck : AckStage → Kept → Type 0
  AtAck Heard k = (k.durable ≡ s.durable) × Ongoing r h (at_work w t (target_after s k m) [])
  AtAck (Followed st) k = IsFollowedBy k st

  pub ack-step : (stage : AckStage) (k : Kept) (o : Option Change) (next : AckStage) (n : Kept) → AckNext (target_plan r t) m l.from.number a inc refusal stage k o next → Steps o k n → AtAck stage k → AtAck next n
  ack-step stage k o next n (Aborts k2 on) steps p = record { before = k2; begun = p.0; on = p.1; step = refl; refused = λ yes'. steps.0; other = λ off. let no : ⊥ = cc (on, off) in absurd no }
  ack-step stage k o next n (Counts k2 off) steps p = record { before = k2; begun = p.0; on = p.1; step = refl; refused = λ on. let no : ⊥ = cc (on, off) in absurd no; other = λ yes'. ap (λ q. q.durable) steps }

  -- ---- the end

  module _ (k : Kept) (p : Ongoing r h (V k)) where
    says : IsAckRight r h (V k) l.from l.to a inc refusal
    says = is.says h (V k) (p.letters l (has-left w.messages [] l (has-taken w.messages l rest takes)))

    sender : says.way.member ≡ l.from.number
    sender = sym (ap (λ i. i.number) says.way.sender)

    from-is : l.from ≡ target l.from.number
    from-is = says.way.sender ∙ ap target sender

    other : IsOther r a l.from.number
    other = subst (λ q. IsOther r a q) sender says.way.other

    leads : t ≡ leader_of r a
    leads = target-is t (leader_of r a) (sym to_it ∙ says.way.receiver)

    rising : is_rising entry_key k.durable.entries ≡ true
    rising = (p.ordered t (target_after s k m) (set-here w.targets t s (target_after s k m) here)).entries

    entry-here : (x : AttemptId) → entry_at (V k) t x ≡ entry_of k.durable x
    entry-here x = ap (λ i. entry_in i x) (set-here w.targets t s (target_after s k m) here)

    row-here : (x : AttemptId) → row_at (V k) t x ≡ row_of undecided_attempt x m.leader.undecided
    row-here x = ap (λ i. row_in i x) (set-here w.targets t s (target_after s k m) here)

    inc-there : inc_at (V k) (leader_of r a) ≡ k.durable.incarnation
    inc-there = ap inc_in (subst (λ u. slice_get (set w.targets t (target_after s k m)) u ≡ Some (target_after s k m)) leads (set-here w.targets t s (target_after s k m) here))

    -- what the leader does of it, where it is for its present incarnation
    pub view : (inc == (leader_at (target_plan r t) m k.durable).incarnation) ≡ true → AckIs l.from.number a inc refusal (leader_at (target_plan r t) m k.durable) (ack_heard l.from.number a inc refusal (leader_at (target_plan r t) m k.durable))
    view own = ack-is l.from.number a inc (L k) own refusal (λ e led.
        let found = (led-found (target_plan r t) m k.durable a e rising led).0 in
        let its = (p.each a).entries.one t e (entry-here a ∙ found) in
        is-other_same r a e l.from.number its.leader its.members other)

    row-unknown : (e : Entry) (u : Undecided) → IsAwaited a (L k) e u → is_among a m.leader.decided ≡ false
    row-unknown e u awaited = sym (ap (λ i. is_known_in i a) (set-here w.targets t s (target_after s k m) here)) ∙ ((p.each a).rows.undecided t u (row-here a ∙ awaited.row)).unknown

    waits-client : (e : Entry) (u : Undecided) → IsAwaited a (L k) e u → (c : ActorId) → u.client ≡ Some c → c.client ≡ true
    waits-client e u awaited c is = ap (λ i. i.client) (((p.each a).rows.undecided t u (row-here a ∙ awaited.row)).client c is)

    module _ (z : TargetState) (posts : List Post) (over : Over w v t z l rest (letters_of (target t) posts)) (dull : AreDull (letters_of (target t) posts)) (step : Step (target_after s k m) z) where
      works : Works (V k) v t (target_after s k m) z
      works = over-works w v t s (target_after s k m) z l rest (letters_of (target t) posts) over here step

      lives : SameLives (V k) v
      lives = lives-stay (V k) v t (target_after s k m) z works

      counts : (q : Letter → Bool) → ((n : Letter) → Has n (letters_of (target t) posts) → q n ≡ false) → count q v.messages + one_if (q l) ≡ count q (V k).messages
      counts q off =
          let all = over-counts w v t s (target_after s k m) z l rest (letters_of (target t) posts) over q in
          let none = count-none q (letters_of (target t) posts) off in
          omega (arith, all, none)

      mail : (x : AttemptId) → (x ≡ a → ⊥) → SameMail r h (V k) v x
      mail x off =
          over-mail w v t s (target_after s k m) z l rest (letters_of (target t) posts) over r h x
          (is.concerned x ∙ false_of (same_attempt a x) (λ same. off (sym (same-is a x same)))) (λ n i. dull n i x)

      talks : (i n : ℕ) → talking r i v a n + one_if (is_talk r i a n l) ≡ talking r i (V k) a n
      talks i n = counts (is_talk r i a n) (λ q j. no-talk r a q (dull q j a) i n)

      -- the letter is counted for its sender and its incarnation alone
      talk-of : (i n : ℕ) → is_talk r i a n l ≡ (is_target n (target l.from.number) && (inc == i))
      talk-of i n =
          is.talks i a n
          ∙ ap (λ b. b && (is_target n l.from && (same_attempt a a && (inc == i)))) (ap (is_target (leader_of r a)) (to_it ∙ ap target leads) ∙ own-target (leader_of r a))
          ∙ ap (λ b. is_target n l.from && (b && (inc == i))) (same_attempt-itself a) ∙ ap (λ q. is_target n q && (inc == i)) from-is

      -- a letter that is left was in flight
      left : (n : Letter) → Has n v.messages → ((inc' : ℕ) → refuses_for inc' a n.message ≡ true → Has n (V k).messages) × ((u : ℕ) → is_prepare_to a u n ≡ true → Has n (V k).messages)
      left n i = elim (over-letters w v t s (target_after s k m) z l rest (letters_of (target t) posts) over n i) [
        | inl before ↦ (λ j on. before, λ u on. before)
        | inr new ↦ (λ j on. absurd (no-refusal r a n (dull n new a) j on), λ u on. absurd (no-prepare r a n (dull n new a) u on))
      ]

      taken : AnswerTaken r (V k) v a inc l.from.number
      taken = record {
        issued = over.issued a;
        own =
            let all = talks inc l.from.number in
            let one : one_if (is_talk r inc a l.from.number l) ≡ 1 = ap one_if (talk-of inc l.from.number ∙ both (is_target l.from.number (target l.from.number)) (inc == inc) (own-target l.from.number) (number-itself inc)) in
            omega (arith, all, one);
        others = λ n apart.
            let all = talks inc n in
            let off : is_target n (target l.from.number) ≡ false = false_of (is_target n (target l.from.number)) (λ yes'. apart (is-target n l.from.number yes')) in
            let zero : one_if (is_talk r inc a n l) ≡ 0 = ap one_if (talk-of inc n ∙ ap (λ b. b && (inc == inc)) off) in
            omega (arith, all, zero);
        apart = λ i n off.
            let all = talks i n in
            let zero : one_if (is_talk r i a n l) ≡ 0 = ap one_if (talk-of i n ∙ ap (λ b. is_target n (target l.from.number) && b) (number-off i inc off) ∙ and-none (is_target n (target l.from.number))) in
            omega (arith, all, zero);
        fewer = λ i n. let all = talks i n in omega (arith, all);
        tries = λ n. let all = counts (is_try r a n) (λ q j. no-try r a q (dull q j a) n) in omega (arith, all);
        left = λ n i s. elim s [ inl on ↦ (left n i).0 inc on | inr on ↦ (left n i).1 on.0 on.1 ];
      }
        where
          and-none : (b : Bool) → (b && false) ≡ false
          and-none true = refl
          and-none false = refl

      own-ordered : IsOrdered (target_after s k m)
      own-ordered = p.ordered t (target_after s k m) (set-here w.targets t s (target_after s k m) here)

      asked : AskedComes (V k) v
      asked = over-asked w v t s (target_after s k m) z l rest (letters_of (target t) posts) over

      only-before : ((q : Letter) → Has q (letters_of (target t) posts) → ⊥) → (q : Letter) → Has q v.messages → Has q (V k).messages
      only-before nothing q i = elim (over-letters w v t s (target_after s k m) z l rest (letters_of (target t) posts) over q i) [ inl before ↦ before | inr new ↦ absurd (nothing q new) ]

      -- letters that come tell of no attempt between targets, or say what is so
      come : ((q : Letter) → Has q (letters_of (target t) posts) → IsSaidSo r later v q.from q.to q.message) → LettersCome r later (V k) v
      come right i among = elim (over-letters w v t s (target_after s k m) z l rest (letters_of (target t) posts) over i among) [ inl before ↦ inl before | inr new ↦ inr (right i new) ]

      -- ---- entries stay

      module _ (durable : z.durable ≡ k.durable) where
        entries : (x : AttemptId) (u : ℕ) → entry_at v u x ≡ entry_at (V k) u x
        entries x = entry-stays (V k) v t (target_after s k m) z works.turn x (ap (λ d. entry_of d x) durable)

        goes : ((e : Epoch) → Decided h a e → Decided later a e) → (Aborted h a → Aborted later a) → Goes r h later (V k) v a
        goes decided aborted = record {
          decided = decided;
          aborted = aborted;
          held = λ u i. inl (record { entry = i.entry; found = entries a u ∙ i.found });
          settled = λ u i. inl (record { entry = i.entry; found = entries a u ∙ i.found; committed = i.committed });
        }

        ordered : is_rising (row_key itself) z.memory.leader.decided ≡ true → IsOrdered z
        ordered decided = record { entries = subst (λ d. is_rising entry_key d.entries ≡ true) (sym durable) own-ordered.entries; decided = decided }

        -- an Ack that isn't awaited
        pub ack-ignored : ((x : AttemptId) → SameFate h later x) → posts ≡ [] → ((e : Entry) (u : Undecided) → IsAwaited a (L k) e u → ⊥) ⊎ (k.durable.incarnation ≡ inc → ⊥) → z.memory.leader ≡ m.leader → Ongoing r later v
        ack-ignored fate none ignored leader =
            attempts-step r h later (V k) v t (target_after s k m) z works a (λ x off. record { stays = stays x; fate = fate x; mail = mail x off }) (goes (fate a).decided (fate a).aborted)
            (answer-ignored r h (V k) v a inc l.from.number taken lives (p.each a) later (entries a) (fate a) rows (elim ignored [ inl unawaited ↦ inl (no_row unawaited) | inr late ↦ inr (λ same. late (sym inc-there ∙ same)) ]) were)
            (come (λ q i. absurd (nothing q i))) asked
            (ordered (subst (λ q. is_rising (row_key itself) q.decided ≡ true) (sym leader) own-ordered.decided)) p
          where
            stays : (x : AttemptId) → Stays (target_after s k m) z x
            stays x = record { entry = ap (λ d. entry_of d x) durable; row = ap (λ q. row_of undecided_attempt x q.undecided) leader; known = ap (λ q. is_among x q.decided) leader }

            rows : RowsStay (V k) v a
            rows = record { row = row-stays (V k) v t (target_after s k m) z works.turn a (stays a).row; known = known-stays (V k) v t (target_after s k m) z works.turn a (stays a).known }

            nothing : (q : Letter) → Has q (letters_of (target t) posts) → ⊥
            nothing q i = subst (λ ps. Has q (letters_of (target t) ps)) none i

            were : (q : Letter) → Has q v.messages → Has q (V k).messages
            were q i = only-before nothing q i

            no_row : ((e : Entry) (u : Undecided) → IsAwaited a (L k) e u → ⊥) → (q : Undecided) → row_at (V k) (leader_of r a) a ≡ Some q → ⊥
            no_row unawaited q at =
                let o = ((p.each a).rows.undecided (leader_of r a) q at).here in
                let found : entry_of k.durable a ≡ Some o.entry = sym (entry-here a) ∙ subst (λ u. entry_at (V k) u a ≡ Some o.entry) (sym leads) o.found in
                let its = (p.each a).entries.one t o.entry (entry-here a ∙ found) in
                let row : row_of undecided_attempt a m.leader.undecided ≡ Some q = sym (row-here a) ∙ subst (λ u. row_at (V k) u a ≡ Some q) (sym leads) at in
                unawaited o.entry q (record { led = found-led (target_plan r t) m k.durable a o.entry rising found (its.leader ∙ sym leads); row = row })

        -- one that is
        module _ (e : Entry) (u : Undecided) (awaited : IsAwaited a (L k) e u) where
          found : entry_of k.durable a ≡ Some e
          found = (led-found (target_plan r t) m k.durable a e rising awaited.led).0

          found-leader : entry_at (V k) (leader_of r a) a ≡ Some e
          found-leader = subst (λ q. entry_at (V k) q a ≡ Some e) leads (entry-here a ∙ found)

          row-leader : row_at (V k) (leader_of r a) a ≡ Some u
          row-leader = subst (λ q. row_at (V k) q a ≡ Some u) leads (row-here a ∙ awaited.row)

          unaborted : Aborted h a → ⊥
          unaborted gone = let none = (p.each a).entries.aborted gone in (let no : ⊥ = cc (none, found-leader) in no)

          held-there : refusal ≡ None → IsHeld (V k) l.from.number a
          held-there well = by refusal well says.held
            where
              by : (q : Option Outcome) → q ≡ None → IsOkRight h (V k) a says.way.member q → IsHeld (V k) l.from.number a
              by None well (inl i) = subst (λ n. IsHeld (V k) n a) sender i
              by None well (inr gone) = absurd (unaborted gone)
              by (Some how) well i = let no : ⊥ = cc in absurd no

          -- it is counted
          pub ack-counted : ((x : AttemptId) → SameFate h later x) → posts ≡ [] → k.durable.incarnation ≡ inc → refusal ≡ None → z.memory.leader.undecided ≡ map (counted_at a l.from.number) m.leader.undecided
              → z.memory.leader.decided ≡ m.leader.decided → Ongoing r later v
          ack-counted fate none present well undecided decided =
              attempts-step r h later (V k) v t (target_after s k m) z works a (λ x off. record { stays = stays x off; fate = fate x; mail = mail x off }) (goes (fate a).decided (fate a).aborted)
              (answer-counted r h (V k) v a inc l.from.number taken lives (p.each a) later (entries a) u row-leader (inc-there ∙ present) other (held-there well) (fate a) now' (λ n apart. row-elsewhere (V k) v t (target_after s k m) z works.turn a n (λ same. apart (same ∙ leads)))
              (known-stays (V k) v t (target_after s k m) z works.turn a (ap (is_among a) decided)) (only-before nothing))
              (come (λ q i. absurd (nothing q i))) asked (ordered (subst (λ q. is_rising (row_key itself) q ≡ true) (sym decided) own-ordered.decided)) p
            where
              stays : (x : AttemptId) → (x ≡ a → ⊥) → Stays (target_after s k m) z x
              stays x off = record {
                entry = ap (λ d. entry_of d x) durable;
                row = ap (row_of undecided_attempt x) undecided
                    ∙ row-other undecided_attempt (counted_at a l.from.number) (counted-same a l.from.number) x a (λ y no. ap (λ (b : Bool). if b then record y { counted = with_target y.counted l.from.number } else y) no) off m.leader.undecided;
                known = ap (is_among x) decided;
              }

              nothing : (q : Letter) → Has q (letters_of (target t) posts) → ⊥
              nothing q i = subst (λ ps. Has q (letters_of (target t) ps)) none i

              now' : row_at v (leader_of r a) a ≡ Some (record u { counted = with_target u.counted l.from.number })
              now' =
                  subst (λ n. row_at v n a ≡ Some (record u { counted = with_target u.counted l.from.number })) leads
                  (row-now (V k) v t (target_after s k m) z works.turn a ∙ ap (row_of undecided_attempt a) undecided ∙ row-map undecided_attempt (counted_at a l.from.number) (counted-same a l.from.number) a m.leader.undecided
                  ∙ ap (option_map (counted_at a l.from.number)) awaited.row
                  ∙ ap (λ (b : Bool). Some (if b then record u { counted = with_target u.counted l.from.number } else u)) (row-is undecided_attempt a m.leader.undecided u awaited.row))

          -- its attempt has no row then, at any target
          gone-row : z.memory.leader.undecided ≡ without_row undecided_attempt a m.leader.undecided → (n : ℕ) (q : Undecided) → row_at v n a ≡ Some q → ⊥
          gone-row undecided n q at = elim (one-or_another n t) [
            | inl same ↦
                let none : row_at v n a ≡ None = ap (λ i. row_at v i a) same ∙ row-now (V k) v t (target_after s k m) z works.turn a ∙ ap (row_of undecided_attempt a) undecided ∙ row-gone undecided_attempt a m.leader.undecided in
                (let no : ⊥ = cc (at, none) in no)
            | inr apart ↦ apart (((p.each a).rows.undecided n q (sym (row-elsewhere (V k) v t (target_after s k m) z works.turn a n apart) ∙ at)).here.leads ∙ sym leads)
          ]

          -- it is the last one
          pub ack-decides : (told : List Post) → GrowsBy h told later → told ≡ posts ++ told_end a (Some e.epoch) Committed ∷ [] → ((e f : Epoch) → Has (a, e) w.issued → Has (a, f) w.issued → e ≡ f) → k.durable.incarnation ≡ inc → refusal ≡ None
              → list_all (has_target (with_target u.counted l.from.number)) (other_members e) ≡ true
              → posts ≡ ended u.client a e.epoch Committed → z.memory.leader.undecided ≡ without_row undecided_attempt a m.leader.undecided → z.memory.leader.decided ≡ with_row itself a m.leader.decided → Ongoing r later v
          ack-decides told g more one present well all sent undecided decided =
              attempts-step r h later (V k) v t (target_after s k m) z works a (λ x off. record { stays = stays x off; fate = fate x off; mail = mail x off }) (goes (g.decided a) (g.aborted a))
              (answer-decides r h (V k) v a inc l.from.number taken lives (p.each a) later (entries a) u row-leader (inc-there ∙ present) other (held-there well) e found-leader prepared counted one is-decided (g.decided a) only unended
              (gone-row undecided) known-there (λ n apart. known-elsewhere (V k) v t (target_after s k m) z works.turn a n (λ same. apart (same ∙ leads))) refusing)
              (come right) asked (ordered rises) p
            where
              waits : IsRow r (V k) a (leader_of r a) u
              waits = (p.each a).rows.undecided (leader_of r a) u row-leader

              prepared : e.committed ≡ false
              prepared =
                  let one : Some waits.here.entry ≡ Some e = sym waits.here.found ∙ found-leader in
                  let same : waits.here.entry ≡ e = cc in
                  sym (ap (λ i. i.committed) same) ∙ waits.here.prepared

              its : IsItsEntry r (V k) a (leader_of r a) e
              its = (p.each a).entries.one (leader_of r a) e found-leader

              counted : (n : ℕ) → IsOther r a n → (n ≡ l.from.number) ⊎ (has_target u.counted n ≡ true)
              counted n o = had_or_is u.counted l.from.number n (all-has (has_target (with_target u.counted l.from.number)) (other_members e) n all (subst (Has n) (sym (others-same r a e its.leader its.members)) o))

              -- who refuses is counted
              refusing : (q : Letter) → Has q v.messages → refuses_for inc a q.message ≡ true → (n : ℕ) × IsOther r a n × (1 ≤ talking r inc v a n)
              refusing q i on =
                  let y = refusal-talks r h (V k) inc a q (p.letters q ((left q i).0 inc on)) on in
                  (y.0, y.1, count-some (is_talk r inc a y.0) v.messages q i y.2)

              told-is : (x : AttemptId) (own : Option Epoch) (how : Outcome) (to : ActorId) (c : Option ActorId) → Has (ended_post to x own how) (ended c a e.epoch Committed ++ told_end a (Some e.epoch) Committed ∷ []) → (x ≡ a) × (own ≡ Some e.epoch) × (how ≡ Committed)
              told-is x own how to None (inl same) = let m : message.Ended x own how ≡ message.Ended a (Some e.epoch) Committed = ap (λ i. i.message) same in (cc, cc, cc)
              told-is x own how to None (inr none) = absurd none
              told-is x own how to (Some c) (inl same) = let m : message.Ended x own how ≡ message.Ended a (Some e.epoch) Committed = ap (λ i. i.message) same in (cc, cc, cc)
              told-is x own how to (Some c) (inr (inl same)) = let m : message.Ended x own how ≡ message.Ended a (Some e.epoch) Committed = ap (λ i. i.message) same in (cc, cc, cc)
              told-is x own how to (Some c) (inr (inr none)) = absurd none

              only-told : (x : AttemptId) (own : Option Epoch) (how : Outcome) → Tells told x own how → (x ≡ a) × (own ≡ Some e.epoch) × (how ≡ Committed)
              only-told x own how k2 = told-is x own how k2.to u.client (subst (Has (ended_post k2.to x own how)) (more ∙ ap (λ ps. ps ++ told_end a (Some e.epoch) Committed ∷ []) sent) k2.sent)

              is-decided : Decided later a e.epoch
              is-decided = g.committed a e.epoch (record { to = client a.client; sent = subst (Has (told_end a (Some e.epoch) Committed)) (sym more) (has-right posts (told_end a (Some e.epoch) Committed ∷ []) (told_end a (Some e.epoch) Committed) (inl refl)) })

              only : (f : Epoch) → Decided later a f → f ≡ e.epoch
              only f d = elim (g.only_decided a f d) [
                | inl before ↦
                    let z = (p.each a).entries.held_by_leader f before in
                    let one : Some z.entry ≡ Some e = sym z.found ∙ found-leader in
                    let same : z.entry ≡ e = cc in
                    sym z.epoch ∙ ap (λ i. i.epoch) same
                | inr k2 ↦ let same = (only-told a (Some f) Committed k2).1 in cc
              ]

              unended : Aborted later a → ⊥
              unended gone = elim (g.only_aborted a gone) [ inl before ↦ unaborted before | inr k2 ↦ k2.refused (only-told a k2.own k2.how k2.told).2 ]

              fate : (x : AttemptId) → (x ≡ a → ⊥) → SameFate h later x
              fate x off = same-untold h later told x g (λ own how k2. off (only-told x own how k2).0)

              stays : (x : AttemptId) → (x ≡ a → ⊥) → Stays (target_after s k m) z x
              stays x off = record {
                entry = ap (λ d. entry_of d x) durable;
                row = ap (row_of undecided_attempt x) undecided ∙ row-without undecided_attempt x a m.leader.undecided off;
                known = ap (is_among x) decided ∙ among-more x a m.leader.decided off;
              }

              known-there : is_known_at v (leader_of r a) a ≡ true
              known-there = subst (λ n. is_known_at v n a ≡ true) leads (known-now (V k) v t (target_after s k m) z works.turn a ∙ ap (is_among a) decided ∙ among-new a m.leader.decided)

              unknown : is_among a m.leader.decided ≡ false
              unknown = sym (ap (λ i. is_known_in i a) (set-here w.targets t s (target_after s k m) here)) ∙ subst (λ n. is_known_at (V k) n a ≡ false) (sym leads) waits.unknown

              rises : is_rising (row_key itself) z.memory.leader.decided ≡ true
              rises = subst (λ q. is_rising (row_key itself) q ≡ true) (sym decided) (rows-rising itself a m.leader.decided (not-among a m.leader.decided unknown) own-ordered.decided)

              right : (q : Letter) → Has q (letters_of (target t) posts) → IsSaidSo r later v q.from q.to q.message
              right q i = by u.client (subst (λ ps. Has q (letters_of (target t) ps)) sent i)
                where
                  by : (c : Option ActorId) → Has q (letters_of (target t) (ended c a e.epoch Committed)) → IsSaidSo r later v q.from q.to q.message
                  by None none = absurd none
                  by (Some c) (inl same) = subst (λ n. IsSaidSo r later v n.from n.to n.message) (sym same) tt
                  by (Some c) (inr none) = absurd none

      -- it refuses
      module _ (e : Entry) (u : Undecided) (how : Outcome) (awaited : IsAwaited a (L k) e u) (refuses : refusal ≡ Some how) where
        found-then : entry_of k.durable a ≡ Some e
        found-then = (led-found (target_plan r t) m k.durable a e rising awaited.led).0

        found-first : entry_at (V k) (leader_of r a) a ≡ Some e
        found-first = subst (λ q. entry_at (V k) q a ≡ Some e) leads (entry-here a ∙ found-then)

        row-first : row_at (V k) (leader_of r a) a ≡ Some u
        row-first = subst (λ q. row_at (V k) q a ≡ Some u) leads (row-here a ∙ awaited.row)

        pub ack-refuses : (told : List Post) → GrowsBy h told later → told ≡ posts ++ told_end a (Some e.epoch) how ∷ [] → k.durable.incarnation ≡ inc → posts ≡ ended u.client a e.epoch how ++ map (abort_to k.durable.incarnation a) (other_members e)
            → z.durable ≡ settled a Abort k.durable → z.memory.leader.undecided ≡ without_row undecided_attempt a m.leader.undecided → z.memory.leader.decided ≡ m.leader.decided → Ongoing r later v
        ack-refuses told g more present sent durable undecided decided =
            attempts-step r h later (V k) v t (target_after s k m) z works a (λ x off. record { stays = stays x off; fate = fate x off; mail = mail x off })
            (record { decided = g.decided a; aborted = g.aborted a; held = λ n i. inr gone; settled = λ n i. inr gone })
            (answer-aborts r h (V k) v a inc l.from.number taken lives (p.each a) later u row-first firm gone is-decided none-left (λ n apart. entry-elsewhere (V k) v t (target_after s k m) z works.turn a n (λ same. apart (same ∙ leads))) no_row
            (known-stays (V k) v t (target_after s k m) z works.turn a (ap (is_among a) decided)))
            (come right) asked ordered p
          where
            uncommitted : how ≢ Committed
            uncommitted = subst (λ q. IsOkRight h (V k) a says.way.member q) refuses says.held

            -- it isn't decided, since a refusal of it was in flight
            firm : (f : Epoch) → Decided h a f → ⊥
            firm f d = (p.each a).awaited.firm l f (has-left w.messages [] l (has-taken w.messages l rest takes)) refused-now d
              where
                refused-now : refuses_for (inc_at (V k) (leader_of r a)) a l.message ≡ true
                refused-now =
                    is.refuses (inc_at (V k) (leader_of r a)) a how refuses
                    ∙ both (same_attempt a a) (inc == inc_at (V k) (leader_of r a)) (same_attempt-itself a) (subst (λ i. (inc == i) ≡ true) (sym (inc-there ∙ present)) (number-itself inc))

            its : IsItsEntry r (V k) a (leader_of r a) e
            its = (p.each a).entries.one (leader_of r a) e found-first

            told-is : (x : AttemptId) (own : Option Epoch) (end : Outcome) (to : ActorId) → Has (ended_post to x own end) told → (x ≡ a) × (end ≡ how)
            told-is x own end to i = elim (has-cases posts (told_end a (Some e.epoch) how ∷ []) (ended_post to x own end) (subst (Has (ended_post to x own end)) more i)) [
              | inl j ↦ elim (has-cases (ended u.client a e.epoch how) (map (abort_to k.durable.incarnation a) (other_members e)) (ended_post to x own end) (subst (Has (ended_post to x own end)) sent j)) [
                | inl told-first ↦ by u.client told-first
                | inr mark ↦
                    let y = has-from_map (abort_to k.durable.incarnation a) (other_members e) (ended_post to x own end) mark in
                    let no : ⊥ = cc (ap (λ i. i.message) y.2) in
                    absurd no
              ]
              | inr (inl same) ↦ let m : message.Ended x own end ≡ message.Ended a (Some e.epoch) how = ap (λ i. i.message) same in (cc, cc)
              | inr (inr none) ↦ absurd none
            ]
              where
                by : (c : Option ActorId) → Has (ended_post to x own end) (ended c a e.epoch how) → (x ≡ a) × (end ≡ how)
                by None none = absurd none
                by (Some c) (inl same) = let m : message.Ended x own end ≡ message.Ended a (Some e.epoch) how = ap (λ i. i.message) same in (cc, cc)
                by (Some c) (inr none) = absurd none

            only-told : (x : AttemptId) (own : Option Epoch) (end : Outcome) → Tells told x own end → (x ≡ a) × (end ≡ how)
            only-told x own end k2 = told-is x own end k2.to k2.sent

            gone : Aborted later a
            gone = g.refused a (record {
              own = Some e.epoch;
              how = how;
              told = record { to = client a.client; sent = subst (Has (told_end a (Some e.epoch) how)) (sym more) (has-right posts (told_end a (Some e.epoch) how ∷ []) (told_end a (Some e.epoch) how) (inl refl)) };
              refused = uncommitted;
            })

            is-decided : (f : Epoch) → Decided later a f → Decided h a f
            is-decided f d = elim (g.only_decided a f d) [ inl before ↦ before | inr k2 ↦ absurd (uncommitted (sym (only-told a (Some f) Committed k2).1)) ]

            fate : (x : AttemptId) → (x ≡ a → ⊥) → SameFate h later x
            fate x off = same-untold h later told x g (λ own end k2. off (only-told x own end k2).0)

            stays : (x : AttemptId) → (x ≡ a → ⊥) → Stays (target_after s k m) z x
            stays x off = record {
              entry = ap (λ d. entry_of d x) durable ∙ entry-aborted_other a k.durable x off;
              row = ap (row_of undecided_attempt x) undecided ∙ row-without undecided_attempt x a m.leader.undecided off;
              known = ap (is_among x) decided;
            }

            none-left : entry_at v (leader_of r a) a ≡ None
            none-left = subst (λ n. entry_at v n a ≡ None) leads (entry-now (V k) v t (target_after s k m) z works.turn a ∙ ap (λ d. entry_of d a) durable ∙ entry-aborted a k.durable)

            no_row : (n : ℕ) (q : Undecided) → row_at v n a ≡ Some q → ⊥
            no_row n q at = elim (one-or_another n t) [
              | inl same ↦
                  let none : row_at v n a ≡ None = ap (λ i. row_at v i a) same ∙ row-now (V k) v t (target_after s k m) z works.turn a ∙ ap (row_of undecided_attempt a) undecided ∙ row-gone undecided_attempt a m.leader.undecided in
                  (let no : ⊥ = cc (at, none) in no)
              | inr apart ↦ apart (((p.each a).rows.undecided n q (sym (row-elsewhere (V k) v t (target_after s k m) z works.turn a n apart) ∙ at)).here.leads ∙ sym leads)
            ]

            ordered : IsOrdered z
            ordered = record {
              entries = subst (λ d. is_rising entry_key d.entries ≡ true) (sym durable) (rising-aborted a k.durable own-ordered.entries);
              decided = subst (λ q. is_rising (row_key itself) q ≡ true) (sym decided) own-ordered.decided;
            }

            mark-right : (n : ℕ) → Has n (other_members e) → (x : AttemptId) (c : Bool) → Has (marking x c) (marking a false ∷ []) → IsMarkRight r later v (target t) (target n) x k.durable.incarnation c
            mark-right n i x c (inr none) = absurd none
            mark-right n i x c (inl same) =
                subst (λ (q : AttemptId × Bool). IsMarkRight r later v (target t) (target n) q.0 k.durable.incarnation q.1) (sym same)
                (record {
                  way = record { member = n; other = subst (Has n) (others-same r a e its.leader its.members) i; sender = ap target leads; receiver = refl };
                  incarnation = let same : inc_at v (leader_of r a) ≡ k.durable.incarnation = inc-stays (V k) v t (target_after s k m) z works.turn (leader_of r a) ∙ inc-there in omega (arith, same);
                  fate = gone;
                })

            right : (q : Letter) → Has q (letters_of (target t) posts) → IsSaidSo r later v q.from q.to q.message
            right q i = let y = has-from_map (letter_of (target t)) posts q i in subst (λ n. IsSaidSo r later v n.from n.to n.message) y.2 (by y.0 (subst (Has y.0) sent y.1))
              where
                told-right : (c : Option ActorId) (y : Post) → Has y (ended c a e.epoch how) → IsSaidSo r later v (target t) y.to y.message
                told-right None y none = absurd none
                told-right (Some c) y (inl same) = subst (λ n. IsSaidSo r later v (target t) n.to n.message) (sym same) tt
                told-right (Some c) y (inr none) = absurd none

                by : (y : Post) → Has y (ended u.client a e.epoch how ++ map (abort_to k.durable.incarnation a) (other_members e)) → IsSaidSo r later v (target t) y.to y.message
                by y j = elim (has-cases (ended u.client a e.epoch how) (map (abort_to k.durable.incarnation a) (other_members e)) y j) [
                  | inl first ↦ told-right u.client y first
                  | inr mark ↦ let x = has-from_map (abort_to k.durable.incarnation a) (other_members e) y mark in subst (λ n. IsSaidSo r later v (target t) n.to n.message) x.2 (mark-right x.0 x.1)
                ]

  -- ---- an Ack ends

  untold-nothing : (posts : List Post) → posts ≡ [] → GrowsBy h posts later → (x : AttemptId) → SameFate h later x
  untold-nothing posts none g x = same-untold h later posts x g (λ own how k2. subst (Has (ended_post k2.to x own how)) none k2.sent)

  no-letters : (posts : List Post) → posts ≡ [] → AreDull (letters_of (target t) posts)
  no-letters posts none q i = absurd (subst (λ ps. Has q (letters_of (target t) ps)) none i)

  ended-dull : (o : Option ActorId) (x : AttemptId) (own : Epoch) (how : Outcome) (more : List Post) → ((q : Post) → Has q more → is_dull q.message ≡ true) → (q : Post) → Has q (ended o x own how ++ more) → is_dull q.message ≡ true
  ended-dull None x own how more dull q i = dull q i
  ended-dull (Some c) x own how more dull q (inl same) = ap (λ n. is_dull n.message) same
  ended-dull (Some c) x own how more dull q (inr i) = dull q i

  letters-dull : (posts : List Post) → ((q : Post) → Has q posts → is_dull q.message ≡ true) → AreDull (letters_of (target t) posts)
  letters-dull posts dull q i = let y = has-from_map (letter_of (target t)) posts q i in subst (λ n. IsDull n.message) y.2 (kind-dull y.0.message (dull y.0 y.1))

  aborts-dull : (i : ℕ) (ns : List ℕ) (q : Post) → Has q (map (abort_to i a) ns) → is_dull q.message ≡ true
  aborts-dull i ns q j = let y = has-from_map (abort_to i a) ns q j in sym (ap (λ n. is_dull n.message) y.2)

  -- what is told, where these messages are sent and the target knows this then
  abbrev told : List Post → TargetMemory → Kept → List Post
  told posts n k = posts ++ silent_end a refusal (entry_of s.durable a) (is_among a m.leader.decided) (is_among a n.leader.decided) (is_some (entry_of k.durable a))

  works-on : (b k : Kept) (n : TargetMemory) → k.durable.incarnation ≡ b.durable.incarnation → n.leader.down ≡ m.leader.down → Step (target_after s b m) (target_after s k n)
  works-on b k n same down = record { incarnation = same; runs = runs; life = refl; down = down }

  -- nothing is told where nothing changes
  quiet-told : (b k : Kept) (n : TargetMemory) → b.durable ≡ s.durable → k.durable ≡ b.durable → n.leader.decided ≡ m.leader.decided → told [] n k ≡ []
  quiet-told b k n begun same known =
      ap (λ d. silent_end a refusal (entry_of s.durable a) (is_among a m.leader.decided) (is_among a d) (is_some (entry_of k.durable a))) known
      ∙ ap (λ d. silent_end a refusal (entry_of s.durable a) (is_among a m.leader.decided) (is_among a m.leader.decided) (is_some (entry_of d a))) (same ∙ begun)
      ∙ silent-same a refusal (entry_of s.durable a) (is_among a m.leader.decided)

  quiet-fate : (b k : Kept) (n : TargetMemory) → b.durable ≡ s.durable → k.durable ≡ b.durable → n.leader.decided ≡ m.leader.decided → GrowsBy h (told [] n k) later → (x : AttemptId) → SameFate h later x
  quiet-fate b k n begun same known g = untold-nothing (told [] n k) (quiet-told b k n begun same known) g

  ack-done : ((e f : Epoch) → Has (a, e) w.issued → Has (a, f) w.issued → e ≡ f) → (b k : Kept) (p : Ongoing r h (V b)) (st : LeaderStep) → b.durable ≡ s.durable → b.durable.incarnation ≡ inc → AckIs l.from.number a inc refusal (L b) st
      → (is_refusing l.from.number a inc refusal (L b) ≡ true → k.durable ≡ settled a Abort b.durable) → (is_refusing l.from.number a inc refusal (L b) ≡ false → k.durable ≡ b.durable)
      → Over w v t (target_after s k (leads_on st m)) l rest (letters_of (target t) st.posts) → GrowsBy h (told st.posts (leads_on st m) k) later → Ongoing r later v
  ack-done one b k p st begun present (Ignored unawaited off) refused same over g =
      ack-ignored b p (target_after s k m) [] over (no-letters [] refl) (works-on b k m (ap (λ d. d.incarnation) (same off)) refl) (same off) (quiet-fate b k m begun (same off) refl g) refl (inl unawaited) refl
  ack-done one b k p st begun present (Counted e u awaited well off) refused same over g =
      ack-counted b p (target_after s k (leads_on st m)) [] over (no-letters [] refl) (works-on b k (leads_on st m) (ap (λ d. d.incarnation) (same off)) refl) (same off) e u awaited (quiet-fate b k (leads_on st m) begun (same off) refl g) refl present well refl refl
  ack-done one b k p st begun present (Decides e u awaited well off all) refused same over g =
      ack-decides b p (target_after s k (leads_on st m)) (ended u.client a e.epoch Committed) over (letters-dull (ended u.client a e.epoch Committed) (ended-dull_alone u.client)) (works-on b k (leads_on st m) (ap (λ d. d.incarnation) (same off)) refl) (same off) e u awaited
      (told (ended u.client a e.epoch Committed) (leads_on st m) k) g
      (ap (λ ps. ended u.client a e.epoch Committed ++ ps) (silent-decides a refusal (entry_of s.durable a) e (is_among a m.leader.decided) (is_among a (leads_on st m).leader.decided) (is_some (entry_of k.durable a)) found (row-unknown b p e u awaited) (among-new a m.leader.decided)))
      one present well all refl refl refl
    where
      found : entry_of s.durable a ≡ Some e
      found = ap (λ d. entry_of d a) (sym begun) ∙ (led-found (target_plan r t) m b.durable a e (rising b p) awaited.led).0

      ended-dull_alone : (o : Option ActorId) (q : Post) → Has q (ended o a e.epoch Committed) → is_dull q.message ≡ true
      ended-dull_alone None q i = absurd i
      ended-dull_alone (Some c) q (inl is2) = ap (λ n. is_dull n.message) is2
      ended-dull_alone (Some c) q (inr none) = absurd none
  ack-done one b k p st begun present (Refuses e u how awaited refuses on) refused same over g =
      ack-refuses b p (target_after s k (leads_on st m)) (ended u.client a e.epoch how ++ map (abort_to b.durable.incarnation a) (other_members e)) over
      (letters-dull (ended u.client a e.epoch how ++ map (abort_to b.durable.incarnation a) (other_members e)) (ended-dull u.client a e.epoch how (map (abort_to b.durable.incarnation a) (other_members e)) (aborts-dull b.durable.incarnation (other_members e))))
      (works-on b k (leads_on st m) (ap (λ d. d.incarnation) (refused on) ∙ incarnation-settled a Abort b.durable) refl) e u how awaited refuses
      (told (ended u.client a e.epoch how ++ map (abort_to b.durable.incarnation a) (other_members e)) (leads_on st m) k) g
      (ap (λ ps. (ended u.client a e.epoch how ++ map (abort_to b.durable.incarnation a) (other_members e)) ++ ps)
      (silent-refuses a refusal how (entry_of s.durable a) e (is_among a m.leader.decided) (is_among a m.leader.decided) (is_some (entry_of k.durable a)) found (row-unknown b p e u awaited) gone refuses)) present refl (refused on) refl refl
    where
      found : entry_of s.durable a ≡ Some e
      found = ap (λ d. entry_of d a) (sym begun) ∙ (led-found (target_plan r t) m b.durable a e (rising b p) awaited.led).0

      gone : is_some (entry_of k.durable a) ≡ false
      gone = ap (λ d. is_some (entry_of d a)) (refused on) ∙ ap is_some (entry-aborted a b.durable)

  -- one that is to an earlier incarnation changes nothing
  late-quiet : (b : Kept) → (inc == b.durable.incarnation) ≡ false → (ack_heard l.from.number a inc refusal (L b) ≡ quietly (L b)) × (is_refusing l.from.number a inc refusal (L b) ≡ false)
  unfolding ack_heard is_awaited
  late-quiet b off = (
    ap (λ (q : Bool). if q then answer_if_awaited l.from.number a refusal (entry_led a (L b)) (undecided_of a (L b)) (L b) else quietly (L b)) off,
    ap (λ (q : Bool). (q && is_awaited_of l.from.number (entry_led a (L b)) (undecided_of a (L b))) && is_some refusal) off,
  )

  ack-late : (b k : Kept) (p : Ongoing r h (V b)) (st : LeaderStep) → b.durable ≡ s.durable → (inc == b.durable.incarnation) ≡ false → st ≡ quietly (L b) → k.durable ≡ b.durable → Over w v t (target_after s k (leads_on st m)) l rest (letters_of (target t) st.posts)
      → GrowsBy h (told st.posts (leads_on st m) k) later → Ongoing r later v
  ack-late b k p st begun off is2 same over g =
      ack-ignored b p (target_after s k m) [] (subst (λ q. Over w v t (target_after s k (leads_on q m)) l rest (letters_of (target t) q.posts)) is2 over) (no-letters [] refl)
      (works-on b k m (ap (λ d. d.incarnation) same) refl) same (quiet-fate b k m begun same refl (subst (λ q. GrowsBy h (told q.posts (leads_on q m) k) later) is2 g)) refl (inr (λ same'. number-apart off same')) refl
    where
      number-apart : (inc == b.durable.incarnation) ≡ false → b.durable.incarnation ≡ inc → ⊥
      number-apart off same' = let no : ⊥ = grind (arith, nat_tests) in no

  pub ack-ends : ((e f : Epoch) → Has (a, e) w.issued → Has (a, f) w.issued → e ≡ f) → (stage : AckStage) (k : Kept) (after : TargetMemory × Did) → AckEnds m stage k after → AtAck stage k → Over w v t (target_after s k after.0) l rest (letters_of (target t) after.1.posts)
      → GrowsBy h (told after.1.posts after.0 k) later → Ongoing r later v
  ack-ends one stage k after (IsFollowed k2 st after2 ends) p over g = by (inc == p.before.durable.incarnation) refl
    where
      over2 : Over w v t (target_after s k2 (leads_on st m)) l rest (letters_of (target t) st.posts)
      over2 = subst (λ i. Over w v t (target_after s k2 i.0) l rest (letters_of (target t) i.1.posts)) ends over

      g2 : GrowsBy h (told st.posts (leads_on st m) k2) later
      g2 = subst (λ i. GrowsBy h (told i.1.posts i.0 k2) later) ends g

      by : (b : Bool) → (inc == p.before.durable.incarnation) ≡ b → Ongoing r later v
      by true own = ack-done one p.before k2 p.on st p.begun (number-is own) (subst (AckIs l.from.number a inc refusal (L p.before)) (sym p.step) (view p.before p.on own)) p.refused p.other over2 g2
        where
          number-is : (inc == p.before.durable.incarnation) ≡ true → p.before.durable.incarnation ≡ inc
          number-is own = grind (arith, nat_tests)
      by false off = let q = late-quiet p.before off in ack-late p.before k2 p.on st p.begun off (p.step ∙ q.0) (p.other q.1) over2 g2

  -- what follows an Ack answers nothing that a target asked
  done-spoken : (b : Kept) (p : Ongoing r h (V b)) (st : LeaderStep) → AckIs l.from.number a inc refusal (L b) st → AreSpoken st.posts
  done-spoken b p st (Ignored unawaited off) q i = absurd i
  done-spoken b p st (Counted e u awaited well off) q i = absurd i
  done-spoken b p st (Decides e u awaited well off all) q i = ended-some u.client a e.epoch Committed (waits-client b p e u awaited) q i
  done-spoken b p st (Refuses e u how awaited refuses on) q i =
      both-spoken (ended u.client a e.epoch how) (map (abort_to b.durable.incarnation a) (other_members e)) (ended-some u.client a e.epoch how (waits-client b p e u awaited)) (aborts-spoken b.durable.incarnation a (other_members e)) q i

  pub ack-speaks : (stage : AckStage) (k : Kept) (after : TargetMemory × Did) → AckEnds m stage k after → AtAck stage k → AreSpoken after.1.posts
  ack-speaks stage k after (IsFollowed k2 st after2 ends) p = subst (λ i. AreSpoken i.1.posts) (sym ends) (by (inc == p.before.durable.incarnation) refl)
    where
      by : (b : Bool) → (inc == p.before.durable.incarnation) ≡ b → AreSpoken st.posts
      by true own = done-spoken p.before p.on st (subst (AckIs l.from.number a inc refusal (L p.before)) (sym p.step) (view p.before p.on own))
      by false off = subst (λ q. AreSpoken q.posts) (sym (p.step ∙ (late-quiet p.before off).0)) (λ q i. absurd i)

  -- ---- what is told where the client waits

  led-at : (b : Kept) (p : Ongoing r h (V b)) (e : Entry) (u : Undecided) → b.durable ≡ s.durable → IsAwaited a (L b) e u → entry_of s.durable a ≡ Some e
  led-at b p e u begun awaited = ap (λ d. entry_of d a) (sym begun) ∙ (led-found (target_plan r t) m b.durable a e (rising b p) awaited.led).0

  -- the client that waits is told the end
  waited-end : (u : Undecided) (e : Entry) (end : Outcome) → (c : ActorId) × (u.client ≡ Some c) → (posts all : List Post) → ((q : Post) → Has q (ended u.client a e.epoch end) → Has q posts) → all ≡ posts ++ told_end a (Some e.epoch) end ∷ []
      → (x : AttemptId) (own : Option Epoch) (how : Outcome) → Tells all x own how → Tells posts x own how
  waited-end u e end c posts all among is x own how tells = elim (has-cases posts (told_end a (Some e.epoch) end ∷ []) (ended_post tells.to x own how) (subst (Has (ended_post tells.to x own how)) is tells.sent)) [
    | inl j ↦ record { to = tells.to; sent = j }
    | inr (inl same) ↦
        let said : message.Ended x own how ≡ message.Ended a (Some e.epoch) end = ap (λ i. i.message) same in
        let is-x : a ≡ x = cc in
        let is-own : Some e.epoch ≡ own = cc in
        let is-how : end ≡ how = cc in
        subst (λ y. Tells posts y own how) is-x (subst (λ y. Tells posts a y how) is-own (subst (λ y. Tells posts a (Some e.epoch) y) is-how its))
    | inr (inr none) ↦ absurd none
  ]
    where
      its : Tells posts a (Some e.epoch) end
      its = record { to = c.0; sent = among (ended_post c.0 a (Some e.epoch) end) (subst (λ o. Has (ended_post c.0 a (Some e.epoch) end) (ended o a e.epoch end)) (sym c.1) (inl refl)) }

  -- where a client waits for an attempt with a row, what is told of it is sent
  waited-done : (b k : Kept) (p : Ongoing r h (V b)) (st : LeaderStep) → b.durable ≡ s.durable → AckIs l.from.number a inc refusal (L b) st
      → (is_refusing l.from.number a inc refusal (L b) ≡ true → k.durable ≡ settled a Abort b.durable) → (is_refusing l.from.number a inc refusal (L b) ≡ false → k.durable ≡ b.durable)
      → ((u : Undecided) → row_of undecided_attempt a m.leader.undecided ≡ Some u → (c : ActorId) × (u.client ≡ Some c)) → (x : AttemptId) (own : Option Epoch) (how : Outcome) → Tells (told st.posts (leads_on st m) k) x own how → Tells st.posts x own how
  waited-done b k p st begun (Ignored unawaited off) refused same waits x own how tells = subst (λ ps. Tells ps x own how) (quiet-told b k m begun (same off) refl) tells
  waited-done b k p st begun (Counted e u awaited well off) refused same waits x own how tells = subst (λ ps. Tells ps x own how) (quiet-told b k (leads_on st m) begun (same off) refl) tells
  waited-done b k p st begun (Decides e u awaited well off all) refused same waits x own how tells =
      waited-end u e Committed (waits u awaited.row) (ended u.client a e.epoch Committed) (told (ended u.client a e.epoch Committed) (leads_on st m) k) (λ q i. i)
      (ap (λ ps. ended u.client a e.epoch Committed ++ ps)
      (silent-decides a refusal (entry_of s.durable a) e (is_among a m.leader.decided) (is_among a (leads_on st m).leader.decided) (is_some (entry_of k.durable a)) (led-at b p e u begun awaited) (row-unknown b p e u awaited) (among-new a m.leader.decided)))
      x own how tells
  waited-done b k p st begun (Refuses e u end awaited refuses on) refused same waits x own how tells =
      waited-end u e end (waits u awaited.row) (ended u.client a e.epoch end ++ map (abort_to b.durable.incarnation a) (other_members e))
      (told (ended u.client a e.epoch end ++ map (abort_to b.durable.incarnation a) (other_members e)) (leads_on st m) k) (λ q i. has-left (ended u.client a e.epoch end) (map (abort_to b.durable.incarnation a) (other_members e)) q i)
      (ap (λ ps. (ended u.client a e.epoch end ++ map (abort_to b.durable.incarnation a) (other_members e)) ++ ps)
      (silent-refuses a refusal end (entry_of s.durable a) e (is_among a m.leader.decided) (is_among a m.leader.decided) (is_some (entry_of k.durable a)) (led-at b p e u begun awaited) (row-unknown b p e u awaited)
      (ap (λ d. is_some (entry_of d a)) (refused on) ∙ ap is_some (entry-aborted a b.durable)) refuses))
      x own how tells

  pub ack-waited : (stage : AckStage) (k : Kept) (after : TargetMemory × Did) → AckEnds m stage k after → AtAck stage k → ((u : Undecided) → row_of undecided_attempt a m.leader.undecided ≡ Some u → (c : ActorId) × (u.client ≡ Some c))
      → (x : AttemptId) (own : Option Epoch) (how : Outcome) → Tells (told after.1.posts after.0 k) x own how → Tells after.1.posts x own how
  ack-waited stage k after (IsFollowed k2 st after2 ends) p waits x own how tells = subst (λ i. Tells i.1.posts x own how) (sym ends) (by (inc == p.before.durable.incarnation) refl)
    where
      tells2 : Tells (told st.posts (leads_on st m) k2) x own how
      tells2 = subst (λ i. Tells (told i.1.posts i.0 k2) x own how) ends tells

      by : (b : Bool) → (inc == p.before.durable.incarnation) ≡ b → Tells st.posts x own how
      by true own2 = waited-done p.before k2 p.on st p.begun (subst (AckIs l.from.number a inc refusal (L p.before)) (sym p.step) (view p.before p.on own2)) p.refused p.other waits x own how tells2
      by false off =
          let q = late-quiet p.before off in
          subst (λ i. Tells i.posts x own how) (sym (p.step ∙ q.0)) (subst (λ ps. Tells ps x own how) (quiet-told p.before k2 m p.begun (p.other q.1) refl) (subst (λ i. Tells (told i.posts (leads_on i m) k2) x own how) (p.step ∙ q.0) tells2))
