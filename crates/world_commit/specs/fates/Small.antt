-- Small steps of a target in the middle of a turn keep the facts: no letter moves, and nothing is told.
use Rattle.std.specs.Prelude.{ℕ, ◌≡◌, ◌^◌, bit_or, true, false, Some, refl}
use Rattle.std.proofs.Common.{sym, ◌∙◌, ap, subst, arith, inl, inr}
use Rattle.base_types.specs.declared.entry.Entry.{Entry}
use Rattle.base_types.specs.declared.entry.Settle.TheVariants.{Abort, Commit, Confirm}
use Rattle.base_types.specs.declared.epoch.Epoch.{Epoch}
use Rattle.base_types.specs.declared.id.AttemptId.{AttemptId}
use Rattle.model_laws.specs.Members.{Has}
use Rattle.daos_model.specs.Changes.{settled}
use Rattle.daos_model.specs.Durables.{entry_key, entry_of}
use Rattle.daos_model.specs.Ordered.{is_rising}
use Rattle.daos_model.specs.OrderLaws.{rising-filter}
use Rattle.dtx_base.specs.LeaderLaws.{had_or_is}
use Rattle.dtx_base.specs.Leading.{undecided_attempt}
use Rattle.dtx_base.specs.Members.{has_target, with_target}
use Rattle.dtx_base.specs.Rows.{is_among, is_other_row, itself, row_key, row_of, without_row}
use Rattle.world_commit.specs.attempts.Attempts.{IsOrdered, IsOther, IsSettled, IsUnsettled, count, entry_at, is_known_at, leader_of}
use Rattle.world_commit.specs.attempts.Frames.{same-itself}
use Rattle.world_commit.specs.attempts.History.{Aborted, Decided, History}
use Rattle.world_commit.specs.fates.Facts.{Ongoing, is_talk, is_try}
use Rattle.world_commit.specs.fates.Frames.{AskedComes, LettersCome, SameMail}
use Rattle.world_commit.specs.fates.Settling.{GoesOn, RowsStay, held-on, leader-confirms, leader-settles, member-aborts, member-goes_on, settled-on}
use Rattle.world_commit.specs.fates.Stepping.{Goes, Spared, attempts-quiet, attempts-step}
use Rattle.world_commit.specs.attempts.Stored.{among-gone, among-other, entry-committed, entry-committed_own, entry-confirmed, entry-confirmed_own, rising-aborted, rising-committed, rising-confirmed, prepared-entry}
use Rattle.world_commit.specs.fates.Turning.{Works, lives-stay}
use Rattle.world_commit.specs.attempts.Turning.{Stays, entry-before, entry-elsewhere, entry-now, known-before, known-elsewhere, known-now, known-stays, one-or_another, row-stays}
use Rattle.world_base.specs.declared.target.TargetState.{TargetState}
use Rattle.world_base.specs.declared.world.World.{World}
use Rattle.world_base.specs.Events.{Rules}
use Rattle.world_base.specs.EntryLaws.{entry-aborted, entry-aborted_other}
use Rattle.world_base.specs.Roles.{is_prepared}

-- a step changes what one target keeps and knows
pub record Midway (w v : World) (t : ℕ) (s z : TargetState) : Type 0 where
  pub works : Works w v t s z
  pub messages : v.messages ≡ w.messages
  pub asked : v.asked ≡ w.asked

module _ (r : Rules) (h : History) (w v : World) (t : ℕ) (s z : TargetState) (mid : Midway w v t s z) where
  mail : (x : AttemptId) → SameMail r h w v x
  mail x = record {
    issued = mid.works.turn.issued x;
    talks = λ inc m. ap (count (is_talk r inc x m)) mid.messages;
    tries = λ m. let same : count (is_try r x m) v.messages ≡ count (is_try r x m) w.messages = ap (count (is_try r x m)) mid.messages in omega (arith, same);
    prepares = λ m l i is. subst (Has l) mid.messages i;
    refusals = λ inc l i is. inl (subst (Has l) mid.messages i);
  }

  spared : (x : AttemptId) → Stays s z x → Spared r h h w v s z x
  spared x k = record { stays = k; fate = same-itself h x; mail = mail x }

  come : LettersCome r h w v
  come l i = inl (subst (Has l) mid.messages i)

  asked : AskedComes w v
  asked l i = inl (subst (Has l) mid.asked i)

  -- nothing is changed that an attempt's facts speak of
  pub small-quiet : ((x : AttemptId) → Stays s z x) → IsOrdered z → Ongoing r h w → Ongoing r h v
  small-quiet k ordered = attempts-quiet r h h w v t s z mid.works (λ x. spared x (k x)) come asked ordered

  -- ---- one attempt is settled

  module _ (a : AttemptId) (k : Ongoing r h w) where
    goes-on : (e f : Entry) → GoesOn r h h w v a t e f → Goes r h h w v a
    goes-on e f g = record {
      decided = λ own d. d;
      aborted = λ own. own;
      held = λ u i. inl (held-on r h h w v a t e f g u i);
      settled = λ u i. inl (settled-on r h h w v a t e f g u i);
    }

    -- its leader settles it
    pub own-settles : z.durable ≡ settled a Commit s.durable → z.memory.leader.undecided ≡ s.memory.leader.undecided → z.memory.leader.decided ≡ without_row itself a s.memory.leader.decided
        → is_among a s.memory.leader.decided ≡ true → Ongoing r h v
    own-settles durable undecided decided among =
        attempts-step r h h w v t s z mid.works a (λ x apart. spared x (others x apart)) (goes-on e f on)
        (leader-settles r h h w v a e f (subst (λ u. GoesOn r h h w v a u e f) known.here.leads on) refl (subst (λ u. is_known_at w u a ≡ true) known.here.leads here) (row-stays w v t s z mid.works.turn a (ap (row_of undecided_attempt a) undecided)) unknown (k.each a))
        come asked ordered k
      where
        others : (x : AttemptId) → (x ≡ a → ⊥) → Stays s z x
        others x apart = record {
          entry = ap (λ d. entry_of d x) durable ∙ entry-committed a s.durable x apart;
          row = ap (row_of undecided_attempt x) undecided;
          known = ap (is_among x) decided ∙ among-other x a s.memory.leader.decided apart;
        }

        here : is_known_at w t a ≡ true
        here = known-before w v t s z mid.works.turn a ∙ among

        known : IsUnsettled r h w a t
        known = (k.each a).rows.unsettled t here

        e : Entry
        e = known.here.entry

        f : Entry
        f = record e { committed = true }

        on : GoesOn r h h w v a t e f
        on = record {
          found = known.here.found;
          now = entry-now w v t s z mid.works.turn a ∙ ap (λ d. entry_of d a) durable ∙ entry-committed_own a s.durable e (sym (entry-before w v t s z mid.works.turn a) ∙ known.here.found);
          elsewhere = entry-elsewhere w v t s z mid.works.turn a;
          attempt = refl;
          epoch = refl;
          leader = refl;
          members = refl;
          stays = λ c. refl;
          committed = λ c. known.decided;
          confirmed = λ leads m o has. (k.each a).entries.confirmed m e (subst (λ u. entry_at w u a ≡ Some e) leads known.here.found) o has;
          fate = same-itself h a;
          mail = mail a;
          lives = lives-stay w v t s z mid.works;
        }

        unknown : (u : ℕ) → is_known_at v u a ≡ true → ⊥
        unknown u is = elim (one-or_another u t) [
          | inl same ↦
              let gone : is_known_at v u a ≡ false = ap (λ n. is_known_at v n a) same ∙ known-now w v t s z mid.works.turn a ∙ ap (is_among a) decided ∙ among-gone a s.memory.leader.decided in
              let no : ⊥ = cc (is, gone) in
              absurd no
          | inr apart ↦
              let z2 = (k.each a).rows.unsettled u (sym (known-elsewhere w v t s z mid.works.turn a u apart) ∙ is) in
              absurd (apart (z2.here.leads ∙ sym known.here.leads))
        ]

        ordered : IsOrdered z
        ordered = record {
          entries = subst (λ d. is_rising entry_key d.entries ≡ true) (sym durable) (rising-committed a s.durable (k.ordered t s mid.works.turn.here).entries);
          decided = subst (λ ids. is_rising (row_key itself) ids ≡ true) (sym decided) (rising-filter (row_key itself) (is_other_row itself a) s.memory.leader.decided (k.ordered t s mid.works.turn.here).decided);
        }

    module _ (leader : z.memory.leader ≡ s.memory.leader) where
      rows-stay : RowsStay w v a
      rows-stay = record {
        row = row-stays w v t s z mid.works.turn a (ap (λ l. row_of undecided_attempt a l.undecided) leader);
        known = known-stays w v t s z mid.works.turn a (ap (λ l. is_among a l.decided) leader);
      }

      others-stay : (x : AttemptId) → entry_of z.durable x ≡ entry_of s.durable x → Stays s z x
      others-stay x entry = record { entry = entry; row = ap (λ l. row_of undecided_attempt x l.undecided) leader; known = ap (λ l. is_among x l.decided) leader }

      stays-ordered : is_rising entry_key z.durable.entries ≡ true → IsOrdered z
      stays-ordered entries = record { entries = entries; decided = subst (λ l. is_rising (row_key itself) l.decided ≡ true) (sym leader) (k.ordered t s mid.works.turn.here).decided }

      -- another member commits it
      pub other-commits : z.durable ≡ settled a Commit s.durable → IsOther r a t → (leader_of r a ≡ t → ⊥) → (own : Epoch) → Decided h a own → is_prepared a s.durable ≡ true → Ongoing r h v
      other-commits durable other apart own d is =
          attempts-step r h h w v t s z mid.works a (λ x off. spared x (others-stay x (ap (λ d. entry_of d x) durable ∙ entry-committed a s.durable x off))) (goes-on e f on)
          (member-goes_on r h h w v a t e f on apart rows-stay (k.each a)) come asked
          (stays-ordered (subst (λ d. is_rising entry_key d.entries ≡ true) (sym durable) (rising-committed a s.durable (k.ordered t s mid.works.turn.here).entries))) k
        where
          there : (e : Entry) × (entry_of s.durable a ≡ Some e) × (e.committed ≡ false)
          there = prepared-entry a s.durable is

          e : Entry
          e = there.0

          f : Entry
          f = record e { committed = true }

          found : entry_at w t a ≡ Some e
          found = entry-before w v t s z mid.works.turn a ∙ there.1

          epoch : own ≡ e.epoch
          epoch = let held = (k.each a).entries.held_by_others own t d other in let one : Some held.entry ≡ Some e = sym held.found ∙ found in let same : held.entry ≡ e = cc in sym held.epoch ∙ ap (λ i. i.epoch) same

          on : GoesOn r h h w v a t e f
          on = record {
            found = found;
            now = entry-now w v t s z mid.works.turn a ∙ ap (λ d. entry_of d a) durable ∙ entry-committed_own a s.durable e there.1;
            elsewhere = entry-elsewhere w v t s z mid.works.turn a;
            attempt = refl;
            epoch = refl;
            leader = refl;
            members = refl;
            stays = λ c. refl;
            committed = λ c. subst (Decided h a) epoch d;
            confirmed = λ leads m o has. absurd (apart (sym leads));
            fate = same-itself h a;
            mail = mail a;
            lives = lives-stay w v t s z mid.works;
          }

      -- another member takes its entry away
      pub other-aborts : z.durable ≡ settled a Abort s.durable → Aborted h a → Ongoing r h v
      other-aborts durable gone =
          attempts-step r h h w v t s z mid.works a (λ x off. spared x (others-stay x (ap (λ d. entry_of d x) durable ∙ entry-aborted_other a s.durable x off)))
          (record { decided = λ own d. d; aborted = λ own. own; held = λ u i. inr gone; settled = λ u i. inr gone })
          (member-aborts r h h w v a t gone (same-itself h a) (mail a) rows-stay (entry-now w v t s z mid.works.turn a ∙ ap (λ d. entry_of d a) durable ∙ entry-aborted a s.durable) (entry-elsewhere w v t s z mid.works.turn a) (k.each a))
          come asked (stays-ordered (subst (λ d. is_rising entry_key d.entries ≡ true) (sym durable) (rising-aborted a s.durable (k.ordered t s mid.works.turn.here).entries))) k

      -- its leader, which has committed it, confirms that a member has
      pub own-confirms : (m : ℕ) → z.durable ≡ settled a (Confirm m) s.durable → t ≡ leader_of r a → (e : Entry) → entry_of s.durable a ≡ Some e → e.committed ≡ true → IsSettled w m a → Ongoing r h v
      own-confirms m durable leads e there committed is =
          attempts-step r h h w v t s z mid.works a (λ x off. spared x (others-stay x (ap (λ d. entry_of d x) durable ∙ entry-confirmed a m s.durable x off))) (goes-on e f on)
          (leader-confirms r h h w v a e f (subst (λ u. GoesOn r h h w v a u e f) leads on) committed rows-stay (k.each a)) come asked
          (stays-ordered (subst (λ d. is_rising entry_key d.entries ≡ true) (sym durable) (rising-confirmed a m s.durable (k.ordered t s mid.works.turn.here).entries))) k
        where
          f : Entry
          f = record e { confirmed = bit_or e.confirmed (2 ^ m) }

          found : entry_at w t a ≡ Some e
          found = entry-before w v t s z mid.works.turn a ∙ there

          confirmed : t ≡ leader_of r a → (n : ℕ) → IsOther r a n → has_target (with_target e.confirmed m) n ≡ true → IsSettled w n a
          confirmed leads n o has = elim (had_or_is e.confirmed m n has) [
            | inl same ↦ subst (λ u. IsSettled w u a) (sym same) is
            | inr before ↦ (k.each a).entries.confirmed n e (subst (λ u. entry_at w u a ≡ Some e) leads found) o before
          ]

          on : GoesOn r h h w v a t e f
          on = record {
            found = found;
            now = entry-now w v t s z mid.works.turn a ∙ ap (λ d. entry_of d a) durable ∙ entry-confirmed_own a m s.durable e there;
            elsewhere = entry-elsewhere w v t s z mid.works.turn a;
            attempt = refl;
            epoch = refl;
            leader = refl;
            members = refl;
            stays = λ c. c;
            committed = λ c. (k.each a).entries.committed t e found c;
            confirmed = confirmed;
            fate = same-itself h a;
            mail = mail a;
            lives = lives-stay w v t s z mid.works;
          }
