-- An entry that was stored when its target stopped, at another member or at the leader, keeps the facts of attempts.
use Rattle.std.specs.Prelude.{ℕ, ◌≡◌, true, List, slice_get, Some, None, refl}
use Rattle.std.proofs.Common.{sym, ◌∙◌, ap, subst, arith, inl, inr}
use Rattle.base_types.specs.declared.entry.Entry.{Entry}
use Rattle.base_types.specs.declared.epoch.Epoch.{Epoch}
use Rattle.base_types.specs.declared.id.AttemptId.{AttemptId}
use Rattle.base_types.specs.declared.operation.MinorWrite.{MinorWrite}
use Rattle.model_laws.specs.Members.{Has}
use Rattle.daos_model.specs.Changes.{prepared}
use Rattle.daos_model.specs.Durables.{entry_key, entry_of}
use Rattle.daos_model.specs.EntryLaws.{entry_of-prepared}
use Rattle.daos_model.specs.Ordered.{is_rising}
use Rattle.dtx_base.specs.declared.leading.Undecided.{Undecided}
use Rattle.dtx_base.specs.Members.{has_target}
use Rattle.dtx_base.specs.Rows.{itself, row_key}
use Rattle.world_commit.specs.attempts.Attempts.{IsBorn, IsItsEntry, IsOrdered, IsOther, entry_at, first_entry, is_known_at, is_prepare_to, leader_of, row_at}
use Rattle.world_commit.specs.attempts.Frames.{same-itself}
use Rattle.world_commit.specs.attempts.History.{Aborted, Decided, History}
use Rattle.world_commit.specs.attempts.MemberBits.{has-none, other-no_leader}
use Rattle.world_commit.specs.attempts.Stored.{rising-prepared}
use Rattle.world_commit.specs.attempts.Turning.{one-or_another}
use Rattle.world_commit.specs.fates.Answering.{IsStored, PrepareTaken, member-stores, stored-held, stored-settled}
use Rattle.world_commit.specs.fates.Beginning.{unborn-entry, unborn-row, unborn-undecided, unborn-unknown}
use Rattle.world_commit.specs.fates.Concerns.{Spare, no-prepare}
use Rattle.world_commit.specs.fates.Facts.{Attempt, Attempts, RunsAt}
use Rattle.world_commit.specs.fates.Settling.{RowsStay}
use Rattle.world_commit.specs.fates.Talks.{spared-talks, spared-tries, unborn-spared}
use Rattle.world_commit.specs.stops.Lately.{Finds, finding-keeps, found-before, found-here, found-known, found-lives, found-row, found-there, same-mail}
use Rattle.world_base.specs.declared.letter.Letter.{Letter}
use Rattle.world_base.specs.declared.target.Life.TheVariants.{Running}
use Rattle.world_base.specs.declared.target.TargetState.{TargetState}
use Rattle.world_base.specs.declared.world.World.{World}
use Rattle.world_base.specs.EntryLaws.{entry-prepared_other}
use Rattle.world_base.specs.Events.{Rules}
use Rattle.world_base.specs.StepLaws.{set-here}

module _ (r : Rules) (h : History) (w v : World) (t : ℕ) (s z : TargetState) (f : Finds w v t s z) (e : Entry) (ws : List MinorWrite) (durable : z.durable ≡ prepared e ws s.durable) (absent : entry_of s.durable e.attempt ≡ None) (k : Attempts r h w) where
  others-stay : (x : AttemptId) → (x ≡ e.attempt → ⊥) → entry_of z.durable x ≡ entry_of s.durable x
  others-stay x off = ap (λ d. entry_of d x) durable ∙ entry-prepared_other e ws s.durable x off

  none-before : entry_at w t e.attempt ≡ None
  none-before = found-before w v t s z f e.attempt ∙ absent

  new-here : entry_at v t e.attempt ≡ Some e
  new-here = found-here w v t s z f e.attempt ∙ ap (λ d. entry_of d e.attempt) durable ∙ entry_of-prepared e ws s.durable absent

  ordered : IsOrdered z
  ordered = record {
    entries = subst (λ d. is_rising entry_key d.entries ≡ true) (sym durable) (rising-prepared e ws s.durable absent (k.on.ordered t s f.here).entries);
    decided = subst (λ m. is_rising (row_key itself) m.leader.decided ≡ true) (sym f.memory) (k.on.ordered t s f.here).decided;
  }

  rows : RowsStay w v e.attempt
  rows = record { row = λ u. found-row w v t s z f u e.attempt; known = λ u. found-known w v t s z f u e.attempt }

  -- ---- at another member, to which no Prepare of it is in flight any more

  pub late-member : IsOther r e.attempt t → e ≡ first_entry r e.attempt e.epoch → Has (e.attempt, e.epoch) w.issued → IsBorn r h w e.attempt → ((l : Letter) → Has l w.messages → is_prepare_to e.attempt t l ≡ true → ⊥) → Attempts r h v
  late-member other first issued born none =
      finding-keeps w v t s z f r h h e.attempt others-stay (λ x off. same-itself h x)
      (record {
        decided = λ d i. i;
        aborted = λ a. a;
        held = λ u i. inl (stored-held r h h w v e.attempt t e stored u i);
        settled = λ u i. inl (stored-settled r h h w v e.attempt t e stored u i);
      })
      (member-stores r h h w v e.attempt t e stored (other-no_leader r e.attempt t other) taken (found-lives w v t s z f) (same-itself h e.attempt) rows born (k.on.each e.attempt)) ordered k
    where
      stored : IsStored r v w e.attempt t e
      stored = record {
        before = none-before;
        now = new-here;
        elsewhere = λ u off. found-there w v t s z f u e.attempt off;
        its = record {
          attempt = refl;
          leader = ap (λ i. i.leader) first;
          members = ap (λ i. i.members) first;
          issued = subst (Has (e.attempt, e.epoch)) (sym (ap (λ u. u.issued) f.after)) issued;
          place = inr other;
        };
        prepared = ap (λ i. i.committed) first;
      }

      taken : PrepareTaken r h w v e.attempt t
      taken = record { mail = same-mail w v t s z f r h e.attempt; last = λ l i is. none l (subst (Has l) (ap (λ u. u.messages) f.after) i) is }

  -- ---- at the leader, which doesn't run

  pub late-leader : t ≡ leader_of r e.attempt → e ≡ first_entry r e.attempt e.epoch → Has (e.attempt, e.epoch) w.issued → (Aborted h e.attempt → ⊥) → (z.life ≡ Running → ⊥) → Attempts r h v
  late-leader leads first issued unended stopped =
      finding-keeps w v t s z f r h h e.attempt others-stay (λ x off. same-itself h x)
      (record { decided = λ d i. i; aborted = λ a. a; held = λ u i. absurd (no-entry u i.entry i.found); settled = λ u i. absurd (no-entry u i.entry i.found) }) attempt ordered k
    where
      unstored : entry_at w (leader_of r e.attempt) e.attempt ≡ None
      unstored = subst (λ u. entry_at w u e.attempt ≡ None) leads none-before

      no-entry : (u : ℕ) (i : Entry) → entry_at w u e.attempt ≡ Some i → ⊥
      no-entry u i at = unborn-entry r h w e.attempt (k.on.each e.attempt) unstored unended u i at

      undecided : (d : Epoch) → Decided h e.attempt d → ⊥
      undecided d is = unborn-undecided r h w e.attempt (k.on.each e.attempt) unstored unended d is

      not-born : IsBorn r h w e.attempt → ⊥
      not-born (inl i) = no-entry (leader_of r e.attempt) i.entry i.found
      not-born (inr a) = unended a

      unsaid : Spare e.attempt w.messages
      unsaid = unborn-spared r h w e.attempt k.on not-born

      silent : Spare e.attempt v.messages
      silent l i = unsaid l (subst (Has l) (ap (λ u. u.messages) f.after) i)

      now-leader : entry_at v (leader_of r e.attempt) e.attempt ≡ Some e
      now-leader = subst (λ u. entry_at v u e.attempt ≡ Some e) leads new-here

      -- it stands at the leader alone
      only : (P : ℕ → Entry → Type 0) → P t e → (u : ℕ) (i : Entry) → entry_at v u e.attempt ≡ Some i → P u i
      only P own u i at = elim (one-or_another u t) [
        | inl is ↦
            let found : Some e ≡ Some i = sym new-here ∙ ap (λ n. entry_at v n e.attempt) (sym is) ∙ at in
            subst (λ n. P n i) (sym is) (subst (P t) (let same : e ≡ i = cc in same) own)
        | inr off ↦ absurd (no-entry u i (sym (found-there w v t s z f u e.attempt off) ∙ at))
      ]

      no-row : (u : ℕ) (q : Undecided) → row_at v u e.attempt ≡ Some q → ⊥
      no-row u q at = unborn-row r h w e.attempt (k.on.each e.attempt) unstored unended u q (sym (rows.row u) ∙ at)

      unknown : (u : ℕ) → is_known_at v u e.attempt ≡ true → ⊥
      unknown u is = unborn-unknown r h w e.attempt (k.on.each e.attempt) unstored unended u (sym (rows.known u) ∙ is)

      at-rest : RunsAt v (leader_of r e.attempt) → ⊥
      at-rest runs = stopped (runs z (subst (λ u. slice_get v.targets u ≡ Some z) leads (ap (λ u. slice_get u.targets t) f.after ∙ set-here w.targets t s z f.here)))

      attempt : Attempt r h v e.attempt
      attempt = record {
        entries = record {
          one = only (λ u i. IsItsEntry r v e.attempt u i) (record {
            attempt = refl;
            leader = ap (λ i. i.leader) first;
            members = ap (λ i. i.members) first;
            issued = subst (Has (e.attempt, e.epoch)) (sym (ap (λ u. u.issued) f.after)) issued;
            place = inl leads;
          });
          born = λ u i at. inl (record { entry = e; found = now-leader });
          committed = only (λ u i. i.committed ≡ true → Decided h e.attempt i.epoch) (λ c. let off = ap (λ i. i.committed) first in let no : ⊥ = cc (c, off) in absurd no);
          confirmed = λ m i at o has.
              absurd (only (λ u j. has_target j.confirmed m ≡ true → ⊥) (λ has2. let none = ap (λ j. has_target j.confirmed m) first ∙ has-none m in (let no : ⊥ = cc (has2, none) in no)) (leader_of r e.attempt) i at has);
          held_by_leader = λ d is. absurd (undecided d is);
          held_by_others = λ d m is o. absurd (undecided d is);
          aborted = λ a. absurd (unended a);
        };
        rows = record {
          undecided = λ u q at. absurd (no-row u q at);
          unsettled = λ u is. absurd (unknown u is);
          either = λ i runs at open'. absurd (at-rest runs);
        };
        awaited = record {
          once = λ m q o at. absurd (no-row (leader_of r e.attempt) q at);
          few = λ i m o. let zero = spared-talks r v e.attempt silent i m in omega (arith, zero);
          tries = λ m o. let zero = spared-tries r v e.attempt silent m in omega (arith, zero);
          before = λ m l i is. absurd (no-prepare r e.attempt l (silent l i) m is);
          counted = λ m q o at has. absurd (no-row (leader_of r e.attempt) q at);
          firm = λ l d i is dec. undecided d dec;
        };
      }
