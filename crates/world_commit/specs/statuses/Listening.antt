-- A target hears something by which all that it keeps stays. Who waits for an attempt may change, who is asked for it, and what the target
-- knows to be down.
use Rattle.std.specs.Prelude.{ℕ, zero, suc, ◌≡◌, ◌⊎◌, ◌+◌, ◌≤◌, Bool, true, false, List, [], ◌∷◌, map, slice_get, Option, Some, None, refl}
use Rattle.std.specs.Option.{option_map}
use Rattle.std.proofs.Common.{sym, ◌∙◌, ap, subst, arith, inl, inr}
use Rattle.base_types.specs.declared.epoch.Epoch.{Epoch}
use Rattle.base_types.specs.declared.id.AttemptId.{AttemptId}
use Rattle.model_laws.specs.Members.{Has}
use Rattle.base_messages.specs.declared.actor.ActorId.{ActorId}
use Rattle.daos_model.specs.BoolLaws.{clash}
use Rattle.daos_model.specs.Durables.{entry_key, entry_of}
use Rattle.daos_model.specs.Ordered.{is_rising}
use Rattle.dtx_base.specs.declared.leading.Undecided.{Undecided}
use Rattle.dtx_base.specs.LeaderLaws.{same-is}
use Rattle.dtx_base.specs.Leading.{undecided_attempt}
use Rattle.dtx_base.specs.Members.{has_target}
use Rattle.dtx_base.specs.RowLaws.{row-is, row-map}
use Rattle.dtx_base.specs.Rows.{is_among, itself, row_key, row_of}
use Rattle.world_commit.specs.attempts.Attempts.{IsOrdered, count, inc_at, is_known_at, is_prepare_to, leader_of, one_if, row_at}
use Rattle.world_commit.specs.attempts.Counting.{count-none}
use Rattle.world_commit.specs.attempts.History.{Decided, History}
use Rattle.world_commit.specs.attempts.Turning.{Turned, elsewhere, entry-stays, inc-stays, known-stays, now, one-or_another, row-before, row-elsewhere, row-now, at_work}
use Rattle.world_commit.specs.fates.Concerns.{Spare, no-prepare, no-refusal, no-talk, no-try}
use Rattle.world_commit.specs.fates.Facts.{Awaited, IsOneUnless, IsQuiet, IsSaidSo, Ongoing, Rows, RunsAt, down_in, is_talk, is_try, knows_down, preparing, refuses_for, talking}
use Rattle.world_commit.specs.fates.Frames.{AskedComes, LettersCome, asked-still, letters-on}
use Rattle.world_commit.specs.fates.Overs.{Over, over-asked, over-counts, over-letters}
use Rattle.world_commit.specs.fates.Talks.{prepare-between}
use Rattle.world_commit.specs.stops.Parts.{KeepsEntries, all-now, entries-stay, grows-still, held-stays, open-stays}
use Rattle.world_base.specs.declared.letter.Letter.{Letter}
use Rattle.world_base.specs.declared.target.Life.TheVariants.{Running}
use Rattle.world_base.specs.declared.target.TargetState.{TargetState}
use Rattle.world_base.specs.declared.world.World.{World}
use Rattle.world_base.specs.Events.{Rules}
use Rattle.world_base.specs.Letters.{client}
use Rattle.world_base.specs.StepLaws.{set-here, set-twice}

-- ---- what may change

-- what a running target keeps stays, and what it has decided; what it knows to be down may grow
pub record Listens (w v : World) (t : ℕ) (s z : TargetState) : Type 0 where
  pub turn : Turned w v t s z
  pub runs : s.life ≡ Running
  pub life : z.life ≡ s.life
  pub durable : z.durable ≡ s.durable
  pub decided : z.memory.leader.decided ≡ s.memory.leader.decided
  pub down : (m : ℕ) → has_target s.memory.leader.down m ≡ true → has_target z.memory.leader.down m ≡ true

-- a row was there, with the same count; who waits waited before, or is the attempt's client
pub record WasRow (x : AttemptId) (o : Option Undecided) (q : Undecided) : Type 0 where
  pub row : Undecided
  pub found : o ≡ Some row
  pub counted : q.counted ≡ row.counted
  pub waits : (c : ActorId) → q.client ≡ Some c → (c ≡ client x.client) ⊎ (row.client ≡ Some c)

-- an attempt's row stays, but for who waits
pub record RowGoesOn (x : AttemptId) (o p : Option Undecided) : Type 0 where
  pub was : (q : Undecided) → p ≡ Some q → WasRow x o q
  pub stays : (u : Undecided) → o ≡ Some u → (q : Undecided) × (p ≡ Some q)

-- As many letters ask for an attempt, or answer, or fewer: where its leader is of an earlier incarnation, or knows that the member is down.
-- One that refuses was there, or the attempt isn't decided.
pub record MailFalls (r : Rules) (h : History) (w v : World) (x : AttemptId) : Type 0 where
  pub talks : (inc m : ℕ) → talking r inc v x m ≤ talking r inc w x m
  pub present : (m : ℕ) → (talking r (inc_at w (leader_of r x)) v x m ≡ talking r (inc_at w (leader_of r x)) w x m) ⊎ (knows_down v (leader_of r x) m ≡ true)
  pub tries : (m : ℕ) → preparing r v x m ≤ preparing r w x m
  pub prepares : (m : ℕ) (l : Letter) → Has l v.messages → is_prepare_to x m l ≡ true → Has l w.messages
  pub refusals : (inc : ℕ) (l : Letter) → Has l v.messages → refuses_for inc x l.message ≡ true → Has l w.messages ⊎ ((e : Epoch) → Decided h x e → ⊥)

-- ---- rows

-- a row is as it was
pub row-same : (x : AttemptId) (o p : Option Undecided) → p ≡ o → RowGoesOn x o p
row-same x o p same = record {
  was = λ q is. record { row = q; found = sym same ∙ is; counted = refl; waits = λ c on. inr on };
  stays = λ u is. (u, same ∙ is);
}

-- rows change in who waits alone
pub rows-go_on : (f : Undecided → Undecided) (us : List Undecided) (x : AttemptId) → ((u : Undecided) → undecided_attempt (f u) ≡ undecided_attempt u) → ((u : Undecided) → (f u).counted ≡ u.counted)
    → ((u : Undecided) (c : ActorId) → undecided_attempt u ≡ x → (f u).client ≡ Some c → (c ≡ client x.client) ⊎ (u.client ≡ Some c)) → RowGoesOn x (row_of undecided_attempt x us) (row_of undecided_attempt x (map f us))
rows-go_on f us x same counted waits = subst (RowGoesOn x (row_of undecided_attempt x us)) (sym (row-map undecided_attempt f same x us)) (by (row_of undecided_attempt x us) refl)
  where
    by : (o : Option Undecided) → row_of undecided_attempt x us ≡ o → RowGoesOn x o (option_map f o)
    by None at = record { was = λ q is. let no : ⊥ = cc in absurd no; stays = λ u is. let no : ⊥ = cc in absurd no }
    by (Some u) at = record { was = λ q is. let one : f u ≡ q = cc in subst (WasRow x (Some u)) one own; stays = λ q is. (f u, refl) }
      where
        its : undecided_attempt u ≡ x
        its = same-is (undecided_attempt u) x (row-is undecided_attempt x us u at)

        own : WasRow x (Some u) (f u)
        own = record { row = u; found = refl; counted = counted u; waits = λ c on. waits u c its on }

-- ---- one member

-- where fewer ask and answer, exactly one does or is counted, or none of a member that is down
one-less : (b d : Bool) (n k c : ℕ) → (b ≡ true → d ≡ true) → k ≤ n → (k ≡ n) ⊎ (d ≡ true) → IsOneUnless b (n + c) → IsOneUnless d (k + c)
one-less b d n k c more le (inl same) (inl one) = inl (omega (arith, same, one))
one-less b d n k c more le (inl same) (inr z) = let none = z.0 in inr (omega (arith, same, none), more z.1)
one-less b d n k c more le (inr down) (inr z) = let none = z.0 in inr (omega (arith, le, none), down)
one-less b d n k c more le (inr down) (inl one) = small (k + c) (omega (arith, le, one))
  where
    small : (i : ℕ) → i ≤ 1 → (i ≡ 1) ⊎ ((i ≡ 0) × (d ≡ true))
    small zero few = inr (refl, down)
    small (suc zero) few = inl (omega arith)
    small (suc (suc i)) few = let no : ⊥ = omega (arith, few) in absurd no

-- ---- entries

entries-kept : (w v : World) (t : ℕ) (s z : TargetState) → Turned w v t s z → z.durable ≡ s.durable → KeepsEntries w v
entries-kept w v t s z turn durable = record {
  entry = λ u x. entry-stays w v t s z turn x (ap (λ d. entry_of d x) durable) u;
  issued = turn.issued;
  incarnation = λ u. let same = inc-stays w v t s z turn u in omega (arith, same);
}

-- ---- the law

module _ (r : Rules) (h : History) (w v : World) (t : ℕ) (s z : TargetState) (k : Listens w v t s z) where
  keeps : KeepsEntries w v
  keeps = entries-kept w v t s z k.turn k.durable

  known-same : (u : ℕ) (x : AttemptId) → is_known_at v u x ≡ is_known_at w u x
  known-same u x = known-stays w v t s z k.turn x (ap (is_among x) k.decided) u

  runs-on : (u : ℕ) → RunsAt v u → RunsAt w u
  runs-on u runs y at = elim (one-or_another u t) [
    | inl here ↦
        let own : Some s ≡ Some y = sym k.turn.here ∙ ap (slice_get w.targets) (sym here) ∙ at in
        let one : s ≡ y = cc in
        ap (λ q. q.life) (sym one) ∙ k.runs
    | inr other ↦ runs y (elsewhere w v t s z k.turn u other ∙ at)
  ]

  down-on : (u m : ℕ) → knows_down w u m ≡ true → knows_down v u m ≡ true
  down-on u m is = elim (one-or_another u t) [
    | inl here ↦
        subst (λ n. knows_down v n m ≡ true) (sym here)
        (ap (λ o. down_in o m) (now w v t s z k.turn) ∙ k.down m (sym (ap (λ o. down_in o m) k.turn.here) ∙ subst (λ n. knows_down w n m ≡ true) here is))
    | inr other ↦ ap (λ o. down_in o m) (elsewhere w v t s z k.turn u other) ∙ is
  ]

  -- ---- one attempt

  module _ (x : AttemptId) (row : RowGoesOn x (row_of undecided_attempt x s.memory.leader.undecided) (row_of undecided_attempt x z.memory.leader.undecided)) where
    was-row : (u : ℕ) (q : Undecided) → row_at v u x ≡ Some q → WasRow x (row_at w u x) q
    was-row u q at = elim (one-or_another u t) [
      | inl here ↦
          subst (λ n. WasRow x (row_at w n x) q) (sym here)
          (subst (λ o. WasRow x o q) (sym (row-before w v t s z k.turn x)) (row.was q (sym (row-now w v t s z k.turn x) ∙ subst (λ n. row_at v n x ≡ Some q) here at)))
      | inr other ↦ record { row = q; found = sym (row-elsewhere w v t s z k.turn x u other) ∙ at; counted = refl; waits = λ c on. inr on }
    ]

    row-still : (u : ℕ) (p : Undecided) → row_at w u x ≡ Some p → (q : Undecided) × (row_at v u x ≡ Some q)
    row-still u p at = elim (one-or_another u t) [
      | inl here ↦
          let y = row.stays p (sym (row-before w v t s z k.turn x) ∙ subst (λ n. row_at w n x ≡ Some p) here at) in
          (y.0, ap (λ n. row_at v n x) here ∙ row-now w v t s z k.turn x ∙ y.1)
      | inr other ↦ (p, row-elsewhere w v t s z k.turn x u other ∙ at)
    ]

    rows-on : Rows r h w x → Rows r h v x
    unfolding open-stays
    rows-on k0 = record {
      undecided = λ u q at.
          let y = was-row u q at in
          let o = k0.undecided u y.row y.found in
          record { here = open-stays r h w v keeps u x o.here; unknown = known-same u x ∙ o.unknown; client = λ c on. elim (y.waits c on) [ inl own ↦ own | inr before ↦ o.client c before ] };
      unsettled = λ u known. let o = k0.unsettled u (sym (known-same u x) ∙ known) in record { here = open-stays r h w v keeps u x o.here; decided = o.decided };
      either = λ e runs at open'. elim (k0.either e (runs-on (leader_of r x) runs) (sym (keeps.entry (leader_of r x) x) ∙ at) open') [
        | inl known ↦ inl (known-same (leader_of r x) x ∙ known)
        | inr y ↦ inr (row-still (leader_of r x) y.0 y.1)
      ];
    }

    inc-same : inc_at v (leader_of r x) ≡ inc_at w (leader_of r x)
    inc-same = inc-stays w v t s z k.turn (leader_of r x)

    awaited-on : MailFalls r h w v x → Awaited r h w x → Awaited r h v x
    awaited-on mail k0 = record {
      once = λ m q o at.
          let y = was-row (leader_of r x) q at in
          subst (λ i. IsOneUnless (knows_down v (leader_of r x) m) (talking r i v x m + one_if (has_target q.counted m))) (sym inc-same)
          (subst (λ n. IsOneUnless (knows_down v (leader_of r x) m) (talking r (inc_at w (leader_of r x)) v x m + one_if (has_target n m))) (sym y.counted)
          (one-less (knows_down w (leader_of r x) m) (knows_down v (leader_of r x) m) (talking r (inc_at w (leader_of r x)) w x m) (talking r (inc_at w (leader_of r x)) v x m) (one_if (has_target y.row.counted m)) (down-on (leader_of r x) m)
          (mail.talks (inc_at w (leader_of r x)) m) (mail.present m) (k0.once m y.row o y.found)));
      few = λ inc m o. let few = k0.few inc m o in let less = mail.talks inc m in omega (arith, few, less);
      tries = λ m o. let few = k0.tries m o in let less = mail.tries m in omega (arith, few, less);
      before = λ m l i is. keeps.entry m x ∙ k0.before m l (mail.prepares m l i is) is;
      counted = λ m q o at has. let y = was-row (leader_of r x) q at in held-stays r h w v keeps m x (k0.counted m y.row o y.found (sym (ap (λ n. has_target n m) y.counted) ∙ has));
      firm = λ l e i is d. elim (mail.refusals (inc_at v (leader_of r x)) l i is) [
        | inl before ↦ k0.firm l e before (subst (λ n. refuses_for n x l.message ≡ true) inc-same is) d
        | inr none ↦ none e d
      ];
    }

  -- ---- all attempts

  ordered-now : IsOrdered s → IsOrdered z
  ordered-now o = record {
    entries = subst (λ d. is_rising entry_key d.entries ≡ true) (sym k.durable) o.entries;
    decided = subst (λ ids. is_rising (row_key itself) ids ≡ true) (sym k.decided) o.decided;
  }

  pub listened : ((x : AttemptId) → RowGoesOn x (row_of undecided_attempt x s.memory.leader.undecided) (row_of undecided_attempt x z.memory.leader.undecided)) → ((x : AttemptId) → MailFalls r h w v x) → LettersCome r h w v → AskedComes w v
      → Ongoing r h w → Ongoing r h v
  listened rows mail come asked o = record {
    each = λ x.
        record { entries = entries-stay r h w v keeps x (o.each x).entries; rows = rows-on x (rows x) (o.each x).rows; awaited = awaited-on x (rows x) (mail x) (o.each x).awaited };
    letters = letters-on r h h w v (grows-still r h w v keeps) come o;
    asked = asked-still r h h w v (grows-still r h w v keeps) come o asked;
    ordered = all-now w v t s z k.turn.here k.turn.targets IsOrdered (ordered-now (o.ordered t s k.turn.here)) o.ordered;
    quiet = all-now w v t s z k.turn.here k.turn.targets IsQuiet (λ off. absurd (off (k.life ∙ k.runs))) o.quiet;
  }

-- ---- a turn that is over

module _ (r : Rules) (h : History) (w v : World) (t : ℕ) (s z : TargetState) (here : slice_get w.targets t ≡ Some s) (l : Letter) (rest ls : List Letter) (over : Over w v t z l rest ls) where
  -- what was there, and what comes
  abbrev pub V : World
  V = at_work w t s []

  pub turned : z.durable ≡ s.durable → Turned V v t s z
  turned durable = record { here = set-here w.targets t s s here; targets = over.targets ∙ sym (set-twice w.targets t s z); incarnation = ap (λ d. d.incarnation) durable; issued = over.issued }

  pub over-keeps : z.durable ≡ s.durable → KeepsEntries V v
  over-keeps durable = entries-kept V v t s z (turned durable) durable

  counts : (p : Letter → Bool) → count p v.messages + one_if (p l) ≡ count p V.messages + count p ls
  counts p = over-counts w v t s s z l rest ls over p

  came : (n : Letter) → Has n v.messages → Has n V.messages ⊎ Has n ls
  came n i = over-letters w v t s s z l rest ls over n i

  -- where those that come don't concern an attempt, none asks or answers more than before
  pub taken-falls : (x : AttemptId) → Spare x ls → ((m : ℕ) → (is_talk r (inc_at V (leader_of r x)) x m l ≡ false) ⊎ (knows_down v (leader_of r x) m ≡ true)) → MailFalls r h V v x
  taken-falls x spare falls = record {
    talks = λ inc m. let all = less (is_talk r inc x m) (λ n i. no-talk r x n (spare n i) inc m) in omega (arith, all);
    present = λ m. elim (falls m) [
      | inl off ↦
          let all = less (is_talk r (inc_at V (leader_of r x)) x m) (λ n i. no-talk r x n (spare n i) (inc_at V (leader_of r x)) m) in
          let none : one_if (is_talk r (inc_at V (leader_of r x)) x m l) ≡ 0 = ap one_if off in
          inl (omega (arith, all, none))
      | inr down ↦ inr down
    ];
    tries = λ m. let all = less (is_try r x m) (λ n i. no-try r x n (spare n i) m) in omega (arith, all);
    prepares = λ m n i is. elim (came n i) [ inl before ↦ before | inr new ↦ absurd (no-prepare r x n (spare n new) m is) ];
    refusals = λ inc n i is. elim (came n i) [ inl before ↦ inl before | inr new ↦ absurd (no-refusal r x n (spare n new) inc is) ];
  }
    where
      less : (p : Letter → Bool) → ((n : Letter) → Has n ls → p n ≡ false) → count p v.messages + one_if (p l) ≡ count p V.messages
      less p off = let all = counts p in let none = count-none p ls off in omega (arith, all, none)

  -- where one comes that asks or answers as much as the one that is taken
  pub swap-falls : (n : Letter) → ls ≡ n ∷ [] → (x : AttemptId) → ((inc m : ℕ) → is_talk r inc x m n ≡ is_talk r inc x m l) → ((m : ℕ) → is_try r x m n ≡ false) → ((inc : ℕ) → refuses_for inc x n.message ≡ true → (e : Epoch) → Decided h x e → ⊥)
      → MailFalls r h V v x
  swap-falls n one x talks tries firm = record {
    talks = λ inc m. let same = talk inc m in omega (arith, same);
    present = λ m. inl (talk (inc_at V (leader_of r x)) m);
    tries = λ m. let all = swap (is_try r x m) in let none : one_if (is_try r x m n) ≡ 0 = ap one_if (tries m) in omega (arith, all, none);
    prepares = λ m i among is. elim (came i among) [
      | inl before ↦ before
      | inr new ↦ clash (is_try r x m n) (prepare-between r x m n (subst (λ q. is_prepare_to x m q ≡ true) (only i new) is)) (tries m)
    ];
    refusals = λ inc i among is. elim (came i among) [ inl before ↦ inl before | inr new ↦ inr (firm inc (subst (λ q. refuses_for inc x q.message ≡ true) (only i new) is)) ];
  }
    where
      swap : (p : Letter → Bool) → count p v.messages + one_if (p l) ≡ count p V.messages + one_if (p n)
      swap p = let all = counts p in let same : count p ls ≡ count p (n ∷ []) = ap (count p) one in omega (arith, all, same)

      talk : (inc m : ℕ) → talking r inc v x m ≡ talking r inc V x m
      talk inc m = let all = swap (is_talk r inc x m) in let same : one_if (is_talk r inc x m n) ≡ one_if (is_talk r inc x m l) = ap one_if (talks inc m) in omega (arith, all, same)

      only : (i : Letter) → Has i ls → i ≡ n
      only i among = by (subst (Has i) one among)
        where
          by : Has i (n ∷ []) → i ≡ n
          by (inl same) = same
          by (inr none) = absurd none

  -- letters that come say what is so
  pub come-so : ((n : Letter) → Has n ls → IsSaidSo r h v n.from n.to n.message) → LettersCome r h V v
  come-so right n i = elim (came n i) [ inl before ↦ inl before | inr new ↦ inr (right n new) ]

  -- the facts hold after it, where what is kept stays, and what was decided
  pub ends : s.life ≡ Running → z.life ≡ s.life → (durable : z.durable ≡ s.durable) → z.memory.leader.decided ≡ s.memory.leader.decided
      → ((m : ℕ) → has_target s.memory.leader.down m ≡ true → has_target z.memory.leader.down m ≡ true)
      → ((x : AttemptId) → RowGoesOn x (row_of undecided_attempt x s.memory.leader.undecided) (row_of undecided_attempt x z.memory.leader.undecided)) → ((x : AttemptId) → MailFalls r h V v x) → LettersCome r h V v → Ongoing r h V → Ongoing r h v
  ends runs life durable decided down rows mail come k =
      listened r h V v t s z (record { turn = turned durable; runs = runs; life = life; durable = durable; decided = decided; down = down }) rows mail come (over-asked w v t s s z l rest ls over) k
