-- A target hears a message: what follows for outcomes, of whatever kind its turn is.
use Rattle.std.specs.Prelude.{ℕ, ◌≡◌, ◌≢◌, ◌⊎◌, ◌++◌, Bool, true, false, List, slice_get, Contains, Option, Some, None, refl}
use Rattle.std.proofs.Common.{sym, ◌∙◌, ap, subst, inl, inr}
use Rattle.std.proofs.Math.ListN.{set}
use Rattle.base_types.specs.declared.entry.Entry.{Entry}
use Rattle.base_types.specs.declared.epoch.Epoch.{Epoch}
use Rattle.base_types.specs.declared.id.AttemptId.{AttemptId}
use Rattle.base_types.specs.declared.outcome.Outcome.{Outcome}
use Rattle.base_types.specs.declared.outcome.Outcome.TheVariants.{Committed}
use Rattle.base_types.specs.declared.report.Attempt.{Attempt}
use Rattle.model_laws.specs.Members.{Has, has-cases, has-from_map}
use Rattle.base_messages.specs.declared.message.Message.{Message}
use Rattle.base_messages.specs.declared.message.Message.TheVariants as message
use Rattle.base_messages.specs.declared.message.Post.{Post}
use Rattle.daos_model.specs.Attempts.{tries}
use Rattle.daos_model.specs.Durables.{entry_of}
use Rattle.dtx_base.specs.LeaderLaws.{same-is}
use Rattle.world_contents.specs.world_commit.attempts.Attempts.{IsBorn, IsHeld, entry_at, entry_in, leader_of}
use Rattle.world_contents.specs.world_commit.attempts.Counting.{has-left_over, has-taken}
use Rattle.world_contents.specs.world_commit.attempts.History.{GrowsBy, History, Tells}
use Rattle.world_contents.specs.world_commit.attempts.Turning.{one-or_another}
use Rattle.world_base.specs.declared.letter.Letter.{Letter}
use Rattle.world_base.specs.declared.target.TargetState.{TargetState}
use Rattle.world_base.specs.declared.world.World.{World}
use Rattle.world_base.specs.Events.{Rules, TargetHearsBy, target_after}
use Rattle.world_base.specs.Letters.{letter_of, letters_of, target}
use Rattle.world_base.specs.StepLaws.{set-here, set-there}
use Rattle.world_base.specs.TargetTurns.{Hearing}
use Rattle.world_contents.specs.world_commit.fates.Facts.{Attempts, IsPrepareRight, IsSaidSo}
use Rattle.world_causes.specs.outcomes.Concluding.{Concludes, IsTaken}
use Rattle.world_causes.specs.outcomes.Outcomes.{IsEndTrue, commits, is_failed, HasWrites}
use Rattle.world_causes.specs.outcomes.Premises.{CommitsAreOfClients, hands}
use Rattle.world_causes.specs.outcomes.Storing.{is_stored_by}
use Rattle.world_causes.specs.outcomes.TurnLaws.{tried-cases}

-- ---- what a target tells

-- A target tells of an attempt's end: its leader has an entry of it, or it is what the target was asked; and as committed it is told with
-- its epoch.
pub record IsToldOf (r : Rules) (w : World) (m : Message) (x : AttemptId) (own : Option Epoch) (how : Outcome) : Type 0 where
  pub whose : IsHeld w (leader_of r x) x ⊎ (hands x m ≡ true)
  pub dated : how ≡ Committed → (e : Epoch) × (own ≡ Some e)

abbrev pub AreToldOf : Rules → World → Message → List Post → Type 0
AreToldOf r w m posts = (x : AttemptId) (own : Option Epoch) (how : Outcome) → Tells posts x own how → IsToldOf r w m x own how

-- What is sent of attempts with writes is told, or is so.
abbrev pub SendsSo : Rules → History → World → List Post → List Post → Type 0
SendsSo r later v posts told = (x : AttemptId) (own : Option Epoch) (how : Outcome) → HasWrites r x → Tells posts x own how → Tells told x own how ⊎ IsEndTrue r later v x own how

failed-other : (how : Outcome) → is_failed how ≡ true → how ≢ Committed
failed-other how is same = let no : false ≡ true = sym (ap is_failed same) ∙ is in let bad : ⊥ = cc in bad

-- ---- where a target's state changes

module _ (w v : World) (t : ℕ) (s z : TargetState) (here : slice_get w.targets t ≡ Some s) (targets : v.targets ≡ set w.targets t z) where
  pub entry-now : (x : AttemptId) → entry_at v t x ≡ entry_of z.durable x
  entry-now x = ap (λ ts. entry_in (slice_get ts t) x) targets ∙ ap (λ o. entry_in o x) (set-here w.targets t s z here)

  pub entry-before : (x : AttemptId) → entry_at w t x ≡ entry_of s.durable x
  entry-before x = ap (λ o. entry_in o x) here

  pub entry-there : (u : ℕ) (x : AttemptId) → (u ≡ t → ⊥) → entry_at v u x ≡ entry_at w u x
  entry-there u x other = ap (λ ts. entry_in (slice_get ts u) x) targets ∙ ap (λ o. entry_in o x) (set-there w.targets t u z other)

  -- where of what wasn't kept nothing is kept, what is held was held
  pub held-back : (u : ℕ) (x : AttemptId) → (entry_of s.durable x ≡ None → entry_of z.durable x ≡ None) → IsHeld v u x → IsHeld w u x
  held-back u x none held = elim (one-or_another u t) [
    | inl is ↦ by (entry_of s.durable x) refl is
    | inr off ↦ record { entry = held.entry; found = sym (entry-there u x off) ∙ held.found }
  ]
    where
      by : (o : Option Entry) → entry_of s.durable x ≡ o → u ≡ t → IsHeld w u x
      by None at is =
          let gone : entry_at v u x ≡ None = ap (λ n. entry_at v n x) is ∙ entry-now x ∙ none at in
          let one = held.found in
          let no : ⊥ = cc (gone, one) in absurd no
      by (Some e) at is = record { entry = e; found = ap (λ n. entry_at w n x) is ∙ entry-before x ∙ at }

-- ---- a target hears

module _ (Turn : Hearing) (r : Rules) (h later : History) (w v : World) (k : Attempts r h w) (k2 : Attempts r later v) (g : TargetHearsBy Turn r w v) (told : List Post) (grows : GrowsBy h told later) (of_clients : CommitsAreOfClients v)
    (unstored : (x : AttemptId) → is_stored_by x g.l.message ≡ false → entry_of g.s.durable x ≡ None → entry_of g.new.durable x ≡ None)
    (whose : AreToldOf r w g.l.message told) (sent : SendsSo r later v g.did.posts told) (no_lines : (a : Attempt) → Has a (tries g.did.lines) → ⊥) where
  abbrev z : TargetState
  z = target_after g.s g.new g.memory

  targets : v.targets ≡ set w.targets g.t z
  targets = ap (λ u. u.targets) g.after

  messages : v.messages ≡ g.rest ++ letters_of (target g.t) g.did.posts
  messages = ap (λ u. u.messages) g.after

  -- a letter in flight was left, or is sent
  from-where : (l : Letter) → Has l v.messages → Has l g.rest ⊎ ((q : Post) × Has q g.did.posts × (letter_of (target g.t) q ≡ l))
  from-where l i = elim (has-cases g.rest (letters_of (target g.t) g.did.posts) l (subst (Has l) messages i)) [
    | inl j ↦ inl j
    | inr j ↦ inr (has-from_map (letter_of (target g.t)) g.did.posts l j)
  ]

  was : (l : Letter) → Has l g.rest → Has l w.messages
  was l i = has-left_over w.messages g.l g.rest l g.takes i

  -- no target hands an attempt over
  left : (l : Letter) (x : AttemptId) → Has l v.messages → commits x l.message ≡ true → Has l g.rest
  left l x i is = elim (from-where l i) [
    | inl j ↦ j
    | inr q ↦ let bad : false ≡ true = ap (λ m. m.from.client) q.2 ∙ of_clients l x i is in (let no : ⊥ = cc in absurd no)
  ]

  taken : (x : AttemptId) → hands x g.l.message ≡ true → IsTaken w v x
  taken x is = record { l = g.l; rest = g.rest; takes = g.takes; hands_it = is; left = left }

  -- what is told is so
  told-so : (x : AttemptId) (own : Option Epoch) (how : Outcome) → Tells told x own how → IsEndTrue r later v x own how
  told-so x own how tells = record {
    committed = λ is. let e = (whose x own how tells).dated is in (e.0, e.1, grows.committed x e.0 (subst (λ o. Tells told x o Committed) e.1 (subst (λ o. Tells told x own o) is tells)));
    failed = λ is. (k2.on.each x).entries.aborted (grows.refused x (record { own = own; how = how; told = tells; refused = failed-other how is }));
  }

  sent-so : (q : Post) (x : AttemptId) (own : Option Epoch) (how : Outcome) → HasWrites r x → Has q g.did.posts → q.message ≡ message.Ended x own how → IsEndTrue r later v x own how
  sent-so q x own how some i says = elim (sent x own how some (record { to = q.to; sent = subst (λ m. Has (record { to = q.to; message = m }) g.did.posts) says i })) [ inl tells ↦ told-so x own how tells | inr so ↦ so ]

  -- what is stored was, or is handed over, or asked to be prepared, and then it was stored by its leader
  stored-by : (x : AttemptId) (m : Message) → g.l.message ≡ m → is_stored_by x m ≡ true → IsHeld v (leader_of r x) x → IsHeld w (leader_of r x) x ⊎ IsTaken w v x
  stored-by x (message.Commit y ep first tracker ws) is own held = inr (taken x (ap (hands x) is ∙ own))
  stored-by x (message.Prepare e first ws inc) is own held = by (subst (IsBorn r h w) (same-is e.attempt x own) says.born)
    where
      says : IsPrepareRight r h w g.l.from g.l.to e ws inc
      says = subst (IsSaidSo r h w g.l.from g.l.to) is (k.on.letters g.l (has-taken w.messages g.l g.rest g.takes))

      by : IsBorn r h w x → IsHeld w (leader_of r x) x ⊎ IsTaken w v x
      by (inl before) = inl before
      by (inr aborted) =
          let gone = (k2.on.each x).entries.aborted (grows.aborted x aborted) in
          let found = held.found in
          let no : ⊥ = cc (gone, found) in absurd no
  stored-by x m is own held = let no : ⊥ = cc in absurd no

  pub hearing-concludes : Concludes r h later w v
  hearing-concludes = record {
    clients = ap (λ u. u.clients) g.after;
    lines = λ a i. elim (tried-cases w.issued w.lines g.did.lines a (subst (λ ls. Contains (tries ls) a) (ap (λ u. u.lines) g.after) i)) [ inl before ↦ before | inr new ↦ absurd (no_lines new.0 new.1) ];
    decided = grows.decided;
    aborted = grows.aborted;
    told = λ l x own how i says some. elim (from-where l i) [ inl j ↦ inl (was l j) | inr q ↦ inr (sent-so q.0 x own how some q.1 (ap (λ m. m.message) q.2 ∙ says)) ];
    commit = λ l x i is. was l (left l x i is);
    stored = stored;
    ended = λ x gone. elim (grows.only_aborted x gone) [
      | inl before ↦ inl (inr before)
      | inr tells ↦ elim (whose x tells.own tells.how tells.told).whose [ inl held ↦ inl (inl held) | inr is ↦ inr (taken x is) ]
    ];
  }
    where
      stored : (x : AttemptId) → IsHeld v (leader_of r x) x → IsHeld w (leader_of r x) x ⊎ IsTaken w v x
      stored x held = by (is_stored_by x g.l.message) refl
        where
          by : (b : Bool) → is_stored_by x g.l.message ≡ b → IsHeld w (leader_of r x) x ⊎ IsTaken w v x
          by true own = stored-by x g.l.message refl own held
          by false off = inl (held-back w v g.t g.s z g.here targets (leader_of r x) x (unstored x off) held)
