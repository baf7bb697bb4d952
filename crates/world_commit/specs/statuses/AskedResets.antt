-- A leader hears that a member didn't answer what it was asked for an attempt: to prepare it, or what it holds of it.
use Rattle.std.specs.Prelude.{ℕ, ◌≡◌, ◌⊎◌, ◌++◌, ◌==◌, ◌&&◌, Bool, true, false, [], ◌∷◌, slice_get, Option, Some, None, refl}
use Rattle.std.proofs.Common.{append-nil, sym, ◌∙◌, ap, subst, arith, inl, inr}
use Rattle.std.proofs.lemmas.Bool.Decides.{nat_tests}
use Rattle.std.proofs.Math.ListN.{set}
use Rattle.base_types.specs.declared.epoch.Epoch.{Epoch}
use Rattle.base_types.specs.declared.id.AttemptId.{AttemptId}
use Rattle.base_types.specs.declared.outcome.Outcome.{Outcome}
use Rattle.base_types.specs.declared.outcome.Outcome.TheVariants.{Unknown}
use Rattle.model_laws.specs.Members.{Has}
use Rattle.base_messages.specs.declared.actor.ActorId.{ActorId}
use Rattle.base_messages.specs.declared.message.Message.{Message}
use Rattle.base_messages.specs.declared.message.Message.TheVariants as message
use Rattle.base_messages.specs.declared.message.Post.{Post}
use Rattle.daos_model.specs.BoolLaws.{and_left, and_right, false_of}
use Rattle.daos_model.specs.Durables.{same_attempt}
use Rattle.dtx_base.specs.declared.leading.Undecided.{Undecided}
use Rattle.dtx_base.specs.LeaderLaws.{same-is}
use Rattle.dtx_base.specs.Leading.{LeaderOf, LeaderStep, ended, knowing, prepare_reset, to_target, undecided_of}
use Rattle.dtx_base.specs.Members.{has_target}
use Rattle.world_commit.specs.attempts.Attempts.{inc_at, inc_in, is_target, leader_of, row_in}
use Rattle.world_commit.specs.attempts.History.{History}
use Rattle.world_commit.specs.attempts.Stored.{target-is}
use Rattle.world_commit.specs.fates.Concerns.{IsDull}
use Rattle.world_commit.specs.fates.Facts.{IsSaidSo, IsStatusRight, Ongoing, down_in, asks_for, is_talk, knows_down}
use Rattle.world_commit.specs.fates.Prompts.{AreSpoken}
use Rattle.world_commit.specs.fates.Speaking.{ended-some, one-spoken}
use Rattle.world_commit.specs.fates.Talks.{is-target}
use Rattle.world_commit.specs.fates.Working.{PostsSo}
use Rattle.world_commit.specs.statuses.Listening as listening
use Rattle.world_commit.specs.statuses.Listening.{MailFalls}
use Rattle.world_commit.specs.statuses.Resets as resets
use Rattle.world_commit.specs.statuses.Resets.{AreQuiet, IsResetOf, none-quiet}
use Rattle.world_commit.specs.statuses.ResetSteps.{ResetLeaves, knowing-it, prepare-asks, prepare-leaves, prepare-told}
use Rattle.world_commit.specs.statuses.Turns.{Looked}
use Rattle.world_commit.specs.statuses.Ways.{back-talks, status-no_try, status-talks}
use Rattle.world_base.specs.declared.letter.Letter.{Letter}
use Rattle.world_base.specs.declared.world.World.{World}
use Rattle.world_base.specs.Events.{Rules, TargetHearsBy, kept, target_after, target_plan}
use Rattle.world_base.specs.Further.{HearsFurther}
use Rattle.world_base.specs.Letters.{letters_of, target}
use Rattle.world_base.specs.StepLaws.{set-here}
use Rattle.world_base.specs.Statuses.{reset_left}

-- a client is told, or nobody
told-dull : (o : Option ActorId) (x : AttemptId) (own : Epoch) (how : Outcome) (p : Post) → Has p (ended o x own how) → IsDull p.message
told-dull None x own how p i = absurd i
told-dull (Some c) x own how p (inl same) = subst (λ n. IsDull n.message) (sym same) (λ y. refl)
told-dull (Some c) x own how p (inr none) = absurd none

told-so : (r : Rules) (h : History) (v : World) (t : ℕ) (o : Option ActorId) (x : AttemptId) (own : Epoch) (how : Outcome) → PostsSo r h v t (ended o x own how)
told-so r h v t None x own how p i = absurd i
told-so r h v t (Some c) x own how p (inl same) = subst (λ n. IsSaidSo r h v (target t) n.to n.message) (sym same) tt
told-so r h v t (Some c) x own how p (inr none) = absurd none

-- the member was asked by this incarnation for this attempt
module _ (number : ℕ) (r : Rules) (h : History) (w v : World) (k : Ongoing r h w) (g : TargetHearsBy (HearsFurther number) r w v) (by : ℕ) (down : Bool) (q : Message) (is : IsResetOf g.l q)
    (left : Looked (reset_left (target_plan r g.t) g.s.memory by down q) (kept g.s) g.new (g.memory, g.did)) (from : g.l.from ≡ target by) (a : AttemptId) (inc : ℕ) (asks : (i : ℕ) (x : AttemptId) → asks_for i x q ≡ (same_attempt a x && (inc == i)))
    (steps : resets.st number r h w v k g by down q is left ≡ prepare_reset by down a inc (resets.L number r h w v k g by down q is left)) (none : resets.freed number r h w v k g by down q is left ≡ []) (says : IsStatusRight r h v g.l.to g.l.from a inc) where
  abbrev V : World
  V = resets.V number r h w v k g by down q is left

  abbrev L : LeaderOf
  L = resets.L number r h w v k g by down q is left

  abbrev st : LeaderStep
  st = resets.st number r h w v k g by down q is left

  leads : g.t ≡ leader_of r a
  leads = target-is g.t (leader_of r a) (sym g.to_it ∙ says.way.sender)

  talk : (i : ℕ) (x : AttemptId) (m : ℕ) → is_talk r i x m g.l ≡ (is_target m (target by) && (same_attempt a x && (inc == i)))
  talk i x m = back-talks r g.l by a inc i x m from says.way.sender (is.asks i x) (is.answers i x ∙ asks i x)

  -- it is counted for its attempt, incarnation and member alone
  talk-its : (i : ℕ) (x : AttemptId) (m : ℕ) → is_talk r i x m g.l ≡ true → (a ≡ x) × (inc ≡ i) × (m ≡ by)
  talk-its i x m on =
      let all : (is_target m (target by) && (same_attempt a x && (inc == i))) ≡ true = sym (talk i x m) ∙ on in
      let rest = and_right (is_target m (target by)) (same_attempt a x && (inc == i)) all in
      (same-is a x (and_left (same_attempt a x) (inc == i) rest), number-is (and_right (same_attempt a x) (inc == i) rest), is-target m by (and_left (is_target m (target by)) (same_attempt a x && (inc == i)) all))
    where
      number-is : (inc == i) ≡ true → inc ≡ i
      number-is own = grind (arith, nat_tests)

  sent-as : (b : Bool) → down ≡ b → g.did.posts ≡ (prepare_reset by b a inc L).posts
  sent-as b same = resets.sent number r h w v k g by down q is left ∙ ap (λ ps. st.posts ++ ps) none ∙ append-nil st.posts ∙ ap (λ i. i.posts) steps ∙ ap (λ c. (prepare_reset by c a inc L).posts) same

  leaves : ResetLeaves L st
  leaves = subst (ResetLeaves L) (sym steps) (prepare-leaves by down a inc L)

  falls : AreQuiet r h v g.t g.did.posts → ((x : AttemptId) (m : ℕ) → (is_talk r (inc_at V (leader_of r x)) x m g.l ≡ false) ⊎ (knows_down v (leader_of r x) m ≡ true)) → Ongoing r h v
  falls quiet fall =
      resets.reset-ends number r h w v k g by down q is left leaves
      (λ x. listening.taken-falls r h w v g.t g.s (target_after g.s g.new g.memory) g.here g.l g.rest (letters_of (target g.t) g.did.posts) (resets.over number r h w v k g by down q is left) x
      (resets.spare number r h w v k g by down q is left quiet.dull x) (fall x)) quiet.so

  -- ---- the member is down

  waits-client : (u : Undecided) → undecided_of a L ≡ Some u → (c : ActorId) → u.client ≡ Some c → c.client ≡ true
  waits-client u row c on =
      ap (λ i. i.client) ((((resets.begins number r h w v k g by down q is left).each a).rows.undecided g.t u (ap (λ i. row_in i a) (set-here w.targets g.t g.s g.s g.here) ∙ row)).client c on)

  down-quiet : down ≡ true → AreQuiet r h v g.t g.did.posts
  down-quiet same = elim (prepare-told by a inc L) [
    | inl nothing ↦ none-quiet r h v g.t g.did.posts (sent-as true same ∙ nothing)
    | inr z ↦ subst (AreQuiet r h v g.t) (sym (sent-as true same ∙ z.told)) (record { dull = told-dull z.u.client a z.e.epoch (Unknown by); so = told-so r h v g.t z.u.client a z.e.epoch (Unknown by); spoken = ended-some z.u.client a z.e.epoch (Unknown by) (waits-client z.u z.row) })
  ]

  -- so it is known to be
  down-known : down ≡ true → knows_down v g.t by ≡ true
  down-known same =
      ap (λ o. down_in o by) (ap (λ ts. slice_get ts g.t) (resets.over number r h w v k g by down q is left).targets ∙ set-here w.targets g.t g.s (target_after g.s g.new g.memory) g.here)
      ∙ ap (λ n. has_target n.down by) (resets.leader number r h w v k g by down q is left)
      ∙ ap (λ b. has_target (knowing by b st.leader).memory.down by) same
      ∙ knowing-it by st.leader

  down-falls : down ≡ true → (x : AttemptId) (m : ℕ) → (is_talk r (inc_at V (leader_of r x)) x m g.l ≡ false) ⊎ (knows_down v (leader_of r x) m ≡ true)
  down-falls same x m = by-talk (is_talk r (inc_at V (leader_of r x)) x m g.l) refl
    where
      by-talk : (b : Bool) → is_talk r (inc_at V (leader_of r x)) x m g.l ≡ b → (is_talk r (inc_at V (leader_of r x)) x m g.l ≡ false) ⊎ (knows_down v (leader_of r x) m ≡ true)
      by-talk false off = inl off
      by-talk true on =
          let z = talk-its (inc_at V (leader_of r x)) x m on in
          inr (subst (λ n. knows_down v (leader_of r x) n ≡ true) (sym z.2) (subst (λ n. knows_down v n by ≡ true) (leads ∙ ap (leader_of r) z.0) (down-known same)))

  -- ---- it isn't

  -- a later incarnation doesn't ask again
  late-falls : (inc == L.incarnation) ≡ false → (x : AttemptId) (m : ℕ) → (is_talk r (inc_at V (leader_of r x)) x m g.l ≡ false) ⊎ (knows_down v (leader_of r x) m ≡ true)
  late-falls off x m = inl (false_of (is_talk r (inc_at V (leader_of r x)) x m g.l) (λ on. let z = talk-its (inc_at V (leader_of r x)) x m on in apart (z.1 ∙ here (leads ∙ ap (leader_of r) z.0))))
    where
      here : {n : ℕ} → g.t ≡ n → inc_at V n ≡ g.s.durable.incarnation
      here same = ap inc_in (subst (λ n. slice_get (set w.targets g.t g.s) n ≡ Some g.s) same (set-here w.targets g.t g.s g.s g.here))

      apart : inc ≡ g.s.durable.incarnation → ⊥
      apart same = let no : ⊥ = grind (arith, nat_tests) in no

  abbrev question : Letter
  question = record { from = target g.t; to = target by; message = message.Status a inc }

  -- it is asked again
  asked-again : g.did.posts ≡ to_target by (message.Status a inc) ∷ [] → Ongoing r h v
  asked-again one = resets.reset-ends number r h w v k g by down q is left leaves mail so
    where
      mail : (x : AttemptId) → MailFalls r h V v x
      mail x =
          listening.swap-falls r h w v g.t g.s (target_after g.s g.new g.memory) g.here g.l g.rest (letters_of (target g.t) g.did.posts) (resets.over number r h w v k g by down q is left) question (ap (letters_of (target g.t)) one) x
          (λ i m. status-talks r question by a inc refl refl i x m ∙ sym (talk i x m)) (status-no_try r question by a inc refl x) (λ i on. let no : ⊥ = cc in absurd no)

      right : IsStatusRight r h v (target g.t) (target by) a inc
      right = record {
        way = record { member = says.way.member; other = says.way.other; sender = ap target leads; receiver = sym from ∙ says.way.receiver };
        incarnation = says.incarnation;
        born = says.born;
      }

      so : PostsSo r h v g.t g.did.posts
      so p i = by-post (subst (Has p) one i)
        where
          by-post : Has p (to_target by (message.Status a inc) ∷ []) → IsSaidSo r h v (target g.t) p.to p.message
          by-post (inl same) = subst (λ n. IsSaidSo r h v (target g.t) n.to n.message) (sym same) right
          by-post (inr none) = absurd none

  -- ---- so

  pub asked-keeps : Ongoing r h v
  asked-keeps = by-down down refl
    where
      by-down : (b : Bool) → down ≡ b → Ongoing r h v
      by-down true same = falls (down-quiet same) (down-falls same)
      by-down false same = elim (prepare-asks by a inc L) [
        | inl one ↦ asked-again (sent-as false same ∙ one)
        | inr z ↦ falls (none-quiet r h v g.t g.did.posts (sent-as false same ∙ z.0)) (late-falls z.1)
      ]

  pub asked-spoken : AreSpoken g.did.posts
  asked-spoken = by-down down refl
    where
      by-down : (b : Bool) → down ≡ b → AreSpoken g.did.posts
      by-down true same = (down-quiet same).spoken
      by-down false same = elim (prepare-asks by a inc L) [
        | inl one ↦ subst AreSpoken (sym (sent-as false same ∙ one)) (one-spoken (to_target by (message.Status a inc)) (inl refl))
        | inr z ↦ (none-quiet r h v g.t g.did.posts (sent-as false same ∙ z.0)).spoken
      ]
