-- What clients do keeps what is stored once, also where they read at snapshots: what was handed over isn't again, as an attempt that is aborted.
use Rattle.std.specs.Prelude.{ℕ, ◌≡◌, ◌⊎◌, ◌<◌, ◌&&◌, Bool, true, false, ◌∷◌, Contains, Option, Some, None, refl, if◌then◌else◌}
use Rattle.std.proofs.Common.{append-nil, sym, ◌∙◌, ap, subst, inl, inr}
use Rattle.base_types.specs.declared.epoch.Epoch.{Epoch}
use Rattle.base_types.specs.declared.id.AttemptId.{AttemptId}
use Rattle.base_types.specs.declared.outcome.Outcome.{Outcome}
use Rattle.base_messages.specs.declared.message.Message.{Message, more_of-Message}
use Rattle.base_messages.specs.declared.message.Message.TheVariants as message
use Rattle.base_messages.specs.declared.message.Post.{Post}
use Rattle.base_messages.specs.declared.message.Reply.TheVariants as reply
use Rattle.daos_model.specs.BoolLaws.{and_right}
use Rattle.daos_model.specs.EntryLaws.{same_attempt-itself}
use Rattle.dtx_base.specs.LeaderLaws.{same-is}
use Rattle.model_laws.specs.Members.{Has, contains-from_has, has-from_contains}
use Rattle.world_legal.specs.world_commit.attempts.Attempts.{IsBorn}
use Rattle.world_legal.specs.world_commit.attempts.History.{History}
use Rattle.world_base.specs.declared.client.ClientPlan.{ClientPlan}
use Rattle.world_base.specs.declared.client.ClientState.{ClientState}
use Rattle.world_base.specs.declared.client.Present.{Present}
use Rattle.world_base.specs.declared.letter.Letter.{Letter}
use Rattle.world_base.specs.declared.world.World.{World}
use Rattle.world_base.specs.ClientTurns.{Ended_by, HearTurn, Heard_on, Move, about, answered, attempt_id, command_at, goes, heard, heard_at, hears_epochs, is_about, knows, listed, moved, op_of, reset, reset_by}
use Rattle.world_base.specs.Events.{ClientGoes, ClientHears, Rules, after_turn, client_plan, with_client}
use Rattle.world_base.specs.Letters.{client}
use Rattle.world_base.specs.StepLaws.{after-both, by-going, by-next, set-here}
use Rattle.world_base.specs.Steps.{KeptByCounting, KeptByMoves, after_move, without}
use Rattle.world_legal.specs.world_causes.causes.Causes.{Stored}
use Rattle.world_legal.specs.world_causes.causes.ClientLaws.{answer-mild}
use Rattle.world_legal.specs.world_causes.causes.Storing.{IsRefusedAt, IsTold, RefusesAt, StoredOnce}
use Rattle.world_legal.specs.world_causes.causes.StoringClients.{IsClients, TellsOnly, client-did, move-clients, quiet-only, stored-by-counting}
use Rattle.world_legal.specs.world_causes.causes.StoreTurns.{IsCommitOf}
use Rattle.world_letters.specs.endings.Clients.{IsQuestion, heard-asks}
use Rattle.world_legal.specs.world_causes.handing.Fitting.{hears-fitly}
use Rattle.world_letters.specs.lines.LineLaws.{lines-by-counting, lines-by-moves}
use Rattle.world_letters.specs.lines.Lines.{Endings, Lines}
use Rattle.world_legal.specs.world_causes.outcomes.ClientLaws as outcomes
use Rattle.world_legal.specs.world_causes.outcomes.HearLaws as heard_outcomes
use Rattle.world_legal.specs.world_causes.outcomes.Outcomes.{IsEndTrue, IsHandedOver, Outcomes, commits, Agrees}
use Rattle.world_legal.specs.world_standing.standing.Clients.{lines-heard}
use Rattle.world_legal.specs.world_causes.stored.Over.{StoringOver}
use Rattle.world_letters.specs.talks.TalkLaws.{left-is-among, taken-is-among}
use Rattle.world_legal.specs.world_causes.outcomes.TellLaws.{AllRead, MoveTells, NoSnap, Nothing, moved-tells}
use Rattle.world_letters.specs.waits.Waits.{Conversation}

-- What is known before a client does something: what goes about for clients, what ends attempts, what lines tell, what is told of how attempts
-- ended, and that a client knows the epoch that was decided.
pub record IsTalkKnown (r : Rules) (h : History) (w : World) : Type 0 where
  pub some : 0 < r.attempts
  pub talk : Conversation r w
  pub endings : Endings w
  pub lines : Lines r w
  pub outcomes : Outcomes r h w
  pub agrees : Agrees r h w

-- ---- what is heard, and what is done next

module _ (r : Rules) (P : World → Type 0) (moves : KeptByMoves r P) (w v : World) (g : ClientHears r w v) where
  abbrev first : Move
  first = heard (client_plan r g.n) g.c g.l.message

  after-hearing : P (after_move (without w g.rest) g.n first) → P v
  after-hearing begun = subst P (sym g.after) (by g.turn)
    where
      by : HearTurn (client_plan r g.n) g.c g.l.message g.did g.d → P (with_client g.n g.d (after_turn w (client g.n) g.did g.rest))
      by (Ended_by over says after) = rw (after, says, append-nil w.issued) begun
      by (Heard_on rest over did says) =
          rw (says, did.issued, append-nil w.issued)
          (subst P (after-both (without w g.rest) g.n (listed first.post) rest.posts (listed first.line) rest.lines first.state g.d)
          (by-going r P moves (after_move (without w g.rest) g.n first) g.n first.state g.d rest.posts rest.lines (set-here w.clients g.n g.c first.state g.here) begun did.goes_on))

-- ---- lines that tell of a lack of space

-- a move tells of none
moved-only : (P : ℕ → AttemptId → Type 0) (p : ClientPlan) (c : ClientState) → TellsOnly P (moved p c).line
moved-only P p c = by (moved-tells p c)
  where
    by : MoveTells p c (moved p c) → TellsOnly P (moved p c).line
    by (Nothing none) = subst (TellsOnly P) (sym none) tt
    by (AllRead d a at present none says) = subst (λ m. TellsOnly P m.line) (sym says) (λ t need free is. let no : ⊥ = cc in absurd no)
    by (NoSnap none says) = subst (λ m. TellsOnly P m.line) (sym says) (λ t need free is. let no : ⊥ = cc in absurd no)

-- what is heard tells of one only where the message does
module _ (w : World) (p : ClientPlan) (c : ClientState) (l : Letter) (flies : Contains w.messages l) where
  abbrev e : ClientState
  e = hears_epochs l.message c

  abbrev Only : Move → Type 0
  Only m = TellsOnly (IsRefusedAt w) m.line

  lost-only : (a : Present) (target : ℕ) (m : Message) → Only (reset p e (record a { waits = false }) target m)
  lost-only a target (message.Commit x ep first tracker ws) = tt
  lost-only a target (message.Ask x) = tt
  lost-only a target m = λ t need free is. let no : ⊥ = cc in absurd no

  reset-only : (a : Present) (target : ℕ) (down : Bool) (m : Message) → Only (reset_by p e (record a { waits = false }) target down m)
  reset-only a target true m = λ t need free is. let no : ⊥ = cc in absurd no
  reset-only a target false m = lost-only a target m

  about-only : (a : Present) (m : Message) → l.message ≡ m → is_about (attempt_id p c a) (about m) ≡ true → Only (answered p e a m)
  about-only a (message.Fetched x op group own (reply.Answer b)) is its = quiet-only (IsRefusedAt w) _
      (answer-mild p e (knows own a) b (op_of (command_at p e) (knows own a).op)).quiet
  about-only a (message.Fetched x op group own (reply.Outcome how)) is its = λ t need free k.
      IsTold l flies (subst (λ m. RefusesAt m t (attempt_id p c a)) (sym (is ∙ ap (λ y. message.Fetched x op group own (reply.Outcome y)) k))
      (sym (same-is (attempt_id p c a) x its), refl))
  about-only a (message.Ended x own how) is its = λ t need free k.
      IsTold l flies (subst (λ m. RefusesAt m t (attempt_id p c a)) (sym (is ∙ ap (λ y. message.Ended x own y) k)) (sym (same-is (attempt_id p c a) x its), refl))
  about-only a (message.Reset' target down place (more_of-Message m rest)) is its = reset-only a target down m
  about-only a m is its = let no : ⊥ = cc in absurd no

  heard-only : Only (heard p c l.message)
  unfolding heard
  heard-only = by c.present
    where
      by : (o : Option Present) → Only (heard_at p e l.message o)
      by None = tt
      by (Some a) = waiting (a.waits && is_about (attempt_id p c a) (about l.message)) refl
        where
          waiting : (b : Bool) → (a.waits && is_about (attempt_id p c a) (about l.message)) ≡ b → Only (if b then answered p e a l.message else goes e)
          waiting true is = about-only a l.message refl (and_right a.waits (is_about (attempt_id p c a) (about l.message)) is)
          waiting false is = tt

-- ---- each attempt is stored at most once

question-clients : (o : Option Post) → IsQuestion o → (q : Post) → Has q (listed o) → IsClients q.message
question-clients None asks q i = absurd i
question-clients (Some s) asks q (inl same) = subst IsClients (sym (ap (λ x. x.message) same ∙ asks.1)) (record { refuses = λ t x k. k; asks = λ x k. k })
question-clients (Some s) asks q (inr none) = absurd none

module _ (r : Rules) (stored : Stored) where
  once-by-moves : KeptByMoves r (StoredOnce stored)
  once-by-moves w n c here S =
      client-did stored w n (moved (client_plan r n) c).state w.messages (listed (moved (client_plan r n) c).post) (moved (client_plan r n) c).line S (λ z i. i)
      (move-clients (client_plan r n) c)
      (moved-only (IsRefusedAt w) (client_plan r n) c)

  once-goes : (w v : World) → ClientGoes r w v → StoredOnce stored w → StoredOnce stored v
  once-goes w v g S = by-next r (StoredOnce stored) once-by-moves (stored-by-counting stored) w v S g

  once-hears : (w v : World) → ClientHears r w v → StoredOnce stored w → StoredOnce stored v
  once-hears w v g S =
      let m = heard (client_plan r g.n) g.c g.l.message in
      after-hearing r (StoredOnce stored) once-by-moves w v g
      (client-did stored w g.n m.state g.rest (listed m.post) m.line S (λ z i. left-is-among w.messages g.l g.rest z g.takes i)
      (question-clients m.post (heard-asks (client_plan r g.n) g.c g.l.message))
      (heard-only w (client_plan r g.n) g.c g.l (taken-is-among w.messages g.l g.rest g.takes)))

-- ---- what was handed over

-- an attempt more that counts as aborted
abbrev also_aborted : AttemptId → History → History
also_aborted x h = record h { aborted = x ∷ h.aborted }

record Speaks (r : Rules) (h : History) (w : World) : Type 0 where
  lines : Lines r w
  outcomes : Outcomes r h w

module _ (r : Rules) (h : History) (x : AttemptId) where
  -- where it was handed over, and isn't again, what is told of ends is so then too
  also-outcomes : (w : World) → IsHandedOver r w.clients x → ((l : Letter) → Has l w.messages → commits x l.message ≡ true → ⊥) → Outcomes r h w → Outcomes r (also_aborted x h) w
  also-outcomes w over quiet k = record {
    told = λ l y own how i says some. true-then (k.told l y own how i says some);
    lines = λ a i some. true-then (k.lines a i some);
    new = λ l y i is born. elim (was y born) [
      | inl before ↦ k.new l y i is before
      | inr same ↦ quiet l i (subst (λ n. commits n l.message ≡ true) same is)
    ];
    handed = λ y born. elim (was y born) [
      | inl before ↦ k.handed y before
      | inr same ↦ subst (IsHandedOver r w.clients) (sym same) over
    ];
  }
    where
      true-then : {y : AttemptId} {own : Option Epoch} {how : Outcome} → IsEndTrue r h w y own how → IsEndTrue r (also_aborted x h) w y own how
      true-then t = record { committed = t.committed; failed = t.failed }

      was : (y : AttemptId) → IsBorn r (also_aborted x h) w y → IsBorn r h w y ⊎ (y ≡ x)
      was y (inl held) = inl (inl held)
      was y (inr (inl same)) = inr same
      was y (inr (inr a)) = inl (inr a)

module _ (r : Rules) (h : History) (some : 0 < r.attempts) where
  speaks-moves : KeptByMoves r (Speaks r h)
  speaks-moves w n c here k = record { lines = lines-by-moves r some w n c here k.lines; outcomes = outcomes.moving-keeps r h w n c k.lines here k.outcomes }

  speaks-counting : KeptByCounting (Speaks r h)
  speaks-counting w n j c here k = record { lines = lines-by-counting r w n j c here k.lines; outcomes = outcomes.counting-keeps r h w n j c here k.outcomes }

-- ---- all together

module _ (r : Rules) (h : History) (stored : Stored) (w v : World) (K : IsTalkKnown r h w) (S : StoringOver r stored w) where
  commits-it : (m : Message) (x : AttemptId) → IsCommitOf m x → commits x m ≡ true
  commits-it (message.Commit y ep first tracker ws) x same = ap (λ n. commits x (message.Commit n ep first tracker ws)) same ∙ same_attempt-itself x
  commits-it m x none = absurd none

  is-commit : (m : Message) (x : AttemptId) → commits x m ≡ true → IsCommitOf m x
  is-commit (message.Commit y ep first tracker ws) x is = same-is y x is
  is-commit m x is = let no : ⊥ = cc in absurd no

  outcomes-with : (t : ℕ) (x : AttemptId) → Contains stored (t, x) → Outcomes r (also_aborted x h) w
  outcomes-with t x i =
      also-outcomes r h x w (S.handed t x i) (λ l j is. S.uncommitted t x l i (contains-from_has w.messages l j) (is-commit l.message x is)) K.outcomes

  over : StoredOnce stored v → ((t : ℕ) (x : AttemptId) → Contains stored (t, x) → Speaks r (also_aborted x h) v) → StoringOver r stored v
  over once speaks = record {
    so = once;
    handed = λ t x i. (speaks t x i).outcomes.handed x (inr (inl refl));
    uncommitted = λ t x l i j k. (speaks t x i).outcomes.new l x (has-from_contains v.messages l j) (commits-it l.message x k) (inr (inl refl));
  }

  pub goes-over : ClientGoes r w v → StoringOver r stored v
  goes-over g =
      over (once-goes r stored w v g S.so)
      (λ t x i. by-next r (Speaks r (also_aborted x h)) (speaks-moves r (also_aborted x h) K.some) (speaks-counting r (also_aborted x h) K.some) w v
      (record { lines = K.lines; outcomes = outcomes-with t x i }) g)

  pub hearing-goes-over : ClientHears r w v → StoringOver r stored v
  hearing-goes-over g =
      over (once-hears r stored w v g S.so)
      (λ t x i. after-hearing r (Speaks r (also_aborted x h)) (speaks-moves r (also_aborted x h) K.some) w v g
      (record {
        lines = lines-heard r w g.n g.c g.l g.rest K.talk K.endings g.here g.takes g.to_it K.lines;
        outcomes =
            heard_outcomes.hearing-keeps r (also_aborted x h) w g.n g.c g.l g.rest (λ n c a f e. K.agrees n c a f e) (outcomes-with t x i) g.here g.takes
            (hears-fitly r w g.n g.c g.l g.rest K.talk K.endings g.here g.takes g.to_it);
      }))
