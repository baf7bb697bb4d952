-- A leader is asked by a client what became of its attempt.
use Rattle.std.specs.Prelude.{ℕ, ◌≡◌, ◌⊎◌, ◌||◌, Bool, true, false, List, map, Option, Some, None, refl, if◌then◌else◌}
use Rattle.std.proofs.Common.{sym, ◌∙◌, ap, subst, inl, inr}
use Rattle.base_types.specs.declared.entry.Entry.{Entry}
use Rattle.base_types.specs.declared.epoch.Epoch.{Epoch}
use Rattle.base_types.specs.declared.id.AttemptId.{AttemptId}
use Rattle.base_types.specs.declared.outcome.Outcome.{Outcome}
use Rattle.base_types.specs.declared.outcome.Outcome.TheVariants as outcome
use Rattle.model_laws.specs.Members.{Has, has-from_map}
use Rattle.base_messages.specs.declared.actor.ActorId.{ActorId}
use Rattle.base_messages.specs.declared.message.Message.TheVariants as message
use Rattle.base_messages.specs.declared.message.Post.{Post}
use Rattle.daos_model.specs.Durables.{same_attempt}
use Rattle.dtx_base.specs.declared.leading.Undecided.{Undecided}
use Rattle.dtx_base.specs.Asking.{ask_heard, asked_of, asked_open, tells_end, waits_at}
use Rattle.dtx_base.specs.LeaderLaws.{same-is}
use Rattle.dtx_base.specs.Leading.{LeaderOf, LeaderStep, entry_led, first_down, undecided_attempt}
use Rattle.dtx_base.specs.Members.{has_target}
use Rattle.dtx_base.specs.Rows.{is_among, row_of}
use Rattle.world_commit.specs.attempts.History.{History}
use Rattle.world_commit.specs.fates.Concerns.{concerns, no-talk}
use Rattle.world_commit.specs.fates.Facts.{IsSaidSo, Ongoing, PromptsFly, is_prompt_kind}
use Rattle.world_commit.specs.fates.Overs.{Over}
use Rattle.world_commit.specs.fates.Prompts.{AreSpoken, IsSpoken}
use Rattle.world_commit.specs.fates.Speaking.{ended-spoken}
use Rattle.world_commit.specs.fates.Working.{work-begins}
use Rattle.world_commit.specs.statuses.Listening as listening
use Rattle.world_commit.specs.statuses.Listening.{RowGoesOn}
use Rattle.world_commit.specs.statuses.Turns.{Looked, hears-over, hears-spoken, looked}
use Rattle.world_base.specs.declared.letter.Letter.{Letter}
use Rattle.world_base.specs.declared.world.World.{World}
use Rattle.world_base.specs.Events.{Rules, TargetHearsBy, kept, target_after, target_plan}
use Rattle.world_base.specs.Further.{HearsFurther}
use Rattle.world_base.specs.Letters.{client, letter_of, letters_of, target}
use Rattle.world_base.specs.Roles.{leader_at}
use Rattle.world_base.specs.Statuses.{ask_left}

-- ---- what it leaves

-- a message tells an actor how an attempt ended
pub record TellsEnd (to : ActorId) (x : AttemptId) (p : Post) : Type 0 where
  pub own : Option Epoch
  pub how : Outcome
  pub is : p ≡ record { to = to; message = message.Ended x own how }

-- the client waits where it didn't, and else nothing is changed; it may be told the end
pub record AskLeaves (x : AttemptId) (from : ActorId) (l : LeaderOf) (st : LeaderStep) : Type 0 where
  pub rows : (st.leader.memory.undecided ≡ l.memory.undecided) ⊎ (st.leader.memory.undecided ≡ map (waits_at x from) l.memory.undecided)
  pub decided : st.leader.memory.decided ≡ l.memory.decided
  pub down : st.leader.memory.down ≡ l.memory.down
  pub told : (p : Post) → Has p st.posts → TellsEnd from x p

pub ask-leaves : (x : AttemptId) (from : ActorId) (l : LeaderOf) → AskLeaves x from l (ask_heard x from l)
unfolding ask_heard
ask-leaves x from l = by (entry_led x l) (is_among x l.memory.decided)
  where
    one : (own : Option Epoch) (how : Outcome) (p : Post) → Has p (tells_end from x own how) → TellsEnd from x p
    one own how p (inl same) = record { own = own; how = how; is = same }
    one own how p (inr none) = absurd none

    still : (o : Option ℕ) (e : Entry) → AskLeaves x from l (asked_open x from e o l)
    still None e = record { rows = inr refl; decided = refl; down = refl; told = λ p i. absurd i }
    still (Some down) e = record { rows = inl refl; decided = refl; down = refl; told = one (Some e.epoch) _ }

    found : (b : Bool) (e : Entry) → AskLeaves x from l (if b then record { leader = l; posts = tells_end from x (Some e.epoch) outcome.Committed } else asked_open x from e (first_down e.members l.memory.down) l)
    found true e = record { rows = inl refl; decided = refl; down = refl; told = one (Some e.epoch) outcome.Committed }
    found false e = still (first_down e.members l.memory.down) e

    by : (o : Option Entry) (b : Bool) → AskLeaves x from l (asked_of x from o b l)
    by None b = record { rows = inl refl; decided = refl; down = refl; told = one None _ }
    by (Some e) b = found (e.committed || b) e

-- the client that asks waits for its own attempt
waits-row : (x : AttemptId) (from : ActorId) (us : List Undecided) (y : AttemptId) → from ≡ client x.client → RowGoesOn y (row_of undecided_attempt y us) (row_of undecided_attempt y (map (waits_at x from) us))
waits-row x from us y sent = listening.rows-go_on (waits_at x from) us y (λ u. attempt (same_attempt u.attempt x) u) (λ u. counted (same_attempt u.attempt x) u) (λ u c its on. waits u c its (same_attempt u.attempt x) refl on)
  where
    attempt : (b : Bool) (u : Undecided) → undecided_attempt (if b then record u { client = Some from } else u) ≡ undecided_attempt u
    attempt true u = refl
    attempt false u = refl

    counted : (b : Bool) (u : Undecided) → (if b then record u { client = Some from } else u).counted ≡ u.counted
    counted true u = refl
    counted false u = refl

    waits : (u : Undecided) (c : ActorId) → undecided_attempt u ≡ y → (b : Bool) → same_attempt u.attempt x ≡ b → (if b then record u { client = Some from } else u).client ≡ Some c → (c ≡ client y.client) ⊎ (u.client ≡ Some c)
    waits u c its false off on = inr on
    waits u c its true own on =
        let one : from ≡ c = cc in
        let same : x ≡ y = sym (same-is u.attempt x own) ∙ its in
        inl (sym one ∙ sent ∙ ap (λ a. client a.client) same)

-- ---- the turn

module _ (number : ℕ) (r : Rules) (h : History) (w v : World) (k : Ongoing r h w) (g : TargetHearsBy (HearsFurther number) r w v) (x : AttemptId) (is : g.l.message ≡ message.Ask x) (own : g.l.from ≡ client x.client)
    (turn : HearsFurther number (target_plan r g.t) g.s.opening g.s.memory g.reading g.l.from (message.Ask x) (kept g.s) g.new (g.memory, g.did)) where
  abbrev L : LeaderOf
  L = leader_at (target_plan r g.t) g.s.memory g.s.durable

  left : Looked (ask_left (target_plan r g.t) g.s.memory g.l.from x) (kept g.s) g.new (g.memory, g.did)
  left = looked (ask_left (target_plan r g.t) g.s.memory g.l.from x) (kept g.s) g.new (g.memory, g.did) turn

  leaves : AskLeaves x g.l.from L (ask_heard x g.l.from L)
  leaves = ask-leaves x g.l.from L

  leader : g.memory.leader ≡ (ask_heard x g.l.from L).leader.memory
  leader = ap (λ i. i.0.leader) left.follows

  told : (p : Post) → Has p g.did.posts → TellsEnd g.l.from x p
  told p i = leaves.told p (subst (Has p) (ap (λ i. i.1.posts) left.follows) i)

  over : Over w v g.t (target_after g.s g.new g.memory) g.l g.rest (letters_of (target g.t) g.did.posts)
  over = hears-over number r w v g

  -- a letter that comes tells an end
  comes : (n : Letter) → Has n (letters_of (target g.t) g.did.posts) → (own : Option Epoch) × (how : Outcome) × (n.message ≡ message.Ended x own how)
  comes n i =
      let y = has-from_map (letter_of (target g.t)) g.did.posts n i in
      let z = told y.0 y.1 in
      (z.own, z.how, sym (ap (λ q. q.message) y.2) ∙ ap (λ q. q.message) z.is)

  rows : (y : AttemptId) → RowGoesOn y (row_of undecided_attempt y g.s.memory.leader.undecided) (row_of undecided_attempt y g.memory.leader.undecided)
  rows y = elim leaves.rows [
    | inl same ↦
        listening.row-same y (row_of undecided_attempt y g.s.memory.leader.undecided) (row_of undecided_attempt y g.memory.leader.undecided) (ap (λ n. row_of undecided_attempt y n.undecided) leader ∙ ap (row_of undecided_attempt y) same)
    | inr waits ↦
        subst (RowGoesOn y (row_of undecided_attempt y g.s.memory.leader.undecided)) (sym (ap (λ n. row_of undecided_attempt y n.undecided) leader ∙ ap (row_of undecided_attempt y) waits)) (waits-row x g.l.from g.s.memory.leader.undecided y own)
  ]

  pub ask-keeps : Ongoing r h v
  ask-keeps =
      listening.ends r h w v g.t g.s (target_after g.s g.new g.memory) g.here g.l g.rest (letters_of (target g.t) g.did.posts) over g.runs refl (ap (λ i. i.durable) left.same) (ap (λ n. n.decided) leader ∙ leaves.decided)
      (λ m has. ap (λ n. has_target n.down m) leader ∙ ap (λ d. has_target d m) leaves.down ∙ has) rows
      (λ y. listening.taken-falls r h w v g.t g.s (target_after g.s g.new g.memory) g.here g.l g.rest (letters_of (target g.t) g.did.posts) over y (λ n i. let z = comes n i in ap (concerns y) z.2) (λ m. inl (no-talk r y g.l (ap (concerns y) is) _ m)))
      (listening.come-so r h w v g.t g.s (target_after g.s g.new g.memory) g.here g.l g.rest (letters_of (target g.t) g.did.posts) over (λ n i. let z = comes n i in subst (IsSaidSo r h v n.from n.to) (sym z.2) tt))
      (work-begins r h w g.t g.s g.here k)

  pub ask-prompts : PromptsFly w → PromptsFly v
  ask-prompts fly = hears-spoken number r w v g (ap is_prompt_kind is) spoken fly
    where
      spoken : AreSpoken g.did.posts
      spoken p i = let z = told p i in subst IsSpoken (sym z.is) (ended-spoken g.l.from x z.own z.how (ap (λ a. a.client) own))
