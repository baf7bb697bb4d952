-- A Reset of a Query tells of the target that it comes from, whatever happens.
use Rattle.std.specs.Prelude.{ℕ, ◌≡◌, ◌++◌, Bool, true, List, filter, map}
use Rattle.std.proofs.Common.{sym, ◌∙◌, ap, subst, inl, inr}
use Rattle.model_laws.specs.Members.{Has, has-cases, has-from_filter, has-from_map}
use Rattle.base_messages.specs.declared.actor.ActorId.{ActorId}
use Rattle.base_messages.specs.declared.message.Message.{Message, more_of-Message}
use Rattle.base_messages.specs.declared.message.Message.TheVariants as message
use Rattle.base_messages.specs.declared.message.Post.{Post}
use Rattle.daos_model.specs.Changes.{reopened}
use Rattle.daos_model.specs.declared.durable.Durable.{Durable}
use Rattle.dtx_base.specs.Leading.{is_led, is_open}
use Rattle.world_commit.specs.asks.Moving.{ClientMoves, goes-moves, heard-moves, hears-moves, idle-moves}
use Rattle.world_commit.specs.asks.Sending.{MaySend, hears-sends}
use Rattle.world_commit.specs.asks.ToldTurns.{AMark, AnInquiry, IsIdlySent, idles-sends}
use Rattle.world_commit.specs.attempts.History.{History}
use Rattle.world_commit.specs.fates.Facts.{Attempts, IsAskedSo, IsSaidSo}
use Rattle.world_commit.specs.fates.Rightly.{events-are-right}
use Rattle.world_commit.specs.questions.Facts.{NamesFor, NamesSender, ResetsNameSenders}
use Rattle.world_commit.specs.questions.Flying.{IsWithoutCollections}
use Rattle.world_commit.specs.questions.Hearing.{is_of_stops}
use Rattle.world_commit.specs.questions.Sending.{more-sends}
use Rattle.world_commit.specs.stops.Questions.{question-is}
use Rattle.world_base.specs.declared.letter.Letter.{Letter}
use Rattle.world_base.specs.declared.world.World.{World}
use Rattle.world_base.specs.Events.{ByClient, ByTarget, RightEvent, Rules, ToClient, ToTarget, kept, target_plan}
use Rattle.world_base.specs.Letters.{client, letter_of, letters_of, target}
use Rattle.world_base.specs.Statuses.{opening_posts}
use Rattle.world_base.specs.Stops.{Draws, Fails, Further, GivenUp, Happening, HearsMore, IsCut, Opens, Plainly, is_not_to, is_not_to_down, is_to, is_to_down, reset_letter, resets, swept}

-- no client sends one
client-names : (r : Rules) (h : History) (w : World) (n : ℕ) (from to : ActorId) (m : Message) → from ≡ client n → IsSaidSo r h w from to m → NamesSender from m
client-names r h w n from to (message.Reset' t down place (more_of-Message q rest)) is k = by q k
  where
    by : (q : Message) → IsAskedSo r h w to from q → NamesFor from t q
    by (message.Query x ask) k = let no : ⊥ = cc (ap (λ a. a.client) (sym is ∙ k.way.receiver)) in absurd no
    by q k = tt
client-names r h w n from to m is k = tt

-- nor does a target
sent-names : (sender : ActorId) (q : Message) (from to : ActorId) (m : Message) → MaySend sender q to m → NamesSender from m
sent-names sender q from to (message.Reset' t down place asked) k = absurd k
sent-names sender q from to m k = tt

idle-names : (from : ActorId) (p : Post) {me : ℕ} {d : Durable} {posts : List Post} → IsIdlySent me d posts p → NamesSender from p.message
idle-names from p (AMark inc marks is) = subst (NamesSender from) (sym is) tt
idle-names from p (AnInquiry e asked is) = subst (λ y. NamesSender from y.message) (sym is) tt

-- one that comes of a letter to a target tells of that target
reset-names : (r : Rules) (h : History) (w : World) (down : Bool) (q : Letter) → IsAskedSo r h w q.from q.to q.message → NamesSender (reset_letter down q).from (reset_letter down q).message
reset-names r h w down q k = by q.message k
  where
    by : (m : Message) → IsAskedSo r h w q.from q.to m → NamesFor q.to q.to.number m
    by (message.Query x ask) k = k.way.receiver ∙ ap target (ap (λ a. a.number) (sym k.way.receiver))
    by m k = tt

-- ---- events as without stops

module _ (r : Rules) (h later : History) (w v : World) (A : Attempts r h w) (B : Attempts r later v) (k : ResetsNameSenders w) where
  client-turn : ClientMoves w v → ResetsNameSenders v
  client-turn g l i = elim (g.comes l i) [
    | inl old ↦ k l old
    | inr new ↦ client-names r later v new.0 l.from l.to l.message new.1 (B.on.letters l i)
  ]

  pub senders-plain : RightEvent r w v → ResetsNameSenders v
  senders-plain (ByClient g) = client-turn (goes-moves r w v g)
  senders-plain (ToClient g) = client-turn (hears-moves r w v g)
  senders-plain (ToTarget g) = λ l i. elim ((heard-moves r w v g).comes l i) [
    | inl old ↦ k l old
    | inr new ↦
        subst (λ y. NamesSender y.from y.message) (sym new.2)
        (sent-names g.l.from g.l.message (target g.t) new.0.to new.0.message (hears-sends (target_plan r g.t) g.s.opening g.s.memory g.reading g.l.from g.l.message (kept g.s) g.new (g.memory, g.did) g.turn new.0 new.1))
  ]
  senders-plain (ByTarget g) = λ l i. elim ((idle-moves r w v g).comes l i) [
    | inl old ↦ k l old
    | inr new ↦
        subst (λ y. NamesSender y.from y.message) (sym new.2)
        (idle-names (target g.t) new.0 (idles-sends g.settling (target_plan r g.t) g.s.memory (kept g.s) g.new (g.memory, g.did) g.turn new.0 new.1))
  ]

  senders-more : (g : HearsMore r w v) → is_of_stops g.hears.l.message ≡ true → ResetsNameSenders v
  senders-more g ours l i = elim ((heard-moves r w v g.hears).comes l i) [
    | inl old ↦ k l old
    | inr new ↦
        subst (λ y. NamesSender y.from y.message) (sym new.2)
        (sent-names g.hears.l.from g.hears.l.message (target g.hears.t) new.0.to new.0.message
        (more-sends g.number (target_plan r g.hears.t) g.hears.s.opening g.hears.s.memory g.hears.reading g.hears.l.from g.hears.l.message (kept g.hears.s) g.hears.new (g.hears.memory, g.hears.did) ours g.hears.turn new.0 new.1))
  ]

-- ---- stops and openings

-- what comes of what was asked
came-names : (r : Rules) (h : History) (w : World) → Attempts r h w → (down : Bool) (qs : List Letter) → ((q : Letter) → Has q qs → Has q w.asked) → (l : Letter) → Has l (map (reset_letter down) qs) → NamesSender l.from l.message
came-names r h w A down qs among l i =
    let q = has-from_map (reset_letter down) qs l i in
    subst (λ y. NamesSender y.from y.message) q.2 (reset-names r h w down q.0 (A.on.asked q.0 (among q.0 q.1)))

module _ (r : Rules) (h : History) (w v : World) (A : Attempts r h w) (k : ResetsNameSenders w) where
  one-names : (t : ℕ) (down : Bool) → v.messages ≡ filter (is_not_to t) w.messages ++ resets t down w.asked → ResetsNameSenders v
  one-names t down messages l i = elim (has-cases (filter (is_not_to t) w.messages) (resets t down w.asked) l (subst (Has l) messages i)) [
    | inl old ↦ k l (has-from_filter (is_not_to t) w.messages l old).0
    | inr new ↦ came-names r h w A down (filter (is_to t) w.asked) (λ q j. (has-from_filter (is_to t) w.asked q j).0) l new
  ]

  all-names : v.messages ≡ w.messages → ResetsNameSenders v
  all-names same l i = k l (subst (Has l) same i)

pub senders-swept : (r : Rules) (h : History) (w : World) → Attempts r h w → ResetsNameSenders w → ResetsNameSenders (swept w)
senders-swept r h w A k l i =
    let j = has-from_filter (is_not_to_down w.targets) (w.messages ++ map (reset_letter true) (filter (is_to_down w.targets) w.asked)) l i in
    elim (has-cases w.messages (map (reset_letter true) (filter (is_to_down w.targets) w.asked)) l j.0) [
      | inl old ↦ k l old
      | inr new ↦ came-names r h w A true (filter (is_to_down w.targets) w.asked) (λ q o. (has-from_filter (is_to_down w.targets) w.asked q o).0) l new
    ]

module _ (r : Rules) (h later : History) (w v : World) (A : Attempts r h w) (B : Attempts r later v) (k : ResetsNameSenders w) where
  pub senders-happen : (e : Happening r w v) → IsWithoutCollections e → ResetsNameSenders v
  unfolding opening_posts
  senders-happen (Plainly e up) ours = senders-plain r h later w v A B k (events-are-right r h w v A e)
  senders-happen (Further g) ours = senders-more r h later w v A B k g ours
  senders-happen (IsCut g) ours = one-names r h w v A k g.t _ (ap (λ u. u.messages) g.after)
  senders-happen (Opens g) ours = λ l i. elim (has-cases w.messages (letters_of (target g.t) (opening_posts (target_plan r g.t) (reopened g.s.durable))) l (subst (Has l) (ap (λ u. u.messages) g.after) i)) [
    | inl old ↦ k l old
    | inr new ↦
        (let p = has-from_map (letter_of (target g.t)) (opening_posts (target_plan r g.t) (reopened g.s.durable)) l new in
        let q = question-is (reopened g.s.durable).incarnation (filter is_open (filter (is_led g.t) (reopened g.s.durable).entries)) p.0 p.1 in
        subst (λ y. NamesSender y.from y.message) p.2 (subst (λ y. NamesSender (target g.t) y.message) (sym q.is) tt))
  ]
  senders-happen (Fails g) ours = all-names r h w v A k (ap (λ u. u.messages) g.after)
  senders-happen (GivenUp g) ours = one-names r h w v A k g.t _ (ap (λ u. u.messages) g.after)
  senders-happen (Draws g) ours = all-names r h w v A k (ap (λ u. u.messages) g.after)
