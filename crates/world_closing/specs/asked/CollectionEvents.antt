-- Each event of any run keeps that other targets are asked for what is collected.
use Rattle.std.specs.Prelude.{ℕ, ◌≡◌, ◌==◌, ◌&&◌, ◌++◌, not, Bool, true, false, [], filter, map, slice_get, Some, refl}
use Rattle.std.proofs.Common.{sym, ◌∙◌, ap, subst, inl, inr}
use Rattle.std.proofs.Math.ListN.{set}
use Rattle.base_types.specs.declared.id.AttemptId.{AttemptId}
use Rattle.base_messages.specs.declared.actor.ActorId.{ActorId}
use Rattle.model_laws.specs.Members.{Has, has-filter, has-left, has-map, has-right}
use Rattle.model_laws.specs.TargetLaws.{same_number}
use Rattle.world_commit.specs.asks.Moving.{all-stay, goes-moves, hears-moves, idle-moves}
use Rattle.world_commit.specs.attempts.History.{History}
use Rattle.world_commit.specs.attempts.Turning.{one-or_another}
use Rattle.world_base.specs.declared.letter.Letter.{Letter}
use Rattle.world_base.specs.declared.target.Life.{Life}
use Rattle.world_base.specs.declared.target.Life.TheVariants as life
use Rattle.world_base.specs.declared.target.TargetState.{TargetState}
use Rattle.world_base.specs.declared.world.World.{World}
use Rattle.world_base.specs.Events.{ByClient, ByTarget, Event, Rules, ToClient, ToTarget, kept, target_after, target_plan}
use Rattle.world_base.specs.Further.{HearsFurther}
use Rattle.world_base.specs.Letters.{target}
use Rattle.world_base.specs.Snapshots.{others}
use Rattle.world_base.specs.Stops.{Draws, Fails, Further, GivenUp, Happening, IsCut, Opens, Plainly, is_down_at, is_given_up, is_not_to, is_not_to_down, is_to, is_to_down, opened_at, reset_letter, resets, stopped_at, swept}
use Rattle.world_base.specs.TargetTurns.{Hears}
use Rattle.world_commit.specs.fates.Facts.{Attempts, PromptsFly}
use Rattle.world_commit.specs.stops.Parts.{now-here}
use Rattle.world_upheld.specs.below.Legal.{down-there}
use Rattle.world_letters.specs.snapshots.Memories.{idle-same}
use Rattle.world_closing.specs.asked.CollectingTurns.{further-on, plain-on}
use Rattle.world_closing.specs.asked.Waiters.{not-to}
use Rattle.world_closing.specs.asked.Collections.{AllEventsAskOthers, CollectionsAreAsked, IsOnWay, all-same, as-before, both-stay, heard-asked, is-told, one-same, stays-so}

-- ---- a target stops, or is given up

module _ (r : Rules) (w u : World) (fly : PromptsFly w) (n : ℕ) (s z : TargetState) (down : Bool) (here : slice_get w.targets n ≡ Some s) (targets : u.targets ≡ set w.targets n z) (none : z.memory.collecting ≡ [])
    (messages : u.messages ≡ filter (is_not_to n) w.messages ++ resets n down w.asked) where
  lost-on : (t : ℕ) (y : TargetState) (m : ℕ) (x : AttemptId) → slice_get u.targets t ≡ Some y → Has m (others (target_plan r t)) → (y.memory.collecting ≡ [] → ⊥) → IsOnWay w t m x → IsOnWay u t m x
  lost-on t y m x at other some on = elim (one-or_another m n) [
    | inl same ↦ is-told w u fly t m x down (stays t apart) (told same) on
    | inr off ↦ both-stay w u t m x (stays t apart) (stays m off) on
  ]
    where
      apart : t ≡ n → ⊥
      apart same =
          let is : z ≡ y = (let found : Some z ≡ Some y = sym (now-here w u n s z here targets (λ o. o)) ∙ ap (slice_get u.targets) (sym same) ∙ at in cc) in
          some (ap (λ q. q.memory.collecting) (sym is) ∙ none)

      stays : (k : ℕ) → (k ≡ n → ⊥) → (l : Letter) → Has l w.messages → l.to ≡ target k → Has l u.messages
      stays k off l i to = subst (Has l) (sym messages) (has-left (filter (is_not_to n) w.messages) (resets n down w.asked) l (has-filter (is_not_to n) w.messages l i (not-to n k l.to off to)))

      told : m ≡ n → (q : Letter) → Has q w.asked → q.to ≡ target m → q.from ≡ target t → Has (reset_letter down q) u.messages
      told same q i to from =
          subst (Has (reset_letter down q)) (sym messages)
          (has-right (filter (is_not_to n) w.messages) (resets n down w.asked) (reset_letter down q)
          (has-map (reset_letter down) (filter (is_to n) w.asked) q (has-filter (is_to n) w.asked q i (ap (λ a. not a.client && (a.number == n)) to ∙ (ap (λ k. k == n) same ∙ same_number n)))))

  lost-so : CollectionsAreAsked r w → CollectionsAreAsked r u
  lost-so k = as-before r w u (one-same w u n s z here targets (inl none)) k lost-on

-- ---- all that happens

module _ (r : Rules) (h later : History) (w u : World) (A : Attempts r h w) (k : CollectionsAreAsked r w) where
  plainly : Event r w u → CollectionsAreAsked r u
  plainly (ByClient g) = stays-so r w u (all-same w u (goes-moves r w u g).targets) (λ l n i to. (goes-moves r w u g).stays l n i to) k
  plainly (ToClient g) = stays-so r w u (all-same w u (hears-moves r w u g).targets) (λ l n i to. (hears-moves r w u g).stays l n i to) k
  plainly (ToTarget g) = heard-asked r w u Hears g (plain-on (target_plan r g.t) g.s.memory g.l.from g.s.opening g.reading g.l.message (kept g.s) g.new (g.memory, g.did) g.turn) k
  plainly (ByTarget g) =
      stays-so r w u
      (one-same w u g.t g.s (target_after g.s g.new g.memory) g.here (ap (λ y. y.targets) g.after) (inr (idle-same g.settling (target_plan r g.t) g.s.memory g.turn.last g.new (g.memory, g.did) g.turn.ends)))
      (λ l n i to. all-stay w u g.t g.s (target_after g.s g.new g.memory) g.did.posts (idle-moves r w u g) l i) k

  asked-then : Happening r w u → CollectionsAreAsked r u
  asked-then (Plainly e up) = plainly e
  asked-then (Further f) =
      let g = f.hears in
      heard-asked r w u (HearsFurther f.number) g (further-on (target_plan r g.t) g.s.memory g.l.from f.number g.s.opening g.reading g.l.message (kept g.s) g.new (g.memory, g.did) g.turn) k
  asked-then (IsCut g) = lost-so r w u A.prompt g.t g.s (stopped_at g.s g.cut.left) false g.here (ap (λ y. y.targets) g.after) refl (ap (λ y. y.messages) g.after) k
  asked-then (Opens g) =
      stays-so r w u (one-same w u g.t g.s (opened_at r g.t g.number g.s g.free) g.here (ap (λ y. y.targets) g.after) (inl refl)) (λ l n i to. subst (λ y. Has l y.messages) (sym g.after) (has-left w.messages _ l i)) k
  asked-then (Fails g) =
      stays-so r w u (one-same w u g.t g.s (record g.s { durable = g.k.durable; free = g.k.free }) g.here (ap (λ y. y.targets) g.after) (inr refl)) (λ l n i to. subst (λ y. Has l y.messages) (sym g.after) i) k
  asked-then (GivenUp g) =
      lost-so r w u A.prompt g.t g.s (record g.s { life = life.Down }) true g.here (ap (λ y. y.targets) g.after)
      (ap (λ y. y.collecting) (A.on.quiet g.t g.s g.here (λ runs. let stopped = g.stopped in let no : ⊥ = cc (runs, stopped) in no)))
      (ap (λ y. y.messages) g.after) k
  asked-then (Draws g) = stays-so r w u (all-same w u (ap (λ y. y.targets) g.after)) (λ l n i to. subst (λ y. Has l y.messages) (sym g.after) i) k

-- ---- and what goes to targets that are given up is lost

module _ (r : Rules) (later : History) (u : World) (A : Attempts r later u) where
  swept-on : (t : ℕ) (s : TargetState) (m : ℕ) (x : AttemptId) → slice_get u.targets t ≡ Some s → Has m (others (target_plan r t)) → (s.memory.collecting ≡ [] → ⊥) → IsOnWay u t m x → IsOnWay (swept u) t m x
  swept-on t s m x at other some on = by (is_down_at u.targets m) refl
    where
      up : is_down_at u.targets t ≡ false
      up = down-there u.targets t s at ∙ runs s.life refl
        where
          runs : (l : Life) → s.life ≡ l → is_given_up s.life ≡ false
          runs life.Running is = ap is_given_up is
          runs life.Stopped is = ap is_given_up is
          runs life.Down is = absurd (some (ap (λ y. y.collecting) (A.on.quiet t s at (λ runs. let no : ⊥ = cc (runs, is) in no))))

      goes-up : (k : ℕ) → is_down_at u.targets k ≡ false → (a : ActorId) → a ≡ target k → not (not a.client && is_down_at u.targets a.number) ≡ true
      goes-up k off a to = ap (λ b. not (not b.client && is_down_at u.targets b.number)) to ∙ ap not off

      stays : (k : ℕ) → is_down_at u.targets k ≡ false → (l : Letter) → Has l u.messages → l.to ≡ target k → Has l (swept u).messages
      stays k off l i to =
          has-filter (is_not_to_down u.targets) (u.messages ++ map (reset_letter true) (filter (is_to_down u.targets) u.asked)) l (has-left u.messages _ l i) (goes-up k off l.to to)

      told : is_down_at u.targets m ≡ true → (q : Letter) → Has q u.asked → q.to ≡ target m → q.from ≡ target t → Has (reset_letter true q) (swept u).messages
      told down q i to from =
          has-filter (is_not_to_down u.targets) (u.messages ++ map (reset_letter true) (filter (is_to_down u.targets) u.asked)) (reset_letter true q)
          (has-right u.messages _ (reset_letter true q) (has-map (reset_letter true) (filter (is_to_down u.targets) u.asked) q (has-filter (is_to_down u.targets) u.asked q i (ap (λ a. not a.client && is_down_at u.targets a.number) to ∙ down))))
          (goes-up t up q.from from)

      by : (b : Bool) → is_down_at u.targets m ≡ b → IsOnWay (swept u) t m x
      by false off = both-stay u (swept u) t m x (stays t up) (stays m off) on
      by true down = is-told u (swept u) A.prompt t m x true (stays t up) (told down) on

  sweeping-asks : CollectionsAreAsked r u → CollectionsAreAsked r (swept u)
  sweeping-asks k = as-before r u (swept u) (all-same u (swept u) refl) k swept-on

pub all-events-ask_others : AllEventsAskOthers
all-events-ask_others r h later w v A e then' k = subst (CollectionsAreAsked r) (sym e.after) (sweeping-asks r later e.u then' (asked-then r h later w e.u A k e.happens))
