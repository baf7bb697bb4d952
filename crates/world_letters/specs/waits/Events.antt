-- Stops, openings, and what is lost, keep the conversations of clients.
use Rattle.std.specs.Prelude.{ℕ, ◌≡◌, ◌+◌, ◌++◌, zero, suc, ◌==◌, ◌⊎◌, ◌&&◌, ◌||◌, Bool, true, false, not, if◌then◌else◌, List, [], ◌∷◌, filter, map, slice_get, Some, refl}
use Rattle.std.proofs.Common.{append-nil, sym, ◌∙◌, ap, subst, arith, inl, inr}
use Rattle.std.proofs.Math.ListN.{set}
use Rattle.std.proofs.lemmas.Bool.{cases_eq}
use Rattle.std.proofs.lemmas.List.Elements.{filter-append}
use Rattle.base_types.specs.declared.entry.Entry.{Entry}
use Rattle.base_messages.specs.declared.message.Post.{Post}
use Rattle.world_base.specs.model_laws.Members.{Has, has-cases, has-from_map}
use Rattle.daos_model.specs.Changes.{reopened}
use Rattle.daos_model.specs.declared.durable.Durable.{Durable}
use Rattle.world_base.specs.dtx_base.Leading.{first_leader, is_led, is_open, reopened_undecided}
use Rattle.world_base.specs.dtx_base.Members.{other_members}
use Rattle.world_base.specs.declared.client.ClientState.{ClientState}
use Rattle.world_base.specs.declared.letter.Letter.{Letter}
use Rattle.world_base.specs.declared.target.Life.TheVariants.{Down, Running}
use Rattle.world_base.specs.declared.target.TargetState.{TargetState}
use Rattle.world_base.specs.declared.world.World.{World}
use Rattle.world_base.specs.ClientTurns.{waits}
use Rattle.world_base.specs.Events.{Rules, client_plan, target_plan}
use Rattle.world_base.specs.Letters.{asked_after, asked_with, is_answer_to, is_answerable, is_talk_of, is_tell, letter_of, letters_of, talk_of, target, without_first}
use Rattle.world_base.specs.Statuses.{opening_memory, opening_posts, status_to, statuses_for, statuses_of}
use Rattle.world_base.specs.StepLaws.{set-is, set-there}
use Rattle.world_base.specs.Stops.{NumbersDrawn, OpeningFails, TargetCut, TargetGivenUp, TargetOpens, is_down_at, is_given_up, is_not_to, opened_at, reset_letter, resets, stopped_at, swept}
use Rattle.world_letters.specs.waits.Lists.{filter-none, filter-swap, goes_to, held-lost, held-off, held-same, is_held_off, is_number_of, nothing-held, resets-stay, resets-talk, stays_off}
use Rattle.world_letters.specs.waits.Losing.{LosesFor, quiet-on, talks-on}
use Rattle.world_letters.specs.waits.Waits.{Conversation, HoldsNothing, IsQuiet, TalksSo, asked_of, held_by, held_from, held_of, is_asked_by, is_open_of, open_at}

-- ---- conversations where some is lost

lost-on : (r : Rules) (gone : ℕ → Bool) (down : Bool) (w v : World) → v.clients ≡ w.clients → ((n : ℕ) → LosesFor gone down n w v) → ((t : ℕ) (s : TargetState) → slice_get v.targets t ≡ Some s → (s.life ≡ Running → ⊥) → HoldsNothing s.memory)
    → Conversation r w → Conversation r v
lost-on r gone down w v clients loses quiet k = record {
  talks = λ n c at. talks-on gone down (client_plan r n) n c w v (waits c) (loses n) (k.talks n c (ap (λ cs. slice_get cs n) (sym clients) ∙ at));
  nobody = λ n none. quiet-on gone down n w v (loses n) (k.nobody n (ap (λ cs. slice_get cs n) (sym clients) ∙ none));
  quiet = quiet;
}

-- and where all stays
pub same-on : (r : Rules) (w v : World) → v.clients ≡ w.clients → ((n : ℕ) → talk_of n v.messages ≡ talk_of n w.messages) → ((n : ℕ) → held_of n v ≡ held_of n w) → ((n : ℕ) → asked_of n v ≡ asked_of n w)
    → ((t : ℕ) (s : TargetState) → slice_get v.targets t ≡ Some s → (s.life ≡ Running → ⊥) → HoldsNothing s.memory) → Conversation r w → Conversation r v
same-on r w v clients letters held asked quiet k = record {
  talks = λ n c at. subst (λ ls. TalksSo (client_plan r n) n c ls (held_of n v) (asked_of n v) (waits c)) (sym (letters n))
      (subst (λ hs. TalksSo (client_plan r n) n c (talk_of n w.messages) hs (asked_of n v) (waits c)) (sym (held n))
      (subst (λ as'. TalksSo (client_plan r n) n c (talk_of n w.messages) (held_of n w) as' (waits c)) (sym (asked n)) (k.talks n c (ap (λ cs. slice_get cs n) (sym clients) ∙ at))));
  nobody = λ n none. (let q = k.nobody n (ap (λ cs. slice_get cs n) (sym clients) ∙ none) in record { no_letters = letters n ∙ q.no_letters; none_held = held n ∙ q.none_held; none_asked = asked n ∙ q.none_asked });
  quiet = quiet;
}

-- the letters of a client where what goes to some targets is lost
lost-letters : (n : ℕ) (gone : ℕ → Bool) (down : Bool) (ms asked : List Letter)
    → talk_of n (filter (stays_off gone) ms ++ map (reset_letter down) (filter (goes_to gone) asked)) ≡ filter (stays_off gone) (talk_of n ms) ++ map (reset_letter down) (filter (goes_to gone) (filter (is_asked_by n) asked))
lost-letters n gone down ms asked =
    filter-append (is_talk_of n) (filter (stays_off gone) ms) (map (reset_letter down) (filter (goes_to gone) asked)) ∙ ap (λ x. x ++ talk_of n (map (reset_letter down) (filter (goes_to gone) asked))) (filter-swap (is_talk_of n) (stays_off gone) ms)
    ∙ ap (λ x. filter (stays_off gone) (talk_of n ms) ++ x) (resets-talk n gone down asked)

-- ---- one target

-- who doesn't run holds nothing, where one changed
pub quiet-set : (r : Rules) (w v : World) (t : ℕ) (z : TargetState) → v.targets ≡ set w.targets t z → ((z.life ≡ Running → ⊥) → HoldsNothing z.memory) → Conversation r w → (u : ℕ) (s : TargetState) → slice_get v.targets u ≡ Some s → (s.life ≡ Running → ⊥)
    → HoldsNothing s.memory
quiet-set r w v t z targets own k u s at off = by (cases_eq u t)
  where
    there : slice_get (set w.targets t z) u ≡ Some s
    there = ap (λ xs. slice_get xs u) (sym targets) ∙ at

    by : (u ≡ t) ⊎ ((u ≡ t) → ⊥) → HoldsNothing s.memory
    by (inl same) = let is : z ≡ s = set-is w.targets t z s (subst (λ n. slice_get (set w.targets t z) n ≡ Some s) same there) in subst (λ x. HoldsNothing x.memory) is (own (λ runs. off (ap (λ x. x.life) (sym is) ∙ runs)))
    by (inr apart) = k.quiet u s (sym (set-there w.targets t u z apart) ∙ there) off

-- a target comes to hold nothing, and what goes to it is lost
one-lost : (r : Rules) (down : Bool) (w v : World) (t : ℕ) (s z : TargetState) → slice_get w.targets t ≡ Some s → HoldsNothing z.memory → v.clients ≡ w.clients → v.targets ≡ set w.targets t z
    → v.messages ≡ filter (is_not_to t) w.messages ++ resets t down w.asked → v.asked ≡ filter (is_not_to t) w.asked → Conversation r w → Conversation r v
one-lost r down w v t s z here holds clients targets messages asked k =
    lost-on r (is_number_of t) down w v clients (λ n. record {
      letters = ap (talk_of n) messages ∙ lost-letters n (is_number_of t) down w.messages w.asked;
      held = ap (held_from n 0) targets ∙ held-lost n 0 t w.targets s z here (nothing-held n (0 + t) z.memory holds) ∙ ap (λ m. filter (is_held_off (is_number_of m)) (held_of n w)) (let e : 0 + t ≡ t = omega arith in e);
      asked = ap (filter (is_asked_by n)) asked ∙ filter-swap (is_asked_by n) (stays_off (is_number_of t)) w.asked;
    }) (quiet-set r w v t z targets (λ off. holds) k) k

pub cut-keeps : (r : Rules) (w v : World) → TargetCut r w v → Conversation r w → Conversation r v
cut-keeps r w v g k =
    one-lost r false w v g.t g.s (stopped_at g.s g.cut.left) g.here (record { parked = refl; undecided = refl; collecting = refl }) (ap (λ x. x.clients) g.after) (ap (λ x. x.targets) g.after) (ap (λ x. x.messages) g.after) (ap (λ x. x.asked) g.after) k

pub given_up-keeps : (r : Rules) (w v : World) → TargetGivenUp r w v → Conversation r w → Conversation r v
given_up-keeps r w v g k =
    one-lost r true w v g.t g.s (record g.s { life = Down }) g.here (k.quiet g.t g.s g.here (λ runs. let no : ⊥ = cc (g.stopped, runs) in no)) (ap (λ x. x.clients) g.after) (ap (λ x. x.targets) g.after) (ap (λ x. x.messages) g.after) (ap (λ x. x.asked) g.after) k

pub failing-keeps : (r : Rules) (w v : World) → OpeningFails r w v → Conversation r w → Conversation r v
failing-keeps r w v g k =
    same-on r w v (ap (λ x. x.clients) g.after) (λ n. ap (λ x. talk_of n x.messages) g.after) (λ n. ap (λ x. held_of n x) g.after ∙ held-same n 0 g.t w.targets g.s z g.here refl) (λ n. ap (λ x. asked_of n x) g.after)
    (quiet-set r w v g.t z (ap (λ x. x.targets) g.after) (λ off. k.quiet g.t g.s g.here off) k) k
  where
    z : TargetState
    z = record g.s { durable = g.k.durable; free = g.k.free }

pub drawing-keeps : (r : Rules) (w v : World) → NumbersDrawn w v → Conversation r w → Conversation r v
drawing-keeps r w v g k = subst (Conversation r) (sym g.after) (record { talks = k.talks; nobody = k.nobody; quiet = k.quiet })

-- ---- a target opens

-- what goes from a target to another one is of no client's conversation
pub off-talk : (n t : ℕ) (p : Post) → p.to.client ≡ false → is_talk_of n (letter_of (target t) p) ≡ false
unfolding is_talk_of
off-talk n t p to = by (is_tell p.message) (ap (λ b. b && (p.to.number == n)) to)
  where
    by : (b : Bool) → (p.to.client && (p.to.number == n)) ≡ false → (not b && (false || (p.to.client && (p.to.number == n)))) ≡ false
    by true e = refl
    by false e = e

statuses-to : (inc : ℕ) (es : List Entry) (p : Post) → Has p (statuses_for inc es) → (p.to.client ≡ false) × (is_answerable p.message ≡ true)
statuses-to inc [] p i = absurd i
statuses-to inc (e ∷ es) p i = elim (has-cases (statuses_of inc e) (statuses_for inc es) p i) [
  | inl j ↦ (let z = has-from_map (status_to inc e.attempt) (other_members e) p j in (ap (λ x. x.to.client) (sym z.2), ap (λ x. is_answerable x.message) (sym z.2)))
  | inr j ↦ statuses-to inc es p j
]

opening-off : (n : ℕ) (r : Rules) (t : ℕ) (d : Durable) → talk_of n (letters_of (target t) (opening_posts (target_plan r t) d)) ≡ []
unfolding opening_posts
opening-off n r t d = filter-none (is_talk_of n) (letters_of (target t) (statuses_for d.incarnation (filter is_open (filter (is_led t) d.entries))))
    (λ l i. let z = has-from_map (letter_of (target t)) (statuses_for d.incarnation (filter is_open (filter (is_led t) d.entries))) l i in
    subst (λ x. is_talk_of n x ≡ false) z.2 (off-talk n t z.0 (statuses-to d.incarnation (filter is_open (filter (is_led t) d.entries)) z.0 z.1).0))

-- what a target asks leaves what clients asked
asks-beside : (n t : ℕ) (asked : List Letter) (ps : List Post) → ((p : Post) → Has p ps → is_answerable p.message ≡ true) → filter (is_asked_by n) (asked_after asked (letters_of (target t) ps)) ≡ filter (is_asked_by n) asked
unfolding asked_with
asks-beside n t asked [] all = refl
asks-beside n t asked (p ∷ ps) all = asks-beside n t (asked_with asked (letter_of (target t) p)) ps (λ q i. all q (inr i)) ∙ one (all p (inl refl))
  where
    one : is_answerable p.message ≡ true → filter (is_asked_by n) (asked_with asked (letter_of (target t) p)) ≡ filter (is_asked_by n) asked
    one is = ap (λ b. filter (is_asked_by n) (if b then asked ++ letter_of (target t) p ∷ [] else without_first (is_answer_to (letter_of (target t) p)) asked)) is
        ∙ filter-append (is_asked_by n) asked (letter_of (target t) p ∷ []) ∙ append-nil (filter (is_asked_by n) asked)

opening-asks : (n : ℕ) (r : Rules) (t : ℕ) (d : Durable) (asked : List Letter) → filter (is_asked_by n) (asked_after asked (letters_of (target t) (opening_posts (target_plan r t) d))) ≡ filter (is_asked_by n) asked
unfolding opening_posts
opening-asks n r t d asked = asks-beside n t asked (statuses_for d.incarnation (filter is_open (filter (is_led t) d.entries))) (λ p i. (statuses-to d.incarnation (filter is_open (filter (is_led t) d.entries)) p i).1)

-- no client waits at a target that has just opened
none-waits : (n : ℕ) (es : List Entry) → filter (is_open_of n) (map reopened_undecided es) ≡ []
none-waits n es = filter-none (is_open_of n) (map reopened_undecided es) (λ u i. let z = has-from_map reopened_undecided es u i in subst (λ x. is_open_of n x ≡ false) z.2 refl)

opened-holds : (n t : ℕ) (r : Rules) (d : Durable) → held_by n t (opening_memory (target_plan r t) d) ≡ []
unfolding first_leader
opened-holds n t r d = ap (λ us. map (open_at t) us ++ []) (none-waits n (filter is_open (filter (is_led t) d.entries)))

pub opening-keeps : (r : Rules) (w v : World) → TargetOpens r w v → Conversation r w → Conversation r v
opening-keeps r w v g k =
    same-on r w v (ap (λ x. x.clients) g.after)
    (λ n. ap (λ x. talk_of n x.messages) g.after ∙ filter-append (is_talk_of n) w.messages (letters_of (target g.t) (opening_posts (target_plan r g.t) (reopened g.s.durable))) ∙ ap (λ x. talk_of n w.messages ++ x) (opening-off n r g.t (reopened g.s.durable)) ∙ append-nil (talk_of n w.messages))
    (λ n. ap (λ x. held_of n x) g.after ∙ held-same n 0 g.t w.targets g.s z g.here (holds n))
    (λ n. ap (λ x. asked_of n x) g.after ∙ opening-asks n r g.t (reopened g.s.durable) w.asked)
    (quiet-set r w v g.t z (ap (λ x. x.targets) g.after) (λ off. absurd (off refl)) k) k
  where
    z : TargetState
    z = opened_at r g.t g.number g.s g.free

    was : HoldsNothing g.s.memory
    was = k.quiet g.t g.s g.here (λ runs. let no : ⊥ = cc (g.stopped, runs) in no)

    holds : (n : ℕ) → held_by n (0 + g.t) z.memory ≡ held_by n (0 + g.t) g.s.memory
    holds n = subst (λ m. held_by n m z.memory ≡ held_by n m g.s.memory) (let e : g.t ≡ 0 + g.t = omega arith in e) (opened-holds n g.t r (reopened g.s.durable) ∙ sym (nothing-held n g.t g.s.memory was))

-- ---- what goes to targets that are given up

down-is : (ss : List TargetState) (t : ℕ) (s : TargetState) → slice_get ss t ≡ Some s → is_down_at ss t ≡ true → s.life ≡ Running → ⊥
down-is [] t s at down runs = let no : ⊥ = cc in no
down-is (z ∷ ss) zero s at down runs = let same : z ≡ s = cc in let no : is_given_up Running ≡ true = sym (ap is_given_up (ap (λ x. x.life) same ∙ runs)) ∙ down in let bad : ⊥ = cc in bad
down-is (z ∷ ss) (suc t) s at down runs = down-is ss t s at down runs

pub sweep-keeps : (r : Rules) (w : World) → Conversation r w → Conversation r (swept w)
sweep-keeps r w k =
    lost-on r gone true w (swept w) refl (λ n. record {
      letters = letters n;
      held = sym (held-off n 0 gone w.targets (λ i s here down. nothing-held n (0 + i) s.memory (k.quiet i s here (down-is w.targets i s here (subst (λ m. is_down_at w.targets m ≡ true) (let e : 0 + i ≡ i = omega arith in e) down)))));
      asked = filter-swap (is_asked_by n) (stays_off gone) w.asked;
    }) k.quiet k
  where
    gone : ℕ → Bool
    gone t = is_down_at w.targets t

    told : List Letter
    told = map (reset_letter true) (filter (goes_to gone) w.asked)

    letters : (n : ℕ) → talk_of n (swept w).messages ≡ filter (stays_off gone) (talk_of n w.messages) ++ map (reset_letter true) (filter (goes_to gone) (asked_of n w))
    letters n =
        filter-swap (is_talk_of n) (stays_off gone) (w.messages ++ told) ∙ ap (filter (stays_off gone)) (filter-append (is_talk_of n) w.messages told ∙ ap (λ x. talk_of n w.messages ++ x) (resets-talk n gone true w.asked))
        ∙ filter-append (stays_off gone) (talk_of n w.messages) (map (reset_letter true) (filter (goes_to gone) (asked_of n w))) ∙ ap (λ x. filter (stays_off gone) (talk_of n w.messages) ++ x) (resets-stay n gone true w.asked)

-- ---- the beginning

none-held : (n t : ℕ) (ss : List TargetState) → ((i : ℕ) (s : TargetState) → slice_get ss i ≡ Some s → HoldsNothing s.memory) → held_from n t ss ≡ []
none-held n t [] h = refl
none-held n t (s ∷ ss) h = ap (λ x. x ++ held_from n (t + 1) ss) (nothing-held n t s.memory (h 0 s refl)) ∙ none-held n (t + 1) ss (λ i. h (suc i))

pub conversations-begin : (r : Rules) (w : World) → w.messages ≡ [] → w.asked ≡ [] → ((t : ℕ) (s : TargetState) → slice_get w.targets t ≡ Some s → HoldsNothing s.memory) → ((n : ℕ) (c : ClientState) → slice_get w.clients n ≡ Some c → waits c ≡ false) → Conversation r w
conversations-begin r w messages asked hold free = record {
  talks = λ n c at. subst (TalksSo (client_plan r n) n c (talk_of n w.messages) (held_of n w) (asked_of n w)) (sym (free n c at)) (nothing n);
  nobody = λ n none. nothing n;
  quiet = λ t s at off. hold t s at;
}
  where
    nothing : (n : ℕ) → IsQuiet (talk_of n w.messages) (held_of n w) (asked_of n w)
    nothing n = record { no_letters = ap (talk_of n) messages; none_held = none-held n 0 w.targets hold; none_asked = ap (filter (is_asked_by n)) asked }
