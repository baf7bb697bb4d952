-- Stops, openings and losses keep what is stored once.
use Rattle.std.specs.Prelude.{ℕ, ◌≡◌, ◌++◌, ◌==◌, ◌⊎◌, ◌&&◌, not, Bool, true, false, List, [], ◌∷◌, map, filter, Contains, refl}
use Rattle.std.proofs.Common.{append-nil, inl, inr, sym, ◌∙◌, ap, subst}
use Rattle.std.proofs.lemmas.List.Elements.{Contains-append_left}
use Rattle.base_types.specs.declared.entry.Entry.{Entry}
use Rattle.base_types.specs.declared.epoch.Epoch.{Epoch}
use Rattle.base_types.specs.declared.id.AttemptId.{AttemptId}
use Rattle.base_types.specs.declared.report.Line.{Line}
use Rattle.base_types.specs.declared.report.Line.TheVariants as line
use Rattle.base_messages.specs.declared.message.Message.{Message}
use Rattle.base_messages.specs.declared.message.Post.{Post}
use Rattle.daos_model.specs.Attempts.{tries}
use Rattle.daos_model.specs.BoolLaws.{clash}
use Rattle.daos_model.specs.Changes.{reopened}
use Rattle.daos_model.specs.Laws.{tries-append}
use Rattle.daos_model.specs.declared.durable.Durable.{Durable}
use Rattle.dtx_base.specs.Leading.{is_led, is_open}
use Rattle.dtx_base.specs.Members.{other_members}
use Rattle.model_laws.specs.Members.{Has, contains-from_has, has-cases, has-from_contains, has-from_filter, has-from_map}
use Rattle.model_laws.specs.TargetLaws.{same_number}
use Rattle.world_base.specs.declared.letter.Letter.{Letter}
use Rattle.world_base.specs.declared.target.TargetState.{TargetState}
use Rattle.world_base.specs.declared.world.World.{World}
use Rattle.world_base.specs.CutTurns.{Cutting}
use Rattle.world_base.specs.Events.{Rules, target_plan}
use Rattle.world_base.specs.Letters.{letter_of, letters_of, target}
use Rattle.world_base.specs.Statuses.{opening_posts, status_to, statuses_for, statuses_of}
use Rattle.world_base.specs.Stops.{NumbersDrawn, OpeningFails, TargetGivenUp, TargetOpens, after_cut, is_not_to, is_not_to_down, is_to, is_to_down, reset_letter, resets, restart_line, stops_so_far, swept, with_lost}
use Rattle.world_causes.specs.causes.Causes.{Stored}
use Rattle.world_causes.specs.causes.StoreTurns.{IsCommitOf}
use Rattle.world_causes.specs.outcomes.Outcomes.{IsHandedOver}
use Rattle.world_causes.specs.stored.Over.{StoringOver}
use Rattle.world_causes.specs.causes.Storing.{HasItsLine, IsAskedAt, IsPrepareOf, IsRefusedAt, IsTold, RefusesAt, StoredOnce}

-- ---- a world after another

-- a message that asks for nothing to be stored, and tells of no lack of space
abbrev pub TellsNothing : Message → Type 0
TellsNothing m = ((t : ℕ) (x : AttemptId) → RefusesAt m t x → ⊥) × ((x : AttemptId) → IsPrepareOf m x → ⊥) × ((x : AttemptId) → IsCommitOf m x → ⊥)

-- clients are as they were; epochs were issued; lines tell of the same attempts; and each message was there before, or tells nothing
pub record Follows (w v : World) : Type 0 where
  pub clients : v.clients ≡ w.clients
  pub issued : (x : AttemptId) (e : Epoch) → Contains w.issued (x, e) → Contains v.issued (x, e)
  pub lines : tries v.lines ≡ tries w.lines
  pub letters : (l : Letter) → Contains v.messages l → Contains w.messages l ⊎ TellsNothing l.message

module _ (w v : World) (k : Follows w v) where
  asked-before : (t : ℕ) (x : AttemptId) → IsAskedAt v t x → IsAskedAt w t x
  asked-before t x a = elim (k.letters a.l a.among) [ inl j ↦ record { l = a.l; among = j; to = a.to; its = a.its } | inr none ↦ absurd (none.1 x a.its) ]

  pub refused-before : (t : ℕ) (x : AttemptId) → IsRefusedAt v t x → IsRefusedAt w t x
  refused-before t x (IsTold l i tells) = elim (k.letters l i) [ inl j ↦ IsTold l j tells | inr none ↦ absurd (none.0 t x tells) ]
  refused-before t x (HasItsLine a need free i id how) = HasItsLine a need free (subst (λ as'. Contains as' a) k.lines i) id how

  pub follows-keeps : (stored : Stored) → StoredOnce stored w → StoredOnce stored v
  follows-keeps stored S = record {
    once = S.once;
    issued = λ t x i. let z = S.issued t x i in (z.0, k.issued x z.0 z.1);
    asked = λ t x a. S.asked t x (asked-before t x a);
    refused = λ t x f. let z = S.refused t x (refused-before t x f) in (z.0, λ a. z.1 (asked-before t x a));
  }

  pub follows-over : (r : Rules) (stored : Stored) → StoringOver r stored w → StoringOver r stored v
  follows-over r stored S = record {
    so = follows-keeps stored S.so;
    handed = λ t x i. subst (λ cs. IsHandedOver r cs x) (sym k.clients) (S.handed t x i);
    uncommitted = λ t x l i j c. elim (k.letters l j) [ inl among ↦ S.uncommitted t x l i among c | inr none ↦ none.2 x c ];
  }

-- ---- lines and letters

-- lines that tell of no attempt
more-lines : (lines more : List Line) → tries more ≡ [] → tries (lines ++ more) ≡ tries lines
more-lines lines more none = tries-append lines more ∙ ap (λ as'. tries lines ++ as') none ∙ append-nil (tries lines)

stop-silent : (n t : ℕ) → tries (line.Stop n t ∷ []) ≡ []
unfolding tries
stop-silent n t = refl

restart-silent : (n t : ℕ) (d : Durable) → tries (restart_line n t d ∷ []) ≡ []
unfolding tries
restart-silent n t d = refl

down-silent : (t : ℕ) → tries (line.Down t ∷ []) ≡ []
unfolding tries
down-silent t = refl

reset-nothing : (down : Bool) (l : Letter) → TellsNothing (reset_letter down l).message
reset-nothing down l = (λ t x k. k, λ x k. k, λ x k. k)

pub resets-nothing : (down : Bool) (qs : List Letter) (l : Letter) → Has l (map (reset_letter down) qs) → TellsNothing l.message
resets-nothing down qs l i = let z = has-from_map (reset_letter down) qs l i in subst (λ x. TellsNothing x.message) z.2 (reset-nothing down z.0)

pub lost-letters : (w : World) (t : ℕ) (down : Bool) (l : Letter) → Contains (with_lost t down w).messages l → Contains w.messages l ⊎ TellsNothing l.message
lost-letters w t down l i = elim (has-cases (filter (is_not_to t) w.messages) (resets t down w.asked) l (has-from_contains (filter (is_not_to t) w.messages ++ resets t down w.asked) l i)) [
  | inl j ↦ inl (contains-from_has w.messages l (has-from_filter (is_not_to t) w.messages l j).0)
  | inr j ↦ inr (resets-nothing down (filter (is_to t) w.asked) l j)
]

statuses-nothing : (inc : ℕ) (es : List Entry) (q : Post) → Has q (statuses_for inc es) → TellsNothing q.message
statuses-nothing inc [] q i = absurd i
statuses-nothing inc (e ∷ es) q i = elim (has-cases (statuses_of inc e) (statuses_for inc es) q i) [
  | inl j ↦ (let z = has-from_map (status_to inc e.attempt) (other_members e) q j in subst (λ x. TellsNothing x.message) z.2 (λ t x k. k, λ x k. k, λ x k. k))
  | inr j ↦ statuses-nothing inc es q j
]

opening-nothing : (r : Rules) (t : ℕ) (d : Durable) (q : Post) → Has q (opening_posts (target_plan r t) d) → TellsNothing q.message
unfolding opening_posts
opening-nothing r t d = statuses-nothing d.incarnation (filter is_open (filter (is_led t) d.entries))

-- ---- the laws

pub stop-follows : (w : World) (t : ℕ) (s : TargetState) (cut : Cutting) → tries cut.lines ≡ [] → Follows w (after_cut w t s cut)
stop-follows w t s cut none = record {
  clients = refl;
  issued = λ x e i. Contains-append_left w.issued cut.issued (x, e) i;
  lines = more-lines (w.lines ++ cut.lines) (line.Stop (stops_so_far w.lines) t ∷ []) (stop-silent (stops_so_far w.lines) t) ∙ more-lines w.lines cut.lines none;
  letters = lost-letters w t false;
}

pub stop-keeps : (r : Rules) (stored : Stored) (w v : World) (t : ℕ) (s : TargetState) (cut : Cutting) → v ≡ after_cut w t s cut → tries cut.lines ≡ [] → StoringOver r stored w → StoringOver r stored v
stop-keeps r stored w v t s cut after none = follows-over w v (subst (Follows w) (sym after) (stop-follows w t s cut none)) r stored

pub late-keeps : (stored : Stored) (w : World) (t : ℕ) (x : AttemptId) (e : Epoch) → Contains w.issued (x, e) → (Contains stored (t, x) → ⊥) → (IsAskedAt w t x → ⊥) → (IsRefusedAt w t x → ⊥) → StoredOnce stored w
    → StoredOnce ((t, x) ∷ stored) w
late-keeps stored w t x e dated new quiet allowed S = record {
  once = (λ i. new (contains-from_has stored (t, x) i), S.once);
  issued = λ u y i. elim (cases u y i) [ inl same ↦ (e, subst (λ z. Contains w.issued (z, e)) (sym same.1) dated) | inr j ↦ S.issued u y j ];
  asked = λ u y a i. elim (cases u y i) [ inl same ↦ quiet (subst (λ n. IsAskedAt w n x) same.0 (subst (IsAskedAt w u) same.1 a)) | inr j ↦ S.asked u y a j ];
  refused = λ u y f. (λ i. elim (cases u y i) [ inl same ↦ allowed (subst (λ n. IsRefusedAt w n x) same.0 (subst (IsRefusedAt w u) same.1 f)) | inr j ↦ (S.refused u y f).0 j ], (S.refused u y f).1);
}
  where
    all : Stored
    all = (t, x) ∷ stored

    cases : (u : ℕ) (y : AttemptId) → Contains all (u, y) → ((u ≡ t) × (y ≡ x)) ⊎ Contains stored (u, y)
    cases u y i = elim (has-from_contains all (u, y) i) [ inl same ↦ inl (ap (λ z. z.0) same, ap (λ z. z.1) same) | inr j ↦ inr (contains-from_has stored (u, y) j) ]

-- what goes to a target doesn't pass by it
pub goes-there : (l : Letter) (t : ℕ) → l.to ≡ target t → is_not_to t l ≡ false
goes-there l t to = ap (λ a. not (not a.client && (a.number == t))) to ∙ ap not (same_number t)

pub asks-nothing : (w v : World) (t : ℕ) (s : TargetState) (cut : Cutting) (x : AttemptId) → v ≡ after_cut w t s cut → IsAskedAt v t x → ⊥
asks-nothing w v t s cut x after a = elim (has-cases (filter (is_not_to t) w.messages) (resets t false w.asked) a.l (has-from_contains _ a.l (subst (λ z. Contains z.messages a.l) after a.among))) [
  | inl j ↦ clash (is_not_to t a.l) (has-from_filter (is_not_to t) w.messages a.l j).1 (goes-there a.l t a.to)
  | inr j ↦ (resets-nothing false (filter (is_to t) w.asked) a.l j).1 x a.its
]

pub opening-follows : (r : Rules) (w v : World) → TargetOpens r w v → Follows w v
opening-follows r w v g = subst (Follows w) (sym g.after) (record {
  clients = refl;
  issued = λ x e i. i;
  lines = more-lines w.lines (restart_line g.number g.t g.s.durable ∷ []) (restart-silent g.number g.t g.s.durable);
  letters = λ l i. elim (has-cases w.messages (letters_of (target g.t) posts) l (has-from_contains (w.messages ++ letters_of (target g.t) posts) l i)) [
    | inl j ↦ inl (contains-from_has w.messages l j)
    | inr j ↦ inr (let q = has-from_map (letter_of (target g.t)) posts l j in subst (λ x. TellsNothing x.message) q.2 (opening-nothing r g.t (reopened g.s.durable) q.0 q.1))
  ];
})
  where
    posts : List Post
    posts = opening_posts (target_plan r g.t) (reopened g.s.durable)

pub failure-follows : (r : Rules) (w v : World) → OpeningFails r w v → Follows w v
failure-follows r w v g = subst (Follows w) (sym g.after) (record { clients = refl; issued = λ x e i. i; lines = refl; letters = λ l i. inl i })

pub giving-up_follows : (r : Rules) (w v : World) → TargetGivenUp r w v → Follows w v
giving-up_follows r w v g = subst (Follows w) (sym g.after) (record { clients = refl; issued = λ x e i. i; lines = more-lines w.lines (line.Down g.t ∷ []) (down-silent g.t); letters = lost-letters w g.t true })

pub sweep-follows : (w : World) → Follows w (swept w)
sweep-follows w = record {
  clients = refl;
  issued = λ x e i. i;
  lines = refl;
  letters = λ l i. elim (has-cases w.messages told l (has-from_filter (is_not_to_down w.targets) (w.messages ++ told) l (has-from_contains (swept w).messages l i)).0) [
    | inl j ↦ inl (contains-from_has w.messages l j)
    | inr j ↦ inr (resets-nothing true (filter (is_to_down w.targets) w.asked) l j)
  ];
}
  where
    told : List Letter
    told = map (reset_letter true) (filter (is_to_down w.targets) w.asked)

pub numbers-follow : (w v : World) → NumbersDrawn w v → Follows w v
numbers-follow w v g = subst (Follows w) (sym g.after) (record { clients = refl; issued = λ x e i. i; lines = refl; letters = λ l i. inl i })

pub opening-keeps : (r : Rules) (stored : Stored) (w v : World) → TargetOpens r w v → StoringOver r stored w → StoringOver r stored v
opening-keeps r stored w v g = follows-over w v (opening-follows r w v g) r stored

pub failure-keeps : (r : Rules) (stored : Stored) (w v : World) → OpeningFails r w v → StoringOver r stored w → StoringOver r stored v
failure-keeps r stored w v g = follows-over w v (failure-follows r w v g) r stored

pub giving-up_keeps : (r : Rules) (stored : Stored) (w v : World) → TargetGivenUp r w v → StoringOver r stored w → StoringOver r stored v
giving-up_keeps r stored w v g = follows-over w v (giving-up_follows r w v g) r stored

pub sweep-keeps : (r : Rules) (stored : Stored) (w : World) → StoringOver r stored w → StoringOver r stored (swept w)
sweep-keeps r stored w = follows-over w (swept w) (sweep-follows w) r stored

pub numbers-keep : (r : Rules) (stored : Stored) (w v : World) → NumbersDrawn w v → StoringOver r stored w → StoringOver r stored v
numbers-keep r stored w v g = follows-over w v (numbers-follow w v g) r stored
