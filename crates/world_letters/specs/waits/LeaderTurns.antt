-- A leader is answered, is asked by a client what became of an attempt, or is told that it gets no answer.
use Rattle.std.specs.Prelude.{ℕ, ◌≡◌, ◌++◌, Bool, true, false, not, if◌then◌else◌, List, [], ◌∷◌, filter, map, Option, Some, None, refl}
use Rattle.std.proofs.Common.{append-nil, sym, ◌∙◌, ap, subst, inl, inr}
use Rattle.std.proofs.lemmas.List.Elements.{filter-append}
use Rattle.base_types.specs.declared.epoch.Epoch.{Epoch}
use Rattle.base_types.specs.declared.id.AttemptId.{AttemptId}
use Rattle.base_types.specs.declared.outcome.Outcome.{Outcome}
use Rattle.base_messages.specs.declared.actor.ActorId.{ActorId}
use Rattle.base_messages.specs.declared.message.Message.TheVariants as message
use Rattle.base_messages.specs.declared.message.Post.{Post}
use Rattle.daos_model.specs.BoolLaws.{clash, false_of}
use Rattle.daos_model.specs.Durables.{attempt_key, same_attempt}
use Rattle.daos_model.specs.EntryLaws.{same_attempt-itself}
use Rattle.daos_model.specs.Ordered.{all_after, is_rising}
use Rattle.daos_model.specs.OrderLaws.{before-itself}
use Rattle.daos_model.specs.Answers.{is_before}
use Rattle.daos_model.specs.BoolLaws.{and_left, and_right}
use Rattle.world_base.specs.dtx_base.declared.leading.Undecided.{Undecided}
use Rattle.world_base.specs.dtx_base.LeaderLaws.{same-is}
use Rattle.world_base.specs.dtx_base.Leading.{LeaderOf, ended, undecided_attempt, unwaited_at}
use Rattle.world_base.specs.dtx_base.RowLaws.{row-is}
use Rattle.world_base.specs.dtx_base.Rows.{is_other_row, is_row_of, row_key, row_of, without_row}
use Rattle.world_base.specs.model_laws.Members.{Has, has-filter, has-from_filter, has-from_map, has-map}
use Rattle.world_base.specs.model_laws.RisingLaws.{after-has}
use Rattle.world_base.specs.declared.did.Did.{Did}
use Rattle.world_base.specs.declared.target.TargetMemory.{TargetMemory}
use Rattle.world_base.specs.declared.target.TargetPlan.{TargetPlan}
use Rattle.world_base.specs.Acks as ack
use Rattle.world_base.specs.Changes.{Change, Kept, Steps}
use Rattle.world_base.specs.PathLaws.{reached-keeps}
use Rattle.world_base.specs.Roles.{leader_at}
use Rattle.world_base.specs.Turns.{Whole}
use Rattle.world_letters.specs.talks.Conversation.{Answers}
use Rattle.world_letters.specs.talks.LeaveLaws.{AckIs, Ends, Stays, ack-is}
use Rattle.world_letters.specs.waits.Lists.{filter-all, filter-no, filter-none, filter-swap, filter-yes}
use Rattle.world_letters.specs.waits.Parts.{HandsOn, Holding, Leaves, Passes, ends-for, held-parts, open-is, open-part_same, open_part, parked_part, collected_part, row-is_held}
use Rattle.world_letters.specs.waits.Passing.{Goes, IsTold, is_post_to, told-none, told_to}
use Rattle.world_letters.specs.waits.TargetLaws.{AreBetween}
use Rattle.world_letters.specs.waits.Waits.{HoldsIt, OpenAt, held_by, is_open_of, is_waited_by, open_at}

-- ---- rows of attempts

module _ {T : Type 0} (of : T → AttemptId) where
  -- where rows stand in order, an attempt has one
  pub row-alone : (a : AttemptId) (rows : List T) (u : T) → is_rising (row_key of) rows ≡ true → row_of of a rows ≡ Some u → filter (is_row_of of a) rows ≡ u ∷ []
  row-alone a [] u rising found = let no : ⊥ = cc in absurd no
  row-alone a (y ∷ rows) u rising found = by (row-alone a rows u (and_right (all_after (row_key of) (row_key of y) rows) (is_rising (row_key of) rows) rising)) (same_attempt (of y) a) refl found
    where
      later : (z : T) → Has z rows → is_before (row_key of y) (row_key of z) ≡ true
      later z i = after-has (row_key of) (row_key of y) rows z (and_left (all_after (row_key of) (row_key of y) rows) (is_rising (row_key of) rows) rising) i

      by : (row_of of a rows ≡ Some u → filter (is_row_of of a) rows ≡ u ∷ []) → (b : Bool) → same_attempt (of y) a ≡ b → (if b then Some y else row_of of a rows) ≡ Some u → filter (is_row_of of a) (y ∷ rows) ≡ u ∷ []
      by rest true e f =
          let same : y ≡ u = cc in
          filter-yes (is_row_of of a) y rows e
          ∙ ap (λ zs. y ∷ zs) (filter-none (is_row_of of a) rows (λ z i. false_of (same_attempt (of z) a) (λ g.
          let it : of z ≡ of y = same-is (of z) a g ∙ sym (same-is (of y) a e) in
          clash (is_before (attempt_key (of y)) (attempt_key (of y))) (subst (λ x. is_before (attempt_key (of y)) (attempt_key x) ≡ true) it (later z i)) (before-itself (attempt_key (of y))))))
          ∙ ap (λ z. z ∷ []) same
      by rest false e f = filter-no (is_row_of of a) y rows e ∙ rest f

  -- so a row of it is that one
  pub row-same : (a : AttemptId) (rows : List T) (u v : T) → is_rising (row_key of) rows ≡ true → row_of of a rows ≡ Some u → Has v rows → same_attempt (of v) a ≡ true → v ≡ u
  row-same a rows u v rising found i same = by (subst (Has v) (row-alone a rows u rising found) (has-filter (is_row_of of a) rows v i same))
    where
      by : Has v (u ∷ []) → v ≡ u
      by (inl e) = e
      by (inr none) = absurd none

pub row-found : (a : AttemptId) (us : List Undecided) (u : Undecided) → row_of undecided_attempt a us ≡ Some u → Has u us
row-found a [] u found = let no : ⊥ = cc in absurd no
row-found a (y ∷ us) u found = by (row-found a us u) (same_attempt y.attempt a) found
  where
    by : (row_of undecided_attempt a us ≡ Some u → Has u us) → (b : Bool) → (if b then Some y else row_of undecided_attempt a us) ≡ Some u → Has u (y ∷ us)
    by rest true f = inl (let same : u ≡ y = cc in same)
    by rest false f = inr (rest f)

-- ---- lists

pub filter-drop : {T : Type 0} (b c : T → Bool) (xs : List T) → ((x : T) → Has x xs → b x ≡ true → c x ≡ true) → filter b (filter c xs) ≡ filter b xs
filter-drop b c xs keeps = filter-swap b c xs ∙ filter-all c (filter b xs) (λ x i. let k = has-from_filter b xs x i in keeps x k.0 k.1)

pub filter-map_same : {T U : Type 0} (p : T → Bool) (f : T → T) (g : T → U) (xs : List T) → ((x : T) → Has x xs → p (f x) ≡ p x) → ((x : T) → g (f x) ≡ g x) → map g (filter p (map f xs)) ≡ map g (filter p xs)
filter-map_same p f g [] same keeps = refl
filter-map_same {T} p f g (x ∷ xs) same keeps = by (filter-map_same p f g xs (λ y i. same y (inr i)) keeps) (p x) refl
  where
    by : map g (filter p (map f xs)) ≡ map g (filter p xs) → (b : Bool) → p x ≡ b → map g (filter p (f x ∷ map f xs)) ≡ map g (filter p (x ∷ xs))
    by rest true e = ap (map g) (filter-yes p (f x) (map f xs) (same x (inl refl) ∙ e)) ∙ ap (λ z. z ∷ map g (filter p (map f xs))) (keeps x) ∙ ap (λ zs. g x ∷ zs) rest ∙ ap (map g) (sym (filter-yes p x xs e))
    by rest false e = ap (map g) (filter-no p (f x) (map f xs) (same x (inl refl) ∙ e)) ∙ rest ∙ ap (map g) (sym (filter-no p x xs e))

pub filter-mapped : {T : Type 0} (p q : T → Bool) (f : T → T) (xs : List T) → ((x : T) → Has x xs → p (f x) ≡ q x) → filter p (map f xs) ≡ map f (filter q xs)
filter-mapped p q f [] same = refl
filter-mapped {T} p q f (x ∷ xs) same = by (filter-mapped p q f xs (λ y i. same y (inr i))) (q x) refl
  where
    by : filter p (map f xs) ≡ map f (filter q xs) → (b : Bool) → q x ≡ b → filter p (f x ∷ map f xs) ≡ map f (filter q (x ∷ xs))
    by rest true e = filter-yes p (f x) (map f xs) (same x (inl refl) ∙ e) ∙ ap (λ ys. f x ∷ ys) rest ∙ ap (map f) (sym (filter-yes q x xs e))
    by rest false e = filter-no p (f x) (map f xs) (same x (inl refl) ∙ e) ∙ rest ∙ ap (map f) (sym (filter-no q x xs e))

-- ---- nobody waits for an attempt any more

-- of an attempt no row is left for which a client waits, and all other rows stay
pub record NoneWaits (a : AttemptId) (us vs : List Undecided) : Type 0 where
  pub others : (n t : ℕ) → ((u : Undecided) → Has u us → is_open_of n u ≡ true → same_attempt u.attempt a ≡ false) → open_part n t vs ≡ open_part n t us
  pub none : (n t : ℕ) → ((u : Undecided) → Has u us → is_open_of n u ≡ true → same_attempt u.attempt a ≡ true) → open_part n t vs ≡ []

pub row-goes : (a : AttemptId) (us : List Undecided) → NoneWaits a us (without_row undecided_attempt a us)
row-goes a us = record {
  others = λ n t apart. ap (map (open_at t)) (filter-drop (is_open_of n) (is_other_row undecided_attempt a) us (λ u i is. ap not (apart u i is)));
  none = λ n t all. ap (map (open_at t)) (filter-none (is_open_of n) (without_row undecided_attempt a us) (λ u i.
      let k = has-from_filter (is_other_row undecided_attempt a) us u i in false_of (is_open_of n u) (λ is. clash (not (same_attempt u.attempt a)) k.1 (ap not (all u k.0 is)))));
}

pub row-unwaited : (a : AttemptId) (us : List Undecided) → NoneWaits a us (map (unwaited_at a) us)
row-unwaited a us = record {
  others = λ n t apart. filter-map_same (is_open_of n) (unwaited_at a) (open_at t) us (λ u i. stays n u (apart u i)) (λ u. keeps t u (same_attempt u.attempt a));
  none = λ n t all. ap (map (open_at t)) (filter-none (is_open_of n) (map (unwaited_at a) us) (λ v i.
      let z = has-from_map (unwaited_at a) us v i in subst (λ x. is_open_of n x ≡ false) z.2 (free n z.0 (all z.0 z.1))));
}
  where
    keeps : (t : ℕ) (u : Undecided) (b : Bool) → open_at t (if b then record u { client = None } else u) ≡ open_at t u
    keeps t u true = refl
    keeps t u false = refl

    stays : (n : ℕ) (u : Undecided) → (is_open_of n u ≡ true → same_attempt u.attempt a ≡ false) → is_open_of n (unwaited_at a u) ≡ is_open_of n u
    stays n u apart = by (same_attempt u.attempt a) refl (is_open_of n u) refl
      where
        by : (b : Bool) → same_attempt u.attempt a ≡ b → (c : Bool) → is_open_of n u ≡ c → is_open_of n (if b then record u { client = None } else u) ≡ is_open_of n u
        by true e true f = clash (same_attempt u.attempt a) e (apart f)
        by true e false f = sym f
        by false e c f = refl

    free : (n : ℕ) (u : Undecided) → (is_open_of n u ≡ true → same_attempt u.attempt a ≡ true) → is_open_of n (unwaited_at a u) ≡ false
    free n u all = by (same_attempt u.attempt a) refl
      where
        by : (b : Bool) → same_attempt u.attempt a ≡ b → is_open_of n (if b then record u { client = None } else u) ≡ false
        by true e = refl
        by false e = false_of (is_open_of n u) (λ is. clash (same_attempt u.attempt a) (all is) e)

-- who waited for an attempt is told its end
pub record TellsEnd (a : AttemptId) (m z : TargetMemory) (posts : List Post) : Type 0 where
  pub u : Undecided
  pub found : row_of undecided_attempt a m.leader.undecided ≡ Some u
  pub e : Epoch
  pub how : Outcome
  pub more : List Post
  pub says : posts ≡ ended u.client a e how ++ more
  pub between : AreBetween more
  pub parked : z.member.parked ≡ m.member.parked
  pub collecting : z.collecting ≡ m.collecting
  pub rows : NoneWaits a m.leader.undecided z.leader.undecided

module _ (n t : ℕ) (a : AttemptId) (m z : TargetMemory) (posts : List Post) (k : TellsEnd a m z posts) (rising : is_rising (row_key undecided_attempt) m.leader.undecided ≡ true) where
  told-is : told_to n posts ≡ told_to n (ended k.u.client a k.e k.how)
  told-is = ap (told_to n) k.says ∙ filter-append (is_post_to n) (ended k.u.client a k.e k.how) k.more ∙ ap (λ x. told_to n (ended k.u.client a k.e k.how) ++ x) (told-none n k.more k.between) ∙ append-nil (told_to n (ended k.u.client a k.e k.how))

  told-other : is_waited_by n k.u.client ≡ false → told_to n posts ≡ []
  told-other off = told-is ∙ by k.u.client off
    where
      by : (c : Option ActorId) → is_waited_by n c ≡ false → told_to n (ended c a k.e k.how) ≡ []
      by None e = refl
      by (Some c) e = filter-no (is_post_to n) (record { to = c; message = message.Ended a (Some k.e) k.how }) [] e

  told-own : is_waited_by n k.u.client ≡ true → (p : Post) × (told_to n posts ≡ p ∷ []) × (p.message ≡ message.Ended a (Some k.e) k.how)
  told-own on = let z = by k.u.client on in (z.0, told-is ∙ z.1, z.2)
    where
      by : (c : Option ActorId) → is_waited_by n c ≡ true → (p : Post) × (told_to n (ended c a k.e k.how) ≡ p ∷ []) × (p.message ≡ message.Ended a (Some k.e) k.how)
      by None e = let no : ⊥ = cc in absurd no
      by (Some c) e = (record { to = c; message = message.Ended a (Some k.e) k.how }, filter-yes (is_post_to n) (record { to = c; message = message.Ended a (Some k.e) k.how }) [] e, refl)

  its-attempt : k.u.attempt ≡ a
  its-attempt = same-is k.u.attempt a (row-is undecided_attempt a m.leader.undecided k.u k.found)

  pub tells-end : Holding n t m → Passes n t m z posts
  tells-end h = by (is_waited_by n k.u.client) refl
    where
      goes : held_by n t m ≡ OpenAt t k.u.attempt ∷ [] → is_waited_by n k.u.client ≡ true → (q : Post) → HoldsIt q (OpenAt t k.u.attempt) → Goes q (told_to n posts) (held_by n t z)
      goes one on q holds =
          let told = told-own on in
          let parts = open-is n t m k.u.attempt one in
          IsTold told.0 told.1
          (held-parts n t z [] [] [] (ap (parked_part n t) k.parked ∙ parts.parked) (k.rows.none n t (λ u i is. ap (λ x. same_attempt x a) (waited-is u i is parts.opened ∙ its-attempt) ∙ same_attempt-itself a)) (ap (collected_part n t) k.collecting ∙ parts.collected))
          (subst (Answers q.message) (sym told.2) (subst (λ x. Answers q.message (message.Ended x (Some k.e) k.how)) its-attempt (ends-for q (OpenAt t k.u.attempt) holds (Some k.e) k.how)))
        where
          waited-is : (u : Undecided) → Has u m.leader.undecided → is_open_of n u ≡ true → open_part n t m.leader.undecided ≡ OpenAt t k.u.attempt ∷ [] → u.attempt ≡ k.u.attempt
          waited-is u i is alone = among (subst (Has (OpenAt t u.attempt)) alone (has-map (open_at t) (filter (is_open_of n) m.leader.undecided) u (has-filter (is_open_of n) m.leader.undecided u i is)))
            where
              among : Has (OpenAt t u.attempt) (OpenAt t k.u.attempt ∷ []) → u.attempt ≡ k.u.attempt
              among (inl same) = cc
              among (inr none) = absurd none

      by : (b : Bool) → is_waited_by n k.u.client ≡ b → Passes n t m z posts
      by false off = Leaves (record {
        told = told-other off;
        held = held-parts n t z (parked_part n t m.member.parked) (open_part n t m.leader.undecided) (collected_part n t m.collecting) (ap (parked_part n t) k.parked)
            (k.rows.others n t (λ u i is. false_of (same_attempt u.attempt a) (λ same. clash (is_open_of n u) is (ap (is_open_of n) (row-same undecided_attempt a m.leader.undecided k.u u rising k.found i same) ∙ off)))) (ap (collected_part n t) k.collecting);
      })
      by true on =
          let one = row-is_held n t m k.u h (row-found a m.leader.undecided k.u k.found) on in
          HandsOn (OpenAt t k.u.attempt) one (λ q of holds. goes one on q holds)

-- ---- an Ack, and what a member says that it holds

-- what follows from an answer: nothing that a client is told, or the end of an attempt
abbrev Follows : TargetMemory → ack.AckStage → AttemptId → Type 0
Follows m ack.Heard a = Unit {0}
Follows m (ack.Followed s) a = (l : LeaderOf) × (l.memory ≡ m.leader) × AckIs a l s

ack-step : (p : TargetPlan) (m : TargetMemory) (member : ℕ) (a : AttemptId) (inc : ℕ) (refusal : Option Outcome) (s : ack.AckStage) (k : Kept) (o : Option Change) (u : ack.AckStage) (l : Kept)
    → ack.AckNext p m member a inc refusal s k o u → Steps o k l → Follows m s a → Follows m u a
ack-step p m member a inc refusal s k o u l (ack.Aborts k2 is) steps h = (leader_at p m k.durable, refl, ack-is member a inc refusal (leader_at p m k.durable))
ack-step p m member a inc refusal s k o u l (ack.Counts k2 is) steps h = (leader_at p m k.durable, refl, ack-is member a inc refusal (leader_at p m k.durable))

ack-passes : (n t : ℕ) (a : AttemptId) (m : TargetMemory) (s : ack.AckStage) (k : Kept) (left : TargetMemory × Did) → is_rising (row_key undecided_attempt) m.leader.undecided ≡ true → ack.AckEnds m s k left → Follows m s a → Holding n t m → Passes n t m left.0 left.1.posts
ack-passes n t a m s k left rising (ack.IsFollowed k2 step left2 says) f h = by f.2
  where
    by : AckIs a f.0 step → Passes n t m left2.0 left2.1.posts
    by (Stays none same) = Leaves (record {
      told = ap (λ o. told_to n o.1.posts) says ∙ ap (told_to n) none;
      held = held-parts n t left2.0 (parked_part n t m.member.parked) (open_part n t m.leader.undecided) (collected_part n t m.collecting) (ap (λ o. parked_part n t o.0.member.parked) says)
          (ap (λ o. open_part n t o.0.leader.undecided) says ∙ open-part_same n t step.leader.memory.undecided f.0.memory.undecided (same t) ∙ ap (λ x. open_part n t x.undecided) f.1) (ap (λ o. collected_part n t o.0.collecting) says);
    })
    by (Ends u e how more found posts between undecided) = tells-end n t a m left2.0 left2.1.posts (record {
      u = u;
      found = ap (λ x. row_of undecided_attempt a x.undecided) (sym f.1) ∙ found;
      e = e;
      how = how;
      more = more;
      says = ap (λ o. o.1.posts) says ∙ posts;
      between = λ q i. (between q i).0;
      parked = ap (λ o. o.0.member.parked) says;
      collecting = ap (λ o. o.0.collecting) says;
      rows = subst (NoneWaits a m.leader.undecided) (sym (ap (λ o. o.0.leader.undecided) says ∙ undecided ∙ ap (λ x. without_row undecided_attempt a x.undecided) f.1)) (row-goes a m.leader.undecided);
    }) rising h

pub ack-turns : (n t : ℕ) (p : TargetPlan) (m : TargetMemory) (member : ℕ) (a : AttemptId) (inc : ℕ) (refusal : Option Outcome) (old new : Kept) (left : TargetMemory × Did) → is_rising (row_key undecided_attempt) m.leader.undecided ≡ true
    → Whole (ack.AckNext p m member a inc refusal) (ack.AckEnds m) ack.Heard old new left → Holding n t m → Passes n t m left.0 left.1.posts
ack-turns n t p m member a inc refusal old new left rising h = ack-passes n t a m h.last new left rising h.ends (reached-keeps (ack.AckNext p m member a inc refusal) (λ s k. Follows m s a) (ack-step p m member a inc refusal) ack.Heard old h.last new h.reached tt)
