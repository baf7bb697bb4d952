-- What a target collects for attempts that make snapshots or aggregate: what a message that it hears leaves of that, and what follows.
use Rattle.std.specs.Prelude.{ℕ, ◌≡◌, ◌++◌, Bool, true, false, not, List, [], ◌∷◌, filter, find, map, Option, Some, None, refl, if◌then◌else◌}
use Rattle.std.specs.Option.{option_map}
use Rattle.std.proofs.Common.{sym, ◌∙◌, ap, subst, inl, inr}
use Rattle.base_types.specs.declared.id.AttemptId.{AttemptId}
use Rattle.base_types.specs.declared.outcome.Outcome.{Outcome}
use Rattle.base_messages.specs.declared.actor.ActorId.{ActorId}
use Rattle.base_messages.specs.declared.message.Message.{Message, more_of-Message}
use Rattle.base_messages.specs.declared.message.Message.TheVariants as message
use Rattle.base_messages.specs.declared.message.Post.{Post}
use Rattle.daos_model.specs.BoolLaws.{clash}
use Rattle.daos_model.specs.Durables.{same_attempt}
use Rattle.daos_model.specs.EntryLaws.{same_attempt-itself}
use Rattle.dtx_base.specs.LeaderLaws.{same-is}
use Rattle.dtx_base.specs.Leading.{to_target}
use Rattle.dtx_base.specs.Members.{has_target, with_target}
use Rattle.dtx_base.specs.RowLaws.{row-is, row-map, row-without}
use Rattle.model_laws.specs.Members.{Has, has-cases, has-from_filter, has-from_map}
use Rattle.world_commit.specs.attempts.MemberBits.{has-with, has-with_other}
use Rattle.world_commit.specs.attempts.Stored.{row-gone}
use Rattle.world_commit.specs.attempts.Turning.{one-or_another, one-or_other}
use Rattle.world_base.specs.declared.did.Did.{Did}
use Rattle.world_base.specs.declared.target.Collection.{Collection}
use Rattle.world_base.specs.declared.target.TargetMemory.{TargetMemory}
use Rattle.world_base.specs.declared.target.TargetPlan.{TargetPlan}
use Rattle.world_base.specs.Snapshots as snap
use Rattle.world_base.specs.Snapshots.{collection_of, is_collection_of, is_held_by_all, is_other_collection, others}
use Rattle.world_letters.specs.snapshots.Memories.{Same}

-- ---- what is asked

-- a target asks another what an attempt's snapshot or aggregation needs there: to freeze it, or to prune
abbrev pub asks_collected : AttemptId → Message → Bool
asks_collected x (message.Freeze y c s) = same_attempt y x
asks_collected x (message.Prune y c None (Some g)) = same_attempt y x
asks_collected x m = false

-- ---- what is left

-- What is collected then was collected before, for the same attempt, and no more targets were counted; or it is new, and each other target is
-- asked for it.
pub data CameSo (p : TargetPlan) (m : TargetMemory) (posts : List Post) (c : Collection) : Type 0 where
  WasThere : (q : Collection) → Has q m.collecting → c.attempt ≡ q.attempt → ((u : ℕ) → has_target c.held u ≡ false → has_target q.held u ≡ false) → CameSo p m posts c
  IsNew : ((u : ℕ) → Has u (others p) → (q : Message) × (asks_collected c.attempt q ≡ true) × Has (to_target u q) posts) → CameSo p m posts c

-- What is heard of what is collected: an answer counts; where the other target is down, nothing is collected for the attempt any more; where it
-- only stopped, it is asked again.
abbrev pub IsTold : ActorId → List Post → Collection → Message → Type 0
IsTold from posts c (message.Held y refusal) = y ≡ c.attempt → has_target c.held from.number ≡ true
IsTold from posts c (message.Reset' by true place (more_of-Message a rest)) = asks_collected c.attempt a ≡ true → ⊥
IsTold from posts c (message.Reset' by false place (more_of-Message a rest)) = asks_collected c.attempt a ≡ true → Has (to_target by a) posts
IsTold from posts c m = Unit {0}

-- what a target hears of an attempt for another is answered
abbrev pub AnswersIt : ActorId → List Post → Message → Type 0
AnswersIt from posts q = (x : AttemptId) → asks_collected x q ≡ true → (refusal : Option Outcome) × Has (record { to = from; message = message.Held x refusal }) posts

-- of each attempt what is collected first lacks an answer
abbrev pub LacksOne : TargetPlan → TargetMemory → Type 0
LacksOne p m = (x : AttemptId) (c : Collection) → collection_of x m ≡ Some c → is_held_by_all p c.held ≡ false

pub record CollectsOn (p : TargetPlan) (m : TargetMemory) (from : ActorId) (q : Message) (left : TargetMemory × Did) : Type 0 where
  pub came : (c : Collection) → Has c left.0.collecting → CameSo p m left.1.posts c
  pub told : (c : Collection) → Has c left.0.collecting → IsTold from left.1.posts c q
  pub answers : AnswersIt from left.1.posts q
  pub lacks : LacksOne p m → LacksOne p left.0

-- ---- the same, one more, fewer, one counted

module _ (p : TargetPlan) (m : TargetMemory) where
  pub same-came : (posts : List Post) (ns : List Collection) → ns ≡ m.collecting → (c : Collection) → Has c ns → CameSo p m posts c
  same-came posts ns same c i = WasThere c (subst (Has c) same i) refl (λ u off. off)

  pub same-lacks : (n : TargetMemory) → Same m n → LacksOne p m → LacksOne p n
  same-lacks n same k x c found = k x c (ap (find (is_collection_of x)) (sym same) ∙ found)

  pub more-came : (posts : List Post) (new : Collection) (ns : List Collection) → ns ≡ m.collecting ++ new ∷ []
      → ((u : ℕ) → Has u (others p) → (q : Message) × (asks_collected new.attempt q ≡ true) × Has (to_target u q) posts) → (c : Collection) → Has c ns → CameSo p m posts c
  more-came posts new ns is asked c i = elim (has-cases m.collecting (new ∷ []) c (subst (Has c) is i)) [
    | inl j ↦ WasThere c j refl (λ u off. off)
    | inr j ↦ its j
  ]
    where
      its : Has c (new ∷ []) → CameSo p m posts c
      its (inl same) = subst (CameSo p m posts) (sym same) (IsNew asked)
      its (inr none) = absurd none

  -- what is found with one more was found before, or is that
  found-more : (x : AttemptId) (cs : List Collection) (new c : Collection) → find (is_collection_of x) (cs ++ new ∷ []) ≡ Some c → (find (is_collection_of x) cs ≡ Some c → is_held_by_all p c.held ≡ false) → is_held_by_all p new.held ≡ false → is_held_by_all p c.held ≡ false
  found-more x [] new c found was lacks = by (is_collection_of x new) found
    where
      by : (b : Bool) → (if b then Some new else None) ≡ Some c → is_held_by_all p c.held ≡ false
      by true h = (let same : new ≡ c = cc in ap (λ y. is_held_by_all p y.held) (sym same) ∙ lacks)
      by false h = let no : ⊥ = cc in absurd no
  found-more x (y ∷ cs) new c found was lacks = by (is_collection_of x y) found was (found-more x cs new c)
    where
      by : (b : Bool) → (if b then Some y else find (is_collection_of x) (cs ++ new ∷ [])) ≡ Some c → ((if b then Some y else find (is_collection_of x) cs) ≡ Some c → is_held_by_all p c.held ≡ false)
          → (find (is_collection_of x) (cs ++ new ∷ []) ≡ Some c → (find (is_collection_of x) cs ≡ Some c → is_held_by_all p c.held ≡ false) → is_held_by_all p new.held ≡ false → is_held_by_all p c.held ≡ false)
          → is_held_by_all p c.held ≡ false
      by true h was' rest = was' h
      by false h was' rest = rest h was' lacks

  pub more-lacks : (n : TargetMemory) (new : Collection) → n.collecting ≡ m.collecting ++ new ∷ [] → is_held_by_all p new.held ≡ false → LacksOne p m → LacksOne p n
  more-lacks n new is lacks k x c found = found-more x m.collecting new c (ap (find (is_collection_of x)) (sym is) ∙ found) (k x c) lacks

  -- without what is collected for one attempt
  pub fewer-came : (posts : List Post) (x : AttemptId) (ns : List Collection) → ns ≡ filter (is_other_collection x) m.collecting → (c : Collection) → Has c ns → CameSo p m posts c
  fewer-came posts x ns is c i = WasThere c (has-from_filter (is_other_collection x) m.collecting c (subst (Has c) is i)).0 refl (λ u off. off)

  pub fewer-gone : (x : AttemptId) (ns : List Collection) → ns ≡ filter (is_other_collection x) m.collecting → (c : Collection) → Has c ns → x ≡ c.attempt → ⊥
  fewer-gone x ns is c i same =
      let off = (has-from_filter (is_other_collection x) m.collecting c (subst (Has c) is i)).1 in
      clash (is_other_collection x c) off (ap (λ y. not (same_attempt c.attempt y)) same ∙ ap not (same_attempt-itself c.attempt))

  pub fewer-lacks : (n : TargetMemory) (x : AttemptId) → n.collecting ≡ filter (is_other_collection x) m.collecting → LacksOne p m → LacksOne p n
  fewer-lacks n x is k y c found = elim (one-or_other y x) [
    | inl same ↦ (let none : find (is_collection_of y) (filter (is_other_collection x) m.collecting) ≡ None = ap (λ z. find (is_collection_of z) (filter (is_other_collection x) m.collecting)) same ∙ row-gone (λ z. z.attempt) x m.collecting in
        let no : ⊥ = cc (found', none) in absurd no)
    | inr apart ↦ k y c (sym (row-without (λ z. z.attempt) y x m.collecting apart) ∙ found')
  ]
    where
      found' : find (is_collection_of y) (filter (is_other_collection x) m.collecting) ≡ Some c
      found' = ap (find (is_collection_of y)) (sym is) ∙ found

  -- where a target is counted
  held-attempt : (x : AttemptId) (from : ℕ) (q : Collection) → (snap.held_at x from q).attempt ≡ q.attempt
  held-attempt x from q = by (same_attempt q.attempt x)
    where
      by : (b : Bool) → (if b then record q { held = with_target q.held from } else q).attempt ≡ q.attempt
      by true = refl
      by false = refl

  counted-less : (set t u : ℕ) → has_target (with_target set t) u ≡ false → has_target set u ≡ false
  counted-less set t u off = elim (one-or_another u t) [
    | inl same ↦ clash (has_target (with_target set t) u) (ap (has_target (with_target set t)) same ∙ has-with set t) off
    | inr apart ↦ sym (has-with_other set t u apart) ∙ off
  ]

  pub counted-came : (posts : List Post) (x : AttemptId) (from : ℕ) (ns : List Collection) → ns ≡ map (snap.held_at x from) m.collecting → (c : Collection) → Has c ns → CameSo p m posts c
  counted-came posts x from ns is c i =
      let z = has-from_map (snap.held_at x from) m.collecting c (subst (Has c) is i) in
      WasThere z.0 z.1 (ap (λ y. y.attempt) (sym z.2) ∙ held-attempt x from z.0) (λ u off. less z.0 (same_attempt z.0.attempt x) u (ap (λ y. has_target y.held u) z.2 ∙ off))
    where
      less : (q : Collection) (b : Bool) (u : ℕ) → has_target (if b then record q { held = with_target q.held from } else q).held u ≡ false → has_target q.held u ≡ false
      less q true u off = counted-less q.held from u off
      less q false u off = off

  pub counted-has : (x : AttemptId) (from : ℕ) (ns : List Collection) → ns ≡ map (snap.held_at x from) m.collecting → (c : Collection) → Has c ns → x ≡ c.attempt → has_target c.held from ≡ true
  counted-has x from ns is c i same =
      let z = has-from_map (snap.held_at x from) m.collecting c (subst (Has c) is i) in
      let own : z.0.attempt ≡ x = sym (ap (λ y. y.attempt) (sym z.2) ∙ held-attempt x from z.0) ∙ sym same in
      by z.0 (same_attempt z.0.attempt x) (ap (λ y. same_attempt y x) own ∙ same_attempt-itself x) z.2
    where
      by : (q : Collection) (b : Bool) → b ≡ true → (if b then record q { held = with_target q.held from } else q) ≡ c → has_target c.held from ≡ true
      by q true on is' = ap (λ y. has_target y.held from) (sym is') ∙ has-with q.held from
      by q false on is' = let no : ⊥ = cc in absurd no

  mapped : (f : Collection → Collection) (o : Option Collection) (c : Collection) → option_map f o ≡ Some c → (q : Collection) × (o ≡ Some q) × (f q ≡ c)
  mapped f None c h = let no : ⊥ = cc in absurd no
  mapped f (Some q) c h = (q, refl, cc)

  pub counted-lacks : (n : TargetMemory) (x : AttemptId) (from : ℕ) → n.collecting ≡ map (snap.held_at x from) m.collecting → ((q : Collection) → collection_of x m ≡ Some q → is_held_by_all p (with_target q.held from) ≡ false) → LacksOne p m → LacksOne p n
  counted-lacks n x from is last k y c found =
      let z = mapped (snap.held_at x from) (collection_of y m) c (sym (row-map (λ q. q.attempt) (snap.held_at x from) (held-attempt x from) y m.collecting) ∙ (ap (find (is_collection_of y)) (sym is) ∙ found)) in
      by z.0 z.1 (same_attempt z.0.attempt x) refl z.2
    where
      by : (q : Collection) → collection_of y m ≡ Some q → (b : Bool) → same_attempt q.attempt x ≡ b → (if b then record q { held = with_target q.held from } else q) ≡ c → is_held_by_all p c.held ≡ false
      by q was true its same =
          let own : y ≡ x = sym (same-is q.attempt y (row-is (λ z. z.attempt) y m.collecting q was)) ∙ same-is q.attempt x its in
          ap (λ z. is_held_by_all p z.held) (sym same) ∙ last q (ap (λ z. collection_of z m) (sym own) ∙ was)
      by q was false its same = ap (λ z. is_held_by_all p z.held) (sym same) ∙ k y q was
