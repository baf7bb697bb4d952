-- What holds of every step of a member.
use Rattle.std.specs.Prelude.{◌≡◌, Bool, true, false, not, filter, map, All, List, [], ◌∷◌, if◌then◌else◌, refl}
use Rattle.std.proofs.lemmas.List.Elements.{filter_passes}
use Rattle.base_types.specs.declared.id.AttemptId.{AttemptId}
use Rattle.base_messages.specs.declared.message.Message.{Message}
use Rattle.dtx_base.specs.declared.member.Parked.{Parked}
use Rattle.dtx_base.specs.Joining.{MemberOf, all_unresolved_told, is_not_waiting, is_parked_elsewhere, is_parked_on, is_waiting, parked_ask, resolved, unresolved}

-- each of all stands in just one of two parts, which keep the order
pub data Parts {T : Type 0} : List T → List T → List T → Type 0 where
  None : Parts [] [] []
  ToFirst : (x : T) (all first second : List T) → Parts all first second → Parts (x ∷ all) (x ∷ first) second
  ToSecond : (x : T) (all first second : List T) → Parts all first second → Parts (x ∷ all) first (x ∷ second)

pub parts-of : {T : Type 0} (test : T → Bool) (xs : List T) → Parts xs (filter test xs) (filter (λ x. not (test x)) xs)
parts-of test [] = None
parts-of {T = T} test (x ∷ xs) = by (test x) (parts-of test xs)
  where
    by : (s : Bool) → Parts xs (filter test xs) (filter (λ x. not (test x)) xs)
        → Parts (x ∷ xs) (if s then x ∷ filter test xs else filter test xs) (if not s then x ∷ filter (λ x. not (test x)) xs else filter (λ x. not (test x)) xs)
    by true rest = ToFirst x xs (filter test xs) (filter (λ x. not (test x)) xs) rest
    by false rest = ToSecond x xs (filter test xs) (filter (λ x. not (test x)) xs) rest

-- Once it is known what became of an attempt, the Fetches that wait for it are tried again, each once and in the order in
-- which they were parked; none of them waits any more, and all others do.
pub record IsFreed (a : AttemptId) (before after : List Parked) (again : List Message) : Type 0 where
  pub freed : List Parked
  pub parts : Parts before freed after
  pub each : All (λ p. is_parked_on a p ≡ true) freed
  pub others : All (λ p. is_parked_elsewhere a p ≡ true) after
  pub again_is : again ≡ map parked_ask freed

abbrev pub ResolvedFreesOnce : Type 0
ResolvedFreesOnce = (a : AttemptId) (s : MemberOf) → IsFreed a s.memory.parked (resolved a s).member.memory.parked (resolved a s).freed.again

pub resolved-frees_once : ResolvedFreesOnce
resolved-frees_once a s = record {
  freed = filter (is_parked_on a) s.memory.parked;
  parts = parts-of (is_parked_on a) s.memory.parked;
  each = filter_passes (is_parked_on a) s.memory.parked;
  others = filter_passes (is_parked_elsewhere a) s.memory.parked;
  again_is = refl;
}

-- Where an attempt isn't decided, the Fetches of the attempt that asked are answered, each once and in order; none of them
-- waits any more, and all others do.
pub record IsAnswered (a x : AttemptId) (before after : List Parked) (s : MemberOf) : Type 0 where
  pub told : List Parked
  pub parts : Parts before told after
  pub each : All (λ p. is_waiting a x p ≡ true) told
  pub others : All (λ p. is_not_waiting a x p ≡ true) after
  pub posts : (unresolved a x s).freed.posts ≡ all_unresolved_told a told

abbrev pub UnresolvedAnswersOnce : Type 0
UnresolvedAnswersOnce = (a x : AttemptId) (s : MemberOf) → IsAnswered a x s.memory.parked (unresolved a x s).member.memory.parked s

pub unresolved-answers_once : UnresolvedAnswersOnce
unfolding unresolved
unresolved-answers_once a x s = record {
  told = filter (is_waiting a x) s.memory.parked;
  parts = parts-of (is_waiting a x) s.memory.parked;
  each = filter_passes (is_waiting a x) s.memory.parked;
  others = filter_passes (is_not_waiting a x) s.memory.parked;
  posts = refl;
}
