-- A turn as the steps that a target makes, one after another.
use Rattle.std.specs.Prelude.{◌≡◌, List, [], ◌∷◌, ◌++◌, Option, Some, None}
use Rattle.world_base.specs.Changes.{Change, IsAskedAlone, IsCut, Kept, Steps}

abbrev pub listed : Option Change → List Change
listed None = []
listed (Some c) = c ∷ []

-- From a stage of a turn and what is kept, by steps that the kind of turn allows, to a later stage and what is then
-- kept. The beginning of such steps is one too.
pub data Path {S : Type 0} (Next : S → Kept → Option Change → S → Type 0) (s : S) (k : Kept) : List Change → S → Kept → Type 0 where
  Here : Path Next s k [] s k
  More : (did : List Change) (t : S) (l : Kept) (o : Option Change) (u : S) (m : Kept)
      → Path Next s k did t l → Next t l o u → Steps o l m → Path Next s k (did ++ listed o) u m

-- a turn came so far
pub record Reached {S : Type 0} (Next : S → Kept → Option Change → S → Type 0) (start : S) (old : Kept) (last : S) (mid : Kept) : Type 0 where
  pub did : List Change
  pub path : Path Next start old did last mid

-- a whole turn: steps, and then what it ends with
pub record Whole {S R : Type 0} (Next : S → Kept → Option Change → S → Type 0) (Ends : S → Kept → R → Type 0) (start : S) (old new : Kept) (result : R) : Type 0 where
  pub last : S
  pub reached : Reached Next start old last new
  pub ends : Ends last new result

-- Where a turn was cut: in a change, of which it is open whether it was made and which may have cost its blocks, or in a question, which
-- changes nothing. The next opening finds what stood before, or what the change makes of it.
pub data CutAt {S : Type 0} (Next : S → Kept → Option Change → S → Type 0) (last : S) (mid : Kept) (finds : Kept → Type 0) : Type 0 where
  InChange : (c : Change) (t : S) → Next last mid (Some c) t → ((x : Kept) → finds x → IsCut c mid x) → CutAt Next last mid finds
  InQuestion : ((x : Kept) → finds x → IsAskedAlone mid x) → CutAt Next last mid finds

-- a turn that was cut short: steps, and then the cut
pub record CutShort {S : Type 0} (Next : S → Kept → Option Change → S → Type 0) (start : S) (old : Kept) (finds : Kept → Type 0) : Type 0 where
  pub last : S
  pub mid : Kept
  pub reached : Reached Next start old last mid
  pub cut : CutAt Next last mid finds
