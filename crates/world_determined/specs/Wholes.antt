-- Where each stage of a turn has one step, and one end or none, whole turns from one beginning come to one.
use Rattle.std.specs.Prelude.{◌≡◌, ◌<◌, ◌⊎◌, Option, refl}
use Rattle.std.proofs.Common.{inl, inr, sym, subst}
use Rattle.std.proofs.lemmas.Bool.{cases_order}
use Rattle.daos_model.specs.declared.durable.Durable.{Durable}
use Rattle.world_base.specs.Changes.{Change, Kept, Steps}
use Rattle.world_base.specs.PathLaws.{path-keeps}
use Rattle.world_base.specs.Turns.{Whole}
use Rattle.world_determined.specs.Paths.{FitsOn, HasOneStep, path-same, split-at, steps_in}

-- ---- how two turns end

-- How two whole turns from one beginning end: at one stage; or one ends at a stage from which the other goes on.
pub data Beside {S R : Type 0} (Next : S → Kept → Option Change → S → Type 0) (Ends : S → Kept → R → Type 0) (Fits : S → Durable → Type 0) (new new' : Kept) (left left' : R) : Type 0 where
  Together : (s : S) → Fits s new.durable → new.durable ≡ new'.durable → Ends s new left → Ends s new' left' → Beside Next Ends Fits new new' left left'
  EndsFirst : (s : S) (k : Kept) (o : Option Change) (u : S) (l : Kept) → Fits s new.durable → new.durable ≡ k.durable → Ends s new left → Next s k o u → Steps o k l → Whole Next Ends u l new' left'
      → Beside Next Ends Fits new new' left left'
  GoesOn : (s : S) (k : Kept) (o : Option Change) (u : S) (l : Kept) → Fits s new'.durable → new'.durable ≡ k.durable → Ends s new' left' → Next s k o u → Steps o k l → Whole Next Ends u l new left
      → Beside Next Ends Fits new new' left left'

beside-turned :
    {S R : Type 0} (Next : S → Kept → Option Change → S → Type 0) (Ends : S → Kept → R → Type 0) (Fits : S → Durable → Type 0) (new new' : Kept) (left left' : R)
    → Beside Next Ends Fits new new' left left' → Beside Next Ends Fits new' new left' left
beside-turned Next Ends Fits new new' left left' (Together s fits same ends ends') = Together s (subst (Fits s) same fits) (sym same) ends' ends
beside-turned Next Ends Fits new new' left left' (EndsFirst s k o u l fits same ends next steps rest) = GoesOn s k o u l fits same ends next steps rest
beside-turned Next Ends Fits new new' left left' (GoesOn s k o u l fits same ends next steps rest) = EndsFirst s k o u l fits same ends next steps rest

module _ {S R : Type 0} (Next : S → Kept → Option Change → S → Type 0) (Ends : S → Kept → R → Type 0) (Fits : S → Durable → Type 0) (one : HasOneStep Next Fits) (on : FitsOn Next Fits) (start : S) where
  ends-first :
      (old old' new new' : Kept) (left left' : R)
      → Fits start old.durable → old.durable ≡ old'.durable → (w : Whole Next Ends start old new left) (v : Whole Next Ends start old' new' left')
      → steps_in w.reached.path < steps_in v.reached.path → Beside Next Ends Fits new new' left left'
  ends-first old old' new new' left left' fits same w v less =
      let x = split-at Next start old' v.reached.did v.last new' (steps_in w.reached.path) v.reached.path less in
      let so = path-same Next Fits one on start old old' w.reached.did x.before w.last x.mid new x.had fits same w.reached.path x.path (sym x.so_many) in
      EndsFirst w.last x.had x.change x.after x.has (path-keeps Next (λ t d. Fits t d.durable) on start old w.reached.did w.last new w.reached.path fits) so.kept_same w.ends
      (subst (λ t. Next t x.had x.change x.after) (sym so.stage_same) x.next) x.steps (record { last = v.last; reached = x.rest; ends = v.ends })

  pub whole-beside :
      (old old' new new' : Kept) (left left' : R)
      → Fits start old.durable → old.durable ≡ old'.durable → Whole Next Ends start old new left → Whole Next Ends start old' new' left'
      → Beside Next Ends Fits new new' left left'
  whole-beside old old' new new' left left' fits same w v = by (cases_order (steps_in w.reached.path) (steps_in v.reached.path))
    where
      by : (steps_in w.reached.path ≡ steps_in v.reached.path) ⊎ ((steps_in w.reached.path < steps_in v.reached.path) ⊎ (steps_in v.reached.path < steps_in w.reached.path)) → Beside Next Ends Fits new new' left left'
      by (inl as_many) =
          let so = path-same Next Fits one on start old old' w.reached.did v.reached.did w.last v.last new new' fits same w.reached.path v.reached.path as_many in
          Together w.last (path-keeps Next (λ t d. Fits t d.durable) on start old w.reached.did w.last new w.reached.path fits) so.kept_same w.ends (subst (λ t. Ends t new' left') (sym so.stage_same) v.ends)
      by (inr (inl less)) = ends-first old old' new new' left left' fits same w v less
      by (inr (inr more)) = beside-turned Next Ends Fits new' new left' left (ends-first old' old new' new left' left (subst (Fits start) same fits) (sym same) v w more)

-- ---- turns that come to one thing

-- two turns come to one: the same is kept, but for free blocks, and the same is known and follows
pub record OneTurn {R : Type 0} (new new' : Kept) (left left' : R) : Type 0 where
  pub kept_same : new.durable ≡ new'.durable
  pub left_same : left ≡ left'

module _ {S R A B : Type 0} (Next : S → Kept → Option Change → S → Type 0) (Ends : S → Kept → R → Type 0) (Fits : S → Durable → Type 0) (told : R → A) (seen : R → B) where
  -- what is seen of what a turn ends with at a stage is one, where the same is told
  abbrev pub HasOneEndAs : Type 0
  HasOneEndAs = (s : S) (k l : Kept) (left left' : R) → Fits s k.durable → k.durable ≡ l.durable → told left ≡ told left' → Ends s k left → Ends s l left' → seen left ≡ seen left'

  -- where a turn ends no other goes on that tells the same
  abbrev pub IsLastAs : Type 0
  IsLastAs =
      (s : S) (k l new : Kept) (left left' : R) (o : Option Change) (u : S) (j : Kept)
      → Fits s k.durable → k.durable ≡ l.durable → told left ≡ told left' → Ends s k left → Next s l o u → Whole Next Ends u j new left' → ⊥

  -- then what is seen of a turn is determined by what it tells
  pub whole-one_as :
      HasOneStep Next Fits → FitsOn Next Fits → HasOneEndAs → IsLastAs → (start : S) (old old' new new' : Kept) (left left' : R)
      → Fits start old.durable → old.durable ≡ old'.durable → told left ≡ told left' → Whole Next Ends start old new left → Whole Next Ends start old' new' left' → OneTurn new new' (seen left) (seen left')
  whole-one_as one on end over start old old' new new' left left' fits same tells w v = by (whole-beside Next Ends Fits one on start old old' new new' left left' fits same w v)
    where
      by : Beside Next Ends Fits new new' left left' → OneTurn new new' (seen left) (seen left')
      by (Together s so alike ends ends') = record { kept_same = alike; left_same = end s new new' left left' so alike tells ends ends' }
      by (EndsFirst s k o u l so alike ends next steps rest) = absurd (over s new k new' left left' o u l so alike tells ends next rest)
      by (GoesOn s k o u l so alike ends next steps rest) = absurd (over s new' k new left' left o u l so alike (sym tells) ends next rest)

module _ {S R : Type 0} (Next : S → Kept → Option Change → S → Type 0) (Ends : S → Kept → R → Type 0) (Fits : S → Durable → Type 0) where
  -- what a turn ends with at a stage is one
  abbrev pub HasOneEnd : Type 0
  HasOneEnd = (s : S) (k l : Kept) (left left' : R) → Fits s k.durable → k.durable ≡ l.durable → Ends s k left → Ends s l left' → left ≡ left'

  -- a stage at which a turn ends has no step
  abbrev pub IsLast : Type 0
  IsLast = (s : S) (k l : Kept) (left : R) (o : Option Change) (u : S) → Fits s k.durable → k.durable ≡ l.durable → Ends s k left → Next s l o u → ⊥

  -- then a turn is determined
  pub whole-one :
      HasOneStep Next Fits → FitsOn Next Fits → HasOneEnd → IsLast → (start : S) (old old' new new' : Kept) (left left' : R)
      → Fits start old.durable → old.durable ≡ old'.durable → Whole Next Ends start old new left → Whole Next Ends start old' new' left' → OneTurn new new' left left'
  whole-one one on end over start old old' new new' left left' fits same w v =
      whole-one_as Next Ends Fits (λ x. tt {0}) (λ x. x) one on (λ s k l x y so alike tells ends ends'. end s k l x y so alike ends ends')
      (λ s k l n x y o u j so alike tells ends next rest. over s k l x o u so alike ends next) start old old' new new' left left' fits same (refl {0}) w v
