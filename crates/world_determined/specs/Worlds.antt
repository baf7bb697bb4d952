-- Worlds that are the same but for free blocks.
use Rattle.std.specs.Prelude.{ℕ, zero, suc, ◌≡◌, ◌++◌, ◌&&◌, not, Bool, true, List, [], ◌∷◌, map, filter, slice_get, Some, refl}
use Rattle.std.specs.Option.{option_map}
use Rattle.std.proofs.Common.{sym, ◌∙◌, ap, ap₂}
use mathlib.Core.Path.{fun_ext}
use Rattle.std.proofs.lemmas.List.{map-set}
use Rattle.std.proofs.lemmas.Option.{slice_get-map}
use Rattle.daos_model.specs.declared.durable.Durable.{Durable}
use Rattle.world_base.specs.declared.letter.Letter.{Letter}
use Rattle.world_base.specs.declared.target.TargetMemory.{TargetMemory}
use Rattle.world_base.specs.declared.target.TargetState.{TargetState}
use Rattle.world_base.specs.declared.world.World.{World}
use Rattle.world_base.specs.Changes.{Kept}
use Rattle.world_base.specs.Events.{target_after, with_target}
use Rattle.world_base.specs.Stops.{is_down_at, reset_letter, swept}

-- ---- the definitions

-- a target, whatever blocks are free
abbrev pub target_but_free : TargetState → TargetState
target_but_free s = record s { free = 0 }

-- a world, whatever blocks are free
abbrev pub but_free : World → World
but_free w = record w { targets = map target_but_free w.targets }

-- two worlds are the same but for free blocks
abbrev pub SameButFree : World → World → Type 0
SameButFree w v = but_free w ≡ but_free v

-- ---- targets

pub target-same : (w v : World) (t : ℕ) (s z : TargetState) → SameButFree w v → slice_get w.targets t ≡ Some s → slice_get v.targets t ≡ Some z → target_but_free s ≡ target_but_free z
target-same w v t s z same here there =
    let found : Some (target_but_free s) ≡ Some (target_but_free z) =
    sym (ap (option_map target_but_free) here) ∙ sym (slice_get-map target_but_free w.targets t) ∙ ap (λ (x : World). slice_get x.targets t) same
    ∙ slice_get-map target_but_free v.targets t ∙ ap (option_map target_but_free) there in
    cc

-- with one target set
pub target-set : (w v : World) (t : ℕ) (s z : TargetState) → SameButFree w v → target_but_free s ≡ target_but_free z → SameButFree (with_target t s w) (with_target t z v)
target-set w v t s z same one =
    ap (λ (ts : List TargetState). record w { targets = ts }) (map-set target_but_free w.targets t s) ∙ ap₂ (λ (x : TargetState) (y : World). with_target t x y) one same
    ∙ sym (ap (λ (ts : List TargetState). record v { targets = ts }) (map-set target_but_free v.targets t z))

-- a target after its turn
pub after-same : (s z : TargetState) (k l : Kept) (m n : TargetMemory) → target_but_free s ≡ target_but_free z → k.durable ≡ l.durable → m ≡ n → target_but_free (target_after s k m) ≡ target_but_free (target_after z l n)
after-same s z k l m n same kept known =
    ap (λ (x : TargetState). record x { durable = k.durable; memory = m }) same ∙ ap (λ (d : Durable). record z { durable = d; free = 0; memory = m }) kept
    ∙ ap (λ (x : TargetMemory). record z { durable = l.durable; free = 0; memory = x }) known

-- ---- what is lost since targets are given up

down-same : (ss : List TargetState) (t : ℕ) → is_down_at (map target_but_free ss) t ≡ is_down_at ss t
down-same [] t = refl
down-same (s ∷ ss) zero = refl
down-same (s ∷ ss) (suc t) = down-same ss t

-- free blocks don't matter
swept-but_free : (w : World) → but_free (swept w) ≡ swept (but_free w)
swept-but_free w = ap (λ (f : Letter → Bool). record w {
  targets = map target_but_free w.targets;
  messages = filter (λ l. not (f l)) (w.messages ++ map (reset_letter true) (filter f w.asked));
  asked = filter (λ l. not (f l)) w.asked;
}) (fun_ext (λ (l : Letter). ap (λ b. not l.to.client && b) (sym (down-same w.targets l.to.number))))

pub swept-same : (w v : World) → SameButFree w v → SameButFree (swept w) (swept v)
swept-same w v same = swept-but_free w ∙ ap swept same ∙ sym (swept-but_free v)

-- ---- what is told and kept

abbrev pub durables_in : World → List Durable
durables_in w = map (λ (s : TargetState). s.durable) w.targets

-- worlds that are the same but for free blocks tell and keep the same
pub record TellAndKeepOne (w v : World) : Type 0 where
  pub lines : w.lines ≡ v.lines
  pub durables : durables_in w ≡ durables_in v

abbrev pub SameTellOne : Type 0
SameTellOne = (w v : World) → SameButFree w v → TellAndKeepOne w v

durables-but_free : (ss : List TargetState) → map (λ (s : TargetState). s.durable) (map target_but_free ss) ≡ map (λ (s : TargetState). s.durable) ss
durables-but_free [] = refl
durables-but_free (s ∷ ss) = ap (λ ds. s.durable ∷ ds) (durables-but_free ss)

pub same-tell_one : SameTellOne
same-tell_one w v same = record {
  lines = ap (λ (x : World). x.lines) same;
  durables = sym (durables-but_free w.targets) ∙ ap durables_in same ∙ durables-but_free v.targets;
}
