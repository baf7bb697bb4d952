-- Nothing goes to a target that was given up: what did is lost in the same event.
use Rattle.std.specs.Prelude.{ℕ, zero, suc, ◌≡◌, ◌&&◌, ◌++◌, true, not, List, [], ◌∷◌, filter, map, slice_get, Some}
use Rattle.std.proofs.Common.{sym, ◌∙◌, ap, subst}
use Rattle.model_laws.specs.Members.{Has, has-from_filter}
use Rattle.daos_model.specs.BoolLaws.{clash}
use Rattle.world_base.specs.declared.letter.Letter.{Letter}
use Rattle.world_base.specs.declared.target.Life.TheVariants.{Down}
use Rattle.world_base.specs.declared.target.TargetState.{TargetState}
use Rattle.world_base.specs.declared.world.World.{World}
use Rattle.world_base.specs.Events.{Rules}
use Rattle.world_base.specs.Letters.{target}
use Rattle.world_base.specs.Stops.{WorldEvent, is_down_at, is_given_up, is_not_to_down, is_to_down, reset_letter, swept}

-- no letter in flight goes to a target that was given up
abbrev pub NoneGoesToGivenUp : World → Type 0
NoneGoesToGivenUp w = (l : Letter) (t : ℕ) (s : TargetState) → Has l w.messages → l.to ≡ target t → slice_get w.targets t ≡ Some s → s.life ≡ Down → ⊥

-- a target that is given up is known so by its number
pub down-there : (ss : List TargetState) (t : ℕ) (s : TargetState) → slice_get ss t ≡ Some s → is_down_at ss t ≡ is_given_up s.life
down-there [] t s at = let no : ⊥ = cc in absurd no
down-there (x ∷ ss) zero s at = let one : x ≡ s = cc in ap (λ y. is_given_up y.life) one
down-there (x ∷ ss) (suc t) s at = down-there ss t s at

swept-none : (w : World) → NoneGoesToGivenUp (swept w)
swept-none w l t s i to here down =
    let kept = (has-from_filter (is_not_to_down w.targets) (w.messages ++ map (reset_letter true) (filter (is_to_down w.targets) w.asked)) l i).1 in
    let gone : is_to_down w.targets l ≡ true = ap (λ a. not a.client && is_down_at w.targets a.number) to ∙ down-there w.targets t s here ∙ ap is_given_up down in
    clash (is_not_to_down w.targets l) kept (ap not gone)

pub events-go_on : (r : Rules) (w v : World) → WorldEvent r w v → NoneGoesToGivenUp v
events-go_on r w v e = subst NoneGoesToGivenUp (sym e.after) (swept-none e.u)
