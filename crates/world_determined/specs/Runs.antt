-- A run is determined by what is chosen in its events, and by what their turns tell of what they left open.
use Rattle.std.specs.Prelude.{◌≡◌, List, [], ◌∷◌}
use Rattle.std.proofs.Common.{sym, ◌∙◌, ap}
use Rattle.base_types.specs.declared.outcome.Outcome.{Outcome}
use Rattle.world_base.specs.declared.world.World.{World}
use Rattle.world_base.specs.Events.{Rules}
use Rattle.world_base.specs.Stops.{Begins, Goes, WorldEvent, WorldRun}
use Rattle.world_determined.specs.Choices.{Choice, LeadDecided, choice_of, told_open}
use Rattle.world_determined.specs.Events.{events-are_one}
use Rattle.world_determined.specs.Worlds.{SameButFree, but_free, swept-same}

-- ---- the statements

-- what is chosen in the events of a run, and told of what was open; the last event stands first
abbrev pub choices_of : (r : Rules) → {w v : World} → WorldRun r w v → List (Choice × List Outcome)
choices_of r Begins = []
choices_of r (Goes u v run e) = (choice_of r e.happens, told_open r e.happens) ∷ choices_of r run

-- From worlds that are the same but for free blocks, two runs in which the same is chosen, and the same is told of what was open, come to such
-- worlds. In every world that the one comes to no target decided what another one leads.
abbrev pub RunsAreOne : Type 0
RunsAreOne =
    (r : Rules) (w v w' v' : World) (g : WorldRun r w w') (h : WorldRun r v v') → ((x : World) → WorldRun r w x → LeadDecided r x) → SameButFree w v → choices_of r g ≡ choices_of r h → SameButFree w' v'

-- ---- the law

pub world-event-one :
    (r : Rules) (w v w' v' : World) (e : WorldEvent r w w') (f : WorldEvent r v v') → LeadDecided r w → SameButFree w v → choice_of r e.happens ≡ choice_of r f.happens → told_open r e.happens ≡ told_open r f.happens
    → SameButFree w' v'
world-event-one r w v w' v' e f led same chosen told =
    ap but_free e.after ∙ swept-same e.u f.u (events-are_one r w v e.u f.u e.happens f.happens led same chosen told) ∙ sym (ap but_free f.after)

first-same : {T : Type 0} (x y : T) (xs ys : List T) → x ∷ xs ≡ y ∷ ys → x ≡ y
first-same x y xs ys same = cc

others-same : {T : Type 0} (x y : T) (xs ys : List T) → x ∷ xs ≡ y ∷ ys → xs ≡ ys
others-same x y xs ys same = cc

pub runs-are_one : RunsAreOne
runs-are_one r w v _ _ Begins Begins led same chosen = same
runs-are_one r w v _ _ Begins (Goes u x run e) led same chosen = let no : ⊥ = cc (chosen) in absurd no
runs-are_one r w v _ _ (Goes u x run e) Begins led same chosen = let no : ⊥ = cc (chosen) in absurd no
runs-are_one r w v _ _ (Goes u x run e) (Goes u' x' run' e') led same chosen =
    let one = first-same (choice_of r e.happens, told_open r e.happens) (choice_of r e'.happens, told_open r e'.happens) (choices_of r run) (choices_of r run') chosen in
    let before = others-same (choice_of r e.happens, told_open r e.happens) (choice_of r e'.happens, told_open r e'.happens) (choices_of r run) (choices_of r run') chosen in
    world-event-one r u u' x x' e e' (led u run) (runs-are_one r w v u u' run run' led same before) (ap (λ (p : Choice × List Outcome). p.0) one) (ap (λ (p : Choice × List Outcome). p.1) one)
