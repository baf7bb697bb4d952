-- The lines of a run only grow; so where none tells of a stop, none did before, and no turn was cut.
use Rattle.std.specs.Prelude.{ℕ, ◌≡◌, ◌++◌, ◌==◌, Bool, true, false, List, [], ◌∷◌, Some, None, refl, if◌then◌else◌}
use Rattle.std.proofs.Common.{append-nil, append_assoc, inl, inr, sym, ◌∙◌, ap}
use Rattle.base_types.specs.declared.report.Line.{Line}
use Rattle.daos_model.specs.Stops.{stop_numbers}
use Rattle.world_base.specs.model_laws.TargetLaws.{same_number}
use Rattle.world_base.specs.declared.world.World.{World}
use Rattle.world_base.specs.Events.{Rules}
use Rattle.world_base.specs.Stops.{Begins, Goes, Happening, WorldEvent, WorldRun}
use Rattle.world_letters.specs.lives.Adding.{Adds, none-stopped, stops-append, stops_of}
use Rattle.world_letters.specs.lives.Events.{happening-adds, stops_in}

-- what was told stays told, and more may be told behind it
abbrev pub TellsMore : World → World → Type 0
TellsMore w v = (more : List Line) × (v.lines ≡ w.lines ++ more)

-- lines only grow
abbrev pub LinesGrow : Type 0
LinesGrow = (r : Rules) (w v : World) → WorldRun r w v → TellsMore w v

-- no line tells of a stop
abbrev pub TellsOfNoStop : World → Type 0
TellsOfNoStop w = stop_numbers w.lines ≡ []

-- what happens tells more
happening-tells : (r : Rules) (w v : World) → Happening r w v → TellsMore w v
happening-tells r w v e = elim (happening-adds r w v e) [ inl a ↦ (a.more, a.lines) | inr d ↦ ([], ap (λ u. u.lines) d.1.after ∙ sym (append-nil w.lines)) ]

event-tells : (r : Rules) (w v : World) → WorldEvent r w v → TellsMore w v
event-tells r w v e = let k = happening-tells r w e.u e.happens in (k.0, ap (λ u. u.lines) e.after ∙ k.1)

pub lines-grow : LinesGrow
lines-grow r w v Begins = ([], sym (append-nil w.lines))
lines-grow r w v (Goes u x run e) =
    let k = lines-grow r w u run in
    let s = event-tells r u v e in
    (k.0 ++ s.0, s.1 ∙ ap (λ ls. ls ++ s.0) k.1 ∙ append_assoc w.lines k.0 s.0)

-- ---- where none tells of a stop

first-none : {T : Type 0} (xs ys : List T) → xs ++ ys ≡ [] → xs ≡ []
first-none [] ys none = refl
first-none (x ∷ xs) ys none = let no : ⊥ = cc in absurd no

second-none : {T : Type 0} (xs ys : List T) → xs ++ ys ≡ [] → ys ≡ []
second-none [] ys none = none
second-none (x ∷ xs) ys none = let no : ⊥ = cc in absurd no

-- no line told of a stop before
pub none-before : (w v : World) → TellsMore w v → TellsOfNoStop v → TellsOfNoStop w
none-before w v k none = first-none (stop_numbers w.lines) (stop_numbers k.0) (sym (ap stop_numbers k.1 ∙ stops-append w.lines k.0) ∙ none)

pub none-told_before : (r : Rules) (w v : World) → WorldEvent r w v → TellsOfNoStop v → TellsOfNoStop w
none-told_before r w v e none = none-before w v (event-tells r w v e) none

-- and no target stopped
pub none-stops : (r : Rules) (w v : World) (e : Happening r w v) (t : ℕ) → TellsOfNoStop v → stops_in e ≡ Some t → ⊥
none-stops r w v e t none is = elim (happening-adds r w v e) [ inl a ↦ adding a | inr d ↦ (let bad : None ≡ Some t = sym d.0 ∙ is in let no : ⊥ = cc in no) ]
  where
    one : (b : Bool) → b ≡ true → ◌≡◌ {A = ℕ} (if b then 1 else 0) 0 → ⊥
    one true e zero = let no : ⊥ = cc in no
    one false e zero = let no : ⊥ = cc in no

    adding : Adds (stops_in e) w v → ⊥
    adding a =
        let none-more : stop_numbers a.more ≡ [] = second-none (stop_numbers w.lines) (stop_numbers a.more) (sym (ap stop_numbers a.lines ∙ stops-append w.lines a.more) ∙ none) in
        one (t == t) (same_number t) (ap (λ o. stops_of o t) (sym is) ∙ sym (a.stopped t) ∙ none-stopped a.more none-more t)
