use Rattle.std.proofs.Common.{◌≡◌, map, take}
use Rattle.base_types.specs.declared.script.ContDecl.{ContDecl}
use Rattle.run_starts.proofs.enlisting.conts_of.Given as goal

-- those of the containers so far
abbrev pub invariant-loop-cont : goal.invariant-loop-cont
invariant-loop-cont l = l.conts.items ≡ map (λ (d : ContDecl). d.id) (take l.cont-index l.script.conts)
