use Rattle.run_base.proofs.Places.{AreCounted}
use Rattle.run_base.proofs.between.place_of.Given as goal

-- the letters to the actor before this place were counted, and the wanted one isn't among them
abbrev pub invariant-loop-place : goal.invariant-loop-place
invariant-loop-place l = AreCounted l.letters l.to l.number l.place l.before
