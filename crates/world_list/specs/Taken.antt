-- Letters in flight once one of them was heard and others were sent.
use Rattle.std.specs.Prelude.{ℕ, ◌≡◌, ◌+◌, ◌++◌, List, Some, slice_get, take, drop}
use Rattle.world_base.specs.declared.letter.Letter.{Letter}
use Rattle.world_base.specs.Letters.{Takes}

-- the letter at this place was taken
pub record IsTakenAt (after before : List Letter) (at : ℕ) (l : Letter) (sent : List Letter) : Type 0 where
  pub here : slice_get before at ≡ Some l
  pub left : after ≡ take at before ++ (drop (at + 1) before ++ sent)

-- one such letter was taken
pub record IsTaken (after before : List Letter) (l : Letter) (sent : List Letter) : Type 0 where
  pub rest : List Letter
  pub takes : Takes before l rest
  pub left : after ≡ rest ++ sent
