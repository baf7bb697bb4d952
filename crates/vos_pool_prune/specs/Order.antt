-- Which versions go, and in which order.
use Rattle.std.specs.Prelude.{◌++◌, Bool, true, false, List, [], ◌∷◌, filter, not, if◌then◌else◌}
use Rattle.daos_model.specs.declared.durable.Version.{Version}
use Rattle.daos_model.specs.Prunes.{is_punch}

-- those whose mark is set
abbrev pub chosen : {A : Type 0} → List Bool → List A → List A
chosen [] xs = []
chosen (m ∷ ms) [] = []
chosen (m ∷ ms) (x ∷ xs) = if m then x ∷ chosen ms xs else chosen ms xs

-- a version is a punch, or an update
abbrev pub is_of : Bool → Version → Bool
is_of punches v = if punches then is_punch v.write else not (is_punch v.write)

-- the punches among some versions, or the updates
abbrev pub those_of : Bool → List Version → List Version
those_of punches us = filter (is_of punches) us

-- Updates go first. So no punch goes while an older update under its path stands.
abbrev pub in_turn : List Version → List Version
in_turn us = those_of false us ++ those_of true us
