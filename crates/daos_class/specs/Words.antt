-- The words that name classes.
use Rattle.std.specs.Prelude.{ℕ, List, codes}
use Rattle.base_types.specs.declared.id.Class.{Class}
use Rattle.base_types.specs.declared.id.Class.TheVariants.{S1, S2, S4, SX, RP2G1, RP2GX, RP3G1, RP3GX}

-- the word of a class
abbrev pub class_word : Class → List ℕ
class_word S1 = codes "S1"
class_word S2 = codes "S2"
class_word S4 = codes "S4"
class_word SX = codes "SX"
class_word RP2G1 = codes "RP_2G1"
class_word RP2GX = codes "RP_2GX"
class_word RP3G1 = codes "RP_3G1"
class_word RP3GX = codes "RP_3GX"
