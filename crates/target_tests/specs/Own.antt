-- What the first of two targets hears of an attempt that it leads itself.
use Rattle.std.specs.Prelude.{false, [], ◌∷◌, Some, None}
use Rattle.base_types.specs.declared.id.AttemptId.{AttemptId}
use Rattle.base_types.specs.declared.id.Class.TheVariants.{RP2G1}
use Rattle.base_types.specs.declared.operation.MinorWrite.{MinorWrite}
use Rattle.base_types.specs.declared.operation.Write.TheVariants as write
use Rattle.base_types.specs.declared.path.Path.{Path}
use Rattle.base_messages.specs.declared.message.Message.{Message}
use Rattle.base_messages.specs.declared.message.Message.TheVariants.{Ack, Commit, Mark, Marked, Query, Verdict}
use Rattle.target_tests.specs.Rows.{cont}
use Rattle.world_base.specs.declared.target.TargetPlan.{TargetPlan}

-- the first of two targets
abbrev pub first : TargetPlan
first = record { me = 0; targets = 2; epsilon = 0 }

-- the attempt that it leads
abbrev pub led : AttemptId
led = record { client = 0; command = 0; attempt = 0 }

-- an akey of the object of class RP_2G1 and number 0, which both targets hold
abbrev pub shared : Path
shared = record { cont = cont; obj = Some (record { class = RP2G1; number = 0; unit = 1 }); dkey = Some (100 ∷ []); akey = Some (97 ∷ []) }

abbrev pub write_shared : MinorWrite
write_shared = record { minor = 0; write = write.Single shared (49 ∷ []) }

-- its client commits a write there
abbrev pub request : Message
request = Commit led None None (record { 0 = 0 }) (write_shared ∷ [])

-- what targets tell and ask each other of attempts that were begun
abbrev pub IsOfBegun : Message → Type 0
IsOfBegun (Ack x inc refusal) = Unit {0}
IsOfBegun (Mark inc marks) = Unit {0}
IsOfBegun (Marked inc ids) = Unit {0}
IsOfBegun (Query x ask) = Unit {0}
IsOfBegun (Verdict x ask inc v) = Unit {0}
IsOfBegun m = ⊥
