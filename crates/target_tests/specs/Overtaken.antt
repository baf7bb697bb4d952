-- What the second of two targets hears where a Mark overtakes the Prepare of its attempt, and what it keeps meanwhile.
use Rattle.std.specs.Prelude.{true, false, [], ◌∷◌, Some, None}
use Rattle.base_types.specs.declared.entry.Entry.{Entry}
use Rattle.base_types.specs.declared.entry.Verdict.TheVariants.{Aborted}
use Rattle.base_types.specs.declared.id.AttemptId.{AttemptId}
use Rattle.base_types.specs.declared.id.Class.TheVariants.{S1}
use Rattle.base_types.specs.declared.operation.MinorWrite.{MinorWrite}
use Rattle.base_types.specs.declared.operation.Read.TheVariants as read
use Rattle.base_types.specs.declared.operation.Write.TheVariants as write
use Rattle.base_types.specs.declared.path.Path.{Path}
use Rattle.base_messages.specs.declared.actor.ActorId.{ActorId}
use Rattle.base_messages.specs.declared.message.Message.{Message}
use Rattle.base_messages.specs.declared.message.Message.TheVariants.{Fetch, Mark, Prepare, Verdict}
use Rattle.daos_model.specs.declared.durable.Durable.{Durable}
use Rattle.target_tests.specs.Rows.{IsBlank, IsHere, cont}
use Rattle.world_base.specs.declared.target.TargetPlan.{TargetPlan}

-- the second of two targets
abbrev pub second : TargetPlan
second = record { me = 1; targets = 2; epsilon = 0 }

-- the first target, and the client that reads
abbrev pub leader : ActorId
leader = record { client = false; number = 0 }

abbrev pub client : ActorId
client = record { client = true; number = 1 }

-- the attempt that writes, and the one that reads
abbrev pub writer : AttemptId
writer = record { client = 0; command = 0; attempt = 0 }

abbrev pub reader : AttemptId
reader = record { client = 1; command = 0; attempt = 0 }

-- an akey of the object of class S1 and number 1
abbrev pub akey : Path
akey = record { cont = cont; obj = Some (record { class = S1; number = 1; unit = 1 }); dkey = Some (100 ∷ []); akey = Some (97 ∷ []) }

-- the entry of the attempt that writes, which the first target leads
abbrev pub entry : Entry
entry = record { attempt = writer; epoch = record { 0 = 256 }; leader = 0; members = 3; confirmed = 0; committed = false }

abbrev pub own_write : MinorWrite
own_write = record { minor = 1; write = write.Single akey (49 ∷ []) }

-- ---- what it hears

abbrev pub mark : Message
mark = Mark 1 ((writer, false) ∷ [])

abbrev pub prepare : Message
prepare = Prepare entry None (own_write ∷ []) 1

abbrev pub fetch : Message
fetch = Fetch reader 0 0 None None (record { 0 = 0 }) (read.Single akey) false

abbrev pub verdict : Message
verdict = Verdict writer (Some reader) 1 Aborted

-- ---- what it keeps

-- before the Prepare: the container is here, and nothing was written
pub record IsNew (d : Durable) : Type 0 where
  pub here : IsHere d
  pub blank : IsBlank d
