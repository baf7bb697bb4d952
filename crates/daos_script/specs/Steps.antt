-- What a line adds to the list of the present client, or why it may not stand there.
use Rattle.std.specs.Prelude.{ℕ, ◌+◌, Bool, true, is_none, nat_le, Option, Some, None, Ok, Err, if◌then◌else◌}
use Rattle.base_types.specs.declared.fault.Why.TheVariants.{BadBlock, TooMany}
use Rattle.base_types.specs.declared.id.ContId.{ContId}
use Rattle.base_types.specs.declared.operation.Op.{Op}
use Rattle.base_types.specs.declared.script.Command.{Command}
use Rattle.base_text.specs.Results.{◌>>=◌}
use Rattle.script_lines.specs.declared.line.At.{At}
use Rattle.script_words.specs.Reads.{Read}
use Rattle.daos_script.specs.declared.client.Client.{Client}
use Rattle.daos_script.specs.declared.present.Present.{Present}
use Rattle.daos_script.specs.declared.present.Step.{Step}
use Rattle.daos_script.specs.declared.present.Step.TheVariants as step
use Rattle.daos_script.specs.declared.tx.Tx.{Tx}
use Rattle.daos_script.specs.Clients.{client_command, client_end, client_op, client_skip, client_tx, within_tx}

abbrev pub tx_of : Option Client → Option Tx
tx_of None = None
tx_of (Some c) = c.tx

-- the container within which the objects of the next line must keep
abbrev pub within_of : Option Client → Option ContId
within_of None = None
within_of (Some c) = within_tx c.tx

-- the client whose list is begun
abbrev pub begun : Option Client → Read Client
begun None = Err BadBlock
begun (Some c) = Ok c

-- the number of commands, with one more where it counts; at most 100,000
abbrev pub counted : Bool → ℕ → Read ℕ
counted one n = if one then (if nat_le 100000 n then Err (TooMany 100000) else Ok (n + 1)) else Ok n

-- an operation, of the transaction or as a command of its own
unfoldable pub step_op : Present → Op → Read Present
step_op p op = do
  c ← begun p.client
  d ← client_op c op
  n ← counted (is_none c.tx) p.commands
  Ok (record { client = Some d; commands = n })

-- a numbered command, outside of transactions
unfoldable pub step_command : Present → Command → Read Present
step_command p command = do
  c ← begun p.client
  d ← client_command c command
  n ← counted true p.commands
  Ok (record { client = Some d; commands = n })

-- a transaction begins on this line, and is numbered there
unfoldable pub step_tx : Present → ℕ → Option At → Read Present
step_tx p line at = do
  c ← begun p.client
  d ← client_tx line c at
  n ← counted true p.commands
  Ok (record { client = Some d; commands = n })

-- the transaction ends
unfoldable pub step_end : Present → Read Present
step_end p = do
  c ← begun p.client
  d ← client_end c
  Ok (record p { client = Some d })

-- turns are skipped
unfoldable pub step_skip : Present → ℕ → Read Present
step_skip p n = do
  c ← begun p.client
  Ok (record p { client = Some (client_skip c n) })

abbrev pub with_step : Present → Step → Read Present
with_step p (step.Do op) = step_op p op
with_step p (step.Number command) = step_command p command
with_step p (step.Begin line at) = step_tx p line at
with_step p step.End = step_end p
with_step p (step.Skip n) = step_skip p n
