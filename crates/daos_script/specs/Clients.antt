-- What a line adds to the list of a client, or why it may not stand there.
use Rattle.std.specs.Prelude.{ℕ, ◌+◌, Bool, true, false, ◌&&◌, ◌==◌, not, List, [], ◌∷◌, ◌++◌, length, Option, Some, None, Ok, Err, if◌then◌else◌}
use Rattle.base_types.specs.Scripts.{is_fetch}
use Rattle.base_types.specs.declared.fault.Why.TheVariants.{BadBlock}
use Rattle.base_types.specs.declared.id.ContId.{ContId}
use Rattle.base_types.specs.declared.operation.Cond.{Cond}
use Rattle.base_types.specs.declared.operation.Cond.TheVariants.{Free, Must, MustNot}
use Rattle.base_types.specs.declared.operation.Op.{Op}
use Rattle.base_types.specs.declared.script.Command.{Command}
use Rattle.base_types.specs.declared.script.Command.TheVariants as command
use Rattle.base_text.specs.Results.{◌>>=◌}
use Rattle.script_lines.specs.declared.line.At.{At}
use Rattle.script_words.specs.Decls.{room}
use Rattle.script_words.specs.Reads.{Read}
use Rattle.daos_script.specs.declared.client.Client.{Client}
use Rattle.daos_script.specs.declared.tx.Tx.{Tx}

-- ---- operations

-- a command of one operation
abbrev pub lone : Option (List ℕ) → Op → Command
lone snapshot op = command.Run (op ∷ []) (0 ∷ 0 ∷ []) snapshot

abbrev pub is_free : Cond → Bool
is_free Free = true
is_free Must = false
is_free MustNot = false

-- a read without a condition
abbrev pub is_plain : Op → Bool
is_plain op = is_free op.cond && is_fetch op.act

-- an operation may not stand in a transaction that reads this snapshot
abbrev pub is_barred : Option At → Op → Bool
is_barred None op = false
is_barred (Some at) op = not (is_plain op)

-- ---- a transaction

abbrev pub name_of : Option At → Option (List ℕ)
name_of None = None
name_of (Some at) = Some at.name

abbrev pub cont_of : Option At → Option ContId
cont_of None = None
cont_of (Some at) = Some at.cont

-- the container of the snapshot that a transaction reads
abbrev pub within_tx : Option Tx → Option ContId
within_tx None = None
within_tx (Some t) = cont_of t.at

-- the turns that are summed up for the next operation
abbrev pub skip_open : Option Tx → ℕ
skip_open None = 0
skip_open (Some t) = t.skip

abbrev pub tx_begun : ℕ → Option At → Tx
tx_begun line at = record { line = line; at = at; ops = []; skips = []; skip = 0 }

-- whether an operation may stand here; at most 64 do
unfoldable pub may_add : Tx → Op → Read (Unit {0})
may_add t op = if is_barred t.at op then Err BadBlock else room 64 (length t.ops)

-- the operation is added, behind the turns skipped before it
abbrev pub tx_pushed : Tx → Op → Tx
tx_pushed t op = record t { ops = t.ops ++ op ∷ []; skips = t.skips ++ t.skip ∷ []; skip = 0 }

unfoldable pub tx_op : Tx → Op → Read Tx
tx_op t op = may_add t op >>= λ fits. Ok (tx_pushed t op)

-- the command of a whole transaction
abbrev pub command_of : Tx → Command
command_of t = command.Run t.ops (t.skips ++ t.skip ∷ []) (name_of t.at)

-- ---- a client

-- an operation of the transaction, or a command of its own
abbrev pub op_in : Client → Option Tx → Op → Read Client
op_in c None op = Ok (record c { list = c.list ++ lone None op ∷ [] })
op_in c (Some t) op = tx_op t op >>= λ u. Ok (record c { tx = Some u })

unfoldable pub client_op : Client → Op → Read Client
client_op c op = op_in c c.tx op

-- a command that may not stand in a transaction
abbrev pub command_in : Client → Option Tx → Command → Read Client
command_in c None command = Ok (record c { list = c.list ++ command ∷ [] })
command_in c (Some t) command = Err BadBlock

unfoldable pub client_command : Client → Command → Read Client
client_command c command = command_in c c.tx command

-- a transaction begins on this line
abbrev pub tx_in : ℕ → Client → Option Tx → Option At → Read Client
tx_in line c None at = Ok (record c { tx = Some (tx_begun line at) })
tx_in line c (Some t) at = Err BadBlock

unfoldable pub client_tx : ℕ → Client → Option At → Read Client
client_tx line c at = tx_in line c c.tx at

-- the transaction that ends; it has an operation
abbrev pub ended_tx : Option Tx → Read Tx
ended_tx None = Err BadBlock
ended_tx (Some t) = if length t.ops == 0 then Err BadBlock else Ok t

unfoldable pub client_end : Client → Read Client
client_end c = ended_tx c.tx >>= λ t. Ok (record c { list = c.list ++ command_of t ∷ []; tx = None })

-- turns are skipped, in the transaction or as a command of their own
abbrev pub skip_in : Client → Option Tx → ℕ → Client
skip_in c None n = record c { list = c.list ++ command.Skip n ∷ [] }
skip_in c (Some t) n = record c { tx = Some (record t { skip = t.skip + n }) }

unfoldable pub client_skip : Client → ℕ → Client
client_skip c n = skip_in c c.tx n
