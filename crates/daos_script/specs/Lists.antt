-- What a line adds to the lists of all clients, or why it may not stand there.
use Rattle.std.specs.Prelude.{ℕ, is_some, List, [], ◌∷◌, ◌++◌, length, Option, Some, None, Ok, Err, if◌then◌else◌}
use Rattle.base_types.specs.declared.fault.Why.TheVariants.{BadBlock}
use Rattle.base_types.specs.declared.script.Command.{Command}
use Rattle.base_types.specs.declared.script.Command.TheVariants as command
use Rattle.base_text.specs.Results.{◌>>=◌}
use Rattle.script_words.specs.Decls.{room}
use Rattle.script_words.specs.Reads.{Read}
use Rattle.daos_script.specs.declared.client.Client.{Client}
use Rattle.daos_script.specs.declared.lists.Lists.{Lists}
use Rattle.daos_script.specs.declared.present.Step.{Step}
use Rattle.daos_script.specs.Clients.{client_command, skip_open}
use Rattle.daos_script.specs.Steps.{begun, tx_of, with_step}

-- no client yet
abbrev pub nothing_listed : Lists
nothing_listed = record { whole = []; present = record { client = None; commands = 0 }; tells = [] }

-- the lists so far, with that of the present client
abbrev pub lists_of : List (List Command) → Option Client → List (List Command)
lists_of whole None = whole
lists_of whole (Some c) = whole ++ c.list ∷ []

abbrev pub all_lists : Lists → List (List Command)
all_lists l = lists_of l.whole l.present.client

-- the turns that are summed up for the next operation
abbrev pub pending : Lists → ℕ
pending l = skip_open (tx_of l.present.client)

-- ---- the list of a client begins; at most 64

-- the list of the present client is whole
abbrev pub closed : Lists → Lists
closed l = record l { whole = all_lists l; present = record { client = None; commands = l.present.commands } }

-- the next client is of their number, and has nothing to do yet
abbrev pub next_client : Lists → Lists
next_client l = record l { whole = all_lists l; present = record { client = Some (record { number = length (all_lists l); list = []; tx = None }); commands = l.present.commands } }

unfoldable pub next_list : Lists → Read Lists
next_list l = if is_some (tx_of l.present.client) then Err BadBlock else (room 64 (length (all_lists l)) >>= λ fits. Ok (next_client l))

-- ---- a list goes on

unfoldable pub one_step : Lists → Step → Read Lists
one_step l s = with_step l.present s >>= λ p. Ok (record l { present = p })

-- the client with the command to tell one its tracker, and its line among those from `tell`
abbrev pub told_by : Lists → ℕ → ℕ → Client → Lists
told_by l line to c = record l {
  present = record { client = Some c; commands = l.present.commands };
  tells = l.tells ++ record { line = line; client = c.number; to = to } ∷ [];
}

unfoldable pub with_tell : ℕ → Lists → ℕ → Read Lists
with_tell line l to = do
  c ← begun l.present.client
  d ← client_command c (command.Tell to)
  Ok (told_by l line to d)
