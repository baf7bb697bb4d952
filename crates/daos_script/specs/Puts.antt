-- What a line adds to the script so far, or why it may not stand there.
use Rattle.std.specs.Prelude.{ℕ, is_some, List, [], Some, None, Ok, Err, if◌then◌else◌}
use Rattle.base_types.specs.declared.fault.Why.TheVariants.{BadBlock}
use Rattle.base_types.specs.declared.id.ContId.{ContId}
use Rattle.base_types.specs.declared.operation.Op.{Op}
use Rattle.base_types.specs.declared.script.Command.TheVariants as command
use Rattle.base_types.specs.declared.script.ContDecl.{ContDecl}
use Rattle.base_types.specs.declared.script.ObjDecl.{ObjDecl}
use Rattle.base_types.specs.declared.script.OldDecl.{OldDecl}
use Rattle.base_types.specs.declared.script.StopDecl.{StopDecl}
use Rattle.base_text.specs.Results.{◌>>=◌}
use Rattle.script_lines.specs.declared.line.At.{At}
use Rattle.script_lines.specs.declared.line.Line.{Line}
use Rattle.script_lines.specs.declared.line.Line.TheVariants as line
use Rattle.script_words.specs.Decls.{nothing_declared, with_cont, with_drop, with_obj, with_old, with_own, with_stop}
use Rattle.script_words.specs.Reads.{Read}
use Rattle.daos_script.specs.declared.present.Step.{Step}
use Rattle.daos_script.specs.declared.present.Step.TheVariants as step
use Rattle.daos_script.specs.Clients.{lone}
use Rattle.daos_script.specs.Lists.{next_list, nothing_listed, one_step, with_tell}
use Rattle.daos_script.specs.declared.reading.Reading.{Reading}

-- nothing is read yet, of a script for so many targets
abbrev pub nothing_read : ℕ → Reading
nothing_read targets = record { decls = nothing_declared targets; lists = nothing_listed }

-- ---- declarations stand before the first client

unfoldable pub put_cont : Reading → ContDecl → Read Reading
put_cont r d = if is_some r.lists.present.client then Err BadBlock else (with_cont r.decls d >>= λ decls. Ok (record r { decls = decls }))

unfoldable pub put_obj : Reading → ObjDecl → Read Reading
put_obj r d = if is_some r.lists.present.client then Err BadBlock else (with_obj r.decls d >>= λ decls. Ok (record r { decls = decls }))

unfoldable pub put_old : Reading → OldDecl → Read Reading
put_old r d = if is_some r.lists.present.client then Err BadBlock else (with_old r.decls d >>= λ decls. Ok (record r { decls = decls }))

unfoldable pub put_drop : Reading → List ℕ → Read Reading
put_drop r name = if is_some r.lists.present.client then Err BadBlock else Ok (record r { decls = with_drop r.decls name })

unfoldable pub put_stop : Reading → StopDecl → Read Reading
put_stop r d = if is_some r.lists.present.client then Err BadBlock else (with_stop r.decls d >>= λ decls. Ok (record r { decls = decls }))

-- ---- the list of a client begins; it has made no snapshot yet

unfoldable pub put_client : Reading → Read Reading
put_client r = next_list r.lists >>= λ lists. Ok (record { decls = record r.decls { own = [] }; lists = lists })

-- ---- all else stands in the list of a client

unfoldable pub put_step : Reading → Step → Read Reading
put_step r s = one_step r.lists s >>= λ lists. Ok (record r { lists = lists })

unfoldable pub put_do_at : Reading → At → Op → Read Reading
put_do_at r at op = put_step r (step.Number (lone (Some at.name) op))

unfoldable pub put_snap : Reading → List ℕ → ContId → Read Reading
put_snap r name cont = one_step r.lists (step.Number (command.Snap name cont)) >>= λ lists. Ok (record { decls = with_own r.decls name cont; lists = lists })

unfoldable pub put_tell : ℕ → Reading → ℕ → Read Reading
put_tell line r to = with_tell line r.lists to >>= λ lists. Ok (record r { lists = lists })

-- what the line of this number says
abbrev pub add_line : ℕ → Reading → Line → Read Reading
add_line at r (line.Cont d) = put_cont r d
add_line at r (line.Obj d) = put_obj r d
add_line at r (line.Old d) = put_old r d
add_line at r (line.Drop name) = put_drop r name
add_line at r (line.Stop d) = put_stop r d
add_line at r line.Client = put_client r
add_line at r (line.Do op) = put_step r (step.Do op)
add_line at r (line.DoAt snapshot op) = put_do_at r snapshot op
add_line at r line.Tx = put_step r (step.Begin at None)
add_line at r (line.TxAt snapshot) = put_step r (step.Begin at (Some snapshot))
add_line at r line.End = put_step r step.End
add_line at r (line.Snap name cont) = put_snap r name cont
add_line at r (line.Aggregate cont) = put_step r (step.Number (command.Aggregate cont))
add_line at r (line.Tell client) = put_tell at r client
add_line at r (line.Skip n) = put_step r (step.Skip n)
