-- What a line says, by what is declared before it.
use Rattle.std.specs.Prelude.{ℕ, List, Option, Some, Ok, Err, if◌then◌else◌}
use Rattle.base_types.specs.declared.fault.Why.TheVariants.{UnknownWord, BadName}
use Rattle.base_types.specs.declared.id.ContId.{ContId}
use Rattle.base_types.specs.declared.operation.Cond.{Cond}
use Rattle.base_types.specs.declared.operation.Cond.TheVariants.{Free, Must, MustNot}
use Rattle.base_text.specs.Results.{◌>>=◌}
use Rattle.script_words.specs.declared.decls.Decls.{Decls}
use Rattle.script_words.specs.Lookups.{has_cont, has_obj}
use Rattle.script_words.specs.Reads.{Read, Taken}
use Rattle.script_words.specs.Words.{class_at, cont_at, drop_at, new_cont_at, new_obj_at, new_snap_at, nothing_at, number_at, snap_at, target_at, unit_at, uuid_at}
use Rattle.script_lines.specs.declared.line.At.{At}
use Rattle.script_lines.specs.declared.line.Line.{Line}
use Rattle.script_lines.specs.declared.line.Line.TheVariants as line
use Rattle.script_lines.specs.declared.verbs.OpVerb.{OpVerb}
use Rattle.script_lines.specs.declared.verbs.Verb.{Verb}
use Rattle.script_lines.specs.declared.verbs.Verb.TheVariants as verb
use Rattle.script_lines.specs.Ops.{act_by}
use Rattle.script_lines.specs.Verbs.{cond_verb_at, is_read, verb_at}

-- ---- declarations

-- cont C UUID
unfoldable pub cont_line : Decls → List (List ℕ) → Taken Line
cont_line decls ws = do
  name ← new_cont_at decls ws
  id ← uuid_at name.1
  if has_cont decls.conts id.0 then Err BadName else Ok (line.Cont (record { name = name.0; id = id.0 }), id.1)

-- obj O C CLASS NUMBER, obj O C CLASS NUMBER SIZE
unfoldable pub obj_line : Decls → List (List ℕ) → Taken Line
obj_line decls ws = do
  name ← new_obj_at decls ws
  cont ← cont_at decls name.1
  class ← class_at decls.targets cont.1
  number ← number_at 0 18446744073709551615 class.1
  unit ← unit_at number.1
  if has_obj decls.objs cont.0 (record { class = class.0; number = number.0; unit = unit.0 }) then Err BadName
      else Ok (line.Obj (record { name = name.0; cont = cont.0; id = record { class = class.0; number = number.0; unit = unit.0 } }), unit.1)

-- old S C EPOCH
unfoldable pub old_line : Decls → List (List ℕ) → Taken Line
old_line decls ws = do
  name ← new_snap_at decls ws
  cont ← cont_at decls name.1
  epoch ← number_at 0 18446744073709551615 cont.1
  Ok (line.Old (record { name = name.0; cont = cont.0; epoch = record { 0 = epoch.0 } }), epoch.1)

-- drop S
unfoldable pub drop_line : Decls → List (List ℕ) → Taken Line
drop_line decls ws = do
  name ← drop_at decls ws
  Ok (line.Drop name.0, name.1)

-- stop T K
unfoldable pub stop_line : Decls → List (List ℕ) → Taken Line
stop_line decls ws = do
  target ← target_at decls.targets ws
  write ← number_at 1 1000000 target.1
  Ok (line.Stop (record { target = target.0; write = write.0 }), write.1)

-- ---- operations

-- an operation without a condition
unfoldable pub op_line : Decls → Option ContId → OpVerb → List (List ℕ) → Taken Line
op_line decls within v ws = do
  act ← act_by decls within v ws
  Ok (line.Do (record { act = act.0; cond = Free }), act.1)

-- must LINE, mustnot LINE
unfoldable pub cond_line : Decls → Option ContId → Cond → List (List ℕ) → Taken Line
cond_line decls within condition ws = do
  v ← cond_verb_at condition ws
  act ← act_by decls within v.0 v.1
  Ok (line.Do (record { act = act.0; cond = condition }), act.1)

-- a read of a snapshot, on objects of its container
unfoldable pub do_at : Decls → At → OpVerb → List (List ℕ) → Taken Line
do_at decls at v ws = do
  act ← act_by decls (Some at.cont) v ws
  Ok (line.DoAt at (record { act = act.0; cond = Free }), act.1)

-- what may follow `at S`: a read, or `tx`
abbrev pub at_by : Decls → At → Verb → List (List ℕ) → Taken Line
at_by decls at verb.Cont ws = Err UnknownWord
at_by decls at verb.Obj ws = Err UnknownWord
at_by decls at verb.Old ws = Err UnknownWord
at_by decls at verb.Drop ws = Err UnknownWord
at_by decls at verb.Stop ws = Err UnknownWord
at_by decls at verb.Client ws = Err UnknownWord
at_by decls at (verb.Op v) ws = if is_read v then do_at decls at v ws else Err UnknownWord
at_by decls at verb.Must ws = Err UnknownWord
at_by decls at verb.MustNot ws = Err UnknownWord
at_by decls at verb.Tx ws = Ok (line.TxAt at, ws)
at_by decls at verb.End ws = Err UnknownWord
at_by decls at verb.At ws = Err UnknownWord
at_by decls at verb.Snap ws = Err UnknownWord
at_by decls at verb.Aggregate ws = Err UnknownWord
at_by decls at verb.Tell ws = Err UnknownWord
at_by decls at verb.Skip ws = Err UnknownWord

-- at S LINE, at S tx
unfoldable pub at_line : Decls → List (List ℕ) → Taken Line
at_line decls ws = do
  snap ← snap_at decls ws
  v ← verb_at snap.1
  at_by decls (record { name = snap.0.0; cont = snap.0.1 }) v.0 v.1

-- ---- other commands

-- snap S C
unfoldable pub snap_line : Decls → List (List ℕ) → Taken Line
snap_line decls ws = do
  name ← new_snap_at decls ws
  cont ← cont_at decls name.1
  Ok (line.Snap name.0 cont.0, cont.1)

-- aggregate C
unfoldable pub aggregate_line : Decls → List (List ℕ) → Taken Line
aggregate_line decls ws = do
  cont ← cont_at decls ws
  Ok (line.Aggregate cont.0, cont.1)

-- tell N
unfoldable pub tell_line : List (List ℕ) → Taken Line
tell_line ws = do
  client ← number_at 0 65535 ws
  Ok (line.Tell client.0, client.1)

-- skip N
unfoldable pub skip_line : List (List ℕ) → Taken Line
skip_line ws = do
  turns ← number_at 1 10000 ws
  Ok (line.Skip turns.0, turns.1)

-- ---- a line

-- the words after the first; in a transaction of a snapshot, on objects within its container
abbrev pub line_by : Decls → Option ContId → Verb → List (List ℕ) → Taken Line
line_by decls within verb.Cont ws = cont_line decls ws
line_by decls within verb.Obj ws = obj_line decls ws
line_by decls within verb.Old ws = old_line decls ws
line_by decls within verb.Drop ws = drop_line decls ws
line_by decls within verb.Stop ws = stop_line decls ws
line_by decls within verb.Client ws = Ok (line.Client, ws)
line_by decls within (verb.Op v) ws = op_line decls within v ws
line_by decls within verb.Must ws = cond_line decls within Must ws
line_by decls within verb.MustNot ws = cond_line decls within MustNot ws
line_by decls within verb.Tx ws = Ok (line.Tx, ws)
line_by decls within verb.End ws = Ok (line.End, ws)
line_by decls within verb.At ws = at_line decls ws
line_by decls within verb.Snap ws = snap_line decls ws
line_by decls within verb.Aggregate ws = aggregate_line decls ws
line_by decls within verb.Tell ws = tell_line ws
line_by decls within verb.Skip ws = skip_line ws

-- all the words of a line
unfoldable pub line_at : Decls → Option ContId → List (List ℕ) → Read Line
line_at decls within ws = do
  v ← verb_at ws
  l ← line_by decls within v.0 v.1
  end ← nothing_at l.1
  Ok l.0
