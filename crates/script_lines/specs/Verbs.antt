-- The words that say what a line is.
use Rattle.std.specs.Prelude.{ℕ, Bool, true, false, List, [], ◌∷◌, codes, Option, Some, None, Ok, Err, if◌then◌else◌}
use Rattle.std.specs.Str.{bytes_eq}
use Rattle.base_types.specs.declared.fault.Why.TheVariants.{MissingWord, UnknownWord}
use Rattle.base_types.specs.declared.operation.Cond.{Cond}
use Rattle.base_types.specs.declared.operation.Cond.TheVariants.{Free, Must, MustNot}
use Rattle.base_text.specs.Results.{◌>>=◌}
use Rattle.script_words.specs.Reads.{Read, Taken, or_fault}
use Rattle.script_lines.specs.declared.verbs.OpVerb.{OpVerb}
use Rattle.script_lines.specs.declared.verbs.OpVerb.TheVariants as op
use Rattle.script_lines.specs.declared.verbs.Verb.{Verb}
use Rattle.script_lines.specs.declared.verbs.Verb.TheVariants as verb

-- the operation that a word is
abbrev pub op_verb_of : List ℕ → Option OpVerb
op_verb_of w =
    if bytes_eq w (codes "put") then Some op.Put else if bytes_eq w (codes "get") then Some op.Get
    else if bytes_eq w (codes "write") then Some op.Write else if bytes_eq w (codes "read") then Some op.Read
    else if bytes_eq w (codes "dkeys") then Some op.Dkeys else if bytes_eq w (codes "akeys") then Some op.Akeys
    else if bytes_eq w (codes "has") then Some op.Has else if bytes_eq w (codes "punch") then Some op.Punch else None

-- the other words, in two halves
abbrev pub head_of : List ℕ → Option Verb
head_of w =
    if bytes_eq w (codes "cont") then Some verb.Cont else if bytes_eq w (codes "obj") then Some verb.Obj
    else if bytes_eq w (codes "old") then Some verb.Old else if bytes_eq w (codes "drop") then Some verb.Drop
    else if bytes_eq w (codes "stop") then Some verb.Stop else if bytes_eq w (codes "client") then Some verb.Client
    else if bytes_eq w (codes "must") then Some verb.Must else if bytes_eq w (codes "mustnot") then Some verb.MustNot else None

abbrev pub command_of : List ℕ → Option Verb
command_of w =
    if bytes_eq w (codes "tx") then Some verb.Tx else if bytes_eq w (codes "end") then Some verb.End
    else if bytes_eq w (codes "at") then Some verb.At else if bytes_eq w (codes "snap") then Some verb.Snap
    else if bytes_eq w (codes "aggregate") then Some verb.Aggregate else if bytes_eq w (codes "tell") then Some verb.Tell
    else if bytes_eq w (codes "skip") then Some verb.Skip else None

-- the first that is found
abbrev pub first_found : Option Verb → Option Verb → Option Verb
first_found (Some v) other = Some v
first_found None other = other

abbrev pub op_found : Option OpVerb → Option Verb → Option Verb
op_found (Some v) other = Some (verb.Op v)
op_found None other = other

-- the verb that a word is
abbrev pub verb_of : List ℕ → Option Verb
verb_of w = op_found (op_verb_of w) (first_found (head_of w) (command_of w))

-- the word that says what a line is
unfoldable pub verb_at : List (List ℕ) → Taken Verb
verb_at [] = Err MissingWord
verb_at (w ∷ ws) = or_fault UnknownWord (verb_of w) >>= λ v. Ok (v, ws)

-- an operation that only reads
abbrev pub is_read : OpVerb → Bool
is_read op.Put = false
is_read op.Get = true
is_read op.Write = false
is_read op.Read = true
is_read op.Dkeys = true
is_read op.Akeys = true
is_read op.Has = true
is_read op.Punch = false

-- all but `has` may have to find a cell, or to find none
abbrev pub may_must : OpVerb → Bool
may_must op.Put = true
may_must op.Get = true
may_must op.Write = true
may_must op.Read = true
may_must op.Dkeys = true
may_must op.Akeys = true
may_must op.Has = false
may_must op.Punch = true

-- an operation may have a condition
abbrev pub allows : Cond → OpVerb → Bool
allows Free v = true
allows Must v = may_must v
allows MustNot v = may_must v

-- the operation of a verb, where it may have this condition
abbrev pub op_under : Cond → Verb → Read OpVerb
op_under cond verb.Cont = Err UnknownWord
op_under cond verb.Obj = Err UnknownWord
op_under cond verb.Old = Err UnknownWord
op_under cond verb.Drop = Err UnknownWord
op_under cond verb.Stop = Err UnknownWord
op_under cond verb.Client = Err UnknownWord
op_under cond (verb.Op v) = if allows cond v then Ok v else Err UnknownWord
op_under cond verb.Must = Err UnknownWord
op_under cond verb.MustNot = Err UnknownWord
op_under cond verb.Tx = Err UnknownWord
op_under cond verb.End = Err UnknownWord
op_under cond verb.At = Err UnknownWord
op_under cond verb.Snap = Err UnknownWord
op_under cond verb.Aggregate = Err UnknownWord
op_under cond verb.Tell = Err UnknownWord
op_under cond verb.Skip = Err UnknownWord

-- the word of an operation that may have a condition
unfoldable pub cond_verb_at : Cond → List (List ℕ) → Taken OpVerb
cond_verb_at cond ws = do
  v ← verb_at ws
  found ← op_under cond v.0
  Ok (found, v.1)
