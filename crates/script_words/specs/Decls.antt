-- What is declared, with one more container, object, old snapshot, drop, stop or snapshot of the present client.
use Rattle.std.specs.Prelude.{ℕ, nat_le, List, [], ◌∷◌, ◌++◌, length, Ok, Err, if◌then◌else◌}
use Rattle.base_types.specs.declared.fault.Why.TheVariants.{TooMany}
use Rattle.base_types.specs.declared.id.ContId.{ContId}
use Rattle.base_types.specs.declared.script.ContDecl.{ContDecl}
use Rattle.base_types.specs.declared.script.ObjDecl.{ObjDecl}
use Rattle.base_types.specs.declared.script.OldDecl.{OldDecl}
use Rattle.base_types.specs.declared.script.StopDecl.{StopDecl}
use Rattle.base_text.specs.Results.{◌>>=◌}
use Rattle.script_words.specs.declared.decls.Decls.{Decls}
use Rattle.script_words.specs.Reads.{Read}

-- nothing is declared yet
abbrev pub nothing_declared : ℕ → Decls
nothing_declared targets = record { targets = targets; conts = []; objs = []; olds = []; drops = []; stops = []; made = []; own = [] }

-- whether one more may come after this many
abbrev pub room : ℕ → ℕ → Read (Unit {0})
room most count = if nat_le most count then Err (TooMany most) else Ok tt

unfoldable pub with_cont : Decls → ContDecl → Read Decls
with_cont decls d = room 256 (length decls.conts) >>= λ fits. Ok (record decls { conts = decls.conts ++ d ∷ [] })

unfoldable pub with_obj : Decls → ObjDecl → Read Decls
with_obj decls d = room 4096 (length decls.objs) >>= λ fits. Ok (record decls { objs = decls.objs ++ d ∷ [] })

unfoldable pub with_old : Decls → OldDecl → Read Decls
with_old decls d = room 256 (length decls.olds) >>= λ fits. Ok (record decls { olds = decls.olds ++ d ∷ [] })

-- a drop needs no room of its own: it names one of the 256 snapshots
abbrev pub with_drop : Decls → List ℕ → Decls
with_drop decls name = record decls { drops = decls.drops ++ name ∷ [] }

unfoldable pub with_stop : Decls → StopDecl → Read Decls
with_stop decls d = room 64 (length decls.stops) >>= λ fits. Ok (record decls { stops = decls.stops ++ d ∷ [] })

unfoldable pub with_own : Decls → List ℕ → ContId → Decls
with_own decls name cont = record decls { made = decls.made ++ (name, cont) ∷ []; own = decls.own ++ (name, cont) ∷ [] }
