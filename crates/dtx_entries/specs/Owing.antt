-- Which commits may still have to be told to others.
use Rattle.std.specs.Prelude.{ℕ, Bool, false, ◌&&◌, ◌==◌, ◌^◌, not, nat_lt, bit_or, filter, List, Option, Some, None, if◌then◌else◌}
use Rattle.base_types.specs.declared.entry.Entry.{Entry}
use Rattle.daos_model.specs.Changes.{is_other}
use Rattle.daos_model.specs.Durables.{entry_key}
use Rattle.daos_model.specs.Ordered.{put}

-- all members but the leader have confirmed the commit, as is seen from the bits at once
unfoldable pub is_confirmed : Entry → Bool
is_confirmed e = nat_lt e.leader 64 && (e.members == bit_or e.confirmed (2 ^ e.leader))

-- whether it is this target, if there is one, that leads an attempt
abbrev pub leads : Option ℕ → Entry → Bool
leads None e = false
leads (Some t) e = e.leader == t

-- a target leads an attempt that is committed, and it isn't sure that all other members have confirmed that
unfoldable pub is_owing : Option ℕ → Entry → Bool
is_owing me e = leads me e && (e.committed && not (is_confirmed e))

-- owing entries once one of an attempt is as it is now
abbrev pub owing_with : Option ℕ → Entry → List Entry → List Entry
owing_with me e es = if is_owing me e then put entry_key e (filter (is_other e.attempt) es) else filter (is_other e.attempt) es
