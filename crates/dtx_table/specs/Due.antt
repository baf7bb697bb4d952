-- Which targets are to be told of a commit, entry by entry.
use Rattle.std.specs.Prelude.{ℕ, ◌^◌, Bool, ◌&&◌, ◌==◌, if◌then◌else◌, nat_lt, not, bit_or, List, [], ◌∷◌}
use Rattle.std.specs.List.{list_any}
use Rattle.base_types.specs.declared.entry.Entry.{Entry}
use Rattle.dtx_base.specs.declared.leading.Naming.{Naming}
use Rattle.dtx_base.specs.Leading.{is_led, is_owed}
use Rattle.dtx_base.specs.Members.{all_targets, has_target}

-- a target isn't down, and is to be told of a commit
abbrev pub is_owed_at : ℕ → List Naming → Entry → ℕ → Bool
is_owed_at down named e t = not (has_target down t) && is_owed t named e

-- some target is to be told of it
unfoldable pub is_owed_somewhere : ℕ → List Naming → Entry → Bool
is_owed_somewhere down named e = list_any (is_owed_at down named e) all_targets

-- the bit of a target, which a number from 64 on hasn't
abbrev pub bit_of : ℕ → ℕ
bit_of t = if nat_lt t 64 then 2 ^ t else 0

-- a target leads an attempt that is committed, and its members aren't just this one and those that have confirmed the commit
unfoldable pub may_owe : ℕ → Entry → Bool
may_owe me e = not (e.members == bit_or e.confirmed (bit_of me)) && is_led me e && e.committed

-- these targets, and the members of these entries
abbrev pub with_members : ℕ → List Entry → ℕ
with_members set [] = set
with_members set (e ∷ es) = with_members (bit_or set e.members) es
