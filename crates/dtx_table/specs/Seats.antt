-- A leader by what it remembers, where it is, and the entries that its target keeps.
use Rattle.std.specs.Prelude.{filter, List}
use Rattle.base_types.specs.declared.entry.Entry.{Entry}
use Rattle.base_messages.specs.declared.message.Post.{Post}
use Rattle.dtx_base.specs.declared.leading.LeaderMemory.{LeaderMemory}
use Rattle.dtx_base.specs.Leading.{LeaderOf, LeaderStep, is_led}
use Rattle.dtx_table.specs.declared.seat.Seat.{Seat}

-- of the entries that a target keeps, its leader has those that it leads
abbrev pub leader_of : Seat → List Entry → LeaderMemory → LeaderOf
leader_of s es m = record { me = s.me; targets = s.targets; incarnation = s.incarnation; entries = filter (is_led s.me) es; memory = m }

-- what a step makes of what a leader remembers, and what it sends
abbrev pub came : LeaderStep → LeaderMemory × List Post
came s = (s.leader.memory, s.posts)
