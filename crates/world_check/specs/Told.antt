-- What followed from a target's turn, as the world after it tells.
use Rattle.std.specs.Prelude.{ℕ, [], drop, length, map, slice_get}
use Rattle.base_messages.specs.declared.message.Post.{Post}
use Rattle.world_base.specs.declared.did.Did.{Did}
use Rattle.world_base.specs.declared.letter.Letter.{Letter}
use Rattle.world_base.specs.declared.world.World.{World}

abbrev pub post_of : Letter → Post
post_of l = record { to = l.to; message = l.message }

-- the letters behind so many, no line, and the first epoch behind those that were issued before
abbrev pub did_told : ℕ → World → World → Did
did_told kept w v = record { posts = map post_of (drop kept v.messages); lines = []; issued = slice_get v.issued (length w.issued) }
