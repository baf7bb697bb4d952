-- A world after a client's turn that was made.
use Rattle.std.specs.Prelude.{ℕ, ◌≡◌, ◌+◌, ◌++◌, ◌∷◌, map, take, drop}
use Rattle.base_messages.specs.declared.actor.ActorId.{ActorId}
use Rattle.world_base.specs.declared.client.ClientState.{ClientState}
use Rattle.world_base.specs.declared.did.Did.{Did}
use Rattle.world_base.specs.declared.world.World.{World}
use Rattle.world_base.specs.Events.{listed, with_epoch}
use Rattle.world_base.specs.Letters.{asked_after, letters_of}
use Rattle.world_list.specs.declared.follow.Follow.{Follow}

-- what follows from a turn of an actor
pub record FollowIs (f : Follow) (w : World) (a : ActorId) (did : Did) : Type 0 where
  pub letters : f.letters ≡ letters_of a did.posts
  pub asked : f.asked ≡ asked_after w.asked (letters_of a did.posts)
  pub issued : f.issued ≡ listed did.issued
  pub lines : f.lines ≡ map (with_epoch w.issued) did.lines

-- the epochs, the lines and what is without an answer are those before and what follows; no number is drawn
pub record IsTold (w : World) (f : Follow) (v : World) : Type 0 where
  pub issued : v.issued ≡ w.issued ++ f.issued
  pub asked : v.asked ≡ f.asked
  pub numbers : v.numbers ≡ w.numbers
  pub lines : v.lines ≡ w.lines ++ f.lines

-- a world after a client's turn, but for the letters in flight
pub record IsAfter (w : World) (n : ℕ) (d : ClientState) (f : Follow) (v : World) : Type 0 where
  pub targets : v.targets ≡ w.targets
  pub clients : v.clients ≡ take n w.clients ++ (d ∷ drop (n + 1) w.clients)
  pub told : IsTold w f v
