use Rattle.world_contents.specs.posts.FormLaws.{clients-send-letters, resets-are-letters, targets-send-letters}
use Rattle.world_contents.proofs.posts.laws_of_letters.Goals as goal

pub returns : goal.returns
returns c = record { clients = clients-send-letters; targets = targets-send-letters; resets = resets-are-letters }
