use Rattle.std.proofs.Common.{◌<◌, ◌∙◌, All, subst, sym}
use Rattle.target_members.proofs.members.members_of.Goals as goal
use Rattle.target_members.specs.Membership.{members-few}

pub bits_of-requires : goal.bits_of-requires
bits_of-requires c = record { few = subst (All (λ t. t < 64)) (sym (c.deref.ensures.value ∙ c.in_ok-all.ensures)) (members-few c.args.targets c.args.writes.now c.requires.few c.requires.fit) }
