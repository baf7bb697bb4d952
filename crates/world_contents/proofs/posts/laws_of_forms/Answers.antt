use Rattle.world_contents.specs.posts.FormLaws.{asked-is-heard, between-is-heard}
use Rattle.world_contents.proofs.posts.laws_of_forms.Goals as goal

pub returns : goal.returns
returns c = record { asked = asked-is-heard; between = between-is-heard }
