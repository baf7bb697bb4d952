use Rattle.dtx_base.specs.StandingLaws.{answers-let_stand, batches-let_stand, beginning-lets_stand, resets-let_stand, settling-lets_stand, stands-committed}
use Rattle.dtx_base.proofs.laws.laws_of_decisions.Goals as goal

pub returns : goal.returns
returns c = record {
  told = stands-committed;
  answers = answers-let_stand;
  resets = resets-let_stand;
  batches = batches-let_stand;
  settling = settling-lets_stand;
  beginning = beginning-lets_stand;
}
