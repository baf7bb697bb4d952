use Rattle.world_answers.specs.Requests.{all-events-keep_asks_in_form, asks-are_reads, asks-begin_in_form, given-reads_are_in_form}
use Rattle.world_answers.proofs.laws_of_asked_reads.Goals as goal

pub returns : goal.returns
returns c = record { begin = asks-begin_in_form; kept = all-events-keep_asks_in_form; asked = asks-are_reads; right = given-reads_are_in_form }
