use Rattle.world_closing.proofs.safety.laws_of_safety.Goals as goal
use Rattle.world_closing.specs.safety.Events.{all-events-keep_safety, all-runs-are_safe, safety-begins, safety-goes_on}
use Rattle.world_closing.specs.safety.Keyed.{all-events-keep_keys, all-runs-are_keyed, keys-begin}
use Rattle.world_closing.specs.safety.Raising.{event-raises}
use Rattle.world_closing.specs.safety.Told.{all-runs-end_safely, safe-leases_cover, safe-letters_can_be_heard, safe-lines_are_in_order, safe-outcomes_show, safe-reports_have_form}

pub returns : goal.returns
returns c = record {
  begin = safety-begins;
  events = all-events-keep_safety;
  later = safety-goes_on;
  runs = all-runs-are_safe;
  keys_begin = keys-begin;
  keys = all-events-keep_keys;
  keyed_runs = all-runs-are_keyed;
  heard = safe-letters_can_be_heard;
  leases = safe-leases_cover;
  causes = safe-outcomes_show;
  raised = event-raises;
  lines = safe-lines_are_in_order;
  ended = all-runs-end_safely;
  form = safe-reports_have_form;
}
