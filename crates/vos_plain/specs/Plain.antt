-- What a store over lists says of itself.
use Rattle.std.specs.Prelude.{ℕ, false, true}
use Rattle.base_types.specs.declared.outcome.FloorWhy.TheVariants.{Opening}
use Rattle.daos_model.specs.declared.durable.Durable.{Durable}
use Rattle.vos_store.specs.Calls.{State}
use Rattle.vos_plain.specs.declared.store.PlainStore.{PlainStore}
use Rattle.vos_plain.specs.Counted.{free_of, kept_by}
use Rattle.vos_plain.specs.Stops.{signs_of}

-- what it keeps
abbrev pub plain_durable : PlainStore → Durable
plain_durable s = kept_by s.contents

abbrev pub plain_state : PlainStore → State
plain_state s = record {
  stopped = (signs_of s.stops).stopped;
  faults = (signs_of s.stops).faults;
  burns = (signs_of s.stops).burns;
  may_fail = (signs_of s.stops).may_fail;
  fused = (signs_of s.stops).fused;
  tells_fuse = true;
  left = (signs_of s.stops).left;
  free = free_of s.contents;
  targets = 64;
  opening = (s.floor, s.why);
}

-- a new one of an empty plan runs, no fuse is set, and nothing can stop it
abbrev pub new_state : ℕ → State
new_state free = record {
  stopped = false;
  faults = 0;
  burns = 0;
  may_fail = false;
  fused = false;
  tells_fuse = true;
  left = 0;
  free = free;
  targets = 64;
  opening = (record { 0 = 0 }, Opening);
}
