use Rattle.std.proofs.Common.{◌≡◌, ◌≤◌, ◌+◌, ◌++◌, length}
use Rattle.std.specs.Prelude.{vec_capacity, vec_len}
use Rattle.std.specs.Vec.Iter.{into_iter_items}
use Rattle.world_base.specs.Letters.{asked_after}
use Rattle.run_base.proofs.sending.send_all.Given as goal

-- the letters that are left lead to what all lead to, and there is room for them
abbrev pub invariant-loop-ready : goal.invariant-loop-ready
invariant-loop-ready l = record {
  messages : l.messages.items ++ into_iter_items l.ready-iterator ≡ l.initial.messages.items ++ l.fn.all.items;
  asked : asked_after l.asked.items (into_iter_items l.ready-iterator) ≡ asked_after l.initial.asked.items l.fn.all.items;
  room : vec_len l.messages + length (into_iter_items l.ready-iterator) ≤ vec_capacity l.messages;
  room_asked : vec_len l.asked + length (into_iter_items l.ready-iterator) ≤ vec_capacity l.asked;
}
