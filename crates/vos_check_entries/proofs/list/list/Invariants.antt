use Rattle.std.proofs.Common.{◌≡◌, ◌/◌, ℕ, List, false}
use Rattle.std.specs.Prelude.{IsTrue}
use Rattle.vos_check_base.specs.Answers.{MarksIn, content}
use Rattle.vos_check_base.specs.Health.{IsRead}
use Rattle.vos_check_base.specs.Sets.{open_of}
use Rattle.vos_check_entries.specs.Nodes.{is_node}
use Rattle.vos_check_entries.proofs.Walking.{Walked}
use Rattle.vos_check_entries.proofs.list.list.Given as goal

abbrev pub invariant-loop-part : goal.invariant-loop-part
invariant-loop-part g l = record {
  walked : IsTrue g.S.Source.tells → (led : List ℕ) → MarksIn (content l.ground (g.S.Source.bytes l.initial.source)) (open_of l.initial.fresh) led
      → Walked (content l.ground (g.S.Source.bytes l.initial.source)) (is_node l.nodes l.of) (l.ground.size / 256) l.first led (open_of l.fresh) l.seen l.block l._part;
  kept : IsTrue g.S.Source.tells → g.S.Source.bytes l.source ≡ g.S.Source.bytes l.initial.source;
  stops : IsRead g.S.Source.health g.S.Source.looked l.initial.source l.source false;
}
