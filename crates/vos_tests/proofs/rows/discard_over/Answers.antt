use Rattle.std.proofs.Common.{◌≡◌, true}
use Rattle.daos_model.specs.Durables.{is_enlisted}
use Rattle.vos_tests.specs.Rows.{cont, staged}
use Rattle.vos_tests.proofs.Allowed.{at-told, enlisted-staged}
use Rattle.vos_tests.proofs.rows.discard_over.Goals as goal

pub discard-requires : goal.discard-requires
discard-requires g c = λ runs.
    at-told (λ d. is_enlisted d cont ≡ true) (g.S.Store.durable c.stage.new.store) (staged 7 c.in_ok-write.write) c.in_ok-stage.ensures.kept (enlisted-staged 7 c.in_ok-write.write)
