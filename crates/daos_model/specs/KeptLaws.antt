-- Where regions keep no snapshot, no script drops one.
use Rattle.std.specs.Prelude.{◌≡◌, [], filter}
use Rattle.std.proofs.Common.{◌∙◌, ap, sym}
use Rattle.base_types.specs.declared.script.Script.{Script}
use Rattle.daos_model.specs.declared.stand.Stand.{Stand}
use Rattle.daos_model.specs.Opening.{is_kept, kept}

-- what regions without snapshots stand for is kept as it is
pub kept-without_snaps : (s : Script) (b : Stand) → b.snaps ≡ [] → kept s b ≡ b
kept-without_snaps s b none = λ i. record { now = b.now; snaps = (ap (filter (is_kept s)) none ∙ sym none) i }
