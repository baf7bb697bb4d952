use Rattle.std.specs.Prelude.{◌==◌, ◌≡◌, ◌+◌, ◌<◌, ℕ, false, if◌then◌else◌, length, refl, slice_get, slice_set, Some}
use Rattle.std.proofs.Common.{ap, arith, subst}
use Rattle.std.proofs.lemmas.Bool.Decides.{nat_tests}
use Rattle.std.proofs.lemmas.Option.{slice_get_read}
use Rattle.run_watch.specs.Watches.{FailsAgain, WatchNow}
use Rattle.run_watch.proofs.watch.Watch.fail.Goals as goal

-- a count that isn't 8 isn't the last
not-last : (n : ℕ) → (n ≡ 8 → ⊥) → false ≡ (n == 8)
not-last n apart = grind (arith, nat_tests)

-- one more is counted
counted : (t n : ℕ) (old : WatchNow) → slice_get old.faults t ≡ Some n → (n ≡ 8 → ⊥) → FailsAgain t old (record old { faults = slice_set old.faults t (n + 1) }) false
counted t n old at apart = record {
  times = n;
  before = at;
  ninth = not-last n apart;
  after = ap (λ b. if b then old else record old { faults = slice_set old.faults t (n + 1) }) (not-last n apart);
}

pub returns : goal.returns
returns c =
    let faults = c.self.inside.faults.items in
    let n = c.index-faults.result.now in
    let now : WatchNow = record { lives = c.self.inside.lives.items; faults = faults; stops = c.self.inside.stops.items; restarts = c.self.inside.restarts; openings = c.self.inside.openings } in
    let more : WatchNow = record now { faults = slice_set faults c.args.t (n + 1) } in
    let lives = ap (λ z. length z.lives) c.self.view_is in
    let many = c.self.invariant.0 in
    let within : c.args.t < length faults = omega (arith, lives, many) in
    subst (λ z. FailsAgain c.args.t z more false) c.self.view_is (counted c.args.t n now (slice_get_read faults (length faults) c.args.t n refl within c.index-faults.ensures) c.if-faults-eq-MOST_FAULTS.false)
