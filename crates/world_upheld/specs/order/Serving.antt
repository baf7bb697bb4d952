-- A read that is served at no snapshot lies behind what was written there and answered before, also where containers were aggregated.
use Rattle.std.specs.Prelude.{ℕ, ◌≡◌, ◌<◌, Bool, true, false, List, Option, Some, None, refl}
use Rattle.std.proofs.Common.{sym, ◌∙◌, ap, subst, inr}
use Rattle.base_types.specs.declared.answer.Answer.{Answer}
use Rattle.base_types.specs.declared.epoch.Epoch.{Epoch}
use Rattle.base_types.specs.declared.id.AttemptId.{AttemptId}
use Rattle.base_types.specs.declared.id.ContId.{ContId}
use Rattle.base_types.specs.declared.outcome.Cause.{Cause}
use Rattle.base_types.specs.declared.report.Attempt.{Attempt}
use Rattle.base_types.specs.declared.shown.Shown.{Shown}
use Rattle.base_types.specs.Operations.{read_path}
use Rattle.daos_model.specs.declared.durable.Durable.{Durable}
use Rattle.daos_model.specs.declared.durable.Version.{Version}
use Rattle.daos_model.specs.BoolLaws.{clash}
use Rattle.daos_model.specs.Durables.{is_frozen}
use Rattle.daos_model.specs.Opening.{Opening, top}
use Rattle.world_base.specs.vos_stamp.Stamps.{or_later}
use Rattle.world_legal.specs.world_commit.attempts.History.{Decided, History}
use Rattle.world_base.specs.declared.request.FetchRequest.{FetchRequest}
use Rattle.world_base.specs.declared.world.World.{World}
use Rattle.world_base.specs.Events.{Rules, target_plan}
use Rattle.world_base.specs.Reads.{fetch_cause, later_of, later_unless}
use Rattle.world_letters.specs.epochs.Epochs.{Epochs, IsIssued, is_making, makes}
use Rattle.world_legal.specs.world_standing.external.Behind.{FirstIsKnown, Issued}
use Rattle.world_legal.specs.world_standing.external.Kept.{IsServedBehind}
use Rattle.world_upheld.specs.order.Guards.{accesses-lie-behind, reads-are-above}
use Rattle.world_upheld.specs.order.Storing.{KnowsTold}
use Rattle.world_legal.specs.world_contents.reads.Adds.{served_at}
use Rattle.world_legal.specs.world_contents.reads.Versions.{VersionsStand}
use Rattle.world_letters.specs.snapshots.Makings.{IsSnapIn}

-- ---- a read

-- one that nothing refuses, where no snapshot is frozen at its epoch
abbrev pub ServedLieBehind : Type 0
ServedLieBehind =
    (r : Rules) (o : Opening) (held : List Version) (h : History) (t : ℕ) (d : Durable) → VersionsStand r o held h t d → (attempts : List Attempt) (issued : Issued)
    → KnowsTold r h attempts
    → ((x : AttemptId) (e : Epoch) → Decided h x e → top o < e.0) → (q : FetchRequest) (f : Epoch) (b : Answer) → q.snapshot ≡ false → fetch_cause (target_plan r t) q f d ≡ None
    → is_frozen d (read_path q.read).cont f ≡ false → FirstIsKnown issued q.attempt q.first
    → IsServedBehind r attempts issued (served_at t q f b)

none-later : (c : Option Cause) (later : Option Shown) → or_later c later ≡ None → later ≡ None
none-later (Some c) later none = let no : ⊥ = cc in absurd no
none-later None None none = refl
none-later None (Some z) none = let no : ⊥ = cc in absurd no

pub served-lie-behind : ServedLieBehind
served-lie-behind r o held h t d stand attempts issued a above q f b plain free unfrozen known x e m was at over =
    let decided = a.decided x e m was.there was.committed was.epoch at.of_it in
    accesses-lie-behind r o held h t d stand issued q.attempt q.first f (read_path q.read) known
    (subst (λ c. later_unless c (later_of (target_plan r t) q.first f (read_path q.read) d) ≡ None) plain
    (none-later _ (later_unless q.snapshot (later_of (target_plan r t) q.first f (read_path q.read) d)) free))
    (inr (reads-are-above (target_plan r t) q f d free unfrozen)) x.id e m decided (above x.id e decided) at over

-- ---- where no snapshot is frozen

-- what is frozen above the opening was made by an attempt to which its epoch was issued
abbrev pub FrozenAreMade : Rules → ℕ → World → Durable → Type 0
FrozenAreMade r top w d = (c : ContId) (s : Epoch) → is_frozen d c s ≡ true → top < s.0 → (x : AttemptId) × IsIssued w x s × IsSnapIn r x c

-- then none is frozen at an epoch that was issued to an attempt that makes none
abbrev pub OthersAreUnfrozen : Type 0
OthersAreUnfrozen = (r : Rules) (top : ℕ) (w : World) (d : Durable) → Epochs r top w → FrozenAreMade r top w d → (y : AttemptId) (f : Epoch) (c : ContId) → IsIssued w y f
    → is_making r y ≡ false → is_frozen d c f ≡ false

pub others-are-unfrozen : OthersAreUnfrozen
others-are-unfrozen r top w d E made y f c issued off = by (is_frozen d c f) refl
  where
    by : (b : Bool) → is_frozen d c f ≡ b → b ≡ false
    by false at = refl
    by true at =
        let z = made c f at (E.above y f issued) in
        let same : z.0 ≡ y = E.apart z.0 y f z.1 issued in
        let on : is_making r z.0 ≡ true = ap makes z.2.1 in
        absurd (clash (is_making r y) (ap (is_making r) (sym same) ∙ on) off)
