-- Whatever happens, but for what is heard of snapshots and aggregation, keeps what is said of floors.
use Rattle.std.specs.Prelude.{ℕ, ◌≡◌, ◌++◌, List, [], map, slice_get, Some, refl}
use Rattle.std.proofs.Common.{sym, ◌∙◌, ap, subst, arith, append-nil, inl, inr}
use Rattle.std.proofs.Math.ListN.{set}
use Rattle.base_types.specs.declared.entry.Entry.{Entry}
use Rattle.base_types.specs.declared.report.Line.{Line}
use Rattle.base_messages.specs.declared.message.Message.{Message}
use Rattle.base_messages.specs.declared.message.Message.TheVariants as message
use Rattle.world_base.specs.declared.target.TargetState.{TargetState}
use Rattle.world_base.specs.declared.world.World.{World}
use Rattle.world_base.specs.Events.{ByClient, ByTarget, Rules, ToClient, ToTarget, kept, target_plan, with_epoch}
use Rattle.world_base.specs.Letters.{target}
use Rattle.world_base.specs.Stops.{AtWork, CutOf, Draws, Fails, Further, GivenUp, Happening, Hearing, IdleWork, IsCut, Opens, Plainly}
use Rattle.world_contents.specs.world_letters.epochs.Sayings.{AreKnown, Known, known-all}
use Rattle.world_contents.specs.reads.EventLaws.{at-or-there}
use Rattle.world_causes.specs.causes.FloorLaws.{KeepsFloors, RowsStay, openings-keep-floors, staying-keeps-floors, stops-keep-floors}
use Rattle.world_contents.specs.world_commit.statuses.Events.{HappensWithoutSnapshots}
use Rattle.world_contents.specs.world_commit.stops.CutEvents.{IsWithoutSnapshots}
use Rattle.world_causes.specs.hearing.Storing.{BringsKnown, KeptSo, further-kept, hearing-cut-kept, hears-kept, idle-cut-kept, idle-kept}

abbrev pub HappeningsKeepFloors : Type 0
HappeningsKeepFloors = (r : Rules) (w v : World) → (e : Happening r w v) → HappensWithoutSnapshots e → KeepsFloors w v

-- any attempt at any epoch
abbrev Any : Known
Any x e = Unit {0}

all-any : (es : List Entry) → AreKnown Any es
all-any es = known-all Any es (λ e i. tt)

brings-any : (m : Message) → BringsKnown Any m
brings-any (message.Commit x ep first tracker ws) = λ e. tt
brings-any (message.Prepare e first ws inc) = tt
brings-any m = tt

module _ (w v : World) where
  rows-same : (s : TargetState) → RowsStay s s
  rows-same s = record { life = refl; opening = refl; conts = refl; lease = omega arith }

  -- where no target changes
  none-changed : (more : List Line) → v.lines ≡ w.lines ++ more → v.targets ≡ w.targets → KeepsFloors w v
  none-changed more lines same = staying-keeps-floors w v more lines (λ t z at. (z, ap (λ ts. slice_get ts t) (sym same) ∙ at, rows-same z))

  -- where one has changed so
  one-changed : (more : List Line) → v.lines ≡ w.lines ++ more → (t : ℕ) (s z : TargetState) → slice_get w.targets t ≡ Some s → v.targets ≡ set w.targets t z → z.life ≡ s.life → z.opening ≡ s.opening → KeptSo Any s.durable z.durable → KeepsFloors w v
  one-changed more lines t s z here same life opening so = staying-keeps-floors w v more lines stays
    where
      stays : (u : ℕ) (y : TargetState) → slice_get v.targets u ≡ Some y → (x : TargetState) × (slice_get w.targets u ≡ Some x) × RowsStay x y
      stays u y at = elim (at-or-there w.targets t s z here u y (subst (λ ts. slice_get ts u ≡ Some y) same at)) [
        | inl is ↦ (s, subst (λ n. slice_get w.targets n ≡ Some s) (sym is.0) here, subst (RowsStay s) (sym is.1) (record { life = life; opening = opening; conts = so.conts; lease = so.lease }))
        | inr old ↦ (y, old.1, rows-same y)
      ]

pub happenings-keep-floors : HappeningsKeepFloors
happenings-keep-floors r w v (Plainly (ByClient g) up) ours = none-changed w v (map (with_epoch w.issued) g.did.lines) (ap (λ u. u.lines) g.after) (ap (λ u. u.targets) g.after)
happenings-keep-floors r w v (Plainly (ToClient g) up) ours = none-changed w v (map (with_epoch w.issued) g.did.lines) (ap (λ u. u.lines) g.after) (ap (λ u. u.targets) g.after)
happenings-keep-floors r w v (Plainly (ToTarget g) up) ours =
    one-changed w v (map (with_epoch w.issued) g.did.lines) (ap (λ u. u.lines) g.after) g.t g.s _ g.here (ap (λ u. u.targets) g.after) refl refl
    (hears-kept Any (target_plan r g.t) g.s.opening g.s.memory g.reading g.l.from (kept g.s) (all-any g.s.durable.entries) g.l.message g.new (g.memory, g.did) (brings-any g.l.message) g.turn)
happenings-keep-floors r w v (Plainly (ByTarget g) up) ours =
    one-changed w v (map (with_epoch w.issued) g.did.lines) (ap (λ u. u.lines) g.after) g.t g.s _ g.here (ap (λ u. u.targets) g.after) refl refl
    (idle-kept Any (target_plan r g.t) g.s.opening g.s.memory 0 (target g.t) (kept g.s) (all-any g.s.durable.entries) g.settling g.new (g.memory, g.did) g.turn)
happenings-keep-floors r w v (Further more) ours =
    let g = more.hears in
    one-changed w v (map (with_epoch w.issued) g.did.lines) (ap (λ u. u.lines) g.after) g.t g.s _ g.here (ap (λ u. u.targets) g.after) refl refl
    (further-kept Any (target_plan r g.t) g.s.opening g.s.memory g.reading g.l.from (kept g.s) (all-any g.s.durable.entries) more.number g.l.message g.new (g.memory, g.did) ours (brings-any g.l.message) g.turn)
happenings-keep-floors r w v (IsCut g) ours = let so = left g.work ours g.turn in stops-keep-floors w v g.t g.s g.cut g.here g.runs g.after so.conts so.lease
  where
    left : (a : AtWork) → IsWithoutSnapshots a → CutOf (target_plan r g.t) g.s a g.cut → KeptSo Any g.s.durable g.cut.left.durable
    left (Hearing l reading number) plain turn =
        hearing-cut-kept Any (target_plan r g.t) g.s.opening g.s.memory reading l.from (kept g.s) (all-any g.s.durable.entries) number l.message g.cut plain (brings-any l.message) turn
    left IdleWork plain turn = idle-cut-kept Any (target_plan r g.t) g.s.opening g.s.memory 0 (target g.t) (kept g.s) (all-any g.s.durable.entries) g.cut turn
happenings-keep-floors r w v (Opens g) ours = openings-keep-floors r w v (inl g)
happenings-keep-floors r w v (Fails g) ours = openings-keep-floors r w v (inr (inl g))
happenings-keep-floors r w v (GivenUp g) ours = openings-keep-floors r w v (inr (inr g))
happenings-keep-floors r w v (Draws g) ours = none-changed w v [] (ap (λ u. u.lines) g.after ∙ sym (append-nil w.lines)) (ap (λ u. u.targets) g.after)
