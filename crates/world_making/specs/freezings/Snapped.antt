-- Whatever happens, what a target newly freezes or creates is the snapshot of an attempt that makes it, at the epoch that was issued to it.
use Rattle.std.specs.Prelude.{ℕ, ◌≡◌, ◌≤◌, ◌⊎◌, ◌++◌, length, slice_get, Some, refl}
use Rattle.std.proofs.Common.{sym, ◌∙◌, ap, subst, inl, inr}
use Rattle.std.proofs.Math.ListN.{set}
use Rattle.base_types.specs.declared.epoch.Epoch.{Epoch}
use Rattle.base_types.specs.declared.id.AttemptId.{AttemptId}
use Rattle.model_laws.specs.Members.{Has, has-from_contains, has-left, has-right}
use Rattle.daos_model.specs.Changes.{reopened}
use Rattle.daos_model.specs.declared.durable.Durable.{Durable}
use Rattle.daos_model.specs.Opening.{Opening}
use Rattle.world_base.specs.declared.did.Did.{Did}
use Rattle.world_base.specs.declared.letter.Letter.{Letter}
use Rattle.world_base.specs.declared.target.Collection.{Collection}
use Rattle.world_base.specs.declared.target.TargetState.{TargetState}
use Rattle.world_base.specs.declared.world.World.{World}
use Rattle.world_base.specs.Events as events
use Rattle.world_base.specs.Events.{ByClient, ByTarget, Event, Rules, TargetHearsBy, ToClient, ToTarget, kept, target_plan}
use Rattle.world_base.specs.Further.{HearsFurther}
use Rattle.world_base.specs.Letters.{target}
use Rattle.world_base.specs.Roles.{is_prepared}
use Rattle.world_base.specs.Stops.{AtWork, CutOf, Draws, Fails, Further, GivenUp, Happening, Hearing, HearsMore, IdleWork, IsCut, IsInHand, Opens, Plainly, TargetCut, WorldEvent}
use Rattle.world_base.specs.TurnLaws.{hears-keeps, idles-keeps}
use Rattle.world_causes.specs.causes.Causes.{Dated}
use Rattle.world_causes.specs.causes.Growth.{at-set}
use Rattle.world_making.specs.freezings.Collecting.{AreHeldSo}
use Rattle.world_making.specs.freezings.Freezings.{Freezings, HaveOneEpoch, IsOfSnap, KeepsFrozen}
use Rattle.world_making.specs.freezings.Snapping.{NoSnaps, Snapping, snapping-more, snapping-same}
use Rattle.world_making.specs.freezings.Turning.{MayMake, OkMeansFrozen, further-snaps, hearing-snaps, idle-snaps}
use Rattle.world_letters.specs.snapshots.Makings.{CollectsSo, IsMadeBy, IsSnapOf, Makings, collects-more, so-more}
use Rattle.world_letters.specs.talks.TalkLaws.{taken-is-among}

-- ---- the statement

-- Which target one was before, and what became of its snapshots: they stay, and what else is frozen or created there is of attempts that make it.
pub record WasSnapped (r : Rules) (w v : World) (t : ℕ) (z : TargetState) : Type 0 where
  pub s : TargetState
  pub here : slice_get w.targets t ≡ Some s
  pub snaps : Snapping (IsOfSnap r v.issued) (IsOfSnap r v.issued) s.durable z.durable

abbrev pub AllEventsSnapSo : Type 0
AllEventsSnapSo =
    (r : Rules) (o : Opening) → r.script.targets ≤ 64 → (w v : World) → length w.targets ≡ r.script.targets → HaveOneEpoch w → Makings r w → Freezings r o w → WorldEvent r w v
    → (t : ℕ) (z : TargetState) → slice_get v.targets t ≡ Some z → WasSnapped r w v t z

-- ---- one event

listed-has : (is : Dated) (did : Did) (x : AttemptId) (e : Epoch) → did.issued ≡ Some (x, e) → Has (x, e) (is ++ events.listed did.issued)
listed-has is did x e one = has-right is (events.listed did.issued) (x, e) (subst (λ o. Has (x, e) (events.listed o)) (sym one) (inl refl))

snaps-reopened : (d : Durable) → (reopened d).snaps ≡ d.snaps
unfolding reopened
snaps-reopened d = refl

module _ (r : Rules) (o : Opening) (few : r.script.targets ≤ 64) (w : World) (many : length w.targets ≡ r.script.targets) (once : HaveOneEpoch w) (makings : Makings r w) (k : Freezings r o w) where
  -- what a turn may snap, by what was issued then
  abbrev SnapsBy : Dated → Durable → Durable → Type 0
  SnapsBy is d e = Snapping (IsOfSnap r is) (IsOfSnap r is) d e

  of-turn : (is : Dated) (t : ℕ) (s : TargetState) (l : Letter) (e : Durable) → Snapping (IsOfSnap r is) (MayMake r is w t s.memory l.message) s.durable e → SnapsBy is s.durable e
  of-turn is t s l e n =
      snapping-more (IsOfSnap r is) (MayMake r is w t s.memory l.message) (IsOfSnap r is) (IsOfSnap r is) s.durable e (λ c i f. f) (λ c i m. (m.1.x, m.1.issued, m.1.snaps)) n

  counted-at : (t : ℕ) (s : TargetState) → slice_get w.targets t ≡ Some s → AreHeldSo w s.durable s.memory.collecting
  counted-at t s here n name i named = k.counted t s n name here i named

  -- who answered a Freeze holds frozen what is collected for its attempt
  ok-means : (t : ℕ) (s : TargetState) (l : Letter) → slice_get w.targets t ≡ Some s → Has l w.messages → OkMeansFrozen w s.memory l.from l.message
  ok-means t s l here i x n name says j named its =
      let h = k.held l x n.cont i says (name, subst (λ y. IsSnapOf r y name n.cont) its (subst (IsMadeBy r n.attempt n.cont) named so.1)) in
      subst (KeepsFrozen w l.from.number n.cont) (once x h.0 n.epoch h.1 (subst (λ y. Has (y, n.epoch) w.issued) its so.0)) h.2
    where
      so : CollectsSo r w.issued n
      so = makings.collecting t s n here j

  still : (u : World) → u.targets ≡ w.targets → (t : ℕ) (z : TargetState) → slice_get u.targets t ≡ Some z → WasSnapped r w u t z
  still u same t z at = record { s = z; here = sym (ap (λ ts. slice_get ts t) same) ∙ at; snaps = snapping-same (IsOfSnap r u.issued) (IsOfSnap r u.issued) z.durable z.durable refl }

  one-changed : (u : World) (n : ℕ) (s y : TargetState) → slice_get w.targets n ≡ Some s → u.targets ≡ set w.targets n y → SnapsBy u.issued s.durable y.durable
      → (t : ℕ) (z : TargetState) → slice_get u.targets t ≡ Some z → WasSnapped r w u t z
  one-changed u n s y here changed snaps t z at =
      at-set w.targets n s y (WasSnapped r w u) here (record { s = s; here = here; snaps = snaps })
      (λ m x there. record { s = x; here = there; snaps = snapping-same (IsOfSnap r u.issued) (IsOfSnap r u.issued) x.durable x.durable refl }) t z (sym (ap (λ ts. slice_get ts t) changed) ∙ at)

  same-kept : (u : World) (d e : Durable) → e.snaps ≡ d.snaps → SnapsBy u.issued d e
  same-kept u d e same = snapping-same (IsOfSnap r u.issued) (IsOfSnap r u.issued) d e same

  plainly : (u : World) → Event r w u → (t : ℕ) (z : TargetState) → slice_get u.targets t ≡ Some z → WasSnapped r w u t z
  plainly u (ByClient g) = still u (ap (λ x. x.targets) g.after)
  plainly u (ToClient g) = still u (ap (λ x. x.targets) g.after)
  plainly u (ToTarget g) = one-changed u g.t g.s _ g.here (ap (λ x. x.targets) g.after)
      (same-kept u g.s.durable g.new.durable (hears-keeps (target_plan r g.t) g.s.opening g.s.memory g.reading g.l.from g.l.message (kept g.s) g.new (g.memory, g.did) g.turn).snaps)
  plainly u (ByTarget g) = one-changed u g.t g.s _ g.here (ap (λ x. x.targets) g.after)
      (same-kept u g.s.durable g.new.durable (idles-keeps g.settling (target_plan r g.t) g.s.memory (kept g.s) g.new (g.memory, g.did) g.turn).snaps)

  further : (u : World) → HearsMore r w u → (t : ℕ) (z : TargetState) → slice_get u.targets t ≡ Some z → WasSnapped r w u t z
  further u f = one-changed u g.t g.s _ g.here (ap (λ x. x.targets) g.after) (subst (λ js. SnapsBy js g.s.durable g.new.durable) (sym (ap (λ x. x.issued) g.after)) (of-turn is g.t g.s g.l g.new.durable snaps))
    where
      g : TargetHearsBy (HearsFurther f.number) r w u
      g = f.hears

      is : Dated
      is = w.issued ++ events.listed g.did.issued

      among : Has g.l w.messages
      among = has-from_contains w.messages g.l (taken-is-among w.messages g.l g.rest g.takes)

      collects : (c : Collection) → Has c g.s.memory.collecting → CollectsSo r is c
      collects c i = collects-more r w.issued is (λ x e j. has-left w.issued (events.listed g.did.issued) (x, e) j) c (makings.collecting g.t g.s c g.here i)

      snaps : Snapping (IsOfSnap r is) (MayMake r is w g.t g.s.memory g.l.message) g.s.durable g.new.durable
      snaps =
          further-snaps r w many few is g.t g.s.opening g.s.memory g.reading g.l.from (kept g.s) (counted-at g.t g.s g.here) collects f.number g.l.message g.new (g.memory, g.did)
          (so-more r w.issued is (λ x e i. has-left w.issued (events.listed g.did.issued) (x, e) i) g.l.message (makings.letters g.l among)) (λ x e one. listed-has w.issued g.did x e one) (ok-means g.t g.s g.l g.here among) g.turn

  was-cut : (u : World) → TargetCut r w u → (t : ℕ) (z : TargetState) → slice_get u.targets t ≡ Some z → WasSnapped r w u t z
  was-cut u g = one-changed u g.t g.s _ g.here (ap (λ x. x.targets) g.after) (subst (λ js. SnapsBy js g.s.durable g.cut.left.durable) (sym (ap (λ x. x.issued) g.after)) (by g.work g.in_hand g.turn))
    where
      is : Dated
      is = w.issued ++ g.cut.issued

      now : (x : AttemptId) (e : Epoch) → Has (x, e) g.cut.issued → Has (x, e) is
      now x e i = has-right w.issued g.cut.issued (x, e) i

      collects : (c : Collection) → Has c g.s.memory.collecting → CollectsSo r is c
      collects c i = collects-more r w.issued is (λ x e j. has-left w.issued g.cut.issued (x, e) j) c (makings.collecting g.t g.s c g.here i)

      by : (work : AtWork) → IsInHand w g.t work → CutOf (target_plan r g.t) g.s work g.cut → SnapsBy is g.s.durable g.cut.left.durable
      by (Hearing l reading number) hand turn =
          let among = has-from_contains w.messages l (taken-is-among w.messages l hand.0.0 hand.0.1) in
          of-turn is g.t g.s l g.cut.left.durable
          (hearing-snaps r w many few is g.t g.s.opening g.s.memory reading l.from (kept g.s) (counted-at g.t g.s g.here) collects number g.cut now is_prepared l.message
          (so-more r w.issued is (λ x e i. has-left w.issued g.cut.issued (x, e) i) l.message (makings.letters l among)) (ok-means g.t g.s l g.here among) turn)
      by IdleWork hand turn =
          snapping-more (IsOfSnap r is) NoSnaps (IsOfSnap r is) (IsOfSnap r is) g.s.durable g.cut.left.durable (λ c i f. f) (λ c i no. absurd no)
          (idle-snaps r w many few is g.t g.s.opening g.s.memory 0 (target g.t) (kept g.s) (counted-at g.t g.s g.here) collects 0 g.cut now turn)

  happened : (u : World) → Happening r w u → (t : ℕ) (z : TargetState) → slice_get u.targets t ≡ Some z → WasSnapped r w u t z
  happened u (Plainly e up) = plainly u e
  happened u (Further f) = further u f
  happened u (IsCut g) = was-cut u g
  happened u (Opens g) = one-changed u g.t g.s _ g.here (ap (λ x. x.targets) g.after) (same-kept u g.s.durable _ (snaps-reopened g.s.durable))
  happened u (Fails g) = one-changed u g.t g.s _ g.here (ap (λ x. x.targets) g.after) (same-kept u g.s.durable g.k.durable (left g.left))
    where
      left : (g.k.durable ≡ g.s.durable) ⊎ (g.k.durable ≡ reopened g.s.durable) → g.k.durable.snaps ≡ g.s.durable.snaps
      left (inl same) = ap (λ d. d.snaps) same
      left (inr raised) = ap (λ d. d.snaps) raised ∙ snaps-reopened g.s.durable
  happened u (GivenUp g) = one-changed u g.t g.s _ g.here (ap (λ x. x.targets) g.after) (same-kept u g.s.durable g.s.durable refl)
  happened u (Draws g) = still u (ap (λ x. x.targets) g.after)

  pub was-snapped : (v : World) → WorldEvent r w v → (t : ℕ) (z : TargetState) → slice_get v.targets t ≡ Some z → WasSnapped r w v t z
  was-snapped v e t z at =
      let k = happened e.u e.happens t z (sym (ap (λ x. slice_get x.targets t) e.after) ∙ at) in
      record { s = k.s; here = k.here; snaps = subst (λ js. SnapsBy js k.s.durable z.durable) (sym (ap (λ x. x.issued) e.after)) k.snaps }

pub all-events-snap_so : AllEventsSnapSo
all-events-snap_so r o few w v many once makings k e t z at = was-snapped r o few w many once makings k v e t z at
