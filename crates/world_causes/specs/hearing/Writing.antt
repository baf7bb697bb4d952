-- Every attempt of which a target has an entry writes something.
use Rattle.std.specs.Prelude.{ℕ, ◌≡◌, ◌≢◌, List, [], slice_get, Some, refl}
use Rattle.std.proofs.Common.{sym, ◌∙◌, ap, subst, inl, inr}
use Rattle.std.proofs.Math.ListN.{set}
use Rattle.base_messages.specs.declared.message.Message.{Message}
use Rattle.base_messages.specs.declared.message.Message.TheVariants as message
use Rattle.model_laws.specs.Members.{Has, contains-from_has, has-from_contains}
use Rattle.daos_model.specs.declared.durable.Durable.{Durable}
use Rattle.daos_model.specs.declared.durable.Version.{Version}
use Rattle.daos_model.specs.Changes.{reopened}
use Rattle.daos_model.specs.Opening.{Opening}
use Rattle.world_contents.specs.world_commit.attempts.Attempts.{writes_of}
use Rattle.world_contents.specs.world_commit.attempts.Counting.{has-taken}
use Rattle.world_contents.specs.world_commit.attempts.History.{History}
use Rattle.world_base.specs.declared.letter.Letter.{Letter}
use Rattle.world_base.specs.declared.target.Life.TheVariants.{Running}
use Rattle.world_base.specs.declared.target.TargetState.{TargetState}
use Rattle.world_base.specs.declared.world.World.{World}
use Rattle.world_base.specs.Events.{ByClient, ByTarget, Rules, ToClient, ToTarget, kept, target_plan}
use Rattle.world_base.specs.Letters.{target}
use Rattle.world_base.specs.Stops.{AtWork, CutOf, Draws, Fails, Further, GivenUp, Happening, Hearing, IdleWork, IsCut, IsInHand, Opens, Plainly}
use Rattle.world_contents.specs.world_letters.epochs.Sayings.{AreKnown, Known, known-all, known-each}
use Rattle.world_contents.specs.world_commit.fates.Facts.{Attempts, IsSaidSo}
use Rattle.world_contents.specs.reads.EventLaws.{at-or-there}
use Rattle.world_contents.specs.reads.Given.{Given, IsMessageRight}
use Rattle.world_contents.specs.world_commit.statuses.Events.{HappensWithoutSnapshots}
use Rattle.world_contents.specs.world_commit.stops.CutEvents.{IsWithoutSnapshots}
use Rattle.world_causes.specs.hearing.Going.{EntriesWrite}
use Rattle.world_causes.specs.hearing.PlainTurns.{others-write}
use Rattle.world_causes.specs.hearing.Storing.{BringsKnown, KeptSo, further-kept, hearing-cut-kept, hears-kept, idle-cut-kept, idle-kept}

-- what it rests on in an event: that what is heard is right, what became of attempts, and that it was so before
pub record EntriesKnown (r : Rules) (o : Opening) (held : ℕ → List Version) (h : History) (w : World) : Type 0 where
  pub given : Given r o held w
  pub attempts : Attempts r h w
  pub writes : EntriesWrite r w

-- it is so where no target has an entry
abbrev pub EntriesBegin : Type 0
EntriesBegin = (r : Rules) (w : World) → ((t : ℕ) (s : TargetState) → slice_get w.targets t ≡ Some s → s.durable.entries ≡ []) → EntriesWrite r w

-- an attempt that writes something, at whatever epoch
abbrev Writes : Rules → Known
Writes r x e = writes_of r x ≢ []

-- what is heard brings entries of such attempts
brings : (r : Rules) (o : Opening) (held : ℕ → List Version) (h : History) (w : World) → EntriesKnown r o held h w → (l : Letter) (t : ℕ) (s : TargetState) → Has l w.messages → l.to ≡ target t → slice_get w.targets t ≡ Some s → s.life ≡ Running
    → BringsKnown (Writes r) l.message
brings r o held h w b l t s among to_it here runs = by l.message refl
  where
    by : (m : Message) → l.message ≡ m → BringsKnown (Writes r) m
    by (message.Commit x ep first tracker ws) is = λ e none. some.0.some (some.0.its ∙ none)
      where
        some : IsMessageRight r o w t s (message.Commit x ep first tracker ws)
        some = subst (IsMessageRight r o w t s) is (b.given.asked l t s (contains-from_has w.messages l among) to_it here runs)
    by (message.Prepare e first ws inc) is = let z = subst (IsSaidSo r h w l.from l.to) is (b.attempts.on.letters l among) in others-write r e.attempt z.way.member z.way.other
    by m is = tt

module _ (r : Rules) (w v : World) (k : EntriesWrite r w) where
  known-at : (t : ℕ) (s : TargetState) → slice_get w.targets t ≡ Some s → AreKnown (Writes r) s.durable.entries
  known-at t s here = known-all (Writes r) s.durable.entries (λ e i. k t s e here (has-from_contains s.durable.entries e i))

  none-set : v.targets ≡ w.targets → EntriesWrite r v
  none-set same t s e at i = k t s e (ap (λ ts. slice_get ts t) (sym same) ∙ at) i

  one-set : (t : ℕ) (s z : TargetState) → slice_get w.targets t ≡ Some s → v.targets ≡ set w.targets t z → AreKnown (Writes r) z.durable.entries → EntriesWrite r v
  one-set t s z here same known u y e at i = elim (at-or-there w.targets t s z here u y (subst (λ ts. slice_get ts u ≡ Some y) same at)) [
    | inl is ↦ known-each (Writes r) z.durable.entries e known (contains-from_has z.durable.entries e (subst (λ x. Has e x.durable.entries) is.1 i))
    | inr old ↦ k u y e old.1 i
  ]

  -- a target keeps the entries that it had
  same-set : (t : ℕ) (s z : TargetState) → slice_get w.targets t ≡ Some s → v.targets ≡ set w.targets t z → z.durable.entries ≡ s.durable.entries → EntriesWrite r v
  same-set t s z here same entries = one-set t s z here same (subst (AreKnown (Writes r)) (sym entries) (known-at t s here))

reopened-entries : (d : Durable) → (reopened d).entries ≡ d.entries
unfolding reopened
reopened-entries d = refl

-- so it is after every event
pub entries-write : (r : Rules) (o : Opening) (held : ℕ → List Version) (h : History) (w v : World) → EntriesKnown r o held h w → (e : Happening r w v) → HappensWithoutSnapshots e → EntriesWrite r v
entries-write r o held h w v b (Plainly (ByClient g) up) ours = none-set r w v b.writes (ap (λ u. u.targets) g.after)
entries-write r o held h w v b (Plainly (ToClient g) up) ours = none-set r w v b.writes (ap (λ u. u.targets) g.after)
entries-write r o held h w v b (Plainly (ToTarget g) up) ours =
    one-set r w v b.writes g.t g.s _ g.here (ap (λ u. u.targets) g.after)
    (hears-kept (Writes r) (target_plan r g.t) g.s.opening g.s.memory g.reading g.l.from (kept g.s) (known-at r w v b.writes g.t g.s g.here) g.l.message g.new (g.memory, g.did)
    (brings r o held h w b g.l g.t g.s (has-taken w.messages g.l g.rest g.takes) g.to_it g.here g.runs) g.turn).entries
entries-write r o held h w v b (Plainly (ByTarget g) up) ours =
    one-set r w v b.writes g.t g.s _ g.here (ap (λ u. u.targets) g.after)
    (idle-kept (Writes r) (target_plan r g.t) g.s.opening g.s.memory 0 (target g.t) (kept g.s) (known-at r w v b.writes g.t g.s g.here) g.settling g.new (g.memory, g.did) g.turn).entries
entries-write r o held h w v b (Further more) ours =
    let g = more.hears in
    one-set r w v b.writes g.t g.s _ g.here (ap (λ u. u.targets) g.after)
    (further-kept (Writes r) (target_plan r g.t) g.s.opening g.s.memory g.reading g.l.from (kept g.s) (known-at r w v b.writes g.t g.s g.here) more.number g.l.message g.new (g.memory, g.did) ours
    (brings r o held h w b g.l g.t g.s (has-taken w.messages g.l g.rest g.takes) g.to_it g.here g.runs) g.turn).entries
entries-write r o held h w v b (IsCut g) ours = one-set r w v b.writes g.t g.s _ g.here (ap (λ u. u.targets) g.after) (left g.work g.in_hand ours g.turn).entries
  where
    left : (a : AtWork) → IsInHand w g.t a → IsWithoutSnapshots a → CutOf (target_plan r g.t) g.s a g.cut → KeptSo (Writes r) g.s.durable g.cut.left.durable
    left (Hearing l reading number) hand plain turn =
        hearing-cut-kept (Writes r) (target_plan r g.t) g.s.opening g.s.memory reading l.from (kept g.s) (known-at r w v b.writes g.t g.s g.here) number l.message g.cut plain
        (brings r o held h w b l g.t g.s (has-taken w.messages l hand.0.0 hand.0.1) hand.1 g.here g.runs) turn
    left IdleWork hand plain turn = idle-cut-kept (Writes r) (target_plan r g.t) g.s.opening g.s.memory 0 (target g.t) (kept g.s) (known-at r w v b.writes g.t g.s g.here) g.cut turn
entries-write r o held h w v b (Opens g) ours = same-set r w v b.writes g.t g.s _ g.here (ap (λ u. u.targets) g.after) (reopened-entries g.s.durable)
entries-write r o held h w v b (Fails g) ours = same-set r w v b.writes g.t g.s _ g.here (ap (λ u. u.targets) g.after) (elim g.left [ inl is ↦ ap (λ d. d.entries) is | inr is ↦ ap (λ d. d.entries) is ∙ reopened-entries g.s.durable ])
entries-write r o held h w v b (GivenUp g) ours = same-set r w v b.writes g.t g.s _ g.here (ap (λ u. u.targets) g.after) refl
entries-write r o held h w v b (Draws g) ours = none-set r w v b.writes (ap (λ u. u.targets) g.after)

pub entries-begin : EntriesBegin
entries-begin r w none t s e here i = absurd (subst (Has e) (none t s here) i)
