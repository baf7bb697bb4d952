-- What every event makes of what each target keeps: what it kept is left, or what it was brought was stored.
use Rattle.std.specs.Prelude.{ℕ, ◌≡◌, ◌++◌, is_none, filter, List, [], slice_get, Some, None, refl}
use Rattle.std.proofs.Common.{inl, inr, sym, ◌∙◌, ap, subst}
use Rattle.std.proofs.Math.ListN.{set}
use Rattle.base_types.specs.declared.entry.Entry.{Entry}
use Rattle.base_types.specs.declared.operation.MinorWrite.{MinorWrite}
use Rattle.base_messages.specs.declared.message.Message.{Message}
use Rattle.base_messages.specs.declared.message.Message.TheVariants as message
use Rattle.model_laws.specs.EntryLaws.{put-has}
use Rattle.model_laws.specs.Members.{Has, has-filter, has-map, has-right}
use Rattle.daos_model.specs.declared.durable.Durable.{Durable}
use Rattle.daos_model.specs.Changes.{prepared, reopened}
use Rattle.daos_model.specs.Durables.{entry_key, entry_of}
use Rattle.world_base.specs.declared.letter.Letter.{Letter}
use Rattle.world_base.specs.declared.target.Life.TheVariants.{Running}
use Rattle.world_base.specs.declared.target.TargetMemory.{TargetMemory}
use Rattle.world_base.specs.declared.target.TargetPlan.{TargetPlan}
use Rattle.world_base.specs.declared.target.TargetState.{TargetState}
use Rattle.world_base.specs.declared.world.World.{World}
use Rattle.world_base.specs.ChangeLaws.{lease-same}
use Rattle.world_base.specs.Events.{ByClient, ByTarget, Rules, ToClient, ToTarget, kept, listed, target_after, target_plan}
use Rattle.world_base.specs.Letters.{target}
use Rattle.world_base.specs.Stops.{AtWork, CutOf, Draws, Fails, Further, GivenUp, Happening, Hearing, IdleWork, IsCut, IsInHand, Opens, Plainly, WorldEvent}
use Rattle.world_making.specs.world_causes.causes.Causes.{Dated, Stored, is_new_to, stored_as, stored_by}
use Rattle.world_making.specs.world_causes.showing.Cutting.{work_stored}
use Rattle.world_making.specs.world_causes.showing.Happening.{stored_in}
use Rattle.world_making.specs.world_commit.attempts.Counting.{has-taken}
use Rattle.world_making.specs.world_contents.reads.EventLaws.{at-or-there}
use Rattle.world_owners.specs.Changing.{IsLeftOf, left-itself, left-same}
use Rattle.world_owners.specs.Becoming.{Becomes, Brings, IsLeft, IsStoredOn, becomes-so}
use Rattle.world_owners.specs.Hearing.{cut-becomes, further-left, hears-becomes, idle-cut-left, idle-left}

-- ---- what is said

-- A target is brought an entry with these writes: it runs, and hears a letter in flight to it that brings them, where these epochs count as
-- issued, and these attempts as stored; the entry's among them, if the target had none of it.
pub record IsBrought (r : Rules) (w : World) (issued : Dated) (stored : Stored) (t : ℕ) (k : Entry) (ws : List MinorWrite) : Type 0 where
  pub s : TargetState
  pub here : slice_get w.targets t ≡ Some s
  pub runs : s.life ≡ Running
  pub l : Letter
  pub among : Has l w.messages
  pub to_it : l.to ≡ target t
  pub brings : Brings (target_plan r t) s.memory issued l.message k ws
  pub counts : entry_of s.durable k.attempt ≡ None → Has (t, k.attempt) stored

-- what an event brings a target
abbrev pub EventBrings : (r : Rules) → {w v : World} → WorldEvent r w v → ℕ → Entry → List MinorWrite → Type 0
EventBrings r {w = w} {v = v} e t k ws = IsBrought r w v.issued (stored_in r e.happens) t k ws

-- what a target was before an event, and what the event made of what it kept
pub record Became (r : Rules) {w v : World} (e : WorldEvent r w v) (t : ℕ) (z : TargetState) : Type 0 where
  pub s : TargetState
  pub here : slice_get w.targets t ≡ Some s
  pub becomes : Becomes (EventBrings r e t) s.durable z.durable

-- so it is of each target, whatever happens
abbrev pub AllEventsLeaveOrStore : Type 0
AllEventsLeaveOrStore = (r : Rules) (w v : World) (e : WorldEvent r w v) (t : ℕ) (z : TargetState) → slice_get v.targets t ≡ Some z → Became r e t z

-- ---- which epochs are issued, and which attempts count as stored

-- more epochs may have been issued
brings-more : (p : TargetPlan) (m : TargetMemory) (before issued : Dated) (q : Message) (k : Entry) (ws : List MinorWrite) → Brings p m issued q k ws → Brings p m (before ++ issued) q k ws
brings-more p m before issued (message.Commit x ep first tracker own) k ws b = record {
  reading = b.reading;
  epoch = b.epoch;
  has = b.has;
  dated = elim b.dated [ inl own' ↦ inl own' | inr i ↦ inr (has-right before issued (x, b.epoch) i) ];
  entry = b.entry;
  writes = b.writes;
}
brings-more p m before issued (message.Prepare e first own inc) k ws b = b
brings-more p m before issued q k ws none = absurd none

-- an entry that is stored of an attempt that had none counts as stored
stored-counts : (t : ℕ) (old new : Durable) (k : Entry) (ws : List MinorWrite) → IsStoredOn old k ws new → entry_of old k.attempt ≡ None → Has (t, k.attempt) (stored_by t old new)
unfolding prepared
stored-counts t old new k ws on none =
    has-map (stored_as t) (filter (is_new_to old) new.entries) k
    (has-filter (is_new_to old) new.entries k (subst (λ d. Has k d.entries) (sym on.now) (put-has entry_key k on.on.entries k (inl refl))) (ap is_none none))

-- ---- events

reopened-left : (d : Durable) → IsLeftOf d (reopened d)
unfolding reopened
reopened-left d = left-same d (reopened d) refl refl (lease-same d (reopened d) refl)

module _ (r : Rules) (w u : World) where
  -- a target, and what was made of what it kept, where these epochs count as issued and these attempts as stored
  abbrev Comes : Dated → Stored → ℕ → TargetState → Type 0
  Comes issued stored t z = (s : TargetState) × (slice_get w.targets t ≡ Some s) × Becomes (IsBrought r w issued stored t) s.durable z.durable

  stays : (issued : Dated) (stored : Stored) (t : ℕ) (z : TargetState) → slice_get w.targets t ≡ Some z → Comes issued stored t z
  stays issued stored t z here = (z, here, IsLeft (left-itself z.durable z.durable refl))

  none-changes : (issued : Dated) (stored : Stored) → u.targets ≡ w.targets → (t : ℕ) (z : TargetState) → slice_get u.targets t ≡ Some z → Comes issued stored t z
  none-changes issued stored same t z at = stays issued stored t z (ap (λ ts. slice_get ts t) (sym same) ∙ at)

  one-changes : (issued : Dated) (stored : Stored) (n : ℕ) (s new : TargetState) → slice_get w.targets n ≡ Some s → u.targets ≡ set w.targets n new → Becomes (IsBrought r w issued stored n) s.durable new.durable
      → (t : ℕ) (z : TargetState) → slice_get u.targets t ≡ Some z → Comes issued stored t z
  one-changes issued stored n s new here same b t z at = elim (at-or-there w.targets n s new here t z (subst (λ ts. slice_get ts t ≡ Some z) same at)) [
    | inl is ↦ subst (λ i. Comes issued stored i z) (sym is.0) (subst (Comes issued stored n) (sym is.1) (s, here, b))
    | inr old ↦ stays issued stored t z old.1
  ]

  by-happening : (e : Happening r w u) (t : ℕ) (z : TargetState) → slice_get u.targets t ≡ Some z → Comes u.issued (stored_in r e) t z
  by-happening (Plainly (ByClient g) up) = none-changes u.issued [] (ap (λ x. x.targets) g.after)
  by-happening (Plainly (ToClient g) up) = none-changes u.issued [] (ap (λ x. x.targets) g.after)
  by-happening (Plainly (ToTarget g) up) =
      one-changes u.issued (stored_by g.t g.s.durable g.new.durable) g.t g.s (target_after g.s g.new g.memory) g.here (ap (λ x. x.targets) g.after)
      (becomes-so _ _ g.s.durable g.new.durable brought (hears-becomes (target_plan r g.t) g.s.opening g.s.memory g.reading g.l.from (kept g.s) g.l.message g.new (g.memory, g.did) g.turn))
    where
      brought : (k : Entry) (ws : List MinorWrite) → Brings (target_plan r g.t) g.s.memory (listed g.did.issued) g.l.message k ws → IsStoredOn g.s.durable k ws g.new.durable
          → IsBrought r w u.issued (stored_by g.t g.s.durable g.new.durable) g.t k ws
      brought k ws b on = record {
        s = g.s;
        here = g.here;
        runs = g.runs;
        l = g.l;
        among = has-taken w.messages g.l g.rest g.takes;
        to_it = g.to_it;
        brings = subst (λ is'. Brings (target_plan r g.t) g.s.memory is' g.l.message k ws) (sym (ap (λ x. x.issued) g.after)) (brings-more (target_plan r g.t) g.s.memory w.issued (listed g.did.issued) g.l.message k ws b);
        counts = stored-counts g.t g.s.durable g.new.durable k ws on;
      }
  by-happening (Plainly (ByTarget g) up) =
      one-changes u.issued (stored_by g.t g.s.durable g.new.durable) g.t g.s (target_after g.s g.new g.memory) g.here (ap (λ x. x.targets) g.after)
      (IsLeft (idle-left (target_plan r g.t) g.s.opening g.s.memory 0 (target g.t) (kept g.s) g.settling g.new (g.memory, g.did) g.turn))
  by-happening (Further f) =
      let g = f.hears in
      one-changes u.issued (stored_by g.t g.s.durable g.new.durable) g.t g.s (target_after g.s g.new g.memory) g.here (ap (λ x. x.targets) g.after)
      (IsLeft (further-left (target_plan r g.t) g.s.opening g.s.memory g.reading g.l.from (kept g.s) f.number g.l.message g.new (g.memory, g.did) g.turn))
  by-happening (IsCut g) = one-changes u.issued (work_stored (target_plan r g.t) g.s g.work g.cut g.turn) g.t g.s _ g.here (ap (λ x. x.targets) g.after) (left g.work g.in_hand g.turn)
    where
      issued : u.issued ≡ w.issued ++ g.cut.issued
      issued = ap (λ x. x.issued) g.after

      left : (a : AtWork) → IsInHand w g.t a → (turn : CutOf (target_plan r g.t) g.s a g.cut) → Becomes (IsBrought r w u.issued (work_stored (target_plan r g.t) g.s a g.cut turn) g.t) g.s.durable g.cut.left.durable
      left (Hearing l reading number) hand turn =
          becomes-so _ _ g.s.durable g.cut.left.durable
          (λ k ws b on. record {
            s = g.s;
            here = g.here;
            runs = g.runs;
            l = l;
            among = has-taken w.messages l hand.0.0 hand.0.1;
            to_it = hand.1;
            brings = subst (λ is'. Brings (target_plan r g.t) g.s.memory is' l.message k ws) (sym issued) (brings-more (target_plan r g.t) g.s.memory w.issued g.cut.issued l.message k ws b.0);
            counts = λ none. b.1;
          }) (cut-becomes (target_plan r g.t) g.s.opening g.s.memory reading l.from (kept g.s) number l.message g.cut turn)
      left IdleWork hand turn = IsLeft (idle-cut-left (target_plan r g.t) g.s.opening g.s.memory 0 (target g.t) (kept g.s) g.cut turn)
  by-happening (Opens g) = one-changes u.issued [] g.t g.s _ g.here (ap (λ x. x.targets) g.after) (IsLeft (reopened-left g.s.durable))
  by-happening (Fails g) =
      one-changes u.issued [] g.t g.s _ g.here (ap (λ x. x.targets) g.after)
      (IsLeft (elim g.left [ inl is ↦ left-itself g.s.durable g.k.durable is | inr is ↦ subst (IsLeftOf g.s.durable) (sym is) (reopened-left g.s.durable) ]))
  by-happening (GivenUp g) = one-changes u.issued [] g.t g.s _ g.here (ap (λ x. x.targets) g.after) (IsLeft (left-itself g.s.durable g.s.durable refl))
  by-happening (Draws g) = none-changes u.issued [] (ap (λ x. x.targets) g.after)

pub all-events-leave_or_store : AllEventsLeaveOrStore
all-events-leave_or_store r w v e t z at =
    let k = by-happening r w e.u e.happens t z (ap (λ x. slice_get x.targets t) (sym e.after) ∙ at) in
    record {
      s = k.0;
      here = k.1;
      becomes = becomes-so _ _ k.0.durable z.durable (λ j ws b on. subst (λ is'. IsBrought r w is' (stored_in r e.happens) t j ws) (sym (ap (λ x. x.issued) e.after)) b) k.2;
    }
