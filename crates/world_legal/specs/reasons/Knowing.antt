-- What a leader knows to be down was given up.
use Rattle.std.specs.Prelude.{ℕ, ◌≡◌, ◌⊎◌, ◌++◌, true, false, List, [], ◌∷◌, slice_get, Some, refl}
use Rattle.std.proofs.Common.{append-nil, append_assoc, inl, inr, sym, ◌∙◌, ap, subst}
use Rattle.std.proofs.Math.ListN.{set}
use Rattle.base_types.specs.declared.report.Line.{Line}
use Rattle.base_types.specs.declared.report.Line.TheVariants as line
use Rattle.base_messages.specs.declared.message.Message.{Message, more_of-Message}
use Rattle.base_messages.specs.declared.message.Message.TheVariants as message
use Rattle.daos_model.specs.Changes.{reopened}
use Rattle.dtx_base.specs.Members.{has_target}
use Rattle.model_laws.specs.Members.{Has, has-left}
use Rattle.world_standing.specs.world_commit.asks.RowsKept.{IsFresh, hears-rows}
use Rattle.world_standing.specs.world_commit.attempts.Attempts.{row_in}
use Rattle.world_standing.specs.world_commit.attempts.Counting.{has-taken}
use Rattle.world_standing.specs.world_commit.attempts.History.{History}
use Rattle.world_standing.specs.world_commit.attempts.MemberBits.{has-none}
use Rattle.world_base.specs.declared.target.Life.TheVariants.{Down}
use Rattle.world_base.specs.declared.target.TargetState.{TargetState}
use Rattle.world_base.specs.declared.world.World.{World}
use Rattle.world_base.specs.Events.{ByClient, ByTarget, Rules, TargetHearsRightly, ToClient, ToTarget, kept, target_after, target_plan, rightly}
use Rattle.world_base.specs.MemoryLaws.{idle-leaves}
use Rattle.world_base.specs.Statuses.{opening_memory}
use Rattle.world_base.specs.Stops.{Draws, Fails, Further, GivenUp, Happening, HearsMore, IsCut, Opens, Plainly, WorldEvent, opened_at, stopped_at, stops_so_far}
use Rattle.world_standing.specs.world_commit.fates.Facts.{Attempts}
use Rattle.world_standing.specs.world_commit.fates.Rightly.{letters-tell}
use Rattle.world_standing.specs.world_commit.questions.Flying.{IsWithoutCollections}
use Rattle.world_standing.specs.world_commit.questions.Hearing.{is_of_stops}
use Rattle.world_standing.specs.world_commit.questions.Sending.{TellsOfDown, more-down}
use Rattle.world_standing.specs.world_contents.reads.EventLaws.{at-or-there}
use Rattle.world_standing.specs.world_commit.requests.Rows.{CommitsFindNoRow}
use Rattle.world_standing.specs.world_commit.stops.Questions.{opening-down}
use Rattle.world_legal.specs.reasons.Downs.{DownsAreTold, TellsDown}

-- ---- the fact

-- a line tells that this one was given up
abbrev pub DownsAreKnown : World → Type 0
DownsAreKnown w = (t u : ℕ) (s : TargetState) → slice_get w.targets t ≡ Some s → has_target s.memory.leader.down u ≡ true → Has (line.Down u) w.lines

-- ---- one target

module _ (w v : World) (k : DownsAreKnown w) (more : List Line) (lines : v.lines ≡ w.lines ++ more) where
  on : (u : ℕ) → Has (line.Down u) w.lines → Has (line.Down u) v.lines
  on u i = subst (Has (line.Down u)) (sym lines) (has-left w.lines more (line.Down u) i)

  none-changed : v.targets ≡ w.targets → DownsAreKnown v
  none-changed same t u s here is = on u (k t u s (ap (λ ts. slice_get ts t) (sym same) ∙ here) is)

  pub one-changed : (t : ℕ) (s z : TargetState) → slice_get w.targets t ≡ Some s → v.targets ≡ set w.targets t z
      → ((u : ℕ) → has_target z.memory.leader.down u ≡ true → (has_target s.memory.leader.down u ≡ true) ⊎ Has (line.Down u) w.lines) → DownsAreKnown v
  one-changed t s z here same from n u y at is = elim (at-or-there w.targets t s z here n y (subst (λ ts. slice_get ts n ≡ Some y) same at)) [
    | inl it ↦ on u (elim (from u (subst (λ x. has_target x.memory.leader.down u ≡ true) it.1 is)) [ inl was ↦ k t u s here was | inr told ↦ told ])
    | inr old ↦ on u (k n u y old.1 is)
  ]

none-known : (d : ℕ) → d ≡ 0 → (u : ℕ) → has_target d u ≡ true → ⊥
none-known d none u is = let bad : false ≡ true = sym (has-none u) ∙ (ap (λ n. has_target n u) (sym none) ∙ is) in let no : ⊥ = cc in no

-- ---- turns

module _ (r : Rules) (h : History) (w v : World) (attempts : Attempts r h w) (commits : CommitsFindNoRow w) (downs : DownsAreTold w) (k : DownsAreKnown w) where
  -- what is heard as without stops
  heard-same : (g : TargetHearsRightly r w v) → g.memory.leader.down ≡ g.s.memory.leader.down
  heard-same g = (hears-rows (target_plan r g.t) g.s.opening g.s.memory g.reading g.l.from g.l.message (kept g.s) g.new (g.memory, g.did) g.turn (fresh g.l.message refl)).down
    where
      fresh : (q : Message) → g.l.message ≡ q → IsFresh g.s.memory q
      fresh (message.Commit x ep first tracker ws) is = ap (λ o. row_in o x) (sym g.here) ∙ commits g.l x ep first tracker ws g.t (has-taken w.messages g.l g.rest g.takes) is g.to_it
      fresh q is = tt

  hears-known : TargetHearsRightly r w v → DownsAreKnown v
  hears-known g = one-changed w v k _ (ap (λ x. x.lines) g.after) g.t g.s (target_after g.s g.new g.memory) g.here (ap (λ x. x.targets) g.after) (λ u is. inl (ap (λ n. has_target n u) (sym (heard-same g)) ∙ is))

  -- what is heard of stops
  tells-so : (u : ℕ) (m : Message) → TellsOfDown u m → TellsDown u m
  tells-so u (message.Reset' by true place (more_of-Message q rest)) tells = tells.0
  tells-so u (message.Reset' by false place (more_of-Message q rest)) tells = let no : ⊥ = cc (tells.1) in absurd no
  tells-so u m tells = absurd tells

  more-known : (f : HearsMore r w v) → is_of_stops f.hears.l.message ≡ true → DownsAreKnown v
  more-known f ours =
      let g = f.hears in
      one-changed w v k _ (ap (λ x. x.lines) g.after) g.t g.s (target_after g.s g.new g.memory) g.here (ap (λ x. x.targets) g.after)
      (λ u is. elim ((more-down f.number (target_plan r g.t) g.s.opening g.s.memory g.reading g.l.from g.l.message (kept g.s) g.new (g.memory, g.did) ours g.turn).only u is) [
        | inl was ↦ inl was
        | inr tells ↦ inr (downs g.l u (has-taken w.messages g.l g.rest g.takes) (tells-so u g.l.message tells))
      ])

  pub happening-known : (e : Happening r w v) → IsWithoutCollections e → DownsAreKnown v
  happening-known (Plainly (ByClient g) up) ours = none-changed w v k _ (ap (λ x. x.lines) g.after) (ap (λ x. x.targets) g.after)
  happening-known (Plainly (ToClient g) up) ours = none-changed w v k _ (ap (λ x. x.lines) g.after) (ap (λ x. x.targets) g.after)
  happening-known (Plainly (ToTarget g) up) ours = hears-known (rightly r w v g (letters-tell r h w attempts g.l g.t g.s (has-taken w.messages g.l g.rest g.takes) g.to_it g.here))
  happening-known (Plainly (ByTarget g) up) ours =
      one-changed w v k _ (ap (λ x. x.lines) g.after) g.t g.s (target_after g.s g.new g.memory) g.here (ap (λ x. x.targets) g.after)
      (λ u is. inl (ap (λ n. has_target n u) (sym (idle-leaves g.settling (target_plan r g.t) g.s.memory g.turn.last g.new (g.memory, g.did) g.turn.ends).down) ∙ is))
  happening-known (Further f) ours = more-known f ours
  happening-known (IsCut g) ours =
      one-changed w v k (g.cut.lines ++ line.Stop (stops_so_far w.lines) g.t ∷ []) (ap (λ x. x.lines) g.after ∙ append_assoc w.lines g.cut.lines (line.Stop (stops_so_far w.lines) g.t ∷ [])) g.t g.s (stopped_at g.s g.cut.left) g.here (ap (λ x. x.targets) g.after)
      (λ u is. absurd (none-known 0 refl u is))
  happening-known (Opens g) ours =
      one-changed w v k _ (ap (λ x. x.lines) g.after) g.t g.s (opened_at r g.t g.number g.s g.free) g.here (ap (λ x. x.targets) g.after)
      (λ u is. absurd (none-known (opening_memory (target_plan r g.t) (reopened g.s.durable)).leader.down (opening-down r g.t g.s.durable) u is))
  happening-known (Fails g) ours =
      one-changed w v k [] (ap (λ x. x.lines) g.after ∙ sym (append-nil w.lines)) g.t g.s (record g.s { durable = g.k.durable; free = g.k.free }) g.here (ap (λ x. x.targets) g.after) (λ u is. inl is)
  happening-known (GivenUp g) ours = one-changed w v k _ (ap (λ x. x.lines) g.after) g.t g.s (record g.s { life = Down }) g.here (ap (λ x. x.targets) g.after) (λ u is. inl is)
  happening-known (Draws g) ours = none-changed w v k [] (ap (λ x. x.lines) g.after ∙ sym (append-nil w.lines)) (ap (λ x. x.targets) g.after)

-- ---- the statements

-- so it is where no leader knows of one
abbrev pub KnownDownsBegin : Type 0
KnownDownsBegin = (w : World) → ((t : ℕ) (s : TargetState) → slice_get w.targets t ≡ Some s → s.memory.leader.down ≡ 0) → DownsAreKnown w

pub known-begin : KnownDownsBegin
known-begin w none t u s here is = absurd (none-known s.memory.leader.down (none t s here) u is)

-- each event keeps it so, where who is told that a target is down is told so of one that was given up, and Commits are new
abbrev pub EventsKeepKnownDowns : Type 0
EventsKeepKnownDowns = (r : Rules) (h : History) (w v : World) → Attempts r h w → CommitsFindNoRow w → DownsAreTold w → (e : WorldEvent r w v) → IsWithoutCollections e.happens → DownsAreKnown w → DownsAreKnown v

pub events-keep-known : EventsKeepKnownDowns
events-keep-known r h w v attempts commits downs e ours k = subst DownsAreKnown (sym e.after) (λ t u s here is. happening-known r h w e.u attempts commits downs k e.happens ours t u s here is)
