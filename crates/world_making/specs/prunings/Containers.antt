-- Each target goes on knowing the containers that it knows, and so those of which attempts make snapshots, or that they aggregate.
use Rattle.std.specs.Prelude.{ℕ, ◌≡◌, ◌⊎◌, ◌||◌, Bool, true, false, List, [], ◌∷◌, length, map, Contains, slice_get, Option, Some, None, refl, if◌then◌else◌}
use Rattle.std.specs.List.{list_any}
use Rattle.std.proofs.Common.{sym, ◌∙◌, ap, subst, arith, inl, inr}
use Rattle.std.proofs.Math.ListN.{set}
use Rattle.std.proofs.lemmas.List.{length-set}
use Rattle.std.proofs.lemmas.Option.{slice_get_within}
use Rattle.base_types.specs.Scripts.{AreCommands, IsCommand, IsContOf, IsInForm, SnapName, old_snap}
use Rattle.base_types.specs.declared.entry.Settle.{Settle}
use Rattle.base_types.specs.declared.entry.Settle.TheVariants.{Abort, Commit, Confirm, Forget}
use Rattle.base_types.specs.declared.epoch.Epoch.{Epoch}
use Rattle.base_types.specs.declared.id.AttemptId.{AttemptId}
use Rattle.base_types.specs.declared.id.ContId.{ContId}
use Rattle.base_types.specs.declared.outcome.FloorWhy.TheVariants.{Snapshot}
use Rattle.base_types.specs.declared.script.Command.{Command}
use Rattle.base_types.specs.declared.script.Command.TheVariants.{Aggregate, Snap}
use Rattle.base_types.specs.declared.script.ContDecl.{ContDecl}
use Rattle.base_types.specs.declared.script.Script.{Script}
use Rattle.model_laws.specs.Lists.{all-at, at-within}
use Rattle.model_laws.specs.Members.{Has, contains-from_has, has-from_contains, has-map}
use Rattle.daos_model.specs.Changes.{created, frozen, leased, marked, marked_at, new_snap, prepared, pruned, raised_at, reopened, settled, with_versions}
use Rattle.daos_model.specs.Durables.{is_enlisted, is_frozen, is_row_of, snap_key}
use Rattle.daos_model.specs.Ordered.{put}
use Rattle.daos_model.specs.Transactions.{command_of, numbered_at}
use Rattle.daos_model.specs.declared.durable.ContRow.{ContRow}
use Rattle.daos_model.specs.declared.durable.Durable.{Durable}
use Rattle.world_base.specs.declared.target.TargetState.{TargetState}
use Rattle.world_base.specs.declared.world.World.{World}
use Rattle.world_base.specs.Changes.{Change, Creates, Extends, Freezes, IsPartly, Prepares, Prunes, Settles, made}
use Rattle.world_base.specs.Events.{ByClient, ByTarget, Event, Rules, ToClient, ToTarget}
use Rattle.world_base.specs.Stops.{Draws, Fails, Further, GivenUp, Happening, IsCut, Opens, Plainly, WorldEvent}
use Rattle.world_causes.specs.world_contents.frozen.Rows.{of-marked_at, of-raised_at}
use Rattle.world_making.specs.making.Leaving.{IsThereStill, event-left}
use Rattle.world_letters.specs.snapshots.Makings.{IsAggregationOf, IsSnapIn}
use Rattle.world_making.specs.prunings.Premises.{MakersAreKnown}
use Rattle.world_causes.specs.world_contents.posts.ScriptForm.{numbered-form}

-- ---- the statements

-- every event keeps it
abbrev pub AllEventsKeepMakersKnown : Type 0
AllEventsKeepMakersKnown = (r : Rules) (w v : World) → WorldEvent r w v → MakersAreKnown r w → MakersAreKnown r v

-- and so it is of a script in form where targets know the containers that it declares
abbrev pub DeclaredAreKnown : Type 0
DeclaredAreKnown =
    (r : Rules) (w : World) → IsInForm r.script.targets r.script
    → ((t : ℕ) (s : TargetState) → slice_get w.targets t ≡ Some s → (c : ContId) → Contains (map (λ d. d.id) r.script.conts) c → is_enlisted s.durable c ≡ true) → MakersAreKnown r w

-- ---- one change

-- the containers that were known are known
abbrev KnowsMore : Durable → Durable → Type 0
KnowsMore d e = (c : ContId) → is_enlisted d c ≡ true → is_enlisted e c ≡ true

same-rows : (d e : Durable) → e.conts ≡ d.conts → KnowsMore d e
unfolding is_enlisted
same-rows d e same c is = ap (list_any (is_row_of c)) same ∙ is

rows-stay : (f : ContRow → ContRow) (c : ContId) (rows : List ContRow) → ((r : ContRow) → is_row_of c (f r) ≡ is_row_of c r) → list_any (is_row_of c) (map f rows) ≡ list_any (is_row_of c) rows
rows-stay f c [] same = refl
rows-stay f c (r ∷ rows) same = ap (λ b. b || list_any (is_row_of c) (map f rows)) (same r) ∙ ap (λ b. is_row_of c r || b) (rows-stay f c rows same)

settled-knows : (a : AttemptId) (step : Settle) (d : Durable) → KnowsMore d (settled a step d)
unfolding settled
settled-knows a Commit d = same-rows d (settled a Commit d) refl
settled-knows a Abort d = same-rows d (settled a Abort d) refl
settled-knows a (Confirm t) d = same-rows d (settled a (Confirm t) d) refl
settled-knows a Forget d = same-rows d (settled a Forget d) refl

frozen-knows : (b : ContId) (s : Epoch) (d : Durable) → KnowsMore d (frozen b s d)
unfolding frozen is_enlisted
frozen-knows b s d c is = by (is_frozen d b s)
  where
    by : (old : Bool) → list_any (is_row_of c) (if old then d else record d { conts = map (raised_at b s (Snapshot s)) d.conts; snaps = put snap_key (new_snap b s) d.snaps }).conts ≡ true
    by true = is
    by false = rows-stay (raised_at b s (Snapshot s)) c d.conts (of-raised_at c b s (Snapshot s)) ∙ is

marked-knows : (b : ContId) (upto : Epoch) (n : ℕ) (d : Durable) → KnowsMore d (marked b upto n d)
unfolding marked is_enlisted
marked-knows b upto n d c is = rows-stay (marked_at b upto n) c d.conts (of-marked_at c b upto n) ∙ is

made-knows : (c : Change) (d : Durable) → KnowsMore d (made c d)
unfolding leased prepared created pruned with_versions is_enlisted
made-knows (Extends ticks) d = same-rows d (leased ticks d) refl
made-knows (Prepares e ws) d = same-rows d (prepared e ws d) refl
made-knows (Settles a step) d = settled-knows a step d
made-knows (Freezes c s) d = frozen-knows c s d
made-knows (Creates c s) d = same-rows d (created c s d) refl
made-knows (Prunes c upto n) d = marked-knows c upto n d

partly-knows : (c : Change) (d x : Durable) → IsPartly c d x → KnowsMore d x
unfolding with_versions is_enlisted
partly-knows (Prunes c upto n) d x p = λ b is. ap (λ y. list_any (is_row_of b) y.conts) p.2 ∙ marked-knows c upto n d b is
partly-knows (Extends ticks) d x p = absurd p
partly-knows (Prepares e ws) d x p = absurd p
partly-knows (Settles a step) d x p = absurd p
partly-knows (Freezes c s) d x p = absurd p
partly-knows (Creates c s) d x p = absurd p

opened-knows : (d : Durable) → KnowsMore d (reopened d)
unfolding reopened
opened-knows d = same-rows d (reopened d) refl

-- ---- events

few-set : (ts us : List TargetState) (t : ℕ) (z : TargetState) → us ≡ set ts t z → length us ≡ length ts
few-set ts us t z is = ap length is ∙ length-set ts t z

plain-few : (r : Rules) (w v : World) → Event r w v → length v.targets ≡ length w.targets
plain-few r w v (ByClient g) = ap (λ u. length u.targets) g.after
plain-few r w v (ToClient g) = ap (λ u. length u.targets) g.after
plain-few r w v (ToTarget g) = few-set w.targets v.targets g.t _ (ap (λ u. u.targets) g.after)
plain-few r w v (ByTarget g) = few-set w.targets v.targets g.t _ (ap (λ u. u.targets) g.after)

-- no target comes or goes
happening-few : (r : Rules) (w v : World) → Happening r w v → length v.targets ≡ length w.targets
happening-few r w v (Plainly e up) = plain-few r w v e
happening-few r w v (Further f) = few-set w.targets v.targets f.hears.t _ (ap (λ u. u.targets) f.hears.after)
happening-few r w v (IsCut g) = few-set w.targets v.targets g.t _ (ap (λ u. u.targets) g.after)
happening-few r w v (Opens g) = few-set w.targets v.targets g.t _ (ap (λ u. u.targets) g.after)
happening-few r w v (Fails g) = few-set w.targets v.targets g.t _ (ap (λ u. u.targets) g.after)
happening-few r w v (GivenUp g) = few-set w.targets v.targets g.t _ (ap (λ u. u.targets) g.after)
happening-few r w v (Draws g) = ap (λ u. length u.targets) g.after

pub all-events-keep_makers : AllEventsKeepMakersKnown
all-events-keep_makers r w v e k t z x c at makes = subst (λ y. is_enlisted y.durable c ≡ true) (sym it) (next.left c (k t was.0 x c was.1 makes))
  where
    within : length v.targets ≡ length w.targets
    within = ap (λ u. length u.targets) e.after ∙ happening-few r w e.u e.happens

    was : (s : TargetState) × (slice_get w.targets t ≡ Some s)
    was = at-within w.targets t (let less = slice_get_within v.targets t z at in omega (arith, less, within))

    next : IsThereStill KnowsMore v.targets t was.0.durable
    next = event-left KnowsMore (λ d. same-rows d d refl) (λ d f g a b y is. b y (a y is)) made-knows partly-knows opened-knows r w v e t was.0 was.1

    it : z ≡ next.z
    it = let same : Some z ≡ Some next.z = sym at ∙ next.here in let one : z ≡ next.z = cc in one

-- ---- a script in form

command-in_form : (s : Script) (x : AttemptId) (d : Command) → IsInForm s.targets s → command_of s x ≡ Some d → (names : List SnapName) × IsCommand s.conts s.objs names d
unfolding command_of
command-in_form s x d f is = by (slice_get s.clients x.client) refl is
  where
    by : (o : Option (List Command)) → slice_get s.clients x.client ≡ o → numbered_at x.command o ≡ Some d → (names : List SnapName) × IsCommand s.conts s.objs names d
    by None at is = let no : ⊥ = cc in absurd no
    by (Some list) at is = numbered-form s.conts s.objs (map old_snap s.olds) list x.command d (all-at (λ l. AreCommands s.conts s.objs (map old_snap s.olds) l) s.clients x.client list f.commands at) is

declared-of : (conts : List ContDecl) (c : ContId) → IsContOf conts c → Contains (map (λ d. d.id) conts) c
declared-of conts c any =
    contains-from_has (map (λ d. d.id) conts) c (subst (λ y. Has y (map (λ d. d.id) conts)) any.4 (has-map (λ d. d.id) conts any.1 (has-from_contains conts any.1 (any.0, any.2, any.3))))

pub declared-known : DeclaredAreKnown
declared-known r w form known t s x c at makes = known t s at c (declared-of r.script.conts c (by makes))
  where
    by : IsSnapIn r x c ⊎ IsAggregationOf r x c → IsContOf r.script.conts c
    by (inl snaps) = (command-in_form r.script x (Snap snaps.0 c) form snaps.1).1
    by (inr aggregates) = (command-in_form r.script x (Aggregate c) form aggregates).1
