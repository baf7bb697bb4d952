-- Each target goes on knowing the containers that it knows; so at each moment of a run it knows those that the script declares.
use Rattle.std.specs.Prelude.{ℕ, ◌≡◌, ◌||◌, Bool, true, false, List, [], ◌∷◌, map, slice_get, Some, refl, if◌then◌else◌}
use Rattle.std.specs.List.{list_any}
use Rattle.std.proofs.Common.{sym, ◌∙◌, ap, subst, arith}
use Rattle.std.proofs.lemmas.Option.{slice_get_within}
use Rattle.base_types.specs.declared.entry.Settle.TheVariants.{Abort, Commit, Confirm, Forget}
use Rattle.base_types.specs.declared.epoch.Epoch.{Epoch}
use Rattle.base_types.specs.declared.id.ContId.{ContId}
use Rattle.base_types.specs.declared.outcome.FloorWhy.TheVariants.{Snapshot}
use Rattle.daos_model.specs.declared.durable.ContRow.{ContRow}
use Rattle.daos_model.specs.declared.durable.Durable.{Durable}
use Rattle.daos_model.specs.Changes.{created, frozen, leased, marked, marked_at, new_snap, prepared, pruned, raised_at, reopened, settled, with_versions}
use Rattle.daos_model.specs.Durables.{is_enlisted, is_frozen, is_row_of, snap_key}
use Rattle.daos_model.specs.Opening.{Opening}
use Rattle.daos_model.specs.Ordered.{put}
use Rattle.model_laws.specs.Lists.{at-within}
use Rattle.world_base.specs.declared.target.TargetState.{TargetState}
use Rattle.world_base.specs.declared.world.World.{World}
use Rattle.world_base.specs.Changes.{Change, Creates, Extends, Freezes, IsPartly, Prepares, Prunes, Settles, made}
use Rattle.world_base.specs.Events.{Rules}
use Rattle.world_base.specs.Stops.{Begins, Goes, WorldEvent, WorldRun}
use Rattle.world_legal.specs.world_contents.frozen.Rows.{of-marked_at, of-raised_at}
use Rattle.world_owners.specs.world_making.making.Leaving.{IsThereStill, event-left}
use Rattle.world_upheld.specs.upheld.Begins.{RunBeginsWell, AreEnlisted}
use Rattle.world_upheld.specs.upheld.Events.{event-many}

-- what is enlisted depends on the containers alone
pub enlisted-same : (d e : Durable) (c : ContId) → e.conts ≡ d.conts → is_enlisted d c ≡ true → is_enlisted e c ≡ true
unfolding is_enlisted
enlisted-same d e c same is = ap (list_any (is_row_of c)) same ∙ is

-- ---- the statements

-- each target knows the containers that it knew
abbrev pub GoesOnKnowing : World → World → Type 0
GoesOnKnowing w v =
    (t : ℕ) (z : TargetState) → slice_get v.targets t ≡ Some z
    → (s : TargetState) × (slice_get w.targets t ≡ Some s) × ((c : ContId) → is_enlisted s.durable c ≡ true → is_enlisted z.durable c ≡ true)

-- after each event
abbrev pub AllEventsKeepContainers : Type 0
AllEventsKeepContainers = (r : Rules) (w v : World) → WorldEvent r w v → GoesOnKnowing w v

-- so at each moment of a run each target knows the containers that the script declares
abbrev pub RunsKnowDeclared : Type 0
RunsKnowDeclared =
    (r : Rules) (o : Opening) (w v : World) → RunBeginsWell r o w → WorldRun r w v → (t : ℕ) (s : TargetState) → slice_get v.targets t ≡ Some s → AreEnlisted r.script s.durable

-- ---- one change

abbrev KnowsMore : Durable → Durable → Type 0
KnowsMore d e = (c : ContId) → is_enlisted d c ≡ true → is_enlisted e c ≡ true

same-conts : (d e : Durable) → e.conts ≡ d.conts → KnowsMore d e
same-conts d e same c is = enlisted-same d e c same is

-- other rows of the same containers
rows-stay : (f : ContRow → ContRow) (c : ContId) (rows : List ContRow) → ((x : ContRow) → is_row_of c (f x) ≡ is_row_of c x)
    → list_any (is_row_of c) (map f rows) ≡ list_any (is_row_of c) rows
rows-stay f c [] same = refl
rows-stay f c (x ∷ rows) same = ap (λ b. b || list_any (is_row_of c) (map f rows)) (same x) ∙ ap (λ b. is_row_of c x || b) (rows-stay f c rows same)

freeze-knows : (b : ContId) (s : Epoch) (d : Durable) → KnowsMore d (frozen b s d)
unfolding frozen is_enlisted
freeze-knows b s d c is = by (is_frozen d b s)
  where
    by : (old : Bool)
        → list_any (is_row_of c) (if old then d else record d { conts = map (raised_at b s (Snapshot s)) d.conts; snaps = put snap_key (new_snap b s) d.snaps }).conts ≡ true
    by true = is
    by false = rows-stay (raised_at b s (Snapshot s)) c d.conts (of-raised_at c b s (Snapshot s)) ∙ is

marked-knows : (b : ContId) (upto : Epoch) (n : ℕ) (d : Durable) → KnowsMore d (marked b upto n d)
unfolding marked is_enlisted
marked-knows b upto n d c is = rows-stay (marked_at b upto n) c d.conts (of-marked_at c b upto n) ∙ is

change-knows : (c : Change) (d : Durable) → KnowsMore d (made c d)
unfolding leased prepared settled created pruned with_versions is_enlisted
change-knows (Extends ticks) d = same-conts d (leased ticks d) refl
change-knows (Prepares e ws) d = same-conts d (prepared e ws d) refl
change-knows (Settles a Commit) d = same-conts d (settled a Commit d) refl
change-knows (Settles a Abort) d = same-conts d (settled a Abort d) refl
change-knows (Settles a (Confirm t)) d = same-conts d (settled a (Confirm t) d) refl
change-knows (Settles a Forget) d = same-conts d (settled a Forget d) refl
change-knows (Freezes c s) d = freeze-knows c s d
change-knows (Creates c s) d = same-conts d (created c s d) refl
change-knows (Prunes c upto n) d = marked-knows c upto n d

part-knows : (c : Change) (d x : Durable) → IsPartly c d x → KnowsMore d x
unfolding with_versions is_enlisted
part-knows (Prunes c upto n) d x p = λ b is. ap (λ y. list_any (is_row_of b) y.conts) p.2 ∙ marked-knows c upto n d b is
part-knows (Extends ticks) d x p = absurd p
part-knows (Prepares e ws) d x p = absurd p
part-knows (Settles a step) d x p = absurd p
part-knows (Freezes c s) d x p = absurd p
part-knows (Creates c s) d x p = absurd p

opened-knows : (d : Durable) → KnowsMore d (reopened d)
unfolding reopened
opened-knows d = same-conts d (reopened d) refl

-- ---- events

pub all-events-keep_containers : AllEventsKeepContainers
all-events-keep_containers r w v e t z at = (was.0, was.1, λ c is. subst (λ y. is_enlisted y.durable c ≡ true) (sym it) (next.left c is))
  where
    was : (s : TargetState) × (slice_get w.targets t ≡ Some s)
    was = at-within w.targets t (let less = slice_get_within v.targets t z at in let many = event-many r w v e in omega (arith, less, many))

    next : IsThereStill KnowsMore v.targets t was.0.durable
    next = event-left KnowsMore (λ d. same-conts d d refl) (λ d f g a b y is. b y (a y is)) change-knows part-knows opened-knows r w v e t was.0 was.1

    it : z ≡ next.z
    it = let same : Some z ≡ Some next.z = sym at ∙ next.here in let one : z ≡ next.z = cc in one

-- ---- runs

pub runs-know_declared : RunsKnowDeclared
runs-know_declared r o w v B Begins t s here = B.enlisted t s here
runs-know_declared r o w v B (Goes u x run e) t z here = λ c i. let s = all-events-keep_containers r u v e t z here in s.2 c (runs-know_declared r o w u B run t s.0 s.1 c i)
