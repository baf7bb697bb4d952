-- When a run is over, what its lines tell of reads is what the transactions that took effect give, or the snapshot at which is read.
use Rattle.std.specs.Prelude.{ℕ, ◌≡◌, List, find, Option, Some, None}
use Rattle.std.proofs.Common.{sym, subst}
use Rattle.base_types.specs.declared.epoch.Epoch.{Epoch}
use Rattle.base_types.specs.declared.id.ContId.{ContId}
use Rattle.base_types.specs.declared.report.Attempt.{Attempt}
use Rattle.base_types.specs.declared.script.OldDecl.{OldDecl}
use Rattle.base_types.specs.declared.script.Script.{Script}
use Rattle.base_types.specs.Scripts.{IsInForm}
use Rattle.model_laws.specs.Decided.{taken_in}
use Rattle.model_laws.specs.DecidedLaws.{all-from_has, has-all}
use Rattle.model_laws.specs.Groups.{HasDkeys}
use Rattle.model_laws.specs.Members.{Has}
use Rattle.model_laws.specs.TargetLaws.{as_of-dkeys}
use Rattle.daos_model.specs.declared.cell.CellValue.{CellValue}
use Rattle.daos_model.specs.declared.durable.Version.{Version}
use Rattle.daos_model.specs.declared.stand.Stand.{Stand}
use Rattle.daos_model.specs.declared.stand.Taken.{Taken}
use Rattle.daos_model.specs.AsOf.{as_of}
use Rattle.daos_model.specs.Attempts.{snapshot_of, tries}
use Rattle.daos_model.specs.Family.{resolved}
use Rattle.daos_model.specs.Finals.{SameMap}
use Rattle.daos_model.specs.Opening.{Opening, kept_map}
use Rattle.daos_model.specs.ReadsLegal.{AttemptReadsLegal, IsToldRight, ReadsLegal, is_named, map_at, map_read, old_map}
use Rattle.daos_model.specs.TookEffect.{took}
use Rattle.daos_model.specs.Transactions.{attempt_ops}
use Rattle.world_commit.specs.attempts.History.{History}
use Rattle.world_base.specs.declared.world.World.{World}
use Rattle.world_base.specs.Events.{Rules}
use Rattle.world_answers.specs.world_contents.gots.Gots.{Gots, IsLineServed}
use Rattle.world_answers.specs.world_contents.gots.MoreLaws.{served-more, stays-remembered}
use Rattle.world_answers.specs.world_contents.gots.Right.{SeenHaveDkeys}
use Rattle.world_answers.specs.world_contents.gots.ToldLaws.{lines-right}
use Rattle.world_answers.specs.world_contents.reads.Transactions.{transactions}
use Rattle.world_upheld.specs.below.Legal.{Concluded, report_over, right-same, durables_of}
use Rattle.world_closing.specs.stands.Took.{EpochsDiffer, took-same_map}
use Rattle.world_answers.specs.world_causes.causes.LastCauses.{ids}
use Rattle.world_answers.specs.world_causes.causes.Storing.{AreApart}
use Rattle.world_closing.specs.stands.Stores.{decided-form}

-- ---- cells without a dkey

-- neither what the opening stands for nor a snapshot that it keeps has a cell without a dkey
pub record OpensWithDkeys (o : Opening) : Type 0 where
  pub now : HasDkeys o.stand.now
  pub kept : (c : ContId) (e : ℕ) (m : List CellValue) → kept_map c e o.stand.snaps ≡ Some m → HasDkeys m

-- nor has a map that an attempt reads
pub seen-dkeys : (r : Rules) (o : Opening) (h : History) → IsInForm r.script.targets r.script → OpensWithDkeys o → SeenHaveDkeys r o h
seen-dkeys r o h form opens x e m seen = by (snapshot_of r.script x) seen
  where
    now : as_of o.stand (taken_in (transactions r.script h)) e.0 ≡ m → HasDkeys m
    now same = subst HasDkeys same (as_of-dkeys o.stand (transactions r.script h) e.0 opens.now (decided-form r h r.script.targets form))

    old : (d : Option OldDecl) → old_map o.stand (taken_in (transactions r.script h)) e.0 d ≡ Some m → HasDkeys m
    old None is = now (let same : as_of o.stand (taken_in (transactions r.script h)) e.0 ≡ m = cc in same)
    old (Some d) is = opens.kept d.cont d.epoch.0 m is

    by : (o' : Option (List ℕ)) → map_at r.script o.stand (taken_in (transactions r.script h)) e.0 o' ≡ Some m → HasDkeys m
    by None is = now (let same : as_of o.stand (taken_in (transactions r.script h)) e.0 ≡ m = cc in same)
    by (Some name) is = old (find (is_named name) r.script.olds) is

-- ---- maps that hold the same

-- what an attempt was told is right by other transactions that give the same maps; a snapshot of before the run is the same by any
pub legal-by_same : (s : Script) (o : Stand) (T U : List Taken) (a : Attempt) → ((e : ℕ) → SameMap (as_of o T e) (as_of o U e)) → AttemptReadsLegal s o T a → AttemptReadsLegal s o U a
legal-by_same s o T U a same k = by a.epoch k
  where
    old : (e : ℕ) (d : Option OldDecl) → IsToldRight (attempt_ops s a.id) (old_map o T e d) a → IsToldRight (attempt_ops s a.id) (old_map o U e d) a
    old e None t = right-same (attempt_ops s a.id) (as_of o T e) (as_of o U e) a (same e) t
    old e (Some d) t = t

    at : (e : ℕ) (name : Option (List ℕ)) → IsToldRight (attempt_ops s a.id) (map_at s o T e name) a → IsToldRight (attempt_ops s a.id) (map_at s o U e name) a
    at e None t = right-same (attempt_ops s a.id) (as_of o T e) (as_of o U e) a (same e) t
    at e (Some name) t = old e (find (is_named name) s.olds) t

    by : (own : Option Epoch) → IsToldRight (attempt_ops s a.id) (map_read s o T a own) a → IsToldRight (attempt_ops s a.id) (map_read s o U a own) a
    by None t = t
    by (Some e) t = at e.0 (snapshot_of s a.id) t

-- ---- all of it

-- what is known of lines: of each attempt there is one, and no two were issued one epoch
pub record AreLines (v : World) : Type 0 where
  pub differ : EpochsDiffer v
  pub apart : AreApart (ids (tries v.lines))

module _ (r : Rules) (o : Opening) (held : ℕ → List Version) (h : History) (v : World) (form : IsInForm r.script.targets r.script) (opens : OpensWithDkeys o) (gots : Gots r h v) (c : Concluded r o held h v) (l : AreLines v) where
  -- what lines tell was served by the history that goes on, too
  served-later : (a : Attempt) → IsLineServed r h a → IsLineServed r c.so.later a
  served-later a s = served-more h c.so.later a.id r.script.targets (attempt_ops r.script a.id) a.epoch a.epoch a.gots a.conds (stays-remembered h c.so.later a.id a.epoch (λ q i. subst (Has q) (sym c.so.served) i)) s

  pub all-reads_legal : ReadsLegal r.script o.stand (took r.script (resolved (durables_of v)) v.lines) (report_over r v)
  all-reads_legal = all-from_has (AttemptReadsLegal r.script o.stand (took r.script (resolved (durables_of v)) v.lines)) (tries v.lines) one
    where
      one : (a : Attempt) → Has a (tries v.lines) → AttemptReadsLegal r.script o.stand (took r.script (resolved (durables_of v)) v.lines) a
      one a i =
          legal-by_same r.script o.stand (taken_in (transactions r.script c.so.later)) (took r.script (resolved (durables_of v)) v.lines) a (λ e cell. sym (took-same_map r o held h v l.differ c l.apart e cell))
          (lines-right r o c.so.later r.script.targets a form c.so.reads.answers (seen-dkeys r o c.so.later form opens) (served-later a (has-all (IsLineServed r h) (tries v.lines) a gots.lines i)))

-- What lines tell of reads is legal where it is known what became of attempts.
abbrev pub AllReadsAreLegal : Type 0
AllReadsAreLegal =
    (r : Rules) (o : Opening) (held : ℕ → List Version) (h : History) (v : World) → IsInForm r.script.targets r.script → OpensWithDkeys o → Gots r h v → Concluded r o held h v → AreLines v
    → ReadsLegal r.script o.stand (took r.script (resolved (durables_of v)) v.lines) (report_over r v)

pub reads-are_legal : AllReadsAreLegal
reads-are_legal r o held h v form opens gots c l = all-reads_legal r o held h v form opens gots c l
