-- A later write that refuses an access shows why.
use Rattle.std.specs.Prelude.{ℕ, ◌≡◌, ◌≤◌, ◌<◌, ◌+◌, ◌*◌, ◌⊎◌, true, Any, List, [], ◌∷◌, ◌++◌, Contains, Option, Some, refl}
use Rattle.std.proofs.Common.{inl, inr, sym, ◌∙◌, ap, subst, arith}
use Rattle.std.proofs.lemmas.List.Elements.{Contains-append_left}
use Rattle.base_types.specs.declared.epoch.Epoch.{Epoch}
use Rattle.base_types.specs.declared.id.AttemptId.{AttemptId}
use Rattle.base_types.specs.declared.operation.Act.{Act}
use Rattle.base_types.specs.declared.operation.Act.TheVariants as act
use Rattle.base_types.specs.declared.operation.MinorWrite.{MinorWrite}
use Rattle.base_types.specs.declared.operation.Op.{Op}
use Rattle.base_types.specs.declared.path.Path.{Path}
use Rattle.base_types.specs.declared.report.Line.{Line}
use Rattle.base_types.specs.declared.shown.Shown.{Shown}
use Rattle.base_types.specs.Operations.{act_path, write_path}
use Rattle.base_types.specs.PathLaws.{near-from_overlaps}
use Rattle.base_types.specs.Paths.{near}
use Rattle.model_laws.specs.Lists.{any-of}
use Rattle.model_laws.specs.Members.{Has, has-cases}
use Rattle.daos_model.specs.declared.durable.Durable.{Durable}
use Rattle.daos_model.specs.declared.durable.Version.{Version}
use Rattle.daos_model.specs.Accesses.{access_paths, minor_write, minor_writes}
use Rattle.daos_model.specs.Opening.{Opening, top}
use Rattle.daos_model.specs.Transactions.{attempt_ops}
use Rattle.daos_model.specs.Versions.{version_path}
use Rattle.world_base.specs.declared.target.TargetPlan.{TargetPlan}
use Rattle.world_base.specs.Events.{Rules, listed}
use Rattle.world_base.specs.Reads.{later_of, uncertain_from}
use Rattle.world_base.specs.Requests.{issued_for}
use Rattle.world_causes.specs.causes.Causes.{Dated}
use Rattle.world_causes.specs.causes.Dates.{IsDated}
use Rattle.world_causes.specs.causes.Floors.{IsLater, later-is}
use Rattle.world_causes.specs.causes.Paths.{AreOld}
use Rattle.world_causes.specs.causes.Premises.{AreWritten}
use Rattle.world_causes.specs.causes.Shown.{MeetsLaterWrite}

-- ---- accesses

-- an attempt has an access where it writes
pub write-access : (n : ℕ) (ops : List Op) (w : MinorWrite) → Has w (minor_writes n ops) → Has (write_path w.write) (access_paths ops)
unfolding minor_writes
write-access n [] w i = absurd i
write-access n (op ∷ ops) w i = by op.act refl (has-cases (minor_write n op.act) (minor_writes (n + 1) ops) w i) (write-access (n + 1) ops w)
  where
    by : (a : Act) → op.act ≡ a → Has w (minor_write n a) ⊎ Has w (minor_writes (n + 1) ops) → (Has w (minor_writes (n + 1) ops) → Has (write_path w.write) (access_paths ops)) → Has (write_path w.write) (act_path op.act ∷ access_paths ops)
    by a e (inr j) rest = inr (rest j)
    by (act.Fetch r) e (inl j) rest = absurd j
    by (act.Change x) e (inl (inl same)) rest = inl (ap (λ z. write_path z.write) same ∙ sym (ap act_path e))
    by (act.Change x) e (inl (inr j)) rest = absurd j

-- ---- what versions are of

-- what is so of versions is so of them later, whether done or not
pub written-stays : (r : Rules) (issued : Dated) (top : ℕ) (olds vs : List Version) → AreWritten r issued top olds → AreOld olds vs → AreWritten r issued top vs
written-stays r issued top olds vs k same v i above =
    let u = same v i in
    let w = k u.0 u.1 (subst (λ e. top < e.0) (sym u.3) above) in (
      subst (λ x. Contains issued (x, v.epoch)) u.2 (subst (λ e. Contains issued (u.0.by, e)) u.3 w.0),
      subst (λ x. Any (λ m. write_path m.write ≡ version_path v) (minor_writes 0 (attempt_ops r.script x))) u.2
          (subst (λ z. Any (λ m. write_path m.write ≡ write_path z) (minor_writes 0 (attempt_ops r.script u.0.by))) u.4 w.1),
    )

-- ---- the cause

-- a later write that refuses an access of an attempt at its epoch
pub record IsWriteShown (r : Rules) (issued now : Dated) (lines : List Line) (x : AttemptId) (z : Shown) : Type 0 where
  pub shows : MeetsLaterWrite r now lines x z.by z.epoch z.path
  pub writer : Contains issued (z.by, z.epoch)

pub write-shown : (r : Rules) (o : Opening) (issued : Dated) (lines : List Line) (t : TargetPlan) (x : AttemptId) (ep first : Option Epoch) (e : Epoch) (p : Path) (d : Durable) (z : Shown) → t.epsilon ≡ r.epsilon → IsDated o issued lines x ep first e
    → AreWritten r issued (top o) d.versions → Has p (access_paths (attempt_ops r.script x)) → later_of t first e p d ≡ Some z → IsWriteShown r issued (issued ++ listed (issued_for x ep e)) lines x z
write-shown r o issued lines t x ep first e p d z same dated written access later = subst (IsWriteShown r issued now lines x) k.shown (record { shows = shows; writer = its.0 })
  where
    now : Dated
    now = issued ++ listed (issued_for x ep e)

    k : IsLater t first e p d z
    k = later-is t first e p d z later

    above : top o < k.v.epoch.0
    above = let a : top o < e.0 = dated.above in let b : e.0 < k.v.epoch.0 = k.above in over (top o) a b
      where
        over : (a : ℕ) → a < e.0 → e.0 < k.v.epoch.0 → a < k.v.epoch.0
        over a low up = omega (arith, low, up)

    its : Contains issued (k.v.by, k.v.epoch) × Any (λ w. write_path w.write ≡ version_path k.v) (minor_writes 0 (attempt_ops r.script k.v.by))
    its = written k.v k.among above

    uncertain : (from epsilon : ℕ) → uncertain_from first e ≡ from → t.epsilon ≡ epsilon → k.v.epoch.0 ≤ uncertain_from first e + 256 * t.epsilon → k.v.epoch.0 ≤ from + 256 * epsilon
    uncertain from epsilon is eq low = subst (λ n. k.v.epoch.0 ≤ n + 256 * epsilon) is (subst (λ n. k.v.epoch.0 ≤ uncertain_from first e + 256 * n) eq low)

    shows : MeetsLaterWrite r (issued ++ listed (issued_for x ep e)) lines x k.v.by k.v.epoch (version_path k.v)
    shows = record {
      own = e;
      its = dated.its;
      later = k.above;
      first = dated.begun.0;
      begun = dated.begun.1;
      uncertain = uncertain dated.begun.0.0 r.epsilon dated.begun.2 same k.within;
      writer = Contains-append_left issued (listed (issued_for x ep e)) (k.v.by, k.v.epoch) its.0;
      writes = its.1;
      near = any-of (λ q. near q (version_path k.v) ≡ true) (access_paths (attempt_ops r.script x)) p access (near-from_overlaps p (version_path k.v) k.overlap);
    }
