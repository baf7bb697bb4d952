-- An attempt is decided that nobody is told of.
use Rattle.std.specs.Prelude.{ℕ, ◌≡◌, ◌≢◌, ◌⊎◌, ◌≤◌, List, [], Contains, Option, Some, None, slice_get, refl, true}
use Rattle.std.proofs.Common.{sym, ap, subst, inl, inr}
use Rattle.base_types.specs.declared.epoch.Epoch.{Epoch}
use Rattle.base_types.specs.declared.id.AttemptId.{AttemptId}
use Rattle.base_types.specs.declared.operation.MinorWrite.{MinorWrite}
use Rattle.base_types.specs.Operations.{read_path, write_path}
use Rattle.base_types.specs.Paths.{overlaps}
use Rattle.model_laws.specs.Members.{Has}
use Rattle.daos_model.specs.declared.durable.Version.{Version}
use Rattle.daos_model.specs.Opening.{Opening}
use Rattle.world_contents.specs.world_commit.attempts.Attempts.{IsOther, leader_of, writes_of}
use Rattle.world_contents.specs.world_commit.attempts.History.{Decided, History, Served, decides}
use Rattle.world_base.specs.declared.target.TargetState.{TargetState}
use Rattle.world_base.specs.declared.world.World.{World}
use Rattle.world_base.specs.Events.{Rules}
use Rattle.world_contents.specs.reads.AnswerLaws.{decides-answers, not-below}
use Rattle.world_contents.specs.reads.DecideLaws.{MayBeDecided, decides-stands, stays-apart}
use Rattle.world_contents.specs.reads.EventLaws.{its-members}
use Rattle.world_contents.specs.reads.Given.{Given}
use Rattle.world_contents.specs.reads.LaterLaws.{IsHeldByAll, held-or-elsewhere, no-target}
use Rattle.world_contents.specs.reads.Reads.{Reads}
use Rattle.world_contents.specs.reads.Versions.{IsWriteAt, Versions}

module _ (r : Rules) (o : Opening) (held : ℕ → List Version) (h : History) (w : World) (x : AttemptId) (e : Epoch) (given : Given r o held w) (may : MayBeDecided r o h x e) (all : IsHeldByAll r w x e) (k : Versions r o held h w) (l : Reads r o h w) where
  members : (m : MinorWrite) (u : ℕ) → IsWriteAt r x u m → (u ≡ leader_of r x) ⊎ IsOther r x u
  members m u at = its-members r o held w given x m u at

  -- no served read above it at a target where it writes
  above : (q : Served) → Has q h.served → (m : MinorWrite) → IsWriteAt r x q.target m → overlaps (write_path m.write) (read_path q.read) ≡ true → q.epoch.0 ≤ e.0
  above q i m at over = by (slice_get w.targets q.target) refl
    where
      by : (s : Option TargetState) → slice_get w.targets q.target ≡ s → q.epoch.0 ≤ e.0
      by (Some s) here =
          not-below r o (held q.target) h q.target s.durable x e q m may (k.stand q.target s here) (held-or-elsewhere r w x e all members q.target s here)
          (λ v j off clash. l.barred q s v i here j off clash) at over
      by None gone = absurd (no-target r w x e all members q.target gone m at)

  pub decision-keeps : Contains w.issued (x, e) → writes_of r x ≢ [] → Versions r o held (decides h x e) w × Reads r o (decides h x e) w
  decision-keeps its some = (
    record {
      stand = λ t s here. decides-stands r o (held t) h t s.durable x e may k.apart (k.stand t s here) (held-or-elsewhere r w x e all members t s here);
      apart = stays-apart r o h x e may k.apart;
      issued = λ y f d. issued y f d;
      written = λ y f d. written y f d;
    },
    record {
      asked = l.asked;
      form = l.form;
      issued = l.issued;
      answers = λ q i. decides-answers r o h x e q may k.apart (above q i) (l.asked q i) (l.form q i) (l.answers q i);
      guarded = l.guarded;
      leased = l.leased;
      barred = l.barred;
      stamps = l.stamps;
    },
  )
    where
      issued : (y : AttemptId) (f : Epoch) → Decided (decides h x e) y f → Contains w.issued (y, f)
      issued y f (inl same) = subst (Contains w.issued) (sym same) its
      issued y f (inr d) = k.issued y f d

      written : (y : AttemptId) (f : Epoch) → Decided (decides h x e) y f → writes_of r y ≢ []
      written y f (inl same) = subst (λ z. writes_of r z ≢ []) (sym (ap (λ i. i.0) same)) some
      written y f (inr d) = k.written y f d
