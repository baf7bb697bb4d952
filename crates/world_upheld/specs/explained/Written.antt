-- Versions above the opening are writes of attempts to which their epochs were issued, and what isn't settled there a read may meet.
use Rattle.std.specs.Prelude.{ℕ, ◌≡◌, ◌<◌, ◌⊎◌, ◌==◌, Any, Bool, true, false, slice_get, Some, None, refl, if◌then◌else◌}
use Rattle.std.proofs.Common.{inl, inr, sym, ◌∙◌, ap, subst}
use Rattle.std.proofs.lemmas.Bool.{eqb-true}
use Rattle.base_types.specs.declared.id.AttemptId.{AttemptId}
use Rattle.base_types.specs.Operations.{write_path}
use Rattle.daos_model.specs.Accesses.{minor_writes}
use Rattle.daos_model.specs.declared.durable.Durable.{Durable}
use Rattle.daos_model.specs.declared.durable.Version.{Version}
use Rattle.daos_model.specs.Durables.{entry_of}
use Rattle.daos_model.specs.Opening.{Opening, top}
use Rattle.daos_model.specs.Transactions.{attempt_ops}
use Rattle.daos_model.specs.Versions.{version_path}
use Rattle.dtx_base.specs.Rows.{is_among}
use Rattle.model_laws.specs.Lists.{any-of}
use Rattle.model_laws.specs.Members.{contains-from_has, has-from_contains}
use Rattle.world_legal.specs.world_commit.attempts.Attempts.{IsItsEntry, IsOther, entry_in, leader_of}
use Rattle.world_legal.specs.world_commit.attempts.History.{History}
use Rattle.world_legal.specs.world_commit.attempts.MemberBits.{other-no_leader}
use Rattle.world_legal.specs.world_commit.attempts.Stored.{among-is}
use Rattle.world_base.specs.declared.target.TargetPlan.{TargetPlan}
use Rattle.world_base.specs.declared.target.TargetState.{TargetState}
use Rattle.world_base.specs.declared.world.World.{World}
use Rattle.world_base.specs.Events.{Rules, target_plan}
use Rattle.world_base.specs.Roles.{other_leader, other_leader_of}
use Rattle.base_types.specs.declared.entry.Entry.{Entry}
use Rattle.world_legal.specs.world_causes.causes.Paths.{AreOpen, IsKnown, IsMet, IsOpenStill, IsOthers}
use Rattle.world_legal.specs.world_causes.causes.Premises.{AreWritten}
use Rattle.world_legal.specs.world_causes.causes.Causes.{Stored}
use Rattle.world_owners.specs.Owners.{AllKeepOwn}
use Rattle.world_letters.specs.epochs.Epochs.{Epochs}
use Rattle.world_legal.specs.world_commit.fates.Facts.{Attempts}
use Rattle.world_legal.specs.world_causes.hearing.Going.{EntriesWrite}
use Rattle.world_legal.specs.doubts.Doubts.{Doubts}
use Rattle.world_legal.specs.shown.Open.{led-open}
use Rattle.world_legal.specs.world_causes.outcomes.Outcomes.{Outcomes}
use Rattle.world_legal.specs.world_contents.reads.Versions.{IsPreparedAt, IsVersionOf}

-- the write that a version is
write-of : (r : Rules) (t : ℕ) (v : Version) → IsVersionOf r t v → Any (λ w. write_path w.write ≡ version_path v) (minor_writes 0 (attempt_ops r.script v.by))
write-of r t v k =
    any-of (λ w. write_path w.write ≡ version_path v) (minor_writes 0 (attempt_ops r.script v.by)) k.write
    (has-from_contains (minor_writes 0 (attempt_ops r.script v.by)) k.write k.at.of_it)
    (ap write_path (sym k.same))

leader-found : (p : TargetPlan) (d : Durable) (x : AttemptId) (e : Entry) → entry_of d x ≡ Some e → other_leader p x d ≡ other_leader_of p.me (Some e)
unfolding other_leader
leader-found p d x e found = ap (other_leader_of p.me) found

module _ (r : Rules) (o : Opening) (h : History) (stored : Stored) (w : World) (epochs : Epochs r (top o) w) (attempts : Attempts r h w) (owned : AllKeepOwn r (top o) stored w)
    (t : ℕ) (s : TargetState) (here : slice_get w.targets t ≡ Some s) where
  its-entry : (v : Version) (p : IsPreparedAt s.durable v.by v.epoch) → IsItsEntry r w v.by t p.entry
  its-entry v p = (attempts.on.each v.by).entries.one t p.entry (ap (λ z. entry_in z v.by) here ∙ p.found)

  pub all-written : AreWritten r w.issued (top o) s.durable.versions
  all-written v i above = let k = owned t s here in (k.written v i above, write-of r t v (k.its v i above))

  pub opens-there : Outcomes r h w → EntriesWrite r w → Doubts r h w → AreOpen r.script (target_plan r t) w.lines (top o) s.durable s.memory.leader.decided
  opens-there outcomes writes doubts v i unsettled = record {
    met = by its.place;
    above = subst (λ e. top o < e.0) p.epoch (epochs.above v.by p.entry.epoch (contains-from_has w.issued (v.by, p.entry.epoch) its.issued));
  }
    where
      p : IsPreparedAt s.durable v.by v.epoch
      p = (owned t s here).unsettled v i unsettled

      its : IsItsEntry r w v.by t p.entry
      its = its-entry v p

      led-by : (n : ℕ) → p.entry.leader ≡ n → (n ≡ t → ⊥) → other_leader_of t (Some p.entry) ≡ Some p.entry.leader
      led-by n is off = ap (λ b. if b then None else Some p.entry.leader) (not-led (p.entry.leader == t) refl)
        where
          not-led : (b : Bool) → (p.entry.leader == t) ≡ b → (p.entry.leader == t) ≡ false
          not-led true same = absurd (off (sym is ∙ eqb-true p.entry.leader t same))
          not-led false same = same

      leading : t ≡ leader_of r v.by → (b : Bool) → is_among v.by s.memory.leader.decided ≡ b → IsMet r.script (target_plan r t) w.lines s.durable s.memory.leader.decided v.by
      leading leads true known = IsKnown (among-is v.by s.memory.leader.decided known)
      leading leads false unknown = IsOpenStill (led-open r h w attempts outcomes writes doubts t s here v.by p.entry leads p.found p.open' unknown)

      by : (t ≡ leader_of r v.by) ⊎ IsOther r v.by t → IsMet r.script (target_plan r t) w.lines s.durable s.memory.leader.decided v.by
      by (inl leads) = leading leads (is_among v.by s.memory.leader.decided) refl
      by (inr other) =
          IsOthers p.entry.leader
          (leader-found (target_plan r t) s.durable v.by p.entry p.found ∙ led-by (leader_of r v.by) its.leader (λ same. other-no_leader r v.by t other (sym same)))
