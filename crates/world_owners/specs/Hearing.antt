-- What every turn of a target makes of what it keeps, whole or cut.
use Rattle.std.specs.Prelude.{ℕ, ◌≡◌, ◌||◌, Bool, true, false, List, Option, refl}
use Rattle.std.proofs.Common.{inl, sym, ap, subst}
use Rattle.base_types.specs.declared.entry.Entry.{Entry}
use Rattle.base_types.specs.declared.epoch.Epoch.{Epoch}
use Rattle.base_types.specs.declared.id.AttemptId.{AttemptId}
use Rattle.base_types.specs.declared.operation.MinorWrite.{MinorWrite}
use Rattle.base_types.specs.declared.outcome.FloorWhy.{FloorWhy}
use Rattle.base_messages.specs.declared.actor.ActorId.{ActorId}
use Rattle.base_messages.specs.declared.message.Message.{Message, more_of-Message}
use Rattle.base_messages.specs.declared.message.Message.TheVariants as message
use Rattle.model_laws.specs.Members.{Has}
use Rattle.world_base.specs.declared.did.Did.{Did}
use Rattle.world_base.specs.declared.target.TargetMemory.{TargetMemory}
use Rattle.world_base.specs.declared.target.TargetPlan.{TargetPlan}
use Rattle.world_base.specs.Changes.{Kept}
use Rattle.world_base.specs.CutTurns.{CommitIsCut, CutTurn, Cutting, HearingIsCut, IdleWorkIsCut, NoneIsDown, OneIsDown, is_stored, none_issued}
use Rattle.world_base.specs.Events.{listed}
use Rattle.world_base.specs.Further.{HearsFurther}
use Rattle.world_base.specs.Prepares as prepare
use Rattle.world_base.specs.Roles.{is_prepared, told_by}
use Rattle.world_base.specs.Statuses.{status_refusal}
use Rattle.world_base.specs.TargetTurns.{Hears, IdlesWhole, commit_request, fetch_request, prepare_request}
use Rattle.world_making.specs.world_causes.showing.Cutting.{commit_stored, hearing_stored}
use Rattle.world_making.specs.world_causes.showing.CutTurns.{is_prepared_stage, is_store_cut, stored_if}
use Rattle.world_making.specs.world_commit.statuses.Heard.{is_of_attempts}
use Rattle.world_making.specs.world_commit.stops.CutEvents.{is_without_snapshots}
use Rattle.world_owners.specs.Changing.{IsLeftOf}
use Rattle.world_owners.specs.Turns.{ack-stores, cut-left, fetch-stores, idle-stores, look-stores, making-cut-left, making-left, mark-stores, marked-stores, query-stores, verdict-stores, whole-left}
use Rattle.world_owners.specs.Becoming.{Becomes, Brings, IsLeft, IsOfCommit, becomes-so}
use Rattle.world_owners.specs.Storing.{commit-cut, commit-leaves, down-cut, down-leaves, prepare-cut, prepare-leaves}

-- what counts as stored then
stored-then : (b : Bool) (t : ℕ) (x : AttemptId) → b ≡ true → Has (t, x) (stored_if b t x)
stored-then true t x on = inl refl
stored-then false t x on = let no : ⊥ = cc in absurd no

module _ (p : TargetPlan) (opening : Epoch × FloorWhy) (m : TargetMemory) (reading : ℕ) (from : ActorId) (old : Kept) where
  pub hears-becomes : (q : Message) (new : Kept) (left : TargetMemory × Did) → Hears p opening m reading from q old new left → Becomes (Brings p m (listed left.1.issued) q) old.durable new.durable
  hears-becomes (message.Fetch x op group ep first tracker r snapshot) new left h = IsLeft (whole-left _ (fetch-stores p m reading (fetch_request x op group ep first tracker r snapshot)) _ _ old new left h)
  hears-becomes (message.Commit x ep first tracker ws) new left h = commit-leaves p opening m reading (commit_request x ep first tracker ws) old from new left h
  hears-becomes (message.Prepare e first ws inc) new left h = prepare-leaves p opening m (prepare_request e first ws inc) old new left h
  hears-becomes (message.Ack x inc refusal) new left h = IsLeft (whole-left _ (ack-stores p m from.number x inc refusal) _ _ old new left h)
  hears-becomes (message.Mark inc marks) new left h = IsLeft (whole-left _ (mark-stores is_prepared) _ _ old new left h)
  hears-becomes (message.Marked inc ids) new left h = IsLeft (whole-left _ (marked-stores p m from.number) _ _ old new left h)
  hears-becomes (message.Query x ask) new left h = IsLeft (whole-left _ query-stores _ _ old new left h)
  hears-becomes (message.Verdict x ask inc v) new left h = IsLeft (whole-left _ (verdict-stores is_prepared p (told_by v x m) reading x ask v) _ _ old new left h)
  hears-becomes q new left h = absurd h

  attempts-left : (number : ℕ) (q : Message) (new : Kept) (left : TargetMemory × Did) → is_of_attempts q ≡ true → HearsFurther number p opening m reading from q old new left → IsLeftOf old.durable new.durable
  attempts-left number (message.Commit x ep first tracker ws) new left ours h = down-leaves p opening m reading (commit_request x ep first tracker ws) old from new left h
  attempts-left number (message.Ask x) new left ours h = whole-left _ look-stores _ _ old new left h
  attempts-left number (message.Status x inc) new left ours h = whole-left _ look-stores _ _ old new left h
  attempts-left number (message.StatusIs x inc how) new left ours h = whole-left _ (ack-stores p m from.number x inc (status_refusal x how)) _ _ old new left h
  attempts-left number (message.Reset' by down place (more_of-Message q rest)) new left ours h = whole-left _ look-stores _ _ old new left h
  attempts-left number (message.Snap x c called tracker) new left ours h = let no : ⊥ = cc in absurd no
  attempts-left number (message.Freeze x c s) new left ours h = let no : ⊥ = cc in absurd no
  attempts-left number (message.Held x refusal) new left ours h = let no : ⊥ = cc in absurd no
  attempts-left number (message.Prune x c tracker e) new left ours h = let no : ⊥ = cc in absurd no
  attempts-left number q new left ours h = absurd h

  pub further-left : (number : ℕ) (q : Message) (new : Kept) (left : TargetMemory × Did) → HearsFurther number p opening m reading from q old new left → IsLeftOf old.durable new.durable
  further-left number q new left h = by (is_of_attempts q) refl
    where
      by : (b : Bool) → is_of_attempts q ≡ b → IsLeftOf old.durable new.durable
      by true ours = attempts-left number q new left ours h
      by false ours = making-left number p opening m reading from q old new left ours h

  -- a turn that was cut
  abbrev StoredInCut : (number : ℕ) (q : Message) (cut : Cutting) → HearingIsCut is_prepared number p opening m reading from q old cut → Entry → List MinorWrite → Type 0
  StoredInCut number q cut h k ws = Brings p m cut.issued q k ws × Has (p.me, k.attempt) (hearing_stored number p opening m reading from q old cut h)

  commit-becomes : (x : AttemptId) (ep first : Option Epoch) (tracker : Epoch) (ws : List MinorWrite) (cut : Cutting) (h : CommitIsCut p opening m reading (commit_request x ep first tracker ws) old cut)
      → Becomes (λ k own. IsOfCommit p m cut.issued (commit_request x ep first tracker ws) k own × Has (p.me, k.attempt) (commit_stored p opening m reading (commit_request x ep first tracker ws) old cut h)) old.durable cut.left.durable
  commit-becomes x ep first tracker ws cut (NoneIsDown up g) =
      becomes-so _ _ old.durable cut.left.durable
      (λ k own b on. (b.0, subst (λ y. Has (p.me, y) (stored_if (is_stored g.last || is_store_cut g.here) p.me x)) (sym (ap (λ e. e.attempt) b.0.entry)) (stored-then (is_stored g.last || is_store_cut g.here) p.me x b.1)))
      (commit-cut p opening m reading (commit_request x ep first tracker ws) old cut g)
  commit-becomes x ep first tracker ws cut (OneIsDown e down is g) = IsLeft (down-cut p opening m reading (commit_request x ep first tracker ws) old cut g)

  prepare-becomes : (e : Entry) (first : Option Epoch) (ws : List MinorWrite) (inc : ℕ) (cut : Cutting) (g : CutTurn (prepare.PrepareNext p opening m (prepare_request e first ws inc)) none_issued p.me prepare.Heard old cut)
      → Becomes (λ k own. ((k ≡ e) × (own ≡ ws)) × Has (p.me, k.attempt) (stored_if (is_prepared_stage g.last || is_store_cut g.here) p.me e.attempt)) old.durable cut.left.durable
  prepare-becomes e first ws inc cut g =
      becomes-so _ _ old.durable cut.left.durable
      (λ k own b on. (b.0, subst (λ y. Has (p.me, y) (stored_if (is_prepared_stage g.last || is_store_cut g.here) p.me e.attempt)) (sym (ap (λ j. j.attempt) b.0.0)) (stored-then (is_prepared_stage g.last || is_store_cut g.here) p.me e.attempt b.1)))
      (prepare-cut p opening m (prepare_request e first ws inc) old cut g)

  attempts-cut : (number : ℕ) (q : Message) (cut : Cutting) → is_without_snapshots q ≡ true → (h : HearingIsCut is_prepared number p opening m reading from q old cut) → Becomes (StoredInCut number q cut h) old.durable cut.left.durable
  attempts-cut number (message.Fetch x op group ep first tracker r snapshot) cut ours h = IsLeft (cut-left _ (fetch-stores p m reading (fetch_request x op group ep first tracker r snapshot)) _ p.me _ old cut h)
  attempts-cut number (message.Commit x ep first tracker ws) cut ours h = commit-becomes x ep first tracker ws cut h
  attempts-cut number (message.Prepare e first ws inc) cut ours h = prepare-becomes e first ws inc cut h
  attempts-cut number (message.Ack x inc refusal) cut ours h = IsLeft (cut-left _ (ack-stores p m from.number x inc refusal) _ p.me _ old cut h)
  attempts-cut number (message.StatusIs x inc how) cut ours h = IsLeft (cut-left _ (ack-stores p m from.number x inc (status_refusal x how)) _ p.me _ old cut h)
  attempts-cut number (message.Mark inc marks) cut ours h = IsLeft (cut-left _ (mark-stores is_prepared) _ p.me _ old cut h)
  attempts-cut number (message.Marked inc ids) cut ours h = IsLeft (cut-left _ (marked-stores p m from.number) _ p.me _ old cut h)
  attempts-cut number (message.Verdict x ask inc v) cut ours h = IsLeft (cut-left _ (verdict-stores is_prepared p (told_by v x m) reading x ask v) _ p.me _ old cut h)
  attempts-cut number (message.Query x ask) cut ours h = IsLeft (cut-left _ query-stores _ p.me _ old cut h)
  attempts-cut number (message.Ask x) cut ours h = IsLeft (cut-left _ look-stores _ p.me _ old cut h)
  attempts-cut number (message.Status x inc) cut ours h = IsLeft (cut-left _ look-stores _ p.me _ old cut h)
  attempts-cut number (message.Reset' by down place asked) cut ours h = IsLeft (cut-left _ look-stores _ p.me _ old cut h)
  attempts-cut number (message.Snap x c name tracker) cut ours h = let no : ⊥ = cc in absurd no
  attempts-cut number (message.Freeze x c s) cut ours h = let no : ⊥ = cc in absurd no
  attempts-cut number (message.Held x refusal) cut ours h = let no : ⊥ = cc in absurd no
  attempts-cut number (message.Prune x c tracker e) cut ours h = let no : ⊥ = cc in absurd no
  attempts-cut number q cut ours h = absurd h

  pub cut-becomes : (number : ℕ) (q : Message) (cut : Cutting) (h : HearingIsCut is_prepared number p opening m reading from q old cut) → Becomes (StoredInCut number q cut h) old.durable cut.left.durable
  cut-becomes number q cut h = by (is_without_snapshots q) refl
    where
      by : (b : Bool) → is_without_snapshots q ≡ b → Becomes (StoredInCut number q cut h) old.durable cut.left.durable
      by true ours = attempts-cut number q cut ours h
      by false ours = IsLeft (making-cut-left is_prepared number p opening m reading from q old cut ours h)

  pub idle-left : (settling : Bool) (new : Kept) (left : TargetMemory × Did) → IdlesWhole settling p m old new left → IsLeftOf old.durable new.durable
  idle-left settling new left h = whole-left _ idle-stores _ _ old new left h

  pub idle-cut-left : (cut : Cutting) → IdleWorkIsCut p.me m old cut → IsLeftOf old.durable cut.left.durable
  idle-cut-left cut h = cut-left _ idle-stores _ p.me _ old cut h
