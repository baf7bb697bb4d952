-- A target that hears a Prepare stores the writes, or shows a later read or write, or that it lacks blocks.
use Rattle.std.specs.Prelude.{ℕ, ◌≡◌, ◌≤◌, ◌<◌, ◌+◌, ◌/◌, ◌++◌, List, [], Contains, Some, None}
use Rattle.std.proofs.Common.{append-nil, sym, subst, arith}
use Rattle.base_types.specs.declared.epoch.Epoch.{Epoch}
use Rattle.base_types.specs.declared.operation.MinorWrite.{MinorWrite}
use Rattle.base_types.specs.declared.outcome.FloorWhy.{FloorWhy}
use Rattle.base_types.specs.declared.outcome.Outcome.{Outcome}
use Rattle.base_types.specs.declared.outcome.Outcome.TheVariants as outcome
use Rattle.base_types.specs.declared.report.Line.{Line}
use Rattle.model_laws.specs.Members.{Has, has-from_contains}
use Rattle.daos_model.specs.Accesses.{minor_writes}
use Rattle.daos_model.specs.Blocks.{blocks}
use Rattle.daos_model.specs.CausesShown.{blocks_at}
use Rattle.daos_model.specs.Durables.{entry_of}
use Rattle.daos_model.specs.Opening.{Opening, top}
use Rattle.daos_model.specs.Order.{told_by}
use Rattle.daos_model.specs.Transactions.{attempt_ops}
use Rattle.world_base.specs.declared.did.Did.{Did}
use Rattle.world_base.specs.declared.request.PrepareRequest.{PrepareRequest}
use Rattle.world_base.specs.declared.target.TargetMemory.{TargetMemory}
use Rattle.world_base.specs.Events.{Rules, target_plan}
use Rattle.world_base.specs.Changes.{Kept}
use Rattle.world_base.specs.Prepares as prepare
use Rattle.world_base.specs.Requests.{with_ticks}
use Rattle.world_base.specs.Turns.{Whole}
use Rattle.world_causes.specs.causes.AtFloors.{HasTarget, IsTarget}
use Rattle.world_causes.specs.causes.Causes.{Dated, Stored, blocks_of_stored, stored_by}
use Rattle.world_causes.specs.causes.CommitTurns.{IsWriting, RefusalShows, lack-shows, refused-shows, space-same, space-stored}
use Rattle.world_causes.specs.causes.Dates.{begun-first, heard-within}
use Rattle.world_causes.specs.causes.Lasting.{stored-more}
use Rattle.world_causes.specs.causes.Paths.{PrepareSoFar, prepare-path}
use Rattle.world_causes.specs.causes.Premises.{AreOfReads}
use Rattle.world_causes.specs.causes.ReadTurns.{meet-more, none-told}
use Rattle.world_causes.specs.causes.Shown.{IsFirstOf, limit_over}
use Rattle.world_causes.specs.causes.Turns.{AllMeet, Leaves}

-- what is known of a Prepare: the writes of an attempt that a target holds, at the epoch that was issued to it; the target keeps no
-- entry of the attempt
pub record IsPrepare (r : Rules) (o : Opening) (issued : Dated) (lines : List Line) (t : ℕ) (old : Kept) (q : PrepareRequest) : Type 0 where
  pub issued_to : Contains issued (q.entry.attempt, q.entry.epoch)
  pub above : top o < q.entry.epoch.0
  pub first : IsFirstOf issued lines q.entry.attempt q.first
  pub its : (w : MinorWrite) → Has w q.writes → Has w (minor_writes 0 (attempt_ops r.script q.entry.attempt))
  pub need : blocks q.writes ≡ blocks_at r.script t q.entry.attempt
  pub unstored : entry_of old.durable q.entry.attempt ≡ None
  pub target : HasTarget r lines q.entry.attempt t

module _ (r : Rules) (o : Opening) (stored : Stored) (issued : Dated) (lines : List Line) (t : ℕ) (opening : Epoch × FloorWhy) (m : TargetMemory) (q : PrepareRequest) (old : Kept)
    (T : IsTarget r o issued lines t opening old) (h : IsPrepare r o issued lines t old q) (ticks : m.ticks ≤ limit_over o lines issued) (parked : AllMeet r issued m.member.parked) (stamps : AreOfReads r issued m.stamps)
    (space : o.free t ≤ old.free + blocks_of_stored r.script t stored) where
  within : q.entry.epoch.0 / 256 ≤ limit_over o lines issued
  within = T.dates q.entry.attempt q.entry.epoch h.issued_to

  -- it is as a request with this epoch
  writing : IsWriting r o issued lines q.entry.attempt (Some q.entry.epoch) q.first q.entry.epoch q.writes
  writing = record {
    dated = record {
      its = subst (λ is. Contains is (q.entry.attempt, q.entry.epoch)) (sym (append-nil issued)) h.issued_to;
      within = subst (λ is. q.entry.epoch.0 / 256 ≤ limit_over o lines is) (sym (append-nil issued)) within;
      above = h.above;
      begun = begun-first issued [] lines q.entry.attempt q.first q.entry.epoch h.first (subst (λ is. Contains is (q.entry.attempt, q.entry.epoch)) (sym (append-nil issued)) h.issued_to);
    };
    its = h.its;
  }

  heard : (with_ticks q.entry.epoch m).ticks ≤ limit_over o lines (issued ++ [])
  heard = subst (λ is. (with_ticks q.entry.epoch m).ticks ≤ limit_over o lines is) (sym (append-nil issued)) (heard-within m.ticks q.entry.epoch.0 (limit_over o lines issued) ticks within)

  -- the leader is told
  acks-left : (k : Kept) (how : Outcome) (left : TargetMemory × Did) → old.free ≤ k.free → RefusalShows r o stored (issued ++ []) lines q.entry.attempt how → left ≡ (with_ticks q.entry.epoch m, prepare.acks q (Some how))
      → Leaves r o stored issued lines t old k left
  acks-left k how left low shown is = subst (Leaves r o stored issued lines t old k) (sym is) (record {
    posts = (
      record {
        shows = stored-more r o (stored_by t old.durable k.durable) stored (issued ++ []) lines q.entry.attempt how shown.shows;
        told = λ n i. shown.told n (has-from_contains (told_by how) n i);
        undecided = λ x by u. absurd u;
        asked = λ x u. absurd u;
        own = λ x u. absurd u;
      },
      tt,
    );
    ticks = heard;
    dated = λ x e i. let no : ⊥ = cc in absurd no;
    space = space-same r.script t stored old k low;
    parked = meet-more r issued [] m.member.parked parked;
  })

  prepare-ends : (s : prepare.PrepareStage) (k : Kept) (left : TargetMemory × Did) → PrepareSoFar q old s k → prepare.PrepareEnds (target_plan r t) opening m q s k left → Leaves r o stored issued lines t old k left
  prepare-ends s k left w (prepare.IsRefused j c z why is) =
      acks-left k (outcome.Restart c) left (let f : old.free ≤ k.free + 0 = w.free in omega (arith, f))
      (refused-shows r o stored issued lines t opening m old q.entry.attempt (Some q.entry.epoch) q.first q.writes T stamps h.target k q.entry.epoch c writing w.conts w.olds why) is
  prepare-ends s k left w (prepare.HasNoSpace j z allowed full is) =
      let low : old.free ≤ k.free = (let f : old.free ≤ k.free + 0 = w.free in omega (arith, f)) in
      acks-left k (outcome.NoSpace t (blocks q.writes) k.free) left low (lack-shows r o stored issued lines t opening m old q.entry.attempt (Some q.entry.epoch) q.first q.writes T stamps h.target k q.entry.epoch writing low full h.need space) is
  prepare-ends s k left w (prepare.IsPrepared j z is) = subst (Leaves r o stored issued lines t old k) (sym is) (record {
    posts = (record { shows = tt; told = λ n i. absurd (none-told n i); undecided = λ x by u. absurd u; asked = λ x u. absurd u; own = λ x u. absurd u }, tt);
    ticks = heard;
    dated = λ x e i. let no : ⊥ = cc in absurd no;
    space = space-stored r.script t stored old k q.entry q.writes h.unstored w.olds w.free h.need;
    parked = meet-more r issued [] m.member.parked parked;
  })

  -- a turn that hears a Prepare
  pub prepare-leaves : (new : Kept) (left : TargetMemory × Did) → Whole (prepare.PrepareNext (target_plan r t) opening m q) (prepare.PrepareEnds (target_plan r t) opening m q) prepare.Heard old new left → Leaves r o stored issued lines t old new left
  prepare-leaves new left w = prepare-ends w.last new left (prepare-path (target_plan r t) opening m q old w.last new w.reached.did w.reached.path) w.ends
