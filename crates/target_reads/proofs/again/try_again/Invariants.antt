use Rattle.world_ended.specs.Asking.{Asked, EndsAsked}
use Rattle.std.proofs.Common.{◌≡◌, ℕ, Option, Some, length}
use Rattle.std.specs.Option.{ForSome}
use Rattle.base_types.specs.declared.entry.Verdict.{Verdict}
use Rattle.base_types.specs.declared.id.AttemptId.{AttemptId}
use Rattle.daos_model.specs.declared.durable.Durable.{Durable}
use Rattle.world_base.specs.declared.target.TargetMemory.{TargetMemory}
use Rattle.world_base.specs.Roles.{is_prepared}
use Rattle.world_base.specs.Turns.{Reached}
use Rattle.world_base.specs.Verdicts.{Freed, VerdictNext}
use Rattle.target_parts.specs.Knowing.{memory_of}
use Rattle.target_parts.specs.Parts.{Now, StillRuns, kept}
use Rattle.target_parts.specs.Standing.{IsTarget}
use Rattle.target_parts.specs.world_contents.posts.Forms.{PostsInForm}
use Rattle.target_reads.specs.Again.{AreHere, AreParkable}
use Rattle.target_reads.proofs.Carrying.{TriedSoFar}
use Rattle.target_reads.proofs.again.try_again.Given as goal

abbrev pub invariant-loop-plan : goal.invariant-loop-plan
invariant-loop-plan g l = record {
  runs : StillRuns (g.S.Store.state l.fn.store) (g.S.Store.state l.store) (g.S.Store.durable l.fn.store) (g.S.Store.durable l.store);
  target : IsTarget l.plan (g.S.Store.state l.store) (g.S.Store.durable l.store) l.knows;
  parkable : AreParkable l.rest.items;
  here : ForSome (g.S.Store.durable l.store) (AreHere l.rest.items);
  once : TriedSoFar l.fn.asks l.fn.posts l.fn.knows.member.memory l.knows.member.memory l.rest.items l.posts;
  posts : PostsInForm l.plan.targets l.fn.knows.leader l.knows.leader l.posts;
  ends : (asked : Asked) → EndsAsked asked l.fn.knows.leader l.knows.leader l.posts;
  reached : (d : Durable) → g.S.Store.durable l.fn.store ≡ Some d → (m : TargetMemory) (reading : ℕ) (a : AttemptId) (ask : Option AttemptId) (v : Verdict)
      → Now (g.S.Store.durable l.store) (g.S.Store.state l.store) (λ k. Reached (VerdictNext is_prepared l.plan m reading a ask v) (Freed l.fn.asks (memory_of l.fn.knows) l.fn.posts) (kept d (g.S.Store.state l.fn.store)) (Freed l.rest.items (memory_of l.knows) l.posts) k);
}

abbrev pub decreases-loop-plan : goal.decreases-loop-plan
decreases-loop-plan g l = length l.rest.items
