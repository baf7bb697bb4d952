-- A run begins with what tells of no stop, and nothing stored; so at each moment what tells of a stop has one, and all is stored once.
use Rattle.world_legal.specs.world_commit.statuses.Events.{told_by}
use Rattle.world_owners.specs.Owners.{AllKeepOwn, keeping-own-begins}
use Rattle.model_laws.specs.Members.{contains-from_has}
use Rattle.world_readers.specs.stamps.Events.{own-begins}
use Rattle.world_readers.specs.stamps.Stamps.{StampsAreOwn}
use Rattle.std.specs.Prelude.{[], refl}
use Rattle.std.proofs.Common.{ap}
use Rattle.daos_model.specs.Opening.{Opening, top}
use Rattle.world_base.specs.declared.world.World.{World}
use Rattle.world_base.specs.Events.{Rules}
use Rattle.world_base.specs.Stops.{Begins, Goes}
use Rattle.world_legal.specs.world_commit.fates.Keeping.{HasNoneYet}
use Rattle.world_legal.specs.reasons.Accounted.{stored_over}
use Rattle.world_legal.specs.reasons.Downs.{downs-begin}
use Rattle.world_legal.specs.reasons.Knowing.{known-begin}
use Rattle.world_legal.specs.world_causes.losses.Beginning.{losses-begin}
use Rattle.world_owners.specs.world_making.losses.RefusalEvents.{freeze-refusals-begin}
use Rattle.world_legal.specs.world_causes.stored.Happening.{storing-begins}
use Rattle.world_upheld.specs.stored.Events.{stored-writes-began}
use Rattle.world_upheld.specs.upheld.Begins.{AreRulesInForm, RunBeginsWell, no_history}
use Rattle.world_upheld.specs.upheld.Events.{grows-with, later-with}
use Rattle.world_upheld.specs.upheld.Runs.{grounds-begin, no-tries}
use Rattle.world_upheld.specs.reasons.Accounted.{AccountedFor, RunsAreAccountedFor, RunsBeginAccountedFor}
use Rattle.world_upheld.specs.reasons.Events.{all-events-keep_accounts}

module _ (r : Rules) (o : Opening) (w : World) (A : AreRulesInForm r) (B : RunBeginsWell r o w) where
  pub none-yet : HasNoneYet no_history w
  none-yet = record {
    none = record {
      decided = refl;
      aborted = refl;
      messages = B.messages;
      targets = λ t s here. (let k = (B.starts t s here).leader in
          record { entries = (B.starts t s here).keeps.entries; undecided = ap (λ m. m.undecided) k; decided = ap (λ m. m.decided) k });
    };
    asked = B.asked;
    quiet = λ t s here off. absurd (off (B.starts t s here).runs);
  }

  owned-begins : AllKeepOwn r (top o) [] w
  owned-begins = keeping-own-begins r (top o) w (λ t s here. (let k = (B.starts t s here).keeps in
      record {
        done = λ v i. k.done v (contains-from_has s.durable.versions v i);
        before = λ v i. (k.covered v (contains-from_has s.durable.versions v i)).0;
        lease = k.form.lease;
      }))

  stamped-begins : StampsAreOwn r w
  stamped-begins = (own-begins r w (λ t s here runs. (B.starts t s here).stamps)).0

  accounts-begin : AccountedFor r o no_history [] w
  accounts-begin = record {
    grounds = grounds-begin r o w A B;
    refusals = freeze-refusals-begin w B.messages;
    losses = losses-begin r no_history w none-yet B.lines;
    downs = downs-begin w B.messages;
    knows = known-begin w (λ t s here. ap (λ m. m.down) (B.starts t s here).leader);
    write = stored-writes-began r;
    once = storing-begins r w B.messages (no-tries r o w A B);
    owned = owned-begins;
    stamped = stamped-begins;
  }

pub accounts-began : RunsBeginAccountedFor
accounts-began r o w A B = accounts-begin r o w A B

pub runs-are_accounted : RunsAreAccountedFor
runs-are_accounted r o w v A B Begins = (no_history, accounts-begin r o w A B)
runs-are_accounted r o w v A B (Goes u x run e) =
    let k = runs-are_accounted r o w u A B run in
    let later = later-with k.0 (told_by e.happens) in
    (later, all-events-keep_accounts r o k.0 later (stored_over r run) u v A k.1 e (grows-with k.0 (told_by e.happens)))
