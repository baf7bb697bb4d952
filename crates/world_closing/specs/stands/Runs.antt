-- From its beginning, at each moment, and where it has ended: what the targets of any run stand for, and that they stay sound.
use Rattle.std.specs.Prelude.{◌≡◌, length}
use Rattle.std.proofs.Common.{◌∙◌, ap}
use Rattle.daos_model.specs.Family.{Agree}
use Rattle.daos_model.specs.FormLaws.{length-map}
use Rattle.daos_model.specs.Opening.{Opening, top}
use Rattle.daos_model.specs.Sound.{Sound}
use Rattle.world_commit.specs.attempts.History.{History}
use Rattle.world_base.specs.declared.world.World.{World}
use Rattle.world_base.specs.Ended.{HasEnded}
use Rattle.world_base.specs.Events.{Rules}
use Rattle.world_base.specs.Stops.{WorldRun}
use Rattle.world_answers.specs.world_contents.reads.Given.{Given}
use Rattle.world_upheld.specs.below.Legal.{durables_of}
use Rattle.world_closing.specs.Rules.{rules_of}
use Rattle.world_upheld.specs.below.Standing.{AreAll}
use Rattle.world_upheld.specs.below.Legal.{Resolves, covered-of, runs-as_many}
use Rattle.world_upheld.specs.upheld.Begins.{AreRulesInForm, RunBeginsWith, client_begins, held_at, AreBefore}
use Rattle.world_upheld.specs.upheld.Runs.{held-first, runs-are_upheld}
use Rattle.world_upheld.specs.upheld.Upheld.{Upheld}
use Rattle.world_closing.specs.stands.Covered.{IsWithin, all-runs-stay_within}
use Rattle.world_closing.specs.stands.Ends.{AreAllTold, stands-last}
use Rattle.world_closing.specs.stands.Opening.{first-within, holds-still, kept-then, opening-low}
use Rattle.world_closing.specs.stands.Resolving.{given, resolves}
use Rattle.world_closing.specs.stands.Sounding.{covered-within, is-sound}
use Rattle.world_closing.specs.stands.Stands.{AllEndsStand, AllRunsKeepFloors, AllRunsKeepSound, AllRunsStandForResolved, HoldsOpenings, StandsForAll}
use Rattle.world_closing.specs.stands.Stores.{AreStores, all-frozen, replicas-agree, stands-for_all}

-- ---- at each moment

module _ (r : Rules) (o : Opening) (w v : World) (A : AreRulesInForm r) (B : RunBeginsWith r o w) (run : WorldRun r w v) where
  before : AreBefore o (held_at w)
  before = held-first r o w A B

  upheld : (h : History) × Upheld r o (held_at w) h v
  upheld = runs-are_upheld r o w v A B run

  given-now : Given r o (held_at w) v
  given-now = given r o (held_at w) upheld.0 v A.some_target before upheld.1

  resolves-now : Resolves r o (held_at w) upheld.0 v
  resolves-now = resolves r o (held_at w) upheld.0 v A.some_target before upheld.1

  stores : AreStores r o v
  stores = record {
    form = A.form;
    targets = upheld.1.grounds.heard.many;
    some = A.some_target;
    within = all-runs-stay_within (top o) r w v (first-within r o w A B) run;
    freezings = upheld.1.grounds.heard.freezings;
    old = kept-then r o w A B v run;
  }

  agree : Agree (durables_of v)
  agree = replicas-agree r o (held_at w) upheld.0 v given-now resolves-now stores

  stands : HoldsOpenings o w → StandsForAll r o v
  stands first = stands-for_all r o (held_at w) upheld.0 v given-now resolves-now stores (holds-still r o w A B v run first) (opening-low r o w A B first)

  -- no epoch is above what leases cover, where none was when the run began
  stays-covered : Sound (durables_of w) → AreAll (IsWithin 0) v
  stays-covered sound = all-runs-stay_within 0 r w v (λ t s here. covered-within s.durable (covered-of w sound t s here)) run

  stays-sound : Sound (durables_of w) → Sound (durables_of v)
  stays-sound sound =
      is-sound r o (held_at w) upheld.0 v A.some_target before upheld.1 (stays-covered sound) (λ t z here. all-frozen r o (held_at w) upheld.0 v given-now resolves-now stores t z here) agree

  -- there is a client for each list of the script
  all-clients : length v.clients ≡ length r.script.clients
  all-clients = (runs-as_many r w v run).clients ∙ ap length B.clients ∙ length-map (client_begins r o w) r.script.clients

  all-told : HasEnded r v → AreAllTold r v
  all-told ended = record { clients = all-clients; none = λ n l within i to. ended.to_clients n l within i to }

pub all-runs-stand : AllRunsStandForResolved
all-runs-stand r o w v A B first run = stands r o w v A B run first

pub all-runs-keep_sound : AllRunsKeepSound
all-runs-keep_sound r o w v A B sound run = stays-sound r o w v A B run sound

pub all-runs-keep_floors : AllRunsKeepFloors
all-runs-keep_floors r o w v A B run t s here x i = ((upheld r o w v A B run).1.contents.versions.stand t s here).snapshots.floored x i

-- ---- in the end

pub all-ends-stand : AllEndsStand
all-ends-stand g w v h A B first run ended c apart =
    stands-last g (held_at w) h v (given-now r o w v A B run) c (stores r o w v A B run) (holds-still r o w A B v run first) (opening-low r o w A B first) (upheld r o w v A B run).1.grounds.heard.talk
    (upheld r o w v A B run).1.grounds.heard.requests (all-told r o w v A B run ended) apart
  where
    r : Rules
    r = rules_of g

    o : Opening
    o = g.opening
