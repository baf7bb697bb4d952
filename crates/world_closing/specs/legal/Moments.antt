-- At each moment of any run who reads at a snapshot reads as named, and each attempt was issued an epoch once at most.
use Rattle.std.proofs.Common.{sym, subst}
use Rattle.daos_model.specs.Opening.{Opening, top}
use Rattle.world_commit.specs.attempts.History.{History}
use Rattle.world_base.specs.declared.world.World.{World}
use Rattle.world_base.specs.Events.{Rules}
use Rattle.world_base.specs.Stops.{Begins, Goes, WorldRun}
use Rattle.world_answers.specs.world_causes.causes.Storing.{AreApart, dated_ids}
use Rattle.world_upheld.specs.below.Standing.{ClientsSpeak, decided-issued}
use Rattle.world_upheld.specs.upheld.Begins.{AreRulesInForm, RunBeginsWith}
use Rattle.world_upheld.specs.upheld.Runs.{grounds-begin, runs-have_grounds}
use Rattle.world_upheld.specs.upheld.BeginVersions.{begins-well}
use Rattle.world_upheld.specs.upheld.Upheld.{Grounds}
use Rattle.world_closing.specs.Issued.{all-events-issue_once, IssuedOnce}
use Rattle.world_closing.specs.legal.Following.{HoldsKept, all-events-name, runs-begin_named}
use Rattle.world_closing.specs.legal.Naming.{ReadsNameSnapshots}

-- where target 0 holds, as created, what the opening keeps
abbrev pub RunsNameSnapshots : Type 0
RunsNameSnapshots = (r : Rules) (o : Opening) (w v : World) → AreRulesInForm r → RunBeginsWith r o w → HoldsKept o w → WorldRun r w v → ReadsNameSnapshots r o v

abbrev pub RunsIssueOnce : Type 0
RunsIssueOnce = (r : Rules) (o : Opening) (w v : World) → AreRulesInForm r → RunBeginsWith r o w → WorldRun r w v → IssuedOnce v

-- what clients say, at each moment
speak : (r : Rules) (o : Opening) (h : History) (w : World) → Grounds r o h w → ClientsSpeak r (top o) h w
speak r o h w k = record { talk = k.heard.talk; endings = k.endings; lines = k.lines; epochs = k.heard.epochs; issued = decided-issued r h w k.heard.attempts; outcomes = k.outcomes }

pub runs-name : RunsNameSnapshots
runs-name r o w v A B held Begins = runs-begin_named r o w A B held (grounds-begin r o w A (begins-well r o w B)).heard.freezings
runs-name r o w v A B held (Goes u x run e) =
    let k = runs-have_grounds r o w u A (begins-well r o w B) run in
    all-events-name r o k.0 u v A k.1.heard.attempts (speak r o k.0 u k.1) e (runs-name r o w u A B held run)

pub runs-issue_once : RunsIssueOnce
runs-issue_once r o w v A B Begins = subst (λ is. AreApart (dated_ids is)) (sym B.issued) tt
runs-issue_once r o w v A B (Goes u x run e) =
    let k = runs-have_grounds r o w u A (begins-well r o w B) run in
    all-events-issue_once r (top o) k.0 u v k.1.heard.epochs k.1.heard.attempts e (runs-issue_once r o w u A B run)
