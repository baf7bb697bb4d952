-- A run begins safely, and each event keeps it so.
use Rattle.std.proofs.Common.{subst, ap}
use Rattle.model_laws.specs.Members.{Has}
use Rattle.world_base.specs.Stops.{Begins, Goes}
use Rattle.world_commit.specs.statuses.Events.{told_by}
use Rattle.world_upheld.specs.below.Legal.{stored_over}
use Rattle.world_upheld.specs.below.Readers.{all-events-keep_fitting, all-events-keep_form, attempts-prepare_own, fitting-begins}
use Rattle.world_upheld.specs.explained.Events.{all-events-keep_explanations}
use Rattle.world_upheld.specs.explained.Runs.{explanations-begin}
use Rattle.world_upheld.specs.hearing.Across.{all-events-go_across}
use Rattle.world_upheld.specs.hearing.Leases.{all-events-keep_covered, all-runs-are_covered}
use Rattle.world_upheld.specs.hearing.Sent.{all-events-keep_sent}
use Rattle.world_upheld.specs.upheld.Containers.{all-events-keep_containers}
use Rattle.world_upheld.specs.upheld.Events.{given-before, grows-with, later-with, nothing_held}
use Rattle.world_upheld.specs.upheld.Runs.{idle, no-tries}
use Rattle.world_closing.specs.safety.Safe.{AllEventsKeepSafety, AllRunsAreSafe, SafetyBegins, SafetyGoesOn}

pub safety-begins : SafetyBegins
safety-begins r o w A B few = record {
  explanations = explanations-begin r o w A B few;
  sent = record { targets = B.targets; letters = λ l i. absurd (subst (Has l) B.messages i) };
  across = record { letters = λ l i. absurd (subst (Has l) B.messages i); asked = λ l i. absurd (subst (Has l) B.asked i) };
  covered = all-runs-are_covered r o w w A B Begins;
  enlisted = B.enlisted;
  forms = λ t s here. (B.starts t s here).keeps.form.writes;
  fitting = fitting-begins r w (record {
    clients = idle r o w A B;
    messages = B.messages;
    waiting = λ s runs t here. ap (λ m. m.parked) (B.starts t s here).member;
    untold = no-tries r o w A B;
  });
}

pub all-events-keep_safety : AllEventsKeepSafety
all-events-keep_safety r o h later stored w v A k e grows =
    let g = k.explanations.reasons.accounted.grounds in
    let given = given-before r o h w g.heard in
    record {
      explanations = all-events-keep_explanations r o h later stored w v A k.explanations e grows;
      sent = all-events-keep_sent r r.script.targets w v g.endings e k.sent;
      across = all-events-go_across r r.script.targets w v k.sent.targets g.endings e k.across;
      covered = all-events-keep_covered r w v e k.covered;
      enlisted = λ t z here c i. (let s = all-events-keep_containers r w v e t z here in s.2 c (k.enlisted t s.0 s.1 c i));
      forms = all-events-keep_form r o nothing_held w v given (attempts-prepare_own r h w g.heard.attempts) e k.forms;
      fitting = all-events-keep_fitting r o nothing_held w v A.some_attempt given g.lines k.forms e k.fitting;
    }

pub safety-goes_on : SafetyGoesOn
safety-goes_on r o h stored w v A k e =
    let grows = grows-with h (told_by e.happens) in
    record { later = later-with h (told_by e.happens); grows = grows; safe = all-events-keep_safety r o h (later-with h (told_by e.happens)) stored w v A k e grows }

pub all-runs-are_safe : AllRunsAreSafe
all-runs-are_safe r o w v A B few Begins = (_, safety-begins r o w A B few)
all-runs-are_safe r o w v A B few (Goes u x run e) =
    let k = all-runs-are_safe r o w u A B few run in
    (later-with k.0 (told_by e.happens), all-events-keep_safety r o k.0 (later-with k.0 (told_by e.happens)) (stored_over r run) u v A k.1 e (grows-with k.0 (told_by e.happens)))
