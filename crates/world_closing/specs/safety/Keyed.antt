-- Where names and keys of the script are keys, so are those of what targets keep and of what answers tell, whatever happens.
use Rattle.std.specs.Prelude.{ℕ, ◌≡◌, List, map, refl}
use Rattle.std.proofs.Common.{ap, subst}
use Rattle.base_types.specs.declared.entry.Entry.{Entry}
use Rattle.base_types.specs.declared.id.AttemptId.{AttemptId}
use Rattle.base_types.specs.declared.operation.MinorWrite.{MinorWrite}
use Rattle.base_types.specs.Operations.{write_path}
use Rattle.base_messages.specs.declared.message.Message.{Message}
use Rattle.base_messages.specs.declared.message.Message.TheVariants as message
use Rattle.daos_model.specs.Transactions.{attempt_ops}
use Rattle.daos_model.specs.Versions.{version_path}
use Rattle.model_laws.specs.Decided.{write_of}
use Rattle.model_laws.specs.DecidedLaws.{has-all}
use Rattle.model_laws.specs.Members.{Has, has-from_filter, has-map}
use Rattle.daos_model.specs.Accesses.{minor_writes}
use Rattle.script_traits.specs.Keyed.{HasKeys, ScriptHasKeys, WriteHasKeys}
use Rattle.world_answers.specs.Events.{all-events-keep_answers_in_form, answers-begin_in_form}
use Rattle.world_answers.specs.Requests.{all-events-keep_asks_in_form, asks-are_reads, asks-begin_in_form}
use Rattle.world_answers.specs.Forms.{TargetsHaveKeys}
use Rattle.world_base.specs.declared.world.World.{World}
use Rattle.world_base.specs.Commits.{is_own}
use Rattle.world_base.specs.Events.{Rules, target_plan}
use Rattle.world_base.specs.Stops.{Begins, Goes, WorldEvent}
use Rattle.world_commit.specs.attempts.Attempts.{writes_of}
use Rattle.world_commit.specs.attempts.History.{History}
use Rattle.world_commit.specs.fates.Asked.{AskedRight}
use Rattle.world_commit.specs.fates.Facts.{Attempts}
use Rattle.world_upheld.specs.below.Legal.{stored_over}
use Rattle.world_upheld.specs.below.Owners.{Brings, EventBrings, all-events-keep_versions}
use Rattle.world_answers.specs.KeyLaws.{attempt-keys}
use Rattle.world_upheld.specs.below.Readers.{PreparesCarryOwn, attempts-prepare_own}
use Rattle.world_upheld.specs.upheld.Events.{asked-so}
use Rattle.world_upheld.specs.upheld.Runs.{idle, no-tries}
use Rattle.world_closing.specs.forming.Keys.{minors-keys}
use Rattle.world_closing.specs.safety.Events.{all-runs-are_safe}
use Rattle.world_closing.specs.safety.Safe.{AllEventsKeepKeys, AllRunsAreKeyed, KeysBegin}

-- ---- what is brought

-- the writes of an attempt lie on paths with keys
own-keys : (r : Rules) (x : AttemptId) (m : MinorWrite) → ScriptHasKeys r.script → Has m (writes_of r x) → HasKeys (write_path m.write)
own-keys r x m keys i =
    has-all WriteHasKeys (map write_of (minor_writes 0 (attempt_ops r.script x))) m.write (minors-keys 0 (attempt_ops r.script x) (attempt-keys r.script x keys)) (has-map write_of (minor_writes 0 (attempt_ops r.script x)) m i)

module _ (r : Rules) (h : History) (w v : World) (keys : ScriptHasKeys r.script) (right : AskedRight r h w) (own : PreparesCarryOwn r w) (e : WorldEvent r w v) (t : ℕ) where
  brought-keys : (k : Entry) (ws : List MinorWrite) (m : MinorWrite) → EventBrings r e t k ws → Has m ws → HasKeys (write_path m.write)
  brought-keys k ws m b i = by b.l.message refl b.brings
    where
      by : (q : Message) → b.l.message ≡ q → Brings (target_plan r t) b.s.memory v.issued q k ws → HasKeys (write_path m.write)
      by (message.Commit x ep first tracker all) is brings =
          let new = right.commits b.l x ep first tracker all b.among is in
          own-keys r x m keys (subst (Has m) new.writes (has-from_filter (is_own (target_plan r t)) all m (subst (Has m) brings.writes i)).0)
      by (message.Prepare j first all inc) is brings = own-keys r j.attempt m keys (own b.l j first all inc b.among is m (subst (Has m) brings.1 i))
      by q is none = absurd none

targets-keep_keys : (r : Rules) (h : History) (w v : World) → ScriptHasKeys r.script → AskedRight r h w → Attempts r h w → WorldEvent r w v → TargetsHaveKeys w → TargetsHaveKeys v
targets-keep_keys r h w v keys right attempts e k t s here =
    all-events-keep_versions (λ u. HasKeys (version_path u)) (λ u b k2. k2) r w v e t (brought-keys r h w v keys right (attempts-prepare_own r h w attempts) e t) (λ z at. k t z at) s here

-- ---- the laws

pub keys-begin : KeysBegin
keys-begin r o w A B keys = record {
  targets = keys;
  answers = answers-begin_in_form w B.messages (idle r o w A B) (no-tries r o w A B);
  asks = asks-begin_in_form w B.messages (λ t s here. ap (λ m. m.parked) (B.starts t s here).member);
}

pub all-events-keep_keys : AllEventsKeepKeys
all-events-keep_keys r o h stored w v A keys k e n =
    let g = k.explanations.reasons.accounted.grounds in
    record {
      targets = targets-keep_keys r h w v keys (asked-so r o h w g) g.heard.attempts e n.targets;
      answers = all-events-keep_answers_in_form r w v A.form (asks-are_reads w n.asks) n.targets n.answers e;
      asks = all-events-keep_asks_in_form r w v A.form n.asks e;
    }

pub all-runs-are_keyed : AllRunsAreKeyed
all-runs-are_keyed r o w v A keys B few kept Begins = keys-begin r o w A B kept
all-runs-are_keyed r o w v A keys B few kept (Goes u x run e) =
    let k = all-runs-are_safe r o w u A B few run in
    all-events-keep_keys r o k.0 (stored_over r run) u v A keys k.1 e (all-runs-are_keyed r o w u A keys B few kept run)
