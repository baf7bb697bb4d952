-- Where a run has ended, the targets stand for exactly what took effect by its lines, at their snapshots too.
use Rattle.std.specs.Prelude.{ℕ, ◌≡◌, ◌⊎◌, ◌<◌, ◌≤◌, ◌^◌, true, false, Any, Contains, List, is_some, length, slice_get, Option, Some, None, refl}
use Rattle.std.proofs.Common.{inl, inr, sym, ◌∙◌, ap, subst, arith}
use Rattle.std.proofs.lemmas.Option.{slice_get_within}
use Rattle.base_types.specs.declared.report.Attempt.{Attempt}
use Rattle.model_laws.specs.Decided.{taken_in}
use Rattle.model_laws.specs.DecidedLaws.{all-from_has, has-all}
use Rattle.model_laws.specs.Lists.{any-of}
use Rattle.model_laws.specs.Members.{Has, contains-from_has, has-filter}
use Rattle.daos_model.specs.declared.durable.Version.{Version}
use Rattle.daos_model.specs.declared.stand.SnapMap.{SnapMap}
use Rattle.daos_model.specs.declared.stand.Taken.{Taken}
use Rattle.daos_model.specs.AsOf.{as_of}
use Rattle.daos_model.specs.Attempts.{tries}
use Rattle.daos_model.specs.Family.{resolved, stand}
use Rattle.daos_model.specs.Finals.{IsKept, IsKeptIn, IsNewSnapshot, MayHaveMade, SameMap, StandInTheEnd}
use Rattle.daos_model.specs.Opening.{Given as Run, Opening, top}
use Rattle.daos_model.specs.TookEffect.{took}
use Rattle.daos_model.specs.Transactions.{command_of}
use Rattle.world_commit.specs.attempts.History.{History}
use Rattle.world_base.specs.declared.client.ClientState.{ClientState}
use Rattle.world_base.specs.declared.letter.Letter.{Letter}
use Rattle.world_base.specs.declared.world.World.{World}
use Rattle.world_base.specs.Events.{Rules}
use Rattle.world_base.specs.Letters.{client, is_tell}
use Rattle.world_answers.specs.world_causes.causes.LastCauses.{ids}
use Rattle.world_answers.specs.world_causes.causes.Storing.{AreApart}
use Rattle.world_answers.specs.world_contents.reads.Given.{Given}
use Rattle.world_answers.specs.world_contents.reads.Transactions.{transactions}
use Rattle.world_letters.specs.talks.TalkLaws.{got-is-talk}
use Rattle.world_letters.specs.waits.Premises.{RequestsAreOfClients, is_end}
use Rattle.world_letters.specs.waits.Requests.{is_lost_request}
use Rattle.world_letters.specs.waits.Waits.{Conversation}
use Rattle.world_answers.specs.world_making.freezings.Freezings.{EndComes, Freezings, HasItsLine, IsFated, IsFatedSnap, LossComes}
use Rattle.world_answers.specs.world_making.freezings.InTheEnd.{committed-created}
use Rattle.world_upheld.specs.below.Legal.{durables_of}
use Rattle.world_closing.specs.Rules.{rules_of}
use Rattle.world_upheld.specs.below.Legal.{Concluded, report_over}
use Rattle.world_closing.specs.forming.ReportForms.{try-among}
use Rattle.world_closing.specs.stands.Containers.{parts-same}
use Rattle.world_closing.specs.stands.Created.{IsCreatedThere}
use Rattle.world_closing.specs.stands.Stands.{HoldsOpenings, IsMadeHere}
use Rattle.world_closing.specs.stands.Stores.{AreStores, all-old, all-snaps, created-kept, created-then, now-map, replicas-agree, target-first}
use Rattle.world_closing.specs.stands.Took.{took-same_map}

-- ---- nobody is told any more

-- there is a client for each list of the script, and none is told anything any more
pub record AreAllTold (r : Rules) (v : World) : Type 0 where
  pub clients : length v.clients ≡ length r.script.clients
  pub none : (n : ℕ) (l : Letter) → n < length r.script.clients → Contains v.messages l → l.to ≡ client n → ⊥

module _ (r : Rules) (v : World) (talk : Conversation r v) (told : AreAllTold r v) where
  none-to_client : (l : Letter) → Has l v.messages → is_tell l.message ≡ false → l.to.client ≡ true → ⊥
  none-to_client l i isnt of_client = by (slice_get v.clients l.to.number) refl
    where
      to : l.to ≡ client l.to.number
      to = ap (λ b. record { client = b; number = l.to.number }) of_client

      by : (c : Option ClientState) → slice_get v.clients l.to.number ≡ c → ⊥
      by None gone = subst (Has l) (talk.nobody l.to.number gone).no_letters (has-filter _ v.messages l i (got-is-talk l.to.number l isnt to))
      by (Some c) here =
          let within : l.to.number < length v.clients = slice_get_within v.clients l.to.number c here in
          let clients : length v.clients ≡ length r.script.clients = told.clients in
          told.none l.to.number l (omega (arith, within, clients)) (contains-from_has v.messages l i) to

-- ---- snapshots

-- So each snapshot that target 0 created in this run is that of an attempt with a line, which is committed, or of which its client isn't sure
-- what became.
module _ (r : Rules) (o : Opening) (v : World) (talk : Conversation r v) (requests : RequestsAreOfClients v) (told : AreAllTold r v) (k : Freezings r o v) where
  pub new-made : (k : SnapMap) → top o < k.epoch.0 → IsCreatedThere v k.cont k.epoch → Any (MayHaveMade r.script k) (tries v.lines)
  new-made s high at = by f.fate
    where
      f : IsFatedSnap r v s.cont s.epoch
      f = k.fated at.z s.cont s.epoch at.here at.created high

      by : IsFated v f.x s.epoch → Any (MayHaveMade r.script s) (tries v.lines)
      by (EndComes l i says) = absurd (none-to_client r v talk told l i (ap is_tell says) ((requests.letters l i).end (ap is_end says)))
      by (LossComes l t down c name q i says) = absurd (none-to_client r v talk told l i (ap is_tell says) ((requests.letters l i).lost (ap is_lost_request says)))
      by (HasItsLine a i id epoch how) =
          any-of (MayHaveMade r.script s) (tries v.lines) a (try-among v.lines a i) ((f.snaps.0, record { command = ap (command_of r.script) id ∙ f.snaps.1; issued = epoch }), how)

-- ---- all of it

module _ (g : Run) (held : ℕ → List Version) (h : History) (v : World) (given : Given (rules_of g) g.opening held v) (c : Concluded (rules_of g) g.opening held h v) (k : AreStores (rules_of g) g.opening v)
    (first : HoldsOpenings g.opening v) (low : (s : SnapMap) → Contains g.opening.stand.snaps s → s.epoch.0 ≤ top g.opening) (talk : Conversation (rules_of g) v) (requests : RequestsAreOfClients v)
    (told : AreAllTold (rules_of g) v) (apart : AreApart (ids (tries v.lines))) where
  abbrev r : Rules
  r = rules_of g

  abbrev taken : List Taken
  taken = took g.script (resolved (durables_of v)) v.lines

  same-maps : (e : ℕ) → SameMap (as_of g.opening.stand taken e) (as_of g.opening.stand (taken_in (transactions g.script c.so.later)) e)
  same-maps e = took-same_map r g.opening held h v given.apart c apart e

  -- a snapshot of target 0 is one of the opening, or new
  each-new : (s : SnapMap) → Has s (stand (durables_of v)).snaps → IsKeptIn g.opening.stand.snaps s ⊎ IsNewSnapshot g.script g.opening.stand taken (tries v.lines) s
  each-new s i = elim (has-all (λ x. IsKeptIn g.opening.stand.snaps x ⊎ IsMadeHere r g.opening v (transactions g.script c.so.later) x) (stand (durables_of v)).snaps s (all-snaps r g.opening held h v given c.so k first low) i) [
    | inl kept ↦ inl kept
    | inr made ↦ inr (record {
      map = λ cell. made.map cell ∙ sym (parts-same s.cont (as_of g.opening.stand taken s.epoch.0) (as_of g.opening.stand (taken_in (transactions g.script c.so.later)) s.epoch.0) (same-maps s.epoch.0) cell);
      made = new-made r g.opening v talk requests told k.freezings s made.above (created-then r g.opening held h v given c.so k first low s i);
    })
  ]

  -- and that of each committed attempt is kept
  each-kept : (a : Attempt) → Has a (tries v.lines) → IsKept g.script (stand (durables_of v)).snaps a
  each-kept a i cont epoch makes committed =
      let z = target-first r g.opening held h v given c.so k in
      let created = committed-created r g.opening v k.freezings a cont epoch (contains-from_has (tries v.lines) a i) makes committed z.0 z.1 in
      ap is_some (created-kept r g.opening held h v given c.so k first low cont epoch (record { z = z.0; here = z.1; created = created })).4

  pub stands-last : StandInTheEnd g (durables_of v) (report_over r v)
  stands-last = record {
    now = λ cell. now-map r g.opening held h v given c.so k first low cell ∙ sym (same-maps (2 ^ 64) cell);
    snaps = record {
      old = all-old r g.opening held h v given c.so k first low;
      new = all-from_has (λ s. IsKeptIn g.opening.stand.snaps s ⊎ IsNewSnapshot g.script g.opening.stand taken (tries v.lines) s) (stand (durables_of v)).snaps each-new;
      committed = all-from_has (IsKept g.script (stand (durables_of v)).snaps) (tries v.lines) each-kept;
    };
    agree = replicas-agree r g.opening held h v given c.so k;
  }
