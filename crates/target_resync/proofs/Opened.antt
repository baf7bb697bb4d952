-- What a target knows that has just opened.
use Rattle.std.proofs.Common.{ℕ, ◌≡◌, ◌≤◌, ◌<◌, ◌^◌, ◌-◌, ◌∙◌, refl, sym, ap, subst, min, Bool, true, false, not, List, [], ◌∷◌, filter, Option, Some, None, arith}
use Rattle.std.specs.Prelude.{◌==◌}
use Rattle.std.proofs.lemmas.Bool.Decides.{nat_tests}
use Rattle.base_types.specs.Epochs.{restart_floor}
use Rattle.base_types.specs.declared.entry.Entry.{Entry}
use Rattle.base_types.specs.declared.epoch.Epoch.{Epoch}
use Rattle.base_types.specs.declared.id.AttemptId.{AttemptId}
use Rattle.base_types.specs.declared.outcome.FloorWhy.{FloorWhy}
use Rattle.base_types.specs.declared.outcome.FloorWhy.TheVariants.{Restart}
use Rattle.base_types.specs.declared.report.Line.{Line}
use Rattle.base_types.specs.declared.report.Line.TheVariants as line
use Rattle.base_messages.specs.declared.message.Post.{Post}
use Rattle.model_laws.specs.Members.{Has, has-from_filter, has-from_map}
use Rattle.model_laws.specs.VersionLaws.{rising-mapped}
use Rattle.daos_model.specs.BoolLaws.{and_left, and_right, clash}
use Rattle.daos_model.specs.Changes.{reopened}
use Rattle.daos_model.specs.declared.durable.Durable.{Durable}
use Rattle.daos_model.specs.Durables.{attempt_key, entry_key, entry_of}
use Rattle.daos_model.specs.OrderLaws.{rising-filter}
use Rattle.daos_model.specs.Ordered.{is_rising}
use Rattle.dtx_base.specs.declared.leading.Undecided.{Undecided}
use Rattle.dtx_base.specs.Joining.{MemberOf, first_member}
use Rattle.dtx_base.specs.Leading.{entry_attempt, first_leader, first_memory, is_led, is_open, is_open_alone, reopened_undecided}
use Rattle.dtx_base.specs.Members.{other_members}
use Rattle.dtx_base.specs.Rows.{is_empty}
use Rattle.dtx_resync.specs.Resyncs.{asked-opening, asked_at}
use Rattle.vos_store.specs.Calls.{State}
use Rattle.target_parts.specs.world_commit.attempts.Stored.{found-here}
use Rattle.world_base.specs.declared.did.Did.{Did}
use Rattle.world_base.specs.declared.target.TargetPlan.{TargetPlan}
use Rattle.world_base.specs.Statuses.{opening_memory, opening_posts}
use Rattle.world_base.specs.Stops.{restart_line}
use Rattle.target_parts.specs.declared.knows.Knows.{Knows}
use Rattle.target_parts.specs.Knowing.{AreRowsOpen, IsHeard, IsOpenHere, IsOwn, LeadsWell, memory_of}
use Rattle.target_parts.specs.KnowsLaws.{remembered}
use Rattle.target_parts.specs.Standing.{IsPlaced, IsTarget}
use Rattle.target_resync.specs.Openings.{opening_did, opening_floor}

-- ---- the attempts that it leads

is-not : (b : Bool) → not b ≡ true → b ≡ false
is-not true h = let no : ⊥ = cc in absurd no
is-not false h = refl

open-unsettled : (e : Entry) → is_open e ≡ true → e.committed ≡ false
open-unsettled e is = is-not e.committed (and_left (not e.committed) (not (is_empty (other_members e))) is)

alone-unsettled : (e : Entry) → is_open_alone e ≡ true → e.committed ≡ false
alone-unsettled e is = is-not e.committed (and_left (not e.committed) (is_empty (other_members e)) is)

-- an entry doesn't have other members and none
not-both : (e : Entry) → is_open e ≡ true → is_open_alone e ≡ true → ⊥
not-both e others alone = clash (is_empty (other_members e)) (and_right (not e.committed) (is_empty (other_members e)) alone) (is-not (is_empty (other_members e)) (and_right (not e.committed) (not (is_empty (other_members e))) others))

module _ (me : ℕ) (d : Durable) (rises : is_rising entry_key d.entries ≡ true) where
  abbrev led : List Entry
  led = filter (is_led me) d.entries

  entry-open : (e : Entry) → Has e led → e.committed ≡ false → IsOpenHere me e.attempt d
  entry-open e i settled =
      let here = has-from_filter (is_led me) d.entries e i in
      let leads : (e.leader == me) ≡ true = here.1 in
      record { entry = e; here = found-here d e rises here.0; unsettled = settled; led = grind (arith, nat_tests) }

  -- there is one entry of an attempt
  one-entry : (e f : Entry) → Has e led → Has f led → f.attempt ≡ e.attempt → f ≡ e
  one-entry e f i j same =
      let first : entry_of d e.attempt ≡ Some e = found-here d e rises (has-from_filter (is_led me) d.entries e i).0 in
      let second : entry_of d f.attempt ≡ Some f = found-here d f rises (has-from_filter (is_led me) d.entries f j).0 in
      let both : Some f ≡ Some e = sym second ∙ ap (entry_of d) same ∙ first in
      let is : f ≡ e = cc in is

  pub rows-first : AreRowsOpen me (first_memory (filter (is_led me) d.entries)) d
  rows-first = record {
    order = rising-mapped attempt_key entry_attempt (filter is_open_alone led) ∙ rising-filter entry_key is_open_alone led (rising-filter entry_key (is_led me) d.entries rises);
    decided = λ a i.
        let o = has-from_map entry_attempt (filter is_open_alone led) a i in
        let p = has-from_filter is_open_alone led o.0 o.1 in
        subst (λ (x : AttemptId). IsOpenHere me x d) o.2 (entry-open o.0 p.0 (alone-unsettled o.0 p.1));
    undecided = λ u i.
        let o = has-from_map reopened_undecided (filter is_open led) u i in
        let p = has-from_filter is_open led o.0 o.1 in
        subst (λ (x : Undecided). IsOpenHere me x.attempt d) o.2 (entry-open o.0 p.0 (open-unsettled o.0 p.1));
    apart = λ u i j.
        let o = has-from_map reopened_undecided (filter is_open led) u i in
        let p = has-from_filter is_open led o.0 o.1 in
        let q = has-from_map entry_attempt (filter is_open_alone led) u.attempt j in
        let s = has-from_filter is_open_alone led q.0 q.1 in
        let same = one-entry o.0 q.0 p.0 s.0 (q.2 ∙ sym (ap (λ (x : Undecided). x.attempt) o.2)) in
        not-both o.0 p.1 (subst (λ (x : Entry). is_open_alone x ≡ true) same s.1);
  }

-- ---- what it knows

module _ (t : TargetPlan) (k : Knows) (lease : ℕ) (es : List Entry) (items : k.entries.items ≡ es) (hlc : k.hlc ≡ record { target = t.me; ticks = lease }) (leader : k.leader ≡ first_memory (filter (is_led t.me) es)) (member : k.member ≡ first_member t.me) where
  pub own-first : IsOwn t k
  own-first = record {
    clock = ap (λ c. c.target) hlc;
    member = ap (λ (s : MemberOf). s.me) member;
    parked = λ p i. absurd (subst (λ (s : MemberOf). Has p s.memory.parked) member i);
  }

  module _ (d : Durable) (es-is : es ≡ d.entries) (lease-is : lease ≡ d.lease) where
    pub leads-first : is_rising entry_key d.entries ≡ true → IsHeard d.lease d → LeadsWell t (memory_of k) k.entries.items d
    leads-first rises heard = record {
      entries = items ∙ es-is;
      rows = subst (λ l. AreRowsOpen t.me l d) (sym (leader ∙ ap (λ xs. first_memory (filter (is_led t.me) xs)) es-is)) (rows-first t.me d rises);
      heard = subst (λ n. IsHeard n d) (sym (ap (λ c. c.ticks) hlc ∙ lease-is)) heard;
      asks = λ p i. absurd (subst (λ (s : MemberOf). Has p s.memory.parked) member i);
    }

    pub memory-first : k.stamps.reads ≡ [] → memory_of k ≡ opening_memory t d
    unfolding first_leader
    memory-first stamps =
        ap (λ c. remembered c.ticks k.stamps.reads k.leader k.member.memory) hlc
        ∙ ap (λ n. remembered n k.stamps.reads k.leader k.member.memory) lease-is
        ∙ ap (λ s. remembered d.lease s k.leader k.member.memory) stamps
        ∙ ap (λ l. remembered d.lease [] l k.member.memory) (leader ∙ ap (λ xs. first_memory (filter (is_led t.me) xs)) es-is)
        ∙ ap (λ m. remembered d.lease [] (first_memory (filter (is_led t.me) d.entries)) m.memory) member

-- it stands
pub target-first : (t : TargetPlan) (h s : State) (new : Option Durable) (k : Knows) → IsPlaced t h → t.targets ≤ 64 → s.targets ≡ h.targets → IsOwn t k → ((d : Durable) → new ≡ Some d → LeadsWell t (memory_of k) k.entries.items d) → IsTarget t s new k
target-first t h s new k placed few made own leads = record {
  placed = record { me = placed.me; made = subst (λ n. t.targets ≤ n) (sym made) placed.made };
  few = few;
  own = own;
  leads = λ running. leads;
}

-- ---- what follows

capped : (c n : ℕ) → n ≤ c → min c n ≡ n
capped c n le = omega arith

-- the floor of an opening is a number of 64 bits
floor-fits : (lease : ℕ) → lease < 2 ^ 56 → restart_floor lease ≤ 2 ^ 64 - 1
floor-fits lease within = omega arith

pub floor-is : (lease : ℕ) → lease < 2 ^ 56 → min (2 ^ 64 - 1) (restart_floor lease) ≡ restart_floor lease
floor-is lease within = capped (2 ^ 64 - 1) (restart_floor lease) (floor-fits lease within)

abbrev told : List Post → List Line → Option (AttemptId × Epoch) → Did
told posts lines issued = record { posts = posts; lines = lines; issued = issued }

abbrev line_of : ℕ → ℕ → ℕ → ℕ → Line
line_of n me inc floor = line.Restart n me inc (record { 0 = floor })

module _ (t : TargetPlan) (n : ℕ) (x : Durable) (inc lease : ℕ) (es : List Entry) (did : Did) (inc-is : inc ≡ (reopened x).incarnation) (lease-is : lease ≡ (reopened x).lease) (es-is : es ≡ (reopened x).entries) (within : (reopened x).lease < 2 ^ 56) where
  pub did-first : did.posts ≡ asked_at t.me inc es → did.lines ≡ line_of n t.me inc (min (2 ^ 64 - 1) (restart_floor lease)) ∷ [] → did.issued ≡ None → did ≡ opening_did t n x
  unfolding reopened
  did-first posts lines issued =
      ap (λ ps. told ps did.lines did.issued) (posts ∙ ap (λ i. asked_at t.me i es) inc-is ∙ ap (asked_at t.me (reopened x).incarnation) es-is ∙ asked-opening t (reopened x))
      ∙ ap (λ ls. told (opening_posts t (reopened x)) ls did.issued)
      (lines ∙ ap (λ i. line_of n t.me i (min (2 ^ 64 - 1) (restart_floor lease)) ∷ []) inc-is
      ∙ ap (λ l. line_of n t.me (reopened x).incarnation (min (2 ^ 64 - 1) (restart_floor l)) ∷ []) lease-is
      ∙ ap (λ f. line_of n t.me (reopened x).incarnation f ∷ []) (floor-is x.lease within))
      ∙ ap (told (opening_posts t (reopened x)) (restart_line n t.me x ∷ [])) issued

-- what is found has form, and what it keeps was heard of
pub heard-raised : (d x : Durable) → d ≡ reopened x → IsHeard x.lease x → IsHeard d.lease d
unfolding reopened
heard-raised d x is heard = subst (λ y. IsHeard y.lease y) (sym is) (record { versions = heard.versions; leased = heard.leased })

-- the floor that it opens with
pub opening-is : (o : Epoch × FloorWhy) (n : ℕ) (d x : Durable) → d ≡ reopened x → o.0.0 ≡ restart_floor d.lease → o.1 ≡ Restart n → o ≡ opening_floor n x
unfolding reopened
opening-is o n d x is floor why =
    ap {A = ℕ} {B = Epoch × FloorWhy} (λ f. (record { 0 = f }, o.1)) (floor ∙ ap (λ z. restart_floor z.lease) is)
    ∙ ap {A = FloorWhy} {B = Epoch × FloorWhy} (λ w. (record { 0 = restart_floor x.lease }, w)) why
