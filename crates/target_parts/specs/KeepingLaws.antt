-- What changes of what a target keeps leave as it was.
use Rattle.std.proofs.Common.{ℕ, ◌≡◌, ◌/◌, ◌≤◌, refl, sym, ◌∙◌, ap, subst, Bool, true, false, not, List, [], ◌∷◌, map, find, All, Some, None, arith}
use Rattle.std.specs.Prelude.{if◌then◌else◌}
use Rattle.std.specs.Option.{option_map}
use Rattle.std.proofs.lemmas.List.Elements.{All-cons, All-filter, All-head, All-tail}
use Rattle.base_types.specs.declared.entry.Entry.{Entry}
use Rattle.base_types.specs.declared.entry.Settle.{Settle}
use Rattle.base_types.specs.declared.entry.Settle.TheVariants.{Commit, Abort, Confirm, Forget}
use Rattle.base_types.specs.declared.id.AttemptId.{AttemptId}
use Rattle.base_types.specs.declared.id.ContId.{ContId}
use Rattle.base_types.specs.declared.operation.MinorWrite.{MinorWrite}
use Rattle.base_types.specs.Operations.{read_path}
use Rattle.world_contents.specs.model_laws.Members.{Has, has-from_filter}
use Rattle.base_messages.specs.declared.message.Message.{Message}
use Rattle.base_messages.specs.declared.message.Message.TheVariants.{Fetch}
use Rattle.daos_model.specs.declared.durable.Durable.{Durable}
use Rattle.daos_model.specs.declared.durable.Version.{Version}
use Rattle.daos_model.specs.Answers.{is_before}
use Rattle.daos_model.specs.BoolLaws.{false_of}
use Rattle.daos_model.specs.Changes.{committed_at, confirmed_at, leased, prepared, settled}
use Rattle.daos_model.specs.Durables.{attempt_key, entry_key, entry_of, is_enlisted, same_attempt, version_key}
use Rattle.daos_model.specs.EntryLaws.{entry_of-prepared, same_attempt-itself}
use Rattle.daos_model.specs.Ordered.{put, puts}
use Rattle.daos_model.specs.OrderLaws.{rising-filter}
use Rattle.daos_model.specs.Versions.{done_by, version_of, versions_of}
use Rattle.dtx_base.specs.declared.leading.LeaderMemory.{LeaderMemory}
use Rattle.dtx_base.specs.LeaderLaws.{same-is}
use Rattle.dtx_base.specs.Leading.{forgotten, undecided_attempt}
use Rattle.dtx_base.specs.RowLaws.{row-is, row-map, row-without}
use Rattle.dtx_base.specs.Rows.{itself, without_row}
use Rattle.dtx_leader.specs.dtx_entries.Settling.{entries_settled}
use Rattle.world_contents.specs.world_base.declared.target.TargetMemory.{TargetMemory}
use Rattle.world_contents.specs.world_base.declared.target.TargetPlan.{TargetPlan}
use Rattle.vos_store.specs.Conditions.{CanSettle}
use Rattle.target_parts.specs.Knowing.{AreAsksHere, AreRowsOpen, IsApart, IsAskHere, IsHeard, IsOpenHere, LeadsWell}
use Rattle.world_contents.specs.reads.ChangeLaws.{other-entry}
use Rattle.world_contents.specs.world_base.ChangeLaws.{entries-leased, lease-settled}
use Rattle.world_contents.specs.world_base.DoubtLaws.{IsLedElsewhere}
use Rattle.world_contents.specs.world_base.EntryLaws.{entry-prepared_other}

-- ---- entries

abbrev entry_attempt : Entry → AttemptId
entry_attempt e = e.attempt

-- the entries after a step of an attempt are those that a table has then
pub entries-settled : (a : AttemptId) (step : Settle) (d : Durable) → (settled a step d).entries ≡ entries_settled a step d.entries
unfolding settled entries_settled
entries-settled a Commit d = refl
entries-settled a Abort d = refl
entries-settled a (Confirm t) d = refl
entries-settled a Forget d = refl

confirmed-other : (a : AttemptId) (t : ℕ) (e : Entry) → same_attempt e.attempt a ≡ false → confirmed_at a t e ≡ e
confirmed-other a t e other = by (same_attempt e.attempt a) other refl
  where
    by : (b : Bool) → b ≡ false → same_attempt e.attempt a ≡ b → confirmed_at a t e ≡ e
    by true apart is = absurd (let n : ⊥ = cc in n)
    by false apart is = rw is refl

-- an entry is found as before where a change leaves entries of other attempts as they are
found-mapped : (f : Entry → Entry) (a b : AttemptId) (es : List Entry) (e : Entry) → ((x : Entry) → (f x).attempt ≡ x.attempt) → ((x : Entry) → same_attempt x.attempt a ≡ false → f x ≡ x)
    → (b ≡ a → ⊥) → find (λ x. same_attempt x.attempt b) es ≡ Some e → find (λ x. same_attempt x.attempt b) (map f es) ≡ Some e
found-mapped f a b es e same others apart found =
    let its : e.attempt ≡ b = same-is e.attempt b (row-is entry_attempt b es e found) in
    let other : same_attempt e.attempt a ≡ false = false_of (same_attempt e.attempt a) (λ is. apart (sym its ∙ same-is e.attempt a is)) in
    row-map entry_attempt f same b es ∙ ap (option_map f) found ∙ ap (λ x. Some x) (others e other)

committed-attempt : (a : AttemptId) (x : Entry) → (committed_at a x).attempt ≡ x.attempt
committed-attempt a x = elim (same_attempt x.attempt a) as (λ b. (if b then record x { committed = true } else x).attempt ≡ x.attempt) [ true ↦ refl | false ↦ refl ]

confirmed-attempt : (a : AttemptId) (t : ℕ) (x : Entry) → (confirmed_at a t x).attempt ≡ x.attempt
confirmed-attempt a t x = by (same_attempt x.attempt a) refl
  where
    by : (b : Bool) → same_attempt x.attempt a ≡ b → (confirmed_at a t x).attempt ≡ x.attempt
    by true is = rw is refl
    by false is = rw is refl

-- the entry of an attempt stays where another one is settled
pub entry-settled : (a b : AttemptId) (step : Settle) (d : Durable) (e : Entry) → (b ≡ a → ⊥) → entry_of d b ≡ Some e → entry_of (settled a step d) b ≡ Some e
unfolding entry_of settled
entry-settled a b Commit d e apart here = found-mapped (committed_at a) a b d.entries e (committed-attempt a) (other-entry a) apart here
entry-settled a b Abort d e apart here = row-without entry_attempt b a d.entries apart ∙ here
entry-settled a b (Confirm t) d e apart here = found-mapped (confirmed_at a t) a b d.entries e (confirmed-attempt a t) (confirmed-other a t) apart here
entry-settled a b Forget d e apart here = row-without entry_attempt b a d.entries apart ∙ here

pub open-settled : (me : ℕ) (a b : AttemptId) (step : Settle) (d : Durable) → (b ≡ a → ⊥) → IsOpenHere me b d → IsOpenHere me b (settled a step d)
open-settled me a b step d apart o = record { entry = o.entry; here = entry-settled a b step d o.entry apart o.here; unsettled = o.unsettled; led = o.led }

open-prepared : (me : ℕ) (e : Entry) (ws : List MinorWrite) (b : AttemptId) (d : Durable) → entry_of d e.attempt ≡ None → IsOpenHere me b d → IsOpenHere me b (prepared e ws d)
open-prepared me e ws b d absent o = record {
  entry = o.entry;
  here = entry-prepared_other e ws d b (λ same. let bad : None ≡ Some o.entry = sym absent ∙ (ap (entry_of d) (sym same) ∙ o.here) in let no : ⊥ = cc in no) ∙ o.here;
  unsettled = o.unsettled;
  led = o.led;
}

-- the attempt of an entry that was prepared is prepared here
pub open-new : (me : ℕ) (e : Entry) (ws : List MinorWrite) (d : Durable) → entry_of d e.attempt ≡ None → e.committed ≡ false → e.leader ≡ me → IsOpenHere me e.attempt (prepared e ws d)
open-new me e ws d absent unsettled led = record { entry = e; here = entry_of-prepared e ws d absent; unsettled = unsettled; led = led }

open-leased : (me : ℕ) (b : AttemptId) (lease : ℕ) (d : Durable) → IsOpenHere me b d → IsOpenHere me b (leased lease d)
unfolding leased entry_of
open-leased me b lease d o = record { entry = o.entry; here = o.here; unsettled = o.unsettled; led = o.led }

-- it can be committed, and aborted
pub open-commits : (me : ℕ) (a : AttemptId) (d : Durable) → IsOpenHere me a d → CanSettle a Commit d
open-commits me a d o = record { entry = o.entry; here = o.here; fits = o.unsettled }

pub open-aborts : (me : ℕ) (a : AttemptId) (d : Durable) → IsOpenHere me a d → CanSettle a Abort d
open-aborts me a d o = record { entry = o.entry; here = o.here; fits = o.unsettled }

-- ---- versions

epochs-done : (P : ℕ → Type 0) (a : AttemptId) (vs : List Version) → All (λ v. P v.epoch.0) vs → All (λ v. P v.epoch.0) (map (done_by a) vs)
unfolding done_by
epochs-done P a [] all = λ i x lt. absurd (omega arith)
epochs-done P a (v ∷ vs) all =
    All-cons (λ v. P v.epoch.0) (done_by a v) (map (done_by a) vs) (All-head (λ v. P v.epoch.0) v vs all) (epochs-done P a vs (All-tail (λ v. P v.epoch.0) v vs all))

-- versions keep their epochs
pub epochs-settled : (P : ℕ → Type 0) (a : AttemptId) (step : Settle) (d : Durable) → All (λ v. P v.epoch.0) d.versions → All (λ v. P v.epoch.0) (settled a step d).versions
unfolding settled
epochs-settled P a Commit d all = epochs-done P a d.versions all
epochs-settled P a Abort d all = All-filter _ (λ v. P v.epoch.0) d.versions all
epochs-settled P a (Confirm t) d all = all
epochs-settled P a Forget d all = all

epochs-put : (P : ℕ → Type 0) (v : Version) (us : List Version) → P v.epoch.0 → All (λ u. P u.epoch.0) us → All (λ u. P u.epoch.0) (put version_key v us)
epochs-put P v [] p all = All-cons (λ u. P u.epoch.0) v [] p (λ k d lt. absurd (omega arith))
epochs-put P v (u ∷ us) p all =
    elim (is_before (version_key u) (version_key v)) as (λ b. All (λ u. P u.epoch.0) (if b then u ∷ put version_key v us else v ∷ u ∷ us)) [
      | true ↦ All-cons (λ u. P u.epoch.0) u (put version_key v us) (All-head (λ u. P u.epoch.0) u us all) (epochs-put P v us p (All-tail (λ u. P u.epoch.0) u us all))
      | false ↦ All-cons (λ u. P u.epoch.0) v (u ∷ us) p all
    ]

epochs-puts : (P : ℕ → Type 0) (e : Entry) (ws : List MinorWrite) (us : List Version) → P e.epoch.0 → All (λ u. P u.epoch.0) us → All (λ u. P u.epoch.0) (puts version_key (versions_of e ws) us)
epochs-puts P e [] us p all = all
epochs-puts P e (w ∷ ws) us p all = epochs-put P (version_of e w) (puts version_key (versions_of e ws) us) p (epochs-puts P e ws us p all)

heard-settled : (n : ℕ) (a : AttemptId) (step : Settle) (d : Durable) → IsHeard n d → IsHeard n (settled a step d)
heard-settled n a step d h = record { versions = epochs-settled (λ e. e / 256 ≤ n) a step d h.versions; leased = subst (λ x. n ≤ x) (sym (lease-settled a step d)) h.leased }

heard-prepared : (n : ℕ) (e : Entry) (ws : List MinorWrite) (d : Durable) → e.epoch.0 / 256 ≤ n → IsHeard n d → IsHeard n (prepared e ws d)
unfolding prepared
heard-prepared n e ws d le h = record { versions = epochs-puts (λ x. x / 256 ≤ n) e ws d.versions le h.versions; leased = h.leased }

entries-prepared : (e : Entry) (ws : List MinorWrite) (d : Durable) → (prepared e ws d).entries ≡ put entry_key e d.entries
unfolding prepared
entries-prepared e ws d = refl

later : (old ticks x : ℕ) → old ≤ ticks → x ≤ old → x ≤ ticks
later old ticks x a b = omega arith

heard-leased : (lease : ℕ) (d : Durable) (old ticks : ℕ) → old ≤ ticks → ticks ≤ lease → IsHeard old d → IsHeard ticks (leased lease d)
unfolding leased
heard-leased lease d old ticks rises covers h = record { versions = λ i v lt. later old ticks _ rises (h.versions i v lt); leased = covers }

-- ---- containers

pub enlisted-settled : (a : AttemptId) (step : Settle) (c : ContId) (d : Durable) → is_enlisted (settled a step d) c ≡ is_enlisted d c
unfolding settled is_enlisted
enlisted-settled a Commit c d = refl
enlisted-settled a Abort c d = refl
enlisted-settled a (Confirm t) c d = refl
enlisted-settled a Forget c d = refl

pub enlisted-prepared : (e : Entry) (ws : List MinorWrite) (c : ContId) (d : Durable) → is_enlisted (prepared e ws d) c ≡ is_enlisted d c
unfolding prepared is_enlisted
enlisted-prepared e ws c d = refl

pub enlisted-leased : (lease : ℕ) (c : ContId) (d : Durable) → is_enlisted (leased lease d) c ≡ is_enlisted d c
unfolding leased is_enlisted
enlisted-leased lease c d = refl

-- what a Fetch reads stays here where all containers do
pub ask-stays : (d x : Durable) (m : Message) → ((c : ContId) → is_enlisted x c ≡ is_enlisted d c) → IsAskHere m d → IsAskHere m x
ask-stays d x (Fetch a op group ep first tracker r snapshot) same h = same (read_path r).cont ∙ h
ask-stays d x m same h = absurd h

-- ---- what a target remembers fits

module _ (t : TargetPlan) where
  open-is : (a : AttemptId) (d : Durable) (e : Entry) → entry_of d a ≡ Some e → IsOpenHere t.me a d → (e.committed ≡ false) × (e.leader ≡ t.me)
  open-is a d e here o =
      let same : o.entry ≡ e = let both : Some o.entry ≡ Some e = sym o.here ∙ here in cc in
      (ap (λ x. x.committed) (sym same) ∙ o.unsettled, ap (λ x. x.leader) (sym same) ∙ o.led)

  -- an attempt whose entry isn't open here, led by this target, is apart
  pub apart-unless : (a : AttemptId) (m : LeaderMemory) (d : Durable) → AreRowsOpen t.me m d → (IsOpenHere t.me a d → ⊥) → IsApart a m
  apart-unless a m d r none = record {
    decided = λ i. none (r.decided a i);
    undecided = λ u i same. none (subst (λ x. IsOpenHere t.me x d) same (r.undecided u i));
  }

  -- one is settled that isn't among those that are remembered
  pub leads-settled : (a : AttemptId) (step : Settle) (m : TargetMemory) (es : List Entry) (d : Durable) → IsApart a m.leader → LeadsWell t m es d → LeadsWell t m (entries_settled a step es) (settled a step d)
  leads-settled a step m es d apart k = record {
    entries = ap (entries_settled a step) k.entries ∙ sym (entries-settled a step d);
    rows = record {
      order = k.rows.order;
      decided = λ b i. open-settled t.me a b step d (λ same. apart.decided (subst (λ x. Has x m.leader.decided) same i)) (k.rows.decided b i);
      undecided = λ u i. open-settled t.me a u.attempt step d (apart.undecided u i) (k.rows.undecided u i);
      apart = k.rows.apart;
    };
    heard = heard-settled m.ticks a step d k.heard;
    asks = λ p i. ask-stays d (settled a step d) p.ask (λ c. enlisted-settled a step c d) (k.asks p i);
  }

  -- ---- fewer rows

  other-same : (a : AttemptId) → not (same_attempt a a) ≡ true → ⊥
  other-same a h = let is : same_attempt a a ≡ true = same-itself a in let no : ⊥ = cc in no
    where
      same-itself : (a : AttemptId) → same_attempt a a ≡ true
      same-itself a = same_attempt-itself a

  -- a decided attempt is remembered no more
  pub rows-without_decided : (a : AttemptId) (m : LeaderMemory) (d : Durable) → AreRowsOpen t.me m d → AreRowsOpen t.me (record m { decided = without_row itself a m.decided }) d
  rows-without_decided a m d r = record {
    order = rising-filter attempt_key _ m.decided r.order;
    decided = λ b i. r.decided b (has-from_filter _ m.decided b i).0;
    undecided = r.undecided;
    apart = λ u i j. r.apart u i (has-from_filter _ m.decided u.attempt j).0;
  }

  -- an undecided one is remembered no more
  pub rows-without_undecided : (a : AttemptId) (m : LeaderMemory) (d : Durable) → AreRowsOpen t.me m d → AreRowsOpen t.me (record m { undecided = without_row undecided_attempt a m.undecided }) d
  rows-without_undecided a m d r = record {
    order = r.order;
    decided = r.decided;
    undecided = λ u i. r.undecided u (has-from_filter _ m.undecided u i).0;
    apart = λ u i j. r.apart u (has-from_filter _ m.undecided u i).0 j;
  }

  -- one of which another target tells is remembered no more
  pub forgotten-apart : (a : AttemptId) (m l : LeaderMemory) → l ≡ forgotten a m → IsApart a l
  forgotten-apart a m l is = subst (IsApart a) (sym is) (record {
    decided = λ i. other-same a (has-from_filter _ m.decided a i).1;
    undecided = λ u i same. other-same a (subst (λ x. not (same_attempt x a) ≡ true) same (has-from_filter _ m.undecided u i).1);
  })

  pub leads-forgotten : (a : AttemptId) (m : TargetMemory) (l : LeaderMemory) (es : List Entry) (d : Durable) → l ≡ forgotten a m.leader → LeadsWell t m es d → LeadsWell t (record m { leader = l }) es d
  leads-forgotten a m l es d is k = record {
    entries = k.entries;
    rows = subst (λ x. AreRowsOpen t.me x d) (sym is) (rows-without_decided a (record m.leader { undecided = without_row undecided_attempt a m.leader.undecided }) d (rows-without_undecided a m.leader d k.rows));
    heard = k.heard;
    asks = k.asks;
  }

  pub decided-apart : (a : AttemptId) (m : LeaderMemory) (d : Durable) → AreRowsOpen t.me m d → Has a m.decided → IsApart a (record m { decided = without_row itself a m.decided })
  decided-apart a m d r among = record {
    decided = λ i. other-same a (has-from_filter _ m.decided a i).1;
    undecided = λ u i same. r.apart u i (subst (λ x. Has x m.decided) (sym same) among);
  }

  -- a decided attempt is committed in the store, and remembered no more
  pub leads-decided_settled : (a : AttemptId) (m : TargetMemory) (es : List Entry) (d : Durable) → Has a m.leader.decided → LeadsWell t m es d
      → LeadsWell t (record m { leader = record m.leader { decided = without_row itself a m.leader.decided } }) (entries_settled a Commit es) (settled a Commit d)
  leads-decided_settled a m es d among k =
      leads-settled a Commit (record m { leader = record m.leader { decided = without_row itself a m.leader.decided } }) es d (decided-apart a m.leader d k.rows among)
      (record { entries = k.entries; rows = rows-without_decided a m.leader d k.rows; heard = k.heard; asks = k.asks })

  -- ---- what is stored

  pub leads-prepared : (e : Entry) (ws : List MinorWrite) (m : TargetMemory) (es : List Entry) (d : Durable) → entry_of d e.attempt ≡ None → e.epoch.0 / 256 ≤ m.ticks → LeadsWell t m es d
      → LeadsWell t m (put entry_key e es) (prepared e ws d)
  leads-prepared e ws m es d absent le k = record {
    entries = ap (put entry_key e) k.entries ∙ sym (entries-prepared e ws d);
    rows = record {
      order = k.rows.order;
      decided = λ b i. open-prepared t.me e ws b d absent (k.rows.decided b i);
      undecided = λ u i. open-prepared t.me e ws u.attempt d absent (k.rows.undecided u i);
      apart = k.rows.apart;
    };
    heard = heard-prepared m.ticks e ws d le k.heard;
    asks = λ p i. ask-stays d (prepared e ws d) p.ask (λ c. enlisted-prepared e ws c d) (k.asks p i);
  }

  -- ---- the lease

  pub leads-leased : (lease : ℕ) (d : Durable) (m n : TargetMemory) (es : List Entry) → m.ticks ≤ n.ticks → n.ticks ≤ lease → n.leader ≡ m.leader → n.member ≡ m.member
      → LeadsWell t m es d → LeadsWell t n es (leased lease d)
  leads-leased lease d m n es rises covers leader member k = record {
    entries = k.entries ∙ sym (entries-leased lease d);
    rows = subst (λ l. AreRowsOpen t.me l (leased lease d)) (sym leader) (record {
      order = k.rows.order;
      decided = λ b i. open-leased t.me b lease d (k.rows.decided b i);
      undecided = λ u i. open-leased t.me u.attempt lease d (k.rows.undecided u i);
      apart = k.rows.apart;
    });
    heard = heard-leased lease d m.ticks n.ticks rises covers k.heard;
    asks = subst (λ x. AreAsksHere x (leased lease d)) (sym member) (λ p i. ask-stays d (leased lease d) p.ask (λ c. enlisted-leased lease c d) (k.asks p i));
  }

  -- what is remembered, and the entries that are known, may be told in other words
  pub leads-same : (m n : TargetMemory) (es fs : List Entry) (d : Durable) → n ≡ m → fs ≡ es → LeadsWell t m es d → LeadsWell t n fs d
  leads-same m n es fs d memory entries k = subst (λ x. LeadsWell t x fs d) (sym memory) (subst (λ xs. LeadsWell t m xs d) (sym entries) k)

  -- an attempt that isn't prepared here under this target is apart
  pub elsewhere-apart : (a : AttemptId) (m : TargetMemory) (es : List Entry) (d : Durable) → LeadsWell t m es d → IsLedElsewhere t.me a d → IsApart a m.leader
  elsewhere-apart a m es d k other = apart-unless a m.leader d k.rows (λ o. other o.entry o.here o.led)
