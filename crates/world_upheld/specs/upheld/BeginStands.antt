-- All that holds between any two events of a run holds at its beginning.
use Rattle.std.specs.Prelude.{ℕ, ◌≡◌, ◌≤◌, ◌+◌, ◌||◌, ◌==◌, true, max, nat_le, nat_lt, [], filter, Some, None}
use Rattle.std.specs.List.{find}
use Rattle.std.proofs.Common.{inl, ◌∙◌, ap, arith}
use Rattle.std.proofs.lemmas.Bool.Decides.{nat_tests}
use Rattle.base_types.specs.declared.entry.Entry.{Entry}
use Rattle.base_types.specs.declared.id.AttemptId.{AttemptId}
use Rattle.base_types.specs.declared.id.ContId.{ContId}
use Rattle.model_laws.specs.Dated.{Dated, dated, dated_of, is_from}
use Rattle.model_laws.specs.Lists.{filter-all, none-in}
use Rattle.model_laws.specs.Matches.{Matches, counts_under}
use Rattle.model_laws.specs.Members.{Has, contains-from_has, has-from_contains, has-from_filter, has-from_map}
use Rattle.model_laws.specs.Targets.{is_own}
use Rattle.daos_model.specs.declared.durable.Durable.{Durable}
use Rattle.daos_model.specs.declared.durable.Version.{Version}
use Rattle.daos_model.specs.AsOf.{as_of}
use Rattle.daos_model.specs.BoolLaws.{and_left, both, clash}
use Rattle.daos_model.specs.Cells.{value_at}
use Rattle.daos_model.specs.Durables.{entry_of, is_entry_of, row_of}
use Rattle.daos_model.specs.Effect.{effects}
use Rattle.daos_model.specs.Opening.{Opening, top}
use Rattle.daos_model.specs.Versions.{writes_in}
use Rattle.world_base.specs.Events.{Rules}
use Rattle.world_legal.specs.world_commit.attempts.History.{is_decided}
use Rattle.world_legal.specs.world_contents.reads.Transactions.{counts_by, transactions}
use Rattle.world_legal.specs.world_contents.reads.Versions.{VersionsStand, is_own_in, mark_of}
use Rattle.world_upheld.specs.upheld.Begins.{OpensWith, no_history}

-- ---- what the target keeps

above-not : (mark e : ℕ) → nat_le mark e ≡ true → mark ≤ e
above-not mark e h = grind (arith, nat_tests)

below-is : (e mark : ℕ) → e + 1 ≤ mark → nat_lt e mark ≡ true
below-is e mark h = grind (arith, nat_tests)

under-mark : (e t a : ℕ) → e ≤ t → e + 1 ≤ max t a + 1
under-mark e t a low = omega (arith, low)

module _ (r : Rules) (o : Opening) (u : ℕ) (d : Durable) (k : OpensWith r.script.targets u o d) where
  low : (cont : ContId) (v : Version) → Has v d.versions → v.epoch.0 + 1 ≤ mark_of o d cont
  low cont v i = under-mark v.epoch.0 (top o) (row_of d cont).aggregated.0 (k.covered v (contains-from_has d.versions v i)).0

  none-above : (cont : ContId) (x : Dated) → Has x (filter (is_from (mark_of o d cont)) (dated_of (counts_by no_history) d.versions)) → ⊥
  none-above cont x i =
      let h = has-from_filter (is_from (mark_of o d cont)) (dated_of (counts_by no_history) d.versions) x i in
      let v = has-from_map dated (filter (counts_by no_history) d.versions) x h.0 in
      let under : v.0.epoch.0 + 1 ≤ mark_of o d cont = low cont v.0 (has-from_filter (counts_by no_history) d.versions v.0 v.1).0 in
      let over : mark_of o d cont ≤ x.epoch = above-not (mark_of o d cont) x.epoch h.1 in
      let same : v.0.epoch.0 ≡ x.epoch = ap (λ y. y.epoch) v.2 in
      omega (arith, under, over, same)

  all-count : (cont : ContId) → filter (counts_under (counts_by no_history) (mark_of o d cont)) d.versions ≡ d.versions
  all-count cont = filter-all (counts_under (counts_by no_history) (mark_of o d cont)) d.versions (λ v i. both (counts_by no_history v) (nat_lt v.epoch.0 (mark_of o d cont))
      (ap (λ b. b || is_decided no_history v.by) (k.done v (contains-from_has d.versions v i))) (below-is v.epoch.0 (mark_of o d cont) (low cont v i)))

  matches-begin : (cont : ContId) → Matches (is_own_in r.script.targets u cont) (counts_by no_history) d.versions o.stand (transactions r.script no_history) (mark_of o d cont)
  unfolding as_of
  matches-begin cont = record {
    above = λ c own x about. (
      λ i. absurd (none-above cont x (has-from_contains (filter (is_from (mark_of o d cont)) (dated_of (counts_by no_history) d.versions)) x i)),
      λ i. absurd (has-from_contains [] x i),
    );
    at_mark = λ c own. ap (λ vs. value_at (effects (writes_in vs) []) c) (all-count cont) ∙ k.stands c (and_left (is_own r.script.targets u c) (c.path.cont.0 == cont.0) own);
  }

  -- no entry is found of any attempt
  none-kept : {T : Type 0} (x : AttemptId) (e : Entry) → entry_of d x ≡ Some e → T
  unfolding entry_of
  none-kept x e found = let none : entry_of d x ≡ None = ap (find (is_entry_of x)) k.entries in let no : ⊥ = cc in absurd no

  pub stand-begins : VersionsStand r o d.versions no_history u d
  stand-begins = record {
    form = k.form;
    single = k.single;
    placed = k.placed;
    done = λ v i is. inl i;
    unsettled = λ v i is. clash v.done (k.done v i) is;
    settled = λ x e found. none-kept x e found;
    epochs = λ x e f found. none-kept x e found;
    whole = λ e m i. absurd (none-in d.entries e k.entries i);
    only = λ v i is. clash v.done (k.done v i) is;
    matches = matches-begin;
    leased = λ v i. (k.covered v i).1;
    aggregated = λ cont. let low : (row_of d cont).aggregated.0 ≤ top o = (k.floors cont).1 in omega (arith, low);
    clear = λ v i is. clash v.done (k.done v i) is;
    snapshots = record {
      floored = λ s i. absurd (none-in d.snaps s k.snaps i);
      leased = λ s i. absurd (none-in d.snaps s k.snaps i);
      kept = λ s m i. absurd (none-in d.snaps s k.snaps i);
      given = λ s i. absurd (none-in d.snaps s k.snaps i);
    };
  }
