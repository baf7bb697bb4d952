-- What a target keeps when a run begins stands for the opening, with the snapshots that earlier runs made.
use Rattle.std.specs.Prelude.{ℕ, ◌≡◌, ◌≤◌, ◌||◌, ◌==◌, ◌&&◌, true, nat_lt, ◌+◌, max, [], filter, find, Contains, Some, None, refl}
use Rattle.std.proofs.Common.{inl, sym, ◌∙◌, ap, subst, arith}
use Rattle.std.proofs.lemmas.Bool.Decides.{nat_tests}
use Rattle.base_types.specs.declared.entry.Entry.{Entry}
use Rattle.base_types.specs.declared.epoch.Epoch.{Epoch}
use Rattle.base_types.specs.declared.id.AttemptId.{AttemptId}
use Rattle.base_types.specs.declared.id.ContId.{ContId}
use Rattle.base_types.specs.declared.snapshot.Snap.{Snap}
use Rattle.daos_model.specs.BoolLaws.{and_right, clash}
use Rattle.daos_model.specs.declared.durable.ContRow.{ContRow}
use Rattle.daos_model.specs.declared.durable.Durable.{Durable}
use Rattle.daos_model.specs.Cells.{value_at}
use Rattle.daos_model.specs.Durables.{entry_of, is_entry_of, is_frozen, is_snap_at, row_of}
use Rattle.daos_model.specs.Effect.{effects}
use Rattle.daos_model.specs.Opening.{Opening, top}
use Rattle.daos_model.specs.Versions.{writes_in}
use Rattle.model_laws.specs.Lists.{none-in}
use Rattle.model_laws.specs.MatchLaws.{filter_on}
use Rattle.model_laws.specs.Matches.{Matches, counts_under}
use Rattle.model_laws.specs.Members.{contains-from_has, has-any}
use Rattle.world_base.specs.declared.world.World.{World}
use Rattle.world_base.specs.Events.{Rules}
use Rattle.world_legal.specs.world_commit.attempts.History.{is_decided}
use Rattle.world_legal.specs.world_contents.reads.Transactions.{counts_by, transactions}
use Rattle.world_legal.specs.world_contents.reads.Versions.{VersionsStand, is_own_in}
use Rattle.world_upheld.specs.upheld.BeginStands.{stand-begins}
use Rattle.world_upheld.specs.upheld.Begins.{KeepsSnapshots, KeepsWell, RunBeginsWell, RunBeginsWith, is_settled_version, OpensWith, no_history}

-- without its snapshots it keeps the same rows
pub same-row : (d : Durable) (c : ContId) → row_of (record d { snaps = [] }) c ≡ row_of d c
unfolding row_of
same-row d c = refl

above-is : (a b : ℕ) → (a == b) ≡ true → a ≡ b
above-is a b h = grind (arith, nat_tests)

-- what is frozen is of before the run
pub frozen-before : (o : Opening) (d : Durable) → KeepsWell o d → (c : ContId) (s : Epoch) → is_frozen d c s ≡ true → s.0 ≤ top o
unfolding is_frozen
frozen-before o d k c s is =
    let z = has-any (is_snap_at c s) d.snaps is in
    subst (λ n. n ≤ top o) (above-is z.0.epoch.0 s.0 (and_right (z.0.cont.0 == c.0) (z.0.epoch.0 == s.0) z.2)) (k.early z.0 (contains-from_has d.snaps z.0 z.1))

module _ (r : Rules) (o : Opening) (t : ℕ) (d : Durable) (k : OpensWith r.script.targets t o (record d { snaps = [] })) (S : KeepsSnapshots r.script.targets t o d) where
  -- each snapshot is of before the run
  pub snap-before : (s : Snap) → Contains d.snaps s → s.epoch.0 ≤ top o
  snap-before s i =
      let under = S.floored s i in
      let low : (row_of d s.cont).floor.0 ≤ top o = subst (λ x. x.floor.0 ≤ top o) (same-row d s.cont) (k.floors s.cont).0 in
      omega (arith, under, low)

  -- so it keeps its own well
  pub keeps-well : KeepsWell o d
  keeps-well = record {
    form = S.form;
    done = k.done;
    entries = k.entries;
    lease = k.lease;
    covered = k.covered;
    floors = λ c. (subst (λ x. x.floor.0 ≤ top o) (same-row d c) (k.floors c).0, subst (λ x. x.aggregated.0 ≤ top o) (same-row d c) (k.floors c).1);
    early = snap-before;
    leased = S.leased;
  }

  -- all versions count
  counts-same : (e : ℕ) → filter (counts_under (counts_by no_history) e) d.versions ≡ filter (counts_under is_settled_version e) d.versions
  counts-same e =
      filter_on (counts_under (counts_by no_history) e) (counts_under is_settled_version e) d.versions
      (λ v i. ap (λ b. (b || is_decided no_history v.by) && nat_lt v.epoch.0 e) (k.done v (contains-from_has d.versions v i))
      ∙ ap (λ b. b && nat_lt v.epoch.0 e) (sym (k.done v (contains-from_has d.versions v i))))

  none-kept : {T : Type 0} (x : AttemptId) (e : Entry) → entry_of d x ≡ Some e → T
  unfolding entry_of
  none-kept x e found = let none : entry_of d x ≡ None = ap (find (is_entry_of x)) k.entries in let no : ⊥ = cc in absurd no

  pub versions-stand_first : VersionsStand r o d.versions no_history t d
  versions-stand_first = record {
    form = S.form;
    single = k.single;
    placed = k.placed;
    done = λ v i is. inl i;
    unsettled = λ v i is. clash v.done (k.done v i) is;
    settled = λ x e found. none-kept x e found;
    epochs = λ x e f found. none-kept x e found;
    whole = λ e m i. absurd (none-in d.entries e k.entries i);
    only = λ v i is. clash v.done (k.done v i) is;
    matches =
        λ c. subst
        (λ (x : ContRow). Matches (is_own_in r.script.targets t c) (counts_by no_history) d.versions o.stand (transactions r.script no_history) (max (top o) x.aggregated.0 + 1))
        (same-row d c) (bare.matches c);
    leased = λ v i. (k.covered v i).1;
    aggregated = λ c. subst (λ (x : ContRow). x.aggregated.0 ≤ max (top o) x.floor.0) (same-row d c) (bare.aggregated c);
    clear = λ v i is. clash v.done (k.done v i) is;
    snapshots = record {
      floored = S.floored;
      leased = S.leased;
      kept = λ s m i low is c own. ap (λ vs. value_at (effects (writes_in vs) []) c) (counts-same s.epoch.0) ∙ S.maps s m i is c own;
      given = λ s i high. (let low = snap-before s i in absurd (omega (arith, low, high)));
    };
  }
    where
      bare : VersionsStand r o d.versions no_history t (record d { snaps = [] })
      bare = stand-begins r o t (record d { snaps = [] }) k

-- A run that begins with what the opening stands for begins well.
pub begins-well : (r : Rules) (o : Opening) (w : World) → RunBeginsWith r o w → RunBeginsWell r o w
begins-well r o w B = record {
  targets = B.targets;
  starts = λ t s here. (let b = B.starts t s here in
      record { keeps = keeps-well r o t s.durable b.opens (B.snapshots t s here); free = b.free; floor = b.floor; runs = b.runs; ticks = b.ticks; stamps = b.stamps; leader = b.leader; member = b.member; collecting = b.collecting });
  frozen = B.frozen;
  kept = B.kept;
  enlisted = B.enlisted;
  clients = B.clients;
  messages = B.messages;
  asked = B.asked;
  issued = B.issued;
  lines = B.lines;
}
