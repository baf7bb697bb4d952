-- Where what was served and stored lies behind what was answered before, and clocks keep the bound, epochs of attempts that read at no snapshot are in
-- the order of real time.
use Rattle.std.specs.Prelude.{ℕ, ◌≡◌, ◌⊎◌, ◌≤◌, ◌<◌, ◌+◌, ◌*◌, true, not, List, [], ◌∷◌, Contains, slice_get, Option, Some, None, refl}
use Rattle.std.proofs.Common.{sym, ◌∙◌, ap, subst, inl, inr, arith}
use Rattle.std.proofs.lemmas.Bool.{cases_lt}
use Rattle.base_types.specs.declared.epoch.Epoch.{Epoch}
use Rattle.base_types.specs.declared.id.AttemptId.{AttemptId}
use Rattle.base_types.specs.declared.operation.MinorWrite.{MinorWrite}
use Rattle.base_types.specs.declared.operation.Read.{Read}
use Rattle.base_types.specs.declared.outcome.Outcome.TheVariants.{Committed}
use Rattle.base_types.specs.declared.report.Attempt.{Attempt}
use Rattle.base_types.specs.Operations.{read_path, write_path}
use Rattle.base_types.specs.PathLaws.{overlaps-comm}
use Rattle.base_types.specs.Paths.{overlaps}
use Rattle.base_types.specs.Placement.{group_of}
use Rattle.daos_model.specs.declared.cell.Cell.{Cell}
use Rattle.daos_model.specs.declared.durable.Version.{Version}
use Rattle.daos_model.specs.Accesses.{asked_member}
use Rattle.daos_model.specs.Attempts.{has_own_epoch, tries}
use Rattle.daos_model.specs.Forms.{is_write_in_form}
use Rattle.daos_model.specs.Opening.{Opening, top}
use Rattle.daos_model.specs.Prunes.{touches}
use Rattle.daos_model.specs.Transactions.{attempt_ops, read_at}
use Rattle.model_laws.specs.DecidedLaws.{has-all}
use Rattle.model_laws.specs.Members.{Has, contains-from_has, has-cases, has-from_contains}
use Rattle.model_laws.specs.PlaceLaws.{leads-object}
use Rattle.model_laws.specs.TargetLaws.{own-here}
use Rattle.model_laws.specs.Targets.{is_own}
use Rattle.world_upheld.specs.world_commit.attempts.Attempts.{HoldsAt, IsOther, entry_in, leader_of, writes_of}
use Rattle.world_upheld.specs.world_commit.attempts.History.{Decided, History}
use Rattle.world_base.specs.declared.target.TargetState.{TargetState}
use Rattle.world_base.specs.declared.world.World.{World}
use Rattle.world_base.specs.Events.{Rules}
use Rattle.world_upheld.specs.world_letters.epochs.Epochs.{HasLine, IsPast, IsPresent, Epochs, IsIssued}
use Rattle.world_upheld.specs.world_contents.gots.FormLaws.{ops-form, read-askable}
use Rattle.world_upheld.specs.world_contents.gots.Right.{IsAskable}
use Rattle.world_upheld.specs.world_contents.reads.Given.{FitsTargets, Given}
use Rattle.world_upheld.specs.world_contents.reads.MemberLaws.{writes-member}
use Rattle.world_upheld.specs.world_contents.reads.Versions.{IsWriteAt}
use Rattle.world_upheld.specs.below.Standing.{AreExternallyConsistent, BeganAfter, Conflict, HasSmallerEpoch, IsAnsweredBefore, IsAskedAs, IsBehind, IsCommitted, IsFar, IsFarOfFirst, IsLater, IsServedAt, IsStoredBehind, KeepsTheBound, MeetsAt, ReadsAt, WasAnswered, WritesAt, WritesWhere, asked-own, group-is_asked, line-served, meets, members-under, none-has, some-own}
use Rattle.daos_model.specs.BoolLaws.{not_true}
use Rattle.world_upheld.specs.world_letters.clients.Snapshots.{at-same, is_at_snapshot}
use Rattle.world_upheld.specs.world_making.dates.Owning.{own-issued}
use Rattle.world_upheld.specs.order.Passing.{OrderStands}
use Rattle.world_upheld.specs.upheld.Heard.{all-heard_right}
use Rattle.world_upheld.specs.upheld.Upheld.{Upheld}
use Rattle.world_upheld.specs.upheld.Begins.{AreBefore}
use Rattle.world_order.specs.Accesses.{IsAccess, Reads, Writes, access-of, began-after, entry-among, some-key}
use Rattle.world_order.specs.Standing.{StandsInOrder}

-- ---- at a moment of a run

module _ (r : Rules) (o : Opening) (held : ℕ → List Version) (h : History) (v : World) (before : AreBefore o held) (stands : StandsInOrder r o held h v) where
  abbrev all : Upheld r o held h v
  all = stands.upheld

  abbrev order : OrderStands r stands.passed v
  order = stands.order

  abbrev epochs : Epochs r (top o) v
  epochs = all.grounds.heard.epochs

  given : Given r o held v
  given = all-heard_right r o held h v before all.grounds.heard

  -- the epoch of an attempt that reads at no snapshot was issued to it
  shown-issued : (z : Attempt) (e : Epoch) → Contains (tries v.lines) z → has_own_epoch r.script z ≡ true → z.epoch ≡ Some e → IsIssued v z.id e
  shown-issued z e i plain is = own-issued r v z.id e (not_true (is_at_snapshot r z.id) plain) (epochs.shown z e i is)

  -- ---- two attempts

  module _ (x y : Attempt) (there : Contains (tries v.lines) x) (there2 : Contains (tries v.lines) y) (plain : has_own_epoch r.script x ≡ true) (plain2 : has_own_epoch r.script y ≡ true)
      (answered : IsAnsweredBefore (tries v.lines) x y.id) where
    began : BeganAfter (tries v.lines) x y.id
    began = began-after (tries v.lines) x y order.rising there2 answered

    -- they are not one
    never-same : x.id ≡ y.id → ⊥
    never-same same = by (has-cases began.before (began.earlier ∷ []) x (has-from_contains _ x began.told))
      where
        command : x.id.command ≡ y.id.command
        command = ap (λ z. z.command) same

        past : began.earlier.id.command < y.id.command
        past = began.past

        by : Has x began.before ⊎ Has x (began.earlier ∷ []) → ⊥
        by (inl i) =
            let low : x.id.command ≤ began.earlier.id.command = order.rising began.before began.earlier began.after x began.among i (ap (λ z. z.client) same ∙ sym began.own) in
            omega (arith, low, command, past)
        by (inr (inl is)) = let at : x.id.command ≡ began.earlier.id.command = ap (λ (z : Attempt). z.id.command) is in omega (arith, at, command, past)
        by (inr (inr none)) = none

    module _ (bound : KeepsTheBound r.script r.epsilon v.lines) (e f : Epoch) (ex : x.epoch ≡ Some e) (fy : y.epoch ≡ Some f) where
      bounded : (z : Attempt) (g : Epoch) → Contains (tries v.lines) z → z.epoch ≡ Some g → z.id.client ≡ y.id.client → z.id.command ≡ y.id.command → e.0 ≤ g.0 + 256 * r.epsilon
      bounded z g i is client command =
          bound x z e g (record { there = there; plain = plain; epoch = ex })
          (record { there = i; plain = ap not (at-same r z.id y.id client command) ∙ plain2; epoch = is })
          (record { before = answered.before; earlier = answered.earlier; after = answered.after; among = answered.among; own = answered.own ∙ sym client; precedes = λ a j of_it. answered.precedes a j (record { client = of_it.client ∙ client; command = of_it.command ∙ command }); told = answered.told })

      -- an attempt of the command up to this one is not the present one
      not-present : (n : ℕ) → n ≤ y.id.attempt → IsPresent r v (record y.id { attempt = n }) → ⊥
      not-present n low p = by (epochs.past y p.c there2 p.here)
        where
          command : p.c.command ≡ y.id.command
          command = ap (λ z. z.command) p.own

          number : p.a.attempt ≡ n
          number = ap (λ z. z.attempt) p.own

          by : IsPast p.c y.id → ⊥
          by (inl less) = omega (arith, less, command)
          by (inr q) =
              let both : Some q.0 ≡ Some p.a = sym q.1 ∙ p.at in
              let same : q.0 ≡ p.a = cc in
              let at : q.0.attempt ≡ p.a.attempt = ap (λ z. z.attempt) same in
              let less : y.id.attempt < q.0.attempt = q.3 in
              omega (arith, at, less, number, low)

      apart : e.0 ≡ f.0 → ⊥
      apart same =
          let one : e ≡ f = ap made same in
          never-same (epochs.apart x.id y.id f (subst (λ z. Contains v.issued (x.id, z)) one (shown-issued x e there plain ex)) (shown-issued y f there2 plain2 fy))
        where
          made : ℕ → Epoch
          made n = record { 0 = n }

      -- where the other lies behind it, it has the smaller epoch
      smaller : IsBehind r.epsilon v.issued e y.id f → e.0 < f.0
      smaller (IsLater le) = by (cases_lt e.0 f.0)
        where
          by : (e.0 < f.0) ⊎ (f.0 ≤ e.0) → e.0 < f.0
          by (inl lt) = lt
          by (inr ge) = absurd (apart (let low : e.0 ≤ f.0 = le in omega (arith, low, ge)))
      smaller (IsFar far) = let near = bounded y f there2 fy refl refl in absurd (omega (arith, near, far))
      smaller (IsFarOfFirst n first low its far) = absurd (by (epochs.line (record y.id { attempt = n }) first its))
        where
          by : IsPresent r v (record y.id { attempt = n }) ⊎ HasLine v (record y.id { attempt = n }) first → ⊥
          by (inl p) = not-present n low p
          by (inr l) = let near = bounded l.0 first l.1 l.3 (ap (λ z. z.client) l.2) (ap (λ z. z.command) l.2) in let less : first.0 + 256 * r.epsilon < e.0 = far in omega (arith, near, less)

  -- ---- what a committed attempt left

  -- one that writes is decided, at its epoch
  decided : (z : Attempt) (m : MinorWrite) → Contains (tries v.lines) z → z.outcome ≡ Committed → Has m (writes_of r z.id) → (e : Epoch) × (z.epoch ≡ Some e) × Decided h z.id e
  decided z m i committed writes = (all.grounds.outcomes.lines z i (none-has (writes_of r z.id) m writes)).committed committed

  write-form : (x : AttemptId) (m : MinorWrite) → Has m (writes_of r x) → is_write_in_form m.write ≡ true
  write-form x m i = has-all (λ (w : MinorWrite). is_write_in_form w.write ≡ true) (writes_of r x) m (given.forms x).each i

  fit : (x : AttemptId) (m : MinorWrite) → Has m (writes_of r x) → FitsTargets r m.write
  fit x m i = given.fits x m (contains-from_has (writes_of r x) m i)

  -- what a decided attempt stored at a target of a write lies behind
  stored-there : (y : AttemptId) (f : Epoch) (t : ℕ) (n : MinorWrite) → Decided h y f → Has n (writes_of r y) → IsWriteAt r y t n → IsStoredBehind r (tries v.lines) v.issued t y f
  stored-there y f t n d i at = by (writes-member r y t n all.grounds.heard.few (fit y n i) at)
    where
      its : HoldsAt v t y f → IsStoredBehind r (tries v.lines) v.issued t y f
      its holds = at-target (slice_get v.targets t) refl
        where
          attempt : holds.entry.attempt ≡ y
          attempt = ((all.grounds.heard.attempts.on.each y).entries.one t holds.entry holds.found).attempt

          at-target : (z : Option TargetState) → slice_get v.targets t ≡ z → IsStoredBehind r (tries v.lines) v.issued t y f
          at-target None none = let no : ⊥ = cc (holds.found, ap (λ z. entry_in z y) none) in absurd no
          at-target (Some s2) here =
              subst (λ g. IsStoredBehind r (tries v.lines) v.issued t y g) holds.epoch
              (subst (λ a. IsStoredBehind r (tries v.lines) v.issued t a holds.entry.epoch) attempt
              (order.stored t s2 holds.entry here (contains-from_has s2.durable.entries holds.entry (entry-among s2 y holds.entry (sym (ap (λ z. entry_in z y) here) ∙ holds.found)))))

      by : (t ≡ leader_of r y) ⊎ IsOther r y t → IsStoredBehind r (tries v.lines) v.issued t y f
      by (inl leads) = its (subst (λ n. HoldsAt v n y f) (sym leads) ((all.grounds.heard.attempts.on.each y).entries.held_by_leader f d))
      by (inr other) = its ((all.grounds.heard.attempts.on.each y).entries.held_by_others f t d other)

  askable : (x : AttemptId) (op : ℕ) (read : Read) → read_at (attempt_ops r.script x) op ≡ Some read → IsAskable r.script.targets read
  askable x op read is = read-askable r.script.targets r.script.objs (attempt_ops r.script x) op read all.grounds.heard.form.classes (ops-form r.script.targets r.script x all.grounds.heard.form) is

  -- ---- where they meet

  -- a write and a read meet at the member that is asked
  record MeetsRead (m : MinorWrite) (x : AttemptId) (read : Read) : Type 0 where
    t : ℕ
    cell : Cell
    touched : touches cell m.write ≡ true
    own : is_own r.script.targets t cell ≡ true
    asked : ReadsAt r x t read

  meets-read : (m : MinorWrite) (x : AttemptId) (op : ℕ) (read : Read) → is_write_in_form m.write ≡ true → read_at (attempt_ops r.script x) op ≡ Some read → overlaps (write_path m.write) (read_path read) ≡ true → MeetsRead m x read
  meets-read m x op read form is over =
      let c : MeetsAt m.write (read_path read) = meets m.write (read_path read) form over in
      let a : IsAskable r.script.targets read = askable x op read is in
      let key = some-key c.cell.path.dkey c.keyed in
      let g : IsAskedAs (read_path read) r.script.targets (group_of a.obj.class key.0 r.script.targets) = group-is_asked (read_path read) c.cell a.obj key.0 r.script.targets a.of_object a.fits c.under key.1 in
      record {
        t = asked_member a.obj x.command r.script.targets (group_of a.obj.class key.0 r.script.targets);
        cell = c.cell;
        touched = c.touched;
        own = asked-own c.cell a.obj key.0 x.command r.script.targets (leads-object (read_path read) c.cell.path a.obj a.of_object c.under) key.1;
        asked = record { op = op; is_read = is; obj = a.obj; of_object = a.of_object; n = g.n; low = g.low; member = ap (asked_member a.obj x.command r.script.targets) (sym g.same) };
      }

  module _ (bound : KeepsTheBound r.script r.epsilon v.lines) (x y : Attempt) (cx : IsCommitted r.script (tries v.lines) x) (cy : IsCommitted r.script (tries v.lines) y) (answered : IsAnsweredBefore (tries v.lines) x y.id) where
    -- their epochs are in order, where the second lies behind the first
    in-order : (e f : Epoch) → x.epoch ≡ Some e → y.epoch ≡ Some f → IsBehind r.epsilon v.issued e y.id f → HasSmallerEpoch x y
    in-order e f ex fy behind = record { first = e; second = f; its = ex; others = fy; smaller = smaller x y cx.there cy.there cx.plain cy.plain answered bound e f ex fy behind }

    was : (e : Epoch) → x.epoch ≡ Some e → WasAnswered (tries v.lines) x e y.id
    was e ex = record { there = cx.there; committed = cx.committed; epoch = ex; before = began x y cx.there cy.there cx.plain cy.plain answered }

    -- both write
    both-write : (m n : MinorWrite) → Has m (writes_of r x.id) → Has n (writes_of r y.id) → overlaps (write_path m.write) (write_path n.write) ≡ true → HasSmallerEpoch x y
    both-write m n i j over =
        let c : MeetsAt m.write (write_path n.write) = meets m.write (write_path n.write) (write-form x.id m i) over in
        let key = some-key c.cell.path.dkey c.keyed in
        let fits = fit y.id n j in
        let obj = leads-object (write_path n.write) c.cell.path fits.0 fits.1 c.under in
        let t = some-own c.cell fits.0 key.0 r.script.targets obj key.1 in
        let dx = decided x m cx.there cx.committed i in
        let dy = decided y n cy.there cy.committed j in
        let at : IsWriteAt r y.id t.0 n = record { of_it = contains-from_has (writes_of r y.id) n j; here = members-under r.script.targets t.0 c.cell (write_path n.write) fits.0 fits.1 fits.2 t.1 c.under } in
        in-order dx.0 dy.0 dx.1 dy.1
        ((stored-there y.id dy.0 t.0 n dy.2 j at).writes x dx.0 m n (was dx.0 dx.1) (record { of_it = contains-from_has (writes_of r x.id) m i; cell = c.cell; touched = c.touched; own = t.1 }) at (overlaps-comm (write_path n.write) (write_path m.write) ∙ over))

    -- the first writes what the second reads
    writes-read : (m : MinorWrite) (op : ℕ) (read : Read) → Has m (writes_of r x.id) → read_at (attempt_ops r.script y.id) op ≡ Some read → overlaps (write_path m.write) (read_path read) ≡ true → HasSmallerEpoch x y
    writes-read m op read i is over =
        let c : MeetsRead m y.id read = meets-read m y.id op read (write-form x.id m i) is over in
        let dx = decided x m cx.there cx.committed i in
        let q : IsServedAt stands.passed y c.t read = line-served r (record h { served = stands.passed }) v all.grounds.lines stands.gots order.asked y c.t read cy.there cy.committed c.asked in
        in-order dx.0 q.q.epoch dx.1 q.epoch
        (subst (λ z. IsBehind r.epsilon v.issued dx.0 z q.q.epoch) q.by
        (order.served q.q q.among (ap (is_at_snapshot r) q.by ∙ not_true (is_at_snapshot r y.id) cy.plain) x dx.0 m (subst (WasAnswered (tries v.lines) x dx.0) (sym q.by) (was dx.0 dx.1))
        (subst (λ t. WritesAt r x.id t m) (sym q.target) (record { of_it = contains-from_has (writes_of r x.id) m i; cell = c.cell; touched = c.touched; own = c.own }))
        (subst (λ z. overlaps (read_path z) (write_path m.write) ≡ true) (sym q.reads) (overlaps-comm (read_path read) (write_path m.write) ∙ over))))

    -- the second writes what the first read
    read-written : (n : MinorWrite) (op : ℕ) (read : Read) → Has n (writes_of r y.id) → read_at (attempt_ops r.script x.id) op ≡ Some read → overlaps (write_path n.write) (read_path read) ≡ true → HasSmallerEpoch x y
    read-written n op read j is over =
        let c : MeetsRead n x.id read = meets-read n x.id op read (write-form y.id n j) is over in
        let dy = decided y n cy.there cy.committed j in
        let q : IsServedAt h.served x c.t read = line-served r h v all.grounds.lines all.contents.gots all.contents.reads.asked x c.t read cx.there cx.committed c.asked in
        let fits = fit y.id n j in
        let at : IsWriteAt r y.id c.t n = record { of_it = contains-from_has (writes_of r y.id) n j; here = own-here r.script.targets c.t c.cell n.write fits.0 fits.1 fits.2 c.own c.touched } in
        in-order q.q.epoch dy.0 q.epoch dy.1 (IsLater ((stored-there y.id dy.0 c.t n dy.2 j at).reads x q.q.epoch read n (was q.q.epoch q.epoch) c.asked at over))

    first-writes : (z : WritesWhere r.script x y) → HasSmallerEpoch x y
    first-writes z = by (access-of (attempt_ops r.script y.id) z.path z.accesses)
      where
        i : Has z.write (writes_of r x.id)
        i = has-from_contains (writes_of r x.id) z.write z.writes

        by : IsAccess (attempt_ops r.script y.id) z.path → HasSmallerEpoch x y
        by (Reads op read is path) = writes-read z.write op read i is (ap (overlaps (write_path z.write.write)) path ∙ z.over)
        by (Writes n j path) = both-write z.write n i j (ap (overlaps (write_path z.write.write)) path ∙ z.over)

    second-writes : (z : WritesWhere r.script y x) → HasSmallerEpoch x y
    second-writes z = by (access-of (attempt_ops r.script x.id) z.path z.accesses)
      where
        j : Has z.write (writes_of r y.id)
        j = has-from_contains (writes_of r y.id) z.write z.writes

        by : IsAccess (attempt_ops r.script x.id) z.path → HasSmallerEpoch x y
        by (Reads op read is path) = read-written z.write op read j is (ap (overlaps (write_path z.write.write)) path ∙ z.over)
        by (Writes m i path) = both-write m z.write i j (overlaps-comm (write_path m.write) (write_path z.write.write) ∙ ap (overlaps (write_path z.write.write)) path ∙ z.over)

  consistent : KeepsTheBound r.script r.epsilon v.lines → AreExternallyConsistent r.script v.lines
  consistent bound x y cx cy conflict answered = by conflict
    where
      by : Conflict r.script x y → HasSmallerEpoch x y
      by (inl z) = first-writes bound x y cx cy answered z
      by (inr z) = second-writes bound x y cx cy answered z

-- ---- the law

-- lines are externally consistent where this stands and they keep the bound
abbrev pub LinesAreConsistent : Type 0
LinesAreConsistent =
    (r : Rules) (o : Opening) (held : ℕ → List Version) (h : History) (v : World) → AreBefore o held → StandsInOrder r o held h v → KeepsTheBound r.script r.epsilon v.lines
    → AreExternallyConsistent r.script v.lines

pub lines-are_consistent : LinesAreConsistent
lines-are_consistent r o held h v before stands bound = consistent r o held h v before stands bound
