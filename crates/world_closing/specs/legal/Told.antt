-- When a run is over, each attempt of which an epoch counts has its line, with that epoch, and lines show their causes.
use Rattle.std.specs.Prelude.{ℕ, ◌≡◌, ◌≤◌, ◌<◌, ◌+◌, ◌++◌, ◌⊎◌, Bool, true, false, is_some, find, List, ◌∷◌, filter, Contains, Option, Some, None, refl, if◌then◌else◌}
use Rattle.std.proofs.Common.{sym, ◌∙◌, ap, subst, inl, inr, arith}
use Rattle.std.proofs.lemmas.List.{map-append}
use Rattle.std.proofs.lemmas.List.Elements.{filter-append}
use Rattle.base_types.specs.declared.epoch.Epoch.{Epoch}
use Rattle.base_types.specs.declared.id.AttemptId.{AttemptId}
use Rattle.base_types.specs.declared.operation.Op.{Op}
use Rattle.base_types.specs.declared.outcome.Cause.TheVariants as cause
use Rattle.base_types.specs.declared.outcome.Outcome.TheVariants as outcome
use Rattle.base_types.specs.declared.path.Path.{Path}
use Rattle.base_types.specs.declared.report.Attempt.{Attempt}
use Rattle.base_types.specs.declared.report.Line.{Line}
use Rattle.base_types.specs.declared.report.Line.TheVariants as line
use Rattle.base_types.specs.declared.script.Command.{Command}
use Rattle.base_types.specs.declared.script.Command.TheVariants.{Aggregate, Run, Skip, Snap, Tell}
use Rattle.base_types.specs.declared.script.OldDecl.{OldDecl}
use Rattle.base_types.specs.Scripts.{IsInForm}
use Rattle.model_laws.specs.Lists.{any-of}
use Rattle.model_laws.specs.Members.{Has, has-cases, has-from_contains, has-from_filter}
use Rattle.model_laws.specs.TargetLaws.{number_same, same_number}
use Rattle.model_reports.specs.Lines.{line-of, one-of-any}
use Rattle.daos_model.specs.Attempts.{is_of_client, snapshot_of, snapshot_or_none, tries, tries_of}
use Rattle.daos_model.specs.BoolLaws.{clash}
use Rattle.daos_model.specs.Laws.{tries-append}
use Rattle.daos_model.specs.Opening.{Given, Opening, top}
use Rattle.daos_model.specs.Order.{AllInTurn, AreInTurn, client_commands}
use Rattle.daos_model.specs.ReadsLegal.{is_named}
use Rattle.daos_model.specs.Snapshots.{IsCreated, Made, StandsFor}
use Rattle.daos_model.specs.Transactions.{command_of}
use Rattle.world_base.specs.declared.world.World.{World}
use Rattle.world_base.specs.Events.{Rules}
use Rattle.world_answers.specs.world_causes.causes.Causes.{Dated, Stored}
use Rattle.world_closing.specs.Issued.{IssuedOnce}
use Rattle.world_answers.specs.world_causes.causes.LastCauses.{stored-are-told}
use Rattle.world_answers.specs.world_causes.causes.Storing.{StoredOnce}
use Rattle.world_letters.specs.clients.Snapshots.{is_at_snapshot}
use Rattle.world_letters.specs.epochs.Epochs.{Epochs, HasLine, IsEpochOf, IsOwn, IsSeen}
use Rattle.world_letters.specs.lines.LastLines.{AreDone}
use Rattle.world_answers.specs.world_making.freezings.Seeing.{found-known}
use Rattle.world_closing.specs.legal.LinesApart.{lines-apart}
use Rattle.world_closing.specs.Rules.{rules_of}
use Rattle.world_upheld.specs.causing.DateLaws.{epoch-once}
use Rattle.world_upheld.specs.causing.Dates.{AreDates, HasItsLine, counted_as, issued-own}
use Rattle.world_closing.specs.Causes.{AllAreTold}
use Rattle.world_closing.specs.Dates.{dates-apart}
use Rattle.world_closing.specs.legal.InOrder.{behind-later, made-before_read}
use Rattle.world_closing.specs.legal.Naming.{ReadsNameSnapshots, ReadsSo, as_lines, lines-of}
use Rattle.world_closing.specs.legal.Snapshots.{issued-line}

some-is : {T : Type 0} {x y : T} → Some x ≡ Some y → x ≡ y
some-is s = cc

-- what counts for who reads at a snapshot is its epoch
counts-so : (r : Rules) (x : AttemptId) (f : Epoch) → is_at_snapshot r x ≡ true → counted_as r 0 x f ≡ f
counts-so r x f at = ap (λ b. if b then record { 0 = f.0 + 0 } else f) at ∙ ap (λ n. record { 0 = n }) (let same : f.0 + 0 ≡ f.0 = omega arith in same)

-- the name of the snapshot at which an attempt reads, and its command
record ReadsBy (r : Rules) (x : AttemptId) : Type 0 where
  name : List ℕ
  reads : snapshot_of r.script x ≡ Some name
  ops : List Op
  turns : List ℕ
  command : command_of r.script x ≡ Some (Run ops turns (Some name))

reads-by : (r : Rules) (x : AttemptId) → is_at_snapshot r x ≡ true → ReadsBy r x
reads-by r x at = by (command_of r.script x) refl at
  where
    by : (o : Option Command) → command_of r.script x ≡ o → is_some (snapshot_or_none o) ≡ true → ReadsBy r x
    by None is on = let no : ⊥ = cc in absurd no
    by (Some (Run ops turns None)) is on = let no : ⊥ = cc in absurd no
    by (Some (Run ops turns (Some name))) is on = record { name = name; reads = ap snapshot_or_none is; ops = ops; turns = turns; command = is }
    by (Some (Snap name cont)) is on = let no : ⊥ = cc in absurd no
    by (Some (Aggregate cont)) is on = let no : ⊥ = cc in absurd no
    by (Some (Tell n)) is on = let no : ⊥ = cc in absurd no
    by (Some (Skip turns)) is on = let no : ⊥ = cc in absurd no

module _ (r : Rules) (o : Opening) (dated : Dated) (v : World) (form : IsInForm r.script.targets r.script) (E : Epochs r (top o) v) (D : AreDates r 0 dated v) (done : AreDone r v) (turn : AllInTurn r.attempts r.script v.lines) (names : ReadsNameSnapshots r o v) where
  -- what a name stands for in the end, it stood for when the line of who reads by it was told
  stood : (before after : List Line) (a : Attempt) (x : ReadsBy r a.id) (e : Epoch) → v.lines ≡ before ++ line.Try a ∷ after → StandsFor r.script o.stand (tries_of a.id.client v.lines) x.name e
      → StandsFor r.script o.stand (tries_of a.id.client before) x.name e
  unfolding tries
  stood before after a x e among t = by (find (is_named x.name) r.script.olds) t
    where
      split : tries_of a.id.client v.lines ≡ tries_of a.id.client before ++ a ∷ tries_of a.id.client after
      split =
          ap (λ ls. tries_of a.id.client ls) among ∙ ap (filter (is_of_client a.id.client)) (tries-append before (line.Try a ∷ after)) ∙ filter-append (is_of_client a.id.client) (tries before) (a ∷ tries after)
          ∙ ap (λ b. tries_of a.id.client before ++ (if b then a ∷ tries_of a.id.client after else tries_of a.id.client after)) (same_number a.id.client)

      its : (c : Attempt) → Has c (tries_of a.id.client v.lines) → Made r.script x.name e c → Has c (tries_of a.id.client before)
      its c i made = where' (has-cases (tries_of a.id.client before) (a ∷ tries_of a.id.client after) c (subst (Has c) split i))
        where
          client : c.id.client ≡ a.id.client
          client = number_same c.id.client a.id.client (has-from_filter (is_of_client a.id.client) (tries v.lines) c i).1

          earlier : c.id.command < a.id.command
          earlier = made-before_read r.script a.id c.id x.ops x.turns x.name made.cont form (sym client) x.command made.snaps.command

          where' : Has c (tries_of a.id.client before) ⊎ Has c (a ∷ tries_of a.id.client after) → Has c (tries_of a.id.client before)
          where' (inl j) = j
          where' (inr (inl same)) = let one : c.id.command ≡ a.id.command = ap (λ y. y.id.command) same in absurd (omega (arith, earlier, one))
          where' (inr (inr j)) =
              let low : a.id.command ≤ c.id.command = behind-later r.attempts a.id.client 0 (client_commands r.script a.id.client) (tries_of a.id.client before) (tries_of a.id.client after) a c
              (subst (λ ts. AreInTurn r.attempts a.id.client 0 (client_commands r.script a.id.client) ts) split (turn a.id.client)) j in
              absurd (omega (arith, earlier, low))

      by : (d : Option OldDecl) → IsCreated r.script o.stand (tries_of a.id.client v.lines) x.name d e → IsCreated r.script o.stand (tries_of a.id.client before) x.name d e
      by (Some d) old = old
      by None made = let c = one-of-any (Made r.script x.name e) (tries_of a.id.client v.lines) made in any-of (Made r.script x.name e) (tries_of a.id.client before) c.0 (its c.0 c.1 c.2) c.2

  -- who reads at a snapshot, and of which the epoch is known, has it in its line
  read-line : (x : AttemptId) (f : Epoch) → is_at_snapshot r x ≡ true → IsEpochOf r v x f → HasItsLine v x → HasLine v x f
  unfolding tries
  read-line x f at its told = by told.0.epoch refl
    where
      b : Attempt
      b = told.0

      reads : ReadsBy r b.id
      reads = reads-by r b.id (subst (λ y. is_at_snapshot r y ≡ true) (sym told.2) at)

      l : (before : List Line) × (after : List Line) × (v.lines ≡ before ++ line.Try b ∷ after)
      l = let z = line-of v.lines b (has-from_contains (tries v.lines) b told.1) in (z.before, z.after, z.among)

      so : ReadsSo r.script o.stand (tries_of b.id.client l.0) reads.name b
      so =
          subst (λ ts. ReadsSo r.script o.stand (filter (is_of_client b.id.client) ts) reads.name b) (lines-of (tries l.0))
          (names.lines (as_lines (tries l.0)) b (as_lines (tries l.1)) split reads.name reads.reads)
        where
          split : as_lines (tries v.lines) ≡ as_lines (tries l.0) ++ line.Try b ∷ as_lines (tries l.1)
          split = ap (λ ls. as_lines (tries ls)) l.2 ∙ ap as_lines (tries-append l.0 (line.Try b ∷ l.1)) ∙ map-append (λ c. line.Try c) (tries l.0) (b ∷ tries l.1)

      -- its client knows one by the name
      known : IsEpochOf r v b.id f → StandsFor r.script o.stand (tries_of b.id.client v.lines) reads.name f
      known (IsOwn i) = clash (is_at_snapshot r b.id) (subst (λ y. is_at_snapshot r y ≡ true) (sym told.2) at) (E.own b.id f i)
      known (IsSeen s) =
          let one : s.name ≡ reads.name = some-is (sym s.reads ∙ reads.reads) in
          let k = found-known s.name s.c.known f s.known in
          subst (λ z. StandsFor r.script o.stand (tries_of b.id.client v.lines) z f) (k.2 ∙ one) (subst (StandsFor r.script o.stand (tries_of b.id.client v.lines) k.0.name) k.3 (names.known b.id.client s.c s.here k.0 k.1))

      of-b : IsEpochOf r v b.id f
      of-b = subst (λ y. IsEpochOf r v y f) (sym told.2) its

      by : (q : Option Epoch) → b.epoch ≡ q → HasLine v x f
      by None none = absurd (so.none none f (stood l.0 l.1 b reads f l.2 (known of-b)))
      by (Some g) own = (b, told.1, told.2, own ∙ ap (λ y. Some y) (epoch-once r (top o) v b.id g f E (E.shown b g told.1 own) of-b))

  -- So each attempt of which an epoch counts has its line, with that.
  pub dated-line : (x : AttemptId) (e : Epoch) → Contains dated (x, e) → HasLine v x e
  dated-line x e i = by (is_at_snapshot r x) refl
    where
      by : (b : Bool) → is_at_snapshot r x ≡ b → HasLine v x e
      by false off = issued-line r (top o) v E done x e (issued-own r 0 dated v D x e off i)
      by true at = elim (D.begun x e i) [
        | inl p ↦ (let none = (done x.client p.c p.here).1 in let now = p.at in let no : ⊥ = cc (none, now) in absurd no)
        | inr told ↦ (let f = D.epochs x e i in subst (HasLine v x) (sym (f.2 ∙ counts-so r x f.0 at)) (read-line x f.0 at f.1 told))
      ]

-- ---- all of it

-- What this stands on: epochs, which of them count, that each was issued once, what was stored; that later reads which causes name were issued
-- their epochs; that clients are done and their lines stand in turn; and that readers of snapshots read as named.
pub record EndsTold (g : Given) (stored : Stored) (dated : Dated) (v : World) : Type 0 where
  pub form : IsInForm g.script.targets g.script
  pub epochs : Epochs (rules_of g) (top g.opening) v
  pub dates : AreDates (rules_of g) 0 dated v
  pub once : IssuedOnce v
  pub stored_once : StoredOnce stored v
  pub later : (before : List Line) (a : Attempt) (after : List Line) (by : AttemptId) (epoch : Epoch) (path : Path) → v.lines ≡ before ++ line.Try a ∷ after → a.outcome ≡ outcome.Restart (cause.ReadLater by epoch path) → Contains v.issued (by, epoch)
  pub done : AreDone (rules_of g) v
  pub in_turn : AllInTurn g.job.attempts g.script v.lines
  pub names : ReadsNameSnapshots (rules_of g) g.opening v

-- Then all are told.
abbrev pub AllEndsAreTold : Type 0
AllEndsAreTold = (g : Given) (stored : Stored) (dated : Dated) (v : World) → EndsTold g stored dated v → AllAreTold g stored dated v

pub ends-are_told : AllEndsAreTold
ends-are_told g stored dated v k = record {
  epochs = k.epochs;
  dates = k.dates;
  told = λ x e i. dated-line (rules_of g) g.opening dated v k.form k.epochs k.dates k.done k.in_turn k.names x e i;
  stored_are = stored-are-told stored v k.stored_once (issued-line (rules_of g) (top g.opening) v k.epochs k.done);
  later = λ a by epoch path i is. (let z = line-of v.lines a i in k.later z.before a z.after by epoch path z.among is);
  in_turn = k.in_turn;
  lines_apart = lines-apart g.job.attempts g.script v.lines k.in_turn;
  dates_apart = dates-apart (rules_of g) dated v k.dates k.once;
  stored_apart = k.stored_once.once;
}
