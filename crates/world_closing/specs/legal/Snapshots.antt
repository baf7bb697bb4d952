-- When a run is over, what its lines tell of snapshots is legal: each comes from an attempt, a committed one stands before its attempt's line, and
-- who reads at one reads as named.
use Rattle.std.specs.Prelude.{ℕ, ◌≡◌, ◌++◌, ◌⊎◌, is_some, true, List, ◌∷◌, filter, find, Contains, Option, Some, None, refl}
use Rattle.std.proofs.Common.{sym, ◌∙◌, ap, subst, inl, inr}
use Rattle.std.proofs.lemmas.List.{map-append}
use Rattle.base_types.specs.declared.epoch.Epoch.{Epoch}
use Rattle.base_types.specs.declared.id.AttemptId.{AttemptId}
use Rattle.base_types.specs.declared.outcome.Outcome.TheVariants as outcome
use Rattle.base_types.specs.declared.report.Attempt.{Attempt}
use Rattle.base_types.specs.declared.report.Line.{Line}
use Rattle.base_types.specs.declared.report.Line.TheVariants as line
use Rattle.base_types.specs.declared.script.OldDecl.{OldDecl}
use Rattle.base_types.specs.declared.script.Script.{Script}
use Rattle.base_types.specs.Scripts.{IsInForm}
use Rattle.model_laws.specs.DecidedLaws.{all-from_has}
use Rattle.model_laws.specs.Lists.{any-of}
use Rattle.model_laws.specs.Members.{Has, contains-from_has, has-filter, has-from_contains, has-from_filter, has-left}
use Rattle.model_laws.specs.TargetLaws.{number_same}
use Rattle.model_reports.specs.Lines.{one-of-any}
use Rattle.daos_model.specs.declared.stand.Stand.{Stand}
use Rattle.daos_model.specs.Attempts.{EachTry, is_of_client, is_restart, snapshot_of, tries, tries_of}
use Rattle.daos_model.specs.Laws.{tries-append}
use Rattle.daos_model.specs.Opening.{Opening, top}
use Rattle.daos_model.specs.Order.{AllInTurn, client_commands}
use Rattle.daos_model.specs.ReadsLegal.{is_named}
use Rattle.daos_model.specs.Snapshots.{Aggregates, ComesFrom, IsCreated, IsSnapshotRead, Made, MakesSnapshot, MakesSnapshotAt, NoneLegal, SnapshotIsThere, SnapshotsLegal, StandsFor}
use Rattle.daos_model.specs.Transactions.{command_of}
use Rattle.world_base.specs.declared.world.World.{World}
use Rattle.world_base.specs.Events.{Rules}
use Rattle.world_upheld.specs.below.Legal.{among-tries}
use Rattle.world_letters.specs.epochs.Epochs.{Epochs, HasLine, IsPresent}
use Rattle.world_letters.specs.lines.LastLines.{AreDone}
use Rattle.world_letters.specs.snapshots.Makings.{ComesOf, Makings}
use Rattle.world_answers.specs.world_making.freezings.Freezings.{Freezings}
use Rattle.world_closing.specs.legal.Names.{ends-once, made-by_one}
use Rattle.world_closing.specs.legal.Naming.{ReadsNameSnapshots, ReadsSo, as_lines, lines-of}

-- ---- where clients are done

-- where clients are done each attempt to which an epoch was issued has its line, with that
pub issued-line : (r : Rules) (n : ℕ) (v : World) → Epochs r n v → AreDone r v → (x : AttemptId) (e : Epoch) → Contains v.issued (x, e) → HasLine v x e
issued-line r n v E done x e i = by (E.line x e i)
  where
    by : IsPresent r v x ⊎ HasLine v x e → HasLine v x e
    by (inl p) = let none = (done x.client p.c p.here).1 in let at = p.at in let no : ⊥ = cc (none, at) in absurd no
    by (inr l) = l

-- ---- lines come from attempts

module _ (r : Rules) (v : World) (line-of : (x : AttemptId) (e : Epoch) → Contains v.issued (x, e) → HasLine v x e) where
  comes : (l : Line) → ComesOf r v.issued l → ComesFrom r.script (tries v.lines) l
  comes (line.Try a) k = tt
  comes (line.Stop number target) k = tt
  comes (line.Restart number target incarnation floor) k = tt
  comes (line.Down target) k = tt
  comes (line.Freeze target cont epoch) k =
      let b = line-of k.0 epoch (contains-from_has v.issued (k.0, epoch) k.1) in
      any-of (MakesSnapshotAt r.script cont epoch) (tries v.lines) b.0 (has-from_contains (tries v.lines) b.0 b.1) (k.2.0, record { command = ap (command_of r.script) b.2 ∙ k.2.1; issued = b.3 })
  comes (line.Snapshot name cont epoch) k =
      let b = line-of k.0 epoch (contains-from_has v.issued (k.0, epoch) k.1) in
      any-of (MakesSnapshot r.script name cont epoch) (tries v.lines) b.0 (has-from_contains (tries v.lines) b.0 b.1) (record { command = ap (command_of r.script) b.2 ∙ k.2; issued = b.3 })
  comes (line.Aggregate number target cont upto) k =
      let b = line-of k.0 k.1 (contains-from_has v.issued (k.0, k.1) k.2) in
      any-of (Aggregates r.script cont upto) (tries v.lines) b.0 (has-from_contains (tries v.lines) b.0 b.1) (record { command = ap (command_of r.script) b.2 ∙ k.3; epoch = k.1; issued = b.3; reaches = k.4 })

-- ---- names stand for one snapshot

some-is : {T : Type 0} {x y : T} → Some x ≡ Some y → x ≡ y
some-is s = cc

module _ (limit : ℕ) (s : Script) (opening : Stand) (lines : List Line) (form : IsInForm s.targets s) (turn : AllInTurn limit s lines) (before after : List Line) (a : Attempt) (among : lines ≡ before ++ line.Try a ∷ after) where
  -- an earlier attempt of its client
  earlier : (b : Attempt) → Has b (tries_of a.id.client before) → (b.id.client ≡ a.id.client) × Has b (tries_of a.id.client lines)
  earlier b i =
      let k = has-from_filter (is_of_client a.id.client) (tries before) b i in
      (number_same b.id.client a.id.client k.1, has-filter (is_of_client a.id.client) (tries lines) b (subst (λ ls. Has b (tries ls)) (sym among) (subst (Has b) (sym (tries-append before (line.Try a ∷ after))) (has-left (tries before) (tries (line.Try a ∷ after)) b k.0))) k.1)

  one-made : (name : List ℕ) (e f : Epoch) (b c : Attempt) → Has b (tries_of a.id.client before) → Has c (tries_of a.id.client before) → Made s name e b → Made s name f c → e ≡ f
  one-made name e f b c i j m n = some-is (sym m.snaps.issued ∙ ap (λ y. y.epoch) same ∙ n.snaps.issued)
    where
      command : b.id.command ≡ c.id.command
      command = made-by_one s b.id c.id name m.cont n.cont form ((earlier b i).0 ∙ sym (earlier c j).0) m.snaps.command n.snaps.command

      same : b ≡ c
      same = ends-once limit a.id.client 0 (client_commands s a.id.client) (tries_of a.id.client lines) b c (turn a.id.client) (earlier b i).1 (earlier c j).1 command (ap is_restart m.committed) (ap is_restart n.committed)

  stands-once : (name : List ℕ) (e f : Epoch) → StandsFor s opening (tries_of a.id.client before) name e → StandsFor s opening (tries_of a.id.client before) name f → e ≡ f
  stands-once name e f p q = by (find (is_named name) s.olds) p q
    where
      by : (d : Option OldDecl) → IsCreated s opening (tries_of a.id.client before) name d e → IsCreated s opening (tries_of a.id.client before) name d f → e ≡ f
      by (Some d) x y = sym x.1 ∙ y.1
      by None x y =
          let b = one-of-any (Made s name e) (tries_of a.id.client before) x in
          let c = one-of-any (Made s name f) (tries_of a.id.client before) y in
          one-made name e f b.0 c.0 b.1 c.1 b.2 c.2

  -- so who reads at one has its epoch just where the name stands for it
  reads-at : (name : List ℕ) → ReadsSo s opening (tries_of a.id.client before) name a → IsSnapshotRead s opening (tries_of a.id.client before) name a
  reads-at name k = record { epoch = λ e. (k.there e, λ t. by a.epoch refl e t); none = k.wants }
    where
      by : (own : Option Epoch) → a.epoch ≡ own → (e : Epoch) → StandsFor s opening (tries_of a.id.client before) name e → a.epoch ≡ Some e
      by None none e t = absurd (k.none none e t)
      by (Some f) own e t = own ∙ ap (λ y. Some y) (stands-once name f e (k.there f own) t)

-- ---- all of it

-- how snapshots go with lines: where clients are done, no line tells of a want but of who reads at a snapshot
abbrev pub AllSnapshotsAreLegal : Type 0
AllSnapshotsAreLegal =
    (r : Rules) (o : Opening) (v : World) → IsInForm r.script.targets r.script → Epochs r (top o) v → AreDone r v → AllInTurn r.attempts r.script v.lines → Makings r v → Freezings r o v → ReadsNameSnapshots r o v
    → ((a : Attempt) → Has a (tries v.lines) → a.outcome ≡ outcome.NoSnapshot → is_some (snapshot_of r.script a.id) ≡ true) → SnapshotsLegal r.script o.stand v.lines

module _ (r : Rules) (o : Opening) (v : World) (form : IsInForm r.script.targets r.script) (E : Epochs r (top o) v) (done : AreDone r v) (turn : AllInTurn r.attempts r.script v.lines) (makings : Makings r v) (freezings : Freezings r o v)
    (names : ReadsNameSnapshots r o v) (wants : (a : Attempt) → Has a (tries v.lines) → a.outcome ≡ outcome.NoSnapshot → is_some (snapshot_of r.script a.id) ≡ true) where
  there : EachTry (SnapshotIsThere r.script o.stand) v.lines
  unfolding tries
  there before a after among = by (snapshot_of r.script a.id) refl
    where
      split : as_lines (tries v.lines) ≡ as_lines (tries before) ++ line.Try a ∷ as_lines (tries after)
      split = ap (λ ls. as_lines (tries ls)) among ∙ ap as_lines (tries-append before (line.Try a ∷ after)) ∙ map-append (λ b. line.Try b) (tries before) (a ∷ tries after)

      by : (q : Option (List ℕ)) → snapshot_of r.script a.id ≡ q → NoneLegal r.script o.stand (tries_of a.id.client before) a q
      by None plain = λ how. (let at = wants a (among-tries v.lines before a after among) how in let none = ap is_some plain in let no : ⊥ = cc (at, none) in no)
      by (Some name) reads =
          reads-at r.attempts r.script o.stand v.lines form turn before after a among name
          (subst (λ ts. ReadsSo r.script o.stand (filter (is_of_client a.id.client) ts) name a) (lines-of (tries before)) (names.lines (as_lines (tries before)) a (as_lines (tries after)) split name reads))

  pub snapshots-legal : SnapshotsLegal r.script o.stand v.lines
  snapshots-legal = record {
    lines_from = all-from_has (ComesFrom r.script (tries v.lines)) v.lines (λ l i. comes r v (issued-line r (top o) v E done) l (makings.lines l i));
    committed = freezings.committed;
    none = there;
  }

pub snapshots-are_legal : AllSnapshotsAreLegal
snapshots-are_legal r o v form E done turn makings freezings names wants = snapshots-legal r o v form E done turn makings freezings names wants
