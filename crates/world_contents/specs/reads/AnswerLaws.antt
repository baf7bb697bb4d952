-- An attempt is decided: each read that was served stays answered right.
use Rattle.std.specs.Prelude.{ℕ, ◌≡◌, ◌<◌, ◌≤◌, Bool, true, false, List, Contains, Some, None, refl, if◌then◌else◌, find, Option}
use Rattle.std.proofs.Common.{sym, ◌∙◌, ap, subst, arith}
use Rattle.base_types.specs.declared.epoch.Epoch.{Epoch}
use Rattle.base_types.specs.declared.id.AttemptId.{AttemptId}
use Rattle.base_types.specs.declared.operation.MinorWrite.{MinorWrite}
use Rattle.base_types.specs.Operations.{read_path, write_path}
use Rattle.base_types.specs.Paths.{leads_to, overlaps}
use Rattle.base_types.specs.PathLaws.{overlaps-comm}
use Rattle.base_types.specs.Placement.{members}
use Rattle.model_laws.specs.Dated.{Dated}
use Rattle.model_laws.specs.Decided as decided
use Rattle.model_laws.specs.DecidedLaws.{has-all}
use Rattle.model_laws.specs.Groups.{is_in_group}
use Rattle.model_laws.specs.Members.{Has, contains-from_has, has-from_map}
use Rattle.model_laws.specs.ServeLaws.{touches-overlaps}
use Rattle.model_laws.specs.TargetLaws.{own-here}
use Rattle.daos_model.specs.declared.cell.Cell.{Cell}
use Rattle.daos_model.specs.declared.durable.Durable.{Durable}
use Rattle.daos_model.specs.declared.durable.Version.{Version}
use Rattle.daos_model.specs.Accesses.{asked_member}
use Rattle.daos_model.specs.Cells.{value_at}
use Rattle.daos_model.specs.Forms.{is_read_in_form, is_write_in_form}
use Rattle.daos_model.specs.Opening.{Opening}
use Rattle.daos_model.specs.Prunes.{touches}
use Rattle.daos_model.specs.Versions.{version_of, version_path}
use Rattle.world_commit.specs.attempts.Attempts.{writes_of}
use Rattle.world_commit.specs.attempts.History.{History, Served, decides}
use Rattle.world_commit.specs.world_base.Events.{Rules}
use Rattle.world_contents.specs.reads.AsOfLaws.{as_of-more}
use Rattle.world_contents.specs.reads.ChangeLaws.{entry-among}
use Rattle.world_contents.specs.reads.DecideLaws.{Elsewhere, Held, IsHeldOrElsewhere, MayBeDecided, is-added, stays-apart}
use Rattle.model_laws.specs.PlaceLaws.{asked-member, group-own, leads-object}
use Rattle.world_commit.specs.attempts.Stored.{found-attempt}
use Rattle.world_contents.specs.reads.Reads.{IsAnsweredRight, IsOfAttempt, map_then, map_seen}
use Rattle.world_contents.specs.reads.Transactions.{decided_of, transactions}
use Rattle.world_contents.specs.reads.Versions.{IsWriteAt, VersionsStand}
use Rattle.base_types.specs.declared.script.OldDecl.{OldDecl}
use Rattle.daos_model.specs.declared.cell.CellValue.{CellValue}
use Rattle.daos_model.specs.Attempts.{snapshot_of}
use Rattle.daos_model.specs.ReadsLegal.{is_named, map_at, old_map}

-- no unsettled version of a target lies below a read on an overlapping path
abbrev pub IsBarred : Durable → Served → Type 0
IsBarred d q = (v : Version) → Contains d.versions v → v.done ≡ false → overlaps (version_path v) (read_path q.read) ≡ true → q.epoch.0 ≤ v.epoch.0

-- a write of the attempt at a target that holds it isn't below such a read
pub not-below : (r : Rules) (o : Opening) (held : List Version) (h : History) (t : ℕ) (d : Durable) (x : AttemptId) (e : Epoch) (q : Served) (m : MinorWrite) → MayBeDecided r o h x e → VersionsStand r o held h t d
    → IsHeldOrElsewhere r x e t d → IsBarred d q → IsWriteAt r x t m → overlaps (write_path m.write) (read_path q.read) ≡ true → q.epoch.0 ≤ e.0
not-below r o held h t d x e q m may s (Held k found at) bar here over =
    let its : k.attempt ≡ x = found-attempt d x k found in
    subst (λ f. q.epoch.0 ≤ f.0) at (bar (version_of k m) (s.whole k m (entry-among d x k found) (open' k.committed refl) (subst (λ y. IsWriteAt r y t m) (sym its) here)) refl over)
  where
    open' : (b : Bool) → k.committed ≡ b → k.committed ≡ false
    open' true is = absurd (may.undecided (k.epoch, s.settled x k found is))
    open' false is = is
not-below r o held h t d x e q m may s (Elsewhere absent none) bar here over = absurd (none m here)

-- ---- the map that is read

-- Where more is decided, it stays, since it is that of a snapshot that an earlier run created; or it is that as of an epoch.
data SeenLater (r : Rules) (o : Opening) (h later : History) (x : AttemptId) (e : Epoch) (m : List CellValue) : Type 0 where
  Stays : map_seen r o later x e ≡ Some m → SeenLater r o h later x e m
  IsAsOf : map_then r o h e ≡ m → map_seen r o later x e ≡ Some (map_then r o later e) → SeenLater r o h later x e m

seen-later : (r : Rules) (o : Opening) (h later : History) (x : AttemptId) (e : Epoch) (m : List CellValue) → map_seen r o h x e ≡ Some m → SeenLater r o h later x e m
seen-later r o h later x e m is = by (snapshot_of r.script x) refl is
  where
    At : History → Option (List ℕ) → Option (List CellValue)
    At g n = map_at r.script o.stand (decided.taken_in (transactions r.script g)) e.0 n

    Old : History → Option OldDecl → Option (List CellValue)
    Old g d = old_map o.stand (decided.taken_in (transactions r.script g)) e.0 d

    named : (name : List ℕ) (d : Option OldDecl) → snapshot_of r.script x ≡ Some name → find (is_named name) r.script.olds ≡ d → Old h d ≡ Some m → SeenLater r o h later x e m
    named name None f g k = let same : map_then r o h e ≡ m = cc in IsAsOf same (ap (At later) f ∙ ap (Old later) g)
    named name (Some d) f g k = Stays (ap (At later) f ∙ ap (Old later) g ∙ k)

    by : (n : Option (List ℕ)) → snapshot_of r.script x ≡ n → At h n ≡ Some m → SeenLater r o h later x e m
    by None f k = let same : map_then r o h e ≡ m = cc in IsAsOf same (ap (At later) f)
    by (Some name) f k = named name (find (is_named name) r.script.olds) f refl k

pub decides-answers : (r : Rules) (o : Opening) (h : History) (x : AttemptId) (e : Epoch) (q : Served) → MayBeDecided r o h x e → decided.AreDecided (transactions r.script h)
    → ((m : MinorWrite) → IsWriteAt r x q.target m → overlaps (write_path m.write) (read_path q.read) ≡ true → q.epoch.0 ≤ e.0) → IsOfAttempt r q → is_read_in_form q.read ≡ true
    → IsAnsweredRight r o h q → IsAnsweredRight r o (decides h x e) q
decides-answers r o h x e q may apart above asks form a = by-map (seen-later r o h (decides h x e) q.by q.epoch a.map a.seen)
  where
    same-object : asks.obj ≡ a.obj
    same-object = let f : Some asks.obj ≡ Some a.obj = sym asks.of_object ∙ a.of_object in cc

    member : Has q.target (members a.obj q.group r.script.targets)
    member =
        subst (λ u. Has u (members a.obj q.group r.script.targets)) (sym asks.member)
        (subst (λ b. Has (asked_member asks.obj q.by.command r.script.targets q.group) (members b q.group r.script.targets)) same-object (asked-member asks.obj q.by.command r.script.targets q.group))

    untouched : (c : Cell) → leads_to (read_path q.read) c.path ≡ true → is_in_group a.obj.class r.script.targets q.group c ≡ true → (y : Dated) → y.epoch < q.epoch.0 → touches c y.write ≡ true
        → (m : MinorWrite) × Has m (writes_of r x) × (decided.dated_at e m ≡ y) → ⊥
    untouched c under of y lt about z =
        let touch : touches c z.0.write ≡ true = ap (λ u. touches c u.write) z.2 ∙ about in
        let when : e.0 ≡ y.epoch = ap (λ u. u.epoch) z.2 in
        let among = contains-from_has (writes_of r x) z.0 z.1 in
        let fit = may.fits z.0 among in
        let is-own = group-own a.obj r.script.targets q.group q.target c (leads-object (read_path q.read) c.path a.obj a.of_object under) of member in
        let there = own-here r.script.targets q.target c z.0.write fit.0 fit.1 fit.2 is-own touch in
        let in_form : is_write_in_form z.0.write ≡ true = has-all (λ w. is_write_in_form w.write ≡ true) (writes_of r x) z.0 may.form.each z.1 in
        let over : overlaps (write_path z.0.write) (read_path q.read) ≡ true = overlaps-comm (write_path z.0.write) (read_path q.read) ∙ touches-overlaps q.read c z.0.write form in_form under touch in
        let le : q.epoch.0 ≤ e.0 = above z.0 (record { of_it = among; here = there }) over in
        omega (arith, lt, when, le)

    by : (c : Cell) → leads_to (read_path q.read) c.path ≡ true → (b : Bool) → is_in_group a.obj.class r.script.targets q.group c ≡ b
        → (if b then value_at (map_then r o h q.epoch) c else None) ≡ (if b then value_at (map_then r o (decides h x e) q.epoch) c else None)
    by c under false of = refl
    by c under true of =
        as_of-more c o.stand (decided_of r.script (x, e)) (transactions r.script h) (transactions r.script (decides h x e)) q.epoch.0 apart (stays-apart r o h x e may apart)
        (is-added r h x e) (λ y j lt about. untouched c under of y lt about (has-from_map (decided.dated_at e) (writes_of r x) y j))

    by-map : SeenLater r o h (decides h x e) q.by q.epoch a.map → IsAnsweredRight r o (decides h x e) q
    by-map (Stays seen) = record { map = a.map; seen = seen; obj = a.obj; of_object = a.of_object; part = a.part; is_part = a.is_part; right = a.right }
    by-map (IsAsOf same seen) = record {
      map = map_then r o (decides h x e) q.epoch;
      seen = seen;
      obj = a.obj;
      of_object = a.of_object;
      part = a.part;
      is_part = λ c under. subst (λ m. value_at a.part c ≡ (if is_in_group a.obj.class r.script.targets q.group c then value_at m c else None)) (sym same) (a.is_part c under) ∙ by c under (is_in_group a.obj.class r.script.targets q.group c) refl;
      right = a.right;
    }
