-- Where no punch is seen, the dkeys of updates are those of their marks.
use Rattle.std.proofs.Common.{◌≡◌, ℕ, Bool, true, false, ◌&&◌, ◌||◌, List, [], ◌∷◌, Option, Some, None, refl, sym, ◌∙◌, ap}
use Rattle.std.specs.Prelude.{filter, if◌then◌else◌}
use Rattle.std.specs.List.{list_any}
use Rattle.base_types.specs.declared.operation.Write.{Write}
use Rattle.base_types.specs.declared.operation.Write.TheVariants.{Single, Extent, PunchObject, PunchDkey, PunchAkey}
use Rattle.base_types.specs.declared.path.Path.{Path}
use Rattle.base_types.specs.Paths.{leads_to}
use Rattle.daos_model.specs.declared.cell.CellValue.{CellValue}
use Rattle.daos_model.specs.declared.durable.Version.{Version}
use Rattle.daos_model.specs.Answers.{dkey_under, dkeys_below, in_byte_order, option_among, option_before}
use Rattle.daos_model.specs.Prunes.{is_punch}
use Rattle.daos_model.specs.Versions.{sees, writes_in}
use Rattle.vos_scan.specs.Marks.{mark_at, marked, marked_under, marks_by}
use Rattle.vos_scan.specs.Names.{dkey_in, is_seen_punch, names_from}

neither : (a b : Bool) → (a || b) ≡ false → (a ≡ false) × (b ≡ false)
neither true b e = absurd (let n : ⊥ = cc in n)
neither false b e = (refl, e)

among-before : (o : Option (List ℕ)) (ks : List (List ℕ)) → in_byte_order (option_before o ks) ≡ option_among o (in_byte_order ks)
unfolding in_byte_order
among-before None ks = refl
among-before (Some k) ks = refl

-- the dkeys of the marks, once an update is marked
dkeys-under : (p q : Path) (m : List CellValue) → in_byte_order (dkeys_below p (marked_under p q m)) ≡ option_among (dkey_under p (mark_at q)) (in_byte_order (dkeys_below p m))
unfolding dkeys_below
dkeys-under p q m = by (leads_to p q) refl
  where
    by : (b : Bool) → leads_to p q ≡ b → in_byte_order (dkeys_below p (if b then mark_at q ∷ m else m)) ≡ option_among (if b then q.dkey else None) (in_byte_order (dkeys_below p m))
    by true e = ap (λ (b : Bool). in_byte_order (option_before (if b then q.dkey else None) (dkeys_below p m))) e ∙ among-before q.dkey (dkeys_below p m)
    by false e = refl

-- once a write is
dkeys-marked : (p : Path) (w : Write) (m : List CellValue) → is_punch w ≡ false → in_byte_order (dkeys_below p (marked p w m)) ≡ option_among (dkey_in p w) (in_byte_order (dkeys_below p m))
dkeys-marked p (Single q b) m h = dkeys-under p q m
dkeys-marked p (Extent q low b) m h = dkeys-under p q m
dkeys-marked p (PunchObject q) m h = absurd (let n : ⊥ = cc in n)
dkeys-marked p (PunchDkey q) m h = absurd (let n : ⊥ = cc in n)
dkeys-marked p (PunchAkey q) m h = absurd (let n : ⊥ = cc in n)

-- once all versions that are seen are
pub names-marked : (p : Path) (e : ℕ) (vs : List Version) (m : List CellValue) → list_any (is_seen_punch e) vs ≡ false
    → names_from p e vs (in_byte_order (dkeys_below p m)) ≡ in_byte_order (dkeys_below p (marks_by p (writes_in (filter (sees e) vs)) m))
names-marked p e [] m h = refl
names-marked p e (v ∷ vs) m h =
    let none : (is_seen_punch e v ≡ false) × (list_any (is_seen_punch e) vs ≡ false) = neither (is_seen_punch e v) (list_any (is_seen_punch e) vs) h in
    by (sees e v) none.0 (λ n. names-marked p e vs n none.1)
  where
    by : (s : Bool) → (s && is_punch v.write) ≡ false
        → ((n : List CellValue) → names_from p e vs (in_byte_order (dkeys_below p n)) ≡ in_byte_order (dkeys_below p (marks_by p (writes_in (filter (sees e) vs)) n)))
        → names_from p e vs (option_among (if s then dkey_in p v.write else None) (in_byte_order (dkeys_below p m))) ≡ in_byte_order (dkeys_below p (marks_by p (writes_in (if s then v ∷ filter (sees e) vs else filter (sees e) vs)) m))
    by true k rest = ap (names_from p e vs) (sym (dkeys-marked p v.write m k)) ∙ rest (marked p v.write m)
    by false k rest = rest m
