-- What it takes that a write says what a cell holds, and which write is the newest that does.
use Rattle.std.specs.Prelude.{ℕ, ◌≡◌, ◌+◌, Bool, true, false, List, [], ◌∷◌, if◌then◌else◌, refl}
use Rattle.std.specs.List.{list_any}
use Rattle.std.proofs.Common.{sym, ◌∙◌, ap, inl, inr}
use Rattle.base_types.specs.declared.operation.Write.{Write}
use Rattle.base_types.specs.declared.operation.Write.TheVariants.{Single, Extent, PunchObject, PunchDkey, PunchAkey}
use Rattle.base_types.specs.declared.path.Path.{Path}
use Rattle.base_types.specs.Operations.{write_path}
use Rattle.base_types.specs.Paths.{leads_to, record_size}
use Rattle.daos_model.specs.declared.cell.Cell.{Cell}
use Rattle.daos_model.specs.declared.cell.CellValue.{CellValue}
use Rattle.daos_model.specs.declared.durable.Version.{Version}
use Rattle.daos_model.specs.Answers.{is_before}
use Rattle.daos_model.specs.BoolLaws.{and_left, and_right, clash}
use Rattle.daos_model.specs.Cells.{is_of, value_at}
use Rattle.daos_model.specs.Durables.{version_key}
use Rattle.daos_model.specs.Effect.{effect, effects, record_cells, records_of}
use Rattle.daos_model.specs.OrderLaws.{before-asym, before-itself}
use Rattle.daos_model.specs.Ordered.{all_after, is_rising}
use Rattle.daos_model.specs.Prunes.{is_punch, touches, values_of}
use Rattle.daos_model.specs.Sameness.{same_cell-Decides}
use Rattle.daos_model.specs.Versions.{writes_in}
use Rattle.model_laws.specs.Members.{Has, has-any}
use Rattle.model_laws.specs.RisingLaws.{after-has}
use Rattle.model_laws.specs.WriteLaws.{value-effect}

-- ---- updates and punches

records-path : (p : Path) (low : ℕ) (rs : List (List ℕ)) (x : CellValue) → Has x (record_cells p low rs) → p ≡ x.cell.path
records-path p low [] x h = absurd h
records-path p low (r ∷ rs) x (inl same) = sym (ap (λ v. v.cell.path) same)
records-path p low (r ∷ rs) x (inr h) = records-path p (low + 1) rs x h

-- the cells that a write sets stand at its path
pub values-path : (w : Write) (x : CellValue) → Has x (values_of w) → write_path w ≡ x.cell.path
values-path (Single p bytes) x (inl same) = sym (ap (λ v. v.cell.path) same)
values-path (Single p bytes) x (inr h) = absurd h
values-path (Extent p low bytes) x h = records-path p low (records_of (record_size p) bytes) x h
values-path (PunchObject p) x h = absurd h
values-path (PunchDkey p) x h = absurd h
values-path (PunchAkey p) x h = absurd h

-- an update that says what a cell holds sets it
pub update-value : (w : Write) (c : Cell) → is_punch w ≡ false → touches c w ≡ true → (x : CellValue) × Has x (values_of w) × (x.cell ≡ c)
unfolding touches
update-value w c update at =
    let any : list_any (is_of c) (values_of w) ≡ true = sym (ap (λ b. if b then leads_to (write_path w) c.path else list_any (is_of c) (values_of w)) update) ∙ at in
    let h = has-any (is_of c) (values_of w) any in
    (h.0, h.1, (same_cell-Decides h.0.cell c).0 h.2)

pub update-path : (w : Write) (c : Cell) → is_punch w ≡ false → touches c w ≡ true → write_path w ≡ c.path
update-path w c update at = let x = update-value w c update at in values-path w x.0 x.1 ∙ ap (λ d. d.path) x.2

-- a punch says so of the cells under its path, and sets none
pub punch-path : (w : Write) (c : Cell) → is_punch w ≡ true → touches c w ≡ true → leads_to (write_path w) c.path ≡ true
unfolding touches
punch-path w c punch at = sym (ap (λ b. if b then leads_to (write_path w) c.path else list_any (is_of c) (values_of w)) punch) ∙ at

pub punch-values : (w : Write) → is_punch w ≡ true → values_of w ≡ []
punch-values (Single p bytes) e = absurd (let n : ⊥ = cc in n)
punch-values (Extent p low bytes) e = absurd (let n : ⊥ = cc in n)
punch-values (PunchObject p) e = refl
punch-values (PunchDkey p) e = refl
punch-values (PunchAkey p) e = refl

-- ---- the newest version that says what a cell holds

pub data NewestAt (c : Cell) (vs : List Version) : Type 0 where
  Untouched : ((w : Version) → Has w vs → touches c w.write ≡ false) → ((m : List CellValue) → value_at (effects (writes_in vs) m) c ≡ value_at m c) → NewestAt c vs
  Newest : (v : Version) → Has v vs → touches c v.write ≡ true → ((w : Version) → Has w vs → touches c w.write ≡ true → is_before (version_key v) (version_key w) ≡ false)
      → ((m : List CellValue) → value_at (effects (writes_in vs) m) c ≡ value_at (values_of v.write) c) → NewestAt c vs

pub newest-of : (c : Cell) (vs : List Version) → is_rising version_key vs ≡ true → NewestAt c vs
newest-of c [] r = Untouched (λ w h. absurd h) (λ m. refl)
newest-of c (v ∷ vs) r = more (newest-of c vs (and_right (all_after version_key (version_key v) vs) (is_rising version_key vs) r))
  where
    after : all_after version_key (version_key v) vs ≡ true
    after = and_left (all_after version_key (version_key v) vs) (is_rising version_key vs) r

    older : (w : Version) → Has w vs → (u : Version) → (u ≡ v) → is_before (version_key w) (version_key u) ≡ false
    older w i u same = ap (λ z. is_before (version_key w) (version_key z)) same ∙ before-asym (version_key v) (version_key w) (after-has version_key (version_key v) vs w after i)

    first : (b : Bool) → touches c v.write ≡ b → ((w : Version) → Has w vs → touches c w.write ≡ false) → ((m : List CellValue) → value_at (effects (writes_in vs) m) c ≡ value_at m c) → NewestAt c (v ∷ vs)
    first true e none keep =
        Newest v (inl refl) e
        (λ u i t. elim i [
          | inl same ↦ ap (λ z. is_before (version_key v) (version_key z)) same ∙ before-itself (version_key v)
          | inr j ↦ clash (touches c u.write) t (none u j)
        ])
        (λ m. keep (effect v.write m) ∙ value-effect c v.write m ∙ ap (λ b. if b then value_at (values_of v.write) c else value_at m c) e)
    first false e none keep =
        Untouched (λ u i. elim i [ inl same ↦ ap (λ z. touches c z.write) same ∙ e | inr j ↦ none u j ])
        (λ m. keep (effect v.write m) ∙ value-effect c v.write m ∙ ap (λ b. if b then value_at (values_of v.write) c else value_at m c) e)

    more : NewestAt c vs → NewestAt c (v ∷ vs)
    more (Untouched none keep) = first (touches c v.write) refl none keep
    more (Newest w i t newest value) =
        Newest w (inr i) t (λ u j s. elim j [ inl same ↦ older w i u same | inr k ↦ newest u k s ]) (λ m. value (effect v.write m))
