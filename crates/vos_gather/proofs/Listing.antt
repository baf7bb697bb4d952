-- The names of wanted writes, some behind others.
use Rattle.std.proofs.Common.{◌≡◌, ◌&&◌, ◌||◌, Bool, true, false, List, [], ◌∷◌, ◌++◌, map, refl, sym, ap, ◌∙◌, subst, append_assoc}
use Rattle.std.specs.Prelude.{filter, if◌then◌else◌, take}
use Rattle.std.proofs.Common.{ℕ, ◌+◌, ◌<◌, length, get_or, add-one}
use Rattle.std.proofs.Math.Seq.{take-suc}
use Rattle.std.proofs.lemmas.List.{append-nil}
use Rattle.base_types.specs.Operations.{write_path}
use Rattle.base_types.specs.declared.operation.Write.{Write}
use Rattle.base_types.specs.declared.operation.Write.TheVariants as write
use Rattle.base_types.specs.declared.path.Path.{Path}
use Rattle.daos_model.specs.Prunes.{is_punch as is_punch_write}
use Rattle.daos_model.specs.declared.durable.Version.{Version}
use Rattle.vos_ilog.specs.declared.ilog.LogEntry.{LogEntry}
use Rattle.vos_ilog.specs.Logs.{moment_of as moment_of_entry}
use Rattle.vos_single.specs.declared.single.SingleVersion.{SingleVersion}
use Rattle.vos_extent.specs.declared.extent.ExtentVersion.{ExtentVersion}
use Rattle.vos_path.specs.Objects.{extent_version, is_punch, punch_version, single_version, together}
use Rattle.vos_settle.specs.declared.name.WriteName.{WriteName}
use Rattle.vos_settle.specs.declared.task.WriteKind.TheVariants as kind
use Rattle.vos_settle.specs.Names.{kind_of, name_of}
use Rattle.vos_lists.proofs.Walking.{names_append}
use Rattle.vos_gather.specs.Gathered.{entries_punches}
use Rattle.vos_gather.specs.Wanted.{Listed, Want, is_wanted, moment_of_version, names_in, wants}

pub listed_none : (w : Want) (f : List WriteName) → Listed w [] f f
listed_none w f = sym (append-nil f)

pub listed_then : (w : Want) (vs us : List Version) (f g h : List WriteName) → Listed w vs f g → Listed w us g h → Listed w (vs ++ us) f h
listed_then w vs us f g h x y =
    y ∙ (ap (λ z. z ++ names_in w us) x ∙ (append_assoc f (names_in w vs) (names_in w us) ∙ ap (λ z. f ++ z) (sym (names_append (is_wanted w) name_of vs us))))

-- where none is wanted, none comes
pub listed_quiet : (w : Want) (vs : List Version) (f : List WriteName) → names_in w vs ≡ [] → Listed w vs f f
listed_quiet w vs f none = sym (append-nil f) ∙ ap (λ z. f ++ z) (sym none)

-- one name, or none
pub listed_one : (w : Want) (v : Version) (n : WriteName) (f g : List WriteName) → is_wanted w v ≡ true → name_of v ≡ n → g ≡ f ++ n ∷ [] → Listed w (v ∷ []) f g
listed_one w v n f g wanted is e = e ∙ ap (λ z. f ++ z) (ap (λ x. x ∷ []) (sym is) ∙ sym (ap (λ (b : Bool). map name_of (if b then v ∷ [] else [])) wanted))

pub listed_left : (w : Want) (v : Version) (f : List WriteName) → is_wanted w v ≡ false → Listed w (v ∷ []) f f
listed_left w v f left = listed_quiet w (v ∷ []) f (ap (λ (b : Bool). map name_of (if b then v ∷ [] else [])) left)

-- updates that aren't looked for
pub quiet_map : {A : Type 0} (w : Want) (make : A → Version) (xs : List A) → w.updates ≡ false → ((x : A) → is_punch_write (make x).write ≡ false) → names_in w (map make xs) ≡ []
quiet_map w make [] u quiet = refl
quiet_map w make (x ∷ xs) u quiet =
    let here : is_wanted w (make x) ≡ false = ap (λ (b : Bool). (b || is_punch_write (make x).write) && wants w (write_path (make x).write) (make x).by (make x).done (moment_of_version (make x))) u ∙ ap (λ (b : Bool). b && wants w (write_path (make x).write) (make x).by (make x).done (moment_of_version (make x))) (quiet x) in
    ap (λ (b : Bool). map name_of (if b then make x ∷ filter (is_wanted w) (map make xs) else filter (is_wanted w) (map make xs))) here ∙ quiet_map w make xs u quiet

-- one after another are all
pub all_ones : {A : Type 0} (make : A → Version) (xs : List A) → together (λ x. make x ∷ []) xs ≡ map make xs
all_ones make [] = refl
all_ones make (x ∷ xs) = ap (λ z. make x ∷ z) (all_ones make xs)

-- what is wanted of updates
pub update_wanted : (w : Want) (v : Version) (b : Bool) → w.updates ≡ true → wants w (write_path v.write) v.by v.done (moment_of_version v) ≡ b → is_wanted w v ≡ b
update_wanted w v b u h = ap (λ (t : Bool). (t || is_punch_write v.write) && wants w (write_path v.write) v.by v.done (moment_of_version v)) u ∙ h

-- ---- an entry of a log

abbrev pub entry_punch : Write → LogEntry → List Version
entry_punch w e = entries_punches w (e ∷ [])

kind_punch : (u : Write) → is_punch_write u ≡ true → kind_of u ≡ kind.Punch
kind_punch (write.Single p bytes) h = absurd (let n : ⊥ = cc in n)
kind_punch (write.Extent p low bytes) h = absurd (let n : ⊥ = cc in n)
kind_punch (write.PunchObject p) h = refl
kind_punch (write.PunchDkey p) h = refl
kind_punch (write.PunchAkey p) h = refl

or_true : (b : Bool) → (b || true) ≡ true
or_true true = refl
or_true false = refl

punch_wanted : (w : Want) (u : Write) (p : Path) (e : LogEntry) (b : Bool) → is_punch_write u ≡ true → write_path u ≡ p → wants w p e.by e.done (moment_of_entry e) ≡ b → is_wanted w (punch_version u e) ≡ b
punch_wanted w u p e b punch path h =
    ap (λ (t : Bool). (w.updates || t) && wants w (write_path u) e.by e.done (moment_of_entry e)) punch
    ∙ (ap (λ (t : Bool). t && wants w (write_path u) e.by e.done (moment_of_entry e)) (or_true w.updates)
    ∙ (ap (λ (q : Path). wants w q e.by e.done (moment_of_entry e)) path ∙ h))

-- a wanted punch
pub entry_listed : (w : Want) (u : Write) (p : Path) (e : LogEntry) (f g : List WriteName) → e.punch ≡ true → is_punch_write u ≡ true → write_path u ≡ p → wants w p e.by e.done (moment_of_entry e) ≡ true → g ≡ f ++ (record { path = p; kind = kind.Punch; epoch = e.epoch; minor = e.minor }) ∷ [] → Listed w (entry_punch u e) f g
entry_listed w u p e f g is_one punch path wanted added =
    subst (λ z. Listed w z f g) (sym (ap (λ (b : Bool). map (punch_version u) (if b then e ∷ [] else [])) is_one))
    (listed_one w (punch_version u e) (record { path = p; kind = kind.Punch; epoch = e.epoch; minor = e.minor }) f g (punch_wanted w u p e true punch path wanted) (λ i. record { path = path i; kind = kind_punch u punch i; epoch = e.epoch; minor = e.minor }) added)

-- a creation, or a punch that isn't wanted
pub entry_left : (w : Want) (u : Write) (p : Path) (e : LogEntry) (f : List WriteName) → is_punch_write u ≡ true → write_path u ≡ p → (e.punch && wants w p e.by e.done (moment_of_entry e)) ≡ false → Listed w (entry_punch u e) f f
entry_left w u p e f punch path left = by e.punch refl (wants w p e.by e.done (moment_of_entry e)) refl
  where
    by : (b : Bool) → e.punch ≡ b → (t : Bool) → wants w p e.by e.done (moment_of_entry e) ≡ t → Listed w (entry_punch u e) f f
    by true a true c = absurd (let x : (e.punch && wants w p e.by e.done (moment_of_entry e)) ≡ true = ap (λ (s : Bool). s && wants w p e.by e.done (moment_of_entry e)) a ∙ c in let n : ⊥ = cc in n)
    by true a false c = subst (λ z. Listed w z f f) (sym (ap (λ (s : Bool). map (punch_version u) (if s then e ∷ [] else [])) a)) (listed_left w (punch_version u e) f (punch_wanted w u p e false punch path c))
    by false a t c = subst (λ z. Listed w z f f) (sym (ap (λ (s : Bool). map (punch_version u) (if s then e ∷ [] else [])) a)) (listed_none w f)

pub entries_all : (u : Write) (es : List LogEntry) → together (entry_punch u) es ≡ entries_punches u es
entries_all u [] = refl
entries_all u (e ∷ es) = by e.punch (entries_all u es)
  where
    by : (b : Bool) → together (entry_punch u) es ≡ entries_punches u es → (map (punch_version u) (if b then e ∷ [] else []) ++ together (entry_punch u) es) ≡ map (punch_version u) (if b then e ∷ filter is_punch es else filter is_punch es)
    by true r = ap (λ z. punch_version u e ∷ z) r
    by false r = r

-- ---- an akey whose updates aren't looked for

pub quiet_updates : (w : Want) (p : Path) (vs : List SingleVersion) (es : List ExtentVersion) → w.updates ≡ false → names_in w (map (single_version p) vs ++ map (extent_version p) es) ≡ []
quiet_updates w p vs es u =
    names_append (is_wanted w) name_of (map (single_version p) vs) (map (extent_version p) es)
    ∙ (ap (λ z. z ++ names_in w (map (extent_version p) es)) (quiet_map w (single_version p) vs u (λ x. refl)) ∙ quiet_map w (extent_version p) es u (λ x. refl))

-- ---- names one after another

-- the first ones and the next
pub take_next : {A : Type 0} (xs : List A) (i : ℕ) (x : A) → i < length xs → x ≡ get_or xs i x → take (i + 1) xs ≡ take i xs ++ x ∷ []
take_next xs i x h is = ap (λ (n : ℕ). take n xs) (add-one i) ∙ (take-suc xs i x h ∙ ap (λ y. take i xs ++ y ∷ []) (sym is))
