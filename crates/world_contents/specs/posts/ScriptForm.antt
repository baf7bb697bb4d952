-- What is read and written by a script in form is in form, and so is what its operations ask.
use Rattle.std.specs.Prelude.{ℕ, ◌≡◌, ◌⊎◌, ◌≤◌, ◌<◌, ◌+◌, ◌++◌, ◌*◌, ◌/◌, ◌%◌, ◌^◌, ◌==◌, Bool, true, false, ◌&&◌, ◌||◌, nat_lt, nat_le, List, [], ◌∷◌, length, slice_get, map, is_some, is_none, All, AllPairs, Option, Some, None, refl, if◌then◌else◌}
use Rattle.std.proofs.Common.{inl, inr, zero, suc, sym, ap, subst, arith, ◌∙◌}
use Rattle.std.proofs.lemmas.Bool.Decides.{nat_tests}
use Rattle.std.proofs.lemmas.List.Elements.{All-head, All-tail}
use Rattle.std.proofs.lemmas.List.Kept.{AllPairs-cons}
use Rattle.base_types.specs.declared.operation.Act.{Act}
use Rattle.base_types.specs.declared.operation.Act.TheVariants as act
use Rattle.base_types.specs.declared.operation.MinorWrite.{MinorWrite}
use Rattle.base_types.specs.declared.operation.Op.{Op}
use Rattle.base_types.specs.declared.operation.Read.{Read}
use Rattle.base_types.specs.declared.operation.Read.TheVariants as read
use Rattle.base_types.specs.declared.operation.Write.{Write}
use Rattle.base_types.specs.declared.operation.Write.TheVariants as write
use Rattle.base_types.specs.declared.path.Path.{Path}
use Rattle.base_types.specs.declared.id.AttemptId.{AttemptId}
use Rattle.base_types.specs.declared.script.Command.{Command}
use Rattle.base_types.specs.declared.script.Command.TheVariants.{Run, Snap, Aggregate, Tell, Skip}
use Rattle.base_types.specs.declared.script.ContDecl.{ContDecl}
use Rattle.base_types.specs.declared.script.ObjDecl.{ObjDecl}
use Rattle.base_types.specs.declared.script.Script.{Script}
use Rattle.base_types.specs.Paths.{record_size, unit_of}
use Rattle.base_types.specs.Scripts.{AreCommands, IsCommand, IsInForm, SnapName, is_numbered, old_snap, snap_of, IsActInForm, IsAkeyOf, IsDkeyOf, IsLength, IsObjectOf, IsOfObject, IsOpInForm, IsPathOf, IsReadInForm, IsUnit, IsWriteInForm}
use Rattle.model_laws.specs.DecidedLaws.{all-from_has}
use Rattle.model_laws.specs.Lists.{all-at}
use Rattle.model_laws.specs.Members.{Has, has-cases, has-from_map}
use Rattle.daos_model.specs.Accesses.{minor_write, minor_writes}
use Rattle.daos_model.specs.Transactions.{attempt_ops, command_of, numbered, ops_of, ops_or_none}
use Rattle.world_contents.specs.reads.ListLaws.{increasing-pairs}
use Rattle.daos_model.specs.BoolLaws.{both}
use Rattle.daos_model.specs.Forms.{AreWritesInForm, minor_of, ends_at_akey, ends_at_dkey, ends_at_object, fits_array, fits_records, is_length, is_unit, is_path_in_form, is_read_in_form, is_write_in_form}
use Rattle.std.proofs.lemmas.Bool.{or_right}
use Rattle.base_types.specs.declared.operation.Cond.{Cond}
use Rattle.world_contents.specs.reads.Given.{FitsTargets}
use Rattle.world_commit.specs.world_base.Events.{Rules}
use Rattle.world_commit.specs.world_base.declared.client.Stage.{Stage}
use Rattle.base_types.specs.Operations.{act_path, read_path, write_path}
use Rattle.world_contents.specs.gots.FormLaws.{fit-object, ops-form, write-declared}
use Rattle.world_commit.specs.world_base.ClientTurns.{question}
use Rattle.base_types.specs.declared.operation.Cond.TheVariants as cond
use Rattle.world_commit.specs.world_base.declared.client.Stage.TheVariants as stage
use Rattle.base_types.specs.declared.operation.Act.TheVariants.{Change, Fetch}

-- ---- paths

of-object : (objs : List ObjDecl) (p : Path) → IsOfObject objs p → is_some p.obj ≡ true
of-object objs p i = ap is_some (sym i.4.0)

pub at-akey : (objs : List ObjDecl) (p : Path) → IsAkeyOf objs p → ends_at_akey p ≡ true
at-akey objs p k = both (is_some p.obj && is_some p.dkey) (is_some p.akey) (both (is_some p.obj) (is_some p.dkey) (of-object objs p k.declared) (ap is_some k.dkey.1)) (ap is_some k.akey.1)

pub at-dkey : (objs : List ObjDecl) (p : Path) → IsDkeyOf objs p → ends_at_dkey p ≡ true
at-dkey objs p k = both (is_some p.obj && is_some p.dkey) (is_none p.akey) (both (is_some p.obj) (is_some p.dkey) (of-object objs p k.declared) (ap is_some k.dkey.1)) (ap is_none k.no_akey)

pub at-object : (objs : List ObjDecl) (p : Path) → IsObjectOf objs p → ends_at_object p ≡ true
at-object objs p k = both (is_some p.obj && is_none p.dkey) (is_none p.akey) (both (is_some p.obj) (is_none p.dkey) (of-object objs p k.declared) (ap is_none k.no_dkey)) (ap is_none k.no_akey)

any-path : (objs : List ObjDecl) (p : Path) → IsPathOf objs p → is_path_in_form p ≡ true
any-path objs p k = both (is_none p.dkey || is_some p.obj) (is_none p.akey || is_some p.dkey) (or_right (is_none p.dkey) (is_some p.obj) (of-object objs p k.declared)) (by p.dkey refl)
  where
    by : (d : Option (List ℕ)) → p.dkey ≡ d → (is_none p.akey || is_some p.dkey) ≡ true
    by None e = ap (λ a. is_none a || is_some p.dkey) (k.no_akey e)
    by (Some key) e = or_right (is_none p.akey) (is_some p.dkey) (ap is_some e)

pub of-length : (n : ℕ) → IsLength n → is_length n ≡ true
of-length n k = both (nat_le 1 n) (nat_le n 1024) (low n k.0) (high n k.1)
  where
    low : (n : ℕ) → 0 < n → nat_le 1 n ≡ true
    low n h = grind (arith, nat_tests)

    high : (n : ℕ) → n ≤ 1024 → nat_le n 1024 ≡ true
    high n h = grind (arith, nat_tests)

pub of-end : (n m : ℕ) → n < m → nat_lt n m ≡ true
of-end n m h = grind (arith, nat_tests)

-- ---- reads and writes

-- declared objects have record sizes
abbrev pub HaveUnits : List ObjDecl → Type 0
HaveUnits objs = All (λ d. IsUnit d.id.unit) objs

of-unit : (n : ℕ) → IsUnit n → is_unit n ≡ true
of-unit n k = both (nat_le 1 n) (nat_le n 64) (low n k.0) (high n k.1)
  where
    low : (n : ℕ) → 0 < n → nat_le 1 n ≡ true
    low n h = grind (arith, nat_tests)

    high : (n : ℕ) → n ≤ 64 → nat_le n 64 ≡ true
    high n h = grind (arith, nat_tests)

-- so the arrays under the path of one have one
has-unit : (objs : List ObjDecl) (p : Path) → HaveUnits objs → IsOfObject objs p → is_unit (record_size p) ≡ true
has-unit objs p units i = subst (λ o. is_unit (unit_of o) ≡ true) i.4.0 (of-unit i.1.id.unit (subst (λ (d : ObjDecl). IsUnit d.id.unit) i.3 (units i.0 i.1 i.2)))

of-array : (size low count : ℕ) → is_unit size ≡ true → low + count < 2 ^ 32 → fits_array size low count ≡ true
of-array size low count unit short = both (is_unit size) (nat_lt (low + count) (2 ^ 32)) unit (of-end (low + count) (2 ^ 32) short)

of-records : (size low len : ℕ) → is_unit size ≡ true → len % size ≡ 0 → low + len / size < 2 ^ 32 → fits_records size low len ≡ true
of-records size low len unit whole short = both (len % size == 0) (fits_array size low (len / size)) (ap (λ n. n == 0) whole) (of-array size low (len / size) unit short)

pub read-in-form : (objs : List ObjDecl) (q : Read) → HaveUnits objs → IsReadInForm objs q → is_read_in_form q ≡ true
unfolding is_read_in_form
read-in-form objs (read.Single p) units k = at-akey objs p k
read-in-form objs (read.Extent p low len) units k =
    both (ends_at_akey p && is_length (len * record_size p)) (fits_array (record_size p) low len)
    (both (ends_at_akey p) (is_length (len * record_size p)) (at-akey objs p k.0) (of-length (len * record_size p) k.1))
    (of-array (record_size p) low len (has-unit objs p units k.0.declared) k.2)
read-in-form objs (read.Dkeys p) units k = at-object objs p k
read-in-form objs (read.Akeys p) units k = at-dkey objs p k
read-in-form objs (read.Exists p) units k = any-path objs p k

pub write-in-form : (objs : List ObjDecl) (w : Write) → HaveUnits objs → IsWriteInForm objs w → is_write_in_form w ≡ true
unfolding is_write_in_form
write-in-form objs (write.Single p bytes) units k = both (ends_at_akey p) (is_length (length bytes)) (at-akey objs p k.0) (of-length (length bytes) k.1)
write-in-form objs (write.Extent p low bytes) units k =
    both (ends_at_akey p && is_length (length bytes)) (fits_records (record_size p) low (length bytes))
    (both (ends_at_akey p) (is_length (length bytes)) (at-akey objs p k.0) (of-length (length bytes) k.1))
    (of-records (record_size p) low (length bytes) (has-unit objs p units k.0.declared) k.2 k.3)
write-in-form objs (write.PunchObject p) units k = at-object objs p k
write-in-form objs (write.PunchDkey p) units k = at-dkey objs p k
write-in-form objs (write.PunchAkey p) units k = at-akey objs p k

-- ---- the writes of an attempt

-- the numbers of writes among operations that are numbered from n
minor-from : (n : ℕ) (ops : List Op) (w : MinorWrite) → Has w (minor_writes n ops) → (n ≤ w.minor) × (w.minor < n + length ops)
unfolding minor_writes
minor-from n [] w i = absurd i
minor-from n (op ∷ ops) w i = by op.act (has-cases (minor_write n op.act) (minor_writes (n + 1) ops) w i) (minor-from (n + 1) ops w)
  where
    later : (n + 1 ≤ w.minor) × (w.minor < n + 1 + length ops) → (n ≤ w.minor) × (w.minor < n + suc (length ops))
    later k = let low : n + 1 ≤ w.minor = k.0 in let high : w.minor < n + 1 + length ops = k.1 in (omega (arith, low), omega (arith, high))

    by : (a : Act) → Has w (minor_write n a) ⊎ Has w (minor_writes (n + 1) ops) → (Has w (minor_writes (n + 1) ops) → (n + 1 ≤ w.minor) × (w.minor < n + 1 + length ops)) → (n ≤ w.minor) × (w.minor < n + suc (length ops))
    by a (inr j) rest = later (rest j)
    by (act.Fetch r) (inl j) rest = absurd j
    by (act.Change x) (inl (inl e)) rest = let m : w.minor ≡ n = ap (λ z. z.minor) e in (omega (arith, m), omega (arith, m))
    by (act.Change x) (inl (inr j)) rest = absurd j

-- they rise
minors-rise : (n : ℕ) (ops : List Op) → AllPairs (λ a b. a < b) (map minor_of (minor_writes n ops))
unfolding minor_writes
minors-rise n [] = all-pairs-nil
  where
    all-pairs-nil : AllPairs (λ a b. a < b) []
    all-pairs-nil i j d lt short = let no : ⊥ = omega (arith, lt, short) in absurd no
minors-rise n (op ∷ ops) = by op.act (minors-rise (n + 1) ops)
  where
    above : (m : ℕ) → Has m (map minor_of (minor_writes (n + 1) ops)) → n < m
    above m i =
        let w = has-from_map minor_of (minor_writes (n + 1) ops) m i in
        let low : n + 1 ≤ w.0.minor = (minor-from (n + 1) ops w.0 w.1).0 in
        let same : w.0.minor ≡ m = w.2 in
        omega (arith, low, same)

    by : (a : Act) → AllPairs (λ a b. a < b) (map minor_of (minor_writes (n + 1) ops)) → AllPairs (λ a b. a < b) (map minor_of (minor_write n a ++ minor_writes (n + 1) ops))
    by (act.Fetch r) rest = rest
    by (act.Change x) rest = AllPairs-cons (λ a b. a < b) n (map minor_of (minor_writes (n + 1) ops)) (all-from_has (λ m. n < m) (map minor_of (minor_writes (n + 1) ops)) above) rest

-- they are no more than the operations
minors-few : (n : ℕ) (ops : List Op) → length (minor_writes n ops) ≤ length ops
unfolding minor_writes
minors-few n [] = omega arith
minors-few n (op ∷ ops) = by op.act (minors-few (n + 1) ops)
  where
    by : (a : Act) → length (minor_writes (n + 1) ops) ≤ length ops → length (minor_write n a ++ minor_writes (n + 1) ops) ≤ suc (length ops)
    by (act.Fetch r) k = omega (arith, k)
    by (act.Change x) k = omega (arith, k)

-- each is a write of an operation
minors-form : (objs : List ObjDecl) (n : ℕ) (ops : List Op) → All (IsOpInForm objs) ops → (w : MinorWrite) → Has w (minor_writes n ops) → IsWriteInForm objs w.write
unfolding minor_writes
minors-form objs n [] forms w i = absurd i
minors-form objs n (op ∷ ops) forms w i = by op.act (All-head (IsOpInForm objs) op ops forms).act (has-cases (minor_write n op.act) (minor_writes (n + 1) ops) w i) (minors-form objs (n + 1) ops (All-tail (IsOpInForm objs) op ops forms) w)
  where
    by : (a : Act) → IsActInForm objs a → Has w (minor_write n a) ⊎ Has w (minor_writes (n + 1) ops) → (Has w (minor_writes (n + 1) ops) → IsWriteInForm objs w.write) → IsWriteInForm objs w.write
    by a f (inr j) rest = rest j
    by (act.Fetch r) f (inl j) rest = absurd j
    by (act.Change x) f (inl (inl e)) rest = subst (IsWriteInForm objs) (sym (ap (λ z. z.write) e)) f
    by (act.Change x) f (inl (inr j)) rest = absurd j

-- the writes of a transaction of at most 64 operations in form are in form
pub writes-in-form : (objs : List ObjDecl) (ops : List Op) → HaveUnits objs → length ops ≤ 64 → All (IsOpInForm objs) ops → AreWritesInForm (minor_writes 0 ops)
writes-in-form objs ops units few forms = record {
  count = let k : length (minor_writes 0 ops) ≤ length ops = minors-few 0 ops in omega (arith, k, few);
  each = all-from_has (λ w. is_write_in_form w.write ≡ true) (minor_writes 0 ops) (λ w i. write-in-form objs w.write units (minors-form objs 0 ops forms w i));
  rising = increasing-pairs (map minor_of (minor_writes 0 ops)) (minors-rise 0 ops);
  minors = all-from_has (λ w. w.minor < 64) (minor_writes 0 ops) (λ w i. let k : w.minor < 0 + length ops = (minor-from 0 ops w i).1 in omega (arith, k, few));
}

pub writes-declared : (objs : List ObjDecl) (ops : List Op) → All (IsOpInForm objs) ops → (w : MinorWrite) → Has w (minor_writes 0 ops) → IsWriteInForm objs w.write
writes-declared objs ops forms w i = minors-form objs 0 ops forms w i

-- ---- the operations of attempts

-- each numbered command of a client in form is in form, for some snapshots that are known there
pub numbered-form : (conts : List ContDecl) (objs : List ObjDecl) (known : List SnapName) (list : List Command) (n : ℕ) (d : Command) → AreCommands conts objs known list → slice_get (numbered list) n ≡ Some d
    → (names : List SnapName) × IsCommand conts objs names d
numbered-form conts objs known [] n d f at = let no : ⊥ = cc in absurd no
numbered-form conts objs known (c ∷ cs) n d f at = by (is_numbered c) n at (λ m. numbered-form conts objs (known ++ snap_of c) cs m d f.1)
  where
    by : (b : Bool) (m : ℕ) → slice_get (if b then c ∷ numbered cs else numbered cs) m ≡ Some d → ((i : ℕ) → slice_get (numbered cs) i ≡ Some d → (names : List SnapName) × IsCommand conts objs names d)
        → (names : List SnapName) × IsCommand conts objs names d
    by true zero h rest = let same : c ≡ d = cc in (known, subst (IsCommand conts objs known) same f.0)
    by true (suc m) h rest = rest m h
    by false m h rest = rest m h

-- a command has at most 64 operations
pub command-few : (conts : List ContDecl) (objs : List ObjDecl) (names : List SnapName) (d : Command) → IsCommand conts objs names d → length (ops_of d) ≤ 64
command-few conts objs names (Run ops turns snapshot) f = f.0.few
command-few conts objs names (Snap name cont) f = omega arith
command-few conts objs names (Aggregate cont) f = omega arith
command-few conts objs names (Tell client) f = omega arith
command-few conts objs names (Skip turns) f = omega arith

-- so has an attempt
pub ops-few : (targets : ℕ) (s : Script) (x : AttemptId) → IsInForm targets s → length (attempt_ops s x) ≤ 64
unfolding command_of
ops-few targets s x f = by (slice_get s.clients x.client) refl
  where
    of_list : (list : List Command) → AreCommands s.conts s.objs (map old_snap s.olds) list → (o : Option Command) → slice_get (numbered list) x.command ≡ o → length (ops_or_none o) ≤ 64
    of_list list commands None at = omega arith
    of_list list commands (Some d) at = let k = numbered-form s.conts s.objs (map old_snap s.olds) list x.command d commands at in command-few s.conts s.objs k.0 d k.1

    by : (o : Option (List Command)) → slice_get s.clients x.client ≡ o → length (attempt_ops s x) ≤ 64
    by None at = rw at (omega arith)
    by (Some list) at = rw at (of_list list (all-at (λ l. AreCommands s.conts s.objs (map old_snap s.olds) l) s.clients x.client list f.commands at) (slice_get (numbered list) x.command) refl)

-- ---- what operations ask

-- a path that a read or a write in form has may be asked whether there is a cell
of-akey : (objs : List ObjDecl) (p : Path) → IsAkeyOf objs p → IsPathOf objs p
of-akey objs p f = record { declared = f.declared; no_akey = λ none. let no : ⊥ = let bad : None ≡ Some f.dkey.0 = sym none ∙ f.dkey.1 in cc in absurd no }

of-dkey : (objs : List ObjDecl) (p : Path) → IsDkeyOf objs p → IsPathOf objs p
of-dkey objs p f = record { declared = f.declared; no_akey = λ none. f.no_akey }

of-whole : (objs : List ObjDecl) (p : Path) → IsObjectOf objs p → IsPathOf objs p
of-whole objs p f = record { declared = f.declared; no_akey = λ none. f.no_akey }

read-path : (objs : List ObjDecl) (q : Read) → IsReadInForm objs q → IsPathOf objs (read_path q)
read-path objs (read.Single p) f = of-akey objs p f
read-path objs (read.Extent p low len) f = of-akey objs p f.0
read-path objs (read.Dkeys p) f = of-whole objs p f
read-path objs (read.Akeys p) f = of-dkey objs p f
read-path objs (read.Exists p) f = f

write-path : (objs : List ObjDecl) (w : Write) → IsWriteInForm objs w → IsPathOf objs (write_path w)
write-path objs (write.Single p bytes) f = of-akey objs p f.0
write-path objs (write.Extent p low bytes) f = of-akey objs p f.0
write-path objs (write.PunchObject p) f = of-whole objs p f
write-path objs (write.PunchDkey p) f = of-dkey objs p f
write-path objs (write.PunchAkey p) f = of-akey objs p f

act-exists : (objs : List ObjDecl) (a : Act) → IsActInForm objs a → IsReadInForm objs (read.Exists (act_path a))
act-exists objs (act.Fetch q) f = read-path objs q f
act-exists objs (act.Change w) f = write-path objs w f

-- an operation in form asks for what is in form
pub question-form : (objs : List ObjDecl) (st : Stage) (op : Op) (q : Read) → IsOpInForm objs op → question st op ≡ Some q → IsReadInForm objs q
question-form objs st op q f asks = by st op.act op.cond asks f.act
  where
    by : (st : Stage) (act : Act) (cond : Cond) → question st (record { act = act; cond = cond }) ≡ Some q → IsActInForm objs act → IsReadInForm objs q
    by stage.Skip a b h g = let no : ⊥ = cc in absurd no
    by stage.Cond a cond.Free h g = let no : ⊥ = cc in absurd no
    by stage.Cond a cond.Must h g = let same : read.Exists (act_path a) ≡ q = cc in subst (IsReadInForm objs) same (act-exists objs a g)
    by stage.Cond a cond.MustNot h g = let same : read.Exists (act_path a) ≡ q = cc in subst (IsReadInForm objs) same (act-exists objs a g)
    by stage.Act (act.Fetch r) c h g = let same : r ≡ q = cc in subst (IsReadInForm objs) same g
    by stage.Act (act.Change w) c h g = let no : ⊥ = cc in absurd no

-- a class fits the targets, for each write of an attempt
pub writes-fit : (r : Rules) (x : AttemptId) (m : MinorWrite) → IsInForm r.script.targets r.script → Has m (minor_writes 0 (attempt_ops r.script x)) → FitsTargets r m.write
writes-fit r x m form i =
    fit-object r.script.targets r.script.objs (write_path m.write) form.classes (write-declared r.script.objs m.write (writes-declared r.script.objs (attempt_ops r.script x) (ops-form r.script.targets r.script x form) m i))

-- the writes of an attempt are in form
pub attempt-writes-form : (targets : ℕ) (s : Script) (x : AttemptId) → IsInForm targets s → All (λ w. is_write_in_form w.write ≡ true) (minor_writes 0 (attempt_ops s x))
attempt-writes-form targets s x form = (writes-in-form s.objs (attempt_ops s x) form.declared.obj_units (ops-few targets s x form) (ops-form targets s x form)).each

-- ---- the laws

-- a read of a script in form is in form, where declared objects have record sizes
abbrev pub ReadsAreInForm : Type 0
ReadsAreInForm = (objs : List ObjDecl) (q : Read) → HaveUnits objs → IsReadInForm objs q → is_read_in_form q ≡ true

-- the writes of an attempt of at most 64 operations in form are in form, and each is as the script declares
abbrev pub WritesAreInForm : Type 0
WritesAreInForm = (objs : List ObjDecl) (ops : List Op) → HaveUnits objs → length ops ≤ 64 → All (IsOpInForm objs) ops → AreWritesInForm (minor_writes 0 ops) × ((w : MinorWrite) → Has w (minor_writes 0 ops) → IsWriteInForm objs w.write)

pub writes-are-in-form : WritesAreInForm
writes-are-in-form objs ops units few forms = (writes-in-form objs ops units few forms, writes-declared objs ops forms)
