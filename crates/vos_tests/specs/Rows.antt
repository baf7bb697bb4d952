-- What the rows over stores name, and what their steps make of what a store keeps.
use Rattle.std.specs.Prelude.{◌≡◌, ◌≤◌, ℕ, false, true, List, [], ◌∷◌, Option, Some}
use Rattle.base_types.specs.declared.entry.Entry.{Entry}
use Rattle.base_types.specs.declared.epoch.Epoch.{Epoch}
use Rattle.base_types.specs.declared.id.AttemptId.{AttemptId}
use Rattle.base_types.specs.declared.id.Class.TheVariants.{S1}
use Rattle.base_types.specs.declared.id.ContId.{ContId}
use Rattle.base_types.specs.declared.operation.MinorWrite.{MinorWrite}
use Rattle.base_types.specs.declared.entry.Settle.TheVariants.{Commit}
use Rattle.base_types.specs.declared.operation.Write.{Write}
use Rattle.base_types.specs.declared.operation.Write.TheVariants.{Single}
use Rattle.base_types.specs.declared.outcome.FloorWhy.{FloorWhy}
use Rattle.base_types.specs.declared.outcome.FloorWhy.TheVariants.{Opening}
use Rattle.base_types.specs.declared.path.Path.{Path}
use Rattle.base_types.specs.Operations.{write_path}
use Rattle.daos_model.specs.declared.durable.Durable.{Durable}
use Rattle.daos_model.specs.Changes.{enlisted, leased, prepared, settled}
use Rattle.daos_model.specs.Durables.{empty_durable}
use Rattle.daos_model.specs.Forms.{is_write_in_form}
use Rattle.vos_store.specs.Calls.{State}
use Rattle.vos_store.specs.Conditions.{CanPrepare}

abbrev pub cont : ContId
cont = record { 0 = 1 }

abbrev pub epoch : ℕ → Epoch
epoch e = record { 0 = e }

-- the akey a under the dkey d of the object of class S1 and number 0 with records of four bytes
abbrev pub akey : Path
akey = record { cont = cont; obj = Some (record { class = S1; number = 0; unit = 4 }); dkey = Some (100 ∷ []); akey = Some (97 ∷ []) }

-- the first attempt of a command of the first client
abbrev pub attempt : ℕ → AttemptId
attempt n = record { client = 0; command = n; attempt = 0 }

-- what target 0 keeps of an attempt that it leads alone, at an epoch
abbrev pub entry_at : ℕ → ℕ → Entry
entry_at n e = record { attempt = attempt n; epoch = epoch e; leader = 0; members = 1; confirmed = 0; committed = false }

abbrev pub entry : ℕ → Entry
entry n = entry_at n 256

-- the writes of a transaction that has one
abbrev pub alone : Write → List MinorWrite
alone w = record { minor = 0; write = w } ∷ []

-- the container is there, and the lease is 65,536
unfoldable pub started : Durable
started = leased 65536 (enlisted (cont ∷ []) (empty_durable 1))

-- a write at 256 is prepared
unfoldable pub staged : ℕ → Write → Durable
staged n w = prepared (entry n) (alone w) started

-- a value at the akey
abbrev pub value : List ℕ → Write
value bytes = Single akey bytes

-- an attempt put it at an epoch, and is committed
unfoldable pub put : ℕ → ℕ → List ℕ → Durable → Durable
put n e bytes d = settled (attempt n) Commit (prepared (entry_at n e) (alone (value bytes)) d)

-- it may be put there
abbrev pub CanPut : State → ℕ → ℕ → List ℕ → Durable → Type 0
CanPut s n e bytes d = CanPrepare s (entry_at n e) (alone (value bytes)) d

-- the values `one` and `two`
abbrev pub one : List ℕ
one = 111 ∷ 110 ∷ 101 ∷ []

abbrev pub two : List ℕ
two = 116 ∷ 119 ∷ 111 ∷ []

-- `one` was put at 256, and then `two` at 512
unfoldable pub put_one : Durable
put_one = put 0 256 one started

unfoldable pub put_two : Durable
put_two = put 1 512 two put_one

-- a store that was never opened again
abbrev pub unopened : Epoch × FloorWhy
unopened = (epoch 0, Opening)

-- a store runs on after a step, and how it was made and opened stays
pub record RunsOn (h k : State) : Type 0 where
  pub runs : k.stopped ≡ false
  pub targets : k.targets ≡ h.targets
  pub opening : k.opening ≡ h.opening

-- a write in form, in the container of the rows
pub record IsHere (w : Write) : Type 0 where
  pub form : is_write_in_form w ≡ true
  pub cont : (write_path w).cont ≡ cont

-- a store that was never used, and never opened again
pub record IsUnused (s : State) (kept : Option Durable) : Type 0 where
  pub runs : s.stopped ≡ false
  pub targets : 1 ≤ s.targets
  pub opening : s.opening ≡ unopened
  pub empty : kept ≡ Some (empty_durable 1)
