-- What is kept where fixed places hold a table.
use Rattle.std.specs.Prelude.{◌≡◌, List, Result, Ok, Err}
use Rattle.base_types.specs.declared.entry.Entry.{Entry}
use Rattle.daos_model.specs.declared.durable.Durable.{Durable}
use Rattle.daos_model.specs.declared.durable.Version.{Version}
use Rattle.daos_model.specs.Durables.{cont_key, snap_key}
use Rattle.daos_model.specs.Ordered.{in_order}
use Rattle.vos_places.specs.Tables.{Table, those}

-- with these versions and entries: the rows of the table in their order, its lease and its incarnation
abbrev pub kept_with : Table → List Version → List Entry → Durable
kept_with t vs es = record { versions = vs; entries = es; conts = in_order cont_key (those t.conts); snaps = in_order snap_key (those t.snaps); lease = t.header.lease; incarnation = t.header.incarnation }

-- whatever versions and entries there are, this holds of what is kept
abbrev pub OfKept : Table → (Durable → Type 0) → Type 0
OfKept t P = (vs : List Version) (es : List Entry) → P (kept_with t vs es)

-- whatever they are, from the one table to the other what is kept changes by this
abbrev pub Makes : (Durable → Durable) → Table → Table → Type 0
Makes change t u = (vs : List Version) (es : List Entry) → kept_with u vs es ≡ change (kept_with t vs es)

-- and so it does where this may be asked of what is kept
abbrev pub MakesWhere : (Durable → Type 0) → (Durable → Durable) → Table → Table → Type 0
MakesWhere Asked change t u = (vs : List Version) (es : List Entry) → Asked (kept_with t vs es) → kept_with u vs es ≡ change (kept_with t vs es)

-- a plan as an answer, without what is to be done
abbrev pub answer_of : {T E : Type 0} → Result T E → Result (Unit {0}) E
answer_of (Ok x) = Ok tt
answer_of (Err e) = Err e
