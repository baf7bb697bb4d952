-- What was served stays served: as more is remembered, and once an attempt's epoch is known.
use Rattle.std.specs.Prelude.{ℕ, Bool, List, [], ◌∷◌, All, map, Option, Some, None}
use Rattle.std.proofs.lemmas.List.Elements.{All-cons, All-head, All-nil, All-tail}
use Rattle.base_types.specs.declared.answer.Answer.{Answer}
use Rattle.base_types.specs.declared.epoch.Epoch.{Epoch}
use Rattle.base_types.specs.declared.id.AttemptId.{AttemptId}
use Rattle.base_types.specs.declared.operation.Op.{Op}
use Rattle.base_types.specs.declared.operation.Read.{Read}
use Rattle.world_commit.specs.world_base.declared.client.Present.{Present}
use Rattle.world_commit.specs.world_base.ClientTurns.{knows, knows_epoch}
use Rattle.world_commit.specs.world_base.Events.{or_issued}
use Rattle.world_contents.specs.gots.Gots.{AreJoined, AreServed, Found, IsFound, IsGot, IsServedSoFar, IsServedTo, IsTold, Nothing, NoneYet, OneMore, Remembers}
use Rattle.world_commit.specs.attempts.History.{History}

-- ---- lists

pub all-more : {T : Type 0} (P Q : T → Type 0) (xs : List T) → ((x : T) → P x → Q x) → All P xs → All Q xs
all-more P Q [] more all = All-nil Q
all-more P Q (x ∷ xs) more all = All-cons Q x xs (more x (All-head P x xs all)) (all-more P Q xs more (All-tail P x xs all))

pub all-mapped : {T U : Type 0} (P : T → Type 0) (Q : U → Type 0) (f : T → U) (xs : List T) → ((x : T) → P x → Q (f x)) → All P xs → All Q (map f xs)
all-mapped P Q f [] more all = All-nil Q
all-mapped P Q f (x ∷ xs) more all = All-cons Q (f x) (map f xs) (more x (All-head P x xs all)) (all-mapped P Q f xs more (All-tail P x xs all))

-- ---- what stays

-- what was served to an attempt by one history, where this epoch of it is known, was by another, where that one is
abbrev pub StaysServed : History → History → AttemptId → Option Epoch → Option Epoch → Type 0
StaysServed h k x known later = (op group : ℕ) (read : Read) (b : Answer) → IsServedTo h x op group read b known → IsServedTo k x op group read b later

pub joined-more : (h k : History) (x : AttemptId) (targets op : ℕ) (read : Read) (known later : Option Epoch) (n : ℕ) (found : Option Answer) → StaysServed h k x known later
    → AreJoined h x targets op read known n found → AreJoined k x targets op read later n found
joined-more h k x targets op read known later n found more NoneYet = NoneYet
joined-more h k x targets op read known later n found more (OneMore m before b j s) = OneMore m before b (joined-more h k x targets op read known later m before more j) (more op _ read b s)

got-more : (h k : History) (x : AttemptId) (targets : ℕ) (ops : List Op) (known later : Option Epoch) (got : ℕ × Answer) → StaysServed h k x known later
    → IsGot h x targets ops known got → IsGot k x targets ops later got
got-more h k x targets ops known later got more g = record { read = g.read; is_read = g.is_read; joins = joined-more h k x targets got.0 g.read known later _ _ more g.joins }

told-more : (h k : History) (x : AttemptId) (targets : ℕ) (ops : List Op) (known later : Option Epoch) (told : ℕ × Bool) → StaysServed h k x known later
    → IsTold h x targets ops known told → IsTold k x targets ops later told
told-more h k x targets ops known later told more g = record {
  op = g.op;
  at = g.at;
  conditional = g.conditional;
  found = g.found;
  joins = joined-more h k x targets told.0 _ known later _ _ more g.joins;
  says = g.says;
}

pub served-more : (h k : History) (x : AttemptId) (targets : ℕ) (ops : List Op) (known later : Option Epoch) (answers : List (ℕ × Answer)) (conditions : List (ℕ × Bool))
    → StaysServed h k x known later → AreServed h x targets ops known answers conditions → AreServed k x targets ops later answers conditions
served-more h k x targets ops known later answers conditions more s = record {
  gots = all-more (IsGot h x targets ops known) (IsGot k x targets ops later) answers (λ got. got-more h k x targets ops known later got more) s.gots;
  conds = all-more (IsTold h x targets ops known) (IsTold k x targets ops later) conditions (λ told. told-more h k x targets ops known later told more) s.conds;
}

-- ---- the epoch is known

-- an attempt of which no epoch is known was served nothing
pub unknown-unserved : (h : History) (x : AttemptId) (op group : ℕ) (read : Read) (b : Answer) → IsServedTo h x op group read b None → ⊥
unknown-unserved h x op group read b s = let e = s.at in cc

pub stays-known : (h : History) (x : AttemptId) (known own : Option Epoch) → StaysServed h h x known (knows_epoch known own)
stays-known h x None own op group read b s = absurd (unknown-unserved h x op group read b s)
stays-known h x (Some e) own op group read b s = s

pub stays-issued : (h : History) (x : AttemptId) (known : Option Epoch) (issued : List (AttemptId × Epoch)) → StaysServed h h x known (or_issued issued x known)
stays-issued h x None issued op group read b s = absurd (unknown-unserved h x op group read b s)
stays-issued h x (Some e) issued op group read b s = s

-- an attempt hears of its epoch
pub knows-more : (h : History) (x : AttemptId) (targets : ℕ) (ops : List Op) (own : Option Epoch) (a : Present) → IsServedSoFar h x targets ops a → IsServedSoFar h x targets ops (knows own a)
knows-more h x targets ops own a s = record { told = served-more h h x targets ops a.epoch (knows_epoch a.epoch own) a.gots a.conds (stays-known h x a.epoch own) s.told; found = by s.found }
  where
    by : IsFound h x targets ops a → IsFound h x targets ops (knows own a)
    by (Nothing g f) = Nothing g f
    by (Found op read at asks low j) = Found op read at asks low (joined-more h h x targets a.op read a.epoch (knows_epoch a.epoch own) a.group a.found (stays-known h x a.epoch own) j)

-- ---- more is remembered

pub stays-remembered : (h k : History) (x : AttemptId) (known : Option Epoch) → Remembers h k → StaysServed h k x known known
stays-remembered h k x known more op group read b s = record {
  q = s.q;
  among = more s.q s.among;
  of_attempt = s.of_attempt;
  of_op = s.of_op;
  of_group = s.of_group;
  asked = s.asked;
  gave = s.gave;
  at = s.at;
}

pub remembered-more : (h k : History) (x : AttemptId) (targets : ℕ) (ops : List Op) (a : Present) → Remembers h k → IsServedSoFar h x targets ops a → IsServedSoFar k x targets ops a
remembered-more h k x targets ops a more s = record { told = served-more h k x targets ops a.epoch a.epoch a.gots a.conds (stays-remembered h k x a.epoch more) s.told; found = by s.found }
  where
    by : IsFound h x targets ops a → IsFound k x targets ops a
    by (Nothing g f) = Nothing g f
    by (Found op read at asks low j) = Found op read at asks low (joined-more h k x targets a.op read a.epoch a.epoch a.group a.found (stays-remembered h k x a.epoch more) j)
