-- What is heard and sent where snapshots are made and containers aggregated is neither asked nor told of attempts between targets.
use Rattle.std.specs.Prelude.{ℕ, ◌≡◌, true, List, Option}
use Rattle.std.proofs.Common.{subst}
use Rattle.base_types.specs.declared.id.AttemptId.{AttemptId}
use Rattle.base_messages.specs.declared.actor.ActorId.{ActorId}
use Rattle.base_messages.specs.declared.message.Message.{Message, more_of-Message}
use Rattle.base_messages.specs.declared.message.Message.TheVariants as message
use Rattle.dtx_base.specs.declared.leading.Naming.{Naming}
use Rattle.world_causes.specs.world_commit.asks.Asks.{IsMark, IsMarked, IsNamingOf, IsQuery, IsQueryOf, IsVerdict}
use Rattle.world_causes.specs.world_commit.asks.Told.{IsPrepareOf}
use Rattle.world_base.specs.declared.letter.Letter.{Letter}
use Rattle.world_making.specs.fates.Sends.{is_sent_in_making}
use Rattle.world_making.specs.making.Making.{IsOfMaking, is_of_snapshots}
use Rattle.world_causes.specs.world_commit.questions.Facts.{IsMarkFor, IsNamingReset, IsQueryReset, IsResetBy, NamesSender}

-- ---- what is heard

pub mark-unheard : (m : Message) (inc : ℕ) (marks : List _) → IsOfMaking m → m ≡ message.Mark inc marks → ⊥
mark-unheard m inc marks making is = let bad : IsOfMaking (message.Mark inc marks) = subst IsOfMaking is making in let no : ⊥ = cc in absurd no

-- it is no Mark, nor its answer, nor its Reset
pub naming-unheard : (u : ℕ) (n : Naming) (l : Letter) → IsOfMaking l.message → IsNamingOf u n l → ⊥
naming-unheard u n l making (IsMark marks is from to names) = mark-unheard l.message n.inc marks making is
naming-unheard u n l making (IsMarked ids is from to names) = let bad : IsOfMaking (message.Marked n.inc ids) = subst IsOfMaking is making in let no : ⊥ = cc in absurd no

naming-kept : (n : Naming) (by : ℕ) (q : Message) → IsOfMaking q → IsResetBy by (IsMarkFor n) q → ⊥
naming-kept n by (message.Reset' t down place (more_of-Message q rest)) making k =
    let bad : is_of_snapshots (message.Mark n.inc k.1.marks) ≡ true = subst (λ y. is_of_snapshots y ≡ true) k.1.mark making in let no : ⊥ = cc in absurd no
naming-kept n by q making k = k

pub naming-unlost : (u : ℕ) (n : Naming) (l : Letter) → IsOfMaking l.message → IsNamingReset u n l → ⊥
naming-unlost u n l making k = naming-kept n n.member l.message making k.tells

-- nor a Query, nor its Verdict, nor its Reset
pub query-unheard : (m : ℕ) (x : AttemptId) (ask : Option AttemptId) (l : Letter) → IsOfMaking l.message → IsQueryOf m x ask l → ⊥
query-unheard m x ask l making (IsQuery leader is from to) = let bad : IsOfMaking (message.Query x ask) = subst IsOfMaking is making in let no : ⊥ = cc in absurd no
query-unheard m x ask l making (IsVerdict inc said is to) = let bad : IsOfMaking (message.Verdict x ask inc said) = subst IsOfMaking is making in let no : ⊥ = cc in absurd no

query-kept : (x : AttemptId) (ask : Option AttemptId) (by : ℕ) (q : Message) → IsOfMaking q → IsResetBy by (λ y. y ≡ message.Query x ask) q → ⊥
query-kept x ask by (message.Reset' t down place (more_of-Message q rest)) making k =
    let bad : is_of_snapshots (message.Query x ask) ≡ true = subst (λ y. is_of_snapshots y ≡ true) k.1 making in let no : ⊥ = cc in absurd no
query-kept x ask by q making k = k

pub query-unlost : (m : ℕ) (x : AttemptId) (ask : Option AttemptId) (l : Letter) → IsOfMaking l.message → IsQueryReset m x ask l → ⊥
query-unlost m x ask l making k = query-kept x ask k.leader l.message making k.tells

-- ---- what is sent

-- no Query, nor a Verdict
pub query-unsent : (m : ℕ) (x : AttemptId) (ask : Option AttemptId) (l : Letter) → is_sent_in_making l.message ≡ true → IsQueryOf m x ask l → ⊥
query-unsent m x ask l sent (IsQuery leader is from to) = let bad : is_sent_in_making (message.Query x ask) ≡ true = subst (λ y. is_sent_in_making y ≡ true) is sent in let
    no : ⊥ = cc in absurd no
query-unsent m x ask l sent (IsVerdict inc said is to) = let bad : is_sent_in_making (message.Verdict x ask inc said) ≡ true = subst (λ y. is_sent_in_making y ≡ true) is sent in
    let no : ⊥ = cc in absurd no

-- nor a Prepare
pub prepare-unsent : (m : ℕ) (x : AttemptId) (to : ActorId) (q : Message) → is_sent_in_making q ≡ true → IsPrepareOf m x to q → ⊥
prepare-unsent m x to q sent k = let bad : is_sent_in_making (message.Prepare k.e k.first k.ws k.inc) ≡ true = subst (λ y. is_sent_in_making y ≡ true) k.is sent in let no : ⊥ = cc
    in absurd no

-- nor a Reset
pub sent-names : (from : ActorId) (m : Message) → is_sent_in_making m ≡ true → NamesSender from m
sent-names from (message.Reset' t down place asked) sent = let no : ⊥ = cc in absurd no
sent-names from m sent = tt
