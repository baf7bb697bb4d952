-- What an attempt was told is right, where what targets served was answered right.
use Rattle.std.specs.Prelude.{ℕ, ◌≡◌, max, Bool, true, false, List, [], ◌∷◌, All, Option, Some, None, refl}
use Rattle.std.proofs.Common.{sym, ◌∙◌, ap, subst, arith}
use Rattle.std.proofs.lemmas.List.Elements.{All-head}
use Rattle.base_types.specs.declared.answer.Answer.{Answer}
use Rattle.base_types.specs.declared.epoch.Epoch.{Epoch}
use Rattle.base_types.specs.declared.id.AttemptId.{AttemptId}
use Rattle.base_types.specs.declared.operation.Read.{Read}
use Rattle.base_types.specs.declared.operation.Read.TheVariants as read
use Rattle.base_types.specs.Placement.{ClassFits}
use Rattle.model_laws.specs.Decided.{taken_in}
use Rattle.daos_model.specs.Accesses.{op_path}
use Rattle.daos_model.specs.Answers.{has_cell_below, yes_or_no}
use Rattle.daos_model.specs.Attempts.{tries}
use Rattle.daos_model.specs.ReadsLegal.{AttemptReadsLegal, IsRightAnswer, IsRightCondition, IsToldRight, map_read}
use Rattle.daos_model.specs.Transactions.{attempt_ops}
use Rattle.world_commit.specs.world_base.ClientTurns.{is_yes}
use Rattle.world_contents.specs.gots.FormLaws.{condition-askable, ops-form, read-askable}
use Rattle.world_contents.specs.gots.Gots.{AreJoined, AreServed, IsGot, IsLineServed, IsTold, NoneYet, OneMore}
use Rattle.world_contents.specs.gots.MoreLaws.{all-more, unknown-unserved}
use Rattle.world_contents.specs.gots.Right.{LinesAreRight, NothingIsToldBefore, ReportsAreRight, ToldIsRight, AreAnsweredRight, NothingIsToldOfNone}
use Rattle.world_contents.specs.gots.RightLaws.{joins-right}
use Rattle.world_commit.specs.attempts.History.{History}
use Rattle.world_contents.specs.reads.Transactions.{transactions}
use Rattle.world_contents.specs.reads.Reads.{map_seen}
use Rattle.daos_model.specs.declared.cell.CellValue.{CellValue}
use Rattle.daos_model.specs.Opening.{Opening}
use Rattle.world_commit.specs.world_base.Events.{Rules}

-- ---- what is told is right

pub yes-is : (b : Bool) → is_yes (yes_or_no b) ≡ b
yes-is true = refl
yes-is false = refl

pub told-right : ToldIsRight
told-right r o h ops a e m fits forms all seen dkeys s = (
  all-more (IsGot h a.id r.script.targets ops (Some e)) (IsRightAnswer ops m) a.gots got s.gots,
  all-more (IsTold h a.id r.script.targets ops (Some e)) (IsRightCondition ops m) a.conds told s.conds,
)
  where
    got : (x : ℕ × Answer) → IsGot h a.id r.script.targets ops (Some e) x → IsRightAnswer ops m x
    got x g = (g.read, g.is_read, joins-right r o h a.id x.0 g.read e x.1 m all (read-askable r.script.targets r.script.objs ops x.0 g.read fits forms g.is_read) seen dkeys g.joins)

    told : (x : ℕ × Bool) → IsTold h a.id r.script.targets ops (Some e) x → IsRightCondition ops m x
    told x t = (
      t.op,
      t.at,
      t.conditional,
      t.says
          ∙ ap is_yes (joins-right r o h a.id x.0 (read.Exists (op_path t.op)) e t.found m all (condition-askable r.script.targets r.script.objs ops x.0 t.op fits forms t.at) seen dkeys t.joins)
          ∙ yes-is (has_cell_below (op_path t.op) m),
    )

-- ---- nothing is told without an epoch

none-joined : (h : History) (x : AttemptId) (targets op : ℕ) (q : Read) (n : ℕ) (found : Option Answer) → AreJoined h x targets op q None n found → n ≡ 0
none-joined h x targets op q n found NoneYet = refl
none-joined h x targets op q n found (OneMore m before b j s) = absurd (unknown-unserved h x op _ q b s)

none-whole : (h : History) (x : AttemptId) (targets op c : ℕ) (q : Read) (b : Answer) → AreJoined h x targets op q None (max 1 c) (Some b) → ⊥
none-whole h x targets op c q b j = let z : max 1 c ≡ 0 = none-joined h x targets op q (max 1 c) (Some b) j in omega (arith, z)

none-of : {T : Type 0} (P : T → Type 0) (xs : List T) → ((x : T) → P x → ⊥) → All P xs → xs ≡ []
none-of P [] never all = refl
none-of P (x ∷ xs) never all = absurd (never x (All-head P x xs all))

pub nothing-told : NothingIsToldBefore
nothing-told h x targets ops a s = (
  none-of (IsGot h x targets ops None) a.gots (λ got g. none-whole h x targets got.0 _ g.read got.1 g.joins) s.gots,
  none-of (IsTold h x targets ops None) a.conds (λ told t. none-whole h x targets told.0 _ (read.Exists (op_path t.op)) t.found t.joins) s.conds,
)

-- nor where it reads at a snapshot that isn't kept
none-at : (r : Rules) (o : Opening) (h : History) (x : AttemptId) (op c : ℕ) (q : Read) (b : Answer) (e : Epoch) → AreAnsweredRight r o h → map_seen r o h x e ≡ None → AreJoined h x r.script.targets op q (Some e) (max 1 c) (Some b) → ⊥
none-at r o h x op c q b e all none j = by (max 1 c) (Some b) (some-asked c) j
  where
    some-asked : (c : ℕ) → max 1 c ≡ 0 → ⊥
    some-asked c z = omega (arith, z)

    by : (n : ℕ) (found : Option Answer) → (n ≡ 0 → ⊥) → AreJoined h x r.script.targets op q (Some e) n found → ⊥
    by n found some NoneYet = some refl
    by n found some (OneMore i before a k s) =
        let right = all s.q s.among in
        let when : s.q.epoch ≡ e = let one : Some e ≡ Some s.q.epoch = s.at in cc in
        let no : ⊥ = cc (sym right.seen ∙ ap (λ z. map_seen r o h z s.q.epoch) s.of_attempt ∙ ap (map_seen r o h x) when ∙ none) in
        no

pub nothing-told_of_none : NothingIsToldOfNone
nothing-told_of_none r o h ops a e all none s = (
  none-of (IsGot h a.id r.script.targets ops (Some e)) a.gots (λ got g. none-at r o h a.id got.0 _ g.read got.1 e all none g.joins) s.gots,
  none-of (IsTold h a.id r.script.targets ops (Some e)) a.conds (λ told t. none-at r o h a.id told.0 _ (read.Exists (op_path t.op)) t.found e all none t.joins) s.conds,
)

-- ---- lines

pub lines-right : LinesAreRight
lines-right r o h targets a form all dkeys s = by a.epoch s
  where
    fits : All (λ d. ClassFits d.id.class r.script.targets) r.script.objs
    fits = subst (λ n. All (λ d. ClassFits d.id.class n) r.script.objs) (sym form.read_for) form.classes

    seen : (e : Epoch) (m : Option (List CellValue)) → map_seen r o h a.id e ≡ m → AreServed h a.id r.script.targets (attempt_ops r.script a.id) (Some e) a.gots a.conds → IsToldRight (attempt_ops r.script a.id) m a
    seen e None none t = nothing-told_of_none r o h (attempt_ops r.script a.id) a e all none t
    seen e (Some m) is t = told-right r o h (attempt_ops r.script a.id) a e m fits (ops-form targets r.script a.id form) all is (dkeys a.id e m is) t

    by : (known : Option Epoch) → AreServed h a.id r.script.targets (attempt_ops r.script a.id) known a.gots a.conds
        → IsToldRight (attempt_ops r.script a.id) (map_read r.script o.stand (taken_in (transactions r.script h)) a known) a
    by None t = nothing-told h a.id r.script.targets (attempt_ops r.script a.id) a t
    by (Some e) t = seen e (map_seen r o h a.id e) refl t

pub reports-right : ReportsAreRight
reports-right r o h w targets q form all dkeys g same =
    subst (λ ls. All (AttemptReadsLegal r.script o.stand (taken_in (transactions r.script h))) (tries ls)) (sym same)
    (all-more (IsLineServed r h) (AttemptReadsLegal r.script o.stand (taken_in (transactions r.script h))) (tries w.lines) (λ a s. lines-right r o h targets a form all dkeys s) g.lines)
