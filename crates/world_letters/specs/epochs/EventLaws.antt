-- Every right event of a run keeps what is said of epochs, where it keeps what is said of conversations; and it holds at the beginning.
use Rattle.std.specs.Prelude.{ℕ, ◌≡◌, ◌≤◌, ◌<◌, ◌-◌, ◌++◌, List, [], ◌∷◌, length, Contains, slice_get, Some, None}
use Rattle.std.proofs.Common.{sym, subst}
use Rattle.base_types.specs.declared.report.Attempt.{Attempt}
use Rattle.base_types.specs.declared.report.Line.{Line}
use Rattle.base_types.specs.declared.script.Script.{Script}
use Rattle.daos_model.specs.Attempts.{tries}
use Rattle.daos_model.specs.Order.{AllRise}
use Rattle.world_base.specs.declared.client.ClientState.{ClientState}
use Rattle.world_base.specs.declared.target.TargetState.{TargetState}
use Rattle.world_base.specs.declared.world.World.{World}
use Rattle.world_base.specs.ClientTurns.{heard, moved}
use Rattle.world_letters.specs.clients.MoveLaws as clients
use Rattle.world_letters.specs.clients.Standing.{HasTold, tells}
use Rattle.world_base.specs.Events.{ByClient, ByTarget, RightEvent, Rules, ToClient, ToTarget, client_plan}
use Rattle.world_base.specs.StepLaws.{by-hearing, by-next}
use Rattle.world_base.specs.Steps.{KeptByCounting, KeptByHearing, KeptByMoves}
use Rattle.world_letters.specs.epochs.Epochs.{ClientsStand, InCause, IsTold, ItsOwn, Epochs}
use Rattle.world_letters.specs.epochs.Lists.{at-set, contains-none, none-issued}

-- ---- clients stand at their commands

module _ (r : Rules) (some : 0 < r.attempts) where
  pub stands-by-moves : KeptByMoves r (ClientsStand r)
  stands-by-moves w n c here S =
      at-set w.clients n c (moved (client_plan r n) c).state (λ m z. (attempts : List Attempt) × HasTold (client_plan r m) z attempts) here
      (let k = S n c here in (k.0 ++ tells (moved (client_plan r n) c), clients.moved-keeps (client_plan r n) c k.0 some k.1)) (λ m z off at. S m z at)

  pub stands-by-hearing : KeptByHearing r (ClientsStand r)
  stands-by-hearing w n c l rest here awake takes to S =
      at-set w.clients n c (heard (client_plan r n) c l.message).state (λ m z. (attempts : List Attempt) × HasTold (client_plan r m) z attempts) here
      (let k = S n c here in (k.0 ++ tells (heard (client_plan r n) c l.message), clients.heard-keeps (client_plan r n) c k.0 l.message k.1)) (λ m z off at. S m z at)

  pub stands-by-counting : KeptByCounting (ClientsStand r)
  stands-by-counting w n k c here S = at-set w.clients n c (record c { skip = k }) (λ m z. (attempts : List Attempt) × HasTold (client_plan r m) z attempts) here (S n c here) (λ m z off at. S m z at)

  pub clients-stand : (w v : World) → ClientsStand r w → RightEvent r w v → ClientsStand r v
  clients-stand w v S (ByClient g) = by-next r (ClientsStand r) stands-by-moves stands-by-counting w v S g
  clients-stand w v S (ToClient g) = by-hearing r (ClientsStand r) stands-by-moves stands-by-hearing w v S g
  clients-stand w v S (ToTarget g) = subst (ClientsStand r) (sym g.after) S
  clients-stand w v S (ByTarget g) = subst (ClientsStand r) (sym g.after) S

-- ---- the beginning

-- a world at its beginning: nothing is in flight, issued, kept for others or told of; clients are at no attempt, and their trackers
-- cover all epochs of the opening
pub record IsBegun (top : ℕ) (w : World) : Type 0 where
  pub few : length w.targets ≤ 256
  pub messages : w.messages ≡ []
  pub issued : w.issued ≡ []
  pub lines : w.lines ≡ []
  pub entries : (t : ℕ) (s : TargetState) → slice_get w.targets t ≡ Some s → s.durable.entries ≡ []
  pub parked : (t : ℕ) (s : TargetState) → slice_get w.targets t ≡ Some s → s.memory.member.parked ≡ []
  pub clients : (n : ℕ) (c : ClientState) → slice_get w.clients n ≡ Some c → (c.present ≡ None) × (top ≤ c.tracker.0)

abbrev pub EpochsBegin : Type 0
EpochsBegin = (r : Rules) (top : ℕ) (w : World) → IsBegun top w → Epochs r top w

none-rise : (s : Script) (lines : List Line) → lines ≡ [] → AllRise s lines
none-rise s lines none [] a after e = let no : ⊥ = cc in absurd no
none-rise s lines none (b ∷ before) a after e = let no : ⊥ = cc in absurd no

pub epochs-begin : EpochsBegin
unfolding tries
epochs-begin r top w B = record {
  few = B.few;
  one = λ x e f h. absurd (contains-none (x, e) (subst (λ is. Contains is (x, e)) B.issued h));
  apart = λ x y e h. absurd (contains-none (x, e) (subst (λ is. Contains is (x, e)) B.issued h));
  above = λ x e h. absurd (contains-none (x, e) (subst (λ is. Contains is (x, e)) B.issued h));
  own = λ x e h. absurd (contains-none (x, e) (subst (λ is. Contains is (x, e)) B.issued h));
  issued_by = λ x e h. absurd (contains-none (x, e) (subst (λ is. Contains is (x, e)) B.issued h));
  issuer = λ x e h. absurd (contains-none (x, e) (subst (λ is. Contains is (x, e)) B.issued h));
  leased = λ x e s h. absurd (contains-none (x, e) (subst (λ is. Contains is (x, e)) B.issued h));
  ticks = λ x e s h. absurd (contains-none (x, e) (subst (λ is. Contains is (x, e)) B.issued h));
  line = λ x e h. absurd (contains-none (x, e) (subst (λ is. Contains is (x, e)) B.issued h));
  fresh = λ l x k h. absurd (contains-none l (subst (λ ls. Contains ls l) B.messages h));
  asker = λ l x k h. absurd (contains-none l (subst (λ ls. Contains ls l) B.messages h));
  asked = λ l x k h. absurd (contains-none l (subst (λ ls. Contains ls l) B.messages h));
  lacking = λ l x h. absurd (contains-none l (subst (λ ls. Contains ls l) B.messages h));
  dated = λ l h. absurd (contains-none l (subst (λ ls. Contains ls l) B.messages h));
  borne = λ l x e h. absurd (contains-none l (subst (λ ls. Contains ls l) B.messages h));
  entered = λ t s k here h. absurd (contains-none k (subst (λ ks. Contains ks k) (B.entries t s here) h));
  parked = λ t s p here h. absurd (contains-none p (subst (λ ps. Contains ps p) (B.parked t s here) h));
  reads = λ l h. absurd (contains-none l (subst (λ ls. Contains ls l) B.messages h));
  known = λ n c a e here at. let none : c.present ≡ None = (B.clients n c here).0 in let no : ⊥ = cc in absurd no;
  tracked = λ n c a e here at. let none : c.present ≡ None = (B.clients n c here).0 in let no : ⊥ = cc in absurd no;
  unknown = λ n c a here at. let none : c.present ≡ None = (B.clients n c here).0 in let no : ⊥ = cc in absurd no;
  unasked = λ n c a here at. let none : c.present ≡ None = (B.clients n c here).0 in let no : ⊥ = cc in absurd no;
  seen = λ n c a here at. let none : c.present ≡ None = (B.clients n c here).0 in let no : ⊥ = cc in absurd no;
  unmade = λ n c a here at. let none : c.present ≡ None = (B.clients n c here).0 in let no : ⊥ = cc in absurd no;
  trackers = λ n c here. ((B.clients n c here).1, λ e t. absurd (nothing-told n e t));
  rises = λ x e f p h. absurd (contains-none (x, e) (subst (λ is. Contains is (x, e)) B.issued h));
  same_command = λ x y e f h. absurd (contains-none (x, e) (subst (λ is. Contains is (x, e)) B.issued h));
  past = λ a c h. absurd (no-tries a h);
  shown = λ a e h. absurd (no-tries a h);
  distinct = none-issued r.script top w.lines B.lines;
  risen = none-rise r.script w.lines B.lines;
}
  where
    no-tries : (a : Attempt) → Contains (tries w.lines) a → ⊥
    no-tries a h = contains-none a (subst (λ ls. Contains (tries ls) a) B.lines h)

    nothing-told : (n e : ℕ) → IsTold r w n e → ⊥
    nothing-told n e (ItsOwn a h client' own has known sure is) = no-tries a h
    nothing-told n e (InCause a h client' among) = no-tries a h
