-- Attempts are aborted or decided that nobody is told of: where a turn is cut, and where a target opens.
use Rattle.std.specs.Prelude.{ℕ, ◌≡◌, ◌≢◌, ◌⊎◌, Bool, true, false, List, [], ◌∷◌, map, Contains, Option, Some, refl}
use Rattle.std.proofs.Common.{sym, ap, subst, inl, inr}
use Rattle.base_types.specs.declared.entry.Entry.{Entry}
use Rattle.base_types.specs.declared.epoch.Epoch.{Epoch}
use Rattle.base_types.specs.declared.id.AttemptId.{AttemptId}
use Rattle.base_types.specs.declared.outcome.Outcome.{Outcome}
use Rattle.base_types.specs.declared.outcome.Outcome.TheVariants.{Committed}
use Rattle.base_messages.specs.declared.message.Message.TheVariants as message
use Rattle.model_laws.specs.Members.{Has, has-from_contains, has-from_map, has-map}
use Rattle.daos_model.specs.declared.durable.Version.{Version}
use Rattle.daos_model.specs.BoolLaws.{clash}
use Rattle.daos_model.specs.Opening.{Opening}
use Rattle.world_contents.specs.world_commit.attempts.Attempts.{writes_of}
use Rattle.world_contents.specs.world_commit.attempts.History.{Decided, GrowsBy, History, Tells, decides, is_decided}
use Rattle.world_base.specs.declared.world.World.{World}
use Rattle.world_base.specs.Events.{Rules}
use Rattle.world_contents.specs.reads.ChangeLaws.{WasDecided, decided-has, has-decided}
use Rattle.world_contents.specs.reads.DecideLaws.{MayBeDecided}
use Rattle.world_contents.specs.reads.Given.{Given}
use Rattle.world_contents.specs.reads.LaterLaws.{IsHeldByAll, answered-as, stands-as}
use Rattle.world_contents.specs.reads.Reads.{Reads}
use Rattle.world_contents.specs.reads.Versions.{Versions}
use Rattle.world_causes.specs.restarts.DecideLaws.{decision-keeps}
use Rattle.world_contents.specs.world_commit.stops.Openings.{committed_end}

-- ---- more are aborted

pub aborted-on : (r : Rules) (o : Opening) (held : ℕ → List Version) (h : History) (w : World) (aborted : List AttemptId) → Versions r o held h w × Reads r o h w
    → Versions r o held (record { decided = h.decided; aborted = aborted; served = h.served }) w × Reads r o (record { decided = h.decided; aborted = aborted; served = h.served }) w
aborted-on r o held h w aborted k = (
  record { stand = λ t s here. stands-as r o (held t) h t s.durable aborted h.served (k.0.stand t s here); apart = k.0.apart; issued = k.0.issued; written = k.0.written },
  record {
    asked = k.1.asked;
    form = k.1.form;
    issued = k.1.issued;
    answers = λ q i. answered-as r o h q aborted h.served (k.1.answers q i);
    guarded = k.1.guarded;
    leased = k.1.leased;
    barred = k.1.barred;
    stamps = k.1.stamps;
  },
)

-- ---- more are decided

abbrev issue : AttemptId → Epoch → AttemptId × Epoch
issue x e = (x, e)

-- an entry's attempt may be decided, where it isn't: it is held by all, was issued its epoch, and writes something
pub record MayEnd (r : Rules) (w : World) (e : Entry) : Type 0 where
  pub held : IsHeldByAll r w e.attempt e.epoch
  pub issued : Contains w.issued (e.attempt, e.epoch)
  pub some : writes_of r e.attempt ≢ []

-- the attempts of some entries are decided, of those that weren't
pub record AreEnded (r : Rules) (o : Opening) (held : ℕ → List Version) (h : History) (w : World) (es : List Entry) : Type 0 where
  pub later : History
  pub before : (x : AttemptId) (e : Epoch) → Decided h x e → Decided later x e
  pub all : (e : Entry) → Has e es → Decided later e.attempt e.epoch
  pub only : (x : AttemptId) (f : Epoch) → Decided later x f → Decided h x f ⊎ ((e : Entry) × Has e es × (x ≡ e.attempt) × (f ≡ e.epoch))
  pub aborted : later.aborted ≡ h.aborted
  pub served : later.served ≡ h.served
  pub kept : Versions r o held later w × Reads r o later w

module _ (r : Rules) (o : Opening) (held : ℕ → List Version) (h : History) (w : World) (given : Given r o held w) (one : (x : AttemptId) (e f : Epoch) → Has (x, e) w.issued → Has (x, f) w.issued → e ≡ f) (k : Versions r o held h w) (l : Reads r o h w) where
  -- one more
  module _ (e : Entry) (es : List Entry) (may : MayEnd r w e) (rest : AreEnded r o held h w es) where
    known : WasDecided rest.later e.attempt → AreEnded r o held h w (e ∷ es)
    known d = record {
      later = rest.later;
      before = rest.before;
      all = λ y i. elim i [ inl same ↦ subst (λ z. Decided rest.later z.attempt z.epoch) (sym same) (subst (Decided rest.later e.attempt) now d.1) | inr j ↦ rest.all y j ];
      only = λ x f is. elim (rest.only x f is) [ inl was ↦ inl was | inr z ↦ inr (z.0, inr z.1, z.2, z.3) ];
      aborted = rest.aborted;
      served = rest.served;
      kept = rest.kept;
    }
      where
        now : d.0 ≡ e.epoch
        now = one e.attempt d.0 e.epoch (has-from_contains w.issued (e.attempt, d.0) (rest.kept.0.issued e.attempt d.0 d.1)) (has-from_contains w.issued (e.attempt, e.epoch) may.issued)

    new : (WasDecided rest.later e.attempt → ⊥) → AreEnded r o held h w (e ∷ es)
    new none = record {
      later = decides rest.later e.attempt e.epoch;
      before = λ x f d. inr (rest.before x f d);
      all = λ y i. elim i [ inl same ↦ inl (ap (λ z. issue z.attempt z.epoch) same) | inr j ↦ inr (rest.all y j) ];
      only = λ x f is. elim is [
        | inl same ↦ inr (e, inl refl, ap (λ i. i.0) same, ap (λ i. i.1) same)
        | inr was ↦ elim (rest.only x f was) [ inl d ↦ inl d | inr z ↦ inr (z.0, inr z.1, z.2, z.3) ]
      ];
      aborted = rest.aborted;
      served = rest.served;
      kept = decision-keeps r o held rest.later w e.attempt e.epoch given decidable may.held rest.kept.0 rest.kept.1 may.issued may.some;
    }
      where
        decidable : MayBeDecided r o rest.later e.attempt e.epoch
        decidable = record {
          undecided = none;
          alone = λ y f d same. none (f, subst (λ x. Decided rest.later x f) (given.apart y e.attempt f e.epoch (rest.kept.0.issued y f d) may.issued same) d);
          above = given.above e.attempt e.epoch may.issued;
          form = given.forms e.attempt;
          fits = given.fits e.attempt;
        }

    one-more : AreEnded r o held h w (e ∷ es)
    one-more = by (is_decided rest.later e.attempt) refl
      where
        by : (b : Bool) → is_decided rest.later e.attempt ≡ b → AreEnded r o held h w (e ∷ es)
        by true is = known (decided-has rest.later e.attempt is)
        by false is = new (λ d. clash (is_decided rest.later e.attempt) (has-decided rest.later e.attempt d.0 d.1) is)

  pub end-all : (es : List Entry) → ((e : Entry) → Has e es → MayEnd r w e) → AreEnded r o held h w es
  end-all [] may = record { later = h; before = λ x e d. d; all = λ e i. absurd i; only = λ x f d. inl d; aborted = refl; served = refl; kept = (k, l) }
  end-all (e ∷ es) may = one-more e es (may e (inl refl)) (end-all es (λ y i. may y (inr i)))

-- by this what is decided has grown by what would be told of them
pub ended-grow : (r : Rules) (o : Opening) (held : ℕ → List Version) (h : History) (w : World) (es : List Entry) (z : AreEnded r o held h w es) → GrowsBy h (map committed_end es) z.later
ended-grow r o held h w es z = record {
  decided = z.before;
  committed = λ x e t. committed x e t;
  only_decided = λ x f d. elim (z.only x f d) [ inl was ↦ inl was | inr y ↦ inr (tells x f y) ];
  aborted = λ x a. subst (Has x) (sym z.aborted) a;
  refused = λ x t. absurd (t.refused (is-committed x t.own t.how t.told));
  only_aborted = λ x a. inl (subst (Has x) z.aborted a);
}
  where
    tells : (x : AttemptId) (f : Epoch) → (e : Entry) × Has e es × (x ≡ e.attempt) × (f ≡ e.epoch) → Tells (map committed_end es) x (Some f) Committed
    tells x f y = subst (λ i. Tells (map committed_end es) i (Some f) Committed) (sym y.2) (subst (λ g. Tells (map committed_end es) y.0.attempt (Some g) Committed) (sym y.3) (record { to = (committed_end y.0).to; sent = has-map committed_end es y.0 y.1 }))

    committed : (x : AttemptId) (e : Epoch) → Tells (map committed_end es) x (Some e) Committed → Decided z.later x e
    committed x e t =
        let y = has-from_map committed_end es _ t.sent in
        let m : message.Ended y.0.attempt (Some y.0.epoch) Committed ≡ message.Ended x (Some e) Committed = ap (λ p. p.message) y.2 in
        let one : y.0.attempt ≡ x = cc in
        let is : y.0.epoch ≡ e = cc in
        subst (λ i. Decided z.later i e) one (subst (Decided z.later y.0.attempt) is (z.all y.0 y.1))

    is-committed : (x : AttemptId) (own : Option Epoch) (how : Outcome) → Tells (map committed_end es) x own how → how ≡ Committed
    is-committed x own how t =
        let y = has-from_map committed_end es _ t.sent in
        let m : message.Ended y.0.attempt (Some y.0.epoch) Committed ≡ message.Ended x own how = ap (λ p. p.message) y.2 in
        let is : how ≡ Committed = cc in is
