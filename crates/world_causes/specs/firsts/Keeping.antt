-- What is so of first epochs stays so while lines and epochs are added, and how all of it is kept.
use Rattle.std.specs.Prelude.{ℕ, ◌≡◌, ◌++◌, ◌⊎◌, true, List, Contains, slice_get, Option, Some, None}
use Rattle.std.proofs.Common.{inl, inr, subst}
use Rattle.std.proofs.lemmas.List.Elements.{Contains-append_left}
use Rattle.base_types.specs.declared.epoch.Epoch.{Epoch}
use Rattle.base_types.specs.declared.id.AttemptId.{AttemptId}
use Rattle.base_types.specs.declared.report.Attempt.{Attempt}
use Rattle.base_types.specs.declared.report.Line.{Line}
use Rattle.base_messages.specs.declared.message.Message.{Message}
use Rattle.base_messages.specs.declared.message.Message.TheVariants as message
use Rattle.daos_model.specs.Attempts.{is_lost, tries}
use Rattle.dtx_base.specs.declared.member.Parked.{Parked}
use Rattle.model_laws.specs.Lists.{any-of}
use Rattle.model_laws.specs.Members.{Has}
use Rattle.world_base.specs.declared.client.ClientState.{ClientState}
use Rattle.world_base.specs.declared.client.Present.{Present}
use Rattle.world_base.specs.declared.letter.Letter.{Letter}
use Rattle.world_base.specs.declared.target.TargetState.{TargetState}
use Rattle.world_base.specs.declared.world.World.{World}
use Rattle.world_base.specs.ClientTurns.{attempt_id}
use Rattle.world_base.specs.Events.{Rules, client_plan}
use Rattle.world_causes.specs.causes.Causes.{Dated}
use Rattle.world_causes.specs.causes.Lasting.{lost-more}
use Rattle.world_causes.specs.causes.Shown.{AreLostBefore, IsFirstEpoch, WasLost}
use Rattle.world_causes.specs.firsts.Firsts.{Firsts, GoesWith, IsKept, Keeps, MessageTells, WaitsSo}

-- ---- what is added

-- epochs were issued, and lines added, but none taken away
pub record IsMore (issued now : Dated) (lines then : List Line) : Type 0 where
  pub dates : (x : AttemptId) (e : Epoch) → Contains issued (x, e) → Contains now (x, e)
  pub lost : (x : AttemptId) → WasLost lines x → WasLost then x

pub none-more : (issued : Dated) (lines : List Line) → IsMore issued issued lines lines
none-more issued lines = record { dates = λ x e i. i; lost = λ x k. k }

pub lost-of : (lines : List Line) (x : AttemptId) (a : Attempt) → Has a (tries lines) → a.id ≡ x → is_lost a.id a.outcome ≡ true → WasLost lines x
lost-of lines x a i id lost = any-of (λ b. (b.id ≡ x) × (is_lost b.id b.outcome ≡ true)) (tries lines) a i (id, lost)

pub more-by : (issued new : Dated) (lines more : List Line) → IsMore issued (issued ++ new) lines (lines ++ more)
more-by issued new lines more = record { dates = λ x e i. Contains-append_left issued new (x, e) i; lost = λ x k. lost-more lines more x k }

pub lines-only : (issued : Dated) (lines more : List Line) → IsMore issued issued lines (lines ++ more)
lines-only issued lines more = record { dates = λ x e i. i; lost = λ x k. lost-more lines more x k }

-- ---- it stays so

module _ (r : Rules) (issued now : Dated) (lines then : List Line) (M : IsMore issued now lines then) where
  pub before-stays : (x : AttemptId) → AreLostBefore lines x → AreLostBefore then x
  before-stays x k n low = M.lost (record x { attempt = n }) (k n low)

  pub epoch-stays : (x : AttemptId) (f : Epoch) → IsFirstEpoch issued lines x f → IsFirstEpoch now then x f
  epoch-stays x f k = record { number = k.number; early = k.early; its = M.dates (record x { attempt = k.number }) f k.its; lost = λ n low. M.lost (record x { attempt = n }) (k.lost n low) }

  pub kept-stays : (x : AttemptId) (own first : Option Epoch) → IsKept issued lines x own first → IsKept now then x own first
  kept-stays x own None k = (before-stays x k.0, k.1)
  kept-stays x own (Some f) k = epoch-stays x f k

  pub goes-stays : (x : AttemptId) (first : Option Epoch) → GoesWith r issued lines x first → GoesWith r now then x first
  goes-stays x None k off = before-stays x (k off)
  goes-stays x (Some f) k off = epoch-stays x f (k off)

  pub tells-stay : (m : Message) → MessageTells r issued lines m → MessageTells r now then m
  tells-stay (message.Fetch x op group ep first tracker q snapshot) k = goes-stays x first k
  tells-stay (message.Commit x ep first tracker ws) k = goes-stays x first k
  tells-stay (message.Prepare e first ws inc) k = goes-stays e.attempt first k
  tells-stay (message.Fetched x op group None b) k = k
  tells-stay (message.Ended x None how) k = k
  tells-stay m k = tt

  pub waits-stay : (m : Message) → WaitsSo r issued lines m → WaitsSo r now then m
  waits-stay (message.Fetch x op group ep first tracker q snapshot) k = goes-stays x first k
  waits-stay (message.Commit x ep first tracker ws) k = goes-stays x first k
  waits-stay (message.Prepare e first ws inc) k = goes-stays e.attempt first k
  waits-stay (message.Fetched x op group None b) k = k
  waits-stay (message.Ended x None how) k = k
  waits-stay m k = tt

-- ---- a world after another

-- a Fetch waits somewhere in a world
pub record WaitsIn (w : World) (p : Parked) : Type 0 where
  pub t : ℕ
  pub s : TargetState
  pub here : slice_get w.targets t ≡ Some s
  pub among : Contains s.memory.member.parked p

-- Epochs and lines were added; what clients keep is so; and each message, and each Fetch that waits, was there before, or is so.
pub record Follows (r : Rules) (w v : World) : Type 0 where
  pub more : IsMore w.issued v.issued w.lines v.lines
  pub clients : (n : ℕ) (c : ClientState) (a : Present) → slice_get v.clients n ≡ Some c → c.present ≡ Some a → Keeps r v.issued v.lines n c a
  pub letters : (l : Letter) → Contains v.messages l → Contains w.messages l ⊎ MessageTells r v.issued v.lines l.message
  pub parked : (t : ℕ) (s : TargetState) (p : Parked) → slice_get v.targets t ≡ Some s → Contains s.memory.member.parked p → WaitsIn w p ⊎ WaitsSo r v.issued v.lines p.ask

pub follows-keeps : (r : Rules) (w v : World) → Firsts r w → Follows r w v → Firsts r v
follows-keeps r w v F k = record {
  clients = k.clients;
  flight = λ l i. elim (k.letters l i) [ inl j ↦ tells-stay r w.issued v.issued w.lines v.lines k.more l.message (F.flight l j) | inr now ↦ now ];
  parked = λ t s p at i. elim (k.parked t s p at i) [ inl z ↦ waits-stay r w.issued v.issued w.lines v.lines k.more p.ask (F.parked z.t z.s p z.here z.among) | inr now ↦ now ];
}

-- where clients stay as they are
pub clients-stay : (r : Rules) (w v : World) → Firsts r w → v.clients ≡ w.clients → IsMore w.issued v.issued w.lines v.lines
    → (n : ℕ) (c : ClientState) (a : Present) → slice_get v.clients n ≡ Some c → c.present ≡ Some a → Keeps r v.issued v.lines n c a
clients-stay r w v F same M n c a at here off =
    kept-stays r w.issued v.issued w.lines v.lines M (attempt_id (client_plan r n) c a) a.epoch a.first (F.clients n c a (subst (λ cs. slice_get cs n ≡ Some c) same at) here off)
