-- What follows on a world in which no client does anything, and nobody is answered: outcomes go on to show their causes.
use Rattle.std.specs.Prelude.{ℕ, ◌≡◌, ◌≤◌, ◌+◌, ◌/◌, ◌++◌, ◌⊎◌, Any, true, List, [], Contains, slice_get, Some}
use Rattle.std.proofs.Common.{inl, inr}
use Rattle.base_types.specs.declared.epoch.Epoch.{Epoch}
use Rattle.base_types.specs.declared.id.AttemptId.{AttemptId}
use Rattle.base_types.specs.declared.id.ContId.{ContId}
use Rattle.base_types.specs.declared.outcome.FloorWhy.{FloorWhy}
use Rattle.base_types.specs.declared.report.Line.{Line}
use Rattle.base_messages.specs.declared.message.Message.{Message}
use Rattle.base_messages.specs.declared.message.Message.TheVariants as message
use Rattle.model_laws.specs.Members.{has-from_contains}
use Rattle.daos_model.specs.Attempts.{tries}
use Rattle.daos_model.specs.CausesShown.{ShowsFloor}
use Rattle.daos_model.specs.Opening.{Opening}
use Rattle.world_base.specs.declared.letter.Letter.{Letter}
use Rattle.world_base.specs.declared.target.TargetState.{TargetState}
use Rattle.world_base.specs.declared.world.World.{World}
use Rattle.world_base.specs.Events.{Rules}
use Rattle.world_causes.specs.restarts.Resting.{is_silent}
use Rattle.world_causes.specs.causes.Causes.{Dated, EndsOf, IsAskedFor, IsUndecidedFor, Stored, epochs_told}
use Rattle.world_causes.specs.causes.FloorLaws.{KeepsFloors}
use Rattle.world_causes.specs.causes.Shown.{Causes, MessageStands, limit_over}
use Rattle.world_causes.specs.causes.Turns.{PostShows}
use Rattle.world_causes.specs.showing.Following.{FollowsOn, continues-keep, posted}

-- Epochs were issued, and lines added that tell of no attempt, each within the limit; each letter was in flight before, or asks what a
-- member holds, or tells that something is lost.
pub record Follows (r : Rules) (o : Opening) (stored new : Stored) (w v : World) : Type 0 where
  pub added : Dated
  pub issued : v.issued ≡ w.issued ++ added
  pub more : List Line
  pub lines : v.lines ≡ w.lines ++ more
  pub silent : tries more ≡ []
  pub clients : v.clients ≡ w.clients
  pub messages : (l : Letter) → Contains v.messages l → Contains w.messages l ⊎ (is_silent l.message ≡ true)
  pub dates : (x : AttemptId) (e : Epoch) → Contains added (x, e) → e.0 / 256 ≤ limit_over o v.lines v.issued
  pub told : (t : ℕ) (floor : Epoch) (cont : ContId) (reason : FloorWhy) → Any (ShowsFloor t floor cont reason) more → floor.0 / 256 ≤ limit_over o v.lines v.issued
  pub targets : (t : ℕ) (z : TargetState) → slice_get v.targets t ≡ Some z → (s : TargetState) × (slice_get w.targets t ≡ Some s) × FollowsOn r stored new (limit_over o v.lines v.issued) t s z
  pub floors : KeepsFloors w v

-- ---- silent messages

-- one that is silent shows, tells, asks and ends nothing
record IsMute (m : Message) : Type 0 where
  stands : (r : Rules) (o : Opening) (stored : Stored) (issued : Dated) (lines : List Line) → MessageStands r o stored issued lines m
  told : (e : ℕ) → Contains (epochs_told m) e → ⊥
  undecided : (x by : AttemptId) → IsUndecidedFor m x by → ⊥
  asked : (x : AttemptId) → IsAskedFor m x → ⊥
  ends : (x : AttemptId) → EndsOf m x → ⊥

none-told : (e : ℕ) → Contains [] e → ⊥
none-told e i = has-from_contains [] e i

silent-mute : (m : Message) → is_silent m ≡ true → IsMute m
silent-mute (message.Reset' t down place q) is = record { stands = λ r o stored issued lines. tt; told = λ e i. none-told e i; undecided = λ x by u. u; asked = λ x u. u; ends = λ x u. u }
silent-mute (message.Status x inc) is = record { stands = λ r o stored issued lines. tt; told = λ e i. none-told e i; undecided = λ x by u. u; asked = λ x u. u; ends = λ x u. u }
silent-mute m is = let no : ⊥ = cc in absurd no

-- it shows its cause
pub silent-shows : (r : Rules) (o : Opening) (stored : Stored) (issued : Dated) (lines : List Line) (l : Letter) → is_silent l.message ≡ true → PostShows r o stored issued lines (posted l)
silent-shows r o stored issued lines l is = let m = silent-mute l.message is in record {
  shows = m.stands r o stored issued lines;
  told = λ e i. absurd (m.told e i);
  undecided = λ x by u. absurd (m.undecided x by u);
  asked = λ x u. absurd (m.asked x u);
  own = λ x u. absurd (m.ends x u);
}

-- ---- the law

pub follows-keep : (r : Rules) (o : Opening) (stored new : Stored) (w v : World) → Causes r o stored w → Follows r o stored new w v → Causes r o (new ++ stored) v
follows-keep r o stored new w v C k = continues-keep r o stored new w v C (record {
  added = k.added;
  issued = k.issued;
  more = k.more;
  lines = k.lines;
  silent = k.silent;
  clients = k.clients;
  messages = λ l i. elim (k.messages l i) [ inl old ↦ inl old | inr mute ↦ inr (silent-shows r o (new ++ stored) v.issued v.lines l mute) ];
  dates = k.dates;
  told = k.told;
  targets = k.targets;
  floors = k.floors o C.floors;
})
