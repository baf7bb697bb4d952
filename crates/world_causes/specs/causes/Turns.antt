-- What a turn of a target comes to: what it sends shows its cause, ticks are within the limit, and blocks are accounted for.
use Rattle.std.specs.Prelude.{ℕ, ◌≡◌, ◌≤◌, ◌+◌, ◌/◌, ◌++◌, map, List, [], ◌∷◌, Contains, Some, refl}
use Rattle.std.proofs.Common.{append-nil, sym, subst, inl, inr, arith}
use Rattle.std.proofs.lemmas.List.Elements.{Contains-append_left}
use Rattle.base_types.specs.declared.epoch.Epoch.{Epoch}
use Rattle.base_types.specs.declared.id.AttemptId.{AttemptId}
use Rattle.base_types.specs.declared.report.Attempt.{Attempt}
use Rattle.base_types.specs.declared.report.Line.{Line}
use Rattle.model_laws.specs.Members.{Has}
use Rattle.base_messages.specs.declared.message.Post.{Post}
use Rattle.daos_model.specs.Attempts.{tries}
use Rattle.daos_model.specs.Opening.{Opening}
use Rattle.dtx_base.specs.declared.member.Parked.{Parked}
use Rattle.world_base.specs.declared.did.Did.{Did}
use Rattle.world_base.specs.declared.target.TargetMemory.{TargetMemory}
use Rattle.world_contents.specs.world_letters.epochs.Epochs.{BearsEpoch}
use Rattle.world_base.specs.Events.{Rules, listed}
use Rattle.world_base.specs.Letters.{client}
use Rattle.world_base.specs.Changes.{Kept}
use Rattle.world_causes.specs.causes.Causes.{Dated, EndsOf, IsAskedFor, IsUndecidedFor, MeetsOther, Stored, blocks_of_stored, epochs_told, stored_by}
use Rattle.world_causes.specs.causes.Dates.{limit-rises}
use Rattle.world_causes.specs.causes.Lasting.{AreOfOthers, message-more}
use Rattle.world_causes.specs.causes.Shown.{IsOpenTo, MessageStands, limit_over}

-- ---- what is sent

-- what a message shows and tells, where these attempts were stored, these epochs issued, and these lines told
pub record PostShows (r : Rules) (o : Opening) (stored : Stored) (issued : Dated) (lines : List Line) (q : Post) : Type 0 where
  pub shows : MessageStands r o stored issued lines q.message
  pub told : (e : ℕ) → Contains (epochs_told q.message) e → e / 256 ≤ limit_over o lines issued
  pub undecided : (x by : AttemptId) → IsUndecidedFor q.message x by → IsOpenTo r.script lines x by
  pub asked : (x : AttemptId) → IsAskedFor q.message x → (e : Epoch) × Contains issued (x, e)
  pub own : (x : AttemptId) → EndsOf q.message x → q.to ≡ client x.client

abbrev pub AllShow : Rules → Opening → Stored → Dated → List Line → List Post → Type 0
AllShow r o stored issued lines [] = Unit {0}
AllShow r o stored issued lines (q ∷ qs) = PostShows r o stored issued lines q × AllShow r o stored issued lines qs

module _ (r : Rules) (o : Opening) (stored : Stored) (issued : Dated) (lines : List Line) where
  pub all-both : (ps qs : List Post) → AllShow r o stored issued lines ps → AllShow r o stored issued lines qs → AllShow r o stored issued lines (ps ++ qs)
  all-both [] qs h k = k
  all-both (p ∷ ps) qs h k = (h.0, all-both ps qs h.1 k)

  pub all-map : {A : Type 0} (f : A → Post) → ((a : A) → PostShows r o stored issued lines (f a)) → (xs : List A) → AllShow r o stored issued lines (map f xs)
  all-map f each [] = tt
  all-map f each (x ∷ xs) = (each x, all-map f each xs)

  pub all-each : (qs : List Post) (q : Post) → AllShow r o stored issued lines qs → Has q qs → PostShows r o stored issued lines q
  all-each [] q h i = absurd i
  all-each (p ∷ ps) q h (inl same) = subst (PostShows r o stored issued lines) (sym same) h.0
  all-each (p ∷ ps) q h (inr i) = all-each ps q h.1 i

pub none-of : (c : ℕ) → AreOfOthers c []
unfolding tries
none-of c = refl

-- what is sent goes on to show it, when more is stored and issued
pub all-more : (r : Rules) (o : Opening) (new stored : Stored) (issued more : Dated) (lines : List Line) (qs : List Post) → AllShow r o stored issued lines qs → AllShow r o (new ++ stored) (issued ++ more) lines qs
all-more r o new stored issued more lines [] h = tt
all-more r o new stored issued more lines (q ∷ qs) h = (
  record {
    shows = subst (λ ls. MessageStands r o (new ++ stored) (issued ++ more) ls q.message) (append-nil lines) (message-more r o new stored issued more lines [] q.message (λ x k. none-of x.client) h.0.shows);
    told = λ e i. let low : e / 256 ≤ limit_over o lines issued = h.0.told e i in let up : limit_over o lines issued ≤ limit_over o lines (issued ++ more) = limit-rises o lines issued more in omega (arith, low, up);
    undecided = h.0.undecided;
    asked = λ x k. let e = h.0.asked x k in (e.0, Contains-append_left issued more (x, e.0) e.1);
    own = h.0.own;
  },
  all-more r o new stored issued more lines qs h.1,
)

-- ---- Fetches that wait

-- what a Fetch waits for is in its way
abbrev pub ParkedMeets : Rules → Dated → Parked → Type 0
ParkedMeets r issued p = (x : AttemptId) (e : Epoch) → BearsEpoch p.ask x e → MeetsOther r issued x p.on

abbrev pub AllMeet : Rules → Dated → List Parked → Type 0
AllMeet r issued ps = (p : Parked) → Has p ps → ParkedMeets r issued p

-- ---- attempts without a line

-- no line tells of an attempt
abbrev pub HasNoLine : List Line → AttemptId → Type 0
HasNoLine lines x = (a : Attempt) → Has a (tries lines) → (a.id ≡ x) → ⊥

-- ---- a turn

-- what follows from a turn of a target, beside the rows of containers, which stay, and lines, of which it adds none
pub record Leaves (r : Rules) (o : Opening) (stored : Stored) (issued : Dated) (lines : List Line) (t : ℕ) (old new : Kept) (left : TargetMemory × Did) : Type 0 where
  pub posts : AllShow r o (stored_by t old.durable new.durable ++ stored) (issued ++ listed left.1.issued) lines left.1.posts
  pub ticks : left.0.ticks ≤ limit_over o lines (issued ++ listed left.1.issued)
  pub dated : (x : AttemptId) (e : Epoch) → left.1.issued ≡ Some (x, e) → e.0 / 256 ≤ limit_over o lines (issued ++ listed left.1.issued)
  pub space : old.free + blocks_of_stored r.script t stored ≤ new.free + blocks_of_stored r.script t (stored_by t old.durable new.durable ++ stored)
  pub parked : AllMeet r (issued ++ listed left.1.issued) left.0.member.parked
