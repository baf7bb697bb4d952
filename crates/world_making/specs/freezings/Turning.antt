-- Every turn of a target freezes and creates as its message may.
use Rattle.std.specs.Prelude.{ℕ, ◌≡◌, ◌≤◌, ◌⊎◌, Bool, List, [], ◌∷◌, false, length, refl, Option, Some, None}
use Rattle.std.proofs.Common.{sym, ap, subst, inl, inr}
use Rattle.base_types.specs.declared.epoch.Epoch.{Epoch}
use Rattle.base_types.specs.declared.id.AttemptId.{AttemptId}
use Rattle.base_types.specs.declared.id.ContId.{ContId}
use Rattle.base_types.specs.declared.key.Key.{Key}
use Rattle.base_types.specs.declared.outcome.FloorWhy.{FloorWhy}
use Rattle.base_types.specs.declared.outcome.Outcome.{Outcome}
use Rattle.base_messages.specs.declared.actor.ActorId.{ActorId}
use Rattle.base_messages.specs.declared.message.Message.{Message, more_of-Message}
use Rattle.base_messages.specs.declared.message.Message.TheVariants as message
use Rattle.daos_model.specs.declared.durable.Durable.{Durable}
use Rattle.model_laws.specs.Members.{Has}
use Rattle.world_base.specs.declared.did.Did.{Did}
use Rattle.world_base.specs.declared.request.CommitRequest.{CommitRequest}
use Rattle.world_base.specs.declared.target.Collection.{Collection}
use Rattle.world_base.specs.declared.target.TargetMemory.{TargetMemory}
use Rattle.world_base.specs.declared.target.TargetPlan.{TargetPlan}
use Rattle.world_base.specs.declared.world.World.{World}
use Rattle.world_base.specs.Changes.{Kept}
use Rattle.world_base.specs.CutTurns as cuts
use Rattle.world_base.specs.CutTurns.{CommitIsCut, Cutting, HearingIsCut, IdleWorkIsCut, NoneIsDown, OneIsDown, UnstoredNext}
use Rattle.world_base.specs.Events.{Rules, target_plan}
use Rattle.world_base.specs.Further.{HearsFurther}
use Rattle.world_base.specs.Idle.{IdleNext}
use Rattle.world_base.specs.PathLaws.{AllPlain}
use Rattle.world_base.specs.Requests.{request_epoch}
use Rattle.world_base.specs.Roles.{told_by}
use Rattle.world_base.specs.Snapshots as snap
use Rattle.world_base.specs.Statuses.{Looks, NoChange, status_refusal}
use Rattle.world_base.specs.TargetTurns.{commit_request, fetch_request, prepare_request}
use Rattle.world_base.specs.TurnLaws.{ack-plain, commit-plain, fetch-plain, idle-plain, mark-plain, marked-plain, prepare-plain, query-plain, verdict-plain}
use Rattle.world_making.specs.freezings.Collecting.{AreHeldSo, alone-creates, found-is, last-creates}
use Rattle.world_making.specs.freezings.Freezings.{KeepsFrozen, IsOfSnap}
use Rattle.world_making.specs.freezings.Snapping.{NoSnaps, OnlyIt, Snapping, snapping-more}
use Rattle.world_making.specs.freezings.Turns.{FreezesSo, MayCreate, cut-snaps, freeze-cut, freezes-path, held-allows, plain-allows, prune-allows, whole-snaps}
use Rattle.world_letters.specs.snapshots.Makings.{CollectsSo, IsMadeBy, IsSnapIn, IsSo}

pub looks-plain : AllPlain NoChange
looks-plain s k o u (Looks j) = tt

unstored-plain : (t : TargetPlan) (opening : Epoch × FloorWhy) (m : TargetMemory) (reading : ℕ) (q : CommitRequest) → AllPlain (UnstoredNext t opening m reading q)
unstored-plain t opening m reading q s k o u (cuts.Before s2 u2 k2 o2 next early) = commit-plain t opening m reading q s k o u next

-- a snapshot is frozen at every other target
abbrev pub OthersFrozen : World → ℕ → ContId → Epoch → Type 0
OthersFrozen w t c s = (u : ℕ) → (u ≡ t → ⊥) → KeepsFrozen w u c s

-- an attempt makes a snapshot of a container, at an epoch that was issued to it, and asks for it here, or it is collected for it
pub record IsMakerOf (r : Rules) (is : List (AttemptId × Epoch)) (m : TargetMemory) (q : Message) (c : ContId) (s : Epoch) : Type 0 where
  pub x : AttemptId
  pub issued : Has (x, s) is
  pub snaps : IsSnapIn r x c
  pub asks : ((name : Key) × (tracker : Epoch) × (q ≡ message.Snap x c name tracker)) ⊎ ((n : Collection) × Has n m.collecting × (n.attempt ≡ x) × ((name : Key) × (n.name ≡ Some name)))

-- what a turn may create: it is frozen at every other target, and its attempt asks for it
abbrev pub MayMake : Rules → List (AttemptId × Epoch) → World → ℕ → TargetMemory → Message → ContId → Epoch → Type 0
MayMake r is w t m q c s = OthersFrozen w t c s × IsMakerOf r is m q c s

-- where who answered a Freeze holds frozen what is collected
abbrev pub OkMeansFrozen : World → TargetMemory → ActorId → Message → Type 0
OkMeansFrozen w m from q = (x : AttemptId) (n : Collection) (name : Key) → q ≡ message.Held x None → Has n m.collecting → n.name ≡ Some name → n.attempt ≡ x → KeepsFrozen w from.number n.cont n.epoch

-- What a turn of a target freezes is a snapshot of an attempt to which its epoch was issued by then; what it creates is frozen at every other
-- target.
module _ (r : Rules) (w : World) (many : length w.targets ≡ r.script.targets) (few : r.script.targets ≤ 64) (is : List (AttemptId × Epoch)) (t : ℕ) (opening : Epoch × FloorWhy) (m : TargetMemory) (reading : ℕ) (from : ActorId) (old : Kept)
    (before : AreHeldSo w old.durable m.collecting) (collects : (c : Collection) → Has c m.collecting → CollectsSo r is c) (number : ℕ) where
  abbrev pub LeavesSnaps : Message → Kept → Type 0
  LeavesSnaps q new = Snapping (IsOfSnap r is) (MayMake r is w t m q) old.durable new.durable

  only-may : (q : Message) (c : ContId) (e : Epoch) → OthersFrozen w t c e → IsMakerOf r is m q c e → (a : ContId) (i : Epoch) → OnlyIt c e a i → MayMake r is w t m q a i
  only-may q c e others maker a i only = subst (λ z. MayMake r is w t m q z i) only.0 (subst (MayMake r is w t m q c) only.1 (others, maker))

  -- the last answer
  held-may : (x : AttemptId) (refusal : Option Outcome) → OkMeansFrozen w m from (message.Held x refusal) → MayCreate (MayMake r is w t m (message.Held x refusal)) (target_plan r t) m from.number x refusal
  held-may x refusal ok n name none found named last =
      let its = found-is x m.collecting n found in
      let so = collects n its.0 in (
        last-creates r w t m old.durable from.number x refusal many few before (λ none2 n2 name2 i named2 its2. ok x n2 name2 (ap (message.Held x) none2) i named2 its2) n name none found named last,
        record { x = n.attempt; issued = so.0; snaps = (name, subst (IsMadeBy r n.attempt n.cont) named so.1); asks = inr (n, its.0, refl, (name, named)) },
      )

  of-it : (x : AttemptId) (c : ContId) (s : Epoch) → Has (x, s) is → IsSnapIn r x c → (a : ContId) (e : Epoch) → OnlyIt c s a e → IsOfSnap r is a e
  of-it x c s issued made a e only = subst (λ z. IsOfSnap r is z e) only.0 (subst (IsOfSnap r is c) only.1 (x, issued, made))

  snap-snaps : (reading' : ℕ) (tracker : Epoch) (x : AttemptId) (c : ContId) (name : Key) (s : snap.FreezeStage) (k : Kept) (left : TargetMemory × Did) → IsSnapIn r x c → ((e : Epoch) → left.1.issued ≡ Some (x, e) → Has (x, e) is)
      → FreezesSo (target_plan r t) m reading' tracker None c (snap.is_held_by_all (target_plan r t) 0) old s k → snap.SnapEnds (target_plan r t) m reading' tracker x c name from s k left → LeavesSnaps (message.Snap x c name tracker) k
  snap-snaps reading' tracker x c name s k left made issued so (snap.IsSpent k2 left2 none says) = snapping-more NoSnaps NoSnaps (IsOfSnap r is) _ old.durable k.durable (λ a e f. absurd f) (λ a e f. absurd f) so
  snap-snaps reading' tracker x c name s k left made issued so (snap.IsRefused k2 e how left2 why says) = snapping-more NoSnaps NoSnaps (IsOfSnap r is) _ old.durable k.durable (λ a i f. absurd f) (λ a i f. absurd f) so.1
  snap-snaps reading' tracker x c name s k left made issued so (snap.AsksOthers k2 e told left2 others says) =
      snapping-more (OnlyIt c e) NoSnaps (IsOfSnap r is) _ old.durable k.durable (of-it x c e (issued e (ap (λ o. o.1.issued) says)) made) (λ a i f. absurd f) so.1
  snap-snaps reading' tracker x c name s k left made issued so (snap.IsAlone k2 e told left2 says) =
      snapping-more (OnlyIt c e) (OnlyIt c e) (IsOfSnap r is) _ old.durable k.durable (of-it x c e (issued e (ap (λ o. o.1.issued) says)) made)
      (only-may (message.Snap x c name tracker) c e (λ u off. alone-creates r w t u many few so.3 off c e)
      (record { x = x; issued = issued e (ap (λ o. o.1.issued) says); snaps = made; asks = inl (name, tracker, refl) })) so.1

  freeze-snaps : (x : AttemptId) (c : ContId) (asked : Epoch) (s : snap.FreezeStage) (k : Kept) (left : TargetMemory × Did) → Has (x, asked) is → IsSnapIn r x c
      → FreezesSo (target_plan r t) m reading asked (Some asked) c false old s k → snap.FreezeEnds (target_plan r t) m x c from s k left → LeavesSnaps (message.Freeze x c asked) k
  freeze-snaps x c asked s k left issued made so (snap.IsRefused k2 e how left2 why says) = snapping-more NoSnaps NoSnaps (IsOfSnap r is) _ old.durable k.durable (λ a i f. absurd f) (λ a i f. absurd f) so.1
  freeze-snaps x c asked s k left issued made so (snap.IsHeld k2 e told left2 says) =
      let h : request_epoch (target_plan r t) m reading asked (Some asked) ≡ Some e = so.0 in
      let its : asked ≡ e = cc in
      snapping-more (OnlyIt c e) NoSnaps (IsOfSnap r is) _ old.durable k.durable (of-it x c e (subst (λ z. Has (x, z) is) its issued) made) (λ a i f. absurd f) so.1

  -- a further message was heard
  pub further-snaps : (q : Message) (new : Kept) (left : TargetMemory × Did) → IsSo r is q → ((x : AttemptId) (e : Epoch) → left.1.issued ≡ Some (x, e) → Has (x, e) is) → OkMeansFrozen w m from q
      → HearsFurther number (target_plan r t) opening m reading from q old new left → LeavesSnaps q new
  further-snaps (message.Commit x ep first tracker ws) new left so issued ok h = whole-snaps (IsOfSnap r is) _ _
      (plain-allows (IsOfSnap r is) _ _ (commit-plain (target_plan r t) opening m reading (commit_request x ep first tracker ws))) _ _ old new left h
  further-snaps (message.Ask x) new left so issued ok h = whole-snaps (IsOfSnap r is) _ _ (plain-allows (IsOfSnap r is) _ _ looks-plain) _ _ old new left h
  further-snaps (message.Status x inc) new left so issued ok h = whole-snaps (IsOfSnap r is) _ _ (plain-allows (IsOfSnap r is) _ _ looks-plain) _ _ old new left h
  further-snaps (message.StatusIs x inc how) new left so issued ok h = whole-snaps (IsOfSnap r is) _ _ (plain-allows (IsOfSnap r is) _ _ (ack-plain (target_plan r t) m from.number x inc (status_refusal x how))) _ _ old new left h
  further-snaps (message.Snap x c called tracker) new left so issued ok h =
      snap-snaps reading tracker x c called h.last new left (called, so) (issued x)
      (freezes-path (target_plan r t) m reading tracker None c (snap.is_held_by_all (target_plan r t) 0) old h.reached.did h.last new h.reached.path) h.ends
  further-snaps (message.Freeze x c s) new left so issued ok h =
      freeze-snaps x c s h.last new left so.0 so.1 (freezes-path (target_plan r t) m reading s (Some s) c false old h.reached.did h.last new h.reached.path) h.ends
  further-snaps (message.Held x refusal) new left so issued ok h =
      whole-snaps (IsOfSnap r is) _ _ (held-allows (IsOfSnap r is) _ (target_plan r t) m from.number x refusal (held-may x refusal ok)) _ _ old new left h
  further-snaps (message.Prune x c (Some tracker) None) new left so issued ok h = whole-snaps (IsOfSnap r is) _ _ (prune-allows (IsOfSnap r is) _ (target_plan r t) m reading tracker None c number) _ _ old new left h
  further-snaps (message.Prune x c None (Some g)) new left so issued ok h = whole-snaps (IsOfSnap r is) _ _ (prune-allows (IsOfSnap r is) _ (target_plan r t) m reading g (Some g) c number) _ _ old new left h
  further-snaps (message.Reset' by down place (more_of-Message asked rest)) new left so issued ok h = whole-snaps (IsOfSnap r is) _ _ (plain-allows (IsOfSnap r is) _ _ looks-plain) _ _ old new left h
  further-snaps q new left so issued ok h = absurd h

  -- a turn was cut
  module _ (cut : Cutting) (issued : (x : AttemptId) (e : Epoch) → Has (x, e) cut.issued → Has (x, e) is) where
    commit-cut : (said : Message) (q : CommitRequest) → CommitIsCut (target_plan r t) opening m reading q old cut → LeavesSnaps said cut.left
    commit-cut said q (NoneIsDown none g) = cut-snaps (IsOfSnap r is) _ _ (plain-allows (IsOfSnap r is) _ _ (commit-plain (target_plan r t) opening m reading q)) _ _ _ old cut g
    commit-cut said q (OneIsDown e down is' g) = cut-snaps (IsOfSnap r is) _ _ (plain-allows (IsOfSnap r is) _ _ (unstored-plain (target_plan r t) opening m reading q)) _ _ _ old cut g

    its-own : (x : AttemptId) (e : Epoch) → cut.issued ≡ (x, e) ∷ [] → Has (x, e) is
    its-own x e one = issued x e (subst (Has (x, e)) (sym one) (inl refl))

    pub hearing-snaps : (is_due : AttemptId → Durable → Bool) (q : Message) → IsSo r is q → OkMeansFrozen w m from q → HearingIsCut is_due number (target_plan r t) opening m reading from q old cut → LeavesSnaps q cut.left
    hearing-snaps is_due (message.Fetch x op group ep first tracker rd snapshot) so ok g = cut-snaps (IsOfSnap r is) _ _
        (plain-allows (IsOfSnap r is) _ _ (fetch-plain (target_plan r t) m reading (fetch_request x op group ep first tracker rd snapshot))) _ _ _ old cut g
    hearing-snaps is_due (message.Commit x ep first tracker ws) so ok g = commit-cut _ (commit_request x ep first tracker ws) g
    hearing-snaps is_due (message.Prepare e first ws inc) so ok g = cut-snaps (IsOfSnap r is) _ _ (plain-allows (IsOfSnap r is) _ _ (prepare-plain (target_plan r t) opening m (prepare_request e first ws inc))) _ _ _ old cut g
    hearing-snaps is_due (message.Ack x inc refusal) so ok g = cut-snaps (IsOfSnap r is) _ _ (plain-allows (IsOfSnap r is) _ _ (ack-plain (target_plan r t) m from.number x inc refusal)) _ _ _ old cut g
    hearing-snaps is_due (message.StatusIs x inc how) so ok g = cut-snaps (IsOfSnap r is) _ _ (plain-allows (IsOfSnap r is) _ _ (ack-plain (target_plan r t) m from.number x inc (status_refusal x how))) _ _ _ old cut g
    hearing-snaps is_due (message.Mark inc marks) so ok g = cut-snaps (IsOfSnap r is) _ _ (plain-allows (IsOfSnap r is) _ _ (mark-plain is_due)) _ _ _ old cut g
    hearing-snaps is_due (message.Marked inc ids) so ok g = cut-snaps (IsOfSnap r is) _ _ (plain-allows (IsOfSnap r is) _ _ (marked-plain (target_plan r t) m from.number)) _ _ _ old cut g
    hearing-snaps is_due (message.Verdict x ask inc v) so ok g = cut-snaps (IsOfSnap r is) _ _ (plain-allows (IsOfSnap r is) _ _ (verdict-plain is_due (target_plan r t) (told_by v x m) reading x ask v)) _ _ _ old cut g
    hearing-snaps is_due (message.Snap x c called tracker) so ok g =
        freeze-cut (target_plan r t) m reading tracker None c (snap.is_held_by_all (target_plan r t) 0) old x (IsOfSnap r is) _ cut.issued
        (λ s its one alone. (
          λ u off. alone-creates r w t u many few alone off c s,
          record {
            x = x;
            issued = its-own x s one;
            snaps = (called, so);
            asks = inl
                (called, tracker, refl);
          },
        )) (λ s its one. (x, its-own x s one, (called, so))) t cut refl g
    hearing-snaps is_due (message.Freeze x c asked) so ok g =
        freeze-cut (target_plan r t) m reading asked (Some asked) c false old x (IsOfSnap r is) _ cut.issued (λ s its one alone. (let no : ⊥ = cc in absurd no))
        (λ s its one. (let same : asked ≡ s = cc (its) in (x, subst (λ z. Has (x, z) is) same so.0, so.1))) t cut refl g
    hearing-snaps is_due (message.Held x refusal) so ok g =
        cut-snaps (IsOfSnap r is) _ _ (held-allows (IsOfSnap r is) _ (target_plan r t) m from.number x refusal (held-may x refusal ok)) _ _ _ old cut g
    hearing-snaps is_due (message.Prune x c (Some tracker) None) so ok g = cut-snaps (IsOfSnap r is) _ _ (prune-allows (IsOfSnap r is) _ (target_plan r t) m reading tracker None c number) _ _ _ old cut g
    hearing-snaps is_due (message.Prune x c None (Some e)) so ok g = cut-snaps (IsOfSnap r is) _ _ (prune-allows (IsOfSnap r is) _ (target_plan r t) m reading e (Some e) c number) _ _ _ old cut g
    hearing-snaps is_due (message.Query x ask) so ok g = cut-snaps (IsOfSnap r is) _ _ (plain-allows (IsOfSnap r is) _ _ query-plain) _ _ _ old cut g
    hearing-snaps is_due (message.Ask x) so ok g = cut-snaps (IsOfSnap r is) _ _ (plain-allows (IsOfSnap r is) _ _ looks-plain) _ _ _ old cut g
    hearing-snaps is_due (message.Status x inc) so ok g = cut-snaps (IsOfSnap r is) _ _ (plain-allows (IsOfSnap r is) _ _ looks-plain) _ _ _ old cut g
    hearing-snaps is_due (message.Reset' by down place asked) so ok g = cut-snaps (IsOfSnap r is) _ _ (plain-allows (IsOfSnap r is) _ _ looks-plain) _ _ _ old cut g
    hearing-snaps is_due q so ok g = absurd g

    pub idle-snaps : IdleWorkIsCut t m old cut → Snapping (IsOfSnap r is) NoSnaps old.durable cut.left.durable
    idle-snaps g = cut-snaps (IsOfSnap r is) NoSnaps IdleNext (plain-allows (IsOfSnap r is) NoSnaps IdleNext idle-plain) _ _ _ old cut g
