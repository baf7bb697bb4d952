-- A target's turn that was made decides whether a world comes after another one by it.
use Rattle.std.proofs.Common.{ℕ, ◌≡◌, ◌<◌, ◌-◌, ◌++◌, refl, sym, ◌∙◌, ap, subst, Bool, true, false, ◌||◌, List, length, slice_get, Option, Some}
use Rattle.std.specs.Bool.{Decides}
use Rattle.base_types.specs.declared.epoch.Epoch.{Epoch}
use Rattle.base_types.specs.declared.outcome.FloorWhy.{FloorWhy}
use Rattle.base_messages.specs.declared.actor.ActorId.{ActorId}
use Rattle.base_messages.specs.declared.message.Message.{Message}
use Rattle.daos_model.specs.declared.durable.Durable.{Durable}
use Rattle.daos_model.specs.BoolLaws.{clash, or_from_right}
use Rattle.replay_base.specs.Heard.{CanHear}
use Rattle.replay_base.specs.declared.told.Left.{Left}
use Rattle.replay_base.specs.Leaving as replayed
use Rattle.replay_base.specs.Leaving.{IsLeftIf}
use Rattle.replay_base.specs.Onward.{keeps}
use Rattle.world_base.specs.declared.did.Did.{Did}
use Rattle.world_base.specs.declared.letter.Letter.{Letter}
use Rattle.world_base.specs.declared.target.Life.{Life}
use Rattle.world_base.specs.declared.target.Life.TheVariants.{Running}
use Rattle.world_base.specs.declared.target.TargetMemory.{TargetMemory}
use Rattle.world_base.specs.declared.target.TargetPlan.{TargetPlan}
use Rattle.world_base.specs.declared.target.TargetState.{TargetState}
use Rattle.world_base.specs.declared.world.World.{World}
use Rattle.world_base.specs.Events.{Rules, after_turn, target_after, target_plan, with_target}
use Rattle.world_base.specs.Letters.{Takes, target}
use Rattle.world_base.specs.StepLaws.{set-here}
use Rattle.world_base.specs.Changes.{Kept}
use Rattle.world_base.specs.TargetTurns.{Hears, IdlesWhole}
use Rattle.world_list.specs.Following.{FollowIs}
use Rattle.world_list.specs.RunLists.{IdlesAs, TargetHearsAs}
use Rattle.world_list.specs.Taken.{IsTaken}
use Rattle.world_list.specs.declared.follow.Follow.{Follow}
use Rattle.world_list.proofs.Decided.{Both, both_decide, same_world, set_parts}
use Rattle.world_check.specs.Told.{did_told}
use Rattle.world_check.specs.Turned.{HearsSo, IdlesSo, IsAfterTarget, StaysOpen}
use Rattle.world_check.proofs.Telling.{did_is, hears_lines, idles_lines, taken_length}

-- ---- states and worlds by their parts

abbrev state_of : Durable → ℕ → Epoch × FloorWhy → Life → TargetMemory → TargetState
state_of durable free opening life memory = record { durable = durable; free = free; opening = opening; life = life; memory = memory }

stays : (s next : TargetState) → StaysOpen s next → next ≡ target_after s (keeps next.durable next.free) next.memory
stays s next o = ap (λ x. state_of next.durable next.free x next.life next.memory) o.opening ∙ ap (λ l. state_of next.durable next.free s.opening l next.memory) o.life

to_world : (w v : World) (n : ℕ) (s next : TargetState) (did : Did) (f : Follow) (rest : List Letter)
    → slice_get w.targets n ≡ Some s → FollowIs f w (target n) did → IsAfterTarget w n next f v → v.messages ≡ rest ++ f.letters → v ≡ with_target n next (after_turn w (target n) did rest)
to_world w v n s next did f rest here is h letters =
    same_world v (with_target n next (after_turn w (target n) did rest)) (h.targets ∙ sym (set_parts w.targets n s next here)) h.clients
    (letters ∙ ap (λ x. rest ++ x) is.letters) (h.told.asked ∙ is.asked) (h.told.issued ∙ ap (λ x. w.issued ++ x) is.issued) h.told.numbers (h.told.lines ∙ ap (λ x. w.lines ++ x) is.lines)

from_world : (w v : World) (n : ℕ) (s next : TargetState) (did : Did) (f : Follow) (rest : List Letter)
    → slice_get w.targets n ≡ Some s → FollowIs f w (target n) did → v ≡ with_target n next (after_turn w (target n) did rest) → IsAfterTarget w n next f v × (v.messages ≡ rest ++ f.letters)
from_world w v n s next did f rest here is e = (
  record {
    clients = ap (λ x. x.clients) e;
    targets = ap (λ x. x.targets) e ∙ set_parts w.targets n s next here;
    told = record {
      asked = ap (λ x. x.asked) e ∙ sym is.asked;
      issued = ap (λ x. x.issued) e ∙ ap (λ x. w.issued ++ x) (sym is.issued);
      numbers = ap (λ x. x.numbers) e;
      lines = ap (λ x. x.lines) e ∙ ap (λ x. w.lines ++ x) (sym is.lines);
    };
  },
  ap (λ x. x.messages) e ∙ ap (λ x. rest ++ x) (sym is.letters),
)

-- the state after a turn is the one that the world after it has there
next_is : (w v : World) (n : ℕ) (s next after : TargetState) (did : Did) (rest : List Letter) → slice_get w.targets n ≡ Some s → slice_get v.targets n ≡ Some next
    → v ≡ with_target n after (after_turn w (target n) did rest) → next ≡ after
next_is w v n s next after did rest here there e =
    let set_there : slice_get v.targets n ≡ Some after = ap (λ x. slice_get x.targets n) e ∙ set-here w.targets n s after here in
    let same : Some next ≡ Some after = sym there ∙ set_there in
    cc

-- ---- a target hears

-- a target of this number hears this letter
record HearsAt (r : Rules) (w : World) (n : ℕ) (l : Letter) (v : World) : Type 0 where
  s : TargetState
  new : Kept
  memory : TargetMemory
  did : Did
  reading : ℕ
  rest : List Letter
  here : slice_get w.targets n ≡ Some s
  runs : s.life ≡ Running
  placed : n < r.script.targets
  form : CanHear (target_plan r n) s.durable s.memory l.message
  takes : Takes w.messages l rest
  turn : Hears (target_plan r n) s.opening s.memory reading l.from l.message (keeps s.durable s.free) new (memory, did)
  after : v ≡ with_target n (target_after s new memory) (after_turn w (target n) did rest)

hears_at : (r : Rules) (w : World) (n : ℕ) (l : Letter) (v : World) → l.to ≡ target n → TargetHearsAs r w l.to l v → HearsAt r w n l v
hears_at r w n l v to h =
    let number : h.event.t ≡ n = sym (ap (λ a. a.number) h.by) ∙ ap (λ a. a.number) to in
    let first : HearsAt r w h.event.t h.event.l v = record {
      s = h.event.s;
      new = h.event.new;
      memory = h.event.memory;
      did = h.event.did;
      reading = h.event.reading;
      rest = h.event.rest;
      here = h.event.here;
      runs = h.event.runs;
      placed = h.placed;
      form = subst (λ (x : Letter). CanHear (target_plan r h.event.t) h.event.s.durable h.event.s.memory x.message) h.letter h.form;
      takes = h.event.takes;
      turn = h.event.turn;
      after = h.event.after;
    } in
    subst (λ x. HearsAt r w n x v) (sym h.letter) (subst (λ k. HearsAt r w k h.event.l v) number first)

pub hears_made : (r : Rules) (w v : World) (n : ℕ) (l : Letter) (s next : TargetState) (did : Did) (f : Follow) → n < r.script.targets → l.to ≡ target n → s.life ≡ Running → slice_get w.targets n ≡ Some s
    → HearsSo (target_plan r n) l.from l.message s next did → FollowIs f w (target n) did → StaysOpen s next × IsAfterTarget w n next f v → IsTaken v.messages w.messages l f.letters → TargetHearsAs r w l.to l v
hears_made r w v n l s next did f placed to runs here hears follow both taken =
    let same = stays s next both.0 in
    record {
      event = record {
        t = n;
        s = s;
        new = keeps next.durable next.free;
        memory = next.memory;
        did = did;
        reading = hears.turn.0;
        l = l;
        rest = taken.rest;
        here = here;
        runs = runs;
        takes = taken.takes;
        to_it = to;
        turn = hears.turn.1;
        after = to_world w v n s next did f taken.rest here follow both.1 taken.left ∙ ap (λ x. with_target n x (after_turn w (target n) did taken.rest)) same;
      };
      by = to;
      letter = refl;
      placed = placed;
      form = hears.form;
    }

-- what such a turn is, as the world after it tells
record Found (r : Rules) (w v : World) (n : ℕ) (l : Letter) (s next : TargetState) : Type 0 where
  hears : HearsSo (target_plan r n) l.from l.message s next (did_told (length w.messages - 1) w v)
  still : StaysOpen s next
  rest : List Letter
  takes : Takes w.messages l rest
  after : v ≡ with_target n next (after_turn w (target n) (did_told (length w.messages - 1) w v) rest)

found : (r : Rules) (w v : World) (n : ℕ) (l : Letter) (s next : TargetState) → slice_get w.targets n ≡ Some s → slice_get v.targets n ≡ Some next → HearsAt r w n l v → Found r w v n l s next
found r w v n l s next here there h =
    let at_here = h.here in
    let state : h.s ≡ s = cc in
    let next_same : next ≡ target_after h.s h.new h.memory = next_is w v n h.s next (target_after h.s h.new h.memory) h.did h.rest at_here there h.after in
    let none = hears_lines (target_plan r n) h.s.opening h.s.memory h.reading l.from l.message (keeps h.s.durable h.s.free) h.new (h.memory, h.did) h.turn in
    let told : did_told (length w.messages - 1) w v ≡ h.did = did_is w v (target n) h.did h.rest (length w.messages - 1) none (taken_length w.messages h.rest l h.takes) (ap (λ x. x.messages) h.after) (ap (λ x. x.issued) h.after) in
    let kept_same : h.new ≡ keeps next.durable next.free = sym (ap (λ x. keeps x.durable x.free) next_same) in
    let memory_same : h.memory ≡ next.memory = sym (ap (λ x. x.memory) next_same) in
    record {
      hears = record {
        form = subst (λ x. CanHear (target_plan r n) x.durable x.memory l.message) state h.form;
        turn = (
          h.reading,
          subst (λ x. Hears (target_plan r n) x.opening x.memory h.reading l.from l.message (keeps x.durable x.free) (keeps next.durable next.free) (next.memory, did_told (length w.messages - 1) w v)) state
              (subst (λ x. Hears (target_plan r n) h.s.opening h.s.memory h.reading l.from l.message (keeps h.s.durable h.s.free) (keeps next.durable next.free) (next.memory, x)) (sym told)
              (subst (λ x. Hears (target_plan r n) h.s.opening h.s.memory h.reading l.from l.message (keeps h.s.durable h.s.free) (keeps next.durable next.free) (x, h.did)) memory_same
              (subst (λ x. Hears (target_plan r n) h.s.opening h.s.memory h.reading l.from l.message (keeps h.s.durable h.s.free) x (h.memory, h.did)) kept_same h.turn))),
        );
      };
      still = record { opening = ap (λ x. x.opening) next_same ∙ ap (λ x. x.opening) state; life = ap (λ x. x.life) next_same ∙ ap (λ x. x.life) state };
      rest = h.rest;
      takes = h.takes;
      after = h.after ∙ ap (λ x. with_target n x (after_turn w (target n) h.did h.rest)) (sym next_same) ∙ ap (λ x. with_target n next (after_turn w (target n) x h.rest)) (sym told);
    }

-- where the turn is none that could be made, there is no such event
pub hears_none : (r : Rules) (w v : World) (n : ℕ) (l : Letter) (s next : TargetState) (hears : Bool) → l.to ≡ target n → slice_get w.targets n ≡ Some s → slice_get v.targets n ≡ Some next
    → Decides hears (HearsSo (target_plan r n) l.from l.message s next (did_told (length w.messages - 1) w v)) → hears ≡ false → TargetHearsAs r w l.to l v → ⊥
hears_none r w v n l s next hears to here there same bad h = clash hears (same.1 (found r w v n l s next here there (hears_at r w n l v to h)).hears) bad

pub hears_decides : (r : Rules) (w v : World) (n : ℕ) (l : Letter) (s next : TargetState) (did : Did) (f : Follow) (hears stands result : Bool) → n < r.script.targets → l.to ≡ target n → s.life ≡ Running
    → slice_get w.targets n ≡ Some s → slice_get v.targets n ≡ Some next → did ≡ did_told (length w.messages - 1) w v → Decides hears (HearsSo (target_plan r n) l.from l.message s next did) → hears ≡ true → FollowIs f w (target n) did
    → Decides stands (StaysOpen s next × IsAfterTarget w n next f v) → Both stands (IsTaken v.messages w.messages l f.letters) result → Decides result (TargetHearsAs r w l.to l v)
hears_decides r w v n l s next did f hears stands result placed to runs here there did_same same test follow first both =
    let follow' : FollowIs f w (target n) (did_told (length w.messages - 1) w v) = subst (FollowIs f w (target n)) did_same follow in
    let parts : TargetHearsAs r w l.to l v → IsAfterTarget w n next f v × IsTaken v.messages w.messages l f.letters = (λ h.
    let g = found r w v n l s next here there (hears_at r w n l v to h) in
    let x = from_world w v n s next (did_told (length w.messages - 1) w v) f g.rest here follow' g.after in (x.0, record { rest = g.rest; takes = g.takes; left = x.1 })) in
    both_decide (StaysOpen s next × IsAfterTarget w n next f v) (IsTaken v.messages w.messages l f.letters) (TargetHearsAs r w l.to l v) stands result first
    (λ p taken. hears_made r w v n l s next did f placed to runs here (same.0 test) follow p taken)
    (λ h. ((found r w v n l s next here there (hears_at r w n l v to h)).still, (parts h).0)) (λ h. (parts h).1) both

-- ---- a target does its idle work

record IdlesAt (r : Rules) (w : World) (n : ℕ) (v : World) : Type 0 where
  settling : Bool
  s : TargetState
  new : Kept
  memory : TargetMemory
  did : Did
  here : slice_get w.targets n ≡ Some s
  turn : IdlesWhole settling (target_plan r n) s.memory (keeps s.durable s.free) new (memory, did)
  after : v ≡ with_target n (target_after s new memory) (after_turn w (target n) did w.messages)

idles_at : (r : Rules) (w : World) (a : ActorId) (v : World) → IdlesAs r w a v → IdlesAt r w a.number v
idles_at r w a v h = subst (λ k. IdlesAt r w k v) (sym (ap (λ x. x.number) h.by)) (record {
  settling = h.event.settling;
  s = h.event.s;
  new = h.event.new;
  memory = h.event.memory;
  did = h.event.did;
  here = h.event.here;
  turn = h.event.turn;
  after = h.event.after;
})

pub target_is : (a : ActorId) → a.client ≡ false → a ≡ target a.number
target_is a is = ap (λ b. record { client = b; number = a.number }) is

pub idles_made : (r : Rules) (w v : World) (a : ActorId) (s next : TargetState) (did : Did) (f : Follow) → a.number < r.script.targets → a.client ≡ false → s.life ≡ Running → slice_get w.targets a.number ≡ Some s
    → IdlesSo (target_plan r a.number) s next did → FollowIs f w (target a.number) did → StaysOpen s next × IsAfterTarget w a.number next f v → v.messages ≡ w.messages ++ f.letters → IdlesAs r w a v
idles_made r w v a s next did f placed is runs here idles follow both letters = record {
  event = record {
    settling = idles.0;
    t = a.number;
    s = s;
    new = keeps next.durable next.free;
    memory = next.memory;
    did = did;
    here = here;
    runs = runs;
    turn = idles.1;
    after = to_world w v a.number s next did f w.messages here follow both.1 letters ∙ ap (λ x. with_target a.number x (after_turn w (target a.number) did w.messages)) (stays s next both.0);
  };
  by = target_is a is;
  placed = placed;
}

record FoundIdle (r : Rules) (w v : World) (n : ℕ) (s next : TargetState) : Type 0 where
  idles : IdlesSo (target_plan r n) s next (did_told (length w.messages) w v)
  still : StaysOpen s next
  after : v ≡ with_target n next (after_turn w (target n) (did_told (length w.messages) w v) w.messages)

found_idle : (r : Rules) (w v : World) (n : ℕ) (s next : TargetState) → slice_get w.targets n ≡ Some s → slice_get v.targets n ≡ Some next → IdlesAt r w n v → FoundIdle r w v n s next
found_idle r w v n s next here there h =
    let at_here = h.here in
    let state : h.s ≡ s = cc in
    let next_same : next ≡ target_after h.s h.new h.memory = next_is w v n h.s next (target_after h.s h.new h.memory) h.did w.messages at_here there h.after in
    let none = idles_lines h.settling (target_plan r n) h.s.memory (keeps h.s.durable h.s.free) h.new (h.memory, h.did) h.turn in
    let told : did_told (length w.messages) w v ≡ h.did = did_is w v (target n) h.did w.messages (length w.messages) none refl (ap (λ x. x.messages) h.after) (ap (λ x. x.issued) h.after) in
    let kept_same : h.new ≡ keeps next.durable next.free = sym (ap (λ x. keeps x.durable x.free) next_same) in
    let memory_same : h.memory ≡ next.memory = sym (ap (λ x. x.memory) next_same) in
    record {
      idles = (
        h.settling,
        subst (λ x. IdlesWhole h.settling (target_plan r n) x.memory (keeps x.durable x.free) (keeps next.durable next.free) (next.memory, did_told (length w.messages) w v)) state
            (subst (λ x. IdlesWhole h.settling (target_plan r n) h.s.memory (keeps h.s.durable h.s.free) (keeps next.durable next.free) (next.memory, x)) (sym told)
            (subst (λ x. IdlesWhole h.settling (target_plan r n) h.s.memory (keeps h.s.durable h.s.free) (keeps next.durable next.free) (x, h.did)) memory_same
            (subst (λ x. IdlesWhole h.settling (target_plan r n) h.s.memory (keeps h.s.durable h.s.free) x (h.memory, h.did)) kept_same h.turn))),
      );
      still = record { opening = ap (λ x. x.opening) next_same ∙ ap (λ x. x.opening) state; life = ap (λ x. x.life) next_same ∙ ap (λ x. x.life) state };
      after = h.after ∙ ap (λ x. with_target n x (after_turn w (target n) h.did w.messages)) (sym next_same) ∙ ap (λ x. with_target n next (after_turn w (target n) x w.messages)) (sym told);
    }

pub idles_none : (r : Rules) (w v : World) (a : ActorId) (s next : TargetState) (idles : Bool) → slice_get w.targets a.number ≡ Some s → slice_get v.targets a.number ≡ Some next
    → Decides idles (IdlesSo (target_plan r a.number) s next (did_told (length w.messages) w v)) → idles ≡ false → IdlesAs r w a v → ⊥
idles_none r w v a s next idles here there same bad h = clash idles (same.1 (found_idle r w v a.number s next here there (idles_at r w a v h)).idles) bad

pub idles_decides : (r : Rules) (w v : World) (a : ActorId) (s next : TargetState) (did : Did) (f : Follow) (idles stands result : Bool) → a.number < r.script.targets → a.client ≡ false → s.life ≡ Running
    → slice_get w.targets a.number ≡ Some s → slice_get v.targets a.number ≡ Some next → did ≡ did_told (length w.messages) w v → Decides idles (IdlesSo (target_plan r a.number) s next did) → idles ≡ true → FollowIs f w a did
    → Decides stands (StaysOpen s next × IsAfterTarget w a.number next f v) → Both stands (v.messages ≡ w.messages ++ f.letters) result → Decides result (IdlesAs r w a v)
idles_decides r w v a s next did f idles stands result placed is runs here there did_same same test follow first both =
    let follow_here : FollowIs f w (target a.number) did = subst (λ b. FollowIs f w b did) (target_is a is) follow in
    let follow' : FollowIs f w (target a.number) (did_told (length w.messages) w v) = subst (FollowIs f w (target a.number)) did_same follow_here in
    let parts : IdlesAs r w a v → StaysOpen s next × (IsAfterTarget w a.number next f v × (v.messages ≡ w.messages ++ f.letters)) = (λ h.
    let g = found_idle r w v a.number s next here there (idles_at r w a v h) in (g.still, from_world w v a.number s next (did_told (length w.messages) w v) f w.messages here follow' g.after)) in
    both_decide (StaysOpen s next × IsAfterTarget w a.number next f v) (v.messages ≡ w.messages ++ f.letters) (IdlesAs r w a v) stands result first
    (λ p letters. idles_made r w v a s next did f placed is runs here (same.0 test) follow_here p letters) (λ h. ((parts h).0, (parts h).1.0)) (λ h. (parts h).1.1) both

-- where either of two tests of idle work says so
pub idles_either : (t : TargetPlan) (s next : TargetState) (did : Did) (o p : Option Left) (early late test : Bool) → replayed.IdlesAs false t s o → replayed.IdlesAs true t s p → Decides early (IsLeftIf o s.free (keeps next.durable next.free) (next.memory, did))
    → Decides late (IsLeftIf p s.free (keeps next.durable next.free) (next.memory, did)) → test ≡ (early || late) → Decides test (IdlesSo t s next did)
idles_either t s next did o p early late test one two first second is = (λ h. from early late (sym is ∙ h) first second, λ x. is ∙ to x.0 x.1)
  where
    from : (b c : Bool) → (b || c) ≡ true → Decides b (IsLeftIf o s.free (keeps next.durable next.free) (next.memory, did)) → Decides c (IsLeftIf p s.free (keeps next.durable next.free) (next.memory, did)) → IdlesSo t s next did
    from true c e f g = (false, (one (keeps next.durable next.free) (next.memory, did)).1 (f.0 refl))
    from false c e f g = (true, (two (keeps next.durable next.free) (next.memory, did)).1 (g.0 e))

    to : (settling : Bool) → IdlesWhole settling t s.memory (keeps s.durable s.free) (keeps next.durable next.free) (next.memory, did) → (early || late) ≡ true
    to false w = ap (λ b. b || late) (first.1 ((one (keeps next.durable next.free) (next.memory, did)).0 w))
    to true w = or_from_right early late (second.1 ((two (keeps next.durable next.free) (next.memory, did)).0 w))

-- ---- as the code says it

pub planned : (hears : Bool) (p t : TargetPlan) (from : ActorId) (m : Message) (s next : TargetState) (did told : Did) → p ≡ t → did ≡ told → Decides hears (HearsSo p from m s next did) → Decides hears (HearsSo t from m s next told)
planned hears p t from m s next did told plan_is did_same same = subst (λ x. Decides hears (HearsSo x from m s next told)) plan_is (subst (λ x. Decides hears (HearsSo p from m s next x)) did_same same)

pub told_at : (w v : World) (did : Did) (kept kept' : ℕ) → did ≡ did_told kept w v → kept ≡ kept' → did ≡ did_told kept' w v
told_at w v did kept kept' is same = is ∙ ap (λ n. did_told n w v) same
