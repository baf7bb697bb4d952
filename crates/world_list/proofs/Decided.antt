-- A client's turn that was made decides whether a world comes after another one by it.
use Rattle.std.proofs.Common.{ℕ, ◌≡◌, ◌+◌, ◌<◌, ◌++◌, Bool, true, false, List, [], ◌∷◌, Some, None, zero, suc, refl, sym, ◌∙◌, ap, subst, slice_get, arith, ◌⊎◌, inl, inr}
use Rattle.std.specs.Bool.{Decides}
use Rattle.std.proofs.Math.ListN.{drop, set, take}
use Rattle.std.proofs.lemmas.Bool.{cases_order}
use Rattle.client_core.specs.Clients.{IsInPlace}
use Rattle.base_types.specs.declared.epoch.Epoch.{Epoch}
use Rattle.base_types.specs.declared.id.AttemptId.{AttemptId}
use Rattle.base_types.specs.declared.report.Line.{Line}
use Rattle.base_messages.specs.declared.actor.ActorId.{ActorId}
use Rattle.daos_model.specs.BoolLaws.{clash}
use Rattle.base_messages.specs.declared.message.Message.{Message}
use Rattle.world_base.specs.declared.client.ClientPlan.{ClientPlan}
use Rattle.world_base.specs.declared.client.ClientState.{ClientState}
use Rattle.world_base.specs.declared.did.Did.{Did}
use Rattle.world_base.specs.declared.letter.Letter.{Letter}
use Rattle.world_base.specs.declared.target.TargetState.{TargetState}
use Rattle.world_base.specs.declared.world.Numbers.{Numbers}
use Rattle.world_base.specs.declared.world.World.{World}
use Rattle.world_base.specs.ClientTurns.{HearTurn, NextTurn}
use Rattle.world_base.specs.Events.{Rules, after_turn, client_plan, with_client}
use Rattle.world_base.specs.StepLaws.{set-here, set-there}
use Rattle.world_list.specs.Fitting.{AreInPlace}
use Rattle.world_base.specs.Letters.{Takes, client}
use Rattle.world_determined.specs.Clients.{OneTurn, one_hear, one_next}
use Rattle.world_list.specs.RunLists.{ClientHearsAs, GoesAs}
use Rattle.world_list.specs.Following.{FollowIs, IsAfter}
use Rattle.world_list.specs.Taken.{IsTaken}
use Rattle.world_list.specs.declared.follow.Follow.{Follow}

-- ---- a world by its parts

abbrev world_of : List TargetState → List ClientState → List Letter → List Letter → List (AttemptId × Epoch) → Numbers → List Line → World
world_of targets clients messages asked issued numbers lines = record { targets = targets; clients = clients; messages = messages; asked = asked; issued = issued; numbers = numbers; lines = lines }

pub same_world : (v u : World) → v.targets ≡ u.targets → v.clients ≡ u.clients → v.messages ≡ u.messages → v.asked ≡ u.asked → v.issued ≡ u.issued → v.numbers ≡ u.numbers → v.lines ≡ u.lines → v ≡ u
same_world v u targets clients messages asked issued numbers lines =
    ap (λ x. world_of x v.clients v.messages v.asked v.issued v.numbers v.lines) targets
    ∙ ap (λ x. world_of u.targets x v.messages v.asked v.issued v.numbers v.lines) clients
    ∙ ap (λ x. world_of u.targets u.clients x v.asked v.issued v.numbers v.lines) messages
    ∙ ap (λ x. world_of u.targets u.clients u.messages x v.issued v.numbers v.lines) asked
    ∙ ap (λ x. world_of u.targets u.clients u.messages u.asked x v.numbers v.lines) issued
    ∙ ap (λ x. world_of u.targets u.clients u.messages u.asked u.issued x v.lines) numbers
    ∙ ap (λ x. world_of u.targets u.clients u.messages u.asked u.issued u.numbers x) lines

set_cut : {A : Type 0} (xs : List A) (n : ℕ) (x y : A) → slice_get xs n ≡ Some x → set xs n y ≡ take n xs ++ (y ∷ drop (suc n) xs)
set_cut [] n x y here = let no : ⊥ = cc in absurd no
set_cut (z ∷ zs) zero x y here = refl
set_cut (z ∷ zs) (suc n) x y here = ap (λ ws. z ∷ ws) (set_cut zs n x y here)

after_it_is : (n : ℕ) → suc n ≡ n + 1
after_it_is n = omega arith

pub set_parts : {A : Type 0} (xs : List A) (n : ℕ) (x y : A) → slice_get xs n ≡ Some x → set xs n y ≡ take n xs ++ (y ∷ drop (n + 1) xs)
set_parts xs n x y here = set_cut xs n x y here ∙ ap (λ k. take n xs ++ (y ∷ drop k xs)) (after_it_is n)

-- ---- what follows from a turn that was made

abbrev after_it : World → ActorId → ClientState → Did → List Letter → World
after_it w a d did rest = with_client a.number d (after_turn w a did rest)

to_world : (w v : World) (a : ActorId) (c d : ClientState) (did : Did) (f : Follow) (rest : List Letter)
    → slice_get w.clients a.number ≡ Some c → FollowIs f w a did → IsAfter w a.number d f v → v.messages ≡ rest ++ f.letters → v ≡ after_it w a d did rest
to_world w v a c d did f rest here is h letters =
    same_world v (after_it w a d did rest) h.targets (h.clients ∙ sym (set_parts w.clients a.number c d here))
    (letters ∙ ap (λ x. rest ++ x) is.letters) (h.told.asked ∙ is.asked) (h.told.issued ∙ ap (λ x. w.issued ++ x) is.issued) h.told.numbers (h.told.lines ∙ ap (λ x. w.lines ++ x) is.lines)

from_world : (w v : World) (a : ActorId) (c d : ClientState) (did : Did) (f : Follow) (rest : List Letter)
    → slice_get w.clients a.number ≡ Some c → FollowIs f w a did → v ≡ after_it w a d did rest → IsAfter w a.number d f v × (v.messages ≡ rest ++ f.letters)
from_world w v a c d did f rest here is e = (
  record {
    targets = ap (λ x. x.targets) e;
    clients = ap (λ x. x.clients) e ∙ set_parts w.clients a.number c d here;
    told = record {
      asked = ap (λ x. x.asked) e ∙ sym is.asked;
      issued = ap (λ x. x.issued) e ∙ ap (λ x. w.issued ++ x) (sym is.issued);
      numbers = ap (λ x. x.numbers) e;
      lines = ap (λ x. x.lines) e ∙ ap (λ x. w.lines ++ x) (sym is.lines);
    };
  },
  ap (λ x. x.messages) e ∙ ap (λ x. rest ++ x) (sym is.letters),
)

pub actor_is : (a : ActorId) → a.client ≡ true → a ≡ client a.number
actor_is a is = ap (λ b. record { client = b; number = a.number }) is

-- ---- a turn without a message

pub goes_to : (r : Rules) (w v : World) (a : ActorId) (c d : ClientState) (did : Did) (f : Follow)
    → a.client ≡ true → slice_get w.clients a.number ≡ Some c → NextTurn (client_plan r a.number) c did d → FollowIs f w a did
    → IsAfter w a.number d f v → v.messages ≡ w.messages ++ f.letters → GoesAs r w a v
goes_to r w v a c d did f is here turn follow h letters = record {
  event = record {
    n = a.number;
    c = c;
    d = d;
    did = did;
    here = here;
    turn = turn;
    after = subst (λ b. v ≡ with_client a.number d (after_turn w b did w.messages)) (actor_is a is) (to_world w v a c d did f w.messages here follow h letters);
  };
  by = actor_is a is;
}

pub goes_from : (r : Rules) (w v : World) (a : ActorId) (c d : ClientState) (did : Did) (f : Follow)
    → slice_get w.clients a.number ≡ Some c → NextTurn (client_plan r a.number) c did d → FollowIs f w a did
    → GoesAs r w a v → IsAfter w a.number d f v × (v.messages ≡ w.messages ++ f.letters)
goes_from r w v a c d did f here turn follow h =
    let n_is : h.event.n ≡ a.number = sym (ap (λ b. b.number) h.by) in
    let there : slice_get w.clients a.number ≡ Some h.event.c = subst (λ n. slice_get w.clients n ≡ Some h.event.c) n_is h.event.here in
    let c_is : h.event.c ≡ c = cc in
    let its : NextTurn (client_plan r a.number) c h.event.did h.event.d =
    subst (λ s. NextTurn (client_plan r a.number) s h.event.did h.event.d) c_is (subst (λ n. NextTurn (client_plan r n) h.event.c h.event.did h.event.d) n_is h.event.turn) in
    let one : OneTurn h.event.did did h.event.d d = one_next (client_plan r a.number) c h.event.did did h.event.d d its turn in
    let after : v ≡ after_it w a d did w.messages =
    h.event.after ∙ ap (λ b. with_client h.event.n h.event.d (after_turn w b h.event.did w.messages)) (sym h.by)
    ∙ ap (λ n. with_client n h.event.d (after_turn w a h.event.did w.messages)) n_is
    ∙ ap (λ s. with_client a.number s (after_turn w a h.event.did w.messages)) one.state_same
    ∙ ap (λ x. with_client a.number d (after_turn w a x w.messages)) one.did_same in
    from_world w v a c d did f w.messages here follow after

-- ---- a turn in which a letter is heard

pub hears_to : (r : Rules) (w v : World) (a : ActorId) (l : Letter) (c d : ClientState) (did : Did) (f : Follow)
    → a.client ≡ true → l.to ≡ a → c.skip ≡ 0 → slice_get w.clients a.number ≡ Some c → HearTurn (client_plan r a.number) c l.message did d → FollowIs f w a did
    → IsAfter w a.number d f v → IsTaken v.messages w.messages l f.letters → ClientHearsAs r w a l v
hears_to r w v a l c d did f is to_it awake here turn follow h taken = record {
  event = record {
    n = a.number;
    c = c;
    d = d;
    did = did;
    l = l;
    rest = taken.rest;
    here = here;
    awake = awake;
    takes = taken.takes;
    to_it = to_it ∙ actor_is a is;
    turn = turn;
    after = subst (λ b. v ≡ with_client a.number d (after_turn w b did taken.rest)) (actor_is a is) (to_world w v a c d did f taken.rest here follow h taken.left);
  };
  by = actor_is a is;
  letter = refl;
}

pub hears_from : (r : Rules) (w v : World) (a : ActorId) (l : Letter) (c d : ClientState) (did : Did) (f : Follow)
    → slice_get w.clients a.number ≡ Some c → HearTurn (client_plan r a.number) c l.message did d → FollowIs f w a did
    → ClientHearsAs r w a l v → IsAfter w a.number d f v × IsTaken v.messages w.messages l f.letters
hears_from r w v a l c d did f here turn follow h =
    let n_is : h.event.n ≡ a.number = sym (ap (λ b. b.number) h.by) in
    let there : slice_get w.clients a.number ≡ Some h.event.c = subst (λ n. slice_get w.clients n ≡ Some h.event.c) n_is h.event.here in
    let c_is : h.event.c ≡ c = cc in
    let heard : HearTurn (client_plan r a.number) h.event.c l.message h.event.did h.event.d =
    subst (λ (m : Letter). HearTurn (client_plan r a.number) h.event.c m.message h.event.did h.event.d) (sym h.letter)
    (subst (λ n. HearTurn (client_plan r n) h.event.c h.event.l.message h.event.did h.event.d) n_is h.event.turn) in
    let its : HearTurn (client_plan r a.number) c l.message h.event.did h.event.d = subst (λ s. HearTurn (client_plan r a.number) s l.message h.event.did h.event.d) c_is heard in
    let one : OneTurn h.event.did did h.event.d d = one_hear (client_plan r a.number) c l.message h.event.did did h.event.d d its turn in
    let after : v ≡ after_it w a d did h.event.rest =
    h.event.after ∙ ap (λ b. with_client h.event.n h.event.d (after_turn w b h.event.did h.event.rest)) (sym h.by)
    ∙ ap (λ n. with_client n h.event.d (after_turn w a h.event.did h.event.rest)) n_is
    ∙ ap (λ s. with_client a.number s (after_turn w a h.event.did h.event.rest)) one.state_same
    ∙ ap (λ x. with_client a.number d (after_turn w a x h.event.rest)) one.did_same in
    let world : IsAfter w a.number d f v × (v.messages ≡ h.event.rest ++ f.letters) = from_world w v a c d did f h.event.rest here follow after in (
      world.0,
      record {
        rest = h.event.rest;
        takes = subst (λ m. Takes w.messages m h.event.rest) (sym h.letter) h.event.takes;
        left = world.1;
      },
    )

-- ---- whose clients are in their places

stays : (r : Rules) (clients after : List ClientState) (n : ℕ) (c d : ClientState)
    → slice_get clients n ≡ Some c → after ≡ set clients n d → IsInPlace (client_plan r n) d
    → ((m : ℕ) (x : ClientState) → slice_get clients m ≡ Some x → IsInPlace (client_plan r m) x)
    → (m : ℕ) (x : ClientState) → slice_get after m ≡ Some x → (m ≡ n) ⊎ ((m < n) ⊎ (n < m)) → IsInPlace (client_plan r m) x
stays r clients after n c d here is in_place before m x there (inl same) =
    let at_n : slice_get (set clients n d) n ≡ Some x = subst (λ k. slice_get (set clients n d) k ≡ Some x) same (ap (λ l. slice_get l m) (sym is) ∙ there) in
    let at_d : slice_get (set clients n d) n ≡ Some d = set-here clients n c d here in
    let x_is : d ≡ x = cc in
    subst (λ k. IsInPlace (client_plan r k) x) (sym same) (subst (IsInPlace (client_plan r n)) x_is in_place)
stays r clients after n c d here is in_place before m x there (inr (inl less)) =
    before m x (sym (set-there clients n m d (λ same. let no : ⊥ = omega (arith, less, same) in no)) ∙ ap (λ l. slice_get l m) (sym is) ∙ there)
stays r clients after n c d here is in_place before m x there (inr (inr more)) =
    before m x (sym (set-there clients n m d (λ same. let no : ⊥ = omega (arith, more, same) in no)) ∙ ap (λ l. slice_get l m) (sym is) ∙ there)

pub stay_in_place : (r : Rules) (w v : World) (n : ℕ) (c d : ClientState) (f : Follow)
    → slice_get w.clients n ≡ Some c → IsAfter w n d f v → IsInPlace (client_plan r n) d → AreInPlace r w → AreInPlace r v
stay_in_place r w v n c d f here h in_place before m x there =
    stays r w.clients v.clients n c d here (h.clients ∙ sym (set_parts w.clients n c d here)) in_place before m x there (cases_order m n)

-- ---- no such turn

pub no_client_goes : (r : Rules) (w v : World) (a : ActorId) → a.client ≡ false → GoesAs r w a v → ⊥
no_client_goes r w v a not_one h = let is : a.client ≡ true = ap (λ b. b.client) h.by in clash a.client is not_one

pub not_there_goes : (r : Rules) (w v : World) (a : ActorId) → slice_get w.clients a.number ≡ None → GoesAs r w a v → ⊥
not_there_goes r w v a none h =
    let n_is : h.event.n ≡ a.number = sym (ap (λ b. b.number) h.by) in
    let there : slice_get w.clients a.number ≡ Some h.event.c = subst (λ n. slice_get w.clients n ≡ Some h.event.c) n_is h.event.here in
    let no : ⊥ = cc in no

pub no_client_hears : (r : Rules) (w v : World) (a : ActorId) (l : Letter) → a.client ≡ false → ClientHearsAs r w a l v → ⊥
no_client_hears r w v a l not_one h = let is : a.client ≡ true = ap (λ b. b.client) h.by in clash a.client is not_one

pub not_to_it : (r : Rules) (w v : World) (a : ActorId) (l : Letter) → (l.to ≡ a → ⊥) → ClientHearsAs r w a l v → ⊥
not_to_it r w v a l another h = another (ap (λ x. x.to) h.letter ∙ h.event.to_it ∙ sym h.by)

pub not_there_hears : (r : Rules) (w v : World) (a : ActorId) (l : Letter) → slice_get w.clients a.number ≡ None → ClientHearsAs r w a l v → ⊥
not_there_hears r w v a l none h =
    let n_is : h.event.n ≡ a.number = sym (ap (λ b. b.number) h.by) in
    let there : slice_get w.clients a.number ≡ Some h.event.c = subst (λ n. slice_get w.clients n ≡ Some h.event.c) n_is h.event.here in
    let no : ⊥ = cc in no

pub skips_on : (r : Rules) (w v : World) (a : ActorId) (l : Letter) (c : ClientState) → slice_get w.clients a.number ≡ Some c → (c.skip ≡ 0 → ⊥) → ClientHearsAs r w a l v → ⊥
skips_on r w v a l c here skips h =
    let n_is : h.event.n ≡ a.number = sym (ap (λ b. b.number) h.by) in
    let there : slice_get w.clients a.number ≡ Some h.event.c = subst (λ n. slice_get w.clients n ≡ Some h.event.c) n_is h.event.here in
    let c_is : h.event.c ≡ c = cc in
    skips (ap (λ x. x.skip) (sym c_is) ∙ h.event.awake)

-- ---- by the two tests of a turn that was made

pub goes_then : (r : Rules) (w v : World) (a : ActorId) (c d : ClientState) (did : Did) (f : Follow)
    → a.client ≡ true → slice_get w.clients a.number ≡ Some c → NextTurn (client_plan r a.number) c did d → FollowIs f w a did → IsAfter w a.number d f v
    → (found : Bool) → Decides found (v.messages ≡ w.messages ++ f.letters) → Decides found (GoesAs r w a v)
goes_then r w v a c d did f is here turn follow h found same =
    (λ e. goes_to r w v a c d did f is here turn follow h (same.0 e), λ g. same.1 (goes_from r w v a c d did f here turn follow g).1)

pub goes_else : (r : Rules) (w v : World) (a : ActorId) (c d : ClientState) (did : Did) (f : Follow)
    → slice_get w.clients a.number ≡ Some c → NextTurn (client_plan r a.number) c did d → FollowIs f w a did
    → (found : Bool) → Decides found (IsAfter w a.number d f v) → found ≡ false → GoesAs r w a v → ⊥
goes_else r w v a c d did f here turn follow found same not_after g = clash found (same.1 (goes_from r w v a c d did f here turn follow g).0) not_after

pub hears_then : (r : Rules) (w v : World) (a : ActorId) (l : Letter) (c d : ClientState) (did : Did) (f : Follow)
    → a.client ≡ true → l.to ≡ a → c.skip ≡ 0 → slice_get w.clients a.number ≡ Some c → HearTurn (client_plan r a.number) c l.message did d → FollowIs f w a did
    → IsAfter w a.number d f v → (found : Bool) → Decides found (IsTaken v.messages w.messages l f.letters) → Decides found (ClientHearsAs r w a l v)
hears_then r w v a l c d did f is to_it awake here turn follow h found same =
    (λ e. hears_to r w v a l c d did f is to_it awake here turn follow h (same.0 e), λ g. same.1 (hears_from r w v a l c d did f here turn follow g).1)

pub hears_else : (r : Rules) (w v : World) (a : ActorId) (l : Letter) (c d : ClientState) (did : Did) (f : Follow)
    → slice_get w.clients a.number ≡ Some c → HearTurn (client_plan r a.number) c l.message did d → FollowIs f w a did
    → (found : Bool) → Decides found (IsAfter w a.number d f v) → found ≡ false → ClientHearsAs r w a l v → ⊥
hears_else r w v a l c d did f here turn follow found same not_after g = clash found (same.1 (hears_from r w v a l c d did f here turn follow g).0) not_after

-- ---- a turn as the code makes it

-- both tests hold; or the first doesn't
pub data Both (stands : Bool) (P : Type 0) (result : Bool) : Type 0 where
  Stands : (sent : Bool) → stands ≡ true → Decides sent P → result ≡ sent → Both stands P result
  Falls : stands ≡ false → result ≡ false → Both stands P result

pub both_decide : (P Q G : Type 0) (stands result : Bool) → Decides stands P → (P → Q → G) → (G → P) → (G → Q) → Both stands Q result → Decides result G
both_decide P Q G stands result first made one two (Stands sent is same e) =
    (λ h. made (first.0 is) (same.0 (sym e ∙ h)), λ g. e ∙ same.1 (two g))
both_decide P Q G stands result first made one two (Falls is e) =
    (λ h. clash result h e, λ g. clash stands (first.1 (one g)) is)

pub both_first : (P Q : Type 0) (stands result : Bool) → Decides stands P → Both stands Q result → result ≡ true → P
both_first P Q stands result first (Stands sent is same e) h = first.0 is
both_first P Q stands result first (Falls is e) h = clash result h e

pub made_goes :
    (r : Rules) (w v : World) (a : ActorId) (c s s' d : ClientState) (p q : ClientPlan) (did : Did) (f : Follow) (n : ℕ)
    → a.client ≡ true → slice_get w.clients a.number ≡ Some c → p ≡ client_plan r a.number → q ≡ p → s ≡ c → NextTurn q s did s' → d ≡ s' → n ≡ a.number → FollowIs f w a did
    → (stands result : Bool) → Decides stands (IsAfter w n d f v) → Both stands (v.messages ≡ w.messages ++ f.letters) result → Decides result (GoesAs r w a v)
made_goes r w v a c s s' d p q did f n is here p_is q_is s_is turn d_is n_is follow stands result first both =
    let turn' : NextTurn (client_plan r a.number) c did d =
    subst (λ x. NextTurn (client_plan r a.number) c did x) (sym d_is) (subst (λ x. NextTurn (client_plan r a.number) x did s') s_is (subst (λ x. NextTurn x s did s') (q_is ∙ p_is) turn)) in
    both_decide (IsAfter w a.number d f v) (v.messages ≡ w.messages ++ f.letters) (GoesAs r w a v) stands result
    (subst (λ k. Decides stands (IsAfter w k d f v)) n_is first) (λ h letters. goes_to r w v a c d did f is here turn' follow h letters)
    (λ g. (goes_from r w v a c d did f here turn' follow g).0) (λ g. (goes_from r w v a c d did f here turn' follow g).1) both

pub made_hears :
    (r : Rules) (w v : World) (l : Letter) (c s s' d : ClientState) (p q : ClientPlan) (m : Message) (did : Did) (f : Follow) (n : ℕ)
    → l.to.client ≡ true → c.skip ≡ 0 → slice_get w.clients l.to.number ≡ Some c → p ≡ client_plan r l.to.number → q ≡ p → s ≡ c → m ≡ l.message → HearTurn q s m did s' → d ≡ s'
    → n ≡ l.to.number → FollowIs f w l.to did
    → (stands result : Bool) → Decides stands (IsAfter w n d f v) → Both stands (IsTaken v.messages w.messages l f.letters) result → Decides result (ClientHearsAs r w l.to l v)
made_hears r w v l c s s' d p q m did f n is awake here p_is q_is s_is m_is turn d_is n_is follow stands result first both =
    let turn' : HearTurn (client_plan r l.to.number) c l.message did d =
    subst (λ x. HearTurn (client_plan r l.to.number) c l.message did x) (sym d_is)
    (subst (λ x. HearTurn (client_plan r l.to.number) c x did s') m_is (subst (λ x. HearTurn (client_plan r l.to.number) x m did s') s_is (subst (λ x. HearTurn x s m did s') (q_is ∙ p_is) turn))) in
    both_decide (IsAfter w l.to.number d f v) (IsTaken v.messages w.messages l f.letters) (ClientHearsAs r w l.to l v) stands result
    (subst (λ k. Decides stands (IsAfter w k d f v)) n_is first) (λ h taken. hears_to r w v l.to l c d did f is refl awake here turn' follow h taken)
    (λ g. (hears_from r w v l.to l c d did f here turn' follow g).0) (λ g. (hears_from r w v l.to l c d did f here turn' follow g).1) both

pub made_places :
    (r : Rules) (w v : World) (number n : ℕ) (c d : ClientState) (p q : ClientPlan) (f : Follow) (Q : Type 0)
    → slice_get w.clients number ≡ Some c → p ≡ client_plan r number → q ≡ p → n ≡ number → IsInPlace q d → AreInPlace r w
    → (stands result : Bool) → Decides stands (IsAfter w n d f v) → Both stands Q result → result ≡ true → AreInPlace r v
made_places r w v number n c d p q f Q here p_is q_is n_is in_place before stands result first both h =
    stay_in_place r w v number c d f here (subst (λ k. IsAfter w k d f v) n_is (both_first (IsAfter w n d f v) Q stands result first both h))
    (subst (λ x. IsInPlace x d) (q_is ∙ p_is) in_place) before

-- the same of equal lists
pub joined_of : (m m' b b' t t' : List Letter) → m ≡ m' → b ≡ b' → t ≡ t' → (sent : Bool) → Decides sent (m ≡ b ++ t) → Decides sent (m' ≡ b' ++ t')
joined_of m m' b b' t t' at_m at_b at_t sent same =
    subst (λ x. Decides sent (m' ≡ b' ++ x)) at_t (subst (λ x. Decides sent (m' ≡ x ++ t)) at_b (subst (λ x. Decides sent (x ≡ b ++ t)) at_m same))

pub taken_of : (m m' b b' t t' : List Letter) (l : Letter) → m ≡ m' → b ≡ b' → t ≡ t' → (sent : Bool) → Decides sent (IsTaken m b l t) → Decides sent (IsTaken m' b' l t')
taken_of m m' b b' t t' l at_m at_b at_t sent same =
    subst (λ x. Decides sent (IsTaken m' b' l x)) at_t (subst (λ x. Decides sent (IsTaken m' x l t)) at_b (subst (λ x. Decides sent (IsTaken x b l t)) at_m same))
