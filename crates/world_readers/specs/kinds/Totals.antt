-- What goes about of reads once letters are taken, sent or lost, or a target becomes another.
use Rattle.std.specs.Prelude.{ℕ, zero, suc, ◌≡◌, ◌≤◌, ◌+◌, ◌++◌, Bool, true, List, [], ◌∷◌, filter, map, slice_get, Some, refl}
use Rattle.std.proofs.Common.{◌∙◌, ap, arith}
use Rattle.std.proofs.Math.ListN.{set}
use Rattle.base_types.specs.declared.id.AttemptId.{AttemptId}
use Rattle.base_types.specs.declared.operation.Read.{Read}
use Rattle.base_messages.specs.declared.actor.ActorId.{ActorId}
use Rattle.base_messages.specs.declared.message.Post.{Post}
use Rattle.dtx_base.specs.declared.member.Parked.{Parked}
use Rattle.world_base.specs.declared.letter.Letter.{Letter}
use Rattle.world_base.specs.declared.target.Life.{Life}
use Rattle.world_base.specs.declared.target.Life.TheVariants.{Down, Running, Stopped}
use Rattle.world_base.specs.declared.target.TargetState.{TargetState}
use Rattle.world_base.specs.declared.world.World.{World}
use Rattle.world_base.specs.Letters.{Takes, letter_of, letters_of}
use Rattle.world_base.specs.Stops.{is_not_to, is_not_to_down, is_to, is_to_down, reset_letter, resets, swept}
use Rattle.world_ended.specs.world_letters.kinds.FittingLaws.{AreAlike, AreLess}
use Rattle.world_ended.specs.world_letters.kinds.Loads.{letter_load, load, parked_load, post_load, total}
use Rattle.world_ended.specs.world_letters.kinds.LoadLaws.{none-alike, total-alike, total-append, total-filter, total-map, total-none, total-split}
use Rattle.world_readers.specs.kinds.Kinds.{loads_in, parked_while, waiting_load}

-- one of a list becomes another
pub total-set : {T : Type 0} (f : T → ℕ) (xs : List T) (n : ℕ) (x y : T) → slice_get xs n ≡ Some x → total f (set xs n y) + f x ≡ total f xs + f y
total-set f [] n x y here = let no : ⊥ = cc in absurd no
total-set f (z ∷ zs) zero x y here = let same : z ≡ x = cc in let is = ap f same in omega (arith, is)
total-set f (z ∷ zs) (suc n) x y here = let rest = total-set f zs n x y here in omega (arith, rest)

-- ---- letters

-- a letter that is taken went about before
pub taken-load : (ls : List Letter) (l : Letter) (rest : List Letter) → Takes ls l rest → (x : AttemptId) (r : Read) → total (letter_load x r) ls ≡ load x r l.message + total (letter_load x r) rest
taken-load ls l rest k x r =
    let split = ap (total (letter_load x r)) k.among ∙ total-split (letter_load x r) k.before k.after l in
    let others = ap (total (letter_load x r)) k.left in
    omega (arith, split, others)

-- what is posted goes about
pub posted-load : (from : ActorId) (posts : List Post) (x : AttemptId) (r : Read) → total (letter_load x r) (letters_of from posts) ≡ total (post_load x r) posts
posted-load from posts x r = total-map (letter_load x r) (letter_of from) posts

-- what tells that a letter got no answer carries nothing
reset-carries : (down : Bool) (x : AttemptId) (r : Read) (l : Letter) → letter_load x r (reset_letter down l) ≡ 0
unfolding load
reset-carries down x r l = refl

resets-carry : (down : Bool) (ls : List Letter) (x : AttemptId) (r : Read) → total (letter_load x r) (map (reset_letter down) ls) ≡ 0
resets-carry down ls x r = total-map (letter_load x r) (reset_letter down) ls ∙ total-none (λ l. letter_load x r (reset_letter down l)) ls (reset-carries down x r)

-- letters to a target are lost, and who waits for its answer is told
pub lost-load : (t : ℕ) (down : Bool) (ls asked : List Letter) (x : AttemptId) (r : Read) → total (letter_load x r) (filter (is_not_to t) ls ++ resets t down asked) ≤ total (letter_load x r) ls
lost-load t down ls asked x r =
    let left = total-filter (letter_load x r) (is_not_to t) ls in
    let all = total-append (letter_load x r) (filter (is_not_to t) ls) (resets t down asked) in
    let none = resets-carry down (filter (is_to t) asked) x r in
    omega (arith, left, all, none)

-- what goes to targets that are given up is lost
pub swept-load : (w : World) → AreLess (loads_in (swept w)) (loads_in w)
swept-load w x r =
    let told = map (reset_letter true) (filter (is_to_down w.targets) w.asked) in
    let left = total-filter (letter_load x r) (is_not_to_down w.targets) (w.messages ++ told) in
    let all = total-append (letter_load x r) w.messages told in
    let none = resets-carry true (filter (is_to_down w.targets) w.asked) x r in
    omega (arith, left, all, none)

-- ---- what carries nothing of one read of an attempt carries nothing of another

letters-alike : (ls : List Letter) (x : AttemptId) (r s : Read) → total (letter_load x r) ls ≡ 0 → total (letter_load x s) ls ≡ 0
letters-alike ls x r s none = total-alike (letter_load x r) (letter_load x s) ls (λ l. none-alike x r s l.message) none

parked-alike : (life : Life) (ps : List Parked) (x : AttemptId) (r s : Read) → parked_while x r life ps ≡ 0 → parked_while x s life ps ≡ 0
parked-alike Running ps x r s none = total-alike (parked_load x r) (parked_load x s) ps (λ p. none-alike x r s p.ask) none
parked-alike Stopped ps x r s none = refl
parked-alike Down ps x r s none = refl

waiting-alike : (ss : List TargetState) (x : AttemptId) (r s : Read) → total (waiting_load x r) ss ≡ 0 → total (waiting_load x s) ss ≡ 0
waiting-alike ss x r s none = total-alike (waiting_load x r) (waiting_load x s) ss (λ z. parked-alike z.life z.memory.member.parked x r s) none

pub loads-alike : (w : World) → AreAlike (loads_in w)
loads-alike w x r s none =
    let letters = letters-alike w.messages x r s (omega (arith, none)) in
    let waiting = waiting-alike w.targets x r s (omega (arith, none)) in
    omega (arith, letters, waiting)
