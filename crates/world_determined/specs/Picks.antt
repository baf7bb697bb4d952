-- Who has something to do, and which letter is picked, goes by worlds but for free blocks.
use Rattle.std.specs.Prelude.{ℕ, ◌≡◌, ◌++◌, Bool, true, false, List, [], ◌∷◌, filter, length, slice_get, Option, Some, None, if◌then◌else◌, refl}
use Rattle.std.specs.Option.{option_map}
use Rattle.std.proofs.Common.{sym, ◌∙◌, ap, ap₂, subst, arith}
use Rattle.daos_model.specs.FormLaws.{length-map}
use Rattle.std.proofs.lemmas.Option.{slice_get-map}
use mathlib.Core.Path.{fun_ext}
use Rattle.base_messages.specs.declared.actor.ActorId.{ActorId}
use Rattle.run_base.specs.Letters.{IsPicked, is_to, letters_to, same_actor}
use Rattle.run_base.specs.Picked.{to-itself}
use Rattle.run_base.specs.Picks.{count_to, due, if_client_due, if_target_due, is_due, numbered}
use Rattle.world_base.specs.declared.letter.Letter.{Letter}
use Rattle.world_base.specs.declared.target.TargetPlan.{TargetPlan}
use Rattle.world_base.specs.declared.target.TargetState.{TargetState}
use Rattle.world_base.specs.declared.world.World.{World}
use Rattle.world_base.specs.Events.{Rules, client_plan, target_plan}
use Rattle.world_base.specs.Letters.{client, target}
use Rattle.world_determined.specs.Worlds.{SameButFree, but_free, target_but_free}

-- ---- the statements

-- in worlds that are the same but for free blocks the same actors have something to do
abbrev pub SameAreDue : Type 0
SameAreDue = (settling : Bool) (r : Rules) (w v : World) → SameButFree w v → due settling r w ≡ due settling r v

-- one letter, and those that are left
pub record OnePick (l m : Letter) (rest left : List Letter) : Type 0 where
  pub letter_same : l ≡ m
  pub rest_same : rest ≡ left

-- an actor's letter of a number is one
abbrev pub PicksAreOne : Type 0
PicksAreOne = (letters : List Letter) (a : ActorId) (k : ℕ) (l m : Letter) (rest left : List Letter) → IsPicked letters a k l rest → IsPicked letters a k m left → OnePick l m rest left

-- ---- who is due

target-due : (settling : Bool) (p : TargetPlan) (count : ℕ) (o : Option TargetState) → if_target_due settling p count (option_map target_but_free o) ≡ if_target_due settling p count o
target-due settling p count None = refl
target-due settling p count (Some s) = refl

pub actor-due : (settling : Bool) (r : Rules) (w : World) (a : ActorId) → is_due settling r (but_free w) a ≡ is_due settling r w a
actor-due settling r w a =
    ap (λ b. if a.client then if_client_due (client_plan r a.number) (count_to a w.messages) (slice_get w.clients a.number) else b)
    (ap (if_target_due settling (target_plan r a.number) (count_to a w.messages)) (slice_get-map target_but_free w.targets a.number)
    ∙ target-due settling (target_plan r a.number) (count_to a w.messages) (slice_get w.targets a.number))

due-but_free : (settling : Bool) (r : Rules) (w : World) → due settling r (but_free w) ≡ due settling r w
due-but_free settling r w =
    ap₂ (λ (f : ActorId → Bool) (all : List ActorId). filter f all) (fun_ext (actor-due settling r w)) (ap (λ n. numbered client (length w.clients) ++ numbered target n) (length-map target_but_free w.targets))

pub same-are_due : SameAreDue
same-are_due settling r w v same = sym (due-but_free settling r w) ∙ ap (due settling r) same ∙ due-but_free settling r v

-- ---- which letter is picked

own : (a : ActorId) (l : Letter) → l.to ≡ a → is_to a l ≡ true
own a l to = subst (λ x. same_actor l.to x ≡ true) to (to-itself l.to)

more-to : (a : ActorId) (l : Letter) (ls : List Letter) (k : ℕ) → is_to a l ≡ true → length (letters_to a (l ∷ ls)) ≡ k → 0 ≡ k → ⊥
more-to a l ls k mine counted none =
    let more : length (l ∷ letters_to a ls) ≡ k = sym (ap (λ b. length (if b then l ∷ letters_to a ls else letters_to a ls)) mine) ∙ counted in omega (arith, more, none)

fewer-to : (b : Bool) (l : Letter) (xs ys : List Letter) → length (if b then l ∷ xs else xs) ≡ length (if b then l ∷ ys else ys) → length xs ≡ length ys
fewer-to true l xs ys same = omega (arith, same)
fewer-to false l xs ys same = same

picked-from : (a : ActorId) (before after before' after' : List Letter) (l m : Letter) → l.to ≡ a → m.to ≡ a → before ++ l ∷ after ≡ before' ++ m ∷ after' → length (letters_to a before) ≡ length (letters_to a before')
    → OnePick l m (before ++ after) (before' ++ after')
picked-from a [] after [] after' l m mine his same counted = record { letter_same = cc (same); rest_same = cc (same) }
picked-from a [] after (y ∷ ys) after' l m mine his same counted = let first : l ≡ y = cc (same) in absurd (more-to a y ys _ (own a y (subst (λ (x : Letter). x.to ≡ a) first mine)) refl counted)
picked-from a (x ∷ xs) after [] after' l m mine his same counted = let first : m ≡ x = cc (same) in absurd (more-to a x xs _ (own a x (subst (λ (y : Letter). y.to ≡ a) first his)) refl (sym counted))
picked-from a (x ∷ xs) after (y ∷ ys) after' l m mine his same counted =
    let first : x ≡ y = cc (same) in
    let more : xs ++ l ∷ after ≡ ys ++ m ∷ after' = cc (same) in
    let so = picked-from a xs after ys after' l m mine his more (fewer-to (is_to a x) x (letters_to a xs) (letters_to a ys) (counted ∙ ap (λ (z : Letter). length (letters_to a (z ∷ ys))) (sym first))) in
    record { letter_same = so.letter_same; rest_same = ap₂ (λ (z : Letter) (zs : List Letter). z ∷ zs) first so.rest_same }

pub picks-are_one : PicksAreOne
picks-are_one letters a k l m rest left p q =
    let so = picked-from a p.before p.after q.before q.after l m p.to_it q.to_it (sym p.among ∙ q.among) (p.first ∙ sym q.first) in
    record { letter_same = so.letter_same; rest_same = p.left ∙ so.rest_same ∙ sym q.left }
