-- A stop since a client's last line stays one, whatever lines of targets are added.
use Rattle.std.specs.Prelude.{ℕ, ◌≡◌, ◌++◌, Bool, true, false, List, [], ◌∷◌, Contains, Any, refl, if◌then◌else◌}
use Rattle.std.specs.List.{list_any}
use Rattle.std.proofs.Common.{append_assoc, sym, ◌∙◌, ap}
use Rattle.base_types.specs.declared.id.AttemptId.{AttemptId}
use Rattle.base_types.specs.declared.report.Attempt.{Attempt}
use Rattle.base_types.specs.declared.report.Line.{Line}
use Rattle.base_types.specs.declared.report.Line.TheVariants as line
use Rattle.model_laws.specs.Lists.{any-of}
use Rattle.model_laws.specs.Members.{Has, has-from_contains, has-right}
use Rattle.daos_model.specs.Accesses.{attempt_targets}
use Rattle.daos_model.specs.Attempts.{EachTry, is_of_client, tried, tries, up_to_last_of}
use Rattle.daos_model.specs.CausesShown.{IsStopAt}
use Rattle.world_base.specs.Events.{Rules}
use Rattle.world_causes.specs.causes.Lasting.{silent-others, up-to-others}
use Rattle.world_causes.specs.causes.Lasting as lasting
use Rattle.world_causes.specs.losses.Losses.{StoppedSince}

-- ---- up to the last line of a client

up-to-more : (c : ℕ) (lines more : List Line) → tries more ≡ [] → up_to_last_of c (lines ++ more) ≡ up_to_last_of c lines
up-to-more c lines more none = up-to-others c lines more (silent-others c more none)

-- it is where the lines begin
pub up-to-begins : (c : ℕ) (lines : List Line) → (since : List Line) × (lines ≡ up_to_last_of c lines ++ since)
unfolding up_to_last_of
up-to-begins c [] = ([], refl)
up-to-begins c (l ∷ ls) = by (list_any (is_of_client c) (tries (l ∷ ls))) (up-to-begins c ls)
  where
    by : (b : Bool) → (since : List Line) × (ls ≡ up_to_last_of c ls ++ since) → (since : List Line) × (l ∷ ls ≡ (if b then l ∷ up_to_last_of c ls else []) ++ since)
    by true k = (k.0, ap (λ xs. l ∷ xs) k.1)
    by false k = (l ∷ ls, refl)

-- ---- a stop

-- it stays one
pub since-more : (r : Rules) (lines more : List Line) (x : AttemptId) → tries more ≡ [] → StoppedSince r lines x → StoppedSince r (lines ++ more) x
since-more r lines more x none k = lasting.since-more (attempt_targets r.script x) x.client lines more (silent-others x.client more none) k

-- and a line of a stop of a target of it makes one
pub since-stop : (r : Rules) (lines more : List Line) (x : AttemptId) (t n : ℕ) → tries more ≡ [] → Contains (attempt_targets r.script x) t → Has (line.Stop n t) more → StoppedSince r (lines ++ more) x
since-stop r lines more x t n none target stop = record {
  since = begins.0 ++ more;
  rest = ap (λ ls. ls ++ more) begins.1 ∙ append_assoc (up_to_last_of x.client lines) begins.0 more ∙ ap (λ ls. ls ++ (begins.0 ++ more)) (sym (up-to-more x.client lines more none));
  stop = any-of (λ u. Any (IsStopAt u) (begins.0 ++ more)) (attempt_targets r.script x) t (has-from_contains (attempt_targets r.script x) t target)
      (any-of (IsStopAt t) (begins.0 ++ more) (line.Stop n t) (has-right begins.0 more (line.Stop n t) stop) (n, refl));
}
  where
    begins : (since : List Line) × (lines ≡ up_to_last_of x.client lines ++ since)
    begins = up-to-begins x.client lines

-- ---- each line of an attempt

none-added : (ts us : List Attempt) → ts ++ us ≡ [] → us ≡ []
none-added [] us is = is
none-added (t ∷ ts) us is = let no : ⊥ = cc in absurd no

some-try : (ls after : List Line) (a : Attempt) → tries (ls ++ line.Try a ∷ after) ≡ [] → ⊥
unfolding tries
some-try [] after a is = let no : ⊥ = cc in no
some-try (l ∷ ls) after a is = some-try ls after a (none-added (tried l) (tries (ls ++ line.Try a ∷ after)) is)

-- an attempt that lines tell of, some of which tell of none, is one of the others
try-before : (lines more before after : List Line) (a : Attempt) → tries more ≡ [] → lines ++ more ≡ before ++ line.Try a ∷ after → (rest : List Line) × (lines ≡ before ++ line.Try a ∷ rest)
unfolding tries
try-before [] more [] after a none same = let bad : tries (line.Try a ∷ after) ≡ [] = sym (ap tries same) ∙ none in let no : ⊥ = cc in absurd no
try-before [] more (b ∷ bs) after a none same = absurd (some-try (b ∷ bs) after a (ap tries (sym same) ∙ none))
try-before (l ∷ ls) more [] after a none same = let one : l ≡ line.Try a = cc in (ls, ap (λ y. y ∷ ls) one)
try-before (l ∷ ls) more (b ∷ bs) after a none same =
    let one : l ≡ b = cc in
    let rest : ls ++ more ≡ bs ++ line.Try a ∷ after = cc in
    let k = try-before ls more bs after a none rest in
    (k.0, ap (λ y. y ∷ ls) one ∙ ap (λ ys. b ∷ ys) k.1)

pub each-more : (P : List Line → Attempt → Type 0) (lines more : List Line) → tries more ≡ [] → EachTry P lines → EachTry P (lines ++ more)
each-more P lines more none each before a after same = let k = try-before lines more before after a none same in each before a k.0 k.1
