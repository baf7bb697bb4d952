-- Faults of steps, and of steps that go on from them.
use Rattle.std.proofs.Common.{◌≡◌, ℕ, List, Result, Err, sym, subst, ap, ◌∙◌}
use Rattle.base_outside.specs.Images.{Image}
use Rattle.vos_image.specs.Steps.{Step, ◌>>=◌}
use Rattle.vos_image.specs.Content.{Content}
use Rattle.vos_check_base.specs.declared.refusal.CheckNo.{CheckNo}
use Rattle.vos_check_base.specs.declared.refusal.CheckNo.TheVariants.{Stopped, Foreign, Memory}
use Rattle.vos_check_base.specs.Sets.{Set}
use Rattle.vos_check_base.specs.declared.ground.Ground.{Ground}
use Rattle.vos_check_base.specs.Answers.{Does, IsBlame, IsFault}
use Rattle.vos_check_base.proofs.Steps.{off}

-- where one step ends at a fault, another does
pub fault_by : {A B : Type 0} (c : Content) (o : Result (A × List ℕ) ℕ) (p : Result (B × List ℕ) ℕ) (e : CheckNo) → ((at : ℕ) → o ≡ Err at → p ≡ Err at) → IsFault c o e → IsFault c p e
fault_by c o p (Foreign at byte) h x = (h at x.0, x.1)
fault_by c o p Stopped h x = tt
fault_by c o p Memory h x = tt

pub fault_off : {A B : Type 0} (c : Content) (x : Step A) (f : A → Step B) (led : List ℕ) (e : CheckNo) → IsFault c (x led) e → IsFault c ((x >>= f) led) e
fault_off c x f led e h = fault_by c (x led) ((x >>= f) led) e (λ at k. off x f led at k) h

-- the byte at the place of a fault was read
pub blamed : {A : Type 0} (c : Content) (o : Result (A × List ℕ) ℕ) (at : ℕ) (f : Image) (e : CheckNo) → f ≡ c.bytes → o ≡ Err at → IsBlame f at e → IsFault c o e
blamed c o at f (Foreign place byte) h k x = (k ∙ ap (λ (n : ℕ). Err n) (sym x.0), x.1 ∙ ap (λ (i : Image). i place) h)
blamed c o at f Stopped h k x = tt
blamed c o at f Memory h k x = absurd x

-- bytes that stayed
pub moved : {A V : Type 0} (g : Ground) (f h : Image) (step : Content → Step A) (before after : Set) (shows : V → A → Type 0) (r : Result V CheckNo) → h ≡ f → Does g h step before after shows r → Does g f step before after shows r
moved {A = A} {V = V} g f h step before after shows r p x = subst (λ (i : Image). Does {A = A} {V = V} g i step before after shows r) p x
