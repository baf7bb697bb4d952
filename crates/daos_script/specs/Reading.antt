-- What is so of whatever is read, unless reading fails.
use Rattle.std.specs.Prelude.{Bool, true, false, Result, Ok, Err, if◌then◌else◌}
use Rattle.base_text.specs.Results.{◌>>=◌}

abbrev pub OnRead : {A F : Type 0} → (A → Type 0) → Result A F → Type 0
OnRead P (Ok x) = P x
OnRead P (Err fault) = Unit {0}

-- of a step, and then of what the next one makes of it
pub on-bind : {A B F : Type 0} (P : A → Type 0) (Q : B → Type 0) (r : Result A F) (f : A → Result B F) → OnRead P r → ((x : A) → P x → OnRead Q (f x)) → OnRead Q (r >>= f)
on-bind P Q (Ok x) f k next = next x k
on-bind P Q (Err fault) f k next = tt

-- of a step of which nothing is asked
pub on-then : {A B F : Type 0} (Q : B → Type 0) (r : Result A F) (f : A → Result B F) → ((x : A) → OnRead Q (f x)) → OnRead Q (r >>= f)
on-then Q (Ok x) f next = next x
on-then Q (Err fault) f next = tt

-- of what is read unless a test fails
pub on-unless : {A F : Type 0} (P : A → Type 0) (b : Bool) (fault : F) (r : Result A F) → OnRead P r → OnRead P (if b then Err fault else r)
on-unless P true fault r k = tt
on-unless P false fault r k = k
