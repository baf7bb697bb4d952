-- Attempts, their lines and their commands.
use Rattle.std.specs.Prelude.{ℕ, ◌≡◌, Any, Bool, true, false, List, [], ◌∷◌, ◌++◌, filter, slice_get, Option, Some, None, refl, if◌then◌else◌}
use Rattle.std.specs.List.{list_all, list_any}
use Rattle.std.proofs.Common.{zero, suc, sym, ◌∙◌, ap, subst, inl, inr}
use Rattle.base_types.specs.declared.id.AttemptId.{AttemptId}
use Rattle.base_types.specs.declared.report.Attempt.{Attempt}
use Rattle.base_types.specs.declared.report.Line.{Line}
use Rattle.base_types.specs.declared.report.Line.TheVariants as line
use Rattle.base_types.specs.declared.script.Command.{Command}
use Rattle.base_types.specs.declared.script.Script.{Script}
use Rattle.base_types.specs.Scripts.{is_numbered}
use Rattle.model_laws.specs.Lists.{passes-at}
use Rattle.model_laws.specs.Members.{Has, any-has, has-from_contains}
use Rattle.daos_model.specs.Attempts.{is_of_client, tries, up_to_last_of}
use Rattle.daos_model.specs.BoolLaws.{and_left, and_right}
use Rattle.daos_model.specs.Order.{client_commands, commands_or_none}
use Rattle.daos_model.specs.Transactions.{command_of, numbered_at}
use Rattle.model_reports.specs.Rooms.{ListsOfTransactions, is_transaction}

-- what some element of a list is
pub one-of-any : {T : Type 0} (P : T → Type 0) (xs : List T) → Any P xs → (x : T) × Has x xs × P x
one-of-any P xs k = (k.1, has-from_contains xs k.1 (k.0, k.2, k.3), k.4)

-- where the line of an attempt stands
pub record StandsAt (lines : List Line) (a : Attempt) : Type 0 where
  pub before : List Line
  pub after : List Line
  pub among : lines ≡ before ++ line.Try a ∷ after

abbrev behind : (l : Line) (lines : List Line) (a : Attempt) → StandsAt lines a → StandsAt (l ∷ lines) a
behind l lines a k = record { before = l ∷ k.before; after = k.after; among = ap (λ ls. l ∷ ls) k.among }

-- each attempt that is told of has a line
pub line-of : (lines : List Line) (a : Attempt) → Has a (tries lines) → StandsAt lines a
unfolding tries
line-of [] a i = absurd i
line-of (line.Try b ∷ lines) a (inl same) = record { before = []; after = lines; among = ap (λ c. line.Try c ∷ lines) (sym same) }
line-of (line.Try b ∷ lines) a (inr i) = behind (line.Try b) lines a (line-of lines a i)
line-of (line.Stop number target ∷ lines) a i = behind (line.Stop number target) lines a (line-of lines a i)
line-of (line.Restart number target incarnation floor ∷ lines) a i = behind (line.Restart number target incarnation floor) lines a (line-of lines a i)
line-of (line.Freeze target cont epoch ∷ lines) a i = behind (line.Freeze target cont epoch) lines a (line-of lines a i)
line-of (line.Snapshot name cont epoch ∷ lines) a i = behind (line.Snapshot name cont epoch) lines a (line-of lines a i)
line-of (line.Aggregate number target cont upto ∷ lines) a i = behind (line.Aggregate number target cont upto) lines a (line-of lines a i)
line-of (line.Down target ∷ lines) a i = behind (line.Down target) lines a (line-of lines a i)

-- lines up to the last one of a client have all that are its
pub up-to-has : (c : ℕ) (lines : List Line) (b : Attempt) → Has b (tries lines) → is_of_client c b ≡ true → Has b (tries (up_to_last_of c lines))
unfolding tries up_to_last_of
up-to-has c [] b i its = i
up-to-has c (l ∷ ls) b i its = by (λ j. up-to-has c ls b j its) (list_any (is_of_client c) (tries (l ∷ ls))) (any-has (is_of_client c) (tries (l ∷ ls)) b i its)
  where
    among : (k : Line) → Has b (tries (k ∷ ls)) → (Has b (tries ls) → Has b (tries (up_to_last_of c ls))) → Has b (tries (k ∷ up_to_last_of c ls))
    among (line.Try a) (inl same) rest = inl same
    among (line.Try a) (inr j) rest = inr (rest j)
    among k j rest = rest j

    by : (Has b (tries ls) → Has b (tries (up_to_last_of c ls))) → (z : Bool) → z ≡ true → Has b (tries (if z then l ∷ up_to_last_of c ls else []))
    by rest true is = among l i rest
    by rest false is = let no : ⊥ = cc in absurd no

-- the command of an attempt is the one of its number among its client's commands
pub command-at : (s : Script) (x : AttemptId) (client n : ℕ) (c : Command) → x.client ≡ client → x.command ≡ n → slice_get (client_commands s client) n ≡ Some c → command_of s x ≡ Some c
unfolding command_of
command-at s x client n c own number at = by (slice_get s.clients client) refl at
  where
    by : (o : Option (List Command)) → slice_get s.clients client ≡ o → slice_get (commands_or_none o) n ≡ Some c → numbered_at x.command (slice_get s.clients x.client) ≡ Some c
    by None e h = let no : ⊥ = cc in absurd no
    by (Some list) e h = ap (λ m. numbered_at x.command (slice_get s.clients m)) own ∙ ap (numbered_at x.command) e ∙ ap (λ m. numbered_at m (Some list)) number ∙ h

-- ---- commands of lists that pass a test

-- what stands among those that pass a second test passes both
filtered-at : {T : Type 0} (t u : T → Bool) (xs : List T) (n : ℕ) (x : T) → list_all t xs ≡ true → slice_get (filter u xs) n ≡ Some x → (t x ≡ true) × (u x ≡ true)
filtered-at t u [] n x all at = let no : ⊥ = cc in absurd no
filtered-at {T = T} t u (y ∷ ys) n x all at = by (u y) refl n at (λ m. filtered-at t u ys m x (and_right (t y) (list_all t ys) all))
  where
    by : (b : Bool) → u y ≡ b → (m : ℕ) → slice_get (if b then y ∷ filter u ys else filter u ys) m ≡ Some x → ((k : ℕ) → slice_get (filter u ys) k ≡ Some x → (t x ≡ true) × (u x ≡ true)) → (t x ≡ true) × (u x ≡ true)
    by true e zero h rest = let same : y ≡ x = cc in subst (λ z. (t z ≡ true) × (u z ≡ true)) same (and_left (t y) (list_all t ys) all, e)
    by true e (suc m) h rest = rest m h
    by false e m h rest = rest m h

pub lists-of-transactions : ListsOfTransactions
unfolding command_of
lists-of-transactions s t only all x c at = by (slice_get s.clients x.client) refl at
  where
    by : (o : Option (List Command)) → slice_get s.clients x.client ≡ o → numbered_at x.command o ≡ Some c → is_transaction c ≡ true
    by None e h = let no : ⊥ = cc in absurd no
    by (Some list) e h = let k = filtered-at t is_numbered list x.command c (passes-at (list_all t) s.clients x.client list all e) h in only c k.0 k.1
