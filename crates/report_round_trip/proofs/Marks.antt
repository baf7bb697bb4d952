-- What the table of a script's marks has for an attempt of one of its commands.
use Rattle.std.proofs.Common.{◌≡◌, ℕ, zero, suc, true, List, [], ◌∷◌, map, filter, length, slice_get, Option, Some, None, is_some, refl, sym, ap, ◌∙◌}
use Rattle.std.specs.List.{filter_map}
use Rattle.std.specs.Option.{option_and_then, option_map}
use Rattle.std.proofs.lemmas.List.{length-map}
use Rattle.std.proofs.lemmas.Option.{slice_get-map}
use Rattle.base_types.specs.declared.id.AttemptId.{AttemptId}
use Rattle.base_types.specs.declared.operation.Act.{Act}
use Rattle.base_types.specs.declared.operation.Act.TheVariants.{Fetch, Change}
use Rattle.base_types.specs.declared.operation.Cond.{Cond}
use Rattle.base_types.specs.declared.operation.Cond.TheVariants.{Free, Must, MustNot}
use Rattle.base_types.specs.declared.operation.Op.{Op}
use Rattle.base_types.specs.declared.operation.Read.{Read}
use Rattle.base_types.specs.declared.script.Command.{Command}
use Rattle.base_types.specs.declared.script.Command.TheVariants.{Run, Snap, Aggregate, Tell, Skip}
use Rattle.base_types.specs.declared.script.Script.{Script}
use Rattle.base_types.specs.Scripts.{is_numbered}
use Rattle.daos_model.specs.Accesses.{is_condition}
use Rattle.daos_model.specs.Transactions.{attempt_ops, command_of, numbered_at, ops_of, ops_or_none, read_at, read_of, read_of_op}
use Rattle.report_reader.specs.Marks as marks
use Rattle.report_reader.specs.Marks.{has_cond, is_read, mark_at, mark_of, marks_at, marks_of, table_of}
use Rattle.report_reader.specs.Told.{has_attempt}
use Rattle.report_reader.specs.Reading.{asked, asked_in, reads, reads_in}

-- ---- commands

numbered-marks : (cs : List Command) (k : ℕ) (c : Command) → slice_get (filter is_numbered cs) k ≡ Some c → slice_get (filter_map marks_of cs) k ≡ Some (map mark_of (ops_of c))
numbered-marks [] k c at = let no : ⊥ = cc in absurd no
numbered-marks (Run ops skips snapshot ∷ cs) zero c at = let same : Run ops skips snapshot ≡ c = cc in ap (λ d. Some (map mark_of (ops_of d))) same
numbered-marks (Run ops skips snapshot ∷ cs) (suc k) c at = numbered-marks cs k c at
numbered-marks (Snap name cont ∷ cs) zero c at = let same : Snap name cont ≡ c = cc in ap (λ d. Some (map mark_of (ops_of d))) same
numbered-marks (Snap name cont ∷ cs) (suc k) c at = numbered-marks cs k c at
numbered-marks (Aggregate cont ∷ cs) zero c at = let same : Aggregate cont ≡ c = cc in ap (λ d. Some (map mark_of (ops_of d))) same
numbered-marks (Aggregate cont ∷ cs) (suc k) c at = numbered-marks cs k c at
numbered-marks (Tell client ∷ cs) k c at = numbered-marks cs k c at
numbered-marks (Skip turns ∷ cs) k c at = numbered-marks cs k c at

module _ (s : Script) (id : AttemptId) where
  command-marks : (c : Command) → command_of s id ≡ Some c → marks_at (table_of s) id ≡ Some (map mark_of (ops_of c))
  unfolding command_of
  command-marks c is = by (slice_get s.clients id.client) refl
    where
      by : (o : Option (List Command)) → slice_get s.clients id.client ≡ o → marks_at (table_of s) id ≡ Some (map mark_of (ops_of c))
      by None e = let none : None ≡ Some c = ap (numbered_at id.command) (sym e) ∙ is in let no : ⊥ = cc in absurd no
      by (Some list) e =
          ap (option_and_then (λ commands. slice_get commands id.command)) (slice_get-map (filter_map marks_of) s.clients id.client ∙ ap (option_map (filter_map marks_of)) e)
          ∙ numbered-marks list id.command c (ap (numbered_at id.command) (sym e) ∙ is)

  -- how many operations there are
  pub command-ops : (c : Command) → command_of s id ≡ Some c → marks.ops_of (table_of s) id ≡ Some (length (attempt_ops s id))
  command-ops c is =
      ap (option_and_then (λ ms. Some (length ms))) (command-marks c is) ∙ ap (λ n. Some n) (length-map (ops_of c) mark_of) ∙ ap (λ o. Some (length (ops_or_none o))) (sym is)

  pub has-attempt : (c : Command) → command_of s id ≡ Some c → has_attempt (table_of s) id ≡ true
  has-attempt c is = ap is_some (command-ops c is)

  -- ---- operations

  pub op-mark : (n : ℕ) (op : Op) → slice_get (attempt_ops s id) n ≡ Some op → mark_at (table_of s) id n ≡ Some (mark_of op)
  op-mark n op at = by (command_of s id) refl
    where
      by : (o : Option Command) → command_of s id ≡ o → mark_at (table_of s) id n ≡ Some (mark_of op)
      by None e = let none : None ≡ Some op = ap (λ p. slice_get (ops_or_none p) n) (sym e) ∙ at in let no : ⊥ = cc in absurd no
      by (Some c) e =
          ap (option_and_then (λ ms. slice_get ms n)) (command-marks c e) ∙ slice_get-map mark_of (ops_of c) n
          ∙ ap (option_map mark_of) (ap (λ p. slice_get (ops_or_none p) n) (sym e) ∙ at)

  -- one with a condition, and one that reads
  pub is-asked : (n : ℕ) (op : Op) → slice_get (attempt_ops s id) n ≡ Some op → is_condition op.cond ≡ true → asked (table_of s) id n ≡ true
  is-asked n op at h = ap asked_in (op-mark n op at) ∙ same op.cond ∙ h
    where
      same : (c : Cond) → has_cond c ≡ is_condition c
      same Free = refl
      same Must = refl
      same MustNot = refl

  pub is-read : (n : ℕ) (r : Read) → read_at (attempt_ops s id) n ≡ Some r → reads (table_of s) id n ≡ true
  is-read n r is = by (slice_get (attempt_ops s id) n) refl
    where
      fetches : (act : Act) → read_of act ≡ Some r → is_read act ≡ true
      fetches (Fetch q) e = refl
      fetches (Change w) e = let no : ⊥ = cc in absurd no

      by : (o : Option Op) → slice_get (attempt_ops s id) n ≡ o → reads (table_of s) id n ≡ true
      by None e = let none : None ≡ Some r = ap read_of_op (sym e) ∙ is in let no : ⊥ = cc in absurd no
      by (Some op) e = ap reads_in (op-mark n op e) ∙ fetches op.act (ap read_of_op (sym e) ∙ is)
