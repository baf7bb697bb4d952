-- A batch, target by target.
use Rattle.std.proofs.Common.{◌≡◌, ℕ, ◌+◌, ◌-◌, ◌<◌, ◌≤◌, List, [], ◌++◌, map, sym, ◌∙◌, ap, append_assoc, append-nil}
use Rattle.std.specs.List.{range_with_len}
use Rattle.base_types.specs.declared.entry.Entry.{Entry}
use Rattle.base_messages.specs.declared.message.Post.{Post}
use Rattle.dtx_base.specs.declared.leading.Naming.{Naming}
use Rattle.dtx_base.specs.Leading.{mark_with, marks_for, names_for, naming, owed}
use Rattle.dtx_table.specs.Ranges.{from_one, none_left}

module _ (inc down : ℕ) (named : List Naming) (es : List Entry) where
  pub marks_next : (ps all : List Post) (t n : ℕ) → t < n → ps ++ marks_for inc down named es (range_with_len t (n - t)) ≡ all
      → (ps ++ mark_with inc t (owed down named es t)) ++ marks_for inc down named es (range_with_len (t + 1) (n - (t + 1))) ≡ all
  marks_next ps all t n within so_far =
      append_assoc ps (mark_with inc t (owed down named es t)) (marks_for inc down named es (range_with_len (t + 1) (n - (t + 1))))
      ∙ ap (λ r. ps ++ marks_for inc down named es r) (sym (from_one t n within)) ∙ so_far

  -- a target that is to be told of nothing
  pub marks_skip : (ps all : List Post) (t n : ℕ) → t < n → owed down named es t ≡ [] → ps ++ marks_for inc down named es (range_with_len t (n - t)) ≡ all
      → ps ++ marks_for inc down named es (range_with_len (t + 1) (n - (t + 1))) ≡ all
  marks_skip ps all t n within none so_far =
      let rest = marks_for inc down named es (range_with_len (t + 1) (n - (t + 1))) in
      ap (λ ids. ps ++ (mark_with inc t ids ++ rest)) (sym none)
      ∙ ap (λ r. ps ++ marks_for inc down named es r) (sym (from_one t n within)) ∙ so_far

  pub marks_all : (ps all : List Post) (t n : ℕ) → n ≤ t → ps ++ marks_for inc down named es (range_with_len t (n - t)) ≡ all → ps ≡ all
  marks_all ps all t n past so_far = sym (append-nil ps) ∙ ap (λ r. ps ++ marks_for inc down named es r) (sym (none_left t n past)) ∙ so_far

  pub names_next : (ns all : List Naming) (t n : ℕ) → t < n → ns ++ names_for inc down named es (range_with_len t (n - t)) ≡ all
      → (ns ++ map (naming t inc) (owed down named es t)) ++ names_for inc down named es (range_with_len (t + 1) (n - (t + 1))) ≡ all
  names_next ns all t n within so_far =
      append_assoc ns (map (naming t inc) (owed down named es t)) (names_for inc down named es (range_with_len (t + 1) (n - (t + 1))))
      ∙ ap (λ r. ns ++ names_for inc down named es r) (sym (from_one t n within)) ∙ so_far

  pub names_skip : (ns all : List Naming) (t n : ℕ) → t < n → owed down named es t ≡ [] → ns ++ names_for inc down named es (range_with_len t (n - t)) ≡ all
      → ns ++ names_for inc down named es (range_with_len (t + 1) (n - (t + 1))) ≡ all
  names_skip ns all t n within none so_far =
      let rest = names_for inc down named es (range_with_len (t + 1) (n - (t + 1))) in
      ap (λ ids. ns ++ (map (naming t inc) ids ++ rest)) (sym none)
      ∙ ap (λ r. ns ++ names_for inc down named es r) (sym (from_one t n within)) ∙ so_far

  pub names_all : (ns all : List Naming) (t n : ℕ) → n ≤ t → ns ++ names_for inc down named es (range_with_len t (n - t)) ≡ all → ns ≡ all
  names_all ns all t n past so_far = sym (append-nil ns) ∙ ap (λ r. ns ++ names_for inc down named es r) (sym (none_left t n past)) ∙ so_far
