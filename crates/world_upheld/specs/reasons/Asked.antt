-- What a target hears is what the world knows of it: a request as its client makes it, a Prepare as the leader sends it, and what a
-- read may meet.
use Rattle.std.specs.Prelude.{ℕ, ◌≡◌, ◌≢◌, ◌==◌, Bool, true, false, not, List, [], ◌∷◌, Contains, Some, refl, if◌then◌else◌}
use Rattle.std.specs.List.{list_any}
use Rattle.std.proofs.Common.{inl, inr, sym, ◌∙◌, ap}
use Rattle.std.proofs.lemmas.Bool.{eq-eqb}
use Rattle.base_types.specs.declared.id.AttemptId.{AttemptId}
use Rattle.base_types.specs.declared.operation.MinorWrite.{MinorWrite}
use Rattle.base_types.specs.Operations.{write_path}
use Rattle.base_types.specs.Placement.{path_leader, path_members, writes_leader, writes_members}
use Rattle.model_laws.specs.EntryLaws.{same-attempt}
use Rattle.model_laws.specs.Members.{Has, any-has, has-cases, has-from_contains, has-from_filter, has-left}
use Rattle.daos_model.specs.Blocks.{blocks}
use Rattle.daos_model.specs.BoolLaws.{and_left}
use Rattle.daos_model.specs.CausesShown.{blocks_at, blocks_of_some}
use Rattle.dtx_base.specs.declared.leading.Undecided.{Undecided}
use Rattle.dtx_base.specs.Leading.{undecided_attempt}
use Rattle.dtx_base.specs.Members as members
use Rattle.dtx_base.specs.Members.{all_targets, has_target, is_other_member, other_members}
use Rattle.dtx_base.specs.Rows.{is_row_of, row_of}
use Rattle.world_legal.specs.world_contents.posts.Members.{bit-of}
use Rattle.world_legal.specs.world_commit.attempts.Attempts.{IsOther, first_entry, leader_of, members_of, writes_of}
use Rattle.world_base.specs.Events.{Rules, target_plan}
use Rattle.world_base.specs.Commits as commit
use Rattle.world_legal.specs.world_causes.causes.CommitTurns.{blocks-some, own-is}

-- ---- attempts that aren't decided

-- the row of an attempt is among the rows
pub found-row : (x : AttemptId) (us : List Undecided) (u : Undecided) → row_of undecided_attempt x us ≡ Some u → Has u us × (u.attempt ≡ x)
found-row x [] u f = let no : ⊥ = cc in absurd no
found-row x (v ∷ us) u f = by (found-row x us u) (is_row_of undecided_attempt x v) refl f
  where
    by : (row_of undecided_attempt x us ≡ Some u → Has u us × (u.attempt ≡ x)) → (b : Bool) → is_row_of undecided_attempt x v ≡ b → (if b then Some v else row_of undecided_attempt x us) ≡ Some u → Has u (v ∷ us) × (u.attempt ≡ x)
    by rest true is f = let same : v ≡ u = cc in (inl (sym same), ap (λ z. z.attempt) (sym same) ∙ same-attempt v.attempt x is)
    by rest false is f = let k = rest f in (inr k.0, k.1)

-- ---- writes

-- the writes that a member prepares are its own
same-writes : (r : Rules) (t : ℕ) (ws : List MinorWrite) → commit.own_writes (target_plan r t) ws ≡ members.writes_at r.script.targets t ws
unfolding members.is_written_at
same-writes r t [] = refl
same-writes r t (w ∷ ws) = ap (λ zs. if list_any (commit.is_number t) (path_members (write_path w.write) r.script.targets) then w ∷ zs else zs) (same-writes r t ws)

-- a member holds some of the writes
writes-touch : (r : Rules) (t : ℕ) (ws : List MinorWrite) → Has t (writes_members ws r.script.targets) → commit.own_writes (target_plan r t) ws ≢ []
unfolding writes_members
writes-touch r t [] i none = absurd i
writes-touch r t (w ∷ ws) i none = by (writes-touch r t ws) (list_any (commit.is_number t) (path_members (write_path w.write) r.script.targets)) refl none
  where
    by : (Has t (writes_members ws r.script.targets) → commit.own_writes (target_plan r t) ws ≢ []) → (b : Bool) → list_any (commit.is_number t) (path_members (write_path w.write) r.script.targets) ≡ b
        → (if b then w ∷ commit.own_writes (target_plan r t) ws else commit.own_writes (target_plan r t) ws) ≡ [] → ⊥
    by rest true is e = cc
    by rest false is e = elim (has-cases (path_members (write_path w.write) r.script.targets) (writes_members ws r.script.targets) t i) [
      | inl j ↦ let yes : list_any (commit.is_number t) (path_members (write_path w.write) r.script.targets) ≡ true = any-has (commit.is_number t) (path_members (write_path w.write) r.script.targets) t j (eq-eqb t t refl) in
          let no : ⊥ = cc in no
      | inr j ↦ rest j e
    ]

member-writes : (r : Rules) (x : AttemptId) (t : ℕ) → IsOther r x t → commit.own_writes (target_plan r t) (writes_of r x) ≢ []
unfolding other_members is_other_member
member-writes r x t other =
    let k = (has-from_filter (is_other_member (first_entry r x (record { 0 = 0 }))) all_targets t other).1 in
    writes-touch r t (writes_of r x) (bit-of (writes_members (writes_of r x) r.script.targets) t (and_left (has_target (members_of r x) t) (not (t == leader_of r x)) k))

-- what a member is to prepare takes the blocks that the attempt needs there
pub prepared-blocks : (r : Rules) (x : AttemptId) (t : ℕ) → IsOther r x t → blocks (members.writes_at r.script.targets t (writes_of r x)) ≡ blocks_at r.script t x
prepared-blocks r x t other =
    ap blocks (sym (same-writes r t (writes_of r x))) ∙ blocks-some (commit.own_writes (target_plan r t) (writes_of r x)) (member-writes r x t other) ∙ ap blocks_of_some (own-is r t (writes_of r x))

-- the leader of writes holds some of them, where the leader of each write is one of its members
pub leader-holds : (r : Rules) (ws : List MinorWrite) → ((m : MinorWrite) → Has m ws → Contains (path_members (write_path m.write) r.script.targets) (path_leader (write_path m.write) r.script.targets)) → ws ≢ []
    → commit.own_writes (target_plan r (writes_leader ws r.script.targets)) ws ≢ []
unfolding writes_leader writes_members
leader-holds r [] led some = absurd (some refl)
leader-holds r (m ∷ ms) led some =
    let leader : ℕ = path_leader (write_path m.write) r.script.targets in
    writes-touch r leader (m ∷ ms) (has-left (path_members (write_path m.write) r.script.targets) (writes_members ms r.script.targets) leader (has-from_contains (path_members (write_path m.write) r.script.targets) leader (led m (inl refl))))
