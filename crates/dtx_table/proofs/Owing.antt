-- What a leader does by some entries alone: the owing ones, or those of one attempt.
use Rattle.std.proofs.Common.{◌≡◌, ℕ, Bool, true, false, ◌&&◌, not, List, ◌++◌, Option, Some, None, filter, find, refl, sym, ◌∙◌, ap, subst, arith}
use Rattle.std.specs.Prelude.{◌==◌, ◌^◌, bit_or, if◌then◌else◌, nat_lt}
use Rattle.std.specs.List.{list_any}
use Rattle.std.proofs.lemmas.Bool.Decides.{nat_tests}
use Rattle.base_types.specs.declared.entry.Entry.{Entry}
use Rattle.base_types.specs.declared.id.AttemptId.{AttemptId}
use Rattle.base_types.specs.declared.outcome.Outcome.{Outcome}
use Rattle.daos_model.specs.BoolLaws.{and_left, and_right, both, clash, false_of, not_true}
use Rattle.daos_model.specs.Durables.{is_entry_of}
use Rattle.dtx_base.specs.declared.leading.LeaderMemory.{LeaderMemory}
use Rattle.dtx_base.specs.declared.leading.Undecided.{Undecided}
use Rattle.dtx_base.specs.Leading.{ack_heard, answer_heard, answer_if_awaited, batched, is_batch_due, is_led, marks_for, names_for, query_answer, quietly, undecided_of, verdict_on}
use Rattle.dtx_base.specs.Members.{all_targets, are_all_counted, is_other_member, with_target}
use Rattle.dtx_base.specs.Rows.{is_among}
use Rattle.dtx_entries.specs.Owing.{is_confirmed, is_owing}
use Rattle.dtx_entries.specs.Places.{IsAlike}
use Rattle.dtx_entries.proofs.Followed.{among-passing}
use Rattle.dtx_table.specs.declared.seat.Seat.{Seat}
use Rattle.dtx_table.specs.Due.{bit_of, is_owed_somewhere, may_owe}
use Rattle.dtx_table.specs.Seats.{came, leader_of}
use Rattle.dtx_table.proofs.Dues.{due-somewhere, marks_same, names_same, somewhere-same}

-- ---- the owing ones

-- what a leader may have to tell others is owing
may_owe-owing : (me : ℕ) (e : Entry) → may_owe me e ≡ true → is_owing (Some me) e ≡ true
unfolding may_owe is_owing is_confirmed
may_owe-owing me e may =
    both (is_led me e) (e.committed && not (nat_lt e.leader 64 && (e.members == bit_or e.confirmed (2 ^ e.leader)))) led
    (both e.committed (not (nat_lt e.leader 64 && (e.members == bit_or e.confirmed (2 ^ e.leader))))
    (and_right (not (e.members == bit_or e.confirmed (bit_of me)) && is_led me e) e.committed may)
    (ap not (false_of (nat_lt e.leader 64 && (e.members == bit_or e.confirmed (2 ^ e.leader))) sure)))
  where
    led : is_led me e ≡ true
    led = and_right (not (e.members == bit_or e.confirmed (bit_of me))) (is_led me e) (and_left (not (e.members == bit_or e.confirmed (bit_of me)) && is_led me e) e.committed may)

    leads : e.leader ≡ me
    leads = let is : is_led me e ≡ true = led in grind (arith, nat_tests)

    apart : (e.members == bit_or e.confirmed (bit_of me)) ≡ false
    apart = not_true (e.members == bit_or e.confirmed (bit_of me)) (and_left (not (e.members == bit_or e.confirmed (bit_of me))) (is_led me e) (and_left (not (e.members == bit_or e.confirmed (bit_of me)) && is_led me e) e.committed may))

    sure : (nat_lt e.leader 64 && (e.members == bit_or e.confirmed (2 ^ e.leader))) ≡ true → ⊥
    sure all =
        let own : (nat_lt me 64 && (e.members == bit_or e.confirmed (2 ^ me))) ≡ true = subst (λ t. (nat_lt t 64 && (e.members == bit_or e.confirmed (2 ^ t))) ≡ true) leads all in
        clash (e.members == bit_or e.confirmed (bit_of me))
        (ap (λ (b : Bool). e.members == bit_or e.confirmed (if b then 2 ^ me else 0)) (and_left (nat_lt me 64) (e.members == bit_or e.confirmed (2 ^ me)) own)
        ∙ and_right (nat_lt me 64) (e.members == bit_or e.confirmed (2 ^ me)) own)
        apart

owing-may_owe : (me : ℕ) (es : List Entry) → filter (may_owe me) (filter (is_owing (Some me)) es) ≡ filter (may_owe me) es
owing-may_owe me es = among-passing (may_owe me) (is_owing (Some me)) (may_owe-owing me) es

module _ (s : Seat) (some es : List Entry) (m : LeaderMemory) (same : filter (is_owing (Some s.me)) some ≡ filter (is_owing (Some s.me)) es) where
  may_owe-same : filter (may_owe s.me) some ≡ filter (may_owe s.me) es
  may_owe-same = sym (owing-may_owe s.me some) ∙ ap (filter (may_owe s.me)) same ∙ owing-may_owe s.me es

  marks-owing : (ts : List ℕ) → marks_for s.incarnation m.down m.named (filter (is_led s.me) some) ts ≡ marks_for s.incarnation m.down m.named (filter (is_led s.me) es) ts
  marks-owing ts =
      sym (marks_same s.me s.incarnation m.down m.named some ts)
      ∙ ap (λ x. marks_for s.incarnation m.down m.named x ts) may_owe-same
      ∙ marks_same s.me s.incarnation m.down m.named es ts

  names-owing : (ts : List ℕ) → names_for s.incarnation m.down m.named (filter (is_led s.me) some) ts ≡ names_for s.incarnation m.down m.named (filter (is_led s.me) es) ts
  names-owing ts =
      sym (names_same s.me s.incarnation m.down m.named some ts)
      ∙ ap (λ x. names_for s.incarnation m.down m.named x ts) may_owe-same
      ∙ names_same s.me s.incarnation m.down m.named es ts

  -- a batch is of the owing ones
  pub batched-owing : came (batched (leader_of s some m)) ≡ came (batched (leader_of s es m))
  unfolding batched
  batched-owing =
      ap (λ ns. (record m { named = m.named ++ ns }, marks_for s.incarnation m.down m.named (filter (is_led s.me) some) all_targets)) (names-owing all_targets)
      ∙ ap (λ ps. (record m { named = m.named ++ names_for s.incarnation m.down m.named (filter (is_led s.me) es) all_targets }, ps)) (marks-owing all_targets)

  -- and is due where one of them is
  pub due-owing : is_batch_due (leader_of s some m) ≡ is_batch_due (leader_of s es m)
  unfolding is_batch_due
  due-owing =
      sym (due-somewhere m.down m.named (filter (is_led s.me) some))
      ∙ sym (somewhere-same s.me m.down m.named some)
      ∙ ap (list_any (is_owed_somewhere m.down m.named)) may_owe-same
      ∙ somewhere-same s.me m.down m.named es
      ∙ due-somewhere m.down m.named (filter (is_led s.me) es)

-- ---- those of one attempt

module _ (a : AttemptId) (s : Seat) (some es : List Entry) (m : LeaderMemory) (alike : IsAlike a some es) where
  -- an Ack is heard alike
  pub ack-alike : (t inc : ℕ) (refusal : Option Outcome) → came (ack_heard t a inc refusal (leader_of s some m)) ≡ came (ack_heard t a inc refusal (leader_of s es m))
  unfolding ack_heard
  ack-alike t inc refusal = by (inc == s.incarnation)
    where
      counted : (e : Entry) (u : Undecided) (r : Option Outcome) (c : Bool) → are_all_counted e (with_target u.counted t) ≡ c → came (answer_heard t a r e u (leader_of s some m)) ≡ came (answer_heard t a r e u (leader_of s es m))
      counted e u None true is = rw is refl
      counted e u None false is = rw is refl
      counted e u (Some how) c is = refl

      awaited : (e : Entry) (u : Undecided) (b : Bool) → came (if b then answer_heard t a refusal e u (leader_of s some m) else quietly (leader_of s some m)) ≡ came (if b then answer_heard t a refusal e u (leader_of s es m) else quietly (leader_of s es m))
      awaited e u true = counted e u refusal (are_all_counted e (with_target u.counted t)) refl
      awaited e u false = refl

      heard : (o : Option Entry) (u : Option Undecided) → came (answer_if_awaited t a refusal o u (leader_of s some m)) ≡ came (answer_if_awaited t a refusal o u (leader_of s es m))
      heard None u = refl
      heard (Some e) None = refl
      heard (Some e) (Some u) = awaited e u (is_other_member e t)

      by : (b : Bool) → came (if b then answer_if_awaited t a refusal (find (is_entry_of a) (filter (is_led s.me) some)) (undecided_of a (leader_of s some m)) (leader_of s some m) else quietly (leader_of s some m))
          ≡ came (if b then answer_if_awaited t a refusal (find (is_entry_of a) (filter (is_led s.me) es)) (undecided_of a (leader_of s es m)) (leader_of s es m) else quietly (leader_of s es m))
      by true =
          ap (λ o. came (answer_if_awaited t a refusal o (undecided_of a (leader_of s some m)) (leader_of s some m))) (alike (is_led s.me))
          ∙ heard (find (is_entry_of a) (filter (is_led s.me) es)) (undecided_of a (leader_of s es m))
      by false = refl

  -- a Query is answered alike
  pub query-alike : query_answer a (leader_of s some m) ≡ query_answer a (leader_of s es m)
  unfolding query_answer
  query-alike = ap (λ o. verdict_on o (is_among a m.decided)) (alike (is_led s.me))
