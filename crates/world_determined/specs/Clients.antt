-- A client's turn is determined by what it has to do, its state and what it hears.
use Rattle.std.specs.Prelude.{ℕ, ◌≡◌, ◌++◌, ◌<◌, ◌⊎◌, true, false, List, [], Option, refl}
use Rattle.std.proofs.Common.{zero, suc, inl, inr, sym, ◌∙◌, ap, subst, arith}
use Rattle.std.proofs.lemmas.Bool.{cases_order}
use Rattle.base_types.specs.declared.epoch.Epoch.{Epoch}
use Rattle.base_types.specs.declared.id.AttemptId.{AttemptId}
use Rattle.base_types.specs.declared.report.Line.{Line}
use Rattle.base_messages.specs.declared.message.Message.{Message}
use Rattle.base_messages.specs.declared.message.Post.{Post}
use Rattle.daos_model.specs.BoolLaws.{clash}
use Rattle.world_base.specs.declared.client.ClientPlan.{ClientPlan}
use Rattle.world_base.specs.declared.client.ClientState.{ClientState}
use Rattle.world_base.specs.declared.did.Did.{Did}
use Rattle.world_base.specs.ClientTurns.{ClientDid, Ended_by, GoesOn, HearTurn, Heard_on, Moves, NextTurn, None_yet, One_more, Skipped, Went_on, heard, listed, moved, with_first}

-- ---- the statements

-- what follows from a turn, and the state after it, are one
pub record OneTurn (did did' : Did) (d d' : ClientState) : Type 0 where
  pub did_same : did ≡ did'
  pub state_same : d ≡ d'

-- a turn without a message comes to one thing
abbrev pub NextIsOne : Type 0
NextIsOne = (p : ClientPlan) (c : ClientState) (did did' : Did) (d d' : ClientState) → NextTurn p c did d → NextTurn p c did' d' → OneTurn did did' d d'

-- so does a turn in which a message is heard
abbrev pub HearIsOne : Type 0
HearIsOne = (p : ClientPlan) (c : ClientState) (m : Message) (did did' : Did) (d d' : ClientState) → HearTurn p c m did d → HearTurn p c m did' d' → OneTurn did did' d d'

-- ---- so many moves

abbrev after_moves : ClientPlan → ClientState → ℕ → ClientState
after_moves p c zero = c
after_moves p c (suc n) = (moved p (after_moves p c n)).state

abbrev sent_by : ClientPlan → ClientState → ℕ → List Post
sent_by p c zero = []
sent_by p c (suc n) = sent_by p c n ++ listed (moved p (after_moves p c n)).post

abbrev told_by : ClientPlan → ClientState → ℕ → List Line
told_by p c zero = []
told_by p c (suc n) = told_by p c n ++ listed (moved p (after_moves p c n)).line

-- moves that don't end the turn are so many
record Counted (p : ClientPlan) (c : ClientState) (posts : List Post) (lines : List Line) (d : ClientState) : Type 0 where
  number : ℕ
  reached : d ≡ after_moves p c number
  sent : posts ≡ sent_by p c number
  told : lines ≡ told_by p c number
  going : (k : ℕ) → k < number → (moved p (after_moves p c k)).over ≡ false

going_on : (p : ClientPlan) (c : ClientState) (n k : ℕ) → k < suc n → ((j : ℕ) → j < n → (moved p (after_moves p c j)).over ≡ false)
    → (moved p (after_moves p c n)).over ≡ false → (k < n) ⊎ ((n ≡ k) ⊎ (n < k)) → (moved p (after_moves p c k)).over ≡ false
going_on p c n k within before here (inl earlier) = before k earlier
going_on p c n k within before here (inr (inl same)) = subst (λ j. (moved p (after_moves p c j)).over ≡ false) same here
going_on p c n k within before here (inr (inr later)) = let no : ⊥ = omega (arith, within, later) in absurd no

turned : (a b : ℕ) → (a ≡ b) ⊎ ((a < b) ⊎ (b < a)) → (b < a) ⊎ ((a ≡ b) ⊎ (a < b))
turned a b (inl same) = inr (inl same)
turned a b (inr (inl less)) = inr (inr less)
turned a b (inr (inr more)) = inl more

one_more :
    (p : ClientPlan) (c : ClientState) (posts : List Post) (lines : List Line) (d : ClientState)
    → Counted p c posts lines d → (moved p d).over ≡ false
    → Counted p c (posts ++ listed (moved p d).post) (lines ++ listed (moved p d).line) (moved p d).state
one_more p c posts lines d so going = record {
  number = suc so.number;
  reached = ap (λ s. (moved p s).state) so.reached;
  sent = ap (λ x. x ++ listed (moved p d).post) so.sent ∙ ap (λ s. sent_by p c so.number ++ listed (moved p s).post) so.reached;
  told = ap (λ x. x ++ listed (moved p d).line) so.told ∙ ap (λ s. told_by p c so.number ++ listed (moved p s).line) so.reached;
  going = λ k within. going_on p c so.number k within so.going (subst (λ s. (moved p s).over ≡ false) so.reached going) (turned so.number k (cases_order so.number k));
}

none_going : (p : ClientPlan) (c : ClientState) (k : ℕ) → k < zero → (moved p (after_moves p c k)).over ≡ false
none_going p c k within = let no : ⊥ = omega (arith, within) in absurd no

counted : (p : ClientPlan) (c : ClientState) (posts : List Post) (lines : List Line) (d : ClientState) → Moves p c posts lines d → Counted p c posts lines d
counted p c _ _ _ None_yet = record { number = zero; reached = refl; sent = refl; told = refl; going = none_going p c }
counted p c _ _ _ (One_more posts lines d moves going) = one_more p c posts lines d (counted p c posts lines d moves) going

-- ---- a turn that goes on

-- both come to the first move that ends the turn
same_number :
    (p : ClientPlan) (c : ClientState) (n m : ℕ)
    → ((k : ℕ) → k < n → (moved p (after_moves p c k)).over ≡ false) → (moved p (after_moves p c n)).over ≡ true
    → ((k : ℕ) → k < m → (moved p (after_moves p c k)).over ≡ false) → (moved p (after_moves p c m)).over ≡ true
    → (n ≡ m) ⊎ ((n < m) ⊎ (m < n)) → n ≡ m
same_number p c n m before_n over_n before_m over_m (inl same) = same
same_number p c n m before_n over_n before_m over_m (inr (inl less)) = clash (moved p (after_moves p c n)).over over_n (before_m n less)
same_number p c n m before_n over_n before_m over_m (inr (inr more)) = clash (moved p (after_moves p c m)).over over_m (before_n m more)

-- what a turn comes to, by the number of its moves that don't end it
record EndsAt (p : ClientPlan) (c : ClientState) (n : ℕ) (posts : List Post) (lines : List Line) (d : ClientState) : Type 0 where
  posts_are : posts ≡ sent_by p c n ++ listed (moved p (after_moves p c n)).post
  lines_are : lines ≡ told_by p c n ++ listed (moved p (after_moves p c n)).line
  state_is : d ≡ (moved p (after_moves p c n)).state

ends_at : (p : ClientPlan) (c : ClientState) (posts : List Post) (lines : List Line) (d : ClientState) (g : GoesOn p c posts lines d)
    (so : Counted p c g.sent g.told g.last) → EndsAt p c so.number posts lines d
ends_at p c posts lines d g so = record {
  posts_are = g.all_sent ∙ ap (λ x. x ++ listed (moved p g.last).post) so.sent ∙ ap (λ s. sent_by p c so.number ++ listed (moved p s).post) so.reached;
  lines_are = g.all_told ∙ ap (λ x. x ++ listed (moved p g.last).line) so.told ∙ ap (λ s. told_by p c so.number ++ listed (moved p s).line) so.reached;
  state_is = g.reached ∙ ap (λ s. (moved p s).state) so.reached;
}

-- two things that a turn may come to are one
record OneEnd (posts posts' : List Post) (lines lines' : List Line) (d d' : ClientState) : Type 0 where
  posts_same : posts ≡ posts'
  lines_same : lines ≡ lines'
  state_same : d ≡ d'

one_end : (p : ClientPlan) (c : ClientState) (n m : ℕ) (posts posts' : List Post) (lines lines' : List Line) (d d' : ClientState)
    → n ≡ m → EndsAt p c n posts lines d → EndsAt p c m posts' lines' d' → OneEnd posts posts' lines lines' d d'
one_end p c n m posts posts' lines lines' d d' same one two = record {
  posts_same = one.posts_are ∙ ap (λ k. sent_by p c k ++ listed (moved p (after_moves p c k)).post) same ∙ sym two.posts_are;
  lines_same = one.lines_are ∙ ap (λ k. told_by p c k ++ listed (moved p (after_moves p c k)).line) same ∙ sym two.lines_are;
  state_same = one.state_is ∙ ap (λ k. (moved p (after_moves p c k)).state) same ∙ sym two.state_is;
}

goes_one_way :
    (p : ClientPlan) (c : ClientState) (posts posts' : List Post) (lines lines' : List Line) (d d' : ClientState)
    (g : GoesOn p c posts lines d) (h : GoesOn p c posts' lines' d') → Counted p c g.sent g.told g.last → Counted p c h.sent h.told h.last
    → OneEnd posts posts' lines lines' d d'
goes_one_way p c posts posts' lines lines' d d' g h one two =
    one_end p c one.number two.number posts posts' lines lines' d d'
    (same_number p c one.number two.number one.going (subst (λ s. (moved p s).over ≡ true) one.reached g.over) two.going
    (subst (λ s. (moved p s).over ≡ true) two.reached h.over) (cases_order one.number two.number))
    (ends_at p c posts lines d g one) (ends_at p c posts' lines' d' h two)

abbrev did_of : List Post → List Line → Option (AttemptId × Epoch) → Did
did_of posts lines issued = record { posts = posts; lines = lines; issued = issued }

one_did : (p : ClientPlan) (c : ClientState) (did did' : Did) (d d' : ClientState) → ClientDid p c did d → ClientDid p c did' d' → OneTurn did did' d d'
one_did p c did did' d d' g h =
    let one : OneEnd did.posts did'.posts did.lines did'.lines d d' =
    goes_one_way p c did.posts did'.posts did.lines did'.lines d d' g.goes_on h.goes_on
    (counted p c g.goes_on.sent g.goes_on.told g.goes_on.last g.goes_on.moves) (counted p c h.goes_on.sent h.goes_on.told h.goes_on.last h.goes_on.moves) in
    record {
      did_same =
          ap (λ x. did_of x did.lines did.issued) one.posts_same ∙ ap (λ x. did_of did'.posts x did.issued) one.lines_same
          ∙ ap (did_of did'.posts did'.lines) (g.issued ∙ sym h.issued);
      state_same = one.state_same;
    }

-- ---- whole turns

pub one_next : NextIsOne
one_next p c did did' d d' (Skipped skips is at) (Skipped skips' is' at') = record { did_same = is ∙ sym is'; state_same = at ∙ sym at' }
one_next p c did did' d d' (Skipped skips is at) (Went_on awake g) = clash _ skips awake
one_next p c did did' d d' (Went_on awake g) (Skipped skips is at) = clash _ skips awake
one_next p c did did' d d' (Went_on awake g) (Went_on awake' h) = one_did p c did did' d d' g h

pub one_hear : HearIsOne
one_hear p c m did did' d d' (Ended_by over is at) (Ended_by over' is' at') = record { did_same = is ∙ sym is'; state_same = at ∙ sym at' }
one_hear p c m did did' d d' (Ended_by over is at) (Heard_on rest on g all) = clash _ over on
one_hear p c m did did' d d' (Heard_on rest on g all) (Ended_by over is at) = clash _ over on
one_hear p c m did did' d d' (Heard_on rest on g all) (Heard_on rest' on' h all') =
    let one : OneTurn rest rest' d d' = one_did p (heard p c m).state rest rest' d d' g h in
    record { did_same = all ∙ ap (with_first (heard p c m)) one.did_same ∙ sym all'; state_same = one.state_same }
