-- Every step of a client keeps the facts of outcomes.
use Rattle.std.specs.Prelude.{ℕ, ◌≡◌, ◌<◌, ◌⊎◌, Bool, true, false, List, slice_get, Option, Some, None, refl}
use Rattle.std.proofs.Common.{sym, ◌∙◌, ap, subst, inl, inr, arith}
use Rattle.std.proofs.Math.ListN.{set}
use Rattle.base_types.specs.declared.entry.Entry.{Entry}
use Rattle.base_types.specs.declared.epoch.Epoch.{Epoch}
use Rattle.base_types.specs.declared.id.AttemptId.{AttemptId}
use Rattle.base_types.specs.declared.outcome.Outcome.{Outcome}
use Rattle.base_types.specs.declared.outcome.Outcome.TheVariants as outcome
use Rattle.base_types.specs.declared.report.Attempt.{Attempt}
use Rattle.base_types.specs.declared.report.Line.{Line}
use Rattle.model_laws.specs.Members.{Has, has-cases, has-from_map}
use Rattle.base_messages.specs.declared.message.Post.{Post}
use Rattle.daos_model.specs.Attempts.{tries}
use Rattle.dtx_base.specs.LeaderLaws.{same-is}
use Rattle.world_contents.specs.world_commit.attempts.Attempts.{IsBorn, entry_at, leader_of}
use Rattle.world_contents.specs.world_commit.attempts.History.{History}
use Rattle.world_contents.specs.world_commit.attempts.Turning.{one-or_another}
use Rattle.world_base.specs.declared.client.ClientPlan.{ClientPlan}
use Rattle.world_base.specs.declared.client.ClientState.{ClientState}
use Rattle.world_base.specs.declared.client.Present.{Present}
use Rattle.world_base.specs.declared.letter.Letter.{Letter}
use Rattle.world_base.specs.declared.world.World.{World}
use Rattle.world_base.specs.ClientTurns.{attempt_id, begun, is_waiting, listed, moved, waits}
use Rattle.world_base.specs.Events.{Rules, client_plan, with_client}
use Rattle.world_base.specs.Letters.{client, letter_of, letters_of}
use Rattle.world_base.specs.StepLaws.{set-here, set-there}
use Rattle.world_base.specs.Steps.{KeptByCounting, after_client, after_move, without}
use Rattle.world_contents.specs.world_letters.epochs.Epochs.{IsPast}
use Rattle.world_contents.specs.world_letters.lines.Lines.{Lines, filled}
use Rattle.world_contents.specs.world_letters.talks.AskLaws.{move-is, waiting-rests}
use Rattle.world_contents.specs.world_letters.talks.Asked.{ARead, ASnapshot, AnAggregation, Asked, Asking, IsMove, ItsWrites, Silent, Telling}
use Rattle.world_causes.specs.outcomes.TellLaws.{AllRead, MoveTells, NoSnap, Nothing, moved-tells}
use Rattle.world_causes.specs.outcomes.TurnLaws.{move-ends-nothing, move-tells-decided, none-told, ends-one, EndNothing, tried-cases}
use Rattle.world_causes.specs.outcomes.Moving.{moved-how}
use Rattle.world_causes.specs.outcomes.Outcomes.{IsEndTrue, IsHandedOver, Outcomes, WaitsForEnd, commits, is_failed, HasWrites}

-- ---- what a client does

-- what a step of a client adds and leaves
pub record Does (r : Rules) (h : History) (w : World) (n : ℕ) (c : ClientState) (posts : List Post) (more : List Line) (d : ClientState) : Type 0 where
  -- it tells of no end
  pub none : EndNothing posts
  -- what it hands over is new
  pub new : (q : Post) (x : AttemptId) → Has q posts → commits x q.message ≡ true → IsBorn r h w x → ⊥
  -- the lines that it adds are true
  pub lines : (b : Attempt) → Has b (tries more) → HasWrites r b.id → IsEndTrue r h w b.id (filled w.issued b).epoch b.outcome
  -- what it handed over it still waits for, or is past
  pub how : (x : AttemptId) → x.client ≡ n → IsBorn r h w x → IsPast c x ⊎ WaitsForEnd (client_plan r n) c x → IsPast d x ⊎ WaitsForEnd (client_plan r n) d x

module _ (r : Rules) (h : History) (w : World) (n : ℕ) (c d : ClientState) (rest : List Letter) (posts : List Post) (more : List Line) (here : slice_get w.clients n ≡ Some c) (among : (l : Letter) → Has l rest → Has l w.messages)
    (g : Does r h w n c posts more d) (k : Outcomes r h w) where
  abbrev v : World
  v = after_client (without w rest) n posts more d

  born-was : (x : AttemptId) → IsBorn r h v x → IsBorn r h w x
  born-was x (inl held) = inl (record { entry = held.entry; found = held.found })
  born-was x (inr a) = inr a

  end-on : (x : AttemptId) (own : Option Epoch) (how : Outcome) → IsEndTrue r h w x own how → IsEndTrue r h v x own how
  end-on x own how t = record { committed = t.committed; failed = t.failed }

  from-where : (l : Letter) → Has l v.messages → Has l w.messages ⊎ ((q : Post) × Has q posts × (letter_of (client n) q ≡ l))
  from-where l i = elim (has-cases rest (letters_of (client n) posts) l i) [
    | inl j ↦ inl (among l j)
    | inr j ↦ inr (has-from_map (letter_of (client n)) posts l j)
  ]

  handed-on : (x : AttemptId) → IsHandedOver r w.clients x → IsBorn r h w x → IsHandedOver r v.clients x
  handed-on x z born = elim (one-or_another x.client n) [
    | inl same ↦
        let one : z.c ≡ c = let e : Some z.c ≡ Some c = sym z.here ∙ subst (λ m. slice_get w.clients m ≡ Some c) (sym same) here in cc in
        record {
          c = d;
          here = subst (λ m. slice_get (set w.clients n d) m ≡ Some d) (sym same) (set-here w.clients n c d here);
          how = subst (λ m. IsPast d x ⊎ WaitsForEnd (client_plan r m) d x) (sym same) (g.how x same born (subst (λ y. IsPast y x ⊎ WaitsForEnd (client_plan r n) y x) one (subst (λ m. IsPast z.c x ⊎ WaitsForEnd (client_plan r m) z.c x) same z.how)));
        }
    | inr off ↦ record { c = z.c; here = set-there w.clients n x.client d off ∙ z.here; how = z.how }
  ]

  pub client-keeps : Outcomes r h v
  client-keeps = record {
    told = λ l x own how i says some. elim (from-where l i) [
      | inl j ↦ end-on x own how (k.told l x own how j says some)
      | inr q ↦ absurd (g.none q.0 x own how q.1 (ap (λ m. m.message) q.2 ∙ says))
    ];
    lines = λ a i some. elim (tried-cases w.issued w.lines more a i) [
      | inl j ↦ end-on a.id a.epoch a.outcome (k.lines a j some)
      | inr b ↦ end-on a.id a.epoch a.outcome (subst (λ z. IsEndTrue r h w z.id z.epoch z.outcome) b.2 (g.lines b.0 b.1 (subst (HasWrites r) (sym (ap (λ z. z.id) b.2)) some)))
    ];
    new = λ l x i is born. elim (from-where l i) [
      | inl j ↦ k.new l x j is (born-was x born)
      | inr q ↦ g.new q.0 x q.1 (ap (λ m. commits x m.message) q.2 ∙ is) (born-was x born)
    ];
    handed = λ x born. handed-on x (k.handed x (born-was x born)) (born-was x born);
  }

-- ---- what wasn't handed over

-- of a present attempt that its client didn't hand over nothing became
pub unborn : (r : Rules) (h : History) (w : World) (n : ℕ) (c : ClientState) (x : AttemptId) → Outcomes r h w → slice_get w.clients n ≡ Some c → x.client ≡ n → (IsPast c x → ⊥) → (WaitsForEnd (client_plan r n) c x → ⊥) → IsBorn r h w x → ⊥
unborn r h w n c x k here same not-past not-waits born = by (subst (λ y. IsPast y x ⊎ WaitsForEnd (client_plan r n) y x) one (subst (λ m. IsPast z.c x ⊎ WaitsForEnd (client_plan r m) z.c x) same z.how))
  where
    z : IsHandedOver r w.clients x
    z = k.handed x born

    one : z.c ≡ c
    one = let e : Some z.c ≡ Some c = sym z.here ∙ subst (λ m. slice_get w.clients m ≡ Some c) (sym same) here in cc

    by : IsPast c x ⊎ WaitsForEnd (client_plan r n) c x → ⊥
    by (inl past) = not-past past
    by (inr waits') = not-waits waits'

-- so its leader has no entry of it
pub no-entry : (r : Rules) (h : History) (w : World) (x : AttemptId) → (IsBorn r h w x → ⊥) → entry_at w (leader_of r x) x ≡ None
no-entry r h w x off = by (entry_at w (leader_of r x) x) refl
  where
    by : (o : Option Entry) → entry_at w (leader_of r x) x ≡ o → o ≡ None
    by None at = refl
    by (Some e) at = absurd (off (inl (record { entry = e; found = at })))

pub present-not-past : (p : ClientPlan) (c : ClientState) (a : Present) → c.present ≡ Some a → IsPast c (attempt_id p c a) → ⊥
present-not-past p c a here (inl less) = omega (arith, less)
present-not-past p c a here (inr past) =
    let one : a ≡ past.0 = let e : Some a ≡ Some past.0 = sym here ∙ past.1 in cc in
    let less : a.attempt < past.0.attempt = past.3 in
    let same : a.attempt ≡ past.0.attempt = ap (λ z. z.attempt) one in
    omega (arith, less, same)

-- ---- moves

commit-sends : (p : ClientPlan) (c : ClientState) (q : Post) (x : AttemptId) → Has q (listed (moved p c).post) → commits x q.message ≡ true → (a : Present) × (c.present ≡ Some a) × (attempt_id p c a ≡ x) × (a.waits ≡ false)
commit-sends p c q x i is = by (waits c) refl
  where
    asked : (a : Present) (s : Post) → Asked p c.tracker c a s → commits x s.message ≡ true → attempt_id p c a ≡ x
    asked a s (ItsWrites ops turns snapshot w ws at last all says) own = same-is (attempt_id p c a) x (subst (λ y. commits x y.message ≡ true) says own)
    asked a s (ARead ops turns snapshot op read at here asks says) own = let bad : false ≡ true = subst (λ y. commits x y.message ≡ true) says own in let no : ⊥ = cc in absurd no
    asked a s (ASnapshot name cont at says) own = let bad : false ≡ true = subst (λ y. commits x y.message ≡ true) says own in let no : ⊥ = cc in absurd no
    asked a s (AnAggregation cont at says) own = let bad : false ≡ true = subst (λ y. commits x y.message ≡ true) says own in let no : ⊥ = cc in absurd no

    posted : (o : Option Post) → Has q (listed o) → (s : Post) → o ≡ Some s → q ≡ s
    posted None j s same = absurd j
    posted (Some t) (inl one) s same = let two : t ≡ s = cc in one ∙ two
    posted (Some t) (inr none) s same = absurd none

    is-a : waits c ≡ false → IsMove p c (moved p c) → (a : Present) × (c.present ≡ Some a) × (attempt_id p c a ≡ x) × (a.waits ≡ false)
    is-a free (Silent off none) = absurd (subst (λ o. Has q (listed o)) none i)
    is-a free (Telling m none off says) = let one = posted (moved p c).post i _ says in let bad : false ≡ true = sym (ap (λ y. commits x y.message) one) ∙ is in let no : ⊥ = cc in absurd no
    is-a free (Asking a s at own says state) = let one = posted (moved p c).post i s says in (a, at, asked a s own (subst (λ y. commits x y.message ≡ true) one is), sym (ap is_waiting at) ∙ free)

    by : (b : Bool) → waits c ≡ b → (a : Present) × (c.present ≡ Some a) × (attempt_id p c a ≡ x) × (a.waits ≡ false)
    by true rests' = absurd (subst (λ m. Has q (listed m.post)) (waiting-rests p c rests') i)
    by false free = is-a free (move-is p c free)

module _ (r : Rules) (h : History) (w : World) (n : ℕ) (c : ClientState) (lines : Lines r w) (here : slice_get w.clients n ≡ Some c) (k : Outcomes r h w) where
  abbrev p : ClientPlan
  p = client_plan r n

  move-lines : (b : Attempt) → Has b (tries (listed (moved p c).line)) → HasWrites r b.id → is_failed b.outcome ≡ true → entry_at w (leader_of r b.id) b.id ≡ None
  move-lines b i some failed = by (moved-tells p c)
    where
      by : MoveTells p c (moved p c) → entry_at w (leader_of r b.id) b.id ≡ None
      by (Nothing none) = absurd (none-told (moved p c) b none i)
      by (AllRead d a at present none says) =
          let one = ends-one p c a outcome.Committed (moved p c) b says i in
          let bad : false ≡ true = sym (ap (λ y. is_failed y.outcome) one) ∙ failed in
          let no : ⊥ = cc in absurd no
      by (NoSnap none says) =
          let one = ends-one p c (begun 0 None None) outcome.NoSnapshot (moved p c) b says i in
          let id : b.id ≡ attempt_id p c (begun 0 None None) = ap (λ y. y.id) one in
          no-entry r h w b.id (unborn r h w n c b.id k here (ap (λ y. y.client) id)
          (λ past. elim past [
            | inl less ↦ let same : b.id.command ≡ c.command = ap (λ y. y.command) id in omega (arith, less, same)
            | inr some' ↦ let at = some'.1 in let no : ⊥ = cc (none, at) in no
          ])
          (λ z. let at = z.present in let no : ⊥ = cc (none, at) in no))

  move-does : Does r h w n c (listed (moved p c).post) (listed (moved p c).line) (moved p c).state
  move-does = record {
    none = move-ends-nothing p c;
    new = λ q x i is born.
        let z = commit-sends p c q x i is in
        unborn r h w n c x k here (sym (ap (λ y. y.client) z.2)) (λ past. present-not-past p c z.0 z.1 (subst (IsPast c) (sym z.2) past))
        (λ y. let one : y.a ≡ z.0 = let e : Some y.a ≡ Some z.0 = sym y.present ∙ z.1 in cc in let bad : true ≡ false = sym y.waits ∙ ap (λ b. b.waits) one ∙ z.3 in let no : ⊥ = cc in no) born;
    lines = λ b i some. record {
      committed = λ is. move-tells-decided r h w n c lines here b i is some;
      failed = move-lines b i some;
    };
    how = λ x same born z. moved-how p c x z;
  }

  pub moving-keeps : Outcomes r h (after_move w n (moved p c))
  moving-keeps = client-keeps r h w n c (moved p c).state w.messages (listed (moved p c).post) (listed (moved p c).line) here (λ l i. i) move-does k

-- ---- one turn fewer to wait

pub counting-keeps : (r : Rules) (h : History) → KeptByCounting (Outcomes r h)
counting-keeps r h w n j c here k = record {
  told = λ l x own how i says some. let t = k.told l x own how i says some in record { committed = t.committed; failed = t.failed };
  lines = λ a i some. let t = k.lines a i some in record { committed = t.committed; failed = t.failed };
  new = λ l x i is born. k.new l x i is (back x born);
  handed = λ x born. on x (k.handed x (back x born));
}
  where
    back : (x : AttemptId) → IsBorn r h (with_client n (record c { skip = j }) w) x → IsBorn r h w x
    back x (inl held) = inl (record { entry = held.entry; found = held.found })
    back x (inr a) = inr a

    how-on : (x : AttemptId) → IsPast c x ⊎ WaitsForEnd (client_plan r x.client) c x → IsPast (record c { skip = j }) x ⊎ WaitsForEnd (client_plan r x.client) (record c { skip = j }) x
    how-on x (inl past) = inl past
    how-on x (inr z) = inr (record { a = z.a; present = z.present; own = z.own; waits = z.waits; behind = z.behind })

    on : (x : AttemptId) → IsHandedOver r w.clients x → IsHandedOver r (set w.clients n (record c { skip = j })) x
    on x z = elim (one-or_another x.client n) [
      | inl same ↦
          let one : z.c ≡ c = let e : Some z.c ≡ Some c = sym z.here ∙ subst (λ m. slice_get w.clients m ≡ Some c) (sym same) here in cc in
          record {
            c = record c { skip = j };
            here = subst (λ m. slice_get (set w.clients n (record c { skip = j })) m ≡ Some (record c { skip = j })) (sym same) (set-here w.clients n c (record c { skip = j }) here);
            how = how-on x (subst (λ y. IsPast y x ⊎ WaitsForEnd (client_plan r x.client) y x) one z.how);
          }
      | inr off ↦ record { c = z.c; here = set-there w.clients n x.client (record c { skip = j }) off ∙ z.here; how = z.how }
    ]
