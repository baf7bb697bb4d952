-- What clients do keeps the order of real time: a line is of the command that its client is at.
use Rattle.std.specs.Prelude.{ℕ, ◌≡◌, ◌⊎◌, ◌≤◌, ◌<◌, ◌++◌, List, [], ◌∷◌, map, Contains, slice_get, Option, Some, None, refl}
use Rattle.std.proofs.Common.{sym, ◌∙◌, ap, subst, inl, inr, append-nil, arith}
use Rattle.base_types.specs.declared.epoch.Epoch.{Epoch}
use Rattle.base_types.specs.declared.id.AttemptId.{AttemptId}
use Rattle.base_types.specs.declared.report.Attempt.{Attempt}
use Rattle.base_types.specs.declared.report.Line.{Line}
use Rattle.base_types.specs.declared.report.Line.TheVariants as line
use Rattle.daos_model.specs.Attempts.{tries}
use Rattle.daos_model.specs.Laws.{tries-append}
use Rattle.model_laws.specs.Members.{Has, contains-from_has}
use Rattle.world_legal.specs.world_commit.attempts.History.{Served}
use Rattle.world_base.specs.declared.client.ClientState.{ClientState}
use Rattle.world_base.specs.declared.target.TargetState.{TargetState}
use Rattle.world_base.specs.declared.world.World.{World}
use Rattle.world_base.specs.ClientTurns.{heard, listed, moved}
use Rattle.world_base.specs.Events.{ClientGoes, ClientHears, Rules, client_plan, with_client, with_epoch}
use Rattle.world_base.specs.StepLaws.{by-hearing, by-next}
use Rattle.world_base.specs.Steps.{KeptByCounting, KeptByHearing, KeptByMoves, after_move, without}
use Rattle.world_letters.specs.lines.Lines.{filled}
use Rattle.world_letters.specs.epochs.Epochs.{ClientsStand, Epochs, HasLine, IsPast, IsPresent}
use Rattle.world_legal.specs.world_standing.external.Behind.{WasAnswered}
use Rattle.world_legal.specs.world_standing.external.Kept.{AreInOrder, IsServedBehind, IsStoredBehind, answered-back, order-on, served-on, stored-on}
use Rattle.world_legal.specs.world_standing.external.Lines.{LineIsOf, heard-its, moved-its}
use Rattle.world_upheld.specs.order.Passing.{OrderStands}
use Rattle.world_letters.specs.waits.Waits.{Conversation}

-- what goes about for clients, that they stand at their commands, and epochs
abbrev pub ClientsTalk : Rules → ℕ → World → Type 0
ClientsTalk r top w = Conversation r w × ClientsStand r w × Epochs r top w

-- Where what clients do keeps this, it keeps the order of real time.
abbrev pub ClientsKeepOrder : Type 0
ClientsKeepOrder =
    (r : Rules) (top : ℕ) (passed : List Served) → KeptByMoves r (ClientsTalk r top) → KeptByCounting (ClientsTalk r top) → KeptByHearing r (ClientsTalk r top) → (w v : World)
    → ClientsTalk r top w
    → ClientGoes r w v ⊎ ClientHears r w v → OrderStands r passed w
    → OrderStands r passed v

one-try : (a : Attempt) → tries (line.Try a ∷ []) ≡ a ∷ []
unfolding tries
one-try a = refl

module _ (r : Rules) (top : ℕ) (passed : List Served) (w : World) (n : ℕ) (c : ClientState) (here : slice_get w.clients n ≡ Some c) (E : Epochs r top w)
    (K : OrderStands r passed w) where
  -- ---- where the client is

  same-client : (m : ℕ) (d : ClientState) → m ≡ n → slice_get w.clients m ≡ Some d → d ≡ c
  same-client m d is at = let e : Some d ≡ Some c = sym at ∙ ap (slice_get w.clients) is ∙ here in cc

  -- an attempt of the client that has an epoch is of no later command than the one that the client is at
  begun : (y : AttemptId) (f : Epoch) → y.client ≡ n → Contains w.issued (y, f) → y.command ≤ c.command
  begun y f own i = by (E.line y f i)
    where
      by : IsPresent r w y ⊎ HasLine w y f → y.command ≤ c.command
      by (inl p) =
          let same : p.c ≡ c = same-client y.client p.c own p.here in
          let at : p.c.command ≡ y.command = ap (λ z. z.command) p.own in
          let is : p.c.command ≡ c.command = ap (λ z. z.command) same in
          omega (arith, at, is)
      by (inr l) = told (E.past l.0 c l.1 (ap (slice_get w.clients) (ap (λ z. z.client) l.2 ∙ own) ∙ here))
        where
          told : IsPast c l.0.id → y.command ≤ c.command
          told (inl low) = let is : l.0.id.command ≡ y.command = ap (λ z. z.command) l.2 in omega (arith, is, low)
          told (inr k) = let is : l.0.id.command ≡ y.command = ap (λ z. z.command) l.2 in let at : l.0.id.command ≡ c.command = k.2 in omega (arith, is, at)

  -- so is one of which a line tells
  told-before : (b : Attempt) → Has b (tries w.lines) → b.id.client ≡ n → b.id.command ≤ c.command
  told-before b i own = by (E.past b c (contains-from_has (tries w.lines) b i) (ap (slice_get w.clients) own ∙ here))
    where
      by : IsPast c b.id → b.id.command ≤ c.command
      by (inl low) = omega (arith, low)
      by (inr k) = let at : b.id.command ≡ c.command = k.2 in omega (arith, at)

  -- ---- a move

  module _ (v : World) (targets : v.targets ≡ w.targets) (issued : v.issued ≡ w.issued) where
    grew : (x : AttemptId) (e : Epoch) → Contains w.issued (x, e) → Contains v.issued (x, e)
    grew x e i = subst (λ is. Contains is (x, e)) (sym issued) i

    was : (t : ℕ) (s : TargetState) → slice_get v.targets t ≡ Some s → slice_get w.targets t ≡ Some s
    was t s at = ap (λ ts. slice_get ts t) (sym targets) ∙ at

    -- no line tells of one more attempt
    no-more : tries v.lines ≡ tries w.lines → OrderStands r passed v
    no-more same = record {
      stored = λ t s k at i. subst (λ as'. IsStoredBehind r as' v.issued t k.attempt k.epoch) (sym same)
          (stored-on r (tries w.lines) (tries w.lines) w.issued v.issued grew t k.attempt k.epoch (λ x e told. told) (K.stored t s k (was t s at) i));
      served = λ q i off. subst (λ as'. IsServedBehind r as' v.issued q) (sym same)
          (served-on r (tries w.lines) (tries w.lines) w.issued v.issued grew q (λ x e told. told) (K.served q i off));
      dated = λ q i off. grew q.by q.epoch (K.dated q i off);
      asked = K.asked;
      rising = subst AreInOrder (sym same) K.rising;
    }

    -- one more, of the command that the client is at
    one-more : (z : Attempt) → z.id.client ≡ n → z.id.command ≡ c.command → tries v.lines ≡ tries w.lines ++ z ∷ [] → OrderStands r passed v
    one-more z own command same = record {
      stored = λ t s k at i. subst (λ as'. IsStoredBehind r as' v.issued t k.attempt k.epoch) (sym same)
          (stored-on r (tries w.lines) (tries w.lines ++ z ∷ []) w.issued v.issued grew t k.attempt k.epoch (back k.attempt k.epoch (E.entered t s k (was t s at) i))
          (K.stored t s k (was t s at) i));
      served = λ q i off. subst (λ as'. IsServedBehind r as' v.issued q) (sym same)
          (served-on r (tries w.lines) (tries w.lines ++ z ∷ []) w.issued v.issued grew q (back q.by q.epoch (K.dated q i off)) (K.served q i off));
      dated = λ q i off. grew q.by q.epoch (K.dated q i off);
      asked = K.asked;
      rising = subst AreInOrder (sym same) (order-on (tries w.lines) z K.rising (λ b i is. subst (λ m. b.id.command ≤ m) (sym command) (told-before b i (is ∙ own))));
    }
      where
        back : (y : AttemptId) (f : Epoch) → Contains w.issued (y, f) → (x : Attempt) (e : Epoch) → WasAnswered (tries w.lines ++ z ∷ []) x e y → WasAnswered (tries w.lines) x e y
        back y f i = answered-back (tries w.lines) z y (λ same past.
            let low : y.command ≤ c.command = begun y f (sym same ∙ own) i in
            let is : z.id.command ≡ c.command = command in
            let less : z.id.command < y.command = past in
            omega (arith, low, is, less))

    -- the lines have one more at most, which is of that command
    with-line : (o : Option Line) → LineIsOf (client_plan r n) c.command o → v.lines ≡ w.lines ++ map (with_epoch w.issued) (listed o) → OrderStands r passed v
    with-line None its same = no-more (ap tries (same ∙ append-nil w.lines))
    with-line (Some l) its same =
        one-more (filled w.issued its.0) its.2 its.3
        (ap tries (same ∙ ap (λ x. w.lines ++ with_epoch w.issued x ∷ []) its.1) ∙ tries-append w.lines (line.Try (filled w.issued its.0) ∷ []) ∙ ap (λ as'. tries w.lines ++ as')
        (one-try (filled w.issued its.0)))

-- ---- turns

module _ (r : Rules) (top : ℕ) (passed : List Served) (moves : KeptByMoves r (ClientsTalk r top)) (counts : KeptByCounting (ClientsTalk r top))
    (hears : KeptByHearing r (ClientsTalk r top)) where
  -- what each move keeps together
  abbrev Goes : World → Type 0
  Goes w = ClientsTalk r top w × OrderStands r passed w

  goes-on : KeptByMoves r Goes
  goes-on w n c here p = (
    moves w n c here p.0,
    with-line r top passed w n c here p.0.2 p.1 (after_move w n (moved (client_plan r n) c)) refl refl (moved (client_plan r n) c).line (moved-its (client_plan r n) c) refl,
  )

  counts-on : KeptByCounting Goes
  counts-on w n k c here p = (counts w n k c here p.0, no-more r top passed w n c here p.0.2 p.1 (with_client n (record c { skip = k }) w) refl refl refl)

  hears-on : KeptByHearing r Goes
  hears-on w n c l rest here awake takes to p = (
    hears w n c l rest here awake takes to p.0,
    with-line r top passed w n c here p.0.2 p.1 (after_move (without w rest) n (heard (client_plan r n) c l.message)) refl refl (heard (client_plan r n) c l.message).line
        (heard-its (client_plan r n) c l.message) refl,
  )

  both : (w v : World) → ClientsTalk r top w → ClientGoes r w v ⊎ ClientHears r w v → OrderStands r passed w → OrderStands r passed v
  both w v talk (inl g) K = (by-next r Goes goes-on counts-on w v (talk, K) g).1
  both w v talk (inr g) K = (by-hearing r Goes goes-on hears-on w v (talk, K) g).1

pub clients-keep-order : ClientsKeepOrder
clients-keep-order r top passed moves counts hears w v talk g K = both r top passed moves counts hears w v talk g K
