-- What each move of a client keeps, every turn of a client keeps.
use Rattle.std.specs.Prelude.{◌++◌, ◌-◌, ◌∷◌, ◌≡◌, List, None, Option, Some, [], ℕ, map, refl, slice_get}
use Rattle.std.proofs.Common.{zero, suc, append-nil, sym, ◌∙◌, ap, subst}
use Rattle.std.proofs.Math.ListN.{set}
use Rattle.std.proofs.lemmas.List.{append_assoc, map-append}
use Rattle.base_types.specs.declared.report.Line.{Line}
use Rattle.base_messages.specs.declared.message.Post.{Post}
use Rattle.world_base.specs.declared.client.ClientState.{ClientState}
use Rattle.world_base.specs.declared.world.World.{World}
use Rattle.world_base.specs.ClientTurns.{Ended_by, GoesOn, HearTurn, Heard_on, Move, Moves, NextTurn, None_yet, One_more, Skipped, Went_on, heard, listed, moved}
use Rattle.world_base.specs.Events.{ClientGoes, ClientHears, Rules, after_turn, client_plan, with_client, with_epoch}
use Rattle.world_base.specs.declared.letter.Letter.{Letter}
use Rattle.world_base.specs.Letters.{asked_after, asked_with, client, letters_of}
use Rattle.world_base.specs.Steps.{KeptByCounting, KeptByHearing, KeptByMoves, after_client, after_move, without}

-- ---- one state among others

pub set-here : {T : Type 0} (xs : List T) (n : ℕ) (x y : T) → slice_get xs n ≡ Some x → slice_get (set xs n y) n ≡ Some y
set-here [] n x y h = let no : ⊥ = cc in absurd no
set-here (z ∷ zs) zero x y h = refl
set-here (z ∷ zs) (suc n) x y h = set-here zs n x y h

pub set-there : {T : Type 0} (xs : List T) (n m : ℕ) (y : T) → ((m ≡ n) → ⊥) → slice_get (set xs n y) m ≡ slice_get xs m
set-there [] n m y apart = refl
set-there (z ∷ zs) zero zero y apart = absurd (apart refl)
set-there (z ∷ zs) zero (suc m) y apart = refl
set-there (z ∷ zs) (suc n) zero y apart = refl
set-there (z ∷ zs) (suc n) (suc m) y apart = set-there zs n m y (λ same. apart (ap suc same))

pub set-twice : {T : Type 0} (xs : List T) (n : ℕ) (x y : T) → set (set xs n x) n y ≡ set xs n y
set-twice [] n x y = refl
set-twice (z ∷ zs) zero x y = refl
set-twice (z ∷ zs) (suc n) x y = ap (λ ws. z ∷ ws) (set-twice zs n x y)

pub set-same : {T : Type 0} (xs : List T) (n : ℕ) (x : T) → slice_get xs n ≡ Some x → set xs n x ≡ xs
set-same [] n x h = refl
set-same (z ∷ zs) zero x h = let e : z ≡ x = cc in ap (λ w. w ∷ zs) (sym e)
set-same (z ∷ zs) (suc n) x h = ap (λ ws. z ∷ ws) (set-same zs n x h)

-- ---- moves, one after another

-- what is without an answer after some letters and then some more
pub asked-append : (asked ls ms : List Letter) → asked_after asked (ls ++ ms) ≡ asked_after (asked_after asked ls) ms
asked-append asked [] ms = refl
asked-append asked (l ∷ ls) ms = asked-append (asked_with asked l) ls ms

-- two things that a client did, one after the other
pub after-both : (w : World) (n : ℕ) (posts posts2 : List Post) (lines lines2 : List Line) (d e : ClientState)
    → after_client (after_client w n posts lines d) n posts2 lines2 e ≡ after_client w n (posts ++ posts2) (lines ++ lines2) e
after-both w n posts posts2 lines lines2 d e = rw (states, letters, unanswered, told) refl
  where
    states : set (set w.clients n d) n e ≡ set w.clients n e
    states = set-twice w.clients n d e

    letters : (w.messages ++ letters_of (client n) posts) ++ letters_of (client n) posts2 ≡ w.messages ++ letters_of (client n) (posts ++ posts2)
    letters = append_assoc w.messages (letters_of (client n) posts) (letters_of (client n) posts2) ∙ ap (λ ls. w.messages ++ ls) (sym (map-append (λ p. record { from = client n; to = p.to; message = p.message }) posts posts2))

    unanswered : asked_after (asked_after w.asked (letters_of (client n) posts)) (letters_of (client n) posts2) ≡ asked_after w.asked (letters_of (client n) (posts ++ posts2))
    unanswered = sym (asked-append w.asked (letters_of (client n) posts) (letters_of (client n) posts2)) ∙ ap (asked_after w.asked) (sym (map-append (λ p. record { from = client n; to = p.to; message = p.message }) posts posts2))

    told : (w.lines ++ map (with_epoch w.issued) lines) ++ map (with_epoch w.issued) lines2 ≡ w.lines ++ map (with_epoch w.issued) (lines ++ lines2)
    told = append_assoc w.lines (map (with_epoch w.issued) lines) (map (with_epoch w.issued) lines2) ∙ ap (λ ls. w.lines ++ ls) (sym (map-append (with_epoch w.issued) lines lines2))

-- what a client did that did nothing
pub after-none : (w : World) (n : ℕ) (c : ClientState) → slice_get w.clients n ≡ Some c → after_client w n [] [] c ≡ w
after-none w n c here = rw (set-same w.clients n c here, append-nil w.messages, append-nil w.lines) refl

module _ (r : Rules) (P : World → Type 0) where
  -- some moves that don't end a turn
  pub by-moves : KeptByMoves r P → (w : World) (n : ℕ) (c d : ClientState) (posts : List Post) (lines : List Line) → slice_get w.clients n ≡ Some c → P w → Moves (client_plan r n) c posts lines d
      → P (after_client w n posts lines d)
  by-moves keep w n c d posts lines here p None_yet = subst P (sym (after-none w n c here)) p
  by-moves keep w n c d posts lines here p (One_more sent told e m over) =
      subst P (after-both w n sent (listed (moved (client_plan r n) e).post) told (listed (moved (client_plan r n) e).line) e (moved (client_plan r n) e).state)
      (keep (after_client w n sent told e) n e (set-here w.clients n c e here) (by-moves keep w n c e sent told here p m))

  -- a client that goes on
  pub by-going : KeptByMoves r P → (w : World) (n : ℕ) (c d : ClientState) (posts : List Post) (lines : List Line) → slice_get w.clients n ≡ Some c → P w → GoesOn (client_plan r n) c posts lines d
      → P (after_client w n posts lines d)
  by-going keep w n c d posts lines here p g =
      subst (λ e. P (after_client w n posts lines e)) (sym g.reached)
      (subst (λ ls. P (after_client w n posts ls last.state)) (sym g.all_told)
      (subst (λ ps. P (after_client w n ps (g.told ++ listed last.line) last.state)) (sym g.all_sent)
      (subst P (after-both w n g.sent (listed last.post) g.told (listed last.line) g.last last.state)
      (keep (after_client w n g.sent g.told g.last) n g.last (set-here w.clients n c g.last here) (by-moves keep w n c g.last g.sent g.told here p g.moves)))))
    where
      last : Move
      last = moved (client_plan r n) g.last

  -- a turn of a client without a message
  pub by-next : KeptByMoves r P → KeptByCounting P → (w v : World) → P w → ClientGoes r w v → P v
  by-next keep count w v p g = subst P (sym g.after) (by g.turn)
    where
      by : NextTurn (client_plan r g.n) g.c g.did g.d → P (with_client g.n g.d (after_turn w (client g.n) g.did w.messages))
      by (Skipped skips says after) = rw (after, says, append-nil w.messages, append-nil w.issued, append-nil w.lines) (count w g.n (g.c.skip - 1) g.c g.here p)
      by (Went_on runs did) = rw (did.issued, append-nil w.issued) (by-going keep w g.n g.c g.d g.did.posts g.did.lines g.here p did.goes_on)

  -- a turn in which a client hears a message
  pub by-hearing : KeptByMoves r P → KeptByHearing r P → (w v : World) → P w → ClientHears r w v → P v
  by-hearing keep hear w v p g = subst P (sym g.after) (by g.turn)
    where
      first : Move
      first = heard (client_plan r g.n) g.c g.l.message

      begun : P (after_move (without w g.rest) g.n first)
      begun = hear w g.n g.c g.l g.rest g.here g.awake g.takes g.to_it p

      by : HearTurn (client_plan r g.n) g.c g.l.message g.did g.d → P (with_client g.n g.d (after_turn w (client g.n) g.did g.rest))
      by (Ended_by over says after) = rw (after, says, append-nil w.issued) begun
      by (Heard_on rest over did says) =
          rw (says, did.issued, append-nil w.issued)
          (subst P (after-both (without w g.rest) g.n (listed first.post) rest.posts (listed first.line) rest.lines first.state g.d)
          (by-going keep (after_move (without w g.rest) g.n first) g.n first.state g.d rest.posts rest.lines (set-here w.clients g.n g.c first.state g.here) begun did.goes_on))

none-stays : {A : Type 0} (xs : List A) (n : ℕ) (y : A) → slice_get xs n ≡ None → slice_get (set xs n y) n ≡ None
none-stays [] n y h = refl
none-stays (z ∷ zs) zero y h = let no : ⊥ = cc in absurd no
none-stays (z ∷ zs) (suc n) y h = none-stays zs n y h

-- what stands where an element was set is that one
pub set-is : {A : Type 0} (xs : List A) (n : ℕ) (y x : A) → slice_get (set xs n y) n ≡ Some x → y ≡ x
set-is xs n y x at = by (slice_get xs n) refl
  where
    by : (o : Option _) → slice_get xs n ≡ o → y ≡ x
    by None h = let bad : None ≡ Some x = sym (none-stays xs n y h) ∙ at in let no : ⊥ = cc in absurd no
    by (Some z) h = let e : Some y ≡ Some x = sym (set-here xs n z y h) ∙ at in cc
