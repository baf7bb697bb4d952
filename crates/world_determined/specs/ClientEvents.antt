-- A client's turn leads from worlds that are the same but for free blocks to such worlds.
use Rattle.std.specs.Prelude.{ℕ, ◌≡◌, List, slice_get, Some}
use Rattle.std.proofs.Common.{sym, ◌∙◌, ap, subst, subst₂}
use Rattle.world_base.specs.declared.client.ClientState.{ClientState}
use Rattle.world_base.specs.declared.did.Did.{Did}
use Rattle.world_base.specs.declared.letter.Letter.{Letter}
use Rattle.world_base.specs.declared.world.World.{World}
use Rattle.world_base.specs.ClientTurns.{HearTurn, NextTurn}
use Rattle.world_base.specs.Events.{ClientGoes, ClientHears, Rules, after_turn, client_plan, with_client}
use Rattle.world_base.specs.Letters.{client}
use Rattle.world_determined.specs.Clients.{one_hear, one_next}
use Rattle.world_determined.specs.Clients as clients
use Rattle.world_determined.specs.Worlds.{SameButFree, but_free}

module _ (r : Rules) (w v w' v' : World) (same : SameButFree w v) where
  -- a world after a client's turn
  client-after : (n m : ℕ) (d e : ClientState) (did did' : Did) (rest left : List Letter) → n ≡ m → d ≡ e → did ≡ did' → rest ≡ left
      → SameButFree (with_client n d (after_turn w (client n) did rest)) (with_client m e (after_turn v (client m) did' left))
  client-after n m d e did did' rest left number state told others =
      ap (λ (x : World). with_client n d (after_turn x (client n) did rest)) same ∙ ap (λ i. with_client i d (after_turn (but_free v) (client i) did rest)) number
      ∙ ap (λ (x : ClientState). with_client m x (after_turn (but_free v) (client m) did rest)) state ∙ ap (λ (x : Did). with_client m e (after_turn (but_free v) (client m) x rest)) told
      ∙ ap (λ (x : List Letter). with_client m e (after_turn (but_free v) (client m) did' x)) others

  -- the client that has it
  client-here : (n m : ℕ) (c d : ClientState) → n ≡ m → slice_get w.clients n ≡ Some c → slice_get v.clients m ≡ Some d → c ≡ d
  client-here n m c d number here there =
      let found : Some c ≡ Some d = sym here ∙ ap (λ (x : World). slice_get x.clients n) same ∙ ap (slice_get v.clients) number ∙ there in cc

  -- a client goes on
  pub goes-one : (g : ClientGoes r w w') (h : ClientGoes r v v') → g.n ≡ h.n → SameButFree w' v'
  goes-one g h number =
      let state = client-here g.n h.n g.c h.c number g.here h.here in
      let one : clients.OneTurn g.did h.did g.d h.d =
      one_next (client_plan r g.n) g.c g.did h.did g.d h.d g.turn (subst₂ (λ (n : ℕ) (c : ClientState). NextTurn (client_plan r n) c h.did h.d) (sym number) (sym state) h.turn) in
      ap but_free g.after ∙ client-after g.n h.n g.d h.d g.did h.did w.messages v.messages number one.state_same one.did_same (ap (λ (x : World). x.messages) same) ∙ sym (ap but_free h.after)

  -- a client hears a message
  pub client-hears-one : (g : ClientHears r w w') (h : ClientHears r v v') → g.n ≡ h.n → g.l ≡ h.l → g.rest ≡ h.rest → SameButFree w' v'
  client-hears-one g h number heard others =
      let state = client-here g.n h.n g.c h.c number g.here h.here in
      let one : clients.OneTurn g.did h.did g.d h.d =
      one_hear (client_plan r g.n) g.c g.l.message g.did h.did g.d h.d g.turn
      (subst (λ (l : Letter). HearTurn (client_plan r g.n) g.c l.message h.did h.d) (sym heard) (subst₂ (λ (n : ℕ) (c : ClientState). HearTurn (client_plan r n) c h.l.message h.did h.d) (sym number) (sym state) h.turn)) in
      ap but_free g.after ∙ client-after g.n h.n g.d h.d g.did h.did g.rest h.rest number one.state_same one.did_same others ∙ sym (ap but_free h.after)
