-- A turn, move by move.
use Rattle.std.proofs.Common.{◌≡◌, ◌++◌, List, [], None, true, false, refl, sym, ◌∙◌, ap, subst, append_assoc, append-nil, ◌<◌, rules, Result, Ok, Err, IfOk}
use Rattle.base_types.specs.declared.report.Line.{Line}
use Rattle.base_messages.specs.declared.message.Message.{Message}
use Rattle.base_messages.specs.declared.message.Post.{Post}
use Rattle.world_base.specs.declared.client.ClientPlan.{ClientPlan}
use Rattle.world_base.specs.declared.client.ClientState.{ClientState}
use Rattle.world_base.specs.declared.did.Did.{Did}
use Rattle.world_base.specs.ClientTurns.{ClientDid, HearTurn, Ended_by, Heard_on, Move, Moves, None_yet, One_more, goes, heard, listed, moved}
use Rattle.client_core.specs.declared.turns.Turn.{Turn}
use Rattle.client_core.specs.Clients.{GoesOnFrom, IsInPlace, PlanFits, staged}
use Rattle.client_core.proofs.Kept.{heard_kept, moved_kept}
use Rattle.client_core.proofs.Lighter.{lighter, weight}

-- what was done from a start on, and where the client is
pub record SoFar (p : ClientPlan) (start : Turn) (did : Did) (s : ClientState) : Type 0 where
  pub sent : List Post
  pub told : List Line
  pub moves : Moves p start.state sent told s
  pub posts : did.posts ≡ start.did.posts ++ sent
  pub lines : did.lines ≡ start.did.lines ++ told
  pub issued : did.issued ≡ None
  pub place : IsInPlace p s

-- what a move adds to what was done
pub record Adds (m : Move) (did after : Did) : Type 0 where
  pub posts : after.posts ≡ did.posts ++ listed m.post
  pub lines : after.lines ≡ did.lines ++ listed m.line
  pub issued : after.issued ≡ did.issued

pub so_far_first : (p : ClientPlan) (start : Turn) → start.did.issued ≡ None → IsInPlace p start.state → SoFar p start start.did start.state
so_far_first p start none place = record { sent = []; told = []; moves = None_yet; posts = search rules; lines = search rules; issued = none; place = place }

pub so_far_more :
    (p : ClientPlan) (start : Turn) (did after : Did) (s : ClientState) (m : Move)
    → SoFar p start did s → m ≡ moved p s → m.over ≡ false → Adds m did after → SoFar p start after m.state
so_far_more p start did after s m so is on adds = subst (λ x. SoFar p start after x.state) (sym is) (record {
  sent = so.sent ++ listed (moved p s).post;
  told = so.told ++ listed (moved p s).line;
  moves = One_more so.sent so.told s so.moves (sym (ap (λ (x : Move). x.over) is) ∙ on);
  posts =
      adds.posts ∙ ap (λ x. x ++ listed m.post) so.posts ∙ ap (λ (x : Move). start.did.posts ++ so.sent ++ listed x.post) is ∙ append_assoc start.did.posts so.sent (listed (moved p s).post);
  lines =
      adds.lines ∙ ap (λ x. x ++ listed m.line) so.lines ∙ ap (λ (x : Move). start.did.lines ++ so.told ++ listed x.line) is ∙ append_assoc start.did.lines so.told (listed (moved p s).line);
  issued = adds.issued ∙ so.issued;
  place = moved_kept p s so.place;
})

pub lighter_on : (p : ClientPlan) (s : ClientState) (m : Move) → PlanFits p → m ≡ moved p s → m.over ≡ false → weight p m.state < weight p s
lighter_on p s m fits is on = subst (λ x. weight p x.state < weight p s) (sym is) (lighter p s fits (sym (ap (λ (x : Move). x.over) is) ∙ on))

-- a move that just goes to the next stage adds nothing
pub so_far_quiet : (p : ClientPlan) (start : Turn) (did : Did) (s t : ClientState) → SoFar p start did s → t ≡ staged s → goes (staged s) ≡ moved p s → SoFar p start did t
so_far_quiet p start did s t so is quiet =
    subst (SoFar p start did) (sym is)
    (so_far_more p start did did s (goes (staged s)) so quiet refl (record { posts = sym (append-nil did.posts); lines = sym (append-nil did.lines); issued = refl }))

pub lighter_quiet : (p : ClientPlan) (s t : ClientState) → PlanFits p → t ≡ staged s → goes (staged s) ≡ moved p s → weight p t < weight p s
lighter_quiet p s t fits is quiet = subst (λ x. weight p x < weight p s) (sym is) (lighter_on p s (goes (staged s)) fits quiet refl)

-- a move that ends the turn is its last
pub so_far_last :
    (p : ClientPlan) (start : Turn) (did after : Did) (s : ClientState) (m : Move)
    → SoFar p start did s → m ≡ moved p s → m.over ≡ true → Adds m did after → GoesOnFrom p start (record { did = after; state = m.state })
so_far_last p start did after s m so is over adds = record {
  rest = record { posts = so.sent ++ listed (moved p s).post; lines = so.told ++ listed (moved p s).line; issued = None };
  goes_on = record {
    goes_on = record {
      sent = so.sent;
      told = so.told;
      last = s;
      moves = so.moves;
      over = sym (ap (λ (x : Move). x.over) is) ∙ over;
      all_sent = refl;
      all_told = refl;
      reached = ap (λ (x : Move). x.state) is;
    };
    issued = refl;
  };
  posts =
      adds.posts ∙ ap (λ x. x ++ listed m.post) so.posts ∙ ap (λ (x : Move). start.did.posts ++ so.sent ++ listed x.post) is ∙ append_assoc start.did.posts so.sent (listed (moved p s).post);
  lines =
      adds.lines ∙ ap (λ x. x ++ listed m.line) so.lines ∙ ap (λ (x : Move). start.did.lines ++ so.told ++ listed x.line) is ∙ append_assoc start.did.lines so.told (listed (moved p s).line);
  issued = adds.issued ∙ so.issued;
}

pub kept_last : (p : ClientPlan) (s : ClientState) (m : Move) → IsInPlace p s → m ≡ moved p s → IsInPlace p m.state
kept_last p s m place is = subst (λ x. IsInPlace p x.state) (sym is) (moved_kept p s place)

-- ---- a turn in which a message is heard

did_as : (did : Did) (posts : List Post) (lines : List Line) (issued : _) → did.posts ≡ posts → did.lines ≡ lines → did.issued ≡ issued → did ≡ record { posts = posts; lines = lines; issued = issued }
did_as did posts lines issued e f g =
    ap (λ x. record did { posts = x }) e ∙ ap (λ x. record did { posts = posts; lines = x }) f ∙ ap (λ x. record did { posts = posts; lines = lines; issued = x }) g

abbrev pub nothing : Did
nothing = record { posts = []; lines = []; issued = None }

pub hear_ended : (p : ClientPlan) (c : ClientState) (m : Message) (step : Move) (did : Did) → step ≡ heard p c m → step.over ≡ true → Adds step nothing did → HearTurn p c m did step.state
hear_ended p c m step did is over adds = Ended_by
    (sym (ap (λ (x : Move). x.over) is) ∙ over)
    (did_as did _ _ _ (adds.posts ∙ ap (λ (x : Move). listed x.post) is) (adds.lines ∙ ap (λ (x : Move). listed x.line) is) adds.issued)
    (ap (λ (x : Move). x.state) is)

hear_went_on_from :
    (p : ClientPlan) (c : ClientState) (m : Message) (step : Move) (did : Did) (t : Turn)
    → step ≡ heard p c m → step.over ≡ false → Adds step nothing did → GoesOnFrom p (record { did = did; state = step.state }) t → HearTurn p c m t.did t.state
hear_went_on_from p c m step did t is on adds goes = Heard_on
    goes.rest
    (sym (ap (λ (x : Move). x.over) is) ∙ on)
    (subst (λ (x : Move). ClientDid p x.state goes.rest t.state) is goes.goes_on)
    (did_as t.did _ _ _
    (goes.posts ∙ ap (λ x. x ++ goes.rest.posts) (adds.posts ∙ ap (λ (x : Move). listed x.post) is))
    (goes.lines ∙ ap (λ x. x ++ goes.rest.lines) (adds.lines ∙ ap (λ (x : Move). listed x.line) is))
    (goes.issued ∙ sym goes.goes_on.issued))

pub hear_went_on :
    (p : ClientPlan) (c : ClientState) (m : Message) (step : Move) (none did : Did) (t : Turn)
    → step ≡ heard p c m → step.over ≡ false → none ≡ nothing → Adds step none did → GoesOnFrom p (record { did = did; state = step.state }) t → HearTurn p c m t.did t.state
hear_went_on p c m step none did t is on empty adds goes = hear_went_on_from p c m step did t is on (subst (λ d. Adds step d did) empty adds) goes

pub kept_heard : (p : ClientPlan) (c : ClientState) (m : Message) (step : Move) → IsInPlace p c → step ≡ heard p c m → IsInPlace p step.state
kept_heard p c m step place is = subst (λ (x : Move). IsInPlace p x.state) (sym is) (heard_kept p c m place)

pub if_ok_more : {A E : Type 0} (P Q : A → Type 0) (r : Result A E) → ((x : A) → P x → Q x) → IfOk r P → IfOk r Q
if_ok_more P Q (Ok x) f h = f x h
if_ok_more P Q (Err e) f h = h
