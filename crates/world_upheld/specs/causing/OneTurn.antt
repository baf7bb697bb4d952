-- One target had a turn, or was cut in one, in which snapshots are made or containers aggregated: outcomes go on to show their causes.
use Rattle.std.specs.Prelude.{ℕ, ◌≡◌, ◌≤◌, ◌+◌, ◌/◌, ◌++◌, ◌⊎◌, true, List, [], ◌∷◌, Contains, slice_get, Some, refl}
use Rattle.std.proofs.Common.{append-nil, inl, inr, sym, ◌∙◌, ap, subst, arith}
use Rattle.std.proofs.Math.ListN.{set}
use Rattle.base_types.specs.declared.epoch.Epoch.{Epoch}
use Rattle.base_types.specs.declared.id.AttemptId.{AttemptId}
use Rattle.base_types.specs.declared.id.ContId.{ContId}
use Rattle.base_types.specs.declared.outcome.FloorWhy.{FloorWhy}
use Rattle.base_types.specs.declared.outcome.FloorWhy.TheVariants as why
use Rattle.base_types.specs.declared.report.Line.{Line}
use Rattle.base_types.specs.declared.report.Line.TheVariants as line
use Rattle.base_messages.specs.declared.message.Post.{Post}
use Rattle.model_laws.specs.Members.{Has, contains-from_has, has-cases, has-from_contains}
use Rattle.daos_model.specs.Attempts.{tries}
use Rattle.daos_model.specs.CausesShown.{ShowsFloor}
use Rattle.daos_model.specs.Opening.{Opening}
use Rattle.dtx_base.specs.declared.member.Parked.{Parked}
use Rattle.world_base.specs.declared.letter.Letter.{Letter}
use Rattle.world_base.specs.declared.target.Life.TheVariants.{Running}
use Rattle.world_base.specs.declared.target.TargetState.{TargetState}
use Rattle.world_base.specs.declared.world.World.{World}
use Rattle.world_base.specs.Events.{Rules}
use Rattle.world_legal.specs.world_causes.causes.Causes.{Dated, Stored, blocks_of_stored}
use Rattle.world_legal.specs.world_causes.causes.Dates.{limit-rises}
use Rattle.world_legal.specs.world_causes.causes.Growth.{blocks-more}
use Rattle.world_legal.specs.world_causes.causes.Lasting.{limit-told, message-more, open-more, silent-others}
use Rattle.world_legal.specs.world_causes.causes.Shown.{Causes, FloorsShown, MessageStands, limit_over}
use Rattle.world_legal.specs.world_causes.causes.Turns.{PostShows}
use Rattle.world_legal.specs.world_causes.showing.Following.{FollowsOn, continues-keep, posted}
use Rattle.world_letters.specs.epochs.Epochs.{reads_snapshot}
use Rattle.world_letters.specs.lives.TurnLines.{IsTurnLine}
use Rattle.world_legal.specs.world_contents.reads.EventLaws.{at-or-there}
use Rattle.world_letters.specs.snapshots.Makings.{ComesOf}

-- ---- lines

-- lines of turns tell of no attempt
pub untried : (t : ℕ) (ls : List Line) → ((l : Line) → Has l ls → IsTurnLine t l) → tries ls ≡ []
unfolding tries
untried t [] all = refl
untried t (l ∷ ls) all = one l (all l (inl refl)) (untried t ls (λ k i. all k (inr i)))
  where
    one : (l : Line) → IsTurnLine t l → tries ls ≡ [] → tries (l ∷ ls) ≡ []
    one (line.Freeze u c e) own rest = rest
    one (line.Snapshot name c e) own rest = rest
    one (line.Aggregate n u c e) own rest = rest
    one (line.Try a) own rest = absurd own
    one (line.Stop n u) own rest = absurd own
    one (line.Restart n u inc floor) own rest = absurd own
    one (line.Down u) own rest = absurd own

-- what was sent goes on to show its cause, as more is stored and lines are told that tell of no attempt
pub post-on : (r : Rules) (o : Opening) (new stored : Stored) (issued : Dated) (lines more : List Line) (q : Post) → tries more ≡ [] → PostShows r o stored issued lines q → PostShows r o (new ++ stored) issued (lines ++ more) q
post-on r o new stored issued lines more q silent k = record {
  shows = subst (λ is. MessageStands r o (new ++ stored) is (lines ++ more) q.message) (append-nil issued) (message-more r o new stored issued [] lines more q.message (λ x ends. silent-others x.client more silent) k.shows);
  told = λ e i. by (e / 256) (limit_over o lines issued) (limit_over o (lines ++ more) issued) (k.told e i) (limit-told o lines more issued);
  undecided = λ x y u. open-more r.script lines more x y (silent-others x.client more silent) (k.undecided x y u);
  asked = k.asked;
  own = k.own;
}
  where
    by : (n a b : ℕ) → n ≤ a → a ≤ b → n ≤ b
    by n a b p q = omega (arith, p, q)

-- ---- one target

-- What it issued, told and sent; ticks, its lease, and its blocks; what waits there waited before; and floors are shown.
pub record IsOneTurn (r : Rules) (o : Opening) (stored new : Stored) (w v : World) (t : ℕ) (s z : TargetState) : Type 0 where
  pub here : slice_get w.targets t ≡ Some s
  pub targets : v.targets ≡ set w.targets t z
  pub clients : v.clients ≡ w.clients
  pub added : Dated
  pub issued : v.issued ≡ w.issued ++ added
  pub more : List Line
  pub lines : v.lines ≡ w.lines ++ more
  pub silent : tries more ≡ []
  pub comes : (l : Line) → Has l more → ComesOf r v.issued l
  pub unrestarted : (l : Line) (n u inc : ℕ) (floor : Epoch) → Has l more → l ≡ line.Restart n u inc floor → ⊥
  pub messages : (l : Letter) → Contains v.messages l → Contains w.messages l ⊎ PostShows r o (new ++ stored) v.issued v.lines (posted l)
  pub dates : (x : AttemptId) (e : Epoch) → Contains added (x, e) → e.0 / 256 ≤ limit_over o w.lines (w.issued ++ added)
  pub ticks : z.life ≡ Running → z.memory.ticks ≤ limit_over o w.lines (w.issued ++ added)
  pub lease : z.durable.lease ≤ limit_over o w.lines w.issued + 1 + 65535
  pub free : s.free ≤ z.free
  pub parked : (p : Parked) → Contains z.memory.member.parked p → Contains s.memory.member.parked p ⊎ (reads_snapshot p.ask ≡ true)
  pub floors : FloorsShown o v

module _ (r : Rules) (o : Opening) (stored new : Stored) (w v : World) (t : ℕ) (s z : TargetState) (C : Causes r o stored w) (k : IsOneTurn r o stored new w v t s z) where
  abbrev bound : ℕ
  bound = limit_over o v.lines v.issued

  rises : limit_over o w.lines (w.issued ++ k.added) ≤ bound
  rises = subst (λ ls. limit_over o w.lines (w.issued ++ k.added) ≤ limit_over o ls v.issued) (sym k.lines)
      (subst (λ is. limit_over o w.lines (w.issued ++ k.added) ≤ limit_over o (w.lines ++ k.more) is) (sym k.issued) (limit-told o w.lines k.more (w.issued ++ k.added)))

  up : {n : ℕ} → n ≤ limit_over o w.lines (w.issued ++ k.added) → n ≤ bound
  up {n = n} low = by (limit_over o w.lines (w.issued ++ k.added)) bound low rises
    where
      by : (a b : ℕ) → n ≤ a → a ≤ b → n ≤ b
      by a b p q = omega (arith, p, q)

  was-within : {n : ℕ} → n ≤ limit_over o w.lines w.issued → n ≤ bound
  was-within {n = n} low = up (by (limit_over o w.lines w.issued) (limit_over o w.lines (w.issued ++ k.added)) low (limit-rises o w.lines w.issued k.added))
    where
      by : (a b : ℕ) → n ≤ a → a ≤ b → n ≤ b
      by a b p q = omega (arith, p, q)

  -- every epoch that was issued is within the limit
  issued-within : (x : AttemptId) (e : Epoch) → Has (x, e) v.issued → e.0 / 256 ≤ bound
  issued-within x e i = elim (has-cases w.issued k.added (x, e) (subst (Has (x, e)) k.issued i)) [
    | inl j ↦ was-within (C.bounded.issued x e (contains-from_has w.issued (x, e) j))
    | inr j ↦ up (k.dates x e (contains-from_has k.added (x, e) j))
  ]

  told-within : (u : ℕ) (floor : Epoch) (cont : ContId) (reason : FloorWhy) (l : Line) → Has l k.more → ShowsFloor u floor cont reason l → floor.0 / 256 ≤ bound
  told-within u floor cont why.Opening l i shows = absurd shows
  told-within u floor cont (why.Restart n) l i shows = absurd (k.unrestarted l n u shows.0 floor i shows.1)
  told-within u floor cont (why.Snapshot e) l i shows = let c = subst (ComesOf r v.issued) shows.0 (k.comes l i) in subst (λ f. f.0 / 256 ≤ bound) shows.1 (issued-within c.0 e c.1)
  told-within u floor cont (why.Aggregate n) l i shows = let c = subst (ComesOf r v.issued) shows (k.comes l i) in by floor.0 c.1.0 bound c.4 (issued-within c.0 c.1 c.2)
    where
      by : (a b d : ℕ) → a ≤ b → b / 256 ≤ d → a / 256 ≤ d
      by a b d p q = omega (arith, p, q)

  at-it : FollowsOn r stored new bound t s z
  at-it = record {
    ticks = λ runs. inr (up (k.ticks runs));
    lease = inr (sum z.durable.lease (limit_over o w.lines w.issued) bound k.lease (was-within (same (limit_over o w.lines w.issued))));
    free = add s.free z.free (blocks_of_stored r.script t stored) (blocks_of_stored r.script t (new ++ stored)) k.free (blocks-more r.script t new stored);
    parked = k.parked;
  }
    where
      same : (n : ℕ) → n ≤ n
      same n = omega arith

      sum : (a b c : ℕ) → a ≤ b + 1 + 65535 → b ≤ c → a ≤ c + 65536
      sum a b c p q = omega (arith, p, q)

      add : (a b c d : ℕ) → a ≤ b → c ≤ d → a + c ≤ b + d
      add a b c d p q = omega (arith, p, q)

  elsewhere : (u : ℕ) (y : TargetState) → FollowsOn r stored new bound u y y
  elsewhere u y = record { ticks = λ runs. inl (runs, low y.memory.ticks); lease = inl (low y.durable.lease); free = sum y.free (blocks_of_stored r.script u stored) (blocks_of_stored r.script u (new ++ stored)) (blocks-more r.script u new stored); parked = λ p i. inl i }
    where
      low : (n : ℕ) → n ≤ n
      low n = omega arith

      sum : (a b c : ℕ) → b ≤ c → a + b ≤ a + c
      sum a b c p = omega (arith, p)

  targets-follow : (u : ℕ) (y : TargetState) → slice_get v.targets u ≡ Some y → (x : TargetState) × (slice_get w.targets u ≡ Some x) × FollowsOn r stored new bound u x y
  targets-follow u y at = elim (at-or-there w.targets t s z k.here u y (sym (ap (λ ts. slice_get ts u) k.targets) ∙ at)) [
    | inl same ↦ (s, subst (λ n. slice_get w.targets n ≡ Some s) (sym same.0) k.here, subst (λ n. FollowsOn r stored new bound n s y) (sym same.0) (subst (FollowsOn r stored new bound t s) (sym same.1) at-it))
    | inr old ↦ (y, old.1, elsewhere u y)
  ]

  pub turn-keeps : Causes r o (new ++ stored) v
  turn-keeps = continues-keep r o stored new w v C (record {
    added = k.added;
    issued = k.issued;
    more = k.more;
    lines = k.lines;
    silent = k.silent;
    clients = k.clients;
    messages = k.messages;
    dates = λ x e i. up (k.dates x e i);
    told = λ u floor cont reason i. told-within u floor cont reason i.1 (has-from_contains k.more i.1 (i.0, i.2, i.3)) i.4;
    targets = targets-follow;
    floors = k.floors;
  })
