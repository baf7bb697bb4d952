-- Each command of a client that is alone is attempted once, and epochs rise with the lines.
use Rattle.std.specs.Prelude.{ℕ, ◌+◌, ◌≡◌, ◌<◌, Bool, true, false, List, [], ◌∷◌, ◌++◌, length, map, Some, refl, if◌then◌else◌}
use Rattle.std.specs.List.{range_with_len}
use Rattle.std.proofs.Common.{sym, ◌∙◌, ap, subst, inl, inr}
use Rattle.base_types.specs.declared.epoch.Epoch.{Epoch}
use Rattle.base_types.specs.declared.id.AttemptId.{AttemptId}
use Rattle.base_types.specs.declared.report.Attempt.{Attempt}
use Rattle.base_types.specs.declared.report.Report.{Report}
use Rattle.base_types.specs.declared.script.Command.{Command}
use Rattle.base_types.specs.declared.script.Script.{Script}
use Rattle.model_laws.specs.DecidedLaws.{has-all}
use Rattle.model_laws.specs.Lists.{filter-all}
use Rattle.model_laws.specs.Members.{Has, has-from_contains, has-from_filter, has-left, has-right}
use Rattle.model_laws.specs.TargetLaws.{same_number}
use Rattle.daos_model.specs.Attempts.{epoch_or_none, has_own_epoch, is_of_client, is_restart, own_epochs, tries, tries_of}
use Rattle.daos_model.specs.BoolLaws.{clash}
use Rattle.daos_model.specs.Headline.{Headline}
use Rattle.daos_model.specs.Opening.{Given, Outside, top}
use Rattle.daos_model.specs.Order.{AreAttempts, AreInTurn, client_commands}
use Rattle.model_reports.specs.Alone.{above-earlier, has-own, only-client}
use Rattle.model_reports.specs.Lone.{EachIsTriedOnce, HasOneClient, LoneClientsRise, LoneClientsTryOnce}
use Rattle.model_reports.specs.Restarts.{not-restarted}

-- ---- attempts in turn of which none is told to restart

abbrev ids : List Attempt → List AttemptId
ids xs = map (λ a. a.id) xs

-- of a command there is one
one-attempt : (limit client n : ℕ) (own later : List Attempt) → ((a : Attempt) → Has a own → is_restart a.outcome ≡ false) → AreAttempts limit client n 0 own → ids (own ++ later) ≡ record { client = client; command = n; attempt = 0 } ∷ ids later
one-attempt limit client n [] later none k = absurd k
one-attempt limit client n (a ∷ []) later none k = ap (λ x. x ∷ ids later) k.0
one-attempt limit client n (a ∷ b ∷ more) later none k = clash (is_restart a.outcome) k.1 (none a (inl refl))

-- and so of each
tried-once : (limit client n : ℕ) (cs : List Command) (xs : List Attempt) → ((a : Attempt) → Has a xs → is_restart a.outcome ≡ false) → AreInTurn limit client n cs xs
    → ids xs ≡ map (λ m. record { client = client; command = m; attempt = 0 }) (range_with_len n (length cs))
tried-once limit client n [] xs none k = ap ids k
tried-once limit client n (c ∷ cs) xs none k =
    ap ids k.2
    ∙ one-attempt limit client n k.0 k.1 (λ a i. none a (subst (Has a) (sym k.2) (has-left k.0 k.1 a i))) k.3
    ∙ ap (λ ys. record { client = client; command = n; attempt = 0 } ∷ ys) (tried-once limit client (n + 1) cs k.1 (λ a i. none a (subst (Has a) (sym k.2) (has-right k.0 k.1 a i))) k.4)

-- an epoch of an attempt that reads at no snapshot is among those
epoch-among : (s : Script) (xs : List Attempt) (a : Attempt) (e : Epoch) → ((b : Attempt) → has_own_epoch s b ≡ true) → Has a xs → a.epoch ≡ Some e → Has e.0 (own_epochs s xs)
unfolding own_epochs
epoch-among s [] a e own i at = absurd i
epoch-among s (b ∷ xs) a e own (inl same) at = has-left (if has_own_epoch s b then epoch_or_none b.epoch else []) (own_epochs s xs) e.0 (by (has_own_epoch s b) (own b))
  where
    by : (t : Bool) → t ≡ true → Has e.0 (if t then epoch_or_none b.epoch else [])
    by true is = subst (λ o. Has e.0 (epoch_or_none o)) (sym at ∙ ap (λ c. c.epoch) same) (inl refl)
    by false is = let no : ⊥ = cc in absurd no
epoch-among s (b ∷ xs) a e own (inr i) at = has-right (if has_own_epoch s b then epoch_or_none b.epoch else []) (own_epochs s xs) e.0 (epoch-among s xs a e own i at)

-- ---- of the only client, where no attempt is told to restart

pub each-once : (g : Given) (o : Outside) (resolved : AttemptId → Bool) (q : Report) → HasOneClient g.script → Headline g o resolved q → ((a : Attempt) → Has a (tries q.lines) → is_restart a.outcome ≡ false) → EachIsTriedOnce g.script q
each-once g o resolved q one h none =
    sym (ap ids (filter-all (is_of_client 0) (tries q.lines) (λ a i. subst (λ c. is_of_client c a ≡ true) (only-client g o resolved q one h a i) (same_number a.id.client))))
    ∙ tried-once g.job.attempts 0 0 (client_commands g.script 0) (tries_of 0 q.lines) (λ a i. none a (has-from_filter (is_of_client 0) (tries q.lines) a i).0) (h.outcomes.in_turn 0)

-- ---- of a client that is alone

pub try-once : LoneClientsTryOnce
try-once g o resolved q L h = each-once g o resolved q L.one h (not-restarted g o resolved q L h)

pub rise : LoneClientsRise
rise g o resolved q L h = (
  λ before a after among b e f i its own. (above-earlier g o resolved q L h before after a b f among (has-from_contains (tries before) b i) own).own e its,
  λ a e i at. has-all (λ n. top g.opening < n) (own_epochs g.script (tries q.lines)) e.0 h.outcomes.issued.above
      (epoch-among g.script (tries q.lines) a e (has-own g o resolved q L h) (has-from_contains (tries q.lines) a i) at),
)
