-- Where a client is.
use Rattle.std.proofs.Common.{◌≡◌, ℕ, ◌+◌, ◌-◌, ◌^◌, ◌<◌, true, false, List, ◌∷◌, length, slice_get, drop, count_by, is_some, Option, None, Some, refl, sym, ◌∙◌, ap, arith, cond, zero-add, if◌then◌else◌}
use Rattle.std.proofs.lemmas.Option.{get_or_from_slice_get, slice_get_within}
use Rattle.std.proofs.lemmas.List.{drop_more}
use Rattle.std.proofs.lemmas.List.Sums.{sum_by-cons}
use Rattle.base_types.specs.declared.operation.Op.{Op}
use Rattle.base_types.specs.declared.script.Command.{Command}
use Rattle.base_types.specs.Scripts.{is_numbered}
use Rattle.world_base.specs.declared.client.ClientPlan.{ClientPlan}
use Rattle.world_base.specs.declared.client.ClientState.{ClientState}
use Rattle.world_base.specs.declared.client.Present.{Present}
use Rattle.world_base.specs.ClientTurns.{attempt_moves, command_at, command_moves, moved, moves_at, rests, waits}
use Rattle.client_moves.specs.Moves.{CommandFits, IsAt, IsInPlace, OpFits, OpsFit, PlanFits, has_number}
use Rattle.model_laws.specs.Lists.{all-at}

pub op_within : (targets : ℕ) (ops : List Op) (i : ℕ) (op : Op) → OpsFit targets ops → slice_get ops i ≡ Some op → i < 64
op_within targets ops i op fits is = omega (arith, fits.few, slice_get_within ops i op is)

pub op_fits : (targets : ℕ) (ops : List Op) (i : ℕ) (op : Op) → OpsFit targets ops → slice_get ops i ≡ Some op → OpFits targets op
op_fits targets ops i op fits is = all-at (OpFits targets) ops i op fits.objs is

pub command_fits : (p : ClientPlan) (c : ClientState) (d : Command) → PlanFits p → command_at p c ≡ Some d → CommandFits p.targets d
command_fits p c d fits is = all-at (CommandFits p.targets) p.commands c.place d fits.commands is

pub count_numbered : (d : Command) (ds : List Command) → is_numbered d ≡ true → count_by is_numbered (d ∷ ds) ≡ 1 + count_by is_numbered ds
count_numbered d ds numbered = sum_by-cons (λ x. cond (is_numbered x) 1 0) d ds ∙ ap (λ b. cond b 1 0 + count_by is_numbered ds) numbered

pub count_other : (d : Command) (ds : List Command) → is_numbered d ≡ false → count_by is_numbered (d ∷ ds) ≡ count_by is_numbered ds
count_other d ds other = sum_by-cons (λ x. cond (is_numbered x) 1 0) d ds ∙ ap (λ b. cond b 1 0 + count_by is_numbered ds) other ∙ zero-add (count_by is_numbered ds)

-- a command that has a number is one of those that are left
pub is_at : (p : ClientPlan) (c : ClientState) (d : Command) → IsInPlace p c → command_at p c ≡ Some d → c.place < 2 ^ 64 - 1 → is_numbered d ≡ true → IsAt p.commands c.place c.command d
is_at p c d place is before numbered =
    let lt : c.place < length p.commands = slice_get_within p.commands c.place d is in
    let first : drop c.place p.commands ≡ d ∷ drop (c.place + 1) p.commands =
    drop_more p.commands c.place d lt ∙ ap (λ x. x ∷ drop (c.place + 1) p.commands) (get_or_from_slice_get p.commands c.place d d is) in
    let counted : count_by is_numbered (drop c.place p.commands) ≡ 1 + count_by is_numbered (drop (c.place + 1) p.commands) =
    ap (count_by is_numbered) first ∙ count_numbered d (drop (c.place + 1) p.commands) numbered in
    record { at_place = is; before_end = before; few = omega (arith, place.few, counted) }

-- and so has that of an attempt
pub numbered_at : (p : ClientPlan) (c : ClientState) (d : Command) (a : Present) → IsInPlace p c → command_at p c ≡ Some d → c.present ≡ Some a → is_numbered d ≡ true
numbered_at p c d a place is present = sym (ap has_number is) ∙ place.numbered (ap is_some present)

moved_as : (p : ClientPlan) (c : ClientState) (o : Option Command) (q : Option Present) → waits c ≡ false → command_at p c ≡ o → c.present ≡ q → moved p c ≡ moves_at p c o q
unfolding moved
moved_as p c o q rests_not is present =
    ap (λ b. if b then rests c else moves_at p c (command_at p c) c.present) rests_not
    ∙ ap (λ x. moves_at p c x c.present) is
    ∙ ap (λ x. moves_at p c o x) present

pub moved_waits : (p : ClientPlan) (c : ClientState) → waits c ≡ true → rests c ≡ moved p c
unfolding moved
moved_waits p c numbered = sym (ap (λ b. if b then rests c else moves_at p c (command_at p c) c.present) numbered)

pub moved_done : (p : ClientPlan) (c : ClientState) → waits c ≡ false → command_at p c ≡ None → rests c ≡ moved p c
moved_done p c rests_not is = sym (moved_as p c None c.present rests_not is refl)

pub moved_begins : (p : ClientPlan) (c : ClientState) (d : Command) → waits c ≡ false → command_at p c ≡ Some d → c.present ≡ None → command_moves p c d ≡ moved p c
moved_begins p c d rests_not is present = sym (moved_as p c (Some d) None rests_not is present)

pub moved_on : (p : ClientPlan) (c : ClientState) (d : Command) (a : Present) → waits c ≡ false → command_at p c ≡ Some d → c.present ≡ Some a → attempt_moves p c a d ≡ moved p c
moved_on p c d a rests_not is present = sym (moved_as p c (Some d) (Some a) rests_not is present)
