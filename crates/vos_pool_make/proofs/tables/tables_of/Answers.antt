use Rattle.std.proofs.Common.{◌∙◌}
use Rattle.vos_pool_open.specs.vos_check_places.Fixed.{table_of}
use Rattle.vos_pool_make.proofs.Held.{is_table, same_table}
use Rattle.vos_pool_make.proofs.tables.tables_of.Goals as goal

pub of-requires : goal.of-requires
of-requires c = is_table c.args.target (table_of c.args.fixed) c.identity_in.result c.counters_in.result c.requires.held
    (record { layout = c.identity_in.ensures.layout; target_is = c.identity_in.ensures.target; targets = c.identity_in.ensures.targets; counters = c.counters_in.ensures.counters; incarnation = c.counters_in.ensures.incarnation; objects = c.counters_in.ensures.objects; entries = c.counters_in.ensures.entries })
    c.held_are_tables.ensures

pub returns : goal.returns
returns c = c.of.ensures ∙ same_table c.args.target (table_of c.args.fixed) c.identity_in.result c.counters_in.result c.requires.held
    (record { layout = c.identity_in.ensures.layout; target_is = c.identity_in.ensures.target; targets = c.identity_in.ensures.targets; counters = c.counters_in.ensures.counters; incarnation = c.counters_in.ensures.incarnation; objects = c.counters_in.ensures.objects; entries = c.counters_in.ensures.entries })
