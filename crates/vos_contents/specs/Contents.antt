-- What the contents of a store stand for.
use Rattle.daos_model.specs.declared.durable.Durable.{Durable}
use Rattle.vos_contents.specs.declared.contents.Contents.{Contents}

abbrev pub contents_of : Contents → Durable
contents_of c = record { versions = c.rows.items; entries = c.entries.items; conts = c.conts.items; snaps = c.snaps.items; lease = c.lease; incarnation = c.incarnation }
