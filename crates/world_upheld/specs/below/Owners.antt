-- What crates above name of versions and who wrote them, passed on to them.
pub use Rattle.world_owners.specs.Becoming.{Brings}
pub use Rattle.world_owners.specs.Events.{EventBrings}
pub use Rattle.world_owners.specs.Versions.{all-events-keep_versions}
