-- Of which attempts comes what is asked, collected and told of snapshots and aggregations.
pub mod Makings
pub mod Memories
pub mod Stages
pub mod Further
pub mod FurtherLaws
pub mod Cuts
pub mod Events
pub mod Laws
pub mod Ends
