-- What targets can hear at each moment of any run: targets may stop, snapshots are made and read, and containers aggregated.
pub mod Sent
pub mod Across
pub mod Hearable
pub mod Runs
pub mod Staying
pub mod Leases
