pub mod Owing
pub mod Places
pub mod Settling
pub mod Tables
