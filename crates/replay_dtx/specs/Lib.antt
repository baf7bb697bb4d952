-- What a target leaves that hears what other targets tell or ask it, or does its idle work.
pub mod Dtx
