pub mod Names
pub mod Configs
