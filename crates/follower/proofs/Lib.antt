mod Folds
mod Hears
mod Ties
mod Requests
pub mod Written
mod Firsts
pub mod Quiets
