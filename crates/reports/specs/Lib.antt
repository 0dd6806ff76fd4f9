pub mod Effects
pub mod Told
pub mod Changes
pub mod Fold
pub mod Known
pub mod Tally
pub mod Laws
pub mod FoldLaws
