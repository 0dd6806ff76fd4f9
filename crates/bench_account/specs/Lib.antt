pub mod Answers
pub mod Listings
pub mod Accounts
pub mod Comparisons
pub mod Lanes
pub mod Remarks
pub mod Verdicts
pub mod Cuts
