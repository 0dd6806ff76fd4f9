pub mod Coming
pub mod Seeing
pub mod Rulings
pub mod Tables
pub mod Days
