pub mod Splits
pub mod Signs
pub mod Spellings
pub mod Lengths
pub mod Oneness
