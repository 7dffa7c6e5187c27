pub mod Refusals
pub mod Sentences
pub mod Orders
pub mod Decimals
pub mod Texts
pub mod Hours
