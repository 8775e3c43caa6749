pub mod Choices
pub mod Numbers
pub mod Headers
pub mod Bodies
pub mod Spellings
pub mod Decodings
