pub mod Reads
pub mod Marks
pub mod Bodies
pub mod Sentence
