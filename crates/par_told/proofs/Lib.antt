pub mod Below
pub mod Shared
pub mod Told
pub mod Fillings
pub mod Asked
pub mod Numbers
