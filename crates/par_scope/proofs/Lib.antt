pub mod Few
pub mod Forms
pub mod Others
pub mod Numbers
