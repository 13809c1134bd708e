pub mod Reversed
pub mod Puts
pub mod Locals
pub mod Stores
pub mod Placed
pub mod Given
