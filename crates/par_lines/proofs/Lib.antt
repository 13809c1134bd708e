pub mod Taking
pub mod Given
