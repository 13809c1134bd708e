pub mod Causes
pub mod Saying
pub mod MemFolder
pub mod MemSink
pub mod HostFolder
pub mod HostSink
pub mod Opening
