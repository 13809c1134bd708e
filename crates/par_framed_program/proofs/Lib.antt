mod Closed
mod Looked
