pub mod Entries
pub mod Rising
pub mod Bound
pub mod First
pub mod Counted
pub mod Mapped
