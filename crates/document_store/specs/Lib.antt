pub mod Shelves
pub mod Causes
pub mod Disks
pub mod Names
pub mod MemStores
