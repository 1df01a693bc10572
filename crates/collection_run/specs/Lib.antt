pub mod Processes
pub mod Urls
pub mod Opening
pub mod Asking
pub mod Collections
pub mod Progress
pub mod Proceeding
pub mod Serving
