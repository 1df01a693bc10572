pub mod Cutting
pub mod Courses
pub mod Sessions
pub mod Rooms
pub mod Safety
pub mod Documents
pub mod Driving
