mod Answered
mod Telling
mod Bodies
mod ReadBytes
mod RunCalls
mod Tracking
mod Heads
mod Ending
mod Users
mod BodyRoom
mod Rooming
pub mod Safe
mod OneCut
mod SomeCut
mod CourseEnds
mod Joining
mod Wanting
mod Passing
