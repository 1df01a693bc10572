pub mod Again
pub mod Flags
pub mod Bodies
pub mod Sizes
pub mod Pieces
pub mod FrontElements
pub mod OneChange
