mod Halves
mod Sendable
