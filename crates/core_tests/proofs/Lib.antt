pub mod EmptySound
