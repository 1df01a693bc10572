pub mod AnyLive
