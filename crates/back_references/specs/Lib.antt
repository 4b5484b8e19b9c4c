pub mod References
pub mod Exchanges
pub mod Indexing
