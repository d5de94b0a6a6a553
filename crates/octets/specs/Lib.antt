pub mod Octets
pub mod Tests
