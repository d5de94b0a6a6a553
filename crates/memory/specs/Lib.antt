pub mod Namespaces
pub mod Memory
pub mod Permits
