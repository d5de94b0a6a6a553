pub mod Cases
pub mod Numbers
pub mod Histories
pub mod Requests
pub mod Calls
pub mod Retrieves
pub mod Agreement
