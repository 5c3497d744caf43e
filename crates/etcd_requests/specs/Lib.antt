pub mod Keys
pub mod Requests
pub mod Texts
pub mod Transactions
