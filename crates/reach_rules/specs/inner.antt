-- What only functions inside the crate are said to do: no public contract cites it.
pub mod Places
