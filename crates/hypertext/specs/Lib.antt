pub mod Escaping
pub mod Segments
