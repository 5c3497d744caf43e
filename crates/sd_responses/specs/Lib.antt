pub mod Writing
pub mod Yaml
