mod Colons
mod Escapes
mod Naming
mod Prefixing
