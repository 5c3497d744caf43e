mod Behind
mod Folders
mod InOrder
mod Prefixing
