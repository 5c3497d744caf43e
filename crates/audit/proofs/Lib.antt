mod FirstLine
mod Refusals
mod Ahead
mod Tallying
mod Opened
mod Telling
mod InRow
mod Results
