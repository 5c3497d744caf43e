mod Lists
mod Opening
mod Promised
mod Once
mod OneHistory
