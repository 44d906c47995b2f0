mod Digits
mod Spelled
mod Joined
mod Appends
