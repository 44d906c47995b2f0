mod Cutting
mod Joining
