pub mod Joined
pub mod DriveFields
pub mod SeenFields
pub mod Taken
