pub mod Later
pub mod Courses
pub mod Connections
pub mod Broadcasts
pub mod Sessions
pub mod Stations
pub mod Messages
pub mod Runs
