pub mod Dues
pub mod Lanes
pub mod Steps
pub mod LinesTold
pub mod EventsTold
pub mod Stations
pub mod Replies
pub mod Ends
