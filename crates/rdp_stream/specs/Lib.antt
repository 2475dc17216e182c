pub mod Portions
pub mod Records
pub mod Steps
pub mod Arrivals
pub mod Arrived
