pub mod Turning
pub mod Found
pub mod Writable
pub mod Beginning
