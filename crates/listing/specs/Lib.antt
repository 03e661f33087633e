pub mod ListingLines
pub mod Stepping
pub mod Listings
pub mod Asking
