pub mod Faults
pub mod Followed
pub mod NumberTexts
pub mod Reasons
pub mod ManySets
pub mod Timely
pub mod Walk
pub mod WordPlaces
