pub mod ByteOrder
pub mod Depths
pub mod MapLaws
pub mod Order
pub mod Places
pub mod Sides
