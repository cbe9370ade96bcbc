pub mod Laws
pub mod Setting
pub mod Time
