pub mod Live
pub mod ByPlace
pub mod Before
