pub mod Two
pub mod Laid
pub mod Single
pub mod Selectable
pub mod Rising
pub mod Taken
