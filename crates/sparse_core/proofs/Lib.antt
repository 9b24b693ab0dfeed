mod Marks
mod ThinLines
pub mod Removals
pub mod RunsLeft
mod Tests
