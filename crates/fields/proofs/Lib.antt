pub mod CutParts
pub mod Forms
pub mod Frames
pub mod ToldParts
