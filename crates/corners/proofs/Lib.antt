-- Worked cases of files and of the office program, whose computation takes longer than all other proofs of `model` together.
pub mod CornersOfFiles
pub mod CornersOfGate
pub mod CornersOfWriting
