-- Laws about answers as bytes.
pub mod PrintedLines
