pub mod WindowBits
pub mod StrokeWords
pub mod PlainStreams
pub mod Agreement
