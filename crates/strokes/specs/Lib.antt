pub mod Strokes
