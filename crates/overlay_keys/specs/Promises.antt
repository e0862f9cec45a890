pub mod Piece
pub mod Keys
