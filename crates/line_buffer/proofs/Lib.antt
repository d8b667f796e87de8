pub mod PieceLines
