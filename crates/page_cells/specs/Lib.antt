pub mod PageCells
