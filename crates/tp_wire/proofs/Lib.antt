pub mod Numbers
pub mod RowsRead
pub mod RowsShown
pub mod WholeFrames
