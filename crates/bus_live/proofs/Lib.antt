pub mod Coming
