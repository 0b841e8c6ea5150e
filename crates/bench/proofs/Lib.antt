pub mod OneByOne
pub mod Figures
pub mod EvenBags
pub mod BagFigures
pub mod Unique
