pub mod Test
pub mod Examples
