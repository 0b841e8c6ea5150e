pub mod FixedDose
