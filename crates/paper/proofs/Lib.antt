pub mod NamesOfA
pub mod Cases
pub mod StatusAlone
