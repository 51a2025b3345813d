pub mod WorstCode
