pub mod SignedLimits
pub mod StoredOn
