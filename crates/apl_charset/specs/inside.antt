-- What the proofs need, and no public contract says.
pub mod Places
