-- No look-ahead: when two commands agree up to a session, and the law.
pub mod Agreement
pub mod Laws
pub mod Derivations
