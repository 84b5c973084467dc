-- What the contracts cite: the keys of facts and what is found by them, what is given where facts are stated,
-- lines judged by it, and walks.
pub mod Keys
pub mod Looking
pub mod Given
pub mod Judging
pub mod Reading
pub mod Walking
