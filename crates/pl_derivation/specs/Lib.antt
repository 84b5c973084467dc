-- What the contracts cite: lines and their text; facts and what they rest on, right lines, walks; lean
-- lists; the laws.
pub mod Lines
pub mod Texts
pub mod Listed
pub mod Reading
pub mod Facts
pub mod Right
pub mod Walks
pub mod Lean
pub mod Laws
