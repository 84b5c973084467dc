-- What the contracts of the project cite of pipelines. docs/DEFINITIONS.md has the heart of it.
pub mod Kind
pub mod Order
pub mod Formula
pub mod Elementary
pub mod Pointwise
pub mod Cross
pub mod CrossFacts
pub mod Term
pub mod Value
pub mod NodeValue
pub mod Table
pub mod Graph
pub mod Cones
pub mod Reaching
pub mod Lows
pub mod Text
