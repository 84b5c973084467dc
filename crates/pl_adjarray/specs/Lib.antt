-- What the contracts of this crate cite beside the definitions of pl_spec.
pub mod Buffered
pub mod Inside
pub mod Stillness
pub mod Traversals
pub mod Worlds
