-- Words of tokens.
pub mod Bytes
pub mod Tokens
pub mod Front
pub mod Text
pub mod TokenLaws
pub mod Code
pub mod Numerals
pub mod Sound
pub mod Reading
-- Words of scripts.
pub mod Rows
pub mod Plain
pub mod Frames
pub mod Statements
pub mod Open
pub mod Stages
pub mod Spells
pub mod Scripts
pub mod Parsing
pub mod Canonical
pub mod Laws
pub mod Said
