pub mod Lines
pub mod Header
pub mod Tokens
pub mod LineTokens
pub mod Number
pub mod Lexing
pub mod Grammars
