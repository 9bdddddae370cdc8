pub mod Options
pub mod Taking
pub mod CommandLine
pub mod Help
pub mod Grammar
