pub mod Numbers
pub mod SimpleCommand
pub mod CommandLines
