-- What `list` asks of this program: nothing.
pub mod Asks
