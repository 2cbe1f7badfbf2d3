-- The definitions of `phs`: `Listing` is the rule, told over whole files and histories; `Stream` says what each call on a part does;
-- `Cut` says that however a file is cut its listing comes out; `Inside` is no part of any promise.
pub mod Lines
pub mod Listing
pub mod Stream
pub mod Inside
pub mod Cut
