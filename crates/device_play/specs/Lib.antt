-- What is said of a play before a watcher.
pub mod Account
pub mod Watching
pub mod Cuts
pub mod Limit
pub mod PlayLaws
-- What the watchers of this crate say.
pub mod Accounts
pub mod TraceLine
-- How it goes on.
pub mod Midway
