pub mod ServedSession
