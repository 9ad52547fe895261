pub mod Mailboxes
pub mod Rings
