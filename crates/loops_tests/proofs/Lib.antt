mod Alone
mod ReceiveEntries
