-- What an entry leaves that was accepted.
mod Running
