mod Best
mod Ends
mod Level
mod Called
